-- A trace whose events the analyses take as they are read.
use Rattle.app_load.proofs.Going.{made_here}
use Rattle.std.proofs.Common.{◌≡◌, ℕ, ◌^◌, ◌≤◌, inr, List, [], ◌∷◌, ◌++◌, length, All, Some, Result, Err, refl, sym, ap, subst, ◌∙◌, arith, append-nil, length-append}
use Rattle.module_ast.specs.Validation.Limits.{longest_file}
use Rattle.outside_io.specs.Outside.{ShelfState}
use Rattle.wasm_sem.specs.Types.{Event}
use Rattle.trace_file.specs.Files.{events_bytes, IsTrace, TraceReading, HasRead}
use Rattle.trace_file.proofs.Whole.{one_list, first_of}
use Rattle.analyses.specs.Tools.{ToolState}
use Rattle.app_load.specs.declared.kinds.Kinds.{Kinds}
use Rattle.app_load.specs.declared.printing.Printed.{Printed}
use Rattle.app_load.specs.declared.printing.Refusal.{Refusal}
use Rattle.app_load.specs.declared.printing.Refusal.TheVariants.{NoMemory}
use Rattle.app_load.specs.Ends.{memory_ended, IsCarriedOut}
use Rattle.app_load.specs.declared.status.Status.{Status}
use Rattle.app_load.specs.declared.status.Status.TheVariants.{Done}
use Rattle.app_load.specs.Plans.{finish_status, Effect}
use Rattle.app_load.specs.Feeding.{fed, AreFedPart, fresh_tools}
use Rattle.app_load.specs.Outcomes.{Yields}
use Rattle.outside_io.specs.Outside.{ShelfState}
use Rattle.app_load.proofs.Contents.{none_read}
use Rattle.app_runs.specs.declared.feeding.Tally.{Tally}
use Rattle.app_runs.specs.Feeding.{tally_of, tallied}
use Rattle.app_runs.specs.Reporting.{tools_text, reports_text}
use Rattle.wasabi_app.specs.Modes.Replay.{replay_effect, replayed_plan}
use Rattle.app_load.proofs.Fed.{none_part, all_part, all_then, parts_then}
use Rattle.app_runs.proofs.Fed.{tally_then}
use Rattle.app_runs.proofs.FedReports.{fed_few, fed_reports, tally_few}
use Rattle.wasabi_app.proofs.Modes.Record.{events_longer}

-- what was read so far was taken
pub record HasReplayed (bytes : List ℕ) (pick : Kinds) (first : List ToolState) (r : TraceReading) (now : List ToolState) (tally : Tally) : Type 0 where
  pub whole : r.bytes ≡ bytes
  pub events : List Event
  pub read : HasRead events r
  pub taken : now ≡ fed pick events first
  pub counted : tally ≡ tally_of events

-- events are no more than the bytes that they were read of
read_few : (es : List Event) (r : TraceReading) → HasRead es r → length es ≤ length r.bytes
read_few es r h =
    let all = length-append (events_bytes es) r.left in
    omega (arith, ap length h.spelled, all, events_longer es)

module _ {bytes : List ℕ} {pick : Kinds} {first : List ToolState} {r : TraceReading} {now : List ToolState} {tally : Tally}
    (is : HasReplayed bytes pick first r now tally) where
  few : length bytes ≤ longest_file → length is.events ≤ 2 ^ 63
  few short = omega (arith, read_few is.events r is.read, ap length is.whole, short)

  -- so there is room for one more
  pub tools_room : length bytes ≤ longest_file → first ≡ fresh_tools → All (λ (t : ToolState). t.event_count ≤ 2 ^ 63) now
  tools_room short fresh =
      subst (All (λ (t : ToolState). t.event_count ≤ 2 ^ 63)) (sym (is.taken ∙ ap (fed pick is.events) fresh))
      (fed_few pick is.events (2 ^ 63) (few short))

  pub tally_room : length bytes ≤ longest_file → (tally.events ≤ 2 ^ 63) × (tally.strays ≤ 2 ^ 63)
  tally_room short =
      let counts = tally_few is.events in (
        omega (arith, few short, counts.0, ap (λ (t : Tally). t.events) is.counted),
        omega (arith, few short, counts.1, ap (λ (t : Tally). t.strays) is.counted),
      )

  -- the next event
  pub one_replayed : (e : Event) (new : TraceReading) (after : List ToolState) (counted : Tally) → new.bytes ≡ r.bytes
      → ((es : List Event) → HasRead es r → HasRead (es ++ e ∷ []) new) → after ≡ fed pick (e ∷ []) now → counted ≡ tallied (e ∷ []) tally
      → HasReplayed bytes pick first new after counted
  one_replayed e new after counted same next took more = record {
    whole = same ∙ is.whole;
    events = is.events ++ e ∷ [];
    read = next is.events is.read;
    taken = took ∙ ap (fed pick (e ∷ [])) is.taken ∙ sym (all_then pick is.events (e ∷ []) first);
    counted = more ∙ ap (tallied (e ∷ [])) is.counted ∙ sym (tally_then is.events (e ∷ []));
  }

  -- some were read
  pub some_replayed : (es : List Event) → IsTrace bytes es → AreFedPart pick es first now
  some_replayed es t =
      let (rest, joined) = first_of r is.events es is.read (subst (λ b. IsTrace b es) (sym is.whole) t) in
      subst (λ xs. AreFedPart pick xs first now) (ap (λ xs. xs ++ rest) (append-nil is.events) ∙ sym joined)
      (subst (AreFedPart pick (is.events ++ [] ++ rest) first) (sym is.taken)
      (parts_then pick is.events [] rest first (fed pick is.events first) (none_part pick [] (fed pick is.events first))))

  -- and some analyses have taken the next
  pub part_replayed : (e : Event) (new : TraceReading) (after : List ToolState) → new.bytes ≡ r.bytes
      → ((es : List Event) → HasRead es r → HasRead (es ++ e ∷ []) new) → AreFedPart pick (e ∷ []) now after
      → (es : List Event) → IsTrace bytes es → AreFedPart pick es first after
  part_replayed e new after same next part es t =
      let (rest, joined) = first_of new (is.events ++ e ∷ []) es (next is.events is.read) (subst (λ b. IsTrace b es) (sym (same ∙ is.whole)) t) in
      subst (λ xs. AreFedPart pick xs first after) (sym joined)
      (parts_then pick is.events (e ∷ []) rest first after (subst (λ ts. AreFedPart pick (e ∷ []) ts after) is.taken part))

-- ---- what comes of the plan

module _ (kinds : Kinds) (es : List Event) (at : ShelfState) (first now : List ToolState) where
  pub replay_no_memory : (refusal : Refusal) → refusal ≡ NoMemory → AreFedPart kinds es first now
      → Yields (Some (replayed_plan kinds es)) at at first now (Err refusal)
  replay_no_memory refusal none part =
      subst (λ r. Yields (Some (replayed_plan kinds es)) at at first now (Err r)) (sym none)
      (memory_ended 0 tt (none_read at) (inr (replay_effect kinds es, refl, part)))

  -- where a text could not be made of what all events tell
  pub untold_replay : (refusal : Refusal) → refusal ≡ NoMemory → now ≡ fed kinds es first
      → Yields (Some (replayed_plan kinds es)) at at first now (Err refusal)
  untold_replay refusal none taken =
      replay_no_memory refusal none (subst (AreFedPart kinds es first) (sym taken) (all_part kinds es first))

-- bytes are the trace of one list
pub replayed_as : (bytes : List ℕ) (es fs : List Event) (at : ShelfState) (kinds : Kinds) (first now : List ToolState) (result : Result Printed Refusal)
    → IsTrace bytes es → IsTrace bytes fs → Yields (Some (replayed_plan kinds es)) at at first now result
    → Yields (Some (replayed_plan kinds fs)) at at first now result
replayed_as bytes es fs at kinds first now result t u y =
    subst (λ xs. Yields (Some (replayed_plan kinds xs)) at at first now result) (one_list bytes es fs t u) y

-- what its events tell
pub was_replayed : (bytes : List ℕ) (es fs : List Event) (at : ShelfState) (kinds : Kinds) (first now : List ToolState) (tally : Tally)
    (status : Status) (text : List ℕ) → IsTrace bytes es → IsTrace bytes fs → first ≡ fresh_tools → now ≡ fed kinds es first → tally ≡ tally_of es
    → status ≡ Done → text ≡ tools_text kinds now tally
    → (e : Effect) × IsCarriedOut (Some (replayed_plan kinds fs)) at at first now e × (status ≡ finish_status e.finish) × (text ≡ e.text)
was_replayed bytes es fs at kinds first now tally status text t u fresh taken counted zero is =
    let same : es ≡ fs = one_list bytes es fs t u in
    let told : text ≡ reports_text kinds es =
    is ∙ ap (λ ts. tools_text kinds ts tally) (taken ∙ ap (fed kinds es) fresh) ∙ ap (tools_text kinds (fed kinds es fresh_tools)) counted
    ∙ fed_reports kinds es in (
      replay_effect kinds fs,
      made_here (replay_effect kinds fs) at first now refl (taken ∙ ap (λ xs. fed kinds xs first) same),
      zero,
      told ∙ ap (reports_text kinds) same,
    )
