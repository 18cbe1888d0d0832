-- Why the analyses, a writer of traces, a tree of calls and a shadow are listeners of a run.
use Rattle.std.specs.Prelude.{alloc_error}
use Rattle.std.specs.declared.alloc.AllocError.{AllocError}
use Rattle.std.proofs.Common.{◌≡◌, ℕ, ◌+◌, ◌<◌, ◌^◌, List, [], ◌++◌, length, All, is_some, is_none, refl, sym, ap, ap₂, subst, ◌∙◌, arith, add-zero, length-append}
use Rattle.wasm_sem.specs.Types.{Event}
use Rattle.wasm_sem.specs.Execution.{TraceItem, events_in}
use Rattle.hook_select.specs.Events.{group_of}
use Rattle.trace_file.specs.declared.put.TraceFault.{TraceFault}
use Rattle.trace_file.specs.declared.put.TraceFault.TheVariants as writer_faults
use Rattle.trace_file.specs.Files.{Writing}
use Rattle.trace_file.proofs.Written.{both_written, much_early, much_late, none_large}
use Rattle.call_tree.specs.declared.tree.TreeFault.{TreeFault}
use Rattle.call_tree.specs.declared.tree.TreeFault.TheVariants as tree_faults
use Rattle.call_tree.specs.State.{TreeState}
use Rattle.call_tree.proofs.Unnested.{unnested_early}
use Rattle.wasm_sem.proofs.Chosen.{events_append}
use Rattle.call_tree.proofs.Behind.{events_more, both_behind, number_behind, unnested_late, none_both}
use Rattle.shadow_replay.specs.Items.{AreFitFor, TakesAll, TakesFirst}
use Rattle.shadow_replay.specs.Replayed.{Replay}
use Rattle.shadow_replay.proofs.Taken.{takes_none, takes_then, fit_front, fit_rest, first_none, first_more, first_then}
use Rattle.analyses.specs.Tools.{ToolState}
use Rattle.app_load.specs.declared.kinds.Kinds.{Kinds}
use Rattle.app_load.specs.Feeding.{fed, AreFedPart}
use Rattle.app_load.proofs.Fed.{none_fed, none_part, all_then, parts_early, parts_late, rooms_front, rooms_rest, fewer, passed_then}
use Rattle.app_runs.specs.declared.feeding.Tally.{Tally}
use Rattle.app_runs.specs.Feeding.{tally_of, tallied, FedState, TakesEvents, ToolsHaveRoom, StandsFed}
use Rattle.app_runs.specs.Listening.{Listens}
use Rattle.app_runs.specs.Recording.{WritesEvents, MayWrite, StandsWritten}
use Rattle.app_runs.specs.Treeing.{TreeGrows, MayGrow, StandsGrown}

-- ---- listeners that hear events alone

-- what listens to events also listens to items, and takes the events among the items
pub by_events : (S F : Type 0) (hears : List Event → S → S → Type 0) (ready : List Event → S → Type 0) (stands : List Event → S → F → S → Type 0) (wants : F → Type 0)
    → Listens Event S F hears ready stands wants
    → Listens TraceItem S F (λ is. hears (events_in is)) (λ is. ready (events_in is)) (λ is. stands (events_in is)) wants
by_events S F hears ready stands wants l = record {
  none = l.none;
  both = λ xs ys a b c t u. subst (λ es. hears es a c) (sym (events_append xs ys)) (l.both (events_in xs) (events_in ys) a b c t u);
  front = λ xs ys a r. l.front (events_in xs) (events_in ys) a (subst (λ es. ready es a) (events_append xs ys) r);
  rest = λ xs ys a b r t. l.rest (events_in xs) (events_in ys) a b (subst (λ es. ready es a) (events_append xs ys) r) t;
  wanting = λ is. l.wanting (events_in is);
  early = λ xs ys a b f s. subst (λ es. stands es a f b) (sym (events_append xs ys)) (l.early (events_in xs) (events_in ys) a b f s);
  late = λ xs ys a b c f t s. subst (λ es. stands es a f c) (sym (events_append xs ys)) (l.late (events_in xs) (events_in ys) a b c f t s);
}

-- if only events bring a listener from one state to another, items without events change nothing
pub by_no_events : (S : Type 0) (hears : List Event → S → S → Type 0) → ((a : S) → hears [] a a) → (is : List TraceItem) (a : S) → events_in is ≡ [] → hears (events_in is) a a
by_no_events S hears none is a silent = subst (λ es. hears es a a) (sym silent) (none a)

-- ---- analyses

abbrev tally : (events strays : ℕ) → Tally
tally events strays = record { events = events; strays = strays }

none_tallied : (t : Tally) → t ≡ tallied [] t
none_tallied t = ap₂ tally (sym (add-zero t.events)) (sym (add-zero t.strays))

tallied_then : (es fs : List Event) (t : Tally) → tallied (es ++ fs) t ≡ tallied fs (tallied es t)
tallied_then es fs t =
    let events : t.events + (tally_of (es ++ fs)).events ≡ (t.events + (tally_of es).events) + (tally_of fs).events = omega (arith, passed_then (λ e. is_some (group_of e)) es fs) in
    let strays : t.strays + (tally_of (es ++ fs)).strays ≡ (t.strays + (tally_of es).strays) + (tally_of fs).strays = omega (arith, passed_then (λ e. is_none (group_of e)) es fs) in
    ap₂ tally events strays

both_taken : (es fs : List Event) (a b c : FedState) → TakesEvents es a b → TakesEvents fs b c → TakesEvents (es ++ fs) a c
both_taken es fs a b c t u = record {
  pick = u.pick ∙ t.pick;
  taken = u.taken ∙ ap (λ (k : Kinds). fed k fs b.tools) t.pick ∙ ap (fed a.pick fs) t.taken ∙ sym (all_then a.pick es fs a.tools);
  counted = u.counted ∙ ap (tallied fs) t.counted ∙ sym (tallied_then es fs a.tally);
}

room_front : (es fs : List Event) (a : FedState) → ToolsHaveRoom (es ++ fs) a → ToolsHaveRoom es a
room_front es fs a r = record {
  tools = rooms_front (2 ^ 64) es fs a.tools r.tools;
  events = omega (arith, length-append es fs, r.events);
  strays = omega (arith, length-append es fs, r.strays);
}

room_rest : (es fs : List Event) (a b : FedState) → ToolsHaveRoom (es ++ fs) a → TakesEvents es a b → ToolsHaveRoom fs b
room_rest es fs a b r t =
    let events = ap (λ (u : Tally). u.events) t.counted in
    let strays = ap (λ (u : Tally). u.strays) t.counted in
    record {
      tools = subst (All (λ (t : ToolState). t.event_count + length fs < 2 ^ 64)) (sym t.taken) (rooms_rest (2 ^ 64) a.pick es fs a.tools r.tools);
      events = omega (arith, length-append es fs, events, r.events, fewer (λ e. is_some (group_of e)) es);
      strays = omega (arith, length-append es fs, strays, r.strays, fewer (λ e. is_none (group_of e)) es);
    }

stands_late : (es fs : List Event) (a b c : FedState) → TakesEvents es a b → AreFedPart b.pick fs b.tools c.tools → AreFedPart a.pick (es ++ fs) a.tools c.tools
stands_late es fs a b c t part =
    parts_late a.pick es fs a.tools c.tools
    (subst (λ ts. AreFedPart a.pick fs ts c.tools) t.taken (subst (λ (k : Kinds). AreFedPart k fs b.tools c.tools) t.pick part))

pub tools_listen : Listens TraceItem FedState AllocError (λ is. TakesEvents (events_in is)) (λ is. ToolsHaveRoom (events_in is)) (λ is. StandsFed (events_in is)) (λ f. f ≡ alloc_error)
tools_listen =
    by_events FedState AllocError TakesEvents ToolsHaveRoom StandsFed (λ f. f ≡ alloc_error)
    (record {
      none = λ a. record { pick = refl; taken = none_fed a.pick a.tools; counted = none_tallied a.tally };
      both = both_taken;
      front = room_front;
      rest = room_rest;
      wanting = λ es a f want. none_part a.pick es a.tools;
      early = λ es fs a b f part. parts_early a.pick es fs a.tools b.tools part;
      late = λ es fs a b c f heard part. stands_late es fs a b c heard part;
    })

-- ---- a writer of traces

pub writer_listens : Listens TraceItem Writing TraceFault (λ is. WritesEvents (events_in is)) (λ is. MayWrite (events_in is)) (λ is. StandsWritten (events_in is))
    (λ f. f ≡ writer_faults.NoMemory)
writer_listens =
    by_events Writing TraceFault WritesEvents MayWrite StandsWritten (λ f. f ≡ writer_faults.NoMemory)
    (record {
      none = λ a. refl;
      both = both_written;
      front = λ es fs a r. tt;
      rest = λ es fs a b r t. tt;
      wanting = λ es a f want large. absurd (none_large f want large);
      early = λ es fs a b f much large. much_early es fs a (much large);
      late = λ es fs a b c f heard much large. much_late es fs a b heard (much large);
    })

-- ---- a tree of calls

pub tree_listens : Listens TraceItem TreeState TreeFault TreeGrows MayGrow StandsGrown (λ f. f ≡ tree_faults.NoMemory)
tree_listens = record {
  none = λ a. refl;
  both = both_behind;
  front = λ xs ys a few. omega (arith, few, events_more xs ys);
  rest = λ xs ys a b few t. omega (arith, few, number_behind xs a b t, events_more xs ys);
  wanting = λ is a f want p e. absurd (none_both f p want e);
  early = λ xs ys a b f h p e. unnested_early a.brackets xs ys p (h p e);
  late = λ xs ys a b c f heard h p e. unnested_late xs ys a b p heard (h p e);
}

-- ---- a shadow

pub shadow_listens : Listens TraceItem Replay AllocError TakesAll (λ is r. AreFitFor r is) (λ is a f b. TakesFirst is a b) (λ f. f ≡ alloc_error)
shadow_listens = record {
  none = takes_none;
  both = takes_then;
  front = fit_front;
  rest = fit_rest;
  wanting = λ is a f want. first_none is a a refl;
  early = λ xs ys a b f t. first_more xs ys a b t;
  late = λ xs ys a b c f t u. first_then xs ys a b c t u;
}
