-- What comes of the plan of the mode `record`.
use Rattle.std.proofs.Common.{◌≡◌, ℕ, ◌≤◌, inl, List, [], ◌∷◌, length, refl, sym, ap, subst, ◌∙◌, arith, Bool, true, false, nat_le, IfSome, Option, Some, None, option_and_then, Err, length-append}
use Rattle.std.proofs.lemmas.Bool.Decides.{nat_tests}
use Rattle.module_ast.specs.Validation.Limits.{longest_file}
use Rattle.outside_io.specs.Outside.{Wrote, OnlyWrote}
use Rattle.wasm_sem.specs.Types.{Module, Event}
use Rattle.wasm_sem.specs.declared.Script.{Script}
use Rattle.wasm_sem.specs.Execution.{Links}
use Rattle.static_info.specs.declared.Info.{Info}
use Rattle.trace_file.specs.Files.{trace_bytes, events_bytes, ending, IsWithinBound, writing_of}
use Rattle.trace_file.specs.Rows.{event_bytes}
use Rattle.analyses.specs.Tools.{ToolState}
use Rattle.app_load.specs.declared.status.Status.{Status}
use Rattle.app_load.specs.Outcomes.{IsRefusal, Yields, refusal_status, refusal_text}
use Rattle.app_load.specs.Plans.{long_trace, Ending, refuses, does, Plan, ends, refusing}
use Rattle.outside_io.specs.Outside.{ShelfState}
use Rattle.app_load.specs.Texts.{long_trace_text}
use Rattle.app_load.specs.Writing.{PutCause}
use Rattle.app_load.specs.Ends.{unwritten}
use Rattle.app_load.specs.declared.printing.Refusal.{Refusal}
use Rattle.app_load.proofs.Contents.{unchanged_same, none_read}
use Rattle.app_load.proofs.Going.{was_refused}
use Rattle.app_load.proofs.Shelves.{fed_none}
use Rattle.app_load.proofs.Within.{Within, FeedsNone, MakesNone}
use Rattle.app_runs.specs.Recording.{recorded_bytes, HasNoTrace}
use Rattle.app_runs.specs.Reporting.{events_told}
use Rattle.app_runs.specs.RunTexts.{run_status, run_text}
use Rattle.wasabi_app.specs.Modes.Record.{record_effect, kept_within, recorded_plan, record_plan, record_mode}
use Rattle.wasabi_app.specs.Playing.{ending_of}
use Rattle.wasabi_app.specs.ToldRuns.{with_both}
use Rattle.wasabi_app.specs.Words.{Given}
use Rattle.wasabi_app.proofs.Hooking.{IsAnswered, test_of}
use Rattle.wasabi_app.proofs.ToldRuns.{both_within}
use Rattle.wasabi_app.proofs.Linked.{Plain, feeds_plain, makes_plain, played_links, played_within, finish_statuses}

-- ---- whether there is a trace

-- a trace is longer than its events are many
pub events_longer : (es : List Event) → length es ≤ length (events_bytes es)
events_longer [] = omega arith
events_longer (e ∷ es) = omega (arith, events_longer es, length-append (event_bytes e) (events_bytes es))

short_within : (most : ℕ) (es : List Event) → most ≤ longest_file → length (trace_bytes es) ≤ most → IsWithinBound (writing_of most es)
short_within most es bound short =
    let all = length-append (events_bytes es) (ending (length es)) in
    (omega (arith, bound, short, all, events_longer es), short)

tested_long : (most : ℕ) (es : List Event) → most ≤ longest_file → HasNoTrace most es → nat_le (length (trace_bytes es)) most ≡ false
tested_long most es bound none = by (nat_le (length (trace_bytes es)) most) refl
  where
    by : (b : Bool) → nat_le (length (trace_bytes es)) most ≡ b → b ≡ false
    by true e = absurd (none (short_within most es bound (grind (arith, nat_tests, e))))
    by false e = refl

-- ---- what comes of a run

module _ (target : List ℕ) (bound : ℕ) (m : Module) (info : Info) (s : Script) (links : Links m s) where
  -- its trace is written
  pub recorded_leads : length (recorded_bytes info m s) ≤ bound → recorded_plan target bound m info s ≡ ends (does (record_effect target m info s))
  recorded_leads short =
      let written = ends (does (record_effect target m info s)) in
      played_links m s (kept_within (nat_le (length (recorded_bytes info m s)) bound) bound written) links
      ∙ ap (λ b. kept_within b bound written) (test_of (length (recorded_bytes info m s)) bound short)

  -- or is too long
  long_leads : bound ≤ longest_file → HasNoTrace bound (events_told info m s s.steps) → recorded_plan target bound m info s ≡ refusing long_trace (long_trace_text bound)
  long_leads most none =
      let written = ends (does (record_effect target m info s)) in
      played_links m s (kept_within (nat_le (length (recorded_bytes info m s)) bound) bound written) links
      ∙ ap (λ b. kept_within b bound written) (tested_long bound (events_told info m s s.steps) most none)

  pub was_long : (at : ShelfState) (tools : List ToolState) (refusal : Refusal) → bound ≤ longest_file → HasNoTrace bound (events_told info m s s.steps)
      → IsRefusal 18 (long_trace_text bound) refusal → Yields (Some (recorded_plan target bound m info s)) at at tools tools (Err refusal)
  was_long at tools refusal most none is =
      was_refused (recorded_plan target bound m info s) long_trace (long_trace_text bound) at tools refusal
      (long_leads most none) is

  module _ (trace : List ℕ) (is : trace ≡ recorded_bytes info m s) (short : length trace ≤ bound) where
    leads : recorded_plan target bound m info s ≡ ends (does (record_effect target m info s))
    leads = recorded_leads (subst (λ (bytes : List ℕ). length bytes ≤ bound) is short)

    pub was_recorded : (old new : ShelfState) (tools : List ToolState) (status : Status) (text : List ℕ) → Wrote target trace old.contents new.contents
        → OnlyWrote 1 old new → status ≡ run_status (ending_of m s) → text ≡ run_text s.calls (ending_of m s)
        → IsAnswered (Some (recorded_plan target bound m info s)) old new tools status text
    was_recorded old new tools told_status told wrote once status text =
        subst (λ p. IsAnswered (Some p) old new tools told_status told) (sym leads) (
          record_effect target m info s,
          record {
            leads = refl;
            files = (new.contents, subst (λ bytes. Wrote target bytes old.contents new.contents) is wrote, unchanged_same new.contents);
            mid = old;
            read = none_read old;
            wrote = once;
            taken = sym (fed_none [] tools);
          },
          status ∙ sym (finish_statuses (ending_of m s)),
          text,
        )

    -- it can't be written
    pub was_unwritten : (old new : ShelfState) (tools : List ToolState) (refusal : Refusal)
        → OnlyWrote 1 old new → PutCause target trace old new (refusal_status refusal) (refusal_text refusal)
        → Yields (Some (recorded_plan target bound m info s)) old new tools tools (Err refusal)
    was_unwritten old new tools refusal once why =
        subst (λ p. Yields (Some p) old new tools tools (Err refusal)) (sym leads)
        (unwritten (record_effect target m info s) (refusal_status refusal) (refusal_text refusal) refl old (none_read old)
        (inl (once, subst (λ bytes. PutCause target bytes old new (refusal_status refusal) (refusal_text refusal)) is why)) (sym (fed_none [] tools)))

-- ---- what holds of its endings

kept_holds : (P : Ending → Type 0) (is_within : Bool) (bound : ℕ) (plan : Plan) → ((text : List ℕ) → P (refuses long_trace text)) → Within P plan
    → Within P (kept_within is_within bound plan)
kept_holds P true bound plan refused within = within
kept_holds P false bound plan refused within = refused (long_trace_text bound)

record_within : (P : Ending → Type 0) → Plain P → ((text : List ℕ) → P (refuses long_trace text))
    → ((target : List ℕ) (m : Module) (info : Info) (s : Script) → P (does (record_effect target m info s))) → (g : Given)
    → IfSome (record_mode.plan g) (Within P)
record_within P plain long made g = by g.target
  where
    by : (target : Option (List ℕ))
        → IfSome (option_and_then (λ t. with_both (λ info script. record_plan g.subject t info script g.bound) g.info g.script) target) (Within P)
    by None = tt
    by (Some target) =
        both_within P (λ info script. record_plan g.subject target info script g.bound) g.info g.script
        (λ _ _ m info s. played_within P m s _ plain
        (kept_holds P (nat_le (length (recorded_bytes info m s)) g.bound) g.bound (ends (does (record_effect target m info s))) long (made target m info s)))

pub record_feeds_none : (g : Given) → IfSome (record_mode.plan g) (Within FeedsNone)
record_feeds_none g = record_within FeedsNone feeds_plain (λ text. tt) (λ target m info s. refl) g

pub record_makes_none : (g : Given) → IfSome (record_mode.plan g) (Within MakesNone)
record_makes_none g = record_within MakesNone makes_plain (λ text e. cc) (λ target m info s. tt) g
