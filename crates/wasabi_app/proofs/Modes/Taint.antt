-- What comes of the plan of the mode `taint`.
use Rattle.std.proofs.Common.{◌≡◌, ◌∙◌, ℕ, ◌≤◌, ◌++◌, List, sym, ap, ap₂, subst, IfOk, IfSome, Option, Some, None, Result, Ok, Err}
use Rattle.outside_io.specs.Outside.{OnlyRead}
use Rattle.wasm_sem.specs.Types.{Module}
use Rattle.wasm_sem.specs.declared.Script.{Script}
use Rattle.wasm_sem.specs.Execution.{Summary, IsFree, Links, link}
use Rattle.run_session.specs.declared.link.LinkFault.{LinkFault}
use Rattle.run_session.specs.Linking.{TellsRefusal}
use Rattle.shadow_replay.specs.declared.Warning.{Warning}
use Rattle.shadow_replay.specs.Taint.{Watch}
use Rattle.instrument.specs.Output.{output}
use Rattle.module_ast.specs.Validation.{longest_file}
use Rattle.analyses.specs.Tools.{ToolState}
use Rattle.app_load.specs.declared.printing.Printed.{Printed}
use Rattle.app_load.specs.declared.printing.Refusal.{Refusal}
use Rattle.app_load.specs.declared.printing.Refusal.TheVariants.{NoMemory}
use Rattle.app_load.specs.Outcomes.{IsRefusal, RefusedBy, Yields}
use Rattle.app_load.specs.Plans.{no_import, no_output, Ending, refuses, Plan, printing}
use Rattle.outside_io.specs.Outside.{ShelfState}
use Rattle.app_load.specs.Wants.{Gives, script_read}
use Rattle.app_load.proofs.Going.{no_memory, stopped, took_text, was_refused, went_on}
use Rattle.app_load.proofs.Within.{Within, WritesNone, FeedsNone, mapped_within}
use Rattle.app_runs.specs.Linking.{IsUnlinked}
use Rattle.app_runs.specs.RunTexts.{run_status, run_text}
use Rattle.app_runs.specs.WarningTexts.{warnings_text}
use Rattle.app_runs.specs.Watching.{import_names}
use Rattle.wasabi_app.specs.declared.taint_mode.Watched.{Watched}
use Rattle.wasabi_app.specs.Making.{output_length}
use Rattle.wasabi_app.specs.Playing.{ending_of, ending_finish, ending_text}
use Rattle.wasabi_app.specs.Tainting.{warnings_told}
use Rattle.wasabi_app.specs.Texts.{no_import_text}
use Rattle.wasabi_app.specs.Warning.{AreKnown, IsUnknown, IsWarned, IsWatched, watch_in}
use Rattle.wasabi_app.specs.Words.{Given}
use Rattle.wasabi_app.specs.Modes.Instrument.{hooked}
use Rattle.wasabi_app.specs.Modes.Taint.{unknown_in, known, taint_text, taint_plan, taint_mode, followed_plan, ran_plan, warned_plan, watch_of}
use Rattle.wasabi_app.specs.Modes.Trial.{all_hooks}
use Rattle.wasabi_app.specs.Hooking.{GetsNone}
use Rattle.wasabi_app.proofs.Hooking.{hooked_goes}
use Rattle.wasabi_app.proofs.Linked.{Plain, writes_plain, feeds_plain, played_links, played_within, was_unlinked, finish_statuses}
use Rattle.wasabi_app.proofs.Modes.Instrument.{hooked_within}

-- ---- what is watched

module _ (g : Given) (m : Module) where
  abbrev unknown : Option (List ℕ)
  unknown = unknown_in g (import_names m.imports)

  -- a name is that of no import
  pub unknown_name : (name : List ℕ) (refusal : Refusal) → unknown ≡ Some name → IsRefusal 20 (no_import_text name) refusal → IsUnknown g m refusal
  unknown_name name refusal e is = λ plan at tools.
      was_refused (known unknown plan) no_import (no_import_text name) at tools refusal
      (ap (λ u. known u plan) e) is

  pub unknown_no_memory : IsUnknown g m NoMemory
  unknown_no_memory = λ plan at tools. no_memory (Some (known unknown plan)) at tools

  watched_is : (watched : Watched) → IsWatched g m watched → watch_in watched ≡ watch_of g m
  watched_is watched is = ap₂ (λ (a b : List ℕ). let w : Watch = record { sources = a; sinks = b } in w) is.sources is.sinks

  -- all are known, and the module is given hooks or not
  pub followed : (script : List ℕ) (watched : Watched) (old new : ShelfState) (tools : List ToolState) (result : Result Printed Refusal) → IsWatched g m watched
      → AreKnown g m → IsFree m → output_length m all_hooks ≤ longest_file → Yields (Some (warned_plan script (watch_in watched) m)) old new tools tools result
      → Yields (Some (followed_plan g script m)) old new tools tools result
  followed script watched old new tools result is all free few y =
      let plan = warned_plan script (watch_of g m) m in
      let goes : followed_plan g script m ≡ plan =
      ap (λ u. known u (hooked g.subject m (output_length m all_hooks) longest_file plan)) all
      ∙ hooked_goes g.subject m (output_length m all_hooks) longest_file plan free few in
      subst (λ p. Yields (Some p) old new tools tools result) (ap (λ w. warned_plan script w m) (watched_is watched is) ∙ sym goes) y

  pub unhooked : (script : List ℕ) (refusal : Refusal) (at : ShelfState) (tools : List ToolState) → AreKnown g m
      → GetsNone g.subject m (output_length m all_hooks) longest_file refusal → Yields (Some (followed_plan g script m)) at at tools tools (Err refusal)
  unhooked script refusal at tools all none =
      let plan = warned_plan script (watch_of g m) m in
      subst (λ p. Yields (Some p) at at tools tools (Err refusal))
      (sym (ap (λ u. known u (hooked g.subject m (output_length m all_hooks) longest_file plan)) all)) (none plan at tools)

-- ---- the run

-- what is told of it
pub warned_by : (w : Watch) (m : Module) (s : Script) (ended : Summary) (warnings : List Warning) (told : Printed) → ended ≡ ending_of (output m all_hooks) s
    → warnings ≡ warnings_told m w s → told.status ≡ run_status ended
    → told.text.items ≡ run_text s.calls ended ++ warnings_text (import_names m.imports) warnings → IsWarned w m s told
warned_by w m s ended warnings told is warns status text = record {
  status = status ∙ ap run_status is ∙ sym (finish_statuses (ending_of (output m all_hooks) s));
  text =
      text ∙ ap (λ x. run_text s.calls x ++ warnings_text (import_names m.imports) warnings) is
      ∙ ap (λ ws. ending_text (output m all_hooks) s ++ warnings_text (import_names m.imports) ws) warns;
}

pub was_warned : (w : Watch) (m : Module) (s : Script) (at : ShelfState) (tools : List ToolState) (told : Printed) → Links (output m all_hooks) s
    → IsWarned w m s told → Yields (Some (ran_plan w m s)) at at tools tools (Ok told)
was_warned w m s at tools told links is =
    subst (λ p. Yields (Some p) at at tools tools (Ok told)) (sym (played_links (output m all_hooks) s _ links))
    (took_text (taint_text w m s) (ending_finish (output m all_hooks) s) at tools told is.status is.text)

-- they do not link
pub was_unwarned : (w : Watch) (m o : Module) (s : Script) (fault : LinkFault) (at : ShelfState) (tools : List ToolState) (refusal : Refusal) → o ≡ output m all_hooks
    → TellsRefusal fault (link o s) → IsUnlinked s.calls fault refusal → Yields (Some (ran_plan w m s)) at at tools tools (Err refusal)
was_unwarned w m o s fault at tools refusal is why told =
    was_unlinked (output m all_hooks) s fault (printing (taint_text w m s) (ending_finish (output m all_hooks) s)) at tools refusal
    (subst (λ x. TellsRefusal fault (link x s)) is why) told

-- ---- what holds of its endings

known_holds : (P : Ending → Type 0) (unknown : Option (List ℕ)) (plan : Plan) → ((text : List ℕ) → P (refuses no_import text)) → Within P plan
    → Within P (known unknown plan)
known_holds P None plan refused within = within
known_holds P (Some name) plan refused within = refused (no_import_text name)

taint_within : (P : Ending → Type 0) → Plain P → ((text : List ℕ) → P (refuses no_import text)) → ((text : List ℕ) → P (refuses no_output text))
    → (g : Given) → IfSome (taint_mode.plan g) (Within P)
taint_within P plain unknown refused g =
    mapped_within P (taint_plan g) g.script
    (λ script m. known_holds P (unknown_in g (import_names m.imports)) _ unknown
    (hooked_within P g.subject m (output_length m all_hooks) longest_file (warned_plan script (watch_of g m) m) refused
    (λ s. played_within P (output m all_hooks) s _ plain (plain.prints_well (taint_text (watch_of g m) m s) (ending_finish (output m all_hooks) s)))))

pub taint_writes_none : (g : Given) → IfSome (taint_mode.plan g) (Within WritesNone)
taint_writes_none g = taint_within WritesNone writes_plain (λ text. tt) (λ text. tt) g

pub taint_feeds_none : (g : Given) → IfSome (taint_mode.plan g) (Within FeedsNone)
taint_feeds_none g = taint_within FeedsNone feeds_plain (λ text. tt) (λ text. tt) g

-- ---- what is read

-- the script is not
pub unscripted : (script : List ℕ) (w : Watch) (m : Module) (a b : ShelfState) (tools : List ToolState) (refusal : Refusal)
    → RefusedBy (script_read script) a b refusal → OnlyRead 1 a b → Yields (Some (warned_plan script w m)) a b tools tools (Err refusal)
unscripted script w m a b tools refusal r once = stopped (script_read script) (ran_plan w m) a b tools refusal r once

pub scripted : (script : List ℕ) (w : Watch) (m : Module) (s : Script) (a b : ShelfState) (tools : List ToolState) (result : Result Printed Refusal)
    → Gives a.contents (script_read script) s → OnlyRead 1 a b
    → Yields (Some (ran_plan w m s)) b b tools tools result → Yields (Some (warned_plan script w m)) a b tools tools result
scripted script w m s a b tools result g once y = went_on (script_read script) (ran_plan w m) s a b b tools tools result g once y

-- what is told of the output's run
pub told_warned : {E : Type 0} (w : Watch) (m : Module) (s : Script) (ended : Summary) (names : List (List ℕ)) (warnings : List Warning) (result : Result Printed E)
    → ended ≡ ending_of (output m all_hooks) s → names ≡ import_names m.imports → warnings ≡ warnings_told m w s
    → IfOk result (λ t. t.status ≡ run_status ended) → IfOk result (λ t. t.text.items ≡ run_text s.calls ended ++ warnings_text names warnings)
    → IfOk result (IsWarned w m s)
told_warned w m s ended names warnings (Err e) is named warns status text = tt
told_warned w m s ended names warnings (Ok told) is named warns status text =
    warned_by w m s ended warnings told is warns status (text ∙ ap (λ n. run_text s.calls ended ++ warnings_text n warnings) named)
