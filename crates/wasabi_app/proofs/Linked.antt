-- A subject and a script that were loaded: they do not link, or they were run.
use Rattle.std.proofs.Common.{◌≡◌, ◌≢◌, ℕ, ◌<◌, List, length, refl, sym, ap, subst, ◌∙◌, cond, Bool, true, false, Option, Some, None, Result, Ok, Err, IfOk, IfErr}
use Rattle.wasm_sem.specs.Types.{Module}
use Rattle.wasm_sem.specs.declared.Script.{Script}
use Rattle.wasm_sem.specs.Execution.{Summary, Refusal as LinkRefusal, no_export, bad_args, memory_cap, table_cap, segment_range, link, Links}
use Rattle.wasm_sem.specs.Link as linking
use Rattle.run_session.specs.declared.link.LinkFault.{LinkFault}
use Rattle.run_session.specs.declared.link.LinkFault.TheVariants.{NoExport, BadArgs, MemoryCap, TableCap, SegmentRange, NoMemory}
use Rattle.run_session.specs.Linking.{TellsRefusal}
use Rattle.analyses.specs.Tools.{ToolState}
use Rattle.outside_io.specs.Outside.{ShelfState}
use Rattle.app_runs.specs.RunTexts.{has_trapped, run_status, run_text}
use Rattle.app_runs.specs.Linking.{link_reason, link_text, IsUnlinkedBy, IsUnlinked}
use Rattle.app_runs.proofs.RunEnds.{call_within}
use Rattle.app_load.specs.declared.printing.Printed.{Printed}
use Rattle.app_load.specs.declared.printing.Refusal.{Refusal}
use Rattle.app_load.specs.declared.printing.Refusal.TheVariants as refusals
use Rattle.app_load.specs.declared.status.Status.TheVariants as status
use Rattle.app_load.specs.Plans.{no_output, Finish, finish_status, Ending, refuses, does, prints, Plan, refusing, printing}
use Rattle.wasabi_app.specs.Playing.{finish_of, linked, played, ending_of, ending_text, ending_finish}
use Rattle.app_load.proofs.Within.{Within, WritesNone, FeedsNone, MakesNone}
use Rattle.app_load.specs.Outcomes.{Yields}
use Rattle.app_load.proofs.Going.{was_refused, took_text, no_memory}

-- a module and a script that do not link are refused
pub played_refuses : (m : Module) (s : Script) (why : linking.Refusal) (plan : Plan) → link m s ≡ Some why
    → played m s plan ≡ refusing (link_reason why) (link_text s.calls why)
played_refuses m s why plan e = ap (λ o. linked s o plan) e

pub played_links : (m : Module) (s : Script) (plan : Plan) → Links m s → played m s plan ≡ plan
played_links m s plan e = ap (λ o. linked s o plan) e

finish_by : (running trap : Bool)
    → finish_status (cond running Finish.unfinished (cond trap Finish.trapped Finish.done)) ≡ cond running status.Unfinished (cond trap status.Trapped status.Done)
finish_by true trap = refl
finish_by false true = refl
finish_by false false = refl

pub finish_statuses : (s : Summary) → finish_status (finish_of s) ≡ run_status s
finish_statuses s = finish_by s.running (has_trapped s.start s.calls)

-- a call that has no function is one of the script's
pub fault_within : (m : Module) (s : Script) (fault : LinkFault) (call : ℕ) → TellsRefusal fault (link m s) → fault ≡ NoExport call
    → call < length s.calls
fault_within m s fault call t e = call_within m s call (subst (λ f. TellsRefusal f (link m s)) e t)

pub want_of_memory : (plan : Plan) (at : ShelfState) (tools : List ToolState) (refusal : Refusal) → refusal ≡ refusals.NoMemory
    → Yields (Some plan) at at tools tools (Err refusal)
want_of_memory plan at tools refusal e =
    subst (λ r. Yields (Some plan) at at tools tools (Err r)) (sym e) (no_memory (Some plan) at tools)

told_why : (m : Module) (s : Script) (plan : Plan) (at : ShelfState) (tools : List ToolState) (refusal : Refusal) (why : LinkRefusal)
    → link m s ≡ Some why → IsUnlinkedBy s.calls (Some why) refusal → Yields (Some (played m s plan)) at at tools tools (Err refusal)
told_why m s plan at tools refusal why e is =
    was_refused (played m s plan) (link_reason why) (link_text s.calls why) at tools refusal (played_refuses m s why plan e) is

-- they do not link
pub was_unlinked : (m : Module) (s : Script) (fault : LinkFault) (plan : Plan) (at : ShelfState) (tools : List ToolState) (refusal : Refusal)
    → TellsRefusal fault (link m s) → IsUnlinked s.calls fault refusal → Yields (Some (played m s plan)) at at tools tools (Err refusal)
was_unlinked m s (NoExport n) plan at tools refusal e is = told_why m s plan at tools refusal (no_export n) e is
was_unlinked m s (BadArgs n) plan at tools refusal e is = told_why m s plan at tools refusal (bad_args n) e is
was_unlinked m s (MemoryCap n) plan at tools refusal e is = told_why m s plan at tools refusal (memory_cap n) e is
was_unlinked m s (TableCap n) plan at tools refusal e is = told_why m s plan at tools refusal (table_cap n) e is
was_unlinked m s SegmentRange plan at tools refusal e is = told_why m s plan at tools refusal segment_range e is
was_unlinked m s NoMemory plan at tools refusal e is = want_of_memory (played m s plan) at tools refusal is

-- they were run, and what came of it is told
pub was_run : (m : Module) (s : Script) (at : ShelfState) (o : Summary) (tools : List ToolState) (result : Result Printed Refusal) → Links m s
    → o ≡ ending_of m s → IfOk result (λ t. t.status ≡ run_status o) → IfOk result (λ t. t.text.items ≡ run_text s.calls o)
    → IfErr result (λ r. r ≡ refusals.NoMemory)
    → Yields (Some (played m s (printing (ending_text m s) (ending_finish m s)))) at at tools tools result
was_run m s at o tools (Ok told) l e status text none =
    subst (λ p. Yields (Some p) at at tools tools (Ok told)) (sym (played_links m s _ l))
    (took_text (ending_text m s) (ending_finish m s) at tools told (status ∙ ap run_status e ∙ sym (finish_statuses (ending_of m s)))
    (text ∙ ap (run_text s.calls) e))
was_run m s at o tools (Err r) l e status text none = want_of_memory _ at tools r none

-- ---- what holds of the endings of such a plan

-- this holds of a text alone, and of a refusal to link
pub record Plain (P : Ending → Type 0) : Type 0 where
  pub prints_well : (text : List ℕ) (finish : Finish) → P (does (prints text finish))
  pub unlinks_well : (why : LinkRefusal) (text : List ℕ) → P (refuses (link_reason why) text)

pub writes_plain : Plain WritesNone
writes_plain = record { prints_well = λ text finish. refl; unlinks_well = λ why text. tt }

pub feeds_plain : Plain FeedsNone
feeds_plain = record { prints_well = λ text finish. refl; unlinks_well = λ why text. tt }

link_makes_none : (why : LinkRefusal) → link_reason why ≢ no_output
link_makes_none (no_export call) e = cc
link_makes_none (bad_args call) e = cc
link_makes_none (memory_cap pages) e = cc
link_makes_none (table_cap slots) e = cc
link_makes_none segment_range e = cc

pub makes_plain : Plain MakesNone
makes_plain = record { prints_well = λ text finish. tt; unlinks_well = λ why text. link_makes_none why }

pub played_within : (P : Ending → Type 0) (m : Module) (s : Script) (plan : Plan) → Plain P → Within P plan → Within P (played m s plan)
played_within P m s plan plain within = by (link m s)
  where
    by : (o : Option LinkRefusal) → Within P (linked s o plan)
    by None = within
    by (Some why) = plain.unlinks_well why (link_text s.calls why)
