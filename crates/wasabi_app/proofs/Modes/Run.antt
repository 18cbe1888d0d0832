-- What comes of the plan of the mode `run`.
use Rattle.std.proofs.Common.{ℕ, List, inl, refl, IfSome, Some, Result, Err}
use Rattle.outside_io.specs.Outside.{OnlyRead}
use Rattle.wasm_sem.specs.Types.{Module}
use Rattle.module_ast.specs.Validation.{wide, longest_file}
use Rattle.wasm_sem.specs.declared.Script.{Script}
use Rattle.analyses.specs.Tools.{ToolState}
use Rattle.outside_io.specs.Outside.{ShelfState}
use Rattle.app_load.specs.declared.printing.Printed.{Printed}
use Rattle.app_load.specs.declared.printing.Refusal.{Refusal}
use Rattle.app_load.specs.Wants.{module_read, script_read, Gives}
use Rattle.app_load.specs.Plans.{Ending, printing}
use Rattle.app_load.specs.Ends.{unread}
use Rattle.app_load.specs.Outcomes.{RefusedBy, Yields}
use Rattle.wasabi_app.specs.Words.{Given}
use Rattle.wasabi_app.specs.Playing.{played, ending_text, ending_finish}
use Rattle.wasabi_app.specs.Modes.Run.{script_plan, run_plan, run_mode}
use Rattle.app_load.proofs.Within.{Within, mapped_within}
use Rattle.app_load.proofs.Going.{went_on}
use Rattle.wasabi_app.proofs.Linked.{Plain, played_within}

-- the subject is not read
pub no_subject : (subject script : List ℕ) (a b : ShelfState) (tools : List ToolState) (refusal : Refusal)
    → RefusedBy (module_read subject longest_file wide) a b refusal → OnlyRead 1 a b
    → Yields (Some (run_plan subject script)) a b tools tools (Err refusal)
no_subject subject script a b tools refusal r once = unread (module_read subject longest_file wide) _ _ (inl refl) r once refl

-- it is, and this came of the rest
pub with_subject : (subject script : List ℕ) (m : Module) (a b c : ShelfState) (tools : List ToolState) (result : Result Printed Refusal)
    → Gives a.contents (module_read subject longest_file wide) m → OnlyRead 1 a b
    → Yields (Some (script_plan script m)) b c tools tools result → Yields (Some (run_plan subject script)) a c tools tools result
with_subject subject script m a b c tools result g once y =
    went_on (module_read subject longest_file wide) (script_plan script) m a b c tools tools result g once y

-- the script is not read
pub no_script : (script : List ℕ) (m : Module) (b c : ShelfState) (tools : List ToolState) (refusal : Refusal)
    → RefusedBy (script_read script) b c refusal → OnlyRead 1 b c → Yields (Some (script_plan script m)) b c tools tools (Err refusal)
no_script script m b c tools refusal r once = unread (script_read script) _ _ (inl refl) r once refl

pub with_script : (script : List ℕ) (m : Module) (s : Script) (b c : ShelfState) (tools : List ToolState) (result : Result Printed Refusal)
    → Gives b.contents (script_read script) s → OnlyRead 1 b c
    → Yields (Some (played m s (printing (ending_text m s) (ending_finish m s)))) c c tools tools result
    → Yields (Some (script_plan script m)) b c tools tools result
with_script script m s b c tools result g once y =
    went_on (script_read script) (λ t. played m t (printing (ending_text m t) (ending_finish m t))) s b c c tools tools result g once y

-- what holds of a text alone, and of a refusal to link, holds of its endings
pub run_within : (P : Ending → Type 0) → Plain P → (g : Given) → IfSome (run_mode.plan g) (Within P)
run_within P plain g =
    mapped_within P (run_plan g.subject) g.script
    (λ script m s. played_within P m s (printing (ending_text m s) (ending_finish m s)) plain (plain.prints_well (ending_text m s) (ending_finish m s)))
