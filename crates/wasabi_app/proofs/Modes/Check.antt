-- What comes of the plan of the mode `check`.
use Rattle.std.proofs.Common.{◌≡◌, ℕ, List, inl, refl, sym, subst, IfSome, IfOk, IfErr, Some, Result, Ok, Err}
use Rattle.outside_io.specs.Outside.{OnlyRead}
use Rattle.wasm_sem.specs.Types.{Module}
use Rattle.module_ast.specs.Validation.{wide, longest_file}
use Rattle.analyses.specs.Tools.{ToolState}
use Rattle.outside_io.specs.Outside.{ShelfState}
use Rattle.app_runs.specs.Texts.{ok_text, counts_of}
use Rattle.app_load.specs.declared.status.Status.TheVariants.{Done}
use Rattle.app_load.specs.declared.printing.Printed.{Printed}
use Rattle.app_load.specs.declared.printing.Refusal.{Refusal}
use Rattle.app_load.specs.declared.printing.Refusal.TheVariants.{NoMemory}
use Rattle.app_load.specs.Wants.{module_read, Gives}
use Rattle.app_load.specs.Plans.{done, Ending, printing}
use Rattle.app_load.specs.Ends.{unread}
use Rattle.app_load.specs.Outcomes.{RefusedBy, Yields}
use Rattle.wasabi_app.specs.Words.{Given}
use Rattle.wasabi_app.specs.Modes.Check.{check_plan, check_mode}
use Rattle.app_load.proofs.Within.{Within}
use Rattle.app_load.proofs.Going.{went_on, took_text, no_memory}
use Rattle.wasabi_app.proofs.Linked.{Plain}

pub unchecked : (subject : List ℕ) (a b : ShelfState) (tools : List ToolState) (refusal : Refusal)
    → RefusedBy (module_read subject longest_file wide) a b refusal → OnlyRead 1 a b
    → Yields (Some (check_plan subject)) a b tools tools (Err refusal)
unchecked subject a b tools refusal r once = unread (module_read subject longest_file wide) _ _ (inl refl) r once refl

pub checked : (subject : List ℕ) (m : Module) (a b : ShelfState) (tools : List ToolState) (told : Printed)
    → Gives a.contents (module_read subject longest_file wide) m → OnlyRead 1 a b
    → told.status ≡ Done → told.text.items ≡ ok_text (counts_of m) → Yields (Some (check_plan subject)) a b tools tools (Ok told)
checked subject m a b tools told g once s t =
    went_on (module_read subject longest_file wide) (λ n. printing (ok_text (counts_of n)) done) m a b b tools tools (Ok told) g once
    (took_text (ok_text (counts_of m)) done b tools told s t)

pub was_counted : (subject : List ℕ) (m : Module) (a b : ShelfState) (tools : List ToolState) (result : Result Printed Refusal)
    → Gives a.contents (module_read subject longest_file wide) m → OnlyRead 1 a b
    → IfOk result (λ t. t.status ≡ Done) → IfOk result (λ t. t.text.items ≡ ok_text (counts_of m)) → IfErr result (λ r. r ≡ NoMemory)
    → Yields (Some (check_plan subject)) a b tools tools result
was_counted subject m a b tools (Ok told) g once s t none = checked subject m a b tools told g once s t
was_counted subject m a b tools (Err r) g once s t none =
    subst (λ r. Yields (Some (check_plan subject)) a b tools tools (Err r)) (sym none)
    (went_on (module_read subject longest_file wide) (λ n. printing (ok_text (counts_of n)) done) m a b b tools tools (Err NoMemory) g once
    (no_memory (Some (printing (ok_text (counts_of m)) done)) b tools))

-- what holds of a text alone holds of its endings
pub check_within : (P : Ending → Type 0) → Plain P → (g : Given) → IfSome (check_mode.plan g) (Within P)
check_within P plain g = λ m. plain.prints_well _ _
