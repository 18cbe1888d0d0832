-- How what came of a plan was told.
use Rattle.std.proofs.Common.{◌≡◌, ℕ, List, sym, subst, subst₂, ◌∙◌, Option, Result, Ok, Err}
use Rattle.analyses.specs.Tools.{ToolState}
use Rattle.outside_io.specs.Outside.{ShelfState, PrintState}
use Rattle.app_load.specs.Printing.{Said}
use Rattle.app_load.specs.declared.printing.Printed.{Printed}
use Rattle.app_load.specs.declared.printing.Refusal.{Refusal}
use Rattle.app_load.specs.Statuses.{status_number}
use Rattle.app_load.specs.Plans.{Plan}
use Rattle.app_load.specs.Ends.{Ends, answered, refused_with}
use Rattle.app_load.specs.Outcomes.{refusal_status, refusal_text, Yields, SaidRefusal}

pub tells_answer : {plan : Option Plan} {old new : ShelfState} {was is : List ToolState} {before after : PrintState} (ending : Result Printed Refusal) (told : Printed)
    (text : List ℕ) (status number : ℕ) → number ≡ status → ending ≡ Ok told → text ≡ told.text.items → Yields plan old new was is ending
    → Said text (status_number told.status) 15 before after status → Ends plan old new was is before after number
tells_answer {plan} {old} {new} {was} {is} {before} {after} ending told text status number n k same o s =
    let (e, made, finish, same_text) = subst (Yields plan old new was is) k o in
    subst (Ends plan old new was is before after) (sym n)
    (answered e made (subst₂ (λ t finished. Said t (status_number finished) 15 before after status) (same ∙ same_text) finish s))

pub tells_refusal : {plan : Option Plan} {old new : ShelfState} {was is : List ToolState} {before after : PrintState} (ending : Result Printed Refusal) (refusal : Refusal)
    (status number : ℕ) → number ≡ status → ending ≡ Err refusal → Yields plan old new was is ending
    → SaidRefusal refusal before after status → Ends plan old new was is before after number
tells_refusal {plan} {old} {new} {was} {is} {before} {after} ending refusal status number n k o s =
    subst (Ends plan old new was is before after) (sym n) (refused_with (refusal_status refusal) (refusal_text refusal) (subst (Yields plan old new was is) k o) s)
