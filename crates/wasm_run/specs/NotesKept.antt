-- A step that has nothing to note need not be noted.
use Rattle.std.proofs.Common.{◌≡◌, ◌∙◌, ◌+◌, suc, [], ap, arith}
use Rattle.wasm_run.specs.declared.note.Noted.{Noted}
use Rattle.wasm_run.specs.Noting.{last_outside, next_outside, KeepsNote}
use Rattle.wasm_run.specs.Running.{Run, one_more}

-- what the next step shows is what the last step of the run with one step more showed
pub further : (r : Run) → last_outside r.module r.script (r.made + 1) ≡ next_outside r
further r = let one : r.made + 1 ≡ suc r.made = omega arith in ap (last_outside r.module r.script) one

pub noted_goes_on : (n : Noted) (r : Run) → next_outside r ≡ [] → KeepsNote n r → KeepsNote n (one_more r)
noted_goes_on n r quiet kept =
    let few = kept.few in
    record {
      few = omega (arith, few);
      last_is = λ at. absurd (omega (arith, few, at));
      since = λ _. further r ∙ quiet;
      nothing_is = kept.nothing_is;
    }
