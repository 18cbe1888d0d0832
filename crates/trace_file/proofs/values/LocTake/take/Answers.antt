use Rattle.std.proofs.Common.{◌≡◌, ◌∙◌, sym, ap, rules, arith, FitsSigned, w32, to_z, of_z}
use Rattle.std.proofs.lemmas.Int.{ints}
use Rattle.trace_file.proofs.values.LocTake.take.Goals as goal

pub returns-in-Err-clause-none : goal.returns-in-Err-clause-none
returns-in-Err-clause-none c = λ e rest x b. c.in-Err.ensures.none e rest (x.func, x.instr) b

pub returns-in-Ok-clause-only : goal.returns-in-Ok-clause-only
returns-in-Ok-clause-only c = λ y other b.
    let t = c.in-Ok.ensures.only (y.func, y.instr) other b in
    let f : FitsSigned w32 c.in-Ok.instr = search rules in
    let e : to_z w32 (of_z w32 c.in-Ok.instr) ≡ c.in-Ok.instr = omega (arith, ints) in
    let func = ap (λ p. p.0) t.0 in
    let instr = ap (λ p. p.1) t.0 ∙ sym e in
    (λ i. record { func = func i; instr = instr i }, t.1)
