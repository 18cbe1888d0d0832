use Rattle.std.proofs.Common.{◌≡◌, ◌<◌, sym, subst, ◌∙◌}
use Rattle.module_ast.specs.declared.module.Which.{Which}
use Rattle.module_ast.specs.declared.module.Which.TheVariants.{Nesting}
use Rattle.module_ast.specs.Binary.{AreWithin, IsFirstExceeded, bound_of, limited_counts, order_of}
use Rattle.wasm_decode.proofs.Exceeding.{within_same, exceeded_same, nesting_exceeded, nothing_deep, all_within}
use Rattle.wasm_decode.proofs.settle.within.Goals as goal

pub returns-in-Some-clause-limit : goal.returns-in-Some-clause-limit
returns-in-Some-clause-limit c = λ w v e m k d.
    let p = c.in-Some.ensures in
    let e1 : c.in-Some.which ≡ w = cc in
    let e2 : c.in-Some.value ≡ v = cc in
    rw (← e1, ← e2) (exceeded_same c.args.limits.now c.args.limits.now.nesting m c.in-Some.which c.in-Some.value p.0 (subst (λ x. IsFirstExceeded c.args.limits.now x c.in-Some.which c.in-Some.value) k p.1))

pub returns-in-Some-deep-clause-limit : goal.returns-in-Some-deep-clause-limit
returns-in-Some-deep-clause-limit c = λ w v e m k d.
    let h = within_same c.args.limits.now c.args.limits.now.nesting m (subst (λ x. (w : Which) → order_of w < 4 → AreWithin (bound_of c.args.limits.now w) (limited_counts x w)) k c.in_default.ensures) in
    let e1 : Nesting ≡ w = cc in
    let e2 : c.in-Some-deep.found ≡ v = cc in
    rw (← e1, ← e2) (nesting_exceeded c.args.limits.now m c.in-Some-deep.found h (sym c.in-Some-deep.is ∙ d))

pub returns-clause-ok : goal.returns-clause-ok
returns-clause-ok c = λ m k d.
    let h = within_same c.args.limits.now c.args.limits.now.nesting m (subst (λ x. (w : Which) → order_of w < 4 → AreWithin (bound_of c.args.limits.now w) (limited_counts x w)) k c.in_default.ensures) in
    let n = sym c.in_default-deep.is ∙ d in
    (k ∙ nothing_deep c.args.limits.now.nesting m n, all_within c.args.limits.now m h n)
