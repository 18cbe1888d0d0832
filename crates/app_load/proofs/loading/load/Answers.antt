-- What was read, or why nothing was.
use Rattle.std.proofs.Common.{length, ap, arith}
use Rattle.std.proofs.lemmas.Result.{IfErr-weaker, err_from_is_err_and}
use Rattle.app_load.specs.Wants.{a_module}
use Rattle.app_load.proofs.Loaded.{given_by, refuted_by}
use Rattle.app_load.proofs.loading.load.Goals as goal

pub returns-in_err-bytes-clause-refused : goal.returns-in_err-bytes-clause-refused
returns-in_err-bytes-clause-refused g c =
    let p = err_from_is_err_and c.from_residual.result c.from_residual.ensures.1 in
    rw (p.1, p.2) (c.in_err-bytes.ensures.refused (a_module c.args.limits.now))

pub valid_module-requires-clause-short : goal.valid_module-requires-clause-short
valid_module-requires-clause-short g c =
    let i = c.in_ok-bytes.ensures.ok (a_module c.args.limits.now) in
    λ _ _. omega (arith, i.short, c.requires.short, ap length c.as_slice.ensures.value)

pub returns-clause-ok : goal.returns-clause-ok
returns-clause-ok g c =
    given_by (a_module c.args.limits.now) c.valid_module.result _ _ _ c.in_ok-bytes.bytes.items (c.in_ok-bytes.ensures.ok (a_module c.args.limits.now))
    (rw c.as_slice.ensures.value at c.valid_module.ensures.ok)

pub returns-clause-refused : goal.returns-clause-refused
returns-clause-refused g c =
    IfErr-weaker _ _ _ (λ r k. refuted_by (a_module c.args.limits.now) _ _ _ _ c.in_ok-bytes.bytes.items r (c.in_ok-bytes.ensures.ok (a_module c.args.limits.now)) k)
    (rw c.as_slice.ensures.value at c.valid_module.ensures.refused)
