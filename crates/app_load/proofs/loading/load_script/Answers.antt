-- What was read, or why nothing was.
use Rattle.std.proofs.lemmas.Result.{IfErr-weaker, err_from_is_err_and}
use Rattle.app_load.specs.Wants.{a_script}
use Rattle.app_load.proofs.Loaded.{given_by, refuted_by}
use Rattle.app_load.proofs.loading.load_script.Goals as goal

pub returns-in_err-bytes-clause-refused : goal.returns-in_err-bytes-clause-refused
returns-in_err-bytes-clause-refused g c =
    let p = err_from_is_err_and c.from_residual.result c.from_residual.ensures.1 in
    rw (p.1, p.2) (c.in_err-bytes.ensures.refused a_script)

pub returns-clause-ok : goal.returns-clause-ok
returns-clause-ok g c =
    given_by a_script c.script_of.result _ _ _ c.in_ok-bytes.bytes.items (c.in_ok-bytes.ensures.ok a_script)
    (rw c.as_slice.ensures.value at c.script_of.ensures.ok)

pub returns-clause-refused : goal.returns-clause-refused
returns-clause-refused g c =
    IfErr-weaker _ _ _ (λ r k. refuted_by a_script _ _ _ _ c.in_ok-bytes.bytes.items r (c.in_ok-bytes.ensures.ok a_script) k)
    (rw c.as_slice.ensures.value at (c.script_of.ensures.refused c.args.name.now))
