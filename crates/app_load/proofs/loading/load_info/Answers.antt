-- What was read, or why nothing was.
use Rattle.std.proofs.Common.{subst, IfErr, IfOk}
use Rattle.std.proofs.lemmas.Result.{IfErr-weaker, err_from_is_err_and}
use Rattle.app_load.specs.Outcomes.{Refuted}
use Rattle.app_load.specs.Wants.{info_on, info_content}
use Rattle.app_load.proofs.Loaded.{given_by, refuted_by}
use Rattle.app_load.proofs.loading.load_info.Goals as goal

pub returns-in_err-bytes-clause-refused : goal.returns-in_err-bytes-clause-refused
returns-in_err-bytes-clause-refused g c =
    let p = err_from_is_err_and c.from_residual.result c.from_residual.ensures.1 in
    rw (p.1, p.2) (c.in_err-bytes.ensures.refused (info_on c.args.m.now))

pub returns-clause-ok : goal.returns-clause-ok
returns-clause-ok g c =
    given_by (info_on c.args.m.now) c.info_of.result _ _ _ c.in_ok-bytes.bytes.items (c.in_ok-bytes.ensures.ok (info_on c.args.m.now))
    (subst (λ bytes. IfOk c.info_of.result ((info_content c.args.m.now).Spell bytes)) c.as_slice.ensures.value c.info_of.ensures.ok)

pub returns-clause-refused : goal.returns-clause-refused
returns-clause-refused g c =
    IfErr-weaker _ _ _ (λ r k. refuted_by (info_on c.args.m.now) _ _ _ _ c.in_ok-bytes.bytes.items r (c.in_ok-bytes.ensures.ok (info_on c.args.m.now)) k)
    (subst (λ bytes. IfErr c.info_of.result (Refuted (info_on c.args.m.now) c.args.name.now bytes)) c.as_slice.ensures.value (c.info_of.ensures.refused c.args.name.now))
