-- Information that is read belongs to the module or not.
use Rattle.std.proofs.Common.{inl, refl, subst, sym}
use Rattle.std.proofs.lemmas.Result.{err_from_is_err_and}
use Rattle.static_info.specs.Belongs.{Belongs}
use Rattle.app_load.specs.Texts.{foreign_text}
use Rattle.app_load.specs.Wants.{info_on, foreign}
use Rattle.app_load.proofs.Loaded.{refused_as}
use Rattle.app_load.proofs.loading.info_of.Goals as goal

pub returns-in_err-info-clause-refused : goal.returns-in_err-info-clause-refused
returns-in_err-info-clause-refused c =
    let p = err_from_is_err_and c.from_residual.result c.from_residual.ensures.1 in
    rw (p.1, p.2) (c.in_err-info.ensures.refused c.args.m.now)

pub returns-in-Ok-true-clause-ok : goal.returns-in-Ok-true-clause-ok
returns-in-Ok-true-clause-ok c =
    (c.in_ok-info.ensures.ok, subst (Belongs c.in_ok-info.info) c.module.ensures.module (c.in-Ok-true.ensures.0 c.in-Ok-true.field-0-test))

pub returns-in-Ok-false-clause-refused : goal.returns-in-Ok-false-clause-refused
returns-in-Ok-false-clause-refused c = λ name.
    refused_as (info_on c.args.m.now) name c.args.bytes.now 16 foreign_text _ c.refused_info.ensures (
      refl,
      foreign c.in_ok-info.info c.in_ok-info.ensures.ok
          (λ b. let t = c.in-Ok-false.ensures.1 (subst (Belongs c.in_ok-info.info) (sym c.module.ensures.module) b) in
          let f = c.in-Ok-false.field-0-test in
          cc),
    )

pub returns-in-Err-clause-refused : goal.returns-in-Err-clause-refused
returns-in-Err-clause-refused c = λ name. inl refl
