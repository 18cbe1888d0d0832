use Rattle.std.proofs.Common.{sym, subst}
use Rattle.std.proofs.lemmas.Result.{IfOk-weaker}
use Rattle.static_info.specs.declared.Info.{Info}
use Rattle.static_info.specs.Form.{IsWellFormed}
use Rattle.static_info.proofs.Formed.{infos_have_form}
use Rattle.static_info.proofs.gather.info_of.Goals as goal

pub returns-clause-formed : goal.returns-clause-formed
returns-clause-formed c =
    let m = c.args.m.now in
    IfOk-weaker c.module_info.result _ IsWellFormed
    (λ info is. subst (λ (i : Info). IsWellFormed i) (sym is) (infos_have_form m c.args.hooks.now c.module.ensures.valid c.module.ensures.whole)) c.module_info.ensures
