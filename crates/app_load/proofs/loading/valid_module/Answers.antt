-- A decoded module is whole, and its check says what it breaks.
use Rattle.std.proofs.Common.{ap, inl, refl, subst, Err}
use Rattle.app_load.specs.Texts.{rule_text, body_text}
use Rattle.module_ast.proofs.Wholes.{read_whole}
use Rattle.app_load.proofs.Loaded.{valid_fit, refused_as}
use Rattle.app_load.specs.Wants.{a_module, RefutesFile, broken_rule, invalid_body}
use Rattle.app_load.proofs.loading.valid_module.Goals as goal

pub validate-requires-clause-whole : goal.validate-requires-clause-whole
validate-requires-clause-whole g c =
    λ _ _. read_whole c.args.limits.now c.args.bytes.now c.in_ok-module.module c.requires.short c.requires.nesting c.in_ok-module.ensures.ok.spelled c.in_ok-module.ensures.ok.within

pub returns-in-Ok-clause-ok : goal.returns-in-Ok-clause-ok
returns-in-Ok-clause-ok g c = valid_fit c.args.limits.now c.args.bytes.now c.in_ok-module.module _ c.in-Ok.ensures.same c.in_ok-module.ensures.ok c.in-Ok.ensures.valid

pub returns-in-Err-Module-clause-refused : goal.returns-in-Err-Module-clause-refused
returns-in-Err-Module-clause-refused g c =
    let broken = c.in-Err-Module.ensures.rule _ (ap Err c.in-Err-Module.field-0-is) in
    refused_as (a_module c.args.limits.now) c.args.name.now c.args.bytes.now 8 (rule_text c.args.name.now _) _
    (c.refused.ensures _ c.format.ensures.ok)
    (subst (λ n. RefutesFile c.args.name.now c.args.limits.now c.args.bytes.now 8 (rule_text c.args.name.now n)) broken.1
    (broken_rule c.in_ok-module.module broken.0 c.in_ok-module.ensures.ok broken.2))

pub returns-in-Err-Body-clause-refused : goal.returns-in-Err-Body-clause-refused
returns-in-Err-Body-clause-refused g c =
    refused_as (a_module c.args.limits.now) c.args.name.now c.args.bytes.now 8 (body_text c.args.name.now _) _
    (c.refused-in-Err-Body.ensures _ c.format-in-Err-Body.ensures.ok)
    (invalid_body c.in_ok-module.module _ c.in_ok-module.ensures.ok (c.in-Err-Body.ensures.body _ (ap Err c.in-Err-Body.field-0-is)))

pub returns-in-Err-NoMemory-clause-refused : goal.returns-in-Err-NoMemory-clause-refused
returns-in-Err-NoMemory-clause-refused g c = inl refl
