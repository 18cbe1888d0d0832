-- The line, where there is memory for it.
use Rattle.std.proofs.Common.{◌≡◌, ◌∙◌, ap, rules, string_bytes, subst, sym}
use Rattle.module_ast.specs.Validation.{IsWhole}
use Rattle.app_runs.specs.Texts.{counts_of, ok_text}
use Rattle.wasabi_app.proofs.check_mode.counted.Goals as goal

pub count-requires : goal.count-requires
count-requires c = subst IsWhole (sym c.module.ensures.module) c.requires

pub returns-in-Ok-clause-text : goal.returns-in-Ok-clause-text
returns-in-Ok-clause-text c =
    let same : c.into_bytes.result.items ≡ string_bytes c.in-Ok.text = search rules in
    same ∙ c.in-Ok.ensures ∙ ap ok_text (c.count.ensures ∙ ap counts_of c.module.ensures.module)
