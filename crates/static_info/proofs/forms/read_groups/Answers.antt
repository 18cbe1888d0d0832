use Rattle.std.proofs.Common.{ap, ◌∙◌}
use Rattle.json_form.specs.Form.{given_if}
use Rattle.static_info.proofs.KeysRead.{groups_told}
use Rattle.static_info.proofs.forms.read_groups.Goals as goal

pub returns-then-same_groups : goal.returns-then-same_groups
returns-then-same_groups c =
    groups_told _ c.in_ok-groups.groups c.as_slice.result.now c.as_slice-2.result.now c.set_of-hooks.result c.in_ok-all.all.items c.as_slice-3.result.now c.same_groups.result
    c.in_ok-groups.ensures c.as_slice.ensures c.as_slice-2.ensures c.set_of-hooks.ensures c.in_ok-all.ensures c.as_slice-3.ensures.value c.same_groups.ensures
    ∙ ap (λ b. given_if b c.set_of-hooks.result) c.if-same_groups.true

pub returns : goal.returns
returns c =
    groups_told _ c.in_ok-groups.groups c.as_slice.result.now c.as_slice-2.result.now c.set_of-hooks.result c.in_ok-all.all.items c.as_slice-3.result.now c.same_groups.result
    c.in_ok-groups.ensures c.as_slice.ensures c.as_slice-2.ensures c.set_of-hooks.ensures c.in_ok-all.ensures c.as_slice-3.ensures.value c.same_groups.ensures
    ∙ ap (λ b. given_if b c.set_of-hooks.result) c.if-same_groups.false
