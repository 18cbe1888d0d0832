-- One more value is read.
use Rattle.std.proofs.Common.{Some, ap, sym, ◌∙◌, option_and_then, arith}
use Rattle.std.proofs.lemmas.Grind.{common_steps}
use Rattle.json_form.specs.Form.{items_form}
use Rattle.json_form.proofs.Lists.{item_read, all_read}
use Rattle.json_form.proofs.form.read_list.Goals as goal

pub loop-value-preserved : goal.loop-value-preserved
loop-value-preserved g c =
    rw c.in_ok-push.ensures.items
    (item_read g.F.Form.form c.in_ok-values.values.now c.loop-value.found.items c.loop-value.value-index c.value-item.result c.in_ok-read.field-0
    c.loop-value.invariant c.loop-value-test.true c.value-item.is c.in_ok-read.ensures)

pub returns : goal.returns
returns g c =
    ap (option_and_then (items_form g.F.Form.form)) c.in_ok-values.ensures.found
    ∙ all_read g.F.Form.form c.in_ok-values.values.now c.loop-value.found.items c.loop-value.value-index c.loop-value.invariant c.loop-value-test.false
    ∙ ap Some (sym c.from_vec.ensures)

pub returns-in_err-read : goal.returns-in_err-read
returns-in_err-read g c = grind (arith, common_steps)
