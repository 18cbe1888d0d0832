use Rattle.std.proofs.Common.{◌≡◌, Some, rules}
use Rattle.serde_json.specs.Find.{as_str}
use Rattle.serde_json.specs.View.{view}
use Rattle.json_form.proofs.TextForms.{text_given}
use Rattle.json_form.proofs.form.TextForm.read.Goals as goal

pub returns : goal.returns
returns c =
    let spells : as_str (view c.args.value.now) ≡ Some c.from_string.result.bytes = search rules in
    text_given (view c.args.value.now) c.from_string.result spells
