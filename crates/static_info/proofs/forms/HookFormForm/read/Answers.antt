use Rattle.std.proofs.Common.{◌≡◌, Some, ◌∙◌, sym, ap}
use Rattle.std.specs.Option.{option_map}
use Rattle.serde_json.specs.View.{view}
use Rattle.serde_json.specs.Find.{as_str}
use Rattle.static_info.proofs.KeysRead.{hook_answered}
use Rattle.static_info.proofs.forms.HookFormForm.read.Goals as goal

pub returns : goal.returns
returns c =
    let name : as_str (view c.args.value.now) ≡ Some c.in_ok-name.name.now = sym c.as_str.ensures ∙ ap (option_map (λ s. s.now)) c.in_ok-name.ensures.ok_part in
    hook_answered (view c.args.value.now) c.in_ok-name.name.now c.in_ok-key_of.field-0 c.ok_or-2.result name c.in_ok-key_of.ensures c.ok_or-2.ensures.value
