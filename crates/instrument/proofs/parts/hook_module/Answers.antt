use Rattle.leb_binary.proofs.Texts.{texts_alike}
use Rattle.std.proofs.Common.{◌∙◌}
use Rattle.instrument.specs.Output.{hook_module_text}
use Rattle.instrument.proofs.parts.hook_module.Goals as goal

pub returns : goal.returns
returns c = texts_alike c.from_string.result hook_module_text (c.from_string.ensures ∙ c.in_ok-from_str.ensures.ok)
