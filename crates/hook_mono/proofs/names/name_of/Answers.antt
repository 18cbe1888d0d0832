use Rattle.std.proofs.Common.{◌∙◌}
use Rattle.leb_binary.proofs.Texts.{texts_alike}
use Rattle.hook_mono.specs.Texts.{hook_text}
use Rattle.hook_mono.proofs.names.name_of.Goals as goal

pub returns : goal.returns
returns c = texts_alike c.from_string.result (hook_text c.args.key.now) (c.from_string.ensures ∙ c.in_ok-text.ensures)
