use Rattle.std.proofs.Common.{◌∙◌}
use Rattle.function_list.proofs.Texts.{number_read}
use Rattle.function_list.proofs.piece.number_of.Goals as goal

pub returns : goal.returns
returns c = c.ok.ensures.value ∙ number_read c.args.digits.now c.parse.result c.parse.ensures.value.0 c.requires
