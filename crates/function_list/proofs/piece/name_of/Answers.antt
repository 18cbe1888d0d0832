use Rattle.std.proofs.Common.{◌∙◌, None, arith, sym}
use Rattle.std.proofs.lemmas.Str.Pattern.{strip_suffix_char}
use Rattle.function_list.proofs.Texts.{no_star}
use Rattle.function_list.proofs.piece.name_of.Goals as goal

pub returns-in-None : goal.returns-in-None
returns-in-None c = sym (no_star c.args.text.now (sym c.is_empty.ensures ∙ c.if-is_empty.false) (strip_suffix_char 42 c.args.text.now None c.in-None.ensures.cases (omega arith)))
