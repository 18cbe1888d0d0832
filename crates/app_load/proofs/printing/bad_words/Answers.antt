use Rattle.app_load.specs.Texts.{bad_words_text}
use Rattle.app_load.proofs.printing.bad_words.Goals as goal

pub returns : goal.returns
returns c = c.refused.ensures bad_words_text c.from_str.ensures.ok
