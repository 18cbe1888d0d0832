use Rattle.analyses.proofs.Books.{takes_make_book}
use Rattle.analyses.proofs.ToolStates.{takes_make_tool}
use Rattle.analyses.proofs.laws.takes_make_book.Goals as goal

pub returns : goal.returns
returns c = record { book = takes_make_book; tool = takes_make_tool }
