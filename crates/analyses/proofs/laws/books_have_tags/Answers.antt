use Rattle.analyses.proofs.Books.{books_have_tags}
use Rattle.analyses.proofs.laws.books_have_tags.Goals as goal

pub returns : goal.returns
returns c = books_have_tags
