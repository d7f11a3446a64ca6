use Rattle.session_book.proofs.Folds.{contents_keep_the_book}
use Rattle.session_book.proofs.contents_keep_the_book.Goals as goal

pub returns : goal.returns
returns c = contents_keep_the_book
