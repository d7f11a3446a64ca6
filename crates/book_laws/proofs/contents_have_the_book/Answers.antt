use Rattle.book_laws.proofs.Contents.{contents_have_the_book}
use Rattle.book_laws.proofs.contents_have_the_book.Goals as goal

pub returns : goal.returns
returns c = contents_have_the_book c.records_are_read_again.ensures
