use Rattle.session_book.proofs.Whole.{records_keep_it_whole}
use Rattle.session_book.proofs.records_keep_a_book_whole.Goals as goal

pub returns : goal.returns
returns c = records_keep_it_whole
