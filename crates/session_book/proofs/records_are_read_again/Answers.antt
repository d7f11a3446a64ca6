use Rattle.session_book.proofs.Contents.{read_again}
use Rattle.session_book.proofs.records_are_read_again.Goals as goal

pub returns : goal.returns
returns c = read_again
