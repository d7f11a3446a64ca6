use Rattle.session_book.proofs.Folds.{same_book}
use Rattle.session_book.proofs.Sizes.{few_contents}
use Rattle.session_book.proofs.book.Book.contents.Goals as goal

pub returns-clause-same : goal.returns-clause-same
returns-clause-same c = same_book _ _ c.gather.ensures.whole c.gather.ensures.contents

pub returns-clause-few : goal.returns-clause-few
returns-clause-few c = few_contents _ _ c.gather.ensures.whole c.gather.ensures.contents
