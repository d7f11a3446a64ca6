use Rattle.session_book.proofs.Steps.{each_content_is_a_step}
use Rattle.session_book.proofs.a_content_is_one_step.Goals as goal

pub returns : goal.returns
returns c = each_content_is_a_step
