use Rattle.control_message.specs.Pairs.{opening_front, told_pairs}
use Rattle.control_message.proofs.Spelled.{grown_twice}
use Rattle.control_message.proofs.writing.put_opening.Goals as goal

pub returns : goal.returns
returns c =
    let o = c.args.opening.now in
    grown_twice c.args.out.now _ _ (opening_front c.args.number o) (told_pairs o) c.in_ok-put_opening_front.ensures c.in_ok-put_told.ensures
