use Rattle.std.proofs.Common.{Ok, rules}
use Rattle.l2tp_datagram.proofs.Room.{pairs_room}
use Rattle.l2tp_datagram.proofs.Body.pairs.Goals as goal

pub returns-in-Ok-clause-room : goal.returns-in-Ok-clause-room
returns-in-Ok-clause-room c = pairs_room c.args.self.now (Ok c.new.result) (search rules) (search rules)
