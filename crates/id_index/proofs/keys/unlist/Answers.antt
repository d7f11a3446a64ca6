use Rattle.id_index.proofs.Listing.{gone_lists}
use Rattle.id_index.proofs.keys.unlist.Goals as goal

pub returns-in-Some : goal.returns-in-Some
returns-in-Some c k =
    rw c.in-Some.is
    (gone_lists c.args.id c.in-Some.label c.key.result c.args.keys.now.entries c.remove.new.self.entries c.key.ensures c.remove.ensures.updates.0 k)
