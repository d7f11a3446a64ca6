use Rattle.tunnel_table.proofs.Listing.{kept_without}
use Rattle.tunnel_table.proofs.indexes.Indexes.unlist.Goals as goal

pub returns : goal.returns
returns c ts kept was = kept_without c.args.self.now c.relabel.new.self ts c.args.id c.args.before.now c.ranges.id.fits was c.relabel.ensures kept
