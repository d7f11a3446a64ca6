use Rattle.tunnel_listing.proofs.Listing.{indexed_change}
use Rattle.tunnel_listing.proofs.indexes.Indexes.change.Goals as goal

pub returns : goal.returns
returns c f g kept was is others =
    indexed_change c.args.self.now c.relabel.new.self f g c.args.id c.args.before.now c.args.after.now c.relabel.ensures was is others c.is_small.ensures kept
