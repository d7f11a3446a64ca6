use Rattle.tunnel_listing.proofs.Listing.{indexed_empty}
use Rattle.tunnel_listing.proofs.indexes.Indexes.new.Goals as goal

pub returns : goal.returns
returns c =
    indexed_empty (record { remotes = c.new.result; states = c.new-2.result; lines = c.new-3.result; answers = c.new-4.result })
    c.new.ensures c.new-2.ensures c.new-3.ensures c.new-4.ensures
