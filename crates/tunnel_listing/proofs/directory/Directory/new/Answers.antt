use Rattle.tunnel_listing.proofs.Standing.{holds_empty}
use Rattle.tunnel_listing.proofs.directory.Directory.new.Goals as goal

pub invariant_of-result : goal.invariant_of-result
invariant_of-result c = holds_empty c.new-2.result c.new.result.entries c.new-2.ensures c.new.ensures.entries
