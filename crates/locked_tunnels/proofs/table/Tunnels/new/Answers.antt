use Rattle.locked_tunnels.proofs.Places.{same_none, ascends_none}
use Rattle.locked_tunnels.proofs.table.Tunnels.new.Goals as goal

pub invariant_of-result : goal.invariant_of-result
invariant_of-result c =
    (same_none c.in_ok-new.field-0 c.new-2.result c.in_ok-new.ensures.places c.new-2.ensures.entries, ascends_none c.new-2.result.entries c.new-2.ensures.entries)
