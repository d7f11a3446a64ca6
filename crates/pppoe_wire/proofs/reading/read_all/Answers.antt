use Rattle.std.proofs.Common.{drop, subst}
use Rattle.std.proofs.lemmas.List.{take_rest}
use Rattle.pppoe_wire.specs.Grammar.{Fronts}
use Rattle.pppoe_wire.proofs.Tags.{nearer}
use Rattle.pppoe_wire.proofs.reading.read_all.Goals as goal

pub loop-tags-smaller : goal.loop-tags-smaller
loop-tags-smaller c =
    let found = rw take_rest at c.in_ok-tag.ensures.found in
    nearer c.args.payload.now c.loop-tags.tags c.loop-tags.at c.in-Some.tag c.in-Some.len c.loop-tags.invariant (subst (Fronts (drop c.loop-tags.at c.args.payload.now)) c.in-Some.is found)
