use Rattle.std.proofs.Common.{sym, ◌∙◌, arith}
use Rattle.tunnel_listing.proofs.Standing.{none_first, some_first}
use Rattle.tunnel_listing.proofs.directory.look_through.Goals as goal

pub returns-then-is_wanted_in : goal.returns-then-is_wanted_in
returns-then-is_wanted_in c =
    some_first c.args.wanted c.args.places.now.entries c.loop-id.id c.loop-id-test.true
    (sym c.is_wanted_in.ensures ∙ c.if-is_wanted_in.true) c.loop-id.invariant

pub returns : goal.returns
returns c =
    none_first c.args.wanted c.args.places.now.entries c.requires
    (λ j lt. c.loop-id.invariant j (omega (arith, lt, c.loop-id-test.false)))
