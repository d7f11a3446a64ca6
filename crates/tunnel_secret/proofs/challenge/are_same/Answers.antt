use Rattle.std.proofs.Common.{arith}
use Rattle.std.proofs.lemmas.Bool.Decides.{nat_tests}
use Rattle.tunnel_secret.proofs.Bits.{none_differs, same_digests}
use Rattle.tunnel_secret.proofs.challenge.are_same.Goals as goal

pub loop-i-preserved : goal.loop-i-preserved
loop-i-preserved c = none_differs c.args.given.now c.args.wanted.now c.loop-i.differing c.loop-i.i c.loop-i.invariant

pub returns : goal.returns
returns c =
    let same = same_digests c.args.given.now c.args.wanted.now c.loop-i.differing c.loop-i.i c.told-given c.told-wanted c.loop-i-test.false c.loop-i.invariant in
    (λ t. same.0 (grind (arith, nat_tests)), λ e. let z = same.1 e in grind (arith, nat_tests))
