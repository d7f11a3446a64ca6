use Rattle.std.proofs.Common.{◌≢◌, arith, get_or-set_other, length-set}
use Rattle.tunnel_secret.proofs.Bits.{xored_front, xored_more}
use Rattle.tunnel_secret.proofs.hiding.xor_into.Goals as goal

pub loop-i-preserved : goal.loop-i-preserved
loop-i-preserved c = record {
  made = xored_more c.loop-i.cells c.args.mask.now c.args.block.now c.loop-i.i (omega arith) c.loop-i.invariant.made c.loop-i.invariant.rest;
  rest = λ k le. let ne : k ≢ c.loop-i.i = omega arith in rw get_or-set_other (c.loop-i.invariant.rest k (omega arith));
  same = rw length-set c.loop-i.invariant.same;
}

pub returns : goal.returns
returns c = xored_front c.loop-i.cells c.args.mask.now c.args.block.now c.loop-i.invariant.same (omega arith) (λ k lt. c.loop-i.invariant.made k (omega arith))
