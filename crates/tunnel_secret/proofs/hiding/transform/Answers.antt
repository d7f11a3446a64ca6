use Rattle.std.proofs.Common.{◌∙◌, ap, ◌++◌, ◌<◌, length, take, arith}
use Rattle.std.proofs.lemmas.Bool.Decides.{nat_tests}
use Rattle.tunnel_secret.specs.Hiding.{text_of, next_mask}
use Rattle.tunnel_secret.proofs.Blocks.{goes_on, is_over}
use Rattle.tunnel_secret.proofs.hiding.transform.Goals as goal

pub loop-rest-preserved : goal.loop-rest-preserved
loop-rest-preserved c =
    let some : 0 < length c.loop-rest.rest.now = grind (arith, nat_tests) in
    ap (λ out. out ++ text_of c.args.direction c.args.secret.now c.make_next_mask-mask.result c.split_at.result.1.now) c.in_ok-push_slice.ensures.ok
    ∙ goes_on c.args.direction c.args.secret.now c.loop-rest.mask _ c.loop-rest.rest.now _ _ (take (length c.split_at.result.0.now) c.xor_into-cells.result) c.loop-rest.out _ c.min.result
    c.loop-rest.invariant some c.min.ensures c.split_at.ensures.front c.split_at.ensures.back c.xor_into-cells.ensures
    (c.make_next_mask-mask.ensures ∙ ap (next_mask c.args.secret.now) c.cipher_block.ensures)

pub returns : goal.returns
returns c =
    is_over c.args.direction c.args.secret.now c.loop-rest.mask c.loop-rest.rest.now c.loop-rest.out _ c.loop-rest.invariant (grind (arith, nat_tests))
