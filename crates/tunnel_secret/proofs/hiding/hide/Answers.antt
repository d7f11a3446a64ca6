use Rattle.std.proofs.Common.{◌∙◌, ap, length}
use Rattle.tunnel_secret.specs.declared.hiding.Direction.TheVariants.{Hide}
use Rattle.tunnel_secret.specs.Hiding.{first_mask}
use Rattle.tunnel_secret.proofs.Blocks.{sized, length-text_of, length-md5}
use Rattle.tunnel_secret.proofs.Values.{length-plain_text}
use Rattle.tunnel_secret.proofs.hiding.hide.Goals as goal

pub returns-clause-len : goal.returns-clause-len
returns-clause-len c =
    sized c.transform.result _ _ c.transform.ensures
    (length-text_of Hide c.args.secret.now (first_mask c.args.attribute c.args.secret.now c.args.vector.now) c.as_slice.result.now (length-md5 _)
    ∙ ap length (c.as_slice.ensures ∙ c.in_ok-plain.ensures) ∙ length-plain_text c.args.value.now c.args.padding)
