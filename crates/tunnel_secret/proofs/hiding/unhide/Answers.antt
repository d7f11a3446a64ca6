use Rattle.std.proofs.Common.{◌∙◌, ap, subst}
use Rattle.wire_base.specs.Answers.{Gives}
use Rattle.tunnel_secret.specs.Revealing.{Told, value_of}
use Rattle.tunnel_secret.proofs.Values.{hides, hides_none, given_again, told_again}
use Rattle.tunnel_secret.proofs.hiding.unhide.Goals as goal

pub returns-clause-found : goal.returns-clause-found
returns-clause-found c =
    hides c.args.attribute c.args.secret.now c.args.vector.now c.args.cipher.now _ c.read_plain.result (c.as_slice.ensures ∙ c.in_ok-plain.ensures) c.read_plain.ensures.found

pub returns-clause-fault : goal.returns-clause-fault
returns-clause-fault c =
    hides_none c.args.attribute c.args.secret.now c.args.vector.now c.args.cipher.now _ c.read_plain.result (c.as_slice.ensures ∙ c.in_ok-plain.ensures) c.read_plain.ensures.fault

pub returns-clause-only : goal.returns-clause-only
returns-clause-only c = λ v h.
    subst (Gives Told (λ x. x) c.read_plain.result)
    (ap value_of (c.as_slice.ensures ∙ c.in_ok-plain.ensures) ∙ given_again c.args.attribute c.args.secret.now c.args.vector.now v c.args.cipher.now h)
    c.read_plain.ensures.exact

pub returns-clause-told : goal.returns-clause-told
returns-clause-told c = λ said have h.
    subst (Gives Told (λ x. x) c.read_plain.result)
    (ap value_of (c.as_slice.ensures ∙ c.in_ok-plain.ensures) ∙ told_again c.args.attribute c.args.secret.now c.args.vector.now c.args.cipher.now said have h)
    c.read_plain.ensures.exact
