use Rattle.std.proofs.Common.{true, ap, sym, ◌∙◌, ℕ, set}
use Rattle.avp_codec.specs.declared.avp.Avp.{Avp}
use Rattle.control_message.specs.Reading.{is_at}
use Rattle.control_message.proofs.Walk.{HasMarked, marked, kept, added}
use Rattle.control_message.proofs.checking.Seen.add.Goals as goal
use Rattle.control_message.proofs.checking.Seen.add.Goals.{then-is_at, else-is_at}

pub returns : goal.returns
returns c = λ before h.
    let pair = c.args.avp.now in
    let seen = c.args.self.now in
    let own = ap (λ (x : Avp). x.attribute) c.avp.view_is in
    let at = ap (λ (n : ℕ). is_at n pair) (sym own) ∙ sym c.is_at.ensures in
    let seen : HasMarked c.if-is_at.self before pair = elim c.if-is_at.branch [
      | then-is_at w ↦ marked seen c.if-is_at.self before pair h (at ∙ w.if-is_at.true) (w.self-is ∙ w.mark.ensures ∙ ap (λ (n : ℕ). record seen { attributes = set seen.attributes n true }) own)
      | else-is_at w ↦ kept seen c.if-is_at.self before pair h (at ∙ w.if-is_at.false) w.self-is
    ] in
    added c.if-is_at.self before pair c.is_draw.result c.is_vector.result c.is_draw.ensures c.is_vector.ensures seen
