use Rattle.std.proofs.Common.{◌≡◌, Ok, ap, sym, ◌∙◌, rules}
use Rattle.control_message.specs.declared.message.Read.{Read}
use Rattle.end_model.specs.Reading.{message_said, zero_pairs, zero_read}
use Rattle.message_reading.proofs.zero.zero_whole.Goals as goal

pub returns-in-Ok-Known : goal.returns-in-Ok-Known
unfolding zero_pairs
returns-in-Ok-Known c =
    let avps = c.args.avps.now in
    let said : Ok c.in-Ok-Known.field-0 ≡ message_said avps = search rules in
    c.zero_known.ensures avps ∙ ap (λ (m : Read). zero_read avps (Ok m)) (sym c.in-Ok-Known.field-0-is) ∙ ap (λ r. zero_read avps r) said
