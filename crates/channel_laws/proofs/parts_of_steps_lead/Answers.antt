use Rattle.channel_laws.proofs.Ending.{StepLaws}
use Rattle.channel_laws.proofs.Moving.{Kinds}
use Rattle.channel_laws.proofs.Parts.{parts_lead}
use Rattle.channel_laws.proofs.parts_of_steps_lead.Goals as goal

pub returns : goal.returns
returns c =
    let below = c.laws_below.ensures in
    let steps = c.laws_of_steps.ensures in
    let laws : StepLaws = record { chains = steps.chains; no_starts = steps.no_starts; reads = steps.reads; booked = steps.booked; again = below.again; has_room = below.room } in
    let kinds : Kinds = record {
      still = c.still_moves_keep.ensures;
      recoveries = c.recoveries_keep.ensures;
      giving = c.giving_moves_keep.ensures;
      opening = c.opening_moves_keep.ensures;
      taking = c.taking_moves_keep.ensures;
      beginning = c.beginning_moves_keep.ensures;
    } in
    parts_lead laws kinds below.codecs below.classes
