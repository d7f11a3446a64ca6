use Rattle.std.proofs.Common.{Some, arith}
use Rattle.message_reading.proofs.uncovering.uncover_pairs.Goals as goal

pub spell_uncovered-requires : goal.spell_uncovered-requires
spell_uncovered-requires c =
    c.spells_what_was_uncovered.ensures.are (Some c.args.secret.now) c.args.body.now c.args.avps.now (λ i. omega (arith, c.type_inv.body i)) c.requires
