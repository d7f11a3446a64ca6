use Rattle.std.proofs.Common.{refl, subst}
use Rattle.control_message.specs.declared.kind.Kinds.TheVariants.{Queries}
use Rattle.control_message.specs.Grammar.{Says}
use Rattle.message_reading.proofs.Few.{few_said}
use Rattle.message_reading.proofs.reading.said_of.Goals as goal

pub returns-in-Ok-Known-clause-few : goal.returns-in-Ok-Known-clause-few
returns-in-Ok-Known-clause-few c =
    let avps = c.args.avps.now in
    let says = subst (Says Queries avps) c.in-Ok-Known.field-0-is (c.in-Ok-Known.ensures.found avps refl) in
    few_said Queries avps c.in-Ok-Known.message says c.requires.room
