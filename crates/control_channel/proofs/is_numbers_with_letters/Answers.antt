use Rattle.control_channel.proofs.Parts.{each_call_acts_on_parts, begins_as_parts, lends_by_place}
use Rattle.control_channel.proofs.is_numbers_with_letters.Goals as goal

pub returns-clause-begins : goal.returns-clause-begins
returns-clause-begins c = begins_as_parts

pub returns-clause-calls : goal.returns-clause-calls
returns-clause-calls c = each_call_acts_on_parts

pub returns-clause-lends : goal.returns-clause-lends
returns-clause-lends c = lends_by_place
