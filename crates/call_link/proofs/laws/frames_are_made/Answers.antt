use Rattle.call_link.proofs.Making.{each_frame_is_made, each_packet_is_given, each_frame_is_for_link}
use Rattle.call_link.proofs.laws.frames_are_made.Goals as goal

pub returns-clause-made : goal.returns-clause-made
returns-clause-made c = each_frame_is_made

pub returns-clause-all : goal.returns-clause-all
returns-clause-all c = each_packet_is_given

pub returns-clause-for_link : goal.returns-clause-for_link
returns-clause-for_link c = each_frame_is_for_link
