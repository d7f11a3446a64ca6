use Rattle.frame_laws.proofs.Runs.{packets_of_runs, given_in_runs}
use Rattle.frame_laws.proofs.sent_frames_are_packets.Goals as goal

pub returns-clause-packets : goal.returns-clause-packets
returns-clause-packets c = packets_of_runs c.written_is_read_again.ensures c.laws_of_steps.ensures

pub returns-clause-given : goal.returns-clause-given
returns-clause-given c = given_in_runs c.written_is_read_again.ensures c.laws_of_steps.ensures
