use Rattle.capture_laws.proofs.Sent.{sends_are_read, frames_are_read}
use Rattle.capture_laws.proofs.texts.sent_texts_are_read.Goals as goal

pub returns-clause-sends : goal.returns-clause-sends
returns-clause-sends c = sends_are_read

pub returns-clause-frames : goal.returns-clause-frames
returns-clause-frames c = frames_are_read
