-- the goals are answered here so that a wrong body is refused without a second search
use Rattle.std.proofs.Common.{rules}
use Rattle.schedule_text.specs.Reading.{secret_of}
use Rattle.schedule_text.proofs.line_reading.read_secret.Goals as goal

pub returns-in-Some : goal.returns-in-Some
unfolding secret_of
returns-in-Some c = search rules

pub returns-in-None : goal.returns-in-None
unfolding secret_of
returns-in-None c = search rules
