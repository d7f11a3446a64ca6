use Rattle.end_names.proofs.Digits.{length-calling_number}
use Rattle.end_names.proofs.names.twelve_digits.Goals as goal

pub returns : goal.returns
returns c = length-calling_number
