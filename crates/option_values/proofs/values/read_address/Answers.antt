use Rattle.option_values.proofs.Addresses.{no_address}
use Rattle.option_values.proofs.values.read_address.Goals as goal

pub returns-in-Err : goal.returns-in-Err
returns-in-Err c = no_address c.args.word.now c.in-Err.ensures.value
