-- How many sessions a message names.
use Rattle.std.specs.Prelude.{◌≤◌, length, Result, Ok, ⊤}
use Rattle.control_message.specs.declared.message.Message.{Message}
use Rattle.control_message.specs.declared.message.Message.TheVariants.{Fsq, Fsr}
use Rattle.wire_base.specs.declared.why.Why.{Why}

-- what is asked for, or answered, has room in one message
abbrev pub HasFew : Result Message Why → Type 0
HasFew (Ok (Fsq sessions)) = length sessions ≤ 4094
HasFew (Ok (Fsr sessions)) = length sessions ≤ 4094
HasFew said = ⊤
