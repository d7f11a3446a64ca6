-- What an end wrote of a recovery is read again, as control_message's laws say it of each reader that knows the message.
use Rattle.std.specs.Prelude.{◌≡◌, ◌≤◌, length, Ok}
use Rattle.avp_codec.specs.Spelling.{spelling}
use Rattle.avp_codec.specs.Reading.{avps_of}
use Rattle.control_message.specs.declared.kind.Kinds.{Kinds}
use Rattle.control_message.specs.declared.message.Message.{Message}
use Rattle.control_message.specs.declared.message.Read.TheVariants.{Known}
use Rattle.control_message.specs.Grammar.{IsKnownTo}
use Rattle.control_message.specs.Pairs.{pairs_of, IsWritten}
use Rattle.control_message.specs.Reading.{message_by}

abbrev pub WrittenIsRead : Type 0
WrittenIsRead = (known : Kinds) (m : Message) → IsKnownTo m known → IsWritten m
    → (avps_of (spelling (pairs_of m)) ≡ Ok (pairs_of m)) × (message_by known (pairs_of m) ≡ Ok (Known m))

abbrev pub WrittenHasRoom : Type 0
WrittenHasRoom = (m : Message) → IsWritten m → length (spelling (pairs_of m)) ≤ 65523
