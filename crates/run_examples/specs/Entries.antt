-- Entries of a report.
use Rattle.std.specs.Prelude.{ℕ, List, [], filter, nat_le}
use Rattle.l2tp_header.specs.Spelling.{control_bytes}
use Rattle.avp_codec.specs.Spelling.{spelling}
use Rattle.control_message.specs.declared.message.Message.{Message}
use Rattle.control_message.specs.Pairs.{pairs_of}
use Rattle.world_model.specs.Texts.{Entry, Frames, Sends, HandsUp, Holds, Ends, Drops, Causes, Stopped}

abbrev pub line_in : Entry → ℕ
line_in (Sends line packet from to bytes) = line
line_in (HandsUp line node session birth side frame) = line
line_in (Holds line node number) = line
line_in (Ends line node session padt) = line
line_in (Frames line node bytes) = line
line_in (Drops line node why) = line
line_in (Causes line node cause) = line
line_in (Stopped line node) = line

-- those of a line and of the ones behind it
abbrev pub entries_since : ℕ → List Entry → List Entry
entries_since line entries = filter (λ x. nat_le line (line_in x)) entries

-- a letter with its numbers, to a tunnel and a session of the node that it goes to
abbrev pub message : (line packet from to tunnel session ns nr : ℕ) → Message → Entry
message line packet from to tunnel session ns nr m = Sends line packet from to (control_bytes tunnel session ns nr (spelling (pairs_of m)))

-- an acknowledgement alone
abbrev pub acknowledgement : (line packet from to tunnel ns nr : ℕ) → Entry
acknowledgement line packet from to tunnel ns nr = Sends line packet from to (control_bytes tunnel 0 ns nr [])
