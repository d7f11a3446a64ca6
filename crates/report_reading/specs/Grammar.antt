-- The one spelling of the lines that tell what was sent, as reports write them (without the line feed), and which have one.
use Rattle.std.specs.Prelude.{◌≡◌, ℕ, ◌≤◌, List, [], ◌++◌, length, codes}
use Rattle.std.specs.Fmt.{decimal}
use Rattle.hex.specs.Hex.{encode_lower, IsBytes}
use Rattle.schedule_text.specs.Grammar.{IsNode}
use Rattle.report_reading.specs.declared.entry.Entry.{Entry}
use Rattle.report_reading.specs.declared.entry.Entry.TheVariants.{Datagram, Frame, Other}

abbrev pub sent_text : Entry → List ℕ
sent_text (Datagram line packet from to bytes) =
    decimal line ++ codes " send " ++ decimal packet ++ codes " " ++ decimal from ++ codes " " ++ decimal to ++ codes " " ++ encode_lower bytes
sent_text (Frame line node bytes) = decimal line ++ codes " frame " ++ decimal node ++ codes " " ++ encode_lower bytes
sent_text Other = []

-- the number of a line of a schedule, or of a packet
abbrev pub IsCount : ℕ → Type 0
IsCount n = (1 ≤ n) × (n ≤ 4294967295)

-- what UDP carries in an IPv4 packet
abbrev pub IsPayload : List ℕ → Type 0
IsPayload bytes = (1 ≤ length bytes) × (length bytes ≤ 65507) × IsBytes bytes

-- what was sent, and has a spelling
abbrev pub FitsSent : Entry → Type 0
FitsSent (Datagram line packet from to bytes) = IsCount line × IsCount packet × IsNode from × IsNode to × IsPayload bytes
FitsSent (Frame line node bytes) = IsCount line × IsNode node × IsPayload bytes
FitsSent Other = ⊥

-- of a line that is read as what was sent this is the spelling
abbrev pub IsSpelled : Entry → List ℕ → Type 0
IsSpelled (Datagram line packet from to bytes) text = FitsSent (Datagram line packet from to bytes) × (text ≡ sent_text (Datagram line packet from to bytes))
IsSpelled (Frame line node bytes) text = FitsSent (Frame line node bytes) × (text ≡ sent_text (Frame line node bytes))
IsSpelled Other text = Unit {0}
