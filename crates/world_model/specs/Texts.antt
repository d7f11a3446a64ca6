-- The lines of the report.
use Rattle.std.specs.Prelude.{ℕ, List, [], ◌++◌, codes, Option, Some, None}
use Rattle.std.specs.List.{flat_map}
use Rattle.std.specs.Fmt.{decimal}
use Rattle.hex.specs.Hex.{encode_lower}
use Rattle.wire_base.specs.declared.why.Why.{Why}
use Rattle.wire_base.specs.declared.cause.Cause.{Cause}
use Rattle.wire_base.specs.declared.letter.Side.{Side}
use Rattle.wire_base.specs.declared.letter.Side.TheVariants.{Sub, Net, Lcp}
use Rattle.wire_base.specs.Words.{why_word, cause_word}

-- words, parted by one space
infixl 8 ◌&◌
abbrev pub ◌&◌ : List ℕ → List ℕ → List ℕ
a & b = a ++ codes " " ++ b

abbrev pub ended : List ℕ → List ℕ
ended text = text ++ codes "\n"

-- line, the packet's number, who sent it, to whom, and its bytes in hex
unfoldable pub send_text : ℕ → ℕ → ℕ → ℕ → List ℕ → List ℕ
send_text line packet from to bytes =
    ended (decimal line & codes "send" & decimal packet & decimal from & decimal to & encode_lower bytes)

unfoldable pub drop_text : ℕ → ℕ → Why → List ℕ
drop_text line node x = ended (decimal line & codes "drop" & decimal node & why_word x)

unfoldable pub cause_text : ℕ → ℕ → Cause → List ℕ
cause_text line node x = ended (decimal line & codes "cause" & decimal node & cause_word x)

abbrev pub side_word : Side → List ℕ
side_word Sub = codes "sub"
side_word Net = codes "net"
side_word Lcp = codes "lcp"

-- line, node, local session, birth, where the frame goes, and its bytes in hex
unfoldable pub up_text : ℕ → ℕ → ℕ → ℕ → Side → List ℕ → List ℕ
up_text line node session birth side frame =
    ended (decimal line & codes "up" & decimal node & decimal session & decimal birth & side_word side & encode_lower frame)

-- a frame is held: line, node, and the frame's number
unfoldable pub held_text : ℕ → ℕ → ℕ → List ℕ
held_text line node number = ended (decimal line & codes "held" & decimal node & decimal number)

-- a call ended: line, node, local session
unfoldable pub gone_text : ℕ → ℕ → ℕ → List ℕ
gone_text line node session = ended (decimal line & codes "gone" & decimal node & decimal session)

-- an Ethernet frame that a LAC sends to a host: line, node, and its bytes in hex
unfoldable pub frame_text : ℕ → ℕ → List ℕ → List ℕ
frame_text line node bytes = ended (decimal line & codes "frame" & decimal node & encode_lower bytes)

-- the PADT to the host of a call that ended, where a host had it
abbrev pub farewell_text : ℕ → ℕ → Option (List ℕ) → List ℕ
farewell_text line node None = []
farewell_text line node (Some padt) = frame_text line node padt

-- a node stopped amid its commits
unfoldable pub stopped_text : ℕ → ℕ → List ℕ
stopped_text line node = ended (decimal line & codes "stopped" & decimal node)

-- ---- entries

-- lines of the report, before the tables at its end
pub data Entry : Type 0 where
  -- of a packet with its number, from a node, to a node
  Sends : (line packet from to : ℕ) (bytes : List ℕ) → Entry
  -- of a frame that a node hands up in a call, by its session and its birth
  HandsUp : (line node session birth : ℕ) (side : Side) (frame : List ℕ) → Entry
  -- of a frame that is held at a node, by its number
  Holds : (line node number : ℕ) → Entry
  -- of a call that ended, with the PADT to its host, where a host had it
  Ends : (line node session : ℕ) (padt : Option (List ℕ)) → Entry
  -- of an Ethernet frame that a LAC sends to a host
  Frames : (line node : ℕ) (bytes : List ℕ) → Entry
  Drops : (line node : ℕ) (why : Why) → Entry
  Causes : (line node : ℕ) (cause : Cause) → Entry
  -- of a node that stopped inside a commit, and is down
  Stopped : (line node : ℕ) → Entry

abbrev pub entry_text : Entry → List ℕ
entry_text (Sends line packet from to bytes) = send_text line packet from to bytes
entry_text (HandsUp line node session birth side frame) = up_text line node session birth side frame
entry_text (Holds line node number) = held_text line node number
entry_text (Ends line node session padt) = gone_text line node session ++ farewell_text line node padt
entry_text (Frames line node bytes) = frame_text line node bytes
entry_text (Drops line node why) = drop_text line node why
entry_text (Causes line node cause) = cause_text line node cause
entry_text (Stopped line node) = stopped_text line node

abbrev pub entries_text : List Entry → List ℕ
entries_text entries = flat_map entry_text entries
