-- The one spelling of each line, and which texts are schedules.
use Rattle.std.specs.Prelude.{◌≡◌, ℕ, ◌+◌, ◌<◌, ◌≤◌, ◌⊎◌, List, [], ◌∷◌, ◌++◌, length, codes, Bool, true, if◌then◌else◌, Option, Some, None, IsSome, IfSome}
use Rattle.std.specs.List.{flat_map, AllByRecursion}
use Rattle.std.specs.Fmt.{decimal}
use Rattle.hex.specs.Hex.{encode_lower, IsBytes}
use Rattle.schedule_text.specs.declared.line.Line.{Line}
use Rattle.schedule_text.specs.declared.line.Line.TheVariants.{Remark, Lac, Lns, OpenUp, Close, Ring, FromSub, Down, Hang, DropCall, Frame, Deliver, Load, Hand, Tick, Crash, Stop, Start}
use Rattle.schedule_text.specs.declared.error.ScheduleError.{ScheduleError}
use Rattle.schedule_text.specs.declared.error.ScheduleError.TheVariants.{BadLine, NoMemory}

-- the spelling of a frame of a call; each byte of the frame is two digits of hex, with letters in lower case
abbrev pub call_text : ℕ → ℕ → List ℕ → List ℕ
call_text node session frame = decimal node ++ codes " " ++ decimal session ++ codes " " ++ encode_lower frame

-- the spelling of a secret; each byte is two digits of hex, with letters in lower case
abbrev pub secret_text : Option (List ℕ) → List ℕ
secret_text None = codes "-"
secret_text (Some secret) = encode_lower secret

-- the spelling of a mode: calling numbers are hidden, or they aren't
abbrev pub mode_text : Bool → List ℕ
mode_text hide = if hide then codes "hide" else codes "plain"

-- what a stop commits is kept, or it is lost
abbrev pub kept_text : Bool → List ℕ
kept_text kept = if kept then codes "kept" else codes "lost"

-- the spelling of a line, without the line feed that ends it; words are parted by one space
abbrev pub line_text : Line → List ℕ
line_text (Remark text) = codes "#" ++ text
line_text (Lac node lns secret hide) =
    codes "lac " ++ decimal node ++ codes " " ++ decimal lns ++ codes " " ++ secret_text secret ++ codes " " ++ mode_text hide
line_text (Lns node secret) = codes "lns " ++ decimal node ++ codes " " ++ secret_text secret
line_text (OpenUp node) = codes "open " ++ decimal node
line_text (Close node tunnel) = codes "close " ++ decimal node ++ codes " " ++ decimal tunnel
line_text (Ring node port) = codes "ring " ++ decimal node ++ codes " " ++ decimal port
line_text (FromSub node session frame) = codes "data " ++ call_text node session frame
line_text (Down node session frame) = codes "down " ++ call_text node session frame
line_text (Hang node session) = codes "hang " ++ decimal node ++ codes " " ++ decimal session
line_text (DropCall node session) = codes "drop " ++ decimal node ++ codes " " ++ decimal session
line_text (Frame node bytes) = codes "frame " ++ decimal node ++ codes " " ++ encode_lower bytes
line_text (Deliver packet) = codes "deliver " ++ decimal packet
line_text (Load node packet) = codes "load " ++ decimal node ++ codes " " ++ decimal packet
line_text (Hand node number) = codes "hand " ++ decimal node ++ codes " " ++ decimal number
line_text (Tick node milliseconds) = codes "tick " ++ decimal node ++ codes " " ++ decimal milliseconds
line_text (Crash node) = codes "crash " ++ decimal node
line_text (Stop node commit call kept) =
    codes "stop " ++ decimal node ++ codes " " ++ decimal commit ++ codes " " ++ decimal call ++ codes " " ++ kept_text kept
line_text (Start node) = codes "start " ++ decimal node

-- a printable ASCII byte
abbrev pub IsPrintable : ℕ → Type 0
IsPrintable c = (32 ≤ c) × (c ≤ 126)

abbrev pub IsNode : ℕ → Type 0
IsNode n = (1 ≤ n) × (n ≤ 255)

abbrev pub IsPort : ℕ → Type 0
IsPort n = (1 ≤ n) × (n ≤ 65535)

abbrev pub IsTunnel : ℕ → Type 0
IsTunnel n = (1 ≤ n) × (n ≤ 65535)

abbrev pub IsSession : ℕ → Type 0
IsSession n = (1 ≤ n) × (n ≤ 65535)

-- what both ends of a tunnel know, in bytes
abbrev pub IsSecret : List ℕ → Type 0
IsSecret secret = (1 ≤ length secret) × (length secret ≤ 64) × IsBytes secret

-- what is hidden is hidden by a secret
abbrev pub HasSecret : Bool → Option (List ℕ) → Type 0
HasSecret hide secret = hide ≡ true → IsSome secret

-- a PPP frame from its protocol field on, which has two bytes; PPPoE's six leave it 1494 of the 1500 that Ethernet carries
abbrev pub IsFrame : List ℕ → Type 0
IsFrame frame = (2 ≤ length frame) × (length frame ≤ 1494) × IsBytes frame

-- an Ethernet frame from its destination address on; one that is too short for its header may come, or one longer than Ethernet's own
abbrev pub IsEthernet : List ℕ → Type 0
IsEthernet bytes = (1 ≤ length bytes) × (length bytes ≤ 2048) × IsBytes bytes

abbrev pub IsPacket : ℕ → Type 0
IsPacket n = (1 ≤ n) × (n ≤ 4294967295)

-- a frame that a node holds
abbrev pub IsHeld : ℕ → Type 0
IsHeld n = (1 ≤ n) × (n ≤ 4294967295)

-- how far a clock goes on at once, in milliseconds: a day at most
abbrev pub IsMilliseconds : ℕ → Type 0
IsMilliseconds n = n ≤ 86400000

-- which of the commits to come
abbrev pub IsCommit : ℕ → Type 0
IsCommit n = (1 ≤ n) × (n ≤ 255)

-- a call of the device; a record is kept only where its gate was written, which the third call does
abbrev pub IsDeviceCall : Bool → ℕ → Type 0
IsDeviceCall kept n = (1 ≤ n) × (n ≤ 4) × (kept ≡ true → 3 ≤ n)

-- which lines have a spelling
abbrev pub FitsLine : Line → Type 0
FitsLine (Remark text) = AllByRecursion IsPrintable text
FitsLine (Lac node lns secret hide) = IsNode node × IsNode lns × IfSome secret IsSecret × HasSecret hide secret
FitsLine (Lns node secret) = IsNode node × IfSome secret IsSecret
FitsLine (OpenUp node) = IsNode node
FitsLine (Close node tunnel) = IsNode node × IsTunnel tunnel
FitsLine (Ring node port) = IsNode node × IsPort port
FitsLine (FromSub node session frame) = IsNode node × IsSession session × IsFrame frame
FitsLine (Down node session frame) = IsNode node × IsSession session × IsFrame frame
FitsLine (Hang node session) = IsNode node × IsSession session
FitsLine (DropCall node session) = IsNode node × IsSession session
FitsLine (Frame node bytes) = IsNode node × IsEthernet bytes
FitsLine (Deliver packet) = IsPacket packet
FitsLine (Load node packet) = IsNode node × IsPacket packet
FitsLine (Hand node number) = IsNode node × IsHeld number
FitsLine (Tick node milliseconds) = IsNode node × IsMilliseconds milliseconds
FitsLine (Crash node) = IsNode node
FitsLine (Stop node commit call kept) = IsNode node × IsCommit commit × IsDeviceCall kept call
FitsLine (Start node) = IsNode node

abbrev pub AreLines : List Line → Type 0
AreLines lines = AllByRecursion FitsLine lines

-- a line feed behind each line
abbrev pub spelling : List Line → List ℕ
spelling lines = flat_map (λ l. line_text l ++ 10 ∷ []) lines

-- the text of the lines, of which the last may lack its line feed
abbrev pub IsText : List ℕ → List Line → Type 0
IsText text lines = (text ≡ spelling lines) ⊎ (text ++ 10 ∷ [] ≡ spelling lines)

-- ---- schedules

-- the text spells these lines, and each is in the grammar
pub record IsSchedule (text : List ℕ) (lines : List Line) : Type 0 where
  pub fits : AreLines lines
  pub spelled : IsText text lines

-- a line ends at a line feed, or at the end of the text where it has a byte
abbrev pub EndsLine : List ℕ → List ℕ → Type 0
EndsLine line [] = 0 < length line
EndsLine line (c ∷ rest) = c ≡ 10

-- lines that are as they should be, and then one that spells no line
pub record IsBadLine (text : List ℕ) (number : ℕ) : Type 0 where
  pub before : List Line
  pub line : List ℕ
  pub rest : List ℕ
  pub fits : AreLines before
  pub parts : text ≡ spelling before ++ line ++ rest
  pub no_feed : AllByRecursion (λ c. ¬ (c ≡ 10)) line
  pub ends : EndsLine line rest
  pub place : number ≡ length before + 1
  pub wrong : (l : Line) → FitsLine l → ¬ (line ≡ line_text l)

-- the bad line that was told, if one was; no lines are a schedule of such a text
abbrev pub IsFirstBad : List ℕ → ScheduleError → Type 0
IsFirstBad text NoMemory = Unit {0}
IsFirstBad text (BadLine line) = IsBadLine text line × ((lines : List Line) → ¬ (IsSchedule text lines))
