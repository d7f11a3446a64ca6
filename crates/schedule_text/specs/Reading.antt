-- Reading a text as a schedule, with the first bad line.
use Rattle.std.specs.Prelude.{◌≡◌, ℕ, ◌+◌, Bool, true, false, not, ◌&&◌, if◌then◌else◌, nat_le, ◌==◌, List, [], ◌∷◌, length, codes, Option, Some, None, is_none, option_map, Result, Ok, Err}
use Rattle.std.specs.List.{list_all}
use Rattle.std.specs.Str.{bytes_eq, all_ascii_digits}
use Rattle.std.specs.Str.Parse.{digits_value}
use Rattle.hex.specs.Hex.{decode_of, encode_lower}
use Rattle.hex.specs.declared.error.FromHexError.{FromHexError}
use Rattle.schedule_text.specs.declared.line.Line.{Line}
use Rattle.schedule_text.specs.declared.line.Line.TheVariants.{Remark, Lac, Lns, OpenUp, Close, Ring, FromSub, Down, Hang, DropCall, Frame, Deliver, Load, Hand, Tick, Crash, Stop, Start}
use Rattle.schedule_text.specs.declared.error.ScheduleError.{ScheduleError}
use Rattle.schedule_text.specs.declared.error.ScheduleError.TheVariants.{BadLine, NoMemory}

-- what a call that failed tells of the reading: nothing where memory was wanting
abbrev pub Told : {Y : Type 0} → ScheduleError → Result Y ScheduleError → Type 0
Told NoMemory read = Unit {0}
Told e read = read ≡ Err e

-- ---- parts of a text

infixl 10 ◌>>=◌
abbrev pub ◌>>=◌ : {A B : Type 0} → Option A → (A → Option B) → Option B
None >>= f = None
(Some x) >>= f = f x

-- what stands before the first such byte, and what behind it, where there is one
abbrev pub cut : ℕ → List ℕ → Option (List ℕ × List ℕ)
cut c [] = None
cut c (x ∷ xs) = if x == c then Some ([], xs) else option_map (λ parts. (x ∷ parts.0, parts.1)) (cut c xs)

abbrev pub put_first : ℕ → List (List ℕ) → List (List ℕ)
put_first c [] = (c ∷ []) ∷ []
put_first c (line ∷ lines) = (c ∷ line) ∷ lines

-- the bytes of each line; a line feed ends a line, and so does the end of the text
abbrev pub text_lines : List ℕ → List (List ℕ)
text_lines [] = []
text_lines (c ∷ cs) = if c == 10 then [] ∷ text_lines cs else put_first c (text_lines cs)

-- ---- one line

-- what digits spell, where it isn't over a bound
unfoldable pub digits_of : ℕ → List ℕ → Option ℕ
digits_of most word = if all_ascii_digits word && nat_le (digits_value 10 word) most then Some (digits_value 10 word) else None

-- a byte, and no leading zero
abbrev pub begins_well : List ℕ → Bool
begins_well [] = false
begins_well (c ∷ []) = true
begins_well (c ∷ d ∷ ds) = not (c == 48)

-- the number that a word spells in decimal, where it is between two bounds
unfoldable pub number_of : ℕ → ℕ → List ℕ → Option ℕ
number_of least most word =
    if begins_well word then (digits_of most word >>= λ n. if nat_le least n then Some n else None) else None

abbrev pub node_of : List ℕ → Option ℕ
node_of word = number_of 1 255 word

abbrev pub port_of : List ℕ → Option ℕ
port_of word = number_of 1 65535 word

abbrev pub session_of : List ℕ → Option ℕ
session_of word = number_of 1 65535 word

abbrev pub packet_of : List ℕ → Option ℕ
packet_of word = number_of 1 4294967295 word

abbrev pub held_of : List ℕ → Option ℕ
held_of word = number_of 1 4294967295 word

abbrev pub milliseconds_of : List ℕ → Option ℕ
milliseconds_of word = number_of 0 86400000 word

-- what a word was decoded to, where its length is between two bounds; the word is its spelling, so no letter is upper case
abbrev pub bytes_from : ℕ → ℕ → List ℕ → Result (List ℕ) FromHexError → Option (List ℕ)
bytes_from least most word (Ok bytes) =
    if nat_le least (length bytes) && nat_le (length bytes) most && bytes_eq (encode_lower bytes) word then Some bytes else None
bytes_from least most word (Err e) = None

-- the bytes that a word spells in hex, where their length is between two bounds
unfoldable pub bytes_of : ℕ → ℕ → List ℕ → Option (List ℕ)
bytes_of least most word = bytes_from least most word (decode_of word)

abbrev pub frame_of : List ℕ → Option (List ℕ)
frame_of word = bytes_of 2 1494 word

abbrev pub ethernet_of : List ℕ → Option (List ℕ)
ethernet_of word = bytes_of 1 2048 word

-- the secret that a word spells, or that there is none
unfoldable pub secret_of : List ℕ → Option (Option (List ℕ))
secret_of word = if bytes_eq word (codes "-") then Some None else (bytes_of 1 64 word >>= λ secret. Some (Some secret))

-- whether a word says that calling numbers are hidden
abbrev pub mode_of : List ℕ → Option Bool
mode_of word = if bytes_eq word (codes "plain") then Some false else if bytes_eq word (codes "hide") then Some true else None

-- what follows the word of each kind of line, and a space

-- a LAC, its LNS, the word of their secret, and the mode
unfoldable pub mode_words_of : List ℕ → Option (ℕ × ℕ × List ℕ × Bool)
mode_words_of words =
    cut 32 words >>= λ first. cut 32 first.1 >>= λ second. cut 32 second.1 >>= λ third.
    node_of first.0 >>= λ node. node_of second.0 >>= λ lns. mode_of third.1 >>= λ hide. Some (node, lns, third.0, hide)

-- what is hidden needs a secret
abbrev pub lac_by : ℕ → ℕ → Option (List ℕ) → Bool → Option Line
lac_by node lns secret hide = if hide && is_none secret then None else Some (Lac node lns secret hide)

unfoldable pub lac_of : List ℕ → Option Line
lac_of words = mode_words_of words >>= λ said. secret_of said.2 >>= λ secret. lac_by said.0 said.1 secret said.3

unfoldable pub lns_of : List ℕ → Option Line
lns_of words =
    cut 32 words >>= λ first. node_of first.0 >>= λ node. secret_of first.1 >>= λ secret. Some (Lns node secret)

unfoldable pub open_of : List ℕ → Option Line
open_of words = node_of words >>= λ node. Some (OpenUp node)

unfoldable pub ring_of : List ℕ → Option Line
ring_of words =
    cut 32 words >>= λ first. node_of first.0 >>= λ node. port_of first.1 >>= λ port. Some (Ring node port)

-- a node, a call of it, and the word of a frame
unfoldable pub call_of : List ℕ → Option (ℕ × ℕ × List ℕ)
call_of words =
    cut 32 words >>= λ first. cut 32 first.1 >>= λ second.
    node_of first.0 >>= λ node. session_of second.0 >>= λ session. Some (node, session, second.1)

unfoldable pub from_sub_of : List ℕ → Option Line
from_sub_of words = call_of words >>= λ call. frame_of call.2 >>= λ frame. Some (FromSub call.0 call.1 frame)

unfoldable pub down_of : List ℕ → Option Line
down_of words = call_of words >>= λ call. frame_of call.2 >>= λ frame. Some (Down call.0 call.1 frame)

-- a node, and a session or a tunnel of it
unfoldable pub node_session_of : List ℕ → Option (ℕ × ℕ)
node_session_of words =
    cut 32 words >>= λ first. node_of first.0 >>= λ node. session_of first.1 >>= λ session. Some (node, session)

unfoldable pub hang_of : List ℕ → Option Line
hang_of words = node_session_of words >>= λ call. Some (Hang call.0 call.1)

unfoldable pub drop_of : List ℕ → Option Line
drop_of words = node_session_of words >>= λ call. Some (DropCall call.0 call.1)

unfoldable pub close_of : List ℕ → Option Line
close_of words = node_session_of words >>= λ tunnel. Some (Close tunnel.0 tunnel.1)

unfoldable pub frame_line_of : List ℕ → Option Line
frame_line_of words =
    cut 32 words >>= λ first. node_of first.0 >>= λ node. ethernet_of first.1 >>= λ bytes. Some (Frame node bytes)

unfoldable pub deliver_of : List ℕ → Option Line
deliver_of words = packet_of words >>= λ packet. Some (Deliver packet)

unfoldable pub tick_of : List ℕ → Option Line
tick_of words =
    cut 32 words >>= λ first. node_of first.0 >>= λ node. milliseconds_of first.1 >>= λ milliseconds. Some (Tick node milliseconds)

unfoldable pub crash_of : List ℕ → Option Line
crash_of words = node_of words >>= λ node. Some (Crash node)

unfoldable pub start_of : List ℕ → Option Line
start_of words = node_of words >>= λ node. Some (Start node)

abbrev pub commit_of : List ℕ → Option ℕ
commit_of word = number_of 1 255 word

abbrev pub device_call_of : List ℕ → Option ℕ
device_call_of word = number_of 1 4 word

-- whether a word says that what a stop commits is kept
abbrev pub kept_of : List ℕ → Option Bool
kept_of word = if bytes_eq word (codes "kept") then Some true else if bytes_eq word (codes "lost") then Some false else None

-- a node, a commit, a call, and whether it is kept
unfoldable pub stop_words_of : List ℕ → Option (ℕ × ℕ × ℕ × Bool)
stop_words_of words =
    cut 32 words >>= λ first. cut 32 first.1 >>= λ second. cut 32 second.1 >>= λ third.
    node_of first.0 >>= λ node. commit_of second.0 >>= λ commit. device_call_of third.0 >>= λ call. kept_of third.1 >>= λ kept.
    Some (node, commit, call, kept)

-- what is kept has its gate
abbrev pub stop_by : ℕ → ℕ → ℕ → Bool → Option Line
stop_by node commit call kept = if kept && not (nat_le 3 call) then None else Some (Stop node commit call kept)

unfoldable pub stop_of : List ℕ → Option Line
stop_of words = stop_words_of words >>= λ said. stop_by said.0 said.1 said.2 said.3

unfoldable pub load_of : List ℕ → Option Line
load_of words =
    cut 32 words >>= λ first. node_of first.0 >>= λ node. packet_of first.1 >>= λ packet. Some (Load node packet)

unfoldable pub hand_of : List ℕ → Option Line
hand_of words =
    cut 32 words >>= λ first. node_of first.0 >>= λ node. held_of first.1 >>= λ number. Some (Hand node number)

-- the line of a kind that carries a frame in two steps
unfoldable pub carry_of : List ℕ → List ℕ → Option Line
carry_of kind words =
    if bytes_eq kind (codes "load") then load_of words
    else if bytes_eq kind (codes "hand") then hand_of words
    else None

-- the line of a kind that crashes a node, or starts it again
unfoldable pub fall_of : List ℕ → List ℕ → Option Line
fall_of kind words =
    if bytes_eq kind (codes "crash") then crash_of words
    else if bytes_eq kind (codes "stop") then stop_of words
    else if bytes_eq kind (codes "start") then start_of words
    else carry_of kind words

-- the line of a kind that holds no bytes
unfoldable pub plain_of : List ℕ → List ℕ → Option Line
plain_of kind words =
    if bytes_eq kind (codes "open") then open_of words
    else if bytes_eq kind (codes "ring") then ring_of words
    else if bytes_eq kind (codes "hang") then hang_of words
    else if bytes_eq kind (codes "drop") then drop_of words
    else if bytes_eq kind (codes "close") then close_of words
    else if bytes_eq kind (codes "deliver") then deliver_of words
    else if bytes_eq kind (codes "tick") then tick_of words
    else fall_of kind words

unfoldable pub words_of : List ℕ → List ℕ → Option Line
words_of kind words =
    if bytes_eq kind (codes "lac") then lac_of words
    else if bytes_eq kind (codes "lns") then lns_of words
    else if bytes_eq kind (codes "data") then from_sub_of words
    else if bytes_eq kind (codes "down") then down_of words
    else if bytes_eq kind (codes "frame") then frame_line_of words
    else plain_of kind words

abbrev pub is_printable : ℕ → Bool
is_printable c = nat_le 32 c && nat_le c 126

unfoldable pub remark_of : List ℕ → Option Line
remark_of text = if list_all is_printable text then Some (Remark text) else None

-- the line that the bytes spell, if they spell one
unfoldable pub line_of : List ℕ → Option Line
line_of [] = None
line_of (c ∷ cs) = if c == 35 then remark_of cs else (cut 32 (c ∷ cs) >>= λ parts. words_of parts.0 parts.1)

-- ---- all lines

abbrev pub after_line : Option Line → List Line → List Line
after_line None lines = []
after_line (Some l) lines = l ∷ lines

-- the lines before the first bytes that spell none
unfoldable pub front_of : List (List ℕ) → List Line
front_of [] = []
front_of (bytes ∷ others) = after_line (line_of bytes) (front_of others)

-- all lines, or the first bad one
abbrev pub lines_of : List ℕ → Result (List Line) ScheduleError
lines_of text =
    let bytes = text_lines text in
    let front = front_of bytes in
    if length front == length bytes then Ok front else Err (BadLine (length front + 1))
