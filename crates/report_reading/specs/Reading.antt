-- Reading a text as a report, with the first bad line.
use Rattle.std.specs.Prelude.{◌≡◌, ◌≤◌, ℕ, ◌+◌, Bool, false, ◌&&◌, ◌||◌, if◌then◌else◌, nat_lt, List, [], ◌∷◌, length, take, drop, codes, Option, Some, None, is_some, Result, Ok, Err}
use Rattle.std.specs.Str.{bytes_eq}
use Rattle.schedule_text.specs.Reading.{◌>>=◌, cut, text_lines, number_of, node_of, bytes_of}
use Rattle.report_reading.specs.declared.entry.Entry.{Entry}
use Rattle.report_reading.specs.declared.entry.Entry.TheVariants.{Datagram, Frame, Other}
use Rattle.report_reading.specs.declared.error.ReportError.{ReportError}
use Rattle.report_reading.specs.declared.error.ReportError.TheVariants.{BadLine, NoMemory}
use Rattle.report_reading.specs.declared.fields.Field.TheVariants as field
use Rattle.report_reading.specs.Fields.{is_word, fits_field, fits}

-- what a call that failed tells of the reading: nothing where memory was wanting
abbrev pub Told : {Y : Type 0} → ReportError → Result Y ReportError → Type 0
Told NoMemory read = Unit {0}
Told e read = read ≡ Err e

-- ---- parts of a line

-- what stands behind a front, where the text begins with it
unfoldable pub behind : List ℕ → List ℕ → Option (List ℕ)
behind front text =
    if nat_lt (length text) (length front) then None
    else if bytes_eq (take (length front) text) front then Some (drop (length front) text)
    else None

-- a line of a schedule, or a packet
abbrev pub count_of : List ℕ → Option ℕ
count_of word = number_of 1 4294967295 word

abbrev pub amount_of : List ℕ → Option ℕ
amount_of word = number_of 0 4294967295 word

-- the bytes of a datagram or of a frame: as many as UDP carries in an IPv4 packet
abbrev pub payload_of : List ℕ → Option (List ℕ)
payload_of word = bytes_of 1 65507 word

-- whether a text has two parts that are as they should be
abbrev pub with_both : Option (List ℕ × List ℕ) → (List ℕ → List ℕ → Bool) → Bool
with_both None test = false
with_both (Some parts) test = test parts.0 parts.1

-- ---- what a line of the schedule did

-- a packet, its two nodes, and the word of its bytes
unfoldable pub packet_words_of : List ℕ → Option (ℕ × ℕ × ℕ × List ℕ)
packet_words_of words =
    cut 32 words >>= λ first. cut 32 first.1 >>= λ second. cut 32 second.1 >>= λ third.
    count_of first.0 >>= λ packet. node_of second.0 >>= λ from. node_of third.0 >>= λ to. Some (packet, from, to, third.1)

unfoldable pub send_of : ℕ → List ℕ → Option Entry
send_of line words =
    packet_words_of words >>= λ said. payload_of said.3 >>= λ bytes. Some (Datagram line said.0 said.1 said.2 bytes)

unfoldable pub frame_of : ℕ → List ℕ → Option Entry
frame_of line words =
    cut 32 words >>= λ first. node_of first.0 >>= λ node. payload_of first.1 >>= λ bytes. Some (Frame line node bytes)

-- the words behind those of a kind that tells nothing of what was sent
unfoldable pub tells_other : List ℕ → List ℕ → Bool
tells_other kind words =
    if bytes_eq kind (codes "up") then fits (field.Node ∷ field.Id ∷ field.Count ∷ field.Word ∷ []) field.Hex words
    else if bytes_eq kind (codes "gone") then fits (field.Node ∷ []) field.Id words
    else if bytes_eq kind (codes "drop") then fits (field.Node ∷ []) field.Word words
    else if bytes_eq kind (codes "cause") then fits (field.Node ∷ []) field.Word words
    else if bytes_eq kind (codes "held") then fits (field.Node ∷ []) field.Count words
    else if bytes_eq kind (codes "stopped") then fits [] field.Node words
    else false

unfoldable pub told_of : ℕ → List ℕ → List ℕ → Option Entry
told_of line kind words =
    if bytes_eq kind (codes "send") then send_of line words
    else if bytes_eq kind (codes "frame") then frame_of line words
    else if tells_other kind words then Some Other
    else None

-- the number of the line, the word of its kind, and those behind it
unfoldable pub first_words_of : List ℕ → Option (ℕ × List ℕ × List ℕ)
first_words_of text =
    cut 32 text >>= λ first. cut 32 first.1 >>= λ second. count_of first.0 >>= λ line. Some (line, second.0, second.1)

-- ---- what a report ends with

-- a tunnel, or a call of it
unfoldable pub is_held : List ℕ → List ℕ → Bool
is_held kind words =
    if bytes_eq kind (codes "tunnel") then fits (field.Id ∷ field.Node ∷ field.Count ∷ field.Word ∷ field.Count ∷ field.Word ∷ []) field.Word words
    else if bytes_eq kind (codes "call") then fits (field.Id ∷ field.Id ∷ field.Count ∷ field.Word ∷ []) field.Count words
    else false

-- that a node is down, or what it holds
unfoldable pub is_state : List ℕ → List ℕ → Bool
is_state node words = fits_field field.Node node && (bytes_eq words (codes "down") || with_both (cut 32 words) is_held)

unfoldable pub is_table : List ℕ → List ℕ → Bool
is_table kind words =
    if bytes_eq kind (codes "end") then with_both (cut 32 words) is_state
    else if bytes_eq kind (codes "agree") then fits (field.Node ∷ field.Id ∷ field.Node ∷ field.Id ∷ []) field.Count words
    else false

-- a line that doesn't fit
unfoldable pub unfit_of : List ℕ → Option ℕ
unfit_of text =
    behind (codes "unfit line ") text >>= λ more. cut 58 more >>= λ first. behind (codes " ") first.1 >>= λ why.
    count_of first.0 >>= λ line. if is_word why then Some line else None

-- a packet that is too old: the line, and behind two words what the packet tells and what its tunnel counts
unfoldable pub too_old_of : List ℕ → List ℕ → List ℕ → List ℕ → Option ℕ
too_old_of front told counted text =
    behind front text >>= λ more. cut 58 more >>= λ first. behind told first.1 >>= λ others.
    cut 44 others >>= λ second. behind counted second.1 >>= λ count.
    amount_of second.0 >>= λ number. amount_of count >>= λ n. count_of first.0

-- by its numbers, and by its epoch
abbrev pub half_space_of : List ℕ → Option ℕ
half_space_of text = too_old_of (codes "half space line ") (codes " number ") (codes " at ") text

abbrev pub stale_of : List ℕ → Option ℕ
stale_of text = too_old_of (codes "stale line ") (codes " packet epoch ") (codes " own epoch ") text

unfoldable pub numbered_of : List ℕ → List ℕ → Option ℕ
numbered_of front text = behind front text >>= λ word. count_of word

-- why a run wasn't done to its end
unfoldable pub is_exit : List ℕ → Bool
is_exit text =
    is_some (unfit_of text) || is_some (half_space_of text) || is_some (stale_of text) || is_some (numbered_of (codes "bad line ") text)
    || is_some (numbered_of (codes "too long: ") text) || is_some (numbered_of (codes "store full: ") text) || bytes_eq text (codes "read fault")

unfoldable pub is_ending : List ℕ → Bool
is_ending text = with_both (cut 32 text) is_table || is_exit text

-- ---- one line

abbrev pub or_other : Option Entry → Bool → Option Entry
or_other None ends = if ends then Some Other else None
or_other (Some e) ends = Some e

-- what a line with a number tells
unfoldable pub numbered_line_of : List ℕ → Option Entry
numbered_line_of text = first_words_of text >>= λ said. told_of said.0 said.1 said.2

-- what the line that has these bytes tells, if a report has such a line
unfoldable pub line_of : List ℕ → Option Entry
line_of text = or_other (numbered_line_of text) (is_ending text)

-- ---- all lines

abbrev pub put_front : Entry → Result (List Entry) ReportError → Result (List Entry) ReportError
put_front e (Ok others) = Ok (e ∷ others)
put_front e (Err x) = Err x

-- a line that no report has is bad; else come the others
abbrev pub and_others : Option Entry → ℕ → Result (List Entry) ReportError → Result (List Entry) ReportError
and_others None number others = Err (BadLine number)
and_others (Some e) number others = put_front e others

-- what lines tell, or the first bad one, where they are counted from a number on
unfoldable pub entries_from : ℕ → List (List ℕ) → Result (List Entry) ReportError
entries_from number [] = Ok []
entries_from number (bytes ∷ others) = and_others (line_of bytes) number (entries_from (number + 1) others)

abbrev pub entries_of : List ℕ → Result (List Entry) ReportError
entries_of text = entries_from 1 (text_lines text)

-- what fits into one packet
abbrev pub IsCarried : Entry → Type 0
IsCarried (Datagram line packet from to bytes) = length bytes ≤ 65507
IsCarried (Frame line node bytes) = length bytes ≤ 65507
IsCarried Other = Unit {0}
