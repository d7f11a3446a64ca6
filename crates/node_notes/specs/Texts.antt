-- The lines that an operator reads. Each is ASCII, of words that are parted by one space, and ends with a newline.
use Rattle.std.specs.Prelude.{ℕ, ◌/◌, ◌%◌, List, [], ◌∷◌, ◌++◌, codes, Option, Some, None}
use Rattle.std.specs.List.{flat_map, join_by}
use Rattle.std.specs.Fmt.{decimal}
use Rattle.std.specs.Net.Text.{dotted_text}
use Rattle.hex.specs.Hex.{encode_lower}
use Rattle.wire_base.specs.declared.cause.Cause.{Cause}
use Rattle.wire_base.specs.Words.{cause_word}
use Rattle.end_model.specs.declared.moves.Move.{Move}
use Rattle.end_model.specs.declared.out.Out.{Out}
use Rattle.node_notes.specs.declared.note.Told.{Told}
use Rattle.node_notes.specs.declared.note.Note.{Note}
use Rattle.node_notes.specs.declared.note.Note.TheVariants as note
use Rattle.node_notes.specs.Notes.{notes_of}

-- words, parted by one space
infixl 8 ◌&◌
abbrev pub ◌&◌ : List ℕ → List ℕ → List ℕ
a & b = a ++ codes " " ++ b

abbrev pub ended : List ℕ → List ℕ
ended text = text ++ codes "\n"

-- ---- addresses

-- an IPv4 address: its four bytes in decimal, the highest first, with dots between them
unfoldable pub address_text : ℕ → List ℕ
address_text n = dotted_text (n / 16777216) (n / 65536 % 256) (n / 256 % 256) (n % 256)

-- a byte as two hex digits, in lower case
abbrev pub octet_text : ℕ → List ℕ
octet_text byte = encode_lower (byte ∷ [])

-- an Ethernet address: its bytes with colons between them
abbrev pub mac_text : List ℕ → List ℕ
mac_text bytes = join_by octet_text (codes ":") bytes

-- ---- what stands at the end of a line where it is known

abbrev pub error_text : Option ℕ → List ℕ
error_text None = []
error_text (Some error) = codes " error " ++ decimal error

abbrev pub cause_text : Option Cause → List ℕ
cause_text None = []
cause_text (Some cause) = codes " cause " ++ cause_word cause

-- what a peer was told, and why
unfoldable pub told_text : Told → List ℕ
told_text told = (codes " result " ++ decimal told.result ++ error_text told.error) ++ cause_text told.cause

abbrev pub subscriber_text : Option (List ℕ) → List ℕ
subscriber_text None = []
subscriber_text (Some who) = codes " subscriber " ++ mac_text who

-- ---- lines

-- a tunnel that is there, in words behind which its peer stands, and the id that the peer assigned
unfoldable pub tunnel_peer_text : ℕ → List ℕ → ℕ → ℕ → List ℕ
tunnel_peer_text tunnel words peer remote =
    ended (codes "tunnel" & decimal tunnel & words & address_text peer & codes "remote" & decimal remote)

-- what became of a tunnel, in words
unfoldable pub tunnel_text : ℕ → List ℕ → List ℕ
tunnel_text tunnel words = ended (codes "tunnel" & decimal tunnel & words)

unfoldable pub tunnel_closed_text : ℕ → Told → List ℕ
tunnel_closed_text tunnel told = ended ((codes "tunnel" & decimal tunnel & codes "closed") ++ told_text told)

-- which call is up, over which tunnel, and the id that its peer assigned
unfoldable pub call_up_words : ℕ → ℕ → ℕ → List ℕ
call_up_words call tunnel remote = codes "call" & decimal call & codes "up tunnel" & decimal tunnel & codes "remote" & decimal remote

abbrev pub call_up_text : ℕ → ℕ → ℕ → Option (List ℕ) → List ℕ
call_up_text call tunnel remote who = ended (call_up_words call tunnel remote ++ subscriber_text who)

-- which call is gone, and over which tunnel it was
unfoldable pub gone_words : ℕ → ℕ → List ℕ
gone_words call tunnel = codes "call" & decimal call & codes "gone tunnel" & decimal tunnel

-- with what stands behind, if anything
abbrev pub gone_text : ℕ → ℕ → List ℕ → List ℕ
gone_text call tunnel behind = ended (gone_words call tunnel ++ behind)

unfoldable pub note_text : Note → List ℕ
note_text (note.TunnelUp tunnel peer remote) = tunnel_peer_text tunnel (codes "up peer") peer remote
note_text (note.TunnelRestored tunnel peer remote) = tunnel_peer_text tunnel (codes "restored peer") peer remote
note_text (note.TunnelFrozen tunnel) = tunnel_text tunnel (codes "frozen")
note_text (note.TunnelRecovered tunnel) = tunnel_text tunnel (codes "recovered")
note_text (note.TunnelClosed tunnel told) = tunnel_closed_text tunnel told
note_text (note.TunnelClosedBy tunnel) = tunnel_text tunnel (codes "closed by peer")
note_text (note.TunnelLost tunnel) = tunnel_text tunnel (codes "lost")
note_text (note.TunnelRemoved tunnel) = tunnel_text tunnel (codes "removed")
note_text (note.CallUp call tunnel remote who) = call_up_text call tunnel remote who
note_text (note.CallGone call tunnel told) = gone_text call tunnel (told_text told)
note_text (note.CallGoneBy call tunnel) = gone_text call tunnel (codes " by peer")
note_text (note.CallLeft call tunnel) = gone_text call tunnel []
note_text (note.CallMissing call tunnel) = gone_text call tunnel (codes " not at peer")

-- the lines of a step
abbrev pub notes_text : List Move → List Out → List ℕ
notes_text moves outputs = flat_map note_text (notes_of moves outputs)
