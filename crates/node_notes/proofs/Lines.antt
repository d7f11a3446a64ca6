-- No line is empty, so only a step without notes has no text.
use Rattle.std.proofs.Common.{◌<◌, length, [], ◌∷◌, arith}
use Rattle.std.specs.List.{flat_map}
use Rattle.node_notes.specs.declared.note.Note.{Note}
use Rattle.node_notes.specs.declared.note.Note.TheVariants as note
use Rattle.node_notes.specs.Texts.{note_text, tunnel_peer_text, tunnel_text, tunnel_closed_text, call_up_words, gone_words}

pub no_line_is_empty : (n : Note) → 0 < length (flat_map note_text (n ∷ []))
unfolding note_text tunnel_peer_text tunnel_text tunnel_closed_text call_up_words gone_words
no_line_is_empty (note.TunnelUp tunnel peer remote) = omega arith
no_line_is_empty (note.TunnelRestored tunnel peer remote) = omega arith
no_line_is_empty (note.TunnelFrozen tunnel) = omega arith
no_line_is_empty (note.TunnelRecovered tunnel) = omega arith
no_line_is_empty (note.TunnelClosed tunnel told) = omega arith
no_line_is_empty (note.TunnelClosedBy tunnel) = omega arith
no_line_is_empty (note.TunnelLost tunnel) = omega arith
no_line_is_empty (note.TunnelRemoved tunnel) = omega arith
no_line_is_empty (note.CallUp call tunnel remote who) = omega arith
no_line_is_empty (note.CallGone call tunnel told) = omega arith
no_line_is_empty (note.CallGoneBy call tunnel) = omega arith
no_line_is_empty (note.CallLeft call tunnel) = omega arith
no_line_is_empty (note.CallMissing call tunnel) = omega arith
