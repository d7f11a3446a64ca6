-- What the data plane sees of a session that carries frames is so of a call in its node's checkpoint, so a crash loses none of them.
use Rattle.std.specs.Prelude.{◌≡◌, ◌⊎◌, ℕ, true, List, Some}
use Rattle.id_table.specs.Ids.{at}
use Rattle.schedule_text.specs.declared.line.Line.{Line}
use Rattle.schedule_text.specs.Grammar.{AreLines}
use Rattle.session_book.specs.declared.record.BookTunnel.{BookTunnel}
use Rattle.session_book.specs.declared.record.BookCall.{BookCall}
use Rattle.session_book.specs.Books.{Kept, tunnel_at, call_at}
use Rattle.wire_base.specs.declared.letter.Side.{Side}
use Rattle.l2tp_header.specs.declared.header.Header.{Header}
use Rattle.session_looks.specs.Frames.{Upward, carry_look}
use Rattle.session_looks.specs.declared.look.Look.TheVariants as look
use Rattle.end_names.specs.declared.role.Role.TheVariants.{Lns}
use Rattle.end_model.specs.End.{End, look_in}
use Rattle.world_model.specs.World.{Node}
use Rattle.world_model.specs.Run.{run}

-- what is seen of a session of an established call, in a tunnel to a peer: frames pass; or, at an LNS, only those of LCP do, as long as LCP
-- wasn't open in it. (At a LAC a session that is bound is that of a call that waits for its reply, and no call of a book.)
abbrev pub IsSeen : End → ℕ → ℕ → ℕ → Type 0
IsSeen e s tunnel peer =
    (look_in (at e.calls s) ≡ look.Established tunnel peer) ⊎ ((e.role ≡ Lns) × (look_in (at e.calls s) ≡ look.Bound tunnel peer))

-- the book has the call of the session, in that tunnel, which goes to that peer
pub record IsInBook (k : Kept) (s tunnel peer : ℕ) : Type 0 where
  pub call : BookCall
  pub there : call_at k s ≡ Some call
  pub of_tunnel : call.tunnel ≡ tunnel
  pub home : BookTunnel
  pub booked : tunnel_at k tunnel ≡ Some home
  pub peer_is : home.peer ≡ peer

-- what is seen is in the book, and what the book has is seen. So a data message, which is judged by what is seen of the session that its
-- header names, carries a frame up only in a call of the book
pub record AreBooked (node : Node) : Type 0 where
  pub seen : (s tunnel peer : ℕ) → IsSeen node.end s tunnel peer → IsInBook node.checkpoint.book s tunnel peer
  pub booked : (s : ℕ) (c : BookCall) → call_at node.checkpoint.book s ≡ Some c → (peer : ℕ) × IsSeen node.end s c.tunnel peer
  pub carried : (from : ℕ) (h : Header) (frame : List ℕ) (tunnel peer : ℕ) (side : Side) (up : List ℕ)
      → carry_look node.end.role (look_in (at node.end.calls h.session)) from h frame ≡ Upward tunnel peer side up
      → IsInBook node.checkpoint.book h.session tunnel peer

-- of each node that is up after a list of lines of the grammar, whatever crashed in it
abbrev pub CellsAreBooked : Type 0
CellsAreBooked =
    (lines : List Line) → AreLines lines → (n : ℕ) (node : Node) → at (run lines).world.nodes n ≡ Some node → node.up ≡ true
    → AreBooked node
