-- The letter that a tunnel hears next, and the tunnel that sent it.
use Rattle.std.proofs.Common.{◌≡◌, ⊎_elim, ℕ, List, refl, sym, ap, ◌∙◌, subst, Option, Some, arith}
use Rattle.std.specs.Prelude.{length, slice_get}
use Rattle.l2tp_header.specs.declared.header.Header.{Header}
use Rattle.control_message.specs.declared.message.Message.{Message}
use Rattle.control_message.specs.declared.message.Message.TheVariants.{Sccrq, Sccrp, Scccn, StopCcn, Hello, Ocrq, Ocrp, Occn, Icrq, Icrp, Iccn, Cdn, Wen, Sli, Fsq, Fsr}
use Rattle.recv_window.specs.Window.{ClassIsTrue}
use Rattle.end_model.specs.declared.event.Event.{Event}
use Rattle.end_model.specs.declared.out.ControlOrigin.{ControlOrigin}
use Rattle.end_model.specs.Tunnels.{Tunnel}
use Rattle.end_model.specs.End.{End}
use Rattle.world_model.specs.World.{Sender}
use Rattle.step_laws.specs.Letters.{Letter}
use Rattle.frame_laws.specs.Codecs.{Codecs}
use Rattle.frame_laws.specs.Plain.{IsReadAs, AreAlike}
use Rattle.connection_laws.specs.Accounts.{Acceptor, Account}
use Rattle.connection_laws.specs.Facts.{Accounts, IsNoStop, IsStopCcn, AccountOk, Within}
use Rattle.connection_laws.specs.Steps.{NextLetter, NextIsHeard, PlainIsHeard}
use Rattle.connection_laws.proofs.Hearing.{sender_in, Sends, Chosen, Asks, Leaves, Linked, FromOpener, FromAcceptor, acceptor_of, Heard, HeardRefusal, heard, heard_to, some_in, letter_some}
use Rattle.connection_laws.proofs.Alike.{no_stop_alike}
use Rattle.connection_laws.proofs.NextHeard.{HeardNext, next_heard, said_so}

-- the sender of the next letter goes to this node, and has learned this tunnel
pub record Learned (accs : Accounts) (n i : ℕ) (o : ControlOrigin) : Type 0 where
  pub remote : (sender_in accs n i o).remote ≡ i
  pub peer : (sender_in accs n i o).peer ≡ n

-- the opener of an acceptor goes to its node
pub opener_goes : (accs : Accounts) (n i : ℕ) (o : ControlOrigin) → ((m j : ℕ) → AccountOk accs m j (accs m j)) → (accs n i).part ≡ Acceptor
    → (accs n i).remote ≡ o.tunnel → (sender_in accs n i o).peer ≡ n
opener_goes accs n i o all here told =
    sym (ap (λ r. (accs (accs n i).peer r).peer) told) ∙ (acceptor_of accs n i (accs n i) (all n i) here).peer

-- a letter doesn't stop a tunnel and stop it
pub no_stop_is : (m : Message) → IsNoStop m → IsStopCcn m → ⊥
no_stop_is (StopCcn tunnel code error) p s = p
no_stop_is (Sccrq o) p s = s
no_stop_is (Sccrp o) p s = s
no_stop_is (Scccn response) p s = s
no_stop_is Hello p s = s
no_stop_is (Ocrq session) p s = s
no_stop_is Ocrp p s = s
no_stop_is Occn p s = s
no_stop_is Wen p s = s
no_stop_is Sli p s = s
no_stop_is (Fsq sessions) p s = s
no_stop_is (Fsr sessions) p s = s
no_stop_is (Icrq session serial calling) p s = s
no_stop_is (Icrp session) p s = s
no_stop_is (Iccn speed framing sequenced) p s = s
no_stop_is (Cdn session code error) p s = s

-- a letter that stops no tunnel is of one that has learned this one
pub plain_no_stop : (b : Account) (k : ℕ) (l : Letter) → slice_get b.given k ≡ Some l → IsNoStop l.message
    → ((x : Letter) → slice_get b.given k ≡ Some x → IsStopCcn x.message) → ⊥
plain_no_stop b k l there plain stops = no_stop_is l.message plain (stops l there)

learned_by : (accs : Accounts) (n i : ℕ) (o : ControlOrigin) → ((m j : ℕ) → AccountOk accs m j (accs m j)) → o.ns ≡ length (accs n i).taken
    → (l : Letter) → slice_get (sender_in accs n i o).given (length (accs n i).taken) ≡ Some l → IsNoStop l.message → Linked accs n i o
    → Learned accs n i o
learned_by accs n i o all number l there plain (FromOpener here told part which) = by which
  where
    by : Sends (sender_in accs n i o) i o → Learned accs n i o
    by (Chosen chosen) = record { remote = chosen; peer = opener_goes accs n i o all here told }
    by (Asks first how) = let some = (acceptor_of accs n i (accs n i) (all n i) here).some in let no : ⊥ = omega arith in absurd no
    by (Leaves lost stops) =
        let it : slice_get (sender_in accs n i o).given o.ns ≡ Some l = rw number there in
        absurd (plain_no_stop (sender_in accs n i o) o.ns l it plain stops)
learned_by accs n i o all number l there plain (FromAcceptor here part remote peer) = record { remote = remote; peer = peer }

next_letter : (accs : Accounts) (n : ℕ) (e : End) (sender : Option Sender) (ev : Event) (within : Within accs n e sender ev) (i : ℕ) (t : Tunnel) (h : Header)
    (bytes : List ℕ) (from : Heard accs n e sender ev within.comes i t h bytes) (next : HeardNext accs n i from.o h bytes) (session : ℕ) (m : Message)
    → next.letter.session ≡ session → AreAlike next.letter.message m → IsNoStop m → NextLetter accs n i sender session m
next_letter accs n e sender ev within i t h bytes from next session m same says plain =
    let k = learned_by accs n i from.o within.accounts next.number next.letter next.there (no_stop_alike next.letter.message m says plain) from.linked in
    record {
      from = record { node = (accs n i).peer; tunnel = from.o.tunnel };
      sender_is = from.sender_is;
      peer = refl;
      learned = k.remote;
      goes = k.peer;
      letter = next.letter;
      there = next.there;
      session_is = same;
      message_is = says;
    }

pub next_is_heard : Codecs → ClassIsTrue → NextIsHeard
next_is_heard codecs classes accs n e sender ev within i t there live session m plain k =
    let s = said_so codecs classes accs n e sender ev within i t there session m plain k in
    next_letter accs n e sender ev within i t k.letter.header k.next.comes.came.bytes s.heard s.next session m s.session_is s.message plain

pub plain_is_heard : Codecs → ClassIsTrue → PlainIsHeard
plain_is_heard codecs classes accs n e sender ev within i t there live k came_next =
    let bytes = came_next.comes.came.bytes in
    ⊎_elim
    (λ (from : Heard accs n e sender ev within.comes i t k.header bytes).
    let read = letter_some (sender_in accs n i from.o) from.o k.header bytes from.read (some_in ev k came_next.comes.came came_next.some) in
    let next = next_heard classes accs n e sender ev within i t there k.header bytes from read came_next.next in
    record {
      message = next.letter.message;
      reads = subst (IsReadAs next.letter.message) (sym came_next.comes.came.body_is) next.reads;
      next = λ plain. next_letter accs n e sender ev within i t k.header bytes from next k.header.session next.letter.message (sym next.session) refl plain;
    })
    -- one of no tunnel stops this one
    (λ (from : HeardRefusal accs n e sender ev within.comes i t k.header bytes).
    record {
      message = StopCcn 0 from.read.result from.read.error;
      reads = subst (IsReadAs (StopCcn 0 from.read.result from.read.error)) (sym came_next.comes.came.body_is) from.read.reads;
      next = λ plain. absurd plain;
    })
    (heard codecs accs n e sender ev within i t there k.header bytes (heard_to ev t.control k came_next.comes))
