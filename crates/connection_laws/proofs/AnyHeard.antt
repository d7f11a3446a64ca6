-- A control message that a live tunnel hears, whether it is the next one or not, is a letter of its sender's, and none has a fault.
use Rattle.std.proofs.Common.{◌≡◌, ⊎_elim, ℕ, [], refl, sym, ap, ◌∙◌, subst, Option, Some, None}
use Rattle.std.specs.Prelude.{length, slice_get}
use Rattle.control_message.specs.declared.message.Message.{Message}
use Rattle.control_message.specs.declared.message.Message.TheVariants.{Sccrq, Sccrp, Fsq}
use Rattle.control_message.specs.Reading.{message_by, kind_by}
use Rattle.end_model.specs.declared.event.Event.{Event}
use Rattle.end_model.specs.declared.out.ControlOrigin.{ControlOrigin}
use Rattle.l2tp_header.specs.Reading.{body_of}
use Rattle.end_model.specs.Reading.{call_fault_in, fault_of_pairs, tunnel_fault_in}
use Rattle.end_model.specs.End.{End}
use Rattle.world_model.specs.World.{Sender}
use Rattle.step_laws.specs.Letters.{Letter}
use Rattle.step_laws.specs.Moves.{Hears}
use Rattle.frame_laws.specs.Codecs.{Codecs}
use Rattle.frame_laws.specs.Written.{IsWritten, IsWrittenOpening}
use Rattle.connection_laws.specs.Accounts.{Account}
use Rattle.connection_laws.specs.Facts.{Accounts, IsNoOpening, IsNoStop, AccountOk, Within}
use Rattle.connection_laws.specs.Steps.{LettersAreHeard, OpeningsAreAcceptable, FaultsAreOfRequests, NoneIsFaultyInTunnel, NoneAsksForSessions}
use Rattle.connection_laws.proofs.Hearing.{sender_in, Sends, Chosen, Asks, Leaves, Linked, FromOpener, FromAcceptor, opener_of, no_message, PeerSays, letter_said, peer_says, heard_to, said_in, heard_said}
use Rattle.connection_laws.proofs.NextHeard.{first_is}
use Rattle.connection_laws.proofs.Said.{Learned, opener_goes, plain_no_stop}
use Rattle.connection_laws.proofs.Alike.{no_stop_alike, no_opening_alike, read_alike, read_written, read_faulty, read_sound}

-- ---- letters

-- only its SCCRQ comes of an opener that hasn't learned the tunnel
learned_unless : (accs : Accounts) (n i : ℕ) (o : ControlOrigin) → ((m j : ℕ) → AccountOk accs m j (accs m j)) → (l : Letter)
    → slice_get (sender_in accs n i o).given o.ns ≡ Some l → IsNoOpening l.message → IsNoStop l.message → Linked accs n i o → Learned accs n i o
learned_unless accs n i o all l there opens_none no_stop (FromOpener here told part which) = by which
  where
    b : Account
    b = sender_in accs n i o

    by : Sends b i o → Learned accs n i o
    by (Chosen chosen) = record { remote = chosen; peer = opener_goes accs n i o all here told }
    by (Asks zeroth how) =
        let begins = (opener_of accs (accs n i).peer o.tunnel b (all (accs n i).peer o.tunnel) part).begins in
        let first = first_is o.tunnel Sccrq b.given begins l (subst (λ k. slice_get b.given k ≡ Some l) zeroth there) in
        absurd (subst IsNoOpening first.1 opens_none)
    by (Leaves lost stops) = absurd (plain_no_stop b o.ns l there no_stop stops)
learned_unless accs n i o all l there opens_none no_stop (FromAcceptor here part remote peer) = record { remote = remote; peer = peer }

pub letters_are_heard : Codecs → LettersAreHeard
letters_are_heard codecs accs n e sender ev within i t there session m opens_none no_stop k =
    let h = k.letter.header in
    let bytes = k.comes.came.bytes in
    let said = said_in ev k.letter k.comes.came m k.says.said in
    let from = heard_said codecs accs n e sender ev within i t there h bytes (heard_to ev t.control k.letter k.comes) m no_stop said in
    let q = letter_said codecs (sender_in accs n i from.o) from.o h bytes m from.read said in
    let same = read_alike q.letter.message (body_of bytes h) q.reads m said in
    let learned = learned_unless accs n i from.o within.accounts q.letter q.there (no_opening_alike q.letter.message m same opens_none)
    (no_stop_alike q.letter.message m same no_stop) from.linked in
    record {
      from = record { node = (accs n i).peer; tunnel = from.o.tunnel };
      sender_is = from.sender_is;
      peer = refl;
      learned = learned.remote;
      goes = learned.peer;
      number = from.o.ns;
      letter = q.letter;
      there = q.there;
      session_is = sym q.session ∙ k.says.session_is;
      message_is = same;
    }

-- ---- what a peer says

-- it is written by the rules
pub hears_written : Codecs → (accs : Accounts) (n : ℕ) (e : End) (sender : Option Sender) (ev : Event) → Within accs n e sender ev
    → (peer session : ℕ) (m : Message) → Hears ev peer session m → IsWritten m
hears_written codecs accs n e sender ev within peer session m k =
    let h = k.letter.header in
    let bytes = k.came.bytes in
    let said = said_in ev k.letter k.came m k.says.said in
    ⊎_elim
    (λ (q : PeerSays h bytes). read_written q.message (body_of bytes h) q.reads m said)
    (λ (none : body_of bytes h ≡ []). absurd (no_message codecs m (let is = said in rw none at is)))
    (peer_says codecs accs n e sender ev within k.letter.peer h bytes k.came.is k.came.read k.came.control)

pub openings_are_acceptable : Codecs → OpeningsAreAcceptable
openings_are_acceptable codecs accs n e sender ev within peer session o which =
    let w : IsWrittenOpening o = ⊎_elim
    (λ (k : Hears ev peer session (Sccrq o)). (hears_written codecs accs n e sender ev within peer session (Sccrq o) k).0)
    (λ (k : Hears ev peer session (Sccrp o)). hears_written codecs accs n e sender ev within peer session (Sccrp o) k)
    which in
    (w.version, w.recovery)

pub none_asks_for_sessions : Codecs → NoneAsksForSessions
none_asks_for_sessions codecs accs n e sender ev within peer session pairs k = hears_written codecs accs n e sender ev within peer session
    (Fsq pairs) k

-- ---- faults

-- where there are no pairs, there is no message
no_fault_in_none : Codecs → call_fault_in [] ≡ None
unfolding call_fault_in fault_of_pairs message_by kind_by
no_fault_in_none codecs = rw (codecs.pairs [] tt) refl

pub faults_are_of_requests : Codecs → FaultsAreOfRequests
faults_are_of_requests codecs accs n e sender ev within c session f k =
    let h = k.letter.header in
    let came = k.comes.came in
    let fault : call_fault_in (body_of came.bytes h) ≡ Some f = ap call_fault_in (sym came.body_is) ∙ k.says.fault in
    ⊎_elim
    (λ (q : PeerSays h came.bytes). let r = read_faulty q.message (body_of came.bytes h) q.reads f fault in (r.0, r.4))
    (λ (nothing : body_of came.bytes h ≡ []).
    let none = no_fault_in_none codecs in
    let found : call_fault_in [] ≡ Some f = (let had = fault in rw nothing at had) in
    absurd cc)
    (peer_says codecs accs n e sender ev within k.letter.peer h came.bytes came.is came.read came.control)

pub none_is_faulty_in_tunnel : Codecs → NoneIsFaultyInTunnel
none_is_faulty_in_tunnel codecs accs n e sender ev within k g came some has =
    let h = k.header in
    let fault : tunnel_fault_in (body_of came.bytes h) ≡ Some g = ap tunnel_fault_in (sym came.body_is) ∙ has in
    ⊎_elim
    (λ (q : PeerSays h came.bytes).
    let none = read_sound q.message (body_of came.bytes h) q.reads in
    let no : ⊥ = cc in no)
    (λ (none : body_of came.bytes h ≡ []). some (ap length (came.body_is ∙ none)))
    (peer_says codecs accs n e sender ev within k.peer h came.bytes came.is came.read came.control)
