-- The moves of a live tunnel as those of the end that has that tunnel alone; and what they make of its account.
use Rattle.std.proofs.Common.{◌≡◌, ◌⊎◌, inr, ⊎_elim, ℕ, List, [], ◌∷◌, ◌++◌, refl, sym, ap, ◌∙◌, subst, Option, Some, arith, append-nil, append_assoc}
use Rattle.id_table.specs.Ids.{at}
use Rattle.id_table.specs.Order.{at_new}
use Rattle.wire_base.specs.declared.why.Why.{Why}
use Rattle.std.specs.Prelude.{Result}
use Rattle.control_message.specs.declared.message.Message.{Message}
use Rattle.control_message.specs.declared.message.Message.TheVariants.{Sccrq, Sccrp, Scccn, StopCcn, Hello, Ocrq, Ocrp, Occn, Icrq, Icrp, Iccn, Cdn, Wen, Sli, Fsq, Fsr}
use Rattle.tunnel_fsm.specs.Rows.{state_number}
use Rattle.tunnel_fsm.specs.declared.table.TunnelEvent.{TunnelEvent}
use Rattle.end_model.specs.declared.event.Event.{Event}
use Rattle.end_model.specs.declared.event.Event.TheVariants.{Datagram, Ring, Frame, Admitted, Payload, Lower, Lcp, Hang, OpenTunnel, DropCall, CloseTunnel, Tick}
use Rattle.end_model.specs.declared.moves.Place.{Place}
use Rattle.end_model.specs.declared.moves.Closed.{Closed}
use Rattle.end_model.specs.declared.moves.Refused.{Refused}
use Rattle.end_model.specs.Reading.{CallFault}
use Rattle.end_model.specs.Tunnels.{Tunnel, no_query}
use Rattle.end_model.specs.End.{End}
use Rattle.world_model.specs.World.{Sender, Deed, World}
use Rattle.step_laws.specs.Callers.{IsRing, WantsTunnel, LacWants}
use Rattle.step_laws.specs.Arrivals.{Came, IsNext}
use Rattle.step_laws.specs.Moves.{Taking, GrantsCall, DeniesCall, AsksItself, HasUsedId, HasAllCalls, HasNoSession, WhyRefused, IsNotGranted, IsOutgoing, IsReplyToNone, IsWrong, IsPlain, WhyCloses, ByOperator, ByLetter, LetterCloses}
use Rattle.connection_laws.specs.Facts as calm_facts
use Rattle.connection_laws.specs.Facts.{AllWait}
use Rattle.channel_laws.specs.Accounts.{Part, Unmade, Opener, Acceptor, Renewed, Taken, Account, History, gives, gives_also, takes_at}
use Rattle.channel_laws.specs.Facts.{Accounts, partner_in, IsOpen, IsShut, IsInState, EndOk}
use Rattle.channel_laws.proofs.Ends.{Puts, IsAlone}
use Rattle.channel_laws.proofs.Extending.{Extends}
use Rattle.channel_laws.proofs.Calm.{bare}
use Rattle.channel_laws.proofs.FirstMoves.{alone_in}

-- ---- the same letter, request and cause

pub alone_there : (e : End) (i : ℕ) (t : Tunnel) → at (alone_in e i t).tunnels i ≡ Some (bare t)
alone_there e i t = at_new [] i (bare t)

pub next_bare : (ev : Event) (t : Tunnel) (k : Came) → IsNext ev t k → IsNext ev (bare t) k
next_bare ev t k q = record { comes = q.comes; some = q.some; next = q.next }

pub taking_bare : (ev : Event) (t : Tunnel) (k : Came) (taken : Place) → Taking ev t k taken → Taking ev (bare t) k taken
taking_bare ev t k taken q = record { next = next_bare ev t k q.next; taken_is = q.taken_is; spare = q.spare }

pub grants_bare : (e : End) (i : ℕ) (t : Tunnel) (remote session : ℕ) → GrantsCall e t remote session → GrantsCall (alone_in e i t) (bare t) remote session
grants_bare e i t remote session q = record { lns = q.lns; free = q.free; few = q.few; drawn = q.drawn }

denies_bare : (e : End) (i : ℕ) (t : Tunnel) (remote result : ℕ) (error : Option ℕ) → DeniesCall e t remote result error
    → DeniesCall (alone_in e i t) (bare t) remote result error
denies_bare e i t remote result error (AsksItself lac one two) = AsksItself lac one two
denies_bare e i t remote result error (HasUsedId lns used one two) = HasUsedId lns used one two
denies_bare e i t remote result error (HasAllCalls lns free many one two) = HasAllCalls lns free many one two
denies_bare e i t remote result error (HasNoSession lns free few x none one two) = HasNoSession lns free few x none one two

pub refused_bare : (e : End) (i : ℕ) (t : Tunnel) (header : ℕ) (said : Result Message Why) (fault : Option CallFault) (m : Refused) → WhyRefused e t header said fault m
    → WhyRefused (alone_in e i t) (bare t) header said fault m
refused_bare e i t header said fault m (IsNotGranted remote serial calling is none same denies) =
    IsNotGranted remote serial calling is none same (denies_bare e i t remote m.result m.error denies)
refused_bare e i t header said fault m (IsOutgoing remote is same one two) = IsOutgoing remote is same one two
refused_bare e i t header said fault m (IsReplyToNone remote is none lns same one two) = IsReplyToNone remote is none lns same one two
refused_bare e i t header said fault m (IsWrong f is same one two) = IsWrong f is same one two

pub closes_bare : (secret : Option (List ℕ)) (t : Tunnel) (ev : Event) (on : TunnelEvent) (m : Closed) → t.query ≡ no_query
    → WhyCloses secret t ev on m
    → WhyCloses secret (bare t) ev on m
closes_bare secret t ev on m none (ByOperator is by same one two) = ByOperator is by same one two
closes_bare secret t ev on m none (ByLetter told k next spare why other same) =
    ByLetter told k (next_bare ev t k next) spare (subst (λ q. LetterCloses secret t.control q k on told m.result m.error) none why) other
    same

pub wants_bare : (e : End) (i : ℕ) (t : Tunnel) (ev : Event) (peer : ℕ) → WantsTunnel e ev peer → WantsTunnel (alone_in e i t) ev peer
wants_bare e i t ev peer (LacWants lac lns asks) = LacWants lac lns asks

-- on which nothing is done
pub plainly : (e : End) (i : ℕ) (t : Tunnel) (session : ℕ) (m : Message) → IsPlain e t session m → IsPlain (alone_in e i t) (bare t) session m
plainly e i t session (Sccrq o) is = is
plainly e i t session (Sccrp o) is = is
plainly e i t session (Scccn response) is = is
plainly e i t session Hello is = is
plainly e i t session (StopCcn tunnel code error) is = is
plainly e i t session (Ocrq remote) is = is
plainly e i t session Ocrp is = is
plainly e i t session Occn is = is
plainly e i t session Wen is = is
plainly e i t session Sli is = is
plainly e i t session (Fsq sessions) is = is
plainly e i t session (Fsr sessions) is = is
plainly e i t session (Icrq remote serial calling) is = is
plainly e i t session (Icrp remote) is = is
plainly e i t session (Iccn speed framing sequenced) is = is
plainly e i t session (Cdn remote code error) is = is

-- ---- a step in which no packet comes

pub comes_to_ring : (accs : calm_facts.Accounts) (n : ℕ) (e : End) (sender : Option Sender) (ev : Event) (who : List ℕ) → IsRing ev who → calm_facts.Comes accs n e sender ev
comes_to_ring accs n e sender (Datagram peer bytes) who is = absurd cc
comes_to_ring accs n e sender (Ring port) who is = tt
comes_to_ring accs n e sender (Frame bytes) who is = tt
comes_to_ring accs n e sender (Admitted mac) who is = tt
comes_to_ring accs n e sender (Payload s frame) who is = tt
comes_to_ring accs n e sender (Lower s frame) who is = tt
comes_to_ring accs n e sender (Lcp s packet) who is = tt
comes_to_ring accs n e sender (Hang s) who is = tt
comes_to_ring accs n e sender OpenTunnel who is = tt
comes_to_ring accs n e sender (DropCall s) who is = tt
comes_to_ring accs n e sender (CloseTunnel i) who is = tt
comes_to_ring accs n e sender Tick who is = tt

-- ---- the account

pub gives_extends : (d : Deed) (a b : Account) → Extends a b → Extends a (gives_also d b)
gives_extends d a b g = record {
  part = g.part;
  peer = g.peer;
  remote = g.remote;
  answer = g.answer;
  first_given = g.first_given;
  first_taken = g.first_taken;
  closed = g.closed;
  given = (g.given.0 ++ gives d, ap (λ l. l ++ gives d) g.given.1 ∙ append_assoc a.given g.given.0 (gives d));
  taken = g.taken;
  declined = g.declined;
}

pub takes_extends : (d : Deed) (place : Place) (a b : Account) → Extends a b → Extends a (takes_at d place b)
takes_extends d place a b g = record {
  part = g.part;
  peer = g.peer;
  remote = g.remote;
  answer = g.answer;
  first_given = g.first_given;
  first_taken = g.first_taken;
  closed = g.closed;
  given = g.given;
  taken = (g.taken.0 ++ one, ap (λ l. l ++ one) g.taken.1 ∙ append_assoc a.taken g.taken.0 one);
  declined = g.declined;
}
  where
    one : List Taken
    one = record { sender = d.sender; number = place.number; move = d.move } ∷ []

-- it learns an id, or is closed
pub turns_extends : (a : Account) (remote : ℕ) (closed : Option ℕ) → (IsOpen a × (a.remote ≡ 0)) ⊎ (remote ≡ a.remote) → IsOpen a ⊎ (closed ≡ a.closed)
    → Extends a (record a { remote = remote; closed = closed })
turns_extends a remote closed how shut = record {
  part = inr refl;
  peer = λ made. refl;
  remote = how;
  answer = refl;
  first_given = refl;
  first_taken = refl;
  closed = shut;
  given = ([], sym (append-nil a.given));
  taken = ([], sym (append-nil a.taken));
  declined = λ z. z;
}

-- one that isn't closed
pub open_unless_shut : (accs : Accounts) (i e : ℕ) (a : Account) (t : Tunnel) (p : Part) → IsInState accs i e a t p → (state_number t.control.state ≡ 4 → ⊥) → IsOpen a
open_unless_shut accs i e a t Unmade is other = absurd is
open_unless_shut accs i e a t Opener is other = ⊎_elim
    (λ (q : (state_number t.control.state ≡ 1) × (a.remote ≡ 0) × IsOpen a × AllWait t.calls). q.2)
    (λ r. ⊎_elim
    (λ (q : (state_number t.control.state ≡ 3) × (a.remote ≡ 0 → ⊥) × IsOpen a). q.2)
    (λ (q : IsShut a t). absurd (other q.0)) r)
    is
open_unless_shut accs i e a t Acceptor is other = ⊎_elim
    (λ (q : (state_number t.control.state ≡ 2) × (t.calls ≡ []) × IsOpen a). q.2)
    (λ r. ⊎_elim
    (λ (q : (state_number t.control.state ≡ 3) × ((partner_in accs 0 a).remote ≡ i) × IsOpen a). q.2)
    (λ (q : IsShut a t). absurd (other q.0)) r)
    is
open_unless_shut accs i e a t Renewed is other = ⊎_elim
    (λ (q : (state_number t.control.state ≡ 3) × IsOpen a). q.1)
    (λ (q : IsShut a t). absurd (other q.0))
    is

-- one that waits for its SCCRP
pub unlearned_waits : (accs : Accounts) (i e : ℕ) (a : Account) (t : Tunnel) (p : Part) → IsInState accs i e a t p → state_number t.control.state ≡ 1 → (a.remote ≡ 0) × (p ≡ Opener)
unlearned_waits accs i e a t Unmade is one = absurd is
unlearned_waits accs i e a t Opener is one = ⊎_elim
    (λ (q : (state_number t.control.state ≡ 1) × (a.remote ≡ 0) × IsOpen a × AllWait t.calls). (q.1, refl))
    (λ r. ⊎_elim
    (λ (q : (state_number t.control.state ≡ 3) × (a.remote ≡ 0 → ⊥) × IsOpen a). let three = q.0 in absurd (omega (arith, one, three)))
    (λ (q : IsShut a t). let four = q.0 in absurd (omega (arith, one, four))) r)
    is
unlearned_waits accs i e a t Acceptor is one = ⊎_elim
    (λ (q : (state_number t.control.state ≡ 2) × (t.calls ≡ []) × IsOpen a). let two = q.0 in absurd (omega (arith, one, two)))
    (λ r. ⊎_elim
    (λ (q : (state_number t.control.state ≡ 3) × ((partner_in accs 0 a).remote ≡ i) × IsOpen a). let three = q.0 in absurd (omega (arith, one, three)))
    (λ (q : IsShut a t). let four = q.0 in absurd (omega (arith, one, four))) r)
    is
unlearned_waits accs i e a t Renewed is one = ⊎_elim
    (λ (q : (state_number t.control.state ≡ 3) × IsOpen a). let three = q.0 in absurd (omega (arith, one, three)))
    (λ (q : IsShut a t). let four = q.0 in absurd (omega (arith, one, four)))
    is

-- ---- the end

pub puts_so : (e x y : End) (i : ℕ) (u : Tunnel) → x ≡ y → Puts e y i u → Puts e x i u
puts_so e x y i u is puts = subst (λ z. Puts e z i u) (sym is) puts

-- a tunnel with the same other end is still alone with it
pub still_alone : (w v : World) (h k : History) (n : ℕ) (e x : End) (ok : EndOk w h n e) (i : ℕ) (t u : Tunnel) (puts : Puts e x i u) → at e.tunnels i ≡ Some t
    → u.control.peer ≡ t.control.peer → u.control.remote ≡ t.control.remote → IsAlone w v h k n e x ok i u puts
still_alone w v h k n e x ok i t u puts there peer remote j q o was peers remotes some =
    o (sym (ok.apart i j t q there was (sym peer ∙ peers) (sym remote ∙ remotes) (λ none. some (remote ∙ none))))
