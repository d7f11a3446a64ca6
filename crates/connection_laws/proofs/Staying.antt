-- Accounts that stay, but that SCCRQs are declined now: what is known goes on to hold.
use Rattle.std.proofs.Common.{◌≡◌, ◌⊎◌, inl, inr, ⊎_elim, ℕ, ◌+◌, ◌<◌, ◌≤◌, Bool, true, false, cond, List, length, refl, sym, ap, ◌∙◌, subst, append-nil, [], Option, Some, eq-eqb}
use Rattle.std.proofs.lemmas.Bool.{eqb-true}
use Rattle.std.specs.Prelude.{◌==◌, ◌&&◌}
use Rattle.id_table.specs.Ids.{at}
use Rattle.end_model.specs.declared.event.Event.{Event}
use Rattle.end_model.specs.declared.event.Event.TheVariants.{Datagram, Ring, Frame, Admitted, Payload, Lower, Lcp, Hang, OpenTunnel, DropCall, CloseTunnel, Tick}
use Rattle.end_model.specs.declared.moves.Declined.{Declined}
use Rattle.end_model.specs.declared.moves.Move.{Move}
use Rattle.end_model.specs.declared.moves.Move.TheVariants as move
use Rattle.end_model.specs.declared.out.Origin.{Origin}
use Rattle.end_model.specs.declared.out.Origin.TheVariants as origin
use Rattle.world_model.specs.declared.packet.Packet.{Packet}
use Rattle.end_names.specs.Names.{node_of}
use Rattle.end_model.specs.Tunnels.{Tunnel}
use Rattle.end_model.specs.End.{End}
use Rattle.world_model.specs.World.{Sender, Deed}
use Rattle.step_laws.specs.Codes.{CodesFit}
use Rattle.connection_laws.specs.Accounts.{Part, Unmade, Opener, Acceptor, Account, no_account, about, entered_by, declines_of, declined_in}
use Rattle.connection_laws.specs.Facts.{Accounts, IsMade, AreTaken, IsLost, AreJoined, HasStopped, partner_in, IsOpener, IsAcceptor, IsPart, AccountOk, IsInState, LiveOk, EndOk, AreNear, Comes, Within}
use Rattle.connection_laws.specs.Steps.{GivenBelow, IsOpening}
use Rattle.connection_laws.proofs.Keeps.{after}
use Rattle.connection_laws.proofs.Puts.{Extends}
use Rattle.connection_laws.proofs.Later.{opener_made, AllExtend, lost_on, got_given, live_made, live_later, packet_later, part_on, DeclinesNone}
use Rattle.connection_laws.proofs.GoingOn.{are_acked_on}
use Rattle.connection_laws.proofs.Reached.{and_left, and_right}

-- the account is the same, but that its SCCRQ may be declined now
pub record Stays (a b : Account) : Type 0 where
  pub declined : Bool
  pub is : b ≡ record a { declined = declined }
  pub keeps : a.declined ≡ true → declined ≡ true
  -- of a tunnel that isn't made none is
  pub unmade : a.part ≡ Unmade → declined ≡ a.declined

abbrev pub AllStay : Accounts → Accounts → Type 0
AllStay accs ms = (m j : ℕ) → Stays (accs m j) (ms m j)

pub stays_same : (a b : Account) → b ≡ a → Stays a b
stays_same a b same = record { declined = a.declined; is = same; keeps = λ z. z; unmade = λ z. refl }

pub stays_on : (a b c : Account) → Stays a b → Stays b c → Stays a c
stays_on a b c g h =
    let was : b.declined ≡ g.declined = ap (λ (y : Account). y.declined) g.is in
    record {
      declined = h.declined;
      is = h.is ∙ ap (λ (y : Account). record y { declined = h.declined }) g.is;
      keeps = λ z. h.keeps (was ∙ g.keeps z);
      unmade = λ z. h.unmade (ap (λ (y : Account). y.part) g.is ∙ z) ∙ was ∙ g.unmade z;
    }

pub stays_extends : (a b : Account) → Stays a b → Extends a b
stays_extends a b s = subst (λ (y : Account). Extends a y) (sym s.is) (record {
  part = inr refl;
  peer = λ made. refl;
  remote = inr refl;
  closed = inr refl;
  given = ([], sym (append-nil a.given));
  taken = ([], sym (append-nil a.taken));
  declined = s.keeps;
})

pub all_stay_extend : (accs ms : Accounts) → AllStay accs ms → AllExtend accs ms
all_stay_extend accs ms all m j = stays_extends (accs m j) (ms m j) (all m j)

-- ---- accounts

module _ (accs ms : Accounts) (all : AllStay accs ms) where
  module _ (m j : ℕ) (a : Account) (now : Bool) where
    abbrev b : Account
    b = record a { declined = now }

    -- its partner as it was, and as it is
    abbrev p : Account
    p = partner_in accs a

    abbrev c : Account
    c = partner_in ms a

    s : Stays p c
    s = all a.peer a.remote

    opener_stays : IsOpener accs m j a → IsOpener ms m j b
    opener_stays h = record {
      begins = h.begins;
      none = h.none;
      one_given = h.one_given;
      some = h.some;
      part = λ z. ap (λ (y : Account). y.part) s.is ∙ h.part z;
      peer = λ z. ap (λ (y : Account). y.peer) s.is ∙ h.peer z;
      remote = λ z. ap (λ (y : Account). y.remote) s.is ∙ h.remote z;
      joined = λ z. subst (λ (y : Account). AreJoined b y) (sym s.is) (let k = h.joined z in
          record { here = k.here; there = k.there; few_here = k.few_here; few_there = k.few_there });
      early = h.early;
    }

    named_before : p.remote ≡ j → c.remote ≡ j
    named_before named = ap (λ (y : Account). y.remote) s.is ∙ named

    acceptor_stays : IsAcceptor accs m j a → IsAcceptor ms m j b
    acceptor_stays h = record {
      begins = h.begins;
      known = h.known;
      some = h.some;
      part = ap (λ (y : Account). y.part) s.is ∙ h.part;
      peer = ap (λ (y : Account). y.peer) s.is ∙ h.peer;
      one_taken = λ no. ⊎_elim
          (λ (one : length a.taken ≡ 1). inl one)
          (λ (lost : IsLost p × (length a.taken ≤ 2)). inr (lost_on p c (stays_extends p c s) lost.0, lost.1))
          (h.one_taken (λ named. no (named_before named)));
      one_given = λ no. ⊎_elim
          (λ (one : length a.given ≡ 1). inl one)
          (λ (k : HasStopped a). inr (record { closed = k.closed; few = k.few; stops = k.stops }))
          (h.one_given (λ named. no (named_before named)));
    }

    part_stays : (a.part ≡ Unmade → now ≡ a.declined) → (q : Part) → a.part ≡ q → IsPart accs m j a q → IsPart ms m j b q
    part_stays unmade Unmade own h = ap (λ (d : Bool). record a { declined = d }) (unmade own) ∙ h
    part_stays unmade Opener own h = opener_stays h
    part_stays unmade Acceptor own h = acceptor_stays h

    taken_stays : AreTaken accs a → AreTaken ms b
    taken_stays h number t found lt =
        let k = h number t found lt in
        record {
          numbered = k.numbered;
          partner = k.partner;
          learned = k.learned;
          sender = k.sender;
          letter = k.letter;
          there = got_given (accs k.partner.node k.partner.tunnel) (ms k.partner.node k.partner.tunnel)
              (stays_extends (accs k.partner.node k.partner.tunnel) (ms k.partner.node k.partner.tunnel) (all k.partner.node k.partner.tunnel))
              number k.letter k.there;
          tells = k.tells;
        }

    account_stays : (a.part ≡ Unmade → now ≡ a.declined) → AccountOk accs m j a → AccountOk ms m j b
    account_stays unmade h = record {
      part = part_stays unmade a.part refl h.part;
      some = h.some;
      id = h.id;
      node = h.node;
      peer = h.peer;
      remote = h.remote;
      spelled = h.spelled;
      told = h.told;
      taken = taken_stays h.taken;
      ignored = h.ignored;
    }

  pub accounts_stay : ((m j : ℕ) → AccountOk accs m j (accs m j)) → (m j : ℕ) → AccountOk ms m j (ms m j)
  accounts_stay ok m j =
      let s = all m j in
      subst (λ (y : Account). AccountOk ms m j y) (sym s.is) (account_stays m j (accs m j) s.declined s.unmade (ok m j))

-- ---- ends

-- where a live tunnel's own SCCRQ is declined now
live_now : (ms : Accounts) (n i : ℕ) (a : Account) (now : Bool) (t : Tunnel) → (a.declined ≡ true → now ≡ true) → LiveOk ms n i a t
    → LiveOk ms n i (record a { declined = now }) t
live_now ms n i a now t keeps h = record {
  local = h.local;
  peer = h.peer;
  remote = h.remote;
  state = state a.part h.state;
  letters = h.letters;
  counted = h.counted;
  few = h.few;
  outstanding = h.outstanding;
  taken = h.taken;
  acked = are_acked_on ms n i a (record a { declined = now }) t.control.channel.window.acked refl refl keeps a.part h.acked;
  calls = h.calls;
  order = h.order;
  recovery = h.recovery;
  query = h.query;
}
  where
    state : (q : Part) → IsInState ms i a t q → IsInState ms i (record a { declined = now }) t q
    state Unmade k = k
    state Opener k = k
    state Acceptor k = k

-- the accounts of an end stay so, and more is known of its tunnels' partners
pub end_stays : (accs ms : Accounts) → AllExtend accs ms → (k : ℕ) → ((i : ℕ) → Stays (accs k i) (ms k i)) → ((i : ℕ) → IsMade (accs k i) → 0 < i)
    → (e : End) → EndOk accs k e → EndOk ms k e
end_stays accs ms grown k same some e h = record {
  node = h.node;
  number = h.number;
  lns = h.lns;
  first = h.first;
  last = h.last;
  first_session = h.first_session;
  last_session = h.last_session;
  order = h.order;
  drawn = λ i made. h.drawn i (λ none. made (ap (λ (y : Account). y.part) (same i).is ∙ none));
  live = live;
  apart = h.apart;
}
  where
    live : (i : ℕ) (t : Tunnel) → at e.tunnels i ≡ Some t → LiveOk ms k i (ms k i) t
    live i t there =
        let l = h.live i t there in
        let s = same i in
        let later = live_later accs ms grown k i (some i (live_made accs k i (accs k i) t l)) (accs k i) t l in
        subst (λ (y : Account). LiveOk ms k i y t) (sym s.is) (live_now ms k i (accs k i) s.declined t s.keeps later)

-- an account of which nothing is known stays
pub unknown_stays : (a b : Account) → Stays a b → a ≡ no_account → b ≡ no_account
unknown_stays a b s none =
    s.is ∙ ap (λ (d : Bool). record a { declined = d }) (s.unmade (ap (λ (y : Account). y.part) none)) ∙ none

-- ---- what holds between two moves

near_stays : (accs ms : Accounts) → AllStay accs ms → (n : ℕ) (e : End) (p : Packet) (bytes : List ℕ) (o : Origin) → AreNear accs n e p bytes o
    → AreNear ms n e p bytes o
near_stays accs ms all n e p bytes (origin.Control o) before = λ i t h there peer read is.
    let k = before i t h there peer read is in
    record { taken = subst (λ (y : Account). length y.taken ≤ o.ns + 32768) (sym (all n i).is) k.taken; acked = k.acked }
near_stays accs ms all n e p bytes (origin.Data session) before = tt
near_stays accs ms all n e p bytes (origin.Recovery tunnel number empty) before = tt

comes_stays : (accs ms : Accounts) → AllStay accs ms → (n : ℕ) (e : End) (sender : Option Sender) (v : Event) → Comes accs n e sender v
    → Comes ms n e sender v
comes_stays accs ms all n e sender (Datagram peer bytes) c = record {
  packet = c.packet;
  ok = packet_later accs ms (all_stay_extend accs ms all) c.packet c.ok;
  to = c.to;
  peer_is = c.peer_is;
  secret = c.secret;
  bytes_are = c.bytes_are;
  sender_is = c.sender_is;
  near = near_stays accs ms all n e c.packet bytes c.packet.origin c.near;
}
comes_stays accs ms all n e sender (Ring port) c = tt
comes_stays accs ms all n e sender (Frame bytes) c = tt
comes_stays accs ms all n e sender (Admitted mac) c = tt
comes_stays accs ms all n e sender (Payload s frame) c = tt
comes_stays accs ms all n e sender (Lower s frame) c = tt
comes_stays accs ms all n e sender (Lcp s packet) c = tt
comes_stays accs ms all n e sender (Hang s) c = tt
comes_stays accs ms all n e sender OpenTunnel c = tt
comes_stays accs ms all n e sender (DropCall s) c = tt
comes_stays accs ms all n e sender (CloseTunnel k) c = tt
comes_stays accs ms all n e sender Tick c = tt

pub within_stays : (accs ms : Accounts) → AllStay accs ms → (n : ℕ) (e : End) (sender : Option Sender) (ev : Event) → Within accs n e sender ev
    → Within ms n e sender ev
within_stays accs ms all n e sender ev within = record {
  accounts = accounts_stay accs ms all within.accounts;
  end = end_stays accs ms (all_stay_extend accs ms all) n (λ i. all n i) (λ i made. (within.accounts n i).some made) e within.end;
  comes = comes_stays accs ms all n e sender ev within.comes;
}

-- no letter is given
pub given_stays : (accs ms : Accounts) → AllStay accs ms → (most : ℕ) → GivenBelow accs most → GivenBelow ms most
given_stays accs ms all most had k j = subst (λ (y : Account). length y.given ≤ most) (sym (all k j).is) (had k j)

-- ---- a move by which an SCCRQ is declined

pub record IsDeclining (m : Move) : Type 0 where
  pub declined : Declined
  pub is : m ≡ move.Declined declined

-- a move is one, or it enters one tunnel alone
pub declines_or_not : (m : Move) → DeclinesNone m ⊎ IsDeclining m
declines_or_not (move.Opened m) = inl tt
declines_or_not (move.Accepted m) = inl tt
declines_or_not (move.Connected m) = inl tt
declines_or_not (move.Confirmed m) = inl tt
declines_or_not (move.Added m) = inl tt
declines_or_not (move.Requested m) = inl tt
declines_or_not (move.Replied m) = inl tt
declines_or_not (move.FirstUp m) = inl tt
declines_or_not (move.SecondUp m) = inl tt
declines_or_not (move.Refused m) = inl tt
declines_or_not (move.EndTold m) = inl tt
declines_or_not (move.EndHeard m) = inl tt
declines_or_not (move.EndSilent m) = inl tt
declines_or_not (move.Declined m) = inr (record { declined = m; is = refl })
declines_or_not (move.Closed m) = inl tt
declines_or_not (move.Rejected m) = inl tt
declines_or_not (move.ClosedBy m) = inl tt
declines_or_not (move.Cleared k booked) = inl tt
declines_or_not (move.Greeted m) = inl tt
declines_or_not (move.TookPlain m) = inl tt
declines_or_not (move.NrRead m) = inl tt
declines_or_not (move.LetGo m) = inl tt
declines_or_not (move.Repeated m) = inl tt
declines_or_not (move.Quiet k) = inl tt
declines_or_not (move.Negotiated m) = inl tt
declines_or_not (move.Counted m) = inl tt
declines_or_not (move.FrameSent m) = inl tt
declines_or_not (move.FrameUp m) = inl tt
declines_or_not m = inl tt

-- the accounts after its deed
after_declined : (accs : Accounts) (d : Deed) (m : Declined) → d.move ≡ move.Declined m → (k j : ℕ)
    → after accs d k j ≡ declined_in (declines_of (move.Declined m) k j) (accs k j)
after_declined accs d m is k j =
    ap (λ (q : Move). declined_in (declines_of q k j) (cond ((d.node == k) && (about q == j)) (entered_by d q (accs k j)) (accs k j))) is
    ∙ ap (λ (a : Account). declined_in (declines_of (move.Declined m) k j) a) (either ((d.node == k) && (0 == j)))
  where
    either : (b : Bool) → cond b (accs k j) (accs k j) ≡ accs k j
    either true = refl
    either false = refl

pub declined_stays : (accs : Accounts) (d : Deed) (m : Declined) → d.move ≡ move.Declined m → IsMade (accs (node_of m.peer) m.remote)
    → AllStay accs (after accs d)
declined_stays accs d m is made k j =
    subst (λ (y : Account). Stays (accs k j) y) (sym (after_declined accs d m is k j)) (by (declines_of (move.Declined m) k j) refl)
  where
    there : declines_of (move.Declined m) k j ≡ true → IsMade (accs k j)
    there h =
        let node : node_of m.peer ≡ k = eqb-true (node_of m.peer) k (and_left (node_of m.peer == k) (m.remote == j) h) in
        let tunnel : m.remote ≡ j = eqb-true m.remote j (and_right (node_of m.peer == k) (m.remote == j) h) in
        rw (← node, ← tunnel) made

    by : (b : Bool) → declines_of (move.Declined m) k j ≡ b → Stays (accs k j) (declined_in b (accs k j))
    by true h = record { declined = true; is = refl; keeps = λ z. refl; unmade = λ none. absurd (there h none) }
    by false h = stays_same (accs k j) (accs k j) refl

-- what is known of an opening that was declined
pub record WasOpening (accs : Accounts) (n : ℕ) (m : Declined) : Type 0 where
  pub opener : (accs (node_of m.peer) m.remote).part ≡ Opener
  pub peer : (accs (node_of m.peer) m.remote).peer ≡ n
  pub declined : (accs (node_of m.peer) m.remote).declined ≡ true
  pub nr : m.nr ≡ 1
  pub fit : CodesFit m.result m.error

pub opening_stays : (accs : Accounts) (n : ℕ) (d : Deed) (m : Declined) → d.move ≡ move.Declined m → IsOpening accs n m → AllStay accs (after accs d)
opening_stays accs n d m is k = declined_stays accs d m is (opener_made (accs (node_of m.peer) m.remote) k.opener)

pub was_opening : (accs : Accounts) (n : ℕ) (d : Deed) (m : Declined) → d.move ≡ move.Declined m → IsOpening accs n m → CodesFit m.result m.error
    → WasOpening (after accs d) n m
was_opening accs n d m is k fit =
    let s = opening_stays accs n d m is k (node_of m.peer) m.remote in
    record {
      opener = ap (λ (y : Account). y.part) s.is ∙ k.opener;
      peer = ap (λ (y : Account). y.peer) s.is ∙ k.peer;
      declined = ap (λ (y : Account). y.declined) (after_declined accs d m is (node_of m.peer) m.remote) ∙ now;
      nr = k.nr;
      fit = fit;
    }
  where
    now : (declined_in (declines_of (move.Declined m) (node_of m.peer) m.remote) (accs (node_of m.peer) m.remote)).declined ≡ true
    now = rw (eq-eqb (node_of m.peer) (node_of m.peer) refl, eq-eqb m.remote m.remote refl) refl

pub opening_later : (accs ms : Accounts) → AllExtend accs ms → (n : ℕ) (m : Declined) → WasOpening accs n m → WasOpening ms n m
opening_later accs ms grown n m k =
    let a = accs (node_of m.peer) m.remote in
    let b = ms (node_of m.peer) m.remote in
    let g = grown (node_of m.peer) m.remote in
    let made = opener_made a k.opener in
    record { opener = part_on a b g made ∙ k.opener; peer = g.peer made ∙ k.peer; declined = g.declined k.declined; nr = k.nr; fit = k.fit }
