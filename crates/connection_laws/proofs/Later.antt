-- What is known of tunnels goes on to hold where more is known of them.
use Rattle.std.proofs.Common.{◌≡◌, ◌⊎◌, inl, inr, ⊎_elim, ℕ, zero, suc, ◌<◌, ◌≤◌, List, [], ◌∷◌, ◌++◌, length, slice_get, false, refl, sym, ap, ap₂, ◌∙◌, subst, Option, append_assoc, append-nil, Some, arith, eq-eqb, ne_eqb}
use Rattle.std.proofs.lemmas.List.{length-append}
use mathlib.Core.Path.{fun_ext}
use Rattle.id_table.specs.Order.{same_or_not}
use Rattle.world_model.specs.declared.packet.Packet.{Packet}
use Rattle.end_model.specs.declared.out.Origin.{Origin}
use Rattle.end_model.specs.declared.out.Origin.TheVariants as origin
use Rattle.end_model.specs.declared.out.ControlOrigin.{ControlOrigin}
use Rattle.end_model.specs.declared.moves.Place.{Place}
use Rattle.end_model.specs.declared.moves.Move.{Move}
use Rattle.end_model.specs.declared.moves.Move.TheVariants as move
use Rattle.tunnel_fsm.specs.Rows.{state_number}
use Rattle.end_model.specs.Tunnels.{Tunnel}
use Rattle.world_model.specs.World.{Sender, Deed}
use Rattle.step_laws.specs.Letters.{Letter}
use Rattle.connection_laws.specs.Accounts.{Part, Unmade, Opener, Acceptor, Taken, Account, partner_of, about, entered, entered_by, takes_at, gives_also, declines_of}
use Rattle.connection_laws.specs.Facts.{Accounts, IsMade, IsTaken, AreTaken, IsOpen, IsLost, AreJoined, partner_in, IsOpener, IsAcceptor, IsPart, AccountOk, IsAnswered, IsShut, IsInState, AreAcked, LiveOk, Says, ALetter, Nothing, IsCopy, IsRefusal, OriginOk, PacketOk}
use Rattle.connection_laws.proofs.Keeps.{after}
use Rattle.connection_laws.proofs.States.{lost_unless}
use Rattle.connection_laws.proofs.Puts.{Extends, IsOnly, StaysJoined}

-- what is in a list is in a longer one
pub got_left : {X : Type 0} (xs ys : List X) (k : ℕ) (x : X) → slice_get xs k ≡ Some x → slice_get (xs ++ ys) k ≡ Some x
got_left [] ys k x h = absurd (cc)
got_left (y ∷ xs) ys zero x h = h
got_left (y ∷ xs) ys (suc k) x h = got_left xs ys k x h

-- ---- more is known of one tunnel

pub extends_same : (a : Account) → Extends a a
extends_same a = record {
  part = inr refl;
  peer = λ made. refl;
  remote = inr refl;
  closed = inr refl;
  given = ([], sym (append-nil a.given));
  taken = ([], sym (append-nil a.taken));
  declined = λ z. z;
}

pub made_on : (a b : Account) → Extends a b → IsMade a → IsMade b
made_on a b g made none = ⊎_elim (λ u. made u) (λ same. made (sym same ∙ none)) g.part

pub part_on : (a b : Account) → Extends a b → IsMade a → b.part ≡ a.part
part_on a b g made = ⊎_elim (λ u. absurd (made u)) (λ same. same) g.part

pub remote_on : (a b : Account) → Extends a b → (a.remote ≡ 0 → ⊥) → b.remote ≡ a.remote
remote_on a b g some = ⊎_elim (λ u. absurd (some u.1)) (λ same. same) g.remote

-- what is open was, and what is lost stays so
pub open_on : (a b : Account) → Extends a b → IsOpen b → IsOpen a
open_on a b g is_open = ⊎_elim (λ (was : IsOpen a). was) (λ (same : b.closed ≡ a.closed). sym same ∙ is_open) g.closed

pub lost_on : (a b : Account) → Extends a b → IsLost a → IsLost b
lost_on a b g lost = (
  ⊎_elim (λ (was : IsOpen a). absurd (lost_unless a was lost)) (λ (same : b.closed ≡ a.closed). same ∙ lost.0) g.closed,
  ⊎_elim (λ (was : IsOpen a × (a.remote ≡ 0)). absurd (lost_unless a was.0 lost)) (λ (same : b.remote ≡ a.remote). same ∙ lost.1) g.remote,
)

pub extends_on : (a b c : Account) → Extends a b → Extends b c → Extends a c
extends_on a b c g h = record {
  part = ⊎_elim (λ u. inl u) (λ same. ⊎_elim (λ u. inl (sym same ∙ u)) (λ again. inr (again ∙ same)) h.part) g.part;
  peer = λ made. h.peer (made_on a b g made) ∙ g.peer made;
  remote = ⊎_elim (λ u. inl u)
      (λ (same : b.remote ≡ a.remote).
      ⊎_elim (λ (u : IsOpen b × (b.remote ≡ 0)). inl (open_on a b g u.0, sym same ∙ u.1)) (λ again. inr (again ∙ same)) h.remote)
      g.remote;
  closed = ⊎_elim (λ u. inl u)
      (λ (same : b.closed ≡ a.closed). ⊎_elim (λ (u : IsOpen b). inl (sym same ∙ u)) (λ again. inr (again ∙ same)) h.closed)
      g.closed;
  given = (g.given.0 ++ h.given.0, h.given.1 ∙ ap (λ l. l ++ h.given.0) g.given.1 ∙ append_assoc a.given g.given.0 h.given.0);
  taken = (g.taken.0 ++ h.taken.0, h.taken.1 ∙ ap (λ l. l ++ h.taken.0) g.taken.1 ∙ append_assoc a.taken g.taken.0 h.taken.0);
  declined = λ z. h.declined (g.declined z);
}

pub got_given : (a b : Account) → Extends a b → (k : ℕ) (l : Letter) → slice_get a.given k ≡ Some l → slice_get b.given k ≡ Some l
got_given a b g k l h = rw g.given.1 (got_left a.given g.given.0 k l h)

pub got_taken : (a b : Account) → Extends a b → (k : ℕ) (t : Taken) → slice_get a.taken k ≡ Some t → slice_get b.taken k ≡ Some t
got_taken a b g k t h = rw g.taken.1 (got_left a.taken g.taken.0 k t h)

pub more_given : (a b : Account) → Extends a b → length a.given ≤ length b.given
more_given a b g = rw (g.given.1, length-append) (omega arith)

pub more_taken : (a b : Account) → Extends a b → length a.taken ≤ length b.taken
more_taken a b g = rw (g.taken.1, length-append) (omega arith)

-- ---- more is known of all tunnels

abbrev pub AllExtend : Accounts → Accounts → Type 0
AllExtend accs ms = (m j : ℕ) → Extends (accs m j) (ms m j)

pub here_or_not : (m n j i : ℕ) → ((m ≡ n) × (j ≡ i)) ⊎ ((m ≡ n) × (j ≡ i) → ⊥)
here_or_not m n j i =
    ⊎_elim
    (λ (p : m ≡ n). ⊎_elim (λ (q : j ≡ i). inl (p, q)) (λ no. inr (λ (both : (m ≡ n) × (j ≡ i)). no both.1)) (same_or_not j i))
    (λ no. inr (λ (both : (m ≡ n) × (j ≡ i)). no both.0))
    (same_or_not m n)

pub all_extend : (accs ms : Accounts) (n i : ℕ) → IsOnly accs ms n i → AllExtend accs ms
all_extend accs ms n i only m j =
    ⊎_elim
    (λ (same : (m ≡ n) × (j ≡ i)). rw (same.0, same.1) only.here)
    (λ no. rw (only.others m j no) (extends_same (accs m j)))
    (here_or_not m n j i)

-- what was taken of a letter was
pub is_taken_later : (accs ms : Accounts) → AllExtend accs ms → (a : Account) (number : ℕ) (t : Taken) → IsTaken accs a number t → IsTaken ms a number t
is_taken_later accs ms g a number t h = record {
  numbered = h.numbered;
  partner = h.partner;
  learned = h.learned;
  sender = h.sender;
  letter = h.letter;
  there = got_given (accs h.partner.node h.partner.tunnel) (ms h.partner.node h.partner.tunnel) (g h.partner.node h.partner.tunnel) number h.letter h.there;
  tells = h.tells;
}

pub are_taken_later : (accs ms : Accounts) → AllExtend accs ms → (a : Account) → AreTaken accs a → AreTaken ms a
are_taken_later accs ms g a h number t there lt = is_taken_later accs ms g a number t (h number t there lt)

-- the partner of a tunnel that has one stays
pub known_partner : (a : Account) (p : Sender) → partner_of a ≡ Some p → a.remote ≡ 0 → ⊥
known_partner a p h none = let g = rw none at h in let clash : ⊥ = cc in clash

pub partner_on : (a b : Account) → Extends a b → IsMade a → (p : Sender) → partner_of a ≡ Some p → partner_of b ≡ Some p
partner_on a b g made p h = rw (remote_on a b g (known_partner a p h), g.peer made) h

-- also where the tunnel itself goes on
pub is_taken_on : (accs ms : Accounts) → AllExtend accs ms → (a b : Account) → Extends a b → IsMade a → (number : ℕ) (t : Taken)
    → IsTaken accs a number t → IsTaken ms b number t
is_taken_on accs ms g a b on made number t h = record {
  numbered = h.numbered;
  partner = h.partner;
  learned = partner_on a b on made h.partner h.learned;
  sender = h.sender;
  letter = h.letter;
  there = got_given (accs h.partner.node h.partner.tunnel) (ms h.partner.node h.partner.tunnel) (g h.partner.node h.partner.tunnel) number h.letter h.there;
  tells = h.tells;
}

-- ---- the account of another tunnel

pub opener_made : (a : Account) → a.part ≡ Opener → IsMade a
opener_made a h none = let clash : ⊥ = cc in clash

acceptor_made : (a : Account) → a.part ≡ Acceptor → IsMade a
acceptor_made a h none = let clash : ⊥ = cc in clash

not_zero : (k j : ℕ) → k ≡ j → 0 < j → k ≡ 0 → ⊥
not_zero k j same some none = omega (arith, same, some, none)

module _ (accs ms : Accounts) (n i : ℕ) (only : IsOnly accs ms n i) where
  grown : AllExtend accs ms
  grown = all_extend accs ms n i only

  -- tunnel j of node m is another one
  module _ (m j : ℕ) (some : 0 < j) (same : ms m j ≡ accs m j) where
    abbrev a : Account
    a = accs m j

    abbrev b : Account
    b = partner_in accs a

    abbrev c : Account
    c = partner_in ms a

    g : Extends b c
    g = grown a.peer a.remote

    named_still : b.remote ≡ j → c.remote ≡ j
    named_still h = remote_on b c g (not_zero b.remote j h some) ∙ h

    opener_later : StaysJoined ms n i → IsOpener accs m j a → IsOpener ms m j a
    opener_later stays h = record {
      begins = h.begins;
      none = h.none;
      one_given = h.one_given;
      some = h.some;
      part = part;
      peer = peer;
      remote = remote;
      joined = joined;
      early = h.early;
    }
      where
        part : (a.remote ≡ 0 → ⊥) → c.part ≡ Acceptor
        part k = part_on b c g (acceptor_made b (h.part k)) ∙ h.part k

        peer : (a.remote ≡ 0 → ⊥) → c.peer ≡ m
        peer k = g.peer (acceptor_made b (h.part k)) ∙ h.peer k

        remote : (a.remote ≡ 0 → ⊥) → c.remote ≡ j
        remote k = named_still (h.remote k)

        back : (a.remote ≡ 0 → ⊥) → partner_in ms c ≡ a
        back k = ap₂ ms (peer k) (remote k) ∙ same

        joined : (a.remote ≡ 0 → ⊥) → AreJoined a c
        joined k =
            ⊎_elim
            (λ (p : (a.peer ≡ n) × (a.remote ≡ i)).
            let at_it : StaysJoined ms a.peer a.remote = rw (p.0, p.1) stays in
            subst (λ x. AreJoined x c) (back k) (at_it (part k) (ap (λ (x : Account). x.remote) (back k))))
            (λ no. rw (only.others a.peer a.remote no) (h.joined k))
            (here_or_not a.peer n a.remote i)

    acceptor_later : IsAcceptor accs m j a → IsAcceptor ms m j a
    acceptor_later h =
        let made = opener_made b h.part in
        record {
          begins = h.begins;
          known = h.known;
          some = h.some;
          part = part_on b c g made ∙ h.part;
          peer = g.peer made ∙ h.peer;
          one_taken = λ no. ⊎_elim (λ one. inl one) (λ (lost : IsLost b × (length a.taken ≤ 2)). inr (lost_on b c g lost.0, lost.1))
              (h.one_taken (λ named. no (named_still named)));
          one_given = λ no. h.one_given (λ named. no (named_still named));
        }

  -- the account of another tunnel stays true; an opener of this one needs that it is still joined with it
  pub account_later : StaysJoined ms n i → (m j : ℕ) → ms m j ≡ accs m j → AccountOk accs m j (accs m j) → AccountOk ms m j (accs m j)
  account_later stays m j same h = record {
    part = by (accs m j).part refl h.part;
    some = h.some;
    id = h.id;
    node = h.node;
    peer = h.peer;
    remote = h.remote;
    spelled = h.spelled;
    told = h.told;
    taken = are_taken_later accs ms grown (accs m j) h.taken;
    ignored = h.ignored;
  }
    where
      by : (p : Part) → (accs m j).part ≡ p → IsPart accs m j (accs m j) p → IsPart ms m j (accs m j) p
      by Unmade e k = k
      by Opener e k = opener_later m j (h.some (opener_made (accs m j) e)) same stays k
      by Acceptor e k = acceptor_later m j (h.some (acceptor_made (accs m j) e)) same k

-- ---- live tunnels, of which more is known of their partners

pub live_made : (accs : Accounts) (n i : ℕ) (a : Account) (t : Tunnel) → LiveOk accs n i a t → IsMade a
live_made accs n i a t h none = subst (λ p. IsInState accs i a t p) none h.state

module _ (accs ms : Accounts) (grown : AllExtend accs ms) (n i : ℕ) (some : 0 < i) where
  partner_names : (a : Account) → (partner_in accs a).remote ≡ i → (partner_in ms a).remote ≡ i
  partner_names a h =
      remote_on (partner_in accs a) (partner_in ms a) (grown a.peer a.remote) (not_zero (partner_in accs a).remote i h some) ∙ h

  -- a partner that names this tunnel did so before, or it names it now
  pub in_state_later : (a : Account) (t : Tunnel) (p : Part) → IsInState accs i a t p → IsInState ms i a t p
  in_state_later a t Unmade h = h
  in_state_later a t Opener h = h
  in_state_later a t Acceptor h =
      ⊎_elim
      (λ (waits : (state_number t.control.state ≡ 2) × (t.calls ≡ []) × IsOpen a). inl waits)
      (λ rest. ⊎_elim
      (λ (k : (state_number t.control.state ≡ 3) × ((partner_in accs a).remote ≡ i) × IsOpen a). inr (inl (k.0, partner_names a k.1, k.2)))
      (λ (k : IsShut a t). inr (inr k))
      rest)
      h

  answered_later : (a : Account) (acked : ℕ) → IsAnswered accs n i a acked → IsAnswered ms n i a acked
  answered_later a acked h =
      let b = accs a.peer h.acceptor in
      let c = ms a.peer h.acceptor in
      let g = grown a.peer h.acceptor in
      let made = acceptor_made b h.part in
      record {
        acceptor = h.acceptor;
        part = part_on b c g made ∙ h.part;
        peer = g.peer made ∙ h.peer;
        remote = remote_on b c g (not_zero b.remote i h.remote some) ∙ h.remote;
        enough = (let le = h.enough in let more = more_taken b c g in omega arith);
      }

  more_of_partner : (a : Account) → length (partner_in accs a).taken ≤ length (partner_in ms a).taken
  more_of_partner a = more_taken (partner_in accs a) (partner_in ms a) (grown a.peer a.remote)

  lost_later : (a : Account) → IsLost (partner_in accs a) → IsLost (partner_in ms a)
  lost_later a lost = lost_on (partner_in accs a) (partner_in ms a) (grown a.peer a.remote) lost

  pub are_acked_later : (a : Account) (acked : ℕ) (p : Part) → AreAcked accs n i a acked p → AreAcked ms n i a acked p
  are_acked_later a acked Unmade h = h
  are_acked_later a acked Opener h = (
    (λ none. ⊎_elim
        (λ no. inl no)
        (λ rest. inr (⊎_elim (λ (one : IsAnswered accs n i a acked). inl (answered_later a acked one)) (λ one. inr one) rest))
        (h.0 none)),
    (λ known. let le = h.1 known in let more = more_of_partner a in omega arith),
  )
  are_acked_later a acked Acceptor h = (
    (λ no. ⊎_elim (λ none. inl none) (λ (lost : IsLost (partner_in accs a)). inr (lost_later a lost)) (h.0 (λ named. no (partner_names a named)))),
    (λ named. ⊎_elim
        (λ (before : (partner_in accs a).remote ≡ i). let le = h.1 before in let more = more_of_partner a in omega arith)
        (λ no. ⊎_elim (λ (none : acked ≡ 0). omega (arith, none))
        (λ (lost : IsLost (partner_in accs a)). let z = (lost_later a lost).1 in absurd (omega (arith, named, z, some)))
        (h.0 no))
        (same_or_not (partner_in accs a).remote i)),
  )

  pub live_later : (a : Account) (t : Tunnel) → LiveOk accs n i a t → LiveOk ms n i a t
  live_later a t h = record {
    local = h.local;
    peer = h.peer;
    remote = h.remote;
    state = in_state_later a t a.part h.state;
    letters = h.letters;
    counted = h.counted;
    few = h.few;
    outstanding = h.outstanding;
    taken = h.taken;
    acked = are_acked_later a t.control.channel.window.acked a.part h.acked;
    calls = h.calls;
    order = h.order;
    recovery = h.recovery;
    query = h.query;
  }

-- ---- packets

says_later : (a b : Account) → Extends a b → (o : ControlOrigin) (tunnel : ℕ) (bytes : List ℕ) → Says a o tunnel bytes → Says b o tunnel bytes
says_later a b g o tunnel bytes (ALetter l some there are) = ALetter l some (got_given a b g o.ns l there) are
says_later a b g o tunnel bytes (Nothing none are) = Nothing none are

pub copy_later : (a b : Account) → Extends a b → (p : Packet) (o : ControlOrigin) → IsCopy a p o → IsCopy b p o
copy_later a b g p o h = record {
  made = made_on a b g h.made;
  to = h.to ∙ sym (g.peer h.made);
  nr = (let le = h.nr in let more = more_taken a b g in omega arith);
  tunnel = h.tunnel;
  named = ⊎_elim
      (λ (none : (h.tunnel ≡ 0) × (a.part ≡ Opener) × (IsLost a ⊎ ((o.nr ≡ 0) × (o.empty ≡ false → o.ns ≡ 0)))).
      inl (none.0, part_on a b g h.made ∙ none.1, ⊎_elim (λ (lost : IsLost a). inl (lost_on a b g lost)) (λ first. inr first) none.2))
      (λ some. inr (some.0, some.1 ∙ sym (remote_on a b g (λ none. some.0 (some.1 ∙ none))))) h.named;
  says = says_later a b g o h.tunnel p.bytes h.says;
}

-- what is declined stays so
pub refusal_later : (accs ms : Accounts) → AllExtend accs ms → (p : Packet) (o : ControlOrigin) → IsRefusal accs p o → IsRefusal ms p o
refusal_later accs ms g p o h =
    let a = accs p.to h.tunnel in
    let b = ms p.to h.tunnel in
    let made = opener_made a h.opener in
    let more = g p.to h.tunnel in
    record {
      none = h.none;
      ns = h.ns;
      nr = h.nr;
      some = h.some;
      tunnel = h.tunnel;
      opener = part_on a b more made ∙ h.opener;
      peer = more.peer made ∙ h.peer;
      declined = more.declined h.declined;
      result = h.result;
      error = h.error;
      fit = h.fit;
      are = h.are;
    }

pub packet_later : (accs ms : Accounts) → AllExtend accs ms → (p : Packet) → PacketOk accs p → PacketOk ms p
packet_later accs ms g p h = record { from = h.from; epoch = h.epoch; sent = by p.origin h.sent }
  where
    by : (o : Origin) → OriginOk accs p o → OriginOk ms p o
    by (origin.Control o) k = ⊎_elim
        (λ (c : IsCopy (accs p.from o.tunnel) p o). inl (copy_later (accs p.from o.tunnel) (ms p.from o.tunnel) (g p.from o.tunnel) p o c))
        (λ (r : IsRefusal accs p o). inr (refusal_later accs ms g p o r))
        k
    by (origin.Data session) k = k
    by (origin.Recovery tunnel number empty) k = k

-- ---- the accounts after a deed

-- a move by which no SCCRQ is declined: it enters one tunnel of its node alone
abbrev pub DeclinesNone : Move → Type 0
DeclinesNone (move.Declined m) = ⊥
DeclinesNone m = Unit {0}

declines_none : (m : Move) → DeclinesNone m → (n i : ℕ) → declines_of m n i ≡ false
declines_none (move.Opened m) plain n i = refl
declines_none (move.Accepted m) plain n i = refl
declines_none (move.Connected m) plain n i = refl
declines_none (move.Confirmed m) plain n i = refl
declines_none (move.Added m) plain n i = refl
declines_none (move.Requested m) plain n i = refl
declines_none (move.Replied m) plain n i = refl
declines_none (move.FirstUp m) plain n i = refl
declines_none (move.SecondUp m) plain n i = refl
declines_none (move.Refused m) plain n i = refl
declines_none (move.EndTold m) plain n i = refl
declines_none (move.EndHeard m) plain n i = refl
declines_none (move.EndSilent m) plain n i = refl
declines_none (move.Declined m) plain n i = absurd plain
declines_none (move.Closed m) plain n i = refl
declines_none (move.Rejected m) plain n i = refl
declines_none (move.ClosedBy m) plain n i = refl
declines_none (move.Cleared k booked) plain n i = refl
declines_none (move.Greeted m) plain n i = refl
declines_none (move.TookPlain m) plain n i = refl
declines_none (move.NrRead m) plain n i = refl
declines_none (move.LetGo m) plain n i = refl
declines_none (move.Repeated m) plain n i = refl
declines_none (move.Quiet k) plain n i = refl
declines_none (move.Negotiated m) plain n i = refl
declines_none (move.Counted m) plain n i = refl
declines_none (move.FrameSent m) plain n i = refl
declines_none (move.FrameUp m) plain n i = refl
declines_none m plain n i = refl

pub after_here : (accs : Accounts) (d : Deed) (n i : ℕ) → DeclinesNone d.move → d.node ≡ n → about d.move ≡ i
    → after accs d n i ≡ entered d (accs n i)
after_here accs d n i plain node is = rw (declines_none d.move plain n i, node, is, eq-eqb n n refl, eq-eqb i i refl) refl

pub after_there : (accs : Accounts) (d : Deed) (m j : ℕ) → DeclinesNone d.move → ((m ≡ d.node) × (j ≡ about d.move) → ⊥)
    → after accs d m j ≡ accs m j
after_there accs d m j plain apart =
    ⊎_elim
    (λ (p : d.node ≡ m). rw (declines_none d.move plain m j, p, eq-eqb m m refl, ne_eqb (about d.move) j (λ q. apart (sym p, sym q))) refl)
    (λ other. rw (declines_none d.move plain m j, ne_eqb d.node m other) refl)
    (same_or_not d.node m)

-- what a tunnel is before a move that makes it, that learns its partner's id, or that closes it
abbrev pub MayEnter : Move → Account → Type 0
MayEnter (move.Opened m) a = a.part ≡ Unmade
MayEnter (move.Accepted m) a = (a.part ≡ Unmade) × (a.remote ≡ 0) × IsOpen a
MayEnter (move.Connected m) a = (a.remote ≡ 0) × IsOpen a
MayEnter (move.Closed m) a = (m.remote ≡ a.remote) × IsOpen a
MayEnter (move.Rejected m) a = (a.remote ≡ 0) × IsOpen a
MayEnter (move.ClosedBy m) a = IsOpen a
MayEnter m a = Unit {0}

gives_extends : (d : Deed) (a b : Account) → Extends a b → Extends a (gives_also d b)
gives_extends d a b g = extends_on a b (gives_also d b) g (record {
  part = inr refl;
  peer = λ made. refl;
  remote = inr refl;
  closed = inr refl;
  given = (_, refl);
  taken = ([], sym (append-nil b.taken));
  declined = λ z. z;
})

takes_extends : (d : Deed) (place : Place) (a b : Account) → Extends a b → Extends a (takes_at d place b)
takes_extends d place a b g = extends_on a b (takes_at d place b) g (record {
  part = inr refl;
  peer = λ made. refl;
  remote = inr refl;
  closed = inr refl;
  given = ([], sym (append-nil b.given));
  taken = (_, refl);
  declined = λ z. z;
})

opens_extends : (a : Account) (peer : ℕ) → a.part ≡ Unmade → Extends a (record a { part = Opener; peer = peer })
opens_extends a peer none = record {
  part = inl none;
  peer = λ made. absurd (made none);
  remote = inr refl;
  closed = inr refl;
  given = ([], sym (append-nil a.given));
  taken = ([], sym (append-nil a.taken));
  declined = λ z. z;
}

accepts_extends : (a : Account) (peer remote : ℕ) → a.part ≡ Unmade → a.remote ≡ 0 → IsOpen a
    → Extends a (record a { part = Acceptor; peer = peer; remote = remote })
accepts_extends a peer remote none unknown is_open = record {
  part = inl none;
  peer = λ made. absurd (made none);
  remote = inl (is_open, unknown);
  closed = inr refl;
  given = ([], sym (append-nil a.given));
  taken = ([], sym (append-nil a.taken));
  declined = λ z. z;
}

learns_extends : (a : Account) (remote : ℕ) → a.remote ≡ 0 → IsOpen a → Extends a (record a { remote = remote })
learns_extends a remote unknown is_open = record {
  part = inr refl;
  peer = λ made. refl;
  remote = inl (is_open, unknown);
  closed = inr refl;
  given = ([], sym (append-nil a.given));
  taken = ([], sym (append-nil a.taken));
  declined = λ z. z;
}

closes_extends : (a : Account) (remote : ℕ) (closed : Option ℕ) → remote ≡ a.remote → IsOpen a
    → Extends a (record a { remote = remote; closed = closed })
closes_extends a remote closed same is_open = record {
  part = inr refl;
  peer = λ made. refl;
  remote = inr same;
  closed = inl is_open;
  given = ([], sym (append-nil a.given));
  taken = ([], sym (append-nil a.taken));
  declined = λ z. z;
}

rejects_extends : (a : Account) (remote : ℕ) (closed : Option ℕ) → a.remote ≡ 0 → IsOpen a
    → Extends a (record a { remote = remote; closed = closed })
rejects_extends a remote closed unknown is_open = record {
  part = inr refl;
  peer = λ made. refl;
  remote = inl (is_open, unknown);
  closed = inl is_open;
  given = ([], sym (append-nil a.given));
  taken = ([], sym (append-nil a.taken));
  declined = λ z. z;
}

pub entered_extends : (d : Deed) (m : Move) (a : Account) → MayEnter m a → Extends a (entered_by d m a)
entered_extends d (move.Opened m) a h = gives_extends d a _ (opens_extends a _ h)
entered_extends d (move.Accepted m) a h = gives_extends d a _ (takes_extends d m.taken a _ (accepts_extends a _ m.remote h.0 h.1 h.2))
entered_extends d (move.Connected m) a h = gives_extends d a _ (takes_extends d m.taken a _ (learns_extends a m.remote h.0 h.1))
entered_extends d (move.Confirmed m) a h = takes_extends d m.taken a a (extends_same a)
entered_extends d (move.Added m) a h = extends_same a
entered_extends d (move.Requested m) a h = gives_extends d a a (extends_same a)
entered_extends d (move.Replied m) a h = gives_extends d a _ (takes_extends d m.taken a a (extends_same a))
entered_extends d (move.FirstUp m) a h = gives_extends d a _ (takes_extends d m.taken a a (extends_same a))
entered_extends d (move.SecondUp m) a h = takes_extends d m.taken a a (extends_same a)
entered_extends d (move.Refused m) a h = gives_extends d a _ (takes_extends d m.taken a a (extends_same a))
entered_extends d (move.EndTold m) a h = gives_extends d a a (extends_same a)
entered_extends d (move.EndHeard m) a h = takes_extends d m.taken a a (extends_same a)
entered_extends d (move.EndSilent m) a h = extends_same a
entered_extends d (move.Declined m) a h = extends_same a
entered_extends d (move.Closed m) a h = gives_extends d a _ (closes_extends a m.remote _ h.0 h.1)
entered_extends d (move.Rejected m) a h = gives_extends d a _ (takes_extends d m.taken a _ (rejects_extends a m.remote _ h.0 h.1))
entered_extends d (move.ClosedBy m) a h = takes_extends d m.taken a _ (closes_extends a a.remote _ refl h)
entered_extends d (move.Cleared i booked) a h = extends_same a
entered_extends d (move.Greeted m) a h = gives_extends d a a (extends_same a)
entered_extends d (move.TookPlain m) a h = takes_extends d m.taken a a (extends_same a)
entered_extends d (move.NrRead m) a h = extends_same a
entered_extends d (move.LetGo m) a h = extends_same a
entered_extends d (move.Repeated m) a h = extends_same a
entered_extends d (move.Quiet i) a h = extends_same a
entered_extends d (move.Negotiated m) a h = extends_same a
entered_extends d (move.Counted m) a h = extends_same a
entered_extends d (move.FrameSent m) a h = extends_same a
entered_extends d (move.FrameUp m) a h = extends_same a
entered_extends d m a h = extends_same a

-- a move of a node enters one of its tunnels alone
pub after_move : (accs : Accounts) (d : Deed) (n : ℕ) (m : Move) → DeclinesNone m → d.node ≡ n → d.move ≡ m
    → after accs d n (about m) ≡ entered_by d m (accs n (about m))
after_move accs d n m plain node is =
    after_here accs d n (about m) (subst DeclinesNone (sym is) plain) node (ap about is) ∙ ap (λ q. entered_by d q (accs n (about m))) is

pub only_after : (accs : Accounts) (d : Deed) (n : ℕ) (m : Move) → DeclinesNone m → d.node ≡ n → d.move ≡ m → MayEnter m (accs n (about m))
    → IsOnly accs (after accs d) n (about m)
only_after accs d n m plain node is may = record {
  here = subst (λ b. Extends (accs n (about m)) b) (sym (after_move accs d n m plain node is)) (entered_extends d m (accs n (about m)) may);
  others = λ k j apart. after_there accs d k j (subst DeclinesNone (sym is) plain) (λ both. apart (both.0 ∙ node, both.1 ∙ ap about is));
}

-- where nothing changes in it, no account changes
pub same_after : (accs : Accounts) (d : Deed) (n : ℕ) (m : Move) → DeclinesNone m → d.node ≡ n → d.move ≡ m
    → entered_by d m (accs n (about m)) ≡ accs n (about m) → after accs d ≡ accs
same_after accs d n m plain node is still = fun_ext (λ k. fun_ext (λ j. by k j (here_or_not k n j (about m))))
  where
    by : (k j : ℕ) → ((k ≡ n) × (j ≡ about m)) ⊎ ((k ≡ n) × (j ≡ about m) → ⊥) → after accs d k j ≡ accs k j
    by k j (inl p) = rw (p.0, p.1) (after_move accs d n m plain node is ∙ still)
    by k j (inr apart) = after_there accs d k j (subst DeclinesNone (sym is) plain) (λ both. apart (both.0 ∙ node, both.1 ∙ ap about is))

-- ---- partners

-- an opener that has learned a tunnel is joined with it
pub joined_now : (accs : Accounts) → ((m j : ℕ) → AccountOk accs m j (accs m j)) → (n i : ℕ) → StaysJoined accs n i
joined_now accs ok n i accepted named = subst (λ x. AreJoined b x) back (opener.joined known)
  where
    a : Account
    a = accs n i

    b : Account
    b = partner_in accs a

    acceptor : IsAcceptor accs n i a
    acceptor = subst (λ p. IsPart accs n i a p) accepted (ok n i).part

    opener : IsOpener accs a.peer a.remote b
    opener = subst (λ p. IsPart accs a.peer a.remote b p) acceptor.part (ok a.peer a.remote).part

    known : b.remote ≡ 0 → ⊥
    known = not_zero b.remote i named ((ok n i).some (acceptor_made a accepted))

    back : partner_in accs b ≡ a
    back = ap₂ accs acceptor.peer named
