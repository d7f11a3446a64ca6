-- A tunnel that is closed, or is closed by the letter that it takes, does nothing with it.
use Rattle.std.proofs.Common.{◌≡◌, ◌⊎◌, inl, inr, ⊎_elim, ℕ, ◌+◌, ◌<◌, ◌≤◌, List, [], ◌∷◌, ◌++◌, map, drop, length, refl, sym, ap, ap₂, ◌∙◌, subst, append-nil, Option, Some, arith}
use Rattle.std.proofs.lemmas.List.{length-append}
use Rattle.std.specs.List.{AllByRecursion}
use Rattle.std.proofs.lemmas.Option.{slice_get_within}
use Rattle.std.specs.Prelude.{slice_get}
use Rattle.id_table.specs.Ids.{at}
use Rattle.id_table.specs.Order.{same_or_not, ascends-empty}
use Rattle.l2tp_header.specs.declared.header.Header.{Header}
use Rattle.tunnel_fsm.specs.Rows.{state_number}
use Rattle.end_model.specs.declared.event.Event.{Event}
use Rattle.end_model.specs.declared.out.ControlOrigin.{ControlOrigin}
use Rattle.end_model.specs.declared.moves.Place.{Place}
use Rattle.end_model.specs.declared.moves.Move.{Move}
use Rattle.end_names.specs.declared.role.Role.{Role}
use Rattle.end_model.specs.Tunnels.{Tunnel}
use Rattle.end_model.specs.End.{End}
use Rattle.world_model.specs.World.{Sender, Deed}
use Rattle.step_laws.specs.Letters.{Letter}
use Rattle.connection_laws.specs.Accounts.{Part, Unmade, Opener, Acceptor, Taken, Account, heeded, takes_at}
use Rattle.connection_laws.specs.Facts.{IsStopCcn, Accounts, IsMade, AreTaken, IsOpen, IsClosed, IsIgnored, AreIgnored, IsLost, HasStopped, AreJoined, partner_in, IsOpener, IsAcceptor, IsPart, AccountOk, kept_letter, AreAcked, LiveOk, IsNear, Comes, Within}
use Rattle.connection_laws.proofs.Keeps.{IsDeed}
use Rattle.connection_laws.proofs.Puts.{ComesNear, Extends, IsOnly, StaysJoined, EndPut, IsPut}
use Rattle.connection_laws.proofs.Later.{live_made, AllExtend, all_extend, is_taken_on, are_acked_later}
use Rattle.connection_laws.proofs.States.{no_call, lost_unless, heeded_open, heeded_closed, shut_stands}
use Rattle.connection_laws.proofs.Put.{puts_keep}
use Rattle.connection_laws.proofs.GoingOn.{are_acked_on}
use Rattle.connection_laws.proofs.Hearing.{opener_of, acceptor_of, sender_in, Heard, HeardRefusal}
use Rattle.connection_laws.proofs.NextHeard.{IsPaired, HeardNext, TakesOf, OfPartner, OfFirst, OfLost, OfOther, OfOpener, joined_opener}
use Rattle.connection_laws.proofs.Acknowledging.{still_apart}
use Rattle.connection_laws.proofs.Taking.{got_push, taken_as}

-- ---- what is known of it then

-- the account of a tunnel that ignores a letter
abbrev pub with_ignored : Taken → Option ℕ → Account → Account
with_ignored tk closed a = record a { taken = a.taken ++ tk ∷ []; closed = closed }

pub ignores_only : (d : Deed) (n : ℕ) (role : Role) (sender : Option Sender) (m : Move) (place : Place) (closed : Option ℕ) (a : Account)
    → IsDeed d n role sender m → takes_at d place (record a { closed = closed }) ≡ with_ignored (taken_as sender place m) closed a
ignores_only d n role sender m place closed a deed = rw (deed.sender_is, deed.move_is) refl

-- it is closed now, or was before
abbrev pub Shuts : Account → Option ℕ → Type 0
Shuts a closed = (IsOpen a × (closed ≡ Some (length a.taken))) ⊎ (IsClosed a × (closed ≡ a.closed))

-- a tunnel took a letter, and is closed
pub record IgnoresOn (t u : Tunnel) : Type 0 where
  pub local : u.control.local ≡ t.control.local
  pub peer : u.control.peer ≡ t.control.peer
  pub remote : u.control.remote ≡ t.control.remote
  pub state : state_number u.control.state ≡ 4
  pub none : u.calls ≡ []
  pub letters : u.letters ≡ t.letters
  pub acked : u.control.channel.window.acked ≡ t.control.channel.window.acked
  pub queued : u.control.channel.window.queued ≡ t.control.channel.window.queued
  pub outstanding : u.control.channel.window.outstanding ≡ t.control.channel.window.outstanding
  pub taken : u.control.channel.inbox.taken ≡ t.control.channel.inbox.taken + 1
  pub recovery : u.recovery ≡ t.recovery
  pub query : u.query ≡ t.query

-- of whom the letter is: of the tunnel's partner, the next one of its list; of another tunnel or of none, where an opener has taken one
-- letter at most; or of an opener that is lost, where its acceptor has taken one at most
pub data IgnoresOf (accs : Accounts) (n i : ℕ) : Type 0 where
  FromPartner : IsPaired accs n i → length (accs n i).taken < length (partner_in accs (accs n i)).given → IgnoresOf accs n i
  FromOther : (accs n i).part ≡ Opener → length (accs n i).taken ≤ 1 → IgnoresOf accs n i
  FromLost : (accs n i).part ≡ Acceptor → IsLost (partner_in accs (accs n i)) → length (accs n i).taken ≤ 1 → IgnoresOf accs n i

-- it is the next one
pub record IsDue (accs : Accounts) (n : ℕ) (e : End) (sender : Option Sender) (ev : Event) (comes : Comes accs n e sender ev) (i : ℕ) (t : Tunnel)
    : Type 0 where
  pub o : ControlOrigin
  pub number : o.ns ≡ length (accs n i).taken
  pub near : IsNear (accs n i) t o
  pub of : IgnoresOf accs n i
  pub again : (ms : Accounts) (j : ℕ) (u : Tunnel) → IsNear (ms n j) u o → ComesNear accs n e sender ev comes ms j u

-- a letter of a list
of_copy : (accs : Accounts) (n i : ℕ) (o : ControlOrigin) (h : Header) (bytes : List ℕ) → (k : HeardNext accs n i o h bytes) → IgnoresOf accs n i
of_copy accs n i o h bytes k = by k.of
  where
    a : Account
    a = accs n i

    by : TakesOf accs n i o k.letter → IgnoresOf accs n i
    by (OfPartner pair told) =
        let same : partner_in accs a ≡ sender_in accs n i o = ap (λ (r : ℕ). accs a.peer r) told in
        FromPartner pair (slice_get_within (partner_in accs a).given (length a.taken) k.letter (rw same k.there))
    by (OfFirst here none taken part remote peer opening says id) =
        let count = ap (λ (ts : List Taken). length ts) taken in FromOther here (omega (arith, count))
    by (OfLost here lost few) = FromOther here few
    by (OfOther here known few stops) = FromOther here few
    by (OfOpener here lost few stops) = FromLost here lost few

pub copy_due : (accs : Accounts) (n : ℕ) (e : End) (sender : Option Sender) (ev : Event) (comes : Comes accs n e sender ev) (i : ℕ) (t : Tunnel) (h : Header)
    (bytes : List ℕ) (k : Heard accs n e sender ev comes i t h bytes) → HeardNext accs n i k.o h bytes → IsDue accs n e sender ev comes i t
copy_due accs n e sender ev comes i t h bytes k next =
    record { o = k.o; number = next.number; near = k.near; of = of_copy accs n i k.o h bytes next; again = k.again }

-- a StopCCN of no tunnel
pub refusal_due : (accs : Accounts) (n : ℕ) (e : End) (sender : Option Sender) (ev : Event) (comes : Comes accs n e sender ev) (i : ℕ) (t : Tunnel)
    (h : Header) (bytes : List ℕ) (k : HeardRefusal accs n e sender ev comes i t h bytes) → k.o.ns ≡ length (accs n i).taken
    → IsDue accs n e sender ev comes i t
refusal_due accs n e sender ev comes i t h bytes k number =
    let first = k.ns in
    record { o = k.o; number = number; near = k.near; of = FromOther k.opener (omega (arith, number, first)); again = k.again }

pub record Ignores (accs ms : Accounts) (n : ℕ) (e x : End) (sender : Option Sender) (ev : Event) (i : ℕ) (t u : Tunnel) (tk : Taken) (closed : Option ℕ)
    : Type 0 where
  pub within : Within accs n e sender ev
  pub there : at e.tunnels i ≡ Some t
  pub due : IsDue accs n e sender ev within.comes i t
  pub ignored : IsIgnored tk.move
  pub goes : IgnoresOn t u
  pub shuts : Shuts (accs n i) closed
  pub only : IsOnly accs ms n i
  pub is : ms n i ≡ with_ignored tk closed (accs n i)
  pub put_is : EndPut e x i u

none_behind : (given : List Letter) → length given ≡ 1 → AllByRecursion (λ (l : Letter). IsStopCcn l.message) (drop 1 given)
none_behind [] one = tt
none_behind (x ∷ []) one = tt
none_behind (x ∷ y ∷ ys) one = absurd (omega arith)

module _ (accs ms : Accounts) (n : ℕ) (e x : End) (sender : Option Sender) (ev : Event) (i : ℕ) (t u : Tunnel) (tk : Taken) (closed : Option ℕ)
    (k : Ignores accs ms n e x sender ev i t u tk closed) where
  abbrev a : Account
  a = accs n i

  abbrev b : Account
  b = with_ignored tk closed a

  -- the partner as it was, and as it is
  abbrev p : Account
  p = partner_in accs a

  abbrev q : Account
  q = partner_in ms b

  ok : AccountOk accs n i a
  ok = k.within.accounts n i

  live : LiveOk accs n i a t
  live = k.within.end.live i t k.there

  made : IsMade a
  made = live_made accs n i a t live

  some : 0 < i
  some = ok.some made

  grown : AllExtend accs ms
  grown = all_extend accs ms n i k.only

  -- a partner that is made another way is another tunnel, and stays
  stays_by : (p.part ≡ a.part → ⊥) → q ≡ p
  stays_by other = k.only.others a.peer a.remote (λ both. other (ap₂ (λ m j. (accs m j).part) both.0 both.1))

  opener_stays : a.part ≡ Opener → (a.remote ≡ 0 → ⊥) → q ≡ p
  opener_stays own known = stays_by (λ same. let y = (opener_of accs n i a ok own).part known in let no : ⊥ = cc in no)

  acceptor_stays : a.part ≡ Acceptor → q ≡ p
  acceptor_stays own = stays_by (λ same. let y = (acceptor_of accs n i a ok own).part in let no : ⊥ = cc in no)

  more_taken : length b.taken ≡ length a.taken + 1
  more_taken = rw length-append (omega arith)

  -- ---- it is closed

  closed_now : IsClosed b
  closed_now = ⊎_elim
      (λ (o : IsOpen a × (closed ≡ Some (length a.taken))). (length a.taken, o.1, omega (arith, more_taken)))
      (λ (o : IsClosed a × (closed ≡ a.closed)). let le = o.0.2 in (o.0.0, o.1 ∙ o.0.1, omega (arith, more_taken, le)))
      k.shuts

  heeded_same : heeded b ≡ heeded a
  heeded_same = ⊎_elim
      (λ (o : IsOpen a × (closed ≡ Some (length a.taken))). heeded_closed b (length a.taken) o.1 ∙ sym (heeded_open a o.0))
      (λ (o : IsClosed a × (closed ≡ a.closed)). heeded_closed b o.0.0 (o.1 ∙ o.0.1) ∙ sym (heeded_closed a o.0.0 o.0.1))
      k.shuts

  heeded_few : heeded a ≤ length a.taken
  heeded_few = ⊎_elim
      (λ (o : IsOpen a × (closed ≡ Some (length a.taken))). let is = heeded_open a o.0 in omega (arith, is))
      (λ (o : IsClosed a × (closed ≡ a.closed)). let is = heeded_closed a o.0.0 o.0.1 in let le = o.0.2 in omega (arith, is, le))
      k.shuts

  -- what was lost is, and it is lost where it has taken nothing and learned none
  lost_still : IsLost a → IsLost b
  lost_still lost = ⊎_elim
      (λ (o : IsOpen a × (closed ≡ Some (length a.taken))). absurd (lost_unless a o.0 lost))
      (λ (o : IsClosed a × (closed ≡ a.closed)). (o.1 ∙ lost.0, lost.1))
      k.shuts

  lost_now : a.remote ≡ 0 → a.taken ≡ [] → IsLost b
  lost_now unknown none = ⊎_elim
      (λ (o : IsOpen a × (closed ≡ Some (length a.taken))). (o.1 ∙ ap (λ (ts : List Taken). Some (length ts)) none, unknown))
      (λ (o : IsClosed a × (closed ≡ a.closed)).
      let le = o.0.2 in
      let zeroth : o.0.0 ≡ 0 = (let count = ap (λ (ts : List Taken). length ts) none in omega (arith, count, le)) in
      (o.1 ∙ o.0.1 ∙ ap (λ (c : ℕ). Some c) zeroth, unknown))
      k.shuts

  -- ---- how much was taken

  -- by an opener that has learned none
  few_lost : a.part ≡ Opener → a.remote ≡ 0 → length b.taken ≤ 2
  few_lost own unknown = by k.due.of
    where
      by : IgnoresOf accs n i → length b.taken ≤ 2
      by (FromPartner pair lt) = absurd (⊎_elim
          (λ (o : (a.part ≡ Opener) × (a.remote ≡ 0 → ⊥)). o.1 unknown)
          (λ (o : (a.part ≡ Acceptor) × (p.remote ≡ i)). let y = o.0 in let no : ⊥ = cc in no)
          pair)
      by (FromOther here few) = omega (arith, more_taken, few)
      by (FromLost here lost few) = omega (arith, more_taken, few)

  -- by one that has
  few_known : (length b.taken ≤ length p.given) ⊎ (IsClosed b × (length b.taken ≤ 2))
  few_known = by k.due.of
    where
      by : IgnoresOf accs n i → (length b.taken ≤ length p.given) ⊎ (IsClosed b × (length b.taken ≤ 2))
      by (FromPartner pair lt) = inl (omega (arith, more_taken, lt))
      by (FromOther here few) = inr (closed_now, omega (arith, more_taken, few))
      by (FromLost here lost few) = inr (closed_now, omega (arith, more_taken, few))

  -- by an acceptor
  few_unchosen : a.part ≡ Acceptor → (p.remote ≡ i → ⊥) → (length b.taken ≡ 1) ⊎ (IsLost p × (length b.taken ≤ 2))
  few_unchosen own apart = by k.due.of
    where
      by : IgnoresOf accs n i → (length b.taken ≡ 1) ⊎ (IsLost p × (length b.taken ≤ 2))
      by (FromPartner pair lt) = absurd (⊎_elim
          (λ (o : (a.part ≡ Opener) × (a.remote ≡ 0 → ⊥)). let y = o.0 in let no : ⊥ = cc in no)
          (λ (o : (a.part ≡ Acceptor) × (p.remote ≡ i)). apart o.1)
          pair)
      by (FromOther here few) = let no : ⊥ = cc in absurd no
      by (FromLost here lost few) = inr (lost, omega (arith, more_taken, few))

  few_chosen : a.part ≡ Acceptor → p.remote ≡ i → length b.taken ≤ length p.given
  few_chosen own chosen = by k.due.of
    where
      by : IgnoresOf accs n i → length b.taken ≤ length p.given
      by (FromPartner pair lt) = omega (arith, more_taken, lt)
      by (FromOther here few) = let no : ⊥ = cc in absurd no
      by (FromLost here lost few) = let z = lost.1 in absurd (omega (arith, chosen, z, some))

  -- ---- its account

  -- closed before it heeded a letter, it gave no more than a StopCCN behind its SCCRQ
  little : a.part ≡ Opener → b.closed ≡ Some 0 → (length b.given ≤ 2) × AllByRecursion (λ (l : Letter). IsStopCcn l.message) (drop 1 b.given)
  little own z =
      let before = opener_of accs n i a ok own in
      ⊎_elim
      (λ (o : IsOpen a × (closed ≡ Some (length a.taken))).
      let shut = o.1 in
      let none : length a.taken ≡ 0 = cc in
      let unknown : a.remote ≡ 0 = ⊎_elim (λ (q : a.remote ≡ 0). q)
      (λ (q : a.remote ≡ 0 → ⊥). let one = before.some q in absurd (omega (arith, one, none))) (same_or_not a.remote 0) in
      ⊎_elim
      (λ (one : length a.given ≡ 1). (omega (arith, one), none_behind a.given one))
      (λ (q : IsLost a × (length a.given ≤ 2)). absurd (lost_unless a o.0 q.0))
      (before.one_given unknown))
      (λ (o : IsClosed a × (closed ≡ a.closed)). before.early (sym o.1 ∙ z))
      k.shuts

  opener_joined : AreJoined a p → AreJoined b p
  opener_joined before = record {
    here = few_known;
    there = before.there;
    few_here = before.few_here;
    few_there = (let le = before.few_there in omega (arith, more_taken));
  }

  opener : a.part ≡ Opener → IsOpener ms n i b
  opener own =
      let before = opener_of accs n i a ok own in
      record {
        begins = before.begins;
        none = λ z. inr (
          ⊎_elim (λ (none : a.taken ≡ []). lost_now z none) (λ (o : IsLost a × (length a.taken ≤ 2)). lost_still o.0) (before.none z),
          few_lost own z,
        );
        one_given = λ z. ⊎_elim (λ (one : length a.given ≡ 1). inl one)
            (λ (o : IsLost a × (length a.given ≤ 2)). inr (lost_still o.0, o.1)) (before.one_given z);
        some = λ z. omega (arith, more_taken);
        part = λ z. ap (λ (y : Account). y.part) (opener_stays own z) ∙ before.part z;
        peer = λ z. ap (λ (y : Account). y.peer) (opener_stays own z) ∙ before.peer z;
        remote = λ z. ap (λ (y : Account). y.remote) (opener_stays own z) ∙ before.remote z;
        joined = λ z. rw (opener_stays own z) (opener_joined (before.joined z));
        early = λ z. little own z;
      }

  acceptor : a.part ≡ Acceptor → IsAcceptor ms n i b
  acceptor own =
      let before = acceptor_of accs n i a ok own in
      let same = acceptor_stays own in
      record {
        begins = before.begins;
        known = before.known;
        some = omega (arith, more_taken);
        part = ap (λ (y : Account). y.part) same ∙ before.part;
        peer = ap (λ (y : Account). y.peer) same ∙ before.peer;
        one_taken = rw same (few_unchosen own);
        one_given = rw same (λ apart. ⊎_elim (λ (one : length a.given ≡ 1). inl one)
            (λ (s : HasStopped a). inr (record { closed = closed_now; few = s.few; stops = s.stops })) (before.one_given apart));
      }

  part : (r : Part) → a.part ≡ r → IsPart ms n i b r
  part Unmade own = absurd (made own)
  part Opener own = opener own
  part Acceptor own = acceptor own

  extends : Extends a b
  extends = record {
    part = inr refl;
    peer = λ z. refl;
    remote = inr refl;
    closed = ⊎_elim
        (λ (o : IsOpen a × (closed ≡ Some (length a.taken))). inl o.0)
        (λ (o : IsClosed a × (closed ≡ a.closed)). inr o.1)
        k.shuts;
    given = ([], sym (append-nil a.given));
    taken = (tk ∷ [], refl);
    declined = λ z. z;
  }

  -- what it heeded it took before
  taken : AreTaken ms b
  taken number y found lt =
      let same = heeded_same in
      ⊎_elim
      (λ (o : slice_get a.taken number ≡ Some y). is_taken_on accs ms grown a b extends made number y (ok.taken number y o (omega (arith, lt, same))))
      (λ (o : (number ≡ length a.taken) × (tk ≡ y)). let few = heeded_few in let is = o.0 in absurd (omega (arith, lt, same, few, is)))
      (got_push a.taken tk number y found)

  ignored : AreIgnored b
  ignored number y found le =
      let same = heeded_same in
      ⊎_elim
      (λ (o : slice_get a.taken number ≡ Some y). ok.ignored number y o (omega (arith, le, same)))
      (λ (o : (number ≡ length a.taken) × (tk ≡ y)). subst (λ (z : Taken). IsIgnored z.move) o.1 k.ignored)
      (got_push a.taken tk number y found)

  account : AccountOk ms n i b
  account = record {
    part = part a.part refl;
    some = ok.some;
    id = ok.id;
    node = ok.node;
    peer = ok.peer;
    remote = ok.remote;
    spelled = ok.spelled;
    told = ok.told;
    taken = taken;
    ignored = ignored;
  }

  -- ---- the tunnel

  acked : AreAcked ms n i b u.control.channel.window.acked a.part
  acked = rw k.goes.acked
      (are_acked_on ms n i a b t.control.channel.window.acked refl refl (λ z. z) a.part
      (are_acked_later accs ms grown n i some a t.control.channel.window.acked a.part live.acked))

  still_live : LiveOk ms n i b u
  still_live =
      let counted = live.counted in
      let acks = k.goes.acked in
      let queued = k.goes.queued in
      let outstanding = k.goes.outstanding in
      let few = live.few in
      let out = live.outstanding in
      let before = live.taken in
      let after = k.goes.taken in
      record {
        local = k.goes.local ∙ live.local;
        peer = k.goes.peer ∙ live.peer;
        remote = k.goes.remote ∙ live.remote;
        state = shut_stands ms i b u a.part made (k.goes.state, closed_now, k.goes.none);
        letters = k.goes.letters ∙ live.letters ∙ ap (λ (j : ℕ). map kept_letter (drop j a.given)) (sym k.goes.acked);
        counted = omega arith;
        few = omega arith;
        outstanding = omega arith;
        taken = omega (arith, more_taken);
        acked = acked;
        calls = λ s c f. absurd (no_call u.calls s c f k.goes.none);
        order = ascends-empty u.calls k.goes.none;
        recovery = k.goes.recovery ∙ live.recovery;
        query = k.goes.query ∙ live.query;
      }

  near : IsNear b u k.due.o
  near =
      let number = k.due.number in
      let acks = k.goes.acked in
      let le = k.due.near.acked in
      record { taken = omega (arith, more_taken); acked = omega arith }

  -- ---- and all goes on

  acceptor_joined : AreJoined p a → a.part ≡ Acceptor → p.remote ≡ i → AreJoined p b
  acceptor_joined before own chosen = record {
    here = before.here;
    there = few_chosen own chosen;
    few_here = (let le = before.few_here in omega (arith, more_taken));
    few_there = before.few_there;
  }

  stays_joined : StaysJoined ms n i
  stays_joined accepted names =
      let own : a.part ≡ Acceptor = sym (ap (λ (y : Account). y.part) k.is) ∙ accepted in
      let same = acceptor_stays own in
      let named : q.remote ≡ i = subst (λ (y : Account). (partner_in ms y).remote ≡ i) k.is names in
      let before : p.remote ≡ i = sym (ap (λ (y : Account). y.remote) same) ∙ named in
      subst (λ (y : Account). AreJoined (partner_in ms y) y) (sym k.is)
      (rw same (acceptor_joined (joined_opener accs n i k.within.accounts own before) own before))

  put_of_it : IsPut accs ms n e x sender ev i u
  put_of_it =
      let drawn = k.within.end.drawn i made in
      let le = k.put_is.next in
      record {
        within = k.within;
        only = k.only;
        end = k.put_is;
        drawn = omega arith;
        account = rw k.is account;
        live = rw k.is still_live;
        joined = stays_joined;
        apart = still_apart accs n e sender ev k.within i t u k.there k.goes.peer k.goes.remote;
        near = k.due.again ms i u (rw k.is near);
      }

  pub ignores : Within ms n x sender ev
  ignores = puts_keep accs ms n e x sender ev i u put_of_it
