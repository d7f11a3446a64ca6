-- A tunnel takes the next letter of its partner, may be given letters, and goes on.
use Rattle.std.proofs.Common.{None, ◌≡◌, ◌⊎◌, inl, inr, ⊎_elim, ℕ, zero, suc, ◌+◌, ◌<◌, ◌≤◌, List, [], ◌∷◌, ◌++◌, map, drop, length, refl, sym, ap, ap₂, ◌∙◌, subst, append-nil, Option, Some, arith, ne_eqb, false}
use Rattle.std.proofs.lemmas.List.{length-append, map-append, drop-append-le}
use Rattle.std.proofs.lemmas.Option.{slice_get_within}
use Rattle.std.specs.Prelude.{slice_get}
use Rattle.std.specs.List.{AllByRecursion}
use Rattle.id_table.specs.Ids.{at}
use Rattle.id_table.specs.Order.{Ascends}
use Rattle.wire_base.specs.declared.letter.Letter as wire
use Rattle.l2tp_header.specs.declared.header.Header.{Header}
use Rattle.control_message.specs.declared.message.Message.{Message}
use Rattle.control_message.specs.declared.message.Message.TheVariants.{Sccrp}
use Rattle.control_message.specs.declared.message.Opening.{Opening}
use Rattle.tunnel_fsm.specs.Rows.{state_number}
use Rattle.end_model.specs.declared.event.Event.{Event}
use Rattle.end_model.specs.declared.moves.Place.{Place}
use Rattle.end_model.specs.declared.moves.Move.{Move}
use Rattle.end_model.specs.declared.out.ControlOrigin.{ControlOrigin}
use Rattle.end_model.specs.declared.tunnel.Call.{Call}
use Rattle.end_names.specs.declared.role.Role.{Role}
use Rattle.end_model.specs.Tunnels.{Tunnel}
use Rattle.end_model.specs.End.{End}
use Rattle.world_model.specs.World.{Sender, Deed, config_of}
use Rattle.step_laws.specs.Letters.{Letter, letters_of}
use Rattle.connection_laws.specs.Accounts.{Part, Unmade, Opener, Acceptor, Taken, Account, takes_at, gives_also}
use Rattle.connection_laws.specs.Facts.{Accounts, IsMade, IsNoOpening, IsStopCcn, IsSpelled, TellsOwn, BeginsWith, Tells, IsTaken, AreTaken, AreIgnored, IsOpen, AllWait, AreJoined, partner_in, IsOpener, IsAcceptor, IsPart, AccountOk, kept_letter, IsInState, AreAcked, LiveOk, IsNear, Within}
use Rattle.connection_laws.proofs.Keeps.{IsDeed}
use Rattle.connection_laws.proofs.Puts.{Extends, IsOnly, StaysJoined, EndPut, IsPut}
use Rattle.connection_laws.proofs.Later.{live_made, AllExtend, all_extend, is_taken_on}
use Rattle.connection_laws.proofs.Put.{puts_keep}
use Rattle.connection_laws.proofs.States.{lost_unless, heeded_open, opener_in, acceptor_in, is_open_so}
use Rattle.connection_laws.proofs.Hearing.{opener_of, acceptor_of, sender_in, Heard}
use Rattle.connection_laws.proofs.NextHeard.{HeardNext, TakesOf, OfPartner, OfFirst, OfLost, OfOther, OfOpener, IsPaired, joined_opener}
use Rattle.connection_laws.proofs.Acknowledging.{still_apart}

-- ---- lists

pub all_append : {X : Type 0} (P : X → Type 0) (xs ys : List X) → AllByRecursion P xs → AllByRecursion P ys → AllByRecursion P (xs ++ ys)
all_append P [] ys h k = k
all_append P (x ∷ xs) ys h k = (h.0, all_append P xs ys h.1 k)

-- what is found in a list with one more
pub got_push : {X : Type 0} (xs : List X) (x : X) (k : ℕ) (y : X) → slice_get (xs ++ x ∷ []) k ≡ Some y
    → (slice_get xs k ≡ Some y) ⊎ ((k ≡ length xs) × (x ≡ y))
got_push [] x zero y h = inr (refl, cc)
got_push [] x (suc k) y h = absurd cc
got_push (z ∷ xs) x zero y h = inl h
got_push (z ∷ xs) x (suc k) y h = ⊎_elim (λ a. inl a) (λ (a : (k ≡ length xs) × (x ≡ y)). inr (ap (λ j. suc j) a.0, a.1)) (got_push xs x k y h)

pub begins_on : (i : ℕ) (says : Opening → Message) (given more : List Letter) → AllByRecursion (λ (l : Letter). IsNoOpening l.message) more
    → BeginsWith i says given → BeginsWith i says (given ++ more)
begins_on i says given more plain h = record {
  first = h.first;
  rest = h.rest ++ more;
  are = ap (λ (ls : List Letter). ls ++ more) h.are;
  opening = h.opening;
  says_so = h.says_so;
  id = h.id;
  later = all_append (λ (l : Letter). IsNoOpening l.message) h.rest more h.later plain;
}

-- ---- the account of a tunnel that took a letter

abbrev pub with_taken : Taken → List Letter → Account → Account
with_taken tk more a = record a { given = a.given ++ more; taken = a.taken ++ tk ∷ [] }

-- what is kept of the letter
abbrev pub taken_as : Option Sender → Place → Move → Taken
taken_as sender place m = record { sender = sender; number = place.number; move = m }

pub takes_only : (d : Deed) (n : ℕ) (role : Role) (sender : Option Sender) (m : Move) (place : Place) (a : Account) → IsDeed d n role sender m
    → takes_at d place a ≡ with_taken (taken_as sender place m) [] a
takes_only d n role sender m place a deed = rw (deed.sender_is, deed.move_is, append-nil) refl

pub takes_and_gives : (d : Deed) (n : ℕ) (role : Role) (sender : Option Sender) (m : Move) (place : Place) (a : Account) → IsDeed d n role sender m
    → gives_also d (takes_at d place a) ≡ with_taken (taken_as sender place m) (letters_of role (config_of n 0 None false) m) a
takes_and_gives d n role sender m place a deed = rw (deed.sender_is, deed.move_is, deed.role_is, deed.node_is) refl

-- ---- what goes on

-- a tunnel took a letter, is given these letters, and goes on so
pub record TakesOn (t u : Tunnel) (more : List Letter) : Type 0 where
  pub local : u.control.local ≡ t.control.local
  pub peer : u.control.peer ≡ t.control.peer
  pub remote : u.control.remote ≡ t.control.remote
  -- it is open, or goes on to wait
  pub state : (state_number u.control.state ≡ 3) ⊎ ((u.control.state ≡ t.control.state) × (u.calls ≡ t.calls))
  pub letters : u.letters ≡ t.letters ++ map kept_letter more
  pub acked : u.control.channel.window.acked ≡ t.control.channel.window.acked
  pub queued : u.control.channel.window.queued ≡ t.control.channel.window.queued + length more
  pub few : u.control.channel.window.queued ≤ 8192
  pub outstanding : u.control.channel.window.outstanding ≤ u.control.channel.window.queued
  pub taken : u.control.channel.inbox.taken ≡ t.control.channel.inbox.taken + 1
  pub calls : (s : ℕ) (c : Call) → at u.calls s ≡ Some c → c.remote < 65536
  pub order : Ascends u.calls
  pub recovery : u.recovery ≡ t.recovery
  pub query : u.query ≡ t.query

-- an opener that has learned no partner waits for an SCCRP, and takes nothing else; and an open tunnel takes no StopCCN
pub paired_if : (accs : Accounts) (n i : ℕ) (o : ControlOrigin) (t : Tunnel) (l : Letter) → LiveOk accs n i (accs n i) t
    → (state_number t.control.state ≡ 4 → ⊥) → (state_number t.control.state ≡ 1 → (opening : Opening) → l.message ≡ Sccrp opening → ⊥)
    → (IsStopCcn l.message → ⊥) → TakesOf accs n i o l → IsPaired accs n i × ((accs n i).remote ≡ o.tunnel)
paired_if accs n i o t l live unclosed other plain (OfPartner pair told) = (pair, told)
paired_if accs n i o t l live unclosed other plain (OfFirst here none taken part remote peer opening says id) =
    let state : IsInState accs i (accs n i) t Opener = subst (IsInState accs i (accs n i) t) here live.state in
    absurd (⊎_elim
    (λ (s : (state_number t.control.state ≡ 1) × ((accs n i).remote ≡ 0) × IsOpen (accs n i) × AllWait t.calls). other s.0 opening says)
    (λ (s : (state_number t.control.state ≡ 3) × ((accs n i).remote ≡ 0 → ⊥) × IsOpen (accs n i)). s.1 none)
    (opener_in accs i (accs n i) t state unclosed))
paired_if accs n i o t l live unclosed other plain (OfLost here lost few) =
    absurd (lost_unless (accs n i) (is_open_so accs i (accs n i) t (accs n i).part live.state unclosed) lost)
paired_if accs n i o t l live unclosed other plain (OfOther here known few stops) = absurd (plain stops)
paired_if accs n i o t l live unclosed other plain (OfOpener here lost few stops) = absurd (plain stops)

pub record PairTakes (accs ms : Accounts) (n : ℕ) (e x : End) (sender : Option Sender) (ev : Event) (i : ℕ) (t u : Tunnel) (tk : Taken) (more : List Letter)
    (h : Header) (bytes : List ℕ) : Type 0 where
  pub within : Within accs n e sender ev
  pub there : at e.tunnels i ≡ Some t
  pub unclosed : state_number t.control.state ≡ 4 → ⊥
  pub heard : Heard accs n e sender ev within.comes i t h bytes
  pub next : HeardNext accs n i heard.o h bytes
  pub pair : IsPaired accs n i
  pub told : (accs n i).remote ≡ heard.o.tunnel
  pub number : tk.number ≡ t.control.channel.inbox.taken
  pub sender_is : tk.sender ≡ sender
  pub tells : Tells next.letter tk.move
  pub goes : TakesOn t u more
  pub only : IsOnly accs ms n i
  pub is : ms n i ≡ with_taken tk more (accs n i)
  pub spelled : AllByRecursion IsSpelled more
  pub plain : AllByRecursion (λ (l : Letter). IsNoOpening l.message) more
  pub own : AllByRecursion (λ (l : Letter). TellsOwn i l.message) more
  pub put_is : EndPut e x i u

module _ (accs ms : Accounts) (n : ℕ) (e x : End) (sender : Option Sender) (ev : Event) (i : ℕ) (t u : Tunnel) (tk : Taken) (more : List Letter)
    (h : Header) (bytes : List ℕ) (k : PairTakes accs ms n e x sender ev i t u tk more h bytes) where
  abbrev a : Account
  a = accs n i

  abbrev b : Account
  b = with_taken tk more a

  -- the partner as it was, and as it is
  abbrev p : Account
  p = partner_in accs a

  abbrev q : Account
  q = partner_in ms b

  ok : AccountOk accs n i a
  ok = k.within.accounts n i

  live : LiveOk accs n i a t
  live = k.within.end.live i t k.there

  made : IsMade a
  made = live_made accs n i a t live

  grown : AllExtend accs ms
  grown = all_extend accs ms n i k.only

  known : a.remote ≡ 0 → ⊥
  known = ⊎_elim
      (λ (o : (a.part ≡ Opener) × (a.remote ≡ 0 → ⊥)). o.1)
      (λ (o : (a.part ≡ Acceptor) × (p.remote ≡ i)). (acceptor_of accs n i a ok o.0).known)
      k.pair

  -- the partner is made another way, and so is another tunnel
  other_part : p.part ≡ a.part → ⊥
  other_part same = ⊎_elim
      (λ (o : (a.part ≡ Opener) × (a.remote ≡ 0 → ⊥)). let y = (opener_of accs n i a ok o.0).part o.1 in let z = o.0 in let no : ⊥ = cc in no)
      (λ (o : (a.part ≡ Acceptor) × (p.remote ≡ i)). let y = (acceptor_of accs n i a ok o.0).part in let z = o.0 in let no : ⊥ = cc in no)
      k.pair

  stays : q ≡ p
  stays = k.only.others a.peer a.remote (λ both. other_part (ap₂ (λ m j. (accs m j).part) both.0 both.1))

  sender_stays : p ≡ sender_in accs n i k.heard.o
  sender_stays = ap (λ (r : ℕ). accs a.peer r) k.told

  is_open : IsOpen a
  is_open = is_open_so accs i a t a.part live.state k.unclosed

  -- ---- what the two know of each other

  acked_before : t.control.channel.window.acked ≤ length p.taken
  acked_before = ⊎_elim
      (λ (o : (a.part ≡ Opener) × (a.remote ≡ 0 → ⊥)).
      let acks : AreAcked accs n i a t.control.channel.window.acked Opener = subst (AreAcked accs n i a t.control.channel.window.acked) o.0 live.acked in
      acks.1 o.1)
      (λ (o : (a.part ≡ Acceptor) × (p.remote ≡ i)).
      let acks : AreAcked accs n i a t.control.channel.window.acked Acceptor = subst (AreAcked accs n i a t.control.channel.window.acked) o.0 live.acked in
      acks.1 o.1)
      k.pair

  more_taken : length b.taken ≡ length a.taken + 1
  more_taken = rw length-append (omega arith)

  more_given : length b.given ≡ length a.given + length more
  more_given = length-append a.given more

  taken_there : length a.taken < length p.given
  taken_there = slice_get_within p.given (length a.taken) k.next.letter (rw sender_stays k.next.there)

  -- what isn't acknowledged is little
  few_given : length b.given ≤ length p.taken + 8192
  few_given =
      let counted = live.counted in
      let acked = acked_before in
      let queued = k.goes.queued in
      let few = k.goes.few in
      omega (arith, more_given)

  opener_joined : AreJoined a p → AreJoined b q
  opener_joined before = rw stays (record {
    here = inl (omega (arith, more_taken, taken_there));
    there = (let le = before.there in omega (arith, more_given));
    few_here = few_given;
    few_there = (let le = before.few_there in omega (arith, more_taken));
  })

  acceptor_joined : AreJoined p a → AreJoined q b
  acceptor_joined before = rw stays (record {
    here = ⊎_elim (λ (le : length p.taken ≤ length a.given). inl (omega (arith, more_given))) (λ two. inr two) before.here;
    there = omega (arith, more_taken, taken_there);
    few_here = (let le = before.few_here in omega (arith, more_taken));
    few_there = few_given;
  })

  -- ---- its account

  opener : a.part ≡ Opener → IsOpener ms n i b
  opener own =
      let before = opener_of accs n i a ok own in
      record {
        begins = begins_on i _ a.given more k.plain before.begins;
        none = λ z. absurd (known z);
        one_given = λ z. absurd (known z);
        some = λ z. omega (arith, more_taken);
        part = λ z. ap (λ (y : Account). y.part) stays ∙ before.part known;
        peer = λ z. ap (λ (y : Account). y.peer) stays ∙ before.peer known;
        remote = λ z. ap (λ (y : Account). y.remote) stays ∙ before.remote known;
        joined = λ z. opener_joined (before.joined known);
        early = λ z. (let o = is_open in let no : ⊥ = cc in absurd no);
      }

  -- an acceptor that takes more is the one that its opener has learned
  chosen : a.part ≡ Acceptor → q.remote ≡ i
  chosen own = ⊎_elim
      (λ (o : (a.part ≡ Opener) × (a.remote ≡ 0 → ⊥)). let z = o.0 in let no : ⊥ = cc in absurd no)
      (λ (o : (a.part ≡ Acceptor) × (p.remote ≡ i)). ap (λ (y : Account). y.remote) stays ∙ o.1)
      k.pair

  acceptor : a.part ≡ Acceptor → IsAcceptor ms n i b
  acceptor own =
      let before = acceptor_of accs n i a ok own in
      record {
        begins = begins_on i _ a.given more k.plain before.begins;
        known = before.known;
        some = omega (arith, more_taken);
        part = ap (λ (y : Account). y.part) stays ∙ before.part;
        peer = ap (λ (y : Account). y.peer) stays ∙ before.peer;
        one_taken = λ no. absurd (no (chosen own));
        one_given = λ no. absurd (no (chosen own));
      }

  part : (r : Part) → a.part ≡ r → IsPart ms n i b r
  part Unmade own = absurd (made own)
  part Opener own = opener own
  part Acceptor own = acceptor own

  extends : Extends a b
  extends = record {
    part = inr refl;
    peer = λ z. refl;
    remote = inr refl;
    closed = inr refl;
    given = (more, refl);
    taken = (tk ∷ [], refl);
    declined = λ z. z;
  }

  -- the letter that was taken
  newly_taken : IsTaken ms b (length a.taken) tk
  newly_taken = record {
    numbered = k.number ∙ live.taken;
    partner = record { node = a.peer; tunnel = a.remote };
    learned = rw (ne_eqb a.remote 0 known) refl;
    sender = k.sender_is ∙ k.heard.sender_is ∙ ap (λ (r : ℕ). Some (record { node = a.peer; tunnel = r })) (sym k.told);
    letter = k.next.letter;
    there = rw (stays, sender_stays) k.next.there;
    tells = k.tells;
  }

  taken : AreTaken ms b
  taken number y found lt = ⊎_elim
      (λ (o : slice_get a.taken number ≡ Some y).
      let within_taken = slice_get_within a.taken number y o in
      let all = heeded_open a is_open in
      is_taken_on accs ms grown a b extends made number y (ok.taken number y o (omega (arith, within_taken, all))))
      (λ (o : (number ≡ length a.taken) × (tk ≡ y)). rw (o.0, ← o.1) newly_taken)
      (got_push a.taken tk number y found)

  -- it ignores nothing
  ignored : AreIgnored b
  ignored number y found le =
      let lt = slice_get_within b.taken number y found in
      let all = heeded_open b is_open in
      absurd (omega (arith, lt, all, le))

  account : AccountOk ms n i b
  account = record {
    part = part a.part refl;
    some = ok.some;
    id = ok.id;
    node = ok.node;
    peer = ok.peer;
    remote = ok.remote;
    spelled = all_append IsSpelled a.given more ok.spelled k.spelled;
    told = all_append (λ (l : Letter). TellsOwn i l.message) a.given more ok.told k.own;
    taken = taken;
    ignored = ignored;
  }

  -- ---- the tunnel

  state : (r : Part) → a.part ≡ r → IsInState accs i a t r → IsInState ms i b u r
  state Unmade own s = s
  state Opener own s = inr (inl (three, known, is_open))
    where
      three : state_number u.control.state ≡ 3
      three = ⊎_elim
          (λ (o : (state_number t.control.state ≡ 1) × (a.remote ≡ 0) × IsOpen a × AllWait t.calls). absurd (known o.1))
          (λ (o : (state_number t.control.state ≡ 3) × (a.remote ≡ 0 → ⊥) × IsOpen a).
          ⊎_elim
          (λ (z : state_number u.control.state ≡ 3). z)
          (λ (z : (u.control.state ≡ t.control.state) × (u.calls ≡ t.calls)). ap state_number z.0 ∙ o.0)
          k.goes.state)
          (opener_in accs i a t s k.unclosed)
  state Acceptor own s = ⊎_elim
      (λ (z : state_number u.control.state ≡ 3). inr (inl (z, chosen own, is_open)))
      (λ (z : (u.control.state ≡ t.control.state) × (u.calls ≡ t.calls)).
      ⊎_elim
      (λ (o : (state_number t.control.state ≡ 2) × (t.calls ≡ []) × IsOpen a). inl (ap state_number z.0 ∙ o.0, z.1 ∙ o.1, is_open))
      (λ (o : (state_number t.control.state ≡ 3) × (p.remote ≡ i) × IsOpen a). inr (inl (ap state_number z.0 ∙ o.0, chosen own, is_open)))
      (acceptor_in accs i a t s k.unclosed))
      k.goes.state

  acked : (r : Part) → a.part ≡ r → AreAcked ms n i b u.control.channel.window.acked r
  acked Unmade own = absurd (made own)
  acked Opener own =
      let same = k.goes.acked in
      let le = acked_before in
      ((λ z. absurd (known z)), (λ z. rw stays (omega arith)))
  acked Acceptor own =
      let same = k.goes.acked in
      let le = acked_before in
      ((λ no. absurd (no (chosen own))), (λ z. rw stays (omega arith)))

  letters : u.letters ≡ map kept_letter (drop u.control.channel.window.acked b.given)
  letters =
      let counted = live.counted in
      let le : t.control.channel.window.acked ≤ length a.given = omega arith in
      k.goes.letters ∙ ap (λ (ls : List wire.Letter). ls ++ map kept_letter more) live.letters
      ∙ sym (map-append kept_letter (drop t.control.channel.window.acked a.given) more)
      ∙ ap (λ (ls : List Letter). map kept_letter ls) (sym (drop-append-le t.control.channel.window.acked a.given more le))
      ∙ ap (λ (j : ℕ). map kept_letter (drop j b.given)) (sym k.goes.acked)

  still_live : LiveOk ms n i b u
  still_live =
      let counted = live.counted in
      let acks = k.goes.acked in
      let queued = k.goes.queued in
      let before = live.taken in
      let after = k.goes.taken in
      record {
        local = k.goes.local ∙ live.local;
        peer = k.goes.peer ∙ live.peer;
        remote = k.goes.remote ∙ live.remote;
        state = state a.part refl live.state;
        letters = letters;
        counted = omega (arith, more_given);
        few = k.goes.few;
        outstanding = k.goes.outstanding;
        taken = omega (arith, more_taken);
        acked = acked a.part refl;
        calls = k.goes.calls;
        order = k.goes.order;
        recovery = k.goes.recovery ∙ live.recovery;
        query = k.goes.query ∙ live.query;
      }

  near : IsNear b u k.heard.o
  near =
      let number = k.next.number in
      let acks = k.goes.acked in
      let le = k.heard.near.acked in
      record { taken = omega (arith, more_taken); acked = omega arith }

  -- ---- and all goes on

  stays_joined : StaysJoined ms n i
  stays_joined accepted names =
      let own : a.part ≡ Acceptor = sym (ap (λ (y : Account). y.part) k.is) ∙ accepted in
      let named : p.remote ≡ i = sym (ap (λ (y : Account). y.remote) stays) ∙ chosen own in
      subst (λ (y : Account). AreJoined (partner_in ms y) y) (sym k.is)
      (acceptor_joined (joined_opener accs n i k.within.accounts own named))

  put_of_it : IsPut accs ms n e x sender ev i u
  put_of_it =
      let drawn = k.within.end.drawn i made in
      let le = k.put_is.next in
      record {
        within = k.within;
        only = k.only;
        end = k.put_is;
        drawn = omega arith;
        account = rw k.is account;
        live = rw k.is still_live;
        joined = stays_joined;
        apart = still_apart accs n e sender ev k.within i t u k.there k.goes.peer k.goes.remote;
        near = k.heard.again ms i u (rw k.is near);
      }

  pub pair_takes : Within ms n x sender ev
  pair_takes = puts_keep accs ms n e x sender ev i u put_of_it
