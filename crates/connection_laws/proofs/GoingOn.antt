-- A tunnel that takes no letter goes on: it may be given letters, its window and its calls may change.
use Rattle.std.proofs.Common.{◌≡◌, ◌⊎◌, inl, inr, ⊎_elim, ℕ, ◌+◌, ◌<◌, ◌≤◌, true, List, [], ◌∷◌, ◌++◌, length, map, drop, refl, sym, ap, ap₂, ◌∙◌, subst, append-nil, Option, Some, arith}
use Rattle.std.proofs.lemmas.List.{length-append, drop-append-le, map-append}
use Rattle.std.specs.List.{AllByRecursion}
use Rattle.id_table.specs.Ids.{at}
use Rattle.id_table.specs.Order.{Ascends}
use Rattle.l2tp_header.specs.declared.header.Header.{Header}
use Rattle.control_message.specs.declared.message.Message.{Message}
use Rattle.control_message.specs.declared.message.Message.TheVariants.{Sccrq, Sccrp}
use Rattle.control_message.specs.declared.message.Opening.{Opening}
use Rattle.tunnel_fsm.specs.Rows.{state_number}
use Rattle.l2tp_header.specs.Reading.{body_of}
use Rattle.end_model.specs.declared.event.Event.{Event}
use Rattle.end_model.specs.declared.event.Event.TheVariants.{Datagram, Ring, Frame, Admitted, Payload, Lower, Lcp, Hang, OpenTunnel, DropCall, CloseTunnel, Tick}
use Rattle.end_model.specs.declared.event.Addressee.TheVariants.{Opens, Stops}
use Rattle.end_model.specs.declared.out.Origin.{Origin}
use Rattle.end_model.specs.declared.out.Origin.TheVariants as origin
use Rattle.world_model.specs.declared.packet.Packet.{Packet}
use Rattle.end_model.specs.declared.tunnel.Call.{Call}
use Rattle.end_model.specs.declared.tunnel.Control.{Control}
use Rattle.end_model.specs.Tunnels.{Tunnel}
use Rattle.end_model.specs.End.{End}
use Rattle.world_model.specs.World.{Sender}
use Rattle.step_laws.specs.Letters.{Letter}
use Rattle.step_laws.specs.Moves.{IsFor, IsAgain, IsStop}
use Rattle.connection_laws.specs.Accounts.{Part, Unmade, Opener, Acceptor, Account}
use Rattle.connection_laws.specs.Facts.{GaveLittle, Accounts, IsNoOpening, IsSpelled, TellsOwn, IsOpen, IsClosed, IsLost, HasStopped, AllWait, IsShut, BeginsWith, AreJoined, partner_in, IsOpener, IsAcceptor, IsPart, IsMade, AccountOk, kept_letter, IsAnswered, IsInState, AreAcked, LiveOk, AreNear, Comes, Within}
use Rattle.connection_laws.proofs.Puts.{Extends, IsOnly, NearAt, ComesNear, EndPut}
use Rattle.connection_laws.proofs.Later.{AllExtend, all_extend, are_acked_later, in_state_later, is_taken_on, live_made, more_given, joined_now}
use Rattle.connection_laws.proofs.States.{closed_still, opener_known, acceptor_chosen}
use Rattle.connection_laws.proofs.Put.{puts_keep}

all_append : {X : Type 0} (P : X → Type 0) (xs ys : List X) → AllByRecursion P xs → AllByRecursion P ys → AllByRecursion P (xs ++ ys)
all_append P [] ys h k = k
all_append P (x ∷ xs) ys h k = (h.0, all_append P xs ys h.1 k)

-- ---- what goes on

-- a tunnel is given these letters, and goes on so
pub record GoesOn (t u : Tunnel) (more : List Letter) : Type 0 where
  pub local : u.control.local ≡ t.control.local
  pub peer : u.control.peer ≡ t.control.peer
  pub remote : u.control.remote ≡ t.control.remote
  pub state : u.control.state ≡ t.control.state
  pub letters : u.letters ≡ t.letters ++ map kept_letter more
  pub acked : u.control.channel.window.acked ≡ t.control.channel.window.acked
  pub queued : u.control.channel.window.queued ≡ t.control.channel.window.queued + length more
  pub few : u.control.channel.window.queued ≤ 8192
  pub outstanding : u.control.channel.window.outstanding ≤ u.control.channel.window.queued
  pub taken : u.control.channel.inbox.taken ≡ t.control.channel.inbox.taken
  pub calls : (s : ℕ) (c : Call) → at u.calls s ≡ Some c → c.remote < 65536
  pub order : Ascends u.calls
  pub recovery : u.recovery ≡ t.recovery
  pub query : u.query ≡ t.query
  -- one that isn't open is given nothing; its calls wait, or it has none
  pub how : (state_number t.control.state ≡ 3)
      ⊎ ((more ≡ []) × (AllWait t.calls → AllWait u.calls) × ((state_number t.control.state ≡ 1 → ⊥) → t.calls ≡ [] → u.calls ≡ []))

-- the account of a tunnel that is given these letters
abbrev pub with_given : List Letter → Account → Account
with_given more a = record a { given = a.given ++ more }

given_extends : (a : Account) (more : List Letter) → Extends a (with_given more a)
given_extends a more = record {
  part = inr refl;
  peer = λ made. refl;
  remote = inr refl;
  closed = inr refl;
  given = (more, refl);
  taken = ([], sym (append-nil a.taken));
  declined = λ z. z;
}

begins_on : (i : ℕ) (says : Opening → Message) (given more : List Letter) → AllByRecursion (λ (l : Letter). IsNoOpening l.message) more
    → BeginsWith i says given → BeginsWith i says (given ++ more)
begins_on i says given more plain h = record {
  first = h.first;
  rest = h.rest ++ more;
  are = ap (λ ls. ls ++ more) h.are;
  opening = h.opening;
  says_so = h.says_so;
  id = h.id;
  later = all_append (λ (l : Letter). IsNoOpening l.message) h.rest more h.later plain;
}

-- what is unacknowledged or unsent is at most 8,192 letters
still_few : (given more : List Letter) (acked queued taken : ℕ) → acked + queued ≡ length given → queued + length more ≤ 8192 → acked ≤ taken
    → length (given ++ more) ≤ taken + 8192
still_few given more acked queued taken counted few le = rw length-append (omega (arith, counted))

-- the acceptors that answer a tunnel are known by its peer
answered_on : (accs : Accounts) (n i : ℕ) (a b : Account) (acked : ℕ) → b.peer ≡ a.peer → IsAnswered accs n i a acked → IsAnswered accs n i b acked
answered_on accs n i a b acked peer h =
    record { acceptor = h.acceptor; part = rw peer h.part; peer = rw peer h.peer; remote = rw peer h.remote; enough = rw peer h.enough }

-- and so is its partner; what was declined still is
pub are_acked_on : (accs : Accounts) (n i : ℕ) (a b : Account) (acked : ℕ) → b.peer ≡ a.peer → b.remote ≡ a.remote
    → (a.declined ≡ true → b.declined ≡ true) → (p : Part) → AreAcked accs n i a acked p → AreAcked accs n i b acked p
are_acked_on accs n i a b acked peer remote keeps Unmade h = h
are_acked_on accs n i a b acked peer remote keeps Opener h =
    let same : partner_in accs a ≡ partner_in accs b = sym (ap₂ accs peer remote) in (
      (λ unknown. ⊎_elim
          (λ none. inl none)
          (λ rest. inr (⊎_elim
          (λ (one : IsAnswered accs n i a acked). inl (answered_on accs n i a b acked peer one))
          (λ (k : (acked ≡ 1) × (a.declined ≡ true)). inr (k.0, keeps k.1))
          rest))
          (h.0 (sym remote ∙ unknown))),
      (λ known. subst (λ (x : Account). acked ≤ length x.taken) same (h.1 (λ none. known (remote ∙ none)))),
    )
are_acked_on accs n i a b acked peer remote keeps Acceptor h =
    let same : partner_in accs a ≡ partner_in accs b = sym (ap₂ accs peer remote) in
    subst (λ (x : Account). ((x.remote ≡ i → ⊥) → (acked ≡ 0) ⊎ IsLost x) × (x.remote ≡ i → acked ≤ length x.taken)) same h

-- a message for the tunnel as it is was for it as it was
pub for_back : (h : Header) (bytes : List ℕ) (c d : Control) → d.local ≡ c.local → d.remote ≡ c.remote → IsFor h (body_of bytes h) d → IsFor h (body_of bytes h) c
for_back h bytes c d local remote f =
    ⊎_elim
    (λ names. inl (names ∙ local))
    (λ other. inr (⊎_elim
    (λ (again : IsAgain h (body_of bytes h) d). inl (record { none = again.none; opens = again.opens ∙ ap (λ r. Opens r) remote }))
    (λ (stop : IsStop h (body_of bytes h) d). inr (record { none = stop.none; stops = stop.stops ∙ ap (λ r. Stops r) remote }))
    other))
    f

module _ (accs ms : Accounts) (n : ℕ) (e x : End) (sender : Option Sender) (ev : Event) (within : Within accs n e sender ev) (i : ℕ) (t u : Tunnel)
    (more : List Letter) (there : at e.tunnels i ≡ Some t) (g : GoesOn t u more) (only : IsOnly accs ms n i)
    (is : ms n i ≡ with_given more (accs n i)) (spelled : AllByRecursion IsSpelled more)
    (plain : AllByRecursion (λ (l : Letter). IsNoOpening l.message) more) (told : AllByRecursion (λ (l : Letter). TellsOwn i l.message) more)
    (put_is : EndPut e x i u) where
  abbrev a : Account
  a = accs n i

  abbrev b : Account
  b = with_given more a

  -- the partner as it was, and as it is
  abbrev p : Account
  p = partner_in accs a

  abbrev q : Account
  q = partner_in ms a

  ok : AccountOk accs n i a
  ok = within.accounts n i

  live : LiveOk accs n i a t
  live = within.end.live i t there

  made : IsMade a
  made = live_made accs n i a t live

  some : 0 < i
  some = ok.some made

  grown : AllExtend accs ms
  grown = all_extend accs ms n i only

  -- the partner isn't this tunnel, where it was made another way
  partner_stays : (r s : Part) → p.part ≡ r → a.part ≡ s → (r ≡ s → ⊥) → q ≡ p
  partner_stays r s mate own other =
      only.others a.peer a.remote (λ both. other (sym mate ∙ ap₂ (λ m j. (accs m j).part) both.0 both.1 ∙ own))

  counted_more : (taken : ℕ) → t.control.channel.window.acked ≤ taken → length b.given ≤ taken + 8192
  counted_more taken le =
      let few = g.few in
      let queued = g.queued in
      still_few a.given more t.control.channel.window.acked t.control.channel.window.queued taken live.counted (omega (arith, queued)) le

  acked_of : (r : Part) → a.part ≡ r → AreAcked accs n i a t.control.channel.window.acked r
  acked_of r own = subst (λ r. AreAcked accs n i a t.control.channel.window.acked r) own live.acked

  -- where it isn't open
  none_unless : (state_number t.control.state ≡ 3 → ⊥) → more ≡ []
  none_unless other = ⊎_elim (λ three. absurd (other three)) (λ k. k.0) g.how

  -- an opener that is given a letter has learned one, and an acceptor has been learned
  none_before : a.part ≡ Opener → a.remote ≡ 0 → more ≡ []
  none_before own none = none_unless (λ three. opener_known accs i a t (subst (λ r. IsInState accs i a t r) own live.state) three none)

  none_given : a.part ≡ Acceptor → (p.remote ≡ i → ⊥) → more ≡ []
  none_given own apart = none_unless (λ three. apart (acceptor_chosen accs i a t (subst (λ r. IsInState accs i a t r) own live.state) three))

  opener_on : a.part ≡ Opener → IsOpener accs n i a → IsOpener ms n i b
  opener_on own h = record {
    begins = begins_on i Sccrq a.given more plain h.begins;
    none = h.none;
    one_given = λ none. still_one none;
    some = h.some;
    part = λ known. rw (stays known) (h.part known);
    peer = λ known. rw (stays known) (h.peer known);
    remote = λ known. rw (stays known) (h.remote known);
    joined = joined;
    early = λ z. little z;
  }
    where
      -- a closed tunnel gives nothing more
      little : a.closed ≡ Some 0 → GaveLittle b
      little z = rw (none_unless (λ three. closed_still accs i a t own live.state z three), append-nil) (h.early z)

      still_one : a.remote ≡ 0 → (length b.given ≡ 1) ⊎ (IsLost b × (length b.given ≤ 2))
      still_one none = rw (none_before own none, append-nil) (h.one_given none)

      stays : (a.remote ≡ 0 → ⊥) → q ≡ p
      stays known = partner_stays Acceptor Opener (h.part known) own (λ same. let clash : ⊥ = cc in clash)

      joined : (a.remote ≡ 0 → ⊥) → AreJoined b q
      joined known =
          let j = h.joined known in
          let more_here = more_given a b (given_extends a more) in
          rw (stays known) (record {
            here = j.here;
            there = (let le = j.there in omega arith);
            few_here = counted_more (length p.taken) ((acked_of Opener own).1 known);
            few_there = j.few_there;
          })

  stopped_on : more ≡ [] → HasStopped a → HasStopped b
  stopped_on none s = record {
    closed = s.closed;
    few = rw (none, append-nil) s.few;
    stops = rw (none, append-nil) s.stops;
  }

  acceptor_on : a.part ≡ Acceptor → IsAcceptor accs n i a → IsAcceptor ms n i b
  acceptor_on own h =
      let stays = partner_stays Opener Acceptor h.part own (λ same. let clash : ⊥ = cc in clash) in
      record {
        begins = begins_on i Sccrp a.given more plain h.begins;
        known = h.known;
        some = h.some;
        part = rw stays h.part;
        peer = rw stays h.peer;
        one_taken = rw stays h.one_taken;
        one_given = rw stays (λ apart. ⊎_elim
            (λ (one : length a.given ≡ 1). inl (rw (none_given own apart, append-nil) one))
            (λ (s : HasStopped a). inr (stopped_on (none_given own apart) s))
            (h.one_given apart));
      }

  part_on : (r : Part) → a.part ≡ r → IsPart accs n i a r → IsPart ms n i b r
  part_on Unmade own h = absurd (made own)
  part_on Opener own h = opener_on own h
  part_on Acceptor own h = acceptor_on own h

  account : AccountOk ms n i b
  account = record {
    part = part_on a.part refl ok.part;
    some = ok.some;
    id = ok.id;
    node = ok.node;
    peer = ok.peer;
    remote = ok.remote;
    spelled = all_append IsSpelled a.given more ok.spelled spelled;
    told = all_append (λ (l : Letter). TellsOwn i l.message) a.given more ok.told told;
    taken = λ number l f lt. is_taken_on accs ms grown a b (given_extends a more) made number l (ok.taken number l f lt);
    ignored = ok.ignored;
  }

  stays_joined : b.part ≡ Acceptor → q.remote ≡ i → AreJoined q b
  stays_joined own named =
      let h : IsAcceptor accs n i a = subst (λ r. IsPart accs n i a r) own ok.part in
      let stays = partner_stays Opener Acceptor h.part own (λ same. let clash : ⊥ = cc in clash) in
      let named_before : p.remote ≡ i = rw (← stays) named in
      let j = joined_now accs within.accounts n i own named_before in
      let more_here = more_given a b (given_extends a more) in
      rw stays (record {
        here = ⊎_elim (λ (le : length p.taken ≤ length a.given). inl (omega arith)) (λ k. inr k) j.here;
        there = j.there;
        few_here = j.few_here;
        few_there = counted_more (length p.taken) ((acked_of Acceptor own).1 named_before);
      })

  -- its calls still wait, or there are still none
  still_wait : state_number t.control.state ≡ 1 → AllWait t.calls → AllWait u.calls
  still_wait one wait =
      ⊎_elim (λ (three : state_number t.control.state ≡ 3). absurd (omega (arith, one, three))) (λ k. k.1 wait) g.how

  still_none : (state_number t.control.state ≡ 3 → ⊥) → (state_number t.control.state ≡ 1 → ⊥) → t.calls ≡ [] → u.calls ≡ []
  still_none three one none = ⊎_elim (λ is. absurd (three is)) (λ k. k.2 one none) g.how

  none_of_two : state_number t.control.state ≡ 2 → t.calls ≡ [] → u.calls ≡ []
  none_of_two two none =
      still_none (λ three. let no : ⊥ = omega (arith, two, three) in no) (λ one. let no : ⊥ = omega (arith, two, one) in no) none

  still_shut : IsShut a t → (state_number t.control.state ≡ 4) × IsClosed b × (u.calls ≡ [])
  still_shut k =
      let four = k.0 in
      (four, k.1, still_none (λ three. let no : ⊥ = omega (arith, four, three) in no) (λ one. let no : ⊥ = omega (arith, four, one) in no) k.2)

  state_on : (r : Part) → IsInState ms i a t r → IsInState ms i b u r
  state_on Unmade h = h
  state_on Opener h =
      rw g.state
      (⊎_elim
      (λ (w : (state_number t.control.state ≡ 1) × (a.remote ≡ 0) × IsOpen a × AllWait t.calls). inl (w.0, w.1, w.2, still_wait w.0 w.3))
      (λ rest. ⊎_elim
      (λ (k : (state_number t.control.state ≡ 3) × (a.remote ≡ 0 → ⊥) × IsOpen a). inr (inl k))
      (λ (k : IsShut a t). inr (inr (still_shut k)))
      rest)
      h)
  state_on Acceptor h =
      rw g.state
      (⊎_elim
      (λ (w : (state_number t.control.state ≡ 2) × (t.calls ≡ []) × IsOpen a). inl (w.0, none_of_two w.0 w.1, w.2))
      (λ rest. ⊎_elim
      (λ (k : (state_number t.control.state ≡ 3) × ((partner_in ms a).remote ≡ i) × IsOpen a). inr (inl k))
      (λ (k : IsShut a t). inr (inr (still_shut k)))
      rest)
      h)

  lives : LiveOk ms n i b u
  lives = record {
    local = g.local ∙ live.local;
    peer = g.peer ∙ live.peer;
    remote = g.remote ∙ live.remote;
    state = state_on a.part (in_state_later accs ms grown n i some a t a.part live.state);
    letters = letters;
    counted = counted;
    few = g.few;
    outstanding = g.outstanding;
    taken = g.taken ∙ live.taken;
    acked = rw g.acked (are_acked_on ms n i a b acked refl refl (λ z. z) a.part (are_acked_later accs ms grown n i some a acked a.part live.acked));
    calls = g.calls;
    order = g.order;
    recovery = g.recovery ∙ live.recovery;
    query = g.query ∙ live.query;
  }
    where
      acked : ℕ
      acked = t.control.channel.window.acked

      within_given : acked ≤ length a.given
      within_given = let c = live.counted in omega arith

      letters : u.letters ≡ map kept_letter (drop u.control.channel.window.acked b.given)
      letters =
          rw (g.acked, drop-append-le acked a.given more within_given, map-append)
          (g.letters ∙ ap (λ ls. ls ++ map kept_letter more) live.letters)

      counted : u.control.channel.window.acked + u.control.channel.window.queued ≡ length b.given
      counted = let c = live.counted in let k = g.acked in let l = g.queued in rw length-append (omega (arith, c, k, l))

  near_at : (w : Packet) (bytes : List ℕ) (o : Origin) → AreNear accs n e w bytes o → NearAt ms n i u w bytes o
  near_at w bytes (origin.Control o) before = λ h peer read f.
      let k = before i t h there (sym g.peer ∙ peer) read (for_back h bytes t.control u.control g.local g.remote f) in
      record { taken = rw is k.taken; acked = rw g.acked k.acked }
  near_at w bytes (origin.Data session) before = tt
  near_at w bytes (origin.Recovery tunnel number empty) before = tt

  near : (v : Event) (c : Comes accs n e sender v) → ComesNear accs n e sender v c ms i u
  near (Datagram peer bytes) c = near_at c.packet bytes c.packet.origin c.near
  near (Ring port) c = tt
  near (Frame bytes) c = tt
  near (Admitted mac) c = tt
  near (Payload s frame) c = tt
  near (Lower s frame) c = tt
  near (Lcp s packet) c = tt
  near (Hang s) c = tt
  near OpenTunnel c = tt
  near (DropCall s) c = tt
  near (CloseTunnel k) c = tt
  near Tick c = tt

  pub goes_on : Within ms n x sender ev
  goes_on = puts_keep accs ms n e x sender ev i u (record {
    within = within;
    only = only;
    end = put_is;
    drawn = (let lt = within.end.drawn i made in let le = put_is.next in omega arith);
    account = rw is account;
    live = rw is lives;
    joined = subst (λ c. c.part ≡ Acceptor → (partner_in ms c).remote ≡ i → AreJoined (partner_in ms c) c) (sym is) stays_joined;
    apart = λ j w f peer remote known. within.end.apart j i w t f there (sym peer ∙ g.peer) (sym remote ∙ g.remote) (λ none. known (remote ∙ none));
    near = near ev within.comes;
  })
