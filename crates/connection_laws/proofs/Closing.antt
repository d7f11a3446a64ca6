-- A tunnel is closed, and its peer is told.
use Rattle.std.proofs.Common.{◌≡◌, ◌⊎◌, inl, inr, ⊎_elim, ℕ, ◌+◌, ◌<◌, ◌≤◌, List, [], ◌∷◌, ◌++◌, map, drop, length, refl, sym, ap, ap₂, ◌∙◌, subst, append-nil, Option, Some, arith, None}
use Rattle.std.proofs.lemmas.Bool.{ltb-true}
use Rattle.std.proofs.lemmas.List.{length-append, map-append, drop-append-le}
use Rattle.std.proofs.lemmas.Option.{none-some}
use Rattle.std.specs.List.{AllByRecursion}
use Rattle.id_table.specs.Ids.{at-none}
use Rattle.id_table.specs.Order.{same_or_not, ascends-empty}
use Rattle.wire_base.specs.declared.letter.Letter as wire
use Rattle.control_message.specs.declared.message.Message.TheVariants.{StopCcn}
use Rattle.tunnel_fsm.specs.declared.table.TunnelState.TheVariants as state
use Rattle.tunnel_fsm.specs.Rows.{state_number}
use Rattle.end_model.specs.declared.event.Event.{Event}
use Rattle.end_model.specs.declared.event.Event.TheVariants.{Datagram, Ring, Frame, Admitted, Payload, Lower, Lcp, Hang, OpenTunnel, DropCall, CloseTunnel, Tick}
use Rattle.end_model.specs.declared.moves.Closed.{Closed}
use Rattle.end_model.specs.declared.moves.Move.TheVariants as move
use Rattle.end_model.specs.declared.out.Origin.{Origin}
use Rattle.end_model.specs.declared.out.Origin.TheVariants as origin
use Rattle.world_model.specs.declared.packet.Packet.{Packet}
use Rattle.end_model.specs.Tunnels.{Tunnel}
use Rattle.end_model.specs.End.{End}
use Rattle.world_model.specs.World.{Sender, Deed}
use Rattle.step_laws.specs.Codes.{stop_codes_fit}
use Rattle.step_laws.specs.Letters.{Letter}
use Rattle.step_laws.specs.Moves.{WhyCloses, ByOperator, ByLetter, Closes, with_letter}
use Rattle.frame_laws.specs.Codecs.{Codecs}
use Rattle.connection_laws.specs.Accounts.{Part, Unmade, Opener, Acceptor, Account, gives}
use Rattle.connection_laws.specs.Facts.{Accounts, IsMade, IsStopCcn, TellsOwn, AreTaken, AreIgnored, IsOpen, IsClosed, IsLost, HasStopped, AreJoined, partner_in, IsOpener, IsAcceptor, IsPart, AccountOk, IsSpelled, kept_letter, AreAcked, LiveOk, AreNear, Comes, Within}
use Rattle.connection_laws.specs.Steps.{ClosingsAreKnown}
use Rattle.connection_laws.proofs.Keeps.{after, IsMoved}
use Rattle.connection_laws.proofs.Puts.{Extends, IsOnly, NearAt, ComesNear, StaysJoined, IsPut}
use Rattle.connection_laws.proofs.Later.{live_made, AllExtend, all_extend, is_taken_on, are_acked_later, after_move, only_after}
use Rattle.connection_laws.proofs.States.{open_unless, lost_unless, heeded_open, heeded_closed, is_open_so, shut_stands, closes_open}
use Rattle.connection_laws.proofs.Put.{puts_keep}
use Rattle.connection_laws.proofs.GoingOn.{are_acked_on, for_back}
use Rattle.connection_laws.proofs.Hearing.{opener_of, acceptor_of}
use Rattle.connection_laws.proofs.NextHeard.{joined_opener}
use Rattle.connection_laws.proofs.Acknowledging.{put_of, still_apart}
use Rattle.connection_laws.proofs.Taking.{all_append, begins_on}

-- ---- the id of the peer's to which it goes

module _ (codecs : Codecs) (accs : Accounts) (n : ℕ) (e x : End) (sender : Option Sender) (moment : ℕ) (ev : Event) (within : Within accs n e sender ev)
    (m : Closed) (c : Closes e moment ev m x) where
  abbrev was : Tunnel
  was = c.tunnel

  lives : LiveOk accs n m.tunnel (accs n m.tunnel) was
  lives = within.end.live m.tunnel was c.there

  pub unclosed : state_number was.control.state ≡ 4 → ⊥
  unclosed = closes_open was.control.state c.on c.row

  by_why : WhyCloses e.config.secret was ev c.on m → m.remote ≡ was.control.remote
  by_why (ByOperator is on known result error) = known
  by_why (ByLetter told k next spare why other known) = known

  pub closes_known : m.remote ≡ (accs n m.tunnel).remote
  closes_known = by_why c.why ∙ lives.remote

pub closings_are_known : Codecs → ClosingsAreKnown
closings_are_known codecs accs n e x sender moment ev within m c = closes_known codecs accs n e x sender moment ev within m c

-- ---- one that gave one letter gives a StopCCN

pub stop_behind : (given : List Letter) (l : Letter) → length given ≡ 1 → IsStopCcn l.message
    → AllByRecursion (λ (x : Letter). IsStopCcn x.message) (drop 1 (given ++ l ∷ []))
stop_behind [] l one stops = absurd (omega arith)
stop_behind (x ∷ []) l one stops = (stops, tt)
stop_behind (x ∷ y ∷ ys) l one stops = absurd (omega arith)

-- ---- the move

module _ (codecs : Codecs) (accs : Accounts) (n : ℕ) (e x : End) (sender : Option Sender) (moment : ℕ) (ev : Event) (d : Deed)
    (m : Closed) (h : IsMoved accs n e x sender moment ev (move.Closed m) d) where
  abbrev ms : Accounts
  ms = after accs d

  abbrev i : ℕ
  i = m.tunnel

  abbrev t : Tunnel
  t = h.does.tunnel

  abbrev a : Account
  a = accs n i

  -- the StopCCN
  abbrev last : Letter
  last = record { tunnel = m.tunnel; place = m.given; session = 0; message = StopCcn m.tunnel m.result m.error; hidden = None }

  abbrev b : Account
  b = record a { given = a.given ++ last ∷ []; closed = Some (length a.taken) }

  abbrev u : Tunnel
  u = record (with_letter 0 (StopCcn m.tunnel m.result m.error) (record t { control = record t.control { state = state.Closed; remote = m.remote; closed = moment } })) { calls = [] }

  -- the partner as it was, and as it is
  abbrev p : Account
  p = partner_in accs a

  abbrev q : Account
  q = partner_in ms b

  ok : AccountOk accs n i a
  ok = h.within.accounts n i

  live : LiveOk accs n i a t
  live = h.within.end.live i t h.does.there

  made : IsMade a
  made = live_made accs n i a t live

  some : 0 < i
  some = ok.some made

  is_open : IsOpen a
  is_open = is_open_so accs i a t a.part live.state (unclosed codecs accs n e x sender moment ev h.within m h.does)

  known : m.remote ≡ a.remote
  known = closes_known codecs accs n e x sender moment ev h.within m h.does

  only : IsOnly accs ms n i
  only = only_after accs d n (move.Closed m) tt h.deed.node_is h.deed.move_is (known, is_open)

  grown : AllExtend accs ms
  grown = all_extend accs ms n i only

  gives_is : gives d ≡ last ∷ []
  gives_is = rw (h.deed.role_is, h.deed.node_is, h.deed.move_is) refl

  is : ms n i ≡ b
  is = after_move accs d n (move.Closed m) tt h.deed.node_is h.deed.move_is
      ∙ ap₂ (λ (r : ℕ) (ls : List Letter). record a { remote = r; closed = Some (length a.taken); given = a.given ++ ls }) known gives_is

  -- ---- its partner

  stays_by : (p.part ≡ a.part → ⊥) → q ≡ p
  stays_by other = only.others a.peer a.remote (λ both. other (ap₂ (λ m j. (accs m j).part) both.0 both.1))

  opener_stays : a.part ≡ Opener → (a.remote ≡ 0 → ⊥) → q ≡ p
  opener_stays own some_id = stays_by (λ same. let y = (opener_of accs n i a ok own).part some_id in let no : ⊥ = cc in no)

  acceptor_stays : a.part ≡ Acceptor → q ≡ p
  acceptor_stays own = stays_by (λ same. let y = (acceptor_of accs n i a ok own).part in let no : ⊥ = cc in no)

  more_given : length b.given ≡ length a.given + 1
  more_given = length-append a.given (last ∷ [])

  room : t.control.channel.window.queued < 8192
  room = ltb-true t.control.channel.window.queued 8192 h.does.room

  -- what isn't acknowledged is little
  few_given : (taken : ℕ) → t.control.channel.window.acked ≤ taken → length b.given ≤ taken + 8192
  few_given taken le = let counted = live.counted in let few = room in omega (arith, more_given, counted, few, le)

  acked_of : (r : Part) → a.part ≡ r → AreAcked accs n i a t.control.channel.window.acked r
  acked_of r own = subst (λ r. AreAcked accs n i a t.control.channel.window.acked r) own live.acked

  closed_now : IsClosed b
  closed_now = (length a.taken, refl, omega arith)

  -- ---- its account

  opener : a.part ≡ Opener → IsOpener ms n i b
  opener own =
      let before = opener_of accs n i a ok own in
      record {
        begins = begins_on i _ a.given (last ∷ []) (tt, tt) before.begins;
        none = λ z. ⊎_elim (λ none. inl none) (λ (o : IsLost a × (length a.taken ≤ 2)). absurd (lost_unless a is_open o.0)) (before.none z);
        one_given = one;
        some = before.some;
        part = λ z. ap (λ (y : Account). y.part) (opener_stays own z) ∙ before.part z;
        peer = λ z. ap (λ (y : Account). y.peer) (opener_stays own z) ∙ before.peer z;
        remote = λ z. ap (λ (y : Account). y.remote) (opener_stays own z) ∙ before.remote z;
        joined = λ z. rw (opener_stays own z) (joined z);
        early = little;
      }
    where
      had : IsOpener accs n i a
      had = opener_of accs n i a ok own

      -- closed before it took a letter, it knew no partner, and had given its SCCRQ alone
      little : b.closed ≡ Some 0 → (length b.given ≤ 2) × AllByRecursion (λ (l : Letter). IsStopCcn l.message) (drop 1 b.given)
      little z =
          let none : length a.taken ≡ 0 = cc in
          let unknown : a.remote ≡ 0 = ⊎_elim (λ (q : a.remote ≡ 0). q)
          (λ (q : a.remote ≡ 0 → ⊥). let one = had.some q in absurd (omega (arith, one, none))) (same_or_not a.remote 0) in
          ⊎_elim
          (λ (one : length a.given ≡ 1). (omega (arith, more_given, one), stop_behind a.given last one tt))
          (λ (o : IsLost a × (length a.given ≤ 2)). absurd (lost_unless a is_open o.0))
          (had.one_given unknown)

      lost : a.remote ≡ 0 → IsLost b
      lost z = ⊎_elim
          (λ (none : a.taken ≡ []). (ap (λ ts. Some (length ts)) none, z))
          (λ (o : IsLost a × (length a.taken ≤ 2)). absurd (lost_unless a is_open o.0))
          (had.none z)

      one : b.remote ≡ 0 → (length b.given ≡ 1) ⊎ (IsLost b × (length b.given ≤ 2))
      one z = ⊎_elim
          (λ (was_one : length a.given ≡ 1). inr (lost z, omega (arith, more_given, was_one)))
          (λ (o : IsLost a × (length a.given ≤ 2)). absurd (lost_unless a is_open o.0))
          (had.one_given z)

      joined : (a.remote ≡ 0 → ⊥) → AreJoined b p
      joined z =
          let j = had.joined z in
          record {
            here = ⊎_elim (λ (le : length a.taken ≤ length p.given). inl le)
                (λ (o : IsClosed a × (length a.taken ≤ 2)). absurd (open_unless a is_open o.0)) j.here;
            there = (let le = j.there in omega (arith, more_given));
            few_here = few_given (length p.taken) ((acked_of Opener own).1 z);
            few_there = j.few_there;
          }

  acceptor : a.part ≡ Acceptor → IsAcceptor ms n i b
  acceptor own =
      let before = acceptor_of accs n i a ok own in
      let same = acceptor_stays own in
      record {
        begins = begins_on i _ a.given (last ∷ []) (tt, tt) before.begins;
        known = before.known;
        some = before.some;
        part = ap (λ (y : Account). y.part) same ∙ before.part;
        peer = ap (λ (y : Account). y.peer) same ∙ before.peer;
        one_taken = rw same before.one_taken;
        one_given = rw same (λ apart. inr (stopped (before.one_given apart)));
      }
    where
      stopped : (length a.given ≡ 1) ⊎ HasStopped a → HasStopped b
      stopped one = ⊎_elim
          (λ (was_one : length a.given ≡ 1).
          record { closed = closed_now; few = omega (arith, more_given, was_one); stops = stop_behind a.given last was_one tt })
          (λ (s : HasStopped a). absurd (open_unless a is_open s.closed))
          one

  part : (r : Part) → a.part ≡ r → IsPart ms n i b r
  part Unmade own = absurd (made own)
  part Opener own = opener own
  part Acceptor own = acceptor own

  extends : Extends a b
  extends = record {
    part = inr refl;
    peer = λ z. refl;
    remote = inr refl;
    closed = inl is_open;
    given = (last ∷ [], refl);
    taken = ([], sym (append-nil a.taken));
    declined = λ z. z;
  }

  -- what it heeds is what it took
  taken : AreTaken ms b
  taken number y found lt =
      let all = heeded_open a is_open in
      let these = heeded_closed b (length a.taken) refl in
      is_taken_on accs ms grown a b extends made number y (ok.taken number y found (omega (arith, all, these, lt)))

  ignored : AreIgnored b
  ignored number y found le =
      let all = heeded_open a is_open in
      let these = heeded_closed b (length a.taken) refl in
      ok.ignored number y found (omega (arith, all, these, le))

  account : AccountOk ms n i b
  account =
      let codes = stop_codes_fit e.config.secret t ev h.does.on m h.does.why in
      record {
        part = part a.part refl;
        some = ok.some;
        id = ok.id;
        node = ok.node;
        peer = ok.peer;
        remote = ok.remote;
        spelled = all_append IsSpelled a.given (last ∷ []) ok.spelled
            (record { written = (ok.id made, codes.0, codes.1); hides = tt; session = omega arith }, tt);
        told = all_append (λ (l : Letter). TellsOwn i l.message) a.given (last ∷ []) ok.told (refl, tt);
        taken = taken;
        ignored = ignored;
      }

  -- ---- the tunnel

  letters : u.letters ≡ map kept_letter (drop u.control.channel.window.acked b.given)
  letters =
      let counted = live.counted in
      let le : t.control.channel.window.acked ≤ length a.given = omega arith in
      ap (λ (ls : List wire.Letter). ls ++ map kept_letter (last ∷ [])) live.letters
      ∙ sym (map-append kept_letter (drop t.control.channel.window.acked a.given) (last ∷ []))
      ∙ ap (λ (ls : List Letter). map kept_letter ls) (sym (drop-append-le t.control.channel.window.acked a.given (last ∷ []) le))

  still_live : LiveOk ms n i b u
  still_live =
      let counted = live.counted in
      let out = live.outstanding in
      let most = room in
      record {
        local = live.local;
        peer = live.peer;
        remote = known;
        state = shut_stands ms i b u a.part made (refl, closed_now, refl);
        letters = letters;
        counted = omega (arith, more_given);
        few = omega arith;
        outstanding = omega arith;
        taken = live.taken;
        acked = are_acked_on ms n i a b t.control.channel.window.acked refl refl (λ z. z) a.part
            (are_acked_later accs ms grown n i some a t.control.channel.window.acked a.part live.acked);
        calls = λ s k f. absurd (none-some k (sym (at-none s) ∙ f));
        order = ascends-empty [] refl;
        recovery = live.recovery;
        query = live.query;
      }

  near_at : (w : Packet) (bytes : List ℕ) (o : Origin) → AreNear accs n e w bytes o → NearAt ms n i u w bytes o
  near_at w bytes (origin.Control o) before = λ v peer read f.
      let k = before i t v h.does.there peer read (for_back v bytes t.control u.control refl (known ∙ sym live.remote) f) in
      record { taken = rw is k.taken; acked = k.acked }
  near_at w bytes (origin.Data session) before = tt
  near_at w bytes (origin.Recovery tunnel number empty) before = tt

  near : (v : Event) (c : Comes accs n e sender v) → ComesNear accs n e sender v c ms i u
  near (Datagram peer bytes) c = near_at c.packet bytes c.packet.origin c.near
  near (Ring port) c = tt
  near (Frame bytes) c = tt
  near (Admitted mac) c = tt
  near (Payload s frame) c = tt
  near (Lower s frame) c = tt
  near (Lcp s packet) c = tt
  near (Hang s) c = tt
  near OpenTunnel c = tt
  near (DropCall s) c = tt
  near (CloseTunnel k) c = tt
  near Tick c = tt

  -- ---- and all goes on

  acceptor_joined : a.part ≡ Acceptor → p.remote ≡ i → AreJoined p b
  acceptor_joined own chosen =
      let j = joined_opener accs n i h.within.accounts own chosen in
      record {
        here = ⊎_elim (λ (le : length p.taken ≤ length a.given). inl (omega (arith, more_given))) (λ k. inr k) j.here;
        there = j.there;
        few_here = j.few_here;
        few_there = few_given (length p.taken) ((acked_of Acceptor own).1 chosen);
      }

  stays_joined : StaysJoined ms n i
  stays_joined accepted names =
      let own : a.part ≡ Acceptor = sym (ap (λ (y : Account). y.part) is) ∙ accepted in
      let same = acceptor_stays own in
      let named : q.remote ≡ i = subst (λ (y : Account). (partner_in ms y).remote ≡ i) is names in
      let before : p.remote ≡ i = sym (ap (λ (y : Account). y.remote) same) ∙ named in
      subst (λ (y : Account). AreJoined (partner_in ms y) y) (sym is) (rw same (acceptor_joined own before))

  put_of_it : IsPut accs ms n e x sender ev i u
  put_of_it = record {
    within = h.within;
    only = only;
    end = put_of e x _ i u h.does.after;
    drawn = subst (λ (y : End). i < y.tunnel_ids.next) (sym h.does.after) (h.within.end.drawn i made);
    account = rw is account;
    live = rw is still_live;
    joined = stays_joined;
    apart = still_apart accs n e sender ev h.within i t u h.does.there refl (known ∙ sym live.remote);
    near = near ev h.within.comes;
  }

  pub closed_keeps : Within ms n x sender ev
  closed_keeps = puts_keep accs ms n e x sender ev i u put_of_it
