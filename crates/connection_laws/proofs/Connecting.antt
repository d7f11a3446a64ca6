-- An opener takes the SCCRP of an acceptor of its SCCRQ: it learns it, and is connected.
use Rattle.std.proofs.Common.{◌≡◌, inl, inr, ⊎_elim, ℕ, ◌+◌, ◌<◌, ◌≤◌, Bool, true, false, cond, List, [], ◌∷◌, ◌++◌, map, drop, length, refl, sym, ap, ap₂, ◌∙◌, subst, Option, Some, arith, ne_eqb, None}
use Rattle.std.proofs.lemmas.Bool.{ltb-true}
use Rattle.std.proofs.lemmas.Option.{slice_get_within}
use Rattle.std.proofs.lemmas.List.{length-append, map-append, drop-append-le}
use Rattle.std.specs.Prelude.{slice_get, ◌==◌}
use Rattle.id_table.specs.Ids.{at}
use Rattle.wire_base.specs.declared.letter.Letter as wire
use Rattle.control_message.specs.declared.message.Message.TheVariants.{Sccrp, Scccn}
use Rattle.control_message.specs.declared.message.Opening.{Opening}
use Rattle.control_channel.specs.Numbers.{learnt_by}
use Rattle.recv_window.specs.Window.{ClassIsTrue}
use Rattle.tunnel_fsm.specs.declared.table.TunnelState.TheVariants.{Established}
use Rattle.tunnel_fsm.specs.Rows.{state_number}
use Rattle.connection_laws.proofs.Written.{responds_sized}
use Rattle.end_model.specs.declared.event.Event.{Event}
use Rattle.end_model.specs.declared.moves.Connected.{Connected}
use Rattle.end_model.specs.declared.moves.Place.{Place}
use Rattle.end_model.specs.declared.moves.Move.TheVariants as move
use Rattle.end_model.specs.declared.out.ControlOrigin.{ControlOrigin}
use Rattle.end_model.specs.declared.tunnel.Control.{Control}
use Rattle.end_model.specs.Tunnels.{Tunnel}
use Rattle.end_model.specs.Channels.{counts_taken, learns_window}
use Rattle.end_model.specs.End.{End}
use Rattle.world_model.specs.World.{Sender, Deed}
use Rattle.step_laws.specs.Letters.{Letter}
use Rattle.step_laws.specs.Moves.{heard_so, with_letter}
use Rattle.frame_laws.specs.Codecs.{Codecs}
use Rattle.connection_laws.specs.Accounts.{Opener, Acceptor, Taken, Account}
use Rattle.connection_laws.specs.Facts.{Accounts, IsMade, TellsOwn, IsTaken, AreTaken, AreIgnored, IsOpen, IsLost, AreJoined, partner_in, IsPart, IsOpener, AccountOk, IsSpelled, kept_letter, IsInState, IsAnswered, AreAcked, LiveOk, IsNear, Within}
use Rattle.connection_laws.proofs.Keeps.{after, IsMoved}
use Rattle.connection_laws.proofs.Puts.{IsOnly, IsPut}
use Rattle.connection_laws.proofs.Later.{live_made, after_move, only_after}
use Rattle.connection_laws.proofs.Put.{puts_keep}
use Rattle.connection_laws.proofs.States.{IsWaiting, is_waiting, lost_unless, heeded_open}
use Rattle.connection_laws.proofs.Alike.{same_alike}
use Rattle.connection_laws.proofs.Hearing.{same_address, part_cases, opener_of, acceptor_of, sender_in}
use Rattle.connection_laws.proofs.NextHeard.{TakesOf, OfPartner, OfFirst, OfLost, OfOther, OfOpener, IsAlone, alone_small, alone_one, acceptor_alone, Said, said_so}
use Rattle.connection_laws.proofs.Acknowledging.{put_of}
use Rattle.connection_laws.proofs.Taking.{all_append, got_push, begins_on, with_taken, taken_as, takes_and_gives}

-- a peer's window becomes known, and nothing else of a tunnel changes
pub record IsLearnt (c d : Control) : Type 0 where
  pub local : d.local ≡ c.local
  pub peer : d.peer ≡ c.peer
  pub remote : d.remote ≡ c.remote
  pub state : d.state ≡ c.state
  pub acked : d.channel.window.acked ≡ c.channel.window.acked
  pub queued : d.channel.window.queued ≡ c.channel.window.queued
  pub outstanding : d.channel.window.outstanding ≡ c.channel.window.outstanding
  pub taken : d.channel.inbox.taken ≡ c.channel.inbox.taken

pub learnt : (window : ℕ) (c : Control) → IsLearnt c (learns_window window c)
learnt window c = by (window == 0)
  where
    by : (none : Bool) → IsLearnt c (cond none c (record c { channel = learnt_by c.channel window }))
    by true = record { local = refl; peer = refl; remote = refl; state = refl; acked = refl; queued = refl; outstanding = refl; taken = refl }
    by false = record { local = refl; peer = refl; remote = refl; state = refl; acked = refl; queued = refl; outstanding = refl; taken = refl }

-- an opener that waits for the SCCRP takes the first letter of an acceptor
pub record IsFirst (accs : Accounts) (n i : ℕ) (o : ControlOrigin) (l : Letter) : Type 0 where
  pub here : (accs n i).part ≡ Opener
  pub none : (accs n i).remote ≡ 0
  pub is_open : IsOpen (accs n i)
  pub nothing : (accs n i).taken ≡ []
  pub part : (sender_in accs n i o).part ≡ Acceptor
  pub remote : (sender_in accs n i o).remote ≡ i
  pub peer : (sender_in accs n i o).peer ≡ n
  pub opening : Opening
  pub says : l.message ≡ Sccrp opening
  pub id : opening.tunnel ≡ o.tunnel

pub first_if : (accs : Accounts) (n i : ℕ) (t : Tunnel) (o : ControlOrigin) (l : Letter) → IsWaiting (accs n i) t (accs n i).part → TakesOf accs n i o l
    → IsFirst accs n i o l
first_if accs n i t o l waits (OfPartner pair told) =
    let here = waits.part in
    absurd (⊎_elim
    (λ (p : ((accs n i).part ≡ Opener) × ((accs n i).remote ≡ 0 → ⊥)). p.1 waits.remote)
    (λ (p : ((accs n i).part ≡ Acceptor) × ((partner_in accs (accs n i)).remote ≡ i)). let q = p.0 in let no : ⊥ = cc in no)
    pair)
first_if accs n i t o l waits (OfFirst here none taken part remote peer opening says id) = record {
  here = here;
  none = none;
  is_open = waits.is_open;
  nothing = taken;
  part = part;
  remote = remote;
  peer = peer;
  opening = opening;
  says = says;
  id = id;
}
first_if accs n i t o l waits (OfLost here lost few) = absurd (lost_unless (accs n i) waits.is_open lost)
first_if accs n i t o l waits (OfOther here known few stops) = absurd (known waits.remote)
first_if accs n i t o l waits (OfOpener here lost few stops) = let own = waits.part in let no : ⊥ = cc in absurd no

module _ (codecs : Codecs) (classes : ClassIsTrue) (accs : Accounts) (n : ℕ) (e x : End) (sender : Option Sender) (moment : ℕ) (ev : Event) (d : Deed)
    (m : Connected) (h : IsMoved accs n e x sender moment ev (move.Connected m) d) where
  abbrev ms : Accounts
  ms = after accs d

  abbrev i : ℕ
  i = m.tunnel

  abbrev t : Tunnel
  t = h.does.tunnel

  abbrev a : Account
  a = accs n i

  -- the SCCCN
  abbrev last : Letter
  last = record { tunnel = m.tunnel; place = m.given; session = 0; message = Scccn m.response; hidden = None }

  abbrev tk : Taken
  tk = taken_as sender m.taken (move.Connected m)

  abbrev b : Account
  b = with_taken tk (last ∷ []) (record a { remote = m.remote })

  -- the control part with what is learned
  abbrev c : Control
  c = learns_window m.window (record t.control { remote = m.remote; flags = m.flags; state = Established })

  abbrev u : Tunnel
  u = with_letter 0 (Scccn m.response) (record t { control = counts_taken c })

  learns : IsLearnt (record t.control { remote = m.remote; flags = m.flags; state = Established }) c
  learns = learnt m.window (record t.control { remote = m.remote; flags = m.flags; state = Established })

  live : LiveOk accs n i a t
  live = h.within.end.live i t h.does.there

  ok : AccountOk accs n i a
  ok = h.within.accounts n i

  made : IsMade a
  made = live_made accs n i a t live

  said : Said accs n e sender ev h.within.comes i t h.does.letter.header h.does.takes.next.comes.came.bytes h.does.letter.header.session
      (Sccrp h.does.opening)
  said = said_so codecs classes accs n e sender ev h.within i t h.does.there h.does.letter.header.session (Sccrp h.does.opening) tt
      (heard_so ev t h.does.letter (Sccrp h.does.opening) h.does.takes.next h.does.said)

  message_is : said.next.letter.message ≡ Sccrp h.does.opening
  message_is = same_alike said.next.letter.message (Sccrp h.does.opening) said.message tt

  abbrev o : ControlOrigin
  o = said.heard.o

  first : IsFirst accs n i o said.next.letter
  first = first_if accs n i t o said.next.letter (is_waiting accs i a t a.part live.state (ap state_number h.does.state)) said.next.of

  -- the acceptor that is learned
  abbrev p : Account
  p = sender_in accs n i o

  from : 0 < o.tunnel
  from = (h.within.accounts a.peer o.tunnel).some said.heard.made

  told : m.remote ≡ o.tunnel
  told =
      let says = first.says in
      let message = message_is in
      let same : h.does.opening ≡ first.opening = cc in
      h.does.remote ∙ ap (λ (y : Opening). y.tunnel) same ∙ first.id

  known : m.remote ≡ 0 → ⊥
  known z = let same = told in let some = from in omega arith

  found : IsLost a → ⊥
  found lost = lost_unless a first.is_open lost

  -- it isn't learned yet, nor is any other acceptor
  alone : IsAlone a p
  alone = acceptor_alone accs n i o h.within.accounts first.part first.remote first.peer
      (λ z. let none = first.none in let some = from in let no : ⊥ = omega arith in no)

  one_taken : length p.taken ≡ 1
  one_taken = alone_one a p alone found

  few_given : length p.given ≤ 2
  few_given = (alone_small a p alone).given

  some_given : 1 ≤ length p.given
  some_given = let lt = slice_get_within p.given (length a.taken) said.next.letter said.next.there in omega arith

  only : IsOnly accs ms n i
  only = only_after accs d n (move.Connected m) tt h.deed.node_is h.deed.move_is (first.none, first.is_open)

  is : ms n i ≡ b
  is = after_move accs d n (move.Connected m) tt h.deed.node_is h.deed.move_is
      ∙ takes_and_gives d n e.role sender (move.Connected m) m.taken (record a { remote = m.remote }) h.deed

  -- it is another tunnel, and stays
  stays : partner_in ms b ≡ p
  stays = ap (λ (r : ℕ). ms a.peer r) told
      ∙ only.others a.peer o.tunnel (λ both. let other = first.part in let own = first.here in
      let same = ap₂ (λ m j. (accs m j).part) both.0 both.1 in let no : ⊥ = cc in no)

  -- ---- what the two know of each other

  few_acked : t.control.channel.window.acked ≤ 1
  few_acked =
      let acks : AreAcked accs n i a t.control.channel.window.acked Opener = subst (AreAcked accs n i a t.control.channel.window.acked) first.here live.acked in
      ⊎_elim
      (λ (z : t.control.channel.window.acked ≡ 0). omega arith)
      (λ rest. ⊎_elim
      (λ (z : IsAnswered accs n i a t.control.channel.window.acked).
      let le = z.enough in
      let other = z.part in
      let made_there : IsMade (accs a.peer z.acceptor) = λ none. (let no : ⊥ = cc in no) in
      let some = (h.within.accounts a.peer z.acceptor).some made_there in
      let it : ControlOrigin = record { tunnel = z.acceptor; ns = 0; nr = 0; empty = true } in
      let only_one = alone_one a (accs a.peer z.acceptor)
      (acceptor_alone accs n i it h.within.accounts z.part z.remote z.peer (λ q. let none = first.none in let no : ⊥ = omega arith in no)) found in
      omega arith)
      -- its SCCRQ alone was declined
      (λ (z : (t.control.channel.window.acked ≡ 1) × (a.declined ≡ true)). let one = z.0 in omega arith)
      rest)
      (acks.0 first.none)

  nothing_before : length a.taken ≡ 0
  nothing_before = ap (λ (ts : List Taken). length ts) first.nothing

  one_now : length b.taken ≡ 1
  one_now = let none = nothing_before in rw length-append (omega arith)

  more_given : length b.given ≡ length a.given + 1
  more_given = length-append a.given (last ∷ [])

  room : t.control.channel.window.queued < 8192
  room = ltb-true t.control.channel.window.queued 8192 h.does.room

  joined : AreJoined b p
  joined =
      let counted = live.counted in
      record {
        here = inl (omega (arith, one_now, some_given));
        there = omega (arith, one_taken, more_given);
        few_here = omega (arith, more_given, few_acked, room, one_taken);
        few_there = omega (arith, one_now, few_given);
      }

  joined_now : AreJoined b (partner_in ms b)
  joined_now = rw stays joined

  -- ---- its account

  opener : IsOpener ms n i b
  opener =
      let before = opener_of accs n i a ok first.here in
      record {
        begins = begins_on i _ a.given (last ∷ []) (tt, tt) before.begins;
        none = λ z. absurd (known z);
        one_given = λ z. absurd (known z);
        some = λ z. omega (arith, one_now);
        part = λ z. ap (λ (y : Account). y.part) stays ∙ first.part;
        peer = λ z. ap (λ (y : Account). y.peer) stays ∙ first.peer;
        remote = λ z. ap (λ (y : Account). y.remote) stays ∙ first.remote;
        joined = λ z. joined_now;
        early = λ z. (let open_is = first.is_open in let no : ⊥ = cc in absurd no);
      }

  -- the SCCRP that was taken
  newly_taken : IsTaken ms b (length a.taken) tk
  newly_taken = record {
    numbered = ap (λ (q : Place). q.number) h.does.takes.taken_is ∙ live.taken;
    partner = record { node = a.peer; tunnel = m.remote };
    learned = rw (ne_eqb m.remote 0 known) refl;
    sender = said.heard.sender_is ∙ ap (λ (r : ℕ). Some (record { node = a.peer; tunnel = r })) (sym told);
    letter = said.next.letter;
    there = rw stays said.next.there;
    tells = (h.does.opening, message_is, h.does.remote, h.does.window);
  }

  taken : AreTaken ms b
  taken number y got lt = ⊎_elim
      (λ (q : slice_get a.taken number ≡ Some y). let none = first.nothing in let g = rw none at q in let no : ⊥ = cc in absurd no)
      (λ (q : (number ≡ length a.taken) × (tk ≡ y)). rw (q.0, ← q.1) newly_taken)
      (got_push a.taken tk number y got)

  -- it ignores nothing
  ignored : AreIgnored b
  ignored number y got le =
      let lt = slice_get_within b.taken number y got in
      let all = heeded_open b first.is_open in
      absurd (omega (arith, lt, all, le))

  account : AccountOk ms n i b
  account = record {
    part = subst (IsPart ms n i b) (sym first.here) opener;
    some = ok.some;
    id = ok.id;
    node = ok.node;
    peer = ok.peer;
    remote = (let fits = (h.within.accounts a.peer o.tunnel).id said.heard.made in let same = told in omega arith);
    spelled = all_append IsSpelled a.given (last ∷ []) ok.spelled (record { written = responds_sized 3 e.config.secret h.does.opening.challenge m.response h.does.responds; hides = tt; session = omega arith }, tt);
    told = all_append (λ (l : Letter). TellsOwn i l.message) a.given (last ∷ []) ok.told (tt, tt);
    taken = taken;
    ignored = ignored;
  }

  -- ---- the tunnel

  letters : u.letters ≡ map kept_letter (drop u.control.channel.window.acked b.given)
  letters =
      let counted = live.counted in
      let le : t.control.channel.window.acked ≤ length a.given = omega arith in
      ap (λ (ls : List wire.Letter). ls ++ map kept_letter (last ∷ [])) live.letters
      ∙ sym (map-append kept_letter (drop t.control.channel.window.acked a.given) (last ∷ []))
      ∙ ap (λ (ls : List Letter). map kept_letter ls) (sym (drop-append-le t.control.channel.window.acked a.given (last ∷ []) le))
      ∙ ap (λ (j : ℕ). map kept_letter (drop j b.given)) (sym learns.acked)

  still_live : LiveOk ms n i b u
  still_live =
      let counted = live.counted in
      let out = live.outstanding in
      let most = room in
      let acks = learns.acked in
      let queued = learns.queued in
      let outstanding = learns.outstanding in
      let counts = learns.taken in
      let before = live.taken in
      let none = nothing_before in
      let fits = h.counts i t h.does.there in
      record {
        local = learns.local ∙ live.local;
        peer = learns.peer ∙ live.peer;
        remote = learns.remote;
        state = subst (IsInState ms i b u) (sym first.here) (inr (inl (ap state_number learns.state, known, first.is_open)));
        letters = letters;
        counted = omega (arith, more_given);
        few = omega arith;
        outstanding = omega arith;
        taken = omega (arith, one_now);
        acked = subst (AreAcked ms n i b u.control.channel.window.acked) (sym first.here)
            ((λ z. absurd (known z)), (λ z. rw stays (omega (arith, few_acked, one_taken))));
        calls = live.calls;
        order = live.order;
        recovery = live.recovery;
        query = live.query;
      }

  near : IsNear b u o
  near = let acks = learns.acked in let few = few_acked in record { taken = omega (arith, one_now); acked = omega arith }

  -- ---- no other tunnel has this partner

  partner_elsewhere : (j : ℕ) → accs a.peer o.tunnel ≡ partner_in accs (accs n j) → IsMade (accs n j) → ((accs n j).remote ≡ 0 → ⊥) → j ≡ i
  partner_elsewhere j same there some =
      let it = h.within.accounts n j in
      ⊎_elim
      (λ (q : (accs n j).part ≡ Opener).
      sym ((opener_of accs n j (accs n j) it q).remote some) ∙ sym (ap (λ (y : Account). y.remote) same) ∙ first.remote)
      (λ (q : (accs n j).part ≡ Acceptor).
      let mate = (acceptor_of accs n j (accs n j) it q).part in
      let other = first.part in
      let p = ap (λ (y : Account). y.part) same in
      let no : ⊥ = cc in absurd no)
      (part_cases (accs n j).part there)

  apart : (j : ℕ) (v : Tunnel) → at e.tunnels j ≡ Some v → u.control.peer ≡ v.control.peer → u.control.remote ≡ v.control.remote
      → (u.control.remote ≡ 0 → ⊥) → j ≡ i
  apart j v f peer remote some =
      let it = h.within.end.live j v f in
      let same_peer : (accs n j).peer ≡ a.peer = same_address (accs n j).peer a.peer (sym it.peer ∙ sym peer ∙ learns.peer ∙ live.peer) in
      let same_remote : (accs n j).remote ≡ o.tunnel = sym it.remote ∙ sym remote ∙ learns.remote ∙ told in
      partner_elsewhere j (sym (ap₂ accs same_peer same_remote)) (live_made accs n j (accs n j) v it)
      (λ z. some (remote ∙ it.remote ∙ z))

  put_of_it : IsPut accs ms n e x sender ev i u
  put_of_it = record {
    within = h.within;
    only = only;
    end = put_of e x e.calls i u h.does.after;
    drawn = subst (λ (y : End). i < y.tunnel_ids.next) (sym h.does.after) (h.within.end.drawn i made);
    account = rw is account;
    live = rw is still_live;
    joined = λ own names. (let other : b.part ≡ Acceptor = rw is at own in let here = first.here in let no : ⊥ = cc in absurd no);
    apart = apart;
    near = said.heard.again ms i u (rw is near);
  }

  pub connected_keeps : Within (after accs d) n x sender ev
  connected_keeps = puts_keep accs ms n e x sender ev i u put_of_it
