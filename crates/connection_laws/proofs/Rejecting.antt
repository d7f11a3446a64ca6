-- An opener takes the SCCRP of an acceptor of its SCCRQ, and rejects it: it learns its id, and is closed.
use Rattle.std.proofs.Common.{◌⊎◌, Ok, ◌≡◌, inl, inr, ⊎_elim, ℕ, ◌+◌, ◌<◌, ◌≤◌, true, List, [], ◌∷◌, ◌++◌, map, drop, length, refl, sym, ap, ap₂, ◌∙◌, subst, Option, Some, arith, None}
use Rattle.std.proofs.lemmas.Bool.{ltb-true}
use Rattle.std.proofs.lemmas.Option.{none-some, slice_get_within}
use Rattle.std.proofs.lemmas.List.{length-append, map-append, drop-append-le}
use Rattle.std.specs.Prelude.{slice_get}
use Rattle.id_table.specs.Ids.{at-none, at}
use Rattle.wire_base.specs.declared.letter.Letter as wire
use Rattle.control_message.specs.declared.message.Message.TheVariants.{Sccrq, StopCcn, Sccrp, Scccn, Fsr}
use Rattle.control_message.specs.declared.message.Opening.{Opening}
use Rattle.recv_window.specs.Window.{ClassIsTrue}
use Rattle.tunnel_fsm.specs.declared.table.TunnelState.TheVariants as state
use Rattle.end_model.specs.declared.event.Event.{Event}
use Rattle.end_model.specs.declared.moves.Move.TheVariants as move
use Rattle.end_model.specs.declared.out.ControlOrigin.{ControlOrigin}
use Rattle.end_model.specs.Tunnels.{Tunnel}
use Rattle.end_model.specs.Channels.{counts_taken}
use Rattle.end_model.specs.End.{End}
use Rattle.world_model.specs.World.{Sender, Deed}
use Rattle.step_laws.specs.Letters.{Letter}
use Rattle.step_laws.specs.Moves.{LetterCloses, BySccrq, BySccrp, ByScccn, ByFault, with_letter, ByUnasked, heard_from}
use Rattle.frame_laws.specs.Codecs.{Codecs}
use Rattle.connection_laws.specs.Accounts.{Opener, Acceptor, Taken, Account}
use Rattle.connection_laws.specs.Facts.{IsClosed, IsIgnored, Accounts, IsMade, TellsOwn, AreTaken, AreIgnored, IsLost, AreJoined, partner_in, IsPart, IsOpener, AccountOk, IsSpelled, kept_letter, IsAnswered, AreAcked, LiveOk, IsNear, Within}
use Rattle.connection_laws.proofs.Keeps.{after, IsMoved}
use Rattle.connection_laws.proofs.Puts.{IsOnly, IsPut}
use Rattle.connection_laws.proofs.Later.{live_made, after_move, only_after}
use Rattle.connection_laws.proofs.Put.{puts_keep}
use Rattle.connection_laws.proofs.States.{heeded_closed, shut_stands, is_waiting, lost_unless}
use Rattle.connection_laws.proofs.Hearing.{same_address, part_cases, opener_of, acceptor_of, sender_in, said_in}
use Rattle.connection_laws.proofs.NextHeard.{IsAlone, alone_small, alone_one, acceptor_alone}
use Rattle.connection_laws.proofs.Acknowledging.{put_of}
use Rattle.connection_laws.proofs.Taking.{all_append, got_push, begins_on, with_taken, taken_as, takes_and_gives}
use Rattle.id_table.specs.Order.{ascends-empty}
use Rattle.control_message.specs.declared.message.Message.{Message}
use Rattle.l2tp_header.specs.declared.header.Header.{Header}
use Rattle.l2tp_header.specs.Reading.{body_of}
use Rattle.end_model.specs.Reading.{message_in}
use Rattle.end_model.specs.declared.moves.Rejected.{Rejected}
use Rattle.step_laws.specs.Codes.{CodesFit, letter_codes_fit}
use Rattle.connection_laws.proofs.Connecting.{IsFirst, first_if}
use Rattle.connection_laws.proofs.Closing.{stop_behind}
use Rattle.connection_laws.proofs.Plainly.{CameCopy, CameRefusal, came}
use Rattle.connection_laws.proofs.AnyHeard.{none_is_faulty_in_tunnel, hears_written}
use Rattle.connection_laws.proofs.Alike.{IsNoRequest, read_same}

module _ (codecs : Codecs) (classes : ClassIsTrue) (accs : Accounts) (n : ℕ) (e x : End) (sender : Option Sender) (moment : ℕ) (ev : Event) (d : Deed)
    (m : Rejected) (h : IsMoved accs n e x sender moment ev (move.Rejected m) d) where
  abbrev ms : Accounts
  ms = after accs d

  abbrev i : ℕ
  i = m.tunnel

  abbrev t : Tunnel
  t = h.does.tunnel

  abbrev a : Account
  a = accs n i

  -- the StopCCN
  abbrev last : Letter
  last = record { tunnel = m.tunnel; place = m.given; session = 0; message = StopCcn m.tunnel m.result m.error; hidden = None }

  abbrev tk : Taken
  tk = taken_as sender m.taken (move.Rejected m)

  abbrev b : Account
  b = with_taken tk (last ∷ []) (record a { remote = m.remote; closed = Some (length a.taken) })

  abbrev u : Tunnel
  u = record (with_letter 0 (StopCcn m.tunnel m.result m.error) (record t {
    control = record (counts_taken t.control) { state = state.Closed; remote = m.remote; closed = moment };
  })) { calls = [] }

  live : LiveOk accs n i a t
  live = h.within.end.live i t h.does.there

  ok : AccountOk accs n i a
  ok = h.within.accounts n i

  made : IsMade a
  made = live_made accs n i a t live

  abbrev bytes : List ℕ
  bytes = h.does.takes.next.comes.came.bytes

  abbrev header : Header
  header = h.does.letter.header

  -- the letter that it takes says what closes it
  there : (q : Message) → message_in h.does.letter.body ≡ Ok q → message_in (body_of bytes header) ≡ Ok q
  there q said = said_in ev h.does.letter h.does.takes.next.comes.came q said

  -- it is an SCCRP, an SCCRQ or an SCCCN
  abbrev IsOpeningLetter : Message → Type 0
  IsOpeningLetter q =
      ((opening : Opening) × (q ≡ Sccrp opening) × (m.remote ≡ opening.tunnel))
      ⊎ (((opening : Opening) × (q ≡ Sccrq opening)) ⊎ ((response : Option (List ℕ)) × (q ≡ Scccn response)))

  says_so : (q : Message) × IsOpeningLetter q × (message_in (body_of bytes header) ≡ Ok q)
  says_so = by h.does.why
    where
      by : LetterCloses e.config.secret t.control t.query h.does.letter h.does.on m.remote m.result m.error
          → (q : Message) × IsOpeningLetter q × (message_in (body_of bytes header) ≡ Ok q)
      by (BySccrq opening said on none why) = (Sccrq opening, inr (inl (opening, refl)), there (Sccrq opening) said)
      by (BySccrp opening said on tells why) = (Sccrp opening, inl (opening, refl, tells), there (Sccrp opening) said)
      by (ByScccn response said none why) = (Scccn response, inr (inr (response, refl)), there (Scccn response) said)
      by (ByFault g has on tells result error) =
          let next = h.does.takes.next in
          absurd (none_is_faulty_in_tunnel codecs accs n e sender ev h.within h.does.letter g next.comes.came next.some has)
      by (ByUnasked answers place said differs on none result error) =
          absurd (hears_written codecs accs n e sender ev h.within t.control.peer h.does.letter.header.session (Fsr answers)
          (heard_from ev t h.does.letter (Fsr answers) h.does.takes.next said))

  -- so it is no StopCCN of no tunnel
  no_refusal : CameRefusal accs n e sender ev h.within.comes i t header bytes → ⊥
  no_refusal k =
      let r = k.heard.read in
      let said = r.said in
      let so = says_so.2 in
      let same : says_so.0 ≡ StopCcn 0 r.result r.error = cc in
      ⊎_elim
      (λ (q : (opening : Opening) × (says_so.0 ≡ Sccrp opening) × (m.remote ≡ opening.tunnel)). let is = q.1 in let no : ⊥ = cc in no)
      (λ rest. ⊎_elim
      (λ (q : (opening : Opening) × (says_so.0 ≡ Sccrq opening)). let is = q.1 in let no : ⊥ = cc in no)
      (λ (q : (response : Option (List ℕ)) × (says_so.0 ≡ Scccn response)). let is = q.1 in let no : ⊥ = cc in no)
      rest)
      says_so.1

  said : CameCopy accs n e sender ev h.within.comes i t header bytes
  said = ⊎_elim
      (λ (k : CameCopy accs n e sender ev h.within.comes i t header bytes). k)
      (λ (k : CameRefusal accs n e sender ev h.within.comes i t header bytes). absurd (no_refusal k))
      (came codecs classes accs n e sender ev h.within i t h.does.there h.does.letter h.does.takes.next)

  abbrev o : ControlOrigin
  o = said.heard.o

  first : IsFirst accs n i o said.next.letter
  first = first_if accs n i t o said.next.letter (is_waiting accs i a t a.part live.state h.does.waits) said.next.of

  -- the acceptor that is learned
  abbrev p : Account
  p = sender_in accs n i o

  from : 0 < o.tunnel
  from = (h.within.accounts a.peer o.tunnel).some said.heard.made

  -- the letter is the acceptor's first, which is an SCCRP
  message : says_so.0 ≡ Sccrp first.opening
  message =
      let plain : IsNoRequest says_so.0 = ⊎_elim
      (λ (q : (opening : Opening) × (says_so.0 ≡ Sccrp opening) × (m.remote ≡ opening.tunnel)). subst IsNoRequest (sym q.1) tt)
      (λ rest. ⊎_elim
      (λ (q : (opening : Opening) × (says_so.0 ≡ Sccrq opening)). subst IsNoRequest (sym q.1) tt)
      (λ (q : (response : Option (List ℕ)) × (says_so.0 ≡ Scccn response)). subst IsNoRequest (sym q.1) tt)
      rest)
      says_so.1 in
      sym (read_same said.next.letter.message (body_of bytes header) said.next.reads says_so.0 says_so.2 plain) ∙ first.says

  told : m.remote ≡ o.tunnel
  told = ⊎_elim
      (λ (q : (opening : Opening) × (says_so.0 ≡ Sccrp opening) × (m.remote ≡ opening.tunnel)).
      let is = q.1 in
      let says = message in
      let same : q.0 ≡ first.opening = cc in
      q.2 ∙ ap (λ (y : Opening). y.tunnel) same ∙ first.id)
      (λ rest. ⊎_elim
      (λ (q : (opening : Opening) × (says_so.0 ≡ Sccrq opening)). let is = q.1 in let says = message in let no : ⊥ = cc in absurd no)
      (λ (q : (response : Option (List ℕ)) × (says_so.0 ≡ Scccn response)). let is = q.1 in let says = message in let no : ⊥ = cc in absurd no)
      rest)
      says_so.1

  known : m.remote ≡ 0 → ⊥
  known z = let same = told in let some = from in omega arith

  found : IsLost a → ⊥
  found lost = lost_unless a first.is_open lost

  -- it isn't learned yet, nor is any other acceptor
  alone : IsAlone a p
  alone = acceptor_alone accs n i o h.within.accounts first.part first.remote first.peer
      (λ z. let none = first.none in let some = from in let no : ⊥ = omega arith in no)

  one_taken : length p.taken ≡ 1
  one_taken = alone_one a p alone found

  few_given : length p.given ≤ 2
  few_given = (alone_small a p alone).given

  some_given : 1 ≤ length p.given
  some_given = let lt = slice_get_within p.given (length a.taken) said.next.letter said.next.there in omega arith

  only : IsOnly accs ms n i
  only = only_after accs d n (move.Rejected m) tt h.deed.node_is h.deed.move_is (first.none, first.is_open)

  is : ms n i ≡ b
  is = after_move accs d n (move.Rejected m) tt h.deed.node_is h.deed.move_is
      ∙ takes_and_gives d n e.role sender (move.Rejected m) m.taken (record a { remote = m.remote; closed = Some (length a.taken) }) h.deed

  -- it is another tunnel, and stays
  stays : partner_in ms b ≡ p
  stays = ap (λ (r : ℕ). ms a.peer r) told
      ∙ only.others a.peer o.tunnel (λ both. let other = first.part in let own = first.here in
      let same = ap₂ (λ m j. (accs m j).part) both.0 both.1 in let no : ⊥ = cc in no)

  -- ---- what the two know of each other

  few_acked : t.control.channel.window.acked ≤ 1
  few_acked =
      let acks : AreAcked accs n i a t.control.channel.window.acked Opener = subst (AreAcked accs n i a t.control.channel.window.acked) first.here live.acked in
      ⊎_elim
      (λ (z : t.control.channel.window.acked ≡ 0). omega arith)
      (λ rest. ⊎_elim
      (λ (z : IsAnswered accs n i a t.control.channel.window.acked).
      let le = z.enough in
      let other = z.part in
      let made_there : IsMade (accs a.peer z.acceptor) = λ none. (let no : ⊥ = cc in no) in
      let some = (h.within.accounts a.peer z.acceptor).some made_there in
      let it : ControlOrigin = record { tunnel = z.acceptor; ns = 0; nr = 0; empty = true } in
      let only_one = alone_one a (accs a.peer z.acceptor)
      (acceptor_alone accs n i it h.within.accounts z.part z.remote z.peer (λ q. let none = first.none in let no : ⊥ = omega arith in no)) found in
      omega arith)
      -- its SCCRQ alone was declined
      (λ (z : (t.control.channel.window.acked ≡ 1) × (a.declined ≡ true)). let one = z.0 in omega arith)
      rest)
      (acks.0 first.none)

  nothing_before : length a.taken ≡ 0
  nothing_before = ap (λ (ts : List Taken). length ts) first.nothing

  -- it had given its SCCRQ alone
  one_before : length a.given ≡ 1
  one_before = ⊎_elim
      (λ (one : length a.given ≡ 1). one)
      (λ (q : IsLost a × (length a.given ≤ 2)). absurd (found q.0))
      ((opener_of accs n i a ok first.here).one_given first.none)

  one_now : length b.taken ≡ 1
  one_now = let none = nothing_before in rw length-append (omega arith)

  more_given : length b.given ≡ length a.given + 1
  more_given = length-append a.given (last ∷ [])

  room : t.control.channel.window.queued < 8192
  room = ltb-true t.control.channel.window.queued 8192 h.does.room

  joined : AreJoined b p
  joined =
      let counted = live.counted in
      record {
        here = inl (omega (arith, one_now, some_given));
        there = omega (arith, one_taken, more_given);
        few_here = omega (arith, more_given, few_acked, room, one_taken);
        few_there = omega (arith, one_now, few_given);
      }

  joined_now : AreJoined b (partner_in ms b)
  joined_now = rw stays joined

  -- ---- its account

  opener : IsOpener ms n i b
  opener =
      let before = opener_of accs n i a ok first.here in
      record {
        begins = begins_on i _ a.given (last ∷ []) (tt, tt) before.begins;
        none = λ z. absurd (known z);
        one_given = λ z. absurd (known z);
        some = λ z. omega (arith, one_now);
        part = λ z. ap (λ (y : Account). y.part) stays ∙ first.part;
        peer = λ z. ap (λ (y : Account). y.peer) stays ∙ first.peer;
        remote = λ z. ap (λ (y : Account). y.remote) stays ∙ first.remote;
        joined = λ z. joined_now;
        early = λ z. (omega (arith, more_given, one_before), stop_behind a.given last one_before tt);
      }

  -- it heeds nothing
  taken : AreTaken ms b
  taken number y got lt =
      let these = heeded_closed b (length a.taken) refl in
      let none = nothing_before in
      absurd (omega (arith, lt, these, none))

  ignored : AreIgnored b
  ignored number y got le = ⊎_elim
      (λ (q : slice_get a.taken number ≡ Some y). let none = first.nothing in let g = rw none at q in let no : ⊥ = cc in absurd no)
      (λ (q : (number ≡ length a.taken) × (tk ≡ y)). subst (λ (z : Taken). IsIgnored z.move) q.1 tt)
      (got_push a.taken tk number y got)

  codes : CodesFit m.result m.error
  codes = letter_codes_fit e.config.secret t.control t.query h.does.letter h.does.on m.remote m.result m.error h.does.why

  account : AccountOk ms n i b
  account = record {
    part = subst (IsPart ms n i b) (sym first.here) opener;
    some = ok.some;
    id = ok.id;
    node = ok.node;
    peer = ok.peer;
    remote = (let fits = (h.within.accounts a.peer o.tunnel).id said.heard.made in let same = told in omega arith);
    spelled = all_append IsSpelled a.given (last ∷ []) ok.spelled (record { written = (ok.id made, codes.0, codes.1); hides = tt; session = omega arith }, tt);
    told = all_append (λ (l : Letter). TellsOwn i l.message) a.given (last ∷ []) ok.told (refl, tt);
    taken = taken;
    ignored = ignored;
  }

  -- ---- the tunnel

  letters : u.letters ≡ map kept_letter (drop u.control.channel.window.acked b.given)
  letters =
      let counted = live.counted in
      let le : t.control.channel.window.acked ≤ length a.given = omega arith in
      ap (λ (ls : List wire.Letter). ls ++ map kept_letter (last ∷ [])) live.letters
      ∙ sym (map-append kept_letter (drop t.control.channel.window.acked a.given) (last ∷ []))
      ∙ ap (λ (ls : List Letter). map kept_letter ls) (sym (drop-append-le t.control.channel.window.acked a.given (last ∷ []) le))

  closed_now : IsClosed b
  closed_now = (length a.taken, refl, omega (arith, one_now, nothing_before))

  still_live : LiveOk ms n i b u
  still_live =
      let counted = live.counted in
      let out = live.outstanding in
      let most = room in
      let before = live.taken in
      let none = nothing_before in
      let fits = h.counts i t h.does.there in
      record {
        local = live.local;
        peer = live.peer;
        remote = refl;
        state = shut_stands ms i b u a.part made (refl, closed_now, refl);
        letters = letters;
        counted = omega (arith, more_given);
        few = omega arith;
        outstanding = omega arith;
        taken = omega (arith, one_now);
        acked = subst (AreAcked ms n i b u.control.channel.window.acked) (sym first.here)
            ((λ z. absurd (known z)), (λ z. rw stays (omega (arith, few_acked, one_taken))));
        calls = λ s k f. absurd (none-some k (sym (at-none s) ∙ f));
        order = ascends-empty [] refl;
        recovery = live.recovery;
        query = live.query;
      }

  near : IsNear b u o
  near = let few = few_acked in record { taken = omega (arith, one_now); acked = omega arith }

  -- ---- no other tunnel has this partner

  partner_elsewhere : (j : ℕ) → accs a.peer o.tunnel ≡ partner_in accs (accs n j) → IsMade (accs n j) → ((accs n j).remote ≡ 0 → ⊥) → j ≡ i
  partner_elsewhere j same there some =
      let it = h.within.accounts n j in
      ⊎_elim
      (λ (q : (accs n j).part ≡ Opener).
      sym ((opener_of accs n j (accs n j) it q).remote some) ∙ sym (ap (λ (y : Account). y.remote) same) ∙ first.remote)
      (λ (q : (accs n j).part ≡ Acceptor).
      let mate = (acceptor_of accs n j (accs n j) it q).part in
      let other = first.part in
      let p = ap (λ (y : Account). y.part) same in
      let no : ⊥ = cc in absurd no)
      (part_cases (accs n j).part there)

  apart : (j : ℕ) (v : Tunnel) → at e.tunnels j ≡ Some v → u.control.peer ≡ v.control.peer → u.control.remote ≡ v.control.remote
      → (u.control.remote ≡ 0 → ⊥) → j ≡ i
  apart j v f peer remote some =
      let it = h.within.end.live j v f in
      let same_peer : (accs n j).peer ≡ a.peer = same_address (accs n j).peer a.peer (sym it.peer ∙ sym peer ∙ live.peer) in
      let same_remote : (accs n j).remote ≡ o.tunnel = sym it.remote ∙ sym remote ∙ told in
      partner_elsewhere j (sym (ap₂ accs same_peer same_remote)) (live_made accs n j (accs n j) v it)
      (λ z. some (remote ∙ it.remote ∙ z))

  put_of_it : IsPut accs ms n e x sender ev i u
  put_of_it = record {
    within = h.within;
    only = only;
    end = put_of e x _ i u h.does.after;
    drawn = subst (λ (y : End). i < y.tunnel_ids.next) (sym h.does.after) (h.within.end.drawn i made);
    account = rw is account;
    live = rw is still_live;
    joined = λ own names. (let other : b.part ≡ Acceptor = rw is at own in let here = first.here in let no : ⊥ = cc in absurd no);
    apart = apart;
    near = said.heard.again ms i u (rw is near);
  }

  pub rejected_keeps : Within (after accs d) n x sender ev
  rejected_keeps = puts_keep accs ms n e x sender ev i u put_of_it
