-- The moves of a tunnel that takes a letter of the partner that it has learned keep what holds.
use Rattle.std.proofs.Common.{◌≡◌, ◌⊎◌, inl, inr, ⊎_elim, ℕ, ◌+◌, ◌^◌, ◌<◌, true, List, [], ◌∷◌, refl, sym, ap, ◌∙◌, subst, append-nil, Option, Some, Ok, arith, ne_eqb, None}
use Rattle.std.proofs.lemmas.Bool.{ltb-true}
use Rattle.std.specs.List.{AllByRecursion}
use Rattle.id_table.specs.Ids.{at, put, without}
use Rattle.id_table.specs.Order.{Ascends, ascends-put, found_put, ascends-without, found_without, same_or_not}
use Rattle.id_source.specs.Spaces.{Space, takes_id, after_id, draw_is, next_is}
use Rattle.control_message.specs.declared.message.Message.{Message}
use Rattle.control_message.specs.declared.message.Message.TheVariants.{Scccn, Icrq, Icrp, Iccn, Cdn}
use Rattle.recv_window.specs.Window.{ClassIsTrue}
use Rattle.tunnel_fsm.specs.declared.table.TunnelState.{TunnelState}
use Rattle.tunnel_fsm.specs.declared.table.TunnelState.TheVariants.{Established}
use Rattle.tunnel_fsm.specs.Rows.{state_number}
use Rattle.call_fsm.specs.declared.table.CallEvent.{CallEvent}
use Rattle.call_fsm.specs.declared.table.CallEvent.TheVariants as call_event
use Rattle.end_model.specs.declared.event.Event.{Event}
use Rattle.end_model.specs.declared.moves.Confirmed.{Confirmed}
use Rattle.end_model.specs.declared.moves.EndHeard.{EndHeard}
use Rattle.end_model.specs.declared.moves.FirstUp.{FirstUp}
use Rattle.end_model.specs.declared.moves.Replied.{Replied}
use Rattle.end_model.specs.declared.moves.SecondUp.{SecondUp}
use Rattle.end_model.specs.declared.moves.Place.{Place}
use Rattle.end_model.specs.declared.moves.Move.{Move}
use Rattle.end_model.specs.declared.moves.Move.TheVariants as move
use Rattle.end_model.specs.declared.tunnel.Call.{Call}
use Rattle.end_model.specs.declared.tunnel.CallPlace.{CallPlace}
use Rattle.end_names.specs.declared.role.Role.{Role}
use Rattle.end_model.specs.Calls.{advanced, with_numbers, asked_for}
use Rattle.end_model.specs.Tunnels.{Tunnel}
use Rattle.end_model.specs.Channels.{has_room, taken_place, counts_taken}
use Rattle.end_model.specs.Openings.{in_state}
use Rattle.end_model.specs.Messages.{connection}
use Rattle.end_model.specs.Asking.{session_named}
use Rattle.end_model.specs.Links.{with_link}
use Rattle.end_model.specs.End.{End}
use Rattle.world_model.specs.World.{Sender, Deed}
use Rattle.step_laws.specs.Letters.{Letter}
use Rattle.call_link.specs.Link.{new_link}
use Rattle.step_laws.specs.Moves.{HearsNext, heard_so, with_tunnel, with_letter_as}
use Rattle.l2tp_header.specs.declared.header.Header.{Header}
use Rattle.l2tp_header.specs.Reading.{body_of}
use Rattle.frame_laws.specs.Codecs.{Codecs}
use Rattle.frame_laws.specs.Plain.{AreAlike}
use Rattle.frame_laws.specs.Written.{IsWritten}
use Rattle.connection_laws.specs.Facts.{Accounts, IsNoOpening, IsNoStop, IsStopCcn, IsSpelled, TellsOwn, Tells, LiveOk, Within}
use Rattle.connection_laws.proofs.Keeps.{after, IsMoved}
use Rattle.connection_laws.proofs.Puts.{IsOnly, EndPut}
use Rattle.connection_laws.proofs.Later.{after_move, only_after}
use Rattle.connection_laws.proofs.Said.{no_stop_is}
use Rattle.connection_laws.proofs.Alike.{stop_alike, alike_back, same_alike, request_alike, read_written}
use Rattle.connection_laws.proofs.Hearing.{said_in, Heard}
use Rattle.connection_laws.proofs.NextHeard.{HeardNext, said_so}
use Rattle.connection_laws.proofs.Acknowledging.{put_of}
use Rattle.connection_laws.proofs.Taking.{with_taken, taken_as, takes_only, takes_and_gives, TakesOn, paired_if, pair_takes}

-- ---- the tunnel that is left

-- the state may change, and the calls
abbrev pub took : Tunnel → TunnelState → List (ℕ × Call) → Tunnel
took t s calls = record t { control = counts_taken (in_state s t.control); calls = calls }

-- what its calls are to be
pub record AreCalls (calls : List (ℕ × Call)) : Type 0 where
  pub remotes : (s : ℕ) (c : Call) → at calls s ≡ Some c → c.remote < 65536
  pub order : Ascends calls

module _ (accs : Accounts) (n i : ℕ) (t : Tunnel) (live : LiveOk accs n i (accs n i) t) (fits : t.control.channel.inbox.taken + 1 < 2 ^ 64)
    (s : TunnelState) (calls : List (ℕ × Call)) (are : AreCalls calls)
    (state : (state_number s ≡ 3) ⊎ ((s ≡ t.control.state) × (calls ≡ t.calls))) where
  pub took_on : TakesOn t (took t s calls) []
  took_on = record {
    local = refl;
    peer = refl;
    remote = refl;
    state = state;
    letters = sym (append-nil t.letters);
    acked = refl;
    queued = omega arith;
    few = live.few;
    outstanding = live.outstanding;
    taken = omega arith;
    calls = are.remotes;
    order = are.order;
    recovery = refl;
    query = refl;
  }

  -- it is given a letter too
  pub took_and_given : (l : Letter) → has_room t.control ≡ true → TakesOn t (with_letter_as l.session l.message l.hidden (took t s calls)) (l ∷ [])
  took_and_given l room =
      let lt = ltb-true t.control.channel.window.queued 8192 room in
      let out = live.outstanding in
      record {
        local = refl;
        peer = refl;
        remote = refl;
        state = state;
        letters = refl;
        acked = refl;
        queued = refl;
        few = omega arith;
        outstanding = omega arith;
        taken = omega arith;
        calls = are.remotes;
        order = are.order;
        recovery = refl;
        query = refl;
      }

calls_put : (calls : List (ℕ × Call)) (s : ℕ) (k : Call) → AreCalls calls → k.remote < 65536 → AreCalls (put calls s k)
calls_put calls s k olds fits = record {
  remotes = λ q c f.
      ⊎_elim (λ (a : (q ≡ s) × (k ≡ c)). rw (← a.1) fits) (λ a. olds.remotes q c a.1) (found_put calls s k q c f);
  order = ascends-put s k calls olds.order;
}

calls_without : (calls : List (ℕ × Call)) (s : ℕ) → AreCalls calls → AreCalls (without calls s)
calls_without calls s olds = record {
  remotes = λ q c f. olds.remotes q c (found_without calls s q c olds.order f).1;
  order = ascends-without s calls olds.order;
}

advanced_remote : (r : Role) (ev : CallEvent) (moment : ℕ) (c : Call) → (advanced r ev moment c).remote ≡ c.remote
unfolding advanced
advanced_remote r ev moment c = refl

asked_remote : (r : Role) (remote moment : ℕ) → (asked_for r remote moment).remote ≡ remote
unfolding asked_for advanced
asked_remote r remote moment = refl

-- ---- what is heard

-- the next letter of the partner that was learned is taken
module _ (accs : Accounts) (n : ℕ) (e : End) (sender : Option Sender) (ev : Event) (within : Within accs n e sender ev) (i : ℕ) (t : Tunnel)
    (there : at e.tunnels i ≡ Some t) (h : Header) (bytes : List ℕ) (heard : Heard accs n e sender ev within.comes i t h bytes)
    (next : HeardNext accs n i heard.o h bytes) where
  pub letter_takes : (state_number t.control.state ≡ 1 → ⊥) → (state_number t.control.state ≡ 4 → ⊥) → (IsStopCcn next.letter.message → ⊥)
      → (ms : Accounts) (x : End) (u : Tunnel) (mv : Move) (place : Place) (more : List Letter) → place ≡ taken_place t.control
      → Tells next.letter mv → TakesOn t u more → IsOnly accs ms n i → ms n i ≡ with_taken (taken_as sender place mv) more (accs n i)
      → AllByRecursion IsSpelled more → AllByRecursion (λ (l : Letter). IsNoOpening l.message) more
      → AllByRecursion (λ (l : Letter). TellsOwn i l.message) more → EndPut e x i u → Within ms n x sender ev
  letter_takes other unclosed no_stop ms x u mv place more taken tells goes only is spelled plain own put_is =
      let pair = paired_if accs n i heard.o t next.letter (within.end.live i t there) unclosed (λ one. absurd (other one)) no_stop next.of in
      pair_takes accs ms n e x sender ev i t u (taken_as sender place mv) more h bytes (record {
        within = within;
        there = there;
        unclosed = unclosed;
        heard = heard;
        next = next;
        pair = pair.0;
        told = pair.1;
        number = ap (λ (p : Place). p.number) taken;
        sender_is = refl;
        tells = tells;
        goes = goes;
        only = only;
        is = is;
        spelled = spelled;
        plain = plain;
        own = own;
        put_is = put_is;
      })

module _ (codecs : Codecs) (classes : ClassIsTrue) (accs : Accounts) (n : ℕ) (e : End) (sender : Option Sender) (ev : Event)
    (within : Within accs n e sender ev) (i : ℕ) (t : Tunnel) (there : at e.tunnels i ≡ Some t) (session : ℕ) (m : Message)
    (k : HearsNext ev t session m) where
  pub said_written : IsNoStop m → IsWritten m
  said_written no_stop =
      let s = said_so codecs classes accs n e sender ev within i t there session m no_stop k in
      read_written s.next.letter.message (body_of k.next.comes.came.bytes k.letter.header) s.next.reads m
      (said_in ev k.letter k.next.comes.came m k.says.said)

  -- it is a letter of the partner that was learned
  pub said_takes : (state_number t.control.state ≡ 1 → ⊥) → (state_number t.control.state ≡ 4 → ⊥) → IsNoStop m
      → (ms : Accounts) (x : End) (u : Tunnel) (mv : Move) (place : Place) (more : List Letter)
      → place ≡ taken_place t.control → ((l : Letter) → l.session ≡ session → AreAlike l.message m → Tells l mv) → TakesOn t u more → IsOnly accs ms n i
      → ms n i ≡ with_taken (taken_as sender place mv) more (accs n i) → AllByRecursion IsSpelled more
      → AllByRecursion (λ (l : Letter). IsNoOpening l.message) more → AllByRecursion (λ (l : Letter). TellsOwn i l.message) more → EndPut e x i u
      → Within ms n x sender ev
  said_takes other unclosed no_stop ms x u mv place more taken tells goes only is spelled plain own put_is =
      let s = said_so codecs classes accs n e sender ev within i t there session m no_stop k in
      letter_takes accs n e sender ev within i t there k.letter.header k.next.comes.came.bytes s.heard s.next other unclosed
      (λ stops. no_stop_is m no_stop (stop_alike m s.next.letter.message (alike_back s.next.letter.message m s.message) stops))
      ms x u mv place more taken (tells s.next.letter s.session_is s.message) goes only is spelled plain own put_is

-- an open tunnel waits for no SCCRP, nor does one that waits for its SCCCN
pub open_so : (t : Tunnel) → state_number t.control.state ≡ 3 → state_number t.control.state ≡ 1 → ⊥
open_so t three one = let no : ⊥ = omega arith in no

-- nor is it closed
pub unclosed_so : (t : Tunnel) → state_number t.control.state ≡ 3 → state_number t.control.state ≡ 4 → ⊥
unclosed_so t three four = let no : ⊥ = omega arith in no

-- a session id was drawn too
replied_put : (e x : End) (places : List (ℕ × CallPlace)) (i : ℕ) (u : Tunnel) (s : ℕ) → takes_id e.session_ids ≡ Ok s
    → x ≡ record (with_tunnel e i u) { session_ids = after_id e.session_ids; calls = places } → EndPut e x i u
replied_put e x places i u s drawn is =
    let id = (draw_is e.session_ids s drawn).0 in
    subst (λ (y : End). EndPut e y i u)
    (sym (is ∙ ap (λ (q : Space). record (with_tunnel e i u) { session_ids = q; calls = places }) (next_is e.session_ids s drawn)))
    (record {
      role = refl;
      config = refl;
      tunnels = refl;
      next = omega arith;
      last = refl;
      sessions = omega arith;
      last_session = refl;
    })

-- a CDN's header names the call that ends, or none
header_names : (calls : List (ℕ × Call)) (session remote s : ℕ) → s ≡ session_named calls session remote → (session ≡ s) ⊎ (session ≡ 0)
unfolding session_named
header_names calls session remote s named = ⊎_elim
    (λ (none : session ≡ 0). inr none)
    (λ (other : session ≡ 0 → ⊥). inl (sym (rw (ne_eqb session 0 other) at named)))
    (same_or_not session 0)

-- ---- the moves

module _ (codecs : Codecs) (classes : ClassIsTrue) (accs : Accounts) (n : ℕ) (e x : End) (sender : Option Sender) (moment : ℕ) (ev : Event) (d : Deed) where
  pub confirmed_keeps : (m : Confirmed) → IsMoved accs n e x sender moment ev (move.Confirmed m) d → Within (after accs d) n x sender ev
  confirmed_keeps m h =
      let o = h.does in
      let t = o.tunnel in
      let mv = move.Confirmed m in
      let live = h.within.end.live m.tunnel t o.there in
      let u = took t Established t.calls in
      said_takes codecs classes accs n e sender ev h.within m.tunnel t o.there o.letter.header.session (Scccn o.response) (heard_so ev t o.letter (Scccn o.response) o.takes.next o.said)
      (λ s. let is = o.state in let two = ap state_number is in let no : ⊥ = omega arith in no)
      (λ s. let is = o.state in let two = ap state_number is in let no : ⊥ = omega arith in no) tt
      (after accs d) x u mv m.taken [] o.takes.taken_is (λ l s says. (o.response, same_alike l.message (Scccn o.response) says tt))
      (took_on accs n m.tunnel t live (h.counts m.tunnel t o.there) Established t.calls (record { remotes = live.calls; order = live.order }) (inl refl))
      (only_after accs d n mv tt h.deed.node_is h.deed.move_is tt)
      (after_move accs d n mv tt h.deed.node_is h.deed.move_is ∙ takes_only d n e.role sender mv m.taken (accs n m.tunnel) h.deed)
      tt tt tt (put_of e x e.calls m.tunnel u o.after)

  pub end_heard_keeps : (m : EndHeard) → IsMoved accs n e x sender moment ev (move.EndHeard m) d → Within (after accs d) n x sender ev
  end_heard_keeps m h =
      let o = h.does in
      let t = o.tunnel in
      let mv = move.EndHeard m in
      let live = h.within.end.live m.tunnel t o.there in
      let u = took t t.control.state (without t.calls m.session) in
      said_takes codecs classes accs n e sender ev h.within m.tunnel t o.there o.letter.header.session (Cdn o.remote o.code o.error) (heard_so ev t o.letter (Cdn o.remote o.code o.error) o.takes.next o.said)
      (open_so t o.open_is) (unclosed_so t o.open_is) tt
      (after accs d) x u mv m.taken [] o.takes.taken_is
      (λ l s says. (
        ⊎_elim (λ (is : o.letter.header.session ≡ m.session). inl (s ∙ is)) (λ (none : o.letter.header.session ≡ 0). inr (s ∙ none))
            (header_names t.calls o.letter.header.session o.remote m.session o.session_is),
        (o.remote, o.code, o.error, same_alike l.message (Cdn o.remote o.code o.error) says tt),
      ))
      (took_on accs n m.tunnel t live (h.counts m.tunnel t o.there) t.control.state (without t.calls m.session)
      (calls_without t.calls m.session (record { remotes = live.calls; order = live.order })) (inl o.open_is))
      (only_after accs d n mv tt h.deed.node_is h.deed.move_is tt)
      (after_move accs d n mv tt h.deed.node_is h.deed.move_is ∙ takes_only d n e.role sender mv m.taken (accs n m.tunnel) h.deed)
      tt tt tt (put_of e x _ m.tunnel u o.after)

  pub second_up_keeps : (m : SecondUp) → IsMoved accs n e x sender moment ev (move.SecondUp m) d → Within (after accs d) n x sender ev
  second_up_keeps m h =
      let o = h.does in
      let t = o.tunnel in
      let mv = move.SecondUp m in
      let live = h.within.end.live m.tunnel t o.there in
      let call = with_link (new_link (record { moment = moment; block = o.block })) (with_numbers m.sequenced (advanced e.role call_event.IccnAcc moment o.call)) in
      let u = took t t.control.state (put t.calls m.session call) in
      said_takes codecs classes accs n e sender ev h.within m.tunnel t o.there m.session (Iccn o.speed o.framing m.sequenced)
      (record { letter = o.letter; next = o.takes.next; says = o.says })
      (open_so t o.open_is) (unclosed_so t o.open_is) tt
      (after accs d) x u mv m.taken [] o.takes.taken_is (λ l s says. (s, (o.speed, o.framing, same_alike l.message (Iccn o.speed o.framing m.sequenced) says tt)))
      (took_on accs n m.tunnel t live (h.counts m.tunnel t o.there) t.control.state (put t.calls m.session call)
      (calls_put t.calls m.session call (record { remotes = live.calls; order = live.order })
      (rw (advanced_remote e.role call_event.IccnAcc moment o.call) (live.calls m.session o.call o.made)))
      (inl o.open_is))
      (only_after accs d n mv tt h.deed.node_is h.deed.move_is tt)
      (after_move accs d n mv tt h.deed.node_is h.deed.move_is ∙ takes_only d n e.role sender mv m.taken (accs n m.tunnel) h.deed)
      tt tt tt (put_of e x _ m.tunnel u o.after)

  pub first_up_keeps : (m : FirstUp) → IsMoved accs n e x sender moment ev (move.FirstUp m) d → Within (after accs d) n x sender ev
  first_up_keeps m h =
      let o = h.does in
      let t = o.tunnel in
      let mv = move.FirstUp m in
      let live = h.within.end.live m.tunnel t o.there in
      let fits = (said_written codecs classes accs n e sender ev h.within m.tunnel t o.there m.session (Icrp m.remote)
      (record { letter = o.letter; next = o.takes.next; says = o.says }) tt).0 in
      let call = advanced e.role call_event.IcrpAcc moment (record o.call { remote = m.remote }) in
      let calls = put t.calls m.session call in
      let l : Letter = record { tunnel = m.tunnel; place = m.given; session = m.remote; message = connection; hidden = None } in
      let u = with_letter_as l.session l.message l.hidden (took t t.control.state calls) in
      said_takes codecs classes accs n e sender ev h.within m.tunnel t o.there m.session (Icrp m.remote)
      (record { letter = o.letter; next = o.takes.next; says = o.says })
      (open_so t o.open_is) (unclosed_so t o.open_is) tt
      (after accs d) x u mv m.taken (l ∷ []) o.takes.taken_is (λ l s says. (s, same_alike l.message (Icrp m.remote) says tt))
      (took_and_given accs n m.tunnel t live (h.counts m.tunnel t o.there) t.control.state calls
      (calls_put t.calls m.session call (record { remotes = live.calls; order = live.order })
      (rw (advanced_remote e.role call_event.IcrpAcc moment (record o.call { remote = m.remote })) (omega arith)))
      (inl o.open_is) l o.room)
      (only_after accs d n mv tt h.deed.node_is h.deed.move_is tt)
      (after_move accs d n mv tt h.deed.node_is h.deed.move_is ∙ takes_and_gives d n e.role sender mv m.taken (accs n m.tunnel) h.deed)
      (record { written = (omega arith, omega arith, refl); hides = tt; session = omega arith }, tt) (tt, tt) (tt, tt) (put_of e x _ m.tunnel u o.after)

  pub replied_keeps : (m : Replied) → IsMoved accs n e x sender moment ev (move.Replied m) d → Within (after accs d) n x sender ev
  replied_keeps m h =
      let o = h.does in
      let t = o.tunnel in
      let mv = move.Replied m in
      let live = h.within.end.live m.tunnel t o.there in
      let fits = (said_written codecs classes accs n e sender ev h.within m.tunnel t o.there o.letter.header.session (Icrq m.remote o.serial o.calling)
      (heard_so ev t o.letter (Icrq m.remote o.serial o.calling) o.takes.next o.said) tt).0 in
      let drawn = draw_is e.session_ids m.session o.drawn in
      let id = drawn.0 in
      let le = drawn.1 in
      let first = h.within.end.first_session in
      let last = h.within.end.last_session in
      let call = asked_for e.role m.remote moment in
      let calls = put t.calls m.session call in
      let l : Letter = record { tunnel = m.tunnel; place = m.given; session = m.remote; message = Icrp m.session; hidden = None } in
      let u = with_letter_as l.session l.message l.hidden (took t t.control.state calls) in
      said_takes codecs classes accs n e sender ev h.within m.tunnel t o.there o.letter.header.session (Icrq m.remote o.serial o.calling)
      (heard_so ev t o.letter (Icrq m.remote o.serial o.calling) o.takes.next o.said)
      (open_so t o.open_is) (unclosed_so t o.open_is) tt
      (after accs d) x u mv m.taken (l ∷ []) o.takes.taken_is (λ l s says. let r = request_alike l.message m.remote o.serial o.calling says in (o.serial, r.calling, r.is))
      (took_and_given accs n m.tunnel t live (h.counts m.tunnel t o.there) t.control.state calls
      (calls_put t.calls m.session call (record { remotes = live.calls; order = live.order }) (rw (asked_remote e.role m.remote moment) (omega arith)))
      (inl o.open_is) l o.room)
      (only_after accs d n mv tt h.deed.node_is h.deed.move_is tt)
      (after_move accs d n mv tt h.deed.node_is h.deed.move_is ∙ takes_and_gives d n e.role sender mv m.taken (accs n m.tunnel) h.deed)
      (record { written = (omega arith, omega arith); hides = tt; session = omega arith }, tt) (tt, tt) (tt, tt) (replied_put e x _ m.tunnel u m.session o.drawn o.after)
