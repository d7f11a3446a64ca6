-- What each move leaves: the letters that its tunnel keeps may be read, and its calls have their mates.
use Rattle.std.proofs.Common.{Option, None, ◌≡◌, ◌⊎◌, inl, inr, ⊎_elim, ℕ, ◌+◌, ◌<◌, ◌≤◌, Bool, List, [], ◌∷◌, ◌++◌, length, refl, sym, ap, ◌∙◌, subst, Some, arith, Ok}
use Rattle.std.proofs.lemmas.Bool.{true≢false}
use Rattle.std.proofs.lemmas.Option.{none-some}
use Rattle.id_source.specs.Spaces.{Space, takes_id, ceiling_for, draw_is, next_is}
use Rattle.end_model.specs.declared.moves.Rejected.{Rejected}
use Rattle.end_model.specs.declared.tunnel.CallPlace.{CallPlace}
use Rattle.id_table.specs.Ids.{at, put, without}
use Rattle.id_table.specs.Order.{Ascends, ascends-empty, ascends-put, ascends-without, at_new, at_other, found_put, found_without, same_or_not}
use Rattle.wire_base.specs.declared.letter.Letter.{Letter}
use Rattle.control_message.specs.declared.message.Message.{Message}
use Rattle.control_message.specs.declared.message.Message.TheVariants.{Sccrq, Sccrp, Scccn, StopCcn, Hello, Icrq, Icrp, Cdn}
use Rattle.call_fsm.specs.declared.table.CallEvent.TheVariants as call_event
use Rattle.tunnel_fsm.specs.declared.table.TunnelState.TheVariants.{WaitCtlReply, WaitCtlConn, Established}
use Rattle.control_channel.specs.Numbers.{count_acked}
use Rattle.end_model.specs.declared.event.Event.{Event}
use Rattle.end_model.specs.declared.moves.Opened.{Opened}
use Rattle.end_model.specs.declared.moves.Accepted.{Accepted}
use Rattle.end_model.specs.declared.moves.Connected.{Connected}
use Rattle.end_model.specs.declared.moves.Confirmed.{Confirmed}
use Rattle.end_model.specs.declared.moves.Added.{Added}
use Rattle.end_model.specs.declared.moves.Requested.{Requested}
use Rattle.end_model.specs.declared.moves.Replied.{Replied}
use Rattle.end_model.specs.declared.moves.FirstUp.{FirstUp}
use Rattle.end_model.specs.declared.moves.SecondUp.{SecondUp}
use Rattle.end_model.specs.declared.moves.TookPlain.{TookPlain}
use Rattle.end_model.specs.declared.moves.NrRead.{NrRead}
use Rattle.end_model.specs.declared.moves.LetGo.{LetGo}
use Rattle.end_model.specs.declared.moves.EndTold.{EndTold}
use Rattle.end_model.specs.declared.moves.Refused.{Refused}
use Rattle.end_model.specs.declared.moves.EndHeard.{EndHeard}
use Rattle.end_model.specs.declared.moves.EndSilent.{EndSilent}
use Rattle.end_model.specs.declared.moves.Closed.{Closed}
use Rattle.end_model.specs.declared.moves.ClosedBy.{ClosedBy}
use Rattle.end_model.specs.declared.moves.Greeted.{Greeted}
use Rattle.end_model.specs.declared.moves.Repeated.{Repeated}
use Rattle.end_model.specs.declared.moves.Negotiated.{Negotiated}
use Rattle.end_model.specs.declared.moves.Counted.{Counted}
use Rattle.end_model.specs.declared.tunnel.Call.{Call}
use Rattle.end_model.specs.declared.tunnel.Control.{Control}
use Rattle.end_names.specs.declared.role.Role.{Role}
use Rattle.end_names.specs.declared.role.Role.TheVariants.{Lac, Lns}
use Rattle.end_names.specs.Names.{node_of, calling_number}
use Rattle.end_model.specs.Calls.{advanced, with_numbers, counted, rung, asked_for}
use Rattle.end_model.specs.Tunnels.{Tunnel, new_tunnel}
use Rattle.end_model.specs.Channels.{letter_of, counts_given, counts_taken, learns_window}
use Rattle.end_model.specs.Messages.{flags_of, opening_of, request_of, connection}
use Rattle.end_model.specs.Links.{with_link}
use Rattle.end_model.specs.End.{End, new_place}
use Rattle.world_model.specs.World.{World, Node, with_birth, is_born, birth_of}
use Rattle.step_laws.specs.Callers.{wanted_by_lac}
use Rattle.step_laws.specs.Moves.{heard_from, Rejects, with_tunnel, with_letter, begun, Opens, Accepts, Connects, Confirms, Adds as AddsCall, Requests, Replies, ComesUpFirst, ComesUpSecond, Refuses, TellsEnd, HearsEnd, EndsSilently, Closes, ClosesBy, Clears, Greets, TakesPlain, Reads, LetsGo, Repeats, Negotiates, Counts, without_call, without_calls}
use Rattle.call_link.specs.Link.{new_link}
use Rattle.call_link.specs.Laws.{turn_at}
use Rattle.frame_laws.specs.Plain.{number_hides}
use Rattle.frame_laws.specs.Written.{IsWritten}
use Rattle.frame_laws.proofs.Facts.{birth_in_node, Born, role_in_node, Plays, Grows, same_nodes, Mates, swapped, NamesItsCall, KnowsItsMate, CallOk, call_later, CallsOk, LetterOk, LettersOk, letters_later, TunnelOk, tunnel_later, all_push, all_drop}
use Rattle.frame_laws.proofs.Changes.{next_birth, some_birth, with_one, born_nodes, born_packets, born_count, made_count, made_nodes, made_packets, Changed, born_at, birth_there, birth_is, plays_at, role_there, grows, Adds, NextBirth, SameBirth}
use Rattle.frame_laws.proofs.Births.{not_lns, counted_after}
use Rattle.step_laws.specs.Codes.{letter_codes_fit, codes_fit, stop_codes_fit}
use Rattle.frame_laws.proofs.Refusing.{refusal_fits}
use Rattle.frame_laws.proofs.Closing.{told_fits, closing_fits}
use Rattle.frame_laws.proofs.Rows.{request_row, reply_row, second_row, rung_row}
use Rattle.frame_laws.proofs.Alike.{AreLike, like_self, AreAlike, alike_self, born_before, plays_before, alike_grows, alike_counted, node_like}
use Rattle.frame_laws.proofs.Leads.{Heard, heard_letter, At, Leads, Sets, calls_put, end_put}
pub use Rattle.frame_laws.proofs.WrittenLetters.{name_fits, asks_short, responds_sized, opening_written, request_written, asked_remote, rung_remote, asked_link, rung_link, no_calls, SameIds, learnt, letter_ok, one_more}

module _ (calm : Bool) (digits : (who : List ℕ) → length (calling_number who) ≡ 12) (n : ℕ) (z : Node) (v : World) (x : End)
    (here : At calm n z v x) (ev : Event) (heard : Heard calm v.nodes n ev) where
  -- what a move leads to
  pub record Led (w : World) (y : End) : Type 0 where
    pub at_end : At calm n z w y
    pub leads : Leads n v w x y

  role_here : (r : Role) → x.role ≡ r → here.node.end.role ≡ r
  role_here r h = ap (λ (e : End). e.role) here.end_is ∙ here.role ∙ h

  plays : (r : Role) → x.role ≡ r → Plays v.nodes n r
  plays r h = plays_at v.nodes n r here.node here.is (role_here r h)

  -- ---- nothing changes

  pub led_same : (y : End) → y ≡ x → Led v y
  led_same y same = subst (λ e. Led v e) (sym same) (record {
    at_end = here;
    leads = record {
      grows = same_nodes v.nodes;
      others = λ q o. like_self (at v.nodes q);
      olds = λ q s b h lt. h;
      backs = λ q r h. h;
      packets = refl;
      born = omega arith;
      rises = omega arith;
      climbs = omega arith;
      counted = λ few had. had;
    };
  })

  -- ---- a tunnel changes, and no call is born

  -- in a world that keeps something else of tunnels
  module _ (w : World) (alike : AreAlike v w) where
    pub led_in : (y : End) (i : ℕ) (t : Tunnel) → Sets x y i t → y.session_ids.next ≡ x.session_ids.next → TunnelOk calm v.nodes n y i t
        → Led w y
    led_in y i t sets next ok =
        let grown = alike_grows v w alike in
        let more = node_like v w alike n here.node here.is in
        record {
          at_end = record {
            node = more.more;
            is = more.there;
            end_is = more.end ∙ here.end_is;
            checkpoint_is = more.checkpoint ∙ here.checkpoint_is;
            role = here.role ∙ sym sets.role;
            end = end_put calm v.nodes w.nodes grown n x y i t here.end sets
                (tunnel_later calm v.nodes w.nodes grown n y y i t refl (omega arith) (omega arith) ok);
            births = λ s b h. rw next (here.births s b (subst (λ bs. at bs s ≡ Some b) more.births h));
          };
          leads = record {
            grows = grown;
            others = λ q o. alike.nodes q;
            olds = λ q s b h lt. born_before v w alike q s b h;
            backs = λ q r h. plays_before v w alike q r h;
            packets = alike.packets;
            born = (let same = alike.born in omega (arith, next, same));
            rises = omega (arith, next);
            climbs = sets.next;
            counted = λ few had. alike_counted v w alike had;
          };
        }

  pub led_still : (y : End) (i : ℕ) (t : Tunnel) → Sets x y i t → y.session_ids.next ≡ x.session_ids.next → TunnelOk calm v.nodes n y i t
      → Led v y
  led_still y i t sets next ok = led_in v (alike_self v) y i t sets next ok

  -- the end with a tunnel that is new
  abbrev with_new : Space → ℕ → Tunnel → End
  with_new ids i t = record (with_tunnel x i t) { tunnel_ids = ids }

  sets_new : (i : ℕ) (t : Tunnel) → takes_id x.tunnel_ids ≡ Ok i
      → Sets x (with_new (record x.tunnel_ids { ceiling = ceiling_for x.tunnel_ids; next = i + 1 }) i t) i t
  sets_new i t drawn =
      let d = draw_is x.tunnel_ids i drawn in
      record {
        role = refl;
        config = refl;
        tunnels = refl;
        next = omega (arith, d.0);
        last = refl;
        most_tunnels = (let last = here.end.last in let le = d.1 in omega arith);
        sessions = omega arith;
        last_session = refl;
        most = here.end.most;
        draws = refl;
      }

  pub opened_led : (moment : ℕ) (m : Opened) (y : End) → Opens x moment ev m y → Led v y
  opened_led moment m y h =
      let d = draw_is x.tunnel_ids m.tunnel h.drawn in
      let first = here.end.first in
      let last = here.end.last in
      let le = d.1 in
      let asked = asks_short x.config.secret m.challenge h.asks in
      let written : IsWritten (Sccrq (opening_of x.role x.config m.challenge None m.tunnel)) =
      (opening_written x.role x.config m.challenge None m.tunnel here.end.number (omega (arith, d.0)) (omega arith) asked tt, refl) in
      let t = with_letter 0 (Sccrq (opening_of x.role x.config m.challenge None m.tunnel))
      (new_tunnel (begun m.tunnel m.peer 0 WaitCtlReply moment m.challenge)) in
      let w = with_new (record x.tunnel_ids { ceiling = ceiling_for x.tunnel_ids; next = m.tunnel + 1 }) m.tunnel t in
      let same : y ≡ w = h.after ∙ ap (λ s. with_new s m.tunnel t) (next_is x.tunnel_ids m.tunnel h.drawn) in
      let sets = sets_new m.tunnel t h.drawn in
      subst (λ e. Led v e) (sym same)
      (led_still w m.tunnel t sets refl (record {
        local = refl;
        drawn = omega arith;
        remote = omega arith;
        letters = one_more calm v.nodes n m.peer [] tt 0 (Sccrq (opening_of x.role x.config m.challenge None m.tunnel))
            (omega arith) written tt;
        calls = no_calls v.nodes n x.role x.session_ids.next m.peer;
        order = ascends-empty [] refl;
        line = λ r has. absurd (none-some r has);
        asked = tt;
        recovery = λ still. refl;
        query = λ still. refl;
      }))

  pub accepted_led : (moment : ℕ) (m : Accepted) (y : End) → Accepts x moment ev m y → Led v y
  accepted_led moment m y h =
      let d = draw_is x.tunnel_ids m.tunnel h.drawn in
      let first = here.end.first in
      let last = here.end.last in
      let le = d.1 in
      let asked = asks_short x.config.secret m.challenge h.asks in
      let answered = responds_sized 2 x.config.secret h.opening.challenge m.response h.responds in
      let written = opening_written x.role x.config m.challenge m.response m.tunnel here.end.number (omega (arith, d.0))
      (omega arith) asked answered in
      let c = counts_taken
      (learns_window m.window
      (record (begun m.tunnel m.peer m.remote WaitCtlConn moment m.challenge) { flags = flags_of h.opening.failover })) in
      let ids = learnt m.window
      (record (begun m.tunnel m.peer m.remote WaitCtlConn moment m.challenge) { flags = flags_of h.opening.failover }) in
      let t = with_letter 0 (Sccrp (opening_of x.role x.config m.challenge m.response m.tunnel)) (new_tunnel c) in
      let w = with_new (record x.tunnel_ids { ceiling = ceiling_for x.tunnel_ids; next = m.tunnel + 1 }) m.tunnel t in
      let same : y ≡ w = h.after ∙ ap (λ s. with_new s m.tunnel t) (next_is x.tunnel_ids m.tunnel h.drawn) in
      let sets = sets_new m.tunnel t h.drawn in
      let fits = (heard_letter calm v.nodes n ev heard m.peer h.hears.0 (Sccrq h.opening) h.hears.1).0.0.tunnel in
      subst (λ e. Led v e) (sym same)
      (led_still w m.tunnel t sets refl (record {
        local = ids.local;
        drawn = omega arith;
        remote = rw (ids.remote, h.remote) fits;
        letters = one_more calm v.nodes n c.peer [] tt 0 (Sccrp (opening_of x.role x.config m.challenge m.response m.tunnel))
            (omega arith) written tt;
        calls = no_calls v.nodes n x.role x.session_ids.next c.peer;
        order = ascends-empty [] refl;
        line = λ r has. absurd (none-some r has);
        asked = tt;
        recovery = λ still. refl;
        query = λ still. refl;
      }))

  -- an end that differs from this one in a tunnel alone, and in what the data plane sees
  pub sets_tunnel : (places : List (ℕ × CallPlace)) (i : ℕ) (t : Tunnel) → Sets x (record (with_tunnel x i t) { calls = places }) i t
  sets_tunnel places i t = record {
    role = refl;
    config = refl;
    tunnels = refl;
    next = omega arith;
    last = refl;
    most_tunnels = here.end.most_tunnels;
    sessions = omega arith;
    last_session = refl;
    most = here.end.most;
    draws = refl;
  }

  -- the tunnel itself goes on, to the same peer, and keeps these letters
  pub control_led : (y : End) (i : ℕ) (t : Tunnel) (c : Control) (ls : List Letter) → at x.tunnels i ≡ Some t
      → y ≡ with_tunnel x i (record t { control = c; letters = ls }) → c.local ≡ t.control.local → c.peer ≡ t.control.peer
      → c.remote < 65536
      → LettersOk calm v.nodes n t.control.peer ls → Led v y
  control_led y i t c ls there same local peer remote letters =
      let u : Tunnel = record t { control = c; letters = ls } in
      let o = here.end.tunnels i t there in
      subst (λ e. Led v e) (sym same)
      (led_still (with_tunnel x i u) i u (sets_tunnel x.calls i u) refl
      (record {
        local = local ∙ o.local;
        drawn = o.drawn;
        remote = remote;
        letters = rw peer letters;
        calls = rw peer o.calls;
        order = o.order;
        line = o.line;
        asked = o.asked;
        recovery = o.recovery;
        query = o.query;
      }))

  -- the letters of a tunnel, with one more
  more_letters : (i : ℕ) (t : Tunnel) → at x.tunnels i ≡ Some t → (session : ℕ) (m : Message) → session < 65536 → IsWritten m
      → NamesItsCall v.nodes n (node_of t.control.peer) session m
      → LettersOk calm v.nodes n t.control.peer (t.letters ++ letter_of session m ∷ [])
  more_letters i t there session m fits written names =
      one_more calm v.nodes n t.control.peer t.letters (here.end.tunnels i t there).letters session m fits written names

  pub connected_led : (m : Connected) (y : End) → Connects x ev m y → Led v y
  connected_led m y h =
      let fits = (heard_letter calm v.nodes n ev heard h.tunnel.control.peer h.letter.header.session (Sccrp h.opening)
      (heard_from ev h.tunnel h.letter (Sccrp h.opening) h.takes.next h.said)).0.0.tunnel in
      let ids = learnt m.window (record h.tunnel.control { remote = m.remote; flags = m.flags; state = Established }) in
      control_led y m.tunnel h.tunnel _ _ h.there h.after ids.local ids.peer (rw (ids.remote, h.remote) fits)
      (more_letters m.tunnel h.tunnel h.there 0 (Scccn m.response) (omega arith)
      (responds_sized 3 x.config.secret h.opening.challenge m.response h.responds) tt)

  -- its ids and its letters stay
  stays_led : (y : End) (i : ℕ) (t : Tunnel) (c : Control) → at x.tunnels i ≡ Some t → y ≡ with_tunnel x i (record t { control = c })
      → c.local ≡ t.control.local → c.peer ≡ t.control.peer → c.remote ≡ t.control.remote → Led v y
  stays_led y i t c there same local peer remote =
      let o = here.end.tunnels i t there in control_led y i t c t.letters there same local peer (rw remote o.remote) o.letters

  pub confirmed_led : (m : Confirmed) (y : End) → Confirms x ev m y → Led v y
  confirmed_led m y h = stays_led y m.tunnel h.tunnel _ h.there h.after refl refl refl

  pub plain_led : (m : TookPlain) (y : End) → TakesPlain x ev m y → Led v y
  plain_led m y h = stays_led y m.tunnel h.tunnel _ h.there h.after refl refl refl

  -- what is acknowledged isn't kept
  pub read_led : (moment : ℕ) (m : NrRead) (y : End) → Reads x moment ev m y → Led v y
  read_led moment m y h =
      let o = here.end.tunnels m.tunnel h.tunnel h.there in
      control_led y m.tunnel h.tunnel _ _ h.there h.after refl refl o.remote
      (all_drop (LetterOk calm v.nodes n h.tunnel.control.peer) (count_acked h.tunnel.control.channel m.nr) h.tunnel.letters o.letters)

  pub let_go_led : (moment : ℕ) (m : LetGo) (y : End) → LetsGo x moment m y → Led v y
  let_go_led moment m y h = stays_led y m.tunnel h.tunnel _ h.there h.after refl refl refl

  pub repeated_led : (moment : ℕ) (m : Repeated) (y : End) → Repeats x moment m y → Led v y
  repeated_led moment m y h = stays_led y m.tunnel h.tunnel _ h.there h.after refl refl refl

  pub greeted_led : (moment : ℕ) (m : Greeted) (y : End) → Greets x moment ev m y → Led v y
  greeted_led moment m y h =
      let o = here.end.tunnels m.tunnel h.tunnel h.there in
      control_led y m.tunnel h.tunnel _ _ h.there h.after refl refl o.remote
      (more_letters m.tunnel h.tunnel h.there 0 Hello (omega arith) tt tt)

  -- the tunnel's calls change
  pub calls_led : (y : End) (i : ℕ) (t : Tunnel) (c : Control) (ls : List Letter) (calls : List (ℕ × Call)) → at x.tunnels i ≡ Some t
      → Sets x y i (record t { control = c; letters = ls; calls = calls }) → y.session_ids.next ≡ x.session_ids.next
      → c.local ≡ t.control.local
      → c.peer ≡ t.control.peer → c.remote ≡ t.control.remote → LettersOk calm v.nodes n t.control.peer ls
      → CallsOk v.nodes n x.role x.session_ids.next t.control.peer calls → Ascends calls → Led v y
  calls_led y i t c ls calls there sets next local peer remote letters are order =
      let u : Tunnel = record t { control = c; letters = ls; calls = calls } in
      let o = here.end.tunnels i t there in
      led_still y i u sets next
      (record {
        local = local ∙ o.local;
        drawn = (let d = o.drawn in let le = sets.next in omega arith);
        remote = rw remote o.remote;
        letters = rw peer letters;
        calls = rw (sets.role, next, peer) are;
        order = order;
        line = o.line;
        asked = o.asked;
        recovery = o.recovery;
        query = o.query;
      })

  -- a call of the tunnel goes on
  call_led : (y : End) (i : ℕ) (t : Tunnel) (c : Control) (ls : List Letter) (s : ℕ) (k : Call) → at x.tunnels i ≡ Some t
      → Sets x y i (record t { control = c; letters = ls; calls = put t.calls s k }) → y.session_ids.next ≡ x.session_ids.next
      → c.local ≡ t.control.local
      → c.peer ≡ t.control.peer → c.remote ≡ t.control.remote → LettersOk calm v.nodes n t.control.peer ls
      → CallOk v.nodes n x.role x.session_ids.next t.control.peer s k → Led v y
  call_led y i t c ls s k there sets next local peer remote letters call =
      let o = here.end.tunnels i t there in
      calls_led y i t c ls (put t.calls s k) there sets next local peer remote letters
      (calls_put v.nodes n x.role x.session_ids.next t.control.peer s k t.calls o.calls call) (ascends-put s k t.calls o.order)

  -- so it is where it knows the same session of the other end
  pub goes_on : (peer s : ℕ) (c k : Call) → CallOk v.nodes n x.role x.session_ids.next peer s c → k.remote ≡ c.remote
      → (KnowsItsMate x.role k → Mates v.nodes n s (node_of peer) c.remote) → (x.role ≡ Lac → k.link ≡ None)
      → CallOk v.nodes n x.role x.session_ids.next peer s k
  goes_on peer s c k o same mate link = record {
    drawn = o.drawn;
    birth = o.birth;
    some = o.some;
    born = o.born;
    remote = rw same o.remote;
    known = rw same o.known;
    mate = rw same mate;
    link = link;
  }

  pub requested_led : (moment : ℕ) (m : Requested) (y : End) → Requests x moment m y → Led v y
  unfolding advanced
  requested_led moment m y h =
      let row = request_row x.role h.call.state h.row in
      let o = (here.end.tunnels m.tunnel h.tunnel h.there).calls m.session h.call h.waits in
      let names : NamesItsCall v.nodes n (node_of h.tunnel.control.peer) 0 (request_of m.session m.subscriber) =
      ((o.birth, o.some, o.born), plays Lac row.0) in
      rw h.after
      (call_led _ m.tunnel h.tunnel (counts_given h.tunnel.control) _ m.session
      (advanced x.role call_event.TunnelOpen moment h.call) h.there
      (sets_tunnel _ m.tunnel _)
      refl refl refl refl
      (all_push (LetterOk calm v.nodes n h.tunnel.control.peer) h.tunnel.letters _ (here.end.tunnels m.tunnel h.tunnel h.there).letters
      (letter_ok calm v.nodes n h.tunnel.control.peer 0 (request_of m.session m.subscriber) m.hidden
      (number_hides x.config m.session m.subscriber m.hidden h.session (digits m.subscriber) h.hides) (omega arith)
      (request_written digits m.session m.subscriber h.session) names))
      (goes_on h.tunnel.control.peer m.session h.call (advanced x.role call_event.TunnelOpen moment h.call) o refl
      (λ k. ⊎_elim (λ a. absurd (not_lns x.role row.0 a)) (λ a. absurd (true≢false (sym a ∙ row.1))) k) o.link))

  pub first_led : (moment : ℕ) (m : FirstUp) (y : End) → ComesUpFirst x moment ev m y → Led v y
  unfolding advanced
  first_led moment m y h =
      let s = heard_letter calm v.nodes n ev heard h.tunnel.control.peer m.session (Icrp m.remote)
      (record { letter = h.letter; came = h.takes.next.comes.came; peer_is = h.takes.next.comes.peer; says = h.says }) in
      let o = (here.end.tunnels m.tunnel h.tunnel h.there).calls m.session h.call h.asked in
      let mates = swapped v.nodes (node_of h.tunnel.control.peer) m.remote n m.session s.1 in
      let call = advanced x.role call_event.IcrpAcc moment (record h.call { remote = m.remote }) in
      rw h.after
      (call_led _ m.tunnel h.tunnel (counts_given (counts_taken h.tunnel.control)) _ m.session call h.there
      (sets_tunnel _ m.tunnel _)
      refl refl refl refl
      (more_letters m.tunnel h.tunnel h.there m.remote connection s.0.0 (omega arith, omega arith, refl) tt)
      (record {
        drawn = o.drawn;
        birth = o.birth;
        some = o.some;
        born = o.born;
        remote = s.0.0;
        known = inr mates;
        mate = λ k. mates;
        link = o.link;
      }))

  pub second_led : (moment : ℕ) (m : SecondUp) (y : End) → ComesUpSecond x moment ev m y → Led v y
  unfolding advanced
  second_led moment m y h =
      let t = here.end.tunnels m.tunnel h.tunnel h.there in
      let o = t.calls m.session h.call h.made in
      let lns = second_row x.role h.call.state h.row in
      let call = with_link (new_link (record { moment = moment; block = h.block }))
      (with_numbers m.sequenced (advanced x.role call_event.IccnAcc moment h.call)) in
      rw h.after
      (call_led _ m.tunnel h.tunnel (counts_taken h.tunnel.control) h.tunnel.letters m.session call h.there
      (sets_tunnel _ m.tunnel _)
      refl refl refl refl t.letters
      (goes_on h.tunnel.control.peer m.session h.call call o refl (λ k. o.mate (inl lns)) (λ lac. absurd (not_lns x.role lac lns))))

  -- the link of a call goes on; so the end is no LAC
  pub negotiated_led : (moment : ℕ) (m : Negotiated) (y : End) → Negotiates x moment ev m y → Led v y
  negotiated_led moment m y h =
      let t = here.end.tunnels m.tunnel h.tunnel h.there in
      let o = t.calls m.session h.call h.live in
      let call = with_link (turn_at h.calls.by h.calls.link).link h.call in
      rw h.after
      (call_led _ m.tunnel h.tunnel h.tunnel.control h.tunnel.letters m.session call h.there
      (sets_tunnel _ m.tunnel _)
      refl refl refl refl t.letters
      (goes_on h.tunnel.control.peer m.session h.call call o refl o.mate
      (λ lac. absurd (none-some h.calls.link (sym (o.link lac) ∙ h.calls.has)))))

  -- a call counts its data messages
  pub counted_led : (moment : ℕ) (m : Counted) (y : End) → Counts x m y → Led v y
  counted_led moment m y h =
      let t = here.end.tunnels m.tunnel h.tunnel h.there in
      let o = t.calls m.session h.call h.live in
      rw h.after
      (call_led _ m.tunnel h.tunnel h.tunnel.control h.tunnel.letters m.session (counted h.call) h.there
      (sets_tunnel _ m.tunnel _)
      refl refl refl refl t.letters
      (goes_on h.tunnel.control.peer m.session h.call (counted h.call) o refl o.mate o.link))

  -- ---- a call ends

  -- a call of the tunnel isn't there any more
  ended_led : (y : End) (i : ℕ) (t : Tunnel) (c : Control) (ls : List Letter) (s : ℕ) → at x.tunnels i ≡ Some t
      → y ≡ without_call x i (record t { control = c; letters = ls }) s → c.local ≡ t.control.local → c.peer ≡ t.control.peer
      → c.remote ≡ t.control.remote → LettersOk calm v.nodes n t.control.peer ls → Led v y
  ended_led y i t c ls s there same local peer remote letters =
      let o = here.end.tunnels i t there in
      subst (λ e. Led v e) (sym same)
      (calls_led _ i t c ls (without t.calls s) there (sets_tunnel _ i _) refl local peer remote letters
      (λ q d f. o.calls q d (found_without t.calls s q d o.order f).1) (ascends-without s t.calls o.order))

  pub told_led : (moment : ℕ) (m : EndTold) (y : End) → TellsEnd x moment ev m y → Led v y
  told_led moment m y h =
      let o = (here.end.tunnels m.tunnel h.tunnel h.there).calls m.session h.call h.live in
      let names : NamesItsCall v.nodes n (node_of h.tunnel.control.peer) m.remote (Cdn m.session m.result m.error) =
      inr ((o.birth, o.some, o.born), rw h.remote o.known) in
      ended_led y m.tunnel h.tunnel (counts_given h.tunnel.control) _ m.session h.there h.after refl refl refl
      (more_letters m.tunnel h.tunnel h.there m.remote (Cdn m.session m.result m.error) (rw h.remote o.remote)
      (let k = codes_fit x h.tunnel ev moment m.session h.call h.on m.result m.error h.why in (h.session, k.0, k.1)) names)

  -- there was no call
  pub refused_led : (m : Refused) (y : End) → Refuses x ev m y → Led v y
  refused_led m y h =
      let o = here.end.tunnels m.tunnel h.tunnel h.there in
      let fits = refusal_fits calm v.nodes n ev heard x m y h in
      control_led y m.tunnel h.tunnel _ _ h.there h.after refl refl o.remote
      (more_letters m.tunnel h.tunnel h.there m.remote (Cdn 0 m.result m.error) fits.0 (omega arith, fits.1.0, fits.1.1) (inl refl))

  pub heard_led : (m : EndHeard) (y : End) → HearsEnd x ev m y → Led v y
  heard_led m y h =
      ended_led y m.tunnel h.tunnel (counts_taken h.tunnel.control) h.tunnel.letters m.session h.there h.after refl refl refl
      (here.end.tunnels m.tunnel h.tunnel h.there).letters

  pub silent_led : (moment : ℕ) (m : EndSilent) (y : End) → EndsSilently x moment ev m y → Led v y
  silent_led moment m y h =
      ended_led y m.tunnel h.tunnel h.tunnel.control h.tunnel.letters m.session h.there h.after refl refl refl
      (here.end.tunnels m.tunnel h.tunnel h.there).letters

  -- ---- a tunnel closes

  -- its calls aren't there any more, and the id that its peer assigned may be known now
  shut_led : (y : End) (i : ℕ) (t : Tunnel) (c : Control) (ls : List Letter) → at x.tunnels i ≡ Some t
      → y ≡ without_calls x i (record t { control = c; letters = ls }) t.calls → c.local ≡ t.control.local → c.peer ≡ t.control.peer
      → c.remote < 65536
      → LettersOk calm v.nodes n t.control.peer ls → Led v y
  shut_led y i t c ls there same local peer remote letters =
      let u : Tunnel = record t { control = c; letters = ls; calls = [] } in
      let o = here.end.tunnels i t there in
      subst (λ e. Led v e) (sym same)
      (led_still _ i u (sets_tunnel _ i u) refl
      (record {
        local = local ∙ o.local;
        drawn = o.drawn;
        remote = remote;
        letters = rw peer letters;
        calls = no_calls v.nodes n x.role x.session_ids.next c.peer;
        order = ascends-empty [] refl;
        line = o.line;
        asked = o.asked;
        recovery = o.recovery;
        query = o.query;
      }))

  pub closed_led : (moment : ℕ) (m : Closed) (y : End) → Closes x moment ev m y → Led v y
  closed_led moment m y h =
      let o = here.end.tunnels m.tunnel h.tunnel h.there in
      let k = stop_codes_fit x.config.secret h.tunnel ev h.on m h.why in
      let id : m.tunnel < 65536 = (let d = o.drawn in let most = here.end.most_tunnels in omega arith) in
      shut_led y m.tunnel h.tunnel _ _ h.there h.after refl refl (closing_fits x.config.secret ev h.tunnel h.on m o.remote h.why)
      (more_letters m.tunnel h.tunnel h.there 0 (StopCcn m.tunnel m.result m.error) (omega arith) (id, k.0, k.1) tt)

  pub rejected_led : (moment : ℕ) (m : Rejected) (y : End) → Rejects x moment ev m y → Led v y
  rejected_led moment m y h =
      let o = here.end.tunnels m.tunnel h.tunnel h.there in
      let k = letter_codes_fit x.config.secret h.tunnel.control h.tunnel.query h.letter h.on m.remote m.result m.error h.why in
      let id : m.tunnel < 65536 = (let d = o.drawn in let most = here.end.most_tunnels in omega arith) in
      let told = told_fits calm v.nodes n ev heard x.config.secret h.tunnel h.letter h.takes.next h.on m.remote m.result m.error h.why in
      shut_led y m.tunnel h.tunnel _ _ h.there h.after refl refl told
      (more_letters m.tunnel h.tunnel h.there 0 (StopCcn m.tunnel m.result m.error) (omega arith) (id, k.0, k.1) tt)

  pub closed_by_led : (moment : ℕ) (m : ClosedBy) (y : End) → ClosesBy x moment ev m y → Led v y
  closed_by_led moment m y h =
      let o = here.end.tunnels m.tunnel h.tunnel h.there in
      shut_led y m.tunnel h.tunnel _ h.tunnel.letters h.there h.after refl refl o.remote o.letters

  -- the tunnel isn't there any more
  pub cleared_led : (moment i : ℕ) (booked : Bool) (y : End) → Clears x moment ev i booked y → Led v y
  cleared_led moment i booked y h = subst (λ e. Led v e) (sym h.after) (record {
    at_end = record {
      node = here.node;
      is = here.is;
      end_is = here.end_is;
      checkpoint_is = here.checkpoint_is;
      role = here.role;
      end = record {
        number = here.end.number;
        first = here.end.first;
        last = here.end.last;
        most_tunnels = here.end.most_tunnels;
        first_session = here.end.first_session;
        last_session = here.end.last_session;
        most = here.end.most;
        last_draw = here.end.last_draw;
        tunnels = λ j t f. tunnel_later calm v.nodes v.nodes (same_nodes v.nodes) n x _ j t refl (omega arith) (omega arith)
            (here.end.tunnels j t (found_without x.tunnels i j t here.end.order f).1);
        order = ascends-without i x.tunnels here.end.order;
      };
      births = here.births;
    };
    leads = record {
      grows = same_nodes v.nodes;
      others = λ q o. like_self (at v.nodes q);
      olds = λ q s b h lt. h;
      backs = λ q r h. h;
      packets = refl;
      born = omega arith;
      rises = omega arith;
      climbs = omega arith;
      counted = λ few had. had;
    };
  })

  -- ---- a call is made, with its birth

  -- a world with the birth of the session that the end takes_id next
  record Bears (w : World) (s b : ℕ) : Type 0 where
    nodes : w.nodes ≡ put v.nodes n (with_one here.node s b)
    packets : w.packets ≡ v.packets
    fresh : s ≡ x.session_ids.next
    some : 0 < b
    adds : Adds v here.node (put here.node.births s b) w.born
    few : w.born ≤ v.born + 1

  module _ (w : World) (s b : ℕ) (bears : Bears w s b) where
    fresh : s ≡ x.session_ids.next
    fresh = bears.fresh

    abbrev new : Node
    new = with_one here.node s b

    not_yet : (q c : ℕ) → at here.node.births q ≡ Some c → q ≡ s → ⊥
    not_yet q c h e = let k = (here.births q c h).0 in omega (arith, fresh, e)

    changed : Changed v.nodes w.nodes n here.node new
    changed = record {
      was = here.is;
      is = rw bears.nodes (at_new v.nodes n new);
      others = λ m o. rw bears.nodes (at_other v.nodes n new m o);
      role = refl;
      births = λ q c h. at_other here.node.births s b q (not_yet q c h) ∙ h;
    }

    grown : Grows v.nodes w.nodes
    grown = grows v.nodes w.nodes n here.node new changed

    born_now : Born w.nodes n s b
    born_now = rw (bears.nodes, at_new v.nodes n new, at_new here.node.births s b) refl

    -- a birth of another session was there, and each role
    born_first : (q k c : ℕ) → Born w.nodes q k c → (q ≡ n → k < x.session_ids.next) → Born v.nodes q k c
    born_first q k c h lt = ⊎_elim
        (λ (e : q ≡ n). ⊎_elim
        (λ (a : (k ≡ s) × (b ≡ c)). (let low = lt e in absurd (omega (arith, fresh, a.0, low))))
        (λ a. rw e (born_at v.nodes n k c here.node here.is a.1))
        (found_put here.node.births s b k c (birth_there w.nodes n k c new changed.is (subst (λ z. Born w.nodes z k c) e h))))
        (λ o. subst (λ (z : Option Node). birth_in_node z k ≡ Some c) (changed.others q o) h)
        (same_or_not q n)

    played_first : (q : ℕ) (r : Role) → Plays w.nodes q r → Plays v.nodes q r
    played_first q r h = ⊎_elim
        (λ (e : q ≡ n). rw e
        (plays_at v.nodes n r here.node here.is (role_there w.nodes n r new changed.is (subst (λ z. Plays w.nodes z r) e h))))
        (λ o. subst (λ (z : Option Node). role_in_node z ≡ Some r) (changed.others q o) h)
        (same_or_not q n)

    led_birth : (y : End) (i : ℕ) (t : Tunnel) → Sets x y i t → y.session_ids.next ≡ s + 1 → TunnelOk calm w.nodes n y i t → Led w y
    led_birth y i t sets next ok = record {
      at_end = record {
        node = new;
        is = changed.is;
        end_is = here.end_is;
        checkpoint_is = here.checkpoint_is;
        role = here.role ∙ sym sets.role;
        end = end_put calm v.nodes w.nodes grown n x y i t here.end sets ok;
        births = λ q c h. ⊎_elim
            (λ (a : (q ≡ s) × (b ≡ c)). (omega (arith, next, a.0), rw (← a.1) bears.some))
            (λ a. let k = here.births q c a.1 in let lt = k.0 in (omega (arith, next, fresh), k.1))
            (found_put here.node.births s b q c h);
      };
      leads = record {
        grows = grown;
        others = λ q o. subst (AreLike (at v.nodes q)) (sym (changed.others q o)) (like_self (at v.nodes q));
        olds = born_first;
        backs = played_first;
        packets = bears.packets;
        born = (let few = bears.few in omega (arith, next, fresh));
        rises = omega (arith, next, fresh);
        climbs = sets.next;
        counted = λ room had. counted_after v w.nodes w.born n here.node new changed
            (let most = here.end.most in omega (arith, room)) had bears.adds;
      };
    }

    -- in a tunnel that is there
    made_led : (y : End) (i : ℕ) (t : Tunnel) (c : Control) (ls : List Letter) (k : Call) → at x.tunnels i ≡ Some t
        → Sets x y i (record t { control = c; letters = ls; calls = put t.calls s k }) → y.session_ids.next ≡ s + 1
        → c.local ≡ t.control.local
        → c.peer ≡ t.control.peer → c.remote ≡ t.control.remote → LettersOk calm w.nodes n t.control.peer ls
        → k.remote < 65536 → (k.remote ≡ 0) ⊎ Mates w.nodes n s (node_of t.control.peer) k.remote
        → (KnowsItsMate x.role k → Mates w.nodes n s (node_of t.control.peer) k.remote) → k.link ≡ None → Led w y
    made_led y i t c ls k there sets next local peer remote letters fits known mate link =
        let u : Tunnel = record t { control = c; letters = ls; calls = put t.calls s k } in
        let o = here.end.tunnels i t there in
        let call : CallOk w.nodes n x.role (s + 1) t.control.peer s k =
        record {
          drawn = omega arith;
          birth = b;
          some = bears.some;
          born = born_now;
          remote = fits;
          known = known;
          mate = mate;
          link = λ lac. link;
        } in
        let olds : CallsOk w.nodes n x.role (s + 1) t.control.peer t.calls =
        λ q d f. call_later v.nodes w.nodes grown n x.role x.session_ids.next (s + 1) t.control.peer q d (omega (arith, fresh))
        (o.calls q d f) in
        let calls = calls_put w.nodes n x.role (s + 1) t.control.peer s k t.calls olds call in
        led_birth y i u sets next
        (record {
          local = local ∙ o.local;
          drawn = (let d = o.drawn in let le = sets.next in omega arith);
          remote = rw remote o.remote;
          letters = rw peer letters;
          calls = rw (sets.role, next, peer) calls;
          order = ascends-put s k t.calls o.order;
          line = o.line;
          asked = o.asked;
          recovery = o.recovery;
          query = o.query;
        })

    -- the letters that a tunnel had may still be read
    old_letters : (i : ℕ) (t : Tunnel) → at x.tunnels i ≡ Some t → LettersOk calm w.nodes n t.control.peer t.letters
    old_letters i t there = letters_later calm v.nodes w.nodes grown n t.control.peer t.letters (here.end.tunnels i t there).letters

  -- the end with a call that is made in a tunnel
  abbrev with_drawn : Space → ℕ → Tunnel → ℕ → End
  with_drawn ids i t s = record (with_tunnel x i t) { session_ids = ids; calls = put x.calls s (new_place i) }

  sets_drawn : (s i : ℕ) (t : Tunnel) → takes_id x.session_ids ≡ Ok s
      → Sets x (with_drawn (record x.session_ids { ceiling = ceiling_for x.session_ids; next = s + 1 }) i t s) i t
  sets_drawn s i t drawn =
      let d = draw_is x.session_ids s drawn in
      let last = here.end.last_session in
      let le = d.1 in
      record {
        role = refl;
        config = refl;
        tunnels = refl;
        next = omega arith;
        last = refl;
        most_tunnels = here.end.most_tunnels;
        sessions = omega (arith, d.0);
        last_session = refl;
        most = omega arith;
        draws = refl;
      }

  pub added_led : (moment : ℕ) (m : Added) (y : End) → AddsCall x moment ev m y → Led (is_born v n m.session) y
  added_led moment m y h =
      let d = draw_is x.session_ids m.session h.drawn in
      let last = here.end.last_session in
      let le = d.1 in
      let t = h.tunnel in
      let u : Tunnel = record t { calls = put t.calls m.session (rung x.role m.subscriber moment) } in
      let w : End = with_drawn (record x.session_ids { ceiling = ceiling_for x.session_ids; next = m.session + 1 }) m.tunnel u m.session in
      let same : y ≡ w = h.after ∙ ap (λ s. with_drawn s m.tunnel u m.session) (next_is x.session_ids m.session h.drawn) in
      let count = born_count v n m.session here.node here.is in
      let bears : Bears (is_born v n m.session) m.session (next_birth v) = record {
        nodes = born_nodes v n m.session here.node here.is;
        packets = born_packets v n m.session here.node here.is;
        fresh = d.0;
        some = some_birth v;
        adds = NextBirth m.session refl count;
        few = omega (arith, count);
      } in
      subst (λ e. Led (is_born v n m.session) e) (sym same)
      (made_led (is_born v n m.session) m.session (next_birth v) bears w m.tunnel t t.control t.letters
      (rung x.role m.subscriber moment) h.there
      (sets_drawn m.session m.tunnel u h.drawn)
      refl refl refl refl
      (old_letters (is_born v n m.session) m.session (next_birth v) bears m.tunnel t h.there)
      (rw (rung_remote x.role m.subscriber moment) (omega arith)) (inl (rung_remote x.role m.subscriber moment))
      (λ known. absurd (rung_row x.role m.subscriber moment (wanted_by_lac x ev h.tunnel.control.peer h.wants) known))
      (rung_link x.role m.subscriber moment))

  pub replied_led : (moment : ℕ) (m : Replied) (y : End) → Replies x moment ev m y
      → Led (with_birth v n m.session (birth_of v (node_of m.peer) m.remote)) y
  replied_led moment m y h =
      let d = draw_is x.session_ids m.session h.drawn in
      let last = here.end.last_session in
      let first = here.end.first_session in
      let le = d.1 in
      let t = h.tunnel in
      let s = heard_letter calm v.nodes n ev heard t.control.peer h.letter.header.session (Icrq m.remote h.serial h.calling)
      (heard_from ev t h.letter (Icrq m.remote h.serial h.calling) h.takes.next h.said) in
      let b = s.1.0.0 in
      let told : birth_of v (node_of m.peer) m.remote ≡ b = rw h.peer (birth_is v (node_of t.control.peer) m.remote b s.1.0.2) in
      let lns = reply_row x.role h.row in
      let v' = with_birth v n m.session b in
      let count = made_count v n m.session b here.node here.is in
      let bears : Bears v' m.session b = record {
        nodes = made_nodes v n m.session b here.node here.is;
        packets = made_packets v n m.session b here.node here.is;
        fresh = d.0;
        some = s.1.0.1;
        adds = SameBirth m.session b (node_of t.control.peer) m.remote refl count s.1.0.2 (role_here Lns lns);
        few = omega (arith, count);
      } in
      let g = grown v' m.session b bears in
      let born = born_now v' m.session b bears in
      let mates : Mates v'.nodes n m.session (node_of t.control.peer) m.remote = record {
        birth = b;
        some = s.1.0.1;
        here = born;
        there = g.births (node_of t.control.peer) m.remote b s.1.0.2;
        role = Lns;
        mine = g.roles n Lns (plays Lns lns);
        its = g.roles (node_of t.control.peer) Lac s.1.1;
      } in
      let c = counts_given (counts_taken t.control) in
      let ls = t.letters ++ letter_of m.remote (Icrp m.session) ∷ [] in
      let olds = old_letters v' m.session b bears m.tunnel t h.there in
      let letters = one_more calm v'.nodes n t.control.peer t.letters olds m.remote (Icrp m.session) s.0.0
      (omega arith, omega (arith, d.0)) mates in
      let u : Tunnel = record t { control = c; letters = ls; calls = put t.calls m.session (asked_for x.role m.remote moment) } in
      let w : End = with_drawn (record x.session_ids { ceiling = ceiling_for x.session_ids; next = m.session + 1 }) m.tunnel u m.session in
      let same : y ≡ w = h.after ∙ ap (λ s. with_drawn s m.tunnel u m.session) (next_is x.session_ids m.session h.drawn) in
      subst (λ e. Led (with_birth v n m.session (birth_of v (node_of m.peer) m.remote)) e) (sym same)
      (subst (λ q. Led (with_birth v n m.session q) w) (sym told)
      (made_led v' m.session b bears w m.tunnel t c ls (asked_for x.role m.remote moment) h.there
      (sets_drawn m.session m.tunnel u h.drawn)
      refl refl refl refl letters
      (rw (asked_remote x.role m.remote moment) s.0.0) (rw (asked_remote x.role m.remote moment) (inr mates))
      (λ k. rw (asked_remote x.role m.remote moment) mates)
      (asked_link x.role m.remote moment)))
