-- An LNS replies to a request, and so does the machine.
use Rattle.std.proofs.Common.{◌≡◌, inl, ⊎_elim, ℕ, ◌+◌, ◌<◌, ◌≤◌, false, length, refl, sym, ap, ap₂, ◌∙◌, subst, Option, Some, arith, ne_eqb, eq-eqb, None}
use Rattle.std.proofs.lemmas.Bool.{true≢false, lt-ltb}
use Rattle.id_source.specs.Spaces.{Space, draw_is, next_is}
use Rattle.id_table.specs.Ids.{put}
use Rattle.id_table.specs.Order.{same_or_not, at_new, at_other}
use Rattle.control_message.specs.declared.message.Message.TheVariants.{Icrq, Icrp}
use Rattle.call_fsm.specs.declared.table.CallEvent.TheVariants as call_event
use Rattle.end_model.specs.declared.event.Event.{Event}
use Rattle.end_model.specs.declared.moves.Replied.{Replied}
use Rattle.end_model.specs.declared.moves.Move.TheVariants as move
use Rattle.end_model.specs.declared.tunnel.Call.{Call}
use Rattle.end_names.specs.Names.{node_of}
use Rattle.end_model.specs.Calls.{row_of_none, asked_for}
use Rattle.end_model.specs.Tunnels.{Tunnel}
use Rattle.end_model.specs.Channels.{counts_taken}
use Rattle.end_model.specs.End.{End}
use Rattle.world_model.specs.World.{Sender, Deed, config_of}
use Rattle.step_laws.specs.Letters.{letters_of}
use Rattle.step_laws.specs.Moves.{heard_so, with_letter}
use Rattle.epoch_machine.specs.Letters.{Request, Reply}
use Rattle.epoch_machine.specs.Tunnels.{Open}
use Rattle.epoch_machine.specs.Calls.{Calls, WaitsConnect, replies}
use Rattle.epoch_machine.specs.Worlds.{World, all_rules, gives, took_one, takes, takes_open, answers_request}
use Rattle.epoch_machine.specs.Moves.{Delivers}
use Rattle.connection_laws.specs.Facts.{Accounts}
use Rattle.connection_laws.specs.Steps.{after}
use Rattle.session_laws.specs.Names.{name, name_of, state_of}
use Rattle.session_laws.specs.Joined.{Ends, ReplyJoined, CallJoined, CallsJoined, TunnelJoined}
use Rattle.session_laws.proofs.Births.{RepliesTo, BirthsFollow}
use Rattle.session_laws.proofs.Keeps.{with_end, Laws, IsMade, Follows}
use Rattle.session_laws.proofs.Names.{other_name, name_some, known_name, node_again}
use Rattle.session_laws.proofs.States.{not_closed}
use Rattle.session_laws.proofs.Ground.{joined_before}
use Rattle.session_laws.proofs.Heard.{Delivered, delivered, here_joined, open_phase}
use Rattle.session_laws.proofs.CallRows.{asked_state, asked_remote, reply_row, reply_role, fits_as}
use Rattle.session_laws.proofs.CallGround.{CallSame, OneCall, one_call_follows}
use Rattle.session_laws.proofs.CallLaws.{world_holds, request_own}
use Rattle.session_laws.proofs.CallFacts.{zero_undrawn}
use Rattle.session_laws.proofs.CallSpeaks.{calls_take_and_give, hears_and_says, speaks_goes, account_is}

-- ---- in the machine

-- the calls with the new one
abbrev with_reply : World → ℕ → ℕ → ℕ → Calls
with_reply w x z own = replies w.calls x (w.tunnels.entered x) z own

abbrev replied_to : World → ℕ → ℕ → ℕ → World
replied_to w x z own = gives (record (took_one w x) { calls = with_reply w x z own }) x (Reply z own)

takes_request : (w : World) (x s own z : ℕ) → w.tunnels.phase x ≡ Open → 0 < z → w.calls.drawn z ≡ false
    → takes all_rules (took_one w x) x s (Request own) z ≡ replied_to w x z own
unfolding takes took_one takes_open answers_request
takes_request w x s own z phase some new = rw (phase, lt-ltb 0 z some, new) refl

reply_asks : (w : World) (x z own y k : ℕ) → (with_reply w x z own).asks y k ≡ w.calls.asks y k
unfolding replies
reply_asks w x z own y k = refl

-- every other call stays
reply_same : (w : World) (x z own k : ℕ) → (k ≡ z → ⊥) → CallSame w (replied_to w x z own) k
unfolding gives replies
reply_same w x z own k other = record {
  drawn = rw (ne_eqb k z other) refl;
  tunnel = rw (ne_eqb k z other) refl;
  remote = rw (ne_eqb k z other) refl;
  state = rw (ne_eqb k z other) refl;
}

reply_births : (w : World) (x z own : ℕ) → RepliesTo w (replied_to w x z own) z own
unfolding gives replies
reply_births w x z own = record {
  count = refl;
  here = rw (eq-eqb z z refl) refl;
  birth = λ k other. rw (ne_eqb k z other) refl;
  mate_here = rw (eq-eqb z z refl) refl;
  mate = λ k other. rw (ne_eqb k z other) refl;
  remote_here = rw (eq-eqb z z refl) refl;
  remote = λ k other. rw (ne_eqb k z other) refl;
}

record NewReply (v : World) (x z own : ℕ) : Type 0 where
  tunnel : v.calls.tunnel z ≡ x
  state : v.calls.state z ≡ WaitsConnect
  remote : v.calls.remote z ≡ own

reply_here : (w : World) (x z own : ℕ) → NewReply (replied_to w x z own) x z own
unfolding gives replies
reply_here w x z own = record { tunnel = rw (eq-eqb z z refl) refl; state = rw (eq-eqb z z refl) refl; remote = rw (eq-eqb z z refl) refl }

-- ---- the move

module _ (laws : Laws) (accs : Accounts) (ends : Ends) (w : World) (n : ℕ) (e x : End) (sender : Option Sender) (moment : ℕ) (ev : Event)
    (m : Replied) (d : Deed) (h : IsMade accs ends w n e x sender moment ev (move.Replied m) d) where
  abbrev i : ℕ
  i = m.tunnel

  abbrev s : ℕ
  s = m.session

  abbrev t : Tunnel
  t = h.moved.does.tunnel

  abbrev call : Call
  call = asked_for e.role m.remote moment

  abbrev u : Tunnel
  u = with_letter m.remote (Icrp s) (record t { control = counts_taken t.control; calls = put t.calls s call })

  del : Delivered accs w n i sender h.moved.does.letter.header.session (Icrq m.remote h.moved.does.serial h.moved.does.calling)
  del = delivered laws.heard accs ends w n e x sender moment ev (move.Replied m) d h i t h.moved.does.there
      (not_closed t.control.state 3 h.moved.does.open_is (omega arith)) h.moved.does.letter.header.session
      (Icrq m.remote h.moved.does.serial h.moved.does.calling) tt
      (heard_so ev t h.moved.does.letter (Icrq m.remote h.moved.does.serial h.moved.does.calling) h.moved.does.takes.next h.moved.does.said)

  old : TunnelJoined w n i (accs n i) (Some t)
  old = here_joined accs ends w n e x sender moment ev (move.Replied m) d h i t h.moved.does.there

  calls : CallsJoined w accs n e
  calls = joined_before accs ends w n e x sender moment ev (move.Replied m) d h

  abbrev X : ℕ
  X = name n i

  abbrev Z : ℕ
  Z = name n s

  abbrev S : ℕ
  S = name del.from.node del.from.tunnel

  -- the call that asks
  abbrev own : ℕ
  own = name del.from.node m.remote

  abbrev v : World
  v = replied_to w X Z own

  -- the session is drawn
  drawn : (s ≡ e.session_ids.next) × (s ≤ e.session_ids.last)
  drawn = draw_is e.session_ids s h.moved.does.drawn

  some : 0 < s
  some = let first = h.moved.within.end.first_session in let is = drawn.0 in omega arith

  fits : s < 65536
  fits = let last = h.moved.within.end.last_session in let le = drawn.1 in omega arith

  new : w.calls.drawn Z ≡ false
  new = calls.undrawn s (let is = drawn.0 in omega arith) fits

  next : x.session_ids.next ≡ s + 1
  next = ap (λ (y : End). y.session_ids.next) h.moved.does.after ∙ ap (λ (ids : Space). ids.next) (next_is e.session_ids s h.moved.does.drawn)

  -- no call that asks has session 0
  known : 0 < m.remote
  known = ⊎_elim
      (λ (zero : m.remote ≡ 0).
      let asked = request_own w (world_holds laws.births w h.joined.moves h.joined.run) S 0 (length (accs n i).taken) own del.stands in
      let none = zero_undrawn w accs del.from.node (ends del.from.node) (h.joined.nodes del.from.node del.fits) in
      absurd (true≢false (sym asked.1 ∙ ap (λ k. w.calls.drawn (name del.from.node k)) zero ∙ none)))
      (λ (other : m.remote ≡ 0 → ⊥). omega (arith, other))
      (same_or_not m.remote 0)

  role_is : x.role ≡ e.role
  role_is = ap (λ (y : End). y.role) h.moved.does.after

  call_joined : CallJoined v n i (accs n i).peer s call
  call_joined =
      let it = reply_here w X Z own in
      record {
        some = some;
        state = it.state ∙ sym (reply_row e.role h.moved.does.row).is ∙ sym (ap state_of (asked_state e.role m.remote moment));
        tunnel = it.tunnel;
        remote = it.remote ∙ sym (known_name del.from.node m.remote known)
            ∙ sym (ap₂ name_of del.node (asked_remote e.role m.remote moment));
      }

  -- the request came from the tunnel's peer
  asks_there : node_of m.peer ≡ del.from.node
  asks_there =
      ap node_of (h.moved.does.peer ∙ (h.moved.within.end.live i t h.moved.does.there).peer)
      ∙ node_again (accs n i).peer (h.moved.within.accounts n i).peer ∙ del.node

  -- a call that isn't yet replies to none
  no_mate : w.calls.mate Z ≡ 0
  no_mate = ((world_holds laws.births w h.joined.moves h.joined.run).calls.nameless Z new).mate

  reply_joined : ReplyJoined v n m
  reply_joined = record { session = fits; some = known; mate = rw asks_there (reply_births w X Z own).mate_here }

  births : BirthsFollow w v n e x (move.Replied m)
  births = record {
    go = (
      reply_role e.role h.moved.does.row,
      fits,
      rw asks_there del.fits,
      del.written.0,
      rw asks_there (reply_births w X Z own),
    );
    role = role_is;
    rises = rw next (let is = drawn.0 in omega arith);
    mates = λ z had. (reply_births w X Z own).mate z (λ is. had (ap w.calls.mate is ∙ no_mate));
    replies = λ r is. (let same : m ≡ r = cc in subst (λ q. ReplyJoined v n q) same reply_joined);
  }

  pub replied_follows : Follows w n e x (move.Replied m) (after accs d) (with_end ends n x)
  replied_follows =
      let is = account_is accs ends w n e x sender moment ev (move.Replied m) d h (λ k j. refl) v t u h.moved.does.there in
      let one : OneCall w v n i (accs n i).peer e x t u s = record {
        there = h.moved.does.there;
        put_is = ap (λ (y : End). y.tunnels) h.moved.does.after;
        role = role_is;
        rises = omega (arith, next, drawn.0);
        most = omega (arith, next, fits);
        some = some;
        below = omega (arith, next);
        others = λ q other. at_other t.calls s call q other;
        waits = λ one. one;
        mine = inl (omega (arith, drawn.0));
        calls = λ k q kfits qfits other. reply_same w X Z own (name k q) (other_name k q n s qfits fits other);
        here = rw (at_new t.calls s call) (
          call_joined,
          fits_as x.role e.role call.state (row_of_none e.role call_event.IcrqAcc).0 role_is (asked_state e.role m.remote moment)
              (reply_row e.role h.moved.does.row).fits,
          λ one. (let three = h.moved.does.open_is in absurd (omega (arith, one, three))),
        );
      } in
      let speaks = hears_and_says d n e.role sender (move.Replied m) m.taken (accs n i) (after accs d n i) h.moved.deed del.is_open is in
      one_call_follows accs ends w n e x sender moment ev (move.Replied m) d h (λ k j. refl) v t u s births
      (subst (λ p. OneCall w v n i p e x t u s) (sym speaks.moves.peer) one)
      (speaks_goes accs ends w n e x sender moment ev (move.Replied m) d h (λ k j. refl) v t u h.moved.does.there
      (letters_of e.role (config_of n 0 None false) (move.Replied m)) 1
      (rw del.node (calls_take_and_give w X (with_reply w X Z own) (Reply Z own) old.entered (reply_asks w X Z own)))
      speaks refl (Delivers X S 0 (length (accs n i).taken) Z)
      (del.is Z ∙ takes_request w X S own Z (old.phase ∙ open_phase t.control.state h.moved.does.open_is) (name_some n s some) new))
