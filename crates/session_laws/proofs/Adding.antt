-- A LAC's call is made, in the machine too.
use Rattle.std.proofs.Common.{◌≡◌, ◌⊎◌, inl, ⊎_elim, ℕ, ◌+◌, ◌<◌, ◌≤◌, true, false, [], refl, sym, ap, ◌∙◌, subst, Option, Some, arith, eq-eqb, ne_eqb}
use Rattle.std.proofs.lemmas.Bool.{lt-ltb}
use Rattle.std.specs.Prelude.{◌||◌}
use Rattle.id_source.specs.Spaces.{Space, draw_is, next_is}
use Rattle.id_table.specs.Ids.{put}
use Rattle.id_table.specs.Order.{at_new, at_other}
use Rattle.call_fsm.specs.declared.table.CallState.TheVariants.{WaitTunnel}
use Rattle.tunnel_fsm.specs.declared.table.TunnelState.{TunnelState}
use Rattle.tunnel_fsm.specs.declared.table.TunnelState.TheVariants as tunnel
use Rattle.tunnel_fsm.specs.Rows.{state_number}
use Rattle.end_model.specs.declared.event.Event.{Event}
use Rattle.end_model.specs.declared.moves.Added.{Added}
use Rattle.end_model.specs.declared.moves.Move.TheVariants as move
use Rattle.end_model.specs.declared.tunnel.Call.{Call}
use Rattle.end_names.specs.declared.role.Role.{Role}
use Rattle.end_names.specs.declared.role.Role.TheVariants.{Lac}
use Rattle.end_model.specs.Calls.{rung}
use Rattle.end_model.specs.Tunnels.{Tunnel}
use Rattle.end_model.specs.End.{End}
use Rattle.world_model.specs.World.{Sender, Deed}
use Rattle.epoch_machine.specs.Tunnels.{is_open, is_wait_reply}
use Rattle.epoch_machine.specs.Calls.{Waits, is_born}
use Rattle.epoch_machine.specs.Worlds.{World, all_rules}
use Rattle.epoch_machine.specs.Moves.{AddsCall, step, may_add, adds_call}
use Rattle.step_laws.specs.Callers.{wanted_by_lac}
use Rattle.connection_laws.specs.Facts.{Accounts}
use Rattle.connection_laws.specs.Steps.{after}
use Rattle.session_laws.specs.Names.{name, phase_of, state_of}
use Rattle.session_laws.specs.Joined.{Ends, TunnelJoined, CallJoined, FitsRole, CallsJoined}
use Rattle.session_laws.proofs.Births.{IsBorn, BirthsFollow}
use Rattle.session_laws.proofs.Keeps.{with_end, Laws, IsMade, Follows}
use Rattle.session_laws.proofs.Names.{other_name, name_some}
use Rattle.session_laws.proofs.Ground.{joined_before}
use Rattle.session_laws.proofs.Heard.{here_joined}
use Rattle.session_laws.proofs.CallRows.{rung_row, rung_remote}
use Rattle.session_laws.proofs.CallGround.{CallSame, OneCall, TunnelGoes, one_call_follows}
use Rattle.session_laws.proofs.CallSpeaks.{AccountSpeaks, calls_only, says_nothing, speaks_goes, account_is}
use Rattle.session_laws.proofs.CallLaws.{world_holds}

-- ---- what the machine does

abbrev with_call : World → ℕ → ℕ → World
with_call w x z = record w { calls = is_born w.calls x z }

adds_is : (w : World) (x z : ℕ) → (is_open (w.tunnels.phase x) || is_wait_reply (w.tunnels.phase x)) ≡ true → 0 < z → w.calls.drawn z ≡ false
    → step all_rules w (AddsCall x z) ≡ with_call w x z
unfolding step may_add adds_call
adds_is w x z goes some new = rw (goes, lt-ltb 0 z some, new) refl

added_asks : (w : World) (x z y k : ℕ) → (is_born w.calls x z).asks y k ≡ w.calls.asks y k
unfolding is_born
added_asks w x z y k = refl

added_other : (w : World) (x z q : ℕ) → (q ≡ z → ⊥) → CallSame w (with_call w x z) q
unfolding is_born
added_other w x z q other = record {
  drawn = rw (ne_eqb q z other) refl;
  tunnel = rw (ne_eqb q z other) refl;
  remote = refl;
  state = rw (ne_eqb q z other) refl;
}

added_here : (w : World) (n i peer s : ℕ) (c : Call) → 0 < s → state_of c.state ≡ Waits → c.remote ≡ 0 → w.calls.remote (name n s) ≡ 0
    → CallJoined (with_call w (name n i) (name n s)) n i peer s c
unfolding is_born
added_here w n i peer s c some waits unknown none = record {
  some = some;
  state = rw (eq-eqb (name n s) (name n s) refl, waits) refl;
  tunnel = rw (eq-eqb (name n s) (name n s) refl) refl;
  remote = rw unknown none;
}

added_births : (w : World) (x z : ℕ) → IsBorn w (with_call w x z) z
unfolding is_born
added_births w x z = record {
  count = omega arith;
  here = rw (eq-eqb z z refl) (omega arith);
  birth = λ k other. rw (ne_eqb k z other) refl;
  mate = λ k. refl;
  remote = λ k. refl;
}

-- a tunnel that is open, or waits for its SCCRP
goes_phase : (s : TunnelState) → (state_number s ≡ 3) ⊎ (state_number s ≡ 1) → (is_open (phase_of s) || is_wait_reply (phase_of s)) ≡ true
goes_phase tunnel.Idle h = absurd (⊎_elim (λ (k : 0 ≡ 3). omega (arith, k)) (λ (k : 0 ≡ 1). omega (arith, k)) h)
goes_phase tunnel.WaitCtlReply h = refl
goes_phase tunnel.WaitCtlConn h = absurd (⊎_elim (λ (k : 2 ≡ 3). omega (arith, k)) (λ (k : 2 ≡ 1). omega (arith, k)) h)
goes_phase tunnel.Established h = refl
goes_phase tunnel.Closed h = absurd (⊎_elim (λ (k : 4 ≡ 3). omega (arith, k)) (λ (k : 4 ≡ 1). omega (arith, k)) h)

-- ---- in the end

module _ (laws : Laws) (accs : Accounts) (ends : Ends) (w : World) (n : ℕ) (e x : End) (sender : Option Sender) (moment : ℕ) (ev : Event)
    (m : Added) (d : Deed) (h : IsMade accs ends w n e x sender moment ev (move.Added m) d) where
  abbrev i : ℕ
  i = m.tunnel

  abbrev s : ℕ
  s = m.session

  abbrev t : Tunnel
  t = h.moved.does.tunnel

  abbrev c : Call
  c = rung e.role m.subscriber moment

  abbrev u : Tunnel
  u = record t { calls = put t.calls s c }

  abbrev X : ℕ
  X = name n i

  abbrev Z : ℕ
  Z = name n s

  abbrev v : World
  v = with_call w X Z

  old : CallsJoined w accs n e
  old = joined_before accs ends w n e x sender moment ev (move.Added m) d h

  here : TunnelJoined w n i (accs n i) (Some t)
  here = here_joined accs ends w n e x sender moment ev (move.Added m) d h i t h.moved.does.there

  -- the session is the next one, which was never drawn
  session : (s ≡ e.session_ids.next) × (s ≤ e.session_ids.last)
  session = draw_is e.session_ids s h.moved.does.drawn

  some : 0 < s
  some = let first = h.moved.within.end.first_session in let is = session.0 in omega arith

  fits : s < 65536
  fits = let last = h.moved.within.end.last_session in let le = session.1 in omega arith

  new : w.calls.drawn Z ≡ false
  new = old.undrawn s (let is = session.0 in omega arith) fits

  -- so nothing is known under its name
  unknown : w.calls.remote Z ≡ 0
  unknown = ((world_holds laws.births w h.joined.moves h.joined.run).calls.nameless Z new).remote

  lac : e.role ≡ Lac
  lac = wanted_by_lac e ev t.control.peer h.moved.does.wants

  waits : c.state ≡ WaitTunnel
  waits = rw lac (rung_row m.subscriber moment)

  does : step all_rules w (AddsCall X Z) ≡ v
  does = adds_is w X Z (rw here.phase (goes_phase t.control.state h.moved.does.goes)) (name_some n s some) new

  says : AccountSpeaks (accs n i) (after accs d n i) [] 0
  says = says_nothing (accs n i) (after accs d n i)
      (account_is accs ends w n e x sender moment ev (move.Added m) d h (λ k j. refl) v t u h.moved.does.there)

  goes : TunnelGoes accs (after accs d) w v n i u
  goes = speaks_goes accs ends w n e x sender moment ev (move.Added m) d h (λ k j. refl) v t u h.moved.does.there [] 0
      (calls_only w X (is_born w.calls X Z) (added_asks w X Z)) says refl (AddsCall X Z) does

  next : x.session_ids.next ≡ s + 1
  next = ap (λ (y : End). y.session_ids.next) h.moved.does.after ∙ ap (λ (ids : Space). ids.next) (next_is e.session_ids s h.moved.does.drawn)

  role : x.role ≡ e.role
  role = ap (λ (y : End). y.role) h.moved.does.after

  fits_role : FitsRole e.role c.state
  fits_role = subst (λ q. FitsRole e.role q) (sym waits) (subst (λ (r : Role). FitsRole r WaitTunnel) (sym lac) tt)

  one : OneCall w v n i (after accs d n i).peer e x t u s
  one = record {
    there = h.moved.does.there;
    put_is = ap (λ (y : End). y.tunnels) h.moved.does.after;
    role = role;
    rises = (let is = session.0 in rw next (omega arith));
    most = (let lt = fits in rw next (omega arith));
    some = some;
    below = rw next (omega arith);
    others = λ q other. at_other t.calls s c q other;
    waits = λ first. first;
    mine = inl (let is = session.0 in omega arith);
    calls = λ k q kfits qfits apart. added_other w X Z (name k q) (other_name k q n s qfits fits apart);
    here = rw (at_new t.calls s c) (
      added_here w n i (after accs d n i).peer s c some (ap state_of waits) (rung_remote e.role m.subscriber moment) unknown,
      rw role fits_role,
      λ first. waits,
    );
  }

  births : BirthsFollow w v n e x (move.Added m)
  births = record {
    go = (fits, added_births w X Z);
    role = role;
    rises = (let is = session.0 in rw next (omega arith));
    mates = λ z other. (added_births w X Z).mate z;
    replies = λ r no. absurd cc;
  }

  pub added_follows : Follows w n e x (move.Added m) (after accs d) (with_end ends n x)
  added_follows = one_call_follows accs ends w n e x sender moment ev (move.Added m) d h (λ k j. refl) v t u s births one goes
