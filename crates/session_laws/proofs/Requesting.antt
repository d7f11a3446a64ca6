-- A call is requested, in the machine too.
use Rattle.std.proofs.Common.{◌≡◌, inr, ℕ, [], ◌∷◌, refl, sym, ap, ◌∙◌, subst, Option, Some, arith, eq-eqb, ne_eqb, None, false}
use Rattle.id_table.specs.Ids.{put}
use Rattle.id_table.specs.Order.{at_new, at_other}
use Rattle.call_fsm.specs.declared.table.CallEvent.TheVariants.{TunnelOpen}
use Rattle.end_model.specs.declared.event.Event.{Event}
use Rattle.end_model.specs.declared.moves.Requested.{Requested}
use Rattle.end_model.specs.declared.moves.Move.TheVariants as move
use Rattle.end_model.specs.declared.tunnel.Call.{Call}
use Rattle.end_names.specs.declared.role.Role.{Role}
use Rattle.end_model.specs.Calls.{row_for, advanced}
use Rattle.end_model.specs.Tunnels.{Tunnel}
use Rattle.end_model.specs.Messages.{request_of}
use Rattle.end_model.specs.End.{End}
use Rattle.world_model.specs.World.{Sender, Deed, config_of}
use Rattle.step_laws.specs.Letters.{letters_of}
use Rattle.step_laws.specs.Moves.{with_letter_as}
use Rattle.epoch_machine.specs.Letters.{Request}
use Rattle.epoch_machine.specs.Tunnels.{Open}
use Rattle.epoch_machine.specs.Calls.{Waits, WaitsReply, is_asked_for}
use Rattle.epoch_machine.specs.Worlds.{World, all_rules, gives}
use Rattle.epoch_machine.specs.Moves.{Asks, step, may_ask, asks_for}
use Rattle.connection_laws.specs.Facts.{Accounts}
use Rattle.connection_laws.specs.Steps.{after}
use Rattle.session_laws.specs.Names.{name, state_of}
use Rattle.session_laws.specs.Joined.{Ends, TunnelJoined, CallJoined, FitsRole, CallsJoined}
use Rattle.session_laws.proofs.Births.{BirthsSame, else_follow}
use Rattle.session_laws.proofs.Keeps.{with_end, Laws, IsMade, Follows}
use Rattle.session_laws.proofs.Names.{other_name}
use Rattle.session_laws.proofs.Ground.{joined_before}
use Rattle.session_laws.proofs.Heard.{here_joined, open_phase}
use Rattle.session_laws.proofs.CallRows.{GoesOn, request_row, advanced_state, advanced_remote}
use Rattle.session_laws.proofs.CallGround.{CallSame, OneCall, TunnelGoes, one_call_follows}
use Rattle.session_laws.proofs.CallSpeaks.{Speaks, AccountSpeaks, calls_and_give, says_one, speaks_goes, account_is}

-- ---- what the machine does

abbrev asked : World → ℕ → ℕ → World
asked w x z = gives (record w { calls = is_asked_for w.calls z (w.tunnels.entered x) }) x (Request z)

asks_is : (w : World) (x z : ℕ) → w.calls.tunnel z ≡ x → w.tunnels.phase x ≡ Open → w.calls.state z ≡ Waits → step all_rules w (Asks z) ≡ asked w x z
unfolding step may_ask asks_for
asks_is w x z tunnel open_is waits = rw (tunnel, open_is, waits) refl

asked_asks : (w : World) (x z y k : ℕ) → (is_asked_for w.calls z (w.tunnels.entered x)).asks y k ≡ w.calls.asks y k
unfolding is_asked_for
asked_asks w x z y k = refl

asked_other : (w : World) (x z q : ℕ) → (q ≡ z → ⊥) → CallSame w (asked w x z) q
unfolding gives is_asked_for
asked_other w x z q other = record {
  drawn = refl;
  tunnel = refl;
  remote = refl;
  state = rw (ne_eqb q z other) refl;
}

asked_births : (w : World) (x z : ℕ) → BirthsSame w (asked w x z)
unfolding gives is_asked_for
asked_births w x z = record { count = refl; birth = λ k. refl; mate = λ k. refl; remote = λ k. refl }

-- a call that was there, in its new state
asked_here : (w : World) (x n i peer s : ℕ) (c b : Call) → CallJoined w n i peer s c → state_of b.state ≡ WaitsReply → b.remote ≡ c.remote
    → CallJoined (asked w x (name n s)) n i peer s b
unfolding gives is_asked_for
asked_here w x n i peer s c b h waits same = record {
  some = h.some;
  state = rw (eq-eqb (name n s) (name n s) refl, waits) refl;
  tunnel = h.tunnel;
  remote = rw same h.remote;
}

-- ---- in the end

module _ (laws : Laws) (accs : Accounts) (ends : Ends) (w : World) (n : ℕ) (e x : End) (sender : Option Sender) (moment : ℕ) (ev : Event)
    (m : Requested) (d : Deed) (h : IsMade accs ends w n e x sender moment ev (move.Requested m) d) where
  abbrev i : ℕ
  i = m.tunnel

  abbrev s : ℕ
  s = m.session

  abbrev t : Tunnel
  t = h.moved.does.tunnel

  abbrev c : Call
  c = h.moved.does.call

  abbrev b : Call
  b = advanced e.role TunnelOpen moment c

  abbrev with_call : Tunnel
  with_call = record t { calls = put t.calls s b }

  abbrev u : Tunnel
  u = with_letter_as 0 (request_of s m.subscriber) m.hidden with_call

  abbrev X : ℕ
  X = name n i

  abbrev Z : ℕ
  Z = name n s

  abbrev v : World
  v = asked w X Z

  old : CallsJoined w accs n e
  old = joined_before accs ends w n e x sender moment ev (move.Requested m) d h

  here : TunnelJoined w n i (accs n i) (Some t)
  here = here_joined accs ends w n e x sender moment ev (move.Requested m) d h i t h.moved.does.there

  call : CallJoined w n i (accs n i).peer s c
  call = old.live i t h.moved.does.there s c h.moved.does.waits

  on : GoesOn e.role c.state (row_for e.role c TunnelOpen).0 Waits WaitsReply
  on = request_row e.role c.state h.moved.does.row

  speaks : Speaks w v X (Request Z ∷ []) 0
  speaks = calls_and_give w X (is_asked_for w.calls Z (w.tunnels.entered X)) (Request Z) here.entered (asked_asks w X Z)

  does : step all_rules w (Asks Z) ≡ v
  does = asks_is w X Z call.tunnel (here.phase ∙ open_phase t.control.state h.moved.does.open_is) (call.state ∙ on.was)

  says : AccountSpeaks (accs n i) (after accs d n i) (letters_of e.role (config_of n 0 None false) (move.Requested m)) 0
  says = says_one d n e.role sender (move.Requested m) (accs n i) (after accs d n i) h.moved.deed
      (account_is accs ends w n e x sender moment ev (move.Requested m) d h (λ k j. refl) v t u h.moved.does.there)

  goes : TunnelGoes accs (after accs d) w v n i u
  goes = speaks_goes accs ends w n e x sender moment ev (move.Requested m) d h (λ k j. refl) v t u h.moved.does.there
      (letters_of e.role (config_of n 0 None false) (move.Requested m)) 0 speaks says refl (Asks Z) does

  sessions : x.session_ids ≡ e.session_ids
  sessions = ap (λ (y : End). y.session_ids) h.moved.does.after

  role : x.role ≡ e.role
  role = ap (λ (y : End). y.role) h.moved.does.after

  state : b.state ≡ (row_for e.role c TunnelOpen).0
  state = advanced_state e.role TunnelOpen moment c

  joined : CallJoined v n i (after accs d n i).peer s b
  joined = rw says.moves.peer
      (asked_here w X n i (accs n i).peer s c b call (ap state_of state ∙ on.is) (advanced_remote e.role TunnelOpen moment c))

  fits_role : FitsRole x.role b.state
  fits_role = subst (λ (r : Role). FitsRole r b.state) (sym role) (subst (λ q. FitsRole e.role q) (sym state) on.fits)

  one : OneCall w v n i (after accs d n i).peer e x t u s
  one = record {
    there = h.moved.does.there;
    put_is = ap (λ (y : End). y.tunnels) h.moved.does.after;
    role = role;
    rises = rw sessions (omega arith);
    most = rw sessions old.most;
    some = call.some;
    below = rw sessions (old.drawn i t h.moved.does.there s c h.moved.does.waits);
    others = λ q other. at_other t.calls s b q other;
    waits = λ first. first;
    mine = inr (c, h.moved.does.waits);
    calls = λ k q kfits qfits apart. asked_other w X Z (name k q) (other_name k q n s qfits h.moved.does.session apart);
    here = rw (at_new t.calls s b)
        (joined, fits_role, λ first. (let three = h.moved.does.open_is in let no : ⊥ = omega (arith, first) in absurd no));
  }

  pub requested_follows : Follows w n e x (move.Requested m) (after accs d) (with_end ends n x)
  requested_follows = one_call_follows accs ends w n e x sender moment ev (move.Requested m) d h (λ k j. refl) v t u s
      (else_follow w v n e x (move.Requested m) tt (asked_births w X Z) role sessions) one goes
