-- A call ends and nobody is told, in the machine too: in a run it waits for its tunnel.
use Rattle.std.proofs.Common.{◌≡◌, inr, ⊎_elim, ℕ, ◌<◌, Bool, true, false, [], refl, ap, ap₂, ◌∙◌, subst, Option, arith, eq-eqb, ne_eqb}
use Rattle.std.specs.Prelude.{◌||◌, not}
use Rattle.id_table.specs.Ids.{without}
use Rattle.id_table.specs.Order.{at_without_other, at_without_same}
use Rattle.control_message.specs.declared.message.Message.TheVariants as message
use Rattle.call_fsm.specs.declared.table.CallEvent.TheVariants as call_event
use Rattle.end_model.specs.declared.event.Event.{Event}
use Rattle.end_model.specs.declared.moves.EndSilent.{EndSilent}
use Rattle.end_model.specs.declared.moves.Move.TheVariants as move
use Rattle.end_model.specs.declared.tunnel.Call.{Call}
use Rattle.end_names.specs.declared.role.Role.TheVariants.{Lac}
use Rattle.end_model.specs.Calls.{row_for, is_told, is_clean_up}
use Rattle.end_model.specs.Tunnels.{Tunnel, mode_of, is_current}
use Rattle.end_model.specs.End.{End}
use Rattle.world_model.specs.World.{Sender, Deed}
use Rattle.step_laws.specs.Moves.{InTunnel, WhyEnds, IsLate, IsDropped, IsHungUp, IsAsked, IsReplied, IsConnected, IsEnded, HasFault, fault_event}
use Rattle.epoch_machine.specs.Tunnels.{is_active}
use Rattle.epoch_machine.specs.Calls as calls
use Rattle.epoch_machine.specs.Calls.{NoCall, Waits, is_call}
use Rattle.epoch_machine.specs.Worlds.{World, all_rules}
use Rattle.epoch_machine.specs.Moves.{EndsSilent, step, may_end_silent, ends_call}
use Rattle.end_model.specs.Reading.{CallFault}
use Rattle.frame_laws.specs.Unrecovered.{none_is_current}
use Rattle.session_laws.proofs.Alike.{alike_giver}
use Rattle.connection_laws.specs.Facts.{Accounts, LiveOk}
use Rattle.connection_laws.specs.Steps.{after}
use Rattle.session_laws.specs.Names.{name, state_of}
use Rattle.session_laws.specs.Joined.{Ends, CallJoined, CallsJoined}
use Rattle.session_laws.proofs.Births.{BirthsSame, else_follow}
use Rattle.session_laws.proofs.Keeps.{with_end, Laws, IsMade, Follows}
use Rattle.session_laws.proofs.Names.{other_name}
use Rattle.session_laws.proofs.Ground.{joined_before}
use Rattle.session_laws.proofs.Roles.{lac_not_lns, Giver, giver_of, fits_before}
use Rattle.session_laws.proofs.Heard.{GaveReply, reply_given, replies_role}
use Rattle.session_laws.proofs.CallRows.{IsSilent, AsWaiting, OnConnection, OnFaultyConnection, OnCdn, silent_row, else_waits}
use Rattle.session_laws.proofs.CallGround.{CallSame, OneCall, TunnelGoes, one_call_follows}
use Rattle.session_laws.proofs.CallSpeaks.{AccountSpeaks, calls_only, says_nothing, speaks_goes, account_is}

-- ---- a call ends in the machine

abbrev pub ended : World → ℕ → World
ended w z = record w { calls = calls.ends w.calls (is_call z) }

pub ended_asks : (w : World) (z y k : ℕ) → (ended w z).calls.asks y k ≡ w.calls.asks y k
unfolding calls.ends
ended_asks w z y k = refl

pub ended_other : (w : World) (z q : ℕ) → (q ≡ z → ⊥) → CallSame w (ended w z) q
unfolding calls.ends
ended_other w z q other = record {
  drawn = refl;
  tunnel = refl;
  remote = refl;
  state = rw (ne_eqb q z other) refl;
}

pub ended_here : (w : World) (z : ℕ) → (ended w z).calls.state z ≡ NoCall
unfolding calls.ends
ended_here w z = rw (eq-eqb z z refl) refl

pub ended_births : (w : World) (z : ℕ) → BirthsSame w (ended w z)
unfolding calls.ends
ended_births w z = record { count = refl; birth = λ k. refl; mate = λ k. refl; remote = λ k. refl }

either : (b : Bool) → (b || true) ≡ true
either true = refl
either false = refl

silent_is : (w : World) (z : ℕ) → w.calls.state z ≡ Waits → step all_rules w (EndsSilent z) ≡ ended w z
unfolding step may_end_silent ends_call
silent_is w z waits = rw (waits, either (not (is_active (w.tunnels.phase (w.calls.tunnel z))))) refl

-- ---- in the end

module _ (laws : Laws) (accs : Accounts) (ends : Ends) (w : World) (n : ℕ) (e x : End) (sender : Option Sender) (moment : ℕ) (ev : Event)
    (m : EndSilent) (d : Deed) (h : IsMade accs ends w n e x sender moment ev (move.EndSilent m) d) where
  abbrev i : ℕ
  i = m.tunnel

  abbrev s : ℕ
  s = m.session

  abbrev t : Tunnel
  t = h.moved.does.tunnel

  abbrev c : Call
  c = h.moved.does.call

  abbrev u : Tunnel
  u = record t { calls = without t.calls s }

  abbrev X : ℕ
  X = name n i

  abbrev Z : ℕ
  Z = name n s

  abbrev v : World
  v = ended w Z

  old : CallsJoined w accs n e
  old = joined_before accs ends w n e x sender moment ev (move.EndSilent m) d h

  live : LiveOk accs n i (accs n i) t
  live = h.moved.within.end.live i t h.moved.does.there

  call : CallJoined w n i (accs n i).peer s c
  call = old.live i t h.moved.does.there s c h.moved.does.live

  -- no call of a LAC's hears of a connection: only who took its reply connects a call, and a LAC gives none
  no_connection : e.role ≡ Lac → (speed framing : ℕ) (sequenced : Bool) → InTunnel ev t.control s (message.Iccn speed framing sequenced) → ⊥
  no_connection lac speed framing sequenced hears =
      let k = laws.letters accs n e sender ev h.moved.within i t h.moved.does.there s (message.Iccn speed framing sequenced) tt tt hears in
      let b = accs k.from.node k.from.tunnel in
      let giver : Giver b (message.Iccn speed framing sequenced) =
      alike_giver b k.letter.message (message.Iccn speed framing sequenced) k.message_is
      (giver_of (ends k.from.node) b k.number k.letter (h.joined.fit k.from.node k.from.tunnel) k.there) in
      let ok = h.moved.within.accounts k.from.node k.from.tunnel in
      let gave = reply_given accs b ok.taken ok.ignored giver.says.1 in
      let fits = fits_before accs ends w n e x sender moment ev (move.EndSilent m) d h i in
      lac_not_lns e.role lac (replies_role e.role (accs n i) fits (subst GaveReply (ap₂ accs k.goes k.learned) gave))

  -- so the call waits for its tunnel
  waits_by : IsSilent e.role c.state h.moved.does.on → WhyEnds e t ev moment s c h.moved.does.on h.moved.does.result h.moved.does.error
      → state_of c.state ≡ Waits
  waits_by silent (HasFault header f faulty is result error) =
      let r = laws.faulty accs n e sender ev h.moved.within t.control header f faulty in
      else_waits e.role c.state h.moved.does.on call_event.IcrqNotAcc silent (is ∙ ap (λ (y : CallFault). fault_event y.kind) r.1) refl
  waits_by silent (IsLate late is result error) = else_waits e.role c.state h.moved.does.on call_event.Close silent is refl
  waits_by silent (IsEnded why done is result error) = else_waits e.role c.state h.moved.does.on call_event.Close silent is refl
  waits_by silent (IsDropped dropped is result error) = else_waits e.role c.state h.moved.does.on call_event.Close silent is refl
  waits_by silent (IsHungUp hung is result error) = else_waits e.role c.state h.moved.does.on call_event.LineDrop silent is refl
  waits_by silent (IsAsked remote serial calling hears is result error) = else_waits e.role c.state h.moved.does.on call_event.IcrqAcc silent is refl
  waits_by silent (IsReplied remote hears is result error) = else_waits e.role c.state h.moved.does.on call_event.IcrpAcc silent is refl
  waits_by (AsWaiting waits) (IsConnected speed framing sequenced hears is result error) = waits
  waits_by (OnConnection lac on) (IsConnected speed framing sequenced hears is result error) = absurd (no_connection lac speed framing sequenced hears)
  waits_by (OnFaultyConnection on) (IsConnected speed framing sequenced hears is result error) = absurd cc
  waits_by (OnCdn on) (IsConnected speed framing sequenced hears is result error) = absurd cc

  -- the tunnel has no recovery tunnel: so it isn't that nobody may be told
  clean : is_clean_up (row_for e.role c h.moved.does.on).1 ≡ true
  clean = ⊎_elim
      (λ row. row)
      (λ (k : (is_told (row_for e.role c h.moved.does.on).1 ≡ true) × (is_current (mode_of t.recovery) ≡ false)).
      absurd (none_is_current t live.recovery k.1))
      h.moved.does.row

  does : step all_rules w (EndsSilent Z) ≡ v
  does = silent_is w Z (call.state
      ∙ waits_by (silent_row e.role c.state h.moved.does.on (old.roles i t h.moved.does.there s c h.moved.does.live) clean) h.moved.does.why)

  says : AccountSpeaks (accs n i) (after accs d n i) [] 0
  says = says_nothing (accs n i) (after accs d n i)
      (account_is accs ends w n e x sender moment ev (move.EndSilent m) d h (λ k j. refl) v t u h.moved.does.there)

  goes : TunnelGoes accs (after accs d) w v n i u
  goes = speaks_goes accs ends w n e x sender moment ev (move.EndSilent m) d h (λ k j. refl) v t u h.moved.does.there [] 0
      (calls_only w X (calls.ends w.calls (is_call Z)) (ended_asks w Z)) says refl (EndsSilent Z) does

  sessions : x.session_ids ≡ e.session_ids
  sessions = ap (λ (y : End). y.session_ids) h.moved.does.after

  below : s < e.session_ids.next
  below = old.drawn i t h.moved.does.there s c h.moved.does.live

  fits : s < 65536
  fits = let lt = below in let most = old.most in omega arith

  one : OneCall w v n i (after accs d n i).peer e x t u s
  one = record {
    there = h.moved.does.there;
    put_is = ap (λ (y : End). y.tunnels) h.moved.does.after;
    role = ap (λ (y : End). y.role) h.moved.does.after;
    rises = rw sessions (omega arith);
    most = rw sessions old.most;
    some = call.some;
    below = rw sessions below;
    others = λ q other. at_without_other t.calls s q other;
    waits = λ first. first;
    mine = inr (c, h.moved.does.live);
    calls = λ k q kfits qfits apart. ended_other w Z (name k q) (other_name k q n s qfits fits apart);
    here = rw (at_without_same t.calls s live.order) (ended_here w Z);
  }

  pub end_silent_follows : Follows w n e x (move.EndSilent m) (after accs d) (with_end ends n x)
  end_silent_follows = one_call_follows accs ends w n e x sender moment ev (move.EndSilent m) d h (λ k j. refl) v t u s
      (else_follow w v n e x (move.EndSilent m) tt (ended_births w Z) (ap (λ (y : End). y.role) h.moved.does.after) sessions) one goes
