-- A call ends and its peer is told, in the machine too.
use Rattle.std.proofs.Common.{◌≡◌, inr, ⊎_elim, ℕ, true, false, List, [], ◌∷◌, refl, sym, ap, ◌∙◌, Option, Some, arith, None}
use Rattle.std.proofs.lemmas.Option.{none-some}
use Rattle.id_table.specs.Ids.{at, without, at-none}
use Rattle.id_table.specs.Order.{at_without_other, at_without_same}
use Rattle.control_message.specs.declared.message.Message.TheVariants as message
use Rattle.tunnel_fsm.specs.Rows.{state_number}
use Rattle.end_model.specs.declared.event.Event.{Event}
use Rattle.end_model.specs.declared.moves.EndTold.{EndTold}
use Rattle.end_model.specs.declared.moves.Move.TheVariants as move
use Rattle.end_model.specs.declared.tunnel.Call.{Call}
use Rattle.end_model.specs.Tunnels.{Tunnel}
use Rattle.end_model.specs.End.{End}
use Rattle.world_model.specs.World.{Sender, Deed, config_of}
use Rattle.step_laws.specs.Letters.{letters_of}
use Rattle.step_laws.specs.Moves.{with_letter}
use Rattle.epoch_machine.specs.Letters as letter
use Rattle.epoch_machine.specs.Tunnels.{Open}
use Rattle.epoch_machine.specs.Calls as calls
use Rattle.epoch_machine.specs.Calls.{is_call, lives, waits}
use Rattle.epoch_machine.specs.Worlds.{World, all_rules, gives}
use Rattle.epoch_machine.specs.Moves.{EndsTold, step, may_end_told, ends_told, ends_call}
use Rattle.connection_laws.specs.Accounts.{Part, Unmade, Opener, Acceptor, Account}
use Rattle.connection_laws.specs.Facts.{Accounts, IsInState, LiveOk}
use Rattle.connection_laws.specs.Steps.{after}
use Rattle.session_laws.specs.Names.{name, name_of}
use Rattle.session_laws.specs.Joined.{Ends, TunnelJoined, CallJoined, CallsJoined}
use Rattle.session_laws.proofs.Births.{BirthsSame, else_follow}
use Rattle.session_laws.proofs.Keeps.{with_end, Laws, IsMade, Follows}
use Rattle.session_laws.proofs.Names.{other_name, known_name}
use Rattle.session_laws.proofs.Ground.{joined_before}
use Rattle.session_laws.proofs.Heard.{here_joined, open_phase}
use Rattle.session_laws.proofs.CallRows.{IsTold, told_row}
use Rattle.session_laws.proofs.CallGround.{CallSame, OneCall, TunnelGoes, one_call_follows}
use Rattle.session_laws.proofs.CallSpeaks.{Speaks, AccountSpeaks, calls_and_give, says_one, speaks_goes, account_is}
use Rattle.session_laws.proofs.EndingSilent.{ended, ended_asks, ended_other, ended_here, ended_births}

-- ---- what the machine does

-- calls don't change where a letter is given
pub given_same : (w k : World) (x : ℕ) (l : letter.Letter) (q : ℕ) → CallSame w k q → CallSame w (gives k x l) q
unfolding gives
given_same w k x l q same = record {
  drawn = same.drawn;
  tunnel = same.tunnel;
  remote = same.remote;
  state = same.state;
}

given_state : (k : World) (x : ℕ) (l : letter.Letter) (q : ℕ) → (gives k x l).calls.state q ≡ k.calls.state q
unfolding gives
given_state k x l q = refl

given_births : (w k : World) (x : ℕ) (l : letter.Letter) → BirthsSame w k → BirthsSame w (gives k x l)
unfolding gives
given_births w k x l same = record { count = same.count; birth = same.birth; mate = same.mate; remote = same.remote }

-- the call of tunnel x that knows the other end's as r
abbrev ended_told : World → ℕ → ℕ → ℕ → World
ended_told w x z r = gives (ended w z) x (letter.Cdn z r)

told_is : (w : World) (x z r : ℕ) → w.calls.tunnel z ≡ x → w.calls.remote z ≡ r → w.tunnels.phase x ≡ Open → lives (w.calls.state z) ≡ true
    → waits (w.calls.state z) ≡ false → step all_rules w (EndsTold z) ≡ ended_told w x z r
unfolding step may_end_told ends_told ends_call
told_is w x z r tunnel remote open_is alive asked = rw (tunnel, remote, open_is, alive, asked) refl

-- ---- the tunnel is open

none_there : (cs : List (ℕ × Call)) (s : ℕ) (c : Call) → cs ≡ [] → at cs s ≡ Some c → ⊥
none_there cs s c none there = none-some c (sym (at-none s) ∙ sym (ap (λ ks. at ks s) none) ∙ there)

-- a tunnel that has a call is to open by its opener, or open
open_or_first : (accs : Accounts) (i : ℕ) (a : Account) (t : Tunnel) (s : ℕ) (c : Call) → at t.calls s ≡ Some c
    → (state_number t.control.state ≡ 1 → ⊥) → (p : Part) → IsInState accs i a t p → state_number t.control.state ≡ 3
open_or_first accs i a t s c there other Unmade h = absurd h
open_or_first accs i a t s c there other Opener h = ⊎_elim
    (λ one. absurd (other one.0))
    (λ more. ⊎_elim (λ three. three.0) (λ four. absurd (none_there t.calls s c four.2 there)) more)
    h
open_or_first accs i a t s c there other Acceptor h = ⊎_elim
    (λ two. absurd (none_there t.calls s c two.1 there))
    (λ more. ⊎_elim (λ three. three.0) (λ four. absurd (none_there t.calls s c four.2 there)) more)
    h

-- ---- in the end

module _ (laws : Laws) (accs : Accounts) (ends : Ends) (w : World) (n : ℕ) (e x : End) (sender : Option Sender) (moment : ℕ) (ev : Event)
    (m : EndTold) (d : Deed) (h : IsMade accs ends w n e x sender moment ev (move.EndTold m) d) where
  abbrev i : ℕ
  i = m.tunnel

  abbrev s : ℕ
  s = m.session

  abbrev t : Tunnel
  t = h.moved.does.tunnel

  abbrev c : Call
  c = h.moved.does.call

  abbrev with_cdn : Tunnel
  with_cdn = with_letter m.remote (message.Cdn m.session m.result m.error) t

  abbrev u : Tunnel
  u = record with_cdn { calls = without t.calls s }

  abbrev X : ℕ
  X = name n i

  abbrev Z : ℕ
  Z = name n s

  abbrev R : ℕ
  R = name_of (accs n i).peer m.remote

  abbrev v : World
  v = ended_told w X Z R

  old : CallsJoined w accs n e
  old = joined_before accs ends w n e x sender moment ev (move.EndTold m) d h

  here : TunnelJoined w n i (accs n i) (Some t)
  here = here_joined accs ends w n e x sender moment ev (move.EndTold m) d h i t h.moved.does.there

  live : LiveOk accs n i (accs n i) t
  live = h.moved.within.end.live i t h.moved.does.there

  call : CallJoined w n i (accs n i).peer s c
  call = old.live i t h.moved.does.there s c h.moved.does.live

  told : IsTold c.state
  told = told_row e.role c.state h.moved.does.on (old.roles i t h.moved.does.there s c h.moved.does.live) h.moved.does.row

  -- as long as a tunnel isn't open, its calls wait
  open_is : state_number t.control.state ≡ 3
  open_is = open_or_first accs i (accs n i) t s c h.moved.does.live
      (λ first. told.other (old.waiting i t h.moved.does.there first s c h.moved.does.live)) (accs n i).part live.state

  -- the letter names the call
  named : name_of n s ≡ Z
  named = known_name n s call.some

  speaks : Speaks w v X (letter.Cdn (name_of n s) R ∷ []) 0
  speaks = rw named (calls_and_give w X (calls.ends w.calls (is_call Z)) (letter.Cdn Z R) here.entered (ended_asks w Z))

  does : step all_rules w (EndsTold Z) ≡ v
  does = told_is w X Z R call.tunnel (call.remote ∙ sym (ap (λ r. name_of (accs n i).peer r) h.moved.does.remote))
      (here.phase ∙ open_phase t.control.state open_is) (ap lives call.state ∙ told.lives) (ap waits call.state ∙ told.asked)

  says : AccountSpeaks (accs n i) (after accs d n i) (letters_of e.role (config_of n 0 None false) (move.EndTold m)) 0
  says = says_one d n e.role sender (move.EndTold m) (accs n i) (after accs d n i) h.moved.deed
      (account_is accs ends w n e x sender moment ev (move.EndTold m) d h (λ k j. refl) v t u h.moved.does.there)

  goes : TunnelGoes accs (after accs d) w v n i u
  goes = speaks_goes accs ends w n e x sender moment ev (move.EndTold m) d h (λ k j. refl) v t u h.moved.does.there
      (letters_of e.role (config_of n 0 None false) (move.EndTold m)) 0 speaks says refl (EndsTold Z) does

  sessions : x.session_ids ≡ e.session_ids
  sessions = ap (λ (y : End). y.session_ids) h.moved.does.after

  one : OneCall w v n i (after accs d n i).peer e x t u s
  one = record {
    there = h.moved.does.there;
    put_is = ap (λ (y : End). y.tunnels) h.moved.does.after;
    role = ap (λ (y : End). y.role) h.moved.does.after;
    rises = rw sessions (omega arith);
    most = rw sessions old.most;
    some = call.some;
    below = rw sessions (old.drawn i t h.moved.does.there s c h.moved.does.live);
    others = λ q other. at_without_other t.calls s q other;
    waits = λ first. first;
    mine = inr (c, h.moved.does.live);
    calls = λ k q kfits qfits apart.
        given_same w (ended w Z) X (letter.Cdn Z R) (name k q)
        (ended_other w Z (name k q) (other_name k q n s qfits h.moved.does.session apart));
    here = rw (at_without_same t.calls s live.order) (given_state (ended w Z) X (letter.Cdn Z R) Z ∙ ended_here w Z);
  }

  pub end_told_follows : Follows w n e x (move.EndTold m) (after accs d) (with_end ends n x)
  end_told_follows = one_call_follows accs ends w n e x sender moment ev (move.EndTold m) d h (λ k j. refl) v t u s
      (else_follow w v n e x (move.EndTold m) tt (given_births w (ended w Z) X (letter.Cdn Z R) (ended_births w Z))
      (ap (λ (y : End). y.role) h.moved.does.after) sessions) one goes
