-- Each move keeps what holds of the states of calls.
use Rattle.std.proofs.Common.{◌≡◌, ◌≢◌, ◌⊎◌, inl, inr, ⊎_elim, ℕ, Bool, true, false, cond, eqb, List, None, refl, sym, ap, ◌∙◌, subst, arith}
use Rattle.std.proofs.lemmas.Bool.Decides.{nat_tests}
use Rattle.epoch_machine.specs.Letters.{Connect}
use Rattle.epoch_machine.specs.Tunnels.{Tunnels, Gone, Open, Closed, Attempts, Answers, is_established, frozen, confirms, is_confirmed, goes_down, keeps_up, keeps_down}
use Rattle.epoch_machine.specs.Calls.{Calls, NoCall, Waits, Up, ends, loses, keeps_call, of_tunnel, is_call, unfinished, is_told}
use Rattle.epoch_machine.specs.Worlds.{World, Rules, gives, took_one, leaves, connects, is_connected, takes_cdn, answers_query, takes_answer}
use Rattle.epoch_machine.specs.Moves.{Kept, TunnelDown, CallUp, may_keep, keeps, falls, keeps_all, opens, accepts, adds_call, asks_for, ends_call, ends_told, queries, freezes, resets_attempting, resets_answering, restores}
use Rattle.epoch_machine.proofs.Splits.{chosen, assigned_now, assigned_else}
use Rattle.epoch_machine.proofs.Did.{Did, idle, did_open, did_accept, did_refuse, did_take_refusal, did_take, did_take_stop, did_connect, did_confirm, did_reply, did_decline, did_first_up, did_second_up, did_hear, did_answer, did_learn, did_hello, did_close, did_clear, did_add, did_ask, did_end_told, did_end_silent, did_query, did_freeze, did_reset_attempting, did_reset_answering, did_restore, did_stop, did_start}
use Rattle.epoch_machine.proofs.Stops.{Amid, amid_first, CallTells, call_tells, all_kept}
use Rattle.epoch_laws.specs.Epochs.{EpochsHold}
use Rattle.letter_laws.proofs.Steps.{higher_attempting}
use Rattle.birth_laws.proofs.Runs.{Sound}
use Rattle.birth_laws.proofs.Stops.{of_node}
use Rattle.coverage_laws.specs.Coverage.{StatesHold}
use Rattle.coverage_laws.proofs.Phases.{opened_ok, accepted_ok, established_with_ok, established_ok, left_ok, frozen_ok, restored_ok, up_ok}
use Rattle.coverage_laws.proofs.Calls.{ends_ok, is_born_ok, is_asked_for_ok, replies_ok, is_first_up_ok, is_second_up_ok, is_told_ok}
use Rattle.coverage_laws.proofs.Falls.{falls_ok, ended_too, kept_too}
use Rattle.coverage_laws.proofs.Resets.{Resets, resets_ok}

pub is_drawn : (c : Calls) (z : ℕ) → (c.drawn z ≡ true) ⊎ (c.drawn z ≡ false)
is_drawn c z = by (c.drawn z)
  where
    by : (b : Bool) → (b ≡ true) ⊎ (b ≡ false)
    by true = inl refl
    by false = inr refl

module _ (w : World) (s : Sound w) where
  -- no calls of a tunnel whose name wasn't drawn
  no_calls_yet : (x : ℕ) → w.tunnels.drawn x ≡ false → (z : ℕ) → w.calls.tunnel z ≡ x → (w.calls.state z ≡ NoCall) × (w.calls.made z ≡ None) × (w.calls.booked z ≡ false)
  no_calls_yet x new z at = ⊎_elim (λ d. absurd (let a = s.calls.tunnel_drawn z d in let b : w.tunnels.drawn x ≡ true = ap w.tunnels.drawn (sym at) ∙ a in let f = sym b ∙ new in cc)) (λ d. let n = s.calls.nameless z d in (n.state, n.made, n.booked)) (is_drawn w.calls z)

  nothing_held : (z : ℕ) → w.calls.made z ≡ None → (x e : ℕ) → w.calls.held x e z ≡ 0
  nothing_held z m x e = zero_or (w.calls.held x e z) (λ h. (s.calls.held_call x e z h).3 m)
    where
      zero_or : (k : ℕ) → (k ≢ 0 → ⊥) → k ≡ 0
      zero_or k h = grind (arith, h)

  no_mate_yet : (z : ℕ) → w.calls.drawn z ≡ false → z ≢ 0 → (y : ℕ) → w.calls.mate y ≢ z
  no_mate_yet z d n y m = let a = s.calls.mate_drawn y (λ f. n (sym m ∙ f)) in let b : w.calls.drawn z ≡ true = ap w.calls.drawn (sym m) ∙ a in let f = sym b ∙ d in cc

  waits_unbooked : (z : ℕ) → w.calls.state z ≡ Waits → w.calls.booked z ≡ false
  waits_unbooked z h = by (w.calls.booked z) refl
    where
      by : (b : Bool) → w.calls.booked z ≡ b → b ≡ false
      by false e = refl
      by true e = absurd (s.calls.up_remote z (s.calls.booked_up z e) (s.calls.waits z h).1)

  known_up : (z : ℕ) → w.calls.state z ≡ Up → w.calls.remote z ≢ 0
  known_up z h = s.calls.up_remote z (s.calls.booked_up z (s.calls.up_booked z h))

answer_states : (w : World) (x own z : ℕ) (here : Bool) → StatesHold w.tunnels w.calls → StatesHold (takes_answer (took_one w x) x own z here).tunnels (takes_answer (took_one w x) x own z here).calls
unfolding takes_answer took_one
answer_states w x own z here ok = chosen (λ (v : World). StatesHold v.tunnels v.calls) _ _ _ (λ h. ends_ok w.tunnels (is_told w.calls x z) (is_call z) (is_told_ok w.tunnels w.calls x z ok)) (λ h. is_told_ok w.tunnels w.calls x z ok)

told_states : (r : Rules) (w : World) (z : ℕ) → StatesHold w.tunnels w.calls → StatesHold (ends_told r w z).tunnels (ends_told r w z).calls
unfolding ends_told ends_call gives
told_states r w z ok = chosen (λ (v : World). StatesHold v.tunnels v.calls) _ _ _ (λ h. ends_ok w.tunnels w.calls (is_call z) ok) (λ h. ends_ok w.tunnels w.calls (is_call z) ok)

freeze_states : (r : Rules) (w : World) (x a c own theirs : ℕ) → r.ends_at_freezes ≡ true → is_established (w.tunnels.phase x) ≡ true → StatesHold w.tunnels w.calls → StatesHold (freezes r w x a c own theirs).tunnels (freezes r w x a c own theirs).calls
unfolding freezes
freeze_states r w x a c own theirs rule p ok = subst (λ (b : Bool). StatesHold (frozen w.tunnels x a c own theirs) (cond b (ends w.calls (unfinished w.calls x)) w.calls)) (sym rule) (frozen_ok w.tunnels w.calls x a c own theirs ok p)

pub confirms_resets : (t : Tunnels) (x c : ℕ) → EpochsHold t → t.phase x ≡ Attempts (t.answered c) → t.answers c ≢ 0 → Resets t (confirms t x c) x (t.makes c)
unfolding confirms
confirms_resets t x c ep p n = record {
  above = higher_attempting t x c ep p n;
  before = ((λ h. let f = sym p ∙ h in cc), ap is_established p);
  now = assigned_now t.entered x (t.makes c);
  opens = assigned_now t.phase x Open;
  others = λ y o. (assigned_else t.phase x Open y o, assigned_else t.entered x (t.makes c) y o);
}

pub is_confirmed_resets : (t : Tunnels) (x c : ℕ) → EpochsHold t → t.phase x ≡ Answers c → Resets t (is_confirmed t x c) x (t.makes c)
unfolding is_confirmed
is_confirmed_resets t x c ep p = record {
  above = ep.answers_entered x c p;
  before = ((λ h. let f = sym p ∙ h in cc), ap is_established p);
  now = assigned_now t.entered x (t.makes c);
  opens = assigned_now t.phase x Open;
  others = λ y o. (assigned_else t.phase x Open y o, assigned_else t.entered x (t.makes c) y o);
}

ended_same : (b c : Calls) (k1 : ℕ → Bool) → ((z : ℕ) → (c.tunnel z ≡ b.tunnel z) × (c.mate z ≡ b.mate z) × (b.up z ≡ true → c.up z ≡ true)) → (z : ℕ) → ((ends c k1).tunnel z ≡ b.tunnel z) × ((ends c k1).mate z ≡ b.mate z) × (b.up z ≡ true → (ends c k1).up z ≡ true)
unfolding ends
ended_same b c k1 h z = h z

-- a node's fall
module _ (before : World) (n : ℕ) (s : Sound before) (ok : StatesHold before.tunnels before.calls) where
  abbrev FallsTo : World → Type 0
  FallsTo v = StatesHold (goes_down v.tunnels n) (loses v.calls (of_node v n)) × ((z : ℕ) → (v.calls.tunnel z ≡ before.calls.tunnel z) × (v.calls.mate z ≡ before.calls.mate z) × (before.calls.up z ≡ true → v.calls.up z ≡ true))

  fall_up : (v : World) (x y : ℕ) → FallsTo v → FallsTo (record v { tunnels = keeps_up v.tunnels x y })
  unfolding goes_down keeps_up
  fall_up v x y f = (record { state_fits = f.0.state_fits; young = f.0.young; up_lived = f.0.up_lived; made_entered = f.0.made_entered; unmade = f.0.unmade; held_older = f.0.held_older; booked_lives = f.0.booked_lives; up_first = f.0.up_first }, f.1)

  fall_ended : (v : World) (k1 : ℕ → Bool) → FallsTo v → FallsTo (record v { calls = ends v.calls k1 })
  unfolding ends
  fall_ended v k1 f = (ended_too v.tunnels v.calls n k1 f.0, ended_same before.calls v.calls k1 f.1)

  fall_down : (v : World) (x : ℕ) → FallsTo v → FallsTo (keeps v (TunnelDown x))
  unfolding keeps keeps_down goes_down
  fall_down v x f = let g = fall_ended v (of_tunnel v.calls x) f in (record { state_fits = g.0.state_fits; young = g.0.young; up_lived = g.0.up_lived; made_entered = g.0.made_entered; unmade = g.0.unmade; held_older = g.0.held_older; booked_lives = g.0.booked_lives; up_first = g.0.up_first }, g.1)

  fall_call : (v : World) (z own k : ℕ) → FallsTo v → Amid before v → may_keep before n (CallUp z own k) ≡ true → FallsTo (record v { calls = keeps_call v.calls z own })
  unfolding keeps_call
  fall_call v z own k f a may = (kept_too v.tunnels v.calls n z own f.0 here reason, λ y. let g = f.1 y in (g.0, g.1, λ u. up_still y (g.2 u)))
    where
      t : CallTells before n z own k
      t = call_tells before n z own k may

      here : v.tunnels.node (v.calls.tunnel z) ≡ n
      here = ap v.tunnels.node (f.1 z).0 ∙ a.node (before.calls.tunnel z) ∙ t.node

      reason : v.calls.mate z ≢ 0 → v.calls.up (v.calls.mate z) ≡ true
      reason m = ⊎_elim {C = v.calls.up (v.calls.mate z) ≡ true}
          (λ d. absurd (m ((f.1 z).1 ∙ (s.calls.waits_reply z d.0).1)))
          (λ d. (f.1 (v.calls.mate z)).2 (ap before.calls.up (f.1 z).1 ∙ (s.meant.means _ _ k (Connect z) d.2).3))
          t.why

      up_still : (y : ℕ) → v.calls.up y ≡ true → cond (eqb y z) true (v.calls.up y) ≡ true
      up_still y u = grind (arith, nat_tests)

  stop_states : (ks : List Kept) → StatesHold (falls (keeps_all before n ks before) n).tunnels (falls (keeps_all before n ks before) n).calls
  unfolding falls keeps
  stop_states ks = (all_kept FallsTo before n record { up = λ v x y f a u h. fall_up v x y f; down = λ v x f a at. fall_down v x f; call = λ v z own k f a h g. fall_call v z own k f a h; ended = λ v z f a h. fall_ended v (is_call z) f } ks before (falls_ok before.tunnels before.calls n ok, λ z. (refl, refl, λ u. u)) (amid_first before)).0

pub did_states : (r : Rules) (w v : World) → r.reads_epochs ≡ true → r.ends_at_freezes ≡ true → Did r w v → Sound w → StatesHold w.tunnels w.calls → StatesHold v.tunnels v.calls
unfolding opens accepts gives took_one leaves connects is_connected takes_cdn answers_query adds_call asks_for ends_call queries resets_attempting resets_answering restores
did_states r w v reads rule idle s ok = ok
did_states r w v reads rule (did_open n m x new) s ok = opened_ok w.tunnels w.calls n m x ok (no_calls_yet w s x new.undrawn)
did_states r w v reads rule (did_accept a x d o new) s ok = accepted_ok w.tunnels w.calls a x ok (no_calls_yet w s x new.undrawn)
did_states r w v reads rule (did_refuse a o) s ok = ok
did_states r w v reads rule (did_take_refusal x p t) s ok = left_ok w.tunnels w.calls x Closed ok (inr refl)
did_states r w v reads rule (did_take x a e k l t i) s ok = ok
did_states r w v reads rule (did_take_stop x a e k t) s ok = left_ok w.tunnels w.calls x Closed ok (inr refl)
did_states r w v reads rule (did_connect x a e k t p l) s ok = established_with_ok w.tunnels w.calls x a ok p
did_states r w v reads rule (did_confirm x a e k t p l) s ok = established_ok w.tunnels w.calls x ok p
did_states r w v reads rule (did_reply x a e k own z t p l new) s ok = let n = s.calls.nameless z new.undrawn in replies_ok w.tunnels w.calls x z own ok n p (nothing_held w s z n.made) (no_mate_yet w s z new.undrawn new.name)
did_states r w v reads rule (did_decline x a e k own t p l) s ok = ok
did_states r w v reads rule (did_first_up x a e k own z t p l b d) s ok = is_first_up_ok w.tunnels w.calls z own ok (ap w.tunnels.phase b ∙ p) d (s.calls.waits_reply z d).1
did_states r w v reads rule (did_second_up x a e k z t p l b d) s ok = is_second_up_ok w.tunnels w.calls z ok (ap w.tunnels.phase b ∙ p) d (s.meant.means a e k (Connect z) t.stands).3
did_states r w v reads rule (did_hear x a e k own y t p l) s ok = ends_ok w.tunnels w.calls _ ok
did_states r w v reads rule (did_answer x a e k own y t p l) s ok = ok
did_states r w v reads rule (did_learn x a e k own y here t p l) s ok = answer_states w x own y here ok
did_states r w v reads rule (did_hello x p) s ok = ok
did_states r w v reads rule (did_close x a) s ok = left_ok w.tunnels w.calls x Closed ok (inr refl)
did_states r w v reads rule (did_clear x) s ok = left_ok w.tunnels w.calls x Gone ok (inl refl)
did_states r w v reads rule (did_add x z p new) s ok = is_born_ok w.tunnels w.calls x z ok (s.calls.nameless z new.undrawn) p
did_states r w v reads rule (did_ask z p a) s ok = let m = (s.calls.waits z a).0 in is_asked_for_ok w.tunnels w.calls z ok p a m (waits_unbooked w s z a) (nothing_held w s z m)
did_states r w v reads rule (did_end_told z p a b) s ok = told_states r w z ok
did_states r w v reads rule (did_end_silent z a b) s ok = ends_ok w.tunnels w.calls (is_call z) ok
did_states r w v reads rule (did_query x z p a) s ok = ok
did_states r w v reads rule (did_freeze x a c own theirs p n l f new) s ok = freeze_states r w x a c own theirs rule p ok
did_states r w v reads rule (did_reset_attempting x c p n) s ok = resets_ok w.tunnels (confirms w.tunnels x c) w.calls r.asks_after_resets x (w.tunnels.makes c) (confirms_resets w.tunnels x c s.epochs p n) (known_up w s) ok
did_states r w v reads rule (did_reset_answering x c p n) s ok = resets_ok w.tunnels (is_confirmed w.tunnels x c) w.calls r.asks_after_resets x (w.tunnels.makes c) (is_confirmed_resets w.tunnels x c s.epochs p) (known_up w s) ok
did_states r w v reads rule (did_restore x a b p new) s ok = restored_ok w.tunnels w.calls x a ok p
did_states r w v reads rule (did_stop n ks) s ok = stop_states w n s ok ks
did_states r w v reads rule (did_start n) s ok = up_ok w.tunnels w.calls n ok
