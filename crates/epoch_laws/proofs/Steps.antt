-- Each move keeps what holds of the epochs.
use Rattle.std.proofs.Common.{◌≡◌, ◌≢◌, ◌⊎◌, inl, inr, ⊎_elim, ℕ, Bool, true, List, [], ◌∷◌, refl, sym, ap, ◌∙◌, subst, arith}
use Rattle.std.proofs.lemmas.Bool.Decides.{nat_tests}
use Rattle.epoch_machine.specs.Tunnels.{Phase, Gone, WaitReply, WaitConnect, is_active, goes_down, keeps_up, keeps_down}
use Rattle.epoch_machine.specs.Worlds.{World, Rules, empty_world, gives, took_one, leaves, connects, is_connected, takes_cdn, answers_query, takes_answer}
use Rattle.epoch_machine.specs.Moves.{Move, Kept, TunnelDown, keeps, keeps_all, falls, opens, accepts, adds_call, asks_for, ends_call, ends_told, queries, freezes, resets_attempting, resets_answering, restores, step, goes_on}
use Rattle.epoch_machine.proofs.Splits.{chosen}
use Rattle.epoch_machine.proofs.Did.{Did, idle, did_open, did_accept, did_refuse, did_take_refusal, did_take, did_take_stop, did_connect, did_confirm, did_reply, did_decline, did_first_up, did_second_up, did_hear, did_answer, did_learn, did_hello, did_close, did_clear, did_add, did_ask, did_end_told, did_end_silent, did_query, did_freeze, did_reset_attempting, did_reset_answering, did_restore, did_stop, did_start, step_did}
use Rattle.epoch_machine.proofs.Stops.{Amid, amid_first, UpTells, EachKept, all_kept}
use Rattle.epoch_laws.specs.Epochs.{EpochsHold}
use Rattle.epoch_laws.proofs.Losses.{closed_ok, gone_ok, down_ok, up_ok, keeps_down_ok}
use Rattle.epoch_laws.proofs.Openings.{opened_ok, accepted_ok, established_ok}
use Rattle.epoch_laws.proofs.Linking.{established_with_ok, keeps_up_ok}
use Rattle.epoch_laws.proofs.Recoveries.{restored_ok, frozen_ok}
use Rattle.epoch_laws.proofs.Resets.{confirms_ok, is_confirmed_ok}

-- it holds of the tunnels afterwards
abbrev Keeps : World → Type 0
Keeps v = EpochsHold v.tunnels

is_there : (p : Phase) → is_active p ≡ true → p ≢ Gone
is_there Gone a g = cc
is_there p a g = cc

pub answer_same : (w : World) (x own z : ℕ) (here : Bool) → (takes_answer w x own z here).tunnels ≡ w.tunnels
unfolding takes_answer
answer_same w x own z here = chosen (λ (v : World). v.tunnels ≡ w.tunnels) _ _ _ (λ h. refl) (λ h. refl)

pub told_same : (r : Rules) (w : World) (z : ℕ) → (ends_told r w z).tunnels ≡ w.tunnels
unfolding ends_told ends_call gives
told_same r w z = chosen (λ (v : World). v.tunnels ≡ w.tunnels) _ _ _ (λ h. refl) (λ h. refl)

-- a node's fall, with the records that are kept
module _ (before : World) (n : ℕ) (ok : Keeps before) where
  abbrev Falls : World → Type 0
  Falls w = EpochsHold (goes_down w.tunnels n)

  a_name : (x : ℕ) → before.tunnels.phase x ≢ Gone → x ≢ 0
  a_name x h e = h (ap before.tunnels.phase e ∙ (ok.nameless 0 ok.zero).phase)

  fallen : (w : World) (x s : ℕ) → Amid before w → UpTells before n x s → (goes_down w.tunnels n).phase x ≡ Gone
  unfolding goes_down
  fallen w x s a u = let e : w.tunnels.node x ≡ n = a.node x ∙ u.node in grind (arith, nat_tests)

  awake : (x s : ℕ) → UpTells before n x s → before.tunnels.phase x ≢ Gone
  awake x s u g = ⊎_elim (λ d. (let k : WaitReply ≡ Gone = sym d.0 ∙ g in absurd cc)) (λ d. (let k : WaitConnect ≡ Gone = sym d.0 ∙ g in absurd cc)) u.why

  pub kept_name : (x s : ℕ) → UpTells before n x s → x ≢ 0
  kept_name x s u = a_name x (awake x s u)

  pub kept_learns : (w : World) (x s : ℕ) → Amid before w → UpTells before n x s → w.tunnels.learned s ≡ x
  kept_learns w x s a u = a.learned s (λ e. kept_name x s u (sym u.learns ∙ e)) ∙ u.learns

  up_kept : (w : World) (x s : ℕ) → Falls w → Amid before w → UpTells before n x s → (w.tunnels.learned x ≡ 0) ⊎ (w.tunnels.learned x ≡ s) → Falls (record w { tunnels = keeps_up w.tunnels x s })
  unfolding goes_down keeps_up
  up_kept w x s p a u h = keeps_up_ok (goes_down w.tunnels n) x s p (fallen w x s a u) (kept_name x s u) u.sender (kept_learns w x s a u) (which h)
    where
      which : (w.tunnels.learned x ≡ 0) ⊎ (w.tunnels.learned x ≡ s) → ((w.tunnels.opener x ≡ true) × (w.tunnels.learned x ≡ 0)) ⊎ (w.tunnels.learned x ≡ s)
      which (inl e) = inl (⊎_elim (λ d. a.opener x ∙ (ok.waits_reply x d.0).0) (λ d. absurd (let f = ok.waits_connect x d.0 in f.2 (sym (a.learned x f.2) ∙ e))) u.why, e)
      which (inr e) = inr e

  down_kept : (w : World) (x : ℕ) → Falls w → Amid before w → Falls (keeps w (TunnelDown x))
  unfolding goes_down keeps keeps_down
  down_kept w x p a = keeps_down_ok (goes_down w.tunnels n) x p

  pub each_kept : EachKept Falls before n
  unfolding keeps
  each_kept = record { up = up_kept; down = λ w x p a at. down_kept w x p a; call = λ w z own k p a h g. p; ended = λ w z p a h. p }

  stop_ok : (ks : List Kept) → EpochsHold (falls (keeps_all before n ks before) n).tunnels
  unfolding falls
  stop_ok ks = all_kept Falls before n each_kept ks before (down_ok before.tunnels n ok) (amid_first before)

pub did_ok : (r : Rules) (w v : World) → Did r w v → Keeps w → Keeps v
unfolding opens accepts gives took_one leaves connects is_connected takes_cdn answers_query adds_call asks_for ends_call queries freezes resets_attempting resets_answering restores
did_ok r w v idle ok = ok
did_ok r w v (did_open n m x new) ok = opened_ok w.tunnels n m x ok new.undrawn new.name
did_ok r w v (did_accept s x drawn opener new) ok = accepted_ok w.tunnels s x ok new.undrawn new.name opener drawn
did_ok r w v (did_refuse s h) ok = ok
did_ok r w v (did_take_refusal x p t) ok = closed_ok w.tunnels x ok (λ g. (let k : WaitReply ≡ Gone = sym p ∙ g in absurd cc))
did_ok r w v (did_take x s e k l t n) ok = ok
did_ok r w v (did_take_stop x s e k t) ok = closed_ok w.tunnels x ok (is_there (w.tunnels.phase x) t.active)
did_ok r w v (did_connect x s e k t p l) ok = established_with_ok w.tunnels x s ok p l t.sender
did_ok r w v (did_confirm x s e k t p l) ok = established_ok w.tunnels x s ok p l t.sender
did_ok r w v (did_reply x s e k own z t p l new) ok = ok
did_ok r w v (did_decline x s e k own t p l) ok = ok
did_ok r w v (did_first_up x s e k own z t p l a b) ok = ok
did_ok r w v (did_second_up x s e k z t p l a b) ok = ok
did_ok r w v (did_hear x s e k own y t p l) ok = ok
did_ok r w v (did_answer x s e k own y t p l) ok = ok
did_ok r w v (did_learn x s e k own y here t p l) ok = subst EpochsHold (sym (answer_same (took_one w x) x own y here)) ok
did_ok r w v (did_hello x p) ok = ok
did_ok r w v (did_close x a) ok = closed_ok w.tunnels x ok (is_there (w.tunnels.phase x) a)
did_ok r w v (did_clear x) ok = gone_ok w.tunnels x ok
did_ok r w v (did_add x z p new) ok = ok
did_ok r w v (did_ask z p a) ok = ok
did_ok r w v (did_end_told z p a b) ok = subst EpochsHold (sym (told_same r w z)) ok
did_ok r w v (did_end_silent z a b) ok = ok
did_ok r w v (did_query x z p a) ok = ok
did_ok r w v (did_freeze x a c own theirs p n l f new) ok = frozen_ok w.tunnels x a c own theirs ok p n l f new.undrawn new.name
did_ok r w v (did_reset_attempting x c p n) ok = confirms_ok w.tunnels x c ok p n
did_ok r w v (did_reset_answering x c p n) ok = is_confirmed_ok w.tunnels x c ok p n
did_ok r w v (did_restore x a b p new) ok = restored_ok w.tunnels x a ok b p new.undrawn new.name
did_ok r w v (did_stop n ks) ok = stop_ok w n ok ks
did_ok r w v (did_start n) ok = up_ok w.tunnels n ok

pub step_ok : (r : Rules) (w : World) (m : Move) → Keeps w → Keeps (step r w m)
step_ok r w m ok = did_ok r w (step r w m) (step_did r w m) ok

pub empty_ok : Keeps empty_world
empty_ok = record {
  zero = refl;
  nameless = λ k h. record { opener = refl; phase = refl; learned = refl; booked = refl; epochs = refl; attempts = refl; answers = refl; confirmed = refl };
  learned_drawn = grind arith;
  answered_drawn = grind arith;
  opener_linked = grind arith;
  acceptor_learned = grind arith;
  opener_learned = grind arith;
  waits_reply = grind arith;
  waits_connect = grind arith;
  waits_unattempted = grind arith;
  waits_unbooked = grind arith;
  established_linked = grind arith;
  booked_linked = grind arith;
  attempts_linked = grind arith;
  answers_linked = grind arith;
  epochs_linked = grind arith;
  same_epochs = grind arith;
  makes_some = grind arith;
  makes_counted = grind arith;
  entered_made = grind arith;
  attempts_own = grind arith;
  attempts_begun = grind arith;
  attempts_entered = grind arith;
  attempts_other = grind arith;
  attempts_made = grind arith;
  attempts_answered = grind arith;
  answers_own = grind arith;
  answers_last = grind arith;
  answers_entered = grind arith;
  answers_other = grind arith;
  confirmed_answers = grind arith;
  confirmed_entered = grind arith;
  open_made = grind arith;
  open_above = grind arith;
}

pub run_ok : (r : Rules) (ms : List Move) (w : World) → Keeps w → Keeps (goes_on r w ms)
unfolding goes_on
run_ok r [] w ok = ok
run_ok r (m ∷ ms) w ok = run_ok r ms (step r w m) (step_ok r w m ok)

pub holds_after : (r : Rules) (ms : List Move) → Keeps (goes_on r empty_world ms)
holds_after r ms = run_ok r ms empty_world empty_ok
