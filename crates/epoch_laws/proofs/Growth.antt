-- What is known of tunnels stays known.
use Rattle.std.proofs.Common.{◌≡◌, ◌≢◌, ◌⊎◌, inl, inr, ℕ, ◌≤◌, true, false, List, refl, sym, subst, arith}
use Rattle.std.proofs.lemmas.Bool.Decides.{nat_tests}
use Rattle.epoch_machine.specs.Tunnels.{Tunnels, Phase, left, opened, accepted, established_with, established, restored, frozen, confirms, is_confirmed, goes_down, comes_up, keeps_up, keeps_down}
use Rattle.epoch_machine.specs.Worlds.{World, Rules, gives, took_one, leaves, connects, is_connected, takes_cdn, answers_query}
use Rattle.epoch_machine.specs.Moves.{Kept, keeps, keeps_all, falls, opens, accepts, adds_call, asks_for, ends_call, queries, freezes, resets_attempting, resets_answering, restores}
use Rattle.epoch_machine.proofs.Did.{Did, did_open, did_accept, did_take_refusal, did_take_stop, did_connect, did_confirm, did_learn, did_close, did_clear, did_end_told, did_freeze, did_reset_attempting, did_reset_answering, did_restore, did_stop, did_start}
use Rattle.epoch_machine.proofs.Stops.{Amid, amid_first, UpTells, all_kept}
use Rattle.epoch_laws.specs.Epochs.{EpochsHold}
use Rattle.epoch_laws.proofs.Steps.{answer_same, told_same}
use Rattle.epoch_laws.proofs.Rising.{did_later}

pub record TunnelsGrow (t u : Tunnels) : Type 0 where
  pub drawn : (x : ℕ) → t.drawn x ≡ true → u.drawn x ≡ true
  pub opener : (x : ℕ) → t.drawn x ≡ true → u.opener x ≡ t.opener x
  pub learned : (x : ℕ) → t.learned x ≢ 0 → u.learned x ≡ t.learned x
  pub entered : (x : ℕ) → t.entered x ≤ u.entered x

-- the parts that grow are the same
pub record AsKnown (t u : Tunnels) : Type 0 where
  pub drawn : (x : ℕ) → t.drawn x ≡ true → u.drawn x ≡ true
  pub opener : (x : ℕ) → t.drawn x ≡ true → u.opener x ≡ t.opener x
  pub learned : (x : ℕ) → t.learned x ≢ 0 → u.learned x ≡ t.learned x

as_known : (t : Tunnels) → AsKnown t t
as_known t = record { drawn = λ x h. h; opener = λ x h. refl; learned = λ x h. refl }

known_by : (t u : Tunnels) → u ≡ t → AsKnown t u
known_by t u e = subst (λ (v : Tunnels). AsKnown t v) (sym e) (as_known t)

left_known : (t : Tunnels) (x : ℕ) (p : Phase) → AsKnown t (left t x p)
unfolding left
left_known t x p = record { drawn = λ x h. h; opener = λ x h. refl; learned = λ x h. refl }

opened_known : (t : Tunnels) (n m x : ℕ) → t.drawn x ≡ false → AsKnown t (opened t n m x)
unfolding opened
opened_known t n m x new = record { drawn = grind (arith, nat_tests); opener = grind (arith, nat_tests); learned = λ y h. refl }

accepted_known : (t : Tunnels) (s x : ℕ) → EpochsHold t → t.drawn x ≡ false → AsKnown t (accepted t s x)
unfolding accepted
accepted_known t s x ep new = let n = (ep.nameless x new).learned in record { drawn = grind (arith, nat_tests); opener = λ y h. refl; learned = grind (arith, nat_tests) }

established_with_known : (t : Tunnels) (x s : ℕ) → t.learned x ≡ 0 → AsKnown t (established_with t x s)
unfolding established_with
established_with_known t x s n = record { drawn = λ y h. h; opener = λ y h. refl; learned = grind (arith, nat_tests) }

established_known : (t : Tunnels) (x : ℕ) → AsKnown t (established t x)
unfolding established
established_known t x = record { drawn = λ y h. h; opener = λ y h. refl; learned = λ y h. refl }

restored_known : (t : Tunnels) (x a : ℕ) → AsKnown t (restored t x a)
unfolding restored
restored_known t x a = record { drawn = grind (arith, nat_tests); opener = λ y h. refl; learned = λ y h. refl }

frozen_known : (t : Tunnels) (x a c own theirs : ℕ) → AsKnown t (frozen t x a c own theirs)
unfolding frozen
frozen_known t x a c own theirs = record { drawn = grind (arith, nat_tests); opener = λ y h. refl; learned = λ y h. refl }

confirms_known : (t : Tunnels) (x c : ℕ) → AsKnown t (confirms t x c)
unfolding confirms
confirms_known t x c = record { drawn = λ y h. h; opener = λ y h. refl; learned = λ y h. refl }

is_confirmed_known : (t : Tunnels) (x c : ℕ) → AsKnown t (is_confirmed t x c)
unfolding is_confirmed
is_confirmed_known t x c = record { drawn = λ y h. h; opener = λ y h. refl; learned = λ y h. refl }

up_known : (t : Tunnels) (n : ℕ) → AsKnown t (comes_up t n)
unfolding comes_up
up_known t n = record { drawn = λ y h. h; opener = λ y h. refl; learned = λ y h. refl }

stop_known : (before : World) (n : ℕ) (ks : List Kept) → AsKnown before.tunnels (falls (keeps_all before n ks before) n).tunnels
unfolding falls goes_down keeps keeps_up keeps_down
stop_known before n ks = all_kept (λ v. AsKnown before.tunnels (goes_down v.tunnels n)) before n record { up = up; down = λ w x p a at. record { drawn = p.drawn; opener = p.opener; learned = p.learned }; call = λ w z own k p a h g. p; ended = λ w z p a h. p } ks before (record { drawn = λ y h. h; opener = λ y h. refl; learned = λ y h. refl }) (amid_first before)
  where
    learns : (t b : Tunnels) (x s y : ℕ) → t.learned y ≡ b.learned y → b.learned y ≢ 0 → (t.learned x ≡ 0) ⊎ (t.learned x ≡ s) → (keeps_up t x s).learned y ≡ b.learned y
    learns t b x s y e n (inl h) = grind (arith, nat_tests)
    learns t b x s y e n (inr h) = grind (arith, nat_tests)

    up : (w : World) (x s : ℕ) → AsKnown before.tunnels (goes_down w.tunnels n) → Amid before w → UpTells before n x s → (w.tunnels.learned x ≡ 0) ⊎ (w.tunnels.learned x ≡ s) → AsKnown before.tunnels (goes_down (keeps_up w.tunnels x s) n)
    up w x s p a u h = record { drawn = p.drawn; opener = p.opener; learned = λ y n. learns w.tunnels before.tunnels x s y (p.learned y n) n h }

did_known : (r : Rules) (w v : World) → Did r w v → EpochsHold w.tunnels → AsKnown w.tunnels v.tunnels
unfolding opens accepts gives took_one leaves connects is_connected takes_cdn answers_query adds_call asks_for ends_call queries freezes resets_attempting resets_answering restores
did_known r w v (did_open n m x new) ep = opened_known w.tunnels n m x new.undrawn
did_known r w v (did_accept s x d o new) ep = accepted_known w.tunnels s x ep new.undrawn
did_known r w v (did_take_refusal x p t) ep = left_known w.tunnels x _
did_known r w v (did_take_stop x s e k t) ep = left_known w.tunnels x _
did_known r w v (did_connect x s e k t p l) ep = established_with_known w.tunnels x s (ep.waits_reply x p).1
did_known r w v (did_confirm x s e k t p l) ep = established_known w.tunnels x
did_known r w v (did_learn x s e k own y here t p l) ep = known_by w.tunnels _ (answer_same (took_one w x) x own y here)
did_known r w v (did_close x a) ep = left_known w.tunnels x _
did_known r w v (did_clear x) ep = left_known w.tunnels x _
did_known r w v (did_end_told z p a b) ep = known_by w.tunnels _ (told_same r w z)
did_known r w v (did_freeze x a c own theirs p n l f new) ep = frozen_known w.tunnels x a c own theirs
did_known r w v (did_reset_attempting x c p n) ep = confirms_known w.tunnels x c
did_known r w v (did_reset_answering x c p n) ep = is_confirmed_known w.tunnels x c
did_known r w v (did_restore x a b p new) ep = restored_known w.tunnels x a
did_known r w v (did_stop n ks) ep = stop_known w n ks
did_known r w v (did_start n) ep = up_known w.tunnels n
did_known r w v d ep = as_known w.tunnels

pub did_grow : (r : Rules) (w v : World) → Did r w v → EpochsHold w.tunnels → TunnelsGrow w.tunnels v.tunnels
did_grow r w v d ep = let k = did_known r w v d ep in record { drawn = k.drawn; opener = k.opener; learned = k.learned; entered = did_later r w v d ep }
