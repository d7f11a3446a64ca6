-- A closed end of the machine has entered each epoch that it made, and is not below the other end.
use Rattle.std.proofs.Common.{◌≡◌, ◌≢◌, ◌⊎◌, inl, inr, ⊎_elim, ℕ, ◌≤◌, true, false, List, [], ◌∷◌, refl, sym, ap, ◌∙◌, subst, arith}
use Rattle.std.proofs.lemmas.Bool.Decides.{nat_tests}
use Rattle.id_table.specs.Order.{same_or_not}
use Rattle.epoch_machine.specs.Names.{assign}
use Rattle.epoch_machine.specs.Tunnels.{Tunnels, Phase, Gone, WaitReply, WaitConnect, Open, Closed, Attempts, Answers, Linked, is_active, left, opened, accepted, established_with, established, restored, frozen, confirms, is_confirmed, goes_down, comes_up, keeps_up, keeps_down}
use Rattle.epoch_machine.specs.Worlds.{World, Rules, empty_world, gives, took_one, leaves, connects, is_connected, takes_cdn, answers_query}
use Rattle.epoch_machine.specs.Moves.{Move, Kept, TunnelDown, keeps, keeps_all, falls, opens, accepts, adds_call, asks_for, ends_call, queries, freezes, resets_attempting, resets_answering, restores, step, goes_on}
use Rattle.epoch_machine.proofs.Did.{Did, idle, did_open, did_accept, did_refuse, did_take_refusal, did_take, did_take_stop, did_connect, did_confirm, did_reply, did_decline, did_first_up, did_second_up, did_hear, did_answer, did_learn, did_hello, did_close, did_clear, did_add, did_ask, did_end_told, did_end_silent, did_query, did_freeze, did_reset_attempting, did_reset_answering, did_restore, did_stop, did_start, step_did}
use Rattle.epoch_machine.proofs.Stops.{Amid, amid_first, UpTells, EachKept, all_kept}
use Rattle.epoch_laws.specs.Epochs.{EpochsHold}
use Rattle.epoch_laws.proofs.Losses.{down_ok}
use Rattle.epoch_laws.proofs.Steps.{answer_same, told_same, each_kept, step_ok, empty_ok}
use Rattle.recovery_laws.specs.Joined.{ClosedHold}

-- ---- the end that closes

-- one that has learned none is in epoch 0
unlearned_first : (t : Tunnels) (x : ℕ) → EpochsHold t → t.learned x ≡ 0 → t.entered x ≤ 0
unlearned_first t x ok none =
    let most = ok.entered_made x in
    let zero : t.epochs x ≢ 0 → ⊥ = λ some. (let l = ok.epochs_linked x some in l.to_name none) in
    grind (arith, zero, most)

active_made : (t : Tunnels) (x c : ℕ) → EpochsHold t → (p : Phase) → t.phase x ≡ p → is_active p ≡ true → t.answers c ≡ x → x ≢ 0 → t.makes c ≤ t.entered x
active_made t x c ok WaitReply is active own some =
    let l = ok.answers_linked c (λ z. some (sym own ∙ z)) in
    absurd (l.to_name (ap t.learned own ∙ (ok.waits_reply x is).1))
active_made t x c ok WaitConnect is active own some =
    let most = ok.makes_counted c (λ z. some (sym own ∙ z)) in
    let zero = (ok.waits_connect x is).1 in
    let same = ap t.epochs own in
    omega (arith, most, zero, same)
active_made t x c ok Open is active own some = ok.open_made x c is own
active_made t x c ok Gone is active own some = absurd cc
active_made t x c ok Closed is active own some = absurd cc
active_made t x c ok (Attempts a) is active own some = absurd cc
active_made t x c ok (Answers a) is active own some = absurd cc

active_above : (t : Tunnels) (x y : ℕ) → EpochsHold t → (p : Phase) → t.phase x ≡ p → is_active p ≡ true → Linked t.learned x y → t.entered y ≤ t.entered x
active_above t x y ok WaitReply is active l = absurd (l.to_name (sym l.forth ∙ (ok.waits_reply x is).1))
active_above t x y ok WaitConnect is active l =
    let most = ok.entered_made y in
    let zero = (ok.waits_connect x is).1 in
    let same = ok.same_epochs x y l in
    omega (arith, most, zero, same)
active_above t x y ok Open is active l = ok.open_above x y is l
active_above t x y ok Gone is active l = absurd cc
active_above t x y ok Closed is active l = absurd cc
active_above t x y ok (Attempts a) is active l = absurd cc
active_above t x y ok (Answers a) is active l = absurd cc

-- ---- each change of tunnels

module _ (t : Tunnels) (ok : EpochsHold t) (k : ClosedHold t) where
  -- what is active has a name
  a_name : (x : ℕ) → is_active (t.phase x) ≡ true → x ≢ 0
  a_name x active z =
      let g : t.phase x ≡ Gone = ap t.phase z ∙ (ok.nameless 0 ok.zero).phase in
      let no : is_active Gone ≡ true = subst (λ p. is_active p ≡ true) g active in absurd cc

  closes_so : (x : ℕ) → is_active (t.phase x) ≡ true → ClosedHold (left t x Closed)
  unfolding left
  closes_so x active =
      let here : (c : ℕ) → t.answers c ≡ x → t.makes c ≤ t.entered x = λ c own. active_made t x c ok (t.phase x) refl active own (a_name x active) in
      let there : (y : ℕ) → Linked t.learned x y → t.entered y ≤ t.entered x = λ y l. active_above t x y ok (t.phase x) refl active l in
      record {
        made = λ z c p own. grind (arith, nat_tests, here c, k.made z c);
        above = λ z y p l. grind (arith, nat_tests, there y, k.above z y);
      }

  goes_so : (x : ℕ) → ClosedHold (left t x Gone)
  unfolding left
  goes_so x = record { made = λ z c p own. grind (arith, nat_tests, k.made z c); above = λ z y p l. grind (arith, nat_tests, k.above z y) }

  down_so : (n : ℕ) → ClosedHold (goes_down t n)
  unfolding goes_down
  down_so n = record { made = λ z c p own. grind (arith, nat_tests, k.made z c); above = λ z y p l. grind (arith, nat_tests, k.above z y) }

  up_so : (n : ℕ) → ClosedHold (comes_up t n)
  unfolding comes_up
  up_so n = record { made = k.made; above = k.above }

  kept_down_so : (x : ℕ) → ClosedHold (keeps_down t x)
  unfolding keeps_down
  kept_down_so x = record { made = k.made; above = k.above }

  opened_so : (n m x : ℕ) → ClosedHold (opened t n m x)
  unfolding opened
  opened_so n m x = record { made = λ z c p own. grind (arith, nat_tests, k.made z c); above = λ z y p l. grind (arith, nat_tests, k.above z y) }

  -- a link where one end has learned the other just now, and that one is in epoch 0
  new_above : (x s z y : ℕ) (learned : ℕ → ℕ) → ((q : ℕ) → (q ≡ x → ⊥) → learned q ≡ t.learned q) → t.learned x ≡ 0 → t.phase z ≡ Closed → (z ≡ x → ⊥)
      → Linked learned z y → t.entered y ≤ t.entered z
  new_above x s z y learned others none closed apart l = ⊎_elim
      (λ (same : y ≡ x).
      let first = unlearned_first t x ok none in
      let e = ap t.entered same in omega (arith, first, e))
      (λ (o : y ≡ x → ⊥).
      k.above z y closed (record {
        forth = sym (others z apart) ∙ l.forth;
        back = sym (others y o) ∙ l.back;
        from_name = l.from_name;
        to_name = l.to_name;
      }))
      (same_or_not y x)

  accepted_so : (s x : ℕ) → t.drawn x ≡ false → ClosedHold (accepted t s x)
  unfolding accepted
  accepted_so s x new =
      let none : t.learned x ≡ 0 = (ok.nameless x new).learned in
      record {
        made = λ z c p own. grind (arith, nat_tests, k.made z c);
        above = λ z y p l. new_above x s z y (assign t.learned x s) (λ q o. grind (arith, nat_tests)) none (grind (arith, nat_tests)) (λ same. grind (arith, nat_tests)) l;
      }

  established_so : (x : ℕ) → ClosedHold (established t x)
  unfolding established
  established_so x = record { made = λ z c p own. grind (arith, nat_tests, k.made z c); above = λ z y p l. grind (arith, nat_tests, k.above z y) }

  connected_so : (x s : ℕ) → t.phase x ≡ WaitReply → ClosedHold (established_with t x s)
  unfolding established_with
  connected_so x s waits =
      let none : t.learned x ≡ 0 = (ok.waits_reply x waits).1 in
      record {
        made = λ z c p own. grind (arith, nat_tests, k.made z c);
        above = λ z y p l. new_above x s z y (assign t.learned x s) (λ q o. grind (arith, nat_tests)) none (grind (arith, nat_tests)) (λ same. grind (arith, nat_tests)) l;
      }

  kept_up_so : (x s : ℕ) → t.phase x ≡ Gone → (t.learned x ≡ 0) ⊎ (t.learned x ≡ s) → ClosedHold (keeps_up t x s)
  unfolding keeps_up
  kept_up_so x s gone (inl none) = record {
    made = k.made;
    above = λ z y p l.
        new_above x s z y (assign t.learned x s) (λ q o. grind (arith, nat_tests)) none p (λ same. let e : Closed ≡ Gone = sym p ∙ (ap t.phase same ∙ gone) in absurd cc) l;
  }
  kept_up_so x s gone (inr is) = record {
    made = k.made;
    above = λ z y p l. k.above z y p (record { forth = grind (arith, nat_tests, l.forth); back = grind (arith, nat_tests, l.back); from_name = l.from_name; to_name = l.to_name });
  }

  restored_so : (x a : ℕ) → ClosedHold (restored t x a)
  unfolding restored
  restored_so x a = record { made = λ z c p own. grind (arith, nat_tests, k.made z c); above = λ z y p l. grind (arith, nat_tests, k.above z y) }

  frozen_so : (x a c own theirs : ℕ) → ClosedHold (frozen t x a c own theirs)
  unfolding frozen
  frozen_so x a c own theirs = record { made = λ z d p is. grind (arith, nat_tests, k.made z d); above = λ z y p l. grind (arith, nat_tests, k.above z y) }

  confirms_so : (x c : ℕ) → t.phase x ≡ Attempts (t.answered c) → t.answers c ≢ 0 → ClosedHold (confirms t x c)
  unfolding confirms
  confirms_so x c p given =
      let by = ok.attempts_answered x (t.answered c) c p given refl in
      record {
        made = λ z d q own. grind (arith, nat_tests, k.made z d);
        above = λ z y q l. grind (arith, nat_tests, k.above z y, k.made z c, by.0, l.forth, l.back);
      }

  is_confirmed_so : (x c : ℕ) → t.phase x ≡ Answers c → t.confirmed c ≡ true → ClosedHold (is_confirmed t x c)
  unfolding is_confirmed
  is_confirmed_so x c p is =
      let most = ok.confirmed_entered c is in
      let own = ok.answers_own x c p in
      record {
        made = λ z d q mine. grind (arith, nat_tests, k.made z d);
        above = λ z y q l. grind (arith, nat_tests, k.above z y, most, own, l.forth, l.back);
      }

-- ---- a node falls, with the records that are kept

module _ (before : World) (n : ℕ) (ok : EpochsHold before.tunnels) (k : ClosedHold before.tunnels) where
  abbrev FallsSo : World → Type 0
  FallsSo w = EpochsHold (goes_down w.tunnels n) × ClosedHold (goes_down w.tunnels n)

  fallen : (w : World) (x s : ℕ) → Amid before w → UpTells before n x s → (goes_down w.tunnels n).phase x ≡ Gone
  unfolding goes_down
  fallen w x s a u = let e : w.tunnels.node x ≡ n = a.node x ∙ u.node in grind (arith, nat_tests)

  up_kept : (w : World) (x s : ℕ) → FallsSo w → Amid before w → UpTells before n x s → (w.tunnels.learned x ≡ 0) ⊎ (w.tunnels.learned x ≡ s) → FallsSo (record w { tunnels = keeps_up w.tunnels x s })
  unfolding goes_down keeps_up
  up_kept w x s p a u h =
      ((each_kept before n ok).up w x s p.0 a u h, kept_up_so (goes_down w.tunnels n) p.0 p.1 x s (fallen w x s a u) h)

  down_kept : (w : World) (x : ℕ) → FallsSo w → Amid before w → before.tunnels.node x ≡ n → FallsSo (keeps w (TunnelDown x))
  unfolding goes_down keeps keeps_down
  down_kept w x p a at = ((each_kept before n ok).down w x p.0 a at, kept_down_so (goes_down w.tunnels n) p.0 p.1 x)

  each_so : EachKept FallsSo before n
  unfolding keeps
  each_so = record { up = up_kept; down = down_kept; call = λ w z own q p a h g. p; ended = λ w z p a h. p }

  stop_so : (ks : List Kept) → ClosedHold (falls (keeps_all before n ks before) n).tunnels
  unfolding falls
  stop_so ks = (all_kept FallsSo before n each_so ks before (down_ok before.tunnels n ok, down_so before.tunnels ok k n) (amid_first before)).1

-- ---- moves

did_so : (r : Rules) (w v : World) → Did r w v → EpochsHold w.tunnels → ClosedHold w.tunnels → ClosedHold v.tunnels
unfolding opens accepts gives took_one leaves connects is_connected takes_cdn answers_query adds_call asks_for ends_call queries freezes resets_attempting resets_answering restores
did_so r w v idle ok k = k
did_so r w v (did_open n m x new) ok k = opened_so w.tunnels ok k n m x
did_so r w v (did_accept s x drawn opener new) ok k = accepted_so w.tunnels ok k s x new.undrawn
did_so r w v (did_refuse s h) ok k = k
did_so r w v (did_take_refusal x p t) ok k = closes_so w.tunnels ok k x (rw p refl)
did_so r w v (did_take x s e q l t n) ok k = k
did_so r w v (did_take_stop x s e q t) ok k = closes_so w.tunnels ok k x t.active
did_so r w v (did_connect x s e q t p l) ok k = connected_so w.tunnels ok k x s p
did_so r w v (did_confirm x s e q t p l) ok k = established_so w.tunnels ok k x
did_so r w v (did_reply x s e q own z t p l new) ok k = k
did_so r w v (did_decline x s e q own t p l) ok k = k
did_so r w v (did_first_up x s e q own z t p l a b) ok k = k
did_so r w v (did_second_up x s e q z t p l a b) ok k = k
did_so r w v (did_hear x s e q own y t p l) ok k = k
did_so r w v (did_answer x s e q own y t p l) ok k = k
did_so r w v (did_learn x s e q own y here t p l) ok k = subst ClosedHold (sym (answer_same (took_one w x) x own y here)) k
did_so r w v (did_hello x p) ok k = k
did_so r w v (did_close x a) ok k = closes_so w.tunnels ok k x a
did_so r w v (did_clear x) ok k = goes_so w.tunnels ok k x
did_so r w v (did_add x z p new) ok k = k
did_so r w v (did_ask z p a) ok k = k
did_so r w v (did_end_told z p a b) ok k = subst ClosedHold (sym (told_same r w z)) k
did_so r w v (did_end_silent z a b) ok k = k
did_so r w v (did_query x z p a) ok k = k
did_so r w v (did_freeze x a c own theirs p n l f new) ok k = frozen_so w.tunnels ok k x a c own theirs
did_so r w v (did_reset_attempting x c p n) ok k = confirms_so w.tunnels ok k x c p n
did_so r w v (did_reset_answering x c p n) ok k = is_confirmed_so w.tunnels ok k x c p n
did_so r w v (did_restore x a b p new) ok k = restored_so w.tunnels ok k x a
did_so r w v (did_stop n ks) ok k = stop_so w n ok k ks
did_so r w v (did_start n) ok k = up_so w.tunnels ok k n

run_so : (r : Rules) (ms : List Move) (w : World) → EpochsHold w.tunnels → ClosedHold w.tunnels → ClosedHold (goes_on r w ms).tunnels
unfolding goes_on
run_so r [] w ok k = k
run_so r (m ∷ ms) w ok k = run_so r ms (step r w m) (step_ok r w m ok) (did_so r w (step r w m) (step_did r w m) ok k)

-- so it is after every list of moves
pub closed_after : (r : Rules) (ms : List Move) → ClosedHold (goes_on r empty_world ms).tunnels
closed_after r ms = run_so r ms empty_world empty_ok (record { made = λ x c p own. absurd cc; above = λ x y p l. absurd cc })
