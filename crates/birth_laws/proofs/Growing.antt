-- What is known of calls stays known as they change.
use Rattle.std.proofs.Common.{◌≡◌, ◌≢◌, ℕ, ◌<◌, ◌≤◌, Bool, false, cond, eqb, ◌&&◌, refl, arith}
use Rattle.std.proofs.lemmas.Bool.Decides.{nat_tests}
use Rattle.epoch_machine.specs.Tunnels.{Tunnels}
use Rattle.epoch_machine.specs.Calls.{Calls, Waits, WaitsReply, is_up, ends, loses, comes_back, is_born, is_asked_for, replies, is_first_up, is_second_up, resets, is_told}
use Rattle.epoch_machine.proofs.Splits.{at_name}
use Rattle.birth_laws.proofs.Means.{CallsGrow}
use Rattle.birth_laws.specs.Births.{CallsHold}

pub same_calls : (c : Calls) → CallsGrow c c
same_calls c = record { drawn = λ z h. h; tunnel = λ z h. refl; mate = λ z h. refl; birth = λ z h. refl; made = λ z h. refl; remote = λ z h. refl; up = λ z h. h; over = λ z h. h; held = λ x e z h. refl }

pub ends_grow : (t : Tunnels) (c : Calls) (kind : ℕ → Bool) → CallsHold t c → CallsGrow c (ends c kind)
unfolding ends
ends_grow t c kind ok =
    record {
      drawn = λ z h. h;
      tunnel = λ z h. refl;
      mate = λ z h. refl;
      birth = λ z h. refl;
      made = λ z h. refl;
      remote = λ z h. refl;
      up = λ z h. h;
      over = grind (arith, nat_tests);
      held = λ x e z h. refl;
    }

pub loses_grow : (t : Tunnels) (c : Calls) (kind : ℕ → Bool) → CallsHold t c → CallsGrow c (loses c kind)
unfolding loses
loses_grow t c kind ok =
    record {
      drawn = λ z h. h;
      tunnel = λ z h. refl;
      mate = λ z h. refl;
      birth = λ z h. refl;
      made = λ z h. refl;
      remote = λ z h. refl;
      up = λ z h. h;
      over = grind (arith, nat_tests);
      held = λ x e z h. refl;
    }

pub comes_back_grow : (t : Tunnels) (c : Calls) (x : ℕ) → CallsHold t c → CallsGrow c (comes_back c x)
unfolding comes_back
comes_back_grow t c x ok =
    record {
      drawn = λ z h. h;
      tunnel = λ z h. refl;
      mate = λ z h. refl;
      birth = λ z h. refl;
      made = λ z h. refl;
      remote = λ z h. refl;
      up = λ z h. h;
      over = λ z h. h;
      held = λ x e z h. refl;
    }

pub is_born_grow : (t : Tunnels) (c : Calls) (x z : ℕ) → CallsHold t c → (c.drawn z ≡ false) → CallsGrow c (is_born c x z)
unfolding is_born
is_born_grow t c x z ok p0 =
    let n = ok.nameless z p0 in
    record {
      drawn = grind (arith, nat_tests);
      tunnel = grind (arith, nat_tests);
      mate = λ z h. refl;
      birth = grind (arith, nat_tests);
      made = λ z h. refl;
      remote = λ z h. refl;
      up = λ z h. h;
      over = λ z h. h;
      held = λ x e z h. refl;
    }

pub is_asked_for_grow : (t : Tunnels) (c : Calls) (z e : ℕ) → CallsHold t c → (c.state z ≡ Waits) → CallsGrow c (is_asked_for c z e)
unfolding is_asked_for
is_asked_for_grow t c z e ok p0 =
    let w = ok.waits z p0 in
    record {
      drawn = λ z h. h;
      tunnel = λ z h. refl;
      mate = λ z h. refl;
      birth = λ z h. refl;
      made = grind (arith, nat_tests);
      remote = λ z h. refl;
      up = λ z h. h;
      over = λ z h. h;
      held = λ x e z h. refl;
    }

pub replies_grow : (t : Tunnels) (c : Calls) (x e z own : ℕ) → CallsHold t c → (c.drawn z ≡ false) → CallsGrow c (replies c x e z own)
unfolding replies
replies_grow t c x e z own ok p0 =
    let n = ok.nameless z p0 in
    record {
      drawn = grind (arith, nat_tests);
      tunnel = grind (arith, nat_tests);
      mate = grind (arith, nat_tests);
      birth = grind (arith, nat_tests);
      made = grind (arith, nat_tests);
      remote = grind (arith, nat_tests);
      up = λ z h. h;
      over = λ z h. h;
      held = λ x e z h. refl;
    }

pub is_first_up_grow : (t : Tunnels) (c : Calls) (z own : ℕ) → CallsHold t c → (c.state z ≡ WaitsReply) → CallsGrow c (is_first_up c z own)
unfolding is_first_up
is_first_up_grow t c z own ok p0 =
    let w = ok.waits_reply z p0 in
    record {
      drawn = λ z h. h;
      tunnel = λ z h. refl;
      mate = λ z h. refl;
      birth = λ z h. refl;
      made = λ z h. refl;
      remote = grind (arith, nat_tests);
      up = grind (arith, nat_tests);
      over = λ z h. h;
      held = λ x e z h. refl;
    }

pub is_second_up_grow : (t : Tunnels) (c : Calls) (z : ℕ) → CallsHold t c → CallsGrow c (is_second_up c z)
unfolding is_second_up
is_second_up_grow t c z ok =
    record {
      drawn = λ z h. h;
      tunnel = λ z h. refl;
      mate = λ z h. refl;
      birth = λ z h. refl;
      made = λ z h. refl;
      remote = λ z h. refl;
      up = grind (arith, nat_tests);
      over = λ z h. h;
      held = λ x e z h. refl;
    }

not_yet : (t : Tunnels) (x y e f : ℕ) → t.entered x < e → y ≡ x → f ≡ e → f ≤ t.entered y → ⊥
not_yet t x y e f a b d g = grind arith

pub resets_grow : (t : Tunnels) (c : Calls) (asked : Bool) (x e : ℕ) → CallsHold t c → (t.entered x < e) → CallsGrow c (resets asked c x e)
unfolding resets
resets_grow t c asked x e ok p0 =
    record {
      drawn = λ z h. h;
      tunnel = λ z h. refl;
      mate = λ z h. refl;
      birth = λ z h. refl;
      made = λ z h. refl;
      remote = λ z h. refl;
      up = λ z h. h;
      over = λ z h. h;
      held = λ y f z. at_name c.held x (λ g. cond (eqb g e) (λ v. cond (eqb (c.tunnel v) x && is_up (c.state v)) (c.remote v) 0) (c.held x g)) y (λ k. c.held y f z ≢ 0 → k f z ≡ c.held y f z) (λ same. at_name (c.held x) e (λ v. cond (eqb (c.tunnel v) x && is_up (c.state v)) (c.remote v) 0) f (λ k. c.held y f z ≢ 0 → k z ≡ c.held y f z) (λ here h. absurd (let a = (ok.held_call y f z h).2 in not_yet t x y e f p0 same here a)) (λ other h. rw same refl)) (λ other h. refl);
    }

pub is_told_grow : (t : Tunnels) (c : Calls) (x z : ℕ) → CallsHold t c → CallsGrow c (is_told c x z)
unfolding is_told
is_told_grow t c x z ok =
    record {
      drawn = λ z h. h;
      tunnel = λ z h. refl;
      mate = λ z h. refl;
      birth = λ z h. refl;
      made = λ z h. refl;
      remote = λ z h. refl;
      up = λ z h. h;
      over = λ z h. h;
      held = λ x e z h. refl;
    }
