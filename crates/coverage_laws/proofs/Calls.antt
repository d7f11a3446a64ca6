-- Calls that change.
use Rattle.std.proofs.Common.{◌≡◌, ◌≢◌, ◌⊎◌, ℕ, Bool, true, false, None, arith}
use Rattle.std.proofs.lemmas.Bool.Decides.{nat_tests}
use Rattle.epoch_machine.specs.Tunnels.{Tunnels, WaitReply, Open}
use Rattle.epoch_machine.specs.Calls.{Calls, Waits, WaitsReply, WaitsConnect, ends, is_born, is_asked_for, replies, is_first_up, is_second_up, is_told}
use Rattle.birth_laws.specs.Births.{NoCallYet}
use Rattle.coverage_laws.specs.Coverage.{StatesHold}

pub ends_ok : (t : Tunnels) (c : Calls) (kind : ℕ → Bool) → StatesHold t c → StatesHold (t) (ends c kind)
unfolding ends
ends_ok t c kind ok =
    record {
      state_fits = grind (arith, nat_tests);
      young = grind (arith, nat_tests);
      up_lived = grind (arith, nat_tests);
      made_entered = ok.made_entered;
      unmade = ok.unmade;
      held_older = ok.held_older;
      booked_lives = grind (arith, nat_tests);
      up_first = ok.up_first;
    }

pub is_born_ok : (t : Tunnels) (c : Calls) (x z : ℕ) → StatesHold t c → (NoCallYet c z) → ((t.phase x ≡ Open) ⊎ (t.phase x ≡ WaitReply)) → StatesHold (t) (is_born c x z)
unfolding is_born
is_born_ok t c x z ok p0 p1 =
    record {
      state_fits = grind (arith, nat_tests);
      young = grind (arith, nat_tests);
      up_lived = grind (arith, nat_tests);
      made_entered = grind (arith, nat_tests);
      unmade = grind (arith, nat_tests);
      held_older = ok.held_older;
      booked_lives = grind (arith, nat_tests);
      up_first = ok.up_first;
    }

pub is_asked_for_ok : (t : Tunnels) (c : Calls) (z : ℕ) → StatesHold t c → (t.phase (c.tunnel z) ≡ Open) → (c.state z ≡ Waits) → (c.made z ≡ None) → (c.booked z ≡ false) → ((x e : ℕ) → c.held x e z ≡ 0) → StatesHold (t) (is_asked_for c z (t.entered (c.tunnel z)))
unfolding is_asked_for
is_asked_for_ok t c z ok p0 p1 p2 p3 p4 =
    record {
      state_fits = grind (arith, nat_tests);
      young = grind (arith, nat_tests);
      up_lived = grind (arith, nat_tests);
      made_entered = grind (arith, nat_tests);
      unmade = grind (arith, nat_tests);
      held_older = grind (arith, nat_tests);
      booked_lives = grind (arith, nat_tests);
      up_first = ok.up_first;
    }

pub replies_ok : (t : Tunnels) (c : Calls) (x z own : ℕ) → StatesHold t c → (NoCallYet c z) → (t.phase x ≡ Open) → ((x e : ℕ) → c.held x e z ≡ 0) → ((y : ℕ) → c.mate y ≢ z) → StatesHold (t) (replies c x (t.entered x) z own)
unfolding replies
replies_ok t c x z own ok p0 p1 p2 p3 =
    record {
      state_fits = grind (arith, nat_tests);
      young = grind (arith, nat_tests);
      up_lived = grind (arith, nat_tests);
      made_entered = grind (arith, nat_tests);
      unmade = grind (arith, nat_tests);
      held_older = grind (arith, nat_tests);
      booked_lives = grind (arith, nat_tests);
      up_first = grind (arith, nat_tests);
    }

pub is_first_up_ok : (t : Tunnels) (c : Calls) (z own : ℕ) → StatesHold t c → (t.phase (c.tunnel z) ≡ Open) → (c.state z ≡ WaitsReply) → (c.mate z ≡ 0) → StatesHold (t) (is_first_up c z own)
unfolding is_first_up
is_first_up_ok t c z own ok p0 p1 p2 =
    record {
      state_fits = grind (arith, nat_tests);
      young = grind (arith, nat_tests);
      up_lived = grind (arith, nat_tests);
      made_entered = ok.made_entered;
      unmade = ok.unmade;
      held_older = ok.held_older;
      booked_lives = grind (arith, nat_tests);
      up_first = grind (arith, nat_tests);
    }

pub is_second_up_ok : (t : Tunnels) (c : Calls) (z : ℕ) → StatesHold t c → (t.phase (c.tunnel z) ≡ Open) → (c.state z ≡ WaitsConnect) → (c.up (c.mate z) ≡ true) → StatesHold (t) (is_second_up c z)
unfolding is_second_up
is_second_up_ok t c z ok p0 p1 p2 =
    record {
      state_fits = grind (arith, nat_tests);
      young = grind (arith, nat_tests);
      up_lived = grind (arith, nat_tests);
      made_entered = ok.made_entered;
      unmade = ok.unmade;
      held_older = ok.held_older;
      booked_lives = grind (arith, nat_tests);
      up_first = grind (arith, nat_tests);
    }

pub is_told_ok : (t : Tunnels) (c : Calls) (x z : ℕ) → StatesHold t c → StatesHold (t) (is_told c x z)
unfolding is_told
is_told_ok t c x z ok =
    record {
      state_fits = ok.state_fits;
      young = ok.young;
      up_lived = ok.up_lived;
      made_entered = ok.made_entered;
      unmade = ok.unmade;
      held_older = ok.held_older;
      booked_lives = ok.booked_lives;
      up_first = ok.up_first;
    }
