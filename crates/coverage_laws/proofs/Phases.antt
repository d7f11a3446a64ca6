-- Tunnels that change.
use Rattle.std.proofs.Common.{◌≡◌, ◌⊎◌, ℕ, true, false, None, arith}
use Rattle.std.proofs.lemmas.Bool.Decides.{nat_tests}
use Rattle.epoch_machine.specs.Tunnels.{Tunnels, Phase, Gone, WaitReply, WaitConnect, Closed, is_established, left, opened, accepted, established_with, established, restored, frozen, comes_up}
use Rattle.epoch_machine.specs.Calls.{Calls, NoCall, ends, comes_back, of_tunnel, unfinished}
use Rattle.coverage_laws.specs.Coverage.{StatesHold}

pub opened_ok : (t : Tunnels) (c : Calls) (n m x : ℕ) → StatesHold t c → ((z : ℕ) → c.tunnel z ≡ x → (c.state z ≡ NoCall) × (c.made z ≡ None) × (c.booked z ≡ false)) → StatesHold (opened t n m x) (c)
unfolding opened
opened_ok t c n m x ok p0 =
    record {
      state_fits = grind (arith, nat_tests);
      young = grind (arith, nat_tests);
      up_lived = grind (arith, nat_tests);
      made_entered = ok.made_entered;
      unmade = grind (arith, nat_tests);
      held_older = ok.held_older;
      booked_lives = grind (arith, nat_tests);
      up_first = ok.up_first;
    }

pub accepted_ok : (t : Tunnels) (c : Calls) (s x : ℕ) → StatesHold t c → ((z : ℕ) → c.tunnel z ≡ x → (c.state z ≡ NoCall) × (c.made z ≡ None) × (c.booked z ≡ false)) → StatesHold (accepted t s x) (c)
unfolding accepted
accepted_ok t c s x ok p0 =
    record {
      state_fits = grind (arith, nat_tests);
      young = grind (arith, nat_tests);
      up_lived = grind (arith, nat_tests);
      made_entered = ok.made_entered;
      unmade = grind (arith, nat_tests);
      held_older = ok.held_older;
      booked_lives = grind (arith, nat_tests);
      up_first = ok.up_first;
    }

pub established_with_ok : (t : Tunnels) (c : Calls) (x s : ℕ) → StatesHold t c → (t.phase x ≡ WaitReply) → StatesHold (established_with t x s) (c)
unfolding established_with
established_with_ok t c x s ok p0 =
    record {
      state_fits = grind (arith, nat_tests);
      young = grind (arith, nat_tests);
      up_lived = grind (arith, nat_tests);
      made_entered = ok.made_entered;
      unmade = grind (arith, nat_tests);
      held_older = ok.held_older;
      booked_lives = grind (arith, nat_tests);
      up_first = ok.up_first;
    }

pub established_ok : (t : Tunnels) (c : Calls) (x : ℕ) → StatesHold t c → (t.phase x ≡ WaitConnect) → StatesHold (established t x) (c)
unfolding established
established_ok t c x ok p0 =
    record {
      state_fits = grind (arith, nat_tests);
      young = grind (arith, nat_tests);
      up_lived = grind (arith, nat_tests);
      made_entered = ok.made_entered;
      unmade = grind (arith, nat_tests);
      held_older = ok.held_older;
      booked_lives = grind (arith, nat_tests);
      up_first = ok.up_first;
    }

pub left_ok : (t : Tunnels) (c : Calls) (x : ℕ) (p : Phase) → StatesHold t c → (p ≡ Gone) ⊎ (p ≡ Closed) → StatesHold (left t x p) (ends c (of_tunnel c x))
unfolding left ends
left_ok t c x p ok p0 =
    record {
      state_fits = grind (arith, nat_tests);
      young = grind (arith, nat_tests);
      up_lived = grind (arith, nat_tests);
      made_entered = ok.made_entered;
      unmade = grind (arith, nat_tests);
      held_older = ok.held_older;
      booked_lives = grind (arith, nat_tests);
      up_first = ok.up_first;
    }

pub frozen_ok : (t : Tunnels) (c : Calls) (x a b own theirs : ℕ) → StatesHold t c → (is_established (t.phase x) ≡ true) → StatesHold (frozen t x a b own theirs) (ends c (unfinished c x))
unfolding frozen ends
frozen_ok t c x a b own theirs ok p0 =
    record {
      state_fits = grind (arith, nat_tests);
      young = grind (arith, nat_tests);
      up_lived = grind (arith, nat_tests);
      made_entered = ok.made_entered;
      unmade = grind (arith, nat_tests);
      held_older = ok.held_older;
      booked_lives = grind (arith, nat_tests);
      up_first = ok.up_first;
    }

pub restored_ok : (t : Tunnels) (c : Calls) (x a : ℕ) → StatesHold t c → (t.phase x ≡ Gone) → StatesHold (restored t x a) (comes_back c x)
unfolding restored comes_back
restored_ok t c x a ok p0 =
    record {
      state_fits = grind (arith, nat_tests);
      young = grind (arith, nat_tests);
      up_lived = grind (arith, nat_tests);
      made_entered = ok.made_entered;
      unmade = grind (arith, nat_tests);
      held_older = ok.held_older;
      booked_lives = grind (arith, nat_tests);
      up_first = ok.up_first;
    }

pub up_ok : (t : Tunnels) (c : Calls) (n : ℕ) → StatesHold t c → StatesHold (comes_up t n) (c)
unfolding comes_up
up_ok t c n ok =
    record {
      state_fits = ok.state_fits;
      young = ok.young;
      up_lived = ok.up_lived;
      made_entered = ok.made_entered;
      unmade = ok.unmade;
      held_older = ok.held_older;
      booked_lives = ok.booked_lives;
      up_first = ok.up_first;
    }
