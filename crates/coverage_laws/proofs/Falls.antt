-- A node that falls, with records that are kept.
use Rattle.std.proofs.Common.{◌≡◌, ◌≢◌, ℕ, Bool, true, eqb, arith}
use Rattle.std.proofs.lemmas.Bool.Decides.{nat_tests}
use Rattle.epoch_machine.specs.Tunnels.{Tunnels, goes_down}
use Rattle.epoch_machine.specs.Calls.{Calls, ends, loses, keeps_call}
use Rattle.coverage_laws.specs.Coverage.{StatesHold}

pub falls_ok : (t : Tunnels) (c : Calls) (n : ℕ) → StatesHold t c → StatesHold (goes_down t n) (loses c (λ z. eqb (t.node (c.tunnel z)) n))
unfolding goes_down loses
falls_ok t c n ok =
    record {
      state_fits = grind (arith, nat_tests);
      young = grind (arith, nat_tests);
      up_lived = grind (arith, nat_tests);
      made_entered = ok.made_entered;
      unmade = grind (arith, nat_tests);
      held_older = ok.held_older;
      booked_lives = grind (arith, nat_tests);
      up_first = ok.up_first;
    }

pub ended_too : (t : Tunnels) (c : Calls) (n : ℕ) (k1 : ℕ → Bool) → StatesHold (goes_down t n) (loses c (λ z. eqb (t.node (c.tunnel z)) n)) → StatesHold (goes_down t n) (loses (ends c k1) (λ z. eqb (t.node (c.tunnel z)) n))
unfolding goes_down loses ends
ended_too t c n k1 ok =
    record {
      state_fits = grind (arith, nat_tests);
      young = grind (arith, nat_tests);
      up_lived = grind (arith, nat_tests);
      made_entered = ok.made_entered;
      unmade = ok.unmade;
      held_older = ok.held_older;
      booked_lives = grind (arith, nat_tests);
      up_first = ok.up_first;
    }

pub kept_too : (t : Tunnels) (c : Calls) (n z own : ℕ) → StatesHold (goes_down t n) (loses c (λ z. eqb (t.node (c.tunnel z)) n)) → (t.node (c.tunnel z) ≡ n) → (c.mate z ≢ 0 → c.up (c.mate z) ≡ true) → StatesHold (goes_down t n) (loses (keeps_call c z own) (λ z. eqb (t.node (c.tunnel z)) n))
unfolding goes_down loses keeps_call
kept_too t c n z own ok p0 p1 =
    record {
      state_fits = ok.state_fits;
      young = ok.young;
      up_lived = ok.up_lived;
      made_entered = ok.made_entered;
      unmade = ok.unmade;
      held_older = ok.held_older;
      booked_lives = grind (arith, nat_tests);
      up_first = grind (arith, nat_tests);
    }
