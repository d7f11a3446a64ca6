-- An attempt, an answer, and the two resets.
use Rattle.std.proofs.Common.{◌≡◌, ◌≢◌, ℕ, true, false, arith}
use Rattle.std.proofs.lemmas.Bool.Decides.{nat_tests}
use Rattle.epoch_machine.specs.Tunnels.{Tunnels, Gone, Attempts, is_established, restored, frozen}
use Rattle.epoch_laws.specs.Epochs.{EpochsHold}

-- an attempt that wasn't drawn is no tunnel's
unattempted : (t : Tunnels) (z a : ℕ) → EpochsHold t → t.drawn a ≡ false → t.phase z ≡ Attempts a → ⊥
unattempted t z a ok new h = grind (arith, nat_tests, ok.attempts_own z a h, ok.nameless a new, ok.nameless 0 ok.zero)

pub restored_ok : (t : Tunnels) (x a : ℕ) → EpochsHold t → (t.booked x ≡ true) → (t.phase x ≡ Gone) → (t.drawn a ≡ false) → (a ≢ 0) → EpochsHold (restored t x a)
unfolding restored
restored_ok t x a ok p0 p1 p2 p3 =
    let none : (z : ℕ) → t.phase z ≡ Attempts a → ⊥ = λ z h. unattempted t z a ok p2 h in
    record {
      zero = grind (arith, nat_tests);
      nameless = λ k h. let n = ok.nameless k (grind (arith, nat_tests)) in record {
        opener = n.opener;
        phase = grind (arith, nat_tests);
        learned = n.learned;
        booked = n.booked;
        epochs = n.epochs;
        attempts = grind (arith, nat_tests);
        answers = n.answers;
        confirmed = n.confirmed;
      };
      learned_drawn = grind (arith, nat_tests);
      answered_drawn = grind (arith, nat_tests);
      opener_linked = ok.opener_linked;
      acceptor_learned = ok.acceptor_learned;
      opener_learned = ok.opener_learned;
      waits_reply = grind (arith, nat_tests);
      waits_connect = grind (arith, nat_tests);
      waits_unattempted = grind (arith, nat_tests);
      waits_unbooked = grind (arith, nat_tests);
      established_linked = grind (arith, nat_tests);
      booked_linked = ok.booked_linked;
      attempts_linked = grind (arith, nat_tests);
      answers_linked = ok.answers_linked;
      epochs_linked = ok.epochs_linked;
      same_epochs = ok.same_epochs;
      makes_some = ok.makes_some;
      makes_counted = ok.makes_counted;
      entered_made = ok.entered_made;
      attempts_own = grind (arith, nat_tests);
      attempts_begun = λ z b h. grind (arith, nat_tests, none z);
      attempts_entered = grind (arith, nat_tests);
      attempts_other = grind (arith, nat_tests);
      attempts_made = λ z b c h. grind (arith, nat_tests, none z);
      attempts_answered = grind (arith, nat_tests);
      answers_own = grind (arith, nat_tests);
      answers_last = grind (arith, nat_tests);
      answers_entered = grind (arith, nat_tests);
      answers_other = grind (arith, nat_tests);
      confirmed_answers = ok.confirmed_answers;
      confirmed_entered = ok.confirmed_entered;
      open_made = grind (arith, nat_tests);
      open_above = grind (arith, nat_tests);
    }

pub frozen_ok : (t : Tunnels) (x a c own theirs : ℕ) → EpochsHold t → (is_established (t.phase x) ≡ true) → (t.attempts a ≢ 0) → (t.learned (t.attempts a) ≡ x) → (t.learned x ≡ t.attempts a) → (t.drawn c ≡ false) → (c ≢ 0) → EpochsHold (frozen t x a c own theirs)
unfolding frozen
frozen_ok t x a c own theirs ok p0 p1 p2 p3 p4 p5 =
    record {
      zero = grind (arith, nat_tests);
      nameless = λ k h. let n = ok.nameless k (grind (arith, nat_tests)) in record {
        opener = n.opener;
        phase = grind (arith, nat_tests);
        learned = n.learned;
        booked = n.booked;
        epochs = grind (arith, nat_tests);
        attempts = n.attempts;
        answers = grind (arith, nat_tests);
        confirmed = n.confirmed;
      };
      learned_drawn = grind (arith, nat_tests);
      answered_drawn = grind (arith, nat_tests);
      opener_linked = ok.opener_linked;
      acceptor_learned = ok.acceptor_learned;
      opener_learned = ok.opener_learned;
      waits_reply = grind (arith, nat_tests);
      waits_connect = grind (arith, nat_tests);
      waits_unattempted = grind (arith, nat_tests);
      waits_unbooked = grind (arith, nat_tests);
      established_linked = grind (arith, nat_tests);
      booked_linked = ok.booked_linked;
      attempts_linked = ok.attempts_linked;
      answers_linked = grind (arith, nat_tests);
      epochs_linked = grind (arith, nat_tests);
      same_epochs = grind (arith, nat_tests);
      makes_some = grind (arith, nat_tests);
      makes_counted = grind (arith, nat_tests);
      entered_made = grind (arith, nat_tests);
      attempts_own = grind (arith, nat_tests);
      attempts_begun = grind (arith, nat_tests);
      attempts_entered = grind (arith, nat_tests);
      attempts_other = grind (arith, nat_tests);
      attempts_made = grind (arith, nat_tests);
      attempts_answered = grind (arith, nat_tests);
      answers_own = grind (arith, nat_tests);
      answers_last = grind (arith, nat_tests);
      answers_entered = grind (arith, nat_tests);
      answers_other = grind (arith, nat_tests);
      confirmed_answers = grind (arith, nat_tests);
      confirmed_entered = grind (arith, nat_tests);
      open_made = grind (arith, nat_tests);
      open_above = grind (arith, nat_tests);
    }
