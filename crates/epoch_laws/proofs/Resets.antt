-- The two resets.
use Rattle.std.proofs.Common.{◌≡◌, ◌≢◌, ℕ, true, arith}
use Rattle.std.proofs.lemmas.Bool.Decides.{nat_tests}
use Rattle.epoch_machine.specs.Tunnels.{Tunnels, Attempts, Answers, confirms, is_confirmed}
use Rattle.epoch_laws.specs.Epochs.{EpochsHold}

pub confirms_ok : (t : Tunnels) (x c : ℕ) → EpochsHold t → (t.phase x ≡ Attempts (t.answered c)) → (t.answers c ≢ 0) → EpochsHold (confirms t x c)
unfolding confirms
confirms_ok t x c ok p0 p1 =
    record {
      zero = ok.zero;
      nameless = λ k h. let n = ok.nameless k h in record {
        opener = n.opener;
        phase = grind (arith, nat_tests);
        learned = n.learned;
        booked = n.booked;
        epochs = n.epochs;
        attempts = n.attempts;
        answers = n.answers;
        confirmed = grind (arith, nat_tests);
      };
      learned_drawn = ok.learned_drawn;
      answered_drawn = ok.answered_drawn;
      opener_linked = ok.opener_linked;
      acceptor_learned = ok.acceptor_learned;
      opener_learned = ok.opener_learned;
      waits_reply = grind (arith, nat_tests);
      waits_connect = grind (arith, nat_tests);
      waits_unattempted = grind (arith, nat_tests);
      waits_unbooked = grind (arith, nat_tests);
      established_linked = grind (arith, nat_tests);
      booked_linked = ok.booked_linked;
      attempts_linked = ok.attempts_linked;
      answers_linked = ok.answers_linked;
      epochs_linked = ok.epochs_linked;
      same_epochs = ok.same_epochs;
      makes_some = ok.makes_some;
      makes_counted = ok.makes_counted;
      entered_made = grind (arith, nat_tests);
      attempts_own = grind (arith, nat_tests);
      attempts_begun = grind (arith, nat_tests);
      attempts_entered = grind (arith, nat_tests);
      attempts_other = grind (arith, nat_tests);
      attempts_made = grind (arith, nat_tests);
      attempts_answered = grind (arith, nat_tests);
      answers_own = grind (arith, nat_tests);
      answers_last = grind (arith, nat_tests);
      answers_entered = grind (arith, nat_tests);
      answers_other = grind (arith, nat_tests);
      confirmed_answers = grind (arith, nat_tests);
      confirmed_entered = grind (arith, nat_tests);
      open_made = grind (arith, nat_tests);
      open_above = grind (arith, nat_tests);
    }

pub is_confirmed_ok : (t : Tunnels) (x c : ℕ) → EpochsHold t → (t.phase x ≡ Answers c) → (t.confirmed c ≡ true) → EpochsHold (is_confirmed t x c)
unfolding is_confirmed
is_confirmed_ok t x c ok p0 p1 =
    record {
      zero = ok.zero;
      nameless = λ k h. let n = ok.nameless k h in record {
        opener = n.opener;
        phase = grind (arith, nat_tests);
        learned = n.learned;
        booked = n.booked;
        epochs = n.epochs;
        attempts = n.attempts;
        answers = n.answers;
        confirmed = n.confirmed;
      };
      learned_drawn = ok.learned_drawn;
      answered_drawn = ok.answered_drawn;
      opener_linked = ok.opener_linked;
      acceptor_learned = ok.acceptor_learned;
      opener_learned = ok.opener_learned;
      waits_reply = grind (arith, nat_tests);
      waits_connect = grind (arith, nat_tests);
      waits_unattempted = grind (arith, nat_tests);
      waits_unbooked = grind (arith, nat_tests);
      established_linked = grind (arith, nat_tests);
      booked_linked = ok.booked_linked;
      attempts_linked = ok.attempts_linked;
      answers_linked = ok.answers_linked;
      epochs_linked = ok.epochs_linked;
      same_epochs = ok.same_epochs;
      makes_some = ok.makes_some;
      makes_counted = ok.makes_counted;
      entered_made = grind (arith, nat_tests);
      attempts_own = grind (arith, nat_tests);
      attempts_begun = grind (arith, nat_tests);
      attempts_entered = grind (arith, nat_tests);
      attempts_other = grind (arith, nat_tests);
      attempts_made = grind (arith, nat_tests);
      attempts_answered = grind (arith, nat_tests);
      answers_own = grind (arith, nat_tests);
      answers_last = grind (arith, nat_tests);
      answers_entered = grind (arith, nat_tests);
      answers_other = grind (arith, nat_tests);
      confirmed_answers = ok.confirmed_answers;
      confirmed_entered = grind (arith, nat_tests);
      open_made = grind (arith, nat_tests);
      open_above = grind (arith, nat_tests);
    }
