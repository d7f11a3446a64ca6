-- A tunnel that is closed or gone, and a node that goes down or comes up.
use Rattle.std.proofs.Common.{◌≢◌, ℕ, arith}
use Rattle.std.proofs.lemmas.Bool.Decides.{nat_tests}
use Rattle.epoch_machine.specs.Tunnels.{Tunnels, Gone, Closed, left, goes_down, comes_up, keeps_down}
use Rattle.epoch_laws.specs.Epochs.{EpochsHold}

pub closed_ok : (t : Tunnels) (x : ℕ) → EpochsHold t → (t.phase x ≢ Gone) → EpochsHold (left t x Closed)
unfolding left
closed_ok t x ok p0 =
    record {
      zero = ok.zero;
      nameless = λ k h. let n = ok.nameless k h in record {
        opener = n.opener;
        phase = grind (arith, nat_tests);
        learned = n.learned;
        booked = grind (arith, nat_tests);
        epochs = n.epochs;
        attempts = n.attempts;
        answers = n.answers;
        confirmed = n.confirmed;
      };
      learned_drawn = ok.learned_drawn;
      answered_drawn = ok.answered_drawn;
      opener_linked = ok.opener_linked;
      acceptor_learned = ok.acceptor_learned;
      opener_learned = ok.opener_learned;
      waits_reply = grind (arith, nat_tests);
      waits_connect = grind (arith, nat_tests);
      waits_unattempted = grind (arith, nat_tests);
      waits_unbooked = grind (arith, nat_tests);
      established_linked = grind (arith, nat_tests);
      booked_linked = grind (arith, nat_tests);
      attempts_linked = ok.attempts_linked;
      answers_linked = ok.answers_linked;
      epochs_linked = ok.epochs_linked;
      same_epochs = ok.same_epochs;
      makes_some = ok.makes_some;
      makes_counted = ok.makes_counted;
      entered_made = ok.entered_made;
      attempts_own = grind (arith, nat_tests);
      attempts_begun = grind (arith, nat_tests);
      attempts_entered = grind (arith, nat_tests);
      attempts_other = grind (arith, nat_tests);
      attempts_made = grind (arith, nat_tests);
      attempts_answered = grind (arith, nat_tests);
      answers_own = grind (arith, nat_tests);
      answers_last = grind (arith, nat_tests);
      answers_entered = grind (arith, nat_tests);
      answers_other = grind (arith, nat_tests);
      confirmed_answers = ok.confirmed_answers;
      confirmed_entered = ok.confirmed_entered;
      open_made = grind (arith, nat_tests);
      open_above = grind (arith, nat_tests);
    }

pub gone_ok : (t : Tunnels) (x : ℕ) → EpochsHold t → EpochsHold (left t x Gone)
unfolding left
gone_ok t x ok =
    record {
      zero = ok.zero;
      nameless = λ k h. let n = ok.nameless k h in record {
        opener = n.opener;
        phase = grind (arith, nat_tests);
        learned = n.learned;
        booked = grind (arith, nat_tests);
        epochs = n.epochs;
        attempts = n.attempts;
        answers = n.answers;
        confirmed = n.confirmed;
      };
      learned_drawn = ok.learned_drawn;
      answered_drawn = ok.answered_drawn;
      opener_linked = ok.opener_linked;
      acceptor_learned = ok.acceptor_learned;
      opener_learned = ok.opener_learned;
      waits_reply = grind (arith, nat_tests);
      waits_connect = grind (arith, nat_tests);
      waits_unattempted = grind (arith, nat_tests);
      waits_unbooked = grind (arith, nat_tests);
      established_linked = grind (arith, nat_tests);
      booked_linked = grind (arith, nat_tests);
      attempts_linked = ok.attempts_linked;
      answers_linked = ok.answers_linked;
      epochs_linked = ok.epochs_linked;
      same_epochs = ok.same_epochs;
      makes_some = ok.makes_some;
      makes_counted = ok.makes_counted;
      entered_made = ok.entered_made;
      attempts_own = grind (arith, nat_tests);
      attempts_begun = grind (arith, nat_tests);
      attempts_entered = grind (arith, nat_tests);
      attempts_other = grind (arith, nat_tests);
      attempts_made = grind (arith, nat_tests);
      attempts_answered = grind (arith, nat_tests);
      answers_own = grind (arith, nat_tests);
      answers_last = grind (arith, nat_tests);
      answers_entered = grind (arith, nat_tests);
      answers_other = grind (arith, nat_tests);
      confirmed_answers = ok.confirmed_answers;
      confirmed_entered = ok.confirmed_entered;
      open_made = grind (arith, nat_tests);
      open_above = grind (arith, nat_tests);
    }

pub down_ok : (t : Tunnels) (n : ℕ) → EpochsHold t → EpochsHold (goes_down t n)
unfolding goes_down
down_ok t n ok =
    record {
      zero = ok.zero;
      nameless = λ k h. let n = ok.nameless k h in record {
        opener = n.opener;
        phase = grind (arith, nat_tests);
        learned = n.learned;
        booked = n.booked;
        epochs = n.epochs;
        attempts = n.attempts;
        answers = n.answers;
        confirmed = n.confirmed;
      };
      learned_drawn = ok.learned_drawn;
      answered_drawn = ok.answered_drawn;
      opener_linked = ok.opener_linked;
      acceptor_learned = ok.acceptor_learned;
      opener_learned = ok.opener_learned;
      waits_reply = grind (arith, nat_tests);
      waits_connect = grind (arith, nat_tests);
      waits_unattempted = grind (arith, nat_tests);
      waits_unbooked = grind (arith, nat_tests);
      established_linked = grind (arith, nat_tests);
      booked_linked = ok.booked_linked;
      attempts_linked = ok.attempts_linked;
      answers_linked = ok.answers_linked;
      epochs_linked = ok.epochs_linked;
      same_epochs = ok.same_epochs;
      makes_some = ok.makes_some;
      makes_counted = ok.makes_counted;
      entered_made = ok.entered_made;
      attempts_own = grind (arith, nat_tests);
      attempts_begun = grind (arith, nat_tests);
      attempts_entered = grind (arith, nat_tests);
      attempts_other = grind (arith, nat_tests);
      attempts_made = grind (arith, nat_tests);
      attempts_answered = grind (arith, nat_tests);
      answers_own = grind (arith, nat_tests);
      answers_last = grind (arith, nat_tests);
      answers_entered = grind (arith, nat_tests);
      answers_other = grind (arith, nat_tests);
      confirmed_answers = ok.confirmed_answers;
      confirmed_entered = ok.confirmed_entered;
      open_made = grind (arith, nat_tests);
      open_above = grind (arith, nat_tests);
    }

pub up_ok : (t : Tunnels) (n : ℕ) → EpochsHold t → EpochsHold (comes_up t n)
unfolding comes_up
up_ok t n ok =
    record {
      zero = ok.zero;
      nameless = λ k h. let n = ok.nameless k h in record { opener = n.opener; phase = n.phase; learned = n.learned; booked = n.booked; epochs = n.epochs; attempts = n.attempts; answers = n.answers; confirmed = n.confirmed };
      learned_drawn = ok.learned_drawn;
      answered_drawn = ok.answered_drawn;
      opener_linked = ok.opener_linked;
      acceptor_learned = ok.acceptor_learned;
      opener_learned = ok.opener_learned;
      waits_reply = ok.waits_reply;
      waits_connect = ok.waits_connect;
      waits_unattempted = ok.waits_unattempted;
      waits_unbooked = ok.waits_unbooked;
      established_linked = ok.established_linked;
      booked_linked = ok.booked_linked;
      attempts_linked = ok.attempts_linked;
      answers_linked = ok.answers_linked;
      epochs_linked = ok.epochs_linked;
      same_epochs = ok.same_epochs;
      makes_some = ok.makes_some;
      makes_counted = ok.makes_counted;
      entered_made = ok.entered_made;
      attempts_own = ok.attempts_own;
      attempts_begun = ok.attempts_begun;
      attempts_entered = ok.attempts_entered;
      attempts_other = ok.attempts_other;
      attempts_made = ok.attempts_made;
      attempts_answered = ok.attempts_answered;
      answers_own = ok.answers_own;
      answers_last = ok.answers_last;
      answers_entered = ok.answers_entered;
      answers_other = ok.answers_other;
      confirmed_answers = ok.confirmed_answers;
      confirmed_entered = ok.confirmed_entered;
      open_made = ok.open_made;
      open_above = ok.open_above;
    }

pub keeps_down_ok : (t : Tunnels) (x : ℕ) → EpochsHold t → EpochsHold (keeps_down t x)
unfolding keeps_down
keeps_down_ok t x ok =
    record {
      zero = ok.zero;
      nameless = λ k h. let n = ok.nameless k h in record {
        opener = n.opener;
        phase = n.phase;
        learned = n.learned;
        booked = grind (arith, nat_tests);
        epochs = n.epochs;
        attempts = n.attempts;
        answers = n.answers;
        confirmed = n.confirmed;
      };
      learned_drawn = ok.learned_drawn;
      answered_drawn = ok.answered_drawn;
      opener_linked = ok.opener_linked;
      acceptor_learned = ok.acceptor_learned;
      opener_learned = ok.opener_learned;
      waits_reply = ok.waits_reply;
      waits_connect = ok.waits_connect;
      waits_unattempted = ok.waits_unattempted;
      waits_unbooked = grind (arith, nat_tests);
      established_linked = ok.established_linked;
      booked_linked = grind (arith, nat_tests);
      attempts_linked = ok.attempts_linked;
      answers_linked = ok.answers_linked;
      epochs_linked = ok.epochs_linked;
      same_epochs = ok.same_epochs;
      makes_some = ok.makes_some;
      makes_counted = ok.makes_counted;
      entered_made = ok.entered_made;
      attempts_own = ok.attempts_own;
      attempts_begun = ok.attempts_begun;
      attempts_entered = ok.attempts_entered;
      attempts_other = ok.attempts_other;
      attempts_made = ok.attempts_made;
      attempts_answered = ok.attempts_answered;
      answers_own = ok.answers_own;
      answers_last = ok.answers_last;
      answers_entered = ok.answers_entered;
      answers_other = ok.answers_other;
      confirmed_answers = ok.confirmed_answers;
      confirmed_entered = ok.confirmed_entered;
      open_made = ok.open_made;
      open_above = ok.open_above;
    }
