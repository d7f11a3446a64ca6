-- A new tunnel, and an acceptor that is established.
use Rattle.std.proofs.Common.{◌≡◌, ◌≢◌, ℕ, true, false, refl, sym, ◌∙◌, arith}
use Rattle.std.proofs.lemmas.Bool.Decides.{nat_tests}
use Rattle.epoch_machine.specs.Tunnels.{Tunnels, Linked, WaitConnect, opened, accepted, established}
use Rattle.epoch_machine.specs.Names.{assign}
use Rattle.epoch_laws.specs.Epochs.{EpochsHold}

back_still : (f : ℕ → ℕ) (x s z : ℕ) → f x ≡ 0 → f (f z) ≡ z → z ≢ 0 → f z ≢ 0 → assign f x s (assign f x s z) ≡ z
back_still f x s z a b c d = grind (arith, nat_tests)

name_still : (f : ℕ → ℕ) (x s z : ℕ) → f x ≡ 0 → f z ≢ 0 → assign f x s z ≢ 0
name_still f x s z a b c = grind (arith, nat_tests)

not_here : (f : ℕ → ℕ) (x s z : ℕ) → assign f x s z ≢ 0 → z ≢ x → f z ≢ 0
not_here f x s z a b c = grind (arith, nat_tests)

not_new : (t : Tunnels) (x z : ℕ) → EpochsHold t → t.drawn x ≡ false → t.opener z ≡ true → z ≢ x
not_new t x z ok new o e = let a = (ok.nameless x new).opener in let b : t.opener x ≡ true = rw (← e) o in let c : true ≡ false = sym b ∙ a in cc

-- a link stays one as another name learns
linked_still : (t : Tunnels) (s x z : ℕ) → EpochsHold t → t.drawn x ≡ false → Linked t.learned z (t.learned z) → Linked (assign t.learned x s) z (assign t.learned x s z)
linked_still t s x z ok new l = let n = (ok.nameless x new).learned in record { forth = refl; back = back_still t.learned x s z n l.back l.from_name l.to_name; from_name = l.from_name; to_name = name_still t.learned x s z n l.to_name }

pub opened_ok : (t : Tunnels) (n m x : ℕ) → EpochsHold t → (t.drawn x ≡ false) → (x ≢ 0) → EpochsHold (opened t n m x)
unfolding opened
opened_ok t n m x ok p0 p1 =
    record {
      zero = grind (arith, nat_tests);
      nameless = λ k h. let n = ok.nameless k (grind (arith, nat_tests)) in record {
        opener = grind (arith, nat_tests);
        phase = grind (arith, nat_tests);
        learned = n.learned;
        booked = n.booked;
        epochs = n.epochs;
        attempts = n.attempts;
        answers = n.answers;
        confirmed = n.confirmed;
      };
      learned_drawn = grind (arith, nat_tests);
      answered_drawn = grind (arith, nat_tests);
      opener_linked = grind (arith, nat_tests);
      acceptor_learned = grind (arith, nat_tests);
      opener_learned = grind (arith, nat_tests);
      waits_reply = grind (arith, nat_tests);
      waits_connect = grind (arith, nat_tests);
      waits_unattempted = grind (arith, nat_tests);
      waits_unbooked = grind (arith, nat_tests);
      established_linked = grind (arith, nat_tests);
      booked_linked = ok.booked_linked;
      attempts_linked = ok.attempts_linked;
      answers_linked = ok.answers_linked;
      epochs_linked = ok.epochs_linked;
      same_epochs = ok.same_epochs;
      makes_some = ok.makes_some;
      makes_counted = ok.makes_counted;
      entered_made = ok.entered_made;
      attempts_own = grind (arith, nat_tests);
      attempts_begun = grind (arith, nat_tests);
      attempts_entered = grind (arith, nat_tests);
      attempts_other = grind (arith, nat_tests);
      attempts_made = grind (arith, nat_tests);
      attempts_answered = grind (arith, nat_tests);
      answers_own = grind (arith, nat_tests);
      answers_last = grind (arith, nat_tests);
      answers_entered = grind (arith, nat_tests);
      answers_other = grind (arith, nat_tests);
      confirmed_answers = ok.confirmed_answers;
      confirmed_entered = ok.confirmed_entered;
      open_made = grind (arith, nat_tests);
      open_above = grind (arith, nat_tests);
    }

pub accepted_ok : (t : Tunnels) (s x : ℕ) → EpochsHold t → (t.drawn x ≡ false) → (x ≢ 0) → (t.opener s ≡ true) → (t.drawn s ≡ true) → EpochsHold (accepted t s x)
unfolding accepted
accepted_ok t s x ok p0 p1 p2 p3 =
    record {
      zero = grind (arith, nat_tests);
      nameless = λ k h. let n = ok.nameless k (grind (arith, nat_tests)) in record {
        opener = n.opener;
        phase = grind (arith, nat_tests);
        learned = grind (arith, nat_tests);
        booked = n.booked;
        epochs = n.epochs;
        attempts = n.attempts;
        answers = n.answers;
        confirmed = n.confirmed;
      };
      learned_drawn = grind (arith, nat_tests);
      answered_drawn = grind (arith, nat_tests);
      opener_linked = λ z o h. linked_still t s x z ok p0 (ok.opener_linked z o (not_here t.learned x s z h (not_new t x z ok p0 o)));
      acceptor_learned = grind (arith, nat_tests);
      opener_learned = grind (arith, nat_tests);
      waits_reply = grind (arith, nat_tests);
      waits_connect = grind (arith, nat_tests);
      waits_unattempted = grind (arith, nat_tests);
      waits_unbooked = grind (arith, nat_tests);
      established_linked = grind (arith, nat_tests);
      booked_linked = grind (arith, nat_tests);
      attempts_linked = grind (arith, nat_tests);
      answers_linked = grind (arith, nat_tests);
      epochs_linked = λ z h. linked_still t s x z ok p0 (ok.epochs_linked z h);
      same_epochs = grind (arith, nat_tests);
      makes_some = ok.makes_some;
      makes_counted = ok.makes_counted;
      entered_made = ok.entered_made;
      attempts_own = grind (arith, nat_tests);
      attempts_begun = grind (arith, nat_tests);
      attempts_entered = grind (arith, nat_tests);
      attempts_other = grind (arith, nat_tests);
      attempts_made = grind (arith, nat_tests);
      attempts_answered = grind (arith, nat_tests);
      answers_own = grind (arith, nat_tests);
      answers_last = grind (arith, nat_tests);
      answers_entered = grind (arith, nat_tests);
      answers_other = grind (arith, nat_tests);
      confirmed_answers = ok.confirmed_answers;
      confirmed_entered = grind (arith, nat_tests);
      open_made = grind (arith, nat_tests);
      open_above = grind (arith, nat_tests);
    }

pub established_ok : (t : Tunnels) (x s : ℕ) → EpochsHold t → (t.phase x ≡ WaitConnect) → (t.learned s ≡ x) → (s ≢ 0) → EpochsHold (established t x)
unfolding established
established_ok t x s ok p0 p1 p2 =
    record {
      zero = ok.zero;
      nameless = λ k h. let n = ok.nameless k h in record {
        opener = n.opener;
        phase = grind (arith, nat_tests);
        learned = n.learned;
        booked = grind (arith, nat_tests);
        epochs = n.epochs;
        attempts = n.attempts;
        answers = n.answers;
        confirmed = n.confirmed;
      };
      learned_drawn = ok.learned_drawn;
      answered_drawn = ok.answered_drawn;
      opener_linked = ok.opener_linked;
      acceptor_learned = ok.acceptor_learned;
      opener_learned = ok.opener_learned;
      waits_reply = grind (arith, nat_tests);
      waits_connect = grind (arith, nat_tests);
      waits_unattempted = grind (arith, nat_tests);
      waits_unbooked = grind (arith, nat_tests);
      established_linked = grind (arith, nat_tests);
      booked_linked = grind (arith, nat_tests);
      attempts_linked = ok.attempts_linked;
      answers_linked = ok.answers_linked;
      epochs_linked = ok.epochs_linked;
      same_epochs = ok.same_epochs;
      makes_some = ok.makes_some;
      makes_counted = ok.makes_counted;
      entered_made = ok.entered_made;
      attempts_own = grind (arith, nat_tests);
      attempts_begun = grind (arith, nat_tests);
      attempts_entered = grind (arith, nat_tests);
      attempts_other = grind (arith, nat_tests);
      attempts_made = grind (arith, nat_tests);
      attempts_answered = grind (arith, nat_tests);
      answers_own = grind (arith, nat_tests);
      answers_last = grind (arith, nat_tests);
      answers_entered = grind (arith, nat_tests);
      answers_other = grind (arith, nat_tests);
      confirmed_answers = ok.confirmed_answers;
      confirmed_entered = ok.confirmed_entered;
      open_made = grind (arith, nat_tests);
      open_above = grind (arith, nat_tests);
    }
