-- An opener that learns its other end and is established.
use Rattle.std.proofs.Common.{◌≡◌, ◌≢◌, ◌⊎◌, inl, inr, ⊎_elim, ℕ, Bool, true, false, cond, eqb, refl, sym, ap, ◌∙◌, subst, arith}
use Rattle.std.proofs.lemmas.Bool.{eqb-true, ne_eqb}
use Rattle.epoch_machine.proofs.Splits.{at_name, same_or_not, assigned_again}
use Rattle.std.proofs.lemmas.Bool.Decides.{nat_tests}
use Rattle.epoch_machine.specs.Tunnels.{Tunnels, Linked, Gone, WaitReply, Open, is_established, established_with, keeps_up}
use Rattle.epoch_machine.specs.Names.{assign}
use Rattle.epoch_laws.specs.Epochs.{EpochsHold}

-- an opener that learns its other end now: nothing was known of the link before
record NewLink (t : Tunnels) (x s : ℕ) : Type 0 where
  opens : t.opener x ≡ true
  unlearned : t.learned x ≡ 0
  learns : t.learned s ≡ x
  from_name : x ≢ 0
  to_name : s ≢ 0
  drawn : t.drawn s ≡ true
  accepts : t.opener s ≡ false
  no_epochs : t.epochs x ≡ 0
  none_there : t.epochs s ≡ 0

abbrev learned_too : Tunnels → ℕ → ℕ → ℕ → ℕ
learned_too t x s = assign t.learned x s

module _ (t : Tunnels) (x s : ℕ) (ok : EpochsHold t) where
  new_link : t.opener x ≡ true → t.learned x ≡ 0 → t.learned s ≡ x → x ≢ 0 → s ≢ 0 → NewLink t x s
  new_link o u l n m = record {
    opens = o;
    unlearned = u;
    learns = l;
    from_name = n;
    to_name = m;
    drawn = grind (arith, nat_tests, ok.nameless s);
    accepts = grind (arith, nat_tests, ok.opener_linked s);
    no_epochs = grind (arith, nat_tests, ok.epochs_linked x);
    none_there = grind (arith, nat_tests, ok.epochs_linked s);
  }

  module _ (new : NewLink t x s) where
    still_linked : (a b : ℕ) → Linked t.learned a b → Linked (learned_too t x s) a b
    still_linked a b l = let f = l.forth in let g = l.back in let h = l.from_name in let k = l.to_name in let u = new.unlearned in record { forth = grind (arith, nat_tests); back = grind (arith, nat_tests); from_name = h; to_name = k }

    linked_to : (a : ℕ) → Linked t.learned a (t.learned a) → Linked (learned_too t x s) a (learned_too t x s a)
    linked_to a l = let f = l.back in let h = l.from_name in let k = l.to_name in let u = new.unlearned in record { forth = refl; back = grind (arith, nat_tests); from_name = h; to_name = grind (arith, nat_tests) }

    linked_here : Linked (learned_too t x s) x (learned_too t x s x)
    linked_here = let f = new.learns in let u = new.unlearned in let n = new.from_name in let m = new.to_name in record { forth = refl; back = grind (arith, nat_tests); from_name = n; to_name = grind (arith, nat_tests) }

    -- a linked pair is one from before, or the new one
    which : (a b : ℕ) → Linked (learned_too t x s) a b → Linked t.learned a b ⊎ (((a ≡ x) × (b ≡ s)) ⊎ ((a ≡ s) × (b ≡ x)))
    which a b l = by (eqb a x) refl (eqb b x) refl l.forth l.back
      where
        by : (p : Bool) → eqb a x ≡ p → (q : Bool) → eqb b x ≡ q → cond p s (t.learned a) ≡ b → cond q s (t.learned b) ≡ a → Linked t.learned a b ⊎ (((a ≡ x) × (b ≡ s)) ⊎ ((a ≡ s) × (b ≡ x)))
        by true e q d f g = inr (inl (eqb-true a x e, sym f))
        by false e true d f g = inr (inr (sym g, eqb-true b x d))
        by false e false d f g = inl record { forth = f; back = g; from_name = l.from_name; to_name = l.to_name }

    learned_ok : (z : ℕ) → learned_too t x s z ≢ 0 → t.drawn (learned_too t x s z) ≡ true
    learned_ok z = at_name t.learned x s z (λ v. v ≢ 0 → t.drawn v ≡ true) (λ e h. new.drawn) (λ e h. ok.learned_drawn z h)

    opener_ok : (z : ℕ) → t.opener z ≡ true → learned_too t x s z ≢ 0 → Linked (learned_too t x s) z (learned_too t x s z)
    opener_ok z o h = ⊎_elim {C = Linked (learned_too t x s) z (learned_too t x s z)} (λ e. rw e linked_here) (λ e. linked_to z (ok.opener_linked z o (let u = ne_eqb z x e in rw u at h))) (same_or_not z x)

    acceptor_ok : (z : ℕ) → t.opener z ≡ false → learned_too t x s z ≢ 0 → t.opener (learned_too t x s z) ≡ true
    acceptor_ok z o = at_name t.learned x s z (λ v. v ≢ 0 → t.opener v ≡ true) (λ e h. absurd (let k : t.opener x ≡ false = rw (← e) o in let l = new.opens in cc)) (λ e h. ok.acceptor_learned z o h)

    kinds_ok : (z : ℕ) → t.opener z ≡ true → learned_too t x s z ≢ 0 → t.opener (learned_too t x s z) ≡ false
    kinds_ok z o = at_name t.learned x s z (λ v. v ≢ 0 → t.opener v ≡ false) (λ e h. new.accepts) (λ e h. ok.opener_learned z o h)

    booked_ok : (z : ℕ) → assign t.booked x true z ≡ true → Linked (learned_too t x s) z (learned_too t x s z)
    booked_ok z h = ⊎_elim {C = Linked (learned_too t x s) z (learned_too t x s z)} (λ e. rw e linked_here) (λ e. linked_to z (ok.booked_linked z (let u = ne_eqb z x e in rw u at h))) (same_or_not z x)

    established_ok : (z : ℕ) → is_established (assign t.phase x Open z) ≡ true → Linked (learned_too t x s) z (learned_too t x s z)
    established_ok z h = ⊎_elim {C = Linked (learned_too t x s) z (learned_too t x s z)} (λ e. rw e linked_here) (λ e. linked_to z (ok.established_linked z (let u = ne_eqb z x e in rw u at h))) (same_or_not z x)

pub established_with_ok : (t : Tunnels) (x s : ℕ) → EpochsHold t → (t.phase x ≡ WaitReply) → (t.learned s ≡ x) → (s ≢ 0) → EpochsHold (established_with t x s)
unfolding established_with
established_with_ok t x s ok p0 p1 p2 =
    let w = ok.waits_reply x p0 in
    let named : x ≢ 0 = grind (arith, nat_tests, ok.nameless 0 ok.zero) in
    let new = new_link t x s ok w.0 w.1 p1 named p2 in
    record {
      zero = ok.zero;
      nameless = λ k h. let n = ok.nameless k h in record {
        opener = n.opener;
        phase = grind (arith, nat_tests);
        learned = grind (arith, nat_tests);
        booked = grind (arith, nat_tests);
        epochs = n.epochs;
        attempts = n.attempts;
        answers = n.answers;
        confirmed = n.confirmed;
      };
      learned_drawn = learned_ok t x s ok new;
      answered_drawn = ok.answered_drawn;
      opener_linked = opener_ok t x s ok new;
      acceptor_learned = acceptor_ok t x s ok new;
      opener_learned = kinds_ok t x s ok new;
      waits_reply = grind (arith, nat_tests);
      waits_connect = grind (arith, nat_tests);
      waits_unattempted = grind (arith, nat_tests);
      waits_unbooked = grind (arith, nat_tests);
      established_linked = established_ok t x s ok new;
      booked_linked = booked_ok t x s ok new;
      attempts_linked = λ a h. linked_to t x s ok new _ (ok.attempts_linked a h);
      answers_linked = λ c h. linked_to t x s ok new _ (ok.answers_linked c h);
      epochs_linked = λ z h. linked_to t x s ok new _ (ok.epochs_linked z h);
      same_epochs = λ a b l. ⊎_elim (λ k. ok.same_epochs a b k) (λ k. ⊎_elim (λ e. grind (arith, new)) (λ e. grind (arith, new)) k) (which t x s ok new a b l);
      makes_some = ok.makes_some;
      makes_counted = ok.makes_counted;
      entered_made = ok.entered_made;
      attempts_own = grind (arith, nat_tests);
      attempts_begun = grind (arith, nat_tests);
      attempts_entered = grind (arith, nat_tests);
      attempts_other = grind (arith, nat_tests);
      attempts_made = grind (arith, nat_tests);
      attempts_answered = grind (arith, nat_tests);
      answers_own = grind (arith, nat_tests);
      answers_last = grind (arith, nat_tests);
      answers_entered = grind (arith, nat_tests);
      answers_other = grind (arith, nat_tests);
      confirmed_answers = ok.confirmed_answers;
      confirmed_entered = grind (arith, nat_tests);
      open_made = grind (arith, nat_tests);
      open_above = grind (arith, nat_tests);
    }

learns_kept_ok : (t : Tunnels) (x s : ℕ) → EpochsHold t → (t.phase x ≡ Gone) → NewLink t x s → EpochsHold (keeps_up t x s)
unfolding keeps_up
learns_kept_ok t x s ok p0 p1 =
    let new = p1 in
    record {
      zero = ok.zero;
      nameless = λ k h. let n = ok.nameless k h in record {
        opener = n.opener;
        phase = n.phase;
        learned = grind (arith, nat_tests);
        booked = grind (arith, nat_tests);
        epochs = n.epochs;
        attempts = n.attempts;
        answers = n.answers;
        confirmed = n.confirmed;
      };
      learned_drawn = learned_ok t x s ok new;
      answered_drawn = ok.answered_drawn;
      opener_linked = opener_ok t x s ok new;
      acceptor_learned = acceptor_ok t x s ok new;
      opener_learned = kinds_ok t x s ok new;
      waits_reply = grind (arith, nat_tests);
      waits_connect = grind (arith, nat_tests);
      waits_unattempted = ok.waits_unattempted;
      waits_unbooked = grind (arith, nat_tests);
      established_linked = λ z h. linked_to t x s ok new _ (ok.established_linked z h);
      booked_linked = booked_ok t x s ok new;
      attempts_linked = λ a h. linked_to t x s ok new _ (ok.attempts_linked a h);
      answers_linked = λ c h. linked_to t x s ok new _ (ok.answers_linked c h);
      epochs_linked = λ z h. linked_to t x s ok new _ (ok.epochs_linked z h);
      same_epochs = λ a b l. ⊎_elim (λ k. ok.same_epochs a b k) (λ k. ⊎_elim (λ e. grind (arith, new)) (λ e. grind (arith, new)) k) (which t x s ok new a b l);
      makes_some = ok.makes_some;
      makes_counted = ok.makes_counted;
      entered_made = ok.entered_made;
      attempts_own = ok.attempts_own;
      attempts_begun = ok.attempts_begun;
      attempts_entered = ok.attempts_entered;
      attempts_other = grind (arith, nat_tests);
      attempts_made = ok.attempts_made;
      attempts_answered = grind (arith, nat_tests);
      answers_own = ok.answers_own;
      answers_last = ok.answers_last;
      answers_entered = ok.answers_entered;
      answers_other = grind (arith, nat_tests);
      confirmed_answers = ok.confirmed_answers;
      confirmed_entered = grind (arith, nat_tests);
      open_made = ok.open_made;
      open_above = grind (arith, nat_tests);
    }

booked_ok_again : (t : Tunnels) (x : ℕ) → EpochsHold t → (t.phase x ≡ Gone) → Linked t.learned x (t.learned x) → EpochsHold (record t { booked = assign t.booked x true })
unfolding keeps_up
booked_ok_again t x ok p0 p1 =
    record {
      zero = ok.zero;
      nameless = λ k h. let n = ok.nameless k h in record {
        opener = n.opener;
        phase = n.phase;
        learned = n.learned;
        booked = grind (arith, nat_tests);
        epochs = n.epochs;
        attempts = n.attempts;
        answers = n.answers;
        confirmed = n.confirmed;
      };
      learned_drawn = ok.learned_drawn;
      answered_drawn = ok.answered_drawn;
      opener_linked = ok.opener_linked;
      acceptor_learned = ok.acceptor_learned;
      opener_learned = ok.opener_learned;
      waits_reply = ok.waits_reply;
      waits_connect = ok.waits_connect;
      waits_unattempted = ok.waits_unattempted;
      waits_unbooked = grind (arith, nat_tests);
      established_linked = ok.established_linked;
      booked_linked = grind (arith, nat_tests);
      attempts_linked = ok.attempts_linked;
      answers_linked = ok.answers_linked;
      epochs_linked = ok.epochs_linked;
      same_epochs = ok.same_epochs;
      makes_some = ok.makes_some;
      makes_counted = ok.makes_counted;
      entered_made = ok.entered_made;
      attempts_own = ok.attempts_own;
      attempts_begun = ok.attempts_begun;
      attempts_entered = ok.attempts_entered;
      attempts_other = ok.attempts_other;
      attempts_made = ok.attempts_made;
      attempts_answered = ok.attempts_answered;
      answers_own = ok.answers_own;
      answers_last = ok.answers_last;
      answers_entered = ok.answers_entered;
      answers_other = ok.answers_other;
      confirmed_answers = ok.confirmed_answers;
      confirmed_entered = ok.confirmed_entered;
      open_made = ok.open_made;
      open_above = ok.open_above;
    }

same_learned : (t : Tunnels) (x s : ℕ) → t.learned x ≡ s → EpochsHold (record t { booked = assign t.booked x true }) → EpochsHold (keeps_up t x s)
unfolding keeps_up
same_learned t x s h ok = subst (λ (f : ℕ → ℕ). EpochsHold (record t { learned = f; booked = assign t.booked x true })) (sym (assigned_again t.learned x s h)) ok

-- the record of an establishing is kept, of a tunnel that is gone
pub keeps_up_ok : (t : Tunnels) (x s : ℕ) → EpochsHold t → t.phase x ≡ Gone → x ≢ 0 → s ≢ 0 → t.learned s ≡ x → ((t.opener x ≡ true) × (t.learned x ≡ 0)) ⊎ (t.learned x ≡ s) → EpochsHold (keeps_up t x s)
keeps_up_ok t x s ok gone n m l (inl h) = learns_kept_ok t x s ok gone (new_link t x s ok h.0 h.1 l n m)
keeps_up_ok t x s ok gone n m l (inr h) = same_learned t x s h (booked_ok_again t x ok gone record { forth = refl; back = ap t.learned h ∙ l; from_name = n; to_name = λ e. m (sym h ∙ e) })
