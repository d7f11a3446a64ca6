-- One answer makes each epoch, and both ends enter it by that answer.
use Rattle.std.proofs.Common.{◌≡◌, ◌≢◌, ◌⊎◌, inl, inr, ⊎_elim, ℕ, suc, ◌<◌, ◌≤◌, true, false, refl, sym, ap, ◌∙◌, subst, arith}
use Rattle.epoch_machine.specs.Names.{assign}
use Rattle.epoch_machine.specs.Tunnels.{Tunnels, Linked, Attempts, Answers, is_established, frozen, confirms, is_confirmed}
use Rattle.epoch_machine.proofs.Splits.{same_or_not, at_name, assigned_now, assigned_else}
use Rattle.epoch_laws.specs.Epochs.{EpochsHold}
use Rattle.epoch_laws.specs.Answers.{Makes, Made, AnswersHold, OneAnswer}

-- what was given stays, and so do links
pub record Stays (t u : Tunnels) : Type 0 where
  pub answers : (c : ℕ) → t.answers c ≢ 0 → u.answers c ≡ t.answers c
  pub makes : (c : ℕ) → t.answers c ≢ 0 → u.makes c ≡ t.makes c
  pub learned : (x : ℕ) → t.learned x ≢ 0 → u.learned x ≡ t.learned x

pub still_makes : (t u : Tunnels) (x e c : ℕ) → Stays t u → Makes t x e c → Makes u x e c
still_makes t u x e c s m = record {
  given = λ h. m.given (sym (s.answers c m.given) ∙ h);
  end = ⊎_elim (λ a. inl (s.answers c m.given ∙ a)) (λ a. inr (s.answers c m.given ∙ a ∙ sym (s.learned x (λ h. m.given (a ∙ h))))) m.end;
  epoch = s.makes c m.given ∙ m.epoch;
}

a_name : (t : Tunnels) (c : ℕ) → EpochsHold t → t.answers c ≢ 0 → c ≢ 0
a_name t c ep n h = n (ap t.answers h ∙ (ep.nameless 0 ep.zero).answers)

-- no answer is new, and no epoch
pub record SameAnswers (t u : Tunnels) : Type 0 where
  pub answers : (c : ℕ) → u.answers c ≡ t.answers c
  pub makes : (c : ℕ) → u.makes c ≡ t.makes c
  pub epochs : (x : ℕ) → u.epochs x ≡ t.epochs x

pub record SameEntries (t u : Tunnels) : Type 0 where
  pub entered : (x : ℕ) → u.entered x ≡ t.entered x
  pub entered_by : (x e : ℕ) → u.entered_by x e ≡ t.entered_by x e
  pub confirmed : (c : ℕ) → u.confirmed c ≡ t.confirmed c

module _ (t u : Tunnels) (ep : EpochsHold t) (ok : AnswersHold t) (learned : (x : ℕ) → t.learned x ≢ 0 → u.learned x ≡ t.learned x) (sa : SameAnswers t u) where
  pub stays : Stays t u
  stays = record { answers = λ c h. sa.answers c; makes = λ c h. sa.makes c; learned = learned }

  pub still_once : (c d : ℕ) → u.answers c ≢ 0 → u.answers d ≢ 0 → (u.answers c ≡ u.answers d) ⊎ (u.learned (u.answers c) ≡ u.answers d) → u.makes c ≡ u.makes d → c ≡ d
  still_once c d a b l m = ok.once c d given (λ h. b (sa.answers d ∙ h)) (⊎_elim (λ q. inl (sym (sa.answers c) ∙ q ∙ sa.answers d)) (λ q. inr (sym (learned (t.answers c) (ep.answers_linked c given).to_name) ∙ ap u.learned (sym (sa.answers c)) ∙ q ∙ sa.answers d)) l) (sym (sa.makes c) ∙ m ∙ sa.makes d)
    where
      given : t.answers c ≢ 0
      given h = a (sa.answers c ∙ h)

  pub still_made : (x e : ℕ) → 0 < e → e ≤ u.epochs x → Made u x e
  still_made x e p q = let same = sa.epochs x in let m = ok.made x e p (omega arith) in record { answer = m.answer; makes = still_makes t u x e m.answer stays m.makes }

  -- of an answer that was confirmed the confirming end and the epoch are as before
  same_confirmer : (c : ℕ) → t.answers c ≢ 0 → u.entered_by (u.learned (u.answers c)) (u.makes c) ≡ u.entered_by (t.learned (t.answers c)) (t.makes c)
  same_confirmer c n = ap (λ (z : ℕ). u.entered_by (u.learned z) (u.makes c)) (sa.answers c) ∙ ap (λ (z : ℕ). u.entered_by z (u.makes c)) (learned (t.answers c) (ep.answers_linked c n).to_name) ∙ ap (u.entered_by (t.learned (t.answers c))) (sa.makes c)

  pub unchanged : SameEntries t u → AnswersHold u
  unchanged se = record {
    once = still_once;
    made = still_made;
    entered = λ x e h. subst (λ (c : ℕ). Makes u x e c) (sym (se.entered_by x e)) (still_makes t u x e (t.entered_by x e) stays (ok.entered x e (λ q. h (se.entered_by x e ∙ q))));
    below = λ x e h. (let a = ok.below x e (λ q. h (se.entered_by x e ∙ q)) in let b = se.entered x in omega arith);
    current = λ x h. (let a = ok.current x (λ q. h (se.entered x ∙ q)) in λ q. a (sym (se.entered_by x (t.entered x)) ∙ ap (u.entered_by x) (sym (se.entered x)) ∙ q));
    confirmed = λ c h. (let was : t.confirmed c ≡ true = sym (se.confirmed c) ∙ h in same_confirmer c (ep.confirmed_answers c was) ∙ se.entered_by (t.learned (t.answers c)) (t.makes c) ∙ ok.confirmed c was);
  }

  -- a tunnel enters a higher epoch, by an answer that makes it
  pub record Enters (y e c : ℕ) : Type 0 where
    pub above : t.entered y < e
    pub named : c ≢ 0
    pub makes : Makes t y e c
    pub now_in : u.entered y ≡ e
    pub others_in : (x : ℕ) → (x ≡ y → ⊥) → u.entered x ≡ t.entered x
    pub now_by : u.entered_by y e ≡ c
    pub before_by : (f : ℕ) → (f ≡ e → ⊥) → u.entered_by y f ≡ t.entered_by y f
    pub others_by : (x f : ℕ) → (x ≡ y → ⊥) → u.entered_by x f ≡ t.entered_by x f
    pub confirms : (d : ℕ) → u.confirmed d ≡ true → ((d ≡ c) × (t.learned (t.answers c) ≡ y)) ⊎ (t.confirmed d ≡ true)

  module _ (y e c : ℕ) (n : Enters y e c) where
    -- what was entered before, or is entered now
    which : (x f : ℕ) → ((x ≡ y) × (f ≡ e)) ⊎ (u.entered_by x f ≡ t.entered_by x f)
    which x f = ⊎_elim {C = ((x ≡ y) × (f ≡ e)) ⊎ (u.entered_by x f ≡ t.entered_by x f)} (λ i. ⊎_elim {C = ((x ≡ y) × (f ≡ e)) ⊎ (u.entered_by x f ≡ t.entered_by x f)} (λ j. inl (i, j)) (λ j. inr (rw i (n.before_by f j))) (same_or_not f e)) (λ i. inr (n.others_by x f i)) (same_or_not x y)

    by_new : (x f : ℕ) → x ≡ y → f ≡ e → u.entered_by x f ≡ c
    by_new x f i j = rw (i, j) n.now_by

    entered : (x f : ℕ) → u.entered_by x f ≢ 0 → Makes u x f (u.entered_by x f)
    entered x f h = ⊎_elim {C = Makes u x f (u.entered_by x f)} (λ i. subst (λ (d : ℕ). Makes u x f d) (sym (by_new x f i.0 i.1)) (rw (i.0, i.1) (still_makes t u y e c stays n.makes))) (λ i. subst (λ (d : ℕ). Makes u x f d) (sym i) (still_makes t u x f (t.entered_by x f) stays (ok.entered x f (λ q. h (i ∙ q))))) (which x f)

    below : (x f : ℕ) → u.entered_by x f ≢ 0 → f ≤ u.entered x
    below x f h = ⊎_elim {C = f ≤ u.entered x} (λ i. (let a = ap u.entered i.0 in let b = n.now_in in let d = i.1 in omega arith)) (λ i. older (ok.below x f (λ q. h (i ∙ q)))) (which x f)
      where
        older : f ≤ t.entered x → f ≤ u.entered x
        older a = ⊎_elim {C = f ≤ u.entered x} (λ i. (let b = ap u.entered i in let d = ap t.entered i in let g = n.now_in in let k = n.above in omega arith)) (λ i. (let b = n.others_in x i in omega arith)) (same_or_not x y)

    current : (x : ℕ) → u.entered x ≢ 0 → u.entered_by x (u.entered x) ≢ 0
    current x h = ⊎_elim {C = u.entered_by x (u.entered x) ≢ 0} (λ i q. n.named (sym (by_new x (u.entered x) i (ap u.entered i ∙ n.now_in)) ∙ q)) (λ i q. ok.current x (λ z. h (n.others_in x i ∙ z)) (sym (n.others_by x (t.entered x) i) ∙ ap (u.entered_by x) (sym (n.others_in x i)) ∙ q)) (same_or_not x y)

    confirmed : (d : ℕ) → u.confirmed d ≡ true → u.entered_by (u.learned (u.answers d)) (u.makes d) ≡ d
    confirmed d h = ⊎_elim (λ i. ap (λ (z : ℕ). u.entered_by (u.learned (u.answers z)) (u.makes z)) i.0 ∙ same_confirmer c n.makes.given ∙ by_new (t.learned (t.answers c)) (t.makes c) i.1 n.makes.epoch ∙ sym i.0) old (n.confirms d h)
      where
        old : t.confirmed d ≡ true → u.entered_by (u.learned (u.answers d)) (u.makes d) ≡ d
        old was =
            let given : t.answers d ≢ 0 = ep.confirmed_answers d was in
            let is = ok.confirmed d was in
            same_confirmer d given ∙ ⊎_elim (λ i. absurd (let a = ok.below (t.learned (t.answers d)) (t.makes d) (λ q. a_name t d ep given (sym is ∙ q)) in let b = ap t.entered i.0 in let k = i.1 in let g = n.above in omega arith)) (λ i. i ∙ is) (which (t.learned (t.answers d)) (t.makes d))

    pub enters : AnswersHold u
    enters = record { once = still_once; made = still_made; entered = entered; below = below; current = current; confirmed = confirmed }

-- the attempting end enters the epoch of the other end's answer
pub confirms_answers : (t : Tunnels) (x c : ℕ) → EpochsHold t → t.phase x ≡ Attempts (t.answered c) → t.answers c ≢ 0 → AnswersHold t → AnswersHold (confirms t x c)
unfolding confirms
confirms_answers t x c ep p n ok = enters t (confirms t x c) ep ok (λ y h. refl) record { answers = λ d. refl; makes = λ d. refl; epochs = λ y. refl } x (t.makes c) c
    record {
      above = (let a = ep.attempts_entered x (t.answered c) p in let b = (ep.attempts_answered x (t.answered c) c p n refl).1 in omega arith);
      named = a_name t c ep n;
      makes = record { given = n; end = inr (ep.attempts_answered x (t.answered c) c p n refl).0; epoch = refl };
      now_in = assigned_now t.entered x (t.makes c);
      others_in = λ y h. assigned_else t.entered x (t.makes c) y h;
      now_by = ap (λ (g : ℕ → ℕ). g (t.makes c)) (assigned_now t.entered_by x (assign (t.entered_by x) (t.makes c) c)) ∙ assigned_now (t.entered_by x) (t.makes c) c;
      before_by = λ f h. ap (λ (g : ℕ → ℕ). g f) (assigned_now t.entered_by x (assign (t.entered_by x) (t.makes c) c)) ∙ assigned_else (t.entered_by x) (t.makes c) c f h;
      others_by = λ y f h. ap (λ (g : ℕ → ℕ). g f) (assigned_else t.entered_by x (assign (t.entered_by x) (t.makes c) c) y h);
      confirms = λ d. at_name t.confirmed c true d (λ b. b ≡ true → ((d ≡ c) × (t.learned (t.answers c) ≡ x)) ⊎ (t.confirmed d ≡ true)) (λ i h. inl (i, ap t.learned (ep.attempts_answered x (t.answered c) c p n refl).0 ∙ (ep.established_linked x (ap is_established p)).back)) (λ i h. inr h);
    }

-- the answering end enters the epoch of its own answer
pub is_confirmed_answers : (t : Tunnels) (x c : ℕ) → EpochsHold t → t.phase x ≡ Answers c → t.confirmed c ≡ true → AnswersHold t → AnswersHold (is_confirmed t x c)
unfolding is_confirmed
is_confirmed_answers t x c ep p h ok = enters t (is_confirmed t x c) ep ok (λ y h. refl) record { answers = λ d. refl; makes = λ d. refl; epochs = λ y. refl } x (t.makes c) c
    record {
      above = ep.answers_entered x c p;
      named = a_name t c ep (ep.confirmed_answers c h);
      makes = record { given = ep.confirmed_answers c h; end = inl (ep.answers_own x c p); epoch = refl };
      now_in = assigned_now t.entered x (t.makes c);
      others_in = λ y h. assigned_else t.entered x (t.makes c) y h;
      now_by = ap (λ (g : ℕ → ℕ). g (t.makes c)) (assigned_now t.entered_by x (assign (t.entered_by x) (t.makes c) c)) ∙ assigned_now (t.entered_by x) (t.makes c) c;
      before_by = λ f h. ap (λ (g : ℕ → ℕ). g f) (assigned_now t.entered_by x (assign (t.entered_by x) (t.makes c) c)) ∙ assigned_else (t.entered_by x) (t.makes c) c f h;
      others_by = λ y f h. ap (λ (g : ℕ → ℕ). g f) (assigned_else t.entered_by x (assign (t.entered_by x) (t.makes c) c) y h);
      confirms = λ d q. inr q;
    }

-- the end answers an attempt: the new answer makes the next epoch of the link
module _ (t : Tunnels) (x a c own theirs : ℕ) (ep : EpochsHold t) (ok : AnswersHold t) (p : is_established (t.phase x) ≡ true) (new : t.drawn c ≡ false) (name : c ≢ 0) where
  link : Linked t.learned x (t.learned x)
  link = ep.established_linked x p

  none : t.answers c ≡ 0
  none = (ep.nameless c new).answers

  other : (d : ℕ) → t.answers d ≢ 0 → d ≡ c → ⊥
  other d h e = h (ap t.answers e ∙ none)

  pub frozen_stays : Stays t (frozen t x a c own theirs)
  unfolding frozen
  frozen_stays = record { answers = λ d h. assigned_else t.answers c x d (other d h); makes = λ d h. assigned_else t.makes c (suc (t.epochs x)) d (other d h); learned = λ y h. refl }

  -- the epochs that were made before are lower
  lower : (d : ℕ) → t.answers d ≢ 0 → (t.answers d ≡ x) ⊎ (t.answers d ≡ t.learned x) → t.makes d < suc (t.epochs x)
  lower d h at = let a = ep.makes_counted d h in let b = ep.same_epochs x (t.learned x) link in ⊎_elim {C = t.makes d < suc (t.epochs x)} (λ i. (let e = ap t.epochs i in omega arith)) (λ i. (let e = ap t.epochs i in omega arith)) at

  -- an answer is one from before, or the new one
  before : (d : ℕ) → assign t.answers c x d ≢ 0 → ((d ≡ c) × (assign t.answers c x d ≡ x) × (assign t.makes c (suc (t.epochs x)) d ≡ suc (t.epochs x))) ⊎ ((t.answers d ≢ 0) × (assign t.answers c x d ≡ t.answers d) × (assign t.makes c (suc (t.epochs x)) d ≡ t.makes d))
  before d h = ⊎_elim {C = ((d ≡ c) × (assign t.answers c x d ≡ x) × (assign t.makes c (suc (t.epochs x)) d ≡ suc (t.epochs x))) ⊎ ((t.answers d ≢ 0) × (assign t.answers c x d ≡ t.answers d) × (assign t.makes c (suc (t.epochs x)) d ≡ t.makes d))} (λ i. inl (i, ap (assign t.answers c x) i ∙ assigned_now t.answers c x, ap (assign t.makes c (suc (t.epochs x))) i ∙ assigned_now t.makes c (suc (t.epochs x)))) (λ i. (let same = assigned_else t.answers c x d i in inr ((λ q. h (same ∙ q)), same, assigned_else t.makes c (suc (t.epochs x)) d i))) (same_or_not d c)

  once : (d e : ℕ) → assign t.answers c x d ≢ 0 → assign t.answers c x e ≢ 0 → (assign t.answers c x d ≡ assign t.answers c x e) ⊎ (t.learned (assign t.answers c x d) ≡ assign t.answers c x e) → assign t.makes c (suc (t.epochs x)) d ≡ assign t.makes c (suc (t.epochs x)) e → d ≡ e
  once d e h k l m = ⊎_elim
      (λ i. ⊎_elim (λ j. i.0 ∙ sym j.0) (λ j. absurd (let b = lower e j.0 (⊎_elim (λ q. inl (sym j.1 ∙ sym q ∙ i.1)) (λ q. inr (sym j.1 ∙ sym q ∙ ap t.learned i.1)) l) in let f = i.2 in let g = j.2 in omega arith)) (before e k))
      (λ i. ⊎_elim
      (λ j. absurd (let b = lower d i.0 (⊎_elim (λ q. inl (sym i.1 ∙ q ∙ j.1)) (λ q. inr (sym (ep.answers_linked d i.0).back ∙ ap t.learned (ap t.learned (sym i.1) ∙ q ∙ j.1))) l) in let f = i.2 in let g = j.2 in omega arith))
      (λ j. ok.once d e i.0 j.0 (⊎_elim (λ q. inl (sym i.1 ∙ q ∙ j.1)) (λ q. inr (ap t.learned (sym i.1) ∙ q ∙ j.1)) l) (sym i.2 ∙ m ∙ j.2))
      (before e k))
      (before d h)

  makes_now : Makes (frozen t x a c own theirs) x (suc (t.epochs x)) c
  unfolding frozen
  makes_now = record { given = (λ q. link.from_name (sym (assigned_now t.answers c x) ∙ q)); end = inl (assigned_now t.answers c x); epoch = assigned_now t.makes c (suc (t.epochs x)) }

  makes_there : (z : ℕ) → z ≡ t.learned x → Makes (frozen t x a c own theirs) z (suc (t.epochs x)) c
  unfolding frozen
  makes_there z i = record { given = (λ q. link.from_name (sym (assigned_now t.answers c x) ∙ q)); end = inr (assigned_now t.answers c x ∙ sym link.back ∙ ap t.learned (sym i)); epoch = assigned_now t.makes c (suc (t.epochs x)) }

  -- the next epoch is made by the new answer, and those before as they were
  next : (z e : ℕ) → 0 < e → e ≤ suc (t.epochs x) → t.epochs z ≡ t.epochs x → Makes (frozen t x a c own theirs) z (suc (t.epochs x)) c → Made (frozen t x a c own theirs) z e
  next z e h k same m = ⊎_elim {C = Made (frozen t x a c own theirs) z e} (λ i. record { answer = c; makes = rw i m }) (λ i. (let o = ok.made z e h (omega (arith, i)) in record { answer = o.answer; makes = still_makes t (frozen t x a c own theirs) z e o.answer frozen_stays o.makes })) (same_or_not e (suc (t.epochs x)))

  made : (z e : ℕ) → 0 < e → e ≤ assign (assign t.epochs (t.learned x) (suc (t.epochs x))) x (suc (t.epochs x)) z → Made (frozen t x a c own theirs) z e
  made z e h = at_name (assign t.epochs (t.learned x) (suc (t.epochs x))) x (suc (t.epochs x)) z (λ n. e ≤ n → Made (frozen t x a c own theirs) z e)
      (λ i k. next z e h k (ap t.epochs i) (rw i makes_now))
      (λ i. at_name t.epochs (t.learned x) (suc (t.epochs x)) z (λ n. e ≤ n → Made (frozen t x a c own theirs) z e) (λ j k. next z e h k (ap t.epochs j ∙ sym (ep.same_epochs x (t.learned x) link)) (makes_there z j)) (λ j k. (let o = ok.made z e h k in record { answer = o.answer; makes = still_makes t (frozen t x a c own theirs) z e o.answer frozen_stays o.makes })))

  frozen_entered : (z e : ℕ) → t.entered_by z e ≢ 0 → Makes (frozen t x a c own theirs) z e (t.entered_by z e)
  frozen_entered z e h = still_makes t (frozen t x a c own theirs) z e (t.entered_by z e) frozen_stays (ok.entered z e h)

  frozen_confirmed : (d : ℕ) → t.confirmed d ≡ true → t.entered_by (t.learned (assign t.answers c x d)) (assign t.makes c (suc (t.epochs x)) d) ≡ d
  frozen_confirmed d h = let i = other d (ep.confirmed_answers d h) in ap (λ (z : ℕ). t.entered_by (t.learned z) (assign t.makes c (suc (t.epochs x)) d)) (assigned_else t.answers c x d i) ∙ ap (t.entered_by (t.learned (t.answers d))) (assigned_else t.makes c (suc (t.epochs x)) d i) ∙ ok.confirmed d h

  pub frozen_answers : AnswersHold (frozen t x a c own theirs)
  unfolding frozen
  frozen_answers = record { once = once; made = made; entered = frozen_entered; below = ok.below; current = ok.current; confirmed = frozen_confirmed }

pub one_answer : (t : Tunnels) → AnswersHold t → OneAnswer t
one_answer t ok = record { made = ok.made; once = once; entered = ok.entered; current = ok.current; confirmed = ok.confirmed; both = λ x y e l a b. once x y e (t.entered_by x e) (t.entered_by y e) l (ok.entered x e a) (ok.entered y e b) }
  where
    once : (x y e c d : ℕ) → Linked t.learned x y → Makes t x e c → Makes t y e d → c ≡ d
    once x y e c d l m n = ok.once c d m.given n.given (⊎_elim (λ i. ⊎_elim (λ j. inr (ap t.learned i ∙ l.forth ∙ sym j)) (λ j. inl (i ∙ sym l.back ∙ sym j)) n.end) (λ i. ⊎_elim (λ j. inl (i ∙ l.forth ∙ sym j)) (λ j. inr (ap t.learned (i ∙ l.forth) ∙ sym j)) n.end) m.end) (m.epoch ∙ sym n.epoch)
