-- Letters and their places, after one more letter is given, and after one is taken.
use Rattle.std.proofs.Common.{◌≡◌, ◌⊎◌, inl, inr, ⊎_elim, ℕ, zero, suc, ◌<◌, cond, eqb, List, [], ◌∷◌, ◌++◌, length, slice_get, Some, refl, sym, ap, ◌∙◌, subst, arith}
use Rattle.epoch_machine.specs.Letters.{Letter}
use Rattle.epoch_machine.specs.Channels.{Channels, Stands, puts, counts}
use Rattle.epoch_machine.proofs.Splits.{at_name}

below_length : (xs : List Letter) (k : ℕ) (m : Letter) → slice_get xs k ≡ Some m → k < length xs
below_length [] k m h = absurd cc
below_length (x ∷ xs) zero m h = omega arith
below_length (x ∷ xs) (suc k) m h = let i = below_length xs k m h in omega arith

last_or_before : (xs : List Letter) (l : Letter) (k : ℕ) (m : Letter) → slice_get (xs ++ l ∷ []) k ≡ Some m → (slice_get xs k ≡ Some m) ⊎ ((k ≡ length xs) × (m ≡ l))
last_or_before [] l zero m h = inr (refl, cc)
last_or_before [] l (suc k) m h = absurd cc
last_or_before (x ∷ xs) l zero m h = inl h
last_or_before (x ∷ xs) l (suc k) m h = ⊎_elim (λ a. inl a) (λ a. inr (ap suc a.0, a.1)) (last_or_before xs l k m h)

still_there : (xs ys : List Letter) (k : ℕ) (m : Letter) → slice_get xs k ≡ Some m → slice_get (xs ++ ys) k ≡ Some m
still_there [] ys k m h = absurd cc
still_there (x ∷ xs) ys zero m h = h
still_there (x ∷ xs) ys (suc k) m h = still_there xs ys k m h

last_there : (xs : List Letter) (l : Letter) → slice_get (xs ++ l ∷ []) (length xs) ≡ Some l
last_there [] l = refl
last_there (x ∷ xs) l = last_there xs l

one_longer : (xs : List Letter) (l : Letter) → length (xs ++ l ∷ []) ≡ suc (length xs)
one_longer [] l = refl
one_longer (x ∷ xs) l = ap suc (one_longer xs l)

-- the letter that was put
pub record Put (c : Channels) (x e : ℕ) (l : Letter) (y f k : ℕ) (m : Letter) : Type 0 where
  pub tunnel : y ≡ x
  pub epoch : f ≡ e
  pub place : k ≡ length (c.sent x e)
  pub letter : m ≡ l

module _ (c : Channels) (x e : ℕ) (l : Letter) where
  pub put_or_before : (y f k : ℕ) (m : Letter) → Stands (puts c x e l) y f k m → Stands c y f k m ⊎ Put c x e l y f k m
  unfolding puts
  put_or_before y f k m = at_name c.sent x (assigned) y (λ g. slice_get (g f) k ≡ Some m → Stands c y f k m ⊎ Put c x e l y f k m)
      (λ same. at_name (c.sent x) e (c.sent x e ++ l ∷ []) f (λ xs. slice_get xs k ≡ Some m → Stands c y f k m ⊎ Put c x e l y f k m)
      (λ now h. ⊎_elim {C = Stands c y f k m ⊎ Put c x e l y f k m} (λ a. inl (rw (same, now) a)) (λ a. inr record { tunnel = same; epoch = now; place = a.0; letter = a.1 }) (last_or_before (c.sent x e) l k m h))
      (λ other h. inl (rw same h)))
      (λ other h. inl h)
    where
      assigned : ℕ → List Letter
      assigned = λ f. cond (eqb f e) (c.sent x e ++ l ∷ []) (c.sent x f)

  pub put_later : (y f k : ℕ) (m : Letter) → Stands c y f k m → Stands (puts c x e l) y f k m
  unfolding puts
  put_later y f k m h = at_name c.sent x (λ g. cond (eqb g e) (c.sent x e ++ l ∷ []) (c.sent x g)) y (λ g. slice_get (g f) k ≡ Some m)
      (λ same. at_name (c.sent x) e (c.sent x e ++ l ∷ []) f (λ xs. slice_get xs k ≡ Some m) (λ now. still_there (c.sent x e) (l ∷ []) k m (rw (← same, ← now) h)) (λ other. rw (← same) h))
      (λ other. h)

  pub put_here : Stands (puts c x e l) x e (length (c.sent x e)) l
  unfolding puts
  put_here = at_name c.sent x (λ g. cond (eqb g e) (c.sent x e ++ l ∷ []) (c.sent x g)) x (λ g. slice_get (g e) (length (c.sent x e)) ≡ Some l)
      (λ same. at_name (c.sent x) e (c.sent x e ++ l ∷ []) e (λ xs. slice_get xs (length (c.sent x e)) ≡ Some l) (λ now. last_there (c.sent x e) l) (λ other. absurd (other refl)))
      (λ other. absurd (other refl))

  pub put_length : (y f : ℕ) → (((y ≡ x) × (f ≡ e)) × (length ((puts c x e l).sent y f) ≡ suc (length (c.sent y f)))) ⊎ ((puts c x e l).sent y f ≡ c.sent y f)
  unfolding puts
  put_length y f = at_name c.sent x (λ g. cond (eqb g e) (c.sent x e ++ l ∷ []) (c.sent x g)) y (λ g. (((y ≡ x) × (f ≡ e)) × (length (g f) ≡ suc (length (c.sent y f)))) ⊎ (g f ≡ c.sent y f))
      (λ same. at_name (c.sent x) e (c.sent x e ++ l ∷ []) f (λ xs. (((y ≡ x) × (f ≡ e)) × (length xs ≡ suc (length (c.sent y f)))) ⊎ (xs ≡ c.sent y f)) (λ now. inl ((same, now), rw (same, now) (one_longer (c.sent x e) l))) (λ other. inr (ap (λ z. c.sent z f) (sym same))))
      (λ other. inr refl)

  pub put_taken : (y f : ℕ) → (puts c x e l).taken y f ≡ c.taken y f
  unfolding puts
  put_taken y f = refl

module _ (c : Channels) (x e : ℕ) where
  pub count_stands : (y f k : ℕ) (m : Letter) → Stands (counts c x e) y f k m → Stands c y f k m
  unfolding counts
  count_stands y f k m h = h

  pub count_later : (y f k : ℕ) (m : Letter) → Stands c y f k m → Stands (counts c x e) y f k m
  unfolding counts
  count_later y f k m h = h

  pub count_sent : (y f : ℕ) → (counts c x e).sent y f ≡ c.sent y f
  unfolding counts
  count_sent y f = refl

  pub count_taken : (y f : ℕ) → (((y ≡ x) × (f ≡ e)) × ((counts c x e).taken y f ≡ suc (c.taken y f))) ⊎ ((counts c x e).taken y f ≡ c.taken y f)
  unfolding counts
  count_taken y f = at_name c.taken x (λ g. cond (eqb g e) (suc (c.taken x e)) (c.taken x g)) y (λ g. (((y ≡ x) × (f ≡ e)) × (g f ≡ suc (c.taken y f))) ⊎ (g f ≡ c.taken y f))
      (λ same. at_name (c.taken x) e (suc (c.taken x e)) f (λ n. (((y ≡ x) × (f ≡ e)) × (n ≡ suc (c.taken y f))) ⊎ (n ≡ c.taken y f)) (λ now. inl ((same, now), rw (same, now) refl)) (λ other. inr (ap (λ z. c.taken z f) (sym same))))
      (λ other. inr refl)

  pub count_here : (counts c x e).taken x e ≡ suc (c.taken x e)
  unfolding counts
  count_here = at_name c.taken x (λ g. cond (eqb g e) (suc (c.taken x e)) (c.taken x g)) x (λ g. g e ≡ suc (c.taken x e))
      (λ same. at_name (c.taken x) e (suc (c.taken x e)) e (λ n. n ≡ suc (c.taken x e)) (λ now. refl) (λ other. absurd (other refl)))
      (λ other. absurd (other refl))

pub stands_below : (c : Channels) (y f k : ℕ) (m : Letter) → Stands c y f k m → k < length (c.sent y f)
stands_below c y f k m h = below_length (c.sent y f) k m h

-- one letter stands at a place
pub one_letter : (c : Channels) (y f k : ℕ) (l m : Letter) → Stands c y f k l → Stands c y f k m → l ≡ m
one_letter c y f k l m a b = let e : Some l ≡ Some m = sym a ∙ b in cc

-- a tunnel gave one more letter
pub record Gave (c d : Channels) (x e : ℕ) (l : Letter) : Type 0 where
  pub before : (y f k : ℕ) (m : Letter) → Stands d y f k m → Stands c y f k m ⊎ Put c x e l y f k m
  pub later : (y f k : ℕ) (m : Letter) → Stands c y f k m → Stands d y f k m
  pub here : Stands d x e (length (c.sent x e)) l
  pub longer : (y f : ℕ) → (((y ≡ x) × (f ≡ e)) × (length (d.sent y f) ≡ suc (length (c.sent y f)))) ⊎ (length (d.sent y f) ≡ length (c.sent y f))
  pub one_longer : length (d.sent x e) ≡ suc (length (c.sent x e))

-- no letter was given
pub record SameSent (c d : Channels) : Type 0 where
  pub before : (y f k : ℕ) (m : Letter) → Stands d y f k m → Stands c y f k m
  pub later : (y f k : ℕ) (m : Letter) → Stands c y f k m → Stands d y f k m
  pub lengths : (y f : ℕ) → length (d.sent y f) ≡ length (c.sent y f)

-- a tunnel took one more letter
pub record Counted (c d : Channels) (x e : ℕ) : Type 0 where
  pub counts : (y f : ℕ) → (((y ≡ x) × (f ≡ e)) × (d.taken y f ≡ suc (c.taken y f))) ⊎ (d.taken y f ≡ c.taken y f)
  pub one_more : d.taken x e ≡ suc (c.taken x e)

pub record SameTaken (c d : Channels) : Type 0 where
  pub counts : (y f : ℕ) → d.taken y f ≡ c.taken y f

put_longer : (c : Channels) (x e : ℕ) (l : Letter) → length ((puts c x e l).sent x e) ≡ suc (length (c.sent x e))
unfolding puts
put_longer c x e l = at_name c.sent x (λ g. cond (eqb g e) (c.sent x e ++ l ∷ []) (c.sent x g)) x (λ g. length (g e) ≡ suc (length (c.sent x e)))
    (λ here. at_name (c.sent x) e (c.sent x e ++ l ∷ []) e (λ xs. length xs ≡ suc (length (c.sent x e))) (λ now. one_longer (c.sent x e) l) (λ other. absurd (other refl)))
    (λ other. absurd (other refl))

pub gave : (c d : Channels) (x e : ℕ) (l : Letter) → ((y f : ℕ) → d.sent y f ≡ (puts c x e l).sent y f) → Gave c d x e l
gave c d x e l same = record {
  before = λ y f k m h. put_or_before c x e l y f k m (subst (λ (xs : List Letter). slice_get xs k ≡ Some m) (same y f) h);
  later = λ y f k m h. subst (λ (xs : List Letter). slice_get xs k ≡ Some m) (sym (same y f)) (put_later c x e l y f k m h);
  here = subst (λ (xs : List Letter). slice_get xs (length (c.sent x e)) ≡ Some l) (sym (same x e)) (put_here c x e l);
  longer = λ y f. ⊎_elim (λ a. inl (a.0, ap length (same y f) ∙ a.1)) (λ a. inr (ap length (same y f) ∙ ap length a)) (put_length c x e l y f);
  one_longer = ap length (same x e) ∙ put_longer c x e l;
}

pub same_sent : (c d : Channels) → ((y f : ℕ) → d.sent y f ≡ c.sent y f) → SameSent c d
same_sent c d same = record {
  before = λ y f k m h. subst (λ (xs : List Letter). slice_get xs k ≡ Some m) (same y f) h;
  later = λ y f k m h. subst (λ (xs : List Letter). slice_get xs k ≡ Some m) (sym (same y f)) h;
  lengths = λ y f. ap length (same y f);
}

pub counted : (c d : Channels) (x e : ℕ) → ((y f : ℕ) → d.taken y f ≡ (counts c x e).taken y f) → Counted c d x e
counted c d x e same = record {
  counts = λ y f. ⊎_elim (λ a. inl (a.0, same y f ∙ a.1)) (λ a. inr (same y f ∙ a)) (count_taken c x e y f);
  one_more = same x e ∙ count_here c x e;
}
