-- What an area of records stands for, from its parts and back.
use Rattle.std.proofs.Common.{subst, ◌≡◌, ◌⊎◌, inl, inr, ℕ, zero, suc, ◌+◌, ◌-◌, ◌*◌, ◌<◌, ◌≤◌, true, false, cond, List, [], ◌∷◌, ◌++◌, length, take, drop, Option, Some, None, refl, sym, ◌∙◌, ap, arith, append_assoc, length-append, length-take, length-drop, take-append-drop}
use Rattle.std.proofs.lemmas.List.{take_at, drop_at}
use Rattle.std.proofs.lemmas.Bool.{cases_eq}
use Rattle.std.proofs.lemmas.Bool.Decides.{nat_tests}
use Rattle.std.specs.List.{AllByRecursion}
use Rattle.checkpoint_journal.specs.Format.{is_open, records, onto, spelled, most_records, first_area, second_area}
use Rattle.checkpoint_journal.specs.Laws.{Is31}

abbrev pub onto_all : List (List ℕ) → Option (List (List ℕ)) → Option (List (List ℕ))
onto_all [] found = found
onto_all (content ∷ contents) found = onto content (onto_all contents found)

pub onto_all-nil : (cs : List (List ℕ)) → onto_all cs (Some []) ≡ Some cs
onto_all-nil [] = refl
onto_all-nil (c ∷ cs) = ap (onto c) (onto_all-nil cs)

pub length-spelled : (cs : List (List ℕ)) → AllByRecursion Is31 cs → length (spelled cs) ≡ 32 * length cs
length-spelled [] all = refl
length-spelled (c ∷ cs) all = let ih = length-spelled cs all.1 in let h = all.0 in let l = length-append c (spelled cs) in omega arith

-- open records, and then what is found behind them
pub records-spelled : (cs : List (List ℕ)) (most k : ℕ) (rest : List ℕ) → AllByRecursion Is31 cs → most ≡ length cs + k
    → records most (spelled cs ++ rest) ≡ onto_all cs (records k rest)
records-spelled [] most k rest all is = let same : most ≡ k = omega arith in ap (λ m. records m rest) same
records-spelled (c ∷ cs) zero k rest all is = absurd (omega arith)
records-spelled (c ∷ cs) (suc most) k rest all is =
    let whole : (c ++ spelled cs) ++ rest ≡ c ++ (spelled cs ++ rest) = append_assoc c (spelled cs) rest in
    let front : take 31 ((c ++ spelled cs) ++ rest) ≡ c = ap (take 31) whole ∙ take_at c (spelled cs ++ rest) 31 all.0 in
    let back : drop 31 ((c ++ spelled cs) ++ rest) ≡ spelled cs ++ rest = ap (drop 31) whole ∙ drop_at c (spelled cs ++ rest) 31 all.0 in
    ap (λ x. onto x (records most (drop 31 ((c ++ spelled cs) ++ rest)))) front
    ∙ ap (λ x. onto c (records most x)) back
    ∙ ap (onto c) (records-spelled cs most k rest all.1 (omega arith))

records-stop : (k gate : ℕ) (rest : List ℕ) → (is_open gate ≡ false) ⊎ (k ≡ 0) → records k (gate ∷ rest) ≡ Some []
records-stop zero gate rest stop = refl
records-stop (suc k) gate rest (inl shut) = ap (λ b. cond b (onto (take 31 rest) (records k (drop 31 rest))) (Some [])) shut
records-stop (suc k) gate rest (inr full) = absurd (omega arith)

-- the parts of an area that is read
pub record Parts (most : ℕ) (cs : List (List ℕ)) (bytes : List ℕ) : Type 0 where
  pub gate : ℕ
  pub tail : List ℕ
  pub split : bytes ≡ spelled cs ++ gate ∷ tail
  pub each : AllByRecursion Is31 cs
  pub few : length cs ≤ most
  pub stop : (is_open gate ≡ false) ⊎ (length cs ≡ most)

pub read_parts : (most : ℕ) (cs : List (List ℕ)) (gate : ℕ) (tail : List ℕ) → AllByRecursion Is31 cs → length cs ≤ most
    → (is_open gate ≡ false) ⊎ (length cs ≡ most) → records most (spelled cs ++ gate ∷ tail) ≡ Some cs
read_parts most cs gate tail each few stop =
    records-spelled cs most (most - length cs) (gate ∷ tail) each (omega arith)
    ∙ ap (onto_all cs) (records-stop (most - length cs) gate tail (left stop))
    ∙ onto_all-nil cs
  where
    left : (is_open gate ≡ false) ⊎ (length cs ≡ most) → (is_open gate ≡ false) ⊎ (most - length cs ≡ 0)
    left (inl shut) = inl shut
    left (inr full) = inr (omega arith)

some_inj : {X : Type 0} (x y : X) → Some x ≡ Some y → x ≡ y
some_inj x y h = cc

none_of : {X : Type 0} (y : X) → None ≡ Some y → ⊥
none_of y h = cc

parts_nil : (most : ℕ) (cs : List (List ℕ)) (gate : ℕ) (rest : List ℕ) → (is_open gate ≡ false) ⊎ (0 ≡ most) → Some [] ≡ Some cs
    → Parts most cs (gate ∷ rest)
parts_nil most [] gate rest stop is = record { gate = gate; tail = rest; split = refl; each = tt; few = omega arith; stop = stop }
parts_nil most (c ∷ cs) gate rest stop is = absurd cc

-- one record more in front
parts_cons : (most : ℕ) (rest : List ℕ) (found : Option (List (List ℕ))) (cs : List (List ℕ)) (gate : ℕ) → is_open gate ≡ true → gate ≡ 79
    → ((ds : List (List ℕ)) → found ≡ Some ds → Parts most ds (drop 31 rest)) → onto (take 31 rest) found ≡ Some cs
    → Parts (suc most) cs (gate ∷ rest)
parts_cons most rest None cs gate opened is ih h = absurd (none_of cs h)
parts_cons most rest (Some ds) [] gate opened is ih h = absurd cc
parts_cons most rest (Some ds) (c ∷ cs) gate opened is ih h =
    let p = ih ds refl in
    let first : take 31 rest ≡ c = cc in
    let others : ds ≡ cs = cc in
    let long : 31 < length rest =
    let l = ap length p.split in let m = length-append (spelled ds) (p.gate ∷ p.tail) in let n = length-drop 31 rest in omega arith in
    let size : length c ≡ 31 = ap length (sym first) ∙ (let l = length-take 31 rest in omega arith) in
    record {
      gate = p.gate;
      tail = p.tail;
      split = ap (λ (g : ℕ). g ∷ rest) is
          ∙ ap (λ (l : List ℕ). 79 ∷ l) (sym (take-append-drop 31 rest) ∙ ap (λ (l : List ℕ). l ++ drop 31 rest) first
          ∙ ap (λ (l : List ℕ). c ++ l) (p.split ∙ ap (λ (l : List (List ℕ)). spelled l ++ p.gate ∷ p.tail) others)
          ∙ sym (append_assoc c (spelled cs) (p.gate ∷ p.tail)));
      each = (size, subst (AllByRecursion Is31) others p.each);
      few = let f = p.few in let l = ap length others in omega arith;
      stop = later p.stop;
    }
  where
    later : (is_open (ih ds refl).gate ≡ false) ⊎ (length ds ≡ most) → (is_open (ih ds refl).gate ≡ false) ⊎ (length (c ∷ cs) ≡ suc most)
    later (inl shut) = inl shut
    later (inr full) = inr (let l : length ds ≡ length cs = ap length cc in omega arith)

-- what is read has these parts
pub parts : (most : ℕ) (bytes : List ℕ) (cs : List (List ℕ)) → records most bytes ≡ Some cs → Parts most cs bytes
parts most [] cs h = absurd (none_of cs h)
parts zero (gate ∷ rest) cs h = parts_nil zero cs gate rest (inr refl) h
parts (suc most) (gate ∷ rest) cs h = elim (cases_eq gate 79) [
  | inl is ↦ parts_cons most rest (records most (drop 31 rest)) cs gate (ap is_open is) is (λ ds e. parts most (drop 31 rest) ds e)
      (sym (ap (λ b. cond b (onto (take 31 rest) (records most (drop 31 rest))) (Some [])) (ap is_open is)) ∙ h)
  | inr other ↦
      let shut : is_open gate ≡ false = grind (arith, nat_tests) in
      parts_nil (suc most) cs gate rest (inl shut) (sym (ap (λ b. cond b (onto (take 31 rest) (records most (drop 31 rest))) (Some [])) shut) ∙ h)
]

pub most_is : most_records ≡ 1048576
unfolding most_records
most_is = refl

pub second_is : second_area ≡ 33554496
unfolding second_area
second_is = refl

-- where an area begins is a small number
pub small_start : (start : ℕ) → (start ≡ first_area) ⊎ (start ≡ second_area) → start ≤ second_area
small_start start (inl first) = let s = second_is in omega arith
small_start start (inr second) = omega arith
