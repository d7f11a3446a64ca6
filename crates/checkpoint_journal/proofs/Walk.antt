-- A walk over the gates of an area.
use Rattle.std.proofs.Common.{◌≡◌, ◌≢◌, ℕ, zero, suc, ◌+◌, ◌-◌, ◌*◌, ◌<◌, Bool, true, false, cond, List, [], ◌∷◌, ◌++◌, length, take, drop, Option, Some, None, refl, sym, ◌∙◌, ap, arith, length-take}
use Rattle.std.specs.Prelude.{Result, Ok, Err, nat_lt}
use Rattle.std.proofs.lemmas.List.{take-take, drop-drop, drop_all}
use Rattle.std.proofs.lemmas.Bool.Decides.{nat_tests}
use Rattle.checkpoint_journal.specs.Format.{is_open, records, onto, told}
use Rattle.checkpoint_journal.specs.Found.{found_at}
use Rattle.checkpoint_journal.specs.declared.area.Found.{Found}
use Rattle.checkpoint_journal.specs.declared.area.Found.TheVariants.{Nothing, Shut, Content, Part}
use Rattle.checkpoint_journal.specs.Answers.{EndsEarly, Opens}
use Rattle.checkpoint_journal.specs.declared.open.JournalOpen.{JournalOpen}
use Rattle.checkpoint_journal.specs.declared.open.JournalOpen.TheVariants.{NotJournal, StoreFault, NoMemory}
use Rattle.checkpoint_journal.proofs.Parts.{onto_all, onto_all-nil}

same_short : (rest : List ℕ) → nat_lt (length (take 31 rest)) 31 ≡ nat_lt (length rest) 31
same_short rest = let l = length-take 31 rest in grind (arith, nat_tests)

-- 32 bytes tell what stands there
pub found_at-take : (bytes : List ℕ) → found_at (take 32 bytes) ≡ found_at bytes
found_at-take [] = refl
found_at-take (gate ∷ rest) =
    ap (λ b. cond (is_open gate) (cond b Part (Content (take 31 (take 31 rest)))) Shut) (same_short rest)
    ∙ ap (λ (x : List ℕ). cond (is_open gate) (cond (nat_lt (length rest) 31) Part (Content x)) Shut) (take-take 31 31 rest (omega arith))

pub onto_all-push : (cs : List (List ℕ)) (x : List ℕ) (r : Option (List (List ℕ))) → onto_all (cs ++ x ∷ []) r ≡ onto_all cs (onto x r)
onto_all-push [] x r = refl
onto_all-push (c ∷ cs) x r = ap (onto c) (onto_all-push cs x r)

onto_all-none : (cs : List (List ℕ)) → onto_all cs None ≡ None
onto_all-none [] = refl
onto_all-none (c ∷ cs) = ap (onto c) (onto_all-none cs)

-- what an open gate, a short content and a shut gate make
by_gate : (b d : Bool) (x y : List ℕ) → cond b (cond d Part (Content y)) Shut ≡ Content x → (b ≡ true) × (y ≡ x)
by_gate true true x y h = absurd cc
by_gate true false x y h = (refl, cc)
by_gate false d x y h = absurd cc

by_part : (b d : Bool) (y : List ℕ) → cond b (cond d Part (Content y)) Shut ≡ Part → (b ≡ true) × (d ≡ true)
by_part true true y h = (refl, refl)
by_part true false y h = absurd cc
by_part false d y h = absurd cc

by_shut : (b d : Bool) (y : List ℕ) → cond b (cond d Part (Content y)) Shut ≡ Shut → b ≡ false
by_shut true true y h = absurd cc
by_shut true false y h = absurd cc
by_shut false d y h = refl

by_nothing : (b d : Bool) (y : List ℕ) → cond b (cond d Part (Content y)) Shut ≡ Nothing → ⊥
by_nothing true true y h = absurd cc
by_nothing true false y h = absurd cc
by_nothing false d y h = absurd cc

records_content : (most : ℕ) (bytes x : List ℕ) → found_at bytes ≡ Content x → records (suc most) bytes ≡ onto x (records most (drop 32 bytes))
records_content most [] x h = absurd cc
records_content most (gate ∷ rest) x h =
    let is = by_gate (is_open gate) (nat_lt (length rest) 31) x (take 31 rest) h in
    ap (λ b. cond b (onto (take 31 rest) (records most (drop 31 rest))) (Some [])) is.0 ∙ ap (λ (y : List ℕ). onto y (records most (drop 31 rest))) is.1

records_shut : (most : ℕ) (bytes : List ℕ) → found_at bytes ≡ Shut → records most bytes ≡ Some []
records_shut most [] h = absurd cc
records_shut zero (gate ∷ rest) h = refl
records_shut (suc most) (gate ∷ rest) h = ap (λ b. cond b (onto (take 31 rest) (records most (drop 31 rest))) (Some []))
    (by_shut (is_open gate) (nat_lt (length rest) 31) (take 31 rest) h)

records_nothing : (most : ℕ) (bytes : List ℕ) → found_at bytes ≡ Nothing → records most bytes ≡ None
records_nothing most [] h = refl
records_nothing most (gate ∷ rest) h = absurd (by_nothing (is_open gate) (nat_lt (length rest) 31) (take 31 rest) h)

none_left : (rest : List ℕ) → nat_lt (length rest) 31 ≡ true → drop 31 rest ≡ []
none_left rest short = drop_all 31 rest (grind (arith, nat_tests))

records_part : (most : ℕ) (bytes : List ℕ) → found_at bytes ≡ Part → records (suc most) bytes ≡ None
records_part most [] h = absurd cc
records_part most (gate ∷ rest) h =
    let is = by_part (is_open gate) (nat_lt (length rest) 31) (take 31 rest) h in
    ap (λ b. cond b (onto (take 31 rest) (records most (drop 31 rest))) (Some [])) is.0
    ∙ ap (λ (l : List ℕ). onto (take 31 rest) (records most l)) (none_left rest is.1)

records_full : (bytes : List ℕ) → found_at bytes ≢ Nothing → records 0 bytes ≡ Some []
records_full [] h = absurd (h refl)
records_full (gate ∷ rest) h = refl

-- the bytes from a gate of an area on
abbrev pub gate_at : ℕ → ℕ → List ℕ → List ℕ
gate_at start n file = drop (start + 32 * n) file

-- so many records of an area are read, with these contents
pub record SoFar (most start n : ℕ) (cs : List (List ℕ)) (file : List ℕ) : Type 0 where
  pub read : onto_all cs (records (most - n) (gate_at start n file)) ≡ records most (drop start file)

module _ {most start n : ℕ} {cs : List (List ℕ)} {file : List ℕ} (so_far : SoFar most start n cs file) where
  -- a record more
  pub walk_on : (x : List ℕ) → n < most → found_at (gate_at start n file) ≡ Content x → SoFar most start (n + 1) (cs ++ x ∷ []) file
  walk_on x lt found =
      let left : most - n ≡ suc (most - (n + 1)) = omega arith in
      let further : start + 32 * (n + 1) ≡ start + 32 * n + 32 = omega arith in
      record {
        read = onto_all-push cs x (records (most - (n + 1)) (gate_at start (n + 1) file))
            ∙ ap (onto_all cs) (
            ap (λ (k : ℕ). onto x (records (most - (n + 1)) (drop k file))) further
            ∙ ap (λ (l : List ℕ). onto x (records (most - (n + 1)) l)) (sym (drop-drop 32 (start + 32 * n) file))
            ∙ sym (records_content (most - (n + 1)) (gate_at start n file) x found)
            ∙ ap (λ (k : ℕ). records k (gate_at start n file)) (sym left)
            )
            ∙ so_far.read;
      }

  stopped : records (most - n) (gate_at start n file) ≡ Some [] → told file (records most (drop start file)) ≡ Ok cs
  stopped is = ap (told file) (sym so_far.read ∙ ap (onto_all cs) is ∙ onto_all-nil cs)

  refused : records (most - n) (gate_at start n file) ≡ None → told file (records most (drop start file)) ≡ Err (length file)
  refused is = ap (told file) (sym so_far.read ∙ ap (onto_all cs) is ∙ onto_all-none cs)

  -- a gate that isn't open
  pub walk_shut : found_at (gate_at start n file) ≡ Shut → told file (records most (drop start file)) ≡ Ok cs
  walk_shut found = stopped (records_shut (most - n) (gate_at start n file) found)

  -- no gate
  pub walk_nothing : found_at (gate_at start n file) ≡ Nothing → told file (records most (drop start file)) ≡ Err (length file)
  walk_nothing found = refused (records_nothing (most - n) (gate_at start n file) found)

  -- a record cut short
  pub walk_part : n < most → found_at (gate_at start n file) ≡ Part → told file (records most (drop start file)) ≡ Err (length file)
  walk_part lt found =
      let left : most - n ≡ suc (most - (n + 1)) = omega arith in
      refused (ap (λ (k : ℕ). records k (gate_at start n file)) left ∙ records_part (most - (n + 1)) (gate_at start n file) found)

  -- a gate behind the last record that is read
  pub walk_full : n ≡ most → found_at (gate_at start n file) ≢ Nothing → told file (records most (drop start file)) ≡ Ok cs
  walk_full full found =
      let left : most - n ≡ 0 = omega arith in
      stopped (ap (λ (k : ℕ). records k (gate_at start n file)) left ∙ records_full (gate_at start n file) found)

-- what was read at a place
pub at_place : (start k n : ℕ) (f : Found) (file : List ℕ) → f ≡ found_at (gate_at start k file) → k ≡ n → found_at (gate_at start n file) ≡ f
at_place start k n f file is same = ap (λ (m : ℕ). found_at (gate_at start m file)) (sym same) ∙ sym is

-- a refusal that tells the file's length
pub early : (read : Result (List (List ℕ)) ℕ) (size : ℕ) (e : JournalOpen) → EndsEarly size e → read ≡ Err size
    → Opens {T = List (List ℕ)} (λ contents. contents) read (Err e)
early read size (NotJournal at) is h = h ∙ ap (λ (n : ℕ). Err n) (sym is)
early read size StoreFault is h = tt
early read size NoMemory is h = absurd is

-- neither a record nor a closed gate
pub not_whole : {most start n : ℕ} {cs : List (List ℕ)} {file : List ℕ} → SoFar most start n cs file → n < most
    → (f : Found) → found_at (gate_at start n file) ≡ f → (f ≡ Shut → ⊥) → ((x : List ℕ) → f ≡ Content x → ⊥)
    → told file (records most (drop start file)) ≡ Err (length file)
not_whole so_far lt Nothing is no_shut no_content = walk_nothing so_far is
not_whole so_far lt Part is no_shut no_content = walk_part so_far lt is
not_whole so_far lt Shut is no_shut no_content = absurd (no_shut refl)
not_whole so_far lt (Content x) is no_shut no_content = absurd (no_content x refl)
