-- What a file opens with, by what its first bytes tell.
use Rattle.std.proofs.Common.{◌≡◌, ℕ, ◌≤◌, Bool, true, false, cond, List, [], length, drop, Option, Some, None, refl, ◌∙◌, ap, arith}
use Rattle.std.specs.Prelude.{Result, Ok, Err, nat_lt}
use Rattle.std.proofs.lemmas.Bool.Decides.{nat_tests}
use Rattle.checkpoint_journal.specs.Answers.{Opens}
use Rattle.checkpoint_journal.specs.declared.open.JournalOpen.{JournalOpen}
use Rattle.checkpoint_journal.specs.declared.open.JournalOpen.TheVariants.{NotJournal, StoreFault, NoMemory}
use Rattle.checkpoint_journal.specs.Format.{header, differs, is_made, start_of, opens, checked, area_of, head_of, head_told}

abbrev start_in : Result (Option ℕ) ℕ → ℕ
start_in (Ok (Some start)) = start
start_in (Ok None) = 0
start_in (Err at) = at

some_by : (file : List ℕ) (made : Bool) (place : Option ℕ) (long : Bool) (start : ℕ)
    → cond made (head_told file place) (cond long (Err 0) (Ok None)) ≡ Ok (Some start)
    → (made ≡ true) × (start_of file ≡ start) × (cond made (checked file place) (cond long (Err 0) (Ok [])) ≡ area_of (start_of file) file)
some_by file true None long start h = (refl, ap start_in h, refl)
some_by file true (Some at) long start h = absurd cc
some_by file false place true start h = absurd cc
some_by file false place false start h = absurd cc

none_by : (file : List ℕ) (made : Bool) (place : Option ℕ) (long : Bool) → cond made (head_told file place) (cond long (Err 0) (Ok None)) ≡ Ok None
    → (made ≡ false) × (long ≡ false) × (cond made (checked file place) (cond long (Err 0) (Ok [])) ≡ Ok [])
none_by file true None long h = absurd cc
none_by file true (Some at) long h = absurd cc
none_by file false place true h = absurd cc
none_by file false place false h = (refl, refl, refl)

err_by : (file : List ℕ) (made : Bool) (place : Option ℕ) (long : Bool) (at : ℕ) → cond made (head_told file place) (cond long (Err 0) (Ok None)) ≡ Err at
    → cond made (checked file place) (cond long (Err 0) (Ok [])) ≡ Err at
err_by file true None long at h = absurd cc
err_by file true (Some there) long at h = ap (λ (n : ℕ). Err n) (ap start_in h)
err_by file false place true at h = ap (λ (n : ℕ). Err n) (ap start_in h)
err_by file false place false at h = absurd cc

-- a journal that was made, whose area in use begins there
pub record Made (kind number start : ℕ) (file : List ℕ) : Type 0 where
  pub made : is_made file ≡ true
  pub area : start_of file ≡ start
  pub opened : opens kind number file ≡ area_of start file

pub head_some : (kind number : ℕ) (file : List ℕ) (start : ℕ) → head_of kind number file ≡ Ok (Some start) → Made kind number start file
unfolding opens
head_some kind number file start h =
    let is = some_by file (is_made file) (differs 1 (header kind number) (drop 1 file)) (nat_lt 33 (length file)) start h in
    record { made = is.0; area = is.1; opened = is.2 ∙ ap (λ (n : ℕ). area_of n file) is.1 }

-- a file that is to be made new
pub record Unmade (kind number : ℕ) (file : List ℕ) : Type 0 where
  pub unmade : is_made file ≡ false
  pub short : length file ≤ 33
  pub opened : opens kind number file ≡ Ok []

pub head_none : (kind number : ℕ) (file : List ℕ) → head_of kind number file ≡ Ok None → Unmade kind number file
unfolding opens
head_none kind number file h =
    let is = none_by file (is_made file) (differs 1 (header kind number) (drop 1 file)) (nat_lt 33 (length file)) h in
    let short = is.1 in
    record { unmade = is.0; short = grind (arith, nat_tests); opened = is.2 }

head_err : (kind number : ℕ) (file : List ℕ) (at : ℕ) → head_of kind number file ≡ Err at → opens kind number file ≡ Err at
unfolding opens
head_err kind number file at h = err_by file (is_made file) (differs 1 (header kind number) (drop 1 file)) (nat_lt 33 (length file)) at h

-- a refusal by the first bytes
pub opens_err : {T : Type 0} (view : T → List (List ℕ)) (kind number : ℕ) (file : List ℕ) (e : JournalOpen)
    → Opens {T = Option ℕ} (λ made. made) (head_of kind number file) (Err e)
    → Opens view (opens kind number file) (Err e)
opens_err view kind number file (NotJournal at) h = head_err kind number file at h
opens_err view kind number file StoreFault h = tt
opens_err view kind number file NoMemory h = tt

-- a refusal by the records
pub opens_area : {T : Type 0} (view : T → List (List ℕ)) (kind number start : ℕ) (file : List ℕ) (e : JournalOpen) → Made kind number start file
    → Opens {T = List (List ℕ)} (λ contents. contents) (area_of start file) (Err e) → Opens view (opens kind number file) (Err e)
opens_area view kind number start file (NotJournal at) is h = is.opened ∙ h
opens_area view kind number start file StoreFault is h = tt
opens_area view kind number start file NoMemory is h = tt
