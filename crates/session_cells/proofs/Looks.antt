-- Words and the states that they stand for.
use Rattle.std.proofs.Common.{◌≡◌, ℕ, ◌<◌, ◌^◌, ◌/◌, ◌%◌, refl, ap, sym, ◌∙◌, arith}
use Rattle.session_looks.specs.declared.look.Look.{Look}
use Rattle.session_looks.specs.declared.look.Look.TheVariants.{Unborn, Bound, Established, Dead}
use Rattle.session_cells.specs.Words.{word_of, look_in, look_as, packed}

-- a state that a word can hold
abbrev pub FitsLook : Look → Type 0
FitsLook (Bound t p) = (t < 2 ^ 16) × (p < 2 ^ 32)
FitsLook (Established t p) = (t < 2 ^ 16) × (p < 2 ^ 32)
FitsLook l = Unit {0}

read_as : (w s t p : ℕ) → w / 2 ^ 62 ≡ s → w / 2 ^ 46 % 2 ^ 16 ≡ t → w / 2 ^ 14 % 2 ^ 32 ≡ p → look_in w ≡ look_as s t p
read_as w s t p a b c = rw (a, b, c) refl

pub look_back : (l : Look) → FitsLook l → look_in (word_of l) ≡ l
look_back Unborn h = refl
look_back (Bound t p) h = read_as (packed 1 t p 0) 1 t p (omega arith) (omega arith) (omega arith)
look_back (Established t p) h = read_as (packed 2 t p 0) 2 t p (omega arith) (omega arith) (omega arith)
look_back Dead h = refl

pub same_look : (l m : Look) → FitsLook l → FitsLook m → word_of l ≡ word_of m → l ≡ m
same_look l m a b e = sym (look_back l a) ∙ (ap look_in e ∙ look_back m b)
