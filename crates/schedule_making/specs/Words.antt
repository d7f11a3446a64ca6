-- What the words of `make` ask for: a seed, and how many lines are drawn.
use Rattle.std.specs.Prelude.{ℕ, List, [], ◌∷◌, codes, if◌then◌else◌, Option, Some, None}
use Rattle.std.specs.Str.{bytes_eq}
use Rattle.option_values.specs.Values.{◌>>=◌, number_of}

abbrev pub numbers_of : List ℕ → List ℕ → Option (ℕ × ℕ)
numbers_of seed count = number_of 0 18446744073709551615 seed >>= λ x. number_of 1 50000 count >>= λ n. Some (x, n)

-- `make SEED COUNT`
abbrev pub make_of : List (List ℕ) → Option (ℕ × ℕ)
make_of [] = None
make_of (command ∷ []) = None
make_of (command ∷ seed ∷ []) = None
make_of (command ∷ seed ∷ count ∷ []) = if bytes_eq command (codes "make") then numbers_of seed count else None
make_of (command ∷ seed ∷ count ∷ other ∷ more) = None
