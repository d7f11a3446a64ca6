-- The text of a refusal that tells three numbers, piece by piece.
use Rattle.std.proofs.Common.{◌≡◌, ℕ, List, ◌++◌, codes, append_assoc}
use Rattle.std.specs.Fmt.{decimal}
use Rattle.world_model.specs.Run.{half_space_text, stale_text}

parts : (out a k b l d m e : List ℕ) → out ++ a ++ k ++ b ++ l ++ d ++ m ++ e ≡ out ++ (a ++ k ++ b ++ l ++ d ++ m ++ e)
parts out a k b l d m e = simp append_assoc

three_numbers : (out a b d e x y z : List ℕ) (line first second : ℕ) → a ≡ out ++ x ++ decimal line → b ≡ a ++ y ++ decimal first
    → d ≡ b ++ z ++ decimal second → e ≡ d ++ codes "\n" → e ≡ out ++ (x ++ decimal line ++ y ++ decimal first ++ z ++ decimal second ++ codes "\n")
three_numbers out a b d e x y z line first second one two three last =
    rw (last, three, two, one) (parts out x (decimal line) y (decimal first) z (decimal second) (codes "\n"))

pub half_space_is : (out a b d e : List ℕ) (line number count : ℕ) → a ≡ out ++ codes "half space line " ++ decimal line
    → b ≡ a ++ codes ": number " ++ decimal number → d ≡ b ++ codes ", at " ++ decimal count → e ≡ d ++ codes "\n"
    → e ≡ out ++ half_space_text line number count
unfolding half_space_text
half_space_is out a b d e line number count one two three last =
    three_numbers out a b d e (codes "half space line ") (codes ": number ") (codes ", at ") line number count one two three last

pub stale_is : (out a b d e : List ℕ) (line sent own : ℕ) → a ≡ out ++ codes "stale line " ++ decimal line
    → b ≡ a ++ codes ": packet epoch " ++ decimal sent → d ≡ b ++ codes ", own epoch " ++ decimal own → e ≡ d ++ codes "\n"
    → e ≡ out ++ stale_text line sent own
unfolding stale_text
stale_is out a b d e line sent own one two three last =
    three_numbers out a b d e (codes "stale line ") (codes ": packet epoch ") (codes ", own epoch ") line sent own one two three last
