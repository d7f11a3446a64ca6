-- What the answer of a letter that is let go says.
use Rattle.std.specs.Prelude.{◌≡◌, ℕ, Bool, true, false, List, Option, Some, None}
use Rattle.wire_base.specs.declared.letter.Letter.{Letter}
use Rattle.end_model.specs.Tunnels.{Turn}
use Rattle.end_model.specs.Sending.{lets_go}

-- the letter with the number that the window lets go went out, or none does
abbrev pub WentBy : Bool → List Letter → Option ℕ → Turn → Turn → Type 0
WentBy true letters o old new = (number : ℕ) × (o ≡ Some number) × (new ≡ lets_go letters number old)
WentBy false letters o old new = (o ≡ None) × (new ≡ old)
