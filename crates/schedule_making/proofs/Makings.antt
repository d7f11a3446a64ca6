-- Lines and the state of the generator, one drawn line after the other.
use Rattle.std.proofs.Common.{◌≡◌, ℕ, suc, ◌+◌, List, refl, sym, ap, ◌∙◌, add-one}
use Rattle.schedule_text.specs.declared.line.Line.{Line}
use Rattle.schedule_making.specs.Making.{opening, Making, drawn_on, making, lines_of_seed}

abbrev pub pair : List Line → ℕ → Making
pair lines state = record { lines = lines; state = state }

pub making_none : (seed : ℕ) → pair opening seed ≡ making seed 0
unfolding making
making_none seed = refl

once : (seed n : ℕ) → drawn_on (making seed n) ≡ making seed (suc n)
unfolding making
once seed n = refl

pub making_next : (seed n : ℕ) → drawn_on (making seed n) ≡ making seed (n + 1)
making_next seed n = once seed n ∙ ap (λ (k : ℕ). making seed k) (sym (add-one n))

-- lines that are made are those of the seed
pub lines_are : (seed n : ℕ) (lines : List Line) (state : ℕ) → pair lines state ≡ making seed n → lines ≡ lines_of_seed seed n
lines_are seed n lines state is = ap (λ (m : Making). m.lines) is
