-- The letters of a channel, with room made ahead for more.
use Rattle.std.specs.Prelude.{ℕ, ◌-◌, max, List, [], ◌∷◌, ◌++◌, drop, slice_get, Option}
use Rattle.wire_base.specs.declared.letter.Letter.{Letter}

pub record Queue : Type 0 where
  -- the letters that are unacknowledged or unsent, in the order of their numbers
  pub letters : List Letter
  -- for how many more letters there is room
  pub spare : ℕ

abbrev pub no_letters : Queue
no_letters = record { letters = []; spare = 0 }

abbrev pub reserved : Queue → ℕ → Queue
reserved q count = record q { spare = max q.spare count }

abbrev pub put_into : Queue → Letter → Queue
put_into q letter = record { letters = q.letters ++ letter ∷ []; spare = q.spare - 1 }

-- the first letters go, and the room for more stays as it is
abbrev pub dropped_first : Queue → ℕ → Queue
dropped_first q count = record q { letters = drop count q.letters }

abbrev pub cleared : Queue → Queue
cleared q = record q { letters = [] }

-- the letter at a place, from 0
abbrev pub letter_in : Queue → ℕ → Option Letter
letter_in q place = slice_get q.letters place
