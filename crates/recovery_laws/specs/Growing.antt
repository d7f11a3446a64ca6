-- What the machine's list of a channel's letters becomes as the channel goes on.
use Rattle.std.specs.Prelude.{◌≡◌, ℕ, suc, ◌+◌, ◌≤◌, List, [], ◌∷◌, ◌++◌, take, length, slice_get, Some}
use Rattle.wire_base.specs.declared.pair.Pair.{Pair}
use Rattle.step_laws.specs.Letters.{Letter}
use Rattle.recovery_laws.specs.Queries.{said_in, letters_in, weight, weigh}
use Rattle.recovery_laws.specs.Answered.{is_answer, answers_given}

-- a letter that is no answer is put behind the others, whatever it is asked for
abbrev pub LettersGrow : Type 0
LettersGrow = (n peer : ℕ) (qs : List (List Pair)) (ls : List Letter) (l : Letter) → is_answer l.message ≡ 0
    → letters_in n peer qs (ls ++ l ∷ []) ≡ letters_in n peer qs ls ++ said_in n peer [] l.session l.message

-- where all questions are answered, so is an answer to one more
abbrev pub AnswersGrow : Type 0
AnswersGrow = (n peer : ℕ) (qs : List (List Pair)) (q : List Pair) (ls : List Letter)
    (l : Letter) → answers_given ls ≡ length qs → is_answer l.message ≡ 1
    → letters_in n peer (qs ++ q ∷ []) (ls ++ l ∷ []) ≡ letters_in n peer qs ls ++ said_in n peer q l.session l.message

-- each letter that is taken is so many of the machine's more
abbrev pub TakenGrow : Type 0
TakenGrow = (ls : List Letter) (count : ℕ) (l : Letter) → slice_get ls count ≡ Some l → weigh (take (suc count) ls) ≡ weigh
    (take count ls) + weight l.message

-- and those that were taken stay as they are when more are given
abbrev pub TakenStay : Type 0
TakenStay = (ls more : List Letter) (count : ℕ) → count ≤ length ls → weigh (take count (ls ++ more)) ≡ weigh (take count ls)

pub record ChannelsGrow : Type 0 where
  pub letters : LettersGrow
  pub answers : AnswersGrow
  pub taken : TakenGrow
  pub stay : TakenStay
