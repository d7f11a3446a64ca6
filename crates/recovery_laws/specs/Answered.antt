-- What a tunnel answers is what it was asked for.
use Rattle.std.specs.Prelude.{◌≡◌, ℕ, ◌+◌, List, [], ◌∷◌, length}
use Rattle.control_message.specs.declared.message.Message.{Message}
use Rattle.control_message.specs.declared.message.Message.TheVariants.{Fsr}
use Rattle.world_model.specs.World.{Deed}
use Rattle.step_laws.specs.Letters.{Letter}
use Rattle.channel_laws.specs.Accounts.{Account, History, no_history, history_from}
use Rattle.recovery_laws.specs.Queries.{questions_in}

abbrev pub is_answer : Message → ℕ
is_answer (Fsr answers) = 1
is_answer m = 0

-- how many answers were given
abbrev pub answers_given : List Letter → ℕ
answers_given [] = 0
answers_given (l ∷ ls) = is_answer l.message + answers_given ls

-- a channel gave as many answers as it took questions, so each one is to the question in its place
abbrev pub AnswersItsQuestions : Account → Type 0
AnswersItsQuestions a = answers_given a.given ≡ length (questions_in a.taken)

abbrev pub AllAnswer : History → Type 0
AllAnswer h = (n i e : ℕ) → AnswersItsQuestions (h.accounts n i e)

-- at first, and whatever is done
pub record AnswersAreToQuestions : Type 0 where
  pub first : AllAnswer no_history
  pub later : (done : List Deed) (h : History) → AllAnswer h → AllAnswer (history_from done h)
