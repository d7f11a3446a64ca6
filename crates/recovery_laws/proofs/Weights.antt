-- How many letters of the machine's what was given is.
use Rattle.std.proofs.Common.{◌≡◌, ℕ, suc, ◌+◌, List, [], ◌∷◌, length, refl, ap, ap₂, ◌∙◌}
use Rattle.std.proofs.lemmas.List.{length-map, length-append}
use Rattle.wire_base.specs.declared.pair.Pair.{Pair}
use Rattle.control_message.specs.declared.message.Message.{Message}
use Rattle.control_message.specs.declared.message.Message.TheVariants as message
use Rattle.step_laws.specs.Letters as step
use Rattle.recovery_laws.specs.Queries.{answers_in, said_in, first_of, rest_of, letters_in, weight, weigh}

answers_weigh : (n m : ℕ) (asked answers : List Pair) → length (answers_in n m asked answers) ≡ length answers
answers_weigh n m asked [] = refl
answers_weigh n m [] (a ∷ rest) = ap suc (answers_weigh n m [] rest)
answers_weigh n m (q ∷ qs) (a ∷ rest) = ap suc (answers_weigh n m qs rest)

pub said_weighs : (n m : ℕ) (asked : List Pair) (header : ℕ) (x : Message) → length (said_in n m asked header x) ≡ weight x
said_weighs n m asked header (message.Fsq pairs) = length-map pairs _
said_weighs n m asked header (message.Fsr answers) = answers_weigh n m asked answers
said_weighs n m asked header (message.Sccrq o) = refl
said_weighs n m asked header (message.Sccrp o) = refl
said_weighs n m asked header (message.Scccn response) = refl
said_weighs n m asked header (message.StopCcn tunnel result error) = refl
said_weighs n m asked header message.Hello = refl
said_weighs n m asked header (message.Ocrq session) = refl
said_weighs n m asked header message.Ocrp = refl
said_weighs n m asked header message.Occn = refl
said_weighs n m asked header message.Wen = refl
said_weighs n m asked header message.Sli = refl
said_weighs n m asked header (message.Icrq session serial calling) = refl
said_weighs n m asked header (message.Icrp session) = refl
said_weighs n m asked header (message.Iccn speed framing sequenced) = refl
said_weighs n m asked header (message.Cdn session result error) = refl

pub letters_weigh : (n m : ℕ) (qs : List (List Pair)) (ls : List step.Letter) → length (letters_in n m qs ls) ≡ weigh ls
letters_weigh n m qs [] = refl
letters_weigh n m qs (l ∷ ls) =
    length-append (said_in n m (first_of qs) l.session l.message) (letters_in n m (rest_of l.message qs) ls)
    ∙ ap₂ (λ a b. a + b) (said_weighs n m (first_of qs) l.session l.message) (letters_weigh n m (rest_of l.message qs) ls)
