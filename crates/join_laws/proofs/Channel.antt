-- What a channel that goes on is in the machine: its letters are the machine's, and it took as many of the machine's as those that it
-- took weigh.
use Rattle.std.proofs.Common.{◌≡◌, ℕ, suc, ◌+◌, ◌<◌, ◌≤◌, false, List, [], ◌∷◌, ◌++◌, length, refl, sym, ap, ◌∙◌, subst, Option, Some, None, arith, append-nil, append_assoc}
use Rattle.std.proofs.lemmas.List.{length-append}
use Rattle.std.specs.Prelude.{take, slice_get, unwrap_or}
use Rattle.wire_base.specs.declared.pair.Pair.{Pair}
use Rattle.end_model.specs.declared.moves.Move.{Move}
use Rattle.end_names.specs.declared.role.Role.{Role}
use Rattle.world_model.specs.World.{Sender, Deed, config_of}
use Rattle.step_laws.specs.Letters.{Letter, letters_of}
use Rattle.connection_laws.specs.Steps.{IsDeed}
use Rattle.epoch_machine.specs.Letters as machine_letters
use Rattle.channel_laws.specs.Accounts.{Taken, Account, heeded, gives, gives_also}
use Rattle.recovery_laws.specs.Answered.{is_answer}
use Rattle.recovery_laws.specs.Growing.{ChannelsGrow}
use Rattle.recovery_laws.specs.Queries.{said_in, letters_in, question_of, questions_in, weight, weigh}

-- ---- deeds

-- what a deed gives is what its move does
pub gives_is : (d : Deed) (n : ℕ) (role : Role) (sender : Option Sender) (m : Move) → IsDeed d n role sender m
    → gives d ≡ letters_of role (config_of n 0 None false) m
gives_is d n role sender m deed = rw (deed.role_is, deed.node_is, deed.move_is) refl

-- ---- questions

pub questions_more : (ts : List Taken) (t : Taken) → questions_in (ts ++ t ∷ []) ≡ questions_in ts ++ question_of t.move
questions_more [] t = append-nil (question_of t.move)
questions_more (y ∷ ts) t =
    ap (λ q. question_of y.move ++ q) (questions_more ts t)
    ∙ sym (append_assoc (question_of y.move) (questions_in ts) (question_of t.move))

-- what is no question leaves them as they are
pub questions_stay : (ts : List Taken) (t : Taken) → question_of t.move ≡ [] → questions_in (ts ++ t ∷ []) ≡ questions_in ts
questions_stay ts t none = questions_more ts t ∙ (ap (λ q. questions_in ts ++ q) none ∙ append-nil (questions_in ts))

-- ---- what is heeded

pub heeds_one : (a b : Account) (t : Taken) → a.closed ≡ None → b.closed ≡ a.closed → b.taken ≡ a.taken ++ t ∷ []
    → heeded b ≡ suc (length a.taken)
heeds_one a b t is_open same taken =
    ap (λ o. unwrap_or o (length b.taken)) (same ∙ is_open)
    ∙ (ap length taken ∙ (length-append a.taken (t ∷ []) ∙ omega arith))

pub heeds_all : (a : Account) → a.closed ≡ None → heeded a ≡ length a.taken
heeds_all a is_open = ap (λ o. unwrap_or o (length a.taken)) is_open

-- ---- what a channel gives that takes a letter, which is no question

pub sent_none : (n peer : ℕ) (ts : List Taken) (gs : List Letter) (t : Taken) → question_of t.move ≡ []
    → letters_in n peer (questions_in (ts ++ t ∷ [])) (gs ++ []) ≡ letters_in n peer (questions_in ts) gs ++ []
sent_none n peer ts gs t none =
    ap (λ q. letters_in n peer q (gs ++ [])) (questions_stay ts t none)
    ∙ (ap (λ ls. letters_in n peer (questions_in ts) ls) (append-nil gs) ∙ sym (append-nil (letters_in n peer (questions_in ts) gs)))

pub sent_one : ChannelsGrow → (n peer : ℕ) (ts : List Taken) (gs : List Letter) (t : Taken) (l : Letter) → question_of t.move ≡ []
    → is_answer l.message ≡ 0
    → letters_in n peer (questions_in (ts ++ t ∷ [])) (gs ++ l ∷ [])
    ≡ letters_in n peer (questions_in ts) gs ++ said_in n peer [] l.session l.message
sent_one grow n peer ts gs t l none no_answer =
    ap (λ q. letters_in n peer q (gs ++ l ∷ [])) (questions_stay ts t none) ∙ grow.letters n peer (questions_in ts) gs l no_answer
