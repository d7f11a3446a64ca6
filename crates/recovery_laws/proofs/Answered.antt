-- Whatever was done, a channel gave as many answers as it took questions.
use Rattle.std.proofs.Common.{◌≡◌, ℕ, ◌+◌, Bool, true, false, List, [], ◌∷◌, ◌++◌, length, refl, sym, ap, ◌∙◌, arith}
use Rattle.std.proofs.lemmas.List.{length-append}
use Rattle.std.specs.Prelude.{◌==◌, ◌&&◌, if◌then◌else◌}
use Rattle.end_model.specs.declared.moves.Move.{Move}
use Rattle.end_model.specs.declared.moves.Move.TheVariants as move
use Rattle.world_model.specs.World.{Deed}
use Rattle.step_laws.specs.Letters.{Letter}
use Rattle.channel_laws.specs.Accounts.{Part, Unmade, Opener, Acceptor, Renewed, Taken, Account, declined_by, declined_in, gives, declines_of, about, entered_by, after_deed, History, after, history_from}
use Rattle.recovery_laws.specs.Queries.{question_of, questions_in}
use Rattle.recovery_laws.specs.Answered.{answers_given, AnswersItsQuestions, AllAnswer, AnswersAreToQuestions}

given_more : (xs ys : List Letter) → answers_given (xs ++ ys) ≡ answers_given xs + answers_given ys
given_more [] ys = omega arith
given_more (x ∷ xs) ys = let more = given_more xs ys in omega (arith, more)

asked_more : (xs : List Taken) (t : Taken) → length (questions_in (xs ++ t ∷ [])) ≡ length (questions_in xs) + length (question_of t.move)
asked_more [] t = let one = length-append (question_of t.move) [] in omega (arith, one)
asked_more (x ∷ xs) t =
    let more = asked_more xs t in
    let one = length-append (question_of x.move) (questions_in (xs ++ t ∷ [])) in
    let two = length-append (question_of x.move) (questions_in xs) in
    omega (arith, more, one, two)

module _ (d : Deed) (a : Account) (is : AnswersItsQuestions a) where
  -- a letter more, and one more that was taken
  gave : (ls : List Letter) → answers_given ls ≡ 0 → answers_given (a.given ++ ls) ≡ length (questions_in a.taken)
  gave ls none = let more = given_more a.given ls in omega (arith, more, none, is)

  took : (t : Taken) → question_of t.move ≡ [] → answers_given a.given ≡ length (questions_in (a.taken ++ t ∷ []))
  took t none = let more = asked_more a.taken t in let no = ap length none in omega (arith, more, no, is)

  both : (ls : List Letter) (t : Taken) → answers_given ls ≡ length (question_of t.move)
      → answers_given (a.given ++ ls) ≡ length (questions_in (a.taken ++ t ∷ []))
  both ls t same =
      let given = given_more a.given ls in
      let asked = asked_more a.taken t in
      omega (arith, given, asked, same, is)

  abbrev gives_by : Move → ℕ
  gives_by x = answers_given (gives (record d { move = x }))

  abbrev took_one : ℕ → Taken
  took_one number = record { sender = d.sender; number = number; move = d.move }

  entered : (m : Move) → d.move ≡ m → AnswersItsQuestions (entered_by d m a)
  entered (move.Opened m) move_is = gave (gives d) (ap gives_by move_is)
  entered (move.Accepted m) move_is = both (gives d) (took_one m.taken.number)
      (ap gives_by move_is ∙ sym (ap (λ x. length (question_of x)) move_is))
  entered (move.Connected m) move_is = both (gives d) (took_one m.taken.number)
      (ap gives_by move_is ∙ sym (ap (λ x. length (question_of x)) move_is))
  entered (move.Confirmed m) move_is = took (took_one m.taken.number) (ap question_of move_is)
  entered (move.Added m) move_is = is
  entered (move.Requested m) move_is = gave (gives d) (ap gives_by move_is)
  entered (move.Replied m) move_is = both (gives d) (took_one m.taken.number)
      (ap gives_by move_is ∙ sym (ap (λ x. length (question_of x)) move_is))
  entered (move.FirstUp m) move_is = both (gives d) (took_one m.taken.number)
      (ap gives_by move_is ∙ sym (ap (λ x. length (question_of x)) move_is))
  entered (move.SecondUp m) move_is = took (took_one m.taken.number) (ap question_of move_is)
  entered (move.Refused m) move_is = both (gives d) (took_one m.taken.number)
      (ap gives_by move_is ∙ sym (ap (λ x. length (question_of x)) move_is))
  entered (move.EndTold m) move_is = gave (gives d) (ap gives_by move_is)
  entered (move.EndHeard m) move_is = took (took_one m.taken.number) (ap question_of move_is)
  entered (move.EndSilent m) move_is = is
  entered (move.Declined m) move_is = is
  entered (move.Closed m) move_is = gave (gives d) (ap gives_by move_is)
  entered (move.Rejected m) move_is = both (gives d) (took_one m.taken.number)
      (ap gives_by move_is ∙ sym (ap (λ x. length (question_of x)) move_is))
  entered (move.ClosedBy m) move_is = took (took_one m.taken.number) (ap question_of move_is)
  entered (move.Cleared i b) move_is = is
  entered (move.Greeted m) move_is = gave (gives d) (ap gives_by move_is)
  entered (move.TookPlain m) move_is = took (took_one m.taken.number) (ap question_of move_is)
  entered (move.NrRead m) move_is = is
  entered (move.LetGo m) move_is = is
  entered (move.Repeated m) move_is = is
  entered (move.Quiet m) move_is = is
  entered (move.Negotiated m) move_is = is
  entered (move.Counted m) move_is = is
  entered (move.FrameSent m) move_is = is
  entered (move.FrameUp m) move_is = is
  entered (move.Restored m) move_is = is
  entered (move.Forgot m) move_is = is
  entered (move.Froze m) move_is = is
  entered (move.ResetAttempting m) move_is = refl
  entered (move.ResetAnswering m) move_is = refl
  entered (move.Queried m) move_is = gave (gives d) (ap gives_by move_is)
  entered (move.AnsweredQuery m) move_is = both (gives d) (took_one m.taken.number)
      (ap gives_by move_is ∙ sym (ap (λ x. length (question_of x)) move_is))
  entered (move.TookAnswer m) move_is = took (took_one m.taken.number) (ap question_of move_is)
  entered (move.RecoveryWentOn m) move_is = is
  entered (move.RecoveryEnded m) move_is = is
  entered (move.Ignored m) move_is = is

-- an account that is as it was, or went on
after_one : (d : Deed) (n i e : ℕ) (a : Account) → AnswersItsQuestions a → AnswersItsQuestions (after_deed d n i e a)
after_one d n i e a is = declined (declines_of d.move n i && (e == 0)) _ (by (((d.node == n) && (about d.move == i)) && (d.epoch == e)))
  where
    by : (b : Bool) → AnswersItsQuestions (if b then entered_by d d.move a else a)
    by true = entered d a is d.move refl
    by false = is

    declined_so : (p : Part) (c : Account) → AnswersItsQuestions c → AnswersItsQuestions (declined_by p c)
    declined_so Opener c so = so
    declined_so Unmade c so = so
    declined_so Acceptor c so = so
    declined_so Renewed c so = so

    declined : (b : Bool) (c : Account) → AnswersItsQuestions c → AnswersItsQuestions (declined_in b c)
    declined true c so = declined_so c.part c so
    declined false c so = so

after_all : (done : List Deed) (h : History) → AllAnswer h → AllAnswer (history_from done h)
unfolding history_from
after_all [] h is n i e = is n i e
after_all (d ∷ ds) h is n i e = after_all ds (after h d) (λ n i e. after_one d n i e (h.accounts n i e) (is n i e)) n i e

pub answers_are_to_questions : AnswersAreToQuestions
answers_are_to_questions = record { first = λ n i e. refl; later = after_all }
