-- What the machine's list of a channel's letters becomes as the channel goes on.
use Rattle.std.proofs.Common.{◌≡◌, ℕ, zero, suc, ◌+◌, List, [], ◌∷◌, ◌++◌, length, refl, sym, ap, ◌∙◌, arith}
use Rattle.std.proofs.lemmas.Option.{none-some}
use Rattle.std.proofs.lemmas.List.{append_assoc, append-nil, take-append-le}
use Rattle.wire_base.specs.declared.pair.Pair.{Pair}
use Rattle.control_message.specs.declared.message.Message.{Message}
use Rattle.control_message.specs.declared.message.Message.TheVariants as message
use Rattle.step_laws.specs.Letters.{Letter}
use Rattle.epoch_machine.specs.Letters as machine
use Rattle.recovery_laws.specs.Queries.{said_in, first_of, rest_of, letters_in, weight, weigh}
use Rattle.recovery_laws.specs.Answered.{is_answer, answers_given}
use Rattle.recovery_laws.specs.Growing.{LettersGrow, AnswersGrow, TakenGrow, TakenStay, ChannelsGrow}

-- what is no answer says the same whatever it is asked for
same_said : (n peer : ℕ) (p q : List Pair) (header : ℕ) (m : Message) → is_answer m ≡ 0
    → said_in n peer p header m ≡ said_in n peer q header m
same_said n peer p q header (message.Fsq pairs) none = refl
same_said n peer p q header (message.Fsr answers) none = absurd (omega (arith, none))
same_said n peer p q header (message.Sccrq o) none = refl
same_said n peer p q header (message.Sccrp o) none = refl
same_said n peer p q header (message.Scccn response) none = refl
same_said n peer p q header (message.StopCcn tunnel result error) none = refl
same_said n peer p q header message.Hello none = refl
same_said n peer p q header (message.Ocrq session) none = refl
same_said n peer p q header message.Ocrp none = refl
same_said n peer p q header message.Occn none = refl
same_said n peer p q header message.Wen none = refl
same_said n peer p q header message.Sli none = refl
same_said n peer p q header (message.Icrq session serial calling) none = refl
same_said n peer p q header (message.Icrp session) none = refl
same_said n peer p q header (message.Iccn speed framing sequenced) none = refl
same_said n peer p q header (message.Cdn session result error) none = refl

letters_grow : LettersGrow
letters_grow n peer qs [] l none = append-nil (said_in n peer (first_of qs) l.session l.message) ∙ same_said n peer
    (first_of qs) [] l.session l.message none
letters_grow n peer qs (x ∷ ls) l none =
    ap (λ ys. said_in n peer (first_of qs) x.session x.message ++ ys) (letters_grow n peer (rest_of x.message qs) ls l none)
    ∙ sym (append_assoc (said_in n peer (first_of qs) x.session x.message) (letters_in n peer (rest_of x.message qs) ls)
    (said_in n peer [] l.session l.message))

-- the answer to the first question leaves the others
others_left : (m : Message) (qs : List (List Pair)) (q : List Pair) (more : ℕ) → is_answer m + more ≡ length qs
    → rest_of m (qs ++ q ∷ []) ≡ rest_of m qs ++ q ∷ []
others_left (message.Fsr answers) [] q more is = absurd (omega (arith, is))
others_left (message.Fsr answers) (p ∷ qs) q more is = refl
others_left (message.Fsq pairs) qs q more is = refl
others_left (message.Sccrq o) qs q more is = refl
others_left (message.Sccrp o) qs q more is = refl
others_left (message.Scccn response) qs q more is = refl
others_left (message.StopCcn tunnel result error) qs q more is = refl
others_left message.Hello qs q more is = refl
others_left (message.Ocrq session) qs q more is = refl
others_left message.Ocrp qs q more is = refl
others_left message.Occn qs q more is = refl
others_left message.Wen qs q more is = refl
others_left message.Sli qs q more is = refl
others_left (message.Icrq session serial calling) qs q more is = refl
others_left (message.Icrp session) qs q more is = refl
others_left (message.Iccn speed framing sequenced) qs q more is = refl
others_left (message.Cdn session result error) qs q more is = refl

count_left : (m : Message) (qs : List (List Pair)) (more : ℕ) → is_answer m + more ≡ length qs → more ≡ length (rest_of m qs)
count_left (message.Fsr answers) [] more is = absurd (omega (arith, is))
count_left (message.Fsr answers) (p ∷ qs) more is = omega (arith, is)
count_left (message.Fsq pairs) qs more is = omega (arith, is)
count_left (message.Sccrq o) qs more is = omega (arith, is)
count_left (message.Sccrp o) qs more is = omega (arith, is)
count_left (message.Scccn response) qs more is = omega (arith, is)
count_left (message.StopCcn tunnel result error) qs more is = omega (arith, is)
count_left message.Hello qs more is = omega (arith, is)
count_left (message.Ocrq session) qs more is = omega (arith, is)
count_left message.Ocrp qs more is = omega (arith, is)
count_left message.Occn qs more is = omega (arith, is)
count_left message.Wen qs more is = omega (arith, is)
count_left message.Sli qs more is = omega (arith, is)
count_left (message.Icrq session serial calling) qs more is = omega (arith, is)
count_left (message.Icrp session) qs more is = omega (arith, is)
count_left (message.Iccn speed framing sequenced) qs more is = omega (arith, is)
count_left (message.Cdn session result error) qs more is = omega (arith, is)

-- what a letter says stays as one more question comes
same_first : (n peer : ℕ) (header : ℕ) (m : Message) (qs : List (List Pair)) (q : List Pair) (more : ℕ) → is_answer m + more ≡ length qs
    → said_in n peer (first_of (qs ++ q ∷ [])) header m ≡ said_in n peer (first_of qs) header m
same_first n peer header m (p ∷ qs) q more is = refl
same_first n peer header (message.Fsr answers) [] q more is = absurd (omega (arith, is))
same_first n peer header (message.Fsq pairs) [] q more is = refl
same_first n peer header (message.Sccrq o) [] q more is = refl
same_first n peer header (message.Sccrp o) [] q more is = refl
same_first n peer header (message.Scccn response) [] q more is = refl
same_first n peer header (message.StopCcn tunnel result error) [] q more is = refl
same_first n peer header message.Hello [] q more is = refl
same_first n peer header (message.Ocrq session) [] q more is = refl
same_first n peer header message.Ocrp [] q more is = refl
same_first n peer header message.Occn [] q more is = refl
same_first n peer header message.Wen [] q more is = refl
same_first n peer header message.Sli [] q more is = refl
same_first n peer header (message.Icrq session serial calling) [] q more is = refl
same_first n peer header (message.Icrp session) [] q more is = refl
same_first n peer header (message.Iccn speed framing sequenced) [] q more is = refl
same_first n peer header (message.Cdn session result error) [] q more is = refl

answers_grow : AnswersGrow
answers_grow n peer [] q [] l all one = append-nil (said_in n peer q l.session l.message)
answers_grow n peer (p ∷ qs) q [] l all one = absurd (omega (arith, all))
answers_grow n peer qs q (x ∷ ls) l all one =
    ap (λ zs. zs ++ letters_in n peer (rest_of x.message (qs ++ q ∷ [])) (ls ++ l ∷ []))
    (same_first n peer x.session x.message qs q (answers_given ls) all)
    ∙ (ap (λ rest. first ++ letters_in n peer rest (ls ++ l ∷ [])) (others_left x.message qs q (answers_given ls) all)
    ∙ (ap (λ ys. first ++ ys) (answers_grow n peer (rest_of x.message qs) q ls l (count_left x.message qs (answers_given ls) all) one)
    ∙ sym (append_assoc first (letters_in n peer (rest_of x.message qs) ls) (said_in n peer q l.session l.message))))
  where
    first : List machine.Letter
    first = said_in n peer (first_of qs) x.session x.message

taken_grow : TakenGrow
taken_grow [] count l is = absurd (none-some l is)
taken_grow (x ∷ ls) zero l is = (let same : x ≡ l = cc in let weighs = ap (λ (y : Letter). weight y.message) same in omega (arith, weighs))
taken_grow (x ∷ ls) (suc count) l is = let more = taken_grow ls count l is in omega (arith, more)

taken_stay : TakenStay
taken_stay ls more count le = ap weigh (take-append-le count ls more le)

pub channels_grow : ChannelsGrow
channels_grow = record { letters = letters_grow; answers = answers_grow; taken = taken_grow; stay = taken_stay }
