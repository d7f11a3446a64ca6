-- What an end asks of its sessions, and what is answered.
use Rattle.std.specs.Prelude.{ℕ, ◌+◌, ◌≡◌, ◌<◌, ◌==◌, ◌&&◌, ◌||◌, Bool, true, false, nat_le, if◌then◌else◌, List, [], ◌∷◌, ◌++◌, length, take, drop, slice_get, Option, Some, None, Result, Ok, Err}
use Rattle.std.specs.List.{list_any}
use Rattle.wire_base.specs.declared.pair.Pair.{Pair}

-- the sessions to ask for, of how many it is known whether they are there, and of how many more it is asked
pub record Asking : Type 0 where
  pub pairs : List Pair
  pub done : ℕ
  pub asked : ℕ

abbrev pub new_query : List Pair → Asking
new_query pairs = record { pairs = pairs; done = 0; asked = 0 }

-- what isn't answered, nor asked for
abbrev pub left_of : Asking → List Pair
left_of q = drop q.done q.pairs

-- what is asked for, and not answered
abbrev pub unanswered : Asking → List Pair
unanswered q = take q.asked (left_of q)

-- the next batch, where nothing is unanswered and something is left
abbrev pub batch_if : Bool → Bool → List Pair → Option (List Pair)
batch_if true false pairs = Some pairs
batch_if free over pairs = None

unfoldable pub next_batch : Asking → Option (List Pair)
next_batch q = batch_if (q.asked == 0) (nat_le (length q.pairs) q.done) (take 64 (left_of q))

abbrev pub with_batch : Asking → Option (List Pair) → Asking
with_batch q None = q
with_batch q (Some pairs) = record q { asked = length pairs }

-- ---- answers

-- an answer is one to a pair: it names the receiver's session as the pair named the sender's, and its own, or says with 0 that it
-- isn't there
abbrev pub agrees : Pair → Pair → Bool
agrees asked answer = answer.receiver == asked.sender && (answer.sender == asked.receiver || answer.sender == 0)

-- the first place, counted from one, at which answers aren't those to what was asked for
abbrev pub difference : List Pair → List Pair → ℕ → Option ℕ
difference [] [] at = None
difference [] (a ∷ bs) at = Some at
difference (q ∷ qs) [] at = Some at
difference (q ∷ qs) (a ∷ bs) at = if agrees q a then difference qs bs (at + 1) else Some at

-- what was asked for and isn't there
abbrev pub gone_if : Bool → Pair → List Pair → List Pair
gone_if gone q qs = if gone then q ∷ qs else qs

abbrev pub gone_in : List Pair → List Pair → List Pair
gone_in [] bs = []
gone_in (q ∷ qs) [] = []
gone_in (q ∷ qs) (a ∷ bs) = gone_if (a.sender == 0) q (gone_in qs bs)

-- whether places of two lists agree; where both end, they do
abbrev pub place_agrees : Option Pair → Option Pair → Bool
place_agrees None None = true
place_agrees (Some q) (Some a) = agrees q a
place_agrees q a = false

-- all places before this one agree, and this one doesn't
pub record IsFirst (asked answers : List Pair) (at : ℕ) : Type 0 where
  pub here : place_agrees (slice_get asked at) (slice_get answers at) ≡ false
  pub before : (k : ℕ) → k < at → place_agrees (slice_get asked k) (slice_get answers k) ≡ true

abbrev pub told_by : List Pair → List Pair → Option ℕ → Result (List Pair) ℕ
told_by asked answers (Some at) = Err at
told_by asked answers None = Ok (gone_in asked answers)

-- what an answer tells: which sessions are gone, or where it isn't an answer to what was asked for
unfoldable pub told_in : Asking → List Pair → Result (List Pair) ℕ
told_in q answers = if q.asked == 0 then Err 0 else told_by (unanswered q) answers (difference (unanswered q) answers 0)

abbrev pub answered : Asking → Asking
answered q = record q { done = q.done + q.asked; asked = 0 }

abbrev pub is_complete : Asking → Bool
is_complete q = nat_le (length q.pairs) q.done

-- ---- answering

-- a session is one of those that are here, by the ids that the other end asks for
abbrev pub is_pair : Pair → Pair → Bool
is_pair asked p = p.sender == asked.receiver && p.receiver == asked.sender

abbrev pub is_here : List Pair → Pair → Bool
is_here here asked = list_any (λ p. is_pair asked p) here

abbrev pub answer_to : List Pair → Pair → Pair
answer_to here asked = record { sender = (if is_here here asked then asked.receiver else 0); receiver = asked.sender }

abbrev pub answers_to : List Pair → List Pair → List Pair
answers_to here [] = []
answers_to here (q ∷ qs) = answer_to here q ∷ answers_to here qs

-- ---- uses

-- what an end does with a query
pub data Use : Type 0 where
  Asks : Use
  Hears : (answers : List Pair) → Use

abbrev pub heard : Asking → Result (List Pair) ℕ → Asking
heard q (Ok gone) = answered q
heard q (Err at) = q

abbrev pub used : Asking → Use → Asking
used q Asks = with_batch q (next_batch q)
used q (Hears answers) = heard q (told_in q answers)

abbrev pub used_all : Asking → List Use → Asking
used_all q [] = q
used_all q (u ∷ us) = used_all (used q u) us

-- the pairs that it asks for
abbrev pub pairs_in : Option (List Pair) → List Pair
pairs_in None = []
pairs_in (Some pairs) = pairs

abbrev pub asked_by : Asking → Use → List Pair
asked_by q Asks = pairs_in (next_batch q)
asked_by q (Hears answers) = []

abbrev pub asked_in : Asking → List Use → List Pair
asked_in q [] = []
asked_in q (u ∷ us) = asked_by q u ++ asked_in (used q u) us

-- over whatever is asked and heard, the pairs that were asked for are the first ones of the query, each once and in order
abbrev pub AreAskedInOrder : Type 0
AreAskedInOrder = (pairs : List Pair) (uses : List Use) →
    let q = used_all (new_query pairs) uses in
    asked_in (new_query pairs) uses ≡ take (q.done + q.asked) pairs
