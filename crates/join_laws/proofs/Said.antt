-- Where a letter that was given stands in the machine's list.
use Rattle.std.proofs.Common.{◌≡◌, ℕ, zero, suc, ◌+◌, ◌<◌, List, [], ◌∷◌, ◌++◌, length, refl, sym, ap, ◌∙◌, subst, Some, arith}
use Rattle.std.proofs.lemmas.Option.{none-some, same_Some}
use Rattle.std.specs.Prelude.{slice_get, take}
use Rattle.wire_base.specs.declared.pair.Pair.{Pair}
use Rattle.control_message.specs.declared.message.Message.{Message}
use Rattle.step_laws.specs.Letters as step
use Rattle.epoch_machine.specs.Letters.{Letter}
use Rattle.recovery_laws.specs.Queries.{said_in, first_of, rest_of, letters_in, weight, weigh}
use Rattle.recovery_laws.proofs.Weights.{said_weighs}

-- what is in the front of a list, and what is behind it
pub got_front : {X : Type 0} (xs ys : List X) (k : ℕ) (x : X) → slice_get xs k ≡ Some x → slice_get (xs ++ ys) k ≡ Some x
got_front [] ys k x is = absurd (none-some x is)
got_front (y ∷ xs) ys zero x is = is
got_front (y ∷ xs) ys (suc k) x is = got_front xs ys k x is

pub got_behind : {X : Type 0} (xs ys : List X) (j k : ℕ) → j ≡ length xs + k → slice_get (xs ++ ys) j ≡ slice_get ys k
got_behind [] ys j k is = ap (λ q. slice_get ys q) (omega (arith, is))
got_behind (y ∷ xs) ys zero k is = absurd (omega (arith, is))
got_behind (y ∷ xs) ys (suc j) k is = got_behind xs ys j k (omega (arith, is))

-- what a letter says is in the machine's list, behind what those before it say; `asked` is what it answers, where it is an answer
pub record SaysAt (n m : ℕ) (qs : List (List Pair)) (ls : List step.Letter) (place : ℕ) (l : step.Letter) : Type 0 where
  pub asked : List Pair
  pub at_place : (r : ℕ) (y : Letter) → slice_get (said_in n m asked l.session l.message) r ≡ Some y
      → slice_get (letters_in n m qs ls) (weigh (take place ls) + r) ≡ Some y

pub says_at : (n m : ℕ) (qs : List (List Pair)) (ls : List step.Letter) (place : ℕ) (l : step.Letter) → slice_get ls place ≡ Some l
    → SaysAt n m qs ls place l
says_at n m qs [] place l there = absurd (none-some l there)
says_at n m qs (x ∷ ls) zero l there =
    let same : x ≡ l = same_Some x l there in
    record {
      asked = first_of qs;
      at_place = λ r y is.
          ap (λ k. slice_get (said_in n m (first_of qs) x.session x.message ++ letters_in n m (rest_of x.message qs) ls) k) (omega arith)
          ∙ got_front (said_in n m (first_of qs) x.session x.message) (letters_in n m (rest_of x.message qs) ls) r y
          (subst (λ (q : step.Letter). slice_get (said_in n m (first_of qs) q.session q.message) r ≡ Some y) (sym same) is);
    }
says_at n m qs (x ∷ ls) (suc place) l there =
    let f = says_at n m (rest_of x.message qs) ls place l there in
    record {
      asked = f.asked;
      at_place = λ r y is.
          (let xs = said_in n m (first_of qs) x.session x.message in
          let weighs = said_weighs n m (first_of qs) x.session x.message in
          let sum : weigh (take (suc place) (x ∷ ls)) + r ≡ length xs + (weigh (take place ls) + r) = omega (arith, weighs) in
          got_behind xs (letters_in n m (rest_of x.message qs) ls) (weigh (take (suc place) (x ∷ ls)) + r) (weigh (take place ls) + r) sum
          ∙ f.at_place r y is);
    }

-- one that is one letter of the machine's, whatever it is asked for
pub says_one : (n m : ℕ) (qs : List (List Pair)) (ls : List step.Letter) (place : ℕ) (l : step.Letter) (y : Letter)
    → slice_get ls place ≡ Some l
    → ((asked : List Pair) → said_in n m asked l.session l.message ≡ y ∷ [])
    → slice_get (letters_in n m qs ls) (weigh (take place ls)) ≡ Some y
says_one n m qs ls place l y there one =
    let f = says_at n m qs ls place l there in
    let same : weigh (take place ls) ≡ weigh (take place ls) + 0 = omega arith in
    ap (λ k. slice_get (letters_in n m qs ls) k) same ∙ f.at_place 0 y (ap (λ q. slice_get q 0) (one f.asked))
