-- What is taken counts on: only the number that is expected is taken.
use Rattle.std.proofs.Common.{◌≡◌, ℕ, ◌+◌, arith, rules, Bool, true, false, if◌then◌else◌, List, [], ◌∷◌, refl, ap}
use Rattle.recv_window.specs.Window.{Inbox, IsNear, AreNear, CountsOn, CountHasNoEnd, ClassIsTrue, TakenInOrder, takes, one_further, after_arrivals, numbers_taken, counting_from}

only_next : (n : ℕ) (i : Inbox) → IsNear n i → takes n i ≡ true → n ≡ i.taken
only_next n i near is = grind (arith, rules)

one_more : (n first : ℕ) (ns : List ℕ) (last : ℕ) → n ≡ first → CountsOn ns (first + 1) last → CountsOn (n ∷ ns) first last
unfolding counting_from
one_more n first ns last e h = record { in_order = rw e (ap (λ ms. first ∷ ms) h.in_order); counted = omega (arith, h.counted) }

arrives : (n : ℕ) (ns : List ℕ) (i : Inbox) (is : Bool) → (is ≡ true → n ≡ i.taken)
    → ((j : Inbox) → AreNear ns j → CountsOn (numbers_taken ns j) j.taken (after_arrivals ns j).taken)
    → AreNear ns (if is then one_further i else i)
    → CountsOn (if is then n ∷ numbers_taken ns (if is then one_further i else i) else numbers_taken ns (if is then one_further i else i)) i.taken (after_arrivals ns (if is then one_further i else i)).taken
arrives n ns i true only rest near = one_more n i.taken (numbers_taken ns (one_further i)) _ (only refl) (rest (one_further i) near)
arrives n ns i false only rest near = rest i near

pub taken_in_order : TakenInOrder
unfolding AreNear numbers_taken after_arrivals counting_from
taken_in_order [] i near = record { in_order = refl; counted = omega arith }
taken_in_order (n ∷ ns) i near = arrives n ns i (takes n i) (only_next n i near.0) (λ j. taken_in_order ns j) near.1

pub count_has_no_end : CountHasNoEnd
count_has_no_end i = record { class = λ ns. grind (arith, rules); count = grind (arith, rules) }

pub class_is_true : ClassIsTrue
class_is_true n i near = grind (arith, rules)
