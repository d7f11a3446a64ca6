-- Tallies of one list behind another.
use Rattle.std.proofs.Common.{◌≡◌, ℕ, ◌+◌, List, [], ◌∷◌, ◌++◌, length, length-append, refl, arith}
use Rattle.session_workers.specs.Lists.{total}
use Rattle.session_workers.specs.declared.finished.Finished.{Finished}
use Rattle.worker_pool.specs.declared.tally.Tally.{Tally}
use Rattle.worker_pool.specs.Tallies.{capped, up_of, dropped_of, tally_of, counted, added}

total_append : {V : Type 0} (f : V → ℕ) (xs ys : List V) → total f (xs ++ ys) ≡ total f xs + total f ys
total_append f [] ys = omega arith
total_append f (x ∷ xs) ys = let ih = total_append f xs ys in omega arith

capped_sum : (a b c d : ℕ) → c ≡ capped a → d ≡ a + b → capped (c + b) ≡ capped d
capped_sum a b c d is sum = omega arith

same_tally : (a b c x y z : ℕ) (t : Tally) → t ≡ record { taken = a; up = b; dropped = c } → a ≡ x → b ≡ y → c ≡ z → t ≡ record { taken = x; up = y; dropped = z }
same_tally a b c x y z t is e f g = cc

-- one item more
pub tally_more : (fs : List Finished) (f : Finished) → counted (tally_of fs) f ≡ tally_of (fs ++ f ∷ [])
tally_more fs f =
    let both = fs ++ f ∷ [] in
    same_tally _ _ _ _ _ _ (counted (tally_of fs) f) refl
    (capped_sum (length fs) 1 (capped (length fs)) (length both) refl (length-append fs (f ∷ [])))
    (capped_sum (total up_of fs) (up_of f) (capped (total up_of fs)) (total up_of both) refl (let e = total_append up_of fs (f ∷ []) in omega arith))
    (capped_sum (total dropped_of fs) (dropped_of f) (capped (total dropped_of fs)) (total dropped_of both) refl (let e = total_append dropped_of fs (f ∷ []) in omega arith))

pub capped_two : (a b c d e : ℕ) → c ≡ capped a → d ≡ capped b → e ≡ a + b → capped (c + d) ≡ capped e
capped_two a b c d e is too sum = omega arith

-- two lists
pub tally_both : (fs gs : List Finished) → added (tally_of fs) (tally_of gs) ≡ tally_of (fs ++ gs)
tally_both fs gs =
    same_tally _ _ _ _ _ _ (added (tally_of fs) (tally_of gs)) refl
    (capped_two (length fs) (length gs) (capped (length fs)) (capped (length gs)) (length (fs ++ gs)) refl refl (length-append fs gs))
    (capped_two (total up_of fs) (total up_of gs) (capped (total up_of fs)) (capped (total up_of gs)) (total up_of (fs ++ gs)) refl refl (total_append up_of fs gs))
    (capped_two (total dropped_of fs) (total dropped_of gs) (capped (total dropped_of fs)) (capped (total dropped_of gs)) (total dropped_of (fs ++ gs)) refl refl (total_append dropped_of fs gs))
