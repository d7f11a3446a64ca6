-- The pairs are asked for in order.
use Rattle.std.proofs.Common.{◌≡◌, ℕ, zero, suc, ◌+◌, ◌==◌, Bool, true, false, List, [], ◌∷◌, ◌++◌, length, take, Result, Ok, Err, refl, sym, ap, ◌∙◌, append_assoc, arith}
use Rattle.std.specs.Prelude.{nat_le}
use Rattle.std.proofs.lemmas.List.{append-nil}
use Rattle.std.proofs.lemmas.Bool.Decides.{nat_tests}
use Rattle.std.proofs.Math.Seq.{take-add}
use Rattle.wire_base.specs.declared.pair.Pair.{Pair}
use Rattle.session_query.specs.Queries.{Asking, new_query, left_of, batch_if, next_batch, with_batch, told_in, Use, Asks, Hears, heard, used, used_all, pairs_in, asked_by, asked_in, AreAskedInOrder}

-- the first of a list that are as many as its first few are these
take_few : (n : ℕ) (xs : List Pair) → take (length (take n xs)) xs ≡ take n xs
take_few zero xs = refl
take_few (suc n) [] = refl
take_few (suc n) (x ∷ xs) = ap (λ ys. x ∷ ys) (take_few n xs)

module _ (pairs : List Pair) where
  -- these were asked for, up to here
  abbrev Stands : Asking → List Pair → Type 0
  Stands q so = (q.pairs ≡ pairs) × (so ≡ take (q.done + q.asked) pairs)

  one_batch : (q : Asking) (so : List Pair) → Stands q so → (q.asked == 0) ≡ true → so ++ take 64 (left_of q) ≡ take (q.done + length (take 64 (left_of q))) pairs
  one_batch q so h is =
      let none : q.asked ≡ 0 = grind (arith, nat_tests) in
      let at : q.done + q.asked ≡ q.done = omega (arith, none) in
      let here : so ≡ take q.done q.pairs = h.1 ∙ (ap (λ n. take n pairs) at ∙ ap (take q.done) (sym h.0)) in
      let rest : take 64 (left_of q) ≡ take (length (take 64 (left_of q))) (left_of q) = sym (take_few 64 (left_of q)) in
      ap (λ xs. xs ++ take 64 (left_of q)) here
      ∙ (ap (λ xs. take q.done q.pairs ++ xs) rest
      ∙ (sym (take-add q.done (length (take 64 (left_of q))) q.pairs)
      ∙ ap (take (q.done + length (take 64 (left_of q)))) h.0))

  asks_more : (q : Asking) (so : List Pair) → Stands q so → (free over : Bool) → (q.asked == 0) ≡ free
      → Stands (with_batch q (batch_if free over (take 64 (left_of q)))) (so ++ pairs_in (batch_if free over (take 64 (left_of q))))
  asks_more q so h true false is = (h.0, one_batch q so h is)
  asks_more q so h true true is = (h.0, append-nil so ∙ h.1)
  asks_more q so h false over is = (h.0, append-nil so ∙ h.1)

  hears_more : (q : Asking) (so : List Pair) (told : Result (List Pair) ℕ) → Stands q so → Stands (heard q told) (so ++ [])
  hears_more q so (Ok gone) h = (h.0, append-nil so ∙ (h.1 ∙ (let at : q.done + q.asked ≡ (q.done + q.asked) + 0 = omega arith in ap (λ n. take n pairs) at)))
  hears_more q so (Err at) h = (h.0, append-nil so ∙ h.1)

  one_more : (q : Asking) (u : Use) (so : List Pair) → Stands q so → Stands (used q u) (so ++ asked_by q u)
  unfolding next_batch
  one_more q Asks so h = asks_more q so h (q.asked == 0) (nat_le (length q.pairs) q.done) refl
  one_more q (Hears answers) so h = hears_more q so (told_in q answers) h

  all : (q : Asking) (us : List Use) (so : List Pair) → Stands q so → Stands (used_all q us) (so ++ asked_in q us)
  all q [] so h = (h.0, append-nil so ∙ h.1)
  all q (u ∷ us) so h =
      let r = all (used q u) us (so ++ asked_by q u) (one_more q u so h) in
      (r.0, sym (append_assoc so (asked_by q u) (asked_in (used q u) us)) ∙ r.1)

pub in_order : AreAskedInOrder
in_order pairs us = (all pairs (new_query pairs) us [] (refl, refl)).1
