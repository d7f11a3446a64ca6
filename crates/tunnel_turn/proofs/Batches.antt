-- A batch of a query has room in a message, and as many answers as were asked for.
use Rattle.std.proofs.Common.{◌≡◌, ℕ, ◌≤◌, Bool, true, false, List, [], ◌∷◌, length, take, Some, refl, ap, sym, arith}
use Rattle.std.proofs.lemmas.List.{length-take}
use Rattle.wire_base.specs.declared.pair.Pair.{Pair}
use Rattle.session_query.specs.Queries.{Asking, left_of, batch_if, next_batch, answers_to}

few_by : (free over : Bool) (xs b : List Pair) → batch_if free over (take 64 xs) ≡ Some b → length b ≤ 4094
few_by true false xs b is = let same : take 64 xs ≡ b = cc in omega (arith, ap length (sym same), length-take 64 xs)
few_by true true xs b is = absurd cc
few_by false over xs b is = absurd cc

pub few_asked : (q : Asking) (b : List Pair) → next_batch q ≡ Some b → length b ≤ 4094
unfolding next_batch
few_asked q b is = few_by _ _ (left_of q) b is

pub as_many : (here asked : List Pair) → length (answers_to here asked) ≡ length asked
as_many here [] = refl
as_many here (q ∷ qs) = let h = as_many here qs in omega arith
