use Rattle.std.proofs.Common.{◌≡◌, ◌≤◌, ◌++◌, length}
use Rattle.std.specs.Vec.Iter.{into_iter_items}
use Rattle.tunnel_core.proofs.planning.give_all.Given as goal

abbrev pub invariant-loop-letter : goal.invariant-loop-letter
invariant-loop-letter l =
    (goal.iterator-loop-letter).can_next l.letter-iterator ×
    (goal.iterator-loop-letter).is_finite l.letter-iterator ×
    (l.letters.letters ++ into_iter_items l.letter-iterator ≡ l.fn.letters.letters ++ l.fn.given) ×
    (length (into_iter_items l.letter-iterator) ≤ l.letters.spare)
