use Rattle.std.proofs.Common.{◌≡◌, length}
use Rattle.node_notes.specs.Notes.{causes_of}
use Rattle.node_notes.proofs.causes.first_cause.Given as goal

abbrev pub invariant-loop-first : goal.invariant-loop-first
invariant-loop-first l = causes_of l.left ≡ causes_of l.outputs

abbrev pub decreases-loop-first : goal.decreases-loop-first
decreases-loop-first l = length l.left
