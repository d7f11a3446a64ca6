use Rattle.std.proofs.Common.{◌≡◌, ◌≤◌, length, ◌++◌, drop}
use Rattle.std.specs.List.{flat_map}
use Rattle.node_notes.specs.Notes.{notes_by, causes_of}
use Rattle.node_notes.specs.Texts.{note_text}
use Rattle.node_notes.proofs.texts.push_notes.Given as goal

abbrev pub invariant-loop-step : goal.invariant-loop-step
invariant-loop-step l =
    (l.out ++ flat_map note_text (notes_by (causes_of l.left) (drop l.step-index l.moves))
    ≡ l.initial.out ++ flat_map note_text (notes_by (causes_of l.outputs) l.moves))
    × (length (flat_map note_text (notes_by (causes_of l.left) (drop l.step-index l.moves)))
    ≤ length (flat_map note_text (notes_by (causes_of l.outputs) l.moves)))
