use Rattle.std.proofs.Common.{◌≡◌, ◌≤◌, length, ◌++◌, drop}
use Rattle.std.specs.List.{flat_map}
use Rattle.node_notes.specs.Notes.{missing}
use Rattle.node_notes.specs.Texts.{note_text}
use Rattle.node_notes.proofs.texts.push_missing.Given as goal

abbrev pub invariant-loop-call : goal.invariant-loop-call
invariant-loop-call l =
    (l.out ++ flat_map note_text (missing l.tunnel (drop l.call-index l.calls)) ≡ l.initial.out ++ flat_map note_text (missing l.tunnel l.calls))
    × (length (flat_map note_text (missing l.tunnel (drop l.call-index l.calls))) ≤ length (flat_map note_text (missing l.tunnel l.calls)))
