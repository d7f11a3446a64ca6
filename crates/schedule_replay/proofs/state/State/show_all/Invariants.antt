use Rattle.std.proofs.Common.{◌≡◌, ◌++◌}
use Rattle.std.specs.Vec.Iter.{into_iter_items}
use Rattle.world_model.specs.Texts.{entries_text}
use Rattle.world_model.specs.World.{shown_all, entries_of}
use Rattle.schedule_replay.specs.Counting.{ups_after}
use Rattle.schedule_replay.proofs.state.State.show_all.Given as goal

abbrev pub invariant-loop-out : goal.invariant-loop-out
invariant-loop-out l =
    (goal.iterator-loop-out).can_next l.out-iterator ×
    (goal.iterator-loop-out).is_finite l.out-iterator ×
    (shown_all l.node (into_iter_items l.out-iterator) l.self.world ≡ shown_all l.node l.fn.outputs l.fn.self.world) ×
    (l.self.report ++ entries_text (entries_of l.line l.node (into_iter_items l.out-iterator) l.self.world) ≡ l.fn.self.report ++ entries_text (entries_of l.line l.node l.fn.outputs l.fn.self.world)) ×
    (ups_after l.self.ups (entries_of l.line l.node (into_iter_items l.out-iterator) l.self.world) ≡ ups_after l.fn.self.ups (entries_of l.line l.node l.fn.outputs l.fn.self.world))
