use Rattle.std.proofs.Common.{◌≡◌}
use Rattle.std.specs.Vec.Iter.{into_iter_items}
use Rattle.end_model.specs.Events.{with_calls}
use Rattle.tunnel_core.specs.Cores.{AllHaveRoom}
use Rattle.tunnel_turn.specs.Changes.{AllCallsReplay}
use Rattle.tunnel_core.proofs.planning.put_all.Given as goal

abbrev pub invariant-loop-session : goal.invariant-loop-session
invariant-loop-session l =
    (goal.iterator-loop-session).can_next l.session-iterator ×
    (goal.iterator-loop-session).is_finite l.session-iterator ×
    (with_calls (into_iter_items l.session-iterator) l.calls.entries ≡ with_calls l.fn.changed l.fn.calls.entries) ×
    AllHaveRoom l.calls (into_iter_items l.session-iterator) ×
    AllCallsReplay (into_iter_items l.session-iterator)
