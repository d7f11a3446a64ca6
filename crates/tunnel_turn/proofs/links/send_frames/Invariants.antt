use Rattle.std.proofs.Common.{◌≡◌, true, drop}
use Rattle.end_model.specs.Calls.{counted_all}
use Rattle.end_model.specs.Linking.{sends_frames}
use Rattle.tunnel_calls.specs.Replays.{replays}
use Rattle.tunnel_turn.proofs.links.send_frames.Given as goal

abbrev pub invariant-loop-frame : goal.invariant-loop-frame
invariant-loop-frame l =
    (sends_frames l.session (drop l.frame-index l.frames) l.call l.turn ≡ sends_frames l.session l.frames l.fn.call l.fn.turn)
    × (counted_all (drop l.frame-index l.frames) l.call ≡ counted_all l.frames l.fn.call)
    × (replays l.call ≡ true)
