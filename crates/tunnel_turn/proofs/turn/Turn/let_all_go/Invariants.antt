use Rattle.std.proofs.Common.{◌≡◌}
use Rattle.end_model.specs.Sending.{lets_all_go}
use Rattle.tunnel_turn.proofs.turn.Turn.let_all_go.Given as goal

abbrev pub invariant-loop-most : goal.invariant-loop-most
invariant-loop-most l =
    lets_all_go l.most l.letters.letters l.self ≡ lets_all_go l.fn.self.control.channel.window.queued l.letters.letters l.fn.self

abbrev pub decreases-loop-most : goal.decreases-loop-most
decreases-loop-most l = l.most
