use Rattle.std.proofs.Common.{drop, ◌+◌, ◌∙◌}
use Rattle.std.proofs.lemmas.List.{drop_more}
use Rattle.end_core.proofs.Returning.{next_restored}
use Rattle.end_core.proofs.end.End.restore_all.Goals as goal

pub loop-tunnel-preserved : goal.loop-tunnel-preserved
loop-tunnel-preserved c =
    let n = c.loop-tunnel.tunnel-index in
    let ts = c.args.tunnels.now in (
      c.in_ok-restore.ensures.role ∙ c.loop-tunnel.invariant.0,
      λ k are. next_restored k c.args.moment c.args.block _ (drop n ts) (drop (n + 1) ts) ts
          (record { end = c.loop-tunnel.self; outputs = c.loop-tunnel.given.outputs; moves = c.loop-tunnel.given.moves })
          (record { end = c.restore.new.self; outputs = c.restore.new.given.outputs; moves = c.restore.new.given.moves })
          (record { end = c.args.self.now; outputs = c.args.given.now.outputs; moves = c.args.given.now.moves })
          c.calls_of_tunnel-calls.result.now (drop_more ts n _ c.loop-tunnel-test.true) (c.calls_of_tunnel-calls.ensures ∙ are _) c.in_ok-restore.ensures.restored (c.loop-tunnel.invariant.1 k are),
    )
