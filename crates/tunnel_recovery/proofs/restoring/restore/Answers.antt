use Rattle.tunnel_recovery.proofs.Restored.{restored_through}
use Rattle.tunnel_recovery.proofs.restoring.restore.Goals as goal

pub returns : goal.returns
returns c =
    restored_through c.args.role c.args.config.now c.args.calls.now c.args.tunnel.now c.args.local c.args.draw c.in_ok-recovery.recovery
    c.args.turn.now c.keep_calls.new.turn c.tell_restored.new.turn c.attempt.new.turn c.open_links.new.turn
    c.in_ok-keep_calls.ensures c.in_ok-tell_restored.ensures c.in_ok-recovery.ensures c.in_ok-open_links.ensures
