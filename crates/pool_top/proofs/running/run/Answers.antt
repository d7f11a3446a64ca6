use Rattle.node_run.specs.Logs.{sunk}
use Rattle.node_words.specs.Plans.{planned}
use Rattle.pool_top.proofs.Kept.{open_kept}
use Rattle.pool_top.proofs.Parts.{ran_so, blamed_behind}
use Rattle.pool_top.proofs.running.run.Goals as goal

pub give_and_run-requires-clause-stored : goal.give_and_run-requires-clause-stored
give_and_run-requires-clause-stored g c = λ κs ls. open_kept g.D.Disk.holds g.D.Disk.reach g.D.Disk.calls_left g.D.Disk.faults _ _ _ _ _ _ _ _ _ _ c.in-Ok.ensures.opened

pub returns-in-Ok-clause-ran : goal.returns-in-Ok-clause-ran
returns-in-Ok-clause-ran g c =
    ran_so g.D.Disk.holds g.D.Disk.reach g.D.Disk.calls_left g.D.Disk.faults (planned c.args.plan) c.give_and_run.result.ran c.args.disk c.open.new.disk c.give_and_run.result.disk
    (sunk (g.O.Sink.faults c.args.log.now) (g.O.Sink.taken c.args.log.now)) (sunk (g.O.Sink.faults c.open.new.log) (g.O.Sink.taken c.open.new.log)) _ _
    c.in-Ok.end c.in-Ok.outs c.config_of.result c.now-moment.result c.next_block-block.result _ _ c.config_of.ensures c.next_block-block.ensures c.now-moment.ensures.told c.now-moment.ensures.next
    c.in-Ok.ensures.opened c.give_and_run.ensures.ran

pub returns-in-Ok-clause-cause : goal.returns-in-Ok-clause-cause
returns-in-Ok-clause-cause g c = blamed_behind _ _ _ _ _ _ _ c.in-Ok.ensures.cause c.give_and_run.ensures.cause
