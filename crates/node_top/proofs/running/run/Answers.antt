use Rattle.std.proofs.Common.{inr}
use Rattle.node_run.specs.Logs.{sunk}
use Rattle.node_words.specs.Plans.{planned}
use Rattle.node_top.proofs.Parts.{ran_so, broke_so}
use Rattle.node_top.proofs.running.run.Goals as goal

pub returns-clause-ran : goal.returns-clause-ran
returns-clause-ran g c =
    ran_so g.D.Disk.holds g.D.Disk.reach g.D.Disk.calls_left g.D.Disk.faults (planned c.args.plan) c.give_and_serve.new.counts c.args.disk.now c.open.new.disk c.give_and_serve.new.disk
    (sunk (g.O.Sink.faults c.args.log.now) (g.O.Sink.taken c.args.log.now)) (sunk (g.O.Sink.faults c.open.new.log) (g.O.Sink.taken c.open.new.log)) (sunk (g.O.Sink.faults c.give_and_serve.new.log) (g.O.Sink.taken c.give_and_serve.new.log)) _ _
    c.in-Ok.end c.give_and_serve.new.end c.in-Ok.outs c.config_of.result c.now-moment.result c.next_block-block.result _ _ c.started_counts-counts.result c.started_counts-counts.ensures c.config_of.ensures c.next_block-block.ensures c.now-moment.ensures.told c.now-moment.ensures.next
    c.in-Ok.ensures.opened c.in-Ok-give_and_serve.ensures.served

pub returns-in-Err-give_and_serve-clause-ran : goal.returns-in-Err-give_and_serve-clause-ran
returns-in-Err-give_and_serve-clause-ran g c =
    inr (broke_so g.D.Disk.holds g.D.Disk.reach g.D.Disk.calls_left g.D.Disk.faults (planned c.args.plan) c.in-Err-give_and_serve.exit c.give_and_serve.new.counts c.args.disk.now c.open.new.disk c.give_and_serve.new.disk
    (sunk (g.O.Sink.faults c.args.log.now) (g.O.Sink.taken c.args.log.now)) (sunk (g.O.Sink.faults c.open.new.log) (g.O.Sink.taken c.open.new.log)) (sunk (g.O.Sink.faults c.give_and_serve.new.log) (g.O.Sink.taken c.give_and_serve.new.log)) _ _
    c.in-Ok.end c.give_and_serve.new.end c.in-Ok.outs c.config_of.result c.now-moment.result c.next_block-block.result _ _ c.started_counts-counts.result c.started_counts-counts.ensures c.config_of.ensures c.next_block-block.ensures c.now-moment.ensures.told c.now-moment.ensures.next
    c.in-Ok.ensures.opened c.in-Err-give_and_serve.ensures.short)

pub returns-in-Err-give_and_serve-clause-grows : goal.returns-in-Err-give_and_serve-clause-grows
returns-in-Err-give_and_serve-clause-grows g c = c.logs_grow.ensures.then (sunk (g.O.Sink.faults c.args.log.now) (g.O.Sink.taken c.args.log.now)) (sunk (g.O.Sink.faults c.open.new.log) (g.O.Sink.taken c.open.new.log)) (sunk (g.O.Sink.faults c.give_and_serve.new.log) (g.O.Sink.taken c.give_and_serve.new.log)) c.open.ensures.log c.give_and_serve.ensures.grows

pub returns-clause-grows : goal.returns-clause-grows
returns-clause-grows g c = c.logs_grow.ensures.then (sunk (g.O.Sink.faults c.args.log.now) (g.O.Sink.taken c.args.log.now)) (sunk (g.O.Sink.faults c.open.new.log) (g.O.Sink.taken c.open.new.log)) (sunk (g.O.Sink.faults c.give_and_serve.new.log) (g.O.Sink.taken c.give_and_serve.new.log)) c.open.ensures.log c.give_and_serve.ensures.grows
