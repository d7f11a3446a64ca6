use Rattle.std.proofs.Common.{rules, refl}
use Rattle.node_run.specs.Logs.{sunk}
use Rattle.node_run.proofs.Returning.{turn_whole, turn_broke, turn_ready, turn_runs, turn_cause, turn_grows}
use Rattle.node_run.proofs.turns.node_turn.Goals as goal

pub returns-clause-room : goal.returns-clause-room
returns-clause-room g c = turn_ready g.K.Sink.faults g.K.Sink.taken g.D.Disk.holds g.D.Disk.reach g.D.Disk.calls_left g.D.Disk.faults _ c.turn.new.end c.end-1.given.0 c.disk-1.given.0 c.turn.new.end.counts.now c.turn.new.end.log.now (search rules) (search rules) (λ _. refl) (λ _. refl) _ _ _ _ _ _ _ _ _ c.turn.result c.turn.ensures.whole c.turn.ensures.broke c.turn.ensures.ready

pub returns-clause-whole : goal.returns-clause-whole
returns-clause-whole g c = turn_whole g.K.Sink.faults g.K.Sink.taken g.D.Disk.holds g.D.Disk.reach g.D.Disk.calls_left g.D.Disk.faults _ c.turn.new.end _ _ _ _ (search rules) (search rules) (search rules) (search rules) _ _ _ _ _ _ _ _ _ c.turn.result c.told.result c.told.ensures c.turn.ensures.whole

pub returns-clause-broke : goal.returns-clause-broke
returns-clause-broke g c = turn_broke g.K.Sink.faults g.K.Sink.taken g.D.Disk.holds g.D.Disk.reach g.D.Disk.calls_left g.D.Disk.faults _ c.turn.new.end _ _ _ _ (search rules) (search rules) (search rules) (search rules) _ (g.R.Rng.stream c.args.rng.now) _ _ _ _ _ _ _ c.turn.result c.told.result c.told.ensures c.turn.ensures.broke

pub returns-clause-cause : goal.returns-clause-cause
returns-clause-cause g c = turn_cause g.K.Sink.faults g.K.Sink.taken g.D.Disk.holds g.D.Disk.reach g.D.Disk.calls_left g.D.Disk.faults _ c.turn.new.end c.turn.new.end.end.now _ c.turn.new.end.counts.now c.turn.new.end.log.now (λ _. refl) (search rules) (λ _. refl) (λ _. refl) _ _ _ _ _ _ _ _ _ c.turn.result c.told.result _ _ _ _ _ _ c.told.ensures c.turn.ensures.whole c.turn.ensures.broke c.requires.running c.turn.ensures.cause

pub returns-clause-running : goal.returns-clause-running
returns-clause-running g c = turn_runs g.K.Sink.faults g.K.Sink.taken g.D.Disk.holds g.D.Disk.reach g.D.Disk.calls_left g.D.Disk.faults _ c.turn.new.end c.end-1.given.0 c.turn.new.end.disk.now c.turn.new.end.counts.now c.turn.new.end.log.now (search rules) (λ _. refl) (λ _. refl) (λ _. refl) _ _ _ _ _ _ _ _ _ c.turn.result c.told.result c.told.ensures c.turn.ensures.whole c.requires.running

pub returns-clause-log : goal.returns-clause-log
returns-clause-log g c = turn_grows g.K.Sink.faults g.K.Sink.taken g.D.Disk.holds g.D.Disk.reach g.D.Disk.calls_left g.D.Disk.faults _ c.turn.new.end c.turn.new.end.end.now c.turn.new.end.disk.now c.turn.new.end.counts.now c.log-1.given.0 (λ _. refl) (λ _. refl) (λ _. refl) (search rules) _ _ _ _ _ _ _ _ _ (sunk (g.K.Sink.faults c.args.log.now) (g.K.Sink.taken c.args.log.now)) c.turn.result (search rules) c.turn.ensures.whole c.turn.ensures.broke
