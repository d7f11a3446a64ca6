use Rattle.std.proofs.Common.{rules, refl}
use Rattle.node_run.specs.Logs.{sunk}
use Rattle.node_run.proofs.Returning.{run_whole, run_short, run_ready, run_runs, run_cause, run_grows}
use Rattle.node_run.proofs.turns.node_serve.Goals as goal

pub returns-clause-running : goal.returns-clause-running
returns-clause-running g c = run_runs g.K.Sink.faults g.K.Sink.taken g.D.Disk.holds g.D.Disk.reach g.D.Disk.calls_left g.D.Disk.faults _ c.serve_opened.new.end c.end-1.given.0 c.serve_opened.new.end.disk.now c.serve_opened.new.end.counts.now c.serve_opened.new.end.log.now (search rules) (λ _. refl) (λ _. refl) (λ _. refl) _ _ _ _ _ _ _ _ _ _ c.args.opens c.args.turns c.serve_opened.result c.told.result c.told.ensures c.serve_opened.ensures.ok c.requires.running

pub returns-clause-room : goal.returns-clause-room
returns-clause-room g c = run_ready g.K.Sink.faults g.K.Sink.taken g.D.Disk.holds g.D.Disk.reach g.D.Disk.calls_left g.D.Disk.faults _ c.serve_opened.new.end c.end-1.given.0 c.disk-1.given.0 c.serve_opened.new.end.counts.now c.serve_opened.new.end.log.now (search rules) (search rules) (λ _. refl) (λ _. refl) _ _ _ _ _ _ _ _ _ _ c.args.opens c.args.turns c.serve_opened.result c.serve_opened.ensures.ok c.serve_opened.ensures.err c.serve_opened.ensures.ready

pub returns-clause-whole : goal.returns-clause-whole
returns-clause-whole g c = run_whole g.K.Sink.faults g.K.Sink.taken g.D.Disk.holds g.D.Disk.reach g.D.Disk.calls_left g.D.Disk.faults _ c.serve_opened.new.end _ _ _ _ (search rules) (search rules) (search rules) (search rules) _ _ _ _ _ _ _ _ _ _ c.args.opens c.args.turns c.serve_opened.result c.told.result c.told.ensures c.serve_opened.ensures.ok

pub returns-clause-short : goal.returns-clause-short
returns-clause-short g c = run_short g.K.Sink.faults g.K.Sink.taken g.D.Disk.holds g.D.Disk.reach g.D.Disk.calls_left g.D.Disk.faults _ c.serve_opened.new.end _ _ _ _ (search rules) (search rules) (search rules) (search rules) _ (g.R.Rng.stream c.args.rng.now) _ (g.C.Clock.gives c.args.clock.now) _ _ _ _ _ _ c.args.opens c.args.turns c.serve_opened.result c.told.result c.told.ensures c.serve_opened.ensures.err

pub returns-clause-cause : goal.returns-clause-cause
returns-clause-cause g c = run_cause g.K.Sink.faults g.K.Sink.taken g.D.Disk.holds g.D.Disk.reach g.D.Disk.calls_left g.D.Disk.faults _ c.serve_opened.new.end c.serve_opened.new.end.end.now _ c.serve_opened.new.end.counts.now c.serve_opened.new.end.log.now (λ _. refl) (search rules) (λ _. refl) (λ _. refl) _ _ _ _ _ _ _ _ _ _ c.args.opens c.args.turns c.serve_opened.result c.told.result _ _ _ _ _ _ c.told.ensures c.serve_opened.ensures.ok c.serve_opened.ensures.err c.requires.running c.serve_opened.ensures.cause

pub returns-clause-log : goal.returns-clause-log
returns-clause-log g c = run_grows g.K.Sink.faults g.K.Sink.taken g.D.Disk.holds g.D.Disk.reach g.D.Disk.calls_left g.D.Disk.faults _ c.serve_opened.new.end c.serve_opened.new.end.end.now c.serve_opened.new.end.disk.now c.serve_opened.new.end.counts.now c.log-1.given.0 (λ _. refl) (λ _. refl) (λ _. refl) (search rules) _ _ _ _ _ _ _ _ _ _ c.args.opens c.args.turns (sunk (g.K.Sink.faults c.args.log.now) (g.K.Sink.taken c.args.log.now)) c.serve_opened.result (search rules) c.serve_opened.ensures.ok c.serve_opened.ensures.err
