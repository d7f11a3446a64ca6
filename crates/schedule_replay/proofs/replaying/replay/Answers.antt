use Rattle.std.proofs.Common.{◌≡◌, ℕ, ◌+◌, ◌++◌, List, ◌∙◌, ap, sym, subst, Option}
use Rattle.std.specs.Prelude.{IfOk}
use Rattle.world_model.specs.declared.refusal.Refusal.{Refusal}
use Rattle.world_model.specs.Run.{run, refusal_text}
use Rattle.schedule_replay.specs.Fault.{Told}
use Rattle.schedule_replay.proofs.Runs.{run_goes_on, report_stays, report_stopped, fault_stopped, report_whole, fault_whole}
use Rattle.schedule_replay.proofs.replaying.replay.Goals as goal

pub returns-in-Err-Refused-clause-report : goal.returns-in-Err-Refused-clause-report
returns-in-Err-Refused-clause-report c =
    let said = rw c.in-Err-Refused.field-0-is at c.in-Err-Refused.ensures in
    let stopped = report_stopped (run c.args.lines.now) c.args.lines.now c.loop-i.i c.loop-i.world.told c.loop-i.invariant c.index-lines-i.result c.in-Err-Refused.refusal c.loop-i-test.true c.index-lines-i.is said.1 in
    let same = ap (λ (t : List ℕ). t ++ refusal_text (c.loop-i.i + 1) c.in-Err-Refused.refusal) (report_stays c.in-Err-Refused.refusal _ _ said.2) in
    subst (λ (t : List ℕ). IfOk c.report_refusal.result (λ r. r.report ≡ t)) (same ∙ sym stopped) (rw c.in-Err-Refused.refusal-is at c.report_refusal.ensures.report)

pub returns-in-Err-Refused-clause-fault : goal.returns-in-Err-Refused-clause-fault
returns-in-Err-Refused-clause-fault c =
    let said = rw c.in-Err-Refused.field-0-is at c.in-Err-Refused.ensures in
    let stopped = fault_stopped (run c.args.lines.now) c.args.lines.now c.loop-i.i c.loop-i.world.told c.loop-i.invariant c.index-lines-i.result c.in-Err-Refused.refusal c.loop-i-test.true c.index-lines-i.is said.1 in
    subst (λ (f : Option (ℕ × Refusal)). IfOk c.report_refusal.result (λ r. r.fault ≡ f)) (sym stopped) (rw c.in-Err-Refused.refusal-is at c.report_refusal.ensures.fault)

pub loop-i-preserved : goal.loop-i-preserved
loop-i-preserved c = let e = c.in-Ok.ensures in run_goes_on (run c.args.lines.now) c.args.lines.now c.loop-i.i c.loop-i.world.told c.loop-i.invariant c.index-lines-i.result c.line.new.self.told c.loop-i-test.true c.index-lines-i.is e.1

pub returns-clause-report : goal.returns-clause-report
returns-clause-report c =
    let whole = report_whole (run c.args.lines.now) c.args.lines.now c.loop-i.i c.loop-i.world.told c.loop-i.invariant c.loop-i-test.false in
    let done = c.in_ok-finish.ensures in
    c.into_report.ensures ∙ ap (λ (t : Told). t.report) done.1 ∙ sym whole

pub returns-clause-fault : goal.returns-clause-fault
returns-clause-fault c = sym (fault_whole (run c.args.lines.now) c.args.lines.now c.loop-i.i c.loop-i.world.told c.loop-i.invariant c.loop-i-test.false)
