use Rattle.std.proofs.Common.{◌≤◌, ◌-◌, ◌++◌, take, get_or, [], ℕ, List, ap, arith, subst}
use Rattle.std.proofs.lemmas.List.{take_all}
use Rattle.checkpoint_journal.specs.State.{State, HasContents, FindsBeforeOrAfter}
use Rattle.checkpoint_journal.proofs.Several.{stopped, finds_none, finds_all, stopped_records}
use Rattle.checkpoint_journal.proofs.journal.Journal.commit_all.Goals as goal

pub returns-then-is_halted-clause-crash : goal.returns-then-is_halted-clause-crash
returns-then-is_halted-clause-crash g c before is =
    finds_none c.args.self.now before c.args.contents.now (c.args.self.now.records - c.args.self.now.records) (g.D.Disk.holds c.args.disk.now) (omega arith) is

pub returns-in_err-commit-clause-crash : goal.returns-in_err-commit-clause-crash
returns-in_err-commit-clause-crash g c before is =
    let inv = c.loop-content.invariant in
    let so_far = before ++ take c.loop-content.content-index c.args.contents.now in
    let same = stopped_records (Unit {0}) _ _ _ _ _ c.in_err-commit.ensures.cause in
    let records = ap (λ (s : State). s.records) inv.state in
    let least : c.commit.new.self.records - c.args.self.now.records ≤ c.loop-content.content-index = omega arith in
    stopped before c.args.contents.now c.loop-content.content-index c.loop-content-test.true c.args.self.now
    (c.commit.new.self.records - c.args.self.now.records) (g.D.Disk.holds c.commit.new.disk) least
    (subst (λ (s : State). FindsBeforeOrAfter s so_far (get_or c.args.contents.now c.loop-content.content-index []) (g.D.Disk.holds c.commit.new.disk)) inv.state
    (c.commit.ensures.crash so_far (inv.so_far before is)))

pub returns-clause-crash : goal.returns-clause-crash
returns-clause-crash g c before is =
    let inv = c.loop-content.invariant in
    let i = c.loop-content.content-index in
    let all = take_all i c.args.contents.now (omega arith) in
    let records = ap (λ (s : State). s.records) inv.state in
    finds_all c.args.self.now before c.args.contents.now i (c.loop-content.self.records - c.args.self.now.records) (g.D.Disk.holds c.loop-content.disk) (omega arith)
    (subst (λ (s : State). HasContents s (before ++ c.args.contents.now) (g.D.Disk.holds c.loop-content.disk)) inv.state
    (subst (λ (l : List (List ℕ)). HasContents c.loop-content.self (before ++ l) (g.D.Disk.holds c.loop-content.disk)) all (inv.so_far before is)))
