use Rattle.std.proofs.Common.{◌≡◌, ◌-◌, true, ℕ, List, length, ap, arith, sym, ◌∙◌}
use Rattle.std.proofs.lemmas.Result.{err_from_is_err_and}
use Rattle.checkpoint_journal.specs.State.{State}
use Rattle.checkpoint_journal.specs.declared.crash.Reopened.{Reopened}
use Rattle.checkpoint_journal.proofs.Reopens.{acknowledged, left, gives_ok, gives_err}
use Rattle.checkpoint_journal.proofs.crash.commit_and_crash.Goals as goal

pub returns-in_err-journal-clause-opens : goal.returns-in_err-journal-clause-opens
returns-in_err-journal-clause-opens g c before is =
    let p = err_from_is_err_and c.from_residual.result c.from_residual.ensures.1 in
    let least = c.commit_all.new.self.records - c.args.journal.records in
    let some = left c.args.journal before c.args.contents.now least (g.D.Disk.holds c.args.disk.now) (g.D.Disk.holds c.commit_all.new.disk)
    (g.D.Disk.holds c.crash.new.self) c.commit_all.ensures.tells (c.commit_all.ensures.crash before is) c.crash.ensures.image in
    rw (p.1, p.2) (gives_err c.args.journal before c.args.contents.now least _ _ c.kind-kind.ensures c.number-number.ensures (State × List (List ℕ)) (λ opened. opened.1)
    (g.D.Disk.holds c.args.disk.now) (g.D.Disk.holds c.crash.new.self) c.in_err-journal.field-0.0 some c.in_err-journal.ensures.opens)

pub returns-clause-opens : goal.returns-clause-opens
returns-clause-opens g c before is =
    let least = c.commit_all.new.self.records - c.args.journal.records in
    let some = left c.args.journal before c.args.contents.now least (g.D.Disk.holds c.args.disk.now) (g.D.Disk.holds c.commit_all.new.disk)
    (g.D.Disk.holds c.crash.new.self) c.commit_all.ensures.tells (c.commit_all.ensures.crash before is) c.crash.ensures.image in
    let all : c.is_ok-acknowledged.result ≡ true → least ≡ length c.args.contents.now = λ done.
    (let state = acknowledged c.commit_all.result c.commit_all.ensures.state (sym c.is_ok-acknowledged.ensures.value ∙ done) in let r = ap (λ (s : State). s.records) state in omega arith) in
    let reopened : Reopened = record { acknowledged = c.is_ok-acknowledged.result; journal = c.in_ok-journal.journal; contents = c.in_ok-journal.contents } in
    gives_ok c.args.journal before c.args.contents.now least _ _ c.kind-kind.ensures c.number-number.ensures (g.D.Disk.holds c.args.disk.now) (g.D.Disk.holds c.crash.new.self) reopened some
    c.in_ok-journal.ensures.opens all
