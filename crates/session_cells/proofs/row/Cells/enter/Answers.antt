use Rattle.std.proofs.Common.{◌≡◌, sym, subst, true, nat_lt, arith}
use Rattle.std.proofs.lemmas.Bool.Decides.{nat_tests}
use Rattle.session_looks.specs.declared.look.CellChange.{CellChange}
use Rattle.session_cells.specs.Logs.{IsEntered}
use Rattle.session_cells.specs.Changes.{entry_of}
use Rattle.session_cells.specs.Tokens.{log_of}
use Rattle.session_cells.proofs.Stories.{bind_entered, establish_entered, kill_entered}
use Rattle.session_cells.proofs.row.Cells.enter.Goals as goal

pub returns-in-Bind-clause-entered : goal.returns-in-Bind-clause-entered
returns-in-Bind-clause-entered c old before pre binds =
    let w = log_of c.bind.new.seen in
    subst (λ (x : CellChange). IsEntered old before w (entry_of x)) (sym c.in-Bind.is) (bind_entered w c.in-Bind.session c.bind.ensures.legal c.bind.ensures.born)

pub returns-in-Establish-clause-entered : goal.returns-in-Establish-clause-entered
returns-in-Establish-clause-entered c old before pre binds =
    let v = log_of c.args.seen.now in
    let w = log_of c.establish.new.seen in
    subst (λ (x : CellChange). IsEntered old before w (entry_of x)) (sym c.in-Establish.is)
    (establish_entered old before v w c.in-Establish.session pre c.establish.ensures.later.1 c.establish.ensures.legal binds c.establish.ensures.past)

pub returns-then-session-lt65536-clause-entered : goal.returns-then-session-lt65536-clause-entered
returns-then-session-lt65536-clause-entered c old before pre binds =
    let v = log_of c.args.seen.now in
    let w = log_of c.kill.new.seen in
    let small : nat_lt c.in-Kill.session 65536 ≡ true = grind (arith, nat_tests, c.if-session-lt65536.true) in
    subst (λ (x : CellChange). IsEntered old before w (entry_of x)) (sym c.in-Kill.is)
    (rw small (kill_entered old before v w c.in-Kill.session c.kill.result pre c.kill.ensures.later.1 c.kill.ensures.legal binds c.kill.ensures.left))
