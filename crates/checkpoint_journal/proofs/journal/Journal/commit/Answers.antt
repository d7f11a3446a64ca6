use Rattle.std.proofs.Common.{◌+◌, ◌-◌, ◌*◌, ℕ, ap, subst, sym, arith}
use Rattle.checkpoint_journal.specs.State.{State, HasContents}
use Rattle.checkpoint_journal.proofs.Parts.{most_is, second_is}
use Rattle.checkpoint_journal.proofs.Commits.{Commits, crash_after, crash_stopped, committed, stopped_some}
use Rattle.checkpoint_journal.proofs.Options.{map_some}
use Rattle.checkpoint_journal.proofs.journal.Journal.commit.Goals as goal

pub overflow_add-gate : goal.overflow_add-gate
overflow_add-gate g c =
    let i = c.self.invariant.0 in let j = c.self.invariant.1 in let m = most_is in let s = second_is in let f = c.from.ensures in omega arith

pub write_record-requires-clause-place : goal.write_record-requires-clause-place
write_record-requires-clause-place g c =
    let i = c.self.invariant.0 in let j = c.self.invariant.1 in let m = most_is in let s = second_is in let f = c.from.ensures in omega arith

pub overflow_add-self : goal.overflow_add-self
overflow_add-self g c = let i = c.self.invariant.0 in let m = most_is in omega arith

pub returns-in-Ok-clause-committed : goal.returns-in-Ok-clause-committed
returns-in-Ok-clause-committed g c cs is =
    let inside = c.self.inside in
    let file = g.D.Disk.holds c.args.disk.now in
    let spare = ap (λ (x : State). x.spare) c.self.view_is in
    let j : State = record {
      kind = inside.kind;
      number = inside.number;
      start = inside.start;
      records = inside.records;
      spare = inside.spare;
      halted = inside.halted;
    } in
    let commits : Commits j cs c.args.content.now file (inside.start + 32 * c.from.result) = record {
      place = ap (λ (n : ℕ). inside.start + 32 * n) c.from.ensures;
      is = subst (λ (x : State). HasContents x cs file) (sym c.self.view_is) is;
      few = let i = c.self.invariant.0 in let s = c.requires.spare in omega arith;
      size = c.told-content;
    } in
    committed commits (g.D.Disk.holds c.write_record.new.disk) (inside.spare - 1) c.in-Ok.ensures.done

pub returns-in-Ok-clause-crash : goal.returns-in-Ok-clause-crash
returns-in-Ok-clause-crash g c cs is =
    let records = ap (λ (x : State). x.records) c.self.view_is in
    let start = ap (λ (x : State). x.start) c.self.view_is in
    let spare = ap (λ (x : State). x.spare) c.self.view_is in
    let commits : Commits c.args.self.now cs c.args.content.now (g.D.Disk.holds c.args.disk.now) (c.self.inside.start + 32 * c.from.result) = record {
      place = let f = c.from.ensures in omega arith;
      is = is;
      few = let i = c.self.invariant.0 in let s = c.requires.spare in omega arith;
      size = c.told-content;
    } in
    crash_after commits (g.D.Disk.holds c.write_record.new.disk) 4 c.in-Ok.ensures.done

pub returns-in-Err-clause-crash : goal.returns-in-Err-clause-crash
returns-in-Err-clause-crash g c cs is =
    let records = ap (λ (x : State). x.records) c.self.view_is in
    let start = ap (λ (x : State). x.start) c.self.view_is in
    let spare = ap (λ (x : State). x.spare) c.self.view_is in
    let commits : Commits c.args.self.now cs c.args.content.now (g.D.Disk.holds c.args.disk.now) (c.self.inside.start + 32 * c.from.result) = record {
      place = let f = c.from.ensures in omega arith;
      is = is;
      few = let i = c.self.invariant.0 in let s = c.requires.spare in omega arith;
      size = c.told-content;
    } in
    crash_stopped commits (g.D.Disk.holds c.write_record.new.disk) c.in-Err.ensures.stopped

pub returns-in-Ok-clause-tells : goal.returns-in-Ok-clause-tells
returns-in-Ok-clause-tells g c = map_some _ (g.D.Disk.holds c.args.disk.now) _ c.in-Ok.ensures.done

pub returns-in-Err-clause-tells : goal.returns-in-Err-clause-tells
returns-in-Err-clause-tells g c = stopped_some _ _ (g.D.Disk.holds c.args.disk.now) _ c.in-Err.ensures.stopped
