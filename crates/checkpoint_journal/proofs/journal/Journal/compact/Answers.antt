use Rattle.std.proofs.Common.{ℕ, List, length, ap, subst, sym, ◌∙◌, arith}
use Rattle.std.specs.List.{AllByRecursion}
use Rattle.checkpoint_journal.specs.Format.{other_area, spelled_area}
use Rattle.checkpoint_journal.specs.Laws.{Is31}
use Rattle.checkpoint_journal.specs.State.{State, HasContents}
use Rattle.checkpoint_journal.proofs.Parts.{most_is, second_is}
use Rattle.checkpoint_journal.proofs.Compacts.{Compacts, crash_after, crash_stopped, has_new, made_at, half_at, area_size, other_small, finds_same}
use Rattle.checkpoint_journal.proofs.journal.Journal.compact.Goals as goal

pub overflow_add-start : goal.overflow_add-start
overflow_add-start g c =
    let size = area_size c.as_slice.result.now c.in_ok-area.ensures.each in
    let l = ap length c.in_ok-area.ensures.spelled in
    let s = second_is in let m = most_is in
    let small = other_small c.self.inside.start in
    let few = c.requires.few in
    let n = ap length c.as_slice.ensures in
    let len = c.len.ensures in
    let st = c.other_area-start.ensures in
    omega arith

pub returns-in_err-prepare-clause-crash : goal.returns-in_err-prepare-clause-crash
returns-in_err-prepare-clause-crash g c before is =
    finds_same c.args.self.now before c.args.contents.now (g.D.Disk.holds c.args.disk.now) (g.D.Disk.holds c.prepare.new.self) c.prepare.ensures.kept is

pub overflow_cast-self : goal.overflow_cast-self
overflow_cast-self g c = let m = most_is in let few = c.requires.few in let n = c.len-in-Ok.ensures in omega arith

pub invariant_of-self : goal.invariant_of-self
invariant_of-self g c =
    let small = other_small c.self.inside.start in
    let st = c.other_area-start.ensures in
    let few = c.requires.few in
    let n = c.len-in-Ok.ensures in
    let m = most_is in
    (omega arith, omega arith)

pub returns-in-Ok-clause-compacted : goal.returns-in-Ok-clause-compacted
returns-in-Ok-clause-compacted g c before is =
    let inside = c.self.inside in
    let o = g.D.Disk.holds c.args.disk.now in
    let p = g.D.Disk.holds c.write_area.new.disk in
    let ds = c.args.contents.now in
    let j : State = record {
      kind = inside.kind;
      number = inside.number;
      start = inside.start;
      records = inside.records;
      spare = inside.spare;
      halted = inside.halted;
    } in
    let compacts : Compacts j before ds o = record {
      is = subst (λ (x : State). HasContents x before o) (sym c.self.view_is) is;
      each = subst (λ (l : List (List ℕ)). AllByRecursion Is31 l) c.as_slice.ensures c.in_ok-area.ensures.each;
      few = let m = most_is in let few = c.requires.few in omega arith;
    } in
    let made = made_at 4 c.other_area-start.ensures (c.as_slice-2.ensures ∙ c.in_ok-area.ensures.spelled ∙ ap spelled_area c.as_slice.ensures)
    c.prepare.ensures.kept c.in-Ok.ensures.done in
    subst (λ (n : ℕ). HasContents (record j { start = n; records = c.len-in-Ok.result; spare = 0 }) ds p) (sym c.other_area-start.ensures)
    (subst (λ (n : ℕ). HasContents (record j { start = other_area j.start; records = n; spare = 0 }) ds p) (sym c.len-in-Ok.ensures)
    (has_new compacts p made))

pub returns-in-Ok-clause-crash : goal.returns-in-Ok-clause-crash
returns-in-Ok-clause-crash g c before is =
    let compacts : Compacts c.args.self.now before c.args.contents.now (g.D.Disk.holds c.args.disk.now) = record {
      is = is;
      each = subst (λ (l : List (List ℕ)). AllByRecursion Is31 l) c.as_slice.ensures c.in_ok-area.ensures.each;
      few = let m = most_is in let few = c.requires.few in omega arith;
    } in
    crash_after compacts (g.D.Disk.holds c.write_area.new.disk) 4
    (made_at 4 (c.other_area-start.ensures ∙ ap (λ (x : State). other_area x.start) c.self.view_is)
    (c.as_slice-2.ensures ∙ c.in_ok-area.ensures.spelled ∙ ap spelled_area c.as_slice.ensures) c.prepare.ensures.kept c.in-Ok.ensures.done)

pub returns-clause-crash : goal.returns-clause-crash
returns-clause-crash g c before is =
    let compacts : Compacts c.args.self.now before c.args.contents.now (g.D.Disk.holds c.args.disk.now) = record {
      is = is;
      each = subst (λ (l : List (List ℕ)). AllByRecursion Is31 l) c.as_slice.ensures c.in_ok-area.ensures.each;
      few = let m = most_is in let few = c.requires.few in omega arith;
    } in
    crash_stopped compacts (g.D.Disk.holds c.write_area.new.disk)
    (half_at (c.other_area-start.ensures ∙ ap (λ (x : State). other_area x.start) c.self.view_is)
    (c.as_slice-2.ensures ∙ c.in_ok-area.ensures.spelled ∙ ap spelled_area c.as_slice.ensures) c.prepare.ensures.kept c.in-Err.ensures.stopped)
