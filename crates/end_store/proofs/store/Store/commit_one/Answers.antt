use Rattle.std.proofs.Common.{refl, sym, ◌∙◌}
use Rattle.end_store.proofs.Found.{finds_none, finds_next, stored_still, stored_next}
use Rattle.end_store.proofs.store.Store.commit_one.Goals as goal

pub returns-then-is_halted-clause-crash : goal.returns-then-is_halted-clause-crash
returns-then-is_halted-clause-crash g c before is = finds_none c.args.self.now before _ 0 (g.D.Disk.holds c.args.disk.now) refl is

pub returns-then-not-apply_record-clause-stored : goal.returns-then-not-apply_record-clause-stored
returns-then-not-apply_record-clause-stored g c before is =
    stored_still _ _ c.self.view_is c.apply_record.new.self.kept c.apply_record.new.self.spare before c.args.next.now (g.D.Disk.holds c.args.disk.now)
    (sym c.apply_record.ensures.answer ∙ c.if-not-apply_record.true) c.apply_record.ensures.kept is

pub returns-then-not-apply_record-clause-crash : goal.returns-then-not-apply_record-clause-crash
returns-then-not-apply_record-clause-crash g c before is = finds_none c.args.self.now before _ 0 (g.D.Disk.holds c.args.disk.now) refl is

pub returns-clause-stored : goal.returns-clause-stored
returns-clause-stored g c before is =
    stored_next c.commit.result _ _ c.self.view_is c.commit.new.self c.apply_record.new.self.kept c.apply_record.new.self.spare before c.args.next.now c.spell-content.result
    (g.D.Disk.holds c.args.disk.now) (g.D.Disk.holds c.commit.new.disk) (sym c.apply_record.ensures.answer ∙ c.if-not-apply_record.false) c.apply_record.ensures.kept
    c.spell-content.ensures.bytes (c.spell-content.ensures.read c.requires.unmarked) is c.commit.ensures.committed

pub returns-clause-crash : goal.returns-clause-crash
returns-clause-crash g c before is =
    finds_next _ _ c.self.view_is before c.args.next.now c.spell-content.result (g.D.Disk.holds c.args.disk.now) (g.D.Disk.holds c.commit.new.disk)
    (sym c.apply_record.ensures.answer ∙ c.if-not-apply_record.false) c.spell-content.ensures.bytes (c.spell-content.ensures.read c.requires.unmarked) is c.commit.ensures.crash
