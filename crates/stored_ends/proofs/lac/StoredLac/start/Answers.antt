use Rattle.std.proofs.Common.{rules, ◌≡◌, false, sym, ap, ◌∙◌}
use Rattle.end_model.specs.Contents.{contents_of}
use Rattle.lac_core.specs.Gives.{end_step, starts_with}
use Rattle.stored_ends.specs.Steps.{LacStored}
use Rattle.stored_ends.proofs.Steps.{halted_step, lent_step_of}
use Rattle.stored_ends.proofs.lac.StoredLac.start.Goals as goal

pub returns-then-is_halted-clause-disk : goal.returns-then-is_halted-clause-disk
returns-then-is_halted-clause-disk g c =
    let halted = ap (λ (s : LacStored). s.store.journal.halted) (sym c.self.view_is) ∙ sym c.is_halted.ensures ∙ c.if-is_halted.true in
    halted_step g.D.Disk.holds g.D.Disk.reach g.D.Disk.calls_left g.D.Disk.faults _ _ c.args.self.now.store c.args.disk.now halted

pub returns-clause-disk : goal.returns-clause-disk
returns-clause-disk g c =
    let store = ap (λ (s : LacStored). s.store) c.self.view_is in
    let records = ap (λ (s : LacStored). contents_of s.lac.end (end_step (starts_with s.lac c.args.key s.store.kept c.args.moment c.args.block))) c.self.view_is in
    let running : c.args.self.now.store.journal.halted ≡ false = ap (λ (s : LacStored). s.store.journal.halted) (sym c.self.view_is) ∙ sym c.is_halted.ensures ∙ c.if-is_halted.false in
    lent_step_of g.D.Disk.holds g.D.Disk.reach g.D.Disk.calls_left g.D.Disk.faults _ c.start.result c.stops_of.result _ c.args.self.now.store _ c.start.new.ledger _ c.start.ensures.committed (search rules) records store running c.requires c.stops_of.ensures
