use Rattle.std.proofs.Common.{ap}
use Rattle.checkpoint_journal.specs.State.{State}
use Rattle.end_names.specs.declared.role.Role.TheVariants.{Lac}
use Rattle.end_model.specs.Contents.{contents_of}
use Rattle.end_model.specs.Starting.{bare_end, starts}
use Rattle.end_store.specs.Stored.{Stored}
use Rattle.stored_ends.proofs.Opening.{lac_opened, lac_stops, unopened_as}
use Rattle.stored_ends.proofs.lac.StoredLac.open.Goals as goal

pub returns-in-Ok-start-clause-opened : goal.returns-in-Ok-start-clause-opened
returns-in-Ok-start-clause-opened g c =
    let e = c.in-Ok.ensures in
    let running = ap (λ (j : State). j.halted) e.journal in
    lac_opened g.D.Disk.holds g.D.Disk.reach g.D.Disk.calls_left g.D.Disk.faults c.args.config c.args.moment c.args.block c.args.disk.now c.open.new.disk c.start.new.disk c.in-Ok.store c.args.key c.over-lac.result c.start.new.self c.in-Ok-start.given
    (record { book = e.opens; kept = e.kept; unwritten = e.unwritten; unfailed = e.cause; running = running }) c.over-lac.ensures c.in-Ok-start.ensures.disk c.in-Ok-start.ensures.given

pub returns-in-Err-start-clause-stops : goal.returns-in-Err-start-clause-stops
returns-in-Err-start-clause-stops g c =
    let e = c.in-Ok.ensures in
    let running = ap (λ (j : State). j.halted) e.journal in
    rw c.unstarted.ensures (lac_stops g.D.Disk.holds g.D.Disk.reach g.D.Disk.calls_left g.D.Disk.faults c.args.config c.args.moment c.args.block c.args.disk.now c.open.new.disk c.start.new.disk c.in-Ok.store _ c.args.key c.over-lac.result _ c.in-Err-start.stop
    (record { book = e.opens; kept = e.kept; unwritten = e.unwritten; unfailed = e.cause; running = running }) c.over-lac.ensures c.in-Err-start.ensures.disk)

pub returns-in-Err-clause-stops : goal.returns-in-Err-clause-stops
returns-in-Err-clause-stops g c =
    let e = c.in-Err.ensures in
    rw c.unopened.ensures (unopened_as g.D.Disk.holds g.D.Disk.reach g.D.Disk.calls_left g.D.Disk.faults 1 c.args.config.number (λ k. contents_of (bare_end Lac c.args.config k) (starts Lac c.args.config k c.args.moment c.args.block)) c.args.disk.now c.open.new.disk
    Stored (λ s. s.kept) c.in-Err.stop e.opens e.safe e.refused e.cause)
