use Rattle.std.proofs.Common.{arith, ◌∙◌, ap}
use Rattle.std.specs.Prelude.{option_map}
use Rattle.disk_core.specs.Disk.{settled}
use Rattle.checkpoint_journal.proofs.Same.{safe_synced}
use Rattle.checkpoint_journal.proofs.Parts.{most_is, small_start}
use Rattle.checkpoint_journal.proofs.open.open_disk.Goals as goal

pub overflow_cast-len : goal.overflow_cast-len
overflow_cast-len g c = let m = most_is in let f = c.in_ok-start.ensures.few in let l = c.len.ensures in omega arith

pub opened-journal-requires-clause-start : goal.opened-journal-requires-clause-start
opened-journal-requires-clause-start g c = small_start c.in_ok-start.start c.in_ok-start.ensures.start

pub returns-clause-safe : goal.returns-clause-safe
returns-clause-safe g c =
    safe_synced (g.D.Disk.holds c.args.disk.now) (g.D.Disk.holds c.sync.new.self) (g.D.Disk.holds c.read_or_make.new.disk)
    (c.in_ok-sync.ensures.durable ∙ ap (option_map settled) c.in_ok-prepare.ensures.kept) c.in_ok-start.ensures.unwritten
