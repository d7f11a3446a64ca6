use Rattle.std.proofs.Common.{ap, ◌∙◌}
use Rattle.disk_core.specs.Memory.{Failing, Stopping}
use Rattle.world_checkpoint.proofs.Crashes.{copy_found}
use Rattle.world_checkpoint.proofs.stopping.copy_of.Goals as goal

pub returns-clause-same : goal.returns-clause-same
returns-clause-same c =
    copy_found c.args.store.now c.args.disk.now.held c.kind.result c.number.result c.new-3.result.disk.store.held.bytes c.store_on.result c.requires.kept c.kind.ensures c.number.ensures
    (ap (λ (s : Stopping). s.disk.store.held.bytes) c.new-3.ensures ∙ ap (λ (d : Failing). d.store.held.bytes) c.in_ok-copy.ensures ∙ c.in_ok-image.ensures ∙ c.bytes.ensures)
    c.store_on.ensures.book c.store_on.ensures.count
