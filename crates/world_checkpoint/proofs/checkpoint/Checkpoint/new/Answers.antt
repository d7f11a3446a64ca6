use Rattle.std.proofs.Common.{ap, ◌∙◌}
use Rattle.disk_core.specs.Memory.{Store}
use Rattle.world_checkpoint.proofs.Crashes.{opened_new}
use Rattle.world_checkpoint.proofs.checkpoint.Checkpoint.new.Goals as goal

pub returns-in-Ok : goal.returns-in-Ok
returns-in-Ok c =
    opened_new c.args.kind c.args.number c.in_ok-disk.disk.held.bytes c.in-Ok.store (ap (λ (s : Store). s.held.bytes) c.in_ok-disk.ensures ∙ c.new.ensures) c.in-Ok.ensures.opens c.in-Ok.ensures.count c.in-Ok.ensures.journal
