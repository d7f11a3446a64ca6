use Rattle.std.proofs.Common.{ap}
use Rattle.world_checkpoint.specs.Stores.{Filed}
use Rattle.world_checkpoint.proofs.Crashes.{opens_to}
use Rattle.world_checkpoint.proofs.checkpoint.Checkpoint.file.Goals as goal

pub returns : goal.returns
returns c =
    opens_to c.self.inside.store c.self.inside.disk.held c.args.self.now.known.book c.args.self.now.kind c.args.self.now.number c.bytes.result.now c.self.invariant.kept
    c.bytes.ensures (ap (λ (f : Filed). f.known.book) c.self.view_is) (ap (λ (f : Filed). f.kind) c.self.view_is) (ap (λ (f : Filed). f.number) c.self.view_is)
