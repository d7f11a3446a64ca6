use Rattle.std.proofs.Common.{◌≡◌, ap, sym, subst, ◌∙◌, None, false}
use Rattle.std.specs.Prelude.{is_some}
use Rattle.id_table.specs.Ids.{at}
use Rattle.world_model.specs.World.{World, held_at}
use Rattle.schedule_replay.specs.Fault.{Told}
use Rattle.schedule_replay.proofs.Handing.{none_held}
use Rattle.schedule_replay.proofs.state.State.holds.Goals as goal

pub returns-in-None : goal.returns-in-None
returns-in-None c =
    let w : World = record { nodes = c.self.inside.nodes.entries; packets = c.self.inside.packets; born = c.self.inside.born; held = c.self.inside.held.entries; loads = c.self.inside.loads } in
    let told : Told = record { world = w; report = c.self.inside.report; ups = c.self.inside.ups } in
    let none : at w.held c.args.node ≡ None = ap (λ i. at w.held i) (sym c.from.ensures) ∙ sym c.in-None.ensures in
    subst (λ (t : Told). false ≡ is_some (at (held_at t.world c.args.node) c.args.number)) c.self.view_is (none_held w c.args.node c.args.number none)
