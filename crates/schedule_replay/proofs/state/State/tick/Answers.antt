use Rattle.std.proofs.Common.{◌≡◌, ℕ, List, refl, ap, sym, subst, ◌∙◌, Some, None, Ok}
use Rattle.id_table.specs.Ids.{at, put}
use Rattle.end_model.specs.declared.event.Event.TheVariants.{Tick}
use Rattle.world_model.specs.World.{World, Node, with_node, later, declared, stepped, block_of}
use Rattle.schedule_replay.specs.Kinds.{site_in}
use Rattle.schedule_replay.specs.Fault.{Told, Says}
use Rattle.schedule_replay.specs.Serving.{SiteStep, site_step, MakesStep}
use Rattle.schedule_replay.proofs.Serving.{made_says, tick_says, later_there}
use Rattle.schedule_replay.proofs.state.State.tick.Goals as goal

pub returns : goal.returns
returns c =
    let w : World = record { nodes = c.self.inside.nodes.entries; packets = c.self.inside.packets; born = c.self.inside.born; held = c.self.inside.held.entries; loads = c.self.inside.loads } in
    let told : Told = record { world = w; report = c.self.inside.report; ups = c.self.inside.ups } in
    let n = c.args.node in
    let line = c.args.line in
    let x : Node = c.pass.new.self in
    let y : Node = c.step-made.new.self in
    let mid : Told = record told { world = record w { nodes = put w.nodes c.from.result y } } in
    let before : at w.nodes n ≡ Some c.in-Some.at.now = ap (λ i. at w.nodes i) (sym c.from.ensures) ∙ sym c.in-Some.ensures.value in
    let up : declared (at w.nodes n) ≡ Ok c.in_default.field-0.now = subst (λ (t : Told). declared (at t.world.nodes n) ≡ Ok c.in_default.field-0.now) (sym c.self.view_is) c.in_default.ensures in
    let there = later_there c.args.milliseconds (at w.nodes n) c.in-Some.at.now c.in_default.field-0.now x before up c.pass.ensures in
    let v : SiteStep = site_step (site_in x) x.clock (block_of n line) Tick in
    let made : MakesStep c.step-made.result (block_of n line) v x y =
    subst (λ (b : List ℕ). MakesStep c.step-made.result b (site_step (site_in x) x.clock b Tick) x y) c.block_of.ensures c.step-made.ensures.made in
    let put_is : mid.world ≡ with_node w n y = ap (λ (i : ℕ). record w { nodes = put w.nodes i y }) c.from.ensures in
    let one = tick_says c.show_made.result w line n c.args.milliseconds x (at w.nodes n) told c.show_made.new.self there
    (made_says c.show_made.result c.step-made.result line n x y v told mid c.show_made.new.self made put_is refl refl c.show_made.ensures) in
    subst (λ (t : Told). Says c.show_made.result (stepped t.world line n Tick None (later c.args.milliseconds (declared (at t.world.nodes n)))) t c.show_made.new.self) c.self.view_is one
