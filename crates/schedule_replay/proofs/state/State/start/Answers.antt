use Rattle.std.proofs.Common.{◌≡◌, ℕ, List, refl, ap, sym, subst, ◌∙◌, Some, None, true}
use Rattle.id_table.specs.Ids.{at, put}
use Rattle.world_model.specs.World.{World, Node, with_node, down_at, started, block_of}
use Rattle.schedule_replay.specs.Fault.{Told, Says}
use Rattle.schedule_replay.specs.Serving.{SiteStep, site_start, MakesStep, start_unfit}
use Rattle.schedule_replay.proofs.Serving.{made_says, start_says, start_refused}
use Rattle.schedule_replay.proofs.state.State.start.Goals as goal

pub returns-in-Some : goal.returns-in-Some
returns-in-Some c =
    rw c.unfit.ensures (start_refused c.args.self.now.world c.args.line c.args.node (at c.args.self.now.world.nodes c.args.node) c.in-Some.why (sym c.in-Some.ensures), refl)

pub returns : goal.returns
returns c =
    let w : World = record { nodes = c.self.inside.nodes.entries; packets = c.self.inside.packets; born = c.self.inside.born; held = c.self.inside.held.entries; loads = c.self.inside.loads } in
    let told : Told = record { world = w; report = c.self.inside.report; ups = c.self.inside.ups } in
    let n = c.args.node in
    let line = c.args.line in
    let x : Node = c.in-Some-get_mut.at.now in
    let y : Node = c.start-made.new.self in
    let mid : Told = record told { world = record w { nodes = put w.nodes c.from.result y } } in
    let before : at w.nodes n ≡ Some x = ap (λ i. at w.nodes i) (sym c.from.ensures) ∙ sym c.in-Some-get_mut.ensures.value in
    let fits : start_unfit (at w.nodes n) ≡ None = subst (λ (t : Told). start_unfit (at t.world.nodes n) ≡ None) (sym c.self.view_is) (sym c.in_default.ensures) in
    let v : SiteStep = site_start x.end.role x.end.config x.clock (block_of n line) x.checkpoint.book in
    let made : MakesStep c.start-made.result (block_of n line) v (record x { up = true }) y =
    subst
    (λ (b : List ℕ). MakesStep c.start-made.result b (site_start x.end.role x.end.config x.clock b x.checkpoint.book) (record x { up = true }) y)
    c.block_of.ensures c.start-made.ensures.made in
    let put_is : mid.world ≡ with_node w n y = ap (λ (i : ℕ). record w { nodes = put w.nodes i y }) c.from.ensures in
    let one = start_says c.show_made.result w line n x (at w.nodes n) told c.show_made.new.self before fits
    (made_says c.show_made.result c.start-made.result line n (record x { up = true }) y v told mid c.show_made.new.self made put_is refl refl c.show_made.ensures) in
    subst (λ (t : Told). Says c.show_made.result (started t.world line n (down_at (at t.world.nodes n))) t c.show_made.new.self) c.self.view_is one
