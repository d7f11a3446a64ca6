use Rattle.std.proofs.Common.{◌≡◌, Ok, Err, refl, subst}
use Rattle.world_model.specs.World.{Node}
use Rattle.schedule_replay.specs.declared.kinds.Moved.{Moved}
use Rattle.schedule_replay.specs.Kinds.{site_in}
use Rattle.schedule_replay.specs.Serving.{SiteStep, site_step, site_contents, site_commits, IsAsBefore, MakesStep}
use Rattle.schedule_replay.specs.contracts.node.Node.{the_view as view_of}
use Rattle.schedule_replay.proofs.Keeps.{site_keeps}
use Rattle.schedule_replay.proofs.Nodes.{step_made, step_left, left_as_before, keeps_file}
use Rattle.schedule_replay.proofs.node.Node.step.Goals as goal

pub returns-in-Ok-clause-made : goal.returns-in-Ok-clause-made
returns-in-Ok-clause-made c =
    let w : Node = view_of c.self.inside in
    let v : SiteStep = site_step (site_in w) w.clock c.args.block c.args.event.now in
    let y : Node = record w { end = c.step.new.self.end; access = c.step.new.self.access; checkpoint = c.step.new.ledger.known } in
    subst (λ (n : Node). MakesStep (Ok c.in-Ok.moved) c.args.block (site_step (site_in n) n.clock c.args.block c.args.event.now) n y) c.self.view_is
    (step_made c.args.block w v c.self.inside.checkpoint c.step.new.ledger refl c.in-Ok.moved c.step.new.self y c.in-Ok.ensures.given c.in-Ok.ensures.committed refl)

pub returns-in-Err-clause-made : goal.returns-in-Err-clause-made
returns-in-Err-clause-made c =
    let w : Node = view_of c.self.inside in
    let v : SiteStep = site_step (site_in w) w.clock c.args.block c.args.event.now in
    let mid : Node = record w { end = c.step.new.self.end; access = c.step.new.self.access; checkpoint = c.step.new.ledger.known } in
    let same : mid ≡ record w { up = w.up; checkpoint = c.step.new.ledger.known } = rw c.in-Err.ensures.given refl in
    subst (λ (n : Node). MakesStep (Err c.leave.result) c.args.block (site_step (site_in n) n.clock c.args.block c.args.event.now) n c.leave.new.self) c.self.view_is
    (step_left c.args.block w v c.self.inside.checkpoint c.step.new.ledger refl c.leave.result c.in-Err.fault w.up mid c.leave.new.self
    c.in-Err.ensures.committed same c.leave.ensures)

pub returns-in-Err-clause-as_before : goal.returns-in-Err-clause-as_before
returns-in-Err-clause-as_before c =
    let w : Node = view_of c.self.inside in
    let v : SiteStep = site_step (site_in w) w.clock c.args.block c.args.event.now in
    let mid : Node = record w { end = c.step.new.self.end; access = c.step.new.self.access; checkpoint = c.step.new.ledger.known } in
    let same : mid ≡ record w { checkpoint = c.step.new.ledger.known } = rw c.in-Err.ensures.given refl in
    subst
    (λ (n : Node). IsAsBefore {T = Moved} (Err c.leave.result) (site_commits n (site_step (site_in n) n.clock c.args.block c.args.event.now)) n c.leave.new.self)
    c.self.view_is
    (left_as_before c.args.block w v c.self.inside.checkpoint c.step.new.ledger refl c.leave.result c.in-Err.fault mid c.leave.new.self
    c.in-Err.ensures.committed same c.leave.ensures)

pub invariant_of-self : goal.invariant_of-self
invariant_of-self c =
    let w : Node = view_of c.self.inside in
    let v : SiteStep = site_step (site_in w) w.clock c.args.block c.args.event.now in
    keeps_file c.step.result v (site_contents (site_in w) v) (site_in w) c.step.new.self c.self.inside.checkpoint c.step.new.ledger c.step.ensures.given
    c.step.ensures.committed (site_keeps (site_in w) w.clock c.args.block c.args.event.now) c.self.invariant
