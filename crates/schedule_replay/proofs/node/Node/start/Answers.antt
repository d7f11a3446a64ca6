use Rattle.std.proofs.Common.{◌≡◌, ℕ, List, Ok, Err, true, refl, subst}
use Rattle.world_model.specs.World.{Node}
use Rattle.schedule_replay.specs.declared.kinds.Moved.{Moved}
use Rattle.schedule_replay.specs.Kinds.{site_in}
use Rattle.schedule_replay.specs.Serving.{SiteStep, site_start, site_contents, site_commits, IsAsBefore, MakesStep}
use Rattle.schedule_replay.specs.contracts.node.Node.{the_view as view_of}
use Rattle.schedule_replay.proofs.Keeps.{start_keeps}
use Rattle.schedule_replay.proofs.Nodes.{step_made, step_left, left_as_before, keeps_file}
use Rattle.schedule_replay.proofs.node.Node.start.Goals as goal

-- a start of a node with a block
abbrev start_of : Node → List ℕ → SiteStep
start_of n block = site_start n.end.role n.end.config n.clock block n.checkpoint.book

pub returns-in-Ok-clause-made : goal.returns-in-Ok-clause-made
returns-in-Ok-clause-made c =
    let w : Node = view_of c.self.inside in
    let x : Node = record w { up = true } in
    let v : SiteStep = site_start w.end.role w.end.config w.clock c.args.block w.checkpoint.book in
    let y : Node = record x { end = c.start.new.self.end; access = c.start.new.self.access; checkpoint = c.start.new.ledger.known } in
    subst
    (λ (n : Node). MakesStep (Ok c.in-Ok.moved) c.args.block (start_of n c.args.block) (record n { up = true }) y) c.self.view_is
    (step_made c.args.block x v c.self.inside.checkpoint c.start.new.ledger refl c.in-Ok.moved c.start.new.self y c.in-Ok.ensures.given c.in-Ok.ensures.committed refl)

pub returns-in-Err-clause-made : goal.returns-in-Err-clause-made
returns-in-Err-clause-made c =
    let w : Node = view_of c.self.inside in
    let x : Node = record w { up = true } in
    let v : SiteStep = site_start w.end.role w.end.config w.clock c.args.block w.checkpoint.book in
    let mid : Node = record w { end = c.start.new.self.end; access = c.start.new.self.access; checkpoint = c.start.new.ledger.known } in
    let same : mid ≡ record x { up = w.up; checkpoint = c.start.new.ledger.known } = rw c.in-Err.ensures.given refl in
    subst
    (λ (n : Node). MakesStep (Err c.leave.result) c.args.block (start_of n c.args.block) (record n { up = true }) c.leave.new.self) c.self.view_is
    (step_left c.args.block x v c.self.inside.checkpoint c.start.new.ledger refl c.leave.result c.in-Err.fault w.up mid c.leave.new.self
    c.in-Err.ensures.committed same c.leave.ensures)

pub returns-in-Err-clause-as_before : goal.returns-in-Err-clause-as_before
returns-in-Err-clause-as_before c =
    let w : Node = view_of c.self.inside in
    let v : SiteStep = site_start w.end.role w.end.config w.clock c.args.block w.checkpoint.book in
    let mid : Node = record w { end = c.start.new.self.end; access = c.start.new.self.access; checkpoint = c.start.new.ledger.known } in
    let same : mid ≡ record w { checkpoint = c.start.new.ledger.known } = rw c.in-Err.ensures.given refl in
    subst
    (λ (n : Node). IsAsBefore {T = Moved} (Err c.leave.result) (site_commits n (start_of n c.args.block)) n c.leave.new.self) c.self.view_is
    (left_as_before c.args.block w v c.self.inside.checkpoint c.start.new.ledger refl c.leave.result c.in-Err.fault mid c.leave.new.self
    c.in-Err.ensures.committed same c.leave.ensures)

pub invariant_of-self : goal.invariant_of-self
invariant_of-self c =
    let w : Node = view_of c.self.inside in
    let v : SiteStep = site_start w.end.role w.end.config w.clock c.args.block w.checkpoint.book in
    keeps_file c.start.result v (site_contents (site_in w) v) (site_in w) c.start.new.self c.self.inside.checkpoint c.start.new.ledger c.start.ensures.given
    c.start.ensures.committed (start_keeps w.end.role w.end.config w.clock c.args.block w.checkpoint.book) c.self.invariant
