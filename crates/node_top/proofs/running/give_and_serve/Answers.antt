use Rattle.std.proofs.Common.{inr, ap, ◌∙◌}
use Rattle.node_run.specs.declared.faults.NodeFault.{NodeFault}
use Rattle.node_run.specs.Steps.{NodeSteps, NodeStops}
use Rattle.node_top.specs.Runs.{of_serving}
use Rattle.node_top.proofs.Parts.{same_waits, same_asked, served_behind, ended_behind}
use Rattle.node_top.proofs.running.give_and_serve.Goals as goal

pub returns-in-Ok-node_serve-clause-served : goal.returns-in-Ok-node_serve-clause-served
returns-in-Ok-node_serve-clause-served g c =
    let p = c.in-Ok.ensures in
    served_behind (NodeSteps g.D.Disk.holds g.D.Disk.reach g.D.Disk.calls_left g.D.Disk.faults) c.args.opens c.args.turns c.args.outs.now _ _ _ _ _ p.ok
    (same_waits _ _ _ _ _ _ p.link_waits p.ether_waits p.up_waits) (same_asked _ _ _ _ _ _ p.link_asked p.ether_asked p.up_asked) c.in-Ok-node_serve.ensures.whole

pub returns-in-Err-node_serve-clause-short : goal.returns-in-Err-node_serve-clause-short
returns-in-Err-node_serve-clause-short g c =
    let p = c.in-Ok.ensures in
    let short = c.in-Err-node_serve.ensures.short in (
      short.0,
      inr (
        c.of_serving.ensures ∙ ap (λ (x : NodeFault). of_serving x) short.1,
        ended_behind (NodeSteps g.D.Disk.holds g.D.Disk.reach g.D.Disk.calls_left g.D.Disk.faults) (NodeStops g.D.Disk.holds g.D.Disk.reach g.D.Disk.calls_left g.D.Disk.faults) short.0 c.args.opens c.args.outs.now _ _ _ _ _ _ _ _ p.ok
            (same_waits _ _ _ _ _ _ p.link_waits p.ether_waits p.up_waits) (same_asked _ _ _ _ _ _ p.link_asked p.ether_asked p.up_asked) short.2,
      ),
    )
