use Rattle.std.proofs.Common.{rules, ◌∙◌}
use Rattle.node_run.specs.declared.end.NodeEnd.TheVariants as ends
use Rattle.node_run.proofs.opening.open_lns.Goals as goal

pub returns-in-Err-lns_outs-clause-shut : goal.returns-in-Err-lns_outs-clause-shut
returns-in-Err-lns_outs-clause-shut g c =
    let found = c.in-Ok.ensures.opened.found in
    (ends.Lns c.in-Ok.lns, c.in-Ok.given, c.in-Ok.ensures.opened, search rules, found.started.cause.2 ∙ found.unfailed)
