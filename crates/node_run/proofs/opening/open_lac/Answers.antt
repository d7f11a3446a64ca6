use Rattle.std.proofs.Common.{rules, ◌∙◌}
use Rattle.node_run.specs.declared.end.NodeEnd.TheVariants as ends
use Rattle.node_run.proofs.opening.open_lac.Goals as goal

pub returns-in-Err-lac_start-clause-shut : goal.returns-in-Err-lac_start-clause-shut
returns-in-Err-lac_start-clause-shut g c =
    let found = c.in-Ok.ensures.opened.found in
    (ends.Lac c.in-Ok.lac, c.in-Ok.given, c.in-Ok.ensures.opened, search rules, found.started.cause.2 ∙ found.unfailed)
