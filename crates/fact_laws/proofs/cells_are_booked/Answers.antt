use Rattle.node_laws.proofs.Runs.{properties_of_runs}
use Rattle.fact_laws.proofs.Cells.{cells_are_booked}
use Rattle.fact_laws.proofs.cells_are_booked.Goals as goal

pub returns : goal.returns
returns c =
    let laws = c.laws_of_ends.ensures in
    let all = properties_of_runs laws.chains laws.looks laws.begin laws.booked laws.starting laws.new in
    cells_are_booked laws.nodes all laws.sound laws.allowed
