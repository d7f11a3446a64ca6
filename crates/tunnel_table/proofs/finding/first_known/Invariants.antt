use Rattle.std.proofs.Common.{◌≡◌, drop, find}
use Rattle.id_table.specs.Ids.{at}
use Rattle.end_model.specs.End.{is_known}
use Rattle.tunnel_table.specs.Tunnels.{tunnels_of}
use Rattle.tunnel_table.proofs.finding.first_known.Given as goal

abbrev pub invariant-loop-id : goal.invariant-loop-id
invariant-loop-id l =
    find (λ i. is_known l.peer l.remote (at (tunnels_of l.table.entries) i)) (drop l.id-index l.ids)
    ≡ find (λ i. is_known l.peer l.remote (at (tunnels_of l.table.entries) i)) l.ids
