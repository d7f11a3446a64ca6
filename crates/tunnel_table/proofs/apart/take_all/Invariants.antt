use Rattle.std.proofs.Common.{◌≡◌, ◌++◌, drop, map}
use Rattle.id_table.specs.Ids.{ids_of}
use Rattle.tunnel_table.proofs.apart.take_all.Given as goal

abbrev pub invariant-loop-id : goal.invariant-loop-id
invariant-loop-id g l =
    (drop l.id-index l.ids ≡ ids_of l.table.entries) ×
    (l.taken ++ map (λ e. e.1) l.table.entries ≡ map (λ e. e.1) l.fn.table.entries)
