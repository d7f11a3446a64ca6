use Rattle.std.proofs.Common.{◌≡◌, drop}
use Rattle.id_table.specs.Ids.{ids_of}
use Rattle.tunnel_recovery.specs.Left.{changed_ids}
use Rattle.tunnel_recovery.proofs.left.change_all.Given as goal

abbrev pub invariant-loop-session : goal.invariant-loop-session
invariant-loop-session l = changed_ids (drop l.session-index l.changed) (ids_of l.table.entries) ≡ changed_ids l.changed (ids_of l.fn.table.entries)
