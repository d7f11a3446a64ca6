use Rattle.std.proofs.Common.{◌≡◌, take}
use Rattle.id_table.specs.Ids.{ids_of}
use Rattle.tunnel_recovery.proofs.left.put_all.Given as goal

abbrev pub invariant-loop-session : goal.invariant-loop-session
invariant-loop-session l = ids_of l.table.entries ≡ take l.session-index l.sessions
