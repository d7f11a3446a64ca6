use Rattle.std.proofs.Common.{◌≡◌, drop}
use Rattle.session_book.specs.Books.{Kept}
use Rattle.end_model.specs.Starting.{restored_all}
use Rattle.end_core.specs.Keeping.{AreByTunnel}
use Rattle.end_core.proofs.end.End.restore_all.Given as goal

abbrev pub invariant-loop-tunnel : goal.invariant-loop-tunnel
invariant-loop-tunnel l =
    (l.self.role ≡ l.initial.self.role) ×
    ((k : Kept) → AreByTunnel l.by_tunnel.entries k.calls
    → restored_all k l.moment l.block (drop l.tunnel-index l.tunnels) (record { end = l.self; outputs = l.given.outputs; moves = l.given.moves })
    ≡ restored_all k l.moment l.block l.tunnels (record { end = l.initial.self; outputs = l.initial.given.outputs; moves = l.initial.given.moves }))
