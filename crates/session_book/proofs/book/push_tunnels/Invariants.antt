use Rattle.std.proofs.Common.{◌≡◌, ◌++◌, map, drop}
use Rattle.session_book.specs.Spelling.{content_of, tunnels_records}
use Rattle.session_book.proofs.book.push_tunnels.Given as goal

abbrev pub invariant-loop-tunnel : goal.invariant-loop-tunnel
invariant-loop-tunnel l =
    l.contents ++ map (λ r. content_of r) (tunnels_records (drop l.tunnel-index l.tunnels)) ≡ l.initial.contents ++ map (λ r. content_of r) (tunnels_records l.tunnels)
