use Rattle.std.proofs.Common.{◌≡◌, ℕ, ◌<◌, ◌↔◌, get_or}
use Rattle.tunnel_secret.proofs.challenge.are_same.Given as goal

abbrev pub invariant-loop-i : goal.invariant-loop-i
invariant-loop-i l = (l.differing ≡ 0) ↔ ((k : ℕ) → k < l.i → get_or l.given k 0 ≡ get_or l.wanted k 0)
