use Rattle.std.proofs.Common.{◌≡◌, ℕ, ◌<◌, ◌≤◌, length, get_or, bit_xor}
use Rattle.tunnel_secret.proofs.hiding.xor_into.Given as goal

abbrev pub invariant-loop-i : goal.invariant-loop-i
invariant-loop-i l = record {
  made : (k : ℕ) → k < l.i → get_or l.cells k 0 ≡ bit_xor (get_or l.mask k 0) (get_or l.block k 0);
  rest : (k : ℕ) → l.i ≤ k → get_or l.cells k 0 ≡ get_or l.mask k 0;
  same : length l.cells ≡ length l.mask;
}
