use Rattle.std.proofs.Common.{rules, ◌≡◌, ℕ, sym, ap, ◌∙◌, slice_get, Some, length, take}
use Rattle.memory_ports.proofs.Firsts.{cut_first_frame}
use Rattle.memory_ports.proofs.ethers.take_frame.Goals as goal

pub returns-clause-first : goal.returns-clause-first
returns-clause-first c =
    let first : slice_get c.args.waiting.now 0 ≡ Some c.in-Some.first.now = search rules in
    let size : length c.args.buf.now ≡ 2048 = search rules in
    let front = c.copy_front-len.ensures.front ∙ ap (λ (n : ℕ). take n c.as_slice.result.now) size ∙ ap (take 2048) c.as_slice.ensures in
    cut_first_frame (slice_get c.args.waiting.now 0) c.in-Some.first.now _ first front
