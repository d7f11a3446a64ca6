use Rattle.std.proofs.Common.{◌≡◌, ◌++◌, drop}
use Rattle.send_window.proofs.letters.Letters.copy.Given as goal

abbrev pub invariant-loop-place : goal.invariant-loop-place
invariant-loop-place l = (l.copy.letters ++ drop l.place l.self.letters ≡ l.self.letters) × (l.copy.spare ≡ 0)
