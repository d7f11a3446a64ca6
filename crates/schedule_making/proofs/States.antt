-- The state of the generator.
use Rattle.std.proofs.Common.{◌≡◌, ℕ, ◌+◌, ◌*◌, ◌%◌, ◌^◌}
use Rattle.std.proofs.Math.Nat.{mod-add-mod}
use Rattle.schedule_making.specs.Drawing.{next_state}

-- the product and the sum are each cut to 64 bits
pub next_is : (x : ℕ) → (x * 6364136223846793005 % 2 ^ 64 + 1442695040888963407) % 2 ^ 64 ≡ next_state x
unfolding next_state
next_is x = mod-add-mod (x * 6364136223846793005) (2 ^ 64) 1442695040888963407
