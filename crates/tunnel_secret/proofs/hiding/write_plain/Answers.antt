use Rattle.std.proofs.Common.{ℕ, ◌≤◌, arith}
use Rattle.std.proofs.lemmas.Grind.{common_steps}
use Rattle.std.proofs.lemmas.List.{take-replicate}
use Rattle.tunnel_secret.proofs.hiding.write_plain.Goals as goal

pub returns : goal.returns
returns c = let fits : c.args.padding ≤ 1015 = omega arith in let z = take-replicate {X = ℕ} c.args.padding 1015 0 fits in grind (arith, common_steps, z)
