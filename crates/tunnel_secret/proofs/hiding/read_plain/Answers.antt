use Rattle.std.proofs.Common.{length, Ok, Err, rules, arith}
use Rattle.tunnel_secret.specs.declared.error.UnhideError.TheVariants.{BadLength}
use Rattle.tunnel_secret.proofs.Values.{is_found, is_told}
use Rattle.tunnel_secret.proofs.hiding.read_plain.Goals as goal

pub returns-then-have-said-clause-fault : goal.returns-then-have-said-clause-fault
returns-then-have-said-clause-fault c =
    is_told c.args.plain.now (Err (BadLength c.from-said.result (length c.split_at.result.1.now))) (λ i. omega (arith, c.type_inv.plain i)) (search rules)

pub returns-clause-found : goal.returns-clause-found
returns-clause-found c =
    is_found c.args.plain.now (Ok c.in_ok-from_slice.field-0) (λ i. omega (arith, c.type_inv.plain i)) (search rules)
