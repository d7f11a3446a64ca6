-- What is given to a channel is written, and ids are drawn in order.
use Rattle.std.proofs.Common.{Option, Some, None, IfSome, List, ◌∷◌, ◌++◌, ◌≡◌, ℕ, ◌<◌, ◌≤◌, length, refl, arith}
use Rattle.std.proofs.lemmas.List.{length-append}
use Rattle.std.proofs.lemmas.Fmt.{length-decimal-le}
use Rattle.std.specs.Fmt.{decimal}
use Rattle.md5.proofs.StandardFacts.{length-md5}
use Rattle.step_laws.specs.Moves.{Asks, Responds}
use Rattle.frame_laws.specs.Written.{IsWritten, IsWrittenOpening}
use Rattle.end_model.specs.declared.tunnel.Config.{Config}
use Rattle.end_names.specs.declared.role.Role.{Role}
use Rattle.end_names.specs.declared.role.Role.TheVariants.{Lac, Lns}
use Rattle.end_names.specs.Names.{address_of, node_of, host_name, calling_number}
use Rattle.end_model.specs.Messages.{opening_of, request_of}

-- ---- messages

name_fits : (r : Role) (n : ℕ) → n < 256 → length (host_name r n) ≤ 1017
unfolding host_name
name_fits r n lt = by r (length-decimal-le 3 n (omega arith) (omega arith) (omega arith))
  where
    by : (r : Role) → length (decimal n) ≤ 3 → length (host_name r n) ≤ 1017
    by Lac le = simp length-append (omega arith)
    by Lns le = simp length-append (omega arith)

-- what is asked fits into a pair, and what is answered has 16 bytes
pub asks_short : (secret challenge : Option (List ℕ)) → Asks secret challenge → IfSome challenge (λ v. length v ≤ 1017)
asks_short None challenge is = rw is tt
asks_short (Some s) challenge is = let sized = is.2 in rw is.1 (omega (arith, sized))

pub responds_sized : (kind : ℕ) (secret asked response : Option (List ℕ)) → Responds kind secret asked response → IfSome response (λ v. length v ≡ 16)
responds_sized kind None asked response is = rw is tt
responds_sized kind (Some s) None response is = rw is tt
responds_sized kind (Some s) (Some a) response is = rw is (length-md5 (kind ∷ s ++ a))

pub opening_written : (r : Role) (c : Config) (challenge response : Option (List ℕ)) (local : ℕ) → c.number < 256 → 0 < local → local < 65536
    → IfSome challenge (λ v. length v ≤ 1017) → IfSome response (λ v. length v ≡ 16) → IsWrittenOpening (opening_of r c challenge response local)
opening_written r c challenge response local lt some fits short sized = record {
  version = refl;
  framing = omega arith;
  name = name_fits r c.number lt;
  tunnel = fits;
  tunnel_not_zero = some;
  window = omega arith;
  window_not_zero = omega arith;
  failover = (omega arith, omega arith);
  challenge = short;
  response = sized;
  recovery = refl;
  suggested = refl;
  attempt = refl;
}

-- only the number of the end is told
pub same_opening : (r : Role) (c d : Config) (challenge response : Option (List ℕ)) (local : ℕ) → c.number ≡ d.number
    → opening_of r c challenge response local ≡ opening_of r d challenge response local
same_opening r c d challenge response local same = rw same refl

pub request_written : ((who : List ℕ) → length (calling_number who) ≡ 12) → (s : ℕ) (who : List ℕ) → s < 65536 → IsWritten (request_of s who)
request_written digits s who fits = (omega arith, omega arith, (let d = digits who in omega arith))

-- ---- ids

-- a node's address is its own
pub node_again : (from : ℕ) → from < 256 → node_of (address_of from) ≡ from
unfolding node_of address_of
node_again from lt = omega arith

pub node_fits : (address : ℕ) → node_of address < 256
unfolding node_of
node_fits address = omega arith
