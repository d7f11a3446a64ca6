-- Host names and addresses of nodes.
use Rattle.std.specs.Prelude.{ℕ, ◌≡◌, ◌+◌, ◌%◌, List, [], ◌∷◌, ◌++◌, length, take, replicate, codes}
use Rattle.hex.specs.Hex.{encode_lower}
use Rattle.wire_base.specs.Numbers.{u16_bytes}
use Rattle.std.specs.Fmt.{decimal}
use Rattle.std.proofs.lemmas.List.{take_at}
use Rattle.end_names.specs.declared.role.Role.{Role}
use Rattle.end_names.specs.declared.role.Role.TheVariants.{Lac, Lns}

abbrev pub role_name : Role → List ℕ
role_name Lac = codes "lac"
role_name Lns = codes "lns"

-- what a node calls itself: what it is, and its number in decimal
unfoldable pub host_name : Role → ℕ → List ℕ
host_name role number = role_name role ++ decimal number

-- node n has the address 10.0.0.n
unfoldable pub address_of : ℕ → ℕ
address_of node = 167772160 + node

-- the node with an address, by its last part
unfoldable pub node_of : ℕ → ℕ
node_of address = address % 256

-- the six bytes of a subscriber that rings at a port, in place of an Ethernet address
unfoldable pub subscriber : ℕ → List ℕ
subscriber port = 255 ∷ 255 ∷ 0 ∷ 0 ∷ [] ++ u16_bytes port

-- the Ethernet address of a node
unfoldable pub mac_of : ℕ → List ℕ
mac_of node = 2 ∷ 0 ∷ 0 ∷ 0 ∷ 0 ∷ node ∷ []

-- a list of bytes as six: a subscriber has no more and no fewer
abbrev pub six : List ℕ → List ℕ
six who = take 6 (who ++ replicate 6 0)

pub six_is : (who : List ℕ) → length who ≡ 6 → six who ≡ who
six_is who h = take_at who (replicate 6 0) 6 h

-- the Calling Number of a call: the subscriber's six bytes as hex digits
unfoldable pub calling_number : List ℕ → List ℕ
calling_number who = encode_lower (six who)
