-- Names of tunnels and calls are one to one, and what is assigned at a name.
use Rattle.std.proofs.Common.{◌≡◌, ℕ, ◌<◌, refl, arith, eq-eqb, ne_eqb}
use Rattle.end_names.specs.Names.{address_of, node_of}
use Rattle.epoch_machine.specs.Names.{assign}
use Rattle.session_laws.specs.Names.{name, name_of}

pub same_name : (m j n i : ℕ) → j < 65536 → i < 65536 → name m j ≡ name n i → (m ≡ n) × (j ≡ i)
unfolding name
same_name m j n i jfits ifits h = (omega arith, omega arith)

-- another node or another id has another name
pub other_name : (m j n i : ℕ) → j < 65536 → i < 65536 → ((m ≡ n) × (j ≡ i) → ⊥) → name m j ≡ name n i → ⊥
other_name m j n i jfits ifits other h = other (same_name m j n i jfits ifits h)

pub other_node : (m j n i : ℕ) → j < 65536 → i < 65536 → (m ≡ n → ⊥) → name m j ≡ name n i → ⊥
other_node m j n i jfits ifits other h = other (same_name m j n i jfits ifits h).0

pub other_id : (n j i : ℕ) → (j ≡ i → ⊥) → name n j ≡ name n i → ⊥
unfolding name
other_id n j i other h = other (omega arith)

-- an id that isn't 0 makes a name
pub name_some : (n i : ℕ) → 0 < i → 0 < name n i
unfolding name
name_some n i some = omega arith

pub name_not_zero : (n i : ℕ) → 0 < i → name n i ≡ 0 → ⊥
name_not_zero n i some h = let lt = name_some n i some in let no : ⊥ = omega arith in no

pub known_name : (n i : ℕ) → 0 < i → name_of n i ≡ name n i
known_name n i some = rw (ne_eqb i 0 (λ z. let no : ⊥ = omega arith in no)) refl

pub unknown_name : (n : ℕ) → name_of n 0 ≡ 0
unknown_name n = refl

pub assign_here : {X : Type 0} (f : ℕ → X) (k : ℕ) (v : X) → assign f k v k ≡ v
assign_here f k v = rw (eq-eqb k k refl) refl

pub assign_there : {X : Type 0} (f : ℕ → X) (k : ℕ) (v : X) (q : ℕ) → (q ≡ k → ⊥) → assign f k v q ≡ f q
assign_there f k v q other = rw (ne_eqb q k other) refl

-- a node's address is its own
pub node_again : (from : ℕ) → from < 256 → node_of (address_of from) ≡ from
unfolding node_of address_of
node_again from lt = omega arith
