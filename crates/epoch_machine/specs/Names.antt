-- Functions of names. A name stands for an id that a node drew once, for ever; 0 is no name.
use Rattle.std.specs.Prelude.{ℕ, Bool, if◌then◌else◌, ◌==◌, ◌&&◌, not, nat_lt}

-- the function with this value at this name
abbrev pub assign : {X : Type 0} → (ℕ → X) → ℕ → X → ℕ → X
assign f k v n = if n == k then v else f n

-- the function with this value at each name of a kind
abbrev pub assign_all : {X : Type 0} → (ℕ → X) → (ℕ → Bool) → X → ℕ → X
assign_all f kind v n = if kind n then v else f n

-- the name may be drawn: it's a name, and was never drawn
abbrev pub is_new : (ℕ → Bool) → ℕ → Bool
is_new drawn k = nat_lt 0 k && not (drawn k)

abbrev pub is_name : ℕ → Bool
is_name k = nat_lt 0 k
