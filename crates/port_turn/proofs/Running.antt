-- One turn more.
use Rattle.std.proofs.Common.{◌≡◌, ℕ, ◌+◌, List, [], ◌∷◌, ◌++◌, length, subst, refl, arith, length-append}
use Rattle.port_events.specs.declared.end.Event.{Event}
use Rattle.port_events.specs.declared.end.Out.{Out}
use Rattle.port_turn.specs.Turns.{Turn}
use Rattle.port_turn.specs.Runs.{Node, MakesTurn, Runs}

module _ {S : Type 0} (steps : S → ℕ → List ℕ → Event → List Out → S → Type 0) where
  pub one_more : (ts : List Turn) (t : Turn) (p q r : Node S) → Runs steps ts p q → MakesTurn steps t q r → Runs steps (ts ++ t ∷ []) p r
  one_more [] t p q r a b = (r, subst (λ (k : Node S). MakesTurn steps t k r) a b, refl)
  one_more (x ∷ ts) t p q r a b = (a.0, a.1, one_more ts t a.0 q r a.2 b)

pub so_many : (ts : List Turn) (t : Turn) (n : ℕ) → length ts ≡ n → length (ts ++ t ∷ []) ≡ n + 1
so_many ts t n e = let l = length-append ts (t ∷ []) in omega arith
