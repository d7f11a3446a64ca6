-- The calling thread's pass, and what it counts beside it.
use Rattle.std.proofs.Common.{◌≡◌, ℕ, ◌+◌, List, [], ◌∷◌, ◌++◌, length, map, refl, ap, ◌∙◌, length-append, arith}
use Rattle.std.proofs.lemmas.List.{map-append}
use Rattle.session_workers.specs.declared.item.Numbered.{Numbered}
use Rattle.session_workers.specs.Passes.{known_of}
use Rattle.worker_pool.specs.declared.pass.PoolPass.{PoolPass}
use Rattle.pppoe_session.specs.Subscribers.{holder_of}
use Rattle.held_ports.specs.Around.{PortCounts, port_counts}
use Rattle.pool_giving.specs.Hosts.{Hosted, KeepsTold}
use Rattle.pool_turns.specs.Turns.{Put}
use Rattle.pool_serving.specs.declared.desk.Desk.{Desk}
use Rattle.pool_serving.specs.Handing.{InStep, put_in, puts_in}

-- ---- whom subscribers were told to be

pub told_then : (a b c : Hosted) → KeepsTold a b → KeepsTold b c → KeepsTold a c
told_then a b c x y = λ s mac is. y s mac (x s mac is)

pub told_from : (a b c : Hosted) → b ≡ a → KeepsTold b c → KeepsTold a c
told_from a b c e h = λ s mac is. h s mac (ap (λ (k : Hosted). holder_of k.told s) e ∙ is)

pub told_same : (a b : Hosted) → b ≡ a → KeepsTold a b
told_same a b e = λ s mac is. ap (λ (k : Hosted). holder_of k.told s) e ∙ is

-- ---- counts of faults

pub same_counts : (old new : PortCounts) → (new.link ≡ old.link) × (new.ether ≡ old.ether) × (new.up ≡ old.up) → new ≡ old
same_counts old new c = ap (λ (n : ℕ). port_counts n new.ether new.up) c.0 ∙ (ap (λ (n : ℕ). port_counts old.link n new.up) c.1 ∙ ap (λ (n : ℕ). port_counts old.link old.ether n) c.2)

-- ---- what was put

pub puts_same : (p q : PoolPass) → known_of q.pass ≡ known_of p.pass → puts_in q ≡ puts_in p
puts_same p q e = ap (map put_in) e

pub puts_still : (p : PoolPass) → puts_in p ≡ puts_in p
puts_still p = refl

pub puts_one : (p q : PoolPass) (x : Numbered) → known_of q.pass ≡ known_of p.pass ++ x ∷ [] → puts_in q ≡ puts_in p ++ put_in x ∷ []
puts_one p q x e = ap (map put_in) e ∙ map-append put_in (known_of p.pass) (x ∷ [])

puts_length : (xs : List Numbered) → length (map put_in xs) ≡ length xs
puts_length [] = refl
puts_length (x ∷ xs) = let ih = puts_length xs in omega arith

pub puts_count : (p q : PoolPass) (ps : List Put) → puts_in q ≡ puts_in p ++ ps → length (known_of q.pass) ≡ length (known_of p.pass) + length ps
puts_count p q ps e =
    let a = puts_length (known_of p.pass) in
    let b = puts_length (known_of q.pass) in
    let c = ap (λ (k : List Put). length k) e in
    let d = length-append (puts_in p) ps in
    omega arith

-- ---- counts

module _ {G : Type 0} where
  pub step_none : (a : Desk G) (p : PoolPass) → InStep a a p p
  step_none a p = record { given = refl; puts = refl; gave = refl; parts = (refl, refl); told = λ s mac is. is }

  pub step_then : (a b c : Desk G) (p q r : PoolPass) → InStep a b p q → InStep b c q r → InStep a c p r
  step_then a b c p q r x y = record {
    given = let i = x.given in let j = y.given in omega arith;
    puts = let i = x.puts in let j = y.puts in omega arith;
    gave = y.gave ∙ x.gave;
    parts = (y.parts.0 ∙ x.parts.0, y.parts.1 ∙ x.parts.1);
    told = told_then a.hosts b.hosts c.hosts x.told y.told;
  }
