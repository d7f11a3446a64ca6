-- Births of LACs' calls stay apart.
use Rattle.std.proofs.Common.{◌≡◌, ◌⊎◌, inl, inr, ⊎_elim, ℕ, ◌+◌, ◌-◌, ◌^◌, ◌<◌, ◌≤◌, refl, sym, ◌∙◌, subst, Option, Some, arith}
use Rattle.id_table.specs.Ids.{at, put}
use Rattle.end_names.specs.declared.role.Role.{Role}
use Rattle.end_names.specs.declared.role.Role.TheVariants.{Lac, Lns}
use Rattle.world_model.specs.World.{World, Node}
use Rattle.frame_laws.proofs.Facts.{Nodes, Born, Plays, birth_in_node, role_in_node}
use Rattle.id_table.specs.Order.{found_put, same_or_not}
use Rattle.frame_laws.proofs.Changes.{Changed, Adds, NoBirth, NextBirth, SameBirth, next_birth, born_at, birth_there, plays_at, role_there}

pub not_lns : (r : Role) → r ≡ Lac → r ≡ Lns → ⊥
not_lns Lac a b = absurd (cc)
not_lns Lns a b = absurd (cc)

pub is_lns : (r : Role) → (r ≡ Lac → ⊥) → r ≡ Lns
is_lns Lac h = absurd (h refl)
is_lns Lns h = refl

-- births are at most as many as were counted, and those of LACs are apart
pub record Counted (ns : Nodes) (born : ℕ) : Type 0 where
  pub most : (n s b : ℕ) → Born ns n s b → b ≤ born
  pub apart : (n s m q b : ℕ) → Born ns n s b → Born ns m q b → Plays ns n Lac → Plays ns m Lac → (n ≡ m) × (s ≡ q)

module _ (w : World) (ms : Nodes) (born n : ℕ) (old new : Node)
    (change : Changed w.nodes ms n old new) (few : w.born < 2 ^ 64 - 1) (had : Counted w.nodes w.born) where
  plays_before : (m : ℕ) (r : Role) → Plays ms m r → Plays w.nodes m r
  plays_before m r h = ⊎_elim
      (λ e. rw e (plays_at w.nodes n r old change.was (sym change.role ∙ role_there ms n r new change.is (subst (λ x. Plays ms x r) e h))))
      (λ o. subst (λ (x : Option Node). role_in_node x ≡ Some r) (change.others m o) h)
      (same_or_not m n)

  -- the changed node is no LAC
  no_lac : (m : ℕ) → m ≡ n → Plays w.nodes m Lac → old.end.role ≡ Lns → ⊥
  no_lac m e h lns = not_lns old.end.role (role_there w.nodes n Lac old change.was (subst (λ x. Plays w.nodes x Lac) e h)) lns

  -- the birth of the changed node's session, or one that was there
  in_new : (m s b : ℕ) → Born ms m s b → (Born w.nodes m s b) ⊎ ((m ≡ n) × (at new.births s ≡ Some b))
  in_new m s b h = ⊎_elim
      (λ e. inr (e, birth_there ms n s b new change.is (subst (λ x. Born ms x s b) e h)))
      (λ o. inl (subst (λ (x : Option Node). birth_in_node x s ≡ Some b) (change.others m o) h))
      (same_or_not m n)

  was_there : (m s b : ℕ) → m ≡ n → at old.births s ≡ Some b → Born w.nodes m s b
  was_there m s b e h = rw e (born_at w.nodes n s b old change.was h)

  next_is : next_birth w ≡ w.born + 1
  next_is = omega (arith, few)

  -- each birth was there, or was added
  with_same : new.births ≡ old.births → (m s b : ℕ) → Born ms m s b → Born w.nodes m s b
  with_same same m s b h = ⊎_elim (λ a. a) (λ a. was_there m s b a.0 (rw (← same) a.1)) (in_new m s b h)

  with_put : (x c : ℕ) → new.births ≡ put old.births x c → (m s b : ℕ) → Born ms m s b → Born w.nodes m s b ⊎ ((m ≡ n) × (s ≡ x) × (c ≡ b))
  with_put x c same m s b h = ⊎_elim
      (λ a. inl a)
      (λ a. ⊎_elim (λ (e : (s ≡ x) × (c ≡ b)). inr (a.0, e.0, e.1)) (λ e. inl (was_there m s b a.0 e.1)) (found_put old.births x c s b (rw (← same) a.1)))
      (in_new m s b h)

  most_after : Adds w old new.births born → (m s b : ℕ) → Born ms m s b → b ≤ born
  most_after (NoBirth same count) m s b h = let k = had.most m s b (with_same same m s b h) in omega (arith, count)
  most_after (NextBirth x same count) m s b h = ⊎_elim
      (λ a. let k = had.most m s b a in let next = next_is in omega (arith, count))
      (λ (a : (m ≡ n) × (s ≡ x) × (next_birth w ≡ b)). let next = a.2 in omega (arith, count))
      (with_put x (next_birth w) same m s b h)
  most_after (SameBirth x c k q same count is lns) m s b h = ⊎_elim
      (λ a. let l = had.most m s b a in omega (arith, count))
      (λ (a : (m ≡ n) × (s ≡ x) × (c ≡ b)). let l = had.most k q c is in let e = a.2 in omega (arith, count))
      (with_put x c same m s b h)

  apart_after : Adds w old new.births born → (i s m q b : ℕ) → Born ms i s b → Born ms m q b → Plays ms i Lac → Plays ms m Lac → (i ≡ m) × (s ≡ q)
  apart_after (NoBirth same count) i s m q b h k one two =
      had.apart i s m q b (with_same same i s b h) (with_same same m q b k) (plays_before i Lac one) (plays_before m Lac two)
  apart_after (NextBirth x same count) i s m q b h k one two = ⊎_elim
      (λ a. ⊎_elim
      (λ c. had.apart i s m q b a c (plays_before i Lac one) (plays_before m Lac two))
      (λ (c : (m ≡ n) × (q ≡ x) × (next_birth w ≡ b)). let l = had.most i s b a in let next = next_is in let e = c.2 in absurd (omega arith))
      (with_put x (next_birth w) same m q b k))
      (λ (a : (i ≡ n) × (s ≡ x) × (next_birth w ≡ b)). ⊎_elim
      (λ c. let l = had.most m q b c in let next = next_is in let e = a.2 in absurd (omega arith))
      (λ (c : (m ≡ n) × (q ≡ x) × (next_birth w ≡ b)). (a.0 ∙ sym c.0, a.1 ∙ sym c.1))
      (with_put x (next_birth w) same m q b k))
      (with_put x (next_birth w) same i s b h)
  apart_after (SameBirth x c k q same count is lns) i s m r b h j one two = ⊎_elim
      (λ a. ⊎_elim
      (λ d. had.apart i s m r b a d (plays_before i Lac one) (plays_before m Lac two))
      (λ (d : (m ≡ n) × (r ≡ x) × (c ≡ b)). absurd (no_lac m d.0 (plays_before m Lac two) lns))
      (with_put x c same m r b j))
      (λ (a : (i ≡ n) × (s ≡ x) × (c ≡ b)). absurd (no_lac i a.0 (plays_before i Lac one) lns))
      (with_put x c same i s b h)

  pub counted_after : Adds w old new.births born → Counted ms born
  counted_after adds = record { most = most_after adds; apart = apart_after adds }
