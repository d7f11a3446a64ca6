-- The tunnels of a table, as they are found, put and counted.
use Rattle.std.specs.Prelude.{◌≡◌, ℕ, suc, length, Bool, true, false, cond, List, [], ◌∷◌, Option, Some, map, option_map}
use Rattle.std.specs.declared.cmp.Ordering.{Ordering}
use Rattle.std.specs.declared.cmp.Ordering.TheVariants.{Less, Equal, Greater}
use Rattle.std.specs.Ordering.{nat_cmp}
use Rattle.std.specs.BTreeMap.{is_at}
use Rattle.std.proofs.Common.{refl, ap}
use Rattle.id_table.specs.Ids.{at, put, without, ids_of}
use Rattle.end_model.specs.Tunnels.{Tunnel}
use Rattle.tunnel_core.specs.Cores.{Core, tunnel_of}

-- the tunnels of a table, without the room that was made in them
abbrev pub tunnels_of : List (ℕ × Core) → List (ℕ × Tunnel)
tunnels_of cores = map (λ e. (e.0, tunnel_of e.1)) cores

at_by : (b : Bool) (c : Core) (o : Option Core) (p : Option Tunnel) → p ≡ option_map tunnel_of o → cond b (Some (tunnel_of c)) p ≡ option_map tunnel_of (cond b (Some c) o)
at_by true c o p h = refl
at_by false c o p h = h

pub at_tunnels : (es : List (ℕ × Core)) (i : ℕ) → at (tunnels_of es) i ≡ option_map tunnel_of (at es i)
unfolding at
at_tunnels [] i = refl
at_tunnels (e ∷ es) i = at_by (is_at (nat_cmp i) e.0) e.1 _ _ (at_tunnels es i)

put_by : (e : ℕ × Core) (es : List (ℕ × Core)) (i : ℕ) (c : Core) → tunnels_of (put es i c) ≡ put (tunnels_of es) i (tunnel_of c) → (o : Ordering) → nat_cmp i e.0 ≡ o → tunnels_of (put (e ∷ es) i c) ≡ put (tunnels_of (e ∷ es)) i (tunnel_of c)
unfolding put
put_by e es i c ih Less h = rw h refl
put_by e es i c ih Equal h = rw h refl
put_by e es i c ih Greater h = rw h (ap (λ ts. (e.0, tunnel_of e.1) ∷ ts) ih)

pub put_tunnels : (es : List (ℕ × Core)) (i : ℕ) (c : Core) → tunnels_of (put es i c) ≡ put (tunnels_of es) i (tunnel_of c)
unfolding put
put_tunnels [] i c = refl
put_tunnels (e ∷ es) i c = put_by e es i c (put_tunnels es i c) (nat_cmp i e.0) refl

without_by : (b : Bool) (e : ℕ × Core) (es : List (ℕ × Core)) (i : ℕ) → tunnels_of (without es i) ≡ without (tunnels_of es) i → tunnels_of (cond b es (e ∷ without es i)) ≡ cond b (tunnels_of es) ((e.0, tunnel_of e.1) ∷ without (tunnels_of es) i)
without_by true e es i ih = refl
without_by false e es i ih = ap (λ ts. (e.0, tunnel_of e.1) ∷ ts) ih

pub without_tunnels : (es : List (ℕ × Core)) (i : ℕ) → tunnels_of (without es i) ≡ without (tunnels_of es) i
unfolding without
without_tunnels [] i = refl
without_tunnels (e ∷ es) i = without_by (is_at (nat_cmp i) e.0) e es i (without_tunnels es i)

pub ids_tunnels : (es : List (ℕ × Core)) → ids_of (tunnels_of es) ≡ ids_of es
ids_tunnels [] = refl
ids_tunnels (e ∷ es) = ap (λ is. e.0 ∷ is) (ids_tunnels es)

pub length_tunnels : (es : List (ℕ × Core)) → length (tunnels_of es) ≡ length es
length_tunnels [] = refl
length_tunnels (e ∷ es) = ap (λ n. suc n) (length_tunnels es)
