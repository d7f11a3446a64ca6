-- The tunnels of a table after what was planned for one of them.
use Rattle.std.specs.Prelude.{◌≡◌, ◌≢◌, ℕ, Bool, true, false, List, Some, option_map}
use Rattle.std.proofs.Common.{refl, ap, ◌∙◌}
use Rattle.id_table.specs.Ids.{at, put, without}
use Rattle.id_table.specs.Order.{Ascends, at_other, put-again}
use Rattle.end_model.specs.Tunnels.{Tunnel}
use Rattle.end_model.specs.End.{tunnels_after}
use Rattle.tunnel_core.specs.Cores.{Core, Plan, tunnel_of, made_of}
use Rattle.tunnel_table.specs.Plans.{after_plan}
use Rattle.tunnel_table.specs.Tunnels.{tunnels_of, at_tunnels, put_tunnels, without_tunnels}

module _ (es gs : List (ℕ × Core)) (k : ℕ) (d : Core) (changed : gs ≡ put es k d) where
  -- a tunnel that was changed in its place
  pub put_changed : tunnels_of gs ≡ put (tunnels_of es) k (tunnel_of d)
  put_changed = ap tunnels_of changed ∙ put_tunnels es k d

  -- or that stands for what it stood for
  pub put_same : Ascends (tunnels_of es) → (c : Core) → at es k ≡ Some c → tunnel_of d ≡ tunnel_of c → tunnels_of gs ≡ tunnels_of es
  put_same ascend c there same =
      put_changed ∙ ap (λ (t : Tunnel). put (tunnels_of es) k t) same
      ∙ put-again k (tunnel_of c) (tunnels_of es) ascend (at_tunnels es k ∙ ap (λ o. option_map tunnel_of o) there)

  -- the others are as they were
  pub others_same : (q : ℕ) → q ≢ k → at gs q ≡ at es q
  others_same q apart = ap (λ x. at x q) changed ∙ at_other es k d q apart

  pub kept_made : (p : Plan) (c : Core) → at es k ≡ Some c → p.cleared ≡ false → tunnel_of d ≡ made_of p (tunnel_of c)
      → tunnels_of gs ≡ after_plan (tunnels_of es) (k, p) (at (tunnels_of es) k)
  kept_made p c there kept made =
      let is : at (tunnels_of es) k ≡ Some (tunnel_of c) = at_tunnels es k ∙ ap (λ o. option_map tunnel_of o) there in
      put_changed ∙ ap (λ (t : Tunnel). put (tunnels_of es) k t) made ∙ rw (is, kept) refl

pub cleared_made : (es fs : List (ℕ × Core)) (id : ℕ) (p : Plan) (core : Core) → at es id ≡ Some core → p.cleared ≡ true → fs ≡ without es id
    → tunnels_of fs ≡ after_plan (tunnels_of es) (id, p) (at (tunnels_of es) id)
cleared_made es fs id p core there cleared removed =
    let is : at (tunnels_of es) id ≡ Some (tunnel_of core) = at_tunnels es id ∙ ap (λ o. option_map tunnel_of o) there in
    ap tunnels_of removed ∙ without_tunnels es id ∙ rw (is, cleared) refl

-- ---- a tunnel that is new

pub new_cleared : (es fs : List (ℕ × Core)) (id : ℕ) (b : Bool) (t : Tunnel) → b ≡ true → fs ≡ without es id
    → tunnels_of fs ≡ tunnels_after (tunnels_of es) id b t
new_cleared es fs id b t cleared removed = ap tunnels_of removed ∙ without_tunnels es id ∙ rw cleared refl

pub new_kept : (es fs : List (ℕ × Core)) (id : ℕ) (b : Bool) (c : Core) (t : Tunnel) → b ≡ false → fs ≡ put es id c → tunnel_of c ≡ t
    → tunnels_of fs ≡ tunnels_after (tunnels_of es) id b t
new_kept es fs id b c t kept put_is made =
    ap tunnels_of put_is ∙ put_tunnels es id c ∙ ap (λ (u : Tunnel). put (tunnels_of es) id u) made ∙ rw kept refl
