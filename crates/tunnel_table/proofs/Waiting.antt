-- Bounds below what is due in the tunnels of a table, and the tunnels that may wait.
use Rattle.std.specs.Prelude.{◌≡◌, ℕ, nat_lt, min, IsTrue, List, [], Option, Some, option_map}
use Rattle.std.specs.List.{AllByRecursion}
use Rattle.std.specs.List.Sorted.{IsStrictlySortedBy}
use Rattle.std.specs.Ordering.{nat_cmp}
use Rattle.std.specs.Prelude.{IsSome}
use Rattle.std.proofs.Common.{sym, ap, subst, ◌∙◌}
use Rattle.std.proofs.lemmas.Bool.{ltb-true}
use Rattle.std.proofs.lemmas.Option.{same_Some}
use Rattle.id_table.specs.Ids.{at, put, ids_of}
use Rattle.id_table.specs.Order.{Ascends}
use Rattle.end_model.specs.Tunnels.{Tunnel}
use Rattle.tunnel_core.specs.Cores.{Core, tunnel_of}
use Rattle.tunnel_timers.specs.Due.{earliest, earliest_at, tunnel_due, tunnels_due, IsNoLater, LeavesOut, IsEarly}
use Rattle.tunnel_timers.specs.Moments.{below_bound}
use Rattle.tunnel_timers.specs.Bounds.{tunnels_put, earliest_is, rest_holds, rest_ascend, all_there}
use Rattle.tunnel_table.specs.Tunnels.{tunnels_of, at_tunnels, ids_tunnels}

-- before what is a bound of a tunnel, that one is early
pub early_at : (es : List (ℕ × Core)) (moment due id : ℕ) (core : Core) → at es id ≡ Some core → IsNoLater due (tunnel_due (tunnel_of core))
    → IsTrue (nat_lt moment due) → IsEarly (tunnels_of es) moment id
early_at es moment due id core there bound lt = λ t found.
    let same : tunnel_of core ≡ t = same_Some (tunnel_of core) t (sym (at_tunnels es id ∙ ap (λ (o : Option Core). option_map tunnel_of o) there) ∙ found) in
    below_bound due moment (tunnel_due t) (subst (λ (x : Tunnel). IsNoLater due (tunnel_due x)) same bound) (ltb-true moment due lt)

pub none_due : (bound : ℕ) (es : List (ℕ × Core)) → es ≡ [] → IsNoLater bound (tunnels_due (tunnels_of es))
unfolding earliest
none_due bound es none = rw none tt

-- a tunnel is put
pub made_due : (bound due now : ℕ) (es gs : List (ℕ × Core)) (k : ℕ) (d : Core) → tunnels_of gs ≡ put (tunnels_of es) k (tunnel_of d) → now ≡ min bound due → IsNoLater due (tunnel_due (tunnel_of d))
    → IsNoLater bound (tunnels_due (tunnels_of es)) → IsNoLater now (tunnels_due (tunnels_of gs))
made_due bound due now es gs k d same is own all =
    subst (λ (ts : List (ℕ × Tunnel)). IsNoLater now (tunnels_due ts)) (sym same) (tunnels_put bound due now (tunnels_of es) k (tunnel_of d) is own all)

-- all tunnels were looked at
pub looked_due : (due : ℕ) (es fs : List (ℕ × Core)) (ids : List ℕ) → tunnels_of fs ≡ tunnels_of es → ids ≡ ids_of es → Ascends (tunnels_of es) → IsNoLater due (earliest_at (λ t. tunnel_due t.1) (tunnels_of fs) ids)
    → IsNoLater due (tunnels_due (tunnels_of fs))
looked_due due es fs ids same all ascend bound =
    let are : ids ≡ ids_of (tunnels_of fs) = all ∙ sym (ids_tunnels es) ∙ ap (λ (ts : List (ℕ × Tunnel)). ids_of ts) (sym same) in
    subst (λ o. IsNoLater due o) (earliest_is (λ t. tunnel_due t.1) (tunnels_of fs) (subst (λ (ts : List (ℕ × Tunnel)). Ascends ts) (sym same) ascend))
    (subst (λ (is : List ℕ). IsNoLater due (earliest_at (λ t. tunnel_due t.1) (tunnels_of fs) is)) are bound)

-- those that are left ascend, and each is there
pub left_ascend : (es : List (ℕ × Core)) (moment : ℕ) (ids js : List ℕ) → ids ≡ ids_of es → IsStrictlySortedBy nat_cmp ids → LeavesOut (IsEarly (tunnels_of es) moment) ids js → IsStrictlySortedBy nat_cmp js
left_ascend es moment ids js all ascend left = rest_ascend (IsEarly (tunnels_of es) moment) ids js left ascend

pub left_there : (es : List (ℕ × Core)) (moment : ℕ) (ids js : List ℕ) → ids ≡ ids_of es → Ascends (tunnels_of es) → LeavesOut (IsEarly (tunnels_of es) moment) ids js → AllByRecursion (λ i. IsSome (at (tunnels_of es) i)) js
left_there es moment ids js all ascend left =
    let are : ids_of (tunnels_of es) ≡ ids = ids_tunnels es ∙ sym all in
    rest_holds (IsEarly (tunnels_of es) moment) (λ i. IsSome (at (tunnels_of es) i)) ids js left
    (subst (λ (is : List ℕ). AllByRecursion (λ i. IsSome (at (tunnels_of es) i)) is) are (all_there (λ t. tunnel_due t.1) (tunnels_of es) ascend))
