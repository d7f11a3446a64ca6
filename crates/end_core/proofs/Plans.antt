-- What an end's tick makes of it.
use Rattle.std.proofs.Common.{◌≡◌, ℕ, zero, suc, ◌+◌, ◌<◌, Bool, true, false, cond, length, List, [], ◌∷◌, ◌++◌, take, get_or, Option, Some, None, refl, ap, sym, subst, ◌∙◌, arith, true≢false}
use Rattle.std.proofs.lemmas.Bool.{eq-eqb}
use Rattle.std.proofs.lemmas.List.{append_assoc, append-nil, take_more}
use Rattle.std.proofs.lemmas.Grind.{flat_map-append}
use Rattle.std.specs.Prelude.{◌≢◌, IsSome, IfSome, option_map}
use Rattle.std.specs.List.{AllByRecursion, flat_map}
use Rattle.std.specs.List.Sorted.{IsStrictlySortedBy}
use Rattle.std.specs.declared.cmp.Ordering.TheVariants.{Less}
use Rattle.std.specs.Ordering.{nat_cmp}
use Rattle.std.specs.BTreeMap.{is_at}
use Rattle.std.proofs.lemmas.Bool.Decides.{nat_tests}
use Rattle.id_table.specs.Ids.{at, ids_of, is_at-same}
use Rattle.id_table.specs.Order.{Ascends, at_other, at_without_other}
use Rattle.tunnel_timers.specs.Due.{LeavesOut, IsEarly}
use Rattle.due_laws.specs.Ticks.{TunnelsMayBeLeftOut}
use Rattle.id_table.specs.Tables.{Kept}
use Rattle.end_model.specs.declared.tunnel.CallPlace.{CallPlace}
use Rattle.session_looks.specs.declared.look.CellChange.{CellChange}
use Rattle.end_model.specs.declared.tunnel.Config.{Config}
use Rattle.end_names.specs.declared.role.Role.{Role}
use Rattle.end_model.specs.declared.event.Event.{Event}
use Rattle.end_model.specs.declared.event.Event.TheVariants.{Tick}
use Rattle.end_model.specs.declared.out.Out.{Out}
use Rattle.end_model.specs.declared.moves.Move.{Move}
use Rattle.end_model.specs.Tunnels.{Tunnel, Env, turn_in}
use Rattle.end_model.specs.Turn.{with_turn}
use Rattle.end_model.specs.Recovering.{RecoveryTurn, recovering_turns}
use Rattle.end_model.specs.End.{End, Stepped, env_of, placed, with_look, with_looks, tunnels_after, after_both, after_turn, Turned, tick_of, ticks_of, end_after_all, after_all, ticks_all}
use Rattle.tunnel_table.specs.Cores.{Core, Plan, IsTurn, tunnel_of, made_of}
use Rattle.tunnel_table.specs.Plans.{turn_at, HasPlace, after_plan, IsPlanned, IsGiven}
use Rattle.tunnel_table.specs.Tunnels.{tunnels_of, at_tunnels, ids_tunnels}
use Rattle.end_core.specs.Ticking.{with_tunnels, tick_at, ticks_at, ArePlanned, with_ticks, HavePlaces, after_plans}
use Rattle.end_core.proofs.Draws.{turn_drawn}

-- ---- one tunnel is planned

-- what a turn gave, as a list of turns of which it is the only one
pub one_given : (role : Role) (c : Config) (es : List (ℕ × Core)) (env now : Env) (id : ℕ) (o : Option Tunnel) → IsSome o → IfSome o (λ t. now ≡ with_turn (recovering_turns role c t Tick (turn_in t env)).turn env)
    → now ≡ with_ticks (tick_of (with_tunnels role c es) env id o) env
unfolding with_turn with_ticks
one_given role c es env now id None some given = absurd (true≢false (sym some))
one_given role c es env now id (Some u) some given =
    let r = recovering_turns role c u Tick (turn_in u env) in
    let t = r.turn in
    let d = turn_drawn role c u (turn_in u env) in
    let ids = ap (λ x. x.1) d in
    given ∙ rw (ids, append-nil t.outputs, append-nil t.changes, append-nil t.moves) refl

pub one_planned : (role : Role) (c : Config) (es : List (ℕ × Core)) (env : Env) (id : ℕ) (o : Option Tunnel) → IsSome o → (p : Plan) → IfSome o (λ t. IsTurn p t.recovery (recovering_turns role c t Tick (turn_in t env)))
    → ArePlanned ((id, p) ∷ []) (tick_of (with_tunnels role c es) env id o)
unfolding ArePlanned
one_planned role c es env id None some p h = absurd (true≢false (sym some))
one_planned role c es env id (Some t) some p h = (refl, h, tt)

-- ---- lists of plans

-- a plan that was made for another tunnel leaves room as it was
pub places_stay : (old new : Kept Core) (ps : List (ℕ × Plan)) (id : ℕ) → ((q : ℕ) → q ≢ id → at new.entries q ≡ at old.entries q) → AllByRecursion (λ i. i ≢ id) (ids_of ps) → HavePlaces old ps → HavePlaces new ps
places_stay old new [] id others apart h = tt
places_stay old new (p ∷ ps) id others apart h =
    (record { core = h.0.core; there = others p.0 apart.0 ∙ h.0.there; room = h.0.room }, places_stay old new ps id others apart.1 h.1)

pub places_more : (kept : Kept Core) (ps : List (ℕ × Plan)) (p : ℕ × Plan) → HavePlaces kept ps → HasPlace kept p → HavePlaces kept (ps ++ p ∷ [])
places_more kept [] p h one = (one, tt)
places_more kept (q ∷ ps) p h one = (h.0, places_more kept ps p h.1 one)

pub planned_more : (ps qs : List (ℕ × Plan)) (ts us : List Turned) → ArePlanned ps ts → ArePlanned qs us → ArePlanned (ps ++ qs) (ts ++ us)
unfolding ArePlanned
planned_more [] qs [] us h k = k
planned_more [] qs (t ∷ ts) us h k = absurd h
planned_more (p ∷ ps) qs [] us h k = absurd h
planned_more (p ∷ ps) qs (t ∷ ts) us h k = (h.0, h.1, planned_more ps qs ts us h.2 k)

pub ids_more : (ps : List (ℕ × Plan)) (p : ℕ × Plan) → ids_of (ps ++ p ∷ []) ≡ ids_of ps ++ p.0 ∷ []
ids_more [] p = refl
ids_more (q ∷ ps) p = ap (λ is. q.0 ∷ is) (ids_more ps p)

less_apart : (i j : ℕ) → nat_cmp i j ≡ Less → i ≢ j
less_apart i j less same = grind (arith, nat_tests)

below_apart : (i : ℕ) (is : List ℕ) → AllByRecursion (λ j. nat_cmp i j ≡ Less) is → AllByRecursion (λ j. j ≢ i) is
below_apart i [] h = tt
below_apart i (j ∷ js) h = ((λ s. less_apart i j h.0 (sym s)), below_apart i js h.1)

below_at : (i : ℕ) (is : List ℕ) (k : ℕ) → k < length is → AllByRecursion (λ j. nat_cmp i j ≡ Less) is → nat_cmp i (get_or is k 0) ≡ Less
below_at i [] k lt h = absurd (omega (arith, lt))
below_at i (j ∷ js) zero lt h = h.0
below_at i (j ∷ js) (suc k) lt h = below_at i js k (omega (arith, lt)) h.1

-- those before an id are other ones
pub before_apart : (is : List ℕ) (k : ℕ) → k < length is → IsStrictlySortedBy nat_cmp is → AllByRecursion (λ i. i ≢ get_or is k 0) (take k is)
unfolding IsStrictlySortedBy
before_apart [] k lt h = absurd (omega (arith, lt))
before_apart (i ∷ is) zero lt h = tt
before_apart (i ∷ is) (suc k) lt h = (less_apart i (get_or is k 0) (below_at i is k (omega (arith, lt)) h.0), before_apart is k (omega (arith, lt)) h.1)

-- those behind the first one are other ones
pub after_apart : (i : ℕ) (is : List ℕ) → IsStrictlySortedBy nat_cmp (i ∷ is) → AllByRecursion (λ j. j ≢ i) is × IsStrictlySortedBy nat_cmp is
unfolding IsStrictlySortedBy
after_apart i is h = (below_apart i is h.0, h.1)

-- what holds of all ids holds of the one at each place
all_got : (P : ℕ → Type 0) (is : List ℕ) (k : ℕ) → k < length is → AllByRecursion P is → P (get_or is k 0)
all_got P [] k lt h = absurd (omega (arith, lt))
all_got P (i ∷ is) zero lt h = h.0
all_got P (i ∷ is) (suc k) lt h = all_got P is k (omega (arith, lt)) h.1

tunnel_some_by : (o : Option Core) → IsSome o → IsSome (option_map tunnel_of o)
tunnel_some_by None h = h
tunnel_some_by (Some c) h = refl

some_tunnel_by : (o : Option Core) → IsSome (option_map tunnel_of o) → IsSome o
some_tunnel_by None h = h
some_tunnel_by (Some c) h = refl

pub tunnel_some : (es : List (ℕ × Core)) (i : ℕ) → IsSome (at es i) → IsSome (at (tunnels_of es) i)
tunnel_some es i h = rw (at_tunnels es i) (tunnel_some_by (at es i) h)

some_tunnel : (es : List (ℕ × Core)) (i : ℕ) → IsSome (at (tunnels_of es) i) → IsSome (at es i)
some_tunnel es i h = some_tunnel_by (at es i) (subst (λ (o : Option Tunnel). IsSome o) (at_tunnels es i) h)

-- ---- turns, one after the other

pub with_none : (env : Env) → with_ticks [] env ≡ env
unfolding with_ticks
with_none env = rw (append-nil env.outputs, append-nil env.changes, append-nil env.moves) refl

pub with_more : (ts us : List Turned) (env : Env) → with_ticks us (with_ticks ts env) ≡ with_ticks (ts ++ us) env
unfolding with_ticks
with_more ts us env =
    rw (flat_map-append (λ (t : Turned). t.turn.turn.outputs) ts us, flat_map-append (λ (t : Turned). t.turn.turn.changes) ts us, flat_map-append (λ (t : Turned). t.turn.turn.moves) ts us, append_assoc env.outputs (flat_map (λ (t : Turned). t.turn.turn.outputs) ts) (flat_map (λ (t : Turned). t.turn.turn.outputs) us), append_assoc env.changes (flat_map (λ (t : Turned). t.turn.turn.changes) ts) (flat_map (λ (t : Turned). t.turn.turn.changes) us), append_assoc env.moves (flat_map (λ (t : Turned). t.turn.turn.moves) ts) (flat_map (λ (t : Turned). t.turn.turn.moves) us)) refl

pub ticks_more : (e : End) (env : Env) (is js : List ℕ) → ticks_of e env (is ++ js) ≡ ticks_of e env is ++ ticks_of e env js
unfolding ticks_of
ticks_more e env [] js = refl
ticks_more e env (i ∷ is) js = ap (λ ts. tick_of e env i (at e.tunnels i) ++ ts) (ticks_more e env is js) ∙ sym (append_assoc (tick_of e env i (at e.tunnels i)) (ticks_of e env is) (ticks_of e env js))

-- a turn by itself asks nothing of what the turns before it gave
same_tick : (e : End) (ts : List Turned) (env : Env) (i : ℕ) (o : Option Tunnel) → tick_of e (with_ticks ts env) i o ≡ tick_of e env i o
unfolding with_ticks
same_tick e ts env i o = refl

-- the turns as far as the next id
pub ticks_next : (e : End) (env : Env) (is : List ℕ) (k : ℕ) → k < length is → ticks_of e env (take (k + 1) is) ≡ ticks_of e env (take k is) ++ tick_of e env (get_or is k 0) (at e.tunnels (get_or is k 0))
unfolding ticks_of
ticks_next e env is k lt =
    let i = get_or is k 0 in
    ap (λ js. ticks_of e env js) (take_more is k 0 lt) ∙ ticks_more e env (take k is) (i ∷ []) ∙ ap (λ ts. ticks_of e env (take k is) ++ ts) (append-nil (tick_of e env i (at e.tunnels i)))

-- ---- all are planned

-- what is planned for the tunnels with these ids
pub record AllPlanned (role : Role) (c : Config) (es : List (ℕ × Core)) (env : Env) (is : List ℕ) (kept : Kept Core) (now : Env) (ps : List (ℕ × Plan)) : Type 0 where
  pub same : tunnels_of kept.entries ≡ tunnels_of es
  pub planned : ArePlanned ps (ticks_at role c es env is)
  pub places : HavePlaces kept ps
  pub ids : ids_of ps ≡ is
  pub given : now ≡ with_ticks (ticks_at role c es env is) env

module _ (role : Role) (c : Config) (es : List (ℕ × Core)) (env : Env) where
  pub none_planned : (kept : Kept Core) (ps : List (ℕ × Plan)) → kept.entries ≡ es → ps ≡ [] → AllPlanned role c es env [] kept env ps
  unfolding ArePlanned ticks_of
  none_planned kept ps same none =
      record {
        same = ap tunnels_of same;
        planned = subst (λ xs. ArePlanned xs []) (sym none) tt;
        places = subst (λ xs. HavePlaces kept xs) (sym none) tt;
        ids = ap ids_of none;
        given = sym (with_none env);
      }

  module _ (is : List ℕ) (ascend : IsStrictlySortedBy nat_cmp is) (k : ℕ) (lt : k < length is) (old new : Kept Core) (now later : Env) (ps : List (ℕ × Plan)) (h : AllPlanned role c es env (take k is) old now ps) where
    abbrev next : ℕ
    next = get_or is k 0

    tick_is : tick_at role c old.entries now next ≡ tick_at role c es env next
    tick_is =
        ap (λ (ts : List (ℕ × Tunnel)). tick_of (with_tunnels role c es) now next (at ts next)) h.same
        ∙ ap (λ (x : Env). tick_of (with_tunnels role c es) x next (at (tunnels_of es) next)) h.given
        ∙ same_tick (with_tunnels role c es) (ticks_at role c es env (take k is)) env next (at (tunnels_of es) next)

    all_are : ticks_at role c es env (take (k + 1) is) ≡ ticks_at role c es env (take k is) ++ tick_at role c es env next
    all_are = ticks_next (with_tunnels role c es) env is k lt

    pub there : AllByRecursion (λ i. IsSome (at (tunnels_of es) i)) is → IsSome (at old.entries next)
    there all =
        some_tunnel old.entries next (subst (λ (ts : List (ℕ × Tunnel)). IsSome (at ts next)) (sym h.same) (all_got (λ i. IsSome (at (tunnels_of es) i)) is k lt all))

    pub next_planned : (p : Plan) → tunnels_of new.entries ≡ tunnels_of old.entries → ((q : ℕ) → q ≢ next → at new.entries q ≡ at old.entries q) → ArePlanned ((next, p) ∷ []) (tick_at role c old.entries now next) → HasPlace new (next, p) → later ≡ with_ticks (tick_at role c old.entries now next) now → (qs : List (ℕ × Plan)) → qs ≡ ps ++ (next, p) ∷ [] → AllPlanned role c es env (take (k + 1) is) new later qs
    next_planned p same others planned place given qs are =
        let one : AllPlanned role c es env (take (k + 1) is) new later (ps ++ (next, p) ∷ []) =
        record {
          same = same ∙ h.same;
          planned = subst (λ ts. ArePlanned (ps ++ (next, p) ∷ []) ts) (sym all_are) (planned_more ps ((next, p) ∷ []) (ticks_at role c es env (take k is)) (tick_at role c es env next) h.planned (subst (λ ts. ArePlanned ((next, p) ∷ []) ts) tick_is planned));
          places = places_more new ps (next, p) (places_stay old new ps next others (subst (λ js. AllByRecursion (λ i. i ≢ next) js) (sym h.ids) (before_apart is k lt ascend)) h.places) place;
          ids = ids_more ps (next, p) ∙ ap (λ js. js ++ next ∷ []) h.ids ∙ sym (take_more is k 0 lt);
          given = given ∙ ap (λ ts. with_ticks ts now) tick_is ∙ ap (λ (x : Env). with_ticks (tick_at role c es env next) x) h.given ∙ with_more (ticks_at role c es env (take k is)) (tick_at role c es env next) env ∙ ap (λ ts. with_ticks ts env) (sym all_are);
        } in
        subst (λ xs. AllPlanned role c es env (take (k + 1) is) new later xs) (sym are) one

-- ---- all are made

-- the first plan is made, and the others are left
pub made_next : (old new : Kept Core) (p : ℕ × Plan) (ps qs : List (ℕ × Plan)) → qs ≡ p ∷ ps → tunnels_of new.entries ≡ after_plan (tunnels_of old.entries) p (at (tunnels_of old.entries) p.0) → ((q : ℕ) → q ≢ p.0 → at new.entries q ≡ at old.entries q) → IsStrictlySortedBy nat_cmp (ids_of qs) → HavePlaces old qs → (after_plans ps (tunnels_of new.entries) ≡ after_plans qs (tunnels_of old.entries)) × HavePlaces new ps × IsStrictlySortedBy nat_cmp (ids_of ps)
unfolding after_plans
made_next old new p ps qs are made others ascend places =
    let sorted = after_apart p.0 (ids_of ps) (subst (λ xs. IsStrictlySortedBy nat_cmp (ids_of xs)) are ascend) in (
      ap (after_plans ps) made ∙ ap (λ xs. after_plans xs (tunnels_of old.entries)) (sym are),
      places_stay old new ps p.0 others sorted.0 (subst (λ xs. HavePlaces old xs) are places).1,
      sorted.1,
    )

looks_more : (cs ds : List CellChange) (places : List (ℕ × CallPlace)) → with_looks (cs ++ ds) places ≡ with_looks ds (with_looks cs places)
unfolding with_looks
looks_more [] ds places = refl
looks_more (c ∷ cs) ds places = looks_more cs ds (with_look c places)

other_left : (ts : List (ℕ × Tunnel)) (i : ℕ) (b : Bool) (t : Tunnel) (q : ℕ) → q ≢ i → at (tunnels_after ts i b t) q ≡ at ts q
other_left ts i true t q apart = at_without_other ts i q apart
other_left ts i false t q apart = at_other ts i t q apart

other_stays : (ts : List (ℕ × Tunnel)) (p : ℕ × Plan) (o : Option Tunnel) (q : ℕ) → q ≢ p.0 → at (after_plan ts p o) q ≡ at ts q
other_stays ts p None q apart = refl
other_stays ts p (Some t) q apart = other_left ts p.0 p.1.cleared (made_of p.1 t) q apart

-- an end after plans and changes of looks, with where ids are drawn from
abbrev left : End → Env → List (ℕ × Tunnel) → List (ℕ × CallPlace) → End
left x start tunnels calls = record x { tunnel_ids = start.ids.tunnels; session_ids = start.ids.sessions; recovery_ids = start.ids.recoveries; tunnels = tunnels; calls = calls }

one_made : (x : End) (start : Env) (i : ℕ) (t : Tunnel) (r : RecoveryTurn) (p : ℕ × Plan) → p.0 ≡ i → IsTurn p.1 t.recovery r → at x.tunnels i ≡ Some t → r.turn.added ≡ [] → r.turn.ids ≡ start.ids
    → (after_both x i t r).end ≡ left x start (after_plan x.tunnels p (at x.tunnels p.0)) (with_looks r.turn.changes x.calls)
unfolding after_turn placed
one_made x start i t r p id plan there added ids =
    rw (id, there, ids, added, plan.control, plan.query, plan.acked, plan.given, plan.cleared, plan.changed, plan.recovery) refl

-- the tunnels of these plans are as before
abbrev Untouched : End → End → List (ℕ × Plan) → Type 0
Untouched v x ps = AllByRecursion (λ p. at x.tunnels p.0 ≡ at v.tunnels p.0) ps

still_untouched : (v x : End) (start : Env) (p : ℕ × Plan) (calls : List (ℕ × CallPlace)) (ps : List (ℕ × Plan)) → AllByRecursion (λ j. j ≢ p.0) (ids_of ps) → Untouched v x ps → Untouched v (left x start (after_plan x.tunnels p (at x.tunnels p.0)) calls) ps
still_untouched v x start p calls [] apart h = tt
still_untouched v x start p calls (q ∷ ps) apart h = (other_stays x.tunnels p (at x.tunnels p.0) q.0 apart.0 ∙ h.0, still_untouched v x start p calls ps apart.1 h.1)

module _ (v : End) (start : Env) where
  abbrev Leaves : List Turned → Type 0
  Leaves ts = (ps : List (ℕ × Plan)) → ArePlanned ps ts → IsStrictlySortedBy nat_cmp (ids_of ps) → (x : End) → x.tunnel_ids ≡ start.ids.tunnels → x.session_ids ≡ start.ids.sessions → x.recovery_ids ≡ start.ids.recoveries → Untouched v x ps
      → end_after_all ts x ≡ left x start (after_plans ps x.tunnels) (with_looks (flat_map (λ t. t.turn.turn.changes) ts) x.calls)

  none_left : Leaves []
  unfolding end_after_all after_plans with_looks ArePlanned
  none_left [] planned ascend x tunnels sessions recoveries same = rw (sym tunnels, sym sessions, sym recoveries) refl
  none_left (p ∷ ps) planned ascend x tunnels sessions recoveries same = absurd planned

  next_left : (i : ℕ) (t : Tunnel) (ts : List Turned) → at v.tunnels i ≡ Some t → Leaves ts → Leaves (tick_of v start i (Some t) ++ ts)
  unfolding end_after_all after_plans ArePlanned
  next_left i t ts there later [] planned ascend x tunnels sessions recoveries same = absurd planned
  next_left i t ts there later (p ∷ ps) planned ascend x tunnels sessions recoveries same =
      let r = recovering_turns v.role v.config t Tick (turn_in t start) in
      let d = turn_drawn v.role v.config t (turn_in t start) in
      let is : at x.tunnels i ≡ Some t = subst (λ q. at x.tunnels q ≡ at v.tunnels q) planned.0 same.0 ∙ there in
      let y = left x start (after_plan x.tunnels p (at x.tunnels p.0)) (with_looks r.turn.changes x.calls) in
      let one = one_made x start i t r p planned.0 planned.1 is (ap (λ k. k.0) d) (ap (λ k. k.1) d) in
      let sorted = after_apart p.0 (ids_of ps) ascend in
      ap (end_after_all ts) one
      ∙ later ps planned.2 sorted.1 y refl refl refl (still_untouched v x start p (with_looks r.turn.changes x.calls) ps sorted.0 same.1)
      ∙ ap (λ (cs : List (ℕ × CallPlace)). left x start (after_plans ps (after_plan x.tunnels p (at x.tunnels p.0))) cs) (sym (looks_more r.turn.changes (flat_map (λ t. t.turn.turn.changes) ts) x.calls))

  left_by : (i : ℕ) (ts : List Turned) (o : Option Tunnel) → at v.tunnels i ≡ o → Leaves ts → Leaves (tick_of v start i o ++ ts)
  left_by i ts None there later = later
  left_by i ts (Some t) there later = next_left i t ts there later

  all_left : (is : List ℕ) → Leaves (ticks_of v start is)
  unfolding ticks_of
  all_left [] = none_left
  all_left (i ∷ is) = left_by i (ticks_of v start is) (at v.tunnels i) refl (all_left is)

untouched : (v : End) (ps : List (ℕ × Plan)) → Untouched v v ps
untouched v [] = tt
untouched v (p ∷ ps) = (refl, untouched v ps)

-- a turn asks nothing of an end but its role, its configuration and the tunnel
pub ticks_are : (v : End) (es : List (ℕ × Core)) (env : Env) (is : List ℕ) → v.tunnels ≡ tunnels_of es → ticks_at v.role v.config es env is ≡ ticks_of v env is
unfolding ticks_of
ticks_are v es env [] same = refl
ticks_are v es env (i ∷ is) same =
    ap (λ ts. tick_at v.role v.config es env i ++ ts) (ticks_are v es env is same) ∙ ap (λ (tunnels : List (ℕ × Tunnel)). tick_of v env i (at tunnels i) ++ ticks_of v env is) (sym same)

same_parts : (s u : Stepped) → s.end ≡ u.end → s.outputs ≡ u.outputs → s.moves ≡ u.moves → s ≡ u
same_parts s u a b c = ap (λ (x : End). record { end = x; outputs = s.outputs; moves = s.moves }) a ∙ ap (λ (x : List Out). record { end = u.end; outputs = x; moves = s.moves }) b ∙ ap (λ (x : List Move). record { end = u.end; outputs = u.outputs; moves = x }) c

-- those tunnels aren't due that aren't among these, so the tick is that of these
pub others_wait : (v : End) (moment : ℕ) (block : List ℕ) (is : List ℕ) → TunnelsMayBeLeftOut → Ascends v.tunnels → (js : List ℕ) → is ≡ js → LeavesOut (IsEarly v.tunnels moment) (ids_of v.tunnels) js
    → ticks_all v (env_of v moment block) ≡ after_all (ticks_of v (env_of v moment block) is) v
others_wait v moment block is law ascend js same left =
    law v ascend moment block is (subst (λ (ks : List ℕ). LeavesOut (IsEarly v.tunnels moment) (ids_of v.tunnels) ks) (sym same) left)

-- what is planned of the turns of these tunnels, where the others may be left out, and the environment that took in what they gave
module _ (v : End) (moment : ℕ) (block : List ℕ) (es : List (ℕ × Core)) (same : v.tunnels ≡ tunnels_of es) (is : List ℕ) (ps : List (ℕ × Plan)) (ascend : IsStrictlySortedBy nat_cmp (ids_of ps)) where
  abbrev start : Env
  start = env_of v moment block

  abbrev turned : List Turned
  turned = ticks_of v start is

  turned_are : ticks_at v.role v.config es start is ≡ turned
  turned_are = ticks_are v es start is same

  pub all_is : ticks_all v start ≡ after_all turned v → (env : Env) (s : Stepped) → ArePlanned ps (ticks_at v.role v.config es start is) → env ≡ with_ticks (ticks_at v.role v.config es start is) start → s.end ≡ record v { tunnels = after_plans ps v.tunnels; calls = with_looks env.changes v.calls } → s.outputs ≡ env.outputs → s.moves ≡ env.moves → ticks_all v start ≡ s
  unfolding after_all with_ticks
  all_is others env s planned given end outputs moves =
      let now : env ≡ with_ticks turned start = given ∙ ap (λ ts. with_ticks ts start) turned_are in
      let ended = all_left v start is ps (subst (λ ts. ArePlanned ps ts) turned_are planned) ascend v refl refl refl (untouched v ps) in
      others
      ∙ same_parts (after_all turned v) s
      (ended ∙ ap (λ (x : Env). record v { tunnels = after_plans ps v.tunnels; calls = with_looks x.changes v.calls }) (sym now) ∙ sym end)
      (sym (outputs ∙ ap (λ (x : Env). x.outputs) now))
      (sym (moves ∙ ap (λ (x : Env). x.moves) now))
