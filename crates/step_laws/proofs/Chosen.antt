-- The tunnel over which a ring goes: the first that is found is the least, and where none is found there is none.
use Rattle.std.proofs.Common.{◌≡◌, ℕ, ◌≤◌, ◌<◌, Bool, true, false, cond, eqb, List, [], ◌∷◌, refl, sym, ap, ◌∙◌, Option, Some, None, arith}
use Rattle.std.proofs.lemmas.Bool.{eqb-true, eq-eqb, true≢false}
use Rattle.std.proofs.lemmas.Option.{none-some}
use Rattle.std.specs.List.{find}
use Rattle.std.specs.Prelude.{◌==◌, ◌&&◌, not, is_some}
use Rattle.id_table.specs.Ids.{at, at-cons, ids_of}
use Rattle.id_table.specs.Order.{IsAbove, Ascends, lower, at-above}
use Rattle.tunnel_fsm.specs.declared.table.TunnelState.{TunnelState}
use Rattle.tunnel_fsm.specs.declared.table.TunnelState.TheVariants.{Idle, WaitCtlReply, WaitCtlConn, Established, Closed}
use Rattle.tunnel_fsm.specs.Rows.{state_number}
use Rattle.end_model.specs.Tunnels.{Tunnel, mode_of, is_current}
use Rattle.end_model.specs.End.{End, is_in, least_in, is_recovering, are_recovering}
use Rattle.step_laws.specs.Room.{IsLeast, HasNone, IsRecovering}
use Rattle.step_laws.specs.Steps.{AreKept}
use Rattle.step_laws.proofs.Lists.{and_left, and_right, found_passes, none_passes, found_among, not_true}

-- ---- in a table

module _ {X : Type 0} where
  -- no id that a table has is below the first
  not_below : (e : ℕ × X) (es : List (ℕ × X)) (j : ℕ) (x : X) → IsAbove e.0 es → at (e ∷ es) j ≡ Some x → j < e.0 → ⊥
  not_below e es j x above there less =
      none-some x (sym (at-above j (e ∷ es) (less, lower j e.0 es less above)) ∙ there)

  -- the first that passes a test is the least that does
  pub found_least : (p : ℕ → Bool) (es : List (ℕ × X)) (i j : ℕ) (x : X) → Ascends es → find p (ids_of es) ≡ Some i → at es j ≡ Some x → p j ≡ true
      → i ≤ j
  unfolding Ascends
  found_least p [] i j x ascends found there passes = absurd cc
  found_least p (e ∷ es) i j x ascends found there passes =
      by (p e.0) refl found (eqb j e.0) refl (λ later met. found_least p es i j x ascends.1 later met passes)
    where
      at_first : i ≡ e.0 → i ≤ j
      at_first same = let none = not_below e es j x ascends.0 there in grind (arith)

      by : (b : Bool) → p e.0 ≡ b → cond b (Some e.0) (find p (ids_of es)) ≡ Some i → (c : Bool) → eqb j e.0 ≡ c
          → (find p (ids_of es) ≡ Some i → at es j ≡ Some x → i ≤ j) → i ≤ j
      by true is f c same later = at_first (let s : e.0 ≡ i = cc in sym s)
      by false is f true same later = absurd (true≢false (sym passes ∙ (ap p (eqb-true j e.0 same) ∙ is)))
      by false is f false other later = later f (let g = sym (at-cons e es j) ∙ there in rw other at g)

-- ---- tunnels

is_open : (a : TunnelState) → state_number a ≡ 3 → a ≡ Established
is_open Established h = refl
is_open Idle h = absurd cc
is_open WaitCtlReply h = absurd cc
is_open WaitCtlConn h = absurd cc
is_open Closed h = absurd cc

is_opening : (a : TunnelState) → state_number a ≡ 1 → a ≡ WaitCtlReply
is_opening WaitCtlReply h = refl
is_opening Idle h = absurd cc
is_opening WaitCtlConn h = absurd cc
is_opening Established h = absurd cc
is_opening Closed h = absurd cc

module _ (e : End) (kept : AreKept e) (s : TunnelState) (told : (a : TunnelState) → state_number a ≡ state_number s → a ≡ s) where
  abbrev passes : ℕ → Bool
  passes i = is_in s e.config.lns (at e.tunnels i)

  -- a tunnel that passes is to the LNS, and in the state
  passing : (o : Option Tunnel) → is_in s e.config.lns o ≡ true
      → (t : Tunnel) × (o ≡ Some t) × (t.control.peer ≡ e.config.lns) × (t.control.state ≡ s) × (is_current (mode_of t.recovery) ≡ true)
  passing None h = absurd (true≢false (sym h))
  passing (Some t) h =
      let state = state_number t.control.state == state_number s in
      let peer = t.control.peer == e.config.lns in
      let active = is_current (mode_of t.recovery) in
      let both = and_left (state && peer) active h in (
        t,
        refl,
        eqb-true t.control.peer e.config.lns (and_right state peer both),
        told t.control.state (eqb-true (state_number t.control.state) (state_number s) (and_left state peer both)),
        and_right (state && peer) active h,
      )

  -- and one that is passes
  passed : (j : ℕ) (t : Tunnel) → at e.tunnels j ≡ Some t → is_current (mode_of t.recovery) ≡ true → t.control.peer ≡ e.config.lns → t.control.state ≡ s → passes j ≡ true
  passed j t there active peer state = rw (there, peer, state, active, eq-eqb (state_number s) (state_number s) refl, eq-eqb e.config.lns e.config.lns refl) refl

  least_by : (i : ℕ) → find passes (ids_of e.tunnels) ≡ Some i → IsLeast e s i
  least_by i found =
      let there = passing (at e.tunnels i) (found_passes passes (ids_of e.tunnels) i found) in
      record {
        tunnel = there.0;
        there = there.1;
        peer = there.2;
        state = there.3;
        current = there.4;
        least = λ j t at_j active peer state. found_least passes e.tunnels i j t kept.order found at_j (passed j t at_j active peer state);
      }

  none_by : find passes (ids_of e.tunnels) ≡ None → HasNone e s
  none_by none j t there active peer state =
      none_passes passes (ids_of e.tunnels) j none (found_among e.tunnels j t there) (passed j t there active peer state)

-- whatever tunnel is there
pub least_is : (e : End) (s : TunnelState) (i : ℕ) → IsLeast e s i → (t : Tunnel) → at e.tunnels i ≡ Some t
    → (state_number t.control.state ≡ state_number s) × (t.control.peer ≡ e.config.lns) × (is_current (mode_of t.recovery) ≡ true)
least_is e s i l t there =
    let found : Some l.tunnel ≡ Some t = sym l.there ∙ there in
    let same : l.tunnel ≡ t = cc in (
      ap (λ (u : Tunnel). state_number u.control.state) (sym same) ∙ ap state_number l.state,
      ap (λ (u : Tunnel). u.control.peer) (sym same) ∙ l.peer,
      ap (λ (u : Tunnel). is_current (mode_of u.recovery)) (sym same) ∙ l.current,
    )

module _ (e : End) (kept : AreKept e) where
  pub least_open : (i : ℕ) → least_in Established e.config.lns e.tunnels ≡ Some i → IsLeast e Established i
  unfolding least_in
  least_open i is = least_by e kept Established is_open i is

  pub least_opening : (i : ℕ) → least_in WaitCtlReply e.config.lns e.tunnels ≡ Some i → IsLeast e WaitCtlReply i
  unfolding least_in
  least_opening i is = least_by e kept WaitCtlReply is_opening i is

  pub none_open : least_in Established e.config.lns e.tunnels ≡ None → HasNone e Established
  unfolding least_in
  none_open is = none_by e kept Established is_open is

  pub none_opening : least_in WaitCtlReply e.config.lns e.tunnels ≡ None → HasNone e WaitCtlReply
  unfolding least_in
  none_opening is = none_by e kept WaitCtlReply is_opening is

  -- ---- tunnels that are recovered

  abbrev recovers : ℕ → Bool
  recovers j = is_recovering e.config.lns (at e.tunnels j)

  recovering_at : (o : Option Tunnel) → is_recovering e.config.lns o ≡ true
      → (t : Tunnel) × (o ≡ Some t) × (t.control.peer ≡ e.config.lns) × (is_current (mode_of t.recovery) ≡ false)
  recovering_at None h = absurd (true≢false (sym h))
  recovering_at (Some t) h =
      let peer = t.control.peer == e.config.lns in
      let inactive = not (is_current (mode_of t.recovery)) in
      (t, refl, eqb-true t.control.peer e.config.lns (and_left peer inactive h), not_true _ (and_right peer inactive h))

  pub some_recover : are_recovering e.config.lns e.tunnels ≡ true → IsRecovering e
  unfolding are_recovering
  some_recover h = by (find recovers (ids_of e.tunnels)) refl h
    where
      by : (o : Option ℕ) → find recovers (ids_of e.tunnels) ≡ o → is_some o ≡ true → IsRecovering e
      by None is none = absurd (true≢false (sym none))
      by (Some j) is some = let at_j = recovering_at (at e.tunnels j) (found_passes recovers (ids_of e.tunnels) j is) in (j, at_j.0, at_j.1, at_j.2, at_j.3)

  pub none_recover : are_recovering e.config.lns e.tunnels ≡ false → IsRecovering e → ⊥
  unfolding are_recovering
  none_recover h r = by (find recovers (ids_of e.tunnels)) refl h
    where
      passes_it : recovers r.0 ≡ true
      passes_it = let there = r.2 in let peer = r.3 in let inactive = r.4 in rw (there, peer, inactive, eq-eqb e.config.lns e.config.lns refl) refl

      by : (o : Option ℕ) → find recovers (ids_of e.tunnels) ≡ o → is_some o ≡ false → ⊥
      by None is none = none_passes recovers (ids_of e.tunnels) r.0 is (found_among e.tunnels r.0 r.1 r.2) passes_it
      by (Some j) is some = true≢false some
