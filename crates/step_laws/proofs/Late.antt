-- After a tick no call is there that took too long, since there is room for the letter that it owes.
use Rattle.std.proofs.Common.{◌≡◌, ◌⊎◌, inl, inr, ⊎_elim, ℕ, ◌<◌, Bool, true, false, List, [], ◌∷◌, ◌++◌, map, refl, sym, ap, ◌∙◌, subst, Option, Some, None}
use Rattle.std.proofs.lemmas.Bool.{true≢false}
use Rattle.std.proofs.lemmas.Option.{none-some}
use Rattle.std.specs.List.{AllByRecursion}
use Rattle.id_table.specs.Ids.{at, ids_of}
use Rattle.id_table.specs.Order.{Ascends, ascends-put, ascends-without, found_put, found_without}
use Rattle.end_model.specs.declared.tunnel.Config.{Config}
use Rattle.end_model.specs.declared.event.Event.TheVariants.{Tick}
use Rattle.end_model.specs.declared.tunnel.Call.{Call}
use Rattle.end_names.specs.declared.role.Role.{Role}
use Rattle.end_names.specs.declared.role.Role.TheVariants.{Lac, Lns}
use Rattle.call_fsm.specs.declared.table.CallState.{CallState}
use Rattle.call_fsm.specs.declared.table.CallState.TheVariants as call
use Rattle.call_fsm.specs.declared.table.CallEvent.TheVariants.{Close}
use Rattle.end_model.specs.Calls.{call_row, is_set_up, is_told, is_clean_up}
use Rattle.end_model.specs.Tunnels.{Tunnel, Env, turn_in}
use Rattle.end_model.specs.Channels.{has_room}
use Rattle.end_model.specs.Events.{turns, tunnel_after}
use Rattle.end_model.specs.End.{End, env_of, tunnels_after, after_turn, Turned, tick_of, ticks_of, end_after_all, after_all, ticks_all, step_in, plain_step, after_both}
use Rattle.step_laws.specs.Letters.{Among}
use Rattle.step_laws.specs.Left.{CanBe, LateCallsEnd}
use Rattle.step_laws.specs.Steps.{IsKept, AreKept, StepsAreChains}
use Rattle.step_laws.proofs.Lists.{found_among}
use Rattle.step_laws.proofs.States.{never}
use Rattle.step_laws.proofs.Moments.{is_past, set_up}
use Rattle.step_laws.proofs.Owing.{Fits, live_with, holds_live, has_room_for}
use Rattle.step_laws.proofs.Sound.{role_stays, stays_sound}
use Rattle.step_laws.proofs.Patience.{IsDue, Ticks, ticks_ok, stays_left}
use Rattle.end_model.specs.Recovering.{RecoveryTurn, recovery_ticks, recovering_turns}
use Rattle.step_laws.proofs.Behind.{IsLeft, ticks_behind}

module _ (P : Tunnel → Type 0) where
  -- what holds of a tunnel, where it is there
  abbrev HoldsAt : List (ℕ × Tunnel) → ℕ → Type 0
  HoldsAt tunnels j = (t : Tunnel) → at tunnels j ≡ Some t → P t

  -- ---- one turn

  abbrev after : Turned → Tunnel
  after u = tunnel_after u.turn.turn u.tunnel.letters u.tunnel.calls u.turn.recovery

  abbrev IsGood : Turned → Type 0
  IsGood u = (u.turn.turn.cleared ≡ true) ⊎ P (after u)

  order_after : (tunnels : List (ℕ × Tunnel)) (i : ℕ) (b : Bool) (t : Tunnel) → Ascends tunnels → Ascends (tunnels_after tunnels i b t)
  order_after tunnels i true t h = ascends-without i tunnels h
  order_after tunnels i false t h = ascends-put i t tunnels h

  pub holds_after : (tunnels : List (ℕ × Tunnel)) (i : ℕ) (b : Bool) (t : Tunnel) → Ascends tunnels → (b ≡ true) ⊎ P t → (j : ℕ)
      → ((j ≡ i → ⊥) → HoldsAt tunnels j) → HoldsAt (tunnels_after tunnels i b t) j
  holds_after tunnels i true t order good j others u there =
      let found = found_without tunnels i j u order there in
      others found.0 u found.1
  holds_after tunnels i false t order good j others u there = ⊎_elim
      (λ (a : (j ≡ i) × (t ≡ u)). subst P a.1 (⊎_elim (λ e. absurd (true≢false (sym e))) (λ holds. holds) good))
      (λ (a : (j ≡ i → ⊥) × (at tunnels j ≡ Some u)). others a.0 u a.1)
      (found_put tunnels i t j u there)

  -- ---- all of them

  all_hold : (us : List Turned) → AllByRecursion IsGood us → (x : End) → Ascends x.tunnels → (j : ℕ)
      → HoldsAt x.tunnels j ⊎ Among j (map (λ (u : Turned). u.id) us) → HoldsAt (end_after_all us x).tunnels j
  unfolding end_after_all after_turn
  all_hold [] good x order j h = ⊎_elim (λ holds. holds) (λ a. absurd a) h
  all_hold (u ∷ us) good x order j h =
      let y = (after_both x u.id u.tunnel u.turn).end in
      let one : ((j ≡ u.id → ⊥) → HoldsAt x.tunnels j) → HoldsAt y.tunnels j =
      λ others. holds_after x.tunnels u.id u.turn.turn.cleared (after u) order good.0 j others in
      all_hold us good.1 y (order_after x.tunnels u.id u.turn.turn.cleared (after u) order) j
      (⊎_elim
      (λ holds. inl (one (λ other. holds)))
      (λ among. ⊎_elim (λ (same : u.id ≡ j). inl (one (λ other. absurd (other (sym same))))) (λ later. inr later) among)
      h)

  module _ (e : End) (order : Ascends e.tunnels) (moment : ℕ) (block : List ℕ) where
    abbrev env : Env
    env = env_of e moment block

    -- the turn of a tunnel that is there
    abbrev turn : Tunnel → RecoveryTurn
    turn t = recovering_turns e.role e.config t Tick (turn_in t env)

    abbrev Leaves : Type 0
    Leaves = (i : ℕ) (t : Tunnel) → at e.tunnels i ≡ Some t → ((turn t).turn.cleared ≡ true) ⊎ P (tunnel_after (turn t).turn t.letters t.calls (turn t).recovery)

    tick_good : Leaves → (i : ℕ) (o : Option Tunnel) → at e.tunnels i ≡ o → (us : List Turned) → AllByRecursion IsGood us
        → AllByRecursion IsGood (tick_of e env i o ++ us)
    tick_good leaves i None is us h = h
    tick_good leaves i (Some t) is us h = (leaves i t is, h)

    ticks_good : Leaves → (is : List ℕ) → AllByRecursion IsGood (ticks_of e env is)
    unfolding ticks_of
    ticks_good leaves [] = tt
    ticks_good leaves (i ∷ is) = tick_good leaves i (at e.tunnels i) refl (ticks_of e env is) (ticks_good leaves is)

    -- each tunnel has its turn
    tick_among : (i j : ℕ) (t : Tunnel) → at e.tunnels j ≡ Some t → (o : Option Tunnel) → at e.tunnels i ≡ o → (us : List Turned)
        → (i ≡ j) ⊎ Among j (map (λ (u : Turned). u.id) us) → Among j (map (λ (u : Turned). u.id) (tick_of e env i o ++ us))
    tick_among i j t there None is us h = ⊎_elim (λ same. absurd (none-some t (sym is ∙ (ap (λ k. at e.tunnels k) same ∙ there)))) (λ later. later) h
    tick_among i j t there (Some u) is us h = h

    among : (is : List ℕ) (j : ℕ) (t : Tunnel) → at e.tunnels j ≡ Some t → Among j is → Among j (map (λ (u : Turned). u.id) (ticks_of e env is))
    unfolding ticks_of
    among [] j t there a = absurd a
    among (i ∷ is) j t there a =
        tick_among i j t there (at e.tunnels i) refl (ticks_of e env is) (⊎_elim (λ same. inl same) (λ later. inr (among is j t there later)) a)

    -- so what holds of what each turn leaves holds of each tunnel after a tick
    pub ticks_leave : Leaves → (j : ℕ) (t : Tunnel) → at (plain_step e moment block Tick).end.tunnels j ≡ Some t → P t
    unfolding plain_step step_in ticks_all after_all
    ticks_leave leaves j = all_hold (ticks_of e env (ids_of e.tunnels)) (ticks_good leaves (ids_of e.tunnels)) e order j (by (at e.tunnels j) refl)
      where
        by : (o : Option Tunnel) → at e.tunnels j ≡ o → HoldsAt e.tunnels j ⊎ Among j (map (λ (u : Turned). u.id) (ticks_of e env (ids_of e.tunnels)))
        by None is = inl (λ t there. absurd (none-some t (sym is ∙ there)))
        by (Some t) is = inr (among (ids_of e.tunnels) j t is (found_among e.tunnels j t is))

-- a call that is being set up ends by its table
ends_row : (r : Role) (s : CallState) → CanBe r s → is_set_up s ≡ true
    → (is_clean_up (call_row r s Close).1 ≡ true) ⊎ (is_told (call_row r s Close).1 ≡ true)
unfolding call_row
ends_row r call.Idle can h = never h
ends_row Lac call.WaitTunnel can h = inl refl
ends_row Lac call.WaitReply can h = inr refl
ends_row Lac call.WaitConnect can h = absurd can
ends_row Lns call.WaitTunnel can h = absurd can
ends_row Lns call.WaitReply can h = absurd can
ends_row Lns call.WaitConnect can h = inr refl
ends_row r call.Established can h = never h

-- there is room in each tunnel that is kept and has a call
pub roomy : {role : Role} {config : Config} (i : ℕ) (t : Tunnel) → IsKept role config i t → (s : ℕ) (c : Call) → at t.calls s ≡ Some c → has_room t.control ≡ true
roomy i t k s c live =
    let fits : Fits t.control t.calls = (k.calls, k.calls_few, k.few, k.owed, k.most, k.shut) in
    has_room_for t.control t.calls (holds_live t.control t.calls (live_with t.control t.calls s c live fits) fits)

module _ (e : End) (kept : AreKept e) (moment : ℕ) (block : List ℕ) where
  -- no call of a tunnel is late where there is room
  abbrev NoneIsDue : Tunnel → Type 0
  NoneIsDue t = (s : ℕ) (c : Call) → at t.calls s ≡ Some c → IsDue e.role moment s c → has_room t.control ≡ false

  pub ticked : (i : ℕ) (t : Tunnel) → at e.tunnels i ≡ Some t
      → Ticks e.role moment t.calls t.letters (turn_in t (env_of e moment block)) (recovering_turns e.role e.config t Tick (turn_in t (env_of e moment block))).turn
  unfolding turns recovering_turns
  ticked i t is =
      let start = turn_in t (env_of e moment block) in
      let u = turns e.role e.config t.letters t.calls Tick start in
      let h = ticks_ok e.role moment t.calls t.letters start (kept.tunnels i t is).calls refl refl in
      ⊎_elim (λ gone. inl gone)
      (λ (l : IsLeft u (recovery_ticks t.calls t.recovery u).turn). ⊎_elim (λ gone. inl (l.cleared ∙ gone)) (λ stays. inr (stays_left e.role moment t.calls t.letters start u _ l.control l.changed stays)) h)
      (ticks_behind t.calls t.recovery u)

  none_is_due : (i : ℕ) (t : Tunnel) → at (plain_step e moment block Tick).end.tunnels i ≡ Some t → NoneIsDue t
  none_is_due i t there =
      ticks_leave NoneIsDue e kept.order moment block (λ j u is. ⊎_elim (λ cleared. inl cleared) (λ stays. inr stays.late) (ticked j u is)) i t there

pub late_calls_end : StepsAreChains → LateCallsEnd
late_calls_end chains e kept sound moment block i t there s c live other over =
    let x = (plain_step e moment block Tick).end in
    let call : (s < 65536) × CanBe x.role c.state = stays_sound chains e kept moment block Tick sound i t there s c live in
    let can : CanBe e.role c.state = subst (λ r. CanBe r c.state) (role_stays chains e kept moment block Tick) call.1 in
    let being = set_up e.role c.state can other in
    let due : IsDue e.role moment s c = record { small = call.0; set_up = being; over = is_past moment c.since over; ends = ends_row e.role c.state can being } in
    true≢false (sym (roomy i t ((chains e kept moment block Tick).kept.tunnels i t there) s c live)
    ∙ none_is_due e kept moment block i t there s c live due)
