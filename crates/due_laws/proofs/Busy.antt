-- From the moment on at which a tunnel is due its tick does something.
use Rattle.std.proofs.Common.{◌≡◌, ◌⊎◌, inl, inr, ⊎_elim, ℕ, ◌+◌, ◌-◌, ◌<◌, length, Bool, true, false, List, [], ◌∷◌, ◌++◌, Option, Some, None, refl, sym, ap, ◌∙◌, subst, arith, length-append}
use Rattle.std.proofs.lemmas.Bool.{true≢false, cond-true, cond-false, or_left, or_right, and_parts, eq-eqb, ne_eqb}
use Rattle.std.specs.Prelude.{not, ◌&&◌, ◌||◌, ◌==◌, nat_lt, nat_le, if◌then◌else◌, is_none}
use Rattle.std.specs.List.{AllByRecursion, flat_map}
use Rattle.id_table.specs.Ids.{at, at-cons, ids_of}
use Rattle.id_table.specs.Order.{IsAbove, Ascends}
use Rattle.wire_base.specs.declared.letter.Letter.{Letter}
use Rattle.wire_base.specs.declared.cause.Cause.TheVariants as cause
use Rattle.send_window.specs.declared.window.Tick.{Tick as Due}
use Rattle.send_window.specs.declared.window.Tick.TheVariants as tick
use Rattle.send_window.specs.Kept.{Window}
use Rattle.send_window.specs.Window.{wait_after, answer_to_tick as window_answer}
use Rattle.control_channel.specs.Numbers.{answer_to_tick}
use Rattle.control_channel.specs.Channel.{answer_to_tick as channel_answer}
use Rattle.recovery_tunnel.specs.Connections.{ControlConnection, is_failure, patience as reset_patience, is_over as has_passed}
use Rattle.recovery_tunnel.specs.Answers.{kept_after_reset, is_kept_long as is_past}
use Rattle.call_link.specs.Link.{Link}
use Rattle.call_link.specs.Turns.{Ticks, linked}
use Rattle.call_fsm.specs.declared.table.CallEvent.TheVariants.{Close}
use Rattle.end_names.specs.declared.role.Role.{Role}
use Rattle.end_model.specs.declared.event.Event.TheVariants.{Tick}
use Rattle.end_model.specs.declared.tunnel.Call.{Call}
use Rattle.end_model.specs.declared.tunnel.Control.{Control}
use Rattle.end_model.specs.Moments.{patience, kept_closed, is_over, is_open, is_closed, is_being_set_up, is_at_its_end}
use Rattle.end_model.specs.Calls.{row_for, is_set_up}
use Rattle.end_model.specs.Links.{link_env}
use Rattle.end_model.specs.Tunnels.{Drawing, Ground, Tunnel, Env, Turn, turn_in, Recovering, ByAttempt, ByAnswer, connection_of, mode_of, is_current}
use Rattle.end_model.specs.Recovering.{RecoveryTurn, with_recovery, recovering_turns, repeats_on, ticked, is_kept_long, ticks_on, recovery_ticks}
use Rattle.end_model.specs.Events.{turns, with_calls}
use Rattle.end_model.specs.Sending.{settles}
use Rattle.end_model.specs.Closing.{ends_by}
use Rattle.end_model.specs.Codes.{not_in_time}
use Rattle.end_model.specs.Linking.{links, ticks_link}
use Rattle.end_model.specs.Stopping.{clears}
use Rattle.end_model.specs.Ticking.{greeted, greets, limits_at, limits_all, goes_quietly, ticks_by, ticks}
use Rattle.end_model.specs.End.{End, env_of, Turned, tick_of, ticks_of, after_all, ticks_all}
use Rattle.tunnel_timers.specs.Due.{earliest, is_before, removal_due, window_due, repetition_due, hello_due, channel_due, setup_due, link_due, call_due, calls_due, reset_due, connection_due, kept_until, over_due, recovery_due, due_of, tunnel_due, tunnels_due, end_due}
use Rattle.due_laws.specs.Ticks.{count_done, CanEnd, CallsCanEnd}
use Rattle.tunnel_timers.specs.Moments.{has_come, come_either}
use Rattle.due_laws.proofs.Quiet.{link_tick, some_wait, quiet_turn}
use Rattle.due_laws.proofs.Growing.{Does, first_does, then_does, either, settles_does, repeats_does, greeted_does, greets_does, clears_does, row_does, up_does, limits_does, quietly_does, again_does, either_both, over_does, goes_on, goes_on_does, recovery_does}

-- where a test holds, what stands there
when : (n : ℕ) (b : Bool) (t x y : Turn) → b ≡ true → Does n t x → Does n t (if b then x else y)
when n b t x y is h = subst (Does n t) (sym (cond-true b x y is)) h

-- ---- entries that are found

module _ {X : Type 0} where
  found_behind : (e : ℕ × X) (es : List (ℕ × X)) (xs : List (ℕ × X)) → IsAbove e.0 xs → AllByRecursion (λ x. at es x.0 ≡ Some x.1) xs → AllByRecursion (λ x. at (e ∷ es) x.0 ≡ Some x.1) xs
  found_behind e es [] above all = tt
  found_behind e es (x ∷ xs) above all = (
    at-cons e es x.0 ∙ rw (ne_eqb x.0 e.0 (λ same. (let lt = above.0 in omega (arith, lt, same)))) all.0,
    found_behind e es xs above.1 all.1,
  )

  -- each entry of a table that ascends is found
  pub all_found : (es : List (ℕ × X)) → Ascends es → AllByRecursion (λ x. at es x.0 ≡ Some x.1) es
  unfolding Ascends
  all_found [] ascend = tt
  all_found (e ∷ es) ascend = (
    at-cons e es e.0 ∙ rw (eq-eqb e.0 e.0 refl) refl,
    found_behind e es es ascend.0 (all_found es ascend.1),
  )

-- ---- windows

-- the oldest letter is repeated, or its channel has failed
abbrev IsLoud : Due → Type 0
IsLoud tick.Quiet = ⊥
IsLoud (tick.Again number) = Unit {0}
IsLoud (tick.Failed first) = Unit {0}

answered : (frozen out over few : Bool) (number : ℕ) → ((not frozen && out) && over) ≡ true
    → IsLoud (if frozen then tick.Quiet else (if out && over then (if few then tick.Again number else tick.Failed number) else tick.Quiet))
answered true out over few number come = absurd (true≢false (sym come))
answered false out over true number come = rw come tt
answered false out over false number come = rw come tt

loud_window : (frozen : Bool) (w : Window) (m : ℕ) → is_before m (window_due frozen w) ≡ false → IsLoud (if frozen then tick.Quiet else window_answer w m)
loud_window frozen w m come =
    answered frozen (nat_lt 0 w.outstanding) (nat_le (wait_after w.repetitions) (m - w.since)) (nat_lt w.repetitions 5) w.acked
    (has_come (not frozen && nat_lt 0 w.outstanding) (wait_after w.repetitions) w.since m (some_wait w.repetitions) come)

-- ---- calls

module _ (role : Role) (letters : List Letter) where
  link_acts : (s : ℕ) (c : Call) (o : Option Link) (t : Turn) → is_before t.on.moment (link_due s c o) ≡ false → Does 1 t (ticks_link role letters s c o t)
  unfolding ticks_link
  link_acts s c None t come = absurd (true≢false come)
  link_acts s c (Some l) t come =
      let v = linked (link_env t.on) Ticks l in
      let test = link_tick s c l t.on.moment ∙ ap (λ b. not b) come in
      let up = (and_parts _ _ (and_parts _ _ test).0).1 in
      when 1 _ t (links role letters s c v t) t test (up_does role letters s c v t up)

  setup_acts : (s : ℕ) (c : Call) (t : Turn) → CanEnd role c → is_before t.on.moment (setup_due s c) ≡ false → Does 1 t (limits_at role letters s (Some c) t)
  unfolding limits_at
  setup_acts s c t ends come =
      let test = has_come (nat_lt s 65536 && is_set_up c.state) patience c.since t.on.moment (omega arith) come in
      let set_up = (and_parts _ _ (and_parts _ _ test).0).1 in
      when 1 _ t _ (ticks_link role letters s c c.link t)
      test
      (first_does 1 t _ _ (row_does cause.Setup not_in_time None s c (row_for role c Close).1 t (ends set_up)) (settles_does letters false _))

  -- where its time isn't over it is looked at for its link; else it ends
  timer_acts : (s : ℕ) (c : Call) (t : Turn) → CanEnd role c → is_before t.on.moment (link_due s c c.link) ≡ false → Does 1 t (limits_at role letters s (Some c) t)
  unfolding limits_at
  timer_acts s c t ends come = by (nat_lt s 65536 && is_set_up c.state && is_over patience t.on.moment c.since) refl
    where
      by : (b : Bool) → (nat_lt s 65536 && is_set_up c.state && is_over patience t.on.moment c.since) ≡ b
          → Does 1 t (if b then settles false letters (ends_by cause.Setup not_in_time None s c (row_for role c Close).1 t) else ticks_link role letters s c c.link t)
      by true is =
          let set_up = (and_parts _ _ (and_parts _ _ is).0).1 in
          first_does 1 t _ _ (row_does cause.Setup not_in_time None s c (row_for role c Close).1 t (ends set_up)) (settles_does letters false _)
      by false is = link_acts s c c.link t come

  call_acts : (s : ℕ) (c : Call) (t : Turn) → CanEnd role c → is_before t.on.moment (call_due s c) ≡ false → Does 1 t (limits_at role letters s (Some c) t)
  call_acts s c t ends come = ⊎_elim (setup_acts s c t ends) (timer_acts s c t ends) (come_either t.on.moment (setup_due s c) (link_due s c c.link) come)

  module _ (calls : List (ℕ × Call)) (ends : CallsCanEnd role calls) where
    found_acts : (s : ℕ) (c : Call) (t : Turn) → at calls s ≡ Some c → is_before t.on.moment (call_due s c) ≡ false → Does 1 t (limits_at role letters s (at calls s) t)
    found_acts s c t there come = subst (λ o. Does 1 t (limits_at role letters s o t)) (sym there) (call_acts s c t (ends s c there) come)

    -- some call of these is due
    calls_act : (es : List (ℕ × Call)) → AllByRecursion (λ x. at calls x.0 ≡ Some x.1) es → (t : Turn) → is_before t.on.moment (calls_due es) ≡ false
        → Does 1 t (limits_all role letters (ids_of es) calls t)
    unfolding limits_all earliest
    calls_act [] all t come = absurd (true≢false come)
    calls_act (e ∷ es) all t come = ⊎_elim
        (λ this. first_does 1 t _ _ (found_acts e.0 e.1 t all.0 this) (limits_does role letters (ids_of es) calls _))
        (λ later.
        let one = limits_does role letters (e.0 ∷ []) calls t in
        let still = ap (λ (g : Ground × Drawing). is_before g.0.moment (calls_due es)) one.ground ∙ later in
        then_does 1 t _ _ one (calls_act es all.1 (limits_at role letters e.0 (at calls e.0) t) still))
        (come_either t.on.moment (call_due e.0 e.1) (calls_due es) come)

    module _ (ascend : Ascends calls) where
      quietly_acts : (t : Turn) → (is_before t.on.moment (hello_due t.on.mode t.control) ≡ false) ⊎ (is_before t.on.moment (calls_due calls) ≡ false)
          → Does 1 t (goes_quietly role letters calls t)
      unfolding goes_quietly greets
      quietly_acts t come = ⊎_elim
          (λ hello.
          let c = t.control in
          let test = has_come (is_open c.state && is_current t.on.mode && c.channel.window.queued == 0) patience c.heard t.on.moment (omega arith) hello in
          first_does 1 t _ _ (when 1 _ t (greeted letters t) t test (greeted_does letters t)) (limits_does role letters (ids_of calls) calls _))
          (λ late.
          let one = greets_does letters t in
          let still = ap (λ (g : Ground × Drawing). is_before g.0.moment (calls_due calls)) one.ground ∙ late in
          then_does 1 t _ _ one (calls_act calls (all_found calls ascend) (greets letters t) still))
          come

      -- the channel is quiet only where something else is due
      abbrev Late : Turn → Due → Type 0
      Late t tick.Quiet = (is_before t.on.moment (hello_due t.on.mode t.control) ≡ false) ⊎ (is_before t.on.moment (calls_due calls) ≡ false)
      Late t (tick.Again number) = Unit {0}
      Late t (tick.Failed first) = Unit {0}

      late_anyhow : (t : Turn) → (is_before t.on.moment (hello_due t.on.mode t.control) ≡ false) ⊎ (is_before t.on.moment (calls_due calls) ≡ false) → (d : Due) → Late t d
      late_anyhow t come tick.Quiet = come
      late_anyhow t come (tick.Again number) = tt
      late_anyhow t come (tick.Failed first) = tt

      by_acts : (t : Turn) (d : Due) → Late t d → Does 1 t (ticks_by role letters calls d t)
      unfolding ticks_by
      by_acts t tick.Quiet late = quietly_acts t late
      by_acts t (tick.Again number) late = first_does 1 t _ _ (repeats_does letters number t) (quietly_does role letters calls _)
      by_acts t (tick.Failed first) late = clears_does calls t

      late_by : (t : Turn) (d : Due) → IsLoud d → Late t d
      late_by t tick.Quiet loud = absurd loud
      late_by t (tick.Again number) loud = tt
      late_by t (tick.Failed first) loud = tt

      repeats_late : (t : Turn) → is_before t.on.moment (repetition_due t.control.channel) ≡ false → Late t (answer_to_tick t.control.channel t.on.moment)
      repeats_late t come = late_by t _ (loud_window t.control.channel.frozen t.control.channel.window t.on.moment come)

      late_acts : (t : Turn) → Late t (answer_to_tick t.control.channel t.on.moment) → Does 1 t (ticks role letters calls t)
      unfolding ticks
      late_acts t late = either 1 _ t _ _ (clears_does calls t) (by_acts t _ late)

      at_its_end : (m : ℕ) (c : Control) → is_before m (removal_due c) ≡ false → is_at_its_end m c ≡ true
      at_its_end m c come = ⊎_elim
          (λ h. or_left _ _ (has_come (is_closed c.state) kept_closed c.closed m (omega arith) h))
          (λ h. or_right _ _ (has_come (is_being_set_up c.state) patience c.made m (omega arith) h))
          (come_either m _ _ come)

      removal_acts : (t : Turn) → is_before t.on.moment (removal_due t.control) ≡ false → Does 1 t (ticks role letters calls t)
      unfolding ticks
      removal_acts t come = when 1 _ t (clears calls t) _ (at_its_end t.on.moment t.control come) (clears_does calls t)

      pub turn_acts : (t : Turn) → is_before t.on.moment (due_of t.on.mode t.control calls) ≡ false → Does 1 t (ticks role letters calls t)
      turn_acts t come = ⊎_elim
          (λ channel. ⊎_elim
          (removal_acts t)
          (λ rest. ⊎_elim
          (λ repetition. late_acts t (repeats_late t repetition))
          (λ hello. late_acts t (late_anyhow t (inl hello) _))
          (come_either t.on.moment (repetition_due t.control.channel) (hello_due t.on.mode t.control) rest))
          (come_either t.on.moment (removal_due t.control) _ channel))
          (λ late. late_acts t (late_anyhow t (inr late) _))
          (come_either t.on.moment (channel_due t.on.mode t.control) (calls_due calls) come)

-- ---- recovery tunnels

-- where a test holds, what stands there
when_both : (n : ℕ) (b : Bool) (t : Turn) (x y : RecoveryTurn) → b ≡ true → Does n t x.turn → Does n t (if b then x else y).turn
when_both n b t x y is h = subst (λ (r : RecoveryTurn). Does n t r.turn) (sym (cond-true b x y is)) h

past : (m : ℕ) (reset : Option ℕ) → is_before m (kept_until reset) ≡ false → is_past m reset ≡ true
past m None come = absurd (true≢false come)
past m (Some reset) come = has_come true kept_after_reset reset m (omega arith) come

kept_long : (m : ℕ) (r : Recovering) → is_before m (over_due r) ≡ false → is_kept_long m r ≡ true
kept_long m (ByAttempt c) come = absurd (true≢false come)
kept_long m (ByAnswer a) come = past m a.connection.reset come

module _ (calls : List (ℕ × Call)) (r : Recovering) where
  abbrev line : ControlConnection
  line = connection_of r

  -- it took too long, or is kept no longer
  abbrev IsOut : ℕ → Type 0
  IsOut m = (is_before m (reset_due line) ≡ false) ⊎ (is_before m (over_due r) ≡ false)

  abbrev LateOn : ℕ → Due → Type 0
  LateOn m tick.Quiet = IsOut m
  LateOn m (tick.Again number) = Unit {0}
  LateOn m (tick.Failed first) = Unit {0}

  out_anyhow : (m : ℕ) → IsOut m → (d : Due) → LateOn m d
  out_anyhow m out tick.Quiet = out
  out_anyhow m out (tick.Again number) = tt
  out_anyhow m out (tick.Failed first) = tt

  late_on : (m : ℕ) (d : Due) → IsLoud d → LateOn m d
  late_on m tick.Quiet loud = absurd loud
  late_on m (tick.Again number) loud = tt
  late_on m (tick.Failed first) loud = tt

  abbrev is_too_long : ℕ → Bool
  is_too_long m = is_none line.reset && has_passed reset_patience m line.since

  out_acts : (m : ℕ) (u : Turn) (next : Recovering) → IsOut m → Does 1 u (goes_on calls r (is_too_long m) (is_kept_long m r) next u).turn
  out_acts m u next out = ⊎_elim
      (λ reset. when_both 1 (is_too_long m) u _ _ (has_come (is_none line.reset) reset_patience line.since m (omega arith) reset) (clears_does (with_calls u.changed calls) u))
      (λ over. either_both 1 (is_too_long m) u _ _ (clears_does (with_calls u.changed calls) u) (when_both 1 (is_kept_long m r) u _ _ (kept_long m r over) (over_does u)))
      out

  acts_by : (m : ℕ) (d : Due) (t : Turn) (next : Recovering) → LateOn m d
      → Does 1 t (goes_on calls r (is_failure d || is_too_long m) (is_kept_long m r) next (repeats_on d r t)).turn
  unfolding repeats_on
  acts_by m tick.Quiet t next late = out_acts m t next late
  acts_by m (tick.Again number) t next late = first_does 1 t _ _ (again_does number r t) (goes_on_does calls r (is_too_long m) (is_kept_long m r) next _)
  acts_by m (tick.Failed first) t next late = clears_does (with_calls t.changed calls) t

  late_recovery : (m : ℕ) → is_before m (recovery_due (Some r)) ≡ false → LateOn m (channel_answer line.channel m)
  late_recovery m come = ⊎_elim
      (λ here. ⊎_elim
      (λ repetition. late_on m _ (loud_window line.channel.frozen line.channel.outbox.window m repetition))
      (λ reset. out_anyhow m (inl reset) _)
      (come_either m (window_due line.channel.frozen line.channel.outbox.window) (reset_due line) here))
      (λ over. out_anyhow m (inr over) _)
      (come_either m (connection_due line) (over_due r) come)

  on_acts : (t : Turn) → is_before t.on.moment (recovery_due (Some r)) ≡ false → Does 1 t (ticks_on calls r t).turn
  unfolding ticks_on
  on_acts t come = acts_by t.on.moment (channel_answer line.channel t.on.moment) t (ticked t.on.moment r) (late_recovery t.on.moment come)

recovery_acts : (calls : List (ℕ × Call)) (recovery : Option Recovering) (t : Turn) → t.cleared ≡ false → is_before t.on.moment (recovery_due recovery) ≡ false
    → Does 1 t (recovery_ticks calls recovery t).turn
unfolding recovery_ticks
recovery_acts calls None t there come = absurd (true≢false come)
recovery_acts calls (Some r) t there come =
    subst (λ (u : RecoveryTurn). Does 1 t u.turn) (sym (cond-false t.cleared (with_recovery r t) (ticks_on calls r t) there)) (on_acts calls r t come)

pub due_recoveries_act : (calls : List (ℕ × Call)) (recovery : Option Recovering) (t : Turn) → t.cleared ≡ false → is_before t.on.moment (recovery_due recovery) ≡ false
    → count_done t < count_done (recovery_ticks calls recovery t).turn
due_recoveries_act calls recovery t there come = let more = (recovery_acts calls recovery t there come).more in omega (arith, more)

-- ---- ends

-- what the turns of tunnels did
abbrev count_all : List Turned → ℕ
count_all ts = length (flat_map (λ t. t.turn.turn.outputs) ts) + length (flat_map (λ t. t.turn.turn.moves) ts)

count_more : (u : Turned) (us : List Turned) → count_all (u ∷ us) ≡ count_done u.turn.turn + count_all us
count_more u us =
    let a = length-append u.turn.turn.outputs (flat_map (λ t. t.turn.turn.outputs) us) in
    let b = length-append u.turn.turn.moves (flat_map (λ t. t.turn.turn.moves) us) in
    omega (arith, a, b)

module _ (e : End) (fits : (i : ℕ) (t : Tunnel) → at e.tunnels i ≡ Some t → Ascends t.calls × CallsCanEnd e.role t.calls) (moment : ℕ) (block : List ℕ) where
  abbrev start : Env
  start = env_of e moment block

  abbrev turned : ℕ → Tunnel → Turned
  turned i t = record { id = i; tunnel = t; turn = recovering_turns e.role e.config t Tick (turn_in t start) }

  tunnel_acts : (i : ℕ) (t : Tunnel) → at e.tunnels i ≡ Some t → is_before moment (tunnel_due t) ≡ false → 0 < count_done (turned i t).turn.turn
  unfolding recovering_turns turns
  tunnel_acts i t there come =
      let does = by (is_before moment (due_of (mode_of t.recovery) t.control t.calls)) refl in
      let more = does.more in
      omega (arith, more)
    where
      begun : Turn
      begun = turn_in t start

      main : Turn
      main = ticks e.role t.letters t.calls begun

      -- where the tunnel isn't due itself, its turn is the one that is begun
      by : (b : Bool) → is_before moment (due_of (mode_of t.recovery) t.control t.calls) ≡ b → Does 1 begun (recovery_ticks t.calls t.recovery main).turn
      by false late =
          let fit = fits i t there in
          first_does 1 begun main _ (turn_acts e.role t.letters t.calls fit.1 fit.0 begun late) (recovery_does t.calls t.recovery main)
      by true early =
          let recovery = ⊎_elim (λ late. absurd (true≢false (sym early ∙ late))) (λ h. h) (come_either moment (due_of (mode_of t.recovery) t.control t.calls) (recovery_due t.recovery) come) in
          subst (λ (u : Turn). Does 1 begun (recovery_ticks t.calls t.recovery u).turn) (sym (quiet_turn e.role t.letters begun t.calls early))
          (recovery_acts t.calls t.recovery begun refl recovery)

  some_act : (es : List (ℕ × Tunnel)) → AllByRecursion (λ x. at e.tunnels x.0 ≡ Some x.1) es → is_before moment (tunnels_due es) ≡ false → 0 < count_all (ticks_of e start (ids_of es))
  unfolding ticks_of earliest
  some_act [] all come = absurd (true≢false come)
  some_act (x ∷ es) all come =
      let more = count_more (turned x.0 x.1) (ticks_of e start (ids_of es)) in
      let this = subst (λ o. 0 < count_all (tick_of e start x.0 o ++ ticks_of e start (ids_of es))) (sym all.0) in
      ⊎_elim
      (λ here. this (let some = tunnel_acts x.0 x.1 all.0 here in omega (arith, more, some)))
      (λ later. this (let some = some_act es all.1 later in omega (arith, more, some)))
      (come_either moment (tunnel_due x.1) (tunnels_due es) come)

  pub end_acts : Ascends e.tunnels → is_before moment (end_due e) ≡ false → let s = ticks_all e start in 0 < length s.outputs + length s.moves
  unfolding ticks_all after_all
  end_acts ascend come = some_act e.tunnels (all_found e.tunnels ascend) come

pub due_turns_act : (role : Role) (letters : List Letter) (calls : List (ℕ × Call)) (t : Turn) → Ascends calls → CallsCanEnd role calls
    → is_before t.on.moment (due_of t.on.mode t.control calls) ≡ false → count_done t < count_done (ticks role letters calls t)
due_turns_act role letters calls t ascend ends come = let more = (turn_acts role letters calls ends ascend t come).more in omega (arith, more)
