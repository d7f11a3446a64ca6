-- Before a tunnel is due its tick leaves the turn as it is.
use Rattle.std.proofs.Common.{◌≡◌, ℕ, ◌-◌, ◌<◌, Bool, true, false, List, [], ◌∷◌, Option, Some, None, refl, ap, ◌∙◌, arith}
use Rattle.std.proofs.lemmas.Bool.{cond-false, or_from}
use Rattle.std.proofs.lemmas.Bool.Decides.{nat_tests}
use Rattle.std.specs.Prelude.{not, ◌&&◌, ◌==◌, nat_lt, nat_le, if◌then◌else◌, is_none}
use Rattle.id_table.specs.Ids.{at, ids_of}
use Rattle.wire_base.specs.declared.letter.Letter.{Letter}
use Rattle.send_window.specs.declared.window.Tick.{Tick as Due}
use Rattle.send_window.specs.declared.window.Tick.TheVariants as tick
use Rattle.send_window.specs.Kept.{Window}
use Rattle.send_window.specs.Window.{wait_after, answer_to_tick as window_answer}
use Rattle.control_channel.specs.Channel.{Channel, answer_to_tick as channel_answer, ticked_at}
use Rattle.recovery_tunnel.specs.Connections.{ControlConnection, is_lost, patience as reset_patience}
use Rattle.recovery_tunnel.specs.Answers.{kept_after_reset, is_kept_long as is_past}
use Rattle.call_link.specs.Link.{Link, is_due, due_of as link_due_of, has_come}
use Rattle.call_link.specs.Turns.{Ticks, linked}
use Rattle.call_link.specs.Told.{each_tells_due}
use Rattle.end_names.specs.declared.role.Role.{Role}
use Rattle.end_model.specs.declared.tunnel.Call.{Call}
use Rattle.end_model.specs.declared.tunnel.Control.{Control}
use Rattle.end_model.specs.Moments.{patience, kept_closed, is_open, is_closed, is_being_set_up, is_at_its_end}
use Rattle.end_model.specs.Calls.{is_up, is_set_up}
use Rattle.end_model.specs.Links.{link_env}
use Rattle.end_model.specs.Tunnels.{Turn, Recovering, ByAttempt, ByAnswer, connection_of, is_current}
use Rattle.end_model.specs.Linking.{links, ticks_link}
use Rattle.end_model.specs.Ticking.{greets, limits_at, limits_all, goes_quietly, ticks_by, ticks}
use Rattle.end_model.specs.Recovering.{RecoveryTurn, with_recovery, repeats_on, ticked, is_kept_long, ticks_on, recovery_ticks}
use Rattle.tunnel_timers.specs.Due.{is_before, removal_due, window_due, hello_due, channel_due, setup_due, link_due, call_due, calls_due, reset_due, connection_due, kept_until, over_due, recovery_due, due_of}
use Rattle.tunnel_timers.specs.Moments.{waits_still, before_both, before_holds, found_holds}

-- ---- tests

by_repetitions : (a b c : Bool) → 0 < (if a then 1000 else if b then 2000 else if c then 4000 else 8000)
by_repetitions true b c = omega arith
by_repetitions false true c = omega arith
by_repetitions false false true = omega arith
by_repetitions false false false = omega arith

pub some_wait : (repetitions : ℕ) → 0 < wait_after repetitions
some_wait repetitions = by_repetitions (repetitions == 0) (repetitions == 1) (repetitions == 2)

-- ---- its channel

not_answered : (frozen out over : Bool) (answer : Due) → ((not frozen && out) && over) ≡ false
    → (if frozen then tick.Quiet else (if out && over then answer else tick.Quiet)) ≡ tick.Quiet
not_answered true out over answer h = refl
not_answered false out over answer h = cond-false (out && over) answer tick.Quiet h

quiet_window : (frozen : Bool) (w : Window) (m : ℕ) → is_before m (window_due frozen w) ≡ true → (if frozen then tick.Quiet else window_answer w m) ≡ tick.Quiet
quiet_window frozen w m h =
    not_answered frozen (nat_lt 0 w.outstanding) (nat_le (wait_after w.repetitions) (m - w.since)) _
    (waits_still _ (wait_after w.repetitions) w.since m (some_wait w.repetitions) h)

pub not_at_its_end : (m : ℕ) (c : Control) → is_before m (removal_due c) ≡ true → is_at_its_end m c ≡ false
not_at_its_end m c h =
    let both = before_both m _ _ h in
    or_from _ _ (waits_still (is_closed c.state) kept_closed c.closed m (omega arith) both.0) (waits_still (is_being_set_up c.state) patience c.made m (omega arith) both.1)

quiet_greeting : (letters : List Letter) (t : Turn) → is_before t.on.moment (hello_due t.on.mode t.control) ≡ true → greets letters t ≡ t
unfolding greets
quiet_greeting letters t h =
    cond-false _ _ t (waits_still (is_open t.control.state && is_current t.on.mode && t.control.channel.window.queued == 0) patience t.control.heard t.on.moment (omega arith) h)

-- ---- its calls

come_by : (m : ℕ) (o : Option ℕ) → has_come m o ≡ not (is_before m o)
come_by m None = refl
come_by m (Some due) = grind (arith, nat_tests)

due_by : (waits due : Bool) (m : ℕ) (o : Option ℕ) → due ≡ has_come m o → (waits && due) ≡ not (is_before m (if waits then o else None))
due_by true due m o is = is ∙ come_by m o
due_by false due m o is = refl

-- a link is looked at where its timer has run out
pub link_tick : (s : ℕ) (c : Call) (l : Link) (m : ℕ) → (nat_lt s 65536 && is_up c.state && is_due m l) ≡ not (is_before m (link_due s c (Some l)))
link_tick s c l m = due_by (nat_lt s 65536 && is_up c.state) (is_due m l) m (link_due_of l) (each_tells_due m l)

module _ (role : Role) (letters : List Letter) (t : Turn) where
  quiet_link : (s : ℕ) (c : Call) (o : Option Link) → is_before t.on.moment (link_due s c o) ≡ true → ticks_link role letters s c o t ≡ t
  unfolding ticks_link
  quiet_link s c None h = refl
  quiet_link s c (Some l) h =
      cond-false _ (links role letters s c (linked (link_env t.on) Ticks l) t) t (link_tick s c l t.on.moment ∙ ap (λ b. not b) h)

  quiet_call : (s : ℕ) (o : Option Call) → ((c : Call) → o ≡ Some c → is_before t.on.moment (call_due s c) ≡ true) → limits_at role letters s o t ≡ t
  unfolding limits_at
  quiet_call s None h = refl
  quiet_call s (Some c) h =
      let both = before_both t.on.moment (setup_due s c) (link_due s c c.link) (h c refl) in
      cond-false _ _ (ticks_link role letters s c c.link t)
      (waits_still (nat_lt s 65536 && is_set_up c.state) patience c.since t.on.moment (omega arith) both.0)
      ∙ quiet_link s c c.link both.1

  pub quiet_calls : (ss : List ℕ) (calls : List (ℕ × Call)) → is_before t.on.moment (calls_due calls) ≡ true → limits_all role letters ss calls t ≡ t
  unfolding limits_all
  quiet_calls [] calls h = refl
  quiet_calls (s ∷ ss) calls h =
      ap (limits_all role letters ss calls)
      (quiet_call s (at calls s) (λ c there. found_holds (λ due. is_before t.on.moment due ≡ true) (before_holds t.on.moment) (λ x. call_due x.0 x.1) calls s c there h))
      ∙ quiet_calls ss calls h

  quietly : (calls : List (ℕ × Call)) → is_before t.on.moment (hello_due t.on.mode t.control) ≡ true → is_before t.on.moment (calls_due calls) ≡ true
      → goes_quietly role letters calls t ≡ t
  unfolding goes_quietly
  quietly calls hello h = ap (limits_all role letters (ids_of calls) calls) (quiet_greeting letters t hello) ∙ quiet_calls (ids_of calls) calls h

  -- ---- all of it

  pub quiet_turn : (calls : List (ℕ × Call)) → is_before t.on.moment (due_of t.on.mode t.control calls) ≡ true → ticks role letters calls t ≡ t
  unfolding ticks ticks_by
  quiet_turn calls h =
      let all = before_both t.on.moment (channel_due t.on.mode t.control) (calls_due calls) h in
      let channel = before_both t.on.moment _ _ all.0 in
      let rest = before_both t.on.moment _ _ channel.1 in
      cond-false _ _ _ (not_at_its_end t.on.moment t.control channel.0)
      ∙ ap (λ (d : Due). ticks_by role letters calls d t) (quiet_window t.control.channel.frozen t.control.channel.window t.on.moment rest.0)
      ∙ quietly calls rest.1 all.1

-- ---- its recovery tunnel

still_by : (frozen out over few : Bool) (c : Channel) (w : Window) → ((not frozen && out) && over) ≡ false
    → (if frozen then c else record c { outbox = record c.outbox { window = if (out && over) && few then w else c.outbox.window } }) ≡ c
still_by true out over few c w h = refl
still_by false out over few c w h = rw h refl

still_channel : (c : Channel) (m : ℕ) → is_before m (window_due c.frozen c.outbox.window) ≡ true → ticked_at c m ≡ c
still_channel c m h =
    let w = c.outbox.window in
    still_by c.frozen (nat_lt 0 w.outstanding) (nat_le (wait_after w.repetitions) (m - w.since)) (nat_lt w.repetitions 5) c _
    (waits_still _ (wait_after w.repetitions) w.since m (some_wait w.repetitions) h)

still_recovery : (r : Recovering) (m : ℕ) → is_before m (window_due (connection_of r).channel.frozen (connection_of r).channel.outbox.window) ≡ true → ticked m r ≡ r
still_recovery (ByAttempt c) m h = ap (λ (d : Channel). ByAttempt (record c { channel = d })) (still_channel c.channel m h)
still_recovery (ByAnswer a) m h =
    ap (λ (d : Channel). ByAnswer (record a { connection = record a.connection { channel = d } })) (still_channel a.connection.channel m h)

quiet_line : (c : ControlConnection) (m : ℕ) → is_before m (window_due c.channel.frozen c.channel.outbox.window) ≡ true → channel_answer c.channel m ≡ tick.Quiet
quiet_line c m h = quiet_window c.channel.frozen c.channel.outbox.window m h

not_lost : (c : ControlConnection) (m : ℕ) → is_before m (connection_due c) ≡ true → is_lost m c ≡ false
not_lost c m h =
    let both = before_both m (window_due c.channel.frozen c.channel.outbox.window) (reset_due c) h in
    rw (quiet_line c m both.0) (waits_still (is_none c.reset) reset_patience c.since m (omega arith) both.1)

not_past : (m : ℕ) (reset : Option ℕ) → is_before m (kept_until reset) ≡ true → is_past m reset ≡ false
not_past m None h = refl
not_past m (Some reset) h = waits_still true kept_after_reset reset m (omega arith) h

not_kept_long : (m : ℕ) (r : Recovering) → is_before m (over_due r) ≡ true → is_kept_long m r ≡ false
not_kept_long m (ByAttempt c) h = refl
not_kept_long m (ByAnswer a) h = not_past m a.connection.reset h

quiet_on : (calls : List (ℕ × Call)) (r : Recovering) (t : Turn) → is_before t.on.moment (recovery_due (Some r)) ≡ true → ticks_on calls r t ≡ with_recovery r t
unfolding ticks_on repeats_on
quiet_on calls r t h =
    let m = t.on.moment in
    let c = connection_of r in
    let both = before_both m (connection_due c) (over_due r) h in
    let line = before_both m (window_due c.channel.frozen c.channel.outbox.window) (reset_due c) both.0 in
    cond-false (is_lost m c) _ _ (not_lost c m both.0)
    ∙ cond-false (is_kept_long m r) _ _ (not_kept_long m r both.1)
    ∙ ap (λ (q : Recovering). with_recovery q (repeats_on (channel_answer c.channel m) r t)) (still_recovery r m line.0)
    ∙ ap (λ (d : Due). with_recovery r (repeats_on d r t)) (quiet_line c m line.0)

same_both : (b : Bool) (x y : RecoveryTurn) → x ≡ y → (if b then y else x) ≡ y
same_both true x y h = refl
same_both false x y h = h

pub quiet_recovery : (calls : List (ℕ × Call)) (recovery : Option Recovering) (t : Turn) → is_before t.on.moment (recovery_due recovery) ≡ true
    → recovery_ticks calls recovery t ≡ record { turn = t; recovery = recovery }
unfolding recovery_ticks
quiet_recovery calls None t h = refl
quiet_recovery calls (Some r) t h = same_both t.cleared (ticks_on calls r t) (with_recovery r t) (quiet_on calls r t h)
