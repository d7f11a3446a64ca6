-- What time does to a recovery tunnel leaves its tunnel as it is, or removes it; what it hears leaves its state and its calls, or removes it.
use Rattle.std.proofs.Common.{◌≡◌, ◌⊎◌, inl, inr, ⊎_elim, ℕ, true, List, length, refl, ◌∙◌, ap, Option, Some, None, zero, suc, [], Result, Ok, Err, false}
use Rattle.std.specs.Prelude.{nat_le, ◌==◌, unwrap_or, nat_lt}
use Rattle.wire_base.specs.declared.letter.Letter.{Letter}
use Rattle.send_window.specs.declared.window.Tick.{Tick as Due}
use Rattle.send_window.specs.declared.window.Tick.TheVariants as tick
use Rattle.send_window.specs.Outbox.{letter_at}
use Rattle.control_channel.specs.Channel.{answer_to_tick, next_to_go, class_told}
use Rattle.recovery_tunnel.specs.Connections.{ControlConnection, is_lost}
use Rattle.end_model.specs.declared.tunnel.Call.{Call}
use Rattle.end_model.specs.declared.moves.Move.TheVariants as move
use Rattle.end_model.specs.Tunnels.{Turn, Recovering, connection_of, ByAttempt, ByAnswer}
use Rattle.end_model.specs.Events.{with_calls}
use Rattle.end_model.specs.Turn.{with_output, with_move, drops}
use Rattle.end_model.specs.Recovering.{RecoveryTurn, recovery_letter, repeats_on, is_kept_long, ticks_on, without_recovery, recovery_ticks, Line, goes_once, goes_by, goes, resets, resets_by, follows, told_by, after_message, cause_in, told_by_fault, after_fault, heeds, takes_letter, hears_class, acknowledges_on, outstanding_of, is_acknowledged, settles_on, is_over_now, ends_attempt, reads_nr_on, hears_read, hears_recovery, ends_unfinished, suggested_by, asked_in, frozen_control, answer_to, froze}
use Rattle.step_laws.proofs.Lists.{branch}
use Rattle.step_laws.proofs.Recovered.{is_cleared}
use Rattle.id_table.specs.Ids.{ids_of}
use Rattle.id_table.specs.Order.{Ascends}
use Rattle.id_source.specs.Spaces.{after_id}
use Rattle.wire_base.specs.declared.why.Why.{Why}
use Rattle.l2tp_header.specs.declared.header.Header.{Header}
use Rattle.control_message.specs.declared.message.Message.{Message}
use Rattle.control_message.specs.declared.message.Opening.{Opening}
use Rattle.control_message.specs.declared.message.Suggested.{Suggested}
use Rattle.recv_window.specs.declared.Class.{Class}
use Rattle.recv_window.specs.declared.Class.TheVariants.{Next, Duplicate, Ahead}
use Rattle.recovery_tunnel.specs.declared.progress.Progress.{Progress}
use Rattle.recovery_tunnel.specs.declared.progress.Progress.TheVariants as progress
use Rattle.end_names.specs.declared.role.Role.{Role}
use Rattle.end_model.specs.declared.tunnel.Config.{Config}
use Rattle.end_model.specs.declared.tunnel.Control.{Control}
use Rattle.end_model.specs.declared.out.Out.TheVariants.{Cause as Refused}
use Rattle.end_model.specs.Reading.{message_in}
use Rattle.step_laws.specs.Moves.{finished_of}
use Rattle.step_laws.proofs.Freezing.{unfinished_is}
use Rattle.step_laws.proofs.Finished.{own_entries, left_finished}
use Rattle.step_laws.proofs.Keeping.{settled_keeps}
use Rattle.end_model.specs.Channels.{has_room}
use Rattle.end_model.specs.Querying.{asks_more, asks_next, queries, queries_by}
use Rattle.end_model.specs.Sending.{gives, settles}
use Rattle.session_query.specs.Queries.{next_batch}
use Rattle.wire_base.specs.declared.pair.Pair.{Pair}

-- the tunnel and its calls are as they were
pub record IsLeft (t u : Turn) : Type 0 where
  pub control : u.control ≡ t.control
  pub changed : u.changed ≡ t.changed
  pub cleared : u.cleared ≡ t.cleared
  pub on : u.on ≡ t.on

left_same : (t : Turn) → IsLeft t t
left_same t = record { control = refl; changed = refl; cleared = refl; on = refl }

pub letter_left : (c : ControlConnection) (number : ℕ) (o : Option Letter) (t : Turn) → IsLeft t (recovery_letter c number o t)
unfolding recovery_letter with_output
letter_left c number None t = left_same t
letter_left c number (Some l) t =
    branch (IsLeft t) (nat_le (length l.avps) 65523) _ _ (λ fits. record { control = refl; changed = refl; cleared = refl; on = refl }) (λ long. left_same t)

pub repeats_left : (a : Due) (r : Recovering) (t : Turn) → IsLeft t (repeats_on a r t)
unfolding repeats_on with_move
repeats_left tick.Quiet r t = left_same t
repeats_left (tick.Failed first) r t = left_same t
repeats_left (tick.Again number) r t =
    let h = letter_left (connection_of r) number (letter_at (connection_of r).channel.outbox number) (with_move (move.RecoveryWentOn t.control.local) t) in
    record { control = h.control; changed = h.changed; cleared = h.cleared; on = h.on }

abbrev pub IsBehind : Turn → Turn → Type 0
IsBehind t u = (u.cleared ≡ true) ⊎ IsLeft t u

line_left : (calls : List (ℕ × Call)) (r : Recovering) (t : Turn) → IsBehind t (ticks_on calls r t).turn
unfolding ticks_on without_recovery with_move
line_left calls r t =
    let u = repeats_on (answer_to_tick (connection_of r).channel t.on.moment) r t in
    let h = repeats_left (answer_to_tick (connection_of r).channel t.on.moment) r t in
    branch (λ (x : RecoveryTurn). IsBehind t x.turn) (is_lost t.on.moment (connection_of r)) _ _
    (λ lost. inl (is_cleared (with_calls u.changed calls) u))
    (λ going. branch (λ (x : RecoveryTurn). IsBehind t x.turn) (is_kept_long t.on.moment r) _ _
    (λ long. inr (record { control = h.control; changed = h.changed; cleared = h.cleared; on = h.on }))
    (λ young. inr h))

pub ticks_behind : (calls : List (ℕ × Call)) (o : Option Recovering) (t : Turn) → IsBehind t (recovery_ticks calls o t).turn
unfolding recovery_ticks
ticks_behind calls None t = inr (left_same t)
ticks_behind calls (Some r) t = branch (λ (x : RecoveryTurn). IsBehind t x.turn) t.cleared _ _ (λ gone. inl gone) (λ there. line_left calls r t)

-- ---- letters that go

by_left : (rest : ℕ) (o : Option ℕ) (l : Line) → IsLeft l.turn (goes_by rest o l).turn
unfolding goes_by goes_once
by_left zero None l = left_same l.turn
by_left (suc rest) None l = left_same l.turn
by_left zero (Some number) l = left_same l.turn
by_left (suc rest) (Some number) l =
    let h = letter_left l.connection number (letter_at l.connection.channel.outbox number) l.turn in
    let k = by_left rest (next_to_go (goes_once number l).connection.channel) (goes_once number l) in
    record { control = k.control ∙ h.control; changed = k.changed ∙ h.changed; cleared = k.cleared ∙ h.cleared; on = k.on ∙ h.on }

pub goes_left : (r : Recovering) (t : Turn) → IsLeft t (goes r t).turn
unfolding goes
goes_left r t = by_left 3 (next_to_go (connection_of r).channel) (record { connection = connection_of r; turn = t })

-- ---- what it hears

-- its state and its calls are as they were
pub record IsHeld (t u : Turn) : Type 0 where
  pub state : u.control.state ≡ t.control.state
  pub changed : u.changed ≡ t.changed

abbrev pub IsHeard : Turn → Turn → Type 0
IsHeard t u = (u.cleared ≡ true) ⊎ IsHeld t u

goes_held : (r : Recovering) (t u : Turn) → IsHeld t u → IsHeld t (goes r u).turn
goes_held r t u h = let k = goes_left r u in record { state = ap (λ (c : Control). c.state) k.control ∙ h.state; changed = k.changed ∙ h.changed }

held_same : (t : Turn) → IsHeld t t
held_same t = record { state = refl; changed = refl }

reset_held : (letters : List Letter) (calls : List (ℕ × Call)) (s : Suggested) (draw : ℕ) (r : Recovering) (t : Turn)
    → IsHeld t (resets_by letters calls s draw r t)
unfolding resets_by resets with_move
reset_held letters calls s draw (ByAttempt c) t = record { state = refl; changed = refl }
reset_held letters calls s draw (ByAnswer a) t = record { state = refl; changed = refl }

settled_held : (letters : List Letter) (t : Turn) → IsHeld t (settles false letters t)
settled_held letters t = let k = settled_keeps false letters t in record { state = k.state; changed = k.changed }

held_on : (t u v : Turn) → IsHeld t u → IsHeld u v → IsHeld t v
held_on t u v h k = record { state = k.state ∙ h.state; changed = k.changed ∙ h.changed }

-- asking for sessions changes neither
asked_held : (o : Option (List Pair)) (t : Turn) → IsHeld t (queries_by o t)
unfolding queries_by queries gives drops with_output with_move
asked_held None t = held_same t
asked_held (Some pairs) t =
    branch (IsHeld t) (has_room t.control) _ _ (λ may. record { state = refl; changed = refl })
    (λ full. record { state = refl; changed = refl })

next_held : (letters : List Letter) (t : Turn) → IsHeld t (asks_next letters t)
unfolding asks_next asks_more
next_held letters t =
    let u = queries_by (next_batch t.query) t in
    held_on t u _ (asked_held (next_batch t.query) t) (settled_held letters u)

follows_heard : (letters : List Letter) (calls : List (ℕ × Call)) (p : Progress) (r : Recovering) (t : Turn) → IsHeard t (follows letters calls p r t).turn
unfolding follows
follows_heard letters calls progress.Waiting r t = inr (goes_held r t t (held_same t))
follows_heard letters calls (progress.Reset s draw) r t =
    let u = resets_by letters calls s (unwrap_or draw 0) r t in
    let gone = goes_held r t u (reset_held letters calls s (unwrap_or draw 0) r t) in
    inr (held_on t (goes r u).turn _ gone (next_held letters (goes r u).turn))
follows_heard letters calls (progress.Given cause) r t = inl (is_cleared calls (goes r (with_output (Refused cause) t)).turn)
follows_heard letters calls progress.Cleared r t = inl (is_cleared calls t)

heeds_heard : (c : Config) (letters : List Letter) (calls : List (ℕ × Call)) (body : List ℕ) (m : Result Message Why) (r : Recovering) (t : Turn)
    → IsHeard t (heeds c letters calls body m r t).turn
unfolding heeds
heeds_heard c letters calls body (Ok m) r t = follows_heard letters calls (told_by c.secret m r) (after_message c.secret t.on.moment m r) t
heeds_heard c letters calls body (Err w) r t = follows_heard letters calls (told_by_fault (cause_in body) r) (after_fault (cause_in body) r) t

class_heard : (c : Config) (letters : List Letter) (calls : List (ℕ × Call)) (body : List ℕ) (class : Option Class) (r : Recovering) (t : Turn)
    → IsHeard t (hears_class c letters calls body class r t).turn
unfolding hears_class drops with_output
class_heard c letters calls body (Some Next) r t = heeds_heard c letters calls body (message_in body) (takes_letter r) t
class_heard c letters calls body (Some (Ahead by)) r t = inr (goes_held r t _ (record { state = refl; changed = refl }))
class_heard c letters calls body (Some Duplicate) r t = inr (goes_held r t t (held_same t))
class_heard c letters calls body None r t = inr (goes_held r t t (held_same t))

-- so does what is told behind it
abbrev IsKeptBy : Turn → Turn → Type 0
IsKeptBy u v = (v.cleared ≡ u.cleared) × IsHeld u v

heard_on : (t u v : Turn) → IsKeptBy u v → IsHeard t u → IsHeard t v
heard_on t u v k h = ⊎_elim
    (λ gone. inl (k.0 ∙ gone))
    (λ (a : IsHeld t u). inr (record { state = k.1.state ∙ a.state; changed = k.1.changed ∙ a.changed }))
    h

settles_kept : (class : Option Class) (before : ℕ) (o : Option Recovering) (t : Turn) → IsKeptBy t (settles_on class before o t).turn
unfolding settles_on acknowledges_on with_output
settles_kept class before None t = (refl, held_same t)
settles_kept class before (Some r) t =
    branch (λ (x : RecoveryTurn). IsKeptBy t x.turn) (is_acknowledged class before (outstanding_of r)) _ _
    (λ yes. (refl, record { state = refl; changed = refl }))
    (λ no. (refl, held_same t))

ends_kept : (o : Option Recovering) (t : Turn) → IsKeptBy t (ends_attempt o t).turn
unfolding ends_attempt without_recovery with_move
ends_kept None t = (refl, held_same t)
ends_kept (Some r) t =
    branch (λ (x : RecoveryTurn). IsKeptBy t x.turn) (is_over_now t.cleared r) _ _
    (λ over. (refl, record { state = refl; changed = refl }))
    (λ going. (refl, held_same t))

read_heard : (c : Config) (letters : List Letter) (calls : List (ℕ × Call)) (body : List ℕ) (class : Option Class) (r : Recovering) (t : Turn)
    → IsHeard t (hears_read c letters calls body class r t).turn
unfolding hears_read with_move
read_heard c letters calls body class r t =
    let went = with_move (move.RecoveryWentOn t.control.local) t in
    let u = hears_class c letters calls body class r went in
    let v = settles_on class (outstanding_of r) u.recovery u.turn in
    let first : IsHeard t u.turn = ⊎_elim
    (λ gone. inl gone)
    (λ (a : IsHeld went u.turn). inr (record { state = a.state; changed = a.changed }))
    (class_heard c letters calls body class r went) in
    heard_on t v.turn _ (ends_kept v.recovery v.turn) (heard_on t u.turn v.turn (settles_kept class (outstanding_of r) u.recovery u.turn) first)

pub line_heard : (c : Config) (letters : List Letter) (calls : List (ℕ × Call)) (k : Header) (body : List ℕ) (o : Option Recovering) (t : Turn)
    → IsHeard t (hears_recovery c letters calls k body o t).turn
unfolding hears_recovery drops with_output
line_heard c letters calls k body None t = inr (record { state = refl; changed = refl })
line_heard c letters calls k body (Some r) t =
    let read = reads_nr_on (unwrap_or k.nr 0) t.on.moment r in
    read_heard c letters calls body (class_told (connection_of read).channel (unwrap_or k.ns 0) (length body == 0)) read t

-- ---- a tunnel that is frozen: its calls that aren't established end

abbrev pub frozen_turn : Opening → ℕ → ℕ → Turn → Turn
frozen_turn o local draw t =
    let s = suggested_by t.control in
    with_move (move.Froze (record { tunnel = t.control.local; peer = t.control.peer; remote = t.control.remote; attempt = o.tunnel; answer = local; asked = asked_in o; draw = draw; expect = s.ns; send_from = s.nr; marked = nat_lt t.control.mark (asked_in o) }))
    (record t {
      control = frozen_control (asked_in o) t.control;
      ids = record t.ids { tunnels = after_id t.ids.tunnels; recoveries = after_id t.ids.recoveries };
    })

pub froze_left : (role : Role) (c : Config) (calls : List (ℕ × Call)) (o : Opening) (local draw : ℕ) (t : Turn) → Ascends calls → t.changed ≡ []
    → ((froze role c calls o local draw t).turn.control.state ≡ t.control.state) × (with_calls (froze role c calls o local draw t).turn.changed calls ≡ finished_of calls)
unfolding froze with_move
froze_left role c calls o local draw t order none =
    let answer = answer_to role c o (suggested_by t.control) local draw t in
    let k = goes_left (ByAnswer answer) (ends_unfinished (ids_of calls) calls (frozen_turn o local draw t)) in (
      ap (λ (x : Control). x.state) k.control ∙ ap (λ (u : Turn). u.control.state) (unfinished_is (ids_of calls) calls (frozen_turn o local draw t)),
      ap (λ xs. with_calls xs calls) (k.changed ∙ ap (λ (u : Turn). u.changed) (unfinished_is (ids_of calls) calls (frozen_turn o local draw t)) ∙ rw none refl)
          ∙ left_finished calls calls order (own_entries calls order),
    )
