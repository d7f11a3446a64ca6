-- As time passes in a tunnel no id is drawn, and no call is made.
use Rattle.std.proofs.Common.{◌≡◌, ℕ, zero, suc, Bool, true, false, List, [], ◌∷◌, Option, Some, None, refl, ◌∙◌}
use Rattle.std.specs.Prelude.{not, if◌then◌else◌}
use Rattle.id_table.specs.Ids.{at}
use Rattle.wire_base.specs.declared.letter.Letter.{Letter}
use Rattle.wire_base.specs.declared.why.Why.TheVariants as why
use Rattle.wire_base.specs.declared.cause.Cause.TheVariants as cause
use Rattle.wire_base.specs.declared.cause.Cause.{Cause as CauseOf}
use Rattle.send_window.specs.declared.window.Tick.{Tick as Due}
use Rattle.send_window.specs.declared.window.Tick.TheVariants as tick
use Rattle.call_fsm.specs.declared.table.CallAction.{CallAction}
use Rattle.call_fsm.specs.declared.table.CallAction.TheVariants as call_action
use Rattle.call_link.specs.declared.turn.LinkTurn.{LinkTurn}
use Rattle.end_model.specs.declared.tunnel.Call.{Call}
use Rattle.call_link.specs.Link.{Link}
use Rattle.end_names.specs.declared.role.Role.{Role}
use Rattle.end_model.specs.Calls.{is_up, counted, counted_all}
use Rattle.end_model.specs.Channels.{has_room}
use Rattle.end_model.specs.declared.out.Out.TheVariants.{Cause}
use Rattle.control_channel.specs.Channel.{answer_to_tick}
use Rattle.recovery_tunnel.specs.Connections.{ControlConnection, is_lost}
use Rattle.end_model.specs.declared.event.Event.TheVariants.{Tick}
use Rattle.end_model.specs.declared.tunnel.Config.{Config}
use Rattle.end_model.specs.Events.{with_calls, turns}
use Rattle.end_model.specs.Recovering.{RecoveryTurn, with_recovery, recovery_letter, repeats_on, is_kept_long, ticked, ticks_on, without_recovery, recovery_ticks, recovering_turns}
use Rattle.end_model.specs.Tunnels.{Tunnel, is_current, Drawing, Turn, Recovering, connection_of}
use Rattle.end_model.specs.Turn.{with_output, with_move, with_change, drops, ends_call, ends_all, with_looks_of, with_call}
use Rattle.end_model.specs.Ticking.{greeted, greets, limits_at, limits_all, goes_quietly, ticks_by, ticks}
use Rattle.end_model.specs.Stopping.{clears}
use Rattle.end_model.specs.Sending.{gives, sends_letter, sends_now, lets_go, goes_by, lets_all_go, repeats, acknowledges, acknowledged_after, settles}
use Rattle.end_model.specs.Closing.{end_silent, end_told, ends_by}
use Rattle.end_model.specs.Frames.{sends_frame, counts, carried}
use Rattle.end_model.specs.Linking.{sends_frames, negotiated, ends_linked, links_by, ticks_link}

-- what a turn drew
abbrev pub drawn : Turn → List ℕ × Drawing
drawn t = (t.added, t.ids)

either : (b : Bool) (x y t : Turn) → drawn x ≡ drawn t → drawn y ≡ drawn t → drawn (if b then x else y) ≡ drawn t
either true x y t one other = one
either false x y t one other = other

ended_drawn : (for : CauseOf) (result : ℕ) (error : Option ℕ) (s : ℕ) (c : Call) (a : CallAction) (t : Turn)
    → drawn (ends_by for result error s c a t) ≡ drawn t
unfolding ends_by end_silent end_told gives drops ends_call with_output with_move with_change
ended_drawn for result error s c call_action.CleanUp t = refl
ended_drawn for result error s c call_action.SendCdn t =
    let told : Turn = end_told s c result error (with_output (Cause for) t) in
    let full : Turn = drops why.Queue t in
    let current : Turn = if has_room t.control then told else full in
    either (not (is_current t.on.mode)) (end_silent s (is_up c.state) t) current t refl (either (has_room t.control) told full t refl refl)
ended_drawn for result error s c a t = refl

counts_drawn : (s : ℕ) (c : Call) (o : Option ℕ) (t : Turn) → drawn (counts s c o t) ≡ drawn t
unfolding counts with_move with_call
counts_drawn s c None t = refl
counts_drawn s c (Some n) t = refl

carried_drawn : (s : ℕ) (frame : List ℕ) (c : Call) (t : Turn) → drawn (carried s frame c t) ≡ drawn t
unfolding carried sends_frame with_output with_move
carried_drawn s frame c t = counts_drawn s c c.sequence (sends_frame s frame c t)

frames_drawn : (s : ℕ) (fs : List (List ℕ)) (c : Call) (t : Turn) → drawn (sends_frames s fs c t) ≡ drawn t
unfolding sends_frames
frames_drawn s [] c t = refl
frames_drawn s (f ∷ fs) c t = frames_drawn s fs (counted c) (carried s f c t) ∙ carried_drawn s f c t

negotiated_drawn : (s : ℕ) (c : Call) (v : LinkTurn) (t : Turn) → drawn (negotiated s c v t) ≡ drawn t
unfolding negotiated with_looks_of with_move with_call
negotiated_drawn s c v t = frames_drawn s v.frames c t

module _ (letters : List Letter) where
  letter_drawn : (number : ℕ) (o : Option Letter) (t : Turn) → drawn (sends_letter number o t) ≡ drawn t
  unfolding sends_letter with_output
  letter_drawn number None t = refl
  letter_drawn number (Some l) t = either _ _ _ t refl refl

  goes_drawn : (number : ℕ) (t : Turn) → drawn (lets_go letters number t) ≡ drawn t
  unfolding lets_go sends_now with_move
  goes_drawn number t = letter_drawn number _ _

  by_drawn : (rest : Turn → Turn) → ((t : Turn) → drawn (rest t) ≡ drawn t) → (o : Option ℕ) (t : Turn) → drawn (goes_by rest letters o t) ≡ drawn t
  unfolding goes_by
  by_drawn rest later None t = refl
  by_drawn rest later (Some number) t = later (lets_go letters number t) ∙ goes_drawn number t

  all_drawn : (most : ℕ) (t : Turn) → drawn (lets_all_go most letters t) ≡ drawn t
  unfolding lets_all_go
  all_drawn zero t = refl
  all_drawn (suc most) t = by_drawn (lets_all_go most letters) (all_drawn most) _ t

  acknowledged_drawn : (again : Bool) (before : ℕ) (t : Turn) → drawn (acknowledged_after again before t) ≡ drawn t
  unfolding acknowledged_after acknowledges with_output with_move
  acknowledged_drawn again before t = either _ _ _ t refl refl

  settles_drawn : (again : Bool) (t : Turn) → drawn (settles again letters t) ≡ drawn t
  unfolding settles
  settles_drawn again t = acknowledged_drawn again _ (lets_all_go t.control.channel.window.queued letters t) ∙ all_drawn _ t

  repeats_drawn : (number : ℕ) (t : Turn) → drawn (repeats letters number t) ≡ drawn t
  unfolding repeats sends_now with_move
  repeats_drawn number t = letter_drawn number _ _

  greets_drawn : (t : Turn) → drawn (greets letters t) ≡ drawn t
  unfolding greets greeted gives with_move
  greets_drawn t = either _ _ _ t (settles_drawn false _) refl

  links_drawn : (role : Role) (s : ℕ) (c : Call) (v : LinkTurn) (o : Option CauseOf) (t : Turn) → drawn (links_by role letters s c v o t) ≡ drawn t
  unfolding links_by ends_linked
  links_drawn role s c v None t = negotiated_drawn s c v t
  links_drawn role s c v (Some for) t =
      settles_drawn false _ ∙ (ended_drawn for 3 None s (counted_all v.frames c) _ (sends_frames s v.frames c t) ∙ frames_drawn s v.frames c t)

  link_drawn : (role : Role) (s : ℕ) (c : Call) (o : Option Link) (t : Turn) → drawn (ticks_link role letters s c o t) ≡ drawn t
  unfolding ticks_link
  link_drawn role s c None t = refl
  link_drawn role s c (Some l) t = either _ _ _ t (links_drawn role s c _ _ t) refl

  limit_drawn : (role : Role) (s : ℕ) (o : Option Call) (t : Turn) → drawn (limits_at role letters s o t) ≡ drawn t
  unfolding limits_at
  limit_drawn role s None t = refl
  limit_drawn role s (Some c) t = either _ _ _ t (settles_drawn false _ ∙ ended_drawn cause.Setup 10 None s c _ t) (link_drawn role s c c.link t)

  limits_drawn : (role : Role) (ss : List ℕ) (calls : List (ℕ × Call)) (t : Turn) → drawn (limits_all role letters ss calls t) ≡ drawn t
  unfolding limits_all
  limits_drawn role [] calls t = refl
  limits_drawn role (s ∷ ss) calls t = limits_drawn role ss calls (limits_at role letters s (at calls s) t) ∙ limit_drawn role s (at calls s) t

  quietly_drawn : (role : Role) (calls : List (ℕ × Call)) (t : Turn) → drawn (goes_quietly role letters calls t) ≡ drawn t
  unfolding goes_quietly
  quietly_drawn role calls t = limits_drawn role _ calls (greets letters t) ∙ greets_drawn t

ends_drawn : (ss : List ℕ) (t : Turn) → drawn (ends_all ss t) ≡ drawn t
unfolding ends_all ends_call with_output with_change
ends_drawn [] t = refl
ends_drawn (s ∷ ss) t = ends_drawn ss (ends_call s t)

clears_drawn : (calls : List (ℕ × Call)) (t : Turn) → drawn (clears calls t) ≡ drawn t
unfolding clears with_move
clears_drawn calls t = ends_drawn _ _

due_drawn : (role : Role) (letters : List Letter) (calls : List (ℕ × Call)) (due : Due) (t : Turn) → drawn (ticks_by role letters calls due t) ≡ drawn t
unfolding ticks_by
due_drawn role letters calls tick.Quiet t = quietly_drawn letters role calls t
due_drawn role letters calls (tick.Again number) t = quietly_drawn letters role calls (repeats letters number t) ∙ repeats_drawn letters number t
due_drawn role letters calls (tick.Failed first) t = clears_drawn calls t

ticks_drawn : (role : Role) (letters : List Letter) (calls : List (ℕ × Call)) (t : Turn) → drawn (ticks role letters calls t) ≡ drawn t
unfolding ticks
ticks_drawn role letters calls t = either _ _ _ t (clears_drawn calls t) (due_drawn role letters calls _ t)

-- ---- its recovery tunnel

either_on : (b : Bool) (x y : RecoveryTurn) (t : Turn) → drawn x.turn ≡ drawn t → drawn y.turn ≡ drawn t → drawn (if b then x else y).turn ≡ drawn t
either_on true x y t one other = one
either_on false x y t one other = other

line_letter_drawn : (c : ControlConnection) (number : ℕ) (o : Option Letter) (t : Turn) → drawn (recovery_letter c number o t) ≡ drawn t
unfolding recovery_letter with_output
line_letter_drawn c number None t = refl
line_letter_drawn c number (Some l) t = either _ _ _ t refl refl

repeats_on_drawn : (k : Due) (r : Recovering) (t : Turn) → drawn (repeats_on k r t) ≡ drawn t
unfolding repeats_on with_move
repeats_on_drawn tick.Quiet r t = refl
repeats_on_drawn (tick.Again number) r t = line_letter_drawn (connection_of r) number _ _
repeats_on_drawn (tick.Failed first) r t = refl

on_drawn : (calls : List (ℕ × Call)) (r : Recovering) (t : Turn) → drawn (ticks_on calls r t).turn ≡ drawn t
unfolding ticks_on without_recovery with_move
on_drawn calls r t =
    let u : Turn = repeats_on (answer_to_tick (connection_of r).channel t.on.moment) r t in
    let went : drawn u ≡ drawn t = repeats_on_drawn (answer_to_tick (connection_of r).channel t.on.moment) r t in
    let lost : RecoveryTurn = with_recovery r (clears (with_calls u.changed calls) u) in
    let over : RecoveryTurn = without_recovery u in
    let kept : RecoveryTurn = with_recovery (ticked t.on.moment r) u in
    let later : RecoveryTurn = if is_kept_long t.on.moment r then over else kept in
    either_on (is_lost t.on.moment (connection_of r)) lost later t (clears_drawn (with_calls u.changed calls) u ∙ went) (either_on (is_kept_long t.on.moment r) over kept t went went)

recovery_drawn : (calls : List (ℕ × Call)) (o : Option Recovering) (t : Turn) → drawn (recovery_ticks calls o t).turn ≡ drawn t
unfolding recovery_ticks
recovery_drawn calls None t = refl
recovery_drawn calls (Some r) t = either_on _ _ _ t refl (on_drawn calls r t)

-- and of the tunnel with it
pub turn_drawn : (role : Role) (c : Config) (u : Tunnel) (t : Turn) → drawn (recovering_turns role c u Tick t).turn ≡ drawn t
unfolding recovering_turns turns
turn_drawn role c u t = recovery_drawn u.calls u.recovery (ticks role u.letters u.calls t) ∙ ticks_drawn role u.letters u.calls t
