-- A tick makes no call.
use Rattle.std.proofs.Common.{◌≡◌, ℕ, Bool, ◌==◌, ◌&&◌, false, List, [], ◌∷◌, ap, ◌∙◌, Option, Some, None}
use Rattle.std.specs.Prelude.{nat_lt, not, nat_le, length}
use Rattle.id_table.specs.Ids.{at, ids_of}
use Rattle.wire_base.specs.declared.cause.Cause.{Cause}
use Rattle.wire_base.specs.declared.cause.Cause.TheVariants as cause
use Rattle.wire_base.specs.declared.letter.Letter.{Letter}
use Rattle.send_window.specs.declared.window.Tick.{Tick as Due}
use Rattle.send_window.specs.declared.window.Tick.TheVariants as tick
use Rattle.control_channel.specs.Numbers.{answer_to_tick}
use Rattle.control_channel.specs.Channel.{answer_to_tick as channel_tick}
use Rattle.send_window.specs.Outbox.{letter_at}
use Rattle.recovery_tunnel.specs.Connections.{ControlConnection, is_lost}
use Rattle.tunnel_fsm.specs.Rows.{state_number}
use Rattle.call_fsm.specs.declared.table.CallEvent.TheVariants as call_event
use Rattle.call_fsm.specs.declared.table.CallAction.{CallAction}
use Rattle.call_fsm.specs.declared.table.CallAction.TheVariants as call_action
use Rattle.end_model.specs.declared.tunnel.Call.{Call}
use Rattle.end_model.specs.declared.tunnel.Config.{Config}
use Rattle.end_names.specs.declared.role.Role.{Role}
use Rattle.call_link.specs.declared.turn.LinkTurn.{LinkTurn}
use Rattle.call_link.specs.Link.{Link, is_due}
use Rattle.end_model.specs.declared.event.Event.TheVariants.{Tick}
use Rattle.end_model.specs.declared.moves.Move.TheVariants as move
use Rattle.end_model.specs.Calls.{counted_all, row_for, is_set_up, is_up}
use Rattle.end_model.specs.Tunnels.{Turn, is_current, Recovering, connection_of}
use Rattle.end_model.specs.Turn.{with_output, with_move, with_change, with_call, with_looks_of, drops, ends_call, ends_all}
use Rattle.end_model.specs.Sending.{gives, letter_in, settles, sends_now, repeats}
use Rattle.end_model.specs.Channels.{has_room, place, counts_repeated}
use Rattle.end_model.specs.Moments.{is_over, patience, is_at_its_end, is_open}
use Rattle.end_model.specs.Closing.{ends_by, end_silent, end_told}
use Rattle.end_model.specs.Ticking.{greeted, greets, limits_at, limits_all, goes_quietly, ticks_by, ticks}
use Rattle.end_model.specs.Stopping.{clears}
use Rattle.end_model.specs.Linking.{sends_frames, negotiated, ends_linked, links_by, ticks_link}
use Rattle.end_model.specs.Events.{turns, with_calls}
use Rattle.step_laws.proofs.Lists.{branch}
use Rattle.step_laws.proofs.Keeping.{sent_keeps, settled_keeps}
use Rattle.step_laws.proofs.Linking.{frames_same}
use Rattle.end_model.specs.Recovering.{RecoveryTurn, recovery_letter, repeats_on, is_kept_long, ticks_on, without_recovery, recovery_ticks}

module _ (ss : List ℕ) where
  -- these are the calls that a turn made
  abbrev Made : Turn → Type 0
  Made t = t.added ≡ ss

  settled_made : (again : Bool) (letters : List Letter) (t : Turn) → Made t → Made (settles again letters t)
  settled_made again letters t h = (settled_keeps again letters t).added ∙ h

  -- ---- calls that end

  by_made : (for : Cause) (result : ℕ) (error : Option ℕ) (s : ℕ) (c : Call) (a : CallAction) (t : Turn) → Made t → Made (ends_by for result error s c a t)
  unfolding ends_by end_silent end_told ends_call gives drops with_output with_change with_move
  by_made for result error s c call_action.CleanUp t h = h
  by_made for result error s c call_action.SendCdn t h =
      branch Made (not (is_current t.on.mode)) _ _ (λ inactive. h) (λ active. branch Made (has_room t.control) _ _ (λ may. h) (λ full. h))
  by_made for result error s c call_action.Nothing t h = h
  by_made for result error s c call_action.SendIcrq t h = h
  by_made for result error s c call_action.SendIcrp t h = h
  by_made for result error s c call_action.SendIccn t h = h
  by_made for result error s c call_action.DropSession t h = h

  all_made : (qs : List ℕ) (t : Turn) → Made t → Made (ends_all qs t)
  unfolding ends_all ends_call with_output with_change
  all_made [] t h = h
  all_made (q ∷ qs) t h = all_made qs (ends_call q t) h

  cleared_made : (calls : List (ℕ × Call)) (t : Turn) → Made t → Made (clears calls t)
  unfolding clears with_move
  cleared_made calls t h = all_made (ids_of calls) (with_move (move.Cleared t.control.local (is_open t.control.state)) t) h

  -- ---- links

  frames_made : (s : ℕ) (c : Call) (v : LinkTurn) (t : Turn) → Made t → Made (sends_frames s v.frames c t)
  frames_made s c v t h = ap (λ (x : Turn). x.added) (frames_same s v.frames c t) ∙ h

  negotiated_made : (s : ℕ) (c : Call) (v : LinkTurn) (t : Turn) → Made t → Made (negotiated s c v t)
  unfolding negotiated with_looks_of with_move with_call
  negotiated_made s c v t h = frames_made s c v t h

  links_made : (role : Role) (letters : List Letter) (s : ℕ) (c : Call) (v : LinkTurn) (o : Option Cause) (t : Turn) → Made t
      → Made (links_by role letters s c v o t)
  unfolding links_by ends_linked
  links_made role letters s c v None t h = negotiated_made s c v t h
  links_made role letters s c v (Some for) t h =
      settled_made false letters _
      (by_made for 3 None s (counted_all v.frames c) (row_for role c call_event.Close).1 (sends_frames s v.frames c t) (frames_made s c v t h))

  ticks_link_made : (role : Role) (letters : List Letter) (s : ℕ) (c : Call) (o : Option Link) (t : Turn) → Made t → Made (ticks_link role letters s c o t)
  unfolding ticks_link
  ticks_link_made role letters s c None t h = h
  ticks_link_made role letters s c (Some l) t h =
      branch Made (nat_lt s 65536 && is_up c.state && is_due t.on.moment l) _ _
      (λ due. links_made role letters s c _ _ t h)
      (λ no. h)

  -- ---- time

  repeated_made : (letters : List Letter) (number : ℕ) (t : Turn) → Made t → Made (repeats letters number t)
  unfolding repeats sends_now with_move
  repeated_made letters number t h =
      let u = with_move (move.Repeated (record { tunnel = t.control.local; sent = place number })) (record t { control = counts_repeated t.on.moment t.control }) in
      (sent_keeps number (letter_in letters u number) u).added ∙ h

  greets_made : (letters : List Letter) (t : Turn) → Made t → Made (greets letters t)
  unfolding greets greeted gives with_move
  greets_made letters t h =
      branch Made (state_number t.control.state == 3 && is_current t.on.mode && t.control.channel.window.queued == 0 && is_over patience t.on.moment t.control.heard) _ _
      (λ due. settled_made false letters _ h)
      (λ no. h)

  limits_made : (role : Role) (letters : List Letter) (s : ℕ) (o : Option Call) (t : Turn) → Made t → Made (limits_at role letters s o t)
  unfolding limits_at
  limits_made role letters s None t h = h
  limits_made role letters s (Some c) t h =
      branch Made (nat_lt s 65536 && is_set_up c.state && is_over patience t.on.moment c.since) _ _
      (λ due. settled_made false letters _ (by_made cause.Setup 10 None s c (row_for role c call_event.Close).1 t h))
      (λ no. ticks_link_made role letters s c c.link t h)

  limits_all_made : (role : Role) (letters : List Letter) (qs : List ℕ) (calls : List (ℕ × Call)) (t : Turn) → Made t
      → Made (limits_all role letters qs calls t)
  unfolding limits_all
  limits_all_made role letters [] calls t h = h
  limits_all_made role letters (q ∷ qs) calls t h =
      limits_all_made role letters qs calls (limits_at role letters q (at calls q) t) (limits_made role letters q (at calls q) t h)

  quietly_made : (role : Role) (letters : List Letter) (calls : List (ℕ × Call)) (t : Turn) → Made t → Made (goes_quietly role letters calls t)
  unfolding goes_quietly
  quietly_made role letters calls t h = limits_all_made role letters (ids_of calls) calls (greets letters t) (greets_made letters t h)

  ticks_by_made : (role : Role) (letters : List Letter) (calls : List (ℕ × Call)) (a : Due) (t : Turn) → Made t → Made (ticks_by role letters calls a t)
  unfolding ticks_by
  ticks_by_made role letters calls tick.Quiet t h = quietly_made role letters calls t h
  ticks_by_made role letters calls (tick.Again number) t h = quietly_made role letters calls (repeats letters number t) (repeated_made letters number t h)
  ticks_by_made role letters calls (tick.Failed first) t h = cleared_made calls t h

  pub tick_makes : (role : Role) (c : Config) (letters : List Letter) (calls : List (ℕ × Call)) (t : Turn) → t.added ≡ ss
      → (turns role c letters calls Tick t).added ≡ ss
  unfolding turns ticks
  tick_makes role c letters calls t h =
      branch Made (is_at_its_end t.on.moment t.control) _ _
      (λ due. cleared_made calls t h)
      (λ no. ticks_by_made role letters calls (answer_to_tick t.control.channel t.on.moment) t h)

  -- ---- a recovery tunnel

  letter_made : (c : ControlConnection) (number : ℕ) (o : Option Letter) (t : Turn) → Made t → Made (recovery_letter c number o t)
  unfolding recovery_letter with_output
  letter_made c number None t h = h
  letter_made c number (Some l) t h = branch Made (nat_le (length l.avps) 65523) _ _ (λ fits. h) (λ long. h)

  repeats_made : (a : Due) (r : Recovering) (t : Turn) → Made t → Made (repeats_on a r t)
  unfolding repeats_on with_move
  repeats_made tick.Quiet r t h = h
  repeats_made (tick.Failed first) r t h = h
  repeats_made (tick.Again number) r t h =
      letter_made (connection_of r) number (letter_at (connection_of r).channel.outbox number) (with_move (move.RecoveryWentOn t.control.local) t) h

  line_made : (calls : List (ℕ × Call)) (r : Recovering) (t : Turn) → Made t → Made (ticks_on calls r t).turn
  unfolding ticks_on without_recovery with_move
  line_made calls r t h =
      let u = repeats_on (channel_tick (connection_of r).channel t.on.moment) r t in
      let made = repeats_made (channel_tick (connection_of r).channel t.on.moment) r t h in
      branch (λ (x : RecoveryTurn). Made x.turn) (is_lost t.on.moment (connection_of r)) _ _
      (λ lost. cleared_made (with_calls u.changed calls) u made)
      (λ going. branch (λ (x : RecoveryTurn). Made x.turn) (is_kept_long t.on.moment r) _ _ (λ long. made) (λ young. made))

  pub recovery_makes : (calls : List (ℕ × Call)) (o : Option Recovering) (t : Turn) → t.added ≡ ss → (recovery_ticks calls o t).turn.added ≡ ss
  unfolding recovery_ticks
  recovery_makes calls None t h = h
  recovery_makes calls (Some r) t h = branch (λ (x : RecoveryTurn). Made x.turn) t.cleared _ _ (λ gone. h) (λ there. line_made calls r t h)
