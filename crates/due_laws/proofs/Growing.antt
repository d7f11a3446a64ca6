-- What a tick does in a turn is behind what was done in it before.
use Rattle.std.proofs.Common.{◌≡◌, ℕ, zero, suc, ◌+◌, ◌≤◌, Bool, true, false, List, [], ◌∷◌, Option, Some, None, refl, sym, ap, ◌∙◌, arith, length-append}
use Rattle.std.proofs.lemmas.Bool.{true≢false}
use Rattle.std.specs.Prelude.{◌||◌, not, if◌then◌else◌}
use Rattle.id_table.specs.Ids.{at, ids_of}
use Rattle.wire_base.specs.declared.letter.Letter.{Letter}
use Rattle.wire_base.specs.declared.cause.Cause.{Cause as CauseOf}
use Rattle.wire_base.specs.declared.cause.Cause.TheVariants as cause
use Rattle.send_window.specs.declared.window.Tick.{Tick as Due}
use Rattle.send_window.specs.declared.window.Tick.TheVariants as tick
use Rattle.control_channel.specs.Channel.{answer_to_tick as channel_answer}
use Rattle.recovery_tunnel.specs.Connections.{ControlConnection, is_lost}
use Rattle.call_fsm.specs.declared.table.CallState.{CallState}
use Rattle.call_fsm.specs.declared.table.CallState.TheVariants.{Idle, WaitTunnel, WaitReply, WaitConnect, Established}
use Rattle.call_fsm.specs.declared.table.CallEvent.TheVariants.{Close}
use Rattle.call_fsm.specs.declared.table.CallAction.{CallAction}
use Rattle.call_fsm.specs.declared.table.CallAction.TheVariants as call_action
use Rattle.call_link.specs.declared.turn.LinkTurn.{LinkTurn}
use Rattle.end_names.specs.declared.role.Role.{Role}
use Rattle.end_names.specs.declared.role.Role.TheVariants.{Lac, Lns}
use Rattle.end_model.specs.declared.tunnel.Call.{Call}
use Rattle.end_model.specs.declared.tunnel.Control.{Control}
use Rattle.call_link.specs.Link.{Link}
use Rattle.end_model.specs.declared.out.Out.{Out}
use Rattle.end_model.specs.declared.out.Out.TheVariants.{Gone, Cause}
use Rattle.end_model.specs.declared.moves.Move.{Move}
use Rattle.session_looks.specs.declared.look.CellChange.{CellChange}
use Rattle.end_model.specs.Calls.{counted, counted_all, call_row, row_for, is_up, is_told, is_clean_up}
use Rattle.end_model.specs.Channels.{has_room}
use Rattle.end_model.specs.Tunnels.{Drawing, Ground, Turn, Recovering, connection_of, is_current}
use Rattle.end_model.specs.Turn.{with_output, with_move, with_change, with_call, with_looks_of, drops, ends_call, ends_all}
use Rattle.end_model.specs.Sending.{gives, sends_letter, sends_now, lets_go, goes_by, lets_all_go, repeats, acknowledges, acknowledged_after, settles}
use Rattle.end_model.specs.Closing.{end_silent, end_told, ends_by}
use Rattle.end_model.specs.Frames.{sends_frame, counts, carried}
use Rattle.end_model.specs.Linking.{sends_frames, negotiated, ends_linked, links_by, links, ticks_link}
use Rattle.end_model.specs.Stopping.{clears}
use Rattle.end_model.specs.Events.{with_calls}
use Rattle.end_model.specs.Recovering.{RecoveryTurn, with_recovery, recovery_letter, without_recovery, repeats_on, ticked, is_kept_long, ticks_on, recovery_ticks}
use Rattle.end_model.specs.Ticking.{greeted, greets, limits_at, limits_all, goes_quietly, ticks_by, ticks}
use Rattle.due_laws.specs.Ticks.{count_done}

-- ---- at least so much is done

-- what no turn of a tick changes: its moment, its block, and where ids are drawn from
abbrev pub ground_of : Turn → Ground × Drawing
ground_of t = (t.on, t.ids)

pub record Does (n : ℕ) (t u : Turn) : Type 0 where
  pub ground : ground_of u ≡ ground_of t
  pub more : n + count_done t ≤ count_done u

pub same_does : (t : Turn) → Does 0 t t
same_does t = record { ground = refl; more = omega arith }

pub first_does : (n : ℕ) (t u v : Turn) → Does n t u → Does 0 u v → Does n t v
first_does n t u v h k = record { ground = k.ground ∙ h.ground; more = let a = h.more in let b = k.more in omega (arith, a, b) }

pub then_does : (n : ℕ) (t u v : Turn) → Does 0 t u → Does n u v → Does n t v
then_does n t u v h k = record { ground = k.ground ∙ h.ground; more = let a = h.more in let b = k.more in omega (arith, a, b) }

pub less_does : (t u : Turn) → Does 1 t u → Does 0 t u
less_does t u h = record { ground = h.ground; more = let a = h.more in omega (arith, a) }

pub either : (n : ℕ) (b : Bool) (t x y : Turn) → Does n t x → Does n t y → Does n t (if b then x else y)
either n true t x y h k = h
either n false t x y h k = k

output_does : (o : Out) (t : Turn) → Does 1 t (with_output o t)
unfolding with_output
output_does o t = record { ground = refl; more = let n = length-append t.outputs (o ∷ []) in omega (arith, n) }

move_does : (m : Move) (t : Turn) → Does 1 t (with_move m t)
unfolding with_move
move_does m t = record { ground = refl; more = let n = length-append t.moves (m ∷ []) in omega (arith, n) }

-- a move that changes the control part, and one that changes a call and its look
moved_does : (m : Move) (c : Control) (t : Turn) → Does 1 t (with_move m (record t { control = c }))
unfolding with_move
moved_does m c t = record { ground = refl; more = let n = length-append t.moves (m ∷ []) in omega (arith, n) }

linked_does : (m : Move) (s : ℕ) (c : Call) (cs : List CellChange) (t : Turn) → Does 1 t (with_looks_of cs (with_move m (with_call s c t)))
unfolding with_looks_of with_move with_call
linked_does m s c cs t = record { ground = refl; more = let n = length-append t.moves (m ∷ []) in omega (arith, n) }

-- ---- letters

module _ (letters : List Letter) where
  letter_does : (number : ℕ) (o : Option Letter) (t : Turn) → Does 0 t (sends_letter number o t)
  unfolding sends_letter
  letter_does number None t = same_does t
  letter_does number (Some l) t = either 0 _ t _ t (less_does t _ (output_does _ t)) (same_does t)

  now_does : (number : ℕ) (t : Turn) → Does 0 t (sends_now letters number t)
  unfolding sends_now
  now_does number t = letter_does number _ t

  go_does : (number : ℕ) (t : Turn) → Does 0 t (lets_go letters number t)
  unfolding lets_go
  go_does number t = then_does 0 t _ _ (less_does t _ (moved_does _ _ t)) (now_does number _)

  goes_does : (rest : Turn → Turn) → ((t : Turn) → Does 0 t (rest t)) → (o : Option ℕ) (t : Turn) → Does 0 t (goes_by rest letters o t)
  unfolding goes_by
  goes_does rest later None t = same_does t
  goes_does rest later (Some number) t = then_does 0 t _ _ (go_does number t) (later (lets_go letters number t))

  all_does : (most : ℕ) (t : Turn) → Does 0 t (lets_all_go most letters t)
  unfolding lets_all_go
  all_does zero t = same_does t
  all_does (suc most) t = goes_does (lets_all_go most letters) (all_does most) _ t

  acknowledges_does : (t : Turn) → Does 0 t (acknowledges t)
  unfolding acknowledges
  acknowledges_does t = then_does 0 t _ _ (less_does t _ (move_does _ t)) (less_does _ _ (output_does _ _))

  pub settles_does : (again : Bool) (t : Turn) → Does 0 t (settles again letters t)
  unfolding settles acknowledged_after
  settles_does again t =
      then_does 0 t _ _ (all_does t.control.channel.window.queued t)
      (either 0 _ _ _ _ (acknowledges_does _) (same_does _))

  pub repeats_does : (number : ℕ) (t : Turn) → Does 1 t (repeats letters number t)
  unfolding repeats
  repeats_does number t = first_does 1 t _ _ (moved_does _ _ t) (now_does number _)

  pub greeted_does : (t : Turn) → Does 1 t (greeted letters t)
  unfolding greeted gives
  greeted_does t =
      let m = move_does _ t in
      let s = settles_does false _ in
      record { ground = s.ground ∙ m.ground; more = let a = m.more in let b = s.more in omega (arith, a, b) }

  pub greets_does : (t : Turn) → Does 0 t (greets letters t)
  unfolding greets
  greets_does t = either 0 _ t _ t (less_does t _ (greeted_does t)) (same_does t)

-- ---- calls that end

ends_call_does : (s : ℕ) (t : Turn) → Does 0 t (ends_call s t)
unfolding ends_call with_output with_change
ends_call_does s t = record { ground = refl; more = let n = length-append t.outputs (Gone s ∷ []) in omega (arith, n) }

pub ends_all_does : (ss : List ℕ) (t : Turn) → Does 0 t (ends_all ss t)
unfolding ends_all
ends_all_does [] t = same_does t
ends_all_does (s ∷ ss) t = then_does 0 t _ _ (ends_call_does s t) (ends_all_does ss (ends_call s t))

pub clears_does : (calls : List (ℕ × Call)) (t : Turn) → Does 1 t (clears calls t)
unfolding clears
clears_does calls t =
    let m = move_does _ t in
    let s = ends_all_does (ids_of calls) _ in
    record { ground = s.ground ∙ m.ground; more = let a = m.more in let b = s.more in omega (arith, a, b) }

silent_does : (s : ℕ) (booked : Bool) (t : Turn) → Does 1 t (end_silent s booked t)
unfolding end_silent
silent_does s booked t = then_does 1 t _ _ (ends_call_does s t) (move_does _ (ends_call s t))

told_does : (s : ℕ) (c : Call) (result : ℕ) (error : Option ℕ) (t : Turn) → Does 1 t (end_told s c result error t)
unfolding end_told gives
told_does s c result error t =
    let e = ends_call_does s t in
    let m = move_does _ (ends_call s t) in
    record { ground = m.ground ∙ e.ground; more = let a = m.more in let b = e.more in omega (arith, a, b) }

-- a row that ends the call does so, or tells that there is no room
pub row_does : (for : CauseOf) (result : ℕ) (error : Option ℕ) (s : ℕ) (c : Call) (a : CallAction) (t : Turn) → (is_told a || is_clean_up a) ≡ true
    → Does 1 t (ends_by for result error s c a t)
unfolding ends_by drops
row_does for result error s c call_action.CleanUp t ends = silent_does s _ t
row_does for result error s c call_action.SendCdn t ends =
    either 1 (not (is_current t.on.mode)) t _ _
    (silent_does s _ t)
    (either 1 (has_room t.control) t _ _
    (then_does 1 t _ _ (less_does t _ (output_does (Cause for) t)) (told_does s c result error _))
    (output_does _ t))
row_does for result error s c call_action.Nothing t ends = absurd (true≢false (sym ends))
row_does for result error s c call_action.SendIcrq t ends = absurd (true≢false (sym ends))
row_does for result error s c call_action.SendIcrp t ends = absurd (true≢false (sym ends))
row_does for result error s c call_action.SendIccn t ends = absurd (true≢false (sym ends))
row_does for result error s c call_action.DropSession t ends = absurd (true≢false (sym ends))

any_row_does : (for : CauseOf) (result : ℕ) (error : Option ℕ) (s : ℕ) (c : Call) (a : CallAction) (t : Turn) → Does 0 t (ends_by for result error s c a t)
unfolding ends_by
any_row_does for result error s c call_action.CleanUp t = less_does t _ (row_does for result error s c call_action.CleanUp t refl)
any_row_does for result error s c call_action.SendCdn t = less_does t _ (row_does for result error s c call_action.SendCdn t refl)
any_row_does for result error s c call_action.Nothing t = same_does t
any_row_does for result error s c call_action.SendIcrq t = same_does t
any_row_does for result error s c call_action.SendIcrp t = same_does t
any_row_does for result error s c call_action.SendIccn t = same_does t
any_row_does for result error s c call_action.DropSession t = same_does t

-- ---- links

counts_does : (s : ℕ) (c : Call) (o : Option ℕ) (t : Turn) → Does 0 t (counts s c o t)
unfolding counts with_call
counts_does s c None t = same_does t
counts_does s c (Some n) t =
    let m = less_does _ _ (move_does _ _) in
    record { ground = m.ground; more = let a = m.more in omega (arith, a) }

carried_does : (s : ℕ) (frame : List ℕ) (c : Call) (t : Turn) → Does 0 t (carried s frame c t)
unfolding carried sends_frame
carried_does s frame c t =
    then_does 0 t _ _ (less_does t _ (move_does _ t))
    (then_does 0 _ _ _ (less_does _ _ (output_does _ _)) (counts_does s c c.sequence _))

frames_does : (s : ℕ) (fs : List (List ℕ)) (c : Call) (t : Turn) → Does 0 t (sends_frames s fs c t)
unfolding sends_frames
frames_does s [] c t = same_does t
frames_does s (f ∷ fs) c t = then_does 0 t _ _ (carried_does s f c t) (frames_does s fs (counted c) (carried s f c t))

negotiated_does : (s : ℕ) (c : Call) (v : LinkTurn) (t : Turn) → Does 1 t (negotiated s c v t)
unfolding negotiated
negotiated_does s c v t = then_does 1 t _ _ (frames_does s v.frames c t) (linked_does _ s _ _ _)

up_row : (role : Role) (s : CallState) → is_up s ≡ true → is_told (call_row role s Close).1 ≡ true
unfolding call_row
up_row Lac Established up = refl
up_row Lns Established up = refl
up_row role Idle up = absurd (true≢false (sym up))
up_row role WaitTunnel up = absurd (true≢false (sym up))
up_row role WaitReply up = absurd (true≢false (sym up))
up_row role WaitConnect up = absurd (true≢false (sym up))

-- a call that is established is told to end, or its link goes on
up_by : (role : Role) (letters : List Letter) (s : ℕ) (c : Call) (v : LinkTurn) (o : Option CauseOf) (t : Turn) → is_up c.state ≡ true
    → Does 1 t (links_by role letters s c v o t)
unfolding links_by ends_linked
up_by role letters s c v None t up = negotiated_does s c v t
up_by role letters s c v (Some for) t up =
    let ends = ap (λ b. b || is_clean_up (row_for role c Close).1) (up_row role c.state up) in
    let u = sends_frames s v.frames c t in
    then_does 1 t u _ (frames_does s v.frames c t)
    (first_does 1 u _ _ (row_does for 3 None s (counted_all v.frames c) (row_for role c Close).1 u ends) (settles_does letters false _))

pub up_does : (role : Role) (letters : List Letter) (s : ℕ) (c : Call) (v : LinkTurn) (t : Turn) → is_up c.state ≡ true → Does 1 t (links role letters s c v t)
up_does role letters s c v t up = up_by role letters s c v v.ends t up

links_does : (role : Role) (letters : List Letter) (s : ℕ) (c : Call) (v : LinkTurn) (o : Option CauseOf) (t : Turn) → Does 0 t (links_by role letters s c v o t)
unfolding links_by ends_linked
links_does role letters s c v None t = less_does t _ (negotiated_does s c v t)
links_does role letters s c v (Some for) t =
    let u = sends_frames s v.frames c t in
    then_does 0 t u _ (frames_does s v.frames c t)
    (then_does 0 u _ _ (any_row_does for 3 None s (counted_all v.frames c) (row_for role c Close).1 u) (settles_does letters false _))

-- ---- all calls

module _ (role : Role) (letters : List Letter) where
  pub link_does : (s : ℕ) (c : Call) (o : Option Link) (t : Turn) → Does 0 t (ticks_link role letters s c o t)
  unfolding ticks_link
  link_does s c None t = same_does t
  link_does s c (Some l) t = either 0 _ t _ t (links_does role letters s c _ _ t) (same_does t)

  limit_does : (s : ℕ) (o : Option Call) (t : Turn) → Does 0 t (limits_at role letters s o t)
  unfolding limits_at
  limit_does s None t = same_does t
  limit_does s (Some c) t =
      either 0 _ t _ _
      (then_does 0 t _ _ (any_row_does cause.Setup 10 None s c (row_for role c Close).1 t) (settles_does letters false _))
      (link_does s c c.link t)

  pub limits_does : (ss : List ℕ) (calls : List (ℕ × Call)) (t : Turn) → Does 0 t (limits_all role letters ss calls t)
  unfolding limits_all
  limits_does [] calls t = same_does t
  limits_does (s ∷ ss) calls t =
      then_does 0 t _ _ (limit_does s (at calls s) t) (limits_does ss calls (limits_at role letters s (at calls s) t))

  pub quietly_does : (calls : List (ℕ × Call)) (t : Turn) → Does 0 t (goes_quietly role letters calls t)
  unfolding goes_quietly
  quietly_does calls t = then_does 0 t _ _ (greets_does letters t) (limits_does (ids_of calls) calls (greets letters t))

  by_does : (calls : List (ℕ × Call)) (d : Due) (t : Turn) → Does 0 t (ticks_by role letters calls d t)
  unfolding ticks_by
  by_does calls tick.Quiet t = quietly_does calls t
  by_does calls (tick.Again number) t = then_does 0 t _ _ (less_does t _ (repeats_does letters number t)) (quietly_does calls (repeats letters number t))
  by_does calls (tick.Failed first) t = less_does t _ (clears_does calls t)

  pub ticks_does : (calls : List (ℕ × Call)) (t : Turn) → Does 0 t (ticks role letters calls t)
  unfolding ticks
  ticks_does calls t = either 0 _ t _ _ (less_does t _ (clears_does calls t)) (by_does calls _ t)

-- ---- the recovery tunnel

recovery_letter_does : (c : ControlConnection) (number : ℕ) (o : Option Letter) (t : Turn) → Does 0 t (recovery_letter c number o t)
unfolding recovery_letter
recovery_letter_does c number None t = same_does t
recovery_letter_does c number (Some l) t = either 0 _ t _ t (less_does t _ (output_does _ t)) (same_does t)

pub again_does : (number : ℕ) (r : Recovering) (t : Turn) → Does 1 t (repeats_on (tick.Again number) r t)
unfolding repeats_on
again_does number r t = first_does 1 t _ _ (move_does _ t) (recovery_letter_does (connection_of r) number _ _)

repeats_on_does : (d : Due) (r : Recovering) (t : Turn) → Does 0 t (repeats_on d r t)
unfolding repeats_on
repeats_on_does tick.Quiet r t = same_does t
repeats_on_does (tick.Again number) r t = less_does t _ (again_does number r t)
repeats_on_does (tick.Failed first) r t = same_does t

pub either_both : (n : ℕ) (b : Bool) (t : Turn) (x y : RecoveryTurn) → Does n t x.turn → Does n t y.turn → Does n t (if b then x else y).turn
either_both n true t x y h k = h
either_both n false t x y h k = k

pub over_does : (t : Turn) → Does 1 t (without_recovery t).turn
unfolding without_recovery
over_does t = move_does _ t

-- what the recovery tunnel does behind what it repeats
abbrev pub goes_on : List (ℕ × Call) → Recovering → Bool → Bool → Recovering → Turn → RecoveryTurn
goes_on calls r lost kept next u =
    if lost then with_recovery r (clears (with_calls u.changed calls) u)
    else if kept then without_recovery u
    else with_recovery next u

pub goes_on_does : (calls : List (ℕ × Call)) (r : Recovering) (lost kept : Bool) (next : Recovering) (u : Turn) → Does 0 u (goes_on calls r lost kept next u).turn
goes_on_does calls r lost kept next u =
    either_both 0 lost u _ _ (less_does u _ (clears_does (with_calls u.changed calls) u))
    (either_both 0 kept u _ _ (less_does u _ (over_does u)) (same_does u))

ticks_on_does : (calls : List (ℕ × Call)) (r : Recovering) (t : Turn) → Does 0 t (ticks_on calls r t).turn
unfolding ticks_on
ticks_on_does calls r t =
    let m = t.on.moment in
    then_does 0 t _ _ (repeats_on_does (channel_answer (connection_of r).channel m) r t)
    (goes_on_does calls r (is_lost m (connection_of r)) (is_kept_long m r) (ticked m r) _)

pub recovery_does : (calls : List (ℕ × Call)) (recovery : Option Recovering) (t : Turn) → Does 0 t (recovery_ticks calls recovery t).turn
unfolding recovery_ticks
recovery_does calls None t = same_does t
recovery_does calls (Some r) t = either_both 0 t.cleared t _ _ (same_does t) (ticks_on_does calls r t)
