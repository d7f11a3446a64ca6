-- A tunnel that a tick leaves hasn't failed.
use Rattle.std.proofs.Common.{◌≡◌, ◌⊎◌, inl, inr, ⊎_elim, ℕ, ◌+◌, ◌<◌, Bool, true, false, cond, zero, suc, List, [], ◌∷◌, refl, sym, ap, ◌∙◌, subst, Option, Some, None, arith}
use Rattle.std.proofs.lemmas.Bool.{true≢false}
use Rattle.std.specs.Prelude.{◌==◌, ◌&&◌, ◌||◌, nat_le, nat_lt, length, not}
use Rattle.id_table.specs.Ids.{at, ids_of}
use Rattle.wire_base.specs.declared.cause.Cause.{Cause as CauseOf}
use Rattle.wire_base.specs.declared.cause.Cause.TheVariants as cause
use Rattle.wire_base.specs.declared.letter.Letter.{Letter}
use Rattle.control_message.specs.declared.message.Message.{Message}
use Rattle.control_message.specs.declared.message.Message.TheVariants.{Hello, Cdn}
use Rattle.send_window.specs.declared.window.Tick.{Tick as Due}
use Rattle.send_window.specs.declared.window.Tick.TheVariants as tick
use Rattle.send_window.specs.Kept.{Window}
use Rattle.send_window.specs.Window as sending
use Rattle.control_channel.specs.Numbers.{Numbers, one_more, next_to_go, answer_to_tick, let_go_at, ticked_at}
use Rattle.tunnel_fsm.specs.Rows.{state_number}
use Rattle.call_fsm.specs.declared.table.CallAction.{CallAction}
use Rattle.call_fsm.specs.declared.table.CallAction.TheVariants as call_action
use Rattle.call_fsm.specs.declared.table.CallEvent.TheVariants as call_event
use Rattle.end_model.specs.declared.tunnel.Call.{Call}
use Rattle.end_model.specs.declared.tunnel.Control.{Control}
use Rattle.end_names.specs.declared.role.Role.{Role}
use Rattle.call_link.specs.declared.turn.LinkTurn.{LinkTurn}
use Rattle.call_link.specs.Link.{Link, is_due}
use Rattle.end_model.specs.declared.event.Event.TheVariants.{Tick}
use Rattle.end_model.specs.Calls.{counted_all, row_for, is_set_up, is_up}
use Rattle.end_model.specs.Tunnels.{Tunnel, Turn, turn_in, is_current}
use Rattle.end_model.specs.Turn.{with_output, with_move, with_change, ends_call, drops}
use Rattle.end_model.specs.Sending.{gives, sends_letter, sends_now, lets_go, goes_by, lets_all_go, repeats, acknowledges, outstanding, acknowledged_after, settles}
use Rattle.end_model.specs.Channels.{has_room, counts_sent, counts_repeated}
use Rattle.end_model.specs.Closing.{end_silent, end_told, ends_by}
use Rattle.end_model.specs.Ticking.{greeted, greets, limits_at, limits_all, goes_quietly, ticks_by, ticks}
use Rattle.end_model.specs.Stopping.{clears}
use Rattle.end_model.specs.Linking.{sends_frames, ends_linked, links_by, ticks_link}
use Rattle.end_model.specs.Moments.{is_over, patience, is_at_its_end}
use Rattle.end_model.specs.Events.{turns}
use Rattle.end_model.specs.End.{End, env_of}
use Rattle.step_laws.specs.Left.{FailedTunnelsGo}
use Rattle.step_laws.specs.Failing.{IsGivenUp, HasFailed, IsNotSetUp, WasClosed, IsUnanswered}
use Rattle.step_laws.proofs.Lists.{branch}
use Rattle.step_laws.proofs.Linking.{frames_same, negotiated_is}
use Rattle.step_laws.proofs.Moments.{failed_ends}
use Rattle.step_laws.proofs.Late.{ticks_leave}
use Rattle.end_model.specs.Recovering.{recovery_ticks, recovering_turns}
use Rattle.step_laws.proofs.Behind.{IsLeft, ticks_behind}

module _ (moment : ℕ) where
  abbrev Lasts : Control → Type 0
  Lasts c = HasFailed moment c → ⊥

  -- ---- letters that go, or are repeated, at the moment

  -- the state and the moments of a tunnel stay
  channel_lasts : (c : Control) (n : Numbers) → (IsGivenUp moment n → IsGivenUp moment c.channel) → Lasts c → Lasts (record c { channel = n })
  channel_lasts c n back h (IsNotSetUp waits over) = h (IsNotSetUp waits over)
  channel_lasts c n back h (WasClosed closed over) = h (WasClosed closed over)
  channel_lasts c n back h (IsUnanswered g) = h (IsUnanswered (back g))

  some_there : (k : ℕ) → (k == 0) ≡ false → 0 < k
  some_there zero h = absurd (true≢false h)
  some_there (suc k) h = omega arith

  -- the timer of the only one on the wire begins
  started : (n : Numbers) (b : Bool) → (n.window.outstanding == 0) ≡ b
      → IsGivenUp moment (record n {
        window = record n.window {
          outstanding = n.window.outstanding + 1;
          since = cond b moment n.window.since;
          repetitions = cond b 0 n.window.repetitions;
        };
      }) → IsGivenUp moment n
  started n true only g = let over = g.over in absurd (omega (arith, over))
  started n false more g = record { going = g.going; some = some_there n.window.outstanding more; repeated = g.repeated; over = g.over }

  sent_back : (n : Numbers) → IsGivenUp moment (let_go_at n moment) → IsGivenUp moment n
  sent_back n =
      branch (λ (x : Numbers). IsGivenUp moment x → IsGivenUp moment n) n.frozen _ _
      (λ frozen g. g)
      (λ free. branch (λ (w : Window). IsGivenUp moment (record n { window = w }) → IsGivenUp moment n) (sending.may_go n.window) _ _
      (λ may. started n (n.window.outstanding == 0) refl)
      (λ no g. g))

  repeated_back : (n : Numbers) → IsGivenUp moment (ticked_at n moment) → IsGivenUp moment n
  repeated_back n =
      branch (λ (x : Numbers). IsGivenUp moment x → IsGivenUp moment n) n.frozen _ _
      (λ frozen g. g)
      (λ free. branch (λ (w : Window). IsGivenUp moment (record n { window = w }) → IsGivenUp moment n)
      (sending.due_at n.window moment && nat_lt n.window.repetitions 5) _ _
      (λ due g. let over = g.over in absurd (omega (arith, over)))
      (λ no g. g))

  -- ---- turns

  abbrev Good : Turn → Type 0
  Good t = (t.on.moment ≡ moment) × Lasts t.control

  -- the moment of the turn is the step's
  sent_lasts : (t : Turn) → Good t → Lasts (counts_sent t.on.moment t.control)
  sent_lasts t h =
      subst (λ (m : ℕ). Lasts (counts_sent m t.control)) (sym h.0) (channel_lasts t.control (let_go_at t.control.channel moment) (sent_back t.control.channel) h.1)

  repeated_lasts : (t : Turn) → Good t → Lasts (counts_repeated t.on.moment t.control)
  repeated_lasts t h =
      subst (λ (m : ℕ). Lasts (counts_repeated m t.control)) (sym h.0) (channel_lasts t.control (ticked_at t.control.channel moment) (repeated_back t.control.channel) h.1)

  sent_good : (number : ℕ) (o : Option Letter) (t : Turn) → Good t → Good (sends_letter number o t)
  unfolding sends_letter with_output
  sent_good number None t h = h
  sent_good number (Some l) t h = branch Good (nat_le (length l.avps) 65523) _ _ (λ fits. h) (λ long. h)

  gone_good : (letters : List Letter) (number : ℕ) (t : Turn) → Good t → Good (lets_go letters number t)
  unfolding lets_go sends_now with_move
  gone_good letters number t h = sent_good number _ _ (h.0, sent_lasts t h)

  all_gone_good : (most : ℕ) (letters : List Letter) (t : Turn) → Good t → Good (lets_all_go most letters t)
  unfolding lets_all_go goes_by
  all_gone_good zero letters t h = h
  all_gone_good (suc most) letters t h = by (next_to_go t.control.channel) (all_gone_good most letters)
    where
      by : (o : Option ℕ) → ((u : Turn) → Good u → Good (lets_all_go most letters u)) → Good (goes_by (lets_all_go most letters) letters o t)
      by None rest = h
      by (Some number) rest = rest (lets_go letters number t) (gone_good letters number t h)

  acknowledged_good : (again : Bool) (before : ℕ) (t : Turn) → Good t → Good (acknowledged_after again before t)
  unfolding acknowledged_after acknowledges with_output with_move
  acknowledged_good again before t h = branch Good (again || (t.took && (outstanding t == before))) _ _ (λ yes. h) (λ no. h)

  settled_good : (again : Bool) (letters : List Letter) (t : Turn) → Good t → Good (settles again letters t)
  unfolding settles
  settled_good again letters t h =
      acknowledged_good again (outstanding t) (lets_all_go t.control.channel.window.queued letters t)
      (all_gone_good t.control.channel.window.queued letters t h)

  given_good : (session : ℕ) (m : Message) (t : Turn) → Good t → Good (gives session m t)
  unfolding gives
  given_good session m t h = (h.0, channel_lasts t.control (one_more t.control.channel) (λ g. record { going = g.going; some = g.some; repeated = g.repeated; over = g.over }) h.1)

  module _ (role : Role) (letters : List Letter) (calls : List (ℕ × Call)) where
    repeats_good : (number : ℕ) (t : Turn) → Good t → Good (repeats letters number t)
    unfolding repeats sends_now with_move
    repeats_good number t h = sent_good number _ _ (h.0, repeated_lasts t h)

    greets_good : (t : Turn) → Good t → Good (greets letters t)
    unfolding greets greeted with_move
    greets_good t h =
        branch Good (state_number t.control.state == 3 && is_current t.on.mode && t.control.channel.window.queued == 0 && is_over patience t.on.moment t.control.heard) _ _
        (λ due. settled_good false letters _ (given_good 0 Hello _ h))
        (λ early. h)

    ends_good : (for : CauseOf) (result s : ℕ) (c : Call) (a : CallAction) (t : Turn) → Good t → Good (ends_by for result None s c a t)
    unfolding ends_by end_silent end_told ends_call drops with_output with_change with_move
    ends_good for result s c call_action.CleanUp t h = h
    ends_good for result s c call_action.SendCdn t h =
        branch Good (not (is_current t.on.mode)) _ _
        (λ inactive. h)
        (λ active. branch Good (has_room t.control) _ _ (λ may. given_good c.remote (Cdn s result None) _ h) (λ full. h))
    ends_good for result s c call_action.Nothing t h = h
    ends_good for result s c call_action.SendIcrq t h = h
    ends_good for result s c call_action.SendIcrp t h = h
    ends_good for result s c call_action.SendIccn t h = h
    ends_good for result s c call_action.DropSession t h = h

    -- what a link gives is no letter
    links_good : (s : ℕ) (c : Call) (v : LinkTurn) (o : Option CauseOf) (t : Turn) → Good t → Good (links_by role letters s c v o t)
    unfolding links_by ends_linked
    links_good s c v None t h = subst Good (sym (negotiated_is s c v t)) h
    links_good s c v (Some for) t h =
        settled_good false letters _ (ends_good for 3 s (counted_all v.frames c) (row_for role c call_event.Close).1 (sends_frames s v.frames c t)
        (subst Good (sym (frames_same s v.frames c t)) h))

    ticks_link_good : (s : ℕ) (c : Call) (o : Option Link) (t : Turn) → Good t → Good (ticks_link role letters s c o t)
    unfolding ticks_link
    ticks_link_good s c None t h = h
    ticks_link_good s c (Some l) t h =
        branch Good (nat_lt s 65536 && is_up c.state && is_due t.on.moment l) _ _ (λ due. links_good s c _ _ t h) (λ no. h)

    limits_at_good : (s : ℕ) (o : Option Call) (t : Turn) → Good t → Good (limits_at role letters s o t)
    unfolding limits_at
    limits_at_good s None t h = h
    limits_at_good s (Some c) t h =
        branch Good (nat_lt s 65536 && is_set_up c.state && is_over patience t.on.moment c.since) _ _
        (λ due. settled_good false letters _ (ends_good cause.Setup 10 s c (row_for role c call_event.Close).1 t h))
        (λ early. ticks_link_good s c c.link t h)

    limits_all_good : (ss : List ℕ) (t : Turn) → Good t → Good (limits_all role letters ss calls t)
    unfolding limits_all
    limits_all_good [] t h = h
    limits_all_good (s ∷ ss) t h = limits_all_good ss (limits_at role letters s (at calls s) t) (limits_at_good s (at calls s) t h)

    -- ---- a tick

    abbrev Ends : Turn → Type 0
    Ends t = (t.cleared ≡ true) ⊎ Lasts t.control

    quietly_good : (t : Turn) → Good t → Ends (goes_quietly role letters calls t)
    unfolding goes_quietly
    quietly_good t h = inr (limits_all_good (ids_of calls) (greets letters t) (greets_good t h)).1

    -- where the timer doesn't tell that it has failed
    good_by : (a : Due) (t : Turn) → t.on.moment ≡ moment → is_at_its_end moment t.control ≡ false → answer_to_tick t.control.channel moment ≡ a
        → ((first : ℕ) → a ≡ tick.Failed first → ⊥) → Good t
    good_by a t same early due other = (
      same,
      (λ failed. ⊎_elim
          (λ (late : is_at_its_end moment t.control ≡ true). true≢false (sym late ∙ early))
          (λ (f : (first : ℕ) × (answer_to_tick t.control.channel moment ≡ tick.Failed first)). other f.0 (sym due ∙ f.1))
          (failed_ends moment t.control failed)),
    )

    ticks_by_good : (a : Due) (t : Turn) → t.on.moment ≡ moment → is_at_its_end moment t.control ≡ false → answer_to_tick t.control.channel moment ≡ a
        → Ends (ticks_by role letters calls a t)
    unfolding ticks_by clears
    ticks_by_good tick.Quiet t same early due = quietly_good t (good_by tick.Quiet t same early due (λ first e. absurd cc))
    ticks_by_good (tick.Again number) t same early due =
        quietly_good (repeats letters number t) (repeats_good number t (good_by (tick.Again number) t same early due (λ first e. absurd cc)))
    ticks_by_good (tick.Failed first) t same early due = inl refl

    pub ticks_good : (t : Turn) → t.on.moment ≡ moment → Ends (ticks role letters calls t)
    unfolding ticks clears
    ticks_good t same =
        branch Ends (is_at_its_end t.on.moment t.control) _ _
        (λ late. inl refl)
        (λ early. ticks_by_good (answer_to_tick t.control.channel t.on.moment) t same
        (subst (λ (m : ℕ). is_at_its_end m t.control ≡ false) same early)
        (ap (λ (m : ℕ). answer_to_tick t.control.channel m) (sym same)))

module _ (e : End) (moment : ℕ) (block : List ℕ) where
  turn_good : (t : Tunnel) → Ends moment e.role t.letters t.calls (recovering_turns e.role e.config t Tick (turn_in t (env_of e moment block))).turn
  unfolding turns recovering_turns
  turn_good t =
      let u = turns e.role e.config t.letters t.calls Tick (turn_in t (env_of e moment block)) in
      let h = ticks_good moment e.role t.letters t.calls (turn_in t (env_of e moment block)) refl in
      ⊎_elim (λ gone. inl gone)
      (λ (l : IsLeft u (recovery_ticks t.calls t.recovery u).turn). ⊎_elim (λ gone. inl (l.cleared ∙ gone)) (λ lasts. inr (subst (Lasts moment) (sym l.control) lasts)) h)
      (ticks_behind t.calls t.recovery u)

pub failed_tunnels_go : FailedTunnelsGo
failed_tunnels_go e kept moment block i t there =
    ticks_leave (λ (u : Tunnel). Lasts moment u.control) e kept.order moment block (λ j u is. turn_good e moment block u) i t there
