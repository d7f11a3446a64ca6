-- Behind a reset a tunnel asks for its sessions, as the current one that it is then.
use Rattle.std.proofs.Common.{◌≡◌, inl, ℕ, Bool, true, false, cond, zero, suc, List, length, refl, sym, ap, ◌∙◌, subst, Option, Some, None}
use Rattle.std.proofs.lemmas.Bool.{true≢false}
use Rattle.std.specs.Prelude.{◌==◌, ◌&&◌, is_none, is_some, nat_le, not}
use Rattle.wire_base.specs.declared.letter.Letter.{Letter}
use Rattle.wire_base.specs.declared.pair.Pair.{Pair}
use Rattle.wire_base.specs.declared.why.Why.TheVariants as why
use Rattle.control_channel.specs.Channel.{Channel}
use Rattle.control_channel.specs.Numbers.{next_to_go}
use Rattle.recovery_tunnel.specs.Connections.{is_waiting}
use Rattle.tunnel_fsm.specs.Rows.{state_number}
use Rattle.session_query.specs.Queries.{next_batch}
use Rattle.end_model.specs.declared.tunnel.Call.{Call}
use Rattle.end_model.specs.declared.tunnel.Mode.TheVariants.{Current, Frozen, Restored}
use Rattle.end_model.specs.declared.event.Event.{Event}
use Rattle.end_model.specs.declared.moves.Move.TheVariants as move
use Rattle.end_model.specs.Channels.{counts_sent, has_room, place, sends}
use Rattle.end_model.specs.Querying.{asks_more, asks_next, queries, queries_by}
use Rattle.end_model.specs.Sending.{acknowledged_after, acknowledges, gives, goes_by, letter_in, lets_all_go, lets_go, outstanding, sends_letter, sends_now, settles}
use Rattle.end_model.specs.Tunnels.{ByAnswer, ByAttempt, Recovering, Turn, connection_of, is_current, is_finished, mode_of}
use Rattle.end_model.specs.Turn.{drops, with_move, with_output}
use Rattle.end_model.specs.End.{End}
use Rattle.step_laws.specs.Steps.{AreKept}
use Rattle.step_laws.proofs.Leaving.{IsLineKept, Whole, whole_of}
use Rattle.step_laws.proofs.LineConnections.{finished_current}
use Rattle.step_laws.proofs.OnLine.{on_channel}
use Rattle.step_laws.proofs.Questions.{HasSpare, asks_more_ok}
use Rattle.step_laws.proofs.Settling.{Settled, settled_so}

-- ---- nothing of it looks at the mode that the tunnel had before the step

abbrev in_current : Turn → Turn
in_current t = record t { on = record t.on { mode = Current } }

abbrev sent_as : Letter → ℕ → Turn → Turn
sent_as l number t = with_output (sends t.control l.session number false l.avps) t

letter_mode : (number : ℕ) (o : Option Letter) (t : Turn) → sends_letter number o (in_current t) ≡ in_current (sends_letter number o t)
unfolding sends_letter with_output
letter_mode number None t = refl
letter_mode number (Some l) t = by (nat_le (length l.avps) 65523)
  where
    by : (b : Bool) → cond b (sent_as l number (in_current t)) (in_current t) ≡ in_current (cond b (sent_as l number t) t)
    by true = refl
    by false = refl

gone_mode : (letters : List Letter) (number : ℕ) (t : Turn) → lets_go letters number (in_current t) ≡ in_current (lets_go letters number t)
unfolding lets_go sends_now with_move
gone_mode letters number t =
    let u = with_move (move.LetGo (record { tunnel = t.control.local; sent = place number }))
    (record t { control = counts_sent t.on.moment t.control }) in
    letter_mode number (letter_in letters u number) u

all_gone_mode : (most : ℕ) (letters : List Letter) (t : Turn)
    → lets_all_go most letters (in_current t) ≡ in_current (lets_all_go most letters t)
unfolding lets_all_go goes_by
all_gone_mode zero letters t = refl
all_gone_mode (suc most) letters t = by (next_to_go t.control.channel) (all_gone_mode most letters)
  where
    by : (o : Option ℕ) → ((u : Turn) → lets_all_go most letters (in_current u) ≡ in_current (lets_all_go most letters u))
        → goes_by (lets_all_go most letters) letters o (in_current t) ≡ in_current (goes_by (lets_all_go most letters) letters o t)
    by None rest = refl
    by (Some number) rest = ap (lets_all_go most letters) (gone_mode letters number t) ∙ rest (lets_go letters number t)

after_mode : (before : ℕ) (t : Turn) → acknowledged_after false before (in_current t) ≡ in_current (acknowledged_after false before t)
unfolding acknowledged_after acknowledges with_output with_move
after_mode before t = by (t.took && (outstanding t == before))
  where
    by : (b : Bool) → cond b (acknowledges (in_current t)) (in_current t) ≡ in_current (cond b (acknowledges t) t)
    by true = refl
    by false = refl

settled_mode : (letters : List Letter) (t : Turn) → settles false letters (in_current t) ≡ in_current (settles false letters t)
unfolding settles
settled_mode letters t =
    let u = lets_all_go t.control.channel.window.queued letters t in
    ap (acknowledged_after false (outstanding t)) (all_gone_mode t.control.channel.window.queued letters t) ∙ after_mode (outstanding t) u

by_mode : (o : Option (List Pair)) (t : Turn) → queries_by o (in_current t) ≡ in_current (queries_by o t)
unfolding queries_by queries gives drops with_output with_move
by_mode None t = refl
by_mode (Some pairs) t = by (has_room t.control)
  where
    by : (b : Bool)
        → cond b (queries pairs (in_current t)) (drops why.Queue (in_current t)) ≡ in_current (cond b (queries pairs t) (drops why.Queue t))
    by true = refl
    by false = refl

asks_mode : (letters : List Letter) (t : Turn) → asks_next letters (in_current t) ≡ in_current (asks_next letters t)
unfolding asks_next asks_more
asks_mode letters t = ap (settles false letters) (by_mode (next_batch t.query) t) ∙ settled_mode letters (queries_by (next_batch t.query) t)

-- ---- recovery tunnels that wait, and those that reset their tunnel

pub waits_inactive : (r : Recovering) → is_waiting (connection_of r) ≡ true → is_current (mode_of (Some r)) ≡ false
waits_inactive (ByAttempt c) waits = by c.reset waits
  where
    by : (o : Option ℕ) → (is_none o && not c.closed) ≡ true → is_current (cond (is_some o) Current Restored) ≡ false
    by None w = refl
    by (Some n) w = absurd (true≢false (sym w))
waits_inactive (ByAnswer a) waits = by a.connection.reset waits
  where
    by : (o : Option ℕ) → (is_none o && not a.connection.closed) ≡ true → is_current (cond (is_some o) Current Frozen) ≡ false
    by None w = refl
    by (Some n) w = absurd (true≢false (sym w))

pub finished_on : (channel : Channel) (r : Recovering) → is_finished r ≡ true → is_finished (on_channel channel r) ≡ true
finished_on channel (ByAttempt c) h = h
finished_on channel (ByAnswer a) h = h

-- ---- it asks

module _ (e : End) (kept : AreKept e) (moment : ℕ) (ev : Event) (letters : List Letter) (calls : List (ℕ × Call)) (i : ℕ)
    (some : i ≡ 0 → ⊥) (q : Recovering)
    (line : IsLineKept e.role e.config i (Some q)) (finished : is_finished q ≡ true) where
  abbrev W : Turn → Type 0
  W t = Whole e kept moment ev letters calls (Some q) i some t

  -- a turn of a tunnel that was reset is one of a current tunnel
  settled_in : (t : Turn) → W t → Settled e moment ev letters calls (Some q) i (in_current t)
  settled_in t h = record {
    chain = h.chain;
    outs = h.outs;
    tells = h.tells;
    frames = h.frames;
    stays = (h.stays.0, h.stays.1, h.stays.2, h.stays.3, h.stays.4, h.stays.5, rw finished refl, h.stays.6);
    goes = inl (finished_current q finished);
    held = h.held;
    fits = h.fits;
  }

  whole_in : (t : Turn) → W (in_current t) → W t
  whole_in t h = record {
    chain = h.chain;
    outs = h.outs;
    tells = h.tells;
    frames = h.frames;
    stays = h.stays;
    frozen = h.frozen;
    recovering = h.recovering;
    held = h.held;
    fits = h.fits;
  }

  settled_next : (u : Turn) → state_number u.control.state ≡ 3 → HasSpare e moment ev letters calls (Some q) i u
      → Settled e moment ev letters calls (Some q) i u
      → Settled e moment ev letters calls (Some q) i (asks_next letters u)
  unfolding asks_next
  settled_next u opened room k =
      settled_so e moment ev letters calls (Some q) i _
      (asks_more_ok e moment ev letters calls (Some q) i u opened (finished_current q finished) room k)

  pub asks_whole : (t : Turn) → state_number t.control.state ≡ 3 → HasSpare e moment ev letters calls (Some q) i t → W t
      → W (asks_next letters t)
  asks_whole t open_is spare h =
      whole_in (asks_next letters t)
      (subst W (asks_mode letters t)
      (whole_of e kept moment ev letters calls (Some q) i some (asks_next letters (in_current t)) line
      (settled_next (in_current t) open_is spare (settled_in t h))))
