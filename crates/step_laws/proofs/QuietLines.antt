-- What a recovery tunnel does hands nothing up, bears no call, reads no Nr of its tunnel and sends no frame.
use Rattle.std.proofs.Common.{ℕ, zero, suc, List, [], ◌∷◌, length, refl, Option, Some, None, Result, Ok, Err}
use Rattle.std.specs.Prelude.{◌==◌, nat_le, unwrap_or}
use Rattle.id_table.specs.Ids.{at, ids_of}
use Rattle.wire_base.specs.declared.why.Why.{Why}
use Rattle.wire_base.specs.declared.why.Why.TheVariants as why
use Rattle.wire_base.specs.declared.letter.Letter.{Letter}
use Rattle.l2tp_header.specs.declared.header.Header.{Header}
use Rattle.control_message.specs.declared.message.Message.{Message}
use Rattle.control_message.specs.declared.message.Opening.{Opening}
use Rattle.control_message.specs.declared.message.Suggested.{Suggested}
use Rattle.recv_window.specs.declared.Class.{Class}
use Rattle.recv_window.specs.declared.Class.TheVariants.{Next, Duplicate, Ahead}
use Rattle.send_window.specs.declared.window.Tick.{Tick as Due}
use Rattle.send_window.specs.declared.window.Tick.TheVariants as tick
use Rattle.send_window.specs.Outbox.{letter_at}
use Rattle.control_channel.specs.Channel.{next_to_go, class_told, answer_to_tick}
use Rattle.recovery_tunnel.specs.declared.progress.Progress.{Progress}
use Rattle.recovery_tunnel.specs.declared.progress.Progress.TheVariants as progress
use Rattle.recovery_tunnel.specs.Connections.{ControlConnection, is_lost}
use Rattle.end_names.specs.declared.role.Role.{Role}
use Rattle.end_model.specs.declared.tunnel.Call.{Call}
use Rattle.end_model.specs.declared.tunnel.Config.{Config}
use Rattle.end_model.specs.declared.out.Out.TheVariants.{Cause as Refused}
use Rattle.end_model.specs.declared.moves.Move.TheVariants as move
use Rattle.end_model.specs.Reading.{message_in}
use Rattle.end_model.specs.Tunnels.{Ground, Turn, Recovering, ByAttempt, ByAnswer, connection_of}
use Rattle.end_model.specs.Events.{with_calls}
use Rattle.end_model.specs.Turn.{with_output, with_move, ends_call}
use Rattle.end_model.specs.Recovering.{RecoveryTurn, recovery_letter, Line, goes_once, goes_by, goes, acknowledges_on, is_unfinished, ends_unfinished, suggested_by, answer_to, froze, resets, resets_by, told_by, after_message, cause_in, told_by_fault, after_fault, follows, heeds, takes_letter, hears_class, outstanding_of, is_acknowledged, settles_on, is_over_now, without_recovery, ends_attempt, reads_nr_on, hears_read, hears_recovery, repeats_on, is_kept_long, ticks_on, recovery_ticks}
use Rattle.step_laws.proofs.Lists.{branch}
use Rattle.step_laws.proofs.Quiet.{IsQuiet, told, did, dropped, caused, ended_quiet, cleared_quiet, asks_next_quiet}

module _ (F : ℕ → List ℕ → Type 0) (on : Ground) (most reads : ℕ) where
  abbrev Quiet : Turn → Type 0
  Quiet t = IsQuiet F on most reads t

  abbrev QuietLine : RecoveryTurn → Type 0
  QuietLine x = Quiet x.turn

  letter_quiet : (c : ControlConnection) (number : ℕ) (o : Option Letter) (t : Turn) → Quiet t → Quiet (recovery_letter c number o t)
  unfolding recovery_letter with_output
  letter_quiet c number None t h = h
  letter_quiet c number (Some l) t h = branch Quiet (nat_le (length l.avps) 65523) _ _ (λ fits. told F on _ refl h) (λ long. h)

  by_quiet : (rest : ℕ) (o : Option ℕ) (l : Line) → Quiet l.turn → Quiet (goes_by rest o l).turn
  unfolding goes_by goes_once
  by_quiet zero None l h = h
  by_quiet (suc rest) None l h = h
  by_quiet zero (Some number) l h = h
  by_quiet (suc rest) (Some number) l h =
      by_quiet rest (next_to_go (goes_once number l).connection.channel) (goes_once number l)
      (letter_quiet l.connection number (letter_at l.connection.channel.outbox number) l.turn h)

  goes_quiet : (r : Recovering) (t : Turn) → Quiet t → QuietLine (goes r t)
  unfolding goes
  goes_quiet r t h = by_quiet 3 (next_to_go (connection_of r).channel) (record { connection = connection_of r; turn = t }) h

  acknowledged_quiet : (r : Recovering) (t : Turn) → Quiet t → QuietLine (acknowledges_on r t)
  unfolding acknowledges_on with_output
  acknowledged_quiet r t h = told F on _ refl h

  -- ---- what it hears

  resets_quiet : (letters : List Letter) (calls : List (ℕ × Call)) (s : Suggested) (draw : ℕ) (r : Recovering) (t : Turn) → Quiet t
      → Quiet (resets_by letters calls s draw r t)
  unfolding resets_by resets with_move
  resets_quiet letters calls s draw (ByAttempt c) t h = did F on _ refl refl refl tt h
  resets_quiet letters calls s draw (ByAnswer a) t h = did F on _ refl refl refl tt h

  follows_quiet : (letters : List Letter) (calls : List (ℕ × Call)) (p : Progress) (r : Recovering) (t : Turn) → Quiet t → QuietLine (follows letters calls p r t)
  unfolding follows
  follows_quiet letters calls progress.Waiting r t h = goes_quiet r t h
  follows_quiet letters calls (progress.Reset s draw) r t h =
      asks_next_quiet F on most reads letters _ (goes_quiet r _ (resets_quiet letters calls s (unwrap_or draw 0) r t h))
  follows_quiet letters calls (progress.Given cause) r t h =
      cleared_quiet F on most reads calls _ (goes_quiet r (with_output (Refused cause) t) (caused F on most reads cause t h))
  follows_quiet letters calls progress.Cleared r t h = cleared_quiet F on most reads calls t h

  heeds_quiet : (c : Config) (letters : List Letter) (calls : List (ℕ × Call)) (body : List ℕ) (m : Result Message Why) (r : Recovering) (t : Turn) → Quiet t
      → QuietLine (heeds c letters calls body m r t)
  unfolding heeds
  heeds_quiet c letters calls body (Ok m) r t h = follows_quiet letters calls (told_by c.secret m r) (after_message c.secret t.on.moment m r) t h
  heeds_quiet c letters calls body (Err w) r t h = follows_quiet letters calls (told_by_fault (cause_in body) r) (after_fault (cause_in body) r) t h

  class_quiet : (c : Config) (letters : List Letter) (calls : List (ℕ × Call)) (body : List ℕ) (class : Option Class) (r : Recovering) (t : Turn) → Quiet t
      → QuietLine (hears_class c letters calls body class r t)
  unfolding hears_class
  class_quiet c letters calls body (Some Next) r t h = heeds_quiet c letters calls body (message_in body) (takes_letter r) t h
  class_quiet c letters calls body (Some (Ahead by)) r t h = goes_quiet r _ (dropped F on most reads why.Ahead t h)
  class_quiet c letters calls body (Some Duplicate) r t h = goes_quiet r t h
  class_quiet c letters calls body None r t h = goes_quiet r t h

  settles_quiet : (class : Option Class) (before : ℕ) (o : Option Recovering) (t : Turn) → Quiet t → QuietLine (settles_on class before o t)
  unfolding settles_on
  settles_quiet class before None t h = h
  settles_quiet class before (Some r) t h =
      branch QuietLine (is_acknowledged class before (outstanding_of r)) _ _ (λ yes. acknowledged_quiet r t h) (λ no. h)

  without_quiet : (t : Turn) → Quiet t → QuietLine (without_recovery t)
  unfolding without_recovery with_move
  without_quiet t h = did F on _ refl refl refl tt h

  ends_quiet : (o : Option Recovering) (t : Turn) → Quiet t → QuietLine (ends_attempt o t)
  unfolding ends_attempt
  ends_quiet None t h = h
  ends_quiet (Some r) t h = branch QuietLine (is_over_now t.cleared r) _ _ (λ over. without_quiet t h) (λ going. h)

  went_quiet : (t : Turn) → Quiet t → Quiet (with_move (move.RecoveryWentOn t.control.local) t)
  unfolding with_move
  went_quiet t h = did F on _ refl refl refl tt h

  read_quiet : (c : Config) (letters : List Letter) (calls : List (ℕ × Call)) (body : List ℕ) (class : Option Class) (r : Recovering) (t : Turn) → Quiet t
      → QuietLine (hears_read c letters calls body class r t)
  unfolding hears_read
  read_quiet c letters calls body class r t h =
      let u = hears_class c letters calls body class r (with_move (move.RecoveryWentOn t.control.local) t) in
      let v = settles_on class (outstanding_of r) u.recovery u.turn in
      ends_quiet v.recovery v.turn (settles_quiet class (outstanding_of r) u.recovery u.turn
      (class_quiet c letters calls body class r (with_move (move.RecoveryWentOn t.control.local) t) (went_quiet t h)))

  pub line_quiet : (c : Config) (letters : List Letter) (calls : List (ℕ × Call)) (k : Header) (body : List ℕ) (o : Option Recovering) (t : Turn) → Quiet t
      → QuietLine (hears_recovery c letters calls k body o t)
  unfolding hears_recovery
  line_quiet c letters calls k body None t h = dropped F on most reads why.Tunnel t h
  line_quiet c letters calls k body (Some r) t h =
      let read = reads_nr_on (unwrap_or k.nr 0) t.on.moment r in
      read_quiet c letters calls body (class_told (connection_of read).channel (unwrap_or k.ns 0) (length body == 0)) read t h

  -- ---- time

  repeats_quiet : (a : Due) (r : Recovering) (t : Turn) → Quiet t → Quiet (repeats_on a r t)
  unfolding repeats_on
  repeats_quiet tick.Quiet r t h = h
  repeats_quiet (tick.Failed first) r t h = h
  repeats_quiet (tick.Again number) r t h = letter_quiet (connection_of r) number _ _ (went_quiet t h)

  ticks_on_quiet : (calls : List (ℕ × Call)) (r : Recovering) (t : Turn) → Quiet t → QuietLine (ticks_on calls r t)
  unfolding ticks_on
  ticks_on_quiet calls r t h =
      let u = repeats_on (answer_to_tick (connection_of r).channel t.on.moment) r t in
      let quiet = repeats_quiet (answer_to_tick (connection_of r).channel t.on.moment) r t h in
      branch QuietLine (is_lost t.on.moment (connection_of r)) _ _
      (λ lost. cleared_quiet F on most reads (with_calls u.changed calls) u quiet)
      (λ going. branch QuietLine (is_kept_long t.on.moment r) _ _ (λ long. without_quiet u quiet) (λ young. quiet))

  pub recovery_ticks_quiet : (calls : List (ℕ × Call)) (o : Option Recovering) (t : Turn) → Quiet t → QuietLine (recovery_ticks calls o t)
  unfolding recovery_ticks
  recovery_ticks_quiet calls None t h = h
  recovery_ticks_quiet calls (Some r) t h = branch QuietLine t.cleared _ _ (λ gone. h) (λ there. ticks_on_quiet calls r t h)

  -- ---- an answer to an attempt

  unfinished_quiet : (ss : List ℕ) (calls : List (ℕ × Call)) (t : Turn) → Quiet t → Quiet (ends_unfinished ss calls t)
  unfolding ends_unfinished
  unfinished_quiet [] calls t h = h
  unfinished_quiet (s ∷ ss) calls t h =
      branch (λ (u : Turn). Quiet (ends_unfinished ss calls u)) (is_unfinished (at calls s)) _ _
      (λ ends. unfinished_quiet ss calls (ends_call s t) (ended_quiet F on most reads s t h))
      (λ stays. unfinished_quiet ss calls t h)

  pub froze_quiet : (role : Role) (c : Config) (calls : List (ℕ × Call)) (o : Opening) (local draw : ℕ) (t : Turn) → Quiet t
      → QuietLine (froze role c calls o local draw t)
  unfolding froze with_move
  froze_quiet role c calls o local draw t h =
      goes_quiet (ByAnswer (answer_to role c o (suggested_by t.control) local draw t)) _
      (unfinished_quiet (ids_of calls) calls _ (did F on _ refl refl refl tt (record {
        no_output = h.no_output;
        no_move = h.no_move;
        births = h.births;
        read = h.read;
        sent = h.sent;
        same = h.same;
      })))
