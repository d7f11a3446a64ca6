-- What a recovery tunnel does tells no call as gone twice, and none that wasn't there at its beginning.
use Rattle.std.proofs.Common.{◌≡◌, ℕ, Bool, true, false, zero, suc, List, [], ◌∷◌, length, refl, Option, Some, None, Result, Ok, Err, ⊎_elim, inl, inr, cond, sym, ap, ◌∙◌, subst, ◌++◌}
use Rattle.std.specs.Prelude.{◌==◌, nat_le, unwrap_or, is_some, filter}
use Rattle.id_table.specs.Ids.{at, ids_of}
use Rattle.wire_base.specs.declared.why.Why.{Why}
use Rattle.wire_base.specs.declared.why.Why.TheVariants as why
use Rattle.wire_base.specs.declared.letter.Letter.{Letter}
use Rattle.l2tp_header.specs.declared.header.Header.{Header}
use Rattle.control_message.specs.declared.message.Message.{Message}
use Rattle.control_message.specs.declared.message.Opening.{Opening}
use Rattle.control_message.specs.declared.message.Suggested.{Suggested}
use Rattle.recv_window.specs.declared.Class.{Class}
use Rattle.recv_window.specs.declared.Class.TheVariants.{Next, Duplicate, Ahead}
use Rattle.send_window.specs.declared.window.Tick.{Tick as Due}
use Rattle.send_window.specs.declared.window.Tick.TheVariants as tick
use Rattle.send_window.specs.Outbox.{letter_at}
use Rattle.control_channel.specs.Channel.{next_to_go, class_told, answer_to_tick}
use Rattle.recovery_tunnel.specs.declared.progress.Progress.{Progress}
use Rattle.recovery_tunnel.specs.declared.progress.Progress.TheVariants as progress
use Rattle.recovery_tunnel.specs.Connections.{ControlConnection, is_lost}
use Rattle.end_names.specs.declared.role.Role.{Role}
use Rattle.end_model.specs.declared.tunnel.Call.{Call}
use Rattle.end_model.specs.declared.tunnel.Config.{Config}
use Rattle.end_model.specs.declared.out.Out.TheVariants.{Cause as Refused}
use Rattle.end_model.specs.declared.moves.Move.TheVariants as move
use Rattle.end_model.specs.Reading.{message_in}
use Rattle.end_model.specs.Tunnels.{Turn, Recovering, ByAttempt, ByAnswer, connection_of}
use Rattle.end_model.specs.Events.{with_calls}
use Rattle.end_model.specs.Turn.{with_output, with_move}
use Rattle.end_model.specs.Stopping.{clears}
use Rattle.end_model.specs.Recovering.{RecoveryTurn, recovery_letter, Line, goes_once, goes_by, goes, acknowledges_on, is_unfinished, ends_unfinished, suggested_by, answer_to, froze, resets, resets_by, told_by, after_message, cause_in, told_by_fault, after_fault, follows, heeds, takes_letter, hears_class, outstanding_of, is_acknowledged, settles_on, is_over_now, without_recovery, ends_attempt, reads_nr_on, hears_read, hears_recovery, repeats_on, is_kept_long, ticks_on, recovery_ticks}
use Rattle.std.proofs.lemmas.Bool.{true≢false}
use Rattle.id_table.specs.Order.{Ascends}
use Rattle.end_model.specs.declared.moves.Move.{Move}
use Rattle.end_model.specs.Moments.{is_open}
use Rattle.step_laws.specs.Letters.{Among}
use Rattle.step_laws.proofs.Lists.{branch}
use Rattle.step_laws.proofs.Distinct.{AreDistinct, among_either, distinct_append, distinct_ids, among_there}
use Rattle.step_laws.proofs.Untold.{TellsIn, told, dropped, caused, next_still}
use Rattle.step_laws.proofs.Shutting.{all_ended_is}
use Rattle.step_laws.proofs.Parting.{Parts, parts_none, ended_all, cleared_parts}
use Rattle.step_laws.proofs.Freezing.{unfinished_is}
use Rattle.step_laws.proofs.Behind.{frozen_turn, repeats_left}

-- what it does tells no call as gone, but where the tunnel is removed or frozen
module _ (g : List ℕ) where
  letter_still : (c : ControlConnection) (number : ℕ) (o : Option Letter) (t : Turn) → TellsIn g t → TellsIn g (recovery_letter c number o t)
  unfolding recovery_letter with_output
  letter_still c number None t h = h
  letter_still c number (Some l) t h = branch (TellsIn g) (nat_le (length l.avps) 65523) _ _ (λ fits. told g _ refl h) (λ long. h)

  by_still : (rest : ℕ) (o : Option ℕ) (l : Line) → TellsIn g l.turn → TellsIn g (goes_by rest o l).turn
  unfolding goes_by goes_once
  by_still zero None l h = h
  by_still (suc rest) None l h = h
  by_still zero (Some number) l h = h
  by_still (suc rest) (Some number) l h =
      by_still rest (next_to_go (goes_once number l).connection.channel) (goes_once number l)
      (letter_still l.connection number (letter_at l.connection.channel.outbox number) l.turn h)

  pub goes_still : (r : Recovering) (t : Turn) → TellsIn g t → TellsIn g (goes r t).turn
  unfolding goes
  goes_still r t h = by_still 3 (next_to_go (connection_of r).channel) (record { connection = connection_of r; turn = t }) h

  acknowledged_still : (r : Recovering) (t : Turn) → TellsIn g t → TellsIn g (acknowledges_on r t).turn
  unfolding acknowledges_on with_output
  acknowledged_still r t h = told g _ refl h

  moved_still : (m : Move) (t : Turn) → TellsIn g t → TellsIn g (with_move m t)
  unfolding with_move
  moved_still m t h = record { gone = h.gone; killed = h.killed }

  reset_still : (letters : List Letter) (calls : List (ℕ × Call)) (s : Suggested) (draw : ℕ) (r : Recovering) (t : Turn) → TellsIn g t
      → TellsIn g (resets_by letters calls s draw r t)
  unfolding resets_by resets with_move
  reset_still letters calls s draw (ByAttempt c) t h = record { gone = h.gone; killed = h.killed }
  reset_still letters calls s draw (ByAnswer a) t h = record { gone = h.gone; killed = h.killed }

  without_still : (t : Turn) → TellsIn g t → TellsIn g (without_recovery t).turn
  unfolding without_recovery
  without_still t h = moved_still (move.RecoveryEnded t.control.local) t h

  repeats_still : (a : Due) (r : Recovering) (t : Turn) → TellsIn g t → TellsIn g (repeats_on a r t)
  unfolding repeats_on
  repeats_still tick.Quiet r t h = h
  repeats_still (tick.Failed first) r t h = h
  repeats_still (tick.Again number) r t h = letter_still (connection_of r) number _ _ (moved_still (move.RecoveryWentOn t.control.local) t h)

-- calls that are left, where these were told as gone
pub record IsApart (all left : List (ℕ × Call)) (gone : List ℕ) : Type 0 where
  pub order : Ascends left
  pub apart : (q : ℕ) → Among q gone → at left q ≡ None
  pub of : (q : ℕ) → is_some (at left q) ≡ true → is_some (at all q) ≡ true

among_filter : (p : ℕ → Bool) (q : ℕ) (xs : List ℕ) → Among q (filter p xs) → Among q xs
among_filter p q [] a = a
among_filter p q (x ∷ xs) a = by (p x) a (among_filter p q xs)
  where
    by : (b : Bool) → Among q (cond b (x ∷ filter p xs) (filter p xs)) → (Among q (filter p xs) → Among q xs) → Among q (x ∷ xs)
    by true a rest = ⊎_elim (λ same. inl same) (λ later. inr (rest later)) a
    by false a rest = inr (rest a)

distinct_filter : (p : ℕ → Bool) (xs : List ℕ) → AreDistinct xs → AreDistinct (filter p xs)
distinct_filter p [] h = tt
distinct_filter p (x ∷ xs) h =
    branch AreDistinct (p x) _ _ (λ yes. ((λ a. h.0 (among_filter p x xs a)), distinct_filter p xs h.1)) (λ no. distinct_filter p xs h.1)

module _ (calls : List (ℕ × Call)) where
  abbrev PartsOf : RecoveryTurn → Type 0
  PartsOf x = Parts calls x.turn

  parts_by : (t u : Turn) → ((g : List ℕ) → TellsIn g t → TellsIn g u) → Parts calls t → Parts calls u
  parts_by t u still h = record { gone = h.gone; tells = still h.gone h.tells; once = h.once; had = h.had }

  -- the tunnel is removed with the calls that are left
  clears_parts : (left : List (ℕ × Call)) (t : Turn) (p : Parts calls t) → IsApart calls left p.gone → Parts calls (clears left t)
  unfolding clears with_move
  clears_parts left t p a =
      let k = ended_all p.gone (ids_of left) (with_move (move.Cleared t.control.local (is_open t.control.state)) t) (record { gone = p.tells.gone; killed = p.tells.killed }) in
      record {
        gone = p.gone ++ ids_of left;
        tells = record { gone = k.gone; killed = k.killed };
        once = distinct_append p.gone (ids_of left) p.once (distinct_ids left a.order)
            (λ q l r. true≢false (sym (among_there left q r) ∙ ap (λ (o : Option Call). is_some o) (a.apart q l)));
        had = λ q l. ⊎_elim (λ told. p.had q told) (λ r. a.of q (among_there left q r)) (among_either q p.gone (ids_of left) l);
      }

  -- ---- time

  ticks_on_parts : (r : Recovering) (t : Turn) (p : Parts calls t) → IsApart calls (with_calls t.changed calls) p.gone → PartsOf (ticks_on calls r t)
  unfolding ticks_on parts_by
  ticks_on_parts r t p a =
      let due = answer_to_tick (connection_of r).channel t.on.moment in
      let u = repeats_on due r t in
      let k = parts_by t u (λ g h. repeats_still g due r t h) p in
      branch PartsOf (is_lost t.on.moment (connection_of r)) _ _
      (λ lost. clears_parts (with_calls u.changed calls) u k (subst (λ cs. IsApart calls (with_calls cs calls) p.gone) (sym (repeats_left due r t).changed) a))
      (λ going. branch PartsOf (is_kept_long t.on.moment r) _ _ (λ long. parts_by u (without_recovery u).turn (λ g h. without_still g u h) k) (λ young. k))

  pub recovery_ticks_parts : (o : Option Recovering) (t : Turn) (p : Parts calls t) → (t.cleared ≡ false → IsApart calls (with_calls t.changed calls) p.gone)
      → PartsOf (recovery_ticks calls o t)
  unfolding recovery_ticks
  recovery_ticks_parts None t p a = p
  recovery_ticks_parts (Some r) t p a = branch PartsOf t.cleared _ _ (λ gone. p) (λ there. ticks_on_parts r t p (a there))

  -- ---- what it hears

  module _ (order : Ascends calls) where
    follows_parts : (letters : List Letter) (p : Progress) (r : Recovering) (t : Turn) → TellsIn [] t → PartsOf (follows letters calls p r t)
    unfolding follows
    follows_parts letters progress.Waiting r t h = parts_none calls _ (goes_still [] r t h)
    follows_parts letters (progress.Reset s draw) r t h =
        parts_none calls _ (next_still [] letters _ (goes_still [] r _ (reset_still [] letters calls s (unwrap_or draw 0) r t h)))
    follows_parts letters (progress.Given cause) r t h =
        cleared_parts calls order _ (goes_still [] r (with_output (Refused cause) t) (caused [] cause t h))
    follows_parts letters progress.Cleared r t h = cleared_parts calls order t h

    heeds_parts : (c : Config) (letters : List Letter) (body : List ℕ) (m : Result Message Why) (r : Recovering) (t : Turn) → TellsIn [] t
        → PartsOf (heeds c letters calls body m r t)
    unfolding heeds
    heeds_parts c letters body (Ok m) r t h = follows_parts letters (told_by c.secret m r) (after_message c.secret t.on.moment m r) t h
    heeds_parts c letters body (Err w) r t h = follows_parts letters (told_by_fault (cause_in body) r) (after_fault (cause_in body) r) t h

    class_parts : (c : Config) (letters : List Letter) (body : List ℕ) (class : Option Class) (r : Recovering) (t : Turn) → TellsIn [] t
        → PartsOf (hears_class c letters calls body class r t)
    unfolding hears_class
    class_parts c letters body (Some Next) r t h = heeds_parts c letters body (message_in body) (takes_letter r) t h
    class_parts c letters body (Some (Ahead by)) r t h = parts_none calls _ (goes_still [] r _ (dropped [] why.Ahead t h))
    class_parts c letters body (Some Duplicate) r t h = parts_none calls _ (goes_still [] r t h)
    class_parts c letters body None r t h = parts_none calls _ (goes_still [] r t h)

    settles_parts : (class : Option Class) (before : ℕ) (o : Option Recovering) (t : Turn) → Parts calls t → PartsOf (settles_on class before o t)
    unfolding settles_on
    settles_parts class before None t h = h
    settles_parts class before (Some r) t h =
        branch PartsOf (is_acknowledged class before (outstanding_of r)) _ _
        (λ yes. parts_by t (acknowledges_on r t).turn (λ g k. acknowledged_still g r t k) h)
        (λ no. h)

    ends_parts : (o : Option Recovering) (t : Turn) → Parts calls t → PartsOf (ends_attempt o t)
    unfolding ends_attempt
    ends_parts None t h = h
    ends_parts (Some r) t h =
        branch PartsOf (is_over_now t.cleared r) _ _ (λ over. parts_by t (without_recovery t).turn (λ g k. without_still g t k) h) (λ going. h)

    read_parts : (c : Config) (letters : List Letter) (body : List ℕ) (class : Option Class) (r : Recovering) (t : Turn) → TellsIn [] t
        → PartsOf (hears_read c letters calls body class r t)
    unfolding hears_read
    read_parts c letters body class r t h =
        let went = with_move (move.RecoveryWentOn t.control.local) t in
        let u = hears_class c letters calls body class r went in
        let v = settles_on class (outstanding_of r) u.recovery u.turn in
        ends_parts v.recovery v.turn (settles_parts class (outstanding_of r) u.recovery u.turn
        (class_parts c letters body class r went (moved_still [] (move.RecoveryWentOn t.control.local) t h)))

    pub line_parts : (c : Config) (letters : List Letter) (k : Header) (body : List ℕ) (o : Option Recovering) (t : Turn) → TellsIn [] t
        → PartsOf (hears_recovery c letters calls k body o t)
    unfolding hears_recovery
    line_parts c letters k body None t h = parts_none calls _ (dropped [] why.Tunnel t h)
    line_parts c letters k body (Some r) t h =
        let read = reads_nr_on (unwrap_or k.nr 0) t.on.moment r in
        read_parts c letters body (class_told (connection_of read).channel (unwrap_or k.ns 0) (length body == 0)) read t h

    -- ---- a tunnel that is frozen

    pub froze_parts : (role : Role) (c : Config) (o : Opening) (local draw : ℕ) (t : Turn) → TellsIn [] t → PartsOf (froze role c calls o local draw t)
    unfolding froze with_move
    froze_parts role c o local draw t h =
        let first = frozen_turn o local draw t in
        let ss = filter (λ s. is_unfinished (at calls s)) (ids_of calls) in
        let told : TellsIn ss (ends_unfinished (ids_of calls) calls first) =
        subst (TellsIn ss) (all_ended_is ss first ∙ sym (unfinished_is (ids_of calls) calls first)) (ended_all [] ss first (record { gone = h.gone; killed = h.killed })) in
        record {
          gone = ss;
          tells = goes_still ss (ByAnswer (answer_to role c o (suggested_by t.control) local draw t)) _ told;
          once = distinct_filter (λ s. is_unfinished (at calls s)) (ids_of calls) (distinct_ids calls order);
          had = λ q a. among_there calls q (among_filter (λ s. is_unfinished (at calls s)) q (ids_of calls) a);
        }
