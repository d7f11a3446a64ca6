-- A turn that asks which sessions the peer still has, answers such a question, or takes its answer, is a chain of moves.
use Rattle.std.proofs.Common.{◌≡◌, inl, ℕ, ◌+◌, ◌≤◌, Bool, true, false, List, [], ◌∷◌, ◌++◌, map, refl, sym, ap, ◌∙◌, subst, Option, Some, None, Result, Ok, Err, arith}
use Rattle.std.proofs.lemmas.Bool.{eqb-true, eqb-false, true≢false}
use Rattle.std.specs.Prelude.{◌==◌}
use Rattle.id_table.specs.Ids.{put-put}
use Rattle.wire_base.specs.declared.letter.Letter.{Letter}
use Rattle.wire_base.specs.declared.pair.Pair.{Pair}
use Rattle.control_message.specs.declared.message.Message.TheVariants.{Fsq, Fsr}
use Rattle.tunnel_fsm.specs.Rows.{state_number}
use Rattle.session_query.specs.Queries.{next_batch, unanswered, told_in, answers_to}
use Rattle.session_looks.specs.declared.look.CellChange.TheVariants as cell
use Rattle.end_model.specs.declared.tunnel.Call.{Call}
use Rattle.end_model.specs.declared.event.Event.{Event}
use Rattle.end_model.specs.declared.moves.Move.TheVariants as move
use Rattle.end_model.specs.Calls.{sessions_of, owed_by}
use Rattle.end_model.specs.Channels.{counts_taken, has_room, letter_of, next_place, taken_place}
use Rattle.end_model.specs.End.{End, placed}
use Rattle.end_model.specs.Events.{tunnel_after, with_calls}
use Rattle.end_model.specs.Hearing.{heeds_answer, in_query, takes}
use Rattle.end_model.specs.Moments.{is_open}
use Rattle.end_model.specs.Querying.{answered_query, answers_query, asks_more, ended_of, hears_answer, queries, queries_by, told_at, took_answer}
use Rattle.end_model.specs.Sending.{gives, takes_one}
use Rattle.end_model.specs.Tunnels.{Recovering, Tunnel, Turn}
use Rattle.end_model.specs.Turn.{with_move}
use Rattle.step_laws.specs.Letters.{HasOutput}
use Rattle.step_laws.specs.Moves.{HearsNext}
use Rattle.step_laws.specs.Queries.{without_each, AreUpInTurn}
use Rattle.step_laws.proofs.Calls.{plainly}
use Rattle.step_laws.proofs.Comes.{Taking, calls_first, comes_at, now, spare_first}
use Rattle.step_laws.proofs.Lists.{all_append, all_push, branch, chain_more}
use Rattle.step_laws.proofs.Owing.{Fits, fits_given, fits_spare, has_room_for, holds_live, live_open, spare_most}
use Rattle.step_laws.proofs.Queries.{answered_asks, batch_asks, ended_each, fits_each, owed_each, ended_in_turn}
use Rattle.step_laws.proofs.Settling.{Settled, outs_on, unsent}
use Rattle.step_laws.proofs.Shutting.{all_ended_is, ended, gone_tells, gone_words, with_looks-append}
use Rattle.step_laws.proofs.Stopping.{unasked_ok}
use Rattle.step_laws.proofs.Turns.{IsCurrent, IsWord, NoFrame, TurnOk, at_turn, given_held, is_roomy, one_given, there}

module _ (e : End) (moment : ℕ) (ev : Event) (letters : List Letter) (calls : List (ℕ × Call)) (recovery : Option Recovering) (i : ℕ) where
  abbrev Good : Turn → Type 0
  Good t = Settled e moment ev letters calls recovery i t

  abbrev Takes : Turn → Type 0
  Takes t = Taking e moment ev letters calls recovery i t

  abbrev tunnel : Turn → Tunnel
  tunnel t = tunnel_after t letters calls recovery

  -- one letter more fits
  abbrev pub HasSpare : Turn → Type 0
  HasSpare t = t.control.channel.window.queued + 1 + owed_by (with_calls t.changed calls) ≤ 8191

  -- ---- it asks

  module _ (t : Turn) (open_is : state_number t.control.state ≡ 3) (current : IsCurrent recovery) (spare : HasSpare t) where
    queries_ok : (pairs : List Pair) → next_batch t.query ≡ Some pairs → has_room t.control ≡ true → Good t → Good (queries pairs t)
    unfolding queries gives with_move
    queries_ok pairs next room h =
        let m = move.Queried (record { tunnel = t.control.local; pairs = pairs; given = next_place t.control }) in
        let l = letter_of 0 (Fsq pairs) in
        let given = one_given e moment ev letters calls recovery i t l in
        record {
          chain = chain_more moment ev e (at_turn e moment ev letters calls recovery i t) _ t.moves m h.chain (record {
            tunnel = tunnel t;
            there = there e moment ev letters calls recovery i t;
            current = current;
            open_is = open_is;
            pairs = next;
            room = room;
            given = refl;
            after = rw (given, put-put e.tunnels t.control.local (tunnel t) _) refl;
          });
          outs = outs_on e moment ev letters calls recovery i t (queries pairs t) (record {
            local = refl;
            peer = refl;
            remote = refl;
            acked = refl;
            inbox = refl;
            more = l ∷ [];
            letters = given;
            recovery = refl;
          }) (m ∷ []) refl h;
          tells = h.tells;
          frames = all_push (HasOutput t.outputs) t.moves m h.frames tt;
          stays = (h.stays.0, h.stays.1, h.stays.2, h.stays.3, h.stays.4, h.stays.5, h.stays.6, batch_asks t.query pairs next h.stays.7);
          goes = inl current;
          held = given_held e moment ev letters calls recovery i t l h.held;
          fits = fits_given t.control (with_calls t.changed calls) (live_open t.control open_is) h.fits.0 h.fits.1 spare;
        }

    queries_by_ok : (o : Option (List Pair)) → next_batch t.query ≡ o → Good t → Good (queries_by o t)
    unfolding queries_by
    queries_by_ok None next h = h
    queries_by_ok (Some pairs) next h =
        branch Good (has_room t.control) _ _
        (λ room. queries_ok pairs next room h)
        (λ full. absurd (true≢false (sym (has_room_for t.control (with_calls t.changed calls)
        (holds_live t.control (with_calls t.changed calls) (live_open t.control open_is) h.fits)) ∙ full)))

    -- there is room for the question
    pub asks_more_ok : Good t → Good (asks_more t)
    unfolding asks_more
    asks_more_ok h = queries_by_ok (next_batch t.query) refl h

  -- ---- it is asked

  module _ (session : ℕ) (pairs : List Pair) (t : Turn) (f : Takes t)
      (hears : HearsNext ev (now e moment ev letters calls recovery i t) session (Fsq pairs)) where
    answered_query_ok : state_number t.control.state ≡ 3 → has_room t.control ≡ true
        → TurnOk e moment ev letters calls recovery i (answered_query pairs (answers_to (sessions_of calls) pairs) t)
    unfolding answered_query gives with_move takes_one
    answered_query_ok open_is room =
        let h = f.fresh.good in
        let answers = answers_to (sessions_of calls) pairs in
        let m = move.AnsweredQuery (record {
          tunnel = t.control.local;
          pairs = pairs;
          answers = answers;
          taken = taken_place t.control;
          given = next_place t.control;
        }) in
        let l = letter_of 0 (Fsr answers) in
        let spare = spare_first e moment ev letters calls recovery i t f in
        record {
          chain = chain_more moment ev e (at_turn e moment ev letters calls recovery i t) _ t.moves m h.chain (record {
            tunnel = tunnel t;
            there = there e moment ev letters calls recovery i t;
            current = h.current;
            open_is = open_is;
            letter = hears.letter;
            takes = record { next = hears.next; taken_is = refl; spare = spare };
            said = hears.says.said;
            answers = ap (λ cs. answers_to (sessions_of cs) pairs) (sym (calls_first e moment ev letters calls recovery i t f.fresh));
            room = room;
            given = refl;
            after =
                let given = one_given e moment ev letters calls recovery i t l in
                rw (given, put-put e.tunnels t.control.local (tunnel t) _) refl;
          });
          words = h.words;
          tells = h.tells;
          frames = all_push NoFrame t.moves m h.frames tt;
          stays = h.stays;
          current = h.current;
          held = given_held e moment ev letters calls recovery i t l h.held;
          fits = fits_spare t.control (with_calls t.changed calls) (live_open t.control open_is) h.fits spare;
        }

    -- an open tunnel answers, for which there is room
    pub in_query_ok : Good (in_query calls pairs t)
    unfolding in_query answers_query
    in_query_ok =
        branch Good (state_number t.control.state == 3) _ _
        (λ is. branch Good (has_room t.control) _ _
        (λ room. unsent e moment ev letters calls recovery i _ (answered_query_ok (eqb-true (state_number t.control.state) 3 is) room))
        (λ full. absurd (is_roomy e moment ev letters calls recovery i t f.live f.fresh.good full)))
        (λ other. plainly e moment ev letters calls recovery i t f
        (comes_at e moment ev letters calls recovery i t f session (Fsq pairs) (eqb-false (state_number t.control.state) 3 other) hears))

  -- ---- it is answered

  module _ (session : ℕ) (answers : List Pair) (t : Turn) (f : Takes t)
      (hears : HearsNext ev (now e moment ev letters calls recovery i t) session (Fsr answers)) where
    module _ (open_is : state_number t.control.state ≡ 3) (gone : List Pair) (told : told_in t.query answers ≡ Ok gone) where
      abbrev ss : List ℕ
      ss = ended_of calls gone

      -- those that it leaves
      calls_left : with_calls (t.changed ++ map ended ss) calls ≡ without_each ss calls
      calls_left = rw f.fresh.changed (ended_each ss calls)

      abbrev took : Turn
      took = took_answer calls answers gone t

      took_ok : TurnOk e moment ev letters calls recovery i took
      unfolding took_answer with_move takes_one
      took_ok =
          let h = f.fresh.good in
          let m = move.TookAnswer (record {
            tunnel = t.control.local;
            pairs = unanswered t.query;
            answers = answers;
            ended = ss;
            taken = taken_place t.control;
          }) in
          let first = calls_first e moment ev letters calls recovery i t f.fresh in
          rw (all_ended_is ss _) (record {
            chain = chain_more moment ev e (at_turn e moment ev letters calls recovery i t) _ t.moves m h.chain (record {
              tunnel = tunnel t;
              there = there e moment ev letters calls recovery i t;
              current = h.current;
              open_is = open_is;
              letter = hears.letter;
              takes = record { next = hears.next; taken_is = refl; spare = spare_first e moment ev letters calls recovery i t f };
              said = hears.says.said;
              asks = h.stays.7;
              gone = gone;
              told = told;
              pairs = refl;
              ended = ap (λ cs. ended_of cs gone) (sym first);
              up = subst (AreUpInTurn ss) (sym first) (ended_in_turn calls t.query answers gone h.stays.7 told);
              after =
                  let looked = with_looks-append t.changes (map cell.Kill ss) (placed t.control.local t.added e.calls) in
                  rw (calls_left, first, looked, put-put e.tunnels t.control.local _ _) refl;
            });
            words = all_append IsWord t.outputs _ h.words (gone_words ss);
            tells = all_append _ t.outputs _ h.tells (gone_tells e moment ev ss);
            frames = all_push NoFrame t.moves m h.frames tt;
            stays = (h.stays.0, h.stays.1, h.stays.2, h.stays.3, h.stays.4, h.stays.5, h.stays.6, answered_asks t.query h.stays.7);
            current = h.current;
            held = h.held;
            fits = rw calls_left (fits_each (counts_taken t.control) ss calls (subst (Fits t.control) first h.fits));
          })

      took_open : state_number took.control.state ≡ 3
      unfolding took_answer with_move takes_one
      took_open = rw (all_ended_is ss _) open_is

      took_spare : HasSpare took
      unfolding took_answer with_move takes_one
      took_spare =
          let fewer = owed_each ss calls in
          let most = spare_most t.control calls f.may in
          rw (all_ended_is ss _, calls_left) (omega (arith, fewer, most))

      -- and asks for the next sessions
      hears_answer_ok : Good (hears_answer calls answers gone t)
      unfolding hears_answer
      hears_answer_ok = asks_more_ok took took_open f.fresh.good.current took_spare
          (unsent e moment ev letters calls recovery i took took_ok)

    -- an answer to what was asked is taken, and another one closes the tunnel
    pub heeds_answer_ok : (r : Result (List Pair) ℕ) → told_at t.control.state t.query answers ≡ r
        → Good (heeds_answer e.role e.config calls answers r t)
    unfolding heeds_answer takes
    heeds_answer_ok (Err place) is = unasked_ok e moment ev letters calls recovery i session answers place t f hears is
    heeds_answer_ok (Ok gone) is = by (is_open t.control.state) refl is
      where
        by : (b : Bool) → is_open t.control.state ≡ b → told_at t.control.state t.query answers ≡ Ok gone
            → Good (hears_answer calls answers gone t)
        by true opened e = hears_answer_ok (eqb-true (state_number t.control.state) 3 opened) gone (rw opened at e)
        by false closed e = absurd (let none = rw closed at e in cc)
