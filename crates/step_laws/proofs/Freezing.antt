-- A peer's attempt at the recovery of a tunnel is answered, or declined.
use Rattle.std.proofs.Common.{◌≡◌, inl, ℕ, ◌≤◌, true, false, List, [], ◌∷◌, refl, sym, ◌∙◌, subst, Option, Some, Ok}
use Rattle.std.proofs.lemmas.List.{append-nil, append_assoc}
use Rattle.std.specs.Prelude.{nat_lt, map, filter}
use Rattle.std.specs.List.{AllByRecursion}
use Rattle.id_table.specs.Ids.{at, put-put, without, ids_of}
use Rattle.id_source.specs.Spaces.{takes_id, after_id}
use Rattle.control_message.specs.declared.message.Message.TheVariants.{Sccrq, Sccrp}
use Rattle.control_message.specs.declared.message.Opening.{Opening}
use Rattle.control_message.specs.declared.message.Suggested.{Suggested}
use Rattle.control_channel.specs.Channel.{Channel}
use Rattle.recovery_tunnel.specs.Answers.{Answering, new_answer, reply_of}
use Rattle.tunnel_fsm.specs.Rows.{state_number}
use Rattle.end_model.specs.declared.tunnel.Call.{Call}
use Rattle.end_model.specs.declared.tunnel.Control.{Control}
use Rattle.session_looks.specs.declared.look.CellChange.TheVariants as cell
use Rattle.end_model.specs.declared.event.Event.{Event}
use Rattle.end_model.specs.declared.out.Out.TheVariants.{Gone}
use Rattle.end_model.specs.declared.moves.Move.{Move}
use Rattle.end_model.specs.declared.moves.Move.TheVariants as move
use Rattle.end_model.specs.Tunnels.{Tunnel, Turn, turn_in, Recovering, ByAnswer}
use Rattle.end_model.specs.Events.{with_calls, tunnel_after}
use Rattle.end_model.specs.Turn.{with_move, with_output, with_change, ends_call}
use Rattle.end_model.specs.Recovering.{is_unfinished, ends_unfinished, suggested_by, frozen_control, asked_in, answer_to, goes, froze}
use Rattle.end_model.specs.End.{End, env_of, is_tied, after_turn, after_both, placed, with_looks}
use Rattle.step_laws.specs.Letters.{IsRecoveryLetter}
use Rattle.step_laws.specs.Moves.{Came, CameIn, LacksSecret, unfinished_of, finished_of}
use Rattle.step_laws.specs.Steps.{IsKept, AreKept}
use Rattle.step_laws.proofs.Secrets.{asks_so, responds_so}
use Rattle.step_laws.proofs.Lists.{all_map, branch, chain_more}
use Rattle.step_laws.proofs.Tells.{Tells}
use Rattle.step_laws.proofs.Owing.{Fits, fits_without}
use Rattle.step_laws.proofs.Turns.{IsWord, next_after, at_turn, there}
use Rattle.step_laws.proofs.Settling.{word_ok}
use Rattle.step_laws.proofs.Shutting.{ended, all_ended}
use Rattle.step_laws.proofs.Leaving.{IsStep, whole_chain}
use Rattle.step_laws.proofs.OnLine.{on_channel, WholeAt, goes_ok, goes_went}
use Rattle.step_laws.proofs.Recovered.{one_line, channel_letter, alike_channel, begins_whole}
use Rattle.end_model.specs.Reading.{message_in}
use Rattle.end_model.specs.Messages.{opening_of}
use Rattle.end_model.specs.Secrets.{challenge_by, response_by}
use Rattle.step_laws.proofs.Finished.{own_entries, left_finished}

-- ---- the calls that aren't established end

one_more : (s : ℕ) (ss : List ℕ) (calls : List (ℕ × Call)) (t : Turn) → is_unfinished (at calls s) ≡ true
    → all_ended (filter (λ q. is_unfinished (at calls q)) ss) (ends_call s t) ≡ all_ended (filter (λ q. is_unfinished (at calls q)) (s ∷ ss)) t
unfolding ends_call with_output with_change
one_more s ss calls t ends =
    let rest = filter (λ q. is_unfinished (at calls q)) ss in
    let changed = append_assoc t.changed (ended s ∷ []) (map ended rest) in
    let changes = append_assoc t.changes (cell.Kill s ∷ []) (map cell.Kill rest) in
    let outputs = append_assoc t.outputs (Gone s ∷ []) (map Gone rest) in
    rw (changed, changes, outputs, ends) refl

pub unfinished_is : (ss : List ℕ) (calls : List (ℕ × Call)) (t : Turn) → ends_unfinished ss calls t ≡ all_ended (filter (λ s. is_unfinished (at calls s)) ss) t
unfolding ends_unfinished ends_call with_output with_change
unfinished_is [] calls t = rw (append-nil t.changed, append-nil t.changes, append-nil t.outputs) refl
unfinished_is (s ∷ ss) calls t =
    branch (λ (u : Turn). ends_unfinished ss calls u ≡ all_ended (filter (λ q. is_unfinished (at calls q)) (s ∷ ss)) t) (is_unfinished (at calls s)) (ends_call s t) t
    (λ ends. unfinished_is ss calls (ends_call s t) ∙ one_more s ss calls t ends)
    (λ stays. unfinished_is ss calls t ∙ rw stays refl)

fits_ended : (c : Control) (ss : List ℕ) (calls : List (ℕ × Call)) → Fits c calls → Fits c (with_calls (map ended ss) calls)
unfolding with_calls
fits_ended c [] calls h = h
fits_ended c (s ∷ ss) calls h = fits_ended c ss (without calls s) (fits_without c calls s h)

gone_words : (ss : List ℕ) → AllByRecursion IsWord (map Gone ss)
gone_words [] = tt
gone_words (s ∷ ss) = (tt, gone_words ss)

gone_tells : (e : End) (moment : ℕ) (ev : Event) (ss : List ℕ) → AllByRecursion (Tells e moment ev) (map Gone ss)
gone_tells e moment ev [] = tt
gone_tells e moment ev (s ∷ ss) = (tt, gone_tells e moment ev ss)

-- ---- the tunnel is frozen

module _ (e : End) (kept : AreKept e) (moment : ℕ) (ev : Event) (block : List ℕ) (t : Tunnel) (is : at e.tunnels t.control.local ≡ Some t) where
  abbrev i : ℕ
  i = t.control.local

  abbrev k : IsKept e.role e.config i t
  k = kept.tunnels i t is

  abbrev start : Turn
  start = turn_in t (env_of e moment block)

  abbrev W : Option Recovering → Turn → Type 0
  W recovery u = WholeAt e kept moment ev t.letters t.calls i k.some recovery u

  module _ (o : Opening) (letter : Came) (came : CameIn ev letter) (from : letter.peer ≡ t.control.peer) (none : letter.header.tunnel ≡ 0)
      (said : message_in letter.body ≡ Ok (Sccrq o)) (version : o.version ≡ 256)
      (named : o.recovery ≡ Some (record { sender = t.control.remote; receiver = t.control.local })) (able : LacksSecret e.config.secret o.challenge → ⊥)
      (open_is : state_number t.control.state ≡ 3) (untied : is_tied e.role t ≡ false) (not_older : t.control.mark ≤ asked_in o)
      (local draw : ℕ) (drawn : takes_id e.tunnel_ids ≡ Ok local) (drew : takes_id e.recovery_ids ≡ Ok draw) where
    abbrev s : Suggested
    s = suggested_by t.control

    abbrev answer : Answering
    answer = answer_to e.role e.config o s local draw start

    abbrev freezing : Move
    freezing = move.Froze (record {
      tunnel = t.control.local;
      peer = t.control.peer;
      remote = t.control.remote;
      attempt = o.tunnel;
      answer = local;
      asked = asked_in o;
      draw = draw;
      expect = s.ns;
      send_from = s.nr;
      marked = nat_lt t.control.mark (asked_in o);
    })

    abbrev ss : List ℕ
    ss = unfinished_of t.calls

    -- the turn, before its SCCRP goes
    abbrev frozen_turn : Turn
    frozen_turn = all_ended ss (with_move freezing (record start {
      control = frozen_control (asked_in o) t.control;
      ids = record start.ids { tunnels = after_id start.ids.tunnels; recoveries = after_id start.ids.recoveries };
    }))

    abbrev reply : Opening
    reply = reply_of local s draw (opening_of e.role e.config (challenge_by e.config.secret block) (response_by 2 e.config.secret o.challenge) local)

    -- its letter
    answer_says : AllByRecursion (IsRecoveryLetter e.role e.config i (ByAnswer answer)) answer.connection.channel.outbox.letters
    unfolding new_answer
    answer_says = (
      (
        Sccrp reply,
        inl (record {
          challenge = challenge_by e.config.secret block;
          asks = asks_so e.config.secret block;
          asked = o.challenge;
          response = response_by 2 e.config.secret o.challenge;
          responds = responds_so 2 e.config.secret o.challenge;
          is = refl;
        }),
        refl,
      ),
      tt,
    )

    first_calls : with_calls frozen_turn.changed t.calls ≡ finished_of t.calls
    unfolding with_move
    first_calls = left_finished t.calls t.calls k.calls (own_entries t.calls k.calls)

    frozen_whole : (channel : Channel) → AllByRecursion (IsRecoveryLetter e.role e.config i (ByAnswer answer)) channel.outbox.letters
        → W (Some (on_channel channel (ByAnswer answer))) frozen_turn
    unfolding with_move new_answer with_calls placed with_looks
    frozen_whole channel says =
        let q = on_channel channel (ByAnswer answer) in
        let h = begins_whole e kept moment ev block i t is in
        let here = at_turn e moment ev t.letters t.calls t.recovery i start in
        record {
          chain = chain_more moment ev e here (at_turn e moment ev t.letters t.calls (Some q) i frozen_turn) [] freezing h.chain (record {
            tunnel = tunnel_after start t.letters t.calls t.recovery;
            there = there e moment ev t.letters t.calls t.recovery i start;
            open_is = open_is;
            untied = untied;
            letter = letter;
            came = came;
            from = from;
            none = none;
            opening = o;
            said = said;
            version = version;
            named = named;
            able = able;
            peer = refl;
            remote = refl;
            attempt = refl;
            asked = refl;
            not_older = not_older;
            marked = refl;
            suggests = refl;
            local = drawn;
            draw = drew;
            recovery = q;
            is = record { answering = record answer { connection = record answer.connection { channel = channel } }; is = refl; local_is = refl; remote_is = refl; draw_is = refl; suggested_is = refl; waits = refl };
            after = let left = first_calls in rw (left, put-put e.tunnels t.control.local (tunnel_after start t.letters t.calls t.recovery) _) refl;
          });
          outs = all_map IsWord _ (word_ok e.role e.config (tunnel_after frozen_turn t.letters t.calls (Some q)) (freezing ∷ [])) (map Gone ss) (gone_words ss);
          tells = gone_tells e moment ev ss;
          frames = (tt, tt);
          stays = (refl, h.stays.1, h.stays.2, next_after e.tunnel_ids kept.first, refl, refl, h.stays.6);
          frozen = λ inactive. (refl, open_is);
          recovering = one_line e.role e.config i q (all_map (IsRecoveryLetter e.role e.config i (ByAnswer answer)) (IsRecoveryLetter e.role e.config i q) (channel_letter e.role e.config i channel (ByAnswer answer)) channel.outbox.letters says);
          held = h.held;
          fits = fits_ended (frozen_control (asked_in o) t.control) ss t.calls h.fits;
        }

    pub froze_chain : IsStep e moment ev (after_both e i t (froze e.role e.config t.calls o local draw start))
    unfolding froze
    froze_chain =
        subst (λ (u : Turn). IsStep e moment ev (after_both e i t (goes (ByAnswer answer) u))) (sym (unfinished_is (ids_of t.calls) t.calls _)) frozen_goes
      where
        frozen_goes : IsStep e moment ev (after_both e i t (goes (ByAnswer answer) frozen_turn))
        frozen_goes =
            let channel = answer.connection.channel in
            let w = goes_went e kept moment ev t.letters t.calls i k.some (ByAnswer answer) channel frozen_turn in
            let q = on_channel w.channel (ByAnswer answer) in
            let g = goes (on_channel channel (ByAnswer answer)) frozen_turn in
            subst (λ x. IsStep e moment ev (after_turn e i t.letters t.calls x g.turn)) (sym w.is)
            (whole_chain e kept moment ev t.letters t.calls (Some q) i k.some g.turn
            (goes_ok e kept moment ev t.letters t.calls i k.some q (ByAnswer answer) channel frozen_turn (alike_channel w.channel channel (ByAnswer answer))
            (all_map (IsRecoveryLetter e.role e.config i (ByAnswer answer)) (IsRecoveryLetter e.role e.config i q) (channel_letter e.role e.config i w.channel (ByAnswer answer)) channel.outbox.letters answer_says)
            (frozen_whole w.channel (subst (AllByRecursion (IsRecoveryLetter e.role e.config i (ByAnswer answer))) (sym w.holds) answer_says))))
