-- What a recovery tunnel hears is a chain of moves: it goes on, resets or clears its tunnel, and ends.
use Rattle.std.proofs.Common.{◌≡◌, ◌⊎◌, inl, inr, ⊎_elim, ℕ, Bool, true, false, List, [], ◌∷◌, ◌++◌, refl, sym, ap, ◌∙◌, subst, Option, Some, None, length, Result, Ok, Err, arith}
use Rattle.std.proofs.lemmas.Bool.{true≢false, eqb-false}
use Rattle.std.specs.Prelude.{◌==◌, ◌&&◌, not, max, nat_lt, unwrap_or, is_some}
use Rattle.std.specs.List.{AllByRecursion}
use Rattle.id_table.specs.Ids.{at, put-put}
use Rattle.wire_base.specs.declared.why.Why.{Why}
use Rattle.wire_base.specs.declared.why.Why.TheVariants as why
use Rattle.wire_base.specs.declared.cause.Cause.{Cause}
use Rattle.wire_base.specs.declared.letter.Letter.{Letter}
use Rattle.l2tp_header.specs.declared.header.Header.{Header}
use Rattle.control_message.specs.declared.message.Message.{Message}
use Rattle.control_message.specs.declared.message.Message.TheVariants.{Sccrp, Scccn}
use Rattle.control_message.specs.declared.message.Opening.{Opening}
use Rattle.control_message.specs.declared.message.Suggested.{Suggested}
use Rattle.recv_window.specs.declared.Class.{Class}
use Rattle.recv_window.specs.declared.Class.TheVariants.{Next, Duplicate, Ahead}
use Rattle.recv_window.specs.Window.{class_of, on_wire}
use Rattle.send_window.specs.Window.{count_acked, opened_at}
use Rattle.control_channel.specs.Channel.{Channel, received, taken_by, class_told, sent_into, learnt_by}
use Rattle.recovery_tunnel.specs.declared.progress.Progress.{Progress}
use Rattle.recovery_tunnel.specs.declared.progress.Progress.TheVariants as progress
use Rattle.recovery_tunnel.specs.Connections.{ControlConnection, is_waiting, letter_of, stop_of, confirms, refuses, told_by_refusal}
use Rattle.recovery_tunnel.specs.Attempts.{against, suggested_in, told_to_attempt, attempt_after, is_attempt_over}
use Rattle.recovery_tunnel.specs.Answers.{Answering, told_to_answer, answer_after}
use Rattle.recovery_tunnel.specs.Secrets.{response_by, is_wrong}
use Rattle.end_model.specs.declared.tunnel.Call.{Call}
use Rattle.end_model.specs.declared.tunnel.Config.{Config}
use Rattle.end_model.specs.declared.event.Event.{Event}
use Rattle.end_model.specs.declared.out.Out.TheVariants.{Drop, Cause as Refused}
use Rattle.end_model.specs.declared.moves.Move.{Move}
use Rattle.end_model.specs.declared.moves.Move.TheVariants as move
use Rattle.end_model.specs.Reading.{message_in}
use Rattle.end_model.specs.Tunnels.{Tunnel, Turn, turn_in, Recovering, ByAttempt, ByAnswer, connection_of, is_finished, mode_of, is_current}
use Rattle.end_model.specs.Events.{with_calls, tunnel_after}
use Rattle.end_model.specs.Turn.{with_output, with_move, drops}
use Rattle.end_model.specs.Stopping.{clears}
use Rattle.end_model.specs.Sending.{letters_after}
use Rattle.end_model.specs.Calls.{sessions_of}
use Rattle.end_model.specs.Querying.{asks_next}
use Rattle.tunnel_fsm.specs.Rows.{state_number}
use Rattle.end_model.specs.Recovering.{RecoveryTurn, with_recovery, goes, acknowledges_on, begins_to_ask, resets, resets_by, told_by, cause_in, told_by_fault, after_fault, follows, heeds, hears_class, outstanding_of, is_acknowledged, settles_on, without_recovery, ends_attempt, reads_nr_on, hears_read, hears_recovery}
use Rattle.end_model.specs.End.{End, env_of, after_turn}
use Rattle.step_laws.specs.Causes.{Stands, IsRefusedOnLine}
use Rattle.step_laws.specs.Letters.{IsRecoveryLetter, ConfirmsRecovery}
use Rattle.step_laws.specs.Moves.{Does, Came, IsForLine, ComesToLine, HearsLine, LineClears, LearnsOfReply, WhyCleared, ByRecovery, ByMessage, ByFaultOnLine}
use Rattle.step_laws.specs.Steps.{IsKept, AreKept}
use Rattle.step_laws.proofs.Lists.{all_push, all_map, branch, chain_more, and_left, and_right}
use Rattle.step_laws.proofs.Turns.{NoFrame, Held, at_turn, there}
use Rattle.step_laws.proofs.Outputs.{no_frame_out}
use Rattle.step_laws.proofs.Settling.{OutOk}
use Rattle.step_laws.proofs.Secrets.{answers_so}
use Rattle.step_laws.proofs.Progressing.{refused_line, told_refusal, attempt_cases, waiting_open, answer_cases}
use Rattle.step_laws.proofs.Leaving.{IsStep, whole_of, whole_chain, clears_more, clears_chain, clears_is, ends_line}
use Rattle.step_laws.proofs.OnLine.{on_channel, WholeAt, IsAlike, more_out, goes_ok, goes_went, ack_of, ack_ok, acknowledged_ok}
use Rattle.step_laws.proofs.Ends.{begins_settled}
use Rattle.step_laws.proofs.Queries.{new_asks, sessions_rise}
use Rattle.step_laws.proofs.Questions.{HasSpare}
use Rattle.step_laws.proofs.LineQuestions.{asks_whole, finished_on, waits_inactive}
pub use Rattle.step_laws.proofs.LineConnections.{as_line, line_letter, line_current, line_channel, IsAlikeTo, alike_line, one_line, channel_letter, alike_channel, alike_after, for_line, finished_current, none_left, small_wire, stands_on_line, closed_refusal, both_same, open_refusal, fault_is, fault_cause, is_cleared, own_channel, own_alike, IsNamedBy, all_dropped}

module _ (e : End) (kept : AreKept e) (moment : ℕ) (ev : Event) (block : List ℕ) (i : ℕ) (t : Tunnel) (is : at e.tunnels i ≡ Some t) where
  abbrev k : IsKept e.role e.config i t
  k = kept.tunnels i t is

  abbrev start : Turn
  start = turn_in t (env_of e moment block)

  abbrev W : Option Recovering → Turn → Type 0
  W recovery u = WholeAt e kept moment ev t.letters t.calls i k.some recovery u

  abbrev leads : RecoveryTurn → Type 0
  leads x = IsStep e moment ev (after_turn e i t.letters t.calls x.recovery x.turn)

  abbrev here : Option Recovering → Turn → End
  here recovery u = at_turn e moment ev t.letters t.calls recovery i u

  abbrev tunnel_at : Option Recovering → Turn → Tunnel
  tunnel_at recovery u = tunnel_after u t.letters t.calls recovery

  pub begins_whole : W t.recovery start
  begins_whole = whole_of e kept moment ev t.letters t.calls t.recovery i k.some start k.recovering (begins_settled e kept moment ev block i t is)

  -- ---- it goes on

  abbrev went : Turn → Move
  went u = move.RecoveryWentOn u.control.local

  pub went_on : (r : Recovering) (u : Turn) (channel : Channel) (closed : Bool) (remote : ℕ)
      → (remote ≡ (connection_of r).remote) ⊎ LearnsOfReply ev u.control.peer r remote
      → AllByRecursion (IsRecoveryLetter e.role e.config i r) channel.outbox.letters
      → AllByRecursion (OutOk e.role e.config (tunnel_at (Some (as_line channel closed remote r)) u) (u.moves ++ went u ∷ [])) u.outputs
      → W (Some r) u → W (Some (as_line channel closed remote r)) (with_move (went u) u)
  unfolding with_move
  went_on r u channel closed remote learns says outs h =
      let q = as_line channel closed remote r in
      let m = went u in
      record {
        chain = chain_more moment ev e (here (Some r) u) (here (Some q) u) u.moves m h.chain (record {
          tunnel = tunnel_at (Some r) u;
          there = there e moment ev t.letters t.calls (Some r) i u;
          old = r;
          has = refl;
          channel = channel;
          closed = closed;
          remote = remote;
          learns = learns;
          after = rw (put-put e.tunnels u.control.local (tunnel_at (Some r) u) _) refl;
        });
        outs = outs;
        tells = h.tells;
        frames = all_push _ u.moves m h.frames tt;
        stays = h.stays;
        frozen = λ inactive. h.frozen (sym (line_current channel closed remote r) ∙ inactive);
        recovering = one_line e.role e.config i q (subst (λ (x : Channel). AllByRecursion (IsRecoveryLetter e.role e.config i q) x.outbox.letters) (sym (line_channel channel closed remote r))
            (all_map (IsRecoveryLetter e.role e.config i r) (IsRecoveryLetter e.role e.config i q) (line_letter e.role e.config i channel closed remote r) channel.outbox.letters says));
        held = h.held;
        fits = h.fits;
      }

  -- ---- at the end

  -- it is over now, or not
  over_leads : (r : Recovering) (u : Turn) → W (Some r) u → leads (ends_attempt (Some r) u)
  unfolding ends_attempt without_recovery
  over_leads (ByAttempt c) u h =
      branch leads (not u.cleared && is_attempt_over c) _ _
      (λ over. ends_line e kept moment ev t.letters t.calls (Some (ByAttempt c)) i k.some u h (ByAttempt c) refl
      (and_left (is_some c.reset) _ (and_right (not u.cleared) _ over)))
      (λ going. whole_chain e kept moment ev t.letters t.calls (Some (ByAttempt c)) i k.some u h)
  over_leads (ByAnswer a) u h = whole_chain e kept moment ev t.letters t.calls (Some (ByAnswer a)) i k.some u h

  abbrev ended : Option Class → ℕ → Option Recovering → Turn → RecoveryTurn
  ended class before r u = ends_attempt (settles_on class before r u).recovery (settles_on class before r u).turn

  finish : (class : Option Class) (before : ℕ) (r : Recovering) (u : Turn) → W (Some r) u → leads (ended class before (Some r) u)
  unfolding settles_on acknowledges_on
  finish class before r u h =
      branch (λ (v : RecoveryTurn). leads (ends_attempt v.recovery v.turn)) (is_acknowledged class before (outstanding_of r)) (acknowledges_on r u) (with_recovery r u)
      (λ yes. over_leads r (acknowledges_on r u).turn (acknowledged_ok e kept moment ev t.letters t.calls i k.some r u h))
      (λ no. over_leads r u h)

  -- a tunnel that was cleared has none any more
  cleared_over : (r : Recovering) (u : Turn) → u.cleared ≡ true → ends_attempt (Some r) u ≡ with_recovery r u
  unfolding ends_attempt
  cleared_over (ByAttempt c) u gone =
      branch (λ (v : RecoveryTurn). v ≡ with_recovery (ByAttempt c) u) (not u.cleared && is_attempt_over c) _ _
      (λ over. absurd (true≢false (sym (and_left (not u.cleared) _ over) ∙ ap not gone)))
      (λ going. refl)
  cleared_over (ByAnswer a) u gone = refl

  -- what removes it, after what it sent
  abbrev calls_of : Turn → List (ℕ × Call)
  calls_of u = with_calls u.changed t.calls

  cleared_peer : (r : Recovering) (u : Turn) → (clears (calls_of u) u).control ≡ u.control
  unfolding with_move
  cleared_peer r u = ap (λ (x : Turn). x.control) (clears_is e kept moment ev t.letters t.calls (Some r) i k.some u)

  finish_cleared : (class : Option Class) (before : ℕ) (r q : Recovering) (u : Turn) → IsAlike e kept moment ev t.letters t.calls i k.some r (connection_of q)
      → W (Some r) u → WhyCleared (here (Some r) u) moment ev i (tunnel_at (Some r) u) → leads (ended class before (Some q) (clears (calls_of u) u))
  unfolding settles_on acknowledges_on with_output
  finish_cleared class before r q u alike h why =
      let v = clears (calls_of u) u in
      branch (λ (x : RecoveryTurn). leads (ends_attempt x.recovery x.turn)) (is_acknowledged class before (outstanding_of q)) (acknowledges_on q v) (with_recovery q v)
      (λ yes. subst leads (sym (cleared_over q (acknowledges_on q v).turn (is_cleared (calls_of u) u)))
      (clears_more e kept moment ev t.letters t.calls (Some r) i k.some u (Some q) h why (ack_of e kept moment ev t.letters t.calls i k.some q v.control.peer ∷ [])
      (record {
        outs_ok = (
          subst (λ n. OutOk e.role e.config (tunnel_at (Some r) u) u.moves (ack_of e kept moment ev t.letters t.calls i k.some q n)) (sym (ap (λ c. c.peer) (cleared_peer r u)))
              (ack_ok e kept moment ev t.letters t.calls i k.some r q u alike h),
          tt,
        );
        tells_ok = (tt, tt);
      })))
      (λ no. subst leads (sym (cleared_over q v (is_cleared (calls_of u) u))) (clears_chain e kept moment ev t.letters t.calls (Some r) i k.some u (Some q) h why))

  -- ---- a message comes, for the recovery tunnel

  module _ (r : Recovering) (has : t.recovery ≡ Some r) (letter : Came) (comes : ComesToLine ev t.control.peer (connection_of r) letter) where
    abbrev nr : ℕ
    nr = unwrap_or letter.header.nr 0

    abbrev ns : ℕ
    ns = unwrap_or letter.header.ns 0

    abbrev body : List ℕ
    body = letter.body

    abbrev c : Config
    c = e.config

    base : W (Some r) start
    base = subst (λ o. W o start) has begins_whole

    -- the turn once it goes on
    abbrev first : Turn
    first = with_move (went start) start

    -- the channel once Nr is read, and once the letter is taken
    abbrev read_channel : Channel
    read_channel = received (connection_of r).channel nr moment

    abbrev taken_channel : Channel
    taken_channel = taken_by read_channel

    letters_now : AllByRecursion (IsRecoveryLetter e.role e.config i r) (connection_of r).channel.outbox.letters
    letters_now = base.recovering r refl

    letters_read : AllByRecursion (IsRecoveryLetter e.role e.config i r) read_channel.outbox.letters
    letters_read = all_dropped (IsRecoveryLetter e.role e.config i r) (count_acked (connection_of r).channel.outbox.window nr) (connection_of r).channel.outbox.letters letters_now

    -- it goes on, whatever its channel is then
    first_at : (channel : Channel) (closed : Bool) (remote : ℕ) → (remote ≡ (connection_of r).remote) ⊎ LearnsOfReply ev t.control.peer r remote
        → AllByRecursion (IsRecoveryLetter e.role e.config i r) channel.outbox.letters → W (Some (as_line channel closed remote r)) first
    first_at channel closed remote learns says = went_on r start channel closed remote learns says tt base

    abbrev kept_line : Channel → Recovering
    kept_line channel = as_line channel (connection_of r).closed (connection_of r).remote r

    kept_at : (channel : Channel) → AllByRecursion (IsRecoveryLetter e.role e.config i r) channel.outbox.letters → W (Some (kept_line channel)) first
    kept_at channel says = first_at channel (connection_of r).closed (connection_of r).remote (inl refl) says

    says_kept : (channel : Channel) (ls : List Letter) → AllByRecursion (IsRecoveryLetter e.role e.config i r) ls → AllByRecursion (IsRecoveryLetter e.role e.config i (kept_line channel)) ls
    says_kept channel ls h = all_map (IsRecoveryLetter e.role e.config i r) (IsRecoveryLetter e.role e.config i (kept_line channel)) (line_letter e.role e.config i channel (connection_of r).closed (connection_of r).remote r) ls h

    -- ---- its letters go

    abbrev after_went : Option Class → ℕ → RecoveryTurn → RecoveryTurn
    after_went class before g = ended class before g.recovery g.turn

    -- from a turn that is whole whatever its channel is then
    gone_leads : (class : Option Class) (before : ℕ) (d : Recovering) (channel : Channel) (u : Turn)
        → ((other : Channel) → AllByRecursion (IsRecoveryLetter e.role e.config i d) other.outbox.letters → W (Some (on_channel other d)) u)
        → AllByRecursion (IsRecoveryLetter e.role e.config i d) channel.outbox.letters → leads (after_went class before (goes (on_channel channel d) u))
    gone_leads class before d channel u whole says =
        let w = goes_went e kept moment ev t.letters t.calls i k.some d channel u in
        let q = on_channel w.channel d in
        let says_then = subst (AllByRecursion (IsRecoveryLetter e.role e.config i d)) (sym w.holds) says in
        subst (λ o. leads (ended class before o (goes (on_channel channel d) u).turn)) (sym w.is)
        (finish class before q (goes (on_channel channel d) u).turn
        (goes_ok e kept moment ev t.letters t.calls i k.some q d channel u (alike_channel w.channel channel d)
        (all_map (IsRecoveryLetter e.role e.config i d) (IsRecoveryLetter e.role e.config i q) (channel_letter e.role e.config i w.channel d) channel.outbox.letters says) (whole w.channel says_then)))

    -- nothing else follows, but a word
    quiet_leads : (class : Option Class) (before : ℕ) (channel : Channel) → AllByRecursion (IsRecoveryLetter e.role e.config i r) channel.outbox.letters
        → (u : Turn) → ((q : Recovering) → W (Some q) first → W (Some q) u) → leads (after_went class before (goes (on_channel channel r) u))
    quiet_leads class before channel says u words = gone_leads class before r channel u (λ other so. words (kept_line other) (kept_at other so)) says

    -- ---- the next letter, for the recovery tunnel as it is then

    module _ (some : length body ≡ 0 → ⊥) (next : class_of ns (connection_of r).channel.inbox ≡ Next) (before : ℕ) where
      -- not taken yet
      abbrev heard_by : ℕ → Recovering
      heard_by remote = as_line read_channel (connection_of r).closed remote r

      hears_as : (remote : ℕ) → IsForLine letter.header body (connection_of (heard_by remote)) → HearsLine ev t.control.peer (connection_of (heard_by remote)) letter
      hears_as remote line = record {
        comes = record { came = comes.came; peer_is = comes.peer_is; line = line };
        some = some;
        next = ap (λ (x : Channel). class_of ns x.inbox) (line_channel read_channel (connection_of r).closed remote r) ∙ next;
      }

      hears_same : HearsLine ev t.control.peer (connection_of (kept_line read_channel)) letter
      hears_same = hears_as (connection_of r).remote (for_line letter.header body read_channel (connection_of r).closed r comes.line)

      -- it is refused by the recovery tunnel as it was
      refused_by : (x : Cause)
          → ((m : Message) × (message_in body ≡ Ok m) × (told_by c.secret m r ≡ progress.Given x)) ⊎ ((cause_in body ≡ Some x) × (told_by_fault (Some x) r ≡ progress.Given x))
          → IsRefusedOnLine e ev x
      refused_by x told = record {
        id = i;
        tunnel = t;
        there = is;
        recovery = r;
        has = has;
        letter = letter;
        hears = record { comes = comes; some = some; next = next };
        refused = told;
      }

      -- a StopCCN
      clear_leads : (m : Message) (d : Recovering) → message_in body ≡ Ok m → told_by c.secret m (kept_line read_channel) ≡ progress.Cleared
          → IsAlike e kept moment ev t.letters t.calls i k.some (kept_line read_channel) (connection_of d)
          → leads (ended (Some Next) before (Some d) (clears t.calls first))
      unfolding with_calls with_move
      clear_leads m d said told alike =
          let q = kept_line read_channel in
          finish_cleared (Some Next) before q d first alike (kept_at read_channel letters_read)
          (ByRecovery q refl (ByMessage letter m hears_same said (inl told)))

      -- what is refused: the other end is told, and the tunnel is cleared
      refuse_leads : (x : Cause) (d : Recovering) (channel : Channel) (remote : ℕ) → (remote ≡ (connection_of r).remote) ⊎ LearnsOfReply ev t.control.peer r remote
          → IsAlike e kept moment ev t.letters t.calls i k.some (heard_by remote) (connection_of (on_channel channel d))
          → AllByRecursion (IsRecoveryLetter e.role e.config i (heard_by remote)) channel.outbox.letters → Stands e moment ev x
          → ((y : End) → y.config ≡ e.config → LineClears y moment ev t.control.peer (heard_by remote))
          → leads (let v = goes (on_channel channel d) (with_output (Refused x) first) in ended (Some Next) before v.recovery (clears t.calls v.turn))
      unfolding with_calls with_move with_output
      refuse_leads x d channel remote learns alike says so why =
          let q = heard_by remote in
          let u = with_output (Refused x) first in
          let v = goes (on_channel channel d) u in
          let w = goes_went e kept moment ev t.letters t.calls i k.some d channel u in
          let whole = goes_ok e kept moment ev t.letters t.calls i k.some q d channel u alike says
          (more_out e kept moment ev t.letters t.calls i k.some (Some q) (Refused x) first tt so (first_at read_channel (connection_of r).closed remote learns letters_read)) in
          let same_calls : calls_of v.turn ≡ t.calls = ap (λ (y : Turn). with_calls y.changed t.calls) w.only in
          let peer : v.turn.control.peer ≡ t.control.peer = ap (λ (y : Turn). y.control.peer) w.only in
          let alike_then = alike_after w.channel channel d q alike in
          let done = finish_cleared (Some Next) before q (on_channel w.channel d) v.turn alike_then whole
          (ByRecovery q refl (subst (λ n. LineClears (here (Some q) v.turn) moment ev n q) (sym peer) (why (here (Some q) v.turn) refl))) in
          subst (λ o. leads (ended (Some Next) before o (clears t.calls v.turn))) (sym w.is)
          (subst (λ cs. leads (ended (Some Next) before (Some (on_channel w.channel d)) (clears cs v.turn))) same_calls done)

  -- ---- resets

  -- the turn in which the channel begins anew
  abbrev anew : Move → ℕ → ℕ → ℕ → Turn → Turn
  anew m send_from expect mark u = with_move m (resets send_from expect mark t.letters t.calls u)

  -- none of its letters is left
  letters_none : (u : Turn) (send_from expect mark : ℕ) → letters_after (resets send_from expect mark t.letters t.calls u) t.letters ≡ []
  unfolding resets
  letters_none u send_from expect mark = none_left t.letters

  -- it is whole, where the move is so
  anew_ok : (r q : Recovering) (m : Move) (send_from expect mark : ℕ) (u : Turn) → NoFrame m
      → Does (here (Some r) u) moment ev m (here (Some q) (anew m send_from expect mark u))
      → AllByRecursion (OutOk e.role e.config (tunnel_at (Some q) (anew m send_from expect mark u)) (u.moves ++ m ∷ [])) u.outputs
      → is_finished q ≡ true → AllByRecursion (IsRecoveryLetter e.role e.config i q) (connection_of q).channel.outbox.letters
      → W (Some r) u → W (Some q) (anew m send_from expect mark u)
  unfolding with_move resets
  anew_ok r q m send_from expect mark u frameless does outs finished says h = record {
    chain = chain_more moment ev e (here (Some r) u) (here (Some q) (anew m send_from expect mark u)) u.moves m h.chain does;
    outs = outs;
    tells = h.tells;
    frames = all_push _ u.moves m h.frames (no_frame_out u.outputs m frameless);
    stays = (
      h.stays.0,
      h.stays.1,
      h.stays.2,
      h.stays.3,
      h.stays.4,
      h.stays.5,
      new_asks (sessions_of t.calls)
          (sessions_rise t.calls k.calls),
    );
    frozen = λ inactive. absurd (true≢false (sym (finished_current q finished) ∙ inactive));
    recovering = one_line e.role e.config i q says;
    held = subst (Held (opened_at (on_wire send_from) u.control.channel.window.congestion.peer_window)) (sym (none_left t.letters)) (refl, omega arith, small_wire send_from);
    fits = let f = h.fits in (
      f.0,
      f.1,
      (λ live. let most = f.2 live in omega (arith, most)),
      f.3,
      omega arith,
      f.5,
    );
  }

  -- from such a turn its letters go, and then it asks for its sessions
  module _ (m : Move) (send_from expect mark : ℕ) (u : Turn) (same : u.control.state ≡ t.control.state) (none : u.changed ≡ [])
      (inactive : is_current (mode_of t.recovery) ≡ false) where
    reset_open : state_number (anew m send_from expect mark u).control.state ≡ 3
    unfolding with_move resets
    reset_open = ap state_number same ∙ k.open_is inactive

    reset_spare : (q : Recovering) → HasSpare e moment ev t.letters t.calls (Some q) i (anew m send_from expect mark u)
    unfolding with_move resets with_calls
    reset_spare q = let owed = k.owed (k.open_is inactive) in rw none (omega (arith, owed))

    asks_leads : (class : Option Class) (before : ℕ) (d : Recovering) (channel : Channel) → is_finished d ≡ true
        → ((other : Channel) → AllByRecursion (IsRecoveryLetter e.role e.config i d) other.outbox.letters → W (Some (on_channel other d))
        (anew m send_from expect mark u))
        → AllByRecursion (IsRecoveryLetter e.role e.config i d) channel.outbox.letters
        → leads (let g = begins_to_ask t.letters (goes (on_channel channel d) (anew m send_from expect mark u)) in
        ended class before g.recovery g.turn)
    asks_leads class before d channel finished whole says =
        let v = anew m send_from expect mark u in
        let g = goes (on_channel channel d) v in
        let w = goes_went e kept moment ev t.letters t.calls i k.some d channel v in
        let q = on_channel w.channel d in
        let says_then = subst (AllByRecursion (IsRecoveryLetter e.role e.config i d)) (sym w.holds) says in
        let gone = goes_ok e kept moment ev t.letters t.calls i k.some q d channel v (alike_channel w.channel channel d)
        (all_map (IsRecoveryLetter e.role e.config i d) (IsRecoveryLetter e.role e.config i q) (channel_letter e.role e.config i w.channel d) channel.outbox.letters says)
        (whole w.channel says_then) in
        let still : state_number g.turn.control.state ≡ 3 = ap (λ (x : Turn). state_number x.control.state) w.only ∙ reset_open in
        let spare : HasSpare e moment ev t.letters t.calls (Some q) i g.turn =
        subst (HasSpare e moment ev t.letters t.calls (Some q) i) (sym w.only) (reset_spare q) in
        let asked = asks_whole e kept moment ev t.letters t.calls i k.some q gone.recovering
        (finished_on w.channel d finished) g.turn still spare gone in
        subst (λ o. leads (ended class before o (asks_next t.letters g.turn))) (sym w.is)
        (finish class before q (asks_next t.letters g.turn) asked)

  -- ---- an attempt takes a letter

  module _ (c0 : ControlConnection) (has : t.recovery ≡ Some (ByAttempt c0)) (letter : Came) (comes : ComesToLine ev t.control.peer c0 letter)
      (named : letter.header.tunnel ≡ c0.local) (some : length letter.body ≡ 0 → ⊥)
      (next : class_of (unwrap_or letter.header.ns 0) c0.channel.inbox ≡ Next) (before : ℕ) where
    abbrev r0 : Recovering
    r0 = ByAttempt c0

    abbrev begun : Turn
    begun = first r0 has letter comes

    abbrev read_line : Channel
    read_line = read_channel r0 has letter comes

    abbrev ct : ControlConnection
    ct = record c0 { channel = taken_channel r0 has letter comes }

    abbrev says0 : AllByRecursion (IsRecoveryLetter e.role e.config i r0) read_line.outbox.letters
    says0 = letters_read r0 has letter comes

    abbrev P : Progress → ControlConnection → Type 0
    P p d = leads (let u = follows t.letters t.calls p (ByAttempt d) begun in ended (Some Next) before u.recovery u.turn)

    attempt_waits : P progress.Waiting ct
    unfolding follows
    attempt_waits = quiet_leads r0 has letter comes (Some Next) before (taken_channel r0 has letter comes) says0 begun (λ q h. h)

    -- it is refused, and told so
    attempt_refuses : (x : Cause) (remote : ℕ) → (remote ≡ c0.remote) ⊎ LearnsOfReply ev t.control.peer r0 remote → Stands e moment ev x
        → ((y : End) → y.config ≡ e.config → LineClears y moment ev t.control.peer (as_line read_line c0.closed remote r0))
        → P (progress.Given x) (record (refused_line x ct) { remote = remote })
    unfolding follows
    attempt_refuses x remote learns so why =
        let q = as_line read_line c0.closed remote r0 in
        let stop = letter_of (stop_of c0.local x) in
        refuse_leads r0 has letter comes some next before x (ByAttempt (record (refused_line x ct) { remote = remote }))
        (sent_into (taken_channel r0 has letter comes) stop) remote learns (refl, refl)
        (all_push (IsRecoveryLetter e.role e.config i q) read_line.outbox.letters stop
        (all_map (IsRecoveryLetter e.role e.config i r0) (IsRecoveryLetter e.role e.config i q) (line_letter e.role e.config i read_line c0.closed remote r0) read_line.outbox.letters says0)
        (stop_of c0.local x, inr (inr (x, refl)), refl)) so why

    hears_attempt : (remote : ℕ) → HearsLine ev t.control.peer (connection_of (as_line read_line c0.closed remote r0)) letter
    hears_attempt remote = hears_as r0 has letter comes some next before remote (inl named)

    -- as it is reset
    module _ (o : Opening) (said : message_in letter.body ≡ Ok (Sccrp o)) (waits : is_waiting c0 ≡ true) (right : against e.config.secret c0.challenge o ≡ None) where
      abbrev response : Option (List ℕ)
      response = response_by 3 e.config.secret o.challenge

      abbrev cf : ControlConnection
      cf = confirms o response moment ct

      abbrev draw : ℕ
      draw = unwrap_or o.attempt 0

      abbrev s : Suggested
      s = suggested_in o

      -- what it held is of it still
      attempt_letter : (l : Letter) → IsRecoveryLetter e.role e.config i r0 l → IsRecoveryLetter e.role e.config i (ByAttempt cf) l
      attempt_letter l h = (
        h.0,
        ⊎_elim
            (λ asks. inl asks)
            (λ other. ⊎_elim
            (λ (c : ConfirmsRecovery e.config c0.reset h.0).
            inr (inl (record { was_reset = refl; asked = c.asked; response = c.response; responds = c.responds; is = c.is })))
            (λ stops. inr (inr stops))
            other)
            h.1,
        h.2,
      )

      attempt_says : AllByRecursion (IsRecoveryLetter e.role e.config i (ByAttempt cf)) cf.channel.outbox.letters
      attempt_says =
          let sent = sent_into (taken_channel r0 has letter comes) (letter_of (Scccn response)) in
          let all = all_push (IsRecoveryLetter e.role e.config i (ByAttempt cf)) read_line.outbox.letters (letter_of (Scccn response))
          (all_map (IsRecoveryLetter e.role e.config i r0) (IsRecoveryLetter e.role e.config i (ByAttempt cf)) attempt_letter read_line.outbox.letters says0)
          (Scccn response, inr (inl (record { was_reset = refl; asked = o.challenge; response = response; responds = answers_so 3 e.config.secret o.challenge; is = refl })), refl) in
          branch (λ (x : Channel). AllByRecursion (IsRecoveryLetter e.role e.config i (ByAttempt cf)) x.outbox.letters) (o.window == 0) sent (learnt_by sent o.window) (λ zero. all) (λ other. all)

      abbrev attempt_move : Move
      attempt_move = move.ResetAttempting (record {
        tunnel = t.control.local;
        peer = t.control.peer;
        remote = t.control.remote;
        attempt = c0.local;
        answer = o.tunnel;
        draw = draw;
        send_from = s.ns;
        expect = s.nr;
        marked = nat_lt t.control.mark draw;
      })

      attempt_anew : (channel : Channel) → AllByRecursion (IsRecoveryLetter e.role e.config i (ByAttempt cf)) channel.outbox.letters
          → W (Some (on_channel channel (ByAttempt cf))) (anew attempt_move s.ns s.nr (max t.control.mark draw) begun)
      unfolding with_move resets with_calls
      attempt_anew channel says =
          let old = kept_line r0 has letter comes read_line in
          let q = on_channel channel (ByAttempt cf) in
          let mark = max t.control.mark draw in
          let none = letters_none begun s.ns s.nr mark in
          anew_ok old q attempt_move s.ns s.nr mark begun tt
          (record {
            tunnel = tunnel_at (Some old) begun;
            there = there e moment ev t.letters t.calls (Some old) i begun;
            peer = refl;
            remote = refl;
            old = record c0 { channel = read_line };
            attempts = refl;
            waits = waits;
            local = refl;
            letter = letter;
            comes = record { came = comes.came; peer_is = comes.peer_is; line = comes.line };
            opening = o;
            said = said;
            right = right;
            answer = refl;
            draw = refl;
            numbers = refl;
            marked = refl;
            new = record cf { channel = channel };
            same = (refl, refl, refl, refl, waiting_open c0 waits);
            after = rw (put-put e.tunnels t.control.local (tunnel_at (Some old) begun) _, none_left t.letters) refl;
          })
          tt refl (all_map (IsRecoveryLetter e.role e.config i (ByAttempt cf)) (IsRecoveryLetter e.role e.config i q) (channel_letter e.role e.config i channel (ByAttempt cf)) channel.outbox.letters says)
          (kept_at r0 has letter comes read_line says0)

      attempt_resets : P (progress.Reset s o.attempt) cf
      unfolding follows resets_by with_move
      attempt_resets =
          asks_leads attempt_move s.ns s.nr (max t.control.mark draw) begun refl refl
          (ap (λ (o : Option Recovering). is_current (mode_of o)) has ∙ waits_inactive (ByAttempt c0) waits)
          (Some Next) before (ByAttempt cf) cf.channel refl attempt_anew attempt_says

    attempt_clears : (m : Message) → message_in letter.body ≡ Ok m → told_to_attempt e.config.secret m (record c0 { channel = read_line; remote = c0.remote }) ≡ progress.Cleared
        → P progress.Cleared ct
    unfolding follows
    attempt_clears m said tells = clear_leads r0 has letter comes some next before m (ByAttempt ct) said tells (refl, refl)

    -- the id that it learns
    learns_attempt : (m : Message) → message_in letter.body ≡ Ok m → (remote : ℕ)
        → (remote ≡ c0.remote) ⊎ ((o : Opening) × (m ≡ Sccrp o) × (is_waiting c0 ≡ true) × (remote ≡ o.tunnel))
        → (remote ≡ c0.remote) ⊎ LearnsOfReply ev t.control.peer r0 remote
    learns_attempt m said remote learns = ⊎_elim
        (λ same. inl same)
        (λ (h : (o : Opening) × (m ≡ Sccrp o) × (is_waiting c0 ≡ true) × (remote ≡ o.tunnel)). inr (record {
          connection = c0;
          is = refl;
          waits = h.2;
          letter = letter;
          comes = comes;
          opening = h.0;
          said = said ∙ ap (λ (x : Message). Ok x) h.1;
          remote_is = h.3;
        }))
        learns

    -- what a message does
    attempt_message : (m : Message) → message_in letter.body ≡ Ok m → P (told_to_attempt e.config.secret m ct) (attempt_after e.config.secret moment m ct)
    attempt_message m said = attempt_cases e.config.secret moment ct P m (record {
      waits = attempt_waits;
      clears = λ tells. attempt_clears m said (tells read_line c0.remote);
      refuses = λ x remote is_cause tells learns. attempt_refuses x remote (learns_attempt m said remote learns)
          (stands_on_line e moment ev x is_cause (refused_by r0 has letter comes some next before x (inl (m, said, tells c0.channel c0.remote))))
          (λ y same. ByMessage letter m (hears_attempt remote) said (inr (x, ap (λ (g : Config). told_to_attempt g.secret m (record c0 { channel = read_line; remote = remote })) same ∙ tells read_line remote)));
      resets = λ o is waits right. attempt_resets o (said ∙ ap (λ (x : Message). Ok x) is) waits right;
    })

    -- and one that has a fault
    attempt_fault : (o : Option Cause) → cause_in letter.body ≡ o
        → leads (let u = follows t.letters t.calls (told_by_fault o (ByAttempt ct)) (after_fault o (ByAttempt ct)) begun in ended (Some Next) before u.recovery u.turn)
    attempt_fault None has_fault = attempt_waits
    attempt_fault (Some x) has_fault = by c0.closed refl
      where
        by : (b : Bool) → c0.closed ≡ b → P (told_by_refusal x ct) (refuses x ct)
        by true closed =
            subst (λ (p : Progress × ControlConnection). P p.0 p.1) (sym (closed_refusal x ct closed)) attempt_waits
        by false live =
            subst (λ (p : Progress × ControlConnection). P p.0 p.1) (sym (open_refusal x ct live))
            (attempt_refuses x c0.remote (inl refl)
            (stands_on_line e moment ev x (fault_cause letter.body x has_fault)
            (refused_by r0 has letter comes some next before x (inr (has_fault, told_refusal x c0.closed live))))
            (λ y same. ByFaultOnLine letter x (hears_attempt c0.remote) has_fault (told_refusal x c0.closed live)))

    pub attempt_heeds : (m : Result Message Why) → message_in letter.body ≡ m
        → leads (let u = heeds e.config t.letters t.calls letter.body m (ByAttempt ct) begun in ended (Some Next) before u.recovery u.turn)
    unfolding heeds with_move
    attempt_heeds (Ok m) said = attempt_message m said
    attempt_heeds (Err w) said = attempt_fault (cause_in letter.body) refl

  -- ---- an answer takes a letter

  module _ (a0 : Answering) (has : t.recovery ≡ Some (ByAnswer a0)) (letter : Came) (comes : ComesToLine ev t.control.peer a0.connection letter)
      (some : length letter.body ≡ 0 → ⊥)
      (next : class_of (unwrap_or letter.header.ns 0) a0.connection.channel.inbox ≡ Next) (before : ℕ) where
    abbrev r1 : Recovering
    r1 = ByAnswer a0

    abbrev begun_answer : Turn
    begun_answer = first r1 has letter comes

    abbrev read_answer : Channel
    read_answer = read_channel r1 has letter comes

    -- with this channel
    abbrev answer_on : Channel → Answering
    answer_on channel = record a0 { connection = record a0.connection { channel = channel } }

    abbrev at1 : Answering
    at1 = answer_on (taken_channel r1 has letter comes)

    abbrev says1 : AllByRecursion (IsRecoveryLetter e.role e.config i r1) read_answer.outbox.letters
    says1 = letters_read r1 has letter comes

    abbrev Q : Progress → Answering → Type 0
    Q p d = leads (let u = follows t.letters t.calls p (ByAnswer d) begun_answer in ended (Some Next) before u.recovery u.turn)

    answer_waits : Q progress.Waiting at1
    unfolding follows
    answer_waits = quiet_leads r1 has letter comes (Some Next) before (taken_channel r1 has letter comes) says1 begun_answer (λ q h. h)

    answer_refuses : (x : Cause) → Stands e moment ev x
        → ((y : End) → y.config ≡ e.config → LineClears y moment ev t.control.peer (ByAnswer (answer_on read_answer)))
        → Q (progress.Given x) (record at1 { connection = refused_line x at1.connection })
    unfolding follows
    answer_refuses x so why =
        let q = ByAnswer (answer_on read_answer) in
        let stop = letter_of (stop_of a0.connection.local x) in
        refuse_leads r1 has letter comes some next before x (ByAnswer (record at1 { connection = refused_line x at1.connection }))
        (sent_into (taken_channel r1 has letter comes) stop) a0.connection.remote (inl refl) (refl, refl)
        (all_push (IsRecoveryLetter e.role e.config i q) read_answer.outbox.letters stop
        (all_map (IsRecoveryLetter e.role e.config i r1) (IsRecoveryLetter e.role e.config i q) (channel_letter e.role e.config i read_answer r1) read_answer.outbox.letters says1)
        (stop_of a0.connection.local x, inr (x, refl), refl)) so why

    hears_answer : HearsLine ev t.control.peer (answer_on read_answer).connection letter
    hears_answer = hears_same r1 has letter comes some next before

    answer_clears : (m : Message) → message_in letter.body ≡ Ok m → told_to_answer e.config.secret m (answer_on read_answer) ≡ progress.Cleared → Q progress.Cleared at1
    unfolding follows
    answer_clears m said tells = clear_leads r1 has letter comes some next before m (ByAnswer at1) said tells (refl, refl)

    -- as it is reset
    module _ (response : Option (List ℕ)) (said : message_in letter.body ≡ Ok (Scccn response)) (waits : is_waiting a0.connection ≡ true)
        (right : is_wrong 3 e.config.secret a0.connection.challenge response ≡ false) where
      abbrev af : Answering
      af = record at1 { connection = record at1.connection { reset = Some moment } }

      abbrev s1 : Suggested
      s1 = a0.suggested

      abbrev answer_move : Move
      answer_move = move.ResetAnswering (record {
        tunnel = t.control.local;
        peer = t.control.peer;
        remote = t.control.remote;
        answer = a0.connection.local;
        attempt = a0.connection.remote;
        send_from = s1.nr;
        expect = s1.ns;
      })

      answer_letter : (l : Letter) → IsRecoveryLetter e.role e.config i r1 l → IsRecoveryLetter e.role e.config i (ByAnswer af) l
      answer_letter l h = h

      answer_anew : (channel : Channel) → AllByRecursion (IsRecoveryLetter e.role e.config i (ByAnswer af)) channel.outbox.letters
          → W (Some (on_channel channel (ByAnswer af))) (anew answer_move s1.nr s1.ns t.control.mark begun_answer)
      unfolding with_move resets with_calls
      answer_anew channel says =
          let old = kept_line r1 has letter comes read_answer in
          let q = on_channel channel (ByAnswer af) in
          anew_ok old q answer_move s1.nr s1.ns t.control.mark begun_answer tt
          (record {
            tunnel = tunnel_at (Some old) begun_answer;
            there = there e moment ev t.letters t.calls (Some old) i begun_answer;
            peer = refl;
            remote = refl;
            old = answer_on read_answer;
            answers = refl;
            waits = waits;
            local = refl;
            attempt = refl;
            suggested = refl;
            letter = letter;
            comes = record { came = comes.came; peer_is = comes.peer_is; line = comes.line };
            response = response;
            said = said;
            right = right;
            new = record af { connection = record af.connection { channel = channel } };
            same = (refl, refl, refl, refl, refl);
            after = rw (put-put e.tunnels t.control.local (tunnel_at (Some old) begun_answer) _, none_left t.letters) refl;
          })
          tt refl (all_map (IsRecoveryLetter e.role e.config i (ByAnswer af)) (IsRecoveryLetter e.role e.config i q) (channel_letter e.role e.config i channel (ByAnswer af)) channel.outbox.letters says)
          (kept_at r1 has letter comes read_answer says1)

      answer_resets : Q (progress.Reset s1 None) af
      unfolding follows resets_by with_move
      answer_resets =
          asks_leads answer_move s1.nr s1.ns t.control.mark begun_answer refl refl
          (ap (λ (o : Option Recovering). is_current (mode_of o)) has ∙ waits_inactive (ByAnswer a0) waits)
          (Some Next) before (ByAnswer af) af.connection.channel refl answer_anew
          (all_map (IsRecoveryLetter e.role e.config i r1) (IsRecoveryLetter e.role e.config i (ByAnswer af)) answer_letter read_answer.outbox.letters says1)

    answer_message : (m : Message) → message_in letter.body ≡ Ok m → Q (told_to_answer e.config.secret m at1) (answer_after e.config.secret moment m at1)
    answer_message m said = answer_cases e.config.secret moment at1 Q m (record {
      waits = answer_waits;
      clears = λ tells. answer_clears m said (tells read_answer);
      refuses = λ x is_cause tells. answer_refuses x
          (stands_on_line e moment ev x is_cause (refused_by r1 has letter comes some next before x (inl (m, said, tells a0.connection.channel))))
          (λ y same. ByMessage letter m hears_answer said (inr (x, ap (λ (g : Config). told_to_answer g.secret m (answer_on read_answer)) same ∙ tells read_answer)));
      resets = λ response is waits right. answer_resets response (said ∙ ap (λ (x : Message). Ok x) is) waits right;
    })

    answer_fault : (o : Option Cause) → cause_in letter.body ≡ o
        → leads (let u = follows t.letters t.calls (told_by_fault o (ByAnswer at1)) (after_fault o (ByAnswer at1)) begun_answer in ended (Some Next) before u.recovery u.turn)
    answer_fault None has_fault = answer_waits
    answer_fault (Some x) has_fault = by a0.connection.closed refl
      where
        by : (b : Bool) → a0.connection.closed ≡ b → Q (told_by_refusal x at1.connection) (record at1 { connection = refuses x at1.connection })
        by true closed =
            subst (λ (p : Progress × ControlConnection). Q p.0 (record at1 { connection = p.1 })) (sym (closed_refusal x at1.connection closed)) answer_waits
        by false live =
            subst (λ (p : Progress × ControlConnection). Q p.0 (record at1 { connection = p.1 })) (sym (open_refusal x at1.connection live))
            (answer_refuses x
            (stands_on_line e moment ev x (fault_cause letter.body x has_fault)
            (refused_by r1 has letter comes some next before x (inr (has_fault, told_refusal x a0.connection.closed live))))
            (λ y same. ByFaultOnLine letter x hears_answer has_fault (told_refusal x a0.connection.closed live)))

    pub answer_heeds : (m : Result Message Why) → message_in letter.body ≡ m
        → leads (let u = heeds e.config t.letters t.calls letter.body m (ByAnswer at1) begun_answer in ended (Some Next) before u.recovery u.turn)
    unfolding heeds with_move
    answer_heeds (Ok m) said = answer_message m said
    answer_heeds (Err w) said = answer_fault (cause_in letter.body) refl

  -- ---- whatever comes for it

  module _ (letter : Came) where
    abbrev line_read : Recovering → Recovering
    line_read r = reads_nr_on (unwrap_or letter.header.nr 0) moment r

    abbrev class_on : Recovering → Option Class
    class_on r = class_told (connection_of r).channel (unwrap_or letter.header.ns 0) (length letter.body == 0)

    abbrev Heard : Recovering → Option Class → Type 0
    Heard r class =
        leads (let u = hears_class e.config t.letters t.calls letter.body class (line_read r) (with_move (went start) start) in
        ended class (outstanding_of (line_read r)) u.recovery u.turn)

    heard_next : (r : Recovering) → t.recovery ≡ Some r → ComesToLine ev t.control.peer (connection_of r) letter → IsNamedBy r letter.header
        → (length letter.body ≡ 0 → ⊥) → class_of (unwrap_or letter.header.ns 0) (connection_of r).channel.inbox ≡ Next → Heard r (Some Next)
    unfolding hears_class
    heard_next (ByAttempt c) has comes named some next = attempt_heeds c has letter comes named some next _ (message_in letter.body) refl
    heard_next (ByAnswer a) has comes named some next = answer_heeds a has letter comes some next _ (message_in letter.body) refl

    module _ (r : Recovering) (has : t.recovery ≡ Some r) (comes : ComesToLine ev t.control.peer (connection_of r) letter) (named : IsNamedBy r letter.header) where
      heard_quiet : (class : Option Class) → leads (after_went r has letter comes class (outstanding_of (line_read r)) (goes (line_read r) (with_move (went start) start)))
      heard_quiet class =
          quiet_leads r has letter comes class (outstanding_of (line_read r)) (read_channel r has letter comes) (letters_read r has letter comes)
          (with_move (went start) start) (λ q h. h)

      heard_some : (length letter.body ≡ 0 → ⊥) → (class : Class) → class_of (unwrap_or letter.header.ns 0) (connection_of r).channel.inbox ≡ class → Heard r (Some class)
      unfolding hears_class drops
      heard_some some Next is = heard_next r has comes named some is
      heard_some some Duplicate is = heard_quiet (Some Duplicate)
      heard_some some (Ahead by) is =
          quiet_leads r has letter comes (Some (Ahead by)) (outstanding_of (line_read r)) (read_channel r has letter comes) (letters_read r has letter comes)
          (with_output (Drop why.Ahead) (with_move (went start) start))
          (λ q h. more_out e kept moment ev t.letters t.calls i k.some (Some q) (Drop why.Ahead) _ tt (λ q. absurd cc) h)

      -- Nr says nothing of what is expected
      class_same : (q : Recovering) → class_on (line_read q) ≡ class_on q
      class_same (ByAttempt c) = refl
      class_same (ByAnswer a) = refl

      heard_any : Heard r (class_on r)
      unfolding hears_class
      heard_any =
          branch (Heard r) (length letter.body == 0) _ _
          (λ none. heard_quiet None)
          (λ full. heard_some (eqb-false (length letter.body) 0 full) (class_of (unwrap_or letter.header.ns 0) (connection_of r).channel.inbox) refl)

      pub line_leads : leads (hears_recovery e.config t.letters t.calls letter.header letter.body (Some r) start)
      unfolding hears_recovery hears_read
      line_leads = subst (Heard r) (sym (class_same r)) heard_any

  -- where it has none the message is for none
  pub line_none : t.recovery ≡ None → (h : Header) (body : List ℕ)
      → leads (hears_recovery e.config t.letters t.calls h body None start)
  unfolding hears_recovery drops
  line_none none h body =
      whole_chain e kept moment ev t.letters t.calls None i k.some (with_output (Drop why.Tunnel) start)
      (more_out e kept moment ev t.letters t.calls i k.some None (Drop why.Tunnel) start tt (λ q. absurd cc) (subst (λ o. W o start) none begins_whole))
