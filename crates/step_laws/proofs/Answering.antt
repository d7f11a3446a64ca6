-- A turn that takes a request for a call answers it once, by its tables.
use Rattle.std.proofs.Common.{◌≡◌, ℕ, ◌<◌, Bool, true, cond, List, [], ◌∷◌, ◌++◌, map, refl, sym, ap, ◌∙◌, subst, Option, Some, None, Result, Ok, Err, arith}
use Rattle.std.proofs.lemmas.Bool.{eqb-true, true≢false, eq-eqb, lt-ltb}
use Rattle.std.proofs.lemmas.Grind.{flat_map-append}
use Rattle.std.proofs.lemmas.List.{append-nil}
use Rattle.std.specs.Prelude.{◌==◌, nat_lt, unwrap_or, not}
use Rattle.std.specs.List.{flat_map}
use Rattle.id_table.specs.Ids.{at, ids_of}
use Rattle.wire_base.specs.declared.why.Why.TheVariants as why
use Rattle.wire_base.specs.declared.cause.Cause.{Cause as CauseOf}
use Rattle.wire_base.specs.declared.cause.Cause.TheVariants as cause
use Rattle.wire_base.specs.declared.letter.Letter.{Letter}
use Rattle.tunnel_fsm.specs.declared.table.TunnelState.{TunnelState}
use Rattle.tunnel_fsm.specs.declared.table.TunnelState.TheVariants as state
use Rattle.tunnel_fsm.specs.declared.table.TunnelEvent.{TunnelEvent}
use Rattle.tunnel_fsm.specs.declared.table.TunnelEvent.TheVariants as event
use Rattle.tunnel_fsm.specs.Rows.{state_number}
use Rattle.call_fsm.specs.declared.table.CallState.{CallState}
use Rattle.call_fsm.specs.declared.table.CallState.TheVariants as call
use Rattle.call_fsm.specs.declared.table.CallEvent.TheVariants as call_event
use Rattle.call_fsm.specs.declared.table.CallAction.{CallAction}
use Rattle.call_fsm.specs.declared.table.CallAction.TheVariants as call_action
use Rattle.end_model.specs.declared.tunnel.Call.{Call}
use Rattle.end_names.specs.declared.role.Role.{Role}
use Rattle.end_names.specs.declared.role.Role.TheVariants.{Lac, Lns}
use Rattle.end_model.specs.declared.out.Out.{Out}
use Rattle.end_model.specs.declared.out.Out.TheVariants.{Cause, Gone}
use Rattle.end_model.specs.declared.moves.Move.{Move}
use Rattle.end_model.specs.Reading.{message_in, CallFault, call_fault_in, tunnel_fault_in}
use Rattle.end_model.specs.Messages.{tells_id}
use Rattle.end_model.specs.Calls.{call_row}
use Rattle.end_model.specs.Tunnels.{Turn, Tunnel, is_current}
use Rattle.end_model.specs.Reasons.{Reason, out_of_state, fault_reason}
use Rattle.end_model.specs.Turn.{with_output, with_move, with_change, with_new, ends_call}
use Rattle.end_model.specs.Sending.{gives, takes_one, takes_plain, settles}
use Rattle.end_model.specs.Channels.{has_room}
use Rattle.end_model.specs.Stopping.{shuts, closed_told, closes_tunnel}
use Rattle.end_model.specs.Hearing.{takes_by, takes, about_call, in_call, hears, hears_faulty, hears_said, hears_next}
use Rattle.end_model.specs.Closing.{ends_by, end_told}
use Rattle.end_model.specs.Refusing.{answers_by, refused, refuses, of_no_call}
use Rattle.end_model.specs.Asking.{replied, replies, granted, asked_by}
use Rattle.end_model.specs.Faulty.{faulty_at, faulty, in_faulty_call}
use Rattle.end_model.specs.Moments.{is_closed}
use Rattle.end_model.specs.End.{End}
use Rattle.step_laws.specs.Left.{CanBe}
use Rattle.step_laws.specs.Answers.{IsRequest, Incoming, Outgoing, FaultyIncoming, FaultyOutgoing, TooFaulty, answer_of_move, cause_of_output, causes_of, IsReply, IsRefusal, IsEnd, IsClose, AnswersIcrq, WithReply, WithRefusal, WithEnd, AnswersFaulty, IsAnswer}
use Rattle.step_laws.proofs.Granting.{grants_is, denies_is}
use Rattle.step_laws.proofs.Lists.{branch, not_true}
use Rattle.step_laws.proofs.Owing.{live_open}
use Rattle.step_laws.proofs.Shutting.{all_ended_is}
use Rattle.step_laws.proofs.Stopping.{row_shut}
use Rattle.step_laws.proofs.Bodies.{fault_unread, too_faulty}
use Rattle.step_laws.proofs.Still.{none_more, settled_done, settled_told}

-- ---- rows

-- of a call that is there the peer is told, where it is asked for once more
pub told_again : (r : Role) (s : CallState) → CanBe r s → (s ≡ call.WaitTunnel → ⊥) → (call_row r s call_event.IcrqAcc).1 ≡ call_action.SendCdn
unfolding call_row
told_again Lac call.Idle can asked = absurd can
told_again Lac call.WaitTunnel can asked = absurd (asked refl)
told_again Lac call.WaitReply can asked = refl
told_again Lac call.WaitConnect can asked = absurd can
told_again Lac call.Established can asked = refl
told_again Lns call.Idle can asked = absurd can
told_again Lns call.WaitTunnel can asked = absurd can
told_again Lns call.WaitReply can asked = absurd can
told_again Lns call.WaitConnect can asked = refl
told_again Lns call.Established can asked = refl

pub told_faulty : (r : Role) (s : CallState) → CanBe r s → (s ≡ call.WaitTunnel → ⊥) → (call_row r s call_event.IcrqNotAcc).1 ≡ call_action.SendCdn
unfolding call_row
told_faulty Lac call.Idle can asked = absurd can
told_faulty Lac call.WaitTunnel can asked = absurd (asked refl)
told_faulty Lac call.WaitReply can asked = refl
told_faulty Lac call.WaitConnect can asked = absurd can
told_faulty Lac call.Established can asked = refl
told_faulty Lns call.Idle can asked = absurd can
told_faulty Lns call.WaitTunnel can asked = absurd can
told_faulty Lns call.WaitReply can asked = absurd can
told_faulty Lns call.WaitConnect can asked = refl
told_faulty Lns call.Established can asked = refl

-- a state has one number
pub open_not : (s n : ℕ) → s ≡ 3 → s ≡ n → (n ≡ 3 → ⊥) → ⊥
open_not s n is other apart = apart (sym other ∙ is)

-- ---- answers

-- one move is an answer, of which, and of the causes that are told, this holds
pub record OneAnswer (A : List CauseOf → Move → Type 0) (ms : List Move) (outs : List Out) : Type 0 where
  pub answer : Move
  pub only : flat_map answer_of_move ms ≡ answer ∷ []
  pub right : A (causes_of outs) answer

-- the cause alone that is told now
one_told : (outs : List Out) (c : CauseOf) → causes_of outs ≡ [] → causes_of (outs ++ Cause c ∷ []) ≡ c ∷ []
one_told outs c none = flat_map-append cause_of_output outs (Cause c ∷ []) ∙ ap (λ xs. xs ++ c ∷ []) none

-- the sessions that end tell none
ended_untold : (ss : List ℕ) → causes_of (map Gone ss) ≡ []
ended_untold [] = refl
ended_untold (s ∷ ss) = ended_untold ss

all_gone_told : (outs : List Out) (ss : List ℕ) (told : List CauseOf) → causes_of outs ≡ told → causes_of (outs ++ map Gone ss) ≡ told
all_gone_told outs ss told is =
    flat_map-append cause_of_output outs (map Gone ss) ∙ (ap (λ xs. causes_of outs ++ xs) (ended_untold ss) ∙ (append-nil (causes_of outs) ∙ is))

answered : (A : List CauseOf → Move → Type 0) (ms : List Move) (outs : List Out) (m : Move) (told : List CauseOf) → flat_map answer_of_move ms ≡ []
    → answer_of_move m ≡ m ∷ [] → causes_of outs ≡ told → A told m → OneAnswer A (ms ++ m ∷ []) outs
answered A ms outs m told none one is right = record {
  answer = m;
  only = flat_map-append answer_of_move ms (m ∷ [])
      ∙ (ap (λ xs. xs ++ flat_map answer_of_move (m ∷ [])) none ∙ ap (λ ys. ys ++ []) one);
  right = subst (λ cs. A cs m) (sym is) right;
}

-- and a move after it that answers nothing
answered_before : (A : List CauseOf → Move → Type 0) (ms : List Move) (outs : List Out) (m : Move) → answer_of_move m ≡ [] → OneAnswer A ms outs
    → OneAnswer A (ms ++ m ∷ []) outs
answered_before A ms outs m none h = record { answer = h.answer; only = none_more answer_of_move ms m none ∙ h.only; right = h.right }

pub settled_answer : (A : List CauseOf → Move → Type 0) (again : Bool) (letters : List Letter) (t : Turn) → OneAnswer A t.moves t.outputs
    → OneAnswer A (settles again letters t).moves (settles again letters t).outputs
settled_answer A again letters t h = record {
  answer = h.answer;
  only = settled_done answer_of_move (λ m. refl) (λ i. refl) again letters t ∙ h.only;
  right = subst (λ cs. A cs h.answer) (sym (settled_told cause_of_output (λ peer bytes o. refl) again letters t)) h.right;
}

-- a turn in which nothing is answered or told yet, and which has room for a letter
pub record IsOpen (id : ℕ) (t : Turn) : Type 0 where
  pub none : flat_map answer_of_move t.moves ≡ []
  pub untold : causes_of t.outputs ≡ []
  pub local : t.control.local ≡ id
  pub room : has_room t.control ≡ true
  pub state : state_number t.control.state ≡ 3
  pub current : is_current t.on.mode ≡ true

module _ (A : List CauseOf → Move → Type 0) (id : ℕ) where
  abbrev Answered : Turn → Type 0
  Answered t = OneAnswer A t.moves t.outputs

  refuses_once : (r : Reason) (remote : ℕ) (t : Turn) → IsOpen id t → ((m : Move) → IsRefusal id remote r.result r.error m → A (r.cause ∷ []) m)
      → Answered (refuses r remote t)
  unfolding refuses refused gives with_move takes_one with_output
  refuses_once r remote t h right =
      branch Answered (has_room t.control) _ _
      (λ may. answered A t.moves _ _ (r.cause ∷ []) h.none refl (one_told t.outputs r.cause h.untold)
      (right _ (record { refused = _; is = refl; tunnel = h.local; remote_is = refl; result_is = refl; error_is = refl })))
      (λ full. absurd (true≢false (sym h.room ∙ full)))

  replies_once : (role : Role) (remote drawn : ℕ) (t : Turn) → IsOpen id t → ((m : Move) → IsReply id remote drawn m → A [] m)
      → Answered (replies role remote drawn t)
  unfolding replies replied gives with_move with_new takes_one
  replies_once role remote drawn t h right =
      branch Answered (has_room t.control) _ _
      (λ may. answered A t.moves _ _ [] h.none refl h.untold
      (right _ (record { replied = _; is = refl; tunnel = h.local; remote_is = refl; session_is = refl })))
      (λ full. absurd (true≢false (sym h.room ∙ full)))

  -- a call ends, and the peer is told
  tells_once : (r : Reason) (s : ℕ) (c : Call) (t : Turn) → IsOpen id t → ((m : Move) → IsEnd id s c r.result r.error m → A (r.cause ∷ []) m)
      → Answered (ends_by r.cause r.result r.error s c call_action.SendCdn (takes_plain t))
  unfolding ends_by end_told gives with_move ends_call with_output with_change takes_plain takes_one
  tells_once r s c t h right =
      branch Answered (not (is_current t.on.mode)) _ _
      (λ inactive. absurd (true≢false (sym h.current ∙ not_true _ inactive)))
      (λ active. branch Answered (has_room t.control) _ _
      (λ may. answered A _ _ _ (r.cause ∷ []) (none_more answer_of_move t.moves _ refl ∙ h.none) refl
      (none_more cause_of_output (t.outputs ++ Cause r.cause ∷ []) (Gone s) refl ∙ one_told t.outputs r.cause h.untold)
      (right _ (record { told = _; is = refl; tunnel = h.local; session_is = refl; remote_is = refl; result_is = refl; error_is = refl })))
      (λ full. absurd (true≢false (sym h.room ∙ full))))

  ends_once : (r : Reason) (s : ℕ) (c : Call) (a : CallAction) (t : Turn) → IsOpen id t → s < 65536 → a ≡ call_action.SendCdn
      → ((m : Move) → IsEnd id s c r.result r.error m → A (r.cause ∷ []) m) → Answered (answers_by r s c a t)
  unfolding answers_by
  ends_once r s c a t h small row right =
      branch Answered (nat_lt s 65536) _ _
      (λ yes. subst (λ b. Answered (ends_by r.cause r.result r.error s c b (takes_plain t))) (sym row) (tells_once r s c t h right))
      (λ big. absurd (true≢false (sym (lt-ltb s 65536 small) ∙ big)))

  -- the tunnel closes
  closes_once : (r : Reason) (calls : List (ℕ × Call)) (remote : ℕ) (next : TunnelState) (t : Turn) → IsOpen id t
      → ((m : Move) → IsClose id r.result r.error m → A (r.cause ∷ []) m) → Answered (takes_plain (closes_tunnel r calls remote next t))
  unfolding closes_tunnel closed_told shuts gives with_move with_output takes_plain takes_one
  closes_once r calls remote next t h right =
      branch (λ (u : Turn). Answered (takes_plain u)) (has_room t.control) _ _
      (λ may. rw (all_ended_is (ids_of calls) _) (answered_before A _ _ _ refl (answered A t.moves _ _ (r.cause ∷ []) h.none refl
      (all_gone_told (t.outputs ++ Cause r.cause ∷ []) (ids_of calls) (r.cause ∷ []) (one_told t.outputs r.cause h.untold))
      (right _ (record { closed = _; is = refl; tunnel = h.local; result_is = refl; error_is = refl })))))
      (λ full. absurd (true≢false (sym h.room ∙ full)))

-- ---- the request is heard

module _ (e : End) (id : ℕ) (tunnel : Tunnel) (session : ℕ) (t : Turn) (h : IsOpen id t) (ids : t.ids.sessions ≡ e.session_ids)
    (sound : (s : ℕ) (c : Call) → at tunnel.calls s ≡ Some c → (s < 65536) × CanBe e.role c.state)
    (asked : (s : ℕ) (c : Call) → at tunnel.calls s ≡ Some c → c.state ≡ call.WaitTunnel → ⊥) where
  abbrev calls : List (ℕ × Call)
  calls = tunnel.calls

  abbrev Turned : (List CauseOf → Move → Type 0) → Turn → Type 0
  Turned A u = OneAnswer A u.moves u.outputs

  icrq_once : (remote : ℕ) (q : Result ℕ Reason) → granted e.role calls remote e.session_ids ≡ q → (o : Option Call) → at calls session ≡ o
      → Turned (AnswersIcrq e id tunnel session remote) (asked_by e.role session remote q o t)
  unfolding asked_by
  icrq_once remote (Ok drawn) judged None is =
      replies_once (AnswersIcrq e id tunnel session remote) id e.role remote drawn t h
      (λ m right. WithReply drawn is (grants_is e tunnel remote drawn judged) refl right)
  icrq_once remote (Err r) judged None is =
      refuses_once (AnswersIcrq e id tunnel session remote) id r remote t h
      (λ m right. let d = denies_is e tunnel remote r judged in WithRefusal r.result r.error is d.0 (ap (λ c. c ∷ []) (sym d.1)) right)
  icrq_once remote g judged (Some c) is =
      let call = sound session c is in
      ends_once (AnswersIcrq e id tunnel session remote) id out_of_state session c _ t h call.0 (told_again e.role c.state call.1 (asked session c is))
      (λ m right. WithEnd c is refl right)

  faulty_once : (f : CallFault) (o : Option Call) → at calls session ≡ o
      → Turned (AnswersFaulty id session f o)
      (faulty_at e.role (fault_reason f.cause) session (unwrap_or f.session 0) call_event.IcrqNotAcc call_action.SendCdn o t)
  unfolding faulty_at of_no_call
  faulty_once f None is =
      refuses_once (AnswersFaulty id session f None) id (fault_reason f.cause) (unwrap_or f.session 0) t h (λ m right. (refl, right))
  faulty_once f (Some c) is =
      let call = sound session c is in
      ends_once (AnswersFaulty id session f (Some c)) id (fault_reason f.cause) session c _ t h call.0
      (told_faulty e.role c.state call.1 (asked session c is)) (λ m right. (refl, right))

  -- by what the body says
  module _ (body : List ℕ) where
    abbrev Right : IsRequest body → Turn → Type 0
    Right r u = Turned (IsAnswer e id tunnel session body r) u

    -- only an open tunnel carries calls
    is_open : (X : Turn → Type 0) (x y : Turn) → X x → X (cond (state_number t.control.state == 3) x y)
    is_open X x y good =
        branch X (state_number t.control.state == 3) x y (λ yes. good)
        (λ no. absurd (true≢false (sym (eq-eqb (state_number t.control.state) 3 h.state) ∙ no)))

    said_once : (r : IsRequest body) → Right r (hears_said e.role e.config calls session (call_fault_in body) (tunnel_fault_in body) (message_in body) t)
    unfolding hears_said hears in_call about_call hears_faulty in_faulty_call faulty takes takes_by
    said_once (Incoming remote serial calling said) =
        subst (λ q. Right (Incoming remote serial calling said) (hears_said e.role e.config calls session (call_fault_in body) (tunnel_fault_in body) q t)) (sym said)
        (is_open (λ u. Right (Incoming remote serial calling said) u) _ _
        (subst (λ ss. Right (Incoming remote serial calling said) (asked_by e.role session remote (granted e.role calls remote ss) (at calls session) t))
        (sym ids) (icrq_once remote (granted e.role calls remote e.session_ids) refl (at calls session) refl)))
    said_once (Outgoing remote said) =
        subst (λ q. Right (Outgoing remote said) (hears_said e.role e.config calls session (call_fault_in body) (tunnel_fault_in body) q t)) (sym said)
        (is_open (λ u. Right (Outgoing remote said) u) _ _ (refuses_once _ id _ remote t h (λ m right. (refl, right))))
    said_once (FaultyIncoming f has is) =
        subst (λ q. Right (FaultyIncoming f has is) (hears_said e.role e.config calls session (call_fault_in body) (tunnel_fault_in body) q t))
        (sym (fault_unread body f has))
        (subst (λ o. Right (FaultyIncoming f has is) (hears_faulty e.role e.config calls session o (tunnel_fault_in body) why.Avp t)) (sym has)
        (is_open (λ u. Right (FaultyIncoming f has is) u) _ _
        (subst (λ k. Right (FaultyIncoming f has is) (faulty e.role calls session k f.cause f.session t)) (sym is)
        (faulty_once f (at calls session) refl))))
    said_once (FaultyOutgoing f has is) =
        subst (λ q. Right (FaultyOutgoing f has is) (hears_said e.role e.config calls session (call_fault_in body) (tunnel_fault_in body) q t))
        (sym (fault_unread body f has))
        (subst (λ o. Right (FaultyOutgoing f has is) (hears_faulty e.role e.config calls session o (tunnel_fault_in body) why.Avp t)) (sym has)
        (is_open (λ u. Right (FaultyOutgoing f has is) u) _ _
        (subst (λ k. Right (FaultyOutgoing f has is) (faulty e.role calls session k f.cause f.session t)) (sym is)
        (refuses_once _ id (fault_reason f.cause) (unwrap_or f.session 0) t h (λ m right. (refl, right))))))
    said_once (TooFaulty avps g read asks has) =
        let u = too_faulty body avps g read asks has in
        subst (λ q. Right (TooFaulty avps g read asks has) (hears_said e.role e.config calls session (call_fault_in body) (tunnel_fault_in body) q t)) (sym u.unread)
        (subst (λ o. Right (TooFaulty avps g read asks has) (hears_faulty e.role e.config calls session o (tunnel_fault_in body) why.Avp t)) (sym u.no_call)
        (subst (λ o. Right (TooFaulty avps g read asks has) (hears_faulty e.role e.config calls session None o why.Avp t)) (sym has)
        (subst (λ (on : TunnelEvent). Right (TooFaulty avps g read asks has) (takes e.role e.config calls (fault_reason g.cause) on (tells_id g.remote) t)) (sym u.closes.event)
        (subst (λ row. Right (TooFaulty avps g read asks has) (takes_by e.role e.config calls (fault_reason g.cause) (tells_id g.remote) row t))
        (sym (row_shut t.control.state event.AdminClose (λ z. open_busy z) (live_open t.control h.state) tt))
        (not_waiting (λ u. Right (TooFaulty avps g read asks has) u) _ _
        (subst (λ (c : CauseOf). Right (TooFaulty avps g read asks has) (takes_plain (closes_tunnel (fault_reason c) calls t.control.remote state.Closed t)))
        (sym u.closes.cause) (closes_once _ id (fault_reason cause.Value) calls _ _ t h (λ m right. (refl, right)))))))))
      where
        -- an open tunnel doesn't wait for its SCCRP
        not_waiting : (X : Turn → Type 0) (x y : Turn) → X y → X (cond (state_number t.control.state == 1) x y)
        not_waiting X x y good =
            branch X (state_number t.control.state == 1) x y
            (λ one. absurd (open_not (state_number t.control.state) 1 h.state (eqb-true (state_number t.control.state) 1 one) (λ f. omega (arith, f))))
            (λ no. good)

        open_busy : state_number t.control.state ≡ 0 → ⊥
        open_busy z = open_not (state_number t.control.state) 0 h.state z (λ f. omega (arith, f))

    pub next_once : (r : IsRequest body) → Right r (hears_next e.role e.config calls session body t)
    unfolding hears_next
    next_once r =
        branch (λ u. Right r u) (is_closed t.control.state) _ _
        (λ closed. absurd (true≢false (sym closed ∙ live_open t.control h.state)))
        (λ live. said_once r)
