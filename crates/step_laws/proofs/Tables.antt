-- A turn that takes a letter does what the tables want on it.
use Rattle.std.proofs.Common.{◌≡◌, ◌⊎◌, inl, inr, ⊎_elim, ℕ, ◌<◌, Bool, true, false, cond, List, [], ◌∷◌, ◌++◌, refl, sym, ap, ◌∙◌, subst, Option, Some, None, Result, Ok, Err}
use Rattle.std.proofs.lemmas.Bool.{true≢false, eq-eqb, lt-ltb}
use Rattle.std.proofs.lemmas.Option.{none-some}
use Rattle.std.specs.Prelude.{◌==◌, nat_lt, unwrap_or, not}
use Rattle.std.specs.List.{flat_map}
use Rattle.id_table.specs.Ids.{at, ids_of}
use Rattle.wire_base.specs.declared.why.Why.{Why}
use Rattle.wire_base.specs.declared.cause.Cause.{Cause as CauseOf}
use Rattle.wire_base.specs.declared.letter.Letter.{Letter}
use Rattle.control_message.specs.declared.message.Message.{Message}
use Rattle.control_message.specs.declared.message.Message.TheVariants.{Sccrq, Sccrp, Scccn, StopCcn, Hello, Ocrq, Ocrp, Occn, Icrq, Icrp, Iccn, Cdn, Wen, Sli, Fsq, Fsr}
use Rattle.control_message.specs.declared.kind.Kind.{Kind}
use Rattle.control_message.specs.declared.kind.Kind.TheVariants as kind
use Rattle.recv_window.specs.declared.Class.TheVariants.{Next}
use Rattle.tunnel_fsm.specs.declared.table.TunnelState.{TunnelState}
use Rattle.tunnel_fsm.specs.declared.table.TunnelState.TheVariants as state
use Rattle.tunnel_fsm.specs.Rows.{rows, row_of, state_number}
use Rattle.call_fsm.specs.declared.table.CallState.{CallState}
use Rattle.call_fsm.specs.declared.table.CallState.TheVariants as call
use Rattle.call_fsm.specs.declared.table.CallEvent.{CallEvent}
use Rattle.call_fsm.specs.declared.table.CallEvent.TheVariants as call_event
use Rattle.call_fsm.specs.declared.table.CallAction.{CallAction}
use Rattle.call_fsm.specs.declared.table.CallAction.TheVariants as call_action
use Rattle.end_model.specs.declared.tunnel.Call.{Call}
use Rattle.end_names.specs.declared.role.Role.{Role}
use Rattle.end_names.specs.declared.role.Role.TheVariants.{Lac, Lns}
use Rattle.end_model.specs.declared.event.Event.{Event}
use Rattle.end_model.specs.declared.out.Out.{Out}
use Rattle.end_model.specs.declared.moves.ClosedBy.{ClosedBy}
use Rattle.end_model.specs.declared.moves.Move.{Move}
use Rattle.end_model.specs.declared.moves.Move.TheVariants as move
use Rattle.end_model.specs.Reading.{message_in, CallFault, call_fault_in, TunnelFault, tunnel_fault_in}
use Rattle.end_model.specs.Messages.{tells_id}
use Rattle.end_model.specs.Calls.{call_row, row_for, row_of_none, is_connection, is_told, is_up, is_clean_up}
use Rattle.end_model.specs.Tunnels.{Turn, Tunnel, turn_in, is_current}
use Rattle.end_model.specs.Reasons.{Reason, out_of_state, fault_reason, fault_error}
use Rattle.end_model.specs.Turn.{with_output, with_move, with_change, drops, ends_call}
use Rattle.end_model.specs.Sending.{gives, takes_one, takes_plain, reads_nr, settles}
use Rattle.end_model.specs.Channels.{has_room, may_take, counts_acked}
use Rattle.end_model.specs.Stopping.{shuts, closed_told, closes_tunnel, rejected, rejects, closed_by}
use Rattle.end_model.specs.Hearing.{takes_by, takes, about_call, in_call, hears, hears_faulty, hears_said, hears_next, hears_letter}
use Rattle.end_model.specs.Closing.{ends_by, end_told, end_silent}
use Rattle.end_model.specs.Refusing.{answers_by, refused, refuses, of_no_call}
use Rattle.end_model.specs.Asking.{granted, asked_by, session_named}
use Rattle.end_model.specs.Connecting.{first_up_by, second_up_by}
use Rattle.end_model.specs.Faulty.{faulty_at, faulty, in_faulty_call}
use Rattle.end_model.specs.Moments.{is_closed}
use Rattle.end_model.specs.End.{End, env_of, plain_step}
use Rattle.step_laws.specs.Letters.{Among}
use Rattle.step_laws.specs.Left.{CanBe, AreSound}
use Rattle.step_laws.specs.Faults.{IsAboutCall}
use Rattle.step_laws.specs.Moves.{fault_event}
use Rattle.step_laws.specs.Steps.{AreKept}
use Rattle.step_laws.specs.Tables.{IsRefused, IsStopped, ByClosing, ByRejecting, RowIsDone, CallIsDone, session_meant, FaultIsDone, TunnelIsDone, FaultsAreDone, LetterIsDone, BringsNext, IsTaken, TablesAreDone}
use Rattle.step_laws.proofs.Lists.{branch, among_left, among_right, not_true}
use Rattle.step_laws.proofs.Owing.{spare_room}
use Rattle.step_laws.proofs.Shutting.{all_ended_is}
use Rattle.step_laws.proofs.Faults.{call_fault}
use Rattle.step_laws.proofs.Reaching.{reached}
use Rattle.step_laws.proofs.Still.{settled_done}

-- ---- the moves that the tables want, and those that take a letter plainly

abbrev picks : Move → List Move
picks (move.EndTold m) = move.EndTold m ∷ []
picks (move.EndSilent m) = move.EndSilent m ∷ []
picks (move.Refused m) = move.Refused m ∷ []
picks (move.Closed m) = move.Closed m ∷ []
picks (move.Rejected m) = move.Rejected m ∷ []
picks (move.ClosedBy m) = move.ClosedBy m ∷ []
picks (move.TookPlain m) = move.TookPlain m ∷ []
picks m = []

-- one that is picked is there, and the other way round
among_append : {X : Type 0} (x : X) (xs ys : List X) → Among x (xs ++ ys) → Among x xs ⊎ Among x ys
among_append x [] ys a = inr a
among_append x (z ∷ xs) ys a = ⊎_elim
    (λ (is : z ≡ x). inl (inl is))
    (λ rest. ⊎_elim (λ here. inl (inr here)) (λ there. inr there) (among_append x xs ys rest))
    a

picked : (m : Move) (ms : List Move) → picks m ≡ m ∷ [] → Among m ms → Among m (flat_map picks ms)
picked m [] is a = absurd a
picked m (x ∷ ms) is a = ⊎_elim
    (λ (same : x ≡ m). among_left m (picks x) (flat_map picks ms) (subst (λ xs. Among m xs) (sym (ap picks same ∙ is)) (inl refl)))
    (λ rest. among_right m (picks x) (flat_map picks ms) (picked m ms is rest))
    a

pick_is : (x m : Move) → Among m (picks x) → x ≡ m
pick_is (move.EndTold y) m a = ⊎_elim (λ is. is) (λ none. absurd none) a
pick_is (move.EndSilent y) m a = ⊎_elim (λ is. is) (λ none. absurd none) a
pick_is (move.Refused y) m a = ⊎_elim (λ is. is) (λ none. absurd none) a
pick_is (move.Closed y) m a = ⊎_elim (λ is. is) (λ none. absurd none) a
pick_is (move.Rejected y) m a = ⊎_elim (λ is. is) (λ none. absurd none) a
pick_is (move.ClosedBy y) m a = ⊎_elim (λ is. is) (λ none. absurd none) a
pick_is (move.TookPlain y) m a = ⊎_elim (λ is. is) (λ none. absurd none) a
pick_is (move.Opened y) m a = absurd a
pick_is (move.Accepted y) m a = absurd a
pick_is (move.Connected y) m a = absurd a
pick_is (move.Confirmed y) m a = absurd a
pick_is (move.Added y) m a = absurd a
pick_is (move.Requested y) m a = absurd a
pick_is (move.Replied y) m a = absurd a
pick_is (move.FirstUp y) m a = absurd a
pick_is (move.SecondUp y) m a = absurd a
pick_is (move.EndHeard y) m a = absurd a
pick_is (move.Declined y) m a = absurd a
pick_is (move.Cleared i booked) m a = absurd a
pick_is (move.Greeted y) m a = absurd a
pick_is (move.NrRead y) m a = absurd a
pick_is (move.LetGo y) m a = absurd a
pick_is (move.Repeated y) m a = absurd a
pick_is (move.Quiet i) m a = absurd a
pick_is (move.Negotiated y) m a = absurd a
pick_is (move.Counted y) m a = absurd a
pick_is (move.FrameSent y) m a = absurd a
pick_is (move.FrameUp y) m a = absurd a
pick_is (move.Restored y) m a = absurd a
pick_is (move.Forgot y) m a = absurd a
pick_is (move.Froze y) m a = absurd a
pick_is (move.ResetAttempting y) m a = absurd a
pick_is (move.ResetAnswering y) m a = absurd a
pick_is (move.Queried y) m a = absurd a
pick_is (move.AnsweredQuery y) m a = absurd a
pick_is (move.TookAnswer y) m a = absurd a
pick_is (move.RecoveryWentOn i) m a = absurd a
pick_is (move.RecoveryEnded i) m a = absurd a
pick_is (move.Ignored i) m a = absurd a

unpicked : (m : Move) (ms : List Move) → Among m (flat_map picks ms) → Among m ms
unpicked m [] a = absurd a
unpicked m (x ∷ ms) a = ⊎_elim
    (λ here. inl (pick_is x m here))
    (λ rest. inr (unpicked m ms rest))
    (among_append m (picks x) (flat_map picks ms) a)

-- so they stay as they are where a turn is settled
module _ (again : Bool) (letters : List Letter) (t : Turn) where
  settled_picks : flat_map picks (settles again letters t).moves ≡ flat_map picks t.moves
  settled_picks = settled_done picks (λ m. refl) (λ i. refl) again letters t

  settled_more : (m : Move) → picks m ≡ m ∷ [] → Among m t.moves → Among m (settles again letters t).moves
  settled_more m is a =
      unpicked m (settles again letters t).moves (subst (λ xs. Among m xs) (sym settled_picks) (picked m t.moves is a))

  settled_less : (m : Move) → picks m ≡ m ∷ [] → Among m (settles again letters t).moves → Among m t.moves
  settled_less m is a = unpicked m t.moves (subst (λ xs. Among m xs) settled_picks (picked m (settles again letters t).moves is a))

-- ---- what is done stays done among more moves

module _ (ms ns : List Move) (more : (m : Move) → picks m ≡ m ∷ [] → Among m ms → Among m ns) where
  refused_more : (i remote result : ℕ) (error : Option ℕ) → IsRefused i remote result error ms → IsRefused i remote result error ns
  refused_more i remote result error h = record {
    refused = h.refused;
    there = more (move.Refused h.refused) refl h.there;
    tunnel = h.tunnel;
    remote_is = h.remote_is;
    result_is = h.result_is;
    error_is = h.error_is;
  }

  row_more : (a : CallAction) (i s result : ℕ) (error : Option ℕ) → RowIsDone a i s result error ms → RowIsDone a i s result error ns
  row_more a i s result error h = record {
    told = λ row. let k = h.told row in record {
      told = k.told;
      there = more (move.EndTold k.told) refl k.there;
      tunnel = k.tunnel;
      session = k.session;
      result_is = k.result_is;
      error_is = k.error_is;
    };
    silent = λ row. let k = h.silent row in
        record { silent = k.silent; there = more (move.EndSilent k.silent) refl k.there; tunnel = k.tunnel; session = k.session };
  }

  stopped_more : (i result : ℕ) (error : Option ℕ) → IsStopped i result error ms → IsStopped i result error ns
  stopped_more i result error (ByClosing m there tunnel is by) = ByClosing m (more (move.Closed m) refl there) tunnel is by
  stopped_more i result error (ByRejecting m there tunnel is by) = ByRejecting m (more (move.Rejected m) refl there) tunnel is by

  faults_more : (e : End) (t : Tunnel) (i session : ℕ) (f : Option CallFault) (g : Option TunnelFault) → FaultsAreDone e t i session f g ms
      → FaultsAreDone e t i session f g ns
  faults_more e t i session (Some f) g h = λ is_open. let k = h is_open in record {
    live = λ other c live. row_more _ i _ 2 (Some (fault_error f.cause)) (k.live other c live);
    none = λ none asks. refused_more i _ 2 _ (k.none none asks);
    outgoing = λ is. refused_more i _ 2 _ (k.outgoing is);
  }
  faults_more e t i session None (Some g) h = record {
    stopped = λ row. stopped_more i 2 _ (h.stopped row);
    cleaned = λ row. let k = h.cleaned row in (k.0, more (move.ClosedBy k.0) refl k.1, k.2);
  }
  faults_more e t i session None None h = tt

  letter_more : (e : End) (t : Tunnel) (i session : ℕ) (f : Option CallFault) (g : Option TunnelFault) (r : Result Message Why)
      → LetterIsDone e t i session f g r ms → LetterIsDone e t i session f g r ns
  letter_more e t i session f g (Err w) h = faults_more e t i session f g h
  letter_more e t i session f g (Ok (Icrq remote serial calling)) h = λ is_open c live. row_more _ i session 2 (Some 5) (h is_open c live)
  letter_more e t i session f g (Ok (Icrp remote)) h = λ is_open c live. row_more _ i session 2 (Some 5) (h is_open c live)
  letter_more e t i session f g (Ok (Iccn speed framing sequenced)) h = λ is_open c live. row_more _ i session 2 (Some 5) (h is_open c live)
  letter_more e t i session f g (Ok (Sccrq o)) h = tt
  letter_more e t i session f g (Ok (Sccrp o)) h = tt
  letter_more e t i session f g (Ok (Scccn response)) h = tt
  letter_more e t i session f g (Ok (StopCcn tunnel code error)) h = tt
  letter_more e t i session f g (Ok Hello) h = tt
  letter_more e t i session f g (Ok (Ocrq remote)) h = tt
  letter_more e t i session f g (Ok Ocrp) h = tt
  letter_more e t i session f g (Ok Occn) h = tt
  letter_more e t i session f g (Ok (Cdn remote code error)) h = tt
  letter_more e t i session f g (Ok Wen) h = tt
  letter_more e t i session f g (Ok Sli) h = tt
  letter_more e t i session f g (Ok (Fsq sessions)) h = tt
  letter_more e t i session f g (Ok (Fsr sessions)) h = tt

-- ---- a turn that takes the letter

-- of the tunnel with an id, with room
pub record IsRoomy (i : ℕ) (t : Turn) : Type 0 where
  pub local : t.control.local ≡ i
  pub room : has_room t.control ≡ true
  pub current : is_current t.on.mode ≡ true

last : {X : Type 0} (xs : List X) (x : X) → Among x (xs ++ x ∷ [])
last xs x = among_right x xs (x ∷ []) (inl refl)

module _ (i : ℕ) where
  full_none : {X : Type 0} (t : Turn) → IsRoomy i t → has_room t.control ≡ false → X
  full_none t h full = absurd (true≢false (sym h.room ∙ full))

  -- a call ends by its row
  ends_done : (for : CauseOf) (result s : ℕ) (error : Option ℕ) (c : Call) (a : CallAction) (t : Turn) → IsRoomy i t
      → RowIsDone a i s result error (ends_by for result error s c a t).moves
  unfolding ends_by end_told end_silent gives ends_call with_output with_change with_move
  ends_done for result s error c call_action.SendCdn t h =
      branch (λ (u : Turn). RowIsDone call_action.SendCdn i s result error u.moves) (not (is_current t.on.mode)) _ _
      (λ inactive. absurd (true≢false (sym h.current ∙ not_true _ inactive)))
      (λ active. branch (λ (u : Turn). RowIsDone call_action.SendCdn i s result error u.moves) (has_room t.control) _ _
      (λ may. record {
        told = λ row. record { told = _; there = last t.moves _; tunnel = h.local; session = refl; result_is = refl; error_is = refl };
        silent = λ row. absurd cc;
      })
      (λ full. full_none t h full))
  ends_done for result s error c call_action.CleanUp t h = record {
    told = λ row. absurd cc;
    silent = λ row. record { silent = _; there = last t.moves _; tunnel = h.local; session = refl };
  }
  ends_done for result s error c call_action.Nothing t h = record { told = λ row. absurd cc; silent = λ row. absurd cc }
  ends_done for result s error c call_action.SendIcrq t h = record { told = λ row. absurd cc; silent = λ row. absurd cc }
  ends_done for result s error c call_action.SendIcrp t h = record { told = λ row. absurd cc; silent = λ row. absurd cc }
  ends_done for result s error c call_action.SendIccn t h = record { told = λ row. absurd cc; silent = λ row. absurd cc }
  ends_done for result s error c call_action.DropSession t h = record { told = λ row. absurd cc; silent = λ row. absurd cc }

  plain_roomy : (t : Turn) → IsRoomy i t → IsRoomy i (takes_plain t)
  unfolding takes_plain with_move takes_one
  plain_roomy t h = record { local = h.local; room = h.room; current = h.current }

  answers_done : (r : Reason) (s : ℕ) (c : Call) (a : CallAction) (t : Turn) → IsRoomy i t → s < 65536
      → RowIsDone a i s r.result r.error (answers_by r s c a t).moves
  unfolding answers_by
  answers_done r s c a t h small =
      branch (λ (u : Turn). RowIsDone a i s r.result r.error u.moves) (nat_lt s 65536) _ _
      (λ yes. ends_done r.cause r.result s r.error c a (takes_plain t) (plain_roomy t h))
      (λ big. absurd (true≢false (sym (lt-ltb s 65536 small) ∙ big)))

  refuses_done : (r : Reason) (remote : ℕ) (t : Turn) → IsRoomy i t → IsRefused i remote r.result r.error (refuses r remote t).moves
  unfolding refuses refused gives with_move takes_one with_output
  refuses_done r remote t h =
      branch (λ (u : Turn). IsRefused i remote r.result r.error u.moves) (has_room t.control) _ _
      (λ may. record { refused = _; there = last t.moves _; tunnel = h.local; remote_is = refl; result_is = refl; error_is = refl })
      (λ full. full_none t h full)

  -- the tunnel is closed, and then the letter taken; or both at once
  closes_done : (r : Reason) (calls : List (ℕ × Call)) (remote : ℕ) (next : TunnelState) (t : Turn) → IsRoomy i t
      → IsStopped i r.result r.error (takes_plain (closes_tunnel r calls remote next t)).moves
  unfolding closes_tunnel closed_told shuts gives with_move with_output takes_plain takes_one
  closes_done r calls remote next t h =
      branch (λ (u : Turn). IsStopped i r.result r.error (takes_plain u).moves) (has_room t.control) _ _
      (λ may. rw (all_ended_is (ids_of calls) _) (ByClosing _ (among_left _ _ _ (last t.moves _)) h.local refl refl))
      (λ full. full_none t h full)

  rejects_done : (r : Reason) (calls : List (ℕ × Call)) (remote : ℕ) (next : TunnelState) (t : Turn) → IsRoomy i t
      → IsStopped i r.result r.error (rejects r calls remote next t).moves
  unfolding rejects rejected shuts gives with_move with_output takes_one
  rejects_done r calls remote next t h =
      branch (λ (u : Turn). IsStopped i r.result r.error u.moves) (has_room t.control) _ _
      (λ may. rw (all_ended_is (ids_of calls) _) (ByRejecting _ (last t.moves _) h.local refl refl))
      (λ full. full_none t h full)

  closed_by_done : (calls : List (ℕ × Call)) (next : TunnelState) (t : Turn) → IsRoomy i t
      → (m : ClosedBy) × Among (move.ClosedBy m) (closed_by calls next t).moves × (m.tunnel ≡ i)
  unfolding closed_by shuts with_move takes_one
  closed_by_done calls next t h = rw (all_ended_is (ids_of calls) _) (_, last t.moves _, h.local)

-- ---- the letter is heard

module _ (e : End) (i : ℕ) (tunnel : Tunnel) (session : ℕ) (t : Turn) (h : IsRoomy i t) (same : t.control.state ≡ tunnel.control.state)
    (sound : (s : ℕ) (c : Call) → at tunnel.calls s ≡ Some c → (s < 65536) × CanBe e.role c.state) where
  abbrev calls : List (ℕ × Call)
  calls = tunnel.calls

  -- an open tunnel's
  abbrev IsOpen : Type 0
  IsOpen = state_number tunnel.control.state ≡ 3

  in_open : (X : Turn → Type 0) (x y : Turn) → IsOpen → X x → X (cond (state_number t.control.state == 3) x y)
  in_open X x y is_open good =
      branch X (state_number t.control.state == 3) x y (λ yes. good)
      (λ no. absurd (true≢false (sym (eq-eqb (state_number t.control.state) 3 (ap state_number same ∙ is_open)) ∙ no)))

  abbrev Row : ℕ → CallEvent → Reason → Turn → Type 0
  Row s on r u = CallIsDone e tunnel i s on r.result r.error u.moves

  -- the call that there is ends by its row
  row_done : (s : ℕ) (on : CallEvent) (r : Reason) (c : Call) → at calls s ≡ Some c
      → Row s on r (answers_by r s c (row_for e.role c on).1 t)
  row_done s on r c is d live =
      let both : Some c ≡ Some d = sym is ∙ live in
      let one : c ≡ d = cc in
      subst (λ (x : Call). RowIsDone (row_for e.role x on).1 i s r.result r.error (answers_by r s c (row_for e.role c on).1 t).moves) one
      (answers_done i r s c (row_for e.role c on).1 t h (sound s c is).0)

  -- there is none
  none_done : (s : ℕ) (on : CallEvent) (r : Reason) (ms : List Move) → at calls s ≡ None → CallIsDone e tunnel i s on r.result r.error ms
  none_done s on r ms none d live = absurd (none-some d (sym none ∙ live))

  -- a row that connects a call, or has it up, neither tells nor cleans up
  connection_done : (a : CallAction) (s result : ℕ) (error : Option ℕ) (ms : List Move) → is_connection a ≡ true → RowIsDone a i s result error ms
  connection_done call_action.SendIccn s result error ms is = record { told = λ row. absurd cc; silent = λ row. absurd cc }
  connection_done call_action.Nothing s result error ms is = absurd cc
  connection_done call_action.SendIcrq s result error ms is = absurd cc
  connection_done call_action.SendIcrp s result error ms is = absurd cc
  connection_done call_action.SendCdn s result error ms is = absurd cc
  connection_done call_action.CleanUp s result error ms is = absurd cc
  connection_done call_action.DropSession s result error ms is = absurd cc

  icrq_done : (remote : ℕ) (g : Result ℕ Reason) (o : Option Call) → at calls session ≡ o
      → Row session call_event.IcrqAcc out_of_state (asked_by e.role session remote g o t)
  unfolding asked_by
  icrq_done remote g (Some c) is = row_done session call_event.IcrqAcc out_of_state c is
  icrq_done remote (Ok drawn) None is = none_done session call_event.IcrqAcc out_of_state _ is
  icrq_done remote (Err r) None is = none_done session call_event.IcrqAcc out_of_state _ is

  icrp_done : (remote : ℕ) (o : Option Call) → at calls session ≡ o → Row session call_event.IcrpAcc out_of_state (first_up_by e.role session remote o t)
  unfolding first_up_by
  icrp_done remote None is = none_done session call_event.IcrpAcc out_of_state _ is
  icrp_done remote (Some c) is =
      branch (Row session call_event.IcrpAcc out_of_state) (is_connection (row_for e.role c call_event.IcrpAcc).1) _ _
      (λ row d live.
      let both : Some c ≡ Some d = sym is ∙ live in
      let one : c ≡ d = cc in
      connection_done (row_for e.role d call_event.IcrpAcc).1 session 2 (Some 5) _
      (subst (λ (x : Call). is_connection (row_for e.role x call_event.IcrpAcc).1 ≡ true) one row))
      (λ none. row_done session call_event.IcrpAcc out_of_state c is)

  -- a row that has the call up has no action
  up_nothing : (r : Role) (s : CallState) → is_up (call_row r s call_event.IccnAcc).0 ≡ true
      → (is_told (call_row r s call_event.IccnAcc).1 ≡ false) × (is_clean_up (call_row r s call_event.IccnAcc).1 ≡ false)
  unfolding call_row
  up_nothing Lac call.Idle up = absurd (true≢false (sym up))
  up_nothing Lac call.WaitTunnel up = absurd (true≢false (sym up))
  up_nothing Lac call.WaitReply up = absurd (true≢false (sym up))
  up_nothing Lac call.WaitConnect up = absurd (true≢false (sym up))
  up_nothing Lac call.Established up = absurd (true≢false (sym up))
  up_nothing Lns call.Idle up = absurd (true≢false (sym up))
  up_nothing Lns call.WaitTunnel up = absurd (true≢false (sym up))
  up_nothing Lns call.WaitReply up = absurd (true≢false (sym up))
  up_nothing Lns call.WaitConnect up = (refl, refl)
  up_nothing Lns call.Established up = absurd (true≢false (sym up))

  iccn_done : (sequenced : Bool) (o : Option Call) → at calls session ≡ o → Row session call_event.IccnAcc out_of_state (second_up_by e.role sequenced session o t)
  unfolding second_up_by
  iccn_done sequenced None is = none_done session call_event.IccnAcc out_of_state _ is
  iccn_done sequenced (Some c) is =
      branch (Row session call_event.IccnAcc out_of_state) (is_up (row_for e.role c call_event.IccnAcc).0) _ _
      (λ up d live.
      let both : Some c ≡ Some d = sym is ∙ live in
      let one : c ≡ d = cc in
      let none = up_nothing e.role d.state (subst (λ (x : Call). is_up (row_for e.role x call_event.IccnAcc).0 ≡ true) one up) in
      record { told = λ row. absurd (true≢false (sym row ∙ none.0)); silent = λ row. absurd (true≢false (sym row ∙ none.1)) })
      (λ down. row_done session call_event.IccnAcc out_of_state c is)

  -- ---- faults

  module _ (f : CallFault) where
    abbrev why : Reason
    why = fault_reason f.cause

    abbrev to : ℕ
    to = unwrap_or f.session 0

    at_done : (s remote : ℕ) (on : CallEvent) (none : CallAction) (o : Option Call) → at calls s ≡ o
        → Row s on why (faulty_at e.role why s remote on none o t)
    unfolding faulty_at
    at_done s remote on none None is = none_done s on why _ is
    at_done s remote on none (Some c) is = row_done s on why c is

    -- one for no call that is refused
    refused_at : (s remote : ℕ) (on : CallEvent) (none : CallAction) → none ≡ call_action.SendCdn → (o : Option Call) → at calls s ≡ o → at calls s ≡ None
        → IsRefused i remote 2 (Some (fault_error f.cause)) (faulty_at e.role why s remote on none o t).moves
    unfolding faulty_at of_no_call
    refused_at s remote on none is None found gone =
        subst (λ (a : CallAction). IsRefused i remote 2 (Some (fault_error f.cause)) (of_no_call why remote a t).moves) (sym is) (refuses_done i why remote t h)
    refused_at s remote on none is (Some c) found gone = absurd (none-some c (sym gone ∙ found))

    lns_refuses : (r : Role) → r ≡ Lns → (row_of_none r call_event.IcrpNotAcc).1 ≡ call_action.SendCdn
    unfolding call_row
    lns_refuses Lns is = refl
    lns_refuses Lac is = absurd cc

    abbrev Done : Turn → Type 0
    Done u = FaultIsDone e tunnel i session f u.moves

    -- of a kind, by its row; and refused for no call where it is
    of_kind : (q : Kind) (ms : List Move) → f.kind ≡ q → (q ≡ kind.Ocrq → ⊥)
        → CallIsDone e tunnel i (session_meant q tunnel session f.session) (fault_event q) 2 (Some (fault_error f.cause)) ms
        → (at calls session ≡ None → (q ≡ kind.Icrq) ⊎ ((q ≡ kind.Icrp) × (e.role ≡ Lns)) → IsRefused i to 2 (Some (fault_error f.cause)) ms)
        → FaultIsDone e tunnel i session f ms
    of_kind q ms is other row none = record {
      live = λ o. subst
          (λ (k : Kind). CallIsDone e tunnel i (session_meant k tunnel session f.session) (fault_event k) 2 (Some (fault_error f.cause)) ms) (sym is) row;
      none = λ gone asks. none gone (subst (λ (k : Kind). (k ≡ kind.Icrq) ⊎ ((k ≡ kind.Icrp) × (e.role ≡ Lns))) is asks);
      outgoing = λ ocrq. absurd (other (sym is ∙ ocrq));
    }

    -- a kind of which none is refused for want of a call
    never : (q : Kind) (ms : List Move) → (q ≡ kind.Icrq → ⊥) → (q ≡ kind.Icrp → ⊥) → (q ≡ kind.Icrq) ⊎ ((q ≡ kind.Icrp) × (e.role ≡ Lns))
        → IsRefused i to 2 (Some (fault_error f.cause)) ms
    never q ms icrq icrp (inl is) = absurd (icrq is)
    never q ms icrq icrp (inr both) = absurd (icrp both.0)

    -- only the one at an LNS
    at_lns : (ms : List Move) → (e.role ≡ Lns → IsRefused i to 2 (Some (fault_error f.cause)) ms)
        → (kind.Icrp ≡ kind.Icrq) ⊎ ((kind.Icrp ≡ kind.Icrp) × (e.role ≡ Lns)) → IsRefused i to 2 (Some (fault_error f.cause)) ms
    at_lns ms so (inl is) = absurd cc
    at_lns ms so (inr both) = so both.1

    faulty_done : (q : Kind) → f.kind ≡ q → IsAboutCall q → Done (faulty e.role calls session q f.cause f.session t)
    unfolding faulty
    faulty_done kind.Icrq is about =
        of_kind kind.Icrq _ is (λ o. absurd cc) (at_done session to call_event.IcrqNotAcc call_action.SendCdn (at calls session) refl)
        (λ gone asks. refused_at session to call_event.IcrqNotAcc call_action.SendCdn refl (at calls session) refl gone)
    faulty_done kind.Icrp is about =
        of_kind kind.Icrp _ is (λ o. absurd cc)
        (at_done session to call_event.IcrpNotAcc (row_of_none e.role call_event.IcrpNotAcc).1 (at calls session) refl)
        (λ gone asks. at_lns _
        (λ lns. refused_at session to call_event.IcrpNotAcc (row_of_none e.role call_event.IcrpNotAcc).1 (lns_refuses e.role lns) (at calls session) refl gone)
        asks)
    faulty_done kind.Iccn is about =
        of_kind kind.Iccn _ is (λ o. absurd cc)
        (at_done session 0 call_event.IccnNotAcc (row_of_none e.role call_event.IccnNotAcc).1 (at calls session) refl)
        (λ gone asks. never kind.Iccn _ (λ o. absurd cc) (λ o. absurd cc) asks)
    faulty_done kind.Cdn is about =
        let s = session_named calls session to in
        of_kind kind.Cdn _ is (λ o. absurd cc)
        (at_done s 0 call_event.Close (row_of_none e.role call_event.CdnCame).1 (at calls s) refl)
        (λ gone asks. never kind.Cdn _ (λ o. absurd cc) (λ o. absurd cc) asks)
    faulty_done kind.Wen is about =
        of_kind kind.Wen _ is (λ o. absurd cc) (at_done session 0 call_event.Close call_action.Nothing (at calls session) refl)
        (λ gone asks. never kind.Wen _ (λ o. absurd cc) (λ o. absurd cc) asks)
    faulty_done kind.Sli is about =
        of_kind kind.Sli _ is (λ o. absurd cc) (at_done session 0 call_event.Close call_action.Nothing (at calls session) refl)
        (λ gone asks. never kind.Sli _ (λ o. absurd cc) (λ o. absurd cc) asks)
    faulty_done kind.Ocrq is about = record {
      live = λ other. absurd (other is);
      none = λ gone asks. refuses_done i why to t h;
      outgoing = λ ocrq. refuses_done i why to t h;
    }
    faulty_done kind.Sccrq is about = absurd about
    faulty_done kind.Sccrp is about = absurd about
    faulty_done kind.Scccn is about = absurd about
    faulty_done kind.StopCcn is about = absurd about
    faulty_done kind.Hello is about = absurd about
    faulty_done kind.Ocrp is about = absurd about
    faulty_done kind.Occn is about = absurd about
    faulty_done kind.Fsq is about = absurd about
    faulty_done kind.Fsr is about = absurd about

  -- of another letter: by the row of the tunnel's table
  tunnel_done : (g : TunnelFault) → TunnelIsDone tunnel i g (takes e.role e.config calls (fault_reason g.cause) g.event (tells_id g.remote) t).moves
  unfolding takes takes_by
  tunnel_done g = record {
    stopped = λ row.
        subst (λ x. IsStopped i 2 (Some (fault_error g.cause)) (takes_by e.role e.config calls (fault_reason g.cause) (tells_id g.remote) x t).moves)
        (sym (ap (λ s. row_of rows s g.event) same ∙ row))
        (branch (λ (u : Turn). IsStopped i 2 (Some (fault_error g.cause)) u.moves) (state_number t.control.state == 1) _ _
        (λ one. rejects_done i (fault_reason g.cause) calls g.remote state.Closed t h)
        (λ other. closes_done i (fault_reason g.cause) calls t.control.remote state.Closed t h));
    cleaned = λ row.
        subst (λ x. (m : ClosedBy) × Among (move.ClosedBy m) (takes_by e.role e.config calls (fault_reason g.cause) (tells_id g.remote) x t).moves × (m.tunnel ≡ i))
        (sym (ap (λ s. row_of rows s g.event) same ∙ row)) (closed_by_done i calls state.Closed t h);
  }

  -- ---- by what the body says

  module _ (body : List ℕ) where
    abbrev Said : Result Message Why → Turn → Type 0
    Said r u = LetterIsDone e tunnel i session (call_fault_in body) (tunnel_fault_in body) r u.moves

    faults_done : (w : Why) (o : Option CallFault) → call_fault_in body ≡ o → (p : Option TunnelFault)
        → FaultsAreDone e tunnel i session o p (hears_faulty e.role e.config calls session o p w t).moves
    unfolding hears_faulty in_faulty_call
    faults_done w (Some f) is p = λ is_open.
        in_open (λ u. FaultIsDone e tunnel i session f u.moves) _ _ is_open (faulty_done f f.kind refl (call_fault body f is).about)
    faults_done w None is (Some g) = tunnel_done g
    faults_done w None is None = tt

    said_done : (r : Result Message Why) → Said r (hears_said e.role e.config calls session (call_fault_in body) (tunnel_fault_in body) r t)
    unfolding hears_said hears in_call about_call
    said_done (Err w) = faults_done w (call_fault_in body) refl (tunnel_fault_in body)
    said_done (Ok (Icrq remote serial calling)) = λ is_open.
        in_open (Row session call_event.IcrqAcc out_of_state) _ _ is_open
        (icrq_done remote (granted e.role calls remote t.ids.sessions) (at calls session) refl)
    said_done (Ok (Icrp remote)) = λ is_open.
        in_open (Row session call_event.IcrpAcc out_of_state) _ _ is_open (icrp_done remote (at calls session) refl)
    said_done (Ok (Iccn speed framing sequenced)) = λ is_open.
        in_open (Row session call_event.IccnAcc out_of_state) _ _ is_open (iccn_done sequenced (at calls session) refl)
    said_done (Ok (Sccrq o)) = tt
    said_done (Ok (Sccrp o)) = tt
    said_done (Ok (Scccn response)) = tt
    said_done (Ok (StopCcn id code error)) = tt
    said_done (Ok Hello) = tt
    said_done (Ok (Ocrq remote)) = tt
    said_done (Ok Ocrp) = tt
    said_done (Ok Occn) = tt
    said_done (Ok (Cdn remote code error)) = tt
    said_done (Ok Wen) = tt
    said_done (Ok Sli) = tt
    said_done (Ok (Fsq sessions)) = tt
    said_done (Ok (Fsr sessions)) = tt

    pub next_done : is_closed tunnel.control.state ≡ false → Said (message_in body) (hears_next e.role e.config calls session body t)
    unfolding hears_next
    next_done live =
        branch (Said (message_in body)) (is_closed t.control.state) _ _
        (λ closed. absurd (true≢false (sym closed ∙ (ap is_closed same ∙ live))))
        (λ yes. said_done (message_in body))

-- ---- each step

module _ (e : End) (kept : AreKept e) (sound : AreSound e) (moment : ℕ) (block : List ℕ) (ev : Event) (r : BringsNext e ev) where
  abbrev body_of_it : List ℕ
  body_of_it = r.letter.body

  abbrev IsDone : List Move → Type 0
  IsDone ms = LetterIsDone e r.tunnel r.id r.letter.header.session (call_fault_in body_of_it) (tunnel_fault_in body_of_it) (message_in body_of_it) ms

  -- where it is taken
  abbrev Good : List Move → List Out → Type 0
  Good ms outs = IsTaken e moment ev r ms → IsDone ms

  abbrev read_turn : Turn
  read_turn = reads_nr (unwrap_or r.letter.header.nr 0) (turn_in r.tunnel (env_of e moment block))

  abbrev heard : Turn
  heard = hears_letter e.role e.config r.tunnel.calls r.letter.header.session body_of_it (Some Next) read_turn

  heard_done : IsTaken e moment ev r heard.moves → IsDone heard.moves
  unfolding hears_letter reads_nr with_move drops with_output
  heard_done =
      branch (λ (u : Turn). IsTaken e moment ev r u.moves → IsDone u.moves)
      (may_take (counts_acked (unwrap_or r.letter.header.nr 0) moment r.tunnel.control) r.tunnel.calls) _ _
      (λ may is. next_done e r.id r.tunnel r.letter.header.session read_turn
      (record {
        local = (kept.tunnels r.id r.tunnel r.there).local;
        room = spare_room (counts_acked (unwrap_or r.letter.header.nr 0) moment r.tunnel.control) r.tunnel.calls may;
        current = r.current;
      })
      refl (λ s c live. sound r.id r.tunnel r.there s c live) body_of_it r.live)
      (λ full is. ⊎_elim
      (λ may. absurd (true≢false (sym may ∙ full)))
      (λ plain. ⊎_elim (λ read. absurd cc) (λ none. absurd none) plain.1)
      is)

  settled_taken : IsTaken e moment ev r (settles false r.tunnel.letters heard).moves → IsTaken e moment ev r heard.moves
  settled_taken is = ⊎_elim
      (λ may. inl may)
      (λ plain. inr (plain.0, settled_less false r.tunnel.letters heard (move.TookPlain plain.0) refl plain.1))
      is

  settled_good : Good (settles false r.tunnel.letters heard).moves (settles false r.tunnel.letters heard).outputs
  settled_good is =
      letter_more heard.moves (settles false r.tunnel.letters heard).moves (settled_more false r.tunnel.letters heard)
      e r.tunnel r.id r.letter.header.session (call_fault_in body_of_it) (tunnel_fault_in body_of_it) (message_in body_of_it) (heard_done (settled_taken is))

  all_done : Good (plain_step e moment block ev).moves (plain_step e moment block ev).outputs
  all_done = reached e kept moment block ev r.id r.tunnel r.there r.current r.letter r.next r.named Good settled_good

pub tables_are_done : TablesAreDone
tables_are_done e kept sound moment block ev r taken = all_done e kept sound moment block ev r taken
