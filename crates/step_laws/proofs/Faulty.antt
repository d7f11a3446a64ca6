-- A faulty letter about a call is answered as the call's table says.
use Rattle.std.proofs.Common.{◌≡◌, ℕ, List, refl, sym, ap, ◌∙◌, Option, Some, None, Ok, Err}
use Rattle.std.proofs.lemmas.Bool.{eqb-true}
use Rattle.std.specs.Prelude.{◌==◌, unwrap_or}
use Rattle.id_table.specs.Ids.{at}
use Rattle.wire_base.specs.declared.why.Why.{Why}
use Rattle.wire_base.specs.declared.why.Why.TheVariants as why
use Rattle.wire_base.specs.declared.letter.Letter.{Letter}
use Rattle.control_message.specs.declared.kind.Kind.{Kind}
use Rattle.control_message.specs.declared.kind.Kind.TheVariants as kind
use Rattle.tunnel_fsm.specs.Rows.{state_number}
use Rattle.call_fsm.specs.declared.table.CallAction.{CallAction}
use Rattle.call_fsm.specs.declared.table.CallAction.TheVariants as call_action
use Rattle.call_fsm.specs.declared.table.CallEvent.{CallEvent}
use Rattle.call_fsm.specs.declared.table.CallEvent.TheVariants as call_event
use Rattle.end_model.specs.declared.tunnel.Call.{Call}
use Rattle.end_names.specs.declared.role.Role.{Role}
use Rattle.end_names.specs.declared.role.Role.TheVariants.{Lac, Lns}
use Rattle.end_model.specs.declared.event.Event.{Event}
use Rattle.end_model.specs.Reading.{message_in, CallFault, call_fault_in}
use Rattle.end_model.specs.Calls.{call_row, row_of_none}
use Rattle.end_model.specs.Tunnels.{Turn, Recovering}
use Rattle.end_model.specs.Reasons.{fault_reason}
use Rattle.end_model.specs.Sending.{takes_plain, takes_one, ignores}
use Rattle.end_model.specs.Turn.{with_move}
use Rattle.end_model.specs.Refusing.{refuses}
use Rattle.end_model.specs.Asking.{session_named}
use Rattle.end_model.specs.Faulty.{faulty_at, faulty, in_faulty_call}
use Rattle.end_model.specs.End.{End}
use Rattle.step_laws.specs.Causes.{CameFaulty, Stands}
use Rattle.step_laws.specs.Moves.{Came, IsNext, HasFault, IsWrong, fault_event}
use Rattle.step_laws.proofs.Lists.{branch}
use Rattle.step_laws.proofs.Tells.{body_other}
use Rattle.step_laws.proofs.Faults.{IsOfCall, call_fault, fault_stands}
use Rattle.step_laws.proofs.Turns.{PlainAt, ignores_ok}
use Rattle.step_laws.proofs.Settling.{Settled, unsent}
use Rattle.step_laws.proofs.Comes.{Taking, to_still, begun, now, next_first, spare_first}
use Rattle.step_laws.proofs.Closing.{Ends}
use Rattle.step_laws.proofs.Calls.{untold_of_end, answers_ok, refuses_ok, none_ok}

-- no end tells of a connection for a call that there isn't
untold_of_connection : (r : Role) → (row_of_none r call_event.IccnNotAcc).1 ≡ call_action.SendCdn → ⊥
unfolding call_row
untold_of_connection Lac h = absurd cc
untold_of_connection Lns h = absurd cc

module _ (e : End) (moment : ℕ) (ev : Event) (letters : List Letter) (calls : List (ℕ × Call)) (recovery : Option Recovering) (i : ℕ) where
  abbrev Good : Turn → Type 0
  Good t = Settled e moment ev letters calls recovery i t

  module _ (t : Turn) (f : Taking e moment ev letters calls recovery i t) (k : Came) (next : IsNext ev (now e moment ev letters calls recovery i t) k) (w : Why)
      (unread : message_in k.body ≡ Err w) where
    -- it is no message
    pub unread_plain : PlainAt e moment ev letters calls recovery i t
    unread_plain = record {
      letter = k;
      next = next;
      why = λ m reads. let both : Err w ≡ Ok m = sym unread ∙ reads in absurd cc;
      spare = λ live. spare_first e moment ev letters calls recovery i t f;
    }

    passed_over : (v : Why) → (v ≡ why.Queue → ⊥) → Good (ignores v t)
    passed_over v other = unsent e moment ev letters calls recovery i _ (ignores_ok e moment ev letters calls recovery i v (λ q. absurd (other q)) t unread_plain f.fresh.good)

    module _ (is_open : state_number t.control.state ≡ 3) (g : CallFault) (has : call_fault_in k.body ≡ Some g) where
      -- the fault, in the tunnel as it goes on
      faulty_in : (s : ℕ) (c : Call) (on : CallEvent) → on ≡ fault_event g.kind
          → Ends e moment ev letters calls recovery i (takes_plain t) s c on (fault_reason g.cause).result (fault_reason g.cause).error
      unfolding takes_plain with_move takes_one
      faulty_in s c on is =
          HasFault k.header.session g (record {
            letter = k;
            comes = to_still ev k t.control _ refl refl refl next.comes;
            says = record { session_is = refl; fault = has };
          }) is refl refl

      of_call : IsOfCall k.body g
      of_call = call_fault k.body g has

      fault_came : CameFaulty e ev g.cause
      fault_came = record {
        id = i;
        tunnel = begun e moment ev letters calls recovery i t f.fresh;
        there = f.fresh.there;
        current = f.fresh.good.current;
        open_is = ap state_number f.fresh.state ∙ is_open;
        letter = k;
        next = next_first e moment ev letters calls recovery i t f.fresh k next;
        kind = g.kind;
        is_of = of_call.kind;
        about = of_call.about;
        fault = of_call.fault;
        answered = of_call.answered;
      }

      stands : Stands e moment ev g.cause
      stands = fault_stands e moment ev g.cause of_call.cause fault_came

      refuses_fault : (remote : ℕ) → remote ≡ unwrap_or g.session 0 → Good (refuses (fault_reason g.cause) remote t)
      refuses_fault remote is =
          refuses_ok e moment ev letters calls recovery i (fault_reason g.cause) stands remote t f is_open k next (λ m to result error. IsWrong g has (to ∙ is) result error)

      faulty_at_ok : (s remote : ℕ) (on : CallEvent) (none : CallAction) → on ≡ fault_event g.kind
          → (none ≡ call_action.SendCdn → Good (refuses (fault_reason g.cause) remote t)) → (o : Option Call) → at calls s ≡ o
          → Good (faulty_at e.role (fault_reason g.cause) s remote on none o t)
      unfolding faulty_at
      faulty_at_ok s remote on none is says None found =
          none_ok e moment ev letters calls recovery i (fault_reason g.cause) remote none t f unread_plain says
      faulty_at_ok s remote on none is says (Some c) found =
          answers_ok e moment ev letters calls recovery i (fault_reason g.cause) s c on t f found unread_plain (faulty_in s c on is) (λ told. stands)

      -- a WEN, an SLI, or a message that is about no call
      closed_ok : call_event.Close ≡ fault_event g.kind
          → Good (faulty_at e.role (fault_reason g.cause) k.header.session 0 call_event.Close call_action.Nothing (at calls k.header.session) t)
      closed_ok is =
          faulty_at_ok k.header.session 0 call_event.Close call_action.Nothing is (λ told. absurd cc) (at calls k.header.session) refl

      faulty_ok : (q : Kind) → g.kind ≡ q → Good (faulty e.role calls k.header.session q g.cause g.session t)
      unfolding faulty
      faulty_ok kind.Icrq is =
          faulty_at_ok k.header.session (unwrap_or g.session 0) call_event.IcrqNotAcc call_action.SendCdn (ap fault_event (sym is))
          (λ told. refuses_fault (unwrap_or g.session 0) refl) (at calls k.header.session) refl
      faulty_ok kind.Ocrq is = refuses_fault (unwrap_or g.session 0) refl
      faulty_ok kind.Icrp is =
          faulty_at_ok k.header.session (unwrap_or g.session 0) call_event.IcrpNotAcc (row_of_none e.role call_event.IcrpNotAcc).1
          (ap fault_event (sym is)) (λ told. refuses_fault (unwrap_or g.session 0) refl) (at calls k.header.session) refl
      faulty_ok kind.Iccn is =
          faulty_at_ok k.header.session 0 call_event.IccnNotAcc (row_of_none e.role call_event.IccnNotAcc).1
          (ap fault_event (sym is)) (λ told. absurd (untold_of_connection e.role told)) (at calls k.header.session) refl
      faulty_ok kind.Cdn is =
          let s = session_named calls k.header.session (unwrap_or g.session 0) in
          faulty_at_ok s 0 call_event.Close (row_of_none e.role call_event.CdnCame).1
          (ap fault_event (sym is)) (λ told. absurd (untold_of_end e.role told)) (at calls s) refl
      faulty_ok kind.Wen is = closed_ok (ap fault_event (sym is))
      faulty_ok kind.Sli is = closed_ok (ap fault_event (sym is))
      faulty_ok kind.Sccrq is = closed_ok (ap fault_event (sym is))
      faulty_ok kind.Sccrp is = closed_ok (ap fault_event (sym is))
      faulty_ok kind.Scccn is = closed_ok (ap fault_event (sym is))
      faulty_ok kind.StopCcn is = closed_ok (ap fault_event (sym is))
      faulty_ok kind.Hello is = closed_ok (ap fault_event (sym is))
      faulty_ok kind.Ocrp is = closed_ok (ap fault_event (sym is))
      faulty_ok kind.Occn is = closed_ok (ap fault_event (sym is))
      faulty_ok kind.Fsq is = closed_ok (ap fault_event (sym is))
      faulty_ok kind.Fsr is = closed_ok (ap fault_event (sym is))

    -- one of an unknown type that need not be understood
    pub unknown_ok : Good (ignores w t)
    unknown_ok = passed_over w (body_other k.body w unread)

    pub in_faulty_call_ok : (g : CallFault) → call_fault_in k.body ≡ Some g
        → Good (in_faulty_call e.role calls k.header.session g t)
    unfolding in_faulty_call
    in_faulty_call_ok g has =
        branch Good (state_number t.control.state == 3) _ _
        (λ is. faulty_ok (eqb-true (state_number t.control.state) 3 is) g has g.kind refl)
        (λ closed. passed_over why.Session (λ q. absurd cc))
