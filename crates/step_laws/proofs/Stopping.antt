-- A letter that closes its tunnel: one that its table has no good use for, one that has a fault, or a StopCCN.
use Rattle.std.proofs.Common.{◌≡◌, inl, inr, ⊎_elim, ℕ, Bool, true, false, cond, List, refl, sym, ap, ◌∙◌, subst, Option, Some, None, Err, arith}
use Rattle.std.proofs.lemmas.Bool.{eqb-false, eqb-true, true≢false}
use Rattle.std.specs.Prelude.{◌==◌}
use Rattle.id_table.specs.Ids.{ids_of}
use Rattle.wire_base.specs.declared.why.Why.{Why as WhyOf}
use Rattle.wire_base.specs.declared.letter.Letter.{Letter}
use Rattle.wire_base.specs.declared.pair.Pair.{Pair}
use Rattle.control_message.specs.declared.message.Message.{Message}
use Rattle.control_message.specs.declared.message.Message.TheVariants.{Sccrq, Sccrp, Scccn, StopCcn, Hello, Ocrq, Ocrp, Occn, Icrq, Icrp, Iccn, Cdn, Wen, Sli, Fsq, Fsr}
use Rattle.control_message.specs.declared.message.Opening.{Opening}
use Rattle.tunnel_fsm.specs.declared.table.TunnelState.{TunnelState}
use Rattle.tunnel_fsm.specs.declared.table.TunnelState.TheVariants as state
use Rattle.tunnel_fsm.specs.declared.table.TunnelEvent.{TunnelEvent}
use Rattle.tunnel_fsm.specs.declared.table.TunnelEvent.TheVariants as event
use Rattle.tunnel_fsm.specs.declared.table.TunnelAction.{TunnelAction}
use Rattle.tunnel_fsm.specs.declared.table.TunnelAction.TheVariants as action
use Rattle.tunnel_fsm.specs.Rows.{rows, row_of, state_number}
use Rattle.end_model.specs.declared.tunnel.Call.{Call}
use Rattle.end_model.specs.declared.event.Event.{Event}
use Rattle.end_model.specs.Reading.{message_in, CallFault, call_fault_in, TunnelFault, tunnel_fault_in}
use Rattle.end_model.specs.Tunnels.{Tunnel, Turn, Recovering}
use Rattle.end_model.specs.Reasons.{Reason, out_of_order, not_asked, fault_reason, no_secret}
use Rattle.end_model.specs.Querying.{told_at}
use Rattle.end_model.specs.Moments.{is_closed}
use Rattle.end_model.specs.Messages.{is_acceptable, event_by, opening_reason, Told, tells_id, told_by}
use Rattle.end_model.specs.Turn.{with_output, with_move}
use Rattle.end_model.specs.Sending.{gives, takes_plain}
use Rattle.end_model.specs.Stopping.{shuts, closed_told, closes_tunnel}
use Rattle.end_model.specs.Channels.{has_room}
use Rattle.end_model.specs.Events.{tunnel_after}
use Rattle.end_model.specs.Hearing.{takes_by, takes, hears_faulty}
use Rattle.end_model.specs.End.{End}
use Rattle.end_model.specs.Secrets.{is_wrong}
use Rattle.step_laws.specs.Causes.{IsClosedOn, InSccrq, InSccrp, AnSccrq, AnSccrp, AnScccn, AsksInVain, AnswersWrongly, Stands}
use Rattle.step_laws.proofs.Secrets.{right_of, wrong_of, right_if_unasked}
use Rattle.step_laws.specs.Moves.{Came, IsNext, LetterCloses, ByLetter, HearsNext, IsPlain, SaysStop, BySccrq, BySccrp, ByScccn, ByUnasked, ByFault, WronglyConnected, ComesUnawaited}
use Rattle.step_laws.proofs.Faults.{IsEventOfFault, of_tunnel, closing_stands}
use Rattle.step_laws.proofs.Turns.{TurnOk, PlainAt, at_turn, is_roomy, plain_ok}
use Rattle.step_laws.proofs.Lists.{branch}
use Rattle.step_laws.proofs.Settling.{Settled, unsent}
use Rattle.step_laws.proofs.Known.{sccrq_opens_none, sccrp_opens_none}
use Rattle.step_laws.proofs.Openings.{closes_in, opening_stands}
use Rattle.step_laws.proofs.Comes.{Taking, now, begun, next_still, next_first, hears_first, spare_first}
use Rattle.step_laws.proofs.Shutting.{all_ended_is, rejects_ok, Why, told_ok, heard_shut_ok}
use Rattle.step_laws.proofs.Faulty.{unknown_ok, in_faulty_call_ok}

-- ---- rows of the tunnel's table

-- the row that closes a tunnel, and has its peer told
abbrev pub shut_row : TunnelState × TunnelAction
shut_row = (state.Closed, action.SendStopCcn)

-- events that close each tunnel that is neither idle nor closed
abbrev pub Shuts : TunnelEvent → Type 0
Shuts event.SccrqAcc = Unit {0}
Shuts event.SccrqNotAcc = Unit {0}
Shuts event.SccrpNotAcc = Unit {0}
Shuts event.ScccnNotAcc = Unit {0}
Shuts event.AdminClose = Unit {0}
Shuts on = ⊥

pub row_shut : (s : TunnelState) (on : TunnelEvent) → (state_number s ≡ 0 → ⊥) → is_closed s ≡ false → Shuts on → row_of rows s on ≡ shut_row
row_shut state.Idle on busy live shuts = absurd (busy refl)
row_shut state.Closed on busy live shuts = absurd (true≢false live)
row_shut state.WaitCtlReply event.SccrqAcc busy live shuts = refl
row_shut state.WaitCtlReply event.SccrqNotAcc busy live shuts = refl
row_shut state.WaitCtlReply event.SccrpNotAcc busy live shuts = refl
row_shut state.WaitCtlReply event.ScccnNotAcc busy live shuts = refl
row_shut state.WaitCtlReply event.AdminClose busy live shuts = refl
row_shut state.WaitCtlReply event.LocalOpen busy live shuts = absurd shuts
row_shut state.WaitCtlReply event.SccrpAcc busy live shuts = absurd shuts
row_shut state.WaitCtlReply event.ScccnAcc busy live shuts = absurd shuts
row_shut state.WaitCtlReply event.StopCcnCame busy live shuts = absurd shuts
row_shut state.WaitCtlConn event.SccrqAcc busy live shuts = refl
row_shut state.WaitCtlConn event.SccrqNotAcc busy live shuts = refl
row_shut state.WaitCtlConn event.SccrpNotAcc busy live shuts = refl
row_shut state.WaitCtlConn event.ScccnNotAcc busy live shuts = refl
row_shut state.WaitCtlConn event.AdminClose busy live shuts = refl
row_shut state.WaitCtlConn event.LocalOpen busy live shuts = absurd shuts
row_shut state.WaitCtlConn event.SccrpAcc busy live shuts = absurd shuts
row_shut state.WaitCtlConn event.ScccnAcc busy live shuts = absurd shuts
row_shut state.WaitCtlConn event.StopCcnCame busy live shuts = absurd shuts
row_shut state.Established event.SccrqAcc busy live shuts = refl
row_shut state.Established event.SccrqNotAcc busy live shuts = refl
row_shut state.Established event.SccrpNotAcc busy live shuts = refl
row_shut state.Established event.ScccnNotAcc busy live shuts = refl
row_shut state.Established event.AdminClose busy live shuts = refl
row_shut state.Established event.LocalOpen busy live shuts = absurd shuts
row_shut state.Established event.SccrpAcc busy live shuts = absurd shuts
row_shut state.Established event.ScccnAcc busy live shuts = absurd shuts
row_shut state.Established event.StopCcnCame busy live shuts = absurd shuts

-- a closed one stays as it is
pub row_shut_closed : (s : TunnelState) → is_closed s ≡ true → row_of rows s event.AdminClose ≡ (state.Closed, action.Nothing)
row_shut_closed state.Closed closed = refl
row_shut_closed state.Idle closed = absurd (true≢false (sym closed))
row_shut_closed state.WaitCtlReply closed = absurd (true≢false (sym closed))
row_shut_closed state.WaitCtlConn closed = absurd (true≢false (sym closed))
row_shut_closed state.Established closed = absurd (true≢false (sym closed))

-- an SCCRQ does, whether it is acceptable or not
row_sccrq : (secret : Option (List ℕ)) (s : TunnelState) (o : Opening) → (state_number s ≡ 0 → ⊥) → is_closed s ≡ false
    → row_of rows s (event_by event.SccrqAcc event.SccrqNotAcc secret None o) ≡ shut_row
row_sccrq secret s o busy live = by (is_acceptable secret None o)
  where
    by : (b : Bool) → row_of rows s (cond b event.SccrqAcc event.SccrqNotAcc) ≡ shut_row
    by true = row_shut s event.SccrqAcc busy live tt
    by false = row_shut s event.SccrqNotAcc busy live tt

-- an SCCRP closes one that doesn't wait for it, and an SCCCN too
row_unawaited : (s : TunnelState) → (state_number s ≡ 0 → ⊥) → is_closed s ≡ false → (state_number s ≡ 1 → ⊥)
    → row_of rows s event.SccrpAcc ≡ shut_row
row_unawaited state.Idle busy live other = absurd (busy refl)
row_unawaited state.Closed busy live other = absurd (true≢false live)
row_unawaited state.WaitCtlReply busy live other = absurd (other refl)
row_unawaited state.WaitCtlConn busy live other = refl
row_unawaited state.Established busy live other = refl

row_sccrp : (secret asked : Option (List ℕ)) (s : TunnelState) (o : Opening) → (state_number s ≡ 0 → ⊥) → is_closed s ≡ false
    → (state_number s ≡ 1 → is_acceptable secret asked o ≡ false) → row_of rows s (event_by event.SccrpAcc event.SccrpNotAcc secret asked o) ≡ shut_row
row_sccrp secret asked s o busy live plain = by (is_acceptable secret asked o) refl
  where
    by : (b : Bool) → is_acceptable secret asked o ≡ b → row_of rows s (cond b event.SccrpAcc event.SccrpNotAcc) ≡ shut_row
    by true good = row_unawaited s busy live (λ waits. true≢false (sym good ∙ plain waits))
    by false bad = row_shut s event.SccrpNotAcc busy live tt

row_scccn : (s : TunnelState) → (state_number s ≡ 0 → ⊥) → is_closed s ≡ false → (state_number s ≡ 2 → ⊥) → row_of rows s event.ScccnAcc ≡ shut_row
row_scccn state.Idle busy live other = absurd (busy refl)
row_scccn state.Closed busy live other = absurd (true≢false live)
row_scccn state.WaitCtlConn busy live other = absurd (other refl)
row_scccn state.WaitCtlReply busy live other = refl
row_scccn state.Established busy live other = refl

-- a StopCCN closes each tunnel
row_stop : (s : TunnelState) → row_of rows s event.StopCcnCame ≡ (state.Closed, action.CleanUp)
row_stop state.Idle = refl
row_stop state.WaitCtlReply = refl
row_stop state.WaitCtlConn = refl
row_stop state.Established = refl
row_stop state.Closed = refl

-- ---- a closed tunnel does nothing on a message

pub closed_plain : (x : End) (u : Tunnel) (session : ℕ) (m : Message) → is_closed u.control.state ≡ true → IsPlain x u session m
closed_plain x u session m closed = by (eqb-true (state_number u.control.state) 4 closed) m
  where
    by : state_number u.control.state ≡ 4 → (m : Message) → IsPlain x u session m
    by four (Sccrq o) = closed
    by four (Sccrp o) = closed
    by four (Scccn response) = closed
    by four (StopCcn tunnel code error) = closed
    by four Hello = tt
    by four (Ocrq remote) = λ n. omega (arith, four, n)
    by four Ocrp = tt
    by four Occn = tt
    by four (Icrq remote serial calling) = λ n. absurd (omega (arith, four, n))
    by four (Icrp remote) = λ n. absurd (omega (arith, four, n))
    by four (Iccn speed framing sequenced) = λ n. absurd (omega (arith, four, n))
    by four (Cdn remote code error) = λ n. absurd (omega (arith, four, n))
    by four Wen = tt
    by four Sli = tt
    by four (Fsq sessions) = λ n. omega (arith, four, n)
    by four (Fsr sessions) = closed

module _ (e : End) (moment : ℕ) (ev : Event) (letters : List Letter) (calls : List (ℕ × Call)) (recovery : Option Recovering) (i : ℕ) where
  abbrev Good : Turn → Type 0
  Good t = Settled e moment ev letters calls recovery i t

  abbrev Takes : Turn → Type 0
  Takes t = Taking e moment ev letters calls recovery i t

  abbrev begun_at : (t : Turn) → Takes t → Tunnel
  begun_at t f = begun e moment ev letters calls recovery i t f.fresh

  pub busy : (t : Turn) → Takes t → state_number t.control.state ≡ 0 → ⊥
  busy t f = f.fresh.good.stays.1

  -- the table has the tunnel closed, as it was before the step
  shut_on : (t : Turn) (f : Takes t) (on : TunnelEvent) → row_of rows t.control.state on ≡ shut_row → IsClosedOn e (begun_at t f) on
  shut_on t f on row = record { id = i; there = f.fresh.there; current = f.fresh.good.current; row = ap (λ s. row_of rows s on) f.fresh.state ∙ row }

  abbrev pub now_at : Turn → Tunnel
  now_at t = now e moment ev letters calls recovery i t

  came_in : (t : Turn) (f : Takes t) (session : ℕ) (m : Message) → HearsNext ev (now_at t) session m → HearsNext ev (begun_at t f) session m
  came_in t f session m hears = hears_first e moment ev letters calls recovery i t f.fresh session m hears

  -- ---- the tunnel is closed, and then the letter is taken, as a closed tunnel takes each

  abbrev told : Reason → Turn → Turn
  told r t = closed_told r calls t.control.remote state.Closed t

  comes_still : (r : Reason) (t : Turn) (k : Came) → IsNext ev (now_at t) k → IsNext ev (now_at (told r t)) k
  unfolding closed_told shuts gives with_output with_move
  comes_still r t k next =
      rw (all_ended_is (ids_of calls) _) (next_still ev k (now_at t) _ refl refl refl refl next)

  told_closed : (r : Reason) (t : Turn) → is_closed (told r t).control.state ≡ true
  unfolding closed_told shuts gives with_output with_move
  told_closed r t = rw (all_ended_is (ids_of calls) _) refl

  shut_plain : (r : Reason) (t : Turn) (k : Came) → IsNext ev (now_at t) k → PlainAt e moment ev letters calls recovery i (told r t)
  shut_plain r t k next = record {
    letter = k;
    next = comes_still r t k next;
    why = λ m reads. closed_plain (at_turn e moment ev letters calls recovery i (told r t)) (tunnel_after (told r t) letters calls recovery) k.header.session m (told_closed r t);
    spare = λ live. absurd (true≢false (sym (told_closed r t) ∙ live));
  }

  taken_shut_ok : (r : Reason) → Stands e moment ev r.cause → (on : TunnelEvent) (t : Turn) → Takes t → (k : Came) → IsNext ev (now_at t) k
      → row_of rows t.control.state on ≡ shut_row → Why e moment ev letters calls recovery i t on r t.control.remote
      → TurnOk e moment ev letters calls recovery i (takes_plain (closes_tunnel r calls t.control.remote state.Closed t))
  unfolding closes_tunnel
  taken_shut_ok r so on t f k next row why =
      branch (λ (u : Turn). TurnOk e moment ev letters calls recovery i (takes_plain u)) (has_room t.control) _ _
      (λ room. plain_ok e moment ev letters calls recovery i (told r t) (shut_plain r t k next)
      (told_ok e moment ev letters calls recovery i r so on t.control.remote t f.fresh.changed row why room f.fresh.good))
      (λ full. absurd (is_roomy e moment ev letters calls recovery i t f.live f.fresh.good full))

  -- why a letter closes it
  abbrev WhyLetter : Turn → Came → TunnelEvent → Reason → ℕ → Type 0
  WhyLetter t k on r told = LetterCloses e.config.secret t.control t.query k on told r.result r.error

  -- where it waits for its SCCRP the id that is told is learned; else the tunnel is closed, and then the letter is taken
  shuts_ok : (r : Reason) → Stands e moment ev r.cause → (on : TunnelEvent) (says : Told) (t : Turn) → Takes t
      → (k : Came) → IsNext ev (now_at t) k
      → row_of rows t.control.state on ≡ shut_row → WhyLetter t k on r says.remote
      → Good (takes_by e.role e.config calls r says (row_of rows t.control.state on) t)
  unfolding takes_by
  shuts_ok r so on says t f k next row why =
      subst (λ (x : TunnelState × TunnelAction). Good (takes_by e.role e.config calls r says x t)) (sym row)
      (branch Good (state_number t.control.state == 1) _ _
      (λ one. unsent e moment ev letters calls recovery i _
      (rejects_ok e moment ev letters calls recovery i r so on says.remote t f.fresh.changed f.live row (eqb-true (state_number t.control.state) 1 one) k next
      (spare_first e moment ev letters calls recovery i t f) why f.fresh.good))
      (λ two.
      let other = eqb-false (state_number t.control.state) 1 two in
      unsent e moment ev letters calls recovery i _
      (taken_shut_ok r so on t f k next row
      (λ m to known result error. ByLetter says.remote k next (spare_first e moment ev letters calls recovery i t f) (rw (result, error) why) other known))))

  -- ---- messages that the table has no good use for

  module _ (session : ℕ) (o : Opening) (t : Turn) (f : Takes t) where
    none_of : t.control.local ≡ i
    none_of = f.fresh.good.stays.0

    some_at : (begun_at t f).control.local ≡ 0 → ⊥
    some_at zero = f.fresh.some (sym none_of ∙ sym f.fresh.local ∙ zero)

    sccrq_stands : HearsNext ev (now_at t) session (Sccrq o)
        → IsClosedOn e (begun_at t f) (event_by event.SccrqAcc event.SccrqNotAcc e.config.secret None o)
        → Stands e moment ev (opening_reason e.config.secret None o).cause
    sccrq_stands hears =
        let came = came_in t f session (Sccrq o) hears in
        opening_stands e moment ev o event.SccrqAcc event.SccrqNotAcc (begun_at t f)
        (λ on. InSccrq (begun_at t f) session came on) None
        (λ good on. AnSccrq (begun_at t f) session o came good on)
        (λ failed. ⊎_elim (λ lacks. AsksInVain lacks) (λ wrong. absurd (wrong (right_if_unasked 2 e.config.secret o.response))) failed)
        (λ would. absurd (sccrq_opens_none e ev i (begun_at t f) f.fresh.there some_at session o came would))

    pub sccrq_ok : HearsNext ev (now_at t) session (Sccrq o)
        → Good (takes_by e.role e.config calls (opening_reason e.config.secret None o) (tells_id 0)
        (row_of rows t.control.state (event_by event.SccrqAcc event.SccrqNotAcc e.config.secret None o)) t)
    sccrq_ok hears =
        let on = event_by event.SccrqAcc event.SccrqNotAcc e.config.secret None o in
        let row = row_sccrq e.config.secret t.control.state o (busy t f) f.live in
        shuts_ok (opening_reason e.config.secret None o) (sccrq_stands hears (shut_on t f on row)) on (tells_id 0) t f
        hears.letter hears.next row (BySccrq o hears.says.said refl refl (closes_in e.config.secret None o _ _ refl refl))

    sccrp_stands : HearsNext ev (now_at t) session (Sccrp o)
        → IsClosedOn e (begun_at t f) (event_by event.SccrpAcc event.SccrpNotAcc e.config.secret t.control.challenge o)
        → Stands e moment ev (opening_reason e.config.secret t.control.challenge o).cause
    sccrp_stands hears =
        let came = came_in t f session (Sccrp o) hears in
        opening_stands e moment ev o event.SccrpAcc event.SccrpNotAcc (begun_at t f)
        (λ on. InSccrp (begun_at t f) session came on) t.control.challenge
        (λ good on. AnSccrp (begun_at t f) session o came (rw f.fresh.challenge good) on)
        (λ failed. ⊎_elim (λ lacks. AsksInVain lacks) (λ wrong. AnswersWrongly (begun_at t f) session came (rw f.fresh.challenge wrong)) failed)
        (λ would. absurd (sccrp_opens_none e ev i (begun_at t f) f.fresh.there some_at session o came o would))

    -- one that is acceptable closes no tunnel that waits for it
    pub sccrp_shut_ok : (state_number t.control.state ≡ 1 → is_acceptable e.config.secret t.control.challenge o ≡ false)
        → HearsNext ev (now_at t) session (Sccrp o)
        → Good (takes_by e.role e.config calls (opening_reason e.config.secret t.control.challenge o) (told_by o)
        (row_of rows t.control.state (event_by event.SccrpAcc event.SccrpNotAcc e.config.secret t.control.challenge o)) t)
    sccrp_shut_ok plain hears =
        let on = event_by event.SccrpAcc event.SccrpNotAcc e.config.secret t.control.challenge o in
        let row = row_sccrp e.config.secret t.control.challenge t.control.state o (busy t f) f.live plain in
        shuts_ok (opening_reason e.config.secret t.control.challenge o) (sccrp_stands hears (shut_on t f on row)) on (told_by o) t f
        hears.letter hears.next row (BySccrp o hears.says.said refl refl (closes_in e.config.secret t.control.challenge o _ _ refl refl))

  module _ (session : ℕ) (response : Option (List ℕ)) (t : Turn) (f : Takes t) where
    -- one that answers rightly closes a tunnel that doesn't wait for it
    pub scccn_shut_ok : (state_number t.control.state ≡ 2 → ⊥) → is_wrong 3 e.config.secret t.control.challenge response ≡ false
        → HearsNext ev (now_at t) session (Scccn response)
        → Good (takes_by e.role e.config calls out_of_order (tells_id 0) (row_of rows t.control.state event.ScccnAcc) t)
    scccn_shut_ok other is hears =
        let right = right_of 3 e.config.secret t.control.challenge response is in
        let row = row_scccn t.control.state (busy t f) f.live other in
        let so = inr (inl (AnScccn (begun_at t f) session response (came_in t f session (Scccn response) hears) (rw f.fresh.challenge right)
        (shut_on t f event.ScccnAcc row))) in
        shuts_ok out_of_order so event.ScccnAcc (tells_id 0) t f
        hears.letter hears.next row (ByScccn response hears.says.said refl (ComesUnawaited right refl refl refl))

    -- one that doesn't closes each tunnel
    pub scccn_wrong_ok : is_wrong 3 e.config.secret t.control.challenge response ≡ true → HearsNext ev (now_at t) session (Scccn response)
        → Good (takes_by e.role e.config calls no_secret (tells_id 0) (row_of rows t.control.state event.ScccnNotAcc) t)
    scccn_wrong_ok is hears =
        let wrong = wrong_of 3 e.config.secret t.control.challenge response is in
        let row = row_shut t.control.state event.ScccnNotAcc (busy t f) f.live tt in
        let so = inr (inl (record {
          tunnel = begun_at t f;
          session = session;
          response = response;
          came = came_in t f session (Scccn response) hears;
          wrong = rw f.fresh.challenge wrong;
          closed = shut_on t f event.ScccnNotAcc row;
        })) in
        shuts_ok no_secret so event.ScccnNotAcc (tells_id 0) t f
        hears.letter hears.next row (ByScccn response hears.says.said refl (WronglyConnected wrong refl refl refl))

  -- ---- answers that weren't asked for

  pub unasked_ok : (session : ℕ) (answers : List Pair) (place : ℕ) (t : Turn) → Takes t → HearsNext ev (now_at t) session (Fsr answers)
      → told_at t.control.state t.query answers ≡ Err place
      → Good (takes_by e.role e.config calls not_asked (tells_id 0) (row_of rows t.control.state event.AdminClose) t)
  unasked_ok session answers place t f hears differs =
      let row = row_shut t.control.state event.AdminClose (busy t f) f.live tt in
      shuts_ok not_asked (record {
        tunnel = begun_at t f;
        session = session;
        answers = answers;
        came = came_in t f session (Fsr answers) hears;
        place = place;
        differs = ap (λ s. told_at s t.query answers) f.fresh.state ∙ differs;
        closed = shut_on t f event.AdminClose row;
      }) event.AdminClose (tells_id 0) t f hears.letter hears.next row (ByUnasked answers place hears.says.said differs refl refl refl refl)

  -- ---- StopCCNs

  says_stop_ok : (r : Reason) (says : Told) (t : Turn) → Takes t → (k : Came) → IsNext ev (now_at t) k → SaysStop k.body
      → Good (takes_by e.role e.config calls r says (row_of rows t.control.state event.StopCcnCame) t)
  unfolding takes_by
  says_stop_ok r says t f k next stops =
      subst (λ (x : TunnelState × TunnelAction). Good (takes_by e.role e.config calls r says x t)) (sym (row_stop t.control.state))
      (unsent e moment ev letters calls recovery i _ (heard_shut_ok e moment ev letters calls recovery i t f.fresh.changed f.live k next (spare_first e moment ev letters calls recovery i t f) stops f.fresh.good))

  pub stop_ok : (session id code : ℕ) (error : Option ℕ) (t : Turn) → Takes t → HearsNext ev (now_at t) session (StopCcn id code error)
      → Good (takes_by e.role e.config calls out_of_order (tells_id 0) (row_of rows t.control.state event.StopCcnCame) t)
  stop_ok session id code error t f hears =
      says_stop_ok out_of_order (tells_id 0) t f hears.letter hears.next (inl (id, code, error, hears.says.said))

  -- ---- messages that have a fault

  module _ (t : Turn) (f : Takes t) (k : Came) (next : IsNext ev (now_at t) k) (w : WhyOf) (unread : message_in k.body ≡ Err w) where
    module _ (g : TunnelFault) (has : tunnel_fault_in k.body ≡ Some g) where
      fault_stands : row_of rows t.control.state g.event ≡ shut_row → Stands e moment ev g.cause
      fault_stands row =
          let is = of_tunnel k.body g has in
          closing_stands e moment ev g.cause is.cause (record {
            tunnel = begun_at t f;
            letter = k;
            next = next_first e moment ev letters calls recovery i t f.fresh k next;
            fault = is.fault;
            on = g.event;
            event_is = is.event_is;
            closed = shut_on t f g.event row;
            unanswered = is.unanswered;
          })

      fault_shuts_ok : row_of rows t.control.state g.event ≡ shut_row
          → Good (takes_by e.role e.config calls (fault_reason g.cause) (tells_id g.remote) (row_of rows t.control.state g.event) t)
      fault_shuts_ok row =
          shuts_ok (fault_reason g.cause) (fault_stands row) g.event (tells_id g.remote) t f k next row (ByFault g has refl refl refl refl)

      -- by the event that it is to the table
      fault_ok : (on : TunnelEvent) → g.event ≡ on → IsEventOfFault on
          → Good (takes_by e.role e.config calls (fault_reason g.cause) (tells_id g.remote) (row_of rows t.control.state g.event) t)
      fault_ok event.StopCcnCame is so =
          subst (λ x. Good (takes_by e.role e.config calls (fault_reason g.cause) (tells_id g.remote) (row_of rows t.control.state x) t)) (sym is)
          (says_stop_ok (fault_reason g.cause) (tells_id g.remote) t f k next (inr (g, has, is)))
      fault_ok event.SccrqNotAcc is so = fault_shuts_ok (rw is (row_shut t.control.state event.SccrqNotAcc (busy t f) f.live tt))
      fault_ok event.SccrpNotAcc is so = fault_shuts_ok (rw is (row_shut t.control.state event.SccrpNotAcc (busy t f) f.live tt))
      fault_ok event.ScccnNotAcc is so = fault_shuts_ok (rw is (row_shut t.control.state event.ScccnNotAcc (busy t f) f.live tt))
      fault_ok event.AdminClose is so = fault_shuts_ok (rw is (row_shut t.control.state event.AdminClose (busy t f) f.live tt))
      fault_ok event.LocalOpen is so = absurd so
      fault_ok event.SccrqAcc is so = absurd so
      fault_ok event.SccrpAcc is so = absurd so
      fault_ok event.ScccnAcc is so = absurd so

    pub faulty_heard_ok : (o : Option CallFault) → call_fault_in k.body ≡ o
        → (q : Option TunnelFault) → tunnel_fault_in k.body ≡ q
        → Good (hears_faulty e.role e.config calls k.header.session o q w t)
    unfolding hears_faulty takes
    faulty_heard_ok (Some c) has q is = in_faulty_call_ok e moment ev letters calls recovery i t f k next w unread c has
    faulty_heard_ok None has (Some g) is = fault_ok g is g.event refl (of_tunnel k.body g is).event
    faulty_heard_ok None has None is = unknown_ok e moment ev letters calls recovery i t f k next w unread
