-- Each step answers the request that it takes, and the ring that comes.
use Rattle.step_laws.specs.Callers.{IsRing}
use Rattle.std.proofs.Common.{◌≡◌, inl, inr, ℕ, true, false, List, [], ◌∷◌, length, refl, sym, ap, ◌∙◌, subst, Option, Some, None, Ok, Err, arith, ◌⊎◌, ◌<◌, ◌≤◌}
use Rattle.std.proofs.lemmas.Bool.{true≢false}
use Rattle.std.proofs.lemmas.Bool.Decides.{nat_tests}
use Rattle.std.proofs.lemmas.Option.{none-some}
use Rattle.std.specs.Prelude.{unwrap_or, nat_le}
use Rattle.id_table.specs.Ids.{at}
use Rattle.id_source.specs.Spaces.{takes_id}
use Rattle.id_source.specs.declared.IdError.{IdError}
use Rattle.wire_base.specs.declared.cause.Cause.{Cause as CauseOf}
use Rattle.l2tp_header.specs.declared.header.Header.{Header}
use Rattle.control_message.specs.declared.message.Message.TheVariants.{Icrq}
use Rattle.recv_window.specs.declared.Class.TheVariants.{Next}
use Rattle.tunnel_fsm.specs.declared.table.TunnelState.TheVariants.{WaitCtlReply, Established}
use Rattle.tunnel_fsm.specs.Rows.{state_number}
use Rattle.end_model.specs.declared.tunnel.Call.{Call}
use Rattle.end_names.specs.declared.role.Role.TheVariants.{Lac, Lns}
use Rattle.end_model.specs.declared.event.Event.{Event}
use Rattle.end_model.specs.declared.event.Event.TheVariants.{Datagram, Ring, Frame, Admitted, Payload, Lower, Lcp, Hang, OpenTunnel, DropCall, CloseTunnel, Tick}
use Rattle.end_model.specs.declared.moves.Move.{Move}
use Rattle.end_model.specs.Reading.{message_in}
use Rattle.end_model.specs.Calls.{is_lac}
use Rattle.end_model.specs.Tunnels.{Env, Turn, Tunnel, turn_in}
use Rattle.end_model.specs.Turn.{with_move}
use Rattle.end_model.specs.Sending.{reads_nr}
use Rattle.end_model.specs.Hearing.{hears_letter}
use Rattle.end_model.specs.Channels.{may_take, counts_acked}
use Rattle.end_model.specs.End.{End, Stepped, env_of, in_main, least_in, rings_in, rings_at, only_by, step_in, plain_step, gives_only, are_recovering}
use Rattle.step_laws.specs.Moves.{GrantsCall, DeniesCall, AsksItself, HasUsedId, HasAllCalls, HasNoSession}
use Rattle.step_laws.specs.Causes.{MayBeGranted}
use Rattle.step_laws.specs.Left.{AreSound, AreAsked}
use Rattle.step_laws.specs.Steps.{AreKept}
use Rattle.step_laws.specs.Answers.{causes_of, cause_of_denial, Incoming, TakesRequest, IsReply, AnswersIcrq, WithReply, WithRefusal, WithEnd, IsAnswer, IsAnswered, IsRepliedTo, GrantedAreRepliedTo, RingIsAnswered, RequestsAreAnswered, IsRefusedTo, NewAreJudged, IsRefused}
use Rattle.step_laws.proofs.Lists.{branch}
use Rattle.step_laws.proofs.Owing.{spare_room}
use Rattle.step_laws.proofs.Answering.{open_not, OneAnswer, settled_answer, next_once}
use Rattle.step_laws.proofs.Reaching.{reached}
use Rattle.step_laws.proofs.Chosen.{least_is, least_open, least_opening, none_open, none_opening, none_recover}
use Rattle.step_laws.proofs.Ringing.{main_ring, one_more_ring}
use Rattle.wire_base.specs.declared.cause.Cause.TheVariants as cause

-- ---- requests

module _ (e : End) (kept : AreKept e) (sound : AreSound e) (asked : AreAsked e) (moment : ℕ) (block : List ℕ) where
  abbrev env : Env
  env = env_of e moment block

  module _ (ev : Event) (r : TakesRequest e moment ev) where
    abbrev t : Tunnel
    t = r.tunnel

    abbrev header : Header
    header = r.letter.header

    abbrev body : List ℕ
    body = r.letter.body

    -- the turn once Nr is read
    abbrev read_turn : Turn
    read_turn = reads_nr (unwrap_or header.nr 0) (turn_in t env)

    abbrev Right : List CauseOf → Move → Type 0
    Right told m = IsAnswer e r.id t header.session body r.request told m

    abbrev heard : Turn
    heard = hears_letter e.role e.config t.calls header.session body (Some Next) read_turn

    taken_right : OneAnswer Right heard.moves heard.outputs
    unfolding hears_letter reads_nr with_move
    taken_right =
        branch (λ (u : Turn). OneAnswer Right u.moves u.outputs) (may_take (counts_acked (unwrap_or header.nr 0) moment t.control) t.calls) _ _
        (λ may. next_once e r.id t header.session read_turn
        (record {
          none = refl;
          untold = refl;
          local = (kept.tunnels r.id t r.there).local;
          room = spare_room (counts_acked (unwrap_or header.nr 0) moment t.control) t.calls r.spare;
          state = r.open_is;
          current = r.current;
        })
        refl (λ s c live. sound r.id t r.there s c live)
        (λ s c live. asked r.id t r.there (λ one. open_one one) s c live) body r.request)
        (λ full. absurd (true≢false (sym r.spare ∙ full)))
      where
        open_one : state_number t.control.state ≡ 1 → ⊥
        open_one one = open_not (state_number t.control.state) 1 r.open_is one (λ f. omega (arith, f))

    step_right : OneAnswer Right (plain_step e moment block ev).moves (plain_step e moment block ev).outputs
    step_right =
        reached e kept moment block ev r.id t r.there r.current r.letter r.next r.named (OneAnswer Right)
        (settled_answer Right false t.letters heard taken_right)

  pub request_answered : (ev : Event) (r : TakesRequest e moment ev) → IsAnswered e moment ev r (plain_step e moment block ev)
  request_answered ev r = let h = step_right ev r in record { answer = h.answer; only = h.only; right = h.right }

few_tested : (n : ℕ) → n < 4096 → nat_le 4096 n ≡ false
few_tested n few = grind (arith, nat_tests)

many_tested : (n : ℕ) → 4096 ≤ n → nat_le 4096 n ≡ true
many_tested n many = grind (arith, nat_tests)

-- ---- what is granted, and what isn't

module _ (e : End) (t : Tunnel) (remote : ℕ) where
  may_be : (s : ℕ) → GrantsCall e t remote s → MayBeGranted e t remote
  may_be s g = record {
    takes = λ (lac : e.role ≡ Lac). (let lns = g.lns in let two : Lac ≡ Lns = sym lac ∙ lns in absurd cc);
    free = g.free;
    few = few_tested (length t.calls) g.few;
    ids = λ (x : IdError) (none : takes_id e.session_ids ≡ Err x). (let drawn = g.drawn in absurd cc);
  }

  not_denied : (result : ℕ) (error : Option ℕ) → MayBeGranted e t remote → DeniesCall e t remote result error → ⊥
  not_denied result error may (AsksItself lac r x) = may.takes lac
  not_denied result error may (HasUsedId lns used r x) = may.free used
  not_denied result error may (HasAllCalls lns free many r x) = true≢false (sym (many_tested (length t.calls) many) ∙ may.few)
  not_denied result error may (HasNoSession lns free few y none r x) = may.ids y none

-- the same codes have the same cause
same_denial : (e : End) (t : Tunnel) (remote result : ℕ) (error : Option ℕ) (x : ℕ) (y : Option ℕ) → x ≡ result → y ≡ error
    → (d : DeniesCall e t remote result error)
    → (f : DeniesCall e t remote x y) × (cause_of_denial e t remote x y f ≡ cause_of_denial e t remote result error d)
same_denial e t remote result error x y is by (AsksItself lac r z) = (AsksItself lac (is ∙ r) (by ∙ z), refl)
same_denial e t remote result error x y is by (HasUsedId lns used r z) = (HasUsedId lns used (is ∙ r) (by ∙ z), refl)
same_denial e t remote result error x y is by (HasAllCalls lns free many r z) = (HasAllCalls lns free many (is ∙ r) (by ∙ z), refl)
same_denial e t remote result error x y is by (HasNoSession lns free few q none r z) = (HasNoSession lns free few q none (is ∙ r) (by ∙ z), refl)

-- ---- each step

module _ (e : End) (kept : AreKept e) (sound : AreSound e) (asked : AreAsked e) (moment : ℕ) (block : List ℕ) (ev : Event) where
  abbrev stepped : Stepped
  stepped = plain_step e moment block ev

  abbrev RepliedAt : ℕ → ℕ → List CauseOf → Move → Type 0
  RepliedAt id remote told m = (s : ℕ) × (takes_id e.session_ids ≡ Ok s) × IsReply id remote s m × (told ≡ [])

  replied_to : (id remote : ℕ) → (h : OneAnswer (RepliedAt id remote) stepped.moves stepped.outputs) → IsRepliedTo e id remote stepped
  replied_to id remote h =
      let a = h.right.2 in
      record {
        untold = h.right.3;
        replied = a.replied;
        only = h.only ∙ ap (λ (m : Move). m ∷ []) a.is;
        tunnel = a.tunnel;
        remote_is = a.remote_is;
        drawn = h.right.1 ∙ ap (λ s. Ok s) (sym a.session_is);
      }

  -- what an ICRQ that names no call is answered by
  module _ (r : TakesRequest e moment ev) (remote serial : ℕ) (calling : Option (List ℕ))
      (said : message_in r.letter.body ≡ Ok (Icrq remote serial calling))
      (none : at r.tunnel.calls r.letter.header.session ≡ None) where
    abbrev Answer : List CauseOf → Move → Type 0
    Answer told m = AnswersIcrq e r.id r.tunnel r.letter.header.session remote told m

    abbrev told : List CauseOf
    told = causes_of stepped.outputs

    new_answered : OneAnswer Answer stepped.moves stepped.outputs
    new_answered =
        let q : TakesRequest e moment ev = record {
          id = r.id;
          tunnel = r.tunnel;
          there = r.there;
          open_is = r.open_is;
          current = r.current;
          letter = r.letter;
          next = r.next;
          named = r.named;
          spare = r.spare;
          request = Incoming remote serial calling said;
        } in
        let h = request_answered e kept sound asked moment block ev q in
        record { answer = h.answer; only = h.only; right = h.right }

    -- no call is named
    named_none : (c : Call) → at r.tunnel.calls r.letter.header.session ≡ Some c → ⊥
    named_none c named = none-some c (sym none ∙ named)

    new_replied : MayBeGranted e r.tunnel remote → IsRepliedTo e r.id remote stepped
    new_replied may = by new_answered.right
      where
        by : Answer told new_answered.answer → IsRepliedTo e r.id remote stepped
        by (WithReply drawn unnamed grants untold reply) =
            replied_to r.id remote (record { answer = new_answered.answer; only = new_answered.only; right = (drawn, grants.drawn, reply, untold) })
        by (WithRefusal result error unnamed denies is refusal) = absurd (not_denied e r.tunnel remote result error may denies)
        by (WithEnd c named is end) = absurd (named_none c named)

    new_judged : (MayBeGranted e r.tunnel remote × IsRepliedTo e r.id remote stepped) ⊎ IsRefusedTo e r.tunnel r.id remote stepped
    new_judged = by new_answered.right
      where
        by : Answer told new_answered.answer → (MayBeGranted e r.tunnel remote × IsRepliedTo e r.id remote stepped) ⊎ IsRefusedTo e r.tunnel r.id remote stepped
        by (WithReply drawn unnamed grants untold reply) = let may = may_be e r.tunnel remote drawn grants in inl (may, new_replied may)
        by (WithRefusal result error unnamed denies is a) =
            let d = same_denial e r.tunnel remote result error a.refused.result a.refused.error a.result_is a.error_is denies in
            inr (record {
              refused = a.refused;
              only = new_answered.only ∙ ap (λ (m : Move). m ∷ []) a.is;
              tunnel = a.tunnel;
              remote_is = a.remote_is;
              denied = d.0;
              told = is ∙ ap (λ c. c ∷ []) (sym d.1);
            })
        by (WithEnd c named is end) = absurd (named_none c named)

  granted_answered : GrantedAreRepliedTo e moment ev stepped
  granted_answered r remote serial calling said none may = new_replied r remote serial calling said none may

  judged : NewAreJudged e moment ev stepped
  judged r remote serial calling said none = new_judged r remote serial calling said none

module _ (e : End) (kept : AreKept e) (moment : ℕ) (block : List ℕ) (who : List ℕ) (lac : e.role ≡ Lac) where
  abbrev Rung : Stepped → Type 0
  Rung s = RingIsAnswered e who s

  rung_in : (ev : Event) → IsRing ev who → (open_one opening : Option ℕ) → least_in Established e.config.lns e.tunnels ≡ open_one
      → least_in WaitCtlReply e.config.lns e.tunnels ≡ opening → Rung (rings_in e (env_of e moment block) ev open_one opening)
  unfolding rings_in gives_only
  rung_in ev ring (Some i) opening is next =
      let least = least_open e kept i is in
      subst (λ o. Rung (in_main e (env_of e moment block) ev i o)) (sym least.there)
      (main_ring e kept lac moment block who ev ring i least.tunnel least.there (inl ((least_is e Established i least least.tunnel least.there).0, least)))
  rung_in ev ring None (Some i) is next =
      let least = least_opening e kept i next in
      subst (λ o. Rung (in_main e (env_of e moment block) ev i o)) (sym least.there)
      (main_ring e kept lac moment block who ev ring i least.tunnel least.there
      (inr ((least_is e WaitCtlReply i least least.tunnel least.there).0, none_open e kept is, least)))
  rung_in ev ring None None is next =
      branch Rung (are_recovering e.config.lns e.tunnels) _ _
      (λ some. IsRefused cause.Recovering refl refl)
      (λ none. one_more_ring e kept lac moment block who ev ring (none_open e kept is) (none_opening e kept next) (none_recover e kept none))

  rung_lac : (ev : Event) → IsRing ev who → Rung (only_by Lac e (rings_at e (env_of e moment block) ev))
  unfolding only_by rings_at
  rung_lac ev ring =
      branch Rung (is_lac e.role) _ _
      (λ yes. rung_in ev ring (least_in Established e.config.lns e.tunnels) (least_in WaitCtlReply e.config.lns e.tunnels) refl refl)
      (λ no. absurd (true≢false (sym (rw lac refl) ∙ no)))

  rung_step : (ev : Event) → IsRing ev who → Rung (plain_step e moment block ev)
  unfolding plain_step step_in
  rung_step (Ring port) ring = rung_lac (Ring port) ring
  rung_step (Admitted mac) ring = rung_lac (Admitted mac) ring
  rung_step (Datagram peer bytes) ring = absurd cc
  rung_step (Frame bytes) ring = absurd cc
  rung_step (Payload s frame) ring = absurd cc
  rung_step (Lower s frame) ring = absurd cc
  rung_step (Lcp s packet) ring = absurd cc
  rung_step (Hang s) ring = absurd cc
  rung_step OpenTunnel ring = absurd cc
  rung_step (DropCall s) ring = absurd cc
  rung_step (CloseTunnel i) ring = absurd cc
  rung_step Tick ring = absurd cc

pub requests_are_answered : RequestsAreAnswered
requests_are_answered e kept sound asked moment block ev = record {
  requests = request_answered e kept sound asked moment block ev;
  granted = granted_answered e kept sound asked moment block ev;
  judged = judged e kept sound asked moment block ev;
  rings = λ who is lac. rung_step e kept moment block who lac ev is;
}
