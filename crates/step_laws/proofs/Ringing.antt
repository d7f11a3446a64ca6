-- What comes of a ring: a call is born, or nothing is done and a cause is told.
use Rattle.step_laws.proofs.Callers.{turns_ring, ring_no_tick}
use Rattle.step_laws.specs.Callers.{IsRing}
use Rattle.std.proofs.Common.{◌≡◌, ◌⊎◌, ⊎_elim, ℕ, true, false, List, [], refl, sym, ◌∙◌, subst, arith, Some, Result, Ok, Err}
use Rattle.std.proofs.lemmas.Bool.{true≢false, eq-eqb, eqb-true}
use Rattle.std.specs.Prelude.{◌==◌}
use Rattle.std.specs.List.{flat_map}
use Rattle.id_table.specs.Ids.{at}
use Rattle.id_source.specs.Spaces.{takes_id}
use Rattle.id_source.specs.declared.IdError.{IdError}
use Rattle.wire_base.specs.declared.cause.Cause.{Cause as CauseOf}
use Rattle.wire_base.specs.declared.cause.Cause.TheVariants as cause
use Rattle.wire_base.specs.declared.letter.Letter.{Letter}
use Rattle.tunnel_fsm.specs.declared.table.TunnelState.{TunnelState}
use Rattle.tunnel_fsm.specs.declared.table.TunnelState.TheVariants.{WaitCtlReply, Established}
use Rattle.tunnel_fsm.specs.Rows.{state_number}
use Rattle.call_fsm.specs.declared.table.CallEvent.TheVariants as call_event
use Rattle.end_model.specs.declared.event.Event.{Event}
use Rattle.end_names.specs.declared.role.Role.TheVariants.{Lac}
use Rattle.end_model.specs.declared.out.Out.TheVariants.{Cause}
use Rattle.end_model.specs.Calls.{call_row, advanced, rung, is_request, are_too_many}
use Rattle.end_model.specs.Tunnels.{Env, Turn, Tunnel, turn_of, turn_in}
use Rattle.end_model.specs.Turn.{with_output, with_move, with_change, with_call, with_new}
use Rattle.end_model.specs.Openings.{with_local, fresh, opened}
use Rattle.end_model.specs.Sending.{gives, gives_as, settles}
use Rattle.end_model.specs.Channels.{has_room, may_take}
use Rattle.end_model.specs.Ringing.{requested, requests, adds, rings_over, rings_by, rings_within, rings_new, rings}
use Rattle.end_model.specs.Events.{turns}
use Rattle.end_model.specs.End.{End, Stepped, env_of, gives_only, after_turn, after_new, in_new, has_all_tunnels, in_one_more, in_main}
use Rattle.step_laws.specs.Room.{IsLeast, HasNone, IsRecovering}
use Rattle.step_laws.specs.Steps.{AreKept}
use Rattle.step_laws.specs.Answers.{ring_of_move, cause_of_output, RingIsAnswered, IsAsked, Waits, Opens, IsRefused}
use Rattle.step_laws.proofs.Lists.{branch}
use Rattle.step_laws.proofs.Owing.{spare_room}
use Rattle.step_laws.proofs.States.{rung_asks}
use Rattle.step_laws.proofs.Still.{settled_done, settled_told}
use Rattle.end_model.specs.Recovering.{recovering_turns}

module _ (e : End) (kept : AreKept e) (lac : e.role ≡ Lac) (moment : ℕ) (block : List ℕ) (who : List ℕ) (ev : Event) (ring : IsRing ev who) where
  abbrev env : Env
  env = env_of e moment block

  -- what a turn has done and told, as that of a step
  abbrev of_turn : Turn → Stepped
  of_turn u = record { end = e; outputs = u.outputs; moves = u.moves }

  abbrev Answers : Turn → Type 0
  Answers u = RingIsAnswered e who (of_turn u)

  -- it is the same of a step that made the same moves of a ring, and told the same causes
  same_ring : (s z : Stepped) → flat_map ring_of_move z.moves ≡ flat_map ring_of_move s.moves
      → flat_map cause_of_output z.outputs ≡ flat_map cause_of_output s.outputs → RingIsAnswered e who s → RingIsAnswered e who z
  same_ring s z done told (IsAsked a q is born least tunnel session at_port) = IsAsked a q (done ∙ is) born least tunnel session at_port
  same_ring s z done told (Waits a is born none least) = Waits a (done ∙ is) born none least
  same_ring s z done told (Opens o a is born drawn peer tunnel no_open no_opening none) = Opens o a (done ∙ is) born drawn peer tunnel no_open no_opening none
  same_ring s z done told (IsRefused c is one) = IsRefused c (done ∙ is) (told ∙ one)

  settled_ring : (letters : List Letter) (u : Turn) → Answers u → Answers (settles false letters u)
  settled_ring letters u h =
      same_ring (of_turn u) (of_turn (settles false letters u)) (settled_done ring_of_move (λ m. refl) (λ i. refl) false letters u)
      (settled_told cause_of_output (λ peer bytes o. refl) false letters u) h

  -- ---- over a tunnel that is there

  module _ (i : ℕ) (t : Tunnel) (there : at e.tunnels i ≡ Some t)
      (goes : ((state_number t.control.state ≡ 3) × IsLeast e Established i) ⊎ ((state_number t.control.state ≡ 1) × HasNone e Established × IsLeast e WaitCtlReply i)) where
    abbrev start : Turn
    start = turn_in t env

    refused_ring : (c : CauseOf) → Answers (with_output (Cause c) start)
    unfolding with_output
    refused_ring c = IsRefused c refl refl

    -- under its own id
    here : (s : TunnelState) → IsLeast e s i → IsLeast e s t.control.local
    here s least = subst (λ n. IsLeast e s n) (sym (kept.tunnels i t there).local) least

    open_least : state_number t.control.state ≡ 3 → IsLeast e Established i
    open_least is =
        ⊎_elim
        (λ (both : (state_number t.control.state ≡ 3) × IsLeast e Established i). both.1)
        (λ waits. absurd (let opening = waits.0 in omega arith))
        goes

    asked_ring : (s : ℕ) → takes_id e.session_ids ≡ Ok s → may_take t.control t.calls ≡ true → state_number t.control.state ≡ 3
        → Answers (requests e.role e.config s (rung e.role who moment) (adds e.role who s start))
    unfolding requests requested gives_as with_change with_move with_call adds with_new rung advanced
    asked_ring s drawn may is =
        branch Answers (is_request (call_row e.role (rung e.role who moment).state call_event.TunnelOpen).1) _ _
        (λ row. branch Answers (has_room t.control) _ _
        (λ room. IsAsked _ _ refl (record { drawn = drawn; subscriber_is = refl }) (here Established (open_least is)) refl refl refl)
        (λ full. absurd (true≢false (sym (spare_room t.control t.calls may) ∙ full))))
        (λ none. absurd (true≢false (sym (rung_asks e.role who moment lac) ∙ none)))

    waits_ring : (s : ℕ) → takes_id e.session_ids ≡ Ok s → (state_number t.control.state ≡ 3 → ⊥) → Answers (adds e.role who s start)
    unfolding adds with_move with_new
    waits_ring s drawn other =
        ⊎_elim
        (λ (both : (state_number t.control.state ≡ 3) × IsLeast e Established i). absurd (other both.0))
        (λ waits. Waits _ refl (record { drawn = drawn; subscriber_is = refl }) waits.1 (here WaitCtlReply waits.2))
        goes

    drawn_ring : may_take t.control t.calls ≡ true → (r : Result ℕ IdError) → takes_id e.session_ids ≡ r → Answers (rings_by e.role e.config who r start)
    unfolding rings_by rings_over
    drawn_ring may (Err x) drawn = refused_ring cause.Ids
    drawn_ring may (Ok s) drawn =
        branch Answers (state_number t.control.state == 3) _ _
        (λ is. asked_ring s drawn may (eqb-true (state_number t.control.state) 3 is))
        (λ other. waits_ring s drawn (λ is. true≢false (sym (eq-eqb (state_number t.control.state) 3 is) ∙ other)))

    busy : state_number t.control.state ≡ 0 → ⊥
    busy zero = (kept.tunnels i t there).busy zero

    rung_ring : Answers (turns e.role e.config t.letters t.calls ev start)
    unfolding rings rings_within
    rung_ring =
        subst Answers (sym (turns_ring e.role e.config t.letters t.calls ev who start ring))
        (settled_ring t.letters _
        (branch Answers (state_number t.control.state == 0) _ _
        (λ zero. absurd (busy (eqb-true (state_number t.control.state) 0 zero)))
        (λ some. branch Answers (are_too_many t.calls) _ _
        (λ many. refused_ring cause.Calls)
        (λ few. branch Answers (may_take t.control t.calls) _ _
        (λ may. drawn_ring may (takes_id e.session_ids) refl)
        (λ full. refused_ring cause.Queue)))))

    pub main_ring : RingIsAnswered e who (in_main e env ev i (Some t))
    unfolding in_main after_turn recovering_turns
    main_ring = rw (ring_no_tick ev who ring) (same_ring (of_turn (turns e.role e.config t.letters t.calls ev start)) _ refl refl rung_ring)

  -- ---- over a tunnel that is opened for it

  abbrev blank : Turn
  blank = turn_of (fresh e.config.lns moment) env

  refused_new : (c : CauseOf) → Answers (with_output (Cause c) blank)
  unfolding with_output
  refused_new c = IsRefused c refl refl

  opened_ring : HasNone e Established → HasNone e WaitCtlReply → (IsRecovering e → ⊥) → (s i : ℕ) → takes_id e.session_ids ≡ Ok s → takes_id e.tunnel_ids ≡ Ok i
      → Answers (adds e.role who s (opened e.role e.config i blank))
  unfolding adds with_new opened gives with_move with_local
  opened_ring no_open no_opening none s i drawn got = Opens _ _ refl (record { drawn = drawn; subscriber_is = refl }) got refl refl no_open no_opening none

  new_ring : HasNone e Established → HasNone e WaitCtlReply → (IsRecovering e → ⊥) → (r q : Result ℕ IdError) → takes_id e.session_ids ≡ r → takes_id e.tunnel_ids ≡ q
      → Answers (rings_new e.role e.config who r q blank)
  unfolding rings_new
  new_ring no_open no_opening none (Err x) q drawn got = refused_new cause.Ids
  new_ring no_open no_opening none (Ok s) (Err x) drawn got = refused_new cause.Ids
  new_ring no_open no_opening none (Ok s) (Ok i) drawn got =
      branch Answers (has_room blank.control) (adds e.role who s (opened e.role e.config i blank)) (with_output (Cause cause.Queue) blank)
      (λ may. opened_ring no_open no_opening none s i drawn got)
      (λ full. refused_new cause.Queue)

  made_ring : HasNone e Established → HasNone e WaitCtlReply → (IsRecovering e → ⊥) → Answers (turns e.role e.config [] [] ev blank)
  unfolding rings
  made_ring no_open no_opening none =
      subst Answers (sym (turns_ring e.role e.config [] [] ev who blank ring))
      (settled_ring [] _ (new_ring no_open no_opening none (takes_id e.session_ids) (takes_id e.tunnel_ids) refl refl))

  abbrev IsRung : Stepped → Type 0
  IsRung s = RingIsAnswered e who s

  pub one_more_ring : HasNone e Established → HasNone e WaitCtlReply → (IsRecovering e → ⊥) → IsRung (in_one_more e env ev e.config.lns (Cause cause.Tunnels))
  unfolding in_one_more gives_only in_new after_new after_turn
  one_more_ring no_open no_opening none =
      let u = turns e.role e.config [] [] ev blank in
      let made = made_ring no_open no_opening none in
      branch IsRung (has_all_tunnels e.tunnels) _ _
      (λ all. IsRefused cause.Tunnels refl refl)
      (λ fewer. branch IsRung (u.control.local == 0) _ _
      (λ zero. same_ring (of_turn u) _ refl refl made)
      (λ some. same_ring (of_turn u) _ refl refl made))
