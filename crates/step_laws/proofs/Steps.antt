-- Each step of an end is a chain of moves.
use Rattle.end_names.specs.Names.{subscriber}
use Rattle.step_laws.specs.Callers.{IsRing, LacWants}
use Rattle.std.proofs.Common.{◌≡◌, ◌⊎◌, inl, inr, ℕ, Bool, true, false, List, [], ◌∷◌, length, refl, sym, ap, ◌∙◌, subst, Option, Some, None, Result, Ok, Err, is_some, ⊎_elim}
use Rattle.std.proofs.lemmas.Bool.{eqb-true, true≢false}
use Rattle.std.specs.Prelude.{◌==◌, ◌||◌, nat_lt, not, option_map}
use Rattle.id_table.specs.Ids.{at, ids_of}
use Rattle.wire_base.specs.declared.why.Why.{Why}
use Rattle.wire_base.specs.declared.why.Why.TheVariants as why
use Rattle.wire_base.specs.declared.cause.Cause.TheVariants as cause
use Rattle.wire_base.specs.declared.letter.Side.{Side}
use Rattle.wire_base.specs.declared.letter.Side.TheVariants as side
use Rattle.l2tp_header.specs.declared.header.Header.{Header}
use Rattle.l2tp_header.specs.declared.header.HeaderError.{HeaderError}
use Rattle.l2tp_header.specs.Reading.{header_of, body_of}
use Rattle.tunnel_fsm.specs.declared.table.TunnelState.TheVariants.{WaitCtlReply, Established}
use Rattle.tunnel_fsm.specs.Rows.{state_number}
use Rattle.end_model.specs.declared.tunnel.CallPlace.{CallPlace}
use Rattle.session_looks.specs.declared.look.Look.{Look}
use Rattle.session_looks.specs.declared.look.Look.TheVariants as look
use Rattle.end_names.specs.declared.role.Role.{Role}
use Rattle.end_names.specs.declared.role.Role.TheVariants.{Lac, Lns}
use Rattle.end_model.specs.declared.event.Addressee.{Addressee}
use Rattle.end_model.specs.declared.event.Addressee.TheVariants.{Opens, Stops, Answers, Main, Nobody, Recovers, Recovery}
use Rattle.end_model.specs.declared.event.Event.{Event}
use Rattle.end_model.specs.declared.event.Event.TheVariants.{Datagram, Ring, Payload, Lower, Lcp, Hang, OpenTunnel, DropCall, CloseTunnel, Tick, Admitted, Frame}
use Rattle.end_model.specs.declared.out.Out.{Out}
use Rattle.end_model.specs.declared.out.Out.TheVariants.{Up, Drop, Cause}
use Rattle.end_model.specs.declared.moves.Move.{Move}
use Rattle.end_model.specs.declared.moves.Move.TheVariants as move
use Rattle.session_looks.specs.Frames.{header_why, frame_of, is_lcp, is_for_lcp, lns_side, side_of, Carried, Upward, Dropped, carry_known, carry_look}
use Rattle.end_model.specs.Reading.{at_zero, at_tunnel}
use Rattle.end_model.specs.Calls.{is_lac}
use Rattle.end_model.specs.Tunnels.{Tunnel, Env, turn_in, Recovering, ByAttempt, ByAnswer, connection_of, mode_of, is_current}
use Rattle.end_model.specs.Events.{turns}
use Rattle.end_model.specs.End.{End, Stepped, env_of, in_new, in_one_more, in_main, is_known, known_as, opened_before, stopped_at, opens_once, addressed, for_addressee, least_in, rings_in, rings_at, for_call, look_in, behind, then_heard, handed, hands_up, receives, only_by, step_in, plain_step, after_both, in_recovery, is_line, has_line, recovered_by, answers_to, is_answered, answered_to, answered_before, at_line, at_recovery, are_recovering}
use Rattle.step_laws.specs.Links.{HearsFrame, HearsLcp, Passes, AsAll, AsLcp}
use Rattle.step_laws.specs.Letters.{HasOutput}
use Rattle.step_laws.specs.Moves.{has_all_tunnels, Does, Came, CameIn, ComesToLine}
use Rattle.step_laws.specs.Room.{IsChosen, StepsRefuseTruly, RingsNew}
use Rattle.step_laws.specs.Causes.{CausesStand}
use Rattle.step_laws.specs.Steps.{AreKept, IsOfMoves, StepsAreChains}
use Rattle.step_laws.proofs.Lists.{not_false, branch, found_passes, and_left, and_right}
use Rattle.step_laws.proofs.Tells.{Tells, of_all, header_other}
use Rattle.step_laws.proofs.Zero.{SaysOpening, ZeroSays, zero_says}
use Rattle.step_laws.proofs.Known.{known_peer, known_remote, none_answered}
use Rattle.step_laws.proofs.Chosen.{least_is, least_open, least_opening, none_open, none_opening, some_recover, none_recover}
use Rattle.step_laws.proofs.Declining.{answer_chain, asks_chain, recovers_chain}
use Rattle.step_laws.proofs.Sending.{both_chain}
use Rattle.step_laws.proofs.Ticks.{ticks_chain}
use Rattle.step_laws.proofs.Leaving.{IsStep, drop_chain, cause_chain}
use Rattle.step_laws.proofs.Ends.{IsTo, heard_chain, rung_chain, hung_chain, closes_chain, shut_chain, carries_chain, lcp_chain, opens_chain, rings_chain}
use Rattle.end_model.specs.Recovering.{recovering_turns, hears_recovery}
use Rattle.step_laws.proofs.Callers.{ring_no_tick}
use Rattle.step_laws.proofs.Recovered.{IsNamedBy, line_leads, line_none}

is_lac_role : (r : Role) → is_lac r ≡ true → r ≡ Lac
is_lac_role Lac h = refl
is_lac_role Lns h = absurd (true≢false (sym h))

-- ---- frames that come

-- what is handed up is of the tunnel that the header names and of the peer that it is from, as is seen of the call
pub record IsOf (role : Role) (l : Look) (of from : ℕ) (frame : List ℕ) (c : Carried) : Type 0 where
  pub up : (tunnel peer : ℕ) (side : Side) (f : List ℕ) → c ≡ Upward tunnel peer side f
      → (tunnel ≡ of) × (peer ≡ from) × (f ≡ frame) × (side ≡ side_of role f) × Passes role l tunnel peer f
  pub down : (w : Why) → c ≡ Dropped w → w ≡ why.Queue → ⊥

dropped_is : (role : Role) (l : Look) (of from : ℕ) (frame : List ℕ) (w : Why) → (w ≡ why.Queue → ⊥) → IsOf role l of from frame (Dropped w)
dropped_is role l of from frame w other = record { up = λ t p s f e. absurd cc; down = λ v e q. let same : w ≡ v = cc in other (same ∙ q) }

-- where it passes
known_passes : (role : Role) (l : Look) (up : Bool) (tunnel peer : ℕ) (frame : List ℕ) → (up ≡ true → l ≡ look.Established tunnel peer)
    → (up ≡ false → l ≡ look.Bound tunnel peer) → (up || is_for_lcp role frame) ≡ true → Passes role l tunnel peer frame
known_passes role l true tunnel peer frame seen bound may = AsAll (seen refl)
known_passes Lac l false tunnel peer frame seen bound may = absurd (true≢false (sym may))
known_passes Lns l false tunnel peer frame seen bound may = AsLcp (bound refl) refl may

known_is : (role : Role) (l : Look) (up : Bool) (tunnel of peer from : ℕ) (frame : List ℕ) → (up ≡ true → l ≡ look.Established tunnel peer)
    → (up ≡ false → l ≡ look.Bound tunnel peer) → IsOf role l of from frame (carry_known role up tunnel of peer from frame)
unfolding carry_known
known_is role l up tunnel of peer from frame seen bound =
    branch (IsOf role l of from frame) (not (tunnel == of)) _ _ (λ h. dropped_is role l of from frame why.Tunnel (λ q. absurd cc))
    (λ same. branch (IsOf role l of from frame) (not (peer == from)) _ _ (λ h. dropped_is role l of from frame why.Peer (λ q. absurd cc))
    (λ met. branch (IsOf role l of from frame) (nat_lt (length frame) 2) _ _ (λ h. dropped_is role l of from frame why.Short (λ q. absurd cc))
    (λ long. branch (IsOf role l of from frame) (up || is_for_lcp role frame) _ _
    (λ u. record {
      up = λ t p s f e.
          let a = eqb-true tunnel of (not_false _ same) in
          let b = eqb-true peer from (not_false _ met) in
          let c : tunnel ≡ t = cc in
          let d : peer ≡ p = cc in
          let g : frame ≡ f = cc in
          let i : side_of role frame ≡ s = cc in
          let passes = known_passes role l up tunnel peer frame seen bound u in (
            sym c ∙ a,
            sym d ∙ b,
            sym g,
            sym i ∙ ap (side_of role) g,
            subst (Passes role l t p) g (subst (λ x. Passes role l x p frame) c (subst (λ y. Passes role l tunnel y frame) d passes)),
          );
      down = λ w e. absurd cc;
    })
    (λ d. dropped_is role l of from frame why.Closed (λ q. absurd cc)))))

pub look_is : (role : Role) (l : Look) (from : ℕ) (h : Header) (frame : List ℕ) → IsOf role l h.tunnel from frame (carry_look role l from h frame)
unfolding carry_look
look_is role look.Unborn from h frame = dropped_is role look.Unborn h.tunnel from frame why.Session (λ q. absurd cc)
look_is role look.Dead from h frame = dropped_is role look.Dead h.tunnel from frame why.Session (λ q. absurd cc)
look_is role (look.Bound tunnel peer) from h frame =
    known_is role (look.Bound tunnel peer) false tunnel h.tunnel peer from frame (λ no. absurd cc) (λ yes. refl)
look_is role (look.Established tunnel peer) from h frame =
    known_is role (look.Established tunnel peer) true tunnel h.tunnel peer from frame (λ yes. refl) (λ no. absurd cc)

-- a session of which something is seen has its place
pub record IsSeen (role : Role) (places : List (ℕ × CallPlace)) (s tunnel peer : ℕ) (frame : List ℕ) : Type 0 where
  pub place : CallPlace
  pub there : at places s ≡ Some place
  pub seen : Passes role place.look tunnel peer frame

-- what nothing is seen of passes nothing
none_passes : (role : Role) (tunnel peer : ℕ) (frame : List ℕ) → Passes role look.Unborn tunnel peer frame → ⊥
none_passes role tunnel peer frame (AsAll is) = absurd cc
none_passes role tunnel peer frame (AsLcp is lns lcp) = absurd cc

pub place_seen : (role : Role) (places : List (ℕ × CallPlace)) (s tunnel peer : ℕ) (frame : List ℕ) (o : Option CallPlace) → at places s ≡ o
    → Passes role (look_in o) tunnel peer frame → IsSeen role places s tunnel peer frame
place_seen role places s tunnel peer frame None is e = absurd (none_passes role tunnel peer frame e)
place_seen role places s tunnel peer frame (Some p) is e = record { place = p; there = is; seen = e }

lns_side_lcp : (b : Bool) → lns_side b ≡ side.Lcp → b ≡ true
lns_side_lcp true e = refl
lns_side_lcp false e = absurd cc

-- what goes to the LCP end is a packet of LCP
pub side_lcp : (role : Role) (frame : List ℕ) → side_of role frame ≡ side.Lcp → is_lcp frame ≡ true
side_lcp Lac frame e = absurd cc
side_lcp Lns frame e = lns_side_lcp (is_lcp frame) e

module _ (e : End) (kept : AreKept e) (moment : ℕ) (block : List ℕ) where
  abbrev env : Env
  env = env_of e moment block

  -- a move that changes nothing, before the others
  behind_chain : (ev : Event) (o : Out) (m : Move) (s : Stepped) → Does e moment ev m e → IsOfMoves moment ev e (m ∷ []) e o → HasOutput (o ∷ []) m
      → Tells e moment ev o → IsStep e moment ev s → IsStep e moment ev (behind o m s)
  behind_chain ev o m s does of has tells h = record {
    chain = both_chain moment ev e (record { end = e; outputs = o ∷ []; moves = m ∷ [] }) s
        (record { chain = (e, does, refl); outputs = (of, tt); frames = (has, tt); kept = kept }) h.chain;
    tells = (tells, h.tells);
  }

  -- a packet of LCP is heard in its call
  lcp_heard : (ev : Event) (s peer i : ℕ) (frame : List ℕ) (o : Option Tunnel) → at e.tunnels i ≡ o
      → HearsLcp ev peer i s frame → IsStep e moment ev (in_main e env (Lcp s frame) i o)
  unfolding in_main recovering_turns
  lcp_heard ev s peer i frame None is hears = drop_chain e kept moment ev why.Tunnel (λ q. absurd cc)
  lcp_heard ev s peer i frame (Some t) is hears =
      lcp_chain e kept moment ev block i t is s peer frame (subst (λ j. HearsLcp ev peer j s frame) (sym (kept.tunnels i t is).local) hears)

  then_chain : (ev : Event) (s peer tunnel : ℕ) (frame : List ℕ) (x : Side) → (x ≡ side.Lcp → HearsLcp ev peer tunnel s frame)
      → IsStep e moment ev (then_heard e env tunnel s frame x)
  unfolding then_heard
  then_chain ev s peer tunnel frame side.Sub hears = record { chain = record { chain = refl; outputs = tt; frames = tt; kept = kept }; tells = tt }
  then_chain ev s peer tunnel frame side.Net hears = record { chain = record { chain = refl; outputs = tt; frames = tt; kept = kept }; tells = tt }
  then_chain ev s peer tunnel frame side.Lcp hears = lcp_heard ev s peer tunnel frame (at e.tunnels tunnel) refl (hears refl)

  handed_chain : (from : ℕ) (bytes : List ℕ) (h : Header) → header_of bytes ≡ Ok h → h.control ≡ false → (c : Carried)
      → IsOf e.role (look_in (at e.calls h.session)) h.tunnel from (frame_of (body_of bytes h)) c
      → IsStep e moment (Datagram from bytes) (handed e env h.session c)
  unfolding handed
  handed_chain from bytes h read data_is (Dropped w) is = drop_chain e kept moment (Datagram from bytes) w (is.down w refl)
  handed_chain from bytes h read data_is (Upward tunnel peer x frame) is =
      let of = is.up tunnel peer x frame refl in
      let known = place_seen e.role e.calls h.session tunnel peer frame (at e.calls h.session) refl of.4 in
      let ev = Datagram from bytes in
      let hears : HearsFrame ev peer tunnel h.session frame = record {
        bytes = bytes;
        is = ap (λ p. Datagram p bytes) (sym of.1);
        header = h;
        read = read;
        data_is = data_is;
        tunnel_is = sym of.0;
        session_is = refl;
        frame_is = of.2;
      } in
      behind_chain ev (Up h.session x frame)
      (move.FrameUp (record { tunnel = tunnel; peer = peer; session = h.session; side = x; frame = frame }))
      (then_heard e env tunnel h.session frame x)
      (record { hears = hears; place = known.place; there = known.there; seen = known.seen; side = of.3; after = refl })
      (record { tunnel = tunnel; peer = peer; there = inl refl }) tt tt
      (then_chain ev h.session peer tunnel frame x (λ lcp. inr (hears, side_lcp e.role frame (sym of.3 ∙ lcp))))

  -- ---- tunnels that are there, or not

  main_heard : (peer i : ℕ) (bytes : List ℕ) (h : Header) → header_of bytes ≡ Ok h → h.control ≡ true
      → (o : Option Tunnel) → at e.tunnels i ≡ o → ((t : Tunnel) → o ≡ Some t → t.control.peer ≡ peer)
      → ((t : Tunnel) → o ≡ Some t → IsTo h bytes i t.control)
      → IsStep e moment (Datagram peer bytes) (in_main e env (Datagram peer bytes) i o)
  unfolding in_main recovering_turns
  main_heard peer i bytes h read control None is goes to = drop_chain e kept moment (Datagram peer bytes) why.Tunnel (λ q. absurd cc)
  main_heard peer i bytes h read control (Some t) is goes to =
      subst (λ p. IsStep e moment (Datagram p bytes) (in_main e env (Datagram p bytes) i (Some t))) (goes t refl)
      (heard_chain e kept moment (Datagram t.control.peer bytes) block i t is bytes h read control refl (to t refl))

  main_rung : (ev : Event) (who : List ℕ) → IsRing ev who → (i : ℕ) → e.role ≡ Lac → IsChosen e i → (o : Option Tunnel) → at e.tunnels i ≡ o
      → ((t : Tunnel) → o ≡ Some t → ((state_number t.control.state ≡ 3) ⊎ (state_number t.control.state ≡ 1)) × (t.control.peer ≡ e.config.lns)
      × (is_current (mode_of t.recovery) ≡ true))
      → IsStep e moment ev (in_main e env ev i o)
  unfolding in_main recovering_turns
  main_rung ev who ring i lac chosen None is goes = drop_chain e kept moment ev why.Tunnel (λ q. absurd cc)
  main_rung ev who ring i lac chosen (Some t) is goes =
      rw (ring_no_tick ev who ring) (rung_chain e kept moment ev block i t is who (goes t refl).2 (goes t refl).0 chosen ring
      (LacWants lac (goes t refl).1 (inr (who, ring))))

  main_payload : (s : ℕ) (frame : List ℕ) (i : ℕ) (o : Option Tunnel) → at e.tunnels i ≡ o → IsStep e moment (Payload s frame) (in_main e env (Payload s frame) i o)
  unfolding in_main turns recovering_turns
  main_payload s frame i None is = drop_chain e kept moment (Payload s frame) why.Tunnel (λ q. absurd cc)
  main_payload s frame i (Some t) is = carries_chain e kept moment (Payload s frame) block i t is s frame (at t.calls s) refl (inl refl)

  main_lower : (s : ℕ) (frame : List ℕ) (i : ℕ) (o : Option Tunnel) → at e.tunnels i ≡ o → IsStep e moment (Lower s frame) (in_main e env (Lower s frame) i o)
  unfolding in_main turns recovering_turns
  main_lower s frame i None is = drop_chain e kept moment (Lower s frame) why.Tunnel (λ q. absurd cc)
  main_lower s frame i (Some t) is = carries_chain e kept moment (Lower s frame) block i t is s frame (at t.calls s) refl (inr refl)

  main_hung : (s i : ℕ) (o : Option Tunnel) → at e.tunnels i ≡ o → IsStep e moment (Hang s) (in_main e env (Hang s) i o)
  unfolding in_main recovering_turns
  main_hung s i None is = drop_chain e kept moment (Hang s) why.Tunnel (λ q. absurd cc)
  main_hung s i (Some t) is = hung_chain e kept moment (Hang s) block i t is s refl

  main_closed : (s i : ℕ) (o : Option Tunnel) → at e.tunnels i ≡ o → IsStep e moment (DropCall s) (in_main e env (DropCall s) i o)
  unfolding in_main recovering_turns
  main_closed s i None is = drop_chain e kept moment (DropCall s) why.Tunnel (λ q. absurd cc)
  main_closed s i (Some t) is = closes_chain e kept moment (DropCall s) block i t is s refl

  main_shut : (i : ℕ) (o : Option Tunnel) → at e.tunnels i ≡ o → IsStep e moment (CloseTunnel i) (in_main e env (CloseTunnel i) i o)
  unfolding in_main recovering_turns
  main_shut i None is = drop_chain e kept moment (CloseTunnel i) why.Tunnel (λ q. absurd cc)
  main_shut i (Some t) is = shut_chain e kept moment (CloseTunnel i) block i t is refl

  -- ---- control messages

  module _ (peer : ℕ) (bytes : List ℕ) (h : Header) (read : header_of bytes ≡ Ok h) (control : h.control ≡ true) where
    abbrev leads : Addressee → Type 0
    leads a = IsStep e moment (Datagram peer bytes) (for_addressee e env (Datagram peer bytes) peer h (body_of bytes h) a)

    -- the message
    abbrev came : Came
    came = record { peer = peer; header = h; body = body_of bytes h }

    came_in : CameIn (Datagram peer bytes) came
    came_in = record { bytes = bytes; is = refl; read = read; control = control; body_is = refl }

    abbrev IsNamed : Recovering → Type 0
    IsNamed r = IsNamedBy r h

    -- it comes for a recovery tunnel
    line_of_id : (t : Tunnel) (r : Recovering) → t.control.peer ≡ peer → (connection_of r).local ≡ h.tunnel
        → ComesToLine (Datagram peer bytes) t.control.peer (connection_of r) came × IsNamed r
    line_of_id t (ByAttempt c) goes local = (record { came = came_in; peer_is = sym goes; line = inl (sym local) }, sym local)
    line_of_id t (ByAnswer a) goes local = (record { came = came_in; peer_is = sym goes; line = inl (sym local) }, tt)

    line_of_answer : h.tunnel ≡ 0 → (remote : ℕ) → (at_zero (body_of bytes h) ≡ Recovers remote) ⊎ (at_zero (body_of bytes h) ≡ Stops remote)
        → (t : Tunnel) (r : Recovering) → t.control.peer ≡ peer → answers_to remote (Some r) ≡ true
        → ComesToLine (Datagram peer bytes) t.control.peer (connection_of r) came × IsNamed r
    line_of_answer zero remote says t (ByAttempt c) goes answers = absurd (true≢false (sym answers))
    line_of_answer zero remote says t (ByAnswer a) goes answers =
        let same = eqb-true a.connection.remote remote answers in (
          record {
            came = came_in;
            peer_is = sym goes;
            line = inr (zero, ⊎_elim (λ asks. inl (asks ∙ ap Recovers (sym same))) (λ stops. inr (stops ∙ ap Stops (sym same))) says);
          },
          tt,
        )

    nobody : (w : Why) → (w ≡ why.Queue → ⊥) → leads (Nobody w)
    unfolding for_addressee
    nobody w other = drop_chain e kept moment (Datagram peer bytes) w other

    -- an SCCRQ opens a tunnel or is declined, or comes again to the one that it opened
    opened_leads : h.tunnel ≡ 0 → (remote : ℕ) → at_zero (body_of bytes h) ≡ Opens remote → (remote ≡ 0 → ⊥) → SaysOpening (body_of bytes h) remote
        → (k : Option ℕ) → known_as peer remote e.tunnels ≡ k → leads (opened_before remote k)
    unfolding for_addressee known_as
    opened_leads zero remote opens some says None is =
        asks_chain e kept moment peer bytes h read control zero remote some is block opens says
    opened_leads zero remote opens some says (Some i) is =
        let known = found_passes (λ j. is_known peer remote (at e.tunnels j)) (ids_of e.tunnels) i is in
        main_heard peer i bytes h read control (at e.tunnels i) refl (known_peer peer remote (at e.tunnels i) known)
        (λ t there. inr (inl (record { none = zero; opens = opens ∙ ap Opens (sym (known_remote peer remote (at e.tunnels i) known t there)) })))

    -- ---- recovery tunnels

    -- a message for the recovery tunnel of a tunnel
    line_heard : (i : ℕ) (o : Option Tunnel) → at e.tunnels i ≡ o
        → ((t : Tunnel) (r : Recovering) → o ≡ Some t → t.recovery ≡ Some r → ComesToLine (Datagram peer bytes) t.control.peer (connection_of r) came × IsNamed r)
        → IsStep e moment (Datagram peer bytes) (in_recovery e env h (body_of bytes h) i o)
    unfolding in_recovery
    line_heard i None is goes = drop_chain e kept moment (Datagram peer bytes) why.Tunnel (λ q. absurd cc)
    line_heard i (Some t) is goes = by t.recovery refl
      where
        by : (x : Option Recovering) → t.recovery ≡ x
            → IsStep e moment (Datagram peer bytes) (after_both e i t (hears_recovery e.config t.letters t.calls h (body_of bytes h) x (turn_in t env)))
        by None none = line_none e kept moment (Datagram peer bytes) block i t is none h (body_of bytes h)
        by (Some r) has =
            let g = goes t r refl has in
            line_leads e kept moment (Datagram peer bytes) block i t is came r has g.0 g.1

    -- of an answer of this tunnel's to the peer's attempt
    answered_goes : h.tunnel ≡ 0 → (remote i : ℕ)
        → (at_zero (body_of bytes h) ≡ Recovers remote) ⊎ (at_zero (body_of bytes h) ≡ Stops remote) → answered_to peer remote e.tunnels ≡ Some i
        → (t : Tunnel) (r : Recovering) → at e.tunnels i ≡ Some t → t.recovery ≡ Some r → ComesToLine (Datagram peer bytes) t.control.peer (connection_of r) came × IsNamed r
    unfolding answered_to
    answered_goes zero remote i says is t r there has =
        let found = found_passes (λ j. is_answered peer remote (at e.tunnels j)) (ids_of e.tunnels) i is in
        let here : is_answered peer remote (Some t) ≡ true = subst (λ o. is_answered peer remote o ≡ true) there found in
        let answers : answers_to remote (Some r) ≡ true = subst (λ o. answers_to remote o ≡ true) has (and_right (t.control.peer == peer) _ here) in
        line_of_answer zero remote says t r (eqb-true t.control.peer peer (and_left (t.control.peer == peer) _ here)) answers

    -- a StopCCN is for the tunnel whose peer assigned the id that it tells, or for the answer to the attempt with it
    stopped_leads : h.tunnel ≡ 0 → (remote : ℕ) → at_zero (body_of bytes h) ≡ Stops remote → (k a : Option ℕ) → known_as peer remote e.tunnels ≡ k
        → answered_to peer remote e.tunnels ≡ a → leads (stopped_at k a)
    unfolding for_addressee known_as
    stopped_leads zero remote says None None is none = nobody why.Tunnel (λ q. absurd cc)
    stopped_leads zero remote says None (Some i) is answers =
        line_heard i (at e.tunnels i) refl (λ t r there has. answered_goes zero remote i (inr says) answers t r there has)
    stopped_leads zero remote says (Some i) a is answers =
        let known = found_passes (λ j. is_known peer remote (at e.tunnels j)) (ids_of e.tunnels) i is in
        main_heard peer i bytes h read control (at e.tunnels i) refl (known_peer peer remote (at e.tunnels i) known)
        (λ t there. inr (inr (record { none = zero; stops = says ∙ ap Stops (sym (known_remote peer remote (at e.tunnels i) known t there)) })))

    -- an SCCRQ asks for a recovery, or comes again to the answer to it
    recovered_leads : h.tunnel ≡ 0 → (remote : ℕ) → at_zero (body_of bytes h) ≡ Recovers remote → ZeroSays (body_of bytes h) (Recovers remote)
        → (k : Option ℕ) → answered_to peer remote e.tunnels ≡ k → leads (answered_before remote k)
    unfolding for_addressee
    recovered_leads zero remote is says None none =
        let o = says.1.0 in
        let same = says.1.2 in
        recovers_chain e kept moment peer bytes block h read control zero o says.1.1 (λ q. says.0 (same ∙ q))
        (none_answered peer o.tunnel e.tunnels (subst (λ n. answered_to peer n e.tunnels ≡ None) same none)) says.1.3
    recovered_leads zero remote is says (Some i) answers =
        line_heard i (at e.tunnels i) refl (λ t r there has. answered_goes zero remote i (inl is) answers t r there has)

    -- one that names the id of a recovery tunnel
    named_line : (x : Option ℕ) → recovered_by h.tunnel e.tunnels ≡ x → leads (at_recovery e peer x)
    unfolding for_addressee recovered_by
    named_line None is = nobody why.Tunnel (λ q. absurd cc)
    named_line (Some i) is = by (at e.tunnels i) refl
      where
        by : (o : Option Tunnel) → at e.tunnels i ≡ o → leads (at_line peer i o)
        by None gone = nobody why.Tunnel (λ q. absurd cc)
        by (Some t) there =
            branch leads (t.control.peer == peer) _ _
            (λ met. line_heard i (at e.tunnels i) refl (λ u r found has.
            let found_i = found_passes (λ j. has_line h.tunnel (at e.tunnels j)) (ids_of e.tunnels) i is in
            let line : has_line h.tunnel (Some u) ≡ true = subst (λ o. has_line h.tunnel o ≡ true) found found_i in
            let both : Some t ≡ Some u = sym there ∙ found in
            let same : t ≡ u = cc in
            line_of_id u r (ap (λ (x : Tunnel). x.control.peer) (sym same) ∙ eqb-true t.control.peer peer met)
            (eqb-true (connection_of r).local h.tunnel (subst (λ o. is_line h.tunnel o ≡ true) has line))))
            (λ other. nobody why.Peer (λ q. absurd cc))

    -- an SCCRP is declined
    answered_leads : h.tunnel ≡ 0 → (remote : ℕ) → at_zero (body_of bytes h) ≡ Answers remote → (remote ≡ 0 → ⊥) → leads (Answers remote)
    unfolding for_addressee
    answered_leads zero remote is some = answer_chain e kept moment peer bytes h read control zero remote some is

    zero_leads : h.tunnel ≡ 0 → (a : Addressee) → at_zero (body_of bytes h) ≡ a → ZeroSays (body_of bytes h) a → leads (opens_once e peer a)
    unfolding opens_once
    zero_leads zero (Opens remote) is says = opened_leads zero remote is says.0 says.1 (known_as peer remote e.tunnels) refl
    zero_leads zero (Stops remote) is says = stopped_leads zero remote is (known_as peer remote e.tunnels) (answered_to peer remote e.tunnels) refl refl
    zero_leads zero (Recovers remote) is says = recovered_leads zero remote is says (answered_to peer remote e.tunnels) refl
    zero_leads zero (Recovery i) is says = absurd says
    zero_leads zero (Answers remote) is says = answered_leads zero remote is says
    zero_leads zero (Main i) is says = absurd says
    zero_leads zero (Nobody w) is says = nobody w says

    tunnel_leads : (o : Option Tunnel) → at e.tunnels h.tunnel ≡ o → leads (at_tunnel peer h.tunnel (option_map (λ t. t.control.peer) o))
    unfolding at_tunnel for_addressee
    tunnel_leads None is = nobody why.Tunnel (λ q. absurd cc)
    tunnel_leads (Some t) is =
        branch leads (t.control.peer == peer) _ _
        (λ met. main_heard peer h.tunnel bytes h read control (at e.tunnels h.tunnel) refl (λ u found.
        let same : t ≡ u = (let g : Some t ≡ Some u = sym is ∙ found in cc) in
        ap (λ (x : Tunnel). x.control.peer) (sym same) ∙ eqb-true t.control.peer peer met) (λ u found. inl refl))
        (λ other. nobody why.Peer (λ q. absurd cc))

    addressed_leads : leads (addressed e peer h (body_of bytes h))
    unfolding addressed
    addressed_leads =
        branch leads (h.tunnel == 0) _ _
        (λ zero. zero_leads (eqb-true h.tunnel 0 zero) (at_zero (body_of bytes h)) refl (zero_says (body_of bytes h)))
        (λ some. branch leads (is_some (at e.tunnels h.tunnel)) _ _
        (λ there. tunnel_leads (at e.tunnels h.tunnel) refl)
        (λ gone. named_line (recovered_by h.tunnel e.tunnels) refl))

  received : (peer : ℕ) (bytes : List ℕ) (r : Result Header HeaderError) → header_of bytes ≡ r → IsStep e moment (Datagram peer bytes) (receives e env peer bytes r)
  unfolding receives hands_up
  received peer bytes (Err x) read = drop_chain e kept moment (Datagram peer bytes) (header_why x) (header_other x)
  received peer bytes (Ok h) read =
      branch (IsStep e moment (Datagram peer bytes)) h.control _ _
      (λ control. addressed_leads peer bytes h read control)
      (λ data_is. handed_chain peer bytes h read data_is _ (look_is e.role (look_in (at e.calls h.session)) peer h (frame_of (body_of bytes h))))

  -- ---- rings, opens and frames

  rung : (ev : Event) (who : List ℕ) → IsRing ev who → e.role ≡ Lac → (open_one opening : Option ℕ) → least_in Established e.config.lns e.tunnels ≡ open_one
      → least_in WaitCtlReply e.config.lns e.tunnels ≡ opening → IsStep e moment ev (rings_in e env ev open_one opening)
  unfolding rings_in in_one_more in_new
  rung ev who ring lac (Some i) opening is next =
      let least = least_open e kept i is in
      main_rung ev who ring i lac (inl least) (at e.tunnels i) refl (λ t there. let l = least_is e Established i least t there in (inl l.0, l.1, l.2))
  rung ev who ring lac None (Some i) is next =
      let least = least_opening e kept i next in
      main_rung ev who ring i lac (inr (none_open e kept is, least)) (at e.tunnels i) refl
      (λ t there. let l = least_is e WaitCtlReply i least t there in (inr l.0, l.1, l.2))
  rung ev who ring lac None None is next =
      branch (IsStep e moment ev) (are_recovering e.config.lns e.tunnels) _ _
      (λ some. cause_chain e kept moment ev cause.Recovering (who, ring, none_open e kept is, none_opening e kept next, some_recover e kept some))
      (λ none.
      let new : RingsNew e ev = (who, ring, none_open e kept is, none_opening e kept next, none_recover e kept none) in
      branch (IsStep e moment ev) (has_all_tunnels e) _ _
      (λ all. cause_chain e kept moment ev cause.Tunnels (inl new, all))
      (λ fewer. rings_chain e kept moment ev block e.config.lns who (LacWants lac refl (inr (who, ring))) ring new fewer))

  gives_payload : (s : ℕ) (frame : List ℕ) (o : Option CallPlace) → IsStep e moment (Payload s frame) (for_call e env (Payload s frame) o)
  unfolding for_call
  gives_payload s frame None = drop_chain e kept moment (Payload s frame) why.Call (λ q. absurd cc)
  gives_payload s frame (Some p) = main_payload s frame p.tunnel (at e.tunnels p.tunnel) refl

  gives_lower : (s : ℕ) (frame : List ℕ) (o : Option CallPlace) → IsStep e moment (Lower s frame) (for_call e env (Lower s frame) o)
  unfolding for_call
  gives_lower s frame None = drop_chain e kept moment (Lower s frame) why.Call (λ q. absurd cc)
  gives_lower s frame (Some p) = main_lower s frame p.tunnel (at e.tunnels p.tunnel) refl

  gives_lcp : (s : ℕ) (packet : List ℕ) (o : Option CallPlace) → IsStep e moment (Lcp s packet) (for_call e env (Lcp s packet) o)
  unfolding for_call
  gives_lcp s packet None = drop_chain e kept moment (Lcp s packet) why.Call (λ q. absurd cc)
  gives_lcp s packet (Some p) = lcp_heard (Lcp s packet) s 0 p.tunnel packet (at e.tunnels p.tunnel) refl (inl refl)

  hung : (s : ℕ) (o : Option CallPlace) → IsStep e moment (Hang s) (for_call e env (Hang s) o)
  unfolding for_call
  hung s None = drop_chain e kept moment (Hang s) why.Call (λ q. absurd cc)
  hung s (Some p) = main_hung s p.tunnel (at e.tunnels p.tunnel) refl

  closed : (s : ℕ) (o : Option CallPlace) → IsStep e moment (DropCall s) (for_call e env (DropCall s) o)
  unfolding for_call
  closed s None = drop_chain e kept moment (DropCall s) why.Call (λ q. absurd cc)
  closed s (Some p) = main_closed s p.tunnel (at e.tunnels p.tunnel) refl

  by_lac : (ev : Event) (s : Stepped) → (e.role ≡ Lac → IsStep e moment ev s) → IsStep e moment ev (only_by Lac e s)
  unfolding only_by
  by_lac ev s h = branch (IsStep e moment ev) (is_lac e.role) _ _ (λ lac. h (is_lac_role e.role lac)) (λ lns. drop_chain e kept moment ev why.Node (λ q. absurd cc))

  by_lns : (ev : Event) (s : Stepped) → IsStep e moment ev s → IsStep e moment ev (only_by Lns e s)
  unfolding only_by
  by_lns ev s h = branch (IsStep e moment ev) (is_lac e.role) _ _ (λ lac. drop_chain e kept moment ev why.Node (λ q. absurd cc)) (λ lns. h)

  pub step_chain : (ev : Event) → IsStep e moment ev (plain_step e moment block ev)
  unfolding plain_step step_in rings_at in_one_more in_new
  step_chain (Datagram peer bytes) = received peer bytes (header_of bytes) refl
  step_chain (Ring port) =
      by_lac (Ring port) _ (λ lac. rung (Ring port) (subscriber port) refl lac (least_in Established e.config.lns e.tunnels)
      (least_in WaitCtlReply e.config.lns e.tunnels) refl refl)
  step_chain (Admitted mac) =
      by_lac (Admitted mac) _ (λ lac. rung (Admitted mac) mac refl lac (least_in Established e.config.lns e.tunnels)
      (least_in WaitCtlReply e.config.lns e.tunnels) refl refl)
  step_chain (Frame bytes) = drop_chain e kept moment (Frame bytes) why.Node (λ q. absurd cc)
  step_chain (Payload s frame) = by_lac (Payload s frame) _ (λ lac. gives_payload s frame (at e.calls s))
  step_chain (Lower s frame) = by_lns (Lower s frame) _ (gives_lower s frame (at e.calls s))
  step_chain (Lcp s packet) = by_lns (Lcp s packet) _ (gives_lcp s packet (at e.calls s))
  step_chain (Hang s) = by_lac (Hang s) _ (λ lac. hung s (at e.calls s))
  step_chain (DropCall s) = closed s (at e.calls s)
  step_chain (CloseTunnel i) = main_shut i (at e.tunnels i) refl
  step_chain Tick = ticks_chain moment e block kept
  step_chain OpenTunnel = by_lac OpenTunnel _ (λ lac.
      branch (IsStep e moment OpenTunnel) (has_all_tunnels e) _ _
      (λ all. cause_chain e kept moment OpenTunnel cause.Tunnels (inr (inl refl), all))
      (λ fewer. opens_chain e kept moment OpenTunnel block e.config.lns (LacWants lac refl (inl refl)) refl fewer))

pub steps_are_chains : StepsAreChains
steps_are_chains e kept moment block ev = (step_chain e kept moment block ev).chain

-- ---- what is told

pub steps_refuse_truly : StepsRefuseTruly
steps_refuse_truly e kept moment block ev told = of_all _ _ (Drop why.Queue) (step_chain e kept moment block ev).tells told refl

pub causes_stand : CausesStand
causes_stand e kept moment block ev c told = of_all _ _ (Cause c) (step_chain e kept moment block ev).tells told
