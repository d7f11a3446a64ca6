-- A datagram touches no tunnel of another peer.
use Rattle.std.proofs.Common.{◌≡◌, inl, inr, ℕ, Bool, true, false, List, [], ◌∷◌, refl, sym, ap, ◌∙◌, subst, Option, Some, None, Result, Ok, Err, is_some}
use Rattle.std.proofs.lemmas.Bool.{eqb-true, eqb-false, true≢false}
use Rattle.std.proofs.lemmas.Option.{none-some}
use Rattle.std.specs.Prelude.{◌==◌, not, option_map, nat_lt}
use Rattle.std.specs.List.{AllByRecursion}
use Rattle.id_table.specs.Ids.{at, ids_of}
use Rattle.id_table.specs.Order.{at_other, at_without_other}
use Rattle.wire_base.specs.declared.why.Why.{Why}
use Rattle.wire_base.specs.declared.why.Why.TheVariants as why
use Rattle.wire_base.specs.declared.letter.Side.{Side}
use Rattle.session_looks.specs.Frames.{Carried, Upward, Dropped, carry_look, frame_of, header_why}
use Rattle.l2tp_header.specs.declared.header.Header.{Header}
use Rattle.l2tp_header.specs.declared.header.HeaderError.{HeaderError}
use Rattle.l2tp_header.specs.Reading.{header_of, body_of}
use Rattle.control_message.specs.declared.message.Message.{Message}
use Rattle.control_message.specs.declared.message.Message.TheVariants.{Sccrq, Sccrp, Scccn, StopCcn, Hello, Ocrq, Ocrp, Occn, Icrq, Icrp, Iccn, Cdn, Wen, Sli, Fsq, Fsr}
use Rattle.control_message.specs.declared.message.Opening.{Opening}
use Rattle.control_message.specs.declared.message.Recovery.{Recovery as Named}
use Rattle.end_model.specs.declared.event.Addressee.{Addressee}
use Rattle.end_model.specs.declared.event.Addressee.TheVariants.{Opens, Stops, Answers, Main, Recovery, Recovers, Nobody}
use Rattle.end_model.specs.declared.event.Event.TheVariants.{Datagram, Lcp}
use Rattle.end_model.specs.declared.out.Out.TheVariants.{Drop}
use Rattle.end_model.specs.Events.{turns, tunnel_after}
use Rattle.end_model.specs.Moments.{is_open}
use Rattle.end_model.specs.Reading.{message_in, at_tunnel, at_zero}
use Rattle.end_model.specs.Reasons.{Reason, out_of_order, other_version, no_recovery}
use Rattle.end_model.specs.Secrets.{uncovered_datagram}
use Rattle.end_model.specs.Tunnels.{Tunnel, Env, Turn}
use Rattle.step_laws.specs.Looks.{LooksAreTrue}
use Rattle.wire_base.specs.declared.letter.Letter.{Letter}
use Rattle.wire_base.specs.declared.letter.Side.TheVariants as side_of_link
use Rattle.end_model.specs.declared.tunnel.Call.{Call}
use Rattle.end_model.specs.Recovering.{asked_in}
use Rattle.end_model.specs.Reasons.{no_secret, no_id}
use Rattle.end_model.specs.Secrets.{lacks_secret}
use Rattle.end_model.specs.Tunnels.{Recovering}
use Rattle.end_model.specs.declared.event.Event.{Event}
use Rattle.id_source.specs.declared.IdError.{IdError}
use Rattle.step_laws.specs.Gone.{CallsGoOnce}
use Rattle.step_laws.specs.Looks.{LooksStayTrue}
use Rattle.step_laws.specs.Steps.{AreKept, StepsAreChains}
use Rattle.end_model.specs.End.{End, Stepped, env_of, gives_only, tunnels_after, after_turn, after_new, in_new, in_main, in_recovery, is_known, known_as, opened_before, recovered_by, is_answered, answered_to, answered_before, stopped_at, opens_once, at_line, at_recovery, addressed, against_body, next_of_peer, declined, opens_or_declines, is_recoverable, is_tied, freezes, recovers_tunnel, recovers_by, recovers, for_addressee, look_in, then_heard, handed, hands_up, receives, step_in, plain_step}
use Rattle.stranger_laws.specs.Others.{IsSame, DatagramsLeaveOthersAlone, Arrival, after_all, IsOfAnother, TunnelsOutlastStrangers}
use Rattle.stranger_steps.proofs.Reading.{found_passes, NamesNone, zero_none}
use Rattle.stranger_steps.specs.Strangers.{GoesTo}
use Rattle.stranger_steps.proofs.Passing.{upward_goes, none_at}
use Rattle.stranger_laws.proofs.Passing.{true_looks_fit}
use Rattle.stranger_laws.proofs.Silent.{none_up}
use Rattle.stranger_steps.proofs.Turns.{branch, and_left, and_right, Comes, heard_comes}

-- ---- the tunnels of a step

module _ (e : End) (looks : LooksAreTrue e) (peer : ℕ) where
  -- each tunnel to another peer is as it was
  abbrev Right : Stepped → Type 0
  Right s = (j : ℕ) (u : Tunnel) → at e.tunnels j ≡ Some u → (u.control.peer ≡ peer → ⊥) → at s.end.tunnels j ≡ Some u

  same_right : (s : Stepped) → s.end ≡ e → Right s
  same_right s is j u there other = ap (λ (x : End). at x.tunnels j) is ∙ there

  -- a turn of another tunnel than that one
  apart_right : (i : ℕ) → ((j : ℕ) (u : Tunnel) → at e.tunnels j ≡ Some u → (u.control.peer ≡ peer → ⊥) → j ≡ i → ⊥)
      → (letters : List Letter) (calls : List (ℕ × Call)) (recovery : Option Recovering) (t : Turn)
      → Right (after_turn e i letters calls recovery t)
  unfolding after_turn
  apart_right i apart letters calls recovery t j u there other = by t.cleared
    where
      by : (b : Bool) → at (tunnels_after e.tunnels i b (tunnel_after t letters calls recovery)) j ≡ Some u
      by true = at_without_other e.tunnels i j (apart j u there other) ∙ there
      by false = at_other e.tunnels i (tunnel_after t letters calls recovery) j (apart j u there other) ∙ there

  -- of a tunnel to the peer
  own_right : (i : ℕ) → GoesTo e peer i → (letters : List Letter) (calls : List (ℕ × Call)) (recovery : Option Recovering) (t : Turn)
      → Right (after_turn e i letters calls recovery t)
  own_right i goes = apart_right i (λ j u there other same.
      (let both : Some goes.0 ≡ Some u = sym goes.1 ∙ (ap (λ k. at e.tunnels k) (sym same) ∙ there) in
      let one : goes.0 ≡ u = cc in
      other (ap (λ (x : Tunnel). x.control.peer) (sym one) ∙ goes.2)))

  -- of one that is new
  new_right : (i : ℕ) → at e.tunnels i ≡ None → (t : Turn) → Right (after_turn e i [] [] None t)
  new_right i none =
      apart_right i (λ j u there other same. none-some u (sym none ∙ (ap (λ k. at e.tunnels k) (sym same) ∙ there))) [] [] None

  dropped : (w : Why) → Right (gives_only e (Drop w))
  unfolding gives_only
  dropped w = same_right (gives_only e (Drop w)) refl

  declines : (remote nr : ℕ) (r : Reason) → Right (declined e peer remote nr r)
  unfolding declined
  declines remote nr r = same_right (declined e peer remote nr r) refl

  -- where there is such a tunnel it goes to the peer
  abbrev Goes : ℕ → Type 0
  Goes i = (t : Tunnel) → at e.tunnels i ≡ Some t → t.control.peer ≡ peer

  module _ (moment : ℕ) (block : List ℕ) where
    abbrev env : Env
    env = env_of e moment block

    main_right : (ev : Event) (i : ℕ) → Goes i → (o : Option Tunnel) → at e.tunnels i ≡ o → Right (in_main e env ev i o)
    unfolding in_main
    main_right ev i goes None is = dropped why.Tunnel
    main_right ev i goes (Some t) is = own_right i (t, is, goes t is) _ _ _ _

    line_right : (h : Header) (body : List ℕ) (i : ℕ) → Goes i → (o : Option Tunnel) → at e.tunnels i ≡ o
        → Right (in_recovery e env h body i o)
    unfolding in_recovery
    line_right h body i goes None is = dropped why.Tunnel
    line_right h body i goes (Some t) is = own_right i (t, is, goes t is) _ _ _ _

    begun_right : (t : Turn) → Comes e.role e.config peer moment env t → Right (after_new e t)
    unfolding after_new
    begun_right t (inl h, once) =
        branch Right (t.control.local == 0) _ _
        (λ none. same_right (record { end = e; outputs = t.outputs; moves = t.moves }) refl)
        (λ some. absurd (eqb-false t.control.local 0 some h.local))
    begun_right t (inr h, once) =
        branch Right (t.control.local == 0) _ _
        (λ none. same_right (record { end = e; outputs = t.outputs; moves = t.moves }) refl)
        (λ some. new_right t.control.local (none_at e (true_looks_fit e looks) t.control.local (h.1 ∙ ap (λ k. Ok k) (sym h.2.local))) t)

    opens_right : (bytes : List ℕ) (remote nr : ℕ) (o : Option Reason)
        → Right (opens_or_declines e env (Datagram peer bytes) peer remote nr o)
    unfolding opens_or_declines in_new turns
    opens_right bytes remote nr (Some r) = declines remote nr r
    opens_right bytes remote nr None = begun_right _ (heard_comes e.role e.config peer moment env bytes (header_of bytes))

    -- ---- an SCCRQ that asks for a recovery

    freezes_right : (nr : ℕ) (o : Opening) (i : ℕ) (t : Tunnel) → GoesTo e peer i → (a b : Result ℕ IdError)
        → Right (freezes e env peer nr o i t a b)
    unfolding freezes
    freezes_right nr o i t goes (Err x) b = declines o.tunnel nr no_id
    freezes_right nr o i t goes (Ok local) (Err x) = declines o.tunnel nr no_id
    freezes_right nr o i t goes (Ok local) (Ok draw) = own_right i goes _ _ _ _

    tunnel_right : (nr : ℕ) (o : Opening) (receiver sender : ℕ) (x : Option Tunnel) → at e.tunnels receiver ≡ x
        → Right (recovers_tunnel e env peer nr o receiver x sender)
    unfolding recovers_tunnel
    tunnel_right nr o receiver sender None is = declines o.tunnel nr no_recovery
    tunnel_right nr o receiver sender (Some t) is =
        branch Right (not (is_recoverable peer sender t)) _ _
        (λ none. declines o.tunnel nr no_recovery)
        (λ named.
        let both = and_right (is_open t.control.state) _ (not_false (is_recoverable peer sender t) named) in
        let goes = eqb-true t.control.peer peer (and_left (t.control.peer == peer) _ both) in
        branch Right (is_tied e.role t) _ _
        (λ tied. dropped why.Tie)
        (λ untied. branch Right (nat_lt (asked_in o) t.control.mark) _ _
        (λ below. dropped why.Mark)
        (λ newer. branch Right (lacks_secret e.config.secret o.challenge) _ _
        (λ lacks. declines o.tunnel nr no_secret)
        (λ able. freezes_right nr o receiver t (t, is, goes) _ _))))
      where
        not_false : (b : Bool) → not b ≡ false → b ≡ true
        not_false true h = refl
        not_false false h = absurd (true≢false h)

    named_right : (nr : ℕ) (o : Opening) (n : Option Named) → Right (recovers_by e env peer nr o n)
    unfolding recovers_by
    named_right nr o None = declines o.tunnel nr no_recovery
    named_right nr o (Some named) =
        branch Right (not (o.version == 256)) _ _
        (λ other. declines o.tunnel nr other_version)
        (λ version. tunnel_right nr o named.receiver named.sender (at e.tunnels named.receiver) refl)

    recovers_right : (nr : ℕ) (r : Result Message Why) → Right (recovers e env peer nr r)
    unfolding recovers
    recovers_right nr (Ok (Sccrq o)) = named_right nr o o.recovery
    recovers_right nr (Ok (Sccrp o)) = dropped why.Tunnel
    recovers_right nr (Ok (Scccn response)) = dropped why.Tunnel
    recovers_right nr (Ok (StopCcn tunnel code error)) = dropped why.Tunnel
    recovers_right nr (Ok Hello) = dropped why.Tunnel
    recovers_right nr (Ok (Ocrq remote)) = dropped why.Tunnel
    recovers_right nr (Ok Ocrp) = dropped why.Tunnel
    recovers_right nr (Ok Occn) = dropped why.Tunnel
    recovers_right nr (Ok (Icrq remote serial calling)) = dropped why.Tunnel
    recovers_right nr (Ok (Icrp remote)) = dropped why.Tunnel
    recovers_right nr (Ok (Iccn speed framing sequenced)) = dropped why.Tunnel
    recovers_right nr (Ok (Cdn remote code error)) = dropped why.Tunnel
    recovers_right nr (Ok Wen) = dropped why.Tunnel
    recovers_right nr (Ok Sli) = dropped why.Tunnel
    recovers_right nr (Ok (Fsq sessions)) = dropped why.Tunnel
    recovers_right nr (Ok (Fsr answers)) = dropped why.Tunnel
    recovers_right nr (Err w) = dropped why.Tunnel

    -- ---- control messages

    -- a tunnel that is known by an id of the peer, or whose answer is
    known_goes : (remote i : ℕ) → known_as peer remote e.tunnels ≡ Some i → Goes i
    unfolding known_as
    known_goes remote i is t there =
        let known = found_passes (λ j. is_known peer remote (at e.tunnels j)) (ids_of e.tunnels) i is in
        let here : is_known peer remote (Some t) ≡ true = subst (λ o. is_known peer remote o ≡ true) there known in
        eqb-true t.control.peer peer (and_left (t.control.peer == peer) _ here)

    answered_goes : (remote i : ℕ) → answered_to peer remote e.tunnels ≡ Some i → Goes i
    unfolding answered_to
    answered_goes remote i is t there =
        let known = found_passes (λ j. is_answered peer remote (at e.tunnels j)) (ids_of e.tunnels) i is in
        let here : is_answered peer remote (Some t) ≡ true = subst (λ o. is_answered peer remote o ≡ true) there known in
        eqb-true t.control.peer peer (and_left (t.control.peer == peer) _ here)

    module _ (bytes : List ℕ) (h : Header) where
      abbrev Leads : Addressee → Type 0
      Leads a = Right (for_addressee e env (Datagram peer bytes) peer h (body_of bytes h) a)

      nobody : (w : Why) → Leads (Nobody w)
      unfolding for_addressee
      nobody w = dropped w

      to_main : (i : ℕ) → Goes i → Leads (Main i)
      unfolding for_addressee
      to_main i goes = main_right (Datagram peer bytes) i goes (at e.tunnels i) refl

      to_line : (i : ℕ) → Goes i → Leads (Recovery i)
      unfolding for_addressee
      to_line i goes = line_right h (body_of bytes h) i goes (at e.tunnels i) refl

      opened_leads : (remote : ℕ) (o : Option ℕ) → known_as peer remote e.tunnels ≡ o → Leads (opened_before remote o)
      unfolding for_addressee
      opened_leads remote None is = opens_right bytes remote (next_of_peer h) (against_body e (body_of bytes h))
      opened_leads remote (Some i) is = to_main i (known_goes remote i is)

      recovered_leads : (remote : ℕ) (o : Option ℕ) → answered_to peer remote e.tunnels ≡ o → Leads (answered_before remote o)
      unfolding for_addressee
      recovered_leads remote None is = recovers_right (next_of_peer h) (message_in (body_of bytes h))
      recovered_leads remote (Some i) is = to_line i (answered_goes remote i is)

      stopped_leads : (remote : ℕ) (o p : Option ℕ) → known_as peer remote e.tunnels ≡ o → answered_to peer remote e.tunnels ≡ p
          → Leads (stopped_at o p)
      stopped_leads remote (Some i) p is also = to_main i (known_goes remote i is)
      stopped_leads remote None (Some i) is also = to_line i (answered_goes remote i also)
      stopped_leads remote None None is also = nobody why.Tunnel

      -- one that names no tunnel
      once_leads : (a : Addressee) → NamesNone a → Leads (opens_once e peer a)
      unfolding opens_once for_addressee
      once_leads (Opens remote) none = opened_leads remote (known_as peer remote e.tunnels) refl
      once_leads (Recovers remote) none = recovered_leads remote (answered_to peer remote e.tunnels) refl
      once_leads (Stops remote) none = stopped_leads remote (known_as peer remote e.tunnels) (answered_to peer remote e.tunnels) refl refl
      once_leads (Answers remote) none = declines remote (next_of_peer h) out_of_order
      once_leads (Nobody w) none = nobody w
      once_leads (Main i) none = absurd none
      once_leads (Recovery i) none = absurd none

      -- a tunnel that is there, by whose peer it is told whether the message is for it
      met_goes : (i : ℕ) (t : Tunnel) → at e.tunnels i ≡ Some t → (t.control.peer == peer) ≡ true → Goes i
      met_goes i t is met u found =
          let both : Some t ≡ Some u = sym is ∙ found in
          let same : t ≡ u = cc in
          ap (λ (x : Tunnel). x.control.peer) (sym same) ∙ eqb-true t.control.peer peer met

      -- one that names a live tunnel
      tunnel_leads : (i : ℕ) (o : Option Tunnel) → at e.tunnels i ≡ o → Leads (at_tunnel peer i (option_map (λ t. t.control.peer) o))
      unfolding at_tunnel
      tunnel_leads i None is = nobody why.Tunnel
      tunnel_leads i (Some t) is =
          branch Leads (t.control.peer == peer) _ _ (λ met. to_main i (met_goes i t is met)) (λ other. nobody why.Peer)

      -- one that names a recovery tunnel
      line_leads : (i : ℕ) (o : Option Tunnel) → at e.tunnels i ≡ o → Leads (at_line peer i o)
      line_leads i None is = nobody why.Tunnel
      line_leads i (Some t) is =
          branch Leads (t.control.peer == peer) _ _ (λ met. to_line i (met_goes i t is met)) (λ other. nobody why.Peer)

      recovery_leads : (o : Option ℕ) → Leads (at_recovery e peer o)
      recovery_leads None = nobody why.Tunnel
      recovery_leads (Some i) = line_leads i (at e.tunnels i) refl

      control_leads : Leads (addressed e peer h (body_of bytes h))
      unfolding addressed
      control_leads =
          branch Leads (h.tunnel == 0) _ _
          (λ zero. once_leads (at_zero (body_of bytes h)) (zero_none (body_of bytes h)))
          (λ some. branch Leads (is_some (at e.tunnels h.tunnel)) _ _
          (λ there. tunnel_leads h.tunnel (at e.tunnels h.tunnel) refl)
          (λ gone. recovery_leads (recovered_by h.tunnel e.tunnels)))

    -- ---- data messages

    then_right : (tunnel session : ℕ) (frame : List ℕ) → GoesTo e peer tunnel → (x : Side) → Right (then_heard e env tunnel session frame x)
    unfolding then_heard
    then_right tunnel session frame goes side_of_link.Sub = same_right (record { end = e; outputs = []; moves = [] }) refl
    then_right tunnel session frame goes side_of_link.Net = same_right (record { end = e; outputs = []; moves = [] }) refl
    then_right tunnel session frame goes side_of_link.Lcp =
        main_right (Lcp session frame) tunnel (λ u found.
        (let both : Some goes.0 ≡ Some u = sym goes.1 ∙ found in
        let same : goes.0 ≡ u = cc in
        ap (λ (x : Tunnel). x.control.peer) (sym same) ∙ goes.2)) (at e.tunnels tunnel) refl

    handed_right : (h : Header) (frame : List ℕ) (c : Carried) → carry_look e.role (look_in (at e.calls h.session)) peer h frame ≡ c
        → Right (handed e env h.session c)
    unfolding handed
    handed_right h frame (Dropped w) is = dropped w
    handed_right h frame (Upward tunnel to side f) is =
        then_right tunnel h.session f (upward_goes e (true_looks_fit e looks) peer h frame tunnel to side f is) side

    received_right : (bytes : List ℕ) (r : Result Header HeaderError) → Right (receives e env peer bytes r)
    unfolding receives hands_up
    received_right bytes (Err x) = dropped (header_why x)
    received_right bytes (Ok h) =
        branch Right h.control _ _
        (λ control. control_leads bytes h)
        (λ data_is. handed_right h (frame_of (body_of bytes h)) _ refl)

    step_right : (bytes : List ℕ) → Right (plain_step e moment block (Datagram peer bytes))
    unfolding plain_step step_in
    step_right bytes = received_right bytes (header_of bytes)

-- ---- their calls

pub datagrams_leave_others_alone : StepsAreChains → LooksStayTrue → CallsGoOnce → DatagramsLeaveOthersAlone
datagrams_leave_others_alone chains stay once e kept looks moment block peer bytes i t there other =
    let ev = Datagram peer (uncovered_datagram e.config.secret bytes) in
    let now = step_right e looks peer moment block (uncovered_datagram e.config.secret bytes) i t there other in
    let after = stay e kept looks moment block ev in
    record {
      same = record {
        tunnel = now;
        places = λ q c live. after.seen i t now q c live ∙ sym (looks.seen i t there q c live);
      };
      live = λ q c live gone. none-some _ (sym ((once e kept looks moment block ev).left q gone) ∙ after.seen i t now q c live);
      silent = λ q c live side frame.
          none_up e looks moment block peer (uncovered_datagram e.config.secret bytes) i t there other q c live side frame chains kept;
    }

-- ---- any number of datagrams

module _ (chains : StepsAreChains) (stay : LooksStayTrue) (alone : DatagramsLeaveOthersAlone) (i : ℕ) (t : Tunnel) where
  outlasts : (e : End) → AreKept e → LooksAreTrue e → at e.tunnels i ≡ Some t → (ds : List Arrival)
      → AllByRecursion (IsOfAnother t.control.peer) ds → IsSame e i t (after_all e ds)
  unfolding after_all
  outlasts e kept looks there [] others = record { tunnel = there; places = λ q c live. refl }
  outlasts e kept looks there (d ∷ ds) others =
      let ev = Datagram d.peer (uncovered_datagram e.config.secret d.bytes) in
      let first = (alone e kept looks d.moment d.block d.peer d.bytes i t there others.0).same in
      let x = (plain_step e d.moment d.block ev).end in
      let rest = outlasts x (chains e kept d.moment d.block ev).kept (stay e kept looks d.moment d.block ev) first.tunnel ds others.1 in
      record { tunnel = rest.tunnel; places = λ q c live. rest.places q c live ∙ first.places q c live }

pub tunnels_outlast_strangers : StepsAreChains → LooksStayTrue → DatagramsLeaveOthersAlone → TunnelsOutlastStrangers
tunnels_outlast_strangers chains stay alone e kept looks i t there ds others = outlasts chains stay alone i t e kept looks there ds others
