-- A step on a datagram of a peer to which no live tunnel goes.
use Rattle.std.proofs.Common.{◌≡◌, inl, inr, ℕ, ◌+◌, ◌≤◌, true, List, [], ◌∷◌, ◌++◌, refl, sym, ap, ◌∙◌, subst, Option, Some, None, Result, Ok, Err, is_some, arith}
use Rattle.std.proofs.lemmas.Bool.{eqb-true, eqb-false, true≢false}
use Rattle.std.proofs.lemmas.Option.{none-some}
use Rattle.std.specs.Prelude.{◌-◌, ◌*◌, ◌/◌, ◌==◌, not, option_map, map, min}
use Rattle.std.specs.List.{AllByRecursion, flat_map}
use Rattle.id_table.specs.Ids.{at, put, ids_of}
use Rattle.id_table.specs.Order.{at_other}
use Rattle.id_source.specs.Spaces.{Space, takes_id, after_id, counting_from}
use Rattle.wire_base.specs.declared.why.Why.{Why}
use Rattle.wire_base.specs.declared.why.Why.TheVariants as why
use Rattle.wire_base.specs.declared.letter.Side.{Side}
use Rattle.session_book.specs.declared.record.Record.{Record}
use Rattle.session_book.specs.declared.record.Record.TheVariants.{Ceiling}
use Rattle.session_looks.specs.Frames.{Carried, Upward, Dropped, carry_look, frame_of, header_why}
use Rattle.l2tp_header.specs.declared.header.Header.{Header}
use Rattle.l2tp_header.specs.declared.header.HeaderError.{HeaderError}
use Rattle.l2tp_header.specs.Reading.{header_of, body_of}
use Rattle.control_message.specs.declared.message.Message.{Message}
use Rattle.control_message.specs.declared.message.Message.TheVariants.{Sccrq, Sccrp, Scccn, StopCcn, Hello, Ocrq, Ocrp, Occn, Icrq, Icrp, Iccn, Cdn, Wen, Sli, Fsq, Fsr}
use Rattle.control_message.specs.declared.message.Opening.{Opening}
use Rattle.control_message.specs.declared.message.Recovery.{Recovery as Named}
use Rattle.tunnel_fsm.specs.declared.table.TunnelState.TheVariants as state
use Rattle.end_model.specs.declared.event.Addressee.{Addressee}
use Rattle.end_model.specs.declared.event.Addressee.TheVariants.{Opens, Stops, Answers, Main, Recovery, Recovers, Nobody}
use Rattle.end_model.specs.declared.event.Event.TheVariants.{Datagram}
use Rattle.end_model.specs.declared.moves.Accepted.{Accepted}
use Rattle.end_model.specs.declared.moves.Declined.{Declined}
use Rattle.end_model.specs.declared.moves.LetGo.{LetGo}
use Rattle.end_model.specs.declared.moves.Move.{Move}
use Rattle.end_model.specs.declared.moves.Move.TheVariants as move
use Rattle.end_model.specs.declared.out.Out.TheVariants.{Drop}
use Rattle.end_model.specs.Access.{serves}
use Rattle.end_model.specs.Contents.{ceilings_of, records_of, contents_of}
use Rattle.end_model.specs.Events.{turns, with_calls, tunnel_after}
use Rattle.end_model.specs.Moments.{is_open}
use Rattle.end_model.specs.Reading.{message_in, at_tunnel, at_zero}
use Rattle.end_model.specs.Reasons.{Reason, out_of_order, other_version, no_recovery}
use Rattle.end_model.specs.Secrets.{uncovered_datagram}
use Rattle.end_model.specs.Tunnels.{Tunnel, Env, Turn}
use Rattle.end_model.specs.End.{End, Stepped, env_of, gives_only, placed, with_looks, after_turn, after_new, in_new, is_known, known_as, opened_before, recovered_by, is_answered, answered_to, answered_before, stopped_at, opens_once, at_line, at_recovery, addressed, against_body, next_of_peer, declined, opens_or_declines, is_recoverable, recovers_tunnel, recovers_by, recovers, for_addressee, look_in, handed, hands_up, receives, step_in, plain_step, step}
use Rattle.stranger_steps.specs.Strangers.{LooksFitTunnels, IsStranger, IsBegun, AsItWas, OneMore, IsOnlyTo, sends_in, IsOfOpening, IsOfTunnelIds, ChangesNothing, StrangersChangeNothing, DatagramsAreOfEnds}
use Rattle.stranger_steps.proofs.Reading.{none_found, not_so, NamesNone, zero_none}
use Rattle.stranger_steps.proofs.Passing.{upward_goes, none_at}
use Rattle.stranger_steps.proofs.Turns.{branch, and_left, and_right, IsBare, one_drawn, Comes, heard_comes}

-- ---- what is committed

all_mapped : {X Y : Type 0} (P : Y → Type 0) (f : X → Y) → ((x : X) → P (f x)) → (xs : List X) → AllByRecursion P (map f xs)
all_mapped P f so [] = tt
all_mapped P f so (x ∷ xs) = (so x, all_mapped P f so xs)

no_ceilings : (space : ℕ) (s : Space) → ceilings_of space s s ≡ []
unfolding counting_from
no_ceilings space s =
    let n : (s.ceiling - s.ceiling + 63) / 64 ≡ 0 = by_none (s.ceiling - s.ceiling) (omega arith) in
    ap (λ k. map (λ j. Ceiling space (min s.last (s.ceiling + 64 * j))) (counting_from 1 k)) n
  where
    by_none : (n : ℕ) → n ≡ 0 → (n + 63) / 64 ≡ 0
    by_none n none = rw none refl

-- each move that belongs to an opening is one of four
pub by_opening : (P : Move → Type 0) → ((m : Accepted) → P (move.Accepted m)) → ((m : LetGo) → P (move.LetGo m))
    → ((i : ℕ) → P (move.Quiet i)) → ((m : Declined) → P (move.Declined m)) → (m : Move) → IsOfOpening m → P m
by_opening P accepted gone quiet declined (move.Accepted m) of = accepted m
by_opening P accepted gone quiet declined (move.LetGo m) of = gone m
by_opening P accepted gone quiet declined (move.Quiet i) of = quiet i
by_opening P accepted gone quiet declined (move.Declined m) of = declined m
by_opening P accepted gone quiet declined (move.Opened m) of = absurd of
by_opening P accepted gone quiet declined (move.Connected m) of = absurd of
by_opening P accepted gone quiet declined (move.Confirmed m) of = absurd of
by_opening P accepted gone quiet declined (move.Added m) of = absurd of
by_opening P accepted gone quiet declined (move.Requested m) of = absurd of
by_opening P accepted gone quiet declined (move.Replied m) of = absurd of
by_opening P accepted gone quiet declined (move.FirstUp m) of = absurd of
by_opening P accepted gone quiet declined (move.SecondUp m) of = absurd of
by_opening P accepted gone quiet declined (move.Refused m) of = absurd of
by_opening P accepted gone quiet declined (move.EndTold m) of = absurd of
by_opening P accepted gone quiet declined (move.EndHeard m) of = absurd of
by_opening P accepted gone quiet declined (move.EndSilent m) of = absurd of
by_opening P accepted gone quiet declined (move.Closed m) of = absurd of
by_opening P accepted gone quiet declined (move.Rejected m) of = absurd of
by_opening P accepted gone quiet declined (move.ClosedBy m) of = absurd of
by_opening P accepted gone quiet declined (move.Cleared i booked) of = absurd of
by_opening P accepted gone quiet declined (move.Greeted m) of = absurd of
by_opening P accepted gone quiet declined (move.TookPlain m) of = absurd of
by_opening P accepted gone quiet declined (move.NrRead m) of = absurd of
by_opening P accepted gone quiet declined (move.Repeated m) of = absurd of
by_opening P accepted gone quiet declined (move.Negotiated m) of = absurd of
by_opening P accepted gone quiet declined (move.Counted m) of = absurd of
by_opening P accepted gone quiet declined (move.FrameSent m) of = absurd of
by_opening P accepted gone quiet declined (move.FrameUp m) of = absurd of
by_opening P accepted gone quiet declined (move.Restored m) of = absurd of
by_opening P accepted gone quiet declined (move.Forgot m) of = absurd of
by_opening P accepted gone quiet declined (move.Froze m) of = absurd of
by_opening P accepted gone quiet declined (move.ResetAttempting m) of = absurd of
by_opening P accepted gone quiet declined (move.ResetAnswering m) of = absurd of
by_opening P accepted gone quiet declined (move.Queried m) of = absurd of
by_opening P accepted gone quiet declined (move.AnsweredQuery m) of = absurd of
by_opening P accepted gone quiet declined (move.TookAnswer m) of = absurd of
by_opening P accepted gone quiet declined (move.RecoveryWentOn i) of = absurd of
by_opening P accepted gone quiet declined (move.RecoveryEnded i) of = absurd of
by_opening P accepted gone quiet declined (move.Ignored i) of = absurd of

opening_records : (m : Move) → IsOfOpening m → records_of m ≡ []
unfolding records_of
opening_records m of = by_opening (λ q. records_of q ≡ []) (λ q. refl) (λ q. refl) (λ q. refl) (λ q. refl) m of

openings_records : (ms : List Move) → AllByRecursion IsOfOpening ms → flat_map (λ m. records_of m) ms ≡ []
openings_records [] of = refl
openings_records (m ∷ ms) of = rw (opening_records m of.0, openings_records ms of.1) refl

-- of the ids only those of tunnels are new
only_tunnels : (e : End) (s : Stepped) → s.end.session_ids ≡ e.session_ids → s.end.recovery_ids ≡ e.recovery_ids
    → AllByRecursion IsOfOpening s.moves → AllByRecursion IsOfTunnelIds (contents_of e s)
unfolding contents_of
only_tunnels e s sessions recoveries of =
    rw (sessions, recoveries, no_ceilings 2 e.session_ids, no_ceilings 3 e.recovery_ids, openings_records s.moves of)
    (ending (ceilings_of 1 e.tunnel_ids s.end.tunnel_ids)
    (all_mapped IsOfTunnelIds _ (λ k. refl) (counting_from 1 ((s.end.tunnel_ids.ceiling - e.tunnel_ids.ceiling + 63) / 64))))
  where
    ending : (rs : List Record) → AllByRecursion IsOfTunnelIds rs → AllByRecursion IsOfTunnelIds (rs ++ ([] ++ ([] ++ [])))
    ending [] h = tt
    ending (r ∷ rs) h = (h.0, ending rs h.1)

-- ---- the step

module _ (e : End) (looks : LooksFitTunnels e) (peer : ℕ) (stranger : IsStranger e peer) where
  abbrev Right : Stepped → Type 0
  Right s = ChangesNothing e peer s

  same_end : (s : Stepped) → s.end ≡ e → AllByRecursion (IsOnlyTo peer) s.outputs → sends_in s.outputs ≤ 1
      → AllByRecursion IsOfOpening s.moves → Right s
  same_end s is outputs once moves = record {
    end = AsItWas is;
    tunnels = λ i t there. ap (λ (x : End). at x.tunnels i) is ∙ there;
    calls = ap (λ (x : End). x.calls) is;
    outputs = outputs;
    packets = once;
    moves = moves;
    records = only_tunnels e s (ap (λ (x : End). x.session_ids) is) (ap (λ (x : End). x.recovery_ids) is) moves;
  }

  one_more : (s : Stepped) (i : ℕ) (t : Tunnel) → takes_id e.tunnel_ids ≡ Ok i → IsBegun peer i t
      → s.end ≡ record e { tunnel_ids = after_id e.tunnel_ids; tunnels = put e.tunnels i t }
      → AllByRecursion (IsOnlyTo peer) s.outputs → sends_in s.outputs ≤ 1 → AllByRecursion IsOfOpening s.moves → Right s
  one_more s i t drawn begun is outputs once moves = record {
    end = OneMore i t drawn (none_at e looks i drawn) begun is;
    tunnels = λ j u there.
        (let apart : j ≡ i → ⊥ = λ same. none-some u (sym (none_at e looks i drawn) ∙ (ap (λ k. at e.tunnels k) (sym same) ∙ there)) in
        ap (λ (x : End). at x.tunnels j) is ∙ (at_other e.tunnels i t j apart ∙ there));
    calls = ap (λ (x : End). x.calls) is;
    outputs = outputs;
    packets = once;
    moves = moves;
    records = only_tunnels e s (ap (λ (x : End). x.session_ids) is) (ap (λ (x : End). x.recovery_ids) is) moves;
  }

  dropped : (w : Why) → Right (gives_only e (Drop w))
  unfolding gives_only sends_in
  dropped w = same_end _ refl (tt, tt) (omega arith) tt

  declines : (remote nr : ℕ) (r : Reason) → Right (declined e peer remote nr r)
  unfolding declined sends_in
  declines remote nr r = same_end _ refl (tt, (refl, tt)) (omega arith) (tt, tt)

  -- nothing is handed up that is of this peer
  pub none_upward : (h : Header) (frame : List ℕ) (tunnel to : ℕ) (side : Side) (f : List ℕ)
      → carry_look e.role (look_in (at e.calls h.session)) peer h frame ≡ Upward tunnel to side f → ⊥
  none_upward h frame tunnel to side f is =
      let g = upward_goes e looks peer h frame tunnel to side f is in
      stranger tunnel g.0 g.1 g.2

  module _ (moment : ℕ) (block : List ℕ) where
    abbrev env : Env
    env = env_of e moment block

    -- a turn by which a tunnel begins
    begun_right : (t : Turn) (i : ℕ) → takes_id e.tunnel_ids ≡ Ok i → IsBare peer i state.WaitCtlConn (one_drawn env.ids) t
        → sends_in t.outputs ≤ 1 → Right (after_turn e t.control.local [] [] None t)
    unfolding after_turn placed with_looks with_calls
    begun_right t i drawn h once =
        one_more (after_turn e t.control.local [] [] None t) i (tunnel_after t [] [] None) drawn
        (record {
          local = h.local;
          peer_is = h.peer_is;
          waits = h.state_is;
          calls = rw h.changed refl;
          recovery = refl;
          query = h.query;
        })
        (rw (h.ids_are, h.cleared, h.changes, h.added, h.local) refl) h.outputs once h.moves

    -- a turn of a tunnel that is new
    new_right : (t : Turn) → Comes e.role e.config peer moment env t → Right (after_new e t)
    unfolding after_new
    new_right t (inl h, once) =
        branch Right (t.control.local == 0) _ _
        (λ none. same_end _ refl h.outputs once h.moves)
        (λ some. absurd (eqb-false t.control.local 0 some h.local))
    new_right t (inr h, once) =
        branch Right (t.control.local == 0) _ _
        (λ none. same_end _ refl h.2.outputs once h.2.moves)
        (λ some. begun_right t h.0 h.1 h.2 once)

    opens_right : (bytes : List ℕ) (remote nr : ℕ) (o : Option Reason)
        → Right (opens_or_declines e env (Datagram peer bytes) peer remote nr o)
    unfolding opens_or_declines in_new turns
    opens_right bytes remote nr (Some r) = declines remote nr r
    opens_right bytes remote nr None = new_right _ (heard_comes e.role e.config peer moment env bytes (header_of bytes))

    -- ---- an SCCRQ that asks for a recovery

    not_recoverable : (sender receiver : ℕ) (t : Tunnel) → at e.tunnels receiver ≡ Some t → not (is_recoverable peer sender t) ≡ true
    not_recoverable sender receiver t there =
        ap not (not_so (is_recoverable peer sender t) (λ is.
        let both = and_right (is_open t.control.state) _ is in
        stranger receiver t there (eqb-true t.control.peer peer (and_left (t.control.peer == peer) _ both))))

    tunnel_right : (nr : ℕ) (o : Opening) (receiver sender : ℕ) (x : Option Tunnel) → at e.tunnels receiver ≡ x
        → Right (recovers_tunnel e env peer nr o receiver x sender)
    unfolding recovers_tunnel
    tunnel_right nr o receiver sender None is = declines o.tunnel nr no_recovery
    tunnel_right nr o receiver sender (Some t) is =
        branch Right (not (is_recoverable peer sender t)) _ _
        (λ none. declines o.tunnel nr no_recovery)
        (λ named. absurd (true≢false (sym (not_recoverable sender receiver t is) ∙ named)))

    named_right : (nr : ℕ) (o : Opening) (n : Option Named) → Right (recovers_by e env peer nr o n)
    unfolding recovers_by
    named_right nr o None = declines o.tunnel nr no_recovery
    named_right nr o (Some named) =
        branch Right (not (o.version == 256)) _ _
        (λ other. declines o.tunnel nr other_version)
        (λ version. tunnel_right nr o named.receiver named.sender (at e.tunnels named.receiver) refl)

    recovers_right : (nr : ℕ) (r : Result Message Why) → Right (recovers e env peer nr r)
    unfolding recovers
    recovers_right nr (Ok (Sccrq o)) = named_right nr o o.recovery
    recovers_right nr (Ok (Sccrp o)) = dropped why.Tunnel
    recovers_right nr (Ok (Scccn response)) = dropped why.Tunnel
    recovers_right nr (Ok (StopCcn tunnel code error)) = dropped why.Tunnel
    recovers_right nr (Ok Hello) = dropped why.Tunnel
    recovers_right nr (Ok (Ocrq remote)) = dropped why.Tunnel
    recovers_right nr (Ok Ocrp) = dropped why.Tunnel
    recovers_right nr (Ok Occn) = dropped why.Tunnel
    recovers_right nr (Ok (Icrq remote serial calling)) = dropped why.Tunnel
    recovers_right nr (Ok (Icrp remote)) = dropped why.Tunnel
    recovers_right nr (Ok (Iccn speed framing sequenced)) = dropped why.Tunnel
    recovers_right nr (Ok (Cdn remote code error)) = dropped why.Tunnel
    recovers_right nr (Ok Wen) = dropped why.Tunnel
    recovers_right nr (Ok Sli) = dropped why.Tunnel
    recovers_right nr (Ok (Fsq sessions)) = dropped why.Tunnel
    recovers_right nr (Ok (Fsr answers)) = dropped why.Tunnel
    recovers_right nr (Err w) = dropped why.Tunnel

    -- ---- control messages

    none_known : (remote : ℕ) → known_as peer remote e.tunnels ≡ None
    unfolding known_as
    none_known remote = none_found (λ i. is_known peer remote (at e.tunnels i)) (ids_of e.tunnels) (λ i. by i (at e.tunnels i) refl)
      where
        by : (i : ℕ) (o : Option Tunnel) → at e.tunnels i ≡ o → is_known peer remote o ≡ true → ⊥
        by i None is h = true≢false (sym h)
        by i (Some t) is h = stranger i t is (eqb-true t.control.peer peer (and_left (t.control.peer == peer) _ h))

    none_answered : (remote : ℕ) → answered_to peer remote e.tunnels ≡ None
    unfolding answered_to
    none_answered remote = none_found (λ i. is_answered peer remote (at e.tunnels i)) (ids_of e.tunnels) (λ i. by i (at e.tunnels i) refl)
      where
        by : (i : ℕ) (o : Option Tunnel) → at e.tunnels i ≡ o → is_answered peer remote o ≡ true → ⊥
        by i None is h = true≢false (sym h)
        by i (Some t) is h = stranger i t is (eqb-true t.control.peer peer (and_left (t.control.peer == peer) _ h))

    module _ (bytes : List ℕ) (h : Header) where
      abbrev Leads : Addressee → Type 0
      Leads a = Right (for_addressee e env (Datagram peer bytes) peer h (body_of bytes h) a)

      nobody : (w : Why) → Leads (Nobody w)
      unfolding for_addressee
      nobody w = dropped w

      -- one that names no tunnel
      once_right : (a : Addressee) → NamesNone a → Leads (opens_once e peer a)
      unfolding opens_once for_addressee
      once_right (Opens remote) none =
          subst (λ k. Leads (opened_before remote k)) (sym (none_known remote))
          (opens_right bytes remote (next_of_peer h) (against_body e (body_of bytes h)))
      once_right (Recovers remote) none =
          subst (λ k. Leads (answered_before remote k)) (sym (none_answered remote))
          (recovers_right (next_of_peer h) (message_in (body_of bytes h)))
      once_right (Stops remote) none =
          subst (λ k. Leads (stopped_at k (answered_to peer remote e.tunnels))) (sym (none_known remote))
          (subst (λ k. Leads (stopped_at None k)) (sym (none_answered remote)) (nobody why.Tunnel))
      once_right (Answers remote) none = declines remote (next_of_peer h) out_of_order
      once_right (Nobody w) none = nobody w
      once_right (Main i) none = absurd none
      once_right (Recovery i) none = absurd none

      -- one that names a live tunnel, which goes to another peer
      tunnel_leads : (i : ℕ) (o : Option Tunnel) → at e.tunnels i ≡ o → Leads (at_tunnel peer i (option_map (λ t. t.control.peer) o))
      unfolding at_tunnel
      tunnel_leads i None is = nobody why.Tunnel
      tunnel_leads i (Some t) is =
          branch Leads (t.control.peer == peer) _ _
          (λ met. absurd (stranger i t is (eqb-true t.control.peer peer met)))
          (λ other. nobody why.Peer)

      -- one that names a recovery tunnel does so too
      line_leads : (i : ℕ) (o : Option Tunnel) → at e.tunnels i ≡ o → Leads (at_line peer i o)
      line_leads i None is = nobody why.Tunnel
      line_leads i (Some t) is =
          branch Leads (t.control.peer == peer) _ _
          (λ met. absurd (stranger i t is (eqb-true t.control.peer peer met)))
          (λ other. nobody why.Peer)

      recovery_leads : (o : Option ℕ) → Leads (at_recovery e peer o)
      recovery_leads None = nobody why.Tunnel
      recovery_leads (Some i) = line_leads i (at e.tunnels i) refl

      control_leads : Leads (addressed e peer h (body_of bytes h))
      unfolding addressed
      control_leads =
          branch Leads (h.tunnel == 0) _ _
          (λ zero. once_right (at_zero (body_of bytes h)) (zero_none (body_of bytes h)))
          (λ some. branch Leads (is_some (at e.tunnels h.tunnel)) _ _
          (λ there. tunnel_leads h.tunnel (at e.tunnels h.tunnel) refl)
          (λ gone. recovery_leads (recovered_by h.tunnel e.tunnels)))

    handed_right : (h : Header) (frame : List ℕ) (c : Carried) → carry_look e.role (look_in (at e.calls h.session)) peer h frame ≡ c
        → Right (handed e env h.session c)
    unfolding handed
    handed_right h frame (Dropped w) is = dropped w
    handed_right h frame (Upward tunnel to side f) is = absurd (none_upward h frame tunnel to side f is)

    received_right : (bytes : List ℕ) (r : Result Header HeaderError) → Right (receives e env peer bytes r)
    unfolding receives hands_up
    received_right bytes (Err x) = dropped (header_why x)
    received_right bytes (Ok h) =
        branch Right h.control _ _
        (λ control. control_leads bytes h)
        (λ data_is. handed_right h (frame_of (body_of bytes h)) _ refl)

    step_right : (bytes : List ℕ) → Right (plain_step e moment block (Datagram peer bytes))
    unfolding plain_step step_in
    step_right bytes = received_right bytes (header_of bytes)

pub strangers_change_nothing : StrangersChangeNothing
strangers_change_nothing e moment block ev peer bytes is looks stranger =
    subst (λ v. ChangesNothing e peer (step e moment block v)) (sym is)
    (step_right e looks peer stranger moment block (uncovered_datagram e.config.secret bytes))

pub datagrams_are_of_ends : DatagramsAreOfEnds
unfolding serves
datagrams_are_of_ends l moment block peer bytes = refl
