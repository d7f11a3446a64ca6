-- An SCCRQ opens a tunnel or is declined, and an SCCRP that names no tunnel is declined.
use Rattle.std.proofs.Common.{◌≡◌, inl, inr, ⊎_elim, ℕ, ◌<◌, true, List, length, refl, sym, ap, ◌∙◌, subst, Option, Some, None, Ok, Err, false, is_some, ◌⊎◌, ◌≤◌, Result, arith}
use Rattle.l2tp_header.specs.declared.header.Header.{Header}
use Rattle.l2tp_header.specs.Reading.{header_of, body_of}
use Rattle.control_message.specs.declared.message.Opening.{Opening}
use Rattle.control_message.specs.declared.message.Message.TheVariants.{Sccrq}
use Rattle.end_model.specs.declared.event.Addressee.TheVariants.{Opens, Answers}
use Rattle.end_model.specs.declared.event.Event.{Event}
use Rattle.end_model.specs.declared.event.Event.TheVariants.{Datagram}
use Rattle.end_model.specs.declared.moves.Declined.{Declined}
use Rattle.end_model.specs.Reading.{message_in, TunnelFault, tunnel_fault_in, at_zero}
use Rattle.end_model.specs.Tunnels.{Env, Tunnel}
use Rattle.end_model.specs.Reasons.{Reason, out_of_order, fault_reason, no_recovery, other_version, no_secret, no_id}
use Rattle.end_model.specs.End.{End, env_of, in_new, known_as, against_opening, against_faulty, against_body, next_of_peer, declined, opens_or_declines, Stepped, gives_only, is_tied, is_recoverable, freezes, recovers_tunnel, recovers_by, recovers}
use Rattle.step_laws.specs.Causes.{NamesNone, Stands, WouldRecover, IsUnansweredYet, ForAnswer}
use Rattle.step_laws.specs.Moves.{LacksSecret, WhyDeclined, AnOpening, AFaultyOpening, AnAnswer, ARecovery, IsNamed, StandsAgainstRecovery, OfOtherVersion, OfNoTunnel, OfNoSecret, OfNoId}
use Rattle.step_laws.specs.Steps.{AreKept}
use Rattle.step_laws.proofs.Faults.{IsOfOpening, opening_fault_stands}
use Rattle.step_laws.proofs.Zero.{IsFaultyOpening, SaysOpening}
use Rattle.step_laws.proofs.Known.{none_known}
use Rattle.step_laws.proofs.Openings.{against_is, none_against, against_stands, other_than}
use Rattle.step_laws.proofs.Leaving.{IsStep, drop_chain}
use Rattle.step_laws.proofs.Ends.{first_heard}
use Rattle.control_message.specs.declared.message.Recovery.{Recovery}
use Rattle.std.proofs.lemmas.Bool.{true≢false, eqb-true, eq-eqb}
use Rattle.std.proofs.lemmas.Option.{none-some}
use Rattle.std.proofs.lemmas.Bool.Decides.{nat_tests}
use Rattle.std.specs.Prelude.{◌==◌, ◌&&◌, not, nat_lt}
use Rattle.id_table.specs.Ids.{at}
use Rattle.id_source.specs.Spaces.{takes_id}
use Rattle.id_source.specs.declared.IdError.{IdError}
use Rattle.wire_base.specs.declared.why.Why.{Why}
use Rattle.tunnel_fsm.specs.Rows.{state_number}
use Rattle.end_model.specs.Recovering.{asked_in}
use Rattle.end_model.specs.Secrets.{lacks_secret}
use Rattle.step_laws.proofs.Secrets.{lacks_so, lacks_not}
use Rattle.step_laws.proofs.Lists.{branch, not_true, not_false, and_left, and_right}
use Rattle.step_laws.proofs.Freezing.{froze_chain}
use Rattle.wire_base.specs.declared.why.Why.TheVariants as why_of
use Rattle.end_model.specs.declared.out.Out.TheVariants.{Drop}

-- an opening that asks for no recovery
none_of : (o : Option Recovery) → is_some o ≡ false → o ≡ None
none_of None h = refl
none_of (Some r) h = absurd (true≢false h)

module _ (e : End) (kept : AreKept e) (moment peer : ℕ) (bytes : List ℕ) (h : Header) (read : header_of bytes ≡ Ok h) (control : h.control ≡ true)
    (none : h.tunnel ≡ 0) (remote : ℕ) (some : remote ≡ 0 → ⊥) where
  abbrev ev : Event
  ev = Datagram peer bytes

  abbrev body : List ℕ
  body = body_of bytes h

  named : NamesNone ev peer body
  named = record { bytes = bytes; is = refl; header = h; read = read; control = control; none = none; body_is = refl }

  -- ---- what is declined

  abbrev decline : Reason → Declined
  decline r = record { peer = peer; remote = remote; nr = next_of_peer h; result = r.result; error = r.error }

  abbrev Declining : Reason → Type 0
  Declining r = IsStep e moment ev (declined e peer remote (next_of_peer h) r)

  pub declined_chain : (r : Reason) → Stands e moment ev r.cause → WhyDeclined e body (decline r) → Declining r
  unfolding declined
  declined_chain r stands why = record {
    chain = record {
      chain = (
        e,
        record {
          bytes = bytes;
          is = refl;
          header = h;
          read = read;
          control = control;
          none = none;
          nr = refl;
          some = some;
          why = why;
          after = refl;
        },
        refl,
      );
      outputs = (tt, (inr (record { declined = decline r; there = inl refl; peer_is = refl; bytes_are = refl; origin_is = refl }), tt));
      frames = (tt, tt);
      kept = kept;
    };
    tells = (stands, (tt, tt));
  }

  -- an SCCRP
  pub answer_chain : at_zero body ≡ Answers remote → Declining out_of_order
  answer_chain is =
      declined_chain out_of_order (inr (inr (inl (record { peer = peer; remote = remote; body = body; came = named; answers = is }))))
      (AnAnswer is refl refl)

  module _ (alone : known_as peer remote e.tunnels ≡ None) where
    -- an SCCRQ against which something stands
    opening_chain : (o : Opening) → message_in body ≡ Ok (Sccrq o) → remote ≡ o.tunnel → is_some o.recovery ≡ false → (r : Reason) → against_opening e o ≡ Some r → Declining r
    opening_chain o said is plain r against =
        let unknown = subst (λ (n : ℕ). known_as peer n e.tunnels ≡ None) is alone in
        declined_chain r
        (against_stands e moment ev o (record { peer = peer; body = body; came = named; said = said; ordinary = plain; alone = none_known peer o.tunnel e.tunnels unknown }) r against)
        (AnOpening o said (none_of o.recovery plain) is (none_known peer remote e.tunnels alone) (against_is e o r against))

    -- or that has a fault
    faulty_chain : at_zero body ≡ Opens remote → (g : TunnelFault) → tunnel_fault_in body ≡ Some g → IsOfOpening body g → Declining (fault_reason g.cause)
    faulty_chain opens g has is =
        declined_chain (fault_reason g.cause)
        (opening_fault_stands e moment ev g.cause is.cause (record {
          peer = peer;
          remote = remote;
          body = body;
          came = named;
          opens = opens;
          alone = none_known peer remote e.tunnels alone;
          is_of = is.kind;
          fault = is.fault;
        }))
        (AFaultyOpening g opens (none_known peer remote e.tunnels alone) has is.event refl refl)

    -- ---- what opens a tunnel

    module _ (block : List ℕ) where
      abbrev env : Env
      env = env_of e moment block

      abbrev Leads : Option Reason → Type 0
      Leads o = IsStep e moment ev (opens_or_declines e env ev peer remote (next_of_peer h) o)

      -- there may be one more, and what is asked can be answered
      abbrev MayAnswer : Opening → Type 0
      MayAnswer o = (length e.tunnels < 1024) × (LacksSecret e.config.secret o.challenge → ⊥)

      -- where it tells no other id, and that is so, and no recovery is asked for
      new_chain : ((o : Opening) → message_in body ≡ Ok (Sccrq o) → (o.tunnel ≡ remote) × MayAnswer o × (o.recovery ≡ None)) → Leads None
      unfolding opens_or_declines in_new
      new_chain tells = first_heard e kept moment ev block peer bytes h read control refl
          (λ o said. ((λ j t there goes has. none_known peer remote e.tunnels alone j t there goes (has ∙ (tells o said).0)), (tells o said).1, (tells o said).2))

      -- an SCCRQ that can be read
      module _ (o : Opening) (said : message_in body ≡ Ok (Sccrq o)) (is : remote ≡ o.tunnel) (plain : is_some o.recovery ≡ false) where
        against_said : against_opening e o ≡ against_body e body
        unfolding against_body
        against_said = rw said refl

        said_same : MayAnswer o → (p : Opening) → message_in body ≡ Ok (Sccrq p) → (p.tunnel ≡ remote) × MayAnswer p × (p.recovery ≡ None)
        said_same may p again =
            let both : Ok (Sccrq o) ≡ Ok (Sccrq p) = sym said ∙ again in
            let same : o ≡ p = cc in
            (sym (is ∙ ap (λ (x : Opening). x.tunnel) same), subst MayAnswer same may, subst (λ (x : Opening). x.recovery ≡ None) same (none_of o.recovery plain))

        said_by : (r : Option Reason) → against_opening e o ≡ r → Leads r
        unfolding opens_or_declines
        said_by None stands = new_chain (said_same (none_against e o stands))
        said_by (Some r) stands = opening_chain o said is plain r stands

        said_chain : Leads (against_body e body)
        said_chain = subst Leads against_said (said_by (against_opening e o) refl)

      -- one that can't
      module _ (opens : at_zero body ≡ Opens remote) (faulty : IsFaultyOpening body) where
        against_unread : against_faulty (tunnel_fault_in body) ≡ against_body e body
        unfolding against_body
        against_unread = rw faulty.unread refl

        unread_none : (p : Opening) → message_in body ≡ Ok (Sccrq p) → (p.tunnel ≡ remote) × MayAnswer p × (p.recovery ≡ None)
        unread_none p said = let both : Err faulty.why ≡ Ok (Sccrq p) = sym faulty.unread ∙ said in absurd cc

        unread_by : (q : Option TunnelFault) → tunnel_fault_in body ≡ q → Leads (against_faulty q)
        unfolding opens_or_declines
        unread_by None has = new_chain unread_none
        unread_by (Some g) has = faulty_chain opens g has (faulty.fault g has)

        unread_chain : Leads (against_body e body)
        unread_chain = subst Leads against_unread (unread_by (tunnel_fault_in body) refl)

      -- so either opens a tunnel, or is declined
      pub asks_chain : at_zero body ≡ Opens remote → SaysOpening body remote → Leads (against_body e body)
      asks_chain opens says = ⊎_elim (λ s. said_chain s.0 s.1 s.2 s.3) (λ faulty. unread_chain opens faulty) says

-- ---- an SCCRQ that asks for the recovery of a tunnel

-- an established tunnel to the peer with these ids of both ends, or not
named_open : (peer remote : ℕ) (t : Tunnel) → is_recoverable peer remote t ≡ true
    → (state_number t.control.state ≡ 3) × (t.control.peer ≡ peer) × (t.control.remote ≡ remote)
named_open peer remote t h =
    let open_is = state_number t.control.state == 3 in
    let goes = t.control.peer == peer in
    let has = t.control.remote == remote in
    let both = and_right open_is (goes && has) h in
    (eqb-true (state_number t.control.state) 3 (and_left open_is (goes && has) h), eqb-true t.control.peer peer (and_left goes has both), eqb-true t.control.remote remote (and_right goes has both))

open_named : (peer remote : ℕ) (t : Tunnel) → state_number t.control.state ≡ 3 → t.control.peer ≡ peer → t.control.remote ≡ remote → is_recoverable peer remote t ≡ true
open_named peer remote t open_is goes has = rw (open_is, goes, has, eq-eqb peer peer refl, eq-eqb remote remote refl) refl

not_below : (a b : ℕ) → nat_lt a b ≡ false → b ≤ a
not_below a b h = grind (arith, nat_tests)

named_ids : (r : Recovery) (sender receiver : ℕ) → sender ≡ r.sender → receiver ≡ r.receiver → r ≡ record { sender = sender; receiver = receiver }
named_ids r sender receiver a b = rw (a, b) refl

module _ (e : End) (kept : AreKept e) (moment peer : ℕ) (bytes : List ℕ) (block : List ℕ) (h : Header) (read : header_of bytes ≡ Ok h) (control : h.control ≡ true)
    (none : h.tunnel ≡ 0) (o : Opening) (said : message_in (body_of bytes h) ≡ Ok (Sccrq o)) (some : o.tunnel ≡ 0 → ⊥)
    (alone : IsUnansweredYet e peer o.tunnel) where
  abbrev event : Event
  event = Datagram peer bytes

  abbrev env_now : Env
  env_now = env_of e moment block

  abbrev Recovers : Stepped → Type 0
  Recovers s = IsStep e moment event s

  abbrev would : (r : Recovery) → o.recovery ≡ Some r → WouldRecover e event o
  would r asks = record {
    peer = peer;
    body = body_of bytes h;
    came = record { bytes = bytes; is = refl; header = h; read = read; control = control; none = none; body_is = refl };
    said = said;
    recovery = r;
    asks = asks;
    alone = alone;
  }

  module _ (r : Recovery) (asks : o.recovery ≡ Some r) where
    abbrev w : WouldRecover e event o
    w = would r asks

    refuses_recovery : (q : Reason) → Stands e moment event q.cause → StandsAgainstRecovery e peer o r q.result q.error
        → Recovers (declined e peer o.tunnel (next_of_peer h) q)
    refuses_recovery q stands against =
        declined_chain e kept moment peer bytes h read control none o.tunnel some q stands (ARecovery o said r asks refl against)

    unnamed : o.version ≡ 256 → (IsNamed e peer r → ⊥) → Recovers (declined e peer o.tunnel (next_of_peer h) no_recovery)
    unnamed version other = refuses_recovery no_recovery (inr (o, w, version, other)) (OfNoTunnel version other refl refl)

    dropped : (why : Why) → (why ≡ why_of.Queue → ⊥) → Recovers (gives_only e (Drop why))
    dropped why other = drop_chain e kept moment event why other

    -- a tunnel that is there
    module _ (version : o.version ≡ 256) (t : Tunnel) (is : at e.tunnels r.receiver ≡ Some t) where
      local_is : t.control.local ≡ r.receiver
      local_is = (kept.tunnels r.receiver t is).local

      there_now : at e.tunnels t.control.local ≡ Some t
      there_now = subst (λ j. at e.tunnels j ≡ Some t) (sym local_is) is

      not_named : is_recoverable peer r.sender t ≡ false → IsNamed e peer r → ⊥
      not_named other named =
          let both : Some t ≡ Some named.tunnel = sym is ∙ named.there in
          let same : t ≡ named.tunnel = cc in
          true≢false (sym (open_named peer r.sender t (ap (λ (x : Tunnel). state_number x.control.state) same ∙ named.open_is)
          (ap (λ (x : Tunnel). x.control.peer) same ∙ named.peer_is) (ap (λ (x : Tunnel). x.control.remote) same ∙ named.remote_is)) ∙ other)

      module _ (ids : (state_number t.control.state ≡ 3) × (t.control.peer ≡ peer) × (t.control.remote ≡ r.sender)) where
        named_so : IsNamed e peer r
        named_so = record { tunnel = t; there = is; open_is = ids.0; peer_is = ids.1; remote_is = ids.2 }

        no_ids : (LacksSecret e.config.secret o.challenge → ⊥) → (x : IdError) → (takes_id e.tunnel_ids ≡ Err x) ⊎ (takes_id e.recovery_ids ≡ Err x)
            → Recovers (declined e peer o.tunnel (next_of_peer h) no_id)
        no_ids able x lacks = refuses_recovery no_id (ForAnswer o x w version named_so able lacks) (OfNoId version named_so able x lacks refl refl)

        freezes_so : (LacksSecret e.config.secret o.challenge → ⊥) → is_tied e.role t ≡ false → t.control.mark ≤ asked_in o
            → (a b : Result ℕ IdError) → takes_id e.tunnel_ids ≡ a → takes_id e.recovery_ids ≡ b → Recovers (freezes e env_now peer (next_of_peer h) o t.control.local t a b)
        unfolding freezes
        freezes_so able untied newer (Err x) b first second = no_ids able x (inl first)
        freezes_so able untied newer (Ok local) (Err x) first second = no_ids able x (inr second)
        freezes_so able untied newer (Ok local) (Ok draw) first second =
            froze_chain e kept moment event block t there_now o (record { peer = peer; header = h; body = body_of bytes h })
            (record { bytes = bytes; is = refl; read = read; control = control; body_is = refl }) (sym ids.1) none said version
            (asks ∙ ap (λ (x : Recovery). Some x) (named_ids r t.control.remote t.control.local ids.2 local_is)) able ids.0 untied newer local draw first second

      recovers_local : Recovers (recovers_tunnel e env_now peer (next_of_peer h) o t.control.local (Some t) r.sender)
      unfolding recovers_tunnel
      recovers_local =
          branch Recovers (not (is_recoverable peer r.sender t)) _ _
          (λ other. unnamed version (not_named (not_true _ other)))
          (λ good. branch Recovers (is_tied e.role t) _ _
          (λ tied. dropped why_of.Tie (λ q. absurd cc))
          (λ untied. branch Recovers (nat_lt (asked_in o) t.control.mark) _ _
          (λ older. dropped why_of.Mark (λ q. absurd cc))
          (λ newer. branch Recovers (lacks_secret e.config.secret o.challenge) _ _
          (λ lacks.
          let ids = named_open peer r.sender t (not_false _ good) in
          let lacking = lacks_so e.config.secret o.challenge lacks in
          refuses_recovery no_secret (inr (inr (inl (o, w, version, named_so ids, lacking)))) (OfNoSecret version (named_so ids) lacking refl refl))
          (λ able. freezes_so (named_open peer r.sender t (not_false _ good)) (lacks_not e.config.secret o.challenge able) untied (not_below (asked_in o) t.control.mark newer)
          (takes_id e.tunnel_ids) (takes_id e.recovery_ids) refl refl))))

      recovers_there : Recovers (recovers_tunnel e env_now peer (next_of_peer h) o r.receiver (Some t) r.sender)
      recovers_there = subst (λ i. Recovers (recovers_tunnel e env_now peer (next_of_peer h) o i (Some t) r.sender)) local_is recovers_local

    recovers_at : o.version ≡ 256 → (x : Option Tunnel) → at e.tunnels r.receiver ≡ x → Recovers (recovers_tunnel e env_now peer (next_of_peer h) o r.receiver x r.sender)
    unfolding recovers_tunnel
    recovers_at version None is = unnamed version (λ named. none-some named.tunnel (sym is ∙ named.there))
    recovers_at version (Some t) is = recovers_there version t is

    recovers_named : Recovers (recovers_by e env_now peer (next_of_peer h) o (Some r))
    unfolding recovers_by
    recovers_named =
        branch Recovers (not (o.version == 256)) _ _
        (λ other.
        let version = other_than o (not_true _ other) in
        refuses_recovery other_version (inl (o, inr w, version)) (OfOtherVersion version refl refl))
        (λ good. recovers_at (eqb-true o.version 256 (not_false _ good)) (at e.tunnels r.receiver) refl)

  pub recovers_chain : is_some o.recovery ≡ true → Recovers (recovers e env_now peer (next_of_peer h) (message_in (body_of bytes h)))
  unfolding recovers
  recovers_chain asks =
      subst (λ m. Recovers (recovers e env_now peer (next_of_peer h) m)) (sym said) (by o.recovery refl asks)
    where
      by : (x : Option Recovery) → o.recovery ≡ x → is_some x ≡ true → Recovers (recovers_by e env_now peer (next_of_peer h) o x)
      by None is none = absurd (true≢false (sym none))
      by (Some r) is some = recovers_named r is
