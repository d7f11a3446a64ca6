-- What a tunnel hears is a chain of moves.
use Rattle.step_laws.specs.Callers.{IsRing, WantsTunnel, wanted_to_lns}
use Rattle.std.proofs.Common.{◌≡◌, ◌⊎◌, inl, ⊎_elim, ℕ, Bool, true, false, cond, List, [], length, refl, sym, ap, ◌∙◌, subst, Option, Some, Result, Ok, Err, arith}
use Rattle.std.proofs.lemmas.Bool.{eqb-true, eqb-false, true≢false}
use Rattle.std.specs.Prelude.{◌==◌, not, unwrap_or}
use Rattle.id_table.specs.Order.{Ascends}
use Rattle.id_source.specs.Spaces.{takes_id}
use Rattle.id_source.specs.declared.IdError.{IdError}
use Rattle.wire_base.specs.declared.why.Why.{Why}
use Rattle.wire_base.specs.declared.why.Why.TheVariants as why
use Rattle.wire_base.specs.declared.cause.Cause.TheVariants as cause
use Rattle.wire_base.specs.declared.letter.Letter.{Letter}
use Rattle.control_message.specs.declared.message.Message.{Message}
use Rattle.control_message.specs.declared.message.Message.TheVariants.{Sccrq, Sccrp, Scccn, StopCcn, Hello, Ocrq, Ocrp, Occn, Icrq, Icrp, Iccn, Cdn, Wen, Sli, Fsq, Fsr}
use Rattle.control_message.specs.declared.message.Opening.{Opening}
use Rattle.recv_window.specs.declared.Class.{Class}
use Rattle.recv_window.specs.declared.Class.TheVariants.{Next, Duplicate, Ahead}
use Rattle.recv_window.specs.Window.{class_of}
use Rattle.control_channel.specs.Numbers.{class_told}
use Rattle.tunnel_fsm.specs.declared.table.TunnelState.{TunnelState}
use Rattle.tunnel_fsm.specs.declared.table.TunnelState.TheVariants as state
use Rattle.tunnel_fsm.specs.declared.table.TunnelEvent.TheVariants as event
use Rattle.tunnel_fsm.specs.declared.table.TunnelAction.{TunnelAction}
use Rattle.tunnel_fsm.specs.declared.table.TunnelAction.TheVariants as action
use Rattle.tunnel_fsm.specs.Rows.{rows, row_of, state_number}
use Rattle.end_model.specs.declared.tunnel.Call.{Call}
use Rattle.end_model.specs.declared.tunnel.Control.{Control}
use Rattle.end_model.specs.declared.event.Event.{Event}
use Rattle.end_model.specs.Reading.{message_in, call_fault_in, tunnel_fault_in}
use Rattle.end_model.specs.Calls.{are_too_many}
use Rattle.end_model.specs.Tunnels.{Tunnel, Turn, Recovering, is_current}
use Rattle.end_model.specs.Moments.{is_closed}
use Rattle.end_model.specs.Messages.{is_acceptable, event_by, opening_reason, tells_id, told_by, flags_of}
use Rattle.end_model.specs.Reasons.{out_of_order, no_secret}
use Rattle.end_model.specs.Events.{with_calls}
use Rattle.end_model.specs.Turn.{with_move}
use Rattle.end_model.specs.Sending.{gives, takes_one, reads_nr, takes_plain}
use Rattle.end_model.specs.Channels.{has_room, may_take, counts_acked}
use Rattle.end_model.specs.Openings.{connected, confirms}
use Rattle.end_model.specs.Hearing.{connects, takes_by, takes, hears, hears_said, hears_next, hears_letter, is_duplicate, in_tunnel, hears_control}
use Rattle.end_model.specs.Ringing.{rings_over, rings_by, rings_within, rings}
use Rattle.end_model.specs.End.{End}
use Rattle.step_laws.specs.Room.{IsFull, IsChosen, RingsOver}
use Rattle.step_laws.specs.Causes.{ForRing}
use Rattle.end_model.specs.Secrets.{is_wrong}
use Rattle.step_laws.proofs.Secrets.{right_of}
use Rattle.step_laws.specs.Moves.{Came, IsRight, ComesTo, IsNext, HearsNext, TellsNr}
use Rattle.step_laws.proofs.Lists.{not_true, branch}
use Rattle.step_laws.proofs.Owing.{live_in, live_open}
use Rattle.step_laws.proofs.Turns.{IsCurrent, small_draw, TurnOk, at_turn, is_roomy, same_first, learnt_state, drops_ok, caused_ok, requests_all_ok, adds_ok, adds_asked_ok, connected_ok, confirms_ok, plain_ok, reads_ok}
use Rattle.step_laws.proofs.Settling.{Settled, unsent, settled_ok}
use Rattle.step_laws.proofs.Comes.{Fresh, Taking, Plain, now, to_still, in_other, comes_at, begun, calls_first, spare_first}
use Rattle.step_laws.proofs.Calls.{plainly, in_call_ok}
use Rattle.step_laws.proofs.Questions.{in_query_ok, heeds_answer_ok}
use Rattle.end_model.specs.Querying.{told_at}
use Rattle.step_laws.proofs.Stopping.{busy, sccrq_ok, sccrp_shut_ok, scccn_shut_ok, scccn_wrong_ok, stop_ok, faulty_heard_ok, closed_plain}

module _ (e : End) (moment : ℕ) (ev : Event) (letters : List Letter) (calls : List (ℕ × Call)) (recovery : Option Recovering) (i : ℕ) where
  abbrev Good : Turn → Type 0
  Good t = Settled e moment ev letters calls recovery i t

  abbrev Takes : Turn → Type 0
  Takes t = Taking e moment ev letters calls recovery i t

  abbrev now_at : Turn → Tunnel
  now_at t = now e moment ev letters calls recovery i t

  sent_none : (t : Turn) → TurnOk e moment ev letters calls recovery i t → Good t
  sent_none t h = unsent e moment ev letters calls recovery i t h

  module _ (sorted : Ascends calls) where
    -- ---- letters about the tunnel

    connects_ok : (session : ℕ) (o : Opening) (t : Turn) → Takes t → t.control.state ≡ state.WaitCtlReply → HearsNext ev (now_at t) session (Sccrp o)
        → is_acceptable e.config.secret t.control.challenge o ≡ true
        → Good (connects e.role e.config calls (told_by o) state.Established t)
    unfolding connects connected gives with_move takes_one
    connects_ok session o t f is hears good =
        branch Good (has_room t.control) _ _
        (λ room.
        let u = connected e.config (told_by o) state.Established t in
        let learnt = learnt_state o.window (record t.control { remote = o.tunnel; flags = flags_of o.failover; state = state.Established }) in
        sent_none _
        (requests_all_ok e moment ev letters calls recovery i calls sorted u (ap state_number learnt) (same_first e moment ev letters calls recovery i u f.fresh.changed calls)
        (connected_ok e moment ev letters calls recovery i session o t is hears good (spare_first e moment ev letters calls recovery i t f) room f.fresh.good)))
        (λ full. absurd (is_roomy e moment ev letters calls recovery i t f.live f.fresh.good full))

    plain_at : (session : ℕ) (m : Message) (t : Turn) → Takes t → Plain e moment ev letters calls recovery i t session m → HearsNext ev (now_at t) session m
        → Good (takes_plain t)
    plain_at session m t f plain hears = plainly e moment ev letters calls recovery i t f (comes_at e moment ev letters calls recovery i t f session m plain hears)

    abbrev HeardSccrp : Opening → Turn → Type 0
    HeardSccrp o t =
        Good (takes_by e.role e.config calls (opening_reason e.config.secret t.control.challenge o) (told_by o)
        (row_of rows t.control.state (event_by event.SccrpAcc event.SccrpNotAcc e.config.secret t.control.challenge o)) t)

    -- one that is acceptable connects a tunnel that waits for it; another tunnel is closed
    sccrp_ok : (session : ℕ) (o : Opening) (t : Turn) → Takes t → HearsNext ev (now_at t) session (Sccrp o) → HeardSccrp o t
    unfolding takes_by
    sccrp_ok session o t f hears = by t.control.state (is_acceptable e.config.secret t.control.challenge o) refl refl
      where
        shut : (state_number t.control.state ≡ 1 → is_acceptable e.config.secret t.control.challenge o ≡ false) → HeardSccrp o t
        shut plain = sccrp_shut_ok e moment ev letters calls recovery i session o t f plain hears

        by : (s : TunnelState) (b : Bool) → t.control.state ≡ s → is_acceptable e.config.secret t.control.challenge o ≡ b → HeardSccrp o t
        by s false is bad = shut (λ waits. bad)
        by state.WaitCtlReply true is good =
            let row : row_of rows t.control.state (event_by event.SccrpAcc event.SccrpNotAcc e.config.secret t.control.challenge o) ≡ (state.Established, action.SendScccn) =
            rw (is, good) refl in
            subst (λ (x : TunnelState × TunnelAction). Good (takes_by e.role e.config calls (opening_reason e.config.secret t.control.challenge o) (told_by o) x t)) (sym row)
            (connects_ok session o t f is hears good)
        by state.Idle true is good = absurd (busy e moment ev letters calls recovery i t f (ap state_number is))
        by state.WaitCtlConn true is good = shut (λ waits. absurd (in_other t state.WaitCtlConn 1 is (λ w. omega (arith, w)) waits))
        by state.Established true is good = shut (λ waits. absurd (in_other t state.Established 1 is (λ w. omega (arith, w)) waits))
        by state.Closed true is good = absurd (true≢false (sym (ap is_closed is) ∙ f.live))

    confirmed_ok : (session : ℕ) (response : Option (List ℕ)) (t : Turn) → Takes t → t.control.state ≡ state.WaitCtlConn
        → HearsNext ev (now_at t) session (Scccn response) → IsRight 3 e.config.secret t.control.challenge response
        → Good (cond (state_number state.Established == state_number t.control.state) (takes_plain t) (confirms state.Established t))
    confirmed_ok session response t f is hears right =
        subst (λ (s : TunnelState). Good (cond (state_number state.Established == state_number s) (takes_plain t) (confirms state.Established t))) (sym is)
        (sent_none _ (confirms_ok e moment ev letters calls recovery i session response t is hears right (spare_first e moment ev letters calls recovery i t f) f.fresh.good))

    -- by whether it answers wrongly
    abbrev HeardScccn : Turn → Bool → TunnelState → Type 0
    HeardScccn t wrong s =
        Good (takes_by e.role e.config calls (cond wrong no_secret out_of_order) (tells_id 0) (row_of rows s (cond wrong event.ScccnNotAcc event.ScccnAcc)) t)

    -- an SCCCN that answers rightly confirms a tunnel that waits for it; else the tunnel is closed
    scccn_ok : (session : ℕ) (response : Option (List ℕ)) (t : Turn) → Takes t → HearsNext ev (now_at t) session (Scccn response)
        → HeardScccn t (is_wrong 3 e.config.secret t.control.challenge response) t.control.state
    unfolding takes_by
    scccn_ok session response t f hears = by (is_wrong 3 e.config.secret t.control.challenge response) t.control.state refl refl
      where
        by : (wrong : Bool) (s : TunnelState) → is_wrong 3 e.config.secret t.control.challenge response ≡ wrong → t.control.state ≡ s
            → HeardScccn t wrong t.control.state
        by true s wrong is = scccn_wrong_ok e moment ev letters calls recovery i session response t f wrong hears
        by false state.WaitCtlConn right is =
            subst (HeardScccn t false) (sym is)
            (confirmed_ok session response t f is hears (right_of 3 e.config.secret t.control.challenge response right))
        by false state.Idle right is = absurd (busy e moment ev letters calls recovery i t f (ap state_number is))
        by false state.WaitCtlReply right is =
            scccn_shut_ok e moment ev letters calls recovery i session response t f (in_other t state.WaitCtlReply 2 is (λ w. omega (arith, w))) right hears
        by false state.Established right is =
            scccn_shut_ok e moment ev letters calls recovery i session response t f (in_other t state.Established 2 is (λ w. omega (arith, w))) right hears
        by false state.Closed right is = absurd (true≢false (sym (ap is_closed is) ∙ f.live))

    -- ---- what is heard

    hears_ok : (session : ℕ) (m : Message) (t : Turn) → Takes t → HearsNext ev (now_at t) session m → Good (hears e.role e.config calls session m t)
    unfolding hears takes
    hears_ok session (Sccrq o) t f h = sccrq_ok e moment ev letters calls recovery i session o t f h
    hears_ok session (Sccrp o) t f h = sccrp_ok session o t f h
    hears_ok session (Scccn response) t f h = scccn_ok session response t f h
    hears_ok session Hello t f h = plain_at session Hello t f tt h
    hears_ok session (StopCcn tunnel code error) t f h = stop_ok e moment ev letters calls recovery i session tunnel code error t f h
    hears_ok session (Cdn remote code error) t f h = in_call_ok e moment ev letters calls recovery i session (Cdn remote code error) t f tt h
    hears_ok session (Icrq remote serial calling) t f h = in_call_ok e moment ev letters calls recovery i session (Icrq remote serial calling) t f tt h
    hears_ok session (Icrp remote) t f h = in_call_ok e moment ev letters calls recovery i session (Icrp remote) t f tt h
    hears_ok session (Iccn speed framing sequenced) t f h = in_call_ok e moment ev letters calls recovery i session (Iccn speed framing sequenced) t f tt h
    hears_ok session (Ocrq remote) t f h = in_call_ok e moment ev letters calls recovery i session (Ocrq remote) t f tt h
    hears_ok session Ocrp t f h = plain_at session Ocrp t f tt h
    hears_ok session Occn t f h = plain_at session Occn t f tt h
    hears_ok session Wen t f h = plain_at session Wen t f tt h
    hears_ok session Sli t f h = plain_at session Sli t f tt h
    hears_ok session (Fsq sessions) t f h = in_query_ok e moment ev letters calls recovery i session sessions t f h
    hears_ok session (Fsr answers) t f h =
        heeds_answer_ok e moment ev letters calls recovery i session answers t f h (told_at t.control.state t.query answers) refl

    hears_said_ok : (r : Result Message Why) (t : Turn) → Takes t → (k : Came) → IsNext ev (now_at t) k → message_in k.body ≡ r
        → Good (hears_said e.role e.config calls k.header.session (call_fault_in k.body) (tunnel_fault_in k.body) r t)
    unfolding hears_said
    hears_said_ok (Err w) t f k next is =
        faulty_heard_ok e moment ev letters calls recovery i t f k next w is (call_fault_in k.body) refl (tunnel_fault_in k.body) refl
    hears_said_ok (Ok m) t f k next is =
        hears_ok k.header.session m t f (record { letter = k; next = next; says = record { session_is = refl; said = is } })

    -- a closed tunnel takes what comes, and does nothing
    hears_next_ok : (t : Turn) → Fresh e moment ev letters calls recovery i t → may_take t.control calls ≡ true → (k : Came) → IsNext ev (now_at t) k
        → Good (hears_next e.role e.config calls k.header.session k.body t)
    unfolding hears_next
    hears_next_ok t f may k next =
        branch Good (is_closed t.control.state) _ _
        (λ closed. sent_none _ (plain_ok e moment ev letters calls recovery i t (record {
          letter = k;
          next = next;
          why = λ m reads. closed_plain (at_turn e moment ev letters calls recovery i t) (now_at t) k.header.session m closed;
          spare = λ live. absurd (true≢false (sym closed ∙ live));
        }) f.good))
        (λ live. hears_said_ok (message_in k.body) t (record { fresh = f; live = live; may = may }) k next refl)

    -- a control message of the tunnel's peer, for the tunnel
    module _ (k : Came) where
      -- where it isn't taken, there is no room
      abbrev FullAt : Turn → Type 0
      FullAt t =
          (length k.body ≡ 0 → ⊥) → class_of (unwrap_or k.header.ns 0) t.control.channel.inbox ≡ Next → may_take t.control calls ≡ false
          → IsFull e moment ev

      letter_ok : (t : Turn) → Fresh e moment ev letters calls recovery i t → FullAt t → ComesTo ev t.control k → (length k.body ≡ 0 → ⊥) → (c : Class)
          → class_of (unwrap_or k.header.ns 0) t.control.channel.inbox ≡ c → Good (hears_letter e.role e.config calls k.header.session k.body (Some c) t)
      unfolding hears_letter
      letter_ok t f no_room to some Duplicate class = sent_none t f.good
      letter_ok t f no_room to some (Ahead by) class = sent_none _ (drops_ok e moment ev letters calls recovery i why.Ahead (λ q. absurd cc) t f.good)
      letter_ok t f no_room to some Next class =
          branch Good (may_take t.control calls) _ _
          (λ may. hears_next_ok t f may k (record { comes = to; some = some; next = class }))
          (λ full. sent_none _ (drops_ok e moment ev letters calls recovery i why.Queue (λ q. no_room some class full) t f.good))

      told_ok : (t : Turn) → Fresh e moment ev letters calls recovery i t → FullAt t → ComesTo ev t.control k
          → Good (hears_letter e.role e.config calls k.header.session k.body (class_told t.control.channel (unwrap_or k.header.ns 0) (length k.body == 0)) t)
      unfolding hears_letter
      told_ok t f no_room to =
          branch (λ c. Good (hears_letter e.role e.config calls k.header.session k.body c t)) (length k.body == 0) _ _
          (λ none. sent_none t f.good)
          (λ some. letter_ok t f no_room to (eqb-false (length k.body) 0 some) (class_of (unwrap_or k.header.ns 0) t.control.channel.inbox) refl)

      in_tunnel_ok : (t : Turn) (c : Option Class) → Good (hears_letter e.role e.config calls k.header.session k.body c t)
          → IsCurrent recovery → Settled e moment ev letters calls recovery i (in_tunnel e.role e.config letters calls k.header.session k.body c t)
      unfolding in_tunnel
      in_tunnel_ok t c good current = settled_ok e moment ev letters calls recovery i (is_duplicate c) _ (λ again. current) good

      -- nothing was given or acknowledged before
      module _ (t : Turn) (f : Fresh e moment ev letters calls recovery i t) (same : f.first ≡ t.control) (to : ComesTo ev t.control k) where
        abbrev nr : ℕ
        nr = unwrap_or k.header.nr 0

        tells_nr : TellsNr ev t.control nr
        tells_nr = record { letter = k; comes = to; tells = refl }

        full_read : FullAt (reads_nr nr t)
        unfolding reads_nr with_move
        full_read some class full =
            let first = begun e moment ev letters calls recovery i t f in
            let now_full : may_take (counts_acked nr moment t.control) calls ≡ false =
            ap (λ m. may_take (counts_acked nr m t.control) calls) (sym f.good.stays.4) ∙ full in
            let there : ComesTo ev f.first k = subst (λ c. ComesTo ev c k) (sym same) to in
            record {
              id = i;
              tunnel = first;
              there = f.there;
              letter = k;
              next = record { comes = there; some = some; next = ap (λ (c : Control). class_of (unwrap_or k.header.ns 0) c.channel.inbox) same ∙ class };
              nr = nr;
              tells = record { letter = k; comes = there; tells = refl };
              current = f.good.current;
              full = ap (λ c. may_take (counts_acked nr moment c) calls) same ∙ now_full;
            }

        fresh_read : t.given ≡ [] → t.acked ≡ 0 → Fresh e moment ev letters calls recovery i (reads_nr nr t)
        unfolding reads_nr with_move
        fresh_read none whole = record {
          good = reads_ok e moment ev letters calls recovery i nr t none whole tells_nr f.good;
          changes = f.changes;
          changed = f.changed;
          first = f.first;
          there = f.there;
          local = f.local;
          remote = f.remote;
          peer = f.peer;
          state = f.state;
          challenge = f.challenge;
          inbox = f.inbox;
          sessions = f.sessions;
          some = f.some;
        }

        read_to : ComesTo ev (reads_nr nr t).control k
        unfolding reads_nr with_move
        read_to = to_still ev k t.control (reads_nr nr t).control refl refl refl to

        pub hears_control_ok : t.given ≡ [] → t.acked ≡ 0
            → Settled e moment ev letters calls recovery i (hears_control e.role e.config letters calls k.header k.body t)
        unfolding hears_control reads_nr with_move
        hears_control_ok none whole =
            branch (Settled e moment ev letters calls recovery i) (state_number t.control.state == 0) _ _
            (λ idle. absurd (f.good.stays.1 (eqb-true (state_number t.control.state) 0 idle)))
            (λ busy. branch (Settled e moment ev letters calls recovery i) (not (is_current t.on.mode)) _ _
            (λ inactive. absurd (true≢false (sym f.good.current ∙ (sym (ap is_current f.good.stays.6) ∙ not_true _ inactive))))
            (λ active. in_tunnel_ok (reads_nr nr t) (class_told t.control.channel (unwrap_or k.header.ns 0) (length k.body == 0))
            (told_ok (reads_nr nr t) (fresh_read none whole) full_read read_to) f.good.current))

    -- ---- rings

    -- a tunnel that is open, or whose SCCRQ isn't answered yet
    abbrev pub Goes : Turn → Type 0
    Goes t = (state_number t.control.state ≡ 3) ⊎ (state_number t.control.state ≡ 1)

    goes_live : (t : Turn) → Goes t → is_closed t.control.state ≡ false
    goes_live t goes = ⊎_elim (λ is. live_open t.control is) (λ waits. live_in t.control 1 (λ f. omega (arith, f)) waits) goes

    rings_over_ok : (who : List ℕ) (s : ℕ) (t : Turn) → Takes t → are_too_many calls ≡ false → Goes t → IsRing ev who → WantsTunnel e ev t.control.peer
        → takes_id t.ids.sessions ≡ Ok s
        → TurnOk e moment ev letters calls recovery i (rings_over e.role e.config who s t)
    unfolding rings_over
    rings_over_ok who s t f few goes rings wants drawn =
        let few_now : are_too_many (with_calls t.changed calls) ≡ false = ap are_too_many (calls_first e moment ev letters calls recovery i t f.fresh) ∙ few in
        let may = spare_first e moment ev letters calls recovery i t f in
        branch (TurnOk e moment ev letters calls recovery i) (state_number t.control.state == 3) _ _
        (λ is. adds_asked_ok e moment ev letters calls recovery i who s t f.fresh.changes (eqb-true (state_number t.control.state) 3 is) few_now may rings wants drawn
        (small_draw t.ids.sessions s drawn f.fresh.good.stays.2) f.fresh.good)
        (λ other. ⊎_elim
        (λ is_open. absurd (eqb-false (state_number t.control.state) 3 other is_open))
        (λ waits. adds_ok e moment ev letters calls recovery i who s t f.fresh.changes waits few_now may rings wants drawn f.fresh.good)
        goes)

    abbrev Rung : Turn → Type 0
    Rung u = TurnOk e moment ev letters calls recovery i u

    -- over the tunnel that is there
    module _ (who : List ℕ) (t : Turn) (f : Fresh e moment ev letters calls recovery i t) (same : f.first ≡ t.control) (chosen : IsChosen e i) (rings_is : IsRing ev who)
        (wants : WantsTunnel e ev t.control.peer) where
      rings_there : RingsOver e ev (begun e moment ev letters calls recovery i t f)
      rings_there = record { subscriber = who; rings = rings_is; id = i; chosen = chosen; there = f.there; peer = f.peer ∙ wanted_to_lns e ev t.control.peer wants }

      rings_by_ok : are_too_many calls ≡ false → may_take t.control calls ≡ true → Goes t → (r : Result ℕ IdError) → takes_id t.ids.sessions ≡ r
          → Rung (rings_by e.role e.config who r t)
      unfolding rings_by
      rings_by_ok few may goes (Err x) is =
          caused_ok e moment ev letters calls recovery i cause.Ids
          (ForRing (begun e moment ev letters calls recovery i t f) x rings_there few (ap (λ c. may_take c calls) same ∙ may) (ap takes_id (sym f.sessions) ∙ is)) t f.good
      rings_by_ok few may goes (Ok s) is =
          rings_over_ok who s t (record { fresh = f; live = goes_live t goes; may = may }) few goes rings_is wants is

      pub rings_ok : Goes t → Rung (rings e.role e.config calls who t)
      unfolding rings rings_within
      rings_ok goes =
          branch Rung (state_number t.control.state == 0) _ _
          (λ idle. absurd (f.good.stays.1 (eqb-true (state_number t.control.state) 0 idle)))
          (λ busy. branch Rung (are_too_many calls) _ _
          (λ many. caused_ok e moment ev letters calls recovery i cause.Calls (inl (begun e moment ev letters calls recovery i t f, rings_there, many)) t f.good)
          (λ few. branch Rung (may_take t.control calls) _ _
          (λ may. rings_by_ok few may goes (takes_id t.ids.sessions) refl)
          (λ full. caused_ok e moment ev letters calls recovery i cause.Queue
          (begun e moment ev letters calls recovery i t f, rings_there, few, ap (λ c. may_take c calls) same ∙ full) t f.good)))
