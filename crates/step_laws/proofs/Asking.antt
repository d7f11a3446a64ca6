-- Where a turn leaves a call that waits in an open tunnel, there is no room for the request.
use Rattle.std.proofs.Common.{◌≡◌, ◌⊎◌, ⊎_elim, ℕ, Bool, true, false, List, [], ◌∷◌, ◌++◌, length, refl, sym, ap, ◌∙◌, subst, Option, Some, None, Result, Ok, Err, arith, map}
use Rattle.std.proofs.lemmas.Bool.{eqb-true, eqb-false, true≢false, ltb-false}
use Rattle.std.proofs.lemmas.Option.{none-some}
use Rattle.std.specs.Prelude.{◌&&◌, ◌==◌, nat_lt, unwrap_or, not}
use Rattle.id_table.specs.Ids.{at, put, without, ids_of, at-none}
use Rattle.id_table.specs.Order.{Ascends, ascends-put, found_put, found_without, same_or_not}
use Rattle.id_source.specs.Spaces.{takes_id}
use Rattle.id_source.specs.declared.IdError.{IdError}
use Rattle.wire_base.specs.declared.why.Why.{Why}
use Rattle.wire_base.specs.declared.why.Why.TheVariants as why
use Rattle.wire_base.specs.declared.cause.Cause.{Cause as CauseOf}
use Rattle.wire_base.specs.declared.cause.Cause.TheVariants as cause
use Rattle.wire_base.specs.declared.letter.Letter.{Letter}
use Rattle.wire_base.specs.declared.pair.Pair.{Pair}
use Rattle.l2tp_header.specs.declared.header.Header.{Header}
use Rattle.l2tp_header.specs.declared.header.HeaderError.{HeaderError}
use Rattle.control_message.specs.declared.message.Message.{Message}
use Rattle.control_message.specs.declared.message.Message.TheVariants.{Sccrq, Sccrp, Scccn, StopCcn, Hello, Ocrq, Ocrp, Occn, Icrq, Icrp, Iccn, Cdn, Wen, Sli, Fsq, Fsr}
use Rattle.control_message.specs.declared.kind.Kind.{Kind}
use Rattle.control_message.specs.declared.kind.Kind.TheVariants as kind
use Rattle.recv_window.specs.declared.Class.{Class}
use Rattle.recv_window.specs.declared.Class.TheVariants.{Next, Duplicate, Ahead}
use Rattle.control_channel.specs.Numbers.{class_told}
use Rattle.tunnel_fsm.specs.declared.table.TunnelState.{TunnelState}
use Rattle.tunnel_fsm.specs.declared.table.TunnelAction.{TunnelAction}
use Rattle.tunnel_fsm.specs.declared.table.TunnelAction.TheVariants as action
use Rattle.tunnel_fsm.specs.declared.table.TunnelEvent.{TunnelEvent}
use Rattle.tunnel_fsm.specs.declared.table.TunnelEvent.TheVariants as event
use Rattle.tunnel_fsm.specs.Rows.{rows, row_of, state_number}
use Rattle.call_fsm.specs.declared.table.CallAction.{CallAction}
use Rattle.call_fsm.specs.declared.table.CallAction.TheVariants as call_action
use Rattle.call_fsm.specs.declared.table.CallEvent.{CallEvent}
use Rattle.call_fsm.specs.declared.table.CallEvent.TheVariants as call_event
use Rattle.call_fsm.specs.declared.table.CallState.TheVariants as call
use Rattle.end_model.specs.declared.tunnel.Call.{Call}
use Rattle.end_model.specs.declared.tunnel.Config.{Config}
use Rattle.end_model.specs.declared.tunnel.Control.{Control}
use Rattle.call_link.specs.declared.turn.LinkTurn.{LinkTurn}
use Rattle.call_link.specs.Link.{new_link}
use Rattle.call_link.specs.Turns.{Opens, linked}
use Rattle.end_names.specs.declared.role.Role.{Role}
use Rattle.step_laws.proofs.Linking.{linked_call, negotiated_is, negotiated_put}
use Rattle.end_model.specs.declared.out.Out.TheVariants.{Cause}
use Rattle.end_model.specs.declared.moves.Move.TheVariants as move
use Rattle.session_looks.specs.Frames.{header_why}
use Rattle.l2tp_header.specs.Reading.{body_of}
use Rattle.end_model.specs.Reading.{message_in, CallFault, call_fault_in, TunnelFault, tunnel_fault_in}
use Rattle.end_model.specs.Calls.{row_for, row_of_none, advanced, with_numbers, counted, rung, asked_for, is_request, is_connection, is_up, are_too_many, is_clean_up, is_short, is_long, sessions_of}
use Rattle.end_model.specs.Stopping.{rejects, rejected, shut, shuts, closed_told, closes_tunnel, closed_by, shuts_by, clears}
use Rattle.end_model.specs.Messages.{connected_reason, connected_event, event_by, opening_reason, Told, tells_id, told_by}
use Rattle.end_model.specs.Tunnels.{Turn, is_current}
use Rattle.end_model.specs.Turn.{with_output, with_move, with_change, with_call, with_new, drops, ends_all, ends_call}
use Rattle.end_model.specs.Openings.{connected, confirms}
use Rattle.end_model.specs.Events.{with_calls}
use Rattle.end_model.specs.Ringing.{requested, requests, requests_at, requests_all, adds, rings_over, rings_by, rings_within, rings}
use Rattle.end_model.specs.Hearing.{connects, takes_by, takes, about_call, in_call, hears, hears_faulty, hears_said, hears_next, hears_letter, is_duplicate, in_tunnel, hears_control, hears_datagram, ignores_all, in_query, heeds_answer}
use Rattle.end_model.specs.Sending.{gives, gives_as, settles, takes_one, reads_nr, takes_plain, ignores}
use Rattle.end_model.specs.Channels.{has_room, may_take, counts_taken}
use Rattle.end_model.specs.Reasons.{Reason, reason, out_of_state, fault_reason, out_of_order, not_asked}
use Rattle.end_model.specs.Refusing.{refused, refuses, of_no_call, answers_by}
use Rattle.end_model.specs.Closing.{end_silent, end_told, ends_by, closes}
use Rattle.end_model.specs.Asking.{granted, asked_by, replied, replies, session_named}
use Rattle.end_model.specs.Faulty.{faulty_at, faulty, in_faulty_call}
use Rattle.end_model.specs.Moments.{is_closed, is_open}
use Rattle.end_model.specs.Connecting.{first_up, first_up_by, second_up, connects_call, linked_up, second_up_by, end_heard, end_heard_by, ends_named}
use Rattle.end_model.specs.Links.{link_env, with_link, is_passing}
use Rattle.end_model.specs.Linking.{sends_frames, negotiated}
use Rattle.end_model.specs.Frames.{sends_frame, counts, carried, carries}
use Rattle.end_model.specs.Querying.{answered_query, answers_query, asks_more, ended_of, hears_answer, queries, queries_by, told_at, took_answer}
use Rattle.step_laws.specs.Letters.{Among}
use Rattle.session_query.specs.Queries.{next_batch, answers_to}
use Rattle.step_laws.proofs.Lists.{branch, and_left, found_among, with_calls-more}
use Rattle.step_laws.proofs.States.{requested_state, connected_state, up_state}
use Rattle.step_laws.proofs.Keeping.{settled_keeps, more_full}
use Rattle.step_laws.proofs.Shutting.{all_ended_is, none_left, ended}
pub use Rattle.step_laws.proofs.WaitingCalls.{Waits, other_state, replied_state, opening_row, Busy, Idle}
use Rattle.step_laws.specs.Queries.{without_each}
use Rattle.step_laws.proofs.Queries.{ascends_each, ended_each, found_each}

module _ (role : Role) (calls : List (ℕ × Call)) where
  abbrev There : Turn → ℕ → Call → Type 0
  There t s c = at (with_calls t.changed calls) s ≡ Some c

  -- the SCCRQ isn't answered yet
  abbrev IsOpening : Turn → Type 0
  IsOpening t = state_number t.control.state ≡ 1

  -- a turn whose calls are as they were, of which none waits but in a closed tunnel
  pub record Begins (t : Turn) : Type 0 where
    pub none : t.changed ≡ []
    pub asked : (IsOpening t → ⊥) → (s : ℕ) (c : Call) → at calls s ≡ Some c → Waits role s c → ⊥

  -- what it leaves: none waits but where there is no room
  abbrev pub Asked : Turn → Type 0
  Asked t = (IsOpening t → ⊥) → (s : ℕ) (c : Call) → There t s c → Waits role s c → has_room t.control ≡ false

  at_first : (t : Turn) → Begins t → (s : ℕ) (c : Call) → There t s c → at calls s ≡ Some c
  unfolding with_calls
  at_first t b s c there = let found = rw b.none at there in found

  -- the calls and the state stay
  pub same : (t u : Turn) → u.changed ≡ t.changed → u.control.state ≡ t.control.state → Begins t → Asked u
  same t u calls_are state b is_open s c there waits =
      absurd (b.asked (λ opening. is_open (ap state_number state ∙ opening)) s c
      (at_first t b s c (subst (λ xs. at (with_calls xs calls) s ≡ Some c) calls_are there)) waits)

  -- one call is put that doesn't wait
  puts : (t u : Turn) (k : ℕ) (d : Call) → with_calls u.changed calls ≡ put (with_calls t.changed calls) k d → u.control.state ≡ t.control.state
      → (d.state ≡ call.WaitTunnel → ⊥) → Begins t → Asked u
  puts t u k d is state other b is_open s c there waits =
      absurd (⊎_elim
      (λ (a : (s ≡ k) × (d ≡ c)). other (ap (λ (x : Call). x.state) a.1 ∙ (requested_state role c.state waits.row).0))
      (λ (a : (s ≡ k → ⊥) × (There t s c)). b.asked (λ opening. is_open (ap state_number state ∙ opening)) s c (at_first t b s c a.1) waits)
      (found_put (with_calls t.changed calls) k d s c (subst (λ xs. at xs s ≡ Some c) is there)))

  -- a turn in which no call waits, whatever it did with the others
  pub record Rests (t : Turn) : Type 0 where
    pub none : (IsOpening t → ⊥) → (s : ℕ) (c : Call) → There t s c → Waits role s c → ⊥
    pub ascends : Ascends (with_calls t.changed calls)

  pub begins_rests : Ascends calls → (t : Turn) → Begins t → Rests t
  unfolding with_calls
  begins_rests order t b = record { none = λ is_open s c there waits. b.asked is_open s c (at_first t b s c there) waits; ascends = rw b.none order }

  rests_asked : (t u : Turn) → u.changed ≡ t.changed → u.control.state ≡ t.control.state → Rests t → Asked u
  rests_asked t u calls_are state r is_open s c there waits =
      absurd (r.none (λ opening. is_open (ap state_number state ∙ opening)) s c (subst (λ xs. at (with_calls xs calls) s ≡ Some c) calls_are there) waits)

  -- frames that are sent in a call that is established
  counts_rests : (s : ℕ) (frame : List ℕ) (c : Call) (o : Option ℕ) (t : Turn) → is_up c.state ≡ true → Rests t → Rests (counts s c o (sends_frame s frame c t))
  unfolding counts sends_frame with_output with_move with_call
  counts_rests s frame c None t up r = record { none = r.none; ascends = r.ascends }
  counts_rests s frame c (Some n) t up r =
      let more = with_calls-more t.changed s (Some (counted c)) calls in
      let other = other_state c.state call.Established (up_state c.state up) (λ k. absurd cc) in
      record {
        none = λ is_open q d there waits. ⊎_elim
            (λ (a : (q ≡ s) × (counted c ≡ d)). other (ap (λ (x : Call). x.state) a.1 ∙ (requested_state role d.state waits.row).0))
            (λ (a : (q ≡ s → ⊥) × (There t q d)). r.none is_open q d a.1 waits)
            (found_put (with_calls t.changed calls) s (counted c) q d (subst (λ xs. at xs q ≡ Some d) more there));
        ascends = subst Ascends (sym more) (ascends-put s (counted c) (with_calls t.changed calls) r.ascends);
      }

  carried_rests : (s : ℕ) (frame : List ℕ) (c : Call) (t : Turn) → is_up c.state ≡ true → Rests t → Rests (carried s frame c t)
  unfolding carried
  carried_rests s frame c t up r = counts_rests s frame c c.sequence t up r

  pub frames_rest : (s : ℕ) (fs : List (List ℕ)) (c : Call) (t : Turn) → is_up c.state ≡ true → Rests t → Rests (sends_frames s fs c t)
  unfolding sends_frames
  frames_rest s [] c t up r = r
  frames_rest s (f ∷ fs) c t up r = frames_rest s fs (counted c) (carried s f c t) up (carried_rests s f c t up r)

  -- one more, where none waits but in a tunnel without room
  put_more : (t u : Turn) (k : ℕ) (d : Call) → with_calls u.changed calls ≡ put (with_calls t.changed calls) k d → u.control ≡ t.control → (d.state ≡ call.WaitTunnel → ⊥) → Asked t
      → Asked u
  put_more t u k d is same other h is_open s c there waits =
      ap has_room same ∙ ⊎_elim
      (λ (a : (s ≡ k) × (d ≡ c)). absurd (other (ap (λ (x : Call). x.state) a.1 ∙ (requested_state role c.state waits.row).0)))
      (λ (a : (s ≡ k → ⊥) × (There t s c)). h (λ opening. is_open (ap (λ (x : Control). state_number x.state) same ∙ opening)) s c a.1 waits)
      (found_put (with_calls t.changed calls) k d s c (subst (λ xs. at xs s ≡ Some c) is there))

  pub negotiated_asked : (s : ℕ) (c : Call) (v : LinkTurn) (t : Turn) → is_up c.state ≡ true → Asked t → Asked (negotiated s c v t)
  negotiated_asked s c v t up h =
      let is = negotiated_is s c v t in
      put_more t (negotiated s c v t) s (linked_call c v)
      (negotiated_put calls s c v t) (ap (λ (x : Turn). x.control) is)
      (other_state c.state call.Established (up_state c.state up) (λ k. absurd cc)) h

  pub settled : (again : Bool) (letters : List Letter) (t : Turn) → Asked t → Asked (settles again letters t)
  settled again letters t h is_open s c there waits =
      let g = settled_keeps again letters t in
      g.room ∙ h (λ opening. is_open (ap state_number g.state ∙ opening)) s c (subst (λ xs. at (with_calls xs calls) s ≡ Some c) g.changed there) waits

  pub dropped : (w : Why) (t : Turn) → Begins t → Asked (drops w t)
  unfolding drops with_output
  dropped w t b = same t (drops w t) refl refl b

  plain : (t : Turn) → Begins t → Asked (takes_plain t)
  unfolding takes_plain with_move takes_one
  plain t b = same t (takes_plain t) refl refl b

  plain_begins : (t : Turn) → Begins t → Begins (takes_plain t)
  unfolding takes_plain with_move takes_one
  plain_begins t b = record { none = b.none; asked = b.asked }

  ignored : (w : Why) (t : Turn) → Begins t → Asked (ignores w t)
  unfolding ignores takes_plain drops with_output with_move takes_one
  ignored w t b = same t (ignores w t) refl refl b

  -- ---- requests

  -- the calls that wait are as they were
  abbrev IsAsking : Turn → Type 0
  IsAsking t = (s : ℕ) (c : Call) → There t s c → Waits role s c → at calls s ≡ Some c

  record Leads (t u : Turn) : Type 0 where
    room : has_room t.control ≡ false → has_room u.control ≡ false
    fewer : (s : ℕ) (c : Call) → There u s c → Waits role s c → There t s c

  leads_nowhere : (t : Turn) → Leads t t
  leads_nowhere t = record { room = λ f. f; fewer = λ s c there waits. there }

  leads_on : (t u v : Turn) → Leads t u → Leads u v → Leads t v
  leads_on t u v h k = record { room = λ f. k.room (h.room f); fewer = λ s c there waits. h.fewer s c (k.fewer s c there waits) waits }

  abbrev Past : ℕ → Turn → Type 0
  Past s t = (c : Call) → There t s c → Waits role s c → has_room t.control ≡ false

  record Requested (s : ℕ) (t u : Turn) : Type 0 where
    leads : Leads t u
    past : Past s u

  -- a call that doesn't wait is put
  put_leads : (t u : Turn) (k : ℕ) (d : Call) → u.changed ≡ t.changed ++ (k, Some d) ∷ [] → (has_room t.control ≡ false → has_room u.control ≡ false)
      → (d.state ≡ call.WaitTunnel → ⊥) → Requested k t u
  put_leads t u k d more room other =
      let is : with_calls u.changed calls ≡ put (with_calls t.changed calls) k d = ap (λ xs. with_calls xs calls) more ∙ with_calls-more t.changed k (Some d) calls in
      let found : (s : ℕ) (c : Call) → There u s c → Waits role s c → (s ≡ k → ⊥) × There t s c =
      λ s c there waits. ⊎_elim
      (λ (a : (s ≡ k) × (d ≡ c)). absurd (other (ap (λ (x : Call). x.state) a.1 ∙ (requested_state role c.state waits.row).0)))
      (λ (a : (s ≡ k → ⊥) × (There t s c)). a)
      (found_put (with_calls t.changed calls) k d s c (subst (λ xs. at xs s ≡ Some c) is there)) in
      record {
        leads = record { room = room; fewer = λ s c there waits. (found s c there waits).1 };
        past = λ c there waits. absurd ((found k c there waits).0 refl);
      }

  requested_ok : (k : Config) (s : ℕ) (c : Call) (t : Turn) → is_request (row_for role c call_event.TunnelOpen).1 ≡ true
      → Requested s t (requested role k s c t)
  unfolding requested gives_as with_change with_move with_call advanced
  requested_ok k s c t row = put_leads t (requested role k s c t) s (advanced role call_event.TunnelOpen t.on.moment c) refl (λ f. more_full t.control f)
      (other_state _ call.WaitReply (requested_state role c.state row).1 (λ k. absurd cc))

  full_ok : (s : ℕ) (t : Turn) → has_room t.control ≡ false → Requested s t (drops why.Queue t)
  unfolding drops with_output
  full_ok s t full = record { leads = record { room = λ f. f; fewer = λ q d there waits. there }; past = λ d there waits. full }

  -- that call alone waits under its session
  abbrev OnlyThat : ℕ → Call → Turn → Type 0
  OnlyThat s c t = (d : Call) → There t s d → Waits role s d → d ≡ c

  requests_ok : (k : Config) (s : ℕ) (c : Call) (t : Turn) → OnlyThat s c t → Requested s t (requests role k s c t)
  unfolding requests
  requests_ok k s c t only =
      branch (Requested s t) (is_request (row_for role c call_event.TunnelOpen).1) _ _
      (λ row. branch (Requested s t) (has_room t.control) _ _ (λ may. requested_ok k s c t row) (λ full. full_ok s t full))
      (λ none. record {
        leads = leads_nowhere t;
        past = λ d there waits. absurd (true≢false (sym (subst (Waits role s) (only d there waits) waits).row ∙ none));
      })

  requests_at_ok : (k : Config) (s : ℕ) (o : Option Call) (t : Turn) → at calls s ≡ o → IsAsking t → Requested s t (requests_at role k s o t)
  unfolding requests_at
  requests_at_ok k s None t is h = record { leads = leads_nowhere t; past = λ d there waits. absurd (none-some d (sym is ∙ h s d there waits)) }
  requests_at_ok k s (Some c) t is h =
      branch (Requested s t) (nat_lt s 65536) _ _
      (λ small. requests_ok k s c t (λ d there waits. let both : Some d ≡ Some c = sym (h s d there waits) ∙ is in cc))
      (λ big. record {
        leads = leads_nowhere t;
        past = λ d there waits. absurd (let few = waits.small in let many = ltb-false s 65536 big in omega (arith, few, many));
      })

  record AllRequested (ss : List ℕ) (t u : Turn) : Type 0 where
    leads : Leads t u
    past : (s : ℕ) → Among s ss → Past s u

  requests_all_ok : (k : Config) (ss : List ℕ) (t : Turn) → IsAsking t → AllRequested ss t (requests_all role k ss calls t)
  unfolding requests_all
  requests_all_ok k [] t h = record { leads = leads_nowhere t; past = λ s a. absurd a }
  requests_all_ok k (s ∷ ss) t h =
      let u = requests_at role k s (at calls s) t in
      let v = requests_all role k ss calls u in
      let l = requests_at_ok k s (at calls s) t refl h in
      let rest = requests_all_ok k ss u (λ q c there waits. h q c (l.leads.fewer q c there waits) waits) in
      record {
        leads = leads_on t u v l.leads rest.leads;
        past = λ q a. ⊎_elim
            (λ (is : s ≡ q). subst (λ j. Past j v) is (λ c there waits. rest.leads.room (l.past c (rest.leads.fewer s c there waits) waits)))
            (λ later. rest.past q later)
            a;
      }

  -- ---- letters about the tunnel

  connects_asked : (c : Config) (told : Told) (next : TunnelState) (t : Turn) → Begins t
      → Asked (connects role c calls told next t)
  unfolding connects connected gives with_move takes_one with_calls
  connects_asked c told next t b =
      branch Asked (has_room t.control) _ _
      (λ may.
      let u = connected c told next t in
      let first : IsAsking u = λ s c there waits. at_first t b s c there in
      let a = requests_all_ok c (ids_of calls) u first in
      λ is_open s c there waits. a.past s (found_among calls s c (first s c (a.leads.fewer s c there waits) waits)) c there waits)
      (λ full. dropped why.Queue t b)

  confirms_asked : (next : TunnelState) (t : Turn) → (IsOpening t → ⊥) → Begins t → Asked (confirms next t)
  unfolding confirms with_move takes_one
  confirms_asked next t was_open b is_open s c there waits = absurd (b.asked was_open s c (at_first t b s c there) waits)

  -- ---- tunnels that close

  -- no call is there any more
  none_there : (u : Turn) → with_calls u.changed calls ≡ [] → Asked u
  none_there u none is_open s c there waits = absurd (none-some c (sym (at-none s) ∙ subst (λ xs. at xs s ≡ Some c) none there))

  ended_calls : (t : Turn) → t.changed ≡ [] → with_calls (ends_all (ids_of calls) t).changed calls ≡ []
  ended_calls t none = ap (λ (u : Turn). with_calls u.changed calls) (all_ended_is (ids_of calls) t) ∙ rw none (none_left calls)

  shuts_asked : (r : Reason) (remote : ℕ) (next : TunnelState) (t : Turn) → Begins t → Asked (closes_tunnel r calls remote next t)
  unfolding closes_tunnel closed_told shuts gives with_output with_move
  shuts_asked r remote next t b =
      branch Asked (has_room t.control) _ _
      (λ may. none_there (closed_told r calls remote next t)
      (ended_calls (record t { control = shut remote next t.on.moment t.control; outputs = t.outputs ++ Cause r.cause ∷ [] }) b.none))
      (λ full. dropped why.Queue t b)

  -- and the letter is taken
  shut_taken : (r : Reason) (remote : ℕ) (next : TunnelState) (t : Turn) → Asked (closes_tunnel r calls remote next t)
      → Asked (takes_plain (closes_tunnel r calls remote next t))
  unfolding takes_plain with_move takes_one
  shut_taken r remote next t h = h

  rejects_asked : (r : Reason) (remote : ℕ) (next : TunnelState) (t : Turn) → Begins t → Asked (rejects r calls remote next t)
  unfolding rejects rejected shuts gives with_output with_move takes_one
  rejects_asked r remote next t b =
      branch Asked (has_room t.control) _ _
      (λ may. none_there (rejected r calls remote next t)
      (ended_calls (record t { control = shut remote next t.on.moment (counts_taken t.control); took = true; outputs = t.outputs ++ Cause r.cause ∷ [] }) b.none))
      (λ full. dropped why.Queue t b)

  shut_heard_asked : (next : TunnelState) (t : Turn) → Begins t → Asked (closed_by calls next t)
  unfolding closed_by shuts with_move takes_one
  shut_heard_asked next t b =
      none_there (closed_by calls next t)
      (ended_calls (record t { control = shut t.control.remote next t.on.moment (counts_taken t.control); took = true }) b.none)

  cleared_asked : (t : Turn) → Begins t → Asked (clears calls t)
  unfolding clears with_move
  cleared_asked t b = none_there (clears calls t) (ended_calls (with_move (move.Cleared t.control.local (is_open t.control.state)) t) b.none)

  pub shuts_by_asked : (letters : List Letter) (next : TunnelState) (a : TunnelAction) (t : Turn) → Begins t
      → Asked (settles false letters (shuts_by calls (next, a) t))
  unfolding shuts_by
  shuts_by_asked letters next a t b = settled false letters (shuts_by calls (next, a) t) (by a)
    where
      by : (a : TunnelAction) → Asked (shuts_by calls (next, a) t)
      by action.SendStopCcn =
          branch Asked (is_current t.on.mode) _ _
          (λ active. shuts_asked (reason cause.Operator 1 None) t.control.remote next t b)
          (λ inactive. cleared_asked t b)
      by action.Nothing = same t t refl refl b
      by action.SendSccrq = same t t refl refl b
      by action.SendSccrp = same t t refl refl b
      by action.SendScccn = same t t refl refl b
      by action.CleanUp = same t t refl refl b

  -- ---- letters by the tunnel's table

  takes_by_asked : (c : Config) (r : Reason) (told : Told) (next : TunnelState) (a : TunnelAction) (t : Turn)
      → (IsOpening t → a ≡ action.Nothing → state_number next ≡ state_number t.control.state) → Begins t
      → Asked (takes_by role c calls r told (next, a) t)
  unfolding takes_by
  takes_by_asked c r told next action.SendScccn t stays b = connects_asked c told next t b
  takes_by_asked c r told next action.Nothing t stays b =
      branch Asked (state_number next == state_number t.control.state) _ _
      (λ is. plain t b)
      (λ other. confirms_asked next t (λ opening. eqb-false (state_number next) (state_number t.control.state) other (stays opening refl)) b)
  takes_by_asked c r told next action.SendSccrq t stays b = plain t b
  takes_by_asked c r told next action.SendSccrp t stays b = plain t b
  takes_by_asked c r told next action.SendStopCcn t stays b =
      branch Asked (state_number t.control.state == 1) _ _
      (λ one. rejects_asked r told.remote next t b)
      (λ other. shut_taken r t.control.remote next t (shuts_asked r t.control.remote next t b))
  takes_by_asked c r told next action.CleanUp t stays b = shut_heard_asked next t b

  takes_asked : (c : Config) (r : Reason) (ev : TunnelEvent) (told : Told) (t : Turn) → Begins t
      → Asked (takes role c calls r ev told t)
  unfolding takes
  takes_asked c r ev told t b =
      let row = row_of rows t.control.state ev in
      takes_by_asked c r told row.0 row.1 t (λ opening. opening_row t.control.state opening ev) b

  -- ---- letters about a call

  replied_asked : (remote s : ℕ) (t : Turn) → Begins t → Asked (replied role remote s t)
  unfolding replied gives with_move with_new takes_one
  replied_asked remote s t b =
      puts t (replied role remote s t) s (asked_for role remote t.on.moment) (with_calls-more t.changed s (Some _) calls) refl (replied_state role remote t.on.moment) b

  replies_asked : (remote s : ℕ) (t : Turn) → Begins t → Asked (replies role remote s t)
  unfolding replies
  replies_asked remote s t b = branch Asked (has_room t.control) _ _ (λ may. replied_asked remote s t b) (λ full. dropped why.Queue t b)

  first_up_asked : (s remote : ℕ) (c : Call) (t : Turn) → is_connection (row_for role c call_event.IcrpAcc).1 ≡ true → Begins t
      → Asked (first_up role s remote c t)
  unfolding first_up gives with_change with_move with_call takes_one advanced
  first_up_asked s remote c t row b =
      puts t (first_up role s remote c t) s (advanced role call_event.IcrpAcc t.on.moment (record c { remote = remote }))
      (with_calls-more t.changed s (Some _) calls) refl
      (other_state _ call.Established (connected_state role c.state row).1 (λ k. absurd cc)) b

  second_up_asked : (sequenced : Bool) (s : ℕ) (d : Call) (t : Turn) → is_up d.state ≡ true → Begins t → Asked (second_up sequenced s d t)
  unfolding second_up with_change with_move with_call takes_one
  second_up_asked sequenced s d t up b =
      puts t (second_up sequenced s d t) s d (with_calls-more t.changed s (Some d) calls) refl (other_state d.state call.Established (up_state d.state up) (λ k. absurd cc)) b

  linked_up_asked : (sequenced : Bool) (s : ℕ) (c : Call) (t : Turn) → is_up (row_for role c call_event.IccnAcc).0 ≡ true → Begins t
      → Asked (linked_up role sequenced s c t)
  unfolding linked_up connects_call advanced
  linked_up_asked sequenced s c t row b =
      let l = new_link (link_env t.on) in
      let d = with_link l (with_numbers sequenced (advanced role call_event.IccnAcc t.on.moment c)) in
      negotiated_asked s d (linked (link_env t.on) Opens l) (second_up sequenced s d t) row (second_up_asked sequenced s d t row b)

  refused_asked : (r : Reason) (remote : ℕ) (t : Turn) → Begins t → Asked (refused r remote t)
  unfolding refused gives with_output with_move takes_one
  refused_asked r remote t b = same t (refused r remote t) refl refl b

  refuses_asked : (r : Reason) (remote : ℕ) (t : Turn) → Begins t → Asked (refuses r remote t)
  unfolding refuses
  refuses_asked r remote t b = branch Asked (has_room t.control) _ _ (λ may. refused_asked r remote t b) (λ full. dropped why.Queue t b)

  no_call_asked : (r : Reason) (remote : ℕ) (a : CallAction) (t : Turn) → Begins t → Asked (of_no_call r remote a t)
  unfolding of_no_call
  no_call_asked r remote call_action.SendCdn t b = refuses_asked r remote t b
  no_call_asked r remote call_action.DropSession t b = ignored why.Session t b
  no_call_asked r remote call_action.Nothing t b = plain t b
  no_call_asked r remote call_action.SendIcrq t b = plain t b
  no_call_asked r remote call_action.SendIcrp t b = plain t b
  no_call_asked r remote call_action.SendIccn t b = plain t b
  no_call_asked r remote call_action.CleanUp t b = plain t b

  module _ (order : Ascends calls) where
    -- ---- calls that end

    takes_out : (t u : Turn) (k : ℕ) → u.changed ≡ t.changed ++ (k, None) ∷ [] → u.control.state ≡ t.control.state → Rests t → Asked u
    takes_out t u k more state r is_open s c there waits =
        let less : with_calls u.changed calls ≡ without (with_calls t.changed calls) k = ap (λ xs. with_calls xs calls) more ∙ with_calls-more t.changed k None calls in
        let was = (found_without (with_calls t.changed calls) k s c r.ascends (subst (λ xs. at xs s ≡ Some c) less there)).1 in
        absurd (r.none (λ opening. is_open (ap state_number state ∙ opening)) s c was waits)

    silent_asked : (k : ℕ) (booked : Bool) (t : Turn) → Rests t → Asked (end_silent k booked t)
    unfolding end_silent ends_call with_output with_change with_move
    silent_asked k booked t r = takes_out t (end_silent k booked t) k refl refl r

    told_asked : (for : CauseOf) (k : ℕ) (c : Call) (result : ℕ) (error : Option ℕ) (t : Turn) → Rests t
        → Asked (end_told k c result error (with_output (Cause for) t))
    unfolding end_told gives ends_call with_output with_change with_move
    told_asked for k c result error t r = takes_out t (end_told k c result error (with_output (Cause for) t)) k refl refl r

    full_asked : (t : Turn) → Rests t → Asked (drops why.Queue t)
    unfolding drops with_output
    full_asked t r = rests_asked t (drops why.Queue t) refl refl r

    pub ends_by_asked : (for : CauseOf) (result : ℕ) (error : Option ℕ) (k : ℕ) (c : Call) (a : CallAction) (t : Turn) → Rests t
        → Asked (ends_by for result error k c a t)
    unfolding ends_by
    ends_by_asked for result error k c call_action.CleanUp t r = silent_asked k (is_up c.state) t r
    ends_by_asked for result error k c call_action.SendCdn t r =
        branch Asked (not (is_current t.on.mode)) _ _
        (λ inactive. silent_asked k (is_up c.state) t r)
        (λ active. branch Asked (has_room t.control) _ _ (λ may. told_asked for k c result error t r) (λ full. full_asked t r))
    ends_by_asked for result error k c call_action.Nothing t r = rests_asked t t refl refl r
    ends_by_asked for result error k c call_action.SendIcrq t r = rests_asked t t refl refl r
    ends_by_asked for result error k c call_action.SendIcrp t r = rests_asked t t refl refl r
    ends_by_asked for result error k c call_action.SendIccn t r = rests_asked t t refl refl r
    ends_by_asked for result error k c call_action.DropSession t r = rests_asked t t refl refl r

    pub closes_asked : (for : CauseOf) (on : CallEvent) (result s : ℕ) (letters : List Letter) (o : Option Call) (t : Turn) → Begins t
        → Asked (settles false letters (closes role for on result s o t))
    unfolding closes
    closes_asked for on result s letters o t b = settled false letters (closes role for on result s o t) (by o)
      where
        by : (o : Option Call) → Asked (closes role for on result s o t)
        by None = dropped why.Call t b
        by (Some c) =
            branch Asked (nat_lt s 65536) _ _ (λ small. ends_by_asked for result None s c (row_for role c on).1 t (begins_rests order t b)) (λ big. same t t refl refl b)

    -- ---- letters about a call that there is

    answers_asked : (r : Reason) (s : ℕ) (c : Call) (a : CallAction) (t : Turn) → Begins t → Asked (answers_by r s c a t)
    unfolding answers_by
    answers_asked r s c a t b =
        branch Asked (nat_lt s 65536) _ _ (λ small. ends_by_asked r.cause r.result r.error s c a (takes_plain t) (begins_rests order (takes_plain t) (plain_begins t b))) (λ big. plain t b)

    asked_by_asked : (s remote : ℕ) (g : Result ℕ Reason) (o : Option Call) (t : Turn) → Begins t → Asked (asked_by role s remote g o t)
    unfolding asked_by
    asked_by_asked s remote g (Some c) t b = answers_asked out_of_state s c (row_for role c call_event.IcrqAcc).1 t b
    asked_by_asked s remote (Ok drawn) None t b = replies_asked remote drawn t b
    asked_by_asked s remote (Err r) None t b = refuses_asked r remote t b

    first_up_by_asked : (s remote : ℕ) (o : Option Call) (t : Turn) → Begins t → Asked (first_up_by role s remote o t)
    unfolding first_up_by
    first_up_by_asked s remote None t b = no_call_asked out_of_state remote (row_of_none role call_event.IcrpAcc).1 t b
    first_up_by_asked s remote (Some c) t b =
        branch Asked (is_connection (row_for role c call_event.IcrpAcc).1) _ _
        (λ row. branch Asked (has_room t.control) _ _ (λ may. first_up_asked s remote c t row b) (λ full. dropped why.Queue t b))
        (λ none. answers_asked out_of_state s c (row_for role c call_event.IcrpAcc).1 t b)

    second_up_by_asked : (sequenced : Bool) (s : ℕ) (o : Option Call) (t : Turn) → Begins t → Asked (second_up_by role sequenced s o t)
    unfolding second_up_by
    second_up_by_asked sequenced s None t b = no_call_asked out_of_state 0 (row_of_none role call_event.IccnAcc).1 t b
    second_up_by_asked sequenced s (Some c) t b =
        branch Asked (is_up (row_for role c call_event.IccnAcc).0) _ _
        (λ row. linked_up_asked sequenced s c t row b)
        (λ none. answers_asked out_of_state s c (row_for role c call_event.IccnAcc).1 t b)

    end_heard_asked : (k : ℕ) (booked : Bool) (t : Turn) → Begins t → Asked (end_heard k booked t)
    unfolding end_heard ends_call with_output with_change with_move takes_one
    end_heard_asked k booked t b = takes_out t (end_heard k booked t) k refl refl (begins_rests order t b)

    end_heard_by_asked : (s : ℕ) (o : Option Call) (t : Turn) → Begins t → Asked (end_heard_by role s o t)
    unfolding end_heard_by
    end_heard_by_asked s None t b = no_call_asked out_of_state 0 (row_of_none role call_event.CdnCame).1 t b
    end_heard_by_asked s (Some c) t b =
        branch Asked (is_clean_up (row_for role c call_event.CdnCame).1) _ _ (λ row. end_heard_asked s (is_up c.state) t b) (λ none. plain t b)

    about_asked : (session : ℕ) (m : Message) (t : Turn) → Begins t → Asked (about_call role calls session m t)
    unfolding about_call ends_named
    about_asked session (Icrq remote serial calling) t b =
        asked_by_asked session remote (granted role calls remote t.ids.sessions) (at calls session) t b
    about_asked session (Icrp remote) t b = first_up_by_asked session remote (at calls session) t b
    about_asked session (Iccn speed framing sequenced) t b = second_up_by_asked sequenced session (at calls session) t b
    about_asked session (Cdn remote code error) t b =
        let s = session_named calls session remote in
        end_heard_by_asked s (at calls s) t b
    about_asked session (Ocrq remote) t b = refuses_asked (reason cause.Outgoing 5 None) remote t b
    about_asked session Hello t b = plain t b
    about_asked session (Sccrq o) t b = plain t b
    about_asked session (Sccrp o) t b = plain t b
    about_asked session (Scccn response) t b = plain t b
    about_asked session (StopCcn tunnel code error) t b = plain t b
    about_asked session Ocrp t b = plain t b
    about_asked session Occn t b = plain t b
    about_asked session Wen t b = plain t b
    about_asked session Sli t b = plain t b
    about_asked session (Fsq sessions) t b = plain t b
    about_asked session (Fsr sessions) t b = plain t b

    in_call_asked : (session : ℕ) (m : Message) (t : Turn) → Begins t → Asked (in_call role calls session m t)
    unfolding in_call
    in_call_asked session m t b =
        branch Asked (state_number t.control.state == 3) _ _ (λ is. about_asked session m t b) (λ other. ignored why.Session t b)

    -- ---- faulty letters about a call

    faulty_at_asked : (r : Reason) (s remote : ℕ) (on : CallEvent) (none : CallAction) (o : Option Call) (t : Turn) → Begins t
        → Asked (faulty_at role r s remote on none o t)
    unfolding faulty_at
    faulty_at_asked r s remote on none None t b = no_call_asked r remote none t b
    faulty_at_asked r s remote on none (Some c) t b = answers_asked r s c (row_for role c on).1 t b

    faulty_asked : (session : ℕ) (k : Kind) (c : CauseOf) (told : Option ℕ) (t : Turn) → Begins t → Asked (faulty role calls session k c told t)
    unfolding faulty
    faulty_asked session kind.Icrq c told t b =
        faulty_at_asked (fault_reason c) session (unwrap_or told 0) call_event.IcrqNotAcc call_action.SendCdn (at calls session) t b
    faulty_asked session kind.Ocrq c told t b = refuses_asked (fault_reason c) (unwrap_or told 0) t b
    faulty_asked session kind.Icrp c told t b = faulty_at_asked (fault_reason c) session _ _ _ (at calls session) t b
    faulty_asked session kind.Iccn c told t b = faulty_at_asked (fault_reason c) session 0 _ _ (at calls session) t b
    faulty_asked session kind.Cdn c told t b =
        let s = session_named calls session (unwrap_or told 0) in
        faulty_at_asked (fault_reason c) s 0 call_event.Close _ (at calls s) t b
    faulty_asked session kind.Wen c told t b = faulty_at_asked (fault_reason c) session 0 call_event.Close call_action.Nothing (at calls session) t b
    faulty_asked session kind.Sli c told t b = faulty_at_asked (fault_reason c) session 0 call_event.Close call_action.Nothing (at calls session) t b
    faulty_asked session kind.Sccrq c told t b = faulty_at_asked (fault_reason c) session 0 call_event.Close call_action.Nothing (at calls session) t b
    faulty_asked session kind.Sccrp c told t b = faulty_at_asked (fault_reason c) session 0 call_event.Close call_action.Nothing (at calls session) t b
    faulty_asked session kind.Scccn c told t b = faulty_at_asked (fault_reason c) session 0 call_event.Close call_action.Nothing (at calls session) t b
    faulty_asked session kind.StopCcn c told t b = faulty_at_asked (fault_reason c) session 0 call_event.Close call_action.Nothing (at calls session) t b
    faulty_asked session kind.Hello c told t b = faulty_at_asked (fault_reason c) session 0 call_event.Close call_action.Nothing (at calls session) t b
    faulty_asked session kind.Ocrp c told t b = faulty_at_asked (fault_reason c) session 0 call_event.Close call_action.Nothing (at calls session) t b
    faulty_asked session kind.Occn c told t b = faulty_at_asked (fault_reason c) session 0 call_event.Close call_action.Nothing (at calls session) t b
    faulty_asked session kind.Fsq c told t b = faulty_at_asked (fault_reason c) session 0 call_event.Close call_action.Nothing (at calls session) t b
    faulty_asked session kind.Fsr c told t b = faulty_at_asked (fault_reason c) session 0 call_event.Close call_action.Nothing (at calls session) t b

    in_faulty_asked : (session : ℕ) (f : CallFault) (t : Turn) → Begins t → Asked (in_faulty_call role calls session f t)
    unfolding in_faulty_call
    in_faulty_asked session f t b =
        branch Asked (state_number t.control.state == 3) _ _ (λ is. faulty_asked session f.kind f.cause f.session t b) (λ other. ignored why.Session t b)

    -- ---- questions and answers

    query_asked : (pairs : List Pair) (t : Turn) → Begins t → Asked (in_query calls pairs t)
    unfolding in_query answers_query answered_query gives with_move takes_one
    query_asked pairs t b =
        branch Asked (state_number t.control.state == 3) _ _
        (λ is. branch Asked (has_room t.control) _ _
        (λ may. same t (answered_query pairs (answers_to (sessions_of calls) pairs) t) refl refl b) (λ full. dropped why.Queue t b))
        (λ other. plain t b)

    took_rests : (answers gone : List Pair) (t : Turn) → Begins t → Rests (took_answer calls answers gone t)
    unfolding took_answer with_move takes_one
    took_rests answers gone t b =
        let ss = ended_of calls gone in
        let left : with_calls (t.changed ++ map ended ss) calls ≡ without_each ss calls = rw b.none (ended_each ss calls) in
        rw (all_ended_is ss _) (record {
          none = λ is_open s c there waits. b.asked is_open s c
              (found_each ss calls s c order (subst (λ xs. at xs s ≡ Some c) left there)) waits;
          ascends = subst Ascends (sym left) (ascends_each ss calls order);
        })

    by_asked : (o : Option (List Pair)) (t : Turn) → Rests t → Asked (queries_by o t)
    unfolding queries_by queries gives drops with_output with_move
    by_asked None t r = rests_asked t t refl refl r
    by_asked (Some pairs) t r =
        branch Asked (has_room t.control) _ _ (λ may. rests_asked t (queries pairs t) refl refl r)
        (λ full. rests_asked t (drops why.Queue t) refl refl r)

    answer_asked : (c : Config) (answers : List Pair) (r : Result (List Pair) ℕ) (t : Turn) → Begins t
        → Asked (heeds_answer role c calls answers r t)
    unfolding heeds_answer hears_answer asks_more
    answer_asked c answers (Ok gone) t b =
        let u = took_answer calls answers gone t in by_asked (next_batch u.query) u (took_rests answers gone t b)
    answer_asked c answers (Err place) t b = takes_asked c not_asked event.AdminClose (tells_id 0) t b

    -- ---- control messages

    hears_asked : (c : Config) (session : ℕ) (m : Message) (t : Turn) → Begins t → Asked (hears role c calls session m t)
    unfolding hears
    hears_asked c session (Sccrq o) t b =
        takes_asked c (opening_reason c.secret None o) (event_by event.SccrqAcc event.SccrqNotAcc c.secret None o) (tells_id 0) t b
    hears_asked c session (Sccrp o) t b =
        takes_asked c (opening_reason c.secret t.control.challenge o) (event_by event.SccrpAcc event.SccrpNotAcc c.secret t.control.challenge o) (told_by o) t b
    hears_asked c session (Scccn response) t b =
        takes_asked c (connected_reason c.secret t.control.challenge response) (connected_event c.secret t.control.challenge response) (tells_id 0) t b
    hears_asked c session Hello t b = plain t b
    hears_asked c session (StopCcn tunnel code error) t b = takes_asked c out_of_order event.StopCcnCame (tells_id 0) t b
    hears_asked c session (Ocrq remote) t b = in_call_asked session (Ocrq remote) t b
    hears_asked c session Ocrp t b = plain t b
    hears_asked c session Occn t b = plain t b
    hears_asked c session Wen t b = plain t b
    hears_asked c session Sli t b = plain t b
    hears_asked c session (Fsq sessions) t b = query_asked sessions t b
    hears_asked c session (Fsr answers) t b = answer_asked c answers (told_at t.control.state t.query answers) t b
    hears_asked c session (Cdn remote code error) t b = in_call_asked session (Cdn remote code error) t b
    hears_asked c session (Icrq remote serial calling) t b = in_call_asked session (Icrq remote serial calling) t b
    hears_asked c session (Icrp remote) t b = in_call_asked session (Icrp remote) t b
    hears_asked c session (Iccn speed framing sequenced) t b = in_call_asked session (Iccn speed framing sequenced) t b

    faults_asked : (c : Config) (session : ℕ) (f : Option CallFault) (g : Option TunnelFault) (w : Why) (t : Turn) → Begins t
        → Asked (hears_faulty role c calls session f g w t)
    unfolding hears_faulty
    faults_asked c session (Some f) g w t b = in_faulty_asked session f t b
    faults_asked c session None (Some g) w t b = takes_asked c (fault_reason g.cause) g.event (tells_id g.remote) t b
    faults_asked c session None None w t b = ignored w t b

    said_asked : (c : Config) (session : ℕ) (f : Option CallFault) (g : Option TunnelFault) (r : Result Message Why) (t : Turn) → Begins t
        → Asked (hears_said role c calls session f g r t)
    unfolding hears_said
    said_asked c session f g (Err w) t b = faults_asked c session f g w t b
    said_asked c session f g (Ok m) t b = hears_asked c session m t b

    next_asked : (c : Config) (session : ℕ) (body : List ℕ) (t : Turn) → Begins t → Asked (hears_next role c calls session body t)
    unfolding hears_next
    next_asked c session body t b =
        branch Asked (is_closed t.control.state) _ _
        (λ closed. plain t b)
        (λ live. said_asked c session (call_fault_in body) (tunnel_fault_in body) (message_in body) t b)

    letter_asked : (g : Config) (session : ℕ) (body : List ℕ) (c : Option Class) (t : Turn) → Begins t → Asked (hears_letter role g calls session body c t)
    unfolding hears_letter
    letter_asked g session body (Some Next) t b =
        branch Asked (may_take t.control calls) _ _
        (λ may. next_asked g session body t b)
        (λ full. dropped why.Queue t b)
    letter_asked g session body (Some (Ahead by)) t b = dropped why.Ahead t b
    letter_asked g session body (Some Duplicate) t b = same t t refl refl b
    letter_asked g session body None t b = same t t refl refl b

    reads_begin : (nr : ℕ) (t : Turn) → Begins t → Begins (reads_nr nr t)
    unfolding reads_nr with_move
    reads_begin nr t b = record { none = b.none; asked = b.asked }

    ignores_asked : (t : Turn) → Begins t → Asked (ignores_all t)
    unfolding ignores_all drops with_output with_move
    ignores_asked t b = same t (ignores_all t) refl refl b

    control_asked : (c : Config) (letters : List Letter) (k : Header) (body : List ℕ) (t : Turn) → Busy t → Begins t
        → Asked (hears_control role c letters calls k body t)
    unfolding hears_control in_tunnel
    control_asked c letters k body t busy b =
        branch Asked (state_number t.control.state == 0) _ _
        (λ idle. absurd (busy (eqb-true (state_number t.control.state) 0 idle)))
        (λ other. branch Asked (not (is_current t.on.mode)) _ _
        (λ inactive. ignores_asked t b)
        (λ active.
        let class = class_told t.control.channel (unwrap_or k.ns 0) (length body == 0) in
        let u = reads_nr (unwrap_or k.nr 0) t in
        settled (is_duplicate class) letters (hears_letter role c calls k.session body class u)
        (letter_asked c k.session body class u (reads_begin (unwrap_or k.nr 0) t b))))

    pub datagram_asked : (c : Config) (letters : List Letter) (bytes : List ℕ) (r : Result Header HeaderError) (t : Turn) → Busy t → Begins t
        → Asked (hears_datagram role c letters calls bytes r t)
    unfolding hears_datagram
    datagram_asked c letters bytes (Err x) t busy b = dropped (header_why x) t b
    datagram_asked c letters bytes (Ok k) t busy b =
        branch Asked k.control _ _
        (λ control. control_asked c letters k (body_of bytes k) t busy b)
        (λ data_is. dropped why.Session t b)

  -- ---- rings

  adds_changed : (who : List ℕ) (s : ℕ) (t : Turn) → (adds role who s t).changed ≡ t.changed ++ (s, Some (rung role who t.on.moment)) ∷ []
  unfolding adds with_move with_new
  adds_changed who s t = refl

  adds_state : (who : List ℕ) (s : ℕ) (t : Turn) → (adds role who s t).control.state ≡ t.control.state
  unfolding adds with_move with_new
  adds_state who s t = refl

  -- the calls with the new one
  with_added : (who : List ℕ) (s : ℕ) (t : Turn) → with_calls (adds role who s t).changed calls ≡ put (with_calls t.changed calls) s (rung role who t.on.moment)
  with_added who s t = ap (λ xs. with_calls xs calls) (adds_changed who s t) ∙ with_calls-more t.changed s (Some (rung role who t.on.moment)) calls

  -- one that rings in an open tunnel is asked for
  rung_asked : (k : Config) (who : List ℕ) (s : ℕ) (t : Turn) → state_number t.control.state ≡ 3 → Begins t
      → Asked (requests role k s (rung role who t.on.moment) (adds role who s t))
  rung_asked k who s t three b is_open q d there waits = ⊎_elim
      (λ (is : q ≡ s). r.past d (subst (λ j. There v j d) is there) (subst (λ j. Waits role j d) is waits))
      (λ other. ⊎_elim
      (λ (a : (q ≡ s) × (c ≡ d)). absurd (other a.0))
      (λ (a : (q ≡ s → ⊥) × There t q d). absurd (b.asked was_open q d (at_first t b q d a.1) waits))
      (found q d (r.leads.fewer q d there waits)))
      (same_or_not q s)
    where
      u : Turn
      u = adds role who s t

      c : Call
      c = rung role who t.on.moment

      v : Turn
      v = requests role k s c u

      found : (q : ℕ) (d : Call) → There u q d → ((q ≡ s) × (c ≡ d)) ⊎ ((q ≡ s → ⊥) × There t q d)
      found q d there = found_put (with_calls t.changed calls) s c q d (subst (λ xs. at xs q ≡ Some d) (with_added who s t) there)

      was_open : IsOpening t → ⊥
      was_open opening = omega (arith, three, opening)

      only : OnlyThat s c u
      only d there waits = ⊎_elim (λ (a : (s ≡ s) × (c ≡ d)). sym a.1) (λ (a : (s ≡ s → ⊥) × There t s d). absurd (a.0 refl)) (found s d there)

      r : Requested s u v
      r = requests_ok k s c u only

  rings_over_asked : (k : Config) (who : List ℕ) (s : ℕ) (t : Turn) → (state_number t.control.state ≡ 3) ⊎ (state_number t.control.state ≡ 1) → Begins t
      → Asked (rings_over role k who s t)
  unfolding rings_over
  rings_over_asked k who s t goes b =
      branch Asked (state_number t.control.state == 3) _ _
      (λ three. rung_asked k who s t (eqb-true (state_number t.control.state) 3 three) b)
      (λ other. λ is_open q d there waits.
      absurd (⊎_elim (λ three. eqb-false (state_number t.control.state) 3 other three) (λ opening. is_open (ap state_number (adds_state who s t) ∙ opening)) goes))

  caused : (c : CauseOf) (t : Turn) → Begins t → Asked (with_output (Cause c) t)
  unfolding with_output
  caused c t b = same t (with_output (Cause c) t) refl refl b

  rings_by_asked : (k : Config) (who : List ℕ) (x : Result ℕ IdError) (t : Turn) → (state_number t.control.state ≡ 3) ⊎ (state_number t.control.state ≡ 1) → Begins t
      → Asked (rings_by role k who x t)
  unfolding rings_by
  rings_by_asked k who (Err x) t goes b = caused cause.Ids t b
  rings_by_asked k who (Ok s) t goes b = rings_over_asked k who s t goes b

  pub rings_asked : (c : Config) (letters : List Letter) (who : List ℕ) (t : Turn) → Busy t → (state_number t.control.state ≡ 3) ⊎ (state_number t.control.state ≡ 1)
      → Begins t → Asked (settles false letters (rings role c calls who t))
  unfolding rings rings_within
  rings_asked c letters who t busy goes b =
      settled false letters (rings role c calls who t)
      (branch Asked (state_number t.control.state == 0) _ _
      (λ idle. absurd (busy (eqb-true (state_number t.control.state) 0 idle)))
      (λ other. branch Asked (are_too_many calls) _ _
      (λ many. caused cause.Calls t b)
      (λ few. branch Asked (may_take t.control calls) _ _ (λ may. rings_by_asked c who (takes_id t.ids.sessions) t goes b) (λ full. caused cause.Queue t b))))

  -- ---- frames that are given

  counts_asked : (s : ℕ) (frame : List ℕ) (c : Call) (o : Option ℕ) (t : Turn) → is_up c.state ≡ true → Begins t
      → Asked (counts s c o (sends_frame s frame c t))
  unfolding counts sends_frame with_output with_move with_call
  counts_asked s frame c None t up b = same t (counts s c None (sends_frame s frame c t)) refl refl b
  counts_asked s frame c (Some n) t up b =
      puts t (counts s c (Some n) (sends_frame s frame c t)) s (counted c) (with_calls-more t.changed s (Some (counted c)) calls) refl
      (other_state c.state call.Established (up_state c.state up) (λ k. absurd cc)) b

  carried_asked : (s : ℕ) (frame : List ℕ) (c : Call) (t : Turn) → is_up c.state ≡ true → Begins t → Asked (carried s frame c t)
  unfolding carried
  carried_asked s frame c t up b = counts_asked s frame c c.sequence t up b

  pub carries_asked : (s : ℕ) (frame : List ℕ) (o : Option Call) (t : Turn) → Begins t → Asked (carries s frame o t)
  unfolding carries
  carries_asked s frame None t b = dropped why.Call t b
  carries_asked s frame (Some c) t b =
      branch Asked (is_up c.state && is_passing c.link) _ _
      (λ up. branch Asked (is_short frame) _ _ (λ short. dropped why.Short t b)
      (λ short. branch Asked (is_long frame) _ _ (λ long. dropped why.Long t b) (λ long. carried_asked s frame c t (and_left _ _ up) b)))
      (λ down. dropped why.Closed t b)
