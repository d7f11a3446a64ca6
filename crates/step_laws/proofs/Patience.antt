-- A tunnel's tick leaves a call that took too long only where there is no room.
use Rattle.std.proofs.Common.{◌≡◌, ◌⊎◌, inl, inr, ⊎_elim, ℕ, ◌<◌, true, false, List, [], ◌∷◌, ◌++◌, refl, sym, ap, ◌∙◌, subst, Option, Some, None}
use Rattle.std.proofs.lemmas.Bool.{true≢false, lt-ltb}
use Rattle.std.proofs.lemmas.Option.{none-some}
use Rattle.std.specs.Prelude.{◌==◌, ◌&&◌, nat_lt, Bool, not}
use Rattle.id_table.specs.Ids.{at, put, without, ids_of}
use Rattle.id_table.specs.Order.{Ascends, ascends-put, ascends-without, found_put, found_without}
use Rattle.wire_base.specs.declared.why.Why.TheVariants as why
use Rattle.wire_base.specs.declared.cause.Cause.{Cause as CauseOf}
use Rattle.wire_base.specs.declared.cause.Cause.TheVariants as cause
use Rattle.wire_base.specs.declared.letter.Letter.{Letter}
use Rattle.control_message.specs.declared.message.Message.TheVariants.{Hello}
use Rattle.send_window.specs.declared.window.Tick.{Tick as Due}
use Rattle.send_window.specs.declared.window.Tick.TheVariants as tick
use Rattle.control_channel.specs.Numbers.{answer_to_tick}
use Rattle.tunnel_fsm.specs.Rows.{state_number}
use Rattle.call_fsm.specs.declared.table.CallAction.{CallAction}
use Rattle.call_fsm.specs.declared.table.CallAction.TheVariants as call_action
use Rattle.call_fsm.specs.declared.table.CallEvent.TheVariants as call_event
use Rattle.call_fsm.specs.declared.table.CallState.{CallState}
use Rattle.call_fsm.specs.declared.table.CallState.TheVariants as call_state
use Rattle.call_link.specs.declared.turn.LinkTurn.{LinkTurn}
use Rattle.call_link.specs.Link.{Link, is_due as link_is_due}
use Rattle.end_model.specs.declared.tunnel.Call.{Call}
use Rattle.end_model.specs.declared.tunnel.Control.{Control}
use Rattle.end_names.specs.declared.role.Role.{Role}
use Rattle.end_model.specs.declared.moves.Move.TheVariants as move
use Rattle.end_model.specs.declared.out.Out.TheVariants.{Cause}
use Rattle.end_model.specs.Calls.{counted, counted_all, row_for, is_set_up, is_up, is_told, is_clean_up}
use Rattle.end_model.specs.Tunnels.{Ground, Turn, is_current}
use Rattle.end_model.specs.Turn.{with_output, with_move, with_change, with_call, ends_call, drops}
use Rattle.end_model.specs.Events.{with_calls}
use Rattle.end_model.specs.Sending.{gives, letter_in, sends_now, settles, repeats, sends_letter}
use Rattle.end_model.specs.Channels.{has_room, place, next_place, counts_repeated}
use Rattle.end_model.specs.Ticking.{greeted, greets, limits_at, limits_all, goes_quietly, ticks_by, ticks}
use Rattle.end_model.specs.Stopping.{clears}
use Rattle.end_model.specs.Closing.{end_silent, end_told, ends_by}
use Rattle.end_model.specs.Frames.{sends_frame, counts, carried}
use Rattle.end_model.specs.Linking.{sends_frames, negotiated, ends_linked, links_by, ticks_link}
use Rattle.end_model.specs.Moments.{is_over, patience, is_at_its_end}
use Rattle.step_laws.specs.Letters.{Among}
use Rattle.step_laws.proofs.Lists.{branch, and_left, and_right, found_among, with_calls-more}
use Rattle.step_laws.proofs.Linking.{linked_call, negotiated_is, negotiated_put}
use Rattle.step_laws.proofs.States.{never}
use Rattle.step_laws.proofs.Keeping.{Keeps, repeated_room, sent_keeps, settled_keeps, more_full}

-- a call took as long as a call may to be set up, and ends by its table
pub record IsDue (role : Role) (moment s : ℕ) (c : Call) : Type 0 where
  pub small : s < 65536
  pub set_up : is_set_up c.state ≡ true
  pub over : is_over patience moment c.since ≡ true
  pub ends : (is_clean_up (row_for role c call_event.Close).1 ≡ true) ⊎ (is_told (row_for role c call_event.Close).1 ≡ true)

module _ (role : Role) (moment : ℕ) (calls : List (ℕ × Call)) where
  abbrev There : Turn → ℕ → Call → Type 0
  There t s c = at (with_calls t.changed calls) s ≡ Some c

  -- a turn in which calls end
  record Ticked (t : Turn) : Type 0 where
    order : Ascends (with_calls t.changed calls)
    same_moment : t.on.moment ≡ moment
    -- those that are being set up are as they were
    few : (s : ℕ) (c : Call) → There t s c → is_set_up c.state ≡ true → at calls s ≡ Some c

  -- what a part of it leaves
  record Leads (t u : Turn) : Type 0 where
    ok : Ticked u
    room : has_room t.control ≡ false → has_room u.control ≡ false
    fewer : (s : ℕ) (c : Call) → There u s c → is_set_up c.state ≡ true → There t s c
    state : u.control.state ≡ t.control.state

  leads_nowhere : (t : Turn) → Ticked t → Leads t t
  leads_nowhere t h = record { ok = h; room = λ f. f; fewer = λ s c there up. there; state = refl }

  leads_on : (t u v : Turn) → Leads t u → Leads u v → Leads t v
  leads_on t u v h k = record {
    ok = k.ok;
    room = λ f. k.room (h.room f);
    fewer = λ s c there up. h.fewer s c (k.fewer s c there up) up;
    state = k.state ∙ h.state;
  }

  -- no call ends
  same_leads : (t u : Turn) → (has_room t.control ≡ false → has_room u.control ≡ false) → u.changed ≡ t.changed → u.on.moment ≡ t.on.moment
      → u.control.state ≡ t.control.state → Ticked t → Leads t u
  same_leads t u room same now state h =
      let back : (s : ℕ) (c : Call) → There u s c → There t s c = λ s c there. subst (λ xs. at (with_calls xs calls) s ≡ Some c) same there in
      record {
        ok = record {
          order = subst (λ xs. Ascends (with_calls xs calls)) (sym same) h.order;
          same_moment = now ∙ h.same_moment;
          few = λ s c there up. h.few s c (back s c there) up;
        };
        room = room;
        fewer = λ s c there up. back s c there;
        state = state;
      }

  keeps_leads : (t u : Turn) → Keeps t u → Ticked t → Leads t u
  keeps_leads t u k h = same_leads t u (λ f. k.room ∙ f) k.changed (ap (λ (g : Ground). g.moment) k.on) k.state h

  -- one ends
  record Ends (s : ℕ) (t u : Turn) : Type 0 where
    leads : Leads t u
    gone : (c : Call) → There u s c → ⊥

  ends : (s : ℕ) (t u : Turn) → (has_room t.control ≡ false → has_room u.control ≡ false) → u.changed ≡ t.changed ++ (s, None) ∷ []
      → u.on.moment ≡ t.on.moment → u.control.state ≡ t.control.state → Ticked t → Ends s t u
  ends s t u room more now state h =
      let less : with_calls u.changed calls ≡ without (with_calls t.changed calls) s = ap (λ xs. with_calls xs calls) more ∙ with_calls-more t.changed s None calls in
      let found : (q : ℕ) (c : Call) → There u q c → (q ≡ s → ⊥) × There t q c =
      λ q c there. found_without (with_calls t.changed calls) s q c h.order (subst (λ xs. at xs q ≡ Some c) less there) in
      record {
        leads = record {
          ok = record {
            order = subst Ascends (sym less) (ascends-without s (with_calls t.changed calls) h.order);
            same_moment = now ∙ h.same_moment;
            few = λ q c there up. h.few q c (found q c there).1 up;
          };
          room = room;
          fewer = λ q c there up. (found q c there).1;
          state = state;
        };
        gone = λ c there. (found s c there).0 refl;
      }

  -- it isn't late where there is room
  abbrev Past : ℕ → Turn → Type 0
  Past s t = (c : Call) → There t s c → IsDue role moment s c → has_room t.control ≡ false

  past_on : (s : ℕ) (t u : Turn) → Leads t u → Past s t → Past s u
  past_on s t u l past = λ c there late. l.room (past c (l.fewer s c there late.set_up) late)

  record Limited (s : ℕ) (t u : Turn) : Type 0 where
    leads : Leads t u
    past : Past s u

  ended : (s : ℕ) (t u : Turn) → Ends s t u → Limited s t u
  ended s t u h = record { leads = h.leads; past = λ c there late. absurd (h.gone c there) }

  silent : (s : ℕ) (booked : Bool) (t : Turn) → Ticked t → Ends s t (end_silent s booked t)
  unfolding end_silent ends_call with_output with_change with_move
  silent s booked t h = ends s t (end_silent s booked t) (λ f. f) refl refl refl h

  told : (for : CauseOf) (result s : ℕ) (c : Call) (t : Turn) → Ticked t → Ends s t (end_told s c result None (with_output (Cause for) t))
  unfolding end_told gives ends_call with_output with_change with_move
  told for result s c t h = ends s t (end_told s c result None (with_output (Cause for) t)) (λ f. more_full t.control f) refl refl refl h

  -- that call, where it is there still
  the_call : (s : ℕ) (c : Call) (t : Turn) → Ticked t → at calls s ≡ Some c → (d : Call) → There t s d → is_set_up d.state ≡ true → d ≡ c
  the_call s c t h is d there up = let both : Some d ≡ Some c = sym (h.few s d there up) ∙ is in cc

  module _ (letters : List Letter) where
    -- it doesn't end by its table
    kept : (s : ℕ) (c : Call) (t : Turn) (a : CallAction) → Ticked t → at calls s ≡ Some c → (row_for role c call_event.Close).1 ≡ a
        → (is_clean_up a ≡ true → ⊥) → (is_told a ≡ true → ⊥) → Limited s t t
    kept s c t a h is row clean told = record {
      leads = leads_nowhere t h;
      past = λ d there late.
          let same : IsDue role moment s c = subst (IsDue role moment s) (the_call s c t h is d there late.set_up) late in
          absurd (⊎_elim (λ e. clean (ap is_clean_up (sym row) ∙ e)) (λ e. told (ap is_told (sym row) ∙ e)) same.ends);
    }

    limited_by : (s : ℕ) (c : Call) (t : Turn) → Ticked t → at calls s ≡ Some c → (a : CallAction) → (row_for role c call_event.Close).1 ≡ a
        → Limited s t (ends_by cause.Setup 10 None s c a t)
    unfolding ends_by drops with_output
    limited_by s c t h is call_action.CleanUp row = ended s t (end_silent s (is_up c.state) t) (silent s (is_up c.state) t h)
    limited_by s c t h is call_action.SendCdn row =
        branch (Limited s t) (not (is_current t.on.mode)) _ _
        (λ inactive. ended s t (end_silent s (is_up c.state) t) (silent s (is_up c.state) t h))
        (λ active. branch (Limited s t) (has_room t.control) _ _
        (λ may. ended s t (end_told s c 10 None (with_output (Cause cause.Setup) t)) (told cause.Setup 10 s c t h))
        (λ full. record { leads = same_leads t (drops why.Queue t) (λ f. f) refl refl refl h; past = λ d there late. full }))
    limited_by s c t h is call_action.Nothing row = kept s c t call_action.Nothing h is row never never
    limited_by s c t h is call_action.SendIcrq row = kept s c t call_action.SendIcrq h is row never never
    limited_by s c t h is call_action.SendIcrp row = kept s c t call_action.SendIcrp h is row never never
    limited_by s c t h is call_action.SendIccn row = kept s c t call_action.SendIccn h is row never never
    limited_by s c t h is call_action.DropSession row = kept s c t call_action.DropSession h is row never never

    -- then letters go
    limited : (s : ℕ) (c : Call) (t : Turn) → Ticked t → at calls s ≡ Some c
        → Limited s t (settles false letters (ends_by cause.Setup 10 None s c (row_for role c call_event.Close).1 t))
    limited s c t h is =
        let u = ends_by cause.Setup 10 None s c (row_for role c call_event.Close).1 t in
        let v = settles false letters u in
        let l = limited_by s c t h is (row_for role c call_event.Close).1 refl in
        let g = keeps_leads u v (settled_keeps false letters u) l.leads.ok in
        record { leads = leads_on t u v l.leads g; past = past_on s u v g l.past }

    -- ---- the link of a call

    -- one that is up isn't being set up
    not_both : (s : CallState) → is_set_up s ≡ true → is_up s ≡ true → ⊥
    not_both call_state.Idle set_up up = never up
    not_both call_state.WaitTunnel set_up up = never up
    not_both call_state.WaitReply set_up up = never up
    not_both call_state.WaitConnect set_up up = never up
    not_both call_state.Established set_up up = never set_up

    -- so a call that is up isn't late, whatever the turn leaves of it
    up_limited : (s : ℕ) (c : Call) (t u : Turn) → at calls s ≡ Some c → is_up c.state ≡ true → Leads t u → Limited s t u
    up_limited s c t u is up l = record {
      leads = l;
      past = λ d there late.
          let same = the_call s c u l.ok is d there late.set_up in
          absurd (not_both c.state (ap (λ (x : Call). is_set_up x.state) (sym same) ∙ late.set_up) up);
    }

    -- a call that is up is put, in the same state
    puts : (s : ℕ) (d : Call) (t u : Turn) → is_up d.state ≡ true
        → with_calls u.changed calls ≡ put (with_calls t.changed calls) s d → u.on.moment ≡ t.on.moment
        → u.control ≡ t.control → Ticked t → Leads t u
    puts s d t u up is now same h =
        let found : (q : ℕ) (c : Call) → There u q c → is_set_up c.state ≡ true → There t q c = λ q c there set_up. ⊎_elim
        (λ (a : (q ≡ s) × (d ≡ c)). absurd (not_both c.state set_up (subst (λ (x : Call). is_up x.state ≡ true) a.1 up)))
        (λ (a : (q ≡ s → ⊥) × There t q c). a.1)
        (found_put (with_calls t.changed calls) s d q c (subst (λ xs. at xs q ≡ Some c) is there)) in
        record {
          ok = record {
            order = subst Ascends (sym is) (ascends-put s d (with_calls t.changed calls) h.order);
            same_moment = now ∙ h.same_moment;
            few = λ q c there set_up. h.few q c (found q c there set_up) set_up;
          };
          room = λ f. ap has_room same ∙ f;
          fewer = found;
          state = ap (λ (x : Control). x.state) same;
        }

    -- frames that are sent in a call that is up
    counts_lead : (s : ℕ) (frame : List ℕ) (c : Call) (o : Option ℕ) (t : Turn) → is_up c.state ≡ true → Ticked t
        → Leads t (counts s c o (sends_frame s frame c t))
    unfolding counts sends_frame with_output with_move with_call
    counts_lead s frame c None t up h = same_leads t (counts s c None (sends_frame s frame c t)) (λ f. f) refl refl refl h
    counts_lead s frame c (Some n) t up h =
        puts s (counted c) t (counts s c (Some n) (sends_frame s frame c t)) up (with_calls-more t.changed s (Some (counted c)) calls) refl refl h

    carried_lead : (s : ℕ) (frame : List ℕ) (c : Call) (t : Turn) → is_up c.state ≡ true → Ticked t → Leads t (carried s frame c t)
    unfolding carried
    carried_lead s frame c t up h = counts_lead s frame c c.sequence t up h

    frames_lead : (s : ℕ) (fs : List (List ℕ)) (c : Call) (t : Turn) → is_up c.state ≡ true → Ticked t → Leads t (sends_frames s fs c t)
    unfolding sends_frames
    frames_lead s [] c t up h = leads_nowhere t h
    frames_lead s (f ∷ fs) c t up h =
        let l = carried_lead s f c t up h in leads_on t (carried s f c t) _ l (frames_lead s fs (counted c) (carried s f c t) up l.ok)

    -- its link ends a call
    ended_by : (for : CauseOf) (s : ℕ) (c : Call) (t : Turn) → Ticked t → (a : CallAction) → Leads t (ends_by for 3 None s c a t)
    unfolding ends_by drops with_output
    ended_by for s c t h call_action.CleanUp = (silent s (is_up c.state) t h).leads
    ended_by for s c t h call_action.SendCdn =
        branch (Leads t) (not (is_current t.on.mode)) _ _
        (λ inactive. (silent s (is_up c.state) t h).leads)
        (λ active. branch (Leads t) (has_room t.control) _ _
        (λ may. (told for 3 s c t h).leads)
        (λ full. same_leads t (drops why.Queue t) (λ f. f) refl refl refl h))
    ended_by for s c t h call_action.Nothing = leads_nowhere t h
    ended_by for s c t h call_action.SendIcrq = leads_nowhere t h
    ended_by for s c t h call_action.SendIcrp = leads_nowhere t h
    ended_by for s c t h call_action.SendIccn = leads_nowhere t h
    ended_by for s c t h call_action.DropSession = leads_nowhere t h

    ended_lead : (s : ℕ) (c : Call) (v : LinkTurn) (for : CauseOf) (t : Turn) → is_up c.state ≡ true → Ticked t
        → Leads t (ends_linked role letters s c v for t)
    unfolding ends_linked
    ended_lead s c v for t up h =
        let sent = sends_frames s v.frames c t in
        let d = counted_all v.frames c in
        let u = ends_by for 3 None s d (row_for role c call_event.Close).1 sent in
        let first = frames_lead s v.frames c t up h in
        let l = ended_by for s d sent first.ok (row_for role c call_event.Close).1 in
        leads_on t sent _ first (leads_on sent u _ l (keeps_leads u _ (settled_keeps false letters u) l.ok))

    links_lead : (s : ℕ) (c : Call) (v : LinkTurn) (o : Option CauseOf) (t : Turn) → is_up c.state ≡ true → Ticked t
        → Leads t (links_by role letters s c v o t)
    unfolding links_by
    links_lead s c v None t up h =
        let is = negotiated_is s c v t in
        puts s (linked_call c v) t (negotiated s c v t) up
        (negotiated_put calls s c v t) (ap (λ (x : Turn). x.on.moment) is) (ap (λ (x : Turn). x.control) is) h
    links_lead s c v (Some for) t up h = ended_lead s c v for t up h

    -- a call that is late is due
    is_due : (s : ℕ) (c : Call) (t : Turn) → Ticked t → IsDue role moment s c
        → (nat_lt s 65536 && is_set_up c.state && is_over patience t.on.moment c.since) ≡ true
    is_due s c t h late =
        let small = lt-ltb s 65536 late.small in
        let set_up = late.set_up in
        let over : is_over patience t.on.moment c.since ≡ true = ap (λ m. is_over patience m c.since) h.same_moment ∙ late.over in
        rw (small, set_up, over) refl

    -- one that isn't late
    early_ok : (s : ℕ) (c : Call) (t : Turn) → Ticked t → at calls s ≡ Some c
        → (nat_lt s 65536 && is_set_up c.state && is_over patience t.on.moment c.since) ≡ false → Limited s t t
    early_ok s c t h is early = record {
      leads = leads_nowhere t h;
      past = λ d there late.
          absurd (true≢false (sym (is_due s c t h (subst (IsDue role moment s) (the_call s c t h is d there late.set_up) late)) ∙ early));
    }

    linked : (s : ℕ) (c : Call) (t : Turn) → Ticked t → at calls s ≡ Some c
        → (nat_lt s 65536 && is_set_up c.state && is_over patience t.on.moment c.since) ≡ false → (o : Option Link) → c.link ≡ o
        → Limited s t (ticks_link role letters s c o t)
    unfolding ticks_link
    linked s c t h is early None has = early_ok s c t h is early
    linked s c t h is early (Some l) has =
        branch (Limited s t) (nat_lt s 65536 && is_up c.state && link_is_due t.on.moment l) _ _
        (λ due.
        let up = and_right (nat_lt s 65536) (is_up c.state) (and_left (nat_lt s 65536 && is_up c.state) _ due) in
        up_limited s c t _ is up (links_lead s c _ _ t up h))
        (λ no. early_ok s c t h is early)

    limits_at_ok : (s : ℕ) (o : Option Call) (t : Turn) → at calls s ≡ o → Ticked t → Limited s t (limits_at role letters s o t)
    unfolding limits_at
    limits_at_ok s None t is h = record { leads = leads_nowhere t h; past = λ d there late. absurd (none-some d (sym is ∙ h.few s d there late.set_up)) }
    limits_at_ok s (Some c) t is h =
        branch (Limited s t) (nat_lt s 65536 && is_set_up c.state && is_over patience t.on.moment c.since) _ _
        (λ due. limited s c t h is)
        (λ early. linked s c t h is early c.link refl)

    record AllLimited (ss : List ℕ) (t u : Turn) : Type 0 where
      leads : Leads t u
      past : (s : ℕ) → Among s ss → Past s u

    limits_all_ok : (ss : List ℕ) (t : Turn) → Ticked t → AllLimited ss t (limits_all role letters ss calls t)
    unfolding limits_all
    limits_all_ok [] t h = record { leads = leads_nowhere t h; past = λ s a. absurd a }
    limits_all_ok (s ∷ ss) t h =
        let u = limits_at role letters s (at calls s) t in
        let v = limits_all role letters ss calls u in
        let l = limits_at_ok s (at calls s) t refl h in
        let rest = limits_all_ok ss u l.leads.ok in
        record {
          leads = leads_on t u v l.leads rest.leads;
          past = λ q a. ⊎_elim (λ (same : s ≡ q). subst (λ k. Past k v) same (past_on s u v rest.leads l.past)) (λ later. rest.past q later) a;
        }

    hello_ok : (t : Turn) → Ticked t → Leads t (gives 0 Hello (with_move (move.Greeted (record { tunnel = t.control.local; given = next_place t.control })) t))
    unfolding gives with_move
    hello_ok t h = same_leads t _ (λ f. more_full t.control f) refl refl refl h

    greets_ok : (t : Turn) → Ticked t → Leads t (greets letters t)
    unfolding greets greeted
    greets_ok t h =
        branch (Leads t) (state_number t.control.state == 3 && is_current t.on.mode && t.control.channel.window.queued == 0 && is_over patience t.on.moment t.control.heard) _ _
        (λ due.
        let v = gives 0 Hello (with_move (move.Greeted (record { tunnel = t.control.local; given = next_place t.control })) t) in
        let l = hello_ok t h in
        leads_on t v _ l (keeps_leads v _ (settled_keeps false letters v) l.ok))
        (λ early. leads_nowhere t h)

    repeats_ok : (number : ℕ) (t : Turn) → Ticked t → Leads t (repeats letters number t)
    unfolding repeats sends_now with_move
    repeats_ok number t h =
        let u = with_move (move.Repeated (record { tunnel = t.control.local; sent = place number })) (record t { control = counts_repeated t.on.moment t.control }) in
        let l = same_leads t u (λ f. repeated_room t.on.moment t.control ∙ f) refl refl refl h in
        leads_on t u _ l (keeps_leads u (sends_letter number (letter_in letters u number) u) (sent_keeps number (letter_in letters u number) u) l.ok)

    -- ---- what it leaves

    -- the tunnel's state and those of its calls that are there still are as they were
    pub record Stays (t r : Turn) : Type 0 where
      pub state : r.control.state ≡ t.control.state
      pub few : (s : ℕ) (c : Call) → There r s c → is_set_up c.state ≡ true → at calls s ≡ Some c
      pub late : (s : ℕ) (c : Call) → There r s c → IsDue role moment s c → has_room r.control ≡ false

    abbrev pub Ticks : Turn → Turn → Type 0
    Ticks t r = (r.cleared ≡ true) ⊎ Stays t r

    -- so it is of a turn that leaves the same tunnel and calls
    pub stays_left : (t r u : Turn) → u.control ≡ r.control → u.changed ≡ r.changed → Stays t r → Stays t u
    stays_left t r u control changed h =
        let back : (s : ℕ) (c : Call) → There u s c → There r s c = λ s c there. subst (λ xs. at (with_calls xs calls) s ≡ Some c) changed there in
        record {
          state = ap (λ (c : Control). c.state) control ∙ h.state;
          few = λ s c there set_up. h.few s c (back s c there) set_up;
          late = λ s c there due. ap has_room control ∙ h.late s c (back s c there) due;
        }

    clears_ok : (t : Turn) → Ticks t (clears calls t)
    unfolding clears
    clears_ok t = inl refl

    quietly_ok : (t u : Turn) → Leads t u → Ticks t (goes_quietly role letters calls u)
    unfolding goes_quietly
    quietly_ok t u h =
        let v = greets letters u in
        let g = greets_ok u h.ok in
        let a = limits_all_ok (ids_of calls) v g.ok in
        inr (record {
          state = a.leads.state ∙ g.state ∙ h.state;
          few = a.leads.ok.few;
          late = λ s c there late. a.past s (found_among calls s c (a.leads.ok.few s c there late.set_up)) c there late;
        })

    ticks_by_ok : (a : Due) (t : Turn) → Ticked t → Ticks t (ticks_by role letters calls a t)
    unfolding ticks_by
    ticks_by_ok tick.Quiet t h = quietly_ok t t (leads_nowhere t h)
    ticks_by_ok (tick.Again number) t h = quietly_ok t (repeats letters number t) (repeats_ok number t h)
    ticks_by_ok (tick.Failed first) t h = clears_ok t

    pub ticks_ok : (t : Turn) → Ascends calls → t.changed ≡ [] → t.on.moment ≡ moment → Ticks t (ticks role letters calls t)
    unfolding ticks with_calls
    ticks_ok t order none now =
        branch (Ticks t) (is_at_its_end t.on.moment t.control) _ _
        (λ late. clears_ok t)
        (λ early. ticks_by_ok (answer_to_tick t.control.channel t.on.moment) t (record {
          order = rw none order;
          same_moment = now;
          few = λ s c there up. (let found = rw none at there in found);
        }))
