-- A tunnel's tick is a chain of moves.
use Rattle.std.proofs.Common.{◌≡◌, ⊎_elim, inl, arith, ℕ, ◌+◌, ◌^◌, ◌<◌, ◌≤◌, Bool, true, false, cond, List, [], ◌∷◌, refl, sym, ap, ◌∙◌, subst, Option, Some, None}
use Rattle.std.proofs.lemmas.Bool.{eqb-true, ltb-true, true≢false}
use Rattle.std.proofs.lemmas.List.{append-nil}
use Rattle.std.specs.Prelude.{◌==◌, ◌&&◌, nat_lt}
use Rattle.std.specs.List.{AllByRecursion}
use Rattle.id_table.specs.Ids.{at, put-put, ids_of}
use Rattle.id_table.specs.Order.{Ascends}
use Rattle.wire_base.specs.declared.cause.Cause.TheVariants as cause
use Rattle.wire_base.specs.declared.letter.Letter.{Letter}
use Rattle.control_message.specs.declared.message.Message.TheVariants.{Hello}
use Rattle.send_window.specs.declared.window.Tick.TheVariants as tick
use Rattle.send_window.specs.Kept.{Window}
use Rattle.send_window.specs.Window as sending
use Rattle.control_channel.specs.Numbers.{Numbers, answer_to_tick, ticked_at}
use Rattle.tunnel_fsm.specs.Rows.{state_number}
use Rattle.call_fsm.specs.declared.table.CallEvent.TheVariants as call_event
use Rattle.end_model.specs.declared.tunnel.Call.{Call}
use Rattle.end_model.specs.declared.tunnel.Control.{Control}
use Rattle.call_link.specs.Link.{Link, is_due}
use Rattle.call_link.specs.Turns.{Ticks}
use Rattle.call_link.specs.Laws.{LinkStep, turn_at}
use Rattle.end_model.specs.declared.event.Event.TheVariants.{Tick}
use Rattle.end_model.specs.declared.moves.Move.TheVariants as move
use Rattle.end_model.specs.Calls.{row_for, is_set_up, is_up}
use Rattle.end_model.specs.Tunnels.{Tunnel, Turn, Recovering, is_current, new_tunnel, Asking}
use Rattle.end_model.specs.Turn.{with_move}
use Rattle.end_model.specs.Events.{with_calls, tunnel_after}
use Rattle.end_model.specs.Channels.{has_room, place, next_place, letter_of, counts_repeated}
use Rattle.end_model.specs.Sending.{gives, letter_in, letters_after, sends_now, repeats, settles}
use Rattle.end_model.specs.Moments.{is_over, patience}
use Rattle.end_model.specs.Ticking.{greeted, greets, limits_at, limits_all, goes_quietly}
use Rattle.end_model.specs.Closing.{ends_by}
use Rattle.end_model.specs.Links.{link_env}
use Rattle.end_model.specs.Linking.{links, ticks_link}
use Rattle.end_model.specs.End.{drawing_of, End}
use Rattle.step_laws.specs.Moves.{TookTooLong, IsLate}
use Rattle.step_laws.proofs.Lists.{all_push, and_left, and_right, branch, chain_more}
use Rattle.step_laws.proofs.Moments.{passed, not_up}
use Rattle.step_laws.proofs.Owing.{Fits, live_open, some_owed, fits_given, owes_told}
use Rattle.step_laws.specs.Letters.{HasOutput}
use Rattle.step_laws.proofs.Turns.{IsCurrent, Held, given_held, at_turn, there, one_given, Others, Same, same_still, same_first}
use Rattle.step_laws.proofs.Settling.{Settled, outs_on, sent_ok, settled_so}
use Rattle.step_laws.proofs.Closing.{given_on, ends_leave}
use Rattle.step_laws.proofs.Keeping.{sent_keeps, settled_keeps}
use Rattle.step_laws.proofs.Linking.{IsLinked, ended_stands, links_leave}
use Rattle.step_laws.specs.Links.{ForTime}

-- ---- a letter that is repeated

module _ (n : Numbers) (moment : ℕ) where
  inbox_stays : (ticked_at n moment).inbox ≡ n.inbox
  inbox_stays = branch (λ (x : Numbers). x.inbox ≡ n.inbox) n.frozen _ _ (λ frozen. refl) (λ free. refl)

  acked_stays : (ticked_at n moment).window.acked ≡ n.window.acked
  acked_stays =
      branch (λ (x : Numbers). x.window.acked ≡ n.window.acked) n.frozen _ _
      (λ frozen. refl)
      (λ free. branch (λ (w : Window). w.acked ≡ n.window.acked) (sending.due_at n.window moment && nat_lt n.window.repetitions 5) _ _ (λ due. refl) (λ no. refl))

  -- a frozen channel repeats nothing
  frozen_none : (number : ℕ) → n.frozen ≡ true → answer_to_tick n moment ≡ tick.Again number → ⊥
  frozen_none number frozen due = by n.frozen frozen due
    where
      by : (a : Bool) → a ≡ true → cond a tick.Quiet (sending.answer_to_tick n.window moment) ≡ tick.Again number → ⊥
      by true is e = absurd cc
      by false is e = true≢false (sym is)

  held_repeated : (ls : List Letter) → Held n.window ls → Held (ticked_at n moment).window ls
  held_repeated ls h =
      branch (λ (x : Numbers). Held x.window ls) n.frozen _ _
      (λ frozen. h)
      (λ free. branch (λ (w : Window). Held w ls) (sending.due_at n.window moment && nat_lt n.window.repetitions 5) _ _ (λ due. h) (λ no. h))

fits_repeated : (c : Control) (moment : ℕ) (calls : List (ℕ × Call)) → Fits c calls → Fits (counts_repeated moment c) calls
fits_repeated c moment calls h =
    branch (λ (n : Numbers). Fits (record c { channel = n }) calls) c.channel.frozen _ _
    (λ frozen. h)
    (λ free. branch (λ (w : Window). Fits (record c { channel = record c.channel { window = w } }) calls)
    (sending.due_at c.channel.window moment && nat_lt c.channel.window.repetitions 5) _ _
    (λ due. h)
    (λ no. h))

-- the number of a letter that is repeated has 64 bits
small_due : (n : Numbers) (moment number : ℕ) → n.window.acked < 2 ^ 64 → answer_to_tick n moment ≡ tick.Again number → number < 2 ^ 64
small_due n moment number small h = by n.frozen (sending.due_at n.window moment) (nat_lt n.window.repetitions 5) h
  where
    by : (a b c : Bool) → cond a tick.Quiet (cond b (cond c (tick.Again n.window.acked) (tick.Failed n.window.acked)) tick.Quiet) ≡ tick.Again number
        → number < 2 ^ 64
    by true b c e = absurd cc
    by false true true e = let same : n.window.acked ≡ number = cc in subst (λ (k : ℕ). k < 2 ^ 64) same small
    by false true false e = absurd cc
    by false false c e = absurd cc

module _ (e : End) (moment : ℕ) (letters : List Letter) (calls : List (ℕ × Call)) (recovery : Option Recovering) (i : ℕ) where
  abbrev tunnel : Turn → Tunnel
  tunnel t = tunnel_after t letters calls recovery

  -- a turn that drew no id and made no call
  pub record DrawsNone (t : Turn) : Type 0 where
    pub ids : t.ids ≡ drawing_of e
    pub added : t.added ≡ []

  pub record Ticking (t : Turn) : Type 0 where
    pub settled : Settled e moment Tick letters calls recovery i t
    pub none : DrawsNone t

  -- its end
  settling_ok : (t : Turn) → Ticking t → Ticking (settles false letters t)
  settling_ok t h =
      let k = settled_keeps false letters t in
      record {
        settled = settled_so e moment Tick letters calls recovery i t h.settled;
        none = record { ids = k.ids ∙ h.none.ids; added = k.added ∙ h.none.added };
      }

  -- the turn's moment is the step's
  over_at : (since : ℕ) (t : Turn) → Ticking t → is_over patience t.on.moment since ≡ true → since + 60000 ≤ moment
  over_at since t h over = passed moment since (ap (λ m. is_over patience m since) (sym h.settled.stays.4) ∙ over)

  -- ---- repetitions and greetings

  abbrev repeated : ℕ → Turn → Turn
  repeated number t =
      with_move (move.Repeated (record { tunnel = t.control.local; sent = place number })) (record t { control = counts_repeated t.on.moment t.control })

  repeated_current : (number : ℕ) (t : Turn) → answer_to_tick t.control.channel moment ≡ tick.Again number → Settled e moment Tick letters calls recovery i t
      → IsCurrent recovery
  repeated_current number t due h =
      ⊎_elim (λ current. current)
      (λ (k : (t.control.channel.frozen ≡ true) × (t.took ≡ false) × (state_number t.control.state ≡ 3)). absurd
      (frozen_none t.control.channel moment number k.0 due)) h.goes

  repeated_ok : (number : ℕ) (t : Turn) → answer_to_tick t.control.channel moment ≡ tick.Again number → Settled e moment Tick letters calls recovery i t
      → Settled e moment Tick letters calls recovery i (repeated number t)
  unfolding with_move
  repeated_ok number t due h =
      let m = move.Repeated (record { tunnel = t.control.local; sent = place number }) in
      record {
        chain = chain_more moment Tick e (at_turn e moment Tick letters calls recovery i t) _ t.moves m h.chain (record {
          tunnel = tunnel t;
          there = there e moment Tick letters calls recovery i t;
          current = repeated_current number t due h;
          number = number;
          due = due;
          sent = refl;
          after = rw (h.stays.4, put-put e.tunnels t.control.local (tunnel t) _) refl;
        });
        outs = outs_on e moment Tick letters calls recovery i t (repeated number t) (record {
          local = refl;
          peer = refl;
          remote = refl;
          acked = acked_stays t.control.channel t.on.moment;
          inbox = inbox_stays t.control.channel t.on.moment;
          more = [];
          letters = sym (append-nil (tunnel t).letters);
          recovery = refl;
        }) (m ∷ []) refl h;
        tells = h.tells;
        frames = all_push (HasOutput t.outputs) t.moves m h.frames tt;
        stays = h.stays;
        goes = inl (repeated_current number t due h);
        held = held_repeated t.control.channel t.on.moment (letters_after t letters) h.held;
        fits = fits_repeated t.control t.on.moment (with_calls t.changed calls) h.fits;
      }

  pub repeats_ok : (number : ℕ) (t : Turn) → answer_to_tick t.control.channel moment ≡ tick.Again number → Ticking t → Ticking (repeats letters number t)
  unfolding repeats sends_now with_move
  repeats_ok number t due h =
      let u = repeated number t in
      let k = sent_keeps number (letter_in letters u number) u in
      record {
        settled = sent_ok e moment Tick letters calls recovery i number u (letter_in letters u number) (repeated_current number t due h.settled)
            (small_due t.control.channel moment number h.settled.held.2 due) refl (repeated_ok number t due h.settled);
        none = record { ids = k.ids ∙ h.none.ids; added = k.added ∙ h.none.added };
      }

  abbrev hello : Turn → Turn
  hello t = gives 0 Hello (with_move (move.Greeted (record { tunnel = t.control.local; given = next_place t.control })) t)

  -- where nothing waits there is room
  empty_room : (t : Turn) → t.control.channel.window.queued ≡ 0 → has_room t.control ≡ true
  empty_room t none = rw none refl

  hello_ok : (t : Turn) → IsCurrent recovery → state_number t.control.state ≡ 3 → t.control.channel.window.queued ≡ 0 → t.control.heard + 60000 ≤ moment → Ticking t
      → Ticking (hello t)
  unfolding gives with_move
  hello_ok t current is_open quiet over k =
      let room = empty_room t quiet in
      let m = move.Greeted (record { tunnel = t.control.local; given = next_place t.control }) in
      let h = k.settled in
      let l = letter_of 0 Hello in
      record {
        settled = record {
          chain = chain_more moment Tick e (at_turn e moment Tick letters calls recovery i t) _ t.moves m h.chain (record {
            tunnel = tunnel t;
            there = there e moment Tick letters calls recovery i t;
            current = current;
            ticks = refl;
            open_is = is_open;
            quiet = quiet;
            over = over;
            room = room;
            given = refl;
            after = rw (one_given e moment Tick letters calls recovery i t l, put-put e.tunnels t.control.local (tunnel t) _) refl;
          });
          outs = outs_on e moment Tick letters calls recovery i t (hello t) (given_on e moment Tick letters calls recovery i t (hello t) l refl refl refl refl refl refl) (m ∷ []) refl h;
          tells = h.tells;
          frames = all_push (HasOutput t.outputs) t.moves m h.frames tt;
          stays = h.stays;
          goes = h.goes;
          held = given_held e moment Tick letters calls recovery i t l h.held;
          fits =
              let least = h.fits.3 is_open in
              fits_given t.control (with_calls t.changed calls) (live_open t.control is_open) h.fits.0 h.fits.1 (omega (arith, quiet, least));
        };
        none = record { ids = k.none.ids; added = k.none.added };
      }

  -- what the end of one call leaves
  record Limited (s : ℕ) (t u : Turn) : Type 0 where
    ok : Ticking u
    others : Others e moment Tick letters calls recovery i s t u

  -- ---- what stays of a tunnel whose channel hasn't failed

  record Greeting (t : Turn) : Type 0 where
    ok : Ticking t
    changed : t.changed ≡ []

  hello_changed : (t : Turn) → (hello t).changed ≡ t.changed
  unfolding gives with_move
  hello_changed t = refl

  greets_ok : (t : Turn) → t.changed ≡ [] → Ticking t → Greeting (greets letters t)
  unfolding greets greeted
  greets_ok t none h =
      branch Greeting (state_number t.control.state == 3 && is_current t.on.mode && t.control.channel.window.queued == 0 && is_over patience t.on.moment t.control.heard) _ _
      (λ due.
      let open_is = state_number t.control.state == 3 in
      let active = is_current t.on.mode in
      let empty = t.control.channel.window.queued == 0 in
      let both = and_left (open_is && active && empty) _ due in
      let first = and_left (open_is && active) empty both in
      record {
        ok = settling_ok (hello t) (hello_ok t (sym (ap is_current h.settled.stays.6) ∙ and_right open_is active first)
            (eqb-true (state_number t.control.state) 3 (and_left open_is active first))
            (eqb-true t.control.channel.window.queued 0 (and_right (open_is && active) empty both))
            (over_at t.control.heard t h (and_right (open_is && active && empty) _ due)) h);
        changed = (settled_keeps false letters (hello t)).changed ∙ hello_changed t ∙ none;
      })
      (λ no. record { ok = h; changed = none })

  pub repeated_changed : (number : ℕ) (t : Turn) → t.changed ≡ [] → (repeats letters number t).changed ≡ []
  unfolding repeats sends_now with_move
  repeated_changed number t none = let u = repeated number t in (sent_keeps number (letter_in letters u number) u).changed ∙ none

  -- ---- calls that take too long, of the tunnel that is there

  module _ (first : Control) (asks : Asking)
      (is_there : at e.tunnels i ≡ Some
      (record (new_tunnel first) { letters = letters; calls = calls; recovery = recovery; query = asks })) where
    abbrev begun : Tunnel
    begun = record (new_tunnel first) { letters = letters; calls = calls; recovery = recovery; query = asks }

    limited : (s : ℕ) (c : Call) (t : Turn) → at calls s ≡ Some c → at (with_calls t.changed calls) s ≡ Some c → TookTooLong Tick moment c → is_set_up c.state ≡ true → s < 65536 → Ticking t
        → Limited s t (settles false letters (ends_by cause.Setup 10 None s c (row_for e.role c call_event.Close).1 t))
    limited s c t live found late set_up small h =
        let u = ends_by cause.Setup 10 None s c (row_for e.role c call_event.Close).1 t in
        let l = ends_leave e moment Tick letters calls recovery i cause.Setup s c call_event.Close 10 None t found (IsLate late refl refl refl) small
        (λ told current. (
          owes_told t.control (with_calls t.changed calls) s c found (some_owed c.state set_up) h.settled.fits,
          record { id = i; tunnel = begun; there = is_there; current = current; session = s; call = c; live = live; late = late; row = told },
        ))
        (row_for e.role c call_event.Close).1 refl h.settled in
        record {
          ok = settling_ok u (record { settled = l.ok; none = record { ids = l.ids ∙ h.none.ids; added = l.added ∙ h.none.added } });
          others = λ q o. ap (λ xs. at (with_calls xs calls) q) (settled_keeps false letters u).changed ∙ l.others q o;
        }

    -- the link of a call has its timer
    abbrev called_in : Turn → LinkStep
    called_in t = record { env = link_env t.on; call = Ticks }

    timed : (s : ℕ) (c : Call) (l : Link) (t : Turn) → at calls s ≡ Some c → at (with_calls t.changed calls) s ≡ Some c → c.link ≡ Some l
        → is_up c.state ≡ true → s < 65536 → Ticking t → Limited s t (links e.role letters s c (turn_at (called_in t) l) t)
    timed s c l t live found has up small h =
        let by = called_in t in
        let k : IsLinked e moment Tick letters calls recovery i s c l by t =
        record { found = found; has = has; up = up; at_moment = h.settled.stays.4; called = ForTime refl refl } in
        let left = links_leave e moment Tick letters calls recovery i s c l by t k small
        (λ why ends told current. ended_stands e moment Tick by l why ends (record {
          id = i;
          tunnel = begun;
          there = is_there;
          current = current;
          session = s;
          call = c;
          live = live;
          ends = record { calls = record { link = l; has = has; by = by; at_moment = h.settled.stays.4; called = ForTime refl refl }; ends = ends };
          row = told;
        })) h.settled in
        record {
          ok = record { settled = left.ok; none = record { ids = left.ids ∙ h.none.ids; added = left.added ∙ h.none.added } };
          others = left.others;
        }

    linked : (s : ℕ) (c : Call) (t : Turn) → at calls s ≡ Some c → at (with_calls t.changed calls) s ≡ Some c → (o : Option Link) → c.link ≡ o
        → Ticking t → Limited s t (ticks_link e.role letters s c o t)
    unfolding ticks_link
    linked s c t live found None has h = record { ok = h; others = λ q o. refl }
    linked s c t live found (Some l) has h =
        branch (Limited s t) (nat_lt s 65536 && is_up c.state && is_due t.on.moment l) _ _
        (λ due.
        let both = and_left (nat_lt s 65536 && is_up c.state) _ due in
        timed s c l t live found has (and_right (nat_lt s 65536) (is_up c.state) both) (ltb-true s 65536 (and_left (nat_lt s 65536) (is_up c.state) both)) h)
        (λ no. record { ok = h; others = λ q o. refl })

    limits_at_ok : (s : ℕ) (o : Option Call) (t : Turn) → at calls s ≡ o → at (with_calls t.changed calls) s ≡ o → Ticking t
        → Limited s t (limits_at e.role letters s o t)
    unfolding limits_at
    limits_at_ok s None t live found h = record { ok = h; others = λ q o. refl }
    limits_at_ok s (Some c) t live found h =
        branch (Limited s t) (nat_lt s 65536 && is_set_up c.state && is_over patience t.on.moment c.since) _ _
        (λ due.
        let both = and_left (nat_lt s 65536 && is_set_up c.state) _ due in
        limited s c t live found (record {
          ticks = refl;
          not_up = not_up c.state (and_right (nat_lt s 65536) (is_set_up c.state) both);
          over = over_at c.since t h (and_right (nat_lt s 65536 && is_set_up c.state) _ due);
        }) (and_right (nat_lt s 65536) (is_set_up c.state) both) (ltb-true s 65536 (and_left (nat_lt s 65536) (is_set_up c.state) both)) h)
        (λ no. linked s c t live found c.link refl h)

    limits_all_ok : (es : List (ℕ × Call)) → Ascends es → (t : Turn) → AllByRecursion (Same e moment Tick letters calls recovery i t) es → Ticking t
        → Ticking (limits_all e.role letters (ids_of es) calls t)
    unfolding limits_all Ascends
    limits_all_ok [] sorted t same h = h
    limits_all_ok (x ∷ es) sorted t same h =
        let u = limits_at e.role letters x.0 (at calls x.0) t in
        let l = limits_at_ok x.0 (at calls x.0) t refl same.0 h in
        limits_all_ok es sorted.1 u (same_still e moment Tick letters calls recovery i x.0 t u l.others es sorted.0 same.1) l.ok

    pub quietly_ok : Ascends calls → (t : Turn) → t.changed ≡ [] → Ticking t → Ticking (goes_quietly e.role letters calls t)
    unfolding goes_quietly
    quietly_ok sorted t none h =
        let g = greets_ok t none h in
        limits_all_ok calls sorted (greets letters t) (same_first e moment Tick letters calls recovery i (greets letters t) g.changed calls) g.ok
