-- Each part of a turn is a move, from the end as the turn has it so far.
use Rattle.step_laws.specs.Callers.{IsRing, WantsTunnel, LacWants, wanted_by_lac}
use Rattle.std.proofs.Common.{◌≡◌, ◌⊎◌, inl, inr, ℕ, ◌<◌, Bool, true, false, List, [], ◌∷◌, ◌++◌, refl, sym, ap, ◌∙◌, subst, Option, Some, None, Ok, arith}
use Rattle.std.proofs.lemmas.List.{append-nil, append_assoc}
use Rattle.std.specs.List.{AllByRecursion}
use Rattle.std.specs.Prelude.{nat_lt, drop, ◌==◌}
use Rattle.std.proofs.lemmas.Bool.{ltb-true, true≢false}
use Rattle.id_table.specs.Ids.{at, put, put-put, ids_of}
use Rattle.id_table.specs.Order.{at_new, at_other, IsAbove, Ascends}
use Rattle.id_source.specs.Spaces.{Space, takes_id, after_id}
use Rattle.wire_base.specs.declared.why.Why.{Why}
use Rattle.wire_base.specs.declared.cause.Cause.{Cause as CauseOf}
use Rattle.wire_base.specs.declared.letter.Letter.{Letter}
use Rattle.control_message.specs.declared.message.Message.{Message}
use Rattle.control_message.specs.declared.message.Message.TheVariants.{Sccrp, Scccn, Icrq, Icrp, Iccn, Cdn}
use Rattle.control_message.specs.declared.message.Opening.{Opening}
use Rattle.send_window.specs.Window as sending
use Rattle.control_channel.specs.Numbers.{count_acked}
use Rattle.tunnel_fsm.specs.declared.table.TunnelState.TheVariants.{WaitCtlReply, WaitCtlConn, Established}
use Rattle.tunnel_fsm.specs.Rows.{state_number}
use Rattle.call_fsm.specs.declared.table.CallEvent.TheVariants as call_event
use Rattle.end_model.specs.declared.tunnel.Call.{Call}
use Rattle.session_looks.specs.declared.look.CellChange.TheVariants as cell
use Rattle.end_model.specs.declared.tunnel.Control.{Control}
use Rattle.end_names.specs.declared.role.Role.{Role}
use Rattle.end_names.specs.declared.role.Role.TheVariants.{Lac}
use Rattle.end_model.specs.declared.event.Event.{Event}
use Rattle.end_model.specs.declared.moves.Refused.{Refused}
use Rattle.end_model.specs.declared.out.Out.{Out}
use Rattle.end_model.specs.declared.out.Out.TheVariants.{Send, Up, Gone, Drop, Cause}
use Rattle.end_model.specs.declared.moves.Move.{Move}
use Rattle.end_model.specs.declared.moves.Move.TheVariants as move
use Rattle.end_model.specs.Reading.{message_in, call_fault_in}
use Rattle.end_model.specs.Calls.{call_row, row_for, row_of_none, advanced, with_numbers, rung, asked_for, is_request, is_reply, is_connection, is_up, are_too_many, is_clean_up}
use Rattle.end_model.specs.Secrets.{response_by}
use Rattle.step_laws.proofs.Secrets.{acceptable_proven, responds_so, hides_number}
use Rattle.end_model.specs.Messages.{is_acceptable, request_of, hidden_request, connection, told_by, flags_of}
use Rattle.end_model.specs.Tunnels.{Tunnel, Turn, Recovering, mode_of, is_current}
use Rattle.end_model.specs.Reasons.{Reason}
use Rattle.end_model.specs.Moments.{is_closed}
use Rattle.end_model.specs.Asking.{granted, session_named, replied}
use Rattle.end_model.specs.Refusing.{refused}
use Rattle.end_model.specs.Channels.{may_take, counts_given, next_place, taken_place, has_room, learns_window, letter_of, letter_as, peer_window}
use Rattle.end_model.specs.Openings.{in_state, connected, confirms}
use Rattle.end_model.specs.Events.{changed_at, tunnel_after, with_calls}
use Rattle.end_model.specs.Turn.{with_output, with_move, with_change, with_call, with_new, drops, ends_call}
use Rattle.end_model.specs.Sending.{gives, gives_as, takes_one, reads_nr, takes_plain, ignores, letters_after}
use Rattle.end_model.specs.Connecting.{end_heard, first_up, second_up}
use Rattle.end_model.specs.Ringing.{requested, requests, requests_at, requests_all, adds}
use Rattle.end_model.specs.Links.{with_link}
use Rattle.end_model.specs.End.{End, placed, with_looks}
use Rattle.step_laws.specs.Causes.{Stands}
use Rattle.call_link.specs.Link.{new_link}
use Rattle.step_laws.specs.Moves.{IsRight, Chain, Came, IsNext, HearsNext, IsPlain, TellsNr, WhyRefused}
use Rattle.step_laws.specs.Queries.{IsQuery}
use Rattle.step_laws.proofs.Granting.{grants_is}
use Rattle.step_laws.proofs.States.{rung_asks}
use Rattle.step_laws.proofs.Lists.{all_push, branch, with_calls-more, with_looks-more, placed-more, chain_more}
use Rattle.step_laws.proofs.Tells.{Founded, Tells}
use Rattle.step_laws.proofs.Named.{named_so}
use Rattle.step_laws.proofs.Owing.{Fits, Holds, live_in, live_open, holds_live, has_room_for, spare_most, requested_owes, connected_owes, up_owes, replied_owes, rung_owes, fits_live, fits_given, fits_spare, fits_acked, fits_open, fits_instead, fits_up, holds_new, fits_new, fits_without}
pub use Rattle.step_laws.proofs.HeldLetters.{Held, has_64_bits, held_given, held_read, held_learnt, last_after, small_draw, next_after}

-- an output that is no datagram and hands nothing up
abbrev pub IsWord : Out → Type 0
IsWord (Gone session) = Unit {0}
IsWord (Drop w) = Unit {0}
IsWord (Cause w) = Unit {0}
IsWord (Send p bytes o) = ⊥
IsWord (Up session side frame) = ⊥

-- a move that sends no frame
abbrev pub NoFrame : Move → Type 0
NoFrame (move.FrameSent f) = ⊥
NoFrame m = Unit {0}

-- a window that is learned changes the channel's window alone
module _ (window : ℕ) (c : Control) where
  pub learnt_local : (learns_window window c).local ≡ c.local
  learnt_local = branch (λ (d : Control). d.local ≡ c.local) (window == 0) _ _ (λ none. refl) (λ some. refl)

  pub learnt_peer : (learns_window window c).peer ≡ c.peer
  learnt_peer = branch (λ (d : Control). d.peer ≡ c.peer) (window == 0) _ _ (λ none. refl) (λ some. refl)

  pub learnt_state : (learns_window window c).state ≡ c.state
  learnt_state = branch (λ (d : Control). d.state ≡ c.state) (window == 0) _ _ (λ none. refl) (λ some. refl)

  pub learnt_queued : (learns_window window c).channel.window.queued ≡ c.channel.window.queued
  learnt_queued = branch (λ (d : Control). d.channel.window.queued ≡ c.channel.window.queued) (window == 0) _ _ (λ none. refl) (λ some. refl)

-- what a turn of the tunnel with an id keeps, until it is removed
abbrev pub Stays : Option Recovering → ℕ → ℕ → Turn → Type 0
Stays recovery i moment t =
    (t.control.local ≡ i) × (state_number t.control.state ≡ 0 → ⊥) × (t.ids.sessions.last < 65536) × (0 < t.ids.tunnels.next)
    × (t.on.moment ≡ moment) × (t.cleared ≡ false) × (t.on.mode ≡ mode_of recovery) × IsQuery t.query

-- its channel carries messages
abbrev pub IsCurrent : Option Recovering → Type 0
IsCurrent recovery = is_current (mode_of recovery) ≡ true

-- what comes next is taken plainly: by its tables the end does nothing on it in the tunnel
pub record ComesPlain (ev : Event) (x : End) (u : Tunnel) : Type 0 where
  pub letter : Came
  pub next : IsNext ev u letter
  pub why : (m : Message) → message_in letter.body ≡ Ok m → IsPlain x u letter.header.session m
  pub spare : is_closed u.control.state ≡ false → may_take u.control u.calls ≡ true

-- what a request that is granted needs
pub record IsGranted (r : Role) (cs : List (ℕ × Call)) (sessions : Space) (s : ℕ) : Type 0 where
  pub row : is_reply (row_of_none r call_event.IcrqAcc).1 ≡ true
  pub few : are_too_many cs ≡ false
  pub drawn : takes_id sessions ≡ Ok s

module _ (e : End) (moment : ℕ) (ev : Event) (letters : List Letter) (calls : List (ℕ × Call)) (recovery : Option Recovering) (i : ℕ) where
  -- the end as the turn has it
  abbrev pub at_turn : Turn → End
  at_turn t = record e {
    tunnel_ids = t.ids.tunnels;
    session_ids = t.ids.sessions;
    recovery_ids = t.ids.recoveries;
    tunnels = put e.tunnels t.control.local (tunnel_after t letters calls recovery);
    calls = with_looks t.changes (placed t.control.local t.added e.calls);
  }

  -- a turn that sent nothing yet, of a tunnel whose channel carries messages
  pub record TurnOk (t : Turn) : Type 0 where
    pub chain : Chain moment ev e t.moves (at_turn t)
    pub words : AllByRecursion IsWord t.outputs
    pub tells : AllByRecursion (Tells e moment ev) t.outputs
    pub frames : AllByRecursion NoFrame t.moves
    pub stays : Stays recovery i moment t
    pub current : IsCurrent recovery
    pub held : Held t.control.channel.window (letters_after t letters)
    pub fits : Fits t.control (with_calls t.changed calls)

  pub there : (t : Turn) → at (at_turn t).tunnels t.control.local ≡ Some (tunnel_after t letters calls recovery)
  there t = at_new e.tunnels t.control.local (tunnel_after t letters calls recovery)

  -- what is given stands behind the other letters
  pub one_given : (t : Turn) (l : Letter) → drop t.acked letters ++ (t.given ++ l ∷ []) ≡ letters_after t letters ++ l ∷ []
  one_given t l = sym (append_assoc (drop t.acked letters) t.given (l ∷ []))

  pub given_held : (t : Turn) (l : Letter) → Held t.control.channel.window (letters_after t letters)
      → Held (sending.one_more t.control.channel.window) (drop t.acked letters ++ (t.given ++ l ∷ []))
  given_held t l h =
      subst (Held (sending.one_more t.control.channel.window)) (sym (one_given t l)) (held_given t.control.channel.window (letters_after t letters) l h)

  -- there is room always, as long as the tunnel isn't closed
  pub is_roomy : (t : Turn) → is_closed t.control.state ≡ false → TurnOk t → has_room t.control ≡ false → ⊥
  is_roomy t live h full =
      true≢false (sym (has_room_for t.control (with_calls t.changed calls) (holds_live t.control (with_calls t.changed calls) live h.fits)) ∙ full)

  -- what fits, once one more call is changed
  pub fits_changed : (c : Control) (t : Turn) (s : ℕ) (o : Option Call) → Fits c (changed_at (with_calls t.changed calls) s o)
      → Fits c (with_calls (t.changed ++ (s, o) ∷ []) calls)
  fits_changed c t s o h = subst (Fits c) (sym (with_calls-more t.changed s o calls)) h

  pub drops_ok : (w : Why) → Founded e moment ev w → (t : Turn) → TurnOk t → TurnOk (drops w t)
  unfolding drops with_output
  drops_ok w so t h = record { chain = h.chain; words = all_push IsWord t.outputs (Drop w) h.words tt; tells = all_push _ t.outputs (Drop w) h.tells so; frames = h.frames; stays = h.stays; current = h.current; held = h.held; fits = h.fits }

  pub caused_ok : (c : CauseOf) → Stands e moment ev c → (t : Turn) → TurnOk t → TurnOk (with_output (Cause c) t)
  unfolding with_output
  caused_ok c so t h = record { chain = h.chain; words = all_push IsWord t.outputs (Cause c) h.words tt; tells = all_push _ t.outputs (Cause c) h.tells so; frames = h.frames; stays = h.stays; current = h.current; held = h.held; fits = h.fits }

  -- ---- calls that are asked for

  requested_chain : (s : ℕ) (c : Call) (t : Turn) → state_number t.control.state ≡ 3 → at (with_calls t.changed calls) s ≡ Some c → s < 65536
      → is_request (row_for e.role c call_event.TunnelOpen).1 ≡ true → has_room t.control ≡ true → t.on.moment ≡ moment
      → IsCurrent recovery → Chain moment ev e t.moves (at_turn t) → Chain moment ev e (requested e.role e.config s c t).moves (at_turn (requested e.role e.config s c t))
  unfolding requested gives_as with_change with_move with_call
  requested_chain s c t is_open found small row room now_is current h =
      let m = move.Requested (record { tunnel = t.control.local; session = s; subscriber = c.subscriber; hidden = hidden_request e.config t.on.block s c.subscriber; given = next_place t.control }) in
      chain_more moment ev e (at_turn t) _ t.moves m h (record {
        tunnel = tunnel_after t letters calls recovery;
        there = there t;
        current = current;
        open_is = is_open;
        call = c;
        waits = found;
        row = row;
        session = small;
        subscriber = refl;
        hides = hides_number e.config t.on.block s c.subscriber;
        room = room;
        given = refl;
        after =
            let changed = with_calls-more t.changed s (Some (advanced e.role call_event.TunnelOpen t.on.moment c)) calls in
            let looked = with_looks-more t.changes (cell.Bind s t.control.local t.control.peer) (placed t.control.local t.added e.calls) in
            rw (changed, looked, one_given t (letter_as 0 (request_of s c.subscriber) (hidden_request e.config t.on.block s c.subscriber)), put-put e.tunnels t.control.local (tunnel_after t letters calls recovery) _, now_is) refl;
      })

  -- it gives one of the letters that it owes
  requested_fits : (s : ℕ) (c : Call) (t : Turn) → is_closed t.control.state ≡ false → at (with_calls t.changed calls) s ≡ Some c
      → is_request (row_for e.role c call_event.TunnelOpen).1 ≡ true → Holds t.control (with_calls t.changed calls)
      → Fits (requested e.role e.config s c t).control (with_calls (requested e.role e.config s c t).changed calls)
  unfolding requested gives_as with_change with_move with_call advanced
  requested_fits s c t live found row h =
      let less = requested_owes e.role c.state row in
      let d = advanced e.role call_event.TunnelOpen t.on.moment c in
      fits_changed (counts_given t.control) t s (Some d)
      (fits_instead t.control (with_calls t.changed calls) s d c live found (let before = less.0 in let now = less.1 in omega (arith, before, now)) h)

  requested_ok : (s : ℕ) (c : Call) (t : Turn) → state_number t.control.state ≡ 3 → at (with_calls t.changed calls) s ≡ Some c → s < 65536
      → is_request (row_for e.role c call_event.TunnelOpen).1 ≡ true → has_room t.control ≡ true → TurnOk t → TurnOk (requested e.role e.config s c t)
  unfolding requested gives_as with_change with_move with_call
  requested_ok s c t is_open found small row room h = record {
    chain = requested_chain s c t is_open found small row room h.stays.4 h.current h.chain;
    words = h.words;
    tells = h.tells;
    frames = all_push NoFrame t.moves _ h.frames tt;
    stays = h.stays;
    current = h.current;
    held = given_held t (letter_as 0 (request_of s c.subscriber) (hidden_request e.config t.on.block s c.subscriber)) h.held;
    fits =
        let live = live_open t.control is_open in
        requested_fits s c t live found row (holds_live t.control (with_calls t.changed calls) live h.fits);
  }

  -- ---- the calls that wait

  pub requests_ok : (s : ℕ) (c : Call) (t : Turn) → state_number t.control.state ≡ 3 → at (with_calls t.changed calls) s ≡ Some c → s < 65536
      → TurnOk t → TurnOk (requests e.role e.config s c t)
  unfolding requests
  requests_ok s c t is_open found small h =
      branch TurnOk (is_request (row_for e.role c call_event.TunnelOpen).1) _ _
      (λ row. branch TurnOk (has_room t.control) _ _
      (λ may. requested_ok s c t is_open found small row may h)
      (λ full. absurd (is_roomy t (live_open t.control is_open) h full)))
      (λ none. h)

  -- the calls other than one stay
  abbrev pub Others : ℕ → Turn → Turn → Type 0
  Others s t u = (q : ℕ) → (q ≡ s → ⊥) → at (with_calls u.changed calls) q ≡ at (with_calls t.changed calls) q

  -- what a request leaves: the tunnel's state, and the other calls
  pub record Leaves (s : ℕ) (t u : Turn) : Type 0 where
    pub state : u.control.state ≡ t.control.state
    pub others : Others s t u

  leaves_all : (s : ℕ) (t : Turn) → Leaves s t t
  leaves_all s t = record { state = refl; others = λ q o. refl }

  requests_leaves : (s : ℕ) (c : Call) (t : Turn) → Leaves s t (requests e.role e.config s c t)
  unfolding requests requested gives_as with_output with_change with_move with_call drops
  requests_leaves s c t =
      branch (Leaves s t) (is_request (row_for e.role c call_event.TunnelOpen).1) _ _
      (λ row. branch (Leaves s t) (has_room t.control) _ _
      (λ may. record {
        state = refl;
        others = λ q o. ap (λ xs. at xs q) (with_calls-more t.changed s (Some (advanced e.role call_event.TunnelOpen t.on.moment c)) calls)
            ∙ at_other (with_calls t.changed calls) s (advanced e.role call_event.TunnelOpen t.on.moment c) q o;
      })
      (λ full. record { state = refl; others = λ q o. refl }))
      (λ none. leaves_all s t)

  record Asked (s : ℕ) (t u : Turn) : Type 0 where
    ok : TurnOk u
    leaves : Leaves s t u

  requests_at_ok : (s : ℕ) (o : Option Call) (t : Turn) → state_number t.control.state ≡ 3 → at (with_calls t.changed calls) s ≡ o → TurnOk t
      → Asked s t (requests_at e.role e.config s o t)
  unfolding requests_at
  requests_at_ok s None t is_open found h = record { ok = h; leaves = leaves_all s t }
  requests_at_ok s (Some c) t is_open found h =
      branch (Asked s t) (nat_lt s 65536) _ _
      (λ small. record { ok = requests_ok s c t is_open found (ltb-true s 65536 small) h; leaves = requests_leaves s c t })
      (λ big. record { ok = h; leaves = leaves_all s t })

  abbrev pub Same : Turn → ℕ × Call → Type 0
  Same t x = at (with_calls t.changed calls) x.0 ≡ at calls x.0

  -- nothing is changed at first
  pub same_first : (u : Turn) → u.changed ≡ [] → (es : List (ℕ × Call)) → AllByRecursion (Same u) es
  unfolding with_calls
  same_first u none [] = tt
  same_first u none (x ∷ es) = (rw none refl, same_first u none es)

  pub same_still : (s : ℕ) (t u : Turn) → Others s t u → (es : List (ℕ × Call)) → IsAbove s es → AllByRecursion (Same t) es → AllByRecursion (Same u) es
  same_still s t u l [] above h = tt
  same_still s t u l (x ∷ es) above h = (l x.0 (λ q. let lt = above.0 in absurd (omega (arith, lt, q))) ∙ h.0, same_still s t u l es above.1 h.1)

  pub requests_all_ok : (es : List (ℕ × Call)) → Ascends es → (t : Turn) → state_number t.control.state ≡ 3 → AllByRecursion (Same t) es → TurnOk t
      → TurnOk (requests_all e.role e.config (ids_of es) calls t)
  unfolding requests_all Ascends
  requests_all_ok [] sorted t is_open same h = h
  requests_all_ok (x ∷ es) sorted t is_open same h =
      let a = requests_at_ok x.0 (at calls x.0) t is_open same.0 h in
      requests_all_ok es sorted.1 (requests_at e.role e.config x.0 (at calls x.0) t) (ap state_number a.leaves.state ∙ is_open)
      (same_still x.0 t (requests_at e.role e.config x.0 (at calls x.0) t) a.leaves.others es sorted.0 same.1) a.ok

  -- ---- moves of calls

  -- what the end wants, it wants as the turn has it too
  wants_now : (t : Turn) (peer : ℕ) → WantsTunnel e ev peer → WantsTunnel (at_turn t) ev peer
  wants_now t peer (LacWants lac lns asks) = LacWants lac lns asks

  adds_chain : (who : List ℕ) (s : ℕ) (t : Turn) → t.changes ≡ [] → (state_number t.control.state ≡ 3) ⊎ (state_number t.control.state ≡ 1)
      → are_too_many (with_calls t.changed calls) ≡ false → may_take t.control (with_calls t.changed calls) ≡ true → IsRing ev who → WantsTunnel e ev t.control.peer
      → takes_id t.ids.sessions ≡ Ok s → t.on.moment ≡ moment → IsCurrent recovery → Chain moment ev e t.moves (at_turn t)
      → Chain moment ev e (adds e.role who s t).moves (at_turn (adds e.role who s t))
  unfolding adds with_move with_new with_looks
  adds_chain who s t none goes few spare rings wants drawn now_is current h =
      let m = move.Added (record { tunnel = t.control.local; session = s; subscriber = who }) in
      chain_more moment ev e (at_turn t) _ t.moves m h (record {
        tunnel = tunnel_after t letters calls recovery;
        there = there t;
        current = current;
        goes = goes;
        few = few;
        spare = spare;
        rings = rings;
        wants = wants_now t t.control.peer wants;
        drawn = drawn;
        after =
            let changed = with_calls-more t.changed s (Some (rung e.role who t.on.moment)) calls in
            let added = placed-more t.control.local t.added s e.calls in
            rw (none, changed, added, put-put e.tunnels t.control.local (tunnel_after t letters calls recovery) _, now_is) refl;
      })

  adds_fit : (who : List ℕ) (s : ℕ) (t : Turn) → are_too_many (with_calls t.changed calls) ≡ false → may_take t.control (with_calls t.changed calls) ≡ true
      → e.role ≡ Lac → TurnOk t → Holds (adds e.role who s t).control (with_calls (adds e.role who s t).changed calls)
  unfolding adds with_move with_new
  adds_fit who s t few spare lac h =
      let d = rung e.role who t.on.moment in
      subst (Holds t.control) (sym (with_calls-more t.changed s (Some d) calls))
      (holds_new t.control (with_calls t.changed calls) s d (rung_owes e.role who t.on.moment lac) few spare h.fits)

  small_last : (t : Turn) → t.ids.sessions.last < 65536 → (after_id t.ids.sessions).last < 65536
  small_last t small = let l = last_after t.ids.sessions in omega (arith, l, small)

  -- over a tunnel that isn't open the call waits
  pub adds_ok : (who : List ℕ) (s : ℕ) (t : Turn) → t.changes ≡ [] → state_number t.control.state ≡ 1
      → are_too_many (with_calls t.changed calls) ≡ false → may_take t.control (with_calls t.changed calls) ≡ true → IsRing ev who → WantsTunnel e ev t.control.peer
      → takes_id t.ids.sessions ≡ Ok s → TurnOk t → TurnOk (adds e.role who s t)
  unfolding adds with_move with_new
  adds_ok who s t none waits few spare rings wants drawn h =
      let fit = adds_fit who s t few spare (wanted_by_lac e ev t.control.peer wants) h in
      record {
        chain = adds_chain who s t none (inr waits) few spare rings wants drawn h.stays.4 h.current h.chain;
        words = h.words;
        tells = h.tells;
        frames = all_push NoFrame t.moves _ h.frames tt;
        stays = (h.stays.0, h.stays.1, small_last t h.stays.2, h.stays.3, h.stays.4, h.stays.5, h.stays.6, h.stays.7);
        current = h.current;
        held = h.held;
        fits = fits_live (adds e.role who s t).control (with_calls (adds e.role who s t).changed calls)
            (live_in t.control 1 (λ f. omega (arith, f)) waits) fit (λ o. absurd (omega (arith, waits, o)));
      }

  adds_found : (who : List ℕ) (s : ℕ) (t : Turn) → at (with_calls (adds e.role who s t).changed calls) s ≡ Some (rung e.role who t.on.moment)
  unfolding adds with_move with_new
  adds_found who s t =
      let c = rung e.role who t.on.moment in
      rw (with_calls-more t.changed s (Some c) calls) (at_new (with_calls t.changed calls) s c)

  adds_requested_ok : (who : List ℕ) (s : ℕ) (t : Turn) → t.changes ≡ [] → state_number t.control.state ≡ 3
      → are_too_many (with_calls t.changed calls) ≡ false → may_take t.control (with_calls t.changed calls) ≡ true → IsRing ev who → WantsTunnel e ev t.control.peer
      → takes_id t.ids.sessions ≡ Ok s → s < 65536 → is_request (call_row e.role (rung e.role who t.on.moment).state call_event.TunnelOpen).1 ≡ true
      → has_room t.control ≡ true → TurnOk t → TurnOk (requested e.role e.config s (rung e.role who t.on.moment) (adds e.role who s t))
  unfolding requested gives_as with_change with_move with_call adds with_new
  adds_requested_ok who s t none is_open few spare rings wants drawn small row room h =
      let u = adds e.role who s t in
      let c = rung e.role who t.on.moment in
      let found = adds_found who s t in
      record {
        chain = requested_chain s c u is_open found small row room h.stays.4 h.current (adds_chain who s t none (inl is_open) few spare rings wants drawn h.stays.4 h.current h.chain);
        words = h.words;
        tells = h.tells;
        frames = all_push NoFrame _ _ (all_push NoFrame t.moves _ h.frames tt) tt;
        stays = (h.stays.0, h.stays.1, small_last t h.stays.2, h.stays.3, h.stays.4, h.stays.5, h.stays.6, h.stays.7);
        current = h.current;
        held = given_held t (letter_as 0 (request_of s c.subscriber) (hidden_request e.config t.on.block s c.subscriber)) h.held;
        fits = requested_fits s c u (live_open t.control is_open) found row (adds_fit who s t few spare (wanted_by_lac e ev t.control.peer wants) h);
      }

  -- over an open one it is asked for at once, so that it owes two letters, and not three
  pub adds_asked_ok : (who : List ℕ) (s : ℕ) (t : Turn) → t.changes ≡ [] → state_number t.control.state ≡ 3
      → are_too_many (with_calls t.changed calls) ≡ false → may_take t.control (with_calls t.changed calls) ≡ true → IsRing ev who → WantsTunnel e ev t.control.peer
      → takes_id t.ids.sessions ≡ Ok s → s < 65536 → TurnOk t → TurnOk (requests e.role e.config s (rung e.role who t.on.moment) (adds e.role who s t))
  unfolding requests adds with_move with_new
  adds_asked_ok who s t none is_open few spare rings wants drawn small h =
      branch TurnOk (is_request (call_row e.role (rung e.role who t.on.moment).state call_event.TunnelOpen).1) _ _
      (λ row. branch TurnOk (has_room t.control) _ _
      (λ may. adds_requested_ok who s t none is_open few spare rings wants drawn small row may h)
      (λ full. absurd (is_roomy t (live_open t.control is_open) h full)))
      (λ no. absurd (true≢false (sym (rung_asks e.role who t.on.moment (wanted_by_lac e ev t.control.peer wants)) ∙ no)))

  pub replied_ok : (remote s session serial : ℕ) (calling : Option (List ℕ)) (t : Turn) → t.changes ≡ [] → state_number t.control.state ≡ 3
      → HearsNext ev (tunnel_after t letters calls recovery) session (Icrq remote serial calling) → at (with_calls t.changed calls) session ≡ None
      → granted e.role (with_calls t.changed calls) remote t.ids.sessions ≡ Ok s → IsGranted e.role (with_calls t.changed calls) t.ids.sessions s
      → may_take t.control (with_calls t.changed calls) ≡ true → has_room t.control ≡ true → TurnOk t → TurnOk (replied e.role remote s t)
  unfolding replied gives with_output with_move with_new takes_one with_looks
  replied_ok remote s session serial calling t none is_open hears unnamed is so spare room h =
      let m = move.Replied (record {
        tunnel = t.control.local;
        peer = t.control.peer;
        session = s;
        remote = remote;
        taken = taken_place t.control;
        given = next_place t.control;
      }) in
      record {
        chain = chain_more moment ev e (at_turn t) _ t.moves m h.chain (record {
          tunnel = tunnel_after t letters calls recovery;
          there = there t;
          current = h.current;
          open_is = is_open;
          peer = refl;
          serial = serial;
          calling = calling;
          letter = hears.letter;
          takes = record { next = hears.next; taken_is = refl; spare = spare };
          said = hears.says.said;
          none = ap (at (with_calls t.changed calls)) hears.says.session_is ∙ unnamed;
          granted = grants_is (at_turn t) (tunnel_after t letters calls recovery) remote s is;
          row = so.row;
          few = so.few;
          drawn = so.drawn;
          room = room;
          given = refl;
          after =
              let changed = with_calls-more t.changed s (Some (asked_for e.role remote t.on.moment)) calls in
              let added = placed-more t.control.local t.added s e.calls in
              rw (none, changed, added, one_given t (letter_of remote (Icrp s)), put-put e.tunnels t.control.local (tunnel_after t letters calls recovery) _, h.stays.4) refl;
        });
        words = h.words;
        tells = h.tells;
        frames = all_push NoFrame t.moves m h.frames tt;
        stays = (h.stays.0, h.stays.1, small_last t h.stays.2, h.stays.3, h.stays.4, h.stays.5, h.stays.6, h.stays.7);
        current = h.current;
        held = given_held t (letter_of remote (Icrp s)) h.held;
        fits =
            let d = asked_for e.role remote t.on.moment in
            fits_changed (counts_given t.control) t s (Some d)
            (fits_new t.control (with_calls t.changed calls) s d (live_open t.control is_open)
            (replied_owes e.role remote t.on.moment so.row) so.few spare h.fits);
      }

  pub first_up_ok : (s remote : ℕ) (c : Call) (t : Turn) → state_number t.control.state ≡ 3 → at (with_calls t.changed calls) s ≡ Some c
      → HearsNext ev (tunnel_after t letters calls recovery) s (Icrp remote) → is_connection (row_for e.role c call_event.IcrpAcc).1 ≡ true
      → may_take t.control (with_calls t.changed calls) ≡ true → has_room t.control ≡ true → TurnOk t
      → TurnOk (first_up e.role s remote c t)
  unfolding first_up gives with_output with_change with_move with_call takes_one advanced
  first_up_ok s remote c t is_open found hears row spare room h =
      let m = move.FirstUp (record {
        tunnel = t.control.local;
        session = s;
        remote = remote;
        subscriber = c.subscriber;
        taken = taken_place t.control;
        given = next_place t.control;
      }) in
      record {
        chain = chain_more moment ev e (at_turn t) _ t.moves m h.chain (record {
          tunnel = tunnel_after t letters calls recovery;
          there = there t;
          current = h.current;
          open_is = is_open;
          call = c;
          asked = found;
          letter = hears.letter;
          takes = record { next = hears.next; taken_is = refl; spare = spare };
          says = hears.says;
          subscriber = refl;
          row = row;
          room = room;
          given = refl;
          after =
              let changed = with_calls-more t.changed s (Some (advanced e.role call_event.IcrpAcc t.on.moment (record c { remote = remote }))) calls in
              let looked = with_looks-more t.changes (cell.Establish s) (placed t.control.local t.added e.calls) in
              rw (changed, looked, one_given t (letter_of remote connection), put-put e.tunnels t.control.local (tunnel_after t letters calls recovery) _, h.stays.4) refl;
        });
        words = h.words;
        tells = h.tells;
        frames = all_push NoFrame t.moves m h.frames tt;
        stays = h.stays;
        current = h.current;
        held = given_held t (letter_of remote connection) h.held;
        fits =
            let less = connected_owes e.role c.state row in
            let d = advanced e.role call_event.IcrpAcc t.on.moment (record c { remote = remote }) in
            fits_changed (counts_given t.control) t s (Some d)
            (fits_instead t.control (with_calls t.changed calls) s d c (live_open t.control is_open) found
            (let before = less.0 in let now = less.1 in omega (arith, before, now))
            (holds_live t.control (with_calls t.changed calls) (live_open t.control is_open) h.fits));
      }

  -- the call as it is connected, with its link
  abbrev pub connected_call : Bool → List ℕ → Call → Turn → Call
  connected_call sequenced block c t = with_link (new_link (record { moment = t.on.moment; block = block })) (with_numbers sequenced (advanced e.role call_event.IccnAcc t.on.moment c))

  pub second_up_ok : (s speed framing : ℕ) (block : List ℕ) (sequenced : Bool) (c : Call) (t : Turn) → state_number t.control.state ≡ 3
      → at (with_calls t.changed calls) s ≡ Some c → HearsNext ev (tunnel_after t letters calls recovery) s (Iccn speed framing sequenced)
      → is_up (row_for e.role c call_event.IccnAcc).0 ≡ true → may_take t.control (with_calls t.changed calls) ≡ true → TurnOk t
      → TurnOk (second_up sequenced s (connected_call sequenced block c t) t)
  unfolding second_up with_change with_move with_call takes_one advanced
  second_up_ok s speed framing block sequenced c t is_open found hears row spare h =
      let m = move.SecondUp (record { tunnel = t.control.local; session = s; remote = c.remote; sequenced = sequenced; taken = taken_place t.control }) in
      let bind = cell.Bind s t.control.local t.control.peer in
      let places = placed t.control.local t.added e.calls in
      record {
        chain = chain_more moment ev e (at_turn t) _ t.moves m h.chain (record {
          tunnel = tunnel_after t letters calls recovery;
          there = there t;
          current = h.current;
          open_is = is_open;
          call = c;
          made = found;
          remote = refl;
          speed = speed;
          framing = framing;
          letter = hears.letter;
          takes = record { next = hears.next; taken_is = refl; spare = spare };
          says = hears.says;
          row = row;
          block = block;
          after =
              let changed = with_calls-more t.changed s (Some (connected_call sequenced block c t)) calls in
              let bound = with_looks-more t.changes bind places in
              rw (changed, bound, put-put e.tunnels t.control.local (tunnel_after t letters calls recovery) _, h.stays.4) refl;
        });
        words = h.words;
        tells = h.tells;
        frames = all_push NoFrame t.moves m h.frames tt;
        stays = h.stays;
        current = h.current;
        held = h.held;
        fits =
            let d = connected_call sequenced block c t in
            fits_changed t.control t s (Some d) (fits_up t.control (with_calls t.changed calls) s d c found (up_owes _ row) spare h.fits);
      }

  pub end_heard_ok : (s session remote code : ℕ) (error : Option ℕ) (c : Call) (t : Turn) → state_number t.control.state ≡ 3
      → at (with_calls t.changed calls) s ≡ Some c → HearsNext ev (tunnel_after t letters calls recovery) session (Cdn remote code error)
      → s ≡ session_named (with_calls t.changed calls) session remote → is_clean_up (row_for e.role c call_event.CdnCame).1 ≡ true
      → may_take t.control (with_calls t.changed calls) ≡ true → TurnOk t → TurnOk (end_heard s (is_up c.state) t)
  unfolding end_heard ends_call with_output with_change with_move takes_one
  end_heard_ok s session remote code error c t is_open found hears named row spare h =
      let m = move.EndHeard (record { tunnel = t.control.local; session = s; booked = is_up c.state; taken = taken_place t.control }) in
      let named_here : s ≡ session_named (with_calls t.changed calls) hears.letter.header.session remote =
      named ∙ ap (λ q. session_named (with_calls t.changed calls) q remote) (sym hears.says.session_is) in
      record {
        chain = chain_more moment ev e (at_turn t) _ t.moves m h.chain (record {
          tunnel = tunnel_after t letters calls recovery;
          there = there t;
          current = h.current;
          open_is = is_open;
          call = c;
          live = found;
          remote = remote;
          code = code;
          error = error;
          letter = hears.letter;
          takes = record { next = hears.next; taken_is = refl; spare = spare };
          said = hears.says.said;
          session_is = named_here;
          named = named_so (with_calls t.changed calls) hears.letter.header.session remote s c named_here found;
          row = row;
          booked = refl;
          after =
              let changed = with_calls-more t.changed s None calls in
              let looked = with_looks-more t.changes (cell.Kill s) (placed t.control.local t.added e.calls) in
              rw (changed, looked, put-put e.tunnels t.control.local (tunnel_after t letters calls recovery) _) refl;
        });
        words = all_push IsWord t.outputs (Gone s) h.words tt;
        tells = all_push _ t.outputs (Gone s) h.tells tt;
        frames = all_push NoFrame t.moves m h.frames tt;
        stays = h.stays;
        current = h.current;
        held = h.held;
        fits = fits_changed t.control t s None (fits_without t.control (with_calls t.changed calls) s h.fits);
      }

  -- ---- moves of the tunnel

  pub connected_ok : (session : ℕ) (o : Opening) (t : Turn) → t.control.state ≡ WaitCtlReply → HearsNext ev (tunnel_after t letters calls recovery) session (Sccrp o)
      → is_acceptable e.config.secret t.control.challenge o ≡ true
      → may_take t.control (with_calls t.changed calls) ≡ true → has_room t.control ≡ true → TurnOk t
      → TurnOk (connected e.config (told_by o) Established t)
  unfolding connected gives with_move takes_one
  connected_ok session o t state hears good spare room h =
      let window = o.window in
      let proven = acceptable_proven e.config.secret t.control.challenge o good in
      let response = response_by 3 e.config.secret o.challenge in
      let l = letter_of 0 (Scccn response) in
      let m = move.Connected (record {
        tunnel = t.control.local;
        peer = t.control.peer;
        remote = o.tunnel;
        window = window;
        flags = flags_of o.failover;
        response = response;
        taken = taken_place t.control;
        given = next_place t.control;
      }) in
      let c : Control = record t.control { remote = o.tunnel; flags = flags_of o.failover; state = Established } in
      record {
        chain = chain_more moment ev e (at_turn t) _ t.moves m h.chain (record {
          tunnel = tunnel_after t letters calls recovery;
          there = there t;
          current = h.current;
          state = state;
          opening = o;
          letter = hears.letter;
          takes = record { next = hears.next; taken_is = refl; spare = spare };
          said = hears.says.said;
          peer = refl;
          remote = refl;
          window = refl;
          flags = refl;
          right = proven.right;
          able = proven.able;
          responds = responds_so 3 e.config.secret o.challenge;
          room = room;
          given = refl;
          after = rw (learnt_local window c, one_given t l, put-put e.tunnels t.control.local (tunnel_after t letters calls recovery) _) refl;
        });
        words = h.words;
        tells = h.tells;
        frames = all_push NoFrame t.moves m h.frames tt;
        stays = (
          learnt_local window c ∙ h.stays.0,
          rw (learnt_state window c)
              (λ z. absurd (omega (arith, z))),
          h.stays.2,
          h.stays.3,
          h.stays.4,
          h.stays.5,
          h.stays.6,
          h.stays.7,
        );
        current = h.current;
        held = subst (Held (sending.one_more (learns_window window c).channel.window)) (sym (one_given t l))
            (held_given (learns_window window c).channel.window (letters_after t letters) l
            (held_learnt window c (letters_after t letters) h.held));
        fits =
            let cs = with_calls t.changed calls in
            let most = spare_most t.control cs spare in
            let count = learnt_queued window c in
            fits_given (learns_window window c) cs (ap is_closed (learnt_state window c)) h.fits.0 h.fits.1 (omega (arith, most, count));
      }

  pub confirms_ok : (session : ℕ) (response : Option (List ℕ)) (t : Turn) → t.control.state ≡ WaitCtlConn
      → HearsNext ev (tunnel_after t letters calls recovery) session (Scccn response) → IsRight 3 e.config.secret t.control.challenge response
      → may_take t.control (with_calls t.changed calls) ≡ true → TurnOk t → TurnOk (confirms Established t)
  unfolding confirms with_move takes_one
  confirms_ok session response t state hears right spare h =
      let m = move.Confirmed (record {
        tunnel = t.control.local;
        peer = t.control.peer;
        remote = t.control.remote;
        window = peer_window t.control;
        flags = t.control.flags;
        taken = taken_place t.control;
      }) in
      record {
        chain = chain_more moment ev e (at_turn t) _ t.moves m h.chain (record {
          tunnel = tunnel_after t letters calls recovery;
          there = there t;
          current = h.current;
          state = state;
          response = response;
          letter = hears.letter;
          takes = record { next = hears.next; taken_is = refl; spare = spare };
          said = hears.says.said;
          right = right;
          peer = refl;
          remote = refl;
          window = refl;
          flags = refl;
          after = rw (put-put e.tunnels t.control.local (tunnel_after t letters calls recovery) _) refl;
        });
        words = h.words;
        tells = h.tells;
        frames = all_push NoFrame t.moves m h.frames tt;
        stays = (h.stays.0, (λ z. absurd (omega (arith, z))), h.stays.2, h.stays.3, h.stays.4, h.stays.5, h.stays.6, h.stays.7);
        current = h.current;
        held = h.held;
        fits = fits_open t.control (in_state Established t.control) (with_calls t.changed calls) refl refl spare h.fits;
      }

  -- a letter on which nothing is done in a turn
  abbrev pub PlainAt : Turn → Type 0
  PlainAt t = ComesPlain ev (at_turn t) (tunnel_after t letters calls recovery)

  pub plain_ok : (t : Turn) → PlainAt t → TurnOk t → TurnOk (takes_plain t)
  unfolding takes_plain with_move takes_one
  plain_ok t comes h =
      let m = move.TookPlain (record { tunnel = t.control.local; taken = taken_place t.control }) in
      record {
        chain = chain_more moment ev e (at_turn t) _ t.moves m h.chain (record {
          tunnel = tunnel_after t letters calls recovery;
          there = there t;
          current = h.current;
          letter = comes.letter;
          next = comes.next;
          why = comes.why;
          taken = refl;
          spare = comes.spare;
          after = rw (put-put e.tunnels t.control.local (tunnel_after t letters calls recovery) _) refl;
        });
        words = h.words;
        tells = h.tells;
        frames = all_push NoFrame t.moves m h.frames tt;
        stays = h.stays;
        current = h.current;
        held = h.held;
        fits = h.fits;
      }

  pub ignores_ok : (w : Why) → Founded e moment ev w → (t : Turn) → PlainAt t → TurnOk t → TurnOk (ignores w t)
  unfolding ignores
  ignores_ok w so t comes h = drops_ok w so (takes_plain t) (plain_ok t comes h)

  -- a letter about a call that there isn't
  pub refused_ok : (r : Reason) → Stands e moment ev r.cause → (remote : ℕ) (t : Turn) → state_number t.control.state ≡ 3 → (k : Came)
      → IsNext ev (tunnel_after t letters calls recovery) k
      → ((m : Refused) → m.remote ≡ remote → m.result ≡ r.result → m.error ≡ r.error
      → WhyRefused (at_turn t) (tunnel_after t letters calls recovery) k.header.session (message_in k.body)
      (call_fault_in k.body) m)
      → may_take t.control (with_calls t.changed calls) ≡ true → has_room t.control ≡ true → TurnOk t → TurnOk (refused r remote t)
  unfolding refused gives with_output with_move takes_one
  refused_ok r so remote t is_open k next why spare room h =
      let m = move.Refused (record {
        tunnel = t.control.local;
        remote = remote;
        result = r.result;
        error = r.error;
        taken = taken_place t.control;
        given = next_place t.control;
      }) in
      let l = letter_of remote (Cdn 0 r.result r.error) in
      record {
        chain = chain_more moment ev e (at_turn t) _ t.moves m h.chain (record {
          tunnel = tunnel_after t letters calls recovery;
          there = there t;
          current = h.current;
          open_is = is_open;
          letter = k;
          takes = record { next = next; taken_is = refl; spare = spare };
          why = why _ refl refl refl;
          room = room;
          given = refl;
          after = rw (one_given t l, put-put e.tunnels t.control.local (tunnel_after t letters calls recovery) _) refl;
        });
        words = all_push IsWord t.outputs (Cause r.cause) h.words tt;
        tells = all_push _ t.outputs (Cause r.cause) h.tells so;
        frames = all_push NoFrame t.moves m h.frames tt;
        stays = h.stays;
        current = h.current;
        held = given_held t l h.held;
        fits = fits_spare t.control (with_calls t.changed calls) (live_open t.control is_open) h.fits spare;
      }

  -- Nr is read before anything is given
  pub reads_ok : (nr : ℕ) (t : Turn) → t.given ≡ [] → t.acked ≡ 0 → TellsNr ev t.control nr → TurnOk t → TurnOk (reads_nr nr t)
  unfolding reads_nr with_move
  reads_ok nr t none whole tells h =
      let m = move.NrRead (record { tunnel = t.control.local; nr = nr }) in
      let count = count_acked t.control.channel nr in
      let all : letters_after t letters ≡ letters = rw (none, whole) (append-nil letters) in
      let left : drop count letters ++ t.given ≡ drop count letters = rw none (append-nil (drop count letters)) in
      record {
        chain = chain_more moment ev e (at_turn t) _ t.moves m h.chain (record {
          tunnel = tunnel_after t letters calls recovery;
          there = there t;
          current = h.current;
          tells = tells;
          after = rw (put-put e.tunnels t.control.local (tunnel_after t letters calls recovery) _, all, left, h.stays.4) refl;
        });
        words = h.words;
        tells = h.tells;
        frames = all_push NoFrame t.moves m h.frames tt;
        stays = h.stays;
        current = h.current;
        held = subst (Held (sending.acked_at t.control.channel.window nr t.on.moment)) (sym left)
            (held_read t.control.channel.window letters nr t.on.moment (subst (Held t.control.channel.window) all h.held));
        fits = fits_acked t.control nr t.on.moment (with_calls t.changed calls) h.fits;
      }
