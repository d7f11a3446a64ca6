-- On each event a turn hands nothing up, one call at most is born in it, Nr is read once at most, and the frames that it sends down calls are those that
-- may be sent.
use Rattle.end_names.specs.Names.{subscriber}
use Rattle.std.proofs.Common.{◌≡◌, ◌⊎◌, inl, inr, ℕ, false, List, ◌++◌, length, refl, ◌∙◌, Some, Result, Ok, Err, arith}
use Rattle.std.proofs.lemmas.Grind.{flat_map-append}
use Rattle.std.proofs.lemmas.List.{length-append}
use Rattle.std.specs.Prelude.{◌==◌, unwrap_or, not}
use Rattle.std.specs.List.{flat_map}
use Rattle.id_table.specs.Ids.{at}
use Rattle.id_source.specs.Spaces.{takes_id}
use Rattle.id_source.specs.declared.IdError.{IdError}
use Rattle.wire_base.specs.declared.why.Why.TheVariants as why
use Rattle.wire_base.specs.declared.cause.Cause.TheVariants as cause
use Rattle.wire_base.specs.declared.letter.Letter.{Letter}
use Rattle.l2tp_header.specs.declared.header.Header.{Header}
use Rattle.l2tp_header.specs.declared.header.HeaderError.{HeaderError}
use Rattle.l2tp_header.specs.Reading.{header_of, body_of}
use Rattle.control_channel.specs.Numbers.{class_told}
use Rattle.tunnel_fsm.specs.declared.table.TunnelEvent.TheVariants as event
use Rattle.tunnel_fsm.specs.Rows.{rows, row_of, state_number}
use Rattle.call_fsm.specs.declared.table.CallEvent.TheVariants as call_event
use Rattle.end_model.specs.declared.tunnel.Call.{Call}
use Rattle.end_model.specs.declared.tunnel.Config.{Config}
use Rattle.call_link.specs.Link.{Link}
use Rattle.end_names.specs.declared.role.Role.{Role}
use Rattle.call_link.specs.Turns.{Hears, linked}
use Rattle.end_model.specs.Links.{link_env}
use Rattle.end_model.specs.declared.event.Event.{Event}
use Rattle.end_model.specs.declared.event.Event.TheVariants.{Datagram, Ring, Payload, Lower, Lcp, Hang, OpenTunnel, DropCall, CloseTunnel, Tick, Admitted, Frame}
use Rattle.end_model.specs.declared.out.Out.{Out}
use Rattle.end_model.specs.declared.moves.Move.{Move}
use Rattle.session_looks.specs.Frames.{header_why}
use Rattle.end_model.specs.Reading.{message_in}
use Rattle.end_model.specs.Calls.{rung, are_too_many}
use Rattle.end_model.specs.Tunnels.{Ground, Turn, is_current}
use Rattle.end_model.specs.Turn.{with_move, with_new}
use Rattle.end_model.specs.Channels.{has_room, may_take}
use Rattle.end_model.specs.Sending.{reads_nr}
use Rattle.end_model.specs.Openings.{opened}
use Rattle.end_model.specs.Ringing.{adds, rings_over, rings_by, rings_new, rings, rings_within}
use Rattle.end_model.specs.Hearing.{hears_control, hears_datagram, ignores_all, mode_why}
use Rattle.end_model.specs.Events.{turns}
use Rattle.step_laws.specs.Ups.{ups_of_output, ups_of_move, births_of_move, reads_of_move, most_births, most_reads}
use Rattle.step_laws.proofs.Lists.{all_append, branch}
use Rattle.step_laws.proofs.Quiet.{SentSo, AreQuiet, IsQuiet, AreSo, OpensSo, TicksSo, settled, first_quiet, in_tunnel_quiet, dropped, unread, with_read, with_birth, spared, caused, requests_quiet, opened_quiet, carries_quiet, hears_lcp_quiet, closes_quiet, shuts_by_quiet, opens_quiet, ticks_quiet, did}

module _ (F : ℕ → List ℕ → Type 0) (on : Ground) where
  -- ---- datagrams: Nr is read before the letter is heard

  read_quiet : (nr : ℕ) (t : Turn) → IsQuiet F on 0 0 t → IsQuiet F on 0 1 (reads_nr nr t)
  unfolding reads_nr with_move
  read_quiet nr t h = with_read F on _ t.control.local refl refl refl tt h

  ignores_quiet : (t : Turn) → IsQuiet F on 0 0 t → IsQuiet F on 0 1 (ignores_all t)
  unfolding ignores_all with_move
  ignores_quiet t h = dropped F on 0 1 (mode_why t.on.mode) _ (did F on _ refl refl refl tt (unread F on h))

  control_quiet : (role : Role) (c : Config) (letters : List Letter) (calls : List (ℕ × Call)) (k : Header) (body : List ℕ) (t : Turn)
      → ((s : ℕ) → OpensSo F on 0 1 role s (at calls s)) → IsQuiet F on 0 0 t
      → IsQuiet F on 0 1 (hears_control role c letters calls k body t)
  unfolding hears_control
  control_quiet role c letters calls k body t so h =
      branch (IsQuiet F on 0 1) (state_number t.control.state == 0) _ _
      (λ idle. settled F on 0 1 false letters _ (first_quiet F on 0 1 role c (message_in body) t (unread F on h)))
      (λ busy. branch (IsQuiet F on 0 1) (not (is_current t.on.mode)) _ _
      (λ inactive. ignores_quiet t h)
      (λ active.
      let class = class_told t.control.channel (unwrap_or k.ns 0) (length body == 0) in
      in_tunnel_quiet F on 0 1 role c letters calls k.session body class _ so (read_quiet (unwrap_or k.nr 0) t h)))

  datagram_quiet : (role : Role) (c : Config) (letters : List Letter) (calls : List (ℕ × Call)) (bytes : List ℕ) (r : Result Header HeaderError) (t : Turn)
      → ((s : ℕ) → OpensSo F on 0 1 role s (at calls s)) → IsQuiet F on 0 0 t → IsQuiet F on 0 1 (hears_datagram role c letters calls bytes r t)
  unfolding hears_datagram
  datagram_quiet role c letters calls bytes (Err x) t so h = dropped F on 0 1 (header_why x) t (unread F on h)
  datagram_quiet role c letters calls bytes (Ok k) t so h =
      branch (IsQuiet F on 0 1) k.control _ _
      (λ control. control_quiet role c letters calls k (body_of bytes k) t so h)
      (λ data_is. dropped F on 0 1 why.Session t (unread F on h))

  -- ---- rings

  adds_quiet : (role : Role) (who : List ℕ) (s : ℕ) (t : Turn) → IsQuiet F on 0 0 t → IsQuiet F on 1 0 (adds role who s t)
  unfolding adds with_move with_new
  adds_quiet role who s t h = with_birth F on _ s refl refl refl tt h

  rings_over_quiet : (role : Role) (k : Config) (who : List ℕ) (s : ℕ) (t : Turn) → IsQuiet F on 0 0 t → IsQuiet F on 1 0 (rings_over role k who s t)
  unfolding rings_over
  rings_over_quiet role k who s t h =
      let added = adds_quiet role who s t h in
      branch (IsQuiet F on 1 0) (state_number t.control.state == 3) _ _
      (λ is. requests_quiet F on 1 0 role k s (rung role who t.on.moment) (adds role who s t) added)
      (λ other. added)

  rings_by_quiet : (role : Role) (k : Config) (who : List ℕ) (x : Result ℕ IdError) (t : Turn) → IsQuiet F on 0 0 t → IsQuiet F on 1 0 (rings_by role k who x t)
  unfolding rings_by
  rings_by_quiet role k who (Err x) t h = caused F on 1 0 cause.Ids t (spared F on h)
  rings_by_quiet role k who (Ok s) t h = rings_over_quiet role k who s t h

  rings_new_quiet : (role : Role) (c : Config) (who : List ℕ) (x y : Result ℕ IdError) (t : Turn) → IsQuiet F on 0 0 t → IsQuiet F on 1 0 (rings_new role c who x y t)
  unfolding rings_new
  rings_new_quiet role c who (Err x) y t h = caused F on 1 0 cause.Ids t (spared F on h)
  rings_new_quiet role c who (Ok s) (Err y) t h = caused F on 1 0 cause.Ids t (spared F on h)
  rings_new_quiet role c who (Ok s) (Ok local) t h =
      branch (IsQuiet F on 1 0) (has_room t.control) _ _
      (λ may. adds_quiet role who s (opened role c local t) (opened_quiet F on 0 0 role c local t h))
      (λ full. caused F on 1 0 cause.Queue t (spared F on h))

  rings_within_quiet : (role : Role) (k : Config) (calls : List (ℕ × Call)) (who : List ℕ) (t : Turn) → IsQuiet F on 0 0 t → IsQuiet F on 1 0 (rings_within role k calls who t)
  unfolding rings_within
  rings_within_quiet role k calls who t h =
      branch (IsQuiet F on 1 0) (are_too_many calls) _ _
      (λ many. caused F on 1 0 cause.Calls t (spared F on h))
      (λ few. branch (IsQuiet F on 1 0) (may_take t.control calls) _ _
      (λ may. rings_by_quiet role k who (takes_id t.ids.sessions) t h)
      (λ full. caused F on 1 0 cause.Queue t (spared F on h)))

  rings_quiet : (role : Role) (c : Config) (calls : List (ℕ × Call)) (who : List ℕ) (t : Turn) → IsQuiet F on 0 0 t → IsQuiet F on 1 0 (rings role c calls who t)
  unfolding rings
  rings_quiet role c calls who t h =
      branch (IsQuiet F on 1 0) (state_number t.control.state == 0) _ _
      (λ idle. rings_new_quiet role c who (takes_id t.ids.sessions) (takes_id t.ids.tunnels) t h)
      (λ busy. rings_within_quiet role c calls who t h)

  -- ---- events

  -- what may be sent on an event: what it gives, and what the LCP ends of these calls give on it
  pub record Allows (role : Role) (calls : List (ℕ × Call)) (ev : Event) : Type 0 where
    pub given : (s : ℕ) (frame : List ℕ) → (ev ≡ Payload s frame) ⊎ (ev ≡ Lower s frame) → F s frame
    pub opened : (s : ℕ) → OpensSo F on 0 1 role s (at calls s)
    pub ticks : ev ≡ Tick → (s : ℕ) → TicksSo F on 0 0 s (at calls s)
    pub hears : (s : ℕ) (frame : List ℕ) → ev ≡ Lcp s frame → (c : Call) (l : Link) → at calls s ≡ Some c → c.link ≡ Some l
        → AreSo F on 0 0 s (linked (link_env on) (Hears frame) l).frames

  pub turns_quiet : (role : Role) (c : Config) (letters : List Letter) (calls : List (ℕ × Call)) (ev : Event) (t : Turn) → Allows role calls ev
      → IsQuiet F on 0 0 t
      → IsQuiet F on (most_births ev) (most_reads ev) (turns role c letters calls ev t)
  unfolding turns
  turns_quiet role c letters calls (Datagram peer bytes) t so h = datagram_quiet role c letters calls bytes (header_of bytes) t so.opened h
  turns_quiet role c letters calls (Ring port) t so h = settled F on 1 0 false letters _ (rings_quiet role c calls (subscriber port) t h)
  turns_quiet role c letters calls (Admitted mac) t so h = settled F on 1 0 false letters _ (rings_quiet role c calls mac t h)
  turns_quiet role c letters calls (Frame bytes) t so h = dropped F on 0 0 why.Node t h
  turns_quiet role c letters calls (Payload s frame) t so h = carries_quiet F on 0 0 s frame (at calls s) t (so.given s frame (inl refl)) h
  turns_quiet role c letters calls (Lower s frame) t so h = carries_quiet F on 0 0 s frame (at calls s) t (so.given s frame (inr refl)) h
  turns_quiet role c letters calls (Lcp s packet) t so h = hears_lcp_quiet F on 0 0 role letters s packet (at calls s) t (so.hears s packet refl) h
  turns_quiet role c letters calls (Hang s) t so h =
      settled F on 0 0 false letters _ (closes_quiet F on 0 0 role cause.Line call_event.LineDrop 1 s (at calls s) t h)
  turns_quiet role c letters calls (DropCall s) t so h =
      settled F on 0 0 false letters _ (closes_quiet F on 0 0 role cause.Operator call_event.Close 3 s (at calls s) t h)
  turns_quiet role c letters calls (CloseTunnel i) t so h =
      let row = row_of rows t.control.state event.AdminClose in
      settled F on 0 0 false letters _ (shuts_by_quiet F on 0 0 calls row.0 row.1 t h)
  turns_quiet role c letters calls OpenTunnel t so h = settled F on 0 0 false letters _ (opens_quiet F on 0 0 role c t h)
  turns_quiet role c letters calls Tick t so h = ticks_quiet F on 0 0 role letters calls t (so.ticks refl) h

  -- what two parts give, one after the other
  pub both_quiet : (os ps : List Out) (ms ns : List Move) (g : Ground) → AreQuiet F on 0 0 os ms g → AreQuiet F on 0 0 ps ns on → AreQuiet F on 0 0 (os ++ ps) (ms ++ ns) on
  both_quiet os ps ms ns g h k =
      let count = length-append (flat_map births_of_move ms) (flat_map births_of_move ns) in
      let few = h.births in
      let more = k.births in
      let count_read = length-append (flat_map reads_of_move ms) (flat_map reads_of_move ns) in
      let few_read = h.read in
      let more_read = k.read in
      record {
        sent = all_append (SentSo F) ms ns h.sent k.sent;
        same = refl;
        no_output = flat_map-append ups_of_output os ps ∙ rw (h.no_output, k.no_output) refl;
        no_move = flat_map-append ups_of_move ms ns ∙ rw (h.no_move, k.no_move) refl;
        births = rw (flat_map-append births_of_move ms ns) (omega (arith, count, few, more));
        read = rw (flat_map-append reads_of_move ms ns) (omega (arith, count_read, few_read, more_read));
      }
