-- A tunnel is closed with its calls: its peer is told, or told it.
use Rattle.std.proofs.Common.{◌≡◌, ℕ, true, false, List, [], ◌∷◌, ◌++◌, refl, ap, ◌∙◌, Option, None, arith}
use Rattle.std.proofs.lemmas.Bool.Decides.{nat_tests}
use Rattle.std.proofs.lemmas.List.{append-nil, append_assoc}
use Rattle.std.specs.List.{AllByRecursion}
use Rattle.std.specs.Ordering.{nat_cmp}
use Rattle.std.specs.declared.cmp.Ordering.TheVariants.{Equal}
use Rattle.std.specs.Prelude.{map}
use Rattle.id_table.specs.Ids.{without, put-put, ids_of}
use Rattle.wire_base.specs.declared.letter.Letter.{Letter}
use Rattle.control_message.specs.declared.message.Message.TheVariants.{StopCcn}
use Rattle.tunnel_fsm.specs.declared.table.TunnelState.TheVariants as state
use Rattle.tunnel_fsm.specs.declared.table.TunnelEvent.{TunnelEvent}
use Rattle.tunnel_fsm.specs.declared.table.TunnelAction.TheVariants as action
use Rattle.tunnel_fsm.specs.Rows.{rows, row_of, state_number}
use Rattle.end_model.specs.declared.tunnel.Call.{Call}
use Rattle.end_model.specs.declared.tunnel.CallPlace.{CallPlace}
use Rattle.session_looks.specs.declared.look.CellChange.{CellChange}
use Rattle.session_looks.specs.declared.look.CellChange.TheVariants as cell
use Rattle.end_model.specs.declared.event.Event.{Event}
use Rattle.end_model.specs.declared.out.Out.TheVariants.{Gone, Cause}
use Rattle.end_model.specs.declared.moves.Closed.{Closed}
use Rattle.end_model.specs.declared.moves.Move.TheVariants as move
use Rattle.end_model.specs.Channels.{may_take, next_place, taken_place, has_room, letter_of, counts_taken}
use Rattle.end_model.specs.Stopping.{rejected, rejects, shut, shuts, closed_told, closes_tunnel, closed_by}
use Rattle.end_model.specs.Tunnels.{Tunnel, Turn, Recovering}
use Rattle.end_model.specs.Reasons.{Reason}
use Rattle.end_model.specs.Moments.{is_closed, is_open}
use Rattle.end_model.specs.Turn.{with_output, with_move, with_change, ends_call, ends_all}
use Rattle.end_model.specs.Events.{with_calls, tunnel_after}
use Rattle.end_model.specs.Sending.{gives, takes_one}
use Rattle.end_model.specs.End.{End, placed, with_looks, with_look}
use Rattle.step_laws.specs.Causes.{Stands}
use Rattle.step_laws.specs.Moves.{Came, IsNext, LetterCloses, WhyCloses, SaysStop}
use Rattle.step_laws.proofs.Lists.{all_push, all_append, branch, chain_more}
use Rattle.step_laws.proofs.Owing.{fits_shut, fits_last}
use Rattle.step_laws.proofs.Tells.{Tells}
use Rattle.step_laws.proofs.Turns.{IsWord, NoFrame, TurnOk, at_turn, there, one_given, given_held, is_roomy}

-- ---- the calls end

-- among those that changed, a call that isn't there any more
abbrev pub ended : ℕ → ℕ × Option Call
ended s = (s, None)

abbrev pub all_ended : List ℕ → Turn → Turn
all_ended ss t = record t {
  changed = t.changed ++ map ended ss;
  changes = t.changes ++ map cell.Kill ss;
  outputs = t.outputs ++ map Gone ss;
}

pub all_ended_is : (ss : List ℕ) (t : Turn) → ends_all ss t ≡ all_ended ss t
unfolding ends_all ends_call with_output with_change
all_ended_is [] t = rw (append-nil t.changed, append-nil t.changes, append-nil t.outputs) refl
all_ended_is (s ∷ ss) t =
    all_ended_is ss (ends_call s t)
    ∙ (let changed = append_assoc t.changed (ended s ∷ []) (map ended ss) in
    let changes = append_assoc t.changes (cell.Kill s ∷ []) (map cell.Kill ss) in
    let outputs = append_assoc t.outputs (Gone s ∷ []) (map Gone ss) in
    rw (changed, changes, outputs) refl)

same_id : (k : ℕ) → nat_cmp k k ≡ Equal
same_id k = grind (arith, nat_tests)

-- none is left of a table whose ids are taken out
pub without_first : (e : ℕ × Call) (es : List (ℕ × Call)) → without (e ∷ es) e.0 ≡ es
unfolding without
without_first e es = rw (same_id e.0) refl

pub none_left : (es : List (ℕ × Call)) → with_calls (map ended (ids_of es)) es ≡ []
unfolding with_calls
none_left [] = refl
none_left (e ∷ es) = ap (with_calls (map ended (ids_of es))) (without_first e es) ∙ none_left es

pub with_looks-append : (xs ys : List CellChange) (places : List (ℕ × CallPlace))
    → with_looks (xs ++ ys) places ≡ with_looks ys (with_looks xs places)
unfolding with_looks
with_looks-append [] ys places = refl
with_looks-append (x ∷ xs) ys places = with_looks-append xs ys (with_look x places)

pub gone_words : (ss : List ℕ) → AllByRecursion IsWord (map Gone ss)
gone_words [] = tt
gone_words (s ∷ ss) = (tt, gone_words ss)

pub gone_tells : (e : End) (moment : ℕ) (ev : Event) (ss : List ℕ) → AllByRecursion (Tells e moment ev) (map Gone ss)
gone_tells e moment ev [] = tt
gone_tells e moment ev (s ∷ ss) = (tt, gone_tells e moment ev ss)

module _ (e : End) (moment : ℕ) (ev : Event) (letters : List Letter) (calls : List (ℕ × Call)) (recovery : Option Recovering) (i : ℕ) where
  abbrev tunnel : Turn → Tunnel
  tunnel t = tunnel_after t letters calls recovery

  -- why the tunnel is closed, as the turn has it
  abbrev pub Why : Turn → TunnelEvent → Reason → ℕ → Type 0
  Why t on r remote =
      (m : Closed) → m.tunnel ≡ t.control.local → m.remote ≡ remote → m.result ≡ r.result → m.error ≡ r.error → WhyCloses e.config.secret (tunnel t) ev on m

  -- ---- the peer is told

  pub told_ok : (r : Reason) → Stands e moment ev r.cause → (on : TunnelEvent) (remote : ℕ) (t : Turn) → t.changed ≡ []
      → row_of rows t.control.state on ≡ (state.Closed, action.SendStopCcn) → Why t on r remote → has_room t.control ≡ true
      → TurnOk e moment ev letters calls recovery i t → TurnOk e moment ev letters calls recovery i (closed_told r calls remote state.Closed t)
  unfolding closed_told shuts gives with_output with_move with_calls
  told_ok r so on remote t none row why room h =
      let m = move.Closed (record {
        tunnel = t.control.local;
        remote = remote;
        booked = is_open t.control.state;
        result = r.result;
        error = r.error;
        given = next_place t.control;
      }) in
      let l = letter_of 0 (StopCcn t.control.local r.result r.error) in
      let u : Turn = record t { control = shut remote state.Closed t.on.moment t.control; outputs = t.outputs ++ Cause r.cause ∷ [] } in
      let outs = t.outputs ++ Cause r.cause ∷ [] in
      rw (all_ended_is (ids_of calls) u) (record {
        chain = chain_more moment ev e (at_turn e moment ev letters calls recovery i t) _ t.moves m h.chain (record {
          tunnel = tunnel t;
          there = there e moment ev letters calls recovery i t;
          current = h.current;
          on = on;
          why = why _ refl refl refl refl;
          row = row;
          booked = refl;
          room = room;
          given = refl;
          after =
              let looked = with_looks-append t.changes (map cell.Kill (ids_of calls)) (placed t.control.local t.added e.calls) in
              let given = one_given e moment ev letters calls recovery i t l in
              rw (put-put e.tunnels t.control.local (tunnel t) _, given, looked, h.stays.4, none, none_left calls) refl;
        });
        words = all_append IsWord outs _ (all_push IsWord t.outputs (Cause r.cause) h.words tt) (gone_words (ids_of calls));
        tells = all_append _ outs _ (all_push _ t.outputs (Cause r.cause) h.tells so) (gone_tells e moment ev (ids_of calls));
        frames = all_push NoFrame t.moves m h.frames tt;
        stays = (h.stays.0, (λ z. absurd (omega (arith, z))), h.stays.2, h.stays.3, h.stays.4, h.stays.5, h.stays.6, h.stays.7);
        current = h.current;
        held = given_held e moment ev letters calls recovery i t l h.held;
        fits = rw (none, none_left calls) (fits_last t.control remote t.on.moment room);
      })

  -- a letter is taken, and the peer told
  rejected_ok : (r : Reason) → Stands e moment ev r.cause → (on : TunnelEvent) (remote : ℕ) (t : Turn) → t.changed ≡ []
      → row_of rows t.control.state on ≡ (state.Closed, action.SendStopCcn) → state_number t.control.state ≡ 1 → (k : Came)
      → IsNext ev (tunnel t) k → may_take t.control (with_calls t.changed calls) ≡ true
      → LetterCloses e.config.secret t.control t.query k on remote r.result r.error → has_room t.control ≡ true
      → TurnOk e moment ev letters calls recovery i t → TurnOk e moment ev letters calls recovery i (rejected r calls remote state.Closed t)
  unfolding rejected shuts gives with_output with_move with_calls takes_one
  rejected_ok r so on remote t none row waits k next spare why room h =
      let m = move.Rejected (record {
        tunnel = t.control.local;
        remote = remote;
        result = r.result;
        error = r.error;
        taken = taken_place t.control;
        given = next_place t.control;
      }) in
      let l = letter_of 0 (StopCcn t.control.local r.result r.error) in
      let outs = t.outputs ++ Cause r.cause ∷ [] in
      let u : Turn = record t { control = shut remote state.Closed t.on.moment (counts_taken t.control); took = true; outputs = outs } in
      rw (all_ended_is (ids_of calls) u) (record {
        chain = chain_more moment ev e (at_turn e moment ev letters calls recovery i t) _ t.moves m h.chain (record {
          tunnel = tunnel t;
          there = there e moment ev letters calls recovery i t;
          current = h.current;
          waits = waits;
          on = on;
          letter = k;
          takes = record { next = next; taken_is = refl; spare = spare };
          why = why;
          row = row;
          room = room;
          given = refl;
          after =
              let looked = with_looks-append t.changes (map cell.Kill (ids_of calls)) (placed t.control.local t.added e.calls) in
              let given = one_given e moment ev letters calls recovery i t l in
              rw (put-put e.tunnels t.control.local (tunnel t) _, given, looked, h.stays.4, none, none_left calls) refl;
        });
        words = all_append IsWord outs _ (all_push IsWord t.outputs (Cause r.cause) h.words tt) (gone_words (ids_of calls));
        tells = all_append _ outs _ (all_push _ t.outputs (Cause r.cause) h.tells so) (gone_tells e moment ev (ids_of calls));
        frames = all_push NoFrame t.moves m h.frames tt;
        stays = (h.stays.0, (λ z. absurd (omega (arith, z))), h.stays.2, h.stays.3, h.stays.4, h.stays.5, h.stays.6, h.stays.7);
        current = h.current;
        held = given_held e moment ev letters calls recovery i t l h.held;
        fits = rw (none, none_left calls) (fits_last (counts_taken t.control) remote t.on.moment room);
      })

  -- there is room for that too
  pub rejects_ok : (r : Reason) → Stands e moment ev r.cause → (on : TunnelEvent) (remote : ℕ) (t : Turn) → t.changed ≡ []
      → is_closed t.control.state ≡ false → row_of rows t.control.state on ≡ (state.Closed, action.SendStopCcn) → state_number t.control.state ≡ 1
      → (k : Came) → IsNext ev (tunnel t) k → may_take t.control (with_calls t.changed calls) ≡ true
      → LetterCloses e.config.secret t.control t.query k on remote r.result r.error
      → TurnOk e moment ev letters calls recovery i t → TurnOk e moment ev letters calls recovery i (rejects r calls remote state.Closed t)
  unfolding rejects
  rejects_ok r so on remote t none live row waits k next spare why h =
      branch (TurnOk e moment ev letters calls recovery i) (has_room t.control) _ _
      (λ room. rejected_ok r so on remote t none row waits k next spare why room h)
      (λ full. absurd (is_roomy e moment ev letters calls recovery i t live h full))

  -- there is room for that, as long as it isn't closed
  pub told_shut_ok : (r : Reason) → Stands e moment ev r.cause → (on : TunnelEvent) (remote : ℕ) (t : Turn) → t.changed ≡ []
      → is_closed t.control.state ≡ false → row_of rows t.control.state on ≡ (state.Closed, action.SendStopCcn) → Why t on r remote
      → TurnOk e moment ev letters calls recovery i t → TurnOk e moment ev letters calls recovery i (closes_tunnel r calls remote state.Closed t)
  unfolding closes_tunnel
  told_shut_ok r so on remote t none live row why h =
      branch (TurnOk e moment ev letters calls recovery i) (has_room t.control) _ _
      (λ room. told_ok r so on remote t none row why room h)
      (λ full. absurd (is_roomy e moment ev letters calls recovery i t live h full))

  -- ---- the peer's StopCCN is taken

  pub heard_shut_ok : (t : Turn) → t.changed ≡ [] → is_closed t.control.state ≡ false → (k : Came) → IsNext ev (tunnel t) k
      → may_take t.control (with_calls t.changed calls) ≡ true → SaysStop k.body → TurnOk e moment ev letters calls recovery i t
      → TurnOk e moment ev letters calls recovery i (closed_by calls state.Closed t)
  unfolding closed_by shuts takes_one with_move with_calls
  heard_shut_ok t none live k next spare says h =
      let m = move.ClosedBy (record { tunnel = t.control.local; booked = is_open t.control.state; taken = taken_place t.control }) in
      let u : Turn = record t { control = shut t.control.remote state.Closed t.on.moment (counts_taken t.control); took = true } in
      rw (all_ended_is (ids_of calls) u) (record {
        chain = chain_more moment ev e (at_turn e moment ev letters calls recovery i t) _ t.moves m h.chain (record {
          tunnel = tunnel t;
          there = there e moment ev letters calls recovery i t;
          current = h.current;
          live = live;
          letter = k;
          takes = record { next = next; taken_is = refl; spare = spare };
          says = says;
          booked = refl;
          after =
              let looked = with_looks-append t.changes (map cell.Kill (ids_of calls)) (placed t.control.local t.added e.calls) in
              rw (h.stays.4, none, none_left calls, looked, put-put e.tunnels t.control.local _ _) refl;
        });
        words = all_append IsWord t.outputs _ h.words (gone_words (ids_of calls));
        tells = all_append _ t.outputs _ h.tells (gone_tells e moment ev (ids_of calls));
        frames = all_push NoFrame t.moves m h.frames tt;
        stays = (h.stays.0, (λ z. absurd (omega (arith, z))), h.stays.2, h.stays.3, h.stays.4, h.stays.5, h.stays.6, h.stays.7);
        current = h.current;
        held = h.held;
        fits = rw (none, none_left calls) (fits_shut (counts_taken t.control) t.control.remote t.on.moment (with_calls t.changed calls) h.fits);
      })
