-- A call ends, and its peer is told where its table says so.
use Rattle.std.proofs.Common.{◌≡◌, ◌⊎◌, inl, inr, ℕ, ◌<◌, true, false, List, [], ◌∷◌, ◌++◌, refl, sym, ap, ◌∙◌, Option, Some, None}
use Rattle.std.proofs.lemmas.Bool.{true≢false}
use Rattle.std.proofs.lemmas.List.{append-nil}
use Rattle.std.specs.Prelude.{drop, Bool, not}
use Rattle.id_table.specs.Ids.{at, put-put}
use Rattle.id_table.specs.Order.{at_without_other}
use Rattle.wire_base.specs.declared.cause.Cause.{Cause as CauseOf}
use Rattle.wire_base.specs.declared.letter.Letter.{Letter}
use Rattle.control_message.specs.declared.message.Message.TheVariants.{Cdn}
use Rattle.call_fsm.specs.declared.table.CallAction.{CallAction}
use Rattle.call_fsm.specs.declared.table.CallAction.TheVariants as call_action
use Rattle.call_fsm.specs.declared.table.CallEvent.{CallEvent}
use Rattle.end_model.specs.declared.tunnel.Call.{Call}
use Rattle.session_looks.specs.declared.look.CellChange.TheVariants as cell
use Rattle.end_model.specs.declared.event.Event.{Event}
use Rattle.end_model.specs.declared.out.Out.TheVariants.{Gone, Cause}
use Rattle.end_model.specs.declared.moves.Move.TheVariants as move
use Rattle.end_model.specs.Calls.{row_for, is_told, is_clean_up, is_up}
use Rattle.end_model.specs.Tunnels.{Tunnel, Turn, Recovering, mode_of, is_current}
use Rattle.end_model.specs.Turn.{with_output, with_move, with_change, ends_call}
use Rattle.end_model.specs.Events.{with_calls, tunnel_after}
use Rattle.end_model.specs.Channels.{has_room, counts_given, next_place, letter_of}
use Rattle.end_model.specs.Sending.{gives, letters_after}
use Rattle.end_model.specs.Closing.{end_silent, end_told, ends_by}
use Rattle.end_model.specs.End.{End, placed}
use Rattle.step_laws.specs.Causes.{Stands}
use Rattle.step_laws.specs.Moves.{WhyEnds}
use Rattle.step_laws.proofs.Lists.{not_true, not_false, all_push, branch, with_calls-more, with_looks-more, chain_more}
use Rattle.step_laws.proofs.Owing.{live_with, holds_live, has_room_for, MayTell, fits_without, fits_told}
use Rattle.step_laws.proofs.Outputs.{frames_more}
use Rattle.step_laws.proofs.Turns.{IsCurrent, given_held, fits_changed, at_turn, there, one_given, Others}
use Rattle.step_laws.proofs.Settling.{GoesOn, Settled, outs_on, told_settled}

module _ (e : End) (moment : ℕ) (ev : Event) (letters : List Letter) (calls : List (ℕ × Call)) (recovery : Option Recovering) (i : ℕ) where
  abbrev tunnel : Turn → Tunnel
  tunnel t = tunnel_after t letters calls recovery

  abbrev now : Turn → List (ℕ × Call)
  now t = with_calls t.changed calls

  -- why a call ends, as the turn has it
  abbrev pub Ends : Turn → ℕ → Call → CallEvent → ℕ → Option ℕ → Type 0
  Ends t s c on result error = WhyEnds (at_turn e moment ev letters calls recovery i t) (tunnel t) ev moment s c on result error

  caused_ok : (for : CauseOf) → Stands e moment ev for → (t : Turn) → Settled e moment ev letters calls recovery i t
      → Settled e moment ev letters calls recovery i (with_output (Cause for) t)
  caused_ok for so t h = told_settled e moment ev letters calls recovery i (Cause for) tt so t h

  -- a turn that gives a letter goes on
  pub given_on : (t u : Turn) (l : Letter) → u.control.local ≡ t.control.local → u.control.peer ≡ t.control.peer → u.control.remote ≡ t.control.remote
      → u.control.channel.window.acked ≡ t.control.channel.window.acked → u.control.channel.inbox ≡ t.control.channel.inbox
      → letters_after u letters ≡ drop t.acked letters ++ (t.given ++ l ∷ []) → GoesOn (tunnel t) (tunnel u)
  given_on t u l local peer remote acked inbox is = record {
    local = local;
    peer = peer;
    remote = remote;
    acked = acked;
    inbox = inbox;
    more = l ∷ [];
    letters = is ∙ one_given e moment ev letters calls recovery i t l;
    recovery = refl;
  }

  silent_ok : (s : ℕ) (c : Call) (on : CallEvent) (result : ℕ) (error : Option ℕ) (t : Turn) → at (now t) s ≡ Some c → Ends t s c on result error
      → (is_clean_up (row_for e.role c on).1 ≡ true) ⊎ ((is_told (row_for e.role c on).1 ≡ true) × (is_current (mode_of recovery) ≡ false)) → Settled e moment ev letters calls recovery i t → Settled e moment ev letters calls recovery i (end_silent s (is_up c.state) t)
  unfolding end_silent ends_call with_output with_change with_move
  silent_ok s c on result error t found why row h =
      let m = move.EndSilent (record { tunnel = t.control.local; session = s; booked = is_up c.state }) in
      record {
        chain = chain_more moment ev e (at_turn e moment ev letters calls recovery i t) _ t.moves m h.chain (record {
          tunnel = tunnel t;
          there = there e moment ev letters calls recovery i t;
          call = c;
          live = found;
          on = on;
          result = result;
          error = error;
          why = why;
          row = row;
          booked = refl;
          after =
              let changed = with_calls-more t.changed s None calls in
              let looked = with_looks-more t.changes (cell.Kill s) (placed t.control.local t.added e.calls) in
              rw (changed, looked, put-put e.tunnels t.control.local (tunnel t) _) refl;
        });
        outs = all_push _ t.outputs (Gone s) (outs_on e moment ev letters calls recovery i t (end_silent s (is_up c.state) t) (record {
          local = refl;
          peer = refl;
          remote = refl;
          acked = refl;
          inbox = refl;
          more = [];
          letters = sym (append-nil (tunnel t).letters);
          recovery = refl;
        }) (m ∷ []) refl h) tt;
        tells = all_push _ t.outputs (Gone s) h.tells tt;
        frames = all_push _ t.moves m (frames_more t.outputs _ t.moves h.frames) tt;
        stays = h.stays;
        goes = h.goes;
        held = h.held;
        fits = fits_changed e moment ev letters calls recovery i t.control t s None (fits_without t.control (now t) s h.fits);
      }

  told_ok : (s : ℕ) (c : Call) (on : CallEvent) (result : ℕ) (error : Option ℕ) (t : Turn) → at (now t) s ≡ Some c → Ends t s c on result error
      → is_told (row_for e.role c on).1 ≡ true → s < 65536 → MayTell t.control (now t) s c → has_room t.control ≡ true
      → IsCurrent recovery → Settled e moment ev letters calls recovery i t → Settled e moment ev letters calls recovery i (end_told s c result error t)
  unfolding end_told gives ends_call with_output with_change with_move
  told_ok s c on result error t found why row small may room current h =
      let m = move.EndTold (record {
        tunnel = t.control.local;
        session = s;
        remote = c.remote;
        booked = is_up c.state;
        result = result;
        error = error;
        given = next_place t.control;
      }) in
      let l = letter_of c.remote (Cdn s result error) in
      record {
        chain = chain_more moment ev e (at_turn e moment ev letters calls recovery i t) _ t.moves m h.chain (record {
          tunnel = tunnel t;
          there = there e moment ev letters calls recovery i t;
          current = current;
          call = c;
          live = found;
          on = on;
          why = why;
          row = row;
          session = small;
          remote = refl;
          booked = refl;
          room = room;
          given = refl;
          after =
              let changed = with_calls-more t.changed s None calls in
              let looked = with_looks-more t.changes (cell.Kill s) (placed t.control.local t.added e.calls) in
              rw (changed, looked, one_given e moment ev letters calls recovery i t l, put-put e.tunnels t.control.local (tunnel t) _) refl;
        });
        outs = all_push _ t.outputs (Gone s)
            (outs_on e moment ev letters calls recovery i t (end_told s c result error t) (given_on t (end_told s c result error t) l refl refl refl refl refl refl) (m ∷ []) refl h) tt;
        tells = all_push _ t.outputs (Gone s) h.tells tt;
        frames = all_push _ t.moves m (frames_more t.outputs _ t.moves h.frames) tt;
        stays = h.stays;
        goes = h.goes;
        held = given_held e moment ev letters calls recovery i t l h.held;
        fits = fits_changed e moment ev letters calls recovery i (counts_given t.control) t s None (fits_told t.control (now t) s c found may h.fits);
      }

  -- what the end of one call leaves
  pub record Leaves (s : ℕ) (t u : Turn) : Type 0 where
    pub ok : Settled e moment ev letters calls recovery i u
    pub others : Others e moment ev letters calls recovery i s t u
    pub added : u.added ≡ t.added
    pub ids : u.ids ≡ t.ids

  pub leaves_all : (s : ℕ) (t : Turn) → Settled e moment ev letters calls recovery i t → Leaves s t t
  leaves_all s t h = record { ok = h; others = λ q o. refl; added = refl; ids = refl }

  -- a turn that takes a call out
  one_taken : (s : ℕ) (t u : Turn) → u.changed ≡ t.changed ++ (s, None) ∷ [] → Others e moment ev letters calls recovery i s t u
  one_taken s t u is q o = ap (λ xs. at (with_calls xs calls) q) is ∙ ap (λ xs. at xs q) (with_calls-more t.changed s None calls) ∙ at_without_other (now t) s q o

  silent_leaves : (s : ℕ) (booked : Bool) (t : Turn) → Settled e moment ev letters calls recovery i (end_silent s booked t) → Leaves s t (end_silent s booked t)
  unfolding end_silent ends_call with_output with_change with_move
  silent_leaves s booked t ok = record { ok = ok; others = one_taken s t (end_silent s booked t) refl; added = refl; ids = refl }

  told_leaves : (for : CauseOf) (s : ℕ) (c : Call) (on : CallEvent) (result : ℕ) (error : Option ℕ) (t : Turn) → at (now t) s ≡ Some c
      → Ends t s c on result error → is_told (row_for e.role c on).1 ≡ true → s < 65536 → MayTell t.control (now t) s c → has_room t.control ≡ true
      → Stands e moment ev for → IsCurrent recovery → Settled e moment ev letters calls recovery i t → Leaves s t (end_told s c result error (with_output (Cause for) t))
  unfolding end_told gives ends_call with_output with_change with_move
  told_leaves for s c on result error t found why row small may room so current h =
      let u = with_output (Cause for) t in
      record {
        ok = told_ok s c on result error u found why row small may room current (caused_ok for so t h);
        others = one_taken s t (end_told s c result error u) refl;
        added = refl;
        ids = refl;
      }

  -- by the action of the call's row
  pub ends_leave : (for : CauseOf) (s : ℕ) (c : Call) (on : CallEvent) (result : ℕ) (error : Option ℕ) (t : Turn) → at (now t) s ≡ Some c
      → Ends t s c on result error → s < 65536 → (is_told (row_for e.role c on).1 ≡ true → IsCurrent recovery → MayTell t.control (now t) s c × Stands e moment ev for) → (a : CallAction)
      → (row_for e.role c on).1 ≡ a → Settled e moment ev letters calls recovery i t → Leaves s t (ends_by for result error s c a t)
  unfolding ends_by
  ends_leave for s c on result error t found why small may call_action.CleanUp is h =
      silent_leaves s (is_up c.state) t (silent_ok s c on result error t found why (inl (ap is_clean_up is)) h)
  ends_leave for s c on result error t found why small may call_action.SendCdn is h =
      branch (Leaves s t) (not (is_current t.on.mode)) _ _
      (λ inactive. silent_leaves s (is_up c.state) t
      (silent_ok s c on result error t found why (inr (ap is_told is, sym (ap is_current h.stays.6) ∙ not_true _ inactive)) h))
      (λ active. branch (Leaves s t) (has_room t.control) _ _
      (λ room.
      let current : IsCurrent recovery = sym (ap is_current h.stays.6) ∙ not_false _ active in
      told_leaves for s c on result error t found why (ap is_told is) small (may (ap is_told is) current).0 room (may (ap is_told is) current).1 current h)
      (λ full. absurd (true≢false (sym (has_room_for t.control (now t)
      (holds_live t.control (now t) (live_with t.control (now t) s c found h.fits) h.fits)) ∙ full))))
  ends_leave for s c on result error t found why small may call_action.Nothing is h = leaves_all s t h
  ends_leave for s c on result error t found why small may call_action.SendIcrq is h = leaves_all s t h
  ends_leave for s c on result error t found why small may call_action.SendIcrp is h = leaves_all s t h
  ends_leave for s c on result error t found why small may call_action.SendIccn is h = leaves_all s t h
  ends_leave for s c on result error t found why small may call_action.DropSession is h = leaves_all s t h
