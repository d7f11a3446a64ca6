-- What a turn leaves of its end: its tunnel, with its recovery tunnel; or neither.
use Rattle.std.proofs.Common.{◌≡◌, ⊎_elim, ℕ, ◌<◌, true, false, List, [], ◌∷◌, ◌++◌, refl, sym, ap, ◌∙◌, subst, Option, Some, None}
use Rattle.std.proofs.lemmas.Bool.{true≢false}
use Rattle.std.proofs.lemmas.List.{append-nil, append_assoc}
use Rattle.std.specs.Prelude.{map}
use Rattle.std.specs.List.{AllByRecursion}
use Rattle.id_table.specs.Ids.{at, put, put-put, without, ids_of}
use Rattle.id_table.specs.Order.{ascends-put, ascends-without, at_new, found_put, found_without}
use Rattle.wire_base.specs.declared.why.Why.{Why}
use Rattle.wire_base.specs.declared.why.Why.TheVariants as why
use Rattle.wire_base.specs.declared.cause.Cause.{Cause}
use Rattle.wire_base.specs.declared.letter.Letter.{Letter}
use Rattle.tunnel_fsm.specs.Rows.{state_number}
use Rattle.end_names.specs.declared.role.Role.{Role}
use Rattle.end_model.specs.declared.tunnel.Config.{Config}
use Rattle.end_model.specs.declared.tunnel.Call.{Call}
use Rattle.session_looks.specs.declared.look.CellChange.TheVariants as cell
use Rattle.end_model.specs.declared.event.Event.{Event}
use Rattle.end_model.specs.declared.out.Out.{Out}
use Rattle.end_model.specs.declared.out.Out.TheVariants.{Drop, Gone, Cause as Refused}
use Rattle.end_model.specs.declared.moves.Move.{Move}
use Rattle.end_model.specs.declared.moves.Move.TheVariants as move
use Rattle.end_model.specs.Tunnels.{Tunnel, Turn, Recovering, connection_of, is_finished, mode_of, is_current}
use Rattle.end_model.specs.Moments.{is_open}
use Rattle.end_model.specs.Stopping.{clears}
use Rattle.end_model.specs.Turn.{with_move}
use Rattle.end_model.specs.Events.{with_calls, tunnel_after}
use Rattle.end_model.specs.Sending.{letters_after}
use Rattle.end_model.specs.End.{End, Stepped, gives_only, placed, with_looks, after_turn}
use Rattle.step_laws.specs.Causes.{Stands}
use Rattle.step_laws.specs.Letters.{IsRecoveryLetter, HasOutput}
use Rattle.step_laws.specs.Moves.{Chain, Does, WhyCleared}
use Rattle.step_laws.specs.Queries.{IsQuery}
use Rattle.step_laws.specs.Steps.{IsKept, AreKept, InChain, IsChain}
use Rattle.step_laws.proofs.Lists.{all_append, all_map, chain_append, without_put, ascends_placed, ascends_looks}
use Rattle.step_laws.proofs.Owing.{Fits}
use Rattle.step_laws.proofs.Tells.{Tells}
use Rattle.step_laws.proofs.Turns.{Held, at_turn, there}
use Rattle.step_laws.proofs.Outputs.{output_within, frames_more}
use Rattle.step_laws.proofs.Settling.{OutOk, Goes, Settled}
use Rattle.step_laws.proofs.Sending.{at_last, ok_is}
use Rattle.step_laws.proofs.Shutting.{all_ended, all_ended_is, with_looks-append}

-- what a recovery tunnel holds is of a recovery of the tunnel with this id
abbrev pub IsLineKept : Role → Config → ℕ → Option Recovering → Type 0
IsLineKept role config i recovery =
    (r : Recovering) → recovery ≡ Some r → AllByRecursion (IsRecoveryLetter role config i r) (connection_of r).channel.outbox.letters

-- a step that leads there, and what it tells is so
pub record IsStep (e : End) (moment : ℕ) (ev : Event) (s : Stepped) : Type 0 where
  pub chain : IsChain e moment ev s
  pub tells : AllByRecursion (Tells e moment ev) s.outputs

module _ (e : End) (kept : AreKept e) (moment : ℕ) (ev : Event) where
  -- a step that tells one word
  pub drop_chain : (w : Why) → (w ≡ why.Queue → ⊥) → IsStep e moment ev (gives_only e (Drop w))
  unfolding gives_only
  drop_chain w other =
      record { chain = record { chain = refl; outputs = (tt, tt); frames = tt; kept = kept }; tells = ((λ q. absurd (other q)), tt) }

  -- or one cause
  pub cause_chain : (c : Cause) → Stands e moment ev c → IsStep e moment ev (gives_only e (Refused c))
  unfolding gives_only
  cause_chain c stands = record { chain = record { chain = refl; outputs = (tt, tt); frames = tt; kept = kept }; tells = (stands, tt) }

  -- ---- what a turn leaves of its tunnel

  module _ (letters : List Letter) (calls : List (ℕ × Call)) (recovery : Option Recovering) (i : ℕ) (some : i ≡ 0 → ⊥) (r : Turn) where
    abbrev left : End
    left = (after_turn e i letters calls recovery r).end

    abbrev tunnel : Tunnel
    tunnel = tunnel_after r letters calls recovery

    -- the end with these tunnels
    abbrev left_with : List (ℕ × Tunnel) → End
    left_with tunnels = record e {
      tunnel_ids = r.ids.tunnels;
      session_ids = r.ids.sessions;
      recovery_ids = r.ids.recoveries;
      tunnels = tunnels;
      calls = with_looks r.changes (placed r.control.local r.added e.calls);
    }

    -- a turn that doesn't remove the tunnel
    pub left_is : r.cleared ≡ false → left ≡ left_with (put e.tunnels i tunnel)
    unfolding after_turn
    left_is stays = rw stays refl

    -- what the turn keeps
    abbrev pub StaysThere : Type 0
    StaysThere =
        (r.control.local ≡ i) × (state_number r.control.state ≡ 0 → ⊥) × (r.ids.sessions.last < 65536) × (0 < r.ids.tunnels.next)
        × (r.on.moment ≡ moment) × (r.cleared ≡ false) × IsQuery r.query

    -- a turn with what it sent, of a tunnel that has this recovery tunnel then
    pub record Whole : Type 0 where
      pub chain : Chain moment ev e r.moves (at_turn e moment ev letters calls recovery i r)
      pub outs : AllByRecursion (OutOk e.role e.config tunnel r.moves) r.outputs
      pub tells : AllByRecursion (Tells e moment ev) r.outputs
      pub frames : AllByRecursion (HasOutput r.outputs) r.moves
      pub stays : StaysThere
      pub frozen : is_current (mode_of recovery) ≡ false → (r.control.channel.frozen ≡ true) × (state_number r.control.state ≡ 3)
      pub recovering : IsLineKept e.role e.config i recovery
      pub held : Held r.control.channel.window (letters_after r letters)
      pub fits : Fits r.control (with_calls r.changed calls)

    frozen_after : Goes e moment ev letters calls recovery i r → is_current (mode_of recovery) ≡ false
        → (r.control.channel.frozen ≡ true) × (state_number r.control.state ≡ 3)
    frozen_after goes inactive = ⊎_elim
        (λ current. absurd (true≢false (sym current ∙ inactive)))
        (λ (k : (r.control.channel.frozen ≡ true) × (r.took ≡ false) × (state_number r.control.state ≡ 3)). (k.0, k.2))
        goes

    -- a turn of the tunnel alone
    pub whole_of : IsLineKept e.role e.config i recovery → Settled e moment ev letters calls recovery i r → Whole
    whole_of line h = record {
      chain = h.chain;
      outs = h.outs;
      tells = h.tells;
      frames = h.frames;
      stays = (h.stays.0, h.stays.1, h.stays.2, h.stays.3, h.stays.4, h.stays.5, h.stays.7);
      frozen = frozen_after h.goes;
      recovering = line;
      held = h.held;
      fits = h.fits;
    }

    -- so its end's tunnels are kept
    kept_as : (line : Option Recovering) → IsLineKept e.role e.config i line
        → (is_current (mode_of line) ≡ false → (r.control.channel.frozen ≡ true) × (state_number r.control.state ≡ 3)) → Whole
        → AreKept (left_with (put e.tunnels i (record tunnel { recovery = line })))
    kept_as line holds frozen h =
        let s = h.stays in
        record {
          tunnels = λ j u found. ⊎_elim
              (λ (a : (j ≡ i) × (record tunnel { recovery = line } ≡ u)). subst (λ (x : Tunnel). IsKept e.role e.config j x) a.1 (record {
                local = s.0 ∙ sym a.0;
                some = λ z. some (sym a.0 ∙ z);
                busy = s.1;
                calls = h.fits.0;
                letters = h.held.0;
                outstanding = h.held.1;
                calls_few = h.fits.1;
                few = h.fits.2;
                most = h.fits.4;
                shut = h.fits.5;
                owed = h.fits.3;
                acked = h.held.2;
                frozen = λ inactive. (frozen inactive).0;
                open_is = λ inactive. (frozen inactive).1;
                asks = s.6;
                recovering = subst (λ k. IsLineKept e.role e.config k line) (sym a.0) holds;
              }))
              (λ a. kept.tunnels j u a.1)
              (found_put e.tunnels i (record tunnel { recovery = line }) j u found);
          order = ascends-put i (record tunnel { recovery = line }) e.tunnels kept.order;
          places = ascends_looks r.changes _ (ascends_placed r.control.local r.added e.calls kept.places);
          sessions = s.2;
          first = s.3;
        }

    kept_after : Whole → AreKept left
    kept_after h = subst AreKept (sym (left_is h.stays.5)) (kept_as recovery h.recovering h.frozen h)

    chain_after : Whole → Chain moment ev e r.moves left
    chain_after h =
        subst (Chain moment ev e r.moves) (sym (left_is h.stays.5))
        (subst (λ k. Chain moment ev e r.moves (left_with (put e.tunnels k tunnel))) h.stays.0 h.chain)

    there_after : r.cleared ≡ false → at left.tunnels i ≡ Some tunnel
    there_after stays = ap (λ (x : End). at x.tunnels i) (left_is stays) ∙ at_new e.tunnels i tunnel

    pub whole_chain : Whole → IsStep e moment ev (after_turn e i letters calls recovery r)
    unfolding after_turn
    whole_chain h = let whole = chain_after h in record {
      chain = record {
        chain = whole;
        outputs = all_map _ _ (ok_is moment ev e r.moves left (at_last moment ev e r.moves left whole) i tunnel (there_after h.stays.5)) r.outputs
            (subst (λ (y : End). AllByRecursion (OutOk y.role y.config tunnel r.moves) r.outputs) (sym (left_is h.stays.5)) h.outs);
        frames = h.frames;
        kept = kept_after h;
      };
      tells = h.tells;
    }

    pub turn_chain : IsLineKept e.role e.config i recovery → Settled e moment ev letters calls recovery i r → IsStep e moment ev (after_turn e i letters calls recovery r)
    turn_chain line h = whole_chain (whole_of line h)

    -- ---- one more move, which ends the tunnel or its recovery tunnel; what was sent went before it

    abbrev here : End
    here = at_turn e moment ev letters calls recovery i r

    -- what is told and sent besides
    pub record More (outs : List Out) : Type 0 where
      pub outs_ok : AllByRecursion (OutOk e.role e.config tunnel r.moves) outs
      pub tells_ok : AllByRecursion (Tells e moment ev) outs

    last_chain : Whole → (m : Move) → HasOutput [] m → (x : End) → Does here moment ev m x → AreKept x → (outs : List Out) → More outs
        → IsStep e moment ev (record { end = x; outputs = r.outputs ++ outs; moves = r.moves ++ m ∷ [] })
    last_chain h m frameless x does kept_x outs more =
        let last : Chain moment ev here (m ∷ []) x = (x, does, refl) in
        let amid : InChain moment ev e (r.moves ++ m ∷ []) x = record {
          made = r.moves;
          rest = m ∷ [];
          moves_are = refl;
          end = here;
          comes = h.chain;
          goes = last;
        } in
        record {
          chain = record {
            chain = chain_append moment ev e here x r.moves (m ∷ []) h.chain last;
            outputs = all_map _ _ (ok_is moment ev e (r.moves ++ m ∷ []) x amid r.control.local tunnel (there e moment ev letters calls recovery i r))
                (r.outputs ++ outs) (all_append _ r.outputs outs h.outs more.outs_ok);
            frames = all_append _ r.moves (m ∷ []) (frames_more r.outputs outs r.moves h.frames)
                (output_within [] (r.outputs ++ outs) (λ o a. absurd a) m frameless, tt);
            kept = kept_x;
          };
          tells = all_append _ r.outputs outs h.tells more.tells_ok;
        }

    -- ---- the tunnel is removed with its calls

    abbrev cs : List (ℕ × Call)
    cs = with_calls r.changed calls

    abbrev removing : Move
    removing = move.Cleared r.control.local (is_open r.control.state)

    -- the end without it
    abbrev removed : End
    removed = record e {
      tunnel_ids = r.ids.tunnels;
      session_ids = r.ids.sessions;
      recovery_ids = r.ids.recoveries;
      tunnels = without e.tunnels i;
      calls = with_looks (r.changes ++ map cell.Kill (ids_of cs)) (placed r.control.local r.added e.calls);
    }

    abbrev cleared_turn : Turn
    cleared_turn = record (all_ended (ids_of cs) (with_move removing r)) { cleared = true }

    pub clears_is : clears cs r ≡ cleared_turn
    unfolding clears
    clears_is = ap (λ (x : Turn). record x { cleared = true }) (all_ended_is (ids_of cs) (with_move removing r))

    kept_removed : StaysThere → AreKept removed
    kept_removed s = record {
      tunnels = λ j u found. kept.tunnels j u (found_without e.tunnels i j u kept.order found).1;
      order = ascends-without i e.tunnels kept.order;
      places = ascends_looks (r.changes ++ map cell.Kill (ids_of cs)) _ (ascends_placed r.control.local r.added e.calls kept.places);
      sessions = s.2;
      first = s.3;
    }

    removed_does : StaysThere → WhyCleared here moment ev i tunnel → Does here moment ev removing removed
    removed_does s why = record {
      tunnel = tunnel;
      there = there e moment ev letters calls recovery i r;
      why = subst (λ j. WhyCleared here moment ev j tunnel) (sym s.0) why;
      established = refl;
      after =
          let looked = with_looks-append r.changes (map cell.Kill (ids_of cs)) (placed r.control.local r.added e.calls) in
          let gone = without_put e.tunnels r.control.local tunnel kept.order in
          rw (gone, looked, s.0) refl;
    }

    gone_of : (ss : List ℕ) → AllByRecursion (OutOk e.role e.config tunnel r.moves) (map Gone ss)
    gone_of [] = tt
    gone_of (s ∷ ss) = (tt, gone_of ss)

    gone_told : (ss : List ℕ) → AllByRecursion (Tells e moment ev) (map Gone ss)
    gone_told [] = tt
    gone_told (s ∷ ss) = (tt, gone_told ss)

    -- and this besides
    abbrev pub with_more : List Out → Turn → Turn
    with_more outs u = record u { outputs = u.outputs ++ outs }

    cleared_step : (left_recovery : Option Recovering) → Whole → WhyCleared here moment ev i tunnel → (outs : List Out) → More outs
        → IsStep e moment ev (after_turn e i letters calls left_recovery (with_more outs cleared_turn))
    unfolding after_turn with_move
    cleared_step left_recovery h why outs more =
        subst (λ os. IsStep e moment ev (record { end = removed; outputs = os; moves = r.moves ++ removing ∷ [] }))
        (sym (append_assoc r.outputs (map Gone (ids_of cs)) outs))
        (last_chain h removing tt removed (removed_does h.stays why) (kept_removed h.stays) (map Gone (ids_of cs) ++ outs) (record {
          outs_ok = all_append _ (map Gone (ids_of cs)) outs (gone_of (ids_of cs)) more.outs_ok;
          tells_ok = all_append _ (map Gone (ids_of cs)) outs (gone_told (ids_of cs)) more.tells_ok;
        }))

    -- a turn that removes the tunnel, and sends this besides
    pub clears_more : (left_recovery : Option Recovering) → Whole → WhyCleared here moment ev i tunnel → (outs : List Out) → More outs
        → IsStep e moment ev (after_turn e i letters calls left_recovery (with_more outs (clears cs r)))
    clears_more left_recovery h why outs more =
        subst (λ (x : Turn). IsStep e moment ev (after_turn e i letters calls left_recovery (with_more outs x))) (sym clears_is)
        (cleared_step left_recovery h why outs more)

    pub clears_chain : (left_recovery : Option Recovering) → Whole → WhyCleared here moment ev i tunnel
        → IsStep e moment ev (after_turn e i letters calls left_recovery (clears cs r))
    clears_chain left_recovery h why =
        subst (λ (x : Turn). IsStep e moment ev (after_turn e i letters calls left_recovery x)) (no_more (clears cs r))
        (clears_more left_recovery h why [] (record { outs_ok = tt; tells_ok = tt }))
      where
        no_more : (x : Turn) → with_more [] x ≡ x
        no_more x = ap (λ os. record x { outputs = os }) (append-nil x.outputs)

    -- ---- its recovery tunnel ends

    abbrev ending : Move
    ending = move.RecoveryEnded r.control.local

    abbrev unrecovered : End
    unrecovered = left_with (put e.tunnels i (record tunnel { recovery = None }))

    pub ends_line : Whole → (q : Recovering) → recovery ≡ Some q → is_finished q ≡ true
        → IsStep e moment ev (after_turn e i letters calls None (with_move ending r))
    unfolding after_turn with_move
    ends_line h q has finished =
        let does : Does here moment ev ending unrecovered = record {
          tunnel = tunnel;
          there = there e moment ev letters calls recovery i r;
          old = q;
          has = has;
          finished = finished;
          after = let same = h.stays.0 in rw (put-put e.tunnels r.control.local tunnel _, same) refl;
        } in
        let stays = h.stays.5 in
        rw (stays, sym (append-nil r.outputs))
        (last_chain h ending tt unrecovered does (kept_as None (λ p none. absurd cc) (λ inactive. absurd (true≢false inactive)) h) [] (record { outs_ok = tt; tells_ok = tt }))
