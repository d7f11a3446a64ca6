-- What a step of a tunnel makes of an end.
use Rattle.std.proofs.Common.{◌≡◌, ℕ, List, [], ◌++◌, refl, Option, Some, None, true≢false, ap, sym, ◌∙◌}
use Rattle.std.specs.Prelude.{IsSome}
use Rattle.std.proofs.lemmas.Bool.{ne_eqb, eq-eqb}
use Rattle.id_table.specs.Ids.{at}
use Rattle.wire_base.specs.declared.letter.Letter.{Letter}
use Rattle.end_model.specs.declared.tunnel.Call.{Call}
use Rattle.end_model.specs.declared.tunnel.Control.{Control}
use Rattle.end_model.specs.declared.event.Event.{Event}
use Rattle.end_model.specs.declared.out.Out.{Out}
use Rattle.end_model.specs.declared.moves.Move.{Move}
use Rattle.end_model.specs.Tunnels.{Tunnel, Env, Turn, turn_of, new_tunnel}
use Rattle.end_model.specs.Recovering.{RecoveryTurn}
use Rattle.end_model.specs.Turn.{with_turn}
use Rattle.end_model.specs.Events.{turns}
use Rattle.end_model.specs.Openings.{fresh}
use Rattle.end_model.specs.End.{End, Stepped, env_of, placed, with_looks, tunnels_after, after_turn, after_both, after_new, in_main, in_new}
use Rattle.std.specs.Borrow.{Bor}
use Rattle.tunnel_table.specs.Cores.{Task}
use Rattle.tunnel_table.specs.Cores as task
use Rattle.tunnel_table.specs.Cores.{Plan, made_of, IsTurn, beside}
use Rattle.end_core.specs.declared.end.Given.{Given}
use Rattle.end_core.specs.Gives.{behind_given, given_in, in_task, first_turn}
use Rattle.tunnel_table.specs.Plans.{turn_at, IsPlanned, IsGiven, after_plan}

same_parts : (s u : Stepped) → s.end ≡ u.end → s.outputs ≡ u.outputs → s.moves ≡ u.moves → s ≡ u
same_parts s u a b c = ap (λ (x : End). record { end = x; outputs = s.outputs; moves = s.moves }) a ∙ ap (λ (x : List Out). record { end = u.end; outputs = x; moves = s.moves }) b ∙ ap (λ (x : List Move). record { end = u.end; outputs = u.outputs; moves = x }) c

-- what is planned of a turn, and the environment that took in what it gave
pub record IsSettled (v : End) (i : ℕ) (t : Tunnel) (p : Plan) (env : Env) (s : Stepped) : Type 0 where
  pub end : s.end ≡ record v { tunnel_ids = env.ids.tunnels; session_ids = env.ids.sessions; recovery_ids = env.ids.recoveries; tunnels = tunnels_after v.tunnels i p.cleared (made_of p t); calls = with_looks env.changes (placed p.control.local p.added v.calls) }
  pub outputs : s.outputs ≡ env.outputs
  pub moves : s.moves ≡ env.moves

-- a step behind what its environment began with
abbrev pub behind_env : Env → Stepped → Stepped
behind_env start s = record s { outputs = start.outputs ++ s.outputs; moves = start.moves ++ s.moves }

behind_none : (start : Env) (s : Stepped) → (start.outputs ≡ []) × (start.moves ≡ []) → behind_env start s ≡ s
behind_none start s none = rw (none.0, none.1) refl

module _ (v : End) (start : Env) (none : start.changes ≡ []) (i : ℕ) (t : Tunnel) (p : Plan) (env : Env) (s : Stepped) (r : RecoveryTurn) (plan : IsTurn p t.recovery r) (given : env ≡ with_turn r.turn start) (settled : IsSettled v i t p env s) where
  outputs_are : env.outputs ≡ start.outputs ++ r.turn.outputs
  unfolding with_turn
  outputs_are = ap (λ (x : Env). x.outputs) given

  changes_are : env.changes ≡ r.turn.changes
  unfolding with_turn
  changes_are = ap (λ (x : Env). x.changes) given ∙ ap (λ xs. xs ++ r.turn.changes) none

  moves_are : env.moves ≡ start.moves ++ r.turn.moves
  unfolding with_turn
  moves_are = ap (λ (x : Env). x.moves) given

  ids_are : env.ids ≡ r.turn.ids
  unfolding with_turn
  ids_are = ap (λ (x : Env). x.ids) given

  end_is : s.end ≡ (after_both v i t r).end
  unfolding after_turn
  end_is = settled.end ∙ rw (ids_are, changes_are, plan.control, plan.query, plan.acked, plan.given, plan.cleared, plan.changed, plan.added, plan.recovery) refl

  pub turn_is : behind_env start (after_both v i t r) ≡ s
  unfolding after_turn
  turn_is = same_parts (behind_env start (after_both v i t r)) s (sym end_is) (sym (settled.outputs ∙ outputs_are)) (sym (settled.moves ∙ moves_are))

-- a step of a tunnel that is there
pub main_made : (v : End) (start : Env) → start.changes ≡ [] → (k : Task) (i : ℕ) (o : Option Tunnel) (p : Plan)
    (env : Env) (s : Stepped) → at v.tunnels i ≡ o → IsSome o → IsPlanned v.role v.config k start o p → IsGiven v.role v.config k start o env
    → s.end ≡ record v { tunnel_ids = env.ids.tunnels; session_ids = env.ids.sessions; recovery_ids = env.ids.recoveries; tunnels = after_plan v.tunnels (i, p) o; calls = with_looks env.changes (placed p.control.local p.added v.calls) }
    → s.outputs ≡ env.outputs → s.moves ≡ env.moves → behind_env start (in_task v start k i (at v.tunnels i)) ≡ s
main_made v start none k i None p env s there some planned given end outputs moves = absurd (true≢false (sym some))
main_made v start none k i (Some t) p env s there some planned given end outputs moves =
    rw there (turn_is v start none i t p env s (turn_at v.role v.config k start t) planned given (record { end = end; outputs = outputs; moves = moves }))

-- what the environment began with stands before what the step gives, and changes nothing else
same_behind : (v : End) (env : Env) (g : Given) (k : Task) (i : ℕ) (o : Option Tunnel) → in_task v (record env { outputs = g.outputs; moves = g.moves }) k i o ≡ in_task v env k i o
same_behind v env g k i None = refl
same_behind v env g k i (Some t) = refl

pub behind_first : (v : End) (moment : ℕ) (block : List ℕ) (g : Given) (start : Env) → start ≡ record (env_of v moment block) { outputs = g.outputs; moves = g.moves } → (k : Task) (i : ℕ) (o : Option Tunnel)
    → behind_given (given_in start) (in_task v start k i o) ≡ behind_given g (in_task v (env_of v moment block) k i o)
behind_first v moment block g start begun k i o = rw begun (ap (behind_given g) (same_behind v (env_of v moment block) g k i o))

-- a step about an event is that of the event
pub event_is : (v : End) (env : Env) (ev : Bor Event) (i : ℕ) (o : Option Tunnel) → in_task v env (task.Event ev) i o ≡ in_main v env ev.now i o
unfolding in_main
event_is v env ev i None = refl
event_is v env ev i (Some t) = refl

-- ---- a tunnel that is new

-- its turn, beside which no recovery tunnel comes
abbrev pub opened : End → Env → Event → Tunnel → RecoveryTurn
opened e env ev t = beside None (first_turn e.role e.config ev env t)

-- that drew no id
pub not_made : (v : End) (start env : Env) (ev : Event) (peer : ℕ) (r : Turn) (os : List Out) (ms : List Move) → (start.outputs ≡ []) × (start.moves ≡ []) → r ≡ turns v.role v.config [] [] ev (turn_of (fresh peer start.on.moment) start) → env ≡ with_turn r start → r.control.local ≡ 0 → os ≡ env.outputs → ms ≡ env.moves → in_new v start ev peer ≡ record { end = v; outputs = os; moves = ms }
unfolding in_new after_new with_turn
not_made v start env ev peer r os ms none is given zero a b =
    rw (← is, eq-eqb r.control.local 0 zero, a, b, given, none.0, none.1) refl

kept_new : (v : End) (r : Turn) → (r.control.local ≡ 0 → ⊥) → after_new v r ≡ after_turn v r.control.local [] [] None r
unfolding after_new
kept_new v r some = rw (ne_eqb r.control.local 0 some) refl

-- the first step of a tunnel in this environment
module _ (v : End) (start env : Env) (begun : start ≡ env_of v start.on.moment start.on.block) (ev : Event) (peer : ℕ) (t : Tunnel) (idle : t ≡ new_tunnel (fresh peer start.on.moment)) (p : Plan) (planned : IsTurn p None (opened v start ev t)) (given : env ≡ with_turn (opened v start ev t).turn start) where
  silent : (start.outputs ≡ []) × (start.moves ≡ [])
  silent = (ap (λ (x : Env). x.outputs) begun, ap (λ (x : Env). x.moves) begun)

  pub none_made : p.control.local ≡ 0 → in_new v start ev peer ≡ record { end = v; outputs = env.outputs; moves = env.moves }
  none_made zero =
      not_made v start env ev peer (opened v start ev t).turn env.outputs env.moves silent (ap (λ (u : Tunnel). (opened v start ev u).turn) idle) given (ap (λ (c : Control). c.local) (sym planned.control) ∙ zero) refl refl

  pub first_made : (p.control.local ≡ 0 → ⊥) → (s : Stepped) → IsSettled v p.control.local t p env s → in_new v start ev peer ≡ s
  unfolding in_new
  first_made some s settled =
      let r = opened v start ev t in
      let same : r.turn ≡ turns v.role v.config [] [] ev (turn_of (fresh peer start.on.moment) start) = ap (λ (u : Tunnel). (opened v start ev u).turn) idle in
      let local : r.turn.control.local ≡ p.control.local = ap (λ (c : Control). c.local) (sym planned.control) in
      let alone : t.recovery ≡ None = ap (λ (u : Tunnel). u.recovery) idle in
      let plan : IsTurn p t.recovery r = rw alone planned in
      let none : t.calls ≡ [] = ap (λ (u : Tunnel). u.calls) idle in
      let quiet : t.letters ≡ [] = ap (λ (u : Tunnel). u.letters) idle in
      ap (after_new v) (sym same) ∙ kept_new v r.turn (λ zero. some (sym local ∙ zero)) ∙ ap (λ k. after_turn v k [] [] None r.turn) local
      ∙ ap (λ (cs : List (ℕ × Call)). after_turn v p.control.local [] cs None r.turn) (sym none)
      ∙ ap (λ (ls : List Letter). after_turn v p.control.local ls t.calls None r.turn) (sym quiet)
      ∙ sym (behind_none start _ silent)
      ∙ turn_is v start (ap (λ (x : Env). x.changes) begun) p.control.local t p env s r plan given settled
