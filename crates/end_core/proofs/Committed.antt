-- What is committed of a step is what the step leaves, by the definitions.
use Rattle.std.proofs.Common.{◌≡◌, ℕ, Bool, true, false, List, [], ◌∷◌, ◌++◌, Option, Some, None, Result, Err, refl, ap, sym, subst, ◌∙◌, true≢false}
use Rattle.std.proofs.lemmas.List.{append-nil}
use Rattle.std.specs.List.{AllByRecursion, flat_map}
use Rattle.std.specs.Prelude.{⊤, ◌==◌, IsSome}
use Rattle.id_table.specs.Ids.{at, ids_of}
use Rattle.session_book.specs.declared.record.Record.{Record}
use Rattle.step_ledger.specs.declared.ledger.StepFault.{StepFault}
use Rattle.step_ledger.specs.declared.ledger.StepFault.TheVariants.{NoMemory, Uncommitted}
use Rattle.step_ledger.specs.Committing.{Commits}
use Rattle.step_records.specs.Leaving.{leaves}
use Rattle.end_model.specs.declared.event.Event.{Event}
use Rattle.end_model.specs.declared.tunnel.Config.{Config}
use Rattle.end_names.specs.declared.role.Role.{Role}
use Rattle.end_model.specs.declared.moves.Move.{Move}
use Rattle.session_book.specs.Books.{Kept}
use Rattle.id_source.specs.Spaces.{space_from}
use Rattle.end_model.specs.Starting.{starts}
use Rattle.end_model.specs.Contents.{contents_of}
use Rattle.end_model.specs.Openings.{fresh}
use Rattle.end_model.specs.Tunnels.{Tunnel, Turn, Drawing, Env, turn_of, turn_in, new_tunnel}
use Rattle.end_model.specs.Recovering.{RecoveryTurn}
use Rattle.end_model.specs.Turn.{with_turn}
use Rattle.end_model.specs.Events.{turns}
use Rattle.end_model.specs.End.{End, drawing_of, env_of, gives_only, after_turn, after_both, after_new, in_new, Turned, tick_of, ticks_of, end_after_all, after_all, ticks_all}
use Rattle.tunnel_table.specs.Cores.{Task}
use Rattle.tunnel_table.specs.Cores.{Core, Plan, IsTurn, beside}
use Rattle.tunnel_table.specs.Plans.{turn_at, IsGiven}
use Rattle.tunnel_table.specs.Tunnels.{tunnels_of}
use Rattle.end_core.specs.declared.end.Given.{Given}
use Rattle.end_core.specs.Gives.{behind_given, given_in, drawn_first, first_turn, first_leaves, main_leaves, in_task}
use Rattle.end_core.specs.Ticking.{ticks_at, with_ticks, ticks_leave}
use Rattle.end_core.proofs.Draws.{turn_drawn}
use Rattle.end_core.proofs.Plans.{ticks_are}

-- ---- what is committed, whatever it is called

module _ {L S : Type 0} (commits_to : L → List Record → Result ⊤ S → L → Type 0) where
  refuses_same : (T : Type 0) (f : StepFault S) (rs ss : List Record) (before after : L) → rs ≡ ss → Commits {T = ⊤} commits_to (Err f) ss before after → Commits {T = T} commits_to (Err f) rs before after
  refuses_same T NoMemory rs ss before after same h = h
  refuses_same T (Uncommitted stop) rs ss before after same h = subst (λ (l : List Record). commits_to before l (Err stop) after) (sym same) h

  pub refused_by : {T : Type 0} (r : Result T (StepFault S)) (e f : StepFault S) (rs ss : List Record) (before after : L) → r ≡ Err e → e ≡ f → rs ≡ ss → Commits {T = ⊤} commits_to (Err f) ss before after → Commits commits_to r rs before after
  refused_by {T} r e f rs ss before after is told same h = rw (is, told) (refuses_same T f rs ss before after same h)

-- ---- what steps leave that change nothing of the end

pub quiet_records : (e : End) (g : Given) (ms : List Move) → ms ≡ g.moves → contents_of e (record { end = e; outputs = g.outputs; moves = g.moves }) ≡ leaves (drawing_of e) (drawing_of e) ms
unfolding contents_of
quiet_records e g ms same = ap (λ (l : List Move). leaves (drawing_of e) (drawing_of e) l) (sym same)

-- ---- what the step of a tunnel leaves

module _ (start env : Env) (before : Drawing) (drew : before ≡ start.ids) where
  pub first_planned : (p : Plan) (t : Turn) → IsTurn p None (beside None t) → env ≡ with_turn t start → first_leaves start t ≡ leaves before (drawn_first p.control.local before env) env.moves
  first_planned p t planned given = rw (drew, planned.control, given) refl

  pub main_planned : (role : Role) (c : Config) (k : Task) (o : Option Tunnel) → IsSome o → IsGiven role c k start o env → main_leaves role c k start o ≡ leaves before env.ids env.moves
  main_planned role c k None some given = absurd (true≢false (sym some))
  main_planned role c k (Some t) some given = rw (drew, given) refl

first_at : (v : End) (start : Env) → start.ids ≡ drawing_of v → start.moves ≡ [] → (t : Turn) (b : Bool) → (t.control.local == 0) ≡ b → contents_of v (after_new v t) ≡ first_leaves start t
unfolding contents_of after_new after_turn with_turn
first_at v start drew silent t true is =
    rw is (ap (λ (d : Drawing). leaves d d t.moves) (sym drew) ∙ ap (λ (ms : List Move). leaves start.ids start.ids (ms ++ t.moves)) (sym silent))
first_at v start drew silent t false is =
    rw is (ap (λ (d : Drawing). leaves d t.ids t.moves) (sym drew) ∙ ap (λ (ms : List Move). leaves start.ids t.ids (ms ++ t.moves)) (sym silent))

main_at : (v : End) (start : Env) → start.ids ≡ drawing_of v → (k : Task) (i : ℕ) (o : Option Tunnel) → contents_of v (behind_given (given_in start) (in_task v start k i o)) ≡ main_leaves v.role v.config k start o
unfolding contents_of gives_only after_turn with_turn
main_at v start drew k i None = ap (λ (ms : List Move). leaves (drawing_of v) (drawing_of v) ms) (append-nil start.moves) ∙ ap (λ (d : Drawing). leaves d d start.moves) (sym drew)
main_at v start drew k i (Some t) =
    let r = (turn_at v.role v.config k start t).turn in
    ap (λ (d : Drawing). leaves d r.ids (start.moves ++ r.moves)) (sym drew)

-- the same of an end that was lent, and is seen as it was before
module _ (v w : End) (same : v ≡ w) (start : Env) where
  pub first_records : start ≡ env_of w start.on.moment start.on.block → (ev : Event) (peer : ℕ) (t : Tunnel) → t ≡ new_tunnel (fresh peer start.on.moment)
      → contents_of w (in_new w start ev peer) ≡ first_leaves start (first_turn v.role v.config ev start t)
  unfolding in_new
  first_records begun ev peer t idle =
      rw (same, idle) (first_at w start (ap (λ (x : Env). x.ids) begun) (ap (λ (x : Env). x.moves) begun) (turns w.role w.config [] [] ev (turn_of (fresh peer start.on.moment) start)) _ refl)

  pub main_records : start.ids ≡ drawing_of w → (k : Task) (i : ℕ) → contents_of w (behind_given (given_in start) (in_task w start k i (at w.tunnels i))) ≡ main_leaves v.role v.config k start (at v.tunnels i)
  main_records drew k i = rw same (main_at w start drew k i (at w.tunnels i))

-- ---- what a tick leaves

-- as time passes, no number is drawn
abbrev AreQuiet : Drawing → List Turned → Type 0
AreQuiet d ts = AllByRecursion (λ t. t.turn.turn.ids ≡ d) ts

one_quiet : (v : End) (env : Env) (i : ℕ) (o : Option Tunnel) (ts : List Turned) → AreQuiet env.ids ts → AreQuiet env.ids (tick_of v env i o ++ ts)
one_quiet v env i None ts later = later
one_quiet v env i (Some t) ts later = (ap (λ x. x.1) (turn_drawn v.role v.config t (turn_in t env)), later)

all_quiet : (v : End) (env : Env) (is : List ℕ) → AreQuiet env.ids (ticks_of v env is)
unfolding ticks_of
all_quiet v env [] = tt
all_quiet v env (i ∷ is) = one_quiet v env i (at v.tunnels i) (ticks_of v env is) (all_quiet v env is)

drawing_stays : (d : Drawing) (ts : List Turned) (e : End) → drawing_of e ≡ d → AreQuiet d ts → drawing_of (end_after_all ts e) ≡ d
unfolding end_after_all after_turn
drawing_stays d [] e same quiet = same
drawing_stays d (t ∷ ts) e same quiet =
    drawing_stays d ts (after_both e t.id t.tunnel t.turn).end quiet.0 quiet.1

ticks_at_once : (v : End) (moment : ℕ) (block : List ℕ) (is : List ℕ) → ticks_all v (env_of v moment block) ≡ after_all (ticks_of v (env_of v moment block) is) v
    → contents_of v (ticks_all v (env_of v moment block)) ≡ ticks_leave (ticks_of v (env_of v moment block) is) (env_of v moment block)
unfolding contents_of after_all with_ticks
ticks_at_once v moment block is others =
    let ts = ticks_of v (env_of v moment block) is in
    ap (contents_of v) others
    ∙ ap (λ (d : Drawing). leaves (drawing_of v) d (flat_map (λ (t : Turned). t.turn.turn.moves) ts)) (drawing_stays (drawing_of v) ts v refl (all_quiet v (env_of v moment block) is))

-- those of the tunnels that aren't left out
pub tick_records : (v w : End) → v ≡ w → (start : Env) (moment : ℕ) (block : List ℕ) (es : List (ℕ × Core)) (is : List ℕ) → v.tunnels ≡ tunnels_of es → start ≡ env_of w moment block
    → ticks_all v (env_of v moment block) ≡ after_all (ticks_of v (env_of v moment block) is) v
    → contents_of w (ticks_all w (env_of w moment block)) ≡ ticks_leave (ticks_at v.role v.config es start is) start
tick_records v w same start moment block es is tunnels begun others =
    let are : ticks_at v.role v.config es start is ≡ ticks_of v start is = ticks_are v es start is tunnels in
    rw (are, same, begun) (ticks_at_once w moment block is (subst (λ (x : End). ticks_all x (env_of x moment block) ≡ after_all (ticks_of x (env_of x moment block) is) x) same others))

pub ticks_planned : (start env : Env) (before : Drawing) (ts : List Turned) (ms : List Move) → before ≡ start.ids → env ≡ with_ticks ts start → ms ≡ env.moves → ticks_leave ts start ≡ leaves before before ms
ticks_planned start env before ts ms drew given moves = rw (moves, drew, given) refl

-- what an end leaves that starts, where another end stands for it then
pub start_records : (e started : End) (k book : Kept) (moment : ℕ) (block : List ℕ) (before after : Drawing) (g : Given) (ms : List Move) → book ≡ k
    → before ≡ drawing_of e → after ≡ drawing_of started → starts e.role e.config book moment block ≡ record { end = started; outputs = g.outputs; moves = g.moves }
    → ms ≡ g.moves → contents_of e (starts e.role e.config k moment block) ≡ leaves before after ms
unfolding contents_of
start_records e started k book moment block before after g ms same drew draws given moves =
    ap (λ (x : Kept). contents_of e (starts e.role e.config x moment block)) (sym same) ∙ ap (contents_of e) given ∙ rw (drew, draws, moves) refl
