-- A tunnel that was kept comes back by what was planned for it.
use Rattle.std.proofs.Common.{◌≡◌, ℕ, ◌<◌, Bool, true, false, List, [], ◌∷◌, ◌++◌, Result, Ok, Err, refl, sym, ap, ◌∙◌}
use Rattle.session_book.specs.declared.record.BookTunnel.{BookTunnel}
use Rattle.session_book.specs.declared.record.BookCall.{BookCall}
use Rattle.std.specs.List.{AllByRecursion}
use Rattle.id_source.specs.Spaces.{takes_id}
use Rattle.id_source.specs.declared.IdError.{IdError}
use Rattle.session_book.specs.Books.{Kept, calls_of}
use Rattle.session_book.specs.Spelling.{IsKeptTunnel, IsWhole}
use Rattle.end_model.specs.declared.out.Out.{Out}
use Rattle.end_model.specs.declared.moves.Move.{Move}
use Rattle.end_model.specs.Tunnels.{Tunnel, Env, new_tunnel, turn_in}
use Rattle.end_model.specs.Turn.{with_turn}
use Rattle.end_model.specs.Recovering.{RecoveryTurn}
use Rattle.end_model.specs.End.{End, Stepped, env_of, placed, with_looks, tunnels_after, after_turn, after_both}
use Rattle.end_model.specs.Starting.{bare_end, can_recover, forgets, kept_control, restores, restored_by, restored, restored_all, behind_all, starts}
use Rattle.tunnel_table.specs.Cores.{Plan, made_of, IsTurn}
use Rattle.end_core.specs.declared.end.Given.{Given}
use Rattle.end_core.specs.Starting.{restored_with}
use Rattle.end_core.proofs.Steps.{behind_env, turn_is}

pub brought_back : (v e : End) (moment : ℕ) (block : List ℕ) (t : Tunnel) (b : BookTunnel) (calls : List BookCall) (local draw : ℕ) (p : Plan) (env : Env) (g : Given)
    (os : List Out) (ms : List Move) → t ≡ new_tunnel (kept_control moment b)
    → IsTurn p t.recovery (restores v.role v.config calls b local draw (turn_in t (env_of v moment block)))
    → env ≡ with_turn (restores v.role v.config calls b local draw (turn_in t (env_of v moment block))).turn (env_of v moment block)
    → e ≡ record v { tunnel_ids = env.ids.tunnels; session_ids = env.ids.sessions; recovery_ids = env.ids.recoveries; tunnels = tunnels_after v.tunnels b.local p.cleared (made_of p t); calls = with_looks env.changes (placed p.control.local p.added v.calls) }
    → os ≡ g.outputs ++ env.outputs → ms ≡ g.moves ++ env.moves
    → behind_all (record { end = v; outputs = g.outputs; moves = g.moves }) (restored_by v (env_of v moment block) calls b (Ok local) (Ok draw)) ≡ record { end = e; outputs = os; moves = ms }
unfolding restored_by
brought_back v e moment block t b calls local draw p env g os ms kept plan given end_is outputs_are moves_are =
    let start : Env = env_of v moment block in
    let turned : Tunnel → RecoveryTurn = λ u. restores v.role v.config calls b local draw (turn_in u start) in
    let first : Stepped = record { end = v; outputs = g.outputs; moves = g.moves } in
    let s : Stepped = record { end = e; outputs = env.outputs; moves = env.moves } in
    let one : behind_env start (after_both v b.local t (turned t)) ≡ s =
    turn_is v start refl b.local t p env s (turned t) plan given (record { end = end_is; outputs = refl; moves = refl }) in
    let same : after_both v b.local t (turned t) ≡ after_both v b.local (new_tunnel (kept_control moment b)) (turned (new_tunnel (kept_control moment b))) =
    ap (λ (u : Tunnel). after_both v b.local u (turned u)) kept in
    ap (behind_all first) (sym same ∙ one) ∙ rw (outputs_are, moves_are) refl

-- one tunnel more comes back
pub next_restored : (k : Kept) (moment : ℕ) (block : List ℕ) (b : BookTunnel) (rest later all : List BookTunnel) (s after first : Stepped) (calls : List BookCall)
    → rest ≡ b ∷ later → calls ≡ calls_of b.local k.calls → behind_all s (restored_with calls s.end (env_of s.end moment block) b) ≡ after
    → restored_all k moment block rest s ≡ restored_all k moment block all first → restored_all k moment block later after ≡ restored_all k moment block all first
unfolding restored_all restored
next_restored k moment block b rest later all s after first calls is same made before =
    ap (λ (x : Stepped). restored_all k moment block later x) (sym made ∙ ap (λ (cs : List BookCall). behind_all s (restored_with cs s.end (env_of s.end moment block) b)) same)
    ∙ ap (λ (xs : List BookTunnel). restored_all k moment block xs s) (sym is) ∙ before

-- each tunnel of a whole book has a window
windows_by : (ceiling : ℕ) (ts : List BookTunnel) → AllByRecursion (IsKeptTunnel ceiling) ts → AllByRecursion (λ t. 0 < t.window) ts
windows_by ceiling [] all = tt
windows_by ceiling (t ∷ ts) all = (all.0.window, windows_by ceiling ts all.1)

pub windows : (k : Kept) → IsWhole k → AllByRecursion (λ t. 0 < t.window) k.tunnels
windows k whole = windows_by k.tunnel_ceiling k.tunnels whole.tunnels

-- an end that starts keeps its role
by_role : (e : End) (env : Env) (calls : List BookCall) (b : BookTunnel) (local draw : Result ℕ IdError) → (restored_by e env calls b local draw).end.role ≡ e.role
unfolding restored_by forgets after_turn
by_role e env calls b (Ok local) (Ok draw) = refl
by_role e env calls b (Ok local) (Err x) = refl
by_role e env calls b (Err x) draw = refl

one_role : (k : Kept) (e : End) (env : Env) (b : BookTunnel) (can : Bool) → can_recover b ≡ can → (restored k e env b).end.role ≡ e.role
unfolding restored forgets
one_role k e env b true can = rw can (by_role e env (calls_of b.local k.calls) b (takes_id env.ids.tunnels) (takes_id env.ids.recoveries))
one_role k e env b false can = rw can refl

pub all_role : (k : Kept) (moment : ℕ) (block : List ℕ) (bs : List BookTunnel) (s : Stepped) → (restored_all k moment block bs s).end.role ≡ s.end.role
unfolding restored_all
all_role k moment block [] s = refl
all_role k moment block (b ∷ bs) s =
    all_role k moment block bs (behind_all s (restored k s.end (env_of s.end moment block) b)) ∙ one_role k s.end (env_of s.end moment block) b (can_recover b) refl

-- what an end that starts is
pub started_by : (e bare started : End) (k : Kept) (moment : ℕ) (block : List ℕ) (ts : List BookTunnel) (before g : Given)
    → ts ≡ k.tunnels → bare ≡ bare_end e.role e.config k → before ≡ record { outputs = []; moves = [] }
    → restored_all k moment block ts (record { end = bare; outputs = before.outputs; moves = before.moves }) ≡ record { end = started; outputs = g.outputs; moves = g.moves }
    → starts e.role e.config k moment block ≡ record { end = started; outputs = g.outputs; moves = g.moves }
unfolding starts
started_by e bare started k moment block ts before g is bare_is empty made =
    let begun : Stepped = record { end = bare_end e.role e.config k; outputs = []; moves = [] } in
    let same : record { end = bare; outputs = before.outputs; moves = before.moves } ≡ begun = rw (bare_is, empty) refl in
    ap (λ (xs : List BookTunnel). restored_all k moment block xs begun) (sym is) ∙ ap (λ (s : Stepped). restored_all k moment block ts s) (sym same) ∙ made
