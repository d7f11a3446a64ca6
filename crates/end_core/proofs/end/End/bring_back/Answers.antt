use Rattle.std.proofs.Common.{◌≡◌, ℕ, List, ◌++◌, Ok, refl, sym, subst, ap, ◌∙◌}
use Rattle.std.proofs.lemmas.Result.{on_ok_weaker}
use Rattle.end_model.specs.Tunnels.{Tunnel, Env, turn_in}
use Rattle.end_model.specs.Turn.{with_turn}
use Rattle.end_model.specs.End.{End, env_of, placed, with_looks, tunnels_after}
use Rattle.end_model.specs.Starting.{restores, restored_by, behind_all}
use Rattle.tunnel_table.specs.Cores.{Core, IsTurn, tunnel_of, made_of}
use Rattle.tunnel_table.specs.Tunnels.{tunnels_of}
use Rattle.end_core.specs.declared.end.Given.{Given}
use Rattle.end_core.specs.contracts.end.End.{the_view as view_of}
use Rattle.tunnel_turn.specs.contracts.env.Env.{the_view as env_view_of}
use Rattle.end_core.proofs.Returning.{brought_back}
use Rattle.end_core.proofs.end.End.bring_back.Goals as goal

pub returns-clause-restored : goal.returns-clause-restored
returns-clause-restored c =
    let v = view_of c.self.inside in
    let b = c.args.tunnel.now in
    let t = tunnel_of c.kept-core.result in
    let p = c.in_ok-planned.planned in
    let g = c.args.given.now in
    let begin : c.env-env.result ≡ env_of v c.args.moment c.args.block = c.env-env.ensures ∙ ap (λ (x : End). env_of x c.args.moment c.args.block) (sym c.self.view_is) in
    let planned = subst (λ (x : Env). IsTurn p t.recovery (restores v.role v.config c.args.calls.now b c.args.local c.args.draw (turn_in t x))) begin c.in_ok-planned.ensures.planned in
    let given = subst (λ (x : Env). env_view_of c.env.inside ≡ with_turn (restores v.role v.config c.args.calls.now b c.args.local c.args.draw (turn_in t x)).turn x) begin (c.env.view_is ∙ c.in_ok-planned.ensures.given) in
    let tunnels : tunnels_of c.make_kept.new.tunnels.entries ≡ tunnels_after v.tunnels b.local p.cleared (made_of p t) =
    c.make_kept.ensures.tunnels
    ∙ ap (λ (xs : List (ℕ × Core)). tunnels_after (tunnels_of xs) c.from-id.result p.cleared (made_of p (tunnel_of c.plan.new.self))) c.in_ok-make_room.ensures.entries
    ∙ ap (λ (i : ℕ). tunnels_after v.tunnels i p.cleared (made_of p (tunnel_of c.plan.new.self))) c.from-id.ensures
    ∙ ap (λ (u : Tunnel). tunnels_after v.tunnels b.local p.cleared (made_of p u)) c.in_ok-planned.ensures.same in
    let places : c.make_kept.new.places.entries ≡ with_looks c.env.inside.changes (placed p.control.local p.added c.self.inside.calls.entries) =
    c.make_kept.ensures.places ∙ rw (c.as_slice.ensures, c.make_places.ensures.same) refl in
    let e = view_of (record { alloc = c.self.inside.alloc; role = c.self.inside.role; config = c.self.inside.config; tunnel_ids = c.env.inside.tunnels; session_ids = c.env.inside.sessions; recovery_ids = c.env.inside.recoveries; tunnels = c.make_kept.new.tunnels; calls = c.make_kept.new.places }) in
    on_ok_weaker c.append.result
    (λ (h : c.append.new.self ≡ record { outputs = g.outputs ++ c.plan.new.env.outputs; moves = g.moves ++ c.plan.new.env.moves }).
    subst (λ (x : End). behind_all (record { end = x; outputs = g.outputs; moves = g.moves }) (restored_by x (env_of x c.args.moment c.args.block) c.args.calls.now b (Ok c.args.local) (Ok c.args.draw)) ≡ record { end = e; outputs = c.append.new.self.outputs; moves = c.append.new.self.moves }) c.self.view_is
    (brought_back v e c.args.moment c.args.block t b c.args.calls.now c.args.local c.args.draw p (env_view_of c.env.inside) g c.append.new.self.outputs c.append.new.self.moves
    c.kept-core.ensures planned given (rw (tunnels, places) refl) (ap (λ (x : Given). x.outputs) h ∙ ap (λ (x : Env). g.outputs ++ x.outputs) (sym c.env.view_is)) (ap (λ (x : Given). x.moves) h ∙ ap (λ (x : Env). g.moves ++ x.moves) (sym c.env.view_is))))
    c.append.ensures.given
