use Rattle.std.proofs.Common.{◌≡◌, ℕ, List, Ok, refl, sym, subst, ap, ◌∙◌}
use Rattle.std.proofs.lemmas.Result.{err_from_is_err_and}
use Rattle.session_book.specs.declared.record.Record.{Record}
use Rattle.end_model.specs.Openings.{fresh}
use Rattle.end_model.specs.Tunnels.{Tunnel, Env, new_tunnel}
use Rattle.end_model.specs.End.{End, Stepped, env_of, in_new, placed, with_looks, tunnels_after}
use Rattle.tunnel_table.specs.Cores.{Core, tunnel_of, made_of}
use Rattle.tunnel_table.specs.Tunnels.{tunnels_of}
use Rattle.end_core.specs.contracts.end.End.{the_view as view_of}
use Rattle.tunnel_turn.specs.contracts.env.Env.{the_view as env_view_of}
use Rattle.end_core.proofs.Committed.{refused_by, first_records}
use Rattle.end_core.proofs.Steps.{first_made, none_made}
use Rattle.end_core.proofs.end.End.take_first_step.Goals as goal

pub returns-then-local-eq0-clause-made : goal.returns-then-local-eq0-clause-made
returns-then-local-eq0-clause-made g c =
    let v = view_of c.self.inside in
    let start = c.args.env.now in
    let env = c.plan_first.new.env in
    let zero = sym c.local-local.ensures ∙ c.if-local-eq0.true in
    let idle = c.idle-core.ensures ∙ ap (λ (x : Env). new_tunnel (fresh c.args.peer x.on.moment)) c.env.view_is in
    let begun = subst (λ (x : End). start ≡ env_of x start.on.moment start.on.block) (sym c.self.view_is) c.requires.begun in
    let made : in_new v start c.args.event.now c.args.peer ≡ record { end = v; outputs = env.outputs; moves = env.moves } =
    none_made v start env begun c.args.event.now c.args.peer (tunnel_of c.idle-core.result) idle c.in_ok-planned.planned c.in_ok-planned.ensures.planned c.in_ok-planned.ensures.given zero in
    subst (λ (x : End). in_new x start c.args.event.now c.args.peer ≡ record { end = v; outputs = env.outputs; moves = env.moves }) c.self.view_is made ∙ rw (c.make_first.ensures.same_places zero, c.make_first.ensures.same_tunnels zero, c.plan_first.ensures.places, c.plan_first.ensures.tunnels) refl

pub returns-clause-made : goal.returns-clause-made
returns-clause-made g c =
    let v = view_of c.self.inside in
    let start = c.args.env.now in
    let p = c.in_ok-planned.planned in
    let some : p.control.local ≡ 0 → ⊥ = λ zero. c.if-local-eq0.false (c.local-local.ensures ∙ zero) in
    let idle = c.idle-core.ensures ∙ ap (λ (x : Env). new_tunnel (fresh c.args.peer x.on.moment)) c.env.view_is in
    let begun = subst (λ (x : End). start ≡ env_of x start.on.moment start.on.block) (sym c.self.view_is) c.requires.begun in
    let tunnels : tunnels_of c.make_first.new.tunnels.entries ≡ tunnels_after v.tunnels p.control.local p.cleared (made_of p (tunnel_of c.idle-core.result)) =
    c.make_first.ensures.tunnels some ∙ ap (λ (xs : List (ℕ × Core)). tunnels_after (tunnels_of xs) p.control.local p.cleared (made_of p (tunnel_of c.plan_first.new.core))) c.plan_first.ensures.tunnels ∙ ap (λ (t : Tunnel). tunnels_after v.tunnels p.control.local p.cleared (made_of p t)) c.plan_first.ensures.same in
    let places : c.make_first.new.places.entries ≡ with_looks c.env-2.inside.changes (placed p.control.local p.added c.self.inside.calls.entries) =
    c.make_first.ensures.places some ∙ rw (c.as_slice.ensures, c.plan_first.ensures.places) refl in
    let s : Stepped = record { end = view_of (record { alloc = c.self.inside.alloc; role = c.self.inside.role; config = c.self.inside.config; tunnel_ids = c.env-2.inside.tunnels; session_ids = c.env-2.inside.sessions; recovery_ids = c.env-2.inside.recoveries; tunnels = c.make_first.new.tunnels; calls = c.make_first.new.places }); outputs = c.env-2.inside.outputs; moves = c.env-2.inside.moves } in
    let made : in_new v start c.args.event.now c.args.peer ≡ s =
    first_made v start (env_view_of c.env-2.inside) begun c.args.event.now c.args.peer (tunnel_of c.idle-core.result) idle p c.in_ok-planned.ensures.planned (c.env-2.view_is ∙ c.in_ok-planned.ensures.given) some s (record { end = rw (tunnels, places) refl; outputs = refl; moves = refl }) in
    subst (λ (x : End). in_new x start c.args.event.now c.args.peer ≡ s) c.self.view_is made ∙ ap (λ (x : Env). record { end = s.end; outputs = x.outputs; moves = x.moves }) c.env-2.view_is

pub returns-in_err-planned-clause-committed : goal.returns-in_err-planned-clause-committed
returns-in_err-planned-clause-committed g c =
    let idle = c.idle-core.ensures ∙ ap (λ (x : Env). new_tunnel (fresh c.args.peer x.on.moment)) c.env.view_is in
    let p = err_from_is_err_and c.from_residual.result c.from_residual.ensures.1 in
    refused_by g.L.Ledger.commits_to _ p.0 _ _ _ _ _ p.1 p.2 (first_records (view_of c.self.inside) c.args.self.now c.self.view_is c.args.env.now c.requires.begun c.args.event.now c.args.peer (tunnel_of c.idle-core.result) idle) c.in_err-planned.ensures.committed

pub returns-then-local-eq0-clause-committed : goal.returns-then-local-eq0-clause-committed
returns-then-local-eq0-clause-committed g c =
    let idle = c.idle-core.ensures ∙ ap (λ (x : Env). new_tunnel (fresh c.args.peer x.on.moment)) c.env.view_is in
    subst (λ (rs : List Record). g.L.Ledger.commits_to c.args.ledger.now rs (Ok tt) c.plan_first.new.ledger) (sym (first_records (view_of c.self.inside) c.args.self.now c.self.view_is c.args.env.now c.requires.begun c.args.event.now c.args.peer (tunnel_of c.idle-core.result) idle)) c.in_ok-planned.ensures.committed

pub returns-clause-committed : goal.returns-clause-committed
returns-clause-committed g c =
    let idle = c.idle-core.ensures ∙ ap (λ (x : Env). new_tunnel (fresh c.args.peer x.on.moment)) c.env.view_is in
    subst (λ (rs : List Record). g.L.Ledger.commits_to c.args.ledger.now rs (Ok tt) c.plan_first.new.ledger) (sym (first_records (view_of c.self.inside) c.args.self.now c.self.view_is c.args.env.now c.requires.begun c.args.event.now c.args.peer (tunnel_of c.idle-core.result) idle)) c.in_ok-planned.ensures.committed
