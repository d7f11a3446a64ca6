use Rattle.std.proofs.Common.{◌≡◌, ◌∙◌, List, Ok, refl, ap, sym, subst}
use Rattle.std.proofs.lemmas.Result.{err_from_is_err_and}
use Rattle.session_book.specs.declared.record.Record.{Record}
use Rattle.end_model.specs.Tunnels.{Env}
use Rattle.end_model.specs.End.{End, Stepped, env_of, with_looks, ticks_all}
use Rattle.end_core.specs.Ticking.{ticks_at, ArePlanned, with_ticks, after_plans}
use Rattle.end_core.specs.declared.end.Given.{Given}
use Rattle.end_core.specs.contracts.end.End.{the_view as view_of}
use Rattle.end_core.proofs.Plans.{others_wait, all_is}
use Rattle.end_core.proofs.Committed.{refused_by, tick_records}
use Rattle.end_core.proofs.end.End.tick_all.Goals as goal

pub returns-clause-given : goal.returns-clause-given
returns-clause-given g c =
    let v = view_of c.self.inside in
    let es = c.self.inside.tunnels.entries in
    let is = c.as_slice.result.now in
    let begin : c.env-env.result ≡ env_of v c.args.moment c.args.block = c.env-env.ensures ∙ ap (λ (x : End). env_of x c.args.moment c.args.block) (sym c.self.view_is) in
    let env = c.plan_ticks.new.env in
    let s : Stepped = record { end = view_of (record { alloc = c.self.inside.alloc; role = c.self.inside.role; config = c.self.inside.config; tunnel_ids = c.self.inside.tunnel_ids; session_ids = c.self.inside.session_ids; recovery_ids = c.self.inside.recovery_ids; tunnels = c.look_again.new.self; calls = c.change_looks.new.places }); outputs = env.outputs; moves = env.moves } in
    let planned = subst (λ (x : Env). ArePlanned c.in_ok-plans.plans (ticks_at v.role v.config es x is)) begin c.in_ok-plans.ensures.planned in
    let given = subst (λ (x : Env). env ≡ with_ticks (ticks_at v.role v.config es x is) x) begin c.in_ok-plans.ensures.given in
    let tunnels = c.look_again.ensures ∙ c.make_all.ensures ∙ ap (after_plans c.in_ok-plans.plans) c.plan_ticks.ensures.same in
    let changes = c.as_slice-2.ensures ∙ ap (λ (x : Env). x.changes) c.env.view_is in
    let calls : c.change_looks.new.places.entries ≡ with_looks env.changes c.self.inside.calls.entries = c.change_looks.ensures ∙ ap (λ cs. with_looks cs c.self.inside.calls.entries) changes in
    let others = others_wait v c.args.moment c.args.block is c.early_ticks_do_nothing.ensures.tunnels c.ids_due.ensures.order _ c.as_slice.ensures c.in_ok-ids.ensures.others in
    let one : ticks_all v (env_of v c.args.moment c.args.block) ≡ s =
    all_is v c.args.moment c.args.block es refl is c.in_ok-plans.plans c.in_ok-plans.ensures.ascend others env s planned given (rw (tunnels, calls) refl) refl refl in
    subst (λ (x : End). ticks_all x (env_of x c.args.moment c.args.block) ≡ s) c.self.view_is one
    ∙ ap (λ (x : Given). record { end = s.end; outputs = x.outputs; moves = x.moves }) (sym c.of.ensures)

pub returns-in_err-plans-clause-committed : goal.returns-in_err-plans-clause-committed
returns-in_err-plans-clause-committed g c =
    let p = err_from_is_err_and c.from_residual-in_err-plans.result c.from_residual-in_err-plans.ensures.1 in
    let others = others_wait (view_of c.self.inside) c.args.moment c.args.block c.as_slice.result.now c.early_ticks_do_nothing.ensures.tunnels c.ids_due.ensures.order _ c.as_slice.ensures c.in_ok-ids.ensures.others in
    refused_by g.L.Ledger.commits_to _ p.0 _ _ _ _ _ p.1 p.2 (tick_records (view_of c.self.inside) c.args.self.now c.self.view_is c.env-env.result c.args.moment c.args.block c.self.inside.tunnels.entries c.as_slice.result.now refl c.env-env.ensures others) c.in_err-plans.ensures.committed

pub returns-clause-committed : goal.returns-clause-committed
returns-clause-committed g c =
    let others = others_wait (view_of c.self.inside) c.args.moment c.args.block c.as_slice.result.now c.early_ticks_do_nothing.ensures.tunnels c.ids_due.ensures.order _ c.as_slice.ensures c.in_ok-ids.ensures.others in
    subst (λ (rs : List Record). g.L.Ledger.commits_to c.args.ledger.now rs (Ok tt) c.plan_ticks.new.ledger) (sym (tick_records (view_of c.self.inside) c.args.self.now c.self.view_is c.env-env.result c.args.moment c.args.block c.self.inside.tunnels.entries c.as_slice.result.now refl c.env-env.ensures others)) c.in_ok-plans.ensures.committed
