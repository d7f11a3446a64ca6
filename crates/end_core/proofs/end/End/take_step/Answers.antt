use Rattle.std.proofs.Common.{◌≡◌, List, Ok, refl, sym, subst, ap, ◌∙◌}
use Rattle.std.proofs.lemmas.Result.{err_from_is_err_and}
use Rattle.std.specs.Prelude.{IsSome}
use Rattle.session_book.specs.declared.record.Record.{Record}
use Rattle.id_table.specs.Ids.{at}
use Rattle.end_model.specs.Tunnels.{Env}
use Rattle.end_model.specs.End.{End, Stepped}
use Rattle.end_core.specs.Gives.{behind_given, given_in, in_task}
use Rattle.end_core.specs.contracts.end.End.{the_view as view_of}
use Rattle.tunnel_turn.specs.contracts.env.Env.{the_view as env_view_of}
use Rattle.end_core.proofs.Committed.{refused_by, main_records}
use Rattle.end_core.proofs.Steps.{main_made}
use Rattle.end_core.proofs.end.End.take_step.Goals as goal

pub returns-clause-made : goal.returns-clause-made
returns-clause-made g c =
    let v = view_of c.self.inside in
    let start = c.args.env.now in
    let p = c.in_ok-planned.planned in
    let i = c.args.id in
    let o = at v.tunnels i in
    let some : IsSome o = subst (λ (x : End). IsSome (at x.tunnels i)) (sym c.self.view_is) c.requires.there in
    let s : Stepped = record { end = view_of (record { alloc = c.self.inside.alloc; role = c.self.inside.role; config = c.self.inside.config; tunnel_ids = c.env.inside.tunnels; session_ids = c.env.inside.sessions; recovery_ids = c.env.inside.recoveries; tunnels = c.make_main.new.tunnels; calls = c.make_main.new.places }); outputs = c.env.inside.outputs; moves = c.env.inside.moves } in
    let made : behind_given (given_in start) (in_task v start c.args.task.now i o) ≡ s =
    main_made v start c.requires.begun c.args.task.now i o p (env_view_of c.env.inside) s refl some c.in_ok-planned.ensures.planned (rw c.env.view_is c.in_ok-planned.ensures.given) (rw (c.make_main.ensures.tunnels, c.make_main.ensures.places, c.as_slice.ensures, c.plan_main.ensures.tunnels, c.plan_main.ensures.places) refl) refl refl in
    subst (λ (x : End). behind_given (given_in start) (in_task x start c.args.task.now i (at x.tunnels i)) ≡ s) c.self.view_is made ∙ ap (λ (x : Env). record { end = s.end; outputs = x.outputs; moves = x.moves }) c.env.view_is

pub returns-in_err-planned-clause-committed : goal.returns-in_err-planned-clause-committed
returns-in_err-planned-clause-committed g c =
    let p = err_from_is_err_and c.from_residual.result c.from_residual.ensures.1 in
    refused_by g.L.Ledger.commits_to _ p.0 _ _ _ _ _ p.1 p.2 (main_records (view_of c.self.inside) c.args.self.now c.self.view_is c.args.env.now c.requires.drawing c.args.task.now c.args.id) c.in_err-planned.ensures.committed

pub returns-clause-committed : goal.returns-clause-committed
returns-clause-committed g c =
    subst (λ (rs : List Record). g.L.Ledger.commits_to c.args.ledger.now rs (Ok tt) c.plan_main.new.ledger) (sym (main_records (view_of c.self.inside) c.args.self.now c.self.view_is c.args.env.now c.requires.drawing c.args.task.now c.args.id)) c.in_ok-planned.ensures.committed
