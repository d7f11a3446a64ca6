use Rattle.std.proofs.Common.{Some, option_map, subst, ap, ◌∙◌, arith}
use Rattle.id_table.specs.Order.{ascends-put}
use Rattle.end_model.specs.declared.tunnel.Call.{Call}
use Rattle.end_model.specs.Owing.{owed_at, owed-most, owed-put}
use Rattle.id_index.specs.Indexes.{IsRelabelled}
use Rattle.id_index.specs.Firsts.{within_put}
use Rattle.tunnel_timers.specs.Bounds.{calls_put}
use Rattle.tunnel_calls.specs.Replays.{all_replay_put}
use Rattle.tunnel_calls.proofs.Listing.{listed_put}
use Rattle.tunnel_calls.proofs.TunnelCalls.fill.Goals as goal

pub overflow_add-self : goal.overflow_add-self
overflow_add-self c =
    let most = owed-most c.self.inside.table.entries in
    let owed = c.self.invariant.1 in
    let few = c.len-count.type_inv in
    let count = c.len-count.ensures in
    omega arith

pub overflow_sub-self : goal.overflow_sub-self
overflow_sub-self c =
    let sum = owed-put c.self.inside.table.entries c.args.session c.args.call c.self.invariant.0 in
    let owed = c.self.invariant.1 in
    let before = c.owed_at-before.ensures ∙ ap owed_at c.get.ensures in
    let own = c.owes.ensures in
    omega arith

pub invariant_of-self : goal.invariant_of-self
invariant_of-self c =
    let sum = owed-put c.self.inside.table.entries c.args.session c.args.call c.self.invariant.0 in
    let owed = c.self.invariant.1 in
    let before = c.owed_at-before.ensures ∙ ap owed_at c.get.ensures in
    let own = c.owes.ensures in
    let known = c.remote_of-known.ensures ∙ ap (option_map (λ (x : Call). x.remote)) c.get-2.ensures in
    let to = subst (λ r. IsRelabelled c.self.inside.remotes c.relabel.new.self c.args.session c.remote_of-known.result (Some r)) c.from-2.ensures c.relabel.ensures in
    let relabelled = subst (λ o. IsRelabelled c.self.inside.remotes c.relabel.new.self c.args.session o (Some c.args.call.remote)) known to in
    rw c.fill.ensures.entries (
      ascends-put c.args.session c.args.call c.self.inside.table.entries c.self.invariant.0,
      omega arith,
      within_put c.self.inside.table.entries c.args.session c.args.call c.ranges.session.fits c.self.invariant.2,
      listed_put c.self.inside.remotes c.relabel.new.self c.self.inside.table.entries c.args.session c.args.call relabelled c.self.invariant.3,
      calls_put c.self.inside.due c.call_due.result c.min-self-inside.result c.self.inside.table.entries c.args.session c.args.call c.min-self-inside.ensures c.call_due.ensures c.self.invariant.4,
      all_replay_put c.self.inside.table.entries c.args.session c.args.call c.self.invariant.5 c.requires.replays,
    )
