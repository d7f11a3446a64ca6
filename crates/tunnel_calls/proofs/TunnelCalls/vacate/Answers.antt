use Rattle.std.proofs.Common.{None, option_map, subst, ◌∙◌, ap, arith}
use Rattle.id_table.specs.Order.{ascends-without}
use Rattle.end_model.specs.declared.tunnel.Call.{Call}
use Rattle.end_model.specs.Owing.{owed_at, owed-without}
use Rattle.id_index.specs.Indexes.{IsRelabelled}
use Rattle.id_index.specs.Firsts.{within_without}
use Rattle.tunnel_timers.specs.Bounds.{calls_without}
use Rattle.tunnel_calls.specs.Replays.{all_replay_without}
use Rattle.tunnel_calls.proofs.Listing.{listed_without}
use Rattle.tunnel_calls.proofs.TunnelCalls.vacate.Goals as goal

pub overflow_sub-self : goal.overflow_sub-self
overflow_sub-self c =
    let sum = owed-without c.self.inside.table.entries c.args.session in
    let owed = c.self.invariant.1 in
    let before = c.owed_at-before.ensures ∙ ap owed_at c.get.ensures in
    omega arith

pub invariant_of-self : goal.invariant_of-self
invariant_of-self c =
    let sum = owed-without c.self.inside.table.entries c.args.session in
    let owed = c.self.invariant.1 in
    let before = c.owed_at-before.ensures ∙ ap owed_at c.get.ensures in
    let known = c.remote_of-known.ensures ∙ ap (option_map (λ (x : Call). x.remote)) c.get-2.ensures in
    let relabelled = subst (λ o. IsRelabelled c.self.inside.remotes c.relabel.new.self c.args.session o None) known c.relabel.ensures in
    rw c.vacate.ensures.entries (
      ascends-without c.args.session c.self.inside.table.entries c.self.invariant.0,
      omega arith,
      within_without c.self.inside.table.entries c.args.session c.ranges.session.fits c.self.invariant.2,
      listed_without c.self.inside.remotes c.relabel.new.self c.self.inside.table.entries c.args.session c.self.invariant.0 relabelled c.self.invariant.3,
      calls_without c.self.inside.due c.self.inside.table.entries c.args.session c.self.invariant.4,
      all_replay_without c.self.inside.table.entries c.args.session c.self.invariant.0 c.self.invariant.5,
    )
