use Rattle.std.proofs.Common.{sym, ap, subst}
use Rattle.id_table.specs.Order.{ascends-empty}
use Rattle.id_index.specs.Firsts.{within_empty}
use Rattle.end_model.specs.Calls.{owed_by}
use Rattle.tunnel_timers.specs.Bounds.{calls_none}
use Rattle.tunnel_calls.specs.Remotes.{remotes_of}
use Rattle.tunnel_calls.specs.Replays.{AllReplay, all_replay_none}
use Rattle.tunnel_calls.proofs.Listing.{none_assigned}
use Rattle.tunnel_calls.proofs.TunnelCalls.new.Goals as goal

pub invariant_of-result : goal.invariant_of-result
invariant_of-result c = (
  ascends-empty c.new.result.entries c.new.ensures.entries,
  sym (ap owed_by c.new.ensures.entries),
  within_empty c.new.result.entries c.new.ensures.entries,
  c.new-2.ensures (remotes_of c.new.result.entries) (none_assigned c.new.result.entries c.new.ensures.entries),
  calls_none _ c.new.result.entries c.new.ensures.entries,
  subst AllReplay (sym c.new.ensures.entries) all_replay_none,
)
