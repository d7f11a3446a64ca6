use Rattle.std.proofs.Common.{◌-◌, ◌^◌}
use Rattle.pppoe_session.specs.Subscribers.{subscriber_of, is_repeat_of, NoneBetween}
use Rattle.pppoe_session.proofs.Table.repeat_of.Given as goal

abbrev pub invariant-loop-session : goal.invariant-loop-session
invariant-loop-session l = NoneBetween 0 l.first (λ s. is_repeat_of l.mac l.uniq (subscriber_of l.self s))

abbrev pub decreases-loop-session : goal.decreases-loop-session
decreases-loop-session l = 2 ^ 16 - l.first
