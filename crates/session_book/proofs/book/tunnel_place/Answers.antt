use Rattle.std.proofs.Common.{rules, ltb, arith}
use Rattle.std.proofs.lemmas.List.Sorted.{IsPartitionPoint-from_clause, IsPartitionedBy-ltb}
use Rattle.session_book.proofs.Orders.{prefix_at, non_decreasing}
use Rattle.session_book.proofs.Counts.{there_within}
use Rattle.session_book.proofs.book.tunnel_place.Goals as goal

pub returns-clause-parted : goal.returns-clause-parted
returns-clause-parted c =
    let parted = IsPartitionedBy-ltb (λ p. p.local) _ c.args.local (non_decreasing (λ p. p.local) _ c.requires) in
    IsPartitionPoint-from_clause (λ p. ltb p.local c.args.local) _ _ c.partition_point.ensures.partitioned parted (λ a r q k. search rules)

pub returns-clause-place : goal.returns-clause-place
returns-clause-place c = prefix_at _ _ _ c.partition_point.ensures.bound (returns-clause-parted c)

pub returns-clause-there : goal.returns-clause-there
returns-clause-there c = λ is. (let at = returns-clause-place c in let within = there_within (λ p. p.local) c.args.local _ is in omega arith)
