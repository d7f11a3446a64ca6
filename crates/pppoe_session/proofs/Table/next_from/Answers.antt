use Rattle.std.proofs.Common.{sym, ◌∙◌, ◌^◌}
use Rattle.pppoe_session.proofs.Index.{next_none, next_other, next_same}
use Rattle.pppoe_session.proofs.Table.next_from.Goals as goal

pub returns-in_default-clause-none : goal.returns-in_default-clause-none
returns-in_default-clause-none c = next_none c.args.self.now c.args.mac c.args.first c.in_default.ensures.none (2 ^ 16)

pub returns-then-eq-clause-some : goal.returns-then-eq-clause-some
returns-then-eq-clause-some c = next_same c.args.self.now c.args.mac c.args.first c.in-Some.pair c.in-Some.ensures.some (sym c.eq.ensures ∙ c.if-eq.true)

pub returns-else-eq-clause-none : goal.returns-else-eq-clause-none
returns-else-eq-clause-none c = next_other c.args.self.now c.args.mac c.args.first c.in-Some.pair c.in-Some.ensures.some (sym c.eq.ensures ∙ c.if-eq.false) (2 ^ 16)
