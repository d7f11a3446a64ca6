use Rattle.std.proofs.Common.{subst, sym}
use Rattle.std.specs.Prelude.{ℕ, Option, IfSome, IsNone}
use Rattle.control_message.specs.Grammar.{HasPlainShort}
use Rattle.control_message.proofs.Firsts.{plain_there, plain_none, none_plain}
use Rattle.control_message.proofs.finding.assigned_session.Goals as goal

pub returns-clause-found : goal.returns-clause-found
returns-clause-found c = let avps = c.args.avps.now in subst (λ (o : Option ℕ). IfSome o (λ x. HasPlainShort 14 x avps)) (sym c.plain_short.ensures) (plain_there 14 avps)

pub returns-clause-none : goal.returns-clause-none
returns-clause-none c =
    let avps = c.args.avps.now in
    (λ h. plain_none 14 avps (subst (λ (o : Option ℕ). IsNone o) c.plain_short.ensures h), λ h. subst (λ (o : Option ℕ). IsNone o) (sym c.plain_short.ensures) (none_plain 14 avps h))
