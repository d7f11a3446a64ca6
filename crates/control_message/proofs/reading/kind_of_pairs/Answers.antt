use Rattle.std.proofs.Common.{subst, sym}
use Rattle.std.specs.Prelude.{Option, IfSome, IsNone}
use Rattle.control_message.specs.declared.kind.Kind.{Kind}
use Rattle.control_message.specs.Faults.{IsOfKind}
use Rattle.control_message.proofs.Laws.{kind_there, no_kind, kind_none}
use Rattle.control_message.proofs.reading.kind_of_pairs.Goals as goal

pub returns-clause-found : goal.returns-clause-found
returns-clause-found c = let avps = c.args.avps.now in subst (λ (o : Option Kind). IfSome o (λ k. IsOfKind c.args.known avps k)) (sym c.type_kind.ensures) (kind_there c.args.known avps)

pub returns-clause-none : goal.returns-clause-none
returns-clause-none c =
    let avps = c.args.avps.now in
    (λ h. no_kind c.args.known avps (subst (λ (o : Option Kind). IsNone o) c.type_kind.ensures h), λ h. subst (λ (o : Option Kind). IsNone o) (sym c.type_kind.ensures) (kind_none c.args.known avps h))
