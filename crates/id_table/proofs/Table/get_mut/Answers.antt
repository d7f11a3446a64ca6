use Rattle.std.proofs.Common.{Some, None, ap, inl, inr, ◌∙◌}
use Rattle.std.proofs.Math.Path.{fun_ext}
use Rattle.std.specs.Option.{option_copied_mut}
use Rattle.id_table.proofs.Filled.{value_shown, lent_shown, lent_counted, left_shown, left_counted}
use Rattle.id_table.proofs.Table.get_mut.Goals as goal

pub returns-in_err-self-inside : goal.returns-in_err-self-inside
returns-in_err-self-inside g c =
    let value = value_shown c.args.self.now c.self.inside.kept.entries c.args.id c.self.view_is c.self.invariant.0 None _ c.in_err-self-inside.ensures.value (ap option_copied_mut c.from_residual.ensures) in
    (rw (c.from_residual.ensures, c.get_mut.follows.holds-at-none) (ap (λ t. inr t) c.self.view_is), record { lends = tt; value = value })

pub invariant_of-self-in_err-value : goal.invariant_of-self-in_err-value
invariant_of-self-in_err-value g c =
    let is = c.get_mut.follows.holds c.in_ok-self-inside.field-0.now in
    (is.4, left_counted c.args.self.now c.self.inside.kept.entries c.args.id c.self.view_is c.in_ok-self-inside.field-0.now (c.get_mut.follows.lender c.in_ok-self-inside.field-0.now).entries c.in_ok-self-inside.ensures.value is.0 _ c.self.invariant.1)

pub returns-in_err-value : goal.returns-in_err-value
returns-in_err-value g c =
    let is = c.get_mut.follows.holds c.in_ok-self-inside.field-0.now in
    let kept = left_shown c.args.self.now c.self.inside.kept.entries c.args.id c.self.view_is c.in_ok-self-inside.field-0.now (c.get_mut.follows.lender c.in_ok-self-inside.field-0.now).entries c.in_ok-self-inside.ensures.value is.0 in
    let value = value_shown c.args.self.now c.self.inside.kept.entries c.args.id c.self.view_is c.self.invariant.0 (Some c.in_ok-self-inside.field-0.now) _ c.in_ok-self-inside.ensures.value (ap option_copied_mut c.from_residual-in_err-value.ensures ∙ c.in_err-value.ensures.value) in
    (rw c.from_residual-in_err-value.ensures (ap (λ t. inr t) kept), record { lends = tt; value = value })

pub invariant_of-self-lent : goal.invariant_of-self-lent
invariant_of-self-lent g c w =
    let is = c.get_mut.follows.holds (Some w) in
    (is.4, lent_counted c.args.self.now c.self.inside.kept.entries c.args.id c.self.view_is c.self.invariant.0 _ _ w _ c.in_ok-self-inside.ensures.value c.in_ok-value.ensures.value is.0 _ c.self.invariant.1)

pub returns : goal.returns
returns g c =
    let value = value_shown c.args.self.now c.self.inside.kept.entries c.args.id c.self.view_is c.self.invariant.0 _ _ c.in_ok-self-inside.ensures.value c.in_ok-value.ensures.value in
    let kept = fun_ext (λ w. let is = c.get_mut.follows.holds (Some w) in
    lent_shown c.args.self.now c.self.inside.kept.entries c.args.id c.self.view_is c.self.invariant.0 _ _ w _ c.in_ok-self-inside.ensures.value c.in_ok-value.ensures.value is.0 is.1) in
    (ap (λ f. inl (c.in_ok-value.value.ghost_name, f)) kept, record { lends = tt; value = value })
