use Rattle.std.proofs.Common.{Some, None, ap}
use Rattle.std.specs.Option.{option_copied}
use Rattle.id_table.proofs.Filled.{value_shown}
use Rattle.id_table.proofs.Table.get.Goals as goal

pub returns-in_err-get : goal.returns-in_err-get
returns-in_err-get g c =
    value_shown c.args.self.now c.self.inside.kept.entries c.args.id c.self.view_is c.self.invariant.0 None _ c.in_err-get.ensures.value (ap option_copied c.from_residual.ensures)

pub returns : goal.returns
returns g c =
    value_shown c.args.self.now c.self.inside.kept.entries c.args.id c.self.view_is c.self.invariant.0 (Some c.in_ok-get.field-0.now) _ c.in_ok-get.ensures.value c.as_ref.ensures.value
