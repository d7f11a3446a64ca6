use Rattle.std.proofs.Common.{sym, ap, ◌∙◌}
use Rattle.std.specs.Prelude.{Some, option_map}
use Rattle.tunnel_core.specs.Cores.{tunnel_of, made_of}
use Rattle.tunnel_table.specs.Labels.{labels_of}
use Rattle.tunnel_table.proofs.Listing.{kept_stays}
use Rattle.tunnel_table.proofs.indexes.Indexes.list_after.Goals as goal

pub returns-then-stays_labelled : goal.returns-then-stays_labelled
returns-then-stays_labelled c ts kept there =
    kept_stays c.args.self.now ts c.args.id c.args.planned.now (tunnel_of c.args.core.now) c.ranges.id.fits there
    (c.stays_labelled.ensures c.if-stays_labelled.true) kept

pub returns : goal.returns
returns c ts kept there =
    c.list.ensures ts (made_of c.args.planned.now (tunnel_of c.args.core.now)) kept
    (ap (option_map labels_of) there ∙ ap Some (sym c.labels_of.ensures.value))
    (sym c.labels_after-after.ensures.value) c.labels_after-after.ensures.small
