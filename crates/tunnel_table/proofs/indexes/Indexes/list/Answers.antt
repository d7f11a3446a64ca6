use Rattle.std.specs.Prelude.{Some}
use Rattle.tunnel_table.proofs.Listing.{kept_put, same_labels}
use Rattle.tunnel_table.proofs.indexes.Indexes.list.Goals as goal

pub returns-then-has_labels : goal.returns-then-has_labels
returns-then-has_labels c ts t kept was is small =
    kept_put c.args.self.now c.args.self.now ts c.args.id c.args.before.now c.args.after.now t c.ranges.id.fits was is small
    (same_labels c.args.self.now c.args.id c.args.before.now (Some c.args.after.now) (c.has_labels.ensures c.if-has_labels.true)) kept

pub returns : goal.returns
returns c ts t kept was is small =
    kept_put c.args.self.now c.relabel.new.self ts c.args.id c.args.before.now c.args.after.now t c.ranges.id.fits was is small c.relabel.ensures kept
