use Rattle.std.proofs.Common.{refl, sym}
use Rattle.id_index.proofs.Listing.{same_option, relisted_same, relisted_changed}
use Rattle.id_index.proofs.keys.relist.Goals as goal

pub returns-then-eq : goal.returns-then-eq
returns-then-eq c listed =
    relisted_same c.args.keys.now.entries c.args.keys.now.entries c.args.id c.args.before c.args.after
    (same_option c.args.before c.args.after (sym c.if-eq.ensures)) refl

pub returns : goal.returns
returns c listed =
    relisted_changed c.args.keys.now.entries c.unlist.new.keys.entries c.list.new.keys.entries c.args.id c.args.before c.args.after
    c.ranges.id.fits c.unlist.ensures (c.list.ensures listed)
