use Rattle.std.proofs.Common.{subst, sym, ◌&&◌}
use Rattle.id_index.specs.contracts.Index.{the_view as view_of}
use Rattle.id_index.specs.Indexes.{Listing, Lists}
use Rattle.id_index.proofs.Listing.{both_true, relabelled}
use Rattle.id_index.proofs.Index.relabel.Goals as goal

pub returns : goal.returns
returns c labels next lists =
    relabelled (view_of c.self.inside) (view_of (record { keys = c.relist-listed.new.keys; whole = c.self.inside.whole && c.relist-listed.result }))
    c.args.id c.args.before c.args.after c.ranges.id.fits
    (λ whole. let both = both_true _ _ whole in (both.0, c.relist-listed.ensures both.1))
    labels next (subst (λ (x : Listing). Lists x labels) (sym c.self.view_is) lists)
