use Rattle.id_index.specs.contracts.Index.{the_view as view_of}
use Rattle.std.proofs.Common.{true}
use Rattle.id_index.proofs.Listing.{none_listed}
use Rattle.id_index.proofs.Index.new.Goals as goal

pub returns : goal.returns
returns c labels empty = none_listed (view_of (record { keys = c.new.result; whole = true })) labels c.new.ensures.empty empty
