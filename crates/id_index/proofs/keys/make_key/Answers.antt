use Rattle.std.proofs.Common.{sym, ◌∙◌}
use Rattle.id_index.proofs.Listing.{room_lists}
use Rattle.id_index.proofs.keys.make_key.Goals as goal

pub returns-in_ok-insert : goal.returns-in_ok-insert
returns-in_ok-insert c =
    room_lists c.key-key.result c.args.keys.now.entries c.insert.new.self.entries
    (sym c.contains_key.ensures ∙ c.if-not-contains_key.true) c.in_ok-insert.ensures.entries
