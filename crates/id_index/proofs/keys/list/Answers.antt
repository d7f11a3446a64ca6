use Rattle.std.proofs.Common.{sym, ◌∙◌}
use Rattle.id_index.proofs.Listing.{put_lists, from_ok}
use Rattle.id_index.proofs.keys.list.Goals as goal

pub returns : goal.returns
returns c listed k =
    rw c.in-Some.is
    (put_lists c.args.id c.in-Some.label c.key.result c.args.keys.now.entries c.insert.new.self.entries c.key.ensures
    (from_ok c.insert.result (sym c.is_ok.ensures.value ∙ listed) c.insert.ensures.entries) k)
