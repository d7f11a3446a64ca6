use Rattle.std.proofs.Common.{◌≡◌}
use Rattle.std.specs.List.{insert}
use Rattle.session_book.proofs.Orders.{put_rises}
use Rattle.session_book.proofs.book.put_call.Goals as goal

pub returns-clause-in_order : goal.returns-clause-in_order
returns-clause-in_order c =
    let value = c.as_slice.ensures.value in
    let place = c.call_place-at.ensures in
    let items : c.insert.new.self.items ≡ insert c.args.calls.now.items c.call_place-at.result c.args.call = rw c.in-Ok.is at c.insert.ensures.items in
    rw items (put_rises (λ t. t.local) _ _ _ (rw value at place.within) (rw value at place.parted) (rw value at place.place) c.requires.fresh c.requires.in_order)
