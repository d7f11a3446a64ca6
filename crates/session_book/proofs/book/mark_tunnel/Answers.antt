use Rattle.std.proofs.Common.{get_or, sym, ap, ◌∙◌}
use Rattle.std.specs.Prelude.{slice_set}
use Rattle.session_book.specs.declared.record.BookTunnel.{BookTunnel}
use Rattle.session_book.proofs.Counts.{marked_at}
use Rattle.session_book.proofs.book.mark_tunnel.Goals as goal

pub returns-clause-items : goal.returns-clause-items
returns-clause-items c =
    let items = c.args.tunnels.now.items in
    let tunnel = c.index_mut.result.now in
    let place = rw c.as_slice.ensures.value at c.tunnel_place-at.ensures.place in
    sym (marked_at c.args.local c.args.mark items tunnel c.requires.in_order c.requires.there
    ∙ ap (λ n. slice_set items n (record (get_or items n tunnel) { mark = c.args.mark })) (sym place)
    ∙ ap (λ (t : BookTunnel). slice_set items c.tunnel_place-at.result (record t { mark = c.args.mark })) (sym c.index_mut.ensures.value))
