use Rattle.std.proofs.Common.{◌≡◌, ap, sym, ◌∙◌}
use Rattle.std.specs.List.{remove}
use Rattle.session_book.specs.Books.{place}
use Rattle.session_book.proofs.Counts.{without_is_remove}
use Rattle.session_book.proofs.book.remove_tunnel.Goals as goal

pub returns-clause-items : goal.returns-clause-items
returns-clause-items c =
    let value = c.as_slice.ensures.value in
    let at : c.tunnel_place-at.result ≡ place (λ x. x.local) c.args.local c.args.tunnels.now.items = rw value at c.tunnel_place-at.ensures.place in
    c.remove.ensures.items ∙ ap (remove c.args.tunnels.now.items) at ∙ sym (without_is_remove (λ x. x.local) c.args.local c.args.tunnels.now.items c.requires.in_order c.requires.there)
