use Rattle.std.proofs.Common.{length, ap, ◌∙◌}
use Rattle.session_book.specs.Books.{Held, Kept, calls_of}
use Rattle.session_book.proofs.Counts.{counted}
use Rattle.session_book.proofs.book.Book.count.Goals as goal

pub returns : goal.returns
returns c =
    let inside = c.self.inside in
    let kept : Kept = record {
      tunnel_ceiling = inside.tunnel_ceiling;
      session_ceiling = inside.session_ceiling;
      draw_ceiling = inside.draw_ceiling;
      tunnels = inside.tunnels.items;
      calls = inside.calls.items;
    } in
    let tunnels = c.as_slice.ensures.value in
    let counts = c.as_slice-2.ensures.value in
    counted kept inside.counts.items c.self.invariant.counted.each c.self.invariant.whole c.args.tunnel c.count_of.result
    (rw counts at (rw tunnels at c.count_of.ensures.there)) (rw tunnels at c.count_of.ensures.none)
    ∙ ap (λ (h : Held). length (calls_of c.args.tunnel h.kept.calls)) c.self.view_is
