use Rattle.std.proofs.Common.{refl}
use Rattle.std.proofs.lemmas.Result.{on_ok_weaker}
use Rattle.port_turn.proofs.opening.open.Goals as goal

pub returns-clause-ok : goal.returns-clause-ok
returns-clause-ok g c =
    let e = c.feed.ensures in
    on_ok_weaker c.feed.result (λ fed. record {
      now = c.now-now.result;
      moment_is = c.now-now.ensures.told;
      clock_is = c.now-now.ensures.next;
      fed = fed;
      waits = rw (e.link_waits, e.ether_waits, e.up_waits) refl;
      asks = rw (e.link_asked, e.ether_asked, e.up_asked) refl;
    }) e.ok
