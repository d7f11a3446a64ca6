-- What a link gives tells whether LCP is open.
use Rattle.std.proofs.Common.{drop, sym}
use Rattle.lcp_end.specs.declared.state.EndState.{EndState}
use Rattle.lcp_end.specs.Steps.{is_opened}
use Rattle.lcp_end.specs.Laws.{OpenLink, OnTick, OnPacket, TellsOpen, EachTellsOpen}
use Rattle.call_link.specs.declared.env.LinkEnv.{LinkEnv}
use Rattle.call_link.specs.Turns.{LinkCall, Opens, Ticks, Hears, lcp_turn}
use Rattle.call_link.specs.Laws.{TellsLcp, EachTellsLcp}
use Rattle.call_link.specs.Calling.{by_called, and_true}

lcp_tells : EachTellsOpen → (e : LinkEnv) (c : LinkCall) (k : EndState) → TellsOpen k (lcp_turn e c k)
lcp_tells each e Opens k = each (OpenLink e.moment) k
lcp_tells each e Ticks k = each (OnTick e.moment) k
lcp_tells each e (Hears frame) k = each (OnPacket (drop 2 frame) e.block e.moment) k

pub each_tells_lcp : EachTellsOpen → EachTellsLcp
each_tells_lcp each e c l =
    let tells = lcp_tells each e c l.lcp in
    by_called (λ t. TellsLcp l t) e c l
    (λ h. record { opened = tells.opened; up = tells.up; down = tells.down })
    (λ h. record { opened = sym (and_true (is_opened l.lcp)); up = λ u. cc; down = λ u. cc })
