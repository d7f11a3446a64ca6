use Rattle.pppoe_discovery.proofs.Sizes.{asked_short}
use Rattle.pppoe_discovery.proofs.taking.on_request.Goals as goal

pub on_padi-requires-clause-short : goal.on_padi-requires-clause-short
on_padi-requires-clause-short c = rw (c.in_ok-asked.ensures, c.as_slice-2.ensures) (asked_short c.as_slice.result.now c.in-Ok.tags c.in-Ok.ensures.found (rw c.as_slice.ensures c.requires.short))

pub on_padr-requires : goal.on_padr-requires
on_padr-requires c = rw (c.in_ok-asked.ensures, c.as_slice-2.ensures) (asked_short c.as_slice.result.now c.in-Ok.tags c.in-Ok.ensures.found (rw c.as_slice.ensures c.requires.short))
