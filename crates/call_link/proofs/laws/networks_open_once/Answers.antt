use Rattle.call_link.specs.Told.{each_tells_opening}
use Rattle.call_link.proofs.Opening.{each_opens_once}
use Rattle.call_link.proofs.laws.networks_open_once.Goals as goal

pub returns-clause-told : goal.returns-clause-told
returns-clause-told c = each_tells_opening

pub returns-clause-once : goal.returns-clause-once
returns-clause-once c = each_opens_once
