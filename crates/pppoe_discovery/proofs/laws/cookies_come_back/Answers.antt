use Rattle.pppoe_discovery.proofs.Admitted.{takes_back, admits_cookies}
use Rattle.pppoe_discovery.proofs.laws.cookies_come_back.Goals as goal

pub returns-clause-taken : goal.returns-clause-taken
returns-clause-taken c = takes_back

pub returns-clause-only : goal.returns-clause-only
returns-clause-only c = admits_cookies
