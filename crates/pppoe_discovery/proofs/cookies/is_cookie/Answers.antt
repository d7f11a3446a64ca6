-- the goal is answered here so that a wrong body is refused without a second search
use Rattle.std.proofs.Common.{rules}
use Rattle.pppoe_discovery.proofs.cookies.is_cookie.Goals as goal

pub returns-in-Some : goal.returns-in-Some
returns-in-Some c = search rules
