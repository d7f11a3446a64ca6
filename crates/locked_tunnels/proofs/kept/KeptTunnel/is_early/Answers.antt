use Rattle.std.proofs.Common.{◌<◌, arith}
use Rattle.std.proofs.lemmas.Bool.Decides.{nat_tests}
use Rattle.locked_tunnels.specs.Kept.{known}
use Rattle.locked_tunnels.proofs.Early.{ticks_idly}
use Rattle.locked_tunnels.proofs.kept.KeptTunnel.is_early.Goals as goal

pub returns : goal.returns
returns c early =
    let sooner : c.args.moment < c.due-due.result = grind (arith, nat_tests) in
    ticks_idly (known c.args.self.now) c.args.moment c.due-due.result c.due-due.ensures sooner c.early_ticks_do_nothing.ensures.turns c.early_ticks_do_nothing.ensures.recoveries
