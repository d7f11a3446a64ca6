use Rattle.lcp_end.proofs.Lengths.{asked_is_short}
use Rattle.lcp_end.proofs.options.asked.Goals as goal

pub returns-clause-short : goal.returns-clause-short
returns-clause-short c =
    rw (c.in_ok-write_own_magic.ensures, c.in_ok-write_own_mru.ensures, c.new-body.ensures) (asked_is_short c.args.mru c.args.magic)
