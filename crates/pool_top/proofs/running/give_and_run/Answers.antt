use Rattle.std.proofs.Common.{inl}
use Rattle.pool_top.proofs.Parts.{same_waits, same_asked, gave_part, gave_and_ran, ran_as, blamed_from}
use Rattle.pool_top.proofs.running.give_and_run.Goals as goal

pub returns-in-Err-clause-ran : goal.returns-in-Err-clause-ran
returns-in-Err-clause-ran g c =
    let p = c.in-Err.ensures in
    inl (
      _,
      c.of_giving-exit.ensures,
      gave_part _ _ p.err.0 _ _ _ _ _ _ _ _ p.err.1 p.err.2 (same_waits _ _ _ _ _ _ p.link_waits p.ether_waits p.up_waits) (same_asked _ _ _ _ _ _ p.link_asked p.ether_asked p.up_asked),
    )

pub returns-in-Ok-clause-ran : goal.returns-in-Ok-clause-ran
returns-in-Ok-clause-ran g c =
    let p = c.in-Ok.ensures in
    let n = c.node_pool-ended.ensures in
    ran_as _ _ _ _ _ _ _ _ _ _ _ c.answer_of-ran.ensures
    (gave_and_ran _ _ _ _ _ _ _ _ _ _ _ _ _ _ p.ok (same_waits _ _ _ _ _ _ p.link_waits p.ether_waits p.up_waits) (same_asked _ _ _ _ _ _ p.link_asked p.ether_asked p.up_asked) n.ran) n.cause

pub returns-in-Ok-clause-cause : goal.returns-in-Ok-clause-cause
returns-in-Ok-clause-cause g c =
    let p = c.in-Ok.ensures in
    let n = c.node_pool-ended.ensures in
    blamed_from _ _ _ _ _ _ _ _ _ _ _ _ c.answer_of-ran.ensures p.cause.0 p.cause.1 p.cause.2 n.cause
