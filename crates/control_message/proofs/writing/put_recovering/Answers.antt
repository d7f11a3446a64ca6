use Rattle.std.proofs.Common.{◌++◌}
use Rattle.control_message.specs.Pairs.{recovery_pairs, suggested_pairs, draw_pairs}
use Rattle.control_message.proofs.Spelled.{grown_twice}
use Rattle.control_message.proofs.writing.put_recovering.Goals as goal

pub returns : goal.returns
returns c =
    let o = c.args.opening.now in
    let r = recovery_pairs o.recovery in
    let s = suggested_pairs o.suggested in
    let both = grown_twice c.args.out.now _ _ r s c.in_ok-put_recovery.ensures c.in_ok-put_suggested.ensures in
    grown_twice c.args.out.now _ _ (r ++ s) (draw_pairs o.attempt) both c.in_ok-put_draw.ensures
