use Rattle.std.proofs.Common.{refl, List, ℕ}
use Rattle.l2tp_capture.proofs.Limits.{within_stops}
use Rattle.l2tp_capture.proofs.Ending.{shown, unread, none_added}
use Rattle.l2tp_capture.proofs.top.run.Goals as goal

pub returns-in-Ok : goal.returns-in-Ok
returns-in-Ok g c =
    shown c.in-Ok.text c.as_slice.result.now c.show.result _ c.as_slice.ensures (record { limit = c.in-Ok.ensures.within; left = c.in-Ok.ensures.whole; is_read = within_stops _ _ c.in-Ok.ensures.stops; same = c.in-Ok.ensures.cause }) c.show.ensures

pub returns-in-Err : goal.returns-in-Err
returns-in-Err g c =
    unread (List ℕ) c.in-Err.error c.warn_unread.result _ c.in-Err.ensures.too_long c.in-Err.ensures.stops c.in-Err.ensures.cause (refl, none_added _) c.warn_unread.ensures
