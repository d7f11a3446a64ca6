use Rattle.std.proofs.Common.{ℕ, List, sym, get_or, take, subst, ◌∙◌, ◌++◌, ◌∷◌, []}
use Rattle.std.proofs.lemmas.List.{take_more}
use Rattle.tunnel_timers.specs.Due.{IsEarly, LeavesOut, NoneLeft}
use Rattle.tunnel_timers.specs.Bounds.{stays_last, waits_last}
use Rattle.tunnel_table.specs.Tunnels.{tunnels_of}
use Rattle.tunnel_table.proofs.table.those_due.Goals as goal
use Rattle.tunnel_table.proofs.table.those_due.Goals.{then-not-is_early+in_ok-push, else-not-is_early}

pub loop-id-init : goal.loop-id-init
loop-id-init c = subst (λ (js : List ℕ). LeavesOut (IsEarly (tunnels_of c.args.table.now.entries) c.args.moment) [] js) (sym c.new-due.ensures) NoneLeft

pub loop-id-preserved : goal.loop-id-preserved
loop-id-preserved c =
    let P = IsEarly (tunnels_of c.args.table.now.entries) c.args.moment in
    let ids = c.args.ids.now in
    let k = c.loop-id.id-index in
    let i = get_or ids k 0 in
    let done : LeavesOut P (take k ids ++ i ∷ []) c.if-not-is_early.due = elim c.if-not-is_early.branch [
      | then-not-is_early+in_ok-push w ↦ subst (λ (js : List ℕ). LeavesOut P (take k ids ++ i ∷ []) js) (sym (w.due-is ∙ w.in_ok-push.ensures.ok)) (stays_last P (take k ids) c.loop-id.due i c.loop-id.invariant)
      | else-not-is_early w ↦ subst (λ (js : List ℕ). LeavesOut P (take k ids ++ i ∷ []) js) (sym w.due-is) (waits_last P (take k ids) c.loop-id.due i (c.is_early.ensures w.if-not-is_early.false) c.loop-id.invariant)
    ] in
    subst (λ (is : List ℕ). LeavesOut P is c.if-not-is_early.due) (sym (take_more ids k 0 c.loop-id-test.true)) done
