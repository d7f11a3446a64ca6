use Rattle.std.proofs.Common.{ℕ, List, sym, subst, ◌∙◌}
use Rattle.std.proofs.lemmas.Result.{IfOk-weaker}
use Rattle.std.specs.Prelude.{IfOk, IsSome}
use Rattle.std.specs.List.{AllByRecursion}
use Rattle.std.specs.List.Sorted.{IsStrictlySortedBy}
use Rattle.std.specs.Ordering.{nat_cmp}
use Rattle.id_table.specs.Ids.{at, ids_of}
use Rattle.id_table.specs.Tables.{Kept}
use Rattle.tunnel_core.specs.Cores.{Core}
use Rattle.tunnel_timers.specs.Due.{IsEarly, LeavesOut}
use Rattle.tunnel_timers.specs.Bounds.{all_early, all_left_out}
use Rattle.tunnel_table.specs.Tunnels.{tunnels_of, ids_tunnels}
use Rattle.tunnel_table.proofs.Waiting.{left_ascend, left_there}
use Rattle.tunnel_table.proofs.table.TunnelTable.ids_due.Goals as goal

pub returns-then-moment-self-clause-others : goal.returns-then-moment-self-clause-others
returns-then-moment-self-clause-others c =
    let ts = tunnels_of c.self.inside.table.entries in
    let none : LeavesOut (IsEarly ts c.args.moment) (ids_of ts) c.new.result = subst (λ (js : List ℕ). LeavesOut (IsEarly ts c.args.moment) (ids_of ts) js) (sym c.new.ensures)
    (all_left_out (IsEarly ts c.args.moment) (ids_of ts) (all_early c.self.inside.due c.args.moment ts c.self.invariant.1 c.if-moment-self.true)) in
    subst (λ (k : Kept Core). LeavesOut (IsEarly (tunnels_of k.entries) c.args.moment) (ids_of (tunnels_of k.entries)) c.new.result) c.self.view_is none

pub returns-then-moment-self-clause-ascend : goal.returns-then-moment-self-clause-ascend
unfolding IsStrictlySortedBy
returns-then-moment-self-clause-ascend c = subst (λ (js : List ℕ). IsStrictlySortedBy nat_cmp js) (sym c.new.ensures) tt

pub returns-clause-others : goal.returns-clause-others
returns-clause-others c =
    let es = c.self.inside.table.entries in
    let are = c.as_slice.ensures ∙ c.in_ok-ids.ensures.all ∙ sym (ids_tunnels es) in
    subst (λ (k : Kept Core). IfOk c.those_due.result (λ js. LeavesOut (IsEarly (tunnels_of k.entries) c.args.moment) (ids_of (tunnels_of k.entries)) js)) c.self.view_is
    (subst (λ (is : List ℕ). IfOk c.those_due.result (λ js. LeavesOut (IsEarly (tunnels_of es) c.args.moment) is js)) are c.those_due.ensures)

pub returns-clause-ascend : goal.returns-clause-ascend
returns-clause-ascend c =
    IfOk-weaker c.those_due.result _ _
    (λ js h. left_ascend c.self.inside.table.entries c.args.moment c.as_slice.result.now js (c.as_slice.ensures ∙ c.in_ok-ids.ensures.all) (subst (λ (is : List ℕ). IsStrictlySortedBy nat_cmp is) (sym c.as_slice.ensures) c.in_ok-ids.ensures.ascend) h)
    c.those_due.ensures

pub returns-clause-there : goal.returns-clause-there
returns-clause-there c =
    subst (λ (k : Kept Core). IfOk c.those_due.result (λ js. AllByRecursion (λ i. IsSome (at (tunnels_of k.entries) i)) js)) c.self.view_is
    (IfOk-weaker c.those_due.result _ _
    (λ js h. left_there c.self.inside.table.entries c.args.moment c.as_slice.result.now js (c.as_slice.ensures ∙ c.in_ok-ids.ensures.all) c.self.invariant.0.ascend h)
    c.those_due.ensures)
