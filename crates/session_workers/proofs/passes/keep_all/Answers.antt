use Rattle.std.proofs.Common.{ap, sym, ◌∙◌}
use Rattle.session_cells.specs.declared.row.Cells.{Cells}
use Rattle.session_cells.specs.Tokens.{log_of}
use Rattle.session_workers.proofs.Opening.{one_more}
use Rattle.session_workers.proofs.passes.keep_all.Goals as goal

pub loop-tunnel-preserved : goal.loop-tunnel-preserved
loop-tunnel-preserved g c =
    let e = c.keep.ensures in
    let before = c.loop-tunnel.invariant in (
      e.cells ∙ before.0,
      e.later.0 ∙ sym (ap (λ (x : Cells). x.first.book) e.cells),
      one_more c.loop-tunnel.yielded c.in-Some.tunnel (log_of c.loop-tunnel.seen) (log_of c.keep.new.seen) e.later.1 before.2 e.entered,
    )
