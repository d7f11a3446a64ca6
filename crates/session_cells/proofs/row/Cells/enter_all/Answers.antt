use Rattle.std.proofs.Common.{◌≡◌, ◌+◌, ◌++◌, ◌∷◌, [], get_or, take, subst, sym}
use Rattle.std.proofs.lemmas.List.{take_more}
use Rattle.session_looks.specs.declared.look.CellChange.{CellChange}
use Rattle.session_looks.specs.declared.look.CellChange.TheVariants as cell
use Rattle.session_cells.specs.Logs.{AllEntered}
use Rattle.session_cells.specs.Changes.{entries_of}
use Rattle.session_cells.specs.Tokens.{log_of}
use Rattle.session_cells.proofs.Prefixes.{prefix_self, prefix_trans}
use Rattle.session_cells.proofs.Stories.{none_entered, binds_so_far, change_more}
use Rattle.session_cells.proofs.row.Cells.enter_all.Goals as goal

pub loop-change-init : goal.loop-change-init
loop-change-init c = ((c.requires.of, prefix_self (log_of c.args.seen.now)), none_entered (log_of c.args.seen.now) (log_of c.args.seen.now))

pub loop-change-preserved : goal.loop-change-preserved
loop-change-preserved c =
    let old = log_of c.args.seen.now in
    let changes = c.args.changes.now in
    let v = log_of c.loop-change.seen in
    let w = log_of c.enter.new.seen in
    let i = c.loop-change.change-index in
    let d : CellChange = get_or changes i (cell.Bind 0 0 0) in
    let inv = c.loop-change.invariant in
    let later = c.enter.ensures.later in
    let more : take (i + 1) changes ≡ take i changes ++ d ∷ [] = take_more changes i (cell.Bind 0 0 0) c.loop-change-test.true in (
      (later.0, prefix_trans old v w inv.0.1 later.1),
      subst (λ xs. AllEntered old (entries_of xs) w) (sym more)
          (change_more d (take i changes) old v w later.1 inv.1 (c.enter.ensures.entered old (entries_of (take i changes)) inv.0.1 (binds_so_far old (entries_of (take i changes)) v inv.1))),
    )
