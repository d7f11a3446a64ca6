use Rattle.std.proofs.Common.{ap, refl, inr, ◌∙◌, ℕ, ◌+◌}
use Rattle.session_workers.specs.declared.item.Numbered.{Numbered}
use Rattle.session_workers.specs.Passes.{numbered}
use Rattle.session_workers.proofs.ItemMoves.{puts, tells, from_row}
use Rattle.session_workers.proofs.work.put.Goals as goal

pub push_as-requires-clause-rule : goal.push_as-requires-clause-rule
push_as-requires-clause-rule g c =
    let x = numbered (c.args.pass.now.puts + 1) c.args.item in (
      puts _ _ _ x c.requires.opener.opens (ap (λ (k : ℕ). k + 1) c.requires.opener.counts) (from_row _ c.args.shared.now.locked.cells.first.book x c.requires.of.row c.requires.seen.0),
      tells _ _,
    )

pub returns-in-Err-clause-full : goal.returns-in-Err-clause-full
returns-in-Err-clause-full g c = let h = c.in-Err.ensures.rule in (refl, ap (λ (q : Numbered). q.item) h.0, h.1, inr (h.2.0, h.2.1 ∙ c.args.shared.now.places, h.2.2))
