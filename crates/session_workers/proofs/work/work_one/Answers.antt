use Rattle.std.proofs.Common.{◌≡◌, ap, ◌∙◌}
use Rattle.session_workers.specs.declared.views.ItemView.{ItemView}
use Rattle.session_workers.specs.declared.views.FinishedView.{FinishedView}
use Rattle.session_workers.specs.Items.{name_in}
use Rattle.session_workers.proofs.ItemMoves.{takes, tells, same_row}
use Rattle.session_workers.proofs.work.work_one.Goals as goal

the_taken : (v w : ItemView) → v ≡ w → v.taken ≡ w.taken
the_taken v w e = ap (λ (x : ItemView). x.taken) e

pub pop_as-requires-clause-rule : goal.pop_as-requires-clause-rule
pop_as-requires-clause-rule g c = (takes _ _ c.requires.of.part, tells _ _)

pub seen_again-seen-requires : goal.seen_again-seen-requires
seen_again-seen-requires g c = same_row _ _ (c.in-Some.ensures.rule.0 (name_in c.args.shared.now.locked.cells.first.book) c.requires.of.row)

pub finish-done-requires : goal.finish-done-requires
finish-done-requires g c = record { of = ap (λ s. s.seen.book) c.seen_again-seen.ensures ∙ same_row _ _ (c.in-Some.ensures.rule.0 (name_in c.args.shared.now.locked.cells.first.book) c.requires.of.row) }

pub returns-clause-worked : goal.returns-clause-worked
returns-clause-worked g c = let h = c.in-Some.ensures.rule in ((h.1, h.3), the_taken _ _ h.4, h.5, ap (λ (v : FinishedView). v.made) c.note.ensures.noted, c.finish-done.ensures.later.0)
