use Rattle.std.proofs.Common.{◌∙◌, ◌++◌, [], ℕ, List, get_or, ap}
use Rattle.checkpoint_journal.proofs.Compacts.{spelled_more, each_more}
use Rattle.checkpoint_journal.proofs.compaction.spell_area.Goals as goal

pub loop-content-preserved : goal.loop-content-preserved
loop-content-preserved c =
    let inv = c.loop-content.invariant in
    let i = c.loop-content.content-index in
    record {
      so_far = c.in_ok-push_slice-2.ensures.ok ∙ ap (λ (l : List ℕ). l ++ get_or c.args.contents.now i []) c.in_ok-push_slice.ensures.ok
          ∙ spelled_more c.args.contents.now i c.loop-content.area c.loop-content-test.true inv.so_far;
      each = each_more c.args.contents.now i c.loop-content-test.true inv.each (c.told-contents i c.loop-content-test.true);
    }
