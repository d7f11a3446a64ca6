use Rattle.std.proofs.Common.{◌≡◌, Option, Ok, length, ap, subst, ◌∙◌, arith}
use Rattle.std.specs.Prelude.{IfOk, IfSome}
use Rattle.disk_core.specs.Memory.{Store}
use Rattle.checkpoint_journal.specs.Format.{opens}
use Rattle.checkpoint_journal.proofs.Parts.{most_is}
use Rattle.end_store.specs.Stored.{Stored, reads}
use Rattle.world_checkpoint.proofs.Crashes.{has_first}
use Rattle.world_checkpoint.proofs.Folds.{one_at_most, cuts_last}
use Rattle.world_checkpoint.proofs.stopping.stop_at.Goals as goal

pub returns-in-Some-clause-cut : goal.returns-in-Some-clause-cut
returns-in-Some-clause-cut c =
    let rs = c.args.last.now in
    let s = c.args.store.now in
    let kind = c.kind-kind.result in
    let number = c.number-number.result in
    let image = c.in_ok-disk.disk.held.bytes in
    let same = ap (λ (s : Store). s.held.bytes) c.in_ok-disk.ensures ∙ c.in_ok-image.ensures ∙ c.bytes.ensures in
    let book = subst (λ (o : Option (Stored × Store)). IfSome o (λ p. reads kind number image ≡ Ok p.0.kept)) c.in-Some.is c.in_ok-left.ensures.book in
    let count = subst (λ (o : Option (Stored × Store)). IfSome o (λ p. IfOk (opens kind number image) (λ cs. length cs ≡ p.0.journal.records))) c.in-Some.is c.in_ok-left.ensures.count in
    let few = one_at_most c.args.armed.stop.kept s.kept rs c.requires.one in
    let fits = c.requires.room.few in
    cuts_last c.args.armed.stop.kept rs s c.in-Some.left
    (has_first s c.in-Some.left rs kind number image c.commit_and_crash.new.disk.disk.store.held.bytes c.kind-kind.ensures c.number-number.ensures same c.commit_and_crash.ensures book count)
    (omega (arith, c.if-records-due.true, c.records.ensures, c.due_with-due.ensures, few, fits, most_is))
