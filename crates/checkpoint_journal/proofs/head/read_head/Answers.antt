use Rattle.std.proofs.Common.{◌∙◌, ap, sym, take, List, ℕ}
use Rattle.std.proofs.lemmas.Option.{IfSome_then}
use Rattle.checkpoint_journal.specs.Format.{head_of}
use Rattle.checkpoint_journal.proofs.Fresh.{head_of-take}
use Rattle.checkpoint_journal.proofs.head.read_head.Goals as goal

pub returns-in-Ok-clause-read : goal.returns-in-Ok-clause-read
returns-in-Ok-clause-read g c = IfSome_then (g.D.Disk.holds c.args.disk.now) c.in_ok-count.ensures.front (λ held front.
    sym (ap (head_of c.args.kind c.args.number) (c.split_at.ensures.front ∙ ap (λ (l : List ℕ). take c.in_ok-count.count l) c.as_slice.ensures ∙ front)
    ∙ head_of-take c.args.kind c.args.number held.bytes)
    ∙ sym c.judge.ensures.head ∙ c.in-Ok.is)

pub returns-in-Err-clause-read : goal.returns-in-Err-clause-read
returns-in-Err-clause-read g c = IfSome_then (g.D.Disk.holds c.args.disk.now) c.in_ok-count.ensures.front (λ held front.
    sym (ap (head_of c.args.kind c.args.number) (c.split_at.ensures.front ∙ ap (λ (l : List ℕ). take c.in_ok-count.count l) c.as_slice.ensures ∙ front)
    ∙ head_of-take c.args.kind c.args.number held.bytes)
    ∙ sym c.judge.ensures.head ∙ c.in-Err.is)
