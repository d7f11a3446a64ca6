use Rattle.std.proofs.Common.{◌∙◌, ap, take, drop, List, ℕ}
use Rattle.std.proofs.lemmas.Option.{IfSome_then}
use Rattle.checkpoint_journal.specs.Found.{found_at}
use Rattle.checkpoint_journal.proofs.Walk.{found_at-take}
use Rattle.checkpoint_journal.proofs.area.read_gate.Goals as goal

pub returns-clause-found : goal.returns-clause-found
returns-clause-found g c = IfSome_then (g.D.Disk.holds c.args.disk.now) c.in_ok-count.ensures.front (λ held front.
    c.found_in.ensures ∙ ap found_at (c.split_at.ensures.front ∙ ap (λ (l : List ℕ). take c.in_ok-count.count l) c.as_slice.ensures ∙ front)
    ∙ found_at-take (drop c.args.at held.bytes))
