use Rattle.std.proofs.Common.{◌≡◌, ℕ, List, codes, OnOk, subst, append_assoc}
use Rattle.schedule_text.specs.Grammar.{call_text}
use Rattle.schedule_writing.proofs.writing.push_line.Goals as goal

pub returns-in-FromSub : goal.returns-in-FromSub
returns-in-FromSub c =
    let same = append_assoc c.args.out.now (codes "data ") (call_text c.in-FromSub.node c.in-FromSub.session c.in-FromSub.frame) in
    rw c.in-FromSub.is (subst (λ (t : List ℕ). OnOk c.push_call.result (c.push_call.new.out ≡ t)) same c.push_call.ensures)
