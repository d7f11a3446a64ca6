use Rattle.std.proofs.Common.{◌≡◌, ◌∙◌, ◌-◌, ℕ, take, drop, ap, arith}
use Rattle.std.proofs.lemmas.Result.{IfOk-weaker}
use Rattle.std.proofs.lemmas.Option.{IfSome_then}
use Rattle.world_checkpoint.proofs.Folds.{cuts_off}
use Rattle.world_checkpoint.proofs.stopping.stop_copy.Goals as goal

pub returns-clause-cut : goal.returns-clause-cut
returns-clause-cut c =
    let rs = c.args.records.now in
    let commit = c.args.armed.stop.commit in
    let reached : c.split_at.result.0.now ≡ take commit rs = c.split_at.ensures.front ∙ ap (λ (n : ℕ). take n rs) c.from-count.ensures in
    let first : c.saturating_sub.result ≡ commit - 1 = omega (arith, c.saturating_sub.ensures, c.from-count.ensures) in
    let front : c.split_at-2.result.0.now ≡ take (commit - 1) (take commit rs) =
    c.split_at-2.ensures.front ∙ ap (λ (n : ℕ). take n c.split_at.result.0.now) first ∙ ap (take (commit - 1)) reached
    in
    let back : c.split_at-2.result.1.now ≡ drop (commit - 1) (take commit rs) =
    c.split_at-2.ensures.back ∙ ap (λ (n : ℕ). drop n c.split_at.result.0.now) first ∙ ap (drop (commit - 1)) reached
    in
    let first = c.in_ok-commit_before.ensures.more c.if-not-branch.false in
    IfOk-weaker c.stop_at.result _ _
    (λ left last. IfSome_then left last (λ p h. cuts_off c.args.armed.stop.kept commit rs c.split_at-2.result.0.now c.split_at-2.result.1.now c.args.store.now c.commit_before.new.store p.0 front back first h))
    c.stop_at.ensures.cut
