use Rattle.std.proofs.Common.{◌≡◌, ℕ, ◌++◌, codes, subst}
use Rattle.std.proofs.lemmas.Result.{on_ok_weaker}
use Rattle.std.specs.Fmt.{decimal}
use Rattle.report_text.proofs.StoreText.{store_full_is}
use Rattle.report_text.proofs.texts.push_store_full.Goals as goal

pub returns : goal.returns
returns c =
    let counted = subst (λ (n : ℕ). c.push_numbered.new.out ≡ c.args.out.now ++ codes "store full: " ++ decimal n) c.from.ensures c.in_ok-push_numbered.ensures in
    on_ok_weaker c.push_slice.result (λ line. store_full_is c.args.out.now _ _ c.args.records counted line) c.push_slice.ensures.ok
