use Rattle.std.proofs.lemmas.Result.{on_ok_weaker}
use Rattle.report_text.proofs.NumberedText.{half_space_is}
use Rattle.report_text.proofs.texts.push_half_space.Goals as goal

pub returns : goal.returns
returns c =
    on_ok_weaker c.push_slice.result (λ line. half_space_is c.args.out.now _ _ _ _ c.args.line c.args.number c.args.count c.in_ok-push_numbered.ensures c.in_ok-push_numbered-2.ensures c.in_ok-push_numbered-3.ensures line) c.push_slice.ensures.ok
