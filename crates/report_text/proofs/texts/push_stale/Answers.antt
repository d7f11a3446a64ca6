use Rattle.std.proofs.lemmas.Result.{on_ok_weaker}
use Rattle.report_text.proofs.NumberedText.{stale_is}
use Rattle.report_text.proofs.texts.push_stale.Goals as goal

pub returns : goal.returns
returns c =
    on_ok_weaker c.push_slice.result (λ line. stale_is c.args.out.now _ _ _ _ c.args.line c.args.packet_epoch c.args.own_epoch c.in_ok-push_numbered.ensures c.in_ok-push_numbered-2.ensures c.in_ok-push_numbered-3.ensures line) c.push_slice.ensures.ok
