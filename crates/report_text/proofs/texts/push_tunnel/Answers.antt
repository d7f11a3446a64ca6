use Rattle.std.proofs.Common.{◌∙◌, ap, List, ℕ}
use Rattle.std.proofs.lemmas.Result.{on_ok_weaker}
use Rattle.world_model.specs.Texts.{◌&◌}
use Rattle.report_text.proofs.TunnelText.{tunnel_is}
use Rattle.report_text.proofs.texts.push_tunnel.Goals as goal

pub returns : goal.returns
returns c =
    let word = c.in_ok-push_word.ensures ∙ ap (λ (w : List ℕ). c.push_tunnel_ids.new.out & w) c.word.ensures in
    let mode = c.in_ok-push_word-2.ensures ∙ ap (λ (w : List ℕ). c.push_count.new.out & w) c.mode_word.ensures in
    let query = c.in_ok-push_word-3.ensures ∙ ap (λ (w : List ℕ). c.push_word-2.new.out & w) c.query_word.ensures in
    on_ok_weaker c.push_slice.result
    (λ line. tunnel_is c.args.out.now _ _ _ _ _ _ c.args.node c.args.tunnel.now c.args.epoch c.args.mode c.args.complete c.in_ok-push_tunnel_ids.ensures word c.in_ok-push_count.ensures mode query line)
    c.push_slice.ensures.ok
