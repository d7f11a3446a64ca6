use Rattle.std.proofs.Common.{rules, sym, ◌∙◌, ◌≡◌, length}
use Rattle.report_text.proofs.HexText.{goes_on, ends}
use Rattle.report_text.proofs.texts.push_hex.Goals as goal

pub loop-left-preserved : goal.loop-left-preserved
loop-left-preserved c =
    goes_on c.loop-left.out c.push_hex_piece.new.out c.loop-left.left.now c.split_at.result.0.now c.split_at.result.1.now c.min.result c.split_at.ensures.front c.split_at.ensures.back c.in_ok-push_hex_piece.ensures ∙ c.loop-left.invariant

pub returns : goal.returns
returns c =
    let none : length c.loop-left.left.now ≡ 0 = search rules in
    sym (ends c.loop-left.out c.loop-left.left.now none) ∙ c.loop-left.invariant
