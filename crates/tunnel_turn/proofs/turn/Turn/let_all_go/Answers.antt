use Rattle.std.proofs.Common.{◌≡◌, ℕ, zero, suc, ◌-◌, ◌<◌, true, List, refl, ◌∙◌, arith, rules}
use Rattle.wire_base.specs.declared.letter.Letter.{Letter}
use Rattle.control_channel.specs.Numbers.{next_to_go}
use Rattle.end_model.specs.Tunnels.{Turn}
use Rattle.end_model.specs.Sending.{lets_all_go, goes_by}
use Rattle.tunnel_turn.specs.Gives.{WentBy}
use Rattle.tunnel_turn.proofs.turn.Turn.let_all_go.Goals as goal

-- one letter went out, and so many at most are left to go
one_more : (letters : List Letter) (most : ℕ) (old new : Turn) → 0 < most → WentBy true letters (next_to_go old.control.channel) old new → lets_all_go (most - 1) letters new ≡ lets_all_go most letters old
unfolding lets_all_go goes_by
one_more letters zero old new lt h = absurd (omega (arith, lt))
one_more letters (suc n) old new lt h =
    let left : suc n - 1 ≡ n = omega arith in
    rw (left, h.1, h.2) refl

pub loop-most-preserved : goal.loop-most-preserved
loop-most-preserved c =
    let went : c.in_ok-let_one_go.field-0 ≡ true = search rules in
    let h = rw went at c.in_ok-let_one_go.ensures in
    one_more c.args.letters.now.letters c.loop-most.most c.loop-most.self c.let_one_go.new.self c.loop-most-test.true h ∙ c.loop-most.invariant
