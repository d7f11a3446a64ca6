use Rattle.std.proofs.Common.{◌≡◌, Some, rules}
use Rattle.control_channel.specs.Channel.{next_to_go}
use Rattle.recovery_tunnel.specs.Either.{channel_of, lets_go}
use Rattle.tunnel_recovery.specs.Going.{letter_goes}
use Rattle.tunnel_recovery.proofs.Going.{went}
use Rattle.tunnel_recovery.proofs.sending.let_one_go.Goals as goal

pub returns : goal.returns
returns c =
    let r = c.args.recovery.now in
    let t = c.args.turn.now in
    let n = c.in-Some.number in
    let number : next_to_go (channel_of r) ≡ Some n = search rules in
    let after : c.pump.new.self ≡ lets_go t.on.moment r = search rules in
    let sent : c.send_letter.new.turn ≡ letter_goes c.pump.new.self n t = search rules in
    went r c.pump.new.self n t c.send_letter.new.turn number after sent
