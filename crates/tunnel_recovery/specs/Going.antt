-- The letters that a recovery tunnel lets go, one by one.
use Rattle.std.specs.Prelude.{◌≡◌, ℕ, Bool, true, false, Some, None}
use Rattle.send_window.specs.Outbox.{letter_at}
use Rattle.control_channel.specs.Channel.{next_to_go}
use Rattle.recovery_tunnel.specs.Either.{channel_of, lets_go}
use Rattle.end_model.specs.Tunnels.{Turn, Recovering, connection_of, with_connection}
use Rattle.end_model.specs.Recovering.{RecoveryTurn, Line, with_recovery, recovery_letter, goes_by}

-- the letter with a number goes in a turn
abbrev pub letter_goes : Recovering → ℕ → Turn → Turn
letter_goes r number t = recovery_letter (connection_of r) number (letter_at (channel_of r).outbox number) t

-- the letter with the number that the window lets go went out, or none does
abbrev pub WentBy : Bool → Recovering → Turn → Recovering → Turn → Type 0
WentBy true r t after u =
    (number : ℕ) × (next_to_go (channel_of r) ≡ Some number) × (after ≡ lets_go t.on.moment r) × (u ≡ letter_goes r number t)
WentBy false r t after u = (next_to_go (channel_of r) ≡ None) × (after ≡ r) × (u ≡ t)

-- so many letters go at most
abbrev pub line_of : Recovering → Turn → Line
line_of r t = record { connection = connection_of r; turn = t }

abbrev pub back_in : Recovering → Line → RecoveryTurn
back_in r l = with_recovery (with_connection l.connection r) l.turn

unfoldable pub goes_up_to : ℕ → Recovering → Turn → RecoveryTurn
goes_up_to most r t = back_in r (goes_by most (next_to_go (channel_of r)) (line_of r t))
