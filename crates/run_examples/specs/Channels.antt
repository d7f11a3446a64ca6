-- Channels of the samples.
use Rattle.std.specs.Prelude.{ℕ, false}
use Rattle.recv_window.specs.Window.{inbox_from}
use Rattle.send_window.specs.Window.{opened_at}
use Rattle.control_channel.specs.Numbers.{Numbers}

-- So many letters were acknowledged, so many are kept behind them, and so many of those are outstanding; so many messages
-- were taken. The congestion window has one letter.
abbrev pub channel : ℕ → ℕ → ℕ → ℕ → Numbers
channel acked queued outstanding taken = record {
  window = record (opened_at acked 8) { queued = queued; outstanding = outstanding };
  inbox = inbox_from taken;
  frozen = false;
}
