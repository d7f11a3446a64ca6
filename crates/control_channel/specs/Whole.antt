-- A channel with all letters that were given to it, and with numbers that have no end (RFC 2661 section 5.8).
use Rattle.std.specs.Prelude.{ℕ, Bool, false}
use Rattle.send_window.specs.Whole.{Whole}
use Rattle.send_window.specs.Whole as outgoing
use Rattle.recv_window.specs.Window.{Inbox, inbox_from}
use Rattle.recv_window.specs.Window as incoming
use Rattle.control_channel.specs.Channel.{Channel}

pub record WholeChannel : Type 0 where
  -- the letters given to it, how many of them are acknowledged and how many were let go, the window and the timer
  pub outgoing : Whole
  -- how many letters of the other end were taken
  pub incoming : Inbox
  pub frozen : Bool

abbrev pub begun : ℕ → ℕ → ℕ → WholeChannel
begun send_from expect peer_window = record { outgoing = outgoing.begun send_from peer_window; incoming = inbox_from expect; frozen = false }

-- what the channel keeps of it
abbrev pub kept_of : WholeChannel → Channel
kept_of w = record { outbox = outgoing.kept_of w.outgoing; inbox = incoming.kept_of w.incoming; frozen = w.frozen }
