-- What a tunnel's step does with the numbers of its channel, and what is sent by them.
use Rattle.std.specs.Prelude.{ℕ, ◌+◌, List, Option, Some, None, Bool, ◌==◌, if◌then◌else◌, nat_le, nat_lt}
use Rattle.wire_base.specs.declared.letter.Letter.{Letter}
use Rattle.l2tp_header.specs.Spelling.{control_bytes}
use Rattle.avp_codec.specs.Spelling.{spelling}
use Rattle.control_message.specs.declared.message.Message.{Message}
use Rattle.control_message.specs.Pairs.{pairs_of}
use Rattle.recv_window.specs.Window.{on_wire}
use Rattle.control_channel.specs.Numbers.{one_more, acked_at, taken_by, let_go_at, ticked_at, next_given, learnt_by}
use Rattle.end_model.specs.declared.tunnel.Call.{Call}
use Rattle.end_model.specs.declared.tunnel.Control.{Control}
use Rattle.end_model.specs.declared.out.Out.{Out}
use Rattle.end_model.specs.declared.out.Out.TheVariants.{Send}
use Rattle.end_model.specs.declared.out.Origin.{Origin}
use Rattle.end_model.specs.declared.out.Origin.TheVariants as origin
use Rattle.end_model.specs.declared.moves.Place.{Place}
use Rattle.end_model.specs.Calls.{owed_by}

-- the place of a letter
abbrev pub place : ℕ → Place
place number = record { number = number }

-- the numbers that the next letter given, and the next letter taken, have
abbrev pub next_place : Control → Place
next_place c = place (next_given c.channel)

abbrev pub taken_place : Control → Place
taken_place c = place c.channel.inbox.taken

-- at most 8,192 letters are unacknowledged or unsent, so there is room for one more
abbrev pub has_room : Control → Bool
has_room c = nat_lt c.channel.window.queued 8192

-- A tunnel takes the next message, and a call that rings, only where the letters that it holds, those that its calls owe and
-- four more are at most 8,192. So there is room for each letter that it then has to give.
abbrev pub may_take : Control → List (ℕ × Call) → Bool
may_take c calls = nat_le (c.channel.window.queued + owed_by calls + 4) 8192

abbrev pub letter_of : ℕ → Message → Letter
letter_of session m = record { session = session; avps = spelling (pairs_of m) }

-- one whose pairs hide a value, where they do, and are given so
abbrev pub letter_as : ℕ → Message → Option (List ℕ) → Letter
letter_as session m None = letter_of session m
letter_as session m (Some pairs) = record { session = session; avps = pairs }

-- one more letter is given
abbrev pub counts_given : Control → Control
counts_given c = record c { channel = one_more c.channel }

-- or taken
abbrev pub counts_taken : Control → Control
counts_taken c = record c { channel = taken_by c.channel }

-- the peer's window becomes known; one of 0 letters is none
abbrev pub learns_window : ℕ → Control → Control
learns_window window c = if window == 0 then c else record c { channel = learnt_by c.channel window }

-- the peer's window, as far as it is known
abbrev pub peer_window : Control → ℕ
peer_window c = c.channel.window.congestion.peer_window

-- letters are acknowledged by an Nr
abbrev pub counts_acked : ℕ → ℕ → Control → Control
counts_acked nr moment c = record c { channel = acked_at c.channel nr moment }

-- a datagram of pairs with a number
abbrev pub datagram : Control → ℕ → ℕ → List ℕ → List ℕ
datagram c session number pairs = control_bytes c.remote session (on_wire number) (on_wire c.channel.inbox.taken) pairs

abbrev pub origin_of : Control → ℕ → Bool → Origin
origin_of c number empty = origin.Control (record { tunnel = c.local; ns = number; nr = c.channel.inbox.taken; empty = empty })

abbrev pub sends : Control → ℕ → ℕ → Bool → List ℕ → Out
sends c session number empty pairs = Send c.peer (datagram c session number pairs) (origin_of c number empty)

-- the next letter goes out
abbrev pub counts_sent : ℕ → Control → Control
counts_sent moment c = record c { channel = let_go_at c.channel moment }

-- the oldest one goes out again
abbrev pub counts_repeated : ℕ → Control → Control
counts_repeated moment c = record c { channel = ticked_at c.channel moment }
