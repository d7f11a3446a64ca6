-- The numbers of one end's control channel, without the letters, exactly (RFC 2661 section 5.8).
use Rattle.std.specs.Prelude.{ℕ, Bool, true, false, nat_le, if◌then◌else◌, Option, Some, None}
use Rattle.send_window.specs.declared.window.Tick.{Tick}
use Rattle.send_window.specs.declared.window.Tick.TheVariants.{Quiet}
use Rattle.send_window.specs.Kept.{Window}
use Rattle.send_window.specs.Window as window
use Rattle.recv_window.specs.declared.Class.{Class}
use Rattle.recv_window.specs.Window.{Inbox, inbox_from, on_wire, after_take, class_of}

pub record Numbers : Type 0 where
  -- those of the letters given to the other end, the window and the timer
  pub window : Window
  -- the number that is expected of the other end
  pub inbox : Inbox
  -- nothing is let go or repeated
  pub frozen : Bool

abbrev pub opened_at : ℕ → ℕ → ℕ → Numbers
opened_at send_from expect peer_window = record { window = window.opened_at send_from peer_window; inbox = inbox_from expect; frozen = false }

-- as many letters as a channel may hold are unacknowledged or unsent
abbrev pub is_full : Numbers → Bool
is_full n = nat_le 8192 n.window.queued

-- one more letter is given
abbrev pub one_more : Numbers → Numbers
one_more n = record n { window = window.one_more n.window }

-- ---- a message comes: Nr acknowledges, and Ns tells what the message is, where it isn't an acknowledgement alone

-- how many letters Nr newly acknowledges
abbrev pub count_acked : Numbers → ℕ → ℕ
count_acked n nr = window.count_acked n.window nr

abbrev pub acked_at : Numbers → ℕ → ℕ → Numbers
acked_at n nr moment = record n { window = window.acked_at n.window nr moment }

abbrev pub class_told : Numbers → ℕ → Bool → Option Class
class_told n ns empty = if empty then None else Some (class_of ns n.inbox)

-- the message that was expected is taken
abbrev pub taken_by : Numbers → Numbers
taken_by n = record n { inbox = after_take n.inbox }

-- ---- a letter is let go, or repeated

abbrev pub next_to_go : Numbers → Option ℕ
next_to_go n = if n.frozen then None else window.next_to_go n.window

abbrev pub let_go_at : Numbers → ℕ → Numbers
let_go_at n moment = if n.frozen then n else record n { window = window.let_go_at n.window moment }

abbrev pub answer_to_tick : Numbers → ℕ → Tick
answer_to_tick n moment = if n.frozen then Quiet else window.answer_to_tick n.window moment

abbrev pub ticked_at : Numbers → ℕ → Numbers
ticked_at n moment = if n.frozen then n else record n { window = window.ticked_at n.window moment }

-- the moment from which on something is due
abbrev pub due_of : Numbers → Option ℕ
due_of n = if n.frozen then None else window.due_of n.window

-- the place, from 0, of the letter with a number among those that are unacknowledged or unsent
abbrev pub place_of : Numbers → ℕ → ℕ
place_of n number = window.place_of n.window number

-- the letter with a number is one of them
abbrev pub Holds : Numbers → ℕ → Type 0
Holds n number = window.Holds n.window number

abbrev pub HoldsRepeated : Numbers → Tick → Type 0
HoldsRepeated n tick = window.HoldsRepeated n.window tick

-- Ns and Nr of a message with a number, on the wire
abbrev pub wire_of : Numbers → ℕ → ℕ × ℕ
wire_of n number = (on_wire number, on_wire n.inbox.taken)

-- ----

abbrev pub frozen_so : Numbers → Numbers
frozen_so n = record n { frozen = true }

-- all letters are forgotten and both numbers begin anew; the peer's window stays, and nothing is frozen
abbrev pub reset_at : Numbers → ℕ → ℕ → Numbers
reset_at n send_from expect = record { window = window.opened_at send_from n.window.congestion.peer_window; inbox = inbox_from expect; frozen = false }

abbrev pub learnt_by : Numbers → ℕ → Numbers
learnt_by n peer_window = record n { window = window.learnt_by n.window peer_window }

-- the number of the next letter to be given, and of the first letter that was never on the wire
abbrev pub next_given : Numbers → ℕ
next_given n = window.next_given n.window

abbrev pub next_unsent : Numbers → ℕ
next_unsent n = window.next_unsent n.window
