-- One end's control channel, exactly, on what it keeps (RFC 2661 section 5.8).
use Rattle.std.specs.Prelude.{ℕ, Bool, true, false, if◌then◌else◌, Option, Some, None}
use Rattle.wire_base.specs.declared.letter.Letter.{Letter}
use Rattle.send_window.specs.declared.window.Tick.{Tick}
use Rattle.send_window.specs.declared.window.Tick.TheVariants.{Quiet}
use Rattle.send_window.specs.Kept.{Kept}
use Rattle.send_window.specs.Outbox as outbox
use Rattle.send_window.specs.Window as window
use Rattle.recv_window.specs.declared.Class.{Class}
use Rattle.recv_window.specs.Window.{Inbox, inbox_from, on_wire, after_take, class_of}

pub record Channel : Type 0 where
  pub outbox : Kept
  pub inbox : Inbox
  -- nothing is let go or repeated
  pub frozen : Bool

abbrev pub opened_at : ℕ → ℕ → ℕ → Channel
opened_at send_from expect peer_window = record { outbox = outbox.emptied send_from peer_window; inbox = inbox_from expect; frozen = false }

abbrev pub reserved : Channel → ℕ → Channel
reserved c count = record c { outbox = outbox.reserved c.outbox count }

abbrev pub sent_into : Channel → Letter → Channel
sent_into c letter = record c { outbox = outbox.put_into c.outbox letter }

-- ---- a message comes: Nr acknowledges, and Ns tells what the message is, where it isn't an acknowledgement alone

abbrev pub received : Channel → ℕ → ℕ → Channel
received c nr moment = record c { outbox = outbox.acked_at c.outbox nr moment }

abbrev pub class_told : Channel → ℕ → Bool → Option Class
class_told c ns empty = if empty then None else Some (class_of ns c.inbox)

-- the message that was expected is taken
abbrev pub taken_by : Channel → Channel
taken_by c = record c { inbox = after_take c.inbox }

-- ---- a letter is let go, or repeated

abbrev pub next_to_go : Channel → Option ℕ
next_to_go c = if c.frozen then None else window.next_to_go c.outbox.window

abbrev pub let_go_at : Channel → ℕ → Channel
let_go_at c moment = if c.frozen then c else record c { outbox = outbox.let_go_at c.outbox moment }

abbrev pub answer_to_tick : Channel → ℕ → Tick
answer_to_tick c moment = if c.frozen then Quiet else window.answer_to_tick c.outbox.window moment

abbrev pub ticked_at : Channel → ℕ → Channel
ticked_at c moment = if c.frozen then c else record c { outbox = outbox.ticked_at c.outbox moment }

-- Nr on the wire
abbrev pub nr_of : Channel → ℕ
nr_of c = on_wire c.inbox.taken

-- ----

abbrev pub frozen_so : Channel → Channel
frozen_so c = record c { frozen = true }

-- all letters are forgotten and both numbers begin anew; the peer's window and the room stay, and the channel isn't frozen
abbrev pub reset_at : Channel → ℕ → ℕ → Channel
reset_at c send_from expect = record { outbox = outbox.reset_at c.outbox send_from; inbox = inbox_from expect; frozen = false }

abbrev pub learnt_by : Channel → ℕ → Channel
learnt_by c peer_window = record c { outbox = outbox.learnt_by c.outbox peer_window }
