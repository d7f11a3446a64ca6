-- A channel is its numbers with its letters: each call acts on either alone, and the numbers tell the answer.
use Rattle.std.specs.Prelude.{◌≡◌, ℕ}
use Rattle.send_window.specs.Queue.{Queue, letter_in}
use Rattle.send_window.specs.Queue as queue
use Rattle.send_window.specs.Outbox.{letter_at}
use Rattle.recv_window.specs.Window.{on_wire}
use Rattle.control_channel.specs.Channel.{Channel}
use Rattle.control_channel.specs.Channel as channel
use Rattle.control_channel.specs.Numbers.{Numbers, place_of}
use Rattle.control_channel.specs.Numbers as numbers
use Rattle.control_channel.specs.History.{Call, Reserves, Sends, Receives, Takes, Pumps, Ticks, Freezes, Resets, Learns, Answer, Done, Classified, LetGo, Told, kept_after, kept_answer}

abbrev pub numbers_of : Channel → Numbers
numbers_of c = record { window = c.outbox.window; inbox = c.inbox; frozen = c.frozen }

abbrev pub letters_of : Channel → Queue
letters_of c = record { letters = c.outbox.letters; spare = c.outbox.spare }

abbrev pub joined : Numbers → Queue → Channel
joined n q = record { outbox = record { letters = q.letters; window = n.window; spare = q.spare }; inbox = n.inbox; frozen = n.frozen }

-- the numbers after a call of the channel, and its answer; on the wire a number stands modulo 65536
abbrev pub numbers_after : Call → Numbers → Numbers
numbers_after (Reserves count) n = n
numbers_after (Sends letter) n = numbers.one_more n
numbers_after (Receives ns nr empty moment) n = numbers.acked_at n (on_wire nr) moment
numbers_after Takes n = numbers.taken_by n
numbers_after (Pumps moment) n = numbers.let_go_at n moment
numbers_after (Ticks moment) n = numbers.ticked_at n moment
numbers_after Freezes n = numbers.frozen_so n
numbers_after (Resets send_from expect) n = numbers.reset_at n send_from expect
numbers_after (Learns peer) n = numbers.learnt_by n peer

abbrev pub numbers_answer : Call → Numbers → Answer
numbers_answer (Receives ns nr empty moment) n = Classified (numbers.class_told n (on_wire ns) empty)
numbers_answer (Pumps moment) n = LetGo (numbers.next_to_go n)
numbers_answer (Ticks moment) n = Told (numbers.answer_to_tick n moment)
numbers_answer call n = Done

-- the letters after a call: the first go, as many as the numbers before it count as acknowledged
abbrev pub letters_after : Call → Numbers → Queue → Queue
letters_after (Reserves count) n q = queue.reserved q count
letters_after (Sends letter) n q = queue.put_into q letter
letters_after (Receives ns nr empty moment) n q = queue.dropped_first q (numbers.count_acked n (on_wire nr))
letters_after (Resets send_from expect) n q = queue.cleared q
letters_after call n q = q

pub record ActsOnParts (call : Call) (c : Channel) : Type 0 where
  pub numbers : numbers_of (kept_after call c) ≡ numbers_after call (numbers_of c)
  pub letters : letters_of (kept_after call c) ≡ letters_after call (numbers_of c) (letters_of c)
  pub answer : kept_answer call c ≡ numbers_answer call (numbers_of c)

abbrev pub EachCallActsOnParts : Type 0
EachCallActsOnParts = (call : Call) (c : Channel) → ActsOnParts call c

-- a new channel has the numbers of a new one, and no letters
pub record BeginsInParts (send_from expect peer_window : ℕ) : Type 0 where
  pub numbers : numbers_of (channel.opened_at send_from expect peer_window) ≡ numbers.opened_at send_from expect peer_window
  pub letters : letters_of (channel.opened_at send_from expect peer_window) ≡ queue.no_letters

abbrev pub BeginsAsParts : Type 0
BeginsAsParts = (send_from expect peer_window : ℕ) → BeginsInParts send_from expect peer_window

-- a letter is lent by its number: it stands at the number's place
abbrev pub LendsByPlace : Type 0
LendsByPlace = (c : Channel) (number : ℕ) → letter_at c.outbox number ≡ letter_in (letters_of c) (place_of (numbers_of c) number)
