-- Histories of calls, on the whole channel and on what it keeps.
use Rattle.std.specs.Prelude.{◌≡◌, ℕ, ◌+◌, ◌-◌, ◌%◌, ◌^◌, ◌<◌, ◌≤◌, Bool, true, false, if◌then◌else◌, List, [], ◌∷◌, Option, Some, None, slice_get}
use Rattle.std.specs.List.{list_any}
use Rattle.wire_base.specs.declared.letter.Letter.{Letter}
use Rattle.send_window.specs.declared.window.Tick.{Tick}
use Rattle.send_window.specs.declared.window.Tick.TheVariants.{Quiet}
use Rattle.send_window.specs.Outbox.{letter_at}
use Rattle.send_window.specs.Whole.{IsInOrder, given_count}
use Rattle.send_window.specs.History as outgoing
use Rattle.recv_window.specs.declared.Class.{Class}
use Rattle.recv_window.specs.Window.{IsNear, CountsOn, on_wire, true_class, inbox_from, one_further}
use Rattle.control_channel.specs.Channel.{Channel}
use Rattle.control_channel.specs.Channel as channel
use Rattle.control_channel.specs.Whole.{WholeChannel, begun, kept_of}

pub data Call : Type 0 where
  -- room is made for so many letters
  Reserves : ℕ → Call
  -- a letter that is taken
  Sends : Letter → Call
  -- a message's Ns and Nr as numbers without end, whether it is empty, and a moment
  Receives : ℕ → ℕ → Bool → ℕ → Call
  Takes : Call
  Pumps : ℕ → Call
  Ticks : ℕ → Call
  Freezes : Call
  Resets : ℕ → ℕ → Call
  Learns : ℕ → Call

pub data Answer : Type 0 where
  Done : Answer
  Classified : Option Class → Answer
  LetGo : Option ℕ → Answer
  Told : Tick → Answer

abbrev pub next_of : outgoing.Answer → Option ℕ
next_of (outgoing.Next n) = n
next_of a = None

abbrev pub told_of : outgoing.Answer → Tick
told_of (outgoing.Told t) = t
told_of a = Quiet

-- where the whole channel says what a call does. Fewer than 8,192 letters are unacknowledged or unsent; a message's numbers
-- aren't more than half the space behind, its Ns isn't more than half the space ahead, and every letter below its Nr was on
-- the wire
abbrev pub Fits : Call → WholeChannel → Type 0
Fits (Sends letter) w = given_count w.outgoing < w.outgoing.acked + 8192
Fits (Receives ns nr true moment) w = (w.outgoing.acked ≤ nr + 32767) × (nr ≤ w.outgoing.unsent)
Fits (Receives ns nr false moment) w = (w.outgoing.acked ≤ nr + 32767) × (nr ≤ w.outgoing.unsent) × IsNear ns w.incoming
Fits (Resets send_from expect) w = (send_from < 2 ^ 16) × (expect < 2 ^ 16)
Fits call w = Unit {0}

-- the whole channel after a call, and its answer; numbers are told modulo 2^64
abbrev pub whole_after : Call → WholeChannel → WholeChannel
whole_after (Reserves count) w = record w { outgoing = outgoing.whole_after (outgoing.Reserves count) w.outgoing }
whole_after (Sends letter) w = record w { outgoing = outgoing.whole_after (outgoing.Puts letter) w.outgoing }
whole_after (Receives ns nr empty moment) w = record w { outgoing = outgoing.whole_after (outgoing.Acks nr moment) w.outgoing }
whole_after Takes w = record w { incoming = one_further w.incoming }
whole_after (Pumps moment) w = record w { outgoing = if w.frozen then w.outgoing else outgoing.whole_after (outgoing.Pumps moment) w.outgoing }
whole_after (Ticks moment) w = record w { outgoing = if w.frozen then w.outgoing else outgoing.whole_after (outgoing.Ticks moment) w.outgoing }
whole_after Freezes w = record w { frozen = true }
whole_after (Resets send_from expect) w =
    record { outgoing = outgoing.whole_after (outgoing.Resets send_from) w.outgoing; incoming = inbox_from expect; frozen = false }
whole_after (Learns peer) w = record w { outgoing = outgoing.whole_after (outgoing.Learns peer) w.outgoing }

abbrev pub whole_answer : Call → WholeChannel → Answer
whole_answer (Receives ns nr empty moment) w = Classified (if empty then None else Some (true_class ns w.incoming))
whole_answer (Pumps moment) w = LetGo (if w.frozen then None else next_of (outgoing.whole_answer (outgoing.Pumps moment) w.outgoing))
whole_answer (Ticks moment) w = Told (if w.frozen then Quiet else told_of (outgoing.whole_answer (outgoing.Ticks moment) w.outgoing))
whole_answer call w = Done

-- what is kept after a call of the channel, and its answer; on the wire a number stands modulo 65536
abbrev pub kept_after : Call → Channel → Channel
kept_after (Reserves count) c = channel.reserved c count
kept_after (Sends letter) c = channel.sent_into c letter
kept_after (Receives ns nr empty moment) c = channel.received c (on_wire nr) moment
kept_after Takes c = channel.taken_by c
kept_after (Pumps moment) c = channel.let_go_at c moment
kept_after (Ticks moment) c = channel.ticked_at c moment
kept_after Freezes c = channel.frozen_so c
kept_after (Resets send_from expect) c = channel.reset_at c send_from expect
kept_after (Learns peer) c = channel.learnt_by c peer

abbrev pub kept_answer : Call → Channel → Answer
kept_answer (Receives ns nr empty moment) c = Classified (channel.class_told c (on_wire ns) empty)
kept_answer (Pumps moment) c = LetGo (channel.next_to_go c)
kept_answer (Ticks moment) c = Told (channel.answer_to_tick c moment)
kept_answer call c = Done

-- each call is a step of the whole channel
pub record IsStep (call : Call) (w : WholeChannel) : Type 0 where
  pub kept : kept_after call (kept_of w) ≡ kept_of (whole_after call w)
  pub answer : kept_answer call (kept_of w) ≡ whole_answer call w
  pub order : IsInOrder (whole_after call w).outgoing

abbrev pub EachCallIsAStep : Type 0
EachCallIsAStep = (call : Call) (w : WholeChannel) → IsInOrder w.outgoing → Fits call w → IsStep call w

abbrev pub whole_run : List Call → WholeChannel → WholeChannel
whole_run [] w = w
whole_run (call ∷ calls) w = whole_run calls (whole_after call w)

abbrev pub kept_run : List Call → Channel → Channel
kept_run [] c = c
kept_run (call ∷ calls) c = kept_run calls (kept_after call c)

abbrev pub AllFit : List Call → WholeChannel → Type 0
AllFit [] w = Unit {0}
AllFit (call ∷ calls) w = Fits call w × AllFit calls (whole_after call w)

-- what is kept is the rest of the whole channel; what is acknowledged was let go, and what was let go was given; and each
-- letter that isn't acknowledged is lent by its number, which is its place in the list
pub record IsTheWhole (c : Channel) (w : WholeChannel) : Type 0 where
  pub kept : c ≡ kept_of w
  pub acked : w.outgoing.acked ≤ w.outgoing.unsent
  pub went : w.outgoing.unsent ≤ given_count w.outgoing
  pub few : given_count w.outgoing ≤ w.outgoing.acked + 8192
  pub lends : (n : ℕ) → w.outgoing.acked ≤ n → n < given_count w.outgoing →
      letter_at c.outbox (n % 2 ^ 64) ≡ slice_get w.outgoing.sent (n - w.outgoing.first)

-- so it is after every history of calls that fit
abbrev pub KeepsTheWhole : Type 0
KeepsTheWhole = (send_from expect peer_window : ℕ) (calls : List Call) → send_from < 2 ^ 16 → expect < 2 ^ 16 →
    AllFit calls (begun send_from expect peer_window) →
    IsTheWhole (kept_run calls (channel.opened_at send_from expect peer_window)) (whole_run calls (begun send_from expect peer_window))

-- the numbers of what is taken in a history, in order
abbrev pub taken_in : List Call → WholeChannel → List ℕ
taken_in [] w = []
taken_in (Takes ∷ calls) w = w.incoming.taken ∷ taken_in calls (whole_after Takes w)
taken_in (call ∷ calls) w = taken_in calls (whole_after call w)

abbrev pub is_reset : Call → Bool
is_reset (Resets send_from expect) = true
is_reset call = false

-- between two resets what is taken counts on by one
abbrev pub TakenCountsOn : Type 0
TakenCountsOn = (calls : List Call) (w : WholeChannel) → list_any is_reset calls ≡ false →
    CountsOn (taken_in calls w) w.incoming.taken (whole_run calls w).incoming.taken
