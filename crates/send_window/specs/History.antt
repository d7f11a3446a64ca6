-- Histories of calls, on the whole list and on what an outbox keeps.
use Rattle.std.specs.Prelude.{◌≡◌, ℕ, ◌+◌, ◌-◌, ◌%◌, ◌^◌, ◌<◌, ◌≤◌, nat_lt, max, if◌then◌else◌, List, [], ◌∷◌, Option, Some, None, slice_get}
use Rattle.wire_base.specs.declared.letter.Letter.{Letter}
use Rattle.send_window.specs.declared.window.Tick.{Tick}
use Rattle.send_window.specs.declared.window.Tick.TheVariants.{Quiet, Again, Failed}
use Rattle.send_window.specs.Congestion.{learnt}
use Rattle.send_window.specs.Kept.{Kept}
use Rattle.send_window.specs.Outbox as outbox
use Rattle.send_window.specs.Window as window
use Rattle.send_window.specs.Whole.{Whole, begun, given, given_count, acked_to, kept_of, IsInOrder}
use Rattle.send_window.specs.Whole as whole

pub data Operation : Type 0 where
  -- room is made for so many letters
  Reserves : ℕ → Operation
  -- a letter that is taken
  Puts : Letter → Operation
  -- the Nr of a message as a number without end, and a moment
  Acks : ℕ → ℕ → Operation
  Pumps : ℕ → Operation
  Ticks : ℕ → Operation
  Resets : ℕ → Operation
  Learns : ℕ → Operation

pub data Answer : Type 0 where
  Done : Answer
  -- how many letters are newly acknowledged
  Acknowledged : ℕ → Answer
  Next : Option ℕ → Answer
  Told : Tick → Answer

-- where the whole list says what a call does: fewer than 8,192 letters are unacknowledged or unsent; Nr isn't more than
-- half the space behind, and every letter below it was on the wire
abbrev pub Fits : Operation → Whole → Type 0
Fits (Puts letter) w = given_count w < w.acked + 8192
Fits (Acks n moment) w = (w.acked ≤ n + 32767) × (n ≤ w.unsent)
Fits (Resets first) w = first < 2 ^ 16
Fits op w = Unit {0}

-- the whole list after a call, and its answer; numbers are told modulo 2^64
abbrev pub whole_after : Operation → Whole → Whole
whole_after (Reserves count) w = record w { spare = max w.spare count }
whole_after (Puts letter) w = given w letter
whole_after (Acks n moment) w = acked_to w n moment
whole_after (Pumps moment) w = whole.let_go_at w moment
whole_after (Ticks moment) w = whole.ticked_at w moment
whole_after (Resets first) w = whole.reset_at w first
whole_after (Learns peer) w = record w { congestion = learnt w.congestion peer }

abbrev pub whole_answer : Operation → Whole → Answer
whole_answer (Acks n moment) w = Acknowledged (n - w.acked)
whole_answer (Pumps moment) w = Next (if whole.may_go w then Some (w.unsent % 2 ^ 64) else None)
whole_answer (Ticks moment) w =
    Told (if whole.due_at w moment then (if nat_lt w.repetitions 5 then Again (w.acked % 2 ^ 64) else Failed (w.acked % 2 ^ 64)) else Quiet)
whole_answer op w = Done

-- what is kept after a call of the outbox, and its answer; on the wire a number stands modulo 65536
abbrev pub kept_after : Operation → Kept → Kept
kept_after (Reserves count) k = outbox.reserved k count
kept_after (Puts letter) k = outbox.put_into k letter
kept_after (Acks n moment) k = outbox.acked_at k (n % 2 ^ 16) moment
kept_after (Pumps moment) k = outbox.let_go_at k moment
kept_after (Ticks moment) k = outbox.ticked_at k moment
kept_after (Resets first) k = outbox.reset_at k first
kept_after (Learns peer) k = outbox.learnt_by k peer

abbrev pub kept_answer : Operation → Kept → Answer
kept_answer (Acks n moment) k = Acknowledged (window.count_acked k.window (n % 2 ^ 16))
kept_answer (Pumps moment) k = Next (window.next_to_go k.window)
kept_answer (Ticks moment) k = Told (window.answer_to_tick k.window moment)
kept_answer op k = Done

-- a call is a step of the whole list: what is kept stays the rest of it, and the answer is the same
pub record IsStep (op : Operation) (w : Whole) : Type 0 where
  pub kept : kept_after op (kept_of w) ≡ kept_of (whole_after op w)
  pub answer : kept_answer op (kept_of w) ≡ whole_answer op w
  pub order : IsInOrder (whole_after op w)

abbrev pub EachCallIsAStep : Type 0
EachCallIsAStep = (op : Operation) (w : Whole) → IsInOrder w → Fits op w → IsStep op w

-- each letter that isn't acknowledged is lent by its number, which tells its place in the whole list
abbrev pub LendsByNumber : Type 0
LendsByNumber = (w : Whole) (n : ℕ) → IsInOrder w → w.acked ≤ n → n < given_count w → outbox.letter_at (kept_of w) (n % 2 ^ 64) ≡ slice_get w.sent (n - w.first)

abbrev pub whole_run : List Operation → Whole → Whole
whole_run [] w = w
whole_run (op ∷ ops) w = whole_run ops (whole_after op w)

abbrev pub kept_run : List Operation → Kept → Kept
kept_run [] k = k
kept_run (op ∷ ops) k = kept_run ops (kept_after op k)

abbrev pub AllFit : List Operation → Whole → Type 0
AllFit [] w = Unit {0}
AllFit (op ∷ ops) w = Fits op w × AllFit ops (whole_after op w)

-- what is kept is the rest of the whole list, and each letter that isn't acknowledged is lent by its number
pub record IsTheRest (k : Kept) (w : Whole) : Type 0 where
  pub kept : k ≡ kept_of w
  pub order : IsInOrder w
  pub lends : (n : ℕ) → w.acked ≤ n → n < given_count w → outbox.letter_at k (n % 2 ^ 64) ≡ slice_get w.sent (n - w.first)

-- so it is after every history of calls that fit
abbrev pub KeepsTheRest : Type 0
KeepsTheRest = (first peer_window : ℕ) (ops : List Operation) → first < 2 ^ 16 → AllFit ops (begun first peer_window) →
    IsTheRest (kept_run ops (outbox.emptied first peer_window)) (whole_run ops (begun first peer_window))
