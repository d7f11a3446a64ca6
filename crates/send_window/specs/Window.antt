-- The send window of a channel and its timer (RFC 2661 section 5.8).
use Rattle.std.specs.Prelude.{ℕ, ◌+◌, ◌-◌, ◌%◌, ◌^◌, ◌<◌, Bool, ◌&&◌, ◌==◌, nat_lt, nat_le, min, if◌then◌else◌, Option, Some, None}
use Rattle.send_window.specs.declared.window.Tick.{Tick}
use Rattle.send_window.specs.declared.window.Tick.TheVariants.{Quiet, Again, Failed}
use Rattle.send_window.specs.Congestion.{opened, times_grown, halved, learnt}
use Rattle.send_window.specs.Kept.{Window}

abbrev pub opened_at : ℕ → ℕ → Window
opened_at first peer_window = record { acked = first; queued = 0; outstanding = 0; congestion = opened peer_window; since = 0; repetitions = 0 }

abbrev pub one_more : Window → Window
one_more w = record w { queued = w.queued + 1 }

-- how far b is ahead of a, modulo 65536
abbrev pub distance : ℕ → ℕ → ℕ
distance a b = (b + (2 ^ 16 - a)) % 2 ^ 16

-- how many letters Nr acknowledges: its distance from the first unacknowledged one, where so many are on the wire
abbrev pub count_acked : Window → ℕ → ℕ
count_acked w nr = let d = distance (w.acked % 2 ^ 16) nr in if nat_le d w.outstanding then d else 0

-- the first letters are acknowledged at a moment; the timer runs from there for the one that is then the oldest
abbrev pub without_first : Window → ℕ → ℕ → Window
without_first w count moment =
    if count == 0 then w else record {
      acked = (w.acked + count) % 2 ^ 64;
      queued = w.queued - count;
      outstanding = w.outstanding - count;
      congestion = times_grown count w.congestion;
      since = moment;
      repetitions = 0;
    }

abbrev pub acked_at : Window → ℕ → ℕ → Window
acked_at w nr moment = without_first w (count_acked w nr) moment

-- a letter is unsent, and fewer are outstanding than both windows allow
abbrev pub may_go : Window → Bool
may_go w = nat_lt w.outstanding w.queued && nat_lt w.outstanding (min w.congestion.window w.congestion.peer_window)

-- the number of the next letter that the window lets go
abbrev pub next_to_go : Window → Option ℕ
next_to_go w = if may_go w then Some ((w.acked + w.outstanding) % 2 ^ 64) else None

-- it is on the wire; where it is the only one there, the timer starts
abbrev pub let_go_at : Window → ℕ → Window
let_go_at w moment =
    if may_go w then record w {
      outstanding = w.outstanding + 1;
      since = if w.outstanding == 0 then moment else w.since;
      repetitions = if w.outstanding == 0 then 0 else w.repetitions;
    } else w

-- the milliseconds before the next repetition, and after the fifth before the channel has failed
abbrev pub wait_after : ℕ → ℕ
wait_after repetitions =
    if repetitions == 0 then 1000 else if repetitions == 1 then 2000 else if repetitions == 2 then 4000 else 8000

-- the wait is over; where the moment is below the kept one, no time has passed
abbrev pub is_due : ℕ → ℕ → ℕ → ℕ → Bool
is_due outstanding repetitions since moment =
    nat_lt 0 outstanding && nat_le (wait_after repetitions) (moment - since)

abbrev pub due_at : Window → ℕ → Bool
due_at w moment = is_due w.outstanding w.repetitions w.since moment

-- the moment from which on it is over, which stops at the last one of 64 bits: none where nothing is outstanding
abbrev pub due_of : Window → Option ℕ
due_of w = if nat_lt 0 w.outstanding then Some (min (w.since + wait_after w.repetitions) (2 ^ 64 - 1)) else None

-- the oldest letter is repeated five times; then the channel has failed
abbrev pub answer_to_tick : Window → ℕ → Tick
answer_to_tick w moment =
    if due_at w moment then (if nat_lt w.repetitions 5 then Again w.acked else Failed w.acked) else Quiet

abbrev pub ticked_at : Window → ℕ → Window
ticked_at w moment =
    if due_at w moment && nat_lt w.repetitions 5
    then record w { congestion = halved w.congestion; since = moment; repetitions = w.repetitions + 1 }
    else w

abbrev pub learnt_by : Window → ℕ → Window
learnt_by w peer_window = record w { congestion = learnt w.congestion peer_window }

-- the number of the first letter that was never on the wire, and of the next letter to be given
abbrev pub next_unsent : Window → ℕ
next_unsent w = (w.acked + w.outstanding) % 2 ^ 64

abbrev pub next_given : Window → ℕ
next_given w = (w.acked + w.queued) % 2 ^ 64

-- the place, from 0, of the letter with a number among those that are unacknowledged or unsent
abbrev pub place_of : Window → ℕ → ℕ
place_of w number = (number + (2 ^ 64 - w.acked)) % 2 ^ 64

-- the letter with a number is one of them
abbrev pub Holds : Window → ℕ → Type 0
Holds w number = place_of w number < w.queued

abbrev pub HoldsRepeated : Window → Tick → Type 0
HoldsRepeated w (Again number) = Holds w number
HoldsRepeated w tick = Unit {0}
