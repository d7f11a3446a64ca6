-- A channel's sending side as a whole list of letters, with numbers that have no end (RFC 2661 section 5.8).
use Rattle.std.specs.Prelude.{◌≤◌, ℕ, ◌+◌, ◌-◌, ◌%◌, ◌^◌, List, [], ◌∷◌, ◌++◌, length, drop, Bool, ◌&&◌, ◌==◌, nat_lt, min, if◌then◌else◌}
use Rattle.wire_base.specs.declared.letter.Letter.{Letter}
use Rattle.send_window.specs.declared.congestion.Congestion.{Congestion}
use Rattle.send_window.specs.Congestion.{opened, times_grown, halved}
use Rattle.send_window.specs.Kept.{Kept}
use Rattle.send_window.specs.Window.{is_due}

pub record Whole : Type 0 where
  -- every letter that was given to the channel, whether or not the window let it go
  pub sent : List Letter
  -- the number of the first of them
  pub first : ℕ
  -- the number of the first that isn't acknowledged, and of the first that was never on the wire
  pub acked : ℕ
  pub unsent : ℕ
  -- the window, and the timer of the oldest outstanding letter
  pub congestion : Congestion
  pub since : ℕ
  pub repetitions : ℕ
  -- for how many more letters there is room
  pub spare : ℕ

abbrev pub begun : ℕ → ℕ → Whole
begun first peer_window = record { sent = []; first = first; acked = first; unsent = first; congestion = opened peer_window; since = 0; repetitions = 0; spare = 0 }

-- the number of the next letter to be given
abbrev pub given_count : Whole → ℕ
given_count w = w.first + length w.sent

abbrev pub given : Whole → Letter → Whole
given w letter = record w { sent = w.sent ++ letter ∷ []; spare = w.spare - 1 }

-- the peer expects the letter with the number n: every letter below it is acknowledged
abbrev pub acked_to : Whole → ℕ → ℕ → Whole
acked_to w n moment =
    if nat_lt w.acked n
    then record w { acked = n; congestion = times_grown (n - w.acked) w.congestion; since = moment; repetitions = 0 }
    else w

-- a letter was never on the wire, and fewer are outstanding than both windows allow
abbrev pub may_go : Whole → Bool
may_go w = nat_lt w.unsent (given_count w) && nat_lt (w.unsent - w.acked) (min w.congestion.window w.congestion.peer_window)

-- the first that was never on the wire is let go
abbrev pub let_go_at : Whole → ℕ → Whole
let_go_at w moment =
    if may_go w then record w {
      unsent = w.unsent + 1;
      since = if w.unsent == w.acked then moment else w.since;
      repetitions = if w.unsent == w.acked then 0 else w.repetitions;
    } else w

abbrev pub due_at : Whole → ℕ → Bool
due_at w moment = is_due (w.unsent - w.acked) w.repetitions w.since moment

-- the oldest outstanding letter is repeated
abbrev pub ticked_at : Whole → ℕ → Whole
ticked_at w moment =
    if due_at w moment && nat_lt w.repetitions 5
    then record w { congestion = halved w.congestion; since = moment; repetitions = w.repetitions + 1 }
    else w

-- a new list begins
abbrev pub reset_at : Whole → ℕ → Whole
reset_at w first = record (begun first w.congestion.peer_window) { spare = w.spare }

-- at most 8,192 letters are unacknowledged or unsent, and the numbers are in order
pub record IsInOrder (w : Whole) : Type 0 where
  pub begins : w.first ≤ w.acked
  pub goes : w.acked ≤ w.unsent
  pub there : w.unsent ≤ given_count w
  pub few : given_count w ≤ w.acked + 8192

-- what an outbox keeps of it: the letters from the first unacknowledged one on, and numbers modulo 2^64
abbrev pub kept_of : Whole → Kept
kept_of w = record {
  letters = drop (w.acked - w.first) w.sent;
  window = record {
    acked = w.acked % 2 ^ 64;
    queued = given_count w - w.acked;
    outstanding = w.unsent - w.acked;
    congestion = w.congestion;
    since = w.since;
    repetitions = w.repetitions;
  };
  spare = w.spare;
}
