-- Slow start and congestion avoidance (RFC 2661 appendix A) in whole numbers.
use Rattle.std.specs.Prelude.{ℕ, zero, suc, ◌+◌, ◌/◌, ◌<◌, ◌≤◌, max, min, if◌then◌else◌, nat_lt}
use Rattle.send_window.specs.declared.congestion.Congestion.{Congestion}

-- the window lets something go, and no more than the peer's window
pub record IsOpen (c : Congestion) : Type 0 where
  pub some : 0 < c.window
  pub within : c.window ≤ c.peer_window
  pub small : c.counter < 65535

abbrev pub opened : ℕ → Congestion
opened peer_window = record { peer_window = peer_window; threshold = peer_window; window = 1; counter = 0 }

-- the window one letter wider, never past the peer's
abbrev pub wider : Congestion → ℕ
wider c = min (c.window + 1) c.peer_window

-- one letter is acknowledged: below the threshold the window grows; from there on a counter does, and the window where
-- the counter reaches it
abbrev pub grown : Congestion → Congestion
grown c =
    if nat_lt c.window c.threshold then record c { window = wider c }
    else if nat_lt (c.counter + 1) c.window then record c { counter = c.counter + 1 }
    else record c { window = wider c; counter = 0 }

abbrev pub times_grown : ℕ → Congestion → Congestion
times_grown zero c = c
times_grown (suc n) c = grown (times_grown n c)

-- a letter is repeated
abbrev pub halved : Congestion → Congestion
halved c = record c { threshold = max (c.window / 2) 1; window = 1 }

-- the peer's window becomes known
abbrev pub learnt : Congestion → ℕ → Congestion
learnt c peer_window = record c { peer_window = peer_window; threshold = peer_window; window = min c.window peer_window }
