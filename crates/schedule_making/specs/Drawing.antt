-- The line that a generator of numbers draws next.
use Rattle.std.specs.Prelude.{ℕ, ◌+◌, ◌-◌, ◌*◌, ◌/◌, ◌%◌, ◌^◌, min, max, nat_lt, ◌||◌, List, [], ◌∷◌, if◌then◌else◌, Option, Some, None}
use Rattle.schedule_text.specs.declared.line.Line.{Line}
use Rattle.schedule_text.specs.declared.line.Line.TheVariants.{Ring, FromSub, Down, Hang, Deliver, Tick, Crash, Start}

-- ---- numbers

-- the state of the generator behind a draw: a linear congruential one of 64 bits
unfoldable pub next_state : ℕ → ℕ
next_state x = (x * 6364136223846793005 + 1442695040888963407) % 2 ^ 64

-- what is drawn below a bound in a state
abbrev pub drawn : ℕ → ℕ → ℕ
drawn bound x = next_state x / 2 ^ 33 % bound

-- ---- lines

-- a line, where what is drawn is one, and the state behind it
pub record Drawn : Type 0 where
  pub line : Option Line
  pub state : ℕ

-- the delivery of a packet, where that is the number of one
abbrev pub deliver_of : ℕ → Option Line
deliver_of packet = if nat_lt packet 1 || nat_lt 4294967295 packet then None else Some (Deliver packet)

-- of one of the last twelve packets; there is a draw too where there are none yet
unfoldable pub drawn_deliver : ℕ → ℕ → Drawn
drawn_deliver packets x = record { line = deliver_of (packets - drawn (max (min packets 12) 1) x); state = next_state x }

-- at one of 50 ports
unfoldable pub drawn_ring : ℕ → Drawn
drawn_ring x = record { line = Some (Ring 1 (1 + drawn 50 x)); state = next_state x }

-- of one of the first 200 sessions
abbrev pub drawn_session : ℕ → ℕ
drawn_session x = 1 + drawn 200 x

-- a PPP frame of IPv4, protocol 0021, with two bytes
abbrev pub drawn_frame : ℕ → List ℕ
drawn_frame x = 0 ∷ 33 ∷ drawn 65536 x / 256 ∷ drawn 65536 x % 256 ∷ []

unfoldable pub drawn_data : ℕ → Drawn
drawn_data x = record { line = Some (FromSub 1 (drawn_session x) (drawn_frame (next_state x))); state = next_state (next_state x) }

unfoldable pub drawn_down : ℕ → Drawn
drawn_down x = record { line = Some (Down 2 (drawn_session x) (drawn_frame (next_state x))); state = next_state (next_state x) }

unfoldable pub drawn_hang : ℕ → Drawn
drawn_hang x = record { line = Some (Hang 1 (drawn_session x)); state = next_state x }

-- one of both nodes
abbrev pub drawn_node : ℕ → ℕ
drawn_node x = 1 + drawn 2 x

unfoldable pub drawn_tick : ℕ → Drawn
drawn_tick x = record { line = Some (Tick (drawn_node x) (1 + drawn 3000 (next_state x))); state = next_state (next_state x) }

-- one of both nodes crashes, or starts again
unfoldable pub drawn_crash : ℕ → Drawn
drawn_crash x = record { line = Some (Crash (drawn_node x)); state = next_state x }

unfoldable pub drawn_start : ℕ → Drawn
drawn_start x = record { line = Some (Start (drawn_node x)); state = next_state x }

-- a line of the kind that was drawn, of a hundred, where so many packets were sent
unfoldable pub drawn_kind : ℕ → ℕ → ℕ → Drawn
drawn_kind packets kind x =
    if nat_lt kind 60 then drawn_deliver packets x
    else if nat_lt kind 68 then drawn_ring x
    else if nat_lt kind 76 then drawn_data x
    else if nat_lt kind 84 then drawn_down x
    else if nat_lt kind 88 then drawn_hang x
    else if nat_lt kind 96 then drawn_tick x
    else if nat_lt kind 98 then drawn_crash x
    else drawn_start x

abbrev pub drawn_line : ℕ → ℕ → Drawn
drawn_line packets x = drawn_kind packets (drawn 100 x) (next_state x)
