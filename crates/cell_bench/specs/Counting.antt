-- What is counted.
use Rattle.std.specs.Prelude.{ℕ, Bool, true, false, ◌&&◌, ◌==◌, nat_lt}
use Rattle.wire_base.specs.declared.letter.Side.{Side}
use Rattle.l2tp_header.specs.declared.header.Header.{Header}
use Rattle.wire_base.specs.declared.letter.Side.TheVariants as side
use Rattle.data_plane.specs.declared.carry.Carry.{Carry}
use Rattle.data_plane.specs.declared.carry.Carry.TheVariants as carry
use Rattle.cell_bench.specs.declared.sample.TheConstants.{SESSION, TUNNEL}
use Rattle.cell_bench.specs.declared.words.What.{What}
use Rattle.cell_bench.specs.declared.words.What.TheVariants as what
use Rattle.cell_bench.specs.declared.words.ThreadCount.{ThreadCount}
use Rattle.cell_bench.specs.declared.words.ThreadCount.TheVariants as threads

-- a header is for the call, and a frame stands behind it
abbrev pub is_ours : Header → Bool
is_ours h = h.tunnel == TUNNEL && h.session == SESSION && nat_lt h.start h.end

-- a frame goes to the network
abbrev pub is_net : Side → Bool
is_net side.Sub = false
is_net side.Net = true
is_net side.Lcp = false

-- a frame that isn't empty goes up to the network
abbrev pub is_up : Carry → Bool
is_up (carry.Up session side start stop) = is_net side && nat_lt start stop
is_up (carry.Dropped why) = false

-- each turn counts, whatever other threads do to the cells
abbrev pub is_certain : What → Bool
is_certain what.Nothing = true
is_certain what.Decided = true
is_certain what.Header = true
is_certain what.Look = false
is_certain what.Carry = false

abbrev pub threads_of : ThreadCount → ℕ
threads_of threads.One = 1
threads_of threads.Two = 2
threads_of threads.Four = 4
