-- Each line is joined.
use Rattle.std.specs.Prelude.{◌≡◌, ℕ, ◌+◌, ◌^◌, ◌<◌, true}
use Rattle.world_model.specs.World.{World, Lined}
use Rattle.channel_laws.specs.Accounts.{History, history_from}
use Rattle.channel_laws.specs.Facts.{NodesHold, Holds}
use Rattle.channel_laws.specs.Lines.{WholeStep, CutStep, WholeStart, LineDoes}
use Rattle.channel_laws.specs.Whole.{Below}
use Rattle.line_join_laws.specs.Chains.{EndsSound, NoneIsArmed, IsStanding}

-- what a step leaves is joined again, and so few calls were born in it, and so few epochs made; as long as its nodes are as node_laws says
abbrev pub JoinedStepsKeep : Type 0
JoinedStepsKeep = (w : World) (h : History) (number : ℕ) (x : Lined) (s : WholeStep w number x) (top most : ℕ)
    → IsStanding w h top → top + 131072 < 2 ^ 64 → Below h most → most + 147460 < 2 ^ 64 → NodesHold x.world → EndsSound x.world
    → IsStanding x.world (history_from x.done h) (top + 65536)

-- so it is of a step that a stop cuts off
abbrev pub CutStepsJoin : Type 0
CutStepsJoin = (w : World) (h : History) (number : ℕ) (x : Lined) (s : CutStep w number x) (top most : ℕ)
    → s.old.up ≡ true → IsStanding w h top → top + 131072 < 2 ^ 64 → Below h most → most + 147460 < 2 ^ 64 → NodesHold x.world
    → EndsSound x.world
    → Holds x.world (history_from x.done h) → IsStanding x.world (history_from x.done h) (top + 65536)

-- and, whatever its moves are, of a start
abbrev pub StartsJoin : Type 0
StartsJoin = (w : World) (h : History) (number : ℕ) (x : Lined) (s : WholeStart w number x) (top most : ℕ)
    → IsStanding w h top → top + 131072 < 2 ^ 64 → Below h most → most + 147460 < 2 ^ 64 → NodesHold x.world → EndsSound x.world
    → Holds x.world (history_from x.done h) → IsStanding x.world (history_from x.done h) (top + 65536)

-- each line keeps all of it
abbrev pub JoinedLinesKeep : Type 0
JoinedLinesKeep = CutStepsJoin → (w : World) (h : History) (number : ℕ) (x : Lined) (top most : ℕ)
    → IsStanding w h top → top + 131072 < 2 ^ 64 → Below h most → most + 147460 < 2 ^ 64 → LineDoes w number x
    → NoneIsArmed w → NodesHold x.world → EndsSound x.world
    → IsStanding x.world (history_from x.done h) (top + 65536) × Below (history_from x.done h) (most + 81919)
