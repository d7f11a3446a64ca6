-- What is told of calls, and of ids that are drawn next.
use Rattle.std.specs.Prelude.{◌≡◌, ℕ, List, Bool, true, false, Option, Some, None, if◌then◌else◌}
use Rattle.session_looks.specs.declared.look.Look.{Look}
use Rattle.session_looks.specs.declared.look.Look.TheVariants.{Unborn, Bound, Established, Dead}
use Rattle.end_model.specs.declared.tunnel.Call.{Call}

-- whether a call is live, as far as its cell tells it
abbrev pub TellsLive : Look → Bool → Type 0
TellsLive Unborn there = Unit {0}
TellsLive (Bound tunnel peer) there = there ≡ true
TellsLive (Established tunnel peer) there = there ≡ true
TellsLive Dead there = there ≡ false

abbrev pub subscriber_by : Option Call → Option (List ℕ)
subscriber_by None = None
subscriber_by (Some c) = Some c.subscriber

-- whom a call is for, where neither it nor its tunnel is gone
abbrev pub subscriber_in : Bool → Option Call → Option (List ℕ)
subscriber_in gone c = if gone then None else subscriber_by c
