-- The calls that a step made, changed or ended.
use Rattle.std.specs.Prelude.{◌≡◌, ℕ, true, List, Option, IfSome}
use Rattle.std.specs.List.{AllByRecursion}
use Rattle.end_model.specs.declared.tunnel.Call.{Call}
use Rattle.tunnel_calls.specs.Replays.{replays}

-- the rows of each of these calls lead to its state
abbrev pub CallReplays : ℕ × Option Call → Type 0
CallReplays c = IfSome c.1 (λ x. replays x ≡ true)

abbrev pub AllCallsReplay : List (ℕ × Option Call) → Type 0
AllCallsReplay calls = AllByRecursion CallReplays calls
