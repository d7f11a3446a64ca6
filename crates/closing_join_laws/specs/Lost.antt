-- An opener of the machine that gave a StopCCN before it had taken its SCCRP has learned none, and learns none: also by a record that a
-- stop
-- keeps, since that is of a step in which the opener still waits.
use Rattle.std.specs.Prelude.{◌≡◌, ℕ, true, List}
use Rattle.epoch_machine.specs.Letters.{StopCcn}
use Rattle.epoch_machine.specs.Channels.{Channels, Stands}
use Rattle.epoch_machine.specs.Tunnels.{Tunnels}
use Rattle.epoch_machine.specs.Worlds.{all_rules}
use Rattle.epoch_machine.specs.Moves.{Move, after}

-- the second letter of its list of epoch 0 is the StopCCN
abbrev pub LostLearnNone : Tunnels → Channels → Type 0
LostLearnNone t c = (y : ℕ) → t.opener y ≡ true → Stands c y 0 1 StopCcn → t.learned y ≡ 0

-- over every list of moves from the empty world, by all rules
abbrev pub LostOfRuns : Type 0
LostOfRuns = (ms : List Move) → LostLearnNone (after all_rules ms).tunnels (after all_rules ms).channels
