-- The births of the calls of LACs are apart.
use Rattle.std.specs.Prelude.{◌≡◌, ℕ, ◌<◌, ◌^◌, List, length, Some}
use Rattle.id_table.specs.Ids.{at}
use Rattle.schedule_text.specs.declared.line.Line.{Line}
use Rattle.schedule_text.specs.Grammar.{AreLines}
use Rattle.end_names.specs.declared.role.Role.TheVariants.{Lac}
use Rattle.world_model.specs.World.{World, Node}
use Rattle.world_model.specs.Run.{run}

-- the session of a LAC has this birth
pub record IsBornAt (w : World) (n session birth : ℕ) : Type 0 where
  pub node : Node
  pub is : at w.nodes n ≡ Some node
  pub role : node.end.role ≡ Lac
  pub birth_is : at node.births session ≡ Some birth

-- two sessions of LACs with one birth are one session
abbrev pub AreApart : World → Type 0
AreApart w = (birth n session m other : ℕ) → IsBornAt w n session birth → IsBornAt w m other birth → (n ≡ m) × (session ≡ other)

-- after the run of each list of lines of the grammar, whatever crashes; births are counted in 64 bits, and session ids have 16
abbrev pub BirthsOfRuns : Type 0
BirthsOfRuns = (lines : List Line) → AreLines lines → length lines < 2 ^ 47 → AreApart (run lines).world
