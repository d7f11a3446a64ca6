-- What the getter of a text reads, by the rows of a parse.
use Rattle.std.proofs.Common.{◌≡◌, ℕ, List}
use Rattle.clap.specs.declared.parser.matches.Found.{Found}
use Rattle.clap.specs.Matches.{first_value}
use Rattle.clap.specs.Walk.{first_of, rows_of}
use Rattle.clap.proofs.WalkLemmas.{first_value-rows}

pub value_by_rows : (found : Found) (name : List ℕ) → first_value found name ≡ first_of name (rows_of found)
value_by_rows found name = first_value-rows found name
