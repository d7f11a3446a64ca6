-- What the call that hears an answer says.
use Rattle.std.specs.Prelude.{◌≡◌, ℕ, List, Result, Ok, Err}
use Rattle.wire_base.specs.declared.pair.Pair.{Pair}
use Rattle.session_query.specs.declared.query.FsrError.{FsrError}
use Rattle.session_query.specs.declared.query.FsrError.TheVariants as error

-- these are gone, or it differs at this place first; or memory was wanting
abbrev pub SaysGone : Result (List Pair) FsrError → Result (List Pair) ℕ → Type 0
SaysGone (Ok gone) told = told ≡ Ok gone
SaysGone (Err (error.NotAsked at)) told = told ≡ Err at
SaysGone (Err error.NoMemory) told = Unit {0}
