-- The fields behind the first word of a header.
use Rattle.std.specs.Prelude.{ℕ, List, Result, Ok}
use Rattle.wire_base.specs.Answers.{◌>>=◌}
use Rattle.l2tp_header.specs.declared.header.Header.{Header}
use Rattle.l2tp_header.specs.declared.header.HeaderError.{HeaderError}
use Rattle.l2tp_header.specs.Reading.{start_of, end_of, header_with}

-- the rest of a header whose first word is this one
unfoldable pub header_behind : ℕ → List ℕ → Result Header HeaderError
header_behind word bytes = start_of word bytes >>= λ start. end_of word start bytes >>= λ stop. Ok (header_with word start stop bytes)
