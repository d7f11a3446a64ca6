-- The list of the tunnels of an end.
use Rattle.std.specs.Prelude.{◌≡◌, ℕ, ◌≤◌, if◌then◌else◌, nat_lt, List, Option, Some, None, option_map}
use Rattle.id_table.specs.Ids.{at, put, ids_of}
use Rattle.id_table.specs.Tables.{Kept}
use Rattle.end_names.specs.declared.role.Role.{Role}
use Rattle.tunnel_listing.specs.declared.listed.Listed.{Listed}
use Rattle.tunnel_listing.specs.declared.directory.Entry.{Entry}
use Rattle.tunnel_listing.specs.declared.listed.Wanted.{Wanted}
use Rattle.tunnel_listing.specs.Listed.{first_of}

pub record Directory : Type 0 where
  -- which end it is of, and at a LAC the address of its LNS
  pub role : Role
  pub lns : ℕ
  -- the tunnels, by local id
  pub places : Kept Entry

-- how the tunnel with an id is listed
abbrev pub listed_at : List (ℕ × Entry) → ℕ → Option Listed
listed_at places i = option_map (λ p. p.listed) (at places i)

-- ids of tunnels have 16 bits
unfoldable pub IsNarrow : List (ℕ × Entry) → Type 0
IsNarrow places = (i : ℕ) → 65536 ≤ i → at places i ≡ None

-- the tunnels after one was listed anew as it was after so many turns, unless it had been listed after more of them
abbrev pub relisted : Listed → ℕ → ℕ → List (ℕ × Entry) → Option Entry → List (ℕ × Entry)
relisted listed turns i places None = places
relisted listed turns i places (Some p) = if nat_lt turns p.turns then places else put places i (record p { listed = listed; turns = turns })

-- how it was listed before, where it is listed anew
abbrev pub replaced : ℕ → Option Entry → Option Listed
replaced turns None = None
replaced turns (Some p) = if nat_lt turns p.turns then None else Some p.listed

-- the least tunnel that is looked for
abbrev pub found_in : Directory → Wanted → Option ℕ
found_in d w = first_of w (λ i. listed_at d.places.entries i) (ids_of d.places.entries)
