-- By what tunnels are found, and which one is found.
use Rattle.std.specs.Prelude.{◌≡◌, ℕ, Bool, false, not, ◌&&◌, ◌==◌, List, find, Option, Some, None, option_map}
use Rattle.id_table.specs.Ids.{at, ids_of}
use Rattle.tunnel_fsm.specs.Rows.{state_number}
use Rattle.end_model.specs.declared.tunnel.Control.{Control}
use Rattle.end_model.specs.Tunnels.{Tunnel, Recovering, ByAttempt, ByAnswer, connection_of, mode_of, is_current}
use Rattle.end_model.specs.End.{known_as, answered_to, recovered_by, least_in, is_recovering}
use Rattle.tunnel_listing.specs.declared.listed.Listed.{Listed}
use Rattle.tunnel_listing.specs.declared.listed.Wanted.{Wanted}
use Rattle.tunnel_listing.specs.declared.listed.Wanted.TheVariants.{Known, Answered, Recovered, In, Recovering as IsRecovered}

-- the id of its recovery tunnel, and the one that the peer assigned to its attempt where this end answers it
abbrev pub line_of : Option Recovering → Option ℕ
line_of None = None
line_of (Some r) = Some (connection_of r).local

abbrev pub answered_of : Option Recovering → Option ℕ
answered_of None = None
answered_of (Some (ByAttempt c)) = None
answered_of (Some (ByAnswer a)) = Some a.connection.remote

-- how a tunnel is listed as it is
abbrev pub listed_by : Control → Option Recovering → Listed
listed_by c r = record { peer = c.peer; remote = c.remote; state = c.state; mode = mode_of r; line = line_of r; answered = answered_of r }

abbrev pub listed_as : Tunnel → Listed
listed_as t = listed_by t.control t.recovery

abbrev pub is_told : Option ℕ → ℕ → Bool
is_told None id = false
is_told (Some i) id = i == id

abbrev pub is_wanted : Wanted → Listed → Bool
is_wanted (Known peer remote) l = l.peer == peer && l.remote == remote
is_wanted (Answered peer remote) l = l.peer == peer && is_told l.answered remote
is_wanted (Recovered line) l = is_told l.line line
is_wanted (In state peer) l = (state_number l.state == state_number state && l.peer == peer) && is_current l.mode
is_wanted (IsRecovered peer) l = l.peer == peer && not (is_current l.mode)

-- a tunnel that may be listed
abbrev pub is_wanted_at : Wanted → Option Listed → Bool
is_wanted_at w None = false
is_wanted_at w (Some l) = is_wanted w l

-- the first of these ids that is listed as one that is looked for
unfoldable pub first_of : Wanted → (ℕ → Option Listed) → List ℕ → Option ℕ
first_of w f ids = find (λ i. is_wanted_at w (f i)) ids

-- what an end finds among its tunnels
abbrev pub least_of : Wanted → List (ℕ × Tunnel) → Option ℕ
least_of (Known peer remote) ts = known_as peer remote ts
least_of (Answered peer remote) ts = answered_to peer remote ts
least_of (Recovered line) ts = recovered_by line ts
least_of (In state peer) ts = least_in state peer ts
least_of (IsRecovered peer) ts = find (λ i. is_recovering peer (at ts i)) (ids_of ts)

-- these ids are those of these tunnels, each listed as it is
pub record AreListed (f : ℕ → Option Listed) (ids : List ℕ) (ts : List (ℕ × Tunnel)) : Type 0 where
  pub each : ids_of ts ≡ ids
  pub as_they_are : (i : ℕ) → option_map listed_as (at ts i) ≡ f i
