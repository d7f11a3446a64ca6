-- The tunnels of a table, taken out of it.
use Rattle.std.specs.Prelude.{◌≡◌, ℕ, List, [], ◌∷◌, map}
use Rattle.std.proofs.Common.{refl, ap}
use Rattle.end_model.specs.Tunnels.{Tunnel}
use Rattle.tunnel_core.specs.Cores.{Core, tunnel_of}
use Rattle.tunnel_table.specs.Tunnels.{tunnels_of}

-- in the order of their ids
abbrev pub cores_of : List (ℕ × Core) → List Core
cores_of es = map (λ e. e.1) es

-- these tunnels, without the room that was made in them
abbrev pub tunnels_in : List Core → List Tunnel
tunnels_in cores = map (λ c. tunnel_of c) cores

-- for the search: what is taken out are the table's tunnels
pub tunnels_apart : (es : List (ℕ × Core)) → tunnels_in (cores_of es) ≡ map (λ t. t.1) (tunnels_of es)
tunnels_apart [] = refl
tunnels_apart (e ∷ es) = ap (λ ts. tunnel_of e.1 ∷ ts) (tunnels_apart es)
