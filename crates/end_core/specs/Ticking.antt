-- An end's tick: what is planned for each tunnel, and then made.
use Rattle.std.specs.Prelude.{◌≡◌, ℕ, List, [], ◌∷◌, ◌++◌}
use Rattle.std.specs.List.{AllByRecursion, flat_map}
use Rattle.id_table.specs.Ids.{at}
use Rattle.id_table.specs.Tables.{Kept}
use Rattle.session_book.specs.declared.record.Record.{Record}
use Rattle.step_records.specs.Leaving.{leaves}
use Rattle.end_model.specs.declared.tunnel.Config.{Config}
use Rattle.end_names.specs.declared.role.Role.{Role}
use Rattle.end_model.specs.Tunnels.{Tunnel, Env}
use Rattle.end_model.specs.End.{End, new_end, Turned, tick_of, ticks_of}
use Rattle.tunnel_table.specs.Cores.{Core, Plan, IsTurn}
use Rattle.tunnel_table.specs.Plans.{HasPlace, after_plan}
use Rattle.tunnel_table.specs.Tunnels.{tunnels_of}

-- an end with these tunnels: of the rest nothing is asked
abbrev pub with_tunnels : Role → Config → List (ℕ × Core) → End
with_tunnels role c cores = record (new_end role c) { tunnels = tunnels_of cores }

-- the turn of the tunnel with this id
abbrev pub tick_at : Role → Config → List (ℕ × Core) → Env → ℕ → List Turned
tick_at role c cores env i = tick_of (with_tunnels role c cores) env i (at (tunnels_of cores) i)

-- the turns of the tunnels with these ids
abbrev pub ticks_at : Role → Config → List (ℕ × Core) → Env → List ℕ → List Turned
ticks_at role c cores env is = ticks_of (with_tunnels role c cores) env is

-- the plans have what turns lead to, one by one
unfoldable pub ArePlanned : List (ℕ × Plan) → List Turned → Type 0
ArePlanned [] [] = Unit {0}
ArePlanned [] (t ∷ ts) = ⊥
ArePlanned (p ∷ ps) [] = ⊥
ArePlanned (p ∷ ps) (t ∷ ts) = (p.0 ≡ t.id) × IsTurn p.1 t.tunnel.recovery t.turn × ArePlanned ps ts

-- what turns gave, behind what was there
unfoldable pub with_ticks : List Turned → Env → Env
with_ticks ts e = record e {
  outputs = e.outputs ++ flat_map (λ t. t.turn.turn.outputs) ts;
  changes = e.changes ++ flat_map (λ t. t.turn.turn.changes) ts;
  moves = e.moves ++ flat_map (λ t. t.turn.turn.moves) ts;
}

-- what turns leave that draw no number, behind what was there
abbrev pub ticks_leave : List Turned → Env → List Record
ticks_leave ts e = leaves e.ids e.ids (with_ticks ts e).moves

abbrev pub HavePlaces : Kept Core → List (ℕ × Plan) → Type 0
HavePlaces kept ps = AllByRecursion (λ p. HasPlace kept p) ps

-- the tunnels after plans were made, one after the other
unfoldable pub after_plans : List (ℕ × Plan) → List (ℕ × Tunnel) → List (ℕ × Tunnel)
after_plans [] ts = ts
after_plans (p ∷ ps) ts = after_plans ps (after_plan ts p (at ts p.0))
