-- What the cells have to know of the calls that were kept over a start.
use Rattle.std.specs.Prelude.{◌≡◌, ℕ, nat_lt, if◌then◌else◌, List, [], map, false, flat_map}
use Rattle.wire_base.specs.declared.pair.Pair.{Pair}
use Rattle.session_looks.specs.declared.look.CellChange.{CellChange}
use Rattle.end_names.specs.declared.role.Role.{Role}
use Rattle.end_model.specs.Calls.{sessions_of}
use Rattle.end_model.specs.Starting.{kept_looks}
use Rattle.end_model.specs.Tunnels.{Tunnel}
use Rattle.tunnel_core.specs.Cores.{Core, tunnel_of}
use Rattle.locked_tunnels.specs.Kept.{Kept, Known, known}

-- of one session, where its id has a cell
abbrev pub cell_looks : Role → ℕ → ℕ → ℕ → List CellChange
cell_looks role tunnel peer session = if nat_lt session 65536 then kept_looks role session tunnel peer else []

-- Of each call of a tunnel that is established, by the ids of the sessions: in which tunnel it is, and with which peer, and at a LAC that it is
-- established. At an LNS its link is opened anew.
abbrev pub looks_of : Role → Tunnel → List CellChange
looks_of role t = flat_map (λ (p : Pair). cell_looks role t.control.local t.control.peer p.sender) (sessions_of t.calls)

-- a tunnel behind its lock
abbrev pub kept_known : Role → Core → Known
kept_known role core = record { role = role; tunnel = tunnel_of core; changes = looks_of role (tunnel_of core); gone = false }

-- all of them, in order
abbrev pub AreKept : Role → List Core → List Kept → Type 0
AreKept role cores kept = map (λ k. known k) kept ≡ map (λ c. kept_known role c) cores
