-- A node's end that is opened over its disk, and what its log is told of that.
use Rattle.std.specs.Prelude.{◌≡◌, ℕ, Bool, true, false, List, map, Option, Result, Ok, Err}
use Rattle.wire_base.specs.Causes.{Rose}
use Rattle.disk_core.specs.Disk.{Held}
use Rattle.end_names.specs.declared.role.Role.TheVariants as roles
use Rattle.stored_ends.specs.Cores.{Given}
use Rattle.end_model.specs.declared.tunnel.Config.{Config}
use Rattle.end_model.specs.Contents.{contents_of}
use Rattle.end_model.specs.Starting.{bare_end, starts}
use Rattle.port_events.specs.declared.end.Out.{Out as Going}
use Rattle.stored_ends.specs.declared.stops.OpenStop.TheVariants as opening
use Rattle.stored_ends.specs.Steps.{LacStored, OpenStops}
use Rattle.stored_ends.specs.Opening.{OpensLac, OpensLns}
use Rattle.node_run.specs.declared.end.NodeEnd.{NodeEnd}
use Rattle.node_run.specs.declared.end.NodeEnd.TheVariants.{Lac, Lns}
use Rattle.node_run.specs.declared.opening.NodeUnopened.{NodeUnopened}
use Rattle.node_run.specs.declared.opening.NodeUnopened.TheVariants.{Shut, Unsent}
use Rattle.node_notes.specs.Texts.{notes_text}
use Rattle.node_run.specs.Logs.{Sunk, Noted}
use Rattle.node_run.specs.Outs.{lac_out, lns_out}

-- what a start gives to the ports: hosts are those that the LAC has after it
abbrev pub given_of_lac : LacStored → Given → List Going
given_of_lac s g = map (lac_out s.lac) g.outputs

abbrev pub given_of_lns : Given → List Going
given_of_lns g = map lns_out g.outputs

abbrev pub given_of : NodeEnd → Given → List Going
given_of (Lac s) g = given_of_lac s g
given_of (Lns s) g = given_of_lns g

module _ {D : Type 0} (holds : D → Option Held) (reach calls_left faults : D → ℕ) where
  -- the end was opened over what the disk held, and this is what its start gave
  abbrev pub NodeStarts : Bool → Config → ℕ → List ℕ → D → D → NodeEnd → Given → Type 0
  NodeStarts true config moment block disk now (Lac s) g = OpensLac holds reach calls_left faults config moment block block disk now s g
  NodeStarts true config moment block disk now (Lns s) g = ⊥
  NodeStarts false config moment block disk now (Lac s) g = ⊥
  NodeStarts false config moment block disk now (Lns s) g = OpensLns holds reach calls_left faults config moment block disk now s g

  -- the log was told of that, and this is what goes to the ports
  abbrev pub NodeOpens : Bool → Config → ℕ → List ℕ → D → D → Sunk → Sunk → NodeEnd → List Going → Type 0
  NodeOpens lac config moment block disk now log log' end outs =
      (g : Given) × NodeStarts lac config moment block disk now end g × Noted (notes_text g.moves g.outputs) log log' × (outs ≡ given_of end g)

  -- why it wasn't; or it was, and memory was wanting for what its start gives
  abbrev pub StaysShut : Bool → Config → ℕ → List ℕ → D → D → Sunk → Sunk → NodeUnopened → Type 0
  StaysShut true config moment block disk now log log' (Shut stop) =
      OpenStops holds reach calls_left faults 1 config.number (λ k. contents_of (bare_end roles.Lac config k) (starts roles.Lac config k moment block)) disk now stop × (log' ≡ log)
  StaysShut false config moment block disk now log log' (Shut stop) =
      OpenStops holds reach calls_left faults 2 config.number (λ k. contents_of (bare_end roles.Lns config k) (starts roles.Lns config k moment block)) disk now stop × (log' ≡ log)
  StaysShut lac config moment block disk now log log' Unsent =
      (end : NodeEnd) × (g : Given) × NodeStarts lac config moment block disk now end g × Noted (notes_text g.moves g.outputs) log log' × (faults now ≡ faults disk)

-- a fault of the disk is told only where its count rose
abbrev pub OpenBlames : {T : Type 0} → ℕ → ℕ → Result T NodeUnopened → Type 0
OpenBlames before now (Ok opened) = now ≡ before
OpenBlames before now (Err (Shut (opening.NotJournal at))) = now ≡ before
OpenBlames before now (Err (Shut opening.StoreFault)) = Rose before now
OpenBlames before now (Err (Shut (opening.StoreFull records))) = now ≡ before
OpenBlames before now (Err (Shut opening.NoMemory)) = now ≡ before
OpenBlames before now (Err Unsent) = now ≡ before
