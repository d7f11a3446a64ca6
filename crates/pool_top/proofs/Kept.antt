-- What an end that was opened has on its disk.
use Rattle.std.specs.Prelude.{ℕ, Bool, true, false, List, Option, Ok}
use Rattle.disk_core.specs.Disk.{Held}
use Rattle.session_book.specs.declared.record.Record.{Record}
use Rattle.session_book.specs.Books.{Kept}
use Rattle.end_store.specs.Stored.{Stored, IsKept}
use Rattle.end_model.specs.declared.tunnel.Config.{Config}
use Rattle.lac_core.specs.Cores.{Given}
use Rattle.stored_ends.specs.Steps.{OpensOnDisk}
use Rattle.port_events.specs.declared.end.Out.{Out}
use Rattle.node_run.specs.declared.end.NodeEnd.{NodeEnd}
use Rattle.node_run.specs.declared.end.NodeEnd.TheVariants.{Lac, Lns}
use Rattle.node_run.specs.Logs.{Sunk}
use Rattle.node_run.specs.Opening.{NodeStarts, NodeOpens}
use Rattle.node_run.specs.Steps.{store_of}

-- the contents that were found, and those of the start behind them
opened_kept : {D : Type 0} (holds : D → Option Held) (reach calls_left faults : D → ℕ) (kind number : ℕ) (records : Kept → List Record) (disk now : D) (after : Stored) (g : Given)
    → OpensOnDisk {T = Given} holds reach calls_left faults kind number records disk now after (Ok g) → IsKept after (holds now)
opened_kept holds reach calls_left faults kind number records disk now after g h =
    let k = h.kept in (_, h.started.stored k.0 k.1)

started_kept : {D : Type 0} (holds : D → Option Held) (reach calls_left faults : D → ℕ) (lac : Bool) (config : Config) (moment : ℕ) (block : List ℕ) (disk now : D) (end : NodeEnd) (g : Given)
    → NodeStarts holds reach calls_left faults lac config moment block disk now end g → IsKept (store_of end) (holds now)
started_kept holds reach calls_left faults true config moment block disk now (Lac s) g h = opened_kept holds reach calls_left faults 1 config.number _ disk now s.store g h.found
started_kept holds reach calls_left faults true config moment block disk now (Lns s) g h = absurd h
started_kept holds reach calls_left faults false config moment block disk now (Lac s) g h = absurd h
started_kept holds reach calls_left faults false config moment block disk now (Lns s) g h = opened_kept holds reach calls_left faults 2 config.number _ disk now s.store g h.found

pub open_kept : {D : Type 0} (holds : D → Option Held) (reach calls_left faults : D → ℕ) (lac : Bool) (config : Config) (moment : ℕ) (block : List ℕ) (disk now : D) (log log' : Sunk) (end : NodeEnd) (outs : List Out)
    → NodeOpens holds reach calls_left faults lac config moment block disk now log log' end outs → IsKept (store_of end) (holds now)
open_kept holds reach calls_left faults lac config moment block disk now log log' end outs h =
    started_kept holds reach calls_left faults lac config moment block disk now end h.0 h.1
