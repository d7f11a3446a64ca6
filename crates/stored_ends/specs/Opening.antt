-- An end that was opened over a disk.
use Rattle.std.specs.Prelude.{◌≡◌, ℕ, List, Option, Ok, None}
use Rattle.disk_core.specs.Disk.{Held}
use Rattle.end_names.specs.declared.role.Role.TheVariants.{Lac, Lns}
use Rattle.end_model.specs.declared.tunnel.Config.{Config}
use Rattle.end_model.specs.Access.{of_step}
use Rattle.end_model.specs.Contents.{contents_of}
use Rattle.end_model.specs.Starting.{bare_end, starts}
use Rattle.lac_core.specs.Cores.{Given}
use Rattle.lac_core.specs.Gives.{access_from}
use Rattle.stored_ends.specs.Steps.{LacStored, LnsStored, OpensOnDisk}

-- an LNS was opened: its start over the book that was found is that of the definitions
pub record OpensLns {D : Type 0} (holds : D → Option Held) (reach calls_left faults : D → ℕ) (config : Config) (moment : ℕ) (block : List ℕ) (disk now : D) (s : LnsStored) (g : Given) : Type 0 where
  pub found : OpensOnDisk {T = Given} holds reach calls_left faults 2 config.number (λ k. contents_of (bare_end Lns config k) (starts Lns config k moment block)) disk now s.store (Ok g)
  pub given : starts Lns config found.opened.kept moment block ≡ record { end = s.lns; outputs = g.outputs; moves = g.moves }

-- a LAC likewise, with a key for its cookies
pub record OpensLac {D : Type 0} (holds : D → Option Held) (reach calls_left faults : D → ℕ) (config : Config) (moment : ℕ) (block key : List ℕ) (disk now : D) (s : LacStored) (g : Given) : Type 0 where
  pub found : OpensOnDisk {T = Given} holds reach calls_left faults 1 config.number (λ k. contents_of (bare_end Lac config k) (starts Lac config k moment block)) disk now s.store (Ok g)
  pub given : of_step (access_from key found.opened.kept) None (starts Lac config found.opened.kept moment block) ≡ record { lac = s.lac; outputs = g.outputs; moves = g.moves; reply = None }
