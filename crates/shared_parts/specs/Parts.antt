-- An end with its store that was taken apart.
use Rattle.std.specs.Prelude.{◌≡◌, false, List, None, map}
use Rattle.end_model.specs.End.{End, drawing_of}
use Rattle.end_store.specs.Stored.{Stored}
use Rattle.tunnel_table.specs.Cores.{Core}
use Rattle.tunnel_table.specs.Apart.{tunnels_in}
use Rattle.shared_store.specs.Shared.{Shared}

-- the end and its store, into these tunnels and what they share
pub record IsTakenApart (end : End) (kept : Stored) (taken : List Core) (shared : Shared) : Type 0 where
  -- they are the end's with their calls, in the order of their ids
  pub cores : tunnels_in taken ≡ map (λ t. t.1) end.tunnels
  -- ids are drawn from where the end drew them
  pub spaces : shared.spaces ≡ drawing_of end
  -- it has the same configuration and the same store
  pub told : shared.told ≡ end.config
  pub store : shared.store ≡ kept
  -- and nothing has stopped it, unless the disk failed before
  pub going : kept.journal.halted ≡ false → shared.stop ≡ None
