use Rattle.std.proofs.Common.{◌≡◌, ◌<◌, ℕ, false}
use Rattle.tunnel_listing.specs.Listed.{is_wanted_at}
use Rattle.tunnel_listing.specs.Directory.{listed_at}
use Rattle.tunnel_listing.proofs.directory.look_through.Given as goal

abbrev pub invariant-loop-id : goal.invariant-loop-id
invariant-loop-id l = (j : ℕ) → j < l.id → is_wanted_at l.wanted (listed_at l.places.entries j) ≡ false
