-- Which request for a recovery is answered, by the numbers that attempts draw.
use Rattle.std.specs.Prelude.{ℕ, ◌==◌, ◌&&◌, nat_lt, Bool, if◌then◌else◌}
use Rattle.recovery_tunnel.specs.declared.judging.Judged.{Judged}
use Rattle.recovery_tunnel.specs.declared.judging.Judged.TheVariants.{Older, Same, Fresh}

-- an attempt is older than the tunnel's mark, or is the one of the mark while the answer to it is live, or is another one
abbrev pub judged : ℕ → ℕ → Bool → Judged
judged mark draw live = if nat_lt draw mark then Older else if (draw == mark) && live then Same else Fresh
