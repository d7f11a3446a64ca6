-- An end's draw is a raise of the ceiling, where that is reached, and a draw.
use Rattle.std.specs.Prelude.{◌≡◌, ◌+◌, ◌≤◌}
use Rattle.id_source.specs.Spaces.{Space, draws, after_draw, takes_id, after_id, ceiling_for}

abbrev pub raised_for : Space → Space
raised_for s = record s { ceiling = ceiling_for s }

abbrev pub TakesAreDraws : Type 0
TakesAreDraws =
    (s : Space) → s.next ≤ s.ceiling + 1 → s.ceiling ≤ s.last
    → (takes_id s ≡ draws (raised_for s)) × (after_id s ≡ after_draw (raised_for s)) × (s.ceiling ≤ ceiling_for s) × (ceiling_for s ≤ s.last)
