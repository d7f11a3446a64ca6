-- Messages that come less than 8 ahead of the one that is expected, and are kept until they become next (RFC 2661
-- section 5.8).
use Rattle.std.specs.Prelude.{ℕ, if◌then◌else◌, List, [], ◌∷◌, ◌++◌, get_or, set, drop, replicate, Option, Some, None, is_some}
use Rattle.std.specs.List.{count_by}

module _ {T : Type 0} where
  -- a list has 8 places: at place k is what is kept of the message k past the one that is expected. At place 0 is what has
  -- become next
  abbrev pub none_kept : List (Option T)
  none_kept = replicate 8 None

  abbrev pub kept_at : List (Option T) → ℕ → Option T
  kept_at places by = get_or places by None

  -- a place that has a message keeps it
  abbrev pub after_keep : List (Option T) → ℕ → T → List (Option T)
  after_keep places by message = if is_some (kept_at places by) then places else set places by (Some message)

  -- the message that was expected is taken: each place comes nearer by one, and what was kept at place 0 is forgotten
  abbrev pub after_shift : List (Option T) → List (Option T)
  after_shift places = drop 1 places ++ None ∷ []

  -- the message that has become next is taken, where one is kept
  abbrev pub after_take_next : List (Option T) → List (Option T)
  after_take_next places = if is_some (kept_at places 0) then after_shift places else places

  abbrev pub count_kept : List (Option T) → ℕ
  count_kept places = count_by is_some places
