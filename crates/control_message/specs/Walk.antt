-- What the walk along a list keeps of the pairs that it passed.
use Rattle.std.specs.Prelude.{◌≡◌, ℕ, ◌<◌, List, Some, is_some, slice_get}
use Rattle.avp_codec.specs.declared.avp.Avp.{Avp}
use Rattle.control_message.specs.declared.checking.Seen.{Seen}
use Rattle.control_message.specs.Reading.{first, first_draw, has_vector}

-- which of the attributes below 80 are there, and whether a Draw Number and a Random Vector are
pub record HasSeen (s : Seen) (avps : List Avp) : Type 0 where
  pub attributes : (n : ℕ) → n < 80 → slice_get s.attributes n ≡ Some (is_some (first n avps))
  pub draw : s.draw ≡ is_some (first_draw avps)
  pub vector : s.vector ≡ has_vector avps
