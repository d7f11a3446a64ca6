-- The sessions of a query as they are kept.
use Rattle.std.specs.Prelude.{◌<◌, ◌^◌, List, [], ◌∷◌, ◌++◌, Option, Some, None}
use Rattle.std.specs.List.{AllByRecursion}
use Rattle.std.specs.Arc.{arc_slice_items}
use Rattle.std.specs.declared.sync.ArcSlice.{ArcSlice}
use Rattle.std.specs.declared.alloc.Global.{Global}
use Rattle.wire_base.specs.declared.pair.Pair.{Pair}

abbrev pub pairs_kept : Option (ArcSlice Pair Global) → List Pair
pairs_kept None = []
pairs_kept (Some pairs) = arc_slice_items pairs

-- ids of sessions have 32 bits
abbrev pub HasIds : Pair → Type 0
HasIds p = (p.sender < 2 ^ 32) × (p.receiver < 2 ^ 32)

abbrev pub AreIds : List Pair → Type 0
AreIds pairs = AllByRecursion (λ (p : Pair). (p.sender < 2 ^ 32) × (p.receiver < 2 ^ 32)) pairs

pub ids_push : (pairs : List Pair) (p : Pair) → AreIds pairs → HasIds p → AreIds (pairs ++ p ∷ [])
ids_push [] p all one = (one, tt)
ids_push (x ∷ xs) p all one = (all.0, ids_push xs p all.1 one)
