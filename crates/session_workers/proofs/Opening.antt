-- Tunnels that were kept are taken in one behind another.
use Rattle.std.proofs.Common.{◌≢◌, ℕ, List, [], ◌∷◌, ◌++◌, refl, inr, ⊎_elim}
use Rattle.std.proofs.lemmas.List.Elements.{All-push, All-weaker}
use mathlib.Core.List.{IsPrefix}
use Rattle.session_cells.specs.declared.entry.Entry.{Entry}
use Rattle.session_cells.specs.declared.entry.Entry.TheVariants.{Bind, Establish, Kill}
use Rattle.session_looks.specs.declared.look.Look.TheVariants.{Unborn}
use Rattle.session_cells.specs.Logs.{look_after, HasBind, IsBorn, Entered, AllEntered}
use Rattle.session_cells.specs.Changes.{entries_of}
use Rattle.session_cells.proofs.Stories.{all_later}
use Rattle.locked_tunnels.specs.Kept.{Kept}
use Rattle.session_workers.specs.Opening.{AreEntered}

-- of an empty log no session is born
still_born : (old before : List Entry) (i : ℕ) → IsBorn [] before i → IsBorn old before i
still_born old before i born = ⊎_elim (λ (w : look_after [] i ≢ Unborn). absurd (w refl)) (λ (b : HasBind before i). inr b) born

from_nothing : (old before new : List Entry) (e : Entry) → Entered old before new e → Entered [] before new e
from_nothing old before new (Bind i d t p) h = h
from_nothing old before new (Establish i d) h = λ born. h (still_born old before i born)
from_nothing old before new (Kill i d) h = λ born. h (still_born old before i born)

all_from_nothing : (old changes new : List Entry) → AllEntered old changes new → AllEntered [] changes new
all_from_nothing old changes new all before e rest is = from_nothing old before new e (all before e rest is)

-- one tunnel more is taken in
pub one_more : (tunnels : List Kept) (k : Kept) (old new : List Entry) → IsPrefix old new → AreEntered tunnels old → AllEntered old (entries_of k.changes) new
    → AreEntered (tunnels ++ k ∷ []) new
one_more tunnels k old new pre all mine =
    All-push (λ (t : Kept). AllEntered [] (entries_of t.changes) new) tunnels k
    (All-weaker (λ (t : Kept). AllEntered [] (entries_of t.changes) old) (λ (t : Kept). AllEntered [] (entries_of t.changes) new) (λ t h. all_later [] (entries_of t.changes) old new pre h) tunnels all)
    (all_from_nothing old (entries_of k.changes) new mine)
