-- What is counted of tunnels, one tunnel after another: the room that is made for it, and what it is as their channels are lost.
use Rattle.std.proofs.Common.{◌≡◌, ℕ, zero, suc, ◌+◌, ◌<◌, List, [], ◌∷◌, length, get_or, take, drop, add-one, subst, sym, ap, ◌∙◌, drop-cons, arith}
use Rattle.std.specs.Prelude.{unwrap_or}
use Rattle.std.specs.List.{AllByRecursion}
use Rattle.id_table.specs.Ids.{at, put}
use Rattle.id_table.specs.Tables.{Kept, HasRoom, KeepsRoom}
use Rattle.end_model.specs.End.{End}
use Rattle.world_model.specs.declared.standing.Standing.{Standing}
use Rattle.world_model.specs.World.{no_standing, lost_with, loses_counts}

abbrev pub HaveRoom : Kept Standing → List ℕ → Type 0
HaveRoom kept tunnels = AllByRecursion (λ i. HasRoom kept i) tunnels

cons_drop : (is : List ℕ) (k : ℕ) → k < length is → drop k is ≡ get_or is k 0 ∷ drop (k + 1) is
cons_drop is k lt = rw add-one (drop-cons is k 0 lt)

module _ (old new : Kept Standing) (keeps : KeepsRoom old new) where
  have_still : (is : List ℕ) → HaveRoom old is → HaveRoom new is
  have_still [] h = tt
  have_still (i ∷ is) h = (keeps i h.0, have_still is h.1)

  one_more : (is : List ℕ) (k : ℕ) → k < length is → HaveRoom old (take k is) → HasRoom new (get_or is k 0) → HaveRoom new (take (suc k) is)
  one_more [] k lt h room = absurd (omega (arith, lt))
  one_more (i ∷ is) zero lt h room = (room, tt)
  one_more (i ∷ is) (suc k) lt h room = (keeps i h.0, one_more is k (omega (arith, lt)) h.1 room)

  -- there is room for one tunnel more
  pub room_for_one_more : (is : List ℕ) (k : ℕ) → k < length is → HaveRoom old (take k is) → HasRoom new (get_or is k 0)
      → HaveRoom new (take (k + 1) is)
  room_for_one_more is k lt h room = rw add-one (one_more is k lt h room)

  -- and for those that are left still
  pub rest_have_room : (is : List ℕ) (k : ℕ) → k < length is → HaveRoom old (drop k is) → HaveRoom new (drop (k + 1) is)
  rest_have_room is k lt h = have_still (drop (k + 1) is) (subst (λ xs. HaveRoom old xs) (cons_drop is k lt) h).1

-- for the next tunnel there is room
pub next_has_room : (kept : Kept Standing) (is : List ℕ) (k : ℕ) → k < length is → HaveRoom kept (drop k is) → HasRoom kept (get_or is k 0)
next_has_room kept is k lt h = (subst (λ xs. HaveRoom kept xs) (cons_drop is k lt) h).0

-- the channel of one tunnel more is lost
pub loses_one : (e : End) (is : List ℕ) (k : ℕ) → k < length is → (xs ys : List (ℕ × Standing))
    → ys ≡ put xs (get_or is k 0) (lost_with (at e.tunnels (get_or is k 0)) (unwrap_or (at xs (get_or is k 0)) no_standing))
    → loses_counts e (drop (k + 1) is) ys ≡ loses_counts e (drop k is) xs
unfolding loses_counts
loses_one e is k lt xs ys put_is =
    ap (λ x. loses_counts e (drop (k + 1) is) x) put_is ∙ ap (λ js. loses_counts e js xs) (sym (cons_drop is k lt))
