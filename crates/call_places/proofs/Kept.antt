-- Room that is made for the places of one call after another.
use Rattle.std.proofs.Common.{◌≡◌, ℕ, zero, suc, ◌+◌, ◌<◌, List, [], ◌∷◌, length, get_or, take, drop, add-one, subst, sym, ap, ◌∙◌, drop-cons, arith}
use Rattle.id_table.specs.Tables.{Kept, HasRoom, KeepsRoom}
use Rattle.end_model.specs.declared.tunnel.CallPlace.{CallPlace}
use Rattle.id_table.specs.Ids.{put}
use Rattle.end_model.specs.End.{placed, new_place}
use Rattle.call_places.specs.Rooms.{HaveRoom}

cons_drop : (ss : List ℕ) (i : ℕ) → i < length ss → drop i ss ≡ get_or ss i 0 ∷ drop (i + 1) ss
cons_drop ss i lt = rw add-one (drop-cons ss i 0 lt)

-- one call more has its place
pub place_next : (t : ℕ) (ss : List ℕ) (i : ℕ) → i < length ss → (p q : List (ℕ × CallPlace)) → q ≡ put p (get_or ss i 0) (new_place t) → placed t (drop (i + 1) ss) q ≡ placed t (drop i ss) p
unfolding placed
place_next t ss i lt p q e = ap (λ x. placed t (drop (i + 1) ss) x) e ∙ ap (λ xs. placed t xs p) (sym (cons_drop ss i lt))

module _ (old new : Kept CallPlace) (keeps : KeepsRoom old new) where
  pub have_still : (ss : List ℕ) → HaveRoom old ss → HaveRoom new ss
  have_still [] h = tt
  have_still (s ∷ ss) h = (keeps s h.0, have_still ss h.1)

  one_more : (ss : List ℕ) (i : ℕ) → i < length ss → HaveRoom old (take i ss) → HasRoom new (get_or ss i 0) → HaveRoom new (take (suc i) ss)
  one_more [] i lt h room = absurd (omega (arith, lt))
  one_more (s ∷ ss) zero lt h room = (room, tt)
  one_more (s ∷ ss) (suc i) lt h room = (keeps s h.0, one_more ss i (omega (arith, lt)) h.1 room)

  pub room_for_one_more : (ss : List ℕ) (i : ℕ) → i < length ss → HaveRoom old (take i ss) → HasRoom new (get_or ss i 0) → HaveRoom new (take (i + 1) ss)
  room_for_one_more ss i lt h room = rw add-one (one_more ss i lt h room)

  -- those that are left have room still
  pub rest_have_room : (ss : List ℕ) (i : ℕ) → i < length ss → HaveRoom old (drop i ss) → HaveRoom new (drop (i + 1) ss)
  rest_have_room ss i lt h = have_still (drop (i + 1) ss) (subst (λ xs. HaveRoom old xs) (cons_drop ss i lt) h).1
