-- The book of a checkpoint behind records that are committed: all of them, or those before a stop.
use Rattle.std.proofs.Common.{◌≡◌, Bool, true, false, ℕ, ◌-◌, zero, suc, List, [], ◌∷◌, length, take, refl, ap, ◌∙◌, subst, Option, Some, None}
use Rattle.std.specs.Prelude.{◌+◌, nat_le, if◌then◌else◌}
use Rattle.session_book.specs.declared.record.Record.{Record}
use Rattle.session_book.specs.Books.{Kept, fits, stepped as with_record}
use Rattle.world_model.specs.declared.stop.StopAt.{StopAt}
use Rattle.world_model.specs.World.{Checkpoint, Committed, IsFull, IsCut, IsWhole, recorded, recorded_all, is_full, with_stop, kept_by, commits_by, commits}
use Rattle.book_laws.specs.Books.{AreInPlace, book_after}

one_counted : (k : Checkpoint) (r : Record) → fits k.book r ≡ true → recorded k r ≡ record k { records = k.records + 1; book = with_record k.book r }
one_counted k r is = ap (λ (b : Bool). if b then record k { records = k.records + 1; book = with_record k.book r } else k) is

-- each record in place is counted
counted_book : (k : Checkpoint) (rs : List Record) → AreInPlace k.book rs → (recorded_all k rs).book ≡ book_after k.book rs
unfolding recorded_all
counted_book k [] in_place = refl
counted_book k (r ∷ rs) in_place =
    let next = record k { records = k.records + 1; book = with_record k.book r } in
    ap (λ (j : Checkpoint). (recorded_all j rs).book) (one_counted k r in_place.0) ∙ counted_book next rs in_place.1

pub front_in_place : (n : ℕ) (k : Kept) (rs : List Record) → AreInPlace k rs → AreInPlace k (take n rs)
front_in_place zero k rs in_place = tt
front_in_place (suc n) k [] in_place = tt
front_in_place (suc n) k (r ∷ rs) in_place = (in_place.0, front_in_place n (with_record k r) rs in_place.1)

module _ (k : Checkpoint) (rs : List Record) where
  -- what a checkpoint has where all were committed, and where a stop was reached
  abbrev Has : Committed → Type 0
  Has (IsFull records) = Unit {0}
  Has (IsCut c) = (n : ℕ) × (c.book ≡ (recorded_all k (take n rs)).book)
  Has (IsWhole c) = c.book ≡ (recorded_all k rs).book

  has : Has (commits k rs)
  unfolding commits commits_by
  has = by (is_full k rs) k.stop
    where
      by : (b : Bool) (o : Option StopAt) → Has (if b then IsFull k.records else commits_by k rs o)
      by true o = tt
      by false None = refl
      by false (Some s) = reached (nat_le s.commit (length rs))
        where
          reached : (c : Bool) → Has (if c then IsCut (recorded_all k (take (kept_by s) rs)) else IsWhole (with_stop (Some (record s { commit = s.commit - length rs })) (recorded_all k rs)))
          reached true = (kept_by s, refl)
          reached false = refl

  pub whole_book : AreInPlace k.book rs → (c : Checkpoint) → commits k rs ≡ IsWhole c → c.book ≡ book_after k.book rs
  whole_book in_place c is = subst Has is has ∙ counted_book k rs in_place

  pub cut_book : AreInPlace k.book rs → (c : Checkpoint) → commits k rs ≡ IsCut c → (n : ℕ) × (c.book ≡ book_after k.book (take n rs))
  cut_book in_place c is =
      let h : (n : ℕ) × (c.book ≡ (recorded_all k (take n rs)).book) = subst Has is has in
      (h.0, h.1 ∙ counted_book k (take h.0 rs) (front_in_place h.0 k.book rs in_place))
