-- The ceilings that a step leaves are in place.
use Rattle.std.proofs.Common.{◌≡◌, inl, inr, ℕ, ◌+◌, ◌*◌, ◌<◌, ◌≤◌, suc, zero, true, cond, List, refl, sym, ◌∙◌, ap, subst, arith, Result, Ok, Err}
use Rattle.std.specs.Prelude.{◌-◌, ◌/◌, min, map}
use Rattle.std.proofs.lemmas.Bool.{cases_lt}
use Rattle.id_source.specs.declared.IdError.{IdError}
use Rattle.id_source.specs.Spaces.{Space, takes_id, with_taken, after_id, ceiling_for, draw_is, counting_from}
use Rattle.session_book.specs.declared.record.Record.{Record}
use Rattle.session_book.specs.declared.record.Record.TheVariants.{Ceiling}
use Rattle.session_book.specs.Books.{Kept, ceiling, last, raised, fits}
use Rattle.end_model.specs.Contents.{ceilings_of}
use Rattle.book_laws.specs.Books.{SpaceFits, AreInPlace, book_after}
use Rattle.book_laws.proofs.Lists.{below, not_below, within, both}

-- ---- a space after some draws

-- its ceiling rose by so many times 64, at most up to the last number, and no more often than needed
pub record Rose (b a : Space) : Type 0 where
  pub last : a.last ≡ b.last
  pub times : ℕ
  pub ceiling : a.ceiling ≡ min b.last (b.ceiling + 64 * times)
  pub needed : (m : ℕ) → times ≡ suc m → b.ceiling + 64 * m < b.last

pub rose_none : (l : ℕ) (b : Space) → SpaceFits l b → Rose b b
rose_none l b fit = record {
  last = refl;
  times = 0;
  ceiling = (let le = fit.within in let is = fit.last in omega (arith, le, is));
  needed = λ m e. absurd (omega (arith, e));
}

-- one more draw
drawn_fits : (l : ℕ) (s : Space) → SpaceFits l s → s.next ≤ s.last → SpaceFits l (record s { ceiling = ceiling_for s; next = s.next + 1 })
drawn_fits l s fit le = elim (cases_lt s.ceiling s.next) [
  | inl lt ↦
      let up : ceiling_for s ≡ min s.last (s.ceiling + 64) = ap (λ b. cond b (min s.last (s.ceiling + 64)) s.ceiling) (below s.ceiling s.next lt) in
      let is = fit.last in
      let d = fit.drawn in
      record { last = is; drawn = omega (arith, up, d, le, lt); within = omega (arith, up, is) }
  | inr far ↦
      let stays : ceiling_for s ≡ s.ceiling = ap (λ b. cond b (min s.last (s.ceiling + 64)) s.ceiling) (not_below s.ceiling s.next far) in
      let w = fit.within in
      record { last = fit.last; drawn = omega (arith, stays, far); within = omega (arith, stays, w) }
]

drawn_rose : (l : ℕ) (b s : Space) → SpaceFits l s → Rose b s → s.next ≤ s.last → Rose b (record s { ceiling = ceiling_for s; next = s.next + 1 })
drawn_rose l b s fit rose le = elim (cases_lt s.ceiling s.next) [
  | inl lt ↦
      let up : ceiling_for s ≡ min s.last (s.ceiling + 64) = ap (λ b. cond b (min s.last (s.ceiling + 64)) s.ceiling) (below s.ceiling s.next lt) in
      let is = rose.last in
      let c = rose.ceiling in
      let n = rose.times in
      record {
        last = is;
        times = n + 1;
        ceiling = omega (arith, up, is, c, lt, le);
        needed = λ m e. omega (arith, e, is, c, lt, le);
      }
  | inr far ↦
      let stays : ceiling_for s ≡ s.ceiling = ap (λ b. cond b (min s.last (s.ceiling + 64)) s.ceiling) (not_below s.ceiling s.next far) in
      record { last = rose.last; times = rose.times; ceiling = stays ∙ rose.ceiling; needed = rose.needed }
]

with_taken_fits : (l : ℕ) (b s : Space) → SpaceFits l s → Rose b s → (r : Result ℕ IdError) → takes_id s ≡ r → SpaceFits l (with_taken r s) × Rose b (with_taken r s)
with_taken_fits l b s fit rose (Err x) is = (fit, rose)
with_taken_fits l b s fit rose (Ok n) is =
    let d = draw_is s n is in
    let le : s.next ≤ s.last = (let own = d.0 in let most = d.1 in omega (arith, own, most)) in (
      subst (λ m. SpaceFits l (record s { ceiling = ceiling_for s; next = m + 1 })) (sym d.0) (drawn_fits l s fit le),
      subst (λ m. Rose b (record s { ceiling = ceiling_for s; next = m + 1 })) (sym d.0) (drawn_rose l b s fit rose le),
    )

pub draw_goes : (l : ℕ) (b s : Space) → SpaceFits l s → Rose b s → SpaceFits l (after_id s) × Rose b (after_id s)
draw_goes l b s fit rose = with_taken_fits l b s fit rose (takes_id s) refl

-- ---- the records

-- how often it rose
times_is : (b a : Space) (l : ℕ) → SpaceFits l b → (rose : Rose b a) → (a.ceiling - b.ceiling + 63) / 64 ≡ rose.times
times_is b a l fit rose = by rose.times refl
  where
    by : (n : ℕ) → rose.times ≡ n → (a.ceiling - b.ceiling + 63) / 64 ≡ n
    by zero e = (let c = rose.ceiling in let w = fit.within in let is = fit.last in omega (arith, e, c, w, is))
    by (suc m) e = (let c = rose.ceiling in let w = fit.within in let is = fit.last in let some = rose.needed m e in omega (arith, e, c, w, is, some))

-- a space of a book: which ceiling it has, and what becomes of the book where it is raised
pub record IsSpace (space : ℕ) : Type 0 where
  pub set : (n : ℕ) (k : Kept) → ceiling (raised space n k) space ≡ n
  pub again : (m n : ℕ) (k : Kept) → raised space m (raised space n k) ≡ raised space m k
  pub own : (k : Kept) → raised space (ceiling k space) k ≡ k

module _ (space : ℕ) (is : IsSpace space) (b : Space) (known : last space ≡ b.last) where
  abbrev at_step : ℕ → ℕ
  at_step i = min b.last (b.ceiling + 64 * i)

  abbrev rises : List ℕ → List Record
  rises is = map (λ i. Ceiling space (at_step i)) is

  -- from a place on
  rise : (n i j : ℕ) (k : Kept) → j ≡ i + 1 → ceiling k space ≡ at_step i → ((m : ℕ) → n ≡ suc m → b.ceiling + 64 * (i + m) < b.last)
      → AreInPlace k (rises (counting_from j n)) × (book_after k (rises (counting_from j n)) ≡ raised space (at_step (i + n)) k)
  unfolding counting_from
  rise zero i j k next here needed =
      let same : i + 0 ≡ i = omega arith in
      (tt, sym (is.own k) ∙ ap (λ m. raised space m k) (here ∙ ap at_step (sym same)))
  rise (suc n) i j k next here needed =
      let some = needed n refl in
      let up : at_step i < at_step j = omega (arith, some, next) in
      let lower : ceiling k space < at_step j = omega (arith, up, here) in
      let most : at_step j ≤ last space = omega (arith, known) in
      let fit : fits k (Ceiling space (at_step j)) ≡ true = both _ _ (below (ceiling k space) (at_step j) lower) (within (at_step j) (last space) most) in
      let later = rise n j (j + 1) (raised space (at_step j) k) refl (is.set (at_step j) k) (λ m e. (let s = needed n refl in omega (arith, s, e, next))) in
      let sum : j + n ≡ i + suc n = omega (arith, next) in
      ((fit, later.0), later.1 ∙ is.again (at_step (j + n)) (at_step j) k ∙ ap (λ m. raised space (at_step m) k) sum)

  pub ceilings_go : (a : Space) (l : ℕ) (k : Kept) → SpaceFits l b → Rose b a → ceiling k space ≡ b.ceiling
      → AreInPlace k (ceilings_of space b a) × (book_after k (ceilings_of space b a) ≡ raised space a.ceiling k)
  ceilings_go a l k fit rose here =
      let start : ceiling k space ≡ at_step 0 = (let w = fit.within in let e = fit.last in omega (arith, here, w, e)) in
      let all = rise rose.times 0 1 k refl start (λ m e. (let s = rose.needed m e in omega (arith, s))) in
      let count = times_is b a l fit rose in
      let sum : 0 + rose.times ≡ rose.times = omega arith in
      let end : raised space (at_step (0 + rose.times)) k ≡ raised space a.ceiling k = ap (λ m. raised space m k) (ap at_step sum ∙ sym rose.ceiling) in
      subst (λ n. AreInPlace k (rises (counting_from 1 n)) × (book_after k (rises (counting_from 1 n)) ≡ raised space a.ceiling k)) (sym count) (all.0, all.1 ∙ end)

pub first_space : IsSpace 1
first_space = record { set = λ n k. refl; again = λ m n k. refl; own = λ k. refl }

pub second_space : IsSpace 2
second_space = record { set = λ n k. refl; again = λ m n k. refl; own = λ k. refl }

pub third_space : IsSpace 3
third_space = record { set = λ n k. refl; again = λ m n k. refl; own = λ k. refl }
