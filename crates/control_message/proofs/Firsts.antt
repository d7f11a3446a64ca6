-- The first pair of a sort, as the relation has it and as the reading finds it.
use Rattle.std.proofs.Common.{◌≡◌, ℕ, ◌&&◌, Bool, true, false, List, [], ◌∷◌, ◌++◌, length, Option, Some, None, is_some, Decides, ◌⊎◌, refl, ap, subst, ◌∙◌, inl, inr}
use Rattle.std.specs.Prelude.{◌==◌, not, IsNone, IfSome}
use Rattle.std.specs.List.{AllByRecursion, find}
use Rattle.std.proofs.lemmas.Bool.{cases_Bool, false_from_ne_true, both_ways, eq-eqb, not_from_false, not-true}
use Rattle.std.proofs.lemmas.Bool.Decides.{Decides-and, Decides-eqb}
use Rattle.avp_codec.specs.declared.avp.Avp.{Avp}
use Rattle.control_message.specs.Reading.{is_at, first, is_draw, first_draw, is_vector, has_vector, is_plain_short, short_in, plain_short}
use Rattle.control_message.specs.Grammar.{IsAt, IsFirstWith, StandsFirst, IsAbsent, IsDraw, HasNoDraw, IsPlainShort, HasPlainShort, HasNoPlainShort}
use Rattle.control_message.specs.Faults.{IsVector, HasVector, HasNoVector}

-- ---- a sort, with the test for it

module _ (test : Avp → Bool) (P : Avp → Type 0) (decides : (a : Avp) → Decides (test a) (P a)) where
  fails : (a : Avp) → (¬ P a) → test a ≡ false
  fails a h = false_from_ne_true (test a) (λ e. h ((decides a).0 e))

  none_found : (avps : List Avp) → AllByRecursion (λ a. ¬ P a) avps → find test avps ≡ None
  none_found [] h = refl
  none_found (a ∷ avps) h = rw (fails a h.0) (none_found avps h.1)

  found_none : (avps : List Avp) → find test avps ≡ None → AllByRecursion (λ a. ¬ P a) avps
  found_none [] h = tt
  found_none (a ∷ avps) h =
      elim (cases_Bool (test a)) [
        | inl t ↦ absurd (let h' : Some a ≡ None = rw t at h in cc)
        | inr f ↦ (λ p. both_ways (test a) f ((decides a).1 p), found_none avps (rw f at h))
      ]

  found_behind : (a : Avp) (before after : List Avp) → P a → AllByRecursion (λ b. ¬ P b) before → find test (before ++ a ∷ after) ≡ Some a
  found_behind a [] after is none = rw ((decides a).1 is) refl
  found_behind a (b ∷ before) after is none = rw (fails b none.0) (found_behind a before after is none.1)

  first_found : (a : Avp) (avps : List Avp) → IsFirstWith P a avps → find test avps ≡ Some a
  first_found a avps h = ap (find test) h.parts ∙ found_behind a h.before h.after h.is h.none

  found_first : (a : Avp) (avps : List Avp) → find test avps ≡ Some a → IsFirstWith P a avps
  found_first a [] h = absurd cc
  found_first a (b ∷ avps) h =
      elim (cases_Bool (test b)) [
        | inl t ↦
            let same : b ≡ a = let h' : Some b ≡ Some a = rw t at h in cc in
            record { before = []; after = avps; parts = ap (λ (x : Avp). x ∷ avps) same; is = subst P same ((decides b).0 t); none = tt }
        | inr f ↦
            let s = found_first a avps (rw f at h) in
            record { before = b ∷ s.before; after = s.after; parts = ap (λ (t : List Avp). b ∷ t) s.parts; is = s.is; none = (λ p. both_ways (test b) f ((decides b).1 p), s.none) }
      ]

-- ---- the pairs of an attribute

pub decides_at : (n : ℕ) (a : Avp) → Decides (is_at n a) (IsAt n a)
decides_at n a =
    let both : Decides (is_at n a) (((a.vendor ≡ 0) × (a.attribute ≡ n)) × (a.reserved ≡ 0)) = Decides-and (a.vendor == 0 && a.attribute == n) (a.reserved == 0) (Decides-and (a.vendor == 0) (a.attribute == n) (Decides-eqb a.vendor 0) (Decides-eqb a.attribute n)) (Decides-eqb a.reserved 0) in
    (λ e. let h = both.0 e in (h.0.0, h.0.1, h.1), λ h. both.1 ((h.0, h.1), h.2))

pub absent_first : (n : ℕ) (avps : List Avp) → IsAbsent n avps → first n avps ≡ None
absent_first n avps h = none_found (λ a. is_at n a) (λ a. IsAt n a) (decides_at n) avps h

pub first_absent : (n : ℕ) (avps : List Avp) → first n avps ≡ None → IsAbsent n avps
first_absent n avps h = found_none (λ a. is_at n a) (λ a. IsAt n a) (decides_at n) avps h

pub first_stands : (n : ℕ) (a : Avp) (avps : List Avp) → StandsFirst n a avps → first n avps ≡ Some a
first_stands n a avps h = first_found (λ a. is_at n a) (λ a. IsAt n a) (decides_at n) a avps h

pub stands_first : (n : ℕ) (a : Avp) (avps : List Avp) → first n avps ≡ Some a → StandsFirst n a avps
stands_first n a avps h = found_first (λ a. is_at n a) (λ a. IsAt n a) (decides_at n) a avps h

-- ---- Draw Numbers

pub decides_draw : (a : Avp) → Decides (is_draw a) (IsDraw a)
decides_draw a =
    let both : Decides (is_draw a) (((a.vendor ≡ 65535) × (a.attribute ≡ 1)) × (a.reserved ≡ 0)) = Decides-and (a.vendor == 65535 && a.attribute == 1) (a.reserved == 0) (Decides-and (a.vendor == 65535) (a.attribute == 1) (Decides-eqb a.vendor 65535) (Decides-eqb a.attribute 1)) (Decides-eqb a.reserved 0) in
    (λ e. let h = both.0 e in (h.0.0, h.0.1, h.1), λ h. both.1 ((h.0, h.1), h.2))

pub no_draw_first : (avps : List Avp) → HasNoDraw avps → first_draw avps ≡ None
no_draw_first avps h = none_found (λ a. is_draw a) (λ a. IsDraw a) decides_draw avps h

pub first_no_draw : (avps : List Avp) → first_draw avps ≡ None → HasNoDraw avps
first_no_draw avps h = found_none (λ a. is_draw a) (λ a. IsDraw a) decides_draw avps h

pub draw_first : (a : Avp) (avps : List Avp) → IsFirstWith (λ b. IsDraw b) a avps → first_draw avps ≡ Some a
draw_first a avps h = first_found (λ a. is_draw a) (λ a. IsDraw a) decides_draw a avps h

pub first_draws : (a : Avp) (avps : List Avp) → first_draw avps ≡ Some a → IsFirstWith (λ b. IsDraw b) a avps
first_draws a avps h = found_first (λ a. is_draw a) (λ a. IsDraw a) decides_draw a avps h

-- ---- Random Vectors

pub decides_vector : (a : Avp) → Decides (is_vector a) (IsVector a)
decides_vector a = Decides-and (is_at 36 a) (not a.hidden) (decides_at 36 a) (not-true a.hidden, not_from_false a.hidden)

vector_in : (avps : List Avp) (o : Option Avp) → find (λ a. is_vector a) avps ≡ o → ((is_some o ≡ true) × HasVector avps) ⊎ ((is_some o ≡ false) × HasNoVector avps)
vector_in avps None h = inr (refl, found_none (λ a. is_vector a) (λ a. IsVector a) decides_vector avps h)
vector_in avps (Some a) h = inl (refl, (a, found_first (λ a. is_vector a) (λ a. IsVector a) decides_vector a avps h))

pub vector_or_none : (avps : List Avp) → ((has_vector avps ≡ true) × HasVector avps) ⊎ ((has_vector avps ≡ false) × HasNoVector avps)
vector_or_none avps = vector_in avps (find (λ a. is_vector a) avps) refl

pub vector_there : (avps : List Avp) → HasVector avps → has_vector avps ≡ true
vector_there avps h = ap is_some (first_found (λ a. is_vector a) (λ a. IsVector a) decides_vector h.0 avps h.1)

pub vector_none : (avps : List Avp) → HasNoVector avps → has_vector avps ≡ false
vector_none avps h = ap is_some (none_found (λ a. is_vector a) (λ a. IsVector a) decides_vector avps h)

-- ---- the plain ones with two bytes

decides_plain : (n : ℕ) (a : Avp) → Decides (is_plain_short n a) (IsPlainShort n a)
decides_plain n a =
    let plain : Decides (not a.hidden) (a.hidden ≡ false) = (not-true a.hidden, not_from_false a.hidden) in
    let both : Decides (is_plain_short n a) (IsAt n a × ((a.hidden ≡ false) × (length a.value ≡ 2))) = Decides-and (is_at n a) (not a.hidden && length a.value == 2) (decides_at n a) (Decides-and (not a.hidden) (length a.value == 2) plain (Decides-eqb (length a.value) 2)) in
    (λ e. let h = both.0 e in (h.0, h.1.0, h.1.1), λ h. both.1 (h.0, (h.1, h.2)))

short_at : (n : ℕ) (avps : List Avp) (o : Option Avp) → find (λ a. is_plain_short n a) avps ≡ o → IfSome (short_in o) (λ x. HasPlainShort n x avps)
short_at n avps None h = tt
short_at n avps (Some a) h =
    let f = found_first (λ a. is_plain_short n a) (λ a. IsPlainShort n a) (decides_plain n) a avps h in
    rw (eq-eqb (length a.value) 2 f.is.2) (record { pair = a; first = f; number = refl })

pub plain_there : (n : ℕ) (avps : List Avp) → IfSome (plain_short n avps) (λ x. HasPlainShort n x avps)
plain_there n avps = short_at n avps (find (λ a. is_plain_short n a) avps) refl

none_at : (n : ℕ) (avps : List Avp) (o : Option Avp) → find (λ a. is_plain_short n a) avps ≡ o → IsNone (short_in o) → HasNoPlainShort n avps
none_at n avps None h none = found_none (λ a. is_plain_short n a) (λ a. IsPlainShort n a) (decides_plain n) avps h
none_at n avps (Some a) h none =
    let f = found_first (λ a. is_plain_short n a) (λ a. IsPlainShort n a) (decides_plain n) a avps h in
    absurd (let none' : true ≡ false = rw (eq-eqb (length a.value) 2 f.is.2) at none in cc)

pub plain_none : (n : ℕ) (avps : List Avp) → IsNone (plain_short n avps) → HasNoPlainShort n avps
plain_none n avps h = none_at n avps (find (λ a. is_plain_short n a) avps) refl h

pub none_plain : (n : ℕ) (avps : List Avp) → HasNoPlainShort n avps → IsNone (plain_short n avps)
none_plain n avps h = rw (none_found (λ a. is_plain_short n a) (λ a. IsPlainShort n a) (decides_plain n) avps h) refl
