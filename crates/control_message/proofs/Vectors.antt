-- Which Random Vector counts behind some pairs, and what a pair is behind it.
use Rattle.std.proofs.Common.{◌≡◌, ℕ, ◌||◌, Bool, true, false, List, [], ◌∷◌, ◌++◌, Option, Some, None, Decides, refl, sym, ap, subst, ◌∙◌, inl, inr, append_assoc}
use Rattle.std.specs.Prelude.{not, if◌then◌else◌}
use Rattle.std.specs.List.{AllByRecursion}
use Rattle.std.proofs.lemmas.Bool.{cases_Bool, false_from_ne_true, both_ways}
use Rattle.std.proofs.lemmas.Bool.Decides.{Decides-and, Decides-or, Decides-not}
use Rattle.avp_codec.specs.declared.avp.Avp.{Avp}
use Rattle.tunnel_secret.specs.Holding.{Hides, HidesNone}
use Rattle.tunnel_secret.proofs.Values.{given_again, told_again}
use Rattle.control_message.specs.Reading.{is_at, is_vector}
use Rattle.control_message.specs.Faults.{IsVector, HasNoVector}
use Rattle.control_message.specs.Uncovering.{may_be_uncovered, uncovered_pair, vector_after, uncovered_all, uncovered, HasLastVector, IsVectorBehind, StaysHidden, HidesValue, Stays, IsUncovered, UncoversBehind, Uncovers}
use Rattle.control_message.proofs.Firsts.{decides_at, decides_vector}

-- ---- the last vector

-- the vector behind more pairs
abbrev last_of : Option (List ℕ) → List Avp → Option (List ℕ)
last_of vector [] = vector
last_of vector (a ∷ avps) = last_of (vector_after vector a) avps

no_vector : (a : Avp) → ¬ IsVector a → is_vector a ≡ false
no_vector a h = false_from_ne_true (is_vector a) (λ t. h ((decides_vector a).0 t))

none_last : (avps : List Avp) (vector : Option (List ℕ)) → HasNoVector avps → last_of vector avps ≡ vector
none_last [] vector h = refl
none_last (a ∷ avps) vector h = rw (no_vector a h.0) (none_last avps vector h.1)

there_last : (before after : List Avp) (a : Avp) (vector : Option (List ℕ)) → IsVector a → HasNoVector after → last_of vector (before ++ a ∷ after) ≡ Some a.value
there_last [] after a vector is none =
    ap (λ (b : Bool). last_of (if b then Some a.value else vector) after) ((decides_vector a).1 is) ∙ none_last after (Some a.value) none
there_last (b ∷ before) after a vector is none = there_last before after a (vector_after vector b) is none

behind_last : (before : List Avp) (vector : Option (List ℕ)) → IsVectorBehind before vector → last_of None before ≡ vector
behind_last before None h = none_last before None h
behind_last before (Some v) h =
    ap (last_of None) h.parts ∙ there_last h.before h.after h.pair None h.is h.none ∙ ap (λ (x : List ℕ). Some x) h.same

same_vector : (before : List Avp) (v w : List ℕ) → HasLastVector before v → HasLastVector before w → v ≡ w
same_vector before v w h k =
    let p = behind_last before (Some v) h in
    let q = behind_last before (Some w) k in
    let e : Some v ≡ Some w = sym p ∙ q in
    cc

not_both : (before : List Avp) (v : List ℕ) → HasLastVector before v → ¬ HasNoVector before
not_both before v h none =
    let p = behind_last before (Some v) h in
    let q = behind_last before None none in
    let e : Some v ≡ None = sym p ∙ q in
    absurd cc

all_more : (P : Avp → Type 0) (avps : List Avp) (a : Avp) → AllByRecursion P avps → P a → AllByRecursion P (avps ++ a ∷ [])
all_more P [] a h p = (p, tt)
all_more P (b ∷ avps) a h p = (h.0, all_more P avps a h.1 p)

behind_same : (before : List Avp) (vector : Option (List ℕ)) (a : Avp) → ¬ IsVector a → IsVectorBehind before vector → IsVectorBehind (before ++ a ∷ []) vector
behind_same before None a other h = all_more (λ (b : Avp). ¬ IsVector b) before a h other
behind_same before (Some v) a other h =
    record {
      before = h.before;
      after = h.after ++ a ∷ [];
      pair = h.pair;
      parts = ap (λ (t : List Avp). t ++ a ∷ []) h.parts ∙ append_assoc h.before (h.pair ∷ h.after) (a ∷ []);
      is = h.is;
      same = h.same;
      none = all_more (λ (b : Avp). ¬ IsVector b) h.after a h.none other;
    }

-- one pair more
pub behind_more : (before : List Avp) (vector : Option (List ℕ)) (a : Avp) → IsVectorBehind before vector → IsVectorBehind (before ++ a ∷ []) (vector_after vector a)
behind_more before vector a h =
    elim (cases_Bool (is_vector a)) [
      | inl t ↦
          let last : HasLastVector (before ++ a ∷ []) a.value = record { before = before; after = []; pair = a; parts = refl; is = (decides_vector a).0 t; same = refl; none = tt } in
          rw t last
      | inr f ↦ rw f (behind_same before vector a (λ is. both_ways (is_vector a) f ((decides_vector a).1 is)) h)
    ]

-- ---- one pair

decides_stays : (a : Avp) → Decides (is_at 0 a || is_at 36 a) (StaysHidden a)
decides_stays a = Decides-or (is_at 0 a) (is_at 36 a) (decides_at 0 a) (decides_at 36 a)

decides_may : (a : Avp) → Decides (may_be_uncovered a) ((a.hidden ≡ true) × (¬ StaysHidden a))
decides_may a =
    Decides-and a.hidden (not (is_at 0 a || is_at 36 a)) (λ e. e, λ e. e) (Decides-not (is_at 0 a || is_at 36 a) (decides_stays a))

-- why a pair isn't uncovered behind a vector
pub may_not : (secret : List ℕ) (before : List Avp) (a : Avp) → may_be_uncovered a ≡ false → Stays secret before a
may_not secret before a h =
    elim (cases_Bool a.hidden) [
      | inr plain ↦ inl plain
      | inl hid ↦ elim (cases_Bool (is_at 0 a || is_at 36 a)) [
        | inl t ↦ inr (inl ((decides_stays a).0 t))
        | inr f ↦ absurd (both_ways (may_be_uncovered a) h ((decides_may a).1 (hid, λ s. both_ways (is_at 0 a || is_at 36 a) f ((decides_stays a).1 s))))
      ]
    ]

pub reveals : (secret vector value : List ℕ) (before : List Avp) (a : Avp) → may_be_uncovered a ≡ true → HasLastVector before vector → Hides a.attribute secret vector value a.value → HidesValue secret before a value
reveals secret vector value before a may last hides =
    let m = (decides_may a).0 may in
    record { vector = vector; last = last; is = m.0; other = m.1; hides = hides }

pub reveals_none : (secret vector : List ℕ) (said have : ℕ) (before : List Avp) (a : Avp) → HasLastVector before vector → HidesNone a.attribute secret vector a.value said have → Stays secret before a
reveals_none secret vector said have before a last none =
    inr (inr (inr (record { vector = vector; said = said; have = have; last = last; none = none })))

value_is : (secret vector value : List ℕ) (a : Avp) → may_be_uncovered a ≡ true → Hides a.attribute secret vector value a.value
    → uncovered_pair secret (Some vector) a ≡ record a { hidden = false; value = value }
unfolding uncovered_pair
value_is secret vector value a may hides = rw (may, given_again a.attribute secret vector value a.value hides) refl

not_may : (secret vector : List ℕ) (a : Avp) → may_be_uncovered a ≡ false → uncovered_pair secret (Some vector) a ≡ a
unfolding uncovered_pair
not_may secret vector a may = rw may refl

no_value_is : (secret vector : List ℕ) (said have : ℕ) (a : Avp) → HidesNone a.attribute secret vector a.value said have → uncovered_pair secret (Some vector) a ≡ a
unfolding uncovered_pair
no_value_is secret vector said have a none =
    elim (cases_Bool (may_be_uncovered a)) [
      | inl t ↦ rw (t, told_again a.attribute secret vector a.value said have none) refl
      | inr f ↦ rw f refl
    ]

-- a pair that stays
stays_is : (secret v : List ℕ) (before : List Avp) (a : Avp) → HasLastVector before v → Stays secret before a → uncovered_pair secret (Some v) a ≡ a
stays_is secret v before a last (inl plain) =
    not_may secret v a (false_from_ne_true (may_be_uncovered a) (λ t. both_ways a.hidden plain ((decides_may a).0 t).0))
stays_is secret v before a last (inr (inl other)) =
    not_may secret v a (false_from_ne_true (may_be_uncovered a) (λ t. ((decides_may a).0 t).1 other))
stays_is secret v before a last (inr (inr (inl none))) = absurd (not_both before v last none)
stays_is secret v before a last (inr (inr (inr bad))) =
    let same = same_vector before bad.vector v bad.last last in
    subst (λ (x : List ℕ). uncovered_pair secret (Some x) a ≡ a) same (no_value_is secret bad.vector bad.said bad.have a bad.none)

hidden_is : (secret v : List ℕ) (before : List Avp) (a : Avp) (value : List ℕ) → HasLastVector before v → HidesValue secret before a value
    → uncovered_pair secret (Some v) a ≡ record a { hidden = false; value = value }
hidden_is secret v before a value last h =
    let same = same_vector before h.vector v h.last last in
    subst (λ (x : List ℕ). uncovered_pair secret (Some x) a ≡ record a { hidden = false; value = value }) same
    (value_is secret h.vector value a ((decides_may a).1 (h.is, h.other)) h.hides)

none_is : (secret : List ℕ) (a : Avp) → uncovered_pair secret None a ≡ a
unfolding uncovered_pair
none_is secret a = refl

is_pair : (secret : List ℕ) (before : List Avp) (vector : Option (List ℕ)) (a p : Avp) → IsVectorBehind before vector → IsUncovered secret before a p
    → p ≡ uncovered_pair secret vector a
is_pair secret before None a p none (inl h) = absurd (not_both before h.1.vector h.1.last none)
is_pair secret before None a p none (inr h) = h.0 ∙ sym (none_is secret a)
is_pair secret before (Some v) a p last (inl h) = h.2 ∙ sym (hidden_is secret v before a h.0 last h.1)
is_pair secret before (Some v) a p last (inr h) = h.0 ∙ sym (stays_is secret v before a last h.1)

-- ---- all pairs

is_behind : (secret : List ℕ) (before avps plain : List Avp) (vector : Option (List ℕ)) → IsVectorBehind before vector → UncoversBehind secret before avps plain
    → plain ≡ uncovered_all secret vector avps
is_behind secret before [] [] vector b h = refl
is_behind secret before [] (p ∷ plain) vector b h = absurd h
is_behind secret before (a ∷ avps) [] vector b h = absurd h
is_behind secret before (a ∷ avps) (p ∷ plain) vector b h =
    let one = is_pair secret before vector a p b h.0 in
    let others = is_behind secret (before ++ a ∷ []) avps plain (vector_after vector a) (behind_more before vector a b) h.1 in
    ap (λ (x : Avp). x ∷ plain) one ∙ ap (λ (t : List Avp). uncovered_pair secret vector a ∷ t) others

-- what the relation says is what the function gives
pub uncovers_is : (k : Option (List ℕ)) (avps plain : List Avp) → Uncovers k avps plain → plain ≡ uncovered k avps
uncovers_is None avps plain h = h
uncovers_is (Some secret) avps plain h = is_behind secret [] avps plain None tt h

-- where no pair is hidden, each stays, for that cause
pub stays_behind : (secret : List ℕ) (before avps : List Avp) → AllByRecursion (λ (a : Avp). a.hidden ≡ false) avps → UncoversBehind secret before avps avps
stays_behind secret before [] h = tt
stays_behind secret before (a ∷ avps) h = (inr (refl, inl h.0), stays_behind secret (before ++ a ∷ []) avps h.1)

-- ---- one after the other

-- where the loop stands, with the pairs that it passed and those that are left
pub record Stands (secret : List ℕ) (avps plain : List Avp) (vector : Option (List ℕ)) (left : List Avp) : Type 0 where
  pub before : List Avp
  pub last : IsVectorBehind before vector
  pub exact : plain ++ uncovered_all secret vector left ≡ uncovered_all secret None avps
  pub found : (rest : List Avp) → UncoversBehind secret before left rest → UncoversBehind secret [] avps (plain ++ rest)

pub goes_on : (secret : List ℕ) (avps plain more : List Avp) (vector next : Option (List ℕ)) (left behind : List Avp) (a p : Avp) → (h : Stands secret avps plain vector left)
    → left ≡ a ∷ behind → p ≡ uncovered_pair secret vector a → IsUncovered secret h.before a p
    → next ≡ vector_after vector a → more ≡ plain ++ p ∷ [] → Stands secret avps more next behind
goes_on secret avps plain more vector next left behind a p h parts same is follows grown =
    let others : List Avp = uncovered_all secret (vector_after vector a) behind in
    let joined : (plain ++ p ∷ []) ++ others ≡ uncovered_all secret None avps =
    append_assoc plain (p ∷ []) others
    ∙ ap (λ (x : Avp). plain ++ x ∷ others) same
    ∙ ap (λ (d : List Avp). plain ++ uncovered_all secret vector d) (sym parts)
    ∙ h.exact in
    record {
      before = h.before ++ a ∷ [];
      last = rw follows (behind_more h.before vector a h.last);
      exact = rw (grown, follows) joined;
      found = λ rest u.
          let whole : UncoversBehind secret h.before left (p ∷ rest) = subst (λ (d : List Avp). UncoversBehind secret h.before d (p ∷ rest)) (sym parts) (is, u) in
          let all : (plain ++ p ∷ []) ++ rest ≡ plain ++ p ∷ rest = append_assoc plain (p ∷ []) rest in
          rw (grown, all) (h.found (p ∷ rest) whole);
    }
