-- Faults along the list, as the relation has them and as the reading finds them.
use Rattle.std.proofs.Common.{◌≡◌, ℕ, ◌≤◌, ◌&&◌, ◌||◌, Bool, true, false, List, [], ◌∷◌, ◌++◌, length, Option, Some, None, is_some, Result, Ok, Err, Decides, refl, sym, ap, subst, ◌∙◌, append_assoc, append-nil, inl, inr, ◌⊎◌, arith}
use Rattle.std.specs.Prelude.{◌==◌, nat_le, not}
use Rattle.std.specs.List.{AllByRecursion}
use Rattle.std.proofs.lemmas.Bool.{cases_Bool, cases_eq, false_from_ne_true, both_ways, eq-eqb, ne_eqb, eqb-true, leb-true, le-leb}
use Rattle.std.proofs.lemmas.Bool.Decides.{Decides-and, Decides-or, Decides-eqb, Decides-not}
use Rattle.byteorder.specs.Endian.{big_number}
use Rattle.wire_base.specs.Answers.{◌>>=◌}
use Rattle.avp_codec.specs.declared.avp.Avp.{Avp}
use Rattle.control_message.specs.declared.kind.Kind.{Kind}
use Rattle.control_message.specs.declared.kind.Kind.TheVariants as kind
use Rattle.control_message.specs.declared.kind.Shape.{Shape}
use Rattle.control_message.specs.declared.kind.Shape.TheVariants.{Text, Short, Nonzero, Long, ShortLong, ShortShortShort, ShortLongLong, Sixteen, ResultCode}
use Rattle.control_message.specs.declared.message.MessageError.{MessageError}
use Rattle.control_message.specs.declared.message.MessageError.TheVariants.{NoType, UnknownType, UnknownMandatory, HiddenWithoutVector, BadValue, Missing, NoMemory}
use Rattle.control_message.specs.Table.{look_up, shape_of, uses_of, uses_draw, fits}
use Rattle.control_message.specs.Reading.{counts_once, is_listed, is_recognised, first, first_draw, has_vector, checked_value, checked_use, checked_draw, checked, checked_all}
use Rattle.control_message.specs.Grammar.{IsAbsent, IsOfIetf, IsListed, IsRecognised, IsDraw}
use Rattle.control_message.specs.Faults.{HasShape, IsUsed, IsUsedDraw, IsValued, HasFault, IsSound, IsFirstAlong}
use Rattle.control_message.proofs.Firsts.{absent_first, first_absent, no_draw_first, first_no_draw, vector_or_none, vector_there, vector_none}

-- ---- tests

decides_le : (a b : ℕ) → Decides (nat_le a b) (a ≤ b)
decides_le a b = (leb-true a b, le-leb a b)

decides_ietf : (n : ℕ) → Decides ((nat_le n 19 || (nat_le 21 n && nat_le n 39)) || (nat_le 76 n && nat_le n 79)) (IsOfIetf n)
decides_ietf n =
    let low = decides_le n 19 in
    let middle : Decides (nat_le 21 n && nat_le n 39) ((21 ≤ n) × (n ≤ 39)) = Decides-and (nat_le 21 n) (nat_le n 39) (decides_le 21 n) (decides_le n 39) in
    let high : Decides (nat_le 76 n && nat_le n 79) ((76 ≤ n) × (n ≤ 79)) = Decides-and (nat_le 76 n) (nat_le n 79) (decides_le 76 n) (decides_le n 79) in
    let all : Decides ((nat_le n 19 || (nat_le 21 n && nat_le n 39)) || (nat_le 76 n && nat_le n 79)) (((n ≤ 19) ⊎ ((21 ≤ n) × (n ≤ 39))) ⊎ ((76 ≤ n) × (n ≤ 79))) =
    Decides-or (nat_le n 19 || (nat_le 21 n && nat_le n 39)) (nat_le 76 n && nat_le n 79) (Decides-or (nat_le n 19) (nat_le 21 n && nat_le n 39) low middle) high in (
      λ e. elim (all.0 e) [ inl x ↦ elim x [ inl a ↦ inl a | inr b ↦ inr (inl b) ] | inr c ↦ inr (inr c) ],
      λ h. all.1 (elim h [ inl a ↦ inl (inl a) | inr x ↦ elim x [ inl b ↦ inl (inr b) | inr c ↦ inr c ] ]),
    )

decides_listed : (v n : ℕ) → Decides (is_listed v n) (IsListed v n)
decides_listed v n =
    elim (cases_eq v 0) [
      | inl e ↦
          rw (eq-eqb v 0 e)
          (λ t. inl (e, (decides_ietf n).0 t), λ h. elim h [ inl a ↦ (decides_ietf n).1 a.1 | inr b ↦ absurd (let other = b.0 in omega arith) ])
      | inr ne ↦
          let both : Decides (v == 65535 && n == 1) ((v ≡ 65535) × (n ≡ 1)) = Decides-and (v == 65535) (n == 1) (Decides-eqb v 65535) (Decides-eqb n 1) in
          rw (ne_eqb v 0 ne)
          (λ t. inr (both.0 t), λ h. elim h [ inl a ↦ absurd (ne a.0) | inr b ↦ both.1 b ])
    ]

pub decides_recognised : (a : Avp) → Decides (is_recognised a) (IsRecognised a)
decides_recognised a = Decides-and (a.reserved == 0) (is_listed a.vendor a.attribute) (Decides-eqb a.reserved 0) (decides_listed a.vendor a.attribute)

pub decides_shape : (s : Shape) (value : List ℕ) → Decides (fits s value) (HasShape s value)
decides_shape Text value = (λ e. tt, λ h. refl)
decides_shape Short value = Decides-eqb (length value) 2
decides_shape Nonzero value = Decides-and (length value == 2) (not (big_number 2 value == 0)) (Decides-eqb (length value) 2) (Decides-not (big_number 2 value == 0) (Decides-eqb (big_number 2 value) 0))
decides_shape Long value = Decides-eqb (length value) 4
decides_shape ShortLong value = Decides-eqb (length value) 6
decides_shape ShortShortShort value = Decides-eqb (length value) 6
decides_shape ShortLongLong value = Decides-eqb (length value) 10
decides_shape Sixteen value = Decides-eqb (length value) 16
decides_shape ResultCode value = Decides-or (length value == 2) (nat_le 4 (length value)) (Decides-eqb (length value) 2) (decides_le 4 (length value))

-- ---- a pair that is used

-- what holds of each row of a table holds of one that is looked up
pub row_holds : {V : Type 0} (P : ℕ × V → Type 0) (n : ℕ) (v : V) (rows : List (ℕ × V)) → AllByRecursion P rows → look_up n rows ≡ Some v → P (n, v)
row_holds P n v [] all h = absurd cc
row_holds {V} P n v (u ∷ rows) all h =
    elim (cases_Bool (n == u.0)) [
      | inl t ↦
          let same : u.1 ≡ v = let h' : Some u.1 ≡ Some v = rw t at h in cc in
          let number : u.0 ≡ n = sym (eqb-true n u.0 t) in
          subst (λ (m : ℕ). P (m, v)) number (subst (λ (r : V). P (u.0, r)) same all.0)
      | inr f ↦ row_holds P n v rows all.1 (rw f at h)
    ]

all_listed : (k : Kind) → AllByRecursion (λ (u : ℕ × Shape). is_listed 0 u.0 ≡ true) (uses_of k)
all_listed kind.Sccrq = (refl, (refl, (refl, (refl, (refl, (refl, (refl, (refl, tt))))))))
all_listed kind.Sccrp = (refl, (refl, (refl, (refl, (refl, (refl, (refl, (refl, (refl, tt)))))))))
all_listed kind.Scccn = (refl, tt)
all_listed kind.StopCcn = (refl, (refl, tt))
all_listed kind.Hello = tt
all_listed kind.Ocrq = (refl, tt)
all_listed kind.Ocrp = (refl, tt)
all_listed kind.Occn = tt
all_listed kind.Icrq = (refl, (refl, (refl, tt)))
all_listed kind.Icrp = (refl, tt)
all_listed kind.Iccn = (refl, (refl, (refl, tt)))
all_listed kind.Cdn = (refl, (refl, tt))
all_listed kind.Wen = (refl, tt)
all_listed kind.Sli = (refl, tt)
all_listed kind.Fsq = (refl, tt)
all_listed kind.Fsr = (refl, tt)

used_listed : (k : Kind) (n : ℕ) (s : Shape) → shape_of k n ≡ Some s → is_listed 0 n ≡ true
used_listed k n s h = row_holds (λ (u : ℕ × Shape). is_listed 0 u.0 ≡ true) n s (uses_of k) (all_listed k) h

-- whether it is passed over, as one whose attribute was there
passed_over : (n : ℕ) (before : List Avp) → (IsAbsent n before ⊎ (n ≡ 79)) → (counts_once n && is_some (first n before)) ≡ false
passed_over n before (inl none) = rw (absent_first n before none) (elim (cases_Bool (counts_once n)) [ inl t ↦ rw t refl | inr f ↦ rw f refl ])
passed_over n before (inr state) = rw (eq-eqb n 79 state) refl

pub checked_used : (k : Kind) (n : ℕ) (s : Shape) (before : List Avp) (a : Avp) → IsUsed k n s before a → checked k before a ≡ checked_value s (has_vector before) a
unfolding checked
checked_used k n s before a u =
    let listed : is_listed a.vendor a.attribute ≡ true = ap (λ (v : ℕ). is_listed v a.attribute) u.is.0 ∙ ap (is_listed 0) u.is.1 ∙ used_listed k n s u.shape in
    let shape : shape_of k a.attribute ≡ Some s = ap (shape_of k) u.is.1 ∙ u.shape in
    let counts : (counts_once a.attribute && is_some (first a.attribute before)) ≡ false =
    ap (λ (m : ℕ). counts_once m && is_some (first m before)) u.is.1 ∙ passed_over n before u.counts in
    rw (eq-eqb a.reserved 0 u.is.2, listed, eq-eqb a.vendor 0 u.is.0, shape, counts) refl

-- so is a Draw Number
checked_used_draw : (k : Kind) (before : List Avp) (a : Avp) → IsUsedDraw k before a → checked k before a ≡ checked_value Long (has_vector before) a
unfolding checked
checked_used_draw k before a u =
    let listed : is_listed a.vendor a.attribute ≡ true = ap (λ (v : ℕ). is_listed v a.attribute) u.is.0 ∙ ap (is_listed 65535) u.is.1 in
    let other : (a.vendor == 0) ≡ false = ap (λ (v : ℕ). v == 0) u.is.0 in
    rw (eq-eqb a.reserved 0 u.is.2, listed, other, u.used, no_draw_first before u.none) refl

pub checked_valued : (k : Kind) (n : ℕ) (s : Shape) (before : List Avp) (a : Avp) → IsValued k n s before a → checked k before a ≡ checked_value s (has_vector before) a
checked_valued k n s before a (inl u) = checked_used k n s before a u
checked_valued k n s before a (inr d) = checked_used_draw k before a d.2 ∙ ap (λ (x : Shape). checked_value x (has_vector before) a) (sym d.1)

valued_at : (k : Kind) (n : ℕ) (s : Shape) (before : List Avp) (a : Avp) → IsValued k n s before a → a.attribute ≡ n
valued_at k n s before a (inl u) = u.is.1
valued_at k n s before a (inr d) = d.2.is.1 ∙ sym d.0

-- ---- the fault of one pair

no_some : (o : Option Avp) → is_some o ≡ false → o ≡ None
no_some None e = refl
no_some (Some a) e = absurd cc

it_counts : (n : ℕ) (before : List Avp) → (counts_once n && is_some (first n before)) ≡ false → IsAbsent n before ⊎ (n ≡ 79)
it_counts n before h =
    elim (cases_eq n 79) [
      | inl state ↦ inr state
      | inr other ↦ inl (first_absent n before (no_some (first n before) (rw (ne_eqb n 79 other) at h)))
    ]

value_fault : (k : Kind) (n : ℕ) (s : Shape) (before : List Avp) (a : Avp) (e : MessageError) → IsValued k n s before a → checked_value s (has_vector before) a ≡ Err e → HasFault k before a e
value_fault k n s before a e u h =
    let i = valued_at k n s before a u in
    elim (cases_Bool a.hidden) [
      | inl hid ↦
          elim (vector_or_none before) [
            | inl v ↦
                let told : BadValue n ≡ e = let h' : Err (BadValue a.attribute) ≡ Err e = rw (hid, v.0) at h in let j = i in cc in
                subst (HasFault k before a) told (s, u, inl (hid, v.1))
            | inr v ↦
                let told : HiddenWithoutVector n ≡ e = let h' : Err (HiddenWithoutVector a.attribute) ≡ Err e = rw (hid, v.0) at h in let j = i in cc in
                subst (HasFault k before a) told (s, u, hid, v.1)
          ]
      | inr plain ↦
          elim (cases_Bool (fits s a.value)) [
            | inl t ↦ absurd (let h' : Ok tt ≡ Err e = rw (plain, t) at h in cc)
            | inr f ↦
                let told : BadValue n ≡ e = let h' : Err (BadValue a.attribute) ≡ Err e = rw (plain, f) at h in let j = i in cc in
                subst (HasFault k before a) told (s, u, inr (plain, λ sh. both_ways (fits s a.value) f ((decides_shape s a.value).1 sh)))
          ]
    ]

use_fault : (k : Kind) (before : List Avp) (a : Avp) (e : MessageError) (o : Option Shape) → a.vendor ≡ 0 → a.reserved ≡ 0 → shape_of k a.attribute ≡ o → checked_use o before a ≡ Err e → HasFault k before a e
use_fault k before a e None v r q h = absurd cc
use_fault k before a e (Some s) v r q h =
    elim (cases_Bool (counts_once a.attribute && is_some (first a.attribute before))) [
      | inl t ↦ absurd (let h' : Ok tt ≡ Err e = rw t at h in cc)
      | inr f ↦
          let u : IsUsed k a.attribute s before a = record { shape = q; is = (v, refl, r); counts = it_counts a.attribute before f } in
          value_fault k a.attribute s before a e (inl u) (rw f at h)
    ]

draw_fault : (k : Kind) (before : List Avp) (a : Avp) (e : MessageError) (used : Bool) → IsDraw a → uses_draw k ≡ used → checked_draw used before a ≡ Err e → HasFault k before a e
draw_fault k before a e false is q h = absurd cc
draw_fault k before a e true is q h =
    elim (cases_Bool (is_some (first_draw before))) [
      | inl t ↦ absurd (let h' : Ok tt ≡ Err e = rw t at h in cc)
      | inr f ↦
          let u : IsUsedDraw k before a = record { used = q; is = is; none = first_no_draw before (no_some (first_draw before) f) } in
          value_fault k 1 Long before a e (inr (refl, refl, u)) (rw f at h)
    ]

-- of another vendor, no other pair is recognised
other_draw : (a : Avp) → IsRecognised a → (a.vendor == 0) ≡ false → IsDraw a
other_draw a r v = elim r.1 [ inl i ↦ absurd (both_ways (a.vendor == 0) v (eq-eqb a.vendor 0 i.0)) | inr d ↦ (d.0, d.1, r.0) ]

pub fault_there : (k : Kind) (before : List Avp) (a : Avp) (e : MessageError) → checked k before a ≡ Err e → HasFault k before a e
unfolding checked
fault_there k before a e h =
    elim (cases_Bool (is_recognised a)) [
      | inl r ↦
          elim (cases_Bool (a.vendor == 0)) [
            | inl v ↦ use_fault k before a e (shape_of k a.attribute) (eqb-true a.vendor 0 v) ((decides_recognised a).0 r).0 refl (rw (r, v) at h)
            | inr v ↦ draw_fault k before a e (uses_draw k) (other_draw a ((decides_recognised a).0 r) v) refl (rw (r, v) at h)
          ]
      | inr r ↦
          elim (cases_Bool a.mandatory) [
            | inl m ↦
                let told : UnknownMandatory a.vendor a.attribute ≡ e = let h' : Err (UnknownMandatory a.vendor a.attribute) ≡ Err e = rw (r, m) at h in cc in
                subst (HasFault k before a) told (λ i. both_ways (is_recognised a) r ((decides_recognised a).1 i), m, refl, refl)
            | inr m ↦ absurd (let h' : Ok tt ≡ Err e = rw (r, m) at h in cc)
          ]
    ]

pub there_fault : (k : Kind) (before : List Avp) (a : Avp) (e : MessageError) → HasFault k before a e → checked k before a ≡ Err e
unfolding checked
there_fault k before a (UnknownMandatory v n) h =
    let r : is_recognised a ≡ false = false_from_ne_true (is_recognised a) (λ t. h.0 ((decides_recognised a).0 t)) in
    rw (r, h.1, h.2, h.3) refl
there_fault k before a (HiddenWithoutVector n) h =
    checked_valued k n h.0 before a h.1 ∙ rw (h.2, vector_none before h.3, valued_at k n h.0 before a h.1) refl
there_fault k before a (BadValue n) h =
    checked_valued k n h.0 before a h.1
    ∙ elim h.2 [
      | inl hid ↦ rw (hid.0, vector_there before hid.1, valued_at k n h.0 before a h.1) refl
      | inr wrong ↦
          let f : fits h.0 a.value ≡ false = false_from_ne_true (fits h.0 a.value) (λ t. wrong.1 ((decides_shape h.0 a.value).0 t)) in
          rw (wrong.0, f, valued_at k n h.0 before a h.1) refl
    ]
there_fault k before a NoType h = absurd h
there_fault k before a (UnknownType n) h = absurd h
there_fault k before a (Missing n) h = absurd h
there_fault k before a NoMemory h = absurd h

-- ---- all pairs

-- no pair of the rest has a fault, where others stand before it
abbrev SoundBehind : Kind → List Avp → List Avp → Type 0
SoundBehind k before rest = (front after : List Avp) (a : Avp) (e : MessageError) → rest ≡ front ++ a ∷ after → ¬ HasFault k (before ++ front) a e

-- the first fault of the rest
record FirstBehind (k : Kind) (before rest : List Avp) (e : MessageError) : Type 0 where
  front : List Avp
  after : List Avp
  pair : Avp
  parts : rest ≡ front ++ pair ∷ after
  wrong : HasFault k (before ++ front) pair e
  sound : SoundBehind k before front

regroup : (before front : List Avp) (a : Avp) → (before ++ a ∷ []) ++ front ≡ before ++ a ∷ front
regroup before front a = append_assoc before (a ∷ []) front

one_sound : (k : Kind) (before : List Avp) (a : Avp) (r : Result (Unit {0}) MessageError) → checked k before a ≡ r → ((e : MessageError) → ¬ HasFault k before a e) → checked k before a ≡ Ok tt
one_sound k before a (Ok u) is h = is
one_sound k before a (Err e) is h = absurd (h e (fault_there k before a e is))

sound_one : (k : Kind) (before : List Avp) (a : Avp) (e : MessageError) → checked k before a ≡ Ok tt → ¬ HasFault k before a e
sound_one k before a e h wrong = let q = there_fault k before a e wrong in cc

-- the first pair, and the others
more_sound : (k : Kind) (before front : List Avp) (a : Avp) → checked k before a ≡ Ok tt → SoundBehind k (before ++ a ∷ []) front → SoundBehind k before (a ∷ front)
more_sound k before front a one others [] after x e p w =
    let same : x ≡ a = cc in
    sound_one k before a e one (subst (λ (b : List Avp). HasFault k b a e) (append-nil before) (subst (λ (y : Avp). HasFault k (before ++ []) y e) same w))
more_sound k before front a one others (c ∷ f) after x e p w =
    let same : c ≡ a = cc in
    let rest : front ≡ f ++ x ∷ after = cc in
    others f after x e rest (subst (λ (b : List Avp). HasFault k b x e) (ap (λ (y : Avp). before ++ y ∷ f) same ∙ sym (regroup before f a)) w)

fewer_sound : (k : Kind) (before front : List Avp) (a : Avp) → SoundBehind k before (a ∷ front) → (checked k before a ≡ Ok tt) × SoundBehind k (before ++ a ∷ []) front
fewer_sound k before front a h = (
  one_sound k before a (checked k before a) refl (λ e w. h [] front a e refl (subst (λ (b : List Avp). HasFault k b a e) (sym (append-nil before)) w)),
  λ f after x e p w. h (a ∷ f) after x e (ap (λ (t : List Avp). a ∷ t) p) (subst (λ (b : List Avp). HasFault k b x e) (regroup before f a) w),
)

none_sound : (k : Kind) (before : List Avp) → SoundBehind k before []
none_sound k before [] after x e p w = cc
none_sound k before (c ∷ f) after x e p w = cc

sound_ok : (k : Kind) (before rest : List Avp) → SoundBehind k before rest → checked_all k before rest ≡ Ok tt
sound_ok k before [] h = refl
sound_ok k before (a ∷ rest) h =
    let both = fewer_sound k before rest a h in
    rw both.0 (sound_ok k (before ++ a ∷ []) rest both.1)

then_ok : (r q : Result (Unit {0}) MessageError) → (r >>= λ _. q) ≡ Ok tt → (r ≡ Ok tt) × (q ≡ Ok tt)
then_ok (Ok u) q h = (refl, h)
then_ok (Err e) q h = absurd cc

ok_sound : (k : Kind) (before rest : List Avp) → checked_all k before rest ≡ Ok tt → SoundBehind k before rest
ok_sound k before [] h = none_sound k before
ok_sound k before (a ∷ rest) h =
    let both = then_ok (checked k before a) (checked_all k (before ++ a ∷ []) rest) h in
    more_sound k before rest a both.0 (ok_sound k (before ++ a ∷ []) rest both.1)

first_err : (k : Kind) (front after before : List Avp) (a : Avp) (e : MessageError) → HasFault k (before ++ front) a e → SoundBehind k before front → checked_all k before (front ++ a ∷ after) ≡ Err e
first_err k [] after before a e w h = rw (there_fault k before a e (subst (λ (b : List Avp). HasFault k b a e) (append-nil before) w)) refl
first_err k (c ∷ front) after before a e w h =
    let both = fewer_sound k before front c h in
    rw both.0 (first_err k front after (before ++ c ∷ []) a e (subst (λ (b : List Avp). HasFault k b a e) (sym (regroup before front c)) w) both.1)

-- by what the first pair answered
err_at : (k : Kind) (before rest : List Avp) (a : Avp) (e : MessageError) (r : Result (Unit {0}) MessageError) → checked k before a ≡ r → (r >>= λ _. checked_all k (before ++ a ∷ []) rest) ≡ Err e → (checked_all k (before ++ a ∷ []) rest ≡ Err e → FirstBehind k (before ++ a ∷ []) rest e) → FirstBehind k before (a ∷ rest) e
err_at k before rest a e (Err q) is h others =
    let same : q ≡ e = cc in
    record {
      front = [];
      after = rest;
      pair = a;
      parts = refl;
      wrong = subst (λ (b : List Avp). HasFault k b a e) (sym (append-nil before)) (fault_there k before a e (is ∙ ap (λ (y : MessageError). Err y) same));
      sound = none_sound k before;
    }
err_at k before rest a e (Ok u) is h others =
    let s = others h in
    record {
      front = a ∷ s.front;
      after = s.after;
      pair = s.pair;
      parts = ap (λ (t : List Avp). a ∷ t) s.parts;
      wrong = subst (λ (b : List Avp). HasFault k b s.pair e) (regroup before s.front a) s.wrong;
      sound = more_sound k before s.front a is s.sound;
    }

err_first : (k : Kind) (before rest : List Avp) (e : MessageError) → checked_all k before rest ≡ Err e → FirstBehind k before rest e
err_first k before [] e h = absurd cc
err_first k before (a ∷ rest) e h = err_at k before rest a e (checked k before a) refl h (err_first k (before ++ a ∷ []) rest e)

-- ---- the laws

pub is_sound : (k : Kind) (avps : List Avp) → checked_all k [] avps ≡ Ok tt → IsSound k avps
is_sound k avps h = ok_sound k [] avps h

pub sound_is : (k : Kind) (avps : List Avp) → IsSound k avps → checked_all k [] avps ≡ Ok tt
sound_is k avps h = sound_ok k [] avps h

pub is_first : (k : Kind) (avps : List Avp) (e : MessageError) → checked_all k [] avps ≡ Err e → IsFirstAlong k avps e
is_first k avps e h =
    let s = err_first k [] avps e h in
    record { before = s.front; after = s.after; pair = s.pair; parts = s.parts; wrong = s.wrong; sound = s.sound }

pub first_is : (k : Kind) (avps : List Avp) (e : MessageError) → IsFirstAlong k avps e → checked_all k [] avps ≡ Err e
first_is k avps e h = ap (checked_all k []) h.parts ∙ first_err k h.before h.after [] h.pair e h.wrong h.sound
