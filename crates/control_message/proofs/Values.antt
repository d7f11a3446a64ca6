-- Values, as the relation has them and as the reading finds them.
use Rattle.std.proofs.Common.{◌≡◌, ℕ, true, false, List, [], ◌∷◌, ◌++◌, length, Option, Some, None, Result, Ok, Err, refl, sym, ap, subst, ◌∙◌, inl, inr, ◌⊎◌}
use Rattle.std.specs.Prelude.{◌==◌}
use Rattle.std.specs.List.{AllByRecursion}
use Rattle.std.proofs.lemmas.Bool.{cases_Bool, both_ways, eq-eqb, eqb-true}
use Rattle.byteorder.specs.Endian.{big_number}
use Rattle.wire_base.specs.Answers.{◌>>=◌}
use Rattle.avp_codec.specs.declared.avp.Avp.{Avp}
use Rattle.control_message.specs.declared.kind.Kind.{Kind}
use Rattle.control_message.specs.declared.kind.Shape.{Shape}
use Rattle.control_message.specs.declared.kind.Shape.TheVariants.{Long}
use Rattle.control_message.specs.declared.message.MessageError.TheVariants.{UnknownMandatory, HiddenWithoutVector, BadValue, Missing}
use Rattle.control_message.specs.Table.{shape_of, uses_of, uses_draw, fits}
use Rattle.control_message.specs.Reading.{is_recognised, first, value_in, value_at, number_in}
use Rattle.control_message.specs.Grammar.{IsRecognised, IsFirstWith, StandsFirst, IsAt, IsAbsent, IsDraw, NoneIsUnknown, HasValue, HasNumber}
use Rattle.control_message.specs.Faults.{HasShape, IsUsed, IsUsedDraw, IsValued, IsSound}
use Rattle.control_message.proofs.Firsts.{absent_first, first_absent, first_stands, stands_first, vector_or_none}
use Rattle.control_message.proofs.Along.{decides_recognised, decides_shape, row_holds}

-- ---- answers

pub bind_ok : {A B E : Type 0} (r : Result A E) (f : A → Result B E) (y : B) → (r >>= f) ≡ Ok y → (x : A) × (r ≡ Ok x) × (f x ≡ Ok y)
bind_ok (Ok x) f y h = (x, refl, h)
bind_ok (Err e) f y h = absurd cc

pub ok_same : {A E : Type 0} {x y : A} → ◌≡◌ {A = Result A E} (Ok x) (Ok y) → x ≡ y
ok_same h = cc

-- ---- sound lists

-- the first pair of an attribute that the message uses is plain, and its value has the shape
abbrev pub IsGood : List Avp → ℕ × Shape → Type 0
IsGood avps u = (a : Avp) → StandsFirst u.0 a avps → (a.hidden ≡ false) × HasShape u.1 a.value

-- so is the first Draw Number
abbrev pub IsDrawGood : List Avp → Type 0
IsDrawGood avps = (a : Avp) → IsFirstWith (λ b. IsDraw b) a avps → (a.hidden ≡ false) × HasShape Long a.value

-- so is each Failover Session State, where the message uses it
abbrev pub AreStatesGood : Kind → List Avp → Type 0
AreStatesGood k avps = (s : Shape) → shape_of k 79 ≡ Some s → (before after : List Avp) (a : Avp) → avps ≡ before ++ a ∷ after → IsAt 79 a
    → (a.hidden ≡ false) × HasShape s a.value

-- of a pair whose value counts
valued : (k : Kind) (avps before after : List Avp) (n : ℕ) (s : Shape) (a : Avp) → IsSound k avps → avps ≡ before ++ a ∷ after → IsValued k n s before a
    → (a.hidden ≡ false) × HasShape s a.value
valued k avps before after n s a sound parts u =
    elim (cases_Bool a.hidden) [
      | inl hid ↦
          absurd (elim (vector_or_none before) [
            | inl v ↦ sound before after a (BadValue n) parts (s, u, inl (hid, v.1))
            | inr v ↦ sound before after a (HiddenWithoutVector n) parts (s, u, hid, v.1)
          ])
      | inr plain ↦
          elim (cases_Bool (fits s a.value)) [
            | inl t ↦ (plain, (decides_shape s a.value).0 t)
            | inr f ↦ absurd (sound before after a (BadValue n) parts (s, u, inr (plain, λ sh. both_ways (fits s a.value) f ((decides_shape s a.value).1 sh))))
          ]
    ]

pub good : (k : Kind) (avps : List Avp) (n : ℕ) (s : Shape) → IsSound k avps → shape_of k n ≡ Some s → IsGood avps (n, s)
good k avps n s sound shape a h =
    let u : IsUsed k n s h.before a = record { shape = shape; is = h.is; counts = inl h.none } in
    valued k avps h.before h.after n s a sound h.parts (inl u)

pub good_draw : (k : Kind) (avps : List Avp) → IsSound k avps → uses_draw k ≡ true → IsDrawGood avps
good_draw k avps sound used a h =
    let u : IsUsedDraw k h.before a = record { used = used; is = h.is; none = h.none } in
    valued k avps h.before h.after 1 Long a sound h.parts (inr (refl, refl, u))

pub good_states : (k : Kind) (avps : List Avp) → IsSound k avps → AreStatesGood k avps
good_states k avps sound s shape before after a parts is =
    let u : IsUsed k 79 s before a = record { shape = shape; is = is; counts = inr refl } in
    valued k avps before after 79 s a sound parts (inl u)

-- what holds at each place holds of each pair, and the other way round
each_of : (P : Avp → Type 0) (avps : List Avp) → ((before after : List Avp) (a : Avp) → avps ≡ before ++ a ∷ after → P a) → AllByRecursion P avps
each_of P [] h = tt
each_of P (a ∷ avps) h = (h [] avps a refl, each_of P avps (λ before after x e. h (a ∷ before) after x (ap (λ (t : List Avp). a ∷ t) e)))

each_at : (P : Avp → Type 0) (before after : List Avp) (a : Avp) → AllByRecursion P (before ++ a ∷ after) → P a
each_at P [] after a h = h.0
each_at P (b ∷ before) after a h = each_at P before after a h.1

pub sound_known : (k : Kind) (avps : List Avp) → IsSound k avps → NoneIsUnknown avps
sound_known k avps sound =
    each_of (λ (a : Avp). IsRecognised a ⊎ (a.mandatory ≡ false)) avps
    (λ before after a e. elim (cases_Bool (is_recognised a)) [
      | inl t ↦ inl ((decides_recognised a).0 t)
      | inr f ↦ elim (cases_Bool a.mandatory) [
        | inl m ↦ absurd (sound before after a (UnknownMandatory a.vendor a.attribute) e (λ r. both_ways (is_recognised a) f ((decides_recognised a).1 r), m, refl, refl))
        | inr m ↦ inr m
      ]
    ])

-- a pair whose value counts is plain, and has its shape, where the first of each attribute is and has
good_valued : (k : Kind) (avps before after : List Avp) (n : ℕ) (s : Shape) (a : Avp) → AllByRecursion (IsGood avps) (uses_of k) → AreStatesGood k avps → (uses_draw k ≡ true → IsDrawGood avps)
    → avps ≡ before ++ a ∷ after → IsValued k n s before a → (a.hidden ≡ false) × HasShape s a.value
good_valued k avps before after n s a uses states draw parts (inl u) =
    elim u.counts [
      | inl none ↦
          let first : StandsFirst n a avps = record { before = before; after = after; parts = parts; is = u.is; none = none } in
          row_holds (IsGood avps) n s (uses_of k) uses u.shape a first
      | inr state ↦
          states s (ap (shape_of k) (sym state) ∙ u.shape) before after a parts (u.is.0, u.is.1 ∙ state, u.is.2)
    ]
good_valued k avps before after n s a uses states draw parts (inr d) =
    let first : IsFirstWith (λ b. IsDraw b) a avps = record { before = before; after = after; parts = parts; is = d.2.is; none = d.2.none } in
    subst (λ (x : Shape). (a.hidden ≡ false) × HasShape x a.value) (sym d.1) (draw d.2.used a first)

pub known_sound : (k : Kind) (avps : List Avp) → NoneIsUnknown avps → AllByRecursion (IsGood avps) (uses_of k) → AreStatesGood k avps → (uses_draw k ≡ true → IsDrawGood avps) → IsSound k avps
known_sound k avps known uses states draw before after a (UnknownMandatory v n) e w =
    elim (each_at (λ (x : Avp). IsRecognised x ⊎ (x.mandatory ≡ false)) before after a (subst (AllByRecursion (λ (x : Avp). IsRecognised x ⊎ (x.mandatory ≡ false))) e known)) [
      | inl r ↦ w.0 r
      | inr f ↦ both_ways a.mandatory f w.1
    ]
known_sound k avps known uses states draw before after a (HiddenWithoutVector n) e w =
    let g = good_valued k avps before after n w.0 a uses states draw e w.1 in
    both_ways a.hidden g.0 w.2
known_sound k avps known uses states draw before after a (BadValue n) e w =
    let g = good_valued k avps before after n w.0 a uses states draw e w.1 in
    elim w.2 [ inl hid ↦ both_ways a.hidden g.0 hid.0 | inr wrong ↦ wrong.1 g.1 ]
known_sound k avps known uses states draw before after a x e w = absurd w

-- ---- the value of one attribute

-- the pair that has a value, where there is one
taken : (n : ℕ) (o : Option Avp) (v : List ℕ) → value_in n o ≡ Ok v → (a : Avp) × (o ≡ Some a) × (a.value ≡ v)
taken n None v h = absurd cc
taken n (Some a) v h = (a, refl, let h' : Ok a.value ≡ Ok v = h in cc)

pub value_has : (k : Kind) (avps : List Avp) (n : ℕ) (s : Shape) (v : List ℕ) → IsSound k avps → shape_of k n ≡ Some s → value_at n avps ≡ Ok v → HasValue n v avps × HasShape s v
value_has k avps n s v sound shape h =
    let t = taken n (first n avps) v h in
    let f = stands_first n t.0 avps t.1 in
    let g = good k avps n s sound shape t.0 f in
    (record { pair = t.0; first = f; plain = g.0; same = t.2 }, subst (HasShape s) t.2 g.1)

pub has_value : (avps : List Avp) (n : ℕ) (v : List ℕ) → HasValue n v avps → value_at n avps ≡ Ok v
has_value avps n v h = rw (first_stands n h.pair avps h.first) (ap (λ (x : List ℕ). Ok x) h.same)

-- the same pair, and so the same value
only_first : (avps : List Avp) (n : ℕ) (a b : Avp) → StandsFirst n a avps → StandsFirst n b avps → a ≡ b
only_first avps n a b f g = let p = first_stands n a avps f in let q = first_stands n b avps g in let e : Some a ≡ Some b = sym p ∙ q in cc

pub value_good : (avps : List Avp) (n : ℕ) (v : List ℕ) (s : Shape) → HasValue n v avps → HasShape s v → IsGood avps (n, s)
value_good avps n v s h shape a f =
    let same = only_first avps n h.pair a h.first f in
    (subst (λ (x : Avp). x.hidden ≡ false) same h.plain, subst (λ (x : Avp). HasShape s x.value) same (subst (HasShape s) (sym h.same) shape))

pub absent_good : (avps : List Avp) (n : ℕ) (s : Shape) → IsAbsent n avps → IsGood avps (n, s)
absent_good avps n s none a f = let p = absent_first n avps none in let q = first_stands n a avps f in absurd cc

-- ---- numbers

pub number_is : (width n x : ℕ) (v : List ℕ) → number_in width n v ≡ Ok x → (length v ≡ width) × (big_number width v ≡ x)
number_is width n x v h =
    elim (cases_Bool (length v == width)) [
      | inl t ↦ (eqb-true (length v) width t, let h' : Ok (big_number width v) ≡ Ok x = rw t at h in cc)
      | inr f ↦ absurd (let h' : Err (BadValue n) ≡ Ok x = rw f at h in cc)
    ]

pub is_number : (width n x : ℕ) (v : List ℕ) → length v ≡ width → big_number width v ≡ x → number_in width n v ≡ Ok x
is_number width n x v wide number = rw (eq-eqb (length v) width wide, number) refl

-- a number that was read from a value of a shape
pub number_has : (k : Kind) (avps : List Avp) (width n x : ℕ) (s : Shape) → IsSound k avps → shape_of k n ≡ Some s → (value_at n avps >>= λ v. number_in width n v) ≡ Ok x → HasNumber n width x avps × ((v : List ℕ) × HasShape s v × (length v ≡ width) × (big_number width v ≡ x))
number_has k avps width n x s sound shape h =
    let b = bind_ok (value_at n avps) (λ (v : List ℕ). number_in width n v) x h in
    let v = value_has k avps n s b.0 sound shape b.1 in
    let number = number_is width n x b.0 b.2 in
    (record { value = b.0; has = v.0; wide = number.0; number = number.1 }, (b.0, v.1, number.0, number.1))

pub has_number : (avps : List Avp) (width n x : ℕ) → HasNumber n width x avps → (value_at n avps >>= λ v. number_in width n v) ≡ Ok x
has_number avps width n x h = rw (has_value avps n h.value h.has) (is_number width n x h.value h.wide h.number)

-- ---- what is there, and what is missing

of_first : (avps : List Avp) (n : ℕ) (o : Option Avp) → first n avps ≡ o → ((v : List ℕ) × (value_at n avps ≡ Ok v) × (¬ IsAbsent n avps)) ⊎ ((value_at n avps ≡ Err (Missing n)) × IsAbsent n avps)
of_first avps n None e = inr (rw e refl, first_absent n avps e)
of_first avps n (Some a) e = inl (a.value, rw e refl, λ none. let p = absent_first n avps none in cc)

pub value_or_missing : (avps : List Avp) (n : ℕ) → ((v : List ℕ) × (value_at n avps ≡ Ok v) × (¬ IsAbsent n avps)) ⊎ ((value_at n avps ≡ Err (Missing n)) × IsAbsent n avps)
value_or_missing avps n = of_first avps n (first n avps) refl

-- a value that is there has its shape
pub number_or_missing : (k : Kind) (avps : List Avp) (width n : ℕ) (s : Shape) → IsSound k avps → shape_of k n ≡ Some s → ((v : List ℕ) → HasShape s v → length v ≡ width) → ((x : ℕ) × ((value_at n avps >>= λ v. number_in width n v) ≡ Ok x) × (¬ IsAbsent n avps)) ⊎ (((value_at n avps >>= λ v. number_in width n v) ≡ Err (Missing n)) × IsAbsent n avps)
number_or_missing k avps width n s sound shape wide =
    elim (value_or_missing avps n) [
      | inl there ↦
          let v = value_has k avps n s there.0 sound shape there.1 in
          inl (big_number width there.0, rw there.1 (is_number width n (big_number width there.0) there.0 (wide there.0 v.1) refl), there.2)
      | inr missing ↦ inr (rw missing.0 refl, missing.1)
    ]
