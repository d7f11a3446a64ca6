-- An SCCRQ or an SCCRP that can be read assigns an id that isn't 0; and one that can't has its fault along its pairs.
use Rattle.std.proofs.Common.{◌≡◌, ℕ, Bool, true, false, cond, List, [], ◌∷◌, ◌++◌, length, refl, sym, ap, ◌∙◌, subst, Option, Some, None, is_some, Result, Ok, Err}
use Rattle.std.proofs.lemmas.Bool.{eqb-true, eq-eqb, true≢false}
use Rattle.std.proofs.lemmas.Option.{none-some}
use Rattle.std.specs.Prelude.{◌==◌, ◌&&◌, not}
use Rattle.wire_base.specs.Answers.{◌>>=◌}
use Rattle.avp_codec.specs.declared.avp.Avp.{Avp}
use Rattle.control_message.specs.declared.kind.Kinds.TheVariants.{Queries}
use Rattle.control_message.specs.declared.kind.Kind.{Kind}
use Rattle.control_message.specs.declared.kind.Kind.TheVariants as kind
use Rattle.control_message.specs.declared.kind.Shape.{Shape}
use Rattle.control_message.specs.declared.kind.Shape.TheVariants.{Nonzero, Long}
use Rattle.control_message.specs.declared.message.Message.{Message}
use Rattle.control_message.specs.declared.message.Message.TheVariants.{Sccrq, Sccrp}
use Rattle.control_message.specs.declared.message.Opening.{Opening}
use Rattle.control_message.specs.declared.message.Recovery.{Recovery}
use Rattle.control_message.specs.declared.message.Suggested.{Suggested}
use Rattle.control_message.specs.declared.message.Failover.{Failover}
use Rattle.control_message.specs.declared.message.Read.{Read}
use Rattle.control_message.specs.declared.message.Read.TheVariants.{Known, Ignored}
use Rattle.control_message.specs.declared.message.MessageError.{MessageError}
use Rattle.control_message.specs.declared.message.MessageError.TheVariants.{NoType, UnknownType, HiddenWithoutVector, BadValue}
use Rattle.control_message.specs.Table.{kind_of, shape_of, uses_draw, fits}
use Rattle.control_message.specs.Reading.{counts_once, response_at, suggested_at, draw_value, draw_read, draw_in, draw_at, is_listed, is_recognised, is_at, first, first_draw, has_vector, checked_value, checked_use, checked_draw, checked, checked_all, value_in, value_at, number_in, u16_at, u32_at, window_in, window_at, failover_value, failover_read, failover_in, failover_at, recovery_value, recovery_read, recovery_in, recovery_at, opening_at, icrq_at, icrp_at, iccn_at, result_code_at, stop_ccn_at, ocrq_at, cdn_at, wen_at, sli_at, of_kind, type_number, kind_told, of_type, with_type, message_by, kind_by}
use Rattle.end_model.specs.Reading.{kind_said, message_said}
use Rattle.step_laws.proofs.Lists.{branch, and_left, and_right}

-- ---- a reading in steps

-- what is so of whatever a reading gives, and of what it fails with
abbrev Gives : {A : Type 0} → (A → Type 0) → Result A MessageError → Type 0
Gives P (Ok a) = P a
Gives P (Err x) = Unit {0}

abbrev Fails : {A : Type 0} → (MessageError → Type 0) → Result A MessageError → Type 0
Fails P (Ok a) = Unit {0}
Fails P (Err x) = P x

gives_after : {A B : Type 0} (P : B → Type 0) (r : Result A MessageError) (f : A → Result B MessageError)
    → ((a : A) → r ≡ Ok a → Gives P (f a)) → Gives P (r >>= f)
gives_after P (Ok a) f h = h a refl
gives_after P (Err x) f h = tt

fails_after : {A B : Type 0} (P : MessageError → Type 0) (r : Result A MessageError) (f : A → Result B MessageError)
    → Fails P r → ((a : A) → Fails P (f a)) → Fails P (r >>= f)
fails_after P (Ok a) f h k = k a
fails_after P (Err x) f h k = h

record Bound {A B : Type 0} (r : Result A MessageError) (f : A → Result B MessageError) (b : B) : Type 0 where
  first : A
  is : r ≡ Ok first
  then : f first ≡ Ok b

bound : {A B : Type 0} (r : Result A MessageError) (f : A → Result B MessageError) (b : B) → (r >>= f) ≡ Ok b → Bound r f b
bound (Ok a) f b h = record { first = a; is = refl; then = h }
bound (Err x) f b h = absurd cc

-- ---- the first Assigned Tunnel ID

first_push : (n : ℕ) (xs : List Avp) (x : Avp) → first n xs ≡ None → is_at n x ≡ false → first n (xs ++ x ∷ []) ≡ None
first_push n [] x none other = rw other refl
first_push n (y ∷ xs) x none other = by (is_at n y) refl none (λ rest. first_push n xs x rest other)
  where
    by : (b : Bool) → is_at n y ≡ b → cond b (Some y) (first n xs) ≡ None → (first n xs ≡ None → first n (xs ++ x ∷ []) ≡ None)
        → first n (y ∷ (xs ++ x ∷ [])) ≡ None
    by true is e later = absurd (none-some y (sym e))
    by false is e later = rw is (later e)

-- a value that passes isn't hidden, and has its shape
value_fits : (vector : Bool) (a : Avp) (u : Unit {0}) → checked_value Nonzero vector a ≡ Ok u → fits Nonzero a.value ≡ true
value_fits vector a u h = by a.hidden vector (fits Nonzero a.value) h
  where
    by : (d v f : Bool)
        → ◌≡◌ {A = Result (Unit {0}) MessageError}
        (cond d (cond v (Err (BadValue a.attribute)) (Err (HiddenWithoutVector a.attribute))) (cond f (Ok tt) (Err (BadValue a.attribute)))) (Ok u)
        → f ≡ true
    by true true f e = absurd cc
    by true false f e = absurd cc
    by false v true e = refl
    by false v false e = absurd cc

-- a number that is read of it isn't 0
not_zero : (wide : Bool) (x n : ℕ) → ◌≡◌ {A = Result ℕ MessageError} (cond wide (Ok x) (Err (BadValue 9))) (Ok n) → (wide && not (x == 0)) ≡ true
    → n ≡ 0 → ⊥
not_zero false x n e fit zero = true≢false (sym fit)
not_zero true x n e fit zero =
    let same : x ≡ n = cc in
    true≢false (sym fit ∙ ap not (eq-eqb x 0 (same ∙ zero)))

module _ (k : Kind) (shape : shape_of k 9 ≡ Some Nonzero) where
  -- it is used
  checked_first : (before : List Avp) (a : Avp) → first 9 before ≡ None → is_at 9 a ≡ true
      → checked k before a ≡ checked_value Nonzero (has_vector before) a
  unfolding checked
  checked_first before a none is =
      let plain = and_left (a.vendor == 0 && a.attribute == 9) (a.reserved == 0) is in
      let vendor = eqb-true a.vendor 0 (and_left (a.vendor == 0) (a.attribute == 9) plain) in
      let attribute = eqb-true a.attribute 9 (and_right (a.vendor == 0) (a.attribute == 9) plain) in
      let listed : is_listed a.vendor a.attribute ≡ true = ap (λ (v : ℕ). is_listed v a.attribute) vendor ∙ ap (is_listed 0) attribute in
      let shaped : shape_of k a.attribute ≡ Some Nonzero = ap (shape_of k) attribute ∙ shape in
      let alone : first a.attribute before ≡ None = ap (λ (m : ℕ). first m before) attribute ∙ none in
      rw (and_right (a.vendor == 0 && a.attribute == 9) (a.reserved == 0) is, listed, eq-eqb a.vendor 0 vendor, shaped, alone, attribute) refl

  -- so the first of those that pass has the shape
  first_fits : (before rest : List Avp) (u : Unit {0}) → first 9 before ≡ None → checked_all k before rest ≡ Ok u → (a : Avp) → first 9 rest ≡ Some a
      → fits Nonzero a.value ≡ true
  first_fits before [] u none checks a is = absurd cc
  first_fits before (b ∷ rest) u none checks a is =
      let c = bound (checked k before b) (λ _. checked_all k (before ++ b ∷ []) rest) u checks in
      by (is_at 9 b) refl is c (λ other e. first_fits (before ++ b ∷ []) rest u (first_push 9 before b none other) c.then a e)
    where
      by : (q : Bool) → is_at 9 b ≡ q → cond q (Some b) (first 9 rest) ≡ Some a
          → Bound (checked k before b) (λ _. checked_all k (before ++ b ∷ []) rest) u
          → (is_at 9 b ≡ false → first 9 rest ≡ Some a → fits Nonzero a.value ≡ true) → fits Nonzero a.value ≡ true
      by true here e c later =
          let same : b ≡ a = cc in
          subst (λ (x : Avp). fits Nonzero x.value ≡ true) same
          (value_fits (has_vector before) b c.first (sym (checked_first before b none here) ∙ c.is))
      by false here e c later = later here e

  module _ (avps : List Avp) (u : Unit {0}) (checks : checked_all k [] avps ≡ Ok u) where
    -- the number of it isn't 0
    id_some : (n : ℕ) → u16_at 9 avps ≡ Ok n → n ≡ 0 → ⊥
    unfolding u16_at
    id_some n h zero =
        let v = bound (value_at 9 avps) (λ v. number_in 2 9 v) n h in
        by (first 9 avps) refl v.first v.is v.then
      where
        by : (o : Option Avp) → first 9 avps ≡ o → (value : List ℕ) → value_in 9 o ≡ Ok value → number_in 2 9 value ≡ Ok n → ⊥
        by None is value has number = absurd cc
        by (Some a) is value has number =
            let same : a.value ≡ value = cc in
            let fit = subst (λ (x : List ℕ). fits Nonzero x ≡ true) same (first_fits [] avps u refl checks a is) in
            not_zero (length value == 2) _ n number fit zero

    opening_some : (response : Option (List ℕ)) (recovery : Option Recovery) (suggested : Option Suggested) (attempt : Option ℕ) (o : Opening)
        → opening_at avps response recovery suggested attempt ≡ Ok o → o.tunnel ≡ 0 → ⊥
    unfolding opening_at
    opening_some response recovery suggested attempt o h zero =
        let a = bound (u16_at 2 avps) _ o h in
        let b = bound (u32_at 3 avps) _ o a.then in
        let c = bound (value_at 7 avps) _ o b.then in
        let d = bound (u16_at 9 avps) _ o c.then in
        let w = bound (window_at avps) _ o d.then in
        let f = bound (failover_at avps) _ o w.then in
        let same : d.first ≡ o.tunnel = made _ o f.then in
        id_some d.first d.is (same ∙ zero)
      where
        made : (p q : Opening) → ◌≡◌ {A = Result Opening MessageError} (Ok p) (Ok q) → p.tunnel ≡ q.tunnel
        made p q e = let same : p ≡ q = cc in ap (λ (x : Opening). x.tunnel) same

-- ---- messages

-- an opening assigns an id
abbrev pub AssignsSome : Message → Type 0
AssignsSome (Sccrq o) = o.tunnel ≡ 0 → ⊥
AssignsSome (Sccrp o) = o.tunnel ≡ 0 → ⊥
AssignsSome m = Unit {0}

module _ (avps : List Avp) where
  kind_assigns : (k : Kind) (u : Unit {0}) → checked_all k [] avps ≡ Ok u → Gives AssignsSome (of_kind k avps)
  unfolding response_at stop_ccn_at icrq_at icrp_at iccn_at ocrq_at cdn_at wen_at sli_at
  kind_assigns kind.Sccrq u checks =
      gives_after AssignsSome (recovery_at avps) _
      (λ r is. gives_after AssignsSome (draw_at avps) _
      (λ d drawn. gives_after AssignsSome (opening_at avps None r None d) _ (λ o made. opening_some kind.Sccrq refl avps u checks None r None d o made)))
  kind_assigns kind.Sccrp u checks =
      gives_after AssignsSome (response_at avps) _
      (λ r is. gives_after AssignsSome (suggested_at avps) _
      (λ s told. gives_after AssignsSome (draw_at avps) _
      (λ d drawn. gives_after AssignsSome (opening_at avps r None s d) _ (λ o made. opening_some kind.Sccrp refl avps u checks r None s d o made))))
  kind_assigns kind.Scccn u checks = gives_after AssignsSome (response_at avps) _ (λ r is. tt)
  kind_assigns kind.StopCcn u checks =
      gives_after AssignsSome (result_code_at avps) _ (λ code is. gives_after AssignsSome (u16_at 9 avps) _ (λ tunnel at_. tt))
  kind_assigns kind.Hello u checks = tt
  kind_assigns kind.Ocrq u checks = gives_after AssignsSome (u16_at 14 avps) _ (λ session is. tt)
  kind_assigns kind.Ocrp u checks = tt
  kind_assigns kind.Occn u checks = tt
  kind_assigns kind.Fsq u checks = tt
  kind_assigns kind.Fsr u checks = tt
  kind_assigns kind.Icrq u checks =
      gives_after AssignsSome (u16_at 14 avps) _ (λ session is. gives_after AssignsSome (u32_at 15 avps) _ (λ serial at_. tt))
  kind_assigns kind.Icrp u checks = gives_after AssignsSome (u16_at 14 avps) _ (λ session is. tt)
  kind_assigns kind.Iccn u checks =
      gives_after AssignsSome (u32_at 19 avps) _ (λ framing is. gives_after AssignsSome (u32_at 24 avps) _ (λ speed at_. tt))
  kind_assigns kind.Cdn u checks =
      gives_after AssignsSome (result_code_at avps) _ (λ code is. gives_after AssignsSome (u16_at 14 avps) _ (λ session at_. tt))
  kind_assigns kind.Wen u checks = gives_after AssignsSome (value_at 34 avps) _ (λ value is. tt)
  kind_assigns kind.Sli u checks = gives_after AssignsSome (value_at 35 avps) _ (λ value is. tt)

  abbrev ReadAssigns : Read → Type 0
  ReadAssigns (Known m) = AssignsSome m
  ReadAssigns (Ignored n) = Unit {0}

  known_assigns : (r : Result Message MessageError) → Gives AssignsSome r → Gives ReadAssigns (r >>= λ m. Ok (Known m))
  known_assigns (Ok m) h = h
  known_assigns (Err x) h = tt

  type_assigns : (n : ℕ) (mandatory : Bool) (o : Option Kind) → Gives ReadAssigns (of_type n mandatory o avps)
  type_assigns n mandatory None = branch (Gives ReadAssigns) mandatory _ _ (λ unknown. tt) (λ ignored. tt)
  type_assigns n mandatory (Some k) =
      gives_after ReadAssigns (checked_all k [] avps) _ (λ u checks. known_assigns (of_kind k avps) (kind_assigns k u checks))

  told_assigns : (o : Option Avp) → Gives ReadAssigns (with_type Queries o avps)
  told_assigns None = tt
  told_assigns (Some a) = gives_after ReadAssigns (type_number a) _ (λ n is. type_assigns n a.mandatory (kind_of Queries n))

  pub message_assigns : (m : Message) → message_said avps ≡ Ok (Known m) → AssignsSome m
  unfolding message_by
  message_assigns m is = subst (Gives ReadAssigns) is (told_assigns (first 0 avps))

-- ---- faults of a message whose kind is known

-- one of its pairs, and not of its type
abbrev pub IsInner : MessageError → Type 0
IsInner NoType = ⊥
IsInner (UnknownType n) = ⊥
IsInner x = Unit {0}

abbrev FailsInside : {A : Type 0} → Result A MessageError → Type 0
FailsInside r = Fails IsInner r

value_fails : (s : Shape) (vector : Bool) (a : Avp) → FailsInside (checked_value s vector a)
value_fails s vector a =
    branch FailsInside a.hidden _ _
    (λ hidden. branch FailsInside vector _ _ (λ yes. tt) (λ no. tt))
    (λ plain. branch FailsInside (fits s a.value) _ _ (λ good. tt) (λ bad. tt))

use_fails : (o : Option Shape) (before : List Avp) (a : Avp) → FailsInside (checked_use o before a)
use_fails None before a = tt
use_fails (Some s) before a = branch FailsInside (counts_once a.attribute && is_some (first a.attribute before)) _ _ (λ again. tt) (λ alone. value_fails s (has_vector before) a)

draw_fails : (used : Bool) (before : List Avp) (a : Avp) → FailsInside (checked_draw used before a)
draw_fails false before a = tt
draw_fails true before a = branch FailsInside (is_some (first_draw before)) _ _ (λ again. tt) (λ alone. value_fails Long (has_vector before) a)

pair_fails : (k : Kind) (before : List Avp) (a : Avp) → FailsInside (checked k before a)
unfolding checked
pair_fails k before a =
    branch FailsInside (is_recognised a) _ _
    (λ known. branch FailsInside (a.vendor == 0) _ _ (λ ietf. use_fails (shape_of k a.attribute) before a) (λ other. draw_fails (uses_draw k) before a))
    (λ unknown. branch FailsInside a.mandatory _ _ (λ must. tt) (λ may. tt))

all_fail : (k : Kind) (before rest : List Avp) → FailsInside (checked_all k before rest)
all_fail k before [] = tt
all_fail k before (a ∷ rest) = fails_after IsInner (checked k before a) _ (pair_fails k before a) (λ u. all_fail k (before ++ a ∷ []) rest)

number_fails : (width n : ℕ) (value : List ℕ) → FailsInside (number_in width n value)
number_fails width n value = branch FailsInside (length value == width) _ _ (λ good. tt) (λ bad. tt)

value_at_fails : (n : ℕ) (o : Option Avp) → FailsInside (value_in n o)
value_at_fails n None = tt
value_at_fails n (Some a) = tt

window_fails : (o : Option Avp) → FailsInside (window_in o)
window_fails None = tt
window_fails (Some a) = number_fails 2 10 a.value

failover_read_fails : (o : Option Failover) → FailsInside (failover_read o)
failover_read_fails None = tt
failover_read_fails (Some f) = tt

failover_fails : (o : Option Avp) → FailsInside (failover_in o)
failover_fails None = tt
failover_fails (Some a) = failover_read_fails (failover_value a.value)

recovery_read_fails : (o : Option Recovery) → FailsInside (recovery_read o)
recovery_read_fails None = tt
recovery_read_fails (Some r) = tt

recovery_fails : (o : Option Avp) → FailsInside (recovery_in o)
recovery_fails None = tt
recovery_fails (Some a) = recovery_read_fails (recovery_value a.value)

draw_read_fails : (o : Option ℕ) → FailsInside (draw_read o)
draw_read_fails None = tt
draw_read_fails (Some x) = tt

drawn_fails : (o : Option Avp) → FailsInside (draw_in o)
drawn_fails None = tt
drawn_fails (Some a) = draw_read_fails (draw_value a.value)

module _ (avps : List Avp) where
  short_fails : (n : ℕ) → FailsInside (u16_at n avps)
  unfolding u16_at
  short_fails n = fails_after IsInner (value_at n avps) _ (value_at_fails n (first n avps)) (λ v. number_fails 2 n v)

  long_fails : (n : ℕ) → FailsInside (u32_at n avps)
  unfolding u32_at
  long_fails n = fails_after IsInner (value_at n avps) _ (value_at_fails n (first n avps)) (λ v. number_fails 4 n v)

  opening_fails : (response : Option (List ℕ)) (r : Option Recovery) (s : Option Suggested) (d : Option ℕ) → FailsInside (opening_at avps response r s d)
  unfolding opening_at window_at failover_at
  opening_fails response r s d =
      fails_after IsInner (u16_at 2 avps) _ (short_fails 2)
      (λ version. fails_after IsInner (u32_at 3 avps) _ (long_fails 3)
      (λ framing. fails_after IsInner (value_at 7 avps) _ (value_at_fails 7 (first 7 avps))
      (λ name. fails_after IsInner (u16_at 9 avps) _ (short_fails 9)
      (λ tunnel. fails_after IsInner (window_at avps) _ (window_fails (first 10 avps))
      (λ window. fails_after IsInner (failover_at avps) _ (failover_fails (first 76 avps)) (λ failover. tt))))))

  -- an SCCRQ
  sccrq_fails : FailsInside (of_kind kind.Sccrq avps)
  unfolding recovery_at draw_at
  sccrq_fails =
      fails_after IsInner (recovery_at avps) _ (recovery_fails (first 77 avps))
      (λ r. fails_after IsInner (draw_at avps) _ (drawn_fails (first_draw avps))
      (λ d. fails_after IsInner (opening_at avps None r None d) _ (opening_fails None r None d) (λ o. tt)))

  known_fails : (n : ℕ) (mandatory : Bool) → FailsInside (of_type n mandatory (Some kind.Sccrq) avps)
  known_fails n mandatory =
      fails_after IsInner (checked_all kind.Sccrq [] avps) _ (all_fail kind.Sccrq [] avps)
      (λ u. fails_after IsInner (of_kind kind.Sccrq avps) _ sccrq_fails (λ m. tt))

  pub inner_fault : (x : MessageError) → kind_said avps ≡ Some kind.Sccrq → message_said avps ≡ Err x → IsInner x
  unfolding kind_by message_by
  inner_fault x named failed = told (first 0 avps) named failed
    where
      numbered : (a : Avp) (n : ℕ) (o : Option Kind) → o ≡ Some kind.Sccrq → of_type n a.mandatory o avps ≡ Err x → IsInner x
      numbered a n o is e = subst (Fails IsInner) e (rw is (known_fails n a.mandatory))

      typed : (a : Avp) (r : Result ℕ MessageError) → type_number a ≡ r → kind_told Queries (Some a) ≡ Some kind.Sccrq
          → with_type Queries (Some a) avps ≡ Err x → IsInner x
      typed a (Ok n) is named e = numbered a n (kind_of Queries n) (rw is at named) (rw is at e)
      typed a (Err y) is named e = absurd (let f : None ≡ Some kind.Sccrq = rw is at named in cc)

      told : (o : Option Avp) → kind_told Queries o ≡ Some kind.Sccrq → with_type Queries o avps ≡ Err x → IsInner x
      told None named e = absurd cc
      told (Some a) named e = typed a (type_number a) refl named e

  -- a request for a call
  icrq_fails : FailsInside (of_kind kind.Icrq avps)
  unfolding icrq_at
  icrq_fails =
      fails_after IsInner (u16_at 14 avps) _ (short_fails 14)
      (λ session. fails_after IsInner (u32_at 15 avps) _ (long_fails 15) (λ serial. tt))

  ocrq_fails : FailsInside (of_kind kind.Ocrq avps)
  unfolding ocrq_at
  ocrq_fails = fails_after IsInner (u16_at 14 avps) _ (short_fails 14) (λ session. tt)

  module _ (k : Kind) (inside : FailsInside (of_kind k avps)) where
    kind_fails : (n : ℕ) (mandatory : Bool) → FailsInside (of_type n mandatory (Some k) avps)
    kind_fails n mandatory =
        fails_after IsInner (checked_all k [] avps) _ (all_fail k [] avps)
        (λ u. fails_after IsInner (of_kind k avps) _ inside (λ m. tt))

    inner_of : (x : MessageError) → kind_said avps ≡ Some k → message_said avps ≡ Err x → IsInner x
    unfolding kind_by message_by
    inner_of x named failed = told (first 0 avps) named failed
      where
        numbered : (a : Avp) (n : ℕ) (o : Option Kind) → o ≡ Some k → of_type n a.mandatory o avps ≡ Err x → IsInner x
        numbered a n o is e = subst (Fails IsInner) e (rw is (kind_fails n a.mandatory))

        typed : (a : Avp) (r : Result ℕ MessageError) → type_number a ≡ r → kind_told Queries (Some a) ≡ Some k
            → with_type Queries (Some a) avps ≡ Err x → IsInner x
        typed a (Ok n) is named e = numbered a n (kind_of Queries n) (rw is at named) (rw is at e)
        typed a (Err y) is named e = absurd (let f : None ≡ Some k = rw is at named in cc)

        told : (o : Option Avp) → kind_told Queries o ≡ Some k → with_type Queries o avps ≡ Err x → IsInner x
        told None named e = absurd cc
        told (Some a) named e = typed a (type_number a) refl named e

  pub inner_icrq : (x : MessageError) → kind_said avps ≡ Some kind.Icrq → message_said avps ≡ Err x → IsInner x
  inner_icrq x named failed = inner_of kind.Icrq icrq_fails x named failed

  pub inner_ocrq : (x : MessageError) → kind_said avps ≡ Some kind.Ocrq → message_said avps ≡ Err x → IsInner x
  inner_ocrq x named failed = inner_of kind.Ocrq ocrq_fails x named failed
