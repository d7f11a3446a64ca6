-- An SCCRQ or an SCCRP that can be read tells an id and a window that aren't 0.
use Rattle.std.proofs.Common.{◌≡◌, ℕ, arith, Bool, true, false, cond, List, [], ◌∷◌, ◌++◌, length, refl, sym, ap, ◌∙◌, subst, Option, Some, None, Result, Ok, Err}
use Rattle.std.proofs.lemmas.Bool.{eqb-true, eq-eqb, true≢false}
use Rattle.std.proofs.lemmas.Option.{none-some}
use Rattle.std.specs.Prelude.{◌==◌, ◌&&◌, not}
use Rattle.wire_base.specs.Answers.{◌>>=◌}
use Rattle.avp_codec.specs.declared.avp.Avp.{Avp}
use Rattle.control_message.specs.declared.kind.Kinds.TheVariants.{Queries}
use Rattle.control_message.specs.declared.kind.Kind.{Kind}
use Rattle.control_message.specs.declared.kind.Kind.TheVariants as kind
use Rattle.control_message.specs.declared.kind.Shape.TheVariants.{Nonzero}
use Rattle.control_message.specs.declared.message.Message.{Message}
use Rattle.control_message.specs.declared.message.Message.TheVariants.{Sccrq, Sccrp}
use Rattle.control_message.specs.declared.message.Opening.{Opening}
use Rattle.control_message.specs.declared.message.Recovery.{Recovery}
use Rattle.control_message.specs.declared.message.Suggested.{Suggested}
use Rattle.control_message.specs.declared.message.Read.{Read}
use Rattle.control_message.specs.declared.message.Read.TheVariants.{Known, Ignored}
use Rattle.control_message.specs.declared.message.MessageError.{MessageError}
use Rattle.control_message.specs.declared.message.MessageError.TheVariants.{HiddenWithoutVector, BadValue}
use Rattle.control_message.specs.Table.{kind_of, shape_of, fits}
use Rattle.control_message.specs.Reading.{counts_once, response_at, suggested_at, draw_at, is_listed, is_at, first, has_vector, checked_value, checked, checked_all, value_in, value_at, number_in, u16_at, u32_at, window_in, window_at, failover_at, recovery_at, opening_at, icrq_at, icrp_at, iccn_at, result_code_at, stop_ccn_at, ocrq_at, cdn_at, wen_at, sli_at, of_kind, type_number, of_type, with_type, message_by}
use Rattle.avp_codec.specs.declared.error.AvpError.{AvpError}
use Rattle.avp_codec.specs.Reading.{avps_of}
use Rattle.end_model.specs.Reading.{message_in, message_read, pairs_read, message_said}
use Rattle.book_laws.proofs.Lists.{branch, and_left, and_right}

-- ---- a reading in steps

-- what is so of whatever a reading gives, and of what it fails with
abbrev Gives : {A : Type 0} → (A → Type 0) → Result A MessageError → Type 0
Gives P (Ok a) = P a
Gives P (Err x) = Unit {0}

abbrev Fails : {A : Type 0} → (MessageError → Type 0) → Result A MessageError → Type 0
Fails P (Ok a) = Unit {0}
Fails P (Err x) = P x

gives_after : {A B : Type 0} (P : B → Type 0) (r : Result A MessageError) (f : A → Result B MessageError)
    → ((a : A) → r ≡ Ok a → Gives P (f a)) → Gives P (r >>= f)
gives_after P (Ok a) f h = h a refl
gives_after P (Err x) f h = tt

fails_after : {A B : Type 0} (P : MessageError → Type 0) (r : Result A MessageError) (f : A → Result B MessageError)
    → Fails P r → ((a : A) → Fails P (f a)) → Fails P (r >>= f)
fails_after P (Ok a) f h k = k a
fails_after P (Err x) f h k = h

record Bound {A B : Type 0} (r : Result A MessageError) (f : A → Result B MessageError) (b : B) : Type 0 where
  first : A
  is : r ≡ Ok first
  then : f first ≡ Ok b

bound : {A B : Type 0} (r : Result A MessageError) (f : A → Result B MessageError) (b : B) → (r >>= f) ≡ Ok b → Bound r f b
bound (Ok a) f b h = record { first = a; is = refl; then = h }
bound (Err x) f b h = absurd cc

-- ---- the first Assigned Tunnel ID

first_push : (n : ℕ) (xs : List Avp) (x : Avp) → first n xs ≡ None → is_at n x ≡ false → first n (xs ++ x ∷ []) ≡ None
first_push n [] x none other = rw other refl
first_push n (y ∷ xs) x none other = by (is_at n y) refl none (λ rest. first_push n xs x rest other)
  where
    by : (b : Bool) → is_at n y ≡ b → cond b (Some y) (first n xs) ≡ None → (first n xs ≡ None → first n (xs ++ x ∷ []) ≡ None)
        → first n (y ∷ (xs ++ x ∷ [])) ≡ None
    by true is e later = absurd (none-some y (sym e))
    by false is e later = rw is (later e)

-- a value that passes isn't hidden, and has its shape
value_fits : (vector : Bool) (a : Avp) (u : Unit {0}) → checked_value Nonzero vector a ≡ Ok u → fits Nonzero a.value ≡ true
value_fits vector a u h = by a.hidden vector (fits Nonzero a.value) h
  where
    by : (d v f : Bool)
        → ◌≡◌ {A = Result (Unit {0}) MessageError}
        (cond d (cond v (Err (BadValue a.attribute)) (Err (HiddenWithoutVector a.attribute))) (cond f (Ok tt) (Err (BadValue a.attribute)))) (Ok u)
        → f ≡ true
    by true true f e = absurd cc
    by true false f e = absurd cc
    by false v true e = refl
    by false v false e = absurd cc

-- a number that is read of it isn't 0
not_zero : (m : ℕ) (wide : Bool) (x n : ℕ) → ◌≡◌ {A = Result ℕ MessageError} (cond wide (Ok x) (Err (BadValue m))) (Ok n) → (wide && not (x == 0)) ≡ true
    → n ≡ 0 → ⊥
not_zero m false x n e fit zero = true≢false (sym fit)
not_zero m true x n e fit zero =
    let same : x ≡ n = cc in
    true≢false (sym fit ∙ ap not (eq-eqb x 0 (same ∙ zero)))

module _ (k : Kind) (n : ℕ) (shape : shape_of k n ≡ Some Nonzero) (known : is_listed 0 n ≡ true) (once : counts_once n ≡ true) where
  -- it is used
  checked_first : (before : List Avp) (a : Avp) → first n before ≡ None → is_at n a ≡ true
      → checked k before a ≡ checked_value Nonzero (has_vector before) a
  unfolding checked
  checked_first before a none is =
      let plain = and_left (a.vendor == 0 && a.attribute == n) (a.reserved == 0) is in
      let vendor = eqb-true a.vendor 0 (and_left (a.vendor == 0) (a.attribute == n) plain) in
      let attribute = eqb-true a.attribute n (and_right (a.vendor == 0) (a.attribute == n) plain) in
      let listed : is_listed a.vendor a.attribute ≡ true = ap (λ (v : ℕ). is_listed v a.attribute) vendor ∙ ap (is_listed 0) attribute ∙ known in
      let shaped : shape_of k a.attribute ≡ Some Nonzero = ap (shape_of k) attribute ∙ shape in
      let alone : first a.attribute before ≡ None = ap (λ (m : ℕ). first m before) attribute ∙ none in
      let single : counts_once a.attribute ≡ true = ap counts_once attribute ∙ once in
      rw (and_right (a.vendor == 0 && a.attribute == n) (a.reserved == 0) is, listed, eq-eqb a.vendor 0 vendor, shaped, alone, single) refl

  -- so the first of those that pass has the shape
  first_fits : (before rest : List Avp) (u : Unit {0}) → first n before ≡ None → checked_all k before rest ≡ Ok u → (a : Avp) → first n rest ≡ Some a
      → fits Nonzero a.value ≡ true
  first_fits before [] u none checks a is = absurd cc
  first_fits before (b ∷ rest) u none checks a is =
      let c = bound (checked k before b) (λ _. checked_all k (before ++ b ∷ []) rest) u checks in
      by (is_at n b) refl is c (λ other e. first_fits (before ++ b ∷ []) rest u (first_push n before b none other) c.then a e)
    where
      by : (q : Bool) → is_at n b ≡ q → cond q (Some b) (first n rest) ≡ Some a
          → Bound (checked k before b) (λ _. checked_all k (before ++ b ∷ []) rest) u
          → (is_at n b ≡ false → first n rest ≡ Some a → fits Nonzero a.value ≡ true) → fits Nonzero a.value ≡ true
      by true here e c later =
          let same : b ≡ a = cc in
          subst (λ (x : Avp). fits Nonzero x.value ≡ true) same
          (value_fits (has_vector before) b c.first (sym (checked_first before b none here) ∙ c.is))
      by false here e c later = later here e

  module _ (avps : List Avp) (u : Unit {0}) (checks : checked_all k [] avps ≡ Ok u) where
    -- the number of it isn't 0
    number_some : (a : Avp) → first n avps ≡ Some a → (x : ℕ) → number_in 2 n a.value ≡ Ok x → x ≡ 0 → ⊥
    number_some a is x number zero = not_zero n (length a.value == 2) _ x number (first_fits [] avps u refl checks a is) zero

    value_some : (x : ℕ) → u16_at n avps ≡ Ok x → x ≡ 0 → ⊥
    unfolding u16_at
    value_some x h zero =
        let v = bound (value_at n avps) (λ v. number_in 2 n v) x h in
        by (first n avps) refl v.first v.is v.then
      where
        by : (o : Option Avp) → first n avps ≡ o → (value : List ℕ) → value_in n o ≡ Ok value → number_in 2 n value ≡ Ok x → ⊥
        by None is value has number = absurd cc
        by (Some a) is value has number =
            let same : a.value ≡ value = cc in
            number_some a is x (subst (λ (w : List ℕ). number_in 2 n w ≡ Ok x) (sym same) number) zero

-- an opening that is told
abbrev pub IsTold : Opening → Type 0
IsTold o = (o.tunnel ≡ 0 → ⊥) × (o.window ≡ 0 → ⊥)

module _ (k : Kind) (ids : shape_of k 9 ≡ Some Nonzero) (windows : shape_of k 10 ≡ Some Nonzero) (avps : List Avp) (u : Unit {0}) (checks : checked_all k [] avps ≡ Ok u) where
  window_some : (w : ℕ) → window_at avps ≡ Ok w → w ≡ 0 → ⊥
  unfolding window_at
  window_some w h zero = by (first 10 avps) refl h
    where
      by : (o : Option Avp) → first 10 avps ≡ o → window_in o ≡ Ok w → ⊥
      by None is e = absurd (let four : 4 ≡ w = cc in omega (arith, four, zero))
      by (Some a) is e = number_some k 10 windows refl refl avps u checks a is w e zero

  opening_some : (response : Option (List ℕ)) (recovery : Option Recovery) (suggested : Option Suggested) (attempt : Option ℕ) (o : Opening)
      → opening_at avps response recovery suggested attempt ≡ Ok o → IsTold o
  unfolding opening_at
  opening_some response recovery suggested attempt o h =
      let a = bound (u16_at 2 avps) _ o h in
      let b = bound (u32_at 3 avps) _ o a.then in
      let c = bound (value_at 7 avps) _ o b.then in
      let d = bound (u16_at 9 avps) _ o c.then in
      let w = bound (window_at avps) _ o d.then in
      let f = bound (failover_at avps) _ o w.then in
      let same = made _ o f.then in (
        λ zero. value_some k 9 ids refl refl avps u checks d.first d.is (ap (λ (x : Opening). x.tunnel) same ∙ zero),
        λ zero. window_some w.first w.is (ap (λ (x : Opening). x.window) same ∙ zero),
      )
    where
      made : (p q : Opening) → ◌≡◌ {A = Result Opening MessageError} (Ok p) (Ok q) → p ≡ q
      made p q e = cc

-- ---- messages

-- an opening tells them
abbrev pub TellsSome : Message → Type 0
TellsSome (Sccrq o) = IsTold o
TellsSome (Sccrp o) = IsTold o
TellsSome m = Unit {0}

module _ (avps : List Avp) where
  kind_tells : (k : Kind) (u : Unit {0}) → checked_all k [] avps ≡ Ok u → Gives TellsSome (of_kind k avps)
  unfolding response_at stop_ccn_at icrq_at icrp_at iccn_at ocrq_at cdn_at wen_at sli_at
  kind_tells kind.Sccrq u checks =
      gives_after TellsSome (recovery_at avps) _
      (λ r is. gives_after TellsSome (draw_at avps) _
      (λ d drawn. gives_after TellsSome (opening_at avps None r None d) _ (λ o made. opening_some kind.Sccrq refl refl avps u checks None r None d o made)))
  kind_tells kind.Sccrp u checks =
      gives_after TellsSome (response_at avps) _
      (λ r is. gives_after TellsSome (suggested_at avps) _
      (λ s told. gives_after TellsSome (draw_at avps) _
      (λ d drawn. gives_after TellsSome (opening_at avps r None s d) _ (λ o made. opening_some kind.Sccrp refl refl avps u checks r None s d o made))))
  kind_tells kind.Scccn u checks = gives_after TellsSome (response_at avps) _ (λ r is. tt)
  kind_tells kind.StopCcn u checks =
      gives_after TellsSome (result_code_at avps) _ (λ code is. gives_after TellsSome (u16_at 9 avps) _ (λ tunnel at_. tt))
  kind_tells kind.Hello u checks = tt
  kind_tells kind.Ocrq u checks = gives_after TellsSome (u16_at 14 avps) _ (λ session is. tt)
  kind_tells kind.Ocrp u checks = tt
  kind_tells kind.Occn u checks = tt
  kind_tells kind.Fsq u checks = tt
  kind_tells kind.Fsr u checks = tt
  kind_tells kind.Icrq u checks =
      gives_after TellsSome (u16_at 14 avps) _ (λ session is. gives_after TellsSome (u32_at 15 avps) _ (λ serial at_. tt))
  kind_tells kind.Icrp u checks = gives_after TellsSome (u16_at 14 avps) _ (λ session is. tt)
  kind_tells kind.Iccn u checks =
      gives_after TellsSome (u32_at 19 avps) _ (λ framing is. gives_after TellsSome (u32_at 24 avps) _ (λ speed at_. tt))
  kind_tells kind.Cdn u checks =
      gives_after TellsSome (result_code_at avps) _ (λ code is. gives_after TellsSome (u16_at 14 avps) _ (λ session at_. tt))
  kind_tells kind.Wen u checks = gives_after TellsSome (value_at 34 avps) _ (λ value is. tt)
  kind_tells kind.Sli u checks = gives_after TellsSome (value_at 35 avps) _ (λ value is. tt)

  abbrev ReadTells : Read → Type 0
  ReadTells (Known m) = TellsSome m
  ReadTells (Ignored n) = Unit {0}

  known_tells : (r : Result Message MessageError) → Gives TellsSome r → Gives ReadTells (r >>= λ m. Ok (Known m))
  known_tells (Ok m) h = h
  known_tells (Err x) h = tt

  type_tells : (n : ℕ) (mandatory : Bool) (o : Option Kind) → Gives ReadTells (of_type n mandatory o avps)
  type_tells n mandatory None = branch (Gives ReadTells) mandatory _ _ (λ unknown. tt) (λ ignored. tt)
  type_tells n mandatory (Some k) =
      gives_after ReadTells (checked_all k [] avps) _ (λ u checks. known_tells (of_kind k avps) (kind_tells k u checks))

  pairs_tell : (o : Option Avp) → Gives ReadTells (with_type Queries o avps)
  pairs_tell None = tt
  pairs_tell (Some a) = gives_after ReadTells (type_number a) _ (λ n is. type_tells n a.mandatory (kind_of Queries n))

  pub message_tells : (m : Message) → message_said avps ≡ Ok (Known m) → TellsSome m
  unfolding message_by
  message_tells m is = subst (Gives ReadTells) is (pairs_tell (first 0 avps))

-- ---- of a body

read_tells : (r : Result Read MessageError) (m : Message) → ((x : Message) → r ≡ Ok (Known x) → TellsSome x) → message_read r ≡ Ok m → TellsSome m
unfolding message_read
read_tells (Ok (Known x)) m h is = let same : x ≡ m = cc in subst TellsSome same (h x refl)
read_tells (Ok (Ignored n)) m h is = absurd cc
read_tells (Err e) m h is = absurd cc

body_tells_by : (r : Result (List Avp) AvpError) (m : Message) → pairs_read r ≡ Ok m → TellsSome m
unfolding pairs_read
body_tells_by (Ok avps) m is = read_tells (message_said avps) m (message_tells avps) is
body_tells_by (Err e) m is = absurd cc

pub body_tells : (body : List ℕ) (m : Message) → message_in body ≡ Ok m → TellsSome m
unfolding message_in
body_tells body m is = body_tells_by (avps_of body) m is
