-- What a message at tunnel 0 is for that has no Tunnel Recovery stands in its kind and in the tunnel id that its pairs tell: whether it can be
-- read changes nothing.
use Rattle.std.proofs.Common.{◌≡◌, ℕ, Bool, true, false, cond, List, [], ◌∷◌, ◌++◌, find, Option, Some, None, Result, Ok, Err, refl, sym, ap, ◌∙◌, subst, arith}
use Rattle.std.proofs.lemmas.Bool.{and_parts}
use Rattle.std.proofs.lemmas.Bool.Decides.{nat_tests}
use Rattle.std.specs.Prelude.{◌==◌, ◌&&◌, not, length, is_some, IfOk, if◌then◌else◌}
use Rattle.byteorder.specs.Endian.{big_number}
use Rattle.wire_base.specs.Answers.{◌>>=◌}
use Rattle.avp_codec.specs.declared.avp.Avp.{Avp}
use Rattle.control_message.specs.declared.kind.Kinds.TheVariants.{Queries}
use Rattle.control_message.specs.declared.kind.Kind.{Kind}
use Rattle.control_message.specs.declared.kind.Kind.TheVariants as kind
use Rattle.control_message.specs.declared.kind.Shape.{Shape}
use Rattle.control_message.specs.declared.kind.Shape.TheVariants.{Short, Nonzero}
use Rattle.control_message.specs.declared.message.Message.{Message}
use Rattle.control_message.specs.declared.message.Message.TheVariants.{Sccrq, Sccrp}
use Rattle.control_message.specs.declared.message.Opening.{Opening}
use Rattle.control_message.specs.declared.message.Recovery.{Recovery}
use Rattle.control_message.specs.declared.message.Suggested.{Suggested}
use Rattle.control_message.specs.declared.message.Read.{Read}
use Rattle.control_message.specs.declared.message.Read.TheVariants.{Known}
use Rattle.control_message.specs.declared.message.MessageError.{MessageError}
use Rattle.control_message.specs.declared.message.MessageError.TheVariants.{BadValue, HiddenWithoutVector}
use Rattle.control_message.specs.Table.{kind_of, shape_of, fits}
use Rattle.control_message.specs.Reading.{is_at, first, has_vector, checked, checked_all, value_in, value_at, number_in, u16_at, u32_at, window_at, failover_at, recovery_at, draw_at, response_at, suggested_at, result_code_at, opening_at, stop_ccn_at, of_kind, type_number, of_type, with_type, kind_named, kind_by, ocrq_at, icrq_at, icrp_at, iccn_at, cdn_at, wen_at, sli_at, message_by, is_plain_short, short_in, plain_short}
use Rattle.end_model.specs.declared.event.Addressee.{Addressee}
use Rattle.end_model.specs.declared.event.Addressee.TheVariants.{Opens, Recovers, Answers}
use Rattle.end_model.specs.Reading.{kind_said, message_said, stopped, told_or_none, zero_faulty, zero_read}

-- ---- what holds of an answer, whatever it is

bound : {A B E : Type 0} (P : B → Type 0) (r : Result A E) (f : A → Result B E) → ((x : A) → r ≡ Ok x → IfOk (f x) P) → IfOk (r >>= f) P
bound P (Ok x) f h = h x refl
bound P (Err e) f h = tt

then_ok : (r q : Result (Unit {0}) MessageError) → (r >>= λ _. q) ≡ Ok tt → (r ≡ Ok tt) × (q ≡ Ok tt)
then_ok (Ok u) q h = (refl, h)
then_ok (Err e) q h = absurd cc

-- ---- the first pair of an attribute

found_plain_by : (n : ℕ) (x a : Avp) (xs : List Avp) (b : Bool) → is_at n x ≡ b → cond b (Some x) (find (λ y. is_at n y) xs) ≡ Some a → (not a.hidden && length a.value == 2) ≡ true
    → (find (λ y. is_at n y) xs ≡ Some a → find (λ y. is_plain_short n y) xs ≡ Some a) → find (λ y. is_plain_short n y) (x ∷ xs) ≡ Some a
found_plain_by n x a xs true is got plain later =
    let same : x ≡ a = cc in
    rw (is, same, plain) refl
found_plain_by n x a xs false is got plain later = rw is (later got)

-- where it is plain and has two bytes, it is the first that is so
found_plain : (n : ℕ) (avps : List Avp) (a : Avp) → first n avps ≡ Some a → (not a.hidden && length a.value == 2) ≡ true → find (λ y. is_plain_short n y) avps ≡ Some a
found_plain n [] a got plain = absurd cc
found_plain n (x ∷ xs) a got plain = found_plain_by n x a xs (is_at n x) refl got plain (λ later. found_plain n xs a later plain)

-- ---- what is checked of it

none_by : (n : ℕ) (b x : Avp) (before : List Avp) → (c : Bool) → is_at n b ≡ c → cond c (Some b) (first n before) ≡ None → (first n before ≡ None → first n (before ++ x ∷ []) ≡ None)
    → first n (b ∷ before ++ x ∷ []) ≡ None
none_by n b x before true is got later = absurd cc
none_by n b x before false is got later = rw is (later got)

none_behind : (n : ℕ) (x : Avp) (before : List Avp) → first n before ≡ None → is_at n x ≡ false → first n (before ++ x ∷ []) ≡ None
none_behind n x [] none is = rw is refl
none_behind n x (b ∷ before) none is = none_by n b x before (is_at n b) refl none (λ rest. none_behind n x before rest is)

abbrev tested : Bool → Bool → Bool → ℕ → Result (Unit {0}) MessageError
tested vector hidden fit n = if hidden then (if vector then Err (BadValue n) else Err (HiddenWithoutVector n)) else if fit then Ok tt else Err (BadValue n)

tested_so : (vector hidden fit : Bool) (n : ℕ) → tested vector hidden fit n ≡ Ok tt → (hidden ≡ false) × (fit ≡ true)
tested_so true true fit n h = absurd cc
tested_so false true fit n h = absurd cc
tested_so vector false true n h = (refl, refl)
tested_so vector false false n h = absurd cc

-- what `is_at` asks
at_parts : (n : ℕ) (a : Avp) → is_at n a ≡ true → ((a.vendor == 0) ≡ true) × (a.attribute ≡ n) × ((a.reserved == 0) ≡ true)
at_parts n a is =
    let outer = and_parts (a.vendor == 0 && a.attribute == n) (a.reserved == 0) is in
    let inner = and_parts (a.vendor == 0) (a.attribute == n) outer.0 in
    let same = inner.1 in
    (inner.0, grind (arith, nat_tests, same), outer.1)

module _ (k : Kind) (s : Shape) (uses : shape_of k 9 ≡ Some s) where
  abbrev IsChecked : Avp → Type 0
  IsChecked a = (a.hidden ≡ false) × (fits s a.value ≡ true)

  one_checked : (before : List Avp) (a : Avp) → first 9 before ≡ None → is_at 9 a ≡ true → checked k before a ≡ Ok tt → IsChecked a
  unfolding checked
  one_checked before a none is h =
      let parts = at_parts 9 a is in
      let value : checked k before a ≡ tested (has_vector before) a.hidden (fits s a.value) a.attribute = rw (parts.0, parts.2, parts.1, uses, none) refl in
      tested_so (has_vector before) a.hidden (fits s a.value) a.attribute (sym value ∙ h)

  all_by : (before xs : List Avp) (x a : Avp) → first 9 before ≡ None → (c : Bool) → is_at 9 x ≡ c → cond c (Some x) (first 9 xs) ≡ Some a → checked k before x ≡ Ok tt
      → (first 9 (before ++ x ∷ []) ≡ None → first 9 xs ≡ Some a → IsChecked a) → IsChecked a
  all_by before xs x a none true is found one later = let same : x ≡ a = cc in subst (λ (y : Avp). IsChecked y) same (one_checked before x none is one)
  all_by before xs x a none false is found one later = later (none_behind 9 x before none is) found

  all_checked : (before avps : List Avp) (a : Avp) → first 9 before ≡ None → checked_all k before avps ≡ Ok tt → first 9 avps ≡ Some a → IsChecked a
  all_checked before [] a none h got = absurd cc
  all_checked before (x ∷ xs) a none h got =
      let both = then_ok (checked k before x) (checked_all k (before ++ x ∷ []) xs) h in
      all_by before xs x a none (is_at 9 x) refl got both.0 (λ none_later rest. all_checked (before ++ x ∷ []) xs a none_later both.1 rest)

-- ---- the tunnel id that is told

told_by : (o : Option Avp) (t : ℕ) → (value_in 9 o >>= λ v. number_in 2 9 v) ≡ Ok t → (a : Avp) × (o ≡ Some a) × (length a.value ≡ 2) × (big_number 2 a.value ≡ t)
told_by None t h = absurd cc
told_by (Some a) t h = by (length a.value == 2) refl h
  where
    by : (b : Bool) → (length a.value == 2) ≡ b → (if b then Ok (big_number 2 a.value) else Err (BadValue 9)) ≡ Ok t → (x : Avp) × (Some a ≡ Some x) × (length x.value ≡ 2) × (big_number 2 x.value ≡ t)
    by true is got = (a, refl, grind (arith, nat_tests), cc)
    by false is got = absurd cc

module _ (avps : List Avp) (k : Kind) (s : Shape) (uses : shape_of k 9 ≡ Some s) (whole : checked_all k [] avps ≡ Ok tt) where
  told_is : (t : ℕ) → u16_at 9 avps ≡ Ok t → (plain_short 9 avps ≡ Some t) × ((a : Avp) × (big_number 2 a.value ≡ t) × (fits s a.value ≡ true))
  unfolding u16_at
  told_is t h =
      let told = told_by (first 9 avps) t h in
      let a = told.0 in
      let checks = all_checked k s uses [] avps a refl whole told.1 in
      let two : (length a.value == 2) ≡ true = (let len = told.2 in grind (arith, nat_tests)) in
      let plain : (not a.hidden && length a.value == 2) ≡ true = rw (checks.0, two) refl in
      (ap short_in (found_plain 9 avps a told.1 plain) ∙ rw two (ap (λ x. Some x) told.3), (a, told.3, checks.1))

-- ---- what the message is for

mapped : {A B E : Type 0} (P : B → Type 0) (r : Result A E) (f : A → B) → IfOk r (λ x. P (f x)) → IfOk (r >>= λ x. Ok (f x)) P
mapped P (Ok x) f h = h
mapped P (Err e) f h = tt

opening_told : (avps : List Avp) (P : Opening → Type 0) (response : Option (List ℕ)) (recovery : Option Recovery) (suggested : Option Suggested) (attempt : Option ℕ)
    → ((o : Opening) → u16_at 9 avps ≡ Ok o.tunnel → o.recovery ≡ recovery → P o) → IfOk (opening_at avps response recovery suggested attempt) P
unfolding opening_at
opening_told avps P response recovery suggested attempt h =
    bound P (u16_at 2 avps) _ (λ version _. bound P (u32_at 3 avps) _ (λ framing _. bound P (value_at 7 avps) _ (λ name _. bound P (u16_at 9 avps) _ (λ tunnel is.
    bound P (window_at avps) _ (λ window _. bound P (failover_at avps) _ (λ failover _. h _ is refl))))))

isnt_zero : (t : ℕ) (a : Avp) → big_number 2 a.value ≡ t → fits Nonzero a.value ≡ true → (t == 0) ≡ false
isnt_zero t a is fit = let not_zero = (and_parts (length a.value == 2) (not (big_number 2 a.value == 0)) fit).1 in by t (big_number 2 a.value == 0) (ap (λ x. x == 0) is) not_zero
  where
    by : (t : ℕ) (b : Bool) → b ≡ (t == 0) → not b ≡ true → (t == 0) ≡ false
    by t true same h = absurd cc
    by t false same h = sym same

-- whether an opening asks for a recovery
abbrev opened : ℕ → Option Recovery → Addressee
opened tunnel recovery = if is_some recovery then Recovers tunnel else Opens tunnel

none_read : (avps : List Avp) → first 77 avps ≡ None → (r : Option Recovery) → recovery_at avps ≡ Ok r → r ≡ None
unfolding recovery_at
none_read avps none r is = cc

module _ (avps : List Avp) (none : first 77 avps ≡ None) where
  abbrev Same : Kind → Message → Type 0
  Same k m = zero_read avps (Ok (Known m)) ≡ zero_faulty (Some k) avps

  told_nonzero : (to : ℕ → Addressee) (k : Kind) → shape_of k 9 ≡ Some Nonzero → checked_all k [] avps ≡ Ok tt → (t : ℕ) → u16_at 9 avps ≡ Ok t → to t ≡ told_or_none to (plain_short 9 avps)
  told_nonzero to k uses whole t is =
      let told = told_is avps k Nonzero uses whole t is in
      rw (told.0, isnt_zero t told.1.0 told.1.1 told.1.2) refl

  by_kind : (k : Kind) → checked_all k [] avps ≡ Ok tt → IfOk (of_kind k avps) (Same k)
  unfolding zero_read stop_ccn_at ocrq_at icrq_at icrp_at iccn_at cdn_at wen_at sli_at
  by_kind kind.Sccrq whole =
      bound (Same kind.Sccrq) (recovery_at avps) _ (λ r asks. bound (Same kind.Sccrq) (draw_at avps) _ (λ d _.
      mapped (Same kind.Sccrq) (opening_at avps None r None d) (λ o. Sccrq o) (opening_told avps _ None r None d (λ o is same.
      ap (opened o.tunnel) (same ∙ none_read avps none r asks) ∙ told_nonzero (λ i. Opens i) kind.Sccrq refl whole o.tunnel is))))
  by_kind kind.Sccrp whole =
      bound (Same kind.Sccrp) (response_at avps) _ (λ r _. bound (Same kind.Sccrp) (suggested_at avps) _ (λ s _. bound (Same kind.Sccrp) (draw_at avps) _ (λ d _.
      mapped (Same kind.Sccrp) (opening_at avps r None s d) (λ o. Sccrp o) (opening_told avps _ r None s d (λ o is _. told_nonzero (λ i. Answers i) kind.Sccrp refl whole o.tunnel is)))))
  by_kind kind.Scccn whole = bound (Same kind.Scccn) (response_at avps) _ (λ r _. refl)
  by_kind kind.StopCcn whole =
      bound (Same kind.StopCcn) (result_code_at avps) _ (λ code _. bound (Same kind.StopCcn) (u16_at 9 avps) _ (λ t is.
      ap stopped (sym (told_is avps kind.StopCcn Short refl whole t is).0)))
  by_kind kind.Hello whole = refl
  by_kind kind.Ocrq whole = bound (Same kind.Ocrq) (u16_at 14 avps) _ (λ s _. refl)
  by_kind kind.Ocrp whole = refl
  by_kind kind.Occn whole = refl
  by_kind kind.Icrq whole = bound (Same kind.Icrq) (u16_at 14 avps) _ (λ s _. bound (Same kind.Icrq) (u32_at 15 avps) _ (λ n _. refl))
  by_kind kind.Icrp whole = bound (Same kind.Icrp) (u16_at 14 avps) _ (λ s _. refl)
  by_kind kind.Iccn whole = bound (Same kind.Iccn) (u32_at 19 avps) _ (λ f _. bound (Same kind.Iccn) (u32_at 24 avps) _ (λ s _. refl))
  by_kind kind.Cdn whole = bound (Same kind.Cdn) (result_code_at avps) _ (λ c _. bound (Same kind.Cdn) (u16_at 14 avps) _ (λ s _. refl))
  by_kind kind.Wen whole = bound (Same kind.Wen) (value_at 34 avps) _ (λ v _. refl)
  by_kind kind.Sli whole = bound (Same kind.Sli) (value_at 35 avps) _ (λ v _. refl)
  by_kind kind.Fsq whole = refl
  by_kind kind.Fsr whole = refl

  -- of pairs that make a message, and of those that don't
  abbrev Reads : Option Kind → Result Read MessageError → Type 0
  Reads k r = zero_read avps r ≡ zero_faulty k avps

  read_so : (k : Kind) (r : Result Message MessageError) → kind_said avps ≡ Some k → IfOk r (Same k) → Reads (Some k) (r >>= λ m. Ok (Known m))
  unfolding zero_read
  read_so k (Ok m) is h = h
  read_so k (Err e) is h = ap (λ o. zero_faulty o avps) is

  typed : (n : ℕ) (mandatory : Bool) (o : Option Kind) → kind_said avps ≡ o → Reads o (of_type n mandatory o avps)
  unfolding zero_read
  typed n true None is = ap (λ o. zero_faulty o avps) is
  typed n false None is = refl
  typed n mandatory (Some k) is = by (checked_all k [] avps) refl
    where
      by : (c : Result (Unit {0}) MessageError) → checked_all k [] avps ≡ c → Reads (Some k) (c >>= λ _. of_kind k avps >>= λ m. Ok (Known m))
      by (Ok u) whole = read_so k (of_kind k avps) is (by_kind k whole)
      by (Err e) whole = ap (λ o. zero_faulty o avps) is

  named : (a : Avp) (r : Result ℕ MessageError) → type_number a ≡ r → kind_said avps ≡ kind_named Queries r → Reads (kind_said avps) (r >>= λ n. of_type n a.mandatory (kind_of Queries n) avps)
  unfolding zero_read
  named a (Ok n) is told = subst (λ o. Reads o (of_type n a.mandatory (kind_of Queries n) avps)) (sym told) (typed n a.mandatory (kind_of Queries n) told)
  named a (Err e) is told = refl

  first_type : (o : Option Avp) → first 0 avps ≡ o → Reads (kind_said avps) (with_type Queries o avps)
  unfolding zero_read kind_by
  first_type None is = refl
  first_type (Some a) is = named a (type_number a) refl (rw is refl)

  pub zero_is : zero_read avps (message_said avps) ≡ zero_faulty (kind_said avps) avps
  unfolding message_by
  zero_is = first_type (first 0 avps) refl
