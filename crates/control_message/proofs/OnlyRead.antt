-- The messages that are only read, as the relation has them and as the reading finds them.
use Rattle.std.proofs.Common.{◌≡◌, ℕ, List, [], ◌∷◌, length, Option, Some, None, Result, Ok, refl, sym, subst, ◌∙◌, inl, inr}
use Rattle.std.specs.List.{AllByRecursion}
use Rattle.byteorder.specs.Endian.{big_number}
use Rattle.wire_base.specs.Answers.{◌>>=◌}
use Rattle.avp_codec.specs.declared.avp.Avp.{Avp}
use Rattle.control_message.specs.declared.kind.Kind.{Kind}
use Rattle.control_message.specs.declared.kind.Kind.TheVariants as kind
use Rattle.control_message.specs.declared.kind.Shape.{Shape}
use Rattle.control_message.specs.declared.kind.Shape.TheVariants.{Text, Short, Nonzero}
use Rattle.control_message.specs.declared.message.Message.{Message}
use Rattle.control_message.specs.declared.message.Message.TheVariants.{Ocrq, Wen, Sli}
use Rattle.control_message.specs.declared.message.MessageError.{MessageError}
use Rattle.control_message.specs.Table.{shape_of, uses_of, needs_of}
use Rattle.control_message.specs.Reading.{first, value_at, u16_at, ocrq_at, wen_at, sli_at}
use Rattle.control_message.specs.Grammar.{IsAbsent, HasValue, HasNumber, HasSome, SaysOcrp, SaysMessage, number_of}
use Rattle.control_message.specs.Faults.{IsSound}
use Rattle.control_message.proofs.Firsts.{first_absent, stands_first}
use Rattle.control_message.proofs.Values.{bind_ok, ok_same, IsGood, good, value_has, has_value, value_good, absent_good, number_has, has_number, value_or_missing, number_or_missing}
use Rattle.control_message.proofs.Needs.{Made, least_of}

-- ---- Outgoing-Call-Request

pub ocrq_says : (avps : List Avp) (m : Message) → IsSound kind.Ocrq avps → ocrq_at avps ≡ Ok m → (number_of m ≡ 7) × SaysMessage avps m
unfolding ocrq_at u16_at
ocrq_says avps m sound h =
    let session = bind_ok _ _ m h in
    let says : HasNumber 14 2 session.0 avps = (number_has kind.Ocrq avps 2 14 session.0 Short sound refl session.1).0 in
    subst (λ (x : Message). (number_of x ≡ 7) × SaysMessage avps x) (ok_same session.2) (refl, says)

pub says_ocrq : (avps : List Avp) (id : ℕ) → HasNumber 14 2 id avps → ocrq_at avps ≡ Ok (Ocrq id)
unfolding ocrq_at u16_at
says_ocrq avps id h = rw (has_number avps 2 14 id h) refl

pub ocrq_good : (avps : List Avp) (id : ℕ) → HasNumber 14 2 id avps → AllByRecursion (IsGood avps) (uses_of kind.Ocrq)
ocrq_good avps id h = (value_good avps 14 h.value Short h.has h.wide, tt)

pub ocrq_made : (avps : List Avp) → IsSound kind.Ocrq avps → Made kind.Ocrq avps (ocrq_at avps)
unfolding ocrq_at u16_at
ocrq_made avps sound =
    elim (number_or_missing kind.Ocrq avps 2 14 Short sound refl (λ v s. s)) [
      | inr no14 ↦ inr (14, rw no14.0 refl, least_of kind.Ocrq avps 14 [] [] refl tt tt no14.1)
      | inl session ↦ inl (Ocrq session.0, rw session.1 refl, (session.2, tt))
    ]

-- ---- Outgoing-Call-Reply

session_is : (avps : List Avp) (o : Option Avp) → first 14 avps ≡ o → IsGood avps (14, Nonzero) → SaysOcrp avps
session_is avps None e g = inr (first_absent 14 avps e)
session_is avps (Some a) e g =
    let f = stands_first 14 a avps e in
    let p = g a f in
    let has : HasValue 14 a.value avps = record { pair = a; first = f; plain = p.0; same = refl } in
    inl (big_number 2 a.value, record { value = a.value; has = has; wide = p.1.0; number = refl }, p.1.1)

pub ocrp_says : (avps : List Avp) → IsSound kind.Ocrp avps → SaysOcrp avps
ocrp_says avps sound = session_is avps (first 14 avps) refl (good kind.Ocrp avps 14 Nonzero sound refl)

pub ocrp_good : (avps : List Avp) → SaysOcrp avps → AllByRecursion (IsGood avps) (uses_of kind.Ocrp)
ocrp_good avps (inl h) = (value_good avps 14 h.1.value Nonzero h.1.has (h.1.wide, λ zero. h.2 (sym h.1.number ∙ zero)), tt)
ocrp_good avps (inr none) = (absent_good avps 14 Nonzero none, tt)

-- ---- a value that has to be there, and of which nothing is kept

some_has : (k : Kind) (avps : List Avp) (n : ℕ) (m x : Message) → IsSound k avps → shape_of k n ≡ Some Text
    → ◌≡◌ {A = Result Message MessageError} (value_at n avps >>= λ v. Ok m) (Ok x) → HasSome n avps × (m ≡ x)
some_has k avps n m x sound shape h =
    let b = bind_ok (value_at n avps) _ x h in
    ((b.0, (value_has k avps n Text b.0 sound shape b.1).0), ok_same b.2)

has_some : (avps : List Avp) (n : ℕ) (m : Message) → HasSome n avps → ◌≡◌ {A = Result Message MessageError} (value_at n avps >>= λ v. Ok m) (Ok m)
has_some avps n m h = rw (has_value avps n h.0 h.1) refl

some_made : (k : Kind) (avps : List Avp) (n : ℕ) (m : Message) → needs_of k ≡ n ∷ [] → Made k avps (value_at n avps >>= λ v. Ok m)
some_made k avps n m needs =
    elim (value_or_missing avps n) [
      | inr none ↦ inr (n, rw none.0 refl, least_of k avps n [] [] needs tt tt none.1)
      | inl value ↦ inl (m, rw value.1 refl, subst (AllByRecursion (λ x. ¬ IsAbsent x avps)) (sym needs) (value.2, tt))
    ]

-- ---- WAN-Error-Notify

pub wen_says : (avps : List Avp) (m : Message) → IsSound kind.Wen avps → wen_at avps ≡ Ok m → (number_of m ≡ 15) × SaysMessage avps m
unfolding wen_at
wen_says avps m sound h =
    let w = some_has kind.Wen avps 34 Wen m sound refl h in
    subst (λ (x : Message). (number_of x ≡ 15) × SaysMessage avps x) w.1 (refl, w.0)

pub says_wen : (avps : List Avp) → HasSome 34 avps → wen_at avps ≡ Ok Wen
unfolding wen_at
says_wen avps h = has_some avps 34 Wen h

pub wen_good : (avps : List Avp) → HasSome 34 avps → AllByRecursion (IsGood avps) (uses_of kind.Wen)
wen_good avps h = (value_good avps 34 h.0 Text h.1 tt, tt)

pub wen_made : (avps : List Avp) → Made kind.Wen avps (wen_at avps)
unfolding wen_at
wen_made avps = some_made kind.Wen avps 34 Wen refl

-- ---- Set-Link-Info

pub sli_says : (avps : List Avp) (m : Message) → IsSound kind.Sli avps → sli_at avps ≡ Ok m → (number_of m ≡ 16) × SaysMessage avps m
unfolding sli_at
sli_says avps m sound h =
    let w = some_has kind.Sli avps 35 Sli m sound refl h in
    subst (λ (x : Message). (number_of x ≡ 16) × SaysMessage avps x) w.1 (refl, w.0)

pub says_sli : (avps : List Avp) → HasSome 35 avps → sli_at avps ≡ Ok Sli
unfolding sli_at
says_sli avps h = has_some avps 35 Sli h

pub sli_good : (avps : List Avp) → HasSome 35 avps → AllByRecursion (IsGood avps) (uses_of kind.Sli)
sli_good avps h = (value_good avps 35 h.0 Text h.1 tt, tt)

pub sli_made : (avps : List Avp) → Made kind.Sli avps (sli_at avps)
unfolding sli_at
sli_made avps = some_made kind.Sli avps 35 Sli refl
