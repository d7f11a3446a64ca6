-- The messages of a call, as the relation has them and as the reading finds them.
use Rattle.std.proofs.Common.{◌≡◌, ℕ, Bool, true, false, List, [], ◌∷◌, Option, Some, None, is_some, Ok, refl, sym, subst, ◌∙◌, inl, inr, arith}
use Rattle.std.specs.List.{AllByRecursion}
use Rattle.avp_codec.specs.declared.avp.Avp.{Avp}
use Rattle.control_message.specs.declared.kind.Kind.TheVariants as kind
use Rattle.control_message.specs.declared.kind.Shape.TheVariants.{Text, Short, Nonzero, Long, ResultCode}
use Rattle.control_message.specs.declared.message.Message.{Message}
use Rattle.control_message.specs.declared.message.Message.TheVariants.{Icrq, Icrp, Iccn, Cdn}
use Rattle.control_message.specs.Table.{uses_of}
use Rattle.control_message.specs.Reading.{first, text_at, u16_at, u32_at, icrq_at, icrp_at, iccn_at, result_code_at, cdn_at}
use Rattle.control_message.specs.Grammar.{SaysSequenced, SaysIcrq, SaysIcrp, SaysIccn, SaysCdn, SaysMessage, number_of}
use Rattle.control_message.specs.Faults.{IsSound}
use Rattle.control_message.proofs.Firsts.{absent_first, first_absent, first_stands, stands_first}
use Rattle.control_message.proofs.Values.{bind_ok, ok_same, IsGood, good, value_has, value_good, absent_good, number_has, has_number, value_or_missing, number_or_missing}
use Rattle.control_message.proofs.Texts.{text_says, says_text, text_good}
use Rattle.control_message.proofs.Needs.{Made, least_of}
use Rattle.control_message.proofs.ResultCodes.{result_code_shape, some_result_code, result_code_has, has_result_code}

-- a message of a number, and what it says
abbrev Says : ℕ → List Avp → Message → Type 0
Says n avps m = (number_of m ≡ n) × SaysMessage avps m

-- ---- Incoming-Call-Request

pub icrq_says : (avps : List Avp) (m : Message) → IsSound kind.Icrq avps → icrq_at avps ≡ Ok m → Says 10 avps m
unfolding icrq_at u16_at u32_at
icrq_says avps m sound h =
    let session = bind_ok _ _ m h in
    let serial = bind_ok _ _ m session.2 in
    let says : SaysIcrq avps session.0 serial.0 (text_at 22 avps) =
    record {
      session = (number_has kind.Icrq avps 2 14 session.0 Short sound refl session.1).0;
      serial = (number_has kind.Icrq avps 4 15 serial.0 Long sound refl serial.1).0;
      calling = text_says kind.Icrq avps 22 sound refl;
    } in
    subst (Says 10 avps) (ok_same serial.2) (refl, says)

pub says_icrq : (avps : List Avp) (id count : ℕ) (caller : Option (List ℕ)) → SaysIcrq avps id count caller → icrq_at avps ≡ Ok (Icrq id count caller)
unfolding icrq_at u16_at u32_at
says_icrq avps id count caller h = rw (has_number avps 2 14 id h.session, has_number avps 4 15 count h.serial, says_text avps 22 caller h.calling) refl

pub icrq_good : (avps : List Avp) (id count : ℕ) (caller : Option (List ℕ)) → SaysIcrq avps id count caller → AllByRecursion (IsGood avps) (uses_of kind.Icrq)
icrq_good avps id count caller h = (
  value_good avps 14 h.session.value Short h.session.has h.session.wide,
  (
    value_good avps 15 h.serial.value Long h.serial.has h.serial.wide,
    (text_good avps 22 caller h.calling, tt),
  ),
)

pub icrq_made : (avps : List Avp) → IsSound kind.Icrq avps → Made kind.Icrq avps (icrq_at avps)
unfolding icrq_at u16_at u32_at
icrq_made avps sound =
    elim (number_or_missing kind.Icrq avps 2 14 Short sound refl (λ v s. s)) [
      | inr no14 ↦ inr (14, rw no14.0 refl, least_of kind.Icrq avps 14 [] (15 ∷ []) refl tt (omega arith, tt) no14.1)
      | inl session ↦ elim (number_or_missing kind.Icrq avps 4 15 Long sound refl (λ v s. s)) [
        | inr no15 ↦ inr (15, rw (session.1, no15.0) refl, least_of kind.Icrq avps 15 (14 ∷ []) [] refl (session.2, tt) tt no15.1)
        | inl serial ↦ inl (Icrq session.0 serial.0 (text_at 22 avps), rw (session.1, serial.1) refl, (session.2, (serial.2, tt)))
      ]
    ]

-- ---- Incoming-Call-Reply

pub icrp_says : (avps : List Avp) (m : Message) → IsSound kind.Icrp avps → icrp_at avps ≡ Ok m → Says 11 avps m
unfolding icrp_at u16_at
icrp_says avps m sound h =
    let session = bind_ok _ _ m h in
    let n = number_has kind.Icrp avps 2 14 session.0 Nonzero sound refl session.1 in
    let says : SaysIcrp avps session.0 = record { session = n.0; session_not_zero = λ zero. n.1.1.1 (n.1.3 ∙ zero) } in
    subst (Says 11 avps) (ok_same session.2) (refl, says)

pub says_icrp : (avps : List Avp) (id : ℕ) → SaysIcrp avps id → icrp_at avps ≡ Ok (Icrp id)
unfolding icrp_at u16_at
says_icrp avps id h = rw (has_number avps 2 14 id h.session) refl

pub icrp_good : (avps : List Avp) (id : ℕ) → SaysIcrp avps id → AllByRecursion (IsGood avps) (uses_of kind.Icrp)
icrp_good avps id h = (value_good avps 14 h.session.value Nonzero h.session.has (h.session.wide, λ zero. h.session_not_zero (sym h.session.number ∙ zero)), tt)

pub icrp_made : (avps : List Avp) → IsSound kind.Icrp avps → Made kind.Icrp avps (icrp_at avps)
unfolding icrp_at u16_at
icrp_made avps sound =
    elim (number_or_missing kind.Icrp avps 2 14 Nonzero sound refl (λ v s. s.0)) [
      | inr no14 ↦ inr (14, rw no14.0 refl, least_of kind.Icrp avps 14 [] [] refl tt tt no14.1)
      | inl session ↦ inl (Icrp session.0, rw session.1 refl, (session.2, tt))
    ]

-- ---- Incoming-Call-Connected

sequenced_is : (avps : List Avp) (o : Option Avp) → first 39 avps ≡ o → IsGood avps (39, Text) → SaysSequenced avps (is_some o)
sequenced_is avps None e g = first_absent 39 avps e
sequenced_is avps (Some a) e g = let f = stands_first 39 a avps e in (a.value, record { pair = a; first = f; plain = (g a f).0; same = refl })

is_sequenced : (avps : List Avp) (b : Bool) → SaysSequenced avps b → is_some (first 39 avps) ≡ b
is_sequenced avps false h = rw (absent_first 39 avps h) refl
is_sequenced avps true h = rw (first_stands 39 h.1.pair avps h.1.first) refl

sequenced_good : (avps : List Avp) (b : Bool) → SaysSequenced avps b → IsGood avps (39, Text)
sequenced_good avps false h = absent_good avps 39 Text h
sequenced_good avps true h = value_good avps 39 h.0 Text h.1 tt

pub iccn_says : (avps : List Avp) (m : Message) → IsSound kind.Iccn avps → iccn_at avps ≡ Ok m → Says 12 avps m
unfolding iccn_at u32_at
iccn_says avps m sound h =
    let framing = bind_ok _ _ m h in
    let speed = bind_ok _ _ m framing.2 in
    let says : SaysIccn avps speed.0 framing.0 (is_some (first 39 avps)) =
    record {
      speed = (number_has kind.Iccn avps 4 24 speed.0 Long sound refl speed.1).0;
      framing = (number_has kind.Iccn avps 4 19 framing.0 Long sound refl framing.1).0;
      sequenced = sequenced_is avps (first 39 avps) refl (good kind.Iccn avps 39 Text sound refl);
    } in
    subst (Says 12 avps) (ok_same speed.2) (refl, says)

pub says_iccn : (avps : List Avp) (bits bearer : ℕ) (asked : Bool) → SaysIccn avps bits bearer asked → iccn_at avps ≡ Ok (Iccn bits bearer asked)
unfolding iccn_at u32_at
says_iccn avps bits bearer asked h = rw (has_number avps 4 19 bearer h.framing, has_number avps 4 24 bits h.speed, is_sequenced avps asked h.sequenced) refl

pub iccn_good : (avps : List Avp) (bits bearer : ℕ) (asked : Bool) → SaysIccn avps bits bearer asked → AllByRecursion (IsGood avps) (uses_of kind.Iccn)
iccn_good avps bits bearer asked h = (
  value_good avps 19 h.framing.value Long h.framing.has h.framing.wide,
  (
    value_good avps 24 h.speed.value Long h.speed.has h.speed.wide,
    (sequenced_good avps asked h.sequenced, tt),
  ),
)

pub iccn_made : (avps : List Avp) → IsSound kind.Iccn avps → Made kind.Iccn avps (iccn_at avps)
unfolding iccn_at u32_at
iccn_made avps sound =
    elim (number_or_missing kind.Iccn avps 4 19 Long sound refl (λ v s. s)) [
      | inr no19 ↦ inr (19, rw no19.0 refl, least_of kind.Iccn avps 19 [] (24 ∷ []) refl tt (omega arith, tt) no19.1)
      | inl framing ↦ elim (number_or_missing kind.Iccn avps 4 24 Long sound refl (λ v s. s)) [
        | inr no24 ↦ inr (24, rw (framing.1, no24.0) refl, least_of kind.Iccn avps 24 (19 ∷ []) [] refl (framing.2, tt) tt no24.1)
        | inl speed ↦ inl (Iccn speed.0 framing.0 (is_some (first 39 avps)), rw (framing.1, speed.1) refl, (framing.2, (speed.2, tt)))
      ]
    ]

-- ---- Call-Disconnect-Notify

pub cdn_says : (avps : List Avp) (m : Message) → IsSound kind.Cdn avps → cdn_at avps ≡ Ok m → Says 14 avps m
unfolding cdn_at result_code_at u16_at
cdn_says avps m sound h =
    let code = bind_ok _ _ m h in
    let session = bind_ok _ _ m code.2 in
    let says : SaysCdn avps session.0 code.0.0 code.0.1 =
    record {
      result = result_code_has kind.Cdn avps code.0 sound refl code.1;
      session = (number_has kind.Cdn avps 2 14 session.0 Short sound refl session.1).0;
    } in
    subst (Says 14 avps) (ok_same session.2) (refl, says)

pub says_cdn : (avps : List Avp) (id code : ℕ) (error : Option ℕ) → SaysCdn avps id code error → cdn_at avps ≡ Ok (Cdn id code error)
unfolding cdn_at result_code_at u16_at
says_cdn avps id code error h = rw (has_result_code avps code error h.result, has_number avps 2 14 id h.session) refl

pub cdn_good : (avps : List Avp) (id code : ℕ) (error : Option ℕ) → SaysCdn avps id code error → AllByRecursion (IsGood avps) (uses_of kind.Cdn)
cdn_good avps id code error h = (
  value_good avps 1 h.result.value ResultCode h.result.has (result_code_shape h.result.value error h.result.error_code),
  (value_good avps 14 h.session.value Short h.session.has h.session.wide, tt),
)

pub cdn_made : (avps : List Avp) → IsSound kind.Cdn avps → Made kind.Cdn avps (cdn_at avps)
unfolding cdn_at result_code_at u16_at
cdn_made avps sound =
    elim (value_or_missing avps 1) [
      | inr no1 ↦ inr (1, rw no1.0 refl, least_of kind.Cdn avps 1 [] (14 ∷ []) refl tt (omega arith, tt) no1.1)
      | inl value ↦
          let c = some_result_code value.0 (value_has kind.Cdn avps 1 ResultCode value.0 sound refl value.1).1 in
          elim (number_or_missing kind.Cdn avps 2 14 Short sound refl (λ v s. s)) [
            | inr no14 ↦ inr (14, rw (value.1, c.1, no14.0) refl, least_of kind.Cdn avps 14 (1 ∷ []) [] refl (value.2, tt) tt no14.1)
            | inl session ↦ inl (Cdn session.0 c.0.0 c.0.1, rw (value.1, c.1, session.1) refl, (value.2, (session.2, tt)))
          ]
    ]
