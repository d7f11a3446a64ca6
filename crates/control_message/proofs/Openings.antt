-- What the two ends tell each other as a tunnel is opened, as the relation has it and as the reading finds it.
use Rattle.std.proofs.Common.{◌≡◌, ℕ, List, [], ◌∷◌, ◌++◌, length, drop, Option, Some, None, Ok, refl, sym, ap, subst, ◌∙◌, inl, inr, arith}
use Rattle.std.specs.List.{AllByRecursion}
use Rattle.std.proofs.lemmas.Bool.{eq-eqb}
use Rattle.byteorder.specs.Endian.{big_number}
use Rattle.avp_codec.specs.declared.avp.Avp.{Avp}
use Rattle.control_message.specs.declared.kind.Kind.{Kind}
use Rattle.control_message.specs.declared.kind.Shape.{Shape}
use Rattle.control_message.specs.declared.kind.Shape.TheVariants.{Text, Short, Nonzero, Long, ShortLong}
use Rattle.control_message.specs.declared.message.Opening.{Opening}
use Rattle.control_message.specs.declared.message.Failover.{Failover}
use Rattle.control_message.specs.declared.message.Recovery.{Recovery}
use Rattle.control_message.specs.declared.message.Suggested.{Suggested}
use Rattle.control_message.specs.Table.{shape_of, needs_of, opening_uses}
use Rattle.control_message.specs.Reading.{first, text_at, u16_at, u32_at, window_in, window_at, failover_value, failover_in, failover_at, opening_at}
use Rattle.control_message.specs.Grammar.{IsAbsent, SaysWindow, SaysFailover, SaysOpening}
use Rattle.control_message.specs.Faults.{IsSound}
use Rattle.control_message.proofs.Firsts.{absent_first, first_absent, first_stands, stands_first}
use Rattle.control_message.proofs.Needs.{Made, least_of}
use Rattle.control_message.proofs.Values.{bind_ok, ok_same, IsGood, good, value_has, has_value, value_good, absent_good, number_has, has_number, number_is, is_number, value_or_missing, number_or_missing}
use Rattle.control_message.proofs.Texts.{text_says, says_text, text_good}

-- ---- Receive Window Size

window_is : (avps : List Avp) (w : ℕ) (o : Option Avp) → first 10 avps ≡ o → IsGood avps (10, Nonzero) → window_in o ≡ Ok w → SaysWindow avps w
window_is avps w None e g h = inr (first_absent 10 avps e, let h' : Ok 4 ≡ Ok w = h in cc)
window_is avps w (Some a) e g h =
    let f = stands_first 10 a avps e in
    let n = number_is 2 10 w a.value h in
    let p = g a f in
    inl (record { value = a.value; has = record { pair = a; first = f; plain = p.0; same = refl }; wide = n.0; number = n.1 }, λ zero. p.1.1 (n.1 ∙ zero))

is_window : (avps : List Avp) (w : ℕ) → SaysWindow avps w → window_at avps ≡ Ok w
unfolding window_at
is_window avps w (inl h) = rw (first_stands 10 h.0.has.pair avps h.0.has.first) (is_number 2 10 w h.0.has.pair.value (ap length h.0.has.same ∙ h.0.wide) (ap (big_number 2) h.0.has.same ∙ h.0.number))
is_window avps w (inr h) = rw (absent_first 10 avps h.0) (ap (λ (x : ℕ). Ok x) (sym h.1))

window_good : (avps : List Avp) (w : ℕ) → SaysWindow avps w → IsGood avps (10, Nonzero)
window_good avps w (inl h) = value_good avps 10 h.0.value Nonzero h.0.has (h.0.wide, λ zero. h.1 (sym h.0.number ∙ zero))
window_good avps w (inr h) = absent_good avps 10 Nonzero h.0

some_window : (avps : List Avp) (o : Option Avp) → first 10 avps ≡ o → IsGood avps (10, Nonzero) → (w : ℕ) × (window_in o ≡ Ok w)
some_window avps None e g = (4, refl)
some_window avps (Some a) e g = let p = g a (stands_first 10 a avps e) in (big_number 2 a.value, is_number 2 10 (big_number 2 a.value) a.value p.1.0 refl)

-- ---- Failover Capability

abbrev failover_of : List ℕ → Failover
failover_of v = record { flags = big_number 2 v; time = big_number 4 (drop 2 v) }

six : (v : List ℕ) → length v ≡ 6 → failover_value v ≡ Some (failover_of v)
six v e = rw (eq-eqb (length v) 6 e) refl

failover_is : (avps : List Avp) (f : Option Failover) (o : Option Avp) → first 76 avps ≡ o → IsGood avps (76, ShortLong) → failover_in o ≡ Ok f → SaysFailover avps f
failover_is avps f None e g h = let none : None ≡ f = let h' : Ok None ≡ Ok f = h in cc in subst (SaysFailover avps) none (first_absent 76 avps e)
failover_is avps f (Some a) e g h =
    let first = stands_first 76 a avps e in
    let p = g a first in
    let some : Some (failover_of a.value) ≡ f = let h' : Ok (Some (failover_of a.value)) ≡ Ok f = rw (six a.value p.1) at h in cc in
    subst (SaysFailover avps) some (record { value = a.value; has = record { pair = a; first = first; plain = p.0; same = refl }; wide = p.1; flags = refl; time = refl })

is_failover : (avps : List Avp) (f : Option Failover) → SaysFailover avps f → failover_at avps ≡ Ok f
unfolding failover_at
is_failover avps None h = rw (absent_first 76 avps h) refl
is_failover avps (Some f) h =
    let same : failover_of h.value ≡ f = rw (h.flags, h.time) refl in
    rw (first_stands 76 h.has.pair avps h.has.first, h.has.same, six h.value h.wide) (ap (λ (x : Failover). Ok (Some x)) same)

failover_good : (avps : List Avp) (f : Option Failover) → SaysFailover avps f → IsGood avps (76, ShortLong)
failover_good avps None h = absent_good avps 76 ShortLong h
failover_good avps (Some f) h = value_good avps 76 h.value ShortLong h.has h.wide

some_failover : (avps : List Avp) (o : Option Avp) → first 76 avps ≡ o → IsGood avps (76, ShortLong) → (f : Option Failover) × (failover_in o ≡ Ok f)
some_failover avps None e g = (None, refl)
some_failover avps (Some a) e g = let p = g a (stands_first 76 a avps e) in (Some (failover_of a.value), rw (six a.value p.1) refl)

-- ---- an opening

-- a kind whose messages are openings
pub record IsOpening (k : Kind) : Type 0 where
  pub version : shape_of k 2 ≡ Some Short
  pub framing : shape_of k 3 ≡ Some Long
  pub name : shape_of k 7 ≡ Some Text
  pub tunnel : shape_of k 9 ≡ Some Nonzero
  pub window : shape_of k 10 ≡ Some Nonzero
  pub challenge : shape_of k 11 ≡ Some Text
  pub failover : shape_of k 76 ≡ Some ShortLong
  pub needs : needs_of k ≡ 2 ∷ 3 ∷ 7 ∷ 9 ∷ []

-- what an opening says, with what only a request or only a reply tells
pub record SaysWith (avps : List Avp) (told_response : Option (List ℕ)) (told_recovery : Option Recovery) (told_suggested : Option Suggested) (told_attempt : Option ℕ) (o : Opening) : Type 0 where
  pub says : SaysOpening avps o
  pub response : o.response ≡ told_response
  pub recovery : o.recovery ≡ told_recovery
  pub suggested : o.suggested ≡ told_suggested
  pub attempt : o.attempt ≡ told_attempt

pub opening_says : (k : Kind) (avps : List Avp) (response : Option (List ℕ)) (recovery : Option Recovery) (suggested : Option Suggested) (attempt : Option ℕ) (o : Opening)
    → IsOpening k → IsSound k avps → opening_at avps response recovery suggested attempt ≡ Ok o → SaysWith avps response recovery suggested attempt o
unfolding opening_at u16_at u32_at window_at failover_at
opening_says k avps response recovery suggested attempt o is sound h =
    let version = bind_ok _ _ o h in
    let framing = bind_ok _ _ o version.2 in
    let name = bind_ok _ _ o framing.2 in
    let tunnel = bind_ok _ _ o name.2 in
    let window = bind_ok _ _ o tunnel.2 in
    let failover = bind_ok _ _ o window.2 in
    let t = number_has k avps 2 9 tunnel.0 Nonzero sound is.tunnel tunnel.1 in
    let opening : Opening =
    record {
      version = version.0;
      framing = framing.0;
      name = name.0;
      tunnel = tunnel.0;
      window = window.0;
      failover = failover.0;
      challenge = text_at 11 avps;
      response = response;
      recovery = recovery;
      suggested = suggested;
      attempt = attempt;
    } in
    let says : SaysOpening avps opening =
    record {
      version = (number_has k avps 2 2 version.0 Short sound is.version version.1).0;
      framing = (number_has k avps 4 3 framing.0 Long sound is.framing framing.1).0;
      name = (value_has k avps 7 Text name.0 sound is.name name.1).0;
      tunnel = t.0;
      tunnel_not_zero = λ zero. t.1.1.1 (t.1.3 ∙ zero);
      window = window_is avps window.0 (first 10 avps) refl (good k avps 10 Nonzero sound is.window) window.1;
      failover = failover_is avps failover.0 (first 76 avps) refl (good k avps 76 ShortLong sound is.failover) failover.1;
      challenge = text_says k avps 11 sound is.challenge;
    } in
    let whole : SaysWith avps response recovery suggested attempt opening = record { says = says; response = refl; recovery = refl; suggested = refl; attempt = refl } in
    subst (SaysWith avps response recovery suggested attempt) (ok_same failover.2) whole

pub says_opening : (avps : List Avp) (o : Opening) → SaysOpening avps o → opening_at avps o.response o.recovery o.suggested o.attempt ≡ Ok o
unfolding opening_at u16_at u32_at
says_opening avps o h =
    rw (
      has_number avps 2 2 o.version h.version,
      has_number avps 4 3 o.framing h.framing,
      has_value avps 7 o.name h.name,
      has_number avps 2 9 o.tunnel h.tunnel,
      is_window avps o.window h.window,
      is_failover avps o.failover h.failover,
      says_text avps 11 o.challenge h.challenge,
    ) refl

-- what an opening uses, before what its kind uses beside it
pub opening_good : (avps : List Avp) (o : Opening) (more : List (ℕ × Shape)) → SaysOpening avps o → AllByRecursion (IsGood avps) more
    → AllByRecursion (IsGood avps) (opening_uses ++ more)
opening_good avps o more h others = (
  value_good avps 2 h.version.value Short h.version.has h.version.wide,
  (
    value_good avps 3 h.framing.value Long h.framing.has h.framing.wide,
    (
      value_good avps 7 o.name Text h.name tt,
      (
        value_good avps 9 h.tunnel.value Nonzero h.tunnel.has (h.tunnel.wide, λ zero. h.tunnel_not_zero (sym h.tunnel.number ∙ zero)),
        (
          window_good avps o.window h.window,
          (text_good avps 11 o.challenge h.challenge, (failover_good avps o.failover h.failover, others)),
        ),
      ),
    ),
  ),
)

-- ---- what is missing

pub opening_made : (k : Kind) (avps : List Avp) (response : Option (List ℕ)) (recovery : Option Recovery) (suggested : Option Suggested) (attempt : Option ℕ)
    → IsOpening k → IsSound k avps → Made k avps (opening_at avps response recovery suggested attempt)
unfolding opening_at u16_at u32_at window_at failover_at
opening_made k avps response recovery suggested attempt is sound =
    let window = some_window avps (first 10 avps) refl (good k avps 10 Nonzero sound is.window) in
    let failover = some_failover avps (first 76 avps) refl (good k avps 76 ShortLong sound is.failover) in
    elim (number_or_missing k avps 2 2 Short sound is.version (λ v s. s)) [
      | inr no2 ↦ inr (2, rw no2.0 refl, least_of k avps 2 [] (3 ∷ 7 ∷ 9 ∷ []) is.needs tt (omega arith, (omega arith, (omega arith, tt))) no2.1)
      | inl version ↦ elim (number_or_missing k avps 4 3 Long sound is.framing (λ v s. s)) [
        | inr no3 ↦ inr (3, rw (version.1, no3.0) refl, least_of k avps 3 (2 ∷ []) (7 ∷ 9 ∷ []) is.needs (version.2, tt) (omega arith, (omega arith, tt)) no3.1)
        | inl framing ↦ elim (value_or_missing avps 7) [
          | inr no7 ↦ inr (7, rw (version.1, framing.1, no7.0) refl, least_of k avps 7 (2 ∷ 3 ∷ []) (9 ∷ []) is.needs (version.2, (framing.2, tt)) (omega arith, tt) no7.1)
          | inl name ↦ elim (number_or_missing k avps 2 9 Nonzero sound is.tunnel (λ v s. s.0)) [
            | inr no9 ↦ inr (9, rw (version.1, framing.1, name.1, no9.0) refl, least_of k avps 9 (2 ∷ 3 ∷ 7 ∷ []) [] is.needs (version.2, (framing.2, (name.2, tt))) tt no9.1)
            | inl tunnel ↦
                let opening : Opening =
                record {
                  version = version.0;
                  framing = framing.0;
                  name = name.0;
                  tunnel = tunnel.0;
                  window = window.0;
                  failover = failover.0;
                  challenge = text_at 11 avps;
                  response = response;
                  recovery = recovery;
                  suggested = suggested;
                  attempt = attempt;
                } in
                inl (
                  opening,
                  rw (version.1, framing.1, name.1, tunnel.1, window.1, failover.1) refl,
                  subst (AllByRecursion (λ n. ¬ IsAbsent n avps)) (sym is.needs) (version.2, (framing.2, (name.2, (tunnel.2, tt)))),
                )
          ]
        ]
      ]
    ]
