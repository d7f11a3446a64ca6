-- Challenge Response, as the relation has it and as the reading finds it.
use Rattle.std.proofs.Common.{◌≡◌, ℕ, List, length, Option, Some, None, Ok, refl, ap, subst, ◌∙◌}
use Rattle.std.proofs.lemmas.Bool.{eq-eqb}
use Rattle.avp_codec.specs.declared.avp.Avp.{Avp}
use Rattle.control_message.specs.declared.kind.Kind.{Kind}
use Rattle.control_message.specs.declared.kind.Shape.TheVariants.{Sixteen}
use Rattle.control_message.specs.Table.{shape_of}
use Rattle.control_message.specs.Reading.{first, response_value, response_in, response_at}
use Rattle.control_message.specs.Grammar.{SaysResponse}
use Rattle.control_message.specs.Faults.{IsSound}
use Rattle.control_message.proofs.Firsts.{absent_first, first_absent, first_stands, stands_first}
use Rattle.control_message.proofs.Values.{IsGood, good, value_good, absent_good}

pub sixteen : (v : List ℕ) → length v ≡ 16 → response_value v ≡ Some v
sixteen v e = rw (eq-eqb (length v) 16 e) refl

response_is : (avps : List Avp) (r : Option (List ℕ)) (o : Option Avp) → first 13 avps ≡ o → IsGood avps (13, Sixteen)
    → response_in o ≡ Ok r → SaysResponse avps r
response_is avps r None e g h = let none : None ≡ r = let h' : Ok None ≡ Ok r = h in cc in subst (SaysResponse avps) none (first_absent 13 avps e)
response_is avps r (Some a) e g h =
    let first = stands_first 13 a avps e in
    let p = g a first in
    let some : Some a.value ≡ r = let h' : Ok (Some a.value) ≡ Ok r = rw (sixteen a.value p.1) at h in cc in
    let has : SaysResponse avps (Some a.value) = (record { pair = a; first = first; plain = p.0; same = refl }, p.1) in
    subst (SaysResponse avps) some has

pub response_says : (k : Kind) (avps : List Avp) (r : Option (List ℕ)) → IsSound k avps → shape_of k 13 ≡ Some Sixteen
    → response_at avps ≡ Ok r → SaysResponse avps r
unfolding response_at
response_says k avps r sound shape h = response_is avps r (first 13 avps) refl (good k avps 13 Sixteen sound shape) h

pub says_response : (avps : List Avp) (r : Option (List ℕ)) → SaysResponse avps r → response_at avps ≡ Ok r
unfolding response_at
says_response avps None h = rw (absent_first 13 avps h) refl
says_response avps (Some r) h =
    rw (first_stands 13 h.0.pair avps h.0.first, sixteen h.0.pair.value (ap length h.0.same ∙ h.1)) (ap (λ (x : List ℕ). Ok (Some x)) h.0.same)

pub response_good : (avps : List Avp) (r : Option (List ℕ)) → SaysResponse avps r → IsGood avps (13, Sixteen)
response_good avps None h = absent_good avps 13 Sixteen h
response_good avps (Some r) h = value_good avps 13 r Sixteen h.0 h.1

response_some : (avps : List Avp) (o : Option Avp) → first 13 avps ≡ o → IsGood avps (13, Sixteen)
    → (r : Option (List ℕ)) × (response_in o ≡ Ok r)
response_some avps None e g = (None, refl)
response_some avps (Some a) e g = let p = g a (stands_first 13 a avps e) in (Some a.value, rw (sixteen a.value p.1) refl)

-- it is optional, so that it is read of any sound list
pub some_response : (k : Kind) (avps : List Avp) → IsSound k avps → shape_of k 13 ≡ Some Sixteen
    → (r : Option (List ℕ)) × (response_at avps ≡ Ok r)
unfolding response_at
some_response k avps sound shape = response_some avps (first 13 avps) refl (good k avps 13 Sixteen sound shape)
