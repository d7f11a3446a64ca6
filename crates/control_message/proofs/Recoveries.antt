-- Tunnel Recovery, as the relation has it and as the reading finds it.
use Rattle.std.proofs.Common.{◌≡◌, ℕ, List, length, drop, Option, Some, None, Ok, refl, ap, subst}
use Rattle.std.proofs.lemmas.Bool.{eq-eqb}
use Rattle.byteorder.specs.Endian.{big_number}
use Rattle.avp_codec.specs.declared.avp.Avp.{Avp}
use Rattle.control_message.specs.declared.kind.Kind.{Kind}
use Rattle.control_message.specs.declared.kind.Shape.TheVariants.{ShortLongLong}
use Rattle.control_message.specs.declared.message.Recovery.{Recovery}
use Rattle.control_message.specs.Table.{shape_of}
use Rattle.control_message.specs.Reading.{first, recovery_value, recovery_in, recovery_at}
use Rattle.control_message.specs.Grammar.{SaysRecovery}
use Rattle.control_message.specs.Faults.{IsSound}
use Rattle.control_message.proofs.Firsts.{absent_first, first_absent, first_stands, stands_first}
use Rattle.control_message.proofs.Values.{IsGood, good, value_good, absent_good}

abbrev recovery_of : List ℕ → Recovery
recovery_of v = record { sender = big_number 4 (drop 2 v); receiver = big_number 4 (drop 6 v) }

ten : (v : List ℕ) → length v ≡ 10 → recovery_value v ≡ Some (recovery_of v)
ten v e = rw (eq-eqb (length v) 10 e) refl

recovery_is : (avps : List Avp) (r : Option Recovery) (o : Option Avp) → first 77 avps ≡ o → IsGood avps (77, ShortLongLong)
    → recovery_in o ≡ Ok r → SaysRecovery avps r
recovery_is avps r None e g h = let none : None ≡ r = let h' : Ok None ≡ Ok r = h in cc in subst (SaysRecovery avps) none (first_absent 77 avps e)
recovery_is avps r (Some a) e g h =
    let first = stands_first 77 a avps e in
    let p = g a first in
    let some : Some (recovery_of a.value) ≡ r = let h' : Ok (Some (recovery_of a.value)) ≡ Ok r = rw (ten a.value p.1) at h in cc in
    let has : SaysRecovery avps (Some (recovery_of a.value)) =
    record {
      value = a.value;
      has = record { pair = a; first = first; plain = p.0; same = refl };
      wide = p.1;
      sender = refl;
      receiver = refl;
    } in
    subst (SaysRecovery avps) some has

pub recovery_says : (k : Kind) (avps : List Avp) (r : Option Recovery) → IsSound k avps → shape_of k 77 ≡ Some ShortLongLong
    → recovery_at avps ≡ Ok r → SaysRecovery avps r
unfolding recovery_at
recovery_says k avps r sound shape h = recovery_is avps r (first 77 avps) refl (good k avps 77 ShortLongLong sound shape) h

pub says_recovery : (avps : List Avp) (r : Option Recovery) → SaysRecovery avps r → recovery_at avps ≡ Ok r
unfolding recovery_at
says_recovery avps None h = rw (absent_first 77 avps h) refl
says_recovery avps (Some r) h =
    let same : recovery_of h.value ≡ r = rw (h.sender, h.receiver) refl in
    rw (first_stands 77 h.has.pair avps h.has.first, h.has.same, ten h.value h.wide) (ap (λ (x : Recovery). Ok (Some x)) same)

pub recovery_good : (avps : List Avp) (r : Option Recovery) → SaysRecovery avps r → IsGood avps (77, ShortLongLong)
recovery_good avps None h = absent_good avps 77 ShortLongLong h
recovery_good avps (Some r) h = value_good avps 77 h.value ShortLongLong h.has h.wide

recovery_some : (avps : List Avp) (o : Option Avp) → first 77 avps ≡ o → IsGood avps (77, ShortLongLong)
    → (r : Option Recovery) × (recovery_in o ≡ Ok r)
recovery_some avps None e g = (None, refl)
recovery_some avps (Some a) e g = let p = g a (stands_first 77 a avps e) in (Some (recovery_of a.value), rw (ten a.value p.1) refl)

-- it is optional, so that it is read of any sound list
pub some_recovery : (k : Kind) (avps : List Avp) → IsSound k avps → shape_of k 77 ≡ Some ShortLongLong
    → (r : Option Recovery) × (recovery_at avps ≡ Ok r)
unfolding recovery_at
some_recovery k avps sound shape = recovery_some avps (first 77 avps) refl (good k avps 77 ShortLongLong sound shape)
