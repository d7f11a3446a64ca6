-- Suggested Control Sequence, as the relation has it and as the reading finds it.
use Rattle.std.proofs.Common.{◌≡◌, ℕ, List, length, drop, Option, Some, None, Ok, refl, ap, subst}
use Rattle.std.proofs.lemmas.Bool.{eq-eqb}
use Rattle.byteorder.specs.Endian.{big_number}
use Rattle.avp_codec.specs.declared.avp.Avp.{Avp}
use Rattle.control_message.specs.declared.kind.Kind.{Kind}
use Rattle.control_message.specs.declared.kind.Shape.TheVariants.{ShortShortShort}
use Rattle.control_message.specs.declared.message.Suggested.{Suggested}
use Rattle.control_message.specs.Table.{shape_of}
use Rattle.control_message.specs.Reading.{first, suggested_value, suggested_in, suggested_at}
use Rattle.control_message.specs.Grammar.{SaysSuggested}
use Rattle.control_message.specs.Faults.{IsSound}
use Rattle.control_message.proofs.Firsts.{absent_first, first_absent, first_stands, stands_first}
use Rattle.control_message.proofs.Values.{IsGood, good, value_good, absent_good}

abbrev suggested_of : List ℕ → Suggested
suggested_of v = record { ns = big_number 2 (drop 2 v); nr = big_number 2 (drop 4 v) }

six : (v : List ℕ) → length v ≡ 6 → suggested_value v ≡ Some (suggested_of v)
six v e = rw (eq-eqb (length v) 6 e) refl

suggested_is : (avps : List Avp) (s : Option Suggested) (o : Option Avp) → first 78 avps ≡ o → IsGood avps (78, ShortShortShort)
    → suggested_in o ≡ Ok s → SaysSuggested avps s
suggested_is avps s None e g h = let none : None ≡ s = let h' : Ok None ≡ Ok s = h in cc in subst (SaysSuggested avps) none (first_absent 78 avps e)
suggested_is avps s (Some a) e g h =
    let first = stands_first 78 a avps e in
    let p = g a first in
    let some : Some (suggested_of a.value) ≡ s = let h' : Ok (Some (suggested_of a.value)) ≡ Ok s = rw (six a.value p.1) at h in cc in
    let has : SaysSuggested avps (Some (suggested_of a.value)) =
    record {
      value = a.value;
      has = record { pair = a; first = first; plain = p.0; same = refl };
      wide = p.1;
      ns = refl;
      nr = refl;
    } in
    subst (SaysSuggested avps) some has

pub suggested_says : (k : Kind) (avps : List Avp) (s : Option Suggested) → IsSound k avps → shape_of k 78 ≡ Some ShortShortShort
    → suggested_at avps ≡ Ok s → SaysSuggested avps s
unfolding suggested_at
suggested_says k avps s sound shape h = suggested_is avps s (first 78 avps) refl (good k avps 78 ShortShortShort sound shape) h

pub says_suggested : (avps : List Avp) (s : Option Suggested) → SaysSuggested avps s → suggested_at avps ≡ Ok s
unfolding suggested_at
says_suggested avps None h = rw (absent_first 78 avps h) refl
says_suggested avps (Some s) h =
    let same : suggested_of h.value ≡ s = rw (h.ns, h.nr) refl in
    rw (first_stands 78 h.has.pair avps h.has.first, h.has.same, six h.value h.wide) (ap (λ (x : Suggested). Ok (Some x)) same)

pub suggested_good : (avps : List Avp) (s : Option Suggested) → SaysSuggested avps s → IsGood avps (78, ShortShortShort)
suggested_good avps None h = absent_good avps 78 ShortShortShort h
suggested_good avps (Some s) h = value_good avps 78 h.value ShortShortShort h.has h.wide

suggested_some : (avps : List Avp) (o : Option Avp) → first 78 avps ≡ o → IsGood avps (78, ShortShortShort)
    → (s : Option Suggested) × (suggested_in o ≡ Ok s)
suggested_some avps None e g = (None, refl)
suggested_some avps (Some a) e g = let p = g a (stands_first 78 a avps e) in (Some (suggested_of a.value), rw (six a.value p.1) refl)

-- it is optional, so that it is read of any sound list
pub some_suggested : (k : Kind) (avps : List Avp) → IsSound k avps → shape_of k 78 ≡ Some ShortShortShort
    → (s : Option Suggested) × (suggested_at avps ≡ Ok s)
unfolding suggested_at
some_suggested k avps sound shape = suggested_some avps (first 78 avps) refl (good k avps 78 ShortShortShort sound shape)
