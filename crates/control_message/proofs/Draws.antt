-- Draw Number, as the relation has it and as the reading finds it.
use Rattle.std.proofs.Common.{◌≡◌, ℕ, true, false, List, length, Option, Some, None, Ok, refl, sym, ap, subst, ◌∙◌}
use Rattle.std.proofs.lemmas.Bool.{eq-eqb}
use Rattle.byteorder.specs.Endian.{big_number}
use Rattle.avp_codec.specs.declared.avp.Avp.{Avp}
use Rattle.control_message.specs.declared.kind.Kind.{Kind}
use Rattle.control_message.specs.Table.{uses_draw}
use Rattle.control_message.specs.Reading.{first_draw, draw_value, draw_in, draw_at}
use Rattle.control_message.specs.Grammar.{IsFirstWith, IsDraw, SaysDraw}
use Rattle.control_message.specs.Faults.{IsSound}
use Rattle.control_message.proofs.Firsts.{no_draw_first, first_no_draw, draw_first, first_draws}
use Rattle.control_message.proofs.Values.{IsDrawGood, good_draw}

four : (v : List ℕ) → length v ≡ 4 → draw_value v ≡ Some (big_number 4 v)
four v e = rw (eq-eqb (length v) 4 e) refl

draw_is : (avps : List Avp) (d : Option ℕ) (o : Option Avp) → first_draw avps ≡ o → IsDrawGood avps → draw_in o ≡ Ok d → SaysDraw avps d
draw_is avps d None e g h = let none : None ≡ d = let h' : Ok None ≡ Ok d = h in cc in subst (SaysDraw avps) none (first_no_draw avps e)
draw_is avps d (Some a) e g h =
    let first = first_draws a avps e in
    let p = g a first in
    let some : Some (big_number 4 a.value) ≡ d = let h' : Ok (Some (big_number 4 a.value)) ≡ Ok d = rw (four a.value p.1) at h in cc in
    let has : SaysDraw avps (Some (big_number 4 a.value)) = record { pair = a; first = first; plain = p.0; wide = p.1; number = refl } in
    subst (SaysDraw avps) some has

pub draw_says : (k : Kind) (avps : List Avp) (d : Option ℕ) → IsSound k avps → uses_draw k ≡ true → draw_at avps ≡ Ok d → SaysDraw avps d
unfolding draw_at
draw_says k avps d sound used h = draw_is avps d (first_draw avps) refl (good_draw k avps sound used) h

pub says_draw : (avps : List Avp) (d : Option ℕ) → SaysDraw avps d → draw_at avps ≡ Ok d
unfolding draw_at
says_draw avps None h = rw (no_draw_first avps h) refl
says_draw avps (Some x) h = rw (draw_first h.pair avps h.first, four h.pair.value h.wide) (ap (λ (y : ℕ). Ok (Some y)) h.number)

-- the same pair, and so the same value
only_draw : (avps : List Avp) (a b : Avp) → IsFirstWith (λ x. IsDraw x) a avps → IsFirstWith (λ x. IsDraw x) b avps → a ≡ b
only_draw avps a b f g = let p = draw_first a avps f in let q = draw_first b avps g in let e : Some a ≡ Some b = sym p ∙ q in cc

pub draw_good : (avps : List Avp) (d : Option ℕ) → SaysDraw avps d → IsDrawGood avps
draw_good avps None h a f = let p = no_draw_first avps h in let q = draw_first a avps f in absurd cc
draw_good avps (Some x) h a f =
    let same = only_draw avps h.pair a h.first f in
    (subst (λ (y : Avp). y.hidden ≡ false) same h.plain, subst (λ (y : Avp). length y.value ≡ 4) same h.wide)

draw_some : (avps : List Avp) (o : Option Avp) → first_draw avps ≡ o → IsDrawGood avps → (d : Option ℕ) × (draw_in o ≡ Ok d)
draw_some avps None e g = (None, refl)
draw_some avps (Some a) e g = let p = g a (first_draws a avps e) in (Some (big_number 4 a.value), rw (four a.value p.1) refl)

-- it is optional, so that it is read of any sound list
pub some_draw : (k : Kind) (avps : List Avp) → IsSound k avps → uses_draw k ≡ true → (d : Option ℕ) × (draw_at avps ≡ Ok d)
unfolding draw_at
some_draw k avps sound used = draw_some avps (first_draw avps) refl (good_draw k avps sound used)
