-- Result Code, as the relation has it and as the reading finds it.
use Rattle.std.proofs.Common.{◌≡◌, ℕ, List, length, drop, Option, Some, None, Ok, Err, refl, subst, inl, inr, arith}
use Rattle.std.specs.Prelude.{◌==◌, nat_le}
use Rattle.std.proofs.lemmas.Bool.{cases_Bool, eq-eqb, ne_eqb, eqb-true, leb-true, le-leb}
use Rattle.byteorder.specs.Endian.{big_number}
use Rattle.wire_base.specs.Answers.{◌>>=◌}
use Rattle.avp_codec.specs.declared.avp.Avp.{Avp}
use Rattle.control_message.specs.declared.kind.Kind.{Kind}
use Rattle.control_message.specs.declared.kind.Shape.TheVariants.{ResultCode}
use Rattle.control_message.specs.declared.message.MessageError.TheVariants.{BadValue}
use Rattle.control_message.specs.Table.{shape_of}
use Rattle.control_message.specs.Reading.{value_at, result_code_in}
use Rattle.control_message.specs.Grammar.{HasErrorCode, HasResultCode}
use Rattle.control_message.specs.Faults.{HasShape, IsSound}
use Rattle.control_message.proofs.Values.{bind_ok, ok_same, value_has, has_value}

result_code_is : (v : List ℕ) (c : ℕ × Option ℕ) → result_code_in v ≡ Ok c → (big_number 2 v ≡ c.0) × HasErrorCode v c.1
result_code_is v c h =
    elim (cases_Bool (length v == 2)) [
      | inl two ↦
          let same : (big_number 2 v, None) ≡ c = let h' : Ok (big_number 2 v, None) ≡ Ok c = rw two at h in ok_same h' in
          subst (λ (x : ℕ × Option ℕ). (big_number 2 v ≡ x.0) × HasErrorCode v x.1) same (refl, eqb-true (length v) 2 two)
      | inr other ↦ elim (cases_Bool (nat_le 4 (length v))) [
        | inl four ↦
            let same : (big_number 2 v, Some (big_number 2 (drop 2 v))) ≡ c = let h' : Ok (big_number 2 v, Some (big_number 2 (drop 2 v))) ≡ Ok c = rw (other, four) at h in ok_same h' in
            subst (λ (x : ℕ × Option ℕ). (big_number 2 v ≡ x.0) × HasErrorCode v x.1) same (refl, (leb-true 4 (length v) four, refl))
        | inr less ↦ absurd (let h' : Err (BadValue 1) ≡ Ok c = rw (other, less) at h in cc)
      ]
    ]

is_result_code : (v : List ℕ) (code : ℕ) (error : Option ℕ) → big_number 2 v ≡ code → HasErrorCode v error → result_code_in v ≡ Ok (code, error)
is_result_code v code None number h = rw (eq-eqb (length v) 2 h, number) refl
is_result_code v code (Some x) number h = rw (ne_eqb (length v) 2 (λ e. let four = h.0 in omega arith), le-leb 4 (length v) h.0, number, h.1) refl

pub result_code_shape : (v : List ℕ) (error : Option ℕ) → HasErrorCode v error → HasShape ResultCode v
result_code_shape v None h = inl h
result_code_shape v (Some x) h = inr h.0

pub some_result_code : (v : List ℕ) → HasShape ResultCode v → (c : ℕ × Option ℕ) × (result_code_in v ≡ Ok c)
some_result_code v (inl two) = ((big_number 2 v, None), is_result_code v (big_number 2 v) None refl two)
some_result_code v (inr four) = ((big_number 2 v, Some (big_number 2 (drop 2 v))), is_result_code v (big_number 2 v) (Some (big_number 2 (drop 2 v))) refl (four, refl))

pub result_code_has : (k : Kind) (avps : List Avp) (c : ℕ × Option ℕ) → IsSound k avps → shape_of k 1 ≡ Some ResultCode
    → (value_at 1 avps >>= λ v. result_code_in v) ≡ Ok c → HasResultCode c.0 c.1 avps
result_code_has k avps c sound shape h =
    let b = bind_ok (value_at 1 avps) (λ (v : List ℕ). result_code_in v) c h in
    let v = value_has k avps 1 ResultCode b.0 sound shape b.1 in
    let says = result_code_is b.0 c b.2 in
    record { value = b.0; has = v.0; result = says.0; error_code = says.1 }

pub has_result_code : (avps : List Avp) (code : ℕ) (error : Option ℕ) → HasResultCode code error avps
    → (value_at 1 avps >>= λ v. result_code_in v) ≡ Ok (code, error)
has_result_code avps code error h = rw (has_value avps 1 h.value h.has) (is_result_code h.value code error h.result h.error_code)
