-- Stop-Control-Connection-Notification, as the relation has it and as the reading finds it.
use Rattle.std.proofs.Common.{◌≡◌, ℕ, List, [], ◌∷◌, Option, Ok, refl, subst, inl, inr, arith}
use Rattle.std.specs.List.{AllByRecursion}
use Rattle.avp_codec.specs.declared.avp.Avp.{Avp}
use Rattle.control_message.specs.declared.kind.Kind.TheVariants as kind
use Rattle.control_message.specs.declared.kind.Shape.TheVariants.{Short, ResultCode}
use Rattle.control_message.specs.declared.message.Message.{Message}
use Rattle.control_message.specs.declared.message.Message.TheVariants.{StopCcn}
use Rattle.control_message.specs.Table.{uses_of}
use Rattle.control_message.specs.Reading.{u16_at, result_code_at, stop_ccn_at}
use Rattle.control_message.specs.Grammar.{SaysStopCcn, SaysMessage, number_of}
use Rattle.control_message.specs.Faults.{IsSound}
use Rattle.control_message.proofs.Values.{bind_ok, ok_same, IsGood, value_has, value_good, number_has, has_number, value_or_missing, number_or_missing}
use Rattle.control_message.proofs.Needs.{Made, least_of}
use Rattle.control_message.proofs.ResultCodes.{result_code_shape, some_result_code, result_code_has, has_result_code}

pub stop_ccn_says : (avps : List Avp) (m : Message) → IsSound kind.StopCcn avps → stop_ccn_at avps ≡ Ok m → (number_of m ≡ 4) × SaysMessage avps m
unfolding stop_ccn_at result_code_at u16_at
stop_ccn_says avps m sound h =
    let code = bind_ok _ _ m h in
    let tunnel = bind_ok _ _ m code.2 in
    let says : SaysStopCcn avps tunnel.0 code.0.0 code.0.1 =
    record {
      result = result_code_has kind.StopCcn avps code.0 sound refl code.1;
      tunnel = (number_has kind.StopCcn avps 2 9 tunnel.0 Short sound refl tunnel.1).0;
    } in
    subst (λ (x : Message). (number_of x ≡ 4) × SaysMessage avps x) (ok_same tunnel.2) (refl, says)

pub says_stop_ccn : (avps : List Avp) (id code : ℕ) (error : Option ℕ) → SaysStopCcn avps id code error → stop_ccn_at avps ≡ Ok (StopCcn id code error)
unfolding stop_ccn_at result_code_at u16_at
says_stop_ccn avps id code error h = rw (has_result_code avps code error h.result, has_number avps 2 9 id h.tunnel) refl

pub stop_ccn_good : (avps : List Avp) (id code : ℕ) (error : Option ℕ) → SaysStopCcn avps id code error
    → AllByRecursion (IsGood avps) (uses_of kind.StopCcn)
stop_ccn_good avps id code error h = (
  value_good avps 1 h.result.value ResultCode h.result.has (result_code_shape h.result.value error h.result.error_code),
  (value_good avps 9 h.tunnel.value Short h.tunnel.has h.tunnel.wide, tt),
)

pub stop_ccn_made : (avps : List Avp) → IsSound kind.StopCcn avps → Made kind.StopCcn avps (stop_ccn_at avps)
unfolding stop_ccn_at result_code_at u16_at
stop_ccn_made avps sound =
    elim (value_or_missing avps 1) [
      | inr no1 ↦ inr (1, rw no1.0 refl, least_of kind.StopCcn avps 1 [] (9 ∷ []) refl tt (omega arith, tt) no1.1)
      | inl value ↦
          let c = some_result_code value.0 (value_has kind.StopCcn avps 1 ResultCode value.0 sound refl value.1).1 in
          elim (number_or_missing kind.StopCcn avps 2 9 Short sound refl (λ v s. s)) [
            | inr no9 ↦ inr (9, rw (value.1, c.1, no9.0) refl, least_of kind.StopCcn avps 9 (1 ∷ []) [] refl (value.2, tt) tt no9.1)
            | inl tunnel ↦ inl (StopCcn tunnel.0 c.0.0 c.0.1, rw (value.1, c.1, tunnel.1) refl, (value.2, (tunnel.2, tt)))
          ]
    ]
