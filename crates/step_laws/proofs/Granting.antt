-- What a request for a call that is granted has, and the first cause that stands against one that isn't.
use Rattle.std.proofs.Common.{◌≡◌, ◌<◌, ◌≤◌, ℕ, Bool, true, false, cond, length, refl, sym, subst, Some, None, Result, Ok, Err, arith}
use Rattle.std.proofs.lemmas.Bool.{true≢false}
use Rattle.std.proofs.lemmas.Bool.Decides.{nat_tests}
use Rattle.std.specs.Prelude.{◌==◌, ◌||◌, not, is_some, nat_le}
use Rattle.id_source.specs.Spaces.{takes_id}
use Rattle.id_source.specs.declared.IdError.{IdError}
use Rattle.wire_base.specs.declared.cause.Cause.TheVariants as cause
use Rattle.call_fsm.specs.declared.table.CallEvent.TheVariants as call_event
use Rattle.end_model.specs.declared.event.Event.TheVariants.{Tick}
use Rattle.end_names.specs.declared.role.Role.{Role}
use Rattle.end_names.specs.declared.role.Role.TheVariants.{Lac, Lns}
use Rattle.end_model.specs.Calls.{call_row, row_of_none, is_reply, are_too_many}
use Rattle.end_model.specs.Tunnels.{Tunnel}
use Rattle.end_model.specs.Reasons.{Reason, reason, out_of_state}
use Rattle.end_model.specs.Asking.{call_of, left_of, granted}
use Rattle.end_model.specs.End.{End}
use Rattle.step_laws.specs.Moves.{IsIdInUse, GrantsCall, DeniesCall, AsksItself, HasUsedId, HasAllCalls, HasNoSession}
use Rattle.step_laws.specs.Answers.{cause_of_denial}
use Rattle.step_laws.proofs.States.{takes_none}
use Rattle.step_laws.proofs.Tells.{in_use, free}

-- an end that replies to requests is an LNS
replies_as : (r : Role) → is_reply (row_of_none r call_event.IcrqAcc).1 ≡ true → r ≡ Lns
unfolding call_row
replies_as Lac row = absurd (true≢false (sym row))
replies_as Lns row = refl

many_calls : (n : ℕ) → nat_le 4096 n ≡ true → 4096 ≤ n
many_calls n h = grind (arith, nat_tests)

few_calls : (n : ℕ) → nat_le 4096 n ≡ false → n < 4096
few_calls n h = grind (arith, nat_tests)

module _ (e : End) (t : Tunnel) (remote : ℕ) where
  abbrev reply_row : Bool
  reply_row = is_reply (row_of_none e.role call_event.IcrqAcc).1

  abbrev used : Bool
  used = remote == 0 || is_some (call_of t.calls remote)

  abbrev judged : Bool → Bool → Bool → Result ℕ IdError → Result ℕ Reason
  judged a b c d = cond (not a) (Err out_of_state) (cond b (Err (reason cause.Session 2 (Some 5))) (cond c (Err (reason cause.Calls 4 None)) (left_of d)))

  unused : used ≡ false → IsIdInUse t remote → ⊥
  unused is = free e 0 Tick t remote is

  pub grants_is : (s : ℕ) → granted e.role t.calls remote e.session_ids ≡ Ok s → GrantsCall e t remote s
  unfolding granted
  grants_is s h = by reply_row used (are_too_many t.calls) (takes_id e.session_ids) refl refl refl refl h
    where
      by : (a b c : Bool) (d : Result ℕ IdError) → reply_row ≡ a → used ≡ b → are_too_many t.calls ≡ c → takes_id e.session_ids ≡ d
          → judged a b c d ≡ Ok s → GrantsCall e t remote s
      by false b c d row id many drawn is = absurd cc
      by true true c d row id many drawn is = absurd cc
      by true false true d row id many drawn is = absurd cc
      by true false false (Err x) row id many drawn is = absurd cc
      by true false false (Ok n) row id many drawn is =
          let same : n ≡ s = cc in
          record {
            lns = replies_as e.role row;
            free = unused id;
            few = few_calls (length t.calls) many;
            drawn = subst (λ (k : ℕ). takes_id e.session_ids ≡ Ok k) same drawn;
          }

  -- with the cause that has those codes
  abbrev Denies : Reason → Type 0
  Denies r = (d : DeniesCall e t remote r.result r.error) × (cause_of_denial e t remote r.result r.error d ≡ r.cause)

  abbrev refusal : Reason → Result ℕ Reason
  refusal q = Err q

  pub denies_is : (r : Reason) → granted e.role t.calls remote e.session_ids ≡ Err r → Denies r
  unfolding granted
  denies_is r h = by reply_row used (are_too_many t.calls) (takes_id e.session_ids) refl refl refl refl h
    where
      so : (q : Reason) → refusal q ≡ refusal r → Denies q → Denies r
      so q is denies = let same : q ≡ r = cc in subst Denies same denies

      by : (a b c : Bool) (d : Result ℕ IdError) → reply_row ≡ a → used ≡ b → are_too_many t.calls ≡ c → takes_id e.session_ids ≡ d
          → judged a b c d ≡ Err r → Denies r
      by false b c d row id many drawn is = so out_of_state is (AsksItself (takes_none e.role row) refl refl, refl)
      by true true c d row id many drawn is =
          so (reason cause.Session 2 (Some 5)) is (HasUsedId (replies_as e.role row) (in_use e 0 Tick t remote id) refl refl, refl)
      by true false true d row id many drawn is =
          so (reason cause.Calls 4 None) is (HasAllCalls (replies_as e.role row) (unused id) (many_calls (length t.calls) many) refl refl, refl)
      by true false false (Err x) row id many drawn is =
          so (reason cause.Ids 4 None) is
          (HasNoSession (replies_as e.role row) (unused id) (few_calls (length t.calls) many) x drawn refl refl, refl)
      by true false false (Ok s) row id many drawn is = absurd cc
