-- The runs, computed.
use Rattle.std.proofs.Common.{◌≡◌, ℕ, true, false, cond, eqb, [], ◌∷◌, refl, arith}
use Rattle.std.proofs.lemmas.Bool.Decides.{nat_tests}
use Rattle.epoch_machine.specs.Tunnels.{opened, accepted, established_with, established, left, restored, frozen, confirms, is_confirmed, goes_down, comes_up, keeps_up, keeps_down}
use Rattle.epoch_machine.specs.Channels.{puts, counts, refuses}
use Rattle.epoch_machine.specs.Calls.{ends, loses, comes_back, is_born, is_asked_for, replies, is_first_up, is_second_up, keeps_call, resets, is_told}
use Rattle.epoch_machine.specs.Worlds.{gives, took_one, leaves, connects, is_connected, answers_request, takes_reply, takes_connect, takes_cdn, answers_query, takes_answer, takes_open, takes, all_rules}
use Rattle.epoch_machine.specs.Moves.{may_take, delivers, may_keep, keeps, keeps_all, falls, may_open, may_accept, may_take_refusal, may_clear, may_add, may_ask, may_end_told, may_end_silent, may_query, may_freeze, may_reset_attempting, may_reset_answering, may_restore, opens, accepts, adds_call, asks_for, ends_call, ends_told, queries, freezes, resets_attempting, resets_answering, restores, step, goes_on, after}
use Rattle.machine_examples.specs.Examples.{whole, both_ask, ignored, given_up, IsHeld, WholeRun, BothAsk, IgnoredRequest}
use Rattle.machine_examples.proofs.Holdings.{complete, no_others, first_of_one, first_of_two, second_of_two, all_of_one, all_of_two}

-- all that a run computes with
unfoldable pub computing : Unit {0}
unfolding opened accepted established_with established left restored frozen confirms is_confirmed goes_down comes_up keeps_up keeps_down puts counts refuses ends loses comes_back is_born is_asked_for replies is_first_up is_second_up keeps_call resets is_told gives took_one leaves connects is_connected answers_request takes_reply takes_connect takes_cdn answers_query takes_answer takes_open takes may_take delivers may_keep keeps keeps_all falls may_open may_accept may_take_refusal may_clear may_add may_ask may_end_told may_end_silent may_query may_freeze may_reset_attempting may_reset_answering may_restore opens accepts adds_call asks_for ends_call ends_told queries freezes resets_attempting resets_answering restores step goes_on
computing = tt

-- the calls that a run draws, in any order
pub undrawn : (a b c d z : ℕ) → (z ≡ a → ⊥) → (z ≡ b → ⊥) → (z ≡ c → ⊥) → (z ≡ d → ⊥) → cond (eqb z a) true (cond (eqb z b) true (cond (eqb z c) true (cond (eqb z d) true false))) ≡ false
undrawn a b c d z i j k l = grind (arith, nat_tests)

whole_others : (z : ℕ) → (z ≡ 101 → ⊥) → (z ≡ 201 → ⊥) → (z ≡ 102 → ⊥) → (z ≡ 202 → ⊥) → (after all_rules whole).calls.drawn z ≡ false
unfolding computing
whole_others z i j k l = undrawn 202 102 201 101 z l k j i

pub whole_run : WholeRun
unfolding computing
whole_run = record {
  opened = record { opener = refl; acceptor = refl; opener_epoch = refl; acceptor_epoch = refl };
  called = record { opener = refl; acceptor = refl };
  born = refl;
  attempting = record { opener = refl; acceptor = refl; opener_epoch = refl; acceptor_epoch = refl };
  kept = record { opener = refl; acceptor = refl };
  half = record { opener = refl; acceptor = refl };
  tied = record { opener = refl; acceptor = refl; opener_epoch = refl; acceptor_epoch = refl };
  half_still = record { opener = refl; acceptor = refl };
  by_answer = refl;
  opener_by = refl;
  acceptor_by = refl;
  opener_begins = refl;
  acceptor_begins = refl;
  asked = record { opener = refl; acceptor = refl; opener_epoch = refl; acceptor_epoch = refl };
  kept_on = record { opener = refl; acceptor = refl };
  ended = record { opener = refl; acceptor = refl };
  settled = record {
    linked = record { forth = refl; back = refl; from_name = omega arith; to_name = omega arith };
    opener = refl;
    acceptor = refl;
    opener_complete = complete whole whole_others 11 refl refl refl refl;
    acceptor_complete = complete whole whole_others 21 refl refl refl refl;
    opener_taken = omega arith;
    acceptor_taken = omega arith;
  };
  opener_holds = record { established = all_of_one (IsHeld (after all_rules whole) 11) 101 (refl, refl); no_others = no_others whole whole_others 11 (101 ∷ []) (λ t h. first_of_one 101) (λ t h. absurd (omega (arith, t))) (λ t h. absurd cc) (λ t h. absurd (omega (arith, t))) };
  acceptor_holds = record { established = all_of_one (IsHeld (after all_rules whole) 21) 201 (refl, refl); no_others = no_others whole whole_others 21 (201 ∷ []) (λ t h. absurd (omega (arith, t))) (λ t h. first_of_one 201) (λ t h. absurd (omega (arith, t))) (λ t h. absurd cc) };
}

both_others : (z : ℕ) → (z ≡ 101 → ⊥) → (z ≡ 201 → ⊥) → (z ≡ 102 → ⊥) → (z ≡ 202 → ⊥) → (after all_rules both_ask).calls.drawn z ≡ false
unfolding computing
both_others z i j k l = undrawn 102 202 201 101 z k l j i

pub both_ends_ask : BothAsk
unfolding computing
both_ends_ask = record {
  opener_asked = record { asks = refl; replies = refl; asking = refl; replying = refl };
  acceptor_asked = record { asks = refl; replies = refl; asking = refl; replying = refl };
  settled = record {
    linked = record { forth = refl; back = refl; from_name = omega arith; to_name = omega arith };
    opener = refl;
    acceptor = refl;
    opener_complete = complete both_ask both_others 11 refl refl refl refl;
    acceptor_complete = complete both_ask both_others 21 refl refl refl refl;
    opener_taken = omega arith;
    acceptor_taken = omega arith;
  };
  opener_holds = record { established = all_of_two (IsHeld (after all_rules both_ask) 11) 101 102 (refl, refl) (refl, refl); no_others = no_others both_ask both_others 11 (101 ∷ 102 ∷ []) (λ t h. first_of_two 101 102) (λ t h. absurd (omega (arith, t))) (λ t h. second_of_two 101 102) (λ t h. absurd (omega (arith, t))) };
  acceptor_holds = record { established = all_of_two (IsHeld (after all_rules both_ask) 21) 201 202 (refl, refl) (refl, refl); no_others = no_others both_ask both_others 21 (201 ∷ 202 ∷ []) (λ t h. absurd (omega (arith, t))) (λ t h. first_of_two 201 202) (λ t h. absurd (omega (arith, t))) (λ t h. second_of_two 201 202) };
}

undrawn_three : (a b c z : ℕ) → (z ≡ a → ⊥) → (z ≡ b → ⊥) → (z ≡ c → ⊥) → cond (eqb z a) true (cond (eqb z b) true (cond (eqb z c) true false)) ≡ false
undrawn_three a b c z i j k = grind (arith, nat_tests)

ignored_others : (z : ℕ) → (z ≡ 101 → ⊥) → (z ≡ 201 → ⊥) → (z ≡ 102 → ⊥) → (z ≡ 202 → ⊥) → (after all_rules ignored).calls.drawn z ≡ false
unfolding computing
ignored_others z i j k l = undrawn_three 102 201 101 z k j i

given_up_others : (z : ℕ) → (z ≡ 101 → ⊥) → (z ≡ 201 → ⊥) → (z ≡ 102 → ⊥) → (z ≡ 202 → ⊥) → (after all_rules given_up).calls.drawn z ≡ false
unfolding computing
given_up_others z i j k l = undrawn_three 102 201 101 z k j i

pub ignored_request : IgnoredRequest
unfolding computing
ignored_request = record {
  nothing_left = record {
    linked = record { forth = refl; back = refl; from_name = omega arith; to_name = omega arith };
    opener = refl;
    acceptor = refl;
    opener_complete = complete ignored ignored_others 11 refl refl refl refl;
    acceptor_complete = complete ignored ignored_others 21 refl refl refl refl;
    opener_taken = omega arith;
    acceptor_taken = omega arith;
  };
  waits = refl;
  ended = refl;
  settled = record {
    linked = record { forth = refl; back = refl; from_name = omega arith; to_name = omega arith };
    opener = refl;
    acceptor = refl;
    opener_complete = complete given_up given_up_others 11 refl refl refl refl;
    acceptor_complete = complete given_up given_up_others 21 refl refl refl refl;
    opener_taken = omega arith;
    acceptor_taken = omega arith;
  };
  opener_holds = record { established = all_of_one (IsHeld (after all_rules given_up) 11) 101 (refl, refl); no_others = no_others given_up given_up_others 11 (101 ∷ []) (λ t h. first_of_one 101) (λ t h. absurd (omega (arith, t))) (λ t h. absurd cc) (λ t h. absurd (omega (arith, t))) };
  acceptor_holds = record { established = all_of_one (IsHeld (after all_rules given_up) 21) 201 (refl, refl); no_others = no_others given_up given_up_others 21 (201 ∷ []) (λ t h. absurd (omega (arith, t))) (λ t h. first_of_one 201) (λ t h. absurd (omega (arith, t))) (λ t h. absurd (omega (arith, t))) };
}
