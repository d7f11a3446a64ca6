-- Steps of several moves, computed.
use Rattle.std.proofs.Common.{◌≡◌, ℕ, false, [], ◌∷◌, refl, sym, ◌∙◌, arith}
use Rattle.epoch_machine.specs.Worlds.{all_rules, empty_world}
use Rattle.epoch_machine.specs.Moves.{Stops, CallDown, after}
use Rattle.stop_laws.specs.Records.{node_of, records_of, of_delivery, each_allowed}
use Rattle.stop_laws.specs.Steps.{AllInStep, records_along, cut_step}
use Rattle.stop_laws.proofs.Lists.{one_more}
use Rattle.stop_laws.proofs.Along.{stops_amid_lists}
use Rattle.machine_examples.specs.Examples.{two_calls, both_end, after_one, cut_amid, cut_and_back, IsHeld, CutStep, PremisesCarryWeight}
use Rattle.machine_examples.proofs.Computed.{computing, undrawn}
use Rattle.machine_examples.proofs.Holdings.{complete, no_others, first_of_one, all_of_one}

cut_others : (z : ℕ) → (z ≡ 101 → ⊥) → (z ≡ 201 → ⊥) → (z ≡ 102 → ⊥) → (z ≡ 202 → ⊥) → (after all_rules cut_and_back).calls.drawn z ≡ false
unfolding computing
cut_others z i j k l = undrawn 202 102 201 101 z l k j i

in_one_step : AllInStep (after all_rules two_calls) 1 (after all_rules two_calls) both_end
unfolding computing node_of
in_one_step = (record { node = refl; no_outage = refl; stood = λ x s e k z l i. absurd cc }, (record { node = refl; no_outage = refl; stood = λ x s e k z l i. absurd cc }, tt))

two_records : records_along (after all_rules two_calls) both_end ≡ CallDown 101 ∷ CallDown 102 ∷ []
unfolding computing records_of records_along
two_records = refl

-- by the law
is_a_stop : after all_rules cut_amid ≡ cut_step (after all_rules two_calls) 1 after_one
is_a_stop = one_more all_rules two_calls (Stops 1 after_one) empty_world ∙ stops_amid_lists.is_stop two_calls 1 both_end after_one (CallDown 102 ∷ []) record { one_step = in_one_step; prefix = sym two_records }

pub cut_step_run : CutStep
unfolding computing
cut_step_run = record {
  held = (record { opener = refl; acceptor = refl }, record { opener = refl; acceptor = refl });
  one_step = in_one_step;
  written = two_records;
  is_stop = is_a_stop;
  ended = refl;
  left = refl;
  other_holds = (record { opener = refl; acceptor = refl }, record { opener = refl; acceptor = refl });
  settled = record {
    linked = record { forth = refl; back = refl; from_name = omega arith; to_name = omega arith };
    opener = refl;
    acceptor = refl;
    opener_complete = complete cut_and_back cut_others 11 refl refl refl refl;
    acceptor_complete = complete cut_and_back cut_others 21 refl refl refl refl;
    opener_taken = omega arith;
    acceptor_taken = omega arith;
  };
  opener_holds = record { established = all_of_one (IsHeld (after all_rules cut_and_back) 11) 102 (refl, refl); no_others = no_others cut_and_back cut_others 11 (102 ∷ []) (λ t h. absurd cc) (λ t h. absurd (omega (arith, t))) (λ t h. first_of_one 102) (λ t h. absurd (omega (arith, t))) };
  acceptor_holds = record { established = all_of_one (IsHeld (after all_rules cut_and_back) 21) 202 (refl, refl); no_others = no_others cut_and_back cut_others 21 (202 ∷ []) (λ t h. absurd (omega (arith, t))) (λ t h. absurd cc) (λ t h. absurd (omega (arith, t))) (λ t h. first_of_one 202) };
}

pub premises_carry_weight : PremisesCarryWeight
unfolding computing records_of of_delivery records_along each_allowed
premises_carry_weight = record { letter = refl; letter_refused = refl; restored = refl; restored_refused = refl; started = refl; started_refused = refl }
