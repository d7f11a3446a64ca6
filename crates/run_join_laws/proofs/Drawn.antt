-- Each move of the machine keeps it that a name with a birth was drawn: a call gets both at once.
use Rattle.std.proofs.Common.{◌≡◌, ⊎_elim, ℕ, ◌<◌, Bool, true, List, [], ◌∷◌, ap, ◌∙◌, subst, arith}
use Rattle.id_table.specs.Order.{same_or_not}
use Rattle.epoch_machine.specs.Calls.{Calls, ends, loses, comes_back, is_born, is_asked_for, replies, is_first_up, is_second_up, keeps_call}
use Rattle.epoch_machine.specs.Calls.{resets, is_told}
use Rattle.epoch_machine.specs.Worlds.{World, all_rules, empty_world, gives, took_one, leaves, connects, is_connected, takes_cdn}
use Rattle.epoch_machine.specs.Worlds.{answers_query, takes_answer}
use Rattle.epoch_machine.specs.Moves.{Move, Kept, keeps, keeps_all, falls, step, goes_on, opens, accepts, adds_call}
use Rattle.epoch_machine.specs.Moves.{asks_for, ends_call, ends_told, queries, freezes, resets_attempting, resets_answering, restores}
use Rattle.epoch_machine.proofs.Splits.{chosen}
use Rattle.epoch_machine.proofs.Did.{Did, idle, did_open, did_accept, did_refuse, did_take_refusal, did_take, did_take_stop, did_connect}
use Rattle.epoch_machine.proofs.Did.{did_confirm, did_reply, did_decline, did_first_up, did_second_up, did_hear, did_answer, did_learn}
use Rattle.epoch_machine.proofs.Did.{did_hello, did_close, did_clear, did_add, did_ask, did_end_told, did_end_silent, did_query, did_freeze}
use Rattle.epoch_machine.proofs.Did.{did_reset_attempting, did_reset_answering, did_restore, did_stop, did_start, step_did}
use Rattle.epoch_machine.proofs.Stops.{amid_first, all_kept}
use Rattle.session_laws.proofs.Names.{assign_here, assign_there}
use Rattle.run_join_laws.specs.Births.{AreDrawn, BirthsAreDrawn}

abbrev Drawn : World → Type 0
Drawn w = AreDrawn w.calls

-- a call is drawn, with a birth
assigned : (c d : Calls) (z : ℕ) → ((y : ℕ) → (y ≡ z → ⊥) → d.drawn y ≡ c.drawn y) → d.drawn z ≡ true
    → ((y : ℕ) → (y ≡ z → ⊥) → d.birth y ≡ c.birth y) → AreDrawn c → AreDrawn d
assigned c d z others own births drawn y some = ⊎_elim
    (λ (e : y ≡ z). ap d.drawn e ∙ own)
    (λ (o : y ≡ z → ⊥). others y o ∙ drawn y (subst (λ k. 0 < k) (births y o) some))
    (same_or_not y z)

born_drawn : (c : Calls) (x z : ℕ) → AreDrawn c → AreDrawn (is_born c x z)
unfolding is_born
born_drawn c x z drawn =
    assigned c (is_born c x z) z (λ y o. assign_there c.drawn z true y o) (assign_here c.drawn z true)
    (λ y o. assign_there c.birth z _ y o) drawn

replied_drawn : (c : Calls) (x e z own : ℕ) → AreDrawn c → AreDrawn (replies c x e z own)
unfolding replies
replied_drawn c x e z own drawn =
    assigned c (replies c x e z own) z (λ y o. assign_there c.drawn z true y o) (assign_here c.drawn z true)
    (λ y o. assign_there c.birth z _ y o) drawn

-- ---- moves

told_drawn : (w : World) (z : ℕ) → Drawn w → Drawn (ends_told all_rules w z)
unfolding ends_told ends_call gives ends
told_drawn w z drawn = drawn

learnt_drawn : (w : World) (x own z : ℕ) (here : Bool) → Drawn w → Drawn (takes_answer (took_one w x) x own z here)
unfolding takes_answer took_one ends is_told
learnt_drawn w x own z here drawn = chosen Drawn _ _ _ (λ h. drawn) (λ h. drawn)

stopped_drawn : (w : World) (n : ℕ) (ks : List Kept) → Drawn w → Drawn (falls (keeps_all w n ks w) n)
unfolding falls keeps loses ends keeps_call
stopped_drawn w n ks drawn = all_kept Drawn w n (record {
  up = λ v x s p amid up known. p;
  down = λ v x p amid at. p;
  call = λ v z own k p amid may live. p;
  ended = λ v z p amid may. p;
}) ks w drawn (amid_first w)

did_drawn : (w v : World) → Did all_rules w v → Drawn w → Drawn v
unfolding opens accepts gives took_one leaves connects is_connected takes_cdn answers_query adds_call asks_for ends_call queries freezes
    resets_attempting resets_answering restores ends comes_back is_asked_for is_first_up is_second_up resets
did_drawn w v idle drawn = drawn
did_drawn w v (did_open n m x new) drawn = drawn
did_drawn w v (did_accept s x known opener new) drawn = drawn
did_drawn w v (did_refuse s h) drawn = drawn
did_drawn w v (did_take_refusal x p t) drawn = drawn
did_drawn w v (did_take x s e k l t i) drawn = drawn
did_drawn w v (did_take_stop x s e k t) drawn = drawn
did_drawn w v (did_connect x s e k t p l) drawn = drawn
did_drawn w v (did_confirm x s e k t p l) drawn = drawn
did_drawn w v (did_reply x s e k own z t p l new) drawn = replied_drawn w.calls x (w.tunnels.entered x) z own drawn
did_drawn w v (did_decline x s e k own t p l) drawn = drawn
did_drawn w v (did_first_up x s e k own z t p l a b) drawn = drawn
did_drawn w v (did_second_up x s e k z t p l a b) drawn = drawn
did_drawn w v (did_hear x s e k own y t p l) drawn = drawn
did_drawn w v (did_answer x s e k own y t p l) drawn = drawn
did_drawn w v (did_learn x s e k own y here t p l) drawn = learnt_drawn w x own y here drawn
did_drawn w v (did_hello x p) drawn = drawn
did_drawn w v (did_close x a) drawn = drawn
did_drawn w v (did_clear x) drawn = drawn
did_drawn w v (did_add x z p new) drawn = born_drawn w.calls x z drawn
did_drawn w v (did_ask z p a) drawn = drawn
did_drawn w v (did_end_told z p a b) drawn = told_drawn w z drawn
did_drawn w v (did_end_silent z a b) drawn = drawn
did_drawn w v (did_query x z p a) drawn = drawn
did_drawn w v (did_freeze x a c own theirs p n l f new) drawn = drawn
did_drawn w v (did_reset_attempting x c p n) drawn = drawn
did_drawn w v (did_reset_answering x c p n) drawn = drawn
did_drawn w v (did_restore x a b p new) drawn = drawn
did_drawn w v (did_stop n ks) drawn = stopped_drawn w n ks drawn
did_drawn w v (did_start n) drawn = drawn

go_on : (ms : List Move) (w : World) → Drawn w → Drawn (goes_on all_rules w ms)
unfolding goes_on
go_on [] w drawn = drawn
go_on (m ∷ ms) w drawn = go_on ms (step all_rules w m) (did_drawn w (step all_rules w m) (step_did all_rules w m) drawn)

pub births_are_drawn : BirthsAreDrawn
births_are_drawn ms = go_on ms empty_world (λ z some. absurd (omega (arith, some)))
