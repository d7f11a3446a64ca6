-- What is established stands in the book.
use Rattle.std.proofs.Common.{◌≡◌, ◌≢◌, ℕ, true, false, cond, eqb, not, ◌&&◌, List, [], ◌∷◌, refl, sym, ap, ◌∙◌, arith}
use Rattle.std.proofs.lemmas.Bool.Decides.{nat_tests}
use Rattle.epoch_machine.specs.Tunnels.{Phase, Gone, is_established, opened, accepted, established_with, established, left, restored, frozen, confirms, is_confirmed, goes_down, comes_up, keeps_up, keeps_down}
use Rattle.epoch_machine.specs.Calls.{stands_with}
use Rattle.epoch_machine.specs.Worlds.{World, Rules, all_rules, empty_world, gives, took_one, leaves, connects, is_connected, takes_cdn, answers_query, takes_answer}
use Rattle.epoch_machine.specs.Moves.{Move, Kept, keeps, keeps_all, falls, opens, accepts, adds_call, asks_for, ends_call, ends_told, queries, freezes, resets_attempting, resets_answering, restores, step, goes_on}
use Rattle.epoch_machine.proofs.Splits.{chosen}
use Rattle.epoch_machine.proofs.Stops.{amid_first, all_kept}
use Rattle.epoch_machine.proofs.Did.{Did, did_open, did_accept, did_take_refusal, did_take_stop, did_connect, did_confirm, did_learn, did_close, did_clear, did_end_told, did_freeze, did_reset_attempting, did_reset_answering, did_restore, did_stop, step_did}

pub record IsBooked (w : World) : Type 0 where
  pub booked : (x : ℕ) → is_established (w.tunnels.phase x) ≡ true → w.tunnels.booked x ≡ true

-- a stop leaves what isn't its node's
record Others (w : World) (n : ℕ) (v : World) : Type 0 where
  phase : (x : ℕ) → v.tunnels.phase x ≡ w.tunnels.phase x
  node : (x : ℕ) → v.tunnels.node x ≡ w.tunnels.node x
  booked : (x : ℕ) → w.tunnels.node x ≢ n → v.tunnels.booked x ≡ w.tunnels.booked x

stop_others : (w : World) (n : ℕ) (ks : List Kept) → Others w n (keeps_all w n ks w)
unfolding keeps keeps_up keeps_down
stop_others w n ks = all_kept (λ v. Others w n v) w n record { up = λ v x s p a u h. (let here = u.node in let b = p.booked in record { phase = p.phase; node = p.node; booked = grind (arith, nat_tests) }); down = λ v x p a at. (let b = p.booked in record { phase = p.phase; node = p.node; booked = grind (arith, nat_tests) }); call = λ v z own k p a h g. record { phase = p.phase; node = p.node; booked = p.booked }; ended = λ v z p a h. record { phase = p.phase; node = p.node; booked = p.booked } } ks w record { phase = λ x. refl; node = λ x. refl; booked = λ x h. refl } (amid_first w)

stop_booked : (w : World) (n : ℕ) (ks : List Kept) → IsBooked w → IsBooked (falls (keeps_all w n ks w) n)
unfolding falls goes_down
stop_booked w n ks ok = record { booked = by }
  where
    v : World
    v = keeps_all w n ks w

    o : Others w n v
    o = stop_others w n ks

    by : (x : ℕ) → is_established (cond (eqb (v.tunnels.node x) n) Gone (v.tunnels.phase x)) ≡ true → v.tunnels.booked x ≡ true
    by x = chosen (λ (p : Phase). is_established p ≡ true → v.tunnels.booked x ≡ true) (eqb (v.tunnels.node x) n) Gone (v.tunnels.phase x) (λ h e. absurd cc) (λ h e. o.booked x (elsewhere x h) ∙ ok.booked x (ap is_established (sym (o.phase x)) ∙ e))
      where
        elsewhere : (y : ℕ) → eqb (v.tunnels.node y) n ≡ false → w.tunnels.node y ≢ n
        elsewhere y h = let i = o.node y in grind (arith, nat_tests)

did_booked : (r : Rules) (w v : World) → Did r w v → IsBooked w → IsBooked v
unfolding gives took_one leaves connects is_connected takes_cdn answers_query takes_answer opens accepts adds_call asks_for ends_call ends_told queries freezes resets_attempting resets_answering restores opened accepted established_with established left restored frozen confirms is_confirmed comes_up
did_booked r w v (did_open n m x new) ok = let b = ok.booked in record { booked = grind (arith, nat_tests) }
did_booked r w v (did_accept s x d o new) ok = let b = ok.booked in record { booked = grind (arith, nat_tests) }
did_booked r w v (did_take_refusal x p t) ok = let b = ok.booked in record { booked = grind (arith, nat_tests) }
did_booked r w v (did_take_stop x s e k t) ok = let b = ok.booked in record { booked = grind (arith, nat_tests) }
did_booked r w v (did_connect x s e k t p l) ok = let b = ok.booked in record { booked = grind (arith, nat_tests) }
did_booked r w v (did_confirm x s e k t p l) ok = let b = ok.booked in record { booked = grind (arith, nat_tests) }
did_booked r w v (did_learn x s e k own y here t p l) ok = chosen (λ (u : World). IsBooked u) (not here && stands_with w.calls x y own) _ _ (λ h. record { booked = ok.booked }) (λ h. record { booked = ok.booked })
did_booked r w v (did_close x a) ok = let b = ok.booked in record { booked = grind (arith, nat_tests) }
did_booked r w v (did_clear x) ok = let b = ok.booked in record { booked = grind (arith, nat_tests) }
did_booked r w v (did_end_told z p a b) ok = chosen (λ (u : World). IsBooked u) r.tells_ends _ _ (λ h. record { booked = ok.booked }) (λ h. record { booked = ok.booked })
did_booked r w v (did_freeze x a c own theirs p n l f new) ok = let b = ok.booked in record { booked = grind (arith, nat_tests) }
did_booked r w v (did_reset_attempting x c p a) ok = let b = ok.booked in record { booked = grind (arith, nat_tests) }
did_booked r w v (did_reset_answering x c p a) ok = let b = ok.booked in record { booked = grind (arith, nat_tests) }
did_booked r w v (did_restore x a p g new) ok = let b = ok.booked in record { booked = grind (arith, nat_tests) }
did_booked r w v (did_stop n ks) ok = stop_booked w n ks ok
did_booked r w v d ok = record { booked = ok.booked }

pub booked_step : (w : World) (m : Move) → IsBooked w → IsBooked (step all_rules w m)
booked_step w m ok = did_booked all_rules w (step all_rules w m) (step_did all_rules w m) ok

booked_run : (ms : List Move) (w : World) → IsBooked w → IsBooked (goes_on all_rules w ms)
unfolding goes_on
booked_run [] w ok = ok
booked_run (m ∷ ms) w ok = booked_run ms (step all_rules w m) (booked_step w m ok)

pub booked_after : (ms : List Move) → IsBooked (goes_on all_rules empty_world ms)
booked_after ms = booked_run ms empty_world record { booked = λ x h. absurd cc }
