-- Each move that is no outage leaves names, phases and calls as they stay.
use Rattle.std.proofs.Common.{◌≡◌, ◌≢◌, ℕ, true, false, eqb, not, ◌&&◌, ◌||◌, slice_get, Option, Some, None, refl}
use Rattle.epoch_machine.specs.Names.{is_new, is_name}
use Rattle.epoch_machine.specs.Letters.{Letter, Sccrp, Scccn, StopCcn, Request, Reply, Connect, Cdn, Fsr}
use Rattle.epoch_machine.specs.Tunnels.{Phase, Gone, Closed, is_live, is_active, is_open, is_established, is_wait_reply, is_wait_connect}
use Rattle.epoch_machine.specs.Calls.{ends, is_told, waits, waits_reply, waits_connect, of_tunnel, unfinished, is_call, is_named, stands_with}
use Rattle.epoch_machine.specs.Worlds.{World, all_rules, gives, took_one, leaves, connects, is_connected, answers_request, takes_reply, takes_connect, takes_cdn, answers_query, takes_answer, takes_open, takes, is_stop}
use Rattle.epoch_machine.specs.Moves.{Move, Opens, Accepts, Refuses, TakesRefusal, Delivers, SaysHello, Closes, Clears, AddsCall, Asks, EndsTold, EndsSilent, Queries, Freezes, ResetsAttempting, ResetsAnswering, Restores, Stops, Starts, may_take, delivers, may_open, may_accept, may_take_refusal, may_clear, may_add, may_ask, may_end_told, may_end_silent, may_query, may_freeze, may_reset_attempting, may_reset_answering, opens, accepts, adds_call, asks_for, ends_call, ends_told, queries, freezes, resets_attempting, resets_answering, step}
use Rattle.epoch_machine.proofs.Splits.{chosen}
use Rattle.epoch_machine.proofs.Tells.{both, reply_phase, connect_phase, waits_state, reply_state, connect_state}
use Rattle.epoch_machine.proofs.Did.{Takes, new_tells, take_tells, refusal_tells, attempting_tells, answering_tells}
use Rattle.stop_laws.specs.Steps.{is_outage}
use Rattle.stop_laws.proofs.Stays.{Stays, TunnelsStay, CallsStay, same_tunnels, same_calls, opened_stays, accepted_stays, connected_stays, confirmed_stays, closed_stays, cleared_stays, frozen_stays, confirms_stays, is_confirmed_stays, ends_stays, born_stays, asked_stays, replies_stays, first_stays, second_stays, resets_stays, told_stays, calls_on}

pub live_there : (p : Phase) → is_live p ≡ true → p ≢ Gone
live_there Gone h e = absurd cc
live_there p h e = cc

pub active_there : (p : Phase) → is_active p ≡ true → p ≢ Gone
active_there Gone h e = absurd cc
active_there p h e = cc

pub established_there : (p : Phase) → is_established p ≡ true → p ≢ Gone
established_there Gone h e = absurd cc
established_there p h e = cc

module _ (w : World) where
  all_stay : Stays w w
  all_stay = record { tunnels = same_tunnels w.tunnels; calls = same_calls w.calls }

  both_stay : (v : World) → TunnelsStay w.tunnels v.tunnels → CallsStay w.calls v.calls → Stays w v
  both_stay v t c = record { tunnels = t; calls = c }

  took : (x : ℕ) → Stays w (took_one w x)
  unfolding took_one
  took x = both_stay _ (same_tunnels w.tunnels) (same_calls w.calls)

  call_letter_stays : (x s e k z : ℕ) (l : Letter) → Takes all_rules w x s e k l → Stays w (takes_open all_rules (took_one w x) x l z)
  unfolding takes_open answers_request takes_reply takes_connect takes_cdn answers_query takes_answer took_one gives
  call_letter_stays x s e k z (Request own) t = chosen (λ (v : World). Stays w v) (is_new w.calls.drawn z) _ _ (λ n. both_stay _ (same_tunnels w.tunnels) (replies_stays w.calls x (w.tunnels.entered x) z own (new_tells w.calls.drawn z n).undrawn)) (λ n. chosen (λ (v : World). Stays w v) (is_name z) _ _ (λ m. both_stay _ (same_tunnels w.tunnels) (same_calls w.calls)) (λ m. both_stay _ (same_tunnels w.tunnels) (same_calls w.calls)))
  call_letter_stays x s e k z (Reply own y) t = chosen (λ (v : World). Stays w v) (eqb (w.calls.tunnel y) x && waits_reply (w.calls.state y)) _ _ (λ n. both_stay _ (same_tunnels w.tunnels) (first_stays w.calls y own (reply_state (w.calls.state y) (both (eqb (w.calls.tunnel y) x) (waits_reply (w.calls.state y)) n).1))) (λ n. both_stay _ (same_tunnels w.tunnels) (same_calls w.calls))
  call_letter_stays x s e k z (Connect y) t = chosen (λ (v : World). Stays w v) (eqb (w.calls.tunnel y) x && waits_connect (w.calls.state y)) _ _ (λ n. both_stay _ (same_tunnels w.tunnels) (second_stays w.calls y (connect_state (w.calls.state y) (both (eqb (w.calls.tunnel y) x) (waits_connect (w.calls.state y)) n).1))) (λ n. both_stay _ (same_tunnels w.tunnels) (same_calls w.calls))
  call_letter_stays x s e k z (Cdn own y) t = both_stay _ (same_tunnels w.tunnels) (ends_stays w.calls (is_named w.calls x own y))
  call_letter_stays x s e k z (Fsr own y here) t = chosen (λ (v : World). Stays w v) (not here && stands_with w.calls x y own) _ _ (λ n. both_stay _ (same_tunnels w.tunnels) (calls_told y)) (λ n. both_stay _ (same_tunnels w.tunnels) (told_stays w.calls x y))
    where
      calls_told : (q : ℕ) → CallsStay w.calls (ends (is_told w.calls x q) (is_call q))
      calls_told q = calls_on w.calls (is_told w.calls x q) (ends (is_told w.calls x q) (is_call q)) (told_stays w.calls x q) (ends_stays (is_told w.calls x q) (is_call q))
  call_letter_stays x s e k z l t = both_stay _ (same_tunnels w.tunnels) (same_calls w.calls)

  letter_stays : (x s e k z : ℕ) (l : Letter) → Takes all_rules w x s e k l → is_stop l ≡ false → Stays w (takes all_rules (took_one w x) x s l z)
  unfolding takes took_one connects is_connected gives
  letter_stays x s e k z StopCcn t n = absurd cc
  letter_stays x s e k z Sccrp t n = chosen (λ (v : World). Stays w v) (is_wait_reply (w.tunnels.phase x)) _ _ (λ b. both_stay _ (connected_stays w.tunnels x s (reply_phase (w.tunnels.phase x) b)) (same_calls w.calls)) (λ b. took x)
  letter_stays x s e k z Scccn t n = chosen (λ (v : World). Stays w v) (is_wait_connect (w.tunnels.phase x)) _ _ (λ b. both_stay _ (confirmed_stays w.tunnels x (connect_phase (w.tunnels.phase x) b)) (same_calls w.calls)) (λ b. took x)
  letter_stays x s e k z l t n = chosen (λ (v : World). Stays w v) (is_open (w.tunnels.phase x)) (takes_open all_rules (took_one w x) x l z) (took_one w x) (λ b. call_letter_stays x s e k z l t) (λ b. took x)

  closes_stay : (x : ℕ) → w.tunnels.phase x ≢ Gone → Stays w (leaves w x Closed)
  unfolding leaves
  closes_stay x p = both_stay _ (closed_stays w.tunnels x p) (ends_stays w.calls (of_tunnel w.calls x))

  clears_stay : (x : ℕ) → Stays w (leaves w x Gone)
  unfolding leaves
  clears_stay x = both_stay _ (cleared_stays w.tunnels x) (ends_stays w.calls (of_tunnel w.calls x))

  delivery_stays : (x s e k z : ℕ) (o : Option Letter) → slice_get (w.channels.sent s e) k ≡ o → Stays w (delivers all_rules w x s e k z o)
  unfolding delivers
  delivery_stays x s e k z None is = all_stay
  delivery_stays x s e k z (Some StopCcn) is = chosen (λ (v : World). Stays w v) (may_take all_rules w x s e k StopCcn) _ _ (λ b. closes_stay x (active_there (w.tunnels.phase x) (take_tells all_rules w x s e k StopCcn b is).active)) (λ b. all_stay)
  delivery_stays x s e k z (Some l) is = chosen (λ (v : World). Stays w v) (may_take all_rules w x s e k l) (takes all_rules (took_one w x) x s l z) w (λ b. letter_stays x s e k z l (take_tells all_rules w x s e k l b is) refl) (λ b. all_stay)

  opens_stay : (n m x : ℕ) → may_open w n x ≡ true → Stays w (opens w n m x)
  unfolding opens gives may_open
  opens_stay n m x h = both_stay _ (opened_stays w.tunnels n m x (new_tells w.tunnels.drawn x (both (w.tunnels.up n) (is_new w.tunnels.drawn x) h).1).undrawn) (same_calls w.calls)

  accepts_stay : (s x : ℕ) → may_accept w s x ≡ true → Stays w (accepts w s x)
  unfolding accepts gives took_one may_accept
  accepts_stay s x h = both_stay _ (accepted_stays w.tunnels s x (new_tells w.tunnels.drawn x (both (w.tunnels.drawn s && w.tunnels.opener s) (is_new w.tunnels.drawn x) (both (w.tunnels.up (w.tunnels.peer s)) ((w.tunnels.drawn s && w.tunnels.opener s) && is_new w.tunnels.drawn x) h).1).1).undrawn) (same_calls w.calls)

  closing_stays : (x : ℕ) → is_active (w.tunnels.phase x) ≡ true → Stays w (leaves (gives w x StopCcn) x Closed)
  unfolding leaves gives
  closing_stays x a = both_stay _ (closed_stays w.tunnels x (active_there (w.tunnels.phase x) a)) (ends_stays w.calls (of_tunnel w.calls x))

  adds_stay : (x z : ℕ) → may_add w x z ≡ true → Stays w (adds_call w x z)
  unfolding adds_call may_add
  adds_stay x z h = both_stay _ (same_tunnels w.tunnels) (born_stays w.calls x z (new_tells w.calls.drawn z (both (is_open (w.tunnels.phase x) || is_wait_reply (w.tunnels.phase x)) (is_new w.calls.drawn z) h).1).undrawn)

  asks_stay : (z : ℕ) → may_ask w z ≡ true → Stays w (asks_for w z)
  unfolding asks_for gives may_ask
  asks_stay z h = both_stay _ (same_tunnels w.tunnels) (asked_stays w.calls z (w.tunnels.entered (w.calls.tunnel z)) (waits_state (w.calls.state z) (both (is_open (w.tunnels.phase (w.calls.tunnel z))) (waits (w.calls.state z)) h).1))

  ends_stay : (z : ℕ) → Stays w (ends_call w z)
  unfolding ends_call
  ends_stay z = both_stay _ (same_tunnels w.tunnels) (ends_stays w.calls (is_call z))

  told_stay : (z : ℕ) → Stays w (ends_told all_rules w z)
  unfolding ends_told ends_call gives
  told_stay z = both_stay _ (same_tunnels w.tunnels) (ends_stays w.calls (is_call z))

  freezes_stay : (x a c own theirs : ℕ) → may_freeze w x a c ≡ true → Stays w (freezes all_rules w x a c own theirs)
  unfolding freezes may_freeze
  freezes_stay x a c own theirs h = both_stay _ (frozen_stays w.tunnels x a c own theirs (established_there (w.tunnels.phase x) (both (is_established (w.tunnels.phase x)) _ h).0)) (ends_stays w.calls (unfinished w.calls x))

  attempting_stays : (x c : ℕ) → may_reset_attempting w x c ≡ true → Stays w (resets_attempting all_rules w x c)
  unfolding resets_attempting
  attempting_stays x c h = both_stay _ (confirms_stays w.tunnels x c (λ e. (let i = (attempting_tells w x c h).0 in cc))) (resets_stays w.calls true x (w.tunnels.makes c))

  answering_stays : (x c : ℕ) → may_reset_answering w x c ≡ true → Stays w (resets_answering all_rules w x c)
  unfolding resets_answering
  answering_stays x c h = both_stay _ (is_confirmed_stays w.tunnels x c (λ e. (let i = (answering_tells w x c h).0 in cc))) (resets_stays w.calls true x (w.tunnels.makes c))

  pub step_stays : (m : Move) → is_outage m ≡ false → Stays w (step all_rules w m)
  unfolding step gives queries
  step_stays (Opens n m x) o = chosen (λ (v : World). Stays w v) (may_open w n x) _ _ (λ b. opens_stay n m x b) (λ b. all_stay)
  step_stays (Accepts s x) o = chosen (λ (v : World). Stays w v) (may_accept w s x) _ _ (λ b. accepts_stay s x b) (λ b. all_stay)
  step_stays (Refuses s) o = chosen (λ (v : World). Stays w v) (w.tunnels.opener s) _ _ (λ b. both_stay _ (same_tunnels w.tunnels) (same_calls w.calls)) (λ b. all_stay)
  step_stays (TakesRefusal x) o = chosen (λ (v : World). Stays w v) (may_take_refusal w x) _ _ (λ b. closes_stay x (λ e. (let i = (refusal_tells w x b).0 in cc))) (λ b. all_stay)
  step_stays (Delivers x s e k z) o = delivery_stays x s e k z (slice_get (w.channels.sent s e) k) refl
  step_stays (SaysHello x) o = chosen (λ (v : World). Stays w v) (is_open (w.tunnels.phase x)) _ _ (λ b. both_stay _ (same_tunnels w.tunnels) (same_calls w.calls)) (λ b. all_stay)
  step_stays (Closes x) o = chosen (λ (v : World). Stays w v) (is_active (w.tunnels.phase x)) _ _ (λ b. closing_stays x b) (λ b. all_stay)
  step_stays (Clears x) o = chosen (λ (v : World). Stays w v) (may_clear w x) _ _ (λ b. clears_stay x) (λ b. all_stay)
  step_stays (AddsCall x z) o = chosen (λ (v : World). Stays w v) (may_add w x z) _ _ (λ b. adds_stay x z b) (λ b. all_stay)
  step_stays (Asks z) o = chosen (λ (v : World). Stays w v) (may_ask w z) _ _ (λ b. asks_stay z b) (λ b. all_stay)
  step_stays (EndsTold z) o = chosen (λ (v : World). Stays w v) (may_end_told w z) _ _ (λ b. told_stay z) (λ b. all_stay)
  step_stays (EndsSilent z) o = chosen (λ (v : World). Stays w v) (may_end_silent w z) _ _ (λ b. ends_stay z) (λ b. all_stay)
  step_stays (Queries x z) o = chosen (λ (v : World). Stays w v) (may_query w x z) _ _ (λ b. both_stay _ (same_tunnels w.tunnels) (same_calls w.calls)) (λ b. all_stay)
  step_stays (Freezes x a c own theirs) o = chosen (λ (v : World). Stays w v) (may_freeze w x a c) _ _ (λ b. freezes_stay x a c own theirs b) (λ b. all_stay)
  step_stays (ResetsAttempting x c) o = chosen (λ (v : World). Stays w v) (may_reset_attempting w x c) _ _ (λ b. attempting_stays x c b) (λ b. all_stay)
  step_stays (ResetsAnswering x c) o = chosen (λ (v : World). Stays w v) (may_reset_answering w x c) _ _ (λ b. answering_stays x c b) (λ b. all_stay)
  step_stays (Restores x a) o = absurd cc
  step_stays (Stops n ks) o = absurd cc
  step_stays (Starts n) o = absurd cc
