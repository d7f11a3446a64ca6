-- A move of a step writes one record, or none; why it's written, and that the letter behind it stood before the step.
use Rattle.std.proofs.Common.{◌≡◌, ⊎_elim, ℕ, Bool, true, false, cond, eqb, ltb, not, ◌&&◌, ◌||◌, List, [], ◌∷◌, slice_get, Option, Some, None, refl}
use Rattle.epoch_machine.specs.Letters.{Letter, Sccrp, Scccn, StopCcn, Reply, Connect, Cdn, Fsr}
use Rattle.epoch_machine.specs.Tunnels.{WaitReply, WaitConnect, Open, is_open, is_active, is_established, is_wait_reply, is_wait_connect}
use Rattle.epoch_machine.specs.Channels.{Stands}
use Rattle.epoch_machine.specs.Calls.{WaitsReply, WaitsConnect, waits_reply, waits_connect, stands_with}
use Rattle.epoch_machine.specs.Worlds.{World, all_rules}
use Rattle.epoch_machine.specs.Moves.{Move, TakesRefusal, Delivers, Closes, Clears, EndsTold, EndsSilent, Stops, Kept, TunnelUp, TunnelDown, CallUp, CallDown, may_take, may_take_refusal, may_clear, may_end_told, may_end_silent}
use Rattle.epoch_machine.proofs.Tells.{both, either, same, reply_phase, connect_phase, open_phase, reply_state, connect_state}
use Rattle.epoch_machine.proofs.Did.{Takes, take_tells}
use Rattle.coverage_laws.proofs.Runs.{Whole}
use Rattle.stop_laws.specs.Records.{of_leaving, of_ending, of_call_letter, of_letter, of_delivery, records_of}
use Rattle.stop_laws.specs.Steps.{InStep, establishes}
use Rattle.stop_laws.proofs.Booked.{IsBooked}
use Rattle.stop_laws.proofs.Allowed.{reply_stands, connect_stands, partner_stands}

-- what is known of a record that is written in world v, of a step that began in world w
abbrev pub Why : World → World → Kept → Type 0
Why w v (TunnelUp x s) = (v.tunnels.phase x ≡ WaitReply → Stands w.channels s 0 0 Sccrp) × (v.tunnels.phase x ≡ WaitConnect → Stands w.channels s 0 1 Scccn)
Why w v (TunnelDown x) = v.tunnels.booked x ≡ true
Why w v (CallUp z own k) = (v.calls.state z ≡ WaitsReply → Stands w.channels (v.tunnels.learned (v.calls.tunnel z)) (v.tunnels.entered (v.calls.tunnel z)) k (Reply own z)) × (v.calls.state z ≡ WaitsConnect → Stands w.channels (v.tunnels.learned (v.calls.tunnel z)) (v.tunnels.entered (v.calls.tunnel z)) k (Connect z))
Why w v (CallDown z) = v.calls.booked z ≡ true

pub data Wrote (w v : World) : List Kept → Type 0 where
  nothing : Wrote w v []
  one : (k : Kept) → Why w v k → Wrote w v (k ∷ [])

module _ (w v : World) (h : Whole v) (ib : IsBooked v) where
  if_so : (b : Bool) (k : Kept) → (b ≡ true → Why w v k) → Wrote w v (cond b (k ∷ []) [])
  if_so true k y = one k (y refl)
  if_so false k y = nothing

  tested : (b : Bool) (ks : List Kept) → (b ≡ true → Wrote w v ks) → Wrote w v (cond b ks [])
  tested true ks y = y refl
  tested false ks y = nothing

  leaving : (x : ℕ) → Wrote w v (of_leaving v x)
  leaving x = if_so (is_established (v.tunnels.phase x) || v.tunnels.booked x) (TunnelDown x) (λ b. ⊎_elim (λ e. ib.booked x e) (λ e. e) (either (is_established (v.tunnels.phase x)) (v.tunnels.booked x) b))

  ending : (z : ℕ) → Wrote w v (of_ending v z)
  ending z = if_so (v.calls.booked z) (CallDown z) (λ b. b)

  module _ (x s e k : ℕ) (stood : (l : Letter) → establishes l ≡ true → Stands v.channels s e k l → Stands w.channels s e k l) where
    call_letter_wrote : (l : Letter) → Takes all_rules v x s e k l → v.tunnels.phase x ≡ Open → Wrote w v (of_call_letter v x k l)
    call_letter_wrote (Reply own y) t p = if_so (eqb (v.calls.tunnel y) x && waits_reply (v.calls.state y)) (CallUp y own k) (λ b. let a = both (eqb (v.calls.tunnel y) x) (waits_reply (v.calls.state y)) b in (λ i. partner_stands v h x s e k y (Reply own y) t refl p (same (v.calls.tunnel y) x a.0) w.channels (stood (Reply own y) refl t.stands), λ i. absurd (let j = reply_state (v.calls.state y) a.1 in cc)))
    call_letter_wrote (Connect y) t p = if_so (eqb (v.calls.tunnel y) x && waits_connect (v.calls.state y)) (CallUp y (v.calls.remote y) k) (λ b. let a = both (eqb (v.calls.tunnel y) x) (waits_connect (v.calls.state y)) b in (λ i. absurd (let j = connect_state (v.calls.state y) a.1 in cc), λ i. partner_stands v h x s e k y (Connect y) t refl p (same (v.calls.tunnel y) x a.0) w.channels (stood (Connect y) refl t.stands)))
    call_letter_wrote (Cdn own y) t p = tested (ltb 0 y && eqb (v.calls.tunnel y) x) (of_ending v y) (λ b. ending y)
    call_letter_wrote (Fsr own y here) t p = tested (not here && stands_with v.calls x y own) (of_ending v y) (λ b. ending y)
    call_letter_wrote l t p = nothing

    letter_wrote : (l : Letter) → Takes all_rules v x s e k l → Wrote w v (of_letter v x s k l)
    letter_wrote StopCcn t = leaving x
    letter_wrote Sccrp t = if_so (is_wait_reply (v.tunnels.phase x)) (TunnelUp x s) (λ b. (λ p. reply_stands v h x s e k t p w.channels (stood Sccrp refl t.stands), λ p. absurd (let q = reply_phase (v.tunnels.phase x) b in cc)))
    letter_wrote Scccn t = if_so (is_wait_connect (v.tunnels.phase x)) (TunnelUp x s) (λ b. (λ p. absurd (let q = connect_phase (v.tunnels.phase x) b in cc), λ p. connect_stands v h x s e k t p w.channels (stood Scccn refl t.stands)))
    letter_wrote l t = tested (is_open (v.tunnels.phase x)) (of_call_letter v x k l) (λ b. call_letter_wrote l t (open_phase (v.tunnels.phase x) b))

    delivery_wrote : (o : Option Letter) → slice_get (v.channels.sent s e) k ≡ o → Wrote w v (of_delivery v x s e k o)
    unfolding of_delivery
    delivery_wrote None is = nothing
    delivery_wrote (Some l) is = tested (may_take all_rules v x s e k l) (of_letter v x s k l) (λ b. letter_wrote l (take_tells all_rules v x s e k l b is))

  pub step_wrote : (n : ℕ) (m : Move) → InStep w n v m → Wrote w v (records_of v m)
  unfolding records_of
  step_wrote n (TakesRefusal x) i = tested (may_take_refusal v x) (of_leaving v x) (λ b. leaving x)
  step_wrote n (Delivers x s e k z) i = delivery_wrote x s e k (λ l. i.stood x s e k z l refl) (slice_get (v.channels.sent s e) k) refl
  step_wrote n (Closes x) i = tested (is_active (v.tunnels.phase x)) (of_leaving v x) (λ b. leaving x)
  step_wrote n (Clears x) i = tested (may_clear v x) (of_leaving v x) (λ b. leaving x)
  step_wrote n (EndsTold z) i = tested (may_end_told v z) (of_ending v z) (λ b. ending z)
  step_wrote n (EndsSilent z) i = tested (may_end_silent v z) (of_ending v z) (λ b. ending z)
  step_wrote n (Stops k ks) i = absurd (let b = i.no_outage in cc)
  step_wrote n m i = nothing
