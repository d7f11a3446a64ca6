-- What a move does, with what is known before it.
use Rattle.std.proofs.Common.{◌≡◌, ◌≢◌, ◌⊎◌, inl, inr, ⊎_elim, ℕ, ◌≤◌, Bool, true, false, cond, eqb, ltb, not, ◌&&◌, ◌||◌, List, refl, ap, slice_get, Option, Some, None, arith}
use Rattle.std.proofs.lemmas.Bool.Decides.{nat_tests}
use Rattle.epoch_machine.specs.Names.{is_new, is_name}
use Rattle.epoch_machine.specs.Letters.{Letter, Sccrq, Sccrp, Scccn, StopCcn, Hello, Request, Reply, Connect, Cdn, Fsq, Fsr}
use Rattle.epoch_machine.specs.Tunnels.{Tunnels, Gone, WaitReply, WaitConnect, Open, Closed, Attempts, Answers, is_established, is_live, is_active, is_open, is_wait_reply, is_wait_connect, attempts_by, answers_by}
use Rattle.epoch_machine.specs.Channels.{Stands, refuses}
use Rattle.epoch_machine.specs.Calls.{Waits, WaitsReply, WaitsConnect, lives, waits, waits_reply, waits_connect, replies, is_first_up, is_second_up}
use Rattle.epoch_machine.specs.Worlds.{World, Rules, gives, took_one, leaves, connects, is_connected, answers_request, takes_reply, takes_connect, takes_cdn, answers_query, takes_answer, takes_open, takes, is_stop}
use Rattle.epoch_machine.specs.Moves.{Move, Opens, Accepts, Refuses, TakesRefusal, Delivers, SaysHello, Closes, Clears, AddsCall, Asks, EndsTold, EndsSilent, Queries, Freezes, ResetsAttempting, ResetsAnswering, Restores, Stops, Starts, Kept, may_take, reaches, delivers, keeps_all, falls, may_open, may_accept, may_take_refusal, may_clear, may_add, may_ask, may_end_told, may_end_silent, may_query, may_freeze, may_reset_attempting, may_reset_answering, may_restore, opens, accepts, adds_call, asks_for, ends_call, ends_told, queries, freezes, resets_attempting, resets_answering, restores, step}
use Rattle.epoch_machine.specs.Tunnels.{comes_up}
use Rattle.epoch_machine.proofs.Splits.{chosen}
use Rattle.epoch_machine.proofs.Tells.{both, either, no_way, turned, same, named, open_phase, reply_phase, connect_phase, gone_phase, attempts_phase, answers_phase, waits_state, reply_state, connect_state}

-- a name that may be drawn
pub record IsNew (drawn : ℕ → Bool) (k : ℕ) : Type 0 where
  pub undrawn : drawn k ≡ false
  pub name : k ≢ 0

-- an active tunnel takes the letter that is its next one
pub record Takes (r : Rules) (w : World) (x s e k : ℕ) (l : Letter) : Type 0 where
  pub active : is_active (w.tunnels.phase x) ≡ true
  pub sender : s ≢ 0
  pub way : reaches w.tunnels s x l ≡ true
  pub fresh : r.reads_epochs ≡ true → w.tunnels.entered x ≤ e
  pub next : k ≡ w.channels.taken x (w.tunnels.entered x)
  pub stands : Stands w.channels s e k l

-- a letter that is taken and changes nothing else; so may a request be
pub record Ignores (w : World) (x : ℕ) (l : Letter) : Type 0 where
  pub no_stop : is_stop l ≡ false
  pub no_opening : l ≡ Sccrp → is_wait_reply (w.tunnels.phase x) ≡ false
  pub no_confirming : l ≡ Scccn → is_wait_connect (w.tunnels.phase x) ≡ false
  pub no_connecting : (z : ℕ) → l ≡ Connect z → is_open (w.tunnels.phase x) ≡ true → (eqb (w.calls.tunnel z) x && waits_connect (w.calls.state z)) ≡ false
  pub no_cdn : (own y : ℕ) → l ≡ Cdn own y → is_open (w.tunnels.phase x) ≡ false
  pub no_answer : (own y : ℕ) (here : Bool) → l ≡ Fsr own y here → is_open (w.tunnels.phase x) ≡ false

pub data Did (r : Rules) (w : World) : World → Type 0 where
  idle : Did r w w
  did_open : (n m x : ℕ) → IsNew w.tunnels.drawn x → Did r w (opens w n m x)
  did_accept : (s x : ℕ) → w.tunnels.drawn s ≡ true → w.tunnels.opener s ≡ true → IsNew w.tunnels.drawn x → Did r w (accepts w s x)
  did_refuse : (s : ℕ) → w.tunnels.opener s ≡ true → Did r w (record w { channels = refuses w.channels s })
  did_take_refusal : (x : ℕ) → w.tunnels.phase x ≡ WaitReply → w.channels.taken x 0 ≡ 0 → Did r w (leaves w x Closed)
  -- deliveries
  did_take : (x s e k : ℕ) (l : Letter) → Takes r w x s e k l → Ignores w x l → Did r w (took_one w x)
  did_take_stop : (x s e k : ℕ) → Takes r w x s e k StopCcn → Did r w (leaves w x Closed)
  did_connect : (x s e k : ℕ) → Takes r w x s e k Sccrp → w.tunnels.phase x ≡ WaitReply → w.tunnels.learned s ≡ x → Did r w (connects (took_one w x) x s)
  did_confirm : (x s e k : ℕ) → Takes r w x s e k Scccn → w.tunnels.phase x ≡ WaitConnect → w.tunnels.learned s ≡ x → Did r w (is_connected (took_one w x) x)
  did_reply : (x s e k own z : ℕ) → Takes r w x s e k (Request own) → w.tunnels.phase x ≡ Open → w.tunnels.learned s ≡ x → IsNew w.calls.drawn z → Did r w (gives (record w { channels = (took_one w x).channels; calls = replies w.calls x (w.tunnels.entered x) z own }) x (Reply z own))
  did_decline : (x s e k own : ℕ) → Takes r w x s e k (Request own) → w.tunnels.phase x ≡ Open → w.tunnels.learned s ≡ x → Did r w (gives (took_one w x) x (Cdn 0 own))
  did_first_up : (x s e k own z : ℕ) → Takes r w x s e k (Reply own z) → w.tunnels.phase x ≡ Open → w.tunnels.learned s ≡ x → w.calls.tunnel z ≡ x → w.calls.state z ≡ WaitsReply → Did r w (gives (record w { channels = (took_one w x).channels; calls = is_first_up w.calls z own }) x (Connect own))
  did_second_up : (x s e k z : ℕ) → Takes r w x s e k (Connect z) → w.tunnels.phase x ≡ Open → w.tunnels.learned s ≡ x → w.calls.tunnel z ≡ x → w.calls.state z ≡ WaitsConnect → Did r w (record w { channels = (took_one w x).channels; calls = is_second_up w.calls z })
  did_hear : (x s e k own y : ℕ) → Takes r w x s e k (Cdn own y) → w.tunnels.phase x ≡ Open → w.tunnels.learned s ≡ x → Did r w (takes_cdn (took_one w x) x own y)
  did_answer : (x s e k own y : ℕ) → Takes r w x s e k (Fsq own y) → w.tunnels.phase x ≡ Open → w.tunnels.learned s ≡ x → Did r w (answers_query r (took_one w x) x own y)
  did_learn : (x s e k own y : ℕ) (here : Bool) → Takes r w x s e k (Fsr own y here) → w.tunnels.phase x ≡ Open → w.tunnels.learned s ≡ x → Did r w (takes_answer (took_one w x) x own y here)
  -- what an end does by itself
  did_hello : (x : ℕ) → w.tunnels.phase x ≡ Open → Did r w (gives w x Hello)
  did_close : (x : ℕ) → is_active (w.tunnels.phase x) ≡ true → Did r w (leaves (gives w x StopCcn) x Closed)
  did_clear : (x : ℕ) → Did r w (leaves w x Gone)
  did_add : (x z : ℕ) → (w.tunnels.phase x ≡ Open) ⊎ (w.tunnels.phase x ≡ WaitReply) → IsNew w.calls.drawn z → Did r w (adds_call w x z)
  did_ask : (z : ℕ) → w.tunnels.phase (w.calls.tunnel z) ≡ Open → w.calls.state z ≡ Waits → Did r w (asks_for w z)
  did_end_told : (z : ℕ) → w.tunnels.phase (w.calls.tunnel z) ≡ Open → lives (w.calls.state z) ≡ true → waits (w.calls.state z) ≡ false → Did r w (ends_told r w z)
  did_end_silent : (z : ℕ) → lives (w.calls.state z) ≡ true → (is_active (w.tunnels.phase (w.calls.tunnel z)) ≡ false) ⊎ (w.calls.state z ≡ Waits) → Did r w (ends_call w z)
  did_query : (x z : ℕ) → w.tunnels.phase x ≡ Open → w.calls.asks x z ≡ true → Did r w (queries w x z)
  -- recovery
  did_freeze : (x a c own theirs : ℕ) → is_established (w.tunnels.phase x) ≡ true → w.tunnels.attempts a ≢ 0 → w.tunnels.learned (w.tunnels.attempts a) ≡ x → w.tunnels.learned x ≡ w.tunnels.attempts a → IsNew w.tunnels.drawn c → Did r w (freezes r w x a c own theirs)
  did_reset_attempting : (x c : ℕ) → w.tunnels.phase x ≡ Attempts (w.tunnels.answered c) → w.tunnels.answers c ≢ 0 → Did r w (resets_attempting r w x c)
  did_reset_answering : (x c : ℕ) → w.tunnels.phase x ≡ Answers c → w.tunnels.confirmed c ≡ true → Did r w (resets_answering r w x c)
  did_restore : (x a : ℕ) → w.tunnels.booked x ≡ true → w.tunnels.phase x ≡ Gone → IsNew w.tunnels.drawn a → Did r w (restores w x a)
  did_stop : (n : ℕ) (ks : List Kept) → Did r w (falls (keeps_all w n ks w) n)
  did_start : (n : ℕ) → Did r w (record w { tunnels = comes_up w.tunnels n })

pub new_tells : (drawn : ℕ → Bool) (k : ℕ) → is_new drawn k ≡ true → IsNew drawn k
new_tells drawn k h = let a = both (ltb 0 k) (not (drawn k)) h in record { undrawn = turned (drawn k) a.1; name = named k a.0 }

pub take_tells : (r : Rules) (w : World) (x s e k : ℕ) (l : Letter) → may_take r w x s e k l ≡ true → Stands w.channels s e k l → Takes r w x s e k l
unfolding may_take
take_tells r w x s e k l h stands =
    let a = both (is_active (w.tunnels.phase x)) _ h in
    let b = both ((ltb 0 s) && reaches w.tunnels s x l) _ a.1 in
    let c = both (ltb 0 s) (reaches w.tunnels s x l) b.0 in
    let d = both (cond r.reads_epochs _ true) (eqb k (w.channels.taken x (w.tunnels.entered x))) b.1 in
    record {
      active = a.0;
      sender = named s c.0;
      way = c.1;
      fresh = λ reads. grind (arith, nat_tests);
      next = same k _ d.1;
      stands = stands;
    }

-- a letter that is no StopCCN comes by the tunnel that its header names
pub header : (t : Tunnels) (s x : ℕ) (l : Letter) → reaches t s x l ≡ true → is_stop l ≡ false → t.learned s ≡ x
header t s x l h n = grind (arith, nat_tests)

-- no letter about calls
ignored : (w : World) (x : ℕ) (l : Letter) → is_stop l ≡ false → (l ≡ Sccrp → is_wait_reply (w.tunnels.phase x) ≡ false) → (l ≡ Scccn → is_wait_connect (w.tunnels.phase x) ≡ false) → is_open (w.tunnels.phase x) ≡ false → Ignores w x l
ignored w x l a b c d = record { no_stop = a; no_opening = b; no_confirming = c; no_connecting = λ z h o. absurd (no_way (is_open (w.tunnels.phase x)) o d); no_cdn = λ own y h. d; no_answer = λ own y here h. d }

module _ (r : Rules) (w : World) (x s e k : ℕ) where
  open_did : (z : ℕ) (l : Letter) → Takes r w x s e k l → is_stop l ≡ false → w.tunnels.phase x ≡ Open → Did r w (takes_open r (took_one w x) x l z)
  unfolding takes_open answers_request takes_reply takes_connect took_one
  open_did z Sccrq t n p = did_take x s e k Sccrq t record { no_stop = refl; no_opening = λ h. absurd cc; no_confirming = λ h. absurd cc; no_connecting = λ z h o. absurd cc; no_cdn = λ own y h. absurd cc; no_answer = λ own y here h. absurd cc }
  open_did z Sccrp t n p = did_take x s e k Sccrp t record { no_stop = refl; no_opening = λ h. ap is_wait_reply p; no_confirming = λ h. absurd cc; no_connecting = λ z h o. absurd cc; no_cdn = λ own y h. absurd cc; no_answer = λ own y here h. absurd cc }
  open_did z Scccn t n p = did_take x s e k Scccn t record { no_stop = refl; no_opening = λ h. absurd cc; no_confirming = λ h. ap is_wait_connect p; no_connecting = λ z h o. absurd cc; no_cdn = λ own y h. absurd cc; no_answer = λ own y here h. absurd cc }
  open_did z StopCcn t n p = absurd cc
  open_did z Hello t n p = did_take x s e k Hello t record { no_stop = refl; no_opening = λ h. absurd cc; no_confirming = λ h. absurd cc; no_connecting = λ z h o. absurd cc; no_cdn = λ own y h. absurd cc; no_answer = λ own y here h. absurd cc }
  open_did z (Request own) t n p = let f = header w.tunnels s x (Request own) t.way n in chosen (Did r w) (is_new w.calls.drawn z) _ _ (λ h. did_reply x s e k own z t p f (new_tells w.calls.drawn z h)) (λ h. chosen (Did r w) (is_name z) _ _ (λ g. did_decline x s e k own t p f) (λ g. did_take x s e k (Request own) t record { no_stop = refl; no_opening = λ h. absurd cc; no_confirming = λ h. absurd cc; no_connecting = λ z h o. absurd cc; no_cdn = λ own y h. absurd cc; no_answer = λ own y here h. absurd cc }))
  open_did z (Reply own y) t n p =
      chosen (Did r w) (eqb (w.calls.tunnel y) x && waits_reply (w.calls.state y)) _ _
      (λ h. let a = both (eqb (w.calls.tunnel y) x) (waits_reply (w.calls.state y)) h in did_first_up x s e k own y t p (header w.tunnels s x (Reply own y) t.way n) (same (w.calls.tunnel y) x a.0) (reply_state (w.calls.state y) a.1))
      (λ h. did_take x s e k (Reply own y) t record { no_stop = refl; no_opening = λ h. absurd cc; no_confirming = λ h. absurd cc; no_connecting = λ z h o. absurd cc; no_cdn = λ own y h. absurd cc; no_answer = λ own y here h. absurd cc })
  open_did z (Connect y) t n p =
      chosen (Did r w) (eqb (w.calls.tunnel y) x && waits_connect (w.calls.state y)) _ _
      (λ h. let a = both (eqb (w.calls.tunnel y) x) (waits_connect (w.calls.state y)) h in did_second_up x s e k y t p (header w.tunnels s x (Connect y) t.way n) (same (w.calls.tunnel y) x a.0) (connect_state (w.calls.state y) a.1))
      (λ h. did_take x s e k (Connect y) t record { no_stop = refl; no_opening = λ h. absurd cc; no_confirming = λ h. absurd cc; no_connecting = connecting y h; no_cdn = λ own y h. absurd cc; no_answer = λ own y here h. absurd cc })
    where
      connecting : (y : ℕ) → (eqb (w.calls.tunnel y) x && waits_connect (w.calls.state y)) ≡ false → (z : ℕ) → Connect y ≡ Connect z → is_open (w.tunnels.phase x) ≡ true → (eqb (w.calls.tunnel z) x && waits_connect (w.calls.state z)) ≡ false
      connecting y h z e o = let same_call : y ≡ z = cc in rw (← same_call) h
  open_did z (Cdn own y) t n p = did_hear x s e k own y t p (header w.tunnels s x (Cdn own y) t.way n)
  open_did z (Fsq own y) t n p = did_answer x s e k own y t p (header w.tunnels s x (Fsq own y) t.way n)
  open_did z (Fsr own y here) t n p = did_learn x s e k own y here t p (header w.tunnels s x (Fsr own y here) t.way n)

  other_did : (z : ℕ) (l : Letter) → Takes r w x s e k l → is_stop l ≡ false → (l ≡ Sccrp → ⊥) → (l ≡ Scccn → ⊥) → Did r w (cond (is_open (w.tunnels.phase x)) (takes_open r (took_one w x) x l z) (took_one w x))
  unfolding took_one
  other_did z l t n a b = chosen (Did r w) (is_open (w.tunnels.phase x)) _ _ (λ h. open_did z l t n (open_phase (w.tunnels.phase x) h)) (λ h. did_take x s e k l t (ignored w x l n (λ g. absurd (a g)) (λ g. absurd (b g)) h))

  taking_did : (z : ℕ) (l : Letter) → Takes r w x s e k l → is_stop l ≡ false → Did r w (takes r (took_one w x) x s l z)
  unfolding takes took_one
  taking_did z StopCcn t n = absurd cc
  taking_did z Sccrp t n = chosen (Did r w) (is_wait_reply (w.tunnels.phase x)) _ _ (λ h. did_connect x s e k t (reply_phase (w.tunnels.phase x) h) (header w.tunnels s x Sccrp t.way refl)) (λ h. did_take x s e k Sccrp t record { no_stop = refl; no_opening = λ g. h; no_confirming = λ g. absurd cc; no_connecting = λ z g o. absurd cc; no_cdn = λ own y g. absurd cc; no_answer = λ own y here g. absurd cc })
  taking_did z Scccn t n = chosen (Did r w) (is_wait_connect (w.tunnels.phase x)) _ _ (λ h. did_confirm x s e k t (connect_phase (w.tunnels.phase x) h) (header w.tunnels s x Scccn t.way refl)) (λ h. did_take x s e k Scccn t record { no_stop = refl; no_opening = λ g. absurd cc; no_confirming = λ g. h; no_connecting = λ z g o. absurd cc; no_cdn = λ own y g. absurd cc; no_answer = λ own y here g. absurd cc })
  taking_did z Sccrq t n = other_did z Sccrq t refl (λ h. cc) (λ h. cc)
  taking_did z Hello t n = other_did z Hello t refl (λ h. cc) (λ h. cc)
  taking_did z (Request own) t n = other_did z (Request own) t refl (λ h. cc) (λ h. cc)
  taking_did z (Reply own y) t n = other_did z (Reply own y) t refl (λ h. cc) (λ h. cc)
  taking_did z (Connect y) t n = other_did z (Connect y) t refl (λ h. cc) (λ h. cc)
  taking_did z (Cdn own y) t n = other_did z (Cdn own y) t refl (λ h. cc) (λ h. cc)
  taking_did z (Fsq own y) t n = other_did z (Fsq own y) t refl (λ h. cc) (λ h. cc)
  taking_did z (Fsr own y here) t n = other_did z (Fsr own y here) t refl (λ h. cc) (λ h. cc)

delivers_did : (r : Rules) (w : World) (x s e k z : ℕ) (o : Option Letter) → slice_get (w.channels.sent s e) k ≡ o → Did r w (delivers r w x s e k z o)
unfolding delivers
delivers_did r w x s e k z None is = idle
delivers_did r w x s e k z (Some StopCcn) is = chosen (Did r w) (may_take r w x s e k StopCcn) _ _ (λ h. did_take_stop x s e k (take_tells r w x s e k StopCcn h is)) (λ h. idle)
delivers_did r w x s e k z (Some Sccrq) is = chosen (Did r w) (may_take r w x s e k Sccrq) _ _ (λ h. taking_did r w x s e k z Sccrq (take_tells r w x s e k Sccrq h is) refl) (λ h. idle)
delivers_did r w x s e k z (Some Sccrp) is = chosen (Did r w) (may_take r w x s e k Sccrp) _ _ (λ h. taking_did r w x s e k z Sccrp (take_tells r w x s e k Sccrp h is) refl) (λ h. idle)
delivers_did r w x s e k z (Some Scccn) is = chosen (Did r w) (may_take r w x s e k Scccn) _ _ (λ h. taking_did r w x s e k z Scccn (take_tells r w x s e k Scccn h is) refl) (λ h. idle)
delivers_did r w x s e k z (Some Hello) is = chosen (Did r w) (may_take r w x s e k Hello) _ _ (λ h. taking_did r w x s e k z Hello (take_tells r w x s e k Hello h is) refl) (λ h. idle)
delivers_did r w x s e k z (Some (Request own)) is = chosen (Did r w) (may_take r w x s e k (Request own)) _ _ (λ h. taking_did r w x s e k z (Request own) (take_tells r w x s e k (Request own) h is) refl) (λ h. idle)
delivers_did r w x s e k z (Some (Reply own y)) is = chosen (Did r w) (may_take r w x s e k (Reply own y)) _ _ (λ h. taking_did r w x s e k z (Reply own y) (take_tells r w x s e k (Reply own y) h is) refl) (λ h. idle)
delivers_did r w x s e k z (Some (Connect y)) is = chosen (Did r w) (may_take r w x s e k (Connect y)) _ _ (λ h. taking_did r w x s e k z (Connect y) (take_tells r w x s e k (Connect y) h is) refl) (λ h. idle)
delivers_did r w x s e k z (Some (Cdn own y)) is = chosen (Did r w) (may_take r w x s e k (Cdn own y)) _ _ (λ h. taking_did r w x s e k z (Cdn own y) (take_tells r w x s e k (Cdn own y) h is) refl) (λ h. idle)
delivers_did r w x s e k z (Some (Fsq own y)) is = chosen (Did r w) (may_take r w x s e k (Fsq own y)) _ _ (λ h. taking_did r w x s e k z (Fsq own y) (take_tells r w x s e k (Fsq own y) h is) refl) (λ h. idle)
delivers_did r w x s e k z (Some (Fsr own y here)) is = chosen (Did r w) (may_take r w x s e k (Fsr own y here)) _ _ (λ h. taking_did r w x s e k z (Fsr own y here) (take_tells r w x s e k (Fsr own y here) h is) refl) (λ h. idle)

open_tells : (w : World) (n x : ℕ) → may_open w n x ≡ true → IsNew w.tunnels.drawn x
unfolding may_open
open_tells w n x h = new_tells w.tunnels.drawn x (both (w.tunnels.up n) _ h).1

accept_tells : (w : World) (s x : ℕ) → may_accept w s x ≡ true → (w.tunnels.drawn s ≡ true) × (w.tunnels.opener s ≡ true) × IsNew w.tunnels.drawn x
unfolding may_accept
accept_tells w s x h =
    let a = both (w.tunnels.up (w.tunnels.peer s)) ((w.tunnels.drawn s && w.tunnels.opener s) && is_new w.tunnels.drawn x) h in
    let b = both (w.tunnels.drawn s && w.tunnels.opener s) (is_new w.tunnels.drawn x) a.1 in
    let c = both (w.tunnels.drawn s) (w.tunnels.opener s) b.0 in
    (c.0, c.1, new_tells w.tunnels.drawn x b.1)

pub refusal_tells : (w : World) (x : ℕ) → may_take_refusal w x ≡ true → (w.tunnels.phase x ≡ WaitReply) × (w.channels.taken x 0 ≡ 0)
unfolding may_take_refusal
refusal_tells w x h =
    let a = both (w.channels.refused x) (is_wait_reply (w.tunnels.phase x) && eqb (w.channels.taken x 0) 0) h in
    let b = both (is_wait_reply (w.tunnels.phase x)) (eqb (w.channels.taken x 0) 0) a.1 in
    (reply_phase (w.tunnels.phase x) b.0, same (w.channels.taken x 0) 0 b.1)

add_tells : (w : World) (x z : ℕ) → may_add w x z ≡ true → ((w.tunnels.phase x ≡ Open) ⊎ (w.tunnels.phase x ≡ WaitReply)) × IsNew w.calls.drawn z
unfolding may_add
add_tells w x z h =
    let a = both (is_open (w.tunnels.phase x) || is_wait_reply (w.tunnels.phase x)) (is_new w.calls.drawn z) h in
    (⊎_elim (λ p. inl (open_phase (w.tunnels.phase x) p)) (λ p. inr (reply_phase (w.tunnels.phase x) p)) (either (is_open (w.tunnels.phase x)) (is_wait_reply (w.tunnels.phase x)) a.0), new_tells w.calls.drawn z a.1)

ask_tells : (w : World) (z : ℕ) → may_ask w z ≡ true → (w.tunnels.phase (w.calls.tunnel z) ≡ Open) × (w.calls.state z ≡ Waits)
unfolding may_ask
ask_tells w z h = let a = both (is_open (w.tunnels.phase (w.calls.tunnel z))) (waits (w.calls.state z)) h in (open_phase (w.tunnels.phase (w.calls.tunnel z)) a.0, waits_state (w.calls.state z) a.1)

told_tells : (w : World) (z : ℕ) → may_end_told w z ≡ true → (w.tunnels.phase (w.calls.tunnel z) ≡ Open) × (lives (w.calls.state z) ≡ true) × (waits (w.calls.state z) ≡ false)
unfolding may_end_told
told_tells w z h =
    let a = both (is_open (w.tunnels.phase (w.calls.tunnel z))) (lives (w.calls.state z) && not (waits (w.calls.state z))) h in
    let b = both (lives (w.calls.state z)) (not (waits (w.calls.state z))) a.1 in
    (open_phase (w.tunnels.phase (w.calls.tunnel z)) a.0, b.0, turned (waits (w.calls.state z)) b.1)

silent_tells : (w : World) (z : ℕ) → may_end_silent w z ≡ true → (lives (w.calls.state z) ≡ true) × ((is_active (w.tunnels.phase (w.calls.tunnel z)) ≡ false) ⊎ (w.calls.state z ≡ Waits))
unfolding may_end_silent
silent_tells w z h =
    let a = both (lives (w.calls.state z)) (not (is_active (w.tunnels.phase (w.calls.tunnel z))) || waits (w.calls.state z)) h in
    (a.0, ⊎_elim (λ p. inl (turned (is_active (w.tunnels.phase (w.calls.tunnel z))) p)) (λ p. inr (waits_state (w.calls.state z) p)) (either (not (is_active (w.tunnels.phase (w.calls.tunnel z)))) (waits (w.calls.state z)) a.1))

query_tells : (w : World) (x z : ℕ) → may_query w x z ≡ true → (w.tunnels.phase x ≡ Open) × (w.calls.asks x z ≡ true)
unfolding may_query
query_tells w x z h = let a = both (is_open (w.tunnels.phase x)) (w.calls.asks x z) h in (open_phase (w.tunnels.phase x) a.0, a.1)

freeze_tells : (w : World) (x a c : ℕ) → may_freeze w x a c ≡ true → (is_established (w.tunnels.phase x) ≡ true) × (w.tunnels.attempts a ≢ 0) × (w.tunnels.learned (w.tunnels.attempts a) ≡ x) × (w.tunnels.learned x ≡ w.tunnels.attempts a) × IsNew w.tunnels.drawn c
unfolding may_freeze
freeze_tells w x a c h =
    let d = both (is_established (w.tunnels.phase x)) _ h in
    let e = both (ltb 0 (w.tunnels.attempts a) && eqb (w.tunnels.learned (w.tunnels.attempts a)) x) (eqb (w.tunnels.learned x) (w.tunnels.attempts a) && is_new w.tunnels.drawn c) d.1 in
    let f = both (ltb 0 (w.tunnels.attempts a)) (eqb (w.tunnels.learned (w.tunnels.attempts a)) x) e.0 in
    let g = both (eqb (w.tunnels.learned x) (w.tunnels.attempts a)) (is_new w.tunnels.drawn c) e.1 in
    (d.0, named (w.tunnels.attempts a) f.0, same (w.tunnels.learned (w.tunnels.attempts a)) x f.1, same (w.tunnels.learned x) (w.tunnels.attempts a) g.0, new_tells w.tunnels.drawn c g.1)

pub attempting_tells : (w : World) (x c : ℕ) → may_reset_attempting w x c ≡ true → (w.tunnels.phase x ≡ Attempts (w.tunnels.answered c)) × (w.tunnels.answers c ≢ 0)
unfolding may_reset_attempting
attempting_tells w x c h = let g = both (attempts_by (w.tunnels.phase x) (w.tunnels.answered c)) (ltb 0 (w.tunnels.answers c)) h in (attempts_phase (w.tunnels.phase x) (w.tunnels.answered c) g.0, named (w.tunnels.answers c) g.1)

pub answering_tells : (w : World) (x c : ℕ) → may_reset_answering w x c ≡ true → (w.tunnels.phase x ≡ Answers c) × (w.tunnels.confirmed c ≡ true)
unfolding may_reset_answering
answering_tells w x c h = let g = both (answers_by (w.tunnels.phase x) c) (w.tunnels.confirmed c) h in (answers_phase (w.tunnels.phase x) c g.0, g.1)

restore_tells : (w : World) (x a : ℕ) → may_restore w x a ≡ true → (w.tunnels.booked x ≡ true) × (w.tunnels.phase x ≡ Gone) × IsNew w.tunnels.drawn a
unfolding may_restore
restore_tells w x a h =
    let d = both (w.tunnels.booked x && not (is_live (w.tunnels.phase x))) (w.tunnels.up (w.tunnels.node x) && is_new w.tunnels.drawn a) h in
    let e = both (w.tunnels.booked x) (not (is_live (w.tunnels.phase x))) d.0 in
    let f = both (w.tunnels.up (w.tunnels.node x)) (is_new w.tunnels.drawn a) d.1 in
    (e.0, gone_phase (w.tunnels.phase x) (turned (is_live (w.tunnels.phase x)) e.1), new_tells w.tunnels.drawn a f.1)

-- each move is one of these
pub step_did : (r : Rules) (w : World) (m : Move) → Did r w (step r w m)
unfolding step
step_did r w (Opens n m x) = chosen (Did r w) (may_open w n x) _ _ (λ h. did_open n m x (open_tells w n x h)) (λ h. idle)
step_did r w (Accepts s x) = chosen (Did r w) (may_accept w s x) _ _ (λ h. let t = accept_tells w s x h in did_accept s x t.0 t.1 t.2) (λ h. idle)
step_did r w (Refuses s) = chosen (Did r w) (w.tunnels.opener s) _ _ (λ h. did_refuse s h) (λ h. idle)
step_did r w (TakesRefusal x) = chosen (Did r w) (may_take_refusal w x) _ _ (λ h. let t = refusal_tells w x h in did_take_refusal x t.0 t.1) (λ h. idle)
step_did r w (Delivers x s e k z) = delivers_did r w x s e k z _ refl
step_did r w (SaysHello x) = chosen (Did r w) (is_open (w.tunnels.phase x)) _ _ (λ h. did_hello x (open_phase (w.tunnels.phase x) h)) (λ h. idle)
step_did r w (Closes x) = chosen (Did r w) (is_active (w.tunnels.phase x)) _ _ (λ h. did_close x h) (λ h. idle)
step_did r w (Clears x) = chosen (Did r w) (may_clear w x) _ _ (λ h. did_clear x) (λ h. idle)
step_did r w (AddsCall x z) = chosen (Did r w) (may_add w x z) _ _ (λ h. let t = add_tells w x z h in did_add x z t.0 t.1) (λ h. idle)
step_did r w (Asks z) = chosen (Did r w) (may_ask w z) _ _ (λ h. let t = ask_tells w z h in did_ask z t.0 t.1) (λ h. idle)
step_did r w (EndsTold z) = chosen (Did r w) (may_end_told w z) _ _ (λ h. let t = told_tells w z h in did_end_told z t.0 t.1 t.2) (λ h. idle)
step_did r w (EndsSilent z) = chosen (Did r w) (may_end_silent w z) _ _ (λ h. let t = silent_tells w z h in did_end_silent z t.0 t.1) (λ h. idle)
step_did r w (Queries x z) = chosen (Did r w) (may_query w x z) _ _ (λ h. let t = query_tells w x z h in did_query x z t.0 t.1) (λ h. idle)
step_did r w (Freezes x a c own theirs) = chosen (Did r w) (may_freeze w x a c) _ _ (λ h. let t = freeze_tells w x a c h in did_freeze x a c own theirs t.0 t.1 t.2 t.3 t.4) (λ h. idle)
step_did r w (ResetsAttempting x c) = chosen (Did r w) (may_reset_attempting w x c) _ _ (λ h. let t = attempting_tells w x c h in did_reset_attempting x c t.0 t.1) (λ h. idle)
step_did r w (ResetsAnswering x c) = chosen (Did r w) (may_reset_answering w x c) _ _ (λ h. let t = answering_tells w x c h in did_reset_answering x c t.0 t.1) (λ h. idle)
step_did r w (Restores x a) = chosen (Did r w) (may_restore w x a) _ _ (λ h. let t = restore_tells w x a h in did_restore x a t.0 t.1 t.2) (λ h. idle)
step_did r w (Stops n ks) = did_stop n ks
step_did r w (Starts n) = did_start n
