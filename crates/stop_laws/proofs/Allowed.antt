-- Each record of a step may be kept by a stop.
use Rattle.std.proofs.Common.{◌≡◌, ◌≢◌, ◌⊎◌, inl, inr, ℕ, Bool, true, false, cond, eqb, ltb, not, ◌&&◌, ◌||◌, List, [], ◌∷◌, slice_get, Option, Some, None, refl, sym, ap, ◌∙◌, subst, arith}
use Rattle.std.proofs.lemmas.Bool.Decides.{nat_tests}
use Rattle.epoch_machine.specs.Letters.{Letter, Sccrp, Scccn, StopCcn, Reply, Connect, Cdn, Fsr}
use Rattle.epoch_machine.specs.Tunnels.{Gone, WaitReply, WaitConnect, Open, is_live, is_open, is_active, is_established, is_wait_reply, is_wait_connect}
use Rattle.epoch_machine.specs.Channels.{Channels, Stands}
use Rattle.epoch_machine.specs.Calls.{lives, is_up, waits, waits_reply, waits_connect, stands_with}
use Rattle.epoch_machine.specs.Worlds.{World, all_rules, is_sccrp, is_scccn, is_stop}
use Rattle.epoch_machine.specs.Moves.{Move, TakesRefusal, Delivers, Closes, Clears, EndsTold, EndsSilent, Stops, Kept, TunnelUp, TunnelDown, CallUp, CallDown, may_keep, may_take, may_take_refusal, may_clear, may_end_told, may_end_silent, is_there, is_reply, is_connect}
use Rattle.epoch_machine.proofs.Tells.{both, same, same_test, reply_phase, connect_phase, open_phase}
use Rattle.epoch_machine.proofs.Did.{Takes, take_tells, header, refusal_tells}
use Rattle.letter_laws.proofs.Begins.{not_entered}
use Rattle.letter_laws.proofs.Sources.{FromLearned, FromNew, FromUnchosen, source, unlinked_end}
use Rattle.birth_laws.proofs.Replies.{partner}
use Rattle.coverage_laws.proofs.Runs.{Whole}
use Rattle.stop_laws.specs.Records.{node_of, of_leaving, of_ending, of_call_letter, of_letter, of_delivery, records_of, each_allowed}
use Rattle.stop_laws.proofs.Lists.{all_of, kept_allowed}
use Rattle.stop_laws.proofs.Books.{active_live}

pub name_test : (k : ℕ) → k ≢ 0 → ltb 0 k ≡ true
name_test k h = grind (arith, nat_tests)

pub first : (a b : Bool) → a ≡ true → (a || b) ≡ true
first true b h = refl
first false b h = absurd cc

pub second : (a b : Bool) → b ≡ true → (a || b) ≡ true
second true b h = refl
second false b h = h

one_allowed : (w : World) (n : ℕ) (b : Bool) (k : Kept) → (b ≡ true → may_keep w n k ≡ true) → each_allowed w n (cond b (k ∷ []) []) ≡ true
unfolding each_allowed
one_allowed w n true k h = all_of (may_keep w n k) true (h refl) refl
one_allowed w n false k h = refl

-- records that are written where a test holds
tested : (w : World) (n : ℕ) (b : Bool) (ks : List Kept) → (b ≡ true → each_allowed w n ks ≡ true) → each_allowed w n (cond b ks []) ≡ true
unfolding each_allowed
tested w n true ks h = h refl
tested w n false ks h = refl

live_clears : (w : World) (x : ℕ) → is_live (w.tunnels.phase x) ≡ true → may_clear w x ≡ true
unfolding may_clear
live_clears w x live = first (is_live (w.tunnels.phase x)) (w.tunnels.booked x && w.tunnels.up (w.tunnels.node x)) live

leaving_allowed : (w : World) (x : ℕ) → may_clear w x ≡ true → each_allowed w (w.tunnels.node x) (of_leaving w x) ≡ true
unfolding may_keep
leaving_allowed w x may = one_allowed w (w.tunnels.node x) (is_established (w.tunnels.phase x) || w.tunnels.booked x) (TunnelDown x) (λ b. all_of (eqb (w.tunnels.node x) (w.tunnels.node x)) (may_clear w x) (same_test (w.tunnels.node x) (w.tunnels.node x) refl) may)

ending_allowed : (w : World) (n z : ℕ) → w.tunnels.node (w.calls.tunnel z) ≡ n → (w.calls.booked z ≡ true → lives (w.calls.state z) ≡ true) → each_allowed w n (of_ending w z) ≡ true
unfolding may_keep
ending_allowed w n z at alive = one_allowed w n (w.calls.booked z) (CallDown z) (λ b. all_of (eqb (w.tunnels.node (w.calls.tunnel z)) n) (lives (w.calls.state z)) (same_test (w.tunnels.node (w.calls.tunnel z)) n at) (alive b))

module _ (w : World) (h : Whole w) where
  -- a letter that is no StopCCN is of the taker's epoch
  its_epoch : (x s e k : ℕ) (l : Letter) → Takes all_rules w x s e k l → is_stop l ≡ false → e ≡ w.tunnels.entered x
  its_epoch x s e k l t n = by (source all_rules w x s e k l refl h.sound.epochs h.sound.given t)
    where
      by : FromLearned w x s e ⊎ (FromNew w x s e l ⊎ FromUnchosen w x s e l) → e ≡ w.tunnels.entered x
      by (inl a) = a.epoch
      by (inr (inl a)) = a.epoch
      by (inr (inr a)) = absurd (let b : is_stop l ≡ true = ap is_stop a.letter in cc)

  -- a letter that a waiting tunnel takes is of epoch 0, at the place of those that it took, in whichever lists it stands
  waiting_stands : (x s e k j : ℕ) (l : Letter) → Takes all_rules w x s e k l → is_stop l ≡ false → w.tunnels.entered x ≡ 0 → w.channels.taken x 0 ≡ j → (c : Channels) → Stands c s e k l → Stands c s 0 j l
  waiting_stands x s e k j l t n x0 took c st = subst (λ (q : ℕ). Stands c s 0 q l) (t.next ∙ ap (λ (q : ℕ). w.channels.taken x q) x0 ∙ took) (subst (λ (q : ℕ). Stands c s q k l) (its_epoch x s e k l t n ∙ x0) st)

  pub reply_stands : (x s e k : ℕ) → Takes all_rules w x s e k Sccrp → w.tunnels.phase x ≡ WaitReply → (c : Channels) → Stands c s e k Sccrp → Stands c s 0 0 Sccrp
  reply_stands x s e k t p = waiting_stands x s e k 0 Sccrp t refl (unlinked_end w.tunnels x h.sound.epochs (λ l. l.to_name (h.sound.epochs.waits_reply x p).1)) (h.sound.given.waits_reply x p).0

  pub connect_stands : (x s e k : ℕ) → Takes all_rules w x s e k Scccn → w.tunnels.phase x ≡ WaitConnect → (c : Channels) → Stands c s e k Scccn → Stands c s 0 1 Scccn
  connect_stands x s e k t p = waiting_stands x s e k 1 Scccn t refl (not_entered w.tunnels x h.sound.epochs (h.sound.epochs.waits_connect x p).1) (h.sound.given.waits_connect x p).0

  connect_allowed : (x s e k : ℕ) → Takes all_rules w x s e k Sccrp → w.tunnels.phase x ≡ WaitReply → may_keep w (w.tunnels.node x) (TunnelUp x s) ≡ true
  unfolding may_keep
  connect_allowed x s e k t p =
      all_of (eqb (w.tunnels.node x) (w.tunnels.node x)) _ (same_test (w.tunnels.node x) (w.tunnels.node x) refl)
      (all_of (ltb 0 s && eqb (w.tunnels.learned s) x) _ (all_of (ltb 0 s) (eqb (w.tunnels.learned s) x) (name_test s t.sender) (same_test (w.tunnels.learned s) x (header w.tunnels s x Sccrp t.way refl)))
      (first (is_wait_reply (w.tunnels.phase x) && is_there is_sccrp (slice_get (w.channels.sent s 0) 0)) (is_wait_connect (w.tunnels.phase x) && is_there is_scccn (slice_get (w.channels.sent s 0) 1))
      (all_of (is_wait_reply (w.tunnels.phase x)) (is_there is_sccrp (slice_get (w.channels.sent s 0) 0)) (ap is_wait_reply p) (ap (is_there is_sccrp) (reply_stands x s e k t p w.channels t.stands)))))

  confirm_allowed : (x s e k : ℕ) → Takes all_rules w x s e k Scccn → w.tunnels.phase x ≡ WaitConnect → may_keep w (w.tunnels.node x) (TunnelUp x s) ≡ true
  unfolding may_keep
  confirm_allowed x s e k t p =
      all_of (eqb (w.tunnels.node x) (w.tunnels.node x)) _ (same_test (w.tunnels.node x) (w.tunnels.node x) refl)
      (all_of (ltb 0 s && eqb (w.tunnels.learned s) x) _ (all_of (ltb 0 s) (eqb (w.tunnels.learned s) x) (name_test s t.sender) (same_test (w.tunnels.learned s) x (header w.tunnels s x Scccn t.way refl)))
      (second (is_wait_reply (w.tunnels.phase x) && is_there is_sccrp (slice_get (w.channels.sent s 0) 0)) (is_wait_connect (w.tunnels.phase x) && is_there is_scccn (slice_get (w.channels.sent s 0) 1))
      (all_of (is_wait_connect (w.tunnels.phase x)) (is_there is_scccn (slice_get (w.channels.sent s 0) 1)) (ap is_wait_connect p) (ap (is_there is_scccn) (connect_stands x s e k t p w.channels t.stands)))))

  -- a letter about calls is of the end that the open tunnel learned, in whichever lists it stands
  pub partner_stands : (x s e k y : ℕ) (l : Letter) → Takes all_rules w x s e k l → is_stop l ≡ false → w.tunnels.phase x ≡ Open → w.calls.tunnel y ≡ x → (c : Channels) → Stands c s e k l → Stands c (w.tunnels.learned (w.calls.tunnel y)) (w.tunnels.entered (w.calls.tunnel y)) k l
  partner_stands x s e k y l t n p at c st =
      let from = partner all_rules w x s e k l refl h.sound.epochs h.sound.given t p n in
      subst (λ (q : ℕ). Stands c (w.tunnels.learned q) (w.tunnels.entered q) k l) (sym at) (subst (λ (q : ℕ). Stands c q (w.tunnels.entered x) k l) (sym from.linked.back) (subst (λ (q : ℕ). Stands c s q k l) from.epoch st))

  reply_test : (a b : ℕ) → (eqb a a && eqb b b) ≡ true
  reply_test a b = all_of (eqb a a) (eqb b b) (same_test a a refl) (same_test b b refl)

  first_allowed : (x s e k own y : ℕ) → Takes all_rules w x s e k (Reply own y) → w.tunnels.phase x ≡ Open → w.calls.tunnel y ≡ x → waits_reply (w.calls.state y) ≡ true → may_keep w (w.tunnels.node x) (CallUp y own k) ≡ true
  unfolding may_keep
  first_allowed x s e k own y t p at waiting =
      all_of (eqb (w.tunnels.node (w.calls.tunnel y)) (w.tunnels.node x)) _ (same_test (w.tunnels.node (w.calls.tunnel y)) (w.tunnels.node x) (ap w.tunnels.node at))
      (all_of (is_open (w.tunnels.phase (w.calls.tunnel y))) _ (ap is_open (ap w.tunnels.phase at ∙ p))
      (first (waits_reply (w.calls.state y) && is_there (is_reply own y) there) (waits_connect (w.calls.state y) && (eqb (w.calls.remote y) own && is_there (is_connect y) there))
      (all_of (waits_reply (w.calls.state y)) (is_there (is_reply own y) there) waiting (ap (is_there (is_reply own y)) (partner_stands x s e k y (Reply own y) t refl p at w.channels t.stands) ∙ reply_test own y))))
    where
      there : Option Letter
      there = slice_get (w.channels.sent (w.tunnels.learned (w.calls.tunnel y)) (w.tunnels.entered (w.calls.tunnel y))) k

  second_allowed : (x s e k y : ℕ) → Takes all_rules w x s e k (Connect y) → w.tunnels.phase x ≡ Open → w.calls.tunnel y ≡ x → waits_connect (w.calls.state y) ≡ true → may_keep w (w.tunnels.node x) (CallUp y (w.calls.remote y) k) ≡ true
  unfolding may_keep
  second_allowed x s e k y t p at waiting =
      all_of (eqb (w.tunnels.node (w.calls.tunnel y)) (w.tunnels.node x)) _ (same_test (w.tunnels.node (w.calls.tunnel y)) (w.tunnels.node x) (ap w.tunnels.node at))
      (all_of (is_open (w.tunnels.phase (w.calls.tunnel y))) _ (ap is_open (ap w.tunnels.phase at ∙ p))
      (second (waits_reply (w.calls.state y) && is_there (is_reply (w.calls.remote y) y) there) (waits_connect (w.calls.state y) && (eqb (w.calls.remote y) (w.calls.remote y) && is_there (is_connect y) there))
      (all_of (waits_connect (w.calls.state y)) (eqb (w.calls.remote y) (w.calls.remote y) && is_there (is_connect y) there) waiting (all_of (eqb (w.calls.remote y) (w.calls.remote y)) (is_there (is_connect y) there) (same_test (w.calls.remote y) (w.calls.remote y) refl) (ap (is_there (is_connect y)) (partner_stands x s e k y (Connect y) t refl p at w.channels t.stands) ∙ same_test y y refl)))))
    where
      there : Option Letter
      there = slice_get (w.channels.sent (w.tunnels.learned (w.calls.tunnel y)) (w.tunnels.entered (w.calls.tunnel y))) k

  -- a call in the book of an open tunnel lives
  booked_alive : (x z : ℕ) → w.tunnels.phase x ≡ Open → w.calls.tunnel z ≡ x → w.calls.booked z ≡ true → lives (w.calls.state z) ≡ true
  booked_alive x z p at b = ap lives (h.states.booked_lives z b (λ g. (let i : Gone ≡ Open = sym g ∙ ap w.tunnels.phase at ∙ p in cc)))

  call_letter_allowed : (x s e k : ℕ) (l : Letter) → Takes all_rules w x s e k l → w.tunnels.phase x ≡ Open → each_allowed w (w.tunnels.node x) (of_call_letter w x k l) ≡ true
  unfolding each_allowed
  call_letter_allowed x s e k (Reply own y) t p = one_allowed w (w.tunnels.node x) (eqb (w.calls.tunnel y) x && waits_reply (w.calls.state y)) (CallUp y own k) (λ b. let a = both (eqb (w.calls.tunnel y) x) (waits_reply (w.calls.state y)) b in first_allowed x s e k own y t p (same (w.calls.tunnel y) x a.0) a.1)
  call_letter_allowed x s e k (Connect y) t p = one_allowed w (w.tunnels.node x) (eqb (w.calls.tunnel y) x && waits_connect (w.calls.state y)) (CallUp y (w.calls.remote y) k) (λ b. let a = both (eqb (w.calls.tunnel y) x) (waits_connect (w.calls.state y)) b in second_allowed x s e k y t p (same (w.calls.tunnel y) x a.0) a.1)
  call_letter_allowed x s e k (Cdn own y) t p = tested w (w.tunnels.node x) (ltb 0 y && eqb (w.calls.tunnel y) x) (of_ending w y) (λ b. let at = same (w.calls.tunnel y) x (both (ltb 0 y) (eqb (w.calls.tunnel y) x) b).1 in ending_allowed w (w.tunnels.node x) y (ap w.tunnels.node at) (booked_alive x y p at))
  call_letter_allowed x s e k (Fsr own y here) t p = tested w (w.tunnels.node x) (not here && stands_with w.calls x y own) (of_ending w y) (λ b. let at = same (w.calls.tunnel y) x (both (eqb (w.calls.tunnel y) x) (is_up (w.calls.state y) && eqb (w.calls.remote y) own) (both (not here) (stands_with w.calls x y own) b).1).0 in ending_allowed w (w.tunnels.node x) y (ap w.tunnels.node at) (booked_alive x y p at))
  call_letter_allowed x s e k l t p = refl

  letter_allowed : (x s e k : ℕ) (l : Letter) → Takes all_rules w x s e k l → each_allowed w (w.tunnels.node x) (of_letter w x s k l) ≡ true
  letter_allowed x s e k StopCcn t = leaving_allowed w x (live_clears w x (active_live (w.tunnels.phase x) t.active))
  letter_allowed x s e k Sccrp t = one_allowed w (w.tunnels.node x) (is_wait_reply (w.tunnels.phase x)) (TunnelUp x s) (λ b. connect_allowed x s e k t (reply_phase (w.tunnels.phase x) b))
  letter_allowed x s e k Scccn t = one_allowed w (w.tunnels.node x) (is_wait_connect (w.tunnels.phase x)) (TunnelUp x s) (λ b. confirm_allowed x s e k t (connect_phase (w.tunnels.phase x) b))
  letter_allowed x s e k l t = tested w (w.tunnels.node x) (is_open (w.tunnels.phase x)) (of_call_letter w x k l) (λ b. call_letter_allowed x s e k l t (open_phase (w.tunnels.phase x) b))

  delivery_allowed : (x s e k : ℕ) (o : Option Letter) → slice_get (w.channels.sent s e) k ≡ o → each_allowed w (w.tunnels.node x) (of_delivery w x s e k o) ≡ true
  unfolding of_delivery each_allowed
  delivery_allowed x s e k None is = refl
  delivery_allowed x s e k (Some l) is = tested w (w.tunnels.node x) (may_take all_rules w x s e k l) (of_letter w x s k l) (λ b. letter_allowed x s e k l (take_tells all_rules w x s e k l b is))

  told_alive : (z : ℕ) → may_end_told w z ≡ true → lives (w.calls.state z) ≡ true
  unfolding may_end_told
  told_alive z b = (both (lives (w.calls.state z)) (not (waits (w.calls.state z))) (both (is_open (w.tunnels.phase (w.calls.tunnel z))) (lives (w.calls.state z) && not (waits (w.calls.state z))) b).1).0

  silent_alive : (z : ℕ) → may_end_silent w z ≡ true → lives (w.calls.state z) ≡ true
  unfolding may_end_silent
  silent_alive z b = (both (lives (w.calls.state z)) (not (is_active (w.tunnels.phase (w.calls.tunnel z))) || waits (w.calls.state z)) b).0

  pub step_allowed : (m : Move) → each_allowed w (node_of w m) (records_of w m) ≡ true
  unfolding node_of records_of each_allowed
  step_allowed (TakesRefusal x) = tested w (w.tunnels.node x) (may_take_refusal w x) (of_leaving w x) (λ b. leaving_allowed w x (live_clears w x (ap is_live (refusal_tells w x b).0)))
  step_allowed (Delivers x s e k z) = delivery_allowed x s e k (slice_get (w.channels.sent s e) k) refl
  step_allowed (Closes x) = tested w (w.tunnels.node x) (is_active (w.tunnels.phase x)) (of_leaving w x) (λ b. leaving_allowed w x (live_clears w x (active_live (w.tunnels.phase x) b)))
  step_allowed (Clears x) = tested w (w.tunnels.node x) (may_clear w x) (of_leaving w x) (λ b. leaving_allowed w x b)
  step_allowed (EndsTold z) = tested w (w.tunnels.node (w.calls.tunnel z)) (may_end_told w z) (of_ending w z) (λ b. ending_allowed w (w.tunnels.node (w.calls.tunnel z)) z refl (λ i. told_alive z b))
  step_allowed (EndsSilent z) = tested w (w.tunnels.node (w.calls.tunnel z)) (may_end_silent w z) (of_ending w z) (λ b. ending_allowed w (w.tunnels.node (w.calls.tunnel z)) z refl (λ i. silent_alive z b))
  step_allowed (Stops k ks) = kept_allowed w k ks
  step_allowed m = refl
