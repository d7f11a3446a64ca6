-- Each move keeps what holds of births.
use Rattle.std.proofs.Common.{◌≡◌, ◌≢◌, ◌⊎◌, inl, inr, ℕ, true, false, Some, None, refl, sym, ◌∙◌, subst, arith}
use Rattle.std.proofs.lemmas.Bool.Decides.{nat_tests}
use Rattle.epoch_machine.specs.Letters.{Sccrq, Sccrp, Scccn, StopCcn, Hello, Request, Cdn, Fsq}
use Rattle.epoch_machine.specs.Tunnels.{Tunnels, Phase, Gone, WaitReply, Open, Closed, Attempts, Answers, left, opened, accepted, established_with, established, restored, frozen, confirms, is_confirmed, comes_up}
use Rattle.epoch_machine.specs.Channels.{refuses}
use Rattle.epoch_machine.specs.Calls.{Calls, Waits, lives, ends, comes_back, is_born, is_asked_for, of_tunnel, is_call, is_named, unfinished}
use Rattle.epoch_machine.specs.Worlds.{World, Rules, gives, took_one, leaves, connects, is_connected, takes_cdn}
use Rattle.epoch_machine.specs.Moves.{opens, accepts, adds_call, asks_for, ends_call, ends_told, queries, freezes, resets_attempting, resets_answering, restores}
use Rattle.epoch_machine.proofs.Splits.{chosen, assigned_now, assigned_else}
use Rattle.epoch_machine.proofs.Tells.{same_test}
use Rattle.epoch_machine.proofs.Did.{Did, idle, did_open, did_accept, did_refuse, did_take_refusal, did_take, did_take_stop, did_connect, did_confirm, did_reply, did_decline, did_first_up, did_second_up, did_hear, did_answer, did_learn, did_hello, did_close, did_clear, did_add, did_ask, did_end_told, did_end_silent, did_query, did_freeze, did_reset_attempting, did_reset_answering, did_restore, did_stop, did_start}
use Rattle.epoch_laws.specs.Epochs.{EpochsHold}
use Rattle.epoch_laws.proofs.Growth.{TunnelsGrow}
use Rattle.letter_laws.specs.Letters.{LettersHold}
use Rattle.letter_laws.proofs.Steps.{higher_attempting}
use Rattle.birth_laws.specs.Births.{CallsHold, LettersMean}
use Rattle.birth_laws.proofs.Growths.{idle_grows, took_grows, gave_grows, answered_grows, accepted_grows, refused_grows}
use Rattle.birth_laws.proofs.Growing.{same_calls, comes_back_grow, is_born_grow, is_asked_for_grow}
use Rattle.birth_laws.proofs.Tunnels.{tunnels_ok}
use Rattle.birth_laws.proofs.Endings.{comes_back_ok}
use Rattle.birth_laws.proofs.Makings.{is_born_ok, is_asked_for_ok}
use Rattle.birth_laws.proofs.Steps.{Goes, goes, quiet, says, says_ended, resets_goes, reply_goes, decline_goes, first_goes, second_goes, answer_goes, learn_goes, live_drawn, name_of, lives_here}
use Rattle.birth_laws.proofs.Stops.{stop_goes}

still_drawn : (c : Calls) (z : ℕ) → c.drawn z ≡ true → (ends c (is_call z)).drawn z ≡ true
unfolding ends
still_drawn c z h = h

refl_tunnel : (c : Calls) (z : ℕ) → (ends c (is_call z)).tunnel z ≡ c.tunnel z
unfolding ends
refl_tunnel c z = refl

over_now : (c : Calls) (z : ℕ) → lives (c.state z) ≡ true → (ends c (is_call z)).over z ≡ true
unfolding ends
over_now c z alive = rw (same_test z z refl, alive) refl

-- a CDN names the other end's call, or 0 where it isn't known
name_known : (c : Calls) (z : ℕ) → (c.remote z ≡ 0) ⊎ ((ends c (is_call z)).remote z ≡ c.remote z)
unfolding ends
name_known c z = inr refl

module _ (r : Rules) (w : World) (reads : r.reads_epochs ≡ true) (ep : EpochsHold w.tunnels) (lh : LettersHold w.tunnels w.channels) (ch : CallsHold w.tunnels w.calls) (lm : LettersMean w.tunnels w.channels w.calls) where
  abbrev GoesTo : World → Type 0
  GoesTo v = Goes w.calls v.tunnels v.channels v.calls

  abbrev Grows : World → Type 0
  Grows v = TunnelsGrow w.tunnels v.tunnels

  same_grows : Grows w
  same_grows = record { drawn = λ x h. h; opener = λ x h. refl; learned = λ x h. refl; entered = λ x. omega arith }

  open_goes : (n m x : ℕ) → Grows (opens w n m x) → GoesTo (opens w n m x)
  unfolding opens gives opened
  open_goes n m x g = says w.tunnels (opened w.tunnels n m x) w.channels _ w.calls x (w.tunnels.entered x) Sccrq g (gave_grows w.channels x (w.tunnels.entered x) Sccrq) ch lm tt (λ y f. absurd cc) (λ y f. absurd cc) (λ y. refl)

  accept_goes : (s x : ℕ) → Grows (accepts w s x) → GoesTo (accepts w s x)
  unfolding accepts gives took_one accepted
  accept_goes s x g = says w.tunnels (accepted w.tunnels s x) w.channels _ w.calls x (w.tunnels.entered x) Sccrp g (accepted_grows w.channels x (w.tunnels.entered x) Sccrp) ch lm tt (λ y f. absurd cc) (λ y f. absurd cc) (λ y. refl)

  refuse_goes : (s : ℕ) → GoesTo (record w { channels = refuses w.channels s })
  refuse_goes s = says w.tunnels w.tunnels w.channels (refuses w.channels s) w.calls 0 0 Hello same_grows (refused_grows w.channels s 0 0 Hello) ch lm tt (λ y f. absurd cc) (λ y f. absurd cc) (λ y. refl)

  leave_goes : (x : ℕ) (p : Phase) → Grows (leaves w x p) → GoesTo (leaves w x p)
  unfolding leaves left
  leave_goes x p g = says_ended w.tunnels (left w.tunnels x p) w.channels w.channels w.calls (of_tunnel w.calls x) 0 0 Hello g (idle_grows w.channels 0 0 Hello) ch lm tt (λ y f. absurd cc) (λ y f. absurd cc) (λ y. refl)

  take_goes : (x : ℕ) → GoesTo (took_one w x)
  unfolding took_one
  take_goes x = says w.tunnels w.tunnels w.channels _ w.calls x (w.tunnels.entered x) Hello same_grows (took_grows w.channels x (w.tunnels.entered x) Hello) ch lm tt (λ y f. absurd cc) (λ y f. absurd cc) (λ y. refl)

  connect_goes : (x s : ℕ) → Grows (connects (took_one w x) x s) → GoesTo (connects (took_one w x) x s)
  unfolding connects took_one gives established_with
  connect_goes x s g = says w.tunnels (established_with w.tunnels x s) w.channels _ w.calls x (w.tunnels.entered x) Scccn g (answered_grows w.channels x (w.tunnels.entered x) Scccn) ch lm tt (λ y f. absurd cc) (λ y f. absurd cc) (λ y. refl)

  confirm_goes : (x : ℕ) → Grows (is_connected (took_one w x) x) → GoesTo (is_connected (took_one w x) x)
  unfolding is_connected took_one established
  confirm_goes x g = says w.tunnels (established w.tunnels x) w.channels _ w.calls x (w.tunnels.entered x) Hello g (took_grows w.channels x (w.tunnels.entered x) Hello) ch lm tt (λ y f. absurd cc) (λ y f. absurd cc) (λ y. refl)

  hear_goes : (x own y : ℕ) → GoesTo (takes_cdn (took_one w x) x own y)
  unfolding takes_cdn took_one
  hear_goes x own y = says_ended w.tunnels w.tunnels w.channels _ w.calls (is_named w.calls x own y) x (w.tunnels.entered x) Hello same_grows (took_grows w.channels x (w.tunnels.entered x) Hello) ch lm tt (λ y f. absurd cc) (λ y f. absurd cc) (λ y. refl)

  hello_goes : (x : ℕ) → GoesTo (gives w x Hello)
  unfolding gives
  hello_goes x = says w.tunnels w.tunnels w.channels _ w.calls x (w.tunnels.entered x) Hello same_grows (gave_grows w.channels x (w.tunnels.entered x) Hello) ch lm tt (λ y f. absurd cc) (λ y f. absurd cc) (λ y. refl)

  close_goes : (x : ℕ) → Grows (leaves (gives w x StopCcn) x Closed) → GoesTo (leaves (gives w x StopCcn) x Closed)
  unfolding leaves gives left
  close_goes x g = says_ended w.tunnels (left w.tunnels x Closed) w.channels _ w.calls (of_tunnel w.calls x) x (w.tunnels.entered x) StopCcn g (gave_grows w.channels x (w.tunnels.entered x) StopCcn) ch lm tt (λ y f. absurd cc) (λ y f. absurd cc) (λ y. refl)

  add_goes : (x z : ℕ) → w.tunnels.drawn x ≡ true → w.calls.drawn z ≡ false → z ≢ 0 → GoesTo (adds_call w x z)
  unfolding adds_call is_born
  add_goes x z d new n = quiet w.tunnels w.tunnels w.channels w.channels w.calls (is_born w.calls x z) 0 0 Hello same_grows (is_born_grow w.tunnels w.calls x z ch new) (idle_grows w.channels 0 0 Hello) ch lm (is_born_ok w.tunnels w.calls x z ch new n d) tt (λ y f. absurd cc) (λ y f. absurd cc) (λ y. refl) lm.asks_held

  ask_goes : (z : ℕ) → w.calls.state z ≡ Waits → GoesTo (asks_for w z)
  unfolding asks_for gives is_asked_for
  ask_goes z waits =
      goes w.tunnels w.tunnels w.channels _ w.calls (is_asked_for w.calls z e) x e (Request z) same_grows (is_asked_for_grow w.tunnels w.calls z e ch waits) (gave_grows w.channels x e (Request z)) ch lm (is_asked_for_ok w.tunnels w.calls z e ch waits)
      record {
        means = (name_of w.tunnels w.calls z ch drawn, drawn, refl, assigned_now w.calls.made z (Some e), (ch.waits z waits).2, ch.tunnel_drawn z drawn);
        request = λ y f. (let same : z ≡ y = cc in subst (λ (q : ℕ). w.calls.made q ≡ None) same (ch.waits z waits).0);
        mates = λ y n. inl n;
        refusal = λ y f. absurd cc;
        unanswered = λ v f y a rf. rf.unanswered a;
        asks = lm.asks_held;
      }
    where
      x : ℕ
      x = w.calls.tunnel z

      e : ℕ
      e = w.tunnels.entered x

      drawn : w.calls.drawn z ≡ true
      drawn = live_drawn w.tunnels w.calls z ch (λ f. (let a = sym waits ∙ f in cc))

  told_goes : (z : ℕ) → lives (w.calls.state z) ≡ true → GoesTo (ends_told r w z)
  unfolding ends_told ends_call gives
  told_goes z alive = chosen GoesTo _ _ _
      (λ tells. says_ended w.tunnels w.tunnels w.channels _ w.calls (is_call z) x e (Cdn z (w.calls.remote z)) same_grows (gave_grows w.channels x e (Cdn z (w.calls.remote z))) ch lm (inr (name, drawn, refl_tunnel w.calls z, over_now w.calls z alive, name_known w.calls z)) (λ y f. absurd cc) (λ y f. absurd (name (cc))) (λ y. refl))
      (λ no. says_ended w.tunnels w.tunnels w.channels w.channels w.calls (is_call z) 0 0 Hello same_grows (idle_grows w.channels 0 0 Hello) ch lm tt (λ y f. absurd cc) (λ y f. absurd cc) (λ y. refl))
    where
      x : ℕ
      x = w.calls.tunnel z

      e : ℕ
      e = w.tunnels.entered x

      drawn_z : w.calls.drawn z ≡ true
      drawn_z = live_drawn w.tunnels w.calls z ch (lives_here (w.calls.state z) (w.calls.state z) refl alive)

      name : z ≢ 0
      name = name_of w.tunnels w.calls z ch drawn_z

      drawn : (ends w.calls (is_call z)).drawn z ≡ true
      drawn = still_drawn w.calls z drawn_z

  silent_goes : (z : ℕ) → GoesTo (ends_call w z)
  unfolding ends_call
  silent_goes z = says_ended w.tunnels w.tunnels w.channels w.channels w.calls (is_call z) 0 0 Hello same_grows (idle_grows w.channels 0 0 Hello) ch lm tt (λ y f. absurd cc) (λ y f. absurd cc) (λ y. refl)

  query_goes : (x z : ℕ) → w.calls.asks x z ≡ true → GoesTo (queries w x z)
  unfolding queries gives
  query_goes x z asked = says w.tunnels w.tunnels w.channels _ w.calls x (w.tunnels.entered x) (Fsq z _) same_grows (gave_grows w.channels x (w.tunnels.entered x) (Fsq z _)) ch lm (lm.asks_held x z asked, refl) (λ y f. absurd cc) (λ y f. absurd cc) (λ y. refl)

  freeze_goes : (x a c own theirs : ℕ) → Grows (freezes r w x a c own theirs) → GoesTo (freezes r w x a c own theirs)
  unfolding freezes frozen
  freeze_goes x a c own theirs g = chosen (λ (d : Calls). Goes w.calls (frozen w.tunnels x a c own theirs) w.channels d) _ _ _
      (λ rule. says_ended w.tunnels (frozen w.tunnels x a c own theirs) w.channels w.channels w.calls (unfinished w.calls x) 0 0 Hello g (idle_grows w.channels 0 0 Hello) ch lm tt (λ y f. absurd cc) (λ y f. absurd cc) (λ y. refl))
      (λ rule. says w.tunnels (frozen w.tunnels x a c own theirs) w.channels w.channels w.calls 0 0 Hello g (idle_grows w.channels 0 0 Hello) ch lm tt (λ y f. absurd cc) (λ y f. absurd cc) (λ y. refl))

  attempting_goes : (x c : ℕ) → w.tunnels.phase x ≡ Attempts (w.tunnels.answered c) → w.tunnels.answers c ≢ 0 → Grows (resets_attempting r w x c) → GoesTo (resets_attempting r w x c)
  unfolding resets_attempting confirms
  attempting_goes x c p n g = resets_goes w.tunnels (confirms w.tunnels x c) w.channels w.calls r.asks_after_resets x (w.tunnels.makes c) g ch lm (higher_attempting w.tunnels x c ep p n) (assigned_now w.tunnels.entered x (w.tunnels.makes c)) (λ y other. assigned_else w.tunnels.entered x (w.tunnels.makes c) y other)

  answering_goes : (x c : ℕ) → w.tunnels.phase x ≡ Answers c → Grows (resets_answering r w x c) → GoesTo (resets_answering r w x c)
  unfolding resets_answering is_confirmed
  answering_goes x c p g = resets_goes w.tunnels (is_confirmed w.tunnels x c) w.channels w.calls r.asks_after_resets x (w.tunnels.makes c) g ch lm (ep.answers_entered x c p) (assigned_now w.tunnels.entered x (w.tunnels.makes c)) (λ y other. assigned_else w.tunnels.entered x (w.tunnels.makes c) y other)

  restore_goes : (x a : ℕ) → Grows (restores w x a) → GoesTo (restores w x a)
  unfolding restores restored comes_back
  restore_goes x a g = quiet w.tunnels (restored w.tunnels x a) w.channels w.channels w.calls (comes_back w.calls x) 0 0 Hello g (comes_back_grow w.tunnels w.calls x ch) (idle_grows w.channels 0 0 Hello) ch lm (comes_back_ok (restored w.tunnels x a) w.calls x (tunnels_ok w.tunnels (restored w.tunnels x a) w.calls g ch)) tt (λ y f. absurd cc) (λ y f. absurd cc) (λ y. refl) lm.asks_held

  start_goes : (n : ℕ) → Grows (record w { tunnels = comes_up w.tunnels n }) → GoesTo (record w { tunnels = comes_up w.tunnels n })
  unfolding comes_up
  start_goes n g = says w.tunnels (comes_up w.tunnels n) w.channels w.channels w.calls 0 0 Hello g (idle_grows w.channels 0 0 Hello) ch lm tt (λ y f. absurd cc) (λ y f. absurd cc) (λ y. refl)

phase_drawn : (t : Tunnels) (x : ℕ) → EpochsHold t → (t.phase x ≡ Open) ⊎ (t.phase x ≡ WaitReply) → t.drawn x ≡ true
phase_drawn t x ep h = let n = ep.nameless x in grind (arith, nat_tests)

pub did_goes : (r : Rules) (w v : World) → r.reads_epochs ≡ true → Did r w v → EpochsHold w.tunnels → LettersHold w.tunnels w.channels → CallsHold w.tunnels w.calls → LettersMean w.tunnels w.channels w.calls → TunnelsGrow w.tunnels v.tunnels → Goes w.calls v.tunnels v.channels v.calls
did_goes r w v reads idle ep lh ch lm g = record { calls = ch; letters = lm; grow = same_calls w.calls }
did_goes r w v reads (did_open n m x new) ep lh ch lm g = open_goes r w reads ep lh ch lm n m x g
did_goes r w v reads (did_accept s x d o new) ep lh ch lm g = accept_goes r w reads ep lh ch lm s x g
did_goes r w v reads (did_refuse s o) ep lh ch lm g = refuse_goes r w reads ep lh ch lm s
did_goes r w v reads (did_take_refusal x p t) ep lh ch lm g = leave_goes r w reads ep lh ch lm x Closed g
did_goes r w v reads (did_take x s e k l t i) ep lh ch lm g = take_goes r w reads ep lh ch lm x
did_goes r w v reads (did_take_stop x s e k t) ep lh ch lm g = leave_goes r w reads ep lh ch lm x Closed g
did_goes r w v reads (did_connect x s e k t p l) ep lh ch lm g = connect_goes r w reads ep lh ch lm x s g
did_goes r w v reads (did_confirm x s e k t p l) ep lh ch lm g = confirm_goes r w reads ep lh ch lm x g
did_goes r w v reads (did_reply x s e k own z t p l new) ep lh ch lm g = reply_goes r w reads ep lh ch lm x s e k own z t p new.undrawn new.name
did_goes r w v reads (did_decline x s e k own t p l) ep lh ch lm g = decline_goes r w reads ep lh ch lm x s e k own t p
did_goes r w v reads (did_first_up x s e k own z t p l a b) ep lh ch lm g = first_goes r w reads ep lh ch lm x s e k own z t p a b
did_goes r w v reads (did_second_up x s e k z t p l a b) ep lh ch lm g = second_goes r w reads ep lh ch lm x z b
did_goes r w v reads (did_hear x s e k own y t p l) ep lh ch lm g = hear_goes r w reads ep lh ch lm x own y
did_goes r w v reads (did_answer x s e k own y t p l) ep lh ch lm g = answer_goes r w reads ep lh ch lm x s e k own y t p
did_goes r w v reads (did_learn x s e k own y here t p l) ep lh ch lm g = learn_goes r w reads ep lh ch lm x own y here
did_goes r w v reads (did_hello x p) ep lh ch lm g = hello_goes r w reads ep lh ch lm x
did_goes r w v reads (did_close x a) ep lh ch lm g = close_goes r w reads ep lh ch lm x g
did_goes r w v reads (did_clear x) ep lh ch lm g = leave_goes r w reads ep lh ch lm x Gone g
did_goes r w v reads (did_add x z p new) ep lh ch lm g = add_goes r w reads ep lh ch lm x z (phase_drawn w.tunnels x ep p) new.undrawn new.name
did_goes r w v reads (did_ask z p a) ep lh ch lm g = ask_goes r w reads ep lh ch lm z a
did_goes r w v reads (did_end_told z p a b) ep lh ch lm g = told_goes r w reads ep lh ch lm z a
did_goes r w v reads (did_end_silent z a b) ep lh ch lm g = silent_goes r w reads ep lh ch lm z
did_goes r w v reads (did_query x z p a) ep lh ch lm g = query_goes r w reads ep lh ch lm x z a
did_goes r w v reads (did_freeze x a c own theirs p n l f new) ep lh ch lm g = freeze_goes r w reads ep lh ch lm x a c own theirs g
did_goes r w v reads (did_reset_attempting x c p n) ep lh ch lm g = attempting_goes r w reads ep lh ch lm x c p n g
did_goes r w v reads (did_reset_answering x c p n) ep lh ch lm g = answering_goes r w reads ep lh ch lm x c p g
did_goes r w v reads (did_restore x a b p new) ep lh ch lm g = restore_goes r w reads ep lh ch lm x a g
did_goes r w v reads (did_stop n ks) ep lh ch lm g = stop_goes w n ch lm ks g
did_goes r w v reads (did_start n) ep lh ch lm g = start_goes r w reads ep lh ch lm n g
