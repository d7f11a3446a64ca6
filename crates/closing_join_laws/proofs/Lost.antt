-- Each move keeps it that an opener that gave a StopCCN before it had taken its SCCRP has learned none.
use Rattle.std.proofs.Common.{◌≡◌, ◌⊎◌, ⊎_elim, ℕ, Bool, true, false, List, [], ◌∷◌, ◌++◌, length, refl, sym, ap, ◌∙◌, subst, arith}
use Rattle.std.proofs.lemmas.Bool.{true≢false}
use Rattle.std.proofs.lemmas.Option.{slice_get_within}
use Rattle.epoch_machine.specs.Letters.{Letter, Sccrq, Sccrp, Scccn, StopCcn, Hello, Request, Reply, Connect, Cdn}
use Rattle.epoch_machine.specs.Tunnels.{Tunnels, WaitReply, WaitConnect, Closed, is_active, opened, accepted, established_with, established, left, restored, frozen, confirms, is_confirmed, goes_down, comes_up, keeps_up, keeps_down}
use Rattle.epoch_machine.specs.Channels.{Channels, Stands, puts, counts, refuses}
use Rattle.epoch_machine.specs.Worlds.{World, all_rules, empty_world, gives, took_one, leaves, connects, is_connected, takes_cdn, answers_query, takes_answer}
use Rattle.epoch_machine.specs.Moves.{Move, Kept, TunnelDown, keeps, keeps_all, falls, step, goes_on, opens, accepts, adds_call, asks_for, ends_call, ends_told, queries, freezes, resets_attempting, resets_answering, restores}
use Rattle.epoch_machine.proofs.Splits.{chosen}
use Rattle.epoch_machine.proofs.Tells.{active_phase}
use Rattle.epoch_machine.proofs.Places.{Put, put_or_before}
use Rattle.epoch_machine.proofs.Did.{Did, idle, did_open, did_accept, did_refuse, did_take_refusal, did_take, did_take_stop, did_connect, did_confirm, did_reply, did_decline, did_first_up, did_second_up, did_hear, did_answer, did_learn, did_hello, did_close, did_clear, did_add, did_ask, did_end_told, did_end_silent, did_query, did_freeze, did_reset_attempting, did_reset_answering, did_restore, did_stop, did_start, step_did}
use Rattle.epoch_machine.proofs.Stops.{Amid, amid_first, UpTells, all_kept}
use Rattle.epoch_laws.specs.Epochs.{EpochsHold, EpochsOfRuns}
use Rattle.letter_laws.specs.Letters.{LettersHold, LettersOfRuns}
use Rattle.session_laws.proofs.Names.{assign_there}
use Rattle.session_laws.proofs.Ground.{run_on}
use Rattle.closing_join_laws.specs.Lost.{LostLearnNone, LostOfRuns}

abbrev Lost : World → Type 0
Lost v = LostLearnNone v.tunnels v.channels

-- another letter is put
puts_lost : (t : Tunnels) (c : Channels) (x e : ℕ) (l : Letter) → (l ≡ StopCcn → ⊥) → LostLearnNone t c → LostLearnNone t (puts c x e l)
puts_lost t c x e l other lost y o st = ⊎_elim
    (λ before. lost y o before)
    (λ (p : Put c x e l y 0 1 StopCcn). absurd (other (sym p.letter)))
    (put_or_before c x e l y 0 1 StopCcn st)

counted : (c : Channels) (x e y : ℕ) → Stands (counts c x e) y 0 1 StopCcn → Stands c y 0 1 StopCcn
unfolding counts
counted c x e y st = st

counts_lost : (t : Tunnels) (c : Channels) (x e : ℕ) → LostLearnNone t c → LostLearnNone t (counts c x e)
unfolding counts
counts_lost t c x e lost = lost

module _ (w : World) (ep : EpochsHold w.tunnels) (ok : LettersHold w.tunnels w.channels) (lost : Lost w) where
  -- a name that is new gave nothing
  gave_none : (x y : ℕ) → w.tunnels.drawn x ≡ false → Stands w.channels y 0 1 StopCcn → y ≡ x → ⊥
  gave_none x y new st same = true≢false (sym (ok.given_drawn y 0 1 StopCcn st) ∙ (ap w.tunnels.drawn same ∙ new))

  opened_lost : (n m x : ℕ) → w.tunnels.drawn x ≡ false → Lost (opens w n m x)
  unfolding opens gives opened
  opened_lost n m x new y o st = ⊎_elim
      (λ (before : Stands w.channels y 0 1 StopCcn).
      lost y (sym (assign_there w.tunnels.opener x true y (gave_none x y new before)) ∙ o) before)
      (λ (p : Put w.channels x (w.tunnels.entered x) Sccrq y 0 1 StopCcn). let no = p.letter in absurd cc)
      (put_or_before w.channels x (w.tunnels.entered x) Sccrq y 0 1 StopCcn st)

  accepted_lost : (s x : ℕ) → w.tunnels.drawn x ≡ false → Lost (accepts w s x)
  unfolding accepts gives took_one counts accepted
  accepted_lost s x new y o st = ⊎_elim
      (λ (before : Stands w.channels y 0 1 StopCcn).
      assign_there w.tunnels.learned x s y (gave_none x y new before) ∙ lost y o before)
      (λ (p : Put w.channels x (w.tunnels.entered x) Sccrp y 0 1 StopCcn). let no = p.letter in absurd cc)
      (put_or_before w.channels x (w.tunnels.entered x) Sccrp y 0 1 StopCcn st)

  -- one that waits for its SCCRP gave one letter
  one_given : (x y : ℕ) → w.tunnels.phase x ≡ WaitReply → Stands w.channels y 0 1 StopCcn → y ≡ x → ⊥
  one_given x y p st same =
      let one = (ok.waits_reply x p).1 in
      let within = slice_get_within (w.channels.sent y 0) 1 StopCcn st in
      let this = ap (λ f. length (w.channels.sent f 0)) same in
      omega (arith, one, within, this)

  connected_lost : (x s : ℕ) → w.tunnels.phase x ≡ WaitReply → Lost (connects (took_one w x) x s)
  unfolding connects gives took_one established_with
  connected_lost x s p y o st = ⊎_elim
      (λ (st : Stands (counts w.channels x (w.tunnels.entered x)) y 0 1 StopCcn).
      let before = counted w.channels x (w.tunnels.entered x) y st in
      assign_there w.tunnels.learned x s y (one_given x y p before) ∙ lost y o before)
      (λ (q : Put (counts w.channels x (w.tunnels.entered x)) x (w.tunnels.entered x) Scccn y 0 1 StopCcn). let no = q.letter in absurd cc)
      (put_or_before (counts w.channels x (w.tunnels.entered x)) x (w.tunnels.entered x) Scccn y 0 1 StopCcn st)

  -- one that closes has learned none, or gave its SCCCN before
  closed_lost : (x : ℕ) → is_active (w.tunnels.phase x) ≡ true → Lost (leaves (gives w x StopCcn) x Closed)
  unfolding leaves left gives
  closed_lost x a y o st = ⊎_elim
      (λ (before : Stands w.channels y 0 1 StopCcn). lost y o before)
      (λ (p : Put w.channels x (w.tunnels.entered x) StopCcn y 0 1 StopCcn).
      subst (λ f. w.tunnels.learned f ≡ 0) (sym p.tunnel)
      (by (sym p.epoch) (subst (λ f. w.tunnels.opener f ≡ true) p.tunnel o)
      (p.place ∙ ap (λ f. length (w.channels.sent x f)) (sym p.epoch))))
      (put_or_before w.channels x (w.tunnels.entered x) StopCcn y 0 1 StopCcn st)
    where
      by : w.tunnels.entered x ≡ 0 → w.tunnels.opener x ≡ true → 1 ≡ length (w.channels.sent x 0) → w.tunnels.learned x ≡ 0
      by first opener one = ⊎_elim
          (λ p. (ep.waits_reply x p).1)
          (λ q. ⊎_elim
          (λ p. absurd (true≢false (sym opener ∙ (ep.waits_connect x p).0)))
          (λ p. (let more = (ok.open_given x p first).1 opener in absurd (omega (arith, more, one))))
          q)
          (active_phase (w.tunnels.phase x) a)

  -- a record that a stop keeps is of a tunnel that waits
  stopped_lost : (n : ℕ) (ks : List Kept) → Lost (falls (keeps_all w n ks w) n)
  unfolding falls goes_down keeps keeps_up keeps_down
  stopped_lost n ks = (all_kept Amidst w n (record {
    up = up_lost;
    down = λ v x p amid at. down_lost v x p;
    call = λ v z own k p amid may live. p;
    ended = λ v z p amid may. p;
  }) ks w (lost, refl) (amid_first w)).0
    where
      Amidst : World → Type 0
      Amidst v = Lost v × (v.channels ≡ w.channels)

      up_lost : (v : World) (x s : ℕ) → Amidst v → Amid w v → UpTells w n x s → (v.tunnels.learned x ≡ 0) ⊎ (v.tunnels.learned x ≡ s)
          → Amidst (record v { tunnels = keeps_up v.tunnels x s })
      up_lost v x s p amid up known = (
        λ y o st. (let before : Stands w.channels y 0 1 StopCcn = subst (λ c. Stands c y 0 1 StopCcn) p.1 st in
            assign_there v.tunnels.learned x s y (λ same. ⊎_elim
            (λ (a : (w.tunnels.phase x ≡ WaitReply) × Stands w.channels s 0 0 Sccrp). one_given x y a.0 before same)
            (λ (a : (w.tunnels.phase x ≡ WaitConnect) × Stands w.channels s 0 1 Scccn).
            true≢false (sym (sym (ap w.tunnels.opener same) ∙ (sym (amid.opener y) ∙ o)) ∙ (ep.waits_connect x a.0).0))
            up.why)
            ∙ p.0 y o st),
        p.1,
      )

      down_lost : (v : World) (x : ℕ) → Amidst v → Amidst (keeps v (TunnelDown x))
      down_lost v x p = p

  told_lost : (z : ℕ) → Lost (ends_told all_rules w z)
  unfolding ends_told ends_call gives
  told_lost z = puts_lost w.tunnels w.channels (w.calls.tunnel z) (w.tunnels.entered (w.calls.tunnel z)) _ (λ no. absurd cc) lost

  learnt_lost : (x own z : ℕ) (here : Bool) → Lost (takes_answer (took_one w x) x own z here)
  unfolding takes_answer took_one
  learnt_lost x own z here = chosen Lost _ _ _
      (λ h. counts_lost w.tunnels w.channels x (w.tunnels.entered x) lost) (λ h. counts_lost w.tunnels w.channels x
      (w.tunnels.entered x) lost)

  -- what an open tunnel takes and answers
  answer_lost : (x : ℕ) (l : Letter) → (l ≡ StopCcn → ⊥)
      → LostLearnNone w.tunnels (puts (counts w.channels x (w.tunnels.entered x)) x (w.tunnels.entered x) l)
  answer_lost x l other =
      puts_lost w.tunnels (counts w.channels x (w.tunnels.entered x)) x (w.tunnels.entered x) l other
      (counts_lost w.tunnels w.channels x (w.tunnels.entered x) lost)

  took_lost : (x : ℕ) → LostLearnNone w.tunnels (counts w.channels x (w.tunnels.entered x))
  took_lost x = counts_lost w.tunnels w.channels x (w.tunnels.entered x) lost

did_lost : (w v : World) → Did all_rules w v → EpochsHold w.tunnels → LettersHold w.tunnels w.channels → Lost w → Lost v
unfolding gives took_one leaves left takes_cdn answers_query adds_call asks_for ends_call queries freezes frozen resets_attempting
    confirms resets_answering is_confirmed restores restored refuses is_connected established comes_up
did_lost w v idle ep ok lost = lost
did_lost w v (did_open n m x new) ep ok lost = opened_lost w ep ok lost n m x new.undrawn
did_lost w v (did_accept s x drawn opener new) ep ok lost = accepted_lost w ep ok lost s x new.undrawn
did_lost w v (did_refuse s h) ep ok lost = lost
did_lost w v (did_take_refusal x p t) ep ok lost = lost
did_lost w v (did_take x s e k l t i) ep ok lost = took_lost w ep ok lost x
did_lost w v (did_take_stop x s e k t) ep ok lost = lost
did_lost w v (did_connect x s e k t p l) ep ok lost = connected_lost w ep ok lost x s p
did_lost w v (did_confirm x s e k t p l) ep ok lost = took_lost w ep ok lost x
did_lost w v (did_reply x s e k own z t p l new) ep ok lost = answer_lost w ep ok lost x (Reply z own) (λ no. absurd cc)
did_lost w v (did_decline x s e k own t p l) ep ok lost = answer_lost w ep ok lost x (Cdn 0 own) (λ no. absurd cc)
did_lost w v (did_first_up x s e k own z t p l a b) ep ok lost = answer_lost w ep ok lost x (Connect own) (λ no. absurd cc)
did_lost w v (did_second_up x s e k z t p l a b) ep ok lost = took_lost w ep ok lost x
did_lost w v (did_hear x s e k own y t p l) ep ok lost = took_lost w ep ok lost x
did_lost w v (did_answer x s e k own y t p l) ep ok lost = answer_lost w ep ok lost x _ (λ no. absurd cc)
did_lost w v (did_learn x s e k own y here t p l) ep ok lost = learnt_lost w ep ok lost x own y here
did_lost w v (did_hello x p) ep ok lost = puts_lost w.tunnels w.channels x (w.tunnels.entered x) Hello (λ no. absurd cc) lost
did_lost w v (did_close x a) ep ok lost = closed_lost w ep ok lost x a
did_lost w v (did_clear x) ep ok lost = lost
did_lost w v (did_add x z p new) ep ok lost = lost
did_lost w v (did_ask z p a) ep ok lost =
    puts_lost w.tunnels w.channels (w.calls.tunnel z) (w.tunnels.entered (w.calls.tunnel z)) (Request z) (λ no. absurd cc) lost
did_lost w v (did_end_told z p a b) ep ok lost = told_lost w ep ok lost z
did_lost w v (did_end_silent z a b) ep ok lost = lost
did_lost w v (did_query x z p a) ep ok lost = puts_lost w.tunnels w.channels x (w.tunnels.entered x) _ (λ no. absurd cc) lost
did_lost w v (did_freeze x a c own theirs p n l f new) ep ok lost = lost
did_lost w v (did_reset_attempting x c p n) ep ok lost = lost
did_lost w v (did_reset_answering x c p n) ep ok lost = lost
did_lost w v (did_restore x a b p new) ep ok lost = lost
did_lost w v (did_stop n ks) ep ok lost = stopped_lost w ep ok lost n ks
did_lost w v (did_start n) ep ok lost = lost

-- ---- runs

module _ (epochs : EpochsOfRuns) (letters : LettersOfRuns) where
  -- from what a run led to, on
  go_on : (ms more : List Move) (w : World) → w ≡ goes_on all_rules empty_world ms → Lost w → Lost (goes_on all_rules w more)
  unfolding goes_on
  go_on ms [] w run lost = lost
  go_on ms (m ∷ more) w run lost =
      go_on (ms ++ m ∷ []) more (step all_rules w m)
      (ap (λ v. goes_on all_rules v (m ∷ [])) run ∙ sym (run_on all_rules empty_world ms (m ∷ [])))
      (did_lost w (step all_rules w m) (step_did all_rules w m)
      (subst (λ (v : World). EpochsHold v.tunnels) (sym run) (epochs.hold all_rules ms))
      (subst (λ (v : World). LettersHold v.tunnels v.channels) (sym run) (letters.hold ms)) lost)

  pub lost_of_runs : LostOfRuns
  unfolding goes_on
  lost_of_runs ms = go_on [] ms empty_world refl (λ y o st. absurd cc)
