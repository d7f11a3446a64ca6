-- A letter that is taken is the next one, in every run.
use Rattle.std.proofs.Common.{◌≡◌, ◌⊎◌, inl, inr, ⊎_elim, ℕ, ◌<◌, ◌≤◌, Bool, true, false, eqb, ◌&&◌, List, [], ◌∷◌, Some, refl, sym, ap, ◌∙◌, subst, arith}
use Rattle.std.proofs.lemmas.Bool.Decides.{nat_tests}
use Rattle.epoch_machine.specs.Letters.{Letter, Sccrp, StopCcn}
use Rattle.epoch_machine.specs.Tunnels.{Linked, WaitReply, WaitConnect, Open, Closed, left, established_with, is_wait_reply, is_active}
use Rattle.epoch_machine.specs.Channels.{Stands}
use Rattle.epoch_machine.specs.Worlds.{World, Rules, all_rules, empty_world, took_one, takes, leaves, connects, gives, is_stop}
use Rattle.epoch_machine.specs.Moves.{Move, Delivers, TakesRefusal, step, delivers, goes_on, may_take, may_take_refusal, reaches}
use Rattle.epoch_machine.proofs.Tells.{both, either, same, active_phase}
use Rattle.epoch_machine.proofs.Did.{step_did, take_tells, refusal_tells}
use Rattle.epoch_laws.specs.Epochs.{EpochsHold}
use Rattle.epoch_laws.proofs.Steps.{step_ok as epochs_step, empty_ok as epochs_empty, holds_after}
use Rattle.epoch_laws.proofs.Growth.{did_grow}
use Rattle.letter_laws.specs.Letters.{LettersHold, IsNextOf, ClosesOpener, TakesNext, LettersOfRuns}
use Rattle.letter_laws.proofs.Sources.{Source, source}
use Rattle.letter_laws.proofs.Steps.{did_ok}
use Rattle.letter_laws.proofs.Begins.{not_entered}

-- what a delivery does that the guard allows
delivered_is : (r : Rules) (w : World) (x s e k z : ℕ) (l : Letter) → Stands w.channels s e k l → may_take r w x s e k l ≡ true → step r w (Delivers x s e k z) ≡ delivers r w x s e k z (Some l)
unfolding step
delivered_is r w x s e k z l st may = ap (delivers r w x s e k z) st

stop_closes : (r : Rules) (w : World) (x s e k z : ℕ) → may_take r w x s e k StopCcn ≡ true → (delivers r w x s e k z (Some StopCcn)).tunnels.phase x ≡ Closed
unfolding delivers leaves left
stop_closes r w x s e k z may = grind (arith, nat_tests)

new_learns : (r : Rules) (w : World) (x s e k z : ℕ) → may_take r w x s e k Sccrp ≡ true → w.tunnels.phase x ≡ WaitReply → s ≡ (delivers r w x s e k z (Some Sccrp)).tunnels.learned x
unfolding delivers takes took_one connects gives established_with
new_learns r w x s e k z may p = let h : is_wait_reply (w.tunnels.phase x) ≡ true = ap is_wait_reply p in grind (arith, nat_tests)

refusal_closes : (r : Rules) (w : World) (x : ℕ) → may_take_refusal w x ≡ true → (step r w (TakesRefusal x)).tunnels.phase x ≡ Closed
unfolding step leaves left
refusal_closes r w x may = grind (arith, nat_tests)

pub takes_next : (r : Rules) (w : World) → r.reads_epochs ≡ true → EpochsHold w.tunnels → LettersHold w.tunnels w.channels → TakesNext r w
takes_next r w reads ep ok = record { takes = takes_it; refusal = refusal; newer = newer }
  where
    takes_it : (x s e k z : ℕ) (l : Letter) → Stands w.channels s e k l → may_take r w x s e k l ≡ true → IsNextOf w (step r w (Delivers x s e k z)) x s e k l ⊎ ClosesOpener w (step r w (Delivers x s e k z)) x s e l
    takes_it x s e k z l st may = by (source r w x s e k l reads ep ok (take_tells r w x s e k l may st))
      where
        is : step r w (Delivers x s e k z) ≡ delivers r w x s e k z (Some l)
        is = delivered_is r w x s e k z l st may

        by : Source w x s e l → IsNextOf w (step r w (Delivers x s e k z)) x s e k l ⊎ ClosesOpener w (step r w (Delivers x s e k z)) x s e l
        by (inl a) = inl record {
          sender = sym ((did_grow r w _ (step_did r w (Delivers x s e k z)) ep).learned x (λ h. (take_tells r w x s e k l may st).sender (sym a.learned ∙ h)) ∙ a.learned);
          epoch = a.epoch;
          place = (take_tells r w x s e k l may st).next;
          stands = st;
        }
        by (inr (inl a)) = inl record {
          sender = subst (λ (v : World). s ≡ v.tunnels.learned x) (sym is) (subst (λ (m : Letter). s ≡ (delivers r w x s e k z (Some m)).tunnels.learned x) (sym a.letter) (new_learns r w x s e k z (subst (λ (m : Letter). may_take r w x s e k m ≡ true) a.letter may) a.phase));
          epoch = a.epoch;
          place = (take_tells r w x s e k l may st).next;
          stands = st;
        }
        by (inr (inr a)) = inr record {
          letter = a.letter;
          epoch = a.epoch;
          opener = a.opener;
          acceptor = a.acceptor;
          closed = subst (λ (v : World). v.tunnels.phase x ≡ Closed) (sym is) (subst (λ (m : Letter). (delivers r w x s e k z (Some m)).tunnels.phase x ≡ Closed) (sym a.letter) (stop_closes r w x s e k z (subst (λ (m : Letter). may_take r w x s e k m ≡ true) a.letter may)));
        }

    refusal : (x : ℕ) → may_take_refusal w x ≡ true → (w.tunnels.opener x ≡ true) × (w.tunnels.entered x ≡ 0) × ((step r w (TakesRefusal x)).tunnels.phase x ≡ Closed)
    refusal x may = let t = refusal_tells w x may in let p = ep.waits_reply x t.0 in (p.0, not_entered w.tunnels x ep (let a = ep.epochs_linked x in grind (arith, a)), refusal_closes r w x may)

    newer : (x s e k : ℕ) (l : Letter) → Stands w.channels s e k l → reaches w.tunnels s x l ≡ true → w.tunnels.entered x < e → is_active (w.tunnels.phase x) ≡ false
    newer x s e k l st way below = by (is_active (w.tunnels.phase x)) refl
      where
        given : e ≤ w.tunnels.entered s
        given = ok.given_entered s e k l st

        -- the sender has entered an epoch, so it's one end of a link
        link : Linked w.tunnels.learned s (w.tunnels.learned s)
        link = ep.epochs_linked s (λ q. let g = given in let m = ep.entered_made s in omega (arith, q))

        h : w.tunnels.learned s ≡ x
        h = ⊎_elim (λ a. same (w.tunnels.learned s) x a) (λ a. absurd (link.to_name (same (w.tunnels.learned s) 0 (both (eqb (w.tunnels.learned s) 0) (eqb (w.tunnels.learned x) s) (both (is_stop l) (eqb (w.tunnels.learned s) 0 && eqb (w.tunnels.learned x) s) a).1).0))) (either (eqb (w.tunnels.learned s) x) (is_stop l && (eqb (w.tunnels.learned s) 0 && eqb (w.tunnels.learned x) s)) way)

        back : w.tunnels.learned x ≡ s
        back = rw (← h) link.back

        at_reply : w.tunnels.phase x ≡ WaitReply → ⊥
        at_reply p = link.from_name (sym back ∙ (ep.waits_reply x p).1)

        at_connect : w.tunnels.phase x ≡ WaitConnect → ⊥
        at_connect p = let a = ep.same_epochs s (w.tunnels.learned s) link in let b : w.tunnels.epochs (w.tunnels.learned s) ≡ 0 = ap w.tunnels.epochs h ∙ (ep.waits_connect x p).1 in let g = given in let m = ep.entered_made s in omega arith

        at_open : w.tunnels.phase x ≡ Open → ⊥
        at_open p = let a = ep.open_above x s p record { forth = back; back = h; from_name = (λ q. link.to_name (h ∙ q)); to_name = link.from_name } in let g = given in omega arith

        by : (b : Bool) → is_active (w.tunnels.phase x) ≡ b → is_active (w.tunnels.phase x) ≡ false
        by false a = a
        by true a = absurd (⊎_elim at_reply (λ q. ⊎_elim at_connect at_open q) (active_phase (w.tunnels.phase x) a))

-- the two facts over all runs
pub both_after : (r : Rules) (ms : List Move) (w : World) → r.reads_epochs ≡ true → EpochsHold w.tunnels → LettersHold w.tunnels w.channels → LettersHold (goes_on r w ms).tunnels (goes_on r w ms).channels
unfolding goes_on
both_after r [] w reads ep ok = ok
both_after r (m ∷ ms) w reads ep ok = both_after r ms (step r w m) reads (epochs_step r w m ep) (did_ok r w (step r w m) reads (step_did r w m) ep ok)

pub letters_empty : LettersHold empty_world.tunnels empty_world.channels
letters_empty = record {
  given_drawn = λ x e k l h. absurd cc;
  given_entered = λ x e k l h. absurd cc;
  taken_drawn = grind arith;
  taken_entered = grind arith;
  taken_learned = grind arith;
  waits_reply = grind arith;
  waits_connect = grind arith;
  open_taken = grind arith;
  open_given = grind arith;
  opener_given = grind arith;
  opener_first = λ x k l o h. absurd cc;
  acceptor_first = λ x k l o h. absurd cc;
  unchosen = λ x k l o n h. absurd cc;
}

pub of_runs : LettersOfRuns
of_runs = record {
  hold = λ ms. both_after all_rules ms empty_world refl epochs_empty letters_empty;
  next = λ ms. takes_next all_rules (goes_on all_rules empty_world ms) refl (holds_after all_rules ms) (both_after all_rules ms empty_world refl epochs_empty letters_empty);
}
