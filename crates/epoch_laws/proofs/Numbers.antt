-- Both ends of a link begin an epoch with the numbers of one answer.
use Rattle.std.proofs.Common.{◌≡◌, ◌≢◌, ◌⊎◌, inl, inr, ⊎_elim, ℕ, Bool, true, false, List, refl, sym, ap, ◌∙◌, subst, arith}
use Rattle.std.proofs.lemmas.Bool.Decides.{nat_tests}
use Rattle.epoch_machine.specs.Tunnels.{Tunnels, Linked, Open, Attempts, left, opened, accepted, established_with, established, restored, is_established, frozen, confirms, is_confirmed, goes_down, comes_up, keeps_up, keeps_down}
use Rattle.epoch_machine.specs.Worlds.{World, Rules, empty_world, gives, took_one, leaves, connects, is_connected, takes_cdn, answers_query}
use Rattle.epoch_machine.specs.Moves.{Move, Freezes, ResetsAttempting, ResetsAnswering, Kept, keeps, keeps_all, falls, opens, accepts, adds_call, asks_for, ends_call, queries, freezes, resets_attempting, resets_answering, restores, step, goes_on, may_freeze}
use Rattle.epoch_machine.proofs.Splits.{same_or_not}
use Rattle.epoch_machine.proofs.Did.{Did, did_learn, did_end_told, did_freeze, did_stop, step_did, attempting_tells, answering_tells}
use Rattle.epoch_machine.proofs.Stops.{amid_first, all_kept}
use Rattle.epoch_laws.specs.Epochs.{EpochsHold}
use Rattle.epoch_laws.specs.Answers.{Makes, AnswersHold, AnswersStay}
use Rattle.epoch_laws.specs.Numbers.{first_number, BeginsBy, BeginAlike, NumbersHold, NumbersStay, NumbersOfRuns}
use Rattle.epoch_laws.proofs.Steps.{answer_same, told_same, holds_after}
use Rattle.epoch_laws.proofs.Rising.{lower_is_not_open}
use Rattle.epoch_laws.proofs.Making.{one_answer}
use Rattle.epoch_laws.proofs.Answering.{answers_stay, answers_after}

-- the two ends of a link are two tunnels
two_ends : (t : Tunnels) (x y : ℕ) → EpochsHold t → Linked t.learned x y → x ≢ y
two_ends t x y ep l e = by (t.opener x) refl
  where
    itself : t.learned x ≡ x
    itself = l.forth ∙ sym e

    named : t.learned x ≢ 0
    named i = l.from_name (sym itself ∙ i)

    by : (b : Bool) → t.opener x ≡ b → ⊥
    by true o = let a : t.opener x ≡ false = ap t.opener (sym itself) ∙ ep.opener_learned x o named in let b : true ≡ false = sym o ∙ a in cc
    by false o = let a : t.opener x ≡ true = ap t.opener (sym itself) ∙ ep.acceptor_learned x o named in let b : true ≡ false = sym a ∙ o in cc

giver_number : (t : Tunnels) (x e c : ℕ) → e ≢ 0 → t.entered_by x e ≡ c → t.answers c ≡ x → first_number t x e ≡ t.giver_first c
giver_number t x e c n by g = grind (arith, nat_tests)

other_number : (t : Tunnels) (x e c : ℕ) → e ≢ 0 → t.entered_by x e ≡ c → t.answers c ≢ x → first_number t x e ≡ t.other_first c
other_number t x e c n by g = grind (arith, nat_tests)

module _ (t : Tunnels) (ep : EpochsHold t) (ok : AnswersHold t) where
  above_zero : (x e : ℕ) → t.entered_by x e ≢ 0 → e ≢ 0
  above_zero x e h = let m = ok.entered x e h in let a = ep.makes_some (t.entered_by x e) m.given in let b = m.epoch in omega (arith, a, b)

  begin_alike : (x y e : ℕ) → Linked t.learned x y → t.entered_by x e ≢ 0 → t.entered_by y e ≢ 0 → BeginAlike t x y e
  begin_alike x y e l h k = record { answer = c; makes = m; first_by = refl; second_by = by_y; numbers = ⊎_elim (λ g. inl (by_first g)) (λ g. inr (by_second (g ∙ l.forth))) m.end }
    where
      c : ℕ
      c = t.entered_by x e

      m : Makes t x e c
      m = ok.entered x e h

      by_y : t.entered_by y e ≡ c
      by_y = sym ((one_answer t ok).both x y e l h k)

      n : e ≢ 0
      n = above_zero x e h

      by_first : t.answers c ≡ x → BeginsBy t x y e c
      by_first g = record { gave = g; giver_begins = giver_number t x e c n refl g; other_begins = other_number t y e c n by_y (λ i. two_ends t x y ep l (sym g ∙ i)) }

      by_second : t.answers c ≡ y → BeginsBy t y x e c
      by_second g = record { gave = g; giver_begins = giver_number t y e c n by_y g; other_begins = other_number t x e c n refl (λ i. two_ends t x y ep l (sym i ∙ g)) }

  both_open : (x y : ℕ) → Linked t.learned x y → t.phase x ≡ Open → t.phase y ≡ Open → (t.entered x ≡ t.entered y) × ((t.entered x ≡ 0) ⊎ BeginAlike t x y (t.entered x))
  both_open x y l p q =
      let same = (lower_is_not_open t ep).one_epoch x y l p q in
      (same, ⊎_elim (λ z. inl z) (λ z. inr (begin_alike x y (t.entered x) l (ok.current x z) (λ i. ok.current y (λ j. z (same ∙ j)) (ap (λ (e : ℕ). t.entered_by y e) (sym same) ∙ i)))) (same_or_not (t.entered x) 0))

  numbers_hold : NumbersHold t
  numbers_hold = record { zero = λ x. refl; both = begin_alike; both_open = both_open }

-- an answer that was given keeps its numbers
record NumbersLast (t u : Tunnels) : Type 0 where
  giver : (c : ℕ) → t.answers c ≢ 0 → u.giver_first c ≡ t.giver_first c
  other : (c : ℕ) → t.answers c ≢ 0 → u.other_first c ≡ t.other_first c

last_by : (t u : Tunnels) → u ≡ t → NumbersLast t u
last_by t u e = subst (λ (v : Tunnels). NumbersLast t v) (sym e) record { giver = λ c h. refl; other = λ c h. refl }

stop_last : (w : World) (n : ℕ) (ks : List Kept) → NumbersLast w.tunnels (falls (keeps_all w n ks w) n).tunnels
unfolding falls goes_down keeps keeps_up keeps_down
stop_last w n ks = all_kept (λ v. NumbersLast w.tunnels (goes_down v.tunnels n)) w n record { up = λ v x s p a u h. record { giver = p.giver; other = p.other }; down = λ v x p a at. record { giver = p.giver; other = p.other }; call = λ v z own k p a h g. p; ended = λ v z p a h. p } ks w record { giver = λ c h. refl; other = λ c h. refl } (amid_first w)

frozen_last : (t : Tunnels) (x a c own theirs : ℕ) → EpochsHold t → t.drawn c ≡ false → NumbersLast t (frozen t x a c own theirs)
unfolding frozen
frozen_last t x a c own theirs ep new = let n = (ep.nameless c new).answers in record { giver = grind (arith, nat_tests); other = grind (arith, nat_tests) }

did_last : (r : Rules) (w v : World) → Did r w v → EpochsHold w.tunnels → NumbersLast w.tunnels v.tunnels
unfolding opens accepts gives took_one leaves connects is_connected takes_cdn answers_query adds_call asks_for ends_call queries freezes resets_attempting resets_answering restores left opened accepted established_with established restored comes_up confirms is_confirmed
did_last r w v (did_learn x s e k own y here t p l) ep = last_by w.tunnels _ (answer_same (took_one w x) x own y here)
did_last r w v (did_end_told z p a b) ep = last_by w.tunnels _ (told_same r w z)
did_last r w v (did_freeze x a c own theirs p n l f new) ep = frozen_last w.tunnels x a c own theirs ep new.undrawn
did_last r w v (did_stop n ks) ep = stop_last w n ks
did_last r w v d ep = record { giver = λ c h. refl; other = λ c h. refl }

same_first : (t u : Tunnels) (x e : ℕ) → u.entered_by x e ≡ t.entered_by x e → u.answers (t.entered_by x e) ≡ t.answers (t.entered_by x e) → u.giver_first (t.entered_by x e) ≡ t.giver_first (t.entered_by x e) → u.other_first (t.entered_by x e) ≡ t.other_first (t.entered_by x e) → first_number u x e ≡ first_number t x e
same_first t u x e b a g o = grind (arith, nat_tests)

module _ (r : Rules) (w : World) (ep : EpochsHold w.tunnels) (ok : AnswersHold w.tunnels) where
  lasts : (m : Move) → NumbersLast w.tunnels (step r w m).tunnels
  lasts m = did_last r w (step r w m) (step_did r w m) ep

  suggests : (x a c own theirs : ℕ) → may_freeze w x a c ≡ true → ((step r w (Freezes x a c own theirs)).tunnels.giver_first c ≡ own) × ((step r w (Freezes x a c own theirs)).tunnels.other_first c ≡ theirs)
  unfolding step freezes frozen
  suggests x a c own theirs h = (grind (arith, nat_tests), grind (arith, nat_tests))

  stays : AnswersStay r w
  stays = answers_stay r w ep ok

  reset_answers : (m : Move) (x c : ℕ) → w.tunnels.answers c ≢ 0 → (step r w m).tunnels.entered_by x (w.tunnels.makes c) ≡ c → ((w.tunnels.answers c ≡ x) → first_number (step r w m).tunnels x (w.tunnels.makes c) ≡ w.tunnels.giver_first c) × ((w.tunnels.answers c ≢ x) → first_number (step r w m).tunnels x (w.tunnels.makes c) ≡ w.tunnels.other_first c)
  reset_answers m x c g by =
      let n : w.tunnels.makes c ≢ 0 = let a = ep.makes_some c g in omega (arith, a) in
      let same = (stays.given m c g).0 in
      (λ i. giver_number (step r w m).tunnels x (w.tunnels.makes c) c n by (same ∙ i) ∙ (lasts m).giver c g, λ i. other_number (step r w m).tunnels x (w.tunnels.makes c) c n by (λ j. i (sym same ∙ j)) ∙ (lasts m).other c g)

  numbers_stay : NumbersStay r w
  numbers_stay = record {
    given = suggests;
    attempting = λ x c h. (let a = attempting_tells w x c h in (reset_answers (ResetsAttempting x c) x c a.1 (stays.attempting x c h)).1 (attempting_gave x c a.0 a.1));
    answering = λ x c h. (let a = answering_tells w x c h in (reset_answers (ResetsAnswering x c) x c (ep.confirmed_answers c a.1) (stays.answering x c h)).0 (ep.answers_own x c a.0));
    answer = λ m c h. ((lasts m).giver c h, (lasts m).other c h);
    epoch = λ m x e h. (let g = (ok.entered x e h).given in same_first w.tunnels (step r w m).tunnels x e (stays.entered m x e h) (stays.given m (w.tunnels.entered_by x e) g).0 ((lasts m).giver (w.tunnels.entered_by x e) g) ((lasts m).other (w.tunnels.entered_by x e) g));
  }
    where
      attempting_gave : (x c : ℕ) → w.tunnels.phase x ≡ Attempts (w.tunnels.answered c) → w.tunnels.answers c ≢ 0 → w.tunnels.answers c ≢ x
      attempting_gave x c p g i =
          let link = ep.established_linked x (ap is_established p) in
          two_ends w.tunnels x (w.tunnels.learned x) ep link (sym i ∙ (ep.attempts_answered x (w.tunnels.answered c) c p g refl).0)

pub of_runs : NumbersOfRuns
of_runs = record {
  hold = λ r ms. numbers_hold (goes_on r empty_world ms).tunnels (holds_after r ms) (answers_after r ms);
  stay = λ r ms. numbers_stay r (goes_on r empty_world ms) (holds_after r ms) (answers_after r ms);
}
