-- Each move keeps which answer makes each epoch, and by which answer it was entered.
use Rattle.std.proofs.Common.{◌≡◌, ◌≢◌, ℕ, ◌<◌, ⊎_elim, List, [], ◌∷◌, refl, sym, ap, ◌∙◌, subst, arith}
use Rattle.std.proofs.lemmas.Bool.Decides.{nat_tests}
use Rattle.epoch_machine.specs.Names.{assign}
use Rattle.epoch_machine.specs.Tunnels.{Tunnels, left, opened, accepted, established_with, established, restored, frozen, confirms, is_confirmed, goes_down, comes_up, keeps_up, keeps_down}
use Rattle.epoch_machine.specs.Worlds.{World, Rules, empty_world, gives, took_one, leaves, connects, is_connected, takes_cdn, answers_query}
use Rattle.epoch_machine.specs.Moves.{Move, Kept, keeps, keeps_all, falls, opens, accepts, adds_call, asks_for, ends_call, queries, freezes, resets_attempting, resets_answering, restores, step, goes_on}
use Rattle.epoch_machine.proofs.Did.{Did, did_learn, did_end_told, did_freeze, did_reset_attempting, did_reset_answering, did_stop, step_did}
use Rattle.epoch_machine.proofs.Stops.{amid_first, all_kept}
use Rattle.epoch_machine.proofs.Splits.{same_or_not, assigned_now, assigned_else}
use Rattle.epoch_laws.specs.Epochs.{EpochsHold}
use Rattle.epoch_laws.specs.Answers.{AnswersHold, AnswersStay, AnswersOfRuns}
use Rattle.epoch_laws.proofs.Steps.{answer_same, told_same, step_ok, empty_ok, holds_after}
use Rattle.epoch_laws.proofs.Rising.{above_attempting, above_answering}
use Rattle.epoch_laws.proofs.Growth.{did_grow}
use Rattle.epoch_laws.proofs.Making.{SameAnswers, SameEntries, unchanged, confirms_answers, is_confirmed_answers, frozen_stays, frozen_answers, one_answer}

-- neither answers nor entries are new
record Alike (t u : Tunnels) : Type 0 where
  given : SameAnswers t u
  entries : SameEntries t u

alike : (t : Tunnels) → Alike t t
alike t = record { given = record { answers = λ c. refl; makes = λ c. refl; epochs = λ x. refl }; entries = record { entered = λ x. refl; entered_by = λ x e. refl; confirmed = λ c. refl } }

alike_by : (t u : Tunnels) → u ≡ t → Alike t u
alike_by t u e = subst (λ (v : Tunnels). Alike t v) (sym e) (alike t)

stop_alike : (before : World) (n : ℕ) (ks : List Kept) → Alike before.tunnels (falls (keeps_all before n ks before) n).tunnels
unfolding falls goes_down keeps keeps_up keeps_down
stop_alike before n ks = all_kept (λ v. Alike before.tunnels (goes_down v.tunnels n)) before n
    record {
      up = λ w x s p a u h. record { given = record { answers = p.given.answers; makes = p.given.makes; epochs = p.given.epochs }; entries = record { entered = p.entries.entered; entered_by = p.entries.entered_by; confirmed = p.entries.confirmed } };
      down = λ w x p a at. record { given = record { answers = p.given.answers; makes = p.given.makes; epochs = p.given.epochs }; entries = record { entered = p.entries.entered; entered_by = p.entries.entered_by; confirmed = p.entries.confirmed } };
      call = λ w z own k p a h g. p;
      ended = λ w z p a h. p;
    }
    ks before (record { given = record { answers = λ c. refl; makes = λ c. refl; epochs = λ x. refl }; entries = record { entered = λ x. refl; entered_by = λ x e. refl; confirmed = λ c. refl } }) (amid_first before)

-- of a move that neither answers nor resets
others_alike : (r : Rules) (w v : World) → Did r w v → EpochsHold w.tunnels → Alike w.tunnels v.tunnels → AnswersHold w.tunnels → AnswersHold v.tunnels
others_alike r w v d ep a ok = unchanged w.tunnels v.tunnels ep ok (did_grow r w v d ep).learned a.given a.entries

did_answers : (r : Rules) (w v : World) → Did r w v → EpochsHold w.tunnels → AnswersHold w.tunnels → AnswersHold v.tunnels
unfolding opens accepts gives took_one leaves connects is_connected takes_cdn answers_query adds_call asks_for ends_call queries freezes resets_attempting resets_answering restores left opened accepted established_with established restored comes_up
did_answers r w v (did_learn x s e k own y here t p l) ep ok = others_alike r w _ (did_learn x s e k own y here t p l) ep (alike_by w.tunnels _ (answer_same (took_one w x) x own y here)) ok
did_answers r w v (did_end_told z p a b) ep ok = others_alike r w _ (did_end_told z p a b) ep (alike_by w.tunnels _ (told_same r w z)) ok
did_answers r w v (did_freeze x a c own theirs p n l f new) ep ok = frozen_answers w.tunnels x a c own theirs ep ok p new.undrawn new.name
did_answers r w v (did_reset_attempting x c p n) ep ok = confirms_answers w.tunnels x c ep p n ok
did_answers r w v (did_reset_answering x c p n) ep ok = is_confirmed_answers w.tunnels x c ep p n ok
did_answers r w v (did_stop n ks) ep ok = others_alike r w _ (did_stop n ks) ep (stop_alike w n ks) ok
did_answers r w v d ep ok = others_alike r w _ d ep record { given = record { answers = λ c. refl; makes = λ c. refl; epochs = λ x. refl }; entries = record { entered = λ x. refl; entered_by = λ x e. refl; confirmed = λ c. refl } } ok

-- what was entered, and given, stays
record Lasts (t u : Tunnels) : Type 0 where
  entered : (x e : ℕ) → t.entered_by x e ≢ 0 → u.entered_by x e ≡ t.entered_by x e
  answers : (c : ℕ) → t.answers c ≢ 0 → u.answers c ≡ t.answers c
  makes : (c : ℕ) → t.answers c ≢ 0 → u.makes c ≡ t.makes c

alike_lasts : (t u : Tunnels) → Alike t u → Lasts t u
alike_lasts t u a = record { entered = λ x e h. a.entries.entered_by x e; answers = λ c h. a.given.answers c; makes = λ c h. a.given.makes c }

-- a tunnel enters no epoch twice
still_entered : (t : Tunnels) (x e c y f : ℕ) → AnswersHold t → t.entered x < e → t.entered_by y f ≢ 0 → assign t.entered_by x (assign (t.entered_by x) e c) y f ≡ t.entered_by y f
still_entered t x e c y f ok above h = ⊎_elim
    (λ i. ap (λ (z : ℕ). assign t.entered_by x (assign (t.entered_by x) e c) z f) i ∙ ap (λ (g : ℕ → ℕ). g f) (assigned_now t.entered_by x (assign (t.entered_by x) e c)) ∙ assigned_else (t.entered_by x) e c f (λ j. (let a = ok.below y f h in let b = ap t.entered i in omega arith)) ∙ ap (λ (z : ℕ). t.entered_by z f) (sym i))
    (λ i. ap (λ (g : ℕ → ℕ). g f) (assigned_else t.entered_by x (assign (t.entered_by x) e c) y i))
    (same_or_not y x)

same_entries : (t : Tunnels) (x a c own theirs y e : ℕ) → (frozen t x a c own theirs).entered_by y e ≡ t.entered_by y e
unfolding frozen
same_entries t x a c own theirs y e = refl

did_lasts : (r : Rules) (w v : World) → Did r w v → EpochsHold w.tunnels → AnswersHold w.tunnels → Lasts w.tunnels v.tunnels
unfolding opens accepts gives took_one leaves connects is_connected takes_cdn answers_query adds_call asks_for ends_call queries freezes resets_attempting resets_answering restores left opened accepted established_with established restored comes_up confirms is_confirmed
did_lasts r w v (did_learn x s e k own y here t p l) ep ok = alike_lasts w.tunnels _ (alike_by w.tunnels _ (answer_same (took_one w x) x own y here))
did_lasts r w v (did_end_told z p a b) ep ok = alike_lasts w.tunnels _ (alike_by w.tunnels _ (told_same r w z))
did_lasts r w v (did_freeze x a c own theirs p n l f new) ep ok = let s = frozen_stays w.tunnels x a c own theirs ep ok p new.undrawn new.name in record { entered = λ y e h. same_entries w.tunnels x a c own theirs y e; answers = s.answers; makes = s.makes }
did_lasts r w v (did_reset_attempting x c p n) ep ok = record { entered = λ y e h. still_entered w.tunnels x (w.tunnels.makes c) c y e ok (above_attempting w.tunnels x c ep p n) h; answers = λ d h. refl; makes = λ d h. refl }
did_lasts r w v (did_reset_answering x c p n) ep ok = record { entered = λ y e h. still_entered w.tunnels x (w.tunnels.makes c) c y e ok (above_answering w.tunnels x c ep p) h; answers = λ d h. refl; makes = λ d h. refl }
did_lasts r w v (did_stop n ks) ep ok = alike_lasts w.tunnels _ (stop_alike w n ks)
did_lasts r w v d ep ok = record { entered = λ y e h. refl; answers = λ d h. refl; makes = λ d h. refl }

pub answers_stay : (r : Rules) (w : World) → EpochsHold w.tunnels → AnswersHold w.tunnels → AnswersStay r w
unfolding step resets_attempting resets_answering confirms is_confirmed
answers_stay r w ep ok = record {
  attempting = λ x c h. grind (arith, nat_tests);
  answering = λ x c h. grind (arith, nat_tests);
  entered = λ m. (did_lasts r w (step r w m) (step_did r w m) ep ok).entered;
  given = λ m c h. let s = did_lasts r w (step r w m) (step_did r w m) ep ok in (s.answers c h, s.makes c h);
}

answers_empty : AnswersHold empty_world.tunnels
answers_empty = record { once = λ c d h. absurd (h refl); made = λ x e a b. absurd (omega arith); entered = λ x e h. absurd (h refl); below = λ x e h. absurd (h refl); current = λ x h. absurd (h refl); confirmed = λ c h. absurd cc }

pub step_answers : (r : Rules) (w : World) (m : Move) → EpochsHold w.tunnels → AnswersHold w.tunnels → AnswersHold (step r w m).tunnels
step_answers r w m ep ok = did_answers r w (step r w m) (step_did r w m) ep ok

answers_run : (r : Rules) (ms : List Move) (w : World) → EpochsHold w.tunnels → AnswersHold w.tunnels → AnswersHold (goes_on r w ms).tunnels
unfolding goes_on
answers_run r [] w ep ok = ok
answers_run r (m ∷ ms) w ep ok = answers_run r ms (step r w m) (step_ok r w m ep) (step_answers r w m ep ok)

pub answers_after : (r : Rules) (ms : List Move) → AnswersHold (goes_on r empty_world ms).tunnels
answers_after r ms = answers_run r ms empty_world empty_ok answers_empty

pub of_runs : AnswersOfRuns
of_runs = record {
  hold = answers_after;
  one = λ r ms. one_answer (goes_on r empty_world ms).tunnels (answers_after r ms);
  stay = λ r ms. answers_stay r (goes_on r empty_world ms) (holds_after r ms) (answers_after r ms);
}
