-- The epochs that a tunnel enters rise, and the two resets meet.
use Rattle.std.proofs.Common.{◌≡◌, ◌≢◌, ℕ, ◌<◌, ◌≤◌, true, List, refl, sym, ap, ◌∙◌, subst, arith}
use Rattle.std.proofs.lemmas.Bool.Decides.{nat_tests}
use Rattle.epoch_machine.specs.Tunnels.{Tunnels, Linked, Attempts, Answers, left, opened, accepted, established_with, established, restored, frozen, confirms, is_confirmed, goes_down, comes_up, keeps_up, keeps_down}
use Rattle.epoch_machine.specs.Worlds.{World, Rules, empty_world, gives, took_one, leaves, connects, is_connected, takes_cdn, answers_query}
use Rattle.epoch_machine.specs.Moves.{ResetsAnswering, Kept, keeps, keeps_all, falls, may_reset_answering, opens, accepts, adds_call, asks_for, ends_call, queries, freezes, resets_attempting, resets_answering, restores, step, goes_on}
use Rattle.epoch_machine.proofs.Did.{Did, did_learn, did_end_told, did_reset_attempting, did_reset_answering, did_stop, step_did, attempting_tells, answering_tells}
use Rattle.epoch_machine.proofs.Stops.{amid_first, all_kept}
use Rattle.epoch_laws.specs.Epochs.{EpochsHold, Rises, LowerIsNotOpen, ResetsMeet, EpochsOfRuns}
use Rattle.epoch_laws.proofs.Steps.{answer_same, told_same, holds_after}

-- an end that resets by an attempt enters an epoch above its own
pub above_attempting : (t : Tunnels) (x c : ℕ) → EpochsHold t → t.phase x ≡ Attempts (t.answered c) → t.answers c ≢ 0 → t.entered x < t.makes c
above_attempting t x c ok p n = let a = ok.attempts_entered x (t.answered c) p in let b = ok.attempts_answered x (t.answered c) c p n refl in grind (arith, b)

pub above_answering : (t : Tunnels) (x c : ℕ) → EpochsHold t → t.phase x ≡ Answers c → t.entered x < t.makes c
above_answering t x c ok p = ok.answers_entered x c p

abbrev Later : Tunnels → Tunnels → Type 0
Later t u = (x : ℕ) → t.entered x ≤ u.entered x

same_entered : (t : Tunnels) → Later t t
same_entered t x = omega arith

later_by : (t u : Tunnels) → u ≡ t → Later t u
later_by t u e = subst (λ (v : Tunnels). Later t v) (sym e) (same_entered t)

confirms_later : (t : Tunnels) (x c : ℕ) → EpochsHold t → t.phase x ≡ Attempts (t.answered c) → t.answers c ≢ 0 → Later t (confirms t x c)
unfolding confirms
confirms_later t x c ok p n z = let h = above_attempting t x c ok p n in grind (arith, nat_tests)

is_confirmed_later : (t : Tunnels) (x c : ℕ) → EpochsHold t → t.phase x ≡ Answers c → Later t (is_confirmed t x c)
unfolding is_confirmed
is_confirmed_later t x c ok p z = let h = above_answering t x c ok p in grind (arith, nat_tests)

stop_later : (before : World) (n : ℕ) (ks : List Kept) → Later before.tunnels (falls (keeps_all before n ks before) n).tunnels
unfolding falls goes_down keeps keeps_up keeps_down
stop_later before n ks = all_kept (λ v. Later before.tunnels (goes_down v.tunnels n)) before n record { up = λ w x s p a u h. p; down = λ w x p a at. p; call = λ w z own k p a h g. p; ended = λ w z p a h. p } ks before (same_entered before.tunnels) (amid_first before)

pub did_later : (r : Rules) (w v : World) → Did r w v → EpochsHold w.tunnels → Later w.tunnels v.tunnels
unfolding opens accepts gives took_one leaves connects is_connected takes_cdn answers_query adds_call asks_for ends_call queries freezes resets_attempting resets_answering restores left opened accepted established_with established restored frozen comes_up
did_later r w v (did_learn x s e k own y here t p l) ok = later_by w.tunnels _ (answer_same (took_one w x) x own y here)
did_later r w v (did_end_told z p a b) ok = later_by w.tunnels _ (told_same r w z)
did_later r w v (did_reset_attempting x c p n) ok = confirms_later w.tunnels x c ok p n
did_later r w v (did_reset_answering x c p n) ok = is_confirmed_later w.tunnels x c ok p
did_later r w v (did_stop n ks) ok = stop_later w n ks
did_later r w v d ok = same_entered w.tunnels

pub rises : (r : Rules) (w : World) → EpochsHold w.tunnels → Rises r w
unfolding step resets_attempting resets_answering confirms is_confirmed
rises r w ok = record {
  never_falls = λ m. did_later r w (step r w m) (step_did r w m) ok;
  attempting = λ x c h. let t = attempting_tells w x c h in let k = above_attempting w.tunnels x c ok t.0 t.1 in grind (arith, nat_tests);
  answering = λ x c h. let t = answering_tells w x c h in let k = above_answering w.tunnels x c ok t.0 in grind (arith, nat_tests);
}

pub lower_is_not_open : (t : Tunnels) → EpochsHold t → LowerIsNotOpen t
lower_is_not_open t ok = record {
  lower = λ x y l below p. let h = ok.open_above x y p l in absurd (omega arith);
  one_epoch = λ x y l p q. let h = ok.open_above x y p l in let g = ok.open_above y x q record { forth = l.back; back = l.forth; from_name = l.to_name; to_name = l.from_name } in omega arith;
}

pub resets_meet : (r : Rules) (w : World) → EpochsHold w.tunnels → ResetsMeet r w
unfolding step resets_answering is_confirmed
resets_meet r w ok = record { meet = λ x y c l h. (entered x c h, other x y c l h) }
  where
    entered : (x c : ℕ) → may_reset_answering w x c ≡ true → (step r w (ResetsAnswering x c)).tunnels.entered x ≡ w.tunnels.makes c
    entered x c h = grind (arith, nat_tests)

    other : (x y c : ℕ) → Linked w.tunnels.learned x y → may_reset_answering w x c ≡ true → w.tunnels.entered y ≡ w.tunnels.makes c
    other x y c l h =
        let t = answering_tells w x c h in
        let a = ok.answers_other x y c t.0 l in
        let b : w.tunnels.makes c ≤ w.tunnels.entered (w.tunnels.learned (w.tunnels.answers c)) = ok.confirmed_entered c t.1 in
        let d = ok.answers_own x c t.0 in
        let f = l.forth in
        let same : w.tunnels.learned (w.tunnels.answers c) ≡ y = ap w.tunnels.learned d ∙ f in
        let g : w.tunnels.makes c ≤ w.tunnels.entered y = subst (λ (z : ℕ). w.tunnels.makes c ≤ w.tunnels.entered z) same b in
        omega (arith, a, g)

pub of_runs : EpochsOfRuns
of_runs = record {
  hold = λ r ms. holds_after r ms;
  rise = λ r ms. rises r (goes_on r empty_world ms) (holds_after r ms);
  lower = λ r ms. lower_is_not_open (goes_on r empty_world ms).tunnels (holds_after r ms);
  meet = λ r ms. resets_meet r (goes_on r empty_world ms) (holds_after r ms);
}
