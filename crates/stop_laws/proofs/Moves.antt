-- Each move, with its records.
use Rattle.std.proofs.Common.{◌≡◌, ◌⊎◌, inl, inr, ⊎_elim, ℕ, Bool, true, false, eqb, not, ◌&&◌, List, [], slice_get, refl, sym, ap, ◌∙◌, subst}
use Rattle.epoch_machine.specs.Names.{is_new}
use Rattle.epoch_machine.specs.Letters.{StopCcn}
use Rattle.epoch_machine.specs.Tunnels.{Gone, Closed, is_live, is_open, is_active, is_established, opened, accepted, restored, frozen, confirms, is_confirmed, comes_up}
use Rattle.epoch_machine.specs.Channels.{refuses}
use Rattle.epoch_machine.specs.Calls.{Up, lives, is_up, ends, comes_back, is_born, is_asked_for, resets, unfinished}
use Rattle.epoch_machine.specs.Worlds.{World, all_rules, gives, took_one, leaves}
use Rattle.epoch_machine.specs.Moves.{Move, Opens, Accepts, Refuses, TakesRefusal, Delivers, SaysHello, Closes, Clears, AddsCall, Asks, EndsTold, EndsSilent, Queries, Freezes, ResetsAttempting, ResetsAnswering, Restores, Stops, Starts, Kept, keeps_all, falls, may_open, may_accept, may_take_refusal, may_clear, may_add, may_ask, may_end_told, may_end_silent, may_query, may_freeze, may_reset_attempting, may_reset_answering, may_restore, opens, accepts, adds_call, asks_for, ends_call, ends_told, queries, freezes, resets_attempting, resets_answering, restores, step}
use Rattle.epoch_machine.proofs.Splits.{chosen, at_name}
use Rattle.epoch_machine.proofs.Tells.{both, either, no_way, turned, same}
use Rattle.epoch_machine.proofs.Did.{IsNew, new_tells, refusal_tells}
use Rattle.coverage_laws.proofs.Runs.{Whole}
use Rattle.stop_laws.specs.Records.{of_leaving, of_ending, kept_of, records_of, writes, SameBook}
use Rattle.stop_laws.proofs.Lists.{stop_writes}
use Rattle.stop_laws.proofs.Ups.{NeverUp}
use Rattle.stop_laws.proofs.Books.{active_live, choose, same_book, nothing_struck, ending_book, leaving_book, fallen_book}
use Rattle.stop_laws.proofs.Steps.{delivery_book}

not_booked : (b : Bool) → (b ≡ true → ⊥) → b ≡ false
not_booked true h = absurd (h refl)
not_booked false h = refl

module _ (w : World) (h : Whole w) (nu : NeverUp w) where
  opens_book : (n m x : ℕ) → SameBook w (opens w n m x)
  unfolding opens opened gives
  opens_book n m x = record { tunnels = λ y. refl; links = λ y q. refl; calls = λ y. refl; names = λ y q. refl }

  accepts_book : (s x : ℕ) → may_accept w s x ≡ true → SameBook w (accepts w s x)
  unfolding accepts accepted gives took_one may_accept
  accepts_book s x may = record { tunnels = λ y. refl; links = λ y q. at_name w.tunnels.learned x s y (λ v. w.tunnels.learned y ≡ v) (λ i. absurd (no_way (w.tunnels.booked y) q (ap w.tunnels.booked i ∙ (h.sound.epochs.nameless x new.undrawn).booked))) (λ i. refl); calls = λ y. refl; names = λ y q. refl }
    where
      new : IsNew w.tunnels.drawn x
      new = let a = both (w.tunnels.up (w.tunnels.peer s)) ((w.tunnels.drawn s && w.tunnels.opener s) && is_new w.tunnels.drawn x) may in new_tells w.tunnels.drawn x (both (w.tunnels.drawn s && w.tunnels.opener s) (is_new w.tunnels.drawn x) a.1).1

  -- a freeze ends no call that stands in the book
  freezes_book : (x a c own theirs : ℕ) → may_freeze w x a c ≡ true → SameBook w (freezes all_rules w x a c own theirs)
  unfolding freezes frozen ends may_freeze
  freezes_book x a c own theirs may = nothing_struck w (freezes all_rules w x a c own theirs) (unfinished w.calls x) none record { tunnels = λ y. refl; links = λ y. refl; calls = λ z. refl; names = λ z. refl }
    where
      established : is_established (w.tunnels.phase x) ≡ true
      established = (both (is_established (w.tunnels.phase x)) _ may).0

      none : (z : ℕ) → unfinished w.calls x z ≡ true → w.calls.booked z ≡ false
      none z k = not_booked (w.calls.booked z) (λ b. by (both (eqb (w.calls.tunnel z) x) (lives (w.calls.state z) && not (is_up (w.calls.state z))) k) b)
        where
          by : (eqb (w.calls.tunnel z) x ≡ true) × ((lives (w.calls.state z) && not (is_up (w.calls.state z))) ≡ true) → w.calls.booked z ≡ true → ⊥
          by a b =
              let at = same (w.calls.tunnel z) x a.0 in
              let up : w.calls.state z ≡ Up = h.states.booked_lives z b (λ g. (let i : is_established Gone ≡ true = ap is_established (sym g ∙ ap w.tunnels.phase at) ∙ established in cc)) in
              no_way (is_up (w.calls.state z)) (ap is_up up) (turned (is_up (w.calls.state z)) (both (lives (w.calls.state z)) (not (is_up (w.calls.state z))) a.1).1)

  told_book : (z : ℕ) → SameBook (writes w (of_ending w z)) (ends_told all_rules w z)
  unfolding ends_told ends_call gives ends
  told_book z = ending_book w (ends_told all_rules w z) z record { tunnels = λ y. refl; links = λ y. refl; calls = λ y. refl; names = λ y. refl }

  silent_book : (z : ℕ) → SameBook (writes w (of_ending w z)) (ends_call w z)
  unfolding ends_call ends
  silent_book z = ending_book w (ends_call w z) z record { tunnels = λ y. refl; links = λ y. refl; calls = λ y. refl; names = λ y. refl }

  cleared : (x : ℕ) → may_clear w x ≡ true → (is_live (w.tunnels.phase x) ≡ true) ⊎ (w.tunnels.booked x ≡ true)
  unfolding may_clear
  cleared x may = ⊎_elim (λ a. inl a) (λ a. inr (both (w.tunnels.booked x) (w.tunnels.up (w.tunnels.node x)) a).0) (either (is_live (w.tunnels.phase x)) (w.tunnels.booked x && w.tunnels.up (w.tunnels.node x)) may)

  closes_book : (x : ℕ) → is_active (w.tunnels.phase x) ≡ true → SameBook (writes w (of_leaving w x)) (leaves (gives w x StopCcn) x Closed)
  unfolding gives leaves
  closes_book x a = let b = leaving_book w x Closed h (inl (active_live (w.tunnels.phase x) a)) in record { tunnels = b.tunnels; links = b.links; calls = b.calls; names = b.names }

  stops_book : (n : ℕ) (ks : List Kept) → SameBook (writes w (kept_of w n ks)) (falls (keeps_all w n ks w) n)
  stops_book n ks = subst (λ (v : World). SameBook v (falls (keeps_all w n ks w) n)) (stop_writes w n ks w) (fallen_book (keeps_all w n ks w) n)

  pub step_book : (m : Move) → SameBook (writes w (records_of w m)) (step all_rules w m)
  unfolding records_of step writes gives refuses adds_call is_born asks_for is_asked_for queries resets_attempting confirms resets_answering is_confirmed resets restores restored comes_back comes_up
  step_book (Opens n m x) = chosen (λ (v : World). SameBook w v) (may_open w n x) _ _ (λ b. opens_book n m x) (λ b. same_book w)
  step_book (Accepts s x) = chosen (λ (v : World). SameBook w v) (may_accept w s x) _ _ (λ b. accepts_book s x b) (λ b. same_book w)
  step_book (Refuses s) = chosen (λ (v : World). SameBook w v) (w.tunnels.opener s) _ _ (λ b. record { tunnels = λ y. refl; links = λ y q. refl; calls = λ y. refl; names = λ y q. refl }) (λ b. same_book w)
  step_book (TakesRefusal x) = choose (λ ks v. SameBook (writes w ks) v) (may_take_refusal w x) (of_leaving w x) [] (leaves w x Closed) w (λ b. leaving_book w x Closed h (inl (ap is_live (refusal_tells w x b).0))) (λ b. same_book w)
  step_book (Delivers x s e k z) = delivery_book w h nu x s e k z (slice_get (w.channels.sent s e) k) refl
  step_book (SaysHello x) = chosen (λ (v : World). SameBook w v) (is_open (w.tunnels.phase x)) _ _ (λ b. record { tunnels = λ y. refl; links = λ y q. refl; calls = λ y. refl; names = λ y q. refl }) (λ b. same_book w)
  step_book (Closes x) = choose (λ ks v. SameBook (writes w ks) v) (is_active (w.tunnels.phase x)) (of_leaving w x) [] (leaves (gives w x StopCcn) x Closed) w (λ b. closes_book x b) (λ b. same_book w)
  step_book (Clears x) = choose (λ ks v. SameBook (writes w ks) v) (may_clear w x) (of_leaving w x) [] (leaves w x Gone) w (λ b. leaving_book w x Gone h (cleared x b)) (λ b. same_book w)
  step_book (AddsCall x z) = chosen (λ (v : World). SameBook w v) (may_add w x z) _ _ (λ b. record { tunnels = λ y. refl; links = λ y q. refl; calls = λ y. refl; names = λ y q. refl }) (λ b. same_book w)
  step_book (Asks z) = chosen (λ (v : World). SameBook w v) (may_ask w z) _ _ (λ b. record { tunnels = λ y. refl; links = λ y q. refl; calls = λ y. refl; names = λ y q. refl }) (λ b. same_book w)
  step_book (EndsTold z) = choose (λ ks v. SameBook (writes w ks) v) (may_end_told w z) (of_ending w z) [] (ends_told all_rules w z) w (λ b. told_book z) (λ b. same_book w)
  step_book (EndsSilent z) = choose (λ ks v. SameBook (writes w ks) v) (may_end_silent w z) (of_ending w z) [] (ends_call w z) w (λ b. silent_book z) (λ b. same_book w)
  step_book (Queries x z) = chosen (λ (v : World). SameBook w v) (may_query w x z) _ _ (λ b. record { tunnels = λ y. refl; links = λ y q. refl; calls = λ y. refl; names = λ y q. refl }) (λ b. same_book w)
  step_book (Freezes x a c own theirs) = chosen (λ (v : World). SameBook w v) (may_freeze w x a c) _ _ (λ b. freezes_book x a c own theirs b) (λ b. same_book w)
  step_book (ResetsAttempting x c) = chosen (λ (v : World). SameBook w v) (may_reset_attempting w x c) _ _ (λ b. record { tunnels = λ y. refl; links = λ y q. refl; calls = λ y. refl; names = λ y q. refl }) (λ b. same_book w)
  step_book (ResetsAnswering x c) = chosen (λ (v : World). SameBook w v) (may_reset_answering w x c) _ _ (λ b. record { tunnels = λ y. refl; links = λ y q. refl; calls = λ y. refl; names = λ y q. refl }) (λ b. same_book w)
  step_book (Restores x a) = chosen (λ (v : World). SameBook w v) (may_restore w x a) _ _ (λ b. record { tunnels = λ y. refl; links = λ y q. refl; calls = λ y. refl; names = λ y q. refl }) (λ b. same_book w)
  step_book (Stops n ks) = stops_book n ks
  step_book (Starts n) = record { tunnels = λ y. refl; links = λ y q. refl; calls = λ y. refl; names = λ y q. refl }
