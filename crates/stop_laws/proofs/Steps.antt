-- The records of each step make of the book what the step makes of it.
use Rattle.std.proofs.Common.{◌≡◌, ◌≢◌, ◌⊎◌, inl, inr, ⊎_elim, ℕ, Bool, true, false, cond, eqb, ltb, not, ◌&&◌, ◌||◌, [], ◌∷◌, slice_get, Option, Some, None, refl, sym, ap, ◌∙◌, subst, arith}
use Rattle.std.proofs.lemmas.Bool.Decides.{nat_tests}
use Rattle.epoch_machine.specs.Names.{is_new, is_name}
use Rattle.epoch_machine.specs.Letters.{Letter, Sccrp, Scccn, StopCcn, Request, Reply, Connect, Cdn, Fsr}
use Rattle.epoch_machine.specs.Tunnels.{Closed, is_open, is_wait_reply, is_wait_connect, established_with, established, keeps_up}
use Rattle.epoch_machine.specs.Channels.{Stands}
use Rattle.epoch_machine.specs.Calls.{lives, waits_reply, waits_connect, ends, replies, is_first_up, is_second_up, keeps_call, is_told, stands_with, is_named}
use Rattle.epoch_machine.specs.Worlds.{World, all_rules, gives, took_one, leaves, connects, is_connected, answers_request, takes_reply, takes_connect, takes_cdn, answers_query, takes_answer, takes_open, takes, is_stop}
use Rattle.epoch_machine.specs.Moves.{TunnelUp, CallUp, keeps, may_take, delivers}
use Rattle.epoch_machine.proofs.Splits.{chosen, at_name, assigned_here}
use Rattle.epoch_machine.proofs.Tells.{both, no_way, same, same_test, named, reply_phase, reply_state, connect_state}
use Rattle.epoch_machine.proofs.Did.{Takes, IsNew, take_tells, new_tells}
use Rattle.letter_laws.proofs.Sources.{FromLearned, FromNew, FromUnchosen, source}
use Rattle.coverage_laws.proofs.Runs.{Whole}
use Rattle.stop_laws.specs.Records.{of_leaving, of_ending, of_call_letter, of_letter, of_delivery, writes, SameBook}
use Rattle.stop_laws.proofs.Ups.{NeverUp}
use Rattle.stop_laws.proofs.Books.{active_live, choose, same_book, nothing_struck, ending_book, leaving_book}

-- a record of an establishing is written
pub tunnel_written : (w : World) (x s : ℕ) → (w.tunnels.learned x ≡ 0) ⊎ (w.tunnels.learned x ≡ s) → writes w (TunnelUp x s ∷ []) ≡ record w { tunnels = keeps_up w.tunnels x s }
unfolding writes keeps
tunnel_written w x s h = ap (λ (b : Bool). cond b (record w { tunnels = keeps_up w.tunnels x s }) w) (⊎_elim (λ a. first (eqb (w.tunnels.learned x) 0) (eqb (w.tunnels.learned x) s) (same_test (w.tunnels.learned x) 0 a)) (λ a. second (eqb (w.tunnels.learned x) 0) (eqb (w.tunnels.learned x) s) (same_test (w.tunnels.learned x) s a)) h)
  where
    first : (a b : Bool) → a ≡ true → (a || b) ≡ true
    first true b e = refl
    first false b e = absurd cc

    second : (a b : Bool) → b ≡ true → (a || b) ≡ true
    second true b e = refl
    second false b e = e

pub call_written : (w : World) (z own k : ℕ) → lives (w.calls.state z) ≡ true → writes w (CallUp z own k ∷ []) ≡ record w { calls = keeps_call w.calls z own }
unfolding writes keeps
call_written w z own k h = ap (λ (b : Bool). cond b (record w { calls = keeps_call w.calls z own }) w) h

not_booked : (b : Bool) → (b ≡ true → ⊥) → b ≡ false
not_booked true h = absurd (h refl)
not_booked false h = refl

one_named : (here name is other : Bool) → name ≡ true → (is ≡ true → here ≡ true) → is ≡ (here && cond name is other)
one_named here false is other n h = absurd cc
one_named true true is other n h = refl
one_named false true true other n h = sym (h refl)
one_named false true false other n h = refl

zero_name : (k : ℕ) → ltb 0 k ≡ false → k ≡ 0
zero_name k h = grind (arith, nat_tests)

module _ (w : World) (h : Whole w) (nu : NeverUp w) where
  -- by a letter the tunnel that waits to be connected takes from whom it learned
  pub connecting_end : (x s e k : ℕ) → Takes all_rules w x s e k Scccn → (w.tunnels.learned x ≡ s) × (e ≡ w.tunnels.entered x)
  connecting_end x s e k t = by (source all_rules w x s e k Scccn refl h.sound.epochs h.sound.given t)
    where
      by : FromLearned w x s e ⊎ (FromNew w x s e Scccn ⊎ FromUnchosen w x s e Scccn) → (w.tunnels.learned x ≡ s) × (e ≡ w.tunnels.entered x)
      by (inl a) = (a.learned, a.epoch)
      by (inr (inl a)) = absurd (let b : Scccn ≡ Sccrp = a.letter in cc)
      by (inr (inr a)) = absurd (let b : Scccn ≡ StopCcn = a.letter in cc)

  -- a CDN with no header names no call in the book
  unnamed : (s e k own z : ℕ) → Stands w.channels s e k (Cdn own 0) → own ≢ 0 → w.calls.remote z ≡ own → w.calls.booked z ≡ false
  unnamed s e k own z st n is = not_booked (w.calls.booked z) (λ b. by (h.sound.calls.booked_up z b) (h.sound.calls.remote_mates z (λ q. n (sym is ∙ q))))
    where
      by : w.calls.up z ≡ true → (w.calls.mate z ≡ w.calls.remote z) ⊎ (w.calls.mate (w.calls.remote z) ≡ z) → ⊥
      by u (inl m) =
          let a = nu.no_header s e k own st n in
          let b : w.calls.up own ≡ true = ap w.calls.up (sym is ∙ sym m) ∙ h.states.up_first z (λ q. n (sym is ∙ sym m ∙ q)) u in
          no_way (w.calls.up own) b a
      by u (inr m) =
          let a = (h.queries.no_header s e k own st n).1 in
          let b : z ≡ 0 = sym m ∙ ap w.calls.mate is ∙ a in
          n (sym is ∙ ap w.calls.remote b ∙ (h.sound.calls.nameless 0 h.sound.calls.zero).remote)

  cdn_book : (x s e k own y : ℕ) → Stands w.channels s e k (Cdn own y) → SameBook (writes w (of_call_letter w x k (Cdn own y))) (takes_cdn (took_one w x) x own y)
  unfolding takes_cdn took_one ends writes
  cdn_book x s e k own y st = by (ltb 0 y && eqb (w.calls.tunnel y) x) refl
    where
      by : (b : Bool) → (ltb 0 y && eqb (w.calls.tunnel y) x) ≡ b → SameBook (writes w (cond b (of_ending w y) [])) (takes_cdn (took_one w x) x own y)
      by true tested =
          let a = both (ltb 0 y) (eqb (w.calls.tunnel y) x) tested in
          ending_book w (takes_cdn (took_one w x) x own y) y record { tunnels = λ q. refl; links = λ q. refl; calls = λ z. ap (λ (b : Bool). cond b false (w.calls.booked z)) (one_named (eqb (w.calls.tunnel z) x) (ltb 0 y) (eqb z y) (ltb 0 own && eqb (w.calls.remote z) own) a.0 (λ i. ap (λ (q : ℕ). eqb (w.calls.tunnel q) x) (same z y i) ∙ a.1)); names = λ z. refl }
      by false tested = nothing_struck w (takes_cdn (took_one w x) x own y) (is_named w.calls x own y) (λ z i. let a = both (eqb (w.calls.tunnel z) x) (cond (ltb 0 y) (eqb z y) (ltb 0 own && eqb (w.calls.remote z) own)) i in none z a.0 (ltb 0 y) refl a.1) record { tunnels = λ q. refl; links = λ q. refl; calls = λ z. refl; names = λ z. refl }
        where
          none : (z : ℕ) → eqb (w.calls.tunnel z) x ≡ true → (q : Bool) → ltb 0 y ≡ q → cond q (eqb z y) (ltb 0 own && eqb (w.calls.remote z) own) ≡ true → w.calls.booked z ≡ false
          none z at true i g = absurd (let is : z ≡ y = same z y g in let t : eqb (w.calls.tunnel y) x ≡ true = ap (λ (q : ℕ). eqb (w.calls.tunnel q) x) (sym is) ∙ at in let f : true ≡ false = sym (ap (λ (q : Bool). q && eqb (w.calls.tunnel y) x) i ∙ t) ∙ tested in cc)
          none z at false i g = let a = both (ltb 0 own) (eqb (w.calls.remote z) own) g in unnamed s e k own z (subst (λ (q : ℕ). Stands w.channels s e k (Cdn own q)) (zero_name y i) st) (named own a.0) (same (w.calls.remote z) own a.1)

  -- a name that was never drawn isn't in the book
  new_unbooked : (z y : ℕ) → IsNew w.calls.drawn z → y ≡ z → w.calls.booked y ≡ true → ⊥
  new_unbooked z y n e b = no_way (w.calls.booked y) b (ap w.calls.booked e ∙ (h.sound.calls.nameless z n.undrawn).booked)

  call_letter_book : (x s e k z : ℕ) (l : Letter) → Takes all_rules w x s e k l → SameBook (writes w (of_call_letter w x k l)) (takes_open all_rules (took_one w x) x l z)
  unfolding takes_open answers_request takes_reply takes_connect answers_query takes_answer took_one gives writes keeps_call ends replies is_first_up is_second_up is_told
  call_letter_book x s e k z (Request own) t = chosen (λ (v : World). SameBook w v) (is_new w.calls.drawn z) _ _ (λ n. record { tunnels = λ y. refl; links = λ y q. refl; calls = λ y. refl; names = λ y q. at_name w.calls.remote z own y (λ v. w.calls.remote y ≡ v) (λ i. absurd (new_unbooked z y (new_tells w.calls.drawn z n) i q)) (λ i. refl) }) (λ n. chosen (λ (v : World). SameBook w v) (is_name z) _ _ (λ m. record { tunnels = λ y. refl; links = λ y q. refl; calls = λ y. refl; names = λ y q. refl }) (λ m. record { tunnels = λ y. refl; links = λ y q. refl; calls = λ y. refl; names = λ y q. refl }))
  call_letter_book x s e k z (Reply own y) t = choose (λ ks v. SameBook (writes w ks) v) (eqb (w.calls.tunnel y) x && waits_reply (w.calls.state y)) (CallUp y own k ∷ []) [] _ _ (λ n. let a = both (eqb (w.calls.tunnel y) x) (waits_reply (w.calls.state y)) n in subst (λ (u : World). SameBook u (gives (record w { channels = (took_one w x).channels; calls = is_first_up w.calls y own }) x (Connect own))) (sym (call_written w y own k (ap lives (reply_state (w.calls.state y) a.1)))) record { tunnels = λ q. refl; links = λ q i. refl; calls = λ q. refl; names = λ q i. refl }) (λ n. record { tunnels = λ q. refl; links = λ q i. refl; calls = λ q. refl; names = λ q i. refl })
  call_letter_book x s e k z (Connect y) t = choose (λ ks v. SameBook (writes w ks) v) (eqb (w.calls.tunnel y) x && waits_connect (w.calls.state y)) (CallUp y (w.calls.remote y) k ∷ []) [] _ _ (λ n. let a = both (eqb (w.calls.tunnel y) x) (waits_connect (w.calls.state y)) n in subst (λ (u : World). SameBook u (record w { channels = (took_one w x).channels; calls = is_second_up w.calls y })) (sym (call_written w y (w.calls.remote y) k (ap lives (connect_state (w.calls.state y) a.1)))) record { tunnels = λ q. refl; links = λ q i. refl; calls = λ q. refl; names = λ q i. assigned_here w.calls.remote y (w.calls.remote y) refl q }) (λ n. record { tunnels = λ q. refl; links = λ q i. refl; calls = λ q. refl; names = λ q i. refl })
  call_letter_book x s e k z (Cdn own y) t = cdn_book x s e k own y t.stands
  call_letter_book x s e k z (Fsr own y here) t = choose (λ ks v. SameBook (writes w ks) v) (not here && stands_with w.calls x y own) (of_ending w y) [] _ _ (λ n. ending_book w _ y record { tunnels = λ q. refl; links = λ q. refl; calls = λ q. refl; names = λ q. refl }) (λ n. record { tunnels = λ q. refl; links = λ q i. refl; calls = λ q. refl; names = λ q i. refl })
  call_letter_book x s e k z l t = record { tunnels = λ y. refl; links = λ y q. refl; calls = λ y. refl; names = λ y q. refl }

  took_book : (x : ℕ) → SameBook w (took_one w x)
  unfolding took_one
  took_book x = record { tunnels = λ y. refl; links = λ y q. refl; calls = λ y. refl; names = λ y q. refl }

  letter_book : (x s e k z : ℕ) (l : Letter) → Takes all_rules w x s e k l → is_stop l ≡ false → SameBook (writes w (of_letter w x s k l)) (takes all_rules (took_one w x) x s l z)
  unfolding takes took_one connects is_connected gives established_with established keeps_up writes
  letter_book x s e k z StopCcn t n = absurd cc
  letter_book x s e k z Sccrp t n = choose (λ ks v. SameBook (writes w ks) v) (is_wait_reply (w.tunnels.phase x)) (TunnelUp x s ∷ []) [] (connects (took_one w x) x s) (took_one w x) (λ b. subst (λ (u : World). SameBook u (connects (took_one w x) x s)) (sym (tunnel_written w x s (inl (h.sound.epochs.waits_reply x (reply_phase (w.tunnels.phase x) b)).1))) record { tunnels = λ y. refl; links = λ y q. refl; calls = λ y. refl; names = λ y q. refl }) (λ b. took_book x)
  letter_book x s e k z Scccn t n = choose (λ ks v. SameBook (writes w ks) v) (is_wait_connect (w.tunnels.phase x)) (TunnelUp x s ∷ []) [] (is_connected (took_one w x) x) (took_one w x) (λ b. let from = (connecting_end x s e k t).0 in subst (λ (u : World). SameBook u (is_connected (took_one w x) x)) (sym (tunnel_written w x s (inr from))) record { tunnels = λ y. refl; links = λ y q. assigned_here w.tunnels.learned x s from y; calls = λ y. refl; names = λ y q. refl }) (λ b. took_book x)
  letter_book x s e k z l t n = choose (λ ks v. SameBook (writes w ks) v) (is_open (w.tunnels.phase x)) (of_call_letter w x k l) [] (takes_open all_rules (took_one w x) x l z) (took_one w x) (λ b. call_letter_book x s e k z l t) (λ b. took_book x)

  pub delivery_book : (x s e k z : ℕ) (o : Option Letter) → slice_get (w.channels.sent s e) k ≡ o → SameBook (writes w (of_delivery w x s e k o)) (delivers all_rules w x s e k z o)
  unfolding of_delivery delivers writes
  delivery_book x s e k z None is = same_book w
  delivery_book x s e k z (Some StopCcn) is = choose (λ ks v. SameBook (writes w ks) v) (may_take all_rules w x s e k StopCcn) (of_leaving w x) [] (leaves w x Closed) w (λ b. leaving_book w x Closed h (inl (active_live (w.tunnels.phase x) (take_tells all_rules w x s e k StopCcn b is).active))) (λ b. same_book w)
  delivery_book x s e k z (Some l) is = choose (λ ks v. SameBook (writes w ks) v) (may_take all_rules w x s e k l) (of_letter w x s k l) [] (takes all_rules (took_one w x) x s l z) w (λ b. letter_book x s e k z l (take_tells all_rules w x s e k l b is) refl) (λ b. same_book w)
