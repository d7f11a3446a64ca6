-- A record that is written amid a step may be kept in the world before the step.
use Rattle.std.proofs.Common.{◌≡◌, ◌≢◌, ◌⊎◌, inl, inr, ⊎_elim, ℕ, ◌<◌, Bool, true, false, eqb, ltb, ◌&&◌, slice_get, Option, Some, refl, sym, ap, ◌∙◌, subst, arith}
use Rattle.epoch_machine.specs.Letters.{Letter, Sccrq, Sccrp, Scccn, StopCcn, Reply, Connect}
use Rattle.epoch_machine.specs.Tunnels.{Phase, Gone, WaitReply, WaitConnect, Open, is_live, is_open, is_wait_reply, is_wait_connect}
use Rattle.epoch_machine.specs.Channels.{Stands}
use Rattle.epoch_machine.specs.Calls.{CallState, Waits, WaitsReply, WaitsConnect, lives, waits_reply, waits_connect}
use Rattle.epoch_machine.specs.Worlds.{World, is_sccrp, is_scccn}
use Rattle.epoch_machine.specs.Moves.{Kept, TunnelUp, TunnelDown, CallUp, CallDown, may_keep, may_clear, is_there, is_reply, is_connect}
use Rattle.epoch_machine.proofs.Places.{stands_below}
use Rattle.epoch_machine.proofs.Tells.{both, either, no_way, same, same_test}
use Rattle.epoch_machine.proofs.Stops.{UpTells, up_tells, CallTells, call_tells}
use Rattle.letter_laws.proofs.Begins.{drawn_there}
use Rattle.coverage_laws.specs.Coverage.{fits}
use Rattle.coverage_laws.proofs.Runs.{Whole}
use Rattle.stop_laws.proofs.Lists.{all_of}
use Rattle.stop_laws.proofs.Allowed.{first, second, name_test}
use Rattle.stop_laws.proofs.Stays.{Stays}
use Rattle.stop_laws.proofs.Goings.{live_there}
use Rattle.stop_laws.proofs.Wrote.{Why}

-- what stands in the book amid a step was known before it
pub record InBook (w v : World) : Type 0 where
  pub tunnels : (x : ℕ) → v.tunnels.booked x ≡ true → (w.tunnels.booked x ≡ true) ⊎ (w.tunnels.phase x ≢ Gone)
  pub calls : (z : ℕ) → v.calls.booked z ≡ true → w.calls.drawn z ≡ true

live_phase : (p : Phase) → p ≢ Gone → is_live p ≡ true
live_phase Gone h = absurd (h refl)
live_phase p h = refl

drawn_or : (b : Bool) → (b ≡ false → ⊥) → b ≡ true
drawn_or true h = refl
drawn_or false h = absurd (h refl)

pub fits_reply : (p : Phase) → fits p WaitsReply ≡ true → p ≡ Open
fits_reply Open h = refl
fits_reply p h = absurd cc

pub fits_connect : (p : Phase) → fits p WaitsConnect ≡ true → p ≡ Open
fits_connect Open h = refl
fits_connect p h = absurd cc

-- what makes a record allowed
module _ (w : World) (n : ℕ) where
  replied_up : (x s : ℕ) → w.tunnels.node x ≡ n → s ≢ 0 → w.tunnels.learned s ≡ x → w.tunnels.phase x ≡ WaitReply → Stands w.channels s 0 0 Sccrp → may_keep w n (TunnelUp x s) ≡ true
  unfolding may_keep
  replied_up x s at name to p st =
      all_of (eqb (w.tunnels.node x) n) _ (same_test (w.tunnels.node x) n at)
      (all_of (ltb 0 s && eqb (w.tunnels.learned s) x) _ (all_of (ltb 0 s) (eqb (w.tunnels.learned s) x) (name_test s name) (same_test (w.tunnels.learned s) x to))
      (first (is_wait_reply (w.tunnels.phase x) && is_there is_sccrp (slice_get (w.channels.sent s 0) 0)) (is_wait_connect (w.tunnels.phase x) && is_there is_scccn (slice_get (w.channels.sent s 0) 1))
      (all_of (is_wait_reply (w.tunnels.phase x)) (is_there is_sccrp (slice_get (w.channels.sent s 0) 0)) (ap is_wait_reply p) (ap (is_there is_sccrp) st))))

  connected_up : (x s : ℕ) → w.tunnels.node x ≡ n → s ≢ 0 → w.tunnels.learned s ≡ x → w.tunnels.phase x ≡ WaitConnect → Stands w.channels s 0 1 Scccn → may_keep w n (TunnelUp x s) ≡ true
  unfolding may_keep
  connected_up x s at name to p st =
      all_of (eqb (w.tunnels.node x) n) _ (same_test (w.tunnels.node x) n at)
      (all_of (ltb 0 s && eqb (w.tunnels.learned s) x) _ (all_of (ltb 0 s) (eqb (w.tunnels.learned s) x) (name_test s name) (same_test (w.tunnels.learned s) x to))
      (second (is_wait_reply (w.tunnels.phase x) && is_there is_sccrp (slice_get (w.channels.sent s 0) 0)) (is_wait_connect (w.tunnels.phase x) && is_there is_scccn (slice_get (w.channels.sent s 0) 1))
      (all_of (is_wait_connect (w.tunnels.phase x)) (is_there is_scccn (slice_get (w.channels.sent s 0) 1)) (ap is_wait_connect p) (ap (is_there is_scccn) st))))

  abbrev there : ℕ → ℕ → Option Letter
  there z k = slice_get (w.channels.sent (w.tunnels.learned (w.calls.tunnel z)) (w.tunnels.entered (w.calls.tunnel z))) k

  first_up : (z own k : ℕ) → w.tunnels.node (w.calls.tunnel z) ≡ n → w.tunnels.phase (w.calls.tunnel z) ≡ Open → w.calls.state z ≡ WaitsReply → Stands w.channels (w.tunnels.learned (w.calls.tunnel z)) (w.tunnels.entered (w.calls.tunnel z)) k (Reply own z) → may_keep w n (CallUp z own k) ≡ true
  unfolding may_keep
  first_up z own k at p waiting st =
      all_of (eqb (w.tunnels.node (w.calls.tunnel z)) n) _ (same_test (w.tunnels.node (w.calls.tunnel z)) n at)
      (all_of (is_open (w.tunnels.phase (w.calls.tunnel z))) _ (ap is_open p)
      (first (waits_reply (w.calls.state z) && is_there (is_reply own z) (there z k)) (waits_connect (w.calls.state z) && (eqb (w.calls.remote z) own && is_there (is_connect z) (there z k)))
      (all_of (waits_reply (w.calls.state z)) (is_there (is_reply own z) (there z k)) (ap waits_reply waiting) (ap (is_there (is_reply own z)) st ∙ all_of (eqb own own) (eqb z z) (same_test own own refl) (same_test z z refl)))))

  second_up : (z own k : ℕ) → w.tunnels.node (w.calls.tunnel z) ≡ n → w.tunnels.phase (w.calls.tunnel z) ≡ Open → w.calls.state z ≡ WaitsConnect → w.calls.remote z ≡ own → Stands w.channels (w.tunnels.learned (w.calls.tunnel z)) (w.tunnels.entered (w.calls.tunnel z)) k (Connect z) → may_keep w n (CallUp z own k) ≡ true
  unfolding may_keep
  second_up z own k at p waiting known st =
      all_of (eqb (w.tunnels.node (w.calls.tunnel z)) n) _ (same_test (w.tunnels.node (w.calls.tunnel z)) n at)
      (all_of (is_open (w.tunnels.phase (w.calls.tunnel z))) _ (ap is_open p)
      (second (waits_reply (w.calls.state z) && is_there (is_reply own z) (there z k)) (waits_connect (w.calls.state z) && (eqb (w.calls.remote z) own && is_there (is_connect z) (there z k)))
      (all_of (waits_connect (w.calls.state z)) (eqb (w.calls.remote z) own && is_there (is_connect z) (there z k)) (ap waits_connect waiting) (all_of (eqb (w.calls.remote z) own) (is_there (is_connect z) (there z k)) (same_test (w.calls.remote z) own known) (ap (is_there (is_connect z)) st ∙ same_test z z refl)))))

module _ (w v : World) (h : Whole w) (hv : Whole v) (st : Stays w v) (ib : InBook w v) (n : ℕ) where
  named_drawn : (x : ℕ) → w.tunnels.learned x ≢ 0 → w.tunnels.drawn x ≡ true
  named_drawn x l = drawn_or (w.tunnels.drawn x) (λ e. l (h.sound.epochs.nameless x e).learned)

  booked_drawn : (x : ℕ) → v.tunnels.booked x ≡ true → w.tunnels.drawn x ≡ true
  booked_drawn x b = ⊎_elim (λ c. drawn_or (w.tunnels.drawn x) (λ e. no_way (w.tunnels.booked x) c (h.sound.epochs.nameless x e).booked)) (λ c. drawn_there w.tunnels x h.sound.epochs c) (ib.tunnels x b)

  -- the sender of an SCCRP had learned its opener before the step
  replier : (s : ℕ) → Stands w.channels s 0 0 Sccrp → v.tunnels.learned s ≡ w.tunnels.learned s
  replier s at = ⊎_elim (λ a. a) (λ a. absurd (not_opener 0 refl (h.sound.given.opener_first s 0 Sccrp (h.sound.epochs.waits_reply s a).0 at))) (st.tunnels.learned s (h.sound.given.given_drawn s 0 0 Sccrp at))
    where
      not_opener : (k : ℕ) → k ≡ 0 → ((k ≡ 0) × (Sccrp ≡ Sccrq)) ⊎ (((k ≡ 1) × ((Sccrp ≡ Scccn) ⊎ (Sccrp ≡ StopCcn))) ⊎ (1 < k)) → ⊥
      not_opener k z (inl a) = let b = a.1 in cc
      not_opener k z (inr (inl a)) = let b = a.0 in omega (arith, z, b)
      not_opener k z (inr (inr a)) = omega (arith, z, a)

  -- so had that of an SCCCN learned its acceptor
  connecter : (s : ℕ) → Stands w.channels s 0 1 Scccn → v.tunnels.learned s ≡ w.tunnels.learned s
  connecter s at = ⊎_elim (λ a. a) (λ a. absurd (let l = (h.sound.given.waits_reply s a).1 in let b = stands_below w.channels s 0 1 Scccn at in omega (arith, l, b))) (st.tunnels.learned s (h.sound.given.given_drawn s 0 1 Scccn at))

  up_early : (x s : ℕ) → UpTells v n x s → Why w v (TunnelUp x s) → may_keep w n (TunnelUp x s) ≡ true
  up_early x s t why = by t.why
    where
      drawn_of : w.tunnels.learned s ≡ x → x ≢ 0 → w.tunnels.drawn x ≡ true
      drawn_of e n0 = subst (λ (q : ℕ). w.tunnels.drawn q ≡ true) e (h.sound.epochs.learned_drawn s (λ i. n0 (sym e ∙ i)))

      no_zero : v.tunnels.phase x ≢ Gone → x ≢ 0
      no_zero p e = p ((hv.sound.epochs.nameless x (ap v.tunnels.drawn e ∙ hv.sound.epochs.zero)).phase)

      by : ((v.tunnels.phase x ≡ WaitReply) × Stands v.channels s 0 0 Sccrp) ⊎ ((v.tunnels.phase x ≡ WaitConnect) × Stands v.channels s 0 1 Scccn) → may_keep w n (TunnelUp x s) ≡ true
      by (inl a) =
          let there_w = why.0 a.0 in
          let to : w.tunnels.learned s ≡ x = sym (replier s there_w) ∙ t.learns in
          let d = drawn_of to (no_zero (λ e. (let i = a.0 in cc))) in
          replied_up w n x s (sym (st.tunnels.node x d) ∙ t.node) t.sender to (st.tunnels.waits_reply x d a.0) there_w
      by (inr a) =
          let there_w = why.1 a.0 in
          let to : w.tunnels.learned s ≡ x = sym (connecter s there_w) ∙ t.learns in
          let d = drawn_of to (no_zero (λ e. (let i = a.0 in cc))) in
          connected_up w n x s (sym (st.tunnels.node x d) ∙ t.node) t.sender to (st.tunnels.waits_connect x d a.0) there_w

  down_early : (x : ℕ) → may_keep v n (TunnelDown x) ≡ true → v.tunnels.booked x ≡ true → may_keep w n (TunnelDown x) ≡ true
  unfolding may_keep may_clear
  down_early x may b =
      let a = both (eqb (v.tunnels.node x) n) (may_clear v x) may in
      let d = booked_drawn x b in
      let at : w.tunnels.node x ≡ n = sym (st.tunnels.node x d) ∙ same (v.tunnels.node x) n a.0 in
      let lives : w.tunnels.phase x ≢ Gone → may_clear w x ≡ true = λ p. first (is_live (w.tunnels.phase x)) (w.tunnels.booked x && w.tunnels.up (w.tunnels.node x)) (live_phase (w.tunnels.phase x) p) in
      all_of (eqb (w.tunnels.node x) n) (may_clear w x) (same_test (w.tunnels.node x) n at)
      (⊎_elim
      (λ booked. ⊎_elim
      (λ alive. lives (st.tunnels.live x d (live_there (v.tunnels.phase x) alive)))
      (λ there. let up = (both (v.tunnels.booked x) (v.tunnels.up (v.tunnels.node x)) there).1 in second (is_live (w.tunnels.phase x)) (w.tunnels.booked x && w.tunnels.up (w.tunnels.node x)) (all_of (w.tunnels.booked x) (w.tunnels.up (w.tunnels.node x)) booked (ap w.tunnels.up (sym (st.tunnels.node x d)) ∙ sym (st.tunnels.up (v.tunnels.node x)) ∙ up)))
      (either (is_live (v.tunnels.phase x)) (v.tunnels.booked x && v.tunnels.up (v.tunnels.node x)) a.1))
      lives
      (ib.tunnels x b))

  -- the tunnel of a call that was drawn
  its_node : (z : ℕ) → w.calls.drawn z ≡ true → v.tunnels.node (v.calls.tunnel z) ≡ n → w.tunnels.node (w.calls.tunnel z) ≡ n
  its_node z d at = sym (st.tunnels.node (w.calls.tunnel z) (h.sound.calls.tunnel_drawn z d)) ∙ ap v.tunnels.node (sym (st.calls.tunnel z d)) ∙ at

  ended_early : (z : ℕ) → may_keep v n (CallDown z) ≡ true → v.calls.booked z ≡ true → may_keep w n (CallDown z) ≡ true
  unfolding may_keep
  ended_early z may b =
      let a = both (eqb (v.tunnels.node (v.calls.tunnel z)) n) (lives (v.calls.state z)) may in
      let d = ib.calls z b in
      all_of (eqb (w.tunnels.node (w.calls.tunnel z)) n) (lives (w.calls.state z)) (same_test (w.tunnels.node (w.calls.tunnel z)) n (its_node z d (same (v.tunnels.node (v.calls.tunnel z)) n a.0))) (st.calls.lives z d a.1)

  -- a young call, and its letter, are of the same epoch before the step and amid it
  same_place : (z k : ℕ) (l : Letter) → w.calls.drawn z ≡ true → w.tunnels.phase (w.calls.tunnel z) ≡ Open → w.calls.made z ≡ Some (w.tunnels.entered (w.calls.tunnel z)) → v.calls.made z ≡ Some (v.tunnels.entered (v.calls.tunnel z)) → v.calls.made z ≡ w.calls.made z → Stands w.channels (v.tunnels.learned (v.calls.tunnel z)) (v.tunnels.entered (v.calls.tunnel z)) k l → Stands w.channels (w.tunnels.learned (w.calls.tunnel z)) (w.tunnels.entered (w.calls.tunnel z)) k l
  same_place z k l d p young_w young_v made at =
      let learned : v.tunnels.learned (v.calls.tunnel z) ≡ w.tunnels.learned (w.calls.tunnel z) = ap v.tunnels.learned (st.calls.tunnel z d) ∙ ⊎_elim (λ a. a) (λ a. absurd (let i : WaitReply ≡ Open = sym a ∙ p in cc)) (st.tunnels.learned (w.calls.tunnel z) (h.sound.calls.tunnel_drawn z d)) in
      let epoch : v.tunnels.entered (v.calls.tunnel z) ≡ w.tunnels.entered (w.calls.tunnel z) = let i : Some (v.tunnels.entered (v.calls.tunnel z)) ≡ Some (w.tunnels.entered (w.calls.tunnel z)) = sym young_v ∙ made ∙ young_w in cc in
      subst (λ (q : ℕ). Stands w.channels (w.tunnels.learned (w.calls.tunnel z)) q k l) epoch (subst (λ (q : ℕ). Stands w.channels q (v.tunnels.entered (v.calls.tunnel z)) k l) learned at)

  young_at : (u : World) → Whole u → (z : ℕ) → (u.calls.state z ≡ WaitsReply) ⊎ (u.calls.state z ≡ WaitsConnect) → (u.tunnels.phase (u.calls.tunnel z) ≡ Open) × (u.calls.made z ≡ Some (u.tunnels.entered (u.calls.tunnel z)))
  young_at u hu z (inl s) = let p = fits_reply (u.tunnels.phase (u.calls.tunnel z)) (subst (λ (q : CallState). fits (u.tunnels.phase (u.calls.tunnel z)) q ≡ true) s (hu.states.state_fits z)) in (p, hu.states.young z p (rw s refl))
  young_at u hu z (inr s) = let p = fits_connect (u.tunnels.phase (u.calls.tunnel z)) (subst (λ (q : CallState). fits (u.tunnels.phase (u.calls.tunnel z)) q ≡ true) s (hu.states.state_fits z)) in (p, hu.states.young z p (rw s refl))

  call_early : (z own k : ℕ) → CallTells v n z own k → Why w v (CallUp z own k) → may_keep w n (CallUp z own k) ≡ true
  call_early z own k t why = by t.why
    where
      by : ((v.calls.state z ≡ WaitsReply) × Stands v.channels (v.tunnels.learned (v.calls.tunnel z)) (v.tunnels.entered (v.calls.tunnel z)) k (Reply own z)) ⊎ ((v.calls.state z ≡ WaitsConnect) × (v.calls.remote z ≡ own) × Stands v.channels (v.tunnels.learned (v.calls.tunnel z)) (v.tunnels.entered (v.calls.tunnel z)) k (Connect z)) → may_keep w n (CallUp z own k) ≡ true
      by (inl a) =
          let at = why.0 a.0 in
          let m = h.sound.meant.means (v.tunnels.learned (v.calls.tunnel z)) (v.tunnels.entered (v.calls.tunnel z)) k (Reply own z) at in
          let mated : w.calls.mate own ≢ 0 = λ e. m.0 (sym m.1 ∙ e) in
          let d : w.calls.drawn z ≡ true = subst (λ (q : ℕ). w.calls.drawn q ≡ true) m.1 (h.sound.calls.mate_drawn own mated) in
          let made : w.calls.made z ≡ w.calls.made own = ap w.calls.made (sym m.1) ∙ sym (h.sound.calls.mate_made own mated).0 in
          let asked : w.calls.state z ≢ Waits = λ e. (h.sound.calls.mate_made own mated).1 (sym made ∙ (h.sound.calls.waits z e).0) in
          let was = ⊎_elim (λ i. i) (λ i. absurd (asked i)) (st.calls.asked z d a.0) in
          let before = young_at w h z (inl was.0) in
          let now = young_at v hv z (inl a.0) in
          first_up w n z own k (its_node z d t.node) before.0 was.0 (same_place z k (Reply own z) d before.0 before.1 now.1 was.1 at)
      by (inr a) =
          let at = why.1 a.0 in
          let m = h.sound.meant.means (v.tunnels.learned (v.calls.tunnel z)) (v.tunnels.entered (v.calls.tunnel z)) k (Connect z) at in
          let d : w.calls.drawn z ≡ true = drawn_or (w.calls.drawn z) (λ e. m.0 (h.sound.calls.nameless z e).mate) in
          let was = st.calls.replied z d a.0 in
          let before = young_at w h z (inr was.0) in
          let now = young_at v hv z (inr a.0) in
          second_up w n z own k (its_node z d t.node) before.0 was.0 (sym was.2 ∙ a.1) (same_place z k (Connect z) d before.0 before.1 now.1 was.1 at)

  pub early : (k : Kept) → may_keep v n k ≡ true → Why w v k → may_keep w n k ≡ true
  early (TunnelUp x s) may why = up_early x s (up_tells v n x s may) why
  early (TunnelDown x) may why = down_early x may why
  early (CallUp z own k) may why = call_early z own k (call_tells v n z own k may) why
  early (CallDown z) may why = ended_early z may why
