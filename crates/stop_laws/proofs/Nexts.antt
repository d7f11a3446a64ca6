-- One record, written amid a step and in the world before it, where the records before it were written too.
use Rattle.std.proofs.Common.{◌≡◌, ◌≢◌, ◌⊎◌, inl, inr, ⊎_elim, ℕ, Bool, true, false, cond, eqb, [], ◌∷◌, refl, sym, ap, ◌∙◌, subst, arith}
use Rattle.std.proofs.lemmas.Bool.Decides.{nat_tests}
use Rattle.epoch_machine.specs.Tunnels.{Phase, Gone, WaitReply, WaitConnect, Open, Closed, Attempts, Answers, is_established, keeps_up, keeps_down}
use Rattle.epoch_machine.specs.Channels.{Stands}
use Rattle.epoch_machine.specs.Letters.{Sccrp, Scccn}
use Rattle.epoch_machine.specs.Calls.{CallState, NoCall, Waits, WaitsReply, WaitsConnect, Up, lives, ends, keeps_call}
use Rattle.epoch_machine.specs.Worlds.{World}
use Rattle.epoch_machine.specs.Moves.{Kept, TunnelUp, TunnelDown, CallUp, CallDown, may_keep, keeps}
use Rattle.epoch_machine.proofs.Splits.{chosen, at_name}
use Rattle.epoch_machine.proofs.Tells.{both, no_way, same}
use Rattle.epoch_machine.proofs.Stops.{UpTells, up_tells, CallTells, call_tells}
use Rattle.coverage_laws.specs.Coverage.{fits}
use Rattle.coverage_laws.proofs.Runs.{Whole}
use Rattle.stop_laws.specs.Records.{writes, SameBook}
use Rattle.stop_laws.proofs.Steps.{tunnel_written, call_written}
use Rattle.stop_laws.proofs.Stays.{Stays}
use Rattle.stop_laws.proofs.Booked.{IsBooked}
use Rattle.stop_laws.proofs.Wrote.{Why}
use Rattle.stop_laws.proofs.Early.{InBook}

-- b is the world before the step, w, with the records that were written until now, v
pub record Follows (w v b : World) : Type 0 where
  pub alike : SameBook b v
  pub learned : (x : ℕ) → b.tunnels.learned x ≢ 0 → b.tunnels.learned x ≡ v.tunnels.learned x
  pub tunnel : (z : ℕ) → b.calls.tunnel z ≡ w.calls.tunnel z
  pub lives : (z : ℕ) → w.calls.drawn z ≡ true → lives (v.calls.state z) ≡ true → lives (b.calls.state z) ≡ true

pub book_on : (a b c : World) → SameBook a b → SameBook b c → SameBook a c
book_on a b c p q = record { tunnels = λ x. p.tunnels x ∙ q.tunnels x; links = λ x h. p.links x (q.tunnels x ∙ h) ∙ q.links x h; calls = λ z. p.calls z ∙ q.calls z; names = λ z h. p.names z (q.calls z ∙ h) ∙ q.names z h }

waiting_only : (p : Phase) (s : CallState) → fits p s ≡ true → lives s ≡ true → is_established p ≡ false → p ≡ WaitReply
waiting_only WaitReply s f l e = refl
waiting_only Gone NoCall f l e = absurd cc
waiting_only Gone Waits f l e = absurd cc
waiting_only Gone WaitsReply f l e = absurd cc
waiting_only Gone WaitsConnect f l e = absurd cc
waiting_only Gone Up f l e = absurd cc
waiting_only WaitConnect NoCall f l e = absurd cc
waiting_only WaitConnect Waits f l e = absurd cc
waiting_only WaitConnect WaitsReply f l e = absurd cc
waiting_only WaitConnect WaitsConnect f l e = absurd cc
waiting_only WaitConnect Up f l e = absurd cc
waiting_only Closed NoCall f l e = absurd cc
waiting_only Closed Waits f l e = absurd cc
waiting_only Closed WaitsReply f l e = absurd cc
waiting_only Closed WaitsConnect f l e = absurd cc
waiting_only Closed Up f l e = absurd cc
waiting_only Open s f l e = absurd cc
waiting_only (Attempts a) s f l e = absurd cc
waiting_only (Answers c) s f l e = absurd cc

not_gone : (p : Phase) (s : CallState) → fits p s ≡ true → lives s ≡ true → p ≢ Gone
not_gone p NoCall f l e = absurd cc
not_gone Gone Waits f l e = absurd cc
not_gone Gone WaitsReply f l e = absurd cc
not_gone Gone WaitsConnect f l e = absurd cc
not_gone Gone Up f l e = absurd cc
not_gone WaitReply s f l e = cc
not_gone WaitConnect s f l e = cc
not_gone Open s f l e = cc
not_gone Closed s f l e = cc
not_gone (Attempts a) s f l e = cc
not_gone (Answers c) s f l e = cc

pub off : (b : Bool) → (b ≡ true) ⊎ (b ≡ false)
off true = inl refl
off false = inr refl

struck : (a b p q : Bool) → (q ≡ true → a ≡ b) → p ≡ q → cond a false p ≡ cond b false q
struck a b p true h e = ap (λ (d : Bool). cond d false p) (h refl) ∙ ap (λ (d : Bool). cond b false d) e
struck true true p false h e = refl
struck true false p false h e = refl
struck false true p false h e = e
struck false false p false h e = e

pub still : (a p : Bool) → cond a false p ≡ true → p ≡ true
still true p h = absurd cc
still false p h = h

-- a call that may come up was drawn
pub up_drawn : (w : World) → Whole w → (n z own k : ℕ) → may_keep w n (CallUp z own k) ≡ true → w.calls.drawn z ≡ true
up_drawn w h n z own k may = ⊎_elim (λ i. i) (λ i. absurd (let e = (h.sound.calls.nameless z i).state in ⊎_elim (λ a. (let j = a.0 in cc)) (λ a. (let j = a.0 in cc)) (call_tells w n z own k may).why)) (off (w.calls.drawn z))

module _ (w v b : World) (h : Whole w) (hv : Whole v) (st : Stays w v) (ib : InBook w v) (f : Follows w v b) (n : ℕ) where
  -- who comes up hasn't learned another end
  learns : (x s : ℕ) → UpTells v n x s → (v.tunnels.learned x ≡ 0) ⊎ (v.tunnels.learned x ≡ s)
  learns x s t = by t.why
    where
      by : ((v.tunnels.phase x ≡ WaitReply) × Stands v.channels s 0 0 Sccrp) ⊎ ((v.tunnels.phase x ≡ WaitConnect) × Stands v.channels s 0 1 Scccn) → (v.tunnels.learned x ≡ 0) ⊎ (v.tunnels.learned x ≡ s)
      by (inl a) = inl (hv.sound.epochs.waits_reply x a.0).1
      by (inr a) = inr (who (v.tunnels.opener s) refl)
        where
          some : v.tunnels.learned s ≢ 0
          some e = let i : v.tunnels.phase 0 ≡ Gone = (hv.sound.epochs.nameless 0 hv.sound.epochs.zero).phase in let j : v.tunnels.phase 0 ≡ WaitConnect = ap v.tunnels.phase (sym e ∙ t.learns) ∙ a.0 in cc

          who : (o : Bool) → v.tunnels.opener s ≡ o → v.tunnels.learned x ≡ s
          who true o = ap v.tunnels.learned (sym t.learns) ∙ (hv.sound.epochs.opener_linked s o some).back
          who false o = absurd (no_way (v.tunnels.opener x) (ap v.tunnels.opener (sym t.learns) ∙ hv.sound.epochs.acceptor_learned s o some) (hv.sound.epochs.waits_connect x a.0).0)

  learned_too : (x s : ℕ) → (v.tunnels.learned x ≡ 0) ⊎ (v.tunnels.learned x ≡ s) → (b.tunnels.learned x ≡ 0) ⊎ (b.tunnels.learned x ≡ s)
  learned_too x s l = let k = f.learned x in grind (arith, nat_tests)

  young : (z own k : ℕ) → CallTells v n z own k → (w.calls.drawn z ≡ true) → (lives (v.calls.state z) ≡ true) × (lives (b.calls.state z) ≡ true)
  young z own k t d = let a = ⊎_elim (λ i. ap lives i.0) (λ i. ap lives i.0) t.why in (a, f.lives z d a)

  module _ (u : World) (hu : Whole u) (iu : IsBooked u) (su : Stays v u) where
    learned_on : (x : ℕ) → b.tunnels.learned x ≢ 0 → b.tunnels.learned x ≡ u.tunnels.learned x
    learned_on x l =
        let e = f.learned x l in
        let named : v.tunnels.learned x ≢ 0 = λ i. l (e ∙ i) in
        let d : v.tunnels.drawn x ≡ true = ⊎_elim (λ i. i) (λ i. absurd (named (hv.sound.epochs.nameless x i).learned)) (off (v.tunnels.drawn x)) in
        e ∙ ⊎_elim (λ i. sym i) (λ i. absurd (named (hv.sound.epochs.waits_reply x i).1)) (su.tunnels.learned x d)

    lives_on : (z : ℕ) → w.calls.drawn z ≡ true → lives (u.calls.state z) ≡ true → lives (b.calls.state z) ≡ true
    lives_on z d l = f.lives z d (su.calls.lives z (st.calls.drawn z d) l)

    pub nothing_next : SameBook v u → Follows w u b
    nothing_next sb = record { alike = book_on b v u f.alike sb; learned = learned_on; tunnel = f.tunnel; lives = lives_on }

    up_written : (x s : ℕ) → SameBook (record v { tunnels = keeps_up v.tunnels x s }) u → Follows w u (record b { tunnels = keeps_up b.tunnels x s })
    unfolding keeps_up
    up_written x s q =
        let a = f.alike in
        let t = a.tunnels in
        let l = a.links in
        let qt = q.tunnels in
        let ql = q.links in
        let lo = learned_on in
        record {
          alike = book_on (record b { tunnels = keeps_up b.tunnels x s }) (record v { tunnels = keeps_up v.tunnels x s }) u record { tunnels = grind (arith, nat_tests); links = grind (arith, nat_tests); calls = a.calls; names = a.names } q;
          learned = grind (arith, nat_tests);
          tunnel = f.tunnel;
          lives = lives_on;
        }

    up_next : (x s : ℕ) → may_keep v n (TunnelUp x s) ≡ true → SameBook (writes v (TunnelUp x s ∷ [])) u → Follows w u (writes b (TunnelUp x s ∷ []))
    up_next x s may sb =
        let l = learns x s (up_tells v n x s may) in
        subst (λ (q : World). Follows w u q) (sym (tunnel_written b x s (learned_too x s l))) (up_written x s (subst (λ (q : World). SameBook q u) (tunnel_written v x s l) sb))

    call_written_too : (z own : ℕ) → SameBook (record v { calls = keeps_call v.calls z own }) u → Follows w u (record b { calls = keeps_call b.calls z own })
    unfolding keeps_call
    call_written_too z own q =
        let a = f.alike in
        let c = a.calls in
        let m = a.names in
        record {
          alike = book_on (record b { calls = keeps_call b.calls z own }) (record v { calls = keeps_call v.calls z own }) u record { tunnels = a.tunnels; links = a.links; calls = grind (arith, nat_tests); names = grind (arith, nat_tests) } q;
          learned = learned_on;
          tunnel = f.tunnel;
          lives = lives_on;
        }

    call_next : (z own k : ℕ) → w.calls.drawn z ≡ true → may_keep v n (CallUp z own k) ≡ true → SameBook (writes v (CallUp z own k ∷ [])) u → Follows w u (writes b (CallUp z own k ∷ []))
    call_next z own k d may sb =
        let l = young z own k (call_tells v n z own k may) d in
        subst (λ (q : World). Follows w u q) (sym (call_written b z own k l.1)) (call_written_too z own (subst (λ (q : World). SameBook q u) (call_written v z own k l.0) sb))

    -- a tunnel that left has no call that lives
    left_none : (x z : ℕ) → v.tunnels.booked x ≡ true → u.tunnels.booked x ≡ false → u.calls.tunnel z ≡ x → lives (u.calls.state z) ≡ true → ⊥
    left_none x z b0 b1 at l = by (off (is_established (u.tunnels.phase x)))
      where
        drawn : v.tunnels.drawn x ≡ true
        drawn = ⊎_elim (λ i. i) (λ i. absurd (no_way (v.tunnels.booked x) b0 (hv.sound.epochs.nameless x i).booked)) (off (v.tunnels.drawn x))

        by : (is_established (u.tunnels.phase x) ≡ true) ⊎ (is_established (u.tunnels.phase x) ≡ false) → ⊥
        by (inl e) = no_way (u.tunnels.booked x) (iu.booked x e) b1
        by (inr e) =
            let p : u.tunnels.phase x ≡ WaitReply = waiting_only (u.tunnels.phase x) (u.calls.state z) (subst (λ (q : ℕ). fits (u.tunnels.phase q) (u.calls.state z) ≡ true) at (hu.states.state_fits z)) l e in
            (hv.sound.epochs.booked_linked x b0).to_name (hv.sound.epochs.waits_reply x (su.tunnels.waits_reply x drawn p)).1

    down_next : (x : ℕ) → v.tunnels.booked x ≡ true → SameBook (writes v (TunnelDown x ∷ [])) u → Follows w u (writes b (TunnelDown x ∷ []))
    unfolding writes keeps keeps_down ends
    down_next x b0 sb =
        let a = f.alike in
        let t = a.tunnels in
        let l = a.links in
        record {
          alike = book_on _ _ u record { tunnels = grind (arith, nat_tests); links = grind (arith, nat_tests); calls = λ z. struck (eqb (b.calls.tunnel z) x) (eqb (v.calls.tunnel z) x) (b.calls.booked z) (v.calls.booked z) (λ i. ap (λ (q : ℕ). eqb q x) (f.tunnel z ∙ sym (st.calls.tunnel z (ib.calls z i)))) (a.calls z); names = λ z i. a.names z (still (eqb (v.calls.tunnel z) x) (v.calls.booked z) i) } sb;
          learned = learned_on;
          tunnel = f.tunnel;
          lives = λ z d alive. chosen (λ (s : CallState). lives s ≡ true) (eqb (b.calls.tunnel z) x) NoCall (b.calls.state z) (λ i. absurd (left_none x z b0 gone (su.calls.tunnel z (st.calls.drawn z d) ∙ st.calls.tunnel z d ∙ sym (f.tunnel z) ∙ same (b.calls.tunnel z) x i) alive)) (λ i. lives_on z d alive);
        }
      where
        gone : u.tunnels.booked x ≡ false
        gone = sym (sb.tunnels x) ∙ at_name v.tunnels.booked x false x (λ (q : Bool). q ≡ false) (λ i. refl) (λ i. absurd (i refl))

    -- a call that ended doesn't live
    ended_none : (z : ℕ) → v.calls.booked z ≡ true → lives (v.calls.state z) ≡ true → u.calls.booked z ≡ false → lives (u.calls.state z) ≡ true → ⊥
    ended_none z b0 l0 b1 l1 = by (u.calls.state z) refl l1
      where
        drawn : v.calls.drawn z ≡ true
        drawn = ⊎_elim (λ i. i) (λ i. absurd (no_way (v.calls.booked z) b0 (hv.sound.calls.nameless z i).booked)) (off (v.calls.drawn z))

        up : v.calls.state z ≡ Up
        up = hv.states.booked_lives z b0 (not_gone (v.tunnels.phase (v.calls.tunnel z)) (v.calls.state z) (hv.states.state_fits z) l0)

        by : (s : CallState) → u.calls.state z ≡ s → lives s ≡ true → ⊥
        by NoCall e l = absurd cc
        by Waits e l = let i : Up ≡ Waits = sym up ∙ su.calls.waits z drawn e in cc
        by WaitsReply e l = ⊎_elim (λ j. (let i : Up ≡ WaitsReply = sym up ∙ j.0 in cc)) (λ j. (let i : Up ≡ Waits = sym up ∙ j in cc)) (su.calls.asked z drawn e)
        by WaitsConnect e l = let i : Up ≡ WaitsConnect = sym up ∙ (su.calls.replied z drawn e).0 in cc
        by Up e l = no_way (u.calls.booked z) (hu.sound.calls.up_booked z e) b1

    ended_next : (z : ℕ) → v.calls.booked z ≡ true → may_keep v n (CallDown z) ≡ true → SameBook (writes v (CallDown z ∷ [])) u → Follows w u (writes b (CallDown z ∷ []))
    unfolding writes keeps ends may_keep
    ended_next z b0 may sb =
        let a = f.alike in
        let l0 = (both (eqb (v.tunnels.node (v.calls.tunnel z)) n) (lives (v.calls.state z)) may).1 in
        record {
          alike = book_on _ _ u record { tunnels = a.tunnels; links = a.links; calls = λ y. ap (λ (q : Bool). cond (eqb y z) false q) (a.calls y); names = λ y i. a.names y (still (eqb y z) (v.calls.booked y) i) } sb;
          learned = learned_on;
          tunnel = f.tunnel;
          lives = λ y d alive. chosen (λ (s : CallState). lives s ≡ true) (eqb y z) NoCall (b.calls.state y) (λ i. absurd (ended_none z b0 l0 gone (subst (λ (q : ℕ). lives (u.calls.state q) ≡ true) (same y z i) alive))) (λ i. lives_on y d alive);
        }
      where
        gone : u.calls.booked z ≡ false
        gone = sym (sb.calls z) ∙ grind (arith, nat_tests)

    pub one_next : (k : Kept) → may_keep v n k ≡ true → may_keep w n k ≡ true → Why w v k → SameBook (writes v (k ∷ [])) u → Follows w u (writes b (k ∷ []))
    one_next (TunnelUp x s) may first why sb = up_next x s may sb
    one_next (TunnelDown x) may first why sb = down_next x why sb
    one_next (CallUp z own k) may first why sb = call_next z own k (up_drawn w h n z own k first) may sb
    one_next (CallDown z) may first why sb = ended_next z why may sb
