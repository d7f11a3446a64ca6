-- A node's fall keeps what holds of queries.
use Rattle.std.proofs.Common.{◌≡◌, ◌⊎◌, inl, inr, ⊎_elim, ℕ, Bool, true, false, cond, eqb, not, ◌&&◌, ◌||◌, List, Some, refl, sym, ap, ◌∙◌, subst, arith}
use Rattle.epoch_machine.specs.Letters.{Letter, Hello}
use Rattle.epoch_machine.specs.Tunnels.{Tunnels, Gone, Open, goes_down}
use Rattle.epoch_machine.specs.Channels.{Channels, Stands}
use Rattle.epoch_machine.specs.Calls.{Calls, NoCall, Up, lives, ends, loses, keeps_call, of_tunnel, is_call}
use Rattle.epoch_machine.specs.Worlds.{World}
use Rattle.epoch_machine.specs.Moves.{Kept, falls, keeps_all}
use Rattle.epoch_machine.proofs.Tells.{same, same_test}
use Rattle.epoch_laws.proofs.Growth.{TunnelsGrow}
use Rattle.birth_laws.proofs.Growths.{idle_grows}
use Rattle.birth_laws.proofs.Steps.{known}
use Rattle.birth_laws.proofs.Runs.{Sound}
use Rattle.coverage_laws.specs.Coverage.{LivedIn, StatesHold, QueriesHold}
use Rattle.coverage_laws.proofs.Inputs.{WasOpen}
use Rattle.coverage_laws.proofs.Takings.{none_taken}
use Rattle.coverage_laws.proofs.Present.{Connected, Asked, Ended}
use Rattle.coverage_laws.proofs.Simple.{puts_quiet, tooks_quiet, finish_same, was_open}
use Rattle.epoch_machine.specs.Moves.{TunnelDown, keeps}
use Rattle.epoch_machine.specs.Tunnels.{keeps_up, keeps_down}
use Rattle.epoch_machine.proofs.Stops.{amid_first, all_kept, ended_tells}
use Rattle.birth_laws.proofs.Stops.{of_node, Fallen, fallen}
use Rattle.coverage_laws.proofs.Openings.{nameless}

-- between the records of a stop: phases and nodes are as before, and what is over was over, or is the node's
record Beside (before v : World) (n : ℕ) : Type 0 where
  phase : (x : ℕ) → v.tunnels.phase x ≡ before.tunnels.phase x
  node : (x : ℕ) → v.tunnels.node x ≡ before.tunnels.node x
  tunnel : (z : ℕ) → v.calls.tunnel z ≡ before.calls.tunnel z
  over : (z : ℕ) → v.calls.over z ≡ true → (before.calls.over z ≡ true) ⊎ (before.tunnels.node (before.calls.tunnel z) ≡ n)

beside_up : (before v : World) (n x s : ℕ) → Beside before v n → Beside before (record v { tunnels = keeps_up v.tunnels x s }) n
unfolding keeps_up
beside_up before v n x s b = record { phase = b.phase; node = b.node; tunnel = b.tunnel; over = b.over }

beside_ended : (before v : World) (n : ℕ) (kind : ℕ → Bool) → ((z : ℕ) → kind z ≡ true → before.tunnels.node (before.calls.tunnel z) ≡ n) → Beside before v n → Beside before (record v { calls = ends v.calls kind }) n
unfolding ends
beside_ended before v n kind own b = record { phase = b.phase; node = b.node; tunnel = b.tunnel; over = λ z h. by z (kind z) refl h }
  where
    by : (z : ℕ) (q : Bool) → kind z ≡ q → cond (q && (lives (v.calls.state z) || v.calls.booked z)) true (v.calls.over z) ≡ true → (before.calls.over z ≡ true) ⊎ (before.tunnels.node (before.calls.tunnel z) ≡ n)
    by z true k h = inr (own z k)
    by z false k h = b.over z h

beside_down : (before v : World) (n x : ℕ) → before.tunnels.node x ≡ n → Beside before v n → Beside before (keeps v (TunnelDown x)) n
unfolding keeps keeps_down
beside_down before v n x at b = let d = beside_ended before v n (of_tunnel v.calls x) (λ z k. ap before.tunnels.node (sym (b.tunnel z) ∙ same (v.calls.tunnel z) x k) ∙ at) b in record { phase = d.phase; node = d.node; tunnel = d.tunnel; over = d.over }

beside_call : (before v : World) (n z own : ℕ) → Beside before v n → Beside before (record v { calls = keeps_call v.calls z own }) n
unfolding keeps_call
beside_call before v n z own b = record { phase = b.phase; node = b.node; tunnel = b.tunnel; over = b.over }

beside : (before : World) (n : ℕ) (ks : List Kept) → Beside before (keeps_all before n ks before) n
unfolding keeps
beside before n ks = all_kept (λ v. Beside before v n) before n record { up = λ v x s b a u h. beside_up before v n x s b; down = λ v x b a at. beside_down before v n x at b; call = λ v z own k b a h g. beside_call before v n z own b; ended = λ v z b a h. beside_ended before v n (is_call z) (λ y k. ap (λ (q : ℕ). before.tunnels.node (before.calls.tunnel q)) (same y z k) ∙ ended_tells before n z h) b } ks before record { phase = λ x. refl; node = λ x. refl; tunnel = λ z. refl; over = λ z h. inl h } (amid_first before)

module _ (w : World) (n : ℕ) (s : Sound w) (st : StatesHold w.tunnels w.calls) (qh : QueriesHold w.tunnels w.channels w.calls) (v : World) (f : Fallen w v n) (b : Beside w v n) (tg : TunnelsGrow w.tunnels (goes_down v.tunnels n)) where
  abbrev U : Tunnels
  U = goes_down v.tunnels n

  abbrev D : Calls
  D = loses v.calls (of_node v n)

  -- an open tunnel is another node's
  stays : (y : ℕ) → U.phase y ≡ Open → (eqb (v.tunnels.node y) n ≡ false) × (w.tunnels.phase y ≡ Open)
  unfolding goes_down
  stays y h = by (eqb (v.tunnels.node y) n) refl h
    where
      by : (q : Bool) → eqb (v.tunnels.node y) n ≡ q → cond q Gone (v.tunnels.phase y) ≡ Open → (eqb (v.tunnels.node y) n ≡ false) × (w.tunnels.phase y ≡ Open)
      by true e h = absurd cc
      by false e h = (e, sym (b.phase y) ∙ h)

  was : (y : ℕ) → U.phase y ≡ Open → WasOpen w.tunnels U y
  unfolding goes_down
  was y h = was_open w.tunnels U y s.epochs (stays y h).1 (f.entered y)

  state_is : (z : ℕ) → U.phase (v.calls.tunnel z) ≡ Open → D.state z ≡ Up → w.calls.state z ≡ Up
  unfolding loses
  state_is z p up = let i : v.calls.state z ≡ Up = ap (λ (q : Bool). cond q NoCall (v.calls.state z)) (sym (stays (v.calls.tunnel z) p).0) ∙ up in sym (f.state z (ap lives i)) ∙ i

  over_is : (z : ℕ) → U.phase (v.calls.tunnel z) ≡ Open → D.over z ≡ true → w.calls.over z ≡ true
  unfolding loses
  over_is z p o =
      let other = (stays (v.calls.tunnel z) p).0 in
      let i : v.calls.over z ≡ true = ap (λ (q : Bool). cond (q && (lives (v.calls.state z) && not (v.calls.booked z))) true (v.calls.over z)) (sym other) ∙ o in
      ⊎_elim (λ a. a) (λ a. absurd (let c = same_test (v.tunnels.node (v.calls.tunnel z)) n (ap v.tunnels.node (b.tunnel z) ∙ b.node (w.calls.tunnel z) ∙ a) in let h : true ≡ false = sym c ∙ other in cc)) (b.over z i)

  fall_connected : Connected w.tunnels U w.channels w.calls D
  unfolding loses goes_down
  fall_connected z p up m made = let i = state_is z p up in let tv = f.tunnel z in inr (subst (λ (q : ℕ). WasOpen w.tunnels U q) tv (was (v.calls.tunnel z) p), i, sym (f.mate z) ∙ m, sym (f.made z) ∙ made ∙ ap Some (f.entered (v.calls.tunnel z) ∙ ap w.tunnels.entered tv), tv, f.remote z (s.calls.up_remote z (s.calls.booked_up z (s.calls.up_booked z i))))

  fall_asked : Asked w.tunnels U w.channels w.calls D
  unfolding loses goes_down
  fall_asked y z p i = inr (inr (was y p, (λ j. i (f.held y (v.tunnels.entered y) z ∙ ap (λ (q : ℕ). w.calls.held y q z) (f.entered y) ∙ j)), λ j. f.asks y z ∙ j))

  fall_ended : Ended w.tunnels U w.channels w.calls D
  unfolding loses goes_down
  fall_ended z p l o = let tv = f.tunnel z in inr (subst (λ (q : ℕ). WasOpen w.tunnels U q) tv (was (v.calls.tunnel z) p), lived tv l, over_is z p o, tv)
    where
      lived : v.calls.tunnel z ≡ w.calls.tunnel z → LivedIn (loses v.calls (of_node v n)) (v.calls.tunnel z) (v.tunnels.entered (v.calls.tunnel z)) z → LivedIn w.calls (w.calls.tunnel z) (w.tunnels.entered (w.calls.tunnel z)) z
      lived tv (inl h) = inl (λ j. h (f.held (v.calls.tunnel z) (v.tunnels.entered (v.calls.tunnel z)) z ∙ ap (λ (q : ℕ). w.calls.held (v.calls.tunnel z) q z) (f.entered (v.calls.tunnel z)) ∙ ap (λ (q : ℕ). w.calls.held q (w.tunnels.entered q) z) tv ∙ j))
      lived tv (inr h) = inr (sym (f.made z) ∙ h ∙ ap Some (f.entered (v.calls.tunnel z) ∙ ap w.tunnels.entered tv))

  same_mate : (y : ℕ) → D.mate y ≡ w.calls.mate y
  unfolding loses
  same_mate y = f.mate y

  fall_queries : ((i j : ℕ) (m : Letter) → Stands w.channels 0 i j m → ⊥) → QueriesHold U w.channels D
  fall_queries zero_gives = finish_same w.tunnels U w.channels w.channels w.calls D 0 0 Hello Hello tg f.grow (known w.tunnels w.calls s.calls) (idle_grows w.channels 0 0 Hello) qh (none_taken w.tunnels U w.channels tg s.given qh.within w.channels Hello (λ y i. refl)) (λ y i. omega arith) zero_gives (puts_quiet _ _ _ _ _ _ 0 0 Hello Hello refl) (tooks_quiet _ _ _ _ _ _ 0 0 Hello Hello refl) same_mate fall_connected fall_asked fall_ended

pub stops_queries : (w : World) (n : ℕ) (ks : List Kept) → Sound w → StatesHold w.tunnels w.calls → QueriesHold w.tunnels w.channels w.calls → TunnelsGrow w.tunnels (falls (keeps_all w n ks w) n).tunnels → QueriesHold (falls (keeps_all w n ks w) n).tunnels (falls (keeps_all w n ks w) n).channels (falls (keeps_all w n ks w) n).calls
unfolding falls
stops_queries w n ks s st qh tg = let f = fallen w n s.calls s.meant ks in subst (λ (c : Channels). QueriesHold (goes_down (keeps_all w n ks w).tunnels n) c (loses (keeps_all w n ks w).calls (of_node (keeps_all w n ks w) n))) (sym f.channels) (fall_queries w n s st qh (keeps_all w n ks w) f (beside w n ks) tg (nameless w s))
