-- What the records of one change make of the book.
use Rattle.std.proofs.Common.{◌≡◌, ◌⊎◌, ⊎_elim, ℕ, Bool, true, false, cond, ◌||◌, List, [], ◌∷◌, refl, sym, ap, ◌∙◌, subst}
use Rattle.epoch_machine.specs.Tunnels.{Phase, Gone, WaitReply, WaitConnect, Open, Closed, Attempts, Answers, is_live, is_active, is_established, left, keeps_down, goes_down}
use Rattle.epoch_machine.specs.Calls.{CallState, Up, ends, of_tunnel, is_call, loses}
use Rattle.epoch_machine.specs.Worlds.{World, leaves}
use Rattle.epoch_machine.specs.Moves.{Kept, TunnelDown, CallDown, keeps, falls}
use Rattle.epoch_machine.proofs.Splits.{chosen, assigned_here}
use Rattle.epoch_machine.proofs.Tells.{same, no_way}
use Rattle.coverage_laws.specs.Coverage.{fits}
use Rattle.coverage_laws.proofs.Runs.{Whole}
use Rattle.stop_laws.specs.Records.{of_leaving, of_ending, writes, SameBook}

-- one test chooses the records and the world
pub choose : (P : List Kept → World → Type 0) (b : Bool) (ks js : List Kept) (u v : World) → (b ≡ true → P ks u) → (b ≡ false → P js v) → P (cond b ks js) (cond b u v)
choose P true ks js u v p q = p refl
choose P false ks js u v p q = q refl

pub same_book : (w : World) → SameBook w w
same_book w = record { tunnels = λ x. refl; links = λ x h. refl; calls = λ z. refl; names = λ z h. refl }

-- a list in which none of the kind stands stays as it is
pub none_struck : (kind booked : ℕ → Bool) → ((z : ℕ) → kind z ≡ true → booked z ≡ false) → (z : ℕ) → booked z ≡ cond (kind z) false (booked z)
none_struck kind booked none z = chosen (λ (b : Bool). booked z ≡ b) (kind z) false (booked z) (λ k. none z k) (λ k. refl)

-- a world that differs from this one by what is struck, of the book
pub record Struck (w v : World) (kind : ℕ → Bool) : Type 0 where
  pub tunnels : (x : ℕ) → w.tunnels.booked x ≡ v.tunnels.booked x
  pub links : (x : ℕ) → w.tunnels.learned x ≡ v.tunnels.learned x
  pub calls : (z : ℕ) → cond (kind z) false (w.calls.booked z) ≡ v.calls.booked z
  pub names : (z : ℕ) → w.calls.remote z ≡ v.calls.remote z

pub nothing_struck : (w v : World) (kind : ℕ → Bool) → ((z : ℕ) → kind z ≡ true → w.calls.booked z ≡ false) → Struck w v kind → SameBook w v
nothing_struck w v kind none s = record { tunnels = s.tunnels; links = λ x h. s.links x; calls = λ z. none_struck kind w.calls.booked none z ∙ s.calls z; names = λ z h. s.names z }

-- one call ends
pub ending_book : (w v : World) (y : ℕ) → Struck w v (is_call y) → SameBook (writes w (of_ending w y)) v
unfolding writes keeps ends
ending_book w v y s = by (w.calls.booked y) refl
  where
    by : (b : Bool) → w.calls.booked y ≡ b → SameBook (writes w (cond b (CallDown y ∷ []) [])) v
    by true e = record { tunnels = s.tunnels; links = λ x h. s.links x; calls = s.calls; names = λ z h. s.names z }
    by false e = nothing_struck w v (is_call y) (λ z k. ap w.calls.booked (same z y k) ∙ e) s

fits_up : (p : Phase) → fits p Up ≡ true → is_established p ≡ true
fits_up Gone h = absurd cc
fits_up WaitReply h = absurd cc
fits_up WaitConnect h = absurd cc
fits_up Open h = refl
fits_up Closed h = absurd cc
fits_up (Attempts a) h = refl
fits_up (Answers c) h = refl

-- a tunnel that lives and isn't established has no call in the book
pub none_booked : (w : World) (x z : ℕ) → Whole w → is_live (w.tunnels.phase x) ≡ true → is_established (w.tunnels.phase x) ≡ false → w.calls.tunnel z ≡ x → w.calls.booked z ≡ false
none_booked w x z h live young at = by (w.calls.booked z) refl
  where
    lives : w.tunnels.phase (w.calls.tunnel z) ≡ Gone → ⊥
    lives g = no_way (is_live (w.tunnels.phase x)) live (ap is_live (ap w.tunnels.phase (sym at) ∙ g))

    by : (b : Bool) → w.calls.booked z ≡ b → w.calls.booked z ≡ false
    by false e = e
    by true e =
        let up : w.calls.state z ≡ Up = h.states.booked_lives z e lives in
        let f : fits (w.tunnels.phase x) Up ≡ true = subst (λ (q : ℕ). fits (w.tunnels.phase q) Up ≡ true) at (subst (λ (s : CallState). fits (w.tunnels.phase (w.calls.tunnel z)) s ≡ true) up (h.states.state_fits z)) in
        absurd (no_way (is_established (w.tunnels.phase x)) (fits_up (w.tunnels.phase x) f) young)

pub active_live : (p : Phase) → is_active p ≡ true → is_live p ≡ true
active_live Gone h = absurd cc
active_live p h = refl

pub neither : (a b : Bool) → (a || b) ≡ false → (a ≡ false) × (b ≡ false)
neither true b h = absurd cc
neither false b h = (refl, h)

-- a tunnel leaves
pub leaving_book : (w : World) (x : ℕ) (p : Phase) → Whole w → (is_live (w.tunnels.phase x) ≡ true) ⊎ (w.tunnels.booked x ≡ true) → SameBook (writes w (of_leaving w x)) (leaves w x p)
unfolding writes keeps keeps_down leaves left ends
leaving_book w x p h there = by (is_established (w.tunnels.phase x) || w.tunnels.booked x) refl
  where
    by : (b : Bool) → (is_established (w.tunnels.phase x) || w.tunnels.booked x) ≡ b → SameBook (writes w (cond b (TunnelDown x ∷ []) [])) (leaves w x p)
    by true e = record { tunnels = λ y. refl; links = λ y q. refl; calls = λ z. refl; names = λ z q. refl }
    by false e =
        let n = neither (is_established (w.tunnels.phase x)) (w.tunnels.booked x) e in
        let live : is_live (w.tunnels.phase x) ≡ true = ⊎_elim (λ a. a) (λ a. absurd (no_way (w.tunnels.booked x) a n.1)) there in
        record { tunnels = λ y. sym (assigned_here w.tunnels.booked x false n.1 y); links = λ y q. refl; calls = none_struck (of_tunnel w.calls x) w.calls.booked (λ z k. none_booked w x z h live n.0 (same (w.calls.tunnel z) x k)); names = λ z q. refl }

-- a node goes down
pub fallen_book : (w : World) (n : ℕ) → SameBook w (falls w n)
unfolding falls goes_down loses
fallen_book w n = record { tunnels = λ x. refl; links = λ x h. refl; calls = λ z. refl; names = λ z h. refl }
