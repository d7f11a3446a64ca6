-- What a tunnel has learned by records that a stop keeps: what it had before; or it had learned nothing, and a record that is allowed
-- brought it up.
use Rattle.std.proofs.Common.{◌≡◌, ◌⊎◌, inl, inr, ⊎_elim, ℕ, Bool, true, false, List, [], ◌∷◌, refl, sym, ◌∙◌, subst}
use Rattle.std.specs.Prelude.{◌==◌, ◌||◌, if◌then◌else◌}
use Rattle.epoch_machine.specs.Worlds as machine
use Rattle.epoch_machine.specs.Moves.{Kept, TunnelUp, TunnelDown, CallUp, CallDown, may_keep, keeps}
use Rattle.epoch_machine.specs.Tunnels.{keeps_up, keeps_down}
use Rattle.epoch_machine.specs.Calls.{lives, keeps_call}
use Rattle.epoch_machine.proofs.Tells.{both, either, same}
use Rattle.stop_laws.specs.Records.{writes, each_allowed}

module _ (m : machine.World) (n : ℕ) where
  abbrev pub Learns : ℕ → ℕ → Type 0
  Learns y learned =
      (learned ≡ m.tunnels.learned y) ⊎ ((m.tunnels.learned y ≡ 0) × (may_keep m n (TunnelUp y learned) ≡ true))

  module _ (c : machine.World) (each : (y : ℕ) → Learns y (c.tunnels.learned y)) where
    up_then : (x s : ℕ) → may_keep m n (TunnelUp x s) ≡ true → (y : ℕ) → Learns y ((keeps c (TunnelUp x s)).tunnels.learned y)
    unfolding keeps keeps_up
    up_then x s may y = by ((c.tunnels.learned x == 0) || (c.tunnels.learned x == s)) refl
      where
        -- it learns that one now, or it had learned it
        its : (c.tunnels.learned x ≡ 0) ⊎ (c.tunnels.learned x ≡ s) → Learns x s
        its (inl free) = inr (⊎_elim (λ old. sym old ∙ free) (λ new. new.0) (each x), may)
        its (inr known) = subst (Learns x) known (each x)

        put : (b : Bool) → (y == x) ≡ b → Learns x s → Learns y (if b then s else c.tunnels.learned y)
        put true here learns = subst (λ q. Learns q s) (sym (same y x here)) learns
        put false here learns = each y

        by : (b : Bool) → ((c.tunnels.learned x == 0) || (c.tunnels.learned x == s)) ≡ b
            → Learns y ((if b then record c { tunnels = keeps_up c.tunnels x s } else c).tunnels.learned y)
        by true is =
            put (y == x) refl
            (its (⊎_elim
            (λ free. inl (same (c.tunnels.learned x) 0 free))
            (λ known. inr (same (c.tunnels.learned x) s known))
            (either (c.tunnels.learned x == 0) (c.tunnels.learned x == s) is)))
        by false is = each y

    one_then : (k : Kept) → may_keep m n k ≡ true → (y : ℕ) → Learns y ((keeps c k).tunnels.learned y)
    unfolding keeps keeps_down
    one_then (TunnelUp x s) may y = up_then x s may y
    one_then (TunnelDown x) may y = each y
    one_then (CallUp z own k) may y = by (lives (c.calls.state z))
      where
        by : (b : Bool) → Learns y ((if b then record c { calls = keeps_call c.calls z own } else c).tunnels.learned y)
        by true = each y
        by false = each y
    one_then (CallDown z) may y = each y

  all_then : (ks : List Kept) (c : machine.World) → ((y : ℕ) → Learns y (c.tunnels.learned y)) → each_allowed m n ks ≡ true → (y : ℕ)
      → Learns y ((writes c ks).tunnels.learned y)
  unfolding writes each_allowed
  all_then [] c each ok y = each y
  all_then (k ∷ ks) c each ok y =
      let q = both (may_keep m n k) (each_allowed m n ks) ok in all_then ks (keeps c k) (λ x. one_then c each k q.0 x) q.1 y

  pub all_learn : (ks : List Kept) → each_allowed m n ks ≡ true → (y : ℕ) → Learns y ((writes m ks).tunnels.learned y)
  all_learn ks ok y = all_then ks m (λ x. inl refl) ok y
