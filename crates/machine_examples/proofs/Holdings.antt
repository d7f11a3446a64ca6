-- What both ends hold at the end of a run: of the calls that were drawn by computing, of all others by what holds of births.
use Rattle.std.proofs.Common.{◌≡◌, ⊎_elim, ℕ, zero, suc, Bool, true, false, refl, sym, ap, ◌∙◌, subst, List, [], ◌∷◌, arith}
use Rattle.std.specs.Prelude.{All, Contains}
use Rattle.epoch_machine.specs.Calls.{NoCall, lives}
use Rattle.epoch_machine.specs.Worlds.{World, all_rules}
use Rattle.epoch_machine.specs.Moves.{Move, after}
use Rattle.epoch_machine.proofs.Splits.{same_or_not}
use Rattle.birth_laws.proofs.Runs.{of_runs}
use Rattle.coverage_laws.specs.Coverage.{IsComplete}

-- in these runs four calls are drawn, or fewer
pub each_call : (drawn : ℕ → Bool) → ((z : ℕ) → (z ≡ 101 → ⊥) → (z ≡ 201 → ⊥) → (z ≡ 102 → ⊥) → (z ≡ 202 → ⊥) → drawn z ≡ false) → (P : ℕ → Type 0) → P 101 → P 201 → P 102 → P 202 → ((z : ℕ) → drawn z ≡ false → P z) → (z : ℕ) → P z
each_call drawn others P a b c d e z = ⊎_elim (λ i. subst P (sym i) a) (λ i. ⊎_elim (λ j. subst P (sym j) b) (λ j. ⊎_elim (λ k. subst P (sym k) c) (λ k. ⊎_elim (λ l. subst P (sym l) d) (λ l. e z (others z i j k l)) (same_or_not z 202)) (same_or_not z 102)) (same_or_not z 201)) (same_or_not z 101)

module _ (ms : List Move) where
  abbrev w : World
  w = after all_rules ms

  no_call : (z : ℕ) → w.calls.drawn z ≡ false → w.calls.state z ≡ NoCall
  no_call z h = ((of_runs.calls ms).nameless z h).state

  no_query : (x z : ℕ) → w.calls.drawn z ≡ false → w.calls.asks x z ≡ false
  no_query x z h = by (w.calls.asks x z) refl
    where
      by : (b : Bool) → w.calls.asks x z ≡ b → w.calls.asks x z ≡ false
      by false i = i
      by true i = absurd (((of_runs.calls ms).held_call x (w.tunnels.entered x) z ((of_runs.letters ms).asks_held x z i)).3 ((of_runs.calls ms).nameless z h).made)

  abbrev IsOther : ℕ → List ℕ → ℕ → Type 0
  IsOther x held z = w.calls.tunnel z ≡ x → lives (w.calls.state z) ≡ true → Contains held z

  not_held : (x : ℕ) (held : List ℕ) (z : ℕ) → w.calls.drawn z ≡ false → IsOther x held z
  not_held x held z h at alive = absurd (let a : lives NoCall ≡ true = sym (ap lives (no_call z h)) ∙ alive in cc)

  module _ (others : (z : ℕ) → (z ≡ 101 → ⊥) → (z ≡ 201 → ⊥) → (z ≡ 102 → ⊥) → (z ≡ 202 → ⊥) → w.calls.drawn z ≡ false) where
    pub complete : (x : ℕ) → w.calls.asks x 101 ≡ false → w.calls.asks x 201 ≡ false → w.calls.asks x 102 ≡ false → w.calls.asks x 202 ≡ false → IsComplete w x
    complete x a b c d = each_call w.calls.drawn others (λ z. w.calls.asks x z ≡ false) a b c d (λ z h. no_query x z h)

    pub no_others : (x : ℕ) (held : List ℕ) → IsOther x held 101 → IsOther x held 201 → IsOther x held 102 → IsOther x held 202 → (z : ℕ) → IsOther x held z
    no_others x held a b c d = each_call w.calls.drawn others (IsOther x held) a b c d (not_held x held)

pub first_of_one : (a : ℕ) → Contains (a ∷ []) a
first_of_one a = (0, omega arith, refl)

pub first_of_two : (a b : ℕ) → Contains (a ∷ b ∷ []) a
first_of_two a b = (0, omega arith, refl)

pub second_of_two : (a b : ℕ) → Contains (a ∷ b ∷ []) b
second_of_two a b = (1, omega arith, refl)

pub all_of_one : (P : ℕ → Type 0) (a : ℕ) → P a → All P (a ∷ [])
all_of_one P a p zero d h = p
all_of_one P a p (suc k) d h = absurd (omega arith)

pub all_of_two : (P : ℕ → Type 0) (a b : ℕ) → P a → P b → All P (a ∷ b ∷ [])
all_of_two P a b p q zero d h = p
all_of_two P a b p q (suc zero) d h = q
all_of_two P a b p q (suc (suc k)) d h = absurd (omega arith)
