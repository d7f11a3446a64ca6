-- A space of numbers: its last one, the ceiling up to which numbers may be drawn, and the next one.
use Rattle.std.specs.Prelude.{◌≡◌, ℕ, zero, suc, ◌+◌, ◌-◌, ◌<◌, ◌≤◌, min, nat_lt, if◌then◌else◌, Bool, true, false, List, [], ◌∷◌, length, AllPairs, cond, Result, Ok, Err, ⊤}
use Rattle.std.specs.List.{list_any}
use Rattle.std.proofs.Common.{refl, sym, arith}
use Rattle.std.proofs.lemmas.Bool.{ltb-false}
use Rattle.id_source.specs.declared.IdError.{IdError}
use Rattle.id_source.specs.declared.IdError.TheVariants.{NoIds, NeedCeiling}

pub record Space : Type 0 where
  pub last : ℕ
  pub ceiling : ℕ
  pub next : ℕ

-- one of which nothing was drawn, and one that starts again from its ceiling
abbrev pub new_space : ℕ → Space
new_space last = record { last = last; ceiling = 0; next = 1 }

abbrev pub space_from : ℕ → ℕ → Space
space_from last ceiling = record { last = last; ceiling = ceiling; next = ceiling + 1 }

-- the number that is drawn: the next one, where it passes neither the last one nor the ceiling
unfoldable pub draws : Space → Result ℕ IdError
draws s =
    if nat_lt s.last s.next then Err (NoIds (s.next - 1))
    else if nat_lt s.ceiling s.next then Err (NeedCeiling s.next)
    else Ok s.next

abbrev pub drawn : Result ℕ IdError → Space → Space
drawn (Ok n) s = record s { next = n + 1 }
drawn (Err e) s = s

abbrev pub after_draw : Space → Space
after_draw s = drawn (draws s) s

-- ---- what an end draws: it raises the ceiling where the next number is above it, and commits it before anybody sees the number

-- by 64, at most up to the last number
abbrev pub ceiling_for : Space → ℕ
ceiling_for s = if nat_lt s.ceiling s.next then min s.last (s.ceiling + 64) else s.ceiling

-- the next number, where it doesn't pass the last one
unfoldable pub takes_id : Space → Result ℕ IdError
takes_id s = if nat_lt s.last s.next then Err (NoIds (s.next - 1)) else Ok s.next

abbrev pub with_taken : Result ℕ IdError → Space → Space
with_taken (Ok n) s = record s { ceiling = ceiling_for s; next = n + 1 }
with_taken (Err e) s = s

abbrev pub after_id : Space → Space
after_id s = with_taken (takes_id s) s

pub draw_is : (s : Space) (k : ℕ) → takes_id s ≡ Ok k → (k ≡ s.next) × (k ≤ s.last)
unfolding takes_id
draw_is s k h = by (nat_lt s.last s.next) refl h
  where
    by : (a : Bool) → nat_lt s.last s.next ≡ a → cond a (Err (NoIds (s.next - 1))) (Ok s.next) ≡ Ok k → (k ≡ s.next) × (k ≤ s.last)
    by true e h = absurd cc
    by false e h = let g : s.next ≡ k = cc in let le = ltb-false s.last s.next e in (sym g, omega (arith, g))

pub next_is : (s : Space) (k : ℕ) → takes_id s ≡ Ok k → after_id s ≡ record s { ceiling = ceiling_for s; next = k + 1 }
next_is s k h = rw h refl

-- ---- what is drawn in a list of draws, raised ceilings, and starts from the ceiling

pub data Use : Type 0 where
  Draws : Use
  Raises : ℕ → Use
  Starts : Use

abbrev pub with_drawn : Result ℕ IdError → List ℕ → List ℕ
with_drawn (Ok n) ns = n ∷ ns
with_drawn (Err e) ns = ns

unfoldable pub numbers_drawn : Space → List Use → List ℕ
numbers_drawn s [] = []
numbers_drawn s (Draws ∷ us) = with_drawn (draws s) (numbers_drawn (after_draw s) us)
numbers_drawn s (Raises ceiling ∷ us) = numbers_drawn (record s { ceiling = ceiling }) us
numbers_drawn s (Starts ∷ us) = numbers_drawn (space_from s.last s.ceiling) us

-- no ceiling is below the one before it, as `raise` has it
abbrev pub CeilingsRise : ℕ → List Use → Type 0
CeilingsRise ceiling [] = ⊤
CeilingsRise ceiling (Draws ∷ us) = CeilingsRise ceiling us
CeilingsRise ceiling (Raises above ∷ us) = (ceiling ≤ above) × CeilingsRise above us
CeilingsRise ceiling (Starts ∷ us) = CeilingsRise ceiling us

-- no number is drawn twice: each is below those that are drawn after it. Of a space only numbers up to its ceiling were drawn
abbrev pub EachIsDrawnOnce : Type 0
EachIsDrawnOnce =
    (s : Space) (us : List Use) → s.next ≤ s.ceiling + 1 → CeilingsRise s.ceiling us → AllPairs (λ before after. before < after) (numbers_drawn s us)

abbrev pub is_start : Use → Bool
is_start Starts = true
is_start u = false

-- so many numbers, from one on
unfoldable pub counting_from : ℕ → ℕ → List ℕ
counting_from n zero = []
counting_from n (suc k) = n ∷ counting_from (n + 1) k

-- without a start the numbers that are drawn count on from the next one
abbrev pub CountsOn : Type 0
CountsOn = (s : Space) (us : List Use) → list_any is_start us ≡ false → numbers_drawn s us ≡ counting_from s.next (length (numbers_drawn s us))
