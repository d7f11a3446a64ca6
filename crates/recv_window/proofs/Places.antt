-- What is kept at the places after a call.
use Rattle.std.proofs.Common.{◌≡◌, ◌<◌, ◌≤◌, ℕ, zero, suc, ◌+◌, Bool, true, false, if◌then◌else◌, ◌⊎◌, inl, inr, List, [], ◌∷◌, ◌++◌, length, get_or, set, drop, refl, sym, ap, ◌∙◌, arith, length-append, length-drop}
use Rattle.std.specs.Prelude.{Option, Some, None, is_some}
use Rattle.std.proofs.lemmas.List.{get_or_past, get_or-set_same, get_or-set_other, length-set}
use Rattle.std.proofs.lemmas.Bool.{cases_lt}
use Rattle.recv_window.specs.Ahead.{kept_at, after_keep, after_shift}

module _ {T : Type 0} where
  padded : (places : List (Option T)) (k : ℕ) → get_or (places ++ None ∷ []) k None ≡ get_or places k None
  padded [] zero = refl
  padded [] (suc k) = refl
  padded (p ∷ places) zero = refl
  padded (p ∷ places) (suc k) = padded places k

  -- each place comes nearer by one
  pub kept_at-shift : (places : List (Option T)) (by : ℕ) → kept_at (after_shift places) by ≡ kept_at places (suc by)
  kept_at-shift [] zero = refl
  kept_at-shift [] (suc by) = refl
  kept_at-shift (p ∷ places) by = padded places by

  pub length-shift : (places : List (Option T)) → length places ≡ 8 → length (after_shift places) ≡ 8
  length-shift places is = omega (arith, is, length-append (drop 1 places) (None ∷ []), length-drop 1 places)

  length-either : (held : Bool) (places : List (Option T)) (by : ℕ) (message : T) → length (if held then places else set places by (Some message)) ≡ length places
  length-either true places by message = refl
  length-either false places by message = length-set places by (Some message)

  pub length-keep : (places : List (Option T)) (by : ℕ) (message : T) → length (after_keep places by message) ≡ length places
  length-keep places by message = length-either (is_some (kept_at places by)) places by message

  -- a place that has a message keeps it, one that has none has the message that comes, and the others are as before
  pub keep_held : (places : List (Option T)) (by : ℕ) (message held : T) → kept_at places by ≡ Some held → after_keep places by message ≡ places
  keep_held places by message held is = rw is refl

  pub kept_at-keep : (places : List (Option T)) (by : ℕ) (message : T) → by < length places → kept_at places by ≡ None → kept_at (after_keep places by message) by ≡ Some message
  kept_at-keep places by message lt is = rw is (get_or-set_same places by (Some message) None lt)

  other_either : (held : Bool) (places : List (Option T)) (by k : ℕ) (message : T) → (k ≡ by → ⊥) → kept_at (if held then places else set places by (Some message)) k ≡ kept_at places k
  other_either true places by k message other = refl
  other_either false places by k message other = get_or-set_other places by k (Some message) None other

  pub kept_at-keep_other : (places : List (Option T)) (by k : ℕ) (message : T) → (k ≡ by → ⊥) → kept_at (after_keep places by message) k ≡ kept_at places k
  kept_at-keep_other places by k message other = other_either (is_some (kept_at places by)) places by k message other

  -- places past the first that have what a function of numbers says have it when the number that is expected is taken
  pub shifted : (places : List (Option T)) (t : ℕ) (f : ℕ → Option T) → length places ≡ 8 → ((by : ℕ) → 0 < by → by < 8 → kept_at places by ≡ f (t + by)) → f (t + 8) ≡ None → (by : ℕ) → by < 8 → kept_at (after_shift places) by ≡ f ((t + 1) + by)
  shifted places t f is kept last by lt = kept_at-shift places by ∙ from_next (cases_lt (suc by) 8) where
    from_next : (suc by < 8) ⊎ (8 ≤ suc by) → kept_at places (suc by) ≡ f ((t + 1) + by)
    from_next (inl below) = kept (suc by) (omega arith) below ∙ ap f (omega arith)
    from_next (inr past) = get_or_past places (suc by) None (omega (arith, is)) ∙ sym last ∙ ap f (omega arith)
