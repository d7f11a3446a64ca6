-- The first message with a number, in a list to which one is added.
use Rattle.std.proofs.Common.{◌≡◌, ◌<◌, ◌≤◌, ℕ, Bool, true, false, if◌then◌else◌, List, [], ◌∷◌, ◌++◌, refl, sym, ap, ◌∙◌, arith}
use Rattle.std.specs.Prelude.{Option, Some, None, ◌==◌}
use Rattle.std.specs.List.{All, Contains}
use Rattle.std.proofs.lemmas.Bool.{eqb-true, ne_eqb, eq-eqb}
use Rattle.std.proofs.lemmas.Option.{none-some}
use Rattle.std.proofs.lemmas.List.Elements.{All-head, All-tail, Contains-append_right}
use Rattle.recv_window.specs.Receiving.{Numbered, first_with}

module _ {T : Type 0} where
  -- the first one of a list, or else the one of the rest
  same_or : (here : Bool) (x m : T) (rest more : Option T) → (rest ≡ Some m → more ≡ Some m) → (if here then Some x else rest) ≡ Some m → (if here then Some x else more) ≡ Some m
  same_or true x m rest more f is = is
  same_or false x m rest more f is = f is

  none_or : (here : Bool) (x : T) (rest more y : Option T) → (rest ≡ None → more ≡ y) → (if here then Some x else rest) ≡ None → (if here then Some x else more) ≡ y
  none_or true x rest more y f is = absurd (none-some x (sym is))
  none_or false x rest more y f is = f is

  pub first_stays : (n : ℕ) (messages : List (Numbered T)) (a : Numbered T) (m : T) → first_with n messages ≡ Some m → first_with n (messages ++ a ∷ []) ≡ Some m
  unfolding first_with
  first_stays n [] a m is = absurd (none-some m is)
  first_stays n (b ∷ messages) a m is = same_or (n == b.number) b.message m (first_with n messages) (first_with n (messages ++ a ∷ [])) (first_stays n messages a m) is

  pub first_other : (n : ℕ) (messages : List (Numbered T)) (a : Numbered T) → (n ≡ a.number → ⊥) → first_with n (messages ++ a ∷ []) ≡ first_with n messages
  unfolding first_with
  first_other n [] a other = ap (λ here. if here then Some a.message else None) (ne_eqb n a.number other)
  first_other n (b ∷ messages) a other = ap (λ rest. if n == b.number then Some b.message else rest) (first_other n messages a other)

  pub first_new : (n : ℕ) (messages : List (Numbered T)) (a : Numbered T) → n ≡ a.number → first_with n messages ≡ None → first_with n (messages ++ a ∷ []) ≡ Some a.message
  unfolding first_with
  first_new n [] a is none = ap (λ here. if here then Some a.message else None) (eq-eqb n a.number is)
  first_new n (b ∷ messages) a is none = none_or (n == b.number) b.message (first_with n messages) (first_with n (messages ++ a ∷ [])) (Some a.message) (first_new n messages a is) none

  -- no message has a number past those that all have
  pub first_past : (n end : ℕ) (messages : List (Numbered T)) → All (λ a. a.number < end) messages → end ≤ n → first_with n messages ≡ None
  unfolding first_with
  first_past n end [] below past = refl
  first_past n end (b ∷ messages) below past =
      let here : b.number < end = All-head (λ a. a.number < end) b messages below in
      ap (λ is. if is then Some b.message else first_with n messages) (ne_eqb n b.number (λ same. omega (arith, here, same, past)))
      ∙ first_past n end messages (All-tail (λ a. a.number < end) b messages below) past

  here_or_later : (n : ℕ) (b : Numbered T) (messages : List (Numbered T)) (m : T) → (here : Bool) → (n == b.number) ≡ here → (first_with n messages ≡ Some m → Contains messages (record { number = n; message = m })) → (if here then Some b.message else first_with n messages) ≡ Some m → Contains (b ∷ messages) (record { number = n; message = m })
  here_or_later n b messages m true same later is = (0, omega arith, grind (arith, eqb-true n b.number same, is))
  here_or_later n b messages m false other later is = Contains-append_right (b ∷ []) messages (record { number = n; message = m }) (later is)

  -- it is one of them
  pub first_came : (n : ℕ) (messages : List (Numbered T)) (m : T) → first_with n messages ≡ Some m → Contains messages (record { number = n; message = m })
  unfolding first_with
  first_came n [] m is = absurd (none-some m is)
  first_came n (b ∷ messages) m is = here_or_later n b messages m (n == b.number) refl (first_came n messages m) is
