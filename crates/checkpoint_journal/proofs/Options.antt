-- What holds of the value in an option, where there is one.
use Rattle.std.proofs.Common.{◌≡◌, Option, Some, None, refl, sym, ◌∙◌, ap, subst}
use Rattle.std.specs.Prelude.{option_map, is_some, IfSome, Result, Ok, Err, OnOk, OnErr}

module _ {X : Type 0} where
  pub on_some : (o : Option X) (P : X → Type 0) → ((x : X) → o ≡ Some x → P x) → IfSome o P
  on_some None P f = tt
  on_some (Some x) P f = f x refl

  pub of_some : (o : Option X) (P : X → Type 0) (x : X) → o ≡ Some x → IfSome o P → P x
  of_some None P x is all = absurd cc
  of_some (Some y) P x is all = let same : y ≡ x = cc in subst P same all

  pub map_of : {Y : Type 0} (f : X → Y) (o : Option X) (p : Option Y) (x : X) → o ≡ Some x → p ≡ option_map f o → p ≡ Some (f x)
  map_of f o p x is made = made ∙ ap (option_map f) is

  pub map_map : {Y Z : Type 0} (f : X → Y) (g : Y → Z) (o : Option X) (p : Option Y) (q : Option Z) → p ≡ option_map f o → q ≡ option_map g p
      → q ≡ option_map (λ x. g (f x)) o
  map_map f g None p q first second = second ∙ ap (option_map g) first
  map_map f g (Some x) p q first second = second ∙ ap (option_map g) first

  pub map_some : {Y : Type 0} (f : X → Y) (o : Option X) (p : Option Y) → p ≡ option_map f o → is_some p ≡ is_some o
  map_some f None p made = ap is_some made
  map_some f (Some x) p made = ap is_some made

  pub if_some : {P Q : Type 0} (o : Option X) → (P → Q) → IfSome o (λ x. P) → IfSome o (λ x. Q)
  if_some None f all = tt
  if_some (Some x) f all = f all

  -- of each value that a map gives
  pub on_map : {Y : Type 0} (f : X → Y) (o : Option X) (p : Option Y) (P : X → Type 0) (Q : Y → Type 0)
      → p ≡ option_map f o → ((x : X) → P x → Q (f x)) → IfSome o P → IfSome p Q
  on_map {Y = Y} f None p P Q made follows all = subst (λ (q : Option Y). IfSome q Q) (sym made) tt
  on_map {Y = Y} f (Some x) p P Q made follows all = subst (λ (q : Option Y). IfSome q Q) (sym made) (follows x all)

pub on_ok : {T E P Q : Type 0} (r : Result T E) → (P → Q) → OnOk r P → OnOk r Q
on_ok (Ok x) f p = f p
on_ok (Err e) f p = tt

-- of a refusal
pub of_err : {T E P : Type 0} (r : Result T E) → P → OnErr r P
of_err (Ok x) p = tt
of_err (Err e) p = p

pub on_err : {T E P Q : Type 0} (r : Result T E) → (P → Q) → OnErr r P → OnErr r Q
on_err (Ok x) f p = tt
on_err (Err e) f p = f p
