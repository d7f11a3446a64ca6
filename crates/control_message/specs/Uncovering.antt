-- Hidden values that are uncovered by a secret (RFC 2661 section 4.3): a function, and a relation apart from it.
use Rattle.std.specs.Prelude.{◌≡◌, ℕ, Bool, true, false, ◌&&◌, ◌||◌, not, if◌then◌else◌, List, [], ◌∷◌, ◌++◌, Option, Some, None, Result, Ok, Err, ◌⊎◌, ⊤}
use Rattle.std.specs.List.{AllByRecursion}
use Rattle.avp_codec.specs.declared.avp.Avp.{Avp}
use Rattle.tunnel_secret.specs.declared.error.UnhideError.{UnhideError}
use Rattle.tunnel_secret.specs.Revealing.{unhidden}
use Rattle.tunnel_secret.specs.Holding.{Hides, HidesNone}
use Rattle.control_message.specs.Reading.{is_at, is_vector}
use Rattle.control_message.specs.Grammar.{IsAt}
use Rattle.control_message.specs.Faults.{IsVector, HasNoVector}

-- ---- as a function

-- hidden, and neither the type, which never is, nor an attribute 36, which is no Random Vector then
abbrev pub may_be_uncovered : Avp → Bool
may_be_uncovered a = a.hidden && not (is_at 0 a || is_at 36 a)

-- the plain pair, where its value is revealed
abbrev pub uncovered_by : Avp → Result (List ℕ) UnhideError → Avp
uncovered_by a (Ok v) = record a { hidden = false; value = v }
uncovered_by a (Err e) = a

-- a pair behind a Random Vector, if there is one
unfoldable pub uncovered_pair : List ℕ → Option (List ℕ) → Avp → Avp
uncovered_pair secret None a = a
uncovered_pair secret (Some vector) a =
    if may_be_uncovered a then uncovered_by a (unhidden a.attribute secret vector a.value) else a

-- the last plain Random Vector counts
abbrev pub vector_after : Option (List ℕ) → Avp → Option (List ℕ)
vector_after vector a = if is_vector a then Some a.value else vector

abbrev pub uncovered_all : List ℕ → Option (List ℕ) → List Avp → List Avp
uncovered_all secret vector [] = []
uncovered_all secret vector (a ∷ avps) = uncovered_pair secret vector a ∷ uncovered_all secret (vector_after vector a) avps

-- what the pairs are to an end that knows a secret, or none
abbrev pub uncovered : Option (List ℕ) → List Avp → List Avp
uncovered None avps = avps
uncovered (Some secret) avps = uncovered_all secret None avps

-- ---- as a relation

-- no pair is hidden
abbrev pub NoneIsHidden : List Avp → Type 0
NoneIsHidden avps = AllByRecursion (λ a. a.hidden ≡ false) avps

-- the last Random Vector has that value
pub record HasLastVector (avps : List Avp) (vector : List ℕ) : Type 0 where
  pub before : List Avp
  pub after : List Avp
  pub pair : Avp
  pub parts : avps ≡ before ++ pair ∷ after
  pub is : IsVector pair
  pub same : pair.value ≡ vector
  pub none : HasNoVector after

-- which vector counts behind some pairs, if one does
abbrev pub IsVectorBehind : List Avp → Option (List ℕ) → Type 0
IsVectorBehind before None = HasNoVector before
IsVectorBehind before (Some vector) = HasLastVector before vector

-- an attribute that isn't uncovered: the type, or a Random Vector
abbrev pub StaysHidden : Avp → Type 0
StaysHidden a = IsAt 0 a ⊎ IsAt 36 a

-- a pair behind others hides a value
pub record HidesValue (secret : List ℕ) (before : List Avp) (a : Avp) (value : List ℕ) : Type 0 where
  pub vector : List ℕ
  pub last : HasLastVector before vector
  pub is : a.hidden ≡ true
  pub other : ¬ StaysHidden a
  pub hides : Hides a.attribute secret vector value a.value

-- it hides none
pub record HidesNoValue (secret : List ℕ) (before : List Avp) (a : Avp) : Type 0 where
  pub vector : List ℕ
  pub said : ℕ
  pub have : ℕ
  pub last : HasLastVector before vector
  pub none : HidesNone a.attribute secret vector a.value said have

-- why a pair stays as it is
abbrev pub Stays : List ℕ → List Avp → Avp → Type 0
Stays secret before a = (a.hidden ≡ false) ⊎ (StaysHidden a ⊎ (HasNoVector before ⊎ HidesNoValue secret before a))

-- a pair behind others, and what it is to an end that knows the secret
abbrev pub IsUncovered : List ℕ → List Avp → Avp → Avp → Type 0
IsUncovered secret before a plain =
    ((value : List ℕ) × HidesValue secret before a value × (plain ≡ record a { hidden = false; value = value }))
    ⊎ ((plain ≡ a) × Stays secret before a)

-- pair by pair, behind others
abbrev pub UncoversBehind : List ℕ → List Avp → List Avp → List Avp → Type 0
UncoversBehind secret before [] [] = ⊤
UncoversBehind secret before (a ∷ avps) (p ∷ plain) = IsUncovered secret before a p × UncoversBehind secret (before ++ a ∷ []) avps plain
UncoversBehind secret before avps plain = ⊥

-- without a secret, each pair stays
abbrev pub Uncovers : Option (List ℕ) → List Avp → List Avp → Type 0
Uncovers None avps plain = plain ≡ avps
Uncovers (Some secret) avps plain = UncoversBehind secret [] avps plain
