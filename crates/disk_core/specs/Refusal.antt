-- A disk that is refused from some moment on.
use Rattle.std.specs.Prelude.{◌≡◌, Bool, true, false, Option, Some, None, Result, Ok, Err}

-- a disk that is refused fails, and stays so; one that told whether it is still tells it
abbrev pub Refuses : {T E : Type 0} → Option Bool → Option Bool → Result T E → Type 0
Refuses None now answer = Unit {0}
Refuses (Some true) now (Ok value) = ⊥
Refuses (Some true) now (Err failed) = now ≡ Some true
Refuses (Some false) now answer = (is_refused : Bool) × (now ≡ Some is_refused)

-- one that tells whether it is refused is so from now on
abbrev pub RefusesFromNow : Option Bool → Option Bool → Type 0
RefusesFromNow None now = Unit {0}
RefusesFromNow (Some before) now = now ≡ Some true
