-- What follows of an answer, whichever it is.
use Rattle.std.proofs.Common.{Result, Ok, Err, OnOk, OnErr}

module _ {T E A B : Type 0} where
  pub ok_then : (r : Result T E) → (A → B) → OnOk r A → OnOk r B
  ok_then (Ok x) f h = f h
  ok_then (Err e) f h = tt

  pub err_then : (r : Result T E) → (A → B) → OnErr r A → OnErr r B
  err_then (Ok x) f h = tt
  err_then (Err e) f h = f h

module _ {T E A : Type 0} where
  pub ok_always : (r : Result T E) → A → OnOk r A
  ok_always (Ok x) h = h
  ok_always (Err e) h = tt

  pub err_always : (r : Result T E) → A → OnErr r A
  err_always (Ok x) h = tt
  err_always (Err e) h = h

module _ {A B : Type 0} where
  pub both : A → B → A × B
  both a b = (a, b)
