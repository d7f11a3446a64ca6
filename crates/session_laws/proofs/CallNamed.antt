-- Whom a CDN names among the calls of a tunnel.
use Rattle.std.proofs.Common.{◌≡◌, ◌⊎◌, inl, inr, ⊎_elim, ℕ, ◌<◌, Bool, true, false, cond, eqb, List, [], ◌∷◌, refl, sym, ap, ◌∙◌, Option, Some, None, arith, ne_eqb, eq-eqb}
use Rattle.std.proofs.lemmas.Bool.{true≢false, eqb-true}
use Rattle.std.proofs.lemmas.Option.{none-some}
use Rattle.std.specs.Prelude.{find, unwrap_or}
use Rattle.id_table.specs.Ids.{at, ids_of, at-none, at-cons}
use Rattle.id_table.specs.Order.{same_or_not}
use Rattle.end_model.specs.declared.tunnel.Call.{Call}
use Rattle.end_model.specs.Asking.{is_call_of, call_of, session_named}
use Rattle.session_laws.specs.Names.{name_of}
use Rattle.session_laws.proofs.Names.{name_not_zero, known_name}

pub find_passes : (p : ℕ → Bool) (xs : List ℕ) (y : ℕ) → find p xs ≡ Some y → p y ≡ true
find_passes p [] y h = absurd cc
find_passes p (x ∷ xs) y h = by (p x) refl (find_passes p xs y) h
  where
    by : (b : Bool) → p x ≡ b → (find p xs ≡ Some y → p y ≡ true) → cond b (Some x) (find p xs) ≡ Some y → p y ≡ true
    by true is later g = let same : x ≡ y = cc in rw (← same) is
    by false is later g = later g

module _ {X : Type 0} where
  -- one of the ids of a table that passes is found
  pub find_id : (p : ℕ → Bool) (es : List (ℕ × X)) (k : ℕ) (v : X) → at es k ≡ Some v → p k ≡ true → (y : ℕ) × (find p (ids_of es) ≡ Some y)
  find_id p [] k v there passes = absurd (none-some v (sym (at-none k) ∙ there))
  find_id p (e ∷ es) k v there passes = by (p e.0) refl (eqb k e.0) refl (λ got. find_id p es k v got passes) (sym (at-cons e es k) ∙ there)
    where
      by : (b : Bool) → p e.0 ≡ b → (is : Bool) → eqb k e.0 ≡ is
          → (at es k ≡ Some v → (y : ℕ) × (find p (ids_of es) ≡ Some y)) → cond is (Some e.1) (at es k) ≡ Some v
          → (y : ℕ) × (cond b (Some e.0) (find p (ids_of es)) ≡ Some y)
      by true passes_it is same later got = (e.0, refl)
      by false fails true same later got = absurd (true≢false (sym passes ∙ ap p (eqb-true k e.0 same) ∙ fails))
      by false fails false same later got = later got

-- ---- headers

-- a header that names none is 0
pub no_header : (n session : ℕ) → name_of n session ≡ 0 → session ≡ 0
no_header n session none = ⊎_elim
    (λ (is : session ≡ 0). is)
    (λ (some : session ≡ 0 → ⊥).
    let lt : 0 < session = omega (arith, some) in
    absurd (name_not_zero n session lt (sym (known_name n session lt) ∙ none)))
    (same_or_not session 0)

pub some_header : (n session : ℕ) → (name_of n session ≡ 0 → ⊥) → session ≡ 0 → ⊥
some_header n session some none = some (rw none refl)

-- ---- calls

-- a header that isn't 0 names its session
pub named_by_header : (calls : List (ℕ × Call)) (session remote : ℕ) → (session ≡ 0 → ⊥) → session_named calls session remote ≡ session
unfolding session_named
named_by_header calls session remote some = rw (ne_eqb session 0 some) refl

pub record NamesCall (calls : List (ℕ × Call)) (remote : ℕ) (s : ℕ) : Type 0 where
  pub call : Call
  pub there : at calls s ≡ Some call
  pub knows : call.remote ≡ remote

is_call_one : (remote : ℕ) (o : Option Call) → is_call_of remote o ≡ true → (c : Call) × (o ≡ Some c) × (c.remote ≡ remote)
is_call_one remote None h = absurd (true≢false (sym h))
is_call_one remote (Some c) h = (c, refl, eqb-true c.remote remote h)

-- one that is 0 names a call that knows the other one, where there is any
pub named_by_remote : (calls : List (ℕ × Call)) (remote s : ℕ) (c : Call) → at calls s ≡ Some c → c.remote ≡ remote → (remote ≡ 0 → ⊥)
    → NamesCall calls remote (session_named calls 0 remote)
unfolding session_named call_of
named_by_remote calls remote s c there knows some =
    let f = find_id (λ q. is_call_of remote (at calls q)) calls s c there (rw there (eq-eqb c.remote remote knows)) in
    let it = is_call_one remote (at calls f.0) (find_passes (λ q. is_call_of remote (at calls q)) (ids_of calls) f.0 f.1) in
    record { call = it.0; there = rw (ne_eqb remote 0 some, f.1) it.1; knows = it.2 }

-- whatever a header of 0 names, where it is a call at all, knows the other one
pub named_knows : (calls : List (ℕ × Call)) (remote : ℕ) (c : Call) → at calls (session_named calls 0 remote) ≡ Some c
    → (c.remote ≡ remote) ⊎ (session_named calls 0 remote ≡ 0)
unfolding session_named call_of
named_knows calls remote c there = ⊎_elim
    (λ (none : remote ≡ 0). inr (rw none refl))
    (λ (some : remote ≡ 0 → ⊥).
    let is = ne_eqb remote 0 some in
    rw is (by (find (λ q. is_call_of remote (at calls q)) (ids_of calls)) refl (rw is at there)))
    (same_or_not remote 0)
  where
    by : (o : Option ℕ) → find (λ q. is_call_of remote (at calls q)) (ids_of calls) ≡ o → at calls (unwrap_or o 0) ≡ Some c
        → (c.remote ≡ remote) ⊎ (unwrap_or o 0 ≡ 0)
    by None is got = inr refl
    by (Some q) is got =
        let it = is_call_one remote (at calls q) (find_passes (λ k. is_call_of remote (at calls k)) (ids_of calls) q is) in
        let same : it.0 ≡ c = let g = sym it.1 ∙ got in cc in
        inl (ap (λ (k : Call). k.remote) (sym same) ∙ it.2)
