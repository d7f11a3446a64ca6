-- The call that a peer's session id names.
use Rattle.std.proofs.Common.{◌≡◌, ◌⊎◌, inl, inr, ℕ, Bool, true, false, cond, List, refl, sym, ◌∙◌, Option, Some, None}
use Rattle.std.proofs.lemmas.Bool.{eqb-true, eq-eqb}
use Rattle.std.specs.Prelude.{◌==◌, unwrap_or}
use Rattle.id_table.specs.Ids.{at, ids_of}
use Rattle.end_model.specs.declared.tunnel.Call.{Call}
use Rattle.end_model.specs.Asking.{is_call_of, call_of, session_named}
use Rattle.step_laws.proofs.Lists.{found_passes, none_passes, found_among}
use Rattle.step_laws.proofs.States.{never}

-- a call that is found by it is there, and has it
abbrev pub HasId : List (ℕ × Call) → ℕ → ℕ → Type 0
HasId calls remote s = (c : Call) × (at calls s ≡ Some c) × (c.remote ≡ remote)

pub found_call : (calls : List (ℕ × Call)) (remote s : ℕ) → call_of calls remote ≡ Some s → HasId calls remote s
unfolding call_of
found_call calls remote s is = by (at calls s) refl (found_passes (λ q. is_call_of remote (at calls q)) (ids_of calls) s is)
  where
    by : (o : Option Call) → at calls s ≡ o → is_call_of remote o ≡ true → HasId calls remote s
    by None there has = never has
    by (Some c) there has = (c, there, eqb-true c.remote remote has)

-- and where none is found, none has it
pub none_found : (calls : List (ℕ × Call)) (remote : ℕ) → call_of calls remote ≡ None → (s : ℕ) → HasId calls remote s → ⊥
unfolding call_of
none_found calls remote none s h =
    let there = h.1 in
    none_passes (λ q. is_call_of remote (at calls q)) (ids_of calls) s none (found_among calls s h.0 there)
    (rw there (eq-eqb h.0.remote remote h.2))

-- a call that ends by the peer's CDN is named by the header, or by its other id
pub named_so : (calls : List (ℕ × Call)) (session remote s : ℕ) (c : Call) → s ≡ session_named calls session remote → at calls s ≡ Some c
    → (session ≡ s) ⊎ ((session ≡ 0) × (c.remote ≡ remote))
unfolding session_named
named_so calls session remote s c named live = by (session == 0) (remote == 0) (call_of calls remote) refl refl refl named
  where
    by : (a b : Bool) (o : Option ℕ) → (session == 0) ≡ a → (remote == 0) ≡ b → call_of calls remote ≡ o
        → s ≡ cond a (cond b 0 (unwrap_or o 0)) session → (session ≡ s) ⊎ ((session ≡ 0) × (c.remote ≡ remote))
    by false b o some told found is = inl (sym is)
    by true true o none told found is = inl (eqb-true session 0 none ∙ sym is)
    by true false None none told found is = inl (eqb-true session 0 none ∙ sym is)
    by true false (Some q) none told found is =
        let h = found_call calls remote q found in
        let there = h.1 in
        let same : Some c ≡ Some h.0 = sym live ∙ (rw is there) in
        let one : c ≡ h.0 = cc in
        let has = h.2 in
        inr (eqb-true session 0 none, rw one has)
