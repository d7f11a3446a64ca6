-- What a message needs: it is made, or the least attribute that isn't there is told.
use Rattle.std.proofs.Common.{◌≡◌, ℕ, ◌≤◌, List, [], ◌∷◌, ◌++◌, Result, Ok, Err, refl, sym, ap, subst, inl, inr, ◌⊎◌, ◌∙◌, arith}
use Rattle.std.specs.List.{AllByRecursion}
use Rattle.wire_base.specs.Answers.{◌>>=◌}
use Rattle.avp_codec.specs.declared.avp.Avp.{Avp}
use Rattle.control_message.specs.declared.kind.Kind.{Kind}
use Rattle.control_message.specs.declared.message.MessageError.{MessageError}
use Rattle.control_message.specs.declared.message.MessageError.TheVariants.{Missing}
use Rattle.control_message.specs.Table.{needs_of}
use Rattle.control_message.specs.Grammar.{IsAbsent}
use Rattle.control_message.specs.Faults.{IsAmong, IsLeastMissing}

-- a message that is read, or the least attribute that is missing
abbrev pub Made : {M : Type 0} → Kind → List Avp → Result M MessageError → Type 0
Made {M} k avps r = ((m : M) × (r ≡ Ok m) × AllByRecursion (λ n. ¬ IsAbsent n avps) (needs_of k)) ⊎ ((n : ℕ) × (r ≡ Err (Missing n)) × IsLeastMissing k avps n)

pub among_done : (avps : List Avp) (done : List ℕ) (m : ℕ) → AllByRecursion (λ n. ¬ IsAbsent n avps) done → IsAmong m done → ¬ IsAbsent m avps
among_done avps [] m all h none = h
among_done avps (n ∷ done) m all (inl e) none = all.0 (subst (λ (x : ℕ). IsAbsent x avps) e none)
among_done avps (n ∷ done) m all (inr h) none = among_done avps done m all.1 h none

among_rest : (n m : ℕ) (rest : List ℕ) → AllByRecursion (λ x. n ≤ x) rest → IsAmong m rest → n ≤ m
among_rest n m [] all h = absurd h
among_rest n m (x ∷ rest) all (inl e) = let le = all.0 in omega arith
among_rest n m (x ∷ rest) all (inr h) = among_rest n m rest all.1 h

among_either : (m : ℕ) (xs ys : List ℕ) → IsAmong m (xs ++ ys) → IsAmong m xs ⊎ IsAmong m ys
among_either m [] ys h = inr h
among_either m (x ∷ xs) ys (inl e) = inl (inl e)
among_either m (x ∷ xs) ys (inr h) = elim (among_either m xs ys h) [ inl a ↦ inl (inr a) | inr b ↦ inr b ]

among_right : (m : ℕ) (xs ys : List ℕ) → IsAmong m ys → IsAmong m (xs ++ ys)
among_right m [] ys h = h
among_right m (x ∷ xs) ys h = inr (among_right m xs ys h)

-- the first of the needed attributes that is absent, since they stand in order
pub least_of : (k : Kind) (avps : List Avp) (n : ℕ) (done rest : List ℕ) → needs_of k ≡ done ++ n ∷ rest → AllByRecursion (λ m. ¬ IsAbsent m avps) done → AllByRecursion (λ m. n ≤ m) rest → IsAbsent n avps → IsLeastMissing k avps n
least_of k avps n done rest needs there above none =
    record {
      needed = subst (IsAmong n) (sym needs) (among_right n done (n ∷ rest) (inl refl));
      absent = none;
      least = λ m among absent. elim (among_either m done (n ∷ rest) (subst (IsAmong m) needs among)) [
        | inl a ↦ absurd (among_done avps done m there a absent)
        | inr b ↦ elim b [ inl e ↦ omega arith | inr c ↦ among_rest n m rest above c ]
      ];
    }

-- something made of what was read
pub made_of : {M N : Type 0} (k : Kind) (avps : List Avp) (r : Result M MessageError) (f : M → N) → Made k avps r → Made k avps (r >>= λ x. Ok (f x))
made_of k avps r f (inl h) = inl (f h.0, rw h.1 refl, h.2)
made_of k avps r f (inr h) = inr (h.0, rw h.1 refl, h.2)

-- where the least one that is missing is known, it is told
pub made_missing : {M : Type 0} (k : Kind) (avps : List Avp) (r : Result M MessageError) (n : ℕ) → IsLeastMissing k avps n → Made k avps r → r ≡ Err (Missing n)
made_missing k avps r n least (inl made) = absurd (among_done avps (needs_of k) n made.2 least.needed least.absent)
made_missing k avps r n least (inr missing) =
    let low = least.least missing.0 missing.2.needed missing.2.absent in
    let high = missing.2.least n least.needed least.absent in
    let same : missing.0 ≡ n = omega arith in
    missing.1 ∙ ap (λ (x : ℕ). Err (Missing x)) same
