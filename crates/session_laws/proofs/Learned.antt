-- What a tunnel has learned of its other end, by its account.
use Rattle.std.proofs.Common.{◌≡◌, ◌⊎◌, inl, inr, ⊎_elim, ℕ, false, length, refl, sym, ap, ◌∙◌, subst, Option, Some, None, arith, ne_eqb}
use Rattle.id_table.specs.Order.{same_or_not}
use Rattle.connection_laws.specs.Accounts.{Part, Unmade, Opener, Acceptor, Account}
use Rattle.connection_laws.specs.Facts.{Accounts, IsOpen, IsOpener, IsPart}
use Rattle.session_laws.specs.Names.{other_name, is_early, learned_name}

-- it was closed before it heeded a letter, or not
pub early_or_not : (p : Part) (closed : Option ℕ) → ((p ≡ Opener) × (closed ≡ Some 0)) ⊎ (is_early p closed ≡ false)
early_or_not Unmade closed = inr refl
early_or_not Acceptor closed = inr refl
early_or_not Opener None = inr refl
early_or_not Opener (Some count) = ⊎_elim
    (λ (z : count ≡ 0). inl (refl, ap (λ c. Some c) z))
    (λ (other : count ≡ 0 → ⊥). inr (ne_eqb count 0 other))
    (same_or_not count 0)

-- it learned the other end that it knows
pub late_learned : (a : Account) → is_early a.part a.closed ≡ false → learned_name a ≡ other_name a
late_learned a late = rw late refl

-- or none
pub early_learned : (a : Account) → a.part ≡ Opener → a.closed ≡ Some 0 → learned_name a ≡ 0
early_learned a opener closed = rw (opener, closed) refl

pub none_learned : (a : Account) → a.remote ≡ 0 → learned_name a ≡ 0
none_learned a none = ⊎_elim
    (λ (e : (a.part ≡ Opener) × (a.closed ≡ Some 0)). early_learned a e.0 e.1)
    (λ (late : is_early a.part a.closed ≡ false). late_learned a late ∙ rw none refl)
    (early_or_not a.part a.closed)

open_late : (p : Part) (closed : Option ℕ) → closed ≡ None → is_early p closed ≡ false
open_late Unmade closed none = refl
open_late Acceptor closed none = refl
open_late Opener closed none = rw none refl

pub open_learned : (a : Account) → IsOpen a → learned_name a ≡ other_name a
open_learned a is_open = late_learned a (open_late a.part a.closed is_open)

-- one that is closed now keeps what it has learned: an opener that has taken no letter has learned none
pub closed_learned : (accs : Accounts) (n i : ℕ) (a : Account) → IsPart accs n i a a.part
    → learned_name (record a { closed = Some (length a.taken) }) ≡ other_name a
closed_learned accs n i a part = ⊎_elim
    (λ (e : (a.part ≡ Opener) × (Some (length a.taken) ≡ Some 0)).
    let opener : IsOpener accs n i a = subst (IsPart accs n i a) e.0 part in
    let nothing : length a.taken ≡ 0 = (let same = e.1 in cc) in
    let none : a.remote ≡ 0 = ⊎_elim
    (λ (z : a.remote ≡ 0). z)
    (λ (other : a.remote ≡ 0 → ⊥). let some = opener.some other in absurd (omega (arith, some, nothing)))
    (same_or_not a.remote 0) in
    none_learned (record a { closed = Some (length a.taken) }) none ∙ sym (rw none refl))
    (λ (late : is_early a.part (Some (length a.taken)) ≡ false). late_learned (record a { closed = Some (length a.taken) }) late)
    (early_or_not a.part (Some (length a.taken)))
