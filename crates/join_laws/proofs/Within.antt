-- A channel heeded no more letters than its partner gave.
use Rattle.std.proofs.Common.{◌≡◌, ◌⊎◌, inl, inr, ⊎_elim, ℕ, zero, suc, ◌<◌, ◌≤◌, Bool, true, false, List, [], ◌∷◌, length, refl, sym, ap, ap₂, ◌∙◌, subst, Option, Some, None, arith}
use Rattle.std.proofs.lemmas.Option.{none-some, same_Some, slice_get_within}
use Rattle.std.specs.Prelude.{slice_get, unwrap_or, if◌then◌else◌, ◌==◌}
use Rattle.world_model.specs.World.{World, Sender}
use Rattle.channel_laws.specs.Accounts.{Account, heeded, partner_of, History}
use Rattle.channel_laws.specs.Facts.{partner_in, IsTaken, Holds}
use Rattle.join_laws.specs.Steps.{ClosesWithin, AllClose}

-- what is at a place of a list
pub some_at : {X : Type 0} (xs : List X) (k : ℕ) → k < length xs → (x : X) × (slice_get xs k ≡ Some x)
some_at [] k lt = absurd (omega (arith, lt))
some_at (x ∷ xs) zero lt = (x, refl)
some_at (x ∷ xs) (suc k) lt = some_at xs k (omega (arith, lt))

-- the partner, whose id is known
pub partner_by : (a : Account) (p : Sender) → partner_of a ≡ Some p → (a.peer ≡ p.node) × (a.remote ≡ p.tunnel)
partner_by a p h = by (a.remote == 0) h
  where
    by : (none : Bool) → (if none then None else Some (record { node = a.peer; tunnel = a.remote })) ≡ Some p → (a.peer ≡ p.node)
        × (a.remote ≡ p.tunnel)
    by true g = absurd (none-some p g)
    by false g =
        let same : record { node = a.peer; tunnel = a.remote } ≡ p = same_Some _ p g in
        (ap (λ (q : Sender). q.node) same, ap (λ (q : Sender). q.tunnel) same)

heeds_taken : (a : Account) → ClosesWithin a → heeded a ≤ length a.taken
heeds_taken a closes = by a.closed closes
  where
    by : (o : Option ℕ) → ((count : ℕ) → o ≡ Some count → count ≤ length a.taken) → unwrap_or o (length a.taken) ≤ length a.taken
    by None c = omega arith
    by (Some count) c = c count refl

pub heeds_within : (w : World) (h : History) → Holds w h → AllClose h → (q j e : ℕ)
    → heeded (h.accounts q j e) ≤ length (partner_in h.accounts e (h.accounts q j e)).given
heeds_within w h holds closes q j e = by (heeded a) refl
  where
    a : Account
    a = h.accounts q j e

    by : (count : ℕ) → heeded a ≡ count → count ≤ length (partner_in h.accounts e a).given
    by zero is = omega arith
    by (suc place) is =
        let most = heeds_taken a (closes q j e) in
        let got = some_at a.taken place (omega (arith, most, is)) in
        let took : IsTaken h.accounts e a place got.0 = (holds.accounts q j e).taken place got.0 got.1 (omega (arith, is)) in
        let p = partner_by a took.partner took.learned in
        let lt = slice_get_within (h.accounts took.partner.node took.partner.tunnel e).given place took.letter took.there in
        let same = ap₂ (λ x y. length (h.accounts x y e).given) p.0 p.1 in
        omega (arith, lt, same)
