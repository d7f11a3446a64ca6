-- The network opens once.
use Rattle.std.proofs.Common.{◌≡◌, ℕ, ◌+◌, Bool, true, false, not, ◌&&◌, if◌then◌else◌, [], ◌∷◌, refl}
use Rattle.call_link.specs.Laws.{turn_at, openings, last, EachOpensOnce}
use Rattle.call_link.specs.Told.{each_tells_opening}

-- what is told of a step and of the rest
joined : (was is will told : Bool) (more : ℕ) → told ≡ (not was && is) → (was ≡ true → is ≡ true) → (is ≡ true → will ≡ true) →
    more ≡ (if not is && will then 1 else 0) → (if told then 1 else 0) + more ≡ (if not was && will then 1 else 0)
joined true true true told more t f g m = rw (t, m) refl
joined true true false told more t f g m = let x = g refl in cc
joined true false will told more t f g m = let x = f refl in cc
joined false true true told more t f g m = rw (t, m) refl
joined false true false told more t f g m = let x = g refl in cc
joined false false true told more t f g m = rw (t, m) refl
joined false false false told more t f g m = rw (t, m) refl

nothing_told : (was : Bool) (n : ℕ) → n ≡ 0 → n ≡ (if not was && was then 1 else 0)
nothing_told true n h = h
nothing_told false n h = h

pub each_opens_once : EachOpensOnce
each_opens_once [] l = record { told = nothing_told l.network 0 refl; stays = λ h. h }
each_opens_once (s ∷ ss) l =
    let t = turn_at s l in
    let here = each_tells_opening s.env s.call l in
    let rest = each_opens_once ss t.link in
    record {
      told = joined l.network t.link.network (last ss t.link).network t.opens (openings ss t.link) here.told here.stays rest.stays rest.told;
      stays = λ h. rest.stays (here.stays h);
    }
