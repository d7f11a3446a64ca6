-- Prefixes, records that are all allowed, and runs that go on.
use Rattle.std.proofs.Common.{◌≡◌, ℕ, Bool, true, false, cond, ◌&&◌, List, [], ◌∷◌, ◌++◌, refl, ap, ◌∙◌}
use Rattle.epoch_machine.specs.Worlds.{World, Rules}
use Rattle.epoch_machine.specs.Moves.{Move, Kept, may_keep, keeps, keeps_all, step, goes_on}
use Rattle.epoch_machine.proofs.Splits.{chosen}
use Rattle.epoch_machine.proofs.Tells.{both}
use Rattle.stop_laws.specs.Records.{kept_of, writes, each_allowed}

pub all_of : (a b : Bool) → a ≡ true → b ≡ true → (a && b) ≡ true
all_of true true h g = refl
all_of true false h g = absurd cc
all_of false b h g = absurd cc

pub prefix_allowed : (w : World) (n : ℕ) (ks rest : List Kept) → each_allowed w n (ks ++ rest) ≡ true → each_allowed w n ks ≡ true
unfolding each_allowed
prefix_allowed w n [] rest h = refl
prefix_allowed w n (k ∷ ks) rest h = let a = both (may_keep w n k) (each_allowed w n (ks ++ rest)) h in all_of (may_keep w n k) (each_allowed w n ks) a.0 (prefix_allowed w n ks rest a.1)

-- what is allowed is kept
pub allowed_kept : (w : World) (n : ℕ) (ks : List Kept) (v : World) → each_allowed w n ks ≡ true → keeps_all w n ks v ≡ writes v ks
unfolding each_allowed keeps_all writes
allowed_kept w n [] v h = refl
allowed_kept w n (k ∷ ks) v h = let a = both (may_keep w n k) (each_allowed w n ks) h in ap (λ (b : Bool). keeps_all w n ks (cond b (keeps v k) v)) a.0 ∙ allowed_kept w n ks (keeps v k) a.1

pub kept_allowed : (w : World) (n : ℕ) (ks : List Kept) → each_allowed w n (kept_of w n ks) ≡ true
unfolding each_allowed kept_of
kept_allowed w n [] = refl
kept_allowed w n (k ∷ ks) = chosen (λ (js : List Kept). each_allowed w n js ≡ true) (may_keep w n k) (k ∷ kept_of w n ks) (kept_of w n ks) (λ h. all_of (may_keep w n k) (each_allowed w n (kept_of w n ks)) h (kept_allowed w n ks)) (λ h. kept_allowed w n ks)

-- a stop keeps those that it keeps
pub stop_writes : (w : World) (n : ℕ) (ks : List Kept) (v : World) → keeps_all w n ks v ≡ writes v (kept_of w n ks)
unfolding keeps_all writes kept_of
stop_writes w n [] v = refl
stop_writes w n (k ∷ ks) v = by (may_keep w n k) (stop_writes w n ks (keeps v k)) (stop_writes w n ks v)
  where
    by : (b : Bool) → keeps_all w n ks (keeps v k) ≡ writes (keeps v k) (kept_of w n ks) → keeps_all w n ks v ≡ writes v (kept_of w n ks) → keeps_all w n ks (cond b (keeps v k) v) ≡ writes v (cond b (k ∷ kept_of w n ks) (kept_of w n ks))
    by true p q = p
    by false p q = q

pub one_more : (r : Rules) (ms : List Move) (m : Move) (w : World) → goes_on r w (ms ++ m ∷ []) ≡ step r (goes_on r w ms) m
unfolding goes_on
one_more r [] m w = refl
one_more r (l ∷ ms) m w = one_more r ms m (step r w l)

pub two_more : (r : Rules) (ms : List Move) (l m : Move) (w : World) → goes_on r w (ms ++ l ∷ m ∷ []) ≡ step r (step r (goes_on r w ms) l) m
unfolding goes_on
two_more r [] l m w = refl
two_more r (k ∷ ms) l m w = two_more r ms l m (step r w k)

-- a prefix of at most one record that isn't empty
pub record IsAll (b : Bool) (k j : Kept) (ks : List Kept) : Type 0 where
  pub written : b ≡ true
  pub first : k ≡ j
  pub no_more : ks ≡ []

no_list : (ks rest : List Kept) → ks ++ rest ≡ [] → ks ≡ []
no_list [] rest h = refl
no_list (k ∷ ks) rest h = absurd cc

pub is_all : (b : Bool) (j k : Kept) (ks rest : List Kept) → (k ∷ ks) ++ rest ≡ cond b (j ∷ []) [] → IsAll b k j ks
is_all true j k ks rest h = record { written = refl; first = cc; no_more = no_list ks rest cc }
is_all false j k ks rest h = absurd cc
