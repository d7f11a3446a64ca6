-- The tunnels and the calls of a sound book stand by their local ids.
use Rattle.std.proofs.Common.{ℕ, ◌<◌, ◌≤◌, suc, List, [], ◌∷◌, length, arith}
use Rattle.std.specs.Prelude.{slice_index_or}
use Rattle.std.specs.List.{AllByRecursion, AllPairs}
use Rattle.session_book.specs.declared.record.BookTunnel.{BookTunnel}
use Rattle.session_book.specs.declared.record.BookCall.{BookCall}
use Rattle.session_book.specs.Books.{Kept, calls_of}
use Rattle.step_laws.specs.Starts.{IsSoundTunnel, IsSoundCall, IsSoundBook}
use Rattle.step_laws.proofs.Lists.{all_map}

-- ids above one, each above the one before
abbrev pub TunnelsRise : ℕ → List BookTunnel → Type 0
TunnelsRise n [] = Unit {0}
TunnelsRise n (b ∷ bs) = (n < b.local) × TunnelsRise b.local bs

abbrev pub CallsRise : ℕ → List BookCall → Type 0
CallsRise n [] = Unit {0}
CallsRise n (c ∷ cs) = (n < c.local) × CallsRise c.local cs

-- as a book is: its tunnels and its calls by their local ids, none of which is 0 or above its ceiling, and at most 1,024 tunnels, and
-- 4,096 calls with one of them
pub record IsBook (k : Kept) : Type 0 where
  pub tunnels : TunnelsRise 0 k.tunnels
  pub calls : CallsRise 0 k.calls
  pub few : (i : ℕ) → length (calls_of i k.calls) ≤ 4096
  pub tunnels_drawn : AllByRecursion (λ b. b.local ≤ k.tunnel_ceiling) k.tunnels
  pub calls_drawn : AllByRecursion (λ c. c.local ≤ k.session_ceiling) k.calls
  pub sessions : k.session_ceiling ≤ 65534
  pub many : length k.tunnels ≤ 1024

-- what holds at each index holds of each
indexed : {X : Type 0} (P : X → Type 0) (xs : List X) → ((k : ℕ) (d : X) → k < length xs → P (slice_index_or xs k d)) → AllByRecursion P xs
indexed P [] h = tt
indexed P (x ∷ xs) h = (h 0 x (omega arith), indexed P xs (λ k d low. h (suc k) d (omega (arith, low))))

module _ {X : Type 0} (id_of : X → ℕ) where
  abbrev Rising : List X → Type 0
  Rising xs = AllPairs (λ x y. id_of x < id_of y) xs

  first_under : (x : X) (xs : List X) → Rising (x ∷ xs) → AllByRecursion (λ y. id_of x < id_of y) xs
  first_under x xs h = indexed (λ y. id_of x < id_of y) xs (λ k d low. h 0 (suc k) d (omega arith) (omega (arith, low)))

  rest_rising : (x : X) (xs : List X) → Rising (x ∷ xs) → Rising xs
  rest_rising x xs h = λ i j d low under. h (suc i) (suc j) d (omega (arith, low)) (omega (arith, under))

tunnels_rise : (n : ℕ) (bs : List BookTunnel) → AllByRecursion (λ (b : BookTunnel). n < b.local) bs → Rising (λ (b : BookTunnel). b.local) bs → TunnelsRise n bs
tunnels_rise n [] over h = tt
tunnels_rise n (b ∷ bs) over h =
    (over.0, tunnels_rise b.local bs (first_under (λ (t : BookTunnel). t.local) b bs h) (rest_rising (λ (t : BookTunnel). t.local) b bs h))

calls_rise : (n : ℕ) (cs : List BookCall) → AllByRecursion (λ (c : BookCall). n < c.local) cs → Rising (λ (c : BookCall). c.local) cs → CallsRise n cs
calls_rise n [] over h = tt
calls_rise n (c ∷ cs) over h =
    (over.0, calls_rise c.local cs (first_under (λ (d : BookCall). d.local) c cs h) (rest_rising (λ (d : BookCall). d.local) c cs h))

pub sound_book : (k : Kept) → IsSoundBook k → IsBook k
sound_book k sound = record {
  tunnels = tunnels_rise 0 k.tunnels (all_map (IsSoundTunnel k.tunnel_ceiling) (λ (b : BookTunnel). 0 < b.local) (λ b h. h.some) k.tunnels sound.tunnels) sound.tunnels_rise;
  calls = calls_rise 0 k.calls (all_map (IsSoundCall k.session_ceiling) (λ (c : BookCall). 0 < c.local) (λ c h. h.some) k.calls sound.calls) sound.calls_rise;
  few = sound.few_calls;
  tunnels_drawn = all_map (IsSoundTunnel k.tunnel_ceiling) (λ (b : BookTunnel). b.local ≤ k.tunnel_ceiling) (λ b h. h.within) k.tunnels sound.tunnels;
  calls_drawn = all_map (IsSoundCall k.session_ceiling) (λ (c : BookCall). c.local ≤ k.session_ceiling) (λ c h. h.within) k.calls sound.calls;
  sessions = sound.session_ceiling;
  many = sound.few_tunnels;
}
