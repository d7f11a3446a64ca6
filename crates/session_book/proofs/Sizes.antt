-- How many contents a book is compacted to.
use Rattle.std.proofs.Common.{◌≡◌, ℕ, zero, suc, ◌+◌, ◌*◌, ◌<◌, ◌≤◌, Bool, true, false, cond, ◌==◌, List, [], ◌∷◌, ◌++◌, length, map, refl, ap, arith, length-append}
use Rattle.std.specs.Prelude.{Result, IfOk, Ok, Err}
use Rattle.std.specs.List.{AllByRecursion}
use Rattle.std.proofs.lemmas.List.{length-map}
use Rattle.session_book.specs.declared.record.BookTunnel.{BookTunnel}
use Rattle.session_book.specs.declared.record.BookCall.{BookCall}
use Rattle.session_book.specs.declared.record.Record.{Record}
use Rattle.session_book.specs.declared.record.Record.TheVariants.{Ceiling, Mark}
use Rattle.session_book.specs.Books.{Kept, AreRising}
use Rattle.session_book.specs.Spelling.{content_of, ceiling_records, tunnel_records, tunnels_records, calls_records, records_of, contents_of, IsKeptCall, IsWhole}

module _ {X : Type 0} (f : X → ℕ) where
  -- what rises has no more behind its first one than there are numbers above that one's
  few_behind : (high : ℕ) (x : X) (xs : List X) → AllByRecursion (λ y. f y ≤ high) (x ∷ xs) → AreRising f (x ∷ xs) → f x + length xs ≤ high
  few_behind high x [] each up = let le = each.0 in omega arith
  few_behind high x (y ∷ ys) each up =
      let lt : f x < f y = up zero (suc zero) y (omega arith) (omega arith) in
      let more = few_behind high y ys each.1 (λ i j d less within. up (suc i) (suc j) d (omega arith) (omega arith)) in
      omega arith

-- no more calls than there are ids for them
few_calls : (ceiling : ℕ) (tunnels : List BookTunnel) (calls : List BookCall) → AllByRecursion (IsKeptCall ceiling tunnels) calls
    → AreRising (λ c. c.local) calls → length calls ≤ ceiling
few_calls ceiling tunnels [] each up = omega arith
few_calls ceiling tunnels (c ∷ calls) each up =
    let drawn = each.0.drawn in
    let behind = few_behind (λ (x : BookCall). x.local) ceiling c calls (within (c ∷ calls) each) up in
    omega arith
  where
    within : (cs : List BookCall) → AllByRecursion (IsKeptCall ceiling tunnels) cs → AllByRecursion (λ (x : BookCall). x.local ≤ ceiling) cs
    within [] all = tt
    within (x ∷ cs) all = (all.0.within, within cs all.1)

-- ---- the records

one_or_none : (b : Bool) (r : Record) → length (cond b [] (r ∷ [])) ≤ 1
one_or_none true r = omega arith
one_or_none false r = omega arith

of_tunnels : (tunnels : List BookTunnel) → length (tunnels_records tunnels) ≤ 2 * length tunnels
of_tunnels [] = omega arith
of_tunnels (t ∷ tunnels) =
    let mark = one_or_none (t.mark == 0) (Mark t.local t.mark) in
    let more = of_tunnels tunnels in
    let both = length-append (tunnel_records t) (tunnels_records tunnels) in
    omega arith

of_calls : (calls : List BookCall) → length (calls_records calls) ≡ length calls
of_calls [] = refl
of_calls (c ∷ calls) = let more = of_calls calls in omega arith

few_records : (k : Kept) → IsWhole k → length (records_of k) ≤ 67585
few_records k whole =
    let tunnel_ids = ceiling_records 1 k.tunnel_ceiling in
    let session_ids = ceiling_records 2 k.session_ceiling in
    let draws = ceiling_records 3 k.draw_ceiling in
    let tunnels = tunnels_records k.tunnels in
    let calls = calls_records k.calls in
    let a = one_or_none (k.tunnel_ceiling == 0) (Ceiling 1 k.tunnel_ceiling) in
    let b = one_or_none (k.session_ceiling == 0) (Ceiling 2 k.session_ceiling) in
    let c = one_or_none (k.draw_ceiling == 0) (Ceiling 3 k.draw_ceiling) in
    let d = of_tunnels k.tunnels in
    let e = of_calls k.calls in
    let f = few_calls k.session_ceiling k.tunnels k.calls whole.calls whole.calls_in_order in
    let few = whole.few_tunnels in
    let last = whole.session_ceiling in
    let one = length-append tunnel_ids (session_ids ++ (draws ++ (tunnels ++ calls))) in
    let two = length-append session_ids (draws ++ (tunnels ++ calls)) in
    let three = length-append draws (tunnels ++ calls) in
    let four = length-append tunnels calls in
    omega arith

pub few_contents : {E : Type 0} (k : Kept) (r : Result (List (List ℕ)) E) → IsWhole k → IfOk r (λ contents. contents ≡ contents_of k)
    → IfOk r (λ contents. length contents ≤ 67585)
few_contents k (Ok contents) whole is =
    let size = ap length is in
    let same = length-map (records_of k) (λ r. content_of r) in
    let few = few_records k whole in
    omega arith
few_contents k (Err e) whole is = tt
