-- The sessions that a tunnel asks for, and those of which it answers: their ids have 16 bits, and so have those of each part of them. And
-- what is left of calls where some of them end.
use Rattle.std.proofs.Common.{◌≡◌, ℕ, zero, suc, ◌<◌, ◌≤◌, Bool, true, false, cond, List, [], ◌∷◌, length, map, filter, take, drop, refl, ◌∙◌, subst, Some, arith}
use Rattle.std.proofs.lemmas.Bool.{eq-eqb, ne_eqb}
use Rattle.std.specs.Prelude.{nat_le, ◌==◌, ◌^◌}
use Rattle.std.specs.List.{AllByRecursion}
use Rattle.id_table.specs.Ids.{at, at-cons, without}
use Rattle.id_table.specs.Order.{Ascends, IsAbove, ascends-without, found_without}
use Rattle.wire_base.specs.declared.pair.Pair.{Pair}
use Rattle.session_query.specs.Queries.{Asking, left_of, batch_if, next_batch, answers_to, is_here, answered, is_complete}
use Rattle.control_message.specs.Pairs.{AreWrittenSessions}
use Rattle.end_model.specs.declared.tunnel.Call.{Call}
use Rattle.end_model.specs.Calls.{pair_of, is_up, is_session, sessions_of}
use Rattle.end_model.specs.Querying.{unless_complete}
use Rattle.end_model.specs.Tunnels.{no_query}
use Rattle.step_laws.specs.Moves.{without_each, finished_of}
use Rattle.frame_laws.proofs.Facts.{FitsPair, all_map}

pub by_test : {X : Type 0} (P : X → Type 0) (b : Bool) (x y : X) → P x → P y → P (cond b x y)
by_test P true x y h k = h
by_test P false x y h k = k

abbrev FitsWide : Pair → Type 0
FitsWide p = (p.sender < 2 ^ 32) × (p.receiver < 2 ^ 32)

-- ---- parts of lists

all_drop : (P : Pair → Type 0) (n : ℕ) (ps : List Pair) → AllByRecursion P ps → AllByRecursion P (drop n ps)
all_drop P zero ps h = h
all_drop P (suc n) [] h = h
all_drop P (suc n) (p ∷ ps) h = all_drop P n ps h.1

all_take : (P : Pair → Type 0) (n : ℕ) (ps : List Pair) → AllByRecursion P ps → AllByRecursion P (take n ps)
all_take P zero ps h = tt
all_take P (suc n) [] h = tt
all_take P (suc n) (p ∷ ps) h = (h.0, all_take P n ps h.1)

take_few : (n : ℕ) (ps : List Pair) → length (take n ps) ≤ n
take_few zero ps = omega arith
take_few (suc n) [] = omega arith
take_few (suc n) (p ∷ ps) = let le = take_few n ps in omega (arith, le)

all_wide : (ps : List Pair) → AllByRecursion FitsPair ps → AllByRecursion FitsWide ps
all_wide ps h = all_map FitsPair FitsWide (λ p fit. (let a = fit.0 in omega (arith, a), let b = fit.1 in omega (arith, b))) ps h

-- ---- the sessions of a tunnel

abbrev pub IsFound : List (ℕ × Call) → ℕ × Call → Type 0
IsFound calls x = at calls x.0 ≡ Some x.1

found_later : (x : ℕ × Call) (calls rest : List (ℕ × Call)) → IsAbove x.0 rest → AllByRecursion (IsFound calls) rest
    → AllByRecursion (IsFound (x ∷ calls)) rest
found_later x calls [] above h = tt
found_later x calls (y ∷ rest) above h =
    let lt = above.0 in
    let other : y.0 ≡ x.0 → ⊥ = λ same. omega (arith, lt, same) in
    (at-cons x calls y.0 ∙ (rw (ne_eqb y.0 x.0 other) h.0), found_later x calls rest above.1 h.1)

-- each call that stands in a table is found there
pub all_found : (calls : List (ℕ × Call)) → Ascends calls → AllByRecursion (IsFound calls) calls
unfolding Ascends
all_found [] order = tt
all_found (x ∷ calls) order =
    (at-cons x calls x.0 ∙ rw (eq-eqb x.0 x.0 refl) refl, found_later x calls calls order.0 (all_found calls order.1))

pairs_fit : (table calls : List (ℕ × Call)) → AllByRecursion (IsFound table) calls
    → ((s : ℕ) (c : Call) → at table s ≡ Some c → FitsPair (pair_of (s, c)))
    → AllByRecursion FitsPair (map pair_of (filter is_session calls))
pairs_fit table [] found fits = tt
pairs_fit table (x ∷ calls) found fits =
    let rest = pairs_fit table calls found.1 fits in
    by_test (λ (xs : List (ℕ × Call)). AllByRecursion FitsPair (map pair_of xs)) (is_session x) (x ∷ filter is_session calls)
    (filter is_session calls)
    (fits x.0 x.1 found.0, rest) rest

pub sessions_fit : (calls : List (ℕ × Call)) → Ascends calls → ((s : ℕ) (c : Call) → at calls s ≡ Some c → FitsPair (pair_of (s, c)))
    → AllByRecursion FitsPair (sessions_of calls)
unfolding sessions_of
sessions_fit calls order fits = pairs_fit calls calls (all_found calls order) fits

-- ---- what is asked for

batch_is : (free over : Bool) (xs ps : List Pair) → batch_if free over xs ≡ Some ps → xs ≡ ps
batch_is true false xs ps h = cc
batch_is true true xs ps h = absurd cc
batch_is false true xs ps h = absurd cc
batch_is false false xs ps h = absurd cc

-- the next sessions are 64 at most, and some of those that are to be asked for
pub batch_written : (q : Asking) (pairs : List Pair) → next_batch q ≡ Some pairs → AllByRecursion FitsPair q.pairs
    → AreWrittenSessions pairs
unfolding next_batch
batch_written q pairs is fit =
    let same = batch_is (q.asked == 0) (nat_le (length q.pairs) q.done) (take 64 (left_of q)) pairs is in
    let le = take_few 64 (left_of q) in
    subst AreWrittenSessions same (record {
      few = omega (arith, le);
      ids = all_wide (take 64 (left_of q)) (all_take FitsPair 64 (left_of q) (all_drop FitsPair q.done q.pairs fit));
    })

-- ---- what is answered

answers_wide : (here asked : List Pair) → AllByRecursion FitsWide asked → AllByRecursion FitsWide (answers_to here asked)
answers_wide here [] h = tt
answers_wide here (p ∷ ps) h =
    ((by_test (λ z. z < 2 ^ 32) (is_here here p) p.receiver 0 h.0.1 (omega arith), h.0.0), answers_wide here ps h.1)

answers_length : (here asked : List Pair) → length (answers_to here asked) ≡ length asked
answers_length here [] = refl
answers_length here (p ∷ ps) = let same = answers_length here ps in omega (arith, same)

pub answers_written : (here asked : List Pair) → AreWrittenSessions asked → AreWrittenSessions (answers_to here asked)
answers_written here asked w = record {
  few = (let le = w.few in let same = answers_length here asked in omega (arith, le, same));
  ids = answers_wide here asked w.ids;
}

-- ---- what is still to be asked for

pub asked_left : (q : Asking) → AllByRecursion FitsPair q.pairs → AllByRecursion FitsPair (unless_complete (answered q)).pairs
asked_left q fit = by_test (λ (y : Asking). AllByRecursion FitsPair y.pairs) (is_complete (answered q)) no_query (answered q) tt fit

-- ---- what is left of calls

pub found_each : (ss : List ℕ) (calls : List (ℕ × Call)) (s : ℕ) (c : Call) → Ascends calls → at (without_each ss calls) s ≡ Some c
    → at calls s ≡ Some c
found_each [] calls s c order there = there
found_each (k ∷ ss) calls s c order there =
    (found_without calls k s c order (found_each ss (without calls k) s c (ascends-without k calls order) there)).1

pub ascends_each : (ss : List ℕ) (calls : List (ℕ × Call)) → Ascends calls → Ascends (without_each ss calls)
ascends_each [] calls order = order
ascends_each (k ∷ ss) calls order = ascends_each ss (without calls k) (ascends-without k calls order)

finished_above : (k : ℕ) (es : List (ℕ × Call)) → IsAbove k es → IsAbove k (finished_of es)
finished_above k [] above = tt
finished_above k (e ∷ es) above =
    let later = finished_above k es above.1 in
    by_test (IsAbove k) (is_up e.1.state) (e ∷ finished_of es) (finished_of es) (above.0, later) later

pub finished_ascends : (es : List (ℕ × Call)) → Ascends es → Ascends (finished_of es)
unfolding Ascends
finished_ascends [] order = tt
finished_ascends (e ∷ es) order =
    let later = finished_ascends es order.1 in
    by_test Ascends (is_up e.1.state) (e ∷ finished_of es) (finished_of es) (finished_above e.0 es order.0, later) later
