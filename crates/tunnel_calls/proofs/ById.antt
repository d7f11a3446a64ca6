-- What is told of each call by its session id is what is told of the calls as they stand in their table.
use Rattle.std.specs.Prelude.{◌≡◌, ℕ, Bool, true, false, if◌then◌else◌, List, [], ◌∷◌, ◌++◌, map, filter, flat_map, Result, Ok, Err, IfOk}
use Rattle.std.specs.List.{AllByRecursion}
use Rattle.std.proofs.Common.{refl, ap, sym, ◌∙◌, subst}
use Rattle.std.proofs.lemmas.List.Elements.{All-from_recursion}
use Rattle.id_table.specs.Ids.{at, ids_of}
use Rattle.id_table.specs.Order.{Ascends}
use Rattle.wire_base.specs.declared.pair.Pair.{Pair}
use Rattle.end_model.specs.declared.tunnel.Call.{Call}
use Rattle.end_model.specs.Calls.{is_up, pair_of, is_session, sessions_of}
use Rattle.tunnel_timers.specs.Bounds.{AreFound, all_found}
use Rattle.tunnel_calls.specs.declared.telling.CallRows.{CallRows}
use Rattle.tunnel_calls.specs.Replays.{replays, AllReplay}
use Rattle.tunnel_calls.specs.Telling.{told_of, rows_of, rows_at, pairs_at, lead_to, RowsLead}

rows_by : (es fs : List (ℕ × Call)) → AreFound es fs → flat_map (λ s. rows_at s (at es s)) (ids_of fs) ≡ map told_of fs
rows_by es [] found = refl
rows_by es (x ∷ fs) found =
    ap (λ o. rows_at x.0 o ++ flat_map (λ s. rows_at s (at es s)) (ids_of fs)) found.0 ∙ ap (λ rows. told_of x ∷ rows) (rows_by es fs found.1)

pub rows_listed : (calls : List (ℕ × Call)) → Ascends calls → flat_map (λ s. rows_at s (at calls s)) (ids_of calls) ≡ rows_of calls
unfolding rows_of
rows_listed calls ascend = rows_by calls calls (all_found calls ascend)

-- what is told of the calls of all ids
pub rows_told : {E : Type 0} (calls : List (ℕ × Call)) (ids : List ℕ) (told : Result (List CallRows) E) → Ascends calls → ids ≡ ids_of calls
    → IfOk told (λ rows. rows ≡ flat_map (λ s. rows_at s (at calls s)) ids) → IfOk told (λ rows. rows ≡ rows_of calls)
rows_told calls ids (Ok rows) ascend all h = h ∙ ap (flat_map (λ s. rows_at s (at calls s))) all ∙ rows_listed calls ascend
rows_told calls ids (Err e) ascend all h = tt

pair_added : (b : Bool) (c : ℕ × Call) (more : List (ℕ × Call)) (ps : List Pair) → ps ≡ map pair_of more
    → (if b then pair_of c ∷ [] else []) ++ ps ≡ map pair_of (if b then c ∷ more else more)
pair_added true c more ps h = ap (λ k. pair_of c ∷ k) h
pair_added false c more ps h = h

pairs_by : (es fs : List (ℕ × Call)) → AreFound es fs → flat_map (λ s. pairs_at s (at es s)) (ids_of fs) ≡ map pair_of (filter is_session fs)
pairs_by es [] found = refl
pairs_by es (x ∷ fs) found =
    ap (λ o. pairs_at x.0 o ++ flat_map (λ s. pairs_at s (at es s)) (ids_of fs)) found.0
    ∙ pair_added (is_up x.1.state) x (filter is_session fs) _ (pairs_by es fs found.1)

pub pairs_listed : (calls : List (ℕ × Call)) → Ascends calls → flat_map (λ s. pairs_at s (at calls s)) (ids_of calls) ≡ sessions_of calls
unfolding sessions_of
pairs_listed calls ascend = pairs_by calls calls (all_found calls ascend)

pub pairs_told : {E : Type 0} (calls : List (ℕ × Call)) (ids : List ℕ) (told : Result (List Pair) E) → Ascends calls → ids ≡ ids_of calls
    → IfOk told (λ pairs. pairs ≡ flat_map (λ s. pairs_at s (at calls s)) ids) → IfOk told (λ pairs. pairs ≡ sessions_of calls)
pairs_told calls ids (Ok pairs) ascend all h = h ∙ ap (flat_map (λ s. pairs_at s (at calls s))) all ∙ pairs_listed calls ascend
pairs_told calls ids (Err e) ascend all h = tt

-- ---- where they lead

leads_by : (es fs : List (ℕ × Call)) → AllReplay es → AreFound es fs → AllByRecursion (λ r. lead_to r (at es r.session) ≡ true) (map told_of fs)
unfolding AllReplay replays
leads_by es [] all found = tt
leads_by es (x ∷ fs) all found =
    (subst (λ o. lead_to (told_of x) o ≡ true) (sym found.0) (all x.0 x.1 found.0), leads_by es fs all found.1)

pub rows_lead : (calls : List (ℕ × Call)) → Ascends calls → AllReplay calls → RowsLead calls
unfolding rows_of
rows_lead calls ascend all =
    All-from_recursion (λ r. lead_to r (at calls r.session) ≡ true) (map told_of calls) (leads_by calls calls all (all_found calls ascend))
