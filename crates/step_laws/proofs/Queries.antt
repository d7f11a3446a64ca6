-- What a tunnel asks for stays in order, and what is left of calls once an answer ended some.
use Rattle.std.proofs.Common.{◌≡◌, ℕ, ◌<◌, ◌≤◌, Bool, true, false, cond, zero, suc, List, [], ◌∷◌, length, map, filter, take, drop, refl, sym, ap, ◌∙◌, subst, Option, Some, None, Ok, Err, arith, ⊎_elim, inl, inr}
use Rattle.std.proofs.lemmas.List.{length-take, length-drop}
use Rattle.std.specs.Prelude.{◌==◌, nat_le}
use Rattle.wire_base.specs.declared.pair.Pair.{Pair}
use Rattle.id_table.specs.Ids.{at, without}
use Rattle.id_table.specs.Order.{IsAbove, Ascends, ascends-without, found_without, at_without_other}
use Rattle.session_query.specs.Queries.{Asking, new_query, left_of, unanswered, batch_if, next_batch, with_batch, difference, gone_in, told_by, told_in, answered, is_complete}
use Rattle.end_model.specs.declared.tunnel.Call.{Call}
use Rattle.end_model.specs.declared.tunnel.Control.{Control}
use Rattle.end_model.specs.Calls.{is_up, pair_of, is_session, sessions_of, owed_by}
use Rattle.end_model.specs.Owing.{owed-without}
use Rattle.end_model.specs.Querying.{told_at, stands, has_remote, ended_of, unless_complete}
use Rattle.end_model.specs.Moments.{is_open}
use Rattle.tunnel_fsm.specs.declared.table.TunnelState.{TunnelState}
use Rattle.end_model.specs.Tunnels.{no_query}
use Rattle.end_model.specs.Events.{with_calls}
use Rattle.step_laws.specs.Letters.{Among}
use Rattle.step_laws.specs.Queries.{AreAbove, Rise, IsQuery, without_each, AreUpInTurn}
use Rattle.step_laws.proofs.Lists.{and_left, branch}
use Rattle.step_laws.proofs.Distinct.{AreDistinct}
use Rattle.step_laws.proofs.Owing.{Fits, fits_without}
use Rattle.step_laws.proofs.Shutting.{ended}

-- ---- sessions of calls

sessions_above : (s : ℕ) (calls : List (ℕ × Call)) → IsAbove s calls → AreAbove s (sessions_of calls)
unfolding sessions_of
sessions_above s [] h = tt
sessions_above s (c ∷ cs) h =
    branch (λ (xs : List (ℕ × Call)). AreAbove s (map pair_of xs)) (is_session c) _ _ (λ yes. (h.0, sessions_above s cs h.1))
    (λ no. sessions_above s cs h.1)

pub sessions_rise : (calls : List (ℕ × Call)) → Ascends calls → Rise (sessions_of calls)
unfolding sessions_of Ascends sessions_above
sessions_rise [] h = tt
sessions_rise (c ∷ cs) h =
    branch (λ (xs : List (ℕ × Call)). Rise (map pair_of xs)) (is_session c) _ _
    (λ yes. (sessions_above c.0 cs h.0, sessions_rise cs h.1))
    (λ no. sessions_rise cs h.1)

-- ---- queries

pub new_asks : (ps : List Pair) → Rise ps → IsQuery (new_query ps)
new_asks ps h = record { rising = h; asked = omega arith }

pub none_asks : IsQuery no_query
none_asks = new_asks [] tt

batch_is : (free over : Bool) (xs ps : List Pair) → batch_if free over xs ≡ Some ps → xs ≡ ps
batch_is true false xs ps h = cc
batch_is true true xs ps h = absurd cc
batch_is false true xs ps h = absurd cc
batch_is false false xs ps h = absurd cc

pub batch_asks : (q : Asking) (ps : List Pair) → next_batch q ≡ Some ps → IsQuery q → IsQuery (with_batch q (Some ps))
unfolding next_batch
batch_asks q ps is h =
    let same = batch_is (q.asked == 0) (nat_le (length q.pairs) q.done) (take 64 (left_of q)) ps is in
    let few = ap length (sym same) ∙ length-take 64 (left_of q) in
    let left = length-drop q.done q.pairs in
    let asked = h.asked in
    record { rising = h.rising; asked = omega (arith, few, left, asked) }

pub answered_asks : (q : Asking) → IsQuery q → IsQuery (unless_complete (answered q))
answered_asks q h =
    branch IsQuery (is_complete (answered q)) _ _
    (λ over. none_asks)
    (λ more. record { rising = h.rising; asked = (let asked = h.asked in omega (arith, asked)) })

-- ---- sessions that are gone

rise_drop : (n : ℕ) (ps : List Pair) → Rise ps → Rise (drop n ps)
rise_drop zero ps h = h
rise_drop (suc n) [] h = tt
rise_drop (suc n) (p ∷ ps) h = rise_drop n ps h.1

above_take : (s n : ℕ) (ps : List Pair) → AreAbove s ps → AreAbove s (take n ps)
above_take s zero ps h = tt
above_take s (suc n) [] h = tt
above_take s (suc n) (p ∷ ps) h = (h.0, above_take s n ps h.1)

rise_take : (n : ℕ) (ps : List Pair) → Rise ps → Rise (take n ps)
rise_take zero ps h = tt
rise_take (suc n) [] h = tt
rise_take (suc n) (p ∷ ps) h = (above_take p.sender n ps h.0, rise_take n ps h.1)

above_gone : (s : ℕ) (qs bs : List Pair) → AreAbove s qs → AreAbove s (gone_in qs bs)
above_gone s [] bs h = tt
above_gone s (q ∷ qs) [] h = tt
above_gone s (q ∷ qs) (a ∷ bs) h =
    branch (AreAbove s) (a.sender == 0) _ _ (λ gone. (h.0, above_gone s qs bs h.1)) (λ here. above_gone s qs bs h.1)

rise_gone : (qs bs : List Pair) → Rise qs → Rise (gone_in qs bs)
rise_gone [] bs h = tt
rise_gone (q ∷ qs) [] h = tt
rise_gone (q ∷ qs) (a ∷ bs) h =
    branch Rise (a.sender == 0) _ _ (λ gone. (above_gone q.sender qs bs h.0, rise_gone qs bs h.1)) (λ here. rise_gone qs bs h.1)

told_gone : (asked answers : List Pair) (o : Option ℕ) (gone : List Pair) → told_by asked answers o ≡ Ok gone → gone_in asked answers ≡ gone
told_gone asked answers None gone h = cc
told_gone asked answers (Some at_place) gone h = absurd cc

pub gone_is : (q : Asking) (answers gone : List Pair) → told_in q answers ≡ Ok gone → gone_in (unanswered q) answers ≡ gone
unfolding told_in
gone_is q answers gone h = by (q.asked == 0) h
  where
    by : (none : Bool) → cond none (Err 0) (told_by (unanswered q) answers (difference (unanswered q) answers 0)) ≡ Ok gone
        → gone_in (unanswered q) answers ≡ gone
    by true e = absurd cc
    by false e = told_gone (unanswered q) answers (difference (unanswered q) answers 0) gone e

pub gone_rise : (q : Asking) (answers gone : List Pair) → IsQuery q → told_in q answers ≡ Ok gone → Rise gone
gone_rise q answers gone h told =
    subst Rise (gone_is q answers gone told)
    (rise_gone (unanswered q) answers (rise_take q.asked (left_of q) (rise_drop q.done q.pairs h.rising)))

pub told_rise : (s : TunnelState) (q : Asking) (answers gone : List Pair) → IsQuery q → told_at s q answers ≡ Ok gone → Rise gone
told_rise s q answers gone h told = by (is_open s) told
  where
    by : (b : Bool) → cond b (told_in q answers) (Err 0) ≡ Ok gone → Rise gone
    by true e = gone_rise q answers gone h e
    by false e = absurd cc

-- ---- the calls that end

among_above : (s : ℕ) (calls : List (ℕ × Call)) (gone : List Pair) (j : ℕ) → AreAbove s gone → Among j (ended_of calls gone) → s < j
unfolding ended_of
among_above s calls [] j h a = absurd a
among_above s calls (p ∷ ps) j h a = by (stands calls p) a (λ b. among_above s calls ps j h.1 b)
  where
    by : (b : Bool)
        → Among j (map (λ (q : Pair). q.sender) (cond b (p ∷ filter (λ q. stands calls q) ps) (filter (λ q. stands calls q) ps)))
        → (Among j (map (λ (q : Pair). q.sender) (filter (λ q. stands calls q) ps)) → s < j) → s < j
    by true x later = ⊎_elim (λ (same : p.sender ≡ j). subst (λ n. s < n) same h.0) later x
    by false x later = later x

pub ended_distinct : (calls : List (ℕ × Call)) (gone : List Pair) → Rise gone → AreDistinct (ended_of calls gone)
unfolding ended_of among_above
ended_distinct calls [] h = tt
ended_distinct calls (p ∷ ps) h =
    branch (λ (xs : List Pair). AreDistinct (map (λ (q : Pair). q.sender) xs)) (stands calls p) _ _
    (λ yes. ((λ a. let less = among_above p.sender calls ps p.sender h.0 a in omega (arith, less)), ended_distinct calls ps h.1))
    (λ no. ended_distinct calls ps h.1)

-- the call of a session that stands is up
pub record IsUpAt (calls : List (ℕ × Call)) (s : ℕ) : Type 0 where
  pub call : Call
  pub there : at calls s ≡ Some call
  pub up : is_up call.state ≡ true

remote_up : (remote : ℕ) (calls : List (ℕ × Call)) (s : ℕ) (o : Option Call) → at calls s ≡ o → has_remote remote o ≡ true → IsUpAt calls s
remote_up remote calls s None is h = absurd cc
remote_up remote calls s (Some c) is h = record { call = c; there = is; up = and_left (is_up c.state) _ h }

pub ended_up : (calls : List (ℕ × Call)) (gone : List Pair) (s : ℕ) → Among s (ended_of calls gone) → IsUpAt calls s
unfolding ended_of
ended_up calls [] s a = absurd a
ended_up calls (p ∷ ps) s a = by (stands calls p) refl a (λ b. ended_up calls ps s b)
  where
    by : (b : Bool) → stands calls p ≡ b
        → Among s (map (λ (q : Pair). q.sender) (cond b (p ∷ filter (λ q. stands calls q) ps) (filter (λ q. stands calls q) ps)))
        → (Among s (map (λ (q : Pair). q.sender) (filter (λ q. stands calls q) ps)) → IsUpAt calls s) → IsUpAt calls s
    by true is x later = ⊎_elim
        (λ (same : p.sender ≡ s). subst (λ n. IsUpAt calls n) same
        (remote_up p.receiver calls p.sender (at calls p.sender) refl is)) later x
    by false is x later = later x

-- calls that are apart stay so as those before them end
up_in_turn : (ss : List ℕ) (calls : List (ℕ × Call)) → AreDistinct ss → ((s : ℕ) → Among s ss → IsUpAt calls s) → AreUpInTurn ss calls
up_in_turn [] calls one up = tt
up_in_turn (s ∷ ss) calls one up =
    let first = up s (inl refl) in (
      first.call,
      first.there,
      first.up,
      up_in_turn ss (without calls s) one.1 (λ q a.
          let next = up q (inr a) in
          let apart : q ≡ s → ⊥ = λ e. one.0 (subst (λ n. Among n ss) e a) in
          record { call = next.call; there = at_without_other calls s q apart ∙ next.there; up = next.up }),
    )

pub ended_in_turn : (calls : List (ℕ × Call)) (q : Asking) (answers gone : List Pair) → IsQuery q → told_in q answers ≡ Ok gone
    → AreUpInTurn (ended_of calls gone) calls
ended_in_turn calls q answers gone asks told =
    up_in_turn (ended_of calls gone) calls (ended_distinct calls gone (gone_rise q answers gone asks told)) (λ s a. ended_up calls gone s a)

-- ---- what is left

pub ended_each : (ss : List ℕ) (calls : List (ℕ × Call)) → with_calls (map ended ss) calls ≡ without_each ss calls
unfolding with_calls
ended_each [] calls = refl
ended_each (s ∷ ss) calls = ended_each ss (without calls s)

pub ascends_each : (ss : List ℕ) (calls : List (ℕ × Call)) → Ascends calls → Ascends (without_each ss calls)
ascends_each [] calls h = h
ascends_each (s ∷ ss) calls h = ascends_each ss (without calls s) (ascends-without s calls h)

pub found_each : (ss : List ℕ) (calls : List (ℕ × Call)) (s : ℕ) (c : Call) → Ascends calls → at (without_each ss calls) s ≡ Some c
    → at calls s ≡ Some c
found_each [] calls s c order there = there
found_each (k ∷ ss) calls s c order there =
    (found_without calls k s c order (found_each ss (without calls k) s c (ascends-without k calls order) there)).1

pub fits_each : (c : Control) (ss : List ℕ) (calls : List (ℕ × Call)) → Fits c calls → Fits c (without_each ss calls)
fits_each c [] calls h = h
fits_each c (s ∷ ss) calls h = fits_each c ss (without calls s) (fits_without c calls s h)

-- it owes no more letters
pub owed_each : (ss : List ℕ) (calls : List (ℕ × Call)) → owed_by (without_each ss calls) ≤ owed_by calls
owed_each [] calls = omega arith
owed_each (s ∷ ss) calls =
    let rest = owed_each ss (without calls s) in
    let one = owed-without calls s in
    omega (arith, rest, one)
