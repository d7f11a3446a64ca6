-- A session is one of those of the calls that are established exactly where the call of its id is, and has its other id.
use Rattle.std.specs.Prelude.{◌≡◌, ℕ, Bool, true, false, cond, ◌==◌, ◌&&◌, ◌||◌, if◌then◌else◌, List, [], ◌∷◌, map, filter, Some, None}
use Rattle.std.proofs.Common.{refl, ap, sym, ◌∙◌, subst, arith, eqb}
use Rattle.std.proofs.lemmas.Bool.{eqb-true}
use Rattle.std.proofs.lemmas.Bool.Decides.{nat_tests}
use Rattle.id_table.specs.Ids.{at, at-none, at-cons}
use Rattle.id_table.specs.Order.{Ascends, IsAbove, at-above}
use Rattle.wire_base.specs.declared.pair.Pair.{Pair}
use Rattle.session_query.specs.Queries.{is_pair, is_here, answer_to}
use Rattle.end_model.specs.declared.tunnel.Call.{Call}
use Rattle.end_model.specs.Calls.{is_up, pair_of, is_session, sessions_of}
use Rattle.end_model.specs.Querying.{has_remote}

one_more : (b : Bool) (p : Pair) (e : ℕ × Call) (more : List (ℕ × Call))
    → is_here (map pair_of (if b then e ∷ more else more)) p ≡ (b && is_pair p (pair_of e)) || is_here (map pair_of more) p
one_more true p e more = refl
one_more false p e more = refl

same_way : (i j : ℕ) → (i == j) ≡ eqb j i
same_way i j = grind (arith, nat_tests)

-- the first call has the id, and none behind it; or it hasn't
first_or_not : (same up remote more : Bool) (here : Bool) → (same ≡ true → more ≡ false) → here ≡ cond same (up && remote) more
    → (up && (same && remote)) || more ≡ here
first_or_not true true true more here none is = sym is
first_or_not true true false more here none is = none refl ∙ sym is
first_or_not true false remote more here none is = none refl ∙ sym is
first_or_not false true remote more here none is = sym is
first_or_not false false remote more here none is = sym is

has_by : (same : Bool) (remote : ℕ) (e : ℕ × Call) (es : List (ℕ × Call)) (r : ℕ)
    → has_remote remote (cond same (Some e.1) (at es r)) ≡ cond same (is_up e.1.state && e.1.remote == remote) (has_remote remote (at es r))
has_by true remote e es r = refl
has_by false remote e es r = refl

none_behind : (e : ℕ × Call) (es : List (ℕ × Call)) (remote r : ℕ) → IsAbove e.0 es → eqb r e.0 ≡ true → has_remote remote (at es r) ≡ false
none_behind e es remote r above same = rw (eqb-true r e.0 same, at-above e.0 es above) refl

here_by : (calls : List (ℕ × Call)) (p : Pair) → Ascends calls → is_here (map pair_of (filter is_session calls)) p ≡ has_remote p.sender (at calls p.receiver)
unfolding Ascends
here_by [] p ascend = rw (at-none {X = Call} p.receiver) refl
here_by (e ∷ es) p ascend =
    let same = eqb p.receiver e.0 in
    let rest = here_by es p ascend.1 in
    one_more (is_up e.1.state) p e (filter is_session es)
    ∙ (ap (λ b. (is_up e.1.state && (b && (e.1.remote == p.sender))) || is_here (map pair_of (filter is_session es)) p) (same_way e.0 p.receiver)
    ∙ (ap (λ b. (is_up e.1.state && (same && (e.1.remote == p.sender))) || b) rest
    ∙ first_or_not same (is_up e.1.state) (e.1.remote == p.sender) (has_remote p.sender (at es p.receiver)) (has_remote p.sender (at (e ∷ es) p.receiver))
    (none_behind e es p.sender p.receiver ascend.0)
    (ap (has_remote p.sender) (at-cons e es p.receiver) ∙ has_by same p.sender e es p.receiver)))

pub here_is : (calls : List (ℕ × Call)) (p : Pair) → Ascends calls → has_remote p.sender (at calls p.receiver) ≡ is_here (sessions_of calls) p
unfolding sessions_of
here_is calls p ascend = sym (here_by calls p ascend)
