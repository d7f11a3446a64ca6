-- The sessions of a tunnel, by their names in the machine: those that the machine's tunnel holds established.
use Rattle.std.proofs.Common.{◌≡◌, ◌⊎◌, inl, inr, ⊎_elim, ℕ, Bool, true, false, List, [], ◌∷◌, map, filter, refl, sym, ap, ◌∙◌, Some, cond, eqb, eq-eqb}
use Rattle.std.proofs.lemmas.Bool.{true≢false, eqb-true}
use Rattle.std.proofs.lemmas.Option.{none-some, same_Some}
use Rattle.std.specs.Prelude.{◌==◌, ◌||◌}
use Rattle.std.specs.List.{AllByRecursion, list_any}
use Rattle.id_table.specs.Ids.{at, at-none, at-cons}
use Rattle.id_table.specs.Order.{Ascends}
use Rattle.wire_base.specs.declared.pair.Pair.{Pair}
use Rattle.end_model.specs.declared.tunnel.Call.{Call}
use Rattle.end_model.specs.Calls.{is_up, pair_of, is_session, sessions_of}
use Rattle.session_laws.specs.Names.{name}
use Rattle.channel_laws.proofs.Sessions.{IsFound, all_found}

abbrev pub named : ℕ → ℕ → Pair → Bool
named n z p = name n p.sender == z

-- one of these is a session by this name
pub record Session (calls : List (ℕ × Call)) (n z : ℕ) : Type 0 where
  pub id : ℕ
  pub call : Call
  pub there : at calls id ≡ Some call
  pub up : is_up call.state ≡ true
  pub name_is : name n id ≡ z

either_true : (a b : Bool) → (a || b) ≡ true → (a ≡ true) ⊎ (b ≡ true)
either_true true b is = inl refl
either_true false b is = inr is

found_in : (table cs : List (ℕ × Call)) (n z : ℕ) → AllByRecursion (IsFound table) cs
    → list_any (named n z) (map pair_of (filter is_session cs)) ≡ true → Session table n z
found_in table [] n z all is = absurd (true≢false (sym is))
found_in table (c ∷ cs) n z all is = by (is_session c) refl is (λ some. found_in table cs n z all.1 some)
  where
    by : (u : Bool) → is_session c ≡ u → list_any (named n z) (map pair_of (cond u (c ∷ filter is_session cs) (filter is_session cs)))
        ≡ true
        → (list_any (named n z) (map pair_of (filter is_session cs)) ≡ true → Session table n z) → Session table n z
    by true up some rest = ⊎_elim
        (λ (first : (name n c.0 == z) ≡ true).
        record { id = c.0; call = c.1; there = all.0; up = up; name_is = eqb-true (name n c.0) z first })
        rest
        (either_true (name n c.0 == z) (list_any (named n z) (map pair_of (filter is_session cs))) some)
    by false down some rest = rest some

or_true : (b : Bool) → (b || true) ≡ true
or_true true = refl
or_true false = refl

-- a call that stands there, and is established, is one of them
listed_in : (cs : List (ℕ × Call)) (n z id : ℕ) (call : Call) → at cs id ≡ Some call → is_up call.state ≡ true → name n id ≡ z
    → list_any (named n z) (map pair_of (filter is_session cs)) ≡ true
listed_in [] n z id call there up is = absurd (none-some call (sym (at-none id) ∙ there))
listed_in (c ∷ cs) n z id call there up is =
    by (eqb id c.0) refl (sym (at-cons c cs id) ∙ there) (λ later. listed_in cs n z id call later up is)
  where
    first : (u : Bool) → u ≡ true → (name n c.0 == z) ≡ true
        → list_any (named n z) (map pair_of (cond u (c ∷ filter is_session cs) (filter is_session cs))) ≡ true
    first true up_is here = ap (λ b. b || list_any (named n z) (map pair_of (filter is_session cs))) here
    first false up_is here = absurd (true≢false (sym up_is))

    further : (u : Bool) → list_any (named n z) (map pair_of (filter is_session cs)) ≡ true
        → list_any (named n z) (map pair_of (cond u (c ∷ filter is_session cs) (filter is_session cs))) ≡ true
    further true rest = ap (λ b. (name n c.0 == z) || b) rest ∙ or_true (name n c.0 == z)
    further false rest = rest

    by : (b : Bool) → eqb id c.0 ≡ b → cond b (Some c.1) (at cs id) ≡ Some call
        → (at cs id ≡ Some call → list_any (named n z) (map pair_of (filter is_session cs)) ≡ true)
        → list_any (named n z) (map pair_of (filter is_session (c ∷ cs))) ≡ true
    by true own some rest =
        first (is_session c) (ap (λ (y : Call). is_up y.state) (same_Some c.1 call some) ∙ up)
        (eq-eqb (name n c.0) z (ap (name n) (sym (eqb-true id c.0 own)) ∙ is))
    by false other some rest = further (is_session c) (rest some)

pub session_of : (calls : List (ℕ × Call)) → Ascends calls → (n z : ℕ) → list_any (named n z) (sessions_of calls) ≡ true → Session calls n z
unfolding sessions_of
session_of calls order n z is = found_in calls calls n z (all_found calls order) is

pub is_listed : (calls : List (ℕ × Call)) (n z : ℕ) → Session calls n z → list_any (named n z) (sessions_of calls) ≡ true
unfolding sessions_of
is_listed calls n z s = listed_in calls n z s.id s.call s.there s.up s.name_is

-- what holds of each established call holds of each session
pairs_all : (P : Pair → Type 0) (table cs : List (ℕ × Call)) → AllByRecursion (IsFound table) cs
    → ((s : ℕ) (c : Call) → at table s ≡ Some c → is_up c.state ≡ true → P (pair_of (s, c)))
    → AllByRecursion P (map pair_of (filter is_session cs))
pairs_all P table [] found each = tt
pairs_all P table (c ∷ cs) found each = by (is_session c) refl (pairs_all P table cs found.1 each)
  where
    by : (u : Bool) → is_session c ≡ u → AllByRecursion P (map pair_of (filter is_session cs))
        → AllByRecursion P (map pair_of (cond u (c ∷ filter is_session cs) (filter is_session cs)))
    by true up rest = (each c.0 c.1 found.0 up, rest)
    by false down rest = rest

pub all_sessions : (P : Pair → Type 0) (calls : List (ℕ × Call)) → Ascends calls
    → ((s : ℕ) (c : Call) → at calls s ≡ Some c → is_up c.state ≡ true → P (pair_of (s, c))) → AllByRecursion P (sessions_of calls)
unfolding sessions_of
all_sessions P calls order each = pairs_all P calls calls (all_found calls order) each
