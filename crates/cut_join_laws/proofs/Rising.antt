-- Records in place don't lower the ceiling of session ids; and what is in place of the records of calls that end.
use Rattle.std.proofs.Common.{◌≡◌, ℕ, ◌≤◌, Bool, true, false, zero, suc, List, [], ◌∷◌, ◌++◌, map, take, refl, ap, ◌∙◌, arith}
use Rattle.std.proofs.lemmas.Bool.Decides.{nat_tests}
use Rattle.std.specs.Prelude.{◌==◌, if◌then◌else◌, nat_lt, is_some}
use Rattle.session_book.specs.declared.record.Record.{Record}
use Rattle.session_book.specs.declared.record.Record.TheVariants.{Ceiling, TunnelUp, TunnelDown, CallUp, CallDown, Mark}
use Rattle.session_book.specs.Books.{Kept, ceiling, fits, stepped}
use Rattle.book_laws.specs.Books.{AreInPlace, book_after}
use Rattle.book_laws.proofs.Lists.{and_left}
use Rattle.cut_join_laws.proofs.SameLists.{SameLists, raised_by, calls_as, one_same}

one_rises : (k : Kept) (r : Record) → fits k r ≡ true → k.session_ceiling ≤ (stepped k r).session_ceiling
one_rises k (Ceiling space number) fit =
    by (space == 1) (space == 2) (space == 3) refl refl (and_left (nat_lt (ceiling k space) number) _ fit)
  where
    by : (a b c : Bool) → (space == 1) ≡ a → (space == 2) ≡ b
        → nat_lt (if a then k.tunnel_ceiling else if b then k.session_ceiling else if c then k.draw_ceiling else 0) number ≡ true
        → k.session_ceiling ≤ (raised_by a b c number k).session_ceiling
    by true b c one two lt = omega arith
    by false true c one two lt = grind (arith, nat_tests)
    by false false true one two lt = omega arith
    by false false false one two lt = omega arith
one_rises k (TunnelUp t) fit = omega arith
one_rises k (TunnelDown id) fit = omega arith
one_rises k (CallUp c) fit = omega arith
one_rises k (CallDown id) fit = omega arith
one_rises k (Mark id mark) fit = omega arith

pub sessions_rise : (k : Kept) (rs : List Record) → AreInPlace k rs → k.session_ceiling ≤ (book_after k rs).session_ceiling
sessions_rise k [] in_place = omega arith
sessions_rise k (r ∷ rs) in_place =
    let one = one_rises k r in_place.0 in
    let more = sessions_rise (stepped k r) rs in_place.1 in
    omega (arith, one, more)

-- ---- the second of two lists of records

pub in_place_behind : (k : Kept) (rs ss : List Record) → AreInPlace k (rs ++ ss) → AreInPlace (book_after k rs) ss
in_place_behind k [] ss in_place = in_place
in_place_behind k (r ∷ rs) ss in_place = in_place_behind (stepped k r) rs ss in_place.1

-- ---- calls that end

abbrev pub downs : List ℕ → List Record
downs ss = map (λ q. CallDown q) ss

pub some_downs : (n : ℕ) (ss : List ℕ) → take n (downs ss) ≡ downs (take n ss)
some_downs zero ss = refl
some_downs (suc n) [] = refl
some_downs (suc n) (s ∷ ss) = ap (λ l. CallDown s ∷ l) (some_downs n ss)

pub downs_tunnels : (ss : List ℕ) (k : Kept) → (book_after k (downs ss)).tunnels ≡ k.tunnels
downs_tunnels [] k = refl
downs_tunnels (s ∷ ss) k = downs_tunnels ss (stepped k (CallDown s))

-- what is in place in one book is so in another one of the same calls
pub downs_in_place : (ss : List ℕ) (a b : Kept) → SameLists a b → AreInPlace a (downs ss) → AreInPlace b (downs ss)
downs_in_place [] a b same in_place = tt
downs_in_place (s ∷ ss) a b same in_place = (
  ap (λ o. is_some o) (calls_as a b same s) ∙ in_place.0,
  downs_in_place ss (stepped a (CallDown s)) (stepped b (CallDown s)) (one_same a b (CallDown s) same) in_place.1,
)
