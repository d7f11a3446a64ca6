-- What each exchange owes, and what follows where it was lost.
use Rattle.std.proofs.Common.{◌≡◌, ◌≢◌, ◌==◌, ℕ, Bool, true, false, ◌<◌, ◌^◌, List, MatchBool, refl, ap, sym, ◌∙◌, subst, arith}
use Rattle.std.proofs.lemmas.Bool.Decides.{nat_tests}
use mathlib.Core.List.{IsPrefix}
use Rattle.session_cells.specs.declared.entry.Entry.{Entry}
use Rattle.session_cells.specs.declared.entry.Entry.TheVariants.{Bind, Establish, Kill}
use Rattle.session_looks.specs.declared.look.Look.{Look}
use Rattle.session_looks.specs.declared.look.Look.TheVariants.{Unborn, Bound, Established, Dead}
use Rattle.session_cells.specs.Logs.{session_of, changed, look_after, MayFollow, IsLegal, IsBound, IsLive}
use Rattle.session_cells.specs.Words.{word_of, word_after}
use Rattle.session_cells.specs.Rules.{IsMove, Ends}
use Rattle.session_cells.proofs.Looks.{FitsLook, same_look}
use Rattle.session_cells.proofs.Legal.{fits_after, look_after-own, Becomes, becomes_later}

-- from the state l, whatever else stands in the log
pub moves_from : (v : List Entry) (i : ℕ) (l : Look) (e : Entry) → FitsLook l → session_of e ≡ i → MayFollow l e → IsMove v i (word_of l) (word_of (changed l e)) e
moves_from v i l e fits own may = (
  own,
  λ log legal pre is.
      let same : look_after log i ≡ l = same_look (look_after log i) l (fits_after log i legal) fits is in
      (subst (λ m. MayFollow m e) (sym same) may, ap (λ m. word_of (changed m e)) same),
)

pub bind_moves : (v : List Entry) (i t p : ℕ) → t < 2 ^ 16 → p < 2 ^ 32 → IsMove v i 0 (word_of (Bound t p)) (Bind i 0 t p)
bind_moves v i t p a b = moves_from v i Unborn (Bind i 0 t p) tt refl (refl, a, b)

pub establish_moves : (v : List Entry) (i t p : ℕ) → IsLegal v → look_after v i ≡ Bound t p → IsMove v i (word_of (Bound t p)) (word_of (Established t p)) (Establish i 0)
establish_moves v i t p legal is = moves_from v i (Bound t p) (Establish i 0) (subst FitsLook is (fits_after v i legal)) refl refl

may_die : (l : Look) (i : ℕ) → IsLive l → MayFollow l (Kill i 0)
may_die (Bound t p) i h = refl
may_die (Established t p) i h = refl
may_die Unborn i h = absurd h
may_die Dead i h = absurd h

dies : (l : Look) (i : ℕ) → changed l (Kill i 0) ≡ Dead
dies Unborn i = refl
dies (Bound t p) i = refl
dies (Established t p) i = refl
dies Dead i = refl

pub kill_moves : (v : List Entry) (i : ℕ) → IsLegal v → IsLive (look_after v i) → IsMove v i (word_after v i) (word_of Dead) (Kill i 0)
kill_moves v i legal live =
    subst (λ (l : Look). IsMove v i (word_after v i) (word_of l) (Kill i 0)) (dies (look_after v i) i) (moves_from v i (look_after v i) (Kill i 0) (fits_after v i legal) refl (may_die (look_after v i) i live))

-- after an own kill the cell is dead
pub killed_own : (v w : List Entry) (i : ℕ) → Ends v (Kill i 0) w → look_after w i ≡ Dead
killed_own v w i ends = ap (λ l. look_after l i) ends.2 ∙ (look_after-own ends.0 (Kill i 0) i refl ∙ dies (look_after ends.0 i) i)

pub kill_told : (b : Bool) (v w : List Entry) (i n : ℕ) → MatchBool b (Ends v (Kill i 0) w) (n ≡ word_after w i) → MatchBool b (look_after w i ≡ Dead) (n ≡ word_after w i)
kill_told true v w i n h = killed_own v w i h
kill_told false v w i n h = h

same_bound : (t p u q : ℕ) → t ≡ u → p ≡ q → word_of (Bound u q) ≡ word_of (Bound t p)
same_bound t p u q a b = ap (λ (x : ℕ × ℕ). word_of (Bound x.0 x.1)) (λ i. (sym a i, sym b i))

same_established : (t p u q : ℕ) → t ≡ u → p ≡ q → word_of (Established u q) ≡ word_of (Established t p)
same_established t p u q a b = ap (λ (x : ℕ × ℕ). word_of (Established x.0 x.1)) (λ i. (sym a i, sym b i))

-- a bound cell whose word changed isn't bound
not_bound_by : (l m : Look) → IsBound l → Becomes l m → word_of m ≢ word_of l → ¬ IsBound m
not_bound_by (Bound t p) (Bound u q) b h other is = other (same_bound t p u q h.0 h.1)
not_bound_by (Bound t p) Unborn b h other is = absurd is
not_bound_by (Bound t p) (Established u q) b h other is = absurd is
not_bound_by (Bound t p) Dead b h other is = absurd is
not_bound_by Unborn m b h other is = absurd b
not_bound_by (Established t p) m b h other is = absurd b
not_bound_by Dead m b h other is = absurd b

pub not_bound_later : (v w : List Entry) (i t p : ℕ) → IsPrefix v w → IsLegal w → look_after v i ≡ Bound t p → word_after w i ≢ word_of (Bound t p) → ¬ IsBound (look_after w i)
not_bound_later v w i t p pre legal is other =
    let becomes : Becomes (Bound t p) (look_after w i) = subst (λ l. Becomes l (look_after w i)) is (becomes_later v w i pre legal) in
    not_bound_by (Bound t p) (look_after w i) tt becomes other

-- a live cell that changed and isn't dead, and then changed again, is dead
twice_by : (l m n : Look) → IsLive l → Becomes l m → word_of m ≢ word_of l → m ≢ Dead → Becomes m n → word_of n ≢ word_of m → n ≡ Dead
twice_by Unborn m n live h other not_dead g more = absurd live
twice_by Dead m n live h other not_dead g more = absurd live
twice_by (Bound t p) Unborn n live h other not_dead g more = absurd h
twice_by (Bound t p) (Bound u q) n live h other not_dead g more = absurd (other (same_bound t p u q h.0 h.1))
twice_by (Bound t p) (Established u q) Unborn live h other not_dead g more = absurd g
twice_by (Bound t p) (Established u q) (Bound s r) live h other not_dead g more = absurd g
twice_by (Bound t p) (Established u q) (Established s r) live h other not_dead g more = absurd (more (same_established u q s r g.0 g.1))
twice_by (Bound t p) (Established u q) Dead live h other not_dead g more = refl
twice_by (Bound t p) Dead n live h other not_dead g more = absurd (not_dead refl)
twice_by (Established t p) Unborn n live h other not_dead g more = absurd h
twice_by (Established t p) (Bound u q) n live h other not_dead g more = absurd h
twice_by (Established t p) (Established u q) n live h other not_dead g more = absurd (other (same_established t p u q h.0 h.1))
twice_by (Established t p) Dead n live h other not_dead g more = absurd (not_dead refl)

live_by : (l m : Look) → IsLive l → Becomes l m → m ≢ Dead → IsLive m
live_by Unborn m live h not_dead = absurd live
live_by Dead m live h not_dead = absurd live
live_by (Bound t p) Unborn live h not_dead = absurd h
live_by (Bound t p) (Bound u q) live h not_dead = tt
live_by (Bound t p) (Established u q) live h not_dead = tt
live_by (Bound t p) Dead live h not_dead = absurd (not_dead refl)
live_by (Established t p) Unborn live h not_dead = absurd h
live_by (Established t p) (Bound u q) live h not_dead = absurd h
live_by (Established t p) (Established u q) live h not_dead = tt
live_by (Established t p) Dead live h not_dead = absurd (not_dead refl)

lost_by : (b : Bool) (X Y : Type 0) → MatchBool b X Y → b ≡ false → Y
lost_by true X Y h is = absurd cc
lost_by false X Y h is = h

won_by : (b : Bool) (X Y : Type 0) → MatchBool b X Y → b ≡ true → X
won_by true X Y h is = h
won_by false X Y h is = absurd cc

-- what a try to kill told
abbrev pub Tried : List Entry → ℕ → ℕ → ℕ → Type 0
Tried w i word n = MatchBool (n == word) (look_after w i ≡ Dead) (n ≡ word_after w i)

pub lost : (w : List Entry) (i word n : ℕ) → n ≢ word → Tried w i word n → n ≡ word_after w i
lost w i word n other h =
    let b : (n == word) ≡ false = grind (arith, nat_tests) in lost_by (n == word) (look_after w i ≡ Dead) (n ≡ word_after w i) h b

pub won : (w : List Entry) (i word n : ℕ) → n ≡ word → Tried w i word n → look_after w i ≡ Dead
won w i word n same h =
    let b : (n == word) ≡ true = grind (arith, nat_tests) in won_by (n == word) (look_after w i ≡ Dead) (n ≡ word_after w i) h b

-- the word of a dead cell is that of no other
pub dead_word : (w : List Entry) (i n : ℕ) → IsLegal w → n ≡ word_after w i → n ≡ word_of Dead → look_after w i ≡ Dead
dead_word w i n legal is dead = same_look (look_after w i) Dead (fits_after w i legal) tt (sym is ∙ dead)

-- a try was lost to another's change, and the cell isn't dead
pub still_live : (v w : List Entry) (i word n : ℕ) → IsPrefix v w → IsLegal w → IsLive (look_after v i) → n ≢ word → Tried w i word n → n ≢ word_of Dead → IsLive (look_after w i)
still_live v w i word n pre legal live other h not_dead =
    live_by (look_after v i) (look_after w i) live (becomes_later v w i pre legal) (λ dead. not_dead (lost w i word n other h ∙ ap word_of dead))

-- the second try kills, or finds the cell dead
pub dead_at_last : (v w x : List Entry) (i word n m : ℕ) → IsPrefix v w → IsLegal w → IsPrefix w x → IsLegal x → word ≡ word_after v i → IsLive (look_after v i)
    → n ≢ word → Tried w i word n → n ≢ word_of Dead → (b : Bool) → (m == n) ≡ b → Tried x i n m → look_after x i ≡ Dead
dead_at_last v w x i word n m pre legal pre' legal' is live other h not_dead true b more = won x i n m (let same : m ≡ n = grind (arith, nat_tests) in same) more
dead_at_last v w x i word n m pre legal pre' legal' is live other h not_dead false b more =
    let differs : m ≢ n = grind (arith, nat_tests) in
    let first = lost w i word n other h in
    let second = lost x i n m differs more in
    twice_by (look_after v i) (look_after w i) (look_after x i) live (becomes_later v w i pre legal) (λ same. other (first ∙ (same ∙ sym is))) (λ dead. not_dead (first ∙ ap word_of dead))
    (becomes_later w x i pre' legal') (λ same. differs (second ∙ (same ∙ sym first)))

-- an exchange that would establish the cell was lost
pub establish_lost : (v w : List Entry) (i t p word n : ℕ) → word ≡ word_of (Bound t p) → IsPrefix v w → IsLegal w → look_after v i ≡ Bound t p → n ≢ word
    → MatchBool (n == word) (Ends v (Establish i 0) w) (n ≡ word_after w i) → (n ≡ word_after w i) × (¬ IsBound (look_after w i))
establish_lost v w i t p word n is pre legal bound other h =
    let b : (n == word) ≡ false = grind (arith, nat_tests) in
    let found : n ≡ word_after w i = lost_by (n == word) (Ends v (Establish i 0) w) (n ≡ word_after w i) h b in
    (found, not_bound_later v w i t p pre legal bound (λ same. other (found ∙ (same ∙ sym is))))

pub live_of : (l : Look) → l ≢ Unborn → l ≢ Dead → IsLive l
live_of Unborn a b = absurd (a refl)
live_of (Bound t p) a b = tt
live_of (Established t p) a b = tt
live_of Dead a b = absurd (b refl)

-- what an exchange that was won did
pub won_ends : (v w : List Entry) (e : Entry) (i n word : ℕ) → n ≡ word → MatchBool (n == word) (Ends v e w) (n ≡ word_after w i) → Ends v e w
won_ends v w e i n word same h =
    let b : (n == word) ≡ true = grind (arith, nat_tests) in won_by (n == word) (Ends v e w) (n ≡ word_after w i) h b
