-- What the state of a cell tells of the log.
use Rattle.std.proofs.Common.{◌≡◌, ◌≢◌, ◌⊎◌, ◌==◌, ℕ, zero, suc, ◌+◌, ◌<◌, Bool, true, false, List, [], ◌∷◌, ◌++◌, take, slice_get, Option, Some, None, refl, ap, sym, ◌∙◌, subst, append_assoc, arith, inl, inr, ⊎_elim}
use Rattle.std.proofs.lemmas.List.{append-nil}
use Rattle.std.proofs.lemmas.Bool.Decides.{nat_tests}
use mathlib.Core.List.{IsPrefix}
use Rattle.session_cells.specs.declared.entry.Entry.{Entry}
use Rattle.session_cells.specs.declared.entry.Entry.TheVariants.{Bind, Establish, Kill}
use Rattle.session_looks.specs.declared.look.Look.{Look}
use Rattle.session_looks.specs.declared.look.Look.TheVariants.{Unborn, Bound, Established, Dead}
use Rattle.session_cells.specs.Logs.{session_of, changed, look_after, MayFollow, IsLegal, Has, HasBind, IsBorn, Entered, AllEntered, IsBound, Story, HasAllBinds, IsEntered}
use Rattle.session_looks.specs.declared.look.CellChange.{CellChange}
use Rattle.session_cells.specs.Changes.{entry_of, with_entry, entries_of}
use Rattle.session_cells.specs.Rules.{Ends}
use Rattle.session_cells.specs.declared.killed.Killed.{Killed}
use Rattle.session_cells.specs.declared.killed.Killed.TheVariants as killed
use Rattle.session_cells.specs.Tokens.{left_as}
use Rattle.session_cells.proofs.Prefixes.{prefix_trans, cut_at, no_cut}
use Rattle.session_cells.proofs.Legal.{look_after-own, look_after-other, becomes_later, Becomes}

has_middle : (xs ys : List Entry) (y : Entry) → Has (xs ++ y ∷ ys) y
has_middle [] ys y = (0, refl)
has_middle (x ∷ xs) ys y = (suc (has_middle xs ys y).0, (has_middle xs ys y).1)

pub has_grows : (xs ys : List Entry) (e : Entry) → Has (xs) e → Has (xs ++ ys) e
has_grows [] ys e h = absurd cc
has_grows (x ∷ xs) ys e (zero, is) = (0, is)
has_grows (x ∷ xs) ys e (suc k, is) = (let r = has_grows xs ys e (k, is) in (suc r.0, r.1))

pub has_later : (xs ys : List Entry) (e : Entry) → IsPrefix xs ys → Has xs e → Has ys e
has_later xs ys e p h = subst (λ l. Has l e) p.1 (has_grows xs p.0 e h)

pub has_end : (v w : List Entry) (e : Entry) → Ends v e w → Has w e
has_end v w e ends = subst (λ l. Has l e) (sym ends.2) (has_middle ends.0 [] e)

story_changed : (w : List Entry) (i : ℕ) (l : Look) (e : Entry) → session_of e ≡ i → Has w e → Story w i l → MayFollow l e → Story w i (changed l e)
story_changed w i Unborn (Bind j d t p) own has s may = (t, p, subst (λ (x : ℕ × ℕ). Has w (Bind x.0 x.1 t p)) (λ k. (own k, may.0 k)) has)
story_changed w i Unborn (Establish j d) own has s may = absurd may
story_changed w i Unborn (Kill j d) own has s may = absurd may
story_changed w i (Bound t p) (Bind j d u q) own has s may = absurd may
story_changed w i (Bound t p) (Establish j d) own has s may = (s, subst (λ (x : ℕ × ℕ). Has w (Establish x.0 x.1)) (λ k. (own k, may k)) has)
story_changed w i (Bound t p) (Kill j d) own has s may = (s, subst (λ (x : ℕ × ℕ). Has w (Kill x.0 x.1)) (λ k. (own k, may k)) has)
story_changed w i (Established t p) (Bind j d u q) own has s may = absurd may
story_changed w i (Established t p) (Establish j d) own has s may = absurd may
story_changed w i (Established t p) (Kill j d) own has s may = (s.0, subst (λ (x : ℕ × ℕ). Has w (Kill x.0 x.1)) (λ k. (own k, may k)) has)
story_changed w i Dead (Bind j d u q) own has s may = absurd may
story_changed w i Dead (Establish j d) own has s may = absurd may
story_changed w i Dead (Kill j d) own has s may = absurd may

story_one : (w : List Entry) (i : ℕ) (xs : List Entry) (y : Entry) → Has w y → MayFollow (look_after xs (session_of y)) y → Story w i (look_after xs i) → (b : Bool) → (session_of y == i) ≡ b → Story w i (look_after (xs ++ y ∷ []) i)
story_one w i xs y has may s true is =
    let own : session_of y ≡ i = grind (arith, nat_tests) in
    let here : MayFollow (look_after xs i) y = subst (λ j. MayFollow (look_after xs j) y) own may in
    subst (Story w i) (sym (look_after-own xs y i own)) (story_changed w i (look_after xs i) y own has s here)
story_one w i xs y has may s false is =
    let other : session_of y ≢ i = grind (arith, nat_tests) in
    subst (Story w i) (sym (look_after-other xs y i other)) s

story_from : (w : List Entry) (i : ℕ) (xs ys : List Entry) → IsLegal (xs ++ ys) → xs ++ ys ≡ w → Story w i (look_after xs i) → Story w i (look_after (xs ++ ys) i)
story_from w i xs [] legal whole s = subst (λ l. Story w i (look_after l i)) (sym (append-nil xs)) s
story_from w i xs (y ∷ ys) legal whole s =
    let all : (xs ++ y ∷ []) ++ ys ≡ xs ++ y ∷ ys = append_assoc xs (y ∷ []) ys in
    let has : Has w y = subst (λ l. Has l y) whole (has_middle xs ys y) in
    subst (λ l. Story w i (look_after l i)) all
    (story_from w i (xs ++ y ∷ []) ys (subst IsLegal (sym all) legal) (all ∙ whole) (story_one w i xs y has (legal xs y ys refl) s (session_of y == i) refl))

-- the state after a legal log tells what the log has of the cell
pub story_after : (w : List Entry) (i : ℕ) → IsLegal w → Story w i (look_after w i)
story_after w i legal = story_from w i [] w legal refl tt

has_split : (xs : List Entry) (k : ℕ) (e : Entry) → slice_get xs k ≡ Some e → (before : List Entry) × (rest : List Entry) × (xs ≡ before ++ e ∷ rest)
has_split [] k e is = absurd cc
has_split (x ∷ xs) zero e is = (let same : x ≡ e = cc in ([], xs, ap (λ (y : Entry). y ∷ xs) same))
has_split (x ∷ xs) (suc k) e is = (let r = has_split xs k e is in (x ∷ r.0, r.1, ap (λ (l : List Entry). x ∷ l) r.2))

not_unborn : (l m : Look) → l ≢ Unborn → Becomes l m → m ≢ Unborn
not_unborn Unborn m born h = absurd (born refl)
not_unborn (Bound t p) Unborn born h = absurd h
not_unborn (Bound t p) (Bound u q) born h = λ is. absurd cc
not_unborn (Bound t p) (Established u q) born h = λ is. absurd cc
not_unborn (Bound t p) Dead born h = λ is. absurd cc
not_unborn (Established t p) Unborn born h = absurd h
not_unborn (Established t p) (Bound u q) born h = absurd h
not_unborn (Established t p) (Established u q) born h = λ is. absurd cc
not_unborn (Established t p) Dead born h = λ is. absurd cc
not_unborn Dead Unborn born h = absurd h
not_unborn Dead (Bound u q) born h = absurd h
not_unborn Dead (Established u q) born h = absurd h
not_unborn Dead Dead born h = λ is. absurd cc

pub born_later : (v w : List Entry) (i : ℕ) → IsPrefix v w → IsLegal w → look_after v i ≢ Unborn → look_after w i ≢ Unborn
born_later v w i p legal born = not_unborn (look_after v i) (look_after w i) born (becomes_later v w i p legal)

-- a cell that the log binds isn't unborn after it
pub bound_born : (w : List Entry) (i : ℕ) → IsLegal w → HasBind w i → look_after w i ≢ Unborn
bound_born w i legal h =
    let split = has_split w h.2.0 (Bind i 0 h.0 h.1) h.2.1 in
    let v : List Entry = split.0 ++ Bind i 0 h.0 h.1 ∷ [] in
    let pre : IsPrefix v w = (split.1, append_assoc split.0 (Bind i 0 h.0 h.1 ∷ []) split.1 ∙ sym split.2) in
    let is : look_after v i ≡ Bound h.0 h.1 = look_after-own split.0 (Bind i 0 h.0 h.1) i refl in
    born_later v w i pre legal (λ unborn. (let e : Bound h.0 h.1 ≡ Unborn = sym is ∙ unborn in absurd cc))

pub story_bind : (w : List Entry) (i : ℕ) (l : Look) → l ≢ Unborn → Story w i l → HasBind w i
story_bind w i Unborn born s = absurd (born refl)
story_bind w i (Bound t p) born s = s
story_bind w i (Established t p) born s = s.0
story_bind w i Dead born s = s.0

pub story_past : (w : List Entry) (i : ℕ) (l : Look) → l ≢ Unborn → (¬ IsBound l) → Story w i l → Has w (Establish i 0) ⊎ Has w (Kill i 0)
story_past w i Unborn born past s = absurd (born refl)
story_past w i (Bound t p) born past s = absurd (past tt)
story_past w i (Established t p) born past s = inl s.1
story_past w i Dead born past s = inr s.1

pub story_dead : (w : List Entry) (i : ℕ) (l : Look) → l ≡ Dead → Story w i l → Has w (Kill i 0)
story_dead w i Unborn is s = absurd cc
story_dead w i (Bound t p) is s = absurd cc
story_dead w i (Established t p) is s = absurd cc
story_dead w i Dead is s = s.1

-- who was born before, is born now
pub born_now : (old before cur : List Entry) (i : ℕ) → IsPrefix old cur → IsLegal cur → ((t p : ℕ) → Has before (Bind i 0 t p) → HasBind cur i) → IsBorn old before i → look_after cur i ≢ Unborn
born_now old before cur i pre legal binds (inl born) = born_later old cur i pre legal born
born_now old before cur i pre legal binds (inr h) = bound_born cur i legal (binds h.0 h.1 h.2)

pub bind_ends : (v w : List Entry) (i t p : ℕ) → Ends v (Bind i 0 t p) w → look_after w i ≢ Unborn
bind_ends v w i t p ends unborn =
    let is : look_after w i ≡ Bound t p = ap (λ l. look_after l i) ends.2 ∙ look_after-own ends.0 (Bind i 0 t p) i refl in
    let e : Bound t p ≡ Unborn = sym is ∙ unborn in
    absurd cc

not_bound_changed : (l : Look) (i : ℕ) → MayFollow l (Establish i 0) → ¬ IsBound (changed l (Establish i 0))
not_bound_changed Unborn i may = absurd may
not_bound_changed (Bound t p) i may = λ is. is
not_bound_changed (Established t p) i may = absurd may
not_bound_changed Dead i may = absurd may

pub establish_ends : (v w : List Entry) (i : ℕ) → IsLegal w → Ends v (Establish i 0) w → ¬ IsBound (look_after w i)
establish_ends v w i legal ends is =
    let may : MayFollow (look_after ends.0 i) (Establish i 0) = legal ends.0 (Establish i 0) [] ends.2 in
    let same : look_after w i ≡ changed (look_after ends.0 i) (Establish i 0) = ap (λ l. look_after l i) ends.2 ∙ look_after-own ends.0 (Establish i 0) i refl in
    not_bound_changed (look_after ends.0 i) i may (subst IsBound same is)

-- a change that was made is entered
pub bind_entered : (w : List Entry) (i : ℕ) → IsLegal w → look_after w i ≢ Unborn → HasBind w i
bind_entered w i legal born = story_bind w i (look_after w i) born (story_after w i legal)

binds_later : (before v w : List Entry) → IsPrefix v w → HasAllBinds before v → HasAllBinds before w
binds_later before v w pre binds i t p h = let b = binds i t p h in (b.0, b.1, has_later v w (Bind i 0 b.0 b.1) pre b.2)

pub establish_entered : (old before v w : List Entry) (i : ℕ) → IsPrefix old v → IsPrefix v w → IsLegal w → HasAllBinds before v → (¬ IsBound (look_after w i)) → Entered old before w (Establish i 0)
establish_entered old before v w i pre later legal binds past born =
    story_past w i (look_after w i) (born_now old before w i (prefix_trans old v w pre later) legal (binds_later before v w later binds i) born) past (story_after w i legal)

pub kill_entered : (old before v w : List Entry) (i : ℕ) (k : Killed) → IsPrefix old v → IsPrefix v w → IsLegal w → HasAllBinds before v → look_after w i ≡ left_as k → Entered old before w (Kill i 0)
kill_entered old before v w i killed.Dead pre later legal binds is born = story_dead w i (look_after w i) is (story_after w i legal)
kill_entered old before v w i killed.Unborn pre later legal binds is born = absurd (born_now old before w i (prefix_trans old v w pre later) legal (binds_later before v w later binds i) born is)

entered_later : (old before v w : List Entry) (e : Entry) → IsPrefix v w → Entered old before v e → Entered old before w e
entered_later old before v w (Bind i d t p) pre h = (h.0, h.1, has_later v w (Bind i 0 h.0 h.1) pre h.2)
entered_later old before v w (Establish i d) pre h = λ born. ⊎_elim (λ (a : Has v (Establish i 0)). inl (has_later v w (Establish i 0) pre a)) (λ (b : Has v (Kill i 0)). inr (has_later v w (Kill i 0) pre b)) (h born)
entered_later old before v w (Kill i d) pre h = λ born. has_later v w (Kill i 0) pre (h born)

-- what the changes bind, the log binds
pub binds_so_far : (old changes v : List Entry) → AllEntered old changes v → HasAllBinds changes v
binds_so_far old changes v all i t p h =
    let split = has_split changes h.0 (Bind i 0 t p) h.1 in
    all split.0 (Bind i 0 t p) split.1 split.2

pub none_entered : (old v : List Entry) → AllEntered old [] v
none_entered old v before e rest is = absurd (no_cut before e rest is)

-- one change more is entered
pub entered_more : (old changes v w : List Entry) (e : Entry) → IsPrefix v w → AllEntered old changes v → Entered old changes w e → AllEntered old (changes ++ e ∷ []) w
entered_more old changes v w e pre all mine before d rest is =
    elim (cut_at e d changes before rest is) as (λ _. Entered old before w d) [
      | inl p ↦ entered_later old before v w d pre (all before d p.0 p.1)
      | inr p ↦ subst (λ (x : List Entry × Entry). Entered old x.0 w x.1) (λ k. (sym p.0 k, sym p.1 k)) mine
    ]

pub all_later : (old changes v w : List Entry) → IsPrefix v w → AllEntered old changes v → AllEntered old changes w
all_later old changes v w pre all before d rest is = entered_later old before v w d pre (all before d rest is)

-- the entries of one change more
entries_more : (o : Option Entry) (old changes v w : List Entry) → IsPrefix v w → AllEntered old changes v → IsEntered old changes w o → AllEntered old (changes ++ with_entry o []) w
entries_more None old changes v w pre all mine = subst (λ es. AllEntered old es w) (sym (append-nil changes)) (all_later old changes v w pre all)
entries_more (Some e) old changes v w pre all mine = entered_more old changes v w e pre all mine

with_append : (o : Option Entry) (xs ys : List Entry) → with_entry o (xs ++ ys) ≡ with_entry o xs ++ ys
with_append None xs ys = refl
with_append (Some e) xs ys = refl

pub entries_of-append : (cs ds : List CellChange) → entries_of (cs ++ ds) ≡ entries_of cs ++ entries_of ds
entries_of-append [] ds = refl
entries_of-append (c ∷ cs) ds = ap (with_entry (entry_of c)) (entries_of-append cs ds) ∙ with_append (entry_of c) (entries_of cs) (entries_of ds)

pub change_more : (c : CellChange) (cs : List CellChange) (old v w : List Entry) → IsPrefix v w → AllEntered old (entries_of cs) v → IsEntered old (entries_of cs) w (entry_of c) → AllEntered old (entries_of (cs ++ c ∷ [])) w
change_more c cs old v w pre all mine =
    subst (λ es. AllEntered old es w) (sym (entries_of-append cs (c ∷ []))) (entries_more (entry_of c) old (entries_of cs) v w pre all mine)
