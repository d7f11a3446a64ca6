-- What the keys of an index say, as ids get labels and lose them.
use Rattle.std.specs.Prelude.{◌≡◌, ℕ, ◌-◌, ◌<◌, ◌≤◌, Bool, true, false, cond, not, ◌||◌, ◌&&◌, eqb, List, ◌∷◌, [], Option, Some, None, is_some, IsSome, OnOk, is_ok, Result, Ok, Err, unwrap_or}
use Rattle.std.specs.Ordering.{nat_cmp}
use Rattle.std.specs.Option.{option_eq}
use Rattle.std.specs.Map.{lookup}
use Rattle.std.specs.BTreeMap.{BTreeMap, is_at, insert_entry, get}
use Rattle.std.specs.BTreeMap.Range.{IsLeBy, IsInRange, IsEntryInRange, IsRangeOf}
use Rattle.std.specs.declared.ops.Bound.{Bound}
use Rattle.std.specs.declared.ops.Bound.TheVariants.{Included}
use Rattle.std.proofs.Common.{refl, ap, sym, subst, ◌∙◌, arith, true≢false}
use Rattle.std.proofs.lemmas.Bool.{eqb-true, eqb-false, ne_eqb}
use Rattle.std.proofs.lemmas.Bool.Decides.{nat_tests}
use Rattle.id_table.specs.Ids.{at, put, at-put, at-none, is_at-same}
use Rattle.id_index.specs.Keys.{key, is_key, has_label, is_listed, ListsAlike, IsRelisted, IsFirstListed}
use Rattle.id_index.specs.Indexes.{Listing, Lists, IsRelabelled, IsFirst}

-- ---- a key that is put or taken out

chosen : (b : Bool) (o : Option Bool) (x : Bool) → unwrap_or (cond b (Some x) o) false ≡ cond b x (unwrap_or o false)
chosen true o x = refl
chosen false o x = refl

listed-put : (ps : List (ℕ × Bool)) (k : ℕ) (x : Bool) (j : ℕ) → is_listed (put ps k x) j ≡ cond (eqb j k) x (is_listed ps j)
unfolding is_listed
listed-put ps k x j = rw (at-put ps k x j) (chosen (eqb j k) (at ps j) x)

or_is : (b l : Bool) → cond b true l ≡ (b || l)
or_is true l = refl
or_is false l = refl

-- a key that is put is listed
pub put_lists : (s r k : ℕ) (ps qs : List (ℕ × Bool)) → k ≡ key r s → qs ≡ insert_entry nat_cmp ps k true
    → (j : ℕ) → is_listed qs j ≡ (is_key s (Some r) j || is_listed ps j)
unfolding put
put_lists s r k ps qs same is j = rw (is, same) (listed-put ps (key r s) true j ∙ or_is (eqb j (key r s)) (is_listed ps j))

kept_by : (b l : Bool) → (b ≡ true → l ≡ false) → cond b false l ≡ l
kept_by true l h = sym (h refl)
kept_by false l h = refl

-- room that is made for a key lists nothing
pub room_lists : (k : ℕ) (ps qs : List (ℕ × Bool)) → is_some (lookup (is_at (nat_cmp k)) ps) ≡ false
    → qs ≡ insert_entry nat_cmp ps k false → ListsAlike ps qs
unfolding is_listed at put
room_lists k ps qs none is j =
    rw is (listed-put ps k false j ∙ kept_by (eqb j k) (is_listed ps j) (λ e. rw (eqb-true j k e) (missed (at ps k) none)))
  where
    missed : (o : Option Bool) → is_some o ≡ false → unwrap_or o false ≡ false
    missed None h = refl
    missed (Some b) h = absurd (true≢false h)

gone_by : (b : Bool) (o : Option Bool) → unwrap_or (cond b None o) false ≡ (not b && unwrap_or o false)
gone_by true o = refl
gone_by false o = refl

turned : (a b : ℕ) → eqb a b ≡ eqb b a
turned a b = grind (arith, nat_tests)

-- a key that is taken out isn't listed
pub gone_lists : (s r k : ℕ) (ps qs : List (ℕ × Bool)) → k ≡ key r s
    → ((q : ℕ) → lookup (is_at (nat_cmp q)) qs ≡ cond (is_at (nat_cmp k) q) None (lookup (is_at (nat_cmp q)) ps))
    → (j : ℕ) → is_listed qs j ≡ (not (is_key s (Some r) j) && is_listed ps j)
unfolding is_listed at
gone_lists s r k ps qs same h j =
    rw (h j, is_at-same k j, turned k j, same) (gone_by (eqb j (key r s)) (lookup (is_at (nat_cmp j)) ps))

-- ---- a session whose id changes

key_here : (s : ℕ) (o : Option ℕ) (r : ℕ) → is_key s o (key r s) ≡ has_label r o
key_here s None r = refl
key_here s (Some x) r = grind (arith, nat_tests)

key_elsewhere : (s : ℕ) (o : Option ℕ) (r q : ℕ) → s < 4294967296 → q < 4294967296 → eqb q s ≡ false → is_key s o (key r q) ≡ false
key_elsewhere s None r q few least apart = refl
key_elsewhere s (Some x) r q few least apart = ne_eqb (key r q) (key x s) (λ e. eqb-false q s apart (omega (arith, e)))

moved : (a b : Bool) → (a || (not b && b)) ≡ a
moved true b = refl
moved false true = refl
moved false false = refl

pub relisted_changed : (old mid new : List (ℕ × Bool)) (s : ℕ) (before after : Option ℕ) → s < 4294967296
    → ((k : ℕ) → is_listed mid k ≡ (not (is_key s before k) && is_listed old k))
    → ((k : ℕ) → is_listed new k ≡ (is_key s after k || is_listed mid k)) → IsRelisted old new s before after
unfolding IsRelisted
relisted_changed old mid new s before after few gone put was r q least = by (eqb q s) refl
  where
    by : (b : Bool) → eqb q s ≡ b → is_listed new (key r q) ≡ cond b (has_label r after) (is_listed old (key r q))
    by true e =
        subst (λ n. is_listed new (key r n) ≡ has_label r after) (sym (eqb-true q s e))
        (rw (put (key r s), gone (key r s), was r, key_here s after r, key_here s before r) (moved (has_label r after) (has_label r before)))
    by false e = rw (put (key r q), gone (key r q), key_elsewhere s after r q few least e, key_elsewhere s before r q few least e) refl

pub relisted_same : (old new : List (ℕ × Bool)) (s : ℕ) (before after : Option ℕ) → before ≡ after → new ≡ old
    → IsRelisted old new s before after
unfolding IsRelisted
relisted_same old new s before after same is was r q least = rw is (by (eqb q s) refl)
  where
    by : (b : Bool) → eqb q s ≡ b → is_listed old (key r q) ≡ cond b (has_label r after) (is_listed old (key r q))
    by true e = rw (eqb-true q s e, ← same) (was r)
    by false e = refl

-- ---- what the index says of labels

pub none_listed : (x : Listing) (labels : ℕ → Option ℕ) → x.keys ≡ [] → ((i : ℕ) → labels i ≡ None) → Lists x labels
unfolding Lists is_listed
none_listed x labels none empty whole l i few = rw (none, empty i, at-none {X = Bool} (key l i)) refl

pub listed_alike : (x y : Listing) (labels : ℕ → Option ℕ) → y.whole ≡ x.whole → ListsAlike x.keys y.keys → Lists x labels → Lists y labels
unfolding Lists
listed_alike x y labels same alike lists whole l i few = alike (key l i) ∙ lists (sym same ∙ whole) l i few

pub relabelled : (x y : Listing) (id : ℕ) (before after : Option ℕ) → id < 4294967296
    → (y.whole ≡ true → (x.whole ≡ true) × IsRelisted x.keys y.keys id before after) → IsRelabelled x y id before after
unfolding Lists IsRelisted
relabelled x y id before after few done labels next lists had has others whole l i least =
    (done whole).1 (λ m. lists (done whole).0 m id few ∙ ap (has_label m) had) l i least ∙ by (eqb i id) refl
  where
    by : (b : Bool) → eqb i id ≡ b → cond b (has_label l after) (is_listed x.keys (key l i)) ≡ has_label l (next i)
    by true e = rw (eqb-true i id e) (ap (has_label l) (sym has))
    by false e = lists (done whole).0 l i least ∙ ap (has_label l) (sym (others i (eqb-false i id e)))

pub first_labelled : (x : Listing) (l : ℕ) (o : Option ℕ) → x.whole ≡ true → IsFirstListed x.keys l o → (labels : ℕ → Option ℕ) → Lists x labels
    → IsFirst labels l o
unfolding Lists IsFirst
first_labelled x l None whole none labels lists = λ i few. sym (lists whole l i few) ∙ none i few
first_labelled x l (Some i) whole first labels lists = (
  first.0,
  sym (lists whole l i first.0) ∙ first.1,
  λ j lt. let few = first.0 in sym (lists whole l j (omega (arith, lt, few))) ∙ first.2 j lt,
)

-- ---- what the map under the index says

pub from_ok : {A B : Type 0} {P : Type 0} (o : Result A B) → is_ok o ≡ true → OnOk o P → P
from_ok (Ok a) h p = p
from_ok (Err b) h p = absurd (true≢false (sym h))

pub same_option : (a b : Option ℕ) → option_eq eqb a b ≡ true → a ≡ b
same_option None None h = refl
same_option None (Some y) h = absurd (true≢false (sym h))
same_option (Some x) None h = absurd (true≢false (sym h))
same_option (Some x) (Some y) h = ap (λ n. Some n) (eqb-true x y h)

pub both_true : (a b : Bool) → (a && b) ≡ true → (a ≡ true) × (b ≡ true)
both_true true b h = (refl, h)
both_true false b h = absurd (true≢false (sym h))

from_le : (a q : ℕ) → a ≤ q → IsLeBy nat_cmp a q
from_le a q h = grind (arith, nat_tests)

to_le : (a q : ℕ) → IsLeBy nat_cmp a q → a ≤ q
to_le a q h = grind (arith, nat_tests)

-- the first of a range, and that it is the least
pub range_gives : (m : BTreeMap ℕ Bool) (lo hi : Bound ℕ) (rs : List (ℕ × Bool)) (e : ℕ × Bool) (t : List (ℕ × Bool)) → rs ≡ e ∷ t
    → IsRangeOf nat_cmp lo hi m rs
    → IsEntryInRange nat_cmp lo hi m e × ((q : ℕ) → IsInRange nat_cmp lo hi q → IsSome (get nat_cmp m q) → IsLeBy nat_cmp e.0 q)
range_gives m lo hi rs e t is h = let g = subst (IsRangeOf nat_cmp lo hi m) is h in (g.1, g.2)

module _ (m : BTreeMap ℕ Bool) (r least most : ℕ) (first : least ≡ key r 0) (last : most ≡ key r 4294967295) where
  within_keys : (s : ℕ) → s < 4294967296 → IsInRange nat_cmp (Included least) (Included most) (key r s)
  within_keys s few = (from_le least (key r s) (omega (arith, first)), from_le (key r s) most (omega (arith, last, few)))

  pub range_none : ((q : ℕ) → IsInRange nat_cmp (Included least) (Included most) q → get nat_cmp m q ≡ None) → IsFirstListed m.entries r None
  unfolding is_listed at
  range_none nothing s few = rw (nothing (key r s) (within_keys s few)) refl

  pub range_first : (found : ℕ) (listed : Bool) → listed ≡ true → IsEntryInRange nat_cmp (Included least) (Included most) m (found, listed)
      → ((q : ℕ) → IsInRange nat_cmp (Included least) (Included most) q → IsSome (get nat_cmp m q) → IsLeBy nat_cmp found q)
      → IsFirstListed m.entries r (Some (found - least))
  unfolding is_listed at
  range_first found listed is_true inside before = (few, rw (same, inside.1, is_true) refl, earlier)
    where
      from : least ≤ found
      from = to_le least found inside.0.0

      few : found - least < 4294967296
      few = let upto = to_le found most inside.0.1 in omega (arith, first, last, from, upto)

      same : key r (found - least) ≡ found
      same = omega (arith, first, from)

      missed : (q : ℕ) → q < found - least → (o : Option Bool) → get nat_cmp m (key r q) ≡ o → unwrap_or o false ≡ false
      missed q lt None is = refl
      missed q lt (Some b) is =
          absurd (let late = to_le found (key r q) (before (key r q) (within_keys q (omega (arith, lt, few))) (rw is refl)) in
          omega (arith, late, lt, first, from))

      earlier : (q : ℕ) → q < found - least → is_listed m.entries (key r q) ≡ false
      earlier q lt = missed q lt (get nat_cmp m (key r q)) refl
