-- Each move keeps the rule of the queue.
use Rattle.std.proofs.Common.{◌≡◌, ◌≢◌, ℕ, suc, ◌+◌, ◌-◌, ◌<◌, ◌≤◌, true, false, true≢false, List, [], ◌∷◌, ◌++◌, length, slice_set, slice_get, All, Option, Some, None, refl, ap, sym, ◌∙◌, subst, append_assoc, length-append, arith, ⊎_elim}
use Rattle.std.proofs.lemmas.List.{append-nil, length-map, map-append}
use Rattle.std.proofs.lemmas.List.Elements.{All-nil, All-push, All-append, All-weaker}
use mathlib.Core.Option.{some}
use lib.ListN.{get_elem?}
use Rattle.crossbeam_queue.specs.Fifo.{Pushes, Pops, Forks, Merges, Learns}
use Rattle.crossbeam_queue.proofs.Lists.{at_set}
use Rattle.logbook.specs.Pages.{Book}
use Rattle.session_workers.specs.declared.item.Numbered.{Numbered}
use Rattle.session_workers.specs.declared.views.ItemView.{ItemView}
use Rattle.session_workers.specs.declared.views.RowName.{RowName}
use Rattle.session_workers.specs.Lists.{total, times, count_up}
use Rattle.session_workers.specs.Items.{numbers_of, item_view, first_view, spent_view, named_view, splitting_view, worker_view, joined_view, name_in, IsFrom, IsPut, Fits, IsKept, PutsOne, TakesOne, Tells, TookOnce}
use Rattle.session_workers.proofs.Lists.{total_set, total_snoc, total_least, total_alone, times-append, times_own, times_once, count_up-snoc, count_up_at, get_middle, get_snoc, get_further, prefix_self, prefix_grow}
use Rattle.session_workers.proofs.EachView.{each_set, each_snoc, each_alone}

abbrev Idle : ℕ → ItemView → Type 0
Idle pass v = v.parts ≡ 0 → v.taken ≡ []

abbrev took : ℕ → ItemView → ℕ
took n v = times n (numbers_of v.taken)

abbrev parts : ItemView → ℕ
parts v = v.parts

-- what was put stays put
put_grow : (put more : List Numbered) (x : Numbered) → IsPut put x → IsPut (put ++ more) x
put_grow put more x h = (h.0, get_further put more (x.number - 1) x h.1)

all_grow : (put more xs : List Numbered) → All (IsPut put) xs → All (IsPut (put ++ more)) xs
all_grow put more xs h = All-weaker (IsPut put) (IsPut (put ++ more)) (λ x p. put_grow put more x p) xs h

-- the numbers of two lists
numbers_append : (n : ℕ) (xs ys : List Numbered) → times n (numbers_of (xs ++ ys)) ≡ times n (numbers_of xs) + times n (numbers_of ys)
numbers_append n xs ys = ap (times n) (map-append (λ (y : Numbered). y.number) xs ys) ∙ times-append n (numbers_of xs) (numbers_of ys)

spent_fits : (opener : ℕ) (put : List Numbered) (row : Option RowName) (pass : ℕ) → Fits opener put row pass spent_view
spent_fits opener put row pass = record { known = (put, refl); took = All-nil (IsPut put); opens = λ is. absurd (true≢false (sym is)); named = λ r is. absurd cc }

pub begins : IsKept [] (first_view ∷ [])
begins = record {
  put = [];
  gone = [];
  opener = 0;
  row = None;
  whole = refl;
  numbers = refl;
  rows = λ k x at. absurd cc;
  parts = refl;
  once = λ n. refl;
  idle = each_alone Idle first_view (λ none. refl);
  fits = each_alone (Fits 0 [] None) first_view (record { known = ([], refl); took = All-nil (IsPut []); opens = λ is. (refl, refl, refl); named = λ r is. is });
}

-- the others aren't the opener
not_mine : (opener : ℕ) (put : List Numbered) (row : Option RowName) (pass j : ℕ) (v u : ItemView) → Fits opener put row pass v → v.opener ≡ true → Fits opener put row j u → j ≢ pass → u.opener ≡ true → ⊥
not_mine opener put row pass j v u mine opens theirs other is = other ((theirs.opens is).0 ∙ sym (mine.opens opens).0)

pub names : (pass : ℕ) (v : ItemView) (r : RowName) → v ≡ first_view → Forks IsKept pass v (named_view v r) spent_view
names pass v r first items views h at =
    let mine = h.fits pass v at in
    let opens : v.opener ≡ true = ap (λ (y : ItemView). y.opener) first in
    let empty : h.put ≡ [] = sym (mine.opens opens).1 ∙ ap (λ (y : ItemView). y.known) first in
    let unnamed : h.row ≡ None = sym (mine.opens opens).2 ∙ ap (λ (y : ItemView). y.row) first in
    let w = named_view v r in
    let vs = slice_set views pass w in
    record {
      put = h.put;
      gone = h.gone;
      opener = h.opener;
      row = Some r;
      whole = h.whole;
      numbers = h.numbers;
      rows = λ k x there. (let nowhere : slice_get [] k ≡ Some x = subst (λ (l : List Numbered). slice_get l k ≡ Some x) empty there in absurd cc);
      parts = (let a = total_snoc parts vs spent_view in let b = total_set parts views pass v w at in let c = h.parts in omega arith);
      once = λ n. (let a = total_snoc (took n) vs spent_view in let b = total_set (took n) views pass v w at in let c = h.once n in omega arith);
      idle = each_snoc Idle vs spent_view (λ j none. refl) (each_set Idle views pass w (λ none. h.idle pass v at none) (λ j u other there. h.idle j u there));
      fits = each_snoc (Fits h.opener h.put (Some r)) vs spent_view (spent_fits h.opener h.put (Some r))
          (each_set (Fits h.opener h.put (Some r)) views pass w (record { known = mine.known; took = mine.took; opens = λ is. ((mine.opens opens).0, (mine.opens opens).1, refl); named = λ q is. is })
          (λ j u other there. (let theirs = h.fits j u there in record {
            known = theirs.known;
            took = theirs.took;
            opens = λ is. absurd (not_mine h.opener h.put h.row pass j v u mine opens theirs other is);
            named = λ q is. (let some_row : None ≡ Some q = sym unnamed ∙ theirs.named q is in absurd cc);
          })));
    }

pub puts : (n pass : ℕ) (v : ItemView) (x : Numbered) → v.opener ≡ true → x.number ≡ length v.known + 1 → IsFrom v.row x → Pushes IsKept n pass v x (PutsOne v x)
puts n pass v x opens number from items views room h at =
    let mine = h.fits pass v at in
    let known : v.known ≡ h.put = (mine.opens opens).1 in
    let w = item_view v.opener v.parts v.row (v.known ++ x ∷ []) v.taken in
    let put = h.put ++ x ∷ [] in
    let next : x.number ≡ 1 + length h.put = (let e = ap length known in omega arith) in
    let longer : length put ≡ suc (length h.put) = (let e = length-append h.put (x ∷ []) in omega arith) in (
      w,
      record {
        put = put;
        gone = h.gone;
        opener = h.opener;
        row = h.row;
        whole = sym (append_assoc h.gone items (x ∷ [])) ∙ ap (λ l. l ++ x ∷ []) h.whole;
        numbers = map-append (λ (y : Numbered). y.number) h.put (x ∷ [])
            ∙ (ap (λ l. l ++ x.number ∷ []) h.numbers ∙ (ap (λ k. count_up 1 (length h.put) ++ k ∷ []) next ∙ (count_up-snoc 1 (length h.put) ∙ ap (count_up 1) (sym longer))));
        rows = λ k y there. ⊎_elim (λ (old : slice_get h.put k ≡ Some y). h.rows k y old) (λ (new : x ≡ y). subst (λ z. IsFrom h.row z) new (subst (λ r. IsFrom r x) (mine.opens opens).2 from)) (get_snoc h.put x y k there);
        parts = (let b = total_set parts views pass v w at in let c = h.parts in omega arith);
        once = λ m. (let b = total_set (took m) views pass v w at in let c = h.once m in omega arith);
        idle = each_set Idle views pass w (λ none. h.idle pass v at none) (λ j u other there. h.idle j u there);
        fits = each_set (Fits h.opener put h.row) views pass w
            (record { known = ([], append-nil (v.known ++ x ∷ []) ∙ ap (λ l. l ++ x ∷ []) known); took = all_grow h.put (x ∷ []) v.taken mine.took; opens = λ is. ((mine.opens opens).0, ap (λ l. l ++ x ∷ []) known, (mine.opens opens).2); named = mine.named })
            (λ j u other there. (let theirs = h.fits j u there in record {
              known = prefix_grow u.known h.put (x ∷ []) theirs.known;
              took = all_grow h.put (x ∷ []) u.taken theirs.took;
              opens = λ is. absurd (not_mine h.opener h.put h.row pass j v u mine opens theirs other is);
              named = theirs.named;
            }));
      },
      refl,
    )

pub takes : (pass : ℕ) (v : ItemView) → 0 < v.parts → Pops IsKept pass v (TakesOne v)
takes pass v part x items views h at =
    let mine = h.fits pass v at in
    let w = item_view v.opener v.parts v.row h.put (v.taken ++ x ∷ []) in
    let gone = h.gone ++ x ∷ [] in
    let split : numbers_of h.put ≡ numbers_of h.gone ++ x.number ∷ numbers_of items = ap numbers_of (sym h.whole) ∙ map-append (λ (y : Numbered). y.number) h.gone (x ∷ items) in
    let same_length : length (numbers_of h.gone) ≡ length h.gone = length-map h.gone (λ (y : Numbered). y.number) in
    let number : x.number ≡ 1 + length h.gone = (let e = count_up_at (numbers_of h.gone) (numbers_of items) x.number 1 (length h.put) (sym split ∙ h.numbers) in omega arith) in
    let place : slice_get h.put (length h.gone) ≡ Some x = subst (λ (l : List Numbered). slice_get l (length h.gone) ≡ Some x) h.whole (get_middle h.gone items x) in
    let before : x.number - 1 ≡ length h.gone = omega arith in
    let all : times x.number (numbers_of h.put) ≡ times x.number (numbers_of h.gone) + (1 + times x.number (numbers_of items)) =
    ap (times x.number) split ∙ (times-append x.number (numbers_of h.gone) (x.number ∷ numbers_of items) ∙ ap (λ (k : ℕ). times x.number (numbers_of h.gone) + k) (times_own x.number (numbers_of items))) in
    let most : times x.number (numbers_of h.put) ≤ 1 = subst (λ (l : List ℕ). times x.number l ≤ 1) (sym h.numbers) (times_once x.number 1 (length h.put)) in
    let least : times x.number (numbers_of v.taken) ≤ total (took x.number) views = total_least (took x.number) views pass v at in
    let sum = h.once x.number in
    let there : IsPut h.put x = (omega arith, subst (λ (k : ℕ). slice_get h.put k ≡ Some x) (sym before) place) in (
      w,
      record {
        put = h.put;
        gone = gone;
        opener = h.opener;
        row = h.row;
        whole = append_assoc h.gone (x ∷ []) items ∙ h.whole;
        numbers = h.numbers;
        rows = h.rows;
        parts = (let b = total_set parts views pass v w at in let c = h.parts in omega arith);
        once = λ m. (
            let b = total_set (took m) views pass v w at in
            let c = h.once m in
            let d = numbers_append m v.taken (x ∷ []) in
            let e : times m (numbers_of gone) ≡ times m (numbers_of h.gone) + times m (x.number ∷ []) = ap (times m) (map-append (λ (y : Numbered). y.number) h.gone (x ∷ [])) ∙ times-append m (numbers_of h.gone) (x.number ∷ []) in
            omega arith);
        idle = each_set Idle views pass w (λ none. absurd (omega arith)) (λ j u other there. h.idle j u there);
        fits = each_set (Fits h.opener h.put h.row) views pass w (record { known = prefix_self h.put; took = All-push (IsPut h.put) v.taken x mine.took there; opens = λ is. ((mine.opens is).0, refl, (mine.opens is).2); named = mine.named }) (λ j u other there. h.fits j u there);
      },
      ((λ r is. h.rows (length h.gone) x place r (mine.named r is)), there.0, mine.known, there.1, refl, omega arith, λ is. sym (mine.opens is).1),
    )

-- the parts are cut in two, and what was taken stays with the first
cuts : (pass : ℕ) (v : ItemView) (a b : ℕ) → 0 < a → a + b ≡ v.parts → Forks IsKept pass v (item_view v.opener a v.row v.known v.taken) (item_view false b v.row v.known [])
cuts pass v a b some_part whole items views h at =
    let mine = h.fits pass v at in
    let w = item_view v.opener a v.row v.known v.taken in
    let new = item_view false b v.row v.known [] in
    let vs = slice_set views pass w in
    record {
      put = h.put;
      gone = h.gone;
      opener = h.opener;
      row = h.row;
      whole = h.whole;
      numbers = h.numbers;
      rows = h.rows;
      parts = (let s = total_snoc parts vs new in let t = total_set parts views pass v w at in let c = h.parts in omega arith);
      once = λ n. (let s = total_snoc (took n) vs new in let t = total_set (took n) views pass v w at in let c = h.once n in omega arith);
      idle = each_snoc Idle vs new (λ j none. refl) (each_set Idle views pass w (λ none. absurd (omega arith)) (λ j u other there. h.idle j u there));
      fits = each_snoc (Fits h.opener h.put h.row) vs new (λ j. record { known = mine.known; took = All-nil (IsPut h.put); opens = λ is. absurd (true≢false (sym is)); named = mine.named })
          (each_set (Fits h.opener h.put h.row) views pass w (record { known = mine.known; took = mine.took; opens = mine.opens; named = mine.named }) (λ j u other there. h.fits j u there));
    }

pub splits : (pass : ℕ) (v : ItemView) → 1 < v.parts → Forks IsKept pass v (splitting_view v) (worker_view v)
splits pass v more = cuts pass v (v.parts - 1) 1 (omega arith) (omega arith)

pub merges : (pass : ℕ) (v : ItemView) (other : ℕ) (u : ItemView) → Merges IsKept pass v other u (joined_view v u) spent_view
merges pass v other u items views h at two at' =
    let mine = h.fits pass v at in
    let both = joined_view v u in
    let vs = slice_set views pass both in
    let was : get_elem? views other ≡ some u = ⊎_elim (λ (x : (other ≡ pass) × (both ≡ u)). absurd (two x.0)) (λ (x : (other ≢ pass) × (get_elem? views other ≡ some u)). x.1) (at_set views pass other both u at') in
    record {
      put = h.put;
      gone = h.gone;
      opener = h.opener;
      row = h.row;
      whole = h.whole;
      numbers = h.numbers;
      rows = h.rows;
      parts = (let a = total_set parts vs other u spent_view at' in let b = total_set parts views pass v both at in let c = h.parts in omega arith);
      once = λ n. (
          let a = total_set (took n) vs other u spent_view at' in
          let b = total_set (took n) views pass v both at in
          let c = h.once n in
          let d = numbers_append n v.taken u.taken in
          omega arith);
      idle = each_set Idle vs other spent_view (λ none. refl)
          (λ j y apart there. each_set Idle views pass both (λ none. (let a = h.idle pass v at (omega arith) in let b = h.idle other u was (omega arith) in rw (a, b) refl)) (λ k z away here. h.idle k z here) j y there);
      fits = each_set (Fits h.opener h.put h.row) vs other spent_view (spent_fits h.opener h.put h.row other)
          (λ j y apart there. each_set (Fits h.opener h.put h.row) views pass both
          (record { known = mine.known; took = All-append (IsPut h.put) v.taken u.taken mine.took (h.fits other u was).took; opens = mine.opens; named = mine.named }) (λ k z away here. h.fits k z here) j y there);
    }

pub learns_once : (pass : ℕ) (v : ItemView) → Learns IsKept pass v (TookOnce v)
learns_once pass v items views h at n =
    let least : times n (numbers_of v.taken) ≤ total (took n) views = total_least (took n) views pass v at in
    let sum = h.once n in
    let all : times n (numbers_of h.put) ≡ times n (numbers_of h.gone) + times n (numbers_of items) =
    ap (times n) (ap numbers_of (sym h.whole) ∙ map-append (λ (y : Numbered). y.number) h.gone items) ∙ times-append n (numbers_of h.gone) (numbers_of items) in
    let most : times n (numbers_of h.put) ≤ 1 = subst (λ (l : List ℕ). times n l ≤ 1) (sym h.numbers) (times_once n 1 (length h.put)) in
    omega arith

pub tells : (pass : ℕ) (v : ItemView) → Learns IsKept pass v (Tells v)
tells pass v items views h at opens =
    let mine = h.fits pass v at in (
      h.gone,
      h.whole ∙ sym (mine.opens opens).1,
      λ all n. sym (total_alone (took n) parts views pass v at (h.parts ∙ sym all) (λ j u there none. ap (λ (l : List Numbered). times n (numbers_of l)) (h.idle j u there none))) ∙ h.once n,
      subst (λ (l : List Numbered). All (IsPut l) v.taken) (sym (mine.opens opens).1) mine.took,
    )

-- a row is known by its name
pub same_row : (a b : Book) → name_in a ≡ name_in b → a ≡ b
same_row a b e i = record { number = (e i).number; log_name = (e i).log_name; cells_name = (e i).cells_name }

-- an item of this row
pub from_row : (row : Option RowName) (b : Book) (x : Numbered) → row ≡ Some (name_in b) → x.item.seen.seen.book ≡ b → IsFrom row x
from_row row b x named same r is = let e : name_in b ≡ r = cc in ap name_in same ∙ e
