-- The contents that a book is compacted to, one after the other.
use Rattle.std.proofs.Common.{◌≡◌, inl, inr, ℕ, zero, suc, ◌+◌, ◌<◌, ◌≤◌, ◌^◌, Bool, true, false, cond, ◌&&◌, ◌==◌, not, List, [], ◌∷◌, ◌++◌, length, map, filter, drop, get_or, slice_get, Option, Some, None, is_some, refl, sym, ◌∙◌, ap, subst, arith, append_assoc, length-append}
use Rattle.std.specs.Prelude.{Result, IfOk, Ok, Err, nat_lt, nat_le, nat_eq}
use Rattle.std.specs.List.{AllByRecursion, prefix_len, insert}
use Rattle.std.proofs.lemmas.List.{take_all, drop_all, append-nil}
use Rattle.std.proofs.lemmas.List.Elements.{filter-append}
use Rattle.std.proofs.lemmas.Option.{slice_get_past}
use Rattle.std.proofs.lemmas.Bool.{cases_eq}
use Rattle.std.proofs.lemmas.Bool.Decides.{nat_tests}
use Rattle.session_book.specs.declared.record.BookTunnel.{BookTunnel}
use Rattle.session_book.specs.declared.record.BookCall.{BookCall}
use Rattle.session_book.specs.declared.record.Record.{Record}
use Rattle.session_book.specs.declared.record.Record.TheVariants.{Ceiling, TunnelUp, CallUp, Mark}
use Rattle.session_book.specs.declared.book.BookError.TheVariants.{BadRecord}
use Rattle.session_book.specs.Records.{record_of}
use Rattle.session_book.specs.Books.{Kept, nothing_kept, AreRising, place, with_id, entry, put, tunnel_at, call_at, calls_of, ceiling, last, raised, is_free, tunnel_fits, is_marked_below, marked, fits, stepped, is_record_in_place, is_in_place, after_record, after_content, folded, book_of}
use Rattle.session_book.specs.Spelling.{content_of, FitsBytes, ceiling_records, tunnel_records, tunnels_records, calls_records, records_of, contents_of, IsKeptTunnel, IsKeptCall, IsWhole, ContentsKeepTheBook}
use Rattle.session_book.proofs.Contents.{read_again}

-- each of the records is in place, and they lead from the one book to the other
abbrev Runs : Kept → List Record → Kept → Type 0
Runs k [] j = k ≡ j
Runs k (r ∷ rs) j = FitsBytes r × (fits k r ≡ true) × Runs (stepped k r) rs j

runs_append : (k : Kept) (rs : List Record) (j : Kept) (ss : List Record) (l : Kept) → Runs k rs j → Runs j ss l → Runs k (rs ++ ss) l
runs_append k [] j ss l first second = subst (λ (x : Kept). Runs x ss l) (sym first) second
runs_append k (r ∷ rs) j ss l first second = (first.0, first.1, runs_append (stepped k r) rs j ss l first.2 second)

folded_runs : (k : Kept) (rs : List Record) (j : Kept) (at : ℕ) → Runs k rs j → folded k at (map (λ r. content_of r) rs) ≡ Ok j
folded_runs k [] j at runs = ap (λ (x : Kept). Ok x) runs
folded_runs k (r ∷ rs) j at runs =
    let content = content_of r in
    let more = map (λ x. content_of x) rs in
    let again : record_of content ≡ Some r = read_again r runs.0 in
    let here : is_in_place k content ≡ true = ap (is_record_in_place k) again ∙ runs.1 in
    let after : after_content k content ≡ stepped k r =
    ap (λ b. cond b (after_record k (record_of content)) k) here ∙ ap (after_record k) again in
    ap (λ b. cond b (folded (after_content k content) (at + 1) more) (Err (BadRecord at))) here
    ∙ ap (λ (x : Kept). folded x (at + 1) more) after
    ∙ folded_runs (stepped k r) rs j (at + 1) runs.2

both : {a b : Bool} → a ≡ true → b ≡ true → (a && b) ≡ true
both {a} {b} one two = ap (λ x. x && b) one ∙ two

is_below : (a b : ℕ) → a < b → nat_lt a b ≡ true
is_below a b lt = grind (arith, nat_tests)

is_within : (a b : ℕ) → a ≤ b → nat_le a b ≡ true
is_within a b le = grind (arith, nat_tests)

is_same : (a : ℕ) → nat_eq a a ≡ true
is_same a = grind (arith, nat_tests)

is_other : (a b : ℕ) → a < b → nat_eq a b ≡ false
is_other a b lt = grind (arith, nat_tests)

isnt_below : (a : ℕ) → nat_lt a a ≡ false
isnt_below a = grind (arith, nat_tests)

-- ---- one more behind all others

module _ {X : Type 0} (f : X → ℕ) where
  get_middle : (done : List X) (y : X) (rest : List X) (d : X) → get_or (done ++ y ∷ rest) (length done) d ≡ y
  get_middle [] y rest d = refl
  get_middle (x ∷ done) y rest d = get_middle done y rest d

  slice_get_middle : (done : List X) (y : X) (rest : List X) → slice_get (done ++ y ∷ rest) (length done) ≡ Some y
  slice_get_middle [] y rest = refl
  slice_get_middle (x ∷ done) y rest = slice_get_middle done y rest

  all_below : (done : List X) (y : X) (rest : List X) → AreRising f (done ++ y ∷ rest) → AllByRecursion (λ x. f x < f y) done
  all_below [] y rest up = tt
  all_below (x ∷ done) y rest up =
      let l = length-append done (y ∷ rest) in
      let first : f x < f (get_or (done ++ y ∷ rest) (length done) y) = up zero (suc (length done)) y (omega arith) (omega arith) in (
        subst (λ (z : X). f x < f z) (get_middle done y rest y) first,
        all_below done y rest (λ i j d lt within. up (suc i) (suc j) d (omega arith) (omega arith)),
      )

  place_end : (id : ℕ) (done rest : List X) → AllByRecursion (λ x. f x < id) done → prefix_len (λ e. nat_lt (f e) id) rest ≡ 0
      → place f id (done ++ rest) ≡ length done
  place_end id [] rest below none = none
  place_end id (x ∷ done) rest below none =
      let here = is_below (f x) id below.0 in
      let more = place_end id done rest below.1 none in
      ap (λ b. cond b (1 + prefix_len (λ e. nat_lt (f e) id) (done ++ rest)) 0) here ∙ (omega (arith, more))

  -- before it comes no one has its id
  is_new : (id : ℕ) (done : List X) → AllByRecursion (λ x. f x < id) done → is_some (entry f id done) ≡ false
  is_new id done below =
      let at : place f id done ≡ length done = ap (place f id) (sym (append-nil done)) ∙ place_end id done [] below refl in
      ap (λ n. is_some (with_id f id (slice_get done n))) at ∙ ap (λ (o : Option X). is_some (with_id f id o)) (slice_get_past done (length done) (omega arith))

  put_last : (done : List X) (y : X) → AllByRecursion (λ x. f x < f y) done → put f y done ≡ done ++ y ∷ []
  put_last done y below =
      let at : place f (f y) done ≡ length done = ap (place f (f y)) (sym (append-nil done)) ∙ place_end (f y) done [] below refl in
      ap (λ n. insert done n y) at
      ∙ ap (λ (l : List X). l ++ y ∷ drop (length done) done) (take_all (length done) done (omega arith))
      ∙ ap (λ (l : List X). done ++ y ∷ l) (drop_all (length done) done (omega arith))

  entry_last : (done : List X) (y : X) → AllByRecursion (λ x. f x < f y) done → entry f (f y) (done ++ y ∷ []) ≡ Some y
  entry_last done y below =
      let none : prefix_len (λ e. nat_lt (f e) (f y)) (y ∷ []) ≡ 0 = ap (λ b. cond b 1 0) (isnt_below (f y)) in
      let at = place_end (f y) done (y ∷ []) below none in
      ap (λ n. with_id f (f y) (slice_get (done ++ y ∷ []) n)) at
      ∙ ap (λ (o : Option X). with_id f (f y) o) (slice_get_middle done y [])
      ∙ ap (λ b. cond b (Some y) None) (is_same (f y))

-- ---- ceilings

one_ceiling : (space number : ℕ) (k j : Kept) → ceiling k space ≡ 0 → raised space number k ≡ j → (number ≡ 0 → k ≡ j) → number ≤ last space
    → number < 2 ^ 32 → Runs k (ceiling_records space number) j
one_ceiling space number k j base is none most small = elim (cases_eq number 0) [
  | inl zeros ↦ subst (λ (n : ℕ). Runs k (ceiling_records space n) j) (sym zeros) (none zeros)
  | inr other ↦
      let no : nat_eq number 0 ≡ false = grind (arith, nat_tests) in
      let above : ceiling k space < number = omega arith in
      subst (λ b. Runs k (cond b [] (Ceiling space number ∷ [])) j) (sym no)
      (small, both (is_below (ceiling k space) number above) (is_within number (last space) most), is)
]

abbrev with_ceilings : ℕ → ℕ → ℕ → Kept
with_ceilings a b c = record { tunnel_ceiling = a; session_ceiling = b; draw_ceiling = c; tunnels = []; calls = [] }

ceilings_run : (a b c : ℕ) (rs : List Record) (j : Kept) → a ≤ 65535 → b ≤ 65534 → c ≤ 4294967295 → Runs (with_ceilings a b c) rs j
    → Runs nothing_kept (ceiling_records 1 a ++ (ceiling_records 2 b ++ (ceiling_records 3 c ++ rs))) j
ceilings_run a b c rs j la lb lc runs =
    runs_append nothing_kept (ceiling_records 1 a) (with_ceilings a 0 0) (ceiling_records 2 b ++ (ceiling_records 3 c ++ rs)) j
    (one_ceiling 1 a nothing_kept (with_ceilings a 0 0) refl refl (λ z. ap (λ (n : ℕ). with_ceilings n 0 0) (sym z)) la (omega arith))
    (runs_append (with_ceilings a 0 0) (ceiling_records 2 b) (with_ceilings a b 0) (ceiling_records 3 c ++ rs) j
    (one_ceiling 2 b (with_ceilings a 0 0) (with_ceilings a b 0) refl refl (λ z. ap (λ (n : ℕ). with_ceilings a n 0) (sym z)) lb (omega arith))
    (runs_append (with_ceilings a b 0) (ceiling_records 3 c) (with_ceilings a b c) rs j
    (one_ceiling 3 c (with_ceilings a b 0) (with_ceilings a b c) refl refl (λ z. ap (λ (n : ℕ). with_ceilings a b n) (sym z)) lc (omega arith)) runs))

-- ---- tunnels

abbrev unmarked : BookTunnel → BookTunnel
unmarked t = record t { mark = 0 }

abbrev with_tunnels : Kept → List BookTunnel → Kept
with_tunnels k tunnels = record k { tunnels = tunnels }

-- a mark on the last tunnel leaves the others
marked_last : (done : List BookTunnel) (t : BookTunnel) → AllByRecursion (λ x. x.local < t.local) done
    → marked t.local t.mark (done ++ unmarked t ∷ []) ≡ done ++ t ∷ []
marked_last [] t below = ap (λ b. cond b t (unmarked t) ∷ []) (is_same t.local)
marked_last (x ∷ done) t below =
    ap (λ b. cond b (record x { mark = t.mark }) x ∷ marked t.local t.mark (done ++ unmarked t ∷ [])) (is_other x.local t.local below.0)
    ∙ ap (λ (l : List BookTunnel). x ∷ l) (marked_last done t below.1)

tunnel_run : (k : Kept) (done : List BookTunnel) (t : BookTunnel) → IsKeptTunnel k.tunnel_ceiling t → AllByRecursion (λ x. x.local < t.local) done
    → length done < 1024 → Runs (with_tunnels k done) (tunnel_records t) (with_tunnels k (done ++ t ∷ []))
tunnel_run k done t is below few =
    let start = with_tunnels k done in
    let up = unmarked t in
    let middle = with_tunnels k (done ++ up ∷ []) in
    let new : is_some (tunnel_at start t.local) ≡ false = is_new (λ (x : BookTunnel). x.local) t.local done below in
    let free : is_free t.local k.tunnel_ceiling (is_some (tunnel_at start t.local)) ≡ true =
    both (both (is_below 0 t.local is.drawn) (is_within t.local k.tunnel_ceiling is.within)) (ap not new) in
    let in_place : tunnel_fits start up ≡ true =
    both free (both (is_below (length done) 1024 few) (both (is_below 0 t.remote is.remote) (is_below 0 t.window is.window))) in
    let stands : stepped start (TunnelUp up) ≡ middle = ap (with_tunnels k) (put_last (λ (x : BookTunnel). x.local) done up below) in
    let fit = is.fits in
    let bytes : FitsBytes (TunnelUp up) =
    (record { local = fit.local; remote = fit.remote; peer = fit.peer; window = fit.window; flags = fit.flags; mark = omega arith }, refl) in
    let later : Runs middle (cond (t.mark == 0) [] (Mark t.local t.mark ∷ [])) (with_tunnels k (done ++ t ∷ [])) = elim (cases_eq t.mark 0) [
      | inl none ↦
          let yes : nat_eq t.mark 0 ≡ true = grind (arith, nat_tests) in
          subst (λ b. Runs middle (cond b [] (Mark t.local t.mark ∷ [])) (with_tunnels k (done ++ t ∷ []))) (sym yes)
          (ap (λ (m : ℕ). with_tunnels k (done ++ record t { mark = m } ∷ [])) (sym none))
      | inr other ↦
          let no : nat_eq t.mark 0 ≡ false = grind (arith, nat_tests) in
          let above : 0 < t.mark = omega arith in
          subst (λ b. Runs middle (cond b [] (Mark t.local t.mark ∷ [])) (with_tunnels k (done ++ t ∷ []))) (sym no) (
            (fit.local, fit.mark),
            ap (is_marked_below t.mark) (entry_last (λ (x : BookTunnel). x.local) done up below) ∙ is_below 0 t.mark above,
            ap (with_tunnels k) (marked_last done t below),
          )
    ] in
    (bytes, in_place, subst (λ (x : Kept). Runs x (cond (t.mark == 0) [] (Mark t.local t.mark ∷ [])) (with_tunnels k (done ++ t ∷ []))) (sym stands) later)

tunnels_run : (k : Kept) (done rest : List BookTunnel) → AllByRecursion (IsKeptTunnel k.tunnel_ceiling) rest → AreRising (λ t. t.local) (done ++ rest)
    → length (done ++ rest) ≤ 1024 → Runs (with_tunnels k done) (tunnels_records rest) (with_tunnels k (done ++ rest))
tunnels_run k done [] each up few = ap (with_tunnels k) (sym (append-nil done))
tunnels_run k done (t ∷ rest) each up few =
    let next = done ++ t ∷ [] in
    let whole : next ++ rest ≡ done ++ t ∷ rest = append_assoc done (t ∷ []) rest in
    let short : length done < 1024 = let l = length-append done (t ∷ rest) in omega arith in
    runs_append (with_tunnels k done) (tunnel_records t) (with_tunnels k next) (tunnels_records rest) (with_tunnels k (done ++ t ∷ rest))
    (tunnel_run k done t each.0 (all_below (λ (x : BookTunnel). x.local) done t rest up) short)
    (subst (λ (l : List BookTunnel). Runs (with_tunnels k next) (tunnels_records rest) (with_tunnels k l)) whole
    (tunnels_run k next rest each.1 (subst (λ (l : List BookTunnel). AreRising (λ x. x.local) l) (sym whole) up)
    (subst (λ (l : List BookTunnel). length l ≤ 1024) (sym whole) few)))

-- ---- calls

abbrev with_calls : Kept → List BookCall → Kept
with_calls k calls = record k { calls = calls }

-- a tunnel has fewer calls before one of its own
fewer : (done : List BookCall) (c : BookCall) (rest : List BookCall) (most : ℕ) → length (calls_of c.tunnel (done ++ c ∷ rest)) ≤ most
    → length (calls_of c.tunnel done) < most
fewer done c rest most le =
    let p : BookCall → Bool = λ x. x.tunnel == c.tunnel in
    let own : filter p (c ∷ rest) ≡ c ∷ filter p rest = ap (λ b. cond b (c ∷ filter p rest) (filter p rest)) (is_same c.tunnel) in
    let a = ap length (filter-append p done (c ∷ rest)) in
    let b = length-append (filter p done) (filter p (c ∷ rest)) in
    let d = ap length own in
    omega arith

call_run : (k : Kept) (done : List BookCall) (c : BookCall) → IsKeptCall k.session_ceiling k.tunnels c → AllByRecursion (λ x. x.local < c.local) done
    → length (calls_of c.tunnel done) < 4096 → fits (with_calls k done) (CallUp c) ≡ true
call_run k done c is below few =
    let start = with_calls k done in
    let new : is_some (call_at start c.local) ≡ false = is_new (λ (x : BookCall). x.local) c.local done below in
    both (both (both (is_below 0 c.local is.drawn) (is_within c.local k.session_ceiling is.within)) (ap not new))
    (both is.over (is_below (length (calls_of c.tunnel done)) 4096 few))

calls_run : (k : Kept) (done rest : List BookCall) → AllByRecursion (IsKeptCall k.session_ceiling k.tunnels) rest
    → AreRising (λ c. c.local) (done ++ rest) → ((tunnel : ℕ) → length (calls_of tunnel (done ++ rest)) ≤ 4096)
    → Runs (with_calls k done) (calls_records rest) (with_calls k (done ++ rest))
calls_run k done [] each up few = ap (with_calls k) (sym (append-nil done))
calls_run k done (c ∷ rest) each up few =
    let next = done ++ c ∷ [] in
    let whole : next ++ rest ≡ done ++ c ∷ rest = append_assoc done (c ∷ []) rest in
    let below = all_below (λ (x : BookCall). x.local) done c rest up in
    let stands : stepped (with_calls k done) (CallUp c) ≡ with_calls k next = ap (with_calls k) (put_last (λ (x : BookCall). x.local) done c below) in
    let more : Runs (with_calls k next) (calls_records rest) (with_calls k (done ++ c ∷ rest)) =
    subst (λ (l : List BookCall). Runs (with_calls k next) (calls_records rest) (with_calls k l)) whole
    (calls_run k next rest each.1 (subst (λ (l : List BookCall). AreRising (λ x. x.local) l) (sym whole) up)
    (subst (λ (l : List BookCall). (tunnel : ℕ) → length (calls_of tunnel l) ≤ 4096) (sym whole) few)) in (
      each.0.fits,
      call_run k done c each.0 below (fewer done c rest 4096 (few c.tunnel)),
      subst (λ (x : Kept). Runs x (calls_records rest) (with_calls k (done ++ c ∷ rest))) (sym stands) more,
    )

pub contents_keep_the_book : ContentsKeepTheBook
contents_keep_the_book k whole =
    let ceilings = with_ceilings k.tunnel_ceiling k.session_ceiling k.draw_ceiling in
    folded_runs nothing_kept (records_of k) k 0
    (ceilings_run k.tunnel_ceiling k.session_ceiling k.draw_ceiling (tunnels_records k.tunnels ++ calls_records k.calls) k
    whole.tunnel_ceiling whole.session_ceiling whole.draw_ceiling
    (runs_append ceilings (tunnels_records k.tunnels) (with_tunnels ceilings k.tunnels) (calls_records k.calls) k
    (tunnels_run ceilings [] k.tunnels whole.tunnels whole.tunnels_in_order whole.few_tunnels)
    (calls_run (with_tunnels ceilings k.tunnels) [] k.calls whole.calls whole.calls_in_order whole.few_calls)))

pub same_book : {E : Type 0} (k : Kept) (r : Result (List (List ℕ)) E) → IsWhole k → IfOk r (λ contents. contents ≡ contents_of k)
    → IfOk r (λ contents. book_of contents ≡ Ok k)
same_book k (Ok contents) whole is = ap book_of is ∙ contents_keep_the_book k whole
same_book k (Err e) whole is = tt
