-- What is listed of the tunnels of a table, as one is put, listed anew or taken out, and which is found.
use Rattle.std.specs.Prelude.{◌≡◌, ◌≢◌, ℕ, ◌<◌, Bool, true, false, if◌then◌else◌, nat_lt, List, [], Option, Some, None, option_map}
use Rattle.std.proofs.Common.{refl, ap, sym, ◌∙◌, subst, ⊎_elim, arith}
use Rattle.std.proofs.lemmas.Bool.Decides.{nat_tests}
use Rattle.std.proofs.lemmas.Option.{none-some, same_Some}
use Rattle.id_table.specs.Ids.{at, put, without, at-none, ids_of}
use Rattle.id_table.specs.Order.{Ascends, ascends-empty, ascends-put, ascends-without, at_new, at_other, at_without_other, at_without_same, same_or_not}
use Rattle.id_index.specs.Indexes.{IsWithin}
use Rattle.tunnel_listing.specs.declared.listed.Listed.{Listed}
use Rattle.tunnel_listing.specs.declared.listed.Wanted.{Wanted}
use Rattle.tunnel_listing.specs.Listed.{is_wanted_at, first_of}
use Rattle.tunnel_listing.specs.Labels.{Listings, AreIndexed, IsFirstWanted}
use Rattle.tunnel_listing.proofs.Finding.{first_is}
use Rattle.tunnel_listing.specs.declared.directory.Entry.{Entry}
use Rattle.tunnel_listing.specs.Directory.{listed_at, relisted, replaced, IsNarrow}

-- what the table keeps: its indexes list each tunnel as the table does, the ids ascend, and have 16 bits
abbrev pub Holds : Listings → List (ℕ × Entry) → Type 0
Holds x ps = AreIndexed x (λ i. listed_at ps i) × Ascends ps × IsNarrow ps

-- one tunnel is listed anew, or no more
abbrev pub Changes : Listings → Listings → ℕ → Option Listed → Option Listed → Type 0
Changes x y id before after = (f g : ℕ → Option Listed) → AreIndexed x f → f id ≡ before → g id ≡ after → ((i : ℕ) → i ≢ id → g i ≡ f i) → AreIndexed y g

abbrev shown : Option Entry → Option Listed
shown o = option_map (λ p. p.listed) o

narrow_empty : (ps : List (ℕ × Entry)) → ps ≡ [] → IsNarrow ps
unfolding IsNarrow
narrow_empty ps empty i past = rw empty (at-none i)

narrow_put : (ps : List (ℕ × Entry)) (id : ℕ) (p : Entry) → id < 65536 → IsNarrow ps → IsNarrow (put ps id p)
unfolding IsNarrow
narrow_put ps id p few narrow i past = at_other ps id p i (λ e. let l = few in omega (arith, e, l, past)) ∙ narrow i past

narrow_again : (ps : List (ℕ × Entry)) (id : ℕ) (p q : Entry) → at ps id ≡ Some p → IsNarrow ps → IsNarrow (put ps id q)
unfolding IsNarrow
narrow_again ps id p q there narrow i past =
    ⊎_elim
    (λ (e : i ≡ id). absurd (none-some p (sym (narrow i past) ∙ (ap (λ n. at ps n) e ∙ there))))
    (λ (apart : i ≡ id → ⊥). at_other ps id q i apart ∙ narrow i past)
    (same_or_not i id)

narrow_without : (ps : List (ℕ × Entry)) (id : ℕ) → Ascends ps → IsNarrow ps → IsNarrow (without ps id)
unfolding IsNarrow
narrow_without ps id ascends narrow i past =
    ⊎_elim
    (λ (e : i ≡ id). ap (λ n. at (without ps id) n) e ∙ at_without_same ps id ascends)
    (λ (apart : i ≡ id → ⊥). at_without_other ps id i apart ∙ narrow i past)
    (same_or_not i id)

pub within : (ps : List (ℕ × Entry)) → IsNarrow ps → IsWithin ps
unfolding IsNarrow IsWithin
within ps narrow i past = narrow i (omega (arith, past))

pub holds_empty : (x : Listings) (ps : List (ℕ × Entry)) → ((f : ℕ → Option Listed) → ((i : ℕ) → f i ≡ None) → AreIndexed x f) → ps ≡ [] → Holds x ps
holds_empty x ps new empty =
    (new (λ i. listed_at ps i) (λ i. rw empty (ap shown (at-none i))), ascends-empty ps empty, narrow_empty ps empty)

pub holds_put : (x y : Listings) (ps : List (ℕ × Entry)) (id : ℕ) (p : Entry) (before after : Option Listed) → id < 65536
    → Changes x y id before after → before ≡ listed_at ps id → after ≡ Some p.listed → Holds x ps → Holds y (put ps id p)
holds_put x y ps id p before after few changes was is holds = (
  changes (λ i. listed_at ps i) (λ i. listed_at (put ps id p) i) holds.0 (sym was) (ap shown (at_new ps id p) ∙ sym is)
      (λ i apart. ap shown (at_other ps id p i apart)),
  ascends-put id p ps holds.1,
  narrow_put ps id p few holds.2,
)

pub holds_without : (x y : Listings) (ps : List (ℕ × Entry)) (id : ℕ) (before : Option Listed)
    → Changes x y id before None → before ≡ listed_at ps id → Holds x ps → Holds y (without ps id)
holds_without x y ps id before changes was holds = (
  changes (λ i. listed_at ps i) (λ i. listed_at (without ps id) i) holds.0 (sym was) (ap shown (at_without_same ps id holds.1))
      (λ i apart. ap shown (at_without_other ps id i apart)),
  ascends-without id ps holds.1,
  narrow_without ps id holds.1 holds.2,
)

-- a tunnel is listed anew
again : (x y : Listings) (ps : List (ℕ × Entry)) (id turns : ℕ) (l before : Listed) (p : Entry) → at ps id ≡ Some p
    → Changes x y id (Some before) (Some l) → p.listed ≡ before → Holds x ps → Holds y (put ps id (record p { listed = l; turns = turns }))
again x y ps id turns l before p there changes was holds =
    let q : Entry = record p { listed = l; turns = turns } in (
      changes (λ i. listed_at ps i) (λ i. listed_at (put ps id q) i) holds.0 (ap shown there ∙ ap Some was) (ap shown (at_new ps id q))
          (λ i apart. ap shown (at_other ps id q i apart)),
      ascends-put id q ps holds.1,
      narrow_again ps id p q there holds.2,
    )

pub holds_relisted : (x y : Listings) (ps fs : List (ℕ × Entry)) (id turns : ℕ) (l before : Listed)
    → fs ≡ relisted l turns id ps (at ps id) → replaced turns (at ps id) ≡ Some before → Changes x y id (Some before) (Some l) → Holds x ps → Holds y fs
holds_relisted x y ps fs id turns l before are was changes holds = by (at ps id) refl are was
  where
    late : (p : Entry) (b : Bool) → nat_lt turns p.turns ≡ b → at ps id ≡ Some p
        → fs ≡ (if b then ps else put ps id (record p { listed = l; turns = turns }))
        → (if b then None else Some p.listed) ≡ Some before → Holds y fs
    late p true e there are was = absurd (none-some before was)
    late p false e there are was =
        subst (λ gs. Holds y gs) (sym are) (again x y ps id turns l before p there changes (same_Some p.listed before was) holds)

    by : (o : Option Entry) → at ps id ≡ o → fs ≡ relisted l turns id ps o → replaced turns o ≡ Some before → Holds y fs
    by None there are was = absurd (none-some before was)
    by (Some p) there are was = late p (nat_lt turns p.turns) refl there are was

-- where it isn't, nothing is changed
pub not_relisted : (ps fs : List (ℕ × Entry)) (id turns : ℕ) (l : Listed)
    → fs ≡ relisted l turns id ps (at ps id) → replaced turns (at ps id) ≡ None → fs ≡ ps
not_relisted ps fs id turns l are was = by (at ps id) are was
  where
    late : (p : Entry) (b : Bool) → fs ≡ (if b then ps else put ps id (record p { listed = l; turns = turns }))
        → (if b then None else Some p.listed) ≡ None → fs ≡ ps
    late p true are was = are
    late p false are was = absurd (none-some p.listed (sym was))

    by : (o : Option Entry) → fs ≡ relisted l turns id ps o → replaced turns o ≡ None → fs ≡ ps
    by None are was = are
    by (Some p) are was = late p (nat_lt turns p.turns) are was

-- ---- which is found

pub found_first : (x : Listings) (w : Wanted) (ps : List (ℕ × Entry)) (o : Option ℕ) → Holds x ps → IsFirstWanted w (λ i. listed_at ps i) o
    → first_of w (λ i. listed_at ps i) (ids_of ps) ≡ o
found_first x w ps o holds first = first_is w (λ p. p.listed) ps o holds.1 (within ps holds.2) first

-- each id was looked at, and none is looked for
pub none_first : (w : Wanted) (ps : List (ℕ × Entry)) → IsNarrow ps → ((j : ℕ) → j < 65536 → is_wanted_at w (listed_at ps j) ≡ false)
    → IsFirstWanted w (λ i. listed_at ps i) None
unfolding IsFirstWanted IsNarrow
none_first w ps narrow none i lt = by (nat_lt i 65536) refl
  where
    by : (b : Bool) → nat_lt i 65536 ≡ b → is_wanted_at w (listed_at ps i) ≡ false
    by true few = none i (grind (arith, nat_tests))
    by false past = ap (λ (o : Option Entry). is_wanted_at w (option_map (λ p. p.listed) o)) (narrow i (grind (arith, nat_tests)))

pub some_first : (w : Wanted) (ps : List (ℕ × Entry)) (i : ℕ) → i < 65536 → is_wanted_at w (listed_at ps i) ≡ true
    → ((j : ℕ) → j < i → is_wanted_at w (listed_at ps j) ≡ false) → IsFirstWanted w (λ i. listed_at ps i) (Some i)
unfolding IsFirstWanted
some_first w ps i few found before = ((let l = few in omega arith), found, before)

-- one that was taken out isn't there
pub gone_without : (x : Listings) (ps fs : List (ℕ × Entry)) (id : ℕ) → Holds x ps → fs ≡ without ps id → at fs id ≡ None
gone_without x ps fs id holds are = rw are (at_without_same ps id holds.1)
