-- The tunnels of a table that stand behind locks are those that are listed.
use Rattle.std.specs.Prelude.{◌≡◌, ◌≢◌, ℕ, Bool, true, false, nat_lt, if◌then◌else◌, List, [], Option, Some, None, is_some, option_map}
use Rattle.std.proofs.Common.{refl, ap, sym, subst, ◌∙◌, ⊎_elim}
use Rattle.id_table.specs.Ids.{at, put, without, at-none}
use Rattle.id_table.specs.Order.{Ascends, at_new, at_other, at_without_other, at_without_same, same_or_not}
use Rattle.id_table.specs.Tables.{Kept}
use Rattle.tunnel_listing.specs.declared.directory.Entry.{Entry}
use Rattle.tunnel_listing.specs.declared.listed.Listed.{Listed}
use Rattle.tunnel_listing.specs.Directory.{Directory, listed_at, relisted}
use Rattle.locked_tunnels.specs.declared.table.Place.{Place}
use Rattle.locked_tunnels.specs.Standing.{AreSame}

-- ---- one that was put

pub listed_new : (fs ps : List (ℕ × Entry)) (id : ℕ) (e : Entry) → fs ≡ put ps id e → listed_at fs id ≡ Some e.listed
listed_new fs ps id e are = rw are (ap (λ (o : Option Entry). option_map (λ p. p.listed) o) (at_new ps id e))

pub others_listed : (fs ps : List (ℕ × Entry)) (id : ℕ) (e : Entry) → fs ≡ put ps id e → (i : ℕ) → i ≢ id → listed_at fs i ≡ listed_at ps i
others_listed fs ps id e are i apart = rw are (ap (λ (o : Option Entry). option_map (λ p. p.listed) o) (at_other ps id e i apart))

-- ---- the same tunnels

pub ascends_none : {X : Type 0} (es : List (ℕ × X)) → es ≡ [] → Ascends es
unfolding Ascends
ascends_none es none = rw none tt

pub is_there : (d : Directory) (ps : Kept Place) (id : ℕ) → AreSame d ps → is_some (at ps.entries id) ≡ is_some (at d.places.entries id)
unfolding AreSame
is_there d ps id same = same id

there_put : {X Y : Type 0} (es : List (ℕ × X)) (fs : List (ℕ × Y)) (id : ℕ) (x : X) (y : Y) → ((i : ℕ) → is_some (at es i) ≡ is_some (at fs i))
    → (i : ℕ) → is_some (at (put es id x) i) ≡ is_some (at (put fs id y) i)
there_put es fs id x y same i =
    ⊎_elim
    (λ (e : i ≡ id).
    subst (λ n. is_some (at (put es id x) n) ≡ is_some (at (put fs id y) n)) (sym e)
    (ap is_some (at_new es id x) ∙ sym (ap is_some (at_new fs id y))))
    (λ (apart : i ≡ id → ⊥). ap is_some (at_other es id x i apart) ∙ same i ∙ sym (ap is_some (at_other fs id y i apart)))
    (same_or_not i id)

there_without : {X Y : Type 0} (es : List (ℕ × X)) (fs : List (ℕ × Y)) (id : ℕ) → at (without es id) id ≡ None → at (without fs id) id ≡ None
    → ((i : ℕ) → is_some (at es i) ≡ is_some (at fs i)) → (i : ℕ) → is_some (at (without es id) i) ≡ is_some (at (without fs id) i)
there_without es fs id none gone same i =
    ⊎_elim
    (λ (e : i ≡ id).
    subst (λ n. is_some (at (without es id) n) ≡ is_some (at (without fs id) n)) (sym e) (ap is_some none ∙ sym (ap is_some gone)))
    (λ (apart : i ≡ id → ⊥). ap is_some (at_without_other es id i apart) ∙ same i ∙ sym (ap is_some (at_without_other fs id i apart)))
    (same_or_not i id)

pub same_none : (d : Directory) (ps : Kept Place) → d.places.entries ≡ [] → ps.entries ≡ [] → AreSame d ps
unfolding AreSame
same_none d ps listed placed i = rw (listed, placed, at-none {X = Entry} i, at-none {X = Place} i) refl

pub same_kept : (d e : Directory) (ps qs : Kept Place) → e.places.entries ≡ d.places.entries → qs.entries ≡ ps.entries → AreSame d ps → AreSame e qs
unfolding AreSame
same_kept d e ps qs listed placed same i = rw (listed, placed) (same i)

pub same_put : (d e : Directory) (ps qs : Kept Place) (id : ℕ) (x : Entry) (p : Place) → e.places.entries ≡ put d.places.entries id x
    → qs.entries ≡ put ps.entries id p → AreSame d ps → AreSame e qs
unfolding AreSame
same_put d e ps qs id x p listed placed same i = rw (listed, placed) (there_put ps.entries d.places.entries id p x same i)

pub same_without : (d e : Directory) (ps qs : Kept Place) (id : ℕ) → e.places.entries ≡ without d.places.entries id
    → at (without d.places.entries id) id ≡ None → qs.entries ≡ without ps.entries id → Ascends ps.entries → AreSame d ps → AreSame e qs
unfolding AreSame
same_without d e ps qs id listed gone placed ascends same i =
    rw (listed, placed)
    (there_without ps.entries d.places.entries id (at_without_same ps.entries id ascends) gone same i)

there_again : (es : List (ℕ × Entry)) (id : ℕ) (x y : Entry) → at es id ≡ Some x → (i : ℕ) → is_some (at (put es id y) i) ≡ is_some (at es i)
there_again es id x y found i =
    ⊎_elim
    (λ (e : i ≡ id). subst (λ n. is_some (at (put es id y) n) ≡ is_some (at es n)) (sym e) (ap is_some (at_new es id y) ∙ sym (ap is_some found)))
    (λ (apart : i ≡ id → ⊥). ap is_some (at_other es id y i apart))
    (same_or_not i id)

there_relisted : (l : Listed) (turns id : ℕ) (es : List (ℕ × Entry)) (i : ℕ) → is_some (at (relisted l turns id es (at es id)) i) ≡ is_some (at es i)
there_relisted l turns id es i = by (at es id) refl
  where
    late : (x : Entry) (b : Bool) → at es id ≡ Some x
        → is_some (at (if b then es else put es id (record x { listed = l; turns = turns })) i) ≡ is_some (at es i)
    late x true found = refl
    late x false found = there_again es id x (record x { listed = l; turns = turns }) found i

    by : (o : Option Entry) → at es id ≡ o → is_some (at (relisted l turns id es o) i) ≡ is_some (at es i)
    by None found = refl
    by (Some x) found = late x (nat_lt turns x.turns) found

pub same_relisted : (d e : Directory) (ps : Kept Place) (l : Listed) (turns id : ℕ)
    → e.places.entries ≡ relisted l turns id d.places.entries (at d.places.entries id) → AreSame d ps → AreSame e ps
unfolding AreSame
same_relisted d e ps l turns id listed same i = same i ∙ sym (rw listed (there_relisted l turns id d.places.entries i))
