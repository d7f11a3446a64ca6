-- A compaction of a journal that a disk holds.
use Rattle.std.proofs.Common.{◌≡◌, inl, inr, ℕ, ◌+◌, ◌*◌, ◌<◌, ◌≤◌, List, [], ◌∷◌, ◌++◌, length, take, get_or, Bool, true, false, cond, Option, Some, None, arith, length-append, refl, sym, ◌∙◌, ap, subst, append_assoc}
use Rattle.std.specs.Prelude.{option_map, is_some, nat_eq, IfSome, Ok}
use Rattle.std.specs.List.{AllByRecursion}
use Rattle.std.proofs.lemmas.List.{take_more, append-nil}
use Rattle.disk_core.specs.Disk.{Held, MayLeave}
use Rattle.checkpoint_journal.specs.Format.{closed_gate, most_records, first_area, second_area, other_area, opens, spelled, spelled_area, IsOldOrNew}
use Rattle.checkpoint_journal.specs.Commit.{compact_after, IsFile, IsHalfCompacted}
use Rattle.checkpoint_journal.specs.Laws.{Is31}
use Rattle.checkpoint_journal.specs.State.{State, compacted, HasContents, MayFind, FindsOldOrNew}
use Rattle.checkpoint_journal.proofs.Options.{on_map, map_some}
use Rattle.checkpoint_journal.proofs.Writes.{spelled-push, each-push}
use Rattle.checkpoint_journal.proofs.Parts.{length-spelled, second_is}
use Rattle.checkpoint_journal.proofs.Same.{finds_contents}
use Rattle.checkpoint_journal.proofs.Compactions.{Rests, at_any, as_read, goes_on}

-- one content more of the area
pub spelled_more : (cs : List (List ℕ)) (i : ℕ) (area : List ℕ) → i < length cs → area ≡ spelled (take i cs)
    → (area ++ 79 ∷ []) ++ get_or cs i [] ≡ spelled (take (i + 1) cs)
spelled_more cs i area lt is =
    let c = get_or cs i [] in
    let so_far = take i cs in
    ap (λ (l : List ℕ). (l ++ 79 ∷ []) ++ c) is
    ∙ append_assoc (spelled so_far) (79 ∷ []) c
    ∙ ap (λ (l : List ℕ). spelled so_far ++ 79 ∷ l) (sym (append-nil c))
    ∙ sym (spelled-push so_far c [])
    ∙ append-nil (spelled (so_far ++ c ∷ []))
    ∙ ap spelled (sym (take_more cs i [] lt))

pub each_more : (cs : List (List ℕ)) (i : ℕ) → i < length cs → AllByRecursion Is31 (take i cs) → length (get_or cs i []) ≡ 31
    → AllByRecursion Is31 (take (i + 1) cs)
each_more cs i lt each size = subst (AllByRecursion Is31) (sym (take_more cs i [] lt)) (each-push (take i cs) (get_or cs i []) each size)

-- a journal that is compacted to these contents
pub record Compacts (j : State) (cs ds : List (List ℕ)) (o : Option Held) : Type 0 where
  pub is : HasContents j cs o
  pub each : AllByRecursion Is31 ds
  pub few : length ds ≤ most_records

module _ {j : State} {cs ds : List (List ℕ)} {o : Option Held} (c : Compacts j cs ds o) (p : Option Held) where
  rests : (held : Held) → IsFile j.kind j.number j.start cs held → Rests j.kind j.number j.start cs ds held
  rests held file = record { file = file; each = c.each; few = c.few }

  abbrev area : ℕ
  area = other_area j.start

  at_found : {held : Held} → Rests j.kind j.number j.start cs ds held → (calls : ℕ) (image : List ℕ)
      → MayFind (compact_after calls area (spelled_area ds) held) image → IsOldOrNew j.kind j.number cs ds image
  at_found {held} r calls image (inl read) =
      at_any r calls image (subst (λ (l : List ℕ). MayLeave (compact_after calls area (spelled_area ds) held) l) (sym read) (as_read r calls))
  at_found r calls image (inr left) = at_any r calls image left

  pub crash_after : (calls : ℕ) → p ≡ option_map (compact_after calls area (spelled_area ds)) o → FindsOldOrNew j cs ds p
  crash_after calls made =
      on_map (compact_after calls area (spelled_area ds)) o p (IsFile j.kind j.number j.start cs)
      (λ (h : Held). (image : List ℕ) → MayFind h image → IsOldOrNew j.kind j.number cs ds image)
      made (λ held file image found. at_found (rests held file) calls image found) c.is.file

  pub crash_stopped : IsHalfCompacted area (spelled_area ds) o p → FindsOldOrNew j cs ds p
  crash_stopped (inl first) = crash_after 1 first
  crash_stopped (inr second) = crash_after 3 second

  pub has_new : p ≡ option_map (compact_after 4 area (spelled_area ds)) o → HasContents (compacted (length ds) j) ds p
  has_new made = record {
    count = refl;
    file = on_map (compact_after 4 area (spelled_area ds)) o p (IsFile j.kind j.number j.start cs) (IsFile j.kind j.number area ds)
        made (λ held file. goes_on (rests held file)) c.is.file;
  }

-- the calls on a disk on which room was made
pub made_at : (calls : ℕ) {start other : ℕ} {piece bytes : List ℕ} {o q p : Option Held} → start ≡ other → piece ≡ bytes → q ≡ o
    → p ≡ option_map (compact_after calls start piece) q → p ≡ option_map (compact_after calls other bytes) o
made_at calls {start} {other} {piece} {bytes} {o} {q} {p} at is same made =
    made ∙ ap (option_map (compact_after calls start piece)) same ∙ ap (λ (l : List ℕ). option_map (compact_after calls start l) o) is
    ∙ ap (λ (n : ℕ). option_map (compact_after calls n bytes) o) at

pub half_at : {start other : ℕ} {piece bytes : List ℕ} {o q p : Option Held} → start ≡ other → piece ≡ bytes → q ≡ o
    → IsHalfCompacted start piece q p → IsHalfCompacted other bytes o p
half_at at is same (inl first) = inl (made_at 1 at is same first)
half_at at is same (inr second) = inr (made_at 3 at is same second)

-- a disk that tells what it holds goes on telling
pub half_some : (area : ℕ) (piece : List ℕ) (o p : Option Held) → IsHalfCompacted area piece o p → is_some p ≡ is_some o
half_some area piece o p (inl first) = map_some (compact_after 1 area piece) o p first
half_some area piece o p (inr second) = map_some (compact_after 3 area piece) o p second

-- how long an area is, and where it begins
pub area_size : (ds : List (List ℕ)) → AllByRecursion Is31 ds → length (spelled_area ds) ≡ 32 * length ds + 1
area_size ds each = let a = length-spelled ds each in let b = length-append (spelled ds) (closed_gate ∷ []) in omega arith

other_by : (b : Bool) → cond b second_area first_area ≤ second_area
other_by true = omega arith
other_by false = let s = second_is in omega arith

pub other_small : (start : ℕ) → other_area start ≤ second_area
other_small start = other_by (nat_eq start 32)

-- a file that isn't written opens with the contents from before
pub finds_same : (j : State) (cs ds : List (List ℕ)) (o p : Option Held) → p ≡ o → HasContents j cs o → FindsOldOrNew j cs ds p
finds_same j cs ds o p same is = subst (FindsOldOrNew j cs ds) (sym same) (old o (finds_contents j cs o is))
  where
    old : (q : Option Held) → IfSome q (λ file. (image : List ℕ) → MayFind file image → opens j.kind j.number image ≡ Ok cs) → FindsOldOrNew j cs ds q
    old None all = tt
    old (Some held) all = λ image found. inl (all image found)
