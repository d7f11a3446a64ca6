-- A journal in its parts: all before the area in use, the records, the gate behind them, and the rest.
use Rattle.std.proofs.Common.{◌≡◌, ℕ, ◌+◌, ◌<◌, ◌≤◌, Bool, true, false, cond, List, [], ◌∷◌, ◌++◌, length, take, drop, get_or, Option, Some, None, refl, sym, ◌∙◌, ap, arith, length-append, length-take, length-drop, take-append-drop}
use Rattle.std.specs.Prelude.{Ok, Err, nat_lt, nat_eq}
use Rattle.std.proofs.lemmas.List.{drop_at, drop-append-le, get_or_append_left}
use Rattle.checkpoint_journal.specs.Format.{is_open, header, differs, records, most_records, first_area, second_area, spelled, is_made, start_of, told, checked, area_of, opens}
use Rattle.checkpoint_journal.proofs.Parts.{Parts, parts, second_is}

-- all before the area in use
pub record IsFront (kind number start : ℕ) (front : List ℕ) : Type 0 where
  pub size : length front ≡ start
  pub long : 32 ≤ start
  pub made : is_made front ≡ true
  pub same : differs 1 (header kind number) (drop 1 front) ≡ None
  pub area : start_of front ≡ start

differs-append : (at : ℕ) (wants xs ys : List ℕ) → length wants ≤ length xs → differs at wants (xs ++ ys) ≡ differs at wants xs
differs-append at [] xs ys le = refl
differs-append at (w ∷ wants) [] ys le = absurd (omega arith)
differs-append at (w ∷ wants) (x ∷ xs) ys le = ap (λ (o : Option ℕ). cond (nat_eq x w) o (Some at)) (differs-append (at + 1) wants xs ys (omega arith))

pub made-append : (front more : List ℕ) → 0 < length front → is_made (front ++ more) ≡ is_made front
made-append [] more lt = absurd (omega arith)
made-append (x ∷ front) more lt = refl

pub same-append : (kind number : ℕ) (front more : List ℕ) → 31 ≤ length front
    → differs 1 (header kind number) (drop 1 (front ++ more)) ≡ differs 1 (header kind number) (drop 1 front)
same-append kind number front more long =
    let back : drop 1 (front ++ more) ≡ drop 1 front ++ more = drop-append-le 1 front more (omega arith) in
    ap (differs 1 (header kind number)) back ∙ differs-append 1 (header kind number) (drop 1 front) more (let l = length-drop 1 front in omega arith)

pub start-append : (front more : List ℕ) → 32 ≤ length front → start_of (front ++ more) ≡ start_of front
start-append front more long = ap (λ (byte : ℕ). cond (is_open byte) second_area first_area) (get_or_append_left front more 0 31 (omega arith))

start_by : (b : Bool) → 32 ≤ cond b second_area first_area
start_by true = let s = second_is in omega arith
start_by false = omega arith

pub start_long : (file : List ℕ) → 32 ≤ start_of file
start_long file = start_by (is_open (get_or file 31 0))

pub checked_by : (kind number : ℕ) (file : List ℕ) → is_made file ≡ true
    → opens kind number file ≡ checked file (differs 1 (header kind number) (drop 1 file))
unfolding opens
checked_by kind number file made =
    ap (λ b. cond b (checked file (differs 1 (header kind number) (drop 1 file))) (cond (nat_lt 33 (length file)) (Err 0) (Ok []))) made

-- a front and an area that is read
pub opens_parts : (kind number start : ℕ) (front more : List ℕ) (cs : List (List ℕ)) → IsFront kind number start front
    → records most_records more ≡ Some cs
    → opens kind number (front ++ more) ≡ Ok cs
opens_parts kind number start front more cs is found =
    let file = front ++ more in
    let long : 32 ≤ length front = let s = is.size in let l = is.long in omega arith in
    checked_by kind number file (made-append front more (omega arith) ∙ is.made)
    ∙ ap (checked file) (same-append kind number front more (omega arith) ∙ is.same)
    ∙ ap (λ (n : ℕ). area_of n file) (start-append front more long ∙ is.area)
    ∙ ap (λ (l : List ℕ). told file (records most_records l)) (drop_at front more start is.size)
    ∙ ap (told file) found

told_ok : (file : List ℕ) (found : Option (List (List ℕ))) (cs : List (List ℕ)) → told file found ≡ Ok cs → found ≡ Some cs
told_ok file None cs h = absurd cc
told_ok file (Some ds) cs h = let same : ds ≡ cs = cc in ap (λ x. Some x) same

checked_ok : (file : List ℕ) (place : Option ℕ) (cs : List (List ℕ)) → checked file place ≡ Ok cs
    → (place ≡ None) × (records most_records (drop (start_of file) file) ≡ Some cs)
checked_ok file (Some at) cs h = absurd cc
checked_ok file None cs h = (refl, told_ok file (records most_records (drop (start_of file) file)) cs h)

-- what opens as a journal that was made has these parts
pub record Opened (kind number start : ℕ) (cs : List (List ℕ)) (file : List ℕ) : Type 0 where
  pub front : List ℕ
  pub more : List ℕ
  pub split : file ≡ front ++ more
  pub is_front : IsFront kind number start front
  pub area : Parts most_records cs more

opened_at : (kind number start : ℕ) (cs : List (List ℕ)) (file : List ℕ) → start_of file ≡ start → is_made file ≡ true
    → differs 1 (header kind number) (drop 1 file) ≡ None
    → records most_records (drop start file) ≡ Some cs → Opened kind number start cs file
opened_at kind number start cs file begins made same read =
    let area = parts most_records (drop start file) cs read in
    let least = start_long file in
    let far : start < length file =
    let l = ap length area.split in let m = length-append (spelled cs) (area.gate ∷ area.tail) in let n = length-drop start file in omega arith in
    let size : length (take start file) ≡ start = let l = length-take start file in omega arith in
    let whole : file ≡ take start file ++ drop start file = sym (take-append-drop start file) in
    let long : 32 ≤ length (take start file) = omega arith in
    record {
      front = take start file;
      more = drop start file;
      split = whole;
      is_front = record {
        size = size;
        long = omega arith;
        made = sym (made-append (take start file) (drop start file) (omega arith)) ∙ ap is_made (sym whole) ∙ made;
        same = sym (same-append kind number (take start file) (drop start file) (omega arith))
            ∙ ap (λ (l : List ℕ). differs 1 (header kind number) (drop 1 l)) (sym whole) ∙ same;
        area = sym (start-append (take start file) (drop start file) long) ∙ ap start_of (sym whole) ∙ begins;
      };
      area = area;
    }

pub opened : (kind number start : ℕ) (cs : List (List ℕ)) (file : List ℕ) → start_of file ≡ start → is_made file ≡ true → opens kind number file ≡ Ok cs
    → Opened kind number start cs file
opened kind number start cs file begins made h =
    let read = checked_ok file (differs 1 (header kind number) (drop 1 file)) cs (sym (checked_by kind number file made) ∙ h) in
    opened_at kind number start cs file begins made read.0 (ap (λ (n : ℕ). records most_records (drop n file)) (sym begins) ∙ read.1)
