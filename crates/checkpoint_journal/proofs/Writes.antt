-- What each write of a commit leaves, done or cut short.
use Rattle.std.proofs.Common.{subst, ◌≡◌, inl, inr, ℕ, ◌+◌, ◌-◌, ◌<◌, ◌≤◌, false, List, [], ◌∷◌, ◌++◌, length, drop, refl, sym, ◌∙◌, ap, arith, append_assoc, length-append}
use Rattle.std.specs.Prelude.{Ok, replicate}
use Rattle.std.specs.List.{AllByRecursion}
use Rattle.std.proofs.lemmas.List.{take_at, drop_at, drop-drop}
use Rattle.std.proofs.lemmas.Bool.{cases_eq}
use Rattle.std.proofs.lemmas.Bool.Decides.{nat_tests}
use Rattle.disk_core.specs.Disk.{MayLeave, durable, wrote, overwritten}
use Rattle.disk_core.proofs.Torn.{torn_behind, torn_within}
use Rattle.checkpoint_journal.specs.Format.{is_open, closed_gate, most_records, gate_place, spelled, is_made, start_of, opens, IsBeforeOrAfter}
use Rattle.checkpoint_journal.specs.Commit.{IsFile}
use Rattle.checkpoint_journal.specs.Laws.{Is31}
use Rattle.checkpoint_journal.proofs.Parts.{read_parts, length-spelled}
use Rattle.checkpoint_journal.proofs.Fronts.{IsFront, opens_parts, made-append, start-append}

no_gap : (k : ℕ) → k ≡ 0 → replicate {A = ℕ} k 0 ≡ []
no_gap k is = ap (λ (n : ℕ). replicate {A = ℕ} n 0) is

-- a write behind a front
pub written_behind : (front tail piece : List ℕ) (at : ℕ) → length front ≡ at
    → overwritten at piece (front ++ tail) ≡ front ++ (piece ++ drop (length piece) tail)
written_behind front tail piece at is =
    let old = front ++ tail in
    let gap : replicate {A = ℕ} (at - length old) 0 ≡ [] = no_gap (at - length old) (let l = length-append front tail in omega arith) in
    let back : drop (at + length piece) old ≡ drop (length piece) tail =
    sym (drop-drop (length piece) at old) ∙ ap (λ (l : List ℕ). drop (length piece) l) (drop_at front tail at is) in
    ap (λ (l : List ℕ). l ++ (replicate (at - length old) 0 ++ (piece ++ drop (at + length piece) old))) (take_at front tail at is)
    ∙ ap (λ (l : List ℕ). front ++ (l ++ (piece ++ drop (at + length piece) old))) gap
    ∙ ap (λ (l : List ℕ). front ++ (piece ++ l)) back

pub spelled-push : (cs : List (List ℕ)) (c rest : List ℕ) → spelled (cs ++ c ∷ []) ++ rest ≡ spelled cs ++ 79 ∷ (c ++ rest)
spelled-push [] c rest = ap (λ (l : List ℕ). 79 ∷ l) (append_assoc c [] rest)
spelled-push (d ∷ cs) c rest =
    ap (λ (l : List ℕ). 79 ∷ l)
    (append_assoc d (spelled (cs ++ c ∷ [])) rest ∙ ap (λ (l : List ℕ). d ++ l) (spelled-push cs c rest)
    ∙ sym (append_assoc d (spelled cs) (79 ∷ (c ++ rest))))

pub each-push : (cs : List (List ℕ)) (c : List ℕ) → AllByRecursion Is31 cs → length c ≡ 31 → AllByRecursion Is31 (cs ++ c ∷ [])
each-push [] c all is = (is, tt)
each-push (d ∷ cs) c all is = (all.0, each-push cs c all.1 is)

-- one byte
pub one_byte : (l : List ℕ) → length l ≡ 1 → (byte : ℕ) × (l ≡ byte ∷ [])
one_byte [] is = absurd (omega arith)
one_byte (byte ∷ []) is = (byte, refl)
one_byte (byte ∷ other ∷ l) is = absurd (omega arith)

-- a journal with room for one record more: all before its area, and its contents
pub record Roomy (kind number start : ℕ) (cs : List (List ℕ)) : Type 0 where
  pub front : List ℕ
  pub is_front : IsFront kind number start front
  pub each : AllByRecursion Is31 cs
  pub few : length cs < most_records

module _ {kind number start : ℕ} {cs : List (List ℕ)} (r : Roomy kind number start cs) where
  abbrev place : ℕ
  place = gate_place start (length cs)

  -- all before the gate behind the last record
  abbrev before : List ℕ
  before = r.front ++ spelled cs

  before_size : length before ≡ place
  before_size = let a = r.is_front.size in let b = length-spelled cs r.each in let c = length-append r.front (spelled cs) in omega arith

  -- with any gate, and whatever stands behind it
  abbrev at_rest : ℕ → List ℕ → List ℕ
  at_rest gate tail = before ++ gate ∷ tail

  rest_opens : (gate : ℕ) (tail : List ℕ) → is_open gate ≡ false → opens kind number (at_rest gate tail) ≡ Ok cs
  rest_opens gate tail shut =
      ap (opens kind number) (append_assoc r.front (spelled cs) (gate ∷ tail))
      ∙ opens_parts kind number start r.front (spelled cs ++ gate ∷ tail) cs r.is_front
      (read_parts most_records cs gate tail r.each (let few = r.few in omega arith) (inl shut))

  -- with a record behind the gate, and a closed gate behind that
  abbrev staged : ℕ → List ℕ → List ℕ → List ℕ
  staged gate content tail = at_rest gate (content ++ closed_gate ∷ tail)

  pub open_opens : (content tail : List ℕ) → length content ≡ 31 → opens kind number (staged 79 content tail) ≡ Ok (cs ++ content ∷ [])
  open_opens content tail size =
      let rest = closed_gate ∷ tail in
      ap (opens kind number) (append_assoc r.front (spelled cs) (79 ∷ (content ++ rest))
      ∙ ap (λ (l : List ℕ). r.front ++ l) (sym (spelled-push cs content rest)))
      ∙ opens_parts kind number start r.front (spelled (cs ++ content ∷ []) ++ closed_gate ∷ tail) (cs ++ content ∷ []) r.is_front
      (read_parts most_records (cs ++ content ∷ []) closed_gate tail (each-push cs content r.each size)
      (let l = length-append cs (content ∷ []) in let few = r.few in omega arith)
      (inl refl))

  glue : (gate : ℕ) (tail : List ℕ) → at_rest gate tail ≡ (before ++ gate ∷ []) ++ tail
  glue gate tail = sym (append_assoc before (gate ∷ []) tail)

  front_size : (gate : ℕ) → length (before ++ gate ∷ []) ≡ place + 1
  front_size gate = let a = length-append before (gate ∷ []) in let b = before_size in omega arith

  -- the first write, cut short
  pub stage_torn : (gate : ℕ) (tail piece image : List ℕ) → is_open gate ≡ false → MayLeave (wrote (place + 1) piece (durable (at_rest gate tail))) image
      → opens kind number image ≡ Ok cs
  stage_torn gate tail piece image shut left =
      let behind : MayLeave (wrote (length (before ++ gate ∷ [])) piece (durable ((before ++ gate ∷ []) ++ tail))) image =
      subst (λ (n : ℕ). MayLeave (wrote n piece (durable ((before ++ gate ∷ []) ++ tail))) image) (sym (front_size gate))
      (subst (λ (l : List ℕ). MayLeave (wrote (place + 1) piece (durable l)) image) (glue gate tail) left) in
      let back = torn_behind (before ++ gate ∷ []) tail piece image behind in
      ap (opens kind number) (back.1 ∙ sym (glue gate back.0)) ∙ rest_opens gate back.0 shut

  -- the first write, done
  pub stage_done : (gate : ℕ) (content tail : List ℕ) → length content ≡ 31
      → overwritten (place + 1) (content ++ closed_gate ∷ []) (at_rest gate tail) ≡ staged gate content (drop 32 tail)
  stage_done gate content tail size =
      let long : length (content ++ closed_gate ∷ []) ≡ 32 = let l = length-append content (closed_gate ∷ []) in omega arith in
      ap (overwritten (place + 1) (content ++ closed_gate ∷ [])) (glue gate tail)
      ∙ written_behind (before ++ gate ∷ []) tail (content ++ closed_gate ∷ []) (place + 1) (front_size gate)
      ∙ ap (λ (n : ℕ). (before ++ gate ∷ []) ++ ((content ++ closed_gate ∷ []) ++ drop n tail)) long
      ∙ append_assoc before (gate ∷ []) ((content ++ closed_gate ∷ []) ++ drop 32 tail)
      ∙ ap (λ (l : List ℕ). before ++ gate ∷ l) (append_assoc content (closed_gate ∷ []) (drop 32 tail))

  pub stage_opens : (gate : ℕ) (content tail : List ℕ) → is_open gate ≡ false → opens kind number (staged gate content tail) ≡ Ok cs
  stage_opens gate content tail shut = rest_opens gate (content ++ closed_gate ∷ tail) shut

  -- a record behind any gate counts or it doesn't
  any_gate : (gate : ℕ) (content tail : List ℕ) → length content ≡ 31 → IsBeforeOrAfter kind number cs content (staged gate content tail)
  any_gate gate content tail size = elim (cases_eq gate 79) [
    | inl is ↦ inr (ap (λ (g : ℕ). opens kind number (staged g content tail)) is ∙ open_opens content tail size)
    | inr other ↦ let shut : is_open gate ≡ false = grind (arith, nat_tests) in inl (stage_opens gate content tail shut)
  ]

  -- the second write, cut short
  pub gate_torn : (gate : ℕ) (content tail image : List ℕ) → length content ≡ 31
      → MayLeave (wrote place (79 ∷ []) (durable (staged gate content tail))) image
      → IsBeforeOrAfter kind number cs content image
  gate_torn gate content tail image size left =
      let rest = content ++ closed_gate ∷ tail in
      let within = torn_within before (gate ∷ []) rest (79 ∷ []) image refl
      (subst (λ (n : ℕ). MayLeave (wrote n (79 ∷ []) (durable (staged gate content tail))) image) (sym before_size) left) in
      let byte = one_byte within.0 within.1 in
      let whole : image ≡ staged byte.0 content tail = within.2 ∙ ap (λ (l : List ℕ). before ++ (l ++ rest)) byte.1 in
      subst (IsBeforeOrAfter kind number cs content) (sym whole) (any_gate byte.0 content tail size)

  -- the second write, done
  pub gate_done : (gate : ℕ) (content tail : List ℕ) → overwritten place (79 ∷ []) (staged gate content tail) ≡ staged 79 content tail
  gate_done gate content tail = written_behind before (gate ∷ (content ++ closed_gate ∷ tail)) (79 ∷ []) place before_size

  -- the record is in the file for good
  pub open_file : (content tail : List ℕ) → length content ≡ 31 → IsFile kind number start (cs ++ content ∷ []) (durable (staged 79 content tail))
  open_file content tail size =
      let long : 32 ≤ length r.front = let s = r.is_front.size in let l = r.is_front.long in omega arith in
      let rest = 79 ∷ (content ++ closed_gate ∷ tail) in
      record {
        synced = refl;
        made = ap is_made (append_assoc r.front (spelled cs) rest) ∙ made-append r.front (spelled cs ++ rest) (omega arith) ∙ r.is_front.made;
        area = ap start_of (append_assoc r.front (spelled cs) rest) ∙ start-append r.front (spelled cs ++ rest) long ∙ r.is_front.area;
        opened = open_opens content tail size;
      }
