-- The first bytes of a journal, as they are made and as they are read.
use Rattle.std.proofs.Common.{sym, append_assoc, ◌≡◌, ◌≢◌, ◌⊎◌, inl, inr, ℕ, zero, suc, ◌+◌, ◌-◌, ◌<◌, ◌≤◌, false, cond, List, [], ◌∷◌, ◌++◌, length, take, drop, get_or, Option, Some, None, refl, ◌∙◌, ap, arith, length-take, eq-eqb}
use Rattle.std.specs.Prelude.{Result, Ok, Err, nat_lt, nat_eq, replicate}
use Rattle.std.proofs.lemmas.List.{drop_all, drop_more, append-nil, get_or-take}
use Rattle.std.proofs.lemmas.Bool.{cases_lt}
use Rattle.std.proofs.lemmas.Bool.Decides.{nat_tests}
use Rattle.disk_core.specs.Disk.{durable, overwritten}
use Rattle.checkpoint_journal.specs.Format.{is_open, first_area, second_area, closed_gate, header, differs, start_of, opens, head_of, head_told, most_records, gate_place, spelled, spelling}
use Rattle.checkpoint_journal.specs.Commit.{IsFile}
use Rattle.checkpoint_journal.specs.Laws.{SpellingOpens, CommitSpellsOneMore}
use Rattle.checkpoint_journal.proofs.Parts.{read_parts}
use Rattle.checkpoint_journal.proofs.Fronts.{IsFront, opens_parts}
use Rattle.checkpoint_journal.proofs.Writes as writes

-- where both lists go on
both_more : (at i : ℕ) (wants bytes : List ℕ) → i < length wants → i < length bytes
    → differs at (drop i wants) (drop i bytes) ≡ differs at (get_or wants i 0 ∷ drop (i + 1) wants) (get_or bytes i 0 ∷ drop (i + 1) bytes)
both_more at i wants bytes lt more =
    ap (λ (l : List ℕ). differs at l (drop i bytes)) (drop_more wants i 0 lt)
    ∙ ap (λ (l : List ℕ). differs at (get_or wants i 0 ∷ drop (i + 1) wants) l) (drop_more bytes i 0 more)

-- where a byte is missing
differs_short : (at i : ℕ) (wants bytes : List ℕ) → i < length wants → length bytes ≤ i → differs at (drop i wants) (drop i bytes) ≡ Some at
differs_short at i wants bytes lt short =
    ap (λ (l : List ℕ). differs at l (drop i bytes)) (drop_more wants i 0 lt)
    ∙ ap (λ (l : List ℕ). differs at (get_or wants i 0 ∷ drop (i + 1) wants) l) (drop_all i bytes short)

-- a place that differs
pub differs_here : (at i : ℕ) (wants bytes : List ℕ) → i < length wants → (length bytes ≤ i) ⊎ (get_or bytes i 0 ≢ get_or wants i 0)
    → differs at (drop i wants) (drop i bytes) ≡ Some at
differs_here at i wants bytes lt (inl short) = differs_short at i wants bytes lt short
differs_here at i wants bytes lt (inr other) = elim (cases_lt i (length bytes)) [
  | inr short ↦ differs_short at i wants bytes lt short
  | inl more ↦
      let no : nat_eq (get_or bytes i 0) (get_or wants i 0) ≡ false = grind (arith, nat_tests) in
      both_more at i wants bytes lt more ∙ ap (λ b. cond b (differs (at + 1) (drop (i + 1) wants) (drop (i + 1) bytes)) (Some at)) no
]

pub differs_next : (at i : ℕ) (wants bytes : List ℕ) → i < length wants → i < length bytes → get_or bytes i 0 ≡ get_or wants i 0
    → differs at (drop i wants) (drop i bytes) ≡ differs (at + 1) (drop (i + 1) wants) (drop (i + 1) bytes)
differs_next at i wants bytes lt more same =
    both_more at i wants bytes lt more
    ∙ ap (λ b. cond b (differs (at + 1) (drop (i + 1) wants) (drop (i + 1) bytes)) (Some at)) (eq-eqb _ _ same)

pub differs_none : (at i : ℕ) (wants bytes : List ℕ) → length wants ≤ i → differs at (drop i wants) (drop i bytes) ≡ None
differs_none at i wants bytes le = ap (λ (l : List ℕ). differs at l (drop i bytes)) (drop_all i wants le)

differs_self : (at : ℕ) (wants rest : List ℕ) → differs at wants (wants ++ rest) ≡ None
differs_self at [] rest = refl
differs_self at (w ∷ wants) rest = ap (λ b. cond b (differs (at + 1) wants (wants ++ rest)) (Some at)) (eq-eqb w w refl) ∙ differs_self (at + 1) wants rest

differs-take : (at m : ℕ) (wants bytes : List ℕ) → length wants ≤ m → differs at wants (take m bytes) ≡ differs at wants bytes
differs-take at m [] bytes le = refl
differs-take at zero (w ∷ wants) bytes le = absurd (omega arith)
differs-take at (suc m) (w ∷ wants) [] le = refl
differs-take at (suc m) (w ∷ wants) (b ∷ bytes) le = ap (λ (o : Option ℕ). cond (nat_eq b w) o (Some at)) (differs-take (at + 1) m wants bytes (omega arith))

long_take : (rest : List ℕ) → nat_lt 33 (length (take 34 rest)) ≡ nat_lt 33 (length rest)
long_take rest = let l = length-take 34 rest in grind (arith, nat_tests)

start_take : (file : List ℕ) → start_of (take 34 file) ≡ start_of file
start_take file = ap (λ (byte : ℕ). cond (is_open byte) second_area first_area) (get_or-take 34 file 31 0 (omega arith))

told_take : (gate : ℕ) (rest : List ℕ) (o : Option ℕ) → head_told (take 34 (gate ∷ rest)) o ≡ head_told (gate ∷ rest) o
told_take gate rest None = ap (λ (n : ℕ). Ok (Some n)) (start_take (gate ∷ rest))
told_take gate rest (Some at) = refl

-- 34 bytes tell what a file is
pub head_of-take : (kind number : ℕ) (file : List ℕ) → head_of kind number (take 34 file) ≡ head_of kind number file
head_of-take kind number [] = refl
head_of-take kind number (gate ∷ rest) =
    ap (λ (o : Option ℕ). cond (is_open gate) (head_told (take 34 (gate ∷ rest)) o) (cond (nat_lt 33 (length (take 34 (gate ∷ rest)))) (Err 0) (Ok None)))
    (differs-take 1 33 (header kind number) rest (omega arith))
    ∙ ap (λ (r : Result (Option ℕ) ℕ). cond (is_open gate) r (cond (nat_lt 33 (length (take 34 (gate ∷ rest)))) (Err 0) (Ok None)))
    (told_take gate rest (differs 1 (header kind number) rest))
    ∙ ap (λ b. cond (is_open gate) (head_told (gate ∷ rest) (differs 1 (header kind number) rest)) (cond b (Err 0) (Ok None))) (long_take (gate ∷ rest))

-- one byte, of which nothing is known, and the piece
pub record Behind (piece bytes : List ℕ) : Type 0 where
  pub first : ℕ
  pub split : bytes ≡ first ∷ piece

no_gap : (k : ℕ) → k ≡ 0 → replicate {A = ℕ} k 0 ≡ []
no_gap k is = ap (λ (n : ℕ). replicate {A = ℕ} n 0) is

first_write : (piece old : List ℕ) → length piece ≡ 32 → length old ≤ 33 → Behind piece (overwritten 1 piece old)
first_write piece [] size short = record {
  first = 0;
  split = ap (λ (l : List ℕ). 0 ∷ (piece ++ l)) (drop_all (1 + length piece) [] (omega arith)) ∙ ap (λ (l : List ℕ). 0 ∷ l) (append-nil piece);
}
first_write piece (b ∷ rest) size short = record {
  first = b;
  split = ap (λ (l : List ℕ). b ∷ (l ++ (piece ++ drop (1 + length piece) (b ∷ rest)))) (no_gap (1 - length (b ∷ rest)) (omega arith))
      ∙ ap (λ (l : List ℕ). b ∷ (piece ++ l)) (drop_all (1 + length piece) (b ∷ rest) (omega arith)) ∙ ap (λ (l : List ℕ). b ∷ l) (append-nil piece);
}

both_writes : (piece old : List ℕ) → length piece ≡ 32 → length old ≤ 33 → overwritten 0 (79 ∷ []) (overwritten 1 piece old) ≡ 79 ∷ piece
both_writes piece old size short =
    let mid = first_write piece old size short in
    ap (overwritten 0 (79 ∷ [])) mid.split ∙ writes.written_behind [] (mid.first ∷ piece) (79 ∷ []) 0 refl

-- both writes of a new journal spell one with no contents
pub made_new : (kind number : ℕ) (piece old : List ℕ) → piece ≡ header kind number ++ closed_gate ∷ closed_gate ∷ [] → length old ≤ 33
    → overwritten 0 (79 ∷ []) (overwritten 1 piece old) ≡ spelling kind number []
made_new kind number piece old is short =
    let size : length piece ≡ 32 = ap length is in
    both_writes piece old size short ∙ ap (λ (l : List ℕ). 79 ∷ l) is

-- ---- what is spelled

abbrev spelled_front : ℕ → ℕ → List ℕ
spelled_front kind number = 79 ∷ (header kind number ++ closed_gate ∷ [])

spelled_is_front : (kind number : ℕ) → IsFront kind number 32 (spelled_front kind number)
spelled_is_front kind number = record { size = refl; long = omega arith; made = refl; same = differs_self 1 (header kind number) (closed_gate ∷ []); area = refl }

pub spelling_opens : SpellingOpens
spelling_opens kind number cs tail each few =
    ap (λ (l : List ℕ). opens kind number (spelled_front kind number ++ l)) (append_assoc (spelled cs) (closed_gate ∷ []) tail)
    ∙ opens_parts kind number 32 (spelled_front kind number) (spelled cs ++ closed_gate ∷ tail) cs (spelled_is_front kind number)
    (read_parts most_records cs closed_gate tail each few (inl refl))

-- a journal that was made new
pub new_file : (kind number : ℕ) → IsFile kind number 32 [] (durable (spelling kind number []))
new_file kind number = record {
  synced = refl;
  made = refl;
  area = refl;
  opened = opens_parts kind number 32 (spelled_front kind number) (closed_gate ∷ []) [] (spelled_is_front kind number)
      (read_parts most_records [] closed_gate [] tt (omega arith) (inl refl));
}

pub commit_spells : CommitSpellsOneMore
commit_spells kind number cs content each few size =
    let front = spelled_front kind number in
    let r : writes.Roomy kind number 32 cs = record { front = front; is_front = spelled_is_front kind number; each = each; few = few } in
    let place = gate_place first_area (length cs) in
    let piece = content ++ closed_gate ∷ [] in
    ap (λ (l : List ℕ). durable (overwritten place (79 ∷ []) (overwritten (place + 1) piece l))) (sym (append_assoc front (spelled cs) (closed_gate ∷ [])))
    ∙ ap (λ (l : List ℕ). durable (overwritten place (79 ∷ []) l)) (writes.stage_done r closed_gate content [] size)
    ∙ ap durable (writes.gate_done r closed_gate content [])
    ∙ ap durable (append_assoc front (spelled cs) (79 ∷ (content ++ closed_gate ∷ [])))
    ∙ ap (λ (l : List ℕ). durable (front ++ l)) (sym (writes.spelled-push cs content (closed_gate ∷ [])))
