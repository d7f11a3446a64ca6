-- The laws of a commit's calls.
use Rattle.std.proofs.Common.{subst, ◌≡◌, ◌⊎◌, inl, inr, ℕ, zero, suc, ◌+◌, ◌<◌, ◌≤◌, false, List, [], ◌∷◌, ◌++◌, length, drop, refl, sym, ◌∙◌, ap, arith, append_assoc}
use Rattle.std.specs.Prelude.{Ok}
use Rattle.disk_core.specs.Disk.{Held, MayLeave, durable, wrote, overwritten}
use Rattle.disk_core.proofs.Torn.{only_synced, crashable_durable, crashable_wrote}
use Rattle.checkpoint_journal.specs.Format.{is_open, closed_gate, most_records, gate_place, spelled, opens, IsBeforeOrAfter}
use Rattle.checkpoint_journal.specs.Commit.{commit_after, IsFile}
use Rattle.checkpoint_journal.specs.Laws.{IsCut, CutIsBeforeOrAfter, CutIsBefore, CutIsAfter}
use Rattle.checkpoint_journal.proofs.Parts.{Parts}
use Rattle.checkpoint_journal.proofs.Fronts.{Opened, opened}
use Rattle.checkpoint_journal.proofs.Writes as writes

shut_gate : (most : ℕ) (cs : List (List ℕ)) (bytes : List ℕ) (p : Parts most cs bytes) → length cs < most → is_open p.gate ≡ false
shut_gate most cs bytes p lt = closed_or p.stop
  where
    closed_or : (is_open p.gate ≡ false) ⊎ (length cs ≡ most) → is_open p.gate ≡ false
    closed_or (inl shut) = shut
    closed_or (inr full) = absurd (omega arith)

-- a journal with room for this content
pub record Ready (kind number start : ℕ) (cs : List (List ℕ)) (content : List ℕ) (held : Held) : Type 0 where
  pub file : IsFile kind number start cs held
  pub room : length cs < most_records
  pub size : length content ≡ 31

module _ {kind number start : ℕ} {cs : List (List ℕ)} {content : List ℕ} {held : Held} (ready : Ready kind number start cs content held) where
  abbrev is : IsFile kind number start cs held
  is = ready.file

  abbrev size : length content ≡ 31
  size = ready.size

  abbrev o : Opened kind number start cs held.bytes
  o = opened kind number start cs held.bytes is.area is.made is.opened

  abbrev r : writes.Roomy kind number start cs
  r = record { front = o.front; is_front = o.is_front; each = o.area.each; few = ready.room }

  -- what stands behind the gate of the new record and its content
  abbrev tail : List ℕ
  tail = drop 32 o.area.tail

  abbrev place : ℕ
  place = gate_place start (length cs)

  abbrev piece : List ℕ
  piece = content ++ closed_gate ∷ []

  shut : is_open o.area.gate ≡ false
  shut = shut_gate most_records cs o.more o.area ready.room

  -- the file at rest, and once the content is behind the gate, in their parts
  abbrev rest_bytes : List ℕ
  rest_bytes = (o.front ++ spelled cs) ++ o.area.gate ∷ o.area.tail

  abbrev staged_bytes : ℕ → List ℕ
  staged_bytes gate = (o.front ++ spelled cs) ++ gate ∷ (content ++ closed_gate ∷ tail)

  rest_split : held.bytes ≡ rest_bytes
  rest_split = o.split ∙ ap (λ (l : List ℕ). o.front ++ l) o.area.split ∙ sym (append_assoc o.front (spelled cs) (o.area.gate ∷ o.area.tail))

  rest_is : held ≡ durable rest_bytes
  rest_is = is.synced ∙ ap durable rest_split

  staged_split : overwritten (place + 1) piece held.bytes ≡ staged_bytes o.area.gate
  staged_split = ap (overwritten (place + 1) piece) rest_split ∙ writes.stage_done r o.area.gate content o.area.tail size

  committed_split : overwritten place (79 ∷ []) (overwritten (place + 1) piece held.bytes) ≡ staged_bytes 79
  committed_split = ap (overwritten place (79 ∷ [])) staged_split ∙ writes.gate_done r o.area.gate content tail

  before_first : (image : List ℕ) → MayLeave (commit_after 0 place content held) image → opens kind number image ≡ Ok cs
  before_first image left = ap (opens kind number) (only_synced held.bytes image (subst (λ (h : Held). MayLeave h image) is.synced left)) ∙ is.opened

  in_first : (image : List ℕ) → MayLeave (commit_after 1 place content held) image → opens kind number image ≡ Ok cs
  in_first image left =
      writes.stage_torn r o.area.gate o.area.tail piece image shut
      (subst (λ (h : Held). MayLeave (wrote (place + 1) piece h) image) rest_is left)

  between : (image : List ℕ) → MayLeave (commit_after 2 place content held) image → opens kind number image ≡ Ok cs
  between image left =
      ap (opens kind number) (only_synced (overwritten (place + 1) piece held.bytes) image left ∙ staged_split)
      ∙ writes.stage_opens r o.area.gate content tail shut

  pub in_second : (image : List ℕ) → MayLeave (commit_after 3 place content held) image → IsBeforeOrAfter kind number cs content image
  in_second image left =
      writes.gate_torn r o.area.gate content tail image size
      (subst (λ (l : List ℕ). MayLeave (wrote place (79 ∷ []) (durable l)) image) staged_split left)

  pub goes_on : IsFile kind number start (cs ++ content ∷ []) (commit_after 4 place content held)
  goes_on =
      subst (λ (l : List ℕ). IsFile kind number start (cs ++ content ∷ []) (durable l)) (sym committed_split)
      (writes.open_file r content tail size)

  pub at_last : (image : List ℕ) → MayLeave (commit_after 4 place content held) image → opens kind number image ≡ Ok (cs ++ content ∷ [])
  at_last image left =
      ap (opens kind number) (only_synced (overwritten place (79 ∷ []) (overwritten (place + 1) piece held.bytes)) image left) ∙ goes_on.opened

  past : (n : ℕ) → commit_after (suc (suc (suc (suc n)))) place content held ≡ commit_after 4 place content held
  past zero = refl
  past (suc n) = refl

  at_past : (n : ℕ) (image : List ℕ) → MayLeave (commit_after (suc (suc (suc (suc n)))) place content held) image
      → opens kind number image ≡ Ok (cs ++ content ∷ [])
  at_past n image left = at_last image (subst (λ (h : Held). MayLeave h image) (past n) left)

  -- what a read gives is among what a crash may leave
  pub as_read : (calls : ℕ) → MayLeave (commit_after calls place content held) (commit_after calls place content held).bytes
  as_read zero = subst (λ (h : Held). MayLeave h h.bytes) (sym is.synced) (crashable_durable held.bytes).read
  as_read (suc zero) =
      subst (λ (h : Held). MayLeave (wrote (place + 1) piece h) (wrote (place + 1) piece h).bytes) (sym is.synced)
      (crashable_wrote (place + 1) piece (durable held.bytes) (crashable_durable held.bytes)).read
  as_read (suc (suc zero)) = (crashable_durable (overwritten (place + 1) piece held.bytes)).read
  as_read (suc (suc (suc zero))) =
      let staged = overwritten (place + 1) piece held.bytes in
      (crashable_wrote place (79 ∷ []) (durable staged) (crashable_durable staged)).read
  as_read (suc (suc (suc (suc n)))) =
      subst (λ (h : Held). MayLeave h h.bytes) (sym (past n))
      (crashable_durable (overwritten place (79 ∷ []) (overwritten (place + 1) piece held.bytes))).read

  pub at_first : (calls : ℕ) (image : List ℕ) → calls ≤ 2 → MayLeave (commit_after calls place content held) image
      → opens kind number image ≡ Ok cs
  at_first zero image le left = before_first image left
  at_first (suc zero) image le left = in_first image left
  at_first (suc (suc zero)) image le left = between image left
  at_first (suc (suc (suc n))) image le left = absurd (omega arith)

  pub at_any : (calls : ℕ) (image : List ℕ) → MayLeave (commit_after calls place content held) image → IsBeforeOrAfter kind number cs content image
  at_any zero image left = inl (before_first image left)
  at_any (suc zero) image left = inl (in_first image left)
  at_any (suc (suc zero)) image left = inl (between image left)
  at_any (suc (suc (suc zero))) image left = in_second image left
  at_any (suc (suc (suc (suc n)))) image left = inr (at_past n image left)

  pub at_end : (calls : ℕ) (image : List ℕ) → 4 ≤ calls → MayLeave (commit_after calls place content held) image
      → opens kind number image ≡ Ok (cs ++ content ∷ [])
  at_end zero image le left = absurd (omega arith)
  at_end (suc zero) image le left = absurd (omega arith)
  at_end (suc (suc zero)) image le left = absurd (omega arith)
  at_end (suc (suc (suc zero))) image le left = absurd (omega arith)
  at_end (suc (suc (suc (suc n)))) image le left = at_past n image left

module _ {kind number : ℕ} {cs : List (List ℕ)} {content : List ℕ} {calls : ℕ} {image : List ℕ} (cut : IsCut kind number cs content calls image) where
  ready_of : Ready kind number cut.start cs content cut.held
  ready_of = record { file = cut.file; room = cut.room; size = cut.size }

pub cut_is_either : CutIsBeforeOrAfter
cut_is_either kind number cs content calls image cut = at_any (ready_of cut) calls image cut.left

pub cut_is_before : CutIsBefore
cut_is_before kind number cs content calls image le cut = at_first (ready_of cut) calls image le cut.left

pub cut_is_after : CutIsAfter
cut_is_after kind number cs content calls image le cut = at_end (ready_of cut) calls image le cut.left
