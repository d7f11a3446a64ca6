-- What each write of a compaction leaves, done or cut short.
use Rattle.std.proofs.Common.{subst, ◌≡◌, ◌⊎◌, inl, inr, ℕ, zero, suc, min, ◌+◌, ◌-◌, ◌*◌, ◌<◌, ◌≤◌, Bool, true, false, cond, List, [], ◌∷◌, ◌++◌, length, take, drop, get_or, refl, sym, ◌∙◌, ap, arith, append_assoc, length-append, length-take, length-drop, take-append-drop}
use Rattle.std.specs.Prelude.{Ok, Some, None, replicate}
use Rattle.std.specs.List.{AllByRecursion}
use Rattle.std.proofs.lemmas.List.{take_at, drop_at, drop-drop, take-take, drop_more, ext_get_or, get_or-take, get_or-drop, get_or-append_right, length-take-le, length-replicate}
use Rattle.disk_core.specs.Disk.{Held, MayLeave, durable, wrote, overwritten}
use Rattle.disk_core.proofs.Torn.{torn_within, only_synced, crashable_durable, crashable_wrote}
use Rattle.checkpoint_journal.specs.Format.{is_open, closed_gate, open_gate, most_records, first_area, second_area, other_area, selector, spelled, spelled_area, header, differs, records, is_made, start_of, told, checked, area_of, opens, IsOldOrNew}
use Rattle.checkpoint_journal.specs.Commit.{compact_after, IsFile}
use Rattle.checkpoint_journal.specs.Laws.{Is31, IsCompactionCut, CompactionIsOldOrNew, CompactionIsOld, CompactionIsNew}
use Rattle.checkpoint_journal.proofs.Parts.{read_parts, length-spelled, most_is, second_is}
use Rattle.checkpoint_journal.proofs.Fronts.{Opened, opened, checked_by, made-append, same-append}
use Rattle.checkpoint_journal.proofs.Writes as writes

-- bytes that a write which is cut short doesn't touch
slice_stays : (s k at : ℕ) (piece old image : List ℕ) → MayLeave (wrote at piece (durable old)) image → s + k ≤ length old
    → (s + k ≤ at) ⊎ (at + length piece ≤ s) → take k (drop s image) ≡ take k (drop s old)
slice_stays s k at piece old image left within apart =
    let short : length old ≤ length image = left.no_shorter in
    let a = length-drop s image in
    let b = length-drop s old in
    ext_get_or 0 (take k (drop s image)) (take k (drop s old))
    (length-take-le k (drop s image) (omega arith) ∙ sym (length-take-le k (drop s old) (omega arith)))
    (λ i lt.
    let near : i < k = let l = length-take-le k (drop s image) (omega arith) in omega arith in
    get_or-take k (drop s image) i 0 near ∙ get_or-drop s image i 0
    ∙ left.stays (s + i) (omega arith) (omega arith) (outside i near apart, tt)
    ∙ sym (get_or-take k (drop s old) i 0 near ∙ get_or-drop s old i 0))
  where
    outside : (i : ℕ) → i < k → (s + k ≤ at) ⊎ (at + length piece ≤ s) → (s + i < min at (length old)) ⊎ (at + length piece ≤ s + i)
    outside i near (inl before) = inl (omega arith)
    outside i near (inr behind) = inr (omega arith)

-- what a write leaves from its place on
written_from : (at : ℕ) (piece old : List ℕ) → drop at (overwritten at piece old) ≡ piece ++ drop (at + length piece) old
written_from at piece old =
    let front = take at old ++ replicate (at - length old) 0 in
    let back = piece ++ drop (at + length piece) old in
    let gap : length (replicate {A = ℕ} (at - length old) 0) ≡ at - length old = length-replicate (at - length old) 0 in
    let size : length front ≡ at = let a = length-append (take at old) (replicate (at - length old) 0) in let b = length-take at old in omega arith in
    ap (drop at) (sym (append_assoc (take at old) (replicate (at - length old) 0) back)) ∙ drop_at front back at size

-- the write of one byte at the place of the selector, cut short: any byte stands there
one_torn : (head : List ℕ) (old : ℕ) (rest : List ℕ) (byte : ℕ) (image : List ℕ) → length head ≡ 31
    → MayLeave (wrote 31 (byte ∷ []) (durable (head ++ old ∷ rest))) image → (torn : ℕ) × (image ≡ head ++ torn ∷ rest)
one_torn head old rest byte image size left =
    let within = torn_within head (old ∷ []) rest (byte ∷ []) image refl
    (subst (λ (n : ℕ). MayLeave (wrote n (byte ∷ []) (durable (head ++ old ∷ rest))) image) (sym size) left) in
    let one = writes.one_byte within.0 within.1 in
    (one.0, within.2 ∙ ap (λ (l : List ℕ). head ++ (l ++ rest)) one.1)

-- the area that a byte at the place of the selector chooses
abbrev chosen : ℕ → ℕ
chosen byte = cond (is_open byte) second_area first_area

-- the bytes before the selector of a journal that was made
record IsHead (kind number : ℕ) (head : List ℕ) : Type 0 where
  size : length head ≡ 31
  made : is_made head ≡ true
  same : differs 1 (header kind number) (drop 1 head) ≡ None

start_chosen : (head : List ℕ) (byte : ℕ) (rest : List ℕ) → length head ≡ 31 → start_of (head ++ byte ∷ rest) ≡ chosen byte
start_chosen head byte rest size = ap (λ (b : ℕ). cond (is_open b) second_area first_area) (get_or-append_right head (byte ∷ rest) 31 31 0 size (omega arith))

opens_chosen : (kind number : ℕ) (head : List ℕ) (byte : ℕ) (rest : List ℕ) (cs : List (List ℕ)) → IsHead kind number head
    → records most_records (drop (chosen byte) (head ++ byte ∷ rest)) ≡ Some cs → opens kind number (head ++ byte ∷ rest) ≡ Ok cs
opens_chosen kind number head byte rest cs is found =
    let file = head ++ byte ∷ rest in
    let size = is.size in
    checked_by kind number file (made-append head (byte ∷ rest) (omega arith) ∙ is.made)
    ∙ ap (checked file) (same-append kind number head (byte ∷ rest) (omega arith) ∙ is.same)
    ∙ ap (λ (n : ℕ). area_of n file) (start_chosen head byte rest size)
    ∙ ap (told file) found

-- where an area begins
start_cases : (b : Bool) → (cond b second_area first_area ≡ first_area) ⊎ (cond b second_area first_area ≡ second_area)
start_cases true = inr refl
start_cases false = inl refl

other_second : other_area second_area ≡ first_area
unfolding second_area
other_second = refl

selector_second : selector second_area ≡ open_gate
unfolding second_area
selector_second = refl

-- an area in use, and the other one, into which an area of this length is written
record Areas (start area used length : ℕ) : Type 0 where
  chooses : chosen (selector area) ≡ area
  either : (byte : ℕ) → (chosen byte ≡ start) ⊎ (chosen byte ≡ area)
  far : 32 ≤ start
  behind : 32 ≤ area
  apart : (start + used ≤ area) ⊎ (area + length ≤ start)

areas_by : (start used length : ℕ) → (start ≡ first_area) ⊎ (start ≡ second_area) → used ≤ 33554433 → length ≤ 33554433
    → Areas start (other_area start) used length
areas_by start used length (inl is) few most =
    let s = second_is in
    subst (λ (n : ℕ). Areas n (other_area n) used length) (sym is) (record {
      chooses = ap chosen selector_second;
      either = λ byte. start_cases (is_open byte);
      far = omega arith;
      behind = omega arith;
      apart = inl (omega arith);
    })
areas_by start used length (inr is) few most =
    let s = second_is in
    subst (λ (n : ℕ). Areas n (other_area n) used length) (sym is)
    (subst (λ (n : ℕ). Areas second_area n used length) (sym other_second) (record {
      chooses = refl;
      either = λ byte. swap (start_cases (is_open byte));
      far = omega arith;
      behind = omega arith;
      apart = inr (omega arith);
    }))
  where
    swap : {P Q : Type 0} → P ⊎ Q → Q ⊎ P
    swap (inl p) = inr p
    swap (inr q) = inl q

-- a journal at rest, and the contents that it is compacted to
pub record Rests (kind number start : ℕ) (cs ds : List (List ℕ)) (held : Held) : Type 0 where
  pub file : IsFile kind number start cs held
  pub each : AllByRecursion Is31 ds
  pub few : length ds ≤ most_records

module _ {kind number start : ℕ} {cs ds : List (List ℕ)} {held : Held} (rests : Rests kind number start cs ds held) where
  abbrev bytes : List ℕ
  bytes = held.bytes

  abbrev o : Opened kind number start cs bytes
  o = opened kind number start cs bytes rests.file.area rests.file.made rests.file.opened

  abbrev area : ℕ
  area = other_area start

  abbrev piece : List ℕ
  piece = spelled_area ds

  -- how many bytes of the area in use are read
  abbrev used : ℕ
  used = 32 * length cs + 1

  abbrev staged : List ℕ
  staged = overwritten area piece bytes

  piece_size : length piece ≡ 32 * length ds + 1
  piece_size = let a = length-spelled ds rests.each in let b = length-append (spelled ds) (closed_gate ∷ []) in omega arith

  areas : Areas start area used (length piece)
  areas = areas_by start used (length piece) by_selector (let f = o.area.few in let m = most_is in omega arith)
      (let p = piece_size in let f = rests.few in let m = most_is in omega arith)
    where
      by_selector : (start ≡ first_area) ⊎ (start ≡ second_area)
      by_selector = subst (λ (n : ℕ). (n ≡ first_area) ⊎ (n ≡ second_area)) rests.file.area (start_cases (is_open (get_or bytes 31 0)))

  area_bytes : drop start bytes ≡ o.more
  area_bytes = ap (λ (l : List ℕ). drop start l) o.split ∙ drop_at o.front o.more start o.is_front.size

  long : start + used ≤ length bytes
  long =
      let a = ap length o.split in let b = length-append o.front o.more in let c = o.is_front.size in let d = ap length o.area.split in
      let e = length-append (spelled cs) (o.area.gate ∷ o.area.tail) in let f = length-spelled cs o.area.each in omega arith

  -- what is read of an image is as in the file
  record IsKept (image : List ℕ) : Type 0 where
    front : take 32 image ≡ take 32 bytes
    records : take used (drop start image) ≡ take used (drop start bytes)

  kept_torn : (image : List ℕ) → MayLeave (wrote area piece (durable bytes)) image → IsKept image
  kept_torn image left =
      let behind = areas.behind in
      let far = areas.far in
      let l = long in
      record {
        front = slice_stays 0 32 area piece bytes image left (omega arith) (inl (omega arith));
        records = slice_stays start used area piece bytes image left (omega arith) areas.apart;
      }

  kept_staged : IsKept staged
  kept_staged = kept_torn staged (crashable_wrote area piece (durable bytes) (crashable_durable bytes)).read

  -- the area in use, where it is as before
  reads_before : (image : List ℕ) → take used (drop start image) ≡ take used (drop start bytes) → records most_records (drop start image) ≡ Some cs
  reads_before image same =
      let rest = drop used (drop start image) in
      let size : length (spelled cs ++ o.area.gate ∷ []) ≡ used =
      let a = length-append (spelled cs) (o.area.gate ∷ []) in let b = length-spelled cs o.area.each in omega arith in
      let firsts : take used (drop start bytes) ≡ spelled cs ++ o.area.gate ∷ [] =
      ap (λ (l : List ℕ). take used l) (area_bytes ∙ o.area.split ∙ sym (append_assoc (spelled cs) (o.area.gate ∷ []) o.area.tail))
      ∙ take_at (spelled cs ++ o.area.gate ∷ []) o.area.tail used size in
      let whole : drop start image ≡ spelled cs ++ o.area.gate ∷ rest =
      sym (take-append-drop used (drop start image)) ∙ ap (λ (l : List ℕ). l ++ rest) (same ∙ firsts) ∙ append_assoc (spelled cs) (o.area.gate ∷ []) rest in
      ap (records most_records) whole ∙ read_parts most_records cs o.area.gate rest o.area.each o.area.few o.area.stop

  -- the other area, once it is written
  reads_after : records most_records (drop area staged) ≡ Some ds
  reads_after =
      let rest = drop (area + length piece) bytes in
      ap (records most_records) (written_from area piece bytes ∙ append_assoc (spelled ds) (closed_gate ∷ []) rest)
      ∙ read_parts most_records ds closed_gate rest rests.each rests.few (inl refl)

  -- a file that begins with these bytes, and has any selector
  abbrev with_selector : List ℕ → ℕ → List ℕ
  with_selector image byte = take 31 image ++ byte ∷ drop 32 image

  bytes_head : IsHead kind number (take 31 bytes)
  bytes_head =
      let l = long in
      let far = areas.far in
      let size : length (take 31 bytes) ≡ 31 = length-take-le 31 bytes (omega arith) in
      let whole : bytes ≡ take 31 bytes ++ drop 31 bytes = sym (take-append-drop 31 bytes) in
      let front = o.is_front.size in
      let hdr = header kind number in
      record {
        size = size;
        made = sym (made-append (take 31 bytes) (drop 31 bytes) (omega arith)) ∙ ap is_made (sym whole) ∙ rests.file.made;
        same = sym (same-append kind number (take 31 bytes) (drop 31 bytes) (omega arith)) ∙ ap (λ (l : List ℕ). differs 1 hdr (drop 1 l)) (sym whole ∙ o.split)
            ∙ same-append kind number o.front o.more (omega arith) ∙ o.is_front.same;
      }

  head_of : (image : List ℕ) → IsKept image → IsHead kind number (take 31 image)
  head_of image kept =
      subst (λ (l : List ℕ). IsHead kind number l)
      (sym (take-take 31 32 bytes (omega arith)) ∙ ap (λ (l : List ℕ). take 31 l) (sym kept.front) ∙ take-take 31 32 image (omega arith)) bytes_head

  -- an image with its own selector
  own_selector : (image : List ℕ) → 31 < length image → image ≡ with_selector image (get_or image 31 0)
  own_selector image lt = sym (take-append-drop 31 image) ∙ ap (λ (l : List ℕ). take 31 image ++ l) (drop_more image 31 0 lt)

  -- behind the selector all is as in the image
  behind_selector : (image : List ℕ) (byte at : ℕ) → length (take 31 image) ≡ 31 → 32 ≤ at → drop at (with_selector image byte) ≡ drop at image
  behind_selector image byte at size le =
      let two : length (take 31 image ++ byte ∷ []) ≡ 32 = let a = length-append (take 31 image) (byte ∷ []) in omega arith in
      let here : drop 32 (with_selector image byte) ≡ drop 32 image =
      ap (λ (l : List ℕ). drop 32 l) (sym (append_assoc (take 31 image) (byte ∷ []) (drop 32 image)))
      ∙ drop_at (take 31 image ++ byte ∷ []) (drop 32 image) 32 two in
      let more : 32 + (at - 32) ≡ at = omega arith in
      ap (λ (n : ℕ). drop n (with_selector image byte)) (sym more) ∙ sym (drop-drop (at - 32) 32 (with_selector image byte))
      ∙ ap (λ (l : List ℕ). drop (at - 32) l) here ∙ drop-drop (at - 32) 32 image ∙ ap (λ (n : ℕ). drop n image) more

  -- a selector that chooses the area from before
  opens_before : (image : List ℕ) → IsKept image → (byte : ℕ) → chosen byte ≡ start → opens kind number (with_selector image byte) ≡ Ok cs
  opens_before image kept byte is =
      let head = head_of image kept in
      opens_chosen kind number (take 31 image) byte (drop 32 image) cs head
      (ap (λ (n : ℕ). records most_records (drop n (with_selector image byte))) is
      ∙ ap (records most_records) (behind_selector image byte start head.size areas.far) ∙ reads_before image kept.records)

  -- a selector that chooses the area that was written
  opens_after : (byte : ℕ) → chosen byte ≡ area → opens kind number (with_selector staged byte) ≡ Ok ds
  opens_after byte is =
      let head = head_of staged kept_staged in
      opens_chosen kind number (take 31 staged) byte (drop 32 staged) ds head
      (ap (λ (n : ℕ). records most_records (drop n (with_selector staged byte))) is
      ∙ ap (records most_records) (behind_selector staged byte area head.size areas.behind) ∙ reads_after)

  -- the image that has the file's own selector
  opens_kept : (image : List ℕ) → IsKept image → opens kind number image ≡ Ok cs
  opens_kept image kept =
      let l = long in
      let far = areas.far in
      let a = ap length kept.front in
      let b = length-take 32 image in
      let c = length-take 32 bytes in
      let lt : 31 < length image = omega arith in
      let same : get_or image 31 0 ≡ get_or bytes 31 0 =
      sym (get_or-take 32 image 31 0 (omega arith)) ∙ ap (λ (l : List ℕ). get_or l 31 0) kept.front ∙ get_or-take 32 bytes 31 0 (omega arith) in
      ap (opens kind number) (own_selector image lt) ∙ opens_before image kept (get_or image 31 0) (ap chosen same ∙ rests.file.area)

  staged_long : 31 < length staged
  staged_long =
      let l = long in
      let far = areas.far in
      let a = ap length kept_staged.front in
      let b = length-take 32 staged in
      let c = length-take 32 bytes in
      omega arith

  -- a byte at the place of the selector chooses the one area or the other
  any_selector : (byte : ℕ) → IsOldOrNew kind number cs ds (with_selector staged byte)
  any_selector byte = by (areas.either byte)
    where
      by : (chosen byte ≡ start) ⊎ (chosen byte ≡ area) → IsOldOrNew kind number cs ds (with_selector staged byte)
      by (inl is) = inl (opens_before staged kept_staged byte is)
      by (inr is) = inr (opens_after byte is)

  -- the write of the selector, cut short
  selector_torn : (image : List ℕ) → MayLeave (wrote 31 (selector area ∷ []) (durable staged)) image → IsOldOrNew kind number cs ds image
  selector_torn image left =
      let torn = one_torn (take 31 staged) (get_or staged 31 0) (drop 32 staged) (selector area) image (head_of staged kept_staged).size
      (subst (λ (l : List ℕ). MayLeave (wrote 31 (selector area ∷ []) (durable l)) image) (own_selector staged staged_long) left) in
      subst (IsOldOrNew kind number cs ds) (sym torn.1) (any_selector torn.0)

  abbrev finished : List ℕ
  finished = overwritten 31 (selector area ∷ []) staged

  finished_split : finished ≡ with_selector staged (selector area)
  finished_split =
      ap (overwritten 31 (selector area ∷ [])) (own_selector staged staged_long)
      ∙ writes.written_behind (take 31 staged) (get_or staged 31 0 ∷ drop 32 staged) (selector area ∷ []) 31 (head_of staged kept_staged).size

  finished_opens : opens kind number finished ≡ Ok ds
  finished_opens = ap (opens kind number) finished_split ∙ opens_after (selector area) areas.chooses

  pub goes_on : IsFile kind number area ds (compact_after 4 area piece held)
  goes_on =
      let head = head_of staged kept_staged in
      let size = head.size in
      record {
        synced = refl;
        made = ap is_made finished_split ∙ made-append (take 31 staged) (selector area ∷ drop 32 staged) (omega arith) ∙ head.made;
        area = ap start_of finished_split ∙ start_chosen (take 31 staged) (selector area) (drop 32 staged) size ∙ areas.chooses;
        opened = finished_opens;
      }

  -- ---- after each of the calls

  at_rest : (image : List ℕ) → MayLeave (compact_after 0 area piece held) image → opens kind number image ≡ Ok cs
  at_rest image left = ap (opens kind number) (only_synced bytes image (subst (λ (h : Held). MayLeave h image) rests.file.synced left)) ∙ rests.file.opened

  in_area : (image : List ℕ) → MayLeave (compact_after 1 area piece held) image → opens kind number image ≡ Ok cs
  in_area image left = opens_kept image (kept_torn image (subst (λ (h : Held). MayLeave (wrote area piece h) image) rests.file.synced left))

  between : (image : List ℕ) → MayLeave (compact_after 2 area piece held) image → opens kind number image ≡ Ok cs
  between image left = ap (opens kind number) (only_synced staged image left) ∙ opens_kept staged kept_staged

  at_last : (image : List ℕ) → MayLeave (compact_after 4 area piece held) image → opens kind number image ≡ Ok ds
  at_last image left = ap (opens kind number) (only_synced finished image left) ∙ finished_opens

  past : (n : ℕ) → compact_after (suc (suc (suc (suc n)))) area piece held ≡ compact_after 4 area piece held
  past zero = refl
  past (suc n) = refl

  at_past : (n : ℕ) (image : List ℕ) → MayLeave (compact_after (suc (suc (suc (suc n)))) area piece held) image → opens kind number image ≡ Ok ds
  at_past n image left = at_last image (subst (λ (h : Held). MayLeave h image) (past n) left)

  -- what a read gives is among what a crash may leave
  pub as_read : (calls : ℕ) → MayLeave (compact_after calls area piece held) (compact_after calls area piece held).bytes
  as_read zero = subst (λ (h : Held). MayLeave h h.bytes) (sym rests.file.synced) (crashable_durable bytes).read
  as_read (suc zero) =
      subst (λ (h : Held). MayLeave (wrote area piece h) (wrote area piece h).bytes) (sym rests.file.synced)
      (crashable_wrote area piece (durable bytes) (crashable_durable bytes)).read
  as_read (suc (suc zero)) = (crashable_durable staged).read
  as_read (suc (suc (suc zero))) = (crashable_wrote 31 (selector area ∷ []) (durable staged) (crashable_durable staged)).read
  as_read (suc (suc (suc (suc n)))) = subst (λ (h : Held). MayLeave h h.bytes) (sym (past n)) (crashable_durable finished).read

  at_first : (calls : ℕ) (image : List ℕ) → calls ≤ 2 → MayLeave (compact_after calls area piece held) image → opens kind number image ≡ Ok cs
  at_first zero image le left = at_rest image left
  at_first (suc zero) image le left = in_area image left
  at_first (suc (suc zero)) image le left = between image left
  at_first (suc (suc (suc n))) image le left = absurd (omega arith)

  pub at_any : (calls : ℕ) (image : List ℕ) → MayLeave (compact_after calls area piece held) image → IsOldOrNew kind number cs ds image
  at_any zero image left = inl (at_rest image left)
  at_any (suc zero) image left = inl (in_area image left)
  at_any (suc (suc zero)) image left = inl (between image left)
  at_any (suc (suc (suc zero))) image left = selector_torn image left
  at_any (suc (suc (suc (suc n)))) image left = inr (at_past n image left)

  at_end : (calls : ℕ) (image : List ℕ) → 4 ≤ calls → MayLeave (compact_after calls area piece held) image → opens kind number image ≡ Ok ds
  at_end zero image le left = absurd (omega arith)
  at_end (suc zero) image le left = absurd (omega arith)
  at_end (suc (suc zero)) image le left = absurd (omega arith)
  at_end (suc (suc (suc zero))) image le left = absurd (omega arith)
  at_end (suc (suc (suc (suc n)))) image le left = at_past n image left

module _ {kind number : ℕ} {cs ds : List (List ℕ)} {calls : ℕ} {image : List ℕ} (cut : IsCompactionCut kind number cs ds calls image) where
  rests_of : Rests kind number cut.start cs ds cut.held
  rests_of = record { file = cut.file; each = cut.each; few = cut.few }

pub compaction_is_either : CompactionIsOldOrNew
compaction_is_either kind number cs ds calls image cut = at_any (rests_of cut) calls image cut.left

pub compaction_is_old : CompactionIsOld
compaction_is_old kind number cs ds calls image le cut = at_first (rests_of cut) calls image le cut.left

pub compaction_is_new : CompactionIsNew
compaction_is_new kind number cs ds calls image le cut = at_end (rests_of cut) calls image le cut.left
