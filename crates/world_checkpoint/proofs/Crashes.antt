-- What a store opens with after a crash amid its records.
use Rattle.std.proofs.Common.{◌≡◌, inr, ℕ, List, [], ◌++◌, length, take, Option, Some, None, Ok, refl, sym, ap, subst, ◌∙◌, arith}
use Rattle.std.proofs.lemmas.List.{length-append, length-map, length-take-le}
use Rattle.std.specs.Prelude.{Result, Err, IfSome, IfOk, is_some}
use Rattle.disk_core.specs.Disk.{Held, IsLeft}
use Rattle.session_book.specs.declared.record.Record.{Record}
use Rattle.session_book.specs.Spelling.{content_of}
use Rattle.session_book.specs.Books.{Kept, nothing_kept}
use Rattle.checkpoint_journal.specs.Format.{opens}
use Rattle.end_store.specs.Records.{kept_after_all, fitting, spelled}
use Rattle.end_store.specs.Stored.{Stored, reads, IsKept, OpensWithFirst, FindsFirst}
use Rattle.end_store.proofs.Found.{reads_book}
use Rattle.checkpoint_journal.specs.State.{State, opened_at}
use Rattle.world_checkpoint.specs.Stores.{filed, new_filed, OpensTo, HasMore, HasFirst, LeavesFirst}

same_kept : (a b : Kept) (x : Result Kept ℕ) → x ≡ Ok a → x ≡ Ok b → a ≡ b
same_kept a b x is so = let here : Ok a ≡ x = sym is in let both = here ∙ so in cc

module _ (s t : Stored) (contents : List (List ℕ)) (rs : List Record) (least kind number : ℕ) (count : length contents ≡ s.journal.records)
    (same_kind : kind ≡ s.journal.kind) (same_number : number ≡ s.journal.number) where
  -- a file that opens with the first few, and so does the store
  at_image : (image : List ℕ) → OpensWithFirst s contents rs least image → reads kind number image ≡ Ok t.kept
      → IfOk (opens kind number image) (λ cs. length cs ≡ t.journal.records) → HasFirst rs s t
  at_image image (n, some, le, opened, read) kept records =
      let first = take n (fitting s.kept rs) in
      let of_opens : opens kind number image ≡ Ok (contents ++ spelled first) =
      ap (λ (k : ℕ). opens k number image) same_kind ∙ ap (λ (m : ℕ). opens s.journal.kind m image) same_number ∙ opened
      in
      let of_reads : reads kind number image ≡ Ok (kept_after_all s.kept first) =
      ap (λ (k : ℕ). reads k number image) same_kind ∙ ap (λ (m : ℕ). reads s.journal.kind m image) same_number ∙ read
      in
      let told : length (contents ++ spelled first) ≡ t.journal.records =
      subst (λ (x : Result (List (List ℕ)) ℕ). IfOk x (λ cs. length cs ≡ t.journal.records)) of_opens records
      in
      let few : length first ≡ n = length-take-le n (fitting s.kept rs) le in
      let each : length (spelled first) ≡ length first = length-map first (λ (r : Record). content_of r) in
      let all = length-append contents (spelled first) in
      record {
        count = n;
        within = le;
        records = omega arith;
        kept = same_kept t.kept (kept_after_all s.kept first) (reads kind number image) kept of_reads;
      }

-- a store that opens over a file which opens with the first few of these has them
pub has_first : (s t : Stored) (rs : List Record) (kind number : ℕ) (image file : List ℕ) → kind ≡ s.journal.kind → number ≡ s.journal.number → image ≡ file
    → LeavesFirst rs s file → reads kind number image ≡ Ok t.kept → IfOk (opens kind number image) (λ cs. length cs ≡ t.journal.records) → HasFirst rs s t
has_first s t rs kind number image file same_kind same_number is (contents, count, first) kept records =
    at_image s t contents rs 0 kind number count same_kind same_number image (subst (OpensWithFirst s contents rs 0) (sym is) first) kept records

-- what a crash leaves of a disk
module _ (s : Stored) (contents : List (List ℕ)) (rs : List Record) (least : ℕ) (count : length contents ≡ s.journal.records) where
  of_image : (image : List ℕ) → OpensWithFirst s contents rs least image → LeavesFirst rs s image
  of_image image (n, some, le, opened, read) = (contents, count, (n, omega arith, le, opened, read))

  pub leaves_first : (o p q : Option Held) → is_some p ≡ is_some o → FindsFirst s contents rs least p → IfSome p (IsLeft q)
      → IfSome o (λ x. IfSome q (λ h. LeavesFirst rs s h.bytes))
  leaves_first None p q tells finds left = tt
  leaves_first (Some x) None q tells finds left = absurd cc
  leaves_first (Some x) (Some held) q tells finds (image, may, is) =
      subst (λ (o : Option Held). IfSome o (λ h. LeavesFirst rs s h.bytes)) (sym is) (of_image image (finds image (inr may)))

-- a store that opens over what another has on its disk has the same records
pub copy_is : (s t : Stored) (held : Held) (kind number : ℕ) (image : List ℕ) → IsKept s (Some held) → kind ≡ s.journal.kind → number ≡ s.journal.number
    → image ≡ held.bytes → reads kind number image ≡ Ok t.kept → IfOk (opens kind number image) (λ cs. length cs ≡ t.journal.records) → HasMore [] s t
unfolding fitting kept_after_all
copy_is s t held kind number image (contents, stored) same_kind same_number is kept records =
    let opened : opens kind number image ≡ Ok contents =
    ap (λ (k : ℕ). opens k number image) same_kind ∙ ap (λ (m : ℕ). opens s.journal.kind m image) same_number ∙ ap (opens s.journal.kind s.journal.number) is
    ∙ stored.journal.file.opened
    in
    let read : reads kind number image ≡ Ok s.kept = reads_book kind number image contents s.kept opened stored.book in
    let told : length contents ≡ t.journal.records = subst (λ (x : Result (List (List ℕ)) ℕ). IfOk x (λ cs. length cs ≡ t.journal.records)) opened records in
    let count = stored.journal.count in
    record {
      records = omega arith;
      kept = same_kept t.kept s.kept (reads kind number image) kept read;
    }

pub copy_found : {D E : Type 0} (s : Stored) (held : Held) (kind number : ℕ) (image : List ℕ) (result : Result (Option (Stored × D)) E) → IsKept s (Some held)
    → kind ≡ s.journal.kind → number ≡ s.journal.number → image ≡ held.bytes
    → IfOk result (λ found. IfSome found (λ p. reads kind number image ≡ Ok p.0.kept))
    → IfOk result (λ found. IfSome found (λ p. IfOk (opens kind number image) (λ cs. length cs ≡ p.0.journal.records)))
    → IfOk result (λ found. IfSome found (λ p. HasMore [] s p.0))
copy_found s held kind number image (Ok (Some p)) kept same_kind same_number is read records =
    copy_is s p.0 held kind number image kept same_kind same_number is read records
copy_found s held kind number image (Ok None) kept same_kind same_number is read records = tt
copy_found s held kind number image (Err e) kept same_kind same_number is read records = tt

-- what a store opens with over a file without a byte
pub opened_new : (kind number : ℕ) (bytes : List ℕ) (s : Stored) → bytes ≡ [] → reads kind number bytes ≡ Ok s.kept
    → IfOk (opens kind number bytes) (λ cs. length cs ≡ s.journal.records) → s.journal ≡ opened_at kind number s.journal.start s.journal.records
    → filed None s ≡ new_filed kind number
unfolding opens
opened_new kind number bytes s empty kept records journal =
    let book : Ok nothing_kept ≡ Ok s.kept = subst (λ (l : List ℕ). reads kind number l ≡ Ok s.kept) empty kept in
    let same : nothing_kept ≡ s.kept = cc in
    let none : 0 ≡ s.journal.records = subst (λ (l : List ℕ). IfOk (opens kind number l) (λ cs. length cs ≡ s.journal.records)) empty records in
    let of_kind : s.journal.kind ≡ kind = ap (λ (j : State). j.kind) journal in
    let of_number : s.journal.number ≡ number = ap (λ (j : State). j.number) journal in
    rw (sym same, sym none, of_kind, of_number) refl

-- the file of a store that has its records on its disk
pub opens_to : (s : Stored) (held : Held) (book : Kept) (kind number : ℕ) (file : List ℕ) → IsKept s (Some held) → file ≡ held.bytes → s.kept ≡ book
    → s.journal.kind ≡ kind → s.journal.number ≡ number → OpensTo kind number book file
opens_to s held book kind number file (contents, stored) is same of_kind of_number =
    ap (λ (k : ℕ). reads k number file) (sym of_kind) ∙ ap (λ (n : ℕ). reads s.journal.kind n file) (sym of_number)
    ∙ ap (reads s.journal.kind s.journal.number) is ∙ reads_book s.journal.kind s.journal.number held.bytes contents s.kept stored.journal.file.opened stored.book
    ∙ ap (λ (k : Kept). Ok k) same
