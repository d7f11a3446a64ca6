-- Several contents, one after the other.
use Rattle.std.proofs.Common.{◌≡◌, inl, inr, ℕ, ◌+◌, ◌-◌, ◌<◌, ◌≤◌, true, false, List, [], ◌∷◌, ◌++◌, length, take, get_or, Option, Some, None, sym, ◌∙◌, ap, arith, append_assoc}
use Rattle.std.specs.Prelude.{Ok, Err}
use Rattle.std.proofs.lemmas.List.{take_more, take_all, append-nil}
use Rattle.disk_core.specs.Disk.{Held}
use Rattle.checkpoint_journal.specs.Format.{IsBeforeOrAfter, IsBeforeAndFirst}
use Rattle.checkpoint_journal.specs.State.{State, HasContents, FindsBeforeOrAfter, FindsBeforeAndFirst}
use Rattle.checkpoint_journal.specs.Answers.{StopHasCause, SomeHaveCause}
use Rattle.checkpoint_journal.specs.declared.journal.JournalStop.{JournalStop}
use Rattle.checkpoint_journal.specs.declared.journal.JournalStop.TheVariants as stop
use Rattle.checkpoint_journal.proofs.Same.{finds_contents}

-- a journal after so many of the contents
abbrev pub after_some : State → ℕ → State
after_some j done = record j { records = j.records + done; spare = j.spare - done }

module _ (before contents : List (List ℕ)) (i : ℕ) (lt : i < length contents) where
  pub next : (before ++ take i contents) ++ get_or contents i [] ∷ [] ≡ before ++ take (i + 1) contents
  next = append_assoc before (take i contents) (get_or contents i [] ∷ []) ∙ ap (λ (l : List (List ℕ)). before ++ l) (sym (take_more contents i [] lt))

  some : (kind number least : ℕ) (image : List ℕ) → least ≤ i → IsBeforeOrAfter kind number (before ++ take i contents) (get_or contents i []) image
      → IsBeforeAndFirst kind number before contents least image
  some kind number least image le (inl is) = (i, le, omega arith, is)
  some kind number least image le (inr is) = (i + 1, omega arith, omega arith, is ∙ ap (λ (cs : List (List ℕ)). Ok cs) next)

  -- the commit of one of them stopped
  pub stopped : (j : State) (least : ℕ) (o : Option Held) → least ≤ i
      → FindsBeforeOrAfter (after_some j i) (before ++ take i contents) (get_or contents i []) o → FindsBeforeAndFirst j before contents least o
  stopped j least None le finds = tt
  stopped j least (Some held) le finds = λ image found. some j.kind j.number least image le (finds image found)

-- none of them was committed, or all
pub finds_none : (j : State) (before contents : List (List ℕ)) (least : ℕ) (o : Option Held) → least ≡ 0 → HasContents j before o
    → FindsBeforeAndFirst j before contents least o
finds_none j before contents least None le is = tt
finds_none j before contents least (Some held) le is = λ image found.
    (0, omega arith, omega arith, finds_contents j before (Some held) is image found ∙ ap (λ (cs : List (List ℕ)). Ok cs) (sym (append-nil before)))

pub finds_all : (j : State) (before contents : List (List ℕ)) (done least : ℕ) (o : Option Held) → least ≤ length contents
    → HasContents (after_some j done) (before ++ contents) o → FindsBeforeAndFirst j before contents least o
finds_all j before contents done least None le is = tt
finds_all j before contents done least (Some held) le is = λ image found. (
  length contents,
  le,
  omega arith,
  finds_contents (after_some j done) (before ++ contents) (Some held) is image found
      ∙ ap (λ (l : List (List ℕ)). Ok (before ++ l)) (sym (take_all (length contents) contents (omega arith))),
)

pub stopped_records : (T : Type 0) (k after : State) (faults now : ℕ) (e : JournalStop) → StopHasCause {T = T} k after faults now (Err e)
    → after.records ≡ k.records
stopped_records T k after faults now stop.Halted cause = ap (λ (s : State). s.records) cause.1
stopped_records T k after faults now stop.StoreFault cause = ap (λ (s : State). s.records) cause.1

pub stopped_cause : (T U : Type 0) (j k after : State) (i count faults now : ℕ) (e : JournalStop) → k ≡ after_some j i → j.halted ≡ false → i < count
    → StopHasCause {T = T} k after faults now (Err e) → SomeHaveCause {T = U} count j after faults now (Err e)
stopped_cause T U j k after i count faults now stop.Halted is live lt cause = absurd (cc (is, live, cause.0))
stopped_cause T U j k after i count faults now stop.StoreFault is live lt cause =
    (live, cause.2, (i, lt, cause.1 ∙ ap (λ (s : State). record s { halted = true }) is))
