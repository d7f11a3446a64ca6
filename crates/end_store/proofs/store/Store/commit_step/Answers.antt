use Rattle.std.proofs.Common.{◌-◌, ℕ, length, ap, subst, ◌∙◌, arith}
use Rattle.std.specs.Prelude.{Err}
use Rattle.wire_base.specs.Causes.{Rose}
use Rattle.checkpoint_journal.specs.State.{State}
use Rattle.checkpoint_journal.specs.Answers.{RoomHasCause, SomeHaveCause}
use Rattle.checkpoint_journal.specs.declared.journal.JournalRoom.{JournalRoom}
use Rattle.checkpoint_journal.specs.declared.journal.JournalStop.{JournalStop}
use Rattle.checkpoint_journal.proofs.Parts.{most_is}
use Rattle.end_store.specs.Records.{fitting}
use Rattle.end_store.specs.Stored.{Stored, prepared, with_records, FindsFirst}
use Rattle.end_store.proofs.Several.{counted, none_to_commit, none_wanted, finds_refused}
use Rattle.end_store.proofs.store.Store.commit_step.Goals as goal

pub commit-requires-clause-spare : goal.commit-requires-clause-spare
commit-requires-clause-spare g c =
    let n = counted (length c.args.records.now) c.count_of-count.result _ _ c.count_of-count.ensures most_is c.in-Ok.ensures.cause.1 in
    let spare = ap (λ (s : Stored). s.spare) c.in-Ok.ensures.ok in
    let journal = ap (λ (s : Stored). s.journal.spare) c.in-Ok.ensures.ok in
    (omega arith, omega arith)

pub returns-in-Err-Halted-clause-crash : goal.returns-in-Err-Halted-clause-crash
returns-in-Err-Halted-clause-crash g c before is = finds_refused _ _ before _ _ _ c.in-Err-Halted.ensures.err c.in-Err-Halted.ensures.disk is

pub returns-in-Err-StoreFull-clause-crash : goal.returns-in-Err-StoreFull-clause-crash
returns-in-Err-StoreFull-clause-crash g c before is = finds_refused _ _ before _ _ _ c.in-Err-StoreFull.ensures.err c.in-Err-StoreFull.ensures.disk is

pub returns-in-Err-NoMemory-clause-crash : goal.returns-in-Err-NoMemory-clause-crash
returns-in-Err-NoMemory-clause-crash g c before is = finds_refused _ _ before _ _ _ c.in-Err-NoMemory.ensures.err c.in-Err-NoMemory.ensures.disk is

pub returns-in-Err-NoMemory-clause-cause : goal.returns-in-Err-NoMemory-clause-cause
returns-in-Err-NoMemory-clause-cause g c =
    let told = subst (λ (e : JournalRoom). RoomHasCause {T = Unit {0}} c.args.self.now.journal c.count_of-count.result (Err e)) c.in-Err-NoMemory.field-0-is c.in-Err-NoMemory.ensures.cause in
    let n = counted (length c.args.records.now) c.count_of-count.result _ _ c.count_of-count.ensures most_is told.1 in
    let room = told.1 in
    (told.0, omega arith, c.in-Err-NoMemory.ensures.faults)

pub returns-in-Ok-commit-clause-state : goal.returns-in-Ok-commit-clause-state
returns-in-Ok-commit-clause-state g c =
    let n = counted (length c.args.records.now) c.count_of-count.result _ _ c.count_of-count.ensures most_is c.in-Ok.ensures.cause.1 in
    c.in-Ok-commit.ensures.state ∙ ap (λ (s : Stored). with_records s c.args.records.now) c.in-Ok.ensures.ok
    ∙ ap (λ (count : ℕ). with_records (prepared count c.args.self.now) c.args.records.now) n

pub returns-in-Ok-commit-clause-cause : goal.returns-in-Ok-commit-clause-cause
returns-in-Ok-commit-clause-cause g c =
    let n = counted (length c.args.records.now) c.count_of-count.result _ _ c.count_of-count.ensures most_is c.in-Ok.ensures.cause.1 in
    let room = c.in-Ok.ensures.cause.1 in
    (c.in-Ok.ensures.cause.0, omega arith, c.in-Ok-commit.ensures.cause.1 ∙ c.in-Ok.ensures.faults)

pub returns-in-Err-StoreFault-clause-cause : goal.returns-in-Err-StoreFault-clause-cause
returns-in-Err-StoreFault-clause-cause g c =
    let n = counted (length c.args.records.now) c.count_of-count.result _ _ c.count_of-count.ensures most_is c.in-Ok.ensures.cause.1 in
    let room = c.in-Ok.ensures.cause.1 in
    let ok = c.in-Ok.ensures.ok in
    let told =
    subst (λ (e : JournalStop). SomeHaveCause {T = Unit {0}} (length (fitting c.prepare.new.self.kept c.args.records.now)) c.prepare.new.self.journal c.commit.new.self.journal
    (g.D.Disk.faults c.prepare.new.disk) (g.D.Disk.faults c.commit.new.disk) (Err e)) c.in-Err-StoreFault.field-0-is c.in-Err-StoreFault.ensures.cause
    in
    let done = told.2.0 in
    let lt = told.2.1 in
    let count = ap (λ (s : Stored). length (fitting s.kept c.args.records.now)) ok in
    let records = ap (λ (s : Stored). s.journal.records) ok in
    let after = ap (λ (j : State). j.records) told.2.2 in (
      c.in-Ok.ensures.cause.0,
      omega arith,
      subst (λ (faults : ℕ). Rose faults (g.D.Disk.faults c.commit.new.disk)) c.in-Ok.ensures.faults told.1,
      ap (λ (j : State). j.halted) told.2.2,
      omega arith,
    )

pub returns-in-Err-StoreFault-clause-crash : goal.returns-in-Err-StoreFault-clause-crash
returns-in-Err-StoreFault-clause-crash g c before is =
    subst (λ (s : Stored). FindsFirst s before c.args.records.now (c.commit.new.self.journal.records - s.journal.records) (g.D.Disk.holds c.commit.new.disk)) c.in-Ok.ensures.ok
    (c.commit.ensures.crash before (c.in-Ok.ensures.stored before is))

pub returns-in-Ok-commit-clause-untouched : goal.returns-in-Ok-commit-clause-untouched
returns-in-Ok-commit-clause-untouched g c none =
    c.commit.ensures.untouched (none_to_commit c.prepare.new.self.kept c.args.records.now none)
    ∙ c.prepare.ensures.untouched (none_wanted c.args.records.now c.count_of-count.result c.args.self.now.journal.spare c.count_of-count.ensures none)

pub returns-in-Err-StoreFault-clause-untouched : goal.returns-in-Err-StoreFault-clause-untouched
returns-in-Err-StoreFault-clause-untouched g c none =
    c.commit.ensures.untouched (none_to_commit c.prepare.new.self.kept c.args.records.now none)
    ∙ c.prepare.ensures.untouched (none_wanted c.args.records.now c.count_of-count.result c.args.self.now.journal.spare c.count_of-count.ensures none)
