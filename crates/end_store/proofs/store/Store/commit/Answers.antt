use Rattle.std.proofs.Common.{◌≡◌, ◌++◌, ℕ, List, take, length, refl, sym, ap, subst, ◌∙◌, arith, rules}
use Rattle.std.proofs.lemmas.List.{take_all, length-take-le}
use Rattle.std.proofs.lemmas.Result.{err_from_is_err_and}
use Rattle.std.specs.Prelude.{Err}
use Rattle.session_book.specs.declared.record.Record.{Record}
use Rattle.checkpoint_journal.specs.Answers.{StopHasCause}
use Rattle.end_store.specs.Records.{fitting, spelled}
use Rattle.end_store.specs.Stored.{Stored, with_records, IsStored}
use Rattle.end_store.proofs.Records.{fitting_few}
use Rattle.end_store.proofs.Found.{finds_none}
use Rattle.end_store.proofs.Several.{with_none, nothing_more, state_more, stored_more, less_stopped, none_more, finds_stopped, cause_stopped, finds_all}
use Rattle.end_store.proofs.store.Store.commit.Goals as goal

pub returns-then-is_halted-clause-crash : goal.returns-then-is_halted-clause-crash
returns-then-is_halted-clause-crash g c before is = finds_none c.args.self.now before c.args.records.now _ (g.D.Disk.holds c.args.disk.now) (omega arith) is

pub loop-next-init : goal.loop-next-init
loop-next-init g c = record {
  live = search rules;
  state = with_none c.args.self.now;
  room = search rules;
  spare = c.requires.spare.0;
  journal_spare = c.requires.spare.1;
  unmarked = c.requires.unmarked;
  so_far = λ before is. subst (λ (cs : List (List ℕ)). IsStored c.args.self.now cs (g.D.Disk.holds c.args.disk.now)) (sym (nothing_more c.args.self.now before)) is;
  untouched = λ none. refl;
  tells = refl;
  faults = refl;
}

pub commit_one-requires-clause-spare : goal.commit_one-requires-clause-spare
commit_one-requires-clause-spare g c =
    let inv = c.loop-next.invariant in
    let i = c.loop-next.next-index in
    let xs = take i c.args.records.now in
    let few = fitting_few c.args.self.now.kept xs in
    let lt = c.loop-next-test.true in
    let size = length-take-le i c.args.records.now (omega arith) in
    let spare = ap (λ (s : Stored). s.spare) inv.state in
    let journal = ap (λ (s : Stored). s.journal.spare) inv.state in
    let a = inv.spare in
    let b = inv.journal_spare in
    (omega arith, omega arith)

pub returns-in_err-commit_one-clause-cause : goal.returns-in_err-commit_one-clause-cause
returns-in_err-commit_one-clause-cause g c =
    let inv = c.loop-next.invariant in
    let p = err_from_is_err_and c.from_residual.result c.from_residual.ensures.1 in
    let live = ap (λ (s : Stored). s.journal.halted) inv.state ∙ inv.live in
    let cause = subst (λ (n : ℕ). StopHasCause {T = Unit {0}} c.loop-next.self.journal c.commit_one.new.self.journal n (g.D.Disk.faults c.commit_one.new.disk) (Err c.in_err-commit_one.field-0.0)) inv.faults c.in_err-commit_one.ensures.cause in
    rw (p.1, p.2) (cause_stopped (Unit {0}) (Unit {0}) c.args.self.now c.loop-next.self c.commit_one.new.self.journal c.args.records.now c.loop-next.next-index _ _ _ c.in_err-commit_one.field-0.0
    c.loop-next-test.true inv.live inv.state (c.in_err-commit_one.ensures.in_place live) cause)

pub returns-in_err-commit_one-clause-untouched : goal.returns-in_err-commit_one-clause-untouched
returns-in_err-commit_one-clause-untouched g c none =
    let inv = c.loop-next.invariant in
    let live = ap (λ (s : Stored). s.journal.halted) inv.state ∙ inv.live in
    let less =
    less_stopped c.args.self.now c.loop-next.self c.args.records.now c.loop-next.next-index _ c.loop-next-test.true inv.state (c.in_err-commit_one.ensures.in_place live)
    in
    let zero = ap length none in
    absurd (omega (arith, less, zero))

pub returns-in_err-commit_one-clause-crash : goal.returns-in_err-commit_one-clause-crash
returns-in_err-commit_one-clause-crash g c before is =
    let inv = c.loop-next.invariant in
    finds_stopped (Unit {0}) c.args.self.now c.loop-next.self c.commit_one.new.self.journal before c.args.records.now c.loop-next.next-index _ (g.D.Disk.holds c.commit_one.new.disk) _ _ _
    c.loop-next-test.true inv.state c.in_err-commit_one.ensures.cause (c.commit_one.ensures.crash _ (inv.so_far before is))

pub loop-next-preserved : goal.loop-next-preserved
loop-next-preserved g c =
    let inv = c.loop-next.invariant in
    record {
      live = inv.live;
      state = state_more c.args.self.now c.loop-next.self c.commit_one.new.self c.args.records.now c.loop-next.next-index _ c.loop-next-test.true inv.state c.in_ok-commit_one.ensures.state;
      room = c.in_ok-commit_one.ensures.room;
      spare = inv.spare;
      journal_spare = inv.journal_spare;
      unmarked = inv.unmarked;
      so_far = λ before is.
          stored_more c.args.self.now c.loop-next.self c.commit_one.new.self before c.args.records.now c.loop-next.next-index _ (g.D.Disk.holds c.commit_one.new.disk) c.loop-next-test.true inv.state
          (c.in_ok-commit_one.ensures.stored _ (inv.so_far before is));
      untouched = λ none.
          (let more = none_more c.args.self.now c.loop-next.self c.args.records.now c.loop-next.next-index _ c.loop-next-test.true inv.state none in
          c.in_ok-commit_one.ensures.untouched more.1 ∙ inv.untouched more.0);
      tells = search rules;
      faults = search rules;
    }

pub returns-clause-crash : goal.returns-clause-crash
returns-clause-crash g c before is =
    let inv = c.loop-next.invariant in
    let all : take c.loop-next.next-index c.args.records.now ≡ c.args.records.now = take_all c.loop-next.next-index c.args.records.now (omega arith) in
    let state : c.loop-next.self ≡ with_records c.args.self.now c.args.records.now = inv.state ∙ ap (with_records c.args.self.now) all in
    let records = ap (λ (s : Stored). s.journal.records) state in
    let stored = subst (λ (l : List Record). IsStored c.loop-next.self (before ++ spelled (fitting c.args.self.now.kept l)) (g.D.Disk.holds c.loop-next.disk)) all (inv.so_far before is) in
    finds_all c.args.self.now c.loop-next.self before c.args.records.now (g.D.Disk.holds c.loop-next.disk) _ (omega arith) state stored
