-- Opening after a crash.
use Rattle.std.proofs.Common.{◌≡◌, inr, ℕ, true, List, ◌++◌, length, take, Option, Some, None, sym, ◌∙◌, ap, arith}
use Rattle.std.specs.Prelude.{Result, Ok, Err, IfSome, OnOk, is_some, is_ok}
use Rattle.disk_core.specs.Disk.{Held, IsLeft, durable}
use Rattle.checkpoint_journal.specs.Format.{opens, IsBeforeAndFirst}
use Rattle.checkpoint_journal.specs.State.{State, FindsBeforeAndFirst}
use Rattle.checkpoint_journal.specs.Answers.{Opens, GivesBeforeAndFirst}
use Rattle.checkpoint_journal.specs.declared.crash.Reopened.{Reopened}
use Rattle.checkpoint_journal.specs.declared.open.JournalOpen.{JournalOpen}
use Rattle.checkpoint_journal.specs.declared.open.JournalOpen.TheVariants.{NotJournal, StoreFault, NoMemory}
use Rattle.checkpoint_journal.proofs.Options.{of_some, if_some}

abbrev ok : List (List ℕ) → Result (List (List ℕ)) ℕ
ok contents = Ok contents

pub acknowledged : {E P : Type 0} (r : Result (Unit {0}) E) → OnOk r P → is_ok r ≡ true → P
acknowledged (Ok done) p is = p
acknowledged (Err e) p is = absurd cc

module _ (j : State) (before contents : List (List ℕ)) (least : ℕ) where
  -- the file that a crash left
  pub record Left (q : Option Held) : Type 0 where
    pub image : List ℕ
    pub is : q ≡ Some (durable image)
    pub opened : IsBeforeAndFirst j.kind j.number before contents least image

  pub left : (o p q : Option Held) → is_some p ≡ is_some o → FindsBeforeAndFirst j before contents least p → IfSome p (IsLeft q)
      → IfSome o (λ x. Left q)
  left None p q tells finds crashed = tt
  left (Some x) None q tells finds crashed = absurd cc
  left (Some x) (Some held) q tells finds crashed = record {
    image = crashed.0;
    is = crashed.2;
    opened = finds crashed.0 (inr crashed.1);
  }

  -- what a file opens with, of this kind at this node
  module _ (kind number : ℕ) (same_kind : kind ≡ j.kind) (same_number : number ≡ j.number) where
    of_journal : (file : List ℕ) → opens kind number file ≡ opens j.kind j.number file
    of_journal file = ap (λ (k : ℕ). opens k number file) same_kind ∙ ap (λ (n : ℕ). opens j.kind n file) same_number

    pub gives_ok : (o q : Option Held) (reopened : Reopened) → IfSome o (λ x. Left q)
        → IfSome q (λ held. opens kind number held.bytes ≡ Ok reopened.contents) → (reopened.acknowledged ≡ true → least ≡ length contents)
        → IfSome o (λ x. GivesBeforeAndFirst before contents (Ok reopened))
    gives_ok o q reopened some opened all = if_some o (λ (l : Left q).
        let n = l.opened.0 in
        let here = of_some q (λ (h : Held). opens kind number h.bytes ≡ Ok reopened.contents) (durable l.image) l.is opened in
        let le = l.opened.1 in
        let most = l.opened.2 in
        (n, most, same reopened.contents (before ++ take n contents) (sym here ∙ of_journal l.image ∙ l.opened.3), λ is. (let a = all is in omega arith))) some
      where
        same : (a b : List (List ℕ)) → ok a ≡ ok b → a ≡ b
        same a b is = cc

    pub gives_err : (T : Type 0) (view : T → List (List ℕ)) (o q : Option Held) (e : JournalOpen) → IfSome o (λ x. Left q)
        → IfSome q (λ held. Opens view (opens kind number held.bytes) (Err e)) → IfSome o (λ x. GivesBeforeAndFirst before contents (Err e))
    gives_err T view o q StoreFault some opened = if_some o (λ l. tt) some
    gives_err T view o q NoMemory some opened = if_some o (λ l. tt) some
    gives_err T view o q (NotJournal at) some opened = if_some o (λ (l : Left q).
        let here = of_some q (λ (h : Held). opens kind number h.bytes ≡ Err at) (durable l.image) l.is opened in
        no at (sym here ∙ of_journal l.image ∙ l.opened.3)) some
      where
        no : (at : ℕ) {a : List (List ℕ)} → Err at ≡ Ok a → ⊥
        no at is = absurd cc
