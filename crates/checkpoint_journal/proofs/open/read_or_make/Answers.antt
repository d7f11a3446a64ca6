use Rattle.std.proofs.Common.{◌≡◌, ◌∙◌, ap, sym, subst, arith, List, [], ℕ}
use Rattle.std.specs.Prelude.{Ok}
use Rattle.std.proofs.lemmas.Result.{err_from_is_err_and}
use Rattle.std.proofs.lemmas.Option.{IfSome_then}
use Rattle.disk_core.specs.Disk.{Held, durable}
use Rattle.checkpoint_journal.specs.Commit.{IsFile}
use Rattle.checkpoint_journal.proofs.Options.{on_some, of_some}
use Rattle.checkpoint_journal.proofs.Parts.{second_is, small_start}
use Rattle.checkpoint_journal.proofs.Fresh.{new_file}
use Rattle.checkpoint_journal.proofs.Heads.{head_some, head_none, opens_err, opens_area}
use Rattle.checkpoint_journal.proofs.open.read_or_make.Goals as goal

pub returns-in_err-start-clause-opens : goal.returns-in_err-start-clause-opens
returns-in_err-start-clause-opens g c =
    let p = err_from_is_err_and c.from_residual.result c.from_residual.ensures.1 in
    rw (p.1, p.2) (IfSome_then (g.D.Disk.holds c.args.disk.now) c.in_err-start.ensures.read (λ held read.
    opens_err {T = ℕ × List (List ℕ)} (λ found. found.1) c.args.kind c.args.number held.bytes c.in_err-start.field-0.0 read))

pub read_area-requires : goal.read_area-requires
read_area-requires g c =
    let small = small_start c.in-Some.start (of_some c.in_ok-start.field-0 _ c.in-Some.start c.in-Some.is c.in_ok-start.ensures.start) in
    let s = second_is in omega arith

pub returns-in_err-read_area-in-Some-clause-opens : goal.returns-in_err-read_area-in-Some-clause-opens
returns-in_err-read_area-in-Some-clause-opens g c =
    let p = err_from_is_err_and c.from_residual-in_err-read_area-in-Some.result c.from_residual-in_err-read_area-in-Some.ensures.1 in
    rw (p.1, p.2) (on_some (g.D.Disk.holds c.args.disk.now) _ (λ held is.
    let head = of_some (g.D.Disk.holds c.args.disk.now) _ held is c.in_ok-start.ensures.read in
    let made = head_some c.args.kind c.args.number held.bytes c.in-Some.start (head ∙ ap (λ o. Ok o) c.in-Some.is) in
    let read = of_some (g.D.Disk.holds c.read_head.new.disk) _ held (c.read_head.ensures.kept ∙ is) c.in_err-read_area-in-Some.ensures.read in
    opens_area {T = ℕ × List (List ℕ)} (λ found. found.1) c.args.kind c.args.number c.in-Some.start held.bytes c.in_err-read_area-in-Some.field-0.0 made read))

pub returns-in_ok-read_area-in-Some-clause-opens : goal.returns-in_ok-read_area-in-Some-clause-opens
returns-in_ok-read_area-in-Some-clause-opens g c = on_some (g.D.Disk.holds c.args.disk.now) _ (λ held is.
    let head = of_some (g.D.Disk.holds c.args.disk.now) _ held is c.in_ok-start.ensures.read in
    let made = head_some c.args.kind c.args.number held.bytes c.in-Some.start (head ∙ ap (λ o. Ok o) c.in-Some.is) in
    let read = of_some (g.D.Disk.holds c.read_head.new.disk) _ held (c.read_head.ensures.kept ∙ is) c.in_ok-read_area-in-Some.ensures.read in
    made.opened ∙ read)

pub returns-in_ok-read_area-in-Some-clause-file : goal.returns-in_ok-read_area-in-Some-clause-file
returns-in_ok-read_area-in-Some-clause-file g c = on_some (g.D.Disk.holds c.read_area.new.disk) _ (λ held is.
    let here = sym (c.read_area.ensures.kept ∙ c.read_head.ensures.kept) ∙ is in
    let head = of_some (g.D.Disk.holds c.args.disk.now) _ held here c.in_ok-start.ensures.read in
    let made = head_some c.args.kind c.args.number held.bytes c.in-Some.start (head ∙ ap (λ o. Ok o) c.in-Some.is) in
    let read = of_some (g.D.Disk.holds c.read_head.new.disk) _ held (c.read_head.ensures.kept ∙ here) c.in_ok-read_area-in-Some.ensures.read in
    record {
      synced = of_some (g.D.Disk.holds c.args.disk.now) (λ (h : Held). h ≡ durable h.bytes) held here c.requires.synced;
      made = made.made;
      area = made.area;
      opened = made.opened ∙ read;
    })

pub returns-in_ok-make-in-None-clause-opens : goal.returns-in_ok-make-in-None-clause-opens
returns-in_ok-make-in-None-clause-opens g c = IfSome_then (g.D.Disk.holds c.args.disk.now) c.in_ok-start.ensures.read (λ held head.
    (head_none c.args.kind c.args.number held.bytes (head ∙ ap (λ o. Ok o) c.in-None.is)).opened ∙ ap (λ cs. Ok cs) (sym c.new.ensures))

pub returns-in_ok-make-in-None-clause-file : goal.returns-in_ok-make-in-None-clause-file
returns-in_ok-make-in-None-clause-file g c = IfSome_then (g.D.Disk.holds c.make.new.disk) c.in_ok-make-in-None.ensures.made (λ held is.
    subst (λ (cs : List (List ℕ)). IsFile c.args.kind c.args.number 32 cs held) (sym c.new.ensures)
    (subst (λ (h : Held). IsFile c.args.kind c.args.number 32 [] h) (sym is) (new_file c.args.kind c.args.number)))
