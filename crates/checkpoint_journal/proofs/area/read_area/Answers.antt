use Rattle.std.proofs.Common.{◌<◌, ◌≡◌, ◌+◌, ◌-◌, length, ℕ, List, ap, sym, ◌∙◌, arith}
use Rattle.checkpoint_journal.specs.Format.{records, most_records}
use Rattle.std.proofs.lemmas.List.{length_push}
use Rattle.checkpoint_journal.proofs.Options.{on_some, of_some}
use Rattle.checkpoint_journal.proofs.Parts.{most_is, onto_all}
use Rattle.checkpoint_journal.proofs.Walk.{gate_at, at_place, early, not_whole, walk_on, walk_shut, walk_nothing, walk_full}
use Rattle.checkpoint_journal.proofs.area.read_area.Goals as goal

pub returns-in-Shut-clause-read : goal.returns-in-Shut-clause-read
returns-in-Shut-clause-read g c = on_some (g.D.Disk.holds c.args.disk.now) _ (λ held is.
    let inv = c.loop-n.invariant in
    let found = of_some (g.D.Disk.holds c.loop-n.disk) _ held (inv.kept ∙ is) c.in_ok-content.ensures.found in
    walk_shut (inv.read held is)
    (at_place c.args.start c.from.result c.loop-n.n c.in_ok-content.field-0 held.bytes found c.from.ensures ∙ c.in-Shut.is))

pub returns-in-Shut-clause-few : goal.returns-in-Shut-clause-few
returns-in-Shut-clause-few g c = let s = c.loop-n.invariant.size in let m = most_is in let n = c.loop-n-test.true in omega arith

pub returns-in_default-clause-read : goal.returns-in_default-clause-read
returns-in_default-clause-read g c = on_some (g.D.Disk.holds c.args.disk.now) _ (λ held is.
    let inv = c.loop-n.invariant in
    let lt : c.loop-n.n < most_records = let m = most_is in let n = c.loop-n-test.true in omega arith in
    let found = of_some (g.D.Disk.holds c.loop-n.disk) _ held (inv.kept ∙ is) c.in_ok-content.ensures.found in
    let place = of_some (g.D.Disk.holds c.read_gate.new.disk) _ held (c.read_gate.ensures.kept ∙ inv.kept ∙ is) c.ends_early.ensures.place in
    early _ (length held.bytes) c.ends_early.result place
    (not_whole (inv.read held is) lt c.in_ok-content.field-0
    (at_place c.args.start c.from.result c.loop-n.n c.in_ok-content.field-0 held.bytes found c.from.ensures)
    c.in_default.not-Shut c.in_default.not-Content))

pub loop-n-preserved : goal.loop-n-preserved
loop-n-preserved g c =
    let inv = c.loop-n.invariant in
    record {
      read = λ held is.
          let lt : c.loop-n.n < most_records = let m = most_is in let n = c.loop-n-test.true in omega arith in
          let found = of_some (g.D.Disk.holds c.loop-n.disk) _ held (inv.kept ∙ is) c.in_ok-content.ensures.found in
          let rest = records (most_records - (c.loop-n.n + 1)) (gate_at c.args.start (c.loop-n.n + 1) held.bytes) in
          let next = walk_on (inv.read held is) c.in-Content.content lt
          (at_place c.args.start c.from.result c.loop-n.n c.in_ok-content.field-0 held.bytes found c.from.ensures ∙ c.in-Content.is) in
          record { read = ap (λ (cs : List (List ℕ)). onto_all cs rest) c.in_ok-push-in-Content.ensures.ok ∙ next.read };
      size = ap length c.in_ok-push-in-Content.ensures.ok ∙ length_push c.loop-n.contents c.in-Content.content ∙ ap (λ (n : ℕ). n + 1) inv.size;
      kept = c.read_gate.ensures.kept ∙ inv.kept;
      room = record { as_far = c.read_gate.ensures.room.as_far ∙ inv.room.as_far; as_many = c.read_gate.ensures.room.as_many ∙ inv.room.as_many };
      cause = c.in_ok-content.ensures.cause.same ∙ inv.cause;
    }

pub returns-in-Nothing-clause-read : goal.returns-in-Nothing-clause-read
returns-in-Nothing-clause-read g c = on_some (g.D.Disk.holds c.args.disk.now) _ (λ held is.
    let inv = c.loop-n.invariant in
    let full : c.from-2.result ≡ c.loop-n.n = c.from-2.ensures ∙ (let n = c.loop-n-test.false in let e = c.loop-n.auto.n-end in omega arith) in
    let found = of_some (g.D.Disk.holds c.loop-n.disk) _ held (inv.kept ∙ is) c.in_ok-read_gate.ensures.found in
    let place = of_some (g.D.Disk.holds c.read_gate-2.new.disk) _ held (c.read_gate-2.ensures.kept ∙ inv.kept ∙ is) c.ends_early-in-Nothing.ensures.place in
    early _ (length held.bytes) c.ends_early-in-Nothing.result place
    (walk_nothing (inv.read held is)
    (at_place c.args.start c.from-2.result c.loop-n.n c.in_ok-read_gate.field-0 held.bytes found full ∙ c.in-Nothing.is)))

pub returns-in_default-2 : goal.returns-in_default-2
returns-in_default-2 g c =
    let inv = c.loop-n.invariant in
    let full : c.from-2.result ≡ c.loop-n.n = c.from-2.ensures ∙ (let n = c.loop-n-test.false in let e = c.loop-n.auto.n-end in omega arith) in
    let most : c.loop-n.n ≡ most_records = let n = c.loop-n-test.false in let e = c.loop-n.auto.n-end in let m = most_is in omega arith in
    record {
      read = on_some (g.D.Disk.holds c.args.disk.now) _ (λ held is.
          let found = of_some (g.D.Disk.holds c.loop-n.disk) _ held (inv.kept ∙ is) c.in_ok-read_gate.ensures.found in
          walk_full (inv.read held is) most
          (λ nothing. c.in_default-2.not-Nothing
          (sym (at_place c.args.start c.from-2.result c.loop-n.n c.in_ok-read_gate.field-0 held.bytes found full) ∙ nothing)));
      few = let s = inv.size in omega arith;
      kept = c.read_gate-2.ensures.kept ∙ inv.kept;
      room = record { as_far = c.read_gate-2.ensures.room.as_far ∙ inv.room.as_far; as_many = c.read_gate-2.ensures.room.as_many ∙ inv.room.as_many };
      cause = c.in_ok-read_gate.ensures.cause.same ∙ inv.cause;
    }
