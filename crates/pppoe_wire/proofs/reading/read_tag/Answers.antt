use Rattle.std.proofs.Common.{◌≡◌, ◌+◌, ◌-◌, ◌∙◌, refl, sym, arith}
use Rattle.std.proofs.lemmas.Bool.{ltb-true, ltb-false}
use Rattle.std.proofs.lemmas.List.{take_rest}
use Rattle.pppoe_wire.specs.Reading.{length_told}
use Rattle.pppoe_wire.proofs.Tags.{end_there, lack_there, tag_there}
use Rattle.pppoe_wire.proofs.reading.read_tag.Goals as goal

pub returns-then-kind-eq0-clause-found : goal.returns-then-kind-eq0-clause-found
returns-then-kind-eq0-clause-found c =
    let kind = c.read_u16-kind.ensures in
    end_there c.args.rest.now (λ i. omega (arith, c.type_inv.rest i)) (omega arith) (omega arith)

pub returns-then-is_past_end-clause-fault : goal.returns-then-is_past_end-clause-fault
returns-then-is_past_end-clause-fault c =
    let kind = c.read_u16-kind.ensures in
    let len = c.from-len.ensures in
    let said = rw take_rest at c.read_u16.ensures in
    let past = ltb-true _ _ (sym c.is_past_end.ensures ∙ c.if-is_past_end.true) in
    (refl, lack_there c.args.rest.now (λ i. omega (arith, c.type_inv.rest i)) (omega arith) (λ e. omega arith) (omega arith))

pub returns-clause-found : goal.returns-clause-found
returns-clause-found c =
    let kind = c.read_u16-kind.ensures in
    let len = c.from-len.ensures in
    let said = rw take_rest at c.read_u16.ensures in
    let counted : 4 + length_told c.args.rest.now - 4 ≡ length_told c.args.rest.now = omega arith in
    let within = ltb-false _ _ (sym c.is_past_end.ensures ∙ c.if-is_past_end.false) in
    let there = tag_there c.args.rest.now (λ i. omega (arith, c.type_inv.rest i)) (omega arith) (λ e. omega arith) (omega arith) in
    rw (c.in_ok-value.ensures, kind, len, said, counted) there
