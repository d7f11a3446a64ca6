use Rattle.std.proofs.Common.{◌≡◌, ◌&&◌, true, false, Some, is_some, rules, ap, sym, ◌∙◌, ℕ}
use Rattle.avp_codec.specs.declared.avp.Avp.{Avp}
use Rattle.control_message.specs.Table.{shape_of}
use Rattle.control_message.specs.Reading.{counts_once, first}
use Rattle.control_message.proofs.Walk.{used_below}
use Rattle.control_message.proofs.checking.check_use.Goals as goal

pub returns-in-Some : goal.returns-in-Some
returns-in-Some c = λ before h.
    let own = ap (λ (x : Avp). x.attribute) c.avp.view_is in
    let shape : shape_of c.args.kind c.args.avp.now.attribute ≡ Some c.in-Some.field-0 = ap (λ (n : ℕ). shape_of c.args.kind n) (sym own) ∙ sym c.shape.ensures ∙ c.in-Some.is in
    let below = used_below c.args.kind c.args.avp.now.attribute c.in-Some.field-0 shape in
    let seen : (counts_once c.args.avp.now.attribute && is_some (first c.args.avp.now.attribute before)) ≡ true = ap (λ (n : ℕ). counts_once n && is_some (first n before)) (sym own) ∙ sym (c.passes_over.ensures before h (rw own below)) ∙ c.if-passes_over.true in
    search rules

pub returns-in-Some-2 : goal.returns-in-Some-2
returns-in-Some-2 c = λ before h.
    let own = ap (λ (x : Avp). x.attribute) c.avp.view_is in
    let shape : shape_of c.args.kind c.args.avp.now.attribute ≡ Some c.in-Some.field-0 = ap (λ (n : ℕ). shape_of c.args.kind n) (sym own) ∙ sym c.shape.ensures ∙ c.in-Some.is in
    let below = used_below c.args.kind c.args.avp.now.attribute c.in-Some.field-0 shape in
    let seen : (counts_once c.args.avp.now.attribute && is_some (first c.args.avp.now.attribute before)) ≡ false = ap (λ (n : ℕ). counts_once n && is_some (first n before)) (sym own) ∙ sym (c.passes_over.ensures before h (rw own below)) ∙ c.if-passes_over.false in
    let vector = h.vector in
    search rules
