use Rattle.std.proofs.Common.{subst, Some, ◌-◌, ◌∙◌}
use Rattle.std.specs.Range.{range_inclusive_start, range_inclusive_end}
use Rattle.std.specs.declared.ops.Bound.TheVariants.{Included}
use Rattle.id_index.specs.Keys.{IsFirstListed}
use Rattle.id_index.proofs.Listing.{range_gives, range_none, range_first}
use Rattle.id_index.proofs.keys.first_listed.Goals as goal

pub returns-in_default : goal.returns-in_default
returns-in_default c =
    range_none c.args.keys.now c.args.label _ _ (c.new.ensures.start ∙ c.key-least.ensures) (c.new.ensures.end ∙ c.key-most.ensures)
    ((c.range.ensures.in_range c.new.ensures.exhausted).5 c.in_default.ensures.steps.0)

pub returns : goal.returns
returns c =
    let first = range_gives c.args.keys.now (Included (range_inclusive_start c.new.result)) (Included (range_inclusive_end c.new.result))
    c.range.result (c.in-Some.found.now, c.in-Some.listed.now) _ c.in-Some.ensures.steps
    (c.range.ensures.in_range c.new.ensures.exhausted) in
    subst (λ n. IsFirstListed c.args.keys.now.entries c.args.label (Some (c.in-Some.found.now - n))) c.new.ensures.start
    (range_first c.args.keys.now c.args.label _ _ (c.new.ensures.start ∙ c.key-least.ensures) (c.new.ensures.end ∙ c.key-most.ensures)
    c.in-Some.found.now c.in-Some.listed.now c.if-not-listed.false first.0 first.1)
