use Rattle.std.proofs.Common.{◌≡◌, ◌++◌, drop}
use Rattle.std.specs.List.{flat_map}
use Rattle.lcp_wire.specs.Spelling.{AreOptions}
use Rattle.lcp_end.specs.Options.{part}
use Rattle.lcp_end.proofs.options.answer_body.Given as goal

abbrev pub invariant-loop-option : goal.invariant-loop-option
invariant-loop-option l =
    (l.body ++ flat_map (part l.verdict l.own l.wish) (drop l.option-index l.options) ≡ flat_map (part l.verdict l.own l.wish) l.options) ×
    AreOptions (drop l.option-index l.options)
