use Rattle.std.proofs.Common.{◌≡◌, ◌++◌, drop}
use Rattle.schedule_text.specs.Grammar.{spelling}
use Rattle.schedule_writing.proofs.writing.push_lines.Given as goal

abbrev pub invariant-loop-line : goal.invariant-loop-line
invariant-loop-line l = l.out ++ spelling (drop l.line-index l.lines) ≡ l.fn.out ++ spelling l.lines
