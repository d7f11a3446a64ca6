-- What a world tells of its run.
use Rattle.std.proofs.Common.{◌≡◌, ℕ, List, length, refl, ap, ◌∙◌}
use Rattle.schedule_text.specs.declared.line.Line.{Line}
use Rattle.schedule_replay.specs.Counting.{agreements_of}
use Rattle.schedule_replay.specs.Fault.{Known}
use Rattle.schedule_making.specs.declared.summary.Summary.{Summary}
use Rattle.schedule_making.specs.Making.{lines_of_seed, IsOfRun}
use Rattle.schedule_making.specs.Summaries.{summary_of_lines, summary_of}

abbrev pub summary_by : ℕ → List Line → Known → Summary
summary_by seed lines k = record {
  seed = seed;
  lines = length lines;
  packets = length k.told.world.packets;
  ups = k.told.ups;
  calls = k.told.world.born;
  agree = agreements_of k.told.world;
}

told : (seed : ℕ) (lines : List Line) (k : Known) → IsOfRun lines k → summary_by seed lines k ≡ summary_of_lines seed lines
told seed lines k at = rw (at.world, at.ups) refl

pub summary_is : (seed count : ℕ) (lines : List Line) (k : Known) → lines ≡ lines_of_seed seed count → IsOfRun lines k → summary_by seed lines k ≡ summary_of seed count
summary_is seed count lines k is at = told seed lines k at ∙ ap (λ (ls : List Line). summary_of_lines seed ls) is
