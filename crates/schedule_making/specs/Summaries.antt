-- What a run comes to, in six numbers.
use Rattle.std.specs.Prelude.{ℕ, List, ◌++◌, length, codes}
use Rattle.std.specs.Fmt.{decimal}
use Rattle.schedule_text.specs.declared.line.Line.{Line}
use Rattle.world_model.specs.Run.{Run, run}
use Rattle.schedule_replay.specs.Counting.{ups_of, agreements_of}
use Rattle.schedule_making.specs.declared.summary.Summary.{Summary}
use Rattle.schedule_making.specs.Making.{lines_of_seed}

-- of a run of so many lines
abbrev pub summary_of_run : ℕ → ℕ → Run → Summary
summary_of_run seed count r = record {
  seed = seed;
  lines = count;
  packets = length r.world.packets;
  ups = ups_of r;
  calls = r.world.born;
  agree = agreements_of r.world;
}

abbrev pub summary_of_lines : ℕ → List Line → Summary
summary_of_lines seed lines = summary_of_run seed (length lines) (run lines)

-- of the run of the lines of a seed
abbrev pub summary_of : ℕ → ℕ → Summary
summary_of seed count = summary_of_lines seed (lines_of_seed seed count)

-- a word and its number, in a line
abbrev pub number_line : List ℕ → ℕ → List ℕ
number_line word number = word ++ decimal number ++ codes "\n"

unfoldable pub summary_text : Summary → List ℕ
summary_text s =
    number_line (codes "seed ") s.seed ++ number_line (codes "lines ") s.lines ++ number_line (codes "packets ") s.packets
    ++ number_line (codes "ups ") s.ups ++ number_line (codes "calls ") s.calls ++ number_line (codes "agree ") s.agree
