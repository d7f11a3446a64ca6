-- The lines of a seed: three that are always there, and as many that are drawn as are asked for.
use Rattle.std.specs.Prelude.{◌≡◌, ℕ, zero, suc, ◌+◌, Bool, false, List, [], ◌∷◌, ◌++◌, length, codes, if◌then◌else◌, Option, Some, None, is_ok}
use Rattle.schedule_text.specs.declared.line.Line.{Line}
use Rattle.schedule_text.specs.declared.line.Line.TheVariants.{Remark, Lac, Lns, OpenUp}
use Rattle.world_model.specs.declared.refusal.Refusal.{Refusal}
use Rattle.world_model.specs.declared.refusal.Refusal.TheVariants.{Unfit, HalfSpace, Stale, StoreFull}
use Rattle.world_model.specs.World.{line}
use Rattle.world_model.specs.Run.{run}
use Rattle.schedule_replay.specs.Counting.{ups_of}
use Rattle.schedule_replay.specs.Fault.{Known}
use Rattle.schedule_making.specs.Drawing.{Drawn, drawn_line}

-- the remark `# -`
abbrev pub passed_over : Line
passed_over = Remark (codes " -")

-- the line that comes behind others: the one that was drawn, where it is one and the world takes it, else a remark in its place
unfoldable pub settled : List Line → Option Line → Line
settled lines None = passed_over
settled lines (Some l) = if is_ok (line (run lines).world (length lines + 1) l) then l else passed_over

abbrev pub with_line : List Line → Option Line → List Line
with_line lines o = lines ++ settled lines o ∷ []

-- an LNS, a LAC without a secret, and the LAC opens a tunnel
abbrev pub opening : List Line
opening = Lns 2 None ∷ Lac 1 2 None false ∷ OpenUp 1 ∷ []

-- lines, and the state of the generator behind them
pub record Making : Type 0 where
  pub lines : List Line
  pub state : ℕ

abbrev pub with_drawn : List Line → Drawn → Making
with_drawn lines d = record { lines = with_line lines d.line; state = d.state }

-- one line more, drawn in the world to which the lines so far lead
unfoldable pub drawn_on : Making → Making
drawn_on m = with_drawn m.lines (drawn_line (length (run m.lines).world.packets) m.state)

unfoldable pub making : ℕ → ℕ → Making
making seed zero = record { lines = opening; state = seed }
making seed (suc n) = drawn_on (making seed n)

-- the lines of a seed, with so many drawn ones
abbrev pub lines_of_seed : ℕ → ℕ → List Line
lines_of_seed seed count = (making seed count).lines

-- ---- what is known of a world while lines are made

-- it goes on behind a line that it refuses, unless it found no room for records
abbrev pub GoesOn : Refusal → Type 0
GoesOn (Unfit why) = Unit {0}
GoesOn (HalfSpace number count) = Unit {0}
GoesOn (Stale sent own) = Unit {0}
GoesOn (StoreFull records) = ⊥

-- it is where the run of these lines leads, none of which is refused
pub record IsOfRun (lines : List Line) (k : Known) : Type 0 where
  pub fault : (run lines).fault ≡ None
  pub world : k.told.world ≡ (run lines).world
  pub ups : k.told.ups ≡ ups_of (run lines)
  pub spent : k.spent ≡ false
