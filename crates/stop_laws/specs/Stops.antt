-- A step that is cut after a prefix of its records.
use Rattle.std.specs.Prelude.{◌≡◌, true, List, ◌++◌}
use Rattle.epoch_machine.specs.Worlds.{World, all_rules}
use Rattle.epoch_machine.specs.Moves.{Move, Kept, Stops, falls, step, after}
use Rattle.epoch_laws.specs.Epochs.{EpochsHold}
use Rattle.epoch_laws.specs.Answers.{AnswersHold}
use Rattle.letter_laws.specs.Letters.{LettersHold}
use Rattle.birth_laws.specs.Births.{CallsHold, LettersMean}
use Rattle.coverage_laws.specs.Coverage.{StatesHold, QueriesHold, PairsCovered, EndsAgree}
use Rattle.stop_laws.specs.Records.{node_of, records_of, writes, each_allowed, SameBook}

-- of a step these records were written, and then its node went down
abbrev pub cut : World → Move → List Kept → World
cut w m ks = falls (writes w ks) (node_of w m)

-- a list of moves leads to this world
pub record IsReached (w : World) : Type 0 where
  pub moves : List Move
  pub reached : after all_rules moves ≡ w

-- every invariant, and both conclusions
pub record AllHolds (w : World) : Type 0 where
  pub epochs : EpochsHold w.tunnels
  pub answers : AnswersHold w.tunnels
  pub letters : LettersHold w.tunnels w.channels
  pub births : CallsHold w.tunnels w.calls
  pub meanings : LettersMean w.tunnels w.channels w.calls
  pub states : StatesHold w.tunnels w.calls
  pub queries : QueriesHold w.tunnels w.channels w.calls
  pub pairs_covered : PairsCovered w
  pub ends_agree : EndsAgree w

-- over every list of moves from the empty world, and every move after it
pub record StopsAmidSteps : Type 0 where
  -- the step's records make of the book what the step makes of it
  pub same_book : (ms : List Move) (m : Move) → SameBook (writes (after all_rules ms) (records_of (after all_rules ms) m)) (step all_rules (after all_rules ms) m)
  -- each prefix of them may be kept, and the step that is cut there is a stop
  pub allowed : (ms : List Move) (m : Move) (ks rest : List Kept) → ks ++ rest ≡ records_of (after all_rules ms) m → each_allowed (after all_rules ms) (node_of (after all_rules ms) m) ks ≡ true
  pub is_stop : (ms : List Move) (m : Move) (ks rest : List Kept) → ks ++ rest ≡ records_of (after all_rules ms) m → step all_rules (after all_rules ms) (Stops (node_of (after all_rules ms) m) ks) ≡ cut (after all_rules ms) m ks
  -- so it's where a list of moves leads, and keeps all
  pub is_reached : (ms : List Move) (m : Move) (ks rest : List Kept) → ks ++ rest ≡ records_of (after all_rules ms) m → IsReached (cut (after all_rules ms) m ks)
  pub keeps_all : (ms : List Move) (m : Move) (ks rest : List Kept) → ks ++ rest ≡ records_of (after all_rules ms) m → AllHolds (cut (after all_rules ms) m ks)
