-- What holds over every list of lines.
use Rattle.recv_window.specs.Window.{ClassIsTrue}
use Rattle.world_model.specs.Run.{run}
use Rattle.step_laws.specs.Steps.{StepsAreChains, StepsAreNoStarts}
use Rattle.step_laws.specs.Ups.{ReadsAreFew}
use Rattle.frame_laws.specs.Codecs.{Codecs}
use Rattle.connection_laws.specs.Channels.{HoldsInRuns, LettersOfRuns, AcksOfRuns, NumbersOfRuns}
use Rattle.connection_laws.proofs.Moves.{moves_keep}
use Rattle.connection_laws.proofs.Closing.{closings_are_known}
use Rattle.connection_laws.proofs.Declining.{declines_are_of_openings}
use Rattle.connection_laws.proofs.AnyHeard.{openings_are_acceptable, none_asks_for_sessions}
use Rattle.connection_laws.proofs.Worlds.{Laws}
use Rattle.connection_laws.proofs.Runs.{holds_in_runs, lines_go_on}
use Rattle.connection_laws.specs.Steps.{LinesGoOn}
use Rattle.connection_laws.proofs.Acks.{letters_carried, acks_true}
use Rattle.connection_laws.proofs.Readings.{numbers_read}

module _ (codecs : Codecs) (chains : StepsAreChains) (starts : StepsAreNoStarts) (reads : ReadsAreFew) (classes : ClassIsTrue) where
  laws : Laws
  laws = record {
    moves = moves_keep codecs classes;
    chains = chains;
    reads = reads;
    closings = closings_are_known codecs;
    declines = declines_are_of_openings codecs;
    acceptable = openings_are_acceptable codecs;
    unasked = none_asks_for_sessions codecs;
    starts = starts;
  }

  pub facts_of_runs : HoldsInRuns
  facts_of_runs lines fits calm few = holds_in_runs codecs laws lines fits calm few

  pub letters_of_runs : LettersOfRuns
  letters_of_runs lines fits calm few = letters_carried (run lines) (facts_of_runs lines fits calm few)

  pub acks_of_runs : AcksOfRuns
  acks_of_runs lines fits calm few = acks_true (run lines) (facts_of_runs lines fits calm few)

  pub numbers_of_runs : NumbersOfRuns
  numbers_of_runs lines fits calm few = numbers_read codecs classes (run lines) (facts_of_runs lines fits calm few)

  pub lines_of_runs : LinesGoOn
  lines_of_runs most number r ok room l fits calm x h = lines_go_on codecs laws most number r ok room l fits calm x h
