-- The runs, the steps and the tables, computed.
use Rattle.std.proofs.Common.{refl}
use Rattle.world_model.specs.Texts.{send_text}
use Rattle.run_examples.specs.Crashes.{FramesOutliveCrashes}
use Rattle.run_examples.specs.Crossing.{FramesCross}
use Rattle.run_examples.specs.Endings.{CallsEndOnce}
use Rattle.run_examples.specs.Held.{FramesAreHeld}
use Rattle.run_examples.specs.Leaving.{StepsLeaveRecords, left_on, left_from}
use Rattle.run_examples.specs.Messages.{MessagesAreTakenInOrder, MessagesAreAcknowledged, WindowsAreKept, OpeningsComeOnce}
use Rattle.run_examples.specs.Outlived.{OldPacketsAreRefused}
use Rattle.run_examples.specs.Owed.{LettersOwedAreCounted}
use Rattle.run_examples.specs.Recoveries.{OldEpochsAreRefused, BothEndsRecover, FrozenCallsEndSilently, TunnelsAreRecovered}
use Rattle.run_examples.specs.Refusals.{CallsAreRefused}
use Rattle.run_examples.specs.Rules.{DataAreNumbered, IdsRunOut}
use Rattle.run_examples.specs.Tables.{TablesTell}
use Rattle.run_examples.proofs.Computing.{computing}

pub frames_cross : FramesCross
unfolding computing
frames_cross = record { past = refl }

pub steps_leave_records : StepsLeaveRecords
unfolding computing left_on left_from
steps_leave_records = record { lac = refl; lns = refl }

pub calls_are_refused : CallsAreRefused
unfolding computing
calls_are_refused = record { entries = refl; tables = refl }

pub calls_end_once : CallsEndOnce
unfolding computing
calls_end_once = record { entries = refl; of_lns = refl; of_lac = refl; tables = refl }

pub frames_are_held : FramesAreHeld
unfolding computing
frames_are_held = record { entries = refl; sent = refl }

pub frames_outlive_crashes : FramesOutliveCrashes
unfolding computing
frames_outlive_crashes = record { past = refl }

pub letters_owed_are_counted : LettersOwedAreCounted
unfolding computing
letters_owed_are_counted = record {
  refused = refl;
  kept = refl;
  last = refl;
  none = refl;
  taken = refl;
  without = refl;
  stays = refl;
}

pub messages_are_taken_in_order : MessagesAreTakenInOrder
unfolding computing
messages_are_taken_in_order = record {
  next = refl;
  taken = refl;
  last = refl;
  first = refl;
  oldest = refl;
  last_kept = refl;
  oldest_kept = refl;
  ahead = refl;
  farthest = refl;
  ahead_kept = refl;
  farthest_kept = refl;
  too_many = refl;
  too_many_kept = refl;
}

pub messages_are_acknowledged : MessagesAreAcknowledged
unfolding computing
messages_are_acknowledged = record {
  waits = refl;
  waiting = refl;
  ignored = refl;
  before = refl;
  next = refl;
  behind = refl;
  next_kept = refl;
  by_alone = refl;
  by_ahead = refl;
  by_last = refl;
  by_next = refl;
  unsent = refl;
  old = refl;
}

pub windows_are_kept : WindowsAreKept
unfolding computing
windows_are_kept = record { eight = refl; one = refl }

pub openings_come_once : OpeningsComeOnce
unfolding computing
openings_come_once = record { again = refl; kept = refl; of_another = refl; with_another = refl }

pub old_packets_are_refused : OldPacketsAreRefused
unfolding computing
old_packets_are_refused = record { near = refl; ns = refl; nr = refl; both = refl; round = refl; without = refl }

pub tables_tell : TablesTell
unfolding computing
tables_tell = record { agreed = refl; of_lac = refl; of_lns = refl }

pub data_are_numbered : DataAreNumbered
unfolding computing
data_are_numbered = record { number = refl; wraps = refl; goes_on = refl; lcp = refl; behind = refl; none = refl; still = refl }

pub ids_run_out : IdsRunOut
unfolding computing
ids_run_out = record { tunnels = refl; tunnels_kept = refl; opening = refl; opening_kept = refl; sessions = refl; sessions_kept = refl }

pub old_epochs_are_refused : OldEpochsAreRefused
unfolding computing
old_epochs_are_refused = record { fault = refl }

pub both_ends_recover : BothEndsRecover
unfolding computing
both_ends_recover = record { tied = refl; marked = refl; tables = refl }

pub frozen_calls_end_silently : FrozenCallsEndSilently
unfolding computing
frozen_calls_end_silently = record { entries = refl; tables = refl }

pub tunnels_are_recovered : TunnelsAreRecovered
unfolding computing send_text
tunnels_are_recovered = record { entries = refl }
