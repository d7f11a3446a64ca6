-- What the report of a run writes of what was sent, and what reading it gives.
use Rattle.std.specs.Prelude.{◌≡◌, ℕ, ◌+◌, List, ◌++◌}
use Rattle.schedule_text.specs.Reading.{text_lines}
use Rattle.world_model.specs.Texts.{send_text, frame_text}
use Rattle.report_reading.specs.declared.entry.Entry.TheVariants.{Datagram, Frame}
use Rattle.report_reading.specs.Grammar.{FitsSent}
use Rattle.report_reading.specs.Reading.{put_front, entries_from}

abbrev pub SendsAreRead : Type 0
SendsAreRead =
    (line packet from to : ℕ) (bytes : List ℕ) → FitsSent (Datagram line packet from to bytes) → (number : ℕ) (rest : List ℕ) →
    entries_from number (text_lines (send_text line packet from to bytes ++ rest))
    ≡ put_front (Datagram line packet from to bytes) (entries_from (number + 1) (text_lines rest))

abbrev pub FramesAreRead : Type 0
FramesAreRead =
    (line node : ℕ) (bytes : List ℕ) → FitsSent (Frame line node bytes) → (number : ℕ) (rest : List ℕ) →
    entries_from number (text_lines (frame_text line node bytes ++ rest))
    ≡ put_front (Frame line node bytes) (entries_from (number + 1) (text_lines rest))
