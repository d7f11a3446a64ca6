-- The capture of a report.
use Rattle.std.specs.Prelude.{ℕ, List, [], ◌++◌, Result, Ok, Err}
use Rattle.std.specs.List.{flat_map}
use Rattle.report_reading.specs.declared.entry.Entry.{Entry}
use Rattle.report_reading.specs.declared.entry.Entry.TheVariants.{Datagram, Frame, Other}
use Rattle.report_reading.specs.declared.error.ReportError.{ReportError}
use Rattle.report_reading.specs.Reading.{entries_of}
use Rattle.capture_file.specs.Frames.{datagram_frame}
use Rattle.capture_file.specs.Files.{file_head, record_bytes}

-- the record of what a line tells: in the second of the line's number a datagram between two nodes, or a frame as it is
abbrev pub record_of : Entry → List ℕ
record_of (Datagram line packet from to bytes) = record_bytes line (datagram_frame packet from to bytes)
record_of (Frame line node bytes) = record_bytes line bytes
record_of Other = []

abbrev pub capture_with : List Entry → List ℕ
capture_with entries = file_head ++ flat_map record_of entries

abbrev pub capture_read : Result (List Entry) ReportError → Result (List ℕ) ReportError
capture_read (Ok entries) = Ok (capture_with entries)
capture_read (Err e) = Err e

-- the file of a text where each line is one of a report, or the first line that isn't
abbrev pub capture_of : List ℕ → Result (List ℕ) ReportError
capture_of text = capture_read (entries_of text)
