-- What each exit of the top call says of its source and of its sinks.
use Rattle.std.specs.Prelude.{◌≡◌, ◌⊎◌, ℕ, List, [], take, Option, Result, Ok, Err}
use Rattle.std.specs.Io.KnownBytes.{Appends, Keeps}
use Rattle.wire_base.specs.Causes.{Rose}
use Rattle.port_traits.specs.declared.moving.ReadError.{ReadError}
use Rattle.port_traits.specs.declared.moving.ReadError.TheVariants as reads
use Rattle.port_traits.specs.ReadCauses.{IsTextOf}
use Rattle.port_traits.specs.Reads.{ReadsWithin, StopsReading}
use Rattle.l2tp_capture.specs.declared.words.Asked.{Asked}
use Rattle.l2tp_capture.specs.declared.words.Asked.TheVariants as asked
use Rattle.l2tp_capture.specs.declared.exit.Exit.{Exit}
use Rattle.l2tp_capture.specs.declared.exit.Exit.TheVariants as exits
use Rattle.report_reading.specs.declared.error.ReportError.{ReportError}
use Rattle.l2tp_capture.specs.Due.{Due, due, bad_line_of, due_of}
use Rattle.l2tp_capture.specs.Texts.{help_text, version_text, usage_text, read_fault_text, bad_line_text, too_long_text}

-- what the words ask for comes to this; for a capture it is what a text comes to, the one that was left in the source, where the source
-- tells it
abbrev pub IsDue : Asked → Option (List ℕ) → Due → Type 0
IsDue asked.Capture left d = (text : List ℕ) × (d ≡ due_of text) × IsTextOf left text
IsDue asked.Help left d = d ≡ due exits.Ok help_text []
IsDue asked.Version left d = d ≡ due exits.Ok version_text []
IsDue asked.Nothing left d = d ≡ due exits.Usage [] usage_text

-- Before and after the call: the bytes left in the source and how often it failed, the bytes that the output took and how often it failed,
-- and the same of the sink of messages.
pub record Ports : Type 0 where
  pub left : Option (List ℕ)
  pub left_after : Option (List ℕ)
  pub source_before : ℕ
  pub source_after : ℕ
  pub out_before : ℕ
  pub out_after : ℕ
  pub taken_before : Option (List ℕ)
  pub taken_after : Option (List ℕ)
  pub err_before : ℕ
  pub err_after : ℕ
  pub told_before : Option (List ℕ)
  pub told_after : Option (List ℕ)

-- for a capture reading stops with the piece that passes a limit, and for other words nothing is read
abbrev pub IsRead : Asked → Ports → Type 0
IsRead asked.Capture p = StopsReading p.left p.left_after
IsRead asked.Help p = Keeps p.left p.left_after
IsRead asked.Version p = Keeps p.left p.left_after
IsRead asked.Nothing p = Keeps p.left p.left_after

-- the output took nothing, and didn't fail
abbrev pub WroteNothing : Ports → Type 0
WroteNothing p = (p.out_after ≡ p.out_before) × Appends p.taken_before p.taken_after []

-- no message was told, and the sink of messages didn't fail
abbrev pub ToldNothing : Ports → Type 0
ToldNothing p = (p.err_after ≡ p.err_before) × Appends p.told_before p.told_after []

-- a sink took all of a message, or failed and took a prefix of it
abbrev pub MayTell : List ℕ → ℕ → ℕ → Option (List ℕ) → Option (List ℕ) → Type 0
MayTell message before after told_before told_after =
    ((after ≡ before) × Appends told_before told_after message)
    ⊎ (Rose before after × ((n : ℕ) × Appends told_before told_after (take n message)))

-- all of the output that is due was written
pub record Wrote (a : Asked) (p : Ports) : Type 0 where
  pub output : List ℕ
  pub is_due : IsDue a p.left (due exits.Ok output [])
  pub is_read : IsRead a p
  pub no_read_fault : p.source_after ≡ p.source_before
  pub no_write_fault : p.out_after ≡ p.out_before
  pub written : Appends p.taken_before p.taken_after output
  pub quiet : ToldNothing p

-- no output was due, and a message was
pub record Warned (a : Asked) (e : Exit) (p : Ports) : Type 0 where
  pub message : List ℕ
  pub is_due : IsDue a p.left (due e [] message)
  pub is_read : IsRead a p
  pub no_read_fault : p.source_after ≡ p.source_before
  pub nothing : WroteNothing p
  pub told : MayTell message p.err_before p.err_after p.told_before p.told_after

-- the source failed at a read, and what was read before passes no limit
pub record FailedReading (a : Asked) (p : Ports) : Type 0 where
  pub ran : a ≡ asked.Capture
  pub rose : Rose p.source_before p.source_after
  pub is_read : ReadsWithin p.left p.left_after
  pub nothing : WroteNothing p
  pub told : MayTell read_fault_text p.err_before p.err_after p.told_before p.told_after

-- the output failed, and took a prefix of what was due
pub record FailedWriting (a : Asked) (p : Ports) : Type 0 where
  pub output : List ℕ
  pub is_due : IsDue a p.left (due exits.Ok output [])
  pub is_read : IsRead a p
  pub no_read_fault : p.source_after ≡ p.source_before
  pub rose : Rose p.out_before p.out_after
  pub count : ℕ
  pub prefix : Appends p.taken_before p.taken_after (take count output)
  pub quiet : ToldNothing p

-- memory was wanting, and nothing was written or told
pub record LackedMemory (p : Ports) : Type 0 where
  pub is_read : StopsReading p.left p.left_after
  pub no_read_fault : p.source_after ≡ p.source_before
  pub nothing : WroteNothing p
  pub quiet : ToldNothing p

-- what an exit says
abbrev pub Ends : Asked → Exit → Ports → Type 0
Ends a exits.Ok p = Wrote a p
Ends a exits.Usage p = Warned a exits.Usage p × (a ≡ asked.Nothing)
Ends a (exits.BadLine line) p = Warned a (exits.BadLine line) p
Ends a exits.ReadFault p = FailedReading a p
Ends a exits.WriteFault p = FailedWriting a p
Ends a (exits.TooLong lines) p = Warned a (exits.TooLong lines) p
Ends a exits.NoMemory p = LackedMemory p

-- a text was written, or the sink failed and took a prefix of it
abbrev pub Writes : Exit → List ℕ → ℕ → ℕ → Option (List ℕ) → Option (List ℕ) → Type 0
Writes result output before after taken_before taken_after =
    ((result ≡ exits.Ok) × (after ≡ before) × Appends taken_before taken_after output)
    ⊎ ((result ≡ exits.WriteFault) × Rose before after × ((n : ℕ) × Appends taken_before taken_after (take n output)))

-- a message was told as far as it could be, or nothing was where memory was wanting
abbrev pub Tells : Exit → Exit → List ℕ → ℕ → ℕ → Option (List ℕ) → Option (List ℕ) → Type 0
Tells result e message before after told_before told_after =
    ((result ≡ e) × MayTell message before after told_before told_after)
    ⊎ ((result ≡ exits.NoMemory) × (after ≡ before) × Appends told_before told_after [])

-- why a text wasn't read was told
abbrev pub TellsUnread : ReadError → Exit → ℕ → ℕ → Option (List ℕ) → Option (List ℕ) → Type 0
TellsUnread reads.Fault result before after told_before told_after =
    (result ≡ exits.ReadFault) × MayTell read_fault_text before after told_before told_after
TellsUnread (reads.TooLong lines) result before after told_before told_after =
    Tells result (exits.TooLong lines) (too_long_text lines) before after told_before told_after
TellsUnread reads.NoMemory result before after told_before told_after =
    (result ≡ exits.NoMemory) × (after ≡ before) × Appends told_before told_after []

-- both sinks, before and after
pub record Sinks : Type 0 where
  pub out_before : ℕ
  pub out_after : ℕ
  pub taken_before : Option (List ℕ)
  pub taken_after : Option (List ℕ)
  pub err_before : ℕ
  pub err_after : ℕ
  pub told_before : Option (List ℕ)
  pub told_after : Option (List ℕ)

-- a file was written and nothing told, or a bad line was told and nothing written; neither where memory was wanting
abbrev pub Shows : Result (List ℕ) ReportError → Exit → Sinks → Type 0
Shows (Ok file) result s =
    (Writes result file s.out_before s.out_after s.taken_before s.taken_after
    ⊎ ((result ≡ exits.NoMemory) × (s.out_after ≡ s.out_before) × Appends s.taken_before s.taken_after []))
    × (s.err_after ≡ s.err_before) × Appends s.told_before s.told_after []
Shows (Err e) result s =
    Tells result (exits.BadLine (bad_line_of e)) (bad_line_text (bad_line_of e)) s.err_before s.err_after s.told_before s.told_after
    × (s.out_after ≡ s.out_before) × Appends s.taken_before s.taken_after []
