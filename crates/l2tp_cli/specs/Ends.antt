-- What each exit of the top call says of its source and its sink.
use Rattle.std.specs.Prelude.{◌≡◌, ◌⊎◌, ℕ, List, [], take, Option}
use Rattle.std.specs.Io.KnownBytes.{Appends, Keeps}
use Rattle.wire_base.specs.Causes.{Rose}
use Rattle.port_traits.specs.ReadCauses.{IsTextOf}
use Rattle.port_traits.specs.Reads.{ReadsWithin, StopsReading}
use Rattle.l2tp_cli.specs.declared.words.Asked.{Asked}
use Rattle.l2tp_cli.specs.declared.words.Asked.TheVariants as asked
use Rattle.l2tp_cli.specs.declared.exit.Exit.{Exit}
use Rattle.l2tp_cli.specs.declared.exit.Exit.TheVariants as exits
use Rattle.l2tp_cli.specs.Due.{Due, due, due_of}
use Rattle.l2tp_cli.specs.Texts.{help_text, version_text, usage_text, read_fault_text}

-- what the words ask for comes to this; for a run it is what a text comes to, the one that was left in the source, where
-- the source tells it
abbrev pub IsDue : Asked → Option (List ℕ) → Due → Type 0
IsDue asked.Replay left d = (text : List ℕ) × (d ≡ due_of text) × IsTextOf left text
IsDue asked.Help left d = d ≡ due exits.Ok help_text
IsDue asked.Version left d = d ≡ due exits.Ok version_text
IsDue asked.Nothing left d = d ≡ due exits.Usage usage_text

-- the bytes left in the source, the counts of faults of source and sink, and the bytes that the sink took, before and
-- after the call
pub record Ports : Type 0 where
  pub left : Option (List ℕ)
  pub left_after : Option (List ℕ)
  pub source_before : ℕ
  pub source_after : ℕ
  pub sink_before : ℕ
  pub sink_after : ℕ
  pub taken_before : Option (List ℕ)
  pub taken_after : Option (List ℕ)

-- for a run reading stops with the piece that passes a limit, and for other words nothing is read
abbrev pub IsRead : Asked → Ports → Type 0
IsRead asked.Replay p = StopsReading p.left p.left_after
IsRead asked.Help p = Keeps p.left p.left_after
IsRead asked.Version p = Keeps p.left p.left_after
IsRead asked.Nothing p = Keeps p.left p.left_after

-- neither count rose, and all that is due was written
pub record IsWhole (a : Asked) (e : Exit) (p : Ports) : Type 0 where
  pub text : List ℕ
  pub is_due : IsDue a p.left (due e text)
  pub is_read : IsRead a p
  pub written : Appends p.taken_before p.taken_after text
  pub no_read_fault : p.source_after ≡ p.source_before
  pub no_write_fault : p.sink_after ≡ p.sink_before

-- the source failed at a read, and what was read before passes no limit
pub record FailedAtRead (a : Asked) (p : Ports) : Type 0 where
  pub ran : a ≡ asked.Replay
  pub rose : Rose p.source_before p.source_after
  pub is_read : ReadsWithin p.left p.left_after

-- the source failed, and that was written
pub record FailedReading (a : Asked) (p : Ports) : Type 0 where
  pub failed : FailedAtRead a p
  pub written : Appends p.taken_before p.taken_after read_fault_text
  pub no_write_fault : p.sink_after ≡ p.sink_before

-- what was due to be written: of a source that failed, or of the words
abbrev pub WasDue : Asked → Ports → List ℕ → Type 0
WasDue a p text =
    (FailedAtRead a p × (text ≡ read_fault_text))
    ⊎ ((p.source_after ≡ p.source_before) × IsRead a p × ((e : Exit) × IsDue a p.left (due e text)))

-- the sink failed, and took a prefix of what was due
pub record FailedWriting (a : Asked) (p : Ports) : Type 0 where
  pub rose : Rose p.sink_before p.sink_after
  pub text : List ℕ
  pub was_due : WasDue a p text
  pub count : ℕ
  pub prefix : Appends p.taken_before p.taken_after (take count text)

-- memory was wanting, and nothing was written
pub record LackedMemory (p : Ports) : Type 0 where
  pub is_read : StopsReading p.left p.left_after
  pub nothing : Appends p.taken_before p.taken_after []
  pub no_read_fault : p.source_after ≡ p.source_before
  pub no_write_fault : p.sink_after ≡ p.sink_before

-- what an exit says
abbrev pub Ends : Asked → Exit → Ports → Type 0
Ends a exits.Ok p = IsWhole a exits.Ok p
Ends a exits.Usage p = IsWhole a exits.Usage p × (a ≡ asked.Nothing)
Ends a (exits.BadLine line) p = IsWhole a (exits.BadLine line) p
Ends a (exits.Unfit line why) p = IsWhole a (exits.Unfit line why) p
Ends a (exits.HalfSpace line number count) p = IsWhole a (exits.HalfSpace line number count) p
Ends a (exits.Stale line sent own) p = IsWhole a (exits.Stale line sent own) p
Ends a (exits.StoreFull records) p = IsWhole a (exits.StoreFull records) p
Ends a exits.ReadFault p = FailedReading a p
Ends a exits.WriteFault p = FailedWriting a p
Ends a (exits.TooLong lines) p = IsWhole a (exits.TooLong lines) p
Ends a exits.NoMemory p = LackedMemory p

-- a text was written with its exit, or the sink failed and took a prefix of the text
abbrev pub Tells : Exit → Exit → List ℕ → ℕ → ℕ → Option (List ℕ) → Option (List ℕ) → Type 0
Tells result e text faults_before faults_after taken_before taken_after =
    ((result ≡ e) × (faults_after ≡ faults_before) × Appends taken_before taken_after text)
    ⊎ ((result ≡ exits.WriteFault) × Rose faults_before faults_after × ((n : ℕ) × Appends taken_before taken_after (take n text)))
