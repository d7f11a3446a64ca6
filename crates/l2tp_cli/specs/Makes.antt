-- What each exit of `make` says of the sink.
use Rattle.std.specs.Prelude.{◌≡◌, ◌⊎◌, ℕ, List, [], Option, Some, None}
use Rattle.std.specs.Io.KnownBytes.{Appends}
use Rattle.schedule_making.specs.Summaries.{summary_of, summary_text}
use Rattle.l2tp_cli.specs.declared.exit.Exit.{Exit}
use Rattle.l2tp_cli.specs.declared.exit.Exit.TheVariants as exits
use Rattle.l2tp_cli.specs.Ends.{Tells}
use Rattle.l2tp_cli.specs.Texts.{make_usage_text}

-- By the seed and the number of drawn lines that the words ask for: the summary of the run of these lines was written, or memory was
-- wanting and nothing was. Other words have the usage. Where the sink failed it took a prefix of what was due.
abbrev pub Makes : Option (ℕ × ℕ) → Exit → ℕ → ℕ → Option (List ℕ) → Option (List ℕ) → Type 0
Makes None result faults_before faults_after taken_before taken_after =
    Tells result exits.Usage make_usage_text faults_before faults_after taken_before taken_after
Makes (Some asked) result faults_before faults_after taken_before taken_after =
    Tells result exits.Ok (summary_text (summary_of asked.0 asked.1)) faults_before faults_after taken_before taken_after
    ⊎ ((result ≡ exits.NoMemory) × (faults_after ≡ faults_before) × Appends taken_before taken_after [])
