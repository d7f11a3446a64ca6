-- What the words of a command line ask for.
use Rattle.std.specs.Prelude.{ℕ, List, [], ◌∷◌, codes, bytes_eq, if◌then◌else◌}
use Rattle.l2tp_capture.specs.declared.words.Asked.{Asked}
use Rattle.l2tp_capture.specs.declared.words.Asked.TheVariants as asked

abbrev pub asked_by : List ℕ → Asked
asked_by word =
    if bytes_eq word (codes "--help") then asked.Help
    else if bytes_eq word (codes "--version") then asked.Version
    else asked.Nothing

-- one word at most
abbrev pub asked_of : List (List ℕ) → Asked
asked_of [] = asked.Capture
asked_of (word ∷ []) = asked_by word
asked_of (word ∷ others ∷ more) = asked.Nothing
