-- The loop over the lines of a report.
use Rattle.std.proofs.Common.{◌≡◌, ℕ, ◌+◌, ◌≤◌, ◌<◌, List, [], ◌∷◌, ◌++◌, length, Option, Some, None, Result, Ok, Err, refl, sym, ap, ◌∙◌, append_assoc, arith}
use Rattle.std.proofs.lemmas.List.{append-nil, length-append}
use Rattle.schedule_text.specs.Reading.{text_lines}
use Rattle.report_reading.specs.declared.entry.Entry.{Entry}
use Rattle.report_reading.specs.declared.error.ReportError.{ReportError}
use Rattle.report_reading.specs.declared.error.ReportError.TheVariants.{BadLine}
use Rattle.report_reading.specs.Reading.{line_of, put_front, and_others, entries_from, entries_of}

-- entries before those that are read
abbrev pub with_front : List Entry → Result (List Entry) ReportError → Result (List Entry) ReportError
with_front front (Ok others) = Ok (front ++ others)
with_front front (Err e) = Err e

no_front : (r : Result (List Entry) ReportError) → with_front [] r ≡ r
no_front (Ok others) = refl
no_front (Err e) = refl

one_in_front : (front : List Entry) (e : Entry) (r : Result (List Entry) ReportError) → with_front (front ++ e ∷ []) r ≡ with_front front (put_front e r)
one_in_front front e (Ok others) = ap (λ (v : List Entry). Ok v) (append_assoc front (e ∷ []) others)
one_in_front front e (Err x) = refl

-- these entries are read, and the rest of the text isn't
pub record Stands (text : List ℕ) (entries : List Entry) (rest : List ℕ) : Type 0 where
  pub all : entries_of text ≡ with_front entries (entries_from (length entries + 1) (text_lines rest))
  pub within : length entries + length rest ≤ length text

pub begins : (text : List ℕ) → Stands text [] text
begins text = record { all = sym (no_front (entries_of text)); within = omega arith }

pub next_is : (number : ℕ) (bytes : List ℕ) (others : List (List ℕ)) (o : Option Entry) → line_of bytes ≡ o → entries_from number (bytes ∷ others) ≡ and_others o number (entries_from (number + 1) others)
unfolding entries_from
next_is number bytes others o e = ap (λ x. and_others x number (entries_from (number + 1) others)) e

pub none_left : (number : ℕ) → entries_from number [] ≡ Ok []
unfolding entries_from
none_left number = refl

pub goes_on : (text : List ℕ) (entries : List Entry) (rest bytes behind : List ℕ) (e : Entry) → Stands text entries rest → text_lines rest ≡ bytes ∷ text_lines behind → length behind < length rest → line_of bytes ≡ Some e → Stands text (entries ++ e ∷ []) behind
goes_on text entries rest bytes behind e h first shorter is =
    let longer : length (entries ++ e ∷ []) ≡ length entries + 1 = length-append entries (e ∷ []) in
    let step : entries_from (length entries + 1) (text_lines rest) ≡ put_front e (entries_from (length entries + 1 + 1) (text_lines behind)) =
    ap (entries_from (length entries + 1)) first ∙ next_is (length entries + 1) bytes (text_lines behind) (Some e) is in
    let count : entries_from (length entries + 1 + 1) (text_lines behind) ≡ entries_from (length (entries ++ e ∷ []) + 1) (text_lines behind) =
    ap (λ (n : ℕ). entries_from (n + 1) (text_lines behind)) (sym longer) in
    record {
      all = h.all ∙ ap (with_front entries) step ∙ sym (one_in_front entries e (entries_from (length entries + 1 + 1) (text_lines behind))) ∙ ap (with_front (entries ++ e ∷ [])) count;
      within = let w = h.within in omega arith;
    }

pub stops : (text : List ℕ) (entries : List Entry) (rest bytes behind : List ℕ) → Stands text entries rest → text_lines rest ≡ bytes ∷ text_lines behind → line_of bytes ≡ None → entries_of text ≡ Err (BadLine (length entries + 1))
stops text entries rest bytes behind h first is =
    h.all ∙ ap (λ (p : List (List ℕ)). with_front entries (entries_from (length entries + 1) p)) first ∙ ap (with_front entries) (next_is (length entries + 1) bytes (text_lines behind) None is)

pub is_done : (text : List ℕ) (entries : List Entry) (rest : List ℕ) → Stands text entries rest → length rest ≡ 0 → entries_of text ≡ Ok entries
is_done text entries [] h e = h.all ∙ ap (with_front entries) (none_left (length entries + 1)) ∙ ap (λ (v : List Entry). Ok v) (append-nil entries)
is_done text entries (c ∷ cs) h e = absurd (omega arith)
