-- What is read fits into packets.
use Rattle.std.proofs.Common.{◌≡◌, ℕ, ◌+◌, List, [], ◌∷◌, Option, Some, None, Result, Ok, Err, refl, sym, subst, ◌∙◌}
use Rattle.std.specs.Prelude.{IfOk}
use Rattle.std.specs.List.{AllByRecursion}
use Rattle.wire_base.specs.Answers.{Gives}
use Rattle.schedule_text.specs.Reading.{text_lines}
use Rattle.report_reading.specs.declared.entry.Entry.{Entry}
use Rattle.report_reading.specs.declared.entry.Entry.TheVariants.{Datagram, Frame, Other}
use Rattle.report_reading.specs.declared.error.ReportError.{ReportError}
use Rattle.report_reading.specs.Grammar.{IsSpelled}
use Rattle.report_reading.specs.Reading.{Told, line_of, and_others, entries_from, entries_of, IsCarried}
use Rattle.report_reading.proofs.Entries.{next_is, none_left}
use Rattle.report_reading.proofs.Found.{line_found}

-- ---- one line

spelled_carried : (e : Entry) (text : List ℕ) → IsSpelled e text → IsCarried e
spelled_carried (Datagram line packet from to bytes) text h = ((h.0).4).1
spelled_carried (Frame line node bytes) text h = ((h.0).2).1
spelled_carried Other text h = tt

line_carried : (text : List ℕ) (e : Entry) → line_of text ≡ Some e → IsCarried e
line_carried text e h = spelled_carried e text (line_found text e h)

-- ---- all lines

one_carried : (o : Option Entry) (number : ℕ) (r : Result (List Entry) ReportError) (v : List Entry) → ((x : Entry) → o ≡ Some x → IsCarried x) → ((w : List Entry) → r ≡ Ok w → AllByRecursion IsCarried w) → and_others o number r ≡ Ok v → AllByRecursion IsCarried v
one_carried None number r v f g h = absurd (cc)
one_carried (Some e) number (Ok others) v f g h =
    let same : e ∷ others ≡ v = cc in
    subst (AllByRecursion IsCarried) same (f e refl, g others refl)
one_carried (Some e) number (Err x) v f g h = absurd (cc)

all_carried : (number : ℕ) (lines : List (List ℕ)) (v : List Entry) → entries_from number lines ≡ Ok v → AllByRecursion IsCarried v
all_carried number [] v h =
    let e : ◌≡◌ {A = Result (List Entry) ReportError} (Ok []) (Ok v) = sym (none_left number) ∙ h in
    let same : [] ≡ v = cc in
    subst (AllByRecursion IsCarried) same tt
all_carried number (bytes ∷ others) v h =
    one_carried (line_of bytes) number (entries_from (number + 1) others) v (line_carried bytes) (λ w. all_carried (number + 1) others w) (sym (next_is number bytes others (line_of bytes) refl) ∙ h)

pub report_carried : (text : List ℕ) (r : Result (List Entry) ReportError) → Gives Told (λ v. v) r (entries_of text) → IfOk r (AllByRecursion IsCarried)
report_carried text (Ok v) given = all_carried 1 (text_lines text) v given
report_carried text (Err e) given = tt
