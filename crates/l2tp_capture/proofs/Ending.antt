-- From what was written and told to what the exit says.
use Rattle.std.proofs.Common.{◌≡◌, inl, inr, ℕ, List, [], Option, Some, None, Result, Ok, Err, refl, sym, ap, subst, ◌∙◌}
use Rattle.std.proofs.lemmas.List.{append-nil}
use Rattle.std.specs.Io.KnownBytes.{Appends, Keeps}
use Rattle.port_traits.specs.Limits.{limit_passed}
use Rattle.port_traits.specs.declared.moving.ReadError.{ReadError}
use Rattle.port_traits.specs.declared.moving.ReadError.TheVariants as reads
use Rattle.port_traits.specs.ReadCauses.{ReadHasCause, TellsLimit, IsTextOf}
use Rattle.port_traits.specs.Reads.{StopsReading, Stops}
use Rattle.report_reading.specs.declared.error.ReportError.{ReportError}
use Rattle.l2tp_capture.specs.declared.words.Asked.{Asked}
use Rattle.l2tp_capture.specs.declared.words.Asked.TheVariants as asked
use Rattle.l2tp_capture.specs.declared.exit.Exit.{Exit}
use Rattle.l2tp_capture.specs.declared.exit.Exit.TheVariants as exits
use Rattle.l2tp_capture.specs.Captures.{capture_of}
use Rattle.l2tp_capture.specs.Texts.{bad_line_text, too_long_text}
use Rattle.l2tp_capture.specs.Due.{Due, due, bad_line_of, due_of_capture, due_within, due_of}
use Rattle.l2tp_capture.specs.Ends.{IsDue, Ports, IsRead, WroteNothing, ToldNothing, MayTell, Wrote, Warned, FailedWriting, LackedMemory, Ends, Writes, TellsUnread, Sinks, Shows}

-- ---- what a text comes to

pub due-too_long : (text : List ℕ) (n : ℕ) → limit_passed text ≡ Some n → due (exits.TooLong n) [] (too_long_text n) ≡ due_of text
unfolding due_of due_within
due-too_long text n e = rw e refl

pub due-file : (text file : List ℕ) → limit_passed text ≡ None → capture_of text ≡ Ok file → due exits.Ok file [] ≡ due_of text
unfolding due_of due_within due_of_capture
due-file text file e is = rw (e, is) refl

pub due-bad_line : (text : List ℕ) (e : ReportError) → limit_passed text ≡ None → capture_of text ≡ Err e → due (exits.BadLine (bad_line_of e)) [] (bad_line_text (bad_line_of e)) ≡ due_of text
unfolding due_of due_within due_of_capture
due-bad_line text e limit is = rw (limit, is) refl

-- ---- what was written

-- what is due, where all of it is output
pub record OwnOutput (a : Asked) (output : List ℕ) (p : Ports) : Type 0 where
  pub is_due : IsDue a p.left (due exits.Ok output [])
  pub is_read : IsRead a p
  pub same : p.source_after ≡ p.source_before
  pub quiet : ToldNothing p

pub written : (a : Asked) (result : Exit) (output : List ℕ) (p : Ports) → OwnOutput a output p → Writes result output p.out_before p.out_after p.taken_before p.taken_after → Ends a result p
written a result output p own (inl h) =
    subst (λ (x : Exit). Ends a x p) (sym h.0)
    (record { output = output; is_due = own.is_due; is_read = own.is_read; no_read_fault = own.same; no_write_fault = h.1; written = h.2; quiet = own.quiet })
written a result output p own (inr h) =
    subst (λ (x : Exit). Ends a x p) (sym h.0)
    (record { output = output; is_due = own.is_due; is_read = own.is_read; no_read_fault = own.same; rose = h.1; count = h.2.0; prefix = h.2.1; quiet = own.quiet })

-- where the words ask for that
pub written_asked : (a b : Asked) (result : Exit) (output : List ℕ) (p : Ports) → b ≡ a → OwnOutput b output p → Writes result output p.out_before p.out_after p.taken_before p.taken_after → Ends a result p
written_asked a b result output p is own w = subst (λ (x : Asked). Ends x result p) is (written b result output p own w)

-- nothing was added
pub none_added : (taken : Option (List ℕ)) → Appends taken taken []
none_added None = tt
none_added (Some xs) = sym (append-nil xs)

-- nothing was read
pub none_read : (left : Option (List ℕ)) → Keeps left left
none_read None = tt
none_read (Some xs) = refl

-- ---- a text that was read

pub record IsOf (text : List ℕ) (p : Ports) : Type 0 where
  pub limit : limit_passed text ≡ None
  pub left : IsTextOf p.left text
  pub is_read : StopsReading p.left p.left_after
  pub same : p.source_after ≡ p.source_before

abbrev pub sinks_of : Ports → Sinks
sinks_of p = record { out_before = p.out_before; out_after = p.out_after; taken_before = p.taken_before; taken_after = p.taken_after; err_before = p.err_before; err_after = p.err_after; told_before = p.told_before; told_after = p.told_after }

lacked : (result : Exit) (p : Ports) → result ≡ exits.NoMemory → StopsReading p.left p.left_after → p.source_after ≡ p.source_before → WroteNothing p → ToldNothing p → Ends asked.Capture result p
lacked result p is read same nothing quiet =
    subst (λ (x : Exit). Ends asked.Capture x p) (sym is) (record { is_read = read; no_read_fault = same; nothing = nothing; quiet = quiet })

shown_by : (text : List ℕ) (r : Result (List ℕ) ReportError) (result : Exit) (p : Ports) → capture_of text ≡ r → IsOf text p → Shows r result (sinks_of p) → Ends asked.Capture result p
shown_by text (Ok file) result p e h (inl w, same, none) =
    written asked.Capture result file p (record { is_due = (text, due-file text file h.limit e, h.left); is_read = h.is_read; same = h.same; quiet = (same, none) }) w
shown_by text (Ok file) result p e h (inr l, same, none) = lacked result p l.0 h.is_read h.same (l.1, l.2) (same, none)
shown_by text (Err x) result p e h (inl t, same, none) =
    subst (λ (y : Exit). Ends asked.Capture y p) (sym t.0)
    (record { message = bad_line_text (bad_line_of x); is_due = (text, due-bad_line text x h.limit e, h.left); is_read = h.is_read; no_read_fault = h.same; nothing = (same, none); told = t.1 })
shown_by text (Err x) result p e h (inr l, same, none) = lacked result p l.0 h.is_read h.same (same, none) (l.1, l.2)

pub shown : (text lent : List ℕ) (result : Exit) (p : Ports) → lent ≡ text → IsOf text p → Shows (capture_of lent) result (sinks_of p) → Ends asked.Capture result p
shown text lent result p is h s = shown_by text (capture_of lent) result p (ap capture_of (sym is)) h s

-- ---- a text that wasn't read

abbrev pub TellsOf : ReadError → Exit → Ports → Type 0
TellsOf error result p = TellsUnread error result p.err_before p.err_after p.told_before p.told_after

pub unread : (T : Type 0) (error : ReadError) (result : Exit) (p : Ports) → TellsLimit {T = T} p.left (Err error) → Stops {T = T} p.left p.left_after (Err error) → ReadHasCause {T = T} p.source_before p.source_after (Err error) → WroteNothing p → TellsOf error result p → Ends asked.Capture result p
unread T reads.Fault result p limit stops cause nothing told =
    subst (λ (x : Exit). Ends asked.Capture x p) (sym told.0) (record { ran = refl; rose = cause; is_read = stops; nothing = nothing; told = told.1 })
unread T (reads.TooLong lines) result p limit stops cause nothing (inl told) =
    subst (λ (x : Exit). Ends asked.Capture x p) (sym told.0)
    (record { message = too_long_text lines; is_due = (limit.0, due-too_long limit.0 lines limit.1, limit.2); is_read = stops; no_read_fault = cause; nothing = nothing; told = told.1 })
unread T (reads.TooLong lines) result p limit stops cause nothing (inr told) = lacked result p told.0 stops cause nothing (told.1, told.2)
unread T reads.NoMemory result p limit stops cause nothing told = lacked result p told.0 stops cause nothing (told.1, told.2)
