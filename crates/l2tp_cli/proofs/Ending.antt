-- From what was told to what the exit says.
use Rattle.std.proofs.Common.{◌≡◌, inl, inr, ℕ, List, [], length, Option, Some, None, Result, Ok, Err, refl, sym, ap, subst, arith}
use Rattle.std.specs.Prelude.{take}
use Rattle.std.proofs.lemmas.List.{append-nil}
use Rattle.std.specs.Io.KnownBytes.{Appends, Consumes, Keeps}
use Rattle.wire_base.specs.Causes.{Rose}
use Rattle.port_traits.specs.Limits.{limit_passed}
use Rattle.port_traits.specs.ReadCauses.{IsTextOf}
use Rattle.port_traits.specs.Reads.{ReadsWithin, StopsReading}
use Rattle.schedule_text.specs.declared.line.Line.{Line}
use Rattle.schedule_text.specs.declared.error.ScheduleError.{ScheduleError}
use Rattle.schedule_text.specs.Reading.{lines_of}
use Rattle.world_model.specs.declared.refusal.Refusal.{Refusal}
use Rattle.world_model.specs.declared.refusal.Refusal.TheVariants.{Unfit, HalfSpace, Stale, StoreFull}
use Rattle.world_model.specs.Run.{Run, run}
use Rattle.l2tp_cli.specs.declared.words.Asked.{Asked}
use Rattle.l2tp_cli.specs.declared.words.Asked.TheVariants as asked
use Rattle.l2tp_cli.specs.declared.exit.Exit.{Exit}
use Rattle.l2tp_cli.specs.declared.exit.Exit.TheVariants as exits
use Rattle.l2tp_cli.specs.Texts.{too_long_text}
use Rattle.l2tp_cli.specs.Due.{Due, due, refused, exit_of, due_of_run, due_of_lines, due_within, due_of}
use Rattle.l2tp_cli.specs.Texts.{read_fault_text}
use Rattle.l2tp_cli.proofs.Counts.{bytes_within}
use Rattle.l2tp_cli.specs.Ends.{IsDue, IsRead, Ports, IsWhole, FailedAtRead, FailedWriting, Ends, Tells}

-- the exits that a text comes to
abbrev pub IsReported : Exit → Type 0
IsReported exits.Ok = Unit {0}
IsReported exits.Usage = ⊥
IsReported (exits.BadLine line) = Unit {0}
IsReported (exits.Unfit line why) = Unit {0}
IsReported (exits.HalfSpace line number count) = Unit {0}
IsReported (exits.Stale line sent own) = Unit {0}
IsReported (exits.StoreFull records) = Unit {0}
IsReported exits.ReadFault = ⊥
IsReported exits.WriteFault = ⊥
IsReported (exits.TooLong lines) = Unit {0}
IsReported exits.NoMemory = ⊥

reported_refusal : (line : ℕ) (r : Refusal) → IsReported (refused line r)
reported_refusal line (Unfit why) = tt
reported_refusal line (HalfSpace number count) = tt
reported_refusal line (Stale sent own) = tt
reported_refusal line (StoreFull records) = tt

reported_fault : (f : Option (ℕ × Refusal)) → IsReported (exit_of f)
reported_fault None = tt
reported_fault (Some f) = reported_refusal f.0 f.1

reported_run : (r : Run) → IsReported (due_of_run r).exit
unfolding due_of_run
reported_run r = reported_fault r.fault

reported_lines : (r : Result (List Line) ScheduleError) → IsReported (due_of_lines r).exit
unfolding due_of_lines
reported_lines (Ok lines) = reported_run (run lines)
reported_lines (Err e) = tt

reported_within : (o : Option ℕ) (text : List ℕ) → IsReported (due_within o text).exit
unfolding due_within
reported_within None text = reported_lines (lines_of text)
reported_within (Some n) text = tt

reported : (text : List ℕ) → IsReported (due_of text).exit
unfolding due_of
reported text = reported_within (limit_passed text) text

-- a text that passes a limit, and one that passes none
pub due-too_long : (text : List ℕ) (n : ℕ) → limit_passed text ≡ Some n → due (exits.TooLong n) (too_long_text n) ≡ due_of text
unfolding due_of due_within
due-too_long text n e = rw e refl

pub due-lines : (text : List ℕ) → limit_passed text ≡ None → due_of_lines (lines_of text) ≡ due_of text
unfolding due_of due_within
due-lines text e = rw e refl

-- what was written whole ends the command so
whole_ends : (e : Exit) (p : Ports) → IsReported e → IsWhole asked.Replay e p → Ends asked.Replay e p
whole_ends exits.Ok p r h = h
whole_ends exits.Usage p r h = absurd r
whole_ends (exits.BadLine line) p r h = h
whole_ends (exits.Unfit line why) p r h = h
whole_ends (exits.HalfSpace line number count) p r h = h
whole_ends (exits.Stale line sent own) p r h = h
whole_ends (exits.StoreFull records) p r h = h
whole_ends exits.ReadFault p r h = absurd r
whole_ends exits.WriteFault p r h = absurd r
whole_ends (exits.TooLong lines) p r h = h
whole_ends exits.NoMemory p r h = absurd r

abbrev pub TellsPorts : Exit → Exit → List ℕ → Ports → Type 0
TellsPorts result e text p = Tells result e text p.sink_before p.sink_after p.taken_before p.taken_after

-- what a text comes to was told
pub told_run : (result e : Exit) (written text : List ℕ) (p : Ports) → due e written ≡ due_of text → IsTextOf p.left text → StopsReading p.left p.left_after → p.source_after ≡ p.source_before → TellsPorts result e written p → Ends asked.Replay result p
told_run result e written text p is left stops same (inl h) =
    let r : IsReported e = subst IsReported (ap (λ (d : Due). d.exit) (sym is)) (reported text) in
    subst (λ (x : Exit). Ends asked.Replay x p) (sym h.0)
    (whole_ends e p r (record { text = written; is_due = (text, is, left); is_read = stops; written = h.2; no_read_fault = same; no_write_fault = h.1 }))
told_run result e written text p is left stops same (inr h) =
    subst (λ (x : Exit). Ends asked.Replay x p) (sym h.0)
    (record { rose = h.1; text = written; was_due = inr (same, stops, (e, (text, is, left))); count = h.2.0; prefix = h.2.1 })

-- that the source failed was told
pub told_read_fault : (result : Exit) (p : Ports) → FailedAtRead asked.Replay p → TellsPorts result exits.ReadFault read_fault_text p → Ends asked.Replay result p
told_read_fault result p failed (inl h) =
    subst (λ (x : Exit). Ends asked.Replay x p) (sym h.0)
    (record { failed = failed; written = h.2; no_write_fault = h.1 })
told_read_fault result p failed (inr h) =
    subst (λ (x : Exit). Ends asked.Replay x p) (sym h.0)
    (record { rose = h.1; text = read_fault_text; was_due = inl (failed, refl); count = h.2.0; prefix = h.2.1 })

-- what passes no limit is read without passing one
pub within_stops : (before after : Option (List ℕ)) → ReadsWithin before after → StopsReading before after
within_stops before after r =
    let same = append-nil r.bytes in
    let most = bytes_within r.bytes r.within in
    let long = ap length same in
    record {
      bytes = r.bytes;
      last = [];
      read = subst (λ (t : List ℕ). Consumes before after t) (sym same) r.read;
      within = r.within;
      one_piece = omega arith;
      most = omega arith;
    }

-- nothing was read
pub none_read : (left : Option (List ℕ)) → Keeps left left
none_read None = tt
none_read (Some xs) = refl

-- what is due to words that ask for no run
pub record OwnText (a : Asked) (e : Exit) (text : List ℕ) (p : Ports) : Type 0 where
  pub is_due : IsDue a p.left (due e text)
  pub is_read : IsRead a p
  pub same : p.source_after ≡ p.source_before

own_whole : (a : Asked) (e : Exit) (text : List ℕ) (p : Ports) → OwnText a e text p → p.sink_after ≡ p.sink_before → Appends p.taken_before p.taken_after text → IsWhole a e p
own_whole a e text p own same all = record { text = text; is_due = own.is_due; is_read = own.is_read; written = all; no_read_fault = own.same; no_write_fault = same }

own_failed : (a : Asked) (e : Exit) (text : List ℕ) (p : Ports) → OwnText a e text p → Rose p.sink_before p.sink_after → ((n : ℕ) × Appends p.taken_before p.taken_after (take n text)) → FailedWriting a p
own_failed a e text p own rose some = record { rose = rose; text = text; was_due = inr (own.same, own.is_read, (e, own.is_due)); count = some.0; prefix = some.1 }

-- a text of the program's own, which ends Ok
pub told_own : (a b : Asked) (result : Exit) (text : List ℕ) (p : Ports) → b ≡ a → OwnText b exits.Ok text p → TellsPorts result exits.Ok text p → Ends a result p
told_own a b result text p asks own (inl h) =
    subst (λ (x : Asked). Ends x result p) asks (subst (λ (x : Exit). Ends b x p) (sym h.0) (own_whole b exits.Ok text p own h.1 h.2))
told_own a b result text p asks own (inr h) =
    subst (λ (x : Asked). Ends x result p) asks (subst (λ (x : Exit). Ends b x p) (sym h.0) (own_failed b exits.Ok text p own h.1 h.2))

-- how the program is used
pub told_usage : (a : Asked) (result : Exit) (text : List ℕ) (p : Ports) → asked.Nothing ≡ a → OwnText asked.Nothing exits.Usage text p → TellsPorts result exits.Usage text p → Ends a result p
told_usage a result text p nothing own (inl h) =
    subst (λ (x : Asked). Ends x result p) nothing (subst (λ (x : Exit). Ends asked.Nothing x p) (sym h.0) (own_whole asked.Nothing exits.Usage text p own h.1 h.2, refl))
told_usage a result text p nothing own (inr h) =
    subst (λ (x : Asked). Ends x result p) nothing (subst (λ (x : Exit). Ends asked.Nothing x p) (sym h.0) (own_failed asked.Nothing exits.Usage text p own h.1 h.2))

-- the text that was told, by another name
pub tells_same : (result e : Exit) (text same : List ℕ) (m n : ℕ) (before after : Option (List ℕ)) → text ≡ same → Tells result e text m n before after → Tells result e same m n before after
tells_same result e text same m n before after is h = subst (λ (t : List ℕ). Tells result e t m n before after) is h
