-- The lines of a text, one after the other.
use Rattle.std.proofs.Common.{◌≡◌, ℕ, suc, ◌+◌, ◌<◌, ◌≤◌, false, eqb, List, [], ◌∷◌, ◌++◌, length, Option, Some, None, Ok, Err, refl, sym, ap, subst, ◌∙◌, arith, inl, inr}
use Rattle.std.specs.Prelude.{option_map}
use Rattle.std.proofs.lemmas.Bool.{cases_Bool, eq-eqb, ne_eqb}
use Rattle.std.proofs.lemmas.List.{append_assoc, append-nil, length-append}
use Rattle.schedule_text.specs.declared.line.Line.{Line}
use Rattle.schedule_text.specs.Reading.{cut, text_lines, line_of, front_of, after_line, lines_of}
use Rattle.schedule_text.specs.declared.error.ScheduleError.TheVariants.{BadLine}

-- ---- the first line

-- the first line, which ends at a line feed where the text was cut at one, and with the text otherwise
abbrev FirstLine : List ℕ → Option (List ℕ × List ℕ) → Type 0
FirstLine text None = 0 < length text → text_lines text ≡ text ∷ []
FirstLine text (Some parts) = (text_lines text ≡ parts.0 ∷ text_lines parts.1) × (length parts.1 < length text)

-- a byte more in front
further : (c : ℕ) (cs : List ℕ) (o : Option (List ℕ × List ℕ)) → eqb c 10 ≡ false → FirstLine cs o → FirstLine (c ∷ cs) (option_map {U = List ℕ × List ℕ} (λ parts. (c ∷ parts.0, parts.1)) o)
further c [] None e h = λ _. rw e refl
further c (d ∷ ds) None e h = λ _. rw (e, h (omega arith)) refl
further c cs (Some parts) e h = (rw (e, h.0) refl, omega (arith, h.1))

first_line : (text : List ℕ) → FirstLine text (cut 10 text)
first_line [] = λ some. absurd (omega arith)
first_line (c ∷ cs) =
    elim (cases_Bool (eqb c 10)) [
      | inl e ↦ rw e (rw e refl, omega arith)
      | inr e ↦ rw e (further c cs (cut 10 cs) e (first_line cs))
    ]

pub first_fed : (text line behind : List ℕ) → cut 10 text ≡ Some (line, behind) → (text_lines text ≡ line ∷ text_lines behind) × (length behind < length text)
first_fed text line behind e = subst (FirstLine text) e (first_line text)

pub first_unfed : (text : List ℕ) → cut 10 text ≡ None → 0 < length text → text_lines text ≡ text ∷ []
first_unfed text e = subst (FirstLine text) e (first_line text)

-- ---- the lines before the first bytes that spell none

pub front_some : (bytes : List ℕ) (others : List (List ℕ)) (l : Line) → line_of bytes ≡ Some l → front_of (bytes ∷ others) ≡ l ∷ front_of others
unfolding front_of
front_some bytes others l e = ap (λ o. after_line o (front_of others)) e

pub front_none : (bytes : List ℕ) (others : List (List ℕ)) → line_of bytes ≡ None → front_of (bytes ∷ others) ≡ []
unfolding front_of
front_none bytes others e = ap (λ o. after_line o (front_of others)) e

pub front_nil : front_of [] ≡ []
unfolding front_of
front_nil = refl

-- ---- all lines, or the first bad one

all_are : (text : List ℕ) → length (front_of (text_lines text)) ≡ length (text_lines text) → lines_of text ≡ Ok (front_of (text_lines text))
all_are text e = rw (eq-eqb (length (front_of (text_lines text))) (length (text_lines text)) e) refl

pub bad_is : (text : List ℕ) → length (front_of (text_lines text)) < length (text_lines text) → lines_of text ≡ Err (BadLine (length (front_of (text_lines text)) + 1))
bad_is text lt = rw (ne_eqb (length (front_of (text_lines text))) (length (text_lines text)) (λ e. omega arith)) refl

-- ---- the loop over the lines

-- these lines are read, and the rest of the text isn't
pub record Stands (text : List ℕ) (lines : List Line) (rest : List ℕ) : Type 0 where
  pub front : front_of (text_lines text) ≡ lines ++ front_of (text_lines rest)
  pub count : length (text_lines text) ≡ length lines + length (text_lines rest)
  pub within : length lines + length rest ≤ length text

pub goes_on : (text : List ℕ) (lines : List Line) (rest bytes behind : List ℕ) (l : Line) → Stands text lines rest → text_lines rest ≡ bytes ∷ text_lines behind → length behind < length rest → line_of bytes ≡ Some l → Stands text (lines ++ l ∷ []) behind
goes_on text lines rest bytes behind l h first shorter e =
    let longer : length (lines ++ l ∷ []) ≡ length lines + 1 = length-append lines (l ∷ []) in
    let count : length (text_lines rest) ≡ suc (length (text_lines behind)) = ap length first in
    record {
      front = h.front ∙ ap (λ t. lines ++ front_of t) first ∙ ap (λ t. lines ++ t) (front_some bytes (text_lines behind) l e) ∙ sym (append_assoc lines (l ∷ []) (front_of (text_lines behind)));
      count = let c = h.count in omega arith;
      within = let w = h.within in omega arith;
    }

pub stops : (text : List ℕ) (lines : List Line) (rest bytes behind : List ℕ) → Stands text lines rest → text_lines rest ≡ bytes ∷ text_lines behind → line_of bytes ≡ None → lines_of text ≡ Err (BadLine (length lines + 1))
stops text lines rest bytes behind h first e =
    let front : front_of (text_lines text) ≡ lines = h.front ∙ ap (λ t. lines ++ front_of t) first ∙ ap (λ t. lines ++ t) (front_none bytes (text_lines behind) e) ∙ append-nil lines in
    let count : length (text_lines rest) ≡ suc (length (text_lines behind)) = ap length first in
    bad_is text (let c = h.count in omega (arith, ap length front)) ∙ ap (λ (v : List Line). Err (BadLine (length v + 1))) front

pub is_done : (text : List ℕ) (lines : List Line) (rest : List ℕ) → Stands text lines rest → length rest ≡ 0 → lines_of text ≡ Ok lines
is_done text lines [] h e =
    let front : front_of (text_lines text) ≡ lines = h.front ∙ ap (λ t. lines ++ t) front_nil ∙ append-nil lines in
    all_are text (ap length front ∙ (let c = h.count in omega arith)) ∙ ap (λ (v : List Line). Ok v) front
is_done text lines (c ∷ cs) h e = absurd (omega arith)
