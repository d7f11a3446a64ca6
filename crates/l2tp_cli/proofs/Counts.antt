-- How many lines a text has that passes no limit.
use Rattle.std.proofs.Common.{◌≡◌, inl, inr, ℕ, ◌+◌, ◌^◌, ◌<◌, ◌≤◌, Bool, true, false, cond, ltb, ◌||◌, List, [], ◌∷◌, ◌++◌, length, Some, None, refl, ap, arith}
use Rattle.std.proofs.lemmas.Bool.{ltb-false}
use Rattle.std.proofs.lemmas.List.{length-append}
use Rattle.port_traits.specs.Limits.{byte_limit, line_limit, lines_begun, readable, passed, limit_passed}
use Rattle.schedule_text.specs.declared.line.Line.{Line}
use Rattle.schedule_text.specs.Grammar.{IsText, IsSchedule, line_text, spelling}

-- each line has its line feed
lines_within : (lines : List Line) → length lines ≤ length (spelling lines)
lines_within [] = omega arith
lines_within (l ∷ lines) =
    let more = lines_within lines in
    let one = length-append (line_text l) (10 ∷ []) in
    let all = length-append (line_text l ++ 10 ∷ []) (spelling lines) in
    omega arith

lines_of_text : (text : List ℕ) (lines : List Line) → IsText text lines → length lines ≤ length text + 1
lines_of_text text lines (inl same) = let le = lines_within lines in let e = ap length same in omega arith
lines_of_text text lines (inr same) = let le = lines_within lines in let e = ap length same in let more = length-append text (10 ∷ []) in omega arith

neither : (a b : Bool) (n : ℕ) → cond (a || b) (Some n) None ≡ None → b ≡ false
neither true b n h = absurd (cc)
neither false true n h = absurd (cc)
neither false false n h = refl

pub bytes_within : (text : List ℕ) → limit_passed text ≡ None → length text ≤ byte_limit
unfolding limit_passed passed
bytes_within text h = ltb-false byte_limit (length text) (neither (ltb line_limit (lines_begun (readable text))) (ltb byte_limit (length text)) _ h)

pub few_lines : (text : List ℕ) (lines : List Line) → limit_passed text ≡ None → IsSchedule text lines → length lines < 2 ^ 47
few_lines text lines within is = let a = lines_of_text text lines is.spelled in let b = bytes_within text within in omega arith
