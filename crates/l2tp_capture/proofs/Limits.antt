-- What passes no limit.
use Rattle.std.proofs.Common.{◌≡◌, ℕ, ◌≤◌, Bool, true, false, cond, ltb, ◌||◌, List, [], ◌++◌, length, Option, Some, None, refl, sym, ap, subst, arith}
use Rattle.std.proofs.lemmas.Bool.{ltb-false}
use Rattle.std.proofs.lemmas.List.{append-nil}
use Rattle.std.specs.Io.KnownBytes.{Consumes}
use Rattle.port_traits.specs.Limits.{byte_limit, line_limit, lines_begun, readable, passed, limit_passed}
use Rattle.port_traits.specs.Reads.{ReadsWithin, StopsReading}

neither : (a b : Bool) (n : ℕ) → cond (a || b) (Some n) None ≡ None → b ≡ false
neither true b n h = absurd (cc)
neither false true n h = absurd (cc)
neither false false n h = refl

bytes_within : (text : List ℕ) → limit_passed text ≡ None → length text ≤ byte_limit
unfolding limit_passed passed
bytes_within text h = ltb-false byte_limit (length text) (neither (ltb line_limit (lines_begun (readable text))) (ltb byte_limit (length text)) _ h)

-- what passes no limit is read without passing one
pub within_stops : (before after : Option (List ℕ)) → ReadsWithin before after → StopsReading before after
within_stops before after r =
    let same = append-nil r.bytes in
    let most = bytes_within r.bytes r.within in
    let long = ap length same in
    record {
      bytes = r.bytes;
      last = [];
      read = subst (λ (t : List ℕ). Consumes before after t) (sym same) r.read;
      within = r.within;
      one_piece = omega arith;
      most = omega arith;
    }
