-- The lines of a seed are in the grammar, and as many as were asked for and three more.
use Rattle.std.proofs.Common.{◌≡◌, ℕ, zero, suc, ◌+◌, ◌-◌, ◌*◌, ◌/◌, ◌%◌, ◌^◌, ◌<◌, ◌≤◌, min, max, Bool, true, false, nat_lt, ◌||◌, is_ok, List, [], ◌∷◌, ◌++◌, length, slice_index, Option, Some, None, IfSome, if◌then◌else◌, refl, arith}
use Rattle.std.specs.List.{AllByRecursion}
use Rattle.std.proofs.lemmas.Bool.{ltb-false}
use Rattle.std.proofs.lemmas.List.{length-append}
use Rattle.std.proofs.lemmas.Nat.{mod_below, shr_below}
use Rattle.hex.specs.Hex.{IsBytes}
use Rattle.schedule_text.specs.declared.line.Line.{Line}
use Rattle.schedule_text.specs.declared.line.Line.TheVariants.{Deliver}
use Rattle.schedule_text.specs.Grammar.{FitsLine, AreLines}
use Rattle.world_model.specs.World.{line}
use Rattle.world_model.specs.Run.{run}
use Rattle.schedule_making.specs.Drawing.{next_state, drawn, Drawn, deliver_of, drawn_deliver, drawn_ring, drawn_frame, drawn_data, drawn_down, drawn_hang, drawn_tick, drawn_crash, drawn_start, drawn_kind, drawn_line}
use Rattle.schedule_making.specs.Making.{passed_over, settled, with_line, opening, Making, drawn_on, making, lines_of_seed}

-- ---- one line

abbrev pub Fits : Option Line → Type 0
Fits o = IfSome o FitsLine

deliver_fits : (p : ℕ) → Fits (deliver_of p)
deliver_fits p = by (nat_lt p 1) refl (nat_lt 4294967295 p) refl
  where
    by : (a : Bool) → nat_lt p 1 ≡ a → (b : Bool) → nat_lt 4294967295 p ≡ b → Fits (if a || b then None else Some (Deliver p))
    by true low b high = tt
    by false low true high = tt
    by false low false high = (ltb-false p 1 low, ltb-false 4294967295 p high)

below : (bound x : ℕ) → 0 < bound → drawn bound x < bound
below bound x some = mod_below (next_state x / 2 ^ 33) bound some

byte : (xs : List ℕ) (a b c d : ℕ) → xs ≡ a ∷ b ∷ c ∷ d ∷ [] → a < 256 → b < 256 → c < 256 → d < 256 → (i : ℕ) → slice_index xs i < 256
byte xs a b c d is fa fb fc fd i = rw is (at i)
  where
    at : (i : ℕ) → slice_index (a ∷ b ∷ c ∷ d ∷ []) i < 256
    at zero = fa
    at (suc zero) = fb
    at (suc (suc zero)) = fc
    at (suc (suc (suc zero))) = fd
    at (suc (suc (suc (suc n)))) = omega arith

frame_fits : (x : ℕ) → IsBytes (drawn_frame x)
frame_fits x =
    let v = below 65536 x (omega arith) in
    byte (drawn_frame x) 0 33 (drawn 65536 x / 256) (drawn 65536 x % 256) refl (omega arith) (omega arith) (shr_below (drawn 65536 x) 8 8 v) (mod_below (drawn 65536 x) 256 (omega arith))

kind_fits : (packets kind x : ℕ) → Fits (drawn_kind packets kind x).line
unfolding drawn_kind drawn_deliver drawn_ring drawn_data drawn_down drawn_hang drawn_tick drawn_crash drawn_start
kind_fits packets kind x = by (nat_lt kind 60) (nat_lt kind 68) (nat_lt kind 76) (nat_lt kind 84) (nat_lt kind 88) (nat_lt kind 96) (nat_lt kind 98)
  where
    by : (a b c d e f g : Bool) → Fits (if a then drawn_deliver packets x else if b then drawn_ring x else if c then drawn_data x else if d then drawn_down x else if e then drawn_hang x else if f then drawn_tick x else if g then drawn_crash x else drawn_start x).line
    by true b c d e f g = deliver_fits (packets - drawn (max (min packets 12) 1) x)
    by false true c d e f g = let v = below 50 x (omega arith) in ((omega arith, omega arith), (omega arith, omega arith))
    by false false true d e f g = let v = below 200 x (omega arith) in ((omega arith, omega arith), (omega arith, omega arith), (omega arith, omega arith, frame_fits (next_state x)))
    by false false false true e f g = let v = below 200 x (omega arith) in ((omega arith, omega arith), (omega arith, omega arith), (omega arith, omega arith, frame_fits (next_state x)))
    by false false false false true f g = let v = below 200 x (omega arith) in ((omega arith, omega arith), (omega arith, omega arith))
    by false false false false false true g =
        let v = below 2 x (omega arith) in
        let t = below 3000 (next_state x) (omega arith) in
        ((omega arith, omega arith), omega arith)
    by false false false false false false true = let v = below 2 x (omega arith) in (omega arith, omega arith)
    by false false false false false false false = let v = below 2 x (omega arith) in (omega arith, omega arith)

remark_fits : FitsLine passed_over
remark_fits = ((omega arith, omega arith), ((omega arith, omega arith), tt))

settled_fits : (ls : List Line) (o : Option Line) → Fits o → FitsLine (settled ls o)
unfolding settled
settled_fits ls None fits = remark_fits
settled_fits ls (Some l) fits = by (is_ok (line (run ls).world (length ls + 1) l))
  where
    by : (b : Bool) → FitsLine (if b then l else passed_over)
    by true = fits
    by false = remark_fits

-- ---- all lines

with_one : (ls : List Line) (l : Line) → AreLines ls → FitsLine l → AreLines (ls ++ l ∷ [])
with_one [] l fits one = (one, tt)
with_one (x ∷ xs) l fits one = (fits.0, with_one xs l fits.1 one)

opening_fits : AreLines opening
opening_fits =
    (((omega arith, omega arith), tt), (((omega arith, omega arith), (omega arith, omega arith), tt, λ h. h), ((omega arith, omega arith), tt)))

pub making_fits : (seed count : ℕ) → AreLines (lines_of_seed seed count)
unfolding making drawn_on
making_fits seed zero = opening_fits
making_fits seed (suc n) =
    let m = making seed n in
    let packets = length (run m.lines).world.packets in
    with_one m.lines (settled m.lines (drawn_line packets m.state).line) (making_fits seed n) (settled_fits m.lines (drawn_line packets m.state).line (kind_fits packets (drawn 100 m.state) (next_state m.state)))

pub making_many : (seed count : ℕ) → length (lines_of_seed seed count) ≡ count + 3
unfolding making drawn_on
making_many seed zero = refl
making_many seed (suc n) =
    let m = making seed n in
    let packets = length (run m.lines).world.packets in
    let one = length-append m.lines (settled m.lines (drawn_line packets m.state).line ∷ []) in
    let rest = making_many seed n in
    omega arith
