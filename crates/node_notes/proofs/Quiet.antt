-- Moves that make no line, and those that make one.
use Rattle.std.proofs.Common.{◌≡◌, ℕ, suc, ◌+◌, List, [], ◌∷◌, ◌++◌, length, refl, ap, Bool, true, false}
use Rattle.std.proofs.lemmas.Bool.{eqb-true}
use Rattle.std.proofs.Common.{arith}
use Rattle.std.specs.Prelude.{option_to_list, ◌&&◌, ◌==◌, Option, None}
use Rattle.std.specs.List.{flat_map, list_all}
use Rattle.wire_base.specs.declared.cause.Cause.{Cause}
use Rattle.end_model.specs.declared.moves.Move.{Move}
use Rattle.end_model.specs.declared.moves.Move.TheVariants as move
use Rattle.node_notes.specs.declared.note.Note.{Note}
use Rattle.node_notes.specs.Notes.{note_of, missing, notes_at, notes_by, causes_of, cause_for, causes_behind, tells_code}
use Rattle.node_notes.specs.Texts.{note_text}
use Rattle.node_notes.specs.Telling.{is_quiet, lines_in, QuietMovesMakeNoText, MovesHaveTheirNotes}

-- ---- a quiet move has no note, and any other has one

none_missing : (tunnel : ℕ) (calls : List ℕ) → (length calls == 0) ≡ true → missing tunnel calls ≡ []
none_missing tunnel [] h = refl
none_missing tunnel (s ∷ ss) h = absurd (let z : length (s ∷ ss) ≡ 0 = eqb-true (length (s ∷ ss)) 0 h in omega arith)

silent : (m : Move) (cause : Option Cause) → is_quiet m ≡ true → notes_at m cause ≡ []
unfolding notes_at note_of
silent (move.Connected m) cause h = cc
silent (move.Confirmed m) cause h = cc
silent (move.Closed m) cause h = cc
silent (move.Rejected m) cause h = cc
silent (move.ClosedBy m) cause h = cc
silent (move.Cleared i booked) cause h = cc
silent (move.FirstUp m) cause h = cc
silent (move.SecondUp m) cause h = cc
silent (move.EndTold m) cause h = cc
silent (move.EndHeard m) cause h = cc
silent (move.EndSilent m) cause h = cc
silent (move.Restored m) cause h = cc
silent (move.Forgot m) cause h = cc
silent (move.Froze m) cause h = cc
silent (move.ResetAttempting m) cause h = cc
silent (move.ResetAnswering m) cause h = cc
silent (move.TookAnswer m) cause h = none_missing m.tunnel m.ended h
silent m cause h = refl

-- ---- of a list

both : (a b : Bool) → a && b ≡ true → (a ≡ true) × (b ≡ true)
both true b h = (refl, h)
both false b h = (h, cc)

no_note : (causes : List Cause) (ms : List Move) → list_all is_quiet ms ≡ true → notes_by causes ms ≡ []
unfolding notes_by
no_note causes [] h = refl
no_note causes (m ∷ ms) h =
    let each = both (is_quiet m) (list_all is_quiet ms) h in
    let here = silent m (cause_for (tells_code m) causes) each.0 in
    let later = no_note (causes_behind (tells_code m) causes) ms each.1 in
    rw (here, later) refl

pub quiet_makes_no_text : QuietMovesMakeNoText
quiet_makes_no_text moves outputs h = ap (λ (ns : List Note). flat_map note_text ns) (no_note (causes_of outputs) moves h)

each_missing : (tunnel : ℕ) (calls : List ℕ) (ns : List Note) (n : ℕ) → length ns ≡ n → length (missing tunnel calls ++ ns) ≡ n + length calls
each_missing tunnel [] ns n h = omega (arith, h)
each_missing tunnel (s ∷ ss) ns n h = omega (arith, each_missing tunnel ss ns n h)

one_more : (m : Move) (cause : Option Cause) (ns : List Note) (ms : List Move) → length ns ≡ lines_in ms
    → length (notes_at m cause ++ ns) ≡ lines_in (m ∷ ms)
unfolding notes_at note_of
one_more (move.Connected m) cause ns ms h = omega (arith, h)
one_more (move.Confirmed m) cause ns ms h = omega (arith, h)
one_more (move.Closed m) cause ns ms h = omega (arith, h)
one_more (move.Rejected m) cause ns ms h = omega (arith, h)
one_more (move.ClosedBy m) cause ns ms h = omega (arith, h)
one_more (move.Cleared i booked) cause ns ms h = omega (arith, h)
one_more (move.FirstUp m) cause ns ms h = omega (arith, h)
one_more (move.SecondUp m) cause ns ms h = omega (arith, h)
one_more (move.EndTold m) cause ns ms h = omega (arith, h)
one_more (move.EndHeard m) cause ns ms h = omega (arith, h)
one_more (move.EndSilent m) cause ns ms h = omega (arith, h)
one_more (move.Restored m) cause ns ms h = omega (arith, h)
one_more (move.Forgot m) cause ns ms h = omega (arith, h)
one_more (move.Froze m) cause ns ms h = omega (arith, h)
one_more (move.ResetAttempting m) cause ns ms h = omega (arith, h)
one_more (move.ResetAnswering m) cause ns ms h = omega (arith, h)
one_more (move.TookAnswer m) cause ns ms h = each_missing m.tunnel m.ended ns (lines_in ms) h
one_more m cause ns ms h = omega (arith, h)

as_many : (causes : List Cause) (ms : List Move) → length (notes_by causes ms) ≡ lines_in ms
unfolding notes_by
as_many causes [] = refl
as_many causes (m ∷ ms) =
    one_more m (cause_for (tells_code m) causes) (notes_by (causes_behind (tells_code m) causes) ms) ms
    (as_many (causes_behind (tells_code m) causes) ms)

pub moves_have_each : MovesHaveTheirNotes
moves_have_each moves outputs = as_many (causes_of outputs) moves
