-- Records of a checkpoint, each told by a note.
use Rattle.std.proofs.Common.{List, [], ◌∷◌, ◌++◌, map, refl, Bool, true, false}
use Rattle.std.specs.Prelude.{ℕ, option_to_list, Option}
use Rattle.std.specs.List.{flat_map}
use Rattle.wire_base.specs.declared.cause.Cause.{Cause}
use Rattle.session_book.specs.declared.record.Record.{Record}
use Rattle.session_book.specs.declared.record.Record.TheVariants.{TunnelDown, CallDown}
use Rattle.end_model.specs.declared.moves.Move.{Move}
use Rattle.end_model.specs.declared.moves.Move.TheVariants as move
use Rattle.end_model.specs.Contents.{records_of, call_down, tunnel_down, mark_by}
use Rattle.node_notes.specs.declared.note.Note.{Note}
use Rattle.node_notes.specs.Notes.{note_of, missing, notes_at, notes_by, causes_of, cause_for, causes_behind, tells_code}
use Rattle.node_notes.specs.Telling.{Tells, AreTold, NoneLeft, ToldBy, ToldLater, Untold, RecordsHaveTheirNotes}

-- where something goes that the checkpoint has, its note tells that
call_told : (b : Bool) (s : ℕ) (n : Note) (rs : List Record) (ns : List Note) → Tells (CallDown s) n → AreTold rs ns
    → AreTold (call_down b s ++ rs) (n ∷ ns)
call_told true s n rs ns h later = ToldBy (CallDown s) rs n ns h later
call_told false s n rs ns h later = ToldLater rs n ns later

tunnel_told : (b : Bool) (i : ℕ) (n : Note) (rs : List Record) (ns : List Note) → Tells (TunnelDown i) n → AreTold rs ns
    → AreTold (tunnel_down b i ++ rs) (n ∷ ns)
tunnel_told true i n rs ns h later = ToldBy (TunnelDown i) rs n ns h later
tunnel_told false i n rs ns h later = ToldLater rs n ns later

-- a mark that rises has no note of its own
mark_untold : (b : Bool) (i mark : ℕ) (n : Note) (rs : List Record) (ns : List Note) → AreTold rs ns
    → AreTold (mark_by b i mark ++ rs) (n ∷ ns)
mark_untold true i mark n rs ns later = Untold i mark rs (n ∷ ns) (ToldLater rs n ns later)
mark_untold false i mark n rs ns later = ToldLater rs n ns later

-- each call that ends by an answer is told by its note
missing_told : (tunnel : ℕ) (calls : List ℕ) (rs : List Record) (ns : List Note) → AreTold rs ns
    → AreTold (map (λ s. CallDown s) calls ++ rs) (missing tunnel calls ++ ns)
missing_told tunnel [] rs ns later = later
missing_told tunnel (s ∷ ss) rs ns later =
    ToldBy (CallDown s) (map (λ k. CallDown k) ss ++ rs) _ (missing tunnel ss ++ ns) refl (missing_told tunnel ss rs ns later)

-- what a move leaves is told by its note, before what is told later
told_first : (m : Move) (cause : Option Cause) (rs : List Record) (ns : List Note) → AreTold rs ns
    → AreTold (records_of m ++ rs) (notes_at m cause ++ ns)
unfolding notes_at note_of records_of
told_first (move.Connected m) cause rs ns later = ToldBy _ rs _ ns (refl, refl, refl) later
told_first (move.Confirmed m) cause rs ns later = ToldBy _ rs _ ns (refl, refl, refl) later
told_first (move.FirstUp m) cause rs ns later = ToldBy _ rs _ ns (refl, refl, refl, refl) later
told_first (move.SecondUp m) cause rs ns later = ToldBy _ rs _ ns (refl, refl, refl, refl) later
told_first (move.EndTold m) cause rs ns later = call_told m.booked m.session _ rs ns refl later
told_first (move.EndHeard m) cause rs ns later = call_told m.booked m.session _ rs ns refl later
told_first (move.EndSilent m) cause rs ns later = call_told m.booked m.session _ rs ns refl later
told_first (move.Closed m) cause rs ns later = tunnel_told m.booked m.tunnel _ rs ns refl later
told_first (move.ClosedBy m) cause rs ns later = tunnel_told m.booked m.tunnel _ rs ns refl later
told_first (move.Cleared i true) cause rs ns later = ToldBy (TunnelDown i) rs _ ns refl later
told_first (move.Cleared i false) cause rs ns later = ToldLater rs _ ns later
told_first (move.Rejected m) cause rs ns later = ToldLater rs _ ns later
told_first (move.Restored m) cause rs ns later = ToldLater rs _ ns later
told_first (move.Forgot m) cause rs ns later = ToldBy (TunnelDown m.tunnel) rs _ ns refl later
told_first (move.Froze m) cause rs ns later = mark_untold m.marked m.tunnel m.asked _ rs ns later
told_first (move.ResetAttempting m) cause rs ns later = mark_untold m.marked m.tunnel m.draw _ rs ns later
told_first (move.ResetAnswering m) cause rs ns later = ToldLater rs _ ns later
told_first (move.TookAnswer m) cause rs ns later = missing_told m.tunnel m.ended rs ns later
told_first m cause rs ns later = later

all_told : (causes : List Cause) (ms : List Move) → AreTold (flat_map (λ m. records_of m) ms) (notes_by causes ms)
unfolding notes_by
all_told causes [] = NoneLeft []
all_told causes (m ∷ ms) =
    told_first m (cause_for (tells_code m) causes) (flat_map (λ m. records_of m) ms) (notes_by (causes_behind (tells_code m) causes) ms)
    (all_told (causes_behind (tells_code m) causes) ms)

pub records_are_told : RecordsHaveTheirNotes
records_are_told moves outputs = all_told (causes_of outputs) moves
