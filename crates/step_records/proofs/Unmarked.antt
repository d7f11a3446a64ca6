-- By what a step leaves no tunnel comes up with a mark.
use Rattle.std.proofs.Common.{ℕ, List, [], ◌∷◌, ◌++◌, map, true, false, Bool, refl}
use Rattle.std.specs.List.{AllByRecursion, flat_map}
use Rattle.id_source.specs.Spaces.{Space}
use Rattle.session_book.specs.declared.record.Record.{Record}
use Rattle.session_book.specs.declared.record.Record.TheVariants.{Ceiling, CallDown}
use Rattle.step_ledger.specs.Committing.{IsUnmarked}
use Rattle.end_model.specs.declared.moves.Move.{Move}
use Rattle.end_model.specs.declared.moves.Move.TheVariants as move
use Rattle.end_model.specs.Tunnels.{Drawing}
use Rattle.end_model.specs.Contents.{ceilings_of, tunnel_down, call_down, mark_by, records_of}
use Rattle.step_records.specs.Leaving.{leaves}

abbrev AreUnmarked : List Record → Type 0
AreUnmarked rs = AllByRecursion IsUnmarked rs

both : (xs ys : List Record) → AreUnmarked xs → AreUnmarked ys → AreUnmarked (xs ++ ys)
both [] ys h k = k
both (x ∷ xs) ys h k = (h.0, both xs ys h.1 k)

of_ceilings : (space : ℕ) (f : ℕ → ℕ) (ks : List ℕ) → AreUnmarked (map (λ k. Ceiling space (f k)) ks)
of_ceilings space f [] = tt
of_ceilings space f (k ∷ ks) = (tt, of_ceilings space f ks)

of_tunnel : (booked : Bool) (i : ℕ) → AreUnmarked (tunnel_down booked i)
of_tunnel true i = (tt, tt)
of_tunnel false i = tt

of_call : (booked : Bool) (s : ℕ) → AreUnmarked (call_down booked s)
of_call true s = (tt, tt)
of_call false s = tt

of_mark : (marked : Bool) (i mark : ℕ) → AreUnmarked (mark_by marked i mark)
of_mark true i mark = (tt, tt)
of_mark false i mark = tt

of_ends : (ids : List ℕ) → AreUnmarked (map (λ s. CallDown s) ids)
of_ends [] = tt
of_ends (s ∷ ss) = (tt, of_ends ss)

of_move : (m : Move) → AreUnmarked (records_of m)
unfolding records_of
of_move (move.Connected m) = (refl, tt)
of_move (move.Confirmed m) = (refl, tt)
of_move (move.FirstUp m) = (tt, tt)
of_move (move.SecondUp m) = (tt, tt)
of_move (move.EndTold m) = of_call m.booked m.session
of_move (move.EndHeard m) = of_call m.booked m.session
of_move (move.EndSilent m) = of_call m.booked m.session
of_move (move.Closed m) = of_tunnel m.booked m.tunnel
of_move (move.ClosedBy m) = of_tunnel m.booked m.tunnel
of_move (move.Cleared i booked) = of_tunnel booked i
of_move (move.Forgot m) = of_tunnel true m.tunnel
of_move (move.Froze m) = of_mark m.marked m.tunnel m.asked
of_move (move.ResetAttempting m) = of_mark m.marked m.tunnel m.draw
of_move (move.TookAnswer m) = of_ends m.ended
of_move m = tt

of_moves : (ms : List Move) → AreUnmarked (flat_map (λ m. records_of m) ms)
of_moves [] = tt
of_moves (m ∷ ms) = both (records_of m) _ (of_move m) (of_moves ms)

of_space : (number : ℕ) (before after : Space) → AreUnmarked (ceilings_of number before after)
of_space number before after = of_ceilings number _ _

pub leaves_unmarked : (before after : Drawing) (ms : List Move) → AllByRecursion IsUnmarked (leaves before after ms)
leaves_unmarked before after ms =
    both (ceilings_of 1 before.tunnels after.tunnels) _ (of_space 1 before.tunnels after.tunnels)
    (both (ceilings_of 2 before.sessions after.sessions) _ (of_space 2 before.sessions after.sessions)
    (both (ceilings_of 3 before.recoveries after.recoveries) _ (of_space 3 before.recoveries after.recoveries) (of_moves ms)))
