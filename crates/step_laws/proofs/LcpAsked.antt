-- What the link of a call gives leaves no call that waits.
use Rattle.std.proofs.Common.{◌≡◌, ℕ, true, false, List, refl, Option, Some, None}
use Rattle.std.specs.Prelude.{◌&&◌, nat_lt}
use Rattle.id_table.specs.Order.{Ascends}
use Rattle.wire_base.specs.declared.cause.Cause.{Cause}
use Rattle.wire_base.specs.declared.why.Why.TheVariants as why
use Rattle.wire_base.specs.declared.letter.Letter.{Letter}
use Rattle.call_fsm.specs.declared.table.CallEvent.TheVariants as call_event
use Rattle.call_link.specs.declared.turn.LinkTurn.{LinkTurn}
use Rattle.call_link.specs.Link.{Link}
use Rattle.end_model.specs.declared.tunnel.Call.{Call}
use Rattle.end_names.specs.declared.role.Role.{Role}
use Rattle.end_model.specs.Calls.{counted_all, row_for, is_up}
use Rattle.end_model.specs.Tunnels.{Turn}
use Rattle.end_model.specs.Linking.{sends_frames, ends_linked, links_by, hears_link, hears_lcp}
use Rattle.step_laws.proofs.Lists.{and_right, branch}
use Rattle.step_laws.proofs.Asking.{Begins, Asked, same, settled, dropped, negotiated_asked, begins_rests, frames_rest, ends_by_asked}

module _ (role : Role) (calls : List (ℕ × Call)) (order : Ascends calls) (letters : List Letter) where
  ended_asked : (s : ℕ) (c : Call) (v : LinkTurn) (for : Cause) (t : Turn) → is_up c.state ≡ true → Begins role calls t
      → Asked role calls (ends_linked role letters s c v for t)
  unfolding ends_linked
  ended_asked s c v for t up b =
      settled role calls false letters _
      (ends_by_asked role calls order for 3 None s (counted_all v.frames c) (row_for role c call_event.Close).1 (sends_frames s v.frames c t)
      (frames_rest role calls s v.frames c t up (begins_rests role calls order t b)))

  links_asked : (s : ℕ) (c : Call) (v : LinkTurn) (o : Option Cause) (t : Turn) → is_up c.state ≡ true → Begins role calls t
      → Asked role calls (links_by role letters s c v o t)
  unfolding links_by
  links_asked s c v None t up b = negotiated_asked role calls s c v t up (same role calls t t refl refl b)
  links_asked s c v (Some for) t up b = ended_asked s c v for t up b

  link_asked : (s : ℕ) (frame : List ℕ) (c : Call) (o : Option Link) (t : Turn) → is_up c.state ≡ true → Begins role calls t
      → Asked role calls (hears_link role letters s frame c o t)
  unfolding hears_link
  link_asked s frame c None t up b = dropped role calls why.Closed t b
  link_asked s frame c (Some l) t up b = links_asked s c _ _ t up b

  pub lcp_asked : (s : ℕ) (frame : List ℕ) (o : Option Call) (t : Turn) → Begins role calls t → Asked role calls (hears_lcp role letters s frame o t)
  unfolding hears_lcp
  lcp_asked s frame None t b = dropped role calls why.Call t b
  lcp_asked s frame (Some c) t b =
      branch (Asked role calls) (nat_lt s 65536 && is_up c.state) _ _
      (λ up. link_asked s frame c c.link t (and_right (nat_lt s 65536) _ up) b)
      (λ down. dropped role calls why.Closed t b)
