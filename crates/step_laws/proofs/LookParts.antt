-- Parts of what is seen of sessions: draws, tables that ascend, and links.
use Rattle.std.proofs.Common.{◌≡◌, ⊎_elim, ℕ, ◌+◌, Bool, true, false, List, refl, sym, ap, ◌∙◌, Option, Some, None, Ok}
use Rattle.std.proofs.lemmas.Bool.{true≢false}
use Rattle.std.proofs.lemmas.Option.{none-some}
use Rattle.std.specs.Prelude.{◌&&◌, not}
use Rattle.id_source.specs.Spaces.{Space, takes_id, after_id, next_is}
use Rattle.id_table.specs.Ids.{at, put}
use Rattle.id_table.specs.Order.{Ascends, at_new, at_other, same_or_not}
use Rattle.call_fsm.specs.declared.table.CallState.{CallState}
use Rattle.call_fsm.specs.declared.table.CallState.TheVariants.{Established}
use Rattle.call_link.specs.Link.{Link}
use Rattle.end_names.specs.declared.role.Role.{Role}
use Rattle.end_names.specs.declared.role.Role.TheVariants.{Lac, Lns}
use Rattle.end_model.specs.declared.tunnel.CallPlace.{CallPlace}
use Rattle.end_model.specs.Calls.{call_row, advanced, rung, asked_for}
use Rattle.end_model.specs.Tunnels.{Tunnel}
use Rattle.end_model.specs.Links.{looks_of}
use Rattle.end_model.specs.End.{End, with_look, with_looks, new_place}
use Rattle.step_laws.specs.Looks.{look_by, LinkFits}

-- ---- draws

pub drawn_next : (s : Space) (k : ℕ) → takes_id s ≡ Ok k → (after_id s).next ≡ k + 1
drawn_next s k h = ap (λ (d : Space). d.next) (next_is s k h)

-- ---- tables that ascend

pub record AreOrdered (e : End) : Type 0 where
  pub tunnels : Ascends e.tunnels
  pub calls : (i : ℕ) (t : Tunnel) → at e.tunnels i ≡ Some t → Ascends t.calls
  pub places : Ascends e.calls

-- ---- links

-- a LAC's call has no link, whatever its state
pub lac_has_none : (r : Role) (s : CallState) (link : Option Link) → r ≡ Lac → LinkFits r s link → link ≡ None
lac_has_none Lac s link lac h = h
lac_has_none Lns s link lac h = absurd cc

pub lac_fits : (r : Role) (s q : CallState) (link : Option Link) → r ≡ Lac → LinkFits r s link → LinkFits r q link
lac_fits Lac s q link lac h = h
lac_fits Lns s q link lac h = absurd cc

pub rung_fits : (r : Role) (who : List ℕ) (moment : ℕ) → r ≡ Lac → LinkFits r (rung r who moment).state (rung r who moment).link
unfolding rung advanced
rung_fits Lac who moment lac = refl
rung_fits Lns who moment lac = absurd cc

pub asked_fits : (remote moment : ℕ) → LinkFits Lns (asked_for Lns remote moment).state (asked_for Lns remote moment).link
unfolding asked_for advanced call_row
asked_fits remote moment = refl

-- one that has a link has another
pub linked_fits : (r : Role) (s : CallState) (link : Option Link) (l m : Link) → link ≡ Some l → s ≡ Established → LinkFits r s link → LinkFits r s (Some m)
linked_fits Lac s link l m is state h = absurd (none-some l (sym h ∙ is))
linked_fits Lns s link l m is state h = rw state refl

pub connected_fits : (r : Role) (s : CallState) (m : Link) → r ≡ Lns → s ≡ Established → LinkFits r s (Some m)
connected_fits Lac s m lns state = absurd cc
connected_fits Lns s m lns state = rw state refl

-- a place that is put where it is
pub same_place : (places : List (ℕ × CallPlace)) (s : ℕ) (p : CallPlace) → at places s ≡ Some p → (q : ℕ) → at places q ≡ at (put places s p) q
same_place places s p is q = ⊎_elim
    (λ e. rw e (is ∙ sym (at_new places s p)))
    (λ o. sym (at_other places s p q o))
    (same_or_not q s)

-- what is seen of a call where frames of the network begin to pass, or is as before
pub opened_place : (places : List (ℕ × CallPlace)) (s i peer : ℕ) (was passes opens : Bool) → opens ≡ (not was && passes) → (was ≡ true → passes ≡ true)
    → at places s ≡ Some (record (new_place i) { look = look_by was i peer }) → (q : ℕ)
    → at (with_looks (looks_of opens s) places) q ≡ at (put places s (record (new_place i) { look = look_by passes i peer })) q
unfolding with_looks with_look
opened_place places s i peer true true opens told stays is q = rw told (same_place places s _ is q)
opened_place places s i peer true false opens told stays is q = absurd (true≢false (sym (stays refl)))
opened_place places s i peer false false opens told stays is q = rw told (same_place places s _ is q)
opened_place places s i peer false true opens told stays is q = rw (told, is) refl
