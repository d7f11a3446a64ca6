-- What the data plane sees of a call goes to the peer of its tunnel.
use Rattle.std.proofs.Common.{◌≡◌, ℕ, Bool, true, false, List, refl, sym, ◌∙◌, subst, Option, Some, None}
use Rattle.id_table.specs.Ids.{at}
use Rattle.session_looks.specs.declared.look.Look.TheVariants as look
use Rattle.call_fsm.specs.declared.table.CallState.{CallState}
use Rattle.call_fsm.specs.declared.table.CallState.TheVariants.{Idle, WaitTunnel, WaitReply, WaitConnect, Established}
use Rattle.call_link.specs.Link.{Link}
use Rattle.end_names.specs.declared.role.Role.{Role}
use Rattle.end_model.specs.declared.tunnel.CallPlace.{CallPlace}
use Rattle.end_model.specs.Links.{is_passing}
use Rattle.end_model.specs.End.{End, look_in}
use Rattle.step_laws.specs.Links.{Passes, AsAll, AsLcp}
use Rattle.step_laws.specs.Looks.{look_by, look_in_state, look_of, LooksAreTrue}
use Rattle.stranger_steps.specs.Strangers.{GoesTo}
use Rattle.stranger_laws.specs.Looks.{TrueLooksFit}

by_established : (b : Bool) (i q tunnel peer : ℕ) → look_by b i q ≡ look.Established tunnel peer → (i ≡ tunnel) × (q ≡ peer)
by_established true i q tunnel peer is = (cc, cc)
by_established false i q tunnel peer is = absurd cc

by_bound : (b : Bool) (i q tunnel peer : ℕ) → look_by b i q ≡ look.Bound tunnel peer → (i ≡ tunnel) × (q ≡ peer)
by_bound true i q tunnel peer is = absurd cc
by_bound false i q tunnel peer is = (cc, cc)

established_peer : (s : CallState) (link : Option Link) (i q tunnel peer : ℕ) → look_in_state s link i q ≡ look.Established tunnel peer
    → (i ≡ tunnel) × (q ≡ peer)
established_peer Idle link i q tunnel peer is = absurd cc
established_peer WaitTunnel link i q tunnel peer is = absurd cc
established_peer WaitReply link i q tunnel peer is = absurd cc
established_peer WaitConnect link i q tunnel peer is = absurd cc
established_peer Established link i q tunnel peer is = by_established (is_passing link) i q tunnel peer is

bound_peer : (s : CallState) (link : Option Link) (i q tunnel peer : ℕ) → look_in_state s link i q ≡ look.Bound tunnel peer
    → (i ≡ tunnel) × (q ≡ peer)
bound_peer Idle link i q tunnel peer is = absurd cc
bound_peer WaitTunnel link i q tunnel peer is = absurd cc
bound_peer WaitReply link i q tunnel peer is = (cc, cc)
bound_peer WaitConnect link i q tunnel peer is = absurd cc
bound_peer Established link i q tunnel peer is = by_bound (is_passing link) i q tunnel peer is

pub passes_to : (role : Role) (s : CallState) (link : Option Link) (i q tunnel peer : ℕ) (frame : List ℕ)
    → Passes role (look_in_state s link i q) tunnel peer frame → (i ≡ tunnel) × (q ≡ peer)
passes_to role s link i q tunnel peer frame (AsAll is) = established_peer s link i q tunnel peer is
passes_to role s link i q tunnel peer frame (AsLcp is lns lcp) = bound_peer s link i q tunnel peer is

-- so it is of a place of an end whose looks are true
module _ (e : End) (looks : LooksAreTrue e) (peer : ℕ) where
  place_goes : (s tunnel : ℕ) (p : CallPlace) → at e.calls s ≡ Some p
      → ((c : CallState) (link : Option Link) (i q : ℕ) → look_in_state c link i q ≡ p.look → (i ≡ tunnel) × (q ≡ peer)) → GoesTo e peer tunnel
  place_goes s tunnel p there is_to =
      let live = looks.live s p there in
      let both : Some p ≡ Some _ = sym there ∙ looks.seen p.tunnel live.tunnel live.there s live.call live.live in
      let look_is_so : p.look ≡ look_of live.call p.tunnel live.tunnel.control.peer = by_place both in
      let to = is_to live.call.state live.call.link p.tunnel live.tunnel.control.peer (sym look_is_so) in
      (live.tunnel, subst (λ i. at e.tunnels i ≡ Some live.tunnel) to.0 live.there, to.1)
    where
      by_place : {p q : CallPlace} → Some p ≡ Some q → p.look ≡ q.look
      by_place same = cc

  bound_goes : (s tunnel : ℕ) (o : Option CallPlace) → at e.calls s ≡ o → look_in o ≡ look.Bound tunnel peer → GoesTo e peer tunnel
  bound_goes s tunnel None there is = absurd cc
  bound_goes s tunnel (Some p) there is = place_goes s tunnel p there (λ c link i q so. bound_peer c link i q tunnel peer (so ∙ is))

  established_goes : (s tunnel : ℕ) (o : Option CallPlace) → at e.calls s ≡ o → look_in o ≡ look.Established tunnel peer → GoesTo e peer tunnel
  established_goes s tunnel None there is = absurd cc
  established_goes s tunnel (Some p) there is = place_goes s tunnel p there (λ c link i q so. established_peer c link i q tunnel peer (so ∙ is))

pub true_looks_fit : TrueLooksFit
true_looks_fit e looks = record {
  bound = λ s tunnel peer is. bound_goes e looks peer s tunnel (at e.calls s) refl is;
  established = λ s tunnel peer is. established_goes e looks peer s tunnel (at e.calls s) refl is;
  drawn = looks.tunnels;
}
