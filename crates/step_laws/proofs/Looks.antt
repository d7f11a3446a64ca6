-- What the data plane sees of each session stays so.
use Rattle.std.proofs.Common.{◌≡◌, ⊎_elim, ℕ, ◌+◌, ◌<◌, ◌≤◌, Bool, List, [], ◌∷◌, refl, sym, ap, ◌∙◌, subst, Option, Some, None, Ok, arith, Result, Err}
use Rattle.std.proofs.lemmas.Option.{none-some}
use Rattle.std.specs.Prelude.{map, filter}
use Rattle.id_source.specs.Spaces.{Space, takes_id, after_id, draw_is, with_taken}
use Rattle.wire_base.specs.declared.letter.Letter.{Letter}
use Rattle.tunnel_fsm.specs.declared.table.TunnelState.TheVariants as tunnel
use Rattle.id_table.specs.Ids.{at, put, without, at-none, ids_of, put-put}
use Rattle.id_table.specs.Order.{Ascends, ascends-put, ascends-empty, at_new, at_other, found_put, same_or_not, at_without_other, ascends-without, found_without, put-again}
use Rattle.call_fsm.specs.declared.table.CallEvent.TheVariants as call_event
use Rattle.call_link.specs.Link.{new_link}
use Rattle.call_link.specs.Laws.{turn_at}
use Rattle.call_link.specs.Told.{each_tells_opening}
use Rattle.end_names.specs.declared.role.Role.{Role}
use Rattle.end_model.specs.declared.event.Event.{Event}
use Rattle.end_model.specs.declared.moves.Move.{Move}
use Rattle.end_model.specs.declared.moves.Move.TheVariants as move
use Rattle.end_model.specs.declared.tunnel.Call.{Call}
use Rattle.end_model.specs.declared.tunnel.CallPlace.{CallPlace}
use Rattle.session_looks.specs.declared.look.CellChange.TheVariants as cell
use Rattle.end_model.specs.declared.tunnel.Control.{Control}
use Rattle.session_looks.specs.declared.look.Look.TheVariants as look
use Rattle.end_model.specs.Calls.{advanced, with_numbers, counted, rung, asked_for}
use Rattle.end_model.specs.Tunnels.{Tunnel, new_tunnel, Ground, Recovering}
use Rattle.end_model.specs.Links.{with_link, looks_of}
use Rattle.end_model.specs.End.{End, with_look, with_looks, new_place}
use Rattle.step_laws.specs.Callers.{wanted_by_lac}
use Rattle.step_laws.specs.Moves.{with_tunnel, Does, Chain, finished_of, unfinished_of, calls_back}
use Rattle.step_laws.specs.Steps.{AreKept, StepsAreChains, IsOfNoStart}
use Rattle.step_laws.proofs.States.{requested_state, replied_state, rung_state, connected_state, up_state, request_is_lac, connection_is_lac, reply_is_lns, connected_is_lns}
use Rattle.step_laws.proofs.Lists.{found_among, none_not_among, ascends_look, ascends_looks, killed_same, killed_other, branch, ascends_placed}
use Rattle.step_laws.proofs.Turns.{learnt_peer}
use Rattle.step_laws.specs.Looks.{look_by, look_in_state, look_of, LinkFits, IsLive, LooksAreTrue, LooksBeginTrue, LooksStayTrue}
use Rattle.std.specs.List.{AllByRecursion}
use Rattle.id_source.specs.declared.IdError.{IdError}
use Rattle.session_book.specs.declared.record.BookCall.{BookCall}
use Rattle.end_model.specs.Events.{with_calls}
use Rattle.end_model.specs.Recovering.{is_unfinished}
use Rattle.step_laws.proofs.Shutting.{ended, without_first}
use Rattle.step_laws.proofs.Finished.{at_later, at_first, without_later, filter_over, left_finished, own_entries, ascends_finished}
use Rattle.step_laws.proofs.Ups.{steps_are_no_starts}
use Rattle.step_laws.proofs.Queries.{ended_each, ascends_each}
use Rattle.step_laws.specs.Queries.{AreUpInTurn, without_each}
use Rattle.session_query.specs.Queries.{Asking}
pub use Rattle.step_laws.proofs.LookParts.{drawn_next, AreOrdered, lac_has_none, lac_fits, rung_fits, asked_fits, linked_fits, connected_fits, same_place, opened_place}

-- ---- one tunnel is put, and one place

module _ (x : End) (ok : LooksAreTrue x) where
  -- under one id there is one tunnel
  same_tunnel : (j i : ℕ) (u t : Tunnel) → j ≡ i → at x.tunnels j ≡ Some u → at x.tunnels i ≡ Some t → u ≡ t
  same_tunnel j i u t e a b = let g : Some u ≡ Some t = sym a ∙ subst (λ q. at x.tunnels q ≡ Some t) (sym e) b in cc

  -- the links of calls, where a tunnel is put whose calls have such links
  links_put : (y : End) (i : ℕ) (u : Tunnel) → y.tunnels ≡ put x.tunnels i u → y.role ≡ x.role
      → ((s : ℕ) (d : Call) → at u.calls s ≡ Some d → LinkFits x.role d.state d.link) → (j : ℕ) (v : Tunnel) → at y.tunnels j ≡ Some v
      → (s : ℕ) (d : Call) → at v.calls s ≡ Some d → LinkFits y.role d.state d.link
  links_put y i u tunnels role own j v f s d g = subst (λ r. LinkFits r d.state d.link) (sym role) (⊎_elim
      (λ (a : (j ≡ i) × (u ≡ v)). own s d (rw (← a.1) at g))
      (λ a. ok.links j v a.1 s d g)
      (found_put x.tunnels i u j v (rw (← tunnels) f)))

  -- a tunnel goes on with the calls that it has
  calls_stay : (i : ℕ) (t : Tunnel) (c : Control) (ls : List Letter) (q : Option Recovering) (asks : Asking) → at x.tunnels i ≡ Some t
      → c.peer ≡ t.control.peer → LooksAreTrue (with_tunnel x i (record t { control = c; letters = ls; recovery = q; query = asks }))
  calls_stay i t c ls q asks there peer =
      let v : Tunnel = record t { control = c; letters = ls; recovery = q; query = asks } in
      record {
        live = λ s p f. let l = ok.live s p f in ⊎_elim
            (λ (a : p.tunnel ≡ i). (let k = same_tunnel p.tunnel i l.tunnel t a l.there there in
            record { tunnel = v; there = rw a (at_new x.tunnels i v); call = l.call; live = rw (← k) l.live }))
            (λ o. record { tunnel = l.tunnel; there = at_other x.tunnels i v p.tunnel o ∙ l.there; call = l.call; live = l.live })
            (same_or_not p.tunnel i);
        seen = λ j u f s d g. ⊎_elim
            (λ (a : (j ≡ i) × (v ≡ u)). rw (a.0, ← a.1, peer) (ok.seen i t there s d (rw (← a.1) at g)))
            (λ a. ok.seen j u a.1 s d g)
            (found_put x.tunnels i v j u f);
        links = links_put (with_tunnel x i v) i v refl refl (λ s d g. ok.links i t there s d g);
        tunnels = λ j u f. ⊎_elim
            (λ (a : (j ≡ i) × (v ≡ u)). rw a.0 (ok.tunnels i t there))
            (λ a. ok.tunnels j u a.1)
            (found_put x.tunnels i v j u f);
        sessions = ok.sessions;
      }

  -- a tunnel that is new has no calls
  tunnel_born : (y : End) (i : ℕ) (c : Control) (ls : List Letter) → i ≡ x.tunnel_ids.next → y.tunnels ≡ put x.tunnels i (record (new_tunnel c) { letters = ls })
      → y.calls ≡ x.calls → y.tunnel_ids.next ≡ i + 1 → y.session_ids ≡ x.session_ids → y.role ≡ x.role → LooksAreTrue y
  tunnel_born y i c ls fresh tunnels calls next sessions role = record {
    live = λ s p f.
        let l = ok.live s p (rw (← calls) f) in
        let lt = ok.tunnels p.tunnel l.tunnel l.there in
        record {
          tunnel = l.tunnel;
          there = rw tunnels (at_other x.tunnels i (record (new_tunnel c) { letters = ls }) p.tunnel (λ e. omega (arith, fresh, e)) ∙ l.there);
          call = l.call;
          live = l.live;
        };
    seen = λ j u f s d g. ⊎_elim
        (λ (a : (j ≡ i) × (record (new_tunnel c) { letters = ls } ≡ u)). absurd (let h : at [] s ≡ Some d = rw (← a.1) at g in none-some d (sym (at-none s) ∙ h)))
        (λ a. rw calls (ok.seen j u a.1 s d g))
        (found_put x.tunnels i (record (new_tunnel c) { letters = ls }) j u (rw (← tunnels) f));
    links = links_put y i (record (new_tunnel c) { letters = ls }) tunnels role (λ s d g. absurd (none-some d (sym (at-none s) ∙ g)));
    tunnels = λ j u f. ⊎_elim
        (λ (a : (j ≡ i) × (record (new_tunnel c) { letters = ls } ≡ u)). (let e = a.0 in omega (arith, next, e)))
        (λ a. let lt = ok.tunnels j u a.1 in omega (arith, next, fresh))
        (found_put x.tunnels i (record (new_tunnel c) { letters = ls }) j u (rw (← tunnels) f));
    sessions = λ s p f. rw sessions (ok.sessions s p (rw (← calls) f));
  }

  -- a call of a tunnel is put, with its place; no other tunnel has it
  record SetsCall (y : End) (i : ℕ) (t : Tunnel) (c : Control) (ls : List Letter) (s : ℕ) (k : Call) : Type 0 where
    tunnels : y.tunnels ≡ put x.tunnels i (record t { control = c; letters = ls; calls = put t.calls s k })
    there : at x.tunnels i ≡ Some t
    peer : c.peer ≡ t.control.peer
    only : (j : ℕ) (u : Tunnel) → at x.tunnels j ≡ Some u → (j ≡ i → ⊥) → (d : Call) → at u.calls s ≡ Some d → ⊥
    calls : (q : ℕ) → at y.calls q ≡ at (put x.calls s (record (new_place i) { look = look_of k i t.control.peer })) q
    ids : y.tunnel_ids ≡ x.tunnel_ids
    role : y.role ≡ x.role
    fits : LinkFits x.role k.state k.link
    drawn : s < y.session_ids.next
    rises : x.session_ids.next ≤ y.session_ids.next

  module _ (y : End) (i : ℕ) (t : Tunnel) (c : Control) (ls : List Letter) (s : ℕ) (k : Call) (sets : SetsCall y i t c ls s k) where
    abbrev u : Tunnel
    u = record t { control = c; letters = ls; calls = put t.calls s k }

    abbrev place : CallPlace
    place = record (new_place i) { look = look_of k i t.control.peer }

    there_now : at y.tunnels i ≡ Some u
    there_now = rw sets.tunnels (at_new x.tunnels i u)

    live_other : (q : ℕ) (p : CallPlace) → (q ≡ s → ⊥) → at x.calls q ≡ Some p → IsLive y p.tunnel q
    live_other q p o f =
        let l = ok.live q p f in
        ⊎_elim
        (λ (a : p.tunnel ≡ i). (let same = same_tunnel p.tunnel i l.tunnel t a l.there sets.there in
        record { tunnel = u; there = rw a there_now; call = l.call; live = at_other t.calls s k q o ∙ rw (← same) l.live }))
        (λ b. record { tunnel = l.tunnel; there = rw sets.tunnels (at_other x.tunnels i u p.tunnel b ∙ l.there); call = l.call; live = l.live })
        (same_or_not p.tunnel i)

    live_now : (q : ℕ) (p : CallPlace) → at y.calls q ≡ Some p → IsLive y p.tunnel q
    live_now q p f = ⊎_elim
        (λ (a : (q ≡ s) × (place ≡ p)). rw (← a.1, a.0) (record { tunnel = u; there = there_now; call = k; live = at_new t.calls s k }))
        (λ a. live_other q p a.0 a.1)
        (found_put x.calls s place q p (sym (sets.calls q) ∙ f))

    seen_here : (q : ℕ) (d : Call) → at (put t.calls s k) q ≡ Some d → at y.calls q ≡ Some (record (new_place i) { look = look_of d i c.peer })
    seen_here q d g = ⊎_elim
        (λ (a : (q ≡ s) × (k ≡ d)). rw (← a.1, a.0, sets.peer) (sets.calls s ∙ at_new x.calls s place))
        (λ a. rw sets.peer (sets.calls q ∙ at_other x.calls s place q a.0 ∙ ok.seen i t sets.there q d a.1))
        (found_put t.calls s k q d g)

    seen_there : (j : ℕ) (v : Tunnel) → at x.tunnels j ≡ Some v → (j ≡ i → ⊥) → (q : ℕ) (d : Call) → at v.calls q ≡ Some d
        → at y.calls q ≡ Some (record (new_place j) { look = look_of d j v.control.peer })
    seen_there j v f o q d g =
        let other : q ≡ s → ⊥ = λ e. sets.only j v f o d (subst (λ n. at v.calls n ≡ Some d) e g) in
        sets.calls q ∙ at_other x.calls s place q other ∙ ok.seen j v f q d g

    call_put : LooksAreTrue y
    call_put = record {
      live = live_now;
      seen = λ j v f q d g. ⊎_elim
          (λ (a : (j ≡ i) × (u ≡ v)). rw (a.0, ← a.1) (seen_here q d (rw (← a.1) at g)))
          (λ a. seen_there j v a.1 a.0 q d g)
          (found_put x.tunnels i u j v (rw (← sets.tunnels) f));
      links = links_put y i u sets.tunnels sets.role (λ q d g. ⊎_elim
          (λ (a : (q ≡ s) × (k ≡ d)). subst (λ (w : Call). LinkFits x.role w.state w.link) a.1 sets.fits)
          (λ a. ok.links i t sets.there q d a.1)
          (found_put t.calls s k q d g));
      tunnels = λ j v f. rw sets.ids (⊎_elim
          (λ (a : (j ≡ i) × (u ≡ v)). rw a.0 (ok.tunnels i t sets.there))
          (λ a. ok.tunnels j v a.1)
          (found_put x.tunnels i u j v (rw (← sets.tunnels) f)));
      sessions = λ q p f. ⊎_elim
          (λ (a : (q ≡ s) × (place ≡ p)). rw a.0 sets.drawn)
          (λ a. let lt = ok.sessions q p a.1 in let rises = sets.rises in omega (arith, rises)) (found_put x.calls s place q p (sym (sets.calls q) ∙ f));
    }

  -- the place of a call in a tunnel
  abbrev seen_in : ℕ → Tunnel → Call → CallPlace
  seen_in j u d = record (new_place j) { look = look_of d j u.control.peer }

  -- no other tunnel has a call that is in this one
  one_tunnel : (i : ℕ) (t : Tunnel) → at x.tunnels i ≡ Some t → (s : ℕ) (c : Call) → at t.calls s ≡ Some c → (j : ℕ) (u : Tunnel)
      → at x.tunnels j ≡ Some u → (j ≡ i → ⊥) → (d : Call) → at u.calls s ≡ Some d → ⊥
  one_tunnel i t there s c live j u f o d g =
      let a = ok.seen i t there s c live in
      let b = ok.seen j u f s d g in
      let e : seen_in j u d ≡ seen_in i t c = (let q : Some (seen_in j u d) ≡ Some (seen_in i t c) = sym b ∙ a in cc) in
      o (ap (λ (p : CallPlace). p.tunnel) e)

  -- none has one whose session is yet to be drawn
  no_tunnel : (s : ℕ) → s ≡ x.session_ids.next → (j : ℕ) (u : Tunnel) → at x.tunnels j ≡ Some u → (d : Call) → at u.calls s ≡ Some d → ⊥
  no_tunnel s fresh j u f d g = let lt = ok.sessions s _ (ok.seen j u f s d g) in omega (arith, fresh)

  same_places : (es fs : List (ℕ × CallPlace)) → es ≡ fs → (q : ℕ) → at es q ≡ at fs q
  same_places es fs e q = ap (λ (l : List (ℕ × CallPlace)). at l q) e

  -- a call of a tunnel ended, and its place isn't there any more
  record EndsCall (y : End) (i : ℕ) (t : Tunnel) (c : Control) (ls : List Letter) (s : ℕ) (k : Call) : Type 0 where
    tunnels : y.tunnels ≡ put x.tunnels i (record t { control = c; letters = ls; calls = without t.calls s })
    there : at x.tunnels i ≡ Some t
    peer : c.peer ≡ t.control.peer
    live : at t.calls s ≡ Some k
    calls : y.calls ≡ without x.calls s
    ids : y.tunnel_ids ≡ x.tunnel_ids
    role : y.role ≡ x.role
    drawn : y.session_ids ≡ x.session_ids

  module _ (order : AreOrdered x) (y : End) (i : ℕ) (t : Tunnel) (c : Control) (ls : List Letter) (s : ℕ) (k : Call) (ends : EndsCall y i t c ls s k) where
    abbrev rest : Tunnel
    rest = record t { control = c; letters = ls; calls = without t.calls s }

    still : (q : ℕ) (p : CallPlace) → at y.calls q ≡ Some p → (q ≡ s → ⊥) × (at x.calls q ≡ Some p)
    still q p f = found_without x.calls s q p order.places (rw (← ends.calls) f)

    live_still : (q : ℕ) (p : CallPlace) → (q ≡ s → ⊥) × (at x.calls q ≡ Some p) → IsLive y p.tunnel q
    live_still q p f =
        let l = ok.live q p f.1 in
        ⊎_elim
        (λ (a : p.tunnel ≡ i). (let same = same_tunnel p.tunnel i l.tunnel t a l.there ends.there in
        record { tunnel = rest; there = rw (a, ends.tunnels) (at_new x.tunnels i rest); call = l.call; live = at_without_other t.calls s q f.0 ∙ rw (← same) l.live }))
        (λ b. record { tunnel = l.tunnel; there = rw ends.tunnels (at_other x.tunnels i rest p.tunnel b ∙ l.there); call = l.call; live = l.live })
        (same_or_not p.tunnel i)

    place_still : (q : ℕ) (p : CallPlace) → (q ≡ s → ⊥) → at x.calls q ≡ Some p → at y.calls q ≡ Some p
    place_still q p o f = rw ends.calls (at_without_other x.calls s q o ∙ f)

    seen_rest : (q : ℕ) (d : Call) → (q ≡ s → ⊥) × (at t.calls q ≡ Some d) → at y.calls q ≡ Some (record (new_place i) { look = look_of d i c.peer })
    seen_rest q d f = rw ends.peer (place_still q _ f.0 (ok.seen i t ends.there q d f.1))

    seen_apart : (j : ℕ) (v : Tunnel) → at x.tunnels j ≡ Some v → (j ≡ i → ⊥) → (q : ℕ) (d : Call) → at v.calls q ≡ Some d
        → at y.calls q ≡ Some (seen_in j v d)
    seen_apart j v f o q d g =
        place_still q (seen_in j v d) (λ e. one_tunnel i t ends.there s k ends.live j v f o d (subst (λ n. at v.calls n ≡ Some d) e g)) (ok.seen j v f q d g)

    call_gone : LooksAreTrue y
    call_gone = record {
      live = λ q p f. live_still q p (still q p f);
      seen = λ j v f q d g. ⊎_elim
          (λ (a : (j ≡ i) × (rest ≡ v)). rw (a.0, ← a.1) (seen_rest q d (found_without t.calls s q d (order.calls i t ends.there) (rw (← a.1) at g))))
          (λ a. seen_apart j v a.1 a.0 q d g)
          (found_put x.tunnels i rest j v (rw (← ends.tunnels) f));
      links = links_put y i rest ends.tunnels ends.role
          (λ q d g. ok.links i t ends.there q d (found_without t.calls s q d (order.calls i t ends.there) g).1);
      tunnels = λ j v f. rw ends.ids (⊎_elim
          (λ (a : (j ≡ i) × (rest ≡ v)). rw a.0 (ok.tunnels i t ends.there))
          (λ a. ok.tunnels j v a.1)
          (found_put x.tunnels i rest j v (rw (← ends.tunnels) f)));
      sessions = λ q p f. rw ends.drawn (ok.sessions q p (still q p f).1);
    }

  -- a tunnel is removed with its calls
  module _ (order : AreOrdered x) (i : ℕ) (t : Tunnel) (there : at x.tunnels i ≡ Some t) where
    abbrev gone : End
    gone = record x { tunnels = without x.tunnels i; calls = with_looks (map cell.Kill (ids_of t.calls)) x.calls }

    -- a place that is left is that of a call of another tunnel
    left_place : (q : ℕ) (p : CallPlace) → at gone.calls q ≡ Some p → (o : Option Call) → at t.calls q ≡ o → (o ≡ None) × (at x.calls q ≡ Some p)
    left_place q p f None is = (refl, sym (killed_other (ids_of t.calls) x.calls q (none_not_among t.calls q is)) ∙ f)
    left_place q p f (Some c) is =
        absurd (none-some p (sym (killed_same (ids_of t.calls) x.calls q order.places (found_among t.calls q c is)) ∙ f))

    live_left : (q : ℕ) (p : CallPlace) → (at t.calls q ≡ None) × (at x.calls q ≡ Some p) → IsLive gone p.tunnel q
    live_left q p f =
        let l = ok.live q p f.1 in
        ⊎_elim
        (λ (a : p.tunnel ≡ i). (let same = same_tunnel p.tunnel i l.tunnel t a l.there there in
        absurd (none-some l.call (sym f.0 ∙ rw (← same) l.live))))
        (λ b. record { tunnel = l.tunnel; there = at_without_other x.tunnels i p.tunnel b ∙ l.there; call = l.call; live = l.live })
        (same_or_not p.tunnel i)

    seen_left : (j : ℕ) (v : Tunnel) → (j ≡ i → ⊥) × (at x.tunnels j ≡ Some v) → (q : ℕ) (d : Call) → at v.calls q ≡ Some d
        → (o : Option Call) → at t.calls q ≡ o → at gone.calls q ≡ Some (seen_in j v d)
    seen_left j v f q d g None is = killed_other (ids_of t.calls) x.calls q (none_not_among t.calls q is) ∙ ok.seen j v f.1 q d g
    seen_left j v f q d g (Some c) is = absurd (one_tunnel i t there q c is j v f.1 f.0 d g)

    tunnel_gone : LooksAreTrue gone
    tunnel_gone = record {
      live = λ q p f. live_left q p (left_place q p f (at t.calls q) refl);
      seen = λ j v f q d g. seen_left j v (found_without x.tunnels i j v order.tunnels f) q d g (at t.calls q) refl;
      links = λ j v f. ok.links j v (found_without x.tunnels i j v order.tunnels f).1;
      tunnels = λ j v f. ok.tunnels j v (found_without x.tunnels i j v order.tunnels f).1;
      sessions = λ q p f. ok.sessions q p (left_place q p f (at t.calls q) refl).1;
    }

  -- a tunnel is closed with its calls
  module _ (order : AreOrdered x) (i : ℕ) (t : Tunnel) (there : at x.tunnels i ≡ Some t) (c : Control) (ls : List Letter) where
    abbrev bare : Tunnel
    bare = record t { control = c; letters = ls; calls = [] }

    abbrev closed : End
    closed = record x { tunnels = put x.tunnels i bare; calls = with_looks (map cell.Kill (ids_of t.calls)) x.calls }

    live_open : (q : ℕ) (p : CallPlace) → (at t.calls q ≡ None) × (at x.calls q ≡ Some p) → IsLive closed p.tunnel q
    live_open q p f =
        let l = ok.live q p f.1 in
        ⊎_elim
        (λ (a : p.tunnel ≡ i). (let same = same_tunnel p.tunnel i l.tunnel t a l.there there in
        absurd (none-some l.call (sym f.0 ∙ rw (← same) l.live))))
        (λ b. record { tunnel = l.tunnel; there = at_other x.tunnels i bare p.tunnel b ∙ l.there; call = l.call; live = l.live })
        (same_or_not p.tunnel i)

    tunnel_shut : LooksAreTrue closed
    tunnel_shut = record {
      live = λ q p f. live_open q p (left_place order i t there q p f (at t.calls q) refl);
      seen = λ j v f q d g. ⊎_elim
          (λ (a : (j ≡ i) × (bare ≡ v)). absurd (let none : at [] q ≡ Some d = rw (← a.1) at g in none-some d (sym (at-none q) ∙ none)))
          (λ a. seen_left order i t there j v a q d g (at t.calls q) refl)
          (found_put x.tunnels i bare j v f);
      links = links_put closed i bare refl refl (λ q d g. absurd (none-some d (sym (at-none q) ∙ g)));
      tunnels = λ j v f. ⊎_elim
          (λ (a : (j ≡ i) × (bare ≡ v)). rw a.0 (ok.tunnels i t there))
          (λ a. ok.tunnels j v a.1)
          (found_put x.tunnels i bare j v f);
      sessions = λ q p f. ok.sessions q p (left_place order i t there q p f (at t.calls q) refl).1;
    }

-- ---- calls of a tunnel end, one after the other

-- each lives, once those before it have ended
abbrev AreLive : List ℕ → List (ℕ × Call) → Type 0
AreLive [] calls = Unit {0}
AreLive (s ∷ ss) calls = (c : Call) × (at calls s ≡ Some c) × AreLive ss (without calls s)

live_behind : (e : ℕ × Call) (ss : List ℕ) (es : List (ℕ × Call)) → AllByRecursion (λ s. e.0 < s) ss → AreLive ss es → AreLive ss (e ∷ es)
live_behind e [] es over h = tt
live_behind e (s ∷ ss) es over h = (
  h.0,
  at_later e es s over.0 ∙ h.1,
  subst (AreLive ss) (sym (without_later e es s over.0)) (live_behind e ss (without es s) over.1 h.2),
)

live_filter : (p : ℕ → Bool) (es : List (ℕ × Call)) → Ascends es → AreLive (filter p (ids_of es)) es
unfolding Ascends
live_filter p [] sorted = tt
live_filter p (e ∷ es) sorted =
    let rest = live_filter p es sorted.1 in
    branch (λ (ss : List ℕ). AreLive ss (e ∷ es)) (p e.0) _ _
    (λ yes. (e.1, at_first e es, subst (AreLive (filter p (ids_of es))) (sym (without_first e es)) rest))
    (λ no. live_behind e (filter p (ids_of es)) es (filter_over p e.0 es sorted.0) rest)

-- with these calls left
abbrev ended_end : List ℕ → End → ℕ → Tunnel → List (ℕ × Call) → End
ended_end ss x i t calls = record x { tunnels = put x.tunnels i (record t { calls = calls }); calls = with_looks (map cell.Kill ss) x.calls }

abbrev FrozenSo : End → ℕ → Tunnel → List (ℕ × Call) → Type 0
FrozenSo x i t calls = LooksAreTrue (ended_end (unfinished_of t.calls) x i t calls)

calls_end : (ss : List ℕ) (x : End) → LooksAreTrue x → AreOrdered x → (i : ℕ) (t : Tunnel) → at x.tunnels i ≡ Some t → AreLive ss t.calls
    → LooksAreTrue (ended_end ss x i t (with_calls (map ended ss) t.calls))
unfolding with_calls with_looks with_look
calls_end [] x ok order i t there live = subst (λ ts. LooksAreTrue (record x { tunnels = ts })) (sym (put-again i t x.tunnels order.tunnels there)) ok
calls_end (s ∷ ss) x ok order i t there live =
    let u = record t { calls = without t.calls s } in
    let y : End = record x { tunnels = put x.tunnels i u; calls = without x.calls s } in
    let ends = call_gone x ok order y i t t.control t.letters s live.0 (record {
      tunnels = refl;
      there = there;
      peer = refl;
      live = live.1;
      calls = refl;
      ids = refl;
      role = refl;
      drawn = refl;
    }) in
    let ordered : AreOrdered y = record {
      tunnels = ascends-put i u x.tunnels order.tunnels;
      calls = λ j v f. ⊎_elim
          (λ (a : (j ≡ i) × (u ≡ v)). subst (λ (w : Tunnel). Ascends w.calls) a.1 (ascends-without s t.calls (order.calls i t there)))
          (λ a. order.calls j v a.1)
          (found_put x.tunnels i u j v f);
      places = ascends-without s x.calls order.places;
    } in
    subst (λ ts. LooksAreTrue (record y { tunnels = ts; calls = with_looks (map cell.Kill ss) y.calls })) (put-put x.tunnels i u _)
    (calls_end ss y ends ordered i u (at_new x.tunnels i u) live.2)

-- ---- ids that are drawn

pub next_risen : (s : Space) → s.next ≤ (after_id s).next
next_risen s = by (takes_id s) refl
  where
    by : (r : Result ℕ IdError) → takes_id s ≡ r → s.next ≤ (with_taken r s).next
    by (Ok n) is = let first = (draw_is s n is).0 in omega (arith, first)
    by (Err x) is = omega arith

-- a tunnel is frozen, once its other calls have ended
froze_looks : (x : End) → LooksAreTrue x → AreOrdered x → (i : ℕ) (t : Tunnel) → at x.tunnels i ≡ Some t → (c : Control) (q : Recovering) → c.peer ≡ t.control.peer
    → FrozenSo x i t (finished_of t.calls)
    → LooksAreTrue (record (with_tunnel x i (record t { control = c; calls = finished_of t.calls; recovery = Some q })) {
      tunnel_ids = after_id x.tunnel_ids;
      recovery_ids = after_id x.recovery_ids;
      calls = with_looks (map cell.Kill (unfinished_of t.calls)) x.calls;
    })
froze_looks x ok order i t there c q peer ended_so =
    let u = record t { calls = finished_of t.calls } in
    let y = ended_end (unfinished_of t.calls) x i t (finished_of t.calls) in
    let z = calls_stay y ended_so i u c t.letters (Some q) t.query (at_new x.tunnels i u) peer in
    let same : with_tunnel y i (record u { control = c; recovery = Some q }) ≡ record y { tunnels = put x.tunnels i (record u { control = c; recovery = Some q }) } =
    ap (λ ts. record y { tunnels = ts }) (put-put x.tunnels i u (record u { control = c; recovery = Some q })) in
    let w = subst LooksAreTrue same z in
    let rises = next_risen x.tunnel_ids in
    record {
      live = λ s p f. let l = w.live s p f in record { tunnel = l.tunnel; there = l.there; call = l.call; live = l.live };
      seen = w.seen;
      links = w.links;
      tunnels = λ j v f. let lt = w.tunnels j v f in omega (arith, rises, lt);
      sessions = w.sessions;
    }

-- those that are established live
live_up : (ss : List ℕ) (calls : List (ℕ × Call)) → AreUpInTurn ss calls → AreLive ss calls
live_up [] calls h = tt
live_up (s ∷ ss) calls h = (h.0, h.1, live_up ss (without calls s) h.3)

-- a tunnel that learns which of its calls aren't there
took_looks : (x : End) → LooksAreTrue x → AreOrdered x → (i : ℕ) (t : Tunnel) → at x.tunnels i ≡ Some t → (ss : List ℕ) → AreLive ss t.calls
    → (c : Control) (asks : Asking) → c.peer ≡ t.control.peer
    → LooksAreTrue (record
    (with_tunnel x i (record t { control = c; calls = without_each ss t.calls; query = asks })) {
      calls = with_looks
          (map cell.Kill ss) x.calls;
    })
took_looks x ok order i t there ss live c asks peer =
    let cs = without_each ss t.calls in
    let u = record t { calls = cs } in
    let y = ended_end ss x i t cs in
    let ends : LooksAreTrue y = subst (λ es. LooksAreTrue (ended_end ss x i t es)) (ended_each ss t.calls)
    (calls_end ss x ok order i t there live) in
    let z = calls_stay y ends i u c t.letters t.recovery asks (at_new x.tunnels i u) peer in
    subst (λ ts. LooksAreTrue (record y { tunnels = ts })) (put-put x.tunnels i u (record u { control = c; query = asks })) z

module _ (x : End) (ok : LooksAreTrue x) where
  stays : (y : End) → y ≡ x → LooksAreTrue y
  stays y same = subst LooksAreTrue (sym same) ok

  does_looks : AreOrdered x → (moment : ℕ) (ev : Event) (m : Move) (y : End) → IsOfNoStart m → Does x moment ev m y → LooksAreTrue y
  unfolding with_look advanced
  does_looks order moment ev (move.Opened m) y so h =
      tunnel_born x ok y m.tunnel _ _ (draw_is x.tunnel_ids m.tunnel h.drawn).0 (ap (λ (e : End). e.tunnels) h.after) (ap (λ (e : End). e.calls) h.after)
      (ap (λ (e : End). e.tunnel_ids.next) h.after ∙ drawn_next x.tunnel_ids m.tunnel h.drawn) (ap (λ (e : End). e.session_ids) h.after) (ap (λ (e : End). e.role) h.after)
  does_looks order moment ev (move.Accepted m) y so h =
      tunnel_born x ok y m.tunnel _ _ (draw_is x.tunnel_ids m.tunnel h.drawn).0 (ap (λ (e : End). e.tunnels) h.after) (ap (λ (e : End). e.calls) h.after)
      (ap (λ (e : End). e.tunnel_ids.next) h.after ∙ drawn_next x.tunnel_ids m.tunnel h.drawn) (ap (λ (e : End). e.session_ids) h.after) (ap (λ (e : End). e.role) h.after)
  does_looks order moment ev (move.Connected m) y so h =
      subst LooksAreTrue (sym h.after)
      (calls_stay x ok m.tunnel h.tunnel _ _ _ _ h.there
      (learnt_peer m.window (record h.tunnel.control { remote = m.remote; flags = m.flags; state = tunnel.Established })))
  does_looks order moment ev (move.Confirmed m) y so h = subst LooksAreTrue (sym h.after)
      (calls_stay x ok m.tunnel h.tunnel _ _ _ _ h.there refl)
  does_looks order moment ev (move.TookPlain m) y so h = subst LooksAreTrue (sym h.after)
      (calls_stay x ok m.tunnel h.tunnel _ _ _ _ h.there refl)
  does_looks order moment ev (move.Added m) y so h =
      let fresh = (draw_is x.session_ids m.session h.drawn).0 in
      let next : y.session_ids.next ≡ m.session + 1 = ap (λ (e : End). e.session_ids.next) h.after ∙ drawn_next x.session_ids m.session h.drawn in
      let lac = wanted_by_lac x ev h.tunnel.control.peer h.wants in
      call_put x ok y m.tunnel h.tunnel _ _ m.session (rung x.role m.subscriber moment) (record {
        tunnels = ap (λ (e : End). e.tunnels) h.after;
        there = h.there;
        peer = refl;
        only = λ j u f o d g. no_tunnel x ok m.session fresh j u f d g;
        calls = same_places x ok y.calls _ (ap (λ (e : End). e.calls) h.after ∙ rw (rung_state x.role m.subscriber moment lac) refl);
        ids = ap (λ (e : End). e.tunnel_ids) h.after;
        role = ap (λ (e : End). e.role) h.after;
        fits = rung_fits x.role m.subscriber moment lac;
        drawn = omega (arith, next);
        rises = omega (arith, next, fresh);
      })
  does_looks order moment ev (move.Replied m) y so h =
      let fresh = (draw_is x.session_ids m.session h.drawn).0 in
      let next : y.session_ids.next ≡ m.session + 1 = ap (λ (e : End). e.session_ids.next) h.after ∙ drawn_next x.session_ids m.session h.drawn in
      call_put x ok y m.tunnel h.tunnel _ _ m.session (asked_for x.role m.remote moment) (record {
        tunnels = ap (λ (e : End). e.tunnels) h.after;
        there = h.there;
        peer = refl;
        only = λ j u f o d g. no_tunnel x ok m.session fresh j u f d g;
        calls = same_places x ok y.calls _ (ap (λ (e : End). e.calls) h.after ∙ rw (replied_state x.role m.remote moment h.row) refl);
        ids = ap (λ (e : End). e.tunnel_ids) h.after;
        role = ap (λ (e : End). e.role) h.after;
        fits = rw (reply_is_lns x.role h.row) (asked_fits m.remote moment);
        drawn = omega (arith, next);
        rises = omega (arith, next, fresh);
      })
  does_looks order moment ev (move.Requested m) y so h =
      let seen = ok.seen m.tunnel h.tunnel h.there m.session h.call h.waits in
      let lt = ok.sessions m.session _ seen in
      let ids : y.session_ids ≡ x.session_ids = ap (λ (e : End). e.session_ids) h.after in
      call_put x ok y m.tunnel h.tunnel _ _ m.session (advanced x.role call_event.TunnelOpen moment h.call) (record {
        tunnels = ap (λ (e : End). e.tunnels) h.after;
        there = h.there;
        peer = refl;
        only = one_tunnel x ok m.tunnel h.tunnel h.there m.session h.call h.waits;
        calls = same_places x ok y.calls _ (ap (λ (e : End). e.calls) h.after ∙ rw (seen, (requested_state x.role h.call.state h.row).1) refl);
        ids = ap (λ (e : End). e.tunnel_ids) h.after;
        role = ap (λ (e : End). e.role) h.after;
        fits = lac_fits x.role h.call.state _ h.call.link (request_is_lac x.role h.call.state h.row) (ok.links m.tunnel h.tunnel h.there m.session h.call h.waits);
        drawn = rw ids lt;
        rises = rw ids (omega arith);
      })
  does_looks order moment ev (move.FirstUp m) y so h =
      let seen = ok.seen m.tunnel h.tunnel h.there m.session h.call h.asked in
      let lt = ok.sessions m.session _ seen in
      let ids : y.session_ids ≡ x.session_ids = ap (λ (e : End). e.session_ids) h.after in
      let state = connected_state x.role h.call.state h.row in
      let lac = connection_is_lac x.role h.call.state h.row in
      let none = lac_has_none x.role h.call.state h.call.link lac (ok.links m.tunnel h.tunnel h.there m.session h.call h.asked) in
      let bound : at x.calls m.session ≡ Some (record { tunnel = m.tunnel; look = look.Bound m.tunnel h.tunnel.control.peer }) =
      seen ∙ ap (λ q. Some (record { tunnel = m.tunnel; look = look_in_state q h.call.link m.tunnel h.tunnel.control.peer })) state.0 in
      call_put x ok y m.tunnel h.tunnel _ _ m.session (advanced x.role call_event.IcrpAcc moment (record h.call { remote = m.remote })) (record {
        tunnels = ap (λ (e : End). e.tunnels) h.after;
        there = h.there;
        peer = refl;
        only = one_tunnel x ok m.tunnel h.tunnel h.there m.session h.call h.asked;
        calls = same_places x ok y.calls _ (ap (λ (e : End). e.calls) h.after ∙ rw (bound, state.1, none) refl);
        ids = ap (λ (e : End). e.tunnel_ids) h.after;
        role = ap (λ (e : End). e.role) h.after;
        fits = lac_fits x.role h.call.state _ h.call.link lac (ok.links m.tunnel h.tunnel h.there m.session h.call h.asked);
        drawn = rw ids lt;
        rises = rw ids (omega arith);
      })
  does_looks order moment ev (move.SecondUp m) y so h =
      let seen = ok.seen m.tunnel h.tunnel h.there m.session h.call h.made in
      let lt = ok.sessions m.session _ seen in
      let ids : y.session_ids ≡ x.session_ids = ap (λ (e : End). e.session_ids) h.after in
      let state = up_state _ h.row in
      call_put x ok y m.tunnel h.tunnel _ _ m.session (with_link (new_link (record { moment = moment; block = h.block })) (with_numbers m.sequenced (advanced x.role call_event.IccnAcc moment h.call))) (record {
        tunnels = ap (λ (e : End). e.tunnels) h.after;
        there = h.there;
        peer = refl;
        only = one_tunnel x ok m.tunnel h.tunnel h.there m.session h.call h.made;
        calls = same_places x ok y.calls _ (ap (λ (e : End). e.calls) h.after ∙ rw (seen, state) refl);
        ids = ap (λ (e : End). e.tunnel_ids) h.after;
        role = ap (λ (e : End). e.role) h.after;
        fits = connected_fits x.role _ _ (connected_is_lns x.role h.call.state h.row) state;
        drawn = rw ids lt;
        rises = rw ids (omega arith);
      })
  does_looks order moment ev (move.EndTold m) y so h =
      call_gone x ok order y m.tunnel h.tunnel _ _ m.session h.call (record {
        tunnels = ap (λ (e : End). e.tunnels) h.after;
        there = h.there;
        peer = refl;
        live = h.live;
        calls = ap (λ (e : End). e.calls) h.after;
        ids = ap (λ (e : End). e.tunnel_ids) h.after;
        role = ap (λ (e : End). e.role) h.after;
        drawn = ap (λ (e : End). e.session_ids) h.after;
      })
  does_looks order moment ev (move.EndHeard m) y so h =
      call_gone x ok order y m.tunnel h.tunnel _ _ m.session h.call (record {
        tunnels = ap (λ (e : End). e.tunnels) h.after;
        there = h.there;
        peer = refl;
        live = h.live;
        calls = ap (λ (e : End). e.calls) h.after;
        ids = ap (λ (e : End). e.tunnel_ids) h.after;
        role = ap (λ (e : End). e.role) h.after;
        drawn = ap (λ (e : End). e.session_ids) h.after;
      })
  does_looks order moment ev (move.EndSilent m) y so h =
      call_gone x ok order y m.tunnel h.tunnel _ _ m.session h.call (record {
        tunnels = ap (λ (e : End). e.tunnels) h.after;
        there = h.there;
        peer = refl;
        live = h.live;
        calls = ap (λ (e : End). e.calls) h.after;
        ids = ap (λ (e : End). e.tunnel_ids) h.after;
        role = ap (λ (e : End). e.role) h.after;
        drawn = ap (λ (e : End). e.session_ids) h.after;
      })
  does_looks order moment ev (move.Closed m) y so h = subst LooksAreTrue (sym h.after) (tunnel_shut x ok order m.tunnel h.tunnel h.there _ _)
  does_looks order moment ev (move.Rejected m) y so h = subst LooksAreTrue (sym h.after) (tunnel_shut x ok order m.tunnel h.tunnel h.there _ _)
  does_looks order moment ev (move.ClosedBy m) y so h = subst LooksAreTrue (sym h.after) (tunnel_shut x ok order m.tunnel h.tunnel h.there _ _)
  does_looks order moment ev (move.Cleared i booked) y so h = subst LooksAreTrue (sym h.after) (tunnel_gone x ok order i h.tunnel h.there)
  does_looks order moment ev (move.Greeted m) y so h = subst LooksAreTrue (sym h.after)
      (calls_stay x ok m.tunnel h.tunnel _ _ _ _ h.there refl)
  does_looks order moment ev (move.Refused m) y so h = subst LooksAreTrue (sym h.after)
      (calls_stay x ok m.tunnel h.tunnel _ _ _ _ h.there refl)
  does_looks order moment ev (move.Repeated m) y so h = subst LooksAreTrue (sym h.after)
      (calls_stay x ok m.tunnel h.tunnel _ _ _ _ h.there refl)
  does_looks order moment ev (move.NrRead m) y so h = subst LooksAreTrue (sym h.after)
      (calls_stay x ok m.tunnel h.tunnel _ _ _ _ h.there refl)
  does_looks order moment ev (move.LetGo m) y so h = subst LooksAreTrue (sym h.after)
      (calls_stay x ok m.tunnel h.tunnel _ _ _ _ h.there refl)
  does_looks order moment ev (move.Declined m) y so h = stays y h.after
  does_looks order moment ev (move.Quiet i) y so h = stays y h.after
  does_looks order moment ev (move.Negotiated m) y so h =
      let seen = ok.seen m.tunnel h.tunnel h.there m.session h.call h.live in
      let lt = ok.sessions m.session _ seen in
      let ids : y.session_ids ≡ x.session_ids = ap (λ (e : End). e.session_ids) h.after in
      let state = up_state h.call.state h.up in
      let v = turn_at h.calls.by h.calls.link in
      let tells = each_tells_opening h.calls.by.env h.calls.by.call h.calls.link in
      let seen_so : at x.calls m.session ≡ Some (record (new_place m.tunnel) { look = look_by h.calls.link.network m.tunnel h.tunnel.control.peer }) =
      seen ∙ rw (state, h.calls.has) refl in
      let places = ap (λ (e : End). e.calls) h.after in
      call_put x ok y m.tunnel h.tunnel _ _ m.session (with_link v.link h.call) (record {
        tunnels = ap (λ (e : End). e.tunnels) h.after;
        there = h.there;
        peer = refl;
        only = one_tunnel x ok m.tunnel h.tunnel h.there m.session h.call h.live;
        calls = λ q. same_places x ok y.calls _ places q
            ∙ (opened_place x.calls m.session m.tunnel h.tunnel.control.peer h.calls.link.network v.link.network v.opens tells.told tells.stays seen_so q ∙ rw state refl);
        ids = ap (λ (e : End). e.tunnel_ids) h.after;
        role = ap (λ (e : End). e.role) h.after;
        fits = linked_fits x.role h.call.state h.call.link h.calls.link v.link h.calls.has state
            (ok.links m.tunnel h.tunnel h.there m.session h.call h.live);
        drawn = rw ids lt;
        rises = rw ids (omega arith);
      })
  does_looks order moment ev (move.Counted m) y so h =
      let seen = ok.seen m.tunnel h.tunnel h.there m.session h.call h.live in
      let lt = ok.sessions m.session _ seen in
      let ids : y.session_ids ≡ x.session_ids = ap (λ (e : End). e.session_ids) h.after in
      call_put x ok y m.tunnel h.tunnel _ _ m.session (counted h.call) (record {
        tunnels = ap (λ (e : End). e.tunnels) h.after;
        there = h.there;
        peer = refl;
        only = one_tunnel x ok m.tunnel h.tunnel h.there m.session h.call h.live;
        calls = λ q. same_places x ok y.calls x.calls (ap (λ (e : End). e.calls) h.after) q ∙ same_place x.calls m.session _ seen q;
        ids = ap (λ (e : End). e.tunnel_ids) h.after;
        role = ap (λ (e : End). e.role) h.after;
        fits = ok.links m.tunnel h.tunnel h.there m.session h.call h.live;
        drawn = rw ids lt;
        rises = rw ids (omega arith);
      })
  does_looks order moment ev (move.FrameSent m) y so h = stays y h.after
  does_looks order moment ev (move.FrameUp m) y so h = stays y h.after
  does_looks order moment ev (move.Restored m) y so h = absurd so
  does_looks order moment ev (move.Forgot m) y so h = absurd so
  does_looks order moment ev (move.Froze m) y so h =
      let left = left_finished h.tunnel.calls h.tunnel.calls (order.calls m.tunnel h.tunnel h.there) (own_entries h.tunnel.calls (order.calls m.tunnel h.tunnel h.there)) in
      subst LooksAreTrue (sym h.after) (froze_looks x ok order m.tunnel h.tunnel h.there _ h.recovery refl
      (subst (λ cs. FrozenSo x m.tunnel h.tunnel cs) left (calls_end (unfinished_of h.tunnel.calls) x ok order m.tunnel h.tunnel h.there
      (live_filter (λ s. is_unfinished (at h.tunnel.calls s)) h.tunnel.calls (order.calls m.tunnel h.tunnel h.there)))))
  does_looks order moment ev (move.ResetAttempting m) y so h = subst LooksAreTrue (sym h.after)
      (calls_stay x ok m.tunnel h.tunnel _ _ _ _ h.there refl)
  does_looks order moment ev (move.ResetAnswering m) y so h = subst LooksAreTrue (sym h.after)
      (calls_stay x ok m.tunnel h.tunnel _ _ _ _ h.there refl)
  does_looks order moment ev (move.Queried m) y so h = subst LooksAreTrue (sym h.after)
      (calls_stay x ok m.tunnel h.tunnel _ _ _ _ h.there refl)
  does_looks order moment ev (move.AnsweredQuery m) y so h = subst LooksAreTrue (sym h.after)
      (calls_stay x ok m.tunnel h.tunnel _ _ _ _ h.there refl)
  does_looks order moment ev (move.TookAnswer m) y so h =
      subst LooksAreTrue (sym h.after)
      (took_looks x ok order m.tunnel h.tunnel h.there m.ended (live_up m.ended h.tunnel.calls h.up) _ _ refl)
  does_looks order moment ev (move.RecoveryWentOn i) y so h = subst LooksAreTrue (sym h.after)
      (calls_stay x ok i h.tunnel _ _ _ _ h.there refl)
  does_looks order moment ev (move.RecoveryEnded i) y so h = subst LooksAreTrue (sym h.after)
      (calls_stay x ok i h.tunnel _ _ _ _ h.there refl)
  does_looks order moment ev (move.Ignored i) y so h = subst LooksAreTrue (sym h.after) (calls_stay x ok i h.tunnel _ _ _ _ h.there refl)

-- ---- what ascends still does

module _ (x : End) (ok : AreOrdered x) where
  -- a tunnel is put, and looks change
  tunnel_put : (y : End) (i : ℕ) (t : Tunnel) → Ascends t.calls → y.tunnels ≡ put x.tunnels i t → Ascends y.calls → AreOrdered y
  tunnel_put y i t sorted tunnels places = record {
    tunnels = rw tunnels (ascends-put i t x.tunnels ok.tunnels);
    calls = λ j u f. ⊎_elim
        (λ (a : (j ≡ i) × (t ≡ u)). rw (← a.1) sorted)
        (λ a. ok.calls j u a.1)
        (found_put x.tunnels i t j u (rw (← tunnels) f));
    places = places;
  }

  -- looks stay
  looks_stay_so : (y : End) → y.calls ≡ x.calls → Ascends y.calls
  looks_stay_so y same = rw same ok.places

  goes_on : (y : End) (i : ℕ) (t : Tunnel) (c : Control) (ls : List Letter) → at x.tunnels i ≡ Some t
      → y ≡ with_tunnel x i (record t { control = c; letters = ls }) → AreOrdered y
  goes_on y i t c ls there is =
      tunnel_put y i (record t { control = c; letters = ls }) (ok.calls i t there) (ap (λ (e : End). e.tunnels) is)
      (looks_stay_so y (ap (λ (e : End). e.calls) is))

  -- with another recovery tunnel, or another query
  line_on : (y : End) (i : ℕ) (t : Tunnel) (c : Control) (ls : List Letter) (q : Option Recovering) (asks : Asking)
      → at x.tunnels i ≡ Some t
      → y ≡ with_tunnel x i (record t { control = c; letters = ls; recovery = q; query = asks }) → AreOrdered y
  line_on y i t c ls q asks there is =
      tunnel_put y i (record t { control = c; letters = ls; recovery = q; query = asks }) (ok.calls i t there)
      (ap (λ (e : End). e.tunnels) is)
      (looks_stay_so y (ap (λ (e : End). e.calls) is))

  -- calls that come back
  ascends_back : (r : Role) (g : Ground) (cs : List BookCall) → Ascends (calls_back r g cs)
  ascends_back r g [] = ascends-empty [] refl
  ascends_back r g (c ∷ cs) = ascends-put c.local _ (calls_back r g cs) (ascends_back r g cs)

  pub does_order : (moment : ℕ) (ev : Event) (m : Move) (y : End) → Does x moment ev m y → AreOrdered y
  does_order moment ev (move.Opened m) y h =
      tunnel_put y m.tunnel _ (ascends-empty [] refl) (ap (λ (e : End). e.tunnels) h.after) (looks_stay_so y (ap (λ (e : End). e.calls) h.after))
  does_order moment ev (move.Accepted m) y h =
      tunnel_put y m.tunnel _ (ascends-empty [] refl) (ap (λ (e : End). e.tunnels) h.after) (looks_stay_so y (ap (λ (e : End). e.calls) h.after))
  does_order moment ev (move.Connected m) y h = goes_on y m.tunnel h.tunnel _ _ h.there h.after
  does_order moment ev (move.Confirmed m) y h = goes_on y m.tunnel h.tunnel _ _ h.there h.after
  does_order moment ev (move.TookPlain m) y h = goes_on y m.tunnel h.tunnel _ _ h.there h.after
  does_order moment ev (move.NrRead m) y h = goes_on y m.tunnel h.tunnel _ _ h.there h.after
  does_order moment ev (move.LetGo m) y h = goes_on y m.tunnel h.tunnel _ _ h.there h.after
  does_order moment ev (move.Greeted m) y h = goes_on y m.tunnel h.tunnel _ _ h.there h.after
  does_order moment ev (move.Refused m) y h = goes_on y m.tunnel h.tunnel _ _ h.there h.after
  does_order moment ev (move.Repeated m) y h = goes_on y m.tunnel h.tunnel _ _ h.there h.after
  does_order moment ev (move.Added m) y h =
      tunnel_put y m.tunnel _ (ascends-put m.session _ h.tunnel.calls (ok.calls m.tunnel h.tunnel h.there)) (ap (λ (e : End). e.tunnels) h.after)
      (subst (λ (e : End). Ascends e.calls) (sym h.after) (ascends-put m.session _ x.calls ok.places))
  does_order moment ev (move.Replied m) y h =
      tunnel_put y m.tunnel _ (ascends-put m.session _ h.tunnel.calls (ok.calls m.tunnel h.tunnel h.there)) (ap (λ (e : End). e.tunnels) h.after)
      (subst (λ (e : End). Ascends e.calls) (sym h.after) (ascends-put m.session _ x.calls ok.places))
  does_order moment ev (move.Requested m) y h =
      tunnel_put y m.tunnel _ (ascends-put m.session _ h.tunnel.calls (ok.calls m.tunnel h.tunnel h.there)) (ap (λ (e : End). e.tunnels) h.after)
      (subst (λ (e : End). Ascends e.calls) (sym h.after) (ascends_look _ x.calls ok.places))
  does_order moment ev (move.FirstUp m) y h =
      tunnel_put y m.tunnel _ (ascends-put m.session _ h.tunnel.calls (ok.calls m.tunnel h.tunnel h.there)) (ap (λ (e : End). e.tunnels) h.after)
      (subst (λ (e : End). Ascends e.calls) (sym h.after) (ascends_look _ x.calls ok.places))
  does_order moment ev (move.SecondUp m) y h =
      tunnel_put y m.tunnel _ (ascends-put m.session _ h.tunnel.calls (ok.calls m.tunnel h.tunnel h.there)) (ap (λ (e : End). e.tunnels) h.after)
      (subst (λ (e : End). Ascends e.calls) (sym h.after) (ascends_look _ x.calls ok.places))
  does_order moment ev (move.EndTold m) y h =
      tunnel_put y m.tunnel _ (ascends-without m.session h.tunnel.calls (ok.calls m.tunnel h.tunnel h.there)) (ap (λ (e : End). e.tunnels) h.after)
      (subst (λ (e : End). Ascends e.calls) (sym h.after) (ascends_look (cell.Kill m.session) x.calls ok.places))
  does_order moment ev (move.EndHeard m) y h =
      tunnel_put y m.tunnel _ (ascends-without m.session h.tunnel.calls (ok.calls m.tunnel h.tunnel h.there)) (ap (λ (e : End). e.tunnels) h.after)
      (subst (λ (e : End). Ascends e.calls) (sym h.after) (ascends_look (cell.Kill m.session) x.calls ok.places))
  does_order moment ev (move.EndSilent m) y h =
      tunnel_put y m.tunnel _ (ascends-without m.session h.tunnel.calls (ok.calls m.tunnel h.tunnel h.there)) (ap (λ (e : End). e.tunnels) h.after)
      (subst (λ (e : End). Ascends e.calls) (sym h.after) (ascends_look (cell.Kill m.session) x.calls ok.places))
  does_order moment ev (move.Closed m) y h =
      tunnel_put y m.tunnel _ (ascends-empty [] refl) (ap (λ (e : End). e.tunnels) h.after)
      (subst (λ (e : End). Ascends e.calls) (sym h.after) (ascends_looks (map cell.Kill (ids_of h.tunnel.calls)) x.calls ok.places))
  does_order moment ev (move.Rejected m) y h =
      tunnel_put y m.tunnel _ (ascends-empty [] refl) (ap (λ (e : End). e.tunnels) h.after)
      (subst (λ (e : End). Ascends e.calls) (sym h.after) (ascends_looks (map cell.Kill (ids_of h.tunnel.calls)) x.calls ok.places))
  does_order moment ev (move.ClosedBy m) y h =
      tunnel_put y m.tunnel _ (ascends-empty [] refl) (ap (λ (e : End). e.tunnels) h.after)
      (subst (λ (e : End). Ascends e.calls) (sym h.after) (ascends_looks (map cell.Kill (ids_of h.tunnel.calls)) x.calls ok.places))
  does_order moment ev (move.Cleared i booked) y h =
      subst AreOrdered (sym h.after) (record {
        tunnels = ascends-without i x.tunnels ok.tunnels;
        calls = λ j u f. ok.calls j u (found_without x.tunnels i j u ok.tunnels f).1;
        places = ascends_looks (map cell.Kill (ids_of h.tunnel.calls)) x.calls ok.places;
      })
  does_order moment ev (move.Declined m) y h = subst AreOrdered (sym h.after) ok
  does_order moment ev (move.Quiet i) y h = subst AreOrdered (sym h.after) ok
  does_order moment ev (move.Negotiated m) y h =
      tunnel_put y m.tunnel _ (ascends-put m.session _ h.tunnel.calls (ok.calls m.tunnel h.tunnel h.there)) (ap (λ (e : End). e.tunnels) h.after)
      (subst (λ (e : End). Ascends e.calls) (sym h.after)
      (ascends_looks (looks_of (turn_at h.calls.by h.calls.link).opens m.session) x.calls ok.places))
  does_order moment ev (move.Counted m) y h =
      tunnel_put y m.tunnel _ (ascends-put m.session _ h.tunnel.calls (ok.calls m.tunnel h.tunnel h.there)) (ap (λ (e : End). e.tunnels) h.after)
      (looks_stay_so y (ap (λ (e : End). e.calls) h.after))
  does_order moment ev (move.FrameSent m) y h = subst AreOrdered (sym h.after) ok
  does_order moment ev (move.FrameUp m) y h = subst AreOrdered (sym h.after) ok
  does_order moment ev (move.Restored m) y h =
      tunnel_put y m.tunnel.local _ (ascends_back x.role h.ground m.calls) (ap (λ (e : End). e.tunnels) h.after)
      (subst (λ (e : End). Ascends e.calls) (sym h.after) (ascends_looks _ _ (ascends_placed m.tunnel.local _ x.calls ok.places)))
  does_order moment ev (move.Forgot m) y h = subst AreOrdered (sym h.after) ok
  does_order moment ev (move.Froze m) y h =
      tunnel_put y m.tunnel _ (ascends_finished h.tunnel.calls (ok.calls m.tunnel h.tunnel h.there)) (ap (λ (e : End). e.tunnels) h.after)
      (subst (λ (e : End). Ascends e.calls) (sym h.after) (ascends_looks (map cell.Kill (unfinished_of h.tunnel.calls)) x.calls ok.places))
  does_order moment ev (move.ResetAttempting m) y h = line_on y m.tunnel h.tunnel _ _ _ _ h.there h.after
  does_order moment ev (move.ResetAnswering m) y h = line_on y m.tunnel h.tunnel _ _ _ _ h.there h.after
  does_order moment ev (move.Queried m) y h = line_on y m.tunnel h.tunnel _ _ _ _ h.there h.after
  does_order moment ev (move.AnsweredQuery m) y h = line_on y m.tunnel h.tunnel _ _ _ _ h.there h.after
  does_order moment ev (move.TookAnswer m) y h =
      tunnel_put y m.tunnel _ (ascends_each m.ended h.tunnel.calls (ok.calls m.tunnel h.tunnel h.there))
      (ap (λ (e : End). e.tunnels) h.after)
      (subst (λ (e : End). Ascends e.calls) (sym h.after) (ascends_looks (map cell.Kill m.ended) x.calls ok.places))
  does_order moment ev (move.RecoveryWentOn i) y h = line_on y i h.tunnel _ _ _ _ h.there h.after
  does_order moment ev (move.RecoveryEnded i) y h = line_on y i h.tunnel _ _ _ _ h.there h.after
  does_order moment ev (move.Ignored i) y h = line_on y i h.tunnel _ _ _ _ h.there h.after

pub chain_looks : (moment : ℕ) (ev : Event) (x y : End) (ms : List Move) → AllByRecursion IsOfNoStart ms → Chain moment ev x ms y → AreOrdered x → LooksAreTrue x → LooksAreTrue y
chain_looks moment ev x y [] so h order ok = subst LooksAreTrue h ok
chain_looks moment ev x y (m ∷ ms) so h order ok =
    chain_looks moment ev h.0 y ms so.1 h.2 (does_order x order moment ev m h.0 h.1) (does_looks x ok order moment ev m h.0 so.0 h.1)

pub kept_order : (e : End) → AreKept e → AreOrdered e
kept_order e kept = record { tunnels = kept.order; calls = λ i t f. (kept.tunnels i t f).calls; places = kept.places }

pub looks_begin : LooksBeginTrue
looks_begin r c = record {
  live = λ s p f. absurd (none-some p (sym (at-none s) ∙ f));
  seen = λ i t f s d g. absurd (none-some t (sym (at-none i) ∙ f));
  links = λ i t f s d g. absurd (none-some t (sym (at-none i) ∙ f));
  tunnels = λ i t f. absurd (none-some t (sym (at-none i) ∙ f));
  sessions = λ s p f. absurd (none-some p (sym (at-none s) ∙ f));
}

pub looks_stay : StepsAreChains → LooksStayTrue
looks_stay chains e kept ok moment block ev = chain_looks moment ev e _ _ (steps_are_no_starts e moment block ev) (chains e kept moment block ev).chain (kept_order e kept) ok
