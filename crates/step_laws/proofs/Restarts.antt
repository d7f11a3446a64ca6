-- After a start what is seen of each session is so.
use Rattle.std.proofs.Common.{◌≡◌, ⊎_elim, ℕ, ◌+◌, ◌<◌, ◌≤◌, Bool, true, false, List, [], ◌∷◌, length, refl, sym, ap, ◌∙◌, subst, Option, Some, None, Result, Ok, Err, arith, suc, ◌++◌, inl, inr, ◌⊎◌}
use Rattle.std.proofs.lemmas.Option.{none-some}
use Rattle.std.specs.Prelude.{◌==◌, if◌then◌else◌}
use Rattle.std.specs.List.{AllByRecursion}
use Rattle.id_table.specs.Ids.{at, at-none, put}
use Rattle.id_table.specs.Order.{found_put, found_without, at_other, at_without_other}
use Rattle.id_source.specs.Spaces.{takes_id, after_id, Space}
use Rattle.id_source.specs.declared.IdError.{IdError}
use Rattle.session_book.specs.declared.record.BookTunnel.{BookTunnel}
use Rattle.session_book.specs.declared.record.BookCall.{BookCall}
use Rattle.session_book.specs.Books.{Kept, calls_of}
use Rattle.end_names.specs.declared.role.Role.{Role}
use Rattle.end_model.specs.declared.tunnel.CallPlace.{CallPlace}
use Rattle.end_model.specs.declared.tunnel.Config.{Config}
use Rattle.end_model.specs.declared.event.Event.{Event}
use Rattle.end_model.specs.declared.event.Event.TheVariants.{Tick}
use Rattle.end_model.specs.declared.moves.Move.{Move}
use Rattle.end_model.specs.declared.moves.Move.TheVariants as move
use Rattle.end_model.specs.declared.moves.Restored.{Restored}
use Rattle.end_model.specs.Tunnels.{Tunnel, Turn, turn_of, Drawing, Ground, Recovering}
use Rattle.end_model.specs.Secrets.{challenge_by}
use Rattle.end_model.specs.Turn.{with_move}
use Rattle.end_model.specs.Starting.{bare_end, kept_control, can_recover, restores, forgets, restored_by, restored, behind_all, restored_all, starts, kept_call, gone_with}
use Rattle.end_model.specs.End.{End, Stepped, env_of, after_turn, placed, tunnels_after}
use Rattle.step_laws.specs.Letters.{Among}
use Rattle.step_laws.specs.Looks.{LooksAreTrue}
use Rattle.step_laws.specs.Moves.{Chain}
use Rattle.step_laws.specs.Steps.{AreKept, IsOfNoStart}
use Rattle.step_laws.specs.Starts.{StartsLookTrue, StartsAreAllowed, StartsTellForgotten}
use Rattle.step_laws.proofs.Booked.{TunnelsRise, IsBook, CallsRise, sound_book}
use Rattle.step_laws.proofs.Lists.{ascends_placed, branch}
use Rattle.step_laws.proofs.Looks.{chain_looks, kept_order, does_order, next_risen}
use Rattle.step_laws.proofs.Gone.{looks_tunnel, not_left}
use Rattle.step_laws.proofs.Starts.{AreUpTo, none_above, rise_filter, IsBack, comes_back, bare_kept, FromBack, restored_step, restored_from, IsAsBack, restored_turn, restored_keeps, back_turn, listed, ascends_listed, own_calls, restored_hold, restored_tells}
use Rattle.step_laws.proofs.Returning.{locals, all_among, rise_one, among_own, all_own, placed_found, restored_looks, IsOther, one_or_other, none_listed, other_rise}
use Rattle.end_model.specs.declared.tunnel.Control.{Control}
use Rattle.call_fsm.specs.declared.table.CallState.TheVariants as call
use Rattle.call_fsm.specs.declared.table.CallState.{CallState}
use Rattle.end_names.specs.declared.role.Role.TheVariants.{Lac, Lns}
use Rattle.end_model.specs.declared.tunnel.Call.{Call}
use Rattle.end_model.specs.Events.{with_calls, tunnel_after}
use Rattle.step_laws.specs.Left.{CanBe}
use Rattle.step_laws.proofs.Few.{put_most, without_most}
use Rattle.step_laws.proofs.Finished.{own_entries}
use Rattle.std.proofs.lemmas.Grind.{flat_map-append}
use Rattle.std.proofs.lemmas.List.{append-nil}
use Rattle.step_laws.specs.Gone.{gone_of_output, gone_in}
use Rattle.step_laws.proofs.Distinct.{AreDistinct, among_either, distinct_append, distinct_pairs}

-- ---- the calls of a tunnel that came back are established, and of the book

record IsUpOne (cs : List BookCall) (q : ℕ) (c : Call) : Type 0 where
  of : BookCall
  among : Among of cs
  session : q ≡ of.local
  state : c.state ≡ call.Established

abbrev AllUp : List BookCall → List (ℕ × Call) → Type 0
AllUp cs es = (q : ℕ) (c : Call) → at es q ≡ Some c → IsUpOne cs q c

up_listed : (r : Role) (g : Ground) (n : ℕ) (cs : List BookCall) → CallsRise n cs → AllUp cs (listed r g cs)
up_listed r g n cs rise q c there = ⊎_elim
    (λ (a : (d : BookCall) × (Among d cs × (q ≡ d.local))).
    let is = all_among (λ (d : BookCall). at (listed r g cs) d.local ≡ Some (kept_call r g d)) cs a.0
    (own_calls r g (listed r g cs) cs (own_entries (listed r g cs) (ascends_listed r g n cs rise))) a.1.0 in
    let both : Some (kept_call r g a.0) ≡ Some c = sym is ∙ ap (λ j. at (listed r g cs) j) (sym a.1.1) ∙ there in
    let same : kept_call r g a.0 ≡ c = cc in
    record { of = a.0; among = a.1.0; session = a.1.1; state = ap (λ (k : Call). k.state) (sym same) })
    (λ (o : IsOther q cs). absurd (none-some c (sym (none_listed r g cs q o) ∙ there)))
    (one_or_other q cs)

up_put : (cs : List BookCall) (es : List (ℕ × Call)) (c : BookCall) → Among c cs → (d : Call) → d.state ≡ call.Established → AllUp cs es → AllUp cs (put es c.local d)
up_put cs es c among d up h q k there = ⊎_elim
    (λ (a : (q ≡ c.local) × (d ≡ k)). record { of = c; among = among; session = a.0; state = ap (λ (y : Call). y.state) (sym a.1) ∙ up })
    (λ (a : (q ≡ c.local → ⊥) × (at es q ≡ Some k)). h q k a.1)
    (found_put es c.local d q k there)

few_after : (tunnels : List (ℕ × Tunnel)) (i : ℕ) (cleared : Bool) (t : Tunnel) → length (tunnels_after tunnels i cleared t) ≤ suc (length tunnels)
few_after tunnels i true t = let least = without_most tunnels i in omega (arith, least)
few_after tunnels i false t = put_most tunnels i t

other_after : (tunnels : List (ℕ × Tunnel)) (i : ℕ) (cleared : Bool) (t : Tunnel) (j : ℕ) → (j ≡ i → ⊥) → at (tunnels_after tunnels i cleared t) j ≡ at tunnels j
other_after tunnels i true t j other = at_without_other tunnels i j other
other_after tunnels i false t j other = at_other tunnels i t j other

gone_locals : (cs : List BookCall) → gone_in (gone_with cs) ≡ locals cs
gone_locals [] = refl
gone_locals (c ∷ cs) = ap (λ qs. c.local ∷ qs) (gone_locals cs)

other_local : (q : ℕ) (cs : List BookCall) → IsOther q cs → Among q (locals cs) → ⊥
other_local q [] o a = a
other_local q (c ∷ cs) o a = ⊎_elim (λ (same : c.local ≡ q). o.0 (sym same)) (λ later. other_local q cs o.1 later) a

call_of : (q : ℕ) (cs : List BookCall) → Among q (locals cs) → (c : BookCall) × (Among c cs × (q ≡ c.local))
call_of q [] a = absurd a
call_of q (c ∷ cs) a = ⊎_elim
    (λ (same : c.local ≡ q). (c, (inl refl, sym same)))
    (λ later. let d = call_of q cs later in (d.0, (inr d.1.0, d.1.1)))
    a

-- the moves of a start, of which none looks at an event
abbrev ev : Event
ev = Tick

module _ (k : Kept) (book : IsBook k) (moment : ℕ) (block : List ℕ) where
  -- a place is that of a call of the book
  record IsOfBook (q : ℕ) (p : CallPlace) : Type 0 where
    call : BookCall
    among : Among call k.calls
    session : q ≡ call.local
    tunnel : p.tunnel ≡ call.tunnel

  -- an end in a start
  record IsSeen (n : ℕ) (x : End) : Type 0 where
    kept : AreKept x
    up : AreUpTo n x.tunnels
    looks : LooksAreTrue x
    tunnel_next : k.tunnel_ceiling < x.tunnel_ids.next
    session_next : k.session_ceiling < x.session_ids.next
    of : (q : ℕ) (p : CallPlace) → at x.calls q ≡ Some p → IsOfBook q p
    ups : (j : ℕ) (t : Tunnel) → at x.tunnels j ≡ Some t → AllUp k.calls t.calls

  -- with one tunnel more at most
  abbrev IsSeenOn : End → ℕ → End → Type 0
  IsSeenOn x n y = IsSeen n y × (length y.tunnels ≤ suc (length x.tunnels))

  module _ (x : End) (n : ℕ) (h : IsSeen n x) (b : BookTunnel) (over : n < b.local) (drawn_id : b.local ≤ k.tunnel_ceiling) where
    abbrev own : List BookCall
    own = calls_of b.local k.calls

    forgotten : IsSeen b.local (forgets x own b).end
    unfolding forgets
    forgotten = record {
      kept = h.kept;
      up = λ j t there. let low = h.up j t there in omega (arith, low, over);
      looks = h.looks;
      tunnel_next = h.tunnel_next;
      session_next = h.session_next;
      of = h.of;
      ups = h.ups;
    }

    -- no call of the tunnel has its place yet
    no_place : (c : BookCall) → Among c own → at x.calls c.local ≡ None
    no_place c a = by (at x.calls c.local) refl
      where
        by : (o : Option CallPlace) → at x.calls c.local ≡ o → o ≡ None
        by None is = refl
        by (Some p) is =
            let l = h.looks.live c.local p is in
            let low = h.up p.tunnel l.tunnel l.there in
            let f = h.of c.local p is in
            let mine = among_own b.local k.calls c a in
            let same = rise_one 0 k.calls c f.call book.calls mine.0 f.among f.session in
            let of = f.tunnel ∙ ap (λ (d : BookCall). d.tunnel) (sym same) ∙ mine.1 in
            absurd (omega (arith, low, of, over))

    module _ (can : can_recover b ≡ true) (local draw : ℕ) (drawn : takes_id x.tunnel_ids ≡ Ok local) (drew : takes_id x.recovery_ids ≡ Ok draw)
        (kept_then : AreKept (restored_by x (env_of x moment block) own b (Ok local) (Ok draw)).end)
        (up_then : AreUpTo b.local (restored_by x (env_of x moment block) own b (Ok local) (Ok draw)).end.tunnels) where
      abbrev s : Stepped
      s = restored_by x (env_of x moment block) own b (Ok local) (Ok draw)

      none : at x.tunnels b.local ≡ None
      none = none_above n b.local x.tunnels h.up over

      some : b.local ≡ 0 → ⊥
      some zero = absurd (omega (arith, zero, over))

      from : FromBack x h.kept moment ev block b own none some 0 (rise_filter (λ c. c.tunnel == b.local) 0 k.calls book.calls) (book.few b.local) can local draw drawn drew s.moves
      from = restored_from x h.kept moment ev block b own none some 0 (rise_filter (λ c. c.tunnel == b.local) 0 k.calls book.calls) (book.few b.local) can local draw drawn drew

      keeps : IsAsBack x h.kept moment ev block b own none some 0 (rise_filter (λ c. c.tunnel == b.local) 0 k.calls book.calls) (book.few b.local) can local draw drawn drew
          (back_turn x h.kept moment ev block b own none some 0 (rise_filter (λ c. c.tunnel == b.local) 0 k.calls book.calls) (book.few b.local) can local draw drawn drew)
          (restored_turn x h.kept moment ev block b own none some 0 (rise_filter (λ c. c.tunnel == b.local) 0 k.calls book.calls) (book.few b.local) can local draw drawn drew)
      keeps = restored_keeps x h.kept moment ev block b own none some 0 (rise_filter (λ c. c.tunnel == b.local) 0 k.calls book.calls) (book.few b.local) can local draw drawn drew

      abbrev m : Restored
      m = record { tunnel = b; calls = own; attempt = local; draw = draw; challenge = challenge_by x.config.secret block }

      abbrev recovery_then : Option Recovering
      recovery_then = (restores x.role x.config own b local draw (turn_of (kept_control moment b) (env_of x moment block))).recovery

      looks_from : (ms rest : List Move) → Chain moment ev x ms s.end → ms ≡ move.Restored m ∷ rest → AllByRecursion IsOfNoStart rest → LooksAreTrue s.end
      looks_from ms rest chain is so =
          let c = subst (λ (xs : List Move). Chain moment ev x xs s.end) is chain in
          let seen = restored_looks x h.looks moment m c.0 c.1 (rise_filter (λ d. d.tunnel == b.local) 0 k.calls book.calls)
          (let next = h.tunnel_next in omega (arith, next, drawn_id))
          (all_own (λ (d : BookCall). at x.calls d.local ≡ None) own own no_place (λ d a. a))
          (all_own (λ (d : BookCall). d.local < x.session_ids.next) k.calls own
          (λ d a. let low = all_among (λ (y : BookCall). y.local ≤ k.session_ceiling) k.calls d book.calls_drawn a in let next = h.session_next in omega (arith, low, next))
          (λ d a. (among_own b.local k.calls d a).0)) in
          chain_looks moment ev c.0 s.end rest so c.2 (does_order x (kept_order x h.kept) moment ev (move.Restored m) c.0 c.1) seen

      looks_then : LooksAreTrue s.end
      looks_then =
          looks_from s.moves from.rest
          (restored_step x h.kept moment ev block b own none some 0 (rise_filter (λ c. c.tunnel == b.local) 0 k.calls book.calls) (book.few b.local) can local draw drawn drew).chain.chain
          from.is from.so

      abbrev turn : Turn
      turn = restored_turn x h.kept moment ev block b own none some 0 (rise_filter (λ c. c.tunnel == b.local) 0 k.calls book.calls) (book.few b.local) can local draw drawn drew

      of_then : (q : ℕ) (p : CallPlace) → at s.end.calls q ≡ Some p → IsOfBook q p
      unfolding restored_by after_turn with_move
      of_then q p there =
          let made : turn.added ≡ locals own = keeps.added in
          let local_is : turn.control.local ≡ b.local = ap (λ (c : Control). c.local) keeps.control in
          let was = looks_tunnel turn.changes (placed turn.control.local turn.added x.calls) q p (ascends_placed turn.control.local turn.added x.calls h.kept.places) there in
          let moved : at (placed b.local (locals own) x.calls) q ≡ Some was.0 = subst (λ (ss : List ℕ). at (placed b.local ss x.calls) q ≡ Some was.0) made (subst (λ (j : ℕ). at (placed j turn.added x.calls) q ≡ Some was.0) local_is was.1.0) in
          ⊎_elim
          (λ (a : (c : BookCall) × (Among c own × ((q ≡ c.local) × (was.0.tunnel ≡ b.local)))).
          let mine = among_own b.local k.calls a.0 a.1.0 in
          record { call = a.0; among = mine.0; session = a.1.1.0; tunnel = sym was.1.1 ∙ a.1.1.1 ∙ sym mine.1 })
          (λ (old : at x.calls q ≡ Some was.0).
          let f = h.of q was.0 old in
          record { call = f.call; among = f.among; session = f.session; tunnel = sym was.1.1 ∙ f.tunnel })
          (placed_found b.local own x.calls q was.0 moved)

      tunnels_risen : x.tunnel_ids.next ≤ s.end.tunnel_ids.next
      unfolding restored_by after_turn with_move
      tunnels_risen =
          let is : turn.ids.tunnels ≡ after_id x.tunnel_ids = ap (λ (d : Drawing). d.tunnels) keeps.ids in
          subst (λ (z : Space). x.tunnel_ids.next ≤ z.next) (sym is) (next_risen x.tunnel_ids)

      sessions_same : s.end.session_ids ≡ x.session_ids
      unfolding restored_by after_turn with_move
      sessions_same = ap (λ (d : Drawing). d.sessions) keeps.ids

      ups_then : (j : ℕ) (t : Tunnel) → at s.end.tunnels j ≡ Some t → AllUp k.calls t.calls
      unfolding restored_by after_turn
      ups_then j t there = by_cleared turn.cleared there
        where
          own_up : AllUp own (with_calls turn.changed [])
          own_up = restored_hold x h.kept moment ev block b own none some 0 (rise_filter (λ c. c.tunnel == b.local) 0 k.calls book.calls) (book.few b.local) can local draw drawn drew
              (AllUp own) (λ es c a d up g. up_put own es c a d up g)
              (up_listed x.role (turn_of (kept_control moment b) (env_of x moment block)).on 0 own (rise_filter (λ c. c.tunnel == b.local) 0 k.calls book.calls))

          wider : (q : ℕ) (c : Call) → IsUpOne own q c → IsUpOne k.calls q c
          wider q c o = record { of = o.of; among = (among_own b.local k.calls o.of o.among).0; session = o.session; state = o.state }

          by_cleared : (cleared : Bool) → at (tunnels_after x.tunnels b.local cleared (tunnel_after turn [] [] recovery_then)) j ≡ Some t → AllUp k.calls t.calls
          by_cleared true found = h.ups j t (found_without x.tunnels b.local j t h.kept.order found).1
          by_cleared false found = ⊎_elim
              (λ (a : (j ≡ b.local) × (tunnel_after turn [] [] recovery_then ≡ t)). subst (λ (u : Tunnel). AllUp k.calls u.calls) a.1 (λ q c live. wider q c (own_up q c live)))
              (λ (a : (j ≡ b.local → ⊥) × (at x.tunnels j ≡ Some t)). h.ups j t a.1)
              (found_put x.tunnels b.local (tunnel_after turn [] [] recovery_then) j t found)

      few_then : length s.end.tunnels ≤ suc (length x.tunnels)
      unfolding restored_by after_turn
      few_then = few_after x.tunnels b.local turn.cleared (tunnel_after turn [] [] recovery_then)

      returned : IsSeen b.local s.end
      returned = record {
        kept = kept_then;
        up = up_then;
        looks = looks_then;
        tunnel_next = let next = h.tunnel_next in let rises = tunnels_risen in omega (arith, next, rises);
        session_next = subst (λ (z : Space). k.session_ceiling < z.next) (sym sessions_same) h.session_next;
        of = of_then;
        ups = ups_then;
      }

    forgotten_on : IsSeenOn x b.local (forgets x own b).end
    unfolding forgets
    forgotten_on = (forgotten, omega arith)

    no_tunnel_id : (y : IdError) (q : Result ℕ IdError) → restored_by x (env_of x moment block) own b (Err y) q ≡ forgets x own b
    unfolding restored_by
    no_tunnel_id y q = refl

    no_number : (local : ℕ) (y : IdError) → restored_by x (env_of x moment block) own b (Ok local) (Err y) ≡ forgets x own b
    unfolding restored_by
    no_number local y = refl

    by_ids : can_recover b ≡ true → (p q : Result ℕ IdError) → takes_id x.tunnel_ids ≡ p → takes_id x.recovery_ids ≡ q
        → AreKept (restored_by x (env_of x moment block) own b p q).end → AreUpTo b.local (restored_by x (env_of x moment block) own b p q).end.tunnels
        → IsSeenOn x b.local (restored_by x (env_of x moment block) own b p q).end
    by_ids can (Err y) q drawn drew kept_then up_then = subst (λ (z : Stepped). IsSeenOn x b.local z.end) (sym (no_tunnel_id y q)) forgotten_on
    by_ids can (Ok local) (Err y) drawn drew kept_then up_then = subst (λ (z : Stepped). IsSeenOn x b.local z.end) (sym (no_number local y)) forgotten_on
    by_ids can (Ok local) (Ok draw) drawn drew kept_then up_then =
        (returned can local draw drawn drew kept_then up_then, few_then can local draw drawn drew kept_then up_then)

    -- what one of them tells
    abbrev TellsOne : Stepped → Type 0
    TellsOne y =
        ((gone_in y.outputs ≡ []) × ((j : ℕ) → (j ≡ b.local → ⊥) → at x.tunnels j ≡ None → at y.end.tunnels j ≡ None)) ⊎ (y ≡ forgets x own b)

    tells_returned : can_recover b ≡ true → (local draw : ℕ) → takes_id x.tunnel_ids ≡ Ok local → takes_id x.recovery_ids ≡ Ok draw
        → TellsOne (restored_by x (env_of x moment block) own b (Ok local) (Ok draw))
    unfolding restored_by after_turn
    tells_returned can local draw drawn drew =
        let none = none_above n b.local x.tunnels h.up over in
        let some : b.local ≡ 0 → ⊥ = λ zero. absurd (omega (arith, zero, over)) in
        let rise = rise_filter (λ c. c.tunnel == b.local) 0 k.calls book.calls in
        let turn = restored_turn x h.kept moment ev block b own none some 0 rise (book.few b.local) can local draw drawn drew in
        let recovery = (restores x.role x.config own b local draw (turn_of (kept_control moment b) (env_of x moment block))).recovery in
        inl (
          (restored_tells x h.kept moment ev block b own none some 0 rise (book.few b.local) can local draw drawn drew).gone,
          (λ j other missing. other_after x.tunnels b.local turn.cleared (tunnel_after turn [] [] recovery) j other ∙ missing),
        )

    tells_ids : can_recover b ≡ true → (p q : Result ℕ IdError) → takes_id x.tunnel_ids ≡ p → takes_id x.recovery_ids ≡ q
        → TellsOne (restored_by x (env_of x moment block) own b p q)
    tells_ids can (Err y) q drawn drew = inr (no_tunnel_id y q)
    tells_ids can (Ok local) (Err y) drawn drew = inr (no_number local y)
    tells_ids can (Ok local) (Ok draw) drawn drew = tells_returned can local draw drawn drew

    tells_one : TellsOne (restored k x (env_of x moment block) b)
    unfolding restored
    tells_one =
        branch TellsOne (can_recover b) _ _ (λ can. tells_ids can (takes_id x.tunnel_ids) (takes_id x.recovery_ids) refl refl) (λ cannot. inr refl)

    abbrev after_test : Bool → Stepped
    after_test c = if c then restored_by x (env_of x moment block) own b (takes_id x.tunnel_ids) (takes_id x.recovery_ids) else forgets x own b

    one_back : IsSeenOn x b.local (restored k x (env_of x moment block) b).end
    unfolding restored
    one_back = by (can_recover b) refl (comes_back k book moment block ev x h.kept n h.up b over)
      where
        by : (c : Bool) → can_recover b ≡ c → IsBack k book moment block ev x b.local (after_test c) → IsSeenOn x b.local (after_test c).end
        by true can one = by_ids can (takes_id x.tunnel_ids) (takes_id x.recovery_ids) refl refl one.chain.kept one.up
        by false can one = forgotten_on

  all_seen : (bs : List BookTunnel) (n : ℕ) (s : Stepped) → TunnelsRise n bs → AllByRecursion (λ (b : BookTunnel). b.local ≤ k.tunnel_ceiling) bs → IsSeen n s.end
      → length s.end.tunnels + length bs ≤ 1024 → (m : ℕ) × (IsSeen m (restored_all k moment block bs s).end × (length (restored_all k moment block bs s).end.tunnels ≤ 1024))
  unfolding restored_all
  all_seen [] n s rise low h few = (n, (h, omega (arith, few)))
  all_seen (b ∷ bs) n s rise low h few =
      let y = restored k s.end (env_of s.end moment block) b in
      let one = one_back s.end n h b rise.0 low.0 in
      all_seen bs b.local (behind_all s y) rise.1 low.1 one.0 (let more = one.1 in omega (arith, more, few))

  -- a call that was told as gone: its tunnel was forgotten
  record IsGone (n : ℕ) (x : End) (q : ℕ) : Type 0 where
    call : BookCall
    among : Among call k.calls
    session : q ≡ call.local
    low : call.tunnel ≤ n
    none : at x.tunnels call.tunnel ≡ None

  record IsTold (n : ℕ) (s : Stepped) : Type 0 where
    seen : IsSeen n s.end
    once : AreDistinct (gone_in s.outputs)
    each : (q : ℕ) → Among q (gone_in s.outputs) → IsGone n s.end q

  own_distinct : (n : ℕ) (cs : List BookCall) → CallsRise n cs → AreDistinct (locals cs)
  own_distinct n [] rise = tt
  own_distinct n (c ∷ cs) rise = (other_local c.local cs (other_rise c.local c.local cs (omega arith) rise.1), own_distinct c.local cs rise.1)

  told_next : (n : ℕ) (s : Stepped) (b : BookTunnel) (over : n < b.local) (low : b.local ≤ k.tunnel_ceiling) (h : IsTold n s) (y : Stepped) → IsSeen b.local y.end
      → TellsOne s.end n h.seen b over low y → IsTold b.local (behind_all s y)
  unfolding forgets
  told_next n s b over low h y seen one = ⊎_elim
      (λ (a : (gone_in y.outputs ≡ []) × ((j : ℕ) → (j ≡ b.local → ⊥) → at s.end.tunnels j ≡ None → at y.end.tunnels j ≡ None)).
      let none : gone_in (s.outputs ++ y.outputs) ≡ gone_in s.outputs =
      flat_map-append gone_of_output s.outputs y.outputs ∙ ap (λ qs. gone_in s.outputs ++ qs) a.0 ∙ append-nil (gone_in s.outputs) in
      record {
        seen = seen;
        once = subst AreDistinct (sym none) h.once;
        each = λ q there.
            let g = h.each q (subst (λ (qs : List ℕ). Among q qs) none there) in
            let below = g.low in
            record {
              call = g.call;
              among = g.among;
              session = g.session;
              low = omega (arith, below, over);
              none = a.1 g.call.tunnel (λ same. absurd (omega (arith, same, below, over))) g.none;
            };
      })
      (λ (is : y ≡ forgets s.end (calls_of b.local k.calls) b).
      let own = calls_of b.local k.calls in
      let more : gone_in (s.outputs ++ y.outputs) ≡ gone_in s.outputs ++ locals own =
      flat_map-append gone_of_output s.outputs y.outputs ∙ ap (λ qs. gone_in s.outputs ++ qs) (ap (λ (z : Stepped). gone_in z.outputs) is ∙ gone_locals own) in
      let same : y.end ≡ s.end = ap (λ (z : Stepped). z.end) is in
      record {
        seen = seen;
        once = subst AreDistinct (sym more) (distinct_append (gone_in s.outputs) (locals own) h.once (own_distinct 0 own (rise_filter (λ c. c.tunnel == b.local) 0 k.calls book.calls))
            (λ q l r.
            let g = h.each q l in
            let d = call_of q own r in
            let mine = among_own b.local k.calls d.0 d.1.0 in
            let one = rise_one 0 k.calls g.call d.0 book.calls g.among mine.0 (sym g.session ∙ d.1.1) in
            let of = ap (λ (c : BookCall). c.tunnel) one ∙ mine.1 in
            let below = g.low in
            absurd (omega (arith, of, below, over))));
        each = λ q there. ⊎_elim
            (λ (l : Among q (gone_in s.outputs)).
            let g = h.each q l in
            let below = g.low in
            record { call = g.call; among = g.among; session = g.session; low = omega (arith, below, over); none = ap (λ (z : End). at z.tunnels g.call.tunnel) same ∙ g.none })
            (λ (r : Among q (locals own)).
            let d = call_of q own r in
            let mine = among_own b.local k.calls d.0 d.1.0 in
            let of = mine.1 in
            record {
              call = d.0;
              among = mine.0;
              session = d.1.1;
              low = omega (arith, of);
              none = ap (λ (z : End). at z.tunnels d.0.tunnel) same ∙ ap (λ j. at s.end.tunnels j) of ∙ none_above n b.local s.end.tunnels h.seen.up over;
            })
            (among_either q (gone_in s.outputs) (locals own) (subst (λ (qs : List ℕ). Among q qs) more there));
      })
      one

  all_told : (bs : List BookTunnel) (n : ℕ) (s : Stepped) → TunnelsRise n bs → AllByRecursion (λ (b : BookTunnel). b.local ≤ k.tunnel_ceiling) bs → IsTold n s
      → (m : ℕ) × IsTold m (restored_all k moment block bs s)
  unfolding restored_all
  all_told [] n s rise low h = (n, h)
  all_told (b ∷ bs) n s rise low h =
      let y = restored k s.end (env_of s.end moment block) b in
      all_told bs b.local (behind_all s y) rise.1 low.1
      (told_next n s b rise.0 low.0 h y (one_back s.end n h.seen b rise.0 low.0).0 (tells_one s.end n h.seen b rise.0 low.0))

  module _ (r : Role) (c : Config) where
    bare_seen : IsSeen 0 (bare_end r c k)
    bare_seen = record {
      kept = bare_kept r c k;
      up = λ j t there. absurd (none-some t (sym (at-none j) ∙ there));
      looks = record {
        live = λ s p there. absurd (none-some p (sym (at-none s) ∙ there));
        seen = λ j t there s d live. absurd (none-some t (sym (at-none j) ∙ there));
        links = λ j t there s d live. absurd (none-some t (sym (at-none j) ∙ there));
        tunnels = λ j t there. absurd (none-some t (sym (at-none j) ∙ there));
        sessions = λ s p there. absurd (none-some p (sym (at-none s) ∙ there));
      };
      tunnel_next = omega arith;
      session_next = omega arith;
      of = λ q p there. absurd (none-some p (sym (at-none q) ∙ there));
      ups = λ j t there. absurd (none-some t (sym (at-none j) ∙ there));
    }

    start_seen : (m : ℕ) × (IsSeen m (starts r c k moment block).end × (length (starts r c k moment block).end.tunnels ≤ 1024))
    unfolding starts
    start_seen =
        all_seen k.tunnels 0 (record { end = bare_end r c k; outputs = []; moves = [] }) book.tunnels book.tunnels_drawn bare_seen (let many = book.many in omega (arith, many))

    start_told : (m : ℕ) × IsTold m (starts r c k moment block)
    unfolding starts
    start_told =
        all_told k.tunnels 0 (record { end = bare_end r c k; outputs = []; moves = [] }) book.tunnels book.tunnels_drawn
        (record { seen = bare_seen; once = tt; each = λ q a. absurd a })

can_be_up : (r : Role) (s : CallState) → s ≡ call.Established → CanBe r s
can_be_up Lac s up = subst (CanBe Lac) (sym up) tt
can_be_up Lns s up = subst (CanBe Lns) (sym up) tt

pub starts_look_true : StartsLookTrue
starts_look_true r c k sound moment block = (start_seen k (sound_book k sound) moment block r c).1.0.looks

pub starts_are_allowed : StartsAreAllowed
starts_are_allowed r c k sound moment block =
    let book = sound_book k sound in
    let x = (starts r c k moment block).end in
    let h = start_seen k book moment block r c in
    record {
      few = h.1.1;
      sound = λ i t there s d live.
          let o = h.1.0.ups i t there s d live in
          let low = all_among (λ (y : BookCall). y.local ≤ k.session_ceiling) k.calls o.of book.calls_drawn o.among in
          let most = book.sessions in
          let same = o.session in
          (omega (arith, low, most, same), can_be_up x.role d.state o.state);
      asked = λ i t there open_is s d live waits. let o = h.1.0.ups i t there s d live in let both : call.WaitTunnel ≡ call.Established = sym waits ∙ o.state in absurd cc;
    }

pub starts_tell_forgotten : StartsTellForgotten
starts_tell_forgotten r c k sound moment block =
    let book = sound_book k sound in
    let s = starts r c k moment block in
    let h = (start_told k book moment block r c).1 in
    record {
      once = distinct_pairs (gone_in s.outputs) h.once;
      had = λ q a. let g = h.each q a in (g.call, (g.among, g.session));
      left = λ q a. not_left (at s.end.calls q) (λ p there.
          let g = h.each q a in
          let l = h.seen.looks.live q p there in
          let o = h.seen.of q p there in
          let one = rise_one 0 k.calls g.call o.call book.calls g.among o.among (sym g.session ∙ o.session) in
          let of = o.tunnel ∙ ap (λ (d : BookCall). d.tunnel) (sym one) in
          none-some l.tunnel (sym g.none ∙ ap (λ j. at s.end.tunnels j) (sym of) ∙ l.there));
    }
