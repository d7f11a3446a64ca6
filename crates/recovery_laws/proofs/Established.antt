-- A tunnel that was established isn't made again: it stays established, or is closed, or is gone for ever.
use Rattle.std.proofs.Common.{◌≡◌, ⊎_elim, ℕ, ◌-◌, ◌<◌, ◌≤◌, Bool, true, false, cond, List, [], ◌∷◌, ◌++◌, map, refl, sym, ap, ◌∙◌, subst, Some, Result, Ok, Err, arith}
use Rattle.std.specs.Prelude.{nat_lt}
use Rattle.std.specs.List.{AllByRecursion, flat_map}
use Rattle.id_table.specs.Ids.{at, put, without}
use Rattle.id_table.specs.Order.{Ascends, at_new, at_other, same_or_not, ascends-put, ascends-without, found_without}
use Rattle.id_source.specs.Spaces.{Space, takes_id, with_taken, after_id}
use Rattle.id_source.specs.declared.IdError.{IdError}
use Rattle.id_source.specs.declared.IdError.TheVariants.{NoIds}
use Rattle.tunnel_fsm.specs.declared.table.TunnelState.{TunnelState}
use Rattle.tunnel_fsm.specs.Rows.{state_number}
use Rattle.session_book.specs.declared.record.Record.{Record}
use Rattle.session_book.specs.declared.record.Record.TheVariants.{Ceiling, TunnelUp, CallDown}
use Rattle.end_model.specs.declared.event.Event.{Event}
use Rattle.end_model.specs.declared.moves.Move.{Move}
use Rattle.end_model.specs.declared.moves.Move.TheVariants as move
use Rattle.end_model.specs.Contents.{tunnel_down, call_down, mark_by, records_of, ceilings_of, contents_of}
use Rattle.end_model.specs.Tunnels.{Tunnel}
use Rattle.end_model.specs.End.{End, Stepped}
use Rattle.step_laws.specs.Moves.{Does, Chain}

-- a tunnel with this id was made, and where it is there it is established or closed
pub record IsPast (e : End) (i : ℕ) : Type 0 where
  pub order : Ascends e.tunnels
  pub drawn : i < e.tunnel_ids.next
  pub state : (t : Tunnel) → at e.tunnels i ≡ Some t → 3 ≤ state_number t.control.state

-- ---- ids

taken_is : (s : Space) (i : ℕ) → takes_id s ≡ Ok i → (i ≡ s.next)
unfolding takes_id
taken_is s i h = by (nat_lt s.last s.next) h
  where
    by : (b : Bool) → cond b (Err (NoIds (s.next - 1))) (Ok s.next) ≡ Ok i → i ≡ s.next
    by true h = absurd cc
    by false h = cc

next_rises : (s : Space) → s.next ≤ (after_id s).next
next_rises s = by (takes_id s) refl
  where
    by : (r : Result ℕ IdError) → takes_id s ≡ r → s.next ≤ (with_taken r s).next
    by (Ok i) is = let n = taken_is s i is in omega (arith, n)
    by (Err e) is = omega arith

-- ---- one tunnel is put, or taken out

module _ (e x : End) (i j : ℕ) (past : IsPast e i) where
  same_tunnels : x.tunnels ≡ e.tunnels → e.tunnel_ids.next ≤ x.tunnel_ids.next → IsPast x i
  same_tunnels is le = record {
    order = subst (λ q. Ascends q) (sym is) past.order;
    drawn = (let d = past.drawn in omega (arith, d, le));
    state = λ t there. past.state t (ap (λ q. at q i) (sym is) ∙ there);
  }

  put_tunnel : (u : Tunnel) → x.tunnels ≡ put e.tunnels j u → e.tunnel_ids.next ≤ x.tunnel_ids.next → (i ≡ j → 3 ≤ state_number u.control.state) → IsPast x i
  put_tunnel u is le stays = record {
    order = subst (λ q. Ascends q) (sym is) (ascends-put j u e.tunnels past.order);
    drawn = (let d = past.drawn in omega (arith, d, le));
    state = λ t there. (let put_there : at (put e.tunnels j u) i ≡ Some t = ap (λ q. at q i) (sym is) ∙ there in
        ⊎_elim
        (λ (same : i ≡ j).
        let one : Some u ≡ Some t = sym (at_new e.tunnels j u) ∙ subst (λ k. at (put e.tunnels j u) k ≡ Some t) same put_there in
        let e : u ≡ t = cc in subst (λ (q : Tunnel). 3 ≤ state_number q.control.state) e (stays same))
        (λ (o : i ≡ j → ⊥). past.state t (sym (at_other e.tunnels j u i o) ∙ put_there))
        (same_or_not i j));
  }

  without_tunnel : x.tunnels ≡ without e.tunnels j → e.tunnel_ids.next ≤ x.tunnel_ids.next → IsPast x i
  without_tunnel is le = record {
    order = subst (λ q. Ascends q) (sym is) (ascends-without j e.tunnels past.order);
    drawn = (let d = past.drawn in omega (arith, d, le));
    state = λ t there. past.state t (found_without e.tunnels j i t past.order (ap (λ q. at q i) (sym is) ∙ there)).1;
  }

  -- one that was there, whose state is as it was
  changed : (t u : Tunnel) → at e.tunnels j ≡ Some t → x.tunnels ≡ put e.tunnels j u → e.tunnel_ids.next ≤ x.tunnel_ids.next
      → u.control.state ≡ t.control.state → IsPast x i
  changed t u there is le same =
      put_tunnel u is le (λ one. (let was = past.state t (subst (λ k. at e.tunnels k ≡ Some t) (sym one) there) in
      subst (λ (s : TunnelState). 3 ≤ state_number s) (sym same) was))

-- it was in a state before that
not_past : (e : End) (i j : ℕ) (t : Tunnel) → IsPast e i → at e.tunnels j ≡ Some t → state_number t.control.state < 3 → i ≡ j → ⊥
not_past e i j t past there early same =
    let le = past.state t (subst (λ k. at e.tunnels k ≡ Some t) (sym same) there) in let no : ⊥ = omega (arith, le, early) in no

-- ---- moves

-- it isn't made established by the move
abbrev pub NoUp : ℕ → Move → Type 0
NoUp i (move.Connected m) = m.tunnel ≡ i → ⊥
NoUp i (move.Confirmed m) = m.tunnel ≡ i → ⊥
NoUp i m = Unit {0}

module _ (i : ℕ) (moment : ℕ) (ev : Event) (e x : End) (past : IsPast e i) where
  same_ids : x.tunnel_ids ≡ e.tunnel_ids → e.tunnel_ids.next ≤ x.tunnel_ids.next
  same_ids is = let n = ap (λ (s : Space). s.next) is in omega (arith, n)

  -- a move that puts its tunnel, in the state in which it was, and draws no tunnel id
  stays : (j : ℕ) (t u : Tunnel) → at e.tunnels j ≡ Some t → (y : End) → x ≡ y → y.tunnels ≡ put e.tunnels j u → y.tunnel_ids ≡ e.tunnel_ids
      → u.control.state ≡ t.control.state → IsPast x i
  stays j t u there y is tunnels ids state =
      changed e x i j past t u there (ap (λ (z : End). z.tunnels) is ∙ tunnels) (same_ids (ap (λ (z : End). z.tunnel_ids) is ∙ ids)) state

  still : x ≡ e → IsPast x i
  still is = same_tunnels e x i 0 past (ap (λ (z : End). z.tunnels) is) (same_ids (ap (λ (z : End). z.tunnel_ids) is))

  -- a new tunnel has a new id
  new_tunnel_past : (j : ℕ) (u : Tunnel) → takes_id e.tunnel_ids ≡ Ok j → x.tunnels ≡ put e.tunnels j u → x.tunnel_ids ≡ after_id e.tunnel_ids → IsPast x i
  new_tunnel_past j u drawn tunnels ids =
      let n = taken_is e.tunnel_ids j drawn in
      let lt = past.drawn in
      let up = next_rises e.tunnel_ids in
      let k = ap (λ (s : Space). s.next) ids in
      put_tunnel e x i j past u tunnels (omega (arith, up, k)) (λ same. absurd (omega (arith, same, n, lt)))

  does_past : (m : Move) → Does e moment ev m x → IsPast x i × NoUp i m
  does_past (move.Opened m) h = (new_tunnel_past m.tunnel _ h.drawn (ap (λ (z : End). z.tunnels) h.after) (ap (λ (z : End). z.tunnel_ids) h.after), tt)
  does_past (move.Accepted m) h = (new_tunnel_past m.tunnel _ h.drawn (ap (λ (z : End). z.tunnels) h.after) (ap (λ (z : End). z.tunnel_ids) h.after), tt)
  does_past (move.Connected m) h =
      let apart = not_past e i m.tunnel h.tunnel past h.there (rw h.state (omega arith)) in
      (put_tunnel e x i m.tunnel past _ (ap (λ (z : End). z.tunnels) h.after) (same_ids (ap (λ (z : End). z.tunnel_ids) h.after)) (λ same. absurd (apart same)), λ same. apart (sym same))
  does_past (move.Confirmed m) h =
      let apart = not_past e i m.tunnel h.tunnel past h.there (rw h.state (omega arith)) in
      (put_tunnel e x i m.tunnel past _ (ap (λ (z : End). z.tunnels) h.after) (same_ids (ap (λ (z : End). z.tunnel_ids) h.after)) (λ same. absurd (apart same)), λ same. apart (sym same))
  does_past (move.Added m) h = (stays m.tunnel h.tunnel _ h.there _ h.after refl refl refl, tt)
  does_past (move.Requested m) h = (stays m.tunnel h.tunnel _ h.there _ h.after refl refl refl, tt)
  does_past (move.Replied m) h = (stays m.tunnel h.tunnel _ h.there _ h.after refl refl refl, tt)
  does_past (move.FirstUp m) h = (stays m.tunnel h.tunnel _ h.there _ h.after refl refl refl, tt)
  does_past (move.SecondUp m) h = (stays m.tunnel h.tunnel _ h.there _ h.after refl refl refl, tt)
  does_past (move.Refused m) h = (stays m.tunnel h.tunnel _ h.there _ h.after refl refl refl, tt)
  does_past (move.EndTold m) h = (stays m.tunnel h.tunnel _ h.there _ h.after refl refl refl, tt)
  does_past (move.EndHeard m) h = (stays m.tunnel h.tunnel _ h.there _ h.after refl refl refl, tt)
  does_past (move.EndSilent m) h = (stays m.tunnel h.tunnel _ h.there _ h.after refl refl refl, tt)
  does_past (move.Declined m) h = (still h.after, tt)
  does_past (move.Closed m) h =
      (put_tunnel e x i m.tunnel past _ (ap (λ (z : End). z.tunnels) h.after) (same_ids (ap (λ (z : End). z.tunnel_ids) h.after)) (λ same. omega arith), tt)
  does_past (move.Rejected m) h =
      (put_tunnel e x i m.tunnel past _ (ap (λ (z : End). z.tunnels) h.after) (same_ids (ap (λ (z : End). z.tunnel_ids) h.after)) (λ same. omega arith), tt)
  does_past (move.ClosedBy m) h =
      (put_tunnel e x i m.tunnel past _ (ap (λ (z : End). z.tunnels) h.after) (same_ids (ap (λ (z : End). z.tunnel_ids) h.after)) (λ same. omega arith), tt)
  does_past (move.Cleared j booked) h =
      (without_tunnel e x i j past (ap (λ (z : End). z.tunnels) h.after) (same_ids (ap (λ (z : End). z.tunnel_ids) h.after)), tt)
  does_past (move.Greeted m) h = (stays m.tunnel h.tunnel _ h.there _ h.after refl refl refl, tt)
  does_past (move.TookPlain m) h = (stays m.tunnel h.tunnel _ h.there _ h.after refl refl refl, tt)
  does_past (move.NrRead m) h = (stays m.tunnel h.tunnel _ h.there _ h.after refl refl refl, tt)
  does_past (move.LetGo m) h = (stays m.tunnel h.tunnel _ h.there _ h.after refl refl refl, tt)
  does_past (move.Repeated m) h = (stays m.tunnel h.tunnel _ h.there _ h.after refl refl refl, tt)
  does_past (move.Quiet j) h = (still h.after, tt)
  does_past (move.Negotiated m) h = (stays m.tunnel h.tunnel _ h.there _ h.after refl refl refl, tt)
  does_past (move.Counted m) h = (stays m.tunnel h.tunnel _ h.there _ h.after refl refl refl, tt)
  does_past (move.FrameSent m) h = (still h.after, tt)
  does_past (move.FrameUp m) h = (still h.after, tt)
  does_past (move.Restored m) h =
      let up = next_rises e.tunnel_ids in
      let k = ap (λ (z : End). z.tunnel_ids.next) h.after in
      (put_tunnel e x i m.tunnel.local past _ (ap (λ (z : End). z.tunnels) h.after) (omega (arith, up, k)) (λ same. omega arith), tt)
  does_past (move.Forgot m) h = (still h.after, tt)
  does_past (move.Froze m) h =
      let up = next_rises e.tunnel_ids in
      let k = ap (λ (z : End). z.tunnel_ids.next) h.after in
      (changed e x i m.tunnel past h.tunnel _ h.there (ap (λ (z : End). z.tunnels) h.after) (omega (arith, up, k)) refl, tt)
  does_past (move.ResetAttempting m) h = (stays m.tunnel h.tunnel _ h.there _ h.after refl refl refl, tt)
  does_past (move.ResetAnswering m) h = (stays m.tunnel h.tunnel _ h.there _ h.after refl refl refl, tt)
  does_past (move.Queried m) h = (stays m.tunnel h.tunnel _ h.there _ h.after refl refl refl, tt)
  does_past (move.AnsweredQuery m) h = (stays m.tunnel h.tunnel _ h.there _ h.after refl refl refl, tt)
  does_past (move.TookAnswer m) h = (stays m.tunnel h.tunnel _ h.there _ h.after refl refl refl, tt)
  does_past (move.RecoveryWentOn j) h = (stays j h.tunnel _ h.there _ h.after refl refl refl, tt)
  does_past (move.RecoveryEnded j) h = (stays j h.tunnel _ h.there _ h.after refl refl refl, tt)
  does_past (move.Ignored j) h = (stays j h.tunnel _ h.there _ h.after refl refl refl, tt)

-- along a chain of moves
pub chain_past : (i moment : ℕ) (ev : Event) (e : End) (ms : List Move) (x : End) → IsPast e i → Chain moment ev e ms x
    → IsPast x i × AllByRecursion (NoUp i) ms
chain_past i moment ev e [] x past is = (subst (λ (y : End). IsPast y i) is past, tt)
chain_past i moment ev e (m ∷ ms) x past (y, does, rest) =
    let one = does_past i moment ev e y past m does in
    let more = chain_past i moment ev y ms x one.0 rest in
    (more.0, (one.1, more.1))

-- ---- records

-- it doesn't say that the tunnel came up
abbrev pub NotUp : ℕ → Record → Type 0
NotUp i (TunnelUp t) = t.local ≡ i → ⊥
NotUp i r = Unit {0}

down_not_up : (i : ℕ) (b : Bool) (j : ℕ) → AllByRecursion (NotUp i) (tunnel_down b j)
down_not_up i true j = (tt, tt)
down_not_up i false j = tt

call_not_up : (i : ℕ) (b : Bool) (s : ℕ) → AllByRecursion (NotUp i) (call_down b s)
call_not_up i true s = (tt, tt)
call_not_up i false s = tt

mark_not_up : (i : ℕ) (b : Bool) (j mark : ℕ) → AllByRecursion (NotUp i) (mark_by b j mark)
mark_not_up i true j mark = (tt, tt)
mark_not_up i false j mark = tt

calls_not_up : (i : ℕ) (ss : List ℕ) → AllByRecursion (NotUp i) (map (λ s. CallDown s) ss)
calls_not_up i [] = tt
calls_not_up i (s ∷ ss) = (tt, calls_not_up i ss)

records_not_up : (i : ℕ) (m : Move) → NoUp i m → AllByRecursion (NotUp i) (records_of m)
unfolding records_of
records_not_up i (move.Connected m) apart = (apart, tt)
records_not_up i (move.Confirmed m) apart = (apart, tt)
records_not_up i (move.FirstUp m) apart = (tt, tt)
records_not_up i (move.SecondUp m) apart = (tt, tt)
records_not_up i (move.EndTold m) apart = call_not_up i m.booked m.session
records_not_up i (move.EndHeard m) apart = call_not_up i m.booked m.session
records_not_up i (move.EndSilent m) apart = call_not_up i m.booked m.session
records_not_up i (move.Closed m) apart = down_not_up i m.booked m.tunnel
records_not_up i (move.ClosedBy m) apart = down_not_up i m.booked m.tunnel
records_not_up i (move.Cleared j booked) apart = down_not_up i booked j
records_not_up i (move.Forgot m) apart = (tt, tt)
records_not_up i (move.Froze m) apart = mark_not_up i m.marked m.tunnel m.asked
records_not_up i (move.ResetAttempting m) apart = mark_not_up i m.marked m.tunnel m.draw
records_not_up i (move.Opened m) apart = tt
records_not_up i (move.Accepted m) apart = tt
records_not_up i (move.Added m) apart = tt
records_not_up i (move.Requested m) apart = tt
records_not_up i (move.Replied m) apart = tt
records_not_up i (move.Refused m) apart = tt
records_not_up i (move.Declined m) apart = tt
records_not_up i (move.Rejected m) apart = tt
records_not_up i (move.Greeted m) apart = tt
records_not_up i (move.TookPlain m) apart = tt
records_not_up i (move.NrRead m) apart = tt
records_not_up i (move.LetGo m) apart = tt
records_not_up i (move.Repeated m) apart = tt
records_not_up i (move.Quiet j) apart = tt
records_not_up i (move.Negotiated m) apart = tt
records_not_up i (move.Counted m) apart = tt
records_not_up i (move.FrameSent m) apart = tt
records_not_up i (move.FrameUp m) apart = tt
records_not_up i (move.Restored m) apart = tt
records_not_up i (move.ResetAnswering m) apart = tt
records_not_up i (move.Queried m) apart = tt
records_not_up i (move.AnsweredQuery m) apart = tt
records_not_up i (move.TookAnswer m) apart = calls_not_up i m.ended
records_not_up i (move.RecoveryWentOn j) apart = tt
records_not_up i (move.RecoveryEnded j) apart = tt
records_not_up i (move.Ignored j) apart = tt

both_not_up : (i : ℕ) (us vs : List Record) → AllByRecursion (NotUp i) us → AllByRecursion (NotUp i) vs → AllByRecursion (NotUp i) (us ++ vs)
both_not_up i [] vs one two = two
both_not_up i (u ∷ us) vs one two = (one.0, both_not_up i us vs one.1 two)

moves_not_up : (i : ℕ) (ms : List Move) → AllByRecursion (NoUp i) ms → AllByRecursion (NotUp i) (flat_map (λ m. records_of m) ms)
moves_not_up i [] apart = tt
moves_not_up i (m ∷ ms) apart = both_not_up i (records_of m) (flat_map (λ k. records_of k) ms) (records_not_up i m apart.0) (moves_not_up i ms apart.1)

ceilings_not_up : (i space : ℕ) (f : ℕ → ℕ) (ks : List ℕ) → AllByRecursion (NotUp i) (map (λ k. Ceiling space (f k)) ks)
ceilings_not_up i space f [] = tt
ceilings_not_up i space f (k ∷ ks) = (tt, ceilings_not_up i space f ks)

-- none of what a step leaves says so
pub contents_not_up : (i : ℕ) (e : End) (s : Stepped) → AllByRecursion (NoUp i) s.moves → AllByRecursion (NotUp i) (contents_of e s)
unfolding contents_of
contents_not_up i e s apart =
    both_not_up i (ceilings_of 1 e.tunnel_ids s.end.tunnel_ids) _ (ceilings_not_up i 1 _ _)
    (both_not_up i (ceilings_of 2 e.session_ids s.end.session_ids) _ (ceilings_not_up i 2 _ _)
    (both_not_up i (ceilings_of 3 e.recovery_ids s.end.recovery_ids) _ (ceilings_not_up i 3 _ _) (moves_not_up i s.moves apart)))
