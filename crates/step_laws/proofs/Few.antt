-- No step leaves an end more tunnels than it may have.
use Rattle.std.proofs.Common.{◌≡◌, ℕ, ◌<◌, ◌≤◌, suc, List, [], ◌∷◌, length, refl, sym, ap, ◌∙◌, subst, Some, arith}
use Rattle.std.proofs.lemmas.Option.{none-some}
use Rattle.std.specs.declared.cmp.Ordering.{Ordering}
use Rattle.std.specs.declared.cmp.Ordering.TheVariants.{Less, Equal, Greater}
use Rattle.std.specs.Ordering.{nat_cmp}
use Rattle.id_table.specs.Ids.{at, put, without}
use Rattle.id_table.specs.Order.{IsAbove, Ascends, less_is, lower, at-above}
use Rattle.end_model.specs.declared.event.Event.{Event}
use Rattle.end_model.specs.declared.moves.Move.{Move}
use Rattle.end_model.specs.declared.moves.Move.TheVariants as move
use Rattle.end_model.specs.Tunnels.{Tunnel}
use Rattle.end_model.specs.End.{End}
use Rattle.step_laws.specs.Left.{AreFew, TunnelsBeginFew, TunnelsStayFew}
use Rattle.step_laws.specs.Moves.{Does, Chain}
use Rattle.step_laws.specs.Steps.{StepsAreChains, IsOfNoStart}
use Rattle.step_laws.proofs.Looks.{AreOrdered, does_order, kept_order}
use Rattle.step_laws.proofs.Ups.{steps_are_no_starts}
use Rattle.std.specs.List.{AllByRecursion}

-- ---- how many entries a table then has

-- one more at most
most_by : (e : ℕ × Tunnel) (es : List (ℕ × Tunnel)) (k : ℕ) (v : Tunnel) → length (put es k v) ≤ suc (length es)
    → (o : Ordering) → nat_cmp k e.0 ≡ o → length (put (e ∷ es) k v) ≤ suc (suc (length es))
unfolding put
most_by e es k v later Less h = rw h (omega arith)
most_by e es k v later Equal h = rw h (omega arith)
most_by e es k v later Greater h = rw h (omega (arith, later))

pub put_most : (es : List (ℕ × Tunnel)) (k : ℕ) (v : Tunnel) → length (put es k v) ≤ suc (length es)
unfolding put
put_most [] k v = omega arith
put_most (e ∷ es) k v = most_by e es k v (put_most es k v) (nat_cmp k e.0) refl

less_by : (e : ℕ × Tunnel) (es : List (ℕ × Tunnel)) (k : ℕ) → length (without es k) ≤ length es
    → (o : Ordering) → nat_cmp k e.0 ≡ o → length (without (e ∷ es) k) ≤ suc (length es)
unfolding without
less_by e es k later Less h = rw h (omega (arith, later))
less_by e es k later Equal h = rw h (omega arith)
less_by e es k later Greater h = rw h (omega (arith, later))

pub without_most : (es : List (ℕ × Tunnel)) (k : ℕ) → length (without es k) ≤ length es
unfolding without
without_most [] k = omega arith
without_most (e ∷ es) k = less_by e es k (without_most es k) (nat_cmp k e.0) refl

-- none more where the id is there
there_by : (e : ℕ × Tunnel) (es : List (ℕ × Tunnel)) (k : ℕ) (v w : Tunnel) → IsAbove e.0 es
    → (at es k ≡ Some w → length (put es k v) ≡ length es) → at (e ∷ es) k ≡ Some w
    → (o : Ordering) → nat_cmp k e.0 ≡ o → length (put (e ∷ es) k v) ≡ suc (length es)
unfolding at put
there_by e es k v w above later there Less h =
    let none = at-above k es (lower k e.0 es (less_is k e.0 h) above) in
    absurd (none-some w (sym none ∙ (rw h at there)))
there_by e es k v w above later there Equal h = rw h refl
there_by e es k v w above later there Greater h = rw h (ap suc (later (rw h at there)))

put_there : (es : List (ℕ × Tunnel)) (k : ℕ) (v w : Tunnel) → Ascends es → at es k ≡ Some w → length (put es k v) ≡ length es
unfolding Ascends at put
put_there [] k v w order there = absurd (none-some w there)
put_there (e ∷ es) k v w order there = there_by e es k v w order.0 (put_there es k v w order.1) there (nat_cmp k e.0) refl

-- ---- each move

module _ (x y : End) (order : Ascends x.tunnels) (few : AreFew x) where
  -- a tunnel that is there is another
  same_few : (i : ℕ) (t u : Tunnel) → at x.tunnels i ≡ Some t → y.tunnels ≡ put x.tunnels i u → AreFew y
  same_few i t u there is = rw (is, put_there x.tunnels i u t order there) few

  -- there is one more
  more_few : (i : ℕ) (u : Tunnel) → length x.tunnels < 1024 → y.tunnels ≡ put x.tunnels i u → AreFew y
  more_few i u fewer is = let most = put_most x.tunnels i u in rw is (omega (arith, fewer, most))

  -- there is one fewer
  less_few : (i : ℕ) → y.tunnels ≡ without x.tunnels i → AreFew y
  less_few i is = let most = without_most x.tunnels i in rw is (omega (arith, few, most))

  still_few : y ≡ x → AreFew y
  still_few is = subst AreFew (sym is) few

  abbrev tunnels_of : End → List (ℕ × Tunnel)
  tunnels_of e = e.tunnels

  does_few : (moment : ℕ) (ev : Event) (m : Move) → IsOfNoStart m → Does x moment ev m y → AreFew y
  does_few moment ev (move.Opened m) so h = more_few m.tunnel _ h.few (ap tunnels_of h.after)
  does_few moment ev (move.Accepted m) so h = more_few m.tunnel _ h.few (ap tunnels_of h.after)
  does_few moment ev (move.Connected m) so h = same_few m.tunnel h.tunnel _ h.there (ap tunnels_of h.after)
  does_few moment ev (move.Confirmed m) so h = same_few m.tunnel h.tunnel _ h.there (ap tunnels_of h.after)
  does_few moment ev (move.Added m) so h = same_few m.tunnel h.tunnel _ h.there (ap tunnels_of h.after)
  does_few moment ev (move.Requested m) so h = same_few m.tunnel h.tunnel _ h.there (ap tunnels_of h.after)
  does_few moment ev (move.Replied m) so h = same_few m.tunnel h.tunnel _ h.there (ap tunnels_of h.after)
  does_few moment ev (move.FirstUp m) so h = same_few m.tunnel h.tunnel _ h.there (ap tunnels_of h.after)
  does_few moment ev (move.SecondUp m) so h = same_few m.tunnel h.tunnel _ h.there (ap tunnels_of h.after)
  does_few moment ev (move.Refused m) so h = same_few m.tunnel h.tunnel _ h.there (ap tunnels_of h.after)
  does_few moment ev (move.EndTold m) so h = same_few m.tunnel h.tunnel _ h.there (ap tunnels_of h.after)
  does_few moment ev (move.EndHeard m) so h = same_few m.tunnel h.tunnel _ h.there (ap tunnels_of h.after)
  does_few moment ev (move.EndSilent m) so h = same_few m.tunnel h.tunnel _ h.there (ap tunnels_of h.after)
  does_few moment ev (move.Declined m) so h = still_few h.after
  does_few moment ev (move.Closed m) so h = same_few m.tunnel h.tunnel _ h.there (ap tunnels_of h.after)
  does_few moment ev (move.Rejected m) so h = same_few m.tunnel h.tunnel _ h.there (ap tunnels_of h.after)
  does_few moment ev (move.ClosedBy m) so h = same_few m.tunnel h.tunnel _ h.there (ap tunnels_of h.after)
  does_few moment ev (move.Cleared i booked) so h = less_few i (ap tunnels_of h.after)
  does_few moment ev (move.Greeted m) so h = same_few m.tunnel h.tunnel _ h.there (ap tunnels_of h.after)
  does_few moment ev (move.TookPlain m) so h = same_few m.tunnel h.tunnel _ h.there (ap tunnels_of h.after)
  does_few moment ev (move.NrRead m) so h = same_few m.tunnel h.tunnel _ h.there (ap tunnels_of h.after)
  does_few moment ev (move.LetGo m) so h = same_few m.tunnel h.tunnel _ h.there (ap tunnels_of h.after)
  does_few moment ev (move.Repeated m) so h = same_few m.tunnel h.tunnel _ h.there (ap tunnels_of h.after)
  does_few moment ev (move.Quiet i) so h = still_few h.after
  does_few moment ev (move.Negotiated m) so h = same_few m.tunnel h.tunnel _ h.there (ap tunnels_of h.after)
  does_few moment ev (move.Counted m) so h = same_few m.tunnel h.tunnel _ h.there (ap tunnels_of h.after)
  does_few moment ev (move.FrameSent m) so h = still_few h.after
  does_few moment ev (move.FrameUp m) so h = still_few h.after
  does_few moment ev (move.Restored m) so h = absurd so
  does_few moment ev (move.Forgot m) so h = absurd so
  does_few moment ev (move.Froze m) so h = same_few m.tunnel h.tunnel _ h.there (ap tunnels_of h.after)
  does_few moment ev (move.ResetAttempting m) so h = same_few m.tunnel h.tunnel _ h.there (ap tunnels_of h.after)
  does_few moment ev (move.ResetAnswering m) so h = same_few m.tunnel h.tunnel _ h.there (ap tunnels_of h.after)
  does_few moment ev (move.Queried m) so h = same_few m.tunnel h.tunnel _ h.there (ap tunnels_of h.after)
  does_few moment ev (move.AnsweredQuery m) so h = same_few m.tunnel h.tunnel _ h.there (ap tunnels_of h.after)
  does_few moment ev (move.TookAnswer m) so h = same_few m.tunnel h.tunnel _ h.there (ap tunnels_of h.after)
  does_few moment ev (move.RecoveryWentOn i) so h = same_few i h.tunnel _ h.there (ap tunnels_of h.after)
  does_few moment ev (move.RecoveryEnded i) so h = same_few i h.tunnel _ h.there (ap tunnels_of h.after)
  does_few moment ev (move.Ignored i) so h = same_few i h.tunnel _ h.there (ap tunnels_of h.after)

chain_few : (moment : ℕ) (ev : Event) (x y : End) (ms : List Move) → AllByRecursion IsOfNoStart ms → Chain moment ev x ms y → AreOrdered x → AreFew x → AreFew y
chain_few moment ev x y [] so h order few = subst AreFew h few
chain_few moment ev x y (m ∷ ms) so h order few =
    chain_few moment ev h.0 y ms so.1 h.2 (does_order x order moment ev m h.0 h.1) (does_few x h.0 order.tunnels few moment ev m so.0 h.1)

pub tunnels_begin_few : TunnelsBeginFew
tunnels_begin_few r c = omega arith

pub tunnels_stay_few : StepsAreChains → TunnelsStayFew
tunnels_stay_few chains e kept few moment block ev = chain_few moment ev e _ _ (steps_are_no_starts e moment block ev) (chains e kept moment block ev).chain (kept_order e kept) few
