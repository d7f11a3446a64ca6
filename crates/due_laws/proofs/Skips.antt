-- The tick of an end is that of its tunnels that are due: the others may be left out.
use Rattle.std.proofs.Common.{◌≡◌, ℕ, Bool, true, false, List, [], ◌∷◌, ◌++◌, Option, Some, None, refl, sym, ap, ◌∙◌, arith}
use Rattle.std.proofs.lemmas.List.{append-nil}
use Rattle.std.specs.List.{AllByRecursion, flat_map}
use Rattle.id_table.specs.Ids.{at, put, ids_of}
use Rattle.id_table.specs.Order.{IsAbove, Ascends, ascends-put, ascends-without, at_other, at_without_other, put-again}
use Rattle.wire_base.specs.declared.letter.Letter.{Letter}
use Rattle.id_source.specs.Spaces.{Space}
use Rattle.end_model.specs.declared.event.Event.TheVariants.{Tick}
use Rattle.end_model.specs.declared.out.Out.{Out}
use Rattle.end_model.specs.declared.moves.Move.{Move}
use Rattle.end_model.specs.Tunnels.{Drawing, Ground, Tunnel, Env, Turn, turn_in, mode_of}
use Rattle.end_model.specs.Recovering.{RecoveryTurn, recovering_turns, recovery_ticks}
use Rattle.end_model.specs.Events.{turns, with_calls, tunnel_after}
use Rattle.end_model.specs.Ticking.{ticks}
use Rattle.end_model.specs.End.{End, env_of, placed, with_looks, tunnels_after, after_turn, after_both, Turned, tick_of, ticks_of, end_after_all, after_all, ticks_all, step_in, plain_step}
use Rattle.tunnel_timers.specs.Due.{is_before, due_of, recovery_due, tunnel_due, end_due, LeavesOut, NoneLeft, Stays, Waits, IsEarly}
use Rattle.tunnel_timers.specs.Bounds.{all_left_out}
use Rattle.due_laws.specs.Ticks.{nothing_done}
use Rattle.tunnel_timers.specs.Moments.{before_both, before_holds, found_holds}
use Rattle.due_laws.proofs.Quiet.{quiet_turn, quiet_recovery}
use Rattle.due_laws.proofs.Growing.{ticks_does, recovery_does}

-- ---- ids that differ

abbrev AreApart : List ℕ → Type 0
AreApart [] = Unit {0}
AreApart (i ∷ is) = AllByRecursion (λ j. j ≡ i → ⊥) is × AreApart is

above_apart : {X : Type 0} (i : ℕ) (es : List (ℕ × X)) → IsAbove i es → AllByRecursion (λ j. j ≡ i → ⊥) (ids_of es)
above_apart i [] above = tt
above_apart i (e ∷ es) above = ((λ same. (let lt = above.0 in omega (arith, lt, same))), above_apart i es above.1)

ids_apart : {X : Type 0} (es : List (ℕ × X)) → Ascends es → AreApart (ids_of es)
unfolding Ascends
ids_apart [] ascend = tt
ids_apart (e ∷ es) ascend = (above_apart e.0 es ascend.0, ids_apart es ascend.1)

-- ---- a tunnel's turn

other_left : (ts : List (ℕ × Tunnel)) (i : ℕ) (b : Bool) (t : Tunnel) (q : ℕ) → (q ≡ i → ⊥) → at (tunnels_after ts i b t) q ≡ at ts q
other_left ts i true t q apart = at_without_other ts i q apart
other_left ts i false t q apart = at_other ts i t q apart

left_ascend : (ts : List (ℕ × Tunnel)) (i : ℕ) (b : Bool) (t : Tunnel) → Ascends ts → Ascends (tunnels_after ts i b t)
left_ascend ts i true t ascend = ascends-without i ts ascend
left_ascend ts i false t ascend = ascends-put i t ts ascend

module _ (e : End) (moment : ℕ) (block : List ℕ) where
  abbrev start : Env
  start = env_of e moment block

  -- an end after some of the turns: where ids are drawn from is as before, and so are the tunnels of the turns to come
  record IsAmid (is : List ℕ) (x : End) : Type 0 where
    tunnel_ids : x.tunnel_ids ≡ e.tunnel_ids
    session_ids : x.session_ids ≡ e.session_ids
    recovery_ids : x.recovery_ids ≡ e.recovery_ids
    order : Ascends x.tunnels
    untouched : AllByRecursion (λ i. at x.tunnels i ≡ at e.tunnels i) is

  all_untouched : (is : List ℕ) → AllByRecursion (λ i. at e.tunnels i ≡ at e.tunnels i) is
  all_untouched [] = tt
  all_untouched (i ∷ is) = (refl, all_untouched is)

  amid_less : (i : ℕ) (is : List ℕ) (x : End) → IsAmid (i ∷ is) x → IsAmid is x
  amid_less i is x h = record { tunnel_ids = h.tunnel_ids; session_ids = h.session_ids; recovery_ids = h.recovery_ids; order = h.order; untouched = h.untouched.1 }

  -- a turn that is begun, with its recovery tunnel
  abbrev begun_turn : Tunnel → RecoveryTurn
  begun_turn t = record { turn = turn_in t start; recovery = t.recovery }

  same_tunnel : (t : Tunnel) → tunnel_after (turn_in t start) t.letters t.calls t.recovery ≡ t
  unfolding with_calls
  same_tunnel t = ap (λ (ls : List Letter). record t { letters = ls }) (append-nil t.letters)

  -- a turn in which nothing is done leaves the end
  idle_end : (x : End) (i : ℕ) (is : List ℕ) (t : Tunnel) → IsAmid (i ∷ is) x → at e.tunnels i ≡ Some t
      → (after_both x i t (begun_turn t)).end ≡ x
  unfolding after_turn placed with_looks
  idle_end x i is t h there =
      let after = tunnel_after (turn_in t start) t.letters t.calls t.recovery in
      ap (λ (s : Space). record x { tunnel_ids = s; session_ids = e.session_ids; recovery_ids = e.recovery_ids; tunnels = put x.tunnels i after }) (sym h.tunnel_ids)
      ∙ ap (λ (s : Space). record x { session_ids = s; recovery_ids = e.recovery_ids; tunnels = put x.tunnels i after }) (sym h.session_ids)
      ∙ ap (λ (s : Space). record x { recovery_ids = s; tunnels = put x.tunnels i after }) (sym h.recovery_ids)
      ∙ ap (λ (u : Tunnel). record x { tunnels = put x.tunnels i u }) (same_tunnel t)
      ∙ ap (λ (ts : List (ℕ × Tunnel)). record x { tunnels = ts }) (put-again i t x.tunnels h.order (h.untouched.0 ∙ there))

  abbrev turn_at : Tunnel → RecoveryTurn
  turn_at t = recovering_turns e.role e.config t Tick (turn_in t start)

  abbrev after : End → ℕ → Tunnel → End
  after x i t = (after_both x i t (turn_at t)).end

  untouched_still : (x : End) (i : ℕ) (b : Bool) (u : Tunnel) (is : List ℕ) → AllByRecursion (λ j. j ≡ i → ⊥) is → AllByRecursion (λ j. at x.tunnels j ≡ at e.tunnels j) is
      → AllByRecursion (λ j. at (tunnels_after x.tunnels i b u) j ≡ at e.tunnels j) is
  untouched_still x i b u [] apart h = tt
  untouched_still x i b u (j ∷ is) apart h = (other_left x.tunnels i b u j apart.0 ∙ h.0, untouched_still x i b u is apart.1 h.1)

  amid_next : (x : End) (i : ℕ) (t : Tunnel) (is : List ℕ) → AllByRecursion (λ j. j ≡ i → ⊥) is → IsAmid (i ∷ is) x → IsAmid is (after x i t)
  unfolding after_turn recovering_turns turns
  amid_next x i t is apart h =
      let r = turn_at t in
      let main = ticks e.role t.letters t.calls (turn_in t start) in
      let ground = (recovery_does t.calls t.recovery main).ground ∙ (ticks_does e.role t.letters t.calls (turn_in t start)).ground in
      record {
        tunnel_ids = ap (λ (g : Ground × Drawing). g.1.tunnels) ground;
        session_ids = ap (λ (g : Ground × Drawing). g.1.sessions) ground;
        recovery_ids = ap (λ (g : Ground × Drawing). g.1.recoveries) ground;
        order = left_ascend x.tunnels i r.turn.cleared (tunnel_after r.turn t.letters t.calls r.recovery) h.order;
        untouched = untouched_still x i r.turn.cleared (tunnel_after r.turn t.letters t.calls r.recovery) is apart h.untouched.1;
      }

  abbrev EarlyAt : ℕ → Type 0
  EarlyAt i = IsEarly e.tunnels moment i

  idle_turn : (i : ℕ) (t : Tunnel) → at e.tunnels i ≡ Some t → EarlyAt i → turn_at t ≡ begun_turn t
  unfolding recovering_turns turns
  idle_turn i t there early =
      let both = before_both moment (due_of (mode_of t.recovery) t.control t.calls) (recovery_due t.recovery) (early t there) in
      ap (recovery_ticks t.calls t.recovery) (quiet_turn e.role t.letters (turn_in t start) t.calls both.0)
      ∙ quiet_recovery t.calls t.recovery (turn_in t start) both.1

  -- the turns of these tunnels
  abbrev made : List ℕ → List Turned
  made is = ticks_of e start is

  abbrev SameEnds : List ℕ → List ℕ → Type 0
  SameEnds is js = (x : End) → IsAmid is x → end_after_all (made is) x ≡ end_after_all (made js) x

  -- one more tunnel, which is left out
  ends_without : (i : ℕ) (is js : List ℕ) → EarlyAt i → SameEnds is js → (o : Option Tunnel) → at e.tunnels i ≡ o → (x : End) → IsAmid (i ∷ is) x
      → end_after_all (tick_of e start i o ++ made is) x ≡ end_after_all (made js) x
  unfolding end_after_all
  ends_without i is js early later None there x h = later x (amid_less i is x h)
  ends_without i is js early later (Some t) there x h =
      ap (λ (r : RecoveryTurn). end_after_all (made is) (after_both x i t r).end) (idle_turn i t there early)
      ∙ ap (end_after_all (made is)) (idle_end x i is t h there)
      ∙ later x (amid_less i is x h)

  -- or takes its turn
  ends_with : (i : ℕ) (is js : List ℕ) → AllByRecursion (λ j. j ≡ i → ⊥) is → SameEnds is js → (o : Option Tunnel) → at e.tunnels i ≡ o → (x : End) → IsAmid (i ∷ is) x
      → end_after_all (tick_of e start i o ++ made is) x ≡ end_after_all (tick_of e start i o ++ made js) x
  unfolding end_after_all
  ends_with i is js apart later None there x h = later x (amid_less i is x h)
  ends_with i is js apart later (Some t) there x h = later (after x i t) (amid_next x i t is apart h)

  same_ends : (is js : List ℕ) → LeavesOut EarlyAt is js → AreApart is → SameEnds is js
  unfolding ticks_of
  same_ends is js NoneLeft apart x h = refl
  same_ends is js (Stays i ks ls l) apart x h = ends_with i ks ls apart.0 (same_ends ks ls l apart.1) (at e.tunnels i) refl x h
  same_ends is js (Waits i ks ls early l) apart x h = ends_without i ks ls early (same_ends ks ls l apart.1) (at e.tunnels i) refl x h

  module _ {Y : Type 0} (f : Turn → List Y) (none : (t : Tunnel) → f (turn_in t start) ≡ []) where
    abbrev given : List ℕ → List Y
    given is = flat_map (λ t. f t.turn.turn) (made is)

    gives_without : (i : ℕ) (is js : List ℕ) → EarlyAt i → given is ≡ given js → (o : Option Tunnel) → at e.tunnels i ≡ o
        → flat_map (λ t. f t.turn.turn) (tick_of e start i o ++ made is) ≡ given js
    gives_without i is js early later None there = later
    gives_without i is js early later (Some t) there =
        ap (λ (r : RecoveryTurn). f r.turn ++ given is) (idle_turn i t there early)
        ∙ ap (λ ys. ys ++ given is) (none t)
        ∙ later

    gives_with : (i : ℕ) (is js : List ℕ) → given is ≡ given js → (o : Option Tunnel)
        → flat_map (λ t. f t.turn.turn) (tick_of e start i o ++ made is) ≡ flat_map (λ t. f t.turn.turn) (tick_of e start i o ++ made js)
    gives_with i is js later None = later
    gives_with i is js later (Some t) = ap (λ ys. f (turn_at t).turn ++ ys) later

    same_given : (is js : List ℕ) → LeavesOut EarlyAt is js → given is ≡ given js
    unfolding ticks_of
    same_given is js NoneLeft = refl
    same_given is js (Stays i ks ls l) = gives_with i ks ls (same_given ks ls l) (at e.tunnels i)
    same_given is js (Waits i ks ls early l) = gives_without i ks ls early (same_given ks ls l) (at e.tunnels i) refl

  pub left_out : Ascends e.tunnels → (ids : List ℕ) → LeavesOut EarlyAt (ids_of e.tunnels) ids → ticks_all e start ≡ after_all (made ids) e
  unfolding ticks_all after_all
  left_out ascend ids left =
      let is = ids_of e.tunnels in
      let begun : IsAmid is e = record { tunnel_ids = refl; session_ids = refl; recovery_ids = refl; order = ascend; untouched = all_untouched is } in
      ap (λ (x : End). record { end = x; outputs = flat_map (λ t. t.turn.turn.outputs) (made is); moves = flat_map (λ t. t.turn.turn.moves) (made is) }) (same_ends is ids left (ids_apart e.tunnels ascend) e begun)
      ∙ ap (λ (os : List Out). record { end = end_after_all (made ids) e; outputs = os; moves = flat_map (λ t. t.turn.turn.moves) (made is) }) (same_given (λ t. t.outputs) (λ t. refl) is ids left)
      ∙ ap (λ (ms : List Move). record { end = end_after_all (made ids) e; outputs = flat_map (λ t. t.turn.turn.outputs) (made ids); moves = ms }) (same_given (λ t. t.moves) (λ t. refl) is ids left)

-- ---- all of them are left out

module _ (e : End) (ascend : Ascends e.tunnels) (moment : ℕ) (block : List ℕ) (early : is_before moment (end_due e) ≡ true) where
  pub quiet_end : ticks_all e (env_of e moment block) ≡ nothing_done e
  unfolding after_all ticks_of end_after_all
  quiet_end =
      left_out e moment block ascend []
      (all_left_out (IsEarly e.tunnels moment) (ids_of e.tunnels)
      (λ i t there. found_holds (λ due. is_before moment due ≡ true) (before_holds moment) (λ x. tunnel_due x.1) e.tunnels i t there early))

  pub quiet_step : plain_step e moment block Tick ≡ nothing_done e
  unfolding plain_step step_in
  quiet_step = quiet_end
