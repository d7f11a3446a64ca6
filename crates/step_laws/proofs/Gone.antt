-- A step tells each call as gone once that had its place before it and has none after it, and no other.
use Rattle.std.proofs.Common.{◌≡◌, ◌⊎◌, inl, inr, ⊎_elim, ℕ, true, List, [], ◌∷◌, ◌++◌, refl, sym, ap, ◌∙◌, subst, Option, Some, None, Result, Ok, Err, false}
use Rattle.std.proofs.lemmas.Bool.{true≢false}
use Rattle.std.proofs.lemmas.Grind.{flat_map-append}
use Rattle.std.proofs.lemmas.Option.{none-some}
use Rattle.std.specs.Prelude.{◌==◌, is_some}
use Rattle.std.specs.List.{AllByRecursion, AllPairs, flat_map}
use Rattle.id_table.specs.Ids.{at, put, without, at-none, ids_of}
use Rattle.id_table.specs.Order.{Ascends, ascends-empty, at_new, at_other, same_or_not, at_without_same, at_without_other, ascends-without, found_put, found_without}
use Rattle.wire_base.specs.declared.why.Why.{Why}
use Rattle.wire_base.specs.declared.why.Why.TheVariants as why
use Rattle.wire_base.specs.declared.cause.Cause.{Cause as CauseOf}
use Rattle.wire_base.specs.declared.cause.Cause.TheVariants as cause
use Rattle.wire_base.specs.declared.letter.Letter.{Letter}
use Rattle.wire_base.specs.declared.letter.Side.{Side}
use Rattle.wire_base.specs.declared.letter.Side.TheVariants as side
use Rattle.l2tp_header.specs.declared.header.Header.{Header}
use Rattle.l2tp_header.specs.declared.header.HeaderError.{HeaderError}
use Rattle.l2tp_header.specs.Reading.{header_of, body_of}
use Rattle.tunnel_fsm.specs.declared.table.TunnelState.TheVariants.{WaitCtlReply, Established}
use Rattle.end_names.specs.declared.role.Role.TheVariants.{Lac, Lns}
use Rattle.end_model.specs.declared.tunnel.Call.{Call}
use Rattle.end_model.specs.declared.tunnel.CallPlace.{CallPlace}
use Rattle.session_looks.specs.declared.look.CellChange.{CellChange}
use Rattle.session_looks.specs.declared.look.CellChange.TheVariants as cell
use Rattle.session_looks.specs.declared.look.Look.{Look}
use Rattle.session_looks.specs.declared.look.Look.TheVariants as look
use Rattle.session_looks.specs.Frames.{header_why, frame_of, Carried, Upward, Dropped, carry_look}
use Rattle.end_model.specs.declared.event.Addressee.{Addressee}
use Rattle.end_model.specs.declared.event.Addressee.TheVariants.{Opens, Stops, Answers, Main, Nobody, Recovery, Recovers}
use Rattle.end_model.specs.declared.event.Event.{Event}
use Rattle.end_model.specs.declared.event.Event.TheVariants.{Datagram, Ring, Payload, Lower, Lcp, Hang, OpenTunnel, DropCall, CloseTunnel, Tick, Admitted, Frame}
use Rattle.end_model.specs.declared.out.Out.{Out}
use Rattle.end_model.specs.declared.out.Out.TheVariants.{Drop, Cause}
use Rattle.end_model.specs.Reading.{message_in}
use Rattle.end_model.specs.Calls.{is_lac}
use Rattle.end_model.specs.Tunnels.{Tunnel, Env, Turn, turn_of, turn_in, Recovering}
use Rattle.end_model.specs.Reasons.{Reason, out_of_order}
use Rattle.end_model.specs.Openings.{fresh}
use Rattle.end_model.specs.Events.{turns, with_calls, tunnel_after}
use Rattle.end_model.specs.End.{End, Stepped, env_of, gives_only, new_place, placed, established_look, looked, with_look, with_looks, after_turn, after_new, in_new, has_all_tunnels, in_one_more, in_main, addressed, against_body, next_of_peer, declined, opens_or_declines, for_addressee, least_in, rings_in, rings_at, for_call, look_in, then_heard, handed, hands_up, receives, Turned, tick_of, ticks_of, end_after_all, after_all, ticks_all, only_by, step_in, plain_step, after_both, in_recovery, are_recovering}
use Rattle.step_laws.specs.Gone.{gone_of_output, gone_in, GoesOnce, CallsGoOnce}
use Rattle.step_laws.specs.Letters.{Among}
use Rattle.step_laws.specs.Looks.{look_of, LooksAreTrue, IsLive}
use Rattle.step_laws.specs.Steps.{AreKept}
use Rattle.step_laws.proofs.Lists.{all_append, branch, among_left, among_right, ascends_placed, ascends_look, ascends_looks}
use Rattle.step_laws.proofs.Distinct.{AreDistinct, among_either, distinct_append, distinct_ids, distinct_pairs}
use Rattle.step_laws.proofs.Untold.{killed_by, tells_none}
use Rattle.step_laws.proofs.Parting.{Parts, turns_parts}
use Rattle.step_laws.proofs.Queries.{none_asks}
use Rattle.step_laws.proofs.Unborn.{tick_makes, recovery_makes}
use Rattle.control_message.specs.declared.message.Opening.{Opening}
use Rattle.end_model.specs.Recovering.{is_tick, recovering_turns, hears_recovery, froze}
use Rattle.step_laws.proofs.Ticks.{tick_whole}
use Rattle.step_laws.proofs.Turns.{at_turn, there as there_at}
use Rattle.step_laws.proofs.Looks.{chain_looks, kept_order}
use Rattle.step_laws.proofs.Ups.{ticks_no_start}
use Rattle.step_laws.proofs.Attempting.{recovers_so}
use Rattle.step_laws.proofs.LineParts.{IsApart, recovery_ticks_parts, line_parts, froze_parts}

abbrev IsThere : {X : Type 0} → List (ℕ × X) → ℕ → Type 0
IsThere es q = is_some (at es q) ≡ true

none_there : {X : Type 0} (es : List (ℕ × X)) (q : ℕ) → at es q ≡ None → IsThere es q → ⊥
none_there es q none there = true≢false (sym there ∙ ap is_some none)

there_is : {X : Type 0} (es : List (ℕ × X)) (q : ℕ) (x : X) → at es q ≡ Some x → IsThere es q
there_is {X} es q x is = ap (λ (o : Option X). is_some o) is

found : {X : Type 0} (o : Option X) → is_some o ≡ true → (x : X) × (o ≡ Some x)
found None h = absurd (true≢false (sym h))
found (Some x) h = (x, refl)

none_or_some : {X : Type 0} (o : Option X) → (o ≡ None) ⊎ (is_some o ≡ true)
none_or_some None = inl refl
none_or_some (Some x) = inr refl

-- ---- places

-- a place is put where there is one
put_there : {X : Type 0} (es : List (ℕ × X)) (k : ℕ) (v : X) (q : ℕ) → IsThere es q → IsThere (put es k v) q
put_there {X} es k v q there = ⊎_elim
    (λ e. there_is (put es k v) q v (ap (λ j. at (put es k v) j) e ∙ at_new es k v))
    (λ o. ap (λ (x : Option X). is_some x) (at_other es k v q o) ∙ there)
    (same_or_not q k)

placed_there : (i : ℕ) (ss : List ℕ) (places : List (ℕ × CallPlace)) (q : ℕ) → IsThere places q → IsThere (placed i ss places) q
unfolding placed
placed_there i [] places q there = there
placed_there i (s ∷ ss) places q there = placed_there i ss (put places s (new_place i)) q (put_there places s (new_place i) q there)

looked_there : (l : Look) (s : ℕ) (o : Option CallPlace) (places : List (ℕ × CallPlace)) (q : ℕ) → IsThere places q → IsThere (looked l s o places) q
looked_there l s None places q there = there
looked_there l s (Some p) places q there = put_there places s (record p { look = l }) q there

-- what isn't there isn't there after looks changed
looked_none : (l : Look) (s : ℕ) (o : Option CallPlace) (places : List (ℕ × CallPlace)) (q : ℕ) → at places s ≡ o → at places q ≡ None
    → at (looked l s o places) q ≡ None
looked_none l s None places q is none = none
looked_none l s (Some p) places q is none =
    at_other places s (record p { look = l }) q (λ e. none-some p (sym (subst (λ j. at places j ≡ None) e none) ∙ is)) ∙ none

look_none : (c : CellChange) (places : List (ℕ × CallPlace)) (q : ℕ) → Ascends places → at places q ≡ None → at (with_look c places) q ≡ None
unfolding with_look
look_none (cell.Bind s tunnel peer) places q order none = looked_none (look.Bound tunnel peer) s (at places s) places q refl none
look_none (cell.Establish s) places q order none = looked_none (established_look (at places s)) s (at places s) places q refl none
look_none (cell.Kill s) places q order none = ⊎_elim
    (λ e. rw e (at_without_same places s order))
    (λ o. at_without_other places s q o ∙ none)
    (same_or_not q s)

looks_none : (cs : List CellChange) (places : List (ℕ × CallPlace)) (q : ℕ) → Ascends places → at places q ≡ None → at (with_looks cs places) q ≡ None
unfolding with_looks
looks_none [] places q order none = none
looks_none (c ∷ cs) places q order none = looks_none cs (with_look c places) q (ascends_look c places order) (look_none c places q order none)

-- a place that is there after looks changed was there, in the same tunnel
abbrev WasPlaced : List (ℕ × CallPlace) → ℕ → CallPlace → Type 0
WasPlaced places q z = (p : CallPlace) × ((at places q ≡ Some p) × (p.tunnel ≡ z.tunnel))

looked_tunnel : (l : Look) (s : ℕ) (o : Option CallPlace) (places : List (ℕ × CallPlace)) (q : ℕ) (z : CallPlace) → at places s ≡ o
    → at (looked l s o places) q ≡ Some z → WasPlaced places q z
looked_tunnel l s None places q z is there = (z, (there, refl))
looked_tunnel l s (Some p) places q z is there = ⊎_elim
    (λ (a : (q ≡ s) × (record p { look = l } ≡ z)). (p, (ap (at places) a.0 ∙ is, ap (λ (x : CallPlace). x.tunnel) a.1)))
    (λ (a : (q ≡ s → ⊥) × (at places q ≡ Some z)). (z, (a.1, refl)))
    (found_put places s (record p { look = l }) q z there)

look_tunnel : (c : CellChange) (places : List (ℕ × CallPlace)) (q : ℕ) (z : CallPlace) → Ascends places → at (with_look c places) q ≡ Some z
    → WasPlaced places q z
unfolding with_look
look_tunnel (cell.Bind s tunnel peer) places q z order there = looked_tunnel (look.Bound tunnel peer) s (at places s) places q z refl there
look_tunnel (cell.Establish s) places q z order there = looked_tunnel (established_look (at places s)) s (at places s) places q z refl there
look_tunnel (cell.Kill s) places q z order there = (z, ((found_without places s q z order there).1, refl))

pub looks_tunnel : (cs : List CellChange) (places : List (ℕ × CallPlace)) (q : ℕ) (z : CallPlace) → Ascends places → at (with_looks cs places) q ≡ Some z
    → WasPlaced places q z
unfolding with_looks
looks_tunnel [] places q z order there = (z, (there, refl))
looks_tunnel (c ∷ cs) places q z order there =
    let later = looks_tunnel cs (with_look c places) q z (ascends_look c places order) there in
    let first = look_tunnel c places q later.0 order later.1.0 in
    (first.0, (first.1.0, first.1.1 ∙ later.1.1))

pub not_left : {X : Type 0} (o : Option X) → ((x : X) → o ≡ Some x → ⊥) → o ≡ None
not_left None h = refl
not_left (Some x) h = absurd (h x refl)

-- the place of a call whose look is dead isn't there
killed_gone : (cs : List CellChange) (places : List (ℕ × CallPlace)) (q : ℕ) → Ascends places → Among q (flat_map killed_by cs)
    → at (with_looks cs places) q ≡ None
unfolding with_looks with_look
killed_gone [] places q order a = absurd a
killed_gone (cell.Bind s tunnel peer ∷ cs) places q order a =
    killed_gone cs (with_look (cell.Bind s tunnel peer) places) q (ascends_look (cell.Bind s tunnel peer) places order) a
killed_gone (cell.Establish s ∷ cs) places q order a = killed_gone cs (with_look (cell.Establish s) places) q (ascends_look (cell.Establish s) places order) a
killed_gone (cell.Kill s ∷ cs) places q order a = ⊎_elim
    (λ (e : s ≡ q). looks_none cs (without places s) q (ascends-without s places order) (rw (sym e) (at_without_same places s order)))
    (λ later. killed_gone cs (without places s) q (ascends-without s places order) later)
    a

-- and no other place goes
gone_killed : (cs : List CellChange) (places : List (ℕ × CallPlace)) (q : ℕ) → IsThere places q → at (with_looks cs places) q ≡ None
    → Among q (flat_map killed_by cs)
unfolding with_looks with_look
gone_killed [] places q there none = absurd (none_there places q none there)
gone_killed (cell.Bind s tunnel peer ∷ cs) places q there none =
    gone_killed cs (with_look (cell.Bind s tunnel peer) places) q (looked_there (look.Bound tunnel peer) s (at places s) places q there) none
gone_killed (cell.Establish s ∷ cs) places q there none =
    gone_killed cs (with_look (cell.Establish s) places) q (looked_there (established_look (at places s)) s (at places s) places q there) none
gone_killed (cell.Kill s ∷ cs) places q there none = ⊎_elim
    (λ (e : q ≡ s). inl (sym e))
    (λ o. inr (gone_killed cs (without places s) q (ap (λ (x : Option CallPlace). is_some x) (at_without_other places s q o) ∙ there) none))
    (same_or_not q s)

-- ---- what one turn does

module _ (e : End) (i : ℕ) (letters : List Letter) (calls : List (ℕ × Call)) (recovery : Option Recovering) (t : Turn) (p : Parts calls t) where
  -- the places that it leaves
  abbrev places_after : List (ℕ × CallPlace)
  places_after = with_looks t.changes (placed t.control.local t.added e.calls)

  turn_left : (q : ℕ) → Ascends e.calls → Among q (gone_in t.outputs) → at places_after q ≡ None
  turn_left q order a =
      killed_gone t.changes (placed t.control.local t.added e.calls) q (ascends_placed t.control.local t.added e.calls order)
      (subst (λ xs. Among q xs) (p.tells.gone ∙ sym p.tells.killed) a)

  turn_told : (q : ℕ) → IsThere e.calls q → at places_after q ≡ None → Among q (gone_in t.outputs)
  turn_told q there none =
      subst (λ xs. Among q xs) (p.tells.killed ∙ sym p.tells.gone)
      (gone_killed t.changes (placed t.control.local t.added e.calls) q (placed_there t.control.local t.added e.calls q there) none)

  turn_had : (q : ℕ) → Among q (gone_in t.outputs) → IsThere calls q
  turn_had q a = p.had q (subst (λ xs. Among q xs) p.tells.gone a)

  turn_once : AreDistinct (gone_in t.outputs)
  turn_once = subst AreDistinct (sym p.tells.gone) p.once

  turn_goes : Ascends e.calls → ((q : ℕ) → IsThere calls q → IsThere e.calls q) → GoesOnce e (after_turn e i letters calls recovery t)
  unfolding after_turn
  turn_goes order seen = record {
    once = distinct_pairs (gone_in t.outputs) turn_once;
    had = λ q a. seen q (turn_had q a);
    left = λ q a. turn_left q order a;
    told = λ q there none. turn_told q there none;
  }

-- ---- the step

module _ (e : End) (kept : AreKept e) (looks : LooksAreTrue e) (moment : ℕ) (block : List ℕ) where
  abbrev env : Env
  env = env_of e moment block

  abbrev Goes : Stepped → Type 0
  Goes s = GoesOnce e s

  -- the step tells none, and changes nothing
  same_goes : (s : Stepped) → gone_in s.outputs ≡ [] → s.end.calls ≡ e.calls → Goes s
  same_goes s none same = record {
    once = subst (λ xs. AllPairs (λ before after. before ≡ after → ⊥) xs) (sym none) (distinct_pairs [] tt);
    had = λ q a. absurd (subst (λ xs. Among q xs) none a);
    left = λ q a. absurd (subst (λ xs. Among q xs) none a);
    told = λ q there gone. absurd (none_there e.calls q (subst (λ xs. at xs q ≡ None) same gone) there);
  }

  dropped_goes : (w : Why) → Goes (gives_only e (Drop w))
  unfolding gives_only
  dropped_goes w = same_goes _ refl refl

  caused_goes : (c : CauseOf) → Goes (gives_only e (Cause c))
  unfolding gives_only
  caused_goes c = same_goes _ refl refl

  -- the calls of a tunnel have their places
  has_place : (i : ℕ) (t : Tunnel) → at e.tunnels i ≡ Some t → (q : ℕ) (c : Call) → at t.calls q ≡ Some c → IsThere e.calls q
  has_place i t is q c live = there_is e.calls q (record (new_place i) { look = look_of c i t.control.peer }) (looks.seen i t is q c live)

  have_places : (i : ℕ) (t : Tunnel) → at e.tunnels i ≡ Some t → (q : ℕ) → IsThere t.calls q → IsThere e.calls q
  have_places i t is q there = let c = found (at t.calls q) there in has_place i t is q c.0 c.1

  parts_of : (ev : Event) (i : ℕ) (t : Tunnel) → at e.tunnels i ≡ Some t → Parts t.calls (turns e.role e.config t.letters t.calls ev (turn_in t env))
  parts_of ev i t is = turns_parts t.calls (kept.tunnels i t is).calls e.role e.config t.letters ev (turn_in t env)
      (kept.tunnels i t is).asks tells_none

  main_goes : (ev : Event) → is_tick ev ≡ false → (i : ℕ) (o : Option Tunnel) → at e.tunnels i ≡ o → Goes (in_main e env ev i o)
  unfolding in_main recovering_turns
  main_goes ev no_tick i None is = dropped_goes why.Tunnel
  main_goes ev no_tick i (Some t) is =
      rw no_tick
      (turn_goes e i t.letters t.calls t.recovery (turns e.role e.config t.letters t.calls ev (turn_in t env)) (parts_of ev i t is) kept.places (have_places i t is))

  -- a recovery tunnel, or a tunnel that is frozen
  line_goes : (h : Header) (body : List ℕ) (i : ℕ) (o : Option Tunnel) → at e.tunnels i ≡ o → Goes (in_recovery e env h body i o)
  unfolding in_recovery
  line_goes h body i None is = dropped_goes why.Tunnel
  line_goes h body i (Some t) is =
      let x = hears_recovery e.config t.letters t.calls h body t.recovery (turn_in t env) in
      turn_goes e i t.letters t.calls x.recovery x.turn
      (line_parts t.calls (kept.tunnels i t is).calls e.config t.letters h body t.recovery (turn_in t env) tells_none) kept.places (have_places i t is)

  frozen_goes : (t : Tunnel) (o : Opening) (local draw : ℕ) → at e.tunnels t.control.local ≡ Some t
      → Goes (after_both e t.control.local t (froze e.role e.config t.calls o local draw (turn_in t env)))
  frozen_goes t o local draw is =
      let x = froze e.role e.config t.calls o local draw (turn_in t env) in
      let i = t.control.local in
      turn_goes e i t.letters t.calls x.recovery x.turn
      (froze_parts t.calls (kept.tunnels i t is).calls e.role e.config o local draw (turn_in t env) tells_none) kept.places (have_places i t is)

  -- a tunnel that is new has no calls
  no_calls : (q : ℕ) → IsThere {X = Call} [] q → ⊥
  no_calls q there = none_there [] q (at-none q) there

  new_goes : (ev : Event) (peer : ℕ) → Goes (in_new e env ev peer)
  unfolding in_new after_new
  new_goes ev peer =
      let t = turns e.role e.config [] [] ev (turn_of (fresh peer moment) env) in
      let p : Parts [] t = turns_parts [] (ascends-empty [] refl) e.role e.config [] ev
      (turn_of (fresh peer moment) env) none_asks tells_none in
      branch Goes (t.control.local == 0) _ _
      (λ zero. record {
        once = distinct_pairs (gone_in t.outputs) (turn_once e 0 [] [] None t p);
        had = λ q a. absurd (no_calls q (turn_had e 0 [] [] None t p q a));
        left = λ q a. absurd (no_calls q (turn_had e 0 [] [] None t p q a));
        told = λ q there gone. absurd (none_there e.calls q gone there);
      })
      (λ some. turn_goes e t.control.local [] [] None t p kept.places (λ q there. absurd (no_calls q there)))

  more_goes : (ev : Event) (peer : ℕ) (o : Out) → Goes (gives_only e o) → Goes (in_one_more e env ev peer o)
  unfolding in_one_more
  more_goes ev peer o refused = branch Goes (has_all_tunnels e.tunnels) _ _ (λ all. refused) (λ fewer. new_goes ev peer)

  -- ---- datagrams

  declined_goes : (peer remote nr : ℕ) (r : Reason) → Goes (declined e peer remote nr r)
  unfolding declined
  declined_goes peer remote nr r = same_goes _ refl refl

  opens_goes : (ev : Event) (peer remote nr : ℕ) (o : Option Reason) → Goes (opens_or_declines e env ev peer remote nr o)
  unfolding opens_or_declines
  opens_goes ev peer remote nr None = new_goes ev peer
  opens_goes ev peer remote nr (Some r) = declined_goes peer remote nr r

  addressee_goes : (ev : Event) → is_tick ev ≡ false → (peer : ℕ) (h : Header) (body : List ℕ) (a : Addressee) → Goes (for_addressee e env ev peer h body a)
  unfolding for_addressee
  addressee_goes ev no_tick peer h body (Opens remote) = opens_goes ev peer remote (next_of_peer h) (against_body e body)
  addressee_goes ev no_tick peer h body (Stops remote) = dropped_goes why.Tunnel
  addressee_goes ev no_tick peer h body (Answers remote) = declined_goes peer remote (next_of_peer h) out_of_order
  addressee_goes ev no_tick peer h body (Main i) = main_goes ev no_tick i (at e.tunnels i) refl
  addressee_goes ev no_tick peer h body (Recovery i) = line_goes h body i (at e.tunnels i) refl
  addressee_goes ev no_tick peer h body (Recovers remote) =
      recovers_so e kept env Goes declined_goes (λ w. dropped_goes w) frozen_goes peer (next_of_peer h) (message_in body)
  addressee_goes ev no_tick peer h body (Nobody w) = dropped_goes w

  then_goes : (tunnel session : ℕ) (frame : List ℕ) (x : Side) → Goes (then_heard e env tunnel session frame x)
  unfolding then_heard
  then_goes tunnel session frame side.Sub = same_goes _ refl refl
  then_goes tunnel session frame side.Net = same_goes _ refl refl
  then_goes tunnel session frame side.Lcp = main_goes (Lcp session frame) refl tunnel (at e.tunnels tunnel) refl

  handed_goes : (session : ℕ) (c : Carried) → Goes (handed e env session c)
  unfolding handed
  handed_goes session (Upward tunnel of x frame) =
      let h = then_goes tunnel session frame x in
      record { once = h.once; had = h.had; left = h.left; told = h.told }
  handed_goes session (Dropped w) = dropped_goes w

  received_goes : (peer : ℕ) (bytes : List ℕ) (r : Result Header HeaderError) → Goes (receives e env peer bytes r)
  unfolding receives hands_up
  received_goes peer bytes (Err x) = dropped_goes (header_why x)
  received_goes peer bytes (Ok h) =
      branch Goes h.control _ _
      (λ control. addressee_goes (Datagram peer bytes) refl peer h (body_of bytes h) (addressed e peer h (body_of bytes h)))
      (λ data_is. handed_goes h.session (carry_look e.role (look_in (at e.calls h.session)) peer h (frame_of (body_of bytes h))))

  -- ---- rings and calls

  rings_go : (ev : Event) → is_tick ev ≡ false → (open_one opening : Option ℕ) → Goes (rings_in e env ev open_one opening)
  unfolding rings_in
  rings_go ev no_tick (Some i) opening = main_goes ev no_tick i (at e.tunnels i) refl
  rings_go ev no_tick None (Some i) = main_goes ev no_tick i (at e.tunnels i) refl
  rings_go ev no_tick None None =
      branch Goes (are_recovering e.config.lns e.tunnels) _ _
      (λ some. caused_goes cause.Recovering)
      (λ calm. more_goes ev e.config.lns (Cause cause.Tunnels) (caused_goes cause.Tunnels))

  call_goes : (ev : Event) → is_tick ev ≡ false → (o : Option CallPlace) → Goes (for_call e env ev o)
  unfolding for_call
  call_goes ev no_tick None = dropped_goes why.Call
  call_goes ev no_tick (Some p) = main_goes ev no_tick p.tunnel (at e.tunnels p.tunnel) refl

  -- ---- time: each tunnel by itself, and the calls of two are others

  -- a live call of the tunnel with this id is one of its calls
  own_call : (i : ℕ) (t : Tunnel) → at e.tunnels i ≡ Some t → (q : ℕ) {j : ℕ} (l : IsLive e j q) → j ≡ i → is_some (at t.calls q) ≡ true
  own_call i t is q {j} l same =
      let both : Some l.tunnel ≡ Some t = sym l.there ∙ ap (at e.tunnels) same ∙ is in
      let tunnel : l.tunnel ≡ t = cc in
      there_is t.calls q l.call (subst (λ (u : Tunnel). at u.calls q ≡ Some l.call) tunnel l.live)

  record IsTicked (t : Turned) : Type 0 where
    there : at e.tunnels t.id ≡ Some t.tunnel
    parts : Parts t.tunnel.calls t.turn.turn
    none_made : t.turn.turn.added ≡ []

  -- calls that are left by a turn as time passes, and those that it told
  main_apart : (i : ℕ) (t : Tunnel) → at e.tunnels i ≡ Some t → (p : Parts t.calls (turns e.role e.config t.letters t.calls Tick (turn_in t env)))
      → (turns e.role e.config t.letters t.calls Tick (turn_in t env)).cleared ≡ false
      → IsApart t.calls (with_calls (turns e.role e.config t.letters t.calls Tick (turn_in t env)).changed t.calls) p.gone
  unfolding placed
  main_apart i t is p stays =
      let u = turns e.role e.config t.letters t.calls Tick (turn_in t env) in
      let w = tick_whole e kept moment block i t is stays in
      let y = at_turn e moment Tick t.letters t.calls t.recovery i u in
      let seen : LooksAreTrue y = chain_looks moment Tick e y u.moves (ticks_no_start e moment block t) w.chain (kept_order e kept) looks in
      let here : at y.tunnels u.control.local ≡ Some (tunnel_after u t.letters t.calls t.recovery) = there_at e moment Tick t.letters t.calls t.recovery i u in
      let left = with_calls u.changed t.calls in
      let placed_so : (q : ℕ) (c : Call) → at left q ≡ Some c → (z : CallPlace) × ((at y.calls q ≡ Some z) × (z.tunnel ≡ i)) =
      λ q c live. (
        record { tunnel = u.control.local; look = look_of c u.control.local u.control.peer },
        (seen.seen u.control.local (tunnel_after u t.letters t.calls t.recovery) here q c live, w.stays.0),
      ) in
      let made : u.added ≡ [] = tick_makes [] e.role e.config t.letters t.calls (turn_in t env) refl in
      record {
        order = w.fits.0;
        apart = λ q a. not_left (at left q) (λ c live.
            let z = placed_so q c live in
            none-some z.0 (sym (turn_left e i t.letters t.calls t.recovery u p q kept.places (subst (λ xs. Among q xs) (sym p.tells.gone) a)) ∙ z.1.0));
        of = λ q there.
            let c = found (at left q) there in
            let z = placed_so q c.0 c.1 in
            let b = looks_tunnel u.changes e.calls q z.0 kept.places (subst (λ ss. at (with_looks u.changes (placed u.control.local ss e.calls)) q ≡ Some z.0) made z.1.0) in
            let l = looks.live q b.0 b.1.0 in
            own_call i t is q l (b.1.1 ∙ z.1.1);
      }

  tick_parts : (i : ℕ) (t : Tunnel) → at e.tunnels i ≡ Some t → Parts t.calls (recovering_turns e.role e.config t Tick (turn_in t env)).turn
  unfolding recovering_turns
  tick_parts i t is =
      let p = parts_of Tick i t is in
      recovery_ticks_parts t.calls t.recovery (turns e.role e.config t.letters t.calls Tick (turn_in t env)) p (main_apart i t is p)

  both_make : (i : ℕ) (t : Tunnel) → (recovering_turns e.role e.config t Tick (turn_in t env)).turn.added ≡ []
  unfolding recovering_turns
  both_make i t =
      recovery_makes [] t.calls t.recovery (turns e.role e.config t.letters t.calls Tick (turn_in t env))
      (tick_makes [] e.role e.config t.letters t.calls (turn_in t env) refl)

  abbrev outputs_of : List Turned → List Out
  outputs_of ts = flat_map (λ (t : Turned). t.turn.turn.outputs) ts

  tick_is : (i : ℕ) (o : Option Tunnel) → at e.tunnels i ≡ o → AllByRecursion IsTicked (tick_of e env i o)
  tick_is i None is = tt
  tick_is i (Some t) is = (
    record {
      there = is;
      parts = tick_parts i t is;
      none_made = both_make i t;
    },
    tt,
  )

  ticks_are : (is : List ℕ) → AllByRecursion IsTicked (ticks_of e env is)
  unfolding ticks_of
  ticks_are [] = tt
  ticks_are (i ∷ is) = all_append IsTicked (tick_of e env i (at e.tunnels i)) (ticks_of e env is) (tick_is i (at e.tunnels i) refl) (ticks_are is)

  -- the end after one of them
  abbrev after_one : Turned → End → End
  after_one t x = (after_both x t.id t.tunnel t.turn).end

  one_ordered : (t : Turned) (x : End) → Ascends x.calls → Ascends (after_one t x).calls
  unfolding after_turn
  one_ordered t x order =
      ascends_looks t.turn.turn.changes (placed t.turn.turn.control.local t.turn.turn.added x.calls) (ascends_placed t.turn.turn.control.local t.turn.turn.added x.calls order)

  one_left : (t : Turned) (x : End) (q : ℕ) → IsTicked t → Ascends x.calls → Among q (gone_in t.turn.turn.outputs) → at (after_one t x).calls q ≡ None
  unfolding after_turn
  one_left t x q h order a = turn_left x t.id t.tunnel.letters t.tunnel.calls t.turn.recovery t.turn.turn h.parts q order a

  one_told : (t : Turned) (x : End) (q : ℕ) → IsTicked t → IsThere x.calls q → at (after_one t x).calls q ≡ None → Among q (gone_in t.turn.turn.outputs)
  unfolding after_turn
  one_told t x q h there none = turn_told x t.id t.tunnel.letters t.tunnel.calls t.turn.recovery t.turn.turn h.parts q there none

  one_none : (t : Turned) (x : End) (q : ℕ) → IsTicked t → Ascends x.calls → at x.calls q ≡ None → at (after_one t x).calls q ≡ None
  unfolding after_turn placed
  one_none t x q h order none =
      looks_none t.turn.turn.changes (placed t.turn.turn.control.local t.turn.turn.added x.calls) q
      (ascends_placed t.turn.turn.control.local t.turn.turn.added x.calls order)
      (subst (λ ss. at (placed t.turn.turn.control.local ss x.calls) q ≡ None) (sym h.none_made) none)

  -- what the first tells, and what the others tell
  gone_first : (t : Turned) (ts : List Turned) → gone_in (outputs_of (t ∷ ts)) ≡ gone_in t.turn.turn.outputs ++ gone_in (outputs_of ts)
  gone_first t ts = flat_map-append gone_of_output t.turn.turn.outputs (outputs_of ts)

  all_none : (ts : List Turned) (x : End) (q : ℕ) → AllByRecursion IsTicked ts → Ascends x.calls → at x.calls q ≡ None → at (end_after_all ts x).calls q ≡ None
  unfolding end_after_all
  all_none [] x q h order none = none
  all_none (t ∷ ts) x q h order none = all_none ts (after_one t x) q h.1 (one_ordered t x order) (one_none t x q h.0 order none)

  all_left : (ts : List Turned) (x : End) (q : ℕ) → AllByRecursion IsTicked ts → Ascends x.calls → Among q (gone_in (outputs_of ts))
      → at (end_after_all ts x).calls q ≡ None
  unfolding end_after_all
  all_left [] x q h order a = absurd a
  all_left (t ∷ ts) x q h order a = ⊎_elim
      (λ l. all_none ts (after_one t x) q h.1 (one_ordered t x order) (one_left t x q h.0 order l))
      (λ r. all_left ts (after_one t x) q h.1 (one_ordered t x order) r)
      (among_either q (gone_in t.turn.turn.outputs) (gone_in (outputs_of ts)) (subst (λ xs. Among q xs) (gone_first t ts) a))

  all_told : (ts : List Turned) (x : End) (q : ℕ) → AllByRecursion IsTicked ts → IsThere x.calls q → at (end_after_all ts x).calls q ≡ None
      → Among q (gone_in (outputs_of ts))
  unfolding end_after_all
  all_told [] x q h there none = absurd (none_there x.calls q none there)
  all_told (t ∷ ts) x q h there none =
      subst (λ xs. Among q xs) (sym (gone_first t ts)) (⊎_elim
      (λ gone. among_left q (gone_in t.turn.turn.outputs) (gone_in (outputs_of ts)) (one_told t x q h.0 there gone))
      (λ still. among_right q (gone_in t.turn.turn.outputs) (gone_in (outputs_of ts)) (all_told ts (after_one t x) q h.1 still none))
      (none_or_some (at (after_one t x).calls q)))

  -- a call of one of these tunnels
  record IsOf (is : List ℕ) (q : ℕ) : Type 0 where
    id : ℕ
    among : Among id is
    tunnel : Tunnel
    there : at e.tunnels id ≡ Some tunnel
    live : IsThere tunnel.calls q

  -- no call is of two tunnels
  one_tunnel : (i j : ℕ) (t u : Tunnel) → at e.tunnels i ≡ Some t → at e.tunnels j ≡ Some u → (q : ℕ) → IsThere t.calls q → IsThere u.calls q → i ≡ j
  one_tunnel i j t u a b q live also =
      let c = found (at t.calls q) live in
      let d = found (at u.calls q) also in
      let p : CallPlace = record (new_place i) { look = look_of c.0 i t.control.peer } in
      let r : CallPlace = record (new_place j) { look = look_of d.0 j u.control.peer } in
      let both : Some p ≡ Some r = sym (looks.seen i t a q c.0 c.1) ∙ looks.seen j u b q d.0 d.1 in
      let same : p ≡ r = cc in
      ap (λ (x : CallPlace). x.tunnel) same

  record TellsOf (is : List ℕ) (gone : List ℕ) : Type 0 where
    once : AreDistinct gone
    of : (q : ℕ) → Among q gone → IsOf is q

  tick_tells : (i : ℕ) (is : List ℕ) (o : Option Tunnel) → at e.tunnels i ≡ o → (ts : List Turned) → AreDistinct (i ∷ is)
      → TellsOf is (gone_in (outputs_of ts)) → TellsOf (i ∷ is) (gone_in (outputs_of (tick_of e env i o ++ ts)))
  tick_tells i is None at_is ts one h = record {
    once = h.once;
    of = λ q a. let l = h.of q a in record { id = l.id; among = inr l.among; tunnel = l.tunnel; there = l.there; live = l.live };
  }
  tick_tells i is (Some t) at_is ts one h =
      let u : Turned = record { id = i; tunnel = t; turn = recovering_turns e.role e.config t Tick (turn_in t env) } in
      let p = tick_parts i t at_is in
      let first = gone_in u.turn.turn.outputs in
      let others = gone_in (outputs_of ts) in
      let own : (q : ℕ) → Among q first → IsThere t.calls q = turn_had e i t.letters t.calls u.turn.recovery u.turn.turn p in
      record {
        once = subst AreDistinct (sym (gone_first u ts)) (distinct_append first others (turn_once e i t.letters t.calls u.turn.recovery u.turn.turn p) h.once
            (λ q l r. let k = h.of q r in one.0 (subst (λ j. Among j is) (one_tunnel k.id i k.tunnel t k.there at_is q k.live (own q l)) k.among)));
        of = λ q a. ⊎_elim
            (λ l. record { id = i; among = inl refl; tunnel = t; there = at_is; live = own q l })
            (λ r. let l = h.of q r in record { id = l.id; among = inr l.among; tunnel = l.tunnel; there = l.there; live = l.live })
            (among_either q first others (subst (λ xs. Among q xs) (gone_first u ts) a));
      }

  ticks_tell : (is : List ℕ) → AreDistinct is → TellsOf is (gone_in (outputs_of (ticks_of e env is)))
  unfolding ticks_of
  ticks_tell [] one = record { once = tt; of = λ q a. absurd a }
  ticks_tell (i ∷ is) one = tick_tells i is (at e.tunnels i) refl (ticks_of e env is) one (ticks_tell is one.1)

  all_go : Goes (ticks_all e env)
  unfolding ticks_all after_all
  all_go =
      let is = ids_of e.tunnels in
      let ts = ticks_of e env is in
      let h = ticks_tell is (distinct_ids e.tunnels kept.order) in
      record {
        once = distinct_pairs (gone_in (outputs_of ts)) h.once;
        had = λ q a. let l = h.of q a in have_places l.id l.tunnel l.there q l.live;
        left = λ q a. all_left ts e q (ticks_are is) kept.places a;
        told = λ q there none. all_told ts e q (ticks_are is) there none;
      }

  by_lac : (s : Stepped) → Goes s → Goes (only_by Lac e s)
  unfolding only_by
  by_lac s h = branch Goes (is_lac e.role) _ _ (λ lac. h) (λ lns. dropped_goes why.Node)

  by_lns : (s : Stepped) → Goes s → Goes (only_by Lns e s)
  unfolding only_by
  by_lns s h = branch Goes (is_lac e.role) _ _ (λ lac. dropped_goes why.Node) (λ lns. h)

  step_goes : (ev : Event) → Goes (plain_step e moment block ev)
  unfolding plain_step step_in rings_at
  step_goes (Datagram peer bytes) = received_goes peer bytes (header_of bytes)
  step_goes (Ring port) =
      by_lac _ (rings_go (Ring port) refl (least_in Established e.config.lns e.tunnels) (least_in WaitCtlReply e.config.lns e.tunnels))
  step_goes (Admitted mac) =
      by_lac _ (rings_go (Admitted mac) refl (least_in Established e.config.lns e.tunnels) (least_in WaitCtlReply e.config.lns e.tunnels))
  step_goes (Frame bytes) = dropped_goes why.Node
  step_goes (Payload s frame) = by_lac _ (call_goes (Payload s frame) refl (at e.calls s))
  step_goes (Lower s frame) = by_lns _ (call_goes (Lower s frame) refl (at e.calls s))
  step_goes (Lcp s packet) = by_lns _ (call_goes (Lcp s packet) refl (at e.calls s))
  step_goes (Hang s) = by_lac _ (call_goes (Hang s) refl (at e.calls s))
  step_goes (DropCall s) = call_goes (DropCall s) refl (at e.calls s)
  step_goes (CloseTunnel i) = main_goes (CloseTunnel i) refl i (at e.tunnels i) refl
  step_goes Tick = all_go
  step_goes OpenTunnel = by_lac _ (more_goes OpenTunnel e.config.lns (Cause cause.Tunnels) (caused_goes cause.Tunnels))

pub calls_go_once : CallsGoOnce
calls_go_once e kept looks moment block ev = step_goes e kept looks moment block ev
