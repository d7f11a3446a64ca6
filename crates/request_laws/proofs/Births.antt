-- Where the births of an LNS's sessions come from: each is that of the call that a request named, which a tunnel took.
use Rattle.std.proofs.Common.{◌≡◌, ⊎_elim, ℕ, ◌+◌, ◌<◌, List, [], ◌∷◌, length, refl, sym, ap, ◌∙◌, subst, Option, Some, None, slice_get, arith}
use Rattle.std.specs.Prelude.{unwrap_or}
use Rattle.std.specs.List.{AllByRecursion}
use Rattle.id_source.specs.Spaces.{Space, draw_is, next_is}
use Rattle.id_table.specs.Ids.{at, put}
use Rattle.id_table.specs.Order.{at_new, at_other, found_put, same_or_not}
use Rattle.end_model.specs.declared.event.Event.{Event}
use Rattle.end_model.specs.declared.event.Event.TheVariants.{Datagram}
use Rattle.end_model.specs.declared.moves.Added.{Added}
use Rattle.end_model.specs.declared.moves.Replied.{Replied}
use Rattle.end_model.specs.declared.moves.Move.{Move}
use Rattle.end_model.specs.declared.moves.Move.TheVariants as move
use Rattle.end_names.specs.declared.role.Role.{Role}
use Rattle.end_names.specs.declared.role.Role.TheVariants.{Lns}
use Rattle.end_names.specs.Names.{node_of}
use Rattle.end_model.specs.End.{End}
use Rattle.world_model.specs.World.{World, Node, Sender, birth_in, birth_of, is_born, with_birth, moved, moved_all}
use Rattle.step_laws.specs.Callers.{wanted_by_lac}
use Rattle.step_laws.specs.Moves.{Adds, Replies, Does, Chain}
use Rattle.frame_laws.specs.Facts.{Nodes, Born, birth_in_node}
use Rattle.frame_laws.specs.Unrecovered.{IsMain}
use Rattle.connection_laws.specs.Accounts.{Taken, about, account_from}
use Rattle.request_laws.proofs.Rows.{not_both}
use Rattle.request_laws.proofs.Asked.{Known, Ordered, CallsGo}
use Rattle.request_laws.proofs.Deeds.{known_after, taken_for, deed_taken, deed_replied}
use Rattle.request_laws.proofs.Moves.{does_calls}
use Rattle.request_laws.proofs.Chains.{known_then}
use Rattle.request_laws.proofs.Worlds.{with_one, next_birth, born_nodes, made_nodes}

-- ---- births

pub born_at : (ns : Nodes) (n s b : ℕ) (node : Node) → at ns n ≡ Some node → at node.births s ≡ Some b → Born ns n s b
born_at ns n s b node is h = rw is h

pub birth_there : (ns : Nodes) (n s b : ℕ) (node : Node) → at ns n ≡ Some node → Born ns n s b → at node.births s ≡ Some b
birth_there ns n s b node is h = rw is at h

-- a birth that isn't 0 is one
birth_found : (w : World) (n s : ℕ) → 0 < birth_of w n s → Born w.nodes n s (birth_of w n s)
unfolding birth_of
birth_found w n s some = by (at w.nodes n) some
  where
    known : (o : Option ℕ) → 0 < unwrap_or o 0 → o ≡ Some (unwrap_or o 0)
    known None lt = absurd (omega (arith, lt))
    known (Some b) lt = refl

    by : (o : Option Node) → 0 < birth_in o s → birth_in_node o s ≡ Some (birth_in o s)
    by None lt = absurd (omega (arith, lt))
    by (Some node) lt = known (at node.births s) lt

-- births stay
abbrev pub BirthsStay : Nodes → Nodes → Type 0
BirthsStay ns ms = (n s b : ℕ) → Born ns n s b → Born ms n s b

-- where a node is put that keeps its own
pub put_stays : (ns : Nodes) (n : ℕ) (new : Node) → ((s b : ℕ) → Born ns n s b → at new.births s ≡ Some b) → BirthsStay ns (put ns n new)
put_stays ns n new kept m q c h = ⊎_elim
    (λ (e : m ≡ n).
    let still = kept q c (subst (λ k. Born ns k q c) e h) in
    subst (λ k. Born (put ns n new) k q c) (sym e) (born_at (put ns n new) n q c new (at_new ns n new) still))
    (λ other. subst (λ (o : Option Node). birth_in_node o q ≡ Some c) (sym (at_other ns n new m other)) h)
    (same_or_not m n)

-- where one is added, that of a session that had none
one_more_birth : (ns ms : Nodes) (n s b : ℕ) (node : Node) → at ns n ≡ Some node → ms ≡ put ns n (with_one node s b)
    → ((q c : ℕ) → at node.births q ≡ Some c → q ≡ s → ⊥) → BirthsStay ns ms
one_more_birth ns ms n s b node is are new =
    rw are
    (put_stays ns n (with_one node s b) (λ q c h. let was = birth_there ns n q c node is h in at_other node.births s b q (new q c was) ∙ was))

-- ---- what a birth is of

-- the session was drawn for a request that a tunnel took
pub record Drawn (known : Known) (s : ℕ) : Type 0 where
  pub tunnel : ℕ
  pub number : ℕ
  pub taken : Taken
  pub there : slice_get (known tunnel).taken number ≡ Some taken
  pub reply : Replied
  pub move_is : taken.move ≡ move.Replied reply
  pub session : reply.session ≡ s

-- and it has the birth of the call that the request named
pub record Told (ns : Nodes) (known : Known) (s b : ℕ) : Type 0 where
  pub drawn : Drawn known s
  -- what a tunnel sent comes from the node at the request's address
  pub sender : (from : Sender) → drawn.taken.sender ≡ Some from → from.node ≡ node_of drawn.reply.peer
  pub birth : Born ns (node_of drawn.reply.peer) drawn.reply.remote b

abbrev pub TakenStay : Known → Known → Type 0
TakenStay known later = (i k : ℕ) (t : Taken) → slice_get (known i).taken k ≡ Some t → slice_get (later i).taken k ≡ Some t

drawn_later : (known later : Known) → TakenStay known later → (s : ℕ) → Drawn known s → Drawn later s
drawn_later known later takes s h = record {
  tunnel = h.tunnel;
  number = h.number;
  taken = h.taken;
  there = takes h.tunnel h.number h.taken h.there;
  reply = h.reply;
  move_is = h.move_is;
  session = h.session;
}

told_later : (ns ms : Nodes) → BirthsStay ns ms → (known later : Known) → TakenStay known later → (s b : ℕ) → Told ns known s b → Told ms later s b
unfolding drawn_later
told_later ns ms births known later takes s b h = record {
  drawn = drawn_later known later takes s h.drawn;
  sender = h.sender;
  birth = births (node_of h.drawn.reply.peer) h.drawn.reply.remote b h.birth;
}

-- so are all session ids below a bound, and all births
pub record Tells (ns : Nodes) (known : Known) (bound : ℕ) (births : List (ℕ × ℕ)) : Type 0 where
  pub drawn : (s : ℕ) → 0 < s → s < bound → Drawn known s
  pub told : (s b : ℕ) → at births s ≡ Some b → 0 < b → Told ns known s b

pub tells_later : (ns ms : Nodes) → BirthsStay ns ms → (known later : Known) → TakenStay known later → (bound : ℕ) (births : List (ℕ × ℕ))
    → Tells ns known bound births → Tells ms later bound births
tells_later ns ms stay known later takes bound births h = record {
  drawn = λ s some lt. drawn_later known later takes s (h.drawn s some lt);
  told = λ s b f some. told_later ns ms stay known later takes s b (h.told s b f some);
}

-- ---- along the moves of a step

-- the births of a node, where its step came to an end x: they are of sessions that were drawn, and an LNS's are told of
pub record BornOk (n : ℕ) (ns : Nodes) (known : Known) (x : End) : Type 0 where
  pub order : Ordered x
  pub node : Node
  pub is : at ns n ≡ Some node
  pub below : (s b : ℕ) → at node.births s ≡ Some b → s < x.session_ids.next
  pub tells : x.role ≡ Lns → Tells ns known x.session_ids.next node.births

pub record Bears (n : ℕ) (ns ms : Nodes) (known : Known) (y : End) : Type 0 where
  pub ok : BornOk n ms known y
  pub stay : BirthsStay ns ms

-- a packet of a tunnel comes from the node at its address
abbrev pub ComesFrom : Option Sender → Event → Type 0
ComesFrom sender ev = (peer : ℕ) (bytes : List ℕ) → ev ≡ Datagram peer bytes → (from : Sender) → sender ≡ Some from → from.node ≡ node_of peer

module _ (n : ℕ) (ns : Nodes) (known later : Known) (x y : End)
    (ok : BornOk n ns known x) (calls : (i : ℕ) × CallsGo x y i) (takes : TakenStay known later) where
  next_below : (s b : ℕ) → at ok.node.births s ≡ Some b → s < y.session_ids.next
  next_below s b h = let lt = ok.below s b h in let le = calls.1.rises in omega arith

  -- no call is born
  bears_still : y.session_ids.next ≡ x.session_ids.next → Bears n ns ns later y
  bears_still same = record {
    ok = record {
      order = calls.1.order;
      node = ok.node;
      is = ok.is;
      below = next_below;
      tells = λ lns. rw same (tells_later ns ns (λ m q c f. f) known later takes x.session_ids.next ok.node.births (ok.tells (sym calls.1.role ∙ lns)));
    };
    stay = λ m q c f. f;
  }

  -- the session that is drawn has this birth
  module _ (s b : ℕ) (ms : Nodes) (are : ms ≡ put ns n (with_one ok.node s b)) (new : s ≡ x.session_ids.next) (next : y.session_ids.next ≡ s + 1) where
    not_yet : (q c : ℕ) → at ok.node.births q ≡ Some c → q ≡ s → ⊥
    not_yet q c h e = let below = ok.below q c h in omega (arith, new, e)

    stay : BirthsStay ns ms
    stay = one_more_birth ns ms n s b ok.node ok.is are not_yet

    -- an id below the next one is new, or was below the next one before
    tells_more : Drawn later s → (0 < b → Told ms later s b) → Tells ns known x.session_ids.next ok.node.births
        → Tells ms later y.session_ids.next (put ok.node.births s b)
    tells_more drawn told h =
        let old = tells_later ns ms stay known later takes x.session_ids.next ok.node.births h in
        record {
          drawn = λ q some lt. ⊎_elim (λ (e : q ≡ s). rw e drawn) (λ other. old.drawn q some (omega (arith, lt, new, next, other))) (same_or_not q s);
          told = λ q c f some. ⊎_elim
              (λ (a : (q ≡ s) × (b ≡ c)). rw (a.0, ← a.1) (told (rw a.1 some)))
              (λ a. old.told q c a.1 some)
              (found_put ok.node.births s b q c f);
        }

    bears_one : (y.role ≡ Lns → Drawn later s × (0 < b → Told ms later s b)) → Bears n ns ms later y
    bears_one told = record {
      ok = record {
        order = calls.1.order;
        node = with_one ok.node s b;
        is = rw are (at_new ns n (with_one ok.node s b));
        below = λ q c h. ⊎_elim
            (λ (a : (q ≡ s) × (b ≡ c)). omega (arith, next, a.0))
            (λ a. next_below q c a.1)
            (found_put ok.node.births s b q c h);
        tells = λ lns. let new = told lns in tells_more new.0 new.1 (ok.tells (sym calls.1.role ∙ lns));
      };
      stay = stay;
    }

module _ (v : World) (number n : ℕ) (r : Role) (sender : Option Sender) (moment : ℕ) (ev : Event) (comes : ComesFrom sender ev) where
  abbrev next_known : Move → Known → Known
  next_known m known = known_after v number n r sender m known

  calls_go : (x y : End) → Ordered x → (m : Move) → IsMain m → Does x moment ev m y → (i : ℕ) × CallsGo x y i
  calls_go x y o m main h = (about m, does_calls x y o moment ev m main h)

  still_born : (u : World) (known : Known) (x y : End) → BornOk n u.nodes known x → (m : Move) → IsMain m → Does x moment ev m y
      → y.session_ids ≡ x.session_ids → Bears n u.nodes u.nodes (next_known m known) y
  still_born u known x y ok m main h ids =
      bears_still n u.nodes known (next_known m known) x y ok (calls_go x y ok.order m main h) (deed_taken v number n r sender m known)
      (ap (λ (q : Space). q.next) ids)

  -- a LAC's call is born
  added_born : (u : World) (known : Known) (x y : End) → BornOk n u.nodes known x → (m : Added) → Adds x moment ev m y
      → Bears n u.nodes (is_born u n m.session).nodes (next_known (move.Added m) known) y
  added_born u known x y ok m h =
      let new = (draw_is x.session_ids m.session h.drawn).0 in
      let next = ap (λ (e : End). e.session_ids.next) h.after ∙ ap (λ (ids : Space). ids.next) (next_is x.session_ids m.session h.drawn) in
      let role : y.role ≡ x.role = ap (λ (e : End). e.role) h.after in
      bears_one n u.nodes known (next_known (move.Added m) known) x y ok (calls_go x y ok.order (move.Added m) tt h)
      (deed_taken v number n r sender (move.Added m) known)
      m.session (next_birth u) (is_born u n m.session).nodes (born_nodes u n m.session ok.node ok.is) new next
      (λ lns. absurd (not_both y.role (role ∙ wanted_by_lac x ev h.tunnel.control.peer h.wants) lns))

  -- an LNS's call has the birth of the call that the request names
  replied_born : (u : World) (known : Known) (x y : End) → BornOk n u.nodes known x → (m : Replied) → Replies x moment ev m y
      → Bears n u.nodes (with_birth u n m.session (birth_of u (node_of m.peer) m.remote)).nodes (next_known (move.Replied m) known) y
  replied_born u known x y ok m h =
      let new = (draw_is x.session_ids m.session h.drawn).0 in
      let next = ap (λ (e : End). e.session_ids.next) h.after ∙ ap (λ (ids : Space). ids.next) (next_is x.session_ids m.session h.drawn) in
      let b = birth_of u (node_of m.peer) m.remote in
      let later = next_known (move.Replied m) known in
      let calls = calls_go x y ok.order (move.Replied m) tt h in
      let takes = deed_taken v number n r sender (move.Replied m) known in
      let ms = (with_birth u n m.session b).nodes in
      let are = made_nodes u n m.session b ok.node ok.is in
      let drawn : Drawn later m.session = record {
        tunnel = m.tunnel;
        number = length (known m.tunnel).taken;
        taken = taken_for v number n r sender m;
        there = deed_replied v number n r sender m known;
        reply = m;
        move_is = refl;
        session = refl;
      } in
      let births = stay n u.nodes known later x y ok calls takes m.session b ms are new next in
      bears_one n u.nodes known later x y ok calls takes m.session b ms are new next
      (λ lns. (
        drawn,
        λ some. record {
          drawn = drawn;
          sender = λ from is. comes m.peer h.takes.next.comes.came.bytes
              (h.takes.next.comes.came.is ∙ ap (λ p. Datagram p h.takes.next.comes.came.bytes) (h.takes.next.comes.peer ∙ sym h.peer)) from is;
          birth = births (node_of m.peer) m.remote b (birth_found u (node_of m.peer) m.remote some);
        },
      ))

  does_born : (u : World) (known : Known) (x y : End) → BornOk n u.nodes known x → (m : Move) → IsMain m → Does x moment ev m y
      → Bears n u.nodes (moved n u m).nodes (next_known m known) y
  unfolding moved
  does_born u known x y ok (move.Opened m) main h = still_born u known x y ok (move.Opened m) main h (ap (λ (e : End). e.session_ids) h.after)
  does_born u known x y ok (move.Accepted m) main h = still_born u known x y ok (move.Accepted m) main h (ap (λ (e : End). e.session_ids) h.after)
  does_born u known x y ok (move.Connected m) main h = still_born u known x y ok (move.Connected m) main h (ap (λ (e : End). e.session_ids) h.after)
  does_born u known x y ok (move.Confirmed m) main h = still_born u known x y ok (move.Confirmed m) main h (ap (λ (e : End). e.session_ids) h.after)
  does_born u known x y ok (move.Added m) main h = added_born u known x y ok m h
  does_born u known x y ok (move.Requested m) main h = still_born u known x y ok (move.Requested m) main h (ap (λ (e : End). e.session_ids) h.after)
  does_born u known x y ok (move.Replied m) main h = replied_born u known x y ok m h
  does_born u known x y ok (move.FirstUp m) main h = still_born u known x y ok (move.FirstUp m) main h (ap (λ (e : End). e.session_ids) h.after)
  does_born u known x y ok (move.SecondUp m) main h = still_born u known x y ok (move.SecondUp m) main h (ap (λ (e : End). e.session_ids) h.after)
  does_born u known x y ok (move.Refused m) main h = still_born u known x y ok (move.Refused m) main h (ap (λ (e : End). e.session_ids) h.after)
  does_born u known x y ok (move.EndTold m) main h = still_born u known x y ok (move.EndTold m) main h (ap (λ (e : End). e.session_ids) h.after)
  does_born u known x y ok (move.EndHeard m) main h = still_born u known x y ok (move.EndHeard m) main h (ap (λ (e : End). e.session_ids) h.after)
  does_born u known x y ok (move.EndSilent m) main h = still_born u known x y ok (move.EndSilent m) main h (ap (λ (e : End). e.session_ids) h.after)
  does_born u known x y ok (move.Declined m) main h = still_born u known x y ok (move.Declined m) main h (ap (λ (e : End). e.session_ids) h.after)
  does_born u known x y ok (move.Closed m) main h = still_born u known x y ok (move.Closed m) main h (ap (λ (e : End). e.session_ids) h.after)
  does_born u known x y ok (move.Rejected m) main h = still_born u known x y ok (move.Rejected m) main h (ap (λ (e : End). e.session_ids) h.after)
  does_born u known x y ok (move.ClosedBy m) main h = still_born u known x y ok (move.ClosedBy m) main h (ap (λ (e : End). e.session_ids) h.after)
  does_born u known x y ok (move.Cleared i booked) main h = still_born u known x y ok (move.Cleared i booked) main h (ap (λ (e : End). e.session_ids) h.after)
  does_born u known x y ok (move.Greeted m) main h = still_born u known x y ok (move.Greeted m) main h (ap (λ (e : End). e.session_ids) h.after)
  does_born u known x y ok (move.TookPlain m) main h = still_born u known x y ok (move.TookPlain m) main h (ap (λ (e : End). e.session_ids) h.after)
  does_born u known x y ok (move.NrRead m) main h = still_born u known x y ok (move.NrRead m) main h (ap (λ (e : End). e.session_ids) h.after)
  does_born u known x y ok (move.LetGo m) main h = still_born u known x y ok (move.LetGo m) main h (ap (λ (e : End). e.session_ids) h.after)
  does_born u known x y ok (move.Repeated m) main h = still_born u known x y ok (move.Repeated m) main h (ap (λ (e : End). e.session_ids) h.after)
  does_born u known x y ok (move.Quiet i) main h = still_born u known x y ok (move.Quiet i) main h (ap (λ (e : End). e.session_ids) h.after)
  does_born u known x y ok (move.Negotiated m) main h = still_born u known x y ok (move.Negotiated m) main h (ap (λ (e : End). e.session_ids) h.after)
  does_born u known x y ok (move.Counted m) main h = still_born u known x y ok (move.Counted m) main h (ap (λ (e : End). e.session_ids) h.after)
  does_born u known x y ok (move.FrameSent m) main h = still_born u known x y ok (move.FrameSent m) main h (ap (λ (e : End). e.session_ids) h.after)
  does_born u known x y ok (move.FrameUp m) main h = still_born u known x y ok (move.FrameUp m) main h (ap (λ (e : End). e.session_ids) h.after)
  does_born u known x y ok m main h = absurd main

  pub born_on : (u : World) (known : Known) (x y : End) → BornOk n u.nodes known x → (ms : List Move) → AllByRecursion IsMain ms → Chain moment ev x ms y
      → Bears n u.nodes (moved_all n ms u).nodes (known_then v number n r sender moment ev ms known) y
  unfolding account_from moved_all
  born_on u known x y ok [] mains h = subst (λ e. Bears n u.nodes u.nodes known e) h (record { ok = ok; stay = λ m q c f. f })
  born_on u known x y ok (m ∷ ms) mains h =
      let g = does_born u known x h.0 ok m mains.0 h.1 in
      let w = moved n u m in
      let k = born_on w (next_known m known) h.0 y g.ok ms mains.1 h.2 in
      record { ok = k.ok; stay = λ q s b f. k.stay q s b (g.stay q s b f) }
