-- A move of a start: a tunnel of the book comes back, with an attempt at its recovery; one is forgotten; or the link of a call is opened.
use Rattle.std.proofs.Common.{◌≡◌, ◌⊎◌, inl, inr, ⊎_elim, ℕ, ◌+◌, ◌<◌, ◌≤◌, Bool, true, false, List, [], ◌∷◌, refl, sym, ap, ap₂, ◌∙◌, subst, Option, Some, None, arith}
use Rattle.std.proofs.lemmas.Bool.{true≢false, eqb-true, eq-eqb}
use Rattle.std.proofs.lemmas.Option.{none-some}
use Rattle.std.specs.Prelude.{is_some, ◌==◌, ◌&&◌, if◌then◌else◌}
use Rattle.std.specs.List.{AllByRecursion}
use Rattle.id_source.specs.Spaces.{Space, draw_is, next_is, after_id}
use Rattle.id_table.specs.Ids.{at, put, at-none}
use Rattle.id_table.specs.Order.{same_or_not, found_put}
use Rattle.session_book.specs.declared.record.BookTunnel.{BookTunnel}
use Rattle.session_book.specs.declared.record.BookCall.{BookCall}
use Rattle.session_book.specs.Books.{Kept, tunnel_at}
use Rattle.call_link.specs.Laws.{turn_at}
use Rattle.recovery_tunnel.specs.Connections.{ControlConnection, is_waiting}
use Rattle.end_names.specs.declared.role.Role.{Role}
use Rattle.end_model.specs.declared.event.Event.{Event}
use Rattle.end_model.specs.declared.moves.Move.{Move}
use Rattle.end_model.specs.declared.moves.Move.TheVariants as move
use Rattle.end_model.specs.declared.moves.Restored.{Restored}
use Rattle.end_model.specs.declared.moves.Froze.{Froze}
use Rattle.end_model.specs.declared.tunnel.Call.{Call}
use Rattle.end_model.specs.Calls.{counted}
use Rattle.end_model.specs.Links.{with_link}
use Rattle.end_model.specs.Starting.{kept_control, kept_call}
use Rattle.end_model.specs.Tunnels.{Ground, Tunnel, new_tunnel, ByAttempt, mode_of, is_current}
use Rattle.end_model.specs.End.{End}
use Rattle.world_model.specs.declared.packet.Packet.{Packet}
use Rattle.world_model.specs.declared.standing.Standing.{Standing}
use Rattle.world_model.specs.World.{World, Node, Deed, standing_of, moved}
use Rattle.step_laws.specs.Moves.{Does, Restores, calls_back}
use Rattle.step_laws.specs.Starts.{IsOfStart}
use Rattle.step_laws.proofs.Looks.{next_risen}
use Rattle.book_laws.proofs.Lists.{all_filter, all_found}
use Rattle.book_laws.proofs.Pending.{among_entry}
use Rattle.connection_laws.proofs.Hearing.{same_address}
use Rattle.channel_laws.specs.Accounts.{Account, History, about, declined_in, declines_of, entered_by, after_deed, attempts_by, answers_by, after}
use Rattle.channel_laws.specs.Facts.{BookedOk, AttemptOk, IsRecovered, LiveOk, IdsOk, EndOk, BookOk, NodeOk, StandingOk, PacketOk, Holds}
use Rattle.channel_laws.specs.Steps.{with_end, moves_on, IsStarted, StartingMovesKeep}
use Rattle.channel_laws.proofs.Attempting.{account_tried, booked_tried, book_tried, attempt_tried, answer_tried, live_tried, standing_tried, packets_tried}
use Rattle.channel_laws.proofs.Ends.{put_end_apart}
use Rattle.channel_laws.proofs.Entering.{base_here, base_other, base_same, base_makes}
use Rattle.channel_laws.proofs.Giving.{calls_put}
use Rattle.channel_laws.proofs.Growing.{Grows, account_grows, answers_grow, packets_grow}
use Rattle.channel_laws.proofs.Looks.{CountAlike, same_look, end_agrees, node_agrees, packets_agree}
use Rattle.channel_laws.proofs.Partners.{known_back}
use Rattle.channel_laws.proofs.Still.{same_history, nothing_by, end_holds, call_end}
use Rattle.channel_laws.proofs.Waiting.{not_reset, waits_inactive}

-- the calls that come back have ids as the book's
back_fits : (r : Role) (g : Ground) (cs : List BookCall) → AllByRecursion (λ (c : BookCall). c.remote < 65536) cs → (s : ℕ) (c : Call)
    → at (calls_back r g cs) s ≡ Some c → c.remote < 65536
back_fits r g [] fit s c there = absurd (none-some c (sym (at-none s) ∙ there))
back_fits r g (b ∷ cs) fit s c there = calls_put (calls_back r g cs) b.local (kept_call r g b) (back_fits r g cs fit.1) fit.0 s c there

-- the world with another end of the node keeps the same of each tunnel and each answer
module _ (w : World) (n : ℕ) (node : Node) (there : at w.nodes n ≡ Some node) (x : End) where
  pub base_alike : CountAlike w (with_end w n node x)
  base_alike = record { standings = λ m j. base_same w n node there x m j; makes_as = λ m c. base_makes w n node there x m c }

-- ---- a tunnel comes back

module _ (w : World) (h : History) (n : ℕ) (node : Node) (moment : ℕ) (ev : Event) (m : Restored) (x : End) (d : Deed)
    (k : IsStarted w h n node moment ev (move.Restored m) x d) where
  does : Restores node.end moment m x
  does = k.does

  abbrev i : ℕ
  i = m.tunnel.local

  abbrev v : World
  v = with_end w n node x

  both_ok : EndOk w h n node.end × BookOk h n node.checkpoint.book
  both_ok = subst (NodeOk w h n) k.there (k.holds.nodes n)

  found : tunnel_at node.checkpoint.book i ≡ Some m.tunnel
  found = among_entry (λ (t : BookTunnel). t.local) node.checkpoint.book.tunnels k.sound.tunnels_rise m.tunnel k.of.0

  booked : BookedOk h n m.tunnel
  booked = both_ok.1.tunnels i m.tunnel found

  calls_fit : AllByRecursion (λ (c : BookCall). c.remote < 65536) m.calls
  calls_fit =
      subst (AllByRecursion (λ (c : BookCall). c.remote < 65536)) (sym k.of.1)
      (all_filter (λ (c : BookCall). c.remote < 65536) (λ (c : BookCall). c.tunnel == i) node.checkpoint.book.calls
      (all_found (λ (c : BookCall). c.local) (λ (c : BookCall). c.remote < 65536) node.checkpoint.book.calls k.sound.calls_rise
      (λ s c there. both_ok.1.calls s c there)))

  -- ---- its attempt is new

  drawn : (m.attempt ≡ node.end.tunnel_ids.next) × (m.attempt ≤ node.end.tunnel_ids.last)
  drawn = draw_is node.end.tunnel_ids m.attempt does.local

  fresh : h.attempts n m.attempt ≡ None
  fresh = by (h.attempts n m.attempt) refl
    where
      by : (o : Option Restored) → h.attempts n m.attempt ≡ o → o ≡ None
      by None is = refl
      by (Some f) is = (let lt = both_ok.0.ids.attempts m.attempt (ap is_some is) in let next = drawn.0 in absurd (omega (arith, lt, next)))

  abbrev attempts_then : ℕ → ℕ → Option Restored
  attempts_then = λ p a. attempts_by d d.move p a (h.attempts p a)

  attempts_are : (p a : ℕ) → attempts_then p a ≡ (if (d.node == p) && (m.attempt == a) then Some m else h.attempts p a)
  attempts_are p a = ap (λ q. attempts_by d q p a (h.attempts p a)) k.deed.move_is

  own_tried : attempts_then n m.attempt ≡ Some m
  own_tried = attempts_are n m.attempt ∙ (ap (λ b. if b && (m.attempt == m.attempt) then Some m else h.attempts n m.attempt)
      (eq-eqb d.node n k.deed.node_is)
      ∙ ap (λ b. if true && b then Some m else h.attempts n m.attempt) (eq-eqb m.attempt m.attempt refl))

  both_true : (a b : Bool) → a && b ≡ true → (a ≡ true) × (b ≡ true)
  both_true true true is = (refl, refl)
  both_true true false is = absurd (true≢false (sym is))
  both_true false b is = absurd (true≢false (sym is))

  other_tried : (p a : ℕ) → ((p ≡ n) × (a ≡ m.attempt) → ⊥) → attempts_then p a ≡ h.attempts p a
  other_tried p a apart = attempts_are p a ∙ by ((d.node == p) && (m.attempt == a)) refl
    where
      by : (b : Bool) → (d.node == p) && (m.attempt == a) ≡ b → (if b then Some m else h.attempts p a) ≡ h.attempts p a
      by true is =
          (let both = both_true (d.node == p) (m.attempt == a) is in
          absurd (apart (sym (eqb-true d.node p both.0) ∙ k.deed.node_is, sym (eqb-true m.attempt a both.1))))
      by false is = refl

  either : (p a : ℕ) → ((p ≡ n) × (a ≡ m.attempt)) ⊎ ((p ≡ n) × (a ≡ m.attempt) → ⊥)
  either p a = ⊎_elim
      (λ (one : p ≡ n). ⊎_elim (λ (two : a ≡ m.attempt). inl (one, two)) (λ no. inr (λ (r : (p ≡ n) × (a ≡ m.attempt)). no r.1))
      (same_or_not a m.attempt))
      (λ no. inr (λ (r : (p ≡ n) × (a ≡ m.attempt)). no r.0))
      (same_or_not p n)

  not_new : (p a : ℕ) (r : Restored) → h.attempts p a ≡ Some r → (p ≡ n) × (a ≡ m.attempt) → ⊥
  not_new p a r is both = let no : Some r ≡ None = sym is ∙ (ap₂ h.attempts both.0 both.1 ∙ fresh) in cc

  kept : (p a : ℕ) (r : Restored) → h.attempts p a ≡ Some r → attempts_then p a ≡ Some r
  kept p a r is = other_tried p a (not_new p a r is) ∙ is

  abbrev later : History
  later = record { accounts = h.accounts; attempts = attempts_then; answers = h.answers }

  pub restored_after : after h d ≡ later
  restored_after = λ z. record {
    accounts = λ p j u. account p j u (h.accounts p j u) z;
    attempts = attempts_then;
    answers = λ p c. answer p c (h.answers p c) z;
  }
    where
      still : (b : Bool) (a : Account) → (if b then entered_by d (move.Restored m) a else a) ≡ a
      still true a = refl
      still false a = refl

      account : (p j u : ℕ) (a : Account) → after_deed d p j u a ≡ a
      account p j u a =
          ap
          (λ q.
          declined_in (declines_of q p j && (u == 0))
          (if ((d.node == p) && (about q == j)) && (d.epoch == u) then entered_by d q a else a))
          k.deed.move_is
          ∙ still (((d.node == p) && (about (move.Restored m) == j)) && (d.epoch == u)) a

      answer : (p c : ℕ) (o : Option Froze) → answers_by d d.move p c o ≡ o
      answer p c o = ap (λ q. answers_by d q p c o) k.deed.move_is

  -- ---- the tunnel that came back

  abbrev u : Tunnel
  u = record (new_tunnel (kept_control moment m.tunnel)) {
    calls = calls_back node.end.role does.ground m.calls;
    recovery = Some does.recovery;
  }

  waits : is_current (mode_of u.recovery) ≡ false
  waits = ap (λ r. is_current (mode_of (Some r))) does.is.is ∙ waits_inactive (ByAttempt does.is.connection) does.is.waits

  unfinished : (c : ControlConnection) → is_waiting c ≡ true → is_some c.reset ≡ true → ⊥
  unfinished c waiting reset = true≢false (sym reset ∙ not_reset c waiting)

  recovered : IsRecovered v later n i (ByAttempt does.is.connection)
  recovered = (
    (m, ap (attempts_then n) does.is.local_is ∙ own_tried, refl, sym does.is.draw_is),
    λ reset. absurd (unfinished does.is.connection does.is.waits reset),
    inl does.is.remote_is,
  )

  live_then : LiveOk v later n i u
  live_then = record {
    local = refl;
    made = booked.made;
    peer = booked.peer;
    channel = λ current. absurd (true≢false (sym current ∙ waits));
    kept = λ current. absurd (true≢false (sym current ∙ waits));
    established = λ inactive. refl;
    some = λ inactive. booked.remote;
    knows = λ inactive. booked.knows;
    learned = λ inactive. booked.learned;
    recovery = λ r is.
        (let same : r ≡ ByAttempt does.is.connection = (let a : does.recovery ≡ r = cc in sym a ∙ does.is.is) in
        subst (IsRecovered v later n i) (sym same) recovered);
    unattempted = λ early. absurd (omega (arith, early));
    query = record { none = λ z. refl; fit = tt };
    calls = back_fits node.end.role does.ground m.calls calls_fit;
  }

  -- ---- its node

  ids_then : (y : End) → y.tunnel_ids ≡ after_id node.end.tunnel_ids → IdsOk later n y
  ids_then y is =
      let ids = both_ok.0.ids in
      let next : y.tunnel_ids.next ≡ m.attempt + 1 = ap (λ (s : Space). s.next) (is ∙ next_is node.end.tunnel_ids m.attempt does.local) in
      let was = drawn.0 in
      record {
        tunnels = λ j made. (let lt = ids.tunnels j made in omega (arith, lt, next, was));
        attempts = λ a there. ⊎_elim
            (λ (same : a ≡ m.attempt). omega (arith, same, next))
            (λ (o : a ≡ m.attempt → ⊥). (let lt = ids.attempts a (sym (ap is_some (other_tried n a (λ q. o q.1)))
            ∙ there) in omega (arith, lt, next, was)))
            (same_or_not a m.attempt);
        answers = λ c there. (let lt = ids.answers c there in omega (arith, lt, next, was));
        no_attempt = λ j made. other_tried n j (λ q. (let lt = ids.tunnels j made in let same = q.1 in omega (arith, lt, was, same)))
            ∙ ids.no_attempt j made;
        no_answer = ids.no_answer;
        one = λ a there. by_one a there (h.answers n a) refl;
      }
    where
      by_one : (a : ℕ) → is_some (attempts_then n a) ≡ true → (o : Option Froze) → h.answers n a ≡ o → o ≡ None
      by_one a there None is = refl
      by_one a there (Some f) is = absurd (⊎_elim
          (λ (same : a ≡ m.attempt). (let lt = both_ok.0.ids.answers a (ap is_some is) in
          let was = drawn.0 in omega (arith, lt, was, same)))
          (λ (o : a ≡ m.attempt → ⊥).
          let none = both_ok.0.ids.one a (sym (ap is_some (other_tried n a (λ q. o q.1))) ∙ there) in
          none-some f (sym none ∙ is))
          (same_or_not a m.attempt))

  other_ids : (p : ℕ) → (p ≡ n → ⊥) → (y : End) → IdsOk h p y → IdsOk later p y
  other_ids p o y ids = record {
    tunnels = ids.tunnels;
    attempts = λ a there. ids.attempts a (sym (ap is_some (other_tried p a (λ q. o q.0))) ∙ there);
    answers = ids.answers;
    no_attempt = λ j made. other_tried p j (λ q. o q.0) ∙ ids.no_attempt j made;
    no_answer = ids.no_answer;
    one = λ a there. ids.one a (sym (ap is_some (other_tried p a (λ q. o q.0))) ∙ there);
  }

  alike : CountAlike w v
  alike = base_alike w n node k.there x

  old_ok : EndOk v h n node.end
  old_ok = end_agrees w v h alike n node.end both_ok.0

  -- no attempt more is at the recovery of another tunnel
  of_others : (j : ℕ) → (j ≡ i → ⊥) → (a : ℕ) (r : Restored) → attempts_then n a ≡ Some r → r.tunnel.local ≡ j → h.attempts n a ≡ Some r
  of_others j o a r is local = ⊎_elim
      (λ (same : a ≡ m.attempt).
      let both : Some m ≡ Some r = sym own_tried ∙ (ap (attempts_then n) (sym same) ∙ is) in
      let one : m ≡ r = cc in
      absurd (o (sym local ∙ ap (λ (q : Restored). q.tunnel.local) (sym one))))
      (λ (other : a ≡ m.attempt → ⊥). sym (other_tried n a (λ q. other q.1)) ∙ is)
      (same_or_not a m.attempt)

  -- no other tunnel that came back has the same other end
  alone : (j : ℕ) (q : Tunnel) → (j ≡ i → ⊥) → at node.end.tunnels j ≡ Some q → u.control.peer ≡ q.control.peer
      → u.control.remote ≡ q.control.remote
      → (u.control.remote ≡ 0 → ⊥) → ⊥
  alone j q o was peers remotes some =
      let live = old_ok.live j q was in
      let inactive = k.back j q was in
      let nodes : (h.accounts n i 0).peer ≡ (h.accounts n j 0).peer = same_address _ _ (sym booked.peer ∙ (peers ∙ live.peer)) in
      o (sym (known_back w h k.holds n j q.control.remote live.made (live.some inactive) (live.knows inactive) (live.learned inactive))
      ∙ (sym (ap₂ (λ a b. (h.accounts a b 0).remote) nodes remotes)
      ∙ known_back w h k.holds n i m.tunnel.remote booked.made booked.remote booked.knows booked.learned))

  end_then : EndOk v later n x
  end_then = subst (EndOk v later n) (sym does.after)
      (put_end_apart v v h later n node.end _ old_ok i u (record { config = refl; role = refl; tunnels = refl }) (ids_then _ refl)
      (λ j q o was. live_tried v h attempts_then kept n j q (of_others j o) (old_ok.live j q was)) live_then alone)

  other_then : (p : ℕ) → (p ≡ n → ⊥) → (o : Option Node) → NodeOk v h p o → NodeOk v later p o
  other_then p o None ok = (ok.0, (λ a. other_tried p a (λ q. o q.0) ∙ ok.1.0 a, ok.1.1))
  other_then p o (Some b) ok = (
    record {
      node = ok.0.node;
      number = ok.0.number;
      lns = ok.0.lns;
      ids = other_ids p o b.end ok.0.ids;
      live = λ j q there. live_tried v h attempts_then kept p j q (λ a r is local. sym (other_tried p a (λ z. o z.0)) ∙ is)
          (ok.0.live j q there);
      apart = ok.0.apart;
    },
    book_tried v h attempts_then kept p b.checkpoint.book ok.1,
  )

  nodes_then : (p : ℕ) → NodeOk v later p (at v.nodes p)
  nodes_then p = ⊎_elim
      (λ (same : p ≡ n). subst (λ q. NodeOk v later q (at v.nodes q)) (sym same)
      (subst (NodeOk v later n) (sym (base_here w n node k.there x))
      (end_then, book_tried v h attempts_then kept n node.checkpoint.book both_ok.1)))
      (λ (o : p ≡ n → ⊥). subst (NodeOk v later p) (sym (base_other w n node k.there x p o))
      (other_then p o (at w.nodes p) (node_agrees w v h alike p (at w.nodes p) (at w.nodes p) (same_look (at w.nodes p))
      (k.holds.nodes p))))
      (same_or_not p n)

  -- ---- all of it

  grows : Grows w v h
  grows = record {
    epochs = λ p j. (let same = ap (λ (s : Standing). s.epoch) (alike.standings p j) in omega (arith, same));
    made = λ p j. (let same = ap (λ (s : Standing). s.made) (alike.standings p j) in omega (arith, same));
    makes = λ p c f is. alike.makes_as p c;
  }

  attempt_ok : AttemptOk later n m.attempt m
  attempt_ok =
      let first = k.first in
      let next = drawn.0 in
      let most = drawn.1 in
      let last = k.tunnel_ids.last in
      record {
        own = refl;
        some = omega (arith, first, next);
        fits = omega (arith, most, last);
        draw_fits = (let low = (draw_is node.end.recovery_ids m.draw does.draw).1 in let top = k.draws.last in omega (arith, low, top));
        booked = booked_tried v h attempts_then kept n m.tunnel booked;
      }

  holds_then : Holds v later
  holds_then = record {
    accounts = λ p j c. account_tried v h attempts_then kept p j c (h.accounts p j c)
        (account_grows w v h grows p j c (h.accounts p j c) (k.holds.accounts p j c));
    attempts = λ p a r is. ⊎_elim
        (λ (q : (p ≡ n) × (a ≡ m.attempt)).
        let both = sym own_tried ∙ (ap₂ attempts_then (sym q.0) (sym q.1) ∙ is) in
        let same : m ≡ r = cc in
        subst (λ z. AttemptOk later z a r) (sym q.0) (subst (λ z. AttemptOk later n z r) (sym q.1)
        (subst (AttemptOk later n m.attempt) same attempt_ok)))
        (λ o. attempt_tried v h attempts_then kept p a r (k.holds.attempts p a r (sym (other_tried p a o) ∙ is)))
        (either p a);
    answers = λ p c f is. answer_tried v h attempts_then kept p c f (answers_grow w v h grows p c f is (k.holds.answers p c f is));
    standings = λ p j. standing_tried v h attempts_then kept p j (standing_of v p j)
        (subst (StandingOk h p j) (sym (alike.standings p j)) (k.holds.standings p j));
    nodes = nodes_then;
    packets = packets_tried v h attempts_then kept w.packets (packets_grow w v h grows w.packets k.holds.packets);
  }

  restored_is : moves_on w n node (move.Restored m) x ≡ v
  unfolding moved
  restored_is = refl

  pub restored_holds : Holds (moves_on w n node (move.Restored m) x) (after h d)
  restored_holds = subst (λ q. Holds q (after h d)) (sym restored_is) (subst (Holds v) (sym restored_after) holds_then)

  pub restored_mail : (p : Packet) → PacketOk w h p → PacketOk (moves_on w n node (move.Restored m) x) (after h d) p
  restored_mail p ok =
      subst (λ q. PacketOk q (after h d) p) (sym restored_is) (subst (λ q. PacketOk v q p) (sym restored_after)
      (packets_tried v h attempts_then kept (p ∷ []) (packets_agree w v h alike (p ∷ []) (ok, tt))).0)

-- ---- any move of a start

-- none of its moves counts in what the world keeps of tunnels
pub starts_nothing : (b : Kept) (m : Move) → IsOfStart b m → (n : ℕ) (w : World) → moved n w m ≡ w
unfolding moved
starts_nothing b (move.Restored m) of n w = refl
starts_nothing b (move.Forgot m) of n w = refl
starts_nothing b (move.Negotiated m) of n w = refl
starts_nothing b (move.Counted m) of n w = refl
starts_nothing b (move.FrameSent m) of n w = refl
starts_nothing b m of n w = absurd of

module _ (w : World) (h : History) (n : ℕ) (node : Node) (moment : ℕ) (ev : Event) (x : End) (d : Deed) where
  module _ (m : Move) (k : IsStarted w h n node moment ev m x d) where
    old_end : EndOk w h n node.end
    old_end = (let both : EndOk w h n node.end × BookOk h n node.checkpoint.book = subst (NodeOk w h n) k.there (k.holds.nodes n) in both.0)

    world_is : moves_on w n node m x ≡ with_end w n node x
    world_is = starts_nothing node.checkpoint.book m k.of n (with_end w n node x)

    -- what is done with a link, and what is forgotten, is of no account
    by_end : after h d ≡ h → EndOk w h n x → Holds (moves_on w n node m x) (after h d)
    by_end same ok = subst (λ q. Holds q (after h d)) (sym world_is) (subst (Holds (with_end w n node x)) (sym same)
        (end_holds w h n node k.there k.holds x ok))

    by_mail : after h d ≡ h → (p : Packet) → PacketOk w h p → PacketOk (moves_on w n node m x) (after h d) p
    by_mail same p ok =
        subst (λ q. PacketOk q (after h d) p) (sym world_is) (subst (λ q. PacketOk (with_end w n node x) q p) (sym same)
        (packets_agree w (with_end w n node x) h (base_alike w n node k.there x) (p ∷ []) (ok, tt)).0)

  kept_end : (m : Move) → IsStarted w h n node moment ev m x d → x ≡ node.end → EndOk w h n x
  kept_end m k same = subst (EndOk w h n) (sym same) (old_end m k)

  still_forgot : (m : Move) → IsStarted w h n node moment ev m x d → after h d ≡ h → x ≡ node.end
      → Holds (moves_on w n node m x) (after h d)
  still_forgot m k same is = by_end m k same (kept_end m k is)

pub starting_moves_keep : StartingMovesKeep
starting_moves_keep (move.Restored m) w h n node moment ev x d k = restored_holds w h n node moment ev m x d k
starting_moves_keep (move.Forgot m) w h n node moment ev x d k =
    still_forgot w h n node moment ev x d (move.Forgot m) k (same_history h d (nothing_by d (move.Forgot m) tt k.deed.move_is)) k.does.after
starting_moves_keep (move.FrameSent m) w h n node moment ev x d k =
    still_forgot w h n node moment ev x d (move.FrameSent m) k (same_history h d
    (nothing_by d (move.FrameSent m) tt k.deed.move_is)) k.does.after
starting_moves_keep (move.Negotiated m) w h n node moment ev x d k =
    let c = k.does in
    by_end w h n node moment ev x d (move.Negotiated m) k (same_history h d (nothing_by d (move.Negotiated m) tt k.deed.move_is))
    (subst (EndOk w h n) (sym c.after)
    (call_end w h n node.end _ (old_end w h n node moment ev x d (move.Negotiated m) k) refl refl refl m.tunnel m.session c.tunnel c.call
    (with_link (turn_at c.calls.by c.calls.link).link c.call) c.there c.live c.up refl refl))
starting_moves_keep (move.Counted m) w h n node moment ev x d k =
    let c = k.does in
    by_end w h n node moment ev x d (move.Counted m) k (same_history h d (nothing_by d (move.Counted m) tt k.deed.move_is))
    (subst (EndOk w h n) (sym c.after)
    (call_end w h n node.end _ (old_end w h n node moment ev x d (move.Counted m) k) refl refl refl m.tunnel m.session c.tunnel c.call
    (counted c.call) c.there c.live c.up refl refl))
starting_moves_keep m w h n node moment ev x d k = absurd k.of

-- a packet stays as what was done says
pub started_mail : (m : Move) (w : World) (h : History) (n : ℕ) (node : Node) (moment : ℕ) (ev : Event) (x : End) (d : Deed)
    → IsStarted w h n node moment ev m x d
    → (p : Packet) → PacketOk w h p → PacketOk (moves_on w n node m x) (after h d) p
started_mail (move.Restored m) w h n node moment ev x d k = restored_mail w h n node moment ev m x d k
started_mail (move.Forgot m) w h n node moment ev x d k =
    by_mail w h n node moment ev x d (move.Forgot m) k (same_history h d (nothing_by d (move.Forgot m) tt k.deed.move_is))
started_mail (move.FrameSent m) w h n node moment ev x d k =
    by_mail w h n node moment ev x d (move.FrameSent m) k (same_history h d (nothing_by d (move.FrameSent m) tt k.deed.move_is))
started_mail (move.Negotiated m) w h n node moment ev x d k =
    by_mail w h n node moment ev x d (move.Negotiated m) k (same_history h d (nothing_by d (move.Negotiated m) tt k.deed.move_is))
started_mail (move.Counted m) w h n node moment ev x d k =
    by_mail w h n node moment ev x d (move.Counted m) k (same_history h d (nothing_by d (move.Counted m) tt k.deed.move_is))
started_mail m w h n node moment ev x d k = absurd k.of

-- no channel is given or takes a letter, and no answer is given
pub started_accounts : (m : Move) (w : World) (h : History) (n : ℕ) (node : Node) (moment : ℕ) (ev : Event) (x : End) (d : Deed)
    → IsStarted w h n node moment ev m x d
    → (after h d).accounts ≡ h.accounts
started_accounts (move.Restored m) w h n node moment ev x d k = ap (λ (q : History). q.accounts)
    (restored_after w h n node moment ev m x d k)
started_accounts (move.Forgot m) w h n node moment ev x d k = ap (λ (q : History). q.accounts)
    (same_history h d (nothing_by d (move.Forgot m) tt k.deed.move_is))
started_accounts (move.FrameSent m) w h n node moment ev x d k = ap (λ (q : History). q.accounts)
    (same_history h d (nothing_by d (move.FrameSent m) tt k.deed.move_is))
started_accounts (move.Negotiated m) w h n node moment ev x d k = ap (λ (q : History). q.accounts)
    (same_history h d (nothing_by d (move.Negotiated m) tt k.deed.move_is))
started_accounts (move.Counted m) w h n node moment ev x d k = ap (λ (q : History). q.accounts)
    (same_history h d (nothing_by d (move.Counted m) tt k.deed.move_is))
started_accounts m w h n node moment ev x d k = absurd k.of

-- ---- the end

abbrev AllBack : End → Type 0
AllBack e = (i : ℕ) (t : Tunnel) → at e.tunnels i ≡ Some t → is_current (mode_of t.recovery) ≡ false

put_back : (e x : End) (i : ℕ) (u : Tunnel) → x.tunnels ≡ put e.tunnels i u → is_current (mode_of u.recovery) ≡ false → AllBack e
    → AllBack x
put_back e x i u is own back j t there = ⊎_elim
    (λ (a : (j ≡ i) × (u ≡ t)). ap (λ (q : Tunnel). is_current (mode_of q.recovery)) (sym a.1) ∙ own)
    (λ (a : (j ≡ i → ⊥) × (at e.tunnels j ≡ Some t)). back j t a.1)
    (found_put e.tunnels i u j t (ap (λ ts. at ts j) (sym is) ∙ there))

-- each tunnel that is there waits still, and ids go on
pub started_back : (b : Kept) (m : Move) → IsOfStart b m → (e x : End) (moment : ℕ) (ev : Event) → Does e moment ev m x → AllBack e
    → AllBack x
started_back b (move.Restored m) of e x moment ev does back =
    put_back e x m.tunnel.local _ (ap (λ (q : End). q.tunnels) does.after)
    (ap (λ r. is_current (mode_of (Some r))) does.is.is ∙ waits_inactive (ByAttempt does.is.connection) does.is.waits) back
started_back b (move.Forgot m) of e x moment ev does back = subst AllBack (sym does.after) back
started_back b (move.FrameSent m) of e x moment ev does back = subst AllBack (sym does.after) back
started_back b (move.Negotiated m) of e x moment ev does back =
    put_back e x m.tunnel _ (ap (λ (q : End). q.tunnels) does.after) (back m.tunnel does.tunnel does.there) back
started_back b (move.Counted m) of e x moment ev does back =
    put_back e x m.tunnel _ (ap (λ (q : End). q.tunnels) does.after) (back m.tunnel does.tunnel does.there) back
started_back b m of e x moment ev does back = absurd of

pub started_next : (b : Kept) (m : Move) → IsOfStart b m → (e x : End) (moment : ℕ) (ev : Event) → Does e moment ev m x
    → 0 < e.tunnel_ids.next → 0 < x.tunnel_ids.next
started_next b (move.Restored m) of e x moment ev does some =
    let up = next_risen e.tunnel_ids in
    subst (λ (q : End). 0 < q.tunnel_ids.next) (sym does.after) (omega (arith, up, some))
started_next b (move.Forgot m) of e x moment ev does some = subst (λ (q : End). 0 < q.tunnel_ids.next) (sym does.after) some
started_next b (move.FrameSent m) of e x moment ev does some = subst (λ (q : End). 0 < q.tunnel_ids.next) (sym does.after) some
started_next b (move.Negotiated m) of e x moment ev does some = subst (λ (q : End). 0 < q.tunnel_ids.next) (sym does.after) some
started_next b (move.Counted m) of e x moment ev does some = subst (λ (q : End). 0 < q.tunnel_ids.next) (sym does.after) some
started_next b m of e x moment ev does some = absurd of
