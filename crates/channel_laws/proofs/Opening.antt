-- A tunnel is opened.
use Rattle.std.proofs.Common.{◌≡◌, ◌⊎◌, inl, ⊎_elim, ℕ, ◌+◌, ◌<◌, ◌≤◌, true, false, [], ◌∷◌, ◌++◌, refl, sym, ap, ◌∙◌, subst, Option, Some, None, arith}
use Rattle.std.proofs.lemmas.Bool.{true≢false}
use Rattle.std.proofs.lemmas.Option.{none-some}
use Rattle.std.specs.Prelude.{is_some}
use Rattle.id_source.specs.Spaces.{Space, after_id, draw_is, next_is}
use Rattle.id_table.specs.Ids.{at, at-none}
use Rattle.id_table.specs.Order.{same_or_not}
use Rattle.control_message.specs.declared.message.Message.TheVariants.{Sccrq}
use Rattle.tunnel_fsm.specs.declared.table.TunnelState.TheVariants.{WaitCtlReply}
use Rattle.end_names.specs.Names.{address_of, node_of}
use Rattle.end_model.specs.declared.event.Event.{Event}
use Rattle.end_model.specs.declared.moves.Opened.{Opened}
use Rattle.end_model.specs.declared.moves.Restored.{Restored}
use Rattle.end_model.specs.declared.moves.Move.TheVariants as move
use Rattle.end_model.specs.Tunnels.{Tunnel, new_tunnel}
use Rattle.end_model.specs.Channels.{letter_of}
use Rattle.end_model.specs.Messages.{opening_of}
use Rattle.end_model.specs.End.{End}
use Rattle.world_model.specs.declared.standing.Standing.{Standing}
use Rattle.world_model.specs.World.{World, Node, Sender, Deed, config_of, standing_of, epoch_of, no_standing, moved}
use Rattle.step_laws.specs.Callers.{WantsTunnel, LacWants}
use Rattle.step_laws.specs.Letters.{Letter}
use Rattle.step_laws.specs.Moves.{with_tunnel, with_letter, begun}
use Rattle.connection_laws.proofs.Written.{asks_short, opening_written, same_opening, node_again, node_fits}
use Rattle.channel_laws.specs.Accounts.{Part, Unmade, Opener, Acceptor, Renewed, Account, no_account, History, about, gives_also, entered_by, after}
use Rattle.channel_laws.specs.Facts.{IsMade, IsPart, AccountOk, ChannelOk, LiveOk, IdsOk, EndOk, BookOk, NodeOk, Holds}
use Rattle.channel_laws.specs.Steps.{with_end, moves_on, IsMoved}
use Rattle.channel_laws.proofs.Alone.{puts_so}
use Rattle.channel_laws.proofs.Ends.{Puts, put_end_apart}
use Rattle.channel_laws.proofs.Extending.{Extends, IsOnly}
use Rattle.channel_laws.proofs.Giving.{IsPlainDeed, becomes_so, only_so}
use Rattle.channel_laws.proofs.Later.{IsAlike, IsUnbooked, StaysJoined, live_later, holds_later}
use Rattle.channel_laws.proofs.Open.{end_alike, gives_is}
use Rattle.channel_laws.proofs.TakesLater.{deed_plain}

-- an id that wasn't drawn is that of no tunnel
pub undrawn : (w : World) (h : History) (n : ℕ) (e : End) → Holds w h → IdsOk h n e → (i : ℕ) → i ≡ e.tunnel_ids.next → h.accounts n i 0 ≡ no_account
undrawn w h n e holds ids i is = by (h.accounts n i 0).part refl
  where
    never : IsMade (h.accounts n i 0) → ⊥
    never made = let lt = ids.tunnels i made in omega (arith, lt, is)

    by : (p : Part) → (h.accounts n i 0).part ≡ p → h.accounts n i 0 ≡ no_account
    by Unmade own = subst (IsPart w h n i 0 (h.accounts n i 0)) own (holds.accounts n i 0).part
    by Opener own = absurd (never (λ none. let two : Opener ≡ Unmade = sym own ∙ none in absurd cc))
    by Acceptor own = absurd (never (λ none. let two : Acceptor ≡ Unmade = sym own ∙ none in absurd cc))
    by Renewed own = absurd (never (λ none. let two : Renewed ≡ Unmade = sym own ∙ none in absurd cc))

-- once it is drawn
module _ (w : World) (h k : History) (n i : ℕ) (only : IsOnly h k n i 0) (e x : End) (ids : IdsOk h n e) (drawn : i ≡ e.tunnel_ids.next) (next : x.tunnel_ids.next ≡ i + 1) where
  none_at : {X : Type 0} (o : Option X) → (is_some o ≡ true → ⊥) → o ≡ None
  none_at None no_ = refl
  none_at (Some y) no_ = absurd (no_ refl)

  no_attempt_yet : h.attempts n i ≡ None
  no_attempt_yet = none_at (h.attempts n i) (λ is. (let lt = ids.attempts i is in omega (arith, lt, drawn)))

  no_answer_yet : h.answers n i ≡ None
  no_answer_yet = none_at (h.answers n i) (λ is. (let lt = ids.answers i is in omega (arith, lt, drawn)))

  was_made : (j : ℕ) → (j ≡ i → ⊥) → IsMade (k.accounts n j 0) → IsMade (h.accounts n j 0)
  was_made j other was = subst IsMade (only.others n j 0 (λ (z : (n ≡ n) × (j ≡ i) × (◌≡◌ {A = ℕ} 0 0)). other z.1)) was

  pub drawn_ids : IdsOk k n x
  drawn_ids = record {
    tunnels = λ j was. ⊎_elim
        (λ (same : j ≡ i). omega (arith, same, next))
        (λ (other : j ≡ i → ⊥). (let lt = ids.tunnels j (was_made j other was) in omega (arith, lt, next, drawn)))
        (same_or_not j i);
    attempts = λ c is. (let lt = ids.attempts c (ap is_some (sym (only.attempts n c)) ∙ is) in omega (arith, lt, next, drawn));
    answers = λ c is. (let lt = ids.answers c (ap is_some (sym (only.answers n c)) ∙ is) in omega (arith, lt, next, drawn));
    no_attempt = λ j was. ⊎_elim
        (λ (same : j ≡ i). only.attempts n j ∙ (ap (h.attempts n) same ∙ no_attempt_yet))
        (λ (other : j ≡ i → ⊥). only.attempts n j ∙ ids.no_attempt j (was_made j other was))
        (same_or_not j i);
    no_answer = λ j was. ⊎_elim
        (λ (same : j ≡ i). only.answers n j ∙ (ap (h.answers n) same ∙ no_answer_yet))
        (λ (other : j ≡ i → ⊥). only.answers n j ∙ ids.no_answer j (was_made j other was))
        (same_or_not j i);
    one = λ c is. only.answers n c ∙ ids.one c (ap is_some (sym (only.attempts n c)) ∙ is);
  }

-- a tunnel is new: its account is the first one of its id
module _ (w : World) (h : History) (n : ℕ) (node : Node) (x : End) (d : Deed) (i : ℕ) (there : at w.nodes n ≡ Some node) (holds : Holds w h) (was : h.accounts n i 0 ≡ no_account) where
  -- it is in epoch 0
  pub new_standing : standing_of w n i ≡ no_standing
  new_standing = (holds.standings n i).none (ap (λ (a : Account). a.part) was)

  -- no attempt was made at its recovery
  pub never_attempted : (a : ℕ) (m : Restored) → h.attempts n a ≡ Some m → m.tunnel.local ≡ i → ⊥
  never_attempted a m is local =
      (holds.attempts n a m is).booked.made (ap (λ z. (h.accounts n z 0).part) local ∙ ap (λ (y : Account). y.part) was)

-- the account of a tunnel that begins
pub begins_from : (b : Account) → b.answer ≡ None → b.first_given ≡ 0 → b.first_taken ≡ 0 → (a : Account) → a ≡ no_account → Extends a b
begins_from b answer given taken a none = record {
  part = inl (ap (λ (y : Account). y.part) none);
  peer = λ made. absurd (made (ap (λ (y : Account). y.part) none));
  remote = inl (ap (λ (y : Account). y.closed) none, ap (λ (y : Account). y.remote) none);
  answer = answer ∙ ap (λ (y : Account). y.answer) (sym none);
  first_given = given ∙ ap (λ (y : Account). y.first_given) (sym none);
  first_taken = taken ∙ ap (λ (y : Account). y.first_taken) (sym none);
  closed = inl (ap (λ (y : Account). y.closed) none);
  given = (b.given, ap (λ (y : Account). y.given ++ b.given) (sym none));
  taken = (b.taken, ap (λ (y : Account). y.taken ++ b.taken) (sym none));
  declined = λ is. absurd (true≢false (sym is ∙ ap (λ (y : Account). y.declined) none));
}

-- the peer to which an end wants a tunnel is a node
wanted_node : (w : World) (h : History) (n : ℕ) (e : End) (ev : Event) (peer : ℕ) → EndOk w h n e → WantsTunnel e ev peer → (m : ℕ) × (m < 256) × (peer ≡ address_of m)
wanted_node w h n e ev peer ok (LacWants lac lns asks) = let node = ok.lns lac in (node.0, node.1, lns ∙ node.2)

-- ---- the move

module _ (w : World) (h : History) (n : ℕ) (node : Node) (sender : Option Sender) (moment : ℕ) (ev : Event) (m : Opened) (x : End) (d : Deed)
    (k : IsMoved w h n node sender moment ev (move.Opened m) x d) where
  abbrev i : ℕ
  i = m.tunnel

  abbrev e : End
  e = node.end

  -- the SCCRQ
  abbrev first : Letter
  first = record { tunnel = m.tunnel; place = m.given; session = 0; message = Sccrq (opening_of e.role (config_of n 0 None false) m.challenge None m.tunnel); hidden = None }

  abbrev b : Account
  b = record no_account { part = Opener; peer = node_of m.peer; given = first ∷ [] }

  abbrev u : Tunnel
  u = with_letter 0 (Sccrq (opening_of e.role e.config m.challenge None m.tunnel)) (new_tunnel (begun m.tunnel m.peer 0 WaitCtlReply moment m.challenge))

  abbrev v : World
  v = with_end w n node x

  abbrev g : History
  g = after h d

  both_ok : EndOk w h n node.end × BookOk h n node.checkpoint.book
  both_ok = subst (NodeOk w h n) k.there (k.holds.nodes n)

  drawn : (i ≡ e.tunnel_ids.next) × (i ≤ e.tunnel_ids.last)
  drawn = draw_is e.tunnel_ids m.tunnel k.does.drawn

  unmade : h.accounts n i 0 ≡ no_account
  unmade = undrawn w h n e k.holds both_ok.0.ids i drawn.0

  world_is : moves_on w n node (move.Opened m) x ≡ v
  unfolding moved
  world_is = refl

  alike : IsAlike w v n node x
  alike = end_alike w n node x k.there

  standing_is : standing_of v n i ≡ no_standing
  standing_is = alike.standings n i ∙ new_standing w h n node x d i k.there k.holds unmade

  epoch_is : epoch_of v n i ≡ 0
  epoch_is = ap (λ (s : Standing). s.epoch) standing_is

  deed_epoch : d.epoch ≡ 0
  deed_epoch = k.epoch ∙ (ap (λ q. epoch_of q n i) world_is ∙ epoch_is)

  plain : IsPlainDeed d
  plain = deed_plain d (move.Opened m) k.deed.move_is (λ p j. refl) (λ p q z. refl) (λ p q z. refl)

  becomes : entered_by d d.move (h.accounts n i 0) ≡ b
  becomes =
      ap (λ q. entered_by d q (h.accounts n i 0)) k.deed.move_is
      ∙ (ap (λ (a : Account). gives_also d (record a { part = Opener; peer = node_of m.peer })) unmade
      ∙ ap (λ ls. record b { given = ls }) (gives_is d n e.role sender (move.Opened m) k.deed))

  is : g.accounts n i 0 ≡ b
  is = becomes_so h d n i 0 b k.deed.node_is (ap about k.deed.move_is) deed_epoch becomes plain

  only : IsOnly h g n i 0
  only = only_so h d n i 0 b k.deed.node_is (ap about k.deed.move_is) deed_epoch becomes plain (begins_from b refl refl refl (h.accounts n i 0) unmade) (λ lt. absurd (omega (arith, lt)))

  peer_node : (q : ℕ) × (q < 256) × (m.peer ≡ address_of q)
  peer_node = wanted_node w h n e ev m.peer both_ok.0 k.does.wants

  some : 0 < i
  some = let f = k.fit.tables.first_tunnel in let is = drawn.0 in omega (arith, f, is)

  fits : i < 65536
  fits = let f = k.fit.tunnel_ids.last in let le = drawn.1 in omega (arith, f, le)

  account : AccountOk v g n i 0 b
  account = record {
    part = (
      refl,
      record {
        begins = record {
          first = first;
          rest = [];
          are = refl;
          opening = opening_of e.role (config_of n 0 None false) m.challenge None m.tunnel;
          says_so = refl;
          id = refl;
          later = tt;
        };
        none = λ unknown. inl refl;
        one_given = λ unknown. inl refl;
        some = λ known. absurd (known refl);
        part = λ known. absurd (known refl);
        peer = λ known. absurd (known refl);
        remote = λ known. absurd (known refl);
        joined = λ known. absurd (known refl);
        early = λ z. absurd (none-some 0 z);
      },
    );
    some = λ made. some;
    id = λ made. fits;
    node = λ made. both_ok.0.node;
    peer = node_fits m.peer;
    remote = omega arith;
    first_given = omega arith;
    first_taken = omega arith;
    from_none = λ zero. (refl, refl);
    spelled = (
      inl (record {
        written = (opening_written e.role (config_of n 0 None false) m.challenge None m.tunnel both_ok.0.node some fits (asks_short e.config.secret m.challenge k.does.asks) tt, refl);
        hides = tt;
        session = omega arith;
      }),
      tt,
    );
    told = (tt, tt);
    taken = λ place y found lt. let clash : ⊥ = cc in absurd clash;
    ignored = λ place y found le. let clash : ⊥ = cc in absurd clash;
    entered = λ made. omega arith;
    declined = λ z. absurd (true≢false (sym z));
  }

  channel : ChannelOk g.accounts n i 0 b u
  channel = record {
    peer = rw (peer_node.2, node_again peer_node.0 peer_node.1) refl;
    remote = refl;
    state = inl (refl, refl, refl, λ s c f. absurd (none-some c (sym (at-none s) ∙ f)));
    acked = 0;
    acked_is = refl;
    letters = ap (λ o. letter_of 0 (Sccrq o) ∷ []) (same_opening e.role e.config (config_of n 0 None false) m.challenge None m.tunnel both_ok.0.number);
    counted = refl;
    few = omega arith;
    outstanding = omega arith;
    taken = refl;
    were_acked = ((λ unknown. inl refl), λ known. absurd (known refl));
  }

  live : LiveOk v g n i u
  live = record {
    local = refl;
    made = λ none. (let two : Opener ≡ Unmade = ap (λ (y : Account). y.part) (sym is) ∙ none in absurd cc);
    peer = channel.peer ∙ ap (λ (y : Account). address_of y.peer) (sym is);
    channel = λ current. subst (λ z. ChannelOk g.accounts n i z (g.accounts n i z) u) (sym epoch_is) (subst (λ y. ChannelOk g.accounts n i 0 y u) (sym is) channel);
    kept = λ current. ap (λ (s : Standing). s.lost) standing_is;
    established = λ z. absurd (true≢false z);
    some = λ z. absurd (true≢false z);
    knows = λ z. absurd (true≢false z);
    learned = λ z. absurd (true≢false z);
    recovery = λ r none. absurd (none-some r none);
    unattempted = λ early a r found. never_attempted w h n node x d i k.there k.holds unmade a r (sym (only.attempts n a) ∙ found);
    calls = λ s c f. absurd (none-some c (sym (at-none s) ∙ f));
    query = record { none = λ z. refl; fit = tt };
  }

  puts : Puts node.end x i u
  puts = puts_so node.end x (record (with_tunnel node.end i u) { tunnel_ids = after_id node.end.tunnel_ids }) i u k.does.after (record { config = refl; role = refl; tunnels = refl })

  next : x.tunnel_ids.next ≡ i + 1
  next = ap (λ (y : End). y.tunnel_ids.next) k.does.after ∙ ap (λ (s : Space). s.next) (next_is e.tunnel_ids m.tunnel k.does.drawn)

  late : ◌≡◌ {A = ℕ} 0 0 → ((h.accounts n i 0).remote ≡ 0 → ⊥) → (g.accounts n i 0).closed ≡ Some 0 → (h.accounts n i 0).closed ≡ Some 0
  late z known = absurd (known (ap (λ (y : Account). y.remote) unmade))

  settled : ◌≡◌ {A = ℕ} 0 0 → (h.accounts n i 0).remote ≡ 0
      → (((g.accounts n i 0).remote ≡ 0) × ((g.accounts n i 0).closed ≡ Some 0 → (h.accounts n i 0).closed ≡ Some 0)) ⊎ IsUnbooked h n i node.checkpoint.book
  settled z none = inl (ap (λ (y : Account). y.remote) is, λ closed. absurd (none-some 0 (ap (λ (y : Account). y.closed) (sym is) ∙ closed)))

  joined : StaysJoined g n i (g.accounts n i 0)
  joined own named = let two : Opener ≡ Acceptor = ap (λ (y : Account). y.part) (sym is) ∙ own in absurd cc

  account_there : AccountOk v g n i 0 (g.accounts n i 0)
  account_there = subst (AccountOk v g n i 0) (sym is) account

  pub opened_keeps : Holds (moves_on w n node (move.Opened m) x) (after h d)
  opened_keeps = subst (λ q. Holds q (after h d)) (sym world_is)
      (holds_later w v h g n i 0 only k.holds node x alike late settled k.there joined account_there
      (put_end_apart w v h g n node.end x both_ok.0 i u puts (drawn_ids w h g n i only node.end x both_ok.0.ids drawn.0 next)
      (λ j q o was. live_later w v h g n i 0 only k.holds node x alike late settled k.there joined account_there n j (λ y. o y.1) q (both_ok.0.live j q was))
      live (λ j q o was peer remote known. absurd (known refl))))
