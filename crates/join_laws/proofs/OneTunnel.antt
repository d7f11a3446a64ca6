-- A world is joined again where one tunnel of one node changed, and calls of that node, and in the machine the tunnel of that name and
-- those calls alone.
-- What is said of the tunnel and of the node's calls is given; all else is as it was.
use Rattle.std.proofs.Common.{◌≡◌, ◌⊎◌, inl, inr, ⊎_elim, ℕ, ◌<◌, ◌≤◌, Bool, true, false, List, [], ◌++◌, length, refl, sym, ap, ap₂, ◌∙◌, subst, Option, Some, None, arith, append-nil}
use Rattle.std.proofs.lemmas.Bool.{true≢false}
use Rattle.std.proofs.lemmas.Option.{none-some}
use Rattle.std.specs.Prelude.{is_some, take, if◌then◌else◌, ◌==◌}
use Rattle.id_table.specs.Ids.{at}
use Rattle.id_table.specs.Order.{same_or_not}
use Rattle.session_book.specs.declared.record.BookTunnel.{BookTunnel}
use Rattle.session_book.specs.declared.record.BookCall.{BookCall}
use Rattle.session_book.specs.Books.{tunnel_at, call_at}
use Rattle.end_model.specs.declared.tunnel.Call.{Call}
use Rattle.end_model.specs.Tunnels.{Tunnel}
use Rattle.end_model.specs.End.{End}
use Rattle.world_model.specs.World.{World, Node, Checkpoint, birth_of, standing_of, epoch_of}
use Rattle.step_laws.specs.Letters.{Letter}
use Rattle.epoch_machine.specs.Worlds as machine
use Rattle.epoch_machine.specs.Worlds.{all_rules, empty_world}
use Rattle.epoch_machine.specs.Moves.{Move, goes_on, after}
use Rattle.epoch_machine.specs.Calls.{NoCall, lives}
use Rattle.session_laws.specs.Names.{name, name_of}
use Rattle.channel_laws.specs.Accounts.{Part, Unmade, Opener, Acceptor, Renewed, Account, heeded, History}
use Rattle.channel_laws.specs.Facts.{IsMade, partner_in}
use Rattle.recovery_laws.specs.Growing.{TakenStay}
use Rattle.recovery_laws.specs.Queries.{letters_in, questions_in, weigh}
use Rattle.recovery_laws.specs.Joined.{is_opener, learned_name, answer_name, is_used, phase_in, LearnedSo, ByLetter, ByRecord, TunnelJoined, AttemptJoined, AnswerJoined, CallJoined, BookCallJoined, HasNoCall, CallsJoined, NodeJoined, live_in, kept_in, AreJoined}
use Rattle.node_laws.specs.Nodes.{HoldsNode}
use Rattle.session_laws.proofs.Names.{same_name}
use Rattle.session_laws.proofs.Ground.{run_on}
use Rattle.join_laws.proofs.Bounds.{Bounded, bounded, booked_bound}

-- ---- what stays

-- of a name of the machine's tunnels
pub record NameStays (m z : machine.World) (y : ℕ) : Type 0 where
  pub opener : z.tunnels.opener y ≡ m.tunnels.opener y
  pub node : z.tunnels.node y ≡ m.tunnels.node y
  pub peer : z.tunnels.peer y ≡ m.tunnels.peer y
  pub learned : z.tunnels.learned y ≡ m.tunnels.learned y
  pub phase : z.tunnels.phase y ≡ m.tunnels.phase y
  pub booked : z.tunnels.booked y ≡ m.tunnels.booked y
  pub entered : z.tunnels.entered y ≡ m.tunnels.entered y
  pub entered_by : (e : ℕ) → z.tunnels.entered_by y e ≡ m.tunnels.entered_by y e
  pub sent : (e : ℕ) → z.channels.sent y e ≡ m.channels.sent y e
  pub taken : (e : ℕ) → z.channels.taken y e ≡ m.channels.taken y e
  pub refused : z.channels.refused y ≡ m.channels.refused y

-- of a name of its calls
pub record CallStays (m z : machine.World) (y : ℕ) : Type 0 where
  pub drawn : z.calls.drawn y ≡ m.calls.drawn y
  pub tunnel : z.calls.tunnel y ≡ m.calls.tunnel y
  pub state : z.calls.state y ≡ m.calls.state y
  pub remote : z.calls.remote y ≡ m.calls.remote y
  pub booked : z.calls.booked y ≡ m.calls.booked y

-- of a node that doesn't make the move: the world keeps other things of its tunnels, and none of these
abbrev pub SameNode : Option Node → Option Node → Type 0
SameNode None None = Unit {0}
SameNode None (Some b) = ⊥
SameNode (Some a) None = ⊥
SameNode (Some a) (Some b) = (b.end ≡ a.end) × (b.checkpoint ≡ a.checkpoint) × (b.up ≡ a.up)

pub same_node : (o : Option Node) → SameNode o o
same_node None = tt
same_node (Some a) = (refl, refl, refl)

-- of an account, to which letters may be given: an acceptor stays one, of the same opener
pub record Grown (a b : Account) : Type 0 where
  pub given : (more : List Letter) × (b.given ≡ a.given ++ more)
  pub acceptor : a.part ≡ Acceptor → (b.part ≡ Acceptor) × (b.peer ≡ a.peer) × (b.remote ≡ a.remote)

-- ---- one tunnel

pub record OneTunnel (v u : World) (h g : History) (m z : machine.World) (n i : ℕ) (a b : Node) : Type 0 where
  pub node_fits : n < 256
  pub id_fits : i < 65536
  -- the node before and after
  pub was : at v.nodes n ≡ Some a
  pub is : at u.nodes n ≡ Some b
  pub up : b.up ≡ a.up
  pub others : (q : ℕ) → (q ≡ n → ⊥) → SameNode (at v.nodes q) (at u.nodes q)
  pub nodes : (q : ℕ) (c : Node) → (q ≡ n → ⊥) → at v.nodes q ≡ Some c → HoldsNode c
  -- its other tunnels, and whether its book has them
  pub tunnels : (j : ℕ) → (j ≡ i → ⊥) → at b.end.tunnels j ≡ at a.end.tunnels j
  pub kept : (j : ℕ) → (j ≡ i → ⊥) → is_some (tunnel_at b.checkpoint.book j) ≡ is_some (tunnel_at a.checkpoint.book j)
  -- epochs, as the world counts them
  pub entered : (q j : ℕ) → ((q ≡ n) × (j ≡ i) → ⊥) → epoch_of u q j ≡ epoch_of v q j
  pub epochs : (q j : ℕ) → q < 256 → j < 65536 → z.tunnels.epochs (name q j) ≡ (standing_of u q j).made
  -- what was done
  pub accounts : (q j e : ℕ) → ((q ≡ n) × (j ≡ i) → ⊥) → g.accounts q j e ≡ h.accounts q j e
  pub grown : (e : ℕ) → Grown (h.accounts n i e) (g.accounts n i e)
  pub within : (q j e : ℕ) → heeded (h.accounts q j e) ≤ length (partner_in h.accounts e (h.accounts q j e)).given
  -- the machine's tunnels
  pub stays : (y : ℕ) → (y ≡ name n i → ⊥) → NameStays m z y
  pub here : TunnelJoined z u g n i (at b.end.tunnels i) (tunnel_at b.checkpoint.book i)
  pub drawn : (q c : ℕ) → q < 256 → c < 65536 → z.tunnels.drawn (name q c) ≡ is_used g q c
  pub attempts : (q c : ℕ) → q < 256 → c < 65536 → AttemptJoined z q c (g.attempts q c)
  pub answers : (q c : ℕ) → q < 256 → c < 65536 → AnswerJoined z u g q c (g.answers q c)
  pub ups : (q : ℕ) → z.tunnels.up q ≡ m.tunnels.up q
  -- and its calls
  pub calls : CallsJoined z g n b
  pub calls_stay : (q s : ℕ) → (q ≡ n → ⊥) → q < 256 → s < 65536 → CallStays m z (name q s)
  pub births : (z.calls.births ≡ u.born) × ((q s : ℕ) → q < 256 → s < 65536 → z.calls.birth (name q s) ≡ birth_of u q s)

-- the same tunnel, or another one
pub this_or_not : (q j n i : ℕ) → ((q ≡ n) × (j ≡ i)) ⊎ ((q ≡ n) × (j ≡ i) → ⊥)
this_or_not q j n i = ⊎_elim
    (λ (p : q ≡ n). ⊎_elim (λ (r : j ≡ i). inl (p, r)) (λ no. inr (λ (k : (q ≡ n) × (j ≡ i)). no k.1)) (same_or_not j i))
    (λ no. inr (λ (k : (q ≡ n) × (j ≡ i)). no k.0))
    (same_or_not q n)

module _ (stay : TakenStay) (v u : World) (h g : History) (m z : machine.World) (n i : ℕ) (a b : Node) (joined : AreJoined v h m)
    (o : OneTunnel v u h g m z n i a b) where
  -- ---- what is known of all accounts

  given_on : (q j e : ℕ) → (more : List Letter) × ((g.accounts q j e).given ≡ (h.accounts q j e).given ++ more)
  given_on q j e = ⊎_elim
      (λ (p : (q ≡ n) × (j ≡ i)).
      subst (λ x. (more : List Letter) × ((g.accounts x j e).given ≡ (h.accounts x j e).given ++ more)) (sym p.0)
      (subst (λ y. (more : List Letter) × ((g.accounts n y e).given ≡ (h.accounts n y e).given ++ more)) (sym p.1) (o.grown e).given))
      (λ apart. ([], ap (λ (x : Account). x.given) (o.accounts q j e apart) ∙ sym (append-nil (h.accounts q j e).given)))
      (this_or_not q j n i)

  acceptor_on : (q j : ℕ) → (h.accounts q j 0).part ≡ Acceptor
      → ((g.accounts q j 0).part ≡ Acceptor) × ((g.accounts q j 0).peer ≡ (h.accounts q j 0).peer)
      × ((g.accounts q j 0).remote ≡ (h.accounts q j 0).remote)
  acceptor_on q j is = ⊎_elim
      (λ (p : (q ≡ n) × (j ≡ i)). rw (p.0, p.1) ((o.grown 0).acceptor (rw (p.0, p.1) at is)))
      (λ apart.
      let same = o.accounts q j 0 apart in
      (ap (λ (x : Account). x.part) same ∙ is, ap (λ (x : Account). x.peer) same, ap (λ (x : Account). x.remote) same))
      (this_or_not q j n i)

  -- ---- other tunnels

  module _ (q j : ℕ) (qfits : q < 256) (jfits : j < 65536) (apart : (q ≡ n) × (j ≡ i) → ⊥) where
    abbrev y : ℕ
    y = name q j

    other : y ≡ name n i → ⊥
    other same = apart (same_name q j n i jfits o.id_fits same)

    s : NameStays m z y
    s = o.stays y other

    acc : (e : ℕ) → g.accounts q j e ≡ h.accounts q j e
    acc e = o.accounts q j e apart

    learned_on : (x : ℕ) → LearnedSo h.accounts q j x → LearnedSo g.accounts q j x
    learned_on x (ByLetter is) = ByLetter (is ∙ ap learned_name (sym (acc 0)))
    learned_on x (ByRecord c part none some is accepts back own) =
        let p : (g.accounts q j 0).peer ≡ (h.accounts q j 0).peer = ap (λ (k : Account). k.peer) (acc 0) in
        let k = acceptor_on (h.accounts q j 0).peer c accepts in
        ByRecord c (ap (λ (k : Account). k.part) (acc 0) ∙ part) (ap (λ (k : Account). k.remote) (acc 0) ∙ none) some
        (is ∙ ap (λ r. name r c) (sym p))
        (ap (λ r. (g.accounts r c 0).part) p ∙ k.0)
        (ap (λ r. (g.accounts r c 0).peer) p ∙ (k.1 ∙ back))
        (ap (λ r. (g.accounts r c 0).remote) p ∙ (k.2 ∙ own))

    taken_on : (e : ℕ) → weigh (take (heeded (h.accounts q j e)) (partner_in h.accounts e (h.accounts q j e)).given)
        ≡ weigh (take (heeded (g.accounts q j e)) (partner_in g.accounts e (g.accounts q j e)).given)
    taken_on e =
        let c = h.accounts q j e in
        let more = given_on c.peer c.remote e in
        sym (ap (λ (x : Account). weigh (take (heeded x) (partner_in g.accounts e x).given)) (acc e)
        ∙ (ap (λ ls. weigh (take (heeded c) ls)) more.1 ∙ stay (partner_in h.accounts e c).given more.0 (heeded c) (o.within q j e)))

    live_as : live_in (at u.nodes q) j ≡ live_in (at v.nodes q) j
    live_as = ⊎_elim
        (λ (p : q ≡ n).
        ap (λ x. live_in (at u.nodes x) j) p ∙ (ap (λ k. live_in k j) o.is ∙ (o.tunnels j (λ k. apart (p, k))
        ∙ sym (ap (λ x. live_in (at v.nodes x) j) p ∙ ap (λ k. live_in k j) o.was))))
        (λ no. by (at v.nodes q) (at u.nodes q) (o.others q no))
        (same_or_not q n)
      where
        by : (x y : Option Node) → SameNode x y → live_in y j ≡ live_in x j
        by None None k = refl
        by None (Some d) k = absurd k
        by (Some c) None k = absurd k
        by (Some c) (Some d) k = ap (λ (x : End). at x.tunnels j) k.0

    kept_as : is_some (kept_in (at u.nodes q) j) ≡ is_some (kept_in (at v.nodes q) j)
    kept_as = ⊎_elim
        (λ (p : q ≡ n).
        ap (λ x. is_some (kept_in (at u.nodes x) j)) p ∙ (ap (λ k. is_some (kept_in k j)) o.is ∙ (o.kept j (λ k. apart (p, k))
        ∙ sym (ap (λ x. is_some (kept_in (at v.nodes x) j)) p ∙ ap (λ k. is_some (kept_in k j)) o.was))))
        (λ no. by (at v.nodes q) (at u.nodes q) (o.others q no))
        (same_or_not q n)
      where
        by : (x y : Option Node) → SameNode x y → is_some (kept_in y j) ≡ is_some (kept_in x j)
        by None None k = refl
        by None (Some d) k = absurd k
        by (Some c) None k = absurd k
        by (Some c) (Some d) k = ap (λ (x : Checkpoint). is_some (tunnel_at x.book j)) k.1

    other_tunnel : TunnelJoined z u g q j (live_in (at u.nodes q) j) (kept_in (at u.nodes q) j)
    other_tunnel =
        let t = joined.tunnels q j qfits jfits in
        let made : IsMade (g.accounts q j 0) → IsMade (h.accounts q j 0) = λ some none. some (ap (λ (k : Account). k.part) (acc 0)
        ∙ none) in
        record {
          opener = s.opener ∙ (t.opener ∙ ap (λ (k : Account). is_opener k.part) (sym (acc 0)));
          node = λ some. s.node ∙ t.node (made some);
          peer = λ some. s.peer ∙ (t.peer (made some) ∙ ap (λ (k : Account). k.peer) (sym (acc 0)));
          learned = subst (LearnedSo g.accounts q j) (sym s.learned) (learned_on (m.tunnels.learned y) t.learned);
          phase = s.phase ∙ (t.phase ∙ ap (phase_in q) (sym live_as));
          booked = s.booked ∙ (t.booked ∙ sym kept_as);
          entered = s.entered ∙ (t.entered ∙ sym (o.entered q j apart));
          epochs = o.epochs q j qfits jfits;
          entered_by = λ e. s.entered_by e ∙ (t.entered_by e ∙ ap (λ (k : Account). answer_name k.answer) (sym (acc e)));
          sent = λ e. s.sent e ∙ (t.sent e ∙ ap (λ (k : Account). letters_in q k.peer (questions_in k.taken) k.given) (sym (acc e)));
          taken = λ e. s.taken e ∙ (t.taken e ∙ taken_on e);
          refused = s.refused ∙ (t.refused ∙ ap (λ (k : Account). k.declined) (sym (acc 0)));
        }

  this_tunnel : TunnelJoined z u g n i (live_in (at u.nodes n) i) (kept_in (at u.nodes n) i)
  this_tunnel =
      subst (λ (k : Option Node). TunnelJoined z u g n i (live_in k i) (kept_in k i)) (sym o.is) o.here

  all_tunnels : (q j : ℕ) → q < 256 → j < 65536 → TunnelJoined z u g q j (live_in (at u.nodes q) j) (kept_in (at u.nodes q) j)
  all_tunnels q j qfits jfits = ⊎_elim
      (λ (p : (q ≡ n) × (j ≡ i)). rw (p.0, p.1) this_tunnel)
      (λ apart. other_tunnel q j qfits jfits apart)
      (this_or_not q j n i)

  -- ---- the calls of other nodes

  module _ (q : ℕ) (qfits : q < 256) (no : q ≡ n → ⊥) (c : Node) (there : at v.nodes q ≡ Some c) (k : CallsJoined m h q c) where
    held : HoldsNode c
    held = o.nodes q c no there

    bounds : Bounded c.end
    bounds = bounded c held

    peers : (j : ℕ) → (g.accounts q j 0).peer ≡ (h.accounts q j 0).peer
    peers j = ap (λ (x : Account). x.peer) (o.accounts q j 0 (λ p. no p.0))

    -- one that lives is in no tunnel of the node that makes the move
    not_there : (s : ℕ) → s < 65536 → lives (m.calls.state (name q s)) ≡ true → m.calls.tunnel (name q s) ≡ name n i → ⊥
    not_there s sfits live same =
        let none : HasNoCall c s = λ j t at_t. by j t at_t (at t.calls s) refl in
        true≢false (sym live ∙ ap lives (k.gone s sfits none))
      where
        by : (j : ℕ) (t : Tunnel) → at c.end.tunnels j ≡ Some t → (f : Option Call) → at t.calls s ≡ f → f ≡ None
        by j t at_t None is = refl
        by j t at_t (Some d) is =
            absurd (no (same_name q j n i (bounds.tunnels j t at_t) o.id_fits (sym (k.live j t at_t s d is).tunnel ∙ same)).0)

    home_on : (s : ℕ) → s < 65536 → lives (z.calls.state (name q s)) ≡ true → z.tunnels.node (z.calls.tunnel (name q s)) ≡ q
    home_on s sfits live =
        let e = o.calls_stay q s no qfits sfits in
        let was : lives (m.calls.state (name q s)) ≡ true = ap lives (sym e.state) ∙ live in
        ap (λ y. z.tunnels.node y) e.tunnel
        ∙ ((o.stays (m.calls.tunnel (name q s)) (not_there s sfits was)).node ∙ k.home s sfits was)

    calls_on : (d : Node) → d.end ≡ c.end → d.checkpoint ≡ c.checkpoint → CallsJoined z g q d
    calls_on d end checkpoint = record {
      live = λ j t at_t s x at_x.
          (let old = ap (λ (e : End). at e.tunnels j) (sym end) ∙ at_t in
          let p = k.live j t old s x at_x in
          let e = o.calls_stay q s no qfits (bounds.sessions j t old s x at_x) in
          record {
            some = p.some;
            state = e.state ∙ p.state;
            tunnel = e.tunnel ∙ p.tunnel;
            remote = e.remote ∙ (p.remote ∙ ap (λ r. name_of r x.remote) (sym (peers j)));
          });
      gone = λ s fits none.
          (o.calls_stay q s no qfits fits).state
          ∙ k.gone s fits (λ j t at_t. none j t (ap (λ (e : End). at e.tunnels j) end ∙ at_t));
      kept = λ s x is.
          (let old = ap (λ (e : Checkpoint). call_at e.book s) (sym checkpoint) ∙ is in
          let p = k.kept s x old in
          let e = o.calls_stay q s no qfits (booked_bound c held s x old) in
          record {
            tunnel = e.tunnel ∙ p.tunnel;
            remote = e.remote ∙ (p.remote ∙ ap (λ r. name_of r x.remote) (sym (peers x.tunnel)));
          });
      booked = λ s fits. (o.calls_stay q s no qfits fits).booked
          ∙ (k.booked s fits ∙ ap (λ (e : Checkpoint). is_some (call_at e.book s)) (sym checkpoint));
      home = home_on;
      undrawn = λ s le fits. (o.calls_stay q s no qfits fits).drawn ∙ k.undrawn s (subst (λ (e : End). e.session_ids.next ≤ s) end le) fits;
      zero = (o.calls_stay q 0 no qfits (omega arith)).drawn ∙ k.zero;
    }

  other_node : (q : ℕ) → q < 256 → (q ≡ n → ⊥) → (x y : Option Node) → at v.nodes q ≡ x → SameNode x y → NodeJoined m h q x
      → NodeJoined z g q y
  other_node q qfits off None None is same j = (
    o.ups q ∙ j.0,
    λ s fits. (let e = o.calls_stay q s off qfits fits in (
      e.state ∙ (j.1 s fits).0,
      e.drawn
          ∙ (j.1 s fits).1,
      e.booked ∙ (j.1 s fits).2,
    )),
  )
  other_node q qfits off None (Some d) is same j = absurd same
  other_node q qfits off (Some c) None is same j = absurd same
  other_node q qfits off (Some c) (Some d) is same j = (o.ups q ∙ (j.0 ∙ sym same.2), calls_on q qfits off c is j.1 d same.0 same.1)

  this_node : NodeJoined z g n (at u.nodes n)
  this_node =
      let old : NodeJoined m h n (Some a) = subst (NodeJoined m h n) o.was (joined.nodes n o.node_fits) in
      subst (NodeJoined z g n) (sym o.is) (o.ups n ∙ (old.0 ∙ sym o.up), o.calls)

  all_nodes : (q : ℕ) → q < 256 → NodeJoined z g q (at u.nodes q)
  all_nodes q qfits = ⊎_elim
      (λ (p : q ≡ n). subst (λ x. NodeJoined z g x (at u.nodes x)) (sym p) this_node)
      (λ apart. other_node q qfits apart (at v.nodes q) (at u.nodes q) refl (o.others q apart) (joined.nodes q qfits))
      (same_or_not q n)

  -- ---- the whole

  pub one_joined : (js : List Move) → z ≡ goes_on all_rules m js → AreJoined u g z
  one_joined js goes = record {
    drawn = o.drawn;
    tunnels = all_tunnels;
    attempts = o.attempts;
    answers = o.answers;
    nodes = all_nodes;
    births = o.births;
    moves = joined.moves ++ js;
    run = goes ∙ (ap (λ x. goes_on all_rules x js) joined.run ∙ sym (run_on all_rules empty_world joined.moves js));
  }
