-- The world in which a node is up again is joined: with the tunnels that came back, their calls, and the book that the start left.
use Rattle.std.proofs.Common.{◌≡◌, ⊎_elim, ℕ, ◌<◌, true, false, List, ◌∷◌, ◌++◌, refl, sym, ap, ap₂, ◌∙◌, subst, Option, Some, None, arith}
use Rattle.std.proofs.lemmas.Bool.{true≢false}
use Rattle.std.proofs.lemmas.Option.{none-some}
use Rattle.std.specs.Prelude.{is_some, ◌&&◌, if◌then◌else◌}
use Rattle.id_table.specs.Ids.{at}
use Rattle.id_table.specs.Order.{at_new, at_other, same_or_not}
use Rattle.call_fsm.specs.declared.table.CallState.TheVariants.{Established}
use Rattle.session_book.specs.declared.record.BookTunnel.{BookTunnel}
use Rattle.session_book.specs.declared.record.BookCall.{BookCall}
use Rattle.session_book.specs.Books.{Kept, tunnel_at, call_at}
use Rattle.end_names.specs.Names.{node_of}
use Rattle.end_model.specs.declared.moves.Froze.{Froze}
use Rattle.end_model.specs.declared.tunnel.Call.{Call}
use Rattle.end_model.specs.Access.{Access}
use Rattle.end_model.specs.Calls.{is_up}
use Rattle.end_model.specs.Tunnels.{Tunnel}
use Rattle.end_model.specs.End.{End}
use Rattle.world_model.specs.declared.standing.Standing.{Standing}
use Rattle.world_model.specs.World.{World, Node, Checkpoint, with_node, birth_in, birth_of}
use Rattle.book_laws.specs.Books.{booked_call, record_in, call_record, Mirrors, Fits}
use Rattle.book_laws.specs.Starts.{AreUp, ComesBack}
use Rattle.node_laws.specs.Nodes.{HoldsNode}
use Rattle.epoch_machine.specs.Worlds as machine
use Rattle.epoch_machine.specs.Worlds.{all_rules, empty_world}
use Rattle.epoch_machine.specs.Moves as moves
use Rattle.epoch_machine.specs.Moves.{step, goes_on}
use Rattle.epoch_machine.specs.Channels.{Channels}
use Rattle.epoch_machine.specs.Calls.{NoCall, Up, lives}
use Rattle.session_laws.specs.Names.{name, state_of}
use Rattle.session_laws.proofs.Ground.{run_on}
use Rattle.channel_laws.specs.Accounts.{History}
use Rattle.channel_laws.specs.Facts.{NodesHold, Holds}
use Rattle.channel_laws.proofs.Agreeing.{Agree, put_agrees}
use Rattle.recovery_laws.specs.Joined.{LearnedSo, is_used, phase_in, TunnelJoined, AnswerJoined, CallJoined, BookCallJoined, HasNoCall}
use Rattle.recovery_laws.specs.Joined.{CallsJoined, NodeJoined, live_in, kept_in, AreJoined}
use Rattle.join_laws.proofs.Bounds.{bounded}
use Rattle.line_join_laws.proofs.Back.{AmidBack}
use Rattle.line_join_laws.proofs.Begun.{risen, begun_booked, begun_other, begun_none, begun_calls, begun_states, begun_books, calls_were}
use Rattle.line_join_laws.proofs.Begun.{home_fits, made_of, node_fits, SameRoots, roots_stay, begun_phase, begun_up, told_here}
use Rattle.line_join_laws.proofs.Cleared.{clears}
use Rattle.line_join_laws.proofs.Lost.{lost}

module _ (w : World) (h : History) (nodes : NodesHold w) (holds : Holds w h) (m : machine.World) (joined : AreJoined w h m) (n : ℕ)
    (old : Node)
    (was : at w.nodes n ≡ Some old) (down : old.up ≡ false) (e : End) (cj : Checkpoint) (back : ComesBack e old.checkpoint.book cj.book)
    (mirrors : Mirrors e cj.book) (fit : Fits e) (ups : AreUp e) (access : Option Access) (v : World) (g : History)
    (a : AmidBack n (goes_on all_rules (risen m n) (clears (lost n cj.book old.checkpoint.book.tunnels))) cj.book old.checkpoint h
    old.end.session_ids.next v g) (end_is : a.node.end ≡ e) where
  abbrev j : Kept
  j = cj.book

  abbrev m1 : machine.World
  m1 = goes_on all_rules (risen m n) (clears (lost n cj.book old.checkpoint.book.tunnels))

  abbrev z : machine.World
  z = goes_on all_rules m1 a.moves

  abbrev left : Node
  left = record old { end = e; up = true; access = access; checkpoint = cj }

  abbrev u : World
  u = with_node w n left

  -- what was done, as far as channels and answers are as before
  abbrev h2 : History
  h2 = record { accounts = h.accounts; attempts = g.attempts; answers = g.answers }

  same_done : h2 ≡ g
  same_done = sym (λ i. record { accounts = a.accounts i; attempts = g.attempts; answers = g.answers })

  roots : SameRoots w h nodes holds m joined n old was down e j back z
  roots = roots_stay w h nodes holds m joined n old was down e j back z a.stays

  risen_up : (z.tunnels.up n ≡ true) × ((q : ℕ) → (q ≡ n → ⊥) → z.tunnels.up q ≡ m.tunnels.up q)
  risen_up = begun_up w h nodes holds m joined n old was down e j back z a.stays

  fits_n : n < 256
  fits_n = node_fits w h nodes holds m joined n old was down e j back

  here : at u.nodes n ≡ Some left
  here = at_new w.nodes n left

  there : (p : ℕ) → (p ≡ n → ⊥) → at u.nodes p ≡ at w.nodes p
  there p o = at_other w.nodes n left p o

  agrees : Agree w u
  agrees = put_agrees w n old left was refl refl

  births_same : (p s : ℕ) → birth_of u p s ≡ birth_of w p s
  unfolding birth_of
  births_same p s = ⊎_elim
      (λ (eq : p ≡ n).
      ap (λ y. birth_in (at u.nodes y) s) eq
      ∙ (ap (λ o. birth_in o s) here ∙ sym (ap (λ y. birth_in (at w.nodes y) s) eq ∙ ap (λ o. birth_in o s) was)))
      (λ o. ap (λ q. birth_in q s) (there p o))
      (same_or_not p n)

  -- ---- tunnels

  tunnel_as : (p i : ℕ) (o o2 : Option Tunnel) (b b2 : Option BookTunnel) → TunnelJoined m w h p i o b
      → z.tunnels.phase (name p i) ≡ phase_in p o2 → z.tunnels.booked (name p i) ≡ is_some b2 → TunnelJoined z u h2 p i o2 b2
  tunnel_as p i o o2 b b2 t phase booked =
      let y = name p i in
      let s = ap (λ (x : Standing). x.epoch) (agrees.standings p i) in
      let c = ap (λ (x : Standing). x.made) (agrees.standings p i) in
      record {
        opener = ap (λ f. f y) roots.opener ∙ t.opener;
        node = λ made. ap (λ f. f y) roots.node ∙ t.node made;
        peer = λ made. ap (λ f. f y) roots.peer ∙ t.peer made;
        learned = learned_as (ap (λ f. f y) roots.learned) t.learned;
        phase = phase;
        booked = booked;
        entered = ap (λ f. f y) roots.entered ∙ (t.entered ∙ sym s);
        epochs = ap (λ f. f y) roots.epochs ∙ (t.epochs ∙ sym c);
        entered_by = λ x. ap (λ f. f y x) roots.entered_by ∙ t.entered_by x;
        sent = λ x. ap (λ (f : Channels). f.sent y x) roots.channels ∙ t.sent x;
        taken = λ x. ap (λ (f : Channels). f.taken y x) roots.channels ∙ t.taken x;
        refused = ap (λ (f : Channels). f.refused y) roots.channels ∙ t.refused;
      }
    where
      learned_as : {x y : ℕ} → x ≡ y → LearnedSo h.accounts p i y → LearnedSo h.accounts p i x
      learned_as same l = subst (LearnedSo h.accounts p i) (sym same) l

  all_tunnels : (p i : ℕ) → p < 256 → i < 65536 → TunnelJoined z u h2 p i (live_in (at u.nodes p) i) (kept_in (at u.nodes p) i)
  all_tunnels p i lt fits = ⊎_elim
      (λ (eq : p ≡ n).
      subst (λ y. TunnelJoined z u h2 y i (live_in (at u.nodes y) i) (kept_in (at u.nodes y) i)) (sym eq)
      (subst (λ o. TunnelJoined z u h2 n i (live_in o i) (kept_in o i)) (sym here)
      (tunnel_as n i (at old.end.tunnels i) (at e.tunnels i) (tunnel_at old.checkpoint.book i) (tunnel_at j i)
      (told_here w h nodes holds m joined n old was down e j back i fits)
      (a.phase i fits ∙ ap (λ (x : End). phase_in n (at x.tunnels i)) end_is)
      (ap (λ f. f (name n i)) a.stays.booked ∙ begun_booked w h nodes holds m joined n old was down e j back i fits))))
      (λ (o : p ≡ n → ⊥).
      let t = joined.tunnels p i lt fits in
      subst (λ q. TunnelJoined z u h2 p i (live_in q i) (kept_in q i)) (sym (there p o))
      (tunnel_as p i _ _ _ _ t
      (a.phases p i o lt fits ∙ (begun_phase w h nodes holds m joined n old was down e j back (name p i) ∙ t.phase))
      (ap (λ f. f (name p i)) a.stays.booked ∙ (begun_other w h nodes holds m joined n old was down e j back p i o fits ∙ t.booked))))
      (same_or_not p n)

  -- ---- answers

  answer_as : (p c : ℕ) (o : Option Froze) → AnswerJoined m w h p c o → AnswerJoined z u h2 p c o
  answer_as p c None t = ap (λ f. f (name p c)) roots.answers ∙ t
  answer_as p c (Some f) t = record {
    given = ap (λ k. k (name p c)) roots.answers ∙ t.given;
    answered = ap (λ k. k (name p c)) roots.answered ∙ t.answered;
    epoch = ap (λ k. k (name p c)) roots.makes_it ∙ (t.epoch ∙ sym (agrees.makes_as p c));
    own = ap (λ k. k (name p c)) roots.giver_first ∙ t.own;
    theirs = ap (λ k. k (name p c)) roots.other_first ∙ t.theirs;
    confirmed = λ is.
        ap (λ k. k (name p c)) roots.confirmed
        ∙ t.confirmed (subst (λ x. (h.accounts (node_of f.peer) f.remote x).answer ≡ Some (record { node = p; tunnel = c }))
        (agrees.makes_as p c) is);
  }

  -- ---- calls of the node

  were : CallsJoined m h n old
  were = calls_were w h nodes holds m joined n old was down e j back

  has_call : (i s : ℕ) (t : Tunnel) (c : Call) → at e.tunnels i ≡ Some t → at t.calls s ≡ Some c → call_at j s ≡ Some (booked_call i s c)
  has_call i s t c at_t at_c =
      let up : c.state ≡ Established = (ups i t at_t).1 s c at_c in
      mirrors.all_calls i s (booked_call i s c)
      (ap (record_in i s) at_t
      ∙ (ap (call_record i s) at_c ∙ ap (λ b. if is_up b then Some (booked_call i s c) else None) up))

  kept_as : (s : ℕ) (b : BookCall) → call_at j s ≡ Some b → BookCallJoined z h2 n s b
  kept_as s b has =
      let t = were.kept s b (back.only_calls s b has).0 in
      record {
        tunnel = ap (λ f. f (name n s)) roots.tunnel ∙ t.tunnel;
        remote = ap (λ f. f (name n s)) roots.remote ∙ t.remote;
      }

  booked_as : (s : ℕ) → s < 65536 → m1.calls.booked (name n s) ≡ is_some (call_at j s)
  booked_as s fits = begun_calls w h nodes holds m joined n old was down e j back s fits

  none_as : (s : ℕ) → s < 65536 → call_at j s ≡ None → z.calls.state (name n s) ≡ NoCall
  none_as s fits none =
      a.free s fits (booked_as s fits ∙ ap (λ o. is_some o) none) ∙ begun_none w h nodes holds m joined n old was down e j back s fits

  live_as : (i : ℕ) (t : Tunnel) → at e.tunnels i ≡ Some t → (s : ℕ) (c : Call) → at t.calls s ≡ Some c
      → CallJoined z n i (h.accounts n i 0).peer s c
  live_as i t at_t s c at_c =
      let f = (fit.tables.tunnels i t at_t).calls s c at_c in
      let drawn = f.drawn in
      let within = fit.session_ids.drawn in
      let most = fit.session_ids.within in
      let sfits : s < 65536 = omega (arith, drawn, within, most) in
      let ti = (fit.tables.tunnels i t at_t).drawn in
      let t_within = fit.tunnel_ids.drawn in
      let t_most = fit.tunnel_ids.within in
      let ifits : i < 65536 = omega (arith, ti, t_within, t_most) in
      let has = has_call i s t c at_t at_c in
      let b = were.kept s (booked_call i s c) (back.only_calls s (booked_call i s c) has).0 in
      let same_tunnel : m1.calls.tunnel (name n s) ≡ name n i = ap (λ k. k (name n s)) (sym a.stays.tunnel)
      ∙ (ap (λ k. k (name n s)) roots.tunnel ∙ b.tunnel) in
      record {
        some = f.some;
        state =
            a.state s i sfits ifits same_tunnel
            ∙ (ap₂ (λ o k. if is_some o && k then Up else m1.calls.state (name n s))
            (ap (λ (x : End). at x.tunnels i) end_is ∙ at_t) (booked_as s sfits ∙ ap (λ o. is_some o) has)
            ∙ ap state_of (sym ((ups i t at_t).1 s c at_c)));
        tunnel = ap (λ k. k (name n s)) roots.tunnel ∙ b.tunnel;
        remote = ap (λ k. k (name n s)) roots.remote ∙ b.remote;
      }

  gone_as : (s : ℕ) → s < 65536 → HasNoCall left s → z.calls.state (name n s) ≡ NoCall
  gone_as s fits none = by (call_at j s) refl
    where
      in_it : (b : BookCall) (o : Option Tunnel) → at e.tunnels b.tunnel ≡ o → record_in b.tunnel s o ≡ Some b → ⊥
      in_it b None is has = none-some b has
      in_it b (Some t) is has = none-some b (sym (ap (call_record b.tunnel s) (none b.tunnel t is)) ∙ has)

      by : (o : Option BookCall) → call_at j s ≡ o → z.calls.state (name n s) ≡ NoCall
      by None is = none_as s fits is
      by (Some b) is = absurd (in_it b (at e.tunnels b.tunnel) refl (mirrors.calls s b is))

  home_as : (s : ℕ) → s < 65536 → lives (z.calls.state (name n s)) ≡ true → z.tunnels.node (z.calls.tunnel (name n s)) ≡ n
  home_as s fits live = by (call_at j s) refl
    where
      by : (o : Option BookCall) → call_at j s ≡ o → z.tunnels.node (z.calls.tunnel (name n s)) ≡ n
      by None is = absurd (true≢false (sym live ∙ ap lives (none_as s fits is)))
      by (Some b) is = in_book (tunnel_at j b.tunnel) refl
        where
          kept : BookCallJoined z h2 n s b
          kept = kept_as s b is

          in_book : (o : Option BookTunnel) → tunnel_at j b.tunnel ≡ o → z.tunnels.node (z.calls.tunnel (name n s)) ≡ n
          in_book None none = absurd (true≢false (sym (back.only_calls s b is).1 ∙ ap (λ o. is_some o) none))
          in_book (Some t) has =
              let made = made_of w h nodes holds m joined n old was down e j back b.tunnel t (back.only_tunnels b.tunnel t has) in
              let fits_b = home_fits w h nodes holds m joined n old was down e j back s b (back.only_calls s b is).0 in
              ap z.tunnels.node kept.tunnel
              ∙ (ap (λ k. k (name n b.tunnel)) roots.node ∙
              (told_here w h nodes holds m joined n old was down e j back b.tunnel fits_b).node made)

  own_calls : CallsJoined z h2 n left
  own_calls = record {
    live = live_as;
    gone = gone_as;
    kept = kept_as;
    booked = λ s fits. ap (λ k. k (name n s)) a.stays.call_booked ∙ booked_as s fits;
    home = home_as;
    undrawn = λ s le fits.
        ap (λ k. k (name n s)) roots.calls_drawn
        ∙ were.undrawn s (let up = a.next_id in let same = ap (λ (x : End). x.session_ids.next) end_is in omega (arith, up, same, le)) fits;
    zero = ap (λ k. k (name n 0)) roots.calls_drawn ∙ were.zero;
  }

  -- ---- calls of other nodes

  module _ (p : ℕ) (o : p ≡ n → ⊥) (lt : p < 256) where
    state_same : (s : ℕ) → s < 65536 → z.calls.state (name p s) ≡ m.calls.state (name p s)
    state_same s fits = a.states p s o lt fits ∙ begun_states w h nodes holds m joined n old was down e j back p s o lt fits

    booked_same : (s : ℕ) → s < 65536 → z.calls.booked (name p s) ≡ m.calls.booked (name p s)
    booked_same s fits =
        ap (λ k. k (name p s)) a.stays.call_booked ∙ begun_books w h nodes holds m joined n old was down e j back p s o lt fits

    drawn_same : (s : ℕ) → z.calls.drawn (name p s) ≡ m.calls.drawn (name p s)
    drawn_same s = ap (λ k. k (name p s)) roots.calls_drawn

    tunnel_same : (s : ℕ) → z.calls.tunnel (name p s) ≡ m.calls.tunnel (name p s)
    tunnel_same s = ap (λ k. k (name p s)) roots.tunnel

    remote_same : (s : ℕ) → z.calls.remote (name p s) ≡ m.calls.remote (name p s)
    remote_same s = ap (λ k. k (name p s)) roots.remote

    calls_on : (c : Node) → HoldsNode c → CallsJoined m h p c → CallsJoined z h2 p c
    calls_on c held k = record {
      live = λ i t at_t s d at_d.
          (let sfits = (bounded c held).sessions i t at_t s d at_d in
          let b = k.live i t at_t s d at_d in
          record {
            some = b.some;
            state = state_same s sfits ∙ b.state;
            tunnel = tunnel_same s ∙ b.tunnel;
            remote = remote_same s ∙ b.remote;
          });
      gone = λ s fits none. state_same s fits ∙ k.gone s fits none;
      kept = λ s b is. (let t = k.kept s b is in record { tunnel = tunnel_same s ∙ t.tunnel; remote = remote_same s ∙ t.remote });
      booked = λ s fits. booked_same s fits ∙ k.booked s fits;
      home = λ s fits live.
          ap z.tunnels.node (tunnel_same s)
          ∙ (ap (λ f. f (m.calls.tunnel (name p s))) roots.node ∙ k.home s fits (sym (ap lives (state_same s fits)) ∙ live));
      undrawn = λ s le fits. drawn_same s ∙ k.undrawn s le fits;
      zero = drawn_same 0 ∙ k.zero;
    }

    node_on : (q : Option Node) → at w.nodes p ≡ q → NodeJoined m h p q → NodeJoined z h2 p q
    node_on None is k = (
      risen_up.1 p o ∙ k.0,
      λ s fits. (state_same s fits ∙ (k.1 s fits).0, drawn_same s ∙ (k.1 s fits).1, booked_same s fits ∙ (k.1 s fits).2),
    )
    node_on (Some c) is k = (risen_up.1 p o ∙ k.0, calls_on c (nodes p c is) k.1)

  all_nodes : (p : ℕ) → p < 256 → NodeJoined z h2 p (at u.nodes p)
  all_nodes p lt = ⊎_elim
      (λ (eq : p ≡ n). subst (λ y. NodeJoined z h2 y (at u.nodes y)) (sym eq) (subst (NodeJoined z h2 n) (sym here)
      (risen_up.0, own_calls)))
      (λ (o : p ≡ n → ⊥). subst (NodeJoined z h2 p) (sym (there p o)) (node_on p o lt (at w.nodes p) refl (joined.nodes p lt)))
      (same_or_not p n)

  -- ---- the whole

  abbrev js : List moves.Move
  js = moves.Starts n ∷ (clears (lost n cj.book old.checkpoint.book.tunnels) ++ a.moves)

  goes_there : goes_on all_rules m js ≡ z
  unfolding goes_on step
  goes_there = run_on all_rules (risen m n) (clears (lost n cj.book old.checkpoint.book.tunnels)) a.moves

  joined2 : AreJoined u h2 z
  joined2 = record {
    drawn = λ p k lt fits. a.drawn p k lt fits ∙ ap (λ f. is_used f p k) (sym same_done);
    tunnels = all_tunnels;
    attempts = λ p k lt fits. a.attempts p k lt fits;
    answers = λ p c lt fits. subst (AnswerJoined z u h2 p c) (sym (a.answers p c)) (answer_as p c (h.answers p c)
        (joined.answers p c lt fits));
    nodes = all_nodes;
    births = (
      roots.births ∙ joined.births.0,
      λ p s lt fits. ap (λ k. k (name p s)) roots.birth ∙ (joined.births.1 p s lt fits ∙ sym (births_same p s)),
    );
    moves = joined.moves ++ js;
    run = sym goes_there ∙ (ap (λ y. goes_on all_rules y js) joined.run ∙ sym (run_on all_rules empty_world joined.moves js));
  }

  pub returned_joined : AreJoined (with_node w n (record old { end = e; up = true; access = access; checkpoint = cj })) g
      (goes_on all_rules (goes_on all_rules (risen m n) (clears (lost n cj.book old.checkpoint.book.tunnels))) a.moves)
  returned_joined = subst (λ f. AreJoined u f z) same_done joined2

  pub returned_roots : SameRoots w h nodes holds m joined n old was down e j back
      (goes_on all_rules (goes_on all_rules (risen m n) (clears (lost n cj.book old.checkpoint.book.tunnels))) a.moves)
  returned_roots = roots
