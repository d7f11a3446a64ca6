-- A node that starts is up in the machine, and the tunnels that don't come back leave its book there, with their calls.
use Rattle.std.proofs.Common.{◌≡◌, ℕ, ◌<◌, Bool, true, false, List, [], refl, sym, ap, ◌∙◌, subst, Option, Some, None, arith, eq-eqb}
use Rattle.std.proofs.Common.{ne_eqb}
use Rattle.std.proofs.lemmas.Bool.{true≢false}
use Rattle.std.proofs.lemmas.Option.{none-some}
use Rattle.std.specs.Prelude.{is_some, ◌&&◌, if◌then◌else◌}
use Rattle.id_table.specs.Ids.{at, at-none}
use Rattle.session_book.specs.declared.record.BookTunnel.{BookTunnel}
use Rattle.session_book.specs.declared.record.BookCall.{BookCall}
use Rattle.session_book.specs.Books.{Kept, tunnel_at, call_at}
use Rattle.end_model.specs.End.{End}
use Rattle.world_model.specs.World.{World, Node}
use Rattle.book_laws.specs.Starts.{ComesBack}
use Rattle.book_laws.proofs.Lists.{entry_found, entry_has, all_found}
use Rattle.node_laws.specs.Nodes.{HoldsNode}
use Rattle.epoch_machine.specs.Worlds as machine
use Rattle.epoch_machine.specs.Worlds.{all_rules}
use Rattle.epoch_machine.specs.Moves as moves
use Rattle.epoch_machine.specs.Moves.{step, goes_on}
use Rattle.epoch_machine.specs.Tunnels.{comes_up}
use Rattle.epoch_machine.specs.Calls.{CallState, NoCall, Up, lives}
use Rattle.session_laws.specs.Names.{name}
use Rattle.session_laws.proofs.Names.{same_name}
use Rattle.channel_laws.specs.Accounts.{History}
use Rattle.channel_laws.specs.Facts.{IsMade, BookedOk, EndOk, BookOk, NodeOk, NodesHold, Holds}
use Rattle.end_model.specs.declared.moves.Restored.{Restored}
use Rattle.recovery_laws.specs.Joined.{AttemptJoined, phase_in, TunnelJoined, CallsJoined, NodeJoined, live_in, kept_in, AreJoined}
use Rattle.join_laws.proofs.Apart.{Elsewhere, elsewhere as apart_from}
use Rattle.line_join_laws.proofs.Cleared.{is_in, clears, Cleared, turned, all_cleared}
use Rattle.line_join_laws.proofs.Back.{AmidBack, IsReady}
use Rattle.line_join_laws.proofs.Restored.{Stays, stays_same}
use Rattle.line_join_laws.proofs.Lost.{turned_in, lost, IsLost, all_lost, IsNot, none_lost, MayGo, lost_clearable}

-- the node comes up
module _ (m : machine.World) (n : ℕ) where
  abbrev pub risen : machine.World
  risen = record m { tunnels = comes_up m.tunnels n }

  pub rises : step all_rules m (moves.Starts n) ≡ record m { tunnels = comes_up m.tunnels n }
  unfolding step
  rises = refl

  pub up_here : (comes_up m.tunnels n).up n ≡ true
  unfolding comes_up
  up_here = ap (λ b. if b then true else m.tunnels.up n) (eq-eqb n n refl)

  pub up_there : (q : ℕ) → (q ≡ n → ⊥) → (comes_up m.tunnels n).up q ≡ m.tunnels.up q
  unfolding comes_up
  up_there q o = ap (λ b. if b then true else m.tunnels.up q) (ne_eqb q n o)

not_live : (s : CallState) → (lives s ≡ true → ⊥) → s ≡ NoCall
not_live NoCall none = refl
not_live s none = absurd (none refl)

module _ (w : World) (h : History) (nodes : NodesHold w) (holds : Holds w h) (m : machine.World) (joined : AreJoined w h m) (n : ℕ)
    (old : Node)
    (was : at w.nodes n ≡ Some old) (down : old.up ≡ false) (e : End) (j : Kept) (back : ComesBack e old.checkpoint.book j) where
  abbrev k : Kept
  k = old.checkpoint.book

  held : HoldsNode old
  held = nodes n old was

  both_ok : EndOk w h n old.end × BookOk h n old.checkpoint.book
  both_ok = subst (NodeOk w h n) was (holds.nodes n)

  pub node_fits : n < 256
  node_fits = both_ok.0.node

  pub none_live : (i : ℕ) → at old.end.tunnels i ≡ None
  none_live i = ap (λ (x : End). at x.tunnels i) (held.down down) ∙ at-none i

  abbrev xs : List ℕ
  xs = lost n j k.tunnels

  abbrev up1 : machine.World
  up1 = risen m n

  abbrev pub begun : machine.World
  begun = goes_on all_rules (risen m n) (clears (lost n j old.checkpoint.book.tunnels))

  told : (i : ℕ) → i < 65536 → TunnelJoined m w h n i (at old.end.tunnels i) (tunnel_at k i)
  told i fits = subst (λ (o : Option Node). TunnelJoined m w h n i (live_in o i) (kept_in o i)) was (joined.tunnels n i node_fits fits)

  -- a tunnel of the book
  booked_ok : (i : ℕ) (b : BookTunnel) → tunnel_at k i ≡ Some b → BookedOk h n b
  booked_ok i b has = both_ok.1.tunnels i b has

  local_is : (i : ℕ) (b : BookTunnel) → tunnel_at k i ≡ Some b → b.local ≡ i
  local_is i b has = entry_has (λ (t : BookTunnel). t.local) i k.tunnels b has

  pub made_of : (i : ℕ) (b : BookTunnel) → tunnel_at old.checkpoint.book i ≡ Some b → IsMade (h.accounts n i 0)
  made_of i b has = subst (λ y. IsMade (h.accounts n y 0)) (local_is i b has) (booked_ok i b has).made

  book_fits : (i : ℕ) (b : BookTunnel) → tunnel_at k i ≡ Some b → b.local < 65536
  book_fits i b has = (holds.accounts n b.local 0).id (booked_ok i b has).made

  may_go : (i : ℕ) (b : BookTunnel) → tunnel_at k i ≡ Some b → MayGo n j up1 b
  unfolding comes_up
  may_go i b has =
      let t = told b.local (book_fits i b has) in (
        ap up1.tunnels.up (t.node (booked_ok i b has).made) ∙ up_here m n,
        t.booked ∙ ap (λ q. is_some (tunnel_at k q)) (local_is i b has) ∙ ap (λ o. is_some o) has,
        t.phase ∙ ap (phase_in n) (none_live b.local),
      )

  pub cleared : Cleared (risen m n) (goes_on all_rules (risen m n) (clears (lost n j old.checkpoint.book.tunnels)))
      (turned (lost n j old.checkpoint.book.tunnels) [])
  cleared =
      all_cleared up1 xs
      (lost_clearable n j up1 k.tunnels (all_found (λ (t : BookTunnel). t.local) (MayGo n j up1) k.tunnels held.sound.tunnels_rise may_go))

  -- ---- which tunnels are lost

  stays_in : (i : ℕ) → i < 65536 → is_some (tunnel_at j i) ≡ true → is_in (turned xs []) (name n i) ≡ false
  stays_in i fits has =
      turned_in xs (name n i)
      ∙ none_lost n j (name n i) k.tunnels
      (all_found (λ (t : BookTunnel). t.local) (IsNot n j (name n i)) k.tunnels held.sound.tunnels_rise
      (λ q t there none same.
      (let own = (same_name n i n t.local fits (book_fits q t there) same).1 in
      let no : true ≡ false = sym has ∙ (ap (λ y. is_some (tunnel_at j y)) own ∙ ap (λ o. is_some o) none) in
      true≢false no)))

  goes_out : (i : ℕ) (b : BookTunnel) → tunnel_at k i ≡ Some b → tunnel_at j i ≡ None → is_in (turned xs []) (name n i) ≡ true
  goes_out i b has none =
      let found = entry_found (λ (t : BookTunnel). t.local) (IsLost n j k.tunnels) i k.tunnels b (all_lost n j k.tunnels) has in
      turned_in xs (name n i)
      ∙ subst (λ q. is_in xs (name n q) ≡ true) found.0 (found.1 (ap (tunnel_at j) found.0 ∙ none))

  other_in : (y : ℕ) → ((i : ℕ) → i < 65536 → y ≡ name n i → ⊥) → is_in (turned xs []) y ≡ false
  other_in y apart =
      turned_in xs y
      ∙ none_lost n j y k.tunnels
      (all_found (λ (t : BookTunnel). t.local) (IsNot n j y) k.tunnels held.sound.tunnels_rise
      (λ q t there none same. apart t.local (book_fits q t there) same))

  -- ---- the book

  pub begun_booked : (i : ℕ) → i < 65536 → (goes_on all_rules (risen m n) (clears (lost n j old.checkpoint.book.tunnels))).tunnels.booked
      (name n i)
      ≡ is_some (tunnel_at j i)
  unfolding comes_up
  begun_booked i fits = cleared.booked (name n i) ∙ by (tunnel_at k i) (tunnel_at j i) refl refl
    where
      y : ℕ
      y = name n i

      by : (o p : Option BookTunnel) → tunnel_at k i ≡ o → tunnel_at j i ≡ p
          → (if is_in (turned xs []) y then false else m.tunnels.booked y) ≡ is_some (tunnel_at j i)
      by o (Some c) has is =
          let kept = back.only_tunnels i c is in
          ap (λ b. if b then false else m.tunnels.booked y) (stays_in i fits (ap (λ q. is_some q) is))
          ∙ ((told i fits).booked ∙ (ap (λ q. is_some q) kept ∙ ap (λ q. is_some q) (sym is)))
      by None None has is =
          ap (λ b. if is_in (turned xs []) y then false else b) ((told i fits).booked ∙ ap (λ q. is_some q) has)
          ∙ (none (is_in (turned xs []) y) ∙ ap (λ q. is_some q) (sym is))
        where
          none : (b : Bool) → (if b then false else false) ≡ false
          none true = refl
          none false = refl
      by (Some b) None has is =
          ap (λ q. if q then false else m.tunnels.booked y) (goes_out i b has is) ∙ ap (λ q. is_some q) (sym is)

  pub begun_other : (q i : ℕ) → (q ≡ n → ⊥) → i < 65536
      → (goes_on all_rules (risen m n) (clears (lost n j old.checkpoint.book.tunnels))).tunnels.booked (name q i) ≡ m.tunnels.booked
      (name q i)
  unfolding comes_up
  begun_other q i o fits =
      cleared.booked (name q i)
      ∙ ap (λ b. if b then false else m.tunnels.booked (name q i)) (other_in (name q i) (λ p pfits same. o
      (same_name q i n p fits pfits same).0))

  -- ---- the calls of the node

  pub calls_were : CallsJoined m h n old
  calls_were = let c : NodeJoined m h n (Some old) = subst (NodeJoined m h n) was (joined.nodes n node_fits) in c.1

  none_calls : (s : ℕ) → s < 65536 → m.calls.state (name n s) ≡ NoCall
  none_calls s fits = calls_were.gone s fits (λ i t there. absurd (none-some t (sym (none_live i) ∙ there)))

  pub begun_none : (s : ℕ) → s < 65536
      → (goes_on all_rules (risen m n) (clears (lost n j old.checkpoint.book.tunnels))).calls.state (name n s) ≡ NoCall
  begun_none s fits =
      cleared.state (name n s)
      ∙ (ap (λ q. if is_in (turned xs []) (m.calls.tunnel (name n s)) then NoCall else q) (none_calls s fits)
      ∙ by (is_in (turned xs []) (m.calls.tunnel (name n s))))
    where
      by : (b : Bool) → (if b then NoCall else NoCall) ≡ NoCall
      by true = refl
      by false = refl

  -- the tunnel of a call of the book
  home_of : (s : ℕ) (c : BookCall) → call_at k s ≡ Some c → (b : BookTunnel) × (tunnel_at k c.tunnel ≡ Some b)
  home_of s c has =
      let home = (entry_found (λ (y : BookCall). y.local) (λ (y : BookCall). is_some
      (tunnel_at k y.tunnel) ≡ true) s k.calls c held.sound.homes has).1 in
      by (tunnel_at k c.tunnel) refl home
    where
      by : (o : Option BookTunnel) → tunnel_at k c.tunnel ≡ o → is_some (tunnel_at k c.tunnel) ≡ true
          → (b : BookTunnel) × (tunnel_at k c.tunnel ≡ Some b)
      by None is some = absurd (true≢false (sym some ∙ ap (λ o. is_some o) is))
      by (Some b) is some = (b, is)

  pub home_fits : (s : ℕ) (c : BookCall) → call_at k s ≡ Some c → c.tunnel < 65536
  home_fits s c has =
      let b = home_of s c has in
      let lt = book_fits c.tunnel b.0 b.1 in
      let same = local_is c.tunnel b.0 b.1 in
      omega (arith, lt, same)

  pub begun_calls : (s : ℕ) → s < 65536 → (goes_on all_rules (risen m n) (clears (lost n j old.checkpoint.book.tunnels))).calls.booked
      (name n s)
      ≡ is_some (call_at j s)
  begun_calls s fits = cleared.call_booked (name n s) ∙ by (call_at k s) (call_at j s) refl refl
    where
      y : ℕ
      y = name n s

      never : (b : Bool) → (if b then false else false) ≡ false
      never true = refl
      never false = refl

      by : (o p : Option BookCall) → call_at k s ≡ o → call_at j s ≡ p
          → (if is_in (turned xs []) (m.calls.tunnel y) then false else m.calls.booked y) ≡ is_some (call_at j s)
      by o (Some c) has is =
          let kept = back.only_calls s c is in
          ap (λ b. if b then false else m.calls.booked y)
          (ap (is_in (turned xs [])) (calls_were.kept s c kept.0).tunnel ∙ stays_in c.tunnel (home_fits s c kept.0) kept.1)
          ∙ (calls_were.booked s fits ∙ (ap (λ q. is_some q) kept.0 ∙ ap (λ q. is_some q) (sym is)))
      by None None has is =
          ap (λ b. if is_in (turned xs []) (m.calls.tunnel y) then false else b) (calls_were.booked s fits ∙ ap (λ q. is_some q) has)
          ∙ (never (is_in (turned xs []) (m.calls.tunnel y)) ∙ ap (λ q. is_some q) (sym is))
      by (Some c) None has is = in_it (tunnel_at j c.tunnel) refl
        where
          in_it : (q : Option BookTunnel) → tunnel_at j c.tunnel ≡ q
              → (if is_in (turned xs []) (m.calls.tunnel y) then false else m.calls.booked y) ≡ is_some (call_at j s)
          in_it (Some b) there = absurd (none-some c (sym is ∙ back.calls s c has (ap (λ q. is_some q) there)))
          in_it None there =
              let b = home_of s c has in
              ap (λ q. if q then false else m.calls.booked y)
              (ap (is_in (turned xs [])) (calls_were.kept s c has).tunnel ∙ goes_out c.tunnel b.0 b.1 there)
              ∙ ap (λ q. is_some q) (sym is)

  -- ---- the calls of other nodes

  pub elsewhere : (q s i : ℕ) → (q ≡ n → ⊥) → q < 256 → s < 65536 → i < 65536 → Elsewhere m (name q s) (name n i)
  elsewhere q s i o qfits sfits fits =
      apart_from w h m joined n i fits q qfits o (λ c there. nodes q c there) s sfits

  other_calls : (q s : ℕ) → (q ≡ n → ⊥) → q < 256 → s < 65536 → (lives (m.calls.state (name q s)) ≡ true)
      → is_in (turned xs []) (m.calls.tunnel (name q s)) ≡ false
  other_calls q s o qfits sfits live = other_in (m.calls.tunnel (name q s)) (λ i fits same.
      (elsewhere q s i o qfits sfits fits).live live same)

  pub begun_states : (q s : ℕ) → (q ≡ n → ⊥) → q < 256 → s < 65536
      → (goes_on all_rules (risen m n) (clears (lost n j old.checkpoint.book.tunnels))).calls.state (name q s) ≡ m.calls.state (name q s)
  begun_states q s o qfits sfits = cleared.state (name q s) ∙ by (is_in (turned xs []) (m.calls.tunnel (name q s))) refl
    where
      by : (b : Bool) → is_in (turned xs []) (m.calls.tunnel (name q s)) ≡ b → (if b then NoCall else m.calls.state
          (name q s)) ≡ m.calls.state (name q s)
      by true is = sym (not_live (m.calls.state (name q s)) (λ live. true≢false (sym is ∙ other_calls q s o qfits sfits live)))
      by false is = refl

  pub begun_books : (q s : ℕ) → (q ≡ n → ⊥) → q < 256 → s < 65536
      → (goes_on all_rules (risen m n) (clears (lost n j old.checkpoint.book.tunnels))).calls.booked (name q s) ≡ m.calls.booked (name q s)
  begun_books q s o qfits sfits = cleared.call_booked (name q s) ∙ by (is_in (turned xs []) (m.calls.tunnel (name q s))) refl
      (m.calls.booked (name q s)) refl
    where
      by : (b : Bool) → is_in (turned xs []) (m.calls.tunnel (name q s)) ≡ b → (c : Bool) → m.calls.booked (name q s) ≡ c
          → (if b then false else m.calls.booked (name q s)) ≡ m.calls.booked (name q s)
      by true is true has =
          absurd (true≢false (sym is ∙ other_in (m.calls.tunnel (name q s)) (λ i fits same.
          (elsewhere q s i o qfits sfits fits).booked has same)))
      by true is false has = sym has
      by false is c has = refl

  -- ---- before the tunnels come back

  -- what never changes in a start
  pub record SameRoots (z : machine.World) : Type 0 where
    pub node : z.tunnels.node ≡ m.tunnels.node
    pub peer : z.tunnels.peer ≡ m.tunnels.peer
    pub opener : z.tunnels.opener ≡ m.tunnels.opener
    pub learned : z.tunnels.learned ≡ m.tunnels.learned
    pub entered : z.tunnels.entered ≡ m.tunnels.entered
    pub epochs : z.tunnels.epochs ≡ m.tunnels.epochs
    pub entered_by : z.tunnels.entered_by ≡ m.tunnels.entered_by
    pub answers : z.tunnels.answers ≡ m.tunnels.answers
    pub answered : z.tunnels.answered ≡ m.tunnels.answered
    pub makes_it : z.tunnels.makes ≡ m.tunnels.makes
    pub confirmed : z.tunnels.confirmed ≡ m.tunnels.confirmed
    pub giver_first : z.tunnels.giver_first ≡ m.tunnels.giver_first
    pub other_first : z.tunnels.other_first ≡ m.tunnels.other_first
    pub channels : z.channels ≡ m.channels
    pub calls_drawn : z.calls.drawn ≡ m.calls.drawn
    pub tunnel : z.calls.tunnel ≡ m.calls.tunnel
    pub remote : z.calls.remote ≡ m.calls.remote
    pub births : z.calls.births ≡ m.calls.births
    pub birth : z.calls.birth ≡ m.calls.birth
    pub asks : z.calls.asks ≡ m.calls.asks
    pub held : z.calls.held ≡ m.calls.held

  abbrev m1 : machine.World
  m1 = goes_on all_rules (risen m n) (clears (lost n j old.checkpoint.book.tunnels))

  pub roots_stay : (z : machine.World) → Stays (goes_on all_rules (risen m n) (clears (lost n j old.checkpoint.book.tunnels))) z
      → SameRoots z
  unfolding comes_up
  roots_stay z t =
      let c = cleared in
      record {
        node = t.node ∙ c.node;
        peer = t.peer ∙ c.peer;
        opener = t.opener ∙ c.opener;
        learned = t.learned ∙ c.learned;
        entered = t.entered ∙ c.entered;
        epochs = t.epochs ∙ c.epochs;
        entered_by = t.entered_by ∙ c.entered_by;
        answers = t.answers ∙ c.answers;
        answered = t.answered ∙ c.answered;
        makes_it = t.makes_it ∙ c.makes_it;
        confirmed = t.confirmed ∙ c.confirmed;
        giver_first = t.giver_first ∙ c.giver_first;
        other_first = t.other_first ∙ c.other_first;
        channels = t.channels ∙ c.channels;
        calls_drawn = t.calls_drawn ∙ c.calls_drawn;
        tunnel = t.tunnel ∙ c.tunnel;
        remote = t.remote ∙ c.remote;
        births = t.births ∙ c.births;
        birth = t.birth ∙ c.birth;
        asks = t.asks ∙ c.asks;
        held = t.held ∙ c.held;
      }

  pub begun_phase : (y : ℕ) → (goes_on all_rules (risen m n) (clears
      (lost n j old.checkpoint.book.tunnels))).tunnels.phase y ≡ m.tunnels.phase y
  unfolding comes_up
  begun_phase y = cleared.phase y

  pub begun_up : (z : machine.World) → Stays (goes_on all_rules (risen m n) (clears (lost n j old.checkpoint.book.tunnels))) z
      → (z.tunnels.up n ≡ true) × ((q : ℕ) → (q ≡ n → ⊥) → z.tunnels.up q ≡ m.tunnels.up q)
  begun_up z t = (
    ap (λ f. f n) (t.up ∙ cleared.up) ∙ up_here m n,
    λ q o. ap (λ f. f q) (t.up ∙ cleared.up) ∙ up_there m n q o,
  )

  pub told_here : (i : ℕ) → i < 65536 → TunnelJoined m w h n i (at old.end.tunnels i) (tunnel_at old.checkpoint.book i)
  told_here i fits = told i fits

  attempt_same : (p a : ℕ) (o : Option Restored) → m1.tunnels.attempts (name p a) ≡ m.tunnels.attempts (name p a) → AttemptJoined m p a o
      → AttemptJoined m1 p a o
  attempt_same p a None eq t = eq ∙ t
  attempt_same p a (Some r) eq t = eq ∙ t

  pub ready : IsReady n m1 j old.checkpoint h old.end.session_ids.next
  unfolding comes_up
  ready = record {
    node_fits = node_fits;
    up = (begun_up m1 (stays_same m1)).0;
    node = λ i fits made. ap (λ f. f (name n i)) (roots_stay m1 (stays_same m1)).node ∙ (told i fits).node made;
    booked = λ i fits has. begun_booked i fits ∙ has;
    apart = λ p s i o pfits sfits fits has same.
        (elsewhere p s i o pfits sfits fits).booked (sym (begun_books p s o pfits sfits) ∙ has)
        (ap (λ f. f (name p s)) (sym (roots_stay m1 (stays_same m1)).tunnel) ∙ same);
  }

  pub first_back : AmidBack n m1 j old.checkpoint h old.end.session_ids.next w h
  unfolding goes_on comes_up
  first_back = record {
    node = old;
    there = was;
    checkpoint = refl;
    next_id = omega arith;
    accounts = refl;
    answers = λ p c. refl;
    moves = [];
    stays = stays_same m1;
    drawn = λ p a pfits fits. ap (λ f. f (name p a)) cleared.drawn ∙ joined.drawn p a pfits fits;
    attempts = λ p a pfits fits. attempt_same p a (h.attempts p a) (ap (λ f. f (name p a)) cleared.attempts)
        (joined.attempts p a pfits fits);
    phase = λ i fits. cleared.phase (name n i) ∙ (told i fits).phase;
    phases = λ p i o pfits fits. refl;
    state = λ s i sfits fits own.
        ap (λ o. if is_some o && m1.calls.booked (name n s) then Up else m1.calls.state (name n s)) (sym (none_live i));
    free = λ s fits none. refl;
    states = λ p s o pfits fits. refl;
  }
