-- A node falls with records that a stop kept: the world in which it is down, with the book that they make, is joined with the machine's.
use Rattle.std.proofs.Common.{◌≡◌, ◌⊎◌, inl, inr, ⊎_elim, ℕ, ◌<◌, Bool, true, false, List, [], ◌∷◌, ◌++◌, refl, sym, ap, ◌∙◌, subst}
use Rattle.std.proofs.Common.{Option, Some, None, arith, eq-eqb, ne_eqb, ap₂}
use Rattle.std.proofs.lemmas.Bool.{true≢false}
use Rattle.std.proofs.lemmas.Option.{none-some, same_Some}
use Rattle.std.specs.Prelude.{is_some, ◌==◌, if◌then◌else◌}
use Rattle.id_table.specs.Ids.{at, at-none}
use Rattle.id_table.specs.Order.{at_new, at_other, same_or_not}
use Rattle.session_book.specs.declared.record.BookTunnel.{BookTunnel}
use Rattle.session_book.specs.declared.record.BookCall.{BookCall}
use Rattle.session_book.specs.Books.{Kept, tunnel_at, call_at}
use Rattle.end_names.specs.Names.{node_of}
use Rattle.end_model.specs.declared.moves.Restored.{Restored}
use Rattle.end_model.specs.declared.moves.Froze.{Froze}
use Rattle.end_model.specs.Tunnels.{Tunnel}
use Rattle.world_model.specs.World.{World, Node, with_node, birth_in, birth_of, standing_in, standing_of, epoch_of, answer_in}
use Rattle.book_laws.proofs.Lists.{entry_found, entry_has}
use Rattle.node_laws.specs.Nodes.{HoldsNode}
use Rattle.epoch_machine.specs.Worlds as machine
use Rattle.epoch_machine.specs.Worlds.{all_rules, empty_world}
use Rattle.epoch_machine.specs.Moves as moves
use Rattle.epoch_machine.specs.Moves.{falls, step, goes_on}
use Rattle.epoch_machine.specs.Channels.{Channels}
use Rattle.epoch_machine.specs.Tunnels.{Gone, goes_down}
use Rattle.epoch_machine.specs.Calls.{CallState, NoCall, lives, loses}
use Rattle.session_laws.specs.Names.{name, name_of}
use Rattle.session_laws.proofs.Ground.{one_step, run_on}
use Rattle.channel_laws.specs.Accounts.{Part, Unmade, Opener, Acceptor, Renewed, History}
use Rattle.channel_laws.specs.Facts.{IsMade, EndOk, BookOk, NodeOk, NodesHold, Holds, makes}
use Rattle.recovery_laws.specs.Joined.{LearnedSo, phase_in, TunnelJoined, AttemptJoined, AnswerJoined, BookCallJoined, CallsJoined}
use Rattle.recovery_laws.specs.Joined.{NodeJoined}
use Rattle.recovery_laws.specs.Joined.{live_in, kept_in, AreJoined}
use Rattle.join_laws.proofs.Bounds.{bounded}
use Rattle.wire_base.specs.declared.pair.Pair.{Pair}
use Rattle.session_query.specs.Queries.{left_of}
use Rattle.frame_laws.proofs.Facts.{all_map}
use Rattle.channel_laws.specs.Epochs.{IsLive}
use Rattle.recovery_laws.specs.Queries.{QueryJoined, QueriesJoined, CallsAreNamed}
use Rattle.join_laws.specs.Steps.{IsJoined}
use Rattle.line_join_laws.specs.Falls.{IsCutBook, HasFallen, FallenNodesJoin}
use Rattle.stop_laws.specs.Records.{writes}
use Rattle.stop_laws.proofs.Cuts.{stop_is_cut}
use Rattle.line_join_laws.proofs.Written.{Written, all_written}

-- what a tunnel is to ask for
abbrev IsHeld : machine.World → ℕ → ℕ → ℕ → Pair → Type 0
IsHeld m n i peer p = m.calls.held (name n i) (m.tunnels.entered (name n i)) (name n p.sender) ≡ name_of peer p.receiver

not_live : (s : CallState) → (lives s ≡ true → ⊥) → s ≡ NoCall
not_live NoCall none = refl
not_live s none = absurd (none refl)

live_or_not : (s : CallState) → (lives s ≡ true) ⊎ (s ≡ NoCall)
live_or_not NoCall = inr refl
live_or_not s = inl refl

module _ (w : World) (h : History) (nodes : NodesHold w) (holds : Holds w h) (m : machine.World) (joined : AreJoined w h m) (n : ℕ)
    (old new : Node)
    (was : at w.nodes n ≡ Some old) (j : Kept) (fell : HasFallen old new j) (c : machine.World) (wr : Written m c n)
    (cut : IsCutBook c h n j)
    (ks : List moves.Kept) (stops : step all_rules m (moves.Stops n ks) ≡ falls c n) where
  abbrev z : machine.World
  z = falls c n

  abbrev u : World
  u = with_node w n new

  here : at u.nodes n ≡ Some new
  here = at_new w.nodes n new

  there : (p : ℕ) → (p ≡ n → ⊥) → at u.nodes p ≡ at w.nodes p
  there p o = at_other w.nodes n new p o

  by_node : {X : Type 0} (f : Option Node → X) → f (Some new) ≡ f (Some old) → (p : ℕ) → f (at u.nodes p) ≡ f (at w.nodes p)
  by_node f same p = ⊎_elim
      (λ (e : p ≡ n). ap (λ y. f (at u.nodes y)) e ∙ (ap f here ∙ (same ∙ sym (ap (λ y. f (at w.nodes y)) e ∙ ap f was))))
      (λ o. ap f (there p o))
      (same_or_not p n)

  epochs_same : (p i : ℕ) → epoch_of u p i ≡ epoch_of w p i
  unfolding standing_of
  epochs_same p i = by_node (λ o. (standing_in o i).epoch) (fell.epochs i) p

  made_same : (p i : ℕ) → (standing_of u p i).made ≡ (standing_of w p i).made
  unfolding standing_of
  made_same p i = by_node (λ o. (standing_in o i).made) (fell.made i) p

  makes_same : (p x : ℕ) → makes u p x ≡ makes w p x
  makes_same p x = by_node (λ o. answer_in o x) (fell.answers x) p

  births_same : (p s : ℕ) → birth_of u p s ≡ birth_of w p s
  unfolding birth_of
  births_same p s = by_node (λ o. birth_in o s) (fell.births s) p

  node_fits : n < 256
  node_fits = let both : EndOk w h n old.end × BookOk h n old.checkpoint.book = subst (NodeOk w h n) was (holds.nodes n) in both.0.node

  -- ---- tunnels

  phase_is : (y : ℕ) → z.tunnels.phase y ≡ (if c.tunnels.node y == n then Gone else c.tunnels.phase y)
  unfolding falls goes_down
  phase_is y = refl

  -- of one that was never made nothing is live, or in a book
  unmade_live : (p i : ℕ) → (h.accounts p i 0).part ≡ Unmade → (o : Option Node) → at w.nodes p ≡ o → live_in o i ≡ None
  unmade_live p i unmade None is = refl
  unmade_live p i unmade (Some a) is = by (at a.end.tunnels i) refl
    where
      by : (o : Option Tunnel) → at a.end.tunnels i ≡ o → o ≡ None
      by None at_none = refl
      by (Some t) at_it =
          let ok : EndOk w h p a.end × BookOk h p a.checkpoint.book = subst (NodeOk w h p) is (holds.nodes p) in
          absurd ((ok.0.live i t at_it).made unmade)

  unmade_kept : (p i : ℕ) → (h.accounts p i 0).part ≡ Unmade → (o : Option Node) → at w.nodes p ≡ o → kept_in o i ≡ None
  unmade_kept p i unmade None is = refl
  unmade_kept p i unmade (Some a) is = by (tunnel_at a.checkpoint.book i) refl
    where
      by : (o : Option BookTunnel) → tunnel_at a.checkpoint.book i ≡ o → o ≡ None
      by None none = refl
      by (Some b) has =
          let ok : EndOk w h p a.end × BookOk h p a.checkpoint.book = subst (NodeOk w h p) is (holds.nodes p) in
          let local = entry_has (λ (t : BookTunnel). t.local) i a.checkpoint.book.tunnels b has in
          absurd ((ok.1.tunnels i b has).made (ap (λ y. (h.accounts p y 0).part) local ∙ unmade))

  made_or_not : (p i : ℕ) → IsMade (h.accounts p i 0) ⊎ ((h.accounts p i 0).part ≡ Unmade)
  made_or_not p i = by (h.accounts p i 0).part refl
    where
      by : (q : Part) → (h.accounts p i 0).part ≡ q → IsMade (h.accounts p i 0) ⊎ ((h.accounts p i 0).part ≡ Unmade)
      by Unmade is = inr is
      by Opener is = inl (λ k. let two = sym is ∙ k in absurd cc)
      by Acceptor is = inl (λ k. let two = sym is ∙ k in absurd cc)
      by Renewed is = inl (λ k. let two = sym is ∙ k in absurd cc)

  node_as : (y : ℕ) → c.tunnels.node y ≡ m.tunnels.node y
  node_as y = ap (λ f. f y) wr.node

  in_phase : (y : ℕ) → c.tunnels.phase y ≡ m.tunnels.phase y
  in_phase y = ap (λ f. f y) wr.phase

  own_gone : (y : ℕ) → m.tunnels.node y ≡ n → z.tunnels.phase y ≡ Gone
  own_gone y own = phase_is y ∙ ap (λ b. if b then Gone else c.tunnels.phase y) (eq-eqb (c.tunnels.node y) n (node_as y ∙ own))

  still_gone : (y : ℕ) → m.tunnels.phase y ≡ Gone → z.tunnels.phase y ≡ Gone
  still_gone y none = phase_is y ∙ by (c.tunnels.node y == n)
    where
      by : (b : Bool) → (if b then Gone else c.tunnels.phase y) ≡ Gone
      by true = refl
      by false = in_phase y ∙ none

  other_phase : (y : ℕ) → (m.tunnels.node y ≡ n → ⊥) → z.tunnels.phase y ≡ m.tunnels.phase y
  other_phase y o =
      phase_is y ∙ (ap (λ b. if b then Gone else c.tunnels.phase y) (ne_eqb (c.tunnels.node y) n (λ e. o (sym (node_as y) ∙ e)))
      ∙ in_phase y)

  tunnel_as : (p i : ℕ) (o o2 : Option Tunnel) (b b2 : Option BookTunnel) → TunnelJoined m w h p i o b
      → z.tunnels.phase (name p i) ≡ phase_in p o2 → c.tunnels.booked (name p i) ≡ is_some b2
      → LearnedSo h.accounts p i (c.tunnels.learned (name p i)) → TunnelJoined z u h p i o2 b2
  unfolding falls goes_down
  tunnel_as p i o o2 b b2 t phase booked learned =
      let y = name p i in
      record {
        opener = ap (λ f. f y) wr.opener ∙ t.opener;
        node = λ made. ap (λ f. f y) wr.node ∙ t.node made;
        peer = λ made. ap (λ f. f y) wr.peer ∙ t.peer made;
        learned = learned;
        phase = phase;
        booked = booked;
        entered = ap (λ f. f y) wr.entered ∙ (t.entered ∙ sym (epochs_same p i));
        epochs = ap (λ f. f y) wr.epochs ∙ (t.epochs ∙ sym (made_same p i));
        entered_by = λ e. ap (λ f. f y e) wr.entered_by ∙ t.entered_by e;
        sent = λ e. ap (λ (f : Channels). f.sent y e) wr.channels ∙ t.sent e;
        taken = λ e. ap (λ (f : Channels). f.taken y e) wr.channels ∙ t.taken e;
        refused = ap (λ (f : Channels). f.refused y) wr.channels ∙ t.refused;
      }

  own_tunnel : (i : ℕ) → i < 65536 → TunnelJoined z u h n i (live_in (at u.nodes n) i) (kept_in (at u.nodes n) i)
  own_tunnel i fits =
      let t = joined.tunnels n i node_fits fits in
      let none : live_in (at u.nodes n) i ≡ None = ap (λ q. live_in q i) here ∙ (ap (λ q. at q i) fell.tunnels ∙ at-none i) in
      let phase : z.tunnels.phase (name n i) ≡ Gone = ⊎_elim
      (λ made. own_gone (name n i) (t.node made))
      (λ unmade. still_gone (name n i) (t.phase ∙ ap (phase_in n) (unmade_live n i unmade (at w.nodes n) refl)))
      (made_or_not n i) in
      tunnel_as n i _ _ _ _ t (phase ∙ ap (phase_in n) (sym none))
      (cut.booked i fits ∙ sym (ap (λ q. is_some (kept_in q i)) here ∙ ap (λ q. is_some (tunnel_at q i)) fell.book)) (cut.learned i fits)

  other_tunnel : (p i : ℕ) → p < 256 → i < 65536 → (p ≡ n → ⊥) → TunnelJoined z u h p i (live_in (at u.nodes p) i) (kept_in
      (at u.nodes p) i)
  other_tunnel p i lt fits o = subst (λ q. TunnelJoined z u h p i (live_in q i) (kept_in q i)) (sym (there p o)) (⊎_elim
      (λ made.
      let t = joined.tunnels p i lt fits in
      let away : m.tunnels.node (name p i) ≡ n → ⊥ = λ e. o (sym (t.node made) ∙ e) in
      tunnel_as p i _ _ _ _ t (other_phase (name p i) away ∙ t.phase) (wr.booked (name p i) away ∙ t.booked)
      (subst (LearnedSo h.accounts p i) (sym (wr.learned (name p i) away)) t.learned))
      (λ unmade.
      let t = joined.tunnels p i lt fits in
      let live = unmade_live p i unmade (at w.nodes p) refl in
      let kept = unmade_kept p i unmade (at w.nodes p) refl in
      let gone : m.tunnels.phase (name p i) ≡ Gone = t.phase ∙ ap (phase_in p) live in
      tunnel_as p i _ _ _ _ t (still_gone (name p i) gone ∙ ap (phase_in p) (sym live))
      (wr.idle (name p i) gone (t.booked ∙ ap (λ q. is_some q) kept) ∙ ap (λ q. is_some q) (sym kept))
      (subst (LearnedSo h.accounts p i) (sym (wr.unlearned (name p i) gone)) t.learned))
      (made_or_not p i))

  all_tunnels : (p i : ℕ) → p < 256 → i < 65536 → TunnelJoined z u h p i (live_in (at u.nodes p) i) (kept_in (at u.nodes p) i)
  all_tunnels p i lt fits = ⊎_elim
      (λ (e : p ≡ n). subst (λ y. TunnelJoined z u h y i (live_in (at u.nodes y) i) (kept_in (at u.nodes y) i)) (sym e) (own_tunnel i fits))
      (λ o. other_tunnel p i lt fits o)
      (same_or_not p n)

  -- ---- attempts and answers

  attempt_as : (p a : ℕ) (o : Option Restored) → AttemptJoined m p a o → AttemptJoined z p a o
  unfolding falls goes_down
  attempt_as p a None t = ap (λ f. f (name p a)) wr.attempts ∙ t
  attempt_as p a (Some r) t = ap (λ f. f (name p a)) wr.attempts ∙ t

  answer_as : (p x : ℕ) (o : Option Froze) → AnswerJoined m w h p x o → AnswerJoined z u h p x o
  unfolding falls goes_down
  answer_as p x None t = ap (λ f. f (name p x)) wr.answers ∙ t
  answer_as p x (Some f) t = record {
    given = ap (λ k. k (name p x)) wr.answers ∙ t.given;
    answered = ap (λ k. k (name p x)) wr.answered ∙ t.answered;
    epoch = ap (λ k. k (name p x)) wr.makes_it ∙ (t.epoch ∙ sym (makes_same p x));
    own = ap (λ k. k (name p x)) wr.giver_first ∙ t.own;
    theirs = ap (λ k. k (name p x)) wr.other_first ∙ t.theirs;
    confirmed = λ is.
        ap (λ k. k (name p x)) wr.confirmed
        ∙ t.confirmed (subst (λ e. (h.accounts (node_of f.peer) f.remote e).answer ≡ Some (record { node = p; tunnel = x }))
        (makes_same p x) is);
  }

  -- ---- calls

  state_is : (y : ℕ) → z.calls.state y ≡ (if c.tunnels.node (c.calls.tunnel y) == n then NoCall else c.calls.state y)
  unfolding falls loses
  state_is y = refl

  home_as : (y : ℕ) → c.tunnels.node (c.calls.tunnel y) ≡ m.tunnels.node (m.calls.tunnel y)
  home_as y = node_as (c.calls.tunnel y) ∙ ap (λ f. m.tunnels.node (f y)) wr.tunnel

  no_call : (y : ℕ) → m.calls.state y ≡ NoCall → z.calls.state y ≡ NoCall
  no_call y none = state_is y ∙ by (c.tunnels.node (c.calls.tunnel y) == n)
    where
      by : (b : Bool) → (if b then NoCall else c.calls.state y) ≡ NoCall
      by true = refl
      by false = wr.gone y none

  same_state : (y : ℕ) → (m.tunnels.node (m.calls.tunnel y) ≡ n → ⊥) → z.calls.state y ≡ m.calls.state y
  same_state y o =
      state_is y
      ∙ (ap (λ b. if b then NoCall else c.calls.state y) (ne_eqb (c.tunnels.node (c.calls.tunnel y)) n (λ e. o (sym (home_as y) ∙ e)))
      ∙ wr.state y o)

  own_state : (y : ℕ) → m.tunnels.node (m.calls.tunnel y) ≡ n → z.calls.state y ≡ NoCall
  own_state y own =
      state_is y ∙ ap (λ b. if b then NoCall else c.calls.state y) (eq-eqb (c.tunnels.node (c.calls.tunnel y)) n (home_as y ∙ own))

  -- what falls leaves of a call
  tunnel_falls : (y : ℕ) → z.calls.tunnel y ≡ m.calls.tunnel y
  unfolding falls loses
  tunnel_falls y = ap (λ f. f y) wr.tunnel

  remote_falls : (y : ℕ) → z.calls.remote y ≡ c.calls.remote y
  unfolding falls loses
  remote_falls y = refl

  booked_falls : (y : ℕ) → z.calls.booked y ≡ c.calls.booked y
  unfolding falls loses
  booked_falls y = refl

  drawn_falls : (y : ℕ) → z.calls.drawn y ≡ m.calls.drawn y
  unfolding falls loses
  drawn_falls y = ap (λ f. f y) wr.calls_drawn

  node_falls : (y : ℕ) → z.tunnels.node y ≡ m.tunnels.node y
  unfolding falls goes_down
  node_falls y = node_as y

  kept_falls : (s : ℕ) (b : BookCall) → BookCallJoined c h n s b → BookCallJoined z h n s b
  unfolding falls loses
  kept_falls s b t = record { tunnel = t.tunnel; remote = t.remote }

  -- those of the node
  were : CallsJoined m h n old
  were = let k : NodeJoined m h n (Some old) = subst (NodeJoined m h n) was (joined.nodes n node_fits) in k.1

  all_gone : (s : ℕ) → s < 65536 → z.calls.state (name n s) ≡ NoCall
  all_gone s fits = ⊎_elim
      (λ live. own_state (name n s) (were.home s fits live))
      (λ none. no_call (name n s) none)
      (live_or_not (m.calls.state (name n s)))

  own_calls : CallsJoined z h n new
  own_calls = record {
    live = λ i t at_t s d at_d. absurd (none-some t (sym (at-none i) ∙ (ap (λ q. at q i) (sym fell.tunnels) ∙ at_t)));
    gone = λ s fits none. all_gone s fits;
    kept = λ s b is. kept_falls s b (cut.kept s b (ap (λ q. call_at q s) (sym fell.book) ∙ is));
    booked = λ s fits. booked_falls (name n s) ∙ (cut.calls s fits ∙ ap (λ q. is_some (call_at q s)) (sym fell.book));
    home = λ s fits live. absurd (true≢false (sym live ∙ ap lives (all_gone s fits)));
    undrawn = λ s le fits. drawn_falls (name n s) ∙ were.undrawn s (let up = fell.next in omega (arith, up, le)) fits;
    zero = drawn_falls (name n 0) ∙ were.zero;
  }

  -- those of another one
  module _ (p : ℕ) (o : p ≡ n → ⊥) (lt : p < 256) where
    -- where a call of it lives, it is in a tunnel of its own
    state_same : (a : Option Node) → NodeJoined m h p a → (s : ℕ) → s < 65536 → z.calls.state (name p s) ≡ m.calls.state (name p s)
    state_same None k s fits = no_call (name p s) (k.1 s fits).0 ∙ sym (k.1 s fits).0
    state_same (Some a) k s fits = ⊎_elim
        (λ live. same_state (name p s) (λ e. o (sym (k.1.home s fits live) ∙ e)))
        (λ none. no_call (name p s) none ∙ sym none)
        (live_or_not (m.calls.state (name p s)))

    module _ (a : Node) (is : at w.nodes p ≡ Some a) (k : CallsJoined m h p a) where
      held : HoldsNode a
      held = nodes p a is

      -- a call of its book is in a tunnel of the node
      book_away : (s : ℕ) (b : BookCall) → call_at a.checkpoint.book s ≡ Some b → m.tunnels.node (m.calls.tunnel (name p s)) ≡ n → ⊥
      book_away s b has e = in_it (tunnel_at a.checkpoint.book b.tunnel) refl
        where
          home : is_some (tunnel_at a.checkpoint.book b.tunnel) ≡ true
          home = (entry_found (λ (y : BookCall). y.local) (λ (y : BookCall). is_some (tunnel_at a.checkpoint.book y.tunnel) ≡ true) s
              a.checkpoint.book.calls b held.sound.homes has).1

          in_it : (q : Option BookTunnel) → tunnel_at a.checkpoint.book b.tunnel ≡ q → ⊥
          in_it None none = true≢false (sym home ∙ ap (λ q. is_some q) none)
          in_it (Some t) there =
              let ok : EndOk w h p a.end × BookOk h p a.checkpoint.book = subst (NodeOk w h p) is (holds.nodes p) in
              let local = entry_has (λ (y : BookTunnel). y.local) b.tunnel a.checkpoint.book.tunnels t there in
              let made : IsMade (h.accounts p b.tunnel 0) = subst (λ y. IsMade (h.accounts p y 0)) local
              (ok.1.tunnels b.tunnel t there).made in
              let fits = (holds.accounts p b.tunnel 0).id made in
              o (sym (ap m.tunnels.node (k.kept s b has).tunnel ∙ (joined.tunnels p b.tunnel lt fits).node made) ∙ e)

      booked_same : (s : ℕ) → s < 65536 → z.calls.booked (name p s) ≡ m.calls.booked (name p s)
      booked_same s fits = booked_falls (name p s) ∙ by (call_at a.checkpoint.book s) refl
        where
          by : (q : Option BookCall) → call_at a.checkpoint.book s ≡ q → c.calls.booked (name p s) ≡ m.calls.booked (name p s)
          by (Some b) has = wr.call_booked (name p s) (book_away s b has)
          by None none =
              let free : m.calls.booked (name p s) ≡ false = k.booked s fits ∙ ap (λ q. is_some q) none in
              ⊎_elim
              (λ live. wr.call_booked (name p s) (λ e. o (sym (k.home s fits live) ∙ e)))
              (λ dead. wr.dead (name p s) dead free ∙ sym free)
              (live_or_not (m.calls.state (name p s)))

      calls_on : (m.tunnels.up p ≡ a.up) → CallsJoined z h p a
      calls_on up = record {
        live = λ i t at_t s d at_d.
            (let fits = (bounded a held).sessions i t at_t s d at_d in
            let b = k.live i t at_t s d at_d in
            let own_tunnel = (bounded a held).tunnels i t at_t in
            let ok : EndOk w h p a.end × BookOk h p a.checkpoint.book = subst (NodeOk w h p) is (holds.nodes p) in
            let at_node = (joined.tunnels p i lt own_tunnel).node (ok.0.live i t at_t).made in
            record {
              some = b.some;
              state = state_same (Some a) (up, k) s fits ∙ b.state;
              tunnel = tunnel_falls (name p s) ∙ b.tunnel;
              remote = remote_falls (name p s)
                  ∙ (wr.remote (name p s) (λ e. o (sym (ap m.tunnels.node b.tunnel ∙ at_node) ∙ e)) ∙ b.remote);
            });
        gone = λ s fits none. state_same (Some a) (up, k) s fits ∙ k.gone s fits none;
        kept = λ s b has.
            (let t = k.kept s b has in
            record {
              tunnel = tunnel_falls (name p s) ∙ t.tunnel;
              remote = remote_falls (name p s) ∙ (wr.remote (name p s) (book_away s b has) ∙ t.remote);
            });
        booked = λ s fits. booked_same s fits ∙ k.booked s fits;
        home = λ s fits live.
            node_falls (z.calls.tunnel (name p s))
            ∙ (ap m.tunnels.node (tunnel_falls (name p s)) ∙ k.home s fits (sym (ap lives (state_same (Some a) (up, k) s fits)) ∙ live));
        undrawn = λ s le fits. drawn_falls (name p s) ∙ k.undrawn s le fits;
        zero = drawn_falls (name p 0) ∙ k.zero;
      }

    up_falls : z.tunnels.up p ≡ m.tunnels.up p
    unfolding falls goes_down
    up_falls = ap (λ b. if b then false else c.tunnels.up p) (ne_eqb p n o) ∙ ap (λ f. f p) wr.up

    node_on : (a : Option Node) → at w.nodes p ≡ a → NodeJoined m h p a → NodeJoined z h p a
    node_on None is k = (
      up_falls ∙ k.0,
      λ s fits. (
        state_same None k s fits ∙ (k.1 s fits).0,
        drawn_falls (name p s) ∙ (k.1 s fits).1,
        booked_falls (name p s) ∙ (wr.dead (name p s) (k.1 s fits).0 (k.1 s fits).2),
      ),
    )
    node_on (Some a) is k = (up_falls ∙ k.0, calls_on a is k.1 k.0)

  up_here : z.tunnels.up n ≡ false
  unfolding falls goes_down
  up_here = ap (λ b. if b then false else c.tunnels.up n) (eq-eqb n n refl)

  all_nodes : (p : ℕ) → p < 256 → NodeJoined z h p (at u.nodes p)
  all_nodes p lt = ⊎_elim
      (λ (e : p ≡ n).
      subst (λ y. NodeJoined z h y (at u.nodes y)) (sym e) (subst (NodeJoined z h n) (sym here) (up_here ∙ sym fell.up, own_calls)))
      (λ (o : p ≡ n → ⊥). subst (NodeJoined z h p) (sym (there p o)) (node_on p o lt (at w.nodes p) refl (joined.nodes p lt)))
      (same_or_not p n)

  -- ---- the whole

  births_fall : (z.calls.births ≡ m.calls.births) × ((y : ℕ) → z.calls.birth y ≡ m.calls.birth y)
  unfolding falls loses
  births_fall = (wr.births, λ y. ap (λ f. f y) wr.birth)

  names_fall : (y : ℕ) → z.tunnels.drawn y ≡ m.tunnels.drawn y
  unfolding falls goes_down
  names_fall y = ap (λ f. f y) wr.drawn

  pub fallen_joined : AreJoined (with_node w n new) h (falls c n)
  fallen_joined = record {
    drawn = λ p k lt fits. names_fall (name p k) ∙ joined.drawn p k lt fits;
    tunnels = all_tunnels;
    attempts = λ p a lt fits. attempt_as p a (h.attempts p a) (joined.attempts p a lt fits);
    answers = λ p x lt fits. answer_as p x (h.answers p x) (joined.answers p x lt fits);
    nodes = all_nodes;
    births = (
      births_fall.0 ∙ joined.births.0,
      λ p s lt fits. births_fall.1 (name p s) ∙ (joined.births.1 p s lt fits
          ∙ sym (births_same p s)),
    );
    moves = joined.moves ++ moves.Stops n ks ∷ [];
    run = sym stops ∙ (sym (one_step all_rules m (moves.Stops n ks))
        ∙ (ap (λ y. goes_on all_rules y (moves.Stops n ks ∷ [])) joined.run ∙ sym (run_on all_rules empty_world joined.moves
        (moves.Stops n ks ∷ []))));
  }

  -- ---- what is asked for, and names

  asks_fall : (z.calls.asks ≡ m.calls.asks) × (z.calls.held ≡ m.calls.held)
  unfolding falls loses
  asks_fall = (wr.asks, wr.held)

  entered_falls : z.tunnels.entered ≡ m.tunnels.entered
  unfolding falls goes_down
  entered_falls = wr.entered

  query_as : (p i peer : ℕ) (t : Tunnel) → QueryJoined m p i peer t → QueryJoined z p i peer t
  query_as p i peer t k = record {
    asks = λ y. ap (λ f. f (name p i) y) asks_fall.0 ∙ k.asks y;
    held = all_map (IsHeld m p i peer) (IsHeld z p i peer)
        (λ (pair : Pair) is. ap₂ (λ f e. f (name p i) e (name p pair.sender)) asks_fall.1 (ap (λ f. f (name p i)) entered_falls) ∙ is)
        (left_of t.query) k.held;
  }

  queries_fall : QueriesJoined w h m → QueriesJoined u h z
  queries_fall queries p i t is current three = ⊎_elim
      (λ (e : p ≡ n).
      let same : is.node ≡ new = same_Some is.node new (sym is.is ∙ (ap (at u.nodes) e ∙ here)) in
      absurd (none-some t (sym (at-none i) ∙ (ap (λ q. at q i) (sym fell.tunnels) ∙ (ap (λ (y : Node). at y.end.tunnels i) (sym same)
      ∙ is.there)))))
      (λ (o : p ≡ n → ⊥).
      let live : IsLive w p i t = record { node = is.node; is = sym (there p o) ∙ is.is; there = is.there } in
      query_as p i (h.accounts p i 0).peer t (queries p i t live current three))
      (same_or_not p n)

  pub fallen_whole : QueriesJoined w h m → CallsAreNamed m → IsJoined (with_node w n new) h (falls c n)
  fallen_whole queries named = record {
    joined = fallen_joined;
    queries = queries_fall queries;
    named = λ y is. named y (sym (drawn_falls y) ∙ is);
  }

pub fallen_nodes_join : FallenNodesJoin
fallen_nodes_join w h m nodes holds j n old new k ks was fell allowed cut =
    fallen_whole w h nodes holds m j.joined n old new was k fell (writes m ks) (all_written m n ks allowed) cut ks
    (stop_is_cut m n ks allowed)
    j.queries j.named
