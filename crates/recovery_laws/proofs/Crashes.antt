-- A crash is a stop of the machine without a record: the node's tunnels and calls are gone, and what is in its book stays.
use Rattle.std.proofs.Common.{◌≡◌, ◌⊎◌, inl, inr, ⊎_elim, ℕ, ◌≤◌, ◌<◌, Bool, true, false, List, [], ◌∷◌, ◌++◌, refl, sym, ap, ◌∙◌, subst, Option, Some, None, arith}
use Rattle.std.proofs.lemmas.Bool.{true≢false, eqb-true, eqb-false, ne_eqb}
use Rattle.std.proofs.lemmas.Option.{none-some}
use Rattle.std.specs.Prelude.{is_some, unwrap_or, ◌==◌, if◌then◌else◌}
use Rattle.id_table.specs.Ids.{at, at-none}
use Rattle.id_table.specs.Order.{at_new, at_other, same_or_not}
use Rattle.session_book.specs.Books.{tunnel_at, call_at}
use Rattle.session_book.specs.declared.record.BookTunnel.{BookTunnel}
use Rattle.session_book.specs.declared.record.BookCall.{BookCall}
use Rattle.end_names.specs.Names.{node_of}
use Rattle.end_model.specs.declared.moves.Restored.{Restored}
use Rattle.end_model.specs.declared.moves.Froze.{Froze}
use Rattle.end_model.specs.declared.tunnel.Call.{Call}
use Rattle.end_model.specs.Tunnels.{Tunnel}
use Rattle.world_model.specs.World.{World, Node, birth_of, birth_in, standing_of, epoch_of, with_node, fallen, without_held}
use Rattle.epoch_machine.specs.Worlds as machine
use Rattle.epoch_machine.specs.Worlds.{Rules, all_rules, empty_world}
use Rattle.epoch_machine.specs.Tunnels.{Gone, goes_down}
use Rattle.epoch_machine.specs.Calls.{CallState, NoCall, Waits, WaitsReply, WaitsConnect, Up, lives, loses}
use Rattle.epoch_machine.specs.Moves.{Move, Stops, keeps_all, falls, step, goes_on, after}
use Rattle.session_laws.specs.Names.{name}
use Rattle.node_laws.specs.Nodes.{HoldsNode}
use Rattle.channel_laws.specs.Accounts.{Part, Unmade, Opener, Acceptor, Renewed, History}
use Rattle.channel_laws.specs.Facts.{IsMade, makes, EndOk, BookOk, NodeOk, Holds}
use Rattle.channel_laws.proofs.Resting.{RestsBy, fell, fell_rests, epochs_rest, made_rests, makes_rest, rests_but}
use Rattle.recovery_laws.specs.Queries.{QueryJoined, QueriesJoined}
use Rattle.recovery_laws.specs.Joined.{phase_in, TunnelJoined, AttemptJoined, AnswerJoined, CallJoined, BookCallJoined, CallsJoined, NodeJoined, live_in, kept_in, AreJoined}

-- ---- runs of the machine

one_more : (r : Rules) (ms : List Move) (m : Move) (w : machine.World) → goes_on r w (ms ++ m ∷ []) ≡ step r (goes_on r w ms) m
unfolding goes_on
one_more r [] m w = refl
one_more r (k ∷ ms) m w = one_more r ms m (step r w k)

-- the machine after one move more
pub after_one : (r : Rules) (ms : List Move) (m : Move) (w : machine.World) → w ≡ after r ms → step r w m ≡ after r (ms ++ m ∷ [])
after_one r ms m w is = ap (λ v. step r v m) is ∙ sym (one_more r ms m empty_world)

stopped : (w : machine.World) (n : ℕ) → step all_rules w (Stops n []) ≡ falls w n
unfolding step keeps_all
stopped w n = refl

-- ---- what the machine's fall leaves

not_live : (s : CallState) → (lives s ≡ true → ⊥) → s ≡ NoCall
not_live NoCall h = refl
not_live Waits h = absurd (h refl)
not_live WaitsReply h = absurd (h refl)
not_live WaitsConnect h = absurd (h refl)
not_live Up h = absurd (h refl)

module _ (m : machine.World) (n : ℕ) where
  abbrev there : machine.World
  there = falls m n

  phase_falls : (x : ℕ) → there.tunnels.phase x ≡ (if m.tunnels.node x == n then Gone else m.tunnels.phase x)
  unfolding falls goes_down
  phase_falls x = refl

  state_falls : (z : ℕ) → there.calls.state z ≡ (if m.tunnels.node (m.calls.tunnel z) == n then NoCall else m.calls.state z)
  unfolding falls loses
  state_falls z = refl

  gone_phase : (x : ℕ) → m.tunnels.phase x ≡ Gone → there.tunnels.phase x ≡ Gone
  gone_phase x gone = phase_falls x ∙ by (m.tunnels.node x == n)
    where
      by : (b : Bool) → (if b then Gone else m.tunnels.phase x) ≡ Gone
      by true = refl
      by false = gone

  own_phase : (x : ℕ) → m.tunnels.node x ≡ n → there.tunnels.phase x ≡ Gone
  own_phase x own = phase_falls x ∙ by (m.tunnels.node x == n) refl
    where
      by : (b : Bool) → (m.tunnels.node x == n) ≡ b → (if b then Gone else m.tunnels.phase x) ≡ Gone
      by true is = refl
      by false is = absurd (eqb-false (m.tunnels.node x) n is own)

  other_phase : (x : ℕ) → (m.tunnels.node x ≡ n → ⊥) → there.tunnels.phase x ≡ m.tunnels.phase x
  other_phase x other = phase_falls x ∙ by (m.tunnels.node x == n) refl
    where
      by : (b : Bool) → (m.tunnels.node x == n) ≡ b → (if b then Gone else m.tunnels.phase x) ≡ m.tunnels.phase x
      by true is = absurd (other (eqb-true (m.tunnels.node x) n is))
      by false is = refl

  no_call : (z : ℕ) → m.calls.state z ≡ NoCall → there.calls.state z ≡ NoCall
  no_call z none = state_falls z ∙ by (m.tunnels.node (m.calls.tunnel z) == n)
    where
      by : (b : Bool) → (if b then NoCall else m.calls.state z) ≡ NoCall
      by true = refl
      by false = none

  other_call : (z : ℕ) → (m.tunnels.node (m.calls.tunnel z) ≡ n → ⊥) → there.calls.state z ≡ m.calls.state z
  other_call z other = state_falls z ∙ by (m.tunnels.node (m.calls.tunnel z) == n) refl
    where
      by : (b : Bool) → (m.tunnels.node (m.calls.tunnel z) == n) ≡ b → (if b then NoCall else m.calls.state z) ≡ m.calls.state z
      by true is = absurd (other (eqb-true (m.tunnels.node (m.calls.tunnel z)) n is))
      by false is = refl

  -- where a call lives only in a tunnel of the node
  own_call : (z : ℕ) → (lives (m.calls.state z) ≡ true → m.tunnels.node (m.calls.tunnel z) ≡ n) → there.calls.state z ≡ NoCall
  own_call z home = state_falls z ∙ by (m.tunnels.node (m.calls.tunnel z) == n) refl
    where
      by : (b : Bool) → (m.tunnels.node (m.calls.tunnel z) == n) ≡ b → (if b then NoCall else m.calls.state z) ≡ NoCall
      by true is = refl
      by false is = not_live (m.calls.state z) (λ live. eqb-false (m.tunnels.node (m.calls.tunnel z)) n is (home live))

  was_live : (z : ℕ) → lives (there.calls.state z) ≡ true → lives (m.calls.state z) ≡ true
  was_live z live = by (m.tunnels.node (m.calls.tunnel z) == n) (ap lives (sym (state_falls z)) ∙ live)
    where
      by : (b : Bool) → lives (if b then NoCall else m.calls.state z) ≡ true → lives (m.calls.state z) ≡ true
      by true h = absurd (true≢false (sym h))
      by false h = h

-- ---- the crash

module _ (w : World) (h : History) (number n : ℕ) (old : Node) (was : at w.nodes n ≡ Some old) (up : old.up ≡ true) (node : HoldsNode old) (holds : Holds w h)
    (m : machine.World) (joined : AreJoined w h m) where
  abbrev new : Node
  new = fell w h number n old was up node holds

  abbrev v : World
  v = without_held (with_node w n new) n

  abbrev v' : World
  v' = with_node w n new

  rests : (k : ℕ) → RestsBy h k (at w.nodes k) (at v'.nodes k)
  rests = rests_but w h n old new was holds (fell_rests w h number n old was up node holds)

  epoch_same : (k i : ℕ) → epoch_of v k i ≡ epoch_of w k i
  unfolding standing_of
  epoch_same k i = epochs_rest w v' h rests k i

  made_same : (k i : ℕ) → (standing_of v k i).made ≡ (standing_of w k i).made
  unfolding standing_of
  made_same k i = made_rests w v' h rests k i

  makes_same : (k c : ℕ) → makes v k c ≡ makes w k c
  makes_same k c = makes_rest w v' h rests k c

  here : at v.nodes n ≡ Some new
  here = at_new w.nodes n new

  there_at : (k : ℕ) → (k ≡ n → ⊥) → at v.nodes k ≡ at w.nodes k
  there_at k o = at_other w.nodes n new k o

  new_book : new.checkpoint.book ≡ old.checkpoint.book
  unfolding fallen
  new_book = refl

  new_tunnels : new.end.tunnels ≡ []
  unfolding fallen
  new_tunnels = refl

  new_up : new.up ≡ false
  unfolding fallen
  new_up = refl

  new_births : new.births ≡ old.births
  unfolding fallen
  new_births = refl

  -- of no tunnel that was never made anything is live
  unmade_gone : (k i : ℕ) → (h.accounts k i 0).part ≡ Unmade → (o : Option Node) → at w.nodes k ≡ o → live_in o i ≡ None
  unmade_gone k i unmade None is = refl
  unmade_gone k i unmade (Some a) is = by (at a.end.tunnels i) refl
    where
      by : (o : Option Tunnel) → at a.end.tunnels i ≡ o → o ≡ None
      by None at_none = refl
      by (Some t) at_it =
          let ok : EndOk w h k a.end × BookOk h k a.checkpoint.book = subst (NodeOk w h k) is (holds.nodes k) in absurd ((ok.0.live i t at_it).made unmade)

  made_or_not : (k i : ℕ) → IsMade (h.accounts k i 0) ⊎ ((h.accounts k i 0).part ≡ Unmade)
  made_or_not k i = by (h.accounts k i 0).part refl
    where
      by : (p : Part) → (h.accounts k i 0).part ≡ p → IsMade (h.accounts k i 0) ⊎ ((h.accounts k i 0).part ≡ Unmade)
      by Unmade is = inr is
      by Opener is = inl (λ z. let two = sym is ∙ z in absurd cc)
      by Acceptor is = inl (λ z. let two = sym is ∙ z in absurd cc)
      by Renewed is = inl (λ z. let two = sym is ∙ z in absurd cc)

  -- a tunnel of which the machine's phase, and the live one, is known
  tunnel_falls : (k i : ℕ) (o p : Option Tunnel) (b : Option BookTunnel) → TunnelJoined m w h k i o b → (falls m n).tunnels.phase (name k i) ≡ phase_in k p
      → TunnelJoined (falls m n) v h k i p b
  unfolding falls goes_down
  tunnel_falls k i o p b t phase = record {
    opener = t.opener;
    node = t.node;
    peer = t.peer;
    learned = t.learned;
    phase = phase;
    booked = t.booked;
    entered = t.entered ∙ sym (epoch_same k i);
    epochs = t.epochs ∙ sym (made_same k i);
    entered_by = t.entered_by;
    sent = t.sent;
    taken = t.taken;
    refused = t.refused;
  }

  own_tunnel : (i : ℕ) → i < 65536 → n < 256 → TunnelJoined (falls m n) v h n i (live_in (at v.nodes n) i) (kept_in (at v.nodes n) i)
  own_tunnel i fits lt =
      let t = joined.tunnels n i lt fits in
      let gone : live_in (at v.nodes n) i ≡ None = ap (λ q. live_in q i) here ∙ (ap (λ q. at q i) new_tunnels ∙ at-none i) in
      let kept : kept_in (at v.nodes n) i ≡ kept_in (at w.nodes n) i = ap (λ q. kept_in q i) here ∙ (ap (λ q. tunnel_at q i) new_book ∙ sym (ap (λ q. kept_in q i) was)) in
      let phase : (falls m n).tunnels.phase (name n i) ≡ Gone = ⊎_elim
      (λ (made : IsMade (h.accounts n i 0)). own_phase m n (name n i) (t.node made))
      (λ (unmade : (h.accounts n i 0).part ≡ Unmade). gone_phase m n (name n i) (t.phase ∙ ap (phase_in n) (unmade_gone n i unmade (at w.nodes n) refl)))
      (made_or_not n i) in
      subst (λ o. TunnelJoined (falls m n) v h n i o (kept_in (at v.nodes n) i)) (sym gone)
      (subst (λ b. TunnelJoined (falls m n) v h n i None b) (sym kept) (tunnel_falls n i (live_in (at w.nodes n) i) None (kept_in (at w.nodes n) i) t phase))

  other_tunnel : (k i : ℕ) → k < 256 → i < 65536 → (k ≡ n → ⊥) → TunnelJoined (falls m n) v h k i (live_in (at v.nodes k) i) (kept_in (at v.nodes k) i)
  other_tunnel k i lt fits o =
      let t = joined.tunnels k i lt fits in
      let phase : (falls m n).tunnels.phase (name k i) ≡ phase_in k (live_in (at w.nodes k) i) = ⊎_elim
      (λ (made : IsMade (h.accounts k i 0)). other_phase m n (name k i) (λ e. o (sym (t.node made) ∙ e)) ∙ t.phase)
      (λ (unmade : (h.accounts k i 0).part ≡ Unmade).
      let none = unmade_gone k i unmade (at w.nodes k) refl in
      gone_phase m n (name k i) (t.phase ∙ ap (phase_in k) none) ∙ sym (ap (phase_in k) none))
      (made_or_not k i) in
      subst (λ q. TunnelJoined (falls m n) v h k i (live_in q i) (kept_in q i)) (sym (there_at k o))
      (tunnel_falls k i (live_in (at w.nodes k) i) (live_in (at w.nodes k) i) (kept_in (at w.nodes k) i) t phase)

  -- ---- answers

  answer_falls : (k c : ℕ) (o : Option Froze) → AnswerJoined m w h k c o → AnswerJoined (falls m n) v h k c o
  unfolding falls goes_down
  answer_falls k c None a = a
  answer_falls k c (Some f) a = record {
    given = a.given;
    answered = a.answered;
    epoch = a.epoch ∙ sym (makes_same k c);
    own = a.own;
    theirs = a.theirs;
    confirmed = λ is. a.confirmed (subst (λ e. (h.accounts (node_of f.peer) f.remote e).answer ≡ Some (record { node = k; tunnel = c })) (makes_same k c) is);
  }

  attempt_falls : (k a : ℕ) (o : Option Restored) → AttemptJoined m k a o → AttemptJoined (falls m n) k a o
  unfolding falls goes_down
  attempt_falls k a None is = is
  attempt_falls k a (Some r) is = is

  -- ---- calls

  book_call_falls : (k s : ℕ) (b : BookCall) → BookCallJoined m h k s b → BookCallJoined (falls m n) h k s b
  unfolding falls loses
  book_call_falls k s b c = record { tunnel = c.tunnel; remote = c.remote }

  booked_falls : (z : ℕ) → (falls m n).calls.booked z ≡ m.calls.booked z
  unfolding falls loses
  booked_falls z = refl

  drawn_falls : (z : ℕ) → (falls m n).calls.drawn z ≡ m.calls.drawn z
  unfolding falls loses
  drawn_falls z = refl

  home_falls : (k z : ℕ) → m.tunnels.node (m.calls.tunnel z) ≡ k → (falls m n).tunnels.node ((falls m n).calls.tunnel z) ≡ k
  unfolding falls loses goes_down
  home_falls k z is = is

  -- its session ids go on above those that were drawn
  sessions_above : old.end.session_ids.next ≤ new.end.session_ids.next
  unfolding fallen
  sessions_above =
      let u = node.up up in
      let drawn = u.fit.session_ids.drawn in
      let same = u.book.session_ceiling in
      omega (arith, drawn, same)

  own_calls : CallsJoined m h n old → CallsJoined (falls m n) h n new
  own_calls c = record {
    live = λ i t there s call is. absurd (none-some t (sym (at-none i) ∙ (ap (λ q. at q i) (sym new_tunnels) ∙ there)));
    gone = λ s fits none. own_call m n (name n s) (c.home s fits);
    kept = λ s b is. book_call_falls n s b (c.kept s b (ap (λ q. call_at q s) (sym new_book) ∙ is));
    booked = λ s fits. booked_falls (name n s) ∙ (c.booked s fits ∙ sym (ap (λ q. is_some (call_at q s)) new_book));
    home = λ s fits live. home_falls n (name n s) (c.home s fits (was_live m n (name n s) live));
    undrawn = λ s le fits. drawn_falls (name n s) ∙ c.undrawn s (let up = sessions_above in omega (arith, le, up)) fits;
    zero = drawn_falls (name n 0) ∙ c.zero;
  }

  live_falls : (k i peer s : ℕ) (c : Call) → m.tunnels.node (name k i) ≡ k → (k ≡ n → ⊥) → CallJoined m k i peer s c → CallJoined (falls m n) k i peer s c
  unfolding falls loses
  live_falls k i peer s c at_node o j = record {
    some = j.some;
    state = other_call m n (name k s) (λ e. o (sym at_node ∙ (ap m.tunnels.node (sym j.tunnel) ∙ e))) ∙ j.state;
    tunnel = j.tunnel;
    remote = j.remote;
  }

  other_calls : (k : ℕ) (a : Node) → at w.nodes k ≡ Some a → (k ≡ n → ⊥) → CallsJoined m h k a → CallsJoined (falls m n) h k a
  other_calls k a is o c = record {
    live = λ i t there s call at_call. live_falls k i (h.accounts k i 0).peer s call (at_node i t there) o (c.live i t there s call at_call);
    gone = λ s fits none. no_call m n (name k s) (c.gone s fits none);
    kept = λ s b kept. book_call_falls k s b (c.kept s b kept);
    booked = λ s fits. booked_falls (name k s) ∙ c.booked s fits;
    home = λ s fits live. home_falls k (name k s) (c.home s fits (was_live m n (name k s) live));
    undrawn = λ s le fits. drawn_falls (name k s) ∙ c.undrawn s le fits;
    zero = drawn_falls (name k 0) ∙ c.zero;
  }
    where
      at_node : (i : ℕ) (t : Tunnel) → at a.end.tunnels i ≡ Some t → m.tunnels.node (name k i) ≡ k
      at_node i t there =
          let ok : EndOk w h k a.end × BookOk h k a.checkpoint.book = subst (NodeOk w h k) is (holds.nodes k) in
          let made = (ok.0.live i t there).made in
          (joined.tunnels k i ((holds.accounts k i 0).node made) ((holds.accounts k i 0).id made)).node made

  -- ---- nodes

  up_falls : (k : ℕ) → (k ≡ n → ⊥) → (falls m n).tunnels.up k ≡ m.tunnels.up k
  unfolding falls goes_down
  up_falls k o = ap (λ b. if b then false else m.tunnels.up k) (ne_eqb k n o)

  down_falls : (falls m n).tunnels.up n ≡ false
  unfolding falls goes_down
  down_falls = by (n == n) refl
    where
      by : (b : Bool) → (n == n) ≡ b → (if b then false else m.tunnels.up n) ≡ false
      by true is = refl
      by false is = absurd (eqb-false n n is refl)

  node_falls : (k : ℕ) → (k ≡ n → ⊥) → (o : Option Node) → at w.nodes k ≡ o → NodeJoined m h k o → NodeJoined (falls m n) h k o
  node_falls k o None is j = (up_falls k o ∙ j.0, λ s fits. (no_call m n (name k s) (j.1 s fits).0, drawn_falls (name k s) ∙ (j.1 s fits).1, booked_falls (name k s) ∙ (j.1 s fits).2))
  node_falls k o (Some a) is j = (up_falls k o ∙ j.0, other_calls k a is o j.1)

  births_fall : ((falls m n).calls.births ≡ m.calls.births) × ((z : ℕ) → (falls m n).calls.birth z ≡ m.calls.birth z)
  unfolding falls loses
  births_fall = (refl, λ z. refl)

  birth_same : (k s : ℕ) → birth_of v k s ≡ birth_of w k s
  unfolding birth_of
  birth_same k s = ⊎_elim
      (λ (same : k ≡ n).
      ap (λ q. birth_in q s) (ap (at v.nodes) same ∙ here) ∙ (ap (λ q. unwrap_or (at q s) 0) new_births ∙ sym (ap (λ q. birth_in q s) (ap (at w.nodes) same ∙ was))))
      (λ (o : k ≡ n → ⊥). ap (λ q. birth_in q s) (there_at k o))
      (same_or_not k n)

  drawn_tunnels : (x : ℕ) → (falls m n).tunnels.drawn x ≡ m.tunnels.drawn x
  unfolding falls goes_down
  drawn_tunnels x = refl

  pub crash_joined : AreJoined v h (falls m n)
  crash_joined = record {
    drawn = λ k i lt fits. drawn_tunnels (name k i) ∙ joined.drawn k i lt fits;
    tunnels = λ k i lt fits. ⊎_elim
        (λ (same : k ≡ n).
        subst (λ q. TunnelJoined (falls m n) v h q i (live_in (at v.nodes q) i) (kept_in (at v.nodes q) i)) (sym same) (own_tunnel i fits (omega (arith, lt, same))))
        (λ (o : k ≡ n → ⊥). other_tunnel k i lt fits o)
        (same_or_not k n);
    attempts = λ k a lt fits. attempt_falls k a (h.attempts k a) (joined.attempts k a lt fits);
    answers = λ k c lt fits. answer_falls k c (h.answers k c) (joined.answers k c lt fits);
    nodes = λ k lt. ⊎_elim
        (λ (same : k ≡ n).
        let own : NodeJoined m h n (Some old) = subst (NodeJoined m h n) was (joined.nodes n (omega (arith, lt, same))) in
        subst (λ q. NodeJoined (falls m n) h q (at v.nodes q)) (sym same)
        (subst (NodeJoined (falls m n) h n) (sym here) (down_falls ∙ sym new_up, own_calls own.1)))
        (λ (o : k ≡ n → ⊥). subst (NodeJoined (falls m n) h k) (sym (there_at k o)) (node_falls k o (at w.nodes k) refl (joined.nodes k lt)))
        (same_or_not k n);
    births = (births_fall.0 ∙ joined.births.0, λ k s lt fits. births_fall.1 (name k s) ∙ (joined.births.1 k s lt fits ∙ sym (birth_same k s)));
    moves = joined.moves ++ Stops n [] ∷ [];
    run = sym (stopped m n) ∙ after_one all_rules joined.moves (Stops n []) m joined.run;
  }

  query_falls : (k i : ℕ) (t : Tunnel) → QueryJoined m k i (h.accounts k i 0).peer t → QueryJoined (falls m n) k i (h.accounts k i 0).peer t
  unfolding falls goes_down loses
  query_falls k i t x = record { asks = x.asks; held = x.held }

  -- what tunnels ask for is as it was, where they live on
  pub crash_queries : QueriesJoined w h m → QueriesJoined v h (falls m n)
  crash_queries q k i t is current three = ⊎_elim
      (λ (same : k ≡ n).
      absurd (none-some t (sym (ap (λ o. live_in o i) (ap (at v.nodes) same ∙ here) ∙ (ap (λ ts. at ts i) new_tunnels ∙ at-none i)) ∙
      (ap (λ o. live_in o i) is.is ∙ is.there))))
      (λ (o : k ≡ n → ⊥). query_falls k i t
      (q k i t (record { node = is.node; is = sym (there_at k o) ∙ is.is; there = is.there }) current three))
      (same_or_not k n)
