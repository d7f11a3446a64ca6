-- A tunnel is removed with its calls, and the machine clears it.
use Rattle.std.proofs.Common.{◌≡◌, ⊎_elim, ℕ, ◌<◌, ◌≤◌, Bool, true, false, List, [], refl, sym, ap, ◌∙◌, subst, Option, Some, None, arith, append-nil}
use Rattle.std.proofs.lemmas.Option.{none-some}
use Rattle.std.specs.Prelude.{is_some, if◌then◌else◌}
use Rattle.id_table.specs.Ids.{at, without}
use Rattle.id_table.specs.Order.{at_without_other, at_without_same}
use Rattle.session_book.specs.Books.{Kept, tunnel_at}
use Rattle.tunnel_fsm.specs.declared.table.TunnelState.{TunnelState}
use Rattle.tunnel_fsm.specs.declared.table.TunnelState.TheVariants as tunnel
use Rattle.tunnel_fsm.specs.Rows.{state_number}
use Rattle.end_model.specs.declared.event.Event.{Event}
use Rattle.end_model.specs.declared.moves.Move.{Move}
use Rattle.end_model.specs.declared.moves.Move.TheVariants as move
use Rattle.end_model.specs.Tunnels.{Tunnel, Recovering, ByAttempt, ByAnswer, is_finished, mode_of, is_current}
use Rattle.end_model.specs.End.{End}
use Rattle.world_model.specs.declared.standing.Standing.{Standing}
use Rattle.world_model.specs.World.{World, Node, Sender, Deed, moved}
use Rattle.book_laws.specs.Books.{tunnel_record, Mirrors}
use Rattle.epoch_machine.specs.Worlds as machine
use Rattle.epoch_machine.specs.Worlds.{all_rules, leaves}
use Rattle.epoch_machine.specs.Tunnels.{Gone, Attempts, Answers, is_live}
use Rattle.epoch_machine.specs.Channels.{Channels}
use Rattle.epoch_machine.specs.Moves.{Clears, may_clear, step}
use Rattle.stop_laws.specs.Records.{node_of}
use Rattle.session_laws.specs.Names.{name, phase_of}
use Rattle.session_laws.proofs.Heard.{live_phase}
use Rattle.channel_laws.specs.Accounts.{Account, History, after}
use Rattle.channel_laws.specs.Facts.{LiveOk}
use Rattle.channel_laws.specs.Steps.{with_end, moves_on}
use Rattle.channel_laws.proofs.Still.{same_history, nothing_by}
use Rattle.recovery_laws.specs.Growing.{TakenStay}
use Rattle.recovery_laws.specs.Joined.{phase_by, LearnedSo, TunnelJoined, CallsJoined, AreJoined}
use Rattle.recovery_laws.specs.Queries.{QueriesJoined}
use Rattle.join_laws.specs.Steps as steps
use Rattle.join_laws.specs.Steps.{with_book, Follows, Joins}
use Rattle.join_laws.proofs.Ahead.{behind, left, nodes_hold, standings}
use Rattle.join_laws.proofs.Apart.{elsewhere}
use Rattle.join_laws.proofs.Asks.{asks_on, one_asked}
use Rattle.join_laws.proofs.Books.{booked}
use Rattle.join_laws.proofs.Bounds.{fit_bounded}
use Rattle.join_laws.proofs.Calls.{call_in, sessions_joined}
use Rattle.join_laws.proofs.Finish.{Went, went_one, follows, named_as}
use Rattle.join_laws.proofs.Leaving.{leaves_phase, leaves_booked, leaves_stays, leaves_rest, leaves_here, ends_call, elsewhere_stays, left_sessions}
use Rattle.join_laws.proofs.Made as made
use Rattle.join_laws.proofs.OneTunnel.{Grown, one_joined}
use Rattle.join_laws.proofs.PlainOne.{Changes, changes_one, history_same}

-- ---- in the machine

clears_is : (w : machine.World) (x : ℕ) → is_live (w.tunnels.phase x) ≡ true → step all_rules w (Clears x) ≡ leaves w x Gone
unfolding step may_clear
clears_is w x live = rw live refl

clears_node : (w : machine.World) (x : ℕ) → node_of w (Clears x) ≡ w.tunnels.node x
unfolding node_of
clears_node w x = refl

-- a live tunnel of an end lives in the machine
phase_lives : (n : ℕ) (t : Tunnel) (o : Option Recovering) → 1 ≤ state_number t.control.state → is_live (phase_by n t o) ≡ true
phase_lives n t None some = live_phase t.control.state some
phase_lives n t (Some (ByAttempt c)) some = by (is_finished (ByAttempt c))
  where
    by : (b : Bool) → is_live (if b then phase_of t.control.state else Attempts (name n c.local)) ≡ true
    by true = live_phase t.control.state some
    by false = refl
phase_lives n t (Some (ByAnswer a)) some = by (is_finished (ByAnswer a))
  where
    by : (b : Bool) → is_live (if b then phase_of t.control.state else Answers (name n a.connection.local)) ≡ true
    by true = live_phase t.control.state some
    by false = refl

pub grown_same : (a : Account) → Grown a a
grown_same a = record { given = ([], sym (append-nil a.given)); acceptor = λ is. (is, refl, refl) }

-- ---- the move

module _ (stay : TakenStay) (w : World) (h : History) (n : ℕ) (node : Node) (sender : Option Sender) (moment : ℕ) (ev : Event) (i : ℕ)
    (was_booked : Bool) (x : End)
    (d : Deed) (k : Kept) (j : machine.World) (q : steps.IsMade w h n node sender moment ev (move.Cleared i was_booked) x d k j) (b : Kept)
    (new : Mirrors x b) where
  abbrev mv : Move
  mv = move.Cleared i was_booked

  abbrev t : Tunnel
  t = q.moved.does.tunnel

  abbrev X : ℕ
  X = name n i

  abbrev z : machine.World
  z = leaves j (name n i) Gone

  abbrev u : World
  u = behind w n node x b

  at_t : at node.end.tunnels i ≡ Some t
  at_t = q.moved.does.there

  live : LiveOk w h n i t
  live = made.live_ok w h n node sender moment ev mv x d k j q i t at_t

  fits : i < 65536
  fits = made.id_fits w h n node sender moment ev mv x d k j q i t at_t

  told : TunnelJoined j (with_book w n k) h n i (Some t) (tunnel_at k i)
  told = made.told w h n node sender moment ev mv x d k j q i t at_t

  tunnels : x.tunnels ≡ without node.end.tunnels i
  tunnels = ap (λ (y : End). y.tunnels) q.moved.does.after

  at_none : at x.tunnels i ≡ None
  at_none = ap (λ ts. at ts i) tunnels ∙ at_without_same node.end.tunnels i q.moved.fit.tables.order

  others : (p : ℕ) → (p ≡ i → ⊥) → at x.tunnels p ≡ at node.end.tunnels p
  others p other = ap (λ ts. at ts p) tunnels ∙ at_without_other node.end.tunnels i p other

  here : TunnelJoined z u h n i None (tunnel_at b i)
  here =
      let s = leaves_here j X Gone in
      record {
        opener = s.opener ∙ told.opener;
        node = λ made. s.node X ∙ told.node made;
        peer = λ made. s.peer ∙ told.peer made;
        learned = subst (LearnedSo h.accounts n i) (sym s.learned) told.learned;
        phase = leaves_phase j X Gone;
        booked = leaves_booked j X Gone ∙ sym (ap (λ o. is_some o) (new.tunnels i ∙ ap (tunnel_record i) at_none));
        entered = s.entered X ∙ (told.entered ∙ sym (ap (λ (y : Standing). y.epoch) (standings w n node q.moved.there x k b n i)));
        epochs = s.epochs ∙ (told.epochs ∙ sym (ap (λ (y : Standing). y.made) (standings w n node q.moved.there x k b n i)));
        entered_by = λ e. s.entered_by e ∙ told.entered_by e;
        sent = λ e. ap (λ (c : Channels). c.sent X e) s.channels ∙ told.sent e;
        taken = λ e. ap (λ (c : Channels). c.taken X e) s.channels ∙ told.taken e;
        refused = ap (λ (c : Channels). c.refused X) s.channels ∙ told.refused;
      }

  calls : CallsJoined z h n (left node x b)
  calls = sessions_joined node x k b j z h h n
      (left_sessions node x k b j h h n i Gone t fits q.mirrors new (fit_bounded x q.fit) (fit_bounded node.end q.moved.fit) (λ p. refl)
      (ap (λ (y : End). y.session_ids) q.moved.does.after) at_t (λ s. ap (λ y. call_in y s) at_none) others
      (made.calls_before w h n node sender moment ev mv x d k j q))
      (made.calls_before w h n node sender moment ev mv x d k j q)

  changes : Changes w h h n node x k b j z i
  changes = record {
    node_fits = made.node_fits w h n node sender moment ev mv x d k j q;
    id_fits = fits;
    there = q.moved.there;
    old = q.mirrors;
    new = new;
    nodes = q.nodes;
    within = made.within w h n node sender moment ev mv x d k j q;
    others = others;
    accounts = λ p f e apart. refl;
    grown = λ f. grown_same (h.accounts n i f);
    history = history_same h;
    rest = leaves_rest j X Gone;
    drawn = λ p c pfits cfits. (leaves_here j X Gone).drawn (name p c) ∙ q.joined.joined.drawn p c pfits cfits;
    stays = leaves_stays j X Gone;
    here = subst (λ o. TunnelJoined z u h n i o (tunnel_at b i)) (sym at_none) here;
    calls = calls;
    calls_stay = λ p s no pfits sfits. elsewhere_stays j X Gone (name p s)
        (elsewhere (with_book w n k) h j q.joined.joined n i fits p pfits no (λ c has. nodes_hold w n node q.moved.there x k b q.nodes
        p c no has) s sfits);
    births = ((ends_call j X Gone 0).births, λ y. (ends_call j X Gone y).birth);
  }

  went : Went ev n j z
  went = went_one ev n j z (Clears X) (clears_node j X ∙ told.node live.made) refl tt
      (clears_is j X (ap is_live told.phase ∙ phase_lives n t t.recovery (made.is_busy w h n i t live)))

  queries : QueriesJoined u h z
  queries = asks_on (with_book w n k) u h h j z (record {
    peers = λ p f. refl;
    asks = λ y s. (ends_call j X Gone y).asks s;
    held = λ y f s. (ends_call j X Gone y).held f s;
    entered = (leaves_here j X Gone).entered;
    asked = one_asked w n node q.moved.there x k b i others (λ r at_r current three. absurd (none-some r (sym at_none ∙ at_r)));
  }) q.joined.queries

  history : after h d ≡ h
  history = same_history h d (nothing_by d mv tt q.moved.deed.move_is)

  same : moves_on w n node mv x ≡ with_end w n node x
  unfolding moved
  same = refl

  pub cleared_follows : Follows ev (with_book (moves_on w n node mv x) n b) (after h d) n j
  cleared_follows = follows ev w h n node mv x d k b j z same went
      (λ js goes.
      subst (λ g. AreJoined u g z) (sym history)
      (one_joined stay (with_book w n k) u h h j z n i (booked node k) (left node x b) q.joined.joined
      (changes_one w h h n node x k b j z i changes q.joined.joined) js goes))
      (subst (λ g. QueriesJoined u g z) (sym history) queries)
      (λ y is. q.joined.named y (sym (ends_call j X Gone y).drawn ∙ is))

pub cleared_joins : TakenStay → (i : ℕ) (booked : Bool) → Joins (move.Cleared i booked)
cleared_joins stay i booked w h n node sender moment ev x d k j q b new = cleared_follows stay w h n node sender moment ev i booked x d
    k j q b new
