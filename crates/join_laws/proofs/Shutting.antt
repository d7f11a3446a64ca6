-- A tunnel is closed with its calls, and so is the machine's; before that the machine's gave these letters, and nothing else of it changed.
use Rattle.std.proofs.Common.{◌≡◌, ◌⊎◌, inl, inr, ⊎_elim, ℕ, ◌+◌, ◌<◌, ◌≤◌, Bool, true, false, List, [], ◌++◌, length, refl, sym, ap, ◌∙◌, subst, Option, Some, None, arith, append-nil}
use Rattle.std.proofs.lemmas.Option.{same_Some}
use Rattle.std.specs.Prelude.{is_some, take, ◌||◌}
use Rattle.id_table.specs.Ids.{at, at-none}
use Rattle.id_table.specs.Order.{same_or_not}
use Rattle.session_book.specs.Books.{Kept, tunnel_at}
use Rattle.tunnel_fsm.specs.Rows.{state_number}
use Rattle.tunnel_fsm.specs.declared.table.TunnelState.TheVariants as tunnel_state
use Rattle.end_model.specs.declared.event.Event.{Event}
use Rattle.end_model.specs.declared.moves.Move.{Move}
use Rattle.end_model.specs.Moments.{is_open}
use Rattle.end_model.specs.Tunnels.{Tunnel, mode_of, is_current}
use Rattle.end_model.specs.End.{End}
use Rattle.world_model.specs.declared.standing.Standing.{Standing}
use Rattle.world_model.specs.World.{World, Node, Sender, Deed, epoch_of}
use Rattle.step_laws.specs.Letters.{Letter}
use Rattle.book_laws.specs.Books.{tunnel_record, Mirrors}
use Rattle.epoch_machine.specs.Letters as machine_letters
use Rattle.epoch_machine.specs.Channels.{Channels}
use Rattle.epoch_machine.specs.Tunnels.{Tunnels, Closed}
use Rattle.epoch_machine.specs.Calls.{Calls, lives}
use Rattle.epoch_machine.specs.Worlds as machine
use Rattle.epoch_machine.specs.Worlds.{all_rules, leaves}
use Rattle.epoch_machine.specs.Moves as moves
use Rattle.epoch_machine.specs.Moves.{goes_on}
use Rattle.session_laws.specs.Names.{name, phase_of}
use Rattle.channel_laws.specs.Accounts.{Part, Acceptor, Account, heeded, History}
use Rattle.channel_laws.specs.Facts.{partner_in, LiveOk}
use Rattle.channel_laws.proofs.Anew.{here_or_not}
use Rattle.recovery_laws.specs.Asking as asking
use Rattle.recovery_laws.specs.Growing.{TakenStay}
use Rattle.recovery_laws.specs.Joined.{is_opener, is_made, answer_name, is_used, LearnedSo, TunnelJoined, CallsJoined, AreJoined}
use Rattle.recovery_laws.specs.Queries.{letters_in, questions_in, weigh, QueriesJoined, CallsAreNamed}
use Rattle.recovery_laws.proofs.Epochs.{current_phase}
use Rattle.join_laws.specs.Steps as steps
use Rattle.join_laws.specs.Steps.{with_book}
use Rattle.join_laws.proofs.Ahead.{behind, left, nodes_hold, standings}
use Rattle.join_laws.proofs.Apart.{Elsewhere, elsewhere}
use Rattle.join_laws.proofs.Asks.{asks_on, one_asked}
use Rattle.join_laws.proofs.Books.{booked}
use Rattle.join_laws.proofs.Bounds.{fit_bounded}
use Rattle.join_laws.proofs.Calls.{call_in, sessions_joined}
use Rattle.join_laws.proofs.Leaving.{leaves_phase, leaves_booked, leaves_stays, leaves_rest, leaves_here, ends_call, elsewhere_stays, left_sessions}
use Rattle.join_laws.proofs.Letters.{is_booked}
use Rattle.join_laws.proofs.Made as made
use Rattle.join_laws.proofs.OneTunnel.{NameStays, CallStays, Grown, one_joined}
use Rattle.join_laws.proofs.PlainOne.{RestStays, Changes, changes_one}

-- ---- the machine's tunnels and calls are those of another world of it

module _ (m y : machine.World) (tunnels : y.tunnels ≡ m.tunnels) (calls : y.calls ≡ m.calls) where
  pub calls_joined_as : (h : History) (n : ℕ) (c : Node) → CallsJoined m h n c → CallsJoined y h n c
  calls_joined_as h n c k = record {
    live = λ i t there s d is.
        (let l = k.live i t there s d is in record {
          some = l.some;
          state = ap (λ (f : Calls). f.state (name n s)) calls ∙ l.state;
          tunnel = ap (λ (f : Calls). f.tunnel (name n s)) calls ∙ l.tunnel;
          remote = ap (λ (f : Calls). f.remote (name n s)) calls ∙ l.remote;
        });
    gone = λ s fits none. ap (λ (f : Calls). f.state (name n s)) calls ∙ k.gone s fits none;
    kept = λ s d is.
        (let l = k.kept s d is in record {
          tunnel = ap (λ (f : Calls). f.tunnel (name n s)) calls ∙ l.tunnel;
          remote = ap (λ (f : Calls). f.remote (name n s)) calls ∙ l.remote;
        });
    booked = λ s fits. ap (λ (f : Calls). f.booked (name n s)) calls ∙ k.booked s fits;
    home = λ s fits live.
        ap (λ (f : Tunnels). f.node (y.calls.tunnel (name n s))) tunnels
        ∙ (ap (λ (f : Calls). m.tunnels.node (f.tunnel (name n s))) calls
        ∙ k.home s fits (ap (λ (f : Calls). lives (f.state (name n s))) (sym calls) ∙ live));
    undrawn = λ s le fits. ap (λ (f : Calls). f.drawn (name n s)) calls ∙ k.undrawn s le fits;
    zero = ap (λ (f : Calls). f.drawn (name n 0)) calls ∙ k.zero;
  }

  elsewhere_as : (z x : ℕ) → Elsewhere m z x → Elsewhere y z x
  elsewhere_as z x o = record {
    live = λ live same. o.live (ap (λ (f : Calls). lives (f.state z)) (sym calls) ∙ live) (ap (λ (f : Calls). f.tunnel z) (sym calls)
        ∙ same);
    booked = λ in_book same. o.booked (ap (λ (f : Calls). f.booked z) (sym calls) ∙ in_book) (ap (λ (f : Calls). f.tunnel z) (sym calls)
        ∙ same);
  }

  call_stays_as : (z : machine.World) (q : ℕ) → CallStays y z q → CallStays m z q
  call_stays_as z q k = record {
    drawn = k.drawn ∙ ap (λ (f : Calls). f.drawn q) calls;
    tunnel = k.tunnel ∙ ap (λ (f : Calls). f.tunnel q) calls;
    state = k.state ∙ ap (λ (f : Calls). f.state q) calls;
    remote = k.remote ∙ ap (λ (f : Calls). f.remote q) calls;
    booked = k.booked ∙ ap (λ (f : Calls). f.booked q) calls;
  }

-- ---- a tunnel that is closed

pub record Shuts (w : World) (h g : History) (n : ℕ) (node : Node) (x : End) (j m : machine.World) (i e : ℕ) (t r : Tunnel)
    (ls : List Letter) (says : List machine_letters.Letter) : Type 0 where
  pub at_t : at node.end.tunnels i ≡ Some t
  pub at_r : at x.tunnels i ≡ Some r
  pub current : is_current (mode_of r.recovery) ≡ true
  pub closed : r.control.state ≡ tunnel_state.Closed
  pub empty : r.calls ≡ []
  pub others : (p : ℕ) → (p ≡ i → ⊥) → at x.tunnels p ≡ at node.end.tunnels p
  pub ids : x.session_ids ≡ node.end.session_ids
  -- what the machine's did before
  pub goes : asking.GoesOn j m (name n i) e says 0
  pub calls : m.calls ≡ j.calls
  -- the history
  pub accounts : (q f u : ℕ) → ((q ≡ n) × (f ≡ i) × (u ≡ e) → ⊥) → g.accounts q f u ≡ h.accounts q f u
  pub attempts : (q c : ℕ) → g.attempts q c ≡ h.attempts q c
  pub answers : (q c : ℕ) → g.answers q c ≡ h.answers q c
  pub part : (g.accounts n i e).part ≡ (h.accounts n i e).part
  pub peer : (g.accounts n i e).peer ≡ (h.accounts n i e).peer
  pub answer : (g.accounts n i e).answer ≡ (h.accounts n i e).answer
  pub declined : (g.accounts n i e).declined ≡ (h.accounts n i e).declined
  pub given : (g.accounts n i e).given ≡ (h.accounts n i e).given ++ ls
  pub sent : letters_in n (h.accounts n i e).peer (questions_in (g.accounts n i e).taken) (g.accounts n i e).given
      ≡ letters_in n (h.accounts n i e).peer (questions_in (h.accounts n i e).taken) (h.accounts n i e).given ++ says
  pub heeds : heeded (g.accounts n i e) ≡ heeded (h.accounts n i e)
  -- it knows the same tunnel, or took nothing
  pub remote : ((g.accounts n i e).remote ≡ (h.accounts n i e).remote)
      ⊎ ((heeded (h.accounts n i e) ≡ 0) × ((h.accounts n i e).part ≡ Acceptor → ⊥))
  pub learned : LearnedSo h.accounts n i (j.tunnels.learned (name n i)) → LearnedSo g.accounts n i (j.tunnels.learned (name n i))

module _ (stay : TakenStay) (w : World) (h g : History) (n : ℕ) (node : Node) (sender : Option Sender) (moment : ℕ) (ev : Event) (mv : Move)
    (x : End) (d : Deed) (k : Kept) (j : machine.World) (q : steps.IsMade w h n node sender moment ev mv x d k j) (b : Kept)
    (new : Mirrors x b) (m : machine.World) (i e : ℕ) (t r : Tunnel) (ls : List Letter) (says : List machine_letters.Letter)
    (o : Shuts w h g n node x j m i e t r ls says) where
  abbrev X : ℕ
  X = name n i

  abbrev z : machine.World
  z = leaves m (name n i) Closed

  abbrev u : World
  u = behind w n node x b

  abbrev a : Account
  a = h.accounts n i e

  live : LiveOk w h n i t
  live = made.live_ok w h n node sender moment ev mv x d k j q i t o.at_t

  fits : i < 65536
  fits = made.id_fits w h n node sender moment ev mv x d k j q i t o.at_t

  told : TunnelJoined j (with_book w n k) h n i (Some t) (tunnel_at k i)
  told = made.told w h n node sender moment ev mv x d k j q i t o.at_t

  -- ---- the history

  same : (B : Account → Bool) → B (g.accounts n i e) ≡ B (h.accounts n i e) → (q f u : ℕ) → B (g.accounts q f u) ≡ B (h.accounts q f u)
  same B here q f u = ⊎_elim
      (λ (p : (q ≡ n) × (f ≡ i) × (u ≡ e)). rw (p.0, p.1, p.2) here)
      (λ other. ap B (o.accounts q f u other))
      (here_or_not q f u n i e)

  parts : (q f u : ℕ) → (g.accounts q f u).part ≡ (h.accounts q f u).part
  parts q f u = ⊎_elim
      (λ (p : (q ≡ n) × (f ≡ i) × (u ≡ e)). rw (p.0, p.1, p.2) o.part)
      (λ other. ap (λ (c : Account). c.part) (o.accounts q f u other))
      (here_or_not q f u n i e)

  peers : (q f u : ℕ) → (g.accounts q f u).peer ≡ (h.accounts q f u).peer
  peers q f u = ⊎_elim
      (λ (p : (q ≡ n) × (f ≡ i) × (u ≡ e)). rw (p.0, p.1, p.2) o.peer)
      (λ other. ap (λ (c : Account). c.peer) (o.accounts q f u other))
      (here_or_not q f u n i e)

  answer_as : (q f u : ℕ) → (g.accounts q f u).answer ≡ (h.accounts q f u).answer
  answer_as q f u = ⊎_elim
      (λ (p : (q ≡ n) × (f ≡ i) × (u ≡ e)). rw (p.0, p.1, p.2) o.answer)
      (λ other. ap (λ (c : Account). c.answer) (o.accounts q f u other))
      (here_or_not q f u n i e)

  given_on : (q f u : ℕ) → (more : List Letter) × ((g.accounts q f u).given ≡ (h.accounts q f u).given ++ more)
  given_on q f u = ⊎_elim
      (λ (p : (q ≡ n) × (f ≡ i) × (u ≡ e)).
      subst (λ y. (more : List Letter) × ((g.accounts y f u).given ≡ (h.accounts y f u).given ++ more)) (sym p.0)
      (subst (λ y. (more : List Letter) × ((g.accounts n y u).given ≡ (h.accounts n y u).given ++ more)) (sym p.1)
      (subst (λ y. (more : List Letter) × ((g.accounts n i y).given ≡ (h.accounts n i y).given ++ more)) (sym p.2) (ls, o.given))))
      (λ other. ([], ap (λ (c : Account). c.given) (o.accounts q f u other) ∙ sym (append-nil (h.accounts q f u).given)))
      (here_or_not q f u n i e)

  own : (f : ℕ) → (f ≡ e → ⊥) → g.accounts n i f ≡ h.accounts n i f
  own f other = o.accounts n i f (λ p. other p.2)

  grown : (f : ℕ) → Grown (h.accounts n i f) (g.accounts n i f)
  grown f = record {
    given = given_on n i f;
    acceptor = λ is. (parts n i f ∙ is, peers n i f, remotes f is);
  }
    where
      remotes : (f : ℕ) → (h.accounts n i f).part ≡ Acceptor → (g.accounts n i f).remote ≡ (h.accounts n i f).remote
      remotes f is = ⊎_elim
          (λ (p : f ≡ e).
          subst (λ y. (g.accounts n i y).remote ≡ (h.accounts n i y).remote) (sym p) (⊎_elim
          (λ (k : (g.accounts n i e).remote ≡ (h.accounts n i e).remote). k)
          (λ (k : (heeded (h.accounts n i e) ≡ 0) × ((h.accounts n i e).part ≡ Acceptor → ⊥)).
          absurd (k.1 (subst (λ y. (h.accounts n i y).part ≡ Acceptor) p is)))
          o.remote))
          (λ other. ap (λ (c : Account). c.remote) (own f other))
          (same_or_not f e)

  -- ---- the tunnel

  node_as : (y : ℕ) → z.tunnels.node y ≡ j.tunnels.node y
  node_as y = (leaves_here m X Closed).node y ∙ ap (λ (T : Tunnels). T.node y) o.goes.tunnels

  sent_on : (f : ℕ) → z.channels.sent X f
      ≡ letters_in n (g.accounts n i f).peer (questions_in (g.accounts n i f).taken) (g.accounts n i f).given
  sent_on f = ap (λ (c : Channels). c.sent X f) (leaves_here m X Closed).channels ∙ ⊎_elim
      (λ (p : f ≡ e).
      subst (λ y. m.channels.sent X y
      ≡ letters_in n (g.accounts n i y).peer (questions_in (g.accounts n i y).taken) (g.accounts n i y).given) (sym p)
      (o.goes.sent
      ∙ (ap (λ c. c ++ says) (told.sent e)
      ∙ (sym o.sent ∙ ap (λ c. letters_in n c (questions_in (g.accounts n i e).taken) (g.accounts n i e).given) (sym o.peer)))))
      (λ other.
      o.goes.others_sent X f (λ same_name is. other is)
      ∙ (told.sent f ∙ ap (λ (c : Account). letters_in n c.peer (questions_in c.taken) c.given) (sym (own f other))))
      (same_or_not f e)

  -- what its other end gave stays so
  partner_on : (f count : ℕ) → count ≤ length (partner_in h.accounts f (h.accounts n i f)).given
      → weigh (take count (g.accounts (h.accounts n i f).peer (h.accounts n i f).remote f).given)
      ≡ weigh (take count (partner_in h.accounts f (h.accounts n i f)).given)
  partner_on f count le =
      let more = given_on (h.accounts n i f).peer (h.accounts n i f).remote f in
      ap (λ c. weigh (take count c)) more.1 ∙ stay (partner_in h.accounts f (h.accounts n i f)).given more.0 count le

  within : (f : ℕ) → heeded (h.accounts n i f) ≤ length (partner_in h.accounts f (h.accounts n i f)).given
  within f = made.within w h n node sender moment ev mv x d k j q n i f

  taken_here : weigh (take (heeded (g.accounts n i e)) (partner_in g.accounts e (g.accounts n i e)).given)
      ≡ weigh (take (heeded a) (partner_in h.accounts e a).given)
  taken_here = ap (λ c. weigh (take c (partner_in g.accounts e (g.accounts n i e)).given)) o.heeds ∙ ⊎_elim
      (λ (p : (g.accounts n i e).remote ≡ a.remote).
      ap (λ y. weigh (take (heeded a) (g.accounts y (g.accounts n i e).remote e).given)) o.peer
      ∙ (ap (λ y. weigh (take (heeded a) (g.accounts a.peer y e).given)) p ∙ partner_on e (heeded a) (within e)))
      (λ (p : (heeded a ≡ 0) × (a.part ≡ Acceptor → ⊥)).
      ap (λ c. weigh (take c (partner_in g.accounts e (g.accounts n i e)).given)) p.0
      ∙ sym (ap (λ c. weigh (take c (partner_in h.accounts e a).given)) p.0))
      o.remote

  taken_on : (f : ℕ) → z.channels.taken X f ≡ weigh (take (heeded (g.accounts n i f)) (partner_in g.accounts f (g.accounts n i f)).given)
  taken_on f = ap (λ (c : Channels). c.taken X f) (leaves_here m X Closed).channels ∙ ⊎_elim
      (λ (p : f ≡ e).
      subst (λ y. m.channels.taken X y ≡ weigh (take (heeded (g.accounts n i y)) (partner_in g.accounts y (g.accounts n i y)).given))
      (sym p)
      (o.goes.taken ∙ (ap (λ c. c + 0) (told.taken e) ∙ (omega arith ∙ sym taken_here))))
      (λ other.
      o.goes.others_taken X f (λ same_name is. other is)
      ∙ (told.taken f
      ∙ sym (ap (λ (c : Account). weigh (take (heeded c) (partner_in g.accounts f c).given)) (own f other)
      ∙ partner_on f (heeded (h.accounts n i f)) (within f))))
      (same_or_not f e)

  here : TunnelJoined z u g n i (Some r) (tunnel_at b i)
  here =
      let s = leaves_here m X Closed in
      record {
        opener = s.opener ∙ (ap (λ (T : Tunnels). T.opener X) o.goes.tunnels ∙ (told.opener ∙ ap is_opener (sym (parts n i 0))));
        node = λ some. node_as X ∙ told.node (λ none. some (parts n i 0 ∙ none));
        peer = λ some. s.peer ∙ (ap (λ (T : Tunnels). T.peer X) o.goes.tunnels
            ∙ (told.peer (λ none. some (parts n i 0 ∙ none)) ∙ sym (peers n i 0)));
        learned = subst (LearnedSo g.accounts n i) (sym (s.learned
            ∙ ap (λ (T : Tunnels). T.learned X) o.goes.tunnels)) (o.learned told.learned);
        phase = leaves_phase m X Closed ∙ sym (current_phase n r r.recovery o.current ∙ ap phase_of o.closed);
        booked = leaves_booked m X Closed
            ∙ sym (ap (λ y. is_some y) (new.tunnels i ∙ ap (tunnel_record i) o.at_r) ∙ (is_booked i r ∙ ap is_open o.closed));
        entered = s.entered X ∙ (ap (λ (T : Tunnels). T.entered X) o.goes.tunnels
            ∙ (told.entered ∙ sym (ap (λ (y : Standing). y.epoch) (standings w n node q.moved.there x k b n i))));
        epochs = s.epochs ∙ (ap (λ (T : Tunnels). T.epochs X) o.goes.tunnels
            ∙ (told.epochs ∙ sym (ap (λ (y : Standing). y.made) (standings w n node q.moved.there x k b n i))));
        entered_by = λ f. s.entered_by f ∙ (ap (λ (T : Tunnels). T.entered_by X f) o.goes.tunnels
            ∙ (told.entered_by f ∙ ap answer_name (sym (answer_as n i f))));
        sent = sent_on;
        taken = taken_on;
        refused = ap (λ (c : Channels). c.refused X) s.channels
            ∙ (ap (λ y. y X) o.goes.refused
            ∙ (told.refused ∙ sym (same (λ (c : Account). c.declined) o.declined n i 0)));
      }

  stays : (y : ℕ) → (y ≡ X → ⊥) → NameStays j z y
  stays y other =
      let s = leaves_stays m X Closed y other in
      record {
        opener = s.opener ∙ ap (λ (T : Tunnels). T.opener y) o.goes.tunnels;
        node = s.node ∙ ap (λ (T : Tunnels). T.node y) o.goes.tunnels;
        peer = s.peer ∙ ap (λ (T : Tunnels). T.peer y) o.goes.tunnels;
        learned = s.learned ∙ ap (λ (T : Tunnels). T.learned y) o.goes.tunnels;
        phase = s.phase ∙ ap (λ (T : Tunnels). T.phase y) o.goes.tunnels;
        booked = s.booked ∙ ap (λ (T : Tunnels). T.booked y) o.goes.tunnels;
        entered = s.entered ∙ ap (λ (T : Tunnels). T.entered y) o.goes.tunnels;
        entered_by = λ f. s.entered_by f ∙ ap (λ (T : Tunnels). T.entered_by y f) o.goes.tunnels;
        sent = λ f. s.sent f ∙ o.goes.others_sent y f (λ is. absurd (other is));
        taken = λ f. s.taken f ∙ o.goes.others_taken y f (λ is. absurd (other is));
        refused = s.refused ∙ ap (λ f. f y) o.goes.refused;
      }

  rest : RestStays j z
  rest =
      let s = leaves_rest m X Closed in
      record {
        epochs = λ y. s.epochs y ∙ ap (λ (T : Tunnels). T.epochs y) o.goes.tunnels;
        attempts = λ y. s.attempts y ∙ ap (λ (T : Tunnels). T.attempts y) o.goes.tunnels;
        answers = λ y. s.answers y ∙ ap (λ (T : Tunnels). T.answers y) o.goes.tunnels;
        answered = λ y. s.answered y ∙ ap (λ (T : Tunnels). T.answered y) o.goes.tunnels;
        makes_it = λ y. s.makes_it y ∙ ap (λ (T : Tunnels). T.makes y) o.goes.tunnels;
        confirmed = λ y. s.confirmed y ∙ ap (λ (T : Tunnels). T.confirmed y) o.goes.tunnels;
        giver_first = λ y. s.giver_first y ∙ ap (λ (T : Tunnels). T.giver_first y) o.goes.tunnels;
        other_first = λ y. s.other_first y ∙ ap (λ (T : Tunnels). T.other_first y) o.goes.tunnels;
        ups = λ y. s.ups y ∙ ap (λ (T : Tunnels). T.up y) o.goes.tunnels;
      }

  -- ---- calls

  before : CallsJoined m h n (booked node k)
  before = calls_joined_as j m o.goes.tunnels o.calls h n (booked node k) (made.calls_before w h n node sender moment ev mv x d k j q)

  calls : CallsJoined z g n (left node x b)
  calls = sessions_joined node x k b m z h g n
      (left_sessions node x k b m h g n i Closed t fits q.mirrors new (fit_bounded x q.fit) (fit_bounded node.end q.moved.fit)
      (λ f. peers n f 0) o.ids o.at_t
      (λ s. ap (λ y. call_in y s) o.at_r ∙ (ap (λ y. at y s) o.empty ∙ at-none s)) o.others before)
      before

  changes : Changes w h g n node x k b j z i
  changes = record {
    node_fits = made.node_fits w h n node sender moment ev mv x d k j q;
    id_fits = fits;
    there = q.moved.there;
    old = q.mirrors;
    new = new;
    nodes = q.nodes;
    within = made.within w h n node sender moment ev mv x d k j q;
    others = o.others;
    accounts = λ p f u apart. o.accounts p f u (λ y. apart (y.0, y.1));
    grown = grown;
    history = record { attempts = o.attempts; answers = o.answers; answer = answer_as };
    rest = rest;
    drawn = λ p c pfits cfits.
        (leaves_here m X Closed).drawn (name p c)
        ∙ (ap (λ (T : Tunnels). T.drawn (name p c)) o.goes.tunnels
        ∙ (q.joined.joined.drawn p c pfits cfits
        ∙ sym (ap (λ y. is_made y || (is_some (g.attempts p c) || is_some (g.answers p c))) (parts p c 0)
        ∙ (ap (λ y. is_made (h.accounts p c 0).part || (is_some y || is_some (g.answers p c))) (o.attempts p c)
        ∙ ap (λ y. is_made (h.accounts p c 0).part || (is_some (h.attempts p c) || is_some y)) (o.answers p c)))));
    stays = stays;
    here = subst (λ y. TunnelJoined z u g n i y (tunnel_at b i)) (sym o.at_r) here;
    calls = calls;
    calls_stay = λ p s no pfits sfits.
        call_stays_as j m o.goes.tunnels o.calls z (name p s)
        (elsewhere_stays m X Closed (name p s)
        (elsewhere_as j m o.goes.tunnels o.calls (name p s) X
        (elsewhere (with_book w n k) h j q.joined.joined n i fits p pfits no (λ c has. nodes_hold w n node q.moved.there x k b q.nodes
        p c no has) s sfits)));
    births = (
      (ends_call m X Closed 0).births ∙ ap (λ (f : Calls). f.births) o.calls,
      λ y. (ends_call m X Closed y).birth ∙ ap (λ (f : Calls). f.birth y) o.calls,
    );
  }

  pub shut_joined : AreJoined (with_book w n k) h j → (js : List moves.Move) → z ≡ goes_on all_rules j js → AreJoined u g z
  shut_joined was js goes = one_joined stay (with_book w n k) u h g j z n i (booked node k) (left node x b) was
      (changes_one w h g n node x k b j z i changes was) js goes

  pub shut_queries : QueriesJoined u g z
  shut_queries = asks_on (with_book w n k) u h g j z (record {
    peers = λ p f. peers p f 0;
    asks = λ y s. (ends_call m X Closed y).asks s ∙ ap (λ (f : Calls). f.asks y s) o.calls;
    held = λ y f s. (ends_call m X Closed y).held f s ∙ ap (λ (c : Calls). c.held y f s) o.calls;
    entered = λ y. (leaves_here m X Closed).entered y ∙ ap (λ (T : Tunnels). T.entered y) o.goes.tunnels;
    asked = one_asked w n node q.moved.there x k b i o.others (λ v at_v current three.
        (let same_r : r ≡ v = same_Some r v (sym o.at_r ∙ at_v) in
        let four = ap state_number (sym o.closed) ∙ (ap (λ (y : Tunnel). state_number y.control.state) same_r ∙ three) in
        absurd cc));
  }) q.joined.queries

  pub shut_named : CallsAreNamed z
  shut_named y is = q.joined.named y (sym ((ends_call m X Closed y).drawn ∙ ap (λ (f : Calls). f.drawn y) o.calls) ∙ is)
