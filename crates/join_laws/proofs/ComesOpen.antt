-- A tunnel of epoch 0 comes open, and so does the machine's: it is established and in the book, and asks for nothing yet.
use Rattle.std.proofs.Common.{◌≡◌, ◌⊎◌, inl, inr, ⊎_elim, ℕ, ◌+◌, ◌<◌, ◌≤◌, Bool, true, false, List, [], ◌++◌, length, refl, sym, ap, ap₂, ◌∙◌, subst, Option, Some, None, arith, append-nil}
use Rattle.std.proofs.lemmas.Option.{same_Some}
use Rattle.std.specs.Prelude.{is_some, take, ◌||◌, ◌==◌}
use Rattle.std.specs.List.{AllByRecursion, list_any}
use Rattle.id_table.specs.Ids.{at}
use Rattle.id_table.specs.Order.{same_or_not}
use Rattle.wire_base.specs.declared.pair.Pair.{Pair}
use Rattle.session_query.specs.Queries.{left_of}
use Rattle.session_book.specs.Books.{Kept, tunnel_at}
use Rattle.tunnel_fsm.specs.Rows.{state_number}
use Rattle.tunnel_fsm.specs.declared.table.TunnelState.TheVariants.{Established}
use Rattle.end_model.specs.declared.event.Event.{Event}
use Rattle.end_model.specs.declared.moves.Move.{Move}
use Rattle.end_model.specs.Moments.{is_open}
use Rattle.end_model.specs.Tunnels.{Tunnel, mode_of, is_current, no_query}
use Rattle.end_model.specs.End.{End}
use Rattle.world_model.specs.declared.standing.Standing.{Standing}
use Rattle.world_model.specs.World.{World, Node, Sender, Deed, epoch_of}
use Rattle.step_laws.specs.Letters.{Letter}
use Rattle.book_laws.specs.Books.{tunnel_record, Mirrors}
use Rattle.birth_laws.specs.Births.{CallsHold, LettersMean, BirthsOfRuns}
use Rattle.coverage_laws.specs.Coverage.{StatesHold, CoverageOfRuns}
use Rattle.epoch_machine.specs.Letters as machine_letters
use Rattle.epoch_machine.specs.Channels.{Channels}
use Rattle.epoch_machine.specs.Tunnels.{Tunnels, Open}
use Rattle.epoch_machine.specs.Calls.{Calls}
use Rattle.epoch_machine.specs.Worlds as machine
use Rattle.epoch_machine.specs.Worlds.{all_rules}
use Rattle.epoch_machine.specs.Moves as moves
use Rattle.epoch_machine.specs.Moves.{goes_on}
use Rattle.session_laws.specs.Names.{name, name_of, phase_of}
use Rattle.session_laws.proofs.Names.{same_name}
use Rattle.channel_laws.specs.Accounts.{Part, Acceptor, Account, heeded, History}
use Rattle.channel_laws.specs.Facts.{partner_in, LiveOk}
use Rattle.channel_laws.specs.Epochs.{IsLive}
use Rattle.channel_laws.proofs.Anew.{here_or_not}
use Rattle.recovery_laws.specs.Asking as asking
use Rattle.recovery_laws.specs.Growing.{TakenStay}
use Rattle.recovery_laws.specs.Joined.{is_opener, is_made, answer_name, is_used, LearnedSo, TunnelJoined, CallsJoined, AreJoined}
use Rattle.recovery_laws.specs.Queries.{letters_in, questions_in, weigh, QueryJoined, QueriesJoined, CallsAreNamed}
use Rattle.recovery_laws.proofs.Epochs.{current_phase}
use Rattle.join_laws.specs.Steps as steps
use Rattle.join_laws.specs.Steps.{with_book}
use Rattle.join_laws.proofs.Ahead as ahead
use Rattle.join_laws.proofs.Ahead.{behind, left, standings}
use Rattle.join_laws.proofs.Asks.{query_as}
use Rattle.join_laws.proofs.Books.{booked}
use Rattle.join_laws.proofs.Bounds.{fit_bounded, bounded}
use Rattle.join_laws.proofs.Calls.{like_in, like_same, same_stays, sessions_joined}
use Rattle.join_laws.proofs.Finish.{named_as}
use Rattle.join_laws.proofs.Letters.{is_booked}
use Rattle.join_laws.proofs.Made as made
use Rattle.join_laws.proofs.OneTunnel.{NameStays, Grown, one_joined, this_or_not}
use Rattle.join_laws.proofs.PlainOne.{RestStays, Changes, changes_one}

-- ---- what the machine does

pub record Comes (m z : machine.World) (x learned : ℕ) (says : List machine_letters.Letter) (took : ℕ) : Type 0 where
  pub phase : z.tunnels.phase x ≡ Open
  pub booked : z.tunnels.booked x ≡ true
  pub learned_is : z.tunnels.learned x ≡ learned
  pub drawn : (y : ℕ) → z.tunnels.drawn y ≡ m.tunnels.drawn y
  pub opener : z.tunnels.opener x ≡ m.tunnels.opener x
  pub node : (y : ℕ) → z.tunnels.node y ≡ m.tunnels.node y
  pub peer : z.tunnels.peer x ≡ m.tunnels.peer x
  pub entered : (y : ℕ) → z.tunnels.entered y ≡ m.tunnels.entered y
  pub entered_by : (e : ℕ) → z.tunnels.entered_by x e ≡ m.tunnels.entered_by x e
  pub sent : z.channels.sent x 0 ≡ m.channels.sent x 0 ++ says
  pub taken : z.channels.taken x 0 ≡ m.channels.taken x 0 + took
  pub later_sent : (e : ℕ) → (e ≡ 0 → ⊥) → z.channels.sent x e ≡ m.channels.sent x e
  pub later_taken : (e : ℕ) → (e ≡ 0 → ⊥) → z.channels.taken x e ≡ m.channels.taken x e
  pub stays : (y : ℕ) → (y ≡ x → ⊥) → NameStays m z y
  pub refused : z.channels.refused x ≡ m.channels.refused x
  pub rest : RestStays m z
  pub calls : z.calls ≡ m.calls

-- with letters that are given and taken then, of its channel of epoch 0
pub comes_by : (m y z : machine.World) (x learned : ℕ) (says : List machine_letters.Letter) (took : ℕ) → Comes m y x learned [] 0
    → asking.GoesOn y z x 0 says took → z.calls ≡ y.calls → Comes m z x learned says took
comes_by m y z x learned says took k g calls = record {
  phase = ap (λ (T : Tunnels). T.phase x) g.tunnels ∙ k.phase;
  booked = ap (λ (T : Tunnels). T.booked x) g.tunnels ∙ k.booked;
  learned_is = ap (λ (T : Tunnels). T.learned x) g.tunnels ∙ k.learned_is;
  drawn = λ q. ap (λ (T : Tunnels). T.drawn q) g.tunnels ∙ k.drawn q;
  opener = ap (λ (T : Tunnels). T.opener x) g.tunnels ∙ k.opener;
  node = λ q. ap (λ (T : Tunnels). T.node q) g.tunnels ∙ k.node q;
  peer = ap (λ (T : Tunnels). T.peer x) g.tunnels ∙ k.peer;
  entered = λ q. ap (λ (T : Tunnels). T.entered q) g.tunnels ∙ k.entered q;
  entered_by = λ e. ap (λ (T : Tunnels). T.entered_by x e) g.tunnels ∙ k.entered_by e;
  sent = g.sent ∙ ap (λ ls. ls ++ says) (k.sent ∙ append-nil (m.channels.sent x 0));
  taken = g.taken ∙ ap (λ c. c + took) (k.taken ∙ omega arith);
  later_sent = λ e other. g.others_sent x e (λ same is. other is) ∙ k.later_sent e other;
  later_taken = λ e other. g.others_taken x e (λ same is. other is) ∙ k.later_taken e other;
  stays = λ q other.
      (let s = k.stays q other in record {
        opener = ap (λ (T : Tunnels). T.opener q) g.tunnels ∙ s.opener;
        node = ap (λ (T : Tunnels). T.node q) g.tunnels ∙ s.node;
        peer = ap (λ (T : Tunnels). T.peer q) g.tunnels ∙ s.peer;
        learned = ap (λ (T : Tunnels). T.learned q) g.tunnels ∙ s.learned;
        phase = ap (λ (T : Tunnels). T.phase q) g.tunnels ∙ s.phase;
        booked = ap (λ (T : Tunnels). T.booked q) g.tunnels ∙ s.booked;
        entered = ap (λ (T : Tunnels). T.entered q) g.tunnels ∙ s.entered;
        entered_by = λ e. ap (λ (T : Tunnels). T.entered_by q e) g.tunnels ∙ s.entered_by e;
        sent = λ e. g.others_sent q e (λ same. absurd (other same)) ∙ s.sent e;
        taken = λ e. g.others_taken q e (λ same. absurd (other same)) ∙ s.taken e;
        refused = ap (λ f. f q) g.refused ∙ s.refused;
      });
  refused = ap (λ f. f x) g.refused ∙ k.refused;
  rest = record {
    epochs = λ q. ap (λ (T : Tunnels). T.epochs q) g.tunnels ∙ k.rest.epochs q;
    attempts = λ q. ap (λ (T : Tunnels). T.attempts q) g.tunnels ∙ k.rest.attempts q;
    answers = λ q. ap (λ (T : Tunnels). T.answers q) g.tunnels ∙ k.rest.answers q;
    answered = λ q. ap (λ (T : Tunnels). T.answered q) g.tunnels ∙ k.rest.answered q;
    makes_it = λ q. ap (λ (T : Tunnels). T.makes q) g.tunnels ∙ k.rest.makes_it q;
    confirmed = λ q. ap (λ (T : Tunnels). T.confirmed q) g.tunnels ∙ k.rest.confirmed q;
    giver_first = λ q. ap (λ (T : Tunnels). T.giver_first q) g.tunnels ∙ k.rest.giver_first q;
    other_first = λ q. ap (λ (T : Tunnels). T.other_first q) g.tunnels ∙ k.rest.other_first q;
    ups = λ q. ap (λ (T : Tunnels). T.up q) g.tunnels ∙ k.rest.ups q;
  };
  calls = calls ∙ k.calls;
}

-- a tunnel that was never reset asks for nothing
pub asks_nothing : BirthsOfRuns → CoverageOfRuns → (js : List moves.Move) (m : machine.World) → m ≡ moves.after all_rules js → (x z : ℕ)
    → m.tunnels.entered x ≡ 0 → m.calls.asks x z ≡ false
asks_nothing births coverage js m run x z first = by (m.calls.asks x z) refl
  where
    hold : CallsHold m.tunnels m.calls
    hold = subst (λ (y : machine.World). CallsHold y.tunnels y.calls) (sym run) (births.calls js)

    means : LettersMean m.tunnels m.channels m.calls
    means = subst (λ (y : machine.World). LettersMean y.tunnels y.channels y.calls) (sym run) (births.letters js)

    states : StatesHold m.tunnels m.calls
    states = subst (λ (y : machine.World). StatesHold y.tunnels y.calls) (sym run) (coverage.states js)

    no_epoch : (o : Option ℕ) → m.calls.made z ≡ o → (m.calls.held x (m.tunnels.entered x) z ≡ 0 → ⊥) → (m.calls.made z ≡ None → ⊥) → ⊥
    no_epoch None is held some = some is
    no_epoch (Some e) is held some =
        let lt = states.held_older x (m.tunnels.entered x) z e held is in omega (arith, lt, first)

    by : (b : Bool) → m.calls.asks x z ≡ b → m.calls.asks x z ≡ false
    by false is = is
    by true is =
        let held = means.asks_held x z is in
        let call = hold.held_call x (m.tunnels.entered x) z held in
        absurd (no_epoch (m.calls.made z) refl held call.3)

-- ---- the tunnel

pub record ComesOpen (w : World) (h g : History) (n : ℕ) (node : Node) (x : End) (b : Kept) (j z : machine.World) (i : ℕ) (t r : Tunnel)
    (new : Account) (ls : List Letter) (says : List machine_letters.Letter) (took learned : ℕ) : Type 0 where
  pub mirrors : Mirrors x b
  pub at_t : at node.end.tunnels i ≡ Some t
  pub at_r : at x.tunnels i ≡ Some r
  pub calls_same : r.calls ≡ t.calls
  pub current : is_current (mode_of r.recovery) ≡ true
  pub state : r.control.state ≡ Established
  pub query : r.query ≡ t.query
  pub others : (f : ℕ) → (f ≡ i → ⊥) → at x.tunnels f ≡ at node.end.tunnels f
  pub ids : x.session_ids ≡ node.end.session_ids
  pub first : epoch_of w n i ≡ 0
  -- the history
  pub is : g.accounts n i 0 ≡ new
  pub other_accounts : (p f u : ℕ) → ((p ≡ n) × (f ≡ i) × (u ≡ 0) → ⊥) → g.accounts p f u ≡ h.accounts p f u
  pub attempts : (p c : ℕ) → g.attempts p c ≡ h.attempts p c
  pub answers : (p c : ℕ) → g.answers p c ≡ h.answers p c
  pub part : new.part ≡ (h.accounts n i 0).part
  pub peer : new.peer ≡ (h.accounts n i 0).peer
  pub answer : new.answer ≡ (h.accounts n i 0).answer
  pub declined : new.declined ≡ (h.accounts n i 0).declined
  pub given : new.given ≡ (h.accounts n i 0).given ++ ls
  pub accepted : (h.accounts n i 0).part ≡ Acceptor → new.remote ≡ (h.accounts n i 0).remote
  pub sent : letters_in n (h.accounts n i 0).peer (questions_in new.taken) new.given
      ≡ letters_in n (h.accounts n i 0).peer (questions_in (h.accounts n i 0).taken) (h.accounts n i 0).given ++ says
  pub taken : weigh (take (heeded new) (partner_in g.accounts 0 new).given)
      ≡ weigh (take (heeded (h.accounts n i 0)) (partner_in h.accounts 0 (h.accounts n i 0)).given) + took
  pub learned_so : LearnedSo g.accounts n i learned
  -- the machine
  pub comes : Comes j z (name n i) learned says took

module _ (stay : TakenStay) (births : BirthsOfRuns) (coverage : CoverageOfRuns) (w : World) (h g : History) (n : ℕ) (node : Node)
    (sender : Option Sender) (moment : ℕ) (ev : Event) (mv : Move) (x : End) (d : Deed) (k : Kept) (j : machine.World)
    (q : steps.IsMade w h n node sender moment ev mv x d k j) (b : Kept) (z : machine.World) (i : ℕ) (t r : Tunnel) (new : Account)
    (ls : List Letter) (says : List machine_letters.Letter) (took learned : ℕ)
    (o : ComesOpen w h g n node x b j z i t r new ls says took learned) where
  abbrev X : ℕ
  X = name n i

  abbrev u : World
  u = behind w n node x b

  abbrev a : Account
  a = h.accounts n i 0

  live : LiveOk w h n i t
  live = made.live_ok w h n node sender moment ev mv x d k j q i t o.at_t

  fits : i < 65536
  fits = made.id_fits w h n node sender moment ev mv x d k j q i t o.at_t

  told : TunnelJoined j (with_book w n k) h n i (Some t) (tunnel_at k i)
  told = made.told w h n node sender moment ev mv x d k j q i t o.at_t

  -- ---- the history

  part_as : (p f e : ℕ) → (g.accounts p f e).part ≡ (h.accounts p f e).part
  part_as p f e = ⊎_elim
      (λ (s : (p ≡ n) × (f ≡ i) × (e ≡ 0)). rw (s.0, s.1, s.2) (ap (λ (c : Account). c.part) o.is ∙ o.part))
      (λ other. ap (λ (c : Account). c.part) (o.other_accounts p f e other))
      (here_or_not p f e n i 0)

  peer_as : (p f e : ℕ) → (g.accounts p f e).peer ≡ (h.accounts p f e).peer
  peer_as p f e = ⊎_elim
      (λ (s : (p ≡ n) × (f ≡ i) × (e ≡ 0)). rw (s.0, s.1, s.2) (ap (λ (c : Account). c.peer) o.is ∙ o.peer))
      (λ other. ap (λ (c : Account). c.peer) (o.other_accounts p f e other))
      (here_or_not p f e n i 0)

  answer_as : (p f e : ℕ) → (g.accounts p f e).answer ≡ (h.accounts p f e).answer
  answer_as p f e = ⊎_elim
      (λ (s : (p ≡ n) × (f ≡ i) × (e ≡ 0)). rw (s.0, s.1, s.2) (ap (λ (c : Account). c.answer) o.is ∙ o.answer))
      (λ other. ap (λ (c : Account). c.answer) (o.other_accounts p f e other))
      (here_or_not p f e n i 0)

  later : (e : ℕ) → (e ≡ 0 → ⊥) → g.accounts n i e ≡ h.accounts n i e
  later e other = o.other_accounts n i e (λ s. other s.2)

  grown : (f : ℕ) → Grown (h.accounts n i f) (g.accounts n i f)
  grown f = ⊎_elim
      (λ (first : f ≡ 0). rw first (record {
        given = (ls, ap (λ (c : Account). c.given) o.is ∙ o.given);
        acceptor = λ is. (part_as n i 0 ∙ is, peer_as n i 0, ap (λ (c : Account). c.remote) o.is ∙ o.accepted is);
      }))
      (λ other. subst (Grown (h.accounts n i f)) (sym (later f other)) (record {
        given = ([], sym (append-nil (h.accounts n i f).given));
        acceptor = λ is. (is, refl, refl);
      }))
      (same_or_not f 0)

  given_on : (p f e : ℕ) → (more : List Letter) × ((g.accounts p f e).given ≡ (h.accounts p f e).given ++ more)
  given_on p f e = ⊎_elim
      (λ (s : (p ≡ n) × (f ≡ i) × (e ≡ 0)).
      subst (λ y. (more : List Letter) × ((g.accounts y f e).given ≡ (h.accounts y f e).given ++ more)) (sym s.0)
      (subst (λ y. (more : List Letter) × ((g.accounts n y e).given ≡ (h.accounts n y e).given ++ more)) (sym s.1)
      (grown e).given))
      (λ other. ([], ap (λ (c : Account). c.given) (o.other_accounts p f e other) ∙ sym (append-nil (h.accounts p f e).given)))
      (here_or_not p f e n i 0)

  -- ---- what is said of the tunnel

  sent_on : (e : ℕ) → z.channels.sent X e
      ≡ letters_in n (g.accounts n i e).peer (questions_in (g.accounts n i e).taken) (g.accounts n i e).given
  sent_on e = ⊎_elim
      (λ (first : e ≡ 0).
      subst (λ y. z.channels.sent X y
      ≡ letters_in n (g.accounts n i y).peer (questions_in (g.accounts n i y).taken) (g.accounts n i y).given) (sym first)
      (o.comes.sent
      ∙ (ap (λ c. c ++ says) (told.sent 0)
      ∙ (sym o.sent ∙ (ap (λ p. letters_in n p (questions_in new.taken) new.given) (sym o.peer)
      ∙ sym (ap (λ (c : Account). letters_in n c.peer (questions_in c.taken) c.given) o.is))))))
      (λ other.
      o.comes.later_sent e other
      ∙ (told.sent e ∙ ap (λ (c : Account). letters_in n c.peer (questions_in c.taken) c.given) (sym (later e other))))
      (same_or_not e 0)

  taken_on : (e : ℕ) → z.channels.taken X e ≡ weigh (take (heeded (g.accounts n i e)) (partner_in g.accounts e (g.accounts n i e)).given)
  taken_on e = ⊎_elim
      (λ (first : e ≡ 0).
      subst (λ y. z.channels.taken X y ≡ weigh (take (heeded (g.accounts n i y)) (partner_in g.accounts y (g.accounts n i y)).given))
      (sym first)
      (o.comes.taken
      ∙ (ap (λ c. c + took) (told.taken 0)
      ∙ (sym o.taken ∙ sym (ap (λ (c : Account). weigh (take (heeded c) (partner_in g.accounts 0 c).given)) o.is)))))
      (λ other.
      let c = h.accounts n i e in
      let more = given_on c.peer c.remote e in
      o.comes.later_taken e other
      ∙ (told.taken e
      ∙ sym (ap (λ (f : Account). weigh (take (heeded f) (partner_in g.accounts e f).given)) (later e other)
      ∙ (ap (λ gs. weigh (take (heeded c) gs)) more.1
      ∙ stay (partner_in h.accounts e c).given more.0 (heeded c) (made.within w h n node sender moment ev mv x d k j q n i e)))))
      (same_or_not e 0)

  here : TunnelJoined z u g n i (Some r) (tunnel_at b i)
  here = record {
    opener = o.comes.opener ∙ (told.opener ∙ ap is_opener (sym (part_as n i 0)));
    node = λ some. o.comes.node X ∙ told.node (λ none. some (part_as n i 0 ∙ none));
    peer = λ some. o.comes.peer ∙ (told.peer (λ none. some (part_as n i 0 ∙ none)) ∙ sym (peer_as n i 0));
    learned = subst (LearnedSo g.accounts n i) (sym o.comes.learned_is) o.learned_so;
    phase = o.comes.phase ∙ sym (current_phase n r r.recovery o.current ∙ ap phase_of o.state);
    booked = o.comes.booked
        ∙ sym (ap (λ y. is_some y) (o.mirrors.tunnels i ∙ ap (tunnel_record i) o.at_r) ∙ (is_booked i r ∙ ap is_open o.state));
    entered = o.comes.entered X ∙ (told.entered
        ∙ sym (ap (λ (y : Standing). y.epoch) (standings w n node q.moved.there x k b n i)));
    epochs = o.comes.rest.epochs X ∙ (told.epochs
        ∙ sym (ap (λ (y : Standing). y.made) (standings w n node q.moved.there x k b n i)));
    entered_by = λ e. o.comes.entered_by e ∙ (told.entered_by e ∙ ap answer_name (sym (answer_as n i e)));
    sent = sent_on;
    taken = taken_on;
    refused = o.comes.refused ∙ (told.refused ∙ sym (ap (λ (c : Account). c.declined) o.is ∙ o.declined));
  }

  calls : CallsJoined z g n (left node x b)
  calls = sessions_joined node x k b j z h g n (record {
    old = q.mirrors;
    new = o.mirrors;
    bounded = fit_bounded x q.fit;
    peers = λ f. peer_as n f 0;
    nodes = λ y is. o.comes.node y ∙ is;
    rises = (let e = ap (λ y. y.next) o.ids in omega (arith, e));
    zero = ap (λ (c : Calls). c.drawn (name n 0)) o.comes.calls;
    each = λ s sfits. inl (record {
      like = like_in node.end x i t r s o.at_t o.at_r o.others (like_same (at t.calls s) (at r.calls s) (ap (λ y. at y s) o.calls_same));
      stays = same_stays j z (name n s) o.comes.calls;
    });
  }) (made.calls_before w h n node sender moment ev mv x d k j q)

  changes : Changes w h g n node x k b j z i
  changes = record {
    node_fits = made.node_fits w h n node sender moment ev mv x d k j q;
    id_fits = fits;
    there = q.moved.there;
    old = q.mirrors;
    new = o.mirrors;
    nodes = q.nodes;
    within = made.within w h n node sender moment ev mv x d k j q;
    others = o.others;
    accounts = λ p f e apart. o.other_accounts p f e (λ s. apart (s.0, s.1));
    grown = grown;
    history = record { attempts = o.attempts; answers = o.answers; answer = answer_as };
    rest = o.comes.rest;
    drawn = λ p c pfits cfits.
        o.comes.drawn (name p c)
        ∙ (q.joined.joined.drawn p c pfits cfits
        ∙ sym (ap (λ y. is_made y || (is_some (g.attempts p c) || is_some (g.answers p c))) (part_as p c 0)
        ∙ (ap (λ y. is_made (h.accounts p c 0).part || (is_some y || is_some (g.answers p c))) (o.attempts p c)
        ∙ ap (λ y. is_made (h.accounts p c 0).part || (is_some (h.attempts p c) || is_some y)) (o.answers p c))));
    stays = o.comes.stays;
    here = subst (λ y. TunnelJoined z u g n i y (tunnel_at b i)) (sym o.at_r) here;
    calls = calls;
    calls_stay = λ p s off pfits sfits. same_stays j z (name p s) o.comes.calls;
    births = (ap (λ (c : Calls). c.births) o.comes.calls, λ y. ap (λ (c : Calls). c.birth y) o.comes.calls);
  }

  pub open_joined : (js : List moves.Move) → z ≡ goes_on all_rules j js → AreJoined u g z
  open_joined js goes = one_joined stay (with_book w n k) u h g j z n i (booked node k) (left node x b) q.joined.joined
      (changes_one w h g n node x k b j z i changes q.joined.joined) js goes

  -- ---- what is asked for

  no_asking : r.query ≡ no_query
  no_asking = o.query ∙ live.query.none o.first

  own_query : QueryJoined z n i (g.accounts n i 0).peer r
  own_query = record {
    asks = λ y.
        ap (λ (c : Calls). c.asks X y) o.comes.calls
        ∙ (asks_nothing births coverage q.joined.joined.moves j q.joined.joined.run X y
        (made.entered_is w h n node sender moment ev mv x d k j q i t o.at_t ∙ o.first)
        ∙ ap (λ f. list_any (λ (p : Pair). name n p.sender == y) (left_of f)) (sym no_asking));
    held = subst (λ f. AllByRecursion (λ (p : Pair). z.calls.held X (z.tunnels.entered X) (name n p.sender)
        ≡ name_of (g.accounts n i 0).peer p.receiver) (left_of f)) (sym no_asking) tt;
  }

  -- another tunnel that is live was
  was_live : (y f : ℕ) (v : Tunnel) → ((y ≡ n) × (f ≡ i) → ⊥) → IsLive u y f v → IsLive (with_book w n k) y f v
  was_live y f v apart alive = ⊎_elim
      (λ (e : y ≡ n).
      let here_is : at u.nodes n ≡ Some alive.node = subst (λ p. at u.nodes p ≡ Some alive.node) e alive.is in
      let node_is : left node x b ≡ alive.node = same_Some (left node x b) alive.node (sym (ahead.is w n node q.moved.there x k b)
      ∙ here_is) in
      let at_v : at x.tunnels f ≡ Some v = ap (λ (p : Node). at p.end.tunnels f) node_is ∙ alive.there in
      subst (λ p. IsLive (with_book w n k) p f v) (sym e) (record {
        node = booked node k;
        is = ahead.was w n node q.moved.there x k b;
        there = sym (o.others f (λ same. apart (e, same))) ∙ at_v;
      }))
      (λ off. record {
        node = alive.node;
        is = sym (ahead.others_same w n node q.moved.there x k b y off) ∙ alive.is;
        there = alive.there;
      })
      (same_or_not y n)

  pub open_queries : QueriesJoined u g z
  open_queries y f v alive current three = ⊎_elim
      (λ (s : (y ≡ n) × (f ≡ i)).
      let here_is : at u.nodes n ≡ Some alive.node = subst (λ p. at u.nodes p ≡ Some alive.node) s.0 alive.is in
      let node_is : left node x b ≡ alive.node = same_Some (left node x b) alive.node (sym (ahead.is w n node q.moved.there x k b)
      ∙ here_is) in
      let at_v : at x.tunnels f ≡ Some v = ap (λ (p : Node). at p.end.tunnels f) node_is ∙ alive.there in
      let same : r ≡ v = same_Some r v (sym o.at_r ∙ subst (λ p. at x.tunnels p ≡ Some v) s.1 at_v) in
      subst (λ p. QueryJoined z p f (g.accounts p f 0).peer v) (sym s.0)
      (subst (λ p. QueryJoined z n p (g.accounts n p 0).peer v) (sym s.1) (subst (QueryJoined z n i (g.accounts n i 0).peer) same
      own_query)))
      (λ apart.
      subst (λ p. QueryJoined z y f p v) (sym (peer_as y f 0))
      (query_as j z y f (h.accounts y f 0).peer v v refl (λ s. ap (λ (c : Calls). c.asks (name y f) s) o.comes.calls)
      (λ s. ap (λ (c : Calls). c.held (name y f) (z.tunnels.entered (name y f)) s) o.comes.calls
      ∙ ap (λ e. j.calls.held (name y f) e s) (o.comes.entered (name y f)))
      (q.joined.queries y f v (was_live y f v apart alive) current three)))
      (this_or_not y f n i)

  pub open_named : CallsAreNamed z
  open_named = named_as j z (ap (λ (c : Calls). c.drawn) o.comes.calls) q.joined.named
