-- A tunnel of a node gives letters and takes some, in its epoch: the world is joined again where the machine's tunnel does so too, and no
-- other tunnel
-- changes in it. What becomes of the node's calls is told apart.
use Rattle.std.proofs.Common.{◌≡◌, ◌⊎◌, inl, inr, ⊎_elim, ℕ, ◌+◌, ◌<◌, ◌≤◌, Bool, true, false, List, [], ◌++◌, length, refl, sym, ap, ◌∙◌, subst, Option, Some, None, arith, append-nil}
use Rattle.std.specs.Prelude.{is_some, take, if◌then◌else◌}
use Rattle.id_table.specs.Ids.{at}
use Rattle.id_table.specs.Order.{same_or_not}
use Rattle.session_book.specs.Books.{Kept, tunnel_at}
use Rattle.end_model.specs.Tunnels.{Tunnel, Recovering, ByAttempt, ByAnswer, is_finished}
use Rattle.end_model.specs.Moments.{is_open}
use Rattle.end_model.specs.End.{End}
use Rattle.world_model.specs.declared.standing.Standing.{Standing}
use Rattle.world_model.specs.World.{World, Node, birth_of, standing_of, epoch_of}
use Rattle.step_laws.specs.Letters.{Letter}
use Rattle.book_laws.specs.Books.{booked_control, tunnel_record, Mirrors}
use Rattle.node_laws.specs.Nodes.{HoldsNode}
use Rattle.epoch_machine.specs.Letters as machine_letters
use Rattle.epoch_machine.specs.Worlds as machine
use Rattle.epoch_machine.specs.Tunnels.{Tunnels, Attempts, Answers}
use Rattle.session_laws.specs.Names.{name, phase_of}
use Rattle.channel_laws.specs.Accounts.{Account, heeded, History}
use Rattle.channel_laws.specs.Facts.{partner_in}
use Rattle.recovery_laws.specs.Asking.{GoesOn}
use Rattle.recovery_laws.specs.Growing.{TakenStay}
use Rattle.recovery_laws.specs.Queries.{letters_in, questions_in, weigh}
use Rattle.recovery_laws.specs.Joined.{is_opener, answer_name, phase_by, phase_in, LearnedSo, TunnelJoined, AttemptJoined, AnswerJoined, CallsJoined, live_in, kept_in, AreJoined}
use Rattle.join_laws.specs.Steps.{with_book}
use Rattle.join_laws.proofs.Books.{booked}
use Rattle.join_laws.proofs.Ahead.{behind, left, was, is, others, nodes_hold, standings, makes_as, births_as, born_as, kept, book_standings}
use Rattle.join_laws.proofs.Roots.{Roots, Speaks, all_roots, other_tunnels, grown, learned_on, made_before, used_as, attempt_as, answer_as}
use Rattle.join_laws.proofs.OneTunnel.{NameStays, CallStays, OneTunnel, this_or_not}

-- ---- what is seen of a tunnel

-- the machine's phase of a tunnel is by its state and its recovery tunnel
state_phase : (n : ℕ) (t r : Tunnel) (o : Option Recovering) → r.control.state ≡ t.control.state → phase_by n r o ≡ phase_by n t o
state_phase n t r None state = ap phase_of state
state_phase n t r (Some (ByAttempt c)) state =
    ap (λ s. if is_finished (ByAttempt c) then phase_of s else Attempts (name n c.local)) state
state_phase n t r (Some (ByAnswer c)) state =
    ap (λ s. if is_finished (ByAnswer c) then phase_of s else Answers (name n c.connection.local)) state

pub same_phase : (n : ℕ) (t r : Tunnel) → r.control.state ≡ t.control.state → r.recovery ≡ t.recovery
    → phase_in n (Some r) ≡ phase_in n (Some t)
same_phase n t r state recovery = ap (phase_by n r) recovery ∙ state_phase n t r t.recovery state

-- a book has it where it is established
pub is_booked : (i : ℕ) (t : Tunnel) → is_some (tunnel_record i (Some t)) ≡ is_open t.control.state
is_booked i t = by (is_open t.control.state)
  where
    by : (b : Bool) → is_some (if b then Some (booked_control i t.control) else None) ≡ b
    by true = refl
    by false = refl

pub same_booked : (e x : End) (k b : Kept) → Mirrors e k → Mirrors x b → (i : ℕ) (t r : Tunnel) → at e.tunnels i ≡ Some t
    → at x.tunnels i ≡ Some r
    → r.control.state ≡ t.control.state → is_some (tunnel_at b i) ≡ is_some (tunnel_at k i)
same_booked e x k b old new i t r at_t at_r state =
    ap (λ o. is_some o) (new.tunnels i ∙ ap (tunnel_record i) at_r)
    ∙ (is_booked i r ∙ (ap is_open state ∙ sym (ap (λ o. is_some o) (old.tunnels i ∙ ap (tunnel_record i) at_t) ∙ is_booked i t)))

-- ---- the tunnel talks

-- of a move by which a tunnel that lives stays in its state, and gives and takes letters
pub record Talks (w : World) (h g : History) (n : ℕ) (node : Node) (x : End) (k b : Kept) (m z : machine.World) (i e : ℕ) (t r : Tunnel)
    (ls : List Letter) (says : List machine_letters.Letter) (took : ℕ) : Type 0 where
  pub node_fits : n < 256
  pub id_fits : i < 65536
  pub there : at w.nodes n ≡ Some node
  pub old : Mirrors node.end k
  pub new : Mirrors x b
  pub nodes : (q : ℕ) (c : Node) → (q ≡ n → ⊥) → at w.nodes q ≡ Some c → HoldsNode c
  pub within : (q j f : ℕ) → heeded (h.accounts q j f) ≤ length (partner_in h.accounts f (h.accounts q j f)).given
  -- the tunnel before and behind it
  pub at_t : at node.end.tunnels i ≡ Some t
  pub at_r : at x.tunnels i ≡ Some r
  pub state : r.control.state ≡ t.control.state
  pub recovery : r.recovery ≡ t.recovery
  pub others : (j : ℕ) → (j ≡ i → ⊥) → at x.tunnels j ≡ at node.end.tunnels j
  -- its channel, in the history and in the machine
  pub speaks : Speaks h g n i e ls
  pub goes : GoesOn m z (name n i) e says took
  pub sent : letters_in n (h.accounts n i e).peer (questions_in (g.accounts n i e).taken) (g.accounts n i e).given
      ≡ letters_in n (h.accounts n i e).peer (questions_in (h.accounts n i e).taken) (h.accounts n i e).given ++ says
  pub taken : weigh (take (heeded (g.accounts n i e)) (partner_in h.accounts e (h.accounts n i e)).given)
      ≡ weigh (take (heeded (h.accounts n i e)) (partner_in h.accounts e (h.accounts n i e)).given) + took
  pub most : heeded (g.accounts n i e) ≤ length (partner_in h.accounts e (h.accounts n i e)).given
  -- calls, and births
  pub calls : CallsJoined z g n (left node x b)
  pub calls_stay : (q s : ℕ) → (q ≡ n → ⊥) → q < 256 → s < 65536 → CallStays m z (name q s)
  pub births : (z.calls.births ≡ m.calls.births) × ((y : ℕ) → z.calls.birth y ≡ m.calls.birth y)

module _ (stay : TakenStay) (w : World) (h g : History) (n : ℕ) (node : Node) (x : End) (k b : Kept) (m z : machine.World) (i e : ℕ) (t
    r : Tunnel)
    (ls : List Letter) (says : List machine_letters.Letter) (took : ℕ) (o : Talks w h g n node x k b m z i e t r ls says took)
    (joined : AreJoined (with_book w n k) h m) where
  abbrev v : World
  v = with_book w n k

  abbrev u : World
  u = behind w n node x b

  abbrev X : ℕ
  X = name n i

  tunnels : z.tunnels ≡ m.tunnels
  tunnels = o.goes.tunnels

  roots : (q j f : ℕ) → Roots (h.accounts q j f) (g.accounts q j f)
  roots = all_roots h g n i e ls o.speaks

  -- what another tunnel took stays so
  given_on : (q j f : ℕ) → (more : List Letter) × ((g.accounts q j f).given ≡ (h.accounts q j f).given ++ more)
  given_on q j f = ⊎_elim
      (λ (p : (q ≡ n) × (j ≡ i)). rw (p.0, p.1) (grown h g n i e ls o.speaks f).given)
      (λ apart. (
        [],
        ap (λ (a : Account). a.given) (other_tunnels h g n i e ls o.speaks q j f apart)
            ∙ sym (append-nil (h.accounts q j f).given),
      ))
      (this_or_not q j n i)

  told : TunnelJoined m v h n i (Some t) (tunnel_at k i)
  told =
      subst (λ q. TunnelJoined m v h n i q (tunnel_at k i)) o.at_t
      (subst (λ (q : Option Node). TunnelJoined m v h n i (live_in q i) (kept_in q i)) (was w n node o.there x k b) (joined.tunnels n i
      o.node_fits o.id_fits))

  -- its letters, and those that it took, epoch by epoch
  sent_on : (f : ℕ) → z.channels.sent X f ≡ letters_in n (g.accounts n i f).peer (questions_in (g.accounts n i f).taken) (g.accounts n
      i f).given
  sent_on f = ⊎_elim
      (λ (p : f ≡ e).
      subst (λ y. z.channels.sent X y ≡ letters_in n (g.accounts n i y).peer (questions_in (g.accounts n i y).taken) (g.accounts n i
      y).given) (sym p)
      (o.goes.sent
      ∙ (ap (λ q. q ++ says) (told.sent e)
      ∙ (sym o.sent ∙ ap (λ p. letters_in n p (questions_in (g.accounts n i e).taken) (g.accounts n i e).given) (sym (roots n i e).peer)))))
      (λ other.
      o.goes.others_sent X f (λ same is. other is)
      ∙ (told.sent f ∙ ap (λ (a : Account). letters_in n a.peer (questions_in a.taken) a.given) (sym (o.speaks.others n i f (λ p. other
      p.2)))))
      (same_or_not f e)

  partner_on : (f : ℕ) (count : ℕ) → count ≤ length (partner_in h.accounts f (h.accounts n i f)).given
      → weigh (take count (partner_in g.accounts f (g.accounts n i f)).given) ≡ weigh (take count (partner_in h.accounts f (h.accounts
      n i f)).given)
  partner_on f count le =
      let a = h.accounts n i f in
      let more = given_on a.peer a.remote f in
      ap (λ p. weigh (take count (g.accounts p (g.accounts n i f).remote f).given)) (roots n i f).peer
      ∙ (ap (λ q. weigh (take count (g.accounts a.peer q f).given)) (roots n i f).remote
      ∙ (ap (λ q. weigh (take count q)) more.1 ∙ stay (partner_in h.accounts f a).given more.0 count le))

  taken_on : (f : ℕ) → z.channels.taken X f ≡ weigh (take (heeded (g.accounts n i f)) (partner_in g.accounts f (g.accounts n i f)).given)
  taken_on f = ⊎_elim
      (λ (p : f ≡ e).
      subst (λ y. z.channels.taken X y ≡ weigh (take (heeded (g.accounts n i y)) (partner_in g.accounts y (g.accounts n i y)).given))
      (sym p)
      (o.goes.taken ∙ (ap (λ q. q + took) (told.taken e) ∙ (sym o.taken ∙ sym (partner_on e (heeded (g.accounts n i e)) o.most)))))
      (λ other.
      let same = o.speaks.others n i f (λ p. other p.2) in
      o.goes.others_taken X f (λ same is. other is)
      ∙ (told.taken f
      ∙ sym (ap (λ (a : Account). weigh (take (heeded a) (partner_in g.accounts f (g.accounts n i f)).given)) same
      ∙ partner_on f (heeded (h.accounts n i f)) (o.within n i f))))
      (same_or_not f e)

  here : TunnelJoined z u g n i (Some r) (tunnel_at b i)
  here = record {
    opener = ap (λ (T : Tunnels). T.opener X) tunnels ∙ (told.opener ∙ ap is_opener (sym (roots n i 0).part));
    node = λ made. ap (λ (T : Tunnels). T.node X) tunnels ∙ told.node (made_before h g n i e ls o.speaks n i made);
    peer = λ made. ap (λ (T : Tunnels). T.peer X) tunnels
        ∙ (told.peer (made_before h g n i e ls o.speaks n i made) ∙ sym (roots n i 0).peer);
    learned = learned_on h g n i e ls o.speaks n i (z.tunnels.learned X)
        (subst (λ y. LearnedSo h.accounts n i y) (sym (ap (λ (T : Tunnels). T.learned X) tunnels)) told.learned);
    phase = ap (λ (T : Tunnels). T.phase X) tunnels ∙ (told.phase ∙ sym (same_phase n t r o.state o.recovery));
    booked = ap (λ (T : Tunnels). T.booked X) tunnels
        ∙ (told.booked ∙ sym (same_booked node.end x k b o.old o.new i t r o.at_t o.at_r o.state));
    entered = ap (λ (T : Tunnels). T.entered X) tunnels
        ∙ (told.entered ∙ sym (ap (λ (s : Standing). s.epoch) (standings w n node o.there x k b n i)));
    epochs = ap (λ (T : Tunnels). T.epochs X) tunnels
        ∙ (told.epochs ∙ sym (ap (λ (s : Standing). s.made) (standings w n node o.there x k b n i)));
    entered_by = λ f. ap (λ (T : Tunnels). T.entered_by X f) tunnels ∙ (told.entered_by f ∙ ap answer_name (sym (roots n i f).answer));
    sent = sent_on;
    taken = taken_on;
    refused = ap (λ y. y X) o.goes.refused ∙ (told.refused ∙ sym (roots n i 0).declined);
  }

  stays : (y : ℕ) → (y ≡ X → ⊥) → NameStays m z y
  stays y other = record {
    opener = ap (λ (T : Tunnels). T.opener y) tunnels;
    node = ap (λ (T : Tunnels). T.node y) tunnels;
    peer = ap (λ (T : Tunnels). T.peer y) tunnels;
    learned = ap (λ (T : Tunnels). T.learned y) tunnels;
    phase = ap (λ (T : Tunnels). T.phase y) tunnels;
    booked = ap (λ (T : Tunnels). T.booked y) tunnels;
    entered = ap (λ (T : Tunnels). T.entered y) tunnels;
    entered_by = λ f. ap (λ (T : Tunnels). T.entered_by y f) tunnels;
    sent = λ f. o.goes.others_sent y f (λ same. absurd (other same));
    taken = λ f. o.goes.others_taken y f (λ same. absurd (other same));
    refused = ap (λ f. f y) o.goes.refused;
  }

  pub talks_one : OneTunnel v u h g m z n i (booked node k) (left node x b)
  talks_one = record {
    node_fits = o.node_fits;
    id_fits = o.id_fits;
    was = was w n node o.there x k b;
    is = is w n node o.there x k b;
    up = refl;
    others = others w n node o.there x k b;
    nodes = nodes_hold w n node o.there x k b o.nodes;
    tunnels = o.others;
    kept = λ j other. kept w n node o.there x k b o.old o.new j (o.others j other);
    entered = λ q j apart. ap (λ (s : Standing). s.epoch) (standings w n node o.there x k b q j);
    epochs = λ q j qfits jfits.
        ap (λ (T : Tunnels). T.epochs (name q j)) tunnels
        ∙ ((joined.tunnels q j qfits jfits).epochs ∙ sym (ap (λ (s : Standing). s.made) (standings w n node o.there x k b q j)));
    accounts = other_tunnels h g n i e ls o.speaks;
    grown = grown h g n i e ls o.speaks;
    within = o.within;
    stays = stays;
    here = subst (λ q. TunnelJoined z u g n i q (tunnel_at b i)) (sym o.at_r) here;
    drawn = λ q c qfits cfits.
        ap (λ (T : Tunnels). T.drawn (name q c)) tunnels ∙ (joined.drawn q c qfits cfits ∙ sym (used_as h g n i e ls o.speaks q c));
    attempts = λ q c qfits cfits.
        subst (λ f. AttemptJoined z q c f) (sym (o.speaks.attempts q c))
        (attempt_as m z q c (h.attempts q c) tunnels (joined.attempts q c qfits cfits));
    answers = λ q c qfits cfits.
        subst (λ f. AnswerJoined z u g q c f) (sym (o.speaks.answers q c))
        (answer_as m z v u h g q c (h.answers q c) tunnels (makes_as w n node o.there x k b q c) (λ p j f. (roots p j f).answer)
        (joined.answers q c qfits cfits));
    ups = λ q. ap (λ (T : Tunnels). T.up q) tunnels;
    calls = o.calls;
    calls_stay = o.calls_stay;
    births = (
      o.births.0 ∙ (joined.births.0 ∙ sym (born_as w n node o.there x k b)),
      λ q s qfits sfits. o.births.1 (name q s) ∙ (joined.births.1 q s qfits sfits ∙ sym (births_as w n node o.there x k b q s)),
    );
  }
