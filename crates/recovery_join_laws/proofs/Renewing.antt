-- A tunnel of a node enters the epoch of an answer, and in the machine the tunnel of that name does so too, by the answer of that name:
-- then
-- the world is joined again.
use Rattle.std.proofs.Common.{◌≡◌, inl, ⊎_elim, ℕ, ◌<◌, ◌≤◌, true, List, [], length, refl, sym, ap, ◌∙◌, subst, Option, Some, None, arith, append-nil, eq-eqb, ne_eqb}
use Rattle.std.proofs.lemmas.Option.{same_Some}
use Rattle.std.specs.Prelude.{is_some, take, unwrap_or, if◌then◌else◌, ◌&&◌, ◌||◌}
use Rattle.std.specs.List.{AllByRecursion, list_any}
use Rattle.id_source.specs.Spaces.{Space}
use Rattle.id_table.specs.Ids.{at}
use Rattle.id_table.specs.Order.{Ascends, same_or_not}
use Rattle.wire_base.specs.declared.pair.Pair.{Pair}
use Rattle.session_query.specs.Queries.{Asking, left_of, new_query}
use Rattle.session_book.specs.Books.{Kept, tunnel_at}
use Rattle.tunnel_fsm.specs.Rows.{state_number}
use Rattle.end_model.specs.declared.moves.Restored.{Restored}
use Rattle.end_model.specs.declared.moves.Froze.{Froze}
use Rattle.end_model.specs.Calls.{sessions_of}
use Rattle.end_model.specs.Tunnels.{Tunnel, mode_of, is_current}
use Rattle.end_model.specs.End.{End}
use Rattle.end_names.specs.Names.{node_of}
use Rattle.world_model.specs.declared.standing.Standing.{Standing}
use Rattle.world_model.specs.World.{World, Node, standing_of, epoch_of}
use Rattle.step_laws.specs.Letters.{Letter}
use Rattle.book_laws.specs.Books.{Mirrors}
use Rattle.node_laws.specs.Nodes.{HoldsNode}
use Rattle.epoch_machine.specs.Worlds as machine
use Rattle.epoch_machine.specs.Calls as calls
use Rattle.epoch_machine.specs.Channels.{Channels}
use Rattle.birth_laws.specs.Births.{CallsHold}
use Rattle.session_laws.specs.Names.{name, name_of}
use Rattle.session_laws.proofs.Heard.{open_phase}
use Rattle.channel_laws.specs.Accounts.{Unmade, Acceptor, Account, heeded, History}
use Rattle.channel_laws.specs.Facts.{partner_in, makes}
use Rattle.channel_laws.proofs.Anew.{Begins, here_or_not, first, given_on}
use Rattle.recovery_laws.specs.Queries.{letters_in, questions_in, weigh, QueryJoined, QueriesJoined}
use Rattle.recovery_laws.specs.Joined.{is_opener, is_made, learned_name, answer_name, is_used, LearnedSo, ByLetter, ByRecord, TunnelJoined, AttemptJoined, AnswerIs, AnswerJoined, CallsJoined}
use Rattle.recovery_laws.proofs.Epochs.{current_phase}
use Rattle.join_laws.specs.Steps.{with_book, IsJoined}
use Rattle.join_laws.proofs.Ahead.{left, book_standings, book_makes}
use Rattle.join_laws.proofs.Books.{booked}
use Rattle.join_laws.proofs.Bounds.{Bounded}
use Rattle.join_laws.proofs.Calls.{sessions_joined, like_in, like_same}
use Rattle.join_laws.proofs.Letters.{same_booked}
use Rattle.join_laws.proofs.OneTunnel.{Grown, OneTunnel, this_or_not}
use Rattle.recovery_join_laws.proofs.Behind as behind
use Rattle.recovery_join_laws.proofs.Behind.{Leads, calls_as}
use Rattle.recovery_join_laws.proofs.Names.{named}
use Rattle.recovery_join_laws.proofs.Others.{asks_apart}
use Rattle.recovery_join_laws.proofs.Resets.{Entered}
use Rattle.recovery_join_laws.proofs.Sessions as sessions

pub record Renews (w v : World) (h g : History) (n : ℕ) (node : Node) (x : End) (k b : Kept) (j z : machine.World) (i e c : ℕ)
    (new : Account)
    (t r : Tunnel) : Type 0 where
  pub node_fits : n < 256
  pub id_fits : i < 65536
  pub there : at w.nodes n ≡ Some node
  pub old : Mirrors node.end k
  pub mirrors : Mirrors x b
  pub bounded : Bounded node.end
  pub bounded_then : Bounded x
  pub nodes : (q : ℕ) (c : Node) → (q ≡ n → ⊥) → at w.nodes q ≡ Some c → HoldsNode c
  pub within : (q p f : ℕ) → heeded (h.accounts q p f) ≤ length (partner_in h.accounts f (h.accounts q p f)).given
  -- the world
  pub leads : Leads w v n node x
  pub own_epoch : epoch_of v n i ≡ e
  pub own_made : (standing_of v n i).made ≡ (standing_of w n i).made
  pub standings : (q p : ℕ) → ((q ≡ n) × (p ≡ i) → ⊥) → standing_of v q p ≡ standing_of w q p
  pub makes_as : (q p : ℕ) → makes v q p ≡ makes w q p
  -- the history
  pub begins : Begins h g n i e new
  pub answer : answer_name new.answer ≡ c
  pub open_is : new.closed ≡ None
  -- the tunnel
  pub at_t : at node.end.tunnels i ≡ Some t
  pub at_r : at x.tunnels i ≡ Some r
  pub others : (p : ℕ) → (p ≡ i → ⊥) → at x.tunnels p ≡ at node.end.tunnels p
  pub state : r.control.state ≡ t.control.state
  pub three : state_number t.control.state ≡ 3
  pub current : is_current (mode_of r.recovery) ≡ true
  pub calls : r.calls ≡ t.calls
  pub order : Ascends t.calls
  pub query : r.query ≡ new_query (sessions_of t.calls)
  pub ids : x.session_ids ≡ node.end.session_ids
  -- in the machine
  pub told : TunnelJoined j (with_book w n k) h n i (Some t) (tunnel_at k i)
  pub own : j.tunnels.node (name n i) ≡ n
  pub before : CallsJoined j h n (booked node k)
  pub known : CallsHold j.tunnels j.calls
  pub entered : Entered j z (name n i) c e

module _ (w v : World) (h g : History) (n : ℕ) (node : Node) (x : End) (k b : Kept) (j z : machine.World) (i e c : ℕ) (new : Account)
    (t r : Tunnel)
    (o : Renews w v h g n node x k b j z i e c new t r) (joined : IsJoined (with_book w n k) h j) where
  abbrev X : ℕ
  X = name n i

  abbrev w0 : World
  w0 = with_book w n k

  abbrev u : World
  u = with_book v n b

  s : Entered j z X c e
  s = o.entered

  abbrev l : Leads w v n node x
  l = o.leads

  abbrev after : Node
  after = booked o.leads.after b

  -- ---- the history

  acc : (q p : ℕ) → g.accounts q p 0 ≡ h.accounts q p 0
  acc = first h g n i e new o.begins

  peers : (p : ℕ) → (g.accounts n p 0).peer ≡ (h.accounts n p 0).peer
  peers p = ap (λ (a : Account). a.peer) (acc n p)

  later : (f : ℕ) → ((f ≡ e) → ⊥) → g.accounts n i f ≡ h.accounts n i f
  later f apart = o.begins.others n i f (λ q. apart q.2)

  apart_accounts : (q p f : ℕ) → ((q ≡ n) × (p ≡ i) → ⊥) → g.accounts q p f ≡ h.accounts q p f
  apart_accounts q p f apart = o.begins.others q p f (λ q. apart (q.0, q.1))

  grown : (f : ℕ) → Grown (h.accounts n i f) (g.accounts n i f)
  grown f = ⊎_elim
      (λ (q : f ≡ e). subst (λ y. Grown (h.accounts n i y) (g.accounts n i y)) (sym q) (record {
        given = ([], given_on h g n i e new o.begins n i e ∙ sym (append-nil (h.accounts n i e).given));
        acceptor = λ is. (let two : Unmade ≡ Acceptor = sym (ap (λ (a : Account). a.part) o.begins.was) ∙ is in absurd cc);
      }))
      (λ apart. subst (λ y. Grown (h.accounts n i f) y) (sym (later f apart)) (record {
        given = ([], sym (append-nil (h.accounts n i f).given));
        acceptor = λ is. (is, refl, refl);
      }))
      (same_or_not f e)

  learned_on : (y : ℕ) → LearnedSo h.accounts n i y → LearnedSo g.accounts n i y
  learned_on y (ByLetter is) = ByLetter (is ∙ ap learned_name (sym (acc n i)))
  learned_on y (ByRecord a part none some is accepts back own) =
      let p : (g.accounts n i 0).peer ≡ (h.accounts n i 0).peer = peers i in
      let q = acc (h.accounts n i 0).peer a in
      ByRecord a (ap (λ (y : Account). y.part) (acc n i) ∙ part) (ap (λ (y : Account). y.remote) (acc n i) ∙ none) some
      (is ∙ ap (λ y. name y a) (sym p))
      (ap (λ y. (g.accounts y a 0).part) p ∙ (ap (λ (y : Account). y.part) q ∙ accepts))
      (ap (λ y. (g.accounts y a 0).peer) p ∙ (ap (λ (y : Account). y.peer) q ∙ back))
      (ap (λ y. (g.accounts y a 0).remote) p ∙ (ap (λ (y : Account). y.remote) q ∙ own))

  used : (q a : ℕ) → is_used g q a ≡ is_used h q a
  used q a =
      ap (λ p. is_made p || (is_some (g.attempts q a) || is_some (g.answers q a))) (ap (λ (y : Account). y.part) (acc q a))
      ∙ (ap (λ y. is_made (h.accounts q a 0).part || (is_some y || is_some (g.answers q a))) (o.begins.attempts q a)
      ∙ ap (λ y. is_made (h.accounts q a 0).part || (is_some (h.attempts q a) || is_some y)) (o.begins.answers q a))

  -- ---- standings

  standing_then : (q p : ℕ) → standing_of u q p ≡ standing_of v q p
  standing_then = book_standings v n l.after l.is b

  standing_before : (q p : ℕ) → standing_of w0 q p ≡ standing_of w q p
  standing_before = book_standings w n node o.there k

  standing_on : (q p : ℕ) → ((q ≡ n) × (p ≡ i) → ⊥) → standing_of u q p ≡ standing_of w0 q p
  standing_on q p apart = standing_then q p ∙ (o.standings q p apart ∙ sym (standing_before q p))

  made_on : (q p : ℕ) → (standing_of u q p).made ≡ (standing_of w0 q p).made
  made_on q p = ⊎_elim
      (λ (y : (q ≡ n) × (p ≡ i)).
      rw (y.0, y.1) (ap (λ (a : Standing). a.made) (standing_then n i)
      ∙ (o.own_made ∙ sym (ap (λ (a : Standing). a.made) (standing_before n i)))))
      (λ apart. ap (λ (a : Standing). a.made) (standing_on q p apart))
      (this_or_not q p n i)

  makes_on : (q p : ℕ) → makes u q p ≡ makes w0 q p
  makes_on q p = book_makes v n l.after l.is b q p ∙ (o.makes_as q p ∙ sym (book_makes w n node o.there k q p))

  -- ---- the tunnel

  sent_on : (f : ℕ) → z.channels.sent X f
      ≡ letters_in n (g.accounts n i f).peer (questions_in (g.accounts n i f).taken) (g.accounts n i f).given
  sent_on f = ap (λ (y : Channels). y.sent X f) s.channels ∙ (o.told.sent f ∙ ⊎_elim
      (λ (q : f ≡ e). subst
      (λ y. letters_in n (h.accounts n i y).peer (questions_in (h.accounts n i y).taken) (h.accounts n i y).given
      ≡ letters_in n (g.accounts n i y).peer (questions_in (g.accounts n i y).taken) (g.accounts n i y).given)
      (sym q)
      (ap (λ (a : Account). letters_in n a.peer (questions_in a.taken) a.given) o.begins.was
      ∙ sym (ap (λ ls. letters_in n (g.accounts n i e).peer (questions_in (g.accounts n i e).taken) ls)
      (ap (λ (a : Account). a.given) o.begins.here ∙ o.begins.given))))
      (λ apart. ap (λ (a : Account). letters_in n a.peer (questions_in a.taken) a.given) (sym (later f apart)))
      (same_or_not f e))

  none_taken : (a : Account) → heeded a ≡ 0 → (ls : List Letter) → weigh (take (heeded a) ls) ≡ 0
  none_taken a is ls = ap (λ q. weigh (take q ls)) is

  heeds_none : heeded new ≡ 0
  heeds_none = ap (λ y. unwrap_or y (length new.taken)) o.open_is ∙ ap length o.begins.taken

  taken_on : (f : ℕ) → z.channels.taken X f ≡ weigh (take (heeded (g.accounts n i f)) (partner_in g.accounts f (g.accounts n i f)).given)
  taken_on f = ap (λ (y : Channels). y.taken X f) s.channels ∙ (o.told.taken f ∙ ⊎_elim
      (λ (q : f ≡ e). subst
      (λ y. weigh (take (heeded (h.accounts n i y)) (partner_in h.accounts y (h.accounts n i y)).given)
      ≡ weigh (take (heeded (g.accounts n i y)) (partner_in g.accounts y (g.accounts n i y)).given))
      (sym q)
      (none_taken (h.accounts n i e) (ap heeded o.begins.was) (partner_in h.accounts e (h.accounts n i e)).given
      ∙ sym (none_taken (g.accounts n i e) (ap heeded o.begins.here ∙ heeds_none) (partner_in g.accounts e (g.accounts n i e)).given)))
      (λ apart.
      sym (ap (λ (a : Account). weigh (take (heeded a) (partner_in g.accounts f a).given)) (later f apart)
      ∙ ap (λ ls. weigh (take (heeded (h.accounts n i f)) ls))
      (given_on h g n i e new o.begins (h.accounts n i f).peer (h.accounts n i f).remote f)))
      (same_or_not f e))

  entered_by_on : (f : ℕ) → z.tunnels.entered_by X f ≡ answer_name (g.accounts n i f).answer
  entered_by_on f = s.entered_by f ∙ ⊎_elim
      (λ (q : f ≡ e).
      ap (λ y. if y then c else j.tunnels.entered_by X f) (eq-eqb f e q)
      ∙ (sym o.answer ∙ sym (ap (λ y. answer_name (g.accounts n i y).answer) q ∙ ap (λ (a : Account). answer_name a.answer) o.begins.here)))
      (λ apart.
      ap (λ y. if y then c else j.tunnels.entered_by X f) (ne_eqb f e apart)
      ∙ (o.told.entered_by f ∙ ap (λ (a : Account). answer_name a.answer) (sym (later f apart))))
      (same_or_not f e)

  here : TunnelJoined z u g n i (Some r) (tunnel_at b i)
  here = record {
    opener = s.opener ∙ (o.told.opener ∙ ap (λ (a : Account). is_opener a.part) (sym (acc n i)));
    node = λ made. s.node X ∙ o.own;
    peer = λ made. s.peer ∙ (o.told.peer (λ none. made (ap (λ (a : Account). a.part) (acc n i) ∙ none)) ∙ sym (peers i));
    learned = subst (LearnedSo g.accounts n i) (sym s.learned) (learned_on (j.tunnels.learned X) o.told.learned);
    phase = s.phase ∙ sym (current_phase n r r.recovery o.current ∙ open_phase r.control.state (ap state_number o.state ∙ o.three));
    booked = s.booked ∙ (o.told.booked ∙ sym (same_booked node.end x k b o.old o.mirrors i t r o.at_t o.at_r o.state));
    entered = s.entered ∙ sym (ap (λ (a : Standing). a.epoch) (standing_then n i) ∙ o.own_epoch);
    epochs = s.epochs X ∙ (o.told.epochs ∙ sym (made_on n i));
    entered_by = entered_by_on;
    sent = sent_on;
    taken = taken_on;
    refused = ap (λ (y : Channels). y.refused X) s.channels ∙ (o.told.refused ∙ ap (λ (a : Account). a.declined) (sym (acc n i)));
  }

  -- ---- attempts and answers

  attempt_on : (q a : ℕ) (f : Option Restored) → AttemptJoined j q a f → AttemptJoined z q a f
  attempt_on q a None is = s.attempts (name q a) ∙ is
  attempt_on q a (Some f) is = s.attempts (name q a) ∙ is

  -- who enters an epoch by an answer confirms it, as this tunnel does now
  confirmed_on : (q a : ℕ) (f : Froze) → AnswerIs j w0 h q a f
      → (g.accounts (node_of f.peer) f.remote (makes u q a)).answer ≡ Some (record { node = q; tunnel = a })
      → z.tunnels.confirmed (name q a) ≡ true
  confirmed_on q a f was is = ⊎_elim
      (λ (y : (node_of f.peer ≡ n) × (f.remote ≡ i) × (makes u q a ≡ e)).
      let by : new.answer ≡ Some (record { node = q; tunnel = a }) = sym (ap (λ (p : Account). p.answer) o.begins.here)
      ∙ rw (y.0, y.1, y.2) at is in
      ap (λ p. z.tunnels.confirmed p) (sym (ap answer_name by) ∙ o.answer) ∙ s.confirmed_now)
      (λ apart.
      s.confirmed (name q a)
      (was.confirmed (subst (λ y. (h.accounts (node_of f.peer) f.remote y).answer ≡ Some (record { node = q; tunnel = a })) (makes_on q a)
      (sym (ap (λ (p : Account). p.answer) (o.begins.others (node_of f.peer) f.remote (makes u q a) apart)) ∙ is))))
      (here_or_not (node_of f.peer) f.remote (makes u q a) n i e)

  answer_on : (q a : ℕ) (f : Option Froze) → AnswerJoined j w0 h q a f → AnswerJoined z u g q a f
  answer_on q a None is = s.answers (name q a) ∙ is
  answer_on q a (Some f) was = record {
    given = s.answers (name q a) ∙ was.given;
    answered = s.answered (name q a) ∙ was.answered;
    epoch = s.makes_it (name q a) ∙ (was.epoch ∙ sym (makes_on q a));
    own = s.giver_first (name q a) ∙ was.own;
    theirs = s.other_first (name q a) ∙ was.theirs;
    confirmed = confirmed_on q a f was;
  }

  -- ---- calls

  pub calls_now : CallsJoined z g n after
  calls_now = calls_as z g n (left node x b) after l.end refl
      (sessions_joined node x k b j z h g n (record {
        old = o.old;
        new = o.mirrors;
        bounded = o.bounded_then;
        peers = peers;
        nodes = λ y is. s.node y ∙ is;
        rises = (let same = ap (λ (y : Space). y.next) o.ids in omega (arith, same));
        zero = (s.call (name n 0)).drawn;
        each = λ q fits. inl (record {
          like = like_in node.end x i t r q o.at_t o.at_r o.others (like_same (at t.calls q) (at r.calls q) (ap (λ y. at y q) o.calls));
          stays = s.call (name n q);
        });
      }) o.before)

  pub renews_one : OneTunnel w0 u h g j z n i (booked node k) after
  renews_one = record {
    node_fits = o.node_fits;
    id_fits = o.id_fits;
    was = behind.was w v n node o.there x k b l;
    is = behind.is w v n node o.there x k b l;
    up = l.up;
    others = behind.others w v n node o.there x k b l;
    nodes = behind.nodes_hold w v n node o.there x k b l o.nodes;
    tunnels = λ p apart. behind.tunnels w v n node o.there x k b l p (o.others p apart);
    kept = λ p apart. behind.kept w v n node o.there x k b l o.old o.mirrors p (o.others p apart);
    entered = λ q p apart. ap (λ (a : Standing). a.epoch) (standing_on q p apart);
    epochs = λ q p qfits pfits. s.epochs (name q p) ∙ ((joined.joined.tunnels q p qfits pfits).epochs ∙ sym (made_on q p));
    accounts = apart_accounts;
    grown = grown;
    within = o.within;
    stays = s.stays;
    here = subst (λ y. TunnelJoined z u g n i y (tunnel_at b i)) (sym (ap (λ (y : End). at y.tunnels i) l.end ∙ o.at_r)) here;
    drawn = λ q a qfits afits. s.drawn (name q a) ∙ (joined.joined.drawn q a qfits afits ∙ sym (used q a));
    attempts = λ q a qfits afits. subst (AttemptJoined z q a) (sym (o.begins.attempts q a))
        (attempt_on q a (h.attempts q a) (joined.joined.attempts q a qfits afits));
    answers = λ q a qfits afits. subst (AnswerJoined z u g q a) (sym (o.begins.answers q a))
        (answer_on q a (h.answers q a) (joined.joined.answers q a qfits afits));
    ups = s.up;
    calls = calls_now;
    calls_stay = λ q p no qfits pfits. s.call (name q p);
    births = (
      s.births ∙ (joined.joined.births.0 ∙ sym (behind.born_as w v n node o.there x k b l)),
      λ q p qfits pfits. s.birth (name q p)
          ∙ (joined.joined.births.1 q p qfits pfits ∙ sym (behind.births_as w v n node o.there x k b l q p)),
    );
  }

  -- ---- what is asked for

  own_query : QueryJoined z n i (g.accounts n i 0).peer r
  own_query = record {
    asks = λ y.
        s.asks y
        ∙ (sessions.held_so w0 h j joined.joined o.known joined.named n (booked node k) (behind.was w v n node o.there x k b l) i t o.at_t
        o.order o.bounded o.before o.own y
        ∙ ap (λ (q : Asking). list_any (named n y) (left_of q)) (sym o.query));
    held = subst (λ (q : Asking). AllByRecursion
        (λ (p : Pair). z.calls.held X (z.tunnels.entered X) (name n p.sender) ≡ name_of (g.accounts n i 0).peer p.receiver) (left_of q))
        (sym o.query)
        (sessions.known_so w0 h j joined.joined o.known joined.named n (booked node k) (behind.was w v n node o.there x k b l) i t o.at_t
        o.order o.bounded o.before o.own
        (λ p q. z.calls.held X (z.tunnels.entered X) (name n p) ≡ name_of (g.accounts n i 0).peer q)
        (λ p call there its up remote.
        ap (λ f. z.calls.held X f (name n p)) s.entered
        ∙ (s.held (name n p)
        ∙ (ap (λ y. if y && calls.is_up (j.calls.state (name n p)) then j.calls.remote (name n p) else 0)
        (eq-eqb (j.calls.tunnel (name n p)) X its)
        ∙ (ap (λ y. if calls.is_up y then j.calls.remote (name n p) else 0) up
        ∙ (remote ∙ ap (λ y. name_of y call.remote) (sym (peers i))))))));
  }

  pub queries_now : QueriesJoined u g z
  queries_now = asks_apart w v h g n node x k b j z i (record {
    there = o.there;
    leads = o.leads;
    id_fits = o.id_fits;
    bounds = o.bounded;
    nodes = o.nodes;
    same = o.others;
    peers = λ q p. ap (λ (a : Account). a.peer) (acc q p);
    entered = λ y other. (s.stays y other).entered;
    asks = s.other_asks;
    held = s.other_held;
    own = λ y at_y current three. subst (QueryJoined z n i (g.accounts n i 0).peer) (same_Some r y (sym o.at_r ∙ at_y)) own_query;
  }) joined.queries
