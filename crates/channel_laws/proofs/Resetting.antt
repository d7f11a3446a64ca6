-- A tunnel that resets enters the epoch of an answer: what holds of the others goes on to hold, and of it what its new channel shows.
use Rattle.std.proofs.Common.{◌≡◌, ◌⊎◌, inl, inr, ⊎_elim, ℕ, ◌≤◌, true, List, [], ◌∷◌, length, sym, ap, ◌∙◌, subst, Option, Some, None, arith}
use Rattle.std.specs.Prelude.{is_some}
use Rattle.std.specs.List.{AllByRecursion}
use Rattle.id_table.specs.Order.{same_or_not}
use Rattle.id_table.specs.Ids.{at}
use Rattle.end_model.specs.declared.moves.Froze.{Froze}
use Rattle.end_names.specs.Names.{address_of, node_of}
use Rattle.end_model.specs.declared.out.Origin.{Origin}
use Rattle.end_model.specs.declared.out.Origin.TheVariants as origin
use Rattle.end_model.specs.Tunnels.{Tunnel, Recovering, ByAttempt, ByAnswer}
use Rattle.control_message.specs.declared.message.Message.{Message}
use Rattle.world_model.specs.declared.packet.Packet.{Packet}
use Rattle.session_book.specs.Books.{Kept}
use Rattle.end_model.specs.End.{End}
use Rattle.world_model.specs.declared.standing.Standing.{Standing}
use Rattle.world_model.specs.World.{World, Node, standing_of, epoch_of}
use Rattle.channel_laws.specs.Accounts.{Part, Unmade, Opener, Acceptor, Renewed, Taken, Account, no_account, History}
use Rattle.channel_laws.specs.Facts.{IsMade, partner_in, IsShut, IsLost, IsAnswered, IsInState, AreAcked, ChannelOk, IsRecovered, LiveOk, IsCopy, SaysRecovery, AsksFor, Suggests, Confirms, Refuses, OriginOk, PacketOk, IsRenewed, AccountOk, IdsOk, BookOk, NodeOk, StandingOk, Holds, makes, QueryOk}
use Rattle.channel_laws.proofs.Growing.{Grows, account_grows, answers_grow, packets_grow}
use Rattle.channel_laws.proofs.Anew.{Begins, here_or_not, first, knows_on, booked_on, attempt_on, answer_on, taken_on, account_on}

module _ (h k : History) (n i e : ℕ) (new : Account) (b : Begins h k n i e new) where
  -- ---- live tunnels

  first_part : (m j : ℕ) → (k.accounts m j 0).part ≡ (h.accounts m j 0).part
  first_part m j = ap (λ (a : Account). a.part) (first h k n i e new b m j)

  first_peer : (m j : ℕ) → (k.accounts m j 0).peer ≡ (h.accounts m j 0).peer
  first_peer m j = ap (λ (a : Account). a.peer) (first h k n i e new b m j)

  first_remote : (m j : ℕ) → (k.accounts m j 0).remote ≡ (h.accounts m j 0).remote
  first_remote m j = ap (λ (a : Account). a.remote) (first h k n i e new b m j)

  state_on : (j u : ℕ) (a : Account) (t : Tunnel) (p : Part) → IsInState h.accounts j u a t p → IsInState k.accounts j u a t p
  state_on j u a t Unmade is = is
  state_on j u a t Opener is = is
  state_on j u a t Acceptor is = ⊎_elim
      (λ q. inl q)
      (λ r. ⊎_elim (λ q. inr (inl (q.0, first_remote a.peer a.remote ∙ q.1, q.2))) (λ (q : IsShut a t). inr (inr q)) r) is
  state_on j u a t Renewed is = is

  answered_on : (m j : ℕ) (a : Account) (acked : ℕ) → IsAnswered h.accounts m j a acked → IsAnswered k.accounts m j a acked
  answered_on m j a acked q = record {
    acceptor = q.acceptor;
    part = first_part a.peer q.acceptor ∙ q.part;
    peer = first_peer a.peer q.acceptor ∙ q.peer;
    remote = first_remote a.peer q.acceptor ∙ q.remote;
    enough = (let le = q.enough in let same = ap (λ (x : Account). length x.taken) (first h k n i e new b a.peer q.acceptor) in omega (arith, le, same));
  }

  acked_on : (m j u : ℕ) (a : Account) (acked : ℕ) (p : Part) → AreAcked h.accounts m j u a acked p → AreAcked k.accounts m j u a acked p
  acked_on m j u a acked Unmade q = q
  acked_on m j u a acked Opener q = (
    λ none. ⊎_elim (λ z. inl z) (λ r. ⊎_elim (λ s. inr (inl (answered_on m j a acked s))) (λ s. inr (inr s)) r) (q.0 none),
    λ some. (let le = q.1 some in let same = ap (λ (x : Account). length x.taken) (first h k n i e new b a.peer a.remote) in omega (arith, le, same)),
  )
  acked_on m j u a acked Acceptor q = (
    λ apart. ⊎_elim (λ z. inl z) (λ lost. inr (subst IsLost (sym (first h k n i e new b a.peer a.remote)) lost))
        (q.0 (λ same. apart (first_remote a.peer a.remote ∙ same))),
    λ same. (let le = q.1 (sym (first_remote a.peer a.remote) ∙ same) in
        let lens = ap (λ (x : Account). length x.taken) (first h k n i e new b a.peer a.remote) in omega (arith, le, lens)),
  )
  acked_on m j u a acked Renewed q =
      let same = ap (λ (l : List Taken). length l) (taken_on h k n i e new b a.peer a.remote u) in omega (arith, q, same)

  channel_on : (m j u : ℕ) (a : Account) (t : Tunnel) → ChannelOk h.accounts m j u a t → ChannelOk k.accounts m j u a t
  channel_on m j u a t c = record {
    peer = c.peer;
    remote = c.remote;
    state = state_on j u a t a.part c.state;
    acked = c.acked;
    acked_is = c.acked_is;
    letters = c.letters;
    counted = c.counted;
    few = c.few;
    outstanding = c.outstanding;
    taken = c.taken;
    were_acked = acked_on m j u a c.acked a.part c.were_acked;
  }

  recovered_on : (w : World) (m j : ℕ) (r : Recovering) → IsRecovered w h m j r → IsRecovered w k m j r
  recovered_on w m j (ByAttempt c) (q, reset, named) = (
    (q.0, b.attempts m c.local ∙ q.1, q.2, q.3),
    λ is. (let s = reset is in
        subst (λ p. (f : Froze) × (k.answers p c.remote ≡ Some f) × (f.remote ≡ j) × (f.attempt ≡ c.local) × (makes w p c.remote ≤ epoch_of w m j) × (node_of f.peer ≡ m)) (sym (first_peer m j))
        (s.0, b.answers (h.accounts m j 0).peer c.remote ∙ s.1, s.2, s.3, s.4, s.5)),
    subst (λ p. (c.remote ≡ 0) ⊎ (is_some (k.answers p c.remote) ≡ true)) (sym (first_peer m j))
        (⊎_elim (λ none. inl none) (λ is. inr (ap is_some (b.answers (h.accounts m j 0).peer c.remote) ∙ is)) named),
  )
  recovered_on w m j (ByAnswer a) q = (q.0, b.answers m a.connection.local ∙ q.1, q.2, q.3, q.4, q.5, q.6)

  -- another tunnel than the one that resets, in a world where its epoch is as it was
  pub live_on : (w : World) (m j : ℕ) (t : Tunnel) → ((m ≡ n) × (j ≡ i) → ⊥) → LiveOk w h m j t → LiveOk w k m j t
  live_on w m j t apart ok = record {
    local = ok.local;
    made = λ none. ok.made (sym (first_part m j) ∙ none);
    peer = ok.peer ∙ ap (λ p. address_of p) (sym (first_peer m j));
    channel = λ current.
        (let same = b.others m j (epoch_of w m j) (λ (q : (m ≡ n) × (j ≡ i) × (epoch_of w m j ≡ e)). apart (q.0, q.1)) in
        subst (λ a. ChannelOk k.accounts m j (epoch_of w m j) a t) (sym same) (channel_on m j (epoch_of w m j) (h.accounts m j (epoch_of w m j)) t (ok.channel current)));
    kept = ok.kept;
    established = ok.established;
    some = ok.some;
    knows = λ inactive. knows_on h k n i e new b m j t.control.remote (ok.knows inactive);
    learned = λ inactive acceptor.
        (let was = ok.learned inactive (sym (first_part m j) ∙ acceptor) in
        ap (λ (a : Account). (partner_in k.accounts 0 a).remote) (first h k n i e new b m j) ∙ (first_remote (h.accounts m j 0).peer (h.accounts m j 0).remote ∙ was));
    recovery = λ r is. recovered_on w m j r (ok.recovery r is);
    unattempted = λ early a r is own. ok.unattempted early a r (sym (b.attempts m a) ∙ is) own;
    calls = ok.calls;
    query = ok.query;
  }

  -- ---- packets

  says_on : (w : World) (p : Packet) (own named : ℕ) (m : Message) → SaysRecovery w h p own named m → SaysRecovery w k p own named m
  says_on w p own named _ (AsksFor r o is peer id recovery draw) = AsksFor r o (b.attempts p.from own ∙ is) peer id recovery draw
  says_on w p own named _ (Suggests f o is to id suggested attempt) = Suggests f o (b.answers p.from own ∙ is) to id suggested attempt
  says_on w p own named _ (Confirms f response is attempt from le) = Confirms f response (b.answers p.to named ∙ is) attempt from le
  says_on w p own named _ (Refuses result error fit) = Refuses result error fit

  there_on : {X : Type 0} (x y : Option X) → x ≡ y → is_some y ≡ true → is_some x ≡ true
  there_on x y same is = ap is_some same ∙ is

  origin_on : (w : World) (p : Packet) (o : Origin) → OriginOk w h p o → OriginOk w k p o
  origin_on w p (origin.Control o) (inl copy) =
      inl (subst (λ (a : Account). IsCopy a p o) (sym (b.others p.from o.tunnel p.epoch
      (λ (q : (p.from ≡ n) × (o.tunnel ≡ i) × (p.epoch ≡ e)).
      let none : h.accounts p.from o.tunnel p.epoch ≡ no_account = rw (q.0, q.1, q.2) b.was in copy.made (ap (λ (a : Account). a.part) none)))) copy)
  origin_on w p (origin.Control o) (inr r) = inr (record {
    none = r.none;
    ns = r.ns;
    nr = r.nr;
    some = r.some;
    epoch = r.epoch;
    tunnel = r.tunnel;
    asked = ⊎_elim
        (λ q. inl (first_part p.to r.tunnel ∙ q.0, first_peer p.to r.tunnel ∙ q.1, ap (λ (a : Account). a.declined) (first h k n i e new b p.to r.tunnel) ∙ q.2, q.3))
        (λ q. inr (q.0, b.attempts p.to r.tunnel ∙ q.1, q.2))
        r.asked;
    result = r.result;
    error = r.error;
    fit = r.fit;
    are = r.are;
  })
  origin_on w p (origin.Data session) ok = ok
  origin_on w p (origin.Recovery own number empty) r = record {
    named = r.named;
    names = ⊎_elim (λ z. inl z)
        (λ q. inr (⊎_elim (λ s. inl (there_on (k.attempts p.to r.named) (h.attempts p.to r.named) (b.attempts p.to r.named) s))
        (λ s. inr (there_on (k.answers p.to r.named) (h.answers p.to r.named) (b.answers p.to r.named) s)) q))
        r.names;
    is = ⊎_elim (λ s. inl (there_on (k.attempts p.from own) (h.attempts p.from own) (b.attempts p.from own) s))
        (λ s. inr (there_on (k.answers p.from own) (h.answers p.from own) (b.answers p.from own) s)) r.is;
    number = r.number;
    nr = r.nr;
    nr_fits = r.nr_fits;
    says = ⊎_elim (λ q. inl q) (λ q. inr (q.0, says_on w p own r.named q.0 q.1, q.2, q.3)) r.says;
  }

  pub packets_on : (w : World) (ps : List Packet) → AllByRecursion (PacketOk w h) ps → AllByRecursion (PacketOk w k) ps
  packets_on w [] ok = tt
  packets_on w (p ∷ ps) ok = (record { from = ok.0.from; to = ok.0.to; sent = origin_on w p p.origin ok.0.sent }, packets_on w ps ok.1)

-- ---- the world

-- a tunnel enters an epoch, and its channel begins anew: what it and its node have to show, and what the rest has
module _ (w v : World) (h k : History) (n i e : ℕ) (new : Account) (b : Begins h k n i e new) (holds : Holds w h)
    (agrees : (m j : ℕ) → IsRenewed v h m j e (h.accounts m j e) → (h.accounts m j e).peer ≡ n → (h.accounts m j e).remote ≡ i
    → new.answer ≡ (h.accounts m j e).answer)
    (entered : epoch_of v n i ≡ e) (up : epoch_of w n i ≤ e) (standings : (m j : ℕ) → ((m ≡ n) × (j ≡ i) → ⊥) → standing_of v m j ≡ standing_of w m j)
    (made : (standing_of v n i).made ≡ (standing_of w n i).made) (enough : e ≤ (standing_of w n i).made) (makes_as : (m c : ℕ) → makes v m c ≡ makes w m c)
    (packets : v.packets ≡ w.packets) (known : IsMade (h.accounts n i 0)) where
  own_or_not : (m j : ℕ) → ((m ≡ n) × (j ≡ i)) ⊎ ((m ≡ n) × (j ≡ i) → ⊥)
  own_or_not m j = ⊎_elim
      (λ (p : m ≡ n). ⊎_elim (λ (q : j ≡ i). inl (p, q)) (λ no. inr (λ (r : (m ≡ n) × (j ≡ i)). no r.1)) (same_or_not j i))
      (λ no. inr (λ (r : (m ≡ n) × (j ≡ i)). no r.0))
      (same_or_not m n)

  pub grows : Grows w v h
  grows = record {
    epochs = λ m j. ⊎_elim
        (λ (q : (m ≡ n) × (j ≡ i)). rw (q.0, q.1) (omega (arith, entered, up)))
        (λ o. (let same = ap (λ (s : Standing). s.epoch) (standings m j o) in omega (arith, same)))
        (own_or_not m j);
    made = λ m j. ⊎_elim
        (λ (q : (m ≡ n) × (j ≡ i)). rw (q.0, q.1) (omega (arith, made)))
        (λ o. (let same = ap (λ (s : Standing). s.made) (standings m j o) in omega (arith, same)))
        (own_or_not m j);
    makes = λ m c f is. makes_as m c;
  }

  recovered_grows : (m j : ℕ) (r : Recovering) → ((m ≡ n) × (j ≡ i) → ⊥) → IsRecovered w h m j r → IsRecovered v h m j r
  recovered_grows m j (ByAttempt c) o (q, reset, named) = (
    q,
    λ is. (let s = reset is in
        let x = ap (λ (u : Standing). u.epoch) (standings m j o) in let y = makes_as (h.accounts m j 0).peer c.remote in let le = s.4 in (s.0, s.1, s.2, s.3, omega (arith, x, y, le), s.5)),
    named,
  )
  recovered_grows m j (ByAnswer a) o q =
      (q.0, q.1, q.2, q.3, q.4, λ is. (let x = ap (λ (u : Standing). u.epoch) (standings m j o) in let y = makes_as m a.connection.local in let le = q.5 is in omega (arith, x, y, le)), q.6)

  pub live_grows : (m j : ℕ) (t : Tunnel) → ((m ≡ n) × (j ≡ i) → ⊥) → LiveOk w h m j t → LiveOk v k m j t
  live_grows m j t o ok = live_on h k n i e new b v m j t o (record {
    local = ok.local;
    made = ok.made;
    peer = ok.peer;
    channel = λ current. subst (λ u. ChannelOk h.accounts m j u (h.accounts m j u) t) (sym (ap (λ (s : Standing). s.epoch) (standings m j o))) (ok.channel current);
    kept = λ current. ap (λ (s : Standing). s.lost) (standings m j o) ∙ ok.kept current;
    established = ok.established;
    some = ok.some;
    knows = ok.knows;
    learned = ok.learned;
    recovery = λ r is. recovered_grows m j r o (ok.recovery r is);
    unattempted = ok.unattempted;
    calls = ok.calls;
    query = subst (λ u. QueryOk u t.query) (sym (ap (λ (s : Standing). s.epoch) (standings m j o))) ok.query;
  })

  some_before : {X : Type 0} (x y : Option X) → x ≡ y → is_some x ≡ true → is_some y ≡ true
  some_before x y same is = ap is_some (sym same) ∙ is

  pub ids_on : (m : ℕ) (x : End) → IdsOk h m x → IdsOk k m x
  ids_on m x ok = record {
    tunnels = λ j was. ok.tunnels j (λ none. was (ap (λ (a : Account). a.part) (first h k n i e new b m j) ∙ none));
    attempts = λ a is. ok.attempts a (some_before (k.attempts m a) (h.attempts m a) (b.attempts m a) is);
    answers = λ c is. ok.answers c (some_before (k.answers m c) (h.answers m c) (b.answers m c) is);
    no_attempt = λ j was. b.attempts m j ∙ ok.no_attempt j (λ none. was (ap (λ (a : Account). a.part) (first h k n i e new b m j) ∙ none));
    no_answer = λ j was. b.answers m j ∙ ok.no_answer j (λ none. was (ap (λ (a : Account). a.part) (first h k n i e new b m j) ∙ none));
    one = λ a is. b.answers m a ∙ ok.one a (some_before (k.attempts m a) (h.attempts m a) (b.attempts m a) is);
  }

  pub book_on : (m : ℕ) (q : Kept) → BookOk h m q → BookOk k m q
  book_on m q ok = record { tunnels = λ j t is. booked_on h k n i e new b m t (ok.tunnels j t is); apart = ok.apart; calls = ok.calls }

  -- another node
  pub other_node_on : (m : ℕ) → (m ≡ n → ⊥) → (o : Option Node) → NodeOk w h m o → NodeOk v k m o
  other_node_on m apart None ok = (
    λ j u. b.others m j u (λ (q : (m ≡ n) × (j ≡ i) × (u ≡ e)). apart q.0) ∙ ok.0 j u,
    ((λ a. b.attempts m a ∙ ok.1.0 a), (λ c. b.answers m c ∙ ok.1.1 c)),
  )
  other_node_on m apart (Some node) ok = (
    record {
      node = ok.0.node;
      number = ok.0.number;
      lns = ok.0.lns;
      ids = ids_on m node.end ok.0.ids;
      live = λ j t there. live_grows m j t (λ q. apart q.0) (ok.0.live j t there);
      apart = ok.0.apart;
    },
    book_on m node.checkpoint.book ok.1,
  )

  standing_on : (m j : ℕ) → StandingOk k m j (standing_of v m j)
  standing_on m j = ⊎_elim
      (λ (q : (m ≡ n) × (j ≡ i)). rw (q.0, q.1) own)
      (λ o. subst (StandingOk k m j) (sym (standings m j o)) (other m j o))
      (own_or_not m j)
    where
      own : StandingOk k n i (standing_of v n i)
      own = record {
        none = λ none. absurd (known (ap (λ (a : Account). a.part) (sym (first h k n i e new b n i)) ∙ none));
        entered = λ was none. (let here = ap (λ u. (k.accounts n i u).part) entered ∙ (ap (λ (a : Account). a.part) b.here ∙ b.part) in let two : Renewed ≡ Unmade = sym here ∙ none in absurd cc);
        made = omega (arith, entered, made, enough);
        fits = (let lt = (holds.standings n i).fits in omega (arith, made, lt));
      }

      other : (m j : ℕ) → ((m ≡ n) × (j ≡ i) → ⊥) → StandingOk k m j (standing_of w m j)
      other m j o =
          let ok = holds.standings m j in
          record {
            none = λ none. ok.none (ap (λ (a : Account). a.part) (sym (first h k n i e new b m j)) ∙ none);
            entered = λ was. subst IsMade (sym (b.others m j (standing_of w m j).epoch (λ (q : (m ≡ n) × (j ≡ i) × ((standing_of w m j).epoch ≡ e)). o (q.0, q.1))))
                (ok.entered (λ none. was (ap (λ (a : Account). a.part) (first h k n i e new b m j) ∙ none)));
            made = ok.made;
            fits = ok.fits;
          }

  pub begun_holds : AccountOk v k n i e new → ((m : ℕ) → NodeOk v k m (at v.nodes m)) → Holds v k
  begun_holds account nodes = record {
    accounts = λ m j u. ⊎_elim
        (λ (q : (m ≡ n) × (j ≡ i) × (u ≡ e)). rw (q.0, q.1, q.2) (subst (AccountOk v k n i e) (sym b.here) account))
        (λ o. account_on h k n i e new b v agrees m j u (account_grows w v h grows m j u (h.accounts m j u) (holds.accounts m j u)) o)
        (here_or_not m j u n i e);
    attempts = λ m a r is. attempt_on h k n i e new b m a r (holds.attempts m a r (sym (b.attempts m a) ∙ is));
    answers = λ m c f is.
        (let was = sym (b.answers m c) ∙ is in answer_on h k n i e new b v m c f (answers_grow w v h grows m c f was (holds.answers m c f was)));
    standings = standing_on;
    nodes = nodes;
    packets = subst (AllByRecursion (PacketOk v k)) (sym packets) (packets_on h k n i e new b v w.packets (packets_grow w v h grows w.packets holds.packets));
  }
