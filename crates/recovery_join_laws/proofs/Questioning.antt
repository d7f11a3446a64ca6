-- A tunnel that was reset asks for sessions, and so does the machine's: a letter of its own for each.
use Rattle.std.proofs.Common.{◌≡◌, ℕ, List, [], ◌∷◌, map, refl, sym, ap, ◌∙◌, subst, Option, Some, None}
use Rattle.std.proofs.lemmas.Option.{same_Some}
use Rattle.std.specs.List.{AllByRecursion}
use Rattle.id_table.specs.Ids.{at, put}
use Rattle.id_table.specs.Order.{at_new, at_other}
use Rattle.wire_base.specs.declared.pair.Pair.{Pair}
use Rattle.control_message.specs.declared.message.Message.TheVariants.{Fsq}
use Rattle.session_query.specs.Queries.{with_batch, left_of}
use Rattle.session_book.specs.Books.{Kept, tunnel_at}
use Rattle.end_model.specs.declared.event.Event.{Event}
use Rattle.end_model.specs.declared.moves.Queried.{Queried}
use Rattle.end_model.specs.declared.moves.Move.{Move}
use Rattle.end_model.specs.declared.moves.Move.TheVariants as move
use Rattle.end_model.specs.Tunnels.{Tunnel}
use Rattle.end_model.specs.End.{End}
use Rattle.world_model.specs.World.{World, Node, Sender, Deed, epoch_of, moved}
use Rattle.step_laws.specs.Letters.{Letter}
use Rattle.step_laws.specs.Moves.{with_letter, Questions}
use Rattle.book_laws.specs.Books.{Mirrors}
use Rattle.connection_laws.proofs.Hearing.{same_address}
use Rattle.epoch_machine.specs.Letters as machine_letters
use Rattle.epoch_machine.specs.Tunnels.{Tunnels}
use Rattle.epoch_machine.specs.Calls.{Calls}
use Rattle.epoch_machine.specs.Worlds as machine
use Rattle.epoch_machine.specs.Worlds.{all_rules}
use Rattle.epoch_machine.specs.Moves.{goes_on}
use Rattle.session_laws.specs.Names.{name, name_of}
use Rattle.channel_laws.specs.Accounts.{History, after}
use Rattle.channel_laws.specs.Facts.{LiveOk, ChannelOk}
use Rattle.channel_laws.specs.Steps.{with_end, moves_on}
use Rattle.recovery_laws.specs.Asking.{GoesOn, Asked, asking, IsToAsk, QueriesAreMoves}
use Rattle.recovery_laws.specs.Growing.{ChannelsGrow}
use Rattle.recovery_laws.specs.Joined.{TunnelJoined}
use Rattle.recovery_laws.specs.Left.{asked_of, QueriesGoOn}
use Rattle.recovery_laws.specs.Queries.{asks_in, QueryJoined, QueriesJoined}
use Rattle.join_laws.specs.Steps as steps
use Rattle.join_laws.specs.Steps.{with_book, Follows, Joins}
use Rattle.join_laws.proofs.Ahead.{behind, left}
use Rattle.join_laws.proofs.Books.{booked, book_here}
use Rattle.join_laws.proofs.Bounds.{fit_bounded}
use Rattle.join_laws.proofs.Calls.{sessions_joined, unchanged, like_in, like_same, same_stays}
use Rattle.join_laws.proofs.Finish.{Went, follows, named_as}
use Rattle.join_laws.proofs.Giving.{Gives, GivesIn, gave_peers, gives_talks}
use Rattle.join_laws.proofs.Letters.{Talks, talks_one}
use Rattle.join_laws.proofs.Made as made
use Rattle.join_laws.proofs.OneTunnel.{one_joined}
use Rattle.recovery_join_laws.proofs.Lists.{asking_own, asking_heard}
use Rattle.recovery_join_laws.proofs.Others.{end_leads, asks_apart}

-- ---- the move

module _ (grow : ChannelsGrow) (are : QueriesAreMoves) (on : QueriesGoOn) (w : World) (h : History) (n : ℕ) (node : Node)
    (sender : Option Sender)
    (moment : ℕ) (ev : Event) (m : Queried) (x : End) (d : Deed) (k : Kept) (j : machine.World)
    (q : steps.IsMade w h n node sender moment ev (move.Queried m) x d k j) (b : Kept) (new : Mirrors x b) where
  abbrev mv : Move
  mv = move.Queried m

  abbrev does : Questions node.end m x
  does = q.moved.does

  abbrev t : Tunnel
  t = does.tunnel

  abbrev e : ℕ
  e = epoch_of w n m.tunnel

  abbrev peer : ℕ
  peer = (h.accounts n m.tunnel 0).peer

  abbrev r : Tunnel
  r = with_letter 0 (Fsq m.pairs) (record t { query = with_batch t.query (Some m.pairs) })

  abbrev X : ℕ
  X = name n m.tunnel

  abbrev qs : List Asked
  qs = map (λ p. asked_of n peer p) m.pairs

  abbrev z : machine.World
  z = goes_on all_rules j (asking X qs)

  abbrev l : Letter
  l = record { tunnel = m.tunnel; place = m.given; session = 0; message = Fsq m.pairs; hidden = None }

  live : LiveOk w h n m.tunnel t
  live = made.live_ok w h n node sender moment ev mv x d k j q m.tunnel t does.there

  told : TunnelJoined j (with_book w n k) h n m.tunnel (Some t) (tunnel_at k m.tunnel)
  told = made.told w h n node sender moment ev mv x d k j q m.tunnel t does.there

  own : j.tunnels.node X ≡ n
  own = told.node live.made

  -- what it asked for before
  asked : QueryJoined j n m.tunnel peer t
  asked = q.joined.queries n m.tunnel t
      (record { node = booked node k; is = book_here w n k node q.moved.there; there = does.there }) does.current does.open_is

  batch : AllByRecursion (IsToAsk j X) qs × (map (λ (a : Asked). machine_letters.Fsq a.own a.other) qs ≡ asks_in n peer m.pairs)
  batch = on.batches j n m.tunnel peer t m.pairs asked does.pairs

  goes : GoesOn j z X (j.tunnels.entered X) (map (λ (a : Asked). machine_letters.Fsq a.own a.other) qs) 0 × (z.calls ≡ j.calls)
  goes = are.asks all_rules j X qs
      (made.open_is w h n node sender moment ev mv x d k j q m.tunnel t does.there does.current does.open_is) batch.0

  calls : z.calls ≡ j.calls
  calls = goes.1

  machine_tunnels : z.tunnels ≡ j.tunnels
  machine_tunnels = goes.0.tunnels

  tunnels : x.tunnels ≡ put node.end.tunnels m.tunnel r
  tunnels = ap (λ (y : End). y.tunnels) does.after

  at_r : at x.tunnels m.tunnel ≡ Some r
  at_r = ap (λ ts. at ts m.tunnel) tunnels ∙ at_new node.end.tunnels m.tunnel r

  others : (i : ℕ) → (i ≡ m.tunnel → ⊥) → at x.tunnels i ≡ at node.end.tunnels i
  others i other = ap (λ ts. at ts i) tunnels ∙ at_other node.end.tunnels m.tunnel r i other

  gives : Gives w h n node mv x d l
  unfolding moved
  gives = record {
    same = refl;
    plain = record { declines = λ p i. refl; attempts = λ p a o. refl; answers = λ p c o. refl };
    enters = λ a. refl;
    one = refl;
    none = refl;
  }

  peers : (p i : ℕ) → ((after h d).accounts p i 0).peer ≡ (h.accounts p i 0).peer
  peers = gave_peers w h n node sender moment ev mv x d k j q l gives

  channel : ChannelOk h.accounts n m.tunnel e (h.accounts n m.tunnel e) t
  channel = made.channel_ok w h n node sender moment ev mv x d k j q m.tunnel t does.there does.current

  peer_now : (h.accounts n m.tunnel e).peer ≡ peer
  peer_now = same_address (h.accounts n m.tunnel e).peer peer (sym channel.peer ∙ live.peer)

  in_tunnel : GivesIn h (after h d) n node x b j z m.tunnel e t r l (asks_in n peer m.pairs)
  in_tunnel = record {
    new = new;
    at_t = does.there;
    at_r = at_r;
    state = refl;
    recovery = refl;
    others = others;
    said = ap (λ y. asks_in n y m.pairs) peer_now;
    goes = subst (λ ls. GoesOn j z X e ls 0) batch.1
        (subst (λ f. GoesOn j z X f (map (λ (a : Asked). machine_letters.Fsq a.own a.other) qs) 0)
        (made.entered_is w h n node sender moment ev mv x d k j q m.tunnel t does.there) goes.0);
    calls = sessions_joined node x k b j z h (after h d) n
        (unchanged node x k b j z h (after h d) n q.mirrors new (fit_bounded x q.fit) (peers n) calls machine_tunnels
        (ap (λ (y : End). y.session_ids) does.after)
        (λ s. like_in node.end x m.tunnel t r s does.there at_r others (like_same (at t.calls s) (at t.calls s) refl)))
        (made.calls_before w h n node sender moment ev mv x d k j q);
    calls_stay = λ p s no pfits sfits. same_stays j z (name p s) calls;
    births = (ap (λ (c : Calls). c.births) calls, λ y. ap (λ (c : Calls). c.birth y) calls);
  }

  talks : Talks w h (after h d) n node x k b j z m.tunnel e t r (l ∷ []) (asks_in n peer m.pairs) 0
  talks = gives_talks w h n node sender moment ev mv x d k j q l gives grow b z t r (asks_in n peer m.pairs) in_tunnel

  -- the same is left to ask for
  still : QueryJoined z n m.tunnel peer r
  still = record {
    asks = λ y. ap (λ (c : Calls). c.asks X y) calls ∙ asked.asks y;
    held = subst
        (λ (g : Calls). AllByRecursion (λ (p : Pair). g.held X (z.tunnels.entered X) (name n p.sender) ≡ name_of peer p.receiver)
        (left_of t.query))
        (sym calls)
        (subst (λ (g : Tunnels). AllByRecursion (λ (p : Pair). j.calls.held X (g.entered X) (name n p.sender) ≡ name_of peer p.receiver)
        (left_of t.query))
        (sym machine_tunnels) asked.held);
  }

  queries : QueriesJoined (behind w n node x b) (after h d) z
  queries = asks_apart w (with_end w n node x) h (after h d) n node x k b j z m.tunnel (record {
    there = q.moved.there;
    leads = end_leads w n node q.moved.there x;
    id_fits = made.id_fits w h n node sender moment ev mv x d k j q m.tunnel t does.there;
    bounds = fit_bounded node.end q.moved.fit;
    nodes = q.nodes;
    same = others;
    peers = peers;
    entered = λ y other. ap (λ (g : Tunnels). g.entered y) machine_tunnels;
    asks = λ y other s. ap (λ (g : Calls). g.asks y s) calls;
    held = λ y other f s. ap (λ (g : Calls). g.held y f s) calls;
    own = λ u at_u current three.
        (let same : r ≡ u = same_Some r u (sym at_r ∙ at_u) in
        subst (QueryJoined z n m.tunnel ((after h d).accounts n m.tunnel 0).peer) same
        (subst (λ y. QueryJoined z n m.tunnel y r) (sym (peers n m.tunnel)) still));
  }) q.joined.queries

  went : Went ev n j z
  went = record { moves = asking X qs; own = asking_own n j X qs own; heard = asking_heard ev j X qs; goes = refl }

  pub queried_follows : Follows ev (with_book (moves_on w n node mv x) n b) (after h d) n j
  queried_follows = follows ev w h n node mv x d k b j z gives.same went
      (λ js goes. one_joined grow.stay (with_book w n k) (behind w n node x b) h (after h d) j z n m.tunnel (booked node k)
      (left node x b) q.joined.joined
      (talks_one grow.stay w h (after h d) n node x k b j z m.tunnel e t r (l ∷ []) (asks_in n peer m.pairs) 0 talks q.joined.joined) js
      goes)
      queries (named_as j z (ap (λ (c : Calls). c.drawn) calls) q.joined.named)

pub queried_joins : ChannelsGrow → QueriesAreMoves → QueriesGoOn → (m : Queried) → Joins (move.Queried m)
queried_joins grow are on m w h n node sender moment ev x d k j q b new = queried_follows grow are on w h n node sender moment ev m x d k j
    q b new
