-- A tunnel says that it is there, and so does the machine's.
use Rattle.std.proofs.Common.{◌≡◌, ℕ, List, [], ◌∷◌, refl, sym, ap, ◌∙◌, subst, Option, Some, None}
use Rattle.std.proofs.lemmas.Option.{same_Some}
use Rattle.id_table.specs.Ids.{at, put}
use Rattle.id_table.specs.Order.{at_new, at_other}
use Rattle.control_message.specs.declared.message.Message.TheVariants.{Hello}
use Rattle.session_book.specs.Books.{Kept}
use Rattle.end_model.specs.declared.event.Event.{Event}
use Rattle.end_model.specs.declared.moves.Greeted.{Greeted}
use Rattle.end_model.specs.declared.moves.Move.{Move}
use Rattle.end_model.specs.declared.moves.Move.TheVariants as move
use Rattle.end_model.specs.Tunnels.{Tunnel}
use Rattle.end_model.specs.End.{End}
use Rattle.world_model.specs.World.{World, Node, Sender, Deed, epoch_of, moved}
use Rattle.step_laws.specs.Letters.{Letter}
use Rattle.step_laws.specs.Moves.{with_letter}
use Rattle.book_laws.specs.Books.{Mirrors}
use Rattle.epoch_machine.specs.Letters as machine_letters
use Rattle.epoch_machine.specs.Tunnels.{Tunnels, Open}
use Rattle.epoch_machine.specs.Calls.{Calls}
use Rattle.epoch_machine.specs.Worlds as machine
use Rattle.epoch_machine.specs.Worlds.{all_rules}
use Rattle.epoch_machine.specs.Moves.{SaysHello, step}
use Rattle.stop_laws.specs.Records.{node_of}
use Rattle.session_laws.specs.Names.{name}
use Rattle.channel_laws.specs.Accounts.{History, after}
use Rattle.channel_laws.specs.Steps.{moves_on}
use Rattle.recovery_laws.specs.Growing.{ChannelsGrow}
use Rattle.recovery_laws.specs.Asking.{GoesOn}
use Rattle.recovery_laws.specs.Queries.{QueriesJoined}
use Rattle.recovery_laws.proofs.Asking.{gave_one, gave_calls}
use Rattle.join_laws.specs.Steps as steps
use Rattle.join_laws.specs.Steps.{with_book, Follows, Joins}
use Rattle.join_laws.proofs.Ahead.{behind, left}
use Rattle.join_laws.proofs.Asks.{asks_on, one_asked}
use Rattle.join_laws.proofs.Books.{booked}
use Rattle.join_laws.proofs.Bounds.{fit_bounded}
use Rattle.join_laws.proofs.Calls.{sessions_joined, unchanged, like_in, like_same, same_stays}
use Rattle.join_laws.proofs.Finish.{Went, went_one, follows, named_as}
use Rattle.join_laws.proofs.Giving.{Gives, GivesIn, gave_peers, gives_talks}
use Rattle.join_laws.proofs.Letters.{Talks, talks_one}
use Rattle.join_laws.proofs.Made as made
use Rattle.join_laws.proofs.OneTunnel.{one_joined}

-- ---- in the machine

greets_is : (w : machine.World) (x : ℕ) → w.tunnels.phase x ≡ Open
    → step all_rules w (SaysHello x) ≡ machine.gives w x machine_letters.Hello
unfolding step
greets_is w x is = rw is refl

hello_node : (w : machine.World) (x : ℕ) → node_of w (SaysHello x) ≡ w.tunnels.node x
unfolding node_of
hello_node w x = refl

-- ---- the move

module _ (grow : ChannelsGrow) (w : World) (h : History) (n : ℕ) (node : Node) (sender : Option Sender) (moment : ℕ) (ev : Event) (m :
    Greeted) (x : End)
    (d : Deed) (k : Kept) (j : machine.World) (q : steps.IsMade w h n node sender moment ev (move.Greeted m) x d k j) (b : Kept) (new :
    Mirrors x b) where
  abbrev mv : Move
  mv = move.Greeted m

  abbrev t : Tunnel
  t = q.moved.does.tunnel

  abbrev r : Tunnel
  r = with_letter 0 Hello t

  abbrev X : ℕ
  X = name n m.tunnel

  abbrev z : machine.World
  z = machine.gives j X machine_letters.Hello

  abbrev l : Letter
  l = record { tunnel = m.tunnel; place = m.given; session = 0; message = Hello; hidden = None }

  tunnels : x.tunnels ≡ put node.end.tunnels m.tunnel r
  tunnels = ap (λ (y : End). y.tunnels) q.moved.does.after

  at_r : at x.tunnels m.tunnel ≡ Some r
  at_r = ap (λ ts. at ts m.tunnel) tunnels ∙ at_new node.end.tunnels m.tunnel r

  others : (i : ℕ) → (i ≡ m.tunnel → ⊥) → at x.tunnels i ≡ at node.end.tunnels i
  others i other = ap (λ ts. at ts i) tunnels ∙ at_other node.end.tunnels m.tunnel r i other

  calls : z.calls ≡ j.calls
  calls = (gave_calls j X machine_letters.Hello).0

  machine_tunnels : z.tunnels ≡ j.tunnels
  machine_tunnels = (gave_calls j X machine_letters.Hello).1

  gives : Gives w h n node mv x d l
  unfolding moved
  gives = record {
    same = refl;
    plain = record { declines = λ p i. refl; attempts = λ p a o. refl; answers = λ p c o. refl };
    enters = λ a. refl;
    one = refl;
    none = refl;
  }

  peers : (p i : ℕ) → ((after h d).accounts p i 0).peer ≡ (h.accounts p i 0).peer
  peers = gave_peers w h n node sender moment ev mv x d k j q l gives

  in_tunnel : GivesIn h (after h d) n node x b j z m.tunnel (epoch_of w n m.tunnel) t r l (machine_letters.Hello ∷ [])
  in_tunnel = record {
    new = new;
    at_t = q.moved.does.there;
    at_r = at_r;
    state = refl;
    recovery = refl;
    others = others;
    said = refl;
    goes = subst (λ e. GoesOn j z X e (machine_letters.Hello ∷ []) 0)
        (made.entered_is w h n node sender moment ev mv x d k j q m.tunnel t q.moved.does.there) (gave_one j X machine_letters.Hello);
    calls = sessions_joined node x k b j z h (after h d) n
        (unchanged node x k b j z h (after h d) n q.mirrors new (fit_bounded x q.fit) (peers n) calls machine_tunnels
        (ap (λ (y : End). y.session_ids) q.moved.does.after)
        (λ s. like_in node.end x m.tunnel t r s q.moved.does.there at_r others (like_same (at t.calls s) (at t.calls s) refl)))
        (made.calls_before w h n node sender moment ev mv x d k j q);
    calls_stay = λ p s no pfits sfits. same_stays j z (name p s) calls;
    births = (ap (λ (c : Calls). c.births) calls, λ y. ap (λ (c : Calls). c.birth y) calls);
  }

  talks : Talks w h (after h d) n node x k b j z m.tunnel (epoch_of w n m.tunnel) t r (l ∷ []) (machine_letters.Hello ∷ []) 0
  talks = gives_talks w h n node sender moment ev mv x d k j q l gives grow b z t r (machine_letters.Hello ∷ []) in_tunnel

  queries : QueriesJoined (behind w n node x b) (after h d) z
  queries = asks_on (with_book w n k) (behind w n node x b) h (after h d) j z (record {
    peers = peers;
    asks = λ y s. ap (λ (c : Calls). c.asks y s) calls;
    held = λ y f s. ap (λ (c : Calls). c.held y f s) calls;
    entered = λ y. ap (λ (c : Tunnels). c.entered y) machine_tunnels;
    asked = one_asked w n node q.moved.there x k b m.tunnel others
        (λ u at_u current three.
        (let same : r ≡ u = same_Some r u (sym at_r ∙ at_u) in
        (t, q.moved.does.there, q.moved.does.current, q.moved.does.open_is, ap (λ (y : Tunnel). y.query) (sym same))));
  }) q.joined.queries

  went : Went ev n j z
  went = went_one ev n j z (SaysHello X)
      (hello_node j X ∙ (made.told w h n node sender moment ev mv x d k j q m.tunnel t q.moved.does.there).node
      (made.live_ok w h n node sender moment ev mv x d k j q m.tunnel t q.moved.does.there).made) refl tt
      (greets_is j X (made.open_is w h n node sender moment ev mv x d k j q m.tunnel t q.moved.does.there q.moved.does.current
      q.moved.does.open_is))

  pub greeted_follows : Follows ev (with_book (moves_on w n node mv x) n b) (after h d) n j
  greeted_follows = follows ev w h n node mv x d k b j z gives.same went
      (λ js goes. one_joined grow.stay (with_book w n k) (behind w n node x b) h (after h d) j z n m.tunnel (booked node k) (left node
      x b) q.joined.joined
      (talks_one grow.stay w h (after h d) n node x k b j z m.tunnel (epoch_of w n m.tunnel) t r (l ∷ []) (machine_letters.Hello ∷ [])
      0 talks
      q.joined.joined) js goes)
      queries (named_as j z (ap (λ (c : Calls). c.drawn) calls) q.joined.named)

pub greeted_joins : ChannelsGrow → (m : Greeted) → Joins (move.Greeted m)
greeted_joins grow m w h n node sender moment ev x d k j q b new = greeted_follows grow w h n node sender moment ev m x d k j q b new
