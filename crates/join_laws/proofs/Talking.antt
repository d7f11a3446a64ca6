-- A move by which a tunnel talks is joined.
use Rattle.std.proofs.Common.{◌≡◌, ℕ, true, List, ◌++◌, refl, sym, ap, ◌∙◌, subst, Option, Some}
use Rattle.std.proofs.lemmas.Option.{same_Some}
use Rattle.id_table.specs.Ids.{at}
use Rattle.session_book.specs.Books.{Kept}
use Rattle.tunnel_fsm.specs.Rows.{state_number}
use Rattle.end_model.specs.declared.event.Event.{Event}
use Rattle.end_model.specs.declared.moves.Move.{Move}
use Rattle.end_model.specs.Tunnels.{Tunnel, mode_of, is_current}
use Rattle.end_model.specs.End.{End}
use Rattle.world_model.specs.World.{World, Node, Sender, Deed, epoch_of}
use Rattle.step_laws.specs.Letters.{Letter}
use Rattle.epoch_machine.specs.Letters as machine_letters
use Rattle.epoch_machine.specs.Tunnels.{Tunnels}
use Rattle.epoch_machine.specs.Worlds as machine
use Rattle.channel_laws.specs.Accounts.{History, about, after}
use Rattle.channel_laws.specs.Steps.{with_end, moves_on}
use Rattle.recovery_laws.specs.Growing.{ChannelsGrow}
use Rattle.recovery_laws.specs.Queries.{QueriesJoined, CallsAreNamed}
use Rattle.join_laws.specs.Steps as steps
use Rattle.join_laws.specs.Steps.{with_book, Follows}
use Rattle.join_laws.proofs.Ahead.{behind, left}
use Rattle.join_laws.proofs.Asks.{asks_on, one_asked}
use Rattle.join_laws.proofs.Books.{booked}
use Rattle.join_laws.proofs.Finish.{Went, follows}
use Rattle.join_laws.proofs.Letters.{Talks, talks_one}
use Rattle.join_laws.proofs.OneTunnel.{one_joined}

-- what else such a move needs: the machine's calls, and its moves
pub record Talked (ev : Event) (w : World) (n : ℕ) (node : Node) (m : Move) (x : End) (j z : machine.World) (t r : Tunnel) : Type 0 where
  pub same : moves_on w n node m x ≡ with_end w n node x
  pub query : r.query ≡ t.query
  pub asks : (y s : ℕ) → z.calls.asks y s ≡ j.calls.asks y s
  pub held : (y f s : ℕ) → z.calls.held y f s ≡ j.calls.held y f s
  pub named : CallsAreNamed z
  pub went : Went ev n j z

module _ (grow : ChannelsGrow) (w : World) (h : History) (n : ℕ) (node : Node) (sender : Option Sender) (moment : ℕ) (ev : Event) (m :
    Move) (x : End)
    (d : Deed) (k b : Kept) (j z : machine.World) (q : steps.IsMade w h n node sender moment ev m x d k j) (t r : Tunnel) (ls : List Letter)
    (says : List machine_letters.Letter) (took : ℕ) (o : Talks w h (after h d) n node x k b j z (about m) (epoch_of w n (about m)) t r
    ls says took)
    (peers : (p i : ℕ) → ((after h d).accounts p i 0).peer ≡ (h.accounts p i 0).peer) (s : Talked ev w n node m x j z t r) where
  queries : QueriesJoined (behind w n node x b) (after h d) z
  queries = asks_on (with_book w n k) (behind w n node x b) h (after h d) j z (record {
    peers = peers;
    asks = s.asks;
    held = s.held;
    entered = λ y. ap (λ (T : Tunnels). T.entered y) o.goes.tunnels;
    asked = one_asked w n node q.moved.there x k b (about m) o.others
        (λ u at_u current three.
        (let same : r ≡ u = same_Some r u (sym o.at_r ∙ at_u) in (
          t,
          o.at_t,
          ap (λ y. is_current (mode_of y)) (sym o.recovery) ∙ (ap (λ (y : Tunnel). is_current (mode_of y.recovery)) same ∙ current),
          ap state_number (sym o.state) ∙ (ap (λ (y : Tunnel). state_number y.control.state) same ∙ three),
          ap (λ (y : Tunnel). y.query) (sym same) ∙ s.query,
        )));
  }) q.joined.queries

  pub talks_follow : Follows ev (with_book (moves_on w n node m x) n b) (after h d) n j
  talks_follow = follows ev w h n node m x d k b j z s.same s.went
      (λ js goes.
      one_joined grow.stay (with_book w n k) (behind w n node x b) h (after h d) j z n (about m) (booked node k) (left node x b)
      q.joined.joined
      (talks_one grow.stay w h (after h d) n node x k b j z (about m) (epoch_of w n (about m)) t r ls says took o q.joined.joined) js goes)
      queries s.named
