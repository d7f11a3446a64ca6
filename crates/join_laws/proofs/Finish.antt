-- A move is joined where its parts are: the tunnel and the calls of its node, what is asked for, and the names of calls.
use Rattle.std.proofs.Common.{◌≡◌, ℕ, ◌<◌, Bool, true, false, List, [], ◌∷◌, refl, sym, ap, ◌∙◌, subst, Option, Some}
use Rattle.id_table.specs.Ids.{at}
use Rattle.session_book.specs.Books.{Kept}
use Rattle.tunnel_fsm.specs.Rows.{state_number}
use Rattle.end_model.specs.declared.event.Event.{Event}
use Rattle.end_model.specs.declared.moves.Move.{Move}
use Rattle.end_model.specs.Tunnels.{Tunnel, mode_of, is_current}
use Rattle.end_model.specs.End.{End}
use Rattle.world_model.specs.World.{World, Node, Sender, Deed}
use Rattle.epoch_machine.specs.Worlds as machine
use Rattle.epoch_machine.specs.Worlds.{all_rules}
use Rattle.epoch_machine.specs.Moves as moves
use Rattle.epoch_machine.specs.Moves.{step, goes_on}
use Rattle.epoch_machine.specs.Tunnels.{Tunnels}
use Rattle.epoch_machine.specs.Calls.{Calls}
use Rattle.stop_laws.specs.Records.{node_of}
use Rattle.stop_laws.specs.Steps.{is_outage}
use Rattle.session_laws.proofs.Ground.{one_step}
use Rattle.channel_laws.specs.Accounts.{History, after}
use Rattle.channel_laws.specs.Steps.{with_end, moves_on}
use Rattle.recovery_laws.specs.Growing.{TakenStay}
use Rattle.recovery_laws.specs.Queries.{QueriesJoined, CallsAreNamed}
use Rattle.recovery_laws.specs.Joined.{AreJoined}
use Rattle.join_laws.specs.Hearing.{IsHeard, AreHeard}
use Rattle.join_laws.specs.Steps as steps
use Rattle.join_laws.specs.Steps.{with_book, AreOf, Follows, IsJoined}
use Rattle.join_laws.proofs.Ahead.{behind}

-- the machine went on by these moves of the node, each of which takes what the step hears
pub record Went (ev : Event) (n : ℕ) (m z : machine.World) : Type 0 where
  pub moves : List moves.Move
  pub own : AreOf n m moves
  pub heard : AreHeard ev m moves
  pub goes : z ≡ goes_on all_rules m moves

-- by one
pub went_one : (ev : Event) (n : ℕ) (m z : machine.World) (j : moves.Move) → node_of m j ≡ n → is_outage j ≡ false → IsHeard ev m j
    → step all_rules m j ≡ z → Went ev n m z
went_one ev n m z j node none heard is = record {
  moves = j ∷ [];
  own = (node, none, tt);
  heard = (heard, tt);
  goes = sym is ∙ sym (one_step all_rules m j);
}

-- the world behind the move is joined
pub follows : (ev : Event) (w : World) (h : History) (n : ℕ) (node : Node) (m : Move) (x : End) (d : Deed) (k b : Kept)
    (j z : machine.World) → moves_on w n node m x ≡ with_end w n node x → (t : Went ev n j z)
    → ((js : List moves.Move) → z ≡ goes_on all_rules j js → AreJoined (behind w n node x b) (after h d) z)
    → QueriesJoined (behind w n node x b) (after h d) z → CallsAreNamed z
    → Follows ev (with_book (moves_on w n node m x) n b) (after h d) n j
follows ev w h n node m x d k b j z same t joined queries named =
    subst (λ v. Follows ev (with_book v n b) (after h d) n j) (sym same) (record {
      moves = t.moves;
      own = t.own;
      heard = t.heard;
      joined = subst (IsJoined (behind w n node x b) (after h d)) t.goes (record {
        joined = joined t.moves t.goes;
        queries = queries;
        named = named;
      });
    })

-- where no call is drawn they have the names that they had
pub named_as : (m z : machine.World) → z.calls.drawn ≡ m.calls.drawn → CallsAreNamed m → CallsAreNamed z
named_as m z same named y is = named y (sym (ap (λ f. f y) same) ∙ is)
