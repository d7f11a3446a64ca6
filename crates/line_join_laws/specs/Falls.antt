-- A node that falls, with records that a stop kept.
use Rattle.std.specs.Prelude.{◌≡◌, ℕ, ◌<◌, ◌≤◌, true, false, List, [], Some, is_some}
use Rattle.id_table.specs.Ids.{at}
use Rattle.session_book.specs.declared.record.BookCall.{BookCall}
use Rattle.session_book.specs.Books.{Kept, tunnel_at, call_at}
use Rattle.world_model.specs.World.{World, Node, with_node, birth_in, standing_in, answer_in}
use Rattle.epoch_machine.specs.Worlds as machine
use Rattle.epoch_machine.specs.Moves as moves
use Rattle.epoch_machine.specs.Moves.{falls}
use Rattle.stop_laws.specs.Records.{writes, each_allowed}
use Rattle.session_laws.specs.Names.{name}
use Rattle.channel_laws.specs.Accounts.{History}
use Rattle.channel_laws.specs.Facts.{NodesHold, Holds}
use Rattle.recovery_laws.specs.Joined.{LearnedSo, BookCallJoined}
use Rattle.join_laws.specs.Steps.{IsJoined}

-- what the records make of the node's book
pub record IsCutBook (c : machine.World) (h : History) (n : ℕ) (j : Kept) : Type 0 where
  pub booked : (i : ℕ) → i < 65536 → c.tunnels.booked (name n i) ≡ is_some (tunnel_at j i)
  pub learned : (i : ℕ) → i < 65536 → LearnedSo h.accounts n i (c.tunnels.learned (name n i))
  pub calls : (s : ℕ) → s < 65536 → c.calls.booked (name n s) ≡ is_some (call_at j s)
  pub kept : (s : ℕ) (b : BookCall) → call_at j s ≡ Some b → BookCallJoined c h n s b

-- the node that fell
pub record HasFallen (old new : Node) (j : Kept) : Type 0 where
  pub tunnels : new.end.tunnels ≡ []
  pub up : new.up ≡ false
  pub book : new.checkpoint.book ≡ j
  pub next : old.end.session_ids.next ≤ new.end.session_ids.next
  pub births : (s : ℕ) → birth_in (Some new) s ≡ birth_in (Some old) s
  pub epochs : (i : ℕ) → (standing_in (Some new) i).epoch ≡ (standing_in (Some old) i).epoch
  pub made : (i : ℕ) → (standing_in (Some new) i).made ≡ (standing_in (Some old) i).made
  pub answers : (x : ℕ) → answer_in (Some new) x ≡ answer_in (Some old) x

-- Where the machine's world allows records of a node, and they make the book there that the node has when it is down, the world in which it
-- is down is joined with the one in which the machine's node fell.
abbrev pub FallenNodesJoin : Type 0
FallenNodesJoin = (w : World) (h : History) (m : machine.World) → NodesHold w → Holds w h → IsJoined w h m
    → (n : ℕ) (old new : Node) (j : Kept)
    (ks : List moves.Kept) → at w.nodes n ≡ Some old → HasFallen old new j → each_allowed m n ks ≡ true → IsCutBook (writes m ks) h n j
    → IsJoined (with_node w n new) h (falls (writes m ks) n)
