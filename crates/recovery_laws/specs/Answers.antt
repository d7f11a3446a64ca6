-- What an end answers is what the machine does.
use Rattle.std.specs.Prelude.{◌≡◌, ℕ, ◌<◌, List, map}
use Rattle.std.specs.List.{AllByRecursion}
use Rattle.wire_base.specs.declared.pair.Pair.{Pair}
use Rattle.session_query.specs.Queries.{answers_to}
use Rattle.end_model.specs.Calls.{sessions_of}
use Rattle.end_model.specs.Tunnels.{Tunnel}
use Rattle.world_model.specs.World.{World}
use Rattle.epoch_machine.specs.Worlds as machine
use Rattle.session_laws.specs.Names.{name, name_of}
use Rattle.channel_laws.specs.Accounts.{History}
use Rattle.channel_laws.specs.Facts.{NodesHold, Holds}
use Rattle.channel_laws.specs.Epochs.{IsLive}
use Rattle.recovery_laws.specs.Joined.{AreJoined}
use Rattle.recovery_laws.specs.Queries.{answers_in}
use Rattle.recovery_laws.specs.Asking.{Asked, answers}

-- a session that another node's end asks for: its own id, and that of the node that is asked
abbrev pub asked_for : ℕ → ℕ → Pair → Asked
asked_for n peer p = record { own = name peer p.sender; other = name_of n p.receiver }

-- of each session that a live tunnel is asked for, by ids of 16 bits, it says what the machine says
abbrev pub JoinedWorldsAnswer : Type 0
JoinedWorldsAnswer = (w : World) (h : History) (m : machine.World) → NodesHold w → Holds w h → AreJoined w h m → (n i : ℕ)
    (t : Tunnel) → IsLive w n i t
    → (pairs : List Pair) → AllByRecursion (λ (p : Pair). p.receiver < 65536) pairs
    → answers m.calls (name n i) (map (λ p. asked_for n (h.accounts n i 0).peer p) pairs)
    ≡ answers_in n (h.accounts n i 0).peer pairs (answers_to (sessions_of t.calls) pairs)
