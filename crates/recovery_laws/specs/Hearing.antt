-- What an end hears of an answer is what the machine hears.
use Rattle.std.specs.Prelude.{◌≡◌, ℕ, ◌<◌, ◌==◌, ◌&&◌, not, if◌then◌else◌, Bool, false, List, [], ◌∷◌}
use Rattle.std.specs.List.{AllByRecursion, list_any}
use Rattle.wire_base.specs.declared.pair.Pair.{Pair}
use Rattle.session_query.specs.Queries.{gone_in}
use Rattle.end_model.specs.Querying.{ended_of}
use Rattle.end_model.specs.Tunnels.{Tunnel}
use Rattle.world_model.specs.World.{World}
use Rattle.epoch_machine.specs.Worlds as machine
use Rattle.epoch_machine.specs.Calls.{Calls, NoCall}
use Rattle.session_laws.specs.Names.{name}
use Rattle.channel_laws.specs.Accounts.{History}
use Rattle.channel_laws.specs.Facts.{NodesHold, Holds}
use Rattle.channel_laws.specs.Epochs.{IsLive}
use Rattle.recovery_laws.specs.Joined.{AreJoined}
use Rattle.recovery_laws.specs.Asking.{Told, told_all}

-- these calls ended, and these were told of in the tunnel; nothing else but whether they are over is another
pub record EndsCalls (c d : Calls) (x : ℕ) (ended told : ℕ → Bool) : Type 0 where
  pub state : (z : ℕ) → d.state z ≡ (if ended z then NoCall else c.state z)
  pub booked : (z : ℕ) → d.booked z ≡ (if ended z then false else c.booked z)
  pub asks : (y z : ℕ) → d.asks y z ≡ (if (y == x) && told z then false else c.asks y z)
  pub drawn : d.drawn ≡ c.drawn
  pub tunnel : d.tunnel ≡ c.tunnel
  pub remote : d.remote ≡ c.remote
  pub births : d.births ≡ c.births
  pub birth : d.birth ≡ c.birth
  pub mate : d.mate ≡ c.mate
  pub made : d.made ≡ c.made
  pub up : d.up ≡ c.up
  pub held : d.held ≡ c.held

-- a session of a node that was asked for, and the answer
abbrev pub told_of : ℕ → ℕ → Pair → Pair → Told
told_of n peer q a = record { own = name peer q.receiver; call = name n q.sender; here = not (a.sender == 0) }

abbrev pub told_for : ℕ → ℕ → List Pair → List Pair → List Told
told_for n peer [] answers = []
told_for n peer (q ∷ qs) [] = []
told_for n peer (q ∷ qs) (a ∷ later) = told_of n peer q a ∷ told_for n peer qs later

-- where a live tunnel is answered, those calls end there that end in the machine
abbrev pub JoinedWorldsHear : Type 0
JoinedWorldsHear = (w : World) (h : History) (m : machine.World) → NodesHold w → Holds w h → AreJoined w h m → (n i : ℕ)
    (t : Tunnel) → IsLive w n i t
    → (asked answers : List Pair) → AllByRecursion (λ (p : Pair). p.sender < 65536) asked
    → EndsCalls m.calls (told_all m.calls (name n i) (told_for n (h.accounts n i 0).peer asked answers)) (name n i)
    (λ z. list_any (λ s. name n s == z) (ended_of t.calls (gone_in asked answers)))
    (λ z. list_any (λ (a : Told). a.call == z) (told_for n (h.accounts n i 0).peer asked answers))
