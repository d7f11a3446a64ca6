-- Who wants a tunnel, and a call in it.
use Rattle.std.specs.Prelude.{◌≡◌, ◌⊎◌, ℕ, List, Option, Some, None}
use Rattle.end_model.specs.declared.event.Event.{Event}
use Rattle.end_model.specs.declared.event.Event.TheVariants.{Ring, Admitted, OpenTunnel}
use Rattle.end_names.specs.declared.role.Role.TheVariants.{Lac}
use Rattle.end_names.specs.Names.{subscriber}
use Rattle.end_model.specs.End.{End}

-- the subscriber of a port that rings, and a host that was admitted
abbrev pub caller_of : Event → Option (List ℕ)
caller_of (Ring port) = Some (subscriber port)
caller_of (Admitted mac) = Some mac
caller_of ev = None

abbrev pub IsRing : Event → List ℕ → Type 0
IsRing ev who = caller_of ev ≡ Some who

-- a LAC is asked for its tunnel by an administrator, or for a call by a subscriber
abbrev pub AsksLac : Event → Type 0
AsksLac ev = (ev ≡ OpenTunnel) ⊎ ((who : List ℕ) × IsRing ev who)

-- on this event an end wants a tunnel to the peer, or a call in one that it has
pub data WantsTunnel (e : End) (ev : Event) (peer : ℕ) : Type 0 where
  -- a LAC wants it to its LNS
  LacWants : e.role ≡ Lac → peer ≡ e.config.lns → AsksLac ev → WantsTunnel e ev peer

pub wanted_by_lac : (e : End) (ev : Event) (peer : ℕ) → WantsTunnel e ev peer → e.role ≡ Lac
wanted_by_lac e ev peer (LacWants lac lns asks) = lac

pub wanted_to_lns : (e : End) (ev : Event) (peer : ℕ) → WantsTunnel e ev peer → peer ≡ e.config.lns
wanted_to_lns e ev peer (LacWants lac lns asks) = lns
