-- What a turn does.
use Rattle.std.specs.Prelude.{ℕ, ◌≡◌, ◌⊎◌, List, [], ◌∷◌, ◌++◌, drop, option_map, Option, None, IfSome}
use Rattle.rand_core.specs.Stream.{Stream}
use Rattle.port_traits.specs.Packets.{Asks, Moments, moment}
use Rattle.port_traits.specs.declared.packets.Datagram.{Datagram}
use Rattle.port_traits.specs.declared.packets.LowerFrame.{LowerFrame}
use Rattle.port_events.specs.declared.end.Event.{Event}
use Rattle.port_events.specs.declared.end.Event.TheVariants as event
use Rattle.port_events.specs.declared.end.Out.{Out}
use Rattle.port_events.specs.declared.giving.TurnFault.{TurnFault}
use Rattle.port_events.specs.Giving.{IsAround}
use Rattle.port_events.specs.Taking.{datagram_event, frame_event, lower_event, TellsEvent, MayTell}
use Rattle.port_events.specs.Feeding.{some_of, Given, Fed, Stopped}

-- what a turn takes, at which moment
pub record Turn : Type 0 where
  pub now : ℕ
  pub datagram : Option Event
  pub frame : Option Event
  pub lower : Option Event

-- the events of a whole turn, in the order in which they are given
abbrev pub events_of : Turn → List Event
events_of t = some_of t.datagram ++ (some_of t.frame ++ (some_of t.lower ++ (event.Tick ∷ [])))

-- the events of a turn that ended early: the tick may be missing
abbrev pub events_before : Turn → List Event → List Event
events_before t tick = some_of t.datagram ++ (some_of t.frame ++ (some_of t.lower ++ tick))

-- what waited and what waits
pub record Waits : Type 0 where
  pub link : Option (List Datagram)
  pub ether : Option (List (List ℕ))
  pub up : Option (List LowerFrame)

abbrev pub waits : Option (List Datagram) → Option (List (List ℕ)) → Option (List LowerFrame) → Waits
waits link ether up = record { link = link; ether = ether; up = up }

-- how often each port was asked for what waits, where it tells it
pub record Asked : Type 0 where
  pub link : Option ℕ
  pub ether : Option ℕ
  pub up : Option ℕ

abbrev pub asked : Option ℕ → Option ℕ → Option ℕ → Asked
asked link ether up = record { link = link; ether = ether; up = up }

-- a turn takes one from each port where one is waiting
pub record TakesOne (t : Turn) (old new : Waits) : Type 0 where
  pub datagram : TellsEvent datagram_event old.link t.datagram
  pub frame : TellsEvent frame_event old.ether t.frame
  pub lower : TellsEvent lower_event old.up t.lower
  pub link : new.link ≡ option_map (drop 1) old.link
  pub ether : new.ether ≡ option_map (drop 1) old.ether
  pub up : new.up ≡ option_map (drop 1) old.up

-- a turn that ended early
pub record MayTake {F : Type 0} (fault : TurnFault F) (t : Turn) (old new : Waits) : Type 0 where
  pub datagram : MayTell fault datagram_event old.link new.link t.datagram
  pub frame : MayTell fault frame_event old.ether new.ether t.frame
  pub lower : MayTell fault lower_event old.up new.up t.lower

-- the port that a turn asked last
pub data Port : Type 0 where
  AtLink : Port
  AtEther : Port
  AtUplink : Port

-- the ports up to that one were asked, each once, and no other was
abbrev pub AskedUpTo : Port → Asked → Asked → Type 0
AskedUpTo AtLink old new = Asks old.link new.link × (new.ether ≡ old.ether) × (new.up ≡ old.up)
AskedUpTo AtEther old new = Asks old.link new.link × Asks old.ether new.ether × (new.up ≡ old.up)
AskedUpTo AtUplink old new = Asks old.link new.link × Asks old.ether new.ether × Asks old.up new.up

-- what was taken before that port was asked, and then other events
abbrev pub taken_before : Port → Turn → List Event → List Event
taken_before AtLink t others = others
taken_before AtEther t others = some_of t.datagram ++ others
taken_before AtUplink t others = some_of t.datagram ++ (some_of t.frame ++ others)

-- nothing was taken from a later port, and before the last one was asked there was no tick
abbrev pub NothingLater : Port → Turn → List Event → Type 0
NothingLater AtLink t tick = (t.frame ≡ None) × (t.lower ≡ None) × (tick ≡ [])
NothingLater AtEther t tick = (t.lower ≡ None) × (tick ≡ [])
NothingLater AtUplink t tick = Unit {0}

module _ {S : Type 0} (steps : S → ℕ → List ℕ → Event → List Out → S → Type 0) where
  -- a whole turn
  pub record Turned (stream stream' : Stream) (end end' : S) (g g' : Given) (w w' : Waits) (a a' : Asked) (t : Turn) : Type 0 where
    pub takes : TakesOne t w w'
    pub asks : AskedUpTo AtUplink a a'
    pub fed : Fed steps t.now stream stream' end end' g g' (events_of t)

module _ {S F : Type 0} (steps : S → ℕ → List ℕ → Event → List Out → S → Type 0) (stops : S → ℕ → List ℕ → Event → F → S → Type 0) (fault : TurnFault F) where
  -- A turn that ended early. Before the last port was asked, all that came of what was taken before was out: what was taken before is
  -- among the events that are over. So it is also where that port fails when it is asked.
  pub record Broke (clock : Option Moments) (stream : Stream) (end end' : S) (g g' : Given) (w w' : Waits) (a a' : Asked) : Type 0 where
    pub turn : Turn
    pub moment_is : IfSome clock (λ moments. turn.now ≡ moment moments)
    pub tick : List Event
    pub port : Port
    pub takes : MayTake fault turn w w'
    pub ticks : (tick ≡ []) ⊎ (tick ≡ event.Tick ∷ [])
    pub stopped : Stopped steps stops turn.now fault stream end end' g g' (events_before turn tick)
    pub asks : AskedUpTo port a a'
    pub later : NothingLater port turn tick
    pub over : (others : List Event) × (stopped.made ≡ taken_before port turn others)

  -- What came of events was to go out, and then a port was to be asked: the first of these stopped, and the port wasn't asked; or all
  -- went out, and the port failed, or memory was wanting for what it gave.
  pub record GivingStopped {T : Type 0} (now : ℕ) (stream : Stream) (end end' : S) (g g' : Given) (es : List Event) (w w' : Option (List T)) (a a' : Option ℕ) : Type 0 where
    pub stopped : Stopped steps stops now fault stream end end' g g' es
    pub waits : w' ≡ w
    pub asks : a' ≡ a

module _ {S F : Type 0} (steps : S → ℕ → List ℕ → Event → List Out → S → Type 0) (fault : TurnFault F) where
  pub record AskingFailed {T : Type 0} (make : T → Event) (now : ℕ) (stream stream' : Stream) (end end' : S) (g g' : Given) (es : List Event) (w w' : Option (List T)) (a a' : Option ℕ) : Type 0 where
    pub fed : Fed steps now stream stream' end end' g g' es
    pub around : IsAround fault
    pub takes : MayTell fault make w w' None
    pub asks : Asks a a'
