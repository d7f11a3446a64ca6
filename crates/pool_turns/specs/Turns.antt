-- What the calling thread of a pool does on its ports: turn after turn, each of which takes what waits, and puts the datagram for a worker.
-- When what comes of it goes out is the workers' affair: of what the ports are given it is said only that nothing is taken back.
use Rattle.std.specs.Prelude.{ℕ, zero, suc, ◌≤◌, ◌≡◌, ◌⊎◌, Bool, true, false, List, [], ◌∷◌, ◌++◌, length, drop, option_map, Option, Some, None, IfSome}
use Rattle.rand_core.specs.Stream.{Stream, fill_bytes}
use Rattle.port_traits.specs.Packets.{moment, passed, Asks}
use Rattle.port_events.specs.declared.end.Event.{Event}
use Rattle.port_events.specs.declared.end.Event.TheVariants as event
use Rattle.port_events.specs.declared.end.Out.{Out}
use Rattle.port_events.specs.Feeding.{Goes, some_of}
use Rattle.port_events.specs.Taking.{datagram_event, frame_event, lower_event, TellsEvent}
use Rattle.port_turn.specs.Turns.{Turn, events_of, TakesOne, AskedUpTo, AtUplink}
use Rattle.held_ports.specs.Around.{Around}

-- what is put for a worker: a datagram from a peer, the moment of its turn, and the block that was drawn for it
pub record Put : Type 0 where
  pub peer : ℕ
  pub bytes : List ℕ
  pub now : ℕ
  pub block : List ℕ

-- what is left of a stream after so many blocks
abbrev pub blocks : ℕ → Stream → Stream
blocks zero stream = stream
blocks (suc n) stream = blocks n (fill_bytes 16 stream).1

-- the first block of a stream
abbrev pub first_block : Stream → List ℕ
first_block stream = (fill_bytes 16 stream).0

-- of what the link gave, what is put
abbrev pub put_of : ℕ → List ℕ → Option Event → List Put
put_of now block (Some (event.Datagram peer bytes)) = record { peer = peer; bytes = bytes; now = now; block = block } ∷ []
put_of now block other = []

-- so many blocks were drawn, and the ports may have been given more; nothing else happened to them
pub record Draws (n : ℕ) (old new : Around) : Type 0 where
  pub outs : List Out
  pub gave : Goes old.given new.given outs
  pub rest : new ≡ record old { stream = blocks n old.stream; given = new.given }

-- ---- the parts of a turn

-- the link was asked, and the datagram that it gave was put, at this moment and with the next block
pub record TakesLink (now : ℕ) (got : Option Event) (ps : List Put) (old new : Around) : Type 0 where
  pub first : TellsEvent datagram_event old.waits.link got
  pub asks : Asks old.asked.link new.asked.link
  pub puts : ps ≡ put_of now (first_block old.stream) got
  pub outs : List Out
  pub gave : Goes old.given new.given outs
  pub rest : new ≡ record old {
    stream = blocks (length (some_of got)) old.stream;
    given = new.given;
    waits = record old.waits { link = option_map (drop 1) old.waits.link };
    asked = record old.asked { link = new.asked.link };
  }

-- the Ethernet port was asked, and the uplink; what it gave had the next block
pub record TakesEther (got : Option Event) (old new : Around) : Type 0 where
  pub first : TellsEvent frame_event old.waits.ether got
  pub asks : Asks old.asked.ether new.asked.ether
  pub outs : List Out
  pub gave : Goes old.given new.given outs
  pub rest : new ≡ record old {
    stream = blocks (length (some_of got)) old.stream;
    given = new.given;
    waits = record old.waits { ether = option_map (drop 1) old.waits.ether };
    asked = record old.asked { ether = new.asked.ether };
  }

pub record TakesUplink (got : Option Event) (old new : Around) : Type 0 where
  pub first : TellsEvent lower_event old.waits.up got
  pub asks : Asks old.asked.up new.asked.up
  pub outs : List Out
  pub gave : Goes old.given new.given outs
  pub rest : new ≡ record old {
    stream = blocks (length (some_of got)) old.stream;
    given = new.given;
    waits = record old.waits { up = option_map (drop 1) old.waits.up };
    asked = record old.asked { up = new.asked.up };
  }

-- of a port the first that waits was taken, if one waits; or nothing was, or what was taken is lost for want of memory
abbrev pub Took : {T : Type 0} → (T → Event) → Option (List T) → Option (List T) → Option Event → Type 0
Took make old new None = (new ≡ old) ⊎ (new ≡ option_map (drop 1) old)
Took make old new (Some e) = TellsEvent make old (Some e) × (new ≡ option_map (drop 1) old)

-- a part of a turn ended early: no other port was asked, and nothing was put
pub record StopsAtLink (old new : Around) : Type 0 where
  pub got : Option Event
  pub took : Took datagram_event old.waits.link new.waits.link got
  pub others : new.waits ≡ record old.waits { link = new.waits.link }
  pub outs : List Out
  pub gave : Goes old.given new.given outs

pub record StopsAtEther (old new : Around) : Type 0 where
  pub got : Option Event
  pub took : Took frame_event old.waits.ether new.waits.ether got
  pub others : new.waits ≡ record old.waits { ether = new.waits.ether }
  pub outs : List Out
  pub gave : Goes old.given new.given outs

pub record StopsAtUplink (old new : Around) : Type 0 where
  pub got : Option Event
  pub took : Took lower_event old.waits.up new.waits.up got
  pub others : new.waits ≡ record old.waits { up = new.waits.up }
  pub outs : List Out
  pub gave : Goes old.given new.given outs

-- ---- turns

-- A whole turn: at the next moment of the clock, one was taken from each port where one waited, each event had the next block of the
-- generator, and the datagram was put.
pub record MakesTurn (t : Turn) (ps : List Put) (old new : Around) : Type 0 where
  pub moment_is : IfSome old.clock (λ moments. t.now ≡ moment moments)
  pub clock_is : new.clock ≡ option_map passed old.clock
  pub takes : TakesOne t old.waits new.waits
  pub asks : AskedUpTo AtUplink old.asked new.asked
  pub stream_is : new.stream ≡ blocks (length (events_of t)) old.stream
  pub puts : ps ≡ put_of t.now (first_block old.stream) t.datagram
  pub outs : List Out
  pub gave : Goes old.given new.given outs

-- turn after turn, with all that they put, in order
abbrev pub Runs : List Turn → List Put → Around → Around → Type 0
Runs [] ps old new = (ps ≡ []) × (new ≡ old)
Runs (t ∷ ts) ps old new =
    (first : List Put) × (later : List Put) × (mid : Around) × MakesTurn t first old mid × (ps ≡ first ++ later) × Runs ts later mid new

-- a tunnel is opened, at the next moment of the clock and with the next block; no port is asked
pub record Opens (old new : Around) : Type 0 where
  pub clock_is : new.clock ≡ option_map passed old.clock
  pub stream_is : new.stream ≡ blocks 1 old.stream
  pub waits : new.waits ≡ old.waits
  pub asks : new.asked ≡ old.asked
  pub outs : List Out
  pub gave : Goes old.given new.given outs

abbrev pub Begins : Bool → Around → Around → Type 0
Begins true old new = Opens old new
Begins false old new = new ≡ old

-- a tunnel is opened, where one is to be, then so many turns are made, and then the ports may be given more
pub record Serves (opens : Bool) (turns : ℕ) (ps : List Put) (old new : Around) : Type 0 where
  pub start : Around
  pub begins : Begins opens old start
  pub ts : List Turn
  pub all : length ts ≡ turns
  pub last : Around
  pub runs : Runs ts ps start last
  pub after : Draws 0 last new

-- ---- where it ended early

-- a turn that ended early took at most one from each port
pub record Breaks (t : Turn) (old new : Around) : Type 0 where
  pub link : Took datagram_event old.waits.link new.waits.link t.datagram
  pub ether : Took frame_event old.waits.ether new.waits.ether t.frame
  pub up : Took lower_event old.waits.up new.waits.up t.lower
  pub outs : List Out
  pub gave : Goes old.given new.given outs

-- and put the datagram, at its moment, or nothing
pub record StopsIn (ps : List Put) (old new : Around) : Type 0 where
  pub t : Turn
  pub breaks : Breaks t old new
  pub block : List ℕ
  pub puts : (ps ≡ []) ⊎ (ps ≡ put_of t.now block t.datagram)

-- a tunnel was to be opened, and was, or that was refused; or none was to be
abbrev pub MayBegin : Bool → Around → Around → Type 0
MayBegin true old new = (new.waits ≡ old.waits) × (new.asked ≡ old.asked) × ((outs : List Out) × Goes old.given new.given outs)
MayBegin false old new = new ≡ old

-- Fewer turns were made, or all, and one more may have ended early. All that was put was taken by one of them, and at its moment.
pub record BreaksOff (opens : Bool) (turns : ℕ) (ps : List Put) (old new : Around) : Type 0 where
  pub start : Around
  pub begins : MayBegin opens old start
  pub ts : List Turn
  pub few : length ts ≤ turns
  pub whole : List Put
  pub mid : Around
  pub runs : Runs ts whole start mid
  pub last : List Put
  pub stops : StopsIn last mid new
  pub puts : ps ≡ whole ++ last

-- it came so far: to its end where there was no fault
abbrev pub RanTo : {F : Type 0} → Option F → Bool → ℕ → List Put → Around → Around → Type 0
RanTo None opens turns ps old new = Serves opens turns ps old new
RanTo (Some fault) opens turns ps old new = BreaksOff opens turns ps old new
