-- All that is around a node's end, but its disk: what its ports, its clock and its generator tell.
use Rattle.std.specs.Prelude.{⊤, ℕ, ◌≡◌, List, drop, option_map, Option, None, IfSome}
use Rattle.rand_core.specs.Stream.{Stream, fill_bytes}
use Rattle.port_traits.specs.Packets.{Asks, Moments, moment, passed}
use Rattle.port_events.specs.declared.end.Event.{Event}
use Rattle.port_events.specs.declared.end.Out.{Out}
use Rattle.port_events.specs.declared.giving.TurnFault.{TurnFault}
use Rattle.port_events.specs.Feeding.{Given, Goes}
use Rattle.port_events.specs.Taking.{datagram_event, frame_event, lower_event, TellsEvent, MayTell}
use Rattle.port_turn.specs.Turns.{Waits, Asked}

pub record Around : Type 0 where
  pub stream : Stream
  pub clock : Option Moments
  pub given : Given
  pub waits : Waits
  pub asked : Asked

abbrev pub around : Stream → Option Moments → Given → Waits → Asked → Around
around stream clock given waits asked = record { stream = stream; clock = clock; given = given; waits = waits; asked = asked }

-- how often each port failed
pub record PortCounts : Type 0 where
  pub link : ℕ
  pub ether : ℕ
  pub up : ℕ

abbrev pub port_counts : ℕ → ℕ → ℕ → PortCounts
port_counts link ether up = record { link = link; ether = ether; up = up }

-- ---- what one call does

-- the clock was read, and told this moment
pub record ReadsClock (now : ℕ) (old new : Around) : Type 0 where
  pub told : IfSome old.clock (λ moments. now ≡ moment moments)
  pub rest : new ≡ record old { clock = option_map passed old.clock }

-- the next 16 bytes of the generator were taken
pub record DrawsBlock (block : List ℕ) (old new : Around) : Type 0 where
  pub block_is : block ≡ (fill_bytes 16 old.stream).0
  pub rest : new ≡ record old { stream = (fill_bytes 16 old.stream).1 }

-- a port was asked for what waits, and gave the first, if there was one
pub record AsksLink (got : Option Event) (old new : Around) : Type 0 where
  pub first : TellsEvent datagram_event old.waits.link got
  pub asks : Asks old.asked.link new.asked.link
  pub rest : new ≡ record old { waits = record old.waits { link = option_map (drop 1) old.waits.link }; asked = record old.asked { link = new.asked.link } }

pub record AsksEther (got : Option Event) (old new : Around) : Type 0 where
  pub first : TellsEvent frame_event old.waits.ether got
  pub asks : Asks old.asked.ether new.asked.ether
  pub rest : new ≡ record old { waits = record old.waits { ether = option_map (drop 1) old.waits.ether }; asked = record old.asked { ether = new.asked.ether } }

pub record AsksUplink (got : Option Event) (old new : Around) : Type 0 where
  pub first : TellsEvent lower_event old.waits.up got
  pub asks : Asks old.asked.up new.asked.up
  pub rest : new ≡ record old { waits = record old.waits { up = option_map (drop 1) old.waits.up }; asked = record old.asked { up = new.asked.up } }

-- a port failed as it was asked, and nothing was taken; or memory was wanting for what it gave
pub record LinkFails {F : Type 0} (fault : TurnFault F) (old new : Around) : Type 0 where
  pub takes : MayTell fault datagram_event old.waits.link new.waits.link None
  pub asks : Asks old.asked.link new.asked.link
  pub rest : new ≡ record old { waits = record old.waits { link = new.waits.link }; asked = record old.asked { link = new.asked.link } }

pub record EtherFails {F : Type 0} (fault : TurnFault F) (old new : Around) : Type 0 where
  pub takes : MayTell fault frame_event old.waits.ether new.waits.ether None
  pub asks : Asks old.asked.ether new.asked.ether
  pub rest : new ≡ record old { waits = record old.waits { ether = new.waits.ether }; asked = record old.asked { ether = new.asked.ether } }

pub record UplinkFails {F : Type 0} (fault : TurnFault F) (old new : Around) : Type 0 where
  pub takes : MayTell fault lower_event old.waits.up new.waits.up None
  pub asks : Asks old.asked.up new.asked.up
  pub rest : new ≡ record old { waits = record old.waits { up = new.waits.up }; asked = record old.asked { up = new.asked.up } }

-- the ports were given these, and nothing else was touched
pub record Gives (outs : List Out) (old new : Around) : Type 0 where
  pub goes : Goes old.given new.given outs
  pub rest : new ≡ record old { given = new.given }
