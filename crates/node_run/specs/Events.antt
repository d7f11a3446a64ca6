-- What waits on a node's ports, as an event of its end.
use Rattle.port_events.specs.declared.end.Event.{Event as Waiting}
use Rattle.port_events.specs.declared.end.Event.TheVariants as waiting
use Rattle.end_model.specs.declared.event.Event.{Event}
use Rattle.end_model.specs.declared.event.Event.TheVariants as event

abbrev pub event_of : Waiting → Event
event_of (waiting.Datagram peer bytes) = event.Datagram peer bytes
event_of (waiting.Frame bytes) = event.Frame bytes
event_of (waiting.Lower session frame) = event.Lower session frame
event_of waiting.Open = event.OpenTunnel
event_of waiting.Tick = event.Tick
