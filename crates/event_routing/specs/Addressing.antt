-- Which tunnel a control message is for, as the tunnels of an end are listed.
use Rattle.std.specs.Prelude.{ℕ, List, ◌==◌, if◌then◌else◌, Option, Some, None, is_some, option_map}
use Rattle.id_table.specs.Ids.{at}
use Rattle.wire_base.specs.declared.why.Why.TheVariants as why
use Rattle.l2tp_header.specs.declared.header.Header.{Header}
use Rattle.end_model.specs.declared.event.Addressee.{Addressee}
use Rattle.end_model.specs.declared.event.Addressee.TheVariants.{Opens, Stops, Recovery, Recovers, Nobody}
use Rattle.end_model.specs.Reading.{at_zero, at_tunnel}
use Rattle.end_model.specs.End.{opened_before, answered_before, stopped_at}
use Rattle.tunnel_listing.specs.declared.listed.Listed.{Listed}
use Rattle.tunnel_listing.specs.declared.listed.Wanted.TheVariants as wanted
use Rattle.tunnel_listing.specs.Directory.{Directory, listed_at, found_in}

-- an SCCRQ that comes again, and a StopCCN, that name no tunnel
unfoldable pub opens_once_in : Directory → ℕ → Addressee → Addressee
opens_once_in d peer (Opens remote) = opened_before remote (found_in d (wanted.Known peer remote))
opens_once_in d peer (Recovers remote) = answered_before remote (found_in d (wanted.Answered peer remote))
opens_once_in d peer (Stops remote) = stopped_at (found_in d (wanted.Known peer remote)) (found_in d (wanted.Answered peer remote))
opens_once_in d peer a = a

abbrev pub line_in : ℕ → ℕ → Option Listed → Addressee
line_in peer i None = Nobody why.Tunnel
line_in peer i (Some l) = if l.peer == peer then Recovery i else Nobody why.Peer

abbrev pub at_recovery_in : Directory → ℕ → Option ℕ → Addressee
at_recovery_in d peer None = Nobody why.Tunnel
at_recovery_in d peer (Some i) = line_in peer i (listed_at d.places.entries i)

-- what a control message is for
unfoldable pub addressed_in : Directory → ℕ → Header → List ℕ → Addressee
addressed_in d peer h body =
    if h.tunnel == 0 then opens_once_in d peer (at_zero body)
    else if is_some (at d.places.entries h.tunnel) then at_tunnel peer h.tunnel (option_map (λ l. l.peer) (listed_at d.places.entries h.tunnel))
    else at_recovery_in d peer (found_in d (wanted.Recovered h.tunnel))
