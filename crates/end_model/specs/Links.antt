-- The PPP link of an LNS's call (RFC 1661), as the call has it.
use Rattle.std.specs.Prelude.{ℕ, Bool, true, false, List, [], ◌∷◌, Option, Some, None}
use Rattle.call_link.specs.declared.env.LinkEnv.{LinkEnv}
use Rattle.call_link.specs.Link.{Link}
use Rattle.session_looks.specs.declared.look.CellChange.{CellChange}
use Rattle.session_looks.specs.declared.look.CellChange.TheVariants.{Establish}
use Rattle.end_model.specs.declared.tunnel.Call.{Call}
use Rattle.end_model.specs.Tunnels.{Ground}

-- a link is called at the moment and with the random block of the step
abbrev pub link_env : Ground → LinkEnv
link_env g = record { moment = g.moment; block = g.block }

abbrev pub with_link : Link → Call → Call
with_link l c = record c { link = Some l }

-- frames of the network pass from now on
abbrev pub looks_of : Bool → ℕ → List CellChange
looks_of true s = Establish s ∷ []
looks_of false s = []

-- frames of the network pass in a call that is established: at a LAC all of them
abbrev pub is_passing : Option Link → Bool
is_passing None = true
is_passing (Some l) = l.network
