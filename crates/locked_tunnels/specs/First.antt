-- A new tunnel's first turn, and what a turn gives that no tunnel of the table takes.
use Rattle.std.specs.Prelude.{ℕ, List, [], Bool, false, not, ◌&&◌, ◌==◌, if◌then◌else◌}
use Rattle.end_names.specs.declared.role.Role.{Role}
use Rattle.end_model.specs.declared.event.Event.{Event}
use Rattle.end_model.specs.declared.out.Out.{Out}
use Rattle.end_model.specs.declared.tunnel.Config.{Config}
use Rattle.end_model.specs.Openings.{fresh}
use Rattle.end_model.specs.Secrets.{uncovered_event}
use Rattle.end_model.specs.Tunnels.{Drawing, new_tunnel}
use Rattle.end_model.specs.Recovering.{RecoveryTurn}
use Rattle.tunnel_core.specs.Cores.{Plan}
use Rattle.tunnel_listing.specs.Directory.{Directory}
use Rattle.event_routing.specs.declared.answers.Answer.{Answer}
use Rattle.event_routing.specs.declared.answers.Answer.TheVariants.{Opens, Gives}
use Rattle.event_routing.specs.Answers.{answer_in}
use Rattle.locked_tunnels.specs.Kept.{Known}
use Rattle.locked_tunnels.specs.Turns.{turn_by}

-- a tunnel to a peer that is new
abbrev pub first_known : Role → ℕ → ℕ → Known
first_known role peer moment = record { role = role; tunnel = new_tunnel (fresh peer moment); changes = []; gone = false }

-- its first turn
abbrev pub first_by : Role → Config → Drawing → ℕ → List ℕ → Event → ℕ → RecoveryTurn
first_by role c ids moment block ev peer = turn_by (first_known role peer moment) c ids moment block ev

-- where it drew no id, nothing that it drew is
abbrev pub drawn_first : ℕ → Drawing → Drawing → Drawing
drawn_first local before after = if local == 0 then before else after

-- whether it stands in the table after what is planned for it
abbrev pub is_to_stand : Plan → Bool
is_to_stand p = not (p.control.local == 0) && not p.cleared

-- what is given, of an end that is told this and draws from these spaces
abbrev pub given_by : Role → Config → Drawing → ℕ → List ℕ → Event → Answer → List Out
given_by role c ids moment block ev (Opens peer) = (first_by role c ids moment block ev peer).turn.outputs
given_by role c ids moment block ev (Gives given) = given.outputs

abbrev pub shared_outputs : Directory → Config → Drawing → ℕ → List ℕ → Event → List Out
shared_outputs d c ids moment block ev = given_by d.role c ids moment block ev (answer_in d c ids.tunnels (uncovered_event c.secret ev))
