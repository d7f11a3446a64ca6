-- The tables at the end of a report, where a call isn't up yet, and where a letter wasn't taken.
use Rattle.std.specs.Prelude.{◌≡◌, ℕ, List, [], ◌∷◌, ◌++◌, codes, None, Some, false, replicate}
use Rattle.lcp_end.specs.Steps.{fresh}
use Rattle.call_link.specs.Link.{new_link}
use Rattle.call_fsm.specs.declared.table.CallState.TheVariants.{WaitReply}
use Rattle.end_names.specs.declared.role.Role.TheVariants as role
use Rattle.end_names.specs.Names.{subscriber, address_of}
use Rattle.end_model.specs.Tunnels.{Tunnel}
use Rattle.end_model.specs.End.{new_end}
use Rattle.world_model.specs.World.{World, Node, config_of, empty_world, new_node}
use Rattle.world_model.specs.Run.{tables}
use Rattle.run_examples.specs.Channels.{channel}
use Rattle.run_examples.specs.Samples.{tunnel_up, call_in, call_up}

-- the LAC, node 9, took two letters: one of two calls is up
abbrev pub lac : ℕ → Tunnel
lac queued = tunnel_up 1 4 7 (channel 2 queued 1 2) [] ((1, call_up 5 (subscriber 70)) ∷ (2, call_in WaitReply 0 (subscriber 71)) ∷ [])

-- the LNS, node 4, took three letters; LCP isn't open in its call, which is a session nevertheless
abbrev pub lns : ℕ → Tunnel
lns queued =
    tunnel_up 7 9 1 (channel 1 queued 1 3) []
    ((5, record (call_up 1 (replicate 6 0)) { link = Some (record (new_link (record { moment = 0; block = [] })) { lcp = fresh 17 }) }) ∷ [])

abbrev pub lac_node : ℕ → Node
lac_node queued = record (new_node 0 9 role.Lac (address_of 4) None false) {
  end = record (new_end role.Lac (config_of 9 (address_of 4) None false)) { tunnels = (1, lac queued) ∷ [] };
  births = (1, 2) ∷ (2, 1) ∷ [];
  access = None;
}

abbrev pub lns_node : ℕ → Node
lns_node queued = record (new_node 0 4 role.Lns 0 None false) { end = record (new_end role.Lns (config_of 4 0 None false)) { tunnels = (7, lns queued) ∷ [] }; births = (5, 2) ∷ [] }

-- where the LAC and the LNS keep so many letters, of which the first was acknowledged by none yet
abbrev pub world : ℕ → ℕ → World
world of_lac of_lns = record empty_world { nodes = (4, lns_node of_lns) ∷ (9, lac_node of_lac) ∷ [] }

abbrev pub ends : List ℕ
ends =
    codes "end 4 tunnel 7 9 1 established 0 current complete\n"
    ++ codes "end 4 call 7 5 1 established 2\n"
    ++ codes "end 9 tunnel 1 4 7 established 0 current complete\n"
    ++ codes "end 9 call 1 1 5 established 2\n"
    ++ codes "end 9 call 1 2 0 wait-reply 1\n"

pub record TablesTell : Type 0 where
  -- each took all that the other was given, though the last letter isn't acknowledged; the call that isn't up is no session
  pub agreed : tables (world 1 1) ≡ ends ++ codes "agree 9 1 4 7 1\n"
  -- a letter of the LAC wasn't taken, and one of the LNS
  pub of_lac : tables (world 2 1) ≡ ends
  pub of_lns : tables (world 1 2) ≡ ends
