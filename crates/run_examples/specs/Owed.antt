-- Letters that calls owe carry weight: a tunnel that takes a call for the letters that it holds alone may have no room to tell
-- that a call ends.
use Rattle.std.specs.Prelude.{◌≡◌, ℕ, ◌+◌, List, [], ◌∷◌, Bool, false, nat_le, if◌then◌else◌, None}
use Rattle.id_source.specs.Spaces.{new_space, takes_id}
use Rattle.id_table.specs.Ids.{ids_of}
use Rattle.wire_base.specs.declared.why.Why.TheVariants as why
use Rattle.wire_base.specs.declared.cause.Cause.TheVariants as cause
use Rattle.end_model.specs.declared.event.Event.TheVariants.{Ring, DropCall}
use Rattle.end_model.specs.declared.out.Out.{Out}
use Rattle.end_model.specs.declared.out.Out.TheVariants.{Drop, Gone, Cause}
use Rattle.end_model.specs.declared.tunnel.Call.{Call}
use Rattle.end_model.specs.declared.tunnel.CallPlace.{CallPlace}
use Rattle.end_model.specs.declared.tunnel.Control.{Control}
use Rattle.session_looks.specs.declared.look.Look.TheVariants as look
use Rattle.end_names.specs.declared.role.Role.TheVariants as role
use Rattle.end_names.specs.Names.{subscriber, address_of}
use Rattle.end_model.specs.Ringing.{rings_by}
use Rattle.end_model.specs.Sending.{settles}
use Rattle.end_model.specs.Tunnels.{turn_of, new_tunnel}
use Rattle.end_model.specs.End.{End, new_end, env_of, after_turn, step}
use Rattle.world_model.specs.World.{config_of}
use Rattle.run_examples.specs.Channels.{channel}
use Rattle.run_examples.specs.Samples.{control_up, call_up, place_in}

-- a call that is up, by the LNS's session
abbrev pub up : ℕ → Call
up remote = call_up remote (subscriber 70)

abbrev pub place : CallPlace
place = place_in 1 (look.Established 1 (address_of 4))

-- sessions 3, 4, 5 and 6
abbrev pub calls : List (ℕ × Call)
calls = (3, up 8) ∷ (4, up 9) ∷ (5, up 10) ∷ (6, up 11) ∷ []

-- the tunnel holds 8,187 letters, of which the first is outstanding; they are left out
abbrev pub control : Control
control = control_up 1 4 7 (channel 3 8187 1 2)

-- the LAC, node 9
abbrev pub lac : End
lac = record (new_end role.Lac (config_of 9 (address_of 4) None false)) {
  session_ids = record (new_space 65534) { ceiling = 64; next = 7 };
  tunnels = (1, record (new_tunnel control) { calls = calls }) ∷ [];
  calls = (3, place) ∷ (4, place) ∷ (5, place) ∷ (6, place) ∷ [];
}

abbrev pub answer_to_ring : List Out
answer_to_ring = (step lac 0 [] (Ring 75)).outputs

-- a ring over a tunnel that looks at the letters that it holds, and at none that are owed
abbrev pub has_room_held : Control → Bool
has_room_held c = nat_le (c.channel.window.queued + 4) 8192

-- where that rule lets a call be added, the end that is left
abbrev pub careless : End
careless =
    if has_room_held control
    then (after_turn lac 1 [] calls None (settles false [] (rings_by role.Lac lac.config (subscriber 75) (takes_id lac.session_ids) (turn_of control (env_of lac 0 []))))).end
    else lac

-- the operator drops a call
abbrev pub answer : End → ℕ → List Out
answer e session = (step e 0 [] (DropCall session)).outputs

abbrev pub left : End → ℕ → End
left e session = (step e 0 [] (DropCall session)).end

abbrev pub four_dropped : End → End
four_dropped e = left (left (left (left e 3) 4) 5) 6

pub record LettersOwedAreCounted : Type 0 where
  -- the ring is refused, and the end is as before; each of its calls can be dropped
  pub refused : answer_to_ring ≡ Cause cause.Queue ∷ []
  pub kept : (step lac 0 [] (Ring 75)).end ≡ lac
  pub last : answer (left (left (left lac 3) 4) 5) 6 ≡ Cause cause.Operator ∷ Gone 6 ∷ []
  pub none : (four_dropped lac).calls ≡ []
  -- without the letters owed it is taken. Then the last call that is dropped isn't: there is no room for its CDN
  pub taken : ids_of careless.calls ≡ 3 ∷ 4 ∷ 5 ∷ 6 ∷ 7 ∷ []
  pub without : answer (four_dropped careless) 7 ≡ Drop why.Queue ∷ []
  pub stays : ids_of (left (four_dropped careless) 7).calls ≡ 7 ∷ []
