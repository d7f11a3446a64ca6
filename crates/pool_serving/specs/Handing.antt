-- What the calling thread does with an item that is finished.
use Rattle.std.specs.Prelude.{ℕ, ◌+◌, ◌-◌, ◌≡◌, ◌⊎◌, Bool, true, false, List, [], ◌∷◌, take, drop, length, map, Option, None}
use Rattle.wire_base.specs.declared.letter.Side.{Side}
use Rattle.wire_base.specs.declared.letter.Side.TheVariants.{Sub, Net, Lcp}
use Rattle.pppoe_session.specs.Subscribers.{holder_of}
use Rattle.session_looks.specs.declared.look.Look.{Look}
use Rattle.session_looks.specs.declared.look.Look.TheVariants.{Unborn, Bound, Established, Dead}
use Rattle.session_cells.specs.declared.entry.Entry.{Entry}
use Rattle.session_cells.specs.Logs.{look_after}
use Rattle.session_cells.specs.Tokens.{log_of}
use Rattle.end_model.specs.declared.out.Out.{Out}
use Rattle.port_events.specs.declared.end.Out.{Out as Going}
use Rattle.port_events.specs.declared.end.Out.TheVariants as going
use Rattle.data_plane.specs.declared.carry.Carry.TheVariants.{Up, Dropped}
use Rattle.session_workers.specs.declared.item.Numbered.{Numbered}
use Rattle.session_workers.specs.declared.finished.Finished.{Finished}
use Rattle.session_workers.specs.declared.finished.Done.{Done}
use Rattle.session_workers.specs.declared.finished.Done.TheVariants.{Carried, Turned, Failed}
use Rattle.session_workers.specs.Passes.{items_of, finished_of, known_of, gave_of}
use Rattle.worker_pool.specs.declared.pass.PoolPass.{PoolPass}
use Rattle.worker_pool.specs.Pools.{HasParts, ends_of}
use Rattle.held_ports.specs.Around.{Around, Gives}
use Rattle.node_run.specs.Outs.{to_host}
use Rattle.pool_giving.specs.Hosts.{Hosted, KeepsTold, turn_outs}
use Rattle.pool_turns.specs.Turns.{Put}
use Rattle.pool_serving.specs.declared.desk.Desk.{Desk}

-- the host of a call, as its tunnel told it, while the call is live, and nobody before and after
abbrev pub host_by : Look → Option (List ℕ) → Option (List ℕ)
host_by Unborn told = None
host_by (Bound tunnel peer) told = told
host_by (Established tunnel peer) told = told
host_by Dead told = None

-- of a call that was seen so in the cells
abbrev pub host_of : Hosted → List Entry → ℕ → Option (List ℕ)
host_of h log session = host_by (look_after log session) (holder_of h.told session)

-- This goes to the ports; or nothing does, once something has stopped the pool, as want of memory for a frame to a subscriber does.
abbrev pub GivesOr : Bool → List Going → Around → Around → Type 0
GivesOr false outs old new = Gives outs old new
GivesOr true outs old new = Gives outs old new ⊎ Gives [] old new

-- A frame for the network goes to the uplink, in its call. One for the subscriber goes to the host that the call's tunnel told, as a
-- session frame, and nowhere where the call isn't live. Of an LCP packet what a turn gives goes to the ports.
abbrev pub HandsUp : Bool → Hosted → List Entry → ℕ → Side → List ℕ → Around → Around → Type 0
HandsUp stopped h log session Net frame old new = Gives (going.Up session frame ∷ []) old new
HandsUp stopped h log session Sub frame old new = GivesOr stopped (to_host h.number session frame (host_of h log session) ∷ []) old new
HandsUp stopped h log session Lcp frame old new = (outs : List Out) × Gives (turn_outs h outs) old new

-- Exactly the frame of a data message that goes up, and exactly what a turn gave, in order; nothing of what was dropped or refused.
abbrev pub HandsOn : Bool → Hosted → List Entry → List ℕ → Done → Around → Around → Type 0
HandsOn stopped h log bytes (Carried (Up session side start stop)) old new = HandsUp stopped h log session side (take (stop - start) (drop start bytes)) old new
HandsOn stopped h log bytes (Carried (Dropped why)) old new = Gives [] old new
HandsOn stopped h log bytes (Turned t) old new = Gives (turn_outs h t.outputs) old new
HandsOn stopped h log bytes (Failed error) old new = Gives [] old new

-- of an item that is finished, by hosts that were told and what the pass has seen of the cells, of a pool that stopped or didn't
abbrev pub HandsOver : Bool → Hosted → PoolPass → Finished → Around → Around → Type 0
HandsOver stopped h pass f old new = HandsOn stopped h (log_of pass.pass.seen) f.item.bytes f.done old new

-- ---- passes

-- neither queue was touched
abbrev pub IsStill : PoolPass → PoolPass → Type 0
IsStill old new = (items_of new.pass ≡ items_of old.pass) × (finished_of new.pass ≡ finished_of old.pass)

-- Each item that was worked or collected was counted, and each that was put; nothing was handed over. Whoever was told to be a call's
-- subscriber stays it.
pub record InStep {G : Type 0} (desk after : Desk G) (old new : PoolPass) : Type 0 where
  pub given : after.given + ends_of old ≡ desk.given + ends_of new
  pub puts : after.puts + length (known_of old.pass) ≡ desk.puts + length (known_of new.pass)
  pub gave : gave_of new.pass ≡ gave_of old.pass
  pub parts : HasParts old new
  pub told : KeepsTold desk.hosts after.hosts

-- what an item that was put holds
abbrev pub put_in : Numbered → Put
put_in x = record { peer = x.item.peer; bytes = x.item.bytes; now = x.item.now; block = x.item.block }

-- all that the pass put
abbrev pub puts_in : PoolPass → List Put
puts_in p = map put_in (known_of p.pass)
