-- What the steps of two nodes leave in their checkpoints, while the tunnels and calls of two LACs cross at one LNS.
use Rattle.std.specs.Prelude.{◌≡◌, ℕ, ◌+◌, ◌==◌, List, [], ◌∷◌, ◌++◌, map, filter, replicate, false, Option, Some, Result, Ok, Err}
use Rattle.id_table.specs.Ids.{at}
use Rattle.end_names.specs.Names.{address_of}
use Rattle.schedule_text.specs.declared.line.Line.{Line}
use Rattle.schedule_text.specs.declared.line.Line.TheVariants.{DropCall, Close}
use Rattle.session_book.specs.declared.record.Record.{Record}
use Rattle.session_book.specs.declared.record.Record.TheVariants.{Ceiling, TunnelUp, TunnelDown, CallUp, CallDown}
use Rattle.end_model.specs.declared.moves.Move.{Move}
use Rattle.end_model.specs.Contents.{contents_of}
use Rattle.world_model.specs.World.{World, Node, Deed, Lined, empty_world, line}
use Rattle.world_model.specs.declared.refusal.Refusal.{Refusal}
use Rattle.run_examples.specs.Crossing.{openings, calls}

-- the moves of a node
abbrev pub moves_at : ℕ → List Deed → List Move
moves_at n done = map (λ (d : Deed). d.move) (filter (λ (d : Deed). d.node == n) done)

-- what a line leaves at a node
abbrev pub left_at : ℕ → Option Node → Option Node → List Deed → List Record
left_at n (Some before) (Some after) done = contents_of before.end (record { end = after.end; outputs = []; moves = moves_at n done })
left_at n before after done = []

unfoldable pub left_on : (ℕ → World → List Record) → ℕ → ℕ → World → Result Lined Refusal → List Record
left_on rest n number w (Ok l) = left_at n (at w.nodes n) (at l.world.nodes n) l.done ++ rest (number + 1) l.world
left_on rest n number w (Err x) = []

-- what these lines leave at it
unfoldable pub left_from : ℕ → List Line → ℕ → World → List Record
left_from n [] number w = []
left_from n (l ∷ ls) number w = left_on (left_from n ls) n number w (line w number l)

abbrev pub left_by : ℕ → List Line → List Record
left_by n lines = left_from n lines 1 empty_world

-- a port that rings
abbrev pub port : ℕ → List ℕ
port k = 255 ∷ 255 ∷ 0 ∷ 0 ∷ 0 ∷ k ∷ []

-- a tunnel to a node that assigned this id, has a window of 8 and can recover its channels
abbrev pub tunnel_up : ℕ → ℕ → ℕ → Record
tunnel_up local node remote = TunnelUp (record { local = local; remote = remote; peer = address_of node; window = 8; flags = 3; mark = 0 })

abbrev pub call_up : ℕ → ℕ → ℕ → List ℕ → Record
call_up local tunnel remote who = CallUp (record { local = local; tunnel = tunnel; remote = remote; subscriber = who; sequenced = false })

-- Node 9 opens the first tunnel, rings twice, and drops its second call, before its tunnel is closed. The LNS, node 4, has its second
-- tunnel from node 6, of whose calls none is established there yet: it drops the first call of node 9.
abbrev pub ending : List Line
ending = DropCall 9 2 ∷ DropCall 4 1 ∷ DropCall 4 3 ∷ Close 9 1 ∷ Close 4 2 ∷ []

pub record StepsLeaveRecords : Type 0 where
  pub lac : left_by 9 (openings ++ calls ++ ending) ≡
      Ceiling 1 64 ∷ tunnel_up 1 4 1
      ∷ Ceiling 2 64 ∷ call_up 1 1 1 (port 70) ∷ call_up 2 1 2 (port 71)
      ∷ CallDown 2 ∷ TunnelDown 1
      ∷ []
  pub lns : left_by 4 (openings ++ calls ++ ending) ≡
      Ceiling 1 64 ∷ tunnel_up 1 9 1
      ∷ Ceiling 2 64 ∷ call_up 1 1 1 (replicate 6 0) ∷ call_up 2 1 2 (replicate 6 0)
      ∷ tunnel_up 2 6 1
      ∷ CallDown 1 ∷ TunnelDown 2
      ∷ []
