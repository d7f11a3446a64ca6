-- A step of an end that is several moves of its node, and the step that is cut after a prefix of its records.
use Rattle.std.specs.Prelude.{◌≡◌, ℕ, Bool, true, false, List, [], ◌∷◌, ◌++◌}
use Rattle.epoch_machine.specs.Letters.{Letter, Sccrp, Scccn, Reply, Connect}
use Rattle.epoch_machine.specs.Channels.{Stands}
use Rattle.epoch_machine.specs.Worlds.{World, all_rules}
use Rattle.epoch_machine.specs.Moves.{Move, Delivers, Restores, Stops, Starts, Kept, falls, step, goes_on, after}
use Rattle.stop_laws.specs.Records.{node_of, records_of, writes, each_allowed, SameBook}
use Rattle.stop_laws.specs.Stops.{IsReached, AllHolds}

-- the records of a list of moves: those of each move, in order, each on the world that the moves before it lead to
unfoldable pub records_along : World → List Move → List Kept
records_along w [] = []
records_along w (m ∷ ms) = records_of w m ++ records_along (step all_rules w m) ms

-- a crash, or one of the moves that follow it
abbrev pub is_outage : Move → Bool
is_outage (Stops n ks) = true
is_outage (Starts n) = true
is_outage (Restores x a) = true
is_outage m = false

-- a tunnel, or a call, may come up by this letter
abbrev pub establishes : Letter → Bool
establishes Sccrp = true
establishes Scccn = true
establishes (Reply own z) = true
establishes (Connect z) = true
establishes l = false

-- in world v, to which the moves before it lead, this is a move of a step that the node began in world w.
-- `node`: a stop is of one node, and keeps that node's records only.
-- `no_outage`: a call that is restored within the step and then ends doesn't live in w, so w doesn't allow the record that
-- it's down; a node that is down in w clears no tunnel of its book there; and a crash within the step ends the step.
-- `stood`: w allows the record that a tunnel or a call is up only where the letter behind it stands in w. Without this a
-- node that has a tunnel to itself may give such a letter and take it within one step. What ends by a letter needs no such
-- premise, and none is needed on names: what is made within the step comes up only by a letter to it, which is put after it.
-- A step of an end is meant to be so: it's one node's; a crash, a start and a restoring are steps of their own; and what it
-- hears in a step was sent before, since the letters of a step leave the end when all records of the step are written.
pub record InStep (w : World) (n : ℕ) (v : World) (m : Move) : Type 0 where
  pub node : node_of v m ≡ n
  pub no_outage : is_outage m ≡ false
  pub stood : (x s e k z : ℕ) (l : Letter) → m ≡ Delivers x s e k z → establishes l ≡ true → Stands v.channels s e k l → Stands w.channels s e k l

-- each of these moves, one after the other from world v, is one of the step
abbrev pub AllInStep : World → ℕ → World → List Move → Type 0
AllInStep w n v [] = Unit {0}
AllInStep w n v (m ∷ ms) = InStep w n v m × AllInStep w n (step all_rules v m) ms

-- of a step of this node these records were written, and then the node went down; no letter of the step was put
abbrev pub cut_step : World → ℕ → List Kept → World
cut_step w n ks = falls (writes w ks) n

-- a step that the node begins after a list of moves, with a prefix of its records
pub record CutAt (ms : List Move) (n : ℕ) (js : List Move) (ks rest : List Kept) : Type 0 where
  pub one_step : AllInStep (after all_rules ms) n (after all_rules ms) js
  pub prefix : ks ++ rest ≡ records_along (after all_rules ms) js

-- over every list of moves from the empty world, and every step after it
pub record StopsAmidLists : Type 0 where
  -- the step's records make of the book what its moves make of it
  pub same_book : (ms : List Move) (n : ℕ) (js : List Move) → AllInStep (after all_rules ms) n (after all_rules ms) js → SameBook (writes (after all_rules ms) (records_along (after all_rules ms) js)) (goes_on all_rules (after all_rules ms) js)
  -- each prefix of them may be kept in the world before the step, and the step that is cut there is a stop in that world
  pub allowed : (ms : List Move) (n : ℕ) (js : List Move) (ks rest : List Kept) → CutAt ms n js ks rest → each_allowed (after all_rules ms) n ks ≡ true
  pub is_stop : (ms : List Move) (n : ℕ) (js : List Move) (ks rest : List Kept) → CutAt ms n js ks rest → step all_rules (after all_rules ms) (Stops n ks) ≡ cut_step (after all_rules ms) n ks
  -- so it's where a list of moves leads, and keeps all
  pub is_reached : (ms : List Move) (n : ℕ) (js : List Move) (ks rest : List Kept) → CutAt ms n js ks rest → IsReached (cut_step (after all_rules ms) n ks)
  pub keeps_all : (ms : List Move) (n : ℕ) (js : List Move) (ks rest : List Kept) → CutAt ms n js ks rest → AllHolds (cut_step (after all_rules ms) n ks)
