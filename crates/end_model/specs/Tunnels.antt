-- A tunnel, what a step works in, and a tunnel in a step.
use Rattle.std.specs.Prelude.{ℕ, List, [], Bool, true, false, if◌then◌else◌, Option, Some, None, is_some}
use Rattle.id_source.specs.Spaces.{Space}
use Rattle.wire_base.specs.declared.letter.Letter.{Letter}
use Rattle.end_model.specs.declared.tunnel.Call.{Call}
use Rattle.session_looks.specs.declared.look.CellChange.{CellChange}
use Rattle.end_model.specs.declared.tunnel.Control.{Control}
use Rattle.end_model.specs.declared.tunnel.Mode.{Mode}
use Rattle.end_model.specs.declared.tunnel.Mode.TheVariants.{Current, Frozen, Restored}
pub use Rattle.recovery_tunnel.specs.declared.either.Recovering.{Recovering}
pub use Rattle.recovery_tunnel.specs.declared.either.Recovering.TheVariants.{ByAttempt, ByAnswer}
pub use Rattle.recovery_tunnel.specs.Either.{connection_of, with_connection}
pub use Rattle.session_query.specs.Queries.{Asking}
use Rattle.session_query.specs.Queries.{new_query}
use Rattle.end_model.specs.declared.out.Out.{Out}
use Rattle.end_model.specs.declared.moves.Move.{Move}

-- it told to reset its tunnel
abbrev pub is_finished : Recovering → Bool
is_finished r = is_some (connection_of r).reset

-- a tunnel is restored as long as its attempt hasn't reset it, and frozen as long as its answer hasn't
abbrev pub mode_by : Recovering → Mode
mode_by (ByAttempt c) = Restored
mode_by (ByAnswer a) = Frozen

abbrev pub mode_of : Option Recovering → Mode
mode_of None = Current
mode_of (Some r) = if is_finished r then Current else mode_by r

abbrev pub is_current : Mode → Bool
is_current Current = true
is_current m = false

-- a tunnel that asks for no session: it wasn't reset since it was made, or kept over a start
abbrev pub no_query : Asking
no_query = new_query []

pub record Tunnel : Type 0 where
  pub control : Control
  -- the letters that it gave to its channel, from the first that isn't acknowledged on
  pub letters : List Letter
  -- its calls, by session id
  pub calls : List (ℕ × Call)
  -- its recovery tunnel, as long as there is one
  pub recovery : Option Recovering
  -- the sessions that it asks for since its last reset
  pub query : Asking

-- a tunnel that is new: nothing was given to its channel, it has no calls, nobody recovers it, and it asks for no session
abbrev pub new_tunnel : Control → Tunnel
new_tunnel c = record { control = c; letters = []; calls = []; recovery = None; query = no_query }

-- what a step stands on, which nothing in it changes: its moment, in milliseconds, its 16 random bytes, and the mode that its tunnel had
-- before
pub record Ground : Type 0 where
  pub moment : ℕ
  pub block : List ℕ
  pub mode : Mode

-- where a step takes_id tunnel ids, session ids and the numbers of recoveries from
pub record Drawing : Type 0 where
  pub tunnels : Space
  pub sessions : Space
  pub recoveries : Space

-- what a step works in
pub record Env : Type 0 where
  pub on : Ground
  pub ids : Drawing
  pub outputs : List Out
  -- what changes in the looks
  pub changes : List CellChange
  pub moves : List Move

-- a tunnel in a step, with what the step gave so far
pub record Turn : Type 0 where
  pub on : Ground
  pub ids : Drawing
  pub control : Control
  pub query : Asking
  -- the letters that the step gave to the channel, in order
  pub given : List Letter
  -- how many of the tunnel's letters the step's Nr acknowledged
  pub acked : ℕ
  -- whether the step took a letter of the peer, and whether it removed the tunnel
  pub took : Bool
  pub cleared : Bool
  -- the calls that the step made, changed or ended, with their sessions, in order; one that it ended isn't there any more
  pub changed : List (ℕ × Option Call)
  -- the sessions of the calls that it made
  pub added : List ℕ
  pub outputs : List Out
  pub changes : List CellChange
  pub moves : List Move

abbrev pub turn_of : Control → Env → Turn
turn_of c e = record {
  on = e.on;
  ids = e.ids;
  control = c;
  query = no_query;
  given = [];
  acked = 0;
  took = false;
  cleared = false;
  changed = [];
  added = [];
  outputs = [];
  changes = [];
  moves = [];
}

-- of a tunnel that is there
abbrev pub turn_in : Tunnel → Env → Turn
turn_in t e = record (turn_of t.control (record e { on = record e.on { mode = mode_of t.recovery } })) { query = t.query }
