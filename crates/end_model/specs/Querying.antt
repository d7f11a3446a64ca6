-- Which of its sessions the peer still has: an end asks for them after a reset, and is asked (RFC 4951 sections 4.3.3 and 5.4).
use Rattle.std.specs.Prelude.{ℕ, List, map, filter, Bool, false, ◌==◌, ◌&&◌, if◌then◌else◌, Option, Some, None, Result, Err}
use Rattle.id_table.specs.Ids.{at}
use Rattle.wire_base.specs.declared.pair.Pair.{Pair}
use Rattle.wire_base.specs.declared.letter.Letter.{Letter}
use Rattle.wire_base.specs.declared.why.Why.TheVariants as why
use Rattle.control_message.specs.declared.message.Message.TheVariants.{Fsq, Fsr}
use Rattle.tunnel_fsm.specs.declared.table.TunnelState.{TunnelState}
use Rattle.session_query.specs.Queries.{Asking, next_batch, with_batch, unanswered, told_in, answered, is_complete, answers_to}
use Rattle.end_model.specs.declared.tunnel.Call.{Call}
use Rattle.end_model.specs.declared.moves.Move.TheVariants as move
use Rattle.end_model.specs.Calls.{is_up, sessions_of}
use Rattle.end_model.specs.Channels.{next_place, taken_place, has_room}
use Rattle.end_model.specs.Moments.{is_open}
use Rattle.end_model.specs.Sending.{gives, takes_one, settles}
use Rattle.end_model.specs.Tunnels.{Turn, no_query}
use Rattle.end_model.specs.Turn.{with_move, drops, ends_all}

-- ---- what an end asks

-- these sessions are asked for
unfoldable pub queries : List Pair → Turn → Turn
queries pairs t =
    gives 0 (Fsq pairs)
    (with_move (move.Queried (record { tunnel = t.control.local; pairs = pairs; given = next_place t.control }))
    (record t { query = with_batch t.query (Some pairs) }))

unfoldable pub queries_by : Option (List Pair) → Turn → Turn
queries_by None t = t
queries_by (Some pairs) t = if has_room t.control then queries pairs t else drops why.Queue t

-- the next ones, where none is unanswered
unfoldable pub asks_more : Turn → Turn
asks_more t = queries_by (next_batch t.query) t

-- right behind a reset
unfoldable pub asks_next : List Letter → Turn → Turn
asks_next letters t = settles false letters (asks_more t)

-- ---- what it answers

unfoldable pub answered_query : List Pair → List Pair → Turn → Turn
answered_query pairs answers t =
    gives 0 (Fsr answers)
    (with_move (move.AnsweredQuery (record {
      tunnel = t.control.local;
      pairs = pairs;
      answers = answers;
      taken = taken_place t.control;
      given = next_place t.control;
    }))
    (takes_one t))

-- a session is here where a call of the tunnel is established with its two ids
unfoldable pub answers_query : List (ℕ × Call) → List Pair → Turn → Turn
answers_query calls pairs t =
    if has_room t.control then answered_query pairs (answers_to (sessions_of calls) pairs) t else drops why.Queue t

-- ---- what it is answered

-- what an answer tells, or where it isn't one to what was asked for; only an open tunnel has asked
abbrev pub told_at : TunnelState → Asking → List Pair → Result (List Pair) ℕ
told_at s q answers = if is_open s then told_in q answers else Err 0

-- the call that has the two ids of a session is established
abbrev pub has_remote : ℕ → Option Call → Bool
has_remote remote None = false
has_remote remote (Some c) = is_up c.state && c.remote == remote

abbrev pub stands : List (ℕ × Call) → Pair → Bool
stands calls p = has_remote p.receiver (at calls p.sender)

-- of sessions that the peer doesn't have those whose calls are still there, which end
unfoldable pub ended_of : List (ℕ × Call) → List Pair → List ℕ
ended_of calls gone = map (λ (p : Pair). p.sender) (filter (λ p. stands calls p) gone)

-- once all is answered nothing is kept of what was asked for, so that a step copies no more of it
abbrev pub unless_complete : Asking → Asking
unless_complete q = if is_complete q then no_query else q

-- the peer isn't told of their ends: it knows
unfoldable pub took_answer : List (ℕ × Call) → List Pair → List Pair → Turn → Turn
took_answer calls answers gone t =
    ends_all (ended_of calls gone)
    (with_move (move.TookAnswer (record {
      tunnel = t.control.local;
      pairs = unanswered t.query;
      answers = answers;
      ended = ended_of calls gone;
      taken = taken_place t.control;
    }))
    (takes_one (record t { query = unless_complete (answered t.query) })))

-- and the next sessions are asked for
unfoldable pub hears_answer : List (ℕ × Call) → List Pair → List Pair → Turn → Turn
hears_answer calls answers gone t = asks_more (took_answer calls answers gone t)
