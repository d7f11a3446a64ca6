-- What each move needs before it, and what it changes, of those that ask which sessions the peer still has, and that answer.
use Rattle.std.specs.Prelude.{◌≡◌, ℕ, ◌+◌, ◌<◌, ◌≤◌, true, List, [], ◌∷◌, length, map, Some, Ok}
use Rattle.std.specs.List.{AllByRecursion}
use Rattle.id_table.specs.Ids.{at, without}
use Rattle.wire_base.specs.declared.pair.Pair.{Pair}
use Rattle.control_message.specs.declared.message.Message.TheVariants.{Fsq, Fsr}
use Rattle.tunnel_fsm.specs.Rows.{state_number}
use Rattle.session_looks.specs.declared.look.CellChange.TheVariants as cell
use Rattle.session_query.specs.Queries.{Asking, next_batch, with_batch, unanswered, told_in, answered, answers_to}
use Rattle.end_model.specs.declared.event.Event.{Event}
use Rattle.end_model.specs.declared.tunnel.Call.{Call}
use Rattle.end_model.specs.declared.moves.Queried.{Queried}
use Rattle.end_model.specs.declared.moves.AnsweredQuery.{AnsweredQuery}
use Rattle.end_model.specs.declared.moves.TookAnswer.{TookAnswer}
use Rattle.end_model.specs.Calls.{is_up, sessions_of}
use Rattle.end_model.specs.Channels.{next_place, counts_taken}
use Rattle.end_model.specs.End.{End, with_looks}
use Rattle.end_model.specs.Querying.{ended_of, unless_complete}
use Rattle.end_model.specs.Reading.{message_in}
use Rattle.end_model.specs.Tunnels.{Tunnel, mode_of, is_current}
use Rattle.step_laws.specs.Arrivals.{Came}
use Rattle.step_laws.specs.Openings.{has_room, Taking, with_tunnel, with_letter}

-- sessions that stand by rising ids, so each once
abbrev pub AreAbove : ℕ → List Pair → Type 0
AreAbove s ps = AllByRecursion (λ (p : Pair). s < p.sender) ps

abbrev pub Rise : List Pair → Type 0
Rise [] = Unit {0}
Rise (p ∷ ps) = AreAbove p.sender ps × Rise ps

-- what a tunnel asks for: sessions by rising ids, and of no more than there are
pub record IsQuery (q : Asking) : Type 0 where
  pub rising : Rise q.pairs
  pub asked : q.done + q.asked ≤ length q.pairs

-- an open tunnel that was reset asks for the next of its sessions
pub record Questions (e : End) (m : Queried) (x : End) : Type 0 where
  pub tunnel : Tunnel
  pub there : at e.tunnels m.tunnel ≡ Some tunnel
  pub current : is_current (mode_of tunnel.recovery) ≡ true
  pub open_is : state_number tunnel.control.state ≡ 3
  pub pairs : next_batch tunnel.query ≡ Some m.pairs
  pub room : has_room tunnel.control ≡ true
  pub given : m.given ≡ next_place tunnel.control
  pub after : x ≡ with_tunnel e m.tunnel (with_letter 0 (Fsq m.pairs) (record tunnel { query = with_batch tunnel.query (Some m.pairs) }))

-- the peer asks, and is answered by the calls that are established
pub record AnswersQuestion (e : End) (ev : Event) (m : AnsweredQuery) (x : End) : Type 0 where
  pub tunnel : Tunnel
  pub there : at e.tunnels m.tunnel ≡ Some tunnel
  pub current : is_current (mode_of tunnel.recovery) ≡ true
  pub open_is : state_number tunnel.control.state ≡ 3
  pub letter : Came
  pub takes : Taking ev tunnel letter m.taken
  pub said : message_in letter.body ≡ Ok (Fsq m.pairs)
  pub answers : m.answers ≡ answers_to (sessions_of tunnel.calls) m.pairs
  pub room : has_room tunnel.control ≡ true
  pub given : m.given ≡ next_place tunnel.control
  pub after : x ≡ with_tunnel e m.tunnel (with_letter 0 (Fsr m.answers) (record tunnel { control = counts_taken tunnel.control }))

-- these calls aren't there any more
abbrev pub without_each : List ℕ → List (ℕ × Call) → List (ℕ × Call)
without_each [] calls = calls
without_each (s ∷ ss) calls = without_each ss (without calls s)

-- each of these calls is established, once those before it have ended
abbrev pub AreUpInTurn : List ℕ → List (ℕ × Call) → Type 0
AreUpInTurn [] calls = Unit {0}
AreUpInTurn (s ∷ ss) calls = (c : Call) × (at calls s ≡ Some c) × (is_up c.state ≡ true) × AreUpInTurn ss (without calls s)

-- the peer answers what is asked for; calls that it doesn't have end
pub record HearsAnswer (e : End) (ev : Event) (m : TookAnswer) (x : End) : Type 0 where
  pub tunnel : Tunnel
  pub there : at e.tunnels m.tunnel ≡ Some tunnel
  pub current : is_current (mode_of tunnel.recovery) ≡ true
  pub open_is : state_number tunnel.control.state ≡ 3
  pub letter : Came
  pub takes : Taking ev tunnel letter m.taken
  pub said : message_in letter.body ≡ Ok (Fsr m.answers)
  pub asks : IsQuery tunnel.query
  pub gone : List Pair
  pub told : told_in tunnel.query m.answers ≡ Ok gone
  pub pairs : m.pairs ≡ unanswered tunnel.query
  pub ended : m.ended ≡ ended_of tunnel.calls gone
  pub up : AreUpInTurn m.ended tunnel.calls
  pub after : x ≡ record (with_tunnel e m.tunnel (record tunnel {
    control = counts_taken tunnel.control;
    calls = without_each m.ended tunnel.calls;
    query = unless_complete (answered tunnel.query);
  })) { calls = with_looks (map cell.Kill m.ended) e.calls }
