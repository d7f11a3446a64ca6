-- What each move leaves, of a step or of a start.
use Rattle.std.proofs.Common.{◌≡◌, ℕ, ◌≤◌, Bool, true, List, length}
use Rattle.std.specs.List.{AllByRecursion}
use Rattle.end_model.specs.declared.event.Event.{Event}
use Rattle.end_model.specs.declared.moves.Move.{Move}
use Rattle.end_model.specs.declared.moves.Move.TheVariants as move
use Rattle.end_names.specs.Names.{calling_number}
use Rattle.end_model.specs.End.{End}
use Rattle.world_model.specs.World.{World, Node, moved}
use Rattle.step_laws.specs.Moves.{Does}
use Rattle.step_laws.specs.Steps.{IsOfNoStart}
use Rattle.frame_laws.specs.Unrecovered.{NoneRecovers, IsMain}
use Rattle.frame_laws.proofs.Facts.{Nodes, Grows, all_map}
use Rattle.frame_laws.proofs.Leads.{Heard, At}
use Rattle.frame_laws.proofs.Moves.{Led, led_same, accepted_led, added_led, cleared_led, closed_by_led, closed_led, confirmed_led, connected_led, counted_led, first_led, greeted_led, heard_led, let_go_led, negotiated_led, opened_led, plain_led, read_led, refused_led, rejected_led, repeated_led, replied_led, requested_led, second_led, silent_led, told_led}
use Rattle.frame_laws.proofs.RecoveryMoves.{IsFounded, founded_later, froze_led, reset_attempting_led, reset_answering_led, queried_led, answered_query_led, took_answer_led, went_on_led, recovery_ended_led, ignored_led, restored_led}

-- a tunnel that comes back is founded in a book
abbrev pub Founded : Nodes → ℕ → ℕ → ℕ → Move → Type 0
Founded ns n tunnels sessions (move.Restored m) = IsFounded ns n tunnels sessions m
Founded ns n tunnels sessions m = Unit {0}

one_later : (ns ms : Nodes) → Grows ns ms → (n tunnels more sessions longer : ℕ) → tunnels ≤ more → sessions ≤ longer → (m : Move)
    → Founded ns n tunnels sessions m → Founded ms n more longer m
one_later ns ms g n tunnels more sessions longer le lt (move.Restored m) h = founded_later ns ms g n tunnels more sessions longer m le lt h
one_later ns ms g n tunnels more sessions longer le lt m h = tt

pub all_later : (ns ms : Nodes) → Grows ns ms → (n tunnels more sessions longer : ℕ) → tunnels ≤ more → sessions ≤ longer
    → (moves : List Move)
    → AllByRecursion (Founded ns n tunnels sessions) moves → AllByRecursion (Founded ms n more longer) moves
all_later ns ms g n tunnels more sessions longer le lt moves h =
    all_map (Founded ns n tunnels sessions) (Founded ms n more longer)
    (λ m k. one_later ns ms g n tunnels more sessions longer le lt m k) moves h

-- so is each move of a step
pub of_no_start : (ns : Nodes) (n tunnels sessions : ℕ) (m : Move) → IsOfNoStart m → Founded ns n tunnels sessions m
of_no_start ns n tunnels sessions (move.Restored m) h = absurd h
of_no_start ns n tunnels sessions m h = tt

module _ (calm : Bool) (digits : (who : List ℕ) → length (calling_number who) ≡ 12) (n : ℕ) (z : Node) (v : World) (x : End)
    (here : At calm n z v x) (ev : Event) (heard : Heard calm v.nodes n ev) where
  -- where nothing is recovered, no tunnel has a recovery tunnel
  pub none_recovers : calm ≡ true → NoneRecovers x
  none_recovers still i t there = let ok = here.end.tunnels i t there in (ok.recovery still, ok.query still)

  pub does_led : (moment : ℕ) (m : Move) → (calm ≡ true → IsMain m) → Founded v.nodes n x.tunnel_ids.next x.session_ids.next m → (y : End)
      → Does x moment ev m y → Led calm digits n z v x here ev heard (moved n v m) y
  unfolding moved
  does_led moment (move.Opened m) main founded y h = opened_led calm digits n z v x here ev heard moment m y h
  does_led moment (move.Accepted m) main founded y h = accepted_led calm digits n z v x here ev heard moment m y h
  does_led moment (move.Connected m) main founded y h = connected_led calm digits n z v x here ev heard m y h
  does_led moment (move.Confirmed m) main founded y h = confirmed_led calm digits n z v x here ev heard m y h
  does_led moment (move.Added m) main founded y h = added_led calm digits n z v x here ev heard moment m y h
  does_led moment (move.Requested m) main founded y h = requested_led calm digits n z v x here ev heard moment m y h
  does_led moment (move.Replied m) main founded y h = replied_led calm digits n z v x here ev heard moment m y h
  does_led moment (move.FirstUp m) main founded y h = first_led calm digits n z v x here ev heard moment m y h
  does_led moment (move.SecondUp m) main founded y h = second_led calm digits n z v x here ev heard moment m y h
  does_led moment (move.Refused m) main founded y h = refused_led calm digits n z v x here ev heard m y h
  does_led moment (move.EndTold m) main founded y h = told_led calm digits n z v x here ev heard moment m y h
  does_led moment (move.EndHeard m) main founded y h = heard_led calm digits n z v x here ev heard m y h
  does_led moment (move.EndSilent m) main founded y h = silent_led calm digits n z v x here ev heard moment m y h
  does_led moment (move.Declined m) main founded y h = led_same calm digits n z v x here ev heard y h.after
  does_led moment (move.Closed m) main founded y h = closed_led calm digits n z v x here ev heard moment m y h
  does_led moment (move.Rejected m) main founded y h = rejected_led calm digits n z v x here ev heard moment m y h
  does_led moment (move.ClosedBy m) main founded y h = closed_by_led calm digits n z v x here ev heard moment m y h
  does_led moment (move.Cleared i booked) main founded y h = cleared_led calm digits n z v x here ev heard moment i booked y h
  does_led moment (move.Greeted m) main founded y h = greeted_led calm digits n z v x here ev heard moment m y h
  does_led moment (move.TookPlain m) main founded y h = plain_led calm digits n z v x here ev heard m y h
  does_led moment (move.NrRead m) main founded y h = read_led calm digits n z v x here ev heard moment m y h
  does_led moment (move.LetGo m) main founded y h = let_go_led calm digits n z v x here ev heard moment m y h
  does_led moment (move.Repeated m) main founded y h = repeated_led calm digits n z v x here ev heard moment m y h
  does_led moment (move.Quiet i) main founded y h = led_same calm digits n z v x here ev heard y h.after
  does_led moment (move.Negotiated m) main founded y h = negotiated_led calm digits n z v x here ev heard moment m y h
  does_led moment (move.Counted m) main founded y h = counted_led calm digits n z v x here ev heard moment m y h
  does_led moment (move.FrameSent m) main founded y h = led_same calm digits n z v x here ev heard y h.after
  does_led moment (move.FrameUp m) main founded y h = led_same calm digits n z v x here ev heard y h.after
  does_led moment (move.Froze m) main founded y h = froze_led calm digits n z v x here ev heard main m y h
  does_led moment (move.ResetAttempting m) main founded y h = reset_attempting_led calm digits n z v x here ev heard main moment m y h
  does_led moment (move.ResetAnswering m) main founded y h = reset_answering_led calm digits n z v x here ev heard main moment m y h
  does_led moment (move.Queried m) main founded y h = queried_led calm digits n z v x here ev heard main m y h
  does_led moment (move.AnsweredQuery m) main founded y h = answered_query_led calm digits n z v x here ev heard main m y h
  does_led moment (move.TookAnswer m) main founded y h = took_answer_led calm digits n z v x here ev heard main m y h
  does_led moment (move.RecoveryWentOn i) main founded y h = went_on_led calm digits n z v x here ev heard main i y h
  does_led moment (move.RecoveryEnded i) main founded y h = recovery_ended_led calm digits n z v x here ev heard main i y h
  does_led moment (move.Ignored i) main founded y h = ignored_led calm digits n z v x here ev heard main moment i y h
  does_led moment (move.Restored m) main founded y h = restored_led calm digits n z v x here ev heard main moment m y founded h
  does_led moment (move.Forgot m) main founded y h = led_same calm digits n z v x here ev heard y h.after
