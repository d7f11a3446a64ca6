-- Each move of a step is a move of the abstract machine, or none.
use Rattle.end_model.specs.declared.moves.Move.TheVariants as move
use Rattle.session_laws.proofs.Keeps.{Laws, MovesFollow}
use Rattle.session_laws.proofs.Quiet.{quiet_follows, frame_sent_follows, frame_up_follows, nr_read_follows, let_go_follows, repeated_follows}
use Rattle.session_laws.proofs.Opening.{opened_follows}
use Rattle.session_laws.proofs.Accepting.{accepted_follows}
use Rattle.session_laws.proofs.Connecting.{connected_follows}
use Rattle.session_laws.proofs.Confirming.{confirmed_follows}
use Rattle.session_laws.proofs.Greeting.{greeted_follows}
use Rattle.session_laws.proofs.Clearing.{cleared_follows}
use Rattle.session_laws.proofs.Plain.{took_plain_follows}
use Rattle.session_laws.proofs.Adding.{added_follows}
use Rattle.session_laws.proofs.Requesting.{requested_follows}
use Rattle.session_laws.proofs.EndingTold.{end_told_follows}
use Rattle.session_laws.proofs.EndingSilent.{end_silent_follows}
use Rattle.session_laws.proofs.Replying.{replied_follows}
use Rattle.session_laws.proofs.Refusing.{refused_follows}
use Rattle.session_laws.proofs.FirstUp.{first_up_follows}
use Rattle.session_laws.proofs.SecondUp.{second_up_follows}
use Rattle.session_laws.proofs.Negotiated.{counted_follows, negotiated_follows}
use Rattle.session_laws.proofs.EndHeard.{end_heard_follows}
use Rattle.session_laws.proofs.Declining.{declined_follows}
use Rattle.session_laws.proofs.Closing.{closed_follows}
use Rattle.session_laws.proofs.Rejecting.{rejected_follows}
use Rattle.session_laws.proofs.StopHeard.{closed_by_follows}

pub moves_follow : Laws → MovesFollow
moves_follow laws accs ends w n e x sender moment ev (move.Opened m) d h = opened_follows laws accs ends w n e x sender moment ev m d h
moves_follow laws accs ends w n e x sender moment ev (move.Accepted m) d h = accepted_follows laws accs ends w n e x sender moment ev m d h
moves_follow laws accs ends w n e x sender moment ev (move.Connected m) d h = connected_follows laws accs ends w n e x sender moment ev m d h
moves_follow laws accs ends w n e x sender moment ev (move.Confirmed m) d h = confirmed_follows laws accs ends w n e x sender moment ev m d h
moves_follow laws accs ends w n e x sender moment ev (move.Added m) d h = added_follows laws accs ends w n e x sender moment ev m d h
moves_follow laws accs ends w n e x sender moment ev (move.Requested m) d h = requested_follows laws accs ends w n e x sender moment ev m d h
moves_follow laws accs ends w n e x sender moment ev (move.Replied m) d h = replied_follows laws accs ends w n e x sender moment ev m d h
moves_follow laws accs ends w n e x sender moment ev (move.Refused m) d h = refused_follows laws accs ends w n e x sender moment ev m d h
moves_follow laws accs ends w n e x sender moment ev (move.FirstUp m) d h = first_up_follows laws accs ends w n e x sender moment ev m d h
moves_follow laws accs ends w n e x sender moment ev (move.SecondUp m) d h = second_up_follows laws accs ends w n e x sender moment ev m d h
moves_follow laws accs ends w n e x sender moment ev (move.EndTold m) d h = end_told_follows laws accs ends w n e x sender moment ev m d h
moves_follow laws accs ends w n e x sender moment ev (move.EndHeard m) d h = end_heard_follows laws accs ends w n e x sender moment ev m d h
moves_follow laws accs ends w n e x sender moment ev (move.EndSilent m) d h = end_silent_follows laws accs ends w n e x sender moment ev m d h
moves_follow laws accs ends w n e x sender moment ev (move.Declined m) d h = declined_follows laws accs ends w n e x sender moment ev m d h
moves_follow laws accs ends w n e x sender moment ev (move.Closed m) d h = closed_follows laws accs ends w n e x sender moment ev m d h
moves_follow laws accs ends w n e x sender moment ev (move.Rejected m) d h = rejected_follows laws accs ends w n e x sender moment ev m d h
moves_follow laws accs ends w n e x sender moment ev (move.ClosedBy m) d h = closed_by_follows laws accs ends w n e x sender moment ev m d h
moves_follow laws accs ends w n e x sender moment ev (move.Cleared i booked) d h = cleared_follows laws accs ends w n e x sender moment ev i booked d h
moves_follow laws accs ends w n e x sender moment ev (move.Greeted m) d h = greeted_follows laws accs ends w n e x sender moment ev m d h
moves_follow laws accs ends w n e x sender moment ev (move.TookPlain m) d h = took_plain_follows laws accs ends w n e x sender moment ev m d h
moves_follow laws accs ends w n e x sender moment ev (move.NrRead m) d h = nr_read_follows laws accs ends w n e x sender moment ev m d h
moves_follow laws accs ends w n e x sender moment ev (move.LetGo m) d h = let_go_follows laws accs ends w n e x sender moment ev m d h
moves_follow laws accs ends w n e x sender moment ev (move.Repeated m) d h = repeated_follows laws accs ends w n e x sender moment ev m d h
moves_follow laws accs ends w n e x sender moment ev (move.Quiet i) d h = quiet_follows laws accs ends w n e x sender moment ev i d h
moves_follow laws accs ends w n e x sender moment ev (move.Negotiated m) d h = negotiated_follows accs ends w n e x sender moment ev m d h
moves_follow laws accs ends w n e x sender moment ev (move.Counted m) d h = counted_follows accs ends w n e x sender moment ev m d h
moves_follow laws accs ends w n e x sender moment ev (move.FrameSent m) d h = frame_sent_follows laws accs ends w n e x sender moment ev m d h
moves_follow laws accs ends w n e x sender moment ev (move.FrameUp m) d h = frame_up_follows laws accs ends w n e x sender moment ev m d h
moves_follow laws accs ends w n e x sender moment ev m d h = absurd h.moved.main
