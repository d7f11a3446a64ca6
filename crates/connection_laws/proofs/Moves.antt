-- Each move of a step keeps what holds between two of them.
use Rattle.recv_window.specs.Window.{ClassIsTrue}
use Rattle.end_model.specs.declared.moves.Move.TheVariants as move
use Rattle.frame_laws.specs.Codecs.{Codecs}
use Rattle.connection_laws.proofs.Keeps.{MovesKeep}
use Rattle.connection_laws.proofs.Beginning.{opened_keeps}
use Rattle.connection_laws.proofs.Giving.{requested_keeps, end_told_keeps, greeted_keeps, added_keeps, end_silent_keeps, cleared_keeps, let_go_keeps, repeated_keeps, quiet_keeps, counted_keeps, negotiated_keeps, frame_sent_keeps, frame_up_keeps}
use Rattle.connection_laws.proofs.Accepting.{accepted_keeps}
use Rattle.connection_laws.proofs.Connecting.{connected_keeps}
use Rattle.connection_laws.proofs.PairMoves.{confirmed_keeps, replied_keeps, first_up_keeps, second_up_keeps, end_heard_keeps}
use Rattle.connection_laws.proofs.Plainly.{plain_keeps, closed_by_keeps}
use Rattle.connection_laws.proofs.Closing.{closed_keeps}
use Rattle.connection_laws.proofs.Rejecting.{rejected_keeps}
use Rattle.connection_laws.proofs.Refusing.{refused_keeps}
use Rattle.connection_laws.proofs.Declining.{declined_keeps}
use Rattle.connection_laws.proofs.Acknowledging.{read_keeps}

pub moves_keep : Codecs → ClassIsTrue → MovesKeep
moves_keep codecs classes accs n e x sender moment ev (move.Opened m) d h = opened_keeps accs n e x sender moment ev m d h
moves_keep codecs classes accs n e x sender moment ev (move.Accepted m) d h = accepted_keeps codecs accs n e x sender moment ev d m h
moves_keep codecs classes accs n e x sender moment ev (move.Connected m) d h = connected_keeps codecs classes accs n e x sender moment ev d m h
moves_keep codecs classes accs n e x sender moment ev (move.Confirmed m) d h = confirmed_keeps codecs classes accs n e x sender moment ev d m h
moves_keep codecs classes accs n e x sender moment ev (move.Added m) d h = added_keeps accs n e x sender moment ev m d h
moves_keep codecs classes accs n e x sender moment ev (move.Requested m) d h = requested_keeps codecs.digits accs n e x sender moment ev m d h
moves_keep codecs classes accs n e x sender moment ev (move.Replied m) d h = replied_keeps codecs classes accs n e x sender moment ev d m h
moves_keep codecs classes accs n e x sender moment ev (move.FirstUp m) d h = first_up_keeps codecs classes accs n e x sender moment ev d m h
moves_keep codecs classes accs n e x sender moment ev (move.SecondUp m) d h = second_up_keeps codecs classes accs n e x sender moment ev d m h
moves_keep codecs classes accs n e x sender moment ev (move.Refused m) d h = refused_keeps codecs classes accs n e x sender moment ev d m h
moves_keep codecs classes accs n e x sender moment ev (move.EndTold m) d h = end_told_keeps accs n e x sender moment ev m d h
moves_keep codecs classes accs n e x sender moment ev (move.EndHeard m) d h = end_heard_keeps codecs classes accs n e x sender moment ev d m h
moves_keep codecs classes accs n e x sender moment ev (move.EndSilent m) d h = end_silent_keeps accs n e x sender moment ev m d h
moves_keep codecs classes accs n e x sender moment ev (move.Declined m) d h = declined_keeps codecs accs n e x sender moment ev d m h
moves_keep codecs classes accs n e x sender moment ev (move.Closed m) d h = closed_keeps codecs accs n e x sender moment ev d m h
moves_keep codecs classes accs n e x sender moment ev (move.Rejected m) d h = rejected_keeps codecs classes accs n e x sender moment ev d m h
moves_keep codecs classes accs n e x sender moment ev (move.ClosedBy m) d h = closed_by_keeps codecs classes accs n e x sender moment ev d m h
moves_keep codecs classes accs n e x sender moment ev (move.Cleared i booked) d h = cleared_keeps accs n e x sender moment ev i booked d h
moves_keep codecs classes accs n e x sender moment ev (move.Greeted m) d h = greeted_keeps accs n e x sender moment ev m d h
moves_keep codecs classes accs n e x sender moment ev (move.TookPlain m) d h = plain_keeps codecs classes accs n e x sender moment ev d m h
moves_keep codecs classes accs n e x sender moment ev (move.NrRead m) d h = read_keeps codecs classes accs n e x sender moment ev m d h
moves_keep codecs classes accs n e x sender moment ev (move.LetGo m) d h = let_go_keeps accs n e x sender moment ev m d h
moves_keep codecs classes accs n e x sender moment ev (move.Repeated m) d h = repeated_keeps accs n e x sender moment ev m d h
moves_keep codecs classes accs n e x sender moment ev (move.Quiet i) d h = quiet_keeps accs n e x sender moment ev i d h
moves_keep codecs classes accs n e x sender moment ev (move.Negotiated m) d h = negotiated_keeps accs n e x sender moment ev m d h
moves_keep codecs classes accs n e x sender moment ev (move.Counted m) d h = counted_keeps accs n e x sender moment ev m d h
moves_keep codecs classes accs n e x sender moment ev (move.FrameSent m) d h = frame_sent_keeps accs n e x sender moment ev m d h
moves_keep codecs classes accs n e x sender moment ev (move.FrameUp m) d h = frame_up_keeps accs n e x sender moment ev m d h
moves_keep codecs classes accs n e x sender moment ev m d h = absurd h.main
