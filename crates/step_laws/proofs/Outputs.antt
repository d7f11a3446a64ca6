-- What a move sends is in an output, and stays so among more outputs.
use Rattle.std.proofs.Common.{List, ◌++◌}
use Rattle.std.specs.List.{AllByRecursion}
use Rattle.end_model.specs.declared.out.Out.{Out}
use Rattle.end_model.specs.declared.moves.Move.{Move}
use Rattle.end_model.specs.declared.moves.Move.TheVariants as move
use Rattle.step_laws.specs.Letters.{Among, HasOutput}
use Rattle.step_laws.proofs.Lists.{all_map, among_left}
use Rattle.step_laws.proofs.Turns.{NoFrame}

-- a move that sends no frame needs none
pub no_frame_out : (outs : List Out) (m : Move) → NoFrame m → HasOutput outs m
no_frame_out outs (move.FrameSent f) h = absurd h
no_frame_out outs (move.Opened m) h = tt
no_frame_out outs (move.Accepted m) h = tt
no_frame_out outs (move.Connected m) h = tt
no_frame_out outs (move.Confirmed m) h = tt
no_frame_out outs (move.Added m) h = tt
no_frame_out outs (move.Requested m) h = tt
no_frame_out outs (move.Replied m) h = tt
no_frame_out outs (move.FirstUp m) h = tt
no_frame_out outs (move.SecondUp m) h = tt
no_frame_out outs (move.Refused m) h = tt
no_frame_out outs (move.EndTold m) h = tt
no_frame_out outs (move.EndHeard m) h = tt
no_frame_out outs (move.EndSilent m) h = tt
no_frame_out outs (move.Declined m) h = tt
no_frame_out outs (move.Closed m) h = tt
no_frame_out outs (move.Rejected m) h = tt
no_frame_out outs (move.ClosedBy m) h = tt
no_frame_out outs (move.Cleared i booked) h = tt
no_frame_out outs (move.Greeted m) h = tt
no_frame_out outs (move.Repeated m) h = tt
no_frame_out outs (move.TookPlain m) h = tt
no_frame_out outs (move.NrRead m) h = tt
no_frame_out outs (move.LetGo m) h = tt
no_frame_out outs (move.Quiet i) h = tt
no_frame_out outs (move.Negotiated m) h = tt
no_frame_out outs (move.Counted m) h = tt
no_frame_out outs (move.FrameUp m) h = tt
no_frame_out outs (move.Restored m) h = tt
no_frame_out outs (move.Forgot m) h = tt
no_frame_out outs (move.Froze m) h = tt
no_frame_out outs (move.ResetAttempting m) h = tt
no_frame_out outs (move.ResetAnswering m) h = tt
no_frame_out outs (move.Queried m) h = tt
no_frame_out outs (move.AnsweredQuery m) h = tt
no_frame_out outs (move.TookAnswer m) h = tt
no_frame_out outs (move.RecoveryWentOn i) h = tt
no_frame_out outs (move.RecoveryEnded i) h = tt
no_frame_out outs (move.Ignored i) h = tt

-- among these outputs and others
pub output_within : (outs more : List Out) → ((o : Out) → Among o outs → Among o more) → (m : Move) → HasOutput outs m → HasOutput more m
output_within outs more within (move.FrameSent f) h = (h.0, h.1, within _ h.2)
output_within outs more within (move.Opened m) h = tt
output_within outs more within (move.Accepted m) h = tt
output_within outs more within (move.Connected m) h = tt
output_within outs more within (move.Confirmed m) h = tt
output_within outs more within (move.Added m) h = tt
output_within outs more within (move.Requested m) h = tt
output_within outs more within (move.Replied m) h = tt
output_within outs more within (move.FirstUp m) h = tt
output_within outs more within (move.SecondUp m) h = tt
output_within outs more within (move.Refused m) h = tt
output_within outs more within (move.EndTold m) h = tt
output_within outs more within (move.EndHeard m) h = tt
output_within outs more within (move.EndSilent m) h = tt
output_within outs more within (move.Declined m) h = tt
output_within outs more within (move.Closed m) h = tt
output_within outs more within (move.Rejected m) h = tt
output_within outs more within (move.ClosedBy m) h = tt
output_within outs more within (move.Cleared i booked) h = tt
output_within outs more within (move.Greeted m) h = tt
output_within outs more within (move.Repeated m) h = tt
output_within outs more within (move.TookPlain m) h = tt
output_within outs more within (move.NrRead m) h = tt
output_within outs more within (move.LetGo m) h = tt
output_within outs more within (move.Quiet i) h = tt
output_within outs more within (move.Negotiated m) h = tt
output_within outs more within (move.Counted m) h = tt
output_within outs more within (move.FrameUp m) h = tt
output_within outs more within (move.Restored m) h = tt
output_within outs more within (move.Forgot m) h = tt
output_within outs more within (move.Froze m) h = tt
output_within outs more within (move.ResetAttempting m) h = tt
output_within outs more within (move.ResetAnswering m) h = tt
output_within outs more within (move.Queried m) h = tt
output_within outs more within (move.AnsweredQuery m) h = tt
output_within outs more within (move.TookAnswer m) h = tt
output_within outs more within (move.RecoveryWentOn i) h = tt
output_within outs more within (move.RecoveryEnded i) h = tt
output_within outs more within (move.Ignored i) h = tt

pub frames_more : (outs more : List Out) (ms : List Move) → AllByRecursion (HasOutput outs) ms → AllByRecursion (HasOutput (outs ++ more)) ms
frames_more outs more ms h = all_map _ _ (output_within outs (outs ++ more) (λ o a. among_left o outs more a)) ms h
