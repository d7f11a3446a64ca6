-- Moves of a live tunnel that has learned its other end, in epoch 0 and in a later one.
use Rattle.std.proofs.Common.{◌≡◌, ⊎_elim}
use Rattle.id_table.specs.Order.{same_or_not}
use Rattle.recv_window.specs.Window.{ClassIsTrue}
use Rattle.end_model.specs.declared.moves.Move.TheVariants as move
use Rattle.world_model.specs.World.{epoch_of}
use Rattle.frame_laws.specs.Codecs.{Codecs}
use Rattle.connection_laws.specs.Steps as calm_steps
use Rattle.channel_laws.proofs.Querying.{answered_query_keeps, took_answer_keeps}
use Rattle.channel_laws.specs.Recoveries.{WrittenIsRead, WrittenHasRoom}
use Rattle.channel_laws.specs.Steps.{OpeningMovesKeep, TakingMovesKeep}
use Rattle.channel_laws.proofs.Learning.{confirmed_keeps, connected_keeps, rejected_keeps}
use Rattle.channel_laws.proofs.First.{added_first, replied_first, refused_first, first_up_first, second_up_first, end_heard_first, took_plain_first, nr_read_first, closed_first, closed_by_first}
use Rattle.channel_laws.proofs.TakesLater.{end_heard_later, second_up_later, first_up_later, replied_later, refused_later}
use Rattle.channel_laws.proofs.ClosesLater.{took_plain_later, closed_by_later, closed_later, added_later, nr_read_later}

pub opening_moves_keep : calm_steps.MovesKeep → Codecs → WrittenIsRead → WrittenHasRoom → OpeningMovesKeep
opening_moves_keep laws codecs again room (move.Connected m) of w h n node sender moment ev x d k = connected_keeps laws codecs again room w h n node sender moment ev x d m k
opening_moves_keep laws codecs again room (move.Confirmed m) of w h n node sender moment ev x d k = confirmed_keeps laws codecs again room w h n node sender moment ev x d m k
opening_moves_keep laws codecs again room (move.Rejected m) of w h n node sender moment ev x d k = rejected_keeps laws codecs again room w h n node sender moment ev x d m k
opening_moves_keep laws codecs again room m of w h n node sender moment ev x d k = absurd of

pub taking_moves_keep : calm_steps.MovesKeep → Codecs → WrittenIsRead → WrittenHasRoom → ClassIsTrue → TakingMovesKeep
taking_moves_keep laws codecs again room classes (move.Added m) of w h n node sender moment ev x d k = ⊎_elim
    (λ (zero : epoch_of w n m.tunnel ≡ 0). added_first laws codecs again room w h n node sender moment ev x d m k zero)
    (λ (later : epoch_of w n m.tunnel ≡ 0 → ⊥). added_later codecs again room classes w h n node sender moment ev x d m k later)
    (same_or_not (epoch_of w n m.tunnel) 0)
taking_moves_keep laws codecs again room classes (move.Replied m) of w h n node sender moment ev x d k = ⊎_elim
    (λ (zero : epoch_of w n m.tunnel ≡ 0). replied_first laws codecs again room w h n node sender moment ev x d m k zero)
    (λ (later : epoch_of w n m.tunnel ≡ 0 → ⊥). replied_later codecs again room classes w h n node sender moment ev x d m k later)
    (same_or_not (epoch_of w n m.tunnel) 0)
taking_moves_keep laws codecs again room classes (move.Refused m) of w h n node sender moment ev x d k = ⊎_elim
    (λ (zero : epoch_of w n m.tunnel ≡ 0). refused_first laws codecs again room w h n node sender moment ev x d m k zero)
    (λ (later : epoch_of w n m.tunnel ≡ 0 → ⊥). refused_later codecs again room classes w h n node sender moment ev x d m k later)
    (same_or_not (epoch_of w n m.tunnel) 0)
taking_moves_keep laws codecs again room classes (move.FirstUp m) of w h n node sender moment ev x d k = ⊎_elim
    (λ (zero : epoch_of w n m.tunnel ≡ 0). first_up_first laws codecs again room w h n node sender moment ev x d m k zero)
    (λ (later : epoch_of w n m.tunnel ≡ 0 → ⊥). first_up_later codecs again room classes w h n node sender moment ev x d m k later)
    (same_or_not (epoch_of w n m.tunnel) 0)
taking_moves_keep laws codecs again room classes (move.SecondUp m) of w h n node sender moment ev x d k = ⊎_elim
    (λ (zero : epoch_of w n m.tunnel ≡ 0). second_up_first laws codecs again room w h n node sender moment ev x d m k zero)
    (λ (later : epoch_of w n m.tunnel ≡ 0 → ⊥). second_up_later codecs again room classes w h n node sender moment ev x d m k later)
    (same_or_not (epoch_of w n m.tunnel) 0)
taking_moves_keep laws codecs again room classes (move.EndHeard m) of w h n node sender moment ev x d k = ⊎_elim
    (λ (zero : epoch_of w n m.tunnel ≡ 0). end_heard_first laws codecs again room w h n node sender moment ev x d m k zero)
    (λ (later : epoch_of w n m.tunnel ≡ 0 → ⊥). end_heard_later codecs again room classes w h n node sender moment ev x d m k later)
    (same_or_not (epoch_of w n m.tunnel) 0)
taking_moves_keep laws codecs again room classes (move.TookPlain m) of w h n node sender moment ev x d k = ⊎_elim
    (λ (zero : epoch_of w n m.tunnel ≡ 0). took_plain_first laws codecs again room w h n node sender moment ev x d m k zero)
    (λ (later : epoch_of w n m.tunnel ≡ 0 → ⊥). took_plain_later codecs again room classes w h n node sender moment ev x d m k later)
    (same_or_not (epoch_of w n m.tunnel) 0)
taking_moves_keep laws codecs again room classes (move.NrRead m) of w h n node sender moment ev x d k = ⊎_elim
    (λ (zero : epoch_of w n m.tunnel ≡ 0). nr_read_first laws codecs again room w h n node sender moment ev x d m k zero)
    (λ (later : epoch_of w n m.tunnel ≡ 0 → ⊥). nr_read_later codecs again room classes w h n node sender moment ev x d m k later)
    (same_or_not (epoch_of w n m.tunnel) 0)
taking_moves_keep laws codecs again room classes (move.Closed m) of w h n node sender moment ev x d k = ⊎_elim
    (λ (zero : epoch_of w n m.tunnel ≡ 0). closed_first laws codecs again room w h n node sender moment ev x d m k zero)
    (λ (later : epoch_of w n m.tunnel ≡ 0 → ⊥). closed_later codecs again room classes w h n node sender moment ev x d m k later)
    (same_or_not (epoch_of w n m.tunnel) 0)
taking_moves_keep laws codecs again room classes (move.ClosedBy m) of w h n node sender moment ev x d k = ⊎_elim
    (λ (zero : epoch_of w n m.tunnel ≡ 0). closed_by_first laws codecs again room w h n node sender moment ev x d m k zero)
    (λ (later : epoch_of w n m.tunnel ≡ 0 → ⊥). closed_by_later codecs again room classes w h n node sender moment ev x d m k later)
    (same_or_not (epoch_of w n m.tunnel) 0)
taking_moves_keep laws codecs again room classes (move.AnsweredQuery m) of w h n node sender moment ev x d k =
    answered_query_keeps laws codecs again room classes w h n node sender moment ev x d m k
taking_moves_keep laws codecs again room classes (move.TookAnswer m) of w h n node sender moment ev x d k =
    took_answer_keeps laws codecs again room classes w h n node sender moment ev x d m k
taking_moves_keep laws codecs again room classes m of w h n node sender moment ev x d k = absurd of
