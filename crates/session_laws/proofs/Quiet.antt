-- Moves of a step with which the machine doesn't move: no more than the channel of a tunnel changes.
use Rattle.std.proofs.Common.{ℕ, refl, ap, Option}
use Rattle.end_model.specs.declared.event.Event.{Event}
use Rattle.end_model.specs.declared.moves.FrameSent.{FrameSent}
use Rattle.end_model.specs.declared.moves.FrameUp.{FrameUp}
use Rattle.end_model.specs.declared.moves.LetGo.{LetGo}
use Rattle.end_model.specs.declared.moves.NrRead.{NrRead}
use Rattle.end_model.specs.declared.moves.Repeated.{Repeated}
use Rattle.end_model.specs.declared.moves.Move.TheVariants as move
use Rattle.end_model.specs.End.{End}
use Rattle.world_model.specs.World.{Sender, Deed}
use Rattle.epoch_machine.specs.Worlds.{World}
use Rattle.connection_laws.specs.Facts.{Accounts}
use Rattle.connection_laws.specs.Steps.{after}
use Rattle.session_laws.specs.Joined.{Ends}
use Rattle.session_laws.proofs.Keeps.{with_end, Laws, IsMade, Follows}
use Rattle.session_laws.proofs.Ground.{end_stays_follows, channel_follows}

module _ (laws : Laws) (accs : Accounts) (ends : Ends) (w : World) (n : ℕ) (e x : End) (sender : Option Sender) (moment : ℕ) (ev : Event) where
  -- the end stays as it is
  pub quiet_follows : (i : ℕ) (d : Deed) → IsMade accs ends w n e x sender moment ev (move.Quiet i) d → Follows w n e x (move.Quiet i) (after accs d) (with_end ends n x)
  quiet_follows i d h = end_stays_follows accs ends w n e x sender moment ev (move.Quiet i) d h tt refl h.moved.does.after

  pub frame_sent_follows : (m : FrameSent) (d : Deed) → IsMade accs ends w n e x sender moment ev (move.FrameSent m) d
      → Follows w n e x (move.FrameSent m) (after accs d) (with_end ends n x)
  frame_sent_follows m d h = end_stays_follows accs ends w n e x sender moment ev (move.FrameSent m) d h tt refl h.moved.does.after

  pub frame_up_follows : (m : FrameUp) (d : Deed) → IsMade accs ends w n e x sender moment ev (move.FrameUp m) d → Follows w n e x (move.FrameUp m) (after accs d) (with_end ends n x)
  frame_up_follows m d h = end_stays_follows accs ends w n e x sender moment ev (move.FrameUp m) d h tt refl h.moved.does.after

  -- a channel reads, sends or repeats
  pub nr_read_follows : (m : NrRead) (d : Deed) → IsMade accs ends w n e x sender moment ev (move.NrRead m) d → Follows w n e x (move.NrRead m) (after accs d) (with_end ends n x)
  nr_read_follows m d h =
      let o = h.moved.does in
      channel_follows accs ends w n e x sender moment ev (move.NrRead m) d h tt refl o.tunnel _ o.there refl refl (ap (λ (y : End). y.tunnels) o.after)
      (ap (λ (y : End). y.session_ids) o.after) (ap (λ (y : End). y.role) o.after)

  pub let_go_follows : (m : LetGo) (d : Deed) → IsMade accs ends w n e x sender moment ev (move.LetGo m) d → Follows w n e x (move.LetGo m) (after accs d) (with_end ends n x)
  let_go_follows m d h =
      let o = h.moved.does in
      channel_follows accs ends w n e x sender moment ev (move.LetGo m) d h tt refl o.tunnel _ o.there refl refl (ap (λ (y : End). y.tunnels) o.after)
      (ap (λ (y : End). y.session_ids) o.after) (ap (λ (y : End). y.role) o.after)

  pub repeated_follows : (m : Repeated) (d : Deed) → IsMade accs ends w n e x sender moment ev (move.Repeated m) d → Follows w n e x (move.Repeated m) (after accs d) (with_end ends n x)
  repeated_follows m d h =
      let o = h.moved.does in
      channel_follows accs ends w n e x sender moment ev (move.Repeated m) d h tt refl o.tunnel _ o.there refl refl (ap (λ (y : End). y.tunnels) o.after)
      (ap (λ (y : End). y.session_ids) o.after) (ap (λ (y : End). y.role) o.after)
