-- A tunnel is removed with its calls, and in the machine they end.
use Rattle.std.proofs.Common.{◌≡◌, ℕ, true, refl, sym, ap, ◌∙◌, Option, Some, None, eq-eqb, Bool}
use Rattle.std.proofs.lemmas.Option.{none-some}
use Rattle.id_table.specs.Ids.{at, without}
use Rattle.id_table.specs.Order.{at_without_other, at_without_same}
use Rattle.end_model.specs.declared.event.Event.{Event}
use Rattle.end_model.specs.declared.moves.Move.TheVariants as move
use Rattle.end_model.specs.Tunnels.{Tunnel}
use Rattle.end_model.specs.End.{End}
use Rattle.world_model.specs.World.{Sender, Deed}
use Rattle.epoch_machine.specs.Tunnels.{Gone, is_live, left}
use Rattle.epoch_machine.specs.Calls.{ends}
use Rattle.epoch_machine.specs.Worlds.{World, all_rules, leaves}
use Rattle.epoch_machine.specs.Moves.{Clears, may_clear, step}
use Rattle.connection_laws.specs.Accounts.{Account}
use Rattle.connection_laws.specs.Facts.{Accounts, LiveOk}
use Rattle.connection_laws.specs.Steps.{after}
use Rattle.session_laws.specs.Names.{name}
use Rattle.session_laws.specs.Joined.{Ends, TunnelJoined}
use Rattle.session_laws.proofs.Keeps.{with_end, Laws, IsMade, Follows}
use Rattle.session_laws.proofs.Entering.{after_here}
use Rattle.session_laws.proofs.States.{live_some}
use Rattle.session_laws.proofs.Heard.{here_joined, live_phase}
use Rattle.session_laws.proofs.Leaving.{leaves_elsewhere, leaves_up, leaves_calls, HasLeft, left_follows}

-- ---- what the machine does

clears_is : (w : World) (x : ℕ) → is_live (w.tunnels.phase x) ≡ true → step all_rules w (Clears x) ≡ leaves w x Gone
unfolding step may_clear
clears_is w x live = rw live refl

clears_here : (w : World) (n i : ℕ) (a : Account) (o : Option Tunnel) → TunnelJoined w n i a o → TunnelJoined (leaves w (name n i) Gone) n i a None
unfolding leaves left «ends»
clears_here w n i a o h = record {
  drawn = h.drawn;
  opener = h.opener;
  node = h.node;
  peer = h.peer;
  learned = h.learned;
  phase = rw (eq-eqb (name n i) (name n i) refl) refl;
  entered = h.entered;
  sent = h.sent;
  taken = h.taken;
  refused = h.refused;
  asks = h.asks;
}

-- ---- a tunnel is cleared

module _ (laws : Laws) (accs : Accounts) (ends : Ends) (w : World) (n : ℕ) (e x : End) (sender : Option Sender) (moment : ℕ) (ev : Event) (i : ℕ) (booked : Bool) (d : Deed)
    (h : IsMade accs ends w n e x sender moment ev (move.Cleared i booked) d) where
  abbrev t : Tunnel
  t = h.moved.does.tunnel

  abbrev X : ℕ
  X = name n i

  abbrev v : World
  v = leaves w X Gone

  live : LiveOk accs n i (accs n i) t
  live = h.moved.within.end.live i t h.moved.does.there

  old : TunnelJoined w n i (accs n i) (Some t)
  old = here_joined accs ends w n e x sender moment ev (move.Cleared i booked) d h i t h.moved.does.there

  tunnels_are : x.tunnels ≡ without e.tunnels i
  tunnels_are = ap (λ (y : End). y.tunnels) h.moved.does.after

  none_there : at x.tunnels i ≡ None
  none_there = rw tunnels_are (at_without_same e.tunnels i h.moved.within.end.order)

  has_left : HasLeft e x i t
  has_left = record {
    there = h.moved.does.there;
    elsewhere = λ j other. rw tunnels_are (at_without_other e.tunnels i j other);
    none = λ u there. absurd (none-some u (sym none_there ∙ there));
    sessions = ap (λ (y : End). y.session_ids) h.moved.does.after;
    role = ap (λ (y : End). y.role) h.moved.does.after;
  }

  account_same : after accs d n i ≡ accs n i
  account_same = after_here accs d n (move.Cleared i booked) h.moved.deed.node_is h.moved.deed.move_is (λ k j. refl)

  pub cleared_follows : Follows w n e x (move.Cleared i booked) (after accs d) (with_end ends n x)
  cleared_follows =
      left_follows accs ends w n e x sender moment ev (move.Cleared i booked) d h v t tt has_left (leaves_calls w w X Gone refl) (record {
        tunnels = leaves_elsewhere w X Gone;
        tunnel = rw (none_there, account_same) (clears_here w n i (accs n i) (Some t) old);
        up = leaves_up w X Gone;
        move = Clears X;
        does = clears_is w X (rw old.phase (live_phase t.control.state (live_some accs n i (accs n i) t live)));
      })
