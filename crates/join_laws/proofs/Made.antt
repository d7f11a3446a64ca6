-- What is known of a live tunnel before a move of its node.
use Rattle.std.proofs.Common.{◌≡◌, ◌⊎◌, ⊎_elim, ℕ, ◌<◌, ◌≤◌, Bool, true, false, [], length, refl, sym, ap, ◌∙◌, subst, Option, Some, arith}
use Rattle.id_table.specs.Ids.{at}
use Rattle.session_book.specs.Books.{Kept, tunnel_at}
use Rattle.tunnel_fsm.specs.Rows.{state_number}
use Rattle.end_model.specs.declared.event.Event.{Event}
use Rattle.end_model.specs.declared.moves.Move.{Move}
use Rattle.end_model.specs.Tunnels.{Tunnel, mode_of, is_current}
use Rattle.end_model.specs.End.{End}
use Rattle.world_model.specs.declared.standing.Standing.{Standing}
use Rattle.world_model.specs.World.{World, Node, Sender, Deed, epoch_of}
use Rattle.epoch_machine.specs.Worlds as machine
use Rattle.epoch_machine.specs.Tunnels.{Open}
use Rattle.session_laws.specs.Names.{name}
use Rattle.session_laws.proofs.Heard.{open_phase}
use Rattle.connection_laws.specs.Facts.{AllWait}
use Rattle.channel_laws.specs.Accounts.{Part, Unmade, Opener, Acceptor, Renewed, Account, heeded, History, about}
use Rattle.channel_laws.specs.Facts.{Accounts, IsMade, IsOpen, IsShut, IsInState, partner_in, ChannelOk, LiveOk, EndOk, BookOk, NodeOk}
use Rattle.channel_laws.specs.Steps.{with_end, moves_on}
use Rattle.recovery_laws.specs.Joined.{phase_by, phase_in, TunnelJoined, CallsJoined, NodeJoined, live_in, kept_in}
use Rattle.recovery_laws.proofs.Epochs.{current_phase}
use Rattle.join_laws.specs.Steps as steps
use Rattle.join_laws.specs.Steps.{with_book}
use Rattle.join_laws.proofs.Books.{booked, book_here}
use Rattle.join_laws.proofs.Ahead.{book_standings, end_standings}
use Rattle.join_laws.proofs.Within.{heeds_within}

module _ (w : World) (h : History) (n : ℕ) (node : Node) (sender : Option Sender) (moment : ℕ) (ev : Event) (m : Move) (x : End) (d :
    Deed) (k : Kept)
    (j : machine.World) (q : steps.IsMade w h n node sender moment ev m x d k j) where
  pub both_ok : EndOk w h n node.end × BookOk h n node.checkpoint.book
  both_ok = subst (NodeOk w h n) q.moved.there (q.moved.holds.nodes n)

  pub node_fits : n < 256
  node_fits = both_ok.0.node

  pub within : (p i f : ℕ) → heeded (h.accounts p i f) ≤ length (partner_in h.accounts f (h.accounts p i f)).given
  within = heeds_within w h q.moved.holds q.closes

  here : at (with_book w n k).nodes n ≡ Some (booked node k)
  here = book_here w n k node q.moved.there

  pub calls_before : CallsJoined j h n (booked node k)
  calls_before =
      let c : NodeJoined j h n (Some (booked node k)) = subst (NodeJoined j h n) here (q.joined.joined.nodes n node_fits) in c.1

  pub up_before : j.tunnels.up n ≡ true
  up_before =
      let c : NodeJoined j h n (Some (booked node k)) = subst (NodeJoined j h n) here (q.joined.joined.nodes n node_fits) in c.0 ∙ q.up

  module _ (i : ℕ) (t : Tunnel) (there : at node.end.tunnels i ≡ Some t) where
    pub live_ok : LiveOk w h n i t
    live_ok = both_ok.0.live i t there

    pub some : 0 < i
    some = (q.moved.holds.accounts n i 0).some live_ok.made

    pub id_fits : i < 65536
    id_fits = (q.moved.holds.accounts n i 0).id live_ok.made

    pub made_now : IsMade (h.accounts n i (epoch_of w n i))
    made_now = (q.moved.holds.standings n i).entered live_ok.made

    pub told : TunnelJoined j (with_book w n k) h n i (Some t) (tunnel_at k i)
    told =
        subst (λ o. TunnelJoined j (with_book w n k) h n i o (tunnel_at k i)) there
        (subst (λ (o : Option Node). TunnelJoined j (with_book w n k) h n i (live_in o i) (kept_in o i)) here
        (q.joined.joined.tunnels n i node_fits id_fits))

    pub entered_is : j.tunnels.entered (name n i) ≡ epoch_of w n i
    entered_is = told.entered ∙ ap (λ (s : Standing). s.epoch) (book_standings w n node q.moved.there k n i)

    pub channel_ok : is_current (mode_of t.recovery) ≡ true → ChannelOk h.accounts n i (epoch_of w n i) (h.accounts n i (epoch_of w n i)) t
    channel_ok current = live_ok.channel current

    pub open_is : is_current (mode_of t.recovery) ≡ true → state_number t.control.state ≡ 3 → j.tunnels.phase (name n i) ≡ Open
    open_is current three = told.phase ∙ (current_phase n t t.recovery current ∙ open_phase t.control.state three)

  -- a deed tells the epoch in which its tunnel is, where the move enters none
  pub epoch_is : moves_on w n node m x ≡ with_end w n node x → d.epoch ≡ epoch_of w n (about m)
  epoch_is same =
      q.moved.epoch
      ∙ (ap (λ v. epoch_of v n (about m)) same ∙ ap (λ (s : Standing). s.epoch) (end_standings w n node q.moved.there x n (about m)))

-- ---- states

-- a live tunnel isn't idle
in_state : (accs : Accounts) (i e : ℕ) (a : Account) (t : Tunnel) (p : Part) → IsInState accs i e a t p → 1 ≤ state_number t.control.state
in_state accs i e a t Unmade s = absurd s
in_state accs i e a t Opener s = ⊎_elim
    (λ (q : (state_number t.control.state ≡ 1) × (a.remote ≡ 0) × IsOpen a × AllWait t.calls). let one = q.0 in omega (arith, one))
    (λ k. ⊎_elim
    (λ (q : (state_number t.control.state ≡ 3) × (a.remote ≡ 0 → ⊥) × IsOpen a). let three = q.0 in omega (arith, three))
    (λ (q : IsShut a t). let four = q.0 in omega (arith, four)) k)
    s
in_state accs i e a t Acceptor s = ⊎_elim
    (λ (q : (state_number t.control.state ≡ 2) × (t.calls ≡ []) × IsOpen a). let two = q.0 in omega (arith, two))
    (λ k. ⊎_elim
    (λ (q : (state_number t.control.state ≡ 3) × ((partner_in accs 0 a).remote ≡ i) × IsOpen a). let three = q.0 in omega (arith, three))
    (λ (q : IsShut a t). let four = q.0 in omega (arith, four)) k)
    s
in_state accs i e a t Renewed s = ⊎_elim
    (λ (q : (state_number t.control.state ≡ 3) × IsOpen a). let three = q.0 in omega (arith, three))
    (λ (q : IsShut a t). let four = q.0 in omega (arith, four))
    s

pub is_busy : (w : World) (h : History) (n i : ℕ) (t : Tunnel) → LiveOk w h n i t → 1 ≤ state_number t.control.state
is_busy w h n i t live = by (is_current (mode_of t.recovery)) refl
  where
    by : (b : Bool) → is_current (mode_of t.recovery) ≡ b → 1 ≤ state_number t.control.state
    by true current =
        in_state h.accounts i (epoch_of w n i) (h.accounts n i (epoch_of w n i)) t (h.accounts n i (epoch_of w n i)).part (live.channel
        current).state
    by false inactive = let three = live.established inactive in omega (arith, three)

-- the channel of an established tunnel is open
pub open_account : (accs : Accounts) (i e : ℕ) (a : Account) (t : Tunnel) (p : Part) → IsInState accs i e a t p
    → state_number t.control.state ≡ 3 → IsOpen a
open_account accs i e a t Unmade s three = absurd s
open_account accs i e a t Opener s three = ⊎_elim
    (λ (q : (state_number t.control.state ≡ 1) × (a.remote ≡ 0) × IsOpen a × AllWait t.calls). q.2)
    (λ k. ⊎_elim
    (λ (q : (state_number t.control.state ≡ 3) × (a.remote ≡ 0 → ⊥) × IsOpen a). q.2)
    (λ (q : IsShut a t). let four = q.0 in absurd (omega (arith, four, three))) k)
    s
open_account accs i e a t Acceptor s three = ⊎_elim
    (λ (q : (state_number t.control.state ≡ 2) × (t.calls ≡ []) × IsOpen a). q.2)
    (λ k. ⊎_elim
    (λ (q : (state_number t.control.state ≡ 3) × ((partner_in accs 0 a).remote ≡ i) × IsOpen a). q.2)
    (λ (q : IsShut a t). let four = q.0 in absurd (omega (arith, four, three))) k)
    s
open_account accs i e a t Renewed s three = ⊎_elim
    (λ (q : (state_number t.control.state ≡ 3) × IsOpen a). q.1)
    (λ (q : IsShut a t). let four = q.0 in absurd (omega (arith, four, three)))
    s
