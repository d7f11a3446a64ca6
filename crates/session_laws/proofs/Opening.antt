-- A tunnel is opened, in the machine too.
use Rattle.std.proofs.Common.{◌≡◌, ℕ, ◌<◌, Bool, true, false, [], ◌∷◌, ◌++◌, refl, sym, ap, ◌∙◌, subst, Option, Some, None, eq-eqb, ne_eqb}
use Rattle.std.proofs.lemmas.Bool.{lt-ltb}
use Rattle.id_table.specs.Ids.{at}
use Rattle.control_message.specs.declared.message.Message.TheVariants.{Sccrq}
use Rattle.tunnel_fsm.specs.declared.table.TunnelState.TheVariants.{WaitCtlReply}
use Rattle.end_model.specs.declared.event.Event.{Event}
use Rattle.end_model.specs.declared.moves.Opened.{Opened}
use Rattle.end_model.specs.declared.moves.Move.TheVariants as move
use Rattle.end_names.specs.Names.{node_of}
use Rattle.end_model.specs.Tunnels.{Tunnel, new_tunnel}
use Rattle.end_model.specs.Messages.{opening_of}
use Rattle.end_model.specs.End.{End}
use Rattle.world_model.specs.World.{Sender, Deed, config_of}
use Rattle.step_laws.specs.Letters as step_laws
use Rattle.step_laws.specs.Moves.{with_letter, begun}
use Rattle.epoch_machine.specs.Letters as letter
use Rattle.epoch_machine.specs.Tunnels.{WaitReply, opened}
use Rattle.epoch_machine.specs.Worlds.{World, all_rules, gives}
use Rattle.epoch_machine.specs.Moves.{Opens, may_open, opens, step}
use Rattle.connection_laws.specs.Accounts.{Opener, Account, no_account}
use Rattle.connection_laws.specs.Facts.{Accounts}
use Rattle.connection_laws.specs.Steps.{after}
use Rattle.session_laws.specs.Names.{name, letter_of, phase_of}
use Rattle.session_laws.specs.Joined.{Ends, TunnelJoined}
use Rattle.session_laws.proofs.Keeps.{with_end, Laws, IsMade, Follows}
use Rattle.session_laws.proofs.Entering.{after_here, with_given, gives_only}
use Rattle.session_laws.proofs.Names.{name_some}
use Rattle.session_laws.proofs.Ground.{TunnelStays, New, one_step, tunnel_before, tunnel_moves_follow}
use Rattle.session_laws.proofs.Letters.{stays_on, given_elsewhere, given_sent, given_taken, given_refused}
use Rattle.session_laws.proofs.Drawing.{id_some, id_fits, no_account_yet, no_tunnel_yet}

-- ---- what the machine does

abbrev with_opened : World → ℕ → ℕ → ℕ → World
with_opened w n m x = record w { tunnels = opened w.tunnels n m x }

opens_is : (w : World) (n m x : ℕ) → w.tunnels.up n ≡ true → 0 < x → w.tunnels.drawn x ≡ false
    → step all_rules w (Opens n m x) ≡ gives (with_opened w n m x) x letter.Sccrq
unfolding step may_open opens
opens_is w n m x up some new = rw (up, lt-ltb 0 x some, new) refl

opened_elsewhere : (w : World) (n m x y : ℕ) → (y ≡ x → ⊥) → TunnelStays w (with_opened w n m x) y
unfolding opened
opened_elsewhere w n m x y other = record {
  drawn = rw (ne_eqb y x other) refl;
  opener = rw (ne_eqb y x other) refl;
  node = rw (ne_eqb y x other) refl;
  peer = rw (ne_eqb y x other) refl;
  learned = refl;
  phase = rw (ne_eqb y x other) refl;
  entered = refl;
  sent = refl;
  taken = refl;
  refused = refl;
  asks = λ z. refl;
}

opens_elsewhere : (w : World) (n m x y : ℕ) → (y ≡ x → ⊥) → TunnelStays w (gives (with_opened w n m x) x letter.Sccrq) y
opens_elsewhere w n m x y other =
    stays_on w (with_opened w n m x) (gives (with_opened w n m x) x letter.Sccrq) y (opened_elsewhere w n m x y other)
    (given_elsewhere (with_opened w n m x) x letter.Sccrq y other)

opens_up : (w : World) (n m x : ℕ) → (gives (with_opened w n m x) x letter.Sccrq).tunnels.up ≡ w.tunnels.up
unfolding gives opened
opens_up w n m x = refl

opens_calls : (w : World) (n m x : ℕ) → (gives (with_opened w n m x) x letter.Sccrq).calls ≡ w.calls
unfolding gives
opens_calls w n m x = refl

-- the first letter of an opener
abbrev as_opener : ℕ → step_laws.Letter → Account
as_opener peer first = record no_account { part = Opener; peer = peer; given = first ∷ [] }

opens_here : (w : World) (n i m : ℕ) (first : step_laws.Letter) (o : Option Tunnel) (u : Tunnel) → TunnelJoined w n i no_account o
    → letter_of n m first ≡ letter.Sccrq → phase_of u.control.state ≡ WaitReply
    → TunnelJoined (gives (with_opened w n m (name n i)) (name n i) letter.Sccrq) n i (as_opener m first) (Some u)
unfolding gives opened
opens_here w n i m first o u h says waits = record {
  drawn = rw (eq-eqb (name n i) (name n i) refl) refl;
  opener = rw (eq-eqb (name n i) (name n i) refl) refl;
  node = λ made. rw (eq-eqb (name n i) (name n i) refl) refl;
  peer = λ made. rw (eq-eqb (name n i) (name n i) refl) refl;
  learned = h.learned;
  phase = rw (eq-eqb (name n i) (name n i) refl, waits) refl;
  entered = h.entered;
  sent = given_sent (with_opened w n m (name n i)) (name n i) letter.Sccrq h.entered
      ∙ ap (λ ls. ls ++ letter.Sccrq ∷ []) h.sent ∙ ap (λ l. l ∷ []) (sym says);
  taken = given_taken (with_opened w n m (name n i)) (name n i) letter.Sccrq (name n i) ∙ h.taken;
  refused = given_refused (with_opened w n m (name n i)) (name n i) letter.Sccrq (name n i) ∙ h.refused;
  asks = h.asks;
}

-- ---- a tunnel is opened

module _ (laws : Laws) (accs : Accounts) (ends : Ends) (w : World) (n : ℕ) (e x : End) (sender : Option Sender) (moment : ℕ) (ev : Event)
    (m : Opened) (d : Deed) (h : IsMade accs ends w n e x sender moment ev (move.Opened m) d) where
  abbrev i : ℕ
  i = m.tunnel

  abbrev peer : ℕ
  peer = node_of m.peer

  -- the SCCRQ
  abbrev first : step_laws.Letter
  first = record { tunnel = m.tunnel; place = m.given; session = 0; message = Sccrq (opening_of e.role (config_of n 0 None false) m.challenge None m.tunnel); hidden = None }

  abbrev b : Account
  b = as_opener peer first

  none : accs n i ≡ no_account
  none = no_account_yet accs n e sender ev h.moved.within i h.moved.does.drawn

  is : after accs d n i ≡ b
  is = after_here accs d n (move.Opened m) h.moved.deed.node_is h.moved.deed.move_is (λ k j. refl)
      ∙ gives_only d n e.role sender (move.Opened m) (record (accs n i) { part = Opener; peer = peer }) h.moved.deed
      ∙ ap (λ (a : Account). with_given (first ∷ []) (record a { part = Opener; peer = peer })) none

  abbrev u : Tunnel
  u = with_letter 0 (Sccrq (opening_of e.role e.config m.challenge None m.tunnel))
      (new_tunnel (begun m.tunnel m.peer 0 WaitCtlReply moment m.challenge))

  fits : i < 65536
  fits = id_fits accs n e sender ev h.moved.within i h.moved.does.drawn

  abbrev X : ℕ
  X = name n i

  abbrev v : World
  v = gives (with_opened w n peer X) X letter.Sccrq

  old : TunnelJoined w n i no_account (at e.tunnels i)
  old = subst (λ a. TunnelJoined w n i a (at e.tunnels i)) none (tunnel_before accs ends w n e x sender moment ev (move.Opened m) d h i fits)

  pub opened_follows : Follows w n e x (move.Opened m) (after accs d) (with_end ends n x)
  opened_follows =
      let o = h.moved.does in
      tunnel_moves_follow accs ends w n e x sender moment ev (move.Opened m) d h tt v u (record {
        id = fits;
        put_is = ap (λ (y : End). y.tunnels) o.after;
        sessions = ap (λ (y : End). y.session_ids) o.after;
        role = ap (λ (y : End). y.role) o.after;
        before = New (no_tunnel_yet accs n e sender ev h.moved.within i o.drawn) refl;
        tunnels = opens_elsewhere w n peer X;
        tunnel = rw is (opens_here w n i peer first (at e.tunnels i) u old refl refl);
        calls = opens_calls w n peer X;
        up = λ k. ap (λ (f : ℕ → Bool). f k) (opens_up w n peer X);
        more = Opens n peer X ∷ [];
        run = sym (one_step all_rules w (Opens n peer X)
            ∙ opens_is w n peer X (h.joined.up n) (name_some n i (id_some accs n e sender ev h.moved.within i o.drawn)) old.drawn);
      })
