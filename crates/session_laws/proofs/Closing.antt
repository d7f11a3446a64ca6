-- A tunnel is closed with its calls, and its peer is told; so it is in the machine.
use Rattle.std.proofs.Common.{◌≡◌, ℕ, true, false, [], ◌∷◌, length, refl, sym, ap, ◌∙◌, Option, Some, arith, None}
use Rattle.id_table.specs.Order.{at_new}
use Rattle.control_message.specs.declared.message.Message.TheVariants as message
use Rattle.tunnel_fsm.specs.declared.table.TunnelState.{TunnelState}
use Rattle.tunnel_fsm.specs.declared.table.TunnelState.TheVariants as state
use Rattle.tunnel_fsm.specs.declared.table.TunnelEvent.{TunnelEvent}
use Rattle.tunnel_fsm.specs.declared.table.TunnelEvent.TheVariants as event
use Rattle.tunnel_fsm.specs.declared.table.TunnelAction.{TunnelAction}
use Rattle.tunnel_fsm.specs.declared.table.TunnelAction.TheVariants as action
use Rattle.tunnel_fsm.specs.Rows.{rows, row_of}
use Rattle.end_model.specs.declared.event.Event.{Event}
use Rattle.end_model.specs.declared.moves.Closed as moves
use Rattle.end_model.specs.declared.moves.Move.TheVariants as move
use Rattle.end_model.specs.Tunnels.{Tunnel}
use Rattle.end_model.specs.Moments.{is_closed}
use Rattle.end_model.specs.End.{End}
use Rattle.world_model.specs.World.{Sender, Deed}
use Rattle.step_laws.specs.Letters as step_laws
use Rattle.step_laws.specs.Moves.{with_letter}
use Rattle.epoch_machine.specs.Letters as letter
use Rattle.epoch_machine.specs.Tunnels.{Tunnels, Closed, is_active}
use Rattle.epoch_machine.specs.Worlds.{World, all_rules, gives, leaves}
use Rattle.epoch_machine.specs.Moves.{Closes, step}
use Rattle.connection_laws.specs.Accounts.{Account}
use Rattle.connection_laws.specs.Facts.{Accounts, LiveOk}
use Rattle.connection_laws.specs.Steps.{after}
use Rattle.session_laws.specs.Names.{name, learned_name}
use Rattle.session_laws.specs.Joined.{Ends, TunnelJoined}
use Rattle.session_laws.proofs.Learned.{open_learned, closed_learned}
use Rattle.session_laws.proofs.Keeps.{with_end, Laws, IsMade, Follows}
use Rattle.session_laws.proofs.Entering.{after_here, with_given, gives_only}
use Rattle.session_laws.proofs.States.{IsAtWork, at_work, heeds_all}
use Rattle.session_laws.proofs.Letters.{stays_on, given_elsewhere, given_tunnels, given_calls, letters_joined}
use Rattle.session_laws.proofs.Heard.{here_joined, here_active}
use Rattle.session_laws.proofs.Greeting.{gives_here}
use Rattle.session_laws.proofs.Leaving.{leaves_elsewhere, leaves_phase, leaves_learned, leaves_up, leaves_letters, leaves_calls, left_put, left_follows}

-- ---- what the machine does

pub closes_is : (w : World) (x : ℕ) → is_active (w.tunnels.phase x) ≡ true → step all_rules w (Closes x) ≡ leaves (gives w x letter.StopCcn) x Closed
unfolding step
closes_is w x works = rw works refl

-- ---- by its table

-- a closed tunnel isn't closed once more
closed_row : (on : TunnelEvent) → row_of rows state.Closed on ≡ (state.Closed, action.SendStopCcn) → ⊥
closed_row event.LocalOpen is = let no = ap (λ (p : TunnelState × TunnelAction). p.1) is in cc
closed_row event.SccrqAcc is = let no = ap (λ (p : TunnelState × TunnelAction). p.1) is in cc
closed_row event.SccrqNotAcc is = let no = ap (λ (p : TunnelState × TunnelAction). p.1) is in cc
closed_row event.SccrpAcc is = let no = ap (λ (p : TunnelState × TunnelAction). p.1) is in cc
closed_row event.SccrpNotAcc is = let no = ap (λ (p : TunnelState × TunnelAction). p.1) is in cc
closed_row event.ScccnAcc is = let no = ap (λ (p : TunnelState × TunnelAction). p.1) is in cc
closed_row event.ScccnNotAcc is = let no = ap (λ (p : TunnelState × TunnelAction). p.1) is in cc
closed_row event.AdminClose is = let no = ap (λ (p : TunnelState × TunnelAction). p.1) is in cc
closed_row event.StopCcnCame is = let no = ap (λ (p : TunnelState × TunnelAction). p.1) is in cc

not_yet : (s : TunnelState) (on : TunnelEvent) → row_of rows s on ≡ (state.Closed, action.SendStopCcn) → is_closed s ≡ false
not_yet state.Idle on is = refl
not_yet state.WaitCtlReply on is = refl
not_yet state.WaitCtlConn on is = refl
not_yet state.Established on is = refl
not_yet state.Closed on is = absurd (closed_row on is)

-- ---- in the end

module _ (laws : Laws) (accs : Accounts) (ends : Ends) (w : World) (n : ℕ) (e x : End) (sender : Option Sender) (moment : ℕ) (ev : Event)
    (m : moves.Closed) (d : Deed) (h : IsMade accs ends w n e x sender moment ev (move.Closed m) d) where
  abbrev i : ℕ
  i = m.tunnel

  abbrev t : Tunnel
  t = h.moved.does.tunnel

  abbrev a : Account
  a = accs n i

  -- the StopCCN
  abbrev last : step_laws.Letter
  last = record { tunnel = m.tunnel; place = m.given; session = 0; message = message.StopCcn m.tunnel m.result m.error; hidden = None }

  abbrev closed : Account
  closed = record a { remote = m.remote; closed = Some (length a.taken) }

  abbrev b : Account
  b = with_given (last ∷ []) closed

  is : after accs d n i ≡ b
  is = after_here accs d n (move.Closed m) h.moved.deed.node_is h.moved.deed.move_is (λ k j. refl)
      ∙ gives_only d n e.role sender (move.Closed m) closed h.moved.deed

  abbrev told : Tunnel
  told = with_letter 0 (message.StopCcn m.tunnel m.result m.error) (record t { control = record t.control { state = state.Closed; remote = m.remote; closed = moment } })

  abbrev u : Tunnel
  u = record told { calls = [] }

  not_shut : is_closed t.control.state ≡ false
  not_shut = not_yet t.control.state h.moved.does.on h.moved.does.row

  live : LiveOk accs n i a t
  live = h.moved.within.end.live i t h.moved.does.there

  works : IsAtWork a t
  works = at_work accs n i a t live not_shut

  old : TunnelJoined w n i a (Some t)
  old = here_joined accs ends w n e x sender moment ev (move.Closed m) d h i t h.moved.does.there

  abbrev X : ℕ
  X = name n i

  abbrev and_given : World
  and_given = gives w X letter.StopCcn

  abbrev v : World
  v = leaves and_given X Closed

  -- it goes to the tunnel that is known
  learned : v.tunnels.learned X ≡ learned_name b
  learned = ap (λ (f : ℕ → ℕ). f X) (leaves_learned and_given X Closed)
      ∙ ap (λ (ts : Tunnels). ts.learned X) (given_tunnels w X letter.StopCcn) ∙ old.learned ∙ open_learned a works.is_open
      ∙ sym (ap (λ r. learned_name (record a { remote = r; closed = Some (length a.taken) }))
      (laws.known accs n e x sender moment ev h.moved.within m h.moved.does)
      ∙ closed_learned accs n i a (h.moved.within.accounts n i).part)

  tunnel : TunnelJoined v n i b (Some u)
  tunnel = letters_joined w v n i a b (last ∷ []) 0 (Some t) (Some u) old
      (leaves_letters w and_given X Closed (letter.StopCcn ∷ []) 0 (gives_here w X letter.StopCcn old.entered))
      (record { part = refl; peer = refl; given = refl; heeds = sym (heeds_all a works.is_open) ∙ (omega arith); declined = refl })
      learned (leaves_phase and_given X Closed)

  pub closed_follows : Follows w n e x (move.Closed m) (after accs d) (with_end ends n x)
  closed_follows =
      let tunnels_are = ap (λ (y : End). y.tunnels) h.moved.does.after in
      left_follows accs ends w n e x sender moment ev (move.Closed m) d h v t tt
      (left_put e x i t u h.moved.does.there tunnels_are refl (ap (λ (y : End). y.session_ids) h.moved.does.after)
      (ap (λ (y : End). y.role) h.moved.does.after))
      (leaves_calls w and_given X Closed (given_calls w X letter.StopCcn))
      (record {
        tunnels = λ y other.
            stays_on w and_given v y (given_elsewhere w X letter.StopCcn y other) (leaves_elsewhere and_given X Closed y other);
        tunnel = rw (tunnels_are, at_new e.tunnels i u, is) tunnel;
        up = leaves_up and_given X Closed ∙ ap (λ (ts : Tunnels). ts.up) (given_tunnels w X letter.StopCcn);
        move = Closes X;
        does = closes_is w X (here_active accs ends w n e x sender moment ev (move.Closed m) d h i t h.moved.does.there not_shut);
      })
