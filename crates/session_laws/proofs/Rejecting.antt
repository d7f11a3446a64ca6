-- An opener takes an SCCRP and rejects it: it is closed with its calls, and its peer is told. In the machine it is closed before it takes it.
use Rattle.std.proofs.Common.{◌≡◌, ⊎_elim, ℕ, ◌≤◌, false, List, [], ◌∷◌, length, refl, sym, ap, ◌∙◌, subst, Option, Some, arith, None}
use Rattle.id_table.specs.Order.{at_new}
use Rattle.control_message.specs.declared.message.Message.TheVariants as message
use Rattle.tunnel_fsm.specs.declared.table.TunnelState.TheVariants as state
use Rattle.end_model.specs.declared.event.Event.{Event}
use Rattle.end_model.specs.declared.moves.Rejected.{Rejected}
use Rattle.end_model.specs.declared.moves.Move.TheVariants as move
use Rattle.end_model.specs.Tunnels.{Tunnel}
use Rattle.end_model.specs.Channels.{counts_taken}
use Rattle.end_model.specs.Moments.{is_closed}
use Rattle.end_model.specs.End.{End}
use Rattle.world_model.specs.World.{Sender, Deed}
use Rattle.step_laws.specs.Letters as step_laws
use Rattle.step_laws.specs.Moves.{with_letter}
use Rattle.epoch_machine.specs.Letters as letter
use Rattle.epoch_machine.specs.Tunnels.{Tunnels, Closed}
use Rattle.epoch_machine.specs.Worlds.{World, gives, leaves}
use Rattle.epoch_machine.specs.Moves.{Closes}
use Rattle.connection_laws.specs.Accounts.{Taken, Account}
use Rattle.connection_laws.proofs.States.{IsWaiting, is_waiting, lost_unless}
use Rattle.connection_laws.specs.Facts.{Accounts, IsOpen, IsLost, IsPart, IsOpener, LiveOk}
use Rattle.connection_laws.specs.Steps.{after}
use Rattle.session_laws.specs.Names.{name, learned_name}
use Rattle.session_laws.specs.Joined.{Ends, TunnelJoined}
use Rattle.session_laws.proofs.Learned.{early_learned, none_learned}
use Rattle.session_laws.proofs.Keeps.{with_end, Laws, IsMade, Follows}
use Rattle.session_laws.proofs.Closing.{closes_is}
use Rattle.session_laws.proofs.Entering.{after_here, with_taken, taken_as, takes_and_gives}
use Rattle.session_laws.proofs.States.{IsAtWork, at_work, not_closed, heeds_all}
use Rattle.session_laws.proofs.Letters.{stays_on, given_elsewhere, given_tunnels, given_calls, letters_joined}
use Rattle.session_laws.proofs.Heard.{here_joined, here_active}
use Rattle.session_laws.proofs.Greeting.{gives_here}
use Rattle.session_laws.proofs.Leaving.{leaves_elsewhere, leaves_phase, leaves_learned, leaves_up, leaves_letters, leaves_calls, left_put, left_follows}

-- an opener that has learned none, and isn't closed, has taken nothing
opener_took : (accs : Accounts) (n i : ℕ) (a : Account) → IsOpener accs n i a → a.remote ≡ 0 → IsOpen a → a.taken ≡ []
opener_took accs n i a opener none is_open = ⊎_elim
    (λ (nothing : a.taken ≡ []). nothing)
    (λ (lost : IsLost a × (length a.taken ≤ 2)). absurd (lost_unless a is_open lost.0))
    (opener.none none)

-- ---- in the end

module _ (laws : Laws) (accs : Accounts) (ends : Ends) (w : World) (n : ℕ) (e x : End) (sender : Option Sender) (moment : ℕ) (ev : Event)
    (m : Rejected) (d : Deed) (h : IsMade accs ends w n e x sender moment ev (move.Rejected m) d) where
  abbrev i : ℕ
  i = m.tunnel

  abbrev t : Tunnel
  t = h.moved.does.tunnel

  abbrev a : Account
  a = accs n i

  -- the StopCCN
  abbrev last : step_laws.Letter
  last = record { tunnel = m.tunnel; place = m.given; session = 0; message = message.StopCcn m.tunnel m.result m.error; hidden = None }

  abbrev closed : Account
  closed = record a { remote = m.remote; closed = Some (length a.taken) }

  abbrev tk : Taken
  tk = taken_as sender m.taken (move.Rejected m)

  abbrev b : Account
  b = with_taken tk (last ∷ []) closed

  is : after accs d n i ≡ b
  is = after_here accs d n (move.Rejected m) h.moved.deed.node_is h.moved.deed.move_is (λ k j. refl)
      ∙ takes_and_gives d n e.role sender (move.Rejected m) m.taken closed h.moved.deed

  abbrev told : Tunnel
  told = with_letter 0 (message.StopCcn m.tunnel m.result m.error) (record t {
    control = record (counts_taken t.control) { state = state.Closed; remote = m.remote; closed = moment };
  })

  abbrev u : Tunnel
  u = record told { calls = [] }

  not_shut : is_closed t.control.state ≡ false
  not_shut = not_closed t.control.state 1 h.moved.does.waits (omega arith)

  live : LiveOk accs n i a t
  live = h.moved.within.end.live i t h.moved.does.there

  works : IsAtWork a t
  works = at_work accs n i a t live not_shut

  old : TunnelJoined w n i a (Some t)
  old = here_joined accs ends w n e x sender moment ev (move.Rejected m) d h i t h.moved.does.there

  abbrev X : ℕ
  X = name n i

  abbrev and_given : World
  and_given = gives w X letter.StopCcn

  abbrev v : World
  v = leaves and_given X Closed

  -- it waited for its SCCRP
  waits : IsWaiting a t a.part
  waits = is_waiting accs i a t a.part live.state h.moved.does.waits

  nothing : a.taken ≡ []
  nothing = opener_took accs n i a (subst (IsPart accs n i a) waits.part (h.moved.within.accounts n i).part) waits.remote waits.is_open

  -- so it had learned none, and learns none
  learned : v.tunnels.learned X ≡ learned_name b
  learned = ap (λ (f : ℕ → ℕ). f X) (leaves_learned and_given X Closed)
      ∙ ap (λ (ts : Tunnels). ts.learned X) (given_tunnels w X letter.StopCcn) ∙ old.learned ∙ none_learned a waits.remote
      ∙ sym (early_learned b waits.part (ap (λ (ts : List Taken). Some (length ts)) nothing))

  tunnel : TunnelJoined v n i b (Some u)
  tunnel = letters_joined w v n i a b (last ∷ []) 0 (Some t) (Some u) old
      (leaves_letters w and_given X Closed (letter.StopCcn ∷ []) 0 (gives_here w X letter.StopCcn old.entered))
      (record { part = refl; peer = refl; given = refl; heeds = sym (heeds_all a works.is_open) ∙ (omega arith); declined = refl })
      learned (leaves_phase and_given X Closed)

  pub rejected_follows : Follows w n e x (move.Rejected m) (after accs d) (with_end ends n x)
  rejected_follows =
      let tunnels_are = ap (λ (y : End). y.tunnels) h.moved.does.after in
      left_follows accs ends w n e x sender moment ev (move.Rejected m) d h v t tt
      (left_put e x i t u h.moved.does.there tunnels_are refl (ap (λ (y : End). y.session_ids) h.moved.does.after)
      (ap (λ (y : End). y.role) h.moved.does.after))
      (leaves_calls w and_given X Closed (given_calls w X letter.StopCcn))
      (record {
        tunnels = λ y other.
            stays_on w and_given v y (given_elsewhere w X letter.StopCcn y other) (leaves_elsewhere and_given X Closed y other);
        tunnel = rw (tunnels_are, at_new e.tunnels i u, is) tunnel;
        up = leaves_up and_given X Closed ∙ ap (λ (ts : Tunnels). ts.up) (given_tunnels w X letter.StopCcn);
        move = Closes X;
        does = closes_is w X (here_active accs ends w n e x sender moment ev (move.Rejected m) d h i t h.moved.does.there not_shut);
      })
