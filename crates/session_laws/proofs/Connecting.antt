-- An opener takes the SCCRP of the tunnel that it learns, and is connected; so it is in the machine.
use Rattle.std.proofs.Common.{◌≡◌, ℕ, Bool, true, false, cond, [], ◌∷◌, ◌++◌, length, refl, sym, ap, ap₂, ◌∙◌, Option, Some, arith, eq-eqb, ne_eqb, None}
use Rattle.std.specs.Prelude.{◌==◌}
use Rattle.control_message.specs.declared.message.Message.TheVariants.{Sccrp, Scccn}
use Rattle.control_channel.specs.Numbers.{learnt_by}
use Rattle.tunnel_fsm.specs.declared.table.TunnelState.TheVariants.{Established}
use Rattle.tunnel_fsm.specs.Rows.{state_number}
use Rattle.end_model.specs.declared.event.Event.{Event}
use Rattle.end_model.specs.declared.moves.Connected.{Connected}
use Rattle.end_model.specs.declared.moves.Move.TheVariants as move
use Rattle.end_model.specs.declared.tunnel.Control.{Control}
use Rattle.end_model.specs.Tunnels.{Tunnel}
use Rattle.end_model.specs.Channels.{counts_taken, learns_window}
use Rattle.end_model.specs.End.{End}
use Rattle.world_model.specs.World.{Sender, Deed}
use Rattle.step_laws.specs.Letters as step_laws
use Rattle.step_laws.specs.Moves.{heard_so, with_letter}
use Rattle.epoch_machine.specs.Letters as letter
use Rattle.epoch_machine.specs.Tunnels.{WaitReply, Open, established_with}
use Rattle.epoch_machine.specs.Worlds.{World, all_rules, gives, took_one, connects, takes}
use Rattle.epoch_machine.specs.Moves.{Delivers}
use Rattle.connection_laws.specs.Accounts.{Taken, Account}
use Rattle.connection_laws.specs.Facts.{Accounts}
use Rattle.connection_laws.specs.Steps.{after}
use Rattle.session_laws.specs.Names.{name, phase_of, learned_name, name_of}
use Rattle.session_laws.specs.Joined.{Ends, TunnelJoined}
use Rattle.session_laws.proofs.Learned.{open_learned}
use Rattle.session_laws.proofs.Keeps.{with_end, Laws, IsMade, Follows}
use Rattle.session_laws.proofs.Entering.{after_here, with_taken, taken_as, takes_and_gives}
use Rattle.session_laws.proofs.Names.{known_name}
use Rattle.session_laws.proofs.States.{not_closed, heeds_one}
use Rattle.session_laws.proofs.Ground.{TunnelStays, Old, one_step, tunnel_moves_follow}
use Rattle.session_laws.proofs.Letters.{stays_on, given_elsewhere, taken_elsewhere, given_sent, given_taken, given_refused, took_taken, took_sent, took_refused, LettersMove, letters_joined}
use Rattle.session_laws.proofs.Heard.{Delivered, delivered, here_fits, here_joined, partner_now}

-- ---- what the machine does with tunnels

established_with_elsewhere : (w : World) (x s y : ℕ) → (y ≡ x → ⊥) → TunnelStays w (record w { tunnels = established_with w.tunnels x s }) y
unfolding established_with
established_with_elsewhere w x s y other = record {
  drawn = refl;
  opener = refl;
  node = refl;
  peer = refl;
  learned = rw (ne_eqb y x other) refl;
  phase = rw (ne_eqb y x other) refl;
  entered = refl;
  sent = refl;
  taken = refl;
  refused = refl;
  asks = λ z. refl;
}

-- an opener takes the SCCRP
abbrev with_learned : World → ℕ → ℕ → World
with_learned w x s = record (took_one w x) { tunnels = established_with (took_one w x).tunnels x s }

takes_sccrp : (w : World) (x s z : ℕ) → w.tunnels.phase x ≡ WaitReply → takes all_rules (took_one w x) x s letter.Sccrp z ≡ connects (took_one w x) x s
unfolding takes took_one
takes_sccrp w x s z waits = rw waits refl

connects_is : (w : World) (x s : ℕ) → connects (took_one w x) x s ≡ gives (with_learned w x s) x letter.Scccn
unfolding connects
connects_is w x s = refl

connects_elsewhere : (w : World) (x s y : ℕ) → (y ≡ x → ⊥) → TunnelStays w (gives (with_learned w x s) x letter.Scccn) y
connects_elsewhere w x s y other =
    stays_on w (with_learned w x s) (gives (with_learned w x s) x letter.Scccn) y
    (stays_on w (took_one w x) (with_learned w x s) y (taken_elsewhere w x y other) (established_with_elsewhere (took_one w x) x s y other))
    (given_elsewhere (with_learned w x s) x letter.Scccn y other)

connects_here : (w : World) (x s : ℕ) → w.tunnels.entered x ≡ 0 → LettersMove w (gives (with_learned w x s) x letter.Scccn) x (letter.Scccn ∷ []) 1
unfolding gives took_one established_with
connects_here w x s now = record {
  drawn = refl;
  opener = refl;
  node = refl;
  peer = refl;
  entered = refl;
  sent = given_sent (with_learned w x s) x letter.Scccn now ∙ ap (λ ls. ls ++ letter.Scccn ∷ []) (took_sent w x x);
  taken = given_taken (with_learned w x s) x letter.Scccn x ∙ took_taken w x now;
  refused = given_refused (with_learned w x s) x letter.Scccn x ∙ took_refused w x x;
  asks = λ z. refl;
}

connects_learned : (w : World) (x s : ℕ) → (gives (with_learned w x s) x letter.Scccn).tunnels.learned x ≡ s
unfolding gives established_with
connects_learned w x s = rw (eq-eqb x x refl) refl

connects_phase : (w : World) (x s : ℕ) → (gives (with_learned w x s) x letter.Scccn).tunnels.phase x ≡ Open
unfolding gives established_with
connects_phase w x s = rw (eq-eqb x x refl) refl

connects_up : (w : World) (x s : ℕ) → (gives (with_learned w x s) x letter.Scccn).tunnels.up ≡ w.tunnels.up
unfolding gives established_with took_one
connects_up w x s = refl

connects_calls : (w : World) (x s : ℕ) → (gives (with_learned w x s) x letter.Scccn).calls ≡ w.calls
unfolding gives took_one
connects_calls w x s = refl

-- ---- a peer's window becomes known

pub learns_state : (window : ℕ) (c : Control) → (learns_window window c).state ≡ c.state
learns_state window c = by (window == 0)
  where
    by : (none : Bool) → (cond none c (record c { channel = learnt_by c.channel window })).state ≡ c.state
    by true = refl
    by false = refl

-- ---- an opener is connected

module _ (laws : Laws) (accs : Accounts) (ends : Ends) (w : World) (n : ℕ) (e x : End) (sender : Option Sender) (moment : ℕ) (ev : Event)
    (m : Connected) (d : Deed) (h : IsMade accs ends w n e x sender moment ev (move.Connected m) d) where
  abbrev i : ℕ
  i = m.tunnel

  abbrev t : Tunnel
  t = h.moved.does.tunnel

  abbrev a : Account
  a = accs n i

  -- the SCCCN
  abbrev last : step_laws.Letter
  last = record { tunnel = m.tunnel; place = m.given; session = 0; message = Scccn m.response; hidden = None }

  abbrev tk : Taken
  tk = taken_as sender m.taken (move.Connected m)

  abbrev b : Account
  b = with_taken tk (last ∷ []) (record a { remote = m.remote })

  is : after accs d n i ≡ b
  is = after_here accs d n (move.Connected m) h.moved.deed.node_is h.moved.deed.move_is (λ k j. refl)
      ∙ takes_and_gives d n e.role sender (move.Connected m) m.taken (record a { remote = m.remote }) h.moved.deed

  abbrev u : Tunnel
  u = with_letter 0 (Scccn m.response) (record t { control = counts_taken (learns_window m.window (record t.control { remote = m.remote; flags = m.flags; state = Established })) })

  del : Delivered accs w n i sender h.moved.does.letter.header.session (Sccrp h.moved.does.opening)
  del = delivered laws.heard accs ends w n e x sender moment ev (move.Connected m) d h i t h.moved.does.there
      (not_closed t.control.state 1 (ap state_number h.moved.does.state) (omega arith)) h.moved.does.letter.header.session
      (Sccrp h.moved.does.opening) tt
      (heard_so ev t h.moved.does.letter (Sccrp h.moved.does.opening) h.moved.does.takes.next h.moved.does.said)

  old : TunnelJoined w n i a (Some t)
  old = here_joined accs ends w n e x sender moment ev (move.Connected m) d h i t h.moved.does.there

  abbrev X : ℕ
  X = name n i

  abbrev S : ℕ
  S = name del.from.node del.from.tunnel

  abbrev v : World
  v = gives (with_learned w X S) X letter.Scccn

  partner : (a.peer ≡ del.from.node) × (m.remote ≡ del.from.tunnel)
  partner = partner_now accs ends w n e x sender moment ev (move.Connected m) d h i (record a { remote = m.remote }) tk (last ∷ []) del.from is
      del.is_open del.sender_is

  learned : v.tunnels.learned X ≡ learned_name b
  learned = connects_learned w X S ∙ sym (known_name del.from.node del.from.tunnel del.some) ∙ sym (ap₂ name_of partner.0 partner.1)
      ∙ sym (open_learned b del.is_open)

  state : u.control.state ≡ Established
  state = learns_state m.window (record t.control { remote = m.remote; flags = m.flags; state = Established })

  tunnel : TunnelJoined v n i b (Some u)
  tunnel = letters_joined w v n i a b (last ∷ []) 1 (Some t) (Some u) old (connects_here w X S old.entered)
      (record {
        part = refl;
        peer = refl;
        given = refl;
        heeds = heeds_one tk (last ∷ []) (record a { remote = m.remote }) del.is_open;
        declined = refl;
      })
      learned
      (connects_phase w X S ∙ ap phase_of (sym state))

  pub connected_follows : Follows w n e x (move.Connected m) (after accs d) (with_end ends n x)
  connected_follows = tunnel_moves_follow accs ends w n e x sender moment ev (move.Connected m) d h tt v u (record {
    id = here_fits accs ends w n e x sender moment ev (move.Connected m) d h i t h.moved.does.there;
    put_is = ap (λ (y : End). y.tunnels) h.moved.does.after;
    sessions = ap (λ (y : End). y.session_ids) h.moved.does.after;
    role = ap (λ (y : End). y.role) h.moved.does.after;
    before = Old t h.moved.does.there refl (λ one. ap state_number h.moved.does.state) (ap (λ (y : Account). y.peer) is);
    tunnels = connects_elsewhere w X S;
    tunnel = rw is tunnel;
    calls = connects_calls w X S;
    up = λ k. ap (λ (f : ℕ → Bool). f k) (connects_up w X S);
    more = Delivers X S 0 (length a.taken) 0 ∷ [];
    run = sym (one_step all_rules w (Delivers X S 0 (length a.taken) 0) ∙ del.is 0
        ∙ takes_sccrp w X S 0 (old.phase ∙ ap phase_of h.moved.does.state) ∙ connects_is w X S);
  })
