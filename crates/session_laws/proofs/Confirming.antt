-- An acceptor takes the SCCCN of its opener, and is connected; so it is in the machine.
use Rattle.std.proofs.Common.{◌≡◌, ℕ, Bool, [], ◌∷◌, length, refl, sym, ap, ◌∙◌, append-nil, Option, Some, arith, eq-eqb, ne_eqb}
use Rattle.control_message.specs.declared.message.Message.TheVariants.{Scccn}
use Rattle.tunnel_fsm.specs.declared.table.TunnelState.TheVariants.{Established}
use Rattle.tunnel_fsm.specs.Rows.{state_number}
use Rattle.end_model.specs.declared.event.Event.{Event}
use Rattle.end_model.specs.declared.moves.Confirmed.{Confirmed}
use Rattle.end_model.specs.declared.moves.Move.TheVariants as move
use Rattle.end_model.specs.Tunnels.{Tunnel}
use Rattle.end_model.specs.Openings.{in_state}
use Rattle.end_model.specs.Channels.{counts_taken}
use Rattle.end_model.specs.End.{End}
use Rattle.world_model.specs.World.{Sender, Deed}
use Rattle.epoch_machine.specs.Letters as letter
use Rattle.epoch_machine.specs.Tunnels.{WaitConnect, Open, established}
use Rattle.epoch_machine.specs.Channels.{counts}
use Rattle.epoch_machine.specs.Worlds.{World, all_rules, took_one, is_connected, takes}
use Rattle.epoch_machine.specs.Moves.{Delivers}
use Rattle.step_laws.specs.Moves.{heard_so}
use Rattle.connection_laws.specs.Accounts.{Taken, Account}
use Rattle.connection_laws.specs.Facts.{Accounts}
use Rattle.connection_laws.specs.Steps.{after}
use Rattle.session_laws.specs.Names.{name, phase_of}
use Rattle.session_laws.specs.Joined.{Ends, TunnelJoined}
use Rattle.session_laws.proofs.Keeps.{with_end, Laws, IsMade, Follows}
use Rattle.session_laws.proofs.Entering.{after_here, with_taken, taken_as, takes_only}
use Rattle.session_laws.proofs.States.{not_closed, heeds_one}
use Rattle.session_laws.proofs.Ground.{TunnelStays, Old, one_step, tunnel_moves_follow}
use Rattle.session_laws.proofs.Letters.{took_taken, took_sent, took_refused, LettersMove, letters_joined}
use Rattle.session_laws.proofs.Heard.{Delivered, delivered, here_fits, here_joined}

-- ---- what the machine does

takes_scccn : (w : World) (x s z : ℕ) → w.tunnels.phase x ≡ WaitConnect → takes all_rules (took_one w x) x s letter.Scccn z ≡ is_connected (took_one w x) x
unfolding takes took_one
takes_scccn w x s z waits = rw waits refl

confirms_elsewhere : (w : World) (x y : ℕ) → (y ≡ x → ⊥) → TunnelStays w (is_connected (took_one w x) x) y
unfolding is_connected established took_one counts
confirms_elsewhere w x y other = record {
  drawn = refl;
  opener = refl;
  node = refl;
  peer = refl;
  learned = refl;
  phase = rw (ne_eqb y x other) refl;
  entered = refl;
  sent = refl;
  taken = rw (ne_eqb y x other) refl;
  refused = refl;
  asks = λ z. refl;
}

confirms_taken : (w : World) (x : ℕ) → (is_connected (took_one w x) x).channels ≡ (took_one w x).channels
unfolding is_connected
confirms_taken w x = refl

confirms_here : (w : World) (x : ℕ) → w.tunnels.entered x ≡ 0 → LettersMove w (is_connected (took_one w x) x) x [] 1
unfolding is_connected established took_one
confirms_here w x now = record {
  drawn = refl;
  opener = refl;
  node = refl;
  peer = refl;
  entered = refl;
  sent = took_sent w x x ∙ sym (append-nil (w.channels.sent x 0));
  taken = took_taken w x now;
  refused = took_refused w x x;
  asks = λ z. refl;
}

confirms_phase : (w : World) (x : ℕ) → (is_connected (took_one w x) x).tunnels.phase x ≡ Open
unfolding is_connected established
confirms_phase w x = rw (eq-eqb x x refl) refl

confirms_learned : (w : World) (x : ℕ) → (is_connected (took_one w x) x).tunnels.learned ≡ w.tunnels.learned
unfolding is_connected established took_one
confirms_learned w x = refl

confirms_up : (w : World) (x : ℕ) → (is_connected (took_one w x) x).tunnels.up ≡ w.tunnels.up
unfolding is_connected established took_one
confirms_up w x = refl

confirms_calls : (w : World) (x : ℕ) → (is_connected (took_one w x) x).calls ≡ w.calls
unfolding is_connected took_one
confirms_calls w x = refl

module _ (laws : Laws) (accs : Accounts) (ends : Ends) (w : World) (n : ℕ) (e x : End) (sender : Option Sender) (moment : ℕ) (ev : Event)
    (m : Confirmed) (d : Deed) (h : IsMade accs ends w n e x sender moment ev (move.Confirmed m) d) where
  abbrev i : ℕ
  i = m.tunnel

  abbrev t : Tunnel
  t = h.moved.does.tunnel

  abbrev a : Account
  a = accs n i

  abbrev tk : Taken
  tk = taken_as sender m.taken (move.Confirmed m)

  abbrev b : Account
  b = with_taken tk [] a

  is : after accs d n i ≡ b
  is = after_here accs d n (move.Confirmed m) h.moved.deed.node_is h.moved.deed.move_is (λ k j. refl)
      ∙ takes_only d n e.role sender (move.Confirmed m) m.taken a h.moved.deed

  abbrev u : Tunnel
  u = record t { control = counts_taken (in_state Established t.control) }

  del : Delivered accs w n i sender h.moved.does.letter.header.session (Scccn h.moved.does.response)
  del = delivered laws.heard accs ends w n e x sender moment ev (move.Confirmed m) d h i t h.moved.does.there
      (not_closed t.control.state 2 (ap state_number h.moved.does.state) (omega arith)) h.moved.does.letter.header.session (Scccn h.moved.does.response) tt
      (heard_so ev t h.moved.does.letter (Scccn h.moved.does.response) h.moved.does.takes.next h.moved.does.said)

  old : TunnelJoined w n i a (Some t)
  old = here_joined accs ends w n e x sender moment ev (move.Confirmed m) d h i t h.moved.does.there

  abbrev X : ℕ
  X = name n i

  abbrev S : ℕ
  S = name del.from.node del.from.tunnel

  abbrev v : World
  v = is_connected (took_one w X) X

  tunnel : TunnelJoined v n i b (Some u)
  tunnel = letters_joined w v n i a b [] 1 (Some t) (Some u) old (confirms_here w X old.entered)
      (record { part = refl; peer = refl; given = refl; heeds = heeds_one tk [] a del.is_open; declined = refl })
      (ap (λ (f : ℕ → ℕ). f X) (confirms_learned w X) ∙ old.learned)
      (confirms_phase w X)

  pub confirmed_follows : Follows w n e x (move.Confirmed m) (after accs d) (with_end ends n x)
  confirmed_follows = tunnel_moves_follow accs ends w n e x sender moment ev (move.Confirmed m) d h tt v u (record {
    id = here_fits accs ends w n e x sender moment ev (move.Confirmed m) d h i t h.moved.does.there;
    put_is = ap (λ (y : End). y.tunnels) h.moved.does.after;
    sessions = ap (λ (y : End). y.session_ids) h.moved.does.after;
    role = ap (λ (y : End). y.role) h.moved.does.after;
    before = Old t h.moved.does.there refl (λ one. absurd (omega (arith, one))) (ap (λ (y : Account). y.peer) is);
    tunnels = confirms_elsewhere w X;
    tunnel = rw is tunnel;
    calls = confirms_calls w X;
    up = λ k. ap (λ (f : ℕ → Bool). f k) (confirms_up w X);
    more = Delivers X S 0 (length a.taken) 0 ∷ [];
    run = sym (one_step all_rules w (Delivers X S 0 (length a.taken) 0) ∙ del.is 0
        ∙ takes_scccn w X S 0 (old.phase ∙ ap phase_of h.moved.does.state));
  })
