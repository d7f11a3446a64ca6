-- A tunnel gives a HELLO, in the machine too.
use Rattle.std.proofs.Common.{◌≡◌, ℕ, [], ◌∷◌, refl, sym, ap, ◌∙◌, Option, Some, arith, None}
use Rattle.control_message.specs.declared.message.Message.TheVariants.{Hello}
use Rattle.end_model.specs.declared.event.Event.{Event}
use Rattle.end_model.specs.declared.moves.Greeted.{Greeted}
use Rattle.end_model.specs.declared.moves.Move.TheVariants as move
use Rattle.end_model.specs.Tunnels.{Tunnel}
use Rattle.end_model.specs.End.{End}
use Rattle.world_model.specs.World.{Sender, Deed}
use Rattle.step_laws.specs.Letters as step_laws
use Rattle.step_laws.specs.Moves.{with_letter}
use Rattle.epoch_machine.specs.Letters as letter
use Rattle.epoch_machine.specs.Tunnels.{Tunnels, Open}
use Rattle.epoch_machine.specs.Worlds.{World, all_rules, gives}
use Rattle.epoch_machine.specs.Moves.{SaysHello, step}
use Rattle.connection_laws.specs.Accounts.{Account}
use Rattle.connection_laws.specs.Facts.{Accounts}
use Rattle.connection_laws.specs.Steps.{after}
use Rattle.session_laws.specs.Names.{name}
use Rattle.session_laws.specs.Joined.{Ends, TunnelJoined}
use Rattle.session_laws.proofs.Keeps.{with_end, Laws, IsMade, Follows}
use Rattle.session_laws.proofs.Entering.{after_here, with_given, gives_only}
use Rattle.session_laws.proofs.Ground.{Old, one_step, tunnel_moves_follow}
use Rattle.session_laws.proofs.Letters.{given_elsewhere, given_sent, given_taken, given_refused, given_tunnels, given_calls, LettersMove, letters_joined}
use Rattle.session_laws.proofs.Heard.{here_fits, here_joined, open_phase}

-- ---- what the machine does

greets_is : (w : World) (x : ℕ) → w.tunnels.phase x ≡ Open → step all_rules w (SaysHello x) ≡ gives w x letter.Hello
unfolding step
greets_is w x is = rw is refl

pub gives_here : (w : World) (x : ℕ) (l : letter.Letter) → w.tunnels.entered x ≡ 0 → LettersMove w (gives w x l) x (l ∷ []) 0
unfolding gives
gives_here w x l now = record {
  drawn = refl;
  opener = refl;
  node = refl;
  peer = refl;
  entered = refl;
  sent = given_sent w x l now;
  taken = given_taken w x l x ∙ (omega arith);
  refused = given_refused w x l x;
  asks = λ z. refl;
}

module _ (laws : Laws) (accs : Accounts) (ends : Ends) (w : World) (n : ℕ) (e x : End) (sender : Option Sender) (moment : ℕ) (ev : Event)
    (m : Greeted) (d : Deed) (h : IsMade accs ends w n e x sender moment ev (move.Greeted m) d) where
  abbrev i : ℕ
  i = m.tunnel

  abbrev t : Tunnel
  t = h.moved.does.tunnel

  abbrev a : Account
  a = accs n i

  abbrev hello : step_laws.Letter
  hello = record { tunnel = m.tunnel; place = m.given; session = 0; message = Hello; hidden = None }

  abbrev b : Account
  b = with_given (hello ∷ []) a

  is : after accs d n i ≡ b
  is = after_here accs d n (move.Greeted m) h.moved.deed.node_is h.moved.deed.move_is (λ k j. refl)
      ∙ gives_only d n e.role sender (move.Greeted m) a h.moved.deed

  abbrev u : Tunnel
  u = with_letter 0 Hello t

  old : TunnelJoined w n i a (Some t)
  old = here_joined accs ends w n e x sender moment ev (move.Greeted m) d h i t h.moved.does.there

  abbrev X : ℕ
  X = name n i

  abbrev v : World
  v = gives w X letter.Hello

  tunnel : TunnelJoined v n i b (Some u)
  tunnel = letters_joined w v n i a b (hello ∷ []) 0 (Some t) (Some u) old (gives_here w X letter.Hello old.entered)
      (record { part = refl; peer = refl; given = refl; heeds = omega arith; declined = refl })
      (ap (λ (ts : Tunnels). ts.learned X) (given_tunnels w X letter.Hello) ∙ old.learned)
      (ap (λ (ts : Tunnels). ts.phase X) (given_tunnels w X letter.Hello) ∙ old.phase)

  pub greeted_follows : Follows w n e x (move.Greeted m) (after accs d) (with_end ends n x)
  greeted_follows = tunnel_moves_follow accs ends w n e x sender moment ev (move.Greeted m) d h tt v u (record {
    id = here_fits accs ends w n e x sender moment ev (move.Greeted m) d h i t h.moved.does.there;
    put_is = ap (λ (y : End). y.tunnels) h.moved.does.after;
    sessions = ap (λ (y : End). y.session_ids) h.moved.does.after;
    role = ap (λ (y : End). y.role) h.moved.does.after;
    before = Old t h.moved.does.there refl (λ one. one) (ap (λ (y : Account). y.peer) is);
    tunnels = given_elsewhere w X letter.Hello;
    tunnel = rw is tunnel;
    calls = given_calls w X letter.Hello;
    up = λ k. ap (λ (ts : Tunnels). ts.up k) (given_tunnels w X letter.Hello);
    more = SaysHello X ∷ [];
    run = sym (one_step all_rules w (SaysHello X) ∙ greets_is w X (old.phase ∙ open_phase t.control.state h.moved.does.open_is));
  })
