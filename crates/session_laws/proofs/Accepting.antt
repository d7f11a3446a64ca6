-- An opener's SCCRQ makes a tunnel at the peer's node, in the machine too.
use Rattle.std.proofs.Common.{◌≡◌, ℕ, ◌+◌, ◌<◌, Bool, true, false, [], ◌∷◌, ◌++◌, refl, sym, ap, ap₂, ◌∙◌, subst, Option, Some, None, eq-eqb, ne_eqb}
use Rattle.std.proofs.lemmas.Bool.{lt-ltb}
use Rattle.id_table.specs.Ids.{at}
use Rattle.control_message.specs.declared.message.Message.TheVariants.{Sccrp}
use Rattle.tunnel_fsm.specs.declared.table.TunnelState.TheVariants.{WaitCtlConn}
use Rattle.end_model.specs.declared.event.Event.{Event}
use Rattle.end_model.specs.declared.moves.Accepted.{Accepted}
use Rattle.end_model.specs.declared.moves.Move.TheVariants as move
use Rattle.end_names.specs.Names.{node_of}
use Rattle.end_model.specs.Tunnels.{Tunnel, new_tunnel}
use Rattle.end_model.specs.Messages.{flags_of, opening_of}
use Rattle.end_model.specs.Channels.{counts_taken, learns_window}
use Rattle.end_model.specs.End.{End}
use Rattle.world_model.specs.World.{Sender, Deed, config_of}
use Rattle.step_laws.specs.Letters as step_laws
use Rattle.step_laws.specs.Moves.{with_letter, begun}
use Rattle.epoch_machine.specs.Letters as letter
use Rattle.epoch_machine.specs.Tunnels.{WaitConnect, accepted}
use Rattle.epoch_machine.specs.Worlds.{World, all_rules, gives, took_one}
use Rattle.epoch_machine.specs.Moves.{Accepts, may_accept, accepts, step}
use Rattle.connection_laws.specs.Accounts.{Opener, Acceptor, Taken, Account, no_account}
use Rattle.connection_laws.specs.Facts as facts
use Rattle.connection_laws.specs.Facts.{Accounts, AccountOk, IsAcceptor, partner_in}
use Rattle.connection_laws.specs.Steps.{after}
use Rattle.session_laws.specs.Names.{name, letter_of, phase_of}
use Rattle.session_laws.specs.Joined.{Ends, TunnelJoined, tunnel_in}
use Rattle.session_laws.proofs.Keeps.{with_end, Laws, IsMade, Follows}
use Rattle.session_laws.proofs.Entering.{after_here, after_elsewhere, with_taken, taken_as, takes_and_gives}
use Rattle.session_laws.proofs.Names.{name_some, known_name}
use Rattle.session_laws.proofs.Ground.{TunnelStays, New, one_step, tunnel_before, tunnel_moves_follow}
use Rattle.session_laws.proofs.Letters.{stays_on, given_elsewhere, taken_elsewhere, given_sent, given_taken, given_refused, took_taken, took_sent, took_refused}
use Rattle.session_laws.proofs.Connecting.{learns_state}
use Rattle.session_laws.proofs.Drawing.{id_some, id_fits, no_account_yet, no_tunnel_yet}

-- ---- what the machine does

abbrev with_accepted : World → ℕ → ℕ → World
with_accepted w s x = record w { tunnels = accepted w.tunnels s x }

abbrev and_given : World → ℕ → ℕ → World
and_given w s x = gives (with_accepted w s x) x letter.Sccrp

abbrev and_taken : World → ℕ → ℕ → World
and_taken w s x = took_one (and_given w s x) x

accepts_is : (w : World) (s x : ℕ) → w.tunnels.up (w.tunnels.peer s) ≡ true → w.tunnels.drawn s ≡ true → w.tunnels.opener s ≡ true → 0 < x
    → w.tunnels.drawn x ≡ false → step all_rules w (Accepts s x) ≡ and_taken w s x
unfolding step may_accept accepts
accepts_is w s x up drawn opener some new = rw (up, drawn, opener, lt-ltb 0 x some, new) refl

accepted_elsewhere : (w : World) (s x y : ℕ) → (y ≡ x → ⊥) → TunnelStays w (with_accepted w s x) y
unfolding accepted
accepted_elsewhere w s x y other = record {
  drawn = rw (ne_eqb y x other) refl;
  opener = refl;
  node = rw (ne_eqb y x other) refl;
  peer = rw (ne_eqb y x other) refl;
  learned = rw (ne_eqb y x other) refl;
  phase = rw (ne_eqb y x other) refl;
  entered = refl;
  sent = refl;
  taken = refl;
  refused = refl;
  asks = λ z. refl;
}

accepts_elsewhere : (w : World) (s x y : ℕ) → (y ≡ x → ⊥) → TunnelStays w (and_taken w s x) y
accepts_elsewhere w s x y other =
    stays_on w (and_given w s x) (and_taken w s x) y
    (stays_on w (with_accepted w s x) (and_given w s x) y (accepted_elsewhere w s x y other)
    (given_elsewhere (with_accepted w s x) x letter.Sccrp y other))
    (taken_elsewhere (and_given w s x) x y other)

accepts_up : (w : World) (s x : ℕ) → (and_taken w s x).tunnels.up ≡ w.tunnels.up
unfolding took_one gives accepted
accepts_up w s x = refl

accepts_calls : (w : World) (s x : ℕ) → (and_taken w s x).calls ≡ w.calls
unfolding took_one gives
accepts_calls w s x = refl

-- an acceptor that took the SCCRQ and gave its SCCRP
abbrev as_acceptor : ℕ → ℕ → Taken → step_laws.Letter → Account
as_acceptor peer remote tk first = record no_account { part = Acceptor; peer = peer; remote = remote; given = first ∷ []; taken = tk ∷ [] }

-- what the opener is in the machine
record IsOpenerOf (w : World) (n m j : ℕ) : Type 0 where
  node : w.tunnels.node (name m j) ≡ m
  peer : w.tunnels.peer (name m j) ≡ n
  some : 0 < j

accepts_here : (w : World) (n i m j : ℕ) (tk : Taken) (first : step_laws.Letter) (o : Option Tunnel) (u : Tunnel) → TunnelJoined w n i no_account o
    → IsOpenerOf w n m j → letter_of n m first ≡ letter.Sccrp → phase_of u.control.state ≡ WaitConnect
    → TunnelJoined (and_taken w (name m j) (name n i)) n i (as_acceptor m j tk first) (Some u)
unfolding took_one gives accepted
accepts_here w n i m j tk first o u h k says waits = record {
  drawn = rw (eq-eqb (name n i) (name n i) refl) refl;
  opener = h.opener;
  node = λ made. rw (eq-eqb (name n i) (name n i) refl) k.peer;
  peer = λ made. rw (eq-eqb (name n i) (name n i) refl) k.node;
  learned = rw (eq-eqb (name n i) (name n i) refl) (sym (known_name m j k.some));
  phase = rw (eq-eqb (name n i) (name n i) refl, waits) refl;
  entered = h.entered;
  sent = took_sent (and_given w (name m j) (name n i)) (name n i) (name n i)
      ∙ given_sent (with_accepted w (name m j) (name n i)) (name n i) letter.Sccrp h.entered
      ∙ ap (λ ls. ls ++ letter.Sccrp ∷ []) h.sent ∙ ap (λ l. l ∷ []) (sym says);
  taken = took_taken (and_given w (name m j) (name n i)) (name n i) h.entered
      ∙ ap (λ c. 1 + c) (given_taken (with_accepted w (name m j) (name n i)) (name n i) letter.Sccrp (name n i) ∙ h.taken);
  refused = took_refused (and_given w (name m j) (name n i)) (name n i) (name n i)
      ∙ given_refused (with_accepted w (name m j) (name n i)) (name n i) letter.Sccrp (name n i) ∙ h.refused;
  asks = h.asks;
}

-- ---- a tunnel is accepted

module _ (laws : Laws) (accs : Accounts) (ends : Ends) (w : World) (n : ℕ) (e x : End) (sender : Option Sender) (moment : ℕ) (ev : Event)
    (m : Accepted) (d : Deed) (h : IsMade accs ends w n e x sender moment ev (move.Accepted m) d) where
  abbrev i : ℕ
  i = m.tunnel

  abbrev peer : ℕ
  peer = node_of m.peer

  -- the SCCRP
  abbrev first : step_laws.Letter
  first = record { tunnel = m.tunnel; place = m.given; session = 0; message = Sccrp (opening_of e.role (config_of n 0 None false) m.challenge m.response m.tunnel); hidden = None }

  abbrev tk : Taken
  tk = taken_as sender m.taken (move.Accepted m)

  abbrev b : Account
  b = as_acceptor peer m.remote tk first

  none : accs n i ≡ no_account
  none = no_account_yet accs n e sender ev h.moved.within i h.moved.does.drawn

  is : after accs d n i ≡ b
  is = after_here accs d n (move.Accepted m) h.moved.deed.node_is h.moved.deed.move_is (λ k j. refl)
      ∙ takes_and_gives d n e.role sender (move.Accepted m) m.taken (record (accs n i) { part = Acceptor; peer = peer; remote = m.remote }) h.moved.deed
      ∙ ap (λ (a : Account). with_taken tk (first ∷ []) (record a { part = Acceptor; peer = peer; remote = m.remote })) none

  abbrev u : Tunnel
  u = with_letter 0 (Sccrp (opening_of e.role e.config m.challenge m.response m.tunnel))
      (new_tunnel (counts_taken (learns_window m.window (record (begun m.tunnel m.peer m.remote WaitCtlConn moment m.challenge) { flags = flags_of h.moved.does.opening.failover }))))

  fits : i < 65536
  fits = id_fits accs n e sender ev h.moved.within i h.moved.does.drawn

  -- ---- its opener

  ok : AccountOk (after accs d) n i b
  ok = subst (λ y. AccountOk (after accs d) n i y) is (h.leads.accounts n i)

  acceptor : IsAcceptor (after accs d) n i b
  acceptor = ok.part

  abbrev p : Account
  p = accs peer m.remote

  -- it is another tunnel, and as it was
  stays : partner_in (after accs d) b ≡ p
  stays = after_elsewhere accs d n (move.Accepted m) h.moved.deed.node_is h.moved.deed.move_is (λ k j. refl) peer m.remote (λ both.
      let own : (after accs d n i).part ≡ Opener = ap₂ (λ k j. (after accs d k j).part) (sym both.0) (sym both.1) ∙ acceptor.part in
      let here = ap (λ (a : Account). a.part) is in
      let no : ⊥ = cc in no)

  p_opener : p.part ≡ Opener
  p_opener = ap (λ (a : Account). a.part) (sym stays) ∙ acceptor.part

  p_made : facts.IsMade p
  p_made unmade = let is = p_opener in let no : ⊥ = cc in no

  p_ok : AccountOk accs peer m.remote p
  p_ok = h.moved.within.accounts peer m.remote

  p_joined : TunnelJoined w peer m.remote p (tunnel_in (ends peer) m.remote)
  p_joined = h.joined.tunnels peer m.remote (p_ok.node p_made) (p_ok.id p_made)

  abbrev S : ℕ
  S = name peer m.remote

  to_here : w.tunnels.peer S ≡ n
  to_here = p_joined.peer p_made ∙ ap (λ (a : Account). a.peer) (sym stays) ∙ acceptor.peer

  is_of : IsOpenerOf w n peer m.remote
  is_of = record { node = p_joined.node p_made; peer = to_here; some = p_ok.some p_made }

  -- ---- the machine

  abbrev X : ℕ
  X = name n i

  old : TunnelJoined w n i no_account (at e.tunnels i)
  old = subst (λ a. TunnelJoined w n i a (at e.tunnels i)) none (tunnel_before accs ends w n e x sender moment ev (move.Accepted m) d h i fits)

  state : phase_of u.control.state ≡ WaitConnect
  state = ap phase_of (learns_state m.window (record (begun m.tunnel m.peer m.remote WaitCtlConn moment m.challenge) { flags = flags_of h.moved.does.opening.failover }))

  pub accepted_follows : Follows w n e x (move.Accepted m) (after accs d) (with_end ends n x)
  accepted_follows =
      let o = h.moved.does in
      tunnel_moves_follow accs ends w n e x sender moment ev (move.Accepted m) d h tt (and_taken w S X) u (record {
        id = fits;
        put_is = ap (λ (y : End). y.tunnels) o.after;
        sessions = ap (λ (y : End). y.session_ids) o.after;
        role = ap (λ (y : End). y.role) o.after;
        before = New (no_tunnel_yet accs n e sender ev h.moved.within i o.drawn) refl;
        tunnels = accepts_elsewhere w S X;
        tunnel = rw is (accepts_here w n i peer m.remote tk first (at e.tunnels i) u old is_of refl state);
        calls = accepts_calls w S X;
        up = λ k. ap (λ (f : ℕ → Bool). f k) (accepts_up w S X);
        more = Accepts S X ∷ [];
        run = sym (one_step all_rules w (Accepts S X)
            ∙ accepts_is w S X (h.joined.up (w.tunnels.peer S)) (rw p_opener at p_joined.drawn) (rw p_opener at p_joined.opener)
            (name_some n i (id_some accs n e sender ev h.moved.within i o.drawn)) old.drawn);
      })
