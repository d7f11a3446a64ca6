-- An opening is declined: the machine refuses it, nothing changes at this end, and of the opener no more than that it was declined.
use Rattle.std.proofs.Common.{◌≡◌, ⊎_elim, ℕ, ◌<◌, true, [], ◌∷◌, ◌++◌, refl, sym, ap, ◌∙◌, subst, Option, Some, None, cond, eq-eqb, ne_eqb}
use Rattle.std.specs.Prelude.{◌==◌, ◌&&◌}
use Rattle.id_table.specs.Order.{same_or_not}
use Rattle.end_model.specs.declared.event.Event.{Event}
use Rattle.end_model.specs.declared.moves.Declined.{Declined}
use Rattle.end_model.specs.declared.moves.Move.TheVariants as move
use Rattle.end_names.specs.Names.{node_of}
use Rattle.end_model.specs.Tunnels.{Tunnel}
use Rattle.end_model.specs.End.{End}
use Rattle.world_model.specs.World.{Sender, Deed}
use Rattle.epoch_machine.specs.Channels.{refuses}
use Rattle.epoch_machine.specs.Worlds.{World, all_rules, empty_world}
use Rattle.epoch_machine.specs.Moves.{Refuses, step, goes_on}
use Rattle.connection_laws.specs.Accounts.{Account, about, entered_by, declines_of, declined_in}
use Rattle.connection_laws.specs.Facts as facts
use Rattle.connection_laws.specs.Facts.{Accounts, AccountOk}
use Rattle.connection_laws.specs.Steps.{after, IsOpening}
use Rattle.session_laws.specs.Names.{name, is_opener}
use Rattle.session_laws.specs.Roles.{FitEnds}
use Rattle.session_laws.specs.Joined.{Ends, TunnelJoined, CallsJoined, NodeJoined, AreJoined, tunnel_in}
use Rattle.session_laws.proofs.Births.{same_calls, none_follow}
use Rattle.session_laws.proofs.Keeps.{with_end, Laws, IsMade, Follows}
use Rattle.session_laws.proofs.Roles.{declined_fits}
use Rattle.session_laws.proofs.Entering.{here_or_not, either_way}
use Rattle.session_laws.proofs.Names.{other_name}
use Rattle.session_laws.proofs.Ground.{TunnelStays, run_on, one_step, tunnel_still, ends_same}

-- ---- what the machine does

abbrev with_refused : World → ℕ → World
with_refused w s = record w { channels = refuses w.channels s }

refuses_is : (w : World) (s : ℕ) → w.tunnels.opener s ≡ true → step all_rules w (Refuses s) ≡ with_refused w s
unfolding step
refuses_is w s opener = rw opener refl

refuses_elsewhere : (w : World) (s y : ℕ) → (y ≡ s → ⊥) → TunnelStays w (with_refused w s) y
unfolding refuses
refuses_elsewhere w s y other = record {
  drawn = refl;
  opener = refl;
  node = refl;
  peer = refl;
  learned = refl;
  phase = refl;
  entered = refl;
  sent = refl;
  taken = refl;
  refused = rw (ne_eqb y s other) refl;
  asks = λ z. refl;
}

refuses_here : (w : World) (n i : ℕ) (a : Account) (o : Option Tunnel) → TunnelJoined w n i a o
    → TunnelJoined (with_refused w (name n i)) n i (declined_in true a) o
unfolding refuses
refuses_here w n i a o h = record {
  drawn = h.drawn;
  opener = h.opener;
  node = h.node;
  peer = h.peer;
  learned = h.learned;
  phase = h.phase;
  entered = h.entered;
  sent = h.sent;
  taken = h.taken;
  refused = rw (eq-eqb (name n i) (name n i) refl) refl;
  asks = h.asks;
}

-- ---- calls

-- they stay, and of an account no more is seen than its peer
module _ (accs ms : Accounts) (w : World) (s n : ℕ) (peers : (j : ℕ) → (ms n j).peer ≡ (accs n j).peer) where
  calls_stay : (e : End) → CallsJoined w accs n e → CallsJoined (with_refused w s) ms n e
  calls_stay e h = record {
    live = λ j t there q c call.
        (let k = h.live j t there q c call in
        rw (peers j) (record { some = k.some; state = k.state; tunnel = k.tunnel; remote = k.remote }));
    drawn = h.drawn;
    gone = h.gone;
    undrawn = h.undrawn;
    waiting = h.waiting;
    most = h.most;
    ids = h.ids;
    zero = h.zero;
    roles = h.roles;
  }

  node_stays : (o : Option End) → NodeJoined w accs n o → NodeJoined (with_refused w s) ms n o
  node_stays None h = h
  node_stays (Some e) h = calls_stay e h

-- ---- accounts

-- that of the declined opening alone changes
module _ (accs : Accounts) (d : Deed) (m : Declined) (is : d.move ≡ move.Declined m) where
  account_now : (k j : ℕ) → after accs d k j ≡ declined_in ((node_of m.peer == k) && (m.remote == j)) (accs k j)
  account_now k j =
      subst
      (λ q. declined_in (declines_of q k j) (cond ((d.node == k) && (about q == j)) (entered_by d q (accs k j)) (accs k j))
      ≡ declined_in ((node_of m.peer == k) && (m.remote == j)) (accs k j))
      (sym is)
      (ap (λ a. declined_in ((node_of m.peer == k) && (m.remote == j)) a) (either_way ((d.node == k) && (0 == j)) (accs k j)))

  account_here : after accs d (node_of m.peer) m.remote ≡ declined_in true (accs (node_of m.peer) m.remote)
  account_here = account_now (node_of m.peer) m.remote
      ∙ rw (eq-eqb (node_of m.peer) (node_of m.peer) refl, eq-eqb m.remote m.remote refl) refl

  account_there : (k j : ℕ) → ((k ≡ node_of m.peer) × (j ≡ m.remote) → ⊥) → after accs d k j ≡ accs k j
  account_there k j apart = account_now k j ∙ ⊎_elim
      (λ (p : node_of m.peer ≡ k). rw (eq-eqb (node_of m.peer) k p, ne_eqb m.remote j (λ q. apart (sym p, sym q))) refl)
      (λ other. rw (ne_eqb (node_of m.peer) k other) refl)
      (same_or_not (node_of m.peer) k)

-- ---- an opening is declined

module _ (laws : Laws) (accs : Accounts) (ends : Ends) (w : World) (n : ℕ) (e x : End) (sender : Option Sender) (moment : ℕ) (ev : Event)
    (m : Declined) (d : Deed) (h : IsMade accs ends w n e x sender moment ev (move.Declined m) d) where
  abbrev ms : Accounts
  ms = after accs d

  -- the tunnel that was to open
  abbrev from : ℕ
  from = node_of m.peer

  abbrev i : ℕ
  i = m.remote

  abbrev a : Account
  a = accs from i

  opening : IsOpening accs n m
  opening = laws.openings accs n e x sender ev h.moved.within m h.moved.does

  a_ok : AccountOk accs from i a
  a_ok = h.moved.within.accounts from i

  a_made : facts.IsMade a
  a_made none = let is = opening.opener in let no : ⊥ = cc in no

  old : TunnelJoined w from i a (tunnel_in (ends from) i)
  old = h.joined.tunnels from i (a_ok.node a_made) (a_ok.id a_made)

  abbrev S : ℕ
  S = name from i

  abbrev v : World
  v = with_refused w S

  here : ms from i ≡ declined_in true a
  here = account_here accs d m h.moved.deed.move_is

  there : (k j : ℕ) → ((k ≡ from) × (j ≡ i) → ⊥) → ms k j ≡ accs k j
  there = account_there accs d m h.moved.deed.move_is

  peers : (k j : ℕ) → (ms k j).peer ≡ (accs k j).peer
  peers k j = ⊎_elim
      (λ (p : (k ≡ from) × (j ≡ i)). rw (p.0, p.1) (ap (λ (b : Account). b.peer) here))
      (λ apart. ap (λ (b : Account). b.peer) (there k j apart))
      (here_or_not k from j i)

  tunnels : (k j : ℕ) → k < 256 → j < 65536 → TunnelJoined v k j (ms k j) (tunnel_in (ends k) j)
  tunnels k j kfits jfits = ⊎_elim
      (λ (p : (k ≡ from) × (j ≡ i)). rw (p.0, p.1, here) (refuses_here w from i a (tunnel_in (ends from) i) old))
      (λ apart. rw (there k j apart)
      (tunnel_still w v k j (accs k j) (tunnel_in (ends k) j)
      (refuses_elsewhere w S (name k j) (other_name k j from i jfits (a_ok.id a_made) apart)) (h.joined.tunnels k j kfits jfits)))
      (here_or_not k from j i)

  fit : FitEnds ms ends
  fit k j = ⊎_elim
      (λ (p : (k ≡ from) × (j ≡ i)). rw (p.0, p.1, here) (declined_fits (ends from) a opening.opener (h.joined.fit from i)))
      (λ apart. rw (there k j apart) (h.joined.fit k j))
      (here_or_not k from j i)

  does : step all_rules w (Refuses S) ≡ v
  does = refuses_is w S (old.opener ∙ ap is_opener opening.opener)

  joined : AreJoined ms ends v
  joined = record {
    tunnels = tunnels;
    nodes = λ k kfits. node_stays accs ms w S k (peers k) (ends k) (h.joined.nodes k kfits);
    fit = fit;
    up = h.joined.up;
    moves = h.joined.moves ++ Refuses S ∷ [];
    run = sym (one_step all_rules w (Refuses S) ∙ does) ∙ ap (λ u. goes_on all_rules u (Refuses S ∷ [])) h.joined.run
        ∙ sym (run_on all_rules empty_world h.joined.moves (Refuses S ∷ []));
  }

  pub declined_follows : Follows w n e x (move.Declined m) ms (with_end ends n x)
  declined_follows = record {
    world = v;
    joined = rw (h.moved.does.after, ends_same ends n e h.here) joined;
    births = none_follow w v n e x (move.Declined m) (ap (λ (y : End). y.role) h.moved.does.after)
        (ap (λ (y : End). y.session_ids) h.moved.does.after) (same_calls w v refl) refl (same_calls w v refl) (λ r no. absurd cc);
  }
