-- The letters that a tunnel gives and takes, in the machine and in what is known of the tunnel.
use Rattle.std.proofs.Common.{◌≡◌, ℕ, suc, ◌+◌, List, [], ◌∷◌, ◌++◌, map, refl, sym, ap, ◌∙◌, append-nil, Option, arith, eq-eqb, ne_eqb}
use Rattle.std.proofs.lemmas.List.{map-append}
use Rattle.end_model.specs.Tunnels.{Tunnel}
use Rattle.step_laws.specs.Letters as step
use Rattle.step_laws.specs.Letters.{letters_of}
use Rattle.epoch_machine.specs.Letters.{Letter}
use Rattle.epoch_machine.specs.Channels.{puts, counts}
use Rattle.epoch_machine.specs.Calls.{Calls}
use Rattle.epoch_machine.specs.Worlds.{World, gives, took_one}
use Rattle.connection_laws.specs.Accounts.{Account, heeded}
use Rattle.session_laws.specs.Names.{name, letter_of, phase_in, learned_name}
use Rattle.session_laws.specs.Joined.{TunnelJoined}
use Rattle.session_laws.proofs.Ground.{TunnelStays}

-- ---- other tunnels

pub stays_on : (w v u : World) (y : ℕ) → TunnelStays w v y → TunnelStays v u y → TunnelStays w u y
stays_on w v u y g h = record {
  drawn = h.drawn ∙ g.drawn;
  opener = h.opener ∙ g.opener;
  node = h.node ∙ g.node;
  peer = h.peer ∙ g.peer;
  learned = h.learned ∙ g.learned;
  phase = h.phase ∙ g.phase;
  entered = h.entered ∙ g.entered;
  sent = h.sent ∙ g.sent;
  taken = h.taken ∙ g.taken;
  refused = h.refused ∙ g.refused;
  asks = λ z. h.asks z ∙ g.asks z;
}

-- a letter is given in tunnel x alone
pub given_elsewhere : (w : World) (x : ℕ) (l : Letter) (y : ℕ) → (y ≡ x → ⊥) → TunnelStays w (gives w x l) y
unfolding gives puts
given_elsewhere w x l y other = record {
  drawn = refl;
  opener = refl;
  node = refl;
  peer = refl;
  learned = refl;
  phase = refl;
  entered = refl;
  sent = rw (ne_eqb y x other) refl;
  taken = refl;
  refused = refl;
  asks = λ z. refl;
}

-- or taken
pub taken_elsewhere : (w : World) (x y : ℕ) → (y ≡ x → ⊥) → TunnelStays w (took_one w x) y
unfolding took_one counts
taken_elsewhere w x y other = record {
  drawn = refl;
  opener = refl;
  node = refl;
  peer = refl;
  learned = refl;
  phase = refl;
  entered = refl;
  sent = refl;
  taken = rw (ne_eqb y x other) refl;
  refused = refl;
  asks = λ z. refl;
}

-- calls change, and of no tunnel what it asks
pub calls_elsewhere : (w : World) (c : Calls) (y : ℕ) → ((z : ℕ) → c.asks y z ≡ w.calls.asks y z) → TunnelStays w (record w { calls = c }) y
calls_elsewhere w c y asks = record {
  drawn = refl;
  opener = refl;
  node = refl;
  peer = refl;
  learned = refl;
  phase = refl;
  entered = refl;
  sent = refl;
  taken = refl;
  refused = refl;
  asks = asks;
}

-- ---- the tunnel itself

pub given_sent : (w : World) (x : ℕ) (l : Letter) → w.tunnels.entered x ≡ 0 → (gives w x l).channels.sent x 0 ≡ w.channels.sent x 0 ++ l ∷ []
unfolding gives puts
given_sent w x l now = rw (now, eq-eqb x x refl) refl

pub given_taken : (w : World) (x : ℕ) (l : Letter) (y : ℕ) → (gives w x l).channels.taken y 0 ≡ w.channels.taken y 0
unfolding gives puts
given_taken w x l y = refl

pub given_refused : (w : World) (x : ℕ) (l : Letter) (y : ℕ) → (gives w x l).channels.refused y ≡ w.channels.refused y
unfolding gives puts
given_refused w x l y = refl

pub given_tunnels : (w : World) (x : ℕ) (l : Letter) → (gives w x l).tunnels ≡ w.tunnels
unfolding gives
given_tunnels w x l = refl

pub given_calls : (w : World) (x : ℕ) (l : Letter) → (gives w x l).calls ≡ w.calls
unfolding gives
given_calls w x l = refl

one_more : (k : ℕ) → suc k ≡ 1 + k
one_more k = omega arith

pub took_taken : (w : World) (x : ℕ) → w.tunnels.entered x ≡ 0 → (took_one w x).channels.taken x 0 ≡ 1 + w.channels.taken x 0
unfolding took_one counts
took_taken w x now = rw (now, eq-eqb x x refl) (one_more (w.channels.taken x 0))

pub took_sent : (w : World) (x y : ℕ) → (took_one w x).channels.sent y 0 ≡ w.channels.sent y 0
unfolding took_one counts
took_sent w x y = refl

pub took_refused : (w : World) (x y : ℕ) → (took_one w x).channels.refused y ≡ w.channels.refused y
unfolding took_one counts
took_refused w x y = refl

pub took_tunnels : (w : World) (x : ℕ) → (took_one w x).tunnels ≡ w.tunnels
unfolding took_one
took_tunnels w x = refl

pub took_calls : (w : World) (x : ℕ) → (took_one w x).calls ≡ w.calls
unfolding took_one
took_calls w x = refl

-- ---- a tunnel that gives and takes letters is joined still

-- in the machine
pub record LettersMove (w v : World) (x : ℕ) (more : List Letter) (took : ℕ) : Type 0 where
  pub drawn : v.tunnels.drawn x ≡ w.tunnels.drawn x
  pub opener : v.tunnels.opener x ≡ w.tunnels.opener x
  pub node : v.tunnels.node x ≡ w.tunnels.node x
  pub peer : v.tunnels.peer x ≡ w.tunnels.peer x
  pub entered : v.tunnels.entered x ≡ w.tunnels.entered x
  pub sent : v.channels.sent x 0 ≡ w.channels.sent x 0 ++ more
  pub taken : v.channels.taken x 0 ≡ took + w.channels.taken x 0
  pub refused : v.channels.refused x ≡ w.channels.refused x
  pub asks : (z : ℕ) → v.calls.asks x z ≡ w.calls.asks x z

-- nothing is given, and nothing taken
pub no_letters : (w : World) (x : ℕ) → LettersMove w w x [] 0
no_letters w x = record {
  drawn = refl;
  opener = refl;
  node = refl;
  peer = refl;
  entered = refl;
  sent = sym (append-nil (w.channels.sent x 0));
  taken = omega arith;
  refused = refl;
  asks = λ z. refl;
}

-- in the account; what a closed tunnel takes isn't heeded
pub record AccountMoves (a b : Account) (more : List step.Letter) (took : ℕ) : Type 0 where
  pub part : b.part ≡ a.part
  pub peer : b.peer ≡ a.peer
  pub given : b.given ≡ a.given ++ more
  pub heeds : heeded b ≡ took + heeded a
  pub declined : b.declined ≡ a.declined

-- who is learned, and the new state, are told apart
pub letters_joined : (w v : World) (n i : ℕ) (a b : Account) (more : List step.Letter) (took : ℕ) (o u : Option Tunnel) → TunnelJoined w n i a o
    → LettersMove w v (name n i) (map (letter_of n a.peer) more) took → AccountMoves a b more took → v.tunnels.learned (name n i) ≡ learned_name b
    → v.tunnels.phase (name n i) ≡ phase_in u → TunnelJoined v n i b u
letters_joined w v n i a b more took o u h g k learned phase = record {
  drawn = rw k.part (g.drawn ∙ h.drawn);
  opener = rw k.part (g.opener ∙ h.opener);
  node = λ made. g.node ∙ h.node (λ none. made (k.part ∙ none));
  peer = λ made. g.peer ∙ h.peer (λ none. made (k.part ∙ none)) ∙ sym k.peer;
  learned = learned;
  phase = phase;
  entered = g.entered ∙ h.entered;
  sent = rw (k.given, k.peer, map-append) (g.sent ∙ ap (λ ls. ls ++ map (letter_of n a.peer) more) h.sent);
  taken = g.taken ∙ ap (λ j. took + j) h.taken ∙ sym k.heeds;
  refused = g.refused ∙ h.refused ∙ sym k.declined;
  asks = λ z. g.asks z ∙ h.asks z;
}
