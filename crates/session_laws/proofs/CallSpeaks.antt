-- A tunnel that stays in its state takes a letter, or none, and gives one, or none, while calls change.
use Rattle.std.proofs.Common.{◌≡◌, ℕ, ◌+◌, List, [], ◌∷◌, ◌++◌, map, refl, sym, ap, ◌∙◌, append-nil, Option, Some, arith, None, false}
use Rattle.id_table.specs.Ids.{at}
use Rattle.end_model.specs.declared.event.Event.{Event}
use Rattle.end_model.specs.declared.moves.Place.{Place}
use Rattle.end_model.specs.declared.moves.Move.{Move}
use Rattle.end_names.specs.declared.role.Role.{Role}
use Rattle.end_model.specs.Tunnels.{Tunnel}
use Rattle.end_model.specs.End.{End}
use Rattle.world_model.specs.World.{Sender, Deed, config_of}
use Rattle.step_laws.specs.Letters as step_laws
use Rattle.step_laws.specs.Letters.{letters_of}
use Rattle.epoch_machine.specs.Letters.{Letter}
use Rattle.epoch_machine.specs.Tunnels.{Tunnels}
use Rattle.epoch_machine.specs.Calls.{Calls}
use Rattle.epoch_machine.specs.Worlds.{World, all_rules, gives, took_one}
use Rattle.epoch_machine.specs.Moves as moves
use Rattle.epoch_machine.specs.Moves.{step}
use Rattle.connection_laws.specs.Accounts.{Account, about, entered_by, takes_at, gives_also}
use Rattle.connection_laws.specs.Facts.{Accounts, IsOpen}
use Rattle.connection_laws.specs.Steps.{IsDeed, after}
use Rattle.session_laws.specs.Names.{name, letter_of, phase_of, learned_name}
use Rattle.session_laws.specs.Joined.{Ends, TunnelJoined}
use Rattle.session_laws.proofs.Keeps.{IsMade}
use Rattle.session_laws.proofs.Entering.{DeclinesNone, after_here, taken_as, takes_only, takes_and_gives, gives_only}
use Rattle.session_laws.proofs.States.{heeds_one}
use Rattle.session_laws.proofs.Ground.{one_step}
use Rattle.session_laws.proofs.Letters.{given_sent, given_taken, given_refused, given_tunnels, given_calls, took_taken, took_sent, took_refused, took_tunnels, given_elsewhere, taken_elsewhere, AccountMoves, letters_joined}
use Rattle.session_laws.proofs.Heard.{here_joined}
use Rattle.session_laws.proofs.CallGround.{TunnelGoes}

-- ---- in the machine

-- of the tunnels only what this one gives and takes changes
pub record Speaks (w v : World) (x : ℕ) (more : List Letter) (took : ℕ) : Type 0 where
  pub tunnels : v.tunnels ≡ w.tunnels
  pub sent : v.channels.sent x 0 ≡ w.channels.sent x 0 ++ more
  pub taken : v.channels.taken x 0 ≡ took + w.channels.taken x 0
  pub sent_elsewhere : (y : ℕ) → (y ≡ x → ⊥) → v.channels.sent y 0 ≡ w.channels.sent y 0
  pub taken_elsewhere : (y : ℕ) → (y ≡ x → ⊥) → v.channels.taken y 0 ≡ w.channels.taken y 0
  pub refused : (y : ℕ) → v.channels.refused y ≡ w.channels.refused y
  pub asks : (y z : ℕ) → v.calls.asks y z ≡ w.calls.asks y z

pub calls_only : (w : World) (x : ℕ) (c : Calls) → ((y z : ℕ) → c.asks y z ≡ w.calls.asks y z) → Speaks w (record w { calls = c }) x [] 0
calls_only w x c asks = record {
  tunnels = refl;
  sent = sym (append-nil (w.channels.sent x 0));
  taken = omega arith;
  sent_elsewhere = λ y other. refl;
  taken_elsewhere = λ y other. refl;
  refused = λ y. refl;
  asks = asks;
}

pub calls_and_give : (w : World) (x : ℕ) (c : Calls) (l : Letter) → w.tunnels.entered x ≡ 0 → ((y z : ℕ) → c.asks y z ≡ w.calls.asks y z)
    → Speaks w (gives (record w { calls = c }) x l) x (l ∷ []) 0
calls_and_give w x c l now asks =
    let v : World = record w { calls = c } in
    record {
      tunnels = given_tunnels v x l;
      sent = given_sent v x l now;
      taken = given_taken v x l x ∙ (omega arith);
      sent_elsewhere = λ y other. (given_elsewhere v x l y other).sent;
      taken_elsewhere = λ y other. (given_elsewhere v x l y other).taken;
      refused = λ y. given_refused v x l y;
      asks = λ y z. ap (λ (k : Calls). k.asks y z) (given_calls v x l) ∙ asks y z;
    }

pub calls_and_take : (w : World) (x : ℕ) (c : Calls) → w.tunnels.entered x ≡ 0 → ((y z : ℕ) → c.asks y z ≡ w.calls.asks y z)
    → Speaks w (record (took_one w x) { calls = c }) x [] 1
calls_and_take w x c now asks = record {
  tunnels = took_tunnels w x;
  sent = took_sent w x x ∙ sym (append-nil (w.channels.sent x 0));
  taken = took_taken w x now;
  sent_elsewhere = λ y other. (taken_elsewhere w x y other).sent;
  taken_elsewhere = λ y other. (taken_elsewhere w x y other).taken;
  refused = λ y. took_refused w x y;
  asks = asks;
}

pub calls_take_and_give : (w : World) (x : ℕ) (c : Calls) (l : Letter) → w.tunnels.entered x ≡ 0 → ((y z : ℕ) → c.asks y z ≡ w.calls.asks y z)
    → Speaks w (gives (record (took_one w x) { calls = c }) x l) x (l ∷ []) 1
calls_take_and_give w x c l now asks =
    let v : World = record (took_one w x) { calls = c } in
    let same = ap (λ (ts : Tunnels). ts.entered x) (took_tunnels w x) ∙ now in
    record {
      tunnels = given_tunnels v x l ∙ took_tunnels w x;
      sent = given_sent v x l same ∙ ap (λ ls. ls ++ l ∷ []) (took_sent w x x);
      taken = given_taken v x l x ∙ took_taken w x now;
      sent_elsewhere = λ y other. (given_elsewhere v x l y other).sent ∙ (taken_elsewhere w x y other).sent;
      taken_elsewhere = λ y other. (given_elsewhere v x l y other).taken ∙ (taken_elsewhere w x y other).taken;
      refused = λ y. given_refused v x l y ∙ took_refused w x y;
      asks = λ y z. ap (λ (k : Calls). k.asks y z) (given_calls v x l) ∙ asks y z;
    }

-- ---- in the account

-- what the account of a tunnel says after it took and gave letters; what a closed one takes isn't heeded
pub record AccountSpeaks (a b : Account) (more : List step_laws.Letter) (took : ℕ) : Type 0 where
  pub moves : AccountMoves a b more took
  pub remote : b.remote ≡ a.remote
  pub closed : b.closed ≡ a.closed

pub says_nothing : (a b : Account) → b ≡ a → AccountSpeaks a b [] 0
says_nothing a b is = rw is (record {
  moves = record { part = refl; peer = refl; given = sym (append-nil a.given); heeds = omega arith; declined = refl };
  remote = refl;
  closed = refl;
})

pub says_one : (d : Deed) (n : ℕ) (role : Role) (sender : Option Sender) (m : Move) (a b : Account) → IsDeed d n role sender m → b ≡ gives_also d a
    → AccountSpeaks a b (letters_of role (config_of n 0 None false) m) 0
says_one d n role sender m a b deed is = rw (is, gives_only d n role sender m a deed) (record {
  moves = record { part = refl; peer = refl; given = refl; heeds = omega arith; declined = refl };
  remote = refl;
  closed = refl;
})

pub hears_one : (d : Deed) (n : ℕ) (role : Role) (sender : Option Sender) (m : Move) (place : Place) (a b : Account) → IsDeed d n role sender m
    → IsOpen a → b ≡ takes_at d place a → AccountSpeaks a b [] 1
hears_one d n role sender m place a b deed works is = rw (is, takes_only d n role sender m place a deed) (record {
  moves = record { part = refl; peer = refl; given = refl; heeds = heeds_one (taken_as sender place m) [] a works; declined = refl };
  remote = refl;
  closed = refl;
})

pub hears_and_says : (d : Deed) (n : ℕ) (role : Role) (sender : Option Sender) (m : Move) (place : Place) (a b : Account) → IsDeed d n role sender m
    → IsOpen a → b ≡ gives_also d (takes_at d place a) → AccountSpeaks a b (letters_of role (config_of n 0 None false) m) 1
hears_and_says d n role sender m place a b deed works is = rw (is, takes_and_gives d n role sender m place a deed) (record {
  moves = record {
    part = refl;
    peer = refl;
    given = refl;
    heeds = heeds_one (taken_as sender place m) (letters_of role (config_of n 0 None false) m) a works;
    declined = refl;
  };
  remote = refl;
  closed = refl;
})

-- ---- both

module _ (accs : Accounts) (ends : Ends) (w : World) (n : ℕ) (e x : End) (sender : Option Sender) (moment : ℕ) (ev : Event) (m : Move) (d : Deed)
    (h : IsMade accs ends w n e x sender moment ev m d) (declines : DeclinesNone m) (v : World) (t u : Tunnel)
    (there : at e.tunnels (about m) ≡ Some t) where
  abbrev ms : Accounts
  ms = after accs d

  abbrev i : ℕ
  i = about m

  -- one move of the machine, by which the tunnel takes and gives the letters of the deed
  pub speaks_goes : (more : List step_laws.Letter) (took : ℕ) → Speaks w v (name n i) (map (letter_of n (accs n i).peer) more) took
      → AccountSpeaks (accs n i) (ms n i) more took → u.control.state ≡ t.control.state → (k : moves.Move) → step all_rules w k ≡ v
      → TunnelGoes accs ms w v n i u
  speaks_goes more took g s state k does = record {
    tunnels = λ y other. record {
      drawn = ap (λ (ts : Tunnels). ts.drawn y) g.tunnels;
      opener = ap (λ (ts : Tunnels). ts.opener y) g.tunnels;
      node = ap (λ (ts : Tunnels). ts.node y) g.tunnels;
      peer = ap (λ (ts : Tunnels). ts.peer y) g.tunnels;
      learned = ap (λ (ts : Tunnels). ts.learned y) g.tunnels;
      phase = ap (λ (ts : Tunnels). ts.phase y) g.tunnels;
      entered = ap (λ (ts : Tunnels). ts.entered y) g.tunnels;
      sent = g.sent_elsewhere y other;
      taken = g.taken_elsewhere y other;
      refused = g.refused y;
      asks = g.asks y;
    };
    tunnel = letters_joined w v n i (accs n i) (ms n i) more took (Some t) (Some u) old
        (record {
          drawn = ap (λ (ts : Tunnels). ts.drawn (name n i)) g.tunnels;
          opener = ap (λ (ts : Tunnels). ts.opener (name n i)) g.tunnels;
          node = ap (λ (ts : Tunnels). ts.node (name n i)) g.tunnels;
          peer = ap (λ (ts : Tunnels). ts.peer (name n i)) g.tunnels;
          entered = ap (λ (ts : Tunnels). ts.entered (name n i)) g.tunnels;
          sent = g.sent;
          taken = g.taken;
          refused = g.refused (name n i);
          asks = g.asks (name n i);
        })
        s.moves
        (ap (λ (ts : Tunnels). ts.learned (name n i)) g.tunnels ∙ old.learned ∙ sym other)
        (ap (λ (ts : Tunnels). ts.phase (name n i)) g.tunnels ∙ old.phase ∙ sym (ap phase_of state));
    peer = s.moves.peer;
    up = λ q. ap (λ (ts : Tunnels). ts.up q) g.tunnels;
    more = k ∷ [];
    run = sym (one_step all_rules w k ∙ does);
  }
    where
      old : TunnelJoined w n i (accs n i) (Some t)
      old = here_joined accs ends w n e x sender moment ev m d h i t there

      other : learned_name (ms n i) ≡ learned_name (accs n i)
      other = rw (s.moves.part, s.moves.peer, s.remote, s.closed) refl

  -- the account after the move
  pub account_is : ms n i ≡ entered_by d m (accs n i)
  account_is = after_here accs d n m h.moved.deed.node_is h.moved.deed.move_is declines
