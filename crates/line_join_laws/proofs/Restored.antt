-- In the machine, a tunnel that a start brings back attempts its recovery, and its calls are up again.
use Rattle.std.proofs.Common.{◌≡◌, ℕ, ◌<◌, Bool, true, false, refl, ap, ◌∙◌, eq-eqb, ne_eqb}
use Rattle.std.proofs.lemmas.Bool.{lt-ltb}
use Rattle.std.specs.Prelude.{◌==◌, ◌&&◌, if◌then◌else◌}
use Rattle.epoch_machine.specs.Worlds as machine
use Rattle.epoch_machine.specs.Worlds.{all_rules}
use Rattle.epoch_machine.specs.Moves.{Restores, may_restore, restores, step}
use Rattle.epoch_machine.specs.Tunnels.{Gone, Attempts, restored}
use Rattle.epoch_machine.specs.Calls.{Up, comes_back}

-- nothing is another but which names were drawn, what the tunnels and calls are in the midst of, and the attempts
pub record Stays (m z : machine.World) : Type 0 where
  pub up : z.tunnels.up ≡ m.tunnels.up
  pub node : z.tunnels.node ≡ m.tunnels.node
  pub peer : z.tunnels.peer ≡ m.tunnels.peer
  pub opener : z.tunnels.opener ≡ m.tunnels.opener
  pub learned : z.tunnels.learned ≡ m.tunnels.learned
  pub booked : z.tunnels.booked ≡ m.tunnels.booked
  pub entered : z.tunnels.entered ≡ m.tunnels.entered
  pub epochs : z.tunnels.epochs ≡ m.tunnels.epochs
  pub entered_by : z.tunnels.entered_by ≡ m.tunnels.entered_by
  pub answers : z.tunnels.answers ≡ m.tunnels.answers
  pub answered : z.tunnels.answered ≡ m.tunnels.answered
  pub makes_it : z.tunnels.makes ≡ m.tunnels.makes
  pub confirmed : z.tunnels.confirmed ≡ m.tunnels.confirmed
  pub giver_first : z.tunnels.giver_first ≡ m.tunnels.giver_first
  pub other_first : z.tunnels.other_first ≡ m.tunnels.other_first
  pub channels : z.channels ≡ m.channels
  pub calls_drawn : z.calls.drawn ≡ m.calls.drawn
  pub tunnel : z.calls.tunnel ≡ m.calls.tunnel
  pub remote : z.calls.remote ≡ m.calls.remote
  pub births : z.calls.births ≡ m.calls.births
  pub birth : z.calls.birth ≡ m.calls.birth
  pub asks : z.calls.asks ≡ m.calls.asks
  pub held : z.calls.held ≡ m.calls.held
  pub call_booked : z.calls.booked ≡ m.calls.booked

pub stays_same : (m : machine.World) → Stays m m
stays_same m = record {
  up = refl;
  node = refl;
  peer = refl;
  opener = refl;
  learned = refl;
  booked = refl;
  entered = refl;
  epochs = refl;
  entered_by = refl;
  answers = refl;
  answered = refl;
  makes_it = refl;
  confirmed = refl;
  giver_first = refl;
  other_first = refl;
  channels = refl;
  calls_drawn = refl;
  tunnel = refl;
  remote = refl;
  births = refl;
  birth = refl;
  asks = refl;
  held = refl;
  call_booked = refl;
}

module _ (z : machine.World) (x a : ℕ) where
  -- one that is in the book, and doesn't live, may be brought back by an attempt with a new name
  pub restores_it : z.tunnels.booked x ≡ true → z.tunnels.phase x ≡ Gone → z.tunnels.up (z.tunnels.node x) ≡ true → 0 < a
      → z.tunnels.drawn a ≡ false → step all_rules z (Restores x a) ≡ restores z x a
  unfolding step may_restore
  restores_it booked gone up some fresh = let lt = lt-ltb 0 a some in rw (booked, gone, up, fresh, lt) refl

  pub restores_stay : (m : machine.World) → Stays m z → Stays m (restores z x a)
  unfolding restores restored comes_back
  restores_stay m c = record {
    up = c.up;
    node = c.node;
    peer = c.peer;
    opener = c.opener;
    learned = c.learned;
    booked = c.booked;
    entered = c.entered;
    epochs = c.epochs;
    entered_by = c.entered_by;
    answers = c.answers;
    answered = c.answered;
    makes_it = c.makes_it;
    confirmed = c.confirmed;
    giver_first = c.giver_first;
    other_first = c.other_first;
    channels = c.channels;
    calls_drawn = c.calls_drawn;
    tunnel = c.tunnel;
    remote = c.remote;
    births = c.births;
    birth = c.birth;
    asks = c.asks;
    held = c.held;
    call_booked = c.call_booked;
  }

  pub phase_back : (restores z x a).tunnels.phase x ≡ Attempts a
  unfolding restores restored
  phase_back = ap (λ b. if b then Attempts a else z.tunnels.phase x) (eq-eqb x x refl)

  pub phase_stays : (y : ℕ) → (y ≡ x → ⊥) → (restores z x a).tunnels.phase y ≡ z.tunnels.phase y
  unfolding restores restored
  phase_stays y o = ap (λ b. if b then Attempts a else z.tunnels.phase y) (ne_eqb y x o)

  pub drawn_then : (restores z x a).tunnels.drawn a ≡ true
  unfolding restores restored
  drawn_then = ap (λ b. if b then true else z.tunnels.drawn a) (eq-eqb a a refl)

  pub drawn_stays : (y : ℕ) → (y ≡ a → ⊥) → (restores z x a).tunnels.drawn y ≡ z.tunnels.drawn y
  unfolding restores restored
  drawn_stays y o = ap (λ b. if b then true else z.tunnels.drawn y) (ne_eqb y a o)

  pub attempts_then : (restores z x a).tunnels.attempts a ≡ x
  unfolding restores restored
  attempts_then = ap (λ b. if b then x else z.tunnels.attempts a) (eq-eqb a a refl)

  pub attempts_stay : (y : ℕ) → (y ≡ a → ⊥) → (restores z x a).tunnels.attempts y ≡ z.tunnels.attempts y
  unfolding restores restored
  attempts_stay y o = ap (λ b. if b then x else z.tunnels.attempts y) (ne_eqb y a o)

  -- a call of the tunnel, in the book or not, and another one
  pub state_back : (y : ℕ) → z.calls.tunnel y ≡ x → (restores z x a).calls.state y ≡ (if z.calls.booked y then Up else z.calls.state y)
  unfolding restores comes_back
  state_back y own = ap (λ b. if b && z.calls.booked y then Up else z.calls.state y) (eq-eqb (z.calls.tunnel y) x own)

  pub state_stays : (y : ℕ) → (z.calls.tunnel y ≡ x → ⊥) → (restores z x a).calls.state y ≡ z.calls.state y
  unfolding restores comes_back
  state_stays y o = ap (λ b. if b && z.calls.booked y then Up else z.calls.state y) (ne_eqb (z.calls.tunnel y) x o)

  pub state_free : (y : ℕ) → z.calls.booked y ≡ false → (restores z x a).calls.state y ≡ z.calls.state y
  unfolding restores comes_back
  state_free y free = ap (λ b. if (z.calls.tunnel y == x) && b then Up else z.calls.state y) free ∙ by (z.calls.tunnel y == x)
    where
      by : (b : Bool) → (if b && false then Up else z.calls.state y) ≡ z.calls.state y
      by true = refl
      by false = refl
