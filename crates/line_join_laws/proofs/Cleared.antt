-- In the machine, tunnels of a book that don't live are cleared: they leave the book, with their calls.
use Rattle.std.proofs.Common.{◌≡◌, ℕ, Bool, true, false, List, [], ◌∷◌, refl, sym, ap, ap₂, ◌∙◌, subst}
use Rattle.std.proofs.lemmas.Bool.{true≢false, eqb-true}
use Rattle.std.specs.Prelude.{◌==◌, ◌||◌, if◌then◌else◌}
use Rattle.epoch_machine.specs.Worlds as machine
use Rattle.epoch_machine.specs.Worlds.{all_rules, leaves}
use Rattle.epoch_machine.specs.Moves as moves
use Rattle.epoch_machine.specs.Moves.{Clears, may_clear, step, goes_on}
use Rattle.epoch_machine.specs.Tunnels.{Gone, left}
use Rattle.epoch_machine.specs.Calls.{NoCall, ends}

-- it is one of these
abbrev pub is_in : List ℕ → ℕ → Bool
is_in [] y = false
is_in (x ∷ xs) y = (y == x) || is_in xs y

abbrev pub clears : List ℕ → List moves.Move
clears [] = []
clears (x ∷ xs) = Clears x ∷ clears xs

-- these were cleared, and nothing else is another
pub record Cleared (m z : machine.World) (xs : List ℕ) : Type 0 where
  pub drawn : z.tunnels.drawn ≡ m.tunnels.drawn
  pub up : z.tunnels.up ≡ m.tunnels.up
  pub node : z.tunnels.node ≡ m.tunnels.node
  pub peer : z.tunnels.peer ≡ m.tunnels.peer
  pub opener : z.tunnels.opener ≡ m.tunnels.opener
  pub phase : (y : ℕ) → z.tunnels.phase y ≡ m.tunnels.phase y
  pub learned : z.tunnels.learned ≡ m.tunnels.learned
  pub booked : (y : ℕ) → z.tunnels.booked y ≡ (if is_in xs y then false else m.tunnels.booked y)
  pub entered : z.tunnels.entered ≡ m.tunnels.entered
  pub epochs : z.tunnels.epochs ≡ m.tunnels.epochs
  pub entered_by : z.tunnels.entered_by ≡ m.tunnels.entered_by
  pub attempts : z.tunnels.attempts ≡ m.tunnels.attempts
  pub answers : z.tunnels.answers ≡ m.tunnels.answers
  pub answered : z.tunnels.answered ≡ m.tunnels.answered
  pub makes_it : z.tunnels.makes ≡ m.tunnels.makes
  pub confirmed : z.tunnels.confirmed ≡ m.tunnels.confirmed
  pub giver_first : z.tunnels.giver_first ≡ m.tunnels.giver_first
  pub other_first : z.tunnels.other_first ≡ m.tunnels.other_first
  pub channels : z.channels ≡ m.channels
  pub calls_drawn : z.calls.drawn ≡ m.calls.drawn
  pub tunnel : z.calls.tunnel ≡ m.calls.tunnel
  pub remote : z.calls.remote ≡ m.calls.remote
  pub births : z.calls.births ≡ m.calls.births
  pub birth : z.calls.birth ≡ m.calls.birth
  pub asks : z.calls.asks ≡ m.calls.asks
  pub held : z.calls.held ≡ m.calls.held
  pub state : (y : ℕ) → z.calls.state y ≡ (if is_in xs (m.calls.tunnel y) then NoCall else m.calls.state y)
  pub call_booked : (y : ℕ) → z.calls.booked y ≡ (if is_in xs (m.calls.tunnel y) then false else m.calls.booked y)

cleared_none : (m : machine.World) → Cleared m m []
cleared_none m = record {
  drawn = refl;
  up = refl;
  node = refl;
  peer = refl;
  opener = refl;
  phase = λ y. refl;
  learned = refl;
  booked = λ y. refl;
  entered = refl;
  epochs = refl;
  entered_by = refl;
  attempts = refl;
  answers = refl;
  answered = refl;
  makes_it = refl;
  confirmed = refl;
  giver_first = refl;
  other_first = refl;
  channels = refl;
  calls_drawn = refl;
  tunnel = refl;
  remote = refl;
  births = refl;
  birth = refl;
  asks = refl;
  held = refl;
  state = λ y. refl;
  call_booked = λ y. refl;
}

-- a choice that is made first, or later
choose : {X : Type 0} (a b : Bool) (x y : X) → (if a then x else (if b then x else y)) ≡ (if a || b then x else y)
choose true b x y = refl
choose false b x y = refl

module _ (m z : machine.World) (xs : List ℕ) (c : Cleared m z xs) (x : ℕ) (up : m.tunnels.up (m.tunnels.node x) ≡ true)
    (booked : m.tunnels.booked x ≡ true)
    (gone : m.tunnels.phase x ≡ Gone) where
  gone_now : z.tunnels.phase x ≡ Gone
  gone_now = c.phase x ∙ gone

  up_now : z.tunnels.up (z.tunnels.node x) ≡ true
  up_now = ap₂ (λ f g. f (g x)) c.up c.node ∙ up

  -- it is in the book, and leaves it
  module _ (has : z.tunnels.booked x ≡ true) where
    may : may_clear z x ≡ true
    unfolding may_clear
    may = rw (gone_now, has, up_now) refl

    clears_it : step all_rules z (Clears x) ≡ leaves z x Gone
    unfolding step
    clears_it = rw may refl

    phase_then : (y : ℕ) → (leaves z x Gone).tunnels.phase y ≡ m.tunnels.phase y
    unfolding leaves left
    phase_then y = by (y == x) refl
      where
        by : (b : Bool) → (y == x) ≡ b → (if b then Gone else z.tunnels.phase y) ≡ m.tunnels.phase y
        by true is = sym (ap m.tunnels.phase (eqb-true y x is) ∙ gone)
        by false is = c.phase y

    left_then : Cleared m (leaves z x Gone) (x ∷ xs)
    unfolding leaves left «ends»
    left_then = record {
      drawn = c.drawn;
      up = c.up;
      node = c.node;
      peer = c.peer;
      opener = c.opener;
      phase = phase_then;
      learned = c.learned;
      booked = λ y. ap (λ b. if y == x then false else b) (c.booked y) ∙ choose (y == x) (is_in xs y) false (m.tunnels.booked y);
      entered = c.entered;
      epochs = c.epochs;
      entered_by = c.entered_by;
      attempts = c.attempts;
      answers = c.answers;
      answered = c.answered;
      makes_it = c.makes_it;
      confirmed = c.confirmed;
      giver_first = c.giver_first;
      other_first = c.other_first;
      channels = c.channels;
      calls_drawn = c.calls_drawn;
      tunnel = c.tunnel;
      remote = c.remote;
      births = c.births;
      birth = c.birth;
      asks = c.asks;
      held = c.held;
      state = λ y. ap (λ (f : ℕ → ℕ). if f y == x then NoCall else z.calls.state y) c.tunnel
          ∙ (ap (λ s. if m.calls.tunnel y == x then NoCall else s) (c.state y)
          ∙ choose (m.calls.tunnel y == x) (is_in xs (m.calls.tunnel y)) NoCall (m.calls.state y));
      call_booked = λ y. ap (λ (f : ℕ → ℕ). if f y == x then false else z.calls.booked y) c.tunnel
          ∙ (ap (λ b. if m.calls.tunnel y == x then false else b) (c.call_booked y)
          ∙ choose (m.calls.tunnel y == x) (is_in xs (m.calls.tunnel y)) false (m.calls.booked y));
    }

  -- or it left before
  module _ (without : z.tunnels.booked x ≡ false) where
    may_not : may_clear z x ≡ false
    unfolding may_clear
    may_not = rw (gone_now, without) refl

    stays : step all_rules z (Clears x) ≡ z
    unfolding step
    stays = rw may_not refl

    was_in : is_in xs x ≡ true
    was_in = by (is_in xs x) refl
      where
        by : (b : Bool) → is_in xs x ≡ b → b ≡ true
        by true is = refl
        by false is = absurd (true≢false (sym booked ∙ (sym (ap (λ b. if b then false else m.tunnels.booked x) is) ∙ (sym (c.booked x)
            ∙ without))))

    in_more : (y : ℕ) → ((y == x) || is_in xs y) ≡ is_in xs y
    in_more y = by (y == x) refl
      where
        by : (b : Bool) → (y == x) ≡ b → (b || is_in xs y) ≡ is_in xs y
        by true is = sym (ap (is_in xs) (eqb-true y x is) ∙ was_in)
        by false is = refl

    same_then : Cleared m z (x ∷ xs)
    same_then = record {
      drawn = c.drawn;
      up = c.up;
      node = c.node;
      peer = c.peer;
      opener = c.opener;
      phase = c.phase;
      learned = c.learned;
      booked = λ y. c.booked y ∙ ap (λ b. if b then false else m.tunnels.booked y) (sym (in_more y));
      entered = c.entered;
      epochs = c.epochs;
      entered_by = c.entered_by;
      attempts = c.attempts;
      answers = c.answers;
      answered = c.answered;
      makes_it = c.makes_it;
      confirmed = c.confirmed;
      giver_first = c.giver_first;
      other_first = c.other_first;
      channels = c.channels;
      calls_drawn = c.calls_drawn;
      tunnel = c.tunnel;
      remote = c.remote;
      births = c.births;
      birth = c.birth;
      asks = c.asks;
      held = c.held;
      state = λ y. c.state y ∙ ap (λ b. if b then NoCall else m.calls.state y) (sym (in_more (m.calls.tunnel y)));
      call_booked = λ y. c.call_booked y ∙ ap (λ b. if b then false else m.calls.booked y) (sym (in_more (m.calls.tunnel y)));
    }

  cleared_on : Cleared m (step all_rules z (Clears x)) (x ∷ xs)
  cleared_on = by (z.tunnels.booked x) refl
    where
      by : (b : Bool) → z.tunnels.booked x ≡ b → Cleared m (step all_rules z (Clears x)) (x ∷ xs)
      by true is = subst (λ u. Cleared m u (x ∷ xs)) (sym (clears_it is)) (left_then is)
      by false is = subst (λ u. Cleared m u (x ∷ xs)) (sym (stays is)) (same_then is)

-- each of them is booked, and doesn't live
abbrev pub AreClearable : machine.World → List ℕ → Type 0
AreClearable m [] = Unit {0}
AreClearable m (x ∷ xs) =
    ((m.tunnels.up (m.tunnels.node x) ≡ true) × (m.tunnels.booked x ≡ true) × (m.tunnels.phase x ≡ Gone)) × AreClearable m xs

abbrev pub turned : List ℕ → List ℕ → List ℕ
turned [] ys = ys
turned (x ∷ xs) ys = turned xs (x ∷ ys)

clears_on : (m z : machine.World) (xs ys : List ℕ) → AreClearable m xs → Cleared m z ys
    → Cleared m (goes_on all_rules z (clears xs)) (turned xs ys)
unfolding goes_on
clears_on m z [] ys ok c = c
clears_on m z (x ∷ xs) ys ok c =
    clears_on m (step all_rules z (Clears x)) xs (x ∷ ys) ok.1 (cleared_on m z ys c x ok.0.0 ok.0.1 ok.0.2)

pub all_cleared : (m : machine.World) (xs : List ℕ) → AreClearable m xs → Cleared m (goes_on all_rules m (clears xs)) (turned xs [])
all_cleared m xs ok = clears_on m m xs [] ok (cleared_none m)
