-- What a reset makes of the machine's world, at either end of the link: the tunnel enters the epoch of an answer, and asks for all that it
-- holds established.
use Rattle.std.proofs.Common.{◌≡◌, ℕ, Bool, true, false, refl, sym, ap, ◌∙◌, eq-eqb, ne_eqb}
use Rattle.std.specs.Prelude.{if◌then◌else◌, ◌==◌, ◌&&◌}
use Rattle.epoch_machine.specs.Names.{assign, is_name}
use Rattle.epoch_machine.specs.Tunnels.{Open, Attempts, Answers, confirms, is_confirmed, attempts_by, answers_by}
use Rattle.epoch_machine.specs.Calls.{is_up, resets}
use Rattle.epoch_machine.specs.Worlds as machine
use Rattle.epoch_machine.specs.Worlds.{all_rules}
use Rattle.epoch_machine.specs.Moves.{ResetsAttempting, ResetsAnswering, step, resets_attempting, resets_answering, may_reset_attempting, may_reset_answering}
use Rattle.stop_laws.specs.Records.{node_of}
use Rattle.join_laws.proofs.OneTunnel.{NameStays, CallStays}

pub record Entered (j z : machine.World) (x c e : ℕ) : Type 0 where
  -- the tunnel
  pub phase : z.tunnels.phase x ≡ Open
  pub entered : z.tunnels.entered x ≡ e
  pub entered_by : (f : ℕ) → z.tunnels.entered_by x f ≡ (if f == e then c else j.tunnels.entered_by x f)
  pub opener : z.tunnels.opener x ≡ j.tunnels.opener x
  pub peer : z.tunnels.peer x ≡ j.tunnels.peer x
  pub learned : z.tunnels.learned x ≡ j.tunnels.learned x
  pub booked : z.tunnels.booked x ≡ j.tunnels.booked x
  -- all tunnels, attempts and answers
  pub stays : (y : ℕ) → (y ≡ x → ⊥) → NameStays j z y
  pub node : (y : ℕ) → z.tunnels.node y ≡ j.tunnels.node y
  pub epochs : (y : ℕ) → z.tunnels.epochs y ≡ j.tunnels.epochs y
  pub drawn : (y : ℕ) → z.tunnels.drawn y ≡ j.tunnels.drawn y
  pub up : (y : ℕ) → z.tunnels.up y ≡ j.tunnels.up y
  pub attempts : (y : ℕ) → z.tunnels.attempts y ≡ j.tunnels.attempts y
  pub answers : (y : ℕ) → z.tunnels.answers y ≡ j.tunnels.answers y
  pub answered : (y : ℕ) → z.tunnels.answered y ≡ j.tunnels.answered y
  pub makes_it : (y : ℕ) → z.tunnels.makes y ≡ j.tunnels.makes y
  pub giver_first : (y : ℕ) → z.tunnels.giver_first y ≡ j.tunnels.giver_first y
  pub other_first : (y : ℕ) → z.tunnels.other_first y ≡ j.tunnels.other_first y
  pub confirmed : (y : ℕ) → j.tunnels.confirmed y ≡ true → z.tunnels.confirmed y ≡ true
  pub confirmed_now : z.tunnels.confirmed c ≡ true
  pub channels : z.channels ≡ j.channels
  -- calls
  pub call : (y : ℕ) → CallStays j z y
  pub calls_drawn : z.calls.drawn ≡ j.calls.drawn
  pub births : z.calls.births ≡ j.calls.births
  pub birth : (y : ℕ) → z.calls.birth y ≡ j.calls.birth y
  pub asks : (s : ℕ) → z.calls.asks x s ≡ ((j.calls.tunnel s == x) && is_up (j.calls.state s))
  pub held : (s : ℕ) → z.calls.held x e s ≡ (if (j.calls.tunnel s == x) && is_up (j.calls.state s) then j.calls.remote s else 0)
  pub other_asks : (y : ℕ) → (y ≡ x → ⊥) → (s : ℕ) → z.calls.asks y s ≡ j.calls.asks y s
  pub other_held : (y : ℕ) → (y ≡ x → ⊥) → (f s : ℕ) → z.calls.held y f s ≡ j.calls.held y f s

here : {X : Type 0} (f : ℕ → X) (k : ℕ) (v : X) → assign f k v k ≡ v
here f k v = ap (λ b. if b then v else f k) (eq-eqb k k refl)

there : {X : Type 0} (f : ℕ → X) (k : ℕ) (v : X) (q : ℕ) → (q ≡ k → ⊥) → assign f k v q ≡ f q
there f k v q other = ap (λ b. if b then v else f q) (ne_eqb q k other)

-- what was so stays so at each name
stays_true : (f : ℕ → Bool) (k y : ℕ) → f y ≡ true → assign f k true y ≡ true
stays_true f k y is = by (y == k)
  where
    by : (b : Bool) → (if b then true else f y) ≡ true
    by true = refl
    by false = is

module _ (j : machine.World) (x c : ℕ) where
  pub attempting : Entered j (resets_attempting all_rules j x c) x c (j.tunnels.makes c)
  unfolding resets_attempting confirms resets
  attempting = record {
    phase = here j.tunnels.phase x Open;
    entered = here j.tunnels.entered x (j.tunnels.makes c);
    entered_by = λ f. ap (λ g. g f) (here j.tunnels.entered_by x (assign (j.tunnels.entered_by x) (j.tunnels.makes c) c));
    opener = refl;
    peer = refl;
    learned = refl;
    booked = refl;
    stays = λ y other. record {
      opener = refl;
      node = refl;
      peer = refl;
      learned = refl;
      phase = there j.tunnels.phase x Open y other;
      booked = refl;
      entered = there j.tunnels.entered x (j.tunnels.makes c) y other;
      entered_by = λ f. ap (λ g. g f) (there j.tunnels.entered_by x (assign (j.tunnels.entered_by x) (j.tunnels.makes c) c) y other);
      sent = λ e. refl;
      taken = λ e. refl;
      refused = refl;
    };
    node = λ y. refl;
    epochs = λ y. refl;
    drawn = λ y. refl;
    up = λ y. refl;
    attempts = λ y. refl;
    answers = λ y. refl;
    answered = λ y. refl;
    makes_it = λ y. refl;
    giver_first = λ y. refl;
    other_first = λ y. refl;
    confirmed = λ y is. stays_true j.tunnels.confirmed c y is;
    confirmed_now = here j.tunnels.confirmed c true;
    channels = refl;
    call = λ y. record { drawn = refl; tunnel = refl; state = refl; remote = refl; booked = refl };
    calls_drawn = refl;
    births = refl;
    birth = λ y. refl;
    asks = λ s. ap (λ g. g s) (here j.calls.asks x (λ z. (j.calls.tunnel z == x) && is_up (j.calls.state z)));
    held = λ s.
        ap (λ g. g (j.tunnels.makes c) s)
        (here j.calls.held x (assign (j.calls.held x) (j.tunnels.makes c)
        (λ z. if (j.calls.tunnel z == x) && is_up (j.calls.state z) then j.calls.remote z else 0)))
        ∙ ap (λ g. g s)
        (here (j.calls.held x) (j.tunnels.makes c)
        (λ z. if (j.calls.tunnel z == x) && is_up (j.calls.state z) then j.calls.remote z else 0));
    other_asks = λ y other s. ap (λ g. g s) (there j.calls.asks x (λ z. (j.calls.tunnel z == x) && is_up (j.calls.state z)) y other);
    other_held = λ y other f s.
        ap (λ g. g f s)
        (there j.calls.held x (assign (j.calls.held x) (j.tunnels.makes c)
        (λ z. if (j.calls.tunnel z == x) && is_up (j.calls.state z) then j.calls.remote z else 0)) y other);
  }

  pub answering : j.tunnels.confirmed c ≡ true → Entered j (resets_answering all_rules j x c) x c (j.tunnels.makes c)
  unfolding resets_answering is_confirmed resets
  answering was = record {
    phase = here j.tunnels.phase x Open;
    entered = here j.tunnels.entered x (j.tunnels.makes c);
    entered_by = λ f. ap (λ g. g f) (here j.tunnels.entered_by x (assign (j.tunnels.entered_by x) (j.tunnels.makes c) c));
    opener = refl;
    peer = refl;
    learned = refl;
    booked = refl;
    stays = λ y other. record {
      opener = refl;
      node = refl;
      peer = refl;
      learned = refl;
      phase = there j.tunnels.phase x Open y other;
      booked = refl;
      entered = there j.tunnels.entered x (j.tunnels.makes c) y other;
      entered_by = λ f. ap (λ g. g f) (there j.tunnels.entered_by x (assign (j.tunnels.entered_by x) (j.tunnels.makes c) c) y other);
      sent = λ e. refl;
      taken = λ e. refl;
      refused = refl;
    };
    node = λ y. refl;
    epochs = λ y. refl;
    drawn = λ y. refl;
    up = λ y. refl;
    attempts = λ y. refl;
    answers = λ y. refl;
    answered = λ y. refl;
    makes_it = λ y. refl;
    giver_first = λ y. refl;
    other_first = λ y. refl;
    confirmed = λ y is. is;
    confirmed_now = was;
    channels = refl;
    call = λ y. record { drawn = refl; tunnel = refl; state = refl; remote = refl; booked = refl };
    calls_drawn = refl;
    births = refl;
    birth = λ y. refl;
    asks = λ s. ap (λ g. g s) (here j.calls.asks x (λ z. (j.calls.tunnel z == x) && is_up (j.calls.state z)));
    held = λ s.
        ap (λ g. g (j.tunnels.makes c) s)
        (here j.calls.held x (assign (j.calls.held x) (j.tunnels.makes c)
        (λ z. if (j.calls.tunnel z == x) && is_up (j.calls.state z) then j.calls.remote z else 0)))
        ∙ ap (λ g. g s)
        (here (j.calls.held x) (j.tunnels.makes c)
        (λ z. if (j.calls.tunnel z == x) && is_up (j.calls.state z) then j.calls.remote z else 0));
    other_asks = λ y other s. ap (λ g. g s) (there j.calls.asks x (λ z. (j.calls.tunnel z == x) && is_up (j.calls.state z)) y other);
    other_held = λ y other f s.
        ap (λ g. g f s)
        (there j.calls.held x (assign (j.calls.held x) (j.tunnels.makes c)
        (λ z. if (j.calls.tunnel z == x) && is_up (j.calls.state z) then j.calls.remote z else 0)) y other);
  }

  -- ---- where they are allowed

  pub attempts_is : (a : ℕ) → j.tunnels.phase x ≡ Attempts a → j.tunnels.answered c ≡ a → is_name (j.tunnels.answers c) ≡ true
      → step all_rules j (ResetsAttempting x c) ≡ resets_attempting all_rules j x c
  unfolding step may_reset_attempting
  attempts_is a phase answered some =
      ap (λ b. if b then resets_attempting all_rules j x c else j)
      (ap (λ p. attempts_by p (j.tunnels.answered c) && is_name (j.tunnels.answers c)) phase
      ∙ (ap (λ b. b && is_name (j.tunnels.answers c)) (eq-eqb a (j.tunnels.answered c) (sym answered)) ∙ some))

  pub answers_is : j.tunnels.phase x ≡ Answers c → j.tunnels.confirmed c ≡ true
      → step all_rules j (ResetsAnswering x c) ≡ resets_answering all_rules j x c
  unfolding step may_reset_answering
  answers_is phase confirmed =
      ap (λ b. if b then resets_answering all_rules j x c else j)
      (ap (λ p. answers_by p c && j.tunnels.confirmed c) phase
      ∙ (ap (λ b. b && j.tunnels.confirmed c) (eq-eqb c c refl) ∙ confirmed))

  pub attempts_node : node_of j (ResetsAttempting x c) ≡ j.tunnels.node x
  unfolding node_of
  attempts_node = refl

  pub answers_node : node_of j (ResetsAnswering x c) ≡ j.tunnels.node x
  unfolding node_of
  answers_node = refl
