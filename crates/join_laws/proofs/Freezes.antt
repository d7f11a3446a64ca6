-- What the machine does where an attempt is answered.
use Rattle.std.proofs.Common.{◌≡◌, ◌⊎◌, ⊎_elim, ℕ, suc, ◌<◌, Bool, true, false, refl, sym, ap, ◌∙◌, subst, eq-eqb, ne_eqb, lt-ltb}
use Rattle.std.specs.Prelude.{◌==◌, ◌&&◌, not, if◌then◌else◌}
use Rattle.id_table.specs.Order.{same_or_not}
use Rattle.epoch_machine.specs.Names.{assign, is_name, is_new}
use Rattle.epoch_machine.specs.Tunnels.{Tunnels, Phase, Answers, is_established, frozen}
use Rattle.epoch_machine.specs.Calls.{CallState, NoCall, lives, is_up, ends, unfinished}
use Rattle.epoch_machine.specs.Worlds.{World, all_rules}
use Rattle.epoch_machine.specs.Moves.{Freezes, may_freeze, freezes, step}
use Rattle.stop_laws.specs.Records.{node_of}
use Rattle.session_laws.proofs.Names.{assign_here, assign_there}

-- it may do so
pub freezes_it : (w : World) (x y a c own theirs : ℕ) → is_established (w.tunnels.phase x) ≡ true → w.tunnels.attempts a ≡ y → 0 < y
    → w.tunnels.learned y ≡ x
    → w.tunnels.learned x ≡ y → 0 < c → w.tunnels.drawn c ≡ false
    → step all_rules w (Freezes x a c own theirs) ≡ freezes all_rules w x a c own theirs
unfolding step may_freeze
freezes_it w x y a c own theirs established attempts some back forth new undrawn =
    rw (established, attempts, lt-ltb 0 y some, back, eq-eqb x x refl, forth, eq-eqb y y refl, lt-ltb 0 c new, undrawn) refl

pub freezes_node : (w : World) (x a c own theirs : ℕ) → node_of w (Freezes x a c own theirs) ≡ w.tunnels.node x
unfolding node_of
freezes_node w x a c own theirs = refl

module _ (w : World) (x y a c own theirs : ℕ) (learned : w.tunnels.learned x ≡ y) (apart : y ≡ x → ⊥) where
  abbrev z : World
  z = freezes all_rules w x a c own theirs

  -- of tunnels and answers
  pub record Frozen : Type 0 where
    pub phase : (freezes all_rules w x a c own theirs).tunnels.phase x ≡ Answers c
    pub epochs : (freezes all_rules w x a c own theirs).tunnels.epochs x ≡ suc (w.tunnels.epochs x)
    pub epochs_there : (freezes all_rules w x a c own theirs).tunnels.epochs y ≡ suc (w.tunnels.epochs x)
    pub other_epochs : (q : ℕ) → (q ≡ x → ⊥) → (q ≡ y → ⊥) → (freezes all_rules w x a c own theirs).tunnels.epochs q ≡ w.tunnels.epochs q
    pub drawn : (freezes all_rules w x a c own theirs).tunnels.drawn c ≡ true
    pub other_drawn : (q : ℕ) → (q ≡ c → ⊥) → (freezes all_rules w x a c own theirs).tunnels.drawn q ≡ w.tunnels.drawn q
    pub answers : (freezes all_rules w x a c own theirs).tunnels.answers c ≡ x
    pub other_answers : (q : ℕ) → (q ≡ c → ⊥) → (freezes all_rules w x a c own theirs).tunnels.answers q ≡ w.tunnels.answers q
    pub answered : (freezes all_rules w x a c own theirs).tunnels.answered c ≡ a
    pub other_answered : (q : ℕ) → (q ≡ c → ⊥) → (freezes all_rules w x a c own theirs).tunnels.answered q ≡ w.tunnels.answered q
    pub makes : (freezes all_rules w x a c own theirs).tunnels.makes c ≡ suc (w.tunnels.epochs x)
    pub other_makes : (q : ℕ) → (q ≡ c → ⊥) → (freezes all_rules w x a c own theirs).tunnels.makes q ≡ w.tunnels.makes q
    pub giver : (freezes all_rules w x a c own theirs).tunnels.giver_first c ≡ own
    pub other_giver : (q : ℕ) → (q ≡ c → ⊥) → (freezes all_rules w x a c own theirs).tunnels.giver_first q ≡ w.tunnels.giver_first q
    pub other : (freezes all_rules w x a c own theirs).tunnels.other_first c ≡ theirs
    pub other_other : (q : ℕ) → (q ≡ c → ⊥) → (freezes all_rules w x a c own theirs).tunnels.other_first q ≡ w.tunnels.other_first q
    pub other_phase : (q : ℕ) → (q ≡ x → ⊥) → (freezes all_rules w x a c own theirs).tunnels.phase q ≡ w.tunnels.phase q

  pub is_frozen : Frozen
  unfolding freezes frozen
  is_frozen = record {
    phase = assign_here w.tunnels.phase x (Answers c);
    epochs = assign_here (assign w.tunnels.epochs (w.tunnels.learned x) (suc (w.tunnels.epochs x))) x (suc (w.tunnels.epochs x));
    epochs_there =
        assign_there (assign w.tunnels.epochs (w.tunnels.learned x) (suc (w.tunnels.epochs x))) x (suc (w.tunnels.epochs x)) y apart
        ∙ (ap (λ q. assign w.tunnels.epochs q (suc (w.tunnels.epochs x)) y) learned
        ∙ assign_here w.tunnels.epochs y (suc (w.tunnels.epochs x)));
    other_epochs = λ q here there.
        assign_there (assign w.tunnels.epochs (w.tunnels.learned x) (suc (w.tunnels.epochs x))) x (suc (w.tunnels.epochs x)) q here
        ∙ assign_there w.tunnels.epochs (w.tunnels.learned x) (suc (w.tunnels.epochs x)) q (λ same. there (same ∙ learned));
    drawn = assign_here w.tunnels.drawn c true;
    other_drawn = λ q o. assign_there w.tunnels.drawn c true q o;
    answers = assign_here w.tunnels.answers c x;
    other_answers = λ q o. assign_there w.tunnels.answers c x q o;
    answered = assign_here w.tunnels.answered c a;
    other_answered = λ q o. assign_there w.tunnels.answered c a q o;
    makes = assign_here w.tunnels.makes c (suc (w.tunnels.epochs x));
    other_makes = λ q o. assign_there w.tunnels.makes c (suc (w.tunnels.epochs x)) q o;
    giver = assign_here w.tunnels.giver_first c own;
    other_giver = λ q o. assign_there w.tunnels.giver_first c own q o;
    other = assign_here w.tunnels.other_first c theirs;
    other_other = λ q o. assign_there w.tunnels.other_first c theirs q o;
    other_phase = λ q o. assign_there w.tunnels.phase x (Answers c) q o;
  }

-- and what stays
module _ (w : World) (x a c own theirs : ℕ) where
  pub record StaysFrozen : Type 0 where
    pub up : (q : ℕ) → (freezes all_rules w x a c own theirs).tunnels.up q ≡ w.tunnels.up q
    pub node : (q : ℕ) → (freezes all_rules w x a c own theirs).tunnels.node q ≡ w.tunnels.node q
    pub peer : (q : ℕ) → (freezes all_rules w x a c own theirs).tunnels.peer q ≡ w.tunnels.peer q
    pub opener : (q : ℕ) → (freezes all_rules w x a c own theirs).tunnels.opener q ≡ w.tunnels.opener q
    pub learned : (q : ℕ) → (freezes all_rules w x a c own theirs).tunnels.learned q ≡ w.tunnels.learned q
    pub booked : (q : ℕ) → (freezes all_rules w x a c own theirs).tunnels.booked q ≡ w.tunnels.booked q
    pub entered : (q : ℕ) → (freezes all_rules w x a c own theirs).tunnels.entered q ≡ w.tunnels.entered q
    pub entered_by : (q e : ℕ) → (freezes all_rules w x a c own theirs).tunnels.entered_by q e ≡ w.tunnels.entered_by q e
    pub attempts : (q : ℕ) → (freezes all_rules w x a c own theirs).tunnels.attempts q ≡ w.tunnels.attempts q
    pub confirmed : (q : ℕ) → (freezes all_rules w x a c own theirs).tunnels.confirmed q ≡ w.tunnels.confirmed q
    pub channels : (freezes all_rules w x a c own theirs).channels ≡ w.channels

  pub stays_frozen : StaysFrozen
  unfolding freezes frozen
  stays_frozen = record {
    up = λ q. refl;
    node = λ q. refl;
    peer = λ q. refl;
    opener = λ q. refl;
    learned = λ q. refl;
    booked = λ q. refl;
    entered = λ q. refl;
    entered_by = λ q e. refl;
    attempts = λ q. refl;
    confirmed = λ q. refl;
    channels = refl;
  }

  -- calls that aren't established end
  pub record FrozenCall (y : ℕ) : Type 0 where
    pub drawn : (freezes all_rules w x a c own theirs).calls.drawn y ≡ w.calls.drawn y
    pub tunnel : (freezes all_rules w x a c own theirs).calls.tunnel y ≡ w.calls.tunnel y
    pub remote : (freezes all_rules w x a c own theirs).calls.remote y ≡ w.calls.remote y
    pub state : (freezes all_rules w x a c own theirs).calls.state y ≡ (if unfinished w.calls x y then NoCall else w.calls.state y)
    pub booked : (freezes all_rules w x a c own theirs).calls.booked y ≡ (if unfinished w.calls x y then false else w.calls.booked y)
    pub birth : (freezes all_rules w x a c own theirs).calls.birth y ≡ w.calls.birth y
    pub births : (freezes all_rules w x a c own theirs).calls.births ≡ w.calls.births
    pub asks : (s : ℕ) → (freezes all_rules w x a c own theirs).calls.asks y s ≡ w.calls.asks y s
    pub held : (f s : ℕ) → (freezes all_rules w x a c own theirs).calls.held y f s ≡ w.calls.held y f s

  pub frozen_call : (y : ℕ) → FrozenCall y
  unfolding freezes «ends»
  frozen_call y = record {
    drawn = refl;
    tunnel = refl;
    remote = refl;
    state = refl;
    booked = refl;
    birth = refl;
    births = refl;
    asks = λ s. refl;
    held = λ f s. refl;
  }
