-- What records that a stop keeps make of the machine: of its own node's tunnels and calls alone.
use Rattle.std.proofs.Common.{◌≡◌, ⊎_elim, ℕ, Bool, true, false, List, [], ◌∷◌, refl, sym, ap, ◌∙◌, eqb, ne_eqb}
use Rattle.std.proofs.lemmas.Bool.{true≢false, eqb-true}
use Rattle.std.specs.Prelude.{◌==◌, ◌||◌, if◌then◌else◌}
use Rattle.epoch_machine.specs.Worlds as machine
use Rattle.epoch_machine.specs.Moves.{Kept, TunnelUp, TunnelDown, CallUp, CallDown, may_keep, keeps}
use Rattle.epoch_machine.specs.Tunnels.{Gone, is_open, keeps_up, keeps_down}
use Rattle.epoch_machine.specs.Calls.{CallState, NoCall, Waits, WaitsReply, WaitsConnect, Up, lives, ends, keeps_call}
use Rattle.epoch_machine.proofs.Stops.{up_tells}
use Rattle.epoch_machine.proofs.Tells.{both}
use Rattle.stop_laws.specs.Records.{writes, each_allowed}

-- `c` is the machine's world `m` in which records of a node were written
pub record Written (m c : machine.World) (n : ℕ) : Type 0 where
  pub drawn : c.tunnels.drawn ≡ m.tunnels.drawn
  pub up : c.tunnels.up ≡ m.tunnels.up
  pub node : c.tunnels.node ≡ m.tunnels.node
  pub peer : c.tunnels.peer ≡ m.tunnels.peer
  pub opener : c.tunnels.opener ≡ m.tunnels.opener
  pub phase : c.tunnels.phase ≡ m.tunnels.phase
  pub entered : c.tunnels.entered ≡ m.tunnels.entered
  pub epochs : c.tunnels.epochs ≡ m.tunnels.epochs
  pub entered_by : c.tunnels.entered_by ≡ m.tunnels.entered_by
  pub attempts : c.tunnels.attempts ≡ m.tunnels.attempts
  pub answers : c.tunnels.answers ≡ m.tunnels.answers
  pub answered : c.tunnels.answered ≡ m.tunnels.answered
  pub makes_it : c.tunnels.makes ≡ m.tunnels.makes
  pub confirmed : c.tunnels.confirmed ≡ m.tunnels.confirmed
  pub giver_first : c.tunnels.giver_first ≡ m.tunnels.giver_first
  pub other_first : c.tunnels.other_first ≡ m.tunnels.other_first
  pub channels : c.channels ≡ m.channels
  pub calls_drawn : c.calls.drawn ≡ m.calls.drawn
  pub tunnel : c.calls.tunnel ≡ m.calls.tunnel
  pub births : c.calls.births ≡ m.calls.births
  pub birth : c.calls.birth ≡ m.calls.birth
  pub asks : c.calls.asks ≡ m.calls.asks
  pub held : c.calls.held ≡ m.calls.held
  -- of tunnels of other nodes
  pub learned : (y : ℕ) → (m.tunnels.node y ≡ n → ⊥) → c.tunnels.learned y ≡ m.tunnels.learned y
  pub booked : (y : ℕ) → (m.tunnels.node y ≡ n → ⊥) → c.tunnels.booked y ≡ m.tunnels.booked y
  -- and of calls in them
  pub state : (y : ℕ) → (m.tunnels.node (m.calls.tunnel y) ≡ n → ⊥) → c.calls.state y ≡ m.calls.state y
  pub remote : (y : ℕ) → (m.tunnels.node (m.calls.tunnel y) ≡ n → ⊥) → c.calls.remote y ≡ m.calls.remote y
  pub call_booked : (y : ℕ) → (m.tunnels.node (m.calls.tunnel y) ≡ n → ⊥) → c.calls.booked y ≡ m.calls.booked y
  -- one that doesn't live, and isn't in the book, doesn't come into it; nor does one live that didn't
  pub dead : (y : ℕ) → m.calls.state y ≡ NoCall → m.calls.booked y ≡ false → c.calls.booked y ≡ false
  pub gone : (y : ℕ) → m.calls.state y ≡ NoCall → c.calls.state y ≡ NoCall
  -- so it is of a tunnel, which learns nothing then
  pub idle : (y : ℕ) → m.tunnels.phase y ≡ Gone → m.tunnels.booked y ≡ false → c.tunnels.booked y ≡ false
  pub unlearned : (y : ℕ) → m.tunnels.phase y ≡ Gone → c.tunnels.learned y ≡ m.tunnels.learned y

pub written_none : (m : machine.World) (n : ℕ) → Written m m n
written_none m n = record {
  drawn = refl;
  up = refl;
  node = refl;
  peer = refl;
  opener = refl;
  phase = refl;
  entered = refl;
  epochs = refl;
  entered_by = refl;
  attempts = refl;
  answers = refl;
  answered = refl;
  makes_it = refl;
  confirmed = refl;
  giver_first = refl;
  other_first = refl;
  channels = refl;
  calls_drawn = refl;
  tunnel = refl;
  births = refl;
  birth = refl;
  asks = refl;
  held = refl;
  learned = λ y o. refl;
  booked = λ y o. refl;
  state = λ y o. refl;
  remote = λ y o. refl;
  call_booked = λ y o. refl;
  dead = λ y none free. free;
  gone = λ y none. none;
  idle = λ y none free. free;
  unlearned = λ y none. refl;
}

-- a value that is put at one name, and another name
put_other : {X : Type 0} (f : ℕ → X) (k : ℕ) (v : X) (y : ℕ) → (y ≡ k → ⊥) → (if y == k then v else f y) ≡ f y
put_other f k v y o = ap (λ b. if b then v else f y) (ne_eqb y k o)

-- the same value, or one that was put
either_way : {X : Type 0} (P : X → Type 0) (b : Bool) (x y : X) → P x → P y → P (if b then x else y)
either_way P true x y p q = p
either_way P false x y p q = q

module _ (m : machine.World) (n : ℕ) where
  -- whose record it is
  up_node : (x s : ℕ) → may_keep m n (TunnelUp x s) ≡ true → m.tunnels.node x ≡ n
  unfolding may_keep
  up_node x s may = eqb-true (m.tunnels.node x) n (both (eqb (m.tunnels.node x) n) _ may).0

  down_node : (x : ℕ) → may_keep m n (TunnelDown x) ≡ true → m.tunnels.node x ≡ n
  unfolding may_keep
  down_node x may = eqb-true (m.tunnels.node x) n (both (eqb (m.tunnels.node x) n) _ may).0

  call_node : (z own k : ℕ) → may_keep m n (CallUp z own k) ≡ true → m.tunnels.node (m.calls.tunnel z) ≡ n
  unfolding may_keep
  call_node z own k may = eqb-true (m.tunnels.node (m.calls.tunnel z)) n (both (eqb (m.tunnels.node (m.calls.tunnel z)) n) _ may).0

  end_node : (z : ℕ) → may_keep m n (CallDown z) ≡ true → m.tunnels.node (m.calls.tunnel z) ≡ n
  unfolding may_keep
  end_node z may = eqb-true (m.tunnels.node (m.calls.tunnel z)) n (both (eqb (m.tunnels.node (m.calls.tunnel z)) n) _ may).0

  module _ (c : machine.World) (w : Written m c n) where
    -- a tunnel came up
    up_then : (x s : ℕ) → m.tunnels.node x ≡ n → (m.tunnels.phase x ≡ Gone → ⊥) → Written m (keeps c (TunnelUp x s)) n
    unfolding keeps keeps_up
    up_then x s own busy = either_way (λ v. Written m v n) ((c.tunnels.learned x == 0) || (c.tunnels.learned x == s))
        (record c { tunnels = keeps_up c.tunnels x s }) c
        (record {
          drawn = w.drawn;
          up = w.up;
          node = w.node;
          peer = w.peer;
          opener = w.opener;
          phase = w.phase;
          entered = w.entered;
          epochs = w.epochs;
          entered_by = w.entered_by;
          attempts = w.attempts;
          answers = w.answers;
          answered = w.answered;
          makes_it = w.makes_it;
          confirmed = w.confirmed;
          giver_first = w.giver_first;
          other_first = w.other_first;
          channels = w.channels;
          calls_drawn = w.calls_drawn;
          tunnel = w.tunnel;
          births = w.births;
          birth = w.birth;
          asks = w.asks;
          held = w.held;
          learned = λ y o. put_other c.tunnels.learned x s y (λ e. o (ap m.tunnels.node e ∙ own)) ∙ w.learned y o;
          booked = λ y o. put_other c.tunnels.booked x true y (λ e. o (ap m.tunnels.node e ∙ own)) ∙ w.booked y o;
          state = w.state;
          remote = w.remote;
          call_booked = w.call_booked;
          dead = w.dead;
          gone = w.gone;
          idle = λ y none free. put_other c.tunnels.booked x true y (λ e. busy (ap m.tunnels.phase (sym e) ∙ none)) ∙ w.idle y none free;
          unlearned = λ y none. put_other c.tunnels.learned x s y (λ e. busy (ap m.tunnels.phase (sym e) ∙ none)) ∙ w.unlearned y none;
        }) w

    tunnel_as : (y : ℕ) → c.calls.tunnel y ≡ m.calls.tunnel y
    tunnel_as y = ap (λ f. f y) w.tunnel

    -- a tunnel leaves the book, with its calls
    down_then : (x : ℕ) → m.tunnels.node x ≡ n → Written m (keeps c (TunnelDown x)) n
    unfolding keeps keeps_down «ends»
    down_then x own = record {
      drawn = w.drawn;
      up = w.up;
      node = w.node;
      peer = w.peer;
      opener = w.opener;
      phase = w.phase;
      entered = w.entered;
      epochs = w.epochs;
      entered_by = w.entered_by;
      attempts = w.attempts;
      answers = w.answers;
      answered = w.answered;
      makes_it = w.makes_it;
      confirmed = w.confirmed;
      giver_first = w.giver_first;
      other_first = w.other_first;
      channels = w.channels;
      calls_drawn = w.calls_drawn;
      tunnel = w.tunnel;
      births = w.births;
      birth = w.birth;
      asks = w.asks;
      held = w.held;
      learned = w.learned;
      booked = λ y o. put_other c.tunnels.booked x false y (λ e. o (ap m.tunnels.node e ∙ own)) ∙ w.booked y o;
      state = λ y o. ap (λ b. if b then NoCall else c.calls.state y) (ne_eqb (c.calls.tunnel y) x (not_in y o)) ∙ w.state y o;
      remote = w.remote;
      call_booked = λ y o. ap (λ b. if b then false else c.calls.booked y) (ne_eqb (c.calls.tunnel y) x (not_in y o)) ∙ w.call_booked y o;
      dead = λ y none free. either_way (λ b. b ≡ false) (c.calls.tunnel y == x) false (c.calls.booked y) refl (w.dead y none free);
      gone = λ y none. either_way (λ q. q ≡ NoCall) (c.calls.tunnel y == x) NoCall (c.calls.state y) refl (w.gone y none);
      idle = λ y none free. either_way (λ b. b ≡ false) (y == x) false (c.tunnels.booked y) refl (w.idle y none free);
      unlearned = w.unlearned;
    }
      where
        not_in : (y : ℕ) → (m.tunnels.node (m.calls.tunnel y) ≡ n → ⊥) → c.calls.tunnel y ≡ x → ⊥
        not_in y o e = o (ap m.tunnels.node (sym (tunnel_as y) ∙ e) ∙ own)

    -- a call came up
    call_then : (z own : ℕ) (k : ℕ) → m.tunnels.node (m.calls.tunnel z) ≡ n → lives (m.calls.state z) ≡ true
        → Written m (keeps c (CallUp z own k)) n
    unfolding keeps keeps_call
    call_then z own k at_node live = either_way (λ v. Written m v n) (lives (c.calls.state z)) (record c {
      calls =
          keeps_call c.calls z own;
    }) c
        (record {
          drawn = w.drawn;
          up = w.up;
          node = w.node;
          peer = w.peer;
          opener = w.opener;
          phase = w.phase;
          entered = w.entered;
          epochs = w.epochs;
          entered_by = w.entered_by;
          attempts = w.attempts;
          answers = w.answers;
          answered = w.answered;
          makes_it = w.makes_it;
          confirmed = w.confirmed;
          giver_first = w.giver_first;
          other_first = w.other_first;
          channels = w.channels;
          calls_drawn = w.calls_drawn;
          tunnel = w.tunnel;
          births = w.births;
          birth = w.birth;
          asks = w.asks;
          held = w.held;
          learned = w.learned;
          booked = w.booked;
          state = w.state;
          remote = λ y o. put_other c.calls.remote z own y (other y o) ∙ w.remote y o;
          call_booked = λ y o. put_other c.calls.booked z true y (other y o) ∙ w.call_booked y o;
          dead = λ y none free. put_other c.calls.booked z true y (λ e. is_dead y none e) ∙ w.dead y none free;
          gone = w.gone;
          idle = w.idle;
          unlearned = w.unlearned;
        }) w
      where
        other : (y : ℕ) → (m.tunnels.node (m.calls.tunnel y) ≡ n → ⊥) → y ≡ z → ⊥
        other y o e = o (ap (λ q. m.tunnels.node (m.calls.tunnel q)) e ∙ at_node)

        is_dead : (y : ℕ) → m.calls.state y ≡ NoCall → y ≡ z → ⊥
        is_dead y none e = true≢false (sym live ∙ ap lives (ap m.calls.state (sym e) ∙ none))

    -- a call leaves the book
    end_then : (z : ℕ) → m.tunnels.node (m.calls.tunnel z) ≡ n → Written m (keeps c (CallDown z)) n
    unfolding keeps «ends»
    end_then z at_node = record {
      drawn = w.drawn;
      up = w.up;
      node = w.node;
      peer = w.peer;
      opener = w.opener;
      phase = w.phase;
      entered = w.entered;
      epochs = w.epochs;
      entered_by = w.entered_by;
      attempts = w.attempts;
      answers = w.answers;
      answered = w.answered;
      makes_it = w.makes_it;
      confirmed = w.confirmed;
      giver_first = w.giver_first;
      other_first = w.other_first;
      channels = w.channels;
      calls_drawn = w.calls_drawn;
      tunnel = w.tunnel;
      births = w.births;
      birth = w.birth;
      asks = w.asks;
      held = w.held;
      learned = w.learned;
      booked = w.booked;
      state = λ y o. put_other c.calls.state z NoCall y (other y o) ∙ w.state y o;
      remote = w.remote;
      call_booked = λ y o. put_other c.calls.booked z false y (other y o) ∙ w.call_booked y o;
      dead = λ y none free. either_way (λ b. b ≡ false) (y == z) false (c.calls.booked y) refl (w.dead y none free);
      gone = λ y none. either_way (λ q. q ≡ NoCall) (y == z) NoCall (c.calls.state y) refl (w.gone y none);
      idle = w.idle;
      unlearned = w.unlearned;
    }
      where
        other : (y : ℕ) → (m.tunnels.node (m.calls.tunnel y) ≡ n → ⊥) → y ≡ z → ⊥
        other y o e = o (ap (λ q. m.tunnels.node (m.calls.tunnel q)) e ∙ at_node)

  -- a tunnel that came up lived
  up_busy : (x s : ℕ) → may_keep m n (TunnelUp x s) ≡ true → m.tunnels.phase x ≡ Gone → ⊥
  up_busy x s may none = ⊎_elim
      (λ a. (let two = sym none ∙ a.0 in cc))
      (λ a. (let two = sym none ∙ a.0 in cc))
      (up_tells m n x s may).why

  -- a call that came up lived
  up_lives : (z own k : ℕ) → may_keep m n (CallUp z own k) ≡ true → lives (m.calls.state z) ≡ true
  unfolding may_keep
  up_lives z own k may = by (m.calls.state z) refl
    where
      by : (s : CallState) → m.calls.state z ≡ s → lives (m.calls.state z) ≡ true
      by NoCall is = let no_one = both (eqb (m.tunnels.node (m.calls.tunnel z)) n) _ may in
          let rest = both (is_open (m.tunnels.phase (m.calls.tunnel z))) _ no_one.1 in
          absurd (true≢false (sym (rw is at rest.1)))
      by Waits is = ap lives is
      by WaitsReply is = ap lives is
      by WaitsConnect is = ap lives is
      by Up is = ap lives is

  one_then : (c : machine.World) → Written m c n → (k : Kept) → may_keep m n k ≡ true → Written m (keeps c k) n
  one_then c w (TunnelUp x s) may = up_then c w x s (up_node x s may) (up_busy x s may)
  one_then c w (TunnelDown x) may = down_then c w x (down_node x may)
  one_then c w (CallUp z own k) may = call_then c w z own k (call_node z own k may) (up_lives z own k may)
  one_then c w (CallDown z) may = end_then c w z (end_node z may)

  all_then : (ks : List Kept) (c : machine.World) → Written m c n → each_allowed m n ks ≡ true → Written m (writes c ks) n
  unfolding writes each_allowed
  all_then [] c w ok = w
  all_then (k ∷ ks) c w ok =
      let q = both (may_keep m n k) (each_allowed m n ks) ok in all_then ks (keeps c k) (one_then c w k q.0) q.1

  -- of records that the machine's world allows
  pub all_written : (ks : List Kept) → each_allowed m n ks ≡ true → Written m (writes m ks) n
  all_written ks ok = all_then ks m (written_none m n) ok
