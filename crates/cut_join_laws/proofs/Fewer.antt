-- Fewer records: those by which some tunnels come up are left out. They make the same of the book, if none of these tunnels stands in it
-- then; and of these tunnels nothing is learned.
use Rattle.std.proofs.Common.{◌≡◌, ℕ, Bool, true, false, List, [], ◌∷◌, refl, sym, ap, ◌∙◌, ne_eqb}
use Rattle.std.proofs.lemmas.Bool.{true≢false}
use Rattle.std.specs.Prelude.{◌==◌, ◌||◌, if◌then◌else◌}
use Rattle.epoch_machine.specs.Worlds as machine
use Rattle.epoch_machine.specs.Moves.{Kept, TunnelUp, TunnelDown, CallUp, CallDown, may_keep, keeps}
use Rattle.epoch_machine.specs.Tunnels.{keeps_up, keeps_down}
use Rattle.epoch_machine.specs.Calls.{Calls, lives, ends, of_tunnel, is_call, keeps_call}
use Rattle.epoch_machine.proofs.Tells.{both}
use Rattle.stop_laws.specs.Records.{writes, each_allowed}
use Rattle.stop_laws.proofs.Lists.{all_of}

-- without the records by which tunnels come up that aren't kept
pub fewer : (ℕ → Bool) → List Kept → List Kept
fewer keep [] = []
fewer keep (TunnelUp x s ∷ ks) = if keep x then TunnelUp x s ∷ fewer keep ks else fewer keep ks
fewer keep (TunnelDown x ∷ ks) = TunnelDown x ∷ fewer keep ks
fewer keep (CallUp z own k ∷ ks) = CallUp z own k ∷ fewer keep ks
fewer keep (CallDown z ∷ ks) = CallDown z ∷ fewer keep ks

module _ (m : machine.World) (n : ℕ) (keep : ℕ → Bool) where
  -- with a record that is allowed, or without it
  either_allowed : (b : Bool) (k : Kept) (ks : List Kept) → may_keep m n k ≡ true → each_allowed m n ks ≡ true
      → each_allowed m n (if b then k ∷ ks else ks) ≡ true
  unfolding each_allowed
  either_allowed true k ks may ok = all_of (may_keep m n k) (each_allowed m n ks) may ok
  either_allowed false k ks may ok = ok

  -- they are allowed too
  pub fewer_allowed : (ks : List Kept) → each_allowed m n ks ≡ true → each_allowed m n (fewer keep ks) ≡ true
  unfolding fewer each_allowed
  fewer_allowed [] ok = refl
  fewer_allowed (TunnelUp x s ∷ ks) ok =
      let q = both (may_keep m n (TunnelUp x s)) (each_allowed m n ks) ok in
      either_allowed (keep x) (TunnelUp x s) (fewer keep ks) q.0 (fewer_allowed ks q.1)
  fewer_allowed (TunnelDown x ∷ ks) ok =
      let q = both (may_keep m n (TunnelDown x)) (each_allowed m n ks) ok in
      all_of (may_keep m n (TunnelDown x)) (each_allowed m n (fewer keep ks)) q.0 (fewer_allowed ks q.1)
  fewer_allowed (CallUp z own k ∷ ks) ok =
      let q = both (may_keep m n (CallUp z own k)) (each_allowed m n ks) ok in
      all_of (may_keep m n (CallUp z own k)) (each_allowed m n (fewer keep ks)) q.0 (fewer_allowed ks q.1)
  fewer_allowed (CallDown z ∷ ks) ok =
      let q = both (may_keep m n (CallDown z)) (each_allowed m n ks) ok in
      all_of (may_keep m n (CallDown z)) (each_allowed m n (fewer keep ks)) q.0 (fewer_allowed ks q.1)

  -- what all of them make, and what the fewer ones make
  pub record Under (c d : machine.World) : Type 0 where
    pub calls : d.calls ≡ c.calls
    pub booked : (y : ℕ) → keep y ≡ true → d.tunnels.booked y ≡ c.tunnels.booked y
    pub learned : (y : ℕ) → keep y ≡ true → d.tunnels.learned y ≡ c.tunnels.learned y
    pub less : (y : ℕ) → c.tunnels.booked y ≡ false → d.tunnels.booked y ≡ false
    pub unlearned : (y : ℕ) → keep y ≡ false → d.tunnels.learned y ≡ m.tunnels.learned y

  under_none : Under m m
  under_none = record { calls = refl; booked = λ y is. refl; learned = λ y is. refl; less = λ y is. is; unlearned = λ y is. refl }

  -- a value that is put at one name, and another name
  other_name : {X : Type 0} (f : ℕ → X) (k : ℕ) (v : X) (y : ℕ) → (y ≡ k → ⊥) → (if y == k then v else f y) ≡ f y
  other_name f k v y o = ap (λ b. if b then v else f y) (ne_eqb y k o)

  apart : (x y : ℕ) → keep x ≡ true → keep y ≡ false → y ≡ x → ⊥
  apart x y is off e = true≢false (sym is ∙ (ap keep (sym e) ∙ off))

  module _ (c d : machine.World) (u : Under c d) where
    -- a tunnel that is kept comes up in both
    both_up : (x s : ℕ) → keep x ≡ true → Under (keeps c (TunnelUp x s)) (keeps d (TunnelUp x s))
    unfolding keeps keeps_up
    both_up x s is = by ((c.tunnels.learned x == 0) || (c.tunnels.learned x == s))
        ((d.tunnels.learned x == 0) || (d.tunnels.learned x == s))
        (ap (λ l. (l == 0) || (l == s)) (u.learned x is))
      where
        less_up : (b : Bool) (y : ℕ) → (if b then true else c.tunnels.booked y) ≡ false → (if b then true else d.tunnels.booked y) ≡ false
        less_up true y off = absurd (true≢false off)
        less_up false y off = u.less y off

        by : (b a : Bool) → a ≡ b
            → Under (if b then record c { tunnels = keeps_up c.tunnels x s } else c)
            (if a then record d { tunnels = keeps_up d.tunnels x s } else d)
        by true true e = record {
          calls = u.calls;
          booked = λ y k. ap (λ q. if y == x then true else q) (u.booked y k);
          learned = λ y k. ap (λ q. if y == x then s else q) (u.learned y k);
          less = λ y off. less_up (y == x) y off;
          unlearned = λ y off. other_name d.tunnels.learned x s y (apart x y is off) ∙ u.unlearned y off;
        }
        by false false e = u
        by true false e = absurd (true≢false (sym e))
        by false true e = absurd (true≢false e)

    -- one that isn't kept comes up in the one alone
    one_up : (x s : ℕ) → keep x ≡ false → Under (keeps c (TunnelUp x s)) d
    unfolding keeps keeps_up
    one_up x s is = by ((c.tunnels.learned x == 0) || (c.tunnels.learned x == s))
      where
        away : (y : ℕ) → keep y ≡ true → y ≡ x → ⊥
        away y k e = true≢false (sym k ∙ (ap keep e ∙ is))

        less_up : (b : Bool) (y : ℕ) → (if b then true else c.tunnels.booked y) ≡ false → d.tunnels.booked y ≡ false
        less_up true y off = absurd (true≢false off)
        less_up false y off = u.less y off

        by : (b : Bool) → Under (if b then record c { tunnels = keeps_up c.tunnels x s } else c) d
        by true = record {
          calls = u.calls;
          booked = λ y k. u.booked y k ∙ sym (other_name c.tunnels.booked x true y (away y k));
          learned = λ y k. u.learned y k ∙ sym (other_name c.tunnels.learned x s y (away y k));
          less = λ y off. less_up (y == x) y off;
          unlearned = u.unlearned;
        }
        by false = u

    both_down : (x : ℕ) → Under (keeps c (TunnelDown x)) (keeps d (TunnelDown x))
    unfolding keeps keeps_down
    both_down x = record {
      calls = ap (λ (q : Calls). ends q (of_tunnel q x)) u.calls;
      booked = λ y k. ap (λ q. if y == x then false else q) (u.booked y k);
      learned = u.learned;
      less = λ y off. less_down (y == x) y off;
      unlearned = u.unlearned;
    }
      where
        less_down : (b : Bool) (y : ℕ) → (if b then false else c.tunnels.booked y) ≡ false
            → (if b then false else d.tunnels.booked y) ≡ false
        less_down true y off = refl
        less_down false y off = u.less y off

    both_call : (z own k : ℕ) → Under (keeps c (CallUp z own k)) (keeps d (CallUp z own k))
    unfolding keeps
    both_call z own k = by (lives (c.calls.state z)) (lives (d.calls.state z)) (ap (λ (q : Calls). lives (q.state z)) u.calls)
      where
        by : (b a : Bool) → a ≡ b
            → Under (if b then record c { calls = keeps_call c.calls z own } else c)
            (if a then record d { calls = keeps_call d.calls z own } else d)
        by true true e = record {
          calls = ap (λ (q : Calls). keeps_call q z own) u.calls;
          booked = u.booked;
          learned = u.learned;
          less = u.less;
          unlearned = u.unlearned;
        }
        by false false e = u
        by true false e = absurd (true≢false (sym e))
        by false true e = absurd (true≢false e)

    both_end : (z : ℕ) → Under (keeps c (CallDown z)) (keeps d (CallDown z))
    unfolding keeps
    both_end z = record {
      calls = ap (λ (q : Calls). ends q (is_call z)) u.calls;
      booked = u.booked;
      learned = u.learned;
      less = u.less;
      unlearned = u.unlearned;
    }

  -- it is kept, or it isn't
  one_record : (c d : machine.World) (ks : List Kept) (x s : ℕ)
      → (keep x ≡ true → Under (writes (keeps c (TunnelUp x s)) ks) (writes (keeps d (TunnelUp x s)) (fewer keep ks)))
      → (keep x ≡ false → Under (writes (keeps c (TunnelUp x s)) ks) (writes d (fewer keep ks)))
      → Under (writes (keeps c (TunnelUp x s)) ks) (writes d (if keep x then TunnelUp x s ∷ fewer keep ks else fewer keep ks))
  unfolding writes
  one_record c d ks x s kept left = by (keep x) refl
    where
      by : (b : Bool) → keep x ≡ b
          → Under (writes (keeps c (TunnelUp x s)) ks) (writes d (if b then TunnelUp x s ∷ fewer keep ks else fewer keep ks))
      by true is = kept is
      by false is = left is

  all_then : (ks : List Kept) (c d : machine.World) → Under c d → Under (writes c ks) (writes d (fewer keep ks))
  unfolding fewer writes
  all_then [] c d u = u
  all_then (TunnelUp x s ∷ ks) c d u =
      one_record c d ks x s
      (λ is. all_then ks (keeps c (TunnelUp x s)) (keeps d (TunnelUp x s)) (both_up c d u x s is))
      (λ is. all_then ks (keeps c (TunnelUp x s)) d (one_up c d u x s is))
  all_then (TunnelDown x ∷ ks) c d u = all_then ks (keeps c (TunnelDown x)) (keeps d (TunnelDown x)) (both_down c d u x)
  all_then (CallUp z own k ∷ ks) c d u = all_then ks (keeps c (CallUp z own k)) (keeps d (CallUp z own k)) (both_call c d u z own k)
  all_then (CallDown z ∷ ks) c d u = all_then ks (keeps c (CallDown z)) (keeps d (CallDown z)) (both_end c d u z)

  pub all_under : (ks : List Kept) → Under (writes m ks) (writes m (fewer keep ks))
  all_under ks = all_then ks m m under_none
