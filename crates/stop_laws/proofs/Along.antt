-- The records of a step of several moves: each prefix may be kept in the world before it, and all of them make its book.
use Rattle.std.proofs.Common.{◌≡◌, ◌≢◌, ◌⊎◌, inl, inr, ⊎_elim, ℕ, Bool, true, cond, eqb, ◌||◌, List, [], ◌∷◌, ◌++◌, refl, sym, ap, ◌∙◌, subst}
use Rattle.epoch_machine.specs.Tunnels.{Gone, keeps_up, keeps_down}
use Rattle.epoch_machine.specs.Calls.{lives, ends, keeps_call}
use Rattle.epoch_machine.specs.Worlds.{World, all_rules, empty_world}
use Rattle.epoch_machine.specs.Moves.{Move, Kept, TunnelUp, TunnelDown, CallUp, CallDown, may_keep, keeps, step, goes_on}
use Rattle.epoch_machine.proofs.Splits.{chosen, at_name}
use Rattle.epoch_machine.proofs.Tells.{both, no_way}
use Rattle.epoch_machine.proofs.Stops.{up_tells}
use Rattle.coverage_laws.proofs.Runs.{Whole, whole_after, whole_step}
use Rattle.stop_laws.specs.Records.{records_of, writes, each_allowed, SameBook}
use Rattle.stop_laws.specs.Stops.{AllHolds}
use Rattle.stop_laws.specs.Steps.{records_along, InStep, AllInStep, CutAt, StopsAmidLists}
use Rattle.stop_laws.proofs.Lists.{all_of, prefix_allowed}
use Rattle.stop_laws.proofs.Ups.{NeverUp, never_after, never_on}
use Rattle.stop_laws.proofs.Books.{same_book}
use Rattle.stop_laws.proofs.Moves.{step_book}
use Rattle.stop_laws.proofs.Allowed.{step_allowed}
use Rattle.stop_laws.proofs.Cuts.{stop_is_cut, by_stop, holds_at}
use Rattle.stop_laws.proofs.Stays.{Stays, same_tunnels, same_calls, stays_on}
use Rattle.stop_laws.proofs.Booked.{IsBooked, booked_step, booked_after}
use Rattle.stop_laws.proofs.Goings.{step_stays}
use Rattle.stop_laws.proofs.Wrote.{Wrote, nothing, one, step_wrote}
use Rattle.stop_laws.proofs.Early.{InBook, early}
use Rattle.stop_laws.proofs.Nexts.{Follows, off, still, up_drawn, nothing_next, one_next}

-- v is a world amid the step that began in w, and b is w with the records that were written until then
record Amidst (w v b : World) : Type 0 where
  whole : Whole v
  never : NeverUp v
  booked : IsBooked v
  stays : Stays w v
  in_book : InBook w v
  follows : Follows w v b

module _ (w : World) (h : Whole w) (n : ℕ) where
  -- what a record that's allowed in w writes of a book was known in w
  tunnel_known : (v : World) (k : Kept) → may_keep w n k ≡ true → (x : ℕ) → (keeps v k).tunnels.booked x ≡ true → (v.tunnels.booked x ≡ true) ⊎ (w.tunnels.phase x ≢ Gone)
  unfolding keeps keeps_up keeps_down
  tunnel_known v (TunnelUp y s) may x b0 = chosen (λ (u : World). u.tunnels.booked x ≡ true → (v.tunnels.booked x ≡ true) ⊎ (w.tunnels.phase x ≢ Gone)) (eqb (v.tunnels.learned y) 0 || eqb (v.tunnels.learned y) s) (record v { tunnels = keeps_up v.tunnels y s }) v (λ i b. at b) (λ i b. inl b) b0
    where
      there : w.tunnels.phase y ≢ Gone
      there e = ⊎_elim (λ a. (let p = a.0 in cc)) (λ a. (let p = a.0 in cc)) (up_tells w n y s may).why

      at : cond (eqb x y) true (v.tunnels.booked x) ≡ true → (v.tunnels.booked x ≡ true) ⊎ (w.tunnels.phase x ≢ Gone)
      at b = at_name v.tunnels.booked y true x (λ (q : Bool). q ≡ true → (v.tunnels.booked x ≡ true) ⊎ (w.tunnels.phase x ≢ Gone)) (λ i j. inr (λ e. there (ap w.tunnels.phase (sym i) ∙ e))) (λ i j. inl j) b
  tunnel_known v (TunnelDown y) may x b = inl (still (eqb x y) (v.tunnels.booked x) b)
  tunnel_known v (CallUp y own k) may x b = chosen (λ (u : World). u.tunnels.booked x ≡ true → (v.tunnels.booked x ≡ true) ⊎ (w.tunnels.phase x ≢ Gone)) (lives (v.calls.state y)) _ _ (λ i b. inl b) (λ i b. inl b) b
  tunnel_known v (CallDown y) may x b = inl b

  call_known : (v : World) (k : Kept) → may_keep w n k ≡ true → (z : ℕ) → (keeps v k).calls.booked z ≡ true → (v.calls.booked z ≡ true) ⊎ (w.calls.drawn z ≡ true)
  unfolding keeps ends keeps_call
  call_known v (TunnelUp y s) may z b = chosen (λ (u : World). u.calls.booked z ≡ true → (v.calls.booked z ≡ true) ⊎ (w.calls.drawn z ≡ true)) (eqb (v.tunnels.learned y) 0 || eqb (v.tunnels.learned y) s) _ _ (λ i b. inl b) (λ i b. inl b) b
  call_known v (TunnelDown y) may z b = inl (still (eqb (v.calls.tunnel z) y) (v.calls.booked z) b)
  call_known v (CallUp y own k) may z b0 = chosen (λ (u : World). u.calls.booked z ≡ true → (v.calls.booked z ≡ true) ⊎ (w.calls.drawn z ≡ true)) (lives (v.calls.state y)) _ _ (λ i b. at b) (λ i b. inl b) b0
    where
      drawn : w.calls.drawn y ≡ true
      drawn = up_drawn w h n y own k may

      at : cond (eqb z y) true (v.calls.booked z) ≡ true → (v.calls.booked z ≡ true) ⊎ (w.calls.drawn z ≡ true)
      at b = at_name v.calls.booked y true z (λ (q : Bool). q ≡ true → (v.calls.booked z ≡ true) ⊎ (w.calls.drawn z ≡ true)) (λ i j. inr (ap w.calls.drawn i ∙ drawn)) (λ i j. inl j) b
  call_known v (CallDown y) may z b = inl (still (eqb z y) (v.calls.booked z) b)

  -- what stands in the book after the move
  book_on_none : (v u : World) → InBook w v → SameBook v u → InBook w u
  book_on_none v u ib sb = record { tunnels = λ x b. ib.tunnels x (sb.tunnels x ∙ b); calls = λ z b. ib.calls z (sb.calls z ∙ b) }

  book_on_one : (v u : World) (k : Kept) → may_keep w n k ≡ true → InBook w v → SameBook (writes v (k ∷ [])) u → InBook w u
  unfolding writes
  book_on_one v u k may ib sb = record { tunnels = λ x b. ⊎_elim (λ i. ib.tunnels x i) (λ i. inr i) (tunnel_known v k may x (sb.tunnels x ∙ b)); calls = λ z b. ⊎_elim (λ i. ib.calls z i) (λ i. i) (call_known v k may z (sb.calls z ∙ b)) }

  module _ (v b : World) (a : Amidst w v b) (m : Move) (i : InStep w n v m) where
    abbrev u : World
    u = step all_rules v m

    whole_u : Whole u
    whole_u = whole_step all_rules v m record { reads = refl; truly = refl; asks = refl; tells = refl; freezes = refl } a.whole

    stays_u : Stays v u
    stays_u = step_stays v m i.no_outage

    amidst : (ks : List Kept) → InBook w u → Follows w u (writes b ks) → Amidst w u (writes b ks)
    amidst ks ib f = record { whole = whole_u; never = never_on v m a.whole a.never; booked = booked_step v m a.booked; stays = stays_on w v u a.stays stays_u; in_book = ib; follows = f }

    one_move : (ks : List Kept) → Wrote w v ks → SameBook (writes v ks) u → each_allowed v n ks ≡ true → (each_allowed w n ks ≡ true) × Amidst w u (writes b ks)
    unfolding writes each_allowed
    one_move _ nothing sb al = (refl, amidst [] (book_on_none v u a.in_book sb) (nothing_next w v b h a.whole a.stays a.in_book a.follows n u whole_u (booked_step v m a.booked) stays_u sb))
    one_move _ (one k why) sb al =
        let now = (both (may_keep v n k) true al).0 in
        let before = early w v h a.whole a.stays a.in_book n k now why in
        (all_of (may_keep w n k) true before refl, amidst (k ∷ []) (book_on_one v u k before a.in_book sb) (one_next w v b h a.whole a.stays a.in_book a.follows n u whole_u (booked_step v m a.booked) stays_u k now before why sb))

    move_on : (each_allowed w n (records_of v m) ≡ true) × Amidst w u (writes b (records_of v m))
    move_on = one_move (records_of v m) (step_wrote w v a.whole a.booked n m i) (step_book v a.whole a.never m) (subst (λ (q : ℕ). each_allowed v q (records_of v m) ≡ true) i.node (step_allowed v a.whole m))

  allowed_on : (ks js : List Kept) → each_allowed w n ks ≡ true → each_allowed w n js ≡ true → each_allowed w n (ks ++ js) ≡ true
  unfolding each_allowed
  allowed_on [] js p q = q
  allowed_on (k ∷ ks) js p q = let a = both (may_keep w n k) (each_allowed w n ks) p in all_of (may_keep w n k) (each_allowed w n (ks ++ js)) a.0 (allowed_on ks js a.1 q)

  writes_on : (b : World) (ks js : List Kept) → writes b (ks ++ js) ≡ writes (writes b ks) js
  unfolding writes
  writes_on b [] js = refl
  writes_on b (k ∷ ks) js = writes_on (keeps b k) ks js

  along : (ms : List Move) (v b : World) → Amidst w v b → AllInStep w n v ms → (each_allowed w n (records_along v ms) ≡ true) × SameBook (writes b (records_along v ms)) (goes_on all_rules v ms)
  unfolding records_along goes_on each_allowed writes
  along [] v b a all = (refl, a.follows.alike)
  along (m ∷ ms) v b a all =
      let here = move_on v b a m all.0 in
      let rest = along ms (step all_rules v m) (writes b (records_of v m)) here.1 all.1 in
      (allowed_on (records_of v m) (records_along (step all_rules v m) ms) here.0 rest.0, subst (λ (q : World). SameBook q (goes_on all_rules (step all_rules v m) ms)) (sym (writes_on b (records_of v m) (records_along (step all_rules v m) ms))) rest.1)

  begins : NeverUp w → IsBooked w → Amidst w w w
  begins nu ib = record {
    whole = h;
    never = nu;
    booked = ib;
    stays = record { tunnels = same_tunnels w.tunnels; calls = same_calls w.calls };
    in_book = record { tunnels = λ x b. inl b; calls = λ z b. drawn z b };
    follows = record { alike = same_book w; learned = λ x l. refl; tunnel = λ z. refl; lives = λ z d l. l };
  }
    where
      drawn : (z : ℕ) → w.calls.booked z ≡ true → w.calls.drawn z ≡ true
      drawn z b = ⊎_elim (λ i. i) (λ i. absurd (no_way (w.calls.booked z) b (h.sound.calls.nameless z i).booked)) (off (w.calls.drawn z))

abbrev at : List Move → World
at ms = goes_on all_rules empty_world ms

all_along : (ms : List Move) (n : ℕ) (js : List Move) → AllInStep (at ms) n (at ms) js → (each_allowed (at ms) n (records_along (at ms) js) ≡ true) × SameBook (writes (at ms) (records_along (at ms) js)) (goes_on all_rules (at ms) js)
all_along ms n js all = along (at ms) (whole_after ms) n js (at ms) (at ms) (begins (at ms) (whole_after ms) n (never_after ms) (booked_after ms)) all

each_prefix : (ms : List Move) (n : ℕ) (js : List Move) (ks rest : List Kept) → CutAt ms n js ks rest → each_allowed (at ms) n ks ≡ true
each_prefix ms n js ks rest c = prefix_allowed (at ms) n ks rest (ap (each_allowed (at ms) n) c.prefix ∙ (all_along ms n js c.one_step).0)

pub stops_amid_lists : StopsAmidLists
stops_amid_lists = record {
  same_book = λ ms n js all. (all_along ms n js all).1;
  allowed = each_prefix;
  is_stop = λ ms n js ks rest c. stop_is_cut (at ms) n ks (each_prefix ms n js ks rest c);
  is_reached = λ ms n js ks rest c. by_stop ms n ks (each_prefix ms n js ks rest c);
  keeps_all = λ ms n js ks rest c. (let r = by_stop ms n ks (each_prefix ms n js ks rest c) in subst (λ (w : World). AllHolds w) r.reached (holds_at r.moves));
}
