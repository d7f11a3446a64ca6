-- What is taken where what comes less than 8 ahead is kept.
use Rattle.std.proofs.Common.{◌≡◌, ◌<◌, ◌≤◌, ℕ, zero, suc, ◌+◌, ◌-◌, ◌⊎◌, inl, inr, List, [], ◌∷◌, ◌++◌, length, refl, sym, ap, ◌∙◌, arith, subst, get_or, replicate}
use Rattle.std.specs.Prelude.{Option, Some, None}
use Rattle.std.specs.List.{All, Contains}
use Rattle.std.proofs.lemmas.Bool.{cases_eq, cases_lt, cases_order, lt-ltb, le-ltb}
use Rattle.std.proofs.lemmas.Bool.Decides.{nat_tests}
use Rattle.std.proofs.lemmas.List.{length_push, map-append}
use Rattle.std.proofs.lemmas.List.Elements.{All-push, All-weaker, All-nil, Contains-push, Contains-append_left}
use Rattle.recv_window.specs.declared.Class.TheVariants.{Next, Duplicate, Ahead}
use Rattle.recv_window.specs.Window.{Inbox, CountsOn, true_class, counting_from}
use Rattle.recv_window.specs.Ahead.{kept_at, after_keep}
use Rattle.recv_window.specs.Receiving.{Numbered, Receiver, Event, Comes, TakesNext, begun, having_taken, having_admitted, having_kept, after_class, after_take_kept, after_event, after_events, ComesNear, ComeNear, ComesInTurn, ComeInTurn, first_with, numbers_of, TakesInOrder, AreTheFirst, KeptAreTakenInOrder, CopiesReplaceNone}
use Rattle.recv_window.proofs.Order.{class_is_true}
use Rattle.recv_window.proofs.First.{first_stays, first_other, first_new, first_past, first_came}
use Rattle.recv_window.proofs.Places.{kept_at-keep, kept_at-keep_other, keep_held, length-keep, length-shift, shifted}

-- numbers that count on, and one more
counting_push : (first k : ℕ) → counting_from first (suc k) ≡ counting_from first k ++ (first + k) ∷ []
unfolding counting_from
counting_push first zero = ap (λ n. n ∷ []) (omega arith)
counting_push first (suc k) = ap (λ ns. first ∷ ns) (counting_push (first + 1) k ∙ ap (λ n. counting_from (first + 1) k ++ n ∷ []) (omega arith))

counts_on : (ns : List ℕ) (first last n : ℕ) → CountsOn ns first last → n ≡ last → CountsOn (ns ++ n ∷ []) first (last + 1)
counts_on ns first last n h is =
    let longer : length (ns ++ n ∷ []) ≡ suc (length ns) = omega (arith, length_push ns n) in
    let same : n ≡ first + length ns = omega (arith, is, h.counted) in
    record {
      in_order = ap (λ ms. ms ++ n ∷ []) h.in_order ∙ ap (λ m. counting_from first (length ns) ++ m ∷ []) same ∙ sym (counting_push first (length ns)) ∙ ap (counting_from first) (sym longer);
      counted = omega (arith, h.counted, longer);
    }

-- the class of a number without an end
true_next : (n : ℕ) (i : Inbox) → n ≡ i.taken → true_class n i ≡ Next
true_next n i is = grind (arith, nat_tests)

true_ahead : (n : ℕ) (i : Inbox) → i.taken < n → true_class n i ≡ Ahead (n - i.taken)
true_ahead n i lt = grind (arith, nat_tests)

true_duplicate : (n : ℕ) (i : Inbox) → n < i.taken → true_class n i ≡ Duplicate
true_duplicate n i lt = grind (arith, nat_tests)

module _ {T : Type 0} where
  -- the message that is expected is taken, which came
  taking : (first : ℕ) (r : Receiver T) (a : Numbered T) → CountsOn (numbers_of r.taken) first r.inbox.taken → All (Contains r.admitted) r.taken
      → ((by : ℕ) → 0 < by → by < 8 → kept_at r.places by ≡ first_with (r.inbox.taken + by) r.admitted) → length r.places ≡ 8 → All (λ b. b.number < r.inbox.taken + 8) r.admitted
      → a.number ≡ r.inbox.taken → Contains r.admitted a → TakesInOrder first (having_taken a r)
  taking first r a counts came kept eight within is there = record {
    in_order = subst (λ ns. CountsOn ns first (r.inbox.taken + 1)) (sym (map-append (λ b. b.number) r.taken (a ∷ []))) (counts_on (numbers_of r.taken) first r.inbox.taken a.number counts is);
    came = All-push (Contains r.admitted) r.taken a came there;
    kept = shifted r.places r.inbox.taken (λ n. first_with n r.admitted) eight kept (first_past (r.inbox.taken + 8) (r.inbox.taken + 8) r.admitted within (omega arith));
    places = length-shift r.places eight;
    within = All-weaker (λ b. b.number < r.inbox.taken + 8) (λ b. b.number < (r.inbox.taken + 1) + 8) (λ b lt. omega arith) r.admitted within;
  }

  takes_next : (first : ℕ) (r : Receiver T) (a : Numbered T) → TakesInOrder first r → a.number ≡ r.inbox.taken → TakesInOrder first (having_taken a (having_admitted a r))
  takes_next first r a h is = taking first (having_admitted a r) a h.in_order
      (All-weaker (Contains r.admitted) (Contains (r.admitted ++ a ∷ [])) (λ b. Contains-append_left r.admitted (a ∷ []) b) r.taken h.came)
      (λ by past lt. h.kept by lt ∙ sym (first_other (r.inbox.taken + by) r.admitted a (λ same. omega arith)))
      h.places
      (All-push (λ b. b.number < r.inbox.taken + 8) r.admitted a h.within (omega arith))
      is
      (Contains-push r.admitted a)

  takes_kept : (first : ℕ) (r : Receiver T) (o : Option T) → TakesInOrder first r → kept_at r.places 0 ≡ o → TakesInOrder first (after_take_kept o r)
  takes_kept first r None h is = h
  takes_kept first r (Some message) h is =
      let came : first_with r.inbox.taken r.admitted ≡ Some message = ap (λ n. first_with n r.admitted) (omega arith) ∙ sym (h.kept 0 (omega arith)) ∙ is in
      taking first r (record { number = r.inbox.taken; message = message }) h.in_order h.came (λ by past lt. h.kept by lt) h.places h.within refl (first_came r.inbox.taken r.admitted message came)

  -- a message is kept at its place: where one is kept there, or none
  kept_there : (r : Receiver T) (a : Numbered T) (by : ℕ) (o : Option T) → a.number ≡ r.inbox.taken + by → by < length r.places → kept_at r.places by ≡ o → first_with (r.inbox.taken + by) r.admitted ≡ o
      → kept_at (after_keep r.places by a.message) by ≡ first_with (r.inbox.taken + by) (r.admitted ++ a ∷ [])
  kept_there r a by None is lt none first = kept_at-keep r.places by a.message lt none ∙ sym (first_new (r.inbox.taken + by) r.admitted a (sym is) first)
  kept_there r a by (Some held) is lt there first = ap (λ places. kept_at places by) (keep_held r.places by a.message held there) ∙ there ∙ sym (first_stays (r.inbox.taken + by) r.admitted a held first)

  kept_anywhere : (first : ℕ) (r : Receiver T) (a : Numbered T) (by k : ℕ) → TakesInOrder first r → a.number ≡ r.inbox.taken + by → by < 8 → k < 8 → (k ≡ by) ⊎ (k ≡ by → ⊥)
      → kept_at (after_keep r.places by a.message) k ≡ first_with (r.inbox.taken + k) (r.admitted ++ a ∷ [])
  kept_anywhere first r a by k h is lt in_places (inl same) = subst (λ j. kept_at (after_keep r.places by a.message) j ≡ first_with (r.inbox.taken + j) (r.admitted ++ a ∷ [])) (sym same)
      (kept_there r a by (kept_at r.places by) is (omega (arith, h.places)) refl (sym (h.kept by lt)))
  kept_anywhere first r a by k h is lt in_places (inr other) =
      kept_at-keep_other r.places by k a.message other ∙ h.kept k in_places ∙ sym (first_other (r.inbox.taken + k) r.admitted a (λ same. other (omega arith)))

  keeps : (first : ℕ) (r : Receiver T) (a : Numbered T) (by : ℕ) → TakesInOrder first r → a.number ≡ r.inbox.taken + by → by < 8 → TakesInOrder first (having_kept a by (having_admitted a r))
  keeps first r a by h is lt = record {
    in_order = h.in_order;
    came = All-weaker (Contains r.admitted) (Contains (r.admitted ++ a ∷ [])) (λ b. Contains-append_left r.admitted (a ∷ []) b) r.taken h.came;
    kept = λ k in_places. kept_anywhere first r a by k h is lt in_places (cases_eq k by);
    places = length-keep r.places by a.message ∙ h.places;
    within = All-push (λ b. b.number < r.inbox.taken + 8) r.admitted a h.within (omega arith);
  }

  is_kept : (first : ℕ) (r : Receiver T) (a : Numbered T) (by : ℕ) → TakesInOrder first r → a.number ≡ r.inbox.taken + by → (by < 8) ⊎ (8 ≤ by) → TakesInOrder first (after_class (Ahead by) a r)
  is_kept first r a by h is (inl lt) = rw (lt-ltb by 8 lt) (keeps first r a by h is lt)
  is_kept first r a by h is (inr le) = rw (le-ltb by 8 le) h

  by_number : (first : ℕ) (r : Receiver T) (a : Numbered T) → TakesInOrder first r → (a.number ≡ r.inbox.taken) ⊎ ((a.number < r.inbox.taken) ⊎ (r.inbox.taken < a.number)) → TakesInOrder first (after_class (true_class a.number r.inbox) a r)
  by_number first r a h (inl is) = subst (λ c. TakesInOrder first (after_class c a r)) (sym (true_next a.number r.inbox is)) (takes_next first r a h is)
  by_number first r a h (inr (inl lt)) = subst (λ c. TakesInOrder first (after_class c a r)) (sym (true_duplicate a.number r.inbox lt)) h
  by_number first r a h (inr (inr lt)) = subst (λ c. TakesInOrder first (after_class c a r)) (sym (true_ahead a.number r.inbox lt)) (is_kept first r a (a.number - r.inbox.taken) h (omega arith) (cases_lt (a.number - r.inbox.taken) 8))

  step : (first : ℕ) (e : Event T) (r : Receiver T) → TakesInOrder first r → ComesNear e r.inbox → TakesInOrder first (after_event e r)
  step first (Comes a) r h near = subst (λ c. TakesInOrder first (after_class c a r)) (sym (class_is_true a.number r.inbox near)) (by_number first r a h (cases_order a.number r.inbox.taken))
  step first TakesNext r h near = takes_kept first r (kept_at r.places 0) h refl

  steps : (first : ℕ) (es : List (Event T)) (r : Receiver T) → TakesInOrder first r → ComeNear es r → TakesInOrder first (after_events es r)
  unfolding after_events ComeNear
  steps first [] r h near = h
  steps first (e ∷ es) r h near = steps first es (after_event e r) (step first e r h near.0) near.1

  none_of : (n k : ℕ) → get_or {A = Option T} (replicate n None) k None ≡ None
  none_of zero k = refl
  none_of (suc n) zero = refl
  none_of (suc n) (suc k) = none_of n k

  begins : (i : Inbox) → TakesInOrder i.taken (begun {T = T} i)
  unfolding first_with counting_from
  begins i = record {
    in_order = record { in_order = refl; counted = omega arith };
    came = All-nil (Contains []);
    kept = λ by lt. none_of 8 by;
    places = refl;
    within = All-nil (λ b. b.number < i.taken + 8);
  }

  pub taken_in_order : KeptAreTakenInOrder T
  taken_in_order es i near = steps i.taken es (begun i) (begins i) near

  -- what was taken came first of its number
  still_first : (r : Receiver T) (a : Numbered T) → AreTheFirst r → All (λ b. first_with b.number (r.admitted ++ a ∷ []) ≡ Some b.message) r.taken
  still_first r a first = All-weaker (λ b. first_with b.number r.admitted ≡ Some b.message) (λ b. first_with b.number (r.admitted ++ a ∷ []) ≡ Some b.message) (λ b is. first_stays b.number r.admitted a b.message is) r.taken first

  next_is_first : (start : ℕ) (r : Receiver T) (a : Numbered T) → TakesInOrder start r → AreTheFirst r → kept_at r.places 0 ≡ None → a.number ≡ r.inbox.taken → AreTheFirst (having_taken a (having_admitted a r))
  next_is_first start r a h first none is =
      let fresh : first_with a.number r.admitted ≡ None = ap (λ n. first_with n r.admitted) (omega (arith, is)) ∙ sym (h.kept 0 (omega arith)) ∙ none in
      All-push (λ b. first_with b.number (r.admitted ++ a ∷ []) ≡ Some b.message) r.taken a (still_first r a first) (first_new a.number r.admitted a refl fresh)

  kept_is_first : (start : ℕ) (r : Receiver T) (o : Option T) → TakesInOrder start r → AreTheFirst r → kept_at r.places 0 ≡ o → AreTheFirst (after_take_kept o r)
  kept_is_first start r None h first is = first
  kept_is_first start r (Some message) h first is =
      All-push (λ b. first_with b.number r.admitted ≡ Some b.message) r.taken (record { number = r.inbox.taken; message = message }) first
      (ap (λ n. first_with n r.admitted) (omega arith) ∙ sym (h.kept 0 (omega arith)) ∙ is)

  ahead_is_first : (r : Receiver T) (a : Numbered T) (by : ℕ) → AreTheFirst r → (by < 8) ⊎ (8 ≤ by) → AreTheFirst (after_class (Ahead by) a r)
  ahead_is_first r a by first (inl lt) = rw (lt-ltb by 8 lt) (still_first r a first)
  ahead_is_first r a by first (inr le) = rw (le-ltb by 8 le) first

  first_by_number : (start : ℕ) (r : Receiver T) (a : Numbered T) → TakesInOrder start r → AreTheFirst r → kept_at r.places 0 ≡ None
      → (a.number ≡ r.inbox.taken) ⊎ ((a.number < r.inbox.taken) ⊎ (r.inbox.taken < a.number)) → AreTheFirst (after_class (true_class a.number r.inbox) a r)
  first_by_number start r a h first none (inl is) = subst (λ c. AreTheFirst (after_class c a r)) (sym (true_next a.number r.inbox is)) (next_is_first start r a h first none is)
  first_by_number start r a h first none (inr (inl lt)) = subst (λ c. AreTheFirst (after_class c a r)) (sym (true_duplicate a.number r.inbox lt)) first
  first_by_number start r a h first none (inr (inr lt)) = subst (λ c. AreTheFirst (after_class c a r)) (sym (true_ahead a.number r.inbox lt)) (ahead_is_first r a (a.number - r.inbox.taken) first (cases_lt (a.number - r.inbox.taken) 8))

  first_step : (start : ℕ) (e : Event T) (r : Receiver T) → TakesInOrder start r → AreTheFirst r → ComesNear e r.inbox → ComesInTurn e r → AreTheFirst (after_event e r)
  first_step start (Comes a) r h first near in_turn = subst (λ c. AreTheFirst (after_class c a r)) (sym (class_is_true a.number r.inbox near)) (first_by_number start r a h first in_turn (cases_order a.number r.inbox.taken))
  first_step start TakesNext r h first near in_turn = kept_is_first start r (kept_at r.places 0) h first refl

  first_steps : (start : ℕ) (es : List (Event T)) (r : Receiver T) → TakesInOrder start r → AreTheFirst r → ComeNear es r → ComeInTurn es r → AreTheFirst (after_events es r)
  unfolding after_events ComeNear ComeInTurn
  first_steps start [] r h first near in_turn = first
  first_steps start (e ∷ es) r h first near in_turn = first_steps start es (after_event e r) (step start e r h near.0) (first_step start e r h first near.0 in_turn.0) near.1 in_turn.1

  pub copies_replace_none : CopiesReplaceNone T
  copies_replace_none es i near in_turn = first_steps i.taken es (begun i) (begins i) (All-nil (λ b. first_with b.number [] ≡ Some b.message)) near in_turn
