-- The sessions ascend, so the least session whose PADR is repeated is that of the first entry whose PADR is.
use Rattle.std.specs.Prelude.{◌≡◌, ◌<◌, ◌≤◌, ◌^◌, ◌∷◌, [], ℕ, Bool, true, false, List, Option, Some, None}
use Rattle.std.specs.declared.cmp.Ordering.{Ordering}
use Rattle.std.specs.declared.cmp.Ordering.TheVariants.{Less, Equal, Greater}
use Rattle.std.specs.Ordering.{nat_cmp}
use Rattle.std.specs.List.{All, AllByRecursion}
use Rattle.std.specs.List.Sorted.{IsStrictlySortedBy}
use Rattle.std.specs.Map.{keys_of, lookup, remove_entry}
use Rattle.std.specs.BTreeMap.{is_at, insert_entry}
use Rattle.std.proofs.Common.{refl, ap, sym, subst, ◌∙◌, arith, true≢false}
use Rattle.std.proofs.lemmas.Bool.Decides.{nat_tests}
use Rattle.std.proofs.lemmas.List.Elements.{All-head, All-tail}
use Rattle.std.proofs.lemmas.Map.Views.{All-keys-insert_entry, All-map-remove_entry}
use Rattle.pppoe_session.specs.declared.Subscriber.{Subscriber}
use Rattle.pppoe_session.specs.Subscribers.{is_repeat, is_repeat_of, repeat_in, subscriber_of, IsLeast, IsInOrder}
use Rattle.pppoe_session.proofs.Index.{at_one}

-- each session is above k
abbrev IsAbove : ℕ → List (ℕ × Subscriber) → Type 0
IsAbove k es = AllByRecursion (λ q. nat_cmp k q ≡ Less) (keys_of es)

pub order_added : (es fs : List (ℕ × Subscriber)) (session : ℕ) (who : Subscriber) → session < 2 ^ 16 → IsInOrder es
    → IsStrictlySortedBy nat_cmp (keys_of fs) → fs ≡ insert_entry nat_cmp es session who → IsInOrder fs
order_added es fs session who small order ascend added =
    (ascend, subst (λ xs. All (λ s. s < 2 ^ 16) (keys_of xs)) (sym added) (All-keys-insert_entry nat_cmp session who (λ s. s < 2 ^ 16) es order.1 small))

pub order_dropped : (es fs : List (ℕ × Subscriber)) (session : ℕ) → IsInOrder es
    → IsStrictlySortedBy nat_cmp (keys_of fs) → fs ≡ remove_entry (is_at (nat_cmp session)) es → IsInOrder fs
order_dropped es fs session order ascend dropped = (
  ascend,
  subst (λ xs. All (λ s. s < 2 ^ 16) (keys_of xs)) (sym dropped)
      (All-map-remove_entry (is_at (nat_cmp session)) (λ e. e.0) (λ s. s < 2 ^ 16) es order.1),
)

at_itself : (k : ℕ) → is_at (nat_cmp k) k ≡ true
at_itself k = grind (arith, nat_tests)

some_is_none : {who : Subscriber} → Some who ≡ None → ⊥
some_is_none h = absurd cc

at_head : (es : List (ℕ × Subscriber)) (session : ℕ) (e : ℕ × Subscriber) → nat_cmp session e.0 ≡ Equal → lookup (is_at (nat_cmp session)) (e ∷ es) ≡ Some e.1
at_head es session e is = rw is refl

past_head : (es : List (ℕ × Subscriber)) (session : ℕ) (e : ℕ × Subscriber) → nat_cmp session e.0 ≡ Greater
    → lookup (is_at (nat_cmp session)) (e ∷ es) ≡ lookup (is_at (nat_cmp session)) es
past_head es session e is = rw is refl

undone_by : (es : List (ℕ × Subscriber)) (session : ℕ) (who : Subscriber) (e : ℕ × Subscriber) → lookup (is_at (nat_cmp session)) (e ∷ es) ≡ None
    → (lookup (is_at (nat_cmp session)) es ≡ None → remove_entry (is_at (nat_cmp session)) (insert_entry nat_cmp es session who) ≡ es)
    → (o : Ordering) → nat_cmp session e.0 ≡ o
    → remove_entry (is_at (nat_cmp session)) (insert_entry nat_cmp (e ∷ es) session who) ≡ e ∷ es
undone_by es session who e free later Less is = rw is (rw (at_itself session) refl)
undone_by es session who e free later Equal is = absurd (some_is_none (sym (at_head es session e is) ∙ free))
undone_by es session who e free later Greater is = rw is (rw is (ap (λ xs. e ∷ xs) (later (sym (past_head es session e is) ∙ free))))

-- a subscriber that was added where nobody was, and is taken off again, leaves what was
pub added_and_dropped : (es : List (ℕ × Subscriber)) (session : ℕ) (who : Subscriber) → lookup (is_at (nat_cmp session)) es ≡ None
    → remove_entry (is_at (nat_cmp session)) (insert_entry nat_cmp es session who) ≡ es
added_and_dropped [] session who free = rw (at_itself session) refl
added_and_dropped (e ∷ es) session who free = undone_by es session who e free (added_and_dropped es session who) (nat_cmp session e.0) refl

not_at : (s k q : ℕ) → s ≤ k → nat_cmp k q ≡ Less → is_at (nat_cmp s) q ≡ false
not_at s k q most less = grind (arith, nat_tests)

none_above : (s k : ℕ) (es : List (ℕ × Subscriber)) → s ≤ k → IsAbove k es → subscriber_of es s ≡ None
unfolding subscriber_of
none_above s k [] most above = refl
none_above s k (e ∷ es) most above = rw (not_at s k e.0 most above.0) (none_above s k es most above.1)

not_at_greater : (s k : ℕ) → s < k → is_at (nat_cmp s) k ≡ false
not_at_greater s k below = grind (arith, nat_tests)

neither_side : (s k : ℕ) → (s < k → ⊥) → (k < s → ⊥) → s ≡ k
neither_side s k below above = grind (arith, nat_tests, below, above)

least_of_same : (P Q : ℕ → Bool) → ((s : ℕ) → P s ≡ Q s) → (found : Option ℕ) → IsLeast P found → IsLeast Q found
least_of_same P Q same None none = λ s low high. sym (same s) ∙ none s low high
least_of_same P Q same (Some s) least = (sym (same s) ∙ least.0, λ t low high. sym (same t) ∙ least.1 t low high)

module _ (mac : List ℕ) (uniq : Option (List ℕ)) where
  abbrev repeats : List (ℕ × Subscriber) → ℕ → Bool
  repeats es s = is_repeat_of mac uniq (subscriber_of es s)

  at_first : (e : ℕ × Subscriber) (es : List (ℕ × Subscriber)) → repeats (e ∷ es) e.0 ≡ is_repeat mac uniq e.1
  unfolding subscriber_of
  at_first e es = rw (at_itself e.0) refl

  before_first : (e : ℕ × Subscriber) (es : List (ℕ × Subscriber)) (s : ℕ) → IsAbove e.0 es → s < e.0 → repeats (e ∷ es) s ≡ false
  unfolding subscriber_of
  before_first e es s above below = rw (not_at_greater s e.0 below) (ap (is_repeat_of mac uniq) (none_above s e.0 es (omega arith) above))

  past_first_by : (e : ℕ × Subscriber) (es : List (ℕ × Subscriber)) (s : ℕ) → IsAbove e.0 es → is_repeat mac uniq e.1 ≡ false
      → (b : Bool) → is_at (nat_cmp s) e.0 ≡ b → repeats (e ∷ es) s ≡ repeats es s
  unfolding subscriber_of
  past_first_by e es s above other true is = let same = at_one s e.0 is in
      rw is (other ∙ sym (ap (is_repeat_of mac uniq) (none_above s e.0 es (omega (arith, same)) above)))
  past_first_by e es s above other false is = rw is refl

  -- where the first entry's PADR is another, the later entries decide
  past_first : (e : ℕ × Subscriber) (es : List (ℕ × Subscriber)) → IsAbove e.0 es → is_repeat mac uniq e.1 ≡ false
      → (s : ℕ) → repeats (e ∷ es) s ≡ repeats es s
  past_first e es above other s = past_first_by e es s above other (is_at (nat_cmp s) e.0) refl

  -- where it is the first entry's, that one is the least
  first_is_least : (e : ℕ × Subscriber) (es : List (ℕ × Subscriber)) → IsAbove e.0 es → e.0 < 2 ^ 16 → is_repeat mac uniq e.1 ≡ true
      → (found : Option ℕ) → IsLeast (repeats (e ∷ es)) found → found ≡ Some e.0
  first_is_least e es above small here None none = absurd (true≢false (sym (at_first e es ∙ here) ∙ none e.0 (omega arith) small))
  first_is_least e es above small here (Some s) least = ap Some (neither_side s e.0
      (λ below. true≢false (sym least.0 ∙ before_first e es s above below))
      (λ after. true≢false (sym (at_first e es ∙ here) ∙ least.1 e.0 (omega arith) after)))

  exact_by : (e : ℕ × Subscriber) (es : List (ℕ × Subscriber)) → IsAbove e.0 es → e.0 < 2 ^ 16
      → ((found : Option ℕ) → IsLeast (repeats es) found → found ≡ repeat_in es mac uniq)
      → (found : Option ℕ) → IsLeast (repeats (e ∷ es)) found → (b : Bool) → is_repeat mac uniq e.1 ≡ b → found ≡ repeat_in (e ∷ es) mac uniq
  unfolding repeat_in
  exact_by e es above small later found least true here = rw here (first_is_least e es above small here found least)
  exact_by e es above small later found least false other =
      rw other (later found (least_of_same (repeats (e ∷ es)) (repeats es) (past_first e es above other) found least))

  -- the least session of such a subscriber is what the entries give
  pub exact : (es : List (ℕ × Subscriber)) → IsInOrder es
      → (found : Option ℕ) → IsLeast (λ s. is_repeat_of mac uniq (subscriber_of es s)) found → found ≡ repeat_in es mac uniq
  unfolding repeat_in subscriber_of IsStrictlySortedBy
  exact [] order None none = refl
  exact [] order (Some s) least = absurd (true≢false (sym least.0))
  exact (e ∷ es) order found least =
      exact_by e es order.0.0 (All-head (λ s. s < 2 ^ 16) e.0 (keys_of es) order.1)
      (exact es (order.0.1, All-tail (λ s. s < 2 ^ 16) e.0 (keys_of es) order.1)) found least (is_repeat mac uniq e.1) refl
