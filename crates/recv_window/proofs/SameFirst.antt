-- What is taken where nothing is kept is the first of what is taken where it is.
use Rattle.std.proofs.Common.{◌≡◌, ◌<◌, ◌≤◌, ℕ, ◌+◌, Bool, true, false, if◌then◌else◌, ◌⊎◌, inl, inr, List, [], ◌∷◌, take, length, zero, suc, refl, ap, ◌∙◌, sym, arith, subst}
use Rattle.std.specs.Prelude.{Option, Some, None, nat_lt}
use Rattle.std.proofs.lemmas.Bool.{cases_lt}
use Rattle.recv_window.specs.declared.Class.{Class}
use Rattle.recv_window.specs.declared.Class.TheVariants.{Next, Duplicate, Ahead}
use Rattle.recv_window.specs.Window.{Inbox, class_of, on_wire, one_further, is_next, after_arrival, after_arrivals, numbers_taken, counting_from, CountsOn}
use Rattle.recv_window.specs.Ahead.{kept_at}
use Rattle.recv_window.specs.Receiving.{Numbered, Receiver, Event, Comes, TakesNext, begun, having_admitted, having_kept, after_class, after_take_kept, after_event, after_events, numbers_that_come, numbers_of, BeginsWith, TakesTheSameFirst}
use Rattle.recv_window.proofs.Order.{taken_in_order}
use Rattle.recv_window.proofs.Receiving.{taken_in_order as kept_in_order}

no_lower : (is : Bool) (i : Inbox) → i.taken ≤ (if is then one_further i else i).taken
no_lower true i = omega arith
no_lower false i = omega arith

by_one : (is : Bool) (i : Inbox) → (if is then one_further i else i).taken ≤ i.taken + 1
by_one true i = omega arith
by_one false i = omega arith

same_or_below : {m n : ℕ} → m ≤ n → (m < n) ⊎ (n ≤ m) → (m ≡ n) ⊎ (m < n)
same_or_below le (inl lt) = inr lt
same_or_below le (inr ge) = inl (omega arith)

-- of numbers that count on from the same one, the fewer are the first
counting_front : (first k m : ℕ) → k ≤ m → take k (counting_from first m) ≡ counting_from first k
unfolding counting_from
counting_front first zero m le = refl
counting_front first (suc k) zero le = absurd (omega arith)
counting_front first (suc k) (suc m) le = ap (λ ns. first ∷ ns) (counting_front (first + 1) k m (omega arith))

front : (ns ms : List ℕ) (first last later : ℕ) → CountsOn ns first last → CountsOn ms first later → last ≤ later → BeginsWith ms ns
front ns ms first last later fewer more le =
    ap (take (length ns)) more.in_order ∙ counting_front first (length ns) (length ms) (omega (arith, fewer.counted, more.counted)) ∙ sym fewer.in_order

module _ {T : Type 0} where
  -- a message of a class comes
  no_fewer : (c : Class) (a : Numbered T) (r : Receiver T) → (if is_next c then one_further r.inbox else r.inbox).taken ≤ (after_class c a r).inbox.taken
  no_fewer Next a r = omega arith
  no_fewer (Ahead by) a r = stays (nat_lt by 8) where
    stays : (is : Bool) → r.inbox.taken ≤ (if is then having_kept a by (having_admitted a r) else r).inbox.taken
    stays true = omega arith
    stays false = omega arith
  no_fewer Duplicate a r = omega arith

  arrives : (a : Numbered T) (i : Inbox) (r : Receiver T) → (i.taken ≡ r.inbox.taken) ⊎ (i.taken < r.inbox.taken) → (after_arrival a.number i).taken ≤ (after_class (class_of (on_wire a.number) r.inbox) a r).inbox.taken
  arrives a i r (inl same) = subst (λ (n : ℕ). (after_arrival a.number (record { taken = n })).taken ≤ (after_class (class_of (on_wire a.number) r.inbox) a r).inbox.taken) (sym same) (no_fewer (class_of (on_wire a.number) r.inbox) a r)
  arrives a i r (inr lt) =
      let c = class_of (on_wire a.number) r.inbox in
      omega (arith, by_one (is_next (class_of (on_wire a.number) i)) i, no_lower (is_next c) r.inbox, no_fewer c a r)

  takes_some : (o : Option T) (r : Receiver T) → r.inbox.taken ≤ (after_take_kept o r).inbox.taken
  takes_some None r = omega arith
  takes_some (Some message) r = omega arith

  takes_no_fewer : (es : List (Event T)) (i : Inbox) (r : Receiver T) → i.taken ≤ r.inbox.taken → (after_arrivals (numbers_that_come es) i).taken ≤ (after_events es r).inbox.taken
  unfolding after_events numbers_that_come after_arrivals
  takes_no_fewer [] i r le = le
  takes_no_fewer (Comes a ∷ es) i r le = takes_no_fewer es (after_arrival a.number i) (after_event (Comes a) r) (arrives a i r (same_or_below le (cases_lt i.taken r.inbox.taken)))
  takes_no_fewer (TakesNext ∷ es) i r le = takes_no_fewer es i (after_event TakesNext r) (omega (arith, takes_some (kept_at r.places 0) r))

  pub takes_the_same_first : TakesTheSameFirst T
  takes_the_same_first es i near near_without =
      front (numbers_taken (numbers_that_come es) i) (numbers_of (after_events es (begun i)).taken) i.taken _ _
      (taken_in_order (numbers_that_come es) i near_without) (kept_in_order es i near).in_order (takes_no_fewer es i (begun i) (omega arith))
