-- How many letters the calls of a tunnel owe, once one is put among them or taken out.
use Rattle.std.specs.Prelude.{◌≡◌, ℕ, suc, ◌+◌, ◌*◌, ◌≤◌, Bool, true, false, cond, List, [], ◌∷◌, length, Option, Some, None, is_some}
use Rattle.std.specs.declared.cmp.Ordering.{Ordering}
use Rattle.std.specs.declared.cmp.Ordering.TheVariants.{Less, Equal, Greater}
use Rattle.std.specs.Ordering.{nat_cmp}
use Rattle.std.proofs.Common.{refl, arith}
use Rattle.id_table.specs.Ids.{at, put, without}
use Rattle.id_table.specs.Order.{IsAbove, Ascends, less_is, lower, at-above}
use Rattle.call_fsm.specs.declared.table.CallState.{CallState}
use Rattle.call_fsm.specs.declared.table.CallState.TheVariants.{Idle, WaitTunnel, WaitReply, WaitConnect, Established}
use Rattle.end_model.specs.declared.tunnel.Call.{Call}
use Rattle.end_model.specs.Calls.{owes, owed_by}

-- what a call owes that is there
abbrev pub owed_at : Option Call → ℕ
owed_at None = 0
owed_at (Some c) = owes c.state

owes_few : (s : CallState) → owes s ≤ 3
owes_few Idle = omega arith
owes_few WaitTunnel = omega arith
owes_few WaitReply = omega arith
owes_few WaitConnect = omega arith
owes_few Established = omega arith

-- no call owes more than three
pub owed-most : (es : List (ℕ × Call)) → owed_by es ≤ 3 * length es
owed-most [] = omega arith
owed-most (e ∷ es) = let first = owes_few e.1.state in let later = owed-most es in omega arith

-- ---- a call that is put owes its letters, in place of those of the one before

put_at_most_by : (e : ℕ × Call) (es : List (ℕ × Call)) (k : ℕ) (v : Call) → owed_by (put es k v) ≤ owed_by es + owes v.state
    → (o : Ordering) → nat_cmp k e.0 ≡ o → owed_by (put (e ∷ es) k v) ≤ owed_by (e ∷ es) + owes v.state
unfolding put
put_at_most_by e es k v later Less h = rw h (omega arith)
put_at_most_by e es k v later Equal h = rw h (omega arith)
put_at_most_by e es k v later Greater h = rw h (omega (arith, later))

-- whatever the order of the ids
pub owed-put-most : (es : List (ℕ × Call)) (k : ℕ) (v : Call) → owed_by (put es k v) ≤ owed_by es + owes v.state
unfolding put
owed-put-most [] k v = omega arith
owed-put-most (e ∷ es) k v = put_at_most_by e es k v (owed-put-most es k v) (nat_cmp k e.0) refl

put_by : (e : ℕ × Call) (es : List (ℕ × Call)) (k : ℕ) (v : Call) → IsAbove e.0 es
    → owed_by (put es k v) + owed_at (at es k) ≡ owed_by es + owes v.state → (o : Ordering) → nat_cmp k e.0 ≡ o
    → owed_by (put (e ∷ es) k v) + owed_at (at (e ∷ es) k) ≡ owed_by (e ∷ es) + owes v.state
unfolding at put
put_by e es k v above later Less h = rw (h, at-above k es (lower k e.0 es (less_is k e.0 h) above)) (omega arith)
put_by e es k v above later Equal h = rw h (omega arith)
put_by e es k v above later Greater h = rw h (omega (arith, later))

pub owed-put : (es : List (ℕ × Call)) (k : ℕ) (v : Call) → Ascends es → owed_by (put es k v) + owed_at (at es k) ≡ owed_by es + owes v.state
unfolding Ascends at put
owed-put [] k v order = omega arith
owed-put (e ∷ es) k v order = put_by e es k v order.0 (owed-put es k v order.1) (nat_cmp k e.0) refl

-- ---- one that is taken out owes nothing any more

without_by : (e : ℕ × Call) (es : List (ℕ × Call)) (k : ℕ) → owed_by (without es k) + owed_at (at es k) ≡ owed_by es
    → (o : Ordering) → nat_cmp k e.0 ≡ o → owed_by (without (e ∷ es) k) + owed_at (at (e ∷ es) k) ≡ owed_by (e ∷ es)
unfolding at without
without_by e es k later Less h = rw h (omega (arith, later))
without_by e es k later Equal h = rw h (omega arith)
without_by e es k later Greater h = rw h (omega (arith, later))

pub owed-without : (es : List (ℕ × Call)) (k : ℕ) → owed_by (without es k) + owed_at (at es k) ≡ owed_by es
unfolding at without
owed-without [] k = refl
owed-without (e ∷ es) k = without_by e es k (owed-without es k) (nat_cmp k e.0) refl

-- ---- how many there then are

length_put_by : (e : ℕ × Call) (es : List (ℕ × Call)) (k : ℕ) (v : Call) → IsAbove e.0 es
    → length (put es k v) ≡ cond (is_some (at es k)) (length es) (suc (length es)) → (o : Ordering) → nat_cmp k e.0 ≡ o
    → length (put (e ∷ es) k v) ≡ cond (is_some (at (e ∷ es) k)) (suc (length es)) (suc (suc (length es)))
unfolding at put
length_put_by e es k v above later Less h = rw (h, at-above k es (lower k e.0 es (less_is k e.0 h) above)) refl
length_put_by e es k v above later Equal h = rw h refl
length_put_by e es k v above later Greater h = rw (h, later) (by (is_some (at es k)))
  where
    by : (b : Bool) → suc (cond b (length es) (suc (length es))) ≡ cond b (suc (length es)) (suc (suc (length es)))
    by true = refl
    by false = refl

pub length-put : (es : List (ℕ × Call)) (k : ℕ) (v : Call) → Ascends es
    → length (put es k v) ≡ cond (is_some (at es k)) (length es) (suc (length es))
unfolding Ascends at put
length-put [] k v order = refl
length-put (e ∷ es) k v order = length_put_by e es k v order.0 (length-put es k v order.1) (nat_cmp k e.0) refl

length_most_by : (e : ℕ × Call) (es : List (ℕ × Call)) (k : ℕ) (v : Call) → length (put es k v) ≤ suc (length es)
    → (o : Ordering) → nat_cmp k e.0 ≡ o → length (put (e ∷ es) k v) ≤ suc (suc (length es))
unfolding put
length_most_by e es k v later Less h = rw h (omega arith)
length_most_by e es k v later Equal h = rw h (omega arith)
length_most_by e es k v later Greater h = rw h (omega (arith, later))

-- whatever the order of the ids
pub length-put-most : (es : List (ℕ × Call)) (k : ℕ) (v : Call) → length (put es k v) ≤ suc (length es)
unfolding put
length-put-most [] k v = omega arith
length-put-most (e ∷ es) k v = length_most_by e es k v (length-put-most es k v) (nat_cmp k e.0) refl

length_without_by : (e : ℕ × Call) (es : List (ℕ × Call)) (k : ℕ) → length (without es k) ≤ length es
    → (o : Ordering) → nat_cmp k e.0 ≡ o → length (without (e ∷ es) k) ≤ suc (length es)
unfolding without
length_without_by e es k later Less h = rw h (omega (arith, later))
length_without_by e es k later Equal h = rw h (omega arith)
length_without_by e es k later Greater h = rw h (omega (arith, later))

pub length-without : (es : List (ℕ × Call)) (k : ℕ) → length (without es k) ≤ length es
unfolding without
length-without [] k = omega arith
length-without (e ∷ es) k = length_without_by e es k (length-without es k) (nat_cmp k e.0) refl
