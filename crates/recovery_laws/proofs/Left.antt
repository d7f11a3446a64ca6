-- What a tunnel asks for, and what is left of that once it heard an answer.
use Rattle.std.proofs.Common.{◌≡◌, ℕ, zero, suc, ◌+◌, ◌<◌, Bool, true, false, ◌&&◌, List, [], ◌∷◌, map, length, take, drop, refl, sym, ap, ◌∙◌, subst, Option, Some, None, Ok, Err, arith}
use Rattle.std.proofs.lemmas.Bool.{eqb-true, eq-eqb, ne_eqb}
use Rattle.std.proofs.lemmas.List.{drop-drop}
use Rattle.std.specs.Prelude.{◌==◌, ◌||◌, nat_le, if◌then◌else◌}
use Rattle.std.specs.List.{AllByRecursion, list_any}
use Rattle.wire_base.specs.declared.pair.Pair.{Pair}
use Rattle.session_query.specs.Queries.{Asking, left_of, batch_if, next_batch, unanswered, agrees, difference, told_by, told_in, answered, is_complete}
use Rattle.end_model.specs.Querying.{unless_complete}
use Rattle.step_laws.specs.Queries.{AreAbove, Rise}
use Rattle.epoch_machine.specs.Letters.{Fsq}
use Rattle.epoch_machine.specs.Worlds as machine
use Rattle.session_laws.specs.Names.{name, name_of}
use Rattle.recovery_laws.specs.Queries.{asks_in}
use Rattle.recovery_laws.specs.Asking.{Asked, IsToAsk, Told}
use Rattle.recovery_laws.specs.Hearing.{told_for}
use Rattle.recovery_laws.specs.Left.{names_one, asked_of, BatchIsToAsk, AskedIsLeft, LeftIsAsked, QueriesGoOn}
use Rattle.recovery_laws.proofs.Covered.{same_id}
use Rattle.recovery_laws.proofs.Same.{none_left}

-- ---- answers are as many as questions

as_many : (asked answers : List Pair) (at : ℕ) → difference asked answers at ≡ None → length answers ≡ length asked
as_many [] [] at is = refl
as_many [] (a ∷ rest) at is = absurd cc
as_many (q ∷ qs) [] at is = absurd cc
as_many (q ∷ qs) (a ∷ rest) at is = by (agrees q a) is (as_many qs rest (at + 1))
  where
    by : (b : Bool) → (if b then difference qs rest (at + 1) else Some at) ≡ None
        → (difference qs rest (at + 1) ≡ None → length rest ≡ length qs) → suc (length rest) ≡ suc (length qs)
    by true is later = ap suc (later is)
    by false is later = absurd cc

pub told_many : (q : Asking) (answers gone : List Pair) → told_in q answers ≡ Ok gone → length answers ≡ length (unanswered q)
unfolding told_in
told_many q answers gone is = by (q.asked == 0) is
  where
    by_difference : (o : Option ℕ) → difference (unanswered q) answers 0 ≡ o → told_by (unanswered q) answers o ≡ Ok gone
        → length answers ≡ length (unanswered q)
    by_difference None same is = as_many (unanswered q) answers 0 same
    by_difference (Some at) same is = absurd cc

    by : (b : Bool) → (if b then Err 0 else told_by (unanswered q) answers (difference (unanswered q) answers 0)) ≡ Ok gone
        → length answers ≡ length (unanswered q)
    by true is = absurd cc
    by false is = by_difference (difference (unanswered q) answers 0) refl is

-- what was told of is what was asked for
told_any : (n peer z : ℕ) (asked answers : List Pair) → length answers ≡ length asked
    → list_any (λ (a : Told). a.call == z) (told_for n peer asked answers) ≡ names_one n asked z
told_any n peer z [] answers same = refl
told_any n peer z (q ∷ qs) [] same = absurd (omega (arith, same))
told_any n peer z (q ∷ qs) (a ∷ rest) same = ap (λ b. (name n q.sender == z) || b) (told_any n peer z qs rest (omega (arith, same)))

-- ---- each session is asked for once

above_none : (n s z : ℕ) (ps : List Pair) → name n s ≡ z → AreAbove s ps → names_one n ps z ≡ false
above_none n s z [] is above = refl
above_none n s z (p ∷ ps) is above =
    ap (λ b. b || names_one n ps z)
    (ne_eqb (name n p.sender) z
    (λ same. (let twice = same_id n p.sender s (same ∙ sym is) in let lt = above.0 in let no : ⊥ = omega (arith, twice, lt) in no)))
    ∙ above_none n s z ps is above.1

pub all_dropped : (P : Pair → Type 0) (k : ℕ) (ps : List Pair) → AllByRecursion P ps → AllByRecursion P (drop k ps)
all_dropped P zero ps h = h
all_dropped P (suc k) [] h = h
all_dropped P (suc k) (p ∷ ps) h = all_dropped P k ps h.1

rise_dropped : (k : ℕ) (ps : List Pair) → Rise ps → Rise (drop k ps)
rise_dropped zero ps h = h
rise_dropped (suc k) [] h = h
rise_dropped (suc k) (p ∷ ps) h = rise_dropped k ps h.1

-- what is left is what was asked for and is not among the first
left_is : (n z k : ℕ) (ps : List Pair) → Rise ps
    → names_one n (drop k ps) z ≡ (if names_one n (take k ps) z then false else names_one n ps z)
left_is n z zero ps rise = refl
left_is n z (suc k) [] rise = refl
left_is n z (suc k) (p ∷ ps) rise = by (name n p.sender == z) refl (left_is n z k ps rise.1)
  where
    by : (b : Bool) → (name n p.sender == z) ≡ b
        → names_one n (drop k ps) z ≡ (if names_one n (take k ps) z then false else names_one n ps z)
        → names_one n (drop k ps) z ≡
        (if (name n p.sender == z) || names_one n (take k ps) z then false else (name n p.sender == z) || names_one n ps z)
    by true is later =
        above_none n p.sender z (drop k ps) (eqb-true (name n p.sender) z is) (all_dropped (λ (q : Pair). p.sender < q.sender) k ps rise.0)
        ∙ sym (ap (λ b. if b || names_one n (take k ps) z then false else b || names_one n ps z) is)
    by false is later = later ∙ sym (ap (λ b. if b || names_one n (take k ps) z then false else b || names_one n ps z) is)

-- ---- queries

left_so : LeftIsAsked
left_so q = by (is_complete (answered q)) refl ∙ sym (drop-drop q.asked q.done q.pairs)
  where
    by : (b : Bool) → is_complete (answered q) ≡ b → left_of (unless_complete (answered q)) ≡ left_of (answered q)
    by true is = ap (λ c. left_of (if c then Rattle.end_model.specs.Tunnels.no_query else answered q)) is ∙ sym (none_left (answered q) is)
    by false is = ap (λ c. left_of (if c then Rattle.end_model.specs.Tunnels.no_query else answered q)) is

asked_is_left : AskedIsLeft
asked_is_left c d n x peer q answers gone ended ok told ends asks z =
    ends.asks x z
    ∙ (ap (λ b. if b && list_any (λ (a : Told). a.call == z) (told_for n peer (unanswered q) answers) then false else c.asks x z)
    (eq-eqb x x refl)
    ∙ (ap (λ b. if b then false else c.asks x z) (told_any n peer z (unanswered q) answers (told_many q answers gone told))
    ∙ (ap (λ b. if names_one n (unanswered q) z then false else b) (asks z)
    ∙ (sym (left_is n z q.asked (left_of q) (rise_dropped q.done q.pairs ok.rising)) ∙ sym (ap (λ ps. names_one n ps z) (left_so q))))))

-- ---- batches

batch_of : (free over : Bool) (ps pairs : List Pair) → batch_if free over ps ≡ Some pairs → ps ≡ pairs
batch_of true false ps pairs is = cc
batch_of true true ps pairs is = absurd cc
batch_of false true ps pairs is = absurd cc
batch_of false false ps pairs is = absurd cc

batch_letters : (n peer : ℕ) (pairs : List Pair)
    → map (λ (q : Asked). Fsq q.own q.other) (map (λ p. asked_of n peer p) pairs) ≡ asks_in n peer pairs
batch_letters n peer [] = refl
batch_letters n peer (p ∷ ps) = ap (λ ls. Fsq (name n p.sender) (name_of peer p.receiver) ∷ ls) (batch_letters n peer ps)

module _ (m : machine.World) (n i peer : ℕ) where
  -- those of a front are to be asked for where all are
  first_asked : (k : ℕ) (ps : List Pair) → ((z : ℕ) → names_one n ps z ≡ true → m.calls.asks (name n i) z ≡ true)
      → AllByRecursion (λ (p : Pair). m.calls.held (name n i) (m.tunnels.entered (name n i)) (name n p.sender) ≡ name_of peer p.receiver) ps
      → AllByRecursion (IsToAsk m (name n i)) (map (λ p. asked_of n peer p) (take k ps))
  first_asked zero ps asks held = tt
  first_asked (suc k) [] asks held = tt
  first_asked (suc k) (p ∷ ps) asks held = (
    (asks (name n p.sender) (ap (λ b. b || names_one n ps (name n p.sender)) (eq-eqb (name n p.sender) (name n p.sender) refl)), held.0),
    first_asked k ps (λ z is. asks z (behind (name n p.sender == z) (names_one n ps z) is)) held.1,
  )
    where
      behind : (b c : Bool) → c ≡ true → (b || c) ≡ true
      behind true c is = refl
      behind false c is = is

batch_is_to_ask : BatchIsToAsk
unfolding next_batch
batch_is_to_ask m n i peer t pairs joined is =
    let same = batch_of (t.query.asked == 0) (nat_le (length t.query.pairs) t.query.done) (take 64 (left_of t.query)) pairs is in (
      subst (λ ps. AllByRecursion (IsToAsk m (name n i)) (map (λ p. asked_of n peer p) ps)) same
          (first_asked m n i peer 64 (left_of t.query) (λ z one. joined.asks z ∙ one) joined.held),
      batch_letters n peer pairs,
    )

pub queries_go_on : QueriesGoOn
queries_go_on = record { batches = batch_is_to_ask; asked = asked_is_left; left = left_so }
