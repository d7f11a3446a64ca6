-- An answer, as an end and the machine take it: which sessions it tells of, and which calls end by it.
use Rattle.std.proofs.Common.{◌≡◌, ◌⊎◌, inl, inr, ⊎_elim, ℕ, suc, ◌+◌, ◌<◌, Bool, true, false, List, [], ◌∷◌, map, length, refl, sym, ap, ap₂, ◌∙◌, Option, Some, None, Ok, Err, arith}
use Rattle.std.proofs.lemmas.Bool.{true≢false, eqb-true, eq-eqb}
use Rattle.std.proofs.lemmas.Option.{none-some}
use Rattle.std.specs.Prelude.{◌==◌, ◌&&◌, ◌||◌, not, if◌then◌else◌, slice_get}
use Rattle.std.specs.List.{AllByRecursion, list_any}
use Rattle.id_table.specs.Ids.{at, without}
use Rattle.id_table.specs.Order.{Ascends, ascends-without, at_without_same, at_without_other, found_without, same_or_not}
use Rattle.wire_base.specs.declared.pair.Pair.{Pair}
use Rattle.session_query.specs.Queries.{Asking, unanswered, agrees, difference, told_by, told_in, gone_in}
use Rattle.end_model.specs.declared.tunnel.Call.{Call}
use Rattle.step_laws.specs.Queries.{without_each, AreUpInTurn}
use Rattle.epoch_machine.specs.Letters.{Letter, Fsr}
use Rattle.epoch_machine.specs.Channels.{Stands}
use Rattle.epoch_machine.specs.Worlds as machine
use Rattle.birth_laws.specs.Births.{Meant}
use Rattle.session_laws.specs.Names.{name, name_of}
use Rattle.recovery_laws.specs.Asking.{Told, StandFrom}
use Rattle.recovery_laws.specs.Hearing.{told_of, told_for}
use Rattle.recovery_laws.specs.Queries.{answers_in}
use Rattle.recovery_laws.proofs.Covered.{same_id}
use Rattle.recovery_laws.proofs.Epochs.{known_name}
use Rattle.recovery_laws.proofs.Pairs.{some_number}

-- ---- what is told

-- an answer that tells which sessions are gone is to what was asked for
pub told_is : (q : Asking) (answers gone : List Pair) → told_in q answers ≡ Ok gone
    → (difference (unanswered q) answers 0 ≡ None) × (gone_in (unanswered q) answers ≡ gone)
unfolding told_in
told_is q answers gone is = by (q.asked == 0) is
  where
    by_difference : (o : Option ℕ) → difference (unanswered q) answers 0 ≡ o → told_by (unanswered q) answers o ≡ Ok gone
        → (difference (unanswered q) answers 0 ≡ None) × (gone_in (unanswered q) answers ≡ gone)
    by_difference None same is = (same, cc)
    by_difference (Some place) same is = absurd cc

    by : (b : Bool) → (if b then Err 0 else told_by (unanswered q) answers (difference (unanswered q) answers 0)) ≡ Ok gone
        → (difference (unanswered q) answers 0 ≡ None) × (gone_in (unanswered q) answers ≡ gone)
    by true is = absurd cc
    by false is = by_difference (difference (unanswered q) answers 0) refl is

-- one of the machine's letters for each
pub told_length : (n peer : ℕ) (qs answers : List Pair) → length answers ≡ length qs → length (told_for n peer qs answers) ≡ length answers
told_length n peer [] [] same = refl
told_length n peer [] (a ∷ rest) same = absurd (omega (arith, same))
told_length n peer (q ∷ qs) [] same = refl
told_length n peer (q ∷ qs) (a ∷ rest) same = ap suc (told_length n peer qs rest (omega (arith, same)))

-- ---- what stands

-- an answer is to what was asked for: its letters name the sessions that the tunnel holds with those that it asks for
module _ (j : machine.World) (n peer x s e : ℕ) (means : (k : ℕ) (l : Letter) → Stands j.channels s e k l → Meant j.tunnels j.calls s e l)
    (learned : j.tunnels.learned s ≡ x) where
  abbrev Holds : Pair → Type 0
  Holds p = j.calls.held x e (name n p.sender) ≡ name_of peer p.receiver

  abbrev says : Told → Letter
  says a = Fsr a.own a.call a.here

  -- one that names the session that was asked for
  one_is : (q a y : Pair) (place : ℕ) → agrees q a ≡ true → Holds q
      → slice_get (j.channels.sent s e) place ≡ Some (Fsr (name_of peer y.receiver) (name n a.receiver) (not (a.sender == 0)))
      → slice_get (j.channels.sent s e) place ≡ Some (says (told_of n peer q a))
  one_is q a y place fits held is =
      let m = means place (Fsr (name_of peer y.receiver) (name n a.receiver) (not (a.sender == 0))) is in
      let same : a.receiver ≡ q.sender = eqb-true a.receiver q.sender
      (first (a.receiver == q.sender) (a.sender == q.receiver || a.sender == 0) fits) in
      let own : name_of peer y.receiver ≡ name_of peer q.receiver =
      sym m.2 ∙ (ap₂ (λ u z. j.calls.held u e z) learned (ap (name n) same) ∙ held) in
      let some : 0 < q.receiver = some_number q.receiver (λ z. m.0 (own ∙ ap (name_of peer) z)) in
      is ∙ ap₂ (λ u z. Some (Fsr u z (not (a.sender == 0)))) (own ∙ known_name peer q.receiver some) (ap (name n) same)
    where
      first : (b c : Bool) → (b && c) ≡ true → b ≡ true
      first true c is = refl
      first false c is = absurd (true≢false (sym is))

  agreed : (b : Bool) (o : Option ℕ) (place : ℕ) → (if b then o else Some place) ≡ None → (b ≡ true) × (o ≡ None)
  agreed true o place is = (refl, is)
  agreed false o place is = absurd (none-some place (sym is))

  pub answers_stand : (qs answers asked : List Pair) (count place : ℕ) → difference qs answers count ≡ None → AllByRecursion Holds qs
      → StandFrom j s e place (answers_in peer n asked answers) → StandFrom j s e place (map says (told_for n peer qs answers))
  answers_stand [] answers asked count place same held stand = tt
  answers_stand (q ∷ qs) [] asked count place same held stand = tt
  answers_stand (q ∷ qs) (a ∷ rest) [] count place same held stand =
      absurd ((means place (Fsr 0 (name n a.receiver) false) stand.0).0 refl)
  answers_stand (q ∷ qs) (a ∷ rest) (y ∷ ys) count place same held stand =
      let both = agreed (agrees q a) (difference qs rest (count + 1)) count same in
      (one_is q a y place both.0 held.0 stand.0, answers_stand qs rest ys (count + 1) (suc place) both.1 held.1 stand.1)

-- ---- calls that end

-- one that doesn't stand in a table doesn't stand in what is left of it
none_each : (ss : List ℕ) (calls : List (ℕ × Call)) (s : ℕ) → Ascends calls → at calls s ≡ None → at (without_each ss calls) s ≡ None
none_each [] calls s order none = none
none_each (k ∷ ss) calls s order none = none_each ss (without calls k) s (ascends-without k calls order) (⊎_elim
    (λ (same : s ≡ k). ap (at (without calls k)) same ∙ at_without_same calls k order)
    (λ other. at_without_other calls k s other ∙ none)
    (same_or_not s k))

-- a call among these stands there, and is established
pub record Among (calls : List (ℕ × Call)) (n z : ℕ) : Type 0 where
  pub id : ℕ
  pub call : Call
  pub there : at calls id ≡ Some call
  pub name_is : name n id ≡ z

either_true : (a b : Bool) → (a || b) ≡ true → (a ≡ true) ⊎ (b ≡ true)
either_true true b is = inl refl
either_true false b is = inr is

pub among : (ss : List ℕ) (calls : List (ℕ × Call)) → Ascends calls → AreUpInTurn ss calls → (n z : ℕ)
    → list_any (λ k. name n k == z) ss ≡ true → Among calls n z
among [] calls order up n z is = absurd (true≢false (sym is))
among (k ∷ ss) calls order up n z is = ⊎_elim
    (λ first. record { id = k; call = up.0; there = up.1; name_is = eqb-true (name n k) z first })
    (λ rest.
    let f = among ss (without calls k) (ascends-without k calls order) up.3 n z rest in
    record { id = f.id; call = f.call; there = (found_without calls k f.id f.call order f.there).1; name_is = f.name_is })
    (either_true (name n k == z) (list_any (λ k. name n k == z) ss) is)

-- it doesn't stand there any more
pub gone_each : (ss : List ℕ) (calls : List (ℕ × Call)) → Ascends calls → (n s : ℕ) → list_any (λ k. name n k == name n s) ss ≡ true
    → at (without_each ss calls) s ≡ None
gone_each [] calls order n s is = absurd (true≢false (sym is))
gone_each (k ∷ ss) calls order n s is = ⊎_elim
    (λ first.
    let same = same_id n k s (eqb-true (name n k) (name n s) first) in
    none_each ss (without calls k) s (ascends-without k calls order) (ap (at (without calls k)) (sym same) ∙ at_without_same calls k order))
    (λ rest. gone_each ss (without calls k) (ascends-without k calls order) n s rest)
    (either_true (name n k == name n s) (list_any (λ k. name n k == name n s) ss) is)

-- and another one stays as it is
pub stays_each : (ss : List ℕ) (calls : List (ℕ × Call)) (n s : ℕ) → list_any (λ k. name n k == name n s) ss ≡ false
    → at (without_each ss calls) s ≡ at calls s
stays_each [] calls n s is = refl
stays_each (k ∷ ss) calls n s is =
    let both = neither (name n k == name n s) (list_any (λ k. name n k == name n s) ss) is in
    stays_each ss (without calls k) n s both.1
    ∙ at_without_other calls k s (λ same. true≢false (sym (eq-eqb (name n k) (name n s) (ap (name n) (sym same))) ∙ both.0))
  where
    neither : (a b : Bool) → (a || b) ≡ false → (a ≡ false) × (b ≡ false)
    neither true b is = absurd (true≢false is)
    neither false b is = (refl, is)
