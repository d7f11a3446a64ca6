-- What the moves of a step add to what was done before: no tunnel, no attempt and no answer is forgotten.
use Rattle.std.proofs.Common.{◌≡◌, ℕ, Bool, true, false, List, [], ◌∷◌, map, refl, sym, ◌∙◌, Option, Some}
use Rattle.std.specs.Prelude.{is_some, ◌==◌, ◌&&◌, if◌then◌else◌}
use Rattle.end_model.specs.declared.moves.Move.{Move}
use Rattle.end_model.specs.declared.moves.Move.TheVariants as move
use Rattle.end_model.specs.declared.moves.Restored.{Restored}
use Rattle.end_model.specs.declared.moves.Froze.{Froze}
use Rattle.world_model.specs.World.{Deed}
use Rattle.channel_laws.specs.Accounts.{Part, Unmade, Opener, Acceptor, Renewed, Account, History, about, declines_of, declined_by, declined_in, entered_by, attempts_by, answers_by, after, history_from}
use Rattle.channel_laws.specs.Facts.{IsMade}
use Rattle.channel_laws.proofs.Inactive.{IsReset}
use Rattle.channel_laws.proofs.Numbering.{IsFirst}

-- a deed changes how an epoch was entered only where it enters one
pub data PartOf (d : Deed) (m : Move) (a : Account) : Type 0 where
  SamePart : (entered_by d m a).part ≡ a.part → PartOf d m a
  FirstPart : IsFirst m → IsMade (entered_by d m a) → PartOf d m a
  RenewedPart : IsReset m → (entered_by d m a).part ≡ Renewed → PartOf d m a

pub part_of : (d : Deed) (m : Move) (a : Account) → PartOf d m a
part_of d (move.Opened m) a = FirstPart tt (λ none. let two : Opener ≡ Unmade = none in absurd cc)
part_of d (move.Accepted m) a = FirstPart tt (λ none. let two : Acceptor ≡ Unmade = none in absurd cc)
part_of d (move.ResetAttempting m) a = RenewedPart tt refl
part_of d (move.ResetAnswering m) a = RenewedPart tt refl
part_of d m a = SamePart refl

declined_part : (b : Bool) (a : Account) → (declined_in b a).part ≡ a.part
declined_part true a = by a.part
  where
    by : (p : Part) → (declined_by p a).part ≡ a.part
    by Unmade = refl
    by Opener = refl
    by Acceptor = refl
    by Renewed = refl
declined_part false a = refl

module _ (h : History) (d : Deed) (n i e : ℕ) where
  abbrev a : Account
  a = h.accounts n i e

  abbrev its : Bool
  its = ((d.node == n) && (about d.move == i)) && (d.epoch == e)

  pub part_after : ((after h d).accounts n i e).part ≡ (if its then entered_by d d.move a else a).part
  part_after = declined_part (declines_of d.move n i && (e == 0)) (if its then entered_by d d.move a else a)

  pub made_after : IsMade a → IsMade ((after h d).accounts n i e)
  made_after made none = by its (sym part_after ∙ none)
    where
      entered : PartOf d d.move a → (entered_by d d.move a).part ≡ Unmade → ⊥
      entered (SamePart same) z = made (sym same ∙ z)
      entered (FirstPart first there) z = there z
      entered (RenewedPart reset is) z = let two : Renewed ≡ Unmade = sym is ∙ z in absurd cc

      by : (b : Bool) → (if b then entered_by d d.move a else a).part ≡ Unmade → ⊥
      by true z = entered (part_of d d.move a) z
      by false z = made z

attempt_kept : (d : Deed) (m : Move) (n a : ℕ) (o : Option Restored) → is_some o ≡ true → is_some (attempts_by d m n a o) ≡ true
attempt_kept d (move.Restored m) n a o is = by ((d.node == n) && (m.attempt == a))
  where
    by : (b : Bool) → is_some (if b then Some m else o) ≡ true
    by true = refl
    by false = is
attempt_kept d m n a o is = is

answer_kept : (d : Deed) (m : Move) (n c : ℕ) (o : Option Froze) → is_some o ≡ true → is_some (answers_by d m n c o) ≡ true
answer_kept d (move.Froze m) n c o is = by ((d.node == n) && (m.answer == c))
  where
    by : (b : Bool) → is_some (if b then Some m else o) ≡ true
    by true = refl
    by false = is
answer_kept d m n c o is = is

module _ (f : Move → Deed) where
  pub made_along : (ms : List Move) (h : History) (n i e : ℕ) → IsMade (h.accounts n i e) → IsMade ((history_from (map f ms) h).accounts n i e)
  unfolding history_from
  made_along [] h n i e made = made
  made_along (m ∷ ms) h n i e made = made_along ms (after h (f m)) n i e (made_after h (f m) n i e made)

  pub attempts_along : (ms : List Move) (h : History) (n a : ℕ) → is_some (h.attempts n a) ≡ true → is_some ((history_from (map f ms) h).attempts n a) ≡ true
  unfolding history_from
  attempts_along [] h n a is = is
  attempts_along (m ∷ ms) h n a is = attempts_along ms (after h (f m)) n a (attempt_kept (f m) (f m).move n a (h.attempts n a) is)

  pub answers_along : (ms : List Move) (h : History) (n c : ℕ) → is_some (h.answers n c) ≡ true → is_some ((history_from (map f ms) h).answers n c) ≡ true
  unfolding history_from
  answers_along [] h n c is = is
  answers_along (m ∷ ms) h n c is = answers_along ms (after h (f m)) n c (answer_kept (f m) (f m).move n c (h.answers n c) is)
