-- What holds of the frames of a step's moves.
use Rattle.std.proofs.Common.{◌≡◌, inl, inr, ⊎_elim, ℕ, List, [], ◌∷◌, ◌++◌, refl, sym, subst, Option}
use Rattle.std.specs.Prelude.{map}
use Rattle.std.specs.List.{AllByRecursion}
use Rattle.end_model.specs.declared.event.Event.{Event}
use Rattle.end_model.specs.declared.moves.FrameSent.{FrameSent}
use Rattle.end_model.specs.declared.moves.FrameUp.{FrameUp}
use Rattle.end_model.specs.declared.moves.Move.{Move}
use Rattle.end_model.specs.declared.moves.Move.TheVariants as move
use Rattle.end_names.specs.declared.role.Role.{Role}
use Rattle.end_model.specs.End.{End}
use Rattle.world_model.specs.World.{World, Sender, Deed, deed_of}
use Rattle.step_laws.specs.Letters.{Among}
use Rattle.step_laws.specs.Moves.{Does, Chain}
use Rattle.frame_laws.specs.Past.{Passage, passage_of, sent_by, handed_by, sent_in, handed_in}
use Rattle.frame_laws.proofs.Facts.{among_left, among_right}

pub all_append : {X : Type 0} (P : X → Type 0) (xs ys : List X) → AllByRecursion P xs → AllByRecursion P ys → AllByRecursion P (xs ++ ys)
all_append P [] ys h k = k
all_append P (x ∷ xs) ys h k = (h.0, all_append P xs ys h.1 k)

-- what holds of all of two lists holds of all of each
pub all_before : {X : Type 0} (P : X → Type 0) (xs ys : List X) → AllByRecursion P (xs ++ ys) → AllByRecursion P xs
all_before P [] ys h = tt
all_before P (x ∷ xs) ys h = (h.0, all_before P xs ys h.1)

pub all_behind : {X : Type 0} (P : X → Type 0) (xs ys : List X) → AllByRecursion P (xs ++ ys) → AllByRecursion P ys
all_behind P [] ys h = h
all_behind P (x ∷ xs) ys h = all_behind P xs ys h.1

pub all_among : {X : Type 0} (P : X → Type 0) (xs : List X) (x : X) → AllByRecursion P xs → Among x xs → P x
all_among P [] x h a = absurd a
all_among P (y ∷ xs) x h a = ⊎_elim (λ e. subst P e h.0) (λ b. all_among P xs x h.1 b) a

-- a move of a chain does something
pub record Done (moment : ℕ) (ev : Event) (m : Move) : Type 0 where
  pub before : End
  pub after : End
  pub does : Does before moment ev m after

pub done_among : (moment : ℕ) (ev : Event) (x y : End) (ms : List Move) → Chain moment ev x ms y → (m : Move) → Among m ms → Done moment ev m
done_among moment ev x y [] h m a = absurd a
done_among moment ev x y (q ∷ ms) h m a =
    ⊎_elim (λ e. subst (Done moment ev) e (record { before = x; after = h.0; does = h.1 })) (λ b. done_among moment ev h.0 y ms h.2 m b) a

-- ---- frames that are sent, and frames that are handed up

one_sent : (P : Passage → Type 0) (d : Deed) (m : Move) → ((f : FrameSent) → m ≡ move.FrameSent f → P (passage_of d f.peer f.session f.frame))
    → AllByRecursion P (sent_by d m)
one_sent P d (move.Opened m) h = tt
one_sent P d (move.Accepted m) h = tt
one_sent P d (move.Connected m) h = tt
one_sent P d (move.Confirmed m) h = tt
one_sent P d (move.Added m) h = tt
one_sent P d (move.Requested m) h = tt
one_sent P d (move.Replied m) h = tt
one_sent P d (move.FirstUp m) h = tt
one_sent P d (move.SecondUp m) h = tt
one_sent P d (move.Refused m) h = tt
one_sent P d (move.EndTold m) h = tt
one_sent P d (move.EndHeard m) h = tt
one_sent P d (move.EndSilent m) h = tt
one_sent P d (move.Declined m) h = tt
one_sent P d (move.Closed m) h = tt
one_sent P d (move.Rejected m) h = tt
one_sent P d (move.ClosedBy m) h = tt
one_sent P d (move.Cleared i booked) h = tt
one_sent P d (move.Greeted m) h = tt
one_sent P d (move.TookPlain m) h = tt
one_sent P d (move.NrRead m) h = tt
one_sent P d (move.LetGo m) h = tt
one_sent P d (move.Repeated m) h = tt
one_sent P d (move.Quiet i) h = tt
one_sent P d (move.Negotiated m) h = tt
one_sent P d (move.Counted m) h = tt
one_sent P d (move.FrameSent m) h = (h m refl, tt)
one_sent P d (move.FrameUp m) h = tt
one_sent P d m h = tt

one_handed : (P : Passage → Type 0) (d : Deed) (m : Move) → ((f : FrameUp) → m ≡ move.FrameUp f → P (passage_of d f.peer f.session f.frame))
    → AllByRecursion P (handed_by d m)
one_handed P d (move.Opened m) h = tt
one_handed P d (move.Accepted m) h = tt
one_handed P d (move.Connected m) h = tt
one_handed P d (move.Confirmed m) h = tt
one_handed P d (move.Added m) h = tt
one_handed P d (move.Requested m) h = tt
one_handed P d (move.Replied m) h = tt
one_handed P d (move.FirstUp m) h = tt
one_handed P d (move.SecondUp m) h = tt
one_handed P d (move.Refused m) h = tt
one_handed P d (move.EndTold m) h = tt
one_handed P d (move.EndHeard m) h = tt
one_handed P d (move.EndSilent m) h = tt
one_handed P d (move.Declined m) h = tt
one_handed P d (move.Closed m) h = tt
one_handed P d (move.Rejected m) h = tt
one_handed P d (move.ClosedBy m) h = tt
one_handed P d (move.Cleared i booked) h = tt
one_handed P d (move.Greeted m) h = tt
one_handed P d (move.TookPlain m) h = tt
one_handed P d (move.NrRead m) h = tt
one_handed P d (move.LetGo m) h = tt
one_handed P d (move.Repeated m) h = tt
one_handed P d (move.Quiet i) h = tt
one_handed P d (move.Negotiated m) h = tt
one_handed P d (move.Counted m) h = tt
one_handed P d (move.FrameSent m) h = tt
one_handed P d (move.FrameUp m) h = (h m refl, tt)
one_handed P d m h = tt

module _ (v : World) (number n : ℕ) (r : Role) (sender : Option Sender) where
  abbrev pub deeds : List Move → List Deed
  deeds ms = map (λ m. deed_of v number n r sender m) ms

  -- what the moves are
  pub each_done : (P : Move → Type 0) (ms : List Move) → AllByRecursion P ms → AllByRecursion (λ (d : Deed). P d.move) (deeds ms)
  each_done P [] h = tt
  each_done P (m ∷ ms) h = (h.0, each_done P ms h.1)

  abbrev pub sends : FrameSent → Passage
  sends f = passage_of (deed_of v number n r sender (move.FrameSent f)) f.peer f.session f.frame

  abbrev pub hands : FrameUp → Passage
  hands f = passage_of (deed_of v number n r sender (move.FrameUp f)) f.peer f.session f.frame

  pub each_sent : (P : Passage → Type 0) (ms : List Move) → ((f : FrameSent) → Among (move.FrameSent f) ms → P (sends f))
      → AllByRecursion P (sent_in (deeds ms))
  unfolding sent_in
  each_sent P [] h = tt
  each_sent P (m ∷ ms) h =
      let d = deed_of v number n r sender m in
      all_append P (sent_by d m) (sent_in (deeds ms))
      (one_sent P d m (λ f e. subst (λ q. P (passage_of (deed_of v number n r sender q) f.peer f.session f.frame)) (sym e) (h f (inl e))))
      (each_sent P ms (λ f a. h f (inr a)))

  pub each_handed : (P : Passage → Type 0) (ms : List Move) → ((f : FrameUp) → Among (move.FrameUp f) ms → P (hands f))
      → AllByRecursion P (handed_in (deeds ms))
  unfolding handed_in
  each_handed P [] h = tt
  each_handed P (m ∷ ms) h =
      let d = deed_of v number n r sender m in
      all_append P (handed_by d m) (handed_in (deeds ms))
      (one_handed P d m (λ f e. subst (λ q. P (passage_of (deed_of v number n r sender q) f.peer f.session f.frame)) (sym e) (h f (inl e))))
      (each_handed P ms (λ f a. h f (inr a)))

  abbrev sent : Move → List Passage
  sent m = sent_by (deed_of v number n r sender m) m

  pub sent_among : (ms : List Move) (f : FrameSent) → Among (move.FrameSent f) ms → Among (sends f) (sent_in (deeds ms))
  unfolding sent_in
  sent_among [] f a = absurd a
  sent_among (m ∷ ms) f a = ⊎_elim
      (λ (e : m ≡ move.FrameSent f). among_left (sends f) (sent m) (sent_in (deeds ms)) (subst (λ q. Among (sends f) (sent q)) (sym e) (inl refl)))
      (λ b. among_right (sends f) (sent m) (sent_in (deeds ms)) (sent_among ms f b))
      a
