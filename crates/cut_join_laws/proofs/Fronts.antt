-- The first records of a step: ceilings; and behind all of these the records of its first moves, and, where the next one takes the answer
-- to a query, of the first calls that end by it.
use Rattle.std.proofs.Common.{◌≡◌, ◌⊎◌, inl, inr, ⊎_elim, ℕ, zero, suc, Bool, true, false, List, [], ◌∷◌, ◌++◌, map, take}
use Rattle.std.proofs.Common.{refl, sym, ap, ◌∙◌, subst, flat_map, append-nil, append_assoc}
use Rattle.std.specs.Prelude.{min, ◌+◌, ◌-◌, ◌*◌, ◌/◌}
use Rattle.std.specs.List.{AllByRecursion}
use Rattle.id_source.specs.Spaces.{Space, counting_from}
use Rattle.session_book.specs.declared.record.Record.{Record}
use Rattle.session_book.specs.declared.record.Record.TheVariants.{Ceiling, TunnelDown, CallDown, Mark}
use Rattle.session_book.specs.Books.{Kept}
use Rattle.end_model.specs.Contents.{ceilings_of, call_down, tunnel_down, mark_by, records_of, contents_of}
use Rattle.end_model.specs.declared.moves.Move.{Move}
use Rattle.end_model.specs.declared.moves.Move.TheVariants as move
use Rattle.end_model.specs.declared.moves.TookAnswer.{TookAnswer}
use Rattle.end_model.specs.End.{End, Stepped}
use Rattle.book_laws.specs.Books.{book_after}
use Rattle.cut_join_laws.proofs.SameLists.{SameLists, IsCeiling, ceilings_leave, ceilings_before}

-- ---- the first of two lists

-- they are of the first one alone, or all of it and the first of the second one
front_of_two : {X : Type 0} (n : ℕ) (xs ys : List X)
    → (take n (xs ++ ys) ≡ take n xs) ⊎ ((m : ℕ) × (take n (xs ++ ys) ≡ xs ++ take m ys))
front_of_two zero xs ys = inl refl
front_of_two n [] ys = inr (n, refl)
front_of_two (suc n) (x ∷ xs) ys = ⊎_elim
    (λ same. inl (ap (λ zs. x ∷ zs) same))
    (λ more. inr (more.0, ap (λ zs. x ∷ zs) more.1))
    (front_of_two n xs ys)

all_front : {X : Type 0} (P : X → Type 0) (n : ℕ) (xs : List X) → AllByRecursion P xs → AllByRecursion P (take n xs)
all_front P zero xs all = tt
all_front P (suc n) [] all = tt
all_front P (suc n) (x ∷ xs) all = (all.0, all_front P n xs all.1)

all_two : {X : Type 0} (P : X → Type 0) (xs ys : List X) → AllByRecursion P xs → AllByRecursion P ys → AllByRecursion P (xs ++ ys)
all_two P [] ys all more = more
all_two P (x ∷ xs) ys all more = (all.0, all_two P xs ys all.1 more)

-- ---- the records of one move

abbrev AllOrNone : List Record → Type 0
AllOrNone rs = (n : ℕ) → (take n rs ≡ []) ⊎ (take n rs ≡ rs)

none : AllOrNone []
none zero = inl refl
none (suc n) = inl refl

one : (r : Record) → AllOrNone (r ∷ [])
one r zero = inl refl
one r (suc zero) = inr refl
one r (suc (suc n)) = inr refl

call_one : (b : Bool) (q : ℕ) → AllOrNone (call_down b q)
call_one true q = one (CallDown q)
call_one false q = none

tunnel_one : (b : Bool) (q : ℕ) → AllOrNone (tunnel_down b q)
tunnel_one true q = one (TunnelDown q)
tunnel_one false q = none

mark_one : (b : Bool) (q m : ℕ) → AllOrNone (mark_by b q m)
mark_one true q m = one (Mark q m)
mark_one false q m = none

-- a move has one record at most, but where it takes an answer
data Has (m : Move) : Type 0 where
  One : AllOrNone (records_of m) → Has m
  Ends : (a : TookAnswer) → m ≡ move.TookAnswer a → Has m

has : (m : Move) → Has m
unfolding records_of
has (move.Connected m) = One (one _)
has (move.Confirmed m) = One (one _)
has (move.FirstUp m) = One (one _)
has (move.SecondUp m) = One (one _)
has (move.EndTold m) = One (call_one m.booked m.session)
has (move.EndHeard m) = One (call_one m.booked m.session)
has (move.EndSilent m) = One (call_one m.booked m.session)
has (move.Closed m) = One (tunnel_one m.booked m.tunnel)
has (move.ClosedBy m) = One (tunnel_one m.booked m.tunnel)
has (move.Cleared i booked) = One (tunnel_one booked i)
has (move.Forgot m) = One (one (TunnelDown m.tunnel))
has (move.Froze m) = One (mark_one m.marked m.tunnel m.asked)
has (move.ResetAttempting m) = One (mark_one m.marked m.tunnel m.draw)
has (move.TookAnswer m) = Ends m refl
has m = One none

pub answer_records : (a : TookAnswer) → records_of (move.TookAnswer a) ≡ map (λ q. CallDown q) a.ended
unfolding records_of
answer_records a = refl

-- ---- the records of moves

abbrev pub of_moves : List Move → List Record
of_moves ms = flat_map (λ m. records_of m) ms

-- records are those of the first moves; or of the first ones, and of some calls that end by the next one
pub data IsFront (ms : List Move) (rs : List Record) : Type 0 where
  Between : (made rest : List Move) → ms ≡ made ++ rest → rs ≡ of_moves made → IsFront ms rs
  Within : (made : List Move) (a : TookAnswer) (rest : List Move) (n : ℕ) → ms ≡ made ++ (move.TookAnswer a ∷ rest)
      → rs ≡ of_moves made ++ take n (map (λ q. CallDown q) a.ended) → IsFront ms rs

-- behind one move more
one_more : (m : Move) (ms : List Move) (rs : List Record) → IsFront ms rs → IsFront (m ∷ ms) (records_of m ++ rs)
one_more m ms rs (Between made rest is are) =
    Between (m ∷ made) rest (ap (λ l. m ∷ l) is) (ap (λ l. records_of m ++ l) are)
one_more m ms rs (Within made a rest n is are) =
    Within (m ∷ made) a rest n (ap (λ l. m ∷ l) is)
    (ap (λ l. records_of m ++ l) are ∙ sym (append_assoc (records_of m) (of_moves made) (take n (map (λ q. CallDown q) a.ended))))

-- some of the records of the first move
some_first : (m : Move) (ms : List Move) (n : ℕ) → Has m → IsFront (m ∷ ms) (take n (records_of m))
some_first m ms n (One each) = ⊎_elim
    (λ off. Between [] (m ∷ ms) refl off)
    (λ all. Between (m ∷ []) ms refl (all ∙ sym (append-nil (records_of m))))
    (each n)
some_first m ms n (Ends a is) =
    Within [] a ms n (ap (λ l. l ∷ ms) is) (ap (λ l. take n (records_of l)) is ∙ ap (take n) (answer_records a))

pub front_of_moves : (n : ℕ) (ms : List Move) → IsFront ms (take n (of_moves ms))
front_of_moves zero [] = Between [] [] refl refl
front_of_moves (suc n) [] = Between [] [] refl refl
front_of_moves n (m ∷ ms) = ⊎_elim
    (λ same. subst (IsFront (m ∷ ms)) (sym same) (some_first m ms n (has m)))
    (λ more. subst (IsFront (m ∷ ms)) (sym more.1) (one_more m ms _ (front_of_moves more.0 ms)))
    (front_of_two n (records_of m) (of_moves ms))

-- ---- the records of a step

all_ceilings : (f : ℕ → Record) → ((k : ℕ) → IsCeiling (f k)) → (ns : List ℕ) → AllByRecursion IsCeiling (map f ns)
all_ceilings f each [] = tt
all_ceilings f each (n ∷ ns) = (each n, all_ceilings f each ns)

ceilings_so : (space : ℕ) (x y : Space) → AllByRecursion IsCeiling (ceilings_of space x y)
ceilings_so space x y =
    all_ceilings (λ k. Ceiling space (min x.last (x.ceiling + 64 * k))) (λ k. tt) (counting_from 1 ((y.ceiling - x.ceiling + 63) / 64))

-- what the first records of a step make of the lists of a book, those of a front of its moves do
pub record IsFrontBook (k j : Kept) (ms : List Move) : Type 0 where
  pub records : List Record
  pub front : IsFront ms records
  pub same : SameLists (book_after k records) j

module _ (k : Kept) (ms : List Move) where
  -- behind ceilings
  behind_ceilings : (cs rs : List Record) → AllByRecursion IsCeiling cs → ((n : ℕ) → IsFrontBook k (book_after k (take n rs)) ms) → (n : ℕ)
      → IsFrontBook k (book_after k (take n (cs ++ rs))) ms
  behind_ceilings cs rs all later n = ⊎_elim
      (λ same. subst (λ l. IsFrontBook k (book_after k l) ms) (sym same)
      (record { records = []; front = Between [] ms refl refl; same = ceilings_leave (take n cs) k (all_front IsCeiling n cs all) }))
      (λ more. subst (λ l. IsFrontBook k (book_after k l) ms) (sym more.1)
      (let f = later more.0 in
      record {
        records = f.records;
        front = f.front;
        same = record {
          tunnels = (ceilings_before cs (take more.0 rs) k all).tunnels ∙ f.same.tunnels;
          calls = (ceilings_before cs (take more.0 rs) k all).calls ∙ f.same.calls;
        };
      }))
      (front_of_two n cs rs)

  of_front : (n : ℕ) → IsFrontBook k (book_after k (take n (of_moves ms))) ms
  of_front n = record { records = take n (of_moves ms); front = front_of_moves n ms; same = record { tunnels = refl; calls = refl } }

pub front_book : (n : ℕ) (e : End) (s : Stepped) (k : Kept) → IsFrontBook k (book_after k (take n (contents_of e s))) s.moves
unfolding contents_of
front_book n e s k =
    behind_ceilings k s.moves (ceilings_of 1 e.tunnel_ids s.end.tunnel_ids) _ (ceilings_so 1 e.tunnel_ids s.end.tunnel_ids)
    (behind_ceilings k s.moves (ceilings_of 2 e.session_ids s.end.session_ids) _ (ceilings_so 2 e.session_ids s.end.session_ids)
    (behind_ceilings k s.moves (ceilings_of 3 e.recovery_ids s.end.recovery_ids) _ (ceilings_so 3 e.recovery_ids s.end.recovery_ids)
    (of_front k s.moves))) n
