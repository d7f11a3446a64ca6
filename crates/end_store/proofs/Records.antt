-- Records that are in place, and the book behind them.
use Rattle.std.proofs.Common.{◌≡◌, ℕ, ◌+◌, ◌≤◌, Bool, true, false, cond, List, [], ◌∷◌, ◌++◌, length, Ok, Err, Some, refl, ap, ◌∙◌, arith}
use Rattle.std.specs.Prelude.{Result}
use Rattle.session_book.specs.declared.record.Record.{Record}
use Rattle.session_book.specs.declared.book.BookError.{BookError}
use Rattle.session_book.specs.declared.book.BookError.TheVariants.{BadRecord}
use Rattle.session_book.specs.Books.{Kept, fits, stepped, is_in_place, is_record_in_place, after_record, after_content, book_of}
use Rattle.session_book.specs.Records.{record_of}
use Rattle.session_book.proofs.Steps.{each_content_is_a_step}
use Rattle.end_store.specs.Records.{kept_after, kept_after_all, fitting}

pub after_more : (k : Kept) (xs ys : List Record) → kept_after_all k (xs ++ ys) ≡ kept_after_all (kept_after_all k xs) ys
unfolding kept_after_all
after_more k [] ys = refl
after_more k (x ∷ xs) ys = after_more (kept_after k x) xs ys

more_of : (b : Bool) (k : Kept) (x : Record) (xs ys : List Record) → fitting (stepped k x) (xs ++ ys) ≡ fitting (stepped k x) xs ++ fitting (kept_after_all (stepped k x) xs) ys
    → fitting k (xs ++ ys) ≡ fitting k xs ++ fitting (kept_after_all k xs) ys
    → cond b (x ∷ fitting (stepped k x) (xs ++ ys)) (fitting k (xs ++ ys))
    ≡ cond b (x ∷ fitting (stepped k x) xs) (fitting k xs) ++ fitting (kept_after_all (cond b (stepped k x) k) xs) ys
more_of true k x xs ys one none = ap (λ (l : List Record). x ∷ l) one
more_of false k x xs ys one none = none

pub fitting_more : (k : Kept) (xs ys : List Record) → fitting k (xs ++ ys) ≡ fitting k xs ++ fitting (kept_after_all k xs) ys
unfolding fitting kept_after_all
fitting_more k [] ys = refl
fitting_more k (x ∷ xs) ys = more_of (fits k x) k x xs ys (fitting_more (stepped k x) xs ys) (fitting_more k xs ys)

same_of : (b : Bool) (k : Kept) (x : Record) (xs : List Record) → fits k x ≡ b → kept_after_all (stepped k x) (fitting (stepped k x) xs) ≡ kept_after_all (stepped k x) xs
    → kept_after_all k (fitting k xs) ≡ kept_after_all k xs
    → kept_after_all k (cond b (x ∷ fitting (stepped k x) xs) (fitting k xs)) ≡ kept_after_all (cond b (stepped k x) k) xs
unfolding kept_after_all
same_of true k x xs is one none = ap (λ (t : Bool). kept_after_all (cond t (stepped k x) k) (fitting (stepped k x) xs)) is ∙ one
same_of false k x xs is one none = none

-- those that aren't in place have no part in the book
pub fitting_same : (k : Kept) (xs : List Record) → kept_after_all k (fitting k xs) ≡ kept_after_all k xs
unfolding fitting kept_after_all
fitting_same k [] = refl
fitting_same k (x ∷ xs) = same_of (fits k x) k x xs refl (fitting_same (stepped k x) xs) (fitting_same k xs)

few_of : (b : Bool) (k : Kept) (x : Record) (xs : List Record) → length (fitting (stepped k x) xs) ≤ length xs → length (fitting k xs) ≤ length xs
    → length (cond b (x ∷ fitting (stepped k x) xs) (fitting k xs)) ≤ length xs + 1
few_of true k x xs one none = omega arith
few_of false k x xs one none = omega arith

pub fitting_few : (k : Kept) (xs : List Record) → length (fitting k xs) ≤ length xs
unfolding fitting
fitting_few k [] = omega arith
fitting_few k (x ∷ xs) = let few = few_of (fits k x) k x xs (fitting_few (stepped k x) xs) (fitting_few k xs) in omega arith

-- ---- one record

pub one_fits : (k : Kept) (r : Record) → fits k r ≡ true → fitting k (r ∷ []) ≡ r ∷ []
unfolding fitting
one_fits k r is = ap (λ (b : Bool). cond b (r ∷ []) []) is

pub none_fits : (k : Kept) (r : Record) → fits k r ≡ false → fitting k (r ∷ []) ≡ []
unfolding fitting
none_fits k r is = ap (λ (b : Bool). cond b (r ∷ []) []) is

pub after_one : (k : Kept) (r : Record) → kept_after_all k (r ∷ []) ≡ kept_after k r
unfolding kept_after_all
after_one k r = refl

-- ---- the book of one content more

pub book_more : (contents : List (List ℕ)) (content : List ℕ) (k : Kept) (r : Record) → book_of contents ≡ Ok k → record_of content ≡ Some r
    → fits k r ≡ true → book_of (contents ++ content ∷ []) ≡ Ok (stepped k r)
book_more contents content k r book read fit =
    let place : is_in_place k content ≡ true = ap (is_record_in_place k) read ∙ fit in
    let after : after_content k content ≡ stepped k r =
    ap (λ (b : Bool). cond b (after_record k (record_of content)) k) place ∙ ap (after_record k) read
    in
    let bad : Result Kept BookError = Err (BadRecord (length contents)) in
    each_content_is_a_step contents content k book ∙ ap (λ (b : Bool). cond b (Ok (after_content k content)) bad) place
    ∙ ap (λ (j : Kept). Ok j) after
