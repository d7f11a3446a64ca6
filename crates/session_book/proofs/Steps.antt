-- One content more.
use Rattle.std.proofs.Common.{◌≡◌, ℕ, ◌+◌, Bool, true, false, List, [], ◌∷◌, ◌++◌, length, Result, Ok, Err, if◌then◌else◌, ap, ◌∙◌, arith}
use Rattle.session_book.specs.declared.book.BookError.{BookError}
use Rattle.session_book.specs.declared.book.BookError.TheVariants.{BadRecord}
use Rattle.session_book.specs.Books.{Kept, is_in_place, after_content, folded, one_more, EachContentIsAStep}

step_more : (b : Bool) (x y z : Result Kept BookError) (e : BookError) (j : Kept) → (x ≡ Ok j → y ≡ z) → (if b then x else Err e) ≡ Ok j → (if b then y else Err e) ≡ z
step_more true x y z e j more h = more h
step_more false x y z e j more h = absurd cc

abbrev made : Kept → Result Kept BookError
made k = Ok k

ok_same : (k j : Kept) → made k ≡ Ok j → k ≡ j
ok_same k j h = cc

folded_more : (contents : List (List ℕ)) (content : List ℕ) (k : Kept) (at : ℕ) (j : Kept) → folded k at contents ≡ Ok j → folded k at (contents ++ content ∷ []) ≡ one_more j (at + length contents) content
folded_more [] content k at j h = ap (λ i. one_more i at content) (ok_same k j h) ∙ ap (λ n. one_more j n content) (omega arith)
folded_more (c ∷ cs) content k at j h =
    step_more (is_in_place k c) (folded (after_content k c) (at + 1) cs) (folded (after_content k c) (at + 1) (cs ++ content ∷ [])) _ (BadRecord at) j (λ g. folded_more cs content (after_content k c) (at + 1) j g ∙ ap (λ n. one_more j n content) (omega arith)) h

pub each_content_is_a_step : EachContentIsAStep
each_content_is_a_step contents content k h = folded_more contents content _ 0 k h ∙ ap (λ n. one_more k n content) (omega arith)
